-- Slots that left a root are put into a list, one after the other.
use Rattle.std.proofs.Common.{◌≡◌, ℕ, ◌+◌, ◌*◌, ◌<◌, ◌≤◌, inl, inr, List, [], ◌∷◌, ◌++◌, length, drop, set, get_or, Some, refl, sym, ap, ◌∙◌, subst, arith, add-one, drop-cons, append_assoc, length-set}
use Rattle.std.proofs.Math.Seq.{drop-length}
use Rattle.std.proofs.lemmas.List.{append-nil, length_push, get_or-set_same}
use Rattle.pa_slot.specs.declared.title.Title.{Title}
use Rattle.pa_slot.specs.declared.word.SlotName.{SlotName}
use Rattle.pa_record.specs.declared.numbered.Numbered.{Numbered}
use Rattle.pa_record.specs.declared.report.Tally.{Tally}
use Rattle.pa_player.specs.Player.{Player}
use Rattle.pa_player.specs.declared.table.Slot.{Slot}
use Rattle.pa_player.specs.declared.tallies.Tallies.{Tallies}
use Rattle.pa_player.specs.Changes.{ArePut, cached_more, listed, list_in, tallied_more}
use Rattle.pa_player.specs.Playing.{numbered_at}
use Rattle.pa_player.specs.Tables.{new_slot, IsHome}
use Rattle.pa_rules.specs.Lists.{no_tally}
use Rattle.pa_player.specs.Tallies.{tally_at}

-- The first i titles were put, which gave these numbers: with the rest put, all are.
pub record IsPutSo (q at class : ℕ) (all : List Title) (i : ℕ) (p s : Player) (batch : List Numbered) : Type 0 where
  pub goes_on : (r : Player) (xs : List Numbered) → ArePut q at class (drop i all) s r xs → ArePut q at class all p r (batch ++ xs)
  pub count : length batch ≡ i
  pub at_list : at < length s.caches
  pub list : length (list_in s at) ≡ i
  pub tally : q < length s.cached.of
  pub told : s.told ≡ p.told
  pub table : length s.table ≤ length p.table + i
  pub slots : (tally_at s.cached.of q).slots ≤ (tally_at p.cached.of q).slots + i
  pub bytes : (tally_at s.cached.of q).bytes ≤ (tally_at p.cached.of q).bytes + 4294967296 * i

-- one slot more
abbrev pub put_one : ℕ → ℕ → Title → List Slot → ℕ → Player → Player
put_one q at t after place s = cached_more q t.len (listed at (list_in s at ++ place ∷ []) (record s { table = after }))

home_few : (before after : List Slot) (x : Slot) (place : ℕ) → IsHome before after x place → length after ≤ length before + 1
home_few before after x place (inl (same, low, named)) = omega (arith, ap length same)
home_few before after x place (inr (more, at_end, none)) = omega (arith, ap length more, length_push before x)

pub put_more : (q at class : ℕ) (all : List Title) (i : ℕ) (p s : Player) (batch : List Numbered) (t : Title) (after : List Slot)
    (place : ℕ) →
    IsPutSo q at class all i p s batch → drop i all ≡ t ∷ drop (i + 1) all → t.len < 4294967296 →
    IsHome s.table after (new_slot t q (Some class)) place →
    IsPutSo q at class all (i + 1) p (put_one q at t after place s) (batch ++ numbered_at after place ∷ [])
put_more q at class all i p s batch t after place h e len home =
    let u = tally_at s.cached.of q in
    let v : Tally = record { slots = u.slots + 1; bytes = u.bytes + t.len } in
    let held = get_or-set_same s.cached.of q v no_tally h.tally in
    let n1 = ap (λ (z : Tally). z.slots) held in
    let n2 = ap (λ (z : Tally). z.bytes) held in
    let list = get_or-set_same s.caches at (list_in s at ++ place ∷ []) [] h.at_list in
    let n3 = ap length list in
    let n4 = length_push (list_in s at) place in
    let n5 = length-set s.caches at (list_in s at ++ place ∷ []) in
    let n6 = length-set s.cached.of q v in
    let n7 = home_few s.table after (new_slot t q (Some class)) place home in
    let n8 = length_push batch (numbered_at after place) in record {
      goes_on = λ r xs rest.
          let whole : ArePut q at class (drop i all) s r (numbered_at after place ∷ xs) =
          subst (λ z. ArePut q at class z s r (numbered_at after place ∷ xs)) (sym e) (after, place, xs, home, refl, rest) in
          subst (ArePut q at class all p r) (sym (append_assoc batch (numbered_at after place ∷ []) xs))
          (h.goes_on r (numbered_at after place ∷ xs) whole);
      count = let k = h.count in omega arith;
      at_list = let k = h.at_list in omega arith;
      list = let k = h.list in omega arith;
      tally = let k = h.tally in omega arith;
      told = h.told;
      table = let k = h.table in omega arith;
      slots = let k = h.slots in omega arith;
      bytes = let k = h.bytes in omega arith;
    }

pub put_end : (q at class : ℕ) (all : List Title) (n : ℕ) (p s : Player) (batch : List Numbered) → n ≡ length all →
    IsPutSo q at class all n p s batch →
    ArePut q at class all p s batch
put_end q at class all n p s batch e h =
    let none : drop n all ≡ [] = ap (λ z. drop z all) e ∙ drop-length all in
    subst (ArePut q at class all p s) (append-nil batch) (h.goes_on s [] (subst (λ z. ArePut q at class z s s []) (sym none) (refl, refl)))

-- the player after one slot more
pub put_is : (q at place : ℕ) (t : Title) (after : List Slot) (s : Player) (lists : List (List ℕ)) (cached : Tallies) →
    lists ≡ set s.caches at (list_in s at ++ place ∷ [])
    → cached.of ≡ tallied_more q 1 t.len s.cached.of →
    record s { table = after; caches = lists; cached = cached } ≡ put_one q at t after place s
put_is q at place t after s lists cached a b =
    ap (λ (z : List (List ℕ)). record s { table = after; caches = z; cached = cached }) a
    ∙ ap (λ (z : List Tally). record s { table = after; caches = set s.caches at (list_in s at ++ place ∷ []); cached = record { of = z } })
    b

pub numbered_is : (slots : List Slot) (i : ℕ) (n : Numbered) → n.slot ≡ (numbered_at slots i).slot →
    n.number ≡ (numbered_at slots i).number → n ≡ numbered_at slots i
numbered_is slots i n a b =
    let f : SlotName → ℕ → Numbered = λ s k. record { slot = s; number = k } in
    ap (λ s. f s n.number) a ∙ ap (f (numbered_at slots i).slot) b

pub drop_next : {X : Type 0} (xs : List X) (i : ℕ) (d : X) → i < length xs → drop i xs ≡ get_or xs i d ∷ drop (i + 1) xs
drop_next xs i d h = rw (add-one, drop-cons xs i d) refl
