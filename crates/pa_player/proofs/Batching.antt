-- The slots of a list go back in batches of at most 16.
use Rattle.std.proofs.Common.{◌≡◌, ℕ, ◌+◌, ◌-◌, ◌<◌, ◌≤◌, min, inl, inr, List, [], ◌∷◌, ◌++◌, map, set, length, take, drop, refl, sym, ap, ◌∙◌, subst, arith}
use Rattle.std.specs.Prelude.{slice_range}
use Rattle.std.proofs.Math.ListN.{drop_of_length-le}
use Rattle.std.proofs.lemmas.Bool.{cases_lt}
use Rattle.std.proofs.lemmas.List.{length-take, length-drop, length-map}
use Rattle.std.proofs.lemmas.List.Folds.{drop_split}
use Rattle.pa_record.specs.declared.report.Tally.{Tally}
use Rattle.pa_record.specs.declared.root.RootAct.{RootAct}
use Rattle.pa_record.specs.declared.root.RootAct.TheVariants.{Give}
use Rattle.pa_record.specs.Root.{Root, names, all_returned}
use Rattle.pa_record.specs.Spans.{name_of}
use Rattle.pa_rules.specs.Caches.{gives}
use Rattle.pa_heap_effects.specs.Deeds.{entries_at}
use Rattle.pa_player.specs.Player.{Player}
use Rattle.pa_player.specs.declared.table.Slot.{Slot}
use Rattle.pa_player.specs.declared.tallies.Tallies.{Tallies}
use Rattle.pa_player.specs.Asks.{CanGive}
use Rattle.pa_player.specs.Changes.{gave_back, given, listed, list_in, bytes_at, tallied_less}
use Rattle.pa_player.specs.Playing.{numbered_at, root_of}
use Rattle.pa_player.specs.Tables.{slot_at, named_at}
use Rattle.pa_player.specs.Told.{Lists, journal_in, with_act}
use Rattle.pa_player.proofs.Giving.{IsBatch, gives_one, gave_none, gave_parts, gave_tally, can_front, can_rest}

-- ---- one batch

-- the names of the titles in some places
pub titles_named : (slots : List Slot) (xs : List ℕ) →
    map name_of (map (λ (i : ℕ). (slot_at slots i).title) xs) ≡ names (map (numbered_at slots) xs)
titles_named slots [] = refl
titles_named slots (x ∷ xs) = ap (λ z. named_at slots x ∷ z) (titles_named slots xs)

-- the player after a batch went back
pub batch_given : (q : ℕ) (xs : List ℕ) (p : Player) (roots : List Root) (told : Lists) (cached : Tallies) → 1 ≤ length xs → length xs ≤ 16
    → roots ≡ set p.heap.roots q (all_returned (names (map (numbered_at p.table) xs)) (root_of p q))
    → told ≡ with_act q (record { line = p.told.line; act = Give (map (numbered_at p.table) xs) }) p.told
    → cached.of ≡ tallied_less q (length xs) (bytes_at p.table xs) p.cached.of
    → record p { heap = record p.heap { roots = roots }; told = told; cached = cached } ≡ gave_back q xs p
batch_given q xs p roots told cached some few a b c =
    let num = numbered_at p.table in
    let n = length-map xs num in
    let acts : gives (map num xs) ≡ Give (map num xs) ∷ [] = gives_one (map num xs) (omega arith) (omega arith) in
    let of_roots : List Root → Player = λ z. record p { heap = record p.heap { roots = z }; told = told; cached = cached } in
    let r = set p.heap.roots q (all_returned (names (map num xs)) (root_of p q)) in
    let of_told : Lists → Player = λ z. record p { heap = record p.heap { roots = r }; told = z; cached = cached } in
    let t : List RootAct → Lists =
    λ z. record p.told { journals = set p.told.journals q (journal_in p.told q ++ entries_at p.told.line z) } in
    let of_cached : List Tally →
    Player = λ z. record p { heap = record p.heap { roots = r }; told = t (gives (map num xs)); cached = record { of = z } } in
    ap of_roots a ∙ ap of_told (b ∙ sym (ap t acts)) ∙ ap of_cached c

-- ---- one after the other

-- The slots up to a place of the list went back: with the rest, all that don't stay do.
pub record IsGivenSo (q at keep from : ℕ) (p s : Player) : Type 0 where
  pub list : list_in s at ≡ list_in p at
  pub rest : gave_back q (drop from (list_in p at)) s ≡ gave_back q (drop keep (list_in p at)) p
  pub can : CanGive q (drop from (list_in p at)) s
  pub tally : q < length s.cached.of
  pub listed : at < length s.caches

-- the next batch may go back
pub batch_ready : (q at keep from to : ℕ) (p s : Player) → IsGivenSo q at keep from p s → from ≤ to →
    CanGive q (slice_range (list_in s at) from to) s
batch_ready q at keep from to p s h order =
    let e : drop from (list_in p at) ≡ slice_range (list_in s at) from to ++ drop to (list_in s at) = ap (drop from) (sym h.list) ∙
    drop_split (list_in s at) from to order in
    can_front q (slice_range (list_in s at) from to) (drop to (list_in s at)) s (subst (λ z. CanGive q z s) e h.can)

is_batch : (xs : List ℕ) (from to : ℕ) → from < to → to ≡ min (length xs) (from + 16) → IsBatch (slice_range xs from to) (drop to xs)
is_batch xs from to some e =
    let a = length-take (to - from) (drop from xs) in
    let b = length-drop from xs in (
      omega arith,
      omega arith,
      elim (cases_lt to (length xs)) [ inl full ↦ inl (omega (arith, full)) | inr past ↦ inr (drop_of_length-le xs past) ],
    )

pub give_more : (q at keep from to : ℕ) (p s r : Player) → IsGivenSo q at keep from p s → from < to →
    to ≡ min (length (list_in p at)) (from + 16)
    → r ≡ gave_back q (slice_range (list_in s at) from to) s → IsGivenSo q at keep to p r
give_more q at keep from to p s r h some e is =
    let xs = slice_range (list_in s at) from to in
    let ys = drop to (list_in s at) in
    let parts : drop from (list_in p at) ≡ xs ++ ys = ap (drop from) (sym h.list) ∙ drop_split (list_in s at) from to (omega arith) in
    let can : CanGive q (xs ++ ys) s = subst (λ z. CanGive q z s) parts h.can in
    let same : ys ≡ drop to (list_in p at) = ap (drop to) h.list in
    let batch = is_batch (list_in s at) from to some (omega (arith, e, ap length h.list)) in
    let both : gave_back q (xs ++ ys) s ≡ gave_back q ys (gave_back q xs s) = gave_parts q xs ys s batch can.root can.journal h.tally in
    let tally : q < length (gave_back q xs s).cached.of = gave_tally q xs s h.tally in
    let next : IsGivenSo q at keep to p (gave_back q xs s) = record {
      list = h.list;
      rest = ap (λ z. gave_back q z (gave_back q xs s)) (sym same) ∙ sym both ∙ ap (λ z. gave_back q z s) (sym parts) ∙ h.rest;
      can = subst (λ z. CanGive q z (gave_back q xs s)) same (can_rest q xs ys s h.tally can);
      tally = tally;
      listed = h.listed;
    } in
    subst (IsGivenSo q at keep to p) (sym is) next

pub give_end : (q at keep from : ℕ) (p s : Player) → IsGivenSo q at keep from p s → length (list_in p at) ≤ from →
    listed at (take keep (list_in s at)) s ≡ given q at keep p
give_end q at keep from p s h past =
    let none : drop from (list_in p at) ≡ [] = drop_of_length-le (list_in p at) past in
    let e : s ≡ gave_back q (drop keep (list_in p at)) p = sym (gave_none q s) ∙ ap (λ z. gave_back q z s) (sym none) ∙ h.rest in
    ap (λ z. listed at (take keep (list_in s at)) z) e ∙ ap (λ z. listed at (take keep z) (gave_back q (drop keep (list_in p at)) p)) h.list
