-- What an allocation asks of the slot that it issues: the front of a list, also of one that was filled first, and a direct map.
use Rattle.std.proofs.Common.{◌≡◌, ℕ, suc, ◌+◌, ◌*◌, ◌<◌, ◌≤◌, ◌^◌, List, [], ◌∷◌, ◌++◌, length, length-set, set, get_or, Option, Some, None, refl, sym, ap, ◌∙◌, subst, arith, inl, inr}
use Rattle.std.specs.Prelude.{Contains}
use Rattle.std.proofs.lemmas.Bool.{cases_lt, eq-eqb}
use Rattle.std.proofs.lemmas.List.{get_or-set_same, get_or_append_left, get_or_push, length_push}
use Rattle.std.proofs.lemmas.List.Elements.{Contains-push_cases}
use Rattle.pa_slot.specs.declared.title.Title.{Title}
use Rattle.pa_slot.specs.declared.word.Step.TheVariants as steps
use Rattle.pa_slot.specs.Count.{CanStep}
use Rattle.pa_buckets.specs.Table.{slot_of}
use Rattle.pa_buckets.proofs.Facts.{IsRow-of}
use Rattle.pa_record.specs.declared.numbered.Numbered.{Numbered}
use Rattle.pa_record.specs.Pool.{PoolState}
use Rattle.pa_record.specs.Root.{Root}
use Rattle.pa_record.specs.Spans.{name_of}
use Rattle.pa_lists.proofs.Members.{first_in, later_in}
use Rattle.pa_player.specs.declared.table.Slot.{Slot}
use Rattle.pa_player.specs.Player.{Player}
use Rattle.pa_player.specs.Tables.{no_slot, slot_at, named_at, new_slot, IsHome}
use Rattle.pa_player.specs.Tallies.{tally_at}
use Rattle.pa_player.specs.Changes.{list_in, listed, cached_more, placed_in, asked_in, ArePut}
use Rattle.pa_player.specs.Asks.{CanIssueFront}
use Rattle.pa_player.proofs.Slots.{keeps_named, keeps_push}
use Rattle.pa_player.proofs.Counting.{tally_more}

-- a slot that was never issued can be
pub issue_new : CanStep steps.Issue 0
issue_new = ((refl, refl), omega arith, tt)

-- a slot of the class can be issued
pub record IsIssuable (slots : List Slot) (q class i : ℕ) : Type 0 where
  pub inside : i < length slots
  pub step : CanStep steps.Issue (slot_at slots i).word.0
  pub len : (slot_at slots i).title.len ≡ slot_of class
  pub home : (slot_at slots i).partition ≡ q

-- the slots of a list can be issued, and are counted
pub record IsFillable (thread q class at : ℕ) (s : Player) : Type 0 where
  pub threads : thread < length s.registers
  pub slots : (tally_at s.live.of q).slots < 2 ^ 31
  pub bytes : (tally_at s.live.of q).bytes < 2 ^ 62
  pub room : at < length s.caches
  pub tallies : q < length s.cached.of
  pub each : (i : ℕ) → Contains (list_in s at) i → IsIssuable s.table q class i
  pub many : length (list_in s at) ≤ (tally_at s.cached.of q).slots
  pub size : slot_of class * length (list_in s at) ≤ (tally_at s.cached.of q).bytes

pub front_issued : (thread reg q class at : ℕ) (s : Player) → reg < 64 → q < 4 → class < 170 → IsFillable thread q class at s →
    CanIssueFront thread reg q at s
front_issued thread reg q class at s regs four real h = record {
  four = four;
  issue = λ i rest is.
      let one = h.each i (subst (λ zs. Contains zs i) (sym is) (first_in i rest)) in
      let T : ℕ → Type 0 = λ k. ((tally_at s.live.of k).slots < 2 ^ 31) × ((tally_at s.live.of k).bytes < 2 ^ 62) in
      let few = subst T (sym one.home) (h.slots, h.bytes) in
      record {
        threads = h.threads;
        regs = regs;
        place = one.inside;
        step = one.step;
        long = omega (arith, one.len, (IsRow-of class real).least_slot);
        four = omega (arith, one.home, four);
        slots = few.0;
        bytes = few.1;
      };
  slots = λ i rest is. omega (arith, ap length is, h.many);
  bytes = λ i rest is.
      let one = h.each i (subst (λ zs. Contains zs i) (sym is) (first_in i rest)) in
      let product : slot_of class * length (list_in s at) ≡ slot_of class * suc (length rest) = ap (λ zs. slot_of class * length zs) is in
      omega (arith, one.len, product, h.size);
}

-- ---- a list that is filled

-- a slot that is in the table stays as it is
home_slot : (before after : List Slot) (new : Slot) (place i : ℕ) → IsHome before after new place → i < length before →
    slot_at after i ≡ slot_at before i
home_slot before after new place i (inl h) low = ap (λ zs. slot_at zs i) h.0
home_slot before after new place i (inr h) low = ap (λ zs. slot_at zs i) h.0 ∙ get_or_append_left before (new ∷ []) no_slot i low

home_longer : (before after : List Slot) (new : Slot) (place : ℕ) → IsHome before after new place → length before ≤ length after
home_longer before after new place (inl h) = omega (arith, ap length h.0)
home_longer before after new place (inr h) = omega (arith, ap length h.0, length_push before new)

-- what the table says of a title that can be put into the list
abbrev IsFine : List Slot → ℕ → ℕ → Title → Type 0
IsFine slots q class t = (t.len ≡ slot_of class) × ((i : ℕ) → i < length slots → named_at slots i ≡ name_of t → IsIssuable slots q class i)

issuable_same : (before after : List Slot) (q class i : ℕ) → slot_at after i ≡ slot_at before i → length before ≤ length after →
    IsIssuable before q class i → IsIssuable after q class i
issuable_same before after q class i same longer h = record {
  inside = omega (arith, longer, h.inside);
  step = subst (λ (x : Slot). CanStep steps.Issue x.word.0) (sym same) h.step;
  len = ap (λ (x : Slot). x.title.len) same ∙ h.len;
  home = ap (λ (x : Slot). x.partition) same ∙ h.home;
}

-- a slot that comes after the others is new
issuable_new : (before : List Slot) (t : Title) (q class : ℕ) → t.len ≡ slot_of class →
    IsIssuable (before ++ new_slot t q (Some class) ∷ []) q class (length before)
issuable_new before t q class len =
    let new = new_slot t q (Some class) in
    let here : slot_at (before ++ new ∷ []) (length before) ≡ new = get_or_push before new no_slot (length before) refl in
    record {
      inside = omega (arith, length_push before new);
      step = subst (λ (x : Slot). CanStep steps.Issue x.word.0) (sym here) issue_new;
      len = ap (λ (x : Slot). x.title.len) here ∙ len;
      home = ap (λ (x : Slot). x.partition) here;
    }

-- the place of a title
issuable_home : (before after : List Slot) (t : Title) (q class place : ℕ) → IsFine before q class t →
    IsHome before after (new_slot t q (Some class)) place → IsIssuable after q class place
issuable_home before after t q class place fine (inl h) = subst (λ zs. IsIssuable zs q class place) (sym h.0) (fine.1 place h.1 h.2)
issuable_home before after t q class place fine (inr h) =
    let P : List Slot → ℕ → Type 0 = λ zs k. IsIssuable zs q class k in
    subst (λ k. P after k) (sym h.1) (subst (λ zs. P zs (length before)) (sym h.0) (issuable_new before t q class fine.0))

-- the titles that come after one are still fine once that one is in the table
fine_home : (before after : List Slot) (t u : Title) (q class place : ℕ) → IsFine before q class t → IsFine before q class u →
    IsHome before after (new_slot t q (Some class)) place
    → IsFine after q class u
fine_home before after t u q class place fine h (inl e) = subst (λ zs. IsFine zs q class u) (sym e.0) h
fine_home before after t u q class place fine h (inr e) =
    let new = new_slot t q (Some class) in
    let P : List Slot → Type 0 = λ zs. IsFine zs q class u in
    let then' : P (before ++ new ∷ []) = (
      h.0,
      λ i low is. elim (cases_lt i (length before)) [
        | inl old ↦
            issuable_same before (before ++ new ∷ []) q class i (get_or_append_left before (new ∷ []) no_slot i old)
            (omega (arith, length_push before new))
            (h.1 i old (sym (keeps_named before (before ++ new ∷ []) i (keeps_push before new) old) ∙ is))
        | inr past ↦
            let last : length before ≡ i = omega (arith, past, low, length_push before new) in
            subst (λ k. IsIssuable (before ++ new ∷ []) q class k) last (issuable_new before t q class fine.0)
      ],
    ) in
    subst P (sym e.0) then'

fillable_more : (thread q class at : ℕ) (s : Player) (t : Title) (after : List Slot) (place : ℕ) → IsFine s.table q class t →
    IsHome s.table after (new_slot t q (Some class)) place
    → IsFillable thread q class at s →
    IsFillable thread q class at (cached_more q t.len (listed at (list_in s at ++ place ∷ []) (record s { table = after })))
fillable_more thread q class at s t after place fine home h =
    let new = new_slot t q (Some class) in
    let here : get_or (set s.caches at (list_in s at ++ place ∷ [])) at [] ≡ list_in s at ++
    place ∷ [] = get_or-set_same s.caches at (list_in s at ++ place ∷ []) [] h.room in
    let count : length (get_or (set s.caches at (list_in s at ++ place ∷ [])) at []) ≡ length (list_in s at) + 1 = ap length here ∙
    length_push (list_in s at) place in
    let more = tally_more q 1 t.len q s.cached.of h.tallies in
    let slots = rw (eq-eqb q q refl) at more.slots in
    let bytes = rw (eq-eqb q q refl) at more.bytes in
    let product : slot_of class * length
    (get_or (set s.caches at (list_in s at ++ place ∷ [])) at []) ≡ slot_of class * (length (list_in s at) + 1) =
    ap (λ n. slot_of class * n) count in
    record {
      threads = h.threads;
      slots = h.slots;
      bytes = h.bytes;
      room = omega (arith, h.room, length-set s.caches at (list_in s at ++ place ∷ []));
      tallies = omega (
        arith,
        h.tallies,
        length-set s.cached.of q (record { slots = (tally_at s.cached.of q).slots + 1; bytes = (tally_at s.cached.of q).bytes + t.len }),
      );
      each = λ i among. elim (Contains-push_cases (list_in s at) place i (subst (λ zs. Contains zs i) here among)) [
        | inl old ↦
            let one = h.each i old in
            issuable_same s.table after q class i (home_slot s.table after new place i home one.inside)
            (home_longer s.table after new place home) one
        | inr last ↦ subst (λ k. IsIssuable after q class k) last (issuable_home s.table after t q class place fine home)
      ];
      many = omega (arith, count, slots, h.many);
      size = omega (arith, product, bytes, h.size, fine.0);
    }

-- a list that is fillable still is after slots were put into it
pub fillable_put : (thread q class at : ℕ) (ts : List Title) (s r : Player) (xs : List Numbered) → IsFillable thread q class at s →
    ((t : Title) → Contains ts t → IsFine s.table q class t)
    → ArePut q at class ts s r xs → IsFillable thread q class at r
fillable_put thread q class at [] s r xs h fine put = subst (IsFillable thread q class at) (sym put.0) h
fillable_put thread q class at (t ∷ ts) s r xs h fine (after, place, rest, home, is, put) =
    let first = fine t (first_in t ts) in
    fillable_put thread q class at ts (cached_more q t.len (listed at (list_in s at ++ place ∷ []) (record s { table = after }))) r rest
    (fillable_more thread q class at s t after place first home h)
    (λ u among. fine_home s.table after t u q class place first (fine u (later_in t u ts among)) home)
    put

-- if the call asked the pool
pub fillable_asked : (thread q class at : ℕ) (s : Player) (after : Root) (plan : PoolState) (titles : List Title) (asked : Option ℕ) →
    IsFillable thread q class at s
    → IsFillable thread q class at (asked_in q 1 titles asked (placed_in q after plan s))
fillable_asked thread q class at s after plan titles None h = record {
  threads = h.threads;
  slots = h.slots;
  bytes = h.bytes;
  room = h.room;
  tallies = h.tallies;
  each = h.each;
  many = h.many;
  size = h.size;
}
fillable_asked thread q class at s after plan titles (Some entry) h = record {
  threads = h.threads;
  slots = h.slots;
  bytes = h.bytes;
  room = h.room;
  tallies = h.tallies;
  each = h.each;
  many = h.many;
  size = h.size;
}

pub table_asked : (q : ℕ) (s : Player) (after : Root) (plan : PoolState) (titles : List Title) (asked : Option ℕ) →
    (asked_in q 1 titles asked (placed_in q after plan s)).table ≡ s.table
table_asked q s after plan titles None = refl
table_asked q s after plan titles (Some entry) = refl
