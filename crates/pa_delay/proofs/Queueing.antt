-- Sums of slot sizes, and what goes from the front of a queue.
use Rattle.std.proofs.Common.{◌≡◌, ℕ, ◌+◌, ◌*◌, ◌<◌, ◌≤◌, List, [], ◌∷◌, ◌++◌, length, Option, Some, None, refl, sym, ◌∙◌, ap, ap₂, arith, subst, inl, inr}
use Rattle.std.specs.Prelude.{IfSome, option_to_list, ◌==◌, All, slice_index_or, slice_set}
use Rattle.std.proofs.lemmas.Bool.{cases_Bool, cases_eq, eq-eqb, ne_eqb}
use Rattle.std.proofs.lemmas.List.{length-set, get_or-set_same, get_or-set_other}
use Rattle.std.proofs.lemmas.List.Elements.{All-head, All-tail, All-push}
use Rattle.pa_record.specs.declared.report.Tally.{Tally}
use Rattle.pa_rules.specs.Lists.{no_tally}
use Rattle.pa_buckets.proofs.Facts.{IsRow-of}
use Rattle.pa_cells.specs.declared.handle.Handle.{Handle}
use Rattle.pa_delay.specs.Queue.{AreBytes, QueueList, GoesFirst, AreClassed, AreTallied, IsClassed, queued_bytes, queued_slots, size_of_class, waiting_bytes}

-- the bytes of a queue with one slot more at its back
pub bytes_behind : (xs : List Handle) (s : Handle) → waiting_bytes (xs ++ s ∷ []) ≡ waiting_bytes xs + size_of_class s.class
bytes_behind [] s = omega arith
bytes_behind (x ∷ xs) s = let e = bytes_behind xs s in omega arith

-- the front goes if all have more than the limit
pub front_goes : (q : QueueList) (s : Handle) (rest : List Handle) → q.slots ≡ s ∷ rest → q.limit < waiting_bytes q.slots →
    GoesFirst q rest s
front_goes q s rest whole many gone stays past = record {
  parts = whole ∙ ap (λ zs. s ∷ zs) past.parts;
  fits = past.fits;
  least = least;
}
  where
    least : (front : List Handle) (last : Handle) (n : ℕ) → s ∷ gone ≡ front ++ last ∷ [] → AreBytes (last ∷ stays) n → q.limit < n
    least [] last n e b =
        let one : s ≡ last = cc in
        let none : gone ≡ [] = cc in
        let all : q.slots ≡ last ∷ stays = whole ∙
        (ap (λ zs. s ∷ zs) (past.parts ∙ ap (λ zs. zs ++ stays) none) ∙ ap (λ z. z ∷ stays) one) in
        subst (λ k. q.limit < k) (ap waiting_bytes all ∙ sym b) many
    least (x ∷ front) last n e b = let later : gone ≡ front ++ last ∷ [] = cc in past.least front last n later b

pub some_goes : (q : QueueList) (r : Option Handle) (rest : List Handle) → q.slots ≡ option_to_list r ++ rest →
    q.limit < waiting_bytes q.slots → IfSome r (GoesFirst q rest)
some_goes q None rest whole many = tt
some_goes q (Some s) rest whole many = front_goes q s rest whole many

-- a slot has at most 983,040 bytes
pub size_few : (h : Handle) → IsClassed h → size_of_class h.class ≤ 983040
size_few h (class, is, few) = rw is (IsRow-of class few).greatest_slot

pub bytes_few : (xs : List Handle) → AreClassed xs → waiting_bytes xs ≤ 983040 * length xs
bytes_few [] all = omega arith
bytes_few (x ∷ xs) all =
    let one = size_few x (All-head IsClassed x xs all) in
    let rest = bytes_few xs (All-tail IsClassed x xs all) in
    omega arith

-- ---- what waits of each partition

-- two tallies with the same slots and bytes
same_tally : (t u : Tally) → t.slots ≡ u.slots → t.bytes ≡ u.bytes → t ≡ u
same_tally t u slots bytes = ap₂ (λ (n b : ℕ). record { slots = n; bytes = b }) slots bytes

-- the slots of a partition, with one more at the back
slots_behind : (p : ℕ) (xs : List Handle) (h : Handle) → queued_slots p (xs ++ h ∷ []) ≡ queued_slots p xs + queued_slots p (h ∷ [])
slots_behind p [] h = omega arith
slots_behind p (x ∷ xs) h = let e = slots_behind p xs h in omega arith

bytes_of_behind : (p : ℕ) (xs : List Handle) (h : Handle) →
    queued_bytes p (xs ++ h ∷ []) ≡ queued_bytes p xs + queued_bytes p (h ∷ [])
bytes_of_behind p [] h = omega arith
bytes_of_behind p (x ∷ xs) h = let e = bytes_of_behind p xs h in omega arith

-- a partition has no more of a queue than all have
pub slots_of_all : (p : ℕ) (xs : List Handle) → queued_slots p xs ≤ length xs
slots_of_all p [] = omega arith
slots_of_all p (x ∷ xs) = let few = slots_of_all p xs in elim (cases_Bool (x.partition == p)) [
  | inl same ↦ rw same (omega arith)
  | inr other ↦ rw other (omega arith)
]

pub bytes_of_all : (p : ℕ) (xs : List Handle) → queued_bytes p xs ≤ waiting_bytes xs
bytes_of_all p [] = omega arith
bytes_of_all p (x ∷ xs) = let few = bytes_of_all p xs in elim (cases_Bool (x.partition == p)) [
  | inl same ↦ rw same (omega arith)
  | inr other ↦ rw other (omega arith)
]

pub bytes_of_slots : (p : ℕ) (xs : List Handle) → AreClassed xs → queued_bytes p xs ≤ 983040 * queued_slots p xs
bytes_of_slots p [] all = omega arith
bytes_of_slots p (x ∷ xs) all =
    let one = size_few x (All-head IsClassed x xs all) in
    let rest = bytes_of_slots p xs (All-tail IsClassed x xs all) in elim (cases_Bool (x.partition == p)) [
      | inl same ↦ rw same (omega arith)
      | inr other ↦ rw other (omega arith)
    ]

-- one slot is one of its own partition, and none of the others
one_slot : (h : Handle) → (queued_slots h.partition (h ∷ []) ≡ 1) × (queued_bytes h.partition (h ∷ []) ≡ size_of_class h.class)
one_slot h = rw (eq-eqb h.partition h.partition refl) (refl, omega arith)

no_slot : (p : ℕ) (h : Handle) → (h.partition ≡ p → ⊥) → (queued_slots p (h ∷ []) ≡ 0) × (queued_bytes p (h ∷ []) ≡ 0)
no_slot p h other = rw (ne_eqb h.partition p other) (refl, refl)

-- the tally of a partition's slots in a queue
abbrev pub queued_in : ℕ → List Handle → Tally
queued_in p hs = record { slots = queued_slots p hs; bytes = queued_bytes p hs }

-- the tallies after that of one partition changed with the queue
set_tally : (xs ys : List Handle) (p : ℕ) (tallies : List Tally) (sum : Tally) → p < 4 → AreTallied xs tallies →
    All (λ (h : Handle). h.partition < 4) ys → sum ≡ queued_in p ys →
    ((q : ℕ) → (p ≡ q → ⊥) → queued_in q xs ≡ queued_in q ys) → AreTallied ys (slice_set tallies p sum)
set_tally xs ys p tallies sum low are placed is others = record {
  placed = placed;
  four = length-set tallies p sum ∙ are.four;
  each = λ q small. elim (cases_eq p q) [
    | inl same ↦ subst (λ k. slice_index_or (slice_set tallies p sum) k no_tally ≡ queued_in k ys) same
        (get_or-set_same tallies p sum no_tally (omega (arith, are.four)) ∙ is)
    | inr other ↦
        get_or-set_other tallies p q sum no_tally (λ e. other (sym e)) ∙ are.each q small ∙ others q other
  ];
}

-- a slot came to the back
pub tallied_behind : (xs : List Handle) (h : Handle) (tallies : List Tally) (sum : Tally) → h.partition < 4 → AreTallied xs tallies →
    sum.slots ≡ queued_slots h.partition xs + 1 → sum.bytes ≡ queued_bytes h.partition xs + size_of_class h.class →
    AreTallied (xs ++ h ∷ []) (slice_set tallies h.partition sum)
tallied_behind xs h tallies sum low are slots bytes =
    let p = h.partition in
    let (one, size) = one_slot h in
    set_tally xs (xs ++ h ∷ []) p tallies sum low are (All-push (λ (g : Handle). g.partition < 4) xs h are.placed low)
    (same_tally _ _ (let e = slots_behind p xs h in omega arith) (let e = bytes_of_behind p xs h in omega arith))
    (λ q other.
    let (none, empty) = no_slot q h other in
    same_tally _ _ (let e = slots_behind q xs h in omega arith) (let e = bytes_of_behind q xs h in omega arith))

-- the front is counted
pub front_counted : (h : Handle) (rest : List Handle) (tallies : List Tally) → AreTallied (h ∷ rest) tallies →
    (h.partition < 4) × (1 ≤ (slice_index_or tallies h.partition no_tally).slots)
    × (size_of_class h.class ≤ (slice_index_or tallies h.partition no_tally).bytes)
front_counted h rest tallies are =
    let low = All-head (λ (g : Handle). g.partition < 4) h rest are.placed in
    let is = are.each h.partition low in
    let slots = ap (λ (t : Tally). t.slots) is in
    let bytes = ap (λ (t : Tally). t.bytes) is in
    let (one, size) = one_slot h in
    (low, omega arith, omega arith)

-- and it left
pub tallied_rest : (h : Handle) (rest : List Handle) (tallies : List Tally) (sum : Tally) → AreTallied (h ∷ rest) tallies →
    sum.slots + 1 ≡ (slice_index_or tallies h.partition no_tally).slots →
    sum.bytes + size_of_class h.class ≡ (slice_index_or tallies h.partition no_tally).bytes →
    AreTallied rest (slice_set tallies h.partition sum)
tallied_rest h rest tallies sum are slots bytes =
    let low = All-head (λ (g : Handle). g.partition < 4) h rest are.placed in
    let is = are.each h.partition low in
    let some = ap (λ (t : Tally). t.slots) is in
    let all = ap (λ (t : Tally). t.bytes) is in
    let (one, size) = one_slot h in
    set_tally (h ∷ rest) rest h.partition tallies sum low are (All-tail (λ (g : Handle). g.partition < 4) h rest are.placed)
    (same_tally _ _ (omega arith) (omega arith))
    (λ q other. let (none, empty) = no_slot q h other in same_tally _ _ (omega arith) (omega arith))
