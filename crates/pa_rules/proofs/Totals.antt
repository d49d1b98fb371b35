-- Sums over different slots of how often each is in some lists.
use Rattle.std.proofs.Common.{◌≡◌, ◌≢◌, ℕ, zero, suc, ◌+◌, ◌<◌, ◌≤◌, List, [], ◌∷◌, length, refl, sym, ap, subst, arith, inl, inr}
use Rattle.std.specs.Prelude.{Contains, AllPairs}
use Rattle.std.proofs.lemmas.Bool.{cases_eq}
use Rattle.std.proofs.lemmas.List.{length-map}
use Rattle.pa_slot.specs.declared.word.SlotName.{SlotName}
use Rattle.pa_slot.proofs.Runs.{same_slot_cases, same_slot_yes, same_slot_no}
use Rattle.pa_record.specs.declared.numbered.Numbered.{Numbered}
use Rattle.pa_record.specs.Root.{names}
use Rattle.pa_record.specs.Laws.{times}
use Rattle.pa_lists.proofs.Members.{not_in_none, first_in, later_in, in_cases}
use Rattle.pa_lists.proofs.Joined.{map_cases, map_in}
use Rattle.pa_record.proofs.Leaving.{once_or_not}
use Rattle.pa_rules.specs.Caches.{Caches, listed_slots}
use Rattle.pa_rules.specs.Report.{cached_slots}
use Rattle.pa_rules.specs.Flow.{listed_times, cached_times}
use Rattle.pa_rules.specs.Once.{once}
use Rattle.pa_rules.proofs.Counted.{stands, times_cons}

abbrev pub total : (SlotName → ℕ) → List SlotName → ℕ
total f [] = 0
total f (s ∷ ss) = f s + total f ss

pub total_add : (f g : SlotName → ℕ) (ss : List SlotName) → total (λ s. f s + g s) ss ≡ total f ss + total g ss
total_add f g [] = refl
total_add f g (s ∷ ss) = let ih = total_add f g ss in omega arith

pub total_same : (f g : SlotName → ℕ) (ss : List SlotName) → ((s : SlotName) → Contains ss s → f s ≡ g s) → total f ss ≡ total g ss
total_same f g [] h = refl
total_same f g (s ∷ ss) h =
    let a = h s (first_in s ss) in
    let ih = total_same f g ss (λ t among. h t (later_in s t ss among)) in
    omega arith

pub total_ones : (ss : List SlotName) → total (λ s. 1) ss ≡ length ss
total_ones [] = refl
total_ones (s ∷ ss) = let ih = total_ones ss in omega arith

pub total_none : (ss : List SlotName) → total (λ s. 0) ss ≡ 0
total_none [] = refl
total_none (s ∷ ss) = let ih = total_none ss in omega arith

once_sym : (s t : SlotName) → once s t ≡ once t s
once_sym s t = elim (same_slot_cases s t) [
  | inl e ↦ rw (same_slot_yes s t e, same_slot_yes t s (sym e)) refl
  | inr ne ↦ rw (same_slot_no s t ne, same_slot_no t s (λ e. ne (sym e))) refl
]

total_once : (n : SlotName) (ss : List SlotName) → total (λ s. once s n) ss ≡ times n ss
total_once n [] = refl
total_once n (s ∷ ss) =
    let a = times_cons n s ss in
    let b = once_sym s n in
    let ih = total_once n ss in
    omega arith

pub times_in : (n : SlotName) (ss : List SlotName) → AllPairs ◌≢◌ ss → Contains ss n → times n ss ≡ 1
times_in n ss h among = elim (once_or_not n ss h) [ inl k ↦ k.1 | inr k ↦ absurd (k.0 among) ]

pub times_out : (n : SlotName) (ss : List SlotName) → AllPairs ◌≢◌ ss → (Contains ss n → ⊥) → times n ss ≡ 0
times_out n ss h away = elim (once_or_not n ss h) [ inl k ↦ absurd (away k.0) | inr k ↦ k.1 ]

-- all members of a list are among these slots: then the sum is its length
pub total_times : (ns ss : List SlotName) → AllPairs ◌≢◌ ss → ((n : SlotName) → Contains ns n → Contains ss n) →
    total (λ s. times s ns) ss ≡ length ns
total_times [] ss h inside = total_none ss
total_times (n ∷ ns) ss h inside =
    let a = total_same (λ s. times s (n ∷ ns)) (λ s. once s n + times s ns) ss (λ s among. times_cons s n ns) in
    let b = total_add (λ s. once s n) (λ s. times s ns) ss in
    let c = total_once n ss in
    let d = times_in n ss h (inside n (first_in n ns)) in
    let ih = total_times ns ss h (λ m among. inside m (later_in n m ns among)) in
    omega arith

-- ---- the caches

pub total_listed : (lists : ℕ → List Numbered) (from k : ℕ) (ss : List SlotName) → AllPairs ◌≢◌ ss →
    ((c : ℕ) (m : Numbered) → c < from + k → Contains (lists c) m → Contains ss m.slot)
    → total (λ s. listed_times s lists from k) ss ≡ listed_slots lists from k
unfolding listed_times listed_slots
total_listed lists from zero ss h inside = total_none ss
total_listed lists from (suc k) ss h inside =
    let a = total_add (λ s. stands s (lists from)) (λ s. listed_times s lists (from + 1) k) ss in
    let b = total_times (names (lists from)) ss h (λ n among.
    let (m, member, e) = map_cases (λ (m : Numbered). m.slot) (lists from) n among in
    subst (λ z. Contains ss z) e (inside from m (omega arith) member)) in
    let c = length-map (lists from) (λ (m : Numbered). m.slot) in
    let ih = total_listed lists (from + 1) k ss h (λ c m below. inside c m (omega arith)) in
    omega arith

pub total_cached : (all : Caches) (p threads : ℕ) (ss : List SlotName) → AllPairs ◌≢◌ ss
    → ((t c : ℕ) (m : Numbered) → t < threads → c < 170 → Contains (all t p c) m → Contains ss m.slot)
    → total (λ s. cached_times s all p threads) ss ≡ cached_slots all p threads
total_cached all p zero ss h inside = total_none ss
total_cached all p (suc t) ss h inside =
    let a = total_add (λ s. listed_times s (all t p) 0 170) (λ s. cached_times s all p t) ss in
    let b = total_listed (all t p) 0 170 ss h (λ c m below. inside t c m (omega arith) (omega arith)) in
    let ih = total_cached all p t ss h (λ u c m below. inside u c m (omega arith)) in
    omega arith

pub some_times : (s : SlotName) (ss : List SlotName) → Contains ss s → 1 ≤ times s ss
some_times s [] among = absurd (not_in_none s among)
some_times s (t ∷ ss) among =
    let a = times_cons s t ss in
    elim (in_cases t s ss among) [
      | inl e ↦ let b : once s t ≡ 1 = rw (same_slot_yes s t (sym e)) refl in omega arith
      | inr rest ↦ let ih = some_times s ss rest in omega arith
    ]

pub some_listed : (s : SlotName) (lists : ℕ → List Numbered) (c from k : ℕ) → from ≤ c → c < from + k → 1 ≤ stands s (lists c) →
    1 ≤ listed_times s lists from k
unfolding listed_times
some_listed s lists c from zero low high some = absurd (omega arith)
some_listed s lists c from (suc k) low high some = elim (cases_eq from c) [
  | inl e ↦ let same : stands s (lists from) ≡ stands s (lists c) = ap (λ z. stands s (lists z)) e in omega arith
  | inr other ↦ let ih = some_listed s lists c (from + 1) k (omega arith) (omega arith) some in omega arith
]

-- a slot that is in a list is cached
pub some_cached : (all : Caches) (p threads t c : ℕ) (m : Numbered) → t < threads → c < 170 → Contains (all t p c) m →
    1 ≤ cached_times m.slot all p threads
some_cached all p zero t c m below real among = absurd (omega arith)
some_cached all p (suc u) t c m below real among = elim (cases_eq u t) [
  | inl e ↦
      let here = some_listed m.slot (all t p) c 0 170 (omega arith) (omega arith)
      (some_times m.slot (names (all t p c)) (map_in (λ (n : Numbered). n.slot) (all t p c) m among)) in
      let same : listed_times m.slot (all u p) 0 170 ≡ listed_times m.slot (all t p) 0 170 =
      ap (λ z. listed_times m.slot (all z p) 0 170) e in
      omega arith
  | inr other ↦ let ih = some_cached all p u t c m (omega arith) real among in omega arith
]
