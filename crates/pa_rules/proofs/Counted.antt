-- How often a slot is in lists of numbered slots, in a thread's lists and in those of all threads.
use Rattle.std.proofs.Common.{◌≡◌, ℕ, zero, suc, ◌+◌, ◌<◌, ◌≤◌, cond, List, [], ◌∷◌, ◌++◌, take, drop, length, refl, sym, ◌∙◌, ap, arith, inl, inr}
use Rattle.std.specs.Prelude.{nat_lt}
use Rattle.std.proofs.lemmas.Bool.{cases_Bool, cases_eq, eq-eqb, ne_eqb}
use Rattle.std.proofs.lemmas.List.{take-append-drop, length-drop}
use Rattle.std.proofs.lemmas.List.Sums.{sum_by-cons}
use Rattle.pa_slot.specs.declared.word.SlotName.{SlotName}
use Rattle.pa_slot.specs.Run.{same_slot}
use Rattle.pa_buckets.specs.Bands.{limit_of}
use Rattle.pa_record.specs.declared.numbered.Numbered.{Numbered}
use Rattle.pa_record.specs.declared.root.RootAct.{RootAct}
use Rattle.pa_record.specs.Root.{names}
use Rattle.pa_record.specs.Laws.{times}
use Rattle.pa_rules.specs.Caches.{Cache, Caches, with_list, with_cache, batches, gives, kept, spilled, purge_acts}
use Rattle.pa_rules.specs.Flow.{listed_times, cached_times, left_in, back_in}
use Rattle.pa_rules.specs.Once.{once}

abbrev pub stands : SlotName → List Numbered → ℕ
stands s xs = times s (names xs)

pub times_cons : (s t : SlotName) (ts : List SlotName) → times s (t ∷ ts) ≡ once s t + times s ts
times_cons s t ts = sum_by-cons (λ y. cond (same_slot s y) 1 0) t ts

pub stands_append : (s : SlotName) (xs ys : List Numbered) → stands s (xs ++ ys) ≡ stands s xs + stands s ys
stands_append s [] ys = omega arith
stands_append s (x ∷ xs) ys =
    let a = times_cons s x.slot (names (xs ++ ys)) in
    let b = times_cons s x.slot (names xs) in
    let ih = stands_append s xs ys in
    omega arith

pub stands_split : (s : SlotName) (k : ℕ) (xs : List Numbered) → stands s (take k xs) + stands s (drop k xs) ≡ stands s xs
stands_split s k xs = sym (stands_append s (take k xs) (drop k xs)) ∙ ap (stands s) (take-append-drop k xs)

-- what stays of a list and what doesn't are the list
pub stands_kept : (s : SlotName) (class : ℕ) (xs : List Numbered) → stands s (kept class xs) + stands s (spilled class xs) ≡ stands s xs
stands_kept s class xs = elim (cases_Bool (nat_lt (limit_of class) (length xs))) [
  | inl over ↦ rw over (stands_split s _ xs)
  | inr within ↦ rw within (omega arith)
]

-- entries of two lists
pub back_append : (s : SlotName) (a b : List RootAct) → back_in s (a ++ b) ≡ back_in s a + back_in s b
back_append s [] b = omega arith
back_append s (x ∷ a) b = let ih = back_append s a b in omega arith

pub left_append : (s : SlotName) (a b : List RootAct) → left_in s (a ++ b) ≡ left_in s a + left_in s b
left_append s [] b = omega arith
left_append s (x ∷ a) b = let ih = left_append s a b in omega arith

-- batches give back what they are of, and take nothing out
back_batches : (s : SlotName) (n : ℕ) (xs : List Numbered) → length xs ≤ n → back_in s (batches n xs) ≡ stands s xs
back_batches s zero [] few = refl
back_batches s zero (x ∷ xs) few = absurd (omega arith)
back_batches s (suc n) [] few = refl
back_batches s (suc n) (x ∷ xs) few =
    let e = length-drop 16 (x ∷ xs) in
    let ih = back_batches s n (drop 16 (x ∷ xs)) (omega arith) in
    let split = stands_split s 16 (x ∷ xs) in
    omega arith

left_batches : (s : SlotName) (n : ℕ) (xs : List Numbered) → left_in s (batches n xs) ≡ 0
left_batches s zero xs = refl
left_batches s (suc n) [] = refl
left_batches s (suc n) (x ∷ xs) = let ih = left_batches s n (drop 16 (x ∷ xs)) in omega arith

pub back_gives : (s : SlotName) (xs : List Numbered) → back_in s (gives xs) ≡ stands s xs
back_gives s xs = back_batches s (length xs) xs (omega arith)

pub left_gives : (s : SlotName) (xs : List Numbered) → left_in s (gives xs) ≡ 0
left_gives s xs = left_batches s (length xs) xs

pub back_purge : (s : SlotName) (lists : ℕ → List Numbered) (class n : ℕ) →
    back_in s (purge_acts lists class n) ≡ listed_times s lists class n
unfolding listed_times
back_purge s lists class zero = refl
back_purge s lists class (suc n) =
    let a = back_append s (gives (lists class)) (purge_acts lists (class + 1) n) in
    let b = back_gives s (lists class) in
    let ih = back_purge s lists (class + 1) n in
    omega arith

pub left_purge : (s : SlotName) (lists : ℕ → List Numbered) (class n : ℕ) → left_in s (purge_acts lists class n) ≡ 0
left_purge s lists class zero = refl
left_purge s lists class (suc n) =
    let a = left_append s (gives (lists class)) (purge_acts lists (class + 1) n) in
    let b = left_gives s (lists class) in
    let ih = left_purge s lists (class + 1) n in
    omega arith

-- lists that agree from a class on
pub listed_agree : (s : SlotName) (f g : ℕ → List Numbered) (from n : ℕ) → ((c : ℕ) → from ≤ c → f c ≡ g c) →
    listed_times s f from n ≡ listed_times s g from n
unfolding listed_times
listed_agree s f g from zero same = refl
listed_agree s f g from (suc n) same =
    let here : stands s (f from) ≡ stands s (g from) = ap (stands s) (same from (omega arith)) in
    let ih = listed_agree s f g (from + 1) n (λ c more. same c (omega arith)) in
    omega arith

-- lists that agree but at one class
pub listed_but_one : (s : SlotName) (f g : ℕ → List Numbered) (k from n : ℕ) → from ≤ k → k < from + n →
    ((c : ℕ) → (c ≡ k → ⊥) → f c ≡ g c) →
    listed_times s f from n + stands s (g k) ≡ listed_times s g from n + stands s (f k)
unfolding listed_times
listed_but_one s f g k from zero low high same = absurd (omega arith)
listed_but_one s f g k from (suc n) low high same = elim (cases_eq from k) [
  | inl e ↦
      let rest = listed_agree s f g (from + 1) n (λ c more. same c (λ here. omega arith)) in
      let a : stands s (f from) ≡ stands s (f k) = ap (λ c. stands s (f c)) e in
      let b : stands s (g from) ≡ stands s (g k) = ap (λ c. stands s (g c)) e in
      omega arith
  | inr other ↦
      let ih = listed_but_one s f g k (from + 1) n (omega arith) (omega arith) same in
      let a : stands s (f from) ≡ stands s (g from) = ap (stands s) (same from other) in
      omega arith
]

pub listed_none : (s : SlotName) (f : ℕ → List Numbered) (from n : ℕ) → ((c : ℕ) → f c ≡ []) → listed_times s f from n ≡ 0
unfolding listed_times
listed_none s f from zero none = refl
listed_none s f from (suc n) none =
    let here : stands s (f from) ≡ 0 = ap (stands s) (none from) in
    let ih = listed_none s f (from + 1) n none in
    omega arith

-- the list that was changed is the new one
pub list_changed : (cache : Cache) (p class : ℕ) (xs : List Numbered) → with_list cache p class xs p class ≡ xs
list_changed cache p class xs = rw (eq-eqb p p refl, eq-eqb class class refl) refl

-- the list of another class stays as it was
pub list_of_another_class : (cache : Cache) (p class : ℕ) (xs : List Numbered) (c : ℕ) → (c ≡ class → ⊥) →
    with_list cache p class xs p c ≡ cache p c
list_of_another_class cache p class xs c ne = rw (eq-eqb p p refl, ne_eqb c class ne) refl

-- the lists of another partition stay as they were
pub list_of_another : (cache : Cache) (p class : ℕ) (xs : List Numbered) (q c : ℕ) → (q ≡ p → ⊥) →
    with_list cache p class xs q c ≡ cache q c
list_of_another cache p class xs q c ne = rw (ne_eqb q p ne) refl

-- one list of a thread was changed
pub listed_changed : (s : SlotName) (cache after : Cache) (p class : ℕ) (xs : List Numbered) → class < 170 →
    ((c : ℕ) → after p c ≡ with_list cache p class xs p c) →
    listed_times s (after p) 0 170 + stands s (cache p class) ≡ listed_times s (cache p) 0 170 + stands s xs
listed_changed s cache after p class xs real becomes =
    let one = listed_but_one s (after p) (cache p) class 0 170 (omega arith) (omega arith)
    (λ c ne. becomes c ∙ list_of_another_class cache p class xs c ne) in
    let here : stands s (after p class) ≡ stands s xs = ap (stands s) (becomes class ∙ list_changed cache p class xs) in
    omega arith

-- one thread's lists were changed
cached_below : (s : SlotName) (all : Caches) (thread p n : ℕ) (next : Cache) → n ≤ thread →
    cached_times s (with_cache all thread next) p n ≡ cached_times s all p n
cached_below s all thread p zero next below = refl
cached_below s all thread p (suc n) next below =
    let ih = cached_below s all thread p n next (omega arith) in
    let same : with_cache all thread next n ≡ all n = rw (ne_eqb n thread (λ e. omega arith)) refl in
    let here : listed_times s (with_cache all thread next n p) 0 170 ≡ listed_times s (all n p) 0 170 =
    ap (λ (c : Cache). listed_times s (c p) 0 170) same in
    omega arith

pub cached_changed : (s : SlotName) (all : Caches) (thread p n : ℕ) (next : Cache) → thread < n →
    cached_times s (with_cache all thread next) p n + listed_times s (all thread p) 0 170 ≡ cached_times s all p n + listed_times s
    (next p) 0 170
cached_changed s all thread p zero next below = absurd (omega arith)
cached_changed s all thread p (suc n) next below = elim (cases_eq n thread) [
  | inl e ↦
      let rest = cached_below s all thread p n next (omega arith) in
      let same : with_cache all thread next n ≡ next = rw (eq-eqb n thread e) refl in
      let here : listed_times s (with_cache all thread next n p) 0 170 ≡ listed_times s (next p) 0 170 =
      ap (λ (c : Cache). listed_times s (c p) 0 170) same in
      let old : listed_times s (all n p) 0 170 ≡ listed_times s (all thread p) 0 170 = ap (λ t. listed_times s (all t p) 0 170) e in
      omega arith
  | inr other ↦
      let ih = cached_changed s all thread p n next (omega arith) in
      let same : with_cache all thread next n ≡ all n = rw (ne_eqb n thread other) refl in
      let here : listed_times s (with_cache all thread next n p) 0 170 ≡ listed_times s (all n p) 0 170 =
      ap (λ (c : Cache). listed_times s (c p) 0 170) same in
      omega arith
]
