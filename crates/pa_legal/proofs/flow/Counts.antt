-- How often a slot is in lists at a number, and how often entries take it out of the root and give it back there.
use Rattle.std.proofs.Common.{◌≡◌, ℕ, zero, suc, ◌+◌, ◌<◌, ◌≤◌, Bool, cond, List, [], ◌∷◌, ◌++◌, take, drop, length, refl, sym, ◌∙◌, ap, arith, inl, inr}
use Rattle.std.specs.Prelude.{nat_lt}
use Rattle.std.proofs.lemmas.Bool.{cases_Bool, cases_eq}
use Rattle.std.proofs.lemmas.List.{take-append-drop, length-drop}
use Rattle.std.proofs.lemmas.List.Sums.{sum_by-cons, sum_by-append}
use Rattle.pa_slot.specs.declared.word.SlotName.{SlotName}
use Rattle.pa_slot.proofs.Runs.{same_slot_no}
use Rattle.pa_buckets.specs.Bands.{limit_of}
use Rattle.pa_record.specs.declared.numbered.Numbered.{Numbered}
use Rattle.pa_record.specs.declared.root.RootAct.{RootAct}
use Rattle.pa_rules.specs.Holders.{Way}
use Rattle.pa_rules.specs.Caches.{Cache, with_list, batches, gives, kept, spilled, purge_acts}
use Rattle.pa_rules.proofs.Counted.{list_changed, list_of_another_class}
use Rattle.pa_legal.specs.Turns.{is_out}
use Rattle.pa_legal.specs.Flows.{is_back, hits, at_in, moved_in}

abbrev pub hit_once : SlotName → ℕ → Numbered → ℕ
hit_once s k n = cond (hits s k n) 1 0

-- how often the slot is at the number in the lists of `n` classes from one on
unfoldable pub listed : SlotName → ℕ → (ℕ → List Numbered) → ℕ → ℕ → ℕ
listed s k lists class zero = 0
listed s k lists class (suc n) = at_in s k (lists class) + listed s k lists (class + 1) n

pub at_cons : (s : SlotName) (k : ℕ) (n : Numbered) (ns : List Numbered) → at_in s k (n ∷ ns) ≡ hit_once s k n + at_in s k ns
at_cons s k n ns = sum_by-cons (λ m. cond (hits s k m) 1 0) n ns

-- a slot of another name
pub hit_none : (s : SlotName) (k : ℕ) (n : Numbered) → (s ≡ n.slot → ⊥) → hit_once s k n ≡ 0
hit_none s k n other = rw (same_slot_no s n.slot other) refl

at_split : (s : SlotName) (k c : ℕ) (xs : List Numbered) → at_in s k (take c xs) + at_in s k (drop c xs) ≡ at_in s k xs
at_split s k c xs = sym (sum_by-append (λ m. cond (hits s k m) 1 0) (take c xs) (drop c xs)) ∙ ap (at_in s k) (take-append-drop c xs)

-- what stays of a list and what doesn't are the list
pub at_kept : (s : SlotName) (k class : ℕ) (xs : List Numbered) → at_in s k (kept class xs) + at_in s k (spilled class xs) ≡ at_in s k xs
at_kept s k class xs = elim (cases_Bool (nat_lt (limit_of class) (length xs))) [
  | inl over ↦ rw over (at_split s k _ xs)
  | inr within ↦ rw within (omega arith)
]

-- ---- entries

pub moved_append : (w : Way → Bool) (s : SlotName) (k : ℕ) (a b : List RootAct) →
    moved_in w s k (a ++ b) ≡ moved_in w s k a + moved_in w s k b
moved_append w s k [] b = omega arith
moved_append w s k (x ∷ a) b = let ih = moved_append w s k a b in omega arith

-- batches give back what they are of, and take nothing out
back_batches : (s : SlotName) (k n : ℕ) (xs : List Numbered) → length xs ≤ n → moved_in is_back s k (batches n xs) ≡ at_in s k xs
back_batches s k zero [] few = refl
back_batches s k zero (x ∷ xs) few = absurd (omega arith)
back_batches s k (suc n) [] few = refl
back_batches s k (suc n) (x ∷ xs) few =
    let e = length-drop 16 (x ∷ xs) in
    let ih = back_batches s k n (drop 16 (x ∷ xs)) (omega arith) in
    let split = at_split s k 16 (x ∷ xs) in
    omega arith

out_batches : (s : SlotName) (k n : ℕ) (xs : List Numbered) → moved_in is_out s k (batches n xs) ≡ 0
out_batches s k zero xs = refl
out_batches s k (suc n) [] = refl
out_batches s k (suc n) (x ∷ xs) = let ih = out_batches s k n (drop 16 (x ∷ xs)) in omega arith

pub back_gives : (s : SlotName) (k : ℕ) (xs : List Numbered) → moved_in is_back s k (gives xs) ≡ at_in s k xs
back_gives s k xs = back_batches s k (length xs) xs (omega arith)

pub out_gives : (s : SlotName) (k : ℕ) (xs : List Numbered) → moved_in is_out s k (gives xs) ≡ 0
out_gives s k xs = out_batches s k (length xs) xs

pub back_purge : (s : SlotName) (k : ℕ) (lists : ℕ → List Numbered) (class n : ℕ) →
    moved_in is_back s k (purge_acts lists class n) ≡ listed s k lists class n
unfolding listed
back_purge s k lists class zero = refl
back_purge s k lists class (suc n) =
    let a = moved_append is_back s k (gives (lists class)) (purge_acts lists (class + 1) n) in
    let b = back_gives s k (lists class) in
    let ih = back_purge s k lists (class + 1) n in
    omega arith

pub out_purge : (s : SlotName) (k : ℕ) (lists : ℕ → List Numbered) (class n : ℕ) → moved_in is_out s k (purge_acts lists class n) ≡ 0
out_purge s k lists class zero = refl
out_purge s k lists class (suc n) =
    let a = moved_append is_out s k (gives (lists class)) (purge_acts lists (class + 1) n) in
    let b = out_gives s k (lists class) in
    let ih = out_purge s k lists (class + 1) n in
    omega arith

-- ---- lists

-- lists that agree from a class on
pub listed_agree : (s : SlotName) (k : ℕ) (f g : ℕ → List Numbered) (from n : ℕ) → ((c : ℕ) → from ≤ c → f c ≡ g c) →
    listed s k f from n ≡ listed s k g from n
unfolding listed
listed_agree s k f g from zero same = refl
listed_agree s k f g from (suc n) same =
    let here : at_in s k (f from) ≡ at_in s k (g from) = ap (at_in s k) (same from (omega arith)) in
    let ih = listed_agree s k f g (from + 1) n (λ c more. same c (omega arith)) in
    omega arith

-- lists that agree but at one class
listed_but_one : (s : SlotName) (k : ℕ) (f g : ℕ → List Numbered) (class from n : ℕ) → from ≤ class → class < from + n →
    ((c : ℕ) → (c ≡ class → ⊥) → f c ≡ g c) →
    listed s k f from n + at_in s k (g class) ≡ listed s k g from n + at_in s k (f class)
unfolding listed
listed_but_one s k f g class from zero low high same = absurd (omega arith)
listed_but_one s k f g class from (suc n) low high same = elim (cases_eq from class) [
  | inl e ↦
      let rest = listed_agree s k f g (from + 1) n (λ c more. same c (λ here. omega arith)) in
      let a : at_in s k (f from) ≡ at_in s k (f class) = ap (λ c. at_in s k (f c)) e in
      let b : at_in s k (g from) ≡ at_in s k (g class) = ap (λ c. at_in s k (g c)) e in
      omega arith
  | inr other ↦
      let ih = listed_but_one s k f g class (from + 1) n (omega arith) (omega arith) same in
      let a : at_in s k (f from) ≡ at_in s k (g from) = ap (at_in s k) (same from other) in
      omega arith
]

pub listed_none : (s : SlotName) (k : ℕ) (f : ℕ → List Numbered) (from n : ℕ) → ((c : ℕ) → f c ≡ []) → listed s k f from n ≡ 0
unfolding listed
listed_none s k f from zero none = refl
listed_none s k f from (suc n) none =
    let here : at_in s k (f from) ≡ 0 = ap (at_in s k) (none from) in
    let ih = listed_none s k f (from + 1) n none in
    omega arith

-- one list of a thread was changed
pub listed_changed : (s : SlotName) (k : ℕ) (cache after : Cache) (p class : ℕ) (xs : List Numbered) → class < 170 →
    ((c : ℕ) → after p c ≡ with_list cache p class xs p c) →
    listed s k (after p) 0 170 + at_in s k (cache p class) ≡ listed s k (cache p) 0 170 + at_in s k xs
listed_changed s k cache after p class xs real becomes =
    let one = listed_but_one s k (after p) (cache p) class 0 170 (omega arith) (omega arith)
    (λ c ne. becomes c ∙ list_of_another_class cache p class xs c ne) in
    let here : at_in s k (after p class) ≡ at_in s k xs = ap (at_in s k) (becomes class ∙ list_changed cache p class xs) in
    omega arith
