-- Sums over classes: how one changes with a part of it, and that those over all classes are those over a version's, if no other class
-- has a list.
use Rattle.std.proofs.Common.{◌≡◌, ℕ, zero, suc, ◌+◌, ◌-◌, ◌*◌, ◌<◌, ◌≤◌, ◌⊎◌, List, [], ◌++◌, length, inl, inr, refl, sym, ap, ◌∙◌, arith}
use Rattle.std.proofs.lemmas.Bool.{cases_lt}
use Rattle.pa_buckets.specs.Limits.{first_class, past_class}
use Rattle.pa_buckets.specs.Table.{slot_of}
use Rattle.pa_record.specs.declared.numbered.Numbered.{Numbered}
use Rattle.pa_record.specs.declared.root.RootAct.{RootAct}
use Rattle.pa_rules.specs.Caches.{gives, purge_acts, listed_slots}
use Rattle.pa_rules.specs.Report.{listed_bytes}
use Rattle.pa_rules.specs.Sizes.{class_total}
use Rattle.pa_rules.proofs.Versions.{class_parts}

-- none but these `n` classes from `first` on have slots
abbrev pub NoneBut : ℕ → ℕ → (ℕ → List Numbered) → Type 0
NoneBut first n lists = (c : ℕ) → (c < first) ⊎ (first + n ≤ c) → lists c ≡ []

no_length : (xs : List Numbered) → xs ≡ [] → length xs ≡ 0
no_length xs e = ap length e

-- the sum of a weight over `n` classes from `from` on
unfoldable pub summed : (ℕ → ℕ) → ℕ → ℕ → ℕ
summed w from zero = 0
summed w from (suc n) = w from + summed w (from + 1) n

summed_none : (w : ℕ → ℕ) (from n : ℕ) → ((c : ℕ) → from ≤ c → c < from + n → w c ≡ 0) → summed w from n ≡ 0
unfolding summed
summed_none w from zero h = refl
summed_none w from (suc n) h =
    let here = h from (omega arith) (omega arith) in
    let ih = summed_none w (from + 1) n (λ c low high. h c (omega arith) (omega arith)) in
    omega arith

summed_parts : (w : ℕ → ℕ) (from m n : ℕ) → summed w from (m + n) ≡ summed w from m + summed w (from + m) n
unfolding summed
summed_parts w from zero n =
    let count : summed w from (0 + n) ≡ summed w from n = let e : 0 + n ≡ n = omega arith in ap (λ k. summed w from k) e in
    let start : summed w from n ≡ summed w (from + 0) n = let e : from ≡ from + 0 = omega arith in ap (λ k. summed w k n) e in
    let none : summed w from 0 ≡ 0 = refl in
    omega arith
summed_parts w from (suc m) n =
    let next : suc m + n ≡ suc (m + n) = omega arith in
    let count : summed w from (suc m + n) ≡ summed w from (suc (m + n)) = ap (λ k. summed w from k) next in
    let ih = summed_parts w (from + 1) m n in
    let p : from + 1 + m ≡ from + suc m = omega arith in
    let e : summed w (from + 1 + m) n ≡ summed w (from + suc m) n = ap (λ k. summed w k n) p in
    omega arith

summed_some : (w : ℕ → ℕ) (first n rest : ℕ) → ((c : ℕ) → (c < first) ⊎ (first + n ≤ c) → w c ≡ 0) →
    summed w 0 (first + (n + rest)) ≡ summed w first n
summed_some w first n rest h =
    let start : summed w (0 + first) (n + rest) ≡ summed w first (n + rest) =
    let e : 0 + first ≡ first = omega arith in ap (λ k. summed w k (n + rest)) e in
    let a = summed_parts w 0 first (n + rest) in
    let b = summed_parts w first n rest in
    let low = summed_none w 0 first (λ c from below. h c (inl (omega arith))) in
    let high = summed_none w (first + n) rest (λ c from below. h c (inr from)) in
    omega arith

summed_same : (f g : ℕ → ℕ) (from n : ℕ) → ((c : ℕ) → from ≤ c → f c ≡ g c) → summed f from n ≡ summed g from n
unfolding summed
summed_same f g from zero same = refl
summed_same f g from (suc n) same =
    let head = same from (omega arith) in
    let tail = summed_same f g (from + 1) n (λ c low. same c (omega (arith, low))) in
    omega (arith, head, tail)

-- the weight of one class changed
pub summed_changed : (f g : ℕ → ℕ) (at from n : ℕ) → from ≤ at → at < from + n → ((c : ℕ) → (c ≡ at → ⊥) → f c ≡ g c) →
    summed f from n + g at ≡ summed g from n + f at
unfolding summed
summed_changed f g at from zero low high same = absurd (omega (arith, low, high))
summed_changed f g at from (suc n) low high same = elim (cases_lt from at) [
  | inl below ↦
      let head = same from (λ e. omega (arith, e, below)) in
      let tail = summed_changed f g at (from + 1) n (omega (arith, below)) (omega (arith, high)) same in
      omega (arith, head, tail)
  | inr above ↦
      let here : at ≡ from = omega (arith, low, above) in
      let a : f at ≡ f from = ap f here in
      let b : g at ≡ g from = ap g here in
      let tail = summed_same f g (from + 1) n (λ c more. same c (λ e. omega (arith, e, here, more))) in
      omega (arith, a, b, tail)
]

-- the weight of one class is at most the sum
pub summed_part : (f : ℕ → ℕ) (at from n : ℕ) → from ≤ at → at < from + n → f at ≤ summed f from n
unfolding summed
summed_part f at from zero low high = absurd (omega (arith, low, high))
summed_part f at from (suc n) low high = elim (cases_lt from at) [
  | inl below ↦ let tail = summed_part f at (from + 1) n (omega (arith, below)) (omega (arith, high)) in omega (arith, tail)
  | inr above ↦
      let here : at ≡ from = omega (arith, low, above) in
      let a : f at ≡ f from = ap f here in
      omega (arith, a)
]

-- the sum of weights that are at most m
pub summed_most : (f : ℕ → ℕ) (m from n : ℕ) → ((c : ℕ) → c < from + n → f c ≤ m) → summed f from n ≤ n * m
unfolding summed
summed_most f m from zero few = omega arith
summed_most f m from (suc n) few =
    let head = few from (omega arith) in
    let tail = summed_most f m (from + 1) n (λ c low. few c (omega (arith, low))) in
    omega (arith, head, tail)

-- the slots and the bytes of lists are such sums
pub slots_summed : (lists : ℕ → List Numbered) (from n : ℕ) → listed_slots lists from n ≡ summed (λ c. length (lists c)) from n
unfolding listed_slots summed
slots_summed lists from zero = refl
slots_summed lists from (suc n) = ap (λ k. length (lists from) + k) (slots_summed lists (from + 1) n)

pub bytes_summed : (counts : ℕ → ℕ) (from n : ℕ) → listed_bytes counts from n ≡ summed (λ c. slot_of c * counts c) from n
unfolding listed_bytes summed
bytes_summed counts from zero = refl
bytes_summed counts from (suc n) = ap (λ k. slot_of from * counts from + k) (bytes_summed counts (from + 1) n)

no_bytes : (c : ℕ) (xs : List Numbered) → xs ≡ [] → slot_of c * length xs ≡ 0
no_bytes c xs e = ap (λ k. slot_of c * k) (no_length xs e) ∙ (let none : slot_of c * 0 ≡ 0 = omega arith in none)

-- sums over no class
pub slots_of_none : (lists : ℕ → List Numbered) (from : ℕ) → listed_slots lists from 0 ≡ 0
unfolding listed_slots
slots_of_none lists from = refl

pub bytes_of_none : (counts : ℕ → ℕ) (from : ℕ) → listed_bytes counts from 0 ≡ 0
unfolding listed_bytes
bytes_of_none counts from = refl

-- sums of empty lists
pub slots_none : (lists : ℕ → List Numbered) (from n : ℕ) → ((c : ℕ) → from ≤ c → c < from + n → lists c ≡ []) →
    listed_slots lists from n ≡ 0
slots_none lists from n h =
    slots_summed lists from n ∙ summed_none (λ c. length (lists c)) from n (λ c low high. no_length (lists c) (h c low high))

pub bytes_none : (lists : ℕ → List Numbered) (from n : ℕ) → ((c : ℕ) → from ≤ c → c < from + n → lists c ≡ []) →
    listed_bytes (λ c. length (lists c)) from n ≡ 0
bytes_none lists from n h =
    bytes_summed (λ c. length (lists c)) from n
    ∙ summed_none (λ c. slot_of c * length (lists c)) from n (λ c low high. no_bytes c (lists c) (h c low high))

-- sums over all
slots_of_some : (lists : ℕ → List Numbered) (first n rest : ℕ) → NoneBut first n lists →
    listed_slots lists 0 (first + (n + rest)) ≡ listed_slots lists first n
slots_of_some lists first n rest h =
    slots_summed lists 0 (first + (n + rest))
    ∙ summed_some (λ c. length (lists c)) first n rest (λ c out. no_length (lists c) (h c out))
    ∙ sym (slots_summed lists first n)

bytes_of_some : (lists : ℕ → List Numbered) (first n rest : ℕ) → NoneBut first n lists →
    listed_bytes (λ c. length (lists c)) 0 (first + (n + rest)) ≡ listed_bytes (λ c. length (lists c)) first n
bytes_of_some lists first n rest h =
    bytes_summed (λ c. length (lists c)) 0 (first + (n + rest))
    ∙ summed_some (λ c. slot_of c * length (lists c)) first n rest (λ c out. no_bytes c (lists c) (h c out))
    ∙ sym (bytes_summed (λ c. length (lists c)) first n)

-- what a purge gives
give_before : (xs : List Numbered) (acts : List RootAct) → xs ≡ [] → gives xs ++ acts ≡ acts
give_before xs acts e = ap (λ ys. gives ys ++ acts) e

purge_past : (lists : ℕ → List Numbered) (from n m : ℕ) → ((c : ℕ) → from ≤ c → c < from + n → lists c ≡ []) →
    purge_acts lists from (n + m) ≡ purge_acts lists (from + n) m
purge_past lists from zero m h =
    let count : 0 + m ≡ m = omega arith in
    let start : from ≡ from + 0 = omega arith in
    ap (λ k. purge_acts lists from k) count ∙ ap (λ k. purge_acts lists k m) start
purge_past lists from (suc n) m h =
    let next : suc n + m ≡ suc (n + m) = omega arith in
    let e : from + 1 + n ≡ from + suc n = omega arith in
    ap (λ k. purge_acts lists from k) next ∙
    give_before (lists from) (purge_acts lists (from + 1) (n + m)) (h from (omega arith) (omega arith))
    ∙ purge_past lists (from + 1) n m (λ c low high. h c (omega arith) (omega arith))
    ∙ ap (λ k. purge_acts lists k m) e

purge_until : (lists : ℕ → List Numbered) (from n m : ℕ) → ((c : ℕ) → from + n ≤ c → lists c ≡ []) →
    purge_acts lists from (n + m) ≡ purge_acts lists from n
purge_until lists from zero m h = let count : 0 + m ≡ m = omega arith in ap (λ k. purge_acts lists from k) count ∙
    go m from (λ c low. h c (omega arith))
  where
    go : (k from : ℕ) → ((c : ℕ) → from ≤ c → lists c ≡ []) → purge_acts lists from k ≡ purge_acts lists from 0
    go zero from h = refl
    go (suc k) from h = give_before (lists from) (purge_acts lists (from + 1) k) (h from (omega arith)) ∙
        go k (from + 1) (λ c low. h c (omega arith))
purge_until lists from (suc n) m h =
    let next : suc n + m ≡ suc (n + m) = omega arith in
    ap (λ k. purge_acts lists from k) next ∙
    ap (λ acts. gives (lists from) ++ acts) (purge_until lists (from + 1) n m (λ c low. h c (omega arith)))

purge_of_some : (lists : ℕ → List Numbered) (first n rest : ℕ) → NoneBut first n lists →
    purge_acts lists 0 (first + (n + rest)) ≡ purge_acts lists first n
purge_of_some lists first n rest h =
    let start : 0 + first ≡ first = omega arith in
    purge_past lists 0 first (n + rest) (λ c from below. h c (inl (omega arith)))
    ∙ ap (λ k. purge_acts lists k (n + rest)) start
    ∙ purge_until lists first n rest (λ c from. h c (inr from))

-- where none but the classes of version 1 have slots
pub slots_sparse : (lists : ℕ → List Numbered) → NoneBut 0 59 lists → listed_slots lists 0 170 ≡ listed_slots lists 0 59
slots_sparse lists h = slots_of_some lists 0 59 111 h

pub bytes_sparse : (lists : ℕ → List Numbered) → NoneBut 0 59 lists →
    listed_bytes (λ c. length (lists c)) 0 170 ≡ listed_bytes (λ c. length (lists c)) 0 59
bytes_sparse lists h = bytes_of_some lists 0 59 111 h

pub purge_sparse : (lists : ℕ → List Numbered) → NoneBut 0 59 lists → purge_acts lists 0 170 ≡ purge_acts lists 0 59
purge_sparse lists h = purge_of_some lists 0 59 111 h

-- where none but the classes of a version have slots
abbrev pub NoneButOf : ℕ → (ℕ → List Numbered) → Type 0
NoneButOf version lists = NoneBut (first_class version) (class_total version) lists

pub slots_of_version : (version : ℕ) (lists : ℕ → List Numbered) → NoneButOf version lists
    → listed_slots lists 0 170 ≡ listed_slots lists (first_class version) (class_total version)
slots_of_version version lists h =
    ap (listed_slots lists 0) (sym (class_parts version)) ∙
    slots_of_some lists (first_class version) (class_total version) (170 - past_class version) h

pub bytes_of_version : (version : ℕ) (lists : ℕ → List Numbered) → NoneButOf version lists
    → listed_bytes (λ c. length (lists c)) 0 170 ≡ listed_bytes (λ c. length (lists c)) (first_class version) (class_total version)
bytes_of_version version lists h =
    ap (listed_bytes (λ c. length (lists c)) 0) (sym (class_parts version))
    ∙ bytes_of_some lists (first_class version) (class_total version) (170 - past_class version) h

pub purge_of_version : (version : ℕ) (lists : ℕ → List Numbered) → NoneButOf version lists
    → purge_acts lists 0 170 ≡ purge_acts lists (first_class version) (class_total version)
purge_of_version version lists h =
    ap (purge_acts lists 0) (sym (class_parts version)) ∙
    purge_of_some lists (first_class version) (class_total version) (170 - past_class version) h
