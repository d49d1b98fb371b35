-- What a thread's lists of all classes have: only those of the player's version have slots.
use Rattle.std.proofs.Common.{◌≡◌, ℕ, zero, suc, ◌+◌, ◌-◌, ◌<◌, ◌≤◌, ◌⊎◌, List, [], ◌++◌, length, inl, inr, refl, sym, ap, ◌∙◌, arith}
use Rattle.pa_buckets.specs.Limits.{first_class, past_class}
use Rattle.pa_record.specs.declared.numbered.Numbered.{Numbered}
use Rattle.pa_rules.specs.Caches.{purge_acts, listed_slots}
use Rattle.pa_rules.specs.Report.{listed_bytes}
use Rattle.pa_rules.specs.Sizes.{class_total}
use Rattle.pa_rules.proofs.Versions.{class_end, class_parts}
use Rattle.pa_rules.proofs.Sums.{NoneBut, NoneButOf, slots_of_version, bytes_of_version, purge_of_version}
use Rattle.pa_heap_effects.specs.Ops.{all_of}
use Rattle.pa_player.specs.Player.{Player}
use Rattle.pa_player.specs.Playing.{caches}
use Rattle.pa_player.proofs.OneList.{caches_none}

caches_of_version : (p : Player) (t q : ℕ) → NoneButOf p.version (caches p t q)
caches_of_version p t q c (inl low) = caches_none p t q c (λ a b. let from = b.0 in omega arith)
caches_of_version p t q c (inr past) = caches_none p t q c (λ a b. let real = b.1 in let end = class_end p.version in omega arith)

pub all_slots : (p : Player) (t q : ℕ) →
    listed_slots (caches p t q) 0 170 ≡ listed_slots (caches p t q) (first_class p.version) (class_total p.version)
all_slots p t q = slots_of_version p.version (caches p t q) (caches_of_version p t q)

pub all_bytes : (p : Player) (t q : ℕ) →
    listed_bytes (λ c. length (caches p t q c)) 0 170 ≡ listed_bytes (λ c. length (caches p t q c)) (first_class p.version)
    (class_total p.version)
all_bytes p t q = bytes_of_version p.version (caches p t q) (caches_of_version p t q)

pub all_acts : (p : Player) (t q : ℕ) →
    purge_acts (caches p t q) 0 170 ≡ purge_acts (caches p t q) (first_class p.version) (class_total p.version)
all_acts p t q = purge_of_version p.version (caches p t q) (caches_of_version p t q)

none_of : (lists : ℕ → List Numbered) (from n : ℕ) → ((c : ℕ) → from ≤ c → lists c ≡ []) → all_of lists from n ≡ []
none_of lists from zero h = refl
none_of lists from (suc n) h = ap (λ xs. xs ++ all_of lists (from + 1) n) (h from (omega arith)) ∙
    none_of lists (from + 1) n (λ c low. h c (omega arith))

of_first : (lists : ℕ → List Numbered) (from m n : ℕ) → ((c : ℕ) → from + m ≤ c → lists c ≡ []) →
    all_of lists from (m + n) ≡ all_of lists from m
of_first lists from zero n h = let count : 0 + n ≡ n = omega arith in ap (λ k. all_of lists from k) count ∙
    none_of lists from n (λ c low. h c (omega arith))
of_first lists from (suc m) n h =
    let next : suc m + n ≡ suc (m + n) = omega arith in
    ap (λ k. all_of lists from k) next ∙ ap (λ xs. lists from ++ xs) (of_first lists (from + 1) m n (λ c low. h c (omega arith)))

of_last : (lists : ℕ → List Numbered) (from m n : ℕ) → ((c : ℕ) → from ≤ c → c < from + m → lists c ≡ []) →
    all_of lists from (m + n) ≡ all_of lists (from + m) n
of_last lists from zero n h =
    let count : 0 + n ≡ n = omega arith in
    let start : from ≡ from + 0 = omega arith in
    ap (λ k. all_of lists from k) count ∙ ap (λ k. all_of lists k n) start
of_last lists from (suc m) n h =
    let next : suc m + n ≡ suc (m + n) = omega arith in
    let place : from + 1 + m ≡ from + suc m = omega arith in
    ap (λ k. all_of lists from k) next ∙ ap (λ xs. xs ++ all_of lists (from + 1) (m + n)) (h from (omega arith) (omega arith))
    ∙ of_last lists (from + 1) m n (λ c low high. h c (omega arith) (omega arith)) ∙ ap (λ k. all_of lists k n) place

pub all_in_lists : (p : Player) (t q : ℕ) →
    all_of (caches p t q) 0 170 ≡ all_of (caches p t q) (first_class p.version) (class_total p.version)
all_in_lists p t q =
    let lists = caches p t q in
    let first = first_class p.version in
    let total = class_total p.version in
    let rest = 170 - past_class p.version in
    let none = caches_of_version p t q in
    let start : 0 + first ≡ first = omega arith in
    ap (all_of lists 0) (sym (class_parts p.version)) ∙ of_last lists 0 first (total + rest) (λ c from below. none c (inl (omega arith)))
    ∙ ap (λ k. all_of lists k (total + rest)) start ∙ of_first lists first total rest (λ c past. none c (inr past))
