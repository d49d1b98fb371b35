-- The tallies of a partition after a change.
use Rattle.std.proofs.Common.{◌≡◌, ℕ, zero, suc, ◌+◌, ◌-◌, ◌*◌, ◌<◌, ◌≤◌, List, length, refl, sym, ap, ◌∙◌, subst, arith, inl, inr}
use Rattle.std.specs.Prelude.{if◌then◌else◌, ◌==◌}
use Rattle.std.proofs.lemmas.Bool.{cases_eq, eq-eqb, ne_eqb}
use Rattle.std.proofs.lemmas.List.{get_or-set_same, get_or-set_other}
use Rattle.pa_buckets.specs.Table.{slot_of}
use Rattle.pa_record.specs.declared.numbered.Numbered.{Numbered}
use Rattle.pa_record.specs.declared.report.Tally.{Tally}
use Rattle.pa_rules.specs.Caches.{Caches, with_list, with_cache, listed_slots}
use Rattle.pa_rules.specs.Report.{cached_slots, cached_bytes, listed_bytes}
use Rattle.pa_rules.specs.Lists.{no_tally}
use Rattle.pa_player.specs.Tallies.{tally_at}
use Rattle.pa_player.specs.Changes.{tallied_more, tallied_less}

-- ---- one tally

-- that many slots and bytes more in partition q
pub record IsMoreBy (q count size k : ℕ) (before after : Tally) : Type 0 where
  pub slots : after.slots ≡ before.slots + (if q == k then count else 0)
  pub bytes : after.bytes ≡ before.bytes + (if q == k then size else 0)

more_here : (q slots bytes : ℕ) (before after : Tally) → after.slots ≡ before.slots + slots → after.bytes ≡ before.bytes + bytes →
    IsMoreBy q slots bytes q before after
more_here q slots bytes before after a b = record {
  slots = rw (eq-eqb q q refl) a;
  bytes = rw (eq-eqb q q refl) b;
}

more_there : (q slots bytes k : ℕ) (before after : Tally) → (q ≡ k → ⊥) → after ≡ before → IsMoreBy q slots bytes k before after
more_there q slots bytes k before after ne e = record {
  slots = rw (ne_eqb q k ne) (omega (arith, ap (λ (t : Tally). t.slots) e));
  bytes = rw (ne_eqb q k ne) (omega (arith, ap (λ (t : Tally). t.bytes) e));
}

pub tally_more : (q slots bytes k : ℕ) (ts : List Tally) → q < length ts →
    IsMoreBy q slots bytes k (tally_at ts k) (tally_at (tallied_more q slots bytes ts) k)
tally_more q slots bytes k ts low =
    let new : Tally = record { slots = (tally_at ts q).slots + slots; bytes = (tally_at ts q).bytes + bytes } in
    elim (cases_eq q k) [
      | inl e ↦
          let P : ℕ → Type 0 = λ z. IsMoreBy q slots bytes z (tally_at ts z) (tally_at (tallied_more q slots bytes ts) z) in
          let here = get_or-set_same ts q new no_tally low in
          subst P e (more_here q slots bytes (tally_at ts q) (tally_at (tallied_more q slots bytes ts) q) (ap (λ (t : Tally). t.slots) here)
          (ap (λ (t : Tally). t.bytes) here))
      | inr ne ↦ more_there q slots bytes k (tally_at ts k) (tally_at (tallied_more q slots bytes ts) k) ne
          (get_or-set_other ts q k new no_tally (λ e. ne (sym e)))
    ]

pub tally_less : (q slots bytes k : ℕ) (ts : List Tally) → q < length ts → slots ≤ (tally_at ts q).slots → bytes ≤ (tally_at ts q).bytes
    → IsMoreBy q slots bytes k (tally_at (tallied_less q slots bytes ts) k) (tally_at ts k)
tally_less q slots bytes k ts low some many =
    let new : Tally = record { slots = (tally_at ts q).slots - slots; bytes = (tally_at ts q).bytes - bytes } in
    elim (cases_eq q k) [
      | inl e ↦
          let P : ℕ → Type 0 = λ z. IsMoreBy q slots bytes z (tally_at (tallied_less q slots bytes ts) z) (tally_at ts z) in
          let here = get_or-set_same ts q new no_tally low in
          let a : (tally_at (tallied_less q slots bytes ts) q).slots ≡ (tally_at ts q).slots - slots = ap (λ (t : Tally). t.slots) here in
          let b : (tally_at (tallied_less q slots bytes ts) q).bytes ≡ (tally_at ts q).bytes - bytes = ap (λ (t : Tally). t.bytes) here in
          subst P e (more_here q slots bytes (tally_at (tallied_less q slots bytes ts) q) (tally_at ts q) (omega arith) (omega arith))
      | inr ne ↦ more_there q slots bytes k (tally_at (tallied_less q slots bytes ts) k) (tally_at ts k) ne
          (sym (get_or-set_other ts q k new no_tally (λ e. ne (sym e))))
    ]

-- ---- what lists have together, by a weight of each

levels : (ℕ → List Numbered → ℕ) → (ℕ → List Numbered) → ℕ → ℕ → ℕ
levels w lists class zero = 0
levels w lists class (suc n) = w class (lists class) + levels w lists (class + 1) n

totals : (ℕ → List Numbered → ℕ) → Caches → ℕ → ℕ → ℕ
totals w all k zero = 0
totals w all k (suc t) = levels w (all t k) 0 170 + totals w all k t

levels_same : (w : ℕ → List Numbered → ℕ) (lists others : ℕ → List Numbered) (from n : ℕ) → ((c : ℕ) → from ≤ c → others c ≡ lists c) →
    levels w others from n ≡ levels w lists from n
unfolding levels
levels_same w lists others from zero same = refl
levels_same w lists others from (suc n) same =
    let here : w from (others from) ≡ w from (lists from) = ap (w from) (same from (omega arith)) in
    let rest = levels_same w lists others (from + 1) n (λ c low. same c (omega arith)) in
    omega arith

levels_one : (w : ℕ → List Numbered → ℕ) (lists others : ℕ → List Numbered) (class from n : ℕ) → from ≤ class → class < from + n
    → ((c : ℕ) → (c ≡ class → ⊥) → others c ≡ lists c) →
    levels w others from n + w class (lists class) ≡ levels w lists from n + w class (others class)
unfolding levels
levels_one w lists others class from zero low high same = absurd (omega arith)
levels_one w lists others class from (suc n) low high same = elim (cases_eq from class) [
  | inl e ↦
      let a : w from (lists from) ≡ w class (lists class) = ap (λ c. w c (lists c)) e in
      let b : w from (others from) ≡ w class (others class) = ap (λ c. w c (others c)) e in
      let rest = levels_same w lists others (from + 1) n (λ c past. same c (λ is. omega arith)) in
      omega arith
  | inr ne ↦
      let here : w from (others from) ≡ w from (lists from) = ap (w from) (same from ne) in
      let rest = levels_one w lists others class (from + 1) n (omega arith) (omega arith) same in
      omega arith
]

totals_past : (w : ℕ → List Numbered → ℕ) (all others : Caches) (k n t : ℕ) → n ≤ t → ((u c : ℕ) → (u ≡ t → ⊥) → others u k c ≡ all u k c) →
    totals w others k n ≡ totals w all k n
unfolding totals
totals_past w all others k zero t past same = refl
totals_past w all others k (suc n) t past same =
    let here = levels_same w (all n k) (others n k) 0 170 (λ c low. same n c (λ is. omega arith)) in
    let rest = totals_past w all others k n t (omega arith) same in
    omega arith

totals_one : (w : ℕ → List Numbered → ℕ) (all others : Caches) (k n t : ℕ) → t < n → ((u c : ℕ) → (u ≡ t → ⊥) → others u k c ≡ all u k c)
    → totals w others k n + levels w (all t k) 0 170 ≡ totals w all k n + levels w (others t k) 0 170
unfolding totals
totals_one w all others k zero t below same = absurd (omega arith)
totals_one w all others k (suc n) t below same = elim (cases_eq n t) [
  | inl e ↦
      let a : levels w (all n k) 0 170 ≡ levels w (all t k) 0 170 = ap (λ z. levels w (all z k) 0 170) e in
      let b : levels w (others n k) 0 170 ≡ levels w (others t k) 0 170 = ap (λ z. levels w (others z k) 0 170) e in
      let rest = totals_past w all others k n t (omega arith) same in
      omega arith
  | inr ne ↦
      let here = levels_same w (all n k) (others n k) 0 170 (λ c low. same n c ne) in
      let rest = totals_one w all others k n t (omega arith) same in
      omega arith
]

totals_same : (w : ℕ → List Numbered → ℕ) (all others : Caches) (k n : ℕ) → ((t c : ℕ) → others t k c ≡ all t k c) →
    totals w others k n ≡ totals w all k n
totals_same w all others k n same = totals_past w all others k n n (omega arith) (λ u c ne. same u c)

-- the total over the threads changes by as much as the one list that is set
totals_set : (w : ℕ → List Numbered → ℕ) (all : Caches) (n t q class k : ℕ) (xs : List Numbered) → t < n → class < 170
    → totals w (with_cache all t (with_list (all t) q class xs)) k n + (if q == k then w class (all t q class) else 0)
    ≡ totals w all k n + (if q == k then w class xs else 0)
totals_set w all n t q class k xs below real =
    let next = with_list (all t) q class xs in
    let others = with_cache all t next in
    let here : (k c : ℕ) → others t k c ≡ next k c = λ k c. rw (eq-eqb t t refl) refl in
    let there : (u k c : ℕ) → (u ≡ t → ⊥) → others u k c ≡ all u k c = λ u k c ne. rw (ne_eqb u t ne) refl in
    elim (cases_eq q k) [
      | inl e ↦
          let P : ℕ → Type 0 = λ z. totals w others z n + (if q == z then w class (all t q class) else 0) ≡ totals w all z
          n + (if q == z then w class xs else 0) in
          let whole = totals_one w all others q n t below (λ u c ne. there u q c ne) in
          let one = levels_one w (all t q) (others t q) class 0 170 (omega arith) (omega arith)
          (λ c ne. here q c ∙ rw (ne_eqb c class ne, eq-eqb q q refl) refl) in
          let new : w class (others t q class) ≡ w class xs =
          ap (w class) (here q class ∙ rw (eq-eqb q q refl, eq-eqb class class refl) refl) in
          subst P e (rw (eq-eqb q q refl) (omega arith))
      | inr ne ↦
          let other : k ≡ q → ⊥ = λ e. ne (sym e) in
          let same : (u c : ℕ) → others u k c ≡ all u k c = λ u c. elim (cases_eq u t) [
            | inl is ↦
                let Q : ℕ → Type 0 = λ z. others z k c ≡ all z k c in
                subst Q (sym is) (here k c ∙ rw (ne_eqb k q other) refl)
            | inr apart ↦ there u k c apart
          ] in
          let all_same = totals_same w all others k n same in
          rw (ne_eqb q k ne) (omega arith)
    ]

-- ---- slots and bytes

slots_by : ℕ → List Numbered → ℕ
slots_by class xs = length xs

bytes_by : ℕ → List Numbered → ℕ
bytes_by class xs = slot_of class * length xs

levels_slots : (lists : ℕ → List Numbered) (from n : ℕ) → listed_slots lists from n ≡ levels slots_by lists from n
unfolding levels slots_by listed_slots
levels_slots lists from zero = refl
levels_slots lists from (suc n) = ap (λ z. length (lists from) + z) (levels_slots lists (from + 1) n)

levels_bytes : (lists : ℕ → List Numbered) (from n : ℕ) → listed_bytes (λ class. length (lists class)) from n ≡ levels bytes_by lists from n
unfolding levels bytes_by listed_bytes
levels_bytes lists from zero = refl
levels_bytes lists from (suc n) = ap (λ z. slot_of from * length (lists from) + z) (levels_bytes lists (from + 1) n)

totals_slots : (all : Caches) (k n : ℕ) → cached_slots all k n ≡ totals slots_by all k n
unfolding totals
totals_slots all k zero = refl
totals_slots all k (suc n) = let a = levels_slots (all n k) 0 170 in let b = totals_slots all k n in omega arith

totals_bytes : (all : Caches) (k n : ℕ) → cached_bytes all k n ≡ totals bytes_by all k n
unfolding totals
totals_bytes all k zero = refl
totals_bytes all k (suc n) = let a = levels_bytes (all n k) 0 170 in let b = totals_bytes all k n in omega arith

-- what the lists of all threads have, if one list is changed
pub cached_slots_set : (all : Caches) (threads t q class k : ℕ) (xs : List Numbered) → t < threads → class < 170
    → cached_slots (with_cache all t (with_list (all t) q class xs)) k threads + (if q == k then length (all t q class) else 0)
    ≡ cached_slots all k threads + (if q == k then length xs else 0)
unfolding slots_by
cached_slots_set all threads t q class k xs below real =
    let a = totals_slots (with_cache all t (with_list (all t) q class xs)) k threads in
    let b = totals_slots all k threads in
    let whole = totals_set slots_by all threads t q class k xs below real in
    omega arith

pub cached_bytes_set : (all : Caches) (threads t q class k : ℕ) (xs : List Numbered) → t < threads → class < 170
    → cached_bytes (with_cache all t (with_list (all t) q class xs)) k
    threads + (if q == k then slot_of class * length (all t q class) else 0)
    ≡ cached_bytes all k threads + (if q == k then slot_of class * length xs else 0)
unfolding bytes_by
cached_bytes_set all threads t q class k xs below real =
    let a = totals_bytes (with_cache all t (with_list (all t) q class xs)) k threads in
    let b = totals_bytes all k threads in
    let whole = totals_set bytes_by all threads t q class k xs below real in
    omega arith

-- caches with equal lists have equal numbers of cached slots and of cached bytes
pub cached_slots_same : (all others : Caches) (threads k : ℕ) → ((t q class : ℕ) → others t q class ≡ all t q class) →
    cached_slots others k threads ≡ cached_slots all k threads
cached_slots_same all others threads k same =
    totals_slots others k threads ∙ totals_same slots_by all others k threads (λ t c. same t k c) ∙ sym (totals_slots all k threads)

pub cached_bytes_same : (all others : Caches) (threads k : ℕ) → ((t q class : ℕ) → others t q class ≡ all t q class) →
    cached_bytes others k threads ≡ cached_bytes all k threads
cached_bytes_same all others threads k same =
    totals_bytes others k threads ∙ totals_same bytes_by all others k threads (λ t c. same t k c) ∙ sym (totals_bytes all k threads)
