-- What holds of the registers and the caches of each thread holds of the run.
use Rattle.std.proofs.Common.{◌≡◌, ℕ, List, [], ◌∷◌, refl, sym, subst, inl, inr}
use Rattle.std.proofs.lemmas.Bool.{cases_eq, eq-eqb, ne_eqb}
use Rattle.pa_rules.specs.declared.played.Played.{Played}
use Rattle.pa_rules.specs.Registers.{AllRegs, Facts, RowsTo, with_thread}
use Rattle.pa_rules.specs.Roots.{Journals}
use Rattle.pa_rules.specs.Caches.{Caches, CachesTo, with_cache}
use Rattle.pa_logs.specs.Rows.{records_by, HasRows, HasCacheRows, ThreadsMerge}

-- the records of a thread, with one before them that is its, or another's
pub own_first : (k : ℕ) (p : Played) (ps : List Played) → p.thread ≡ k → records_by k (p ∷ ps) ≡ p ∷ records_by k ps
own_first k p ps e = rw (eq-eqb p.thread k e) refl

pub other_first : (k : ℕ) (p : Played) (ps : List Played) → (p.thread ≡ k → ⊥) → records_by k (p ∷ ps) ≡ records_by k ps
other_first k p ps e = rw (ne_eqb p.thread k e) refl

registers : (facts : Facts) (all : AllRegs) (ps : List Played) → ((k : ℕ) → HasRows facts (all k) (records_by k ps)) → (after : AllRegs) ×
    RowsTo facts all ps after
registers facts all [] each = (all, refl)
registers facts all (p ∷ ps) each =
    let (next, row, rest) = subst (λ xs. HasRows facts (all p.thread) xs) (own_first p.thread p ps refl) (each p.thread) in
    let (after, rows) = registers facts (with_thread all p.thread next) ps (λ k. elim (cases_eq k p.thread) [
      | inl e ↦ rw (eq-eqb k p.thread e) (subst (λ n. HasRows facts next (records_by n ps)) (sym e) rest)
      | inr ne ↦ rw (ne_eqb k p.thread ne) (subst (λ xs. HasRows facts (all k) xs) (other_first k p ps (λ e. ne (sym e))) (each k))
    ]) in
    (after, (next, row, rows))

caches : (partitions : ℕ) (roots : Journals) (all : Caches) (ps : List Played) →
    ((k : ℕ) → HasCacheRows partitions roots (all k) (records_by k ps)) →
    (after : Caches) × CachesTo partitions roots all ps after
caches partitions roots all [] each = (all, refl)
caches partitions roots all (p ∷ ps) each =
    let (next, row, rest) = subst (λ xs. HasCacheRows partitions roots (all p.thread) xs) (own_first p.thread p ps refl) (each p.thread) in
    let (after, rows) = caches partitions roots (with_cache all p.thread next) ps (λ k. elim (cases_eq k p.thread) [
      | inl e ↦ rw (eq-eqb k p.thread e) (subst (λ n. HasCacheRows partitions roots next (records_by n ps)) (sym e) rest)
      | inr ne ↦ rw (ne_eqb k p.thread ne)
          (subst (λ xs. HasCacheRows partitions roots (all k) xs) (other_first k p ps (λ e. ne (sym e))) (each k))
    ]) in
    (after, (next, row, rows))

pub threads_merge : ThreadsMerge
threads_merge = record { registers = registers; caches = caches }
