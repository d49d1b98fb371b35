-- The lines of a report, phase after phase.
use Rattle.std.proofs.Common.{ℕ, suc, zero, arith, ap, sym, ◌≡◌, ◌+◌, ◌++◌, ◌∙◌}
use Rattle.pa_rules.specs.Report.{phases_of, partitions_of}
use Rattle.std.proofs.lemmas.List.{append-nil, append_assoc}

pub phases_push : (m n k : ℕ) → phases_of m n (suc k) ≡ phases_of m n k ++ partitions_of (n + k) 0 m
phases_push m n zero = let e : n ≡ n + 0 = omega arith in append-nil (partitions_of n 0 m) ∙ ap (λ z. partitions_of z 0 m) e
phases_push m n (suc k) =
    let e : n + 1 + k ≡ n + suc k = omega arith in
    ap (λ zs. partitions_of n 0 m ++ zs) (phases_push m (n + 1) k ∙ ap (λ z. phases_of m (n + 1) k ++ partitions_of z 0 m) e)
    ∙ sym (append_assoc (partitions_of n 0 m) (phases_of m (n + 1) k) (partitions_of (n + suc k) 0 m))
