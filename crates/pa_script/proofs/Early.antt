-- What was read of a script to one byte past the limit has the fault of all that follows it.
use Rattle.std.proofs.Common.{◌≡◌, ℕ, ◌+◌, List, [], ◌∷◌, ◌++◌, length, inl, inr, subst, ◌∙◌, arith}
use Rattle.pa_trace.specs.declared.fault.TraceFault.{TraceFault}
use Rattle.pa_trace.specs.Faults.{lines_of, IsFaultOf}
use Rattle.pa_trace.proofs.Early.{Extends, total, lines_total, lines_extend, past_stays}
use Rattle.pa_script.specs.Faults.{IsPastScript, IsBadScriptLine, IsBadScriptHead, IsScriptLineOverLimit, IsScriptHeadOverLimit}
use Rattle.pa_script.specs.Faults.{IsFirstScriptBehind, IsFirstScriptOf, IsFirstScriptFault}

behind_stays : (partitions threads : ℕ) (xs ys : List (List ℕ)) (n before : ℕ) (e : TraceFault) → before + total xs ≡ 4194305 →
    Extends xs ys → IsFirstScriptBehind partitions threads n before xs e
    → IsFirstScriptBehind partitions threads n before ys e
behind_stays partitions threads [] ys n before e full longer h = absurd h
behind_stays partitions threads (x ∷ []) [] n before e full longer h = absurd longer
behind_stays partitions threads (x ∷ []) (y ∷ ys) n before e full longer (inl h) =
    inl (past_stays n (IsPastScript n before x) (IsBadScriptLine x) (IsScriptLineOverLimit partitions threads x)
    (IsPastScript n before y) (IsBadScriptLine y) (IsScriptLineOverLimit partitions threads y) e (inr (omega arith)) (inr (omega arith)) h)
behind_stays partitions threads (x ∷ []) (y ∷ ys) n before e full longer (inr g) = absurd g.4
behind_stays partitions threads (x ∷ w ∷ xs) [] n before e full longer h = absurd longer
behind_stays partitions threads (x ∷ w ∷ xs) (y ∷ ys) n before e full longer (inl h) =
    inl (subst (λ (z : List ℕ). IsFaultOf n (IsPastScript n before z) (IsBadScriptLine z) (IsScriptLineOverLimit partitions threads z) e)
    longer.0 h)
behind_stays partitions threads (x ∷ w ∷ xs) (y ∷ ys) n before e full longer (inr g) =
    let later = behind_stays partitions threads (w ∷ xs) ys (n + 1) (before + length x) e (omega arith) longer.1 g.4 in
    subst (λ (z : List ℕ). IsFirstScriptBehind partitions threads n before (z ∷ ys) e) longer.0 (inr (g.0, g.1, g.2, g.3, later))

first_stays : (xs ys : List (List ℕ)) (e : TraceFault) → total xs ≡ 4194305 → Extends xs ys → IsFirstScriptOf xs e → IsFirstScriptOf ys e
first_stays [] ys e full longer h = absurd (omega arith)
first_stays (x ∷ []) [] e full longer h = absurd longer
first_stays (x ∷ []) (y ∷ ys) e full longer (inl h) =
    inl (past_stays 1 (IsPastScript 1 0 x) (IsBadScriptHead x) (IsScriptHeadOverLimit x)
    (IsPastScript 1 0 y) (IsBadScriptHead y) (IsScriptHeadOverLimit y) e (inr (omega arith)) (inr (omega arith)) h)
first_stays (x ∷ []) (y ∷ ys) e full longer (inr g) = absurd g.6
first_stays (x ∷ w ∷ xs) [] e full longer h = absurd longer
first_stays (x ∷ w ∷ xs) (y ∷ ys) e full longer (inl h) =
    inl (subst (λ (z : List ℕ). IsFaultOf 1 (IsPastScript 1 0 z) (IsBadScriptHead z) (IsScriptHeadOverLimit z) e) longer.0 h)
first_stays (x ∷ w ∷ xs) (y ∷ ys) e full longer (inr g) =
    let later = behind_stays g.1 g.2 (w ∷ xs) ys 2 (length x) e full longer.1 g.6 in
    subst (λ (z : List ℕ). IsFirstScriptOf (z ∷ ys) e) longer.0 (inr (g.0, g.1, g.2, g.3, g.4, g.5, later))

pub script_fault_early : (e : TraceFault) (bytes more : List ℕ) → length bytes ≡ 4194305 → IsFirstScriptFault e bytes →
    IsFirstScriptFault e (bytes ++ more)
script_fault_early e bytes more full h =
    first_stays (lines_of bytes) (lines_of (bytes ++ more)) e (lines_total bytes ∙ full) (lines_extend bytes more) h
