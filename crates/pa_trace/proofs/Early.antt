-- The lines of a text are those of a longer one, up to the last, which may go on there.
use Rattle.std.proofs.Common.{◌≡◌, ℕ, ◌+◌, ◌≤◌, List, [], ◌∷◌, ◌++◌, length, inl, inr, refl, sym, ap, subst, ◌∙◌, arith}
use Rattle.std.proofs.lemmas.Bool.{cases_eq}
use Rattle.pa_trace.specs.declared.fault.TraceFault.{TraceFault}
use Rattle.pa_trace.specs.declared.fault.TraceFault.TheVariants.{BadLine, Limit, OutOfMemory}
use Rattle.pa_trace.specs.Faults.{with_front, lines_of, IsPast, IsBadLine, IsBadHead, IsLineOverLimit, IsHeadOverLimit, IsFaultOf, IsFirstBehind, IsFirstOf, IsFirstFault, IsFault}
use Rattle.pa_trace.proofs.Cuts.{other_front}

-- the longer list has the same lines, and its line at the place of the last one may be longer
abbrev pub Extends : List (List ℕ) → List (List ℕ) → Type 0
Extends [] ys = Unit {0}
Extends (x ∷ []) [] = ⊥
Extends (x ∷ []) (y ∷ ys) = length x ≤ length y
Extends (x ∷ w ∷ xs) [] = ⊥
Extends (x ∷ w ∷ xs) (y ∷ ys) = (x ≡ y) × Extends (w ∷ xs) ys

-- that many bytes in all
abbrev pub total : List (List ℕ) → ℕ
total [] = 0
total (x ∷ xs) = length x + total xs

lf_total : (lines : List (List ℕ)) → total (with_front 10 lines) ≡ 1 + total lines
lf_total [] = refl
lf_total (line ∷ lines) = refl

other_total : (b : ℕ) (lines : List (List ℕ)) → (b ≡ 10 → ⊥) → total (with_front b lines) ≡ 1 + total lines
other_total b [] other = refl
other_total b (line ∷ lines) other = ap total (other_front b line lines other) ∙ omega arith

front_total : (b : ℕ) (lines : List (List ℕ)) → total (with_front b lines) ≡ 1 + total lines
front_total b lines =
    elim (cases_eq b 10) [ inl lf ↦ ap (λ (x : ℕ). total (with_front x lines)) lf ∙ lf_total lines | inr other ↦ other_total b lines other ]

pub lines_total : (bytes : List ℕ) → total (lines_of bytes) ≡ length bytes
unfolding lines_of
lines_total [] = refl
lines_total (b ∷ bytes) = front_total b (lines_of bytes) ∙ omega (arith, lines_total bytes)

-- ---- a byte before both

some_extended : (x : List ℕ) (xs : List (List ℕ)) → Extends (x ∷ xs) [] → ⊥
some_extended x [] h = h
some_extended x (w ∷ xs) h = h

lf_extends : (xs ys : List (List ℕ)) → Extends xs ys → Extends (with_front 10 xs) (with_front 10 ys)
lf_extends [] [] h = omega arith
lf_extends [] (y ∷ ys) h = omega arith
lf_extends (x ∷ xs) [] h = absurd (some_extended x xs h)
lf_extends (x ∷ xs) (y ∷ ys) h = (refl, h)

grown : (b : ℕ) (x y : List ℕ) (xs ys : List (List ℕ)) → Extends (x ∷ xs) (y ∷ ys) → Extends ((b ∷ x) ∷ xs) ((b ∷ y) ∷ ys)
grown b x y [] ys h = omega arith
grown b x y (w ∷ xs) ys h = (ap (λ (z : List ℕ). b ∷ z) h.0, h.1)

other_extends : (b : ℕ) (xs ys : List (List ℕ)) → (b ≡ 10 → ⊥) → Extends xs ys → Extends (with_front b xs) (with_front b ys)
other_extends b [] [] other h = omega arith
other_extends b [] (y ∷ ys) other h = rw (other_front b y ys other) (omega arith)
other_extends b (x ∷ xs) [] other h = absurd (some_extended x xs h)
other_extends b (x ∷ xs) (y ∷ ys) other h = rw (other_front b x xs other, other_front b y ys other) (grown b x y xs ys h)

front_extends : (b : ℕ) (xs ys : List (List ℕ)) → Extends xs ys → Extends (with_front b xs) (with_front b ys)
front_extends b xs ys h =
    elim (cases_eq b 10) [
      | inl lf ↦ subst (λ (x : ℕ). Extends (with_front x xs) (with_front x ys)) (sym lf) (lf_extends xs ys h)
      | inr other ↦ other_extends b xs ys other h
    ]

pub lines_extend : (bytes more : List ℕ) → Extends (lines_of bytes) (lines_of (bytes ++ more))
unfolding lines_of
lines_extend [] more = tt
lines_extend (b ∷ bytes) more = front_extends b (lines_of bytes) (lines_of (bytes ++ more)) (lines_extend bytes more)

-- ---- the fault of the shorter is the fault of the longer

-- if a line is past and its fault says so, a longer line in its place that is past has this fault
pub past_stays : (n : ℕ) (past bad over past_longer bad_longer over_longer : Type 0) (e : TraceFault) → past → past_longer
    → IsFaultOf n past bad over e → IsFaultOf n past_longer bad_longer over_longer e
past_stays n past bad over past_longer bad_longer over_longer (BadLine m) full longer h = absurd (h.1 full)
past_stays n past bad over past_longer bad_longer over_longer (Limit m) full longer h = (h.0, inl longer)
past_stays n past bad over past_longer bad_longer over_longer OutOfMemory full longer h = h

behind_stays : (partitions threads : ℕ) (xs ys : List (List ℕ)) (n before : ℕ) (e : TraceFault) → before + total xs ≡ 4194305
    → Extends xs ys → IsFirstBehind partitions threads n before xs e → IsFirstBehind partitions threads n before ys e
behind_stays partitions threads [] ys n before e full longer h = absurd h
behind_stays partitions threads (x ∷ []) [] n before e full longer h = absurd longer
behind_stays partitions threads (x ∷ []) (y ∷ ys) n before e full longer (inl h) =
    inl (past_stays n (IsPast n before x) (IsBadLine x) (IsLineOverLimit partitions threads x)
    (IsPast n before y) (IsBadLine y) (IsLineOverLimit partitions threads y) e (inr (omega arith)) (inr (omega arith)) h)
behind_stays partitions threads (x ∷ []) (y ∷ ys) n before e full longer (inr g) = absurd g.4
behind_stays partitions threads (x ∷ w ∷ xs) [] n before e full longer h = absurd longer
behind_stays partitions threads (x ∷ w ∷ xs) (y ∷ ys) n before e full longer (inl h) =
    inl (subst (λ (z : List ℕ). IsFaultOf n (IsPast n before z) (IsBadLine z) (IsLineOverLimit partitions threads z) e) longer.0 h)
behind_stays partitions threads (x ∷ w ∷ xs) (y ∷ ys) n before e full longer (inr g) =
    let later = behind_stays partitions threads (w ∷ xs) ys (n + 1) (before + length x) e (omega arith) longer.1 g.4 in
    subst (λ (z : List ℕ). IsFirstBehind partitions threads n before (z ∷ ys) e) longer.0 (inr (g.0, g.1, g.2, g.3, later))

first_stays : (known : ℕ) (xs ys : List (List ℕ)) (e : TraceFault) → total xs ≡ 4194305 → Extends xs ys → IsFirstOf known xs e →
    IsFirstOf known ys e
first_stays known [] ys e full longer h = absurd (omega arith)
first_stays known (x ∷ []) [] e full longer h = absurd longer
first_stays known (x ∷ []) (y ∷ ys) e full longer (inl h) =
    inl (past_stays 1 (IsPast 1 0 x) (IsBadHead known x) (IsHeadOverLimit known x) (IsPast 1 0 y) (IsBadHead known y)
    (IsHeadOverLimit known y) e
    (inr (omega arith)) (inr (omega arith)) h)
first_stays known (x ∷ []) (y ∷ ys) e full longer (inr g) = absurd g.4
first_stays known (x ∷ w ∷ xs) [] e full longer h = absurd longer
first_stays known (x ∷ w ∷ xs) (y ∷ ys) e full longer (inl h) =
    inl (subst (λ (z : List ℕ). IsFaultOf 1 (IsPast 1 0 z) (IsBadHead known z) (IsHeadOverLimit known z) e) longer.0 h)
first_stays known (x ∷ w ∷ xs) (y ∷ ys) e full longer (inr g) =
    let later = behind_stays g.0.partitions g.0.threads (w ∷ xs) ys 2 (length x) e full longer.1 g.4 in
    subst (λ (z : List ℕ). IsFirstOf known (z ∷ ys) e) longer.0 (inr (g.0, g.1, g.2, g.3, later))

pub first_early : (known : ℕ) (e : TraceFault) (bytes more : List ℕ) → length bytes ≡ 4194305 → IsFirstFault known e bytes →
    IsFirstFault known e (bytes ++ more)
first_early known e bytes more full h =
    first_stays known (lines_of bytes) (lines_of (bytes ++ more)) e (lines_total bytes ∙ full) (lines_extend bytes more) h

pub fault_early : (known : ℕ) (e : TraceFault) (bytes more : List ℕ) → length bytes ≡ 4194305 → IsFault known e bytes →
    IsFault known e (bytes ++ more)
fault_early known (BadLine n) bytes more full h = first_early known (BadLine n) bytes more full h
fault_early known (Limit n) bytes more full h = first_early known (Limit n) bytes more full h
fault_early known OutOfMemory bytes more full h = tt
