-- The first faulty line is one, an input has none, and what is no input has one.
use Rattle.std.proofs.Common.{◌≡◌, ℕ, ◌+◌, ◌≤◌, List, [], ◌∷◌, ◌++◌, length, inl, inr, refl, sym, ap, subst, ◌∙◌, arith}
use Rattle.std.specs.List.{AllByRecursion}
use Rattle.std.proofs.lemmas.List.{length_push, length-append, same_from_push}
use Rattle.pa_trace.specs.declared.fault.TraceFault.{TraceFault}
use Rattle.pa_trace.specs.declared.fault.TraceFault.TheVariants.{BadLine, Limit, OutOfMemory}
use Rattle.pa_trace.specs.declared.script.Trace.{Trace}
use Rattle.pa_trace.specs.declared.line.Head.{Head}
use Rattle.pa_trace.specs.declared.script.Line.{Line}
use Rattle.pa_trace.specs.Grammar.{IsVersionTo, IsHeadText, IsLineText, AreLinesText, head_of_trace}
use Rattle.pa_trace.specs.Limits.{IsHeadWithin, IsLineWithin, IsInput}
use Rattle.pa_trace.specs.Faults.{lines_of, IsPast, IsHeadLine, IsBodyLine, IsBadHead, IsBadLine, IsHeadOverLimit, IsLineOverLimit, IsFaultOf, IsFirstBehind, IsFirstOf, IsFirstFault}
use Rattle.pa_trace.proofs.Cuts.{no_lines, line_line, head_line}
use Rattle.pa_trace.proofs.Behind.{cut_of, not_past}
use Rattle.pa_trace.proofs.Texts.{one_line_of, one_head_of}

-- ---- the faults of one line

-- a line that is in the grammar and the limits and is not past has no fault
pub no_fault : (n : ℕ) (past bad over : Type 0) (e : TraceFault) → (past → ⊥) → (bad → ⊥) → (over → ⊥) → IsFaultOf n past bad over e → ⊥
no_fault n past bad over (BadLine m) a b c h = b h.2
no_fault n past bad over (Limit m) a b c h = elim h.1 [ inl p ↦ a p | inr o ↦ c o ]
no_fault n past bad over OutOfMemory a b c h = h

-- a line has one fault
pub same_fault : (n : ℕ) (past bad over : Type 0) (d e : TraceFault) → (bad → over → ⊥) → IsFaultOf n past bad over d →
    IsFaultOf n past bad over e → d ≡ e
same_fault n past bad over (BadLine l) (BadLine m) apart h k = ap (λ (x : ℕ). BadLine x) (h.0 ∙ sym k.0)
same_fault n past bad over (BadLine l) (Limit m) apart h k = absurd (elim k.1 [ inl p ↦ h.1 p | inr o ↦ apart h.2 o ])
same_fault n past bad over (BadLine l) OutOfMemory apart h k = absurd k
same_fault n past bad over (Limit l) (BadLine m) apart h k = absurd (elim h.1 [ inl p ↦ k.1 p | inr o ↦ apart k.2 o ])
same_fault n past bad over (Limit l) (Limit m) apart h k = ap (λ (x : ℕ). Limit x) (h.0 ∙ sym k.0)
same_fault n past bad over (Limit l) OutOfMemory apart h k = absurd k
same_fault n past bad over OutOfMemory e apart h k = absurd h

-- ---- a line is the text of one line

pub texts_same : (line a b : List ℕ) → line ≡ a ++ 10 ∷ [] → line ≡ b ++ 10 ∷ [] → a ≡ b
texts_same line a b h k = (same_from_push a b 10 10 (sym h ∙ k)).0

one_body : (k l : Line) (line : List ℕ) → IsBodyLine k line → IsBodyLine l line → k ≡ l
one_body k l line h g = one_line_of k l g.0 (subst (λ (x : List ℕ). IsLineText k x) (texts_same line h.0 g.0 h.2 g.2) h.1) g.1

one_head : (known : ℕ) (a b : Head) (line : List ℕ) → IsHeadLine known a line → IsHeadLine known b line → a ≡ b
one_head known a b line h g = one_head_of a b g.0 (subst (λ (x : List ℕ). IsHeadText a x) (texts_same line h.0 g.0 h.2 g.2) h.1) g.1

-- a line within the limits is not over one
not_over : (partitions threads : ℕ) (l : Line) (line : List ℕ) → IsBodyLine l line → IsLineWithin partitions threads l →
    IsLineOverLimit partitions threads line → ⊥
not_over partitions threads l line h within over =
    over.2 (subst (λ (x : Line). IsLineWithin partitions threads x) (one_body l over.0 line h over.1) within)

head_not_over : (known : ℕ) (a : Head) (line : List ℕ) → IsHeadLine known a line → IsHeadWithin a → IsHeadOverLimit known line → ⊥
head_not_over known a line h within over = over.2 (subst IsHeadWithin (one_head known a over.0 line h over.1) within)

-- ---- two first faults are the same

one_behind : (partitions threads : ℕ) (lines : List (List ℕ)) (n before : ℕ) (d e : TraceFault)
    → IsFirstBehind partitions threads n before lines d → IsFirstBehind partitions threads n before lines e → d ≡ e
one_behind partitions threads [] n before d e h k = absurd h
one_behind partitions threads (line ∷ lines) n before d e (inl h) (inl k) =
    same_fault n (IsPast n before line) (IsBadLine line) (IsLineOverLimit partitions threads line) d e (λ bad over. bad over.0 over.1) h k
one_behind partitions threads (line ∷ lines) n before d e (inl h) (inr g) =
    absurd (no_fault n (IsPast n before line) (IsBadLine line) (IsLineOverLimit partitions threads line) d g.3 (λ bad. bad g.0 g.1)
    (not_over partitions threads g.0 line g.1 g.2) h)
one_behind partitions threads (line ∷ lines) n before d e (inr g) (inl k) =
    absurd (no_fault n (IsPast n before line) (IsBadLine line) (IsLineOverLimit partitions threads line) e g.3 (λ bad. bad g.0 g.1)
    (not_over partitions threads g.0 line g.1 g.2) k)
one_behind partitions threads (line ∷ lines) n before d e (inr g) (inr f) =
    one_behind partitions threads lines (n + 1) (before + length line) d e g.4 f.4

one_of : (known : ℕ) (lines : List (List ℕ)) (d e : TraceFault) → IsFirstOf known lines d → IsFirstOf known lines e → d ≡ e
one_of known [] d e h k = h ∙ sym k
one_of known (line ∷ lines) d e (inl h) (inl k) =
    same_fault 1 (IsPast 1 0 line) (IsBadHead known line) (IsHeadOverLimit known line) d e (λ bad over. bad over.0 over.1) h k
one_of known (line ∷ lines) d e (inl h) (inr g) =
    absurd (no_fault 1 (IsPast 1 0 line) (IsBadHead known line) (IsHeadOverLimit known line) d g.3 (λ bad. bad g.0 g.1)
    (head_not_over known g.0 line g.1 g.2) h)
one_of known (line ∷ lines) d e (inr g) (inl k) =
    absurd (no_fault 1 (IsPast 1 0 line) (IsBadHead known line) (IsHeadOverLimit known line) e g.3 (λ bad. bad g.0 g.1)
    (head_not_over known g.0 line g.1 g.2) k)
one_of known (line ∷ lines) d e (inr g) (inr f) =
    one_behind f.0.partitions f.0.threads lines 2 (length line) d e
    (subst (λ (x : Head). IsFirstBehind x.partitions x.threads 2 (length line) lines d) (one_head known g.0 f.0 line g.1 f.1) g.4) f.4

pub one_fault : (known : ℕ) (d e : TraceFault) (bytes : List ℕ) → IsFirstFault known d bytes → IsFirstFault known e bytes → d ≡ e
one_fault known d e bytes h k = one_of known (lines_of bytes) d e h k

-- ---- an input has no fault

none_here : (partitions threads n before : ℕ) (l : Line) (line : List ℕ) (lines : List (List ℕ)) (e : TraceFault) → IsLineText l line
    → IsLineWithin partitions threads l → n ≤ 65536 → before + (length line + 1) ≤ 4194304
    → (IsFirstBehind partitions threads (n + 1) (before + length (line ++ 10 ∷ [])) lines e → ⊥) →
    IsFirstBehind partitions threads n before ((line ++ 10 ∷ []) ∷ lines) e → ⊥
none_here partitions threads n before l line lines e text within few short rest (inl h) =
    no_fault n (IsPast n before (line ++ 10 ∷ [])) (IsBadLine (line ++ 10 ∷ [])) (IsLineOverLimit partitions threads (line ++ 10 ∷ [])) e
    (not_past n before line few short) (λ bad. bad l (line, text, refl))
    (not_over partitions threads l (line ++ 10 ∷ []) (line, text, refl) within) h
none_here partitions threads n before l line lines e text within few short rest (inr g) = rest g.4

none_behind : (partitions threads : ℕ) (ls : List Line) (n before : ℕ) (bytes : List ℕ) (e : TraceFault) → AreLinesText ls bytes →
    AllByRecursion (IsLineWithin partitions threads) ls
    → n + length ls ≤ 65537 → before + length bytes ≤ 4194304 → IsFirstBehind partitions threads n before (lines_of bytes) e → ⊥
none_behind partitions threads [] n before bytes e text within few short h =
    subst (λ (x : List (List ℕ)). IsFirstBehind partitions threads n before x e) (ap lines_of text ∙ no_lines) h
none_behind partitions threads (l ∷ ls) n before bytes e text within few short h =
    let line = text.0 in
    let taken : length bytes ≡ length line + (length text.1 + 1) = ap length text.4 ∙ simp length-append (omega arith) in
    let here = subst (λ (x : List (List ℕ)). IsFirstBehind partitions threads n before x e)
    (cut_of bytes line text.1 (line_line l line text.2) text.4) h in
    none_here partitions threads n before l line (lines_of text.1) e text.2 within.0 (omega arith) (omega (arith, taken))
    (none_behind partitions threads ls (n + 1) (before + length (line ++ 10 ∷ [])) text.1 e text.3 within.1 (omega arith)
    (omega (arith, taken, length_push line 10))) here

none_of : (known : ℕ) (a : Head) (line : List ℕ) (lines : List (List ℕ)) (e : TraceFault) → IsHeadText a line → IsHeadWithin a →
    IsVersionTo known a.version
    → length line + 1 ≤ 4194304 → (IsFirstBehind a.partitions a.threads 2 (length (line ++ 10 ∷ [])) lines e → ⊥)
    → IsFirstOf known ((line ++ 10 ∷ []) ∷ lines) e → ⊥
none_of known a line lines e text within to short rest (inl h) =
    no_fault 1 (IsPast 1 0 (line ++ 10 ∷ [])) (IsBadHead known (line ++ 10 ∷ [])) (IsHeadOverLimit known (line ++ 10 ∷ [])) e
    (not_past 1 0 line (omega arith) (omega arith)) (λ bad. bad a (line, text, refl, to))
    (head_not_over known a (line ++ 10 ∷ []) (line, text, refl, to) within) h
none_of known a line lines e text within to short rest (inr g) =
    rest (subst (λ (x : Head). IsFirstBehind x.partitions x.threads 2 (length (line ++ 10 ∷ [])) lines e)
    (one_head known g.0 a (line ++ 10 ∷ []) g.1 (line, text, refl, to)) g.4)

pub no_fault_of_input : (known : ℕ) (t : Trace) (bytes : List ℕ) (e : TraceFault) → t.version ≤ known → IsInput t bytes →
    IsFirstFault known e bytes → ⊥
no_fault_of_input known t bytes e recent input h =
    let text = input.text in
    let head = text.0 in
    let taken : length bytes ≡ length head + (length text.1 + 1) = ap length text.4 ∙ simp length-append (omega arith) in
    let here = subst (λ (x : List (List ℕ)). IsFirstOf known x e)
    (cut_of bytes head text.1 (head_line (head_of_trace t) head text.2) text.4) h in
    none_of known (head_of_trace t) head (lines_of text.1) e text.2 input.limits.head (input.limits.version.0, recent)
    (omega (arith, taken, input.short))
    (none_behind t.partitions t.threads t.lines 2 (length (head ++ 10 ∷ [])) text.1 e text.3 input.limits.lines
    (omega (arith, input.limits.few)) (omega (arith, taken, length_push head 10, input.short))) here
