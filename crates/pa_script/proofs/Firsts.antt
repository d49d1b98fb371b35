-- The first faulty line of a script is one, and the text of a script has none.
use Rattle.std.proofs.Common.{◌≡◌, ◌∙◌, ℕ, ◌+◌, ◌≤◌, List, [], ◌∷◌, ◌++◌, length, inl, inr, refl, sym, ap, subst, arith}
use Rattle.std.specs.List.{AllByRecursion}
use Rattle.std.proofs.lemmas.List.{length_push, length-append}
use Rattle.pa_trace.specs.declared.fault.TraceFault.{TraceFault}
use Rattle.pa_trace.specs.Rules.{first_head}
use Rattle.pa_trace.specs.Limits.{IsHeadWithin}
use Rattle.pa_trace.specs.Faults.{lines_of, IsFaultOf}
use Rattle.pa_trace.proofs.Cuts.{no_lines}
use Rattle.pa_trace.proofs.Behind.{cut_of}
use Rattle.pa_trace.proofs.Firsts.{no_fault, same_fault, texts_same}
use Rattle.pa_script.specs.declared.script.Script.{Script}
use Rattle.pa_script.specs.declared.script.ScriptLine.{ScriptLine}
use Rattle.pa_script.specs.Grammar.{IsScriptHeadText, IsScriptLineText, AreScriptLinesText}
use Rattle.pa_script.specs.Limits.{IsScriptLineWithin, IsScriptInput}
use Rattle.pa_script.specs.Faults.{IsPastScript, IsScriptHeadLine, IsScriptBodyLine, IsBadScriptHead, IsBadScriptLine, IsScriptHeadOverLimit, IsScriptLineOverLimit}
use Rattle.pa_script.specs.Faults.{IsFirstScriptBehind, IsFirstScriptOf, IsFirstScriptFault}
use Rattle.pa_script.proofs.Texts.{script_line_one, script_head_one, one_script_line, one_script_head}

not_past : (n before : ℕ) (line : List ℕ) → n ≤ 10000 → before + (length line + 1) ≤ 4194304 → IsPastScript n before (line ++ 10 ∷ []) → ⊥
not_past n before line few short (inl many) = omega arith
not_past n before line few short (inr long) = omega (arith, length_push line 10)

-- ---- a line is the text of one line

one_body : (k l : ScriptLine) (line : List ℕ) → IsScriptBodyLine k line → IsScriptBodyLine l line → k ≡ l
one_body k l line h g = one_script_line k l g.0 (subst (λ (x : List ℕ). IsScriptLineText k x) (texts_same line h.0 g.0 h.2 g.2) h.1) g.1

one_head : (r p t s q u : ℕ) (line : List ℕ) → IsScriptHeadLine r p t line → IsScriptHeadLine s q u line →
    ◌≡◌ {A = ℕ × ℕ × ℕ} (r, p, t) (s, q, u)
one_head r p t s q u line h g =
    one_script_head r p t s q u g.0 (subst (λ (x : List ℕ). IsScriptHeadText r p t x) (texts_same line h.0 g.0 h.2 g.2) h.1) g.1

-- a line within the limits is not over one
not_over : (partitions threads : ℕ) (l : ScriptLine) (line : List ℕ) → IsScriptBodyLine l line → IsScriptLineWithin partitions threads l
    → IsScriptLineOverLimit partitions threads line → ⊥
not_over partitions threads l line h within over =
    over.2 (subst (λ (x : ScriptLine). IsScriptLineWithin partitions threads x) (one_body l over.0 line h over.1) within)

head_not_over : (r p t : ℕ) (line : List ℕ) → IsScriptHeadLine r p t line → IsHeadWithin (first_head r p t) → IsScriptHeadOverLimit line → ⊥
head_not_over r p t line h within over =
    over.4 (subst (λ (x : ℕ × ℕ × ℕ). IsHeadWithin (first_head x.0 x.1 x.2)) (one_head r p t over.0 over.1 over.2 line h over.3) within)

-- ---- two first faults are the same

module _ (partitions threads : ℕ) where
  sound_line : (n before : ℕ) (line : List ℕ) (l : ScriptLine) (e : TraceFault) → IsScriptBodyLine l line →
      IsScriptLineWithin partitions threads l
      → (IsPastScript n before line → ⊥) →
      IsFaultOf n (IsPastScript n before line) (IsBadScriptLine line) (IsScriptLineOverLimit partitions threads line) e → ⊥
  sound_line n before line l e body within few h =
      no_fault n (IsPastScript n before line) (IsBadScriptLine line) (IsScriptLineOverLimit partitions threads line) e few
      (λ bad. bad l body)
      (not_over partitions threads l line body within) h

  one_behind : (lines : List (List ℕ)) (n before : ℕ) (d e : TraceFault) → IsFirstScriptBehind partitions threads n before lines d
      → IsFirstScriptBehind partitions threads n before lines e → d ≡ e
  one_behind [] n before d e h k = absurd h
  one_behind (line ∷ lines) n before d e (inl h) (inl k) =
      same_fault n (IsPastScript n before line) (IsBadScriptLine line) (IsScriptLineOverLimit partitions threads line) d e
      (λ bad over. bad over.0 over.1) h k
  one_behind (line ∷ lines) n before d e (inl h) (inr g) = absurd (sound_line n before line g.0 d g.1 g.2 g.3 h)
  one_behind (line ∷ lines) n before d e (inr g) (inl k) = absurd (sound_line n before line g.0 e g.1 g.2 g.3 k)
  one_behind (line ∷ lines) n before d e (inr g) (inr f) = one_behind lines (n + 1) (before + length line) d e g.4 f.4

sound_head : (line : List ℕ) (r p t : ℕ) (e : TraceFault) → IsScriptHeadLine r p t line → IsHeadWithin (first_head r p t) →
    (IsPastScript 1 0 line → ⊥)
    → IsFaultOf 1 (IsPastScript 1 0 line) (IsBadScriptHead line) (IsScriptHeadOverLimit line) e → ⊥
sound_head line r p t e head within few h =
    no_fault 1 (IsPastScript 1 0 line) (IsBadScriptHead line) (IsScriptHeadOverLimit line) e few (λ bad. bad r p t head)
    (head_not_over r p t line head within) h

one_of : (lines : List (List ℕ)) (d e : TraceFault) → IsFirstScriptOf lines d → IsFirstScriptOf lines e → d ≡ e
one_of [] d e h k = h ∙ sym k
one_of (line ∷ lines) d e (inl h) (inl k) =
    same_fault 1 (IsPastScript 1 0 line) (IsBadScriptHead line) (IsScriptHeadOverLimit line) d e
    (λ bad over. bad over.0 over.1 over.2 over.3) h k
one_of (line ∷ lines) d e (inl h) (inr g) = absurd (sound_head line g.0 g.1 g.2 d g.3 g.4 g.5 h)
one_of (line ∷ lines) d e (inr g) (inl k) = absurd (sound_head line g.0 g.1 g.2 e g.3 g.4 g.5 k)
one_of (line ∷ lines) d e (inr g) (inr f) =
    one_behind f.1 f.2 lines 2 (length line) d e
    (subst (λ (x : ℕ × ℕ × ℕ). IsFirstScriptBehind x.1 x.2 2 (length line) lines d) (one_head g.0 g.1 g.2 f.0 f.1 f.2 line g.3 f.3) g.6) f.6

pub one_script_fault : (d e : TraceFault) (bytes : List ℕ) → IsFirstScriptFault d bytes → IsFirstScriptFault e bytes → d ≡ e
one_script_fault d e bytes h k = one_of (lines_of bytes) d e h k

-- ---- the text of a script has no fault

none_here : (partitions threads n before : ℕ) (l : ScriptLine) (line : List ℕ) (lines : List (List ℕ)) (e : TraceFault) →
    IsScriptLineText l line
    → IsScriptLineWithin partitions threads l → n ≤ 10000 → before + (length line + 1) ≤ 4194304
    → (IsFirstScriptBehind partitions threads (n + 1) (before + length (line ++ 10 ∷ [])) lines e → ⊥)
    → IsFirstScriptBehind partitions threads n before ((line ++ 10 ∷ []) ∷ lines) e → ⊥
none_here partitions threads n before l line lines e text within few short rest (inl h) =
    sound_line partitions threads n before (line ++ 10 ∷ []) l e (line, text, refl) within (not_past n before line few short) h
none_here partitions threads n before l line lines e text within few short rest (inr g) = rest g.4

none_behind : (partitions threads : ℕ) (ls : List ScriptLine) (n before : ℕ) (bytes : List ℕ) (e : TraceFault) → AreScriptLinesText ls bytes
    → AllByRecursion (IsScriptLineWithin partitions threads) ls → n + length ls ≤ 10001 → before + length bytes ≤ 4194304
    → IsFirstScriptBehind partitions threads n before (lines_of bytes) e → ⊥
none_behind partitions threads [] n before bytes e text within few short h =
    subst (λ (x : List (List ℕ)). IsFirstScriptBehind partitions threads n before x e) (ap lines_of text ∙ no_lines) h
none_behind partitions threads (l ∷ ls) n before bytes e text within few short h =
    let line = text.0 in
    let taken : length bytes ≡ length line + (length text.1 + 1) = ap length text.4 ∙ simp length-append (omega arith) in
    let here = subst (λ (x : List (List ℕ)). IsFirstScriptBehind partitions threads n before x e)
    (cut_of bytes line text.1 (script_line_one l line text.2) text.4) h in
    none_here partitions threads n before l line (lines_of text.1) e text.2 within.0 (omega arith) (omega (arith, taken))
    (none_behind partitions threads ls (n + 1) (before + length (line ++ 10 ∷ [])) text.1 e text.3 within.1 (omega arith)
    (omega (arith, taken, length_push line 10))) here

none_of : (r p t : ℕ) (line : List ℕ) (lines : List (List ℕ)) (e : TraceFault) → IsScriptHeadText r p t line →
    IsHeadWithin (first_head r p t) → length line + 1 ≤ 4194304
    → (IsFirstScriptBehind p t 2 (length (line ++ 10 ∷ [])) lines e → ⊥) → IsFirstScriptOf ((line ++ 10 ∷ []) ∷ lines) e → ⊥
none_of r p t line lines e text within short rest (inl h) =
    sound_head (line ++ 10 ∷ []) r p t e (line, text, refl) within (not_past 1 0 line (omega arith) (omega arith)) h
none_of r p t line lines e text within short rest (inr g) =
    rest (subst (λ (x : ℕ × ℕ × ℕ). IsFirstScriptBehind x.1 x.2 2 (length (line ++ 10 ∷ [])) lines e)
    (one_head g.0 g.1 g.2 r p t (line ++ 10 ∷ []) g.3 (line, text, refl)) g.6)

pub no_script_fault : (s : Script) (bytes : List ℕ) (e : TraceFault) → IsScriptInput s bytes → IsFirstScriptFault e bytes → ⊥
no_script_fault s bytes e input h =
    let text = input.text in
    let head = text.0 in
    let taken : length bytes ≡ length head + (length text.1 + 1) = ap length text.4 ∙ simp length-append (omega arith) in
    let here = subst (λ (x : List (List ℕ)). IsFirstScriptOf x e)
    (cut_of bytes head text.1 (script_head_one s.region s.partitions s.threads head text.2) text.4) h in
    none_of s.region s.partitions s.threads head (lines_of text.1) e text.2 input.limits.head (omega (arith, taken, input.short))
    (none_behind s.partitions s.threads s.lines 2 (length (head ++ 10 ∷ [])) text.1 e text.3 input.limits.lines
    (omega (arith, input.limits.few))
    (omega (arith, taken, length_push head 10, input.short))) here
