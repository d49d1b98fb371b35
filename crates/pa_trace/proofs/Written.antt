-- What is appended line by line is the text of the lines, and after a head that of a trace.
use Rattle.std.proofs.Common.{◌≡◌, ℕ, List, [], ◌∷◌, ◌++◌, refl, sym, ap, subst, ◌∙◌, append_assoc}
use Rattle.std.proofs.lemmas.List.{append-nil}
use Rattle.pa_trace.specs.declared.script.Trace.{Trace}
use Rattle.pa_trace.specs.declared.script.Line.{Line}
use Rattle.pa_trace.specs.Grammar.{IsLineText, AreLinesText, IsTraceText, head_of_trace, last_version}
use Rattle.pa_trace.specs.Faults.{IsHeadLine, IsBodyLine}
use Rattle.pa_trace.specs.Cut.{Appends}

-- two texts, one after the other
join_two : (old a b s t : List ℕ) → a ≡ old ++ s → b ≡ a ++ t → b ≡ old ++ (s ++ t)
join_two old a b s t e f = f ∙ ap (λ (x : List ℕ). x ++ t) e ∙ append_assoc old s t

-- ---- the lines one after the other

lines_push : (done : List Line) (l : Line) (text first : List ℕ) → AreLinesText done text → IsLineText l first →
    AreLinesText (done ++ l ∷ []) (text ++ first ++ 10 ∷ [])
lines_push [] l text first ht hl = (first, [], hl, refl, ap (λ (x : List ℕ). x ++ first ++ 10 ∷ []) ht)
lines_push (d ∷ done) l text first ht hl = (
  ht.0,
  ht.1 ++ first ++ 10 ∷ [],
  ht.2,
  lines_push done l ht.1 first ht.3 hl,
  ap (λ (x : List ℕ). x ++ first ++ 10 ∷ []) ht.4 ∙
      simp append_assoc,
)

pub none_written : (old : List ℕ) → Appends (AreLinesText []) old old
none_written old = ([], refl, sym (append-nil old))

pub more_written : (done : List Line) (l : Line) (old a b : List ℕ) → Appends (AreLinesText done) old a → Appends (IsBodyLine l) a b →
    Appends (AreLinesText (done ++ l ∷ [])) old b
more_written done l old a b x y = (
  x.0 ++ y.1.0 ++ 10 ∷ [],
  lines_push done l x.0 y.1.0 x.1 y.1.1,
  join_two old a b x.0 y.0 x.2 y.2 ∙
      ap (λ (z : List ℕ). old ++ z) (ap (λ (z : List ℕ). x.0 ++ z) y.1.2 ∙ sym (append_assoc x.0 y.1.0 (10 ∷ []))),
)

-- ---- the whole text

pub trace_written : (t : Trace) (lines : List Line) (start a b : List ℕ) → start ≡ [] → lines ≡ t.lines
    → Appends (IsHeadLine last_version (head_of_trace t)) start a → Appends (AreLinesText lines) a b → IsTraceText t b
trace_written t lines start a b none same x y =
    let head : a ≡ x.1.0 ++ 10 ∷ [] = x.2 ∙ ap (λ (z : List ℕ). z ++ x.0) none ∙ x.1.2 in (
      x.1.0,
      y.0,
      x.1.1,
      subst (λ (ls : List Line). AreLinesText ls y.0) same y.1,
      y.2 ∙ ap (λ (z : List ℕ). z ++ y.0) head ∙
          append_assoc x.1.0 (10 ∷ []) y.0,
      x.1.3,
    )
