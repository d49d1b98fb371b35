-- The text of a trace, and after it that of a run, are an input of both, and a legal one if the run is.
use Rattle.std.proofs.Common.{◌≡◌, ◌∙◌, ℕ, ◌≤◌, List, [], ◌∷◌, ◌++◌, codes, length, refl, sym, ap, subst, append_assoc, arith}
use Rattle.std.specs.List.{AllByRecursion}
use Rattle.pa_text.specs.Numeral.{IsNumeral}
use Rattle.pa_trace.specs.declared.script.Line.{Line}
use Rattle.pa_trace.specs.declared.script.Line.TheVariants.{Phase, Do}
use Rattle.pa_trace.specs.declared.script.Trace.{Trace}
use Rattle.pa_trace.specs.Cut.{IsOneLine}
use Rattle.pa_trace.specs.Faults.{lines_of}
use Rattle.pa_trace.specs.Grammar.{IsHeadText, IsLineText, AreLinesText, IsTraceText, head_of_trace}
use Rattle.pa_trace.specs.declared.line.Head.{Head}
use Rattle.pa_trace.specs.Limits.{IsInput}
use Rattle.pa_trace.proofs.Cuts.{cut_lines, no_lines, line_line, head_line}
use Rattle.pa_record.specs.declared.run.Run.{Run}
use Rattle.pa_record.specs.RunText.{IsRunText}
use Rattle.pa_rules.specs.Legal.{IsLegal}
use Rattle.pa_audit_input.specs.Input.{most_audited, run_line, IsAudited, IsParted}
use Rattle.pa_audit_input.specs.Judged.{IsLegalOf, IsLegalInput}
use Rattle.pa_audit_input.proofs.Cutting.{text_begins}

-- ---- no line of a trace's text is `run 1`, since it begins with another byte

abbrev IsOther : List ℕ → Type 0
IsOther line = line ≡ run_line → ⊥

abbrev first_byte : List ℕ → ℕ
first_byte [] = 0
first_byte (b ∷ bytes) = b

number_other : (n : ℕ) (digits word after : List ℕ) → IsNumeral n digits → IsOther ((digits ++ word ++ after) ++ 10 ∷ [])
number_other n [] word after h e = h.written refl
number_other n (d ∷ digits) word after h e = let first : d ≡ 114 = ap first_byte e in let digit = h.digits.0 in omega (arith, first, digit)

line_other : (l : Line) (text : List ℕ) → IsLineText l text → IsOther (text ++ 10 ∷ [])
line_other Phase text h e =
    let first : 112 ≡ 114 = ap (λ (z : List ℕ). first_byte (z ++ 10 ∷ [])) (sym h) ∙ ap first_byte e in omega (arith, first)
line_other (Do thread op) text h e = number_other thread h.0 (codes " ") h.1 h.2 (ap (λ (z : List ℕ). z ++ 10 ∷ []) (sym h.4) ∙ e)

head_other : (head : Head) (text : List ℕ) → IsHeadText head text → IsOther (text ++ 10 ∷ [])
head_other head text h e =
    let first : 116 ≡ 114 = ap (λ (z : List ℕ). first_byte (z ++ 10 ∷ [])) (sym h.10) ∙ ap first_byte e in omega (arith, first)

-- ---- so a text after it is cut off where it begins

-- the lines of the first bytes come before those of the others, and none of them is `run 1`
record StandsBefore (front back : List ℕ) : Type 0 where
  pub lines : lines_of (front ++ back) ≡ lines_of front ++ lines_of back
  pub others : AllByRecursion IsOther (lines_of front)

line_before : (first rest back : List ℕ) → IsOneLine first → IsOther (first ++ 10 ∷ []) → StandsBefore rest back →
    StandsBefore (first ++ 10 ∷ rest) back
line_before first rest back one other h =
    let cut = cut_lines first rest one in
    record {
      lines = ap lines_of (append_assoc first (10 ∷ rest) back) ∙ cut_lines first (rest ++ back) one
          ∙ ap (λ (z : List (List ℕ)). (first ++ 10 ∷ []) ∷ z) h.lines ∙ ap (λ (z : List (List ℕ)). z ++ lines_of back) (sym cut);
      others = subst (AllByRecursion IsOther) (sym cut) (other, h.others);
    }

lines_before : (ls : List Line) (text back : List ℕ) → AreLinesText ls text → StandsBefore text back
lines_before [] text back h =
    subst (λ (z : List ℕ). StandsBefore z back) (sym h) (record {
      lines = ap (λ (z : List (List ℕ)). z ++ lines_of back) (sym no_lines);
      others = subst (AllByRecursion IsOther) (sym no_lines) tt;
    })
lines_before (l ∷ ls) text back h =
    subst (λ (z : List ℕ). StandsBefore z back) (sym h.4)
    (line_before h.0 h.1 back (line_line l h.0 h.2) (line_other l h.0 h.2) (lines_before ls h.1 back h.3))

trace_before : (t : Trace) (text back : List ℕ) → IsTraceText t text → StandsBefore text back
trace_before t text back h =
    subst (λ (z : List ℕ). StandsBefore z back) (sym h.4)
    (line_before h.0 h.1 back (head_line (head_of_trace t) h.0 h.2) (head_other (head_of_trace t) h.0 h.2)
    (lines_before t.lines h.1 back h.3))

trace_parted : (t : Trace) (r : Run) (front back : List ℕ) → IsTraceText t front → IsRunText r back → IsParted front back (front ++ back)
trace_parted t r front back traced printed =
    let before = trace_before t front back traced in
    record { parts = refl; lines = before.lines; before = before.others; behind = text_begins back _ printed.text }

-- ---- the input

pub input_of_both : (t : Trace) (r : Run) (front back : List ℕ) → IsInput t front → IsRunText r back →
    length (front ++ back) ≤ most_audited → IsAudited t r (length (lines_of front)) (front ++ back)
input_of_both t r front back input printed short = record {
  front = front;
  back = back;
  parted = trace_parted t r front back input.text printed;
  trace = input;
  run = printed;
  count = refl;
  short = short;
}

pub together : (t : Trace) (r : Run) (front back : List ℕ) → IsInput t front → IsRunText r back → IsLegal t r
    → length (front ++ back) ≤ most_audited → IsLegalOf t r (front ++ back)
together t r front back input printed legal short =
    record { lines = length (lines_of front); input = input_of_both t r front back input printed short; legal = legal }

-- a legal run of a trace is a legal input
pub legal_input : (t : Trace) (r : Run) (bytes : List ℕ) → IsLegalOf t r bytes → IsLegalInput bytes
legal_input t r bytes h = record { trace = t; run = r; lines = h.lines; input = h.input; legal = h.legal }
