-- The text of a trace: its head alone, and one line more.
use Rattle.std.proofs.Common.{◌≡◌, ℕ, List, [], ◌∷◌, ◌++◌, refl, sym, append_assoc, ◌∙◌}
use Rattle.pa_trace.specs.declared.line.Head.{Head}
use Rattle.pa_trace.specs.declared.script.Line.{Line}
use Rattle.pa_trace.specs.Cut.{Appends}
use Rattle.pa_trace.specs.Grammar.{AreLinesText, IsTraceText, last_version}
use Rattle.pa_trace.specs.Faults.{IsBodyLine, IsHeadLine}
use Rattle.pa_trace.specs.Unread.{trace_with}
use Rattle.pa_trace.proofs.Written.{more_written, none_written, trace_written}

-- a head, after which no line comes yet
pub head_alone : (head : Head) (start text : List ℕ) → start ≡ [] → Appends (IsHeadLine last_version head) start text →
    IsTraceText (trace_with head []) text
head_alone head start text none more = trace_written (trace_with head []) [] start text text none refl more (none_written text)

-- a text of one line more
pub line_more : (head : Head) (ls : List Line) (l : Line) (old new : List ℕ) → IsTraceText (trace_with head ls) old →
    Appends (IsBodyLine l) old new
    → IsTraceText (trace_with head (ls ++ l ∷ [])) new
line_more head ls l old new (first, rest, is_head, lines, is, version) more =
    let front : List ℕ = first ++ 10 ∷ [] in
    let before : Appends (AreLinesText ls) front old = (rest, lines, is ∙ sym (append_assoc first (10 ∷ []) rest)) in
    let after = more_written ls l front old new before more in
    (first, after.0, is_head, after.1, after.2 ∙ append_assoc first (10 ∷ []) after.0, version)
