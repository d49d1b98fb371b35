-- The op lines of a trace with a line more, and that earlier phases have smaller lines.
use Rattle.std.proofs.Common.{◌≡◌, ℕ, ◌+◌, ◌<◌, List, [], ◌∷◌, ◌++◌, map, length, Contains, sym, ap, ◌∙◌, subst, arith}
use Rattle.std.proofs.lemmas.List.{get_or-map, length-map, map-append}
use Rattle.pa_trace.specs.declared.script.Line.{Line}
use Rattle.pa_trace.specs.declared.script.Line.TheVariants.{Do}
use Rattle.pa_trace.specs.declared.script.Op.{Op}
use Rattle.pa_trace.specs.declared.script.Rules.{Rules}
use Rattle.pa_rules.specs.declared.played.Played.{Played}
use Rattle.pa_rules.specs.Played.{OpLine, AreLines, op_lines, op_line_of}
use Rattle.pa_rules.specs.Legal.{phases_in}
use Rattle.pa_record.specs.declared.entry.Answer.{Answer}
use Rattle.pa_slot_effects.specs.Turns.{played_at}
use Rattle.pa_rules.proofs.Lined.{lines_phases, lines_push, phases_are}

op_line_among : (ps : List Played) (p : Played) → Contains ps p → Contains (map op_line_of ps) (op_line_of p)
op_line_among ps p (i, lt, e) =
    (i, omega (arith, lt, length-map ps op_line_of), get_or-map op_line_of ps i p (op_line_of p) lt ∙ ap op_line_of e)

-- a record of an earlier phase has a smaller line
pub played_phases : (rules : Rules) (ls : List Line) (ps : List Played) → map op_line_of ps ≡ op_lines rules 2 1 ls → (p q : Played) →
    Contains ps p → Contains ps q
    → p.phase < q.phase → p.line < q.line
played_phases rules ls ps e p q c d lt =
    let P : List OpLine → Type 0 = λ xs. Contains xs (op_line_of p) in
    let Q : List OpLine → Type 0 = λ xs. Contains xs (op_line_of q) in
    lines_phases rules 2 1 ls (op_line_of p) (op_line_of q) (subst P e (op_line_among ps p c)) (subst Q e (op_line_among ps q d)) lt

-- the records of the lines with the record of an op more
pub lines_more : (rules : Rules) (ls : List Line) (ps : List Played) (thread : ℕ) (op : Op) (answer : Answer) → AreLines rules ls ps
    → AreLines rules (ls ++ Do thread op ∷ []) (ps ++ played_at rules ls thread op answer ∷ [])
lines_more rules ls ps thread op answer h =
    let o : ℕ → ℕ → OpLine = λ line phase. record { line = line; thread = thread; phase = phase; rules = rules; op = op } in
    let at : length ls + 2 ≡ 2 + length ls = omega arith in
    map-append op_line_of ps (played_at rules ls thread op answer ∷ [])
    ∙ ap (λ ys. ys ++ o (length ls + 2) (phases_in ls) ∷ []) h
    ∙ ap (λ l. op_lines rules 2 1 ls ++ o l (phases_in ls) ∷ []) at
    ∙ ap (λ q. op_lines rules 2 1 ls ++ o (2 + length ls) q ∷ []) (sym (phases_are ls))
    ∙ sym (lines_push rules 2 1 ls thread op)
