use Rattle.std.proofs.Common.{List, sym, subst}
use Rattle.pa_trace.specs.declared.script.Line.{Line}
use Rattle.pa_trace.specs.Grammar.{IsTraceText}
use Rattle.pa_trace.specs.Unread.{trace_with}
use Rattle.pa_trace_writer.proofs.Growing.{line_more}
use Rattle.pa_trace_writer.proofs.keeping.LineTextKeeper.keep.Goals as goal

pub invariant_of-self : goal.invariant_of-self
invariant_of-self c =
    let s = c.self.inside in
    let l = c.args.line in
    subst (λ (ls : List Line). IsTraceText (trace_with s.head ls) c.push_line.new.out) (sym c.and-self-inside.ensures)
    (line_more s.head s.past.items l s.text c.push_line.new.out c.self.invariant c.in-Ok.ensures.pushed)
