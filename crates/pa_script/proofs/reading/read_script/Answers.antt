use Rattle.std.proofs.Common.{List, ap, sym, subst, ◌∙◌}
use Rattle.std.specs.Prelude.{MatchOption}
use Rattle.pa_trace.specs.declared.line.Head.{Head}
use Rattle.pa_script.specs.declared.script.ScriptLine.{ScriptLine}
use Rattle.pa_script.specs.Limits.{IsScriptInput}
use Rattle.pa_trace.specs.Unread.{Unread}
use Rattle.pa_script.specs.Unread.{script_with, IsScriptLineRead, IsScriptEndRead}
use Rattle.pa_script.proofs.reading.read_script.Goals as goal

pub returns-clause-found : goal.returns-clause-found
returns-clause-found c =
    let u : Unread = c.loop-lines.reader in
    let v : Unread = c.next.new.self in
    let end : IsScriptEndRead u v =
    subst (λ found. MatchOption found (IsScriptEndRead u v) (λ l. IsScriptLineRead u l v)) c.in_default.is
    c.in_ok-line.ensures.line in
    let head = c.head-region.ensures ∙ ap (λ (w : Unread). w.head) end.stays in
    let input = end.read c.args.bytes.now c.loop-lines.lines.items c.loop-lines.invariant in
    subst (λ (h : Head). IsScriptInput (script_with h c.of-2.result) c.args.bytes.now) (sym head)
    (subst (λ (ls : List ScriptLine). IsScriptInput (script_with u.head ls) c.args.bytes.now) (sym c.of-2.ensures) input)
