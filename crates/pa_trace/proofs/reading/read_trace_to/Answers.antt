use Rattle.std.proofs.Common.{◌≤◌, List, ap, sym, subst, ◌∙◌}
use Rattle.std.specs.Prelude.{MatchOption}
use Rattle.pa_trace.specs.declared.line.Head.{Head}
use Rattle.pa_trace.specs.declared.script.Line.{Line}
use Rattle.pa_trace.specs.Limits.{IsInput}
use Rattle.pa_trace.specs.Unread.{Unread, trace_with, IsReadUpTo, IsLineRead, IsEndRead}
use Rattle.pa_trace.proofs.reading.read_trace_to.Goals as goal

pub loop-lines-preserved : goal.loop-lines-preserved
loop-lines-preserved c =
    let u : Unread = c.loop-lines.reader in
    let v : Unread = c.next.new.self in
    let line : IsLineRead u c.in-Some.line v =
    subst (λ found. MatchOption found (IsEndRead u v) (λ l. IsLineRead u l v)) c.in-Some.is c.in_ok-line.ensures.line in
    subst (λ (ls : List Line). IsReadUpTo c.args.known c.args.bytes.now ls v) (sym c.in_ok-push.ensures.items)
    (line.read c.args.known c.args.bytes.now c.loop-lines.lines.items c.loop-lines.invariant)

pub returns-clause-found : goal.returns-clause-found
returns-clause-found c =
    let u : Unread = c.loop-lines.reader in
    let v : Unread = c.next.new.self in
    let end : IsEndRead u v =
    subst (λ found. MatchOption found (IsEndRead u v) (λ l. IsLineRead u l v)) c.in_default.is c.in_ok-line.ensures.line in
    let head = c.head-version.ensures ∙ ap (λ (w : Unread). w.head) end.stays in
    let input = end.read c.args.known c.args.bytes.now c.loop-lines.lines.items c.loop-lines.invariant in
    subst (λ (h : Head). IsInput (trace_with h c.of-2.result) c.args.bytes.now) (sym head)
    (subst (λ (ls : List Line). IsInput (trace_with u.head ls) c.args.bytes.now) (sym c.of-2.ensures) input)

pub returns-clause-version : goal.returns-clause-version
returns-clause-version c =
    let u : Unread = c.loop-lines.reader in
    let v : Unread = c.next.new.self in
    let end : IsEndRead u v =
    subst (λ found. MatchOption found (IsEndRead u v) (λ l. IsLineRead u l v)) c.in_default.is c.in_ok-line.ensures.line in
    let head = c.head-version.ensures ∙ ap (λ (w : Unread). w.head) end.stays in
    subst (λ (h : Head). h.version ≤ c.args.known) (sym head) c.loop-lines.invariant.is_known
