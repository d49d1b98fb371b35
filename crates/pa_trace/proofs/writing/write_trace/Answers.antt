use Rattle.std.proofs.Common.{subst}
use Rattle.pa_trace.specs.declared.line.Head.{Head}
use Rattle.pa_trace.specs.Grammar.{head_of_trace, last_version}
use Rattle.pa_trace.specs.Faults.{IsHeadLine}
use Rattle.pa_trace.specs.Cut.{Appends}
use Rattle.pa_trace.proofs.Lengths.{trace_length}
use Rattle.pa_trace.proofs.Versions.{told_plain}
use Rattle.pa_trace.proofs.Written.{trace_written}
use Rattle.pa_trace.proofs.writing.write_trace.Goals as goal

pub push_head-requires-clause-version : goal.push_head-requires-clause-version
push_head-requires-clause-version c = rw c.head.ensures c.requires.version

pub push_head-requires-clause-plain : goal.push_head-requires-clause-plain
push_head-requires-clause-plain c = rw c.head.ensures (told_plain (head_of_trace c.args.trace.now) c.requires.head)

pub returns-clause-text : goal.returns-clause-text
returns-clause-text c =
    let pushed = subst (λ (h : Head). Appends (IsHeadLine last_version h) c.in_ok-out.out c.push_head.new.out) c.head.ensures
    c.in_ok-push_head.ensures.pushed in
    rw c.into_vec.ensures.bytes
    (trace_written c.args.trace.now c.as_slice-lines.result.now c.in_ok-out.out c.push_head.new.out c.push_lines.new.out
    c.in_ok-out.ensures.empty c.as_slice-lines.ensures pushed c.in_ok-push_lines.ensures)

pub returns-clause-short : goal.returns-clause-short
returns-clause-short c =
    let pushed = subst (λ (h : Head). Appends (IsHeadLine last_version h) c.in_ok-out.out c.push_head.new.out) c.head.ensures
    c.in_ok-push_head.ensures.pushed in
    rw c.into_vec.ensures.bytes
    (trace_length c.args.trace.now c.push_lines.new.out c.requires
    (trace_written c.args.trace.now c.as_slice-lines.result.now c.in_ok-out.out c.push_head.new.out c.push_lines.new.out
    c.in_ok-out.ensures.empty c.as_slice-lines.ensures pushed c.in_ok-push_lines.ensures))
