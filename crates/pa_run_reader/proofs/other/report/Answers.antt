use Rattle.std.proofs.Common.{◌≡◌, ◌++◌, codes, refl, sym, subst}
use Rattle.pa_record.specs.declared.report.ReportLine.{ReportLine}
use Rattle.pa_record.specs.Text.{report_text}
use Rattle.pa_run_reader.specs.Lines.{report_in}
use Rattle.pa_run_reader.proofs.Reports.{line_spelled}
use Rattle.pa_run_reader.proofs.other.report.Goals as goal

pub returns-in_default-clause-read : goal.returns-in_default-clause-read
unfolding report_in
returns-in_default-clause-read c =
    rw (
      c.in_ok-places.ensures.read,
      c.in_ok-committed.ensures.read,
      c.in_ok-reserved.ensures.read,
      c.in_ok-states.ensures.read,
      c.in_default.ensures.read,
    ) refl

pub returns-clause-read : goal.returns-clause-read
unfolding report_in
returns-clause-read c =
    rw (
      c.in_ok-places.ensures.read,
      c.in_ok-committed.ensures.read,
      c.in_ok-reserved.ensures.read,
      c.in_ok-states.ensures.read,
      c.in-Some.ensures.read,
      c.line_of.ensures,
    ) refl

pub returns-clause-found : goal.returns-clause-found
returns-clause-found c =
    subst (λ (l : ReportLine). codes "s " ++ c.args.bytes.now ≡ report_text l ++ c.in-Some.rest.now) (sym c.line_of.ensures)
    (line_spelled c.in_ok-places.places c.in_ok-committed.committed c.in_ok-reserved.reserved c.in_ok-states.states c.args.bytes.now
    c.in_ok-places.rest.now
    c.in_ok-committed.rest.now c.in_ok-reserved.rest.now c.in_ok-states.rest.now c.in-Some.rest.now
    c.in_ok-places.ensures.found c.in_ok-committed.ensures.found c.in_ok-reserved.ensures.found c.in_ok-states.ensures.found
    c.in-Some.ensures.found)
