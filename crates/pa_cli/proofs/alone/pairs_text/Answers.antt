use Rattle.pa_cli.proofs.Printing.{pairs_printed}
use Rattle.pa_cli.proofs.alone.pairs_text.Goals as goal

pub returns : goal.returns
returns c =
    pairs_printed c.args.trace.now c.args.run.now c.report.result.now _ _ _ _ c.in_ok-text.text c.into_vec.result.items
    c.report.ensures.report c.ends_of-ends.ensures.slots c.in_ok-found.ensures.found c.in_ok-found.ensures.left c.in_ok-text.ensures
    c.into_vec.ensures.bytes
