use Rattle.pa_cli.proofs.Printing.{script_verdicts}
use Rattle.pa_cli.proofs.scripts.write_verdicts.Goals as goal

pub returns : goal.returns
returns c =
    let e = c.in_ok-expanded.expanded in
    script_verdicts c.args.script.now e.trace e.run e.verdicts.items c.as_slice.result.now c.new-out.result c.push_verdicts.new.out
    c.push_bytes.new.out c.into_vec.result.items
    c.in_ok-expanded.ensures.expanded c.in_ok-expanded.ensures.core c.new-out.ensures.empty c.as_slice.ensures.value
    c.in_ok-push_verdicts.ensures
    c.in_ok-push_bytes.ensures.pushed c.into_vec.ensures.bytes
