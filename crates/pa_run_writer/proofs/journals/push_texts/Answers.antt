use Rattle.pa_run_writer.proofs.Growing.{fits_more, next_lines}
use Rattle.pa_run_writer.proofs.journals.push_texts.Goals as goal

pub loop-lines-preserved : goal.loop-lines-preserved
loop-lines-preserved c =
    let js = c.args.journals.now in
    let i = c.loop-lines.lines-index in
    let j = c.lines-item.result in
    record {
      whole = next_lines i js j c.loop-lines.out c.append.new.self c.text.result.now _ c.requires c.loop-lines-test.true c.lines-item.is
          c.text.ensures.text c.in_ok-append.ensures.pushed c.loop-lines.invariant.whole;
      fits = fits_more i js j c.loop-lines-test.true c.lines-item.is c.loop-lines.invariant.fits c.text.ensures.fits;
    }
