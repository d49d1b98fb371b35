use Rattle.std.proofs.Common.{◌++◌, ap, ◌∙◌}
use Rattle.pa_record.specs.Text.{root_text}
use Rattle.pa_run_writer.proofs.Growing.{one_more}
use Rattle.pa_run_writer.proofs.lines.Lines.push.Goals as goal

pub invariant_of-self : goal.invariant_of-self
invariant_of-self c =
    let s = c.self.inside in
    let told = c.in-Ok.ensures.pushed ∙ ap (λ p. s.text ++ root_text p s.len c.args.entry.now) c.from.ensures in
    one_more s.partition s.len s.past.items c.and_lent-self-inside.result.items c.args.entry.now s.text c.push_root.new.out c.self.invariant
    c.root_fits.ensures c.and_lent-self-inside.ensures told
