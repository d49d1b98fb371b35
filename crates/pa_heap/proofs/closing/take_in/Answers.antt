use Rattle.std.proofs.Common.{◌∙◌, sym, ap}
use Rattle.pa_region.specs.Shares.{byte_word_count}
use Rattle.pa_heap.proofs.TakingIn.{joins}
use Rattle.pa_heap.proofs.closing.take_in.Goals as goal

pub returns-clause-takes : goal.returns-clause-takes
returns-clause-takes c =
    (joins c.args.seat.now.view c.args.note.view c.take.new.seat.view c.take.ensures.view c.requires.host
    c.aware.ensures.aware c.aware-2.ensures.aware c.aware-3.ensures.aware
    (c.aware.ensures.long ∙ (ap byte_word_count (c.requires.regions.0 ∙ sym c.requires.regions.1) ∙ sym c.aware-2.ensures.long))).0

pub returns-clause-within : goal.returns-clause-within
returns-clause-within c =
    (joins c.args.seat.now.view c.args.note.view c.take.new.seat.view c.take.ensures.view c.requires.host
    c.aware.ensures.aware c.aware-2.ensures.aware c.aware-3.ensures.aware
    (c.aware.ensures.long ∙ (ap byte_word_count (c.requires.regions.0 ∙ sym c.requires.regions.1) ∙ sym c.aware-2.ensures.long))).1
