use Rattle.std.proofs.Common.{sym, ◌∙◌, ap, arith}
use Rattle.pa_region.specs.Shares.{byte_word_count}
use Rattle.pa_region.specs.Views.{stake_of}
use Rattle.pa_root.proofs.Parcels.{none_stakes}
use Rattle.pa_root.proofs.Showing.{shown_by}
use Rattle.pa_root.proofs.lends.show_seen.Goals as goal

pub take-requires-clause-able : goal.take-requires-clause-able
take-requires-clause-able c k t has =
    let none = ap (λ v. stake_of v k) c.hand-note.ensures.given ∙ none_stakes c.args.from.now.view.stakes k in
    absurd (omega arith)

pub returns-clause-shown : goal.returns-clause-shown
returns-clause-shown c =
    let long = c.aware-2.ensures.long ∙ (ap byte_word_count (c.requires.regions.1 ∙ sym c.requires.regions.0) ∙ sym c.aware.ensures.long) in
    shown_by c.args.from.now.view c.hand-note.new.seat.view c.hand-note.result.view c.args.to.now.view c.take.new.seat.view
    c.hand-note.ensures.left c.hand-note.ensures.given
    c.take.ensures.view c.aware-2.ensures.aware c.aware-3.ensures.aware long
