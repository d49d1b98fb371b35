use Rattle.std.proofs.Common.{◌≡◌, ◌<◌, length, sym, ◌∙◌, ap, subst}
use Rattle.pa_region.specs.declared.view.View.{View}
use Rattle.pa_region.specs.Views.{free_of, least_stake}
use Rattle.pa_region.specs.Shares.{byte_word_count}
use Rattle.pa_region.specs.Lending.{CanHost}
use Rattle.pa_region.proofs.LendBack.{lends_again}
use Rattle.pa_root.specs.Uncutting.{IsUncutWith}
use Rattle.pa_root.proofs.Asked.{shown_lends}
use Rattle.pa_root.proofs.BringingBack.{free_in_both, title_in_both, both_hosts, title_back}
use Rattle.pa_root.proofs.backs.take_title.Goals as goal

pub placed-requires : goal.placed-requires
placed-requires c = title_in_both c.args.title c.args.note.view c.requires.has c.show_seen.new.from.view c.take.new.seat.view
    c.take.ensures.view

pub number_seen-number-requires-clause-free : goal.number_seen-number-requires-clause-free
number_seen-number-requires-clause-free c =
    free_in_both c.args.title c.args.note.view c.requires.has c.show_seen.new.from.view c.take.new.seat.view c.take.ensures.view

pub uncut_with-requires-clause-lender : goal.uncut_with-requires-clause-lender
uncut_with-requires-clause-lender c =
    (shown_lends c.args.seat.now.view c.show_seen.new.to.view c.args.root.now.view c.show_seen.new.from.view c.show_seen.ensures.shown
    c.requires.lender).0

pub uncut_with-requires-clause-host : goal.uncut_with-requires-clause-host
uncut_with-requires-clause-host c =
    subst CanHost (sym c.number_seen-number.ensures.view)
    (both_hosts c.args.title c.args.note.view c.requires.has c.args.root.now.view c.show_seen.new.from.view c.take.new.seat.view
    c.requires.host
    (c.show_seen.ensures.shown.giver 0).keeps c.take.ensures.view)

pub uncut_with-requires-clause-free : goal.uncut_with-requires-clause-free
uncut_with-requires-clause-free c =
    subst (λ (v : View). 0 < free_of v c.args.title) (sym c.number_seen-number.ensures.view)
    (free_in_both c.args.title c.args.note.view c.requires.has c.show_seen.new.from.view c.take.new.seat.view c.take.ensures.view)

pub returns-clause-again : goal.returns-clause-again
returns-clause-again c =
    (lends_again c.show_seen.new.to.view c.uncut_with.new.lender.view c.uncut_with.ensures.uncut.lends.keeps
    (shown_lends c.args.seat.now.view c.show_seen.new.to.view c.args.root.now.view c.show_seen.new.from.view c.show_seen.ensures.shown
    c.requires.lender).0).0

pub returns-clause-back : goal.returns-clause-back
returns-clause-back c =
    let regions = c.show_seen.ensures.regions.0 ∙ (c.requires.regions.1 ∙ sym c.requires.regions.2) in
    let long : length c.show_seen.new.from.view.words ≡ length c.args.note.view.words =
    c.aware.ensures.long ∙ (ap byte_word_count regions ∙ sym c.aware-2.ensures.long) in
    title_back c.args.title c.args.note.view c.requires.has
    (byte_word_count c.take.new.seat.region) c.number_seen-number.result c.args.seat.now.view
    c.show_seen.new.to.view c.uncut_with.new.lender.view c.args.root.now.view c.show_seen.new.from.view c.take.new.seat.view
    c.uncut_with.new.host.view
    c.show_seen.ensures.shown c.requires.lender c.aware.ensures.aware c.aware-2.ensures.aware c.aware-3.ensures.aware c.take.ensures.view
    long
    c.placed.ensures.well c.placed.ensures.small c.number_seen-number.ensures.number
    (subst (λ (v : View). IsUncutWith (least_stake c.show_seen.new.to.view.stakes) c.args.title c.show_seen.new.to.view
    c.uncut_with.new.lender.view v c.uncut_with.new.host.view) c.number_seen-number.ensures.view
    c.uncut_with.ensures.uncut)
