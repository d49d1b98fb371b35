use Rattle.std.proofs.Common.{sym, ◌∙◌, ap, subst}
use Rattle.pa_region.specs.declared.view.View.{View}
use Rattle.pa_region.specs.Waiting.{poisoned_of}
use Rattle.pa_region.specs.Hands.{united}
use Rattle.pa_region.specs.Cuts.{CanUncut, after_uncut}
use Rattle.pa_region.specs.Aware.{IsAware}
use Rattle.pa_region.specs.Shares.{byte_word_count}
use Rattle.pa_region.specs.Lending.{CanLend}
use Rattle.pa_region.proofs.LendBack.{none_poisoned}
use Rattle.pa_root.proofs.Uncutting.{uncut_can, uncut_lends, uncut_by}
use Rattle.pa_root.proofs.lends.uncut_with.Goals as goal

pub take-requires-clause-able : goal.take-requires-clause-able
take-requires-clause-able c k t has = none_poisoned c.args.host.now.view t c.requires.host.1

pub uncut-requires-clause-able : goal.uncut-requires-clause-able
uncut-requires-clause-able c =
    let both = c.take.ensures.view ∙ ap (λ (x : View). united c.args.host.now.view x) c.lend_stake-lent.ensures.given in
    let long = c.aware-2.ensures.long ∙ (ap byte_word_count (c.requires.regions.1 ∙ sym c.requires.regions.0) ∙ sym c.aware.ensures.long) in
    subst (λ (v : View). CanUncut c.args.title v) (sym both)
    (uncut_can c.args.lender.now.view c.args.host.now.view c.args.title c.requires.lender c.requires.host c.requires.free
    c.aware.ensures.aware c.aware-2.ensures.aware long
    (subst IsAware both c.aware-3.ensures.aware))

pub lend_stake-back-requires-clause-able : goal.lend_stake-back-requires-clause-able
lend_stake-back-requires-clause-able c =
    let both = c.take.ensures.view ∙ ap (λ (x : View). united c.args.host.now.view x) c.lend_stake-lent.ensures.given in
    let long = c.aware-2.ensures.long ∙ (ap byte_word_count (c.requires.regions.1 ∙ sym c.requires.regions.0) ∙ sym c.aware.ensures.long) in
    subst (λ (v : View). CanLend v) (sym (c.uncut.ensures.view ∙ ap (λ (x : View). after_uncut c.args.title x) both))
    (uncut_lends c.args.lender.now.view c.args.host.now.view c.args.title c.requires.lender c.requires.host c.requires.free
    c.aware.ensures.aware c.aware-2.ensures.aware long
    (subst IsAware both c.aware-3.ensures.aware))

pub take-requires-2-clause-able : goal.take-requires-2-clause-able
take-requires-2-clause-able c k t has =
    ap (λ (v : View). poisoned_of v t) c.lend_stake-lent.ensures.left ∙ none_poisoned c.args.lender.now.view t c.requires.lender.1

pub returns-clause-uncut : goal.returns-clause-uncut
returns-clause-uncut c =
    let long = c.aware-2.ensures.long ∙ (ap byte_word_count (c.requires.regions.1 ∙ sym c.requires.regions.0) ∙ sym c.aware.ensures.long) in
    uncut_by c.args.lender.now.view c.args.host.now.view c.lend_stake-lent.new.seat.view c.lend_stake-lent.result.view c.take.new.seat.view
    c.uncut.new.seat.view
    c.lend_stake-back.new.seat.view c.lend_stake-back.result.view c.take-2.new.seat.view c.args.title c.lend_stake-lent.ensures.left
    c.lend_stake-lent.ensures.given
    c.take.ensures.view c.uncut.ensures.view c.lend_stake-back.ensures.left c.lend_stake-back.ensures.given c.take-2.ensures.view
    c.requires.lender c.requires.host c.requires.free
    c.aware.ensures.aware c.aware-2.ensures.aware long c.aware-3.ensures.aware c.aware-4.ensures.aware
