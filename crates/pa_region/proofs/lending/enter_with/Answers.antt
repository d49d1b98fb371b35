use Rattle.std.proofs.Common.{sym, ◌∙◌, ap, subst, arith}
use Rattle.pa_region.specs.declared.view.View.{View}
use Rattle.pa_region.specs.Waiting.{poisoned_of}
use Rattle.pa_region.specs.Hands.{united}
use Rattle.pa_region.specs.Entries.{CanEnter, after_enter}
use Rattle.pa_region.specs.Shares.{byte_word_count}
use Rattle.pa_region.specs.Lending.{CanLend}
use Rattle.pa_region.proofs.LendBack.{none_poisoned, lends_again, hosts_again}
use Rattle.pa_region.proofs.Noting.{enter_can, lend_again, noted_by}
use Rattle.pa_region.proofs.lending.enter_with.Goals as goal

pub take-requires-clause-able : goal.take-requires-clause-able
take-requires-clause-able c k t has = none_poisoned c.args.host.now.view t c.requires.host.0.1

pub enter-requires-clause-able : goal.enter-requires-clause-able
enter-requires-clause-able c =
    subst (λ (v : View). CanEnter c.args.keeper v)
    (sym (c.take.ensures.view ∙ ap (λ (x : View). united c.args.host.now.view x) c.lend_stake-lent.ensures.given))
    (enter_can c.args.lender.now.view c.args.host.now.view c.args.keeper c.requires.lender c.requires.host.0 c.requires.host.1)

pub lend_stake-back-requires-clause-able : goal.lend_stake-back-requires-clause-able
lend_stake-back-requires-clause-able c =
    let both = c.take.ensures.view ∙ ap (λ (x : View). united c.args.host.now.view x) c.lend_stake-lent.ensures.given in
    subst (λ (v : View). CanLend v) (sym (c.enter.ensures.view ∙ ap (λ (x : View). after_enter c.args.keeper c.args.entry.now x) both))
    (lend_again c.args.lender.now.view c.args.host.now.view c.args.keeper c.args.entry.now c.requires.lender c.requires.host.0
    c.requires.host.1)

pub take-requires-2-clause-able : goal.take-requires-2-clause-able
take-requires-2-clause-able c k t has =
    ap (λ (v : View). poisoned_of v t) c.lend_stake-lent.ensures.left ∙ none_poisoned c.args.lender.now.view t c.requires.lender.1

pub returns-clause-again : goal.returns-clause-again
returns-clause-again c =
    let long = c.aware-2.ensures.long ∙ (ap byte_word_count (c.requires.regions.1 ∙ sym c.requires.regions.0) ∙ sym c.aware.ensures.long) in
    let noted = (noted_by c.args.lender.now.view c.args.host.now.view c.lend_stake-lent.new.seat.view c.lend_stake-lent.result.view
    c.take.new.seat.view c.enter.new.seat.view
    c.lend_stake-back.new.seat.view c.lend_stake-back.result.view c.take-2.new.seat.view c.args.keeper c.args.entry.now
    c.lend_stake-lent.ensures.left c.lend_stake-lent.ensures.given
    c.take.ensures.view c.enter.ensures.view c.lend_stake-back.ensures.left c.lend_stake-back.ensures.given c.take-2.ensures.view
    c.requires.lender c.requires.host.0 c.requires.host.1
    c.aware.ensures.aware c.aware-2.ensures.aware long c.aware-3.ensures.aware c.aware-5.ensures.aware).1 in (
      (lends_again c.args.lender.now.view c.take-2.new.seat.view noted.lends.keeps c.requires.lender).0,
      (
        hosts_again c.args.host.now.view c.lend_stake-back.new.seat.view noted.hosts c.requires.host.0,
        (let e = noted.hosts.keepers c.args.keeper in let has = c.requires.host.1 in omega arith),
      ),
    )

pub returns-clause-noted : goal.returns-clause-noted
returns-clause-noted c =
    let long = c.aware-2.ensures.long ∙ (ap byte_word_count (c.requires.regions.1 ∙ sym c.requires.regions.0) ∙ sym c.aware.ensures.long) in
    noted_by c.args.lender.now.view c.args.host.now.view c.lend_stake-lent.new.seat.view c.lend_stake-lent.result.view c.take.new.seat.view
    c.enter.new.seat.view
    c.lend_stake-back.new.seat.view c.lend_stake-back.result.view c.take-2.new.seat.view c.args.keeper c.args.entry.now
    c.lend_stake-lent.ensures.left c.lend_stake-lent.ensures.given
    c.take.ensures.view c.enter.ensures.view c.lend_stake-back.ensures.left c.lend_stake-back.ensures.given c.take-2.ensures.view
    c.requires.lender c.requires.host.0 c.requires.host.1
    c.aware.ensures.aware c.aware-2.ensures.aware long c.aware-3.ensures.aware c.aware-5.ensures.aware
