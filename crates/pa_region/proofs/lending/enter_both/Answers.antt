use Rattle.std.proofs.Common.{sym, ◌∙◌, ap, subst, arith}
use Rattle.pa_region.specs.declared.view.View.{View}
use Rattle.pa_region.specs.Waiting.{poisoned_of}
use Rattle.pa_region.specs.Hands.{united}
use Rattle.pa_region.specs.Shares.{byte_word_count}
use Rattle.pa_region.specs.Lending.{CanLend, Keeps}
use Rattle.pa_region.proofs.LendBack.{none_poisoned, lends_again, hosts_again}
use Rattle.pa_region.proofs.NotingTwice.{lend_on, enter_later, lend_later, noted_twice}
use Rattle.pa_region.proofs.lending.enter_both.Goals as goal

pub take-requires-clause-able : goal.take-requires-clause-able
take-requires-clause-able c k t has = none_poisoned c.args.middle.now.view t c.requires.middle.0.1

pub enter_with-requires-clause-lender : goal.enter_with-requires-clause-lender
enter_with-requires-clause-lender c =
    subst (λ (v : View). CanLend v)
    (sym (c.take.ensures.view ∙ ap (λ (x : View). united c.args.middle.now.view x) c.lend_stake-lent.ensures.given))
    (lend_on c.args.lender.now.view c.args.middle.now.view c.requires.lender c.requires.middle.0)

pub enter-requires-clause-able : goal.enter-requires-clause-able
enter-requires-clause-able c =
    let both = c.take.ensures.view ∙ ap (λ (x : View). united c.args.middle.now.view x) c.lend_stake-lent.ensures.given in
    enter_later c.args.lender.now.view c.args.middle.now.view c.enter_with.new.lender.view c.args.outer c.requires.lender
    c.requires.middle.0 c.requires.middle.1
    (subst (λ (v : View). Keeps v c.enter_with.new.lender.view) both c.enter_with.ensures.noted.1.lends.keeps)

pub lend_stake-back-requires-clause-able : goal.lend_stake-back-requires-clause-able
lend_stake-back-requires-clause-able c =
    let both = c.take.ensures.view ∙ ap (λ (x : View). united c.args.middle.now.view x) c.lend_stake-lent.ensures.given in
    subst (λ (v : View). CanLend v) (sym c.enter.ensures.view)
    (lend_later c.args.lender.now.view c.args.middle.now.view c.enter_with.new.lender.view c.args.outer c.args.second.now c.requires.lender
    c.requires.middle.0 c.requires.middle.1
    (subst (λ (v : View). Keeps v c.enter_with.new.lender.view) both c.enter_with.ensures.noted.1.lends.keeps))

pub take-requires-2-clause-able : goal.take-requires-2-clause-able
take-requires-2-clause-able c k t has =
    ap (λ (v : View). poisoned_of v t) c.lend_stake-lent.ensures.left ∙ none_poisoned c.args.lender.now.view t c.requires.lender.1

pub returns-clause-again : goal.returns-clause-again
returns-clause-again c =
    let long = c.aware-2.ensures.long ∙ (ap byte_word_count (c.requires.regions.1 ∙ sym c.requires.regions.0) ∙ sym c.aware.ensures.long) in
    let longer = c.aware-4.ensures.long ∙ (ap byte_word_count
    (c.enter.ensures.region ∙ (c.enter_with.ensures.regions.0
    ∙ (c.take.ensures.region ∙ (c.requires.regions.1 ∙ sym c.requires.regions.0)))) ∙ sym c.aware.ensures.long) in
    let noted = (noted_twice c.args.lender.now.view c.args.middle.now.view c.lend_stake-lent.new.seat.view c.lend_stake-lent.result.view
    c.take.new.seat.view c.enter_with.new.lender.view c.enter.new.seat.view
    c.lend_stake-back.new.seat.view c.lend_stake-back.result.view c.take-2.new.seat.view c.args.host.now.view c.enter_with.new.host.view
    c.args.inner c.args.outer c.args.first.now c.args.second.now
    c.lend_stake-lent.ensures.left c.lend_stake-lent.ensures.given c.take.ensures.view c.enter.ensures.view c.lend_stake-back.ensures.left
    c.lend_stake-back.ensures.given c.take-2.ensures.view
    c.requires.lender c.requires.middle.0 c.requires.middle.1 c.aware.ensures.aware c.aware-2.ensures.aware long longer
    c.aware-3.ensures.aware c.aware-5.ensures.aware c.enter_with.ensures.noted).2 in (
      (lends_again c.args.lender.now.view c.take-2.new.seat.view noted.lends.keeps c.requires.lender).0,
      (
        hosts_again c.args.middle.now.view c.lend_stake-back.new.seat.view noted.middle_has c.requires.middle.0,
        (let e = noted.middle_has.keepers c.args.outer in let has = c.requires.middle.1 in omega arith),
      ),
      (
        hosts_again c.args.host.now.view c.enter_with.new.host.view noted.host_has c.requires.host.0,
        (let e = noted.host_has.keepers c.args.inner in let has = c.requires.host.1 in omega arith),
      ),
    )

pub returns-clause-noted : goal.returns-clause-noted
returns-clause-noted c =
    let long = c.aware-2.ensures.long ∙ (ap byte_word_count (c.requires.regions.1 ∙ sym c.requires.regions.0) ∙ sym c.aware.ensures.long) in
    let longer = c.aware-4.ensures.long ∙ (ap byte_word_count
    (c.enter.ensures.region ∙ (c.enter_with.ensures.regions.0
    ∙ (c.take.ensures.region ∙ (c.requires.regions.1 ∙ sym c.requires.regions.0)))) ∙ sym c.aware.ensures.long) in
    noted_twice c.args.lender.now.view c.args.middle.now.view c.lend_stake-lent.new.seat.view c.lend_stake-lent.result.view
    c.take.new.seat.view c.enter_with.new.lender.view c.enter.new.seat.view
    c.lend_stake-back.new.seat.view c.lend_stake-back.result.view c.take-2.new.seat.view c.args.host.now.view c.enter_with.new.host.view
    c.args.inner c.args.outer c.args.first.now c.args.second.now
    c.lend_stake-lent.ensures.left c.lend_stake-lent.ensures.given c.take.ensures.view c.enter.ensures.view c.lend_stake-back.ensures.left
    c.lend_stake-back.ensures.given c.take-2.ensures.view
    c.requires.lender c.requires.middle.0 c.requires.middle.1 c.aware.ensures.aware c.aware-2.ensures.aware long longer
    c.aware-3.ensures.aware c.aware-5.ensures.aware c.enter_with.ensures.noted
