use Rattle.std.proofs.Common.{ℕ, ◌<◌, List, length, get_or, None, sym, subst, arith}
use Rattle.std.specs.Prelude.{Contains}
use Rattle.std.proofs.lemmas.List.Elements.{Contains-append_left}
use Rattle.pa_slot.proofs.Outcomes.{any_err}
use Rattle.pa_rules.specs.Cells.{history_at}
use Rattle.pa_audit_order.proofs.Advancing.{steps_added}
use Rattle.pa_audit_order.proofs.cuts.add_steps.Goals as goal
use Rattle.pa_lists.proofs.Indexed.{here_is}

pub returns-clause-adds : goal.returns-clause-adds
returns-clause-adds c =
    let table = c.args.previous.now in
    let givers = c.args.givers.now in
    let at = c.args.at in
    let ready = c.requires.ready in
    let long = c.requires.ready.threads.long in
    let within : at < length table = omega (arith, long, c.requires.at) in
    let many = c.requires.ready.hands.long in
    let inside : at < length givers = omega (arith, many, c.requires.at) in
    let giver = ready.hands.hands at (get_or c.args.records.now at _) (get_or givers at None) (here_is givers at None inside)
    (here_is c.args.records.now at _ c.requires.at) in
    steps_added (history_at c.args.cells.now) c.args.records.now table at _ (get_or table at None) (get_or givers at None)
    c.args.stack.now.items c.push.new.stack.items c.push-2.new.stack.items c.raise_floor.new.stack.items
    c.args.floor.now c.raise_floor.new.floor ready.rising ready.phases ready.threads c.requires.at
    (here_is table at None within) giver.some giver.all c.in_ok-push.ensures.pushed
    c.in_ok-push-2.ensures.pushed c.in_ok-raise_floor.ensures.all

pub returns-in_err-push-clause-kept : goal.returns-in_err-push-clause-kept
returns-in_err-push-clause-kept c =
    let kept : (j : ℕ) → Contains c.args.stack.now.items j →
    Contains c.push.new.stack.items j = λ j there. subst (λ (zs : List ℕ). Contains zs j) (sym c.in_err-push.ensures.same) there in
    any_err c.from_residual.result _ kept

pub returns-in_err-push-2-clause-kept : goal.returns-in_err-push-2-clause-kept
returns-in_err-push-2-clause-kept c =
    let first : (j : ℕ) → Contains c.args.stack.now.items j → Contains c.push.new.stack.items j =
    λ j there. subst (λ (zs : List ℕ). Contains zs j) (sym c.in_ok-push.ensures.pushed)
    (Contains-append_left c.args.stack.now.items _ j there) in
    let kept : (j : ℕ) → Contains c.args.stack.now.items j → Contains c.push-2.new.stack.items j =
    λ j there. subst (λ (zs : List ℕ). Contains zs j) (sym c.in_err-push-2.ensures.same) (first j there) in
    any_err c.from_residual-in_err-push-2.result _ kept

pub returns-in_err-raise_floor-clause-kept : goal.returns-in_err-raise_floor-clause-kept
returns-in_err-raise_floor-clause-kept c =
    let first : (j : ℕ) → Contains c.args.stack.now.items j → Contains c.push.new.stack.items j =
    λ j there. subst (λ (zs : List ℕ). Contains zs j) (sym c.in_ok-push.ensures.pushed)
    (Contains-append_left c.args.stack.now.items _ j there) in
    let kept : (j : ℕ) → Contains c.args.stack.now.items j → Contains c.raise_floor.new.stack.items j =
    λ j there. c.in_err-raise_floor.ensures.some.kept j
    (subst (λ (zs : List ℕ). Contains zs j) (sym c.in_ok-push-2.ensures.pushed)
    (Contains-append_left c.push.new.stack.items _ j (first j there))) in
    any_err c.from_residual-in_err-raise_floor.result _ kept
