use Rattle.std.proofs.Common.{◌≡◌, ◌+◌, ◌<◌, length, sym, ap, ◌∙◌, subst, arith}
use Rattle.pa_slot.proofs.Outcomes.{any_err}
use Rattle.pa_buckets.specs.Limits.{first_class}
use Rattle.pa_rules.specs.Sizes.{class_total}
use Rattle.pa_player.specs.Playing.{list_place}
use Rattle.pa_player.proofs.Purging.{AreGivenTo, lists_among, lists_start, lists_past, list_ready, list_few, lists_more, lists_end}
use Rattle.pa_player.proofs.Settling.{lists_settled}
use Rattle.pa_player.proofs.purge.Player+Told+O.give_all.Goals as goal

pub lists-init : goal.lists-init
lists-init g c =
    let p = c.args.self.now in
    let class : c.unwrap.result ≡ first_class p.version =
    grind (arith, c.unwrap.ensures, c.of.ensures.class, c.first_class-first.ensures) in
    let start = c.list_of-start.ensures ∙ ap (list_place p.version p.partitions c.args.thread c.args.partition) class in
    let next = c.next_with_slots-at.ensures in
    lists_past c.next_with_slots-at.result
    (lists_start c.args.thread c.args.partition c.list_of-start.result p start c.requires (grind (arith, c.requires.gives.four)))
    c.requires next.from (omega (arith, next.to, c.class_total.ensures.count)) next.empty

pub places-requires : goal.places-requires
places-requires g c =
    let many = lists_among c.lists.invariant c.requires
    (omega (arith, c.lists-test.true, c.class_total.ensures.count)) in
    record {
      among = omega (
        arith,
        many,
        c.lists.invariant.classes.listed,
        c.lists-test.true,
        c.class_total.ensures.count,
      );
    }

pub overflow_cast-slots : goal.overflow_cast-slots
overflow_cast-slots g c =
    let few = list_few c.lists.invariant c.requires (omega (arith, c.lists-test.true, c.class_total.ensures.count)) in
    omega (arith, few, ap length c.places.ensures.places)

pub overflow_add-slots : goal.overflow_add-slots
overflow_add-slots g c =
    let few = list_few c.lists.invariant c.requires (omega (arith, c.lists-test.true, c.class_total.ensures.count)) in
    omega (arith, few, ap length c.places.ensures.places)

pub give-requires-clause-at : goal.give-requires-clause-at
give-requires-clause-at g c =
    let many = lists_among c.lists.invariant c.requires
    (omega (arith, c.lists-test.true, c.class_total.ensures.count)) in
    omega (arith, many, c.lists.invariant.classes.listed, c.lists-test.true, c.class_total.ensures.count)

pub give-requires-clause-can : goal.give-requires-clause-can
give-requires-clause-can g c =
    list_ready c.lists.invariant (omega (arith, c.lists-test.true, c.class_total.ensures.count))

pub next_with_slots-at-requires-in-lists-clause-among : goal.next_with_slots-at-requires-in-lists-clause-among
next_with_slots-at-requires-in-lists-clause-among g c =
    let p = c.args.self.now in
    let more : c.lists.at < c.list_of-start.result + class_total p.version =
    omega (arith, c.lists-test.true, c.class_total.ensures.count) in
    let many = lists_among c.lists.invariant c.requires more in
    let after = lists_more c.give.new.self c.lists.invariant c.requires more c.in_ok-give.ensures.given in
    omega (arith, many, after.classes.listed, c.class_total.ensures.count)

pub lists-preserved : goal.lists-preserved
lists-preserved g c =
    let more : c.lists.at < c.list_of-start.result + class_total c.args.self.now.version =
    omega (arith, c.lists-test.true, c.class_total.ensures.count) in
    let next = c.next_with_slots-at-in-lists.ensures in
    subst (λ n. AreGivenTo c.args.thread c.args.partition c.list_of-start.result c.next_with_slots-at-in-lists.result c.args.self.now
    c.give.new.self (c.lists.slots + n))
    (sym (ap length c.places.ensures.places))
    (lists_past c.next_with_slots-at-in-lists.result
    (lists_more c.give.new.self c.lists.invariant c.requires more c.in_ok-give.ensures.given)
    c.requires next.from (omega (arith, next.to, c.class_total.ensures.count)) next.empty)

pub returns : goal.returns
returns g c =
    let end = lists_end c.lists.invariant (omega (arith, c.lists-test.false, c.class_total.ensures.count)) in
    record { slots = end.1; given = end.0; same = tt }

pub returns-in_err-give-clause-same : goal.returns-in_err-give-clause-same
returns-in_err-give-clause-same g c =
    any_err _ _ (c.in_err-give.ensures.same ∙
    lists_settled c.args.thread c.args.partition _ c.args.self.now c.lists.self c.lists.slots c.lists.invariant.classes)
