use Rattle.std.proofs.Common.{◌+◌, ◌<◌, length, sym, ◌∙◌, ap, subst, arith}
use Rattle.std.specs.Prelude.{slice_index_or}
use Rattle.std.proofs.lemmas.List.{length_push}
use Rattle.std.proofs.lemmas.List.Elements.{All-push}
use Rattle.pa_record.specs.declared.report.Tally.{Tally}
use Rattle.pa_rules.specs.Lists.{no_tally}
use Rattle.pa_delay.specs.Queue.{QueueList, IsClassed, size_of_class}
use Rattle.pa_delay.proofs.Queueing.{bytes_behind, bytes_few, bytes_of_all, size_few, slots_of_all, tallied_behind}
use Rattle.pa_delay.proofs.queue.Delay.push.Goals as goal

pub and-sum-requires-clause-slots : goal.and-sum-requires-clause-slots
and-sum-requires-clause-slots c =
    let (sum, few, fits, classes, tallied) = c.self.invariant in
    let is = ap (λ (t : Tally). t.slots) (tallied.each c.args.handle.partition c.requires.partition) in
    let most = slots_of_all c.args.handle.partition c.self.inside.slots.items in
    let ranges = c.self.ranges in
    omega (arith, is, most, few, ranges)

pub and-sum-requires-clause-bytes : goal.and-sum-requires-clause-bytes
and-sum-requires-clause-bytes c =
    let (sum, few, fits, classes, tallied) = c.self.invariant in
    let is = ap (λ (t : Tally). t.bytes) (tallied.each c.args.handle.partition c.requires.partition) in
    let most = bytes_of_all c.args.handle.partition c.self.inside.slots.items in
    let bound = bytes_few c.self.inside.slots.items classes in
    let size = c.size_of.ensures in
    let one = size_few c.args.handle c.requires.class in
    let ranges = c.self.ranges in
    omega (arith, ranges)

pub overflow_add-self : goal.overflow_add-self
overflow_add-self c =
    let (sum, few, fits, classes, tallied) = c.self.invariant in
    let bound = bytes_few c.self.inside.slots.items classes in
    let size = c.size_of.ensures in
    let one = size_few c.args.handle c.requires.class in
    let ranges = c.self.ranges in
    omega (arith, ranges)

pub invariant_of-self : goal.invariant_of-self
invariant_of-self c =
    let (sum, few, fits, classes, tallied) = c.self.invariant in
    let h = c.args.handle in
    let items = c.push_back_reserved.ensures.items in
    let behind = bytes_behind c.self.inside.slots.items h in
    let size = c.size_of.ensures in
    let room : length c.self.inside.slots.items < c.self.inside.room =
    subst (λ (q : QueueList). length q.slots < q.room) (sym c.self.view_is) c.requires.room in
    let longer = length_push c.self.inside.slots.items h in
    let is = tallied.each h.partition c.requires.partition in
    let more = c.and-sum.ensures in (
      rw items (omega arith),
      rw items (omega arith),
      rw c.push_back_reserved.ensures.capacity fits,
      rw items (All-push IsClassed c.self.inside.slots.items h classes c.requires.class),
      rw items (tallied_behind c.self.inside.slots.items h c.self.inside.tallies c.and-sum.result c.requires.partition tallied
          (ap (λ (t : Tally). t.slots) more ∙ ap (λ (t : Tally). t.slots + 1) is)
          (ap (λ (t : Tally). t.bytes) more ∙ (ap (λ n. (slice_index_or c.self.inside.tallies h.partition no_tally).bytes + n) size
          ∙ ap (λ (t : Tally). t.bytes + size_of_class h.class) is))),
    )
