use Rattle.std.proofs.Common.{◌≡◌, ◌+◌, ◌∷◌, length, suc, ap, subst, arith}
use Rattle.std.proofs.lemmas.List.Elements.{All-tail}
use Rattle.pa_delay.specs.Queue.{AreClassed, AreTallied, IsClassed, size_of_class, waiting_bytes}
use Rattle.pa_delay.proofs.Queueing.{front_counted, tallied_rest}
use Rattle.pa_delay.proofs.queue.Delay.drain.Goals as goal

pub invariant_of-self-2 : goal.invariant_of-self-2
invariant_of-self-2 c =
    let (sum, few, fits, classes, tallied) = c.self.invariant in
    let front = c.in_ok-front.front in
    let rest = c.pop_front.new.self.items in
    let whole : c.self.inside.slots.items ≡ front ∷ rest = c.in_ok-front.ensures.items in
    let bytes : waiting_bytes c.self.inside.slots.items ≡ size_of_class front.class + waiting_bytes rest = ap waiting_bytes whole in
    let long : length c.self.inside.slots.items ≡ suc (length rest) = ap length whole in
    let size = c.size_of-size.ensures in
    let there : AreTallied (front ∷ rest) c.self.inside.tallies =
    subst (λ hs. AreTallied hs c.self.inside.tallies) whole tallied in
    let (low, some, enough) = front_counted front rest c.self.inside.tallies there in (
      omega arith,
      omega arith,
      rw c.pop_front.ensures.capacity fits,
      All-tail IsClassed front rest (subst AreClassed whole classes),
      tallied_rest front rest c.self.inside.tallies _ there (omega arith) (omega arith),
    )
