use Rattle.std.proofs.Common.{◌≡◌, ◌<◌, length, ◌++◌, ap, refl, sym, ◌∙◌, subst, Some}
use Rattle.std.proofs.lemmas.Option.{slice_get_read, slice_get_within}
use Rattle.pa_record.specs.Root.{in_state, turn_after}
use Rattle.pa_lists.proofs.Members.{of_some}
use Rattle.pa_place.specs.Order.{IsOrdered}
use Rattle.pa_record.specs.Spans.{Span, with_free}
use Rattle.pa_buckets.specs.Table.{slots_of}
use Rattle.pa_place.specs.Made.{made_from}
use Rattle.pa_place.proofs.Bounds.{served_low}
use Rattle.pa_place.proofs.Cutting.{served_after, served_most, served_cut}
use Rattle.pa_place.specs.Served.{IsServed}
use Rattle.pa_place.specs.Store.{root_of}
use Rattle.pa_place.proofs.Ordering.{order_changed, served_like}
use Rattle.pa_place.proofs.Filing.{filed_alike, turns_alike, sound_turns, served_numbers, in_use_other, entered_after, set_within}
use Rattle.pa_place.proofs.Placing.{span_low, served_root}
use Rattle.pa_place.proofs.store.Store.take_at.Goals as goal
use Rattle.pa_lists.proofs.Indexed.{at_in}

pub take_slot-title-requires-clause-low : goal.take_slot-title-requires-clause-low
take_slot-title-requires-clause-low c =
    let ss = c.args.self.now.spans.items in
    let s = c.index_mut-span.result.now in
    let within = slice_get_within ss c.args.at c.requires.usable.0 c.requires.usable.1 in
    let here = slice_get_read ss (length ss) c.args.at s refl within c.index_mut-span.ensures.value in
    span_low (root_of c.args.self.now) s c.requires.ready (at_in ss c.args.at s here)

pub enter-requires : goal.enter-requires
enter-requires c =
    let ss = c.args.self.now.spans.items in
    let s = c.index_mut-span.result.now in
    let within = slice_get_within ss c.args.at c.requires.usable.0 c.requires.usable.1 in
    let here = slice_get_read ss (length ss) c.args.at s refl within c.index_mut-span.ensures.value in
    let u = c.take_slot-title.new.self in
    let n = served_numbers s u c.take_slot-title.result c.take_slot-title.ensures in
    record {
      here = set_within ss c.args.at u within;
      filed = filed_alike ss c.args.at s u c.args.self.now.lists here n.class n.state n.turn c.requires.filed;
      turns = turns_alike ss c.args.at c.args.self.now.turn s u here n.state n.turn
          (sound_turns (root_of c.args.self.now) c.requires.ready.sound);
      ring = λ e. absurd (in_use_other u (sym c.state_in_use-state.ensures ∙ e));
      turn = c.requires.turn;
    }

pub returns-clause-took : goal.returns-clause-took
returns-clause-took c = λ s e.
    let ss = c.args.self.now.spans.items in
    let v = c.index_mut-span.result.now in
    let within = slice_get_within ss c.args.at s e in
    let here = slice_get_read ss (length ss) c.args.at v refl within c.index_mut-span.ensures.value in
    let same : v ≡ s = of_some v s (sym here ∙ e) in
    let u = c.take_slot-title.new.self in
    let served : IsServed s u c.take_slot-title.result =
    subst (λ z. IsServed z u c.take_slot-title.result) same c.take_slot-title.ensures in
    let turn = c.args.self.now.turn in
    let to = c.state_in_use-state.result in
    served_root (root_of c.args.self.now) c.args.at s u (in_state to turn u) c.take_slot-title.result
    (turn_after to turn u) c.requires.ready.sound e served
    (ap (λ a. in_state a turn u) c.state_in_use-state.ensures)
    (ap (λ a. turn_after a turn u) c.state_in_use-state.ensures)
    ∙ ap (λ z. record { root = z; title = Some c.take_slot-title.result })
    (sym (entered_after (root_of c.args.self.now) (root_of c.enter.new.self) c.args.at s u to e c.enter.ensures.entered))

pub returns-clause-ordered : goal.returns-clause-ordered
returns-clause-ordered c =
    let ss = c.args.self.now.spans.items in
    let s = c.index_mut-span.result.now in
    let within = slice_get_within ss c.args.at c.requires.usable.0 c.requires.usable.1 in
    let here = slice_get_read ss (length ss) c.args.at s refl within c.index_mut-span.ensures.value in
    let u = c.take_slot-title.new.self in
    let turn = c.args.self.now.turn in
    let to = c.state_in_use-state.result in
    subst IsOrdered (sym (entered_after (root_of c.args.self.now) (root_of c.enter.new.self) c.args.at s u to here c.enter.ensures.entered))
    (order_changed (root_of c.args.self.now) c.args.at s u (in_state to turn u) (turn_after to turn u) to c.requires.ordered here
    (served_like s u c.take_slot-title.result c.take_slot-title.ensures) refl)

pub tell_made-requires-clause-low : goal.tell_made-requires-clause-low
tell_made-requires-clause-low c =
    let ss = c.args.self.now.spans.items in
    let s = c.index_mut-span.result.now in
    let within = slice_get_within ss c.args.at c.requires.usable.0 c.requires.usable.1 in
    let here = slice_get_read ss (length ss) c.args.at s refl within c.index_mut-span.ensures.value in
    let among = at_in ss c.args.at s here in
    let served = c.take_slot-title.ensures in
    served_low s (with_free s) c.take_slot-title.new.self refl (served_after s c.take_slot-title.new.self c.take_slot-title.result served)
    (span_low (root_of c.args.self.now) s c.requires.ready among)

pub tell_made-requires-clause-most : goal.tell_made-requires-clause-most
tell_made-requires-clause-most c =
    let ss = c.args.self.now.spans.items in
    let s = c.index_mut-span.result.now in
    let within = slice_get_within ss c.args.at c.requires.usable.0 c.requires.usable.1 in
    let here = slice_get_read ss (length ss) c.args.at s refl within c.index_mut-span.ensures.value in
    let among = at_in ss c.args.at s here in
    let served = c.take_slot-title.ensures in
    served_most s c.take_slot-title.new.self c.take_slot-title.result (c.requires.ready.sound.spans s among).counted
    (subst (λ (z : Span). z.allocated < slots_of z.class) (of_some c.requires.usable.0 s (sym c.requires.usable.1 ∙ here))
    c.requires.usable.2) served

pub returns-clause-cut : goal.returns-clause-cut
returns-clause-cut c = λ s e.
    let ss = c.args.self.now.spans.items in
    let v = c.index_mut-span.result.now in
    let within = slice_get_within ss c.args.at s e in
    let here = slice_get_read ss (length ss) c.args.at v refl within c.index_mut-span.ensures.value in
    let same : v ≡ s = of_some v s (sym here ∙ e) in
    let served : IsServed s c.take_slot-title.new.self c.take_slot-title.result =
    subst (λ z. IsServed z c.take_slot-title.new.self c.take_slot-title.result) same c.take_slot-title.ensures in
    c.tell_made.ensures.batch
    ∙ ap (λ n. c.args.made.now.items ++ made_from n c.take_slot-title.new.self) (c.made-before.ensures ∙ ap (λ (z : Span). z.made) same)
    ∙ ap (λ xs. c.args.made.now.items ++ xs) (served_cut s.made s c.take_slot-title.new.self c.take_slot-title.result served)
