use Rattle.std.proofs.Common.{length, refl, sym, ◌∙◌, ap, subst, arith}
use Rattle.std.proofs.lemmas.Option.{slice_get_read}
use Rattle.std.proofs.lemmas.Bool.{false≢true}
use Rattle.pa_buckets.specs.declared.spans.State.TheVariants as state
use Rattle.pa_record.specs.Spans.{Span, is_in, same_state}
use Rattle.pa_record.specs.Root.{in_state, turn_after, decommitted_span}
use Rattle.pa_record.proofs.Entering.{IsLike}
use Rattle.pa_place.specs.Order.{IsOrdered}
use Rattle.pa_place.specs.Listing.{IsListing}
use Rattle.pa_place.specs.Store.{root_of}
use Rattle.pa_place.proofs.Giving.{decommitted_root}
use Rattle.pa_place.proofs.Listing.{first_is_earliest, none_is_earliest}
use Rattle.pa_place.proofs.Ordering.{order_changed}
use Rattle.pa_place.proofs.Filing.{listed_first, listed_none, empties_used, filed_alike, turns_alike, sound_turns, entered_after, set_within}
use Rattle.pa_place.proofs.Latest.{ring_there}
use Rattle.pa_place.proofs.store.Store.decommit_oldest.Goals as goal

pub index_mut-requires : goal.index_mut-requires
index_mut-requires c =
    let first = rw c.deref.ensures.value at c.in-Some.ensures in
    let within = ring_there c.args.self.now.spans.items c.args.self.now.lists.empty.items 0 c.in-Some.at c.requires.filed.empty
    (sym first) in
    omega arith

pub enter-requires : goal.enter-requires
enter-requires c =
    let r = root_of c.args.self.now in
    let ss = r.spans in
    let ids = c.args.self.now.lists.empty.items in
    let at = c.in-Some.at in
    let first = sym (rw c.deref.ensures.value at c.in-Some.ensures) in
    let within = ring_there ss ids 0 at c.requires.filed.empty first in
    let s = c.index_mut.result.now in
    let here = slice_get_read ss (length ss) at s refl within c.index_mut.ensures.value in
    let u = c.drop_pages.new.self in
    let class = ap (λ (z : Span). z.class) c.drop_pages.ensures in
    let same = ap (λ (z : Span). z.state) c.drop_pages.ensures in
    let turn = ap (λ (z : Span). z.turn) c.drop_pages.ensures in
    record {
      here = set_within ss at u within;
      filed = filed_alike ss at s u c.args.self.now.lists here class same turn c.requires.filed;
      turns = turns_alike ss at c.args.self.now.turn s u here same turn (sound_turns r c.requires.sound);
      ring = λ e. absurd (false≢true (ap (λ a. same_state a state.Empty) e));
      turn = c.requires.turn;
    }

pub returns-in-Some-clause-oldest : goal.returns-in-Some-clause-oldest
returns-in-Some-clause-oldest c =
    let r = root_of c.args.self.now in
    let ss = r.spans in
    let ids = c.args.self.now.lists.empty.items in
    let at = c.in-Some.at in
    let first = sym (rw c.deref.ensures.value at c.in-Some.ensures) in
    let within = ring_there ss ids 0 at c.requires.filed.empty first in
    let s = c.index_mut.result.now in
    let here = slice_get_read ss (length ss) at s refl within c.index_mut.ensures.value in
    let u = c.drop_pages.new.self in
    let (rest, e) = listed_first ids at first in
    let oldest = first_is_earliest (is_in state.Empty) r at rest s c.requires.sound (empties_used r)
    (subst (λ xs. IsListing (is_in state.Empty) ss xs) e c.requires.filed.empty) here in
    let turn = c.args.self.now.turn in
    entered_after r (root_of c.enter.new.self) at s u state.Decommitted here c.enter.ensures.entered
    ∙ decommitted_root r at s u (in_state state.Decommitted turn u)
    (turn_after state.Decommitted turn u) c.requires.sound oldest here c.drop_pages.ensures refl refl

pub returns-in-Some-clause-ordered : goal.returns-in-Some-clause-ordered
returns-in-Some-clause-ordered c =
    let r = root_of c.args.self.now in
    let ss = r.spans in
    let ids = c.args.self.now.lists.empty.items in
    let at = c.in-Some.at in
    let first = sym (rw c.deref.ensures.value at c.in-Some.ensures) in
    let within = ring_there ss ids 0 at c.requires.filed.empty first in
    let s = c.index_mut.result.now in
    let here = slice_get_read ss (length ss) at s refl within c.index_mut.ensures.value in
    let u = c.drop_pages.new.self in
    let turn = c.args.self.now.turn in
    let like : IsLike u s = rw c.drop_pages.ensures (record { place = refl; born = refl; class = refl }) in
    subst IsOrdered (sym (entered_after r (root_of c.enter.new.self) at s u state.Decommitted here c.enter.ensures.entered))
    (order_changed r at s u (in_state state.Decommitted turn u)
    (turn_after state.Decommitted turn u) state.Decommitted c.requires.ordered here like refl)

pub returns-in_default-clause-oldest : goal.returns-in_default-clause-oldest
returns-in_default-clause-oldest c =
    let r = root_of c.args.self.now in
    let none = listed_none c.args.self.now.lists.empty.items (sym (rw c.deref.ensures.value at c.in_default.ensures)) in
    sym (ap (λ o. decommitted_span o r)
    (none_is_earliest (is_in state.Empty) r.spans (subst (λ xs. IsListing (is_in state.Empty) r.spans xs) none c.requires.filed.empty)))
