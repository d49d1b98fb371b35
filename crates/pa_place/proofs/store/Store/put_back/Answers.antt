use Rattle.std.proofs.Common.{arith, ◌≡◌, length, refl, sym, ◌∙◌, ap, subst}
use Rattle.std.specs.Prelude.{slice_get, find}
use Rattle.std.proofs.lemmas.Option.{slice_get_read}
use Rattle.pa_record.specs.Spans.{Span, holds}
use Rattle.pa_record.specs.Root.{in_state, turn_after, put_back}
use Rattle.pa_place.specs.Store.{root_of}
use Rattle.pa_record.proofs.Entering.{IsLike}
use Rattle.pa_place.proofs.Ordering.{order_changed}
use Rattle.pa_place.specs.Order.{IsOrdered}
use Rattle.pa_place.proofs.Filing.{filed_alike, turns_alike, sound_turns, empties_alike, entered_after, set_within}
use Rattle.pa_place.proofs.Giving.{takes_back, put_back_root}
use Rattle.pa_place.proofs.store.Store.put_back.Goals as goal

pub put_back-requires-clause-counted : goal.put_back-requires-clause-counted
put_back-requires-clause-counted c =
    let ss = c.args.self.now.spans.items in
    let s = c.index_mut-span.result.now in
    let found = rw c.deref.ensures.value at c.in-Some.ensures in
    let here = slice_get_read ss (length ss) c.in-Some.at s refl found.within c.index_mut-span.ensures.value in
    let held : slice_get ss c.in-Some.at ≡ find (holds c.args.name) ss = found.holding in
    (takes_back (root_of c.args.self.now) s c.args.name c.requires.sound c.requires.out (sym held ∙ here)).counted

pub put_back-requires-clause-some : goal.put_back-requires-clause-some
put_back-requires-clause-some c =
    let ss = c.args.self.now.spans.items in
    let s = c.index_mut-span.result.now in
    let found = rw c.deref.ensures.value at c.in-Some.ensures in
    let here = slice_get_read ss (length ss) c.in-Some.at s refl found.within c.index_mut-span.ensures.value in
    let held : slice_get ss c.in-Some.at ≡ find (holds c.args.name) ss = found.holding in
    (takes_back (root_of c.args.self.now) s c.args.name c.requires.sound c.requires.out (sym held ∙ here)).some

pub put_back-requires-clause-inside : goal.put_back-requires-clause-inside
put_back-requires-clause-inside c =
    let ss = c.args.self.now.spans.items in
    let s = c.index_mut-span.result.now in
    let found = rw c.deref.ensures.value at c.in-Some.ensures in
    let here = slice_get_read ss (length ss) c.in-Some.at s refl found.within c.index_mut-span.ensures.value in
    let held : slice_get ss c.in-Some.at ≡ find (holds c.args.name) ss = found.holding in
    (takes_back (root_of c.args.self.now) s c.args.name c.requires.sound c.requires.out (sym held ∙ here)).inside

pub returns-in-Some-clause-back : goal.returns-in-Some-clause-back
returns-in-Some-clause-back c =
    let ss = c.args.self.now.spans.items in
    let s = c.index_mut-span.result.now in
    let found = rw c.deref.ensures.value at c.in-Some.ensures in
    let here = slice_get_read ss (length ss) c.in-Some.at s refl found.within c.index_mut-span.ensures.value in
    let r = root_of c.args.self.now in
    let held : slice_get ss c.in-Some.at ≡ find (holds c.args.name) ss = found.holding in
    let u = c.put_back.new.self in
    let turn = c.args.self.now.turn in
    let to = c.state_back-state.result in
    entered_after r (root_of c.enter.new.self) c.in-Some.at s u to here c.enter.ensures.entered
    ∙ put_back_root r c.in-Some.at s u (in_state to turn u) (turn_after to turn u) c.args.name c.requires.sound held here c.put_back.ensures
    (ap (λ a. in_state a turn u) c.state_back-state.ensures)
    (ap (λ a. turn_after a turn u) c.state_back-state.ensures)

pub enter-requires : goal.enter-requires
enter-requires c =
    let ss = c.args.self.now.spans.items in
    let s = c.index_mut-span.result.now in
    let found = rw c.deref.ensures.value at c.in-Some.ensures in
    let here = slice_get_read ss (length ss) c.in-Some.at s refl found.within c.index_mut-span.ensures.value in
    let u = c.put_back.new.self in
    let class = ap (λ (z : Span). z.class) c.put_back.ensures in
    let state = ap (λ (z : Span). z.state) c.put_back.ensures in
    let turn = ap (λ (z : Span). z.turn) c.put_back.ensures in
    record {
      here = set_within ss c.in-Some.at u found.within;
      filed = filed_alike ss c.in-Some.at s u c.args.self.now.lists here class state turn c.requires.filed;
      turns = turns_alike ss c.in-Some.at c.args.self.now.turn s u here state turn (sound_turns (root_of c.args.self.now) c.requires.sound);
      ring = λ _. let p = c.requires.settled in let q = empties_alike ss c.in-Some.at s u here state in omega arith;
      turn = let p = c.requires.turn in omega arith;
    }

pub returns-in_default-clause-back : goal.returns-in_default-clause-back
returns-in_default-clause-back c =
    let ss = c.args.self.now.spans.items in
    let found = rw c.deref.ensures.value at c.in_default.ensures in
    let none = found.holding in
    ap (λ o. put_back c.args.name o (root_of c.args.self.now)) none

pub returns-in-Some-clause-ordered : goal.returns-in-Some-clause-ordered
returns-in-Some-clause-ordered c =
    let ss = c.args.self.now.spans.items in
    let s = c.index_mut-span.result.now in
    let found = rw c.deref.ensures.value at c.in-Some.ensures in
    let here = slice_get_read ss (length ss) c.in-Some.at s refl found.within c.index_mut-span.ensures.value in
    let u = c.put_back.new.self in
    let turn = c.args.self.now.turn in
    let to = c.state_back-state.result in
    let like : IsLike u s = rw c.put_back.ensures (record { place = refl; born = refl; class = refl }) in
    subst IsOrdered (sym (entered_after (root_of c.args.self.now)
    (root_of c.enter.new.self) c.in-Some.at s u to here c.enter.ensures.entered))
    (order_changed (root_of c.args.self.now) c.in-Some.at s u (in_state to turn u)
    (turn_after to turn u) to c.requires.ordered here like refl)

pub index_holding-requires : goal.index_holding-requires
index_holding-requires c = rw c.deref.ensures.value (record { order = c.requires.ordered.spans })
