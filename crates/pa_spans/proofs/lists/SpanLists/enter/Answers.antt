use Rattle.std.proofs.Common.{◌≡◌, ◌∙◌, ap, sym, arith}
use Rattle.pa_spans.specs.Lists.{SpanListParts}
use Rattle.pa_spans.proofs.Leaving.{turn_kept}
use Rattle.pa_spans.proofs.Moving.{Moves, spans_unmoved, lists_unmoved, stands_alike, spans_moved, lists_moved, stands_moved, previous_is_had, next_is_had, head_is_had, room_is_left}
use Rattle.pa_spans.proofs.lists.SpanLists.enter.Goals as goal

pub get-span-requires : goal.get-span-requires
get-span-requires g c = c.requires.has

pub take_out-requires-clause-previous : goal.take_out-requires-clause-previous
take_out-requires-clause-previous g c filled =
    let spans = g.S.SpanStore.spans c.args.store.now in let has = g.S.SpanStore.has c.args.store.now in
    (c.get-span.ensures.has c.get-span.result.previous).1
    (previous_is_had c.args.self.now spans has c.args.at c.get-span.result c.requires.stand c.requires.has c.get-span.ensures.span filled)

pub take_out-requires-clause-next : goal.take_out-requires-clause-next
take_out-requires-clause-next g c filled =
    let spans = g.S.SpanStore.spans c.args.store.now in let has = g.S.SpanStore.has c.args.store.now in
    (c.get-span.ensures.has c.get-span.result.next).1
    (next_is_had c.args.self.now spans has c.args.at c.get-span.result c.requires.stand c.requires.has c.get-span.ensures.span filled)

pub put_in-requires-clause-has : goal.put_in-requires-clause-has
put_in-requires-clause-has g c = (c.take_out.ensures.has c.args.at).1 ((c.get-span.ensures.has c.args.at).1 c.requires.has)

pub put_in-requires-clause-head : goal.put_in-requires-clause-head
put_in-requires-clause-head g c filled =
    let spans = g.S.SpanStore.spans c.args.store.now in let has = g.S.SpanStore.has c.args.store.now in
    let is = head_is_had c.args.self.now c.take_out.new.self spans has c.args.at c.get-span.result c.args.to c.requires.stand c.requires.has
    c.get-span.ensures.span c.take_out.ensures.lists c.take_out.ensures.class filled in
    (c.take_out.ensures.has _).1 ((c.get-span.ensures.has _).1 is)

pub put_in-requires-clause-few : goal.put_in-requires-clause-few
put_in-requires-clause-few g c =
    room_is_left c.args.self.now c.take_out.new.self
    (g.S.SpanStore.spans c.args.store.now) c.args.at c.get-span.result c.args.to c.get-span.ensures.span
    (sym c.is_in.ensures ∙ c.if-is_in.false) c.take_out.ensures.lists c.requires.few

pub put_in-requires-clause-turn : goal.put_in-requires-clause-turn
put_in-requires-clause-turn g c =
    let same : c.take_out.new.self.turn ≡ c.args.self.now.turn = ap (λ (z : SpanListParts). z.turn) c.take_out.ensures.lists ∙
    turn_kept c.args.at c.get-span.result c.args.self.now in
    omega arith

pub returns-clause-entered : goal.returns-clause-entered
returns-clause-entered g c u =
    let moves : Moves c.args.self.now c.take_out.new.self c.put_in.new.self (g.S.SpanStore.spans c.args.store.now)
    (g.S.SpanStore.spans c.get-span.new.self)
    (g.S.SpanStore.spans c.take_out.new.store) (g.S.SpanStore.spans c.put_in.new.store) c.args.at c.get-span.result c.args.to = record {
      seen_is = c.get-span.ensures.same;
      span_is = c.get-span.ensures.span;
      moves = sym c.is_in.ensures ∙ c.if-is_in.false;
      left_is = c.take_out.ensures.spans;
      gone_is = c.take_out.ensures.lists;
      after_is = c.put_in.ensures.spans;
      lists_are = c.put_in.ensures.lists;
    } in
    spans_moved c.args.self.now c.take_out.new.self c.put_in.new.self (g.S.SpanStore.spans c.args.store.now)
    (g.S.SpanStore.spans c.get-span.new.self)
    (g.S.SpanStore.spans c.take_out.new.store) (g.S.SpanStore.spans c.put_in.new.store) c.args.at c.get-span.result c.args.to moves u

pub returns-clause-lists : goal.returns-clause-lists
returns-clause-lists g c =
    let moves : Moves c.args.self.now c.take_out.new.self c.put_in.new.self (g.S.SpanStore.spans c.args.store.now)
    (g.S.SpanStore.spans c.get-span.new.self)
    (g.S.SpanStore.spans c.take_out.new.store) (g.S.SpanStore.spans c.put_in.new.store) c.args.at c.get-span.result c.args.to = record {
      seen_is = c.get-span.ensures.same;
      span_is = c.get-span.ensures.span;
      moves = sym c.is_in.ensures ∙ c.if-is_in.false;
      left_is = c.take_out.ensures.spans;
      gone_is = c.take_out.ensures.lists;
      after_is = c.put_in.ensures.spans;
      lists_are = c.put_in.ensures.lists;
    } in
    lists_moved c.args.self.now c.take_out.new.self c.put_in.new.self (g.S.SpanStore.spans c.args.store.now)
    (g.S.SpanStore.spans c.get-span.new.self)
    (g.S.SpanStore.spans c.take_out.new.store) (g.S.SpanStore.spans c.put_in.new.store) c.args.at c.get-span.result c.args.to moves

pub returns-clause-has : goal.returns-clause-has
returns-clause-has g c u = (
  λ h. (c.get-span.ensures.has u).0 ((c.take_out.ensures.has u).0 ((c.put_in.ensures.has u).0 h)),
  λ h. (c.put_in.ensures.has u).1 ((c.take_out.ensures.has u).1 ((c.get-span.ensures.has u).1 h)),
)

pub returns-clause-stand : goal.returns-clause-stand
returns-clause-stand g c =
    let moves : Moves c.args.self.now c.take_out.new.self c.put_in.new.self (g.S.SpanStore.spans c.args.store.now)
    (g.S.SpanStore.spans c.get-span.new.self)
    (g.S.SpanStore.spans c.take_out.new.store) (g.S.SpanStore.spans c.put_in.new.store) c.args.at c.get-span.result c.args.to = record {
      seen_is = c.get-span.ensures.same;
      span_is = c.get-span.ensures.span;
      moves = sym c.is_in.ensures ∙ c.if-is_in.false;
      left_is = c.take_out.ensures.spans;
      gone_is = c.take_out.ensures.lists;
      after_is = c.put_in.ensures.spans;
      lists_are = c.put_in.ensures.lists;
    } in
    stands_moved c.args.self.now c.take_out.new.self c.put_in.new.self (g.S.SpanStore.spans c.args.store.now)
    (g.S.SpanStore.spans c.get-span.new.self)
    (g.S.SpanStore.spans c.take_out.new.store) (g.S.SpanStore.spans c.put_in.new.store) c.args.at c.get-span.result c.args.to
    (g.S.SpanStore.has c.args.store.now)
    (g.S.SpanStore.has c.put_in.new.store) moves c.requires.stand c.requires.has c.take_out.ensures.class (λ u. (
      λ h. (c.get-span.ensures.has u).0 ((c.take_out.ensures.has u).0 ((c.put_in.ensures.has u).0 h)),
      λ h. (c.put_in.ensures.has u).1 ((c.take_out.ensures.has u).1 ((c.get-span.ensures.has u).1 h)),
    ))

pub returns-clause-oldest : goal.returns-clause-oldest
returns-clause-oldest g c = c.oldest-2.ensures

pub returns-clause-follows : goal.returns-clause-follows
returns-clause-follows g c =
    g.met.S.SpanStore.follows_on _ _ _ c.get-span.ensures.follows
    (g.met.S.SpanStore.follows_on _ _ _ c.take_out.ensures.follows c.put_in.ensures.follows)

pub returns-then-is_in-clause-entered : goal.returns-then-is_in-clause-entered
returns-then-is_in-clause-entered g c u =
    spans_unmoved c.args.self.now (g.S.SpanStore.spans c.args.store.now)
    (g.S.SpanStore.spans c.get-span.new.self) c.args.at c.get-span.result c.args.to
    c.get-span.ensures.same c.get-span.ensures.span (sym c.is_in.ensures ∙ c.if-is_in.true) u

pub returns-then-is_in-clause-lists : goal.returns-then-is_in-clause-lists
returns-then-is_in-clause-lists g c =
    lists_unmoved c.args.self.now (g.S.SpanStore.spans c.args.store.now) c.args.at c.get-span.result c.args.to c.get-span.ensures.span
    (sym c.is_in.ensures ∙ c.if-is_in.true)

pub returns-then-is_in-clause-has : goal.returns-then-is_in-clause-has
returns-then-is_in-clause-has g c = c.get-span.ensures.has

pub returns-then-is_in-clause-stand : goal.returns-then-is_in-clause-stand
returns-then-is_in-clause-stand g c =
    stands_alike c.args.self.now (g.S.SpanStore.spans c.args.store.now) (g.S.SpanStore.spans c.get-span.new.self)
    (g.S.SpanStore.has c.args.store.now)
    (g.S.SpanStore.has c.get-span.new.self) c.requires.stand c.get-span.ensures.same c.get-span.ensures.has

pub returns-then-is_in-clause-oldest : goal.returns-then-is_in-clause-oldest
returns-then-is_in-clause-oldest g c = c.oldest.ensures

pub returns-then-is_in-clause-follows : goal.returns-then-is_in-clause-follows
returns-then-is_in-clause-follows g c = c.get-span.ensures.follows
