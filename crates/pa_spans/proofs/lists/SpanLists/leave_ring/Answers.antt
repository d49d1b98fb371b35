use Rattle.std.proofs.Common.{◌≡◌, ◌==◌, not, List, ℕ, ap, subst, sym, filter, rules}
use Rattle.arrayvec.proofs.ArrayVecLemmas.{filter-from_retain}
use Rattle.pa_spans.specs.Lists.{SpanListParts, ring_without}
use Rattle.pa_spans.proofs.lists.SpanLists.leave_ring.Goals as goal

pub returns-in-Empty : goal.returns-in-Empty
returns-in-Empty c =
    let kept : c.retain.new.self.items ≡ filter (λ u. not (u == c.args.at)) c.self.inside.ring.items =
    filter-from_retain _ _ _ (λ x b f' y called. search rules) _ _ c.retain.ensures.filtered in
    let same : c.retain.new.self.items ≡ ring_without c.args.at c.args.state c.self.inside.ring.items =
    subst (λ a. c.retain.new.self.items ≡ ring_without c.args.at a c.self.inside.ring.items) (sym c.in-Empty.is) kept in
    let before : SpanListParts = record {
      active = c.self.inside.active;
      empty = c.self.inside.empty;
      decommitted = c.self.inside.decommitted;
      ring = c.self.inside.ring.items;
      turn = c.self.inside.turn;
    } in
    let after : SpanListParts = record before { ring = c.retain.new.self.items } in
    subst (λ (d : SpanListParts). after ≡ record d { ring = ring_without c.args.at c.args.state d.ring }) c.self.view_is
    (ap {B = SpanListParts} (λ (r : List ℕ). record before { ring = r }) same)
