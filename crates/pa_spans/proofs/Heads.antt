-- Heads of lists: what they are after one was set.
use Rattle.std.proofs.Common.{◌≡◌, ℕ, ◌<◌, List, refl, arith}
use Rattle.std.proofs.lemmas.List.{get_or-set_same, get_or-set_other, length-set}
use Rattle.pa_buckets.specs.declared.spans.State.{State}
use Rattle.pa_buckets.specs.declared.spans.State.TheVariants as state
use Rattle.pa_buckets.specs.Limits.{class_count}
use Rattle.pa_spans.specs.Lists.{SpanListParts, HasHeads, HasList, list_head, with_head}

pub head_set : (l : SpanListParts) (class : ℕ) (a : State) (at : ℕ) → HasHeads l → class < class_count → HasList a →
    list_head (with_head class a at l) class a ≡ at
head_set l class state.None at long small listed = absurd listed
head_set l class state.Active at long small listed = get_or-set_same l.active class at 0 (let n = long.active in omega arith)
head_set l class state.Empty at long small listed = get_or-set_same l.empty class at 0 (let n = long.empty in omega arith)
head_set l class state.Decommitted at long small listed = get_or-set_same l.decommitted class at 0 (let n = long.decommitted in omega arith)
head_set l class state.Full at long small listed = absurd listed

pub head_other : (l : SpanListParts) (k class : ℕ) (e a : State) (at : ℕ) → ((k ≡ class) × (e ≡ a) → ⊥) →
    list_head (with_head class a at l) k e ≡ list_head l k e
head_other l k class state.Active state.Active at never = get_or-set_other l.active class k at 0 (λ f. never (f, refl))
head_other l k class state.Empty state.Empty at never = get_or-set_other l.empty class k at 0 (λ f. never (f, refl))
head_other l k class state.Decommitted state.Decommitted at never = get_or-set_other l.decommitted class k at 0 (λ f. never (f, refl))
head_other l k class e a at never = refl

-- neither the ring nor the turn has to do with heads
pub head_alike : (l : SpanListParts) (ring : List ℕ) (turn : ℕ) (k : ℕ) (e : State) →
    list_head (record l { ring = ring; turn = turn }) k e ≡ list_head l k e
head_alike l ring turn k state.None = refl
head_alike l ring turn k state.Active = refl
head_alike l ring turn k state.Empty = refl
head_alike l ring turn k state.Decommitted = refl
head_alike l ring turn k state.Full = refl

pub turn_alike : (l : SpanListParts) (class : ℕ) (a : State) (at : ℕ) → (with_head class a at l).turn ≡ l.turn
turn_alike l class state.None at = refl
turn_alike l class state.Active at = refl
turn_alike l class state.Empty at = refl
turn_alike l class state.Decommitted at = refl
turn_alike l class state.Full at = refl

pub ring_alike : (l : SpanListParts) (class : ℕ) (a : State) (at : ℕ) → (with_head class a at l).ring ≡ l.ring
ring_alike l class state.None at = refl
ring_alike l class state.Active at = refl
ring_alike l class state.Empty at = refl
ring_alike l class state.Decommitted at = refl
ring_alike l class state.Full at = refl

pub heads_stay : (l : SpanListParts) (class : ℕ) (a : State) (at : ℕ) → HasHeads l → HasHeads (with_head class a at l)
heads_stay l class state.None at long = long
heads_stay l class state.Active at long =
    record {
      active = let n = length-set l.active class at in
          omega (arith, long.active);
      empty = long.empty;
      decommitted = long.decommitted;
    }
heads_stay l class state.Empty at long =
    record {
      active = long.active;
      empty = let n = length-set l.empty class at in
          omega (arith, long.empty);
      decommitted = long.decommitted;
    }
heads_stay l class state.Decommitted at long =
    record {
      active = long.active;
      empty = long.empty;
      decommitted = let n = length-set l.decommitted class at in
          omega (arith, long.decommitted);
    }
heads_stay l class state.Full at long = long
