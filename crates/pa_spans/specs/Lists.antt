-- Lists of spans of one class and state, said by turns, and what the move of a span into a state leaves.
use Rattle.std.specs.Prelude.{◌≡◌, ℕ, ◌+◌, ◌<◌, ◌≤◌, ◌⊎◌, not, ◌==◌, ◌&&◌, nat_lt, if◌then◌else◌, List, [], ◌∷◌, ◌++◌, length, replicate, Option, Some, None, All, AllPairs, Contains, slice_index, slice_set}
use Rattle.std.specs.List.{filter}
use Rattle.pa_buckets.specs.declared.spans.State.{State}
use Rattle.pa_buckets.specs.declared.spans.State.TheVariants as state
use Rattle.pa_buckets.specs.Limits.{class_count}
use Rattle.pa_record.specs.Spans.{same_state}
use Rattle.pa_spans.specs.declared.span.Span.{Span}

-- For each of three states the heads of the lists by class, 0 for an empty list. Then the empty spans, of which each entered later
-- than the one before it, and the next turn.
pub record SpanListParts : Type 0 where
  pub active : List ℕ
  pub empty : List ℕ
  pub decommitted : List ℕ
  pub ring : List ℕ
  pub turn : ℕ

-- the lists at the start: all are empty
abbrev pub no_lists : SpanListParts
no_lists = record {
  active = replicate class_count 0;
  empty = replicate class_count 0;
  decommitted = replicate class_count 0;
  ring = [];
  turn = 0;
}

-- spans in the state are in lists
abbrev pub HasList : State → Type 0
HasList state.None = ⊥
HasList state.Active = Unit {0}
HasList state.Empty = Unit {0}
HasList state.Decommitted = Unit {0}
HasList state.Full = ⊥

-- the head of the list of a class and a state, 0 if spans in the state are in no list
abbrev pub list_head : SpanListParts → ℕ → State → ℕ
list_head l class state.None = 0
list_head l class state.Active = slice_index l.active class
list_head l class state.Empty = slice_index l.empty class
list_head l class state.Decommitted = slice_index l.decommitted class
list_head l class state.Full = 0

-- the lists with this head for a class and a state, or as they are if spans in the state are in no list
abbrev pub with_head : ℕ → State → ℕ → SpanListParts → SpanListParts
with_head class state.None at l = l
with_head class state.Active at l = record l { active = slice_set l.active class at }
with_head class state.Empty at l = record l { empty = slice_set l.empty class at }
with_head class state.Decommitted at l = record l { decommitted = slice_set l.decommitted class at }
with_head class state.Full at l = l

-- the span of the class that entered the state last
abbrev pub top_of : SpanListParts → ℕ → State → Option ℕ
top_of l class a = if list_head l class a == 0 then None else Some (list_head l class a)

-- n is the member that is nearest before u: no member is between them. It is 0 if no member is before u.
abbrev pub IsNearest : (ℕ → Type 0) → (ℕ → ℕ → Type 0) → ℕ → ℕ → Type 0
IsNearest Member Before u n =
    ((n ≡ 0) × ((v : ℕ) → Member v → Before v u → ⊥))
    ⊎ (Member n × Before n u × ((v : ℕ) → Member v → Before n v → Before v u → ⊥))

-- n is the member with the next lesser turn than u, 0 if there is none
abbrev pub IsNextByTurn : (ℕ → Type 0) → (ℕ → ℕ) → ℕ → ℕ → Type 0
IsNextByTurn Member turn u n = IsNearest Member (λ v w. turn v < turn w) u n

-- n is the member with the next greater turn than u, 0 if there is none
abbrev pub IsPreviousByTurn : (ℕ → Type 0) → (ℕ → ℕ) → ℕ → ℕ → Type 0
IsPreviousByTurn Member turn u n = IsNearest Member (λ v w. turn w < turn v) u n

-- h is the member with the greatest turn, 0 if there is no member
abbrev pub IsHead : (ℕ → Type 0) → (ℕ → ℕ) → ℕ → Type 0
IsHead Member turn h = ((h ≡ 0) × ((v : ℕ) → Member v → ⊥)) ⊎ (Member h × ((v : ℕ) → Member v → turn v ≤ turn h))

-- Each member's record names the members with the next lesser and the next greater turn. None is 0, and turns differ.
pub record AreInTurn (Member : ℕ → Type 0) (spans : ℕ → Span) : Type 0 where
  pub some : Member 0 → ⊥
  pub differ : (u v : ℕ) → Member u → Member v → (spans u).turn ≡ (spans v).turn → u ≡ v
  pub next : (u : ℕ) → Member u → IsNextByTurn Member (λ v. (spans v).turn) u (spans u).next
  pub previous : (u : ℕ) → Member u → IsPreviousByTurn Member (λ v. (spans v).turn) u (spans u).previous

-- at u there is a span of the class, and it is in the state
pub record IsMember (spans : ℕ → Span) (has : ℕ → Type 0) (class : ℕ) (a : State) (u : ℕ) : Type 0 where
  pub is_had : has u
  pub class_is : (spans u).class ≡ class
  pub state_is : (spans u).state ≡ a

-- the span is in use: it entered a state
abbrev pub IsInUse : Span → Type 0
IsInUse s = s.state ≡ state.None → ⊥

-- there is a head for each class
pub record HasHeads (l : SpanListParts) : Type 0 where
  pub active : length l.active ≡ class_count
  pub empty : length l.empty ≡ class_count
  pub decommitted : length l.decommitted ≡ class_count

-- The lists are those of these spans: each list is in turn from its head on, a span in no list has no neighbours, the ring has
-- the empty spans by rising turns, and turns of spans in use differ and are below the next one.
pub record Stand (l : SpanListParts) (spans : ℕ → Span) (has : ℕ → Type 0) : Type 0 where
  pub some : has 0 → ⊥
  pub differ : (u v : ℕ) → has u → has v → IsInUse (spans u) → IsInUse (spans v) → (spans u).turn ≡ (spans v).turn → u ≡ v
  pub below : (u : ℕ) → has u → IsInUse (spans u) → (spans u).turn < l.turn
  pub alone : (u : ℕ) → has u → (HasList (spans u).state → ⊥) → ((spans u).previous ≡ 0) × ((spans u).next ≡ 0)
  pub lists : (class : ℕ) (a : State) → HasList a → AreInTurn (IsMember spans has class a) spans
  pub heads : (class : ℕ) (a : State) → class < class_count → HasList a →
      IsHead (IsMember spans has class a) (λ u. (spans u).turn) (list_head l class a)
  pub empty : (u : ℕ) → has u → (spans u).state ≡ state.Empty → Contains l.ring u
  pub in_ring : All (λ u. has u × ((spans u).state ≡ state.Empty)) l.ring
  pub rise : AllPairs (λ u v. (spans u).turn < (spans v).turn) l.ring
  pub long : HasHeads l

-- the spans with n as the next one of the span at a place, or as they are if the place is 0
abbrev pub with_next : ℕ → ℕ → (ℕ → Span) → ℕ → Span
with_next at n spans u = if nat_lt 0 at && (u == at) then record (spans u) { next = n } else spans u

-- the spans with n as the previous one of the span at a place, or as they are if the place is 0
abbrev pub with_previous : ℕ → ℕ → (ℕ → Span) → ℕ → Span
with_previous at n spans u = if nat_lt 0 at && (u == at) then record (spans u) { previous = n } else spans u

-- the neighbours of s name each other in its place
abbrev pub without : Span → (ℕ → Span) → ℕ → Span
without s spans = with_previous s.next s.previous (with_next s.previous s.next spans)

-- s in another state, at the front of the list with this head, with this turn
abbrev pub in_front_of : ℕ → State → ℕ → Span → Span
in_front_of head to turn s = record s { state = to; turn = turn; previous = 0; next = head }

-- the spans with s in its new state and turn in front of this head, which names it as its previous one
abbrev pub in_front : ℕ → Span → State → ℕ → ℕ → (ℕ → Span) → ℕ → Span
in_front at s to head turn spans =
    with_previous head at (λ u. if u == at then in_front_of head to turn s else spans u)

-- the ring of empty spans without this one, if the state that it leaves is Empty
abbrev pub ring_without : ℕ → State → List ℕ → List ℕ
ring_without at state.None ring = ring
ring_without at state.Active ring = ring
ring_without at state.Empty ring = filter (λ u. not (u == at)) ring
ring_without at state.Decommitted ring = ring
ring_without at state.Full ring = ring

-- the ring of empty spans with this one at its end, if the state that it enters is Empty
abbrev pub ring_with : ℕ → State → List ℕ → List ℕ
ring_with at state.None ring = ring
ring_with at state.Active ring = ring
ring_with at state.Empty ring = ring ++ at ∷ []
ring_with at state.Decommitted ring = ring
ring_with at state.Full ring = ring

-- the heads without s: if s was the first of its list, the head is the one after it, 0 if there is none
abbrev pub unheaded : Span → SpanListParts → SpanListParts
unheaded s l = if s.previous == 0 then with_head s.class s.state s.next l else l

-- the heads and the ring without the span s at this place
abbrev pub lists_without : ℕ → Span → SpanListParts → SpanListParts
lists_without at s l = record (unheaded s l) { ring = ring_without at s.state l.ring }

-- The lists with this span in front for a class and a state, if that has lists, and at the ring's end if it is Empty. The next turn
-- is 1 greater.
abbrev pub lists_with : ℕ → ℕ → State → SpanListParts → SpanListParts
lists_with at class to l = record (with_head class to at l) { ring = ring_with at to l.ring; turn = l.turn + 1 }

-- The span at this place enters a state. Nothing changes if it is in the state. Else it leaves its list, and gets the state, the next
-- turn and the place at the front of its new list.
abbrev pub spans_entered : ℕ → State → SpanListParts → (ℕ → Span) → ℕ → Span
spans_entered at to l spans u =
    if same_state (spans at).state to then spans u
    else in_front at (spans at) to (list_head (lists_without at (spans at) l) (spans at).class to) l.turn (without (spans at) spans) u

-- the lists after the span s at this place entered the state: as they were if it was in that state already
abbrev pub lists_entered : ℕ → State → SpanListParts → Span → SpanListParts
lists_entered at to l s = if same_state s.state to then l else lists_with at s.class to (lists_without at s l)

-- the span that is to be decommitted: of 17 empty ones the one that became so first
abbrev pub oldest_of : List ℕ → Option ℕ
oldest_of ring = if length ring == 17 then Some (slice_index ring 0) else None

-- the empty span that became so first
abbrev pub first_of_ring : List ℕ → Option ℕ
first_of_ring ring = if length ring == 0 then None else Some (slice_index ring 0)

-- The span that is put in the place of s is in the same list between the same neighbours. The class changes only if s isn't in use.
pub record StaysListed (s t : Span) : Type 0 where
  pub class : (t.class ≡ s.class) ⊎ (s.state ≡ state.None)
  pub state : t.state ≡ s.state
  pub turn : t.turn ≡ s.turn
  pub previous : t.previous ≡ s.previous
  pub next : t.next ≡ s.next

-- the span isn't in use, and has no neighbours
abbrev pub IsOutside : Span → Type 0
IsOutside s = (s.state ≡ state.None) × (s.previous ≡ 0) × (s.next ≡ 0)
