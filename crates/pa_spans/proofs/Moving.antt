-- A span moves into a state: what its calls do one after the other is one move, and the lists stand after it.
use Rattle.std.proofs.Common.{◌≡◌, ℕ, ◌<◌, ◌≤◌, inl, inr, Bool, true, false, if◌then◌else◌, length, sym, ap, subst, ◌∙◌}
use Rattle.std.specs.Prelude.{◌↔◌}
use Rattle.pa_buckets.specs.declared.spans.State.{State}
use Rattle.pa_buckets.specs.Limits.{class_count}
use Rattle.pa_record.specs.Spans.{same_state}
use Rattle.pa_spans.specs.declared.span.Span.{Span}
use Rattle.pa_spans.specs.Lists.{SpanListParts, list_head, Stand, without, in_front, lists_without, lists_with, spans_entered, lists_entered, ring_with}
use Rattle.pa_spans.proofs.Leaving.{neighbours, taken_out, turn_kept}
use Rattle.pa_spans.proofs.Entering.{head_is_member, put_in_front}
use Rattle.pa_spans.proofs.Staying.{stays, same_listed}

alike : (f g : ℕ → Span) → ((u : ℕ) → f u ≡ g u) → f ≡ g
alike f g each = λ i u. each u i

-- What is known of the spans and the lists before a move, after the look at the span, without it, and with it again.
pub record Moves (l gone l_after : SpanListParts) (spans seen left after : ℕ → Span) (x : ℕ) (s : Span) (to : State) : Type 0 where
  pub seen_is : (u : ℕ) → seen u ≡ spans u
  pub span_is : s ≡ spans x
  pub moves : same_state s.state to ≡ false
  pub left_is : (u : ℕ) → left u ≡ without s seen u
  pub gone_is : gone ≡ lists_without x s l
  pub after_is : (u : ℕ) → after u ≡ in_front x s to (list_head gone s.class to) gone.turn left u
  pub lists_are : l_after ≡ lists_with x s.class to gone

left_alike : (l gone l_after : SpanListParts) (spans seen left after : ℕ → Span) (x : ℕ) (s : Span) (to : State) →
    Moves l gone l_after spans seen left after x s to → left ≡ without s spans
left_alike l gone l_after spans seen left after x s to m = alike left (without s seen) m.left_is ∙
    ap (without s) (alike seen spans m.seen_is)

differs : (l gone l_after : SpanListParts) (spans seen left after : ℕ → Span) (x : ℕ) (s : Span) (to : State) →
    Moves l gone l_after spans seen left after x s to → same_state (spans x).state to ≡ false
differs l gone l_after spans seen left after x s to m = sym (ap (λ (t : Span). same_state t.state to) m.span_is) ∙ m.moves

-- it is the move
pub spans_moved : (l gone l_after : SpanListParts) (spans seen left after : ℕ → Span) (x : ℕ) (s : Span) (to : State) →
    Moves l gone l_after spans seen left after x s to → (u : ℕ) → after u ≡ spans_entered x to l spans u
spans_moved l gone l_after spans seen left after x s to m u =
    m.after_is u
    ∙ (ap (λ (z : ℕ → Span). in_front x s to (list_head gone s.class to) gone.turn z u)
    (left_alike l gone l_after spans seen left after x s to m)
    ∙ (ap (λ (z : SpanListParts). in_front x s to (list_head z s.class to) z.turn (without s spans) u) m.gone_is
    ∙ (ap (λ (n : ℕ). in_front x s to (list_head (lists_without x s l) s.class to) n (without s spans) u) (turn_kept x s l)
    ∙ (ap (λ (t : Span). in_front x t to (list_head (lists_without x t l) t.class to) l.turn (without t spans) u) m.span_is
    ∙ sym (ap (λ (b : Bool). if b then spans u
    else in_front x (spans x) to (list_head (lists_without x (spans x) l) (spans x).class to) l.turn (without (spans x) spans) u)
    (differs l gone l_after spans seen left after x s to m))))))

pub lists_moved : (l gone l_after : SpanListParts) (spans seen left after : ℕ → Span) (x : ℕ) (s : Span) (to : State) →
    Moves l gone l_after spans seen left after x s to → l_after ≡ lists_entered x to l (spans x)
lists_moved l gone l_after spans seen left after x s to m =
    m.lists_are
    ∙ (ap (λ (z : SpanListParts). lists_with x s.class to z) m.gone_is
    ∙ (ap (λ (t : Span). lists_with x t.class to (lists_without x t l)) m.span_is
    ∙ sym (ap (λ (b : Bool). if b then l else lists_with x (spans x).class to (lists_without x (spans x) l))
    (differs l gone l_after spans seen left after x s to m))))

-- without the span the lists stand for the others
pub stands_without : (l gone : SpanListParts) (spans : ℕ → Span) (has : ℕ → Type 0) (x : ℕ) (s : Span) → Stand l spans has → has x →
    s ≡ spans x →
    gone ≡ lists_without x s l → Stand gone (without s spans) (λ u. has u × (u ≡ x → ⊥))
stands_without l gone spans has x s st isx same gone_is =
    let one : Stand (lists_without x s l) (without s spans) (λ u. has u × (u ≡ x → ⊥)) =
    subst (λ (t : Span). Stand (lists_without x t l) (without t spans) (λ u. has u × (u ≡ x → ⊥))) (sym same)
    (taken_out l spans has x st isx) in
    subst (λ (z : SpanListParts). Stand z (without s spans) (λ u. has u × (u ≡ x → ⊥))) (sym gone_is) one

-- the head of the list that it enters is a span
pub head_is_had : (l gone : SpanListParts) (spans : ℕ → Span) (has : ℕ → Type 0) (x : ℕ) (s : Span) (to : State) → Stand l spans has →
    has x → s ≡ spans x →
    gone ≡ lists_without x s l → s.class < class_count → (list_head gone s.class to ≡ 0 → ⊥) → has (list_head gone s.class to)
head_is_had l gone spans has x s to st isx same gone_is small filled =
    elim (head_is_member gone (without s spans) (λ u. has u × (u ≡ x → ⊥))
    (stands_without l gone spans has x s st isx same gone_is) s.class to small) [
      | inl w ↦ absurd (filled w)
      | inr w ↦ w.0.is_had.0
    ]

-- its neighbours are spans
pub next_is_had : (l : SpanListParts) (spans : ℕ → Span) (has : ℕ → Type 0) (x : ℕ) (s : Span) → Stand l spans has → has x → s ≡ spans x →
    (s.next ≡ 0 → ⊥) → has s.next
next_is_had l spans has x s st isx same filled = elim (neighbours l spans has x st isx).next [
  | inl w ↦ absurd (filled (ap (λ (t : Span). t.next) same ∙ w))
  | inr w ↦ subst has (sym (ap (λ (t : Span). t.next) same)) w.0.is_had
]

pub previous_is_had : (l : SpanListParts) (spans : ℕ → Span) (has : ℕ → Type 0) (x : ℕ) (s : Span) → Stand l spans has → has x →
    s ≡ spans x →
    (s.previous ≡ 0 → ⊥) → has s.previous
previous_is_had l spans has x s st isx same filled = elim (neighbours l spans has x st isx).previous [
  | inl w ↦ absurd (filled (ap (λ (t : Span). t.previous) same ∙ w))
  | inr w ↦ subst has (sym (ap (λ (t : Span). t.previous) same)) w.0.is_had
]

-- the ring has room
pub room_is_left : (l gone : SpanListParts) (spans : ℕ → Span) (x : ℕ) (s : Span) (to : State) → s ≡ spans x →
    same_state s.state to ≡ false →
    gone ≡ lists_without x s l → length (lists_entered x to l (spans x)).ring ≤ 17 → length (ring_with x to gone.ring) ≤ 17
room_is_left l gone spans x s to same moves gone_is few =
    let of_s : length (lists_entered x to l s).ring ≤ 17 = subst (λ (t : Span). length (lists_entered x to l t).ring ≤ 17) (sym same) few in
    let of_lists : length (lists_with x s.class to (lists_without x s l)).ring ≤ 17 =
    subst (λ (b : Bool). length (if b then l else lists_with x s.class to (lists_without x s l)).ring ≤ 17) moves of_s in
    subst (λ (z : SpanListParts). length (lists_with x s.class to z).ring ≤ 17) (sym gone_is) of_lists

-- lists of spans are lists of equal spans
pub stands_alike : (l : SpanListParts) (spans after : ℕ → Span) (has had : ℕ → Type 0) → Stand l spans has → ((u : ℕ) → after u ≡ spans u) →
    ((u : ℕ) → had u ↔ has u) → Stand l after had
stands_alike l spans after has had st same both = stays l spans after has had st (record {
  on = λ u h. ((both u).1 h, same_listed (spans u) (after u) (same u));
  back = λ u h. inl ((both u).0 h, same_listed (spans u) (after u) (same u));
  none = λ h. st.some ((both 0).0 h);
})

-- the lists stand after the move
pub stands_moved : (l gone l_after : SpanListParts) (spans seen left after : ℕ → Span) (x : ℕ) (s : Span) (to : State)
    (has had : ℕ → Type 0) →
    Moves l gone l_after spans seen left after x s to → Stand l spans has → has x → s.class < class_count → ((u : ℕ) → had u ↔ has u) →
    Stand l_after after had
stands_moved l gone l_after spans seen left after x s to has had m st isx small both =
    let of_gone = stands_without l gone spans has x s st isx m.span_is m.gone_is in
    let new = put_in_front gone (without s spans) has x s to of_gone isx st.some small in
    let of_after : Stand l_after (in_front x s to (list_head gone s.class to) gone.turn (without s spans)) has =
    subst (λ (z : SpanListParts). Stand z (in_front x s to (list_head gone s.class to) gone.turn (without s spans)) has)
    (sym m.lists_are) new in
    stands_alike l_after (in_front x s to (list_head gone s.class to) gone.turn (without s spans)) after has had of_after
    (λ u. m.after_is u ∙ ap (λ (z : ℕ → Span). in_front x s to (list_head gone s.class to) gone.turn z u)
    (left_alike l gone l_after spans seen left after x s to m)) both

-- if the span is in the state, nothing moves
pub spans_unmoved : (l : SpanListParts) (spans seen : ℕ → Span) (x : ℕ) (s : Span) (to : State) → ((u : ℕ) → seen u ≡ spans u) →
    s ≡ spans x →
    same_state s.state to ≡ true → (u : ℕ) → seen u ≡ spans_entered x to l spans u
spans_unmoved l spans seen x s to seen_is span_is same u =
    let e : same_state (spans x).state to ≡ true = sym (ap (λ (t : Span). same_state t.state to) span_is) ∙ same in
    seen_is u ∙ sym (ap (λ (b : Bool). if b then spans u
    else in_front x (spans x) to (list_head (lists_without x (spans x) l) (spans x).class to) l.turn (without (spans x) spans) u) e)

pub lists_unmoved : (l : SpanListParts) (spans : ℕ → Span) (x : ℕ) (s : Span) (to : State) → s ≡ spans x → same_state s.state to ≡ true →
    l ≡ lists_entered x to l (spans x)
lists_unmoved l spans x s to span_is same =
    let e : same_state (spans x).state to ≡ true = sym (ap (λ (t : Span). same_state t.state to) span_is) ∙ same in
    sym (ap (λ (b : Bool). if b then l else lists_with x (spans x).class to (lists_without x (spans x) l)) e)
