-- A span leaves its list: the lists that are left are those of the spans but this one.
use Rattle.std.proofs.Common.{◌≡◌, ℕ, ◌<◌, ◌⊎◌, inl, inr, true, false, ◌==◌, if◌then◌else◌, refl, sym, ap, subst, ◌∙◌, arith}
use Rattle.std.specs.Prelude.{Contains, slice_index_or}
use Rattle.std.proofs.lemmas.Bool.{cases_lt}
use Rattle.std.proofs.lemmas.Bool.Decides.{eqb_tells}
use Rattle.std.proofs.lemmas.List.Elements.{All-contains}
use Rattle.pa_lists.proofs.Elements.{all_from_members}
use Rattle.pa_buckets.specs.declared.spans.State.{State}
use Rattle.pa_buckets.specs.declared.spans.State.TheVariants as state
use Rattle.pa_buckets.specs.Limits.{class_count}
use Rattle.pa_spans.specs.declared.span.Span.{Span}
use Rattle.pa_spans.specs.Lists.{SpanListParts, HasHeads, HasList, list_head, with_head, IsNearest, IsNextByTurn, IsPreviousByTurn, IsHead, AreInTurn, IsMember, IsInUse, Stand, without, ring_without, unheaded, lists_without}
use Rattle.pa_spans.proofs.Near.{IsOrder, IsSameOrder, near_same, near_skips, near_stays, head_same, head_stays, head_leaves}
use Rattle.pa_spans.proofs.Fields.{AreJoined, joined, lists_tell}
use Rattle.pa_spans.proofs.Heads.{head_set, head_other, head_alike, turn_alike, ring_alike, heads_stay}
use Rattle.pa_spans.proofs.Rings.{stays_in, was_in, rises_without}

pub listed_or : (a : State) → HasList a ⊎ (HasList a → ⊥)
listed_or state.None = inr (λ z. z)
listed_or state.Active = inl tt
listed_or state.Empty = inl tt
listed_or state.Decommitted = inl tt
listed_or state.Full = inr (λ z. z)

pub listed_used : (s : Span) (a : State) → HasList a → s.state ≡ a → IsInUse s
listed_used s a listed is none = subst HasList (sym is ∙ none) listed

-- turns order the members of a list, either way
pub by_turn : (M : ℕ → Type 0) (spans : ℕ → Span) → AreInTurn M spans → IsOrder M (λ v w. (spans v).turn < (spans w).turn)
by_turn M spans is = record {
  apart = λ u v m n never. elim (cases_lt (spans u).turn (spans v).turn) [
    | inl d ↦ inl d
    | inr d ↦ elim (cases_lt (spans v).turn (spans u).turn) [
      | inl f ↦ inr f
      | inr f ↦ absurd (never (is.differ u v m n (omega arith)))
    ]
  ];
  cross = λ u v a b. omega arith;
  on = λ u v w a b. omega arith;
}

turned : (M : ℕ → Type 0) (B : ℕ → ℕ → Type 0) → IsOrder M B → IsOrder M (λ v w. B w v)
turned M B order = record {
  apart = λ u v m n never. order.apart v u n m (λ e. never (sym e));
  cross = λ u v a b. order.cross v u a b;
  on = λ u v w a b. order.on w v u b a;
}

-- one side of the neighbours, when the neighbours of x name each other
side : (M : ℕ → Type 0) (B : ℕ → ℕ → Type 0) → IsOrder M B → (M 0 → ⊥) → (x n p : ℕ) (y z : ℕ → ℕ) → M x → IsNearest M B x n →
    IsNearest M (λ v w. B w v) x p → ((u : ℕ) → (u ≡ 0 → ⊥) → u ≡ p → z u ≡ n) → ((u : ℕ) → (u ≡ p → ⊥) → z u ≡ y u) →
    (u : ℕ) → M u → IsNearest M B u (y u) → IsNearest (λ v. M v × (v ≡ x → ⊥)) B u (z u)
side M B order some x n p y z isx after before here rest u isu near = elim (eqb_tells u p) [
  | inl w ↦
      let filled : u ≡ 0 → ⊥ = λ e. some (subst M e isu) in
      let skipped : IsNearest (λ v. M v × (v ≡ x → ⊥)) B p n = elim before [
        | inl q ↦ absurd (filled (w.1 ∙ q.0))
        | inr q ↦ near_skips M B order x n p isx after q.0 q.1 q.2
      ] in
      subst (λ k. IsNearest (λ v. M v × (v ≡ x → ⊥)) B k (z u)) (sym w.1)
      (subst (IsNearest (λ v. M v × (v ≡ x → ⊥)) B p) (sym (here u filled w.1)) skipped)
  | inr w ↦ subst (IsNearest (λ v. M v × (v ≡ x → ⊥)) B u) (sym (rest u w.1)) (near_stays M B order x p isx before u (y u) isu w.1 near)
]

-- members of two lists are two
pub foreign : (spans : ℕ → Span) (has : ℕ → Type 0) (k c : ℕ) (e a : State) → ((k ≡ c) × (e ≡ a) → ⊥) → (u v : ℕ) →
    IsMember spans has k e u →
    IsMember spans has c a v → u ≡ v → ⊥
foreign spans has k c e a never u v m n same =
    never (sym m.class_is ∙ (ap (λ w. (spans w).class) same ∙ n.class_is), sym m.state_is ∙ (ap (λ w. (spans w).state) same ∙ n.state_is))

-- the neighbours of x are none, or members of its list
pub record HasNeighbours (spans : ℕ → Span) (has : ℕ → Type 0) (x : ℕ) : Type 0 where
  pub next : ((spans x).next ≡ 0) ⊎ (IsMember spans has (spans x).class (spans x).state (spans x).next × HasList (spans x).state)
  pub previous : ((spans x).previous ≡ 0) ⊎
      (IsMember spans has (spans x).class (spans x).state (spans x).previous × HasList (spans x).state)

pub neighbours : (l : SpanListParts) (spans : ℕ → Span) (has : ℕ → Type 0) (x : ℕ) → Stand l spans has → has x → HasNeighbours spans has x
neighbours l spans has x st isx =
    let s = spans x in let m : IsMember spans has s.class s.state x = record { is_had = isx; class_is = refl; state_is = refl } in
    elim (listed_or s.state) [
      | inl listed ↦ let is = st.lists s.class s.state listed in record {
        next = elim (is.next x m) [ inl w ↦ inl w.0 | inr w ↦ inr (w.0, listed) ];
        previous = elim (is.previous x m) [ inl w ↦ inl w.0 | inr w ↦ inr (w.0, listed) ];
      }
      | inr never ↦ let two = st.alone x isx never in record { next = inl two.1; previous = inl two.0 }
    ]

-- the members of a list but x
abbrev but : (ℕ → Span) → (ℕ → Type 0) → ℕ → State → ℕ → ℕ → Type 0
but spans has k e x v = IsMember spans has k e v × (v ≡ x → ⊥)

same_members : (spans after : ℕ → Span) (has : ℕ → Type 0) (x p n k : ℕ) (e : State) → AreJoined spans after p n →
    (u : ℕ) → but spans has k e x u → IsMember after (λ v. has v × (v ≡ x → ⊥)) k e u
same_members spans after has x p n k e f u m = record {
  is_had = (m.0.is_had, m.1);
  class_is = f.class u ∙ m.0.class_is;
  state_is = f.state u ∙ m.0.state_is;
}

were_members : (spans after : ℕ → Span) (has : ℕ → Type 0) (x p n k : ℕ) (e : State) → AreJoined spans after p n →
    (u : ℕ) → IsMember after (λ v. has v × (v ≡ x → ⊥)) k e u → but spans has k e x u
were_members spans after has x p n k e f u m = (
  record {
    is_had = m.is_had.0;
    class_is = sym (f.class u) ∙ m.class_is;
    state_is = sym (f.state u) ∙ m.state_is;
  },
  m.is_had.1,
)

-- each list is in turn without x
list_left : (l : SpanListParts) (spans after : ℕ → Span) (has : ℕ → Type 0) (x : ℕ) → Stand l spans has → has x →
    AreJoined spans after (spans x).previous (spans x).next → (k : ℕ) (e : State) → HasList e →
    AreInTurn (IsMember after (λ v. has v × (v ≡ x → ⊥)) k e) after
list_left l spans after has x st isx f k e listed =
    let s = spans x in let p = s.previous in let n = s.next in
    let M = IsMember spans has k e in let R = but spans has k e x in let N = IsMember after (λ v. has v × (v ≡ x → ⊥)) k e in
    let is = st.lists k e listed in
    let up = by_turn M spans is in
    let to = same_members spans after has x p n k e f in
    let from = were_members spans after has x p n k e f in
    let rising : IsSameOrder R N (λ v w. (spans v).turn < (spans w).turn) (λ v w. (after v).turn < (after w).turn) = record {
      to = to;
      from = from;
      before = λ u v a b c. let d = f.turn u in let g = f.turn v in omega arith;
      back = λ u v a b c. let d = f.turn u in let g = f.turn v in omega arith;
    } in
    let falling : IsSameOrder R N (λ v w. (spans w).turn < (spans v).turn) (λ v w. (after w).turn < (after v).turn) = record {
      to = to;
      from = from;
      before = λ u v a b c. let d = f.turn u in let g = f.turn v in omega arith;
      back = λ u v a b c. let d = f.turn u in let g = f.turn v in omega arith;
    } in
    let sides : (u : ℕ) → R u → IsNextByTurn R (λ v. (spans v).turn) u (after u).next ×
    IsPreviousByTurn R (λ v. (spans v).turn) u (after u).previous =
    λ u m. elim (lists_tell k s.class e s.state) [
      | inl w ↦
          let mx : M x = record { is_had = isx; class_is = sym w.0; state_is = sym w.1 } in (
            side M (λ v z. (spans v).turn < (spans z).turn) up is.some x n p (λ v. (spans v).next) (λ v. (after v).next) mx (is.next x mx)
                (is.previous x mx)
                f.next_here f.next_else u m.0 (is.next u m.0),
            side M (λ v z. (spans z).turn < (spans v).turn) (turned M (λ v z. (spans v).turn < (spans z).turn) up) is.some x p n
                (λ v. (spans v).previous) (λ v. (after v).previous) mx (is.previous x mx) (is.next x mx)
                f.previous_here f.previous_else u m.0 (is.previous u m.0),
          )
      | inr w ↦
          let near = neighbours l spans has x st isx in
          let alone : (v : ℕ) → M v →
          R v = λ v a. (
            a,
            foreign spans has k s.class e s.state w v x a
                (record { is_had = isx; class_is = refl; state_is = refl }),
          ) in
          let not_p : u ≡ p → ⊥ = λ same. elim near.previous [
            | inl z ↦ is.some (subst M (same ∙ z) m.0)
            | inr z ↦ foreign spans has k s.class e s.state w u p m.0 z.0 same
          ] in
          let not_n : u ≡ n → ⊥ = λ same. elim near.next [
            | inl z ↦ is.some (subst M (same ∙ z) m.0)
            | inr z ↦ foreign spans has k s.class e s.state w u n m.0 z.0 same
          ] in
          let here : IsNextByTurn R (λ v. (spans v).turn) u (spans u).next =
          near_same M R (λ v z. (spans v).turn < (spans z).turn) (λ v z. (spans v).turn < (spans z).turn)
          (record { to = alone; from = λ v a. a.0; before = λ v z a b c. c; back = λ v z a b c. c }) u (spans u).next m.0 (is.next u m.0) in
          let there : IsPreviousByTurn R (λ v. (spans v).turn) u (spans u).previous =
          near_same M R (λ v z. (spans z).turn < (spans v).turn) (λ v z. (spans z).turn < (spans v).turn)
          (record { to = alone; from = λ v a. a.0; before = λ v z a b c. c; back = λ v z a b c. c }) u (spans u).previous m.0
          (is.previous u m.0) in (
            subst (IsNextByTurn R (λ v. (spans v).turn) u) (sym (f.next_else u not_p)) here,
            subst (IsPreviousByTurn R (λ v. (spans v).turn) u) (sym (f.previous_else u not_n)) there,
          )
    ] in
    record {
      some = λ m. is.some (from 0 m).0;
      differ = λ u v a b same. is.differ u v (from u a).0 (from v b).0 (sym (f.turn u) ∙ (same ∙ f.turn v));
      next = λ u m. near_same R N (λ v w. (spans v).turn < (spans w).turn) (λ v w. (after v).turn < (after w).turn) rising u (after u).next
          (from u m) (sides u (from u m)).0;
      previous = λ u m. near_same R N (λ v w. (spans w).turn < (spans v).turn) (λ v w. (after w).turn < (after v).turn) falling u
          (after u).previous (from u m) (sides u (from u m)).1;
    }

-- the heads without x
unheaded_alike : (s : Span) (l : SpanListParts) → ((unheaded s l).turn ≡ l.turn) × ((unheaded s l).ring ≡ l.ring) ×
    (HasHeads l → HasHeads (unheaded s l))
unheaded_alike s l = elim (eqb_tells s.previous 0) [
  | inl w ↦ subst (λ b. ((if b then with_head s.class s.state s.next l else l).turn ≡ l.turn) ×
      ((if b then with_head s.class s.state s.next l else l).ring ≡ l.ring)
      × (HasHeads l → HasHeads (if b then with_head s.class s.state s.next l else l))) (sym w.0)
      (turn_alike l s.class s.state s.next, ring_alike l s.class s.state s.next, heads_stay l s.class s.state s.next)
  | inr w ↦ subst (λ b. ((if b then with_head s.class s.state s.next l else l).turn ≡ l.turn) ×
      ((if b then with_head s.class s.state s.next l else l).ring ≡ l.ring)
      × (HasHeads l → HasHeads (if b then with_head s.class s.state s.next l else l))) (sym w.0) (refl, refl, λ z. z)
]

pub turn_kept : (x : ℕ) (s : Span) (l : SpanListParts) → (lists_without x s l).turn ≡ l.turn
turn_kept x s l = (unheaded_alike s l).0

-- the head of each list, once x is out of its own
head_left : (l : SpanListParts) (spans : ℕ → Span) (has : ℕ → Type 0) (x : ℕ) → Stand l spans has → has x → (k : ℕ) (e : State) →
    k < class_count →
    HasList e → IsHead (but spans has k e x) (λ v. (spans v).turn) (list_head (unheaded (spans x) l) k e)
head_left l spans has x st isx k e small listed =
    let s = spans x in let p = s.previous in let n = s.next in
    let M = IsMember spans has k e in let R = but spans has k e x in let turn : ℕ → ℕ = λ v. (spans v).turn in
    let is = st.lists k e listed in let top = st.heads k e small listed in
    let first : s.previous ≡ 0 → list_head (unheaded s l) k e ≡ list_head (with_head s.class s.state n l) k e =
    λ z. let none : (p == 0) ≡ true = elim (eqb_tells p 0) [ inl w ↦ w.0 | inr w ↦ absurd (w.1 z) ] in
    ap (λ b. list_head (if b then with_head s.class s.state n l else l) k e) none in
    let later : (s.previous ≡ 0 → ⊥) → list_head (unheaded s l) k e ≡ list_head l k e =
    λ z. let some : (p == 0) ≡ false = elim (eqb_tells p 0) [ inl w ↦ absurd (z w.1) | inr w ↦ w.0 ] in
    ap (λ b. list_head (if b then with_head s.class s.state n l else l) k e) some in
    elim (lists_tell k s.class e s.state) [
      | inl w ↦
          let mx : M x = record { is_had = isx; class_is = sym w.0; state_is = sym w.1 } in
          elim (eqb_tells p 0) [
            | inl z ↦
                let none : (v : ℕ) → M v → turn x < turn v → ⊥ = λ v m d. elim (is.previous x mx) [
                  | inl q ↦ q.1 v m d
                  | inr q ↦ is.some (subst M z.1 q.0)
                ] in
                let is_n : list_head (with_head s.class s.state n l) k e ≡ n =
                subst (λ c. list_head (with_head c s.state n l) k e ≡ n) w.0
                (subst (λ a. list_head (with_head k a n l) k e ≡ n) w.1 (head_set l k e n st.long small listed)) in
                subst (IsHead R turn) (sym (first z.1 ∙ is_n)) (head_leaves M turn x n is.differ mx none (is.next x mx))
            | inr z ↦ elim (is.previous x mx) [
              | inl q ↦ absurd (z.1 q.0)
              | inr q ↦ subst (IsHead R turn) (sym (later z.1)) (head_stays M turn x (list_head l k e) p mx q.0 q.1 top)
            ]
          ]
      | inr w ↦
          let same : list_head (unheaded s l) k e ≡ list_head l k e = elim (eqb_tells p 0) [
            | inl z ↦ first z.1 ∙ head_other l k s.class e s.state n w
            | inr z ↦ later z.1
          ] in
          subst (IsHead R turn) (sym same) (head_same M R turn turn
          (λ v m. (m, foreign spans has k s.class e s.state w v x m (record { is_had = isx; class_is = refl; state_is = refl })))
          (λ v m. m.0) (λ v m. refl) (list_head l k e) top)
    ]

-- lists without the span x are those of the spans but x
pub taken_out : (l : SpanListParts) (spans : ℕ → Span) (has : ℕ → Type 0) (x : ℕ) → Stand l spans has → has x →
    Stand (lists_without x (spans x) l) (without (spans x) spans) (λ u. has u × (u ≡ x → ⊥))
taken_out l spans has x st isx =
    let s = spans x in let after = without s spans in
    let f = joined s spans in
    let alike = unheaded_alike s l in
    let near = neighbours l spans has x st isx in
    let used : (u : ℕ) → IsInUse (after u) → IsInUse (spans u) = λ u is none. is (f.state u ∙ none) in
    let members : (v : ℕ) → Contains l.ring v → (spans v).state ≡ state.Empty =
    λ v among. (All-contains (λ u. has u × ((spans u).state ≡ state.Empty)) l.ring v st.in_ring among).1 in
    record {
      some = λ m. st.some m.0;
      differ = λ u v a b c d same. st.differ u v a.0 b.0 (used u c) (used v d) (sym (f.turn u) ∙ (same ∙ f.turn v));
      below = λ u a c. let b = st.below u a.0 (used u c) in let d = f.turn u in let t = alike.0 in omega arith;
      alone = λ u a never.
          let unlisted : HasList (spans u).state → ⊥ = λ z. never (subst HasList (sym (f.state u)) z) in
          let two = st.alone u a.0 unlisted in
          let not_p : u ≡ s.previous → ⊥ = λ same. elim near.previous [
            | inl z ↦ st.some (subst has (same ∙ z) a.0)
            | inr z ↦ unlisted (subst HasList (sym (ap (λ v. (spans v).state) same ∙ z.0.state_is)) z.1)
          ] in
          let not_n : u ≡ s.next → ⊥ = λ same. elim near.next [
            | inl z ↦ st.some (subst has (same ∙ z) a.0)
            | inr z ↦ unlisted (subst HasList (sym (ap (λ v. (spans v).state) same ∙ z.0.state_is)) z.1)
          ] in
          (f.previous_else u not_n ∙ two.0, f.next_else u not_p ∙ two.1);
      lists = λ k e listed. list_left l spans after has x st isx f k e listed;
      heads = λ k e small listed.
          let same : list_head (lists_without x s l) k e ≡ list_head (unheaded s l) k e =
          head_alike (unheaded s l) (ring_without x s.state l.ring) (unheaded s l).turn k e in
          subst (IsHead (IsMember after (λ v. has v × (v ≡ x → ⊥)) k e) (λ v. (after v).turn)) (sym same)
          (head_same (but spans has k e x) (IsMember after (λ v. has v × (v ≡ x → ⊥)) k e) (λ v. (spans v).turn) (λ v. (after v).turn)
          (same_members spans after has x s.previous s.next k e f) (were_members spans after has x s.previous s.next k e f)
          (λ u m. sym (f.turn u)) (list_head (unheaded s l) k e) (head_left l spans has x st isx k e small listed));
      empty = λ u a is. stays_in x s.state l.ring u a.1 (st.empty u a.0 (sym (f.state u) ∙ is));
      in_ring = all_from_members (λ u. (has u × (u ≡ x → ⊥)) × ((after u).state ≡ state.Empty)) (ring_without x s.state l.ring) (λ u among.
          let was = was_in x s.state l.ring (λ v. (spans v).state) refl members u among in
          let held = All-contains (λ v. has v × ((spans v).state ≡ state.Empty)) l.ring u st.in_ring was.0 in
          ((held.0, was.1), f.state u ∙ held.1));
      rise = λ i j d less inside.
          let r = rises_without (λ u v. (spans u).turn < (spans v).turn) x s.state l.ring st.rise i j d less inside in
          let a = f.turn (slice_index_or (ring_without x s.state l.ring) i d) in
          let b = f.turn (slice_index_or (ring_without x s.state l.ring) j d) in omega arith;
      long = let h = alike.2 st.long in record { active = h.active; empty = h.empty; decommitted = h.decommitted };
    }
