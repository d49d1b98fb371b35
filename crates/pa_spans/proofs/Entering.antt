-- A span enters a list in front: the lists stand with it.
use Rattle.std.proofs.Common.{◌≡◌, ℕ, ◌+◌, ◌<◌, ◌⊎◌, inl, inr, refl, sym, ap, subst, ◌∙◌, arith}
use Rattle.std.specs.Prelude.{Contains, slice_index_or}
use Rattle.std.proofs.lemmas.Bool.Decides.{eqb_tells}
use Rattle.std.proofs.lemmas.List.Elements.{All-weaker}
use Rattle.pa_buckets.specs.declared.spans.State.{State}
use Rattle.pa_buckets.specs.declared.spans.State.TheVariants as state
use Rattle.pa_buckets.specs.Limits.{class_count}
use Rattle.pa_spans.specs.declared.span.Span.{Span}
use Rattle.pa_spans.specs.Lists.{SpanListParts, HasList, list_head, with_head, IsNextByTurn, IsPreviousByTurn, IsHead, AreInTurn, IsMember, IsInUse, Stand, in_front, ring_with, lists_with}
use Rattle.pa_spans.proofs.Near.{IsSameOrder, near_same, near_beyond, next_is_head, none_is_previous, head_is_after, previous_stays, head_same}
use Rattle.pa_spans.proofs.Fields.{AreFronted, fronted, lists_tell}
use Rattle.pa_spans.proofs.Heads.{head_set, head_other, head_alike, heads_stay}
use Rattle.pa_spans.proofs.Rings.{comes_in, is_still_in, all_with, rises_with}
use Rattle.pa_spans.proofs.Leaving.{listed_or, listed_used, foreign}

-- the spans but x
abbrev others : (ℕ → Type 0) → ℕ → ℕ → Type 0
others has x u = has u × (u ≡ x → ⊥)

no_head : (l : SpanListParts) (class : ℕ) (a : State) → (HasList a → ⊥) → list_head l class a ≡ 0
no_head l class state.None never = refl
no_head l class state.Active never = absurd (never tt)
no_head l class state.Empty never = absurd (never tt)
no_head l class state.Decommitted never = absurd (never tt)
no_head l class state.Full never = refl

-- the head is none, or a member of a list
pub head_is_member : (l : SpanListParts) (spans : ℕ → Span) (has : ℕ → Type 0) → Stand l spans has → (class : ℕ) (a : State) →
    class < class_count →
    (list_head l class a ≡ 0) ⊎ (IsMember spans has class a (list_head l class a) × HasList a)
head_is_member l spans has st class a small = elim (listed_or a) [
  | inl listed ↦ elim (st.heads class a small listed) [
    | inl w ↦ inl w.0
    | inr w ↦ inr (w.0, listed)
  ]
  | inr never ↦ inl (no_head l class a never)
]

-- what is known if x enters a state
record Enters (l : SpanListParts) (spans after : ℕ → Span) (has : ℕ → Type 0) (x : ℕ) (s : Span) (to : State) : Type 0 where
  stand : Stand l spans (others has x)
  fronted_is : AreFronted spans after x (list_head l s.class to) s to l.turn
  is_had : has x
  none : has 0 → ⊥
  small : s.class < class_count

turn_at : (l : SpanListParts) (spans after : ℕ → Span) (has : ℕ → Type 0) (x : ℕ) (s : Span) (to : State) →
    Enters l spans after has x s to →
    (u : ℕ) → u ≡ x → (after u).turn ≡ l.turn
turn_at l spans after has x s to en u e = ap (λ v. (after v).turn) e ∙ ap (λ (t : Span). t.turn) en.fronted_is.is

-- members of another list
members_stay : (l : SpanListParts) (spans after : ℕ → Span) (has : ℕ → Type 0) (x : ℕ) (s : Span) (to : State) →
    Enters l spans after has x s to →
    (k : ℕ) (e : State) (u : ℕ) → IsMember spans (others has x) k e u → IsMember after has k e u
members_stay l spans after has x s to en k e u m = record {
  is_had = m.is_had.0;
  class_is = en.fronted_is.class u m.is_had.1 ∙ m.class_is;
  state_is = en.fronted_is.state u m.is_had.1 ∙ m.state_is;
}

members_were : (l : SpanListParts) (spans after : ℕ → Span) (has : ℕ → Type 0) (x : ℕ) (s : Span) (to : State) →
    Enters l spans after has x s to →
    (k : ℕ) (e : State) (u : ℕ) → (u ≡ x → ⊥) → IsMember after has k e u → IsMember spans (others has x) k e u
members_were l spans after has x s to en k e u never m = record {
  is_had = (m.is_had, never);
  class_is = sym (en.fronted_is.class u never) ∙ m.class_is;
  state_is = sym (en.fronted_is.state u never) ∙ m.state_is;
}

x_is_of : (l : SpanListParts) (spans after : ℕ → Span) (has : ℕ → Type 0) (x : ℕ) (s : Span) (to : State) →
    Enters l spans after has x s to →
    (k : ℕ) (e : State) (u : ℕ) → u ≡ x → IsMember after has k e u → (k ≡ s.class) × (e ≡ to)
x_is_of l spans after has x s to en k e u same m =
    let f = en.fronted_is in (
      sym m.class_is ∙ (ap (λ v. (after v).class) same ∙ ap (λ (t : Span). t.class) f.is),
      sym m.state_is ∙
          (ap (λ v. (after v).state) same ∙ ap (λ (t : Span). t.state) f.is),
    )

other_list : (l : SpanListParts) (spans after : ℕ → Span) (has : ℕ → Type 0) (x : ℕ) (s : Span) (to : State) →
    Enters l spans after has x s to →
    (k : ℕ) (e : State) → HasList e → ((k ≡ s.class) × (e ≡ to) → ⊥) → AreInTurn (IsMember after has k e) after
other_list l spans after has x s to en k e listed away =
    let st = en.stand in let f = en.fronted_is in let head = list_head l s.class to in
    let M = IsMember spans (others has x) k e in let N = IsMember after has k e in
    let is = st.lists k e listed in
    let onto : (u : ℕ) → M u → N u = members_stay l spans after has x s to en k e in
    let apart : (u : ℕ) → N u → u ≡ x → ⊥ = λ u m same. away (x_is_of l spans after has x s to en k e u same m) in
    let from : (u : ℕ) → N u → M u = λ u m. members_were l spans after has x s to en k e u (apart u m) m in
    let rising : IsSameOrder M N (λ v w. (spans v).turn < (spans w).turn) (λ v w. (after v).turn < (after w).turn) = record {
      to = onto;
      from = from;
      before = λ u v a b c. let d = f.turn_is u a.is_had.1 in let g = f.turn_is v b.is_had.1 in omega arith;
      back = λ u v a b c. let d = f.turn_is u a.is_had.1 in let g = f.turn_is v b.is_had.1 in omega arith;
    } in
    let falling : IsSameOrder M N (λ v w. (spans w).turn < (spans v).turn) (λ v w. (after w).turn < (after v).turn) = record {
      to = onto;
      from = from;
      before = λ u v a b c. let d = f.turn_is u a.is_had.1 in let g = f.turn_is v b.is_had.1 in omega arith;
      back = λ u v a b c. let d = f.turn_is u a.is_had.1 in let g = f.turn_is v b.is_had.1 in omega arith;
    } in
    let not_head : (u : ℕ) → M u → u ≡ head → ⊥ = λ u m same. elim (head_is_member l spans (others has x) st s.class to en.small) [
      | inl z ↦ is.some (subst M (same ∙ z) m)
      | inr z ↦ foreign spans (others has x) k s.class e to away u head m z.0 same
    ] in
    record {
      some = λ m. is.some (from 0 m);
      differ = λ u v a b same. is.differ u v (from u a) (from v b) (sym (f.turn_is u (apart u a)) ∙ (same ∙ f.turn_is v (apart v b)));
      next = λ u m. near_same M N (λ v w. (spans v).turn < (spans w).turn) (λ v w. (after v).turn < (after w).turn) rising u (after u).next
          (from u m)
          (subst (IsNextByTurn M (λ v. (spans v).turn) u) (sym (f.next u (apart u m))) (is.next u (from u m)));
      previous = λ u m. near_same M N (λ v w. (spans w).turn < (spans v).turn) (λ v w. (after w).turn < (after v).turn) falling u
          (after u).previous (from u m)
          (subst (IsPreviousByTurn M (λ v. (spans v).turn) u) (sym (f.previous_else u (apart u m) (not_head u (from u m))))
          (is.previous u (from u m)));
    }

-- the list that x enters
own_list : (l : SpanListParts) (spans after : ℕ → Span) (has : ℕ → Type 0) (x : ℕ) (s : Span) (to : State) →
    Enters l spans after has x s to →
    HasList to → AreInTurn (IsMember after has s.class to) after
own_list l spans after has x s to en listed =
    let st = en.stand in let f = en.fronted_is in let head = list_head l s.class to in
    let M = IsMember spans (others has x) s.class to in let N = IsMember after has s.class to in
    let P : ℕ → Type 0 = λ v. M v ⊎ (v ≡ x) in let turn : ℕ → ℕ = λ v. (after v).turn in
    let is = st.lists s.class to listed in
    let x_is : N x = record {
      is_had = en.is_had;
      class_is = ap (λ (t : Span). t.class) f.is;
      state_is =
          ap (λ (t : Span). t.state) f.is;
    } in
    let onto : (u : ℕ) → P u → N u = λ u m. elim m [
      | inl a ↦ members_stay l spans after has x s to en s.class to u a
      | inr same ↦ subst N (sym same) x_is
    ] in
    let from : (u : ℕ) → N u → P u = λ u m. elim (eqb_tells u x) [
      | inl w ↦ inr w.1
      | inr w ↦ inl (members_were l spans after has x s to en s.class to u w.1 m)
    ] in
    let greatest : (u : ℕ) → M u → turn u < turn x = λ u m.
    let a = f.turn_is u m.is_had.1 in let b = st.below u m.is_had (listed_used (spans u) to listed m.state_is) in
    let c = turn_at l spans after has x s to en x refl in omega arith in
    let differ : (u v : ℕ) → M u → M v → turn u ≡ turn v → u ≡ v =
    λ u v a b same. is.differ u v a b (sym (f.turn_is u a.is_had.1) ∙ (same ∙ f.turn_is v b.is_had.1)) in
    let rising : IsSameOrder M M (λ v w. (spans v).turn < (spans w).turn) (λ v w. turn v < turn w) = record {
      to = λ u m. m;
      from = λ u m. m;
      before = λ u v a b c. let d = f.turn_is u a.is_had.1 in let g = f.turn_is v b.is_had.1 in omega arith;
      back = λ u v a b c. let d = f.turn_is u a.is_had.1 in let g = f.turn_is v b.is_had.1 in omega arith;
    } in
    let falling : IsSameOrder M M (λ v w. (spans w).turn < (spans v).turn) (λ v w. turn w < turn v) = record {
      to = λ u m. m;
      from = λ u m. m;
      before = λ u v a b c. let d = f.turn_is u a.is_had.1 in let g = f.turn_is v b.is_had.1 in omega arith;
      back = λ u v a b c. let d = f.turn_is u a.is_had.1 in let g = f.turn_is v b.is_had.1 in omega arith;
    } in
    let top : IsHead M turn head =
    head_same M M (λ v. (spans v).turn) turn (λ u m. m) (λ u m. m) (λ u m. sym (f.turn_is u m.is_had.1)) head
    (st.heads s.class to en.small listed) in
    let next_of : (u : ℕ) → P u → IsNextByTurn P turn u (after u).next = λ u m. elim m [
      | inl a ↦ subst (IsNextByTurn P turn u) (sym (f.next u a.is_had.1))
          (near_beyond M (λ v w. turn v < turn w) x (λ v b c. let d = greatest v b in omega arith)
          u (spans u).next a (near_same M M (λ v w. (spans v).turn < (spans w).turn) (λ v w. turn v < turn w) rising u (spans u).next a
          (is.next u a)))
      | inr same ↦ subst (λ v. IsNextByTurn P turn v (after v).next) (sym same)
          (subst (IsNextByTurn P turn x) (sym (ap (λ (t : Span). t.next) f.is)) (next_is_head M turn x head greatest top))
    ] in
    let previous_of : (u : ℕ) → P u → IsPreviousByTurn P turn u (after u).previous = λ u m. elim m [
      | inl a ↦ elim (eqb_tells u head) [
        | inl w ↦ subst (IsPreviousByTurn P turn u) (sym (f.previous_here u a.is_had.1 (λ z. is.some (subst M z a)) w.1))
            (subst (λ v. IsPreviousByTurn P turn v x) (sym w.1) (head_is_after M turn x head greatest top (subst M w.1 a)))
        | inr w ↦ subst (IsPreviousByTurn P turn u) (sym (f.previous_else u a.is_had.1 w.1))
            (previous_stays M turn x head greatest differ top u (spans u).previous a w.1
            (near_same M M (λ v w. (spans w).turn < (spans v).turn) (λ v w. turn w < turn v) falling u (spans u).previous a
            (is.previous u a)))
      ]
      | inr same ↦ subst (λ v. IsPreviousByTurn P turn v (after v).previous) (sym same)
          (subst (IsPreviousByTurn P turn x) (sym (ap (λ (t : Span). t.previous) f.is)) (none_is_previous M turn x greatest))
    ] in
    record {
      some = λ m. en.none m.is_had;
      differ = λ u v a b same. elim (from u a) [
        | inl c ↦ elim (from v b) [
          | inl d ↦ differ u v c d same
          | inr d ↦ let g = greatest u c in let h : turn v ≡ turn x = ap turn d in absurd (omega arith)
        ]
        | inr c ↦ elim (from v b) [
          | inl d ↦ let g = greatest v d in let h : turn u ≡ turn x = ap turn c in absurd (omega arith)
          | inr d ↦ c ∙ sym d
        ]
      ];
      next = λ u m. near_same P N (λ v w. turn v < turn w) (λ v w. turn v < turn w)
          (record { to = onto; from = from; before = λ v w a b c. c; back = λ v w a b c. c }) u (after u).next (from u m)
          (next_of u (from u m));
      previous = λ u m. near_same P N (λ v w. turn w < turn v) (λ v w. turn w < turn v)
          (record { to = onto; from = from; before = λ v w a b c. c; back = λ v w a b c. c }) u (after u).previous (from u m)
          (previous_of u (from u m));
    }

list_entered : (l : SpanListParts) (spans after : ℕ → Span) (has : ℕ → Type 0) (x : ℕ) (s : Span) (to : State) →
    Enters l spans after has x s to →
    (k : ℕ) (e : State) → HasList e → AreInTurn (IsMember after has k e) after
list_entered l spans after has x s to en k e listed = elim (lists_tell k s.class e to) [
  | inl w ↦ subst (λ c. AreInTurn (IsMember after has c e) after) (sym w.0)
      (subst (λ a. AreInTurn (IsMember after has s.class a) after) (sym w.1)
      (own_list l spans after has x s to en (subst HasList w.1 listed)))
  | inr w ↦ other_list l spans after has x s to en k e listed w
]

-- the head of each list
head_entered : (l : SpanListParts) (spans after : ℕ → Span) (has : ℕ → Type 0) (x : ℕ) (s : Span) (to : State) →
    Enters l spans after has x s to →
    (k : ℕ) (e : State) → k < class_count → HasList e →
    IsHead (IsMember after has k e) (λ v. (after v).turn) (list_head (with_head s.class to x l) k e)
head_entered l spans after has x s to en k e small listed =
    let st = en.stand in let f = en.fronted_is in
    let M = IsMember spans (others has x) k e in let N = IsMember after has k e in let turn : ℕ → ℕ = λ v. (after v).turn in
    elim (lists_tell k s.class e to) [
      | inl w ↦
          let is_x : list_head (with_head s.class to x l) k e ≡ x =
          subst (λ c. list_head (with_head c to x l) k e ≡ x) w.0
          (subst (λ a. list_head (with_head k a x l) k e ≡ x) w.1 (head_set l k e x st.long small listed)) in
          let x_is : N x = record {
            is_had = en.is_had;
            class_is = ap (λ (t : Span). t.class) f.is ∙
                sym w.0;
            state_is = ap (λ (t : Span). t.state) f.is ∙ sym w.1;
          } in
          subst (IsHead N turn) (sym is_x) (inr (
            x_is,
            λ v m. elim (eqb_tells v x) [
              | inl z ↦ let a : turn v ≡ turn x = ap turn z.1 in omega arith
              | inr z ↦
                  let n = members_were l spans after has x s to en k e v z.1 m in
                  let a = f.turn_is v z.1 in let b = st.below v n.is_had (listed_used (spans v) e listed n.state_is) in
                  let c = turn_at l spans after has x s to en x refl in omega arith
            ],
          ))
      | inr w ↦ subst (IsHead N turn) (sym (head_other l k s.class e to x w)) (head_same M N (λ v. (spans v).turn) turn
          (members_stay l spans after has x s to en k e)
          (λ v m. members_were l spans after has x s to en k e v (λ same. w (x_is_of l spans after has x s to en k e v same m)) m)
          (λ v m. sym (f.turn_is v m.is_had.1)) (list_head l k e) (st.heads k e small listed))
    ]

-- the lists stand with x
pub put_in_front : (l : SpanListParts) (spans : ℕ → Span) (has : ℕ → Type 0) (x : ℕ) (s : Span) (to : State) →
    Stand l spans (λ u. has u × (u ≡ x → ⊥)) →
    has x → (has 0 → ⊥) → s.class < class_count →
    Stand (lists_with x s.class to l) (in_front x s to (list_head l s.class to) l.turn spans) has
put_in_front l spans has x s to st isx none small =
    let head = list_head l s.class to in let after = in_front x s to head l.turn spans in
    let of_head = head_is_member l spans (others has x) st s.class to small in
    let apart : x ≡ head → ⊥ = λ same. elim of_head [
      | inl z ↦ none (subst has (same ∙ z) isx)
      | inr z ↦ z.0.is_had.1 (sym same)
    ] in
    let f = fronted x head s to l.turn spans apart in
    let en : Enters l spans after has x s to = record { stand = st; fronted_is = f; is_had = isx; none = none; small = small } in
    let used : (u : ℕ) → (u ≡ x → ⊥) → IsInUse (after u) → IsInUse (spans u) = λ u never is empty. is (f.state u never ∙ empty) in
    let at : (u : ℕ) → u ≡ x → (after u).turn ≡ l.turn = turn_at l spans after has x s to en in
    let lower : (u : ℕ) → has u → (u ≡ x → ⊥) → IsInUse (after u) → (after u).turn < l.turn =
    λ u h never is. let a = st.below u (h, never) (used u never is) in let b = f.turn_is u never in omega arith in
    record {
      some = none;
      differ = λ u v a b c d same. elim (eqb_tells u x) [
        | inl w ↦ elim (eqb_tells v x) [
          | inl z ↦ w.1 ∙ sym z.1
          | inr z ↦ let g = at u w.1 in let h = lower v b z.1 d in absurd (omega arith)
        ]
        | inr w ↦ elim (eqb_tells v x) [
          | inl z ↦ let g = at v z.1 in let h = lower u a w.1 c in absurd (omega arith)
          | inr z ↦ st.differ u v (a, w.1) (b, z.1) (used u w.1 c) (used v z.1 d) (sym (f.turn_is u w.1) ∙ (same ∙ f.turn_is v z.1))
        ]
      ];
      below = λ u a is. elim (eqb_tells u x) [
        | inl w ↦ let g = at u w.1 in omega arith
        | inr w ↦ let g = lower u a w.1 is in omega arith
      ];
      alone = λ u a never. elim (eqb_tells u x) [
        | inl w ↦
            let unlisted : HasList to →
            ⊥ = λ z. never (subst HasList (sym (ap (λ v. (after v).state) w.1 ∙ ap (λ (t : Span). t.state) f.is)) z) in (
              ap (λ v. (after v).previous) w.1 ∙ ap (λ (t : Span). t.previous) f.is,
              ap (λ v. (after v).next) w.1 ∙ (ap (λ (t : Span). t.next) f.is ∙ no_head l s.class to unlisted),
            )
        | inr w ↦
            let unlisted : HasList (spans u).state → ⊥ = λ z. never (subst HasList (sym (f.state u w.1)) z) in
            let two = st.alone u (a, w.1) unlisted in
            let not_head : u ≡ head → ⊥ = λ same. elim of_head [
              | inl z ↦ none (subst has (same ∙ z) a)
              | inr z ↦ unlisted (subst HasList (sym (ap (λ v. (spans v).state) same ∙ z.0.state_is)) z.1)
            ] in
            (f.previous_else u w.1 not_head ∙ two.0, f.next u w.1 ∙ two.1)
      ];
      lists = list_entered l spans after has x s to en;
      heads = λ k e k_small listed.
          subst (IsHead (IsMember after has k e) (λ v. (after v).turn))
          (sym (head_alike (with_head s.class to x l) (ring_with x to l.ring) (l.turn + 1) k e))
          (head_entered l spans after has x s to en k e k_small listed);
      empty = λ u a is. elim (eqb_tells u x) [
        | inl w ↦ subst (Contains (ring_with x to l.ring)) (sym w.1)
            (comes_in x to l.ring (sym (ap (λ v. (after v).state) w.1 ∙ ap (λ (t : Span). t.state) f.is) ∙ is))
        | inr w ↦ is_still_in x to l.ring u (st.empty u (a, w.1) (sym (f.state u w.1) ∙ is))
      ];
      in_ring = all_with (λ u. has u × ((after u).state ≡ state.Empty)) x to l.ring
          (All-weaker (λ u. (has u × (u ≡ x → ⊥)) × ((spans u).state ≡ state.Empty)) (λ u. has u × ((after u).state ≡ state.Empty))
          (λ u m. (m.0.0, f.state u m.0.1 ∙ m.1)) l.ring st.in_ring)
          (λ e. (isx, ap (λ (t : Span). t.state) f.is ∙ e));
      rise = rises_with (λ u v. (after u).turn < (after v).turn) x to l.ring
          (λ i j d less inside.
          let a = st.in_ring i d (omega arith) in let b = st.in_ring j d inside in
          let g = f.turn_is (slice_index_or l.ring i d) a.0.1 in let h = f.turn_is (slice_index_or l.ring j d) b.0.1 in
          let r = st.rise i j d less inside in omega arith)
          (All-weaker (λ u. (has u × (u ≡ x → ⊥)) × ((spans u).state ≡ state.Empty)) (λ u. (after u).turn < (after x).turn)
          (λ u m. let a = st.below u m.0 (listed_used (spans u) state.Empty tt m.1) in let b = f.turn_is u m.0.1 in let c = at x refl in
          omega arith) l.ring st.in_ring);
      long = let h = heads_stay l s.class to x st.long in record { active = h.active; empty = h.empty; decommitted = h.decommitted };
    }
