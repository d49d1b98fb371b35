-- Lists stay those of spans that stand in them as before.
use Rattle.std.proofs.Common.{◌≡◌, ℕ, ◌<◌, ◌⊎◌, inl, inr, ◌==◌, if◌then◌else◌, sym, ap, subst, ◌∙◌, arith}
use Rattle.std.specs.Prelude.{slice_index_or}
use Rattle.std.proofs.lemmas.Bool.Decides.{eqb_tells}
use Rattle.std.proofs.lemmas.List.Elements.{All-weaker}
use Rattle.pa_buckets.specs.declared.spans.State.{State}
use Rattle.pa_buckets.specs.declared.spans.State.TheVariants as state
use Rattle.pa_spans.specs.declared.span.Span.{Span}
use Rattle.pa_spans.specs.Lists.{SpanListParts, HasList, list_head, IsNextByTurn, IsPreviousByTurn, AreInTurn, IsMember, IsInUse, Stand, StaysListed, IsOutside}
use Rattle.pa_spans.proofs.Near.{IsSameOrder, near_same, head_same}
use Rattle.pa_spans.proofs.Leaving.{listed_used}

-- Each span that there was is there, and stands as it did. Each other one isn't in use.
pub record StayListed (spans after : ℕ → Span) (has had : ℕ → Type 0) : Type 0 where
  pub on : (u : ℕ) → has u → had u × StaysListed (spans u) (after u)
  pub back : (u : ℕ) → had u → (has u × StaysListed (spans u) (after u)) ⊎ IsOutside (after u)
  pub none : had 0 → ⊥

onto : (spans after : ℕ → Span) (has had : ℕ → Type 0) → StayListed spans after has had → (k : ℕ) (e : State) → HasList e →
    (u : ℕ) → IsMember spans has k e u → IsMember after had k e u
onto spans after has had stay k e listed u m =
    let o = stay.on u m.is_had in
    record {
      is_had = o.0;
      class_is = elim o.1.class [
        | inl c ↦ c ∙ m.class_is
        | inr none ↦ absurd (listed_used (spans u) e listed m.state_is none)
      ];
      state_is = o.1.state ∙ m.state_is;
    }

from : (spans after : ℕ → Span) (has had : ℕ → Type 0) → StayListed spans after has had → (k : ℕ) (e : State) → HasList e →
    (u : ℕ) → IsMember after had k e u → IsMember spans has k e u
from spans after has had stay k e listed u n = elim (stay.back u n.is_had) [
  | inl w ↦ record {
    is_had = w.0;
    class_is = elim w.1.class [
      | inl c ↦ sym c ∙ n.class_is
      | inr none ↦ absurd (listed_used (after u) e listed n.state_is (w.1.state ∙ none))
    ];
    state_is = sym w.1.state ∙ n.state_is;
  }
  | inr out ↦ absurd (listed_used (after u) e listed n.state_is out.0)
]

-- a span in use was there
was : (spans after : ℕ → Span) (has had : ℕ → Type 0) → StayListed spans after has had → (u : ℕ) → had u → IsInUse (after u) →
    has u × StaysListed (spans u) (after u)
was spans after has had stay u a is = elim (stay.back u a) [
  | inl w ↦ w
  | inr out ↦ absurd (is out.0)
]

list_stays : (l : SpanListParts) (spans after : ℕ → Span) (has had : ℕ → Type 0) → Stand l spans has → StayListed spans after has had →
    (k : ℕ) (e : State) → HasList e → AreInTurn (IsMember after had k e) after
list_stays l spans after has had st stay k e listed =
    let M = IsMember spans has k e in let N = IsMember after had k e in
    let is = st.lists k e listed in
    let to = onto spans after has had stay k e listed in let back = from spans after has had stay k e listed in
    let same : (u : ℕ) → M u → (after u).turn ≡ (spans u).turn = λ u m. (stay.on u m.is_had).1.turn in
    let rising : IsSameOrder M N (λ v w. (spans v).turn < (spans w).turn) (λ v w. (after v).turn < (after w).turn) = record {
      to = to;
      from = back;
      before = λ u v a b c. let d = same u a in let g = same v b in omega arith;
      back = λ u v a b c. let d = same u a in let g = same v b in omega arith;
    } in
    let falling : IsSameOrder M N (λ v w. (spans w).turn < (spans v).turn) (λ v w. (after w).turn < (after v).turn) = record {
      to = to;
      from = back;
      before = λ u v a b c. let d = same u a in let g = same v b in omega arith;
      back = λ u v a b c. let d = same u a in let g = same v b in omega arith;
    } in
    record {
      some = λ m. is.some (back 0 m);
      differ = λ u v a b eq. is.differ u v (back u a) (back v b) (sym (same u (back u a)) ∙ (eq ∙ same v (back v b)));
      next = λ u m. let o = back u m in
          near_same M N (λ v w. (spans v).turn < (spans w).turn) (λ v w. (after v).turn < (after w).turn) rising u (after u).next o
          (subst (IsNextByTurn M (λ v. (spans v).turn) u) (sym (stay.on u o.is_had).1.next) (is.next u o));
      previous = λ u m. let o = back u m in
          near_same M N (λ v w. (spans w).turn < (spans v).turn) (λ v w. (after w).turn < (after v).turn) falling u (after u).previous o
          (subst (IsPreviousByTurn M (λ v. (spans v).turn) u) (sym (stay.on u o.is_had).1.previous) (is.previous u o));
    }

pub stays : (l : SpanListParts) (spans after : ℕ → Span) (has had : ℕ → Type 0) → Stand l spans has → StayListed spans after has had →
    Stand l after had
stays l spans after has had st stay =
    let used : (u : ℕ) → (h : has u × StaysListed (spans u) (after u)) → IsInUse (after u) →
    IsInUse (spans u) = λ u h is none. is (h.1.state ∙ none) in
    record {
      some = stay.none;
      differ = λ u v a b c d eq.
          let p = was spans after has had stay u a c in let q = was spans after has had stay v b d in
          st.differ u v p.0 q.0 (used u p c) (used v q d) (sym p.1.turn ∙ (eq ∙ q.1.turn));
      below = λ u a c. let p = was spans after has had stay u a c in let b = st.below u p.0 (used u p c) in let d = p.1.turn in omega arith;
      alone = λ u a never. elim (stay.back u a) [
        | inl w ↦ let two = st.alone u w.0 (λ z. never (subst HasList (sym w.1.state) z)) in (w.1.previous ∙ two.0, w.1.next ∙ two.1)
        | inr out ↦ (out.1, out.2)
      ];
      lists = list_stays l spans after has had st stay;
      heads = λ k e small listed. head_same (IsMember spans has k e) (IsMember after had k e) (λ v. (spans v).turn) (λ v. (after v).turn)
          (onto spans after has had stay k e listed) (from spans after has had stay k e listed) (λ u m. sym (stay.on u m.is_had).1.turn)
          (list_head l k e) (st.heads k e small listed);
      empty = λ u a is. elim (stay.back u a) [
        | inl w ↦ st.empty u w.0 (sym w.1.state ∙ is)
        | inr out ↦ let never = sym out.0 ∙ is in absurd (cc)
      ];
      in_ring = All-weaker (λ u. has u × ((spans u).state ≡ state.Empty)) (λ u. had u × ((after u).state ≡ state.Empty))
          (λ u m. let o = stay.on u m.0 in (o.0, o.1.state ∙ m.1)) l.ring st.in_ring;
      rise = λ i j d less inside.
          let a = st.in_ring i d (omega arith) in let b = st.in_ring j d inside in
          let g = (stay.on (slice_index_or l.ring i d) a.0).1.turn in let h = (stay.on (slice_index_or l.ring j d) b.0).1.turn in
          let r = st.rise i j d less inside in omega arith;
      long = st.long;
    }

-- a span that is the same is listed alike
pub same_listed : (s t : Span) → t ≡ s → StaysListed s t
same_listed s t e = record {
  class = inl (ap (λ (v : Span). v.class) e);
  state = ap (λ (v : Span). v.state) e;
  turn = ap (λ (v : Span). v.turn) e;
  previous = ap (λ (v : Span). v.previous) e;
  next = ap (λ (v : Span). v.next) e;
}

-- a span that is put in the place of another, and stands as it did
pub put_listed : (spans after : ℕ → Span) (at : ℕ) (s : Span) → ((u : ℕ) → after u ≡ (if u == at then s else spans u)) →
    StaysListed (spans at) s →
    (u : ℕ) → StaysListed (spans u) (after u)
put_listed spans after at s each stay u = elim (eqb_tells u at) [
  | inl w ↦
      let e : after u ≡ s = each u ∙ ap (λ b. if b then s else spans u) w.0 in
      subst (StaysListed (spans u)) (sym e) (subst (λ v. StaysListed (spans v) s) (sym w.1) stay)
  | inr w ↦ same_listed (spans u) (after u) (each u ∙ ap (λ b. if b then s else spans u) w.0)
]
