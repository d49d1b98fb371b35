-- The spans of a root stay in order.
use Rattle.std.proofs.Common.{◌≡◌, ℕ, zero, suc, ◌-◌, ◌≤◌, List, [], ◌∷◌, length, get_or, set, sym, ap, subst, arith, ◌⊎◌, inl, inr, Some}
use Rattle.std.specs.Prelude.{Contains, AllPairs, slice_get}
use Rattle.std.proofs.lemmas.Bool.{cases_lt}
use Rattle.std.proofs.lemmas.Option.{slice_get_within, get_or_from_slice_get}
use Rattle.pa_slot.specs.declared.title.Title.{Title}
use Rattle.pa_buckets.specs.declared.spans.State.{State}
use Rattle.pa_record.specs.declared.taken.SuperPage.{SuperPage}
use Rattle.pa_record.specs.Spans.{Span}
use Rattle.pa_record.specs.Root.{Root, in_state, current, new_span, with_span, opened}
use Rattle.pa_record.specs.Sound.{IsSound, IsBornBelow}
use Rattle.pa_lists.proofs.Members.{of_some, not_some, first_in, later_in, in_cases}
use Rattle.pa_lists.proofs.Pairs.{pairs_cons, pairs_head, pairs_tail, pairs_push}
use Rattle.pa_record.proofs.Entering.{IsLike, like_bytes, like_trans, in_state_like}
use Rattle.pa_record.proofs.Taking.{front_from}
use Rattle.pa_place.specs.Served.{IsServed}
use Rattle.pa_place.specs.Order.{IsBefore, IsOlder, IsOrdered}

-- what is in a list after one member was set
pub set_cases : {A : Type 0} (xs : List A) (i : ℕ) (x y : A) → Contains (set xs i x) y → (y ≡ x) ⊎ Contains xs y
set_cases [] i x y among = inr among
set_cases (z ∷ xs) zero x y among = elim (in_cases x y xs among) [ inl e ↦ inl (sym e) | inr rest ↦ inr (later_in z y xs rest) ]
set_cases (z ∷ xs) (suc i) x y among = elim (in_cases z y (set xs i x) among) [
  | inl e ↦ inr (subst (λ w. Contains (z ∷ xs) w) e (first_in z xs))
  | inr rest ↦ elim (set_cases xs i x y rest) [ inl e ↦ inl e | inr old ↦ inr (later_in z y xs old) ]
]

-- a span like another comes before the same, and after the same
before_like : (s t u : Span) → IsLike t s → IsBefore s u → IsBefore t u
before_like s t u like (inl sooner) = let b = like.born in inl (omega arith)
before_like s t u like (inr (same, ends)) =
    let b = like.born in let p = like.place in let n = like_bytes t s like in
    inr (omega arith, omega arith)

after_like : (s t u : Span) → IsLike t s → IsBefore u s → IsBefore u t
after_like s t u like (inl sooner) = let b = like.born in inl (omega arith)
after_like s t u like (inr (same, ends)) =
    let b = like.born in let p = like.place in
    inr (omega arith, omega arith)

pub order_set : (ss : List Span) (i : ℕ) (s t : Span) → AllPairs IsBefore ss → slice_get ss i ≡ Some s → IsLike t s →
    AllPairs IsBefore (set ss i t)
order_set [] i s t h e like = absurd (not_some s e)
order_set (u ∷ ss) zero s t h e like =
    let same = of_some u s e in
    pairs_cons IsBefore t ss
    (λ v among. before_like s t v like (subst (λ z. IsBefore z v) same (pairs_head IsBefore u v ss h among)))
    (pairs_tail IsBefore u ss h)
order_set (u ∷ ss) (suc i) s t h e like =
    pairs_cons IsBefore u (set ss i t)
    (λ v among. elim (set_cases ss i t v among) [
      | inl f ↦ subst (λ z. IsBefore u z) (sym f)
          (after_like s t u like (pairs_head IsBefore u s ss h (i, slice_get_within ss i s e, get_or_from_slice_get ss i s s e)))
      | inr old ↦ pairs_head IsBefore u v ss h old
    ])
    (order_set ss i s t (pairs_tail IsBefore u ss h) e like)

-- the current super page was taken last
newest : (xs : List SuperPage) (a b : SuperPage) → AllPairs IsOlder xs → Contains xs a → slice_get xs (length xs - 1) ≡ Some b →
    a.born ≤ b.born
newest xs a b h (k, below, e) f = elim (cases_lt k (length xs - 1)) [
  | inl less ↦
      let older = h k (length xs - 1) a less (omega arith) in
      let first = ap (λ (z : SuperPage). z.born) e in
      let last = ap (λ (z : SuperPage). z.born) (get_or_from_slice_get xs (length xs - 1) b a f) in
      omega arith
  | inr more ↦
      let same : k ≡ length xs - 1 = omega arith in
      let last = ap (λ (z : SuperPage). z.born) (get_or_from_slice_get xs (length xs - 1) b a f) in
      let here = ap (λ n. (get_or xs n a).born) same in
      let first = ap (λ (z : SuperPage). z.born) e in
      omega arith
]

-- a new span comes after all others
pub order_push : (class : ℕ) (r : Root) (at : SuperPage) → IsSound r → IsOrdered r → current r ≡ Some at →
    IsOrdered (with_span (new_span class at r.page) r)
order_push class r at sound h now =
    let s = new_span class at r.page in
    record {
      spans = pairs_push IsBefore r.spans s h.spans (λ u among.
          let (own, page, p) = sound.placed u among in
          let old = newest r.supers own at h.supers p.among now in
          let born = p.born in
          elim (cases_lt u.born at.born) [
            | inl sooner ↦ inl sooner
            | inr not_sooner ↦
                let same : u.born ≡ at.born = omega arith in
                inr (same, sound.below u at among now same)
          ]);
      supers = h.supers;
    }

-- a root stays in order when a super page is opened that was born after all its others
pub order_opened : (number born : ℕ) (r : Root) → IsBornBelow born r → IsOrdered r → IsOrdered (opened number born r)
order_opened number born r old h =
    let at : SuperPage = record { number = number; born = born } in
    record { spans = h.spans; supers = pairs_push IsOlder r.supers at h.supers (λ x among. old.supers x among) }

-- a span that was changed and entered a state, in place of the one that stood there
pub order_changed : (r : Root) (i : ℕ) (s t next : Span) (turn : ℕ) (to : State) → IsOrdered r → slice_get r.spans i ≡ Some s → IsLike t s →
    next ≡ in_state to r.turn t →
    IsOrdered (record r { spans = set r.spans i next; turn = turn })
order_changed r i s t next turn to h e like is =
    let near : IsLike next s = subst (λ z. IsLike z s) (sym is) (like_trans (in_state to r.turn t) t s (in_state_like to r.turn t) like) in
    record { spans = order_set r.spans i s next h.spans e near; supers = h.supers }

-- a span from which a slot was taken is like it was
pub served_like : (s u : Span) (title : Title) → IsServed s u title → IsLike u s
served_like s u title served = subst (λ z. IsLike z s) (sym served.after) (front_from s served.rest).like
