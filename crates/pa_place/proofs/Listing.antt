-- A list of the spans that pass a test, while one span changes.
use Rattle.std.proofs.Common.{◌≡◌, ◌≢◌, ℕ, zero, suc, ◌+◌, ◌-◌, ◌<◌, Bool, true, false, eqb, List, [], ◌∷◌, ◌++◌, length, get_or, set, refl, sym, ◌∙◌, ap, subst, arith, ◌⊎◌, inl, inr, Option, Some, None}
use Rattle.std.specs.Prelude.{Contains, AllPairs, IfSome, slice_get}
use Rattle.std.proofs.lemmas.Option.{slice_get_within, slice_get-get_or, get_or_from_slice_get}
use Rattle.std.proofs.lemmas.Bool.{cases_Bool, cases_lt, both_ways, eqb-true, eqb-false, eq-eqb}
use Rattle.std.proofs.lemmas.List.{length_push}
use Rattle.std.proofs.lemmas.List.Elements.{Contains-push_cases, Contains-append_left, Contains-push}
use Rattle.std.proofs.lemmas.List.Sums.{sum_by_push}
use Rattle.pa_record.specs.Spans.{Span, latest, earliest}
use Rattle.pa_record.specs.Root.{Root}
use Rattle.pa_record.specs.Sound.{IsSound}
use Rattle.pa_record.specs.Chosen.{TestsUsed}
use Rattle.pa_lists.proofs.Members.{of_some, not_some, not_in_none, first_in, later_in, in_cases}
use Rattle.pa_lists.proofs.Pairs.{pairs_none, pairs_cons, pairs_head, pairs_tail, pairs_push, pairs_give}
use Rattle.pa_record.proofs.PoolSteps.{slice_get_more}
use Rattle.pa_record.proofs.Choice.{latest_is, earliest_is}
use Rattle.pa_record.proofs.Chosen.{is_latest, is_earliest}
use Rattle.pa_record.proofs.Entering.{one_if}
use Rattle.pa_place.specs.Scans.{span_at}
use Rattle.pa_place.specs.Listing.{IsSooner, IsListing, IsInTurn, without_index, refiled}
use Rattle.pa_place.specs.Filed.{last_of}
use Rattle.pa_place.proofs.Setting.{set_same, set_other, set_parts, count_set}
use Rattle.pa_lists.proofs.Indexed.{at_in, element_at}

without_in : (i j : ℕ) (ids : List ℕ) → Contains (without_index i ids) j → Contains ids j
without_in i j [] among = among
without_in i j (k ∷ ids) among = elim (cases_Bool (eqb k i)) [
  | inl hit ↦ later_in k j ids (rw hit at among)
  | inr miss ↦ elim (in_cases k j (without_index i ids) (rw miss at among)) [
    | inl e ↦ subst (λ z. Contains (k ∷ ids) z) e (first_in k ids)
    | inr old ↦ later_in k j ids (without_in i j ids old)
  ]
]

without_keeps : (i j : ℕ) (ids : List ℕ) → Contains ids j → j ≢ i → Contains (without_index i ids) j
without_keeps i j [] among other = among
without_keeps i j (k ∷ ids) among other = elim (cases_Bool (eqb k i)) [
  | inl hit ↦ elim (in_cases k j ids among) [
    | inl e ↦ absurd (other (sym e ∙ eqb-true k i hit))
    | inr rest ↦ rw hit rest
  ]
  | inr miss ↦ elim (in_cases k j ids among) [
    | inl e ↦ rw miss (subst (λ z. Contains (k ∷ without_index i ids) z) e (first_in k (without_index i ids)))
    | inr rest ↦ rw miss (later_in k j (without_index i ids) (without_keeps i j ids rest other))
  ]
]

without_length : (i : ℕ) (ids : List ℕ) → Contains ids i → length (without_index i ids) + 1 ≡ length ids
without_length i [] among = absurd (not_in_none i among)
without_length i (k ∷ ids) among = elim (cases_Bool (eqb k i)) [
  | inl hit ↦ rw hit (omega arith)
  | inr miss ↦ elim (in_cases k i ids among) [
    | inl e ↦ absurd (both_ways _ miss (eq-eqb k i e))
    | inr rest ↦ let ih = without_length i ids rest in rw miss (omega arith)
  ]
]

without_pairs : (R : ℕ → ℕ → Type 0) (i : ℕ) (ids : List ℕ) → AllPairs R ids → AllPairs R (without_index i ids)
without_pairs R i [] h = h
without_pairs R i (k ∷ ids) h = elim (cases_Bool (eqb k i)) [
  | inl hit ↦ rw hit (pairs_tail R k ids h)
  | inr miss ↦ rw miss (pairs_cons R k (without_index i ids)
      (λ j among. pairs_head R k j ids h (without_in i j ids among))
      (without_pairs R i ids (pairs_tail R k ids h)))
]

-- it isn't there twice
absent : (R : ℕ → ℕ → Type 0) (i j : ℕ) (ids : List ℕ) → AllPairs R ids → (R i i → ⊥) → Contains (without_index i ids) j → j ≢ i
absent R i j [] h once among e = not_in_none j among
absent R i j (k ∷ ids) h once among e = elim (cases_Bool (eqb k i)) [
  | inl hit ↦ once (subst (λ z. R z i) (eqb-true k i hit) (subst (λ z. R k z) e (pairs_head R k j ids h (rw hit at among))))
  | inr miss ↦ elim (in_cases k j (without_index i ids) (rw miss at among)) [
    | inl same ↦ eqb-false k i miss (same ∙ e)
    | inr rest ↦ absent R i j ids (pairs_tail R k ids h) once rest e
  ]
]

-- the span at i isn't sooner than itself
not_sooner : (ss : List Span) (i : ℕ) (s : Span) → slice_get ss i ≡ Some s → IsSooner ss i i → ⊥
not_sooner ss i s e sooner = let less = sooner s s e e in omega arith

-- two spans that stay where they were
still_sooner : (ss : List Span) (i j k : ℕ) (t : Span) → j ≢ i → k ≢ i → IsSooner ss j k → IsSooner (set ss i t) j k
still_sooner ss i j k t other other' sooner v w e f = sooner v w (sym (set_other ss i j t other) ∙ e) (sym (set_other ss i k t other') ∙ f)

-- a span that passed doesn't pass any more
pub leaves : (test : Span → Bool) (ss : List Span) (ids : List ℕ) (i : ℕ) (s t : Span) → slice_get ss i ≡ Some s → test s ≡ true →
    test t ≡ false → IsListing test ss ids →
    IsListing test (set ss i t) (without_index i ids)
leaves test ss ids i s t e passes fails h =
    let R = IsSooner ss in
    let other : (j : ℕ) → Contains (without_index i ids) j → j ≢ i = λ j among. absent R i j ids h.order (not_sooner ss i s e) among in
    record {
      here = λ j among.
          let (v, f, p) = h.here j (without_in i j ids among) in
          (v, set_other ss i j t (other j among) ∙ f, p);
      all = λ j v f p. elim (set_parts ss i j s t v e f) [
        | inl same ↦ absurd (both_ways _ fails (subst (λ z. test z ≡ true) same.1 p))
        | inr old ↦ without_keeps i j ids (h.all j v old.1 p) old.0
      ];
      order = pairs_give R (IsSooner (set ss i t)) (without_index i ids) (without_pairs R i ids h.order)
          (λ j k first second sooner. still_sooner ss i j k t (other j first) (other k second) sooner);
      many =
          let a = without_length i ids (h.all i s e passes) in
          let b = count_set test ss i s t e in
          let c : one_if (test s) ≡ 1 = ap one_if passes in
          let d : one_if (test t) ≡ 0 = ap one_if fails in
          let m = h.many in
          omega arith;
    }

-- a listed span isn't one that fails
pub not_listed : (test : Span → Bool) (ss : List Span) (ids : List ℕ) (i j : ℕ) (s : Span) → slice_get ss i ≡ Some s → test s ≡ false →
    IsListing test ss ids → Contains ids j → j ≢ i
not_listed test ss ids i j s e fails h among same =
    let (v, f, p) = h.here j among in
    both_ways _ fails (subst (λ z. test z ≡ true) (of_some v s (sym f ∙ ap (slice_get ss) same ∙ e)) p)

-- a span that didn't pass does, with a greater turn than those that do
pub enters : (test : Span → Bool) (ss : List Span) (ids : List ℕ) (i : ℕ) (s t : Span) → slice_get ss i ≡ Some s → test s ≡ false →
    test t ≡ true →
    ((j : ℕ) (v : Span) → slice_get ss j ≡ Some v → test v ≡ true → v.turn < t.turn) → IsListing test ss ids →
    IsListing test (set ss i t) (ids ++ i ∷ [])
enters test ss ids i s t e fails passes last h =
    let R = IsSooner ss in
    let Q = IsSooner (set ss i t) in
    let other : (j : ℕ) → Contains ids j → j ≢ i = λ j among. not_listed test ss ids i j s e fails h among in
    record {
      here = λ j among. elim (Contains-push_cases ids i j among) [
        | inl old ↦ let (v, f, p) = h.here j old in (v, set_other ss i j t (other j old) ∙ f, p)
        | inr same ↦ (t, ap (slice_get (set ss i t)) (sym same) ∙ set_same ss i s t e, passes)
      ];
      all = λ j v f p. elim (set_parts ss i j s t v e f) [
        | inl same ↦ subst (λ z. Contains (ids ++ i ∷ []) z) (sym same.0) (Contains-push ids i)
        | inr old ↦ Contains-append_left ids (i ∷ []) j (h.all j v old.1 p)
      ];
      order = pairs_push Q ids i
          (pairs_give R Q ids h.order (λ j k first second sooner. still_sooner ss i j k t (other j first) (other k second) sooner))
          (λ j among v w f g.
          let (u, k, p) = h.here j among in
          let same : u ≡ v = of_some u v (sym k ∙ sym (set_other ss i j t (other j among)) ∙ f) in
          let new : t ≡ w = of_some t w (sym (set_same ss i s t e) ∙ g) in
          let less = last j u k p in
          let a = ap (λ (z : Span). z.turn) same in
          let b = ap (λ (z : Span). z.turn) new in
          omega arith);
      many =
          let a = length_push ids i in
          let b = count_set test ss i s t e in
          let c : one_if (test s) ≡ 0 = ap one_if fails in
          let d : one_if (test t) ≡ 1 = ap one_if passes in
          let m = h.many in
          omega arith;
    }

-- a span changed that passes neither before nor after
pub stands : (test : Span → Bool) (ss : List Span) (ids : List ℕ) (i : ℕ) (s t : Span) → slice_get ss i ≡ Some s → test s ≡ false →
    test t ≡ false → IsListing test ss ids →
    IsListing test (set ss i t) ids
stands test ss ids i s t e fails fails' h =
    let R = IsSooner ss in
    let other : (j : ℕ) → Contains ids j → j ≢ i = λ j among. not_listed test ss ids i j s e fails h among in
    record {
      here = λ j among. let (v, f, p) = h.here j among in (v, set_other ss i j t (other j among) ∙ f, p);
      all = λ j v f p. elim (set_parts ss i j s t v e f) [
        | inl same ↦ absurd (both_ways _ fails' (subst (λ z. test z ≡ true) same.1 p))
        | inr old ↦ h.all j v old.1 p
      ];
      order = pairs_give R (IsSooner (set ss i t)) ids h.order
          (λ j k first second sooner. still_sooner ss i j k t (other j first) (other k second) sooner);
      many =
          let b = count_set test ss i s t e in
          let c : one_if (test s) ≡ 0 = ap one_if fails in
          let d : one_if (test t) ≡ 0 = ap one_if fails' in
          let m = h.many in
          omega arith;
    }

-- a new span at the end doesn't pass
old_or_new : (ss : List Span) (j : ℕ) (s v : Span) → slice_get (ss ++ s ∷ []) j ≡ Some v → (slice_get ss j ≡ Some v) ⊎ (v ≡ s)
old_or_new [] zero s v e = inr (sym (of_some s v e))
old_or_new [] (suc j) s v e = absurd (not_some v e)
old_or_new (u ∷ ss) zero s v e = inl e
old_or_new (u ∷ ss) (suc j) s v e = old_or_new ss j s v e

pub stays : (test : Span → Bool) (ss : List Span) (ids : List ℕ) (s : Span) → test s ≡ false → IsListing test ss ids →
    IsListing test (ss ++ s ∷ []) ids
stays test ss ids s fails h = record {
  here = λ j among. let (v, f, p) = h.here j among in (v, slice_get_more ss (s ∷ []) j v f, p);
  all = λ j v f p. elim (old_or_new ss j s v f) [
    | inl old ↦ h.all j v old p
    | inr new ↦ absurd (both_ways _ fails (subst (λ z. test z ≡ true) new p))
  ];
  order = pairs_give (IsSooner ss) (IsSooner (ss ++ s ∷ [])) ids h.order (λ j k first second sooner v w f g.
      let (u, e, p) = h.here j first in
      let (x, e', p') = h.here k second in
      let same = ap (λ (z : Span). z.turn) (of_some u v (sym (slice_get_more ss (s ∷ []) j u e) ∙ f)) in
      let same' = ap (λ (z : Span). z.turn) (of_some x w (sym (slice_get_more ss (s ∷ []) k x e') ∙ g)) in
      let less = sooner u x e e' in
      omega arith);
  many =
      let a = sum_by_push (λ (z : Span). one_if (test z)) ss s in
      let c : one_if (test s) ≡ 0 = ap one_if fails in
      let m = h.many in
      omega arith;
}

-- where a member stands
pub place_of : (ss : List Span) (s : Span) → Contains ss s → (j : ℕ) × (slice_get ss j ≡ Some s)
place_of [] s among = absurd (not_in_none s among)
place_of (u ∷ ss) s among = elim (in_cases u s ss among) [
  | inl e ↦ (0, ap Some e)
  | inr rest ↦ let (j, e) = place_of ss s rest in (suc j, e)
]

-- the first that is listed has the least turn
pub first_is_earliest : (test : Span → Bool) (r : Root) (i : ℕ) (ids : List ℕ) (s : Span) → IsSound r → TestsUsed test r →
    IsListing test r.spans (i ∷ ids) → slice_get r.spans i ≡ Some s →
    slice_get r.spans i ≡ earliest test r.spans
first_is_earliest test r i ids s sound used h e =
    let (v, f, p) = h.here i (first_in i ids) in
    let same : v ≡ s = of_some v s (sym f ∙ e) in
    let passes = subst (λ z. test z ≡ true) same p in
    e
    ∙ sym (is_earliest test r s sound used (record {
      among = at_in r.spans i s e;
      passes = passes;
      least = λ t among good.
          let (j, g) = place_of r.spans t among in
          elim (in_cases i j ids (h.all j t g good)) [
            | inl here ↦ let k = ap (λ (z : Span). z.turn) (of_some s t (sym e ∙ ap (slice_get r.spans) here ∙ g)) in omega arith
            | inr later ↦ let less = pairs_head (IsSooner r.spans) i j ids h.order later s t e g in omega arith
          ];
    }))

none_by : (test : Span → Bool) (ss : List Span) (o : Option Span) → IsListing test ss [] → earliest test ss ≡ o → earliest test ss ≡ None
none_by test ss None h e = e
none_by test ss (Some s) h e =
    let k = earliest_is test ss s e in
    let (j, g) = place_of ss s k.among in
    absurd (not_in_none j (h.all j s g k.passes))

pub none_is_earliest : (test : Span → Bool) (ss : List Span) → IsListing test ss [] → earliest test ss ≡ None
none_is_earliest test ss h = none_by test ss (earliest test ss) h refl

-- none is listed of no spans
pub none_listed : (test : Span → Bool) → IsListing test [] []
none_listed test = record {
  here = λ i among. absurd (not_in_none i among);
  all = λ i s e p. absurd (not_some s e);
  order = pairs_none (IsSooner []);
  many = refl;
}

-- a span changed that passes before and after, with the same turn
old_turn : (ss : List Span) (i j : ℕ) (s t v : Span) → slice_get ss i ≡ Some s → t.turn ≡ s.turn → slice_get (set ss i t) j ≡ Some v →
    (u : Span) × (slice_get ss j ≡ Some u) × (u.turn ≡ v.turn)
old_turn ss i j s t v e same f = elim (set_parts ss i j s t v e f) [
  | inl here ↦ (s, ap (slice_get ss) here.0 ∙ e, sym same ∙ sym (ap (λ (z : Span). z.turn) here.1))
  | inr there ↦ (v, there.1, refl)
]

remains : (test : Span → Bool) (ss : List Span) (ids : List ℕ) (i : ℕ) (s t : Span) → slice_get ss i ≡ Some s → test s ≡ true →
    test t ≡ true → t.turn ≡ s.turn → IsListing test ss ids →
    IsListing test (set ss i t) ids
remains test ss ids i s t e passes passes' same h = record {
  here = λ j among. elim (cases_Bool (eqb j i)) [
    | inl hit ↦ (t, ap (slice_get (set ss i t)) (eqb-true j i hit) ∙ set_same ss i s t e, passes')
    | inr miss ↦ let (v, f, p) = h.here j among in (v, set_other ss i j t (eqb-false j i miss) ∙ f, p)
  ];
  all = λ j v f p. elim (set_parts ss i j s t v e f) [
    | inl here ↦ h.all j s (ap (slice_get ss) here.0 ∙ e) passes
    | inr there ↦ h.all j v there.1 p
  ];
  order = pairs_give (IsSooner ss) (IsSooner (set ss i t)) ids h.order (λ j k first second sooner v w f g.
      let (a, old, p) = old_turn ss i j s t v e same f in
      let (b, old', q) = old_turn ss i k s t w e same g in
      let less = sooner a b old old' in
      omega arith);
  many =
      let b = count_set test ss i s t e in
      let c : one_if (test s) ≡ 1 = ap one_if passes in
      let d : one_if (test t) ≡ 1 = ap one_if passes' in
      let m = h.many in
      omega arith;
}

-- a span changed that passes as before, with the same turn
pub alike : (test : Span → Bool) (ss : List Span) (ids : List ℕ) (i : ℕ) (s t : Span) → slice_get ss i ≡ Some s → test t ≡ test s
    → t.turn ≡ s.turn → IsListing test ss ids → IsListing test (set ss i t) ids
alike test ss ids i s t e same turn h = elim (cases_Bool (test s)) [
  | inl passes ↦ remains test ss ids i s t e passes (same ∙ passes) turn h
  | inr fails ↦ stands test ss ids i s t e fails (same ∙ fails) h
]

-- a span changed: the list is refiled
abbrev pub IsLast : (Span → Bool) → List Span → Span → Type 0
IsLast test ss t = (j : ℕ) (v : Span) → slice_get ss j ≡ Some v → test v ≡ true → v.turn < t.turn

pub refiled_by : (test : Span → Bool) (ss : List Span) (ids : List ℕ) (i : ℕ) (s t : Span) (was is : Bool) → slice_get ss i ≡ Some s →
    was ≡ test s → is ≡ test t →
    (was ≡ true → is ≡ true → t.turn ≡ s.turn) → (was ≡ false → is ≡ true → IsLast test ss t) → IsListing test ss ids →
    IsListing test (set ss i t) (refiled was is i ids)
refiled_by test ss ids i s t true true e a b same last h = remains test ss ids i s t e (sym a) (sym b) (same refl refl) h
refiled_by test ss ids i s t true false e a b same last h = leaves test ss ids i s t e (sym a) (sym b) h
refiled_by test ss ids i s t false true e a b same last h = enters test ss ids i s t e (sym a) (sym b) (last refl refl) h
refiled_by test ss ids i s t false false e a b same last h = stands test ss ids i s t e (sym a) (sym b) h

-- a listing is in the order of turns
pub listed_in_turn : (test : Span → Bool) (ss : List Span) (ids : List ℕ) → IsListing test ss ids → IsInTurn ss ids
listed_in_turn test ss ids h = record {
  within = λ i among. let (s, e, p) = h.here i among in slice_get_within ss i s e;
  order = h.order;
}

-- a list in the order of turns has no index twice
pub once_in_turn : (ss : List Span) (ids : List ℕ) → IsInTurn ss ids → AllPairs ◌≢◌ ids
once_in_turn ss ids h = pairs_give (IsSooner ss) ◌≢◌ ids h.order (λ j k first second sooner same.
    let (v, f) = element_at ss j (h.within j first) in
    not_sooner ss j v f (subst (λ z. IsSooner ss j z) (sym same) sooner))

-- if a list has no index twice, taking out its last index leaves just what comes before that
pub without_last : (i : ℕ) (ids : List ℕ) → AllPairs ◌≢◌ (ids ++ i ∷ []) → without_index i (ids ++ i ∷ []) ≡ ids
without_last i [] once = rw (eq-eqb i i refl) refl
without_last i (k ∷ ids) once = elim (cases_Bool (eqb k i)) [
  | inl hit ↦ absurd (pairs_head ◌≢◌ k i (ids ++ i ∷ []) once (Contains-push ids i) (eqb-true k i hit))
  | inr miss ↦ rw miss (ap (λ xs. k ∷ xs) (without_last i ids (pairs_tail ◌≢◌ k (ids ++ i ∷ []) once)))
]

-- the last of a list and its others
last_pair : (R : ℕ → ℕ → Type 0) (xs : List ℕ) (a b : ℕ) → AllPairs R xs → Contains xs a → slice_get xs (length xs - 1) ≡ Some b → (a ≡ b) ⊎
    R a b
last_pair R xs a b h (k, below, e) f = elim (cases_lt k (length xs - 1)) [
  | inl less ↦ inr (subst (λ z. R z b) e
      (subst (λ z. R (get_or xs k a) z) (get_or_from_slice_get xs (length xs - 1) b a f) (h k (length xs - 1) a less (omega arith))))
  | inr more ↦
      let same : k ≡ length xs - 1 = omega arith in
      inl (sym e ∙ ap (λ n. get_or xs n a) same ∙ get_or_from_slice_get xs (length xs - 1) b a f)
]

-- a span that is listed, and not before another that is, is the latest
pub listed_latest : (test : Span → Bool) (r : Root) (ids : List ℕ) (i : ℕ) → IsSound r → TestsUsed test r → IsListing test r.spans ids →
    Contains ids i →
    ((j : ℕ) → Contains ids j → (j ≡ i) ⊎ IsSooner r.spans j i) → slice_get r.spans i ≡ latest test r.spans
listed_latest test r ids i sound used h among last =
    let (s, e, passes) = h.here i among in
    e
    ∙ sym (is_latest test r s sound used (record {
      among = at_in r.spans i s e;
      passes = passes;
      most = λ t member good.
          let (j, g) = place_of r.spans t member in
          elim (last j (h.all j t g good)) [
            | inl here ↦ let k = ap (λ (z : Span). z.turn) (of_some s t (sym e ∙ ap (slice_get r.spans) (sym here) ∙ g)) in omega arith
            | inr sooner ↦ let less = sooner t s g e in omega arith
          ];
    }))

-- none is the latest if none is listed
none_latest_by : (test : Span → Bool) (ss : List Span) (o : Option Span) → IsListing test ss [] → latest test ss ≡ o → latest test ss ≡ None
none_latest_by test ss None h e = e
none_latest_by test ss (Some s) h e =
    let k = latest_is test ss s e in
    let (j, g) = place_of ss s k.among in
    absurd (not_in_none j (h.all j s g k.passes))

pub none_is_latest : (test : Span → Bool) (ss : List Span) → IsListing test ss [] → latest test ss ≡ None
none_is_latest test ss h = none_latest_by test ss (latest test ss) h refl

-- the last of a list is the latest
empty_by : (ids : List ℕ) → last_of ids ≡ None → ids ≡ []
empty_by [] e = refl
empty_by (k ∷ ids) e =
    absurd (not_some (get_or (k ∷ ids) (length ids) 0)
    (sym e ∙ sym (last_there (k ∷ ids) (length ids) (omega arith)) ∙ slice_get-get_or (k ∷ ids) (length ids) 0 (omega arith)))
  where
    last_there : (xs : List ℕ) (n : ℕ) → length xs ≡ n + 1 → slice_get xs n ≡ last_of xs
    last_there xs n e = ap (slice_get xs) (let f : n ≡ length xs - 1 = omega arith in f)

pub last_is_latest : (test : Span → Bool) (r : Root) (ids : List ℕ) (o : Option ℕ) → IsSound r → TestsUsed test r
    → IsListing test r.spans ids → o ≡ last_of ids → span_at r.spans o ≡ latest test r.spans
last_is_latest test r ids None sound used h e =
    sym (none_is_latest test r.spans (subst (λ xs. IsListing test r.spans xs) (empty_by ids (sym e)) h))
last_is_latest test r ids (Some i) sound used h e =
    listed_latest test r ids i sound used h (at_in ids (length ids - 1) i (sym e))
    (λ j among. last_pair (IsSooner r.spans) ids j i h.order among (sym e))

-- the last index of a listing, if it has one, is the index of a span
pub listed_within : (test : Span → Bool) (ss : List Span) (ids : List ℕ) (o : Option ℕ) → IsListing test ss ids → o ≡ last_of ids →
    IfSome o (λ at. at < length ss)
listed_within test ss ids None h e = tt
listed_within test ss ids (Some i) h e = let (s, f, p) = h.here i (at_in ids (length ids - 1) i (sym e)) in slice_get_within ss i s f
