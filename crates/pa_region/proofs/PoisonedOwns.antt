-- Which Owns are poisoned after a step of their view, and in views apart from a stake.
use Rattle.std.proofs.Common.{◌≡◌, ℕ, zero, suc, ◌+◌, ◌<◌, ◌≤◌, Bool, true, false, ◌&&◌, List, [], ◌∷◌, set, refl, sym, ◌∙◌, ap, arith, inl, inr, ltb}
use Rattle.std.specs.Prelude.{◌==◌, if◌then◌else◌}
use Rattle.std.specs.List.{sum_by}
use Rattle.std.proofs.lemmas.List.Sums.{sum_by-cons, sum_by-le-sum_by}
use Rattle.std.proofs.lemmas.Bool.{cases_Bool, true≢false, lt-ltb}
use mathlib.Core.Option.{some, some-injective, some-ne-none}
use lib.ListN.{get_elem?}
use Rattle.pa_slot.specs.declared.title.Title.{Title}
use Rattle.pa_slot.specs.declared.title.OwnState.{OwnState}
use Rattle.pa_slot.specs.declared.title.OwnState.TheVariants.{Clean, Dirty, Poisoned}
use Rattle.pa_slot.specs.declared.word.Step.{Step}
use Rattle.pa_slot.specs.declared.word.Step.TheVariants.{Issue, Copy, Reset, Free, Write}
use Rattle.pa_slot.specs.Count.{refs_of}
use Rattle.pa_slot.specs.Titles.{same_title, same_state}
use Rattle.pa_slot.specs.Holdings.{one}
use Rattle.pa_slot.proofs.Same.{title_tells}
use Rattle.pa_region.specs.declared.view.OwnTitle.{OwnTitle}
use Rattle.pa_region.specs.declared.view.View.{View}
use Rattle.pa_region.specs.Views.{own_of, own_as, stake_of}
use Rattle.pa_region.specs.Moves.{changed, without, is_own_of, busy, written, idle_if, HasHandle, moved}
use Rattle.pa_region.specs.Frees.{is_free}
use Rattle.pa_region.specs.Stores.{dirty}
use Rattle.pa_region.specs.Waiting.{is_poisoned, is_unclean, poisoned_of, poisoned_owns, unclean_of, poisoned_apart}
use Rattle.pa_region.proofs.Adding.{sum_set}
use Rattle.pa_region.proofs.Pieces.{found_title}

module _ {A : Type 0} where
  -- a sum in which a member that passes a test changes, and weighs the same
  pub sum_changed : (f : A → ℕ) (test : A → Bool) (change : A → A) (xs : List A) → ((x : A) → test x ≡ true → f (change x) ≡ f x) →
      sum_by f (changed test change xs) ≡ sum_by f xs
  sum_changed f test change [] same = refl
  sum_changed f test change (x ∷ xs) same = elim (cases_Bool (test x)) [
    | inl y ↦ let e = same x y in rw y (omega (arith, sum_by-cons f x xs, sum_by-cons f (change x) xs))
    | inr n ↦ let again = sum_changed f test change xs same in
        rw n (omega (arith, sum_by-cons f x xs, sum_by-cons f x (changed test change xs)))
  ]

  -- a change after which each changed member weighs no less leaves the sum no less
  pub sum_grows : (f : A → ℕ) (test : A → Bool) (change : A → A) (xs : List A) →
      ((j : ℕ) (x : A) → get_elem? xs j ≡ some x → test x ≡ true → f x ≤ f (change x)) →
      sum_by f xs ≤ sum_by f (changed test change xs)
  sum_grows f test change [] more = omega arith
  sum_grows f test change (x ∷ xs) more = elim (cases_Bool (test x)) [
    | inl y ↦ let e = more 0 x refl y in rw y (omega (arith, sum_by-cons f x xs, sum_by-cons f (change x) xs))
    | inr n ↦ let again = sum_grows f test change xs (λ j y at_j. more (suc j) y at_j) in
        rw n (omega (arith, sum_by-cons f x xs, sum_by-cons f x (changed test change xs)))
  ]

  -- leaving out a member that weighs nothing leaves the sum
  pub sum_without : (f : A → ℕ) (test : A → Bool) (xs : List A) → ((x : A) → test x ≡ true → f x ≡ 0) →
      sum_by f (without test xs) ≡ sum_by f xs
  sum_without f test [] none = refl
  sum_without f test (x ∷ xs) none = elim (cases_Bool (test x)) [
    | inl y ↦ let e = none x y in rw y (omega (arith, sum_by-cons f x xs))
    | inr n ↦ let again = sum_without f test xs none in rw n (omega (arith, sum_by-cons f x xs, sum_by-cons f x (without test xs)))
  ]

  -- between two sums there is at least what is between them at one member
  pub sum_gap : (f g : A → ℕ) (xs : List A) (i : ℕ) (x : A) → get_elem? xs i ≡ some x → ((y : A) → f y ≤ g y) →
      sum_by f xs + g x ≤ sum_by g xs + f x
  sum_gap f g [] i x at_i less = absurd (some-ne-none x (sym at_i))
  sum_gap f g (z ∷ zs) zero x at_i less =
      let a : f z ≡ f x = ap f (some-injective z x at_i) in
      let b : g z ≡ g x = ap g (some-injective z x at_i) in
      let rest = sum_by-le-sum_by f g zs less in
      omega (arith, sum_by-cons f z zs, sum_by-cons g z zs)
  sum_gap f g (z ∷ zs) (suc i) x at_i less =
      let again = sum_gap f g zs i x at_i less in
      let here = less z in
      omega (arith, sum_by-cons f z zs, sum_by-cons g z zs)

-- an Own of another title isn't the title's poisoned one
pub own_else : (t u : Title) (state : OwnState) (o : OwnTitle) → (t ≡ u → ⊥) → is_own_of t o ≡ true →
    one (same_title o.title u && is_poisoned state) ≡ 0
own_else t u state o ne here =
    let is = found_title t o.title here in
    elim (title_tells o.title u) [ inl y ↦ absurd (ne (sym is ∙ y.1)) | inr n ↦ rw n.0 refl ]

-- an Own that is clean or dirty isn't poisoned
unpoisoned : (t : Title) (os : List OwnTitle) →
    sum_by (λ (o : OwnTitle). one (same_title o.title t && same_state o.state Clean)) os + sum_by
    (λ (o : OwnTitle). one (same_title o.title t && same_state o.state Dirty)) os
    + sum_by (λ (o : OwnTitle). one (same_title o.title t && is_poisoned o.state)) os ≤ sum_by
    (λ (o : OwnTitle). one (same_title o.title t)) os
unpoisoned t [] = omega arith
unpoisoned t (o ∷ os) =
    let again = unpoisoned t os in
    let here = go (same_title o.title t) o.state in
    omega (
      arith,
      sum_by-cons (λ (x : OwnTitle). one (same_title x.title t && same_state x.state Clean)) o os,
      sum_by-cons (λ (x : OwnTitle). one (same_title x.title t && same_state x.state Dirty)) o os,
      sum_by-cons (λ (x : OwnTitle). one (same_title x.title t && is_poisoned x.state)) o os,
      sum_by-cons (λ (x : OwnTitle). one (same_title x.title t)) o os,
    )
  where
    go : (b : Bool) (a : OwnState) → one (b && same_state a Clean) + one (b && same_state a Dirty) + one (b && is_poisoned a) ≤ one b
    go true Clean = omega arith
    go true Dirty = omega arith
    go true (Poisoned j) = omega arith
    go false a = omega arith

-- the one Own of a title, if it is clean or dirty, isn't poisoned
pub none_poisoned : (v : View) (t : Title) → 0 < own_as v t Clean + own_as v t Dirty → own_of v t ≤ 1 → poisoned_of v t ≡ 0
none_poisoned v t unfrozen few = let all = unpoisoned t v.owns in omega arith

-- a poisoned Own stays one over a counted step of its view, but for a Free of its title
pub poisoned_moved : (step : Step) (t u : Title) (word : ℕ) (v : View) → HasHandle step t v → own_of v t ≤ 1 →
    (t ≡ u → is_free step ≡ false) →
    poisoned_of v u ≤ poisoned_of (moved step t word v) u
poisoned_moved Issue t u word v has few other =
    let new : OwnTitle = record { title = t; state = Clean; idle = true; sealed = false } in
    omega (arith, sum_by-cons (λ (o : OwnTitle). one (same_title o.title u && is_poisoned o.state)) new v.owns)
poisoned_moved Copy t u word v has few other =
    let e = sum_changed (λ (o : OwnTitle). one (same_title o.title u && is_poisoned o.state)) (is_own_of t) busy v.owns (λ o here. refl) in
    omega arith
poisoned_moved Reset t u word v has few other = omega arith
poisoned_moved Free t u word v has few other =
    let e = sum_without (λ (o : OwnTitle). one (same_title o.title u && is_poisoned o.state)) (is_own_of t) v.owns
    (λ o here. own_else t u o.state o (λ same. true≢false (other same)) here) in
    omega arith
poisoned_moved Write t u word v has few other = elim (title_tells t u) [
  | inl y ↦
      let none = none_poisoned v t has.1 few in
      let here : poisoned_of v u ≡ 0 = ap (poisoned_of v) (sym y.1) ∙ none in
      omega arith
  | inr n ↦
      let e = sum_changed (λ (o : OwnTitle). one (same_title o.title u && is_poisoned o.state)) (is_own_of t) written v.owns
      (λ o here. own_else t u Clean o n.1 here ∙ sym (own_else t u o.state o n.1 here)) in
      omega arith
]

-- a look changes no Own's title and state
pub looked_same : (f : Title → OwnState → ℕ) (t : Title) (word : ℕ) (os : List OwnTitle) →
    sum_by (λ (o : OwnTitle). f o.title o.state) (changed (is_own_of t) (idle_if word) os) ≡ sum_by (λ (o : OwnTitle). f o.title o.state) os
looked_same f t word os =
    sum_changed (λ (o : OwnTitle). f o.title o.state) (is_own_of t) (idle_if word) os (λ o here. go (refs_of word == 0) o)
  where
    go : (b : Bool) (o : OwnTitle) →
        f ((if b then record o { idle = true } else o).title) ((if b then record o { idle = true } else o).state) ≡ f o.title o.state
    go true o = refl
    go false o = refl

-- how many times a view that hasn't stake r has the title's Own poisoned
abbrev pub apart_of : Title → ℕ → View → ℕ
apart_of t r v = if ltb 0 (stake_of v r) then 0 else poisoned_of v t

-- after a change of one view that keeps its stakes, and its poisoned Own
pub apart_set : (views : List View) (i : ℕ) (v w : View) → get_elem? views i ≡ some v → ((k : ℕ) → stake_of w k ≡ stake_of v k) →
    (t : Title) (r : ℕ) →
    poisoned_of v t ≤ poisoned_of w t → poisoned_apart views t r ≤ poisoned_apart (set views i w) t r
apart_set views i v w at_i stakes t r grows =
    let c = sum_set (apart_of t r) views i v w at_i in
    let less : apart_of t r v ≤ apart_of t r w = elim (cases_Bool (ltb 0 (stake_of v r))) [
      | inl y ↦ rw (stakes r, y) (omega arith)
      | inr n ↦ rw (stakes r, n) grows
    ] in
    omega arith

-- an Own that is apart isn't more than the title's Own
apart_less : (t : Title) (r : ℕ) (v : View) → apart_of t r v ≤ own_of v t
apart_less t r v =
    let p = poisoned_less t v.owns in
    elim (cases_Bool (ltb 0 (stake_of v r))) [ inl y ↦ rw y (omega arith) | inr n ↦ rw n p ]
  where
    go : (a b : Bool) → one (a && b) ≤ one a
    go true true = omega arith
    go true false = omega arith
    go false b = omega arith

    poisoned_less : (t : Title) (os : List OwnTitle) →
        sum_by (λ (o : OwnTitle). one (same_title o.title t && is_poisoned o.state)) os ≤ sum_by
        (λ (o : OwnTitle). one (same_title o.title t)) os
    poisoned_less t os = sum_by-le-sum_by (λ (o : OwnTitle). one (same_title o.title t && is_poisoned o.state))
        (λ (o : OwnTitle). one (same_title o.title t)) os (λ o. go (same_title o.title t) (is_poisoned o.state))

-- if the one Own of a title is in a view that has stake r, none is poisoned apart from it
pub none_beside : (views : List View) (i : ℕ) (v : View) → get_elem? views i ≡ some v → (t : Title) (r : ℕ) →
    sum_by (λ u. own_of u t) views ≤ 1 → 0 < own_of v t →
    0 < stake_of v r → poisoned_apart views t r ≡ 0
none_beside views i v at_i t r few mine stake =
    let gap = sum_gap (apart_of t r) (λ u. own_of u t) views i v at_i (apart_less t r) in
    let here : apart_of t r v ≡ 0 = rw (lt-ltb 0 (stake_of v r) stake) refl in
    omega arith

-- a poisoned Own is an unclean one
pub poisoned_unclean : (u : View) (t : Title) → poisoned_of u t ≤ unclean_of u
poisoned_unclean u t = sum_by-le-sum_by (λ (o : OwnTitle). one (same_title o.title t && is_poisoned o.state))
    (λ (o : OwnTitle). one (is_unclean o.state)) u.owns
    (λ o. each (same_title o.title t) o.state)
  where
    each : (b : Bool) (a : OwnState) → one (b && is_poisoned a) ≤ one (is_unclean a)
    each true Clean = omega arith
    each true Dirty = omega arith
    each true (Poisoned j) = omega arith
    each false a = omega arith

-- an Own of the title that is poisoned is one of all that are, and none of these is clean
pub poisoned_within : (v : View) (t : Title) → poisoned_of v t ≤ poisoned_owns v
poisoned_within v t = sum_by-le-sum_by (λ (o : OwnTitle). one (same_title o.title t && is_poisoned o.state))
    (λ (o : OwnTitle). one (is_poisoned o.state)) v.owns
    (λ o. second (same_title o.title t) (is_poisoned o.state))
  where
    second : (a b : Bool) → one (a && b) ≤ one b
    second true b = omega arith
    second false b = omega arith

pub poisoned_owns_unclean : (v : View) → unclean_of v ≡ 0 → poisoned_owns v ≡ 0
poisoned_owns_unclean v clean =
    let l = sum_by-le-sum_by (λ (o : OwnTitle). one (is_poisoned o.state)) (λ (o : OwnTitle). one (is_unclean o.state)) v.owns
    (λ o. each o.state) in omega arith
  where
    each : (a : OwnState) → one (is_poisoned a) ≤ one (is_unclean a)
    each Clean = omega arith
    each Dirty = omega arith
    each (Poisoned j) = omega arith

-- an Own that becomes dirty isn't poisoned then
pub dirty_poisoned : (test : OwnTitle → Bool) (t : Title) (os : List OwnTitle) →
    sum_by (λ (o : OwnTitle). one (same_title o.title t && is_poisoned o.state)) (changed test dirty os)
    ≤ sum_by (λ (o : OwnTitle). one (same_title o.title t && is_poisoned o.state)) os
dirty_poisoned test t [] = omega arith
dirty_poisoned test t (o ∷ os) = elim (cases_Bool (test o)) [
  | inl y ↦
      let z : one (same_title o.title t && false) ≡ 0 = none (same_title o.title t) in
      rw y (omega (
        arith,
        sum_by-cons (λ (x : OwnTitle). one (same_title x.title t && is_poisoned x.state)) o os,
        sum_by-cons (λ (x : OwnTitle). one (same_title x.title t && is_poisoned x.state)) (dirty o) os,
      ))
  | inr n ↦
      let again = dirty_poisoned test t os in
      rw n (omega (
        arith,
        sum_by-cons (λ (x : OwnTitle). one (same_title x.title t && is_poisoned x.state)) o os,
        sum_by-cons (λ (x : OwnTitle). one (same_title x.title t && is_poisoned x.state)) o (changed test dirty os),
      ))
]
  where
    none : (b : Bool) → one (b && false) ≡ 0
    none true = refl
    none false = refl
