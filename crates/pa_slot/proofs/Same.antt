-- The tests on titles and states distinguish them.
use Rattle.std.proofs.Common.{◌≡◌, ℕ, Bool, true, false, ◌&&◌, refl, ◌∙◌, ap, ◌⊎◌, inl, inr, eqb}
use Rattle.std.proofs.lemmas.Bool.Decides.{eqb_tells}
use Rattle.pa_slot.specs.declared.title.Title.{Title}
use Rattle.pa_slot.specs.declared.title.OwnState.{OwnState}
use Rattle.pa_slot.specs.declared.title.OwnState.TheVariants.{Clean, Dirty, Poisoned}
use Rattle.pa_slot.specs.Titles.{same_title, same_state}
use Rattle.pa_slot.specs.Holdings.{one}

abbrev title_with : ℕ → ℕ → ℕ → Title
title_with a b c = record { start = a; len = b; born = c }

pub title_is : (t u : Title) → t.start ≡ u.start → t.len ≡ u.len → t.born ≡ u.born → t ≡ u
title_is t u e f g =
    ap (λ a. title_with a t.len t.born) e ∙ (ap (λ b. title_with u.start b t.born) f ∙ ap (λ c. title_with u.start u.len c) g)

title_tells_by : (t u : Title) (a b c : Bool) → same_title t u ≡ (a && (b && c)) →
    ((a ≡ true) × (t.start ≡ u.start)) ⊎ ((a ≡ false) × (t.start ≡ u.start → ⊥)) →
    ((b ≡ true) × (t.len ≡ u.len)) ⊎ ((b ≡ false) × (t.len ≡ u.len → ⊥)) →
    ((c ≡ true) × (t.born ≡ u.born)) ⊎ ((c ≡ false) × (t.born ≡ u.born → ⊥)) →
    ((same_title t u ≡ true) × (t ≡ u)) ⊎ ((same_title t u ≡ false) × (t ≡ u → ⊥))
title_tells_by t u a b c e (inr n) q r = inr (rw (e, n.0) refl, λ s. n.1 (ap (λ (x : Title). x.start) s))
title_tells_by t u a b c e (inl y) (inr n) r = inr (rw (e, y.0, n.0) refl, λ s. n.1 (ap (λ (x : Title). x.len) s))
title_tells_by t u a b c e (inl y) (inl z) (inr n) = inr (rw (e, y.0, z.0, n.0) refl, λ s. n.1 (ap (λ (x : Title). x.born) s))
title_tells_by t u a b c e (inl y) (inl z) (inl w) = inl (rw (e, y.0, z.0, w.0) refl, title_is t u y.1 z.1 w.1)

-- the test is true exactly when the titles are one
pub title_tells : (t u : Title) → ((same_title t u ≡ true) × (t ≡ u)) ⊎ ((same_title t u ≡ false) × (t ≡ u → ⊥))
title_tells t u =
    title_tells_by t u (eqb t.start u.start) (eqb t.len u.len) (eqb t.born u.born) refl
    (eqb_tells t.start u.start) (eqb_tells t.len u.len) (eqb_tells t.born u.born)

pub state_tells : (a b : OwnState) → ((same_state a b ≡ true) × (a ≡ b)) ⊎ ((same_state a b ≡ false) × (a ≡ b → ⊥))
state_tells Clean Clean = inl (refl, refl)
state_tells Clean Dirty = inr (refl, λ e. cc)
state_tells Clean (Poisoned k) = inr (refl, λ e. cc)
state_tells Dirty Clean = inr (refl, λ e. cc)
state_tells Dirty Dirty = inl (refl, refl)
state_tells Dirty (Poisoned k) = inr (refl, λ e. cc)
state_tells (Poisoned j) Clean = inr (refl, λ e. cc)
state_tells (Poisoned j) Dirty = inr (refl, λ e. cc)
state_tells (Poisoned j) (Poisoned k) =
    elim (eqb_tells j k) [ inl y ↦ inl (y.0, ap Poisoned y.1) | inr n ↦ inr (n.0, λ e. n.1 cc) ]

-- the tests as numbers
pub title_one : (t u : Title) → ((one (same_title t u) ≡ 1) × (t ≡ u)) ⊎ ((one (same_title t u) ≡ 0) × (t ≡ u → ⊥))
title_one t u =
    elim (title_tells t u) [ inl y ↦ inl (ap one y.0, y.1) | inr n ↦ inr (ap one n.0, n.1) ]

-- a title is the same as itself
pub title_self : (t : Title) → same_title t t ≡ true
title_self t = elim (title_tells t t) [ inl y ↦ y.0 | inr n ↦ absurd (n.1 refl) ]

pub state_self : (a : OwnState) → same_state a a ≡ true
state_self a = elim (state_tells a a) [ inl y ↦ y.0 | inr n ↦ absurd (n.1 refl) ]
