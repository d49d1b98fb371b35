-- The ring of empty spans: what stays in it, and in which order.
use Rattle.std.proofs.Common.{◌≡◌, ℕ, inl, inr, true, false, not, ◌==◌, List, [], ◌∷◌, refl, sym, ap, ◌∙◌, length, ◌≤◌, arith}
use Rattle.std.specs.Prelude.{All, AllPairs, Contains}
use Rattle.std.proofs.lemmas.Bool.Decides.{eqb_tells}
use Rattle.std.proofs.lemmas.List.Elements.{All-push, Contains-append_left, Contains-push}
use Rattle.std.proofs.lemmas.List.Kept.{AllPairs-filter}
use Rattle.std.proofs.lemmas.List.Quantifiers.{all_pairs_push}
use Rattle.std.proofs.lemmas.List.Sums.{length-filter, count_by-le-length}
use Rattle.pa_lists.proofs.Joined.{filter_cases, filter_in}
use Rattle.pa_buckets.specs.declared.spans.State.{State}
use Rattle.pa_buckets.specs.declared.spans.State.TheVariants as state
use Rattle.pa_spans.specs.Lists.{ring_without, ring_with}

-- what is in the ring after a span left it: the others
not_same : (u at : ℕ) → (u ≡ at → ⊥) → not (u == at) ≡ true
not_same u at never = elim (eqb_tells u at) [
  | inl w ↦ absurd (never w.1)
  | inr w ↦ ap not w.0
]

not_it : (u at : ℕ) → not (u == at) ≡ true → u ≡ at → ⊥
not_it u at passes e = elim (eqb_tells u at) [
  | inl w ↦ let b : false ≡ true = sym (ap not w.0) ∙ passes in cc
  | inr w ↦ w.1 e
]

pub stays_in : (at : ℕ) (a : State) (ring : List ℕ) (u : ℕ) → (u ≡ at → ⊥) → Contains ring u → Contains (ring_without at a ring) u
stays_in at state.Empty ring u never among = filter_in (λ v. not (v == at)) ring u among (not_same u at never)
stays_in at a ring u never among = among

-- a member of a ring without one place was in it, if all its members are in the state Empty
pub was_in : (at : ℕ) (a : State) (ring : List ℕ) (state_at : ℕ → State) → state_at at ≡ a →
    ((v : ℕ) → Contains ring v → state_at v ≡ state.Empty) → (u : ℕ) → Contains (ring_without at a ring) u → Contains ring u × (u ≡ at → ⊥)
was_in at state.Empty ring state_at is members u among =
    let two = filter_cases (λ v. not (v == at)) ring u among in (two.0, not_it u at two.1)
was_in at state.None ring state_at is members u among = (among, λ e. let b = sym is ∙ (ap state_at (sym e) ∙ members u among) in cc)
was_in at state.Active ring state_at is members u among = (among, λ e. let b = sym is ∙ (ap state_at (sym e) ∙ members u among) in cc)
was_in at state.Decommitted ring state_at is members u among = (among, λ e. let b = sym is ∙ (ap state_at (sym e) ∙ members u among) in cc)
was_in at state.Full ring state_at is members u among = (among, λ e. let b = sym is ∙ (ap state_at (sym e) ∙ members u among) in cc)

pub rises_without : (R : ℕ → ℕ → Type 0) (at : ℕ) (a : State) (ring : List ℕ) → AllPairs R ring → AllPairs R (ring_without at a ring)
rises_without R at state.Empty ring rise = AllPairs-filter R (λ v. not (v == at)) ring rise
rises_without R at a ring rise = rise

-- a ring with one more at its end
pub comes_in : (at : ℕ) (a : State) (ring : List ℕ) → a ≡ state.Empty → Contains (ring_with at a ring) at
comes_in at state.Empty ring e = Contains-push ring at
comes_in at a ring e = absurd (cc)

pub is_still_in : (at : ℕ) (a : State) (ring : List ℕ) (u : ℕ) → Contains ring u → Contains (ring_with at a ring) u
is_still_in at state.Empty ring u among = Contains-append_left ring (at ∷ []) u among
is_still_in at a ring u among = among

pub all_with : (P : ℕ → Type 0) (at : ℕ) (a : State) (ring : List ℕ) → All P ring → (a ≡ state.Empty → P at) → All P (ring_with at a ring)
all_with P at state.Empty ring all one = All-push P ring at all (one refl)
all_with P at a ring all one = all

pub rises_with : (R : ℕ → ℕ → Type 0) (at : ℕ) (a : State) (ring : List ℕ) → AllPairs R ring → All (λ u. R u at) ring →
    AllPairs R (ring_with at a ring)
rises_with R at state.Empty ring rise below = all_pairs_push R ring at rise below
rises_with R at a ring rise below = rise

-- a ring without a member is no longer
pub ring_shrinks : (at : ℕ) (a : State) (ring : List ℕ) → length (ring_without at a ring) ≤ length ring
ring_shrinks at state.None ring = omega arith
ring_shrinks at state.Active ring = omega arith
ring_shrinks at state.Empty ring = omega (arith, length-filter (λ u. not (u == at)) ring, count_by-le-length (λ u. not (u == at)) ring)
ring_shrinks at state.Decommitted ring = omega arith
ring_shrinks at state.Full ring = omega arith
