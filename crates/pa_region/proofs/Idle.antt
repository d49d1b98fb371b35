-- What views know of counts that are 0, after a step.
use Rattle.std.proofs.Common.{◌≡◌, ℕ, ◌+◌, ◌<◌, ◌≤◌, Bool, true, false, ◌&&◌, List, [], ◌∷◌, set, refl, sym, ◌∙◌, ap, arith, ◌⊎◌, inl, inr}
use Rattle.std.specs.Prelude.{not, ◌==◌, ◌||◌, if◌then◌else◌}
use Rattle.std.specs.List.{sum_by}
use Rattle.std.proofs.lemmas.List.Sums.{sum_by-cons, sum_by-le-sum_by}
use Rattle.std.proofs.lemmas.Bool.Decides.{eqb_tells}
use mathlib.Core.Option.{some}
use lib.ListN.{get_elem?}
use Rattle.pa_slot.specs.declared.title.Title.{Title}
use Rattle.pa_slot.specs.declared.title.OwnState.TheVariants.{Clean}
use Rattle.pa_slot.specs.declared.word.Step.{Step}
use Rattle.pa_slot.specs.declared.word.Step.TheVariants.{Issue, Copy, Reset, Free, Write}
use Rattle.pa_slot.specs.Count.{refs_of}
use Rattle.pa_slot.specs.Titles.{same_title, same_state}
use Rattle.pa_slot.specs.Holdings.{OwnOf, one}
use Rattle.pa_machine.specs.Events.{total_of}
use Rattle.pa_slot.proofs.Same.{title_tells}
use Rattle.pa_region.specs.declared.view.OwnTitle.{OwnTitle}
use Rattle.pa_region.specs.declared.view.View.{View}
use Rattle.pa_region.specs.Views.{own_of, unsealed_as, idle_of, idle_in, held_of_view, shown}
use Rattle.pa_region.specs.Moves.{changed, without, is_own_of, moved, busy, written, idle_if}
use Rattle.pa_region.proofs.Adding.{one_and, one_small, one_less, one_split, sum_set, sum_part, sum_split, first_of}
use Rattle.pa_region.proofs.Pieces.{HasPiece, owns_have, own_as_own, sealed_or_not, found_title, total_sum}

-- an Own counts as idle, or as busy
abbrev idle_own : Title → OwnTitle → ℕ
idle_own t o = one (same_title o.title t && (o.idle || o.sealed))

-- an Own of the title that isn't known to have no Ref
abbrev busy_own : Title → OwnTitle → ℕ
busy_own t o = one (same_title o.title t && (if o.idle || o.sealed then false else true))

-- how many of them a view has
abbrev busy_of : View → Title → ℕ
busy_of v t = sum_by (busy_own t) v.owns

-- a change of an Own of the title changes nothing of what is known of another
pub idle_other : (t u : Title) (change : OwnTitle → OwnTitle) (os : List OwnTitle) → (t ≡ u → ⊥) →
    ((o : OwnTitle) → (change o).title ≡ o.title) →
    sum_by (idle_own u) (changed (is_own_of t) change os) ≡ sum_by (idle_own u) os
idle_other t u change [] ne keeps = refl
idle_other t u change (o ∷ os) ne keeps = go (is_own_of t o) refl (idle_other t u change os ne keeps)
  where
    none : (p : OwnTitle) → p.title ≡ t → idle_own u p ≡ 0
    none p e = elim (title_tells p.title u) [ inl y ↦ absurd (ne (sym e ∙ y.1)) | inr n ↦ rw n.0 refl ]

    go : (b : Bool) → is_own_of t o ≡ b → sum_by (idle_own u) (changed (is_own_of t) change os) ≡ sum_by (idle_own u) os →
        sum_by (idle_own u) (if b then change o ∷ os else o ∷ changed (is_own_of t) change os) ≡ sum_by (idle_own u) (o ∷ os)
    go true e again =
        let is_t = found_title t o.title e in
        let a = none o is_t in
        let b = none (change o) (keeps o ∙ is_t) in
        omega (arith, sum_by-cons (idle_own u) (change o) os, sum_by-cons (idle_own u) o os)
    go false e again =
        omega (arith, sum_by-cons (idle_own u) o (changed (is_own_of t) change os), sum_by-cons (idle_own u) o os)

-- a counted step changes nothing of what its view knows of another title
pub moved_idle_other : (step : Step) (t u : Title) (word : ℕ) (v : View) → (t ≡ u → ⊥) → HasPiece step t v →
    idle_of (moved step t word v) u ≡ idle_of v u
moved_idle_other Issue t u word v ne has =
    elim (title_tells t u) [
      | inl y ↦ absurd (ne y.1)
      | inr n ↦
          let new : OwnTitle = record { title = t; state = Clean; idle = true; sealed = false } in
          let z : idle_own u new ≡ 0 = rw n.0 refl in
          omega (arith, sum_by-cons (idle_own u) new v.owns)
    ]
moved_idle_other Copy t u word v ne has = idle_other t u busy v.owns ne (λ o. refl)
moved_idle_other Reset t u word v ne has = refl
moved_idle_other Free t u word v ne has =
    let e = owns_have v t in
    let first = first_of (is_own_of t) v.owns (omega arith) in
    let c = first.1.left_out (idle_own u) in
    let is_t = found_title t first.0.title first.1.passes in
    let z : idle_own u first.0 ≡ 0 = elim (title_tells first.0.title u) [ inl y ↦ absurd (ne (sym is_t ∙ y.1)) | inr n ↦ rw n.0 refl ] in
    omega arith
moved_idle_other Write t u word v ne has = idle_other t u written v.owns ne (λ o. refl)

-- a look changes nothing of what its view knows of another title
pub look_idle_other : (t u : Title) (word : ℕ) (os : List OwnTitle) → (t ≡ u → ⊥) →
    sum_by (idle_own u) (changed (is_own_of t) (idle_if word) os) ≡ sum_by (idle_own u) os
look_idle_other t u word os ne = idle_other t u (idle_if word) os ne (λ o. go (refs_of word == 0) o)
  where
    go : (b : Bool) (o : OwnTitle) → (if b then record o { idle = true } else o).title ≡ o.title
    go true o = refl
    go false o = refl

-- a look that found another count than 0 learns nothing
pub look_idle_none : (t : Title) (word : ℕ) (os : List OwnTitle) → (refs_of word ≡ 0 → ⊥) → changed (is_own_of t) (idle_if word) os ≡ os
look_idle_none t word [] ne = refl
look_idle_none t word (o ∷ os) ne = go (is_own_of t o) (look_idle_none t word os ne)
  where
    same : idle_if word o ≡ o
    same = elim (eqb_tells (refs_of word) 0) [ inl y ↦ absurd (ne y.1) | inr n ↦ rw n.0 refl ]

    go : (b : Bool) → changed (is_own_of t) (idle_if word) os ≡ os →
        (if b then idle_if word o ∷ os else o ∷ changed (is_own_of t) (idle_if word) os) ≡ o ∷ os
    go true again = ap (λ p. p ∷ os) same
    go false again = ap (λ ps. o ∷ ps) again

-- what a view knows is known of Owns that it has
pub idle_part : (v : View) (t : Title) → idle_of v t ≤ held_of_view v (OwnOf t)
idle_part v t =
    let e = owns_have v t in
    let l = sum_by-le-sum_by (idle_own t) (λ (o : OwnTitle). one (is_own_of t o)) v.owns
    (λ o. one_and (same_title o.title t) (o.idle || o.sealed)) in
    omega arith

-- what all views know of Refs that are left is within the Owns of the title
pub idle_within : (words : List ℕ) (views : List View) (t : Title) → idle_in views t ≤ total_of (shown words views) (OwnOf t)
idle_within words views t =
    let s = total_sum words views (OwnOf t) in
    let l = sum_by-le-sum_by (λ v. idle_of v t) (λ v. held_of_view v (OwnOf t)) views (λ v. idle_part v t) in
    omega arith

-- all Owns of a title are idle or busy
busy_split : (words : List ℕ) (views : List View) (t : Title) →
    idle_in views t + sum_by (λ v. busy_of v t) views ≡ total_of (shown words views) (OwnOf t)
busy_split words views t =
    let s = total_sum words views (OwnOf t) in
    let l = sum_split (λ v. idle_of v t) (λ v. busy_of v t) (λ v. held_of_view v (OwnOf t)) views each in
    omega arith
  where
    each : (v : View) → idle_of v t + busy_of v t ≡ held_of_view v (OwnOf t)
    each v =
        let e = owns_have v t in
        let s = sum_split (idle_own t) (busy_own t) (λ (o : OwnTitle). one (is_own_of t o)) v.owns
        (λ o. one_split (same_title o.title t) (o.idle || o.sealed)) in
        omega arith

-- if a view has one Own of the title, which isn't sealed, a copy marks it busy
busy_there : (v : View) (t : Title) → 0 < unsealed_as v t Clean → own_of v t ≤ 1 →
    0 < sum_by (busy_own t) (changed (is_own_of t) busy v.owns)
busy_there v t has few =
    let some = (sealed_or_not v t Clean).0 in
    let own = own_as_own v t Clean in
    let first = first_of (is_own_of t) v.owns (omega arith) in
    let mine : one (is_own_of t first.0) ≡ 1 = ap one first.1.passes in
    let here = first.1.left_out (λ (o : OwnTitle). one ((same_title o.title t && same_state o.state Clean) && not o.sealed)) in
    let all = first.1.left_out (λ (o : OwnTitle). one (is_own_of t o)) in
    let rest = sum_by-le-sum_by (λ (o : OwnTitle). one ((same_title o.title t && same_state o.state Clean) && not o.sealed))
    (λ (o : OwnTitle). one (is_own_of t o)) (without (is_own_of t) v.owns)
    (λ o. both_within (same_title o.title t) (same_state o.state Clean) (not o.sealed)) in
    let c = first.1.replaced busy (busy_own t) in
    let within = first.1.left_out (busy_own t) in
    let is : first.0.sealed ≡ false =
    unsealed (same_title first.0.title t && same_state first.0.state Clean) first.0.sealed (omega arith) in
    let z : busy_own t (busy first.0) ≡ 1 = rw (first.1.passes, is) refl in
    omega arith
  where
    both_within : (b c d : Bool) → one ((b && c) && d) ≤ one b
    both_within true true d = one_small d
    both_within true false d = omega arith
    both_within false c d = omega arith

    unsealed : (b c : Bool) → 0 < one (b && not c) → c ≡ false
    unsealed true true h = absurd (omega arith)
    unsealed false true h = absurd (omega arith)
    unsealed b false h = refl

-- by a copy a view comes to know of no Own that it has no Ref
busy_less : (t : Title) (os : List OwnTitle) → sum_by (idle_own t) (changed (is_own_of t) busy os) ≤ sum_by (idle_own t) os
busy_less t [] = omega arith
busy_less t (o ∷ os) = go (is_own_of t o) (busy_less t os)
  where
    go : (b : Bool) → sum_by (idle_own t) (changed (is_own_of t) busy os) ≤ sum_by (idle_own t) os →
        sum_by (idle_own t) (if b then busy o ∷ os else o ∷ changed (is_own_of t) busy os) ≤ sum_by (idle_own t) (o ∷ os)
    go true again =
        let l = one_less (same_title o.title t) o.idle o.sealed in
        omega (arith, sum_by-cons (idle_own t) (busy o) os, sum_by-cons (idle_own t) o os)
    go false again = omega (arith, sum_by-cons (idle_own t) o (changed (is_own_of t) busy os), sum_by-cons (idle_own t) o os)

-- After a copy no view knows that the count is 0: the view that has the Own, which isn't sealed, has marked it, and if it copies a
-- Ref, none knew it before.
pub copy_idle : (words : List ℕ) (views : List View) (i : ℕ) (t : Title) (word : ℕ) (v w : View) → get_elem? views i ≡ some v →
    w.owns ≡ changed (is_own_of t) busy v.owns → total_of (shown words (set views i w)) (OwnOf t) ≤ 1 → own_of v t ≤ 1 →
    (0 < unsealed_as v t Clean) ⊎ (idle_in views t ≡ 0) → idle_in (set views i w) t ≡ 0
copy_idle words views i t word v w at_i owns few few_here (inl own) =
    let b = busy_split words (set views i w) t in
    let mine : 0 < busy_of w t = rw owns (busy_there v t own few_here) in
    let d = sum_set (λ u. busy_of u t) views i v w at_i in
    let p = sum_part (λ u. busy_of u t) views i v at_i in
    omega arith
copy_idle words views i t word v w at_i owns few few_here (inr none) =
    let c = sum_set (λ u. idle_of u t) views i v w at_i in
    let p = sum_part (λ u. idle_of u t) views i v at_i in
    let less : idle_of w t ≤ idle_of v t = rw owns (busy_less t v.owns) in
    omega arith
