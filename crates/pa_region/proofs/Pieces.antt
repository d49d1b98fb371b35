-- What a view holds, kind by kind, and what all views hold when one of them changes.
use Rattle.std.proofs.Common.{◌≡◌, ℕ, ◌+◌, ◌<◌, ◌≤◌, Bool, true, false, ◌&&◌, List, [], ◌∷◌, ◌++◌, map, set, refl, sym, ◌∙◌, ap, arith, inl, inr}
use Rattle.std.specs.Prelude.{if◌then◌else◌, not, ◌||◌}
use Rattle.std.specs.List.{sum_by}
use Rattle.std.proofs.lemmas.List.Sums.{sum_by-cons, sum_by-append, sum_by-le-sum_by}
use Rattle.std.proofs.lemmas.Bool.{true≢false}
use mathlib.Core.Option.{some}
use lib.ListN.{get_elem?}
use Rattle.pa_slot.specs.declared.title.Title.{Title}
use Rattle.pa_slot.specs.declared.title.OwnState.{OwnState}
use Rattle.pa_slot.specs.declared.title.OwnState.TheVariants.{Clean, Poisoned}
use Rattle.pa_slot.specs.declared.word.Step.{Step}
use Rattle.pa_slot.specs.declared.word.Step.TheVariants.{Issue, Copy, Reset, Free, Write}
use Rattle.pa_slot.specs.Count.{stepped}
use Rattle.pa_slot.specs.Titles.{same_title, same_state, content_count}
use Rattle.pa_slot.specs.Holdings.{Piece, FreePiece, OwnPiece, RefPiece, Thing, FreeTitle, OwnOf, OwnAs, SealedOwn, RefOf, one, amount, held_in, IsTitleHeld}
use Rattle.pa_machine.specs.Events.{returned_at, total_of}
use Rattle.pa_slot.proofs.Same.{title_tells, state_self}
use Rattle.pa_machine.proofs.Parts.{Changes}
use Rattle.pa_region.specs.declared.view.RawRange.{RawRange}
use Rattle.pa_region.specs.declared.view.OwnTitle.{OwnTitle}
use Rattle.pa_region.specs.declared.view.View.{View}
use Rattle.pa_region.specs.Views.{raw_piece, own_piece, pieces_of, held_of_view, free_of, own_of, own_as, unsealed_as, sealed_of, ref_of, HasTitle, shown, idle_of}
use Rattle.pa_region.specs.Moves.{changed, without, is_title_of, is_own_of, is_back, HasHandle, moved, busy, written}
use Rattle.pa_region.proofs.Adding.{IsFirst, sum_set, sum_part, sum_map, sum_none, sum_split, first_of, one_and, one_small, one_less}

-- how many times a view holds a thing, by the four lists of its holdings
abbrev pub raw_sum : View → Thing → ℕ
raw_sum v x = sum_by (λ r. amount x (raw_piece r)) v.raws

-- by its free titles
abbrev pub frees_sum : List Title → Thing → ℕ
frees_sum fs x = sum_by (λ t. amount x (FreePiece t)) fs

-- by its Owns
abbrev pub owns_sum : List OwnTitle → Thing → ℕ
owns_sum os x = sum_by (λ o. amount x (own_piece o)) os

-- by its Refs
abbrev pub refs_sum : List Title → Thing → ℕ
refs_sum ts x = sum_by (λ t. amount x (RefPiece t)) ts

-- what a view holds is the sum of the four
pub held_split : (v : View) (x : Thing) → held_of_view v x ≡ raw_sum v x + frees_sum v.frees x + owns_sum v.owns x + refs_sum v.refs x
held_split v x =
    let rest1 = map own_piece v.owns ++ map RefPiece v.refs in
    let rest2 = map FreePiece v.frees ++ rest1 in
    let a = sum_by-append (amount x) (map raw_piece v.raws) rest2 in
    let b = sum_by-append (amount x) (map FreePiece v.frees) rest1 in
    let c = sum_by-append (amount x) (map own_piece v.owns) (map RefPiece v.refs) in
    let d = sum_map (amount x) raw_piece v.raws in
    let e = sum_map (amount x) FreePiece v.frees in
    let f = sum_map (amount x) own_piece v.owns in
    let g = sum_map (amount x) RefPiece v.refs in
    omega arith

-- the titles that a view holds are in its lists
pub frees_have : (v : View) (t : Title) → held_of_view v (FreeTitle t) ≡ free_of v t
frees_have v t =
    let s = held_split v (FreeTitle t) in
    let a = sum_none (λ (r : RawRange). amount (FreeTitle t) (raw_piece r)) v.raws (λ r. refl) in
    let b = sum_none (λ (o : OwnTitle). amount (FreeTitle t) (own_piece o)) v.owns (λ o. refl) in
    let c = sum_none (λ (u : Title). amount (FreeTitle t) (RefPiece u)) v.refs (λ u. refl) in
    omega arith

-- the Owns
pub owns_have : (v : View) (t : Title) → held_of_view v (OwnOf t) ≡ own_of v t
owns_have v t =
    let s = held_split v (OwnOf t) in
    let a = sum_none (λ (r : RawRange). amount (OwnOf t) (raw_piece r)) v.raws (λ r. refl) in
    let b = sum_none (λ (u : Title). amount (OwnOf t) (FreePiece u)) v.frees (λ o. refl) in
    let c = sum_none (λ (u : Title). amount (OwnOf t) (RefPiece u)) v.refs (λ u. refl) in
    omega arith

-- the Refs of a view are those of its pieces
pub refs_have : (v : View) (t : Title) → held_of_view v (RefOf t) ≡ ref_of v t
refs_have v t =
    let s = held_split v (RefOf t) in
    let a = sum_none (λ (r : RawRange). amount (RefOf t) (raw_piece r)) v.raws (λ r. refl) in
    let b = sum_none (λ (u : Title). amount (RefOf t) (FreePiece u)) v.frees (λ o. refl) in
    let c = sum_none (λ (o : OwnTitle). amount (RefOf t) (own_piece o)) v.owns (λ u. refl) in
    omega arith

-- the sealed Owns
pub seals_have : (v : View) (t : Title) → held_of_view v (SealedOwn t) ≡ sealed_of v t
seals_have v t =
    let s = held_split v (SealedOwn t) in
    let a = sum_none (λ (r : RawRange). amount (SealedOwn t) (raw_piece r)) v.raws (λ r. refl) in
    let b = sum_none (λ (u : Title). amount (SealedOwn t) (FreePiece u)) v.frees (λ o. refl) in
    let c = sum_none (λ (u : Title). amount (SealedOwn t) (RefPiece u)) v.refs (λ u. refl) in
    omega arith

-- a view holds a title as the core says it
pub title_held : (v : View) (t : Title) → HasTitle v t → IsTitleHeld (held_of_view v) t
title_held v t h =
    let f = frees_have v t in let o = owns_have v t in let r = refs_have v t in
    omega arith

-- a title that a view's pieces hold is one that the view has
pub held_title : (v : View) (t : Title) → IsTitleHeld (held_of_view v) t → HasTitle v t
held_title v t h =
    let f = frees_have v t in let o = owns_have v t in let r = refs_have v t in
    omega arith

-- a test that is passed finds the title
pub found_title : (t u : Title) → same_title u t ≡ true → u ≡ t
found_title t u e = elim (title_tells u t) [ inl y ↦ y.1 | inr n ↦ absurd (true≢false (sym e ∙ n.0)) ]

-- what a view holds, summed over all views, and after a change of one
pub total_sum : (words : List ℕ) (views : List View) (x : Thing) → total_of (shown words views) x ≡ sum_by (λ v. held_of_view v x) views
total_sum words views x = sum_map (λ ps. held_in ps x) pieces_of views

-- what all hold after a change of one view
pub total_set : (words after : List ℕ) (views : List View) (i : ℕ) (v w : View) → get_elem? views i ≡ some v → (x : Thing) →
    total_of (shown after (set views i w)) x + held_of_view v x ≡ total_of (shown words views) x + held_of_view w x
total_set words after views i v w at_i x =
    let a = total_sum after (set views i w) x in
    let b = total_sum words views x in
    let c = sum_set (λ u. held_of_view u x) views i v w at_i in
    omega arith

-- what one view holds is within what all hold
pub held_within : (words : List ℕ) (views : List View) (i : ℕ) (v : View) → get_elem? views i ≡ some v → (x : Thing) →
    held_of_view v x ≤ total_of (shown words views) x
held_within words views i v at_i x =
    let b = total_sum words views x in
    let c = sum_part (λ u. held_of_view u x) views i v at_i in
    omega arith

-- what a counted step that leaves this word takes from its view: an Own is in this state, and sealed if the Boolean is true
abbrev pub lost_by : Step → Title → Bool → OwnState → List Piece
lost_by Issue t sealed a = FreePiece t ∷ []
lost_by Copy t sealed a = []
lost_by Reset t sealed a = RefPiece t ∷ []
lost_by Free t sealed a = OwnPiece sealed t a ∷ []
lost_by Write t sealed a = OwnPiece sealed t a ∷ []

-- what it gives to it
abbrev pub gained_by : Step → Title → Bool → ℕ → List Piece
gained_by Issue t sealed left = OwnPiece false t Clean ∷ []
gained_by Copy t sealed left = RefPiece t ∷ []
gained_by Reset t sealed left = returned_at left t
gained_by Free t sealed left = returned_at left t
gained_by Write t sealed left = OwnPiece sealed t Clean ∷ []

-- the free titles after a return
returned_sum : (left : ℕ) (t : Title) (frees : List Title) (x : Thing) →
    frees_sum (if is_back left then t ∷ frees else frees) x ≡ frees_sum frees x + held_in (returned_at left t) x
returned_sum left t frees x = go (is_back left)
  where
    go : (b : Bool) → frees_sum (if b then t ∷ frees else frees) x ≡ frees_sum frees x + held_in (if b then FreePiece t ∷ [] else []) x
    go true = omega (arith, sum_by-cons (λ u. amount x (FreePiece u)) t frees)
    go false = omega arith

-- a view's Own with any idle mark
pub idle_owns : (v : View) (t : Title) → 0 < idle_of v t → 0 < held_of_view v (OwnOf t)
idle_owns v t h =
    let e = owns_have v t in
    let l = sum_by-le-sum_by (λ (o : OwnTitle). one (same_title o.title t && (o.idle || o.sealed)))
    (λ (o : OwnTitle). one (is_own_of t o)) v.owns (λ o. one_and (same_title o.title t) (o.idle || o.sealed)) in
    omega arith

-- a change of an Own that leaves its piece changes nothing of what is held
pub unchanged_sum : (t : Title) (change : OwnTitle → OwnTitle) (os : List OwnTitle) →
    ((o : OwnTitle) → own_piece (change o) ≡ own_piece o) →
    (x : Thing) → owns_sum (changed (is_own_of t) change os) x ≡ owns_sum os x
unchanged_sum t change [] same x = refl
unchanged_sum t change (o ∷ os) same x = go (is_own_of t o) (unchanged_sum t change os same x)
  where
    go : (b : Bool) → owns_sum (changed (is_own_of t) change os) x ≡ owns_sum os x →
        owns_sum (if b then change o ∷ os else o ∷ changed (is_own_of t) change os) x ≡ owns_sum (o ∷ os) x
    go true again =
        let here : amount x (own_piece (change o)) ≡ amount x (own_piece o) = ap (amount x) (same o) in
        omega (arith, sum_by-cons (λ p. amount x (own_piece p)) (change o) os, sum_by-cons (λ p. amount x (own_piece p)) o os)
    go false again =
        omega (
          arith,
          sum_by-cons (λ p. amount x (own_piece p)) o (changed (is_own_of t) change os),
          sum_by-cons (λ p. amount x (own_piece p)) o os,
        )

-- the handle that a step needs, in any state
abbrev pub HasPiece : Step → Title → View → Type 0
HasPiece Issue t v = 0 < free_of v t
HasPiece Copy t v = 0 < own_of v t + ref_of v t
HasPiece Reset t v = 0 < ref_of v t
HasPiece Free t v = 0 < own_of v t
HasPiece Write t v = 0 < idle_of v t

-- the Owns in a state
pub owns_as_have : (v : View) (t : Title) (a : OwnState) → held_of_view v (OwnAs t a) ≡ own_as v t a
owns_as_have v t a =
    let s = held_split v (OwnAs t a) in
    let b = sum_none (λ (r : RawRange). amount (OwnAs t a) (raw_piece r)) v.raws (λ r. refl) in
    let c = sum_none (λ (u : Title). amount (OwnAs t a) (FreePiece u)) v.frees (λ o. refl) in
    let d = sum_none (λ (u : Title). amount (OwnAs t a) (RefPiece u)) v.refs (λ u. refl) in
    omega arith

-- an Own in some state is an Own
pub own_as_own : (v : View) (t : Title) (a : OwnState) → own_as v t a ≤ own_of v t
own_as_own v t a =
    sum_by-le-sum_by (λ (o : OwnTitle). one (same_title o.title t && same_state o.state a)) (λ (o : OwnTitle). one (is_own_of t o)) v.owns
    (λ o. one_and (same_title o.title t) (same_state o.state a))

-- an Own in some state is sealed or not, and a sealed one is known to have no Ref
pub sealed_or_not : (v : View) (t : Title) (a : OwnState) →
    (unsealed_as v t a ≤ own_as v t a) × (own_as v t a ≤ unsealed_as v t a + sealed_of v t) × (sealed_of v t ≤ idle_of v t)
sealed_or_not v t a = (
  sum_by-le-sum_by (λ (o : OwnTitle). one ((same_title o.title t && same_state o.state a) && not o.sealed))
      (λ (o : OwnTitle). one (same_title o.title t && same_state o.state a)) v.owns
      (λ o. one_and (same_title o.title t && same_state o.state a) (not o.sealed)),
  (let l = sum_by-le-sum_by (λ (o : OwnTitle). one (same_title o.title t && same_state o.state a))
      (λ (o : OwnTitle). one ((same_title o.title t && same_state o.state a) && not o.sealed) + one (same_title o.title t && o.sealed))
      v.owns (λ o. either (same_title o.title t) (same_state o.state a) o.sealed) in
      let s = sum_split (λ (o : OwnTitle). one ((same_title o.title t && same_state o.state a) && not o.sealed))
      (λ (o : OwnTitle). one (same_title o.title t && o.sealed))
      (λ (o : OwnTitle). one ((same_title o.title t && same_state o.state a) && not o.sealed) + one (same_title o.title t && o.sealed))
      v.owns (λ o. refl) in
      omega arith),
  sum_by-le-sum_by (λ (o : OwnTitle). one (same_title o.title t && o.sealed))
      (λ (o : OwnTitle). one (same_title o.title t && (o.idle || o.sealed))) v.owns
      (λ o. one_less (same_title o.title t) o.idle o.sealed),
)
  where
    either : (b c d : Bool) → one (b && c) ≤ one ((b && c) && not d) + one (b && d)
    either true true true = omega arith
    either true true false = omega arith
    either true false d = omega arith
    either false c d = omega arith

-- the only Own of a title isn't sealed if it is one that isn't
pub unsealed_alone : (v : View) (t : Title) → 0 < unsealed_as v t Clean → own_of v t ≤ 1 → sealed_of v t ≡ 0
unsealed_alone v t has few =
    let both = sum_split (λ (o : OwnTitle). one ((same_title o.title t && same_state o.state Clean) && not o.sealed))
    (λ (o : OwnTitle). one (same_title o.title t && o.sealed))
    (λ (o : OwnTitle). one ((same_title o.title t && same_state o.state Clean) && not o.sealed) + one (same_title o.title t && o.sealed))
    v.owns (λ o. refl) in
    let within = sum_by-le-sum_by
    (λ (o : OwnTitle). one ((same_title o.title t && same_state o.state Clean) && not o.sealed) + one (same_title o.title t && o.sealed))
    (λ (o : OwnTitle). one (is_own_of t o)) v.owns (λ o. once (same_title o.title t) (same_state o.state Clean) o.sealed) in
    omega arith
  where
    once : (b c d : Bool) → one ((b && c) && not d) + one (b && d) ≤ one b
    once true true true = omega arith
    once true true false = omega arith
    once true false d = let s = one_small d in omega arith
    once false c d = omega arith

-- a view that has the handle has the piece
pub handle_piece : (step : Step) (t : Title) (v : View) → HasHandle step t v → HasPiece step t v
handle_piece Issue t v has = has
handle_piece Copy t v has = let l = own_as_own v t Clean in let s = (sealed_or_not v t Clean).0 in omega arith
handle_piece Reset t v has = has
handle_piece Free t v has = let l = own_as_own v t (Poisoned (content_count t)) in omega arith
handle_piece Write t v has = has.0

-- the step takes an Own of its title, which is in this state
abbrev pub TakesOwn : Step → Title → OwnState → View → Type 0
TakesOwn Issue t a v = Unit {0}
TakesOwn Copy t a v = Unit {0}
TakesOwn Reset t a v = Unit {0}
TakesOwn Free t a v = 0 < held_of_view v (OwnAs t a)
TakesOwn Write t a v = 0 < held_of_view v (OwnAs t a)

-- the step takes an Own of its title, which is sealed or not, if the view has just one
abbrev pub TakesSeal : Step → Title → Bool → View → Type 0
TakesSeal Issue t sealed v = Unit {0}
TakesSeal Copy t sealed v = Unit {0}
TakesSeal Reset t sealed v = Unit {0}
TakesSeal Free t sealed v = own_of v t ≤ 1 → held_of_view v (SealedOwn t) ≡ one sealed
TakesSeal Write t sealed v = own_of v t ≤ 1 → held_of_view v (SealedOwn t) ≡ one sealed

-- the first Own of the title is one in its state
pub first_own : (t : Title) (v : View) (o : OwnTitle) → IsFirst (is_own_of t) v.owns o → 0 < held_of_view v (OwnAs t o.state)
first_own t v o first =
    let c = first.left_out (λ p. amount (OwnAs t o.state) (own_piece p)) in
    let same : amount (OwnAs t o.state) (own_piece o) ≡ 1 = rw (first.passes, state_self o.state) refl in
    let s = held_split v (OwnAs t o.state) in
    omega arith

-- if it is the only one, the title is sealed as it is
pub first_seal : (t : Title) (v : View) (o : OwnTitle) → IsFirst (is_own_of t) v.owns o → own_of v t ≤ 1 →
    held_of_view v (SealedOwn t) ≡ one o.sealed
first_seal t v o first few =
    let c = first.left_out (λ (p : OwnTitle). one (same_title p.title t && p.sealed)) in
    let d = first.left_out (λ (p : OwnTitle). one (is_own_of t p)) in
    let mine : one (is_own_of t o) ≡ 1 = ap one first.passes in
    let same : one (same_title o.title t && o.sealed) ≡ one o.sealed = rw first.passes refl in
    let rest = sum_by-le-sum_by (λ (p : OwnTitle). one (same_title p.title t && p.sealed)) (λ (p : OwnTitle). one (is_own_of t p))
    (without (is_own_of t) v.owns) (λ p. one_and (same_title p.title t) p.sealed) in
    let h = seals_have v t in
    omega arith

-- What a counted step changes of what the view holds. If it takes an Own, this is in the state, and sealed or not.
pub record Moves (step : Step) (t : Title) (word : ℕ) (v : View) : Type 0 where
  pub state : OwnState
  pub sealed : Bool
  pub changes : Changes (held_of_view v) (lost_by step t sealed state) (gained_by step t sealed (stepped step word))
      (held_of_view (moved step t word v))
  pub takes : TakesOwn step t state v
  pub seals : TakesSeal step t sealed v

-- every counted step by a view that has the piece
pub moved_changes : (step : Step) (t : Title) (word : ℕ) (v : View) → HasPiece step t v → Moves step t word v
moved_changes Issue t word v has =
    let e = frees_have v t in
    let first = first_of (is_title_of t) v.frees (omega arith) in
    record {
      state = Clean;
      sealed = false;
      changes = λ x.
          let own : OwnTitle = record { title = t; state = Clean; idle = true; sealed = false } in
          let f = first.1.left_out (λ u. amount x (FreePiece u)) in
          let same : amount x (FreePiece first.0) ≡ amount x (FreePiece t) =
          ap (λ u. amount x (FreePiece u)) (found_title t first.0 first.1.passes) in
          let before = held_split v x in
          let after = held_split (moved Issue t word v) x in
          omega (arith, sum_by-cons (λ o. amount x (own_piece o)) own v.owns);
      takes = tt;
      seals = tt;
    }
moved_changes Copy t word v has = record {
  state = Clean;
  sealed = false;
  changes = λ x.
      let before = held_split v x in
      let after = held_split (moved Copy t word v) x in
      let same = unchanged_sum t busy v.owns (λ o. refl) x in
      omega (arith, sum_by-cons (λ u. amount x (RefPiece u)) t v.refs);
  takes = tt;
  seals = tt;
}
moved_changes Reset t word v has =
    let e = refs_have v t in
    let first = first_of (is_title_of t) v.refs (omega arith) in
    record {
      state = Clean;
      sealed = false;
      changes = λ x.
          let f = first.1.left_out (λ u. amount x (RefPiece u)) in
          let same : amount x (RefPiece first.0) ≡ amount x (RefPiece t) =
          ap (λ u. amount x (RefPiece u)) (found_title t first.0 first.1.passes) in
          let back = returned_sum (stepped Reset word) t v.frees x in
          let before = held_split v x in
          let after = held_split (moved Reset t word v) x in
          omega arith;
      takes = tt;
      seals = tt;
    }
moved_changes Free t word v has =
    let e = owns_have v t in
    let first = first_of (is_own_of t) v.owns (omega arith) in
    record {
      state = first.0.state;
      sealed = first.0.sealed;
      changes = λ x.
          let f = first.1.left_out (λ o. amount x (own_piece o)) in
          let same : amount x (own_piece first.0) ≡ amount x (OwnPiece first.0.sealed t first.0.state) =
          ap (λ u. amount x (OwnPiece first.0.sealed u first.0.state)) (found_title t first.0.title first.1.passes) in
          let back = returned_sum (stepped Free word) t v.frees x in
          let before = held_split v x in
          let after = held_split (moved Free t word v) x in
          omega arith;
      takes = first_own t v first.0 first.1;
      seals = first_seal t v first.0 first.1;
    }
moved_changes Write t word v has =
    let e = owns_have v t in
    let some_own = idle_owns v t has in
    let first = first_of (is_own_of t) v.owns (omega arith) in
    record {
      state = first.0.state;
      sealed = first.0.sealed;
      changes = λ x.
          let f = first.1.replaced written (λ o. amount x (own_piece o)) in
          let title = found_title t first.0.title first.1.passes in
          let same : amount x (own_piece first.0) ≡ amount x (OwnPiece first.0.sealed t first.0.state) =
          ap (λ u. amount x (OwnPiece first.0.sealed u first.0.state)) title in
          let now : amount x (own_piece (written first.0)) ≡ amount x (OwnPiece first.0.sealed t Clean) =
          ap (λ u. amount x (OwnPiece first.0.sealed u Clean)) title in
          let before = held_split v x in
          let after = held_split (moved Write t word v) x in
          omega arith;
      takes = first_own t v first.0 first.1;
      seals = first_seal t v first.0 first.1;
    }
