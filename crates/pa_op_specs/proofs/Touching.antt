-- What an op that enters nothing leaves of its seat's view.
use Rattle.std.proofs.Common.{◌≡◌, ℕ, ◌+◌, ◌<◌, ◌≤◌, Bool, true, false, List, [], ◌∷◌, ◌++◌, refl, sym, ◌∙◌, ap, subst, arith, inl, inr}
use Rattle.std.specs.Prelude.{◌==◌, max, Contains, if◌then◌else◌}
use Rattle.std.proofs.lemmas.List.{append-nil, append_assoc}
use Rattle.std.proofs.lemmas.Bool.Decides.{nat_tests}
use Rattle.pa_slot.specs.declared.title.Title.{Title}
use Rattle.pa_slot.specs.Count.{number_of}
use Rattle.pa_slot.specs.Titles.{same_title}
use Rattle.pa_lists.proofs.Members.{in_cases, not_in_none}
use Rattle.pa_region.specs.declared.view.Entry.{Entry}
use Rattle.pa_region.specs.declared.view.Entry.TheVariants.{Counted, Looked, Read, Added, Entered, Uncut}
use Rattle.pa_region.specs.declared.view.View.{View}
use Rattle.pa_region.specs.Views.{free_of, seen_of, stake_of, least_stake}
use Rattle.pa_region.specs.Leaves.{LeavesEntry}
use Rattle.pa_region.specs.Takes.{log_of}
use Rattle.pa_op_specs.proofs.Seeing.{more_seen, same_seen}

-- What an entry says of what was seen before it and after: it finds nothing older, and what it leaves is seen. It is a step, a
-- look or a read.
abbrev pub Touches : View → View → Entry → Type 0
Touches v w (Counted t step found value) = (seen_of v t ≤ number_of found) × (number_of found + 1 ≤ seen_of w t)
Touches v w (Looked t found) = (seen_of v t ≤ number_of found) × (number_of found ≤ seen_of w t)
Touches v w (Read t place value since owned unclean) = Unit {0}
Touches v w (Added word bytes) = ⊥
Touches v w (Entered keeper made) = ⊥
Touches v w (Uncut t) = ⊥

-- The view w is what is left of v when these entries were made in the log of a stake.
pub record Touched (stake : ℕ) (es : List Entry) (v w : View) : Type 0 where
  pub logs : (k : ℕ) → log_of k w ≡ log_of k v ++ (if k == stake then es else [])
  pub stakes : (k : ℕ) → stake_of w k ≡ stake_of v k
  pub lists : w.seen_lists ≡ v.seen_lists
  pub grows : (t : Title) → seen_of v t ≤ seen_of w t
  pub frees : (t : Title) → free_of v t ≤ free_of w t
  pub numbers : (t : Title) → 0 < free_of v t → seen_of w t ≡ seen_of v t
  pub each : (e : Entry) → Contains es e → Touches v w e

-- nothing was done
pub touched_none : (stake : ℕ) (v : View) → Touched stake [] v v
touched_none stake v = record {
  logs = λ k. go (log_of k v) (k == stake);
  stakes = λ k. refl;
  lists = refl;
  grows = λ t. omega arith;
  frees = λ t. omega arith;
  numbers = λ t free. refl;
  each = λ e among. absurd (not_in_none e among);
}
  where
    go : (log : List Entry) (b : Bool) → log ≡ log ++ (if b then [] else [])
    go log true = sym (append-nil log)
    go log false = sym (append-nil log)

-- one entry was made
pub entry_logs : (stake k : ℕ) (e : Entry) (v w : View) → LeavesEntry e v w → least_stake v.stakes ≡ stake →
    log_of k w ≡ log_of k v ++ (if k == stake then e ∷ [] else [])
entry_logs stake k e v w leaves least = go (k == stake) refl
  where
    go : (b : Bool) → (k == stake) ≡ b → log_of k w ≡ log_of k v ++ (if b then e ∷ [] else [])
    go true is =
        let here : least_stake v.stakes ≡ k = grind (arith, nat_tests) in
        subst (λ n. log_of n w ≡ log_of n v ++ e ∷ []) here leaves.log
    go false is = leaves.other_logs k (λ same. grind (arith, nat_tests)) ∙ sym (append-nil (log_of k v))

pub touched_entry : (stake n : ℕ) (e : Entry) (t : Title) (v w : View) → LeavesEntry e v w → least_stake v.stakes ≡ stake →
    w.seen_lists ≡ v.seen_lists → ((u : Title) → seen_of w u ≡ (if same_title t u then max n (seen_of v u) else seen_of v u)) →
    (0 < free_of v t → ⊥) → ((u : Title) → free_of v u ≤ free_of w u) → Touches v w e → Touched stake (e ∷ []) v w
touched_entry stake n e t v w leaves least lists seen held frees touches = record {
  logs = λ k. entry_logs stake k e v w leaves least;
  stakes = leaves.stakes;
  lists = lists;
  grows = λ u. more_seen t u n (seen_of w u) (seen_of v u) (seen u);
  frees = frees;
  numbers = λ u free. same_seen t u n (seen_of w u) (seen_of v u) (λ same. held (subst (λ x. 0 < free_of v x) (sym same) free)) (seen u);
  each = λ f among. elim (in_cases e f [] among) [
    | inl same ↦ subst (Touches v w) same touches
    | inr none ↦ absurd (not_in_none f none)
  ];
}

-- an entry still says so of what was seen before that, and after
touches_more : (v u w x : View) (e : Entry) → ((t : Title) → seen_of v t ≤ seen_of u t) → ((t : Title) → seen_of w t ≤ seen_of x t) →
    Touches u w e → Touches v x e
touches_more v u w x (Counted t step found value) before after is = let a = before t in let b = after t in (omega arith, omega arith)
touches_more v u w x (Looked t found) before after is = let a = before t in let b = after t in (omega arith, omega arith)
touches_more v u w x (Read t place value since owned unclean) before after is = tt
touches_more v u w x (Added word bytes) before after is = is
touches_more v u w x (Entered keeper made) before after is = is
touches_more v u w x (Uncut t) before after is = is

-- these entries were made, and then those
pub touched_both : (stake : ℕ) (e f : Entry) (v u w : View) → Touched stake (e ∷ []) v u → Touched stake (f ∷ []) u w →
    Touched stake (e ∷ f ∷ []) v w
touched_both stake e f v u w one two = record {
  logs = λ k. two.logs k ∙ (ap (λ log. log ++ (if k == stake then f ∷ [] else [])) (one.logs k) ∙ go (log_of k v) (k == stake));
  stakes = λ k. two.stakes k ∙ one.stakes k;
  lists = two.lists ∙ one.lists;
  grows = λ t. let a = one.grows t in let b = two.grows t in omega arith;
  frees = λ t. let a = one.frees t in let b = two.frees t in omega arith;
  numbers = λ t free. two.numbers t (let a = one.frees t in omega arith) ∙ one.numbers t free;
  each = λ g among. elim (in_cases e g (f ∷ []) among) [
    | inl same ↦ touches_more v v u w g (λ t. omega arith) two.grows (one.each g (0, omega arith, same))
    | inr later ↦ touches_more v u w w g one.grows (λ t. omega arith) (two.each g later)
  ];
}
  where
    go : (log : List Entry) (b : Bool) →
        (log ++ (if b then e ∷ [] else [])) ++ (if b then f ∷ [] else []) ≡ log ++ (if b then e ∷ f ∷ [] else [])
    go log true = append_assoc log (e ∷ []) (f ∷ [])
    go log false = append-nil (log ++ [])
