-- The poisoning of a content word is an enabled event of the core that is shown, and keeps the rule.
use Rattle.std.proofs.Common.{◌≡◌, ℕ, ◌+◌, ◌-◌, ◌*◌, ◌/◌, ◌%◌, ◌<◌, ◌≤◌, Bool, true, false, ◌&&◌, List, [], ◌∷◌, length, set, refl, sym, ◌∙◌, ap, subst, arith, inl, inr}
use Rattle.std.specs.Prelude.{◌==◌, ◌||◌, slice_set}
use Rattle.std.proofs.lemmas.List.Sums.{sum_by-le-sum_by}
use Rattle.std.proofs.lemmas.Bool.{true≢false}
use Rattle.std.proofs.lemmas.Bool.Decides.{eqb_tells}
use mathlib.Core.Option.{some}
use lib.ListN.{get_elem?}
use Rattle.pa_slot.specs.declared.title.Title.{Title}
use Rattle.pa_slot.specs.declared.title.OwnState.{OwnState}
use Rattle.pa_slot.specs.declared.title.OwnState.TheVariants.{Poisoned}
use Rattle.pa_machine.specs.declared.event.Event.TheVariants.{Poison}
use Rattle.pa_slot.specs.Titles.{same_title, content_place, poison, progress}
use Rattle.pa_slot.specs.Holdings.{Thing, OwnPiece, RawByte, FreeTitle, OwnOf, OwnAs, SealedOwn, RefOf, one, amount, IsTitleHeld}
use Rattle.pa_machine.specs.Events.{Holds, IsEnabled, Happens, IsAfter, total_of}
use Rattle.pa_slot.proofs.Same.{state_self}
use Rattle.pa_machine.proofs.Parts.{Changes}
use Rattle.pa_machine.proofs.Totals.{tally_of}
use Rattle.pa_machine.proofs.Keeps.{own_of_state}
use Rattle.pa_machine.proofs.Happening.{after_changes, few_owns, own_state_is, happens_good}
use Rattle.pa_machine.proofs.Noting.{keeps_content}
use Rattle.pa_region.specs.declared.view.OwnTitle.{OwnTitle}
use Rattle.pa_region.specs.declared.view.View.{View}
use Rattle.pa_region.specs.Views.{own_piece, held_of_view, byte_words, shown, own_of}
use Rattle.pa_region.specs.History.{content_of}
use Rattle.pa_region.specs.Order.{Spoiled}
use Rattle.pa_region.specs.Rule.{IsKept}
use Rattle.pa_region.specs.Moves.{is_own_of}
use Rattle.pa_region.specs.Waiting.{is_poisoned}
use Rattle.pa_region.specs.Stores.{poisoned_to, after_poison, own_to, CanPoison}
use Rattle.pa_region.proofs.Adding.{IsFirst, one_and, one_small, first_of, changed_sum}
use Rattle.pa_region.proofs.Pieces.{held_split, held_within, owns_have, found_title, first_own, first_seal}
use Rattle.pa_region.proofs.Bytes.{bytes_set, held_in_all}
use Rattle.pa_region.proofs.Shown.{shown_actor, shown_held, is_after}
use Rattle.pa_region.proofs.CountEvent.{content_covered, own_few, seal_held}
use Rattle.pa_region.proofs.PoisonedOwns.{sum_grows}
use Rattle.pa_region.proofs.WriteStep.{IsWrite, write_keeps}
use Rattle.pa_region.proofs.PoisonFilled.{filled_poisoned, poison_steady}
use Rattle.pa_region.proofs.StoreStep.{content_no_count, title_below}
use Rattle.pa_lists.proofs.Tests.{both_true}

-- an Own with this many words poisoned is an Own
pub own_to_own : (v : View) (t : Title) (j : ℕ) → own_to v t j ≤ own_of v t
own_to_own v t j =
    sum_by-le-sum_by (λ (o : OwnTitle). one (same_title o.title t && (progress o.state == j)))
    (λ (o : OwnTitle). one (is_own_of t o)) v.owns
    (λ o. one_and (same_title o.title t) (progress o.state == j))

-- the state of an Own with this many words poisoned
pub state_to : (v : View) (t : Title) (j : ℕ) → 0 < own_to v t j → (b : OwnState) × (progress b ≡ j) × (0 < held_of_view v (OwnAs t b))
state_to v t j has = (first.0.state, so_many, holds)
  where
    first : (o : OwnTitle) × IsFirst (λ (o : OwnTitle). same_title o.title t && (progress o.state == j)) v.owns o
    first = first_of (λ (o : OwnTitle). same_title o.title t && (progress o.state == j)) v.owns has

    both : (same_title first.0.title t ≡ true) × ((progress first.0.state == j) ≡ true)
    both = both_true (same_title first.0.title t) (progress first.0.state == j) first.1.passes

    so_many : progress first.0.state ≡ j
    so_many = elim (eqb_tells (progress first.0.state) j) [ inl y ↦ y.1 | inr n ↦ absurd (true≢false (sym both.1 ∙ n.0)) ]

    holds : 0 < held_of_view v (OwnAs t first.0.state)
    holds =
        let c = first.1.left_out (λ o. amount (OwnAs t first.0.state) (own_piece o)) in
        let here : amount (OwnAs t first.0.state) (own_piece first.0) ≡ 1 = rw (both.0, state_self first.0.state) refl in
        let s = held_split v (OwnAs t first.0.state) in
        omega arith

-- what a poisoning changes of the view besides the word: nothing but a state
pub poison_holds : (t : Title) (j : ℕ) (v : View) (x : Thing) →
    ((o : OwnTitle) → amount x (own_piece (poisoned_to (j + 1) o)) ≡ amount x (own_piece o)) →
    held_of_view (after_poison t j v) x ≡ held_of_view v x
poison_holds t j v x same =
    let before = held_split v x in
    let after = held_split (after_poison t j v) x in
    let c = changed_sum (is_own_of t) (poisoned_to (j + 1)) (λ o. amount x (own_piece o)) v.owns same in
    omega arith

-- the title is held
own_held : (t : Title) (j : ℕ) (words : List ℕ) (views : List View) (i : ℕ) (v : View) → get_elem? views i ≡ some v → CanPoison t j v →
    IsTitleHeld (total_of (shown words views)) t
own_held t j words views i v at_i can =
    let o = owns_have v t in
    let l = own_to_own v t j in
    let h = can.0 in
    held_in_all words views i v t at_i (omega arith)

-- a poisoning is a write of a known word
poison_write : (t : Title) (j : ℕ) (words : List ℕ) (views : List View) (i : ℕ) (v : View) → IsKept words views →
    get_elem? views i ≡ some v →
    CanPoison t j v → IsWrite words views v (after_poison t j v) (content_place t j) poison
poison_write t j words views i v k at_i can =
    let held = own_held t j words views i v at_i can in
    let covered = content_covered (length (byte_words words)) t j (k.holders.good.divided.well t held) can.1 in
    let l = own_to_own v t j in
    let h = can.0 in
    let place : (8 * content_place t j) / 8 ≡ content_place t j = omega arith in
    record {
      knows = inr (inr (t, omega arith, covered.1));
      below = subst (λ (p : ℕ). p < length words - 16) place (title_below words views t (8 * content_place t j) k held covered.0);
      content = λ u other e. content_no_count words views t u (8 * content_place t j) k held covered.1
          (let z : (8 * content_place t j) % 8 ≡ 0 = omega arith in z) other (place ∙ e);
      known = refl;
      raws = refl;
      uncut = refl;
      raw = λ b. poison_holds t j v (RawByte b) (λ o. refl);
      free = λ u. poison_holds t j v (FreeTitle u) (λ o. refl);
      own = λ u. poison_holds t j v (OwnOf u) (λ o. refl);
      ref = λ u. poison_holds t j v (RefOf u) (λ o. refl);
      idle = λ u. changed_sum (is_own_of t) (poisoned_to (j + 1)) (λ (o : OwnTitle). one (same_title o.title u && (o.idle || o.sealed)))
          v.owns (λ o. refl);
      budget = refl;
      stakes = refl;
      seen = refl;
      grown = record {
        keepers = refl;
        leases = refl;
        lists = refl;
        stakes = inl refl;
        seen = λ u. omega arith;
        handles = λ u has. let o =
            changed_sum (is_own_of t) (poisoned_to (j + 1)) (λ (x : OwnTitle). one (same_title x.title u)) v.owns (λ x. refl) in
            inl (omega arith);
      };
      handed = refl;
      poisoned = λ u. sum_grows (λ (o : OwnTitle). one (same_title o.title u && is_poisoned o.state)) (is_own_of t)
          (poisoned_to (j + 1)) v.owns
          (λ place_in_list o at_place here. poisoned_more (same_title o.title u) o.state);
      unclean = λ some_own. can.2;
    }
  where
    poisoned_more : (b : Bool) (a : OwnState) → one (b && is_poisoned a) ≤ one (b && true)
    poisoned_more true a = one_small (is_poisoned a)
    poisoned_more false a = omega arith

-- what it changes of the view's holdings
poison_changes : (t : Title) (j : ℕ) (v : View) → 0 < own_of v t →
    (a : OwnState) × (sealed : Bool) × (0 < held_of_view v (OwnAs t a)) × (own_of v t ≤ 1 → held_of_view v (SealedOwn t) ≡ one sealed) ×
    Changes (held_of_view v) (OwnPiece sealed t a ∷ []) (OwnPiece sealed t (Poisoned (j + 1)) ∷ []) (held_of_view (after_poison t j v))
poison_changes t j v has =
    let first = first_of (is_own_of t) v.owns has in (
      first.0.state,
      first.0.sealed,
      first_own t v first.0 first.1,
      first_seal t v first.0 first.1,
      λ x.
          let f = first.1.replaced (poisoned_to (j + 1)) (λ o. amount x (own_piece o)) in
          let title = found_title t first.0.title first.1.passes in
          let same : amount x (own_piece first.0) ≡ amount x (OwnPiece first.0.sealed t first.0.state) =
          ap (λ u. amount x (OwnPiece first.0.sealed u first.0.state)) title in
          let now : amount x (own_piece (poisoned_to (j + 1) first.0)) ≡ amount x (OwnPiece first.0.sealed t (Poisoned (j + 1))) =
          ap (λ u. amount x (OwnPiece first.0.sealed u (Poisoned (j + 1)))) title in
          let before = held_split v x in
          let after = held_split (after_poison t j v) x in
          omega arith,
    )

-- a poisoning is an enabled event of the core that is shown
pub poison_event : (t : Title) (j : ℕ) (words : List ℕ) (views : List View) (i : ℕ) (v : View) → IsKept words views →
    get_elem? views i ≡ some v →
    CanPoison t j v →
    IsEnabled (Poison i t) (shown words views) ×
    Happens (Poison i t) (shown words views) (shown (set words (content_place t j) poison) (set views i (after_poison t j v)))
poison_event t j words views i v k at_i can =
    let l = own_to_own v t j in
    let h = can.0 in
    let below = can.1 in
    let b = state_to v t j can.0 in
    let b1 = b.1 in
    let b2 = b.2 in
    let sb = shown_held words views i v at_i (OwnAs t b.0) in
    let holds : Holds (shown words views) i (OwnAs t b.0) = omega arith in
    let m = poison_changes t j v (omega arith) in
    let m2 = m.2 in
    let few = own_few words views i v t k at_i in
    let sm = shown_held words views i v at_i (OwnAs t m.0) in
    let same = own_state_is (shown words views) i i t m.0 b.0 k.holders.good (omega arith) holds in
    let at_place = bytes_set words (content_place t j) poison (poison_write t j words views i v k at_i can).below in
    let after = is_after words (set words (content_place t j) poison) views i v (after_poison t j v) (OwnPiece m.1 t m.0 ∷ [])
    (OwnPiece m.1 t (Poisoned (j + 1)) ∷ []) at_i m.4 in
    let lost = subst (λ (z : OwnState). IsAfter (shown words views) i (OwnPiece m.1 t z ∷ []) (OwnPiece m.1 t (Poisoned (j + 1)) ∷ [])
    (byte_words (set words (content_place t j) poison))
    (shown (set words (content_place t j) poison) (set views i (after_poison t j v)))) same after in
    let placed = subst (λ (ws : List ℕ). IsAfter (shown words views) i (OwnPiece m.1 t b.0 ∷ []) (OwnPiece m.1 t (Poisoned (j + 1)) ∷ []) ws
    (shown (set words (content_place t j) poison) (set views i (after_poison t j v)))) at_place lost in (
      (shown_actor words views i v at_i, (b.0, holds, omega arith)),
      (
        b.0,
        m.1,
        holds,
        seal_held words views i v t m.1 at_i (m.3 few),
        subst (λ (n : ℕ). IsAfter (shown words views) i (OwnPiece m.1 t b.0 ∷ []) (OwnPiece m.1 t (Poisoned (n + 1)) ∷ [])
            (set (byte_words words) (content_place t n) poison)
            (shown (set words (content_place t j) poison) (set views i (after_poison t j v)))) (sym b.1) placed,
      ),
    )

-- a poisoning keeps the rule
pub poison_keeps : (t : Title) (j : ℕ) (words : List ℕ) (views : List View) (i : ℕ) (v : View) → IsKept words views →
    get_elem? views i ≡ some v →
    CanPoison t j v → IsKept (set words (content_place t j) poison) (set views i (after_poison t j v))
poison_keeps t j words views i v k at_i can =
    let event = poison_event t j words views i v k at_i can in
    let after = shown (set words (content_place t j) poison) (set views i (after_poison t j v)) in
    let h = event.1 in
    let b = state_to v t j can.0 in
    let there = b.2 in
    let w = held_within words views i v at_i (OwnAs t b.0) in
    let holds : 0 < total_of (shown words views) (OwnAs t b.0) = omega arith in
    let s = shown_held words views i v at_i (OwnAs t b.0) in
    let same = own_state_is (shown words views) i i t h.0 b.0 k.holders.good h.2 (omega arith) in
    let put : List ℕ = slice_set (shown words views).words (content_place t (progress h.0)) poison in
    let moved : IsAfter (shown words views) i (OwnPiece h.1 t b.0 ∷ []) (OwnPiece h.1 t (Poisoned (j + 1)) ∷ []) put after =
    subst (λ (z : OwnState). IsAfter (shown words views) i (OwnPiece h.1 t z ∷ []) (OwnPiece h.1 t (Poisoned (j + 1)) ∷ []) put after) same
    (subst (λ (n : ℕ). IsAfter (shown words views) i (OwnPiece h.1 t h.0 ∷ []) (OwnPiece h.1 t (Poisoned (n + 1)) ∷ []) put after)
    (ap progress same ∙ b.1) h.4) in
    write_keeps words views i v (after_poison t j v) (content_place t j) poison k at_i (poison_write t j words views i v k at_i can)
    (happens_good (Poison i t) (shown words views) after k.holders.good event.0 event.1)
    (keeps_content (Poison i t) (shown words views) after (λ u. content_of (k.history u)) k.holders.good event.0 event.1 k.content)
    (Spoiled t j ∷ k.steps)
    (filled_poisoned k.steps k.all k.history (total_of (shown words views)) (total_of after) views
    (set views i (after_poison t j v)) t j h.1 b.0 k.filled
    (tally_of (shown words views).holdings) (tally_of after.holdings)
    (few_owns (shown words views) t k.holders.good
    (own_of_state (total_of (shown words views)) t b.0 (tally_of (shown words views).holdings) holds))
    holds b.1 can.1 (after_changes (shown words views) after i _ _ _ event.0.0 moved)
    (poison_steady k.steps t j views i v at_i can ((k.filled.owned t b.0 holds).many ∙ b.1) k.filled.each_view))
