-- A view whose Own of a title is known to have no Ref may seal it: that keeps the rule.
use Rattle.std.proofs.Common.{◌≡◌, ℕ, ◌*◌, ◌<◌, ◌&&◌, List, length, set, refl, subst, arith, inl, inr}
use mathlib.Core.Option.{some}
use lib.ListN.{get_elem?}
use Rattle.pa_slot.specs.declared.title.Title.{Title}
use Rattle.pa_slot.specs.declared.title.OwnState.TheVariants.{Clean, Poisoned}
use Rattle.pa_slot.specs.Count.{refs_of}
use Rattle.pa_slot.specs.Titles.{same_title, count_word}
use Rattle.pa_slot.specs.Holdings.{Thing, RawByte, FreeTitle, OwnOf, OwnAs, RefOf, one, amount, IsTitleHeld}
use Rattle.pa_machine.specs.Events.{total_of}
use Rattle.pa_slot.proofs.Same.{title_tells}
use Rattle.pa_region.specs.declared.view.Entry.{Entry}
use Rattle.pa_region.specs.declared.view.OwnTitle.{OwnTitle}
use Rattle.pa_region.specs.declared.view.View.{View}
use Rattle.pa_region.specs.Views.{own_piece, held_of_view, byte_words, shown, Knows, idle_of, low_in, uncut_in, stakes_in, logged_of, logged_in, ahead_of, ahead_in, unseen_of, unseen_in, counted, counted_on, names, uncuts, HasTitle}
use Rattle.pa_region.specs.Waiting.{is_poisoned, is_unclean}
use Rattle.pa_region.specs.Rule.{IsKept}
use Rattle.pa_region.specs.Moves.{is_own_of, seal, sealed_at}
use Rattle.pa_region.proofs.Adding.{sum_set, sum_part, changed_sum}
use Rattle.pa_region.proofs.Pieces.{held_split, total_set}
use Rattle.pa_region.proofs.Idle.{idle_other}
use Rattle.pa_region.proofs.ReservationPart.{reservations_same}
use Rattle.pa_region.proofs.NamePart.{named_same}
use Rattle.pa_region.proofs.LogPart.{logs_same}
use Rattle.pa_region.proofs.SeenPart.{seen_same}
use Rattle.pa_region.proofs.ReadsSame.{reads_other}
use Rattle.pa_region.proofs.ListPart.{lists_grown}
use Rattle.pa_region.proofs.Stays.{low_set, stakes_set, undone_set}
use Rattle.pa_region.proofs.ValuePart.{ShownGood, values_same}
use Rattle.pa_region.proofs.TotalsPart.{words_stay, totals_stay}
use Rattle.pa_region.proofs.OrderPart.{order_same}
use Rattle.pa_region.proofs.StepsPart.{eased_titles, filled_same}

-- what sealing changes of what the view holds: nothing but the seal
pub seal_holds : (t : Title) (v : View) (x : Thing) → ((o : OwnTitle) → amount x (own_piece (seal o)) ≡ amount x (own_piece o)) →
    held_of_view (sealed_at t v) x ≡ held_of_view v x
seal_holds t v x same =
    let before = held_split v x in
    let after = held_split (sealed_at t v) x in
    let c = changed_sum (is_own_of t) seal (λ o. amount x (own_piece o)) v.owns same in
    omega arith

-- the view has the same titles
seal_title : (t : Title) (v : View) (u : Title) → HasTitle v u → HasTitle (sealed_at t v) u
seal_title t v u has =
    let o = changed_sum (is_own_of t) seal (λ (x : OwnTitle). one (same_title x.title u)) v.owns (λ x. refl) in
    omega arith

-- and knows the same words
seal_knows : (t : Title) (v : View) (q : ℕ) → Knows (sealed_at t v) q → Knows v q
seal_knows t v q (inl raw) = let e = seal_holds t v (RawByte (8 * q)) (λ o. refl) in inl (omega arith)
seal_knows t v q (inr (inl free)) = inr (inl free)
seal_knows t v q (inr (inr own)) =
    let o = changed_sum (is_own_of t) seal (λ (x : OwnTitle). one (same_title x.title own.0)) v.owns (λ x. refl) in
    let has = own.1 in
    inr (inr (own.0, omega arith, own.2))

-- sealing keeps the rule if the core stays good
pub seal_keeps : (t : Title) (words : List ℕ) (views : List View) (i : ℕ) (v : View) → IsKept words views → get_elem? views i ≡ some v →
    0 < idle_of v t → ShownGood words (set views i (sealed_at t v)) → IsKept words (set views i (sealed_at t v))
seal_keeps t words views i v k at_i idle good =
    let w = sealed_at t v in
    record {
      history = k.history;
      list = k.list;
      all = k.all;
      steps = k.steps;
      holders = record {
        good = good;
        known = λ u some_idle. elim (title_tells t u) [
          | inl y ↦
              let p = sum_part (λ z. idle_of z t) views i v at_i in
              subst (λ (z : Title). refs_of (count_word (byte_words words) z) ≡ 0) y.1 (k.holders.known t (omega arith))
          | inr n ↦
              let c = sum_set (λ z. idle_of z u) views i v w at_i in
              let e = idle_other t u seal v.owns n.1 (λ o. refl) in
              k.holders.known u (omega arith)
        ];
        affords =
            let b = sum_set (λ (z : View). z.budget) views i v w at_i in
            let l = logs counted in
            let a = k.holders.affords in
            omega arith;
        few = λ u held. let b = sum_set (λ (z : View). z.budget) views i v w at_i in let f = k.holders.few u (back u held) in omega arith;
        few_refs = λ u held. k.holders.few_refs u (back u held);
      };
      values = values_same (byte_words words) views i v w at_i k.values refl (λ q knows. seal_knows t v q knows);
      reservations = reservations_same (total_of (shown words views)) (total_of (shown words (set views i w))) (low_in views)
          (low_in (set views i w)) _ _ (uncut_in views) (uncut_in (set views i w))
          k.reservations back (low_set views i v w at_i refl) (λ u. logs (names u)) (λ u. logs (uncuts u));
      named = named_same (length (byte_words words)) (length (byte_words words)) (total_of (shown words views))
          (total_of (shown words (set views i w))) _ _ (uncut_in views) (uncut_in (set views i w))
          k.named refl forth (λ u. logs (names u)) (λ u. logs (uncuts u));
      logs = logs_same k.history (byte_words words) (byte_words words) (total_of (shown words views))
          (total_of (shown words (set views i w)))
          (logged_in views) (logged_in (set views i w)) (stakes_in views) (stakes_in (set views i w)) k.logs back (λ u held. refl) logs
          (stakes_set views i v w at_i (λ n. refl));
      content = record {
        clean = λ u has. let e = same (OwnAs u Clean) (λ o. refl) in k.content.clean u (omega arith);
        beyond = λ u j refs has.
            let e = same (OwnAs u (Poisoned j)) (λ o. refl) in let f = same (RefOf u) (λ o. refl) in
            k.content.beyond u j (omega arith) (omega arith);
      };
      reads = reads_other k.history words words views i v w at_i k.reads refl (λ u has. seal_title t v u has) (λ quiet. quiet)
          (λ some_own.
          let u = changed_sum (is_own_of t) seal (λ (o : OwnTitle). one (is_unclean o.state)) v.owns (λ o. refl) in
          (k.reads.each_view i v at_i).stake (omega arith))
          (λ u.
          let p = changed_sum (is_own_of t) seal (λ (o : OwnTitle). one (same_title o.title u && is_poisoned o.state)) v.owns (λ o. refl) in
          omega arith)
          (λ u held. refl);
      seen = seen_same (logged_in views) (logged_in (set views i w)) (ahead_in views) (ahead_in (set views i w)) (unseen_in views)
          (unseen_in (set views i w)) k.seen
          (λ u. logs (counted_on u))
          (λ u n. let c = sum_set (λ z. ahead_of z u n) views i v w at_i in omega arith)
          (let c = sum_set unseen_of views i v w at_i in omega arith);
      lists = lists_grown k.list views i v w at_i k.lists (record {
        keepers = refl;
        leases = refl;
        lists = refl;
        stakes = inl refl;
        seen = λ u. omega arith;
        handles = λ u has.
            let o = changed_sum (is_own_of t) seal (λ (x : OwnTitle). one (same_title x.title u)) v.owns (λ x. refl) in
            inl (omega arith);
      }) (k.lists.free_seen i v at_i);
      undone = undone_set views i v w at_i refl (λ u. let l = logs (uncuts u) in omega arith) k.undone;
      totals = totals_stay words words views i v w at_i refl k.totals (words_stay words);
      ordered = order_same k.all k.list views i v w at_i refl k.ordered;
      filled = filled_same k.steps k.all k.history (total_of (shown words views)) (total_of (shown words (set views i w))) views i v w at_i
          (eased_titles _ _ (λ u a. same (OwnAs u a) (λ o. refl)) (λ u. same (OwnOf u) (λ o. refl)) (λ u. same (RefOf u) (λ o. refl)))
          refl (λ quiet. quiet) (λ did. did)
          (λ u some_own.
          let p = changed_sum (is_own_of t) seal (λ (o : OwnTitle). one (same_title o.title u && is_poisoned o.state)) v.owns (λ o. refl) in
          omega arith)
          k.filled;
    }
  where
    same : (x : Thing) → ((o : OwnTitle) → amount x (own_piece (seal o)) ≡ amount x (own_piece o)) →
        total_of (shown words (set views i (sealed_at t v))) x ≡ total_of (shown words views) x
    same x each =
        let c = total_set words words views i v (sealed_at t v) at_i x in
        let e = seal_holds t v x each in
        omega arith

    back : (u : Title) → IsTitleHeld (total_of (shown words (set views i (sealed_at t v)))) u → IsTitleHeld (total_of (shown words views)) u
    back u held =
        let a = same (FreeTitle u) (λ o. refl) in let b = same (OwnOf u) (λ o. refl) in let c = same (RefOf u) (λ o. refl) in
        omega arith

    forth : (u : Title) → IsTitleHeld (total_of (shown words views)) u →
        IsTitleHeld (total_of (shown words (set views i (sealed_at t v)))) u
    forth u held =
        let a = same (FreeTitle u) (λ o. refl) in let b = same (OwnOf u) (λ o. refl) in let c = same (RefOf u) (λ o. refl) in
        omega arith

    logs : (weight : Entry → ℕ) → logged_in (set views i (sealed_at t v)) weight ≡ logged_in views weight
    logs weight = let c = sum_set (λ u. logged_of u weight) views i v (sealed_at t v) at_i in omega arith
