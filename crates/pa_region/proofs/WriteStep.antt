-- A step that writes one known word, which is no count word, keeps the rule if it keeps the core good and its contents.
use Rattle.std.proofs.Common.{◌≡◌, ℕ, ◌-◌, ◌*◌, ◌<◌, ◌≤◌, List, length, set, refl, sym, ◌∙◌, ap, subst, arith, inl, inr}
use Rattle.std.specs.Prelude.{slice_index, ◌==◌}
use Rattle.std.specs.List.{sum_by}
use Rattle.std.proofs.lemmas.List.{length-set, get_or-set_same, get_or-set_other}
use Rattle.std.proofs.lemmas.Bool.{cases_eq}
use mathlib.Core.Option.{some}
use lib.ListN.{get_elem?}
use Rattle.pa_slot.specs.declared.title.Title.{Title}
use Rattle.pa_slot.specs.Count.{number_of}
use Rattle.pa_slot.specs.Titles.{count_place, count_word}
use Rattle.pa_slot.specs.Holdings.{RawByte, FreeTitle, OwnOf, RefOf, one, IsTitleHeld}
use Rattle.pa_machine.specs.Events.{total_of}
use Rattle.pa_machine.specs.Trail.{KeepsContent}
use Rattle.pa_region.specs.declared.view.Entry.{Entry}
use Rattle.pa_region.specs.declared.view.Stake.{Stake}
use Rattle.pa_region.specs.declared.view.View.{View}
use Rattle.pa_region.specs.Views.{held_of_view, byte_words, shown, Knows, idle_of, idle_in, budget_in, low_in, uncut_in, stakes_in, logged_of, logged_in, HasStake, ahead_of, ahead_in, unseen_of, unseen_in, counted, counted_on, names, uncuts}
use Rattle.pa_region.specs.History.{content_of}
use Rattle.pa_region.specs.Waiting.{poisoned_of, unclean_of}
use Rattle.pa_region.specs.Order.{OneStep}
use Rattle.pa_region.specs.Filled.{Filled}
use Rattle.pa_region.specs.Rule.{IsKept, Values}
use Rattle.pa_region.proofs.Adding.{sum_set}
use Rattle.pa_region.proofs.Pieces.{title_held, held_title, total_set, frees_have, owns_have}
use Rattle.pa_region.proofs.ReadsSame.{reads_other}
use Rattle.pa_region.proofs.HolderPart.{holders_written}
use Rattle.pa_region.proofs.ReservationPart.{reservations_same}
use Rattle.pa_region.proofs.NamePart.{named_same}
use Rattle.pa_region.proofs.LogPart.{logs_same}
use Rattle.pa_region.proofs.SeenPart.{seen_same}
use Rattle.pa_region.proofs.Idle.{idle_within}
use Rattle.pa_region.proofs.Bytes.{bytes_set, bytes_length, held_in_all}
use Rattle.pa_region.proofs.ListPart.{IsGrown, lists_grown}
use Rattle.pa_region.proofs.Stays.{low_set, stakes_set, undone_set}
use Rattle.pa_region.proofs.ValuePart.{ShownGood, knows_apart, values_step}
use Rattle.pa_region.proofs.TotalsPart.{bytes_stay, totals_stay}
use Rattle.pa_region.proofs.OrderPart.{order_same}

-- The view v knows the word p, which is no held title's count word, and becomes w: it knows the value x there, and holds
-- the same but for the states of its Owns: what was poisoned stays so, and only with a stake is one unclean.
pub record IsWrite (words : List ℕ) (views : List View) (v w : View) (p x : ℕ) : Type 0 where
  pub knows : Knows v p
  pub below : p < length words - 16
  pub content : (t : Title) → IsTitleHeld (total_of (shown words views)) t → p ≡ count_place t → ⊥
  pub known : w.words ≡ set v.words p x
  pub raws : w.raws ≡ v.raws
  pub uncut : w.uncut ≡ v.uncut
  pub raw : (b : ℕ) → held_of_view w (RawByte b) ≡ held_of_view v (RawByte b)
  pub free : (t : Title) → held_of_view w (FreeTitle t) ≡ held_of_view v (FreeTitle t)
  pub own : (t : Title) → held_of_view w (OwnOf t) ≡ held_of_view v (OwnOf t)
  pub ref : (t : Title) → held_of_view w (RefOf t) ≡ held_of_view v (RefOf t)
  pub idle : (t : Title) → idle_of w t ≡ idle_of v t
  pub budget : w.budget ≡ v.budget
  pub stakes : w.stakes ≡ v.stakes
  pub seen : w.seen ≡ v.seen
  pub grown : IsGrown v w
  pub handed : w.since.handed ≡ v.since.handed
  pub poisoned : (t : Title) → poisoned_of v t ≤ poisoned_of w t
  pub unclean : 0 < unclean_of w → HasStake w

-- what it knows after the step it knew before
knows_back : (words : List ℕ) (views : List View) (v w : View) (p x q : ℕ) → IsWrite words views v w p x → Knows w q → Knows v q
knows_back words views v w p x q h (inl raw) = let e = h.raw (8 * q) in inl (omega arith)
knows_back words views v w p x q h (inr (inl free)) =
    let e = h.free free.0 in let a = frees_have v free.0 in let b = frees_have w free.0 in let has = free.1 in
    inr (inl (free.0, omega arith, free.2))
knows_back words views v w p x q h (inr (inr own)) =
    let e = h.own own.0 in let a = owns_have v own.0 in let b = owns_have w own.0 in let has = own.1 in
    inr (inr (own.0, omega arith, own.2))

-- what the views know after it
write_values : (words : List ℕ) (views : List View) (i : ℕ) (v w : View) (p x : ℕ) → IsKept words views → get_elem? views i ≡ some v →
    IsWrite words views v w p x → Values (set (byte_words words) p x) (set views i w)
write_values words views i v w p x k at_i h =
    let long = k.values.long i v at_i in
    let bytes = bytes_length words in
    let below = h.below in
    values_step (byte_words words) (set (byte_words words) p x) views i v w at_i k.values (length-set (byte_words words) p x)
    (ap (λ (ws : List ℕ). length ws) h.known ∙ length-set v.words p x)
    (λ j q u at_j ne knows. get_or-set_other (byte_words words) p q x 0
    (λ e. knows_apart words views i j v u q k.holders.good at_i at_j ne (subst (λ (n : ℕ). Knows v n) (sym e) h.knows) knows))
    (λ q knows. ap (λ (ws : List ℕ). slice_index ws q) h.known ∙ elim (cases_eq q p) [
      | inl y ↦ rw y (get_or-set_same v.words p x 0 (omega arith) ∙ sym (get_or-set_same (byte_words words) p x 0 (omega arith)))
      | inr n ↦ get_or-set_other v.words p q x 0 n
          ∙ (k.values.known i q v at_i (knows_back words views v w p x q h knows) ∙ sym (get_or-set_other (byte_words words) p q x 0 n))
    ])

-- the rule after it
pub write_keeps : (words : List ℕ) (views : List View) (i : ℕ) (v w : View) (p x : ℕ) (k : IsKept words views) →
    get_elem? views i ≡ some v →
    IsWrite words views v w p x → ShownGood (set words p x) (set views i w) →
    KeepsContent (shown (set words p x) (set views i w)) (λ t. content_of (k.history t)) → (steps : List OneStep) →
    Filled steps k.all k.history (total_of (shown (set words p x) (set views i w))) (set views i w) → IsKept (set words p x) (set views i w)
write_keeps words views i v w p x k at_i h good content steps filled =
    let at_place = bytes_set words p x h.below in
    record {
      history = k.history;
      list = k.list;
      all = k.all;
      steps = steps;
      holders = rw at_place (holders_written (byte_words words) (set (byte_words words) p x) (total_of (shown words views))
          (total_of (shown (set words p x) (set views i w)))
          (idle_in views) (idle_in (set views i w)) (budget_in views) (budget_in (set views i w)) (logged_in views counted)
          (logged_in (set views i w) counted)
          k.holders (rw at_place at good) back word
          (λ t. let c = sum_set (λ u. idle_of u t) views i v w at_i in let e = h.idle t in omega arith)
          (λ t some_idle. let z = idle_within words views t in omega arith)
          (let c = sum_set (λ (u : View). u.budget) views i v w at_i in let e = h.budget in omega arith)
          (logs counted));
      values = rw at_place (write_values words views i v w p x k at_i h);
      reservations = reservations_same (total_of (shown words views)) (total_of (shown (set words p x) (set views i w))) (low_in views)
          (low_in (set views i w)) _ _ (uncut_in views) (uncut_in (set views i w))
          k.reservations back (low_set views i v w at_i h.raws) (λ t. logs (names t)) (λ t. logs (uncuts t));
      named = named_same (length (byte_words words)) (length (byte_words (set words p x))) (total_of (shown words views))
          (total_of (shown (set words p x) (set views i w))) _ _ (uncut_in views) (uncut_in (set views i w))
          k.named (rw at_place (length-set (byte_words words) p x)) forth (λ t. logs (names t)) (λ t. logs (uncuts t));
      logs = rw at_place (logs_same k.history (byte_words words) (set (byte_words words) p x) (total_of (shown words views))
          (total_of (shown (set words p x) (set views i w)))
          (logged_in views) (logged_in (set views i w)) (stakes_in views) (stakes_in (set views i w)) k.logs back word logs
          (stakes_set views i v w at_i (λ n. ap (λ (ss : List Stake). sum_by (λ (s : Stake). one (s.number == n)) ss) h.stakes)));
      content = content;
      reads = reads_other k.history words (set words p x) views i v w at_i k.reads h.stakes
          (λ t has.
          let a = h.free t in let b = h.own t in let c = h.ref t in
          let held = title_held v t has in
          held_title w t (omega arith))
          (λ quiet. sym h.handed ∙ quiet) h.unclean h.poisoned
          (λ t held. rw at_place (word t held));
      seen = seen_same (logged_in views) (logged_in (set views i w)) (ahead_in views) (ahead_in (set views i w)) (unseen_in views)
          (unseen_in (set views i w)) k.seen
          (λ t. logs (counted_on t))
          (λ t n. let c = sum_set (λ u. ahead_of u t n) views i v w at_i in let e : ahead_of w t n ≡ ahead_of v t n = rw h.seen refl in
          omega arith)
          (let c = sum_set unseen_of views i v w at_i in let e : unseen_of w ≡ unseen_of v = rw (h.stakes, h.seen) refl in omega arith);
      lists = lists_grown k.list views i v w at_i k.lists h.grown (λ t free.
          let a = frees_have v t in let b = frees_have w t in let e = h.free t in
          let held = held_in_all words views i v t at_i (omega arith) in
          let s = k.lists.free_seen i v at_i t (omega arith) in
          let more = h.grown.seen t in
          let same : count_word w.words t ≡ count_word v.words t = ap (λ ws. count_word ws t) h.known ∙
          get_or-set_other v.words p (count_place t) x 0 (λ e. h.content t held (sym e)) in
          let n : number_of (count_word w.words t) ≡ number_of (count_word v.words t) = ap number_of same in
          omega arith);
      undone = undone_set views i v w at_i h.uncut (λ u. let l = logs (uncuts u) in omega arith) k.undone;
      totals = totals_stay words (set words p x) views i v w at_i h.stakes k.totals (bytes_stay words p x h.below);
      ordered = order_same k.all k.list views i v w at_i h.stakes k.ordered;
      filled = filled;
    }
  where
    back : (t : Title) → IsTitleHeld (total_of (shown (set words p x) (set views i w))) t → IsTitleHeld (total_of (shown words views)) t
    back t held =
        let a = total_set words (set words p x) views i v w at_i (FreeTitle t) in
        let b = total_set words (set words p x) views i v w at_i (OwnOf t) in
        let c = total_set words (set words p x) views i v w at_i (RefOf t) in
        let d = h.free t in let e = h.own t in let f = h.ref t in
        omega arith

    forth : (t : Title) → IsTitleHeld (total_of (shown words views)) t → IsTitleHeld (total_of (shown (set words p x) (set views i w))) t
    forth t held =
        let a = total_set words (set words p x) views i v w at_i (FreeTitle t) in
        let b = total_set words (set words p x) views i v w at_i (OwnOf t) in
        let c = total_set words (set words p x) views i v w at_i (RefOf t) in
        let d = h.free t in let e = h.own t in let f = h.ref t in
        omega arith

    word : (t : Title) → IsTitleHeld (total_of (shown words views)) t →
        count_word (set (byte_words words) p x) t ≡ count_word (byte_words words) t
    word t held = get_or-set_other (byte_words words) p (count_place t) x 0 (λ e. h.content t held (sym e))

    logs : (weight : Entry → ℕ) → logged_in (set views i w) weight ≡ logged_in views weight
    logs weight =
        let c = sum_set (λ u. logged_of u weight) views i v w at_i in
        let e : logged_of w weight ≡ logged_of v weight = rw h.stakes refl in
        omega arith
