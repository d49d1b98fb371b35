-- An entry in a keeper's list keeps the rule.
use Rattle.std.proofs.Common.{◌≡◌, ℕ, ◌+◌, ◌≤◌, List, ◌∷◌, length, set, refl, sym, ◌∙◌, ap, subst, arith, inl, inr}
use mathlib.Core.Option.{some}
use lib.ListN.{get_elem?}
use Rattle.atomic_table.specs.Seated.{TableId}
use Rattle.atomic_table.specs.Table.{Me, Allows, keeps}
use Rattle.atomic_table.specs.Table.{State as TableState}
use Rattle.std.proofs.lemmas.List.{set-get_or}
use Rattle.pa_slot.specs.declared.title.Title.{Title}
use Rattle.pa_slot.specs.Holdings.{Piece, Thing, FreeTitle, OwnOf, RefOf, IsTitleHeld}
use Rattle.pa_machine.specs.Events.{total_of}
use Rattle.pa_region.specs.declared.view.Entry.{Entry}
use Rattle.pa_region.specs.declared.view.Entry.TheVariants.{Entered}
use Rattle.pa_region.specs.declared.view.View.{View}
use Rattle.pa_region.specs.Views.{pieces_of, byte_words, shown, idle_of, idle_in, budget_in, low_in, uncut_in, stakes_in, logged_of, logged_in, ahead_of, ahead_in, unseen_by, unseen_of, unseen_in, counted, counted_on, names, uncuts, HasStake}
use Rattle.pa_region.specs.Rule.{IsKept}
use Rattle.pa_region.specs.Shares.{IsSeatSound}
use Rattle.pa_region.specs.Entries.{new_entry, after_enter, CanEnter}
use Rattle.pa_region.proofs.Adding.{sum_set, one_lt}
use Rattle.pa_region.proofs.Pieces.{total_set}
use Rattle.pa_region.proofs.HolderPart.{holders_same}
use Rattle.pa_region.proofs.ValuePart.{values_same}
use Rattle.pa_region.proofs.ReservationPart.{reservations_same}
use Rattle.pa_region.proofs.NamePart.{named_same}
use Rattle.pa_region.proofs.LogPart.{chain_other}
use Rattle.pa_region.proofs.SeenPart.{seen_same}
use Rattle.pa_region.proofs.Entering.{noted_logs, noted_stakes, logged_set}
use Rattle.pa_region.proofs.Shown.{map_same}
use Rattle.pa_region.proofs.Stays.{low_set, stakes_set, undone_set}
use Rattle.pa_region.proofs.EntryReads.{entry_reads}
use Rattle.pa_region.proofs.SeatStakes.{SameStakes}
use Rattle.pa_region.proofs.TotalsPart.{words_stay, totals_other}
use Rattle.pa_region.proofs.OrderPart.{ending, order_more}
use Rattle.pa_region.proofs.StepsPart.{logging, eased_same, filled_entry}
use Rattle.pa_region.proofs.StepsKept.{others_apart}
use Rattle.pa_region.proofs.EnterLists.{list_with, list_grows, enter_lists}

-- the core that is shown stays
enter_shown : (k : ℕ) (numbers : List ℕ) (words : List ℕ) (views : List View) (i : ℕ) (v : View) → get_elem? views i ≡ some v →
    shown words (set views i (after_enter k numbers v)) ≡ shown words views
enter_shown k numbers words views i v at_i =
    ap (λ (hs : List (List Piece)). record { words = byte_words words; holdings = hs })
    (map_same pieces_of views i v (after_enter k numbers v) at_i refl)

-- the stakes are the same
pub enter_stakes : (k : ℕ) (numbers : List ℕ) (v : View) → HasStake v → SameStakes v (after_enter k numbers v)
enter_stakes k numbers v has n = noted_stakes (Entered k (new_entry numbers v)) v.stakes n has

-- an entry keeps the rule
pub enter_keeps : (k : ℕ) (numbers : List ℕ) (words : List ℕ) (views : List View) (i : ℕ) (v : View) → IsKept words views →
    get_elem? views i ≡ some v → CanEnter k v →
    IsKept words (set views i (after_enter k numbers v))
enter_keeps k numbers words views i v r at_i can =
    let stake = can.1 in
    let w = after_enter k numbers v in
    let e = Entered k (new_entry numbers v) in
    let logged : (weight : Entry → ℕ) → logged_of w weight ≡ logged_of v weight + weight e = λ weight. noted_logs e v.stakes weight stake in
    let more = logged_set views i v w e at_i logged in
    let same : (x : Thing) → total_of (shown words (set views i w)) x ≡ total_of (shown words views) x = λ x. let c =
    total_set words words views i v w at_i x in omega arith in
    let back : (u : Title) → IsTitleHeld (total_of (shown words (set views i w))) u → IsTitleHeld (total_of (shown words views)) u =
    λ u y. let p = same (FreeTitle u) in let q = same (OwnOf u) in let s = same (RefOf u) in omega arith in
    record {
      history = r.history;
      list = list_with r.list k (new_entry numbers v);
      all = ending e v r.all;
      steps = logging e v ∷ r.steps;
      holders = holders_same (byte_words words) (total_of (shown words views)) _ (idle_in views) (idle_in (set views i w)) (budget_in views)
          (budget_in (set views i w))
          (logged_in views counted) (logged_in (set views i w) counted) r.holders same
          (λ u some_idle. let c = sum_set (λ (z : View). idle_of z u) views i v w at_i in r.holders.known u (omega arith))
          (let b = sum_set (λ (u : View). u.budget) views i v w at_i in omega arith)
          (let m = more counted in omega arith);
      values = values_same (byte_words words) views i v w at_i r.values refl (λ q knows. knows);
      reservations = reservations_same (total_of (shown words views)) (total_of (shown words (set views i w))) (low_in views)
          (low_in (set views i w)) _ _ (uncut_in views) (uncut_in (set views i w))
          r.reservations back (low_set views i v w at_i refl) (λ u. let m = more (names u) in omega arith)
          (λ u. let m = more (uncuts u) in omega arith);
      named = named_same (length (byte_words words)) (length (byte_words words)) (total_of (shown words views))
          (total_of (shown words (set views i w))) _ _ (uncut_in views) (uncut_in (set views i w))
          r.named refl (λ u y. let p = same (FreeTitle u) in let q = same (OwnOf u) in let s = same (RefOf u) in omega arith)
          (λ u. let m = more (names u) in omega arith) (λ u. let m = more (uncuts u) in omega arith);
      logs = record {
        chain = λ u. chain_other (logged_in views) (logged_in (set views i w)) e u (r.history u) (r.logs.chain u) more refl (λ n. refl)
            (λ p found written. refl) (λ found some_look. absurd (omega arith));
        last = λ u y. r.logs.last u (back u y);
        each_stake = λ n. stakes_set views i v w at_i (λ m. noted_stakes e v.stakes m stake) n ∙ r.logs.each_stake n;
      };
      content = rw (enter_shown k numbers words views i v at_i) r.content;
      reads = entry_reads r.history words views i v w e at_i r.reads refl refl stake refl (λ u found look. absurd (cc)) (λ u n. refl);
      seen = seen_same (logged_in views) (logged_in (set views i w)) (ahead_in views) (ahead_in (set views i w)) (unseen_in views)
          (unseen_in (set views i w)) r.seen
          (λ u. let m = more (counted_on u) in omega arith)
          (λ u n. let c = sum_set (λ z. ahead_of z u n) views i v w at_i in omega arith)
          (let c = sum_set unseen_of views i v w at_i in let d = logged (unseen_by v.seen) in omega arith);
      lists = enter_lists r.list k numbers views i v at_i can once r.lists;
      undone = undone_set views i v w at_i refl (λ u. let m = more (uncuts u) in omega arith) r.undone;
      totals = totals_other words words views i v w e at_i refl stake r.totals (words_stay words) more (λ n. refl) (λ q. refl)
          (λ q. omega arith);
      ordered = order_more r.all r.list (list_with r.list k (new_entry numbers v)) views i v w e at_i refl stake r.logs.each_stake
          (list_grows r.list k (new_entry numbers v))
          (λ u word touch. absurd touch) r.ordered;
      filled = filled_entry r.steps r.all r.history (total_of (shown words views))
          (total_of (shown words (set views i w))) views i v w e at_i refl refl
          (record { frees = λ u. refl; keeps = λ u x. refl; fills = λ u. tt }) tt (others_apart words views i v r at_i stake)
          (eased_same _ _ same) r.filled;
    }
  where
    once : (n : ℕ) → stakes_in views n ≤ 1
    once n = let e = r.logs.each_stake n in elim (one_lt n 16) [ inl y ↦ let z = y.0 in omega arith | inr m ↦ let z = m.0 in omega arith ]

-- what the step reports: the view after it
abbrev pub EnterTells : ℕ → List ℕ → Me (Unit {0}) View → Me (Unit {0}) View → Type 0
EnterTells k numbers me after = (after.0 ≡ after_enter k numbers me.0) × (after.1 ≡ me.1)

-- whatever the table is, a seat that can make the entry may make it
pub enter_allowed : (k : ℕ) (numbers : List ℕ) (slots id place : ℕ) (me : Me (Unit {0}) View) → CanEnter k me.0 →
    Allows (λ (s : TableState (Unit {0}) View). IsKept s.words s.views) slots id me place (λ n. n)
    (λ word after. EnterTells k numbers me after)
enter_allowed k numbers slots id place me can s r homes at_id small = (
  after_enter k numbers me.0,
  keeps,
  tt,
  subst (λ (ws : List ℕ). IsKept ws (set s.views id (after_enter k numbers me.0))) (sym (set-get_or s.words place 0))
      (enter_keeps k numbers s.words s.views id me.0 r at_id can),
  (refl, refl),
)

-- what a seat's type keeps goes on
pub enter_sound : (region : TableId) (k : ℕ) (numbers : List ℕ) (v : View) → IsSeatSound region v →
    IsSeatSound region (after_enter k numbers v)
enter_sound region k numbers v s = record { small = s.small; well = s.well; raw = s.raw; long = s.long }
