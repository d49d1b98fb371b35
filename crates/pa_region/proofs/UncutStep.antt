-- Uncutting a free title is an enabled event of the core that is shown, and keeps the rule.
use Rattle.std.proofs.Common.{◌≡◌, ℕ, ◌+◌, ◌*◌, ◌<◌, ◌≤◌, Bool, true, false, ◌&&◌, List, [], ◌∷◌, length, set, refl, sym, ◌∙◌, ap, subst, arith, inl, inr, leb}
use Rattle.std.specs.List.{sum_by}
use Rattle.std.specs.Prelude.{◌==◌}
use Rattle.std.proofs.lemmas.List.Sums.{sum_by-cons}
use Rattle.std.proofs.lemmas.Bool.{lt-leb}
use mathlib.Core.Option.{some}
use lib.ListN.{get_elem?}
use Rattle.pa_slot.specs.declared.title.Title.{Title}
use Rattle.pa_machine.specs.declared.event.Event.TheVariants.{Uncut as UncutEvent}
use Rattle.pa_slot.specs.Titles.{same_title, Covers}
use Rattle.pa_slot.specs.Holdings.{RawPiece, FreePiece, RawByte, FreeTitle, OwnOf, OwnAs, RefOf, one, amount, IsTitleHeld}
use Rattle.pa_machine.specs.Events.{IsEnabled, Happens, total_of}
use Rattle.pa_slot.proofs.Same.{title_one}
use Rattle.pa_machine.proofs.Amounts.{free_self}
use Rattle.pa_machine.proofs.Parts.{Changes, raw_none, free_none}
use Rattle.pa_machine.proofs.Cutting.{covers_or, uncovered_raw, free_alone}
use Rattle.pa_machine.proofs.Happening.{after_changes, happens_good}
use Rattle.pa_machine.proofs.Noting.{keeps_content}
use Rattle.pa_region.specs.declared.view.RawRange.{RawRange}
use Rattle.pa_region.specs.declared.view.Entry.{Entry}
use Rattle.pa_region.specs.declared.view.Entry.TheVariants.{Uncut}
use Rattle.pa_region.specs.declared.view.Stake.{Stake}
use Rattle.pa_region.specs.declared.view.View.{View}
use Rattle.pa_region.specs.Views.{raw_piece, held_of_view, byte_words, shown, Knows, free_of, idle_of, idle_in, budget_in, low_of, low_in, uncut_in, undone_of, logged_of, logged_in, ahead_of, ahead_in, unseen_by, unseen_of, unseen_in, counted, counted_on, names, uncuts}
use Rattle.pa_region.specs.History.{content_of}
use Rattle.pa_region.specs.Rule.{IsKept}
use Rattle.pa_region.specs.Moves.{is_title_of}
use Rattle.pa_region.specs.Cuts.{raw_again, after_uncut, CanUncut}
use Rattle.pa_region.proofs.Adding.{sum_set, first_of, one_and}
use Rattle.pa_region.proofs.Pieces.{held_split, held_within, found_title, frees_have}
use Rattle.pa_region.proofs.Shown.{shown_actor, shown_held, is_after}
use Rattle.pa_region.proofs.ValuePart.{raw_outside, values_same}
use Rattle.pa_region.proofs.HolderPart.{holders_written}
use Rattle.pa_region.proofs.NamePart.{named_more}
use Rattle.pa_region.proofs.LogPart.{chain_other}
use Rattle.pa_region.proofs.SeenPart.{seen_same}
use Rattle.pa_region.proofs.ListPart.{lists_grown}
use Rattle.pa_region.proofs.EntryReads.{entry_reads}
use Rattle.pa_region.proofs.Entering.{noted_logs, noted_stakes, logged_set}
use Rattle.pa_region.proofs.Idle.{idle_within}
use Rattle.pa_region.proofs.Stays.{low_raw, stakes_set}
use Rattle.pa_region.proofs.Parting.{has_byte}
use Rattle.pa_region.proofs.TotalsPart.{words_stay, totals_other}
use Rattle.pa_region.proofs.OrderPart.{ending, order_plain}
use Rattle.pa_region.proofs.StepsPart.{logging, eased_titles, filled_entry}
use Rattle.pa_region.proofs.StepsKept.{others_apart}

-- what an uncut changes of what the view holds
pub uncut_changes : (t : Title) (v : View) → 0 < free_of v t →
    Changes (held_of_view v) (FreePiece t ∷ []) (RawPiece t.start t.len ∷ []) (held_of_view (after_uncut t v))
uncut_changes t v has x =
    let before = held_split v x in
    let after = held_split (after_uncut t v) x in
    let first = first_of (is_title_of t) v.frees has in
    let f = first.1.left_out (λ u. amount x (FreePiece u)) in
    let same : amount x (FreePiece first.0) ≡ amount x (FreePiece t) =
    ap (λ u. amount x (FreePiece u)) (found_title t first.0 first.1.passes) in
    omega (arith, sum_by-cons (λ r. amount x (raw_piece r)) (raw_again t) v.raws)

-- no title is free more often than before
pub uncut_fewer : (t : Title) (v : View) → 0 < free_of v t → (u : Title) → free_of (after_uncut t v) u ≤ free_of v u
uncut_fewer t v has u = let first = first_of (is_title_of t) v.frees has in let f = first.1.left_out (λ x. one (same_title x u)) in
    omega arith

-- an uncut is an event of the core that is shown
pub uncut_event : (t : Title) (words : List ℕ) (views : List View) (i : ℕ) (v : View) → IsKept words views → get_elem? views i ≡ some v →
    CanUncut t v →
    IsEnabled (UncutEvent i t) (shown words views) ×
    Happens (UncutEvent i t) (shown words views) (shown words (set views i (after_uncut t v)))
uncut_event t words views i v k at_i can =
    let has = can.0 in
    let s = shown_held words views i v at_i (FreeTitle t) in
    let f = frees_have v t in (
      (shown_actor words views i v at_i, omega arith),
      is_after words words views i v (after_uncut t v) (FreePiece t ∷ []) (RawPiece t.start t.len ∷ []) at_i (uncut_changes t v has),
    )

-- the stakes are the same
pub uncut_stakes : (t : Title) (v : View) → CanUncut t v → (k : ℕ) →
    sum_by (λ (s : Stake). one (s.number == k)) (after_uncut t v).stakes ≡ sum_by (λ (s : Stake). one (s.number == k)) v.stakes
uncut_stakes t v can k = noted_stakes (Uncut t) v.stakes k can.1

-- an uncut keeps the rule
pub uncut_keeps : (t : Title) (words : List ℕ) (views : List View) (i : ℕ) (v : View) → IsKept words views → get_elem? views i ≡ some v →
    CanUncut t v →
    IsKept words (set views i (after_uncut t v))
uncut_keeps t words views i v k at_i can =
    let w = after_uncut t v in
    let e = Uncut t in
    let event = uncut_event t words views i v k at_i can in
    let after = shown words (set views i w) in
    let logged : (weight : Entry → ℕ) → logged_of w weight ≡ logged_of v weight + weight e = λ weight. noted_logs e v.stakes weight can.1 in
    let more = logged_set views i v w e at_i logged in
    record {
      history = k.history;
      list = k.list;
      all = ending e v k.all;
      steps = logging e v ∷ k.steps;
      holders = holders_written (byte_words words) (byte_words words) (total_of (shown words views)) (total_of after) (idle_in views)
          (idle_in (set views i w))
          (budget_in views) (budget_in (set views i w)) (logged_in views counted) (logged_in (set views i w) counted) k.holders
          (happens_good (UncutEvent i t) (shown words views) after k.holders.good event.0 event.1) back (λ u held. refl)
          (λ u. let c = sum_set (λ (z : View). idle_of z u) views i v w at_i in omega arith)
          (λ u some_idle. let z = idle_within words views u in omega arith)
          (let b = sum_set (λ (u : View). u.budget) views i v w at_i in omega arith)
          (let m = more counted in omega arith);
      values = values_same (byte_words words) views i v w at_i k.values refl knows;
      reservations = record {
        floors = λ u b known covers. elim (title_one t u) [
          | inl y ↦ subst (λ (z : Title). low_in (set views i w) b z.born ≡ 0) y.1
              (here b (subst (λ (z : Title). Covers z b) (sym y.1) covers))
          | inr n ↦
              let z = n.0 in
              let m = more (names u) in
              let old : 0 < logged_in views (names u) = omega arith in
              let low = k.reservations.floors u b old covers in
              let s = lows b u.born in
              elim (covers_or t b) [
                | inl inside ↦
                    let less = k.reservations.later u t b old held (λ q. n.1 (sym q)) covers inside in
                    let far = high (t.born + 1) u.born (has_byte (raw_again t) b) (omega arith) in
                    omega arith
                | inr out ↦ let far = uncovered_raw t.start t.len b out in let apart = low_first t b u.born in omega arith
              ]
        ];
        later = λ u x b known other ne covers inside. elim (title_one t u) [
          | inl y ↦ absurd (ne (sym y.1 ∙
              k.holders.good.divided.apart t x b held (back x other) (subst (λ (z : Title). Covers z b) (sym y.1) covers) inside))
          | inr n ↦ let z = n.0 in let m = more (names u) in k.reservations.later u x b (omega arith) (back x other) ne covers inside
        ];
        gone = λ u known other. elim (title_one t u) [
          | inl y ↦ gone_now (subst (λ (z : Title). IsTitleHeld (total_of after) z) (sym y.1) other)
          | inr n ↦ let z = n.0 in let m = more (uncuts u) in k.reservations.gone u (omega arith) (back u other)
        ];
      };
      named = named_more t (length (byte_words words)) (length (byte_words words)) (total_of (shown words views)) (total_of after)
          (low_in views) _ _ (uncut_in views) (uncut_in (set views i w))
          k.named k.reservations k.holders.good.divided held refl
          (λ u none y. elim (title_one t u) [
            | inl s ↦ let z = s.0 in let m = more (uncuts u) in
                absurd (omega arith)
            | inr n ↦ stays u n.1 y
          ])
          (λ u. more (names u)) (λ u. let m = more (uncuts u) in omega arith);
      logs = record {
        chain = λ u. chain_other (logged_in views) (logged_in (set views i w)) e u (k.history u) (k.logs.chain u) more refl (λ n. refl)
            (λ p found written. refl) (λ found some_look. absurd (omega arith));
        last = λ u y. k.logs.last u (back u y);
        each_stake = λ n. stakes_set views i v w at_i (uncut_stakes t v can) n ∙ k.logs.each_stake n;
      };
      content = keeps_content (UncutEvent i t) (shown words views) after
          (λ u. content_of (k.history u)) k.holders.good event.0 event.1 k.content;
      reads = entry_reads k.history words views i v w e at_i k.reads refl refl can.1 refl (λ u found look. absurd (cc)) (λ u n. refl);
      seen = seen_same (logged_in views) (logged_in (set views i w)) (ahead_in views) (ahead_in (set views i w)) (unseen_in views)
          (unseen_in (set views i w)) k.seen
          (λ u. let m = more (counted_on u) in omega arith)
          (λ u n. let c = sum_set (λ z. ahead_of z u n) views i v w at_i in omega arith)
          (let c = sum_set unseen_of views i v w at_i in let d = logged (unseen_by v.seen) in omega arith);
      lists = lists_grown k.list views i v w at_i k.lists (record {
        keepers = refl;
        leases = refl;
        lists = refl;
        stakes = inr (e, refl, λ n. refl);
        seen = λ u. omega arith;
        handles = λ u has. inl has;
      })
          (λ u free. k.lists.free_seen i v at_i u (let l = uncut_fewer t v can.0 u in omega arith));
      undone = λ u.
          let c = sum_set (λ (z : View). undone_of z u) views i v w at_i in
          let one_more = sum_by-cons (λ (x : Title). one (same_title x u)) t v.uncut in
          let m = more (uncuts u) in
          let b = k.undone u in
          omega arith;
      totals = totals_other words words views i v w e at_i refl can.1 k.totals (words_stay words) more (λ n. refl) (λ q. refl)
          (λ q. omega arith);
      ordered = order_plain k.all k.list views i v w e at_i refl can.1 k.logs.each_stake (λ n. refl)
          (λ u word touch. absurd touch) k.ordered;
      filled = filled_entry k.steps k.all k.history (total_of (shown words views)) (total_of after) views i v w e at_i refl refl
          (record { frees = λ u. refl; keeps = λ u x. refl; fills = λ u. tt }) tt (others_apart words views i v k at_i can.1)
          (eased_titles _ _ (λ u state. let c = changes (OwnAs u state) in omega arith) (λ u. let c = changes (OwnOf u) in omega arith)
          (λ u. let c = changes (RefOf u) in omega arith)) k.filled;
    }
  where
    changes : Changes (total_of (shown words views)) (FreePiece t ∷ []) (RawPiece t.start t.len ∷ [])
        (total_of (shown words (set views i (after_uncut t v))))
    changes =
        let event = uncut_event t words views i v k at_i can in
        after_changes (shown words views) (shown words (set views i (after_uncut t v))) i _ _ _ event.0.0 event.1

    free : 0 < total_of (shown words views) (FreeTitle t)
    free = let has = can.0 in let f = frees_have v t in let w = held_within words views i v at_i (FreeTitle t) in omega arith

    held : IsTitleHeld (total_of (shown words views)) t
    held = let f = free in omega arith

    back : (u : Title) → IsTitleHeld (total_of (shown words (set views i (after_uncut t v)))) u →
        IsTitleHeld (total_of (shown words views)) u
    back u other =
        let l = raw_none t.start t.len u in
        let l0 = l.free in let l1 = l.own in let l2 = l.ref in
        let a = changes (FreeTitle u) in let b = changes (OwnOf u) in let c = changes (RefOf u) in
        omega arith

    stays : (u : Title) → (t ≡ u → ⊥) → IsTitleHeld (total_of (shown words views)) u →
        IsTitleHeld (total_of (shown words (set views i (after_uncut t v)))) u
    stays u ne other =
        let g = free_none t u ne in
        let g0 = g.free in let g1 = g.own in let g2 = g.ref in
        let a = changes (FreeTitle u) in let b = changes (OwnOf u) in let c = changes (RefOf u) in
        omega arith

    -- the title itself isn't held then
    gone_now : IsTitleHeld (total_of (shown words (set views i (after_uncut t v)))) t → ⊥
    gone_now other =
        let alone = free_alone (byte_words words) (total_of (shown words views)) t k.holders.good free in
        let p = alone.1 in let q = alone.2 in let r = alone.3 in
        let a = changes (FreeTitle t) in let b = changes (OwnOf t) in let c = changes (RefOf t) in
        let x = free_self t in
        omega arith

    -- how many ranges of the views have the byte with a low floor
    low_first : (t : Title) (b n : ℕ) → one (has_byte (raw_again t) b && leb (t.born + 1) n) ≤ one (has_byte (raw_again t) b)
    low_first t b n = one_and (has_byte (raw_again t) b) (leb (t.born + 1) n)

    lows : (b n : ℕ) → low_in (set views i (after_uncut t v)) b n ≡ low_in views b n + one (has_byte (raw_again t) b && leb (t.born + 1) n)
    lows b n =
        let c = sum_set (λ u. low_of u b n) views i v (after_uncut t v) at_i in
        omega (arith, sum_by-cons (λ (r : RawRange). one (has_byte r b && leb r.floor n)) (raw_again t) v.raws)

    high : (floor n : ℕ) (x : Bool) → n < floor → one (x && leb floor n) ≡ 0
    high floor n true above = ap one (lt-leb floor n above)
    high floor n false above = refl

    -- a byte of the title wasn't raw, and is raw with a floor above its `born` now
    here : (b : ℕ) → Covers t b → low_in (set views i (after_uncut t v)) b t.born ≡ 0
    here b covers =
        let z = raw_outside (byte_words words) (total_of (shown words views)) b t k.holders.good held covers in
        let l = low_raw words views b t.born in
        let s = lows b t.born in
        let far = high (t.born + 1) t.born (has_byte (raw_again t) b) (omega arith) in
        omega arith

    -- what the view knows it knew, as raw or in the title
    knows : (q : ℕ) → Knows (after_uncut t v) q → Knows v q
    knows q (inl raw) = elim (covers_or t (8 * q)) [
      | inl y ↦ inr (inl (t, can.0, y))
      | inr n ↦
          let c = uncut_changes t v can.0 (RawByte (8 * q)) in
          let far = uncovered_raw t.start t.len (8 * q) n in
          inl (omega arith)
    ]
    knows q (inr (inl free)) = let l = uncut_fewer t v can.0 free.0 in let has = free.1 in inr (inl (free.0, omega arith, free.2))
    knows q (inr (inr own)) = inr (inr own)
