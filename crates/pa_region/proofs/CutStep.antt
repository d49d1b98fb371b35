-- Cutting a title out of raw bytes is an enabled event of the core that is shown, and keeps the rule.
use Rattle.std.proofs.Common.{◌≡◌, ℕ, ◌+◌, ◌*◌, ◌<◌, ◌≤◌, List, [], ◌∷◌, length, set, refl, sym, ◌∙◌, subst, arith, inl, inr}
use Rattle.std.specs.List.{sum_by}
use Rattle.std.proofs.lemmas.List.Sums.{sum_by-cons}
use Rattle.std.proofs.lemmas.Bool.{cases_lt}
use mathlib.Core.Option.{some}
use lib.ListN.{get_elem?}
use Rattle.pa_slot.specs.declared.title.Title.{Title}
use Rattle.pa_machine.specs.declared.event.Event.TheVariants.{Cut}
use Rattle.pa_slot.specs.Count.{number_of, refs_of}
use Rattle.pa_slot.specs.Titles.{same_title, Covers, count_place, count_word}
use Rattle.pa_slot.specs.Holdings.{RawPiece, FreePiece, RefPiece, Thing, RawByte, FreeTitle, OwnOf, OwnAs, SealedOwn, RefOf, one, amount, held_in, IsTitleHeld}
use Rattle.pa_machine.specs.Events.{IsEnabled, Happens, total_of}
use Rattle.pa_slot.proofs.Same.{title_tells, title_one}
use Rattle.pa_machine.proofs.Parts.{Changes, raw_none, free_none}
use Rattle.pa_machine.proofs.Cutting.{covered_raw, uncovered_raw, covers_or}
use Rattle.pa_machine.proofs.Happening.{after_changes, happens_good}
use Rattle.pa_machine.proofs.Noting.{keeps_content}
use Rattle.pa_region.specs.declared.view.OwnTitle.{OwnTitle}
use Rattle.pa_region.specs.declared.view.Entry.{Entry}
use Rattle.pa_region.specs.declared.view.View.{View}
use Rattle.pa_region.specs.Views.{raw_piece, own_piece, held_of_view, byte_words, shown, Knows, free_of, HasTitle, idle_of, budget_in, low_of, low_in, uncut_in, logged_of, logged_in, seen_of, ahead_of, ahead_in, unseen_of, unseen_in, counted, counted_on, names, uncuts}
use Rattle.pa_region.specs.History.{reached, content_of, IsChained}
use Rattle.pa_region.specs.Rule.{IsKept}
use Rattle.pa_region.specs.Cuts.{CanCut, titled}
use Rattle.pa_region.proofs.Adding.{sum_set, sum_part, sum_none}
use Rattle.pa_region.proofs.Pieces.{held_split, held_within}
use Rattle.pa_region.proofs.Shown.{shown_actor, shown_held, is_after}
use Rattle.pa_region.proofs.ValuePart.{raw_once, values_same}
use Rattle.pa_region.proofs.NamePart.{named_same}
use Rattle.pa_region.proofs.SeenPart.{seen_same, seen_within}
use Rattle.pa_region.proofs.ListPart.{lists_grown}
use Rattle.pa_region.proofs.ReadsSame.{reads_other}
use Rattle.pa_region.proofs.OneTitle.{unstepped}
use Rattle.pa_region.proofs.Entering.{logged_grows}
use Rattle.pa_region.proofs.Stays.{low_held, stakes_set, undone_set}
use Rattle.pa_region.proofs.Parting.{raws_part}
use Rattle.pa_region.proofs.Cutting.{outside_none, inside_none, titled_low, low_more, counted_names, uncut_names}
use Rattle.pa_region.proofs.TotalsPart.{words_stay, totals_stay}
use Rattle.pa_region.proofs.OrderPart.{order_same}
use Rattle.pa_region.proofs.StepsPart.{eased_titles, filled_same}

-- each byte of the title is raw in the view, once
cut_raw : (t : Title) (words : List ℕ) (views : List View) (i : ℕ) (v : View) (b : ℕ) → IsKept words views → get_elem? views i ≡ some v →
    CanCut t v → Covers t b →
    held_of_view v (RawByte b) ≡ 1
cut_raw t words views i v b k at_i can covers =
    let low = can.floors b covers in
    let raw = low_held v b t.born in
    let within = held_within words views i v at_i (RawByte b) in
    let once = raw_once (byte_words words) (total_of (shown words views)) b k.holders.good in
    omega arith

-- what the view's raw ranges lose
raws_change : (t : Title) (words : List ℕ) (views : List View) (i : ℕ) (v : View) (x : Thing) → IsKept words views →
    get_elem? views i ≡ some v → CanCut t v →
    sum_by (λ r. amount x (raw_piece r)) (titled t v).raws + held_in (RawPiece t.start t.len ∷ []) x ≡ sum_by
    (λ r. amount x (raw_piece r)) v.raws
raws_change t words views i v (RawByte b) k at_i can = elim (covers_or t b) [
  | inl here ↦
      let a = outside_none t.start (t.start + t.len) b v.raws here.0 here.1 in
      let c = covered_raw t.start t.len b here.0 here.1 in
      let s = held_split v (RawByte b) in
      let f = sum_none (λ (u : Title). amount (RawByte b) (FreePiece u)) v.frees (λ u. refl) in
      let g = sum_none (λ (o : OwnTitle). amount (RawByte b) (own_piece o)) v.owns (λ o. refl) in
      let h = sum_none (λ (u : Title). amount (RawByte b) (RefPiece u)) v.refs (λ u. refl) in
      let once = cut_raw t words views i v b k at_i can here in
      omega arith
  | inr far ↦
      let a = inside_none t.start (t.start + t.len) b v.raws far in
      let c = uncovered_raw t.start t.len b far in
      let p = raws_part t.start (t.start + t.len) (omega arith) v.raws (RawByte b) in
      omega arith
]
raws_change t words views i v (FreeTitle u) k at_i can =
    let a = sum_none (λ r. amount (FreeTitle u) (raw_piece r)) (titled t v).raws (λ r. refl) in
    let b = sum_none (λ r. amount (FreeTitle u) (raw_piece r)) v.raws (λ r. refl) in omega arith
raws_change t words views i v (OwnOf u) k at_i can =
    let a = sum_none (λ r. amount (OwnOf u) (raw_piece r)) (titled t v).raws (λ r. refl) in
    let b = sum_none (λ r. amount (OwnOf u) (raw_piece r)) v.raws (λ r. refl) in omega arith
raws_change t words views i v (OwnAs u s) k at_i can =
    let a = sum_none (λ r. amount (OwnAs u s) (raw_piece r)) (titled t v).raws (λ r. refl) in
    let b = sum_none (λ r. amount (OwnAs u s) (raw_piece r)) v.raws (λ r. refl) in omega arith
raws_change t words views i v (SealedOwn u) k at_i can =
    let a = sum_none (λ r. amount (SealedOwn u) (raw_piece r)) (titled t v).raws (λ r. refl) in
    let b = sum_none (λ r. amount (SealedOwn u) (raw_piece r)) v.raws (λ r. refl) in omega arith
raws_change t words views i v (RefOf u) k at_i can =
    let a = sum_none (λ r. amount (RefOf u) (raw_piece r)) (titled t v).raws (λ r. refl) in
    let b = sum_none (λ r. amount (RefOf u) (raw_piece r)) v.raws (λ r. refl) in omega arith

-- what a cut changes of what the view holds
cut_changes : (t : Title) (words : List ℕ) (views : List View) (i : ℕ) (v : View) → IsKept words views → get_elem? views i ≡ some v →
    CanCut t v →
    Changes (held_of_view v) (RawPiece t.start t.len ∷ []) (FreePiece t ∷ []) (held_of_view (titled t v))
cut_changes t words views i v k at_i can x =
    let before = held_split v x in
    let after = held_split (titled t v) x in
    let r = raws_change t words views i v x k at_i can in
    omega (arith, sum_by-cons (λ u. amount x (FreePiece u)) t v.frees)

-- the word that the view knows in the title's last place is the region's
cut_word : (t : Title) (words : List ℕ) (views : List View) (i : ℕ) (v : View) → IsKept words views → get_elem? views i ≡ some v →
    CanCut t v → count_word v.words t ≡ 0 →
    count_word (byte_words words) t ≡ 0
cut_word t words views i v k at_i can zero =
    let a = can.start_aligned in let b = can.len_aligned in let c = can.long in
    let raw = cut_raw t words views i v (8 * count_place t) k at_i can (omega arith, omega arith) in
    sym (k.values.known i (count_place t) v at_i (inl (omega arith))) ∙ zero

-- a cut is an event of the core that is shown
pub cut_event : (t : Title) (words : List ℕ) (views : List View) (i : ℕ) (v : View) → IsKept words views → get_elem? views i ≡ some v →
    CanCut t v → count_word v.words t ≡ 0 →
    IsEnabled (Cut i t) (shown words views) × Happens (Cut i t) (shown words views) (shown words (set views i (titled t v)))
cut_event t words views i v k at_i can zero = (
  (
    shown_actor words views i v at_i,
    (λ b low high. let s = shown_held words views i v at_i (RawByte b) in let h = cut_raw t words views i v b k at_i can (low, high) in
        omega arith),
    can.start_aligned,
    can.len_aligned,
    can.long,
    cut_word t words views i v k at_i can zero,
  ),
  is_after words words views i v (titled t v) (RawPiece t.start t.len ∷ []) (FreePiece t ∷ []) at_i
      (cut_changes t words views i v k at_i can),
)

-- no log names a title that can be cut
cut_unnamed : (t : Title) (words : List ℕ) (views : List View) (i : ℕ) (v : View) → IsKept words views → get_elem? views i ≡ some v →
    CanCut t v → logged_in views (names t) ≡ 0
cut_unnamed t words views i v k at_i can = elim (cases_lt 0 (logged_in views (names t))) [
  | inl y ↦
      let c = can.long in
      let z = k.reservations.floors t t.start y (omega arith, omega arith) in
      let has = can.floors t.start (omega arith, omega arith) in
      let p = sum_part (λ u. low_of u t.start t.born) views i v at_i in
      absurd (omega arith)
  | inr n ↦ omega arith
]

-- no log has a step on a title that can be cut, and nobody has seen one
pub cut_unseen : (t : Title) (words : List ℕ) (views : List View) (i : ℕ) (v : View) → IsKept words views → get_elem? views i ≡ some v →
    CanCut t v →
    (logged_in views (counted_on t) ≡ 0) × (seen_of v t ≡ 0)
cut_unseen t words views i v k at_i can =
    let none = cut_unnamed t words views i v k at_i can in
    let less = logged_grows views (counted_on t) (names t) (counted_names t) in
    let seen = seen_within views i v (logged_in views) (unseen_in views) at_i k.seen t in
    (omega arith, omega arith)

-- a cut keeps the rule
pub cut_keeps : (t : Title) (words : List ℕ) (views : List View) (i : ℕ) (v : View) → IsKept words views → get_elem? views i ≡ some v →
    CanCut t v → count_word v.words t ≡ 0 →
    IsKept words (set views i (titled t v))
cut_keeps t words views i v k at_i can zero =
    let w = titled t v in
    let event = cut_event t words views i v k at_i can zero in
    let after = shown words (set views i w) in
    let word = cut_word t words views i v k at_i can zero in
    record {
      history = k.history;
      list = k.list;
      all = k.all;
      steps = k.steps;
      holders = record {
        good = happens_good (Cut i t) (shown words views) after k.holders.good event.0 event.1;
        known = λ u some_idle. let c = sum_set (λ (z : View). idle_of z u) views i v w at_i in k.holders.known u (omega arith);
        affords = let b = sum_set (λ (u : View). u.budget) views i v w at_i in let l = logs counted in let a = k.holders.affords in
            omega arith;
        few = λ u held. elim (title_tells t u) [
          | inl y ↦
              let b = sum_set (λ (u : View). u.budget) views i v w at_i in let a = k.holders.affords in
              subst (λ (z : Title). budget_in (set views i w) + number_of (count_word (byte_words words) z) ≤ 65536) y.1
              (rw word (omega arith))
          | inr n ↦ let b = sum_set (λ (u : View). u.budget) views i v w at_i in let a = k.holders.few u (before u n.1 held) in omega arith
        ];
        few_refs = λ u held. elim (title_tells t u) [
          | inl y ↦ subst (λ (z : Title). refs_of (count_word (byte_words words) z) ≤ number_of (count_word (byte_words words) z)) y.1
              (rw word (omega arith))
          | inr n ↦ k.holders.few_refs u (before u n.1 held)
        ];
      };
      values = values_same (byte_words words) views i v w at_i k.values refl knows;
      reservations = record {
        floors = λ u b known covers. let z = k.reservations.floors u b (let l = logs (names u) in omega arith) covers in
            let l = low b u.born in omega arith;
        later = λ u x b known held ne covers inside.
            let old : 0 < logged_in views (names u) = let l = logs (names u) in omega arith in
            elim (title_tells t x) [
              | inl y ↦ subst (λ (z : Title). u.born < z.born) y.1
                  (born u b old covers (subst (λ (z : Title). Covers z b) (sym y.1) inside))
              | inr n ↦ k.reservations.later u x b old (before x n.1 held) ne covers inside
            ];
        gone = λ u known held.
            let old : 0 < uncut_in views u = let l = logs (uncuts u) in omega arith in
            elim (title_tells t u) [
              | inl y ↦
                  let none : logged_in views (names u) ≡ 0 =
                  subst (λ (z : Title). logged_in views (names z) ≡ 0) y.1 (cut_unnamed t words views i v k at_i can) in
                  let less = logged_grows views (uncuts u) (names u) (uncut_names u) in
                  absurd (omega arith)
              | inr n ↦ k.reservations.gone u old (before u n.1 held)
            ];
      };
      named = named_same (length (byte_words words)) (length (byte_words words)) (total_of (shown words views)) (total_of after) _ _
          (uncut_in views) (uncut_in (set views i w))
          k.named refl stays (λ u. logs (names u)) (λ u. logs (uncuts u));
      logs = record {
        chain = λ u. subst (λ (f : (Entry → ℕ) → ℕ). IsChained f u (k.history u)) (λ n weight. sym (logs weight) n) (k.logs.chain u);
        last = λ u held. elim (title_tells t u) [
          | inl y ↦ subst (λ (z : Title). count_word (byte_words words) z ≡ reached (k.history z)) y.1
              (word ∙ sym (unstepped (logged_in views) t (k.history t) (k.logs.chain t) (cut_unseen t words views i v k at_i can).0))
          | inr n ↦ k.logs.last u (before u n.1 held)
        ];
        each_stake = λ n. stakes_set views i v w at_i (λ m. refl) n ∙ k.logs.each_stake n;
      };
      content = keeps_content (Cut i t) (shown words views) after (λ u. content_of (k.history u)) k.holders.good event.0 event.1 k.content;
      reads = reads_other k.history words words views i v w at_i k.reads refl titles (λ quiet. quiet) (k.reads.each_view i v at_i).stake
          (λ u. omega arith) (λ u held. refl);
      seen = seen_same (logged_in views) (logged_in (set views i w)) (ahead_in views) (ahead_in (set views i w)) (unseen_in views)
          (unseen_in (set views i w)) k.seen
          (λ u. logs (counted_on u))
          (λ u n. let c = sum_set (λ z. ahead_of z u n) views i v w at_i in omega arith)
          (let c = sum_set unseen_of views i v w at_i in omega arith);
      lists = lists_grown k.list views i v w at_i k.lists
          (record { keepers = refl; leases = refl; lists = refl; stakes = inl refl; seen = λ u. omega arith; handles = λ u has. inl has })
          free_seen;
      undone = undone_set views i v w at_i refl (λ u. let l = logs (uncuts u) in omega arith) k.undone;
      totals = totals_stay words words views i v w at_i refl k.totals (words_stay words);
      ordered = order_same k.all k.list views i v w at_i refl k.ordered;
      filled = filled_same k.steps k.all k.history (total_of (shown words views)) (total_of after) views i v w at_i
          (eased_titles _ _ (λ u state. let c = changes (OwnAs u state) in omega arith) (λ u. let c = changes (OwnOf u) in omega arith)
          (λ u. let c = changes (RefOf u) in omega arith))
          refl (λ quiet. quiet) (λ did. did) (λ u some_own. some_own) k.filled;
    }
  where
    changes : Changes (total_of (shown words views)) (RawPiece t.start t.len ∷ []) (FreePiece t ∷ [])
        (total_of (shown words (set views i (titled t v))))
    changes =
        let event = cut_event t words views i v k at_i can zero in
        after_changes (shown words views) (shown words (set views i (titled t v))) i _ _ _ event.0.0 event.1

    -- another title is held as before
    before : (u : Title) → (t ≡ u → ⊥) → IsTitleHeld (total_of (shown words (set views i (titled t v)))) u →
        IsTitleHeld (total_of (shown words views)) u
    before u ne held =
        let l = raw_none t.start t.len u in let g = free_none t u ne in
        let a = changes (FreeTitle u) in let b = changes (OwnOf u) in let e = changes (RefOf u) in
        let g0 = g.free in let g1 = g.own in let g2 = g.ref in
        omega arith

    stays : (u : Title) → IsTitleHeld (total_of (shown words views)) u → IsTitleHeld (total_of (shown words (set views i (titled t v)))) u
    stays u held = let a = changes (FreeTitle u) in let b = changes (OwnOf u) in let e = changes (RefOf u) in omega arith

    logs : (weight : Entry → ℕ) → logged_in (set views i (titled t v)) weight ≡ logged_in views weight
    logs weight = let c = sum_set (λ u. logged_of u weight) views i v (titled t v) at_i in omega arith

    low : (b n : ℕ) → low_in (set views i (titled t v)) b n ≤ low_in views b n
    low b n = let c = sum_set (λ u. low_of u b n) views i v (titled t v) at_i in let l = titled_low t v b n in omega arith

    -- a title that some log names, and that shares a byte with the new one, was born earlier
    born : (u : Title) (b : ℕ) → 0 < logged_in views (names u) → Covers u b → Covers t b → u.born < t.born
    born u b known covers inside = elim (cases_lt u.born t.born) [
      | inl y ↦ y
      | inr n ↦
          let z = k.reservations.floors u b known covers in
          let has = can.floors b inside in
          let p = sum_part (λ x. low_of x b t.born) views i v at_i in
          let m = low_more views b t.born u.born n in
          absurd (omega arith)
    ]

    -- what the view knows it knew, as raw or in a title
    knows : (q : ℕ) → Knows (titled t v) q → Knows v q
    knows q (inl raw) = let c = cut_changes t words views i v k at_i can (RawByte (8 * q)) in inl (omega arith)
    knows q (inr (inl free)) =
        let c = sum_by-cons (λ u. one (same_title u free.0)) t v.frees in
        let has = free.1 in
        elim (title_one t free.0) [
          | inl y ↦ let r = cut_raw t words views i v (8 * q) k at_i can (subst (λ (z : Title). Covers z (8 * q)) (sym y.1) free.2) in
              inl (omega arith)
          | inr n ↦ let z = n.0 in inr (inl (free.0, omega arith, free.2))
        ]
    knows q (inr (inr own)) = inr (inr own)

    titles : (u : Title) → HasTitle v u → HasTitle (titled t v) u
    titles u has = let c = sum_by-cons (λ x. one (same_title x u)) t v.frees in omega arith

    free_seen : (u : Title) → 0 < free_of (titled t v) u → number_of (count_word v.words u) ≤ seen_of v u
    free_seen u free =
        let c = sum_by-cons (λ x. one (same_title x u)) t v.frees in
        elim (title_one t u) [
          | inl y ↦ subst (λ (z : Title). number_of (count_word v.words z) ≤ seen_of v z) y.1 (rw zero (omega arith))
          | inr n ↦ let z = n.0 in k.lists.free_seen i v at_i u (omega arith)
        ]
