-- A look keeps the rule.
use Rattle.std.proofs.Common.{◌≡◌, ℕ, ◌+◌, ◌*◌, ◌%◌, ◌<◌, ◌≤◌, Bool, true, false, ◌&&◌, ◌||◌, List, [], ◌∷◌, ◌++◌, map, length, set, refl, ap, subst, arith, inl, inr, ltb}
use Rattle.std.specs.Prelude.{◌==◌, if◌then◌else◌}
use Rattle.std.specs.List.{sum_by}
use Rattle.std.proofs.lemmas.Bool.Decides.{eqb_tells}
use mathlib.Core.Option.{some}
use lib.ListN.{get_elem?}
use Rattle.pa_slot.specs.declared.title.Title.{Title}
use Rattle.pa_slot.specs.Count.{number_of, refs_of}
use Rattle.pa_slot.specs.Titles.{same_title, Covers, count_place, count_word}
use Rattle.pa_slot.specs.Holdings.{Piece, FreePiece, RefPiece, Thing, RawByte, FreeTitle, OwnOf, RefOf, one, IsTitleHeld}
use Rattle.pa_machine.specs.declared.event.Event.TheVariants.{Load}
use Rattle.pa_machine.specs.Events.{IsEnabled, Happens, total_of}
use Rattle.pa_machine.proofs.Parts.{word_covered}
use Rattle.pa_slot.proofs.Same.{title_tells}
use Rattle.pa_region.specs.declared.view.OwnTitle.{OwnTitle}
use Rattle.pa_region.specs.declared.view.Entry.{Entry}
use Rattle.pa_region.specs.declared.view.Entry.TheVariants.{Looked}
use Rattle.pa_region.specs.declared.view.View.{View}
use Rattle.pa_region.specs.Views.{raw_piece, own_piece, pieces_of, held_of_view, byte_words, shown, Knows, idle_of, idle_in, budget_in, low_in, uncut_in, stakes_in, logged_of, logged_in, counted, counted_on, names, uncuts, seen_among, HasTitle, HasStake}
use Rattle.pa_region.specs.History.{reached}
use Rattle.pa_region.specs.Rule.{IsKept}
use Rattle.pa_region.specs.Moves.{changed, is_own_of, idle_if, after_look}
use Rattle.pa_region.specs.Shares.{count_offset}
use Rattle.pa_region.proofs.Adding.{sum_set, one_lt}
use Rattle.pa_region.proofs.Pieces.{title_held, held_title, held_split, total_set, unchanged_sum, owns_have}
use Rattle.pa_region.proofs.HolderPart.{holders_same}
use Rattle.pa_region.proofs.ReservationPart.{reservations_count}
use Rattle.pa_region.proofs.NamePart.{named_more}
use Rattle.pa_region.proofs.LogPart.{logs_look, reached_number}
use Rattle.pa_region.proofs.SeenPart.{seen_entered, note, note_here}
use Rattle.pa_region.proofs.Entering.{noted_logs, noted_stakes, logged_set}
use Rattle.pa_region.proofs.Idle.{look_idle_other, look_idle_none}
use Rattle.pa_region.proofs.Bytes.{held_in_all}
use Rattle.pa_region.proofs.Shown.{shown_actor, map_same}
use Rattle.pa_region.proofs.CountEvent.{title_in_core}
use Rattle.pa_region.proofs.Stays.{low_set, stakes_set, undone_set, low_raw}
use Rattle.pa_region.proofs.ReadsSame.{reads_look}
use Rattle.pa_region.proofs.ValuePart.{values_same}
use Rattle.pa_region.proofs.CountLists.{look_lists}
use Rattle.pa_region.proofs.TotalsPart.{words_stay, totals_other}
use Rattle.pa_region.proofs.OneOrder.{touched_now}
use Rattle.pa_region.proofs.OrderPart.{ending, order_plain}
use Rattle.pa_region.proofs.StepsPart.{logging, eased_same, filled_entry}
use Rattle.pa_region.proofs.StepsKept.{others_apart}

-- a look leaves an Own the same piece
look_piece : (word : ℕ) (o : OwnTitle) → own_piece (idle_if word o) ≡ own_piece o
look_piece word o = go (refs_of word == 0)
  where
    go : (b : Bool) → own_piece (if b then record o { idle = true } else o) ≡ own_piece o
    go true = refl
    go false = refl

-- a view holds the same things after a look
pub look_holds : (t : Title) (word : ℕ) (v : View) (x : Thing) → held_of_view (after_look t word v) x ≡ held_of_view v x
look_holds t word v x =
    let before = held_split v x in
    let after = held_split (after_look t word v) x in
    let same = unchanged_sum t (idle_if word) v.owns (look_piece word) x in
    omega arith

-- a view knows no more words after a look
look_knows : (t : Title) (word : ℕ) (v : View) (q : ℕ) → Knows (after_look t word v) q → Knows v q
look_knows t word v q (inl raw) = let e = look_holds t word v (RawByte (8 * q)) in inl (omega arith)
look_knows t word v q (inr (inl free)) = inr (inl free)
look_knows t word v q (inr (inr own)) =
    let e = look_holds t word v (OwnOf own.0) in
    let now = owns_have (after_look t word v) own.0 in
    let was = owns_have v own.0 in
    let has = own.1 in
    inr (inr (own.0, omega arith, own.2))

-- the pieces of a view's Owns are the same after a look, one by one
look_pieces : (t : Title) (word : ℕ) (os : List OwnTitle) → map own_piece (changed (is_own_of t) (idle_if word) os) ≡ map own_piece os
look_pieces t word [] = refl
look_pieces t word (o ∷ os) = go (is_own_of t o) (look_pieces t word os)
  where
    go : (b : Bool) → map own_piece (changed (is_own_of t) (idle_if word) os) ≡ map own_piece os →
        map own_piece (if b then idle_if word o ∷ os else o ∷ changed (is_own_of t) (idle_if word) os) ≡ own_piece o ∷ map own_piece os
    go true again = ap (λ p. p ∷ map own_piece os) (look_piece word o)
    go false again = ap (λ ps. own_piece o ∷ ps) again

-- a look leaves the core that is shown
pub look_shown : (t : Title) (words : List ℕ) (views : List View) (i : ℕ) (v : View) → get_elem? views i ≡ some v →
    shown words (set views i (after_look t (count_word (byte_words words) t) v)) ≡ shown words views
look_shown t words views i v at_i =
    let same : pieces_of (after_look t (count_word (byte_words words) t) v) ≡ pieces_of v =
    ap (λ (os : List Piece). map raw_piece v.raws ++ (map FreePiece v.frees ++ (os ++ map RefPiece v.refs)))
    (look_pieces t (count_word (byte_words words) t) v.owns) in
    ap (λ (hs : List (List Piece)). record { words = byte_words words; holdings = hs }) (map_same pieces_of views i v _ at_i same)

-- a look is a load of the core
pub look_event : (t : Title) (words : List ℕ) (views : List View) (i : ℕ) (v : View) → IsKept words views → get_elem? views i ≡ some v →
    HasTitle v t →
    IsEnabled (Load i (count_offset t)) (shown words views) ×
    Happens (Load i (count_offset t)) (shown words views) (shown words (set views i (after_look t (count_word (byte_words words) t) v)))
look_event t words views i v k at_i mine = (
  (
    shown_actor words views i v at_i,
    (let z : (8 * count_place t) % 8 ≡ 0 = omega arith in z),
    inr (t, covers, title_in_core words views i v t at_i mine),
  ),
  look_shown t words views i v at_i,
)
  where
    covers : Covers t (count_offset t)
    covers =
        let held = held_in_all words views i v t at_i (title_held v t mine) in
        word_covered (length (byte_words words)) t (count_place t) (k.holders.good.divided.well t held) (omega arith, omega arith)

-- a look adds its entry to the view's logs
look_logged : (t : Title) (word : ℕ) (v : View) → HasStake v → (weight : Entry → ℕ) →
    logged_of (after_look t word v) weight ≡ logged_of v weight + weight (Looked t word)
look_logged t word v has weight = noted_logs (Looked t word) v.stakes weight has

-- a look at a held title keeps the rule
pub look_keeps : (t : Title) (words : List ℕ) (views : List View) (i : ℕ) (v : View) → IsKept words views → get_elem? views i ≡ some v →
    IsTitleHeld (held_of_view v) t → HasStake v → IsKept words (set views i (after_look t (count_word (byte_words words) t) v))
look_keeps t words views i v k at_i mine has =
    let word = count_word (byte_words words) t in
    let w = after_look t word v in
    let held = held_in_all words views i v t at_i mine in
    let more = logged_set views i v w (Looked t word) at_i (look_logged t word v has) in
    let same : (x : Thing) → total_of (shown words (set views i w)) x ≡ total_of (shown words views) x =
    λ x. let c = total_set words words views i v w at_i x in let d = look_holds t word v x in omega arith in
    let back : (u : Title) → IsTitleHeld (total_of (shown words (set views i w))) u → IsTitleHeld (total_of (shown words views)) u =
    λ u y. let p = same (FreeTitle u) in let q = same (OwnOf u) in let r = same (RefOf u) in omega arith in
    let forth : (u : Title) → IsTitleHeld (total_of (shown words views)) u → IsTitleHeld (total_of (shown words (set views i w))) u =
    λ u y. let p = same (FreeTitle u) in let q = same (OwnOf u) in let r = same (RefOf u) in omega arith in
    record {
      history = k.history;
      list = k.list;
      all = ending (Looked t word) v k.all;
      steps = logging (Looked t word) v ∷ k.steps;
      holders = holders_same (byte_words words) (total_of (shown words views)) _ (idle_in views) (idle_in (set views i w)) (budget_in views)
          (budget_in (set views i w))
          (logged_in views counted) (logged_in (set views i w) counted) k.holders same
          (λ u some_idle. elim (title_tells t u) [
            | inl y ↦ subst (λ (z : Title). 0 < idle_in (set views i w) z →
                refs_of (count_word (byte_words words) z) ≡ 0) y.1 here some_idle
            | inr n ↦
                let c = sum_set (λ (z : View). idle_of z u) views i v w at_i in
                let e = look_idle_other t u word v.owns n.1 in
                k.holders.known u (omega arith)
          ])
          (let b = sum_set (λ (u : View). u.budget) views i v w at_i in omega arith)
          (let m = more counted in omega arith);
      values = values_same (byte_words words) views i v w at_i k.values refl (λ q knows. look_knows t word v q knows);
      reservations = reservations_count t (byte_words words) (total_of (shown words views)) _ (idle_in views) (budget_in views)
          (logged_in views counted)
          (low_in views) (low_in (set views i w)) _ _ (uncut_in views) (uncut_in (set views i w))
          k.reservations k.holders held back (low_set views i v w at_i refl) (low_raw words views)
          (λ u. more (names u)) (λ u. let m = more (uncuts u) in omega arith);
      named = named_more t (length (byte_words words)) (length (byte_words words)) (total_of (shown words views))
          (total_of (shown words (set views i w))) (low_in views) _ _ (uncut_in views) (uncut_in (set views i w))
          k.named k.reservations k.holders.good.divided held refl (λ u none y. forth u y)
          (λ u. more (names u)) (λ u. let m = more (uncuts u) in omega arith);
      logs = logs_look t (byte_words words) (total_of (shown words views)) _ k.history (logged_in views) (logged_in (set views i w))
          (stakes_in views) (stakes_in (set views i w))
          k.logs held back more (stakes_set views i v w at_i (λ n. noted_stakes (Looked t word) v.stakes n has));
      content = rw (look_shown t words views i v at_i) k.content;
      reads = reads_look t words views i v k at_i (held_title v t mine) has k.reads;
      seen = seen_entered views i v w (logged_in views) (logged_in (set views i w)) (Looked t word) t (number_of word) at_i refl
          (look_logged t word v has) more
          (let m = more (counted_on t) in
          let l = (k.logs.chain t).all in
          let n = reached_number (k.history t) (k.logs.chain t).legal in
          let e : number_of word ≡ number_of (reached (k.history t)) = ap number_of (k.logs.last t held) in
          omega arith)
          (fresh (number_of word) (seen_among t (note t (number_of word) ∷ v.seen)) (note_here t (number_of word) v.seen))
          k.seen;
      lists = look_lists t word words views i v k at_i;
      undone = undone_set views i v w at_i refl (λ u. let m = more (uncuts u) in omega arith) k.undone;
      totals = totals_other words words views i v w (Looked t word) at_i refl has k.totals (words_stay words) more (λ n. refl) (λ q. refl)
          (λ q. omega arith);
      ordered = order_plain k.all k.list views i v w (Looked t word) at_i refl has k.logs.each_stake (λ n. refl)
          (touched_now words views t k held) k.ordered;
      filled = filled_entry k.steps k.all k.history (total_of (shown words views)) (total_of (shown words (set views i w))) views i v w
          (Looked t word) at_i refl refl
          (record { frees = λ u. refl; keeps = λ u x. refl; fills = λ u. tt }) tt (others_apart words views i v k at_i has)
          (eased_same _ _ same) k.filled;
    }
  where
    fresh : (n a : ℕ) → n ≤ a → one (ltb a n) ≡ 0
    fresh n a h = elim (one_lt a n) [ inl y ↦ let z = y.1 in absurd (omega arith) | inr m ↦ m.0 ]

    here : 0 < idle_in (set views i (after_look t (count_word (byte_words words) t) v)) t → refs_of (count_word (byte_words words) t) ≡ 0
    here some_idle = elim (eqb_tells (refs_of (count_word (byte_words words) t)) 0) [
      | inl y ↦ y.1
      | inr n ↦
          let c = sum_set (λ (z : View). idle_of z t) views i v (after_look t (count_word (byte_words words) t) v) at_i in
          let same : idle_of (after_look t (count_word (byte_words words) t) v) t ≡ idle_of v t =
          ap (λ (os : List OwnTitle). sum_by (λ (o : OwnTitle). one (same_title o.title t && (o.idle || o.sealed))) os)
          (look_idle_none t (count_word (byte_words words) t) v.owns n.1) in
          k.holders.known t (omega arith)
    ]
