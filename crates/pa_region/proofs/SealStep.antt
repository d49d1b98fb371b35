-- An issue of a sealed Own: it is an event of the core, keeps the rule, and leaves this of its view.
use Rattle.std.proofs.Common.{◌≡◌, ℕ, zero, suc, ◌+◌, ◌%◌, ◌^◌, ◌<◌, true, false, ◌&&◌, ◌||◌, List, [], ◌∷◌, set, get_or, refl, sym, ◌∙◌, ap, subst, arith, inl, inr}
use Rattle.std.specs.Prelude.{slice_index}
use Rattle.std.specs.List.{sum_by}
use Rattle.std.proofs.lemmas.List.Sums.{sum_by-cons}
use mathlib.Core.Option.{some}
use lib.ListN.{get_elem?}
use Rattle.atomic_table.specs.Seated.{TableId}
use Rattle.atomic_table.specs.Table.{Me, Allows, keeps}
use Rattle.atomic_table.specs.Table.{State as TableState}
use Rattle.pa_slot.specs.declared.title.Title.{Title}
use Rattle.pa_slot.specs.declared.title.OwnState.TheVariants.{Clean}
use Rattle.pa_slot.specs.declared.word.Step.TheVariants.{Issue}
use Rattle.pa_slot.specs.Count.{CanStep, stepped}
use Rattle.pa_slot.specs.Titles.{same_title, count_place, count_word}
use Rattle.pa_slot.specs.Holdings.{FreePiece, OwnPiece, RawByte, one, amount}
use Rattle.pa_slot.proofs.Same.{title_self, title_tells}
use Rattle.pa_machine.specs.declared.event.Event.TheVariants.{Sealed}
use Rattle.pa_machine.specs.Events.{IsEnabled, Happens, IsAfter}
use Rattle.pa_machine.proofs.Parts.{Changes}
use Rattle.pa_machine.proofs.Happening.{happens_good}
use Rattle.pa_region.specs.declared.view.OwnTitle.{OwnTitle}
use Rattle.pa_region.specs.declared.view.View.{View}
use Rattle.pa_region.specs.Views.{own_piece, held_of_view, byte_words, shown, sealed_of, idle_of, stake_of, HasStake}
use Rattle.pa_region.specs.Rule.{IsKept}
use Rattle.pa_region.specs.Moves.{CanCount, IsFound, is_title_of, is_own_of, seal, sealed_at, after_count, after_sealed}
use Rattle.pa_region.specs.Shares.{IsSeatSound, adds, SealedTells}
use Rattle.pa_region.specs.Leaves.{LeavesCount}
use Rattle.pa_region.proofs.Adding.{first_of, changed_sum}
use Rattle.pa_region.proofs.Pieces.{held_split, found_title}
use Rattle.pa_region.proofs.Bytes.{bytes_set, bytes_word, held_in_all, place_below}
use Rattle.pa_region.proofs.Shown.{is_after, put_there}
use Rattle.pa_region.proofs.Found.{handle_held, count_can, count_found}
use Rattle.pa_region.proofs.CountEvent.{count_event}
use Rattle.pa_region.proofs.CountStep.{count_keeps, count_stakes}
use Rattle.pa_region.proofs.Allowed.{adds_stepped, count_sound}
use Rattle.pa_region.proofs.Leaving.{count_leaves}
use Rattle.pa_region.proofs.SealKeeps.{seal_holds, seal_keeps}

-- the Own that the step makes is sealed, and the others are as before
sealed_owns : (t : Title) (word : ℕ) (v : View) →
    (after_sealed t word v).owns ≡ record { title = t; state = Clean; idle = true; sealed = true } ∷ v.owns
sealed_owns t word v = rw (title_self t) refl

-- what the step changes of what the view holds
sealed_changes : (t : Title) (word : ℕ) (v : View) → CanCount Issue t v →
    Changes (held_of_view v) (FreePiece t ∷ []) (OwnPiece true t Clean ∷ []) (held_of_view (after_sealed t word v))
sealed_changes t word v can x =
    let new : OwnTitle = record { title = t; state = Clean; idle = true; sealed = true } in
    let first = first_of (is_title_of t) v.frees can.0 in
    let f = first.1.left_out (λ u. amount x (FreePiece u)) in
    let same : amount x (FreePiece first.0) ≡ amount x (FreePiece t) =
    ap (λ u. amount x (FreePiece u)) (found_title t first.0 first.1.passes) in
    let owns : sum_by (λ o. amount x (own_piece o)) (after_sealed t word v).owns ≡ sum_by (λ o. amount x (own_piece o)) (new ∷ v.owns) =
    ap (λ (os : List OwnTitle). sum_by (λ o. amount x (own_piece o)) os) (sealed_owns t word v) in
    let before = held_split v x in
    let after = held_split (after_sealed t word v) x in
    omega (arith, sum_by-cons (λ o. amount x (own_piece o)) new v.owns)

-- the words and views after it
abbrev sealed_words : Title → List ℕ → List ℕ
sealed_words t words = set words (count_place t) (stepped Issue (count_word (byte_words words) t))

abbrev sealed_views : Title → List ℕ → List View → ℕ → View → List View
sealed_views t words views i v = set views i (after_sealed t (count_word (byte_words words) t) v)

-- an issue of a sealed Own is that event of the core that is shown
pub sealed_event : (t : Title) (words : List ℕ) (views : List View) (i : ℕ) (v : View) → IsKept words views →
    get_elem? views i ≡ some v → CanCount Issue t v →
    IsEnabled (Sealed i t) (shown words views) ×
    Happens (Sealed i t) (shown words views) (shown (sealed_words t words) (sealed_views t words views i v))
sealed_event t words views i v k at_i can =
    let word = count_word (byte_words words) t in
    let held = held_in_all words views i v t at_i (handle_held Issue t v can.0) in
    let at_place = bytes_set words (count_place t) (stepped Issue word) (place_below words views t k held) in (
      (count_event Issue t words views i v k at_i can).0,
      subst (λ (ws : List ℕ). IsAfter (shown words views) i (FreePiece t ∷ []) (OwnPiece true t Clean ∷ []) ws
          (shown (sealed_words t words) (sealed_views t words views i v))) at_place
          (is_after words (sealed_words t words) views i v (after_sealed t word v) (FreePiece t ∷ []) (OwnPiece true t Clean ∷ []) at_i
          (sealed_changes t word v can)),
    )

-- to put a member at a place twice is to put the second
set_twice : (views : List View) (i : ℕ) (v w : View) → set (set views i v) i w ≡ set views i w
set_twice [] i v w = refl
set_twice (x ∷ xs) zero v w = refl
set_twice (x ∷ xs) (suc i) v w = ap (λ vs. x ∷ vs) (set_twice xs i v w)

-- the Own that an issue makes is known to have no Ref
new_is_idle : (t : Title) (word : ℕ) (v : View) → 0 < idle_of (after_count Issue t word v) t
new_is_idle t word v =
    let new : OwnTitle = record { title = t; state = Clean; idle = true; sealed = false } in
    let c = sum_by-cons (λ (o : OwnTitle). one (same_title o.title t && (o.idle || o.sealed))) new v.owns in
    let z : one (same_title t t && true) ≡ 1 = rw (title_self t) refl in
    omega arith

-- an issue of a sealed Own keeps the rule
pub sealed_keeps : (t : Title) (words : List ℕ) (views : List View) (i : ℕ) (v : View) → IsKept words views →
    get_elem? views i ≡ some v → CanCount Issue t v → IsKept (sealed_words t words) (sealed_views t words views i v)
sealed_keeps t words views i v k at_i can =
    let word = count_word (byte_words words) t in
    let w = after_count Issue t word v in
    let event = sealed_event t words views i v k at_i can in
    let good = happens_good (Sealed i t) (shown words views) (shown (sealed_words t words) (sealed_views t words views i v))
    k.holders.good event.0 event.1 in
    let twice = set_twice views i w (sealed_at t w) in
    subst (λ (vs : List View). IsKept (sealed_words t words) vs) twice
    (seal_keeps t (sealed_words t words) (set views i w) i w (count_keeps Issue t words views i v k at_i can)
    (put_there views i v w at_i) (new_is_idle t word v)
    (rw twice good))

-- whatever the table is, a seat that can issue the title may issue it sealed
pub sealed_allowed : (t : Title) (slots id place added : ℕ) (me : Me (Unit {0}) View) → place ≡ count_place t → added ≡ adds Issue →
    CanCount Issue t me.0 →
    Allows (λ (s : TableState (Unit {0}) View). IsKept s.words s.views) slots id me place (λ n. (n + added) % 2 ^ 64)
    (λ word after. SealedTells t me word after)
sealed_allowed t slots id place added me at_place is can s k homes at_id small =
    let mine = handle_held Issue t me.0 can.0 in
    let held = held_in_all s.words s.views id me.0 t at_id mine in
    let word = count_word (byte_words s.words) t in
    let enabled = count_can Issue t s.words s.views id me.0 k at_id can in
    let found : slice_index s.words place ≡ word = ap (λ p. get_or s.words p 0) at_place ∙
    bytes_word s.words (count_place t) (place_below s.words s.views t k held) in
    let left : (slice_index s.words place + added) % 2 ^ 64 ≡ stepped Issue word =
    ap (λ n. (slice_index s.words place + n) % 2 ^ 64) is
    ∙ (ap (λ n. (n + adds Issue) % 2 ^ 64) found ∙ adds_stepped Issue word enabled) in (
      after_sealed t (slice_index s.words place) me.0,
      keeps,
      tt,
      subst (λ (n : ℕ). IsKept (set s.words place ((slice_index s.words place + added) % 2 ^ 64))
          (set s.views id (after_sealed t n me.0))) (sym found)
          (subst (λ (n : ℕ). IsKept (set s.words place n) (set s.views id (after_sealed t word me.0))) (sym left)
          (subst (λ (p : ℕ). IsKept (set s.words p (stepped Issue word)) (set s.views id (after_sealed t word me.0))) (sym at_place)
          (sealed_keeps t s.words s.views id me.0 k at_id can))),
      (
        refl,
        refl,
        subst (λ (n : ℕ). CanStep Issue n) (sym found) enabled,
        subst (λ (n : ℕ). IsFound t n me.0) (sym found) (count_found t s.words s.views id me.0 k at_id mine),
      ),
    )

-- what a seat's type keeps goes on
pub sealed_sound : (region : TableId) (t : Title) (word : ℕ) (v : View) → CanCount Issue t v → IsSeatSound region v →
    IsSeatSound region (after_sealed t word v)
sealed_sound region t word v can sound =
    let after = count_sound region Issue t word v can sound in
    let w = after_count Issue t word v in
    record {
      small = after.small;
      well = λ u has.
          let o = changed_sum (is_own_of t) seal (λ (x : OwnTitle). one (same_title x.title u)) w.owns (λ x. refl) in
          after.well u (omega arith);
      raw = λ b has. let e = seal_holds t w (RawByte b) (λ o. refl) in after.raw b (omega arith);
      long = after.long;
    }

-- the stakes are the same
pub sealed_stakes : (t : Title) (word : ℕ) (v : View) → HasStake v → (k : ℕ) → stake_of (after_sealed t word v) k ≡ stake_of v k
sealed_stakes t word v has k = count_stakes Issue t word v has k

-- it leaves what an issue leaves, and one sealed Own more
pub sealed_leaves : (t : Title) (word : ℕ) (v : View) → CanCount Issue t v →
    LeavesCount Issue t word v (after_sealed t word v) ×
    ((u : Title) → sealed_of (after_sealed t word v) u ≡ sealed_of v u + one (same_title t u))
sealed_leaves t word v can =
    let l = count_leaves Issue t word v can in
    let w = after_count Issue t word v in (
      record {
        raws = l.raws;
        frees = l.frees;
        owns = λ u.
            let o = changed_sum (is_own_of t) seal (λ (x : OwnTitle). one (same_title x.title u)) w.owns (λ x. refl) in
            let e = l.owns u in
            omega arith;
        refs = l.refs;
        budget = l.budget;
        entry = record {
          logs = l.entry.logs;
          least = l.entry.least;
          log = l.entry.log;
          other_logs = l.entry.other_logs;
          last = l.entry.last;
          stakes = l.entry.stakes;
        };
        seen = l.seen;
        known = l.known;
        others = l.others;
        count = l.count;
        keepers = l.keepers;
        leases = l.leases;
        lists = l.lists;
        uncut = l.uncut;
      },
      λ u.
          let new : OwnTitle = record { title = t; state = Clean; idle = true; sealed = true } in
          let owns = ap (λ (os : List OwnTitle). sum_by (λ (o : OwnTitle). one (same_title o.title u && o.sealed)) os)
          (sealed_owns t word v) in
          let c = sum_by-cons (λ (o : OwnTitle). one (same_title o.title u && o.sealed)) new v.owns in
          let z : one (same_title t u && true) ≡ one (same_title t u) = and_true t u in
          omega arith,
    )
  where
    and_true : (t u : Title) → one (same_title t u && true) ≡ one (same_title t u)
    and_true t u = elim (title_tells t u) [ inl y ↦ rw y.0 refl | inr n ↦ rw n.0 refl ]
