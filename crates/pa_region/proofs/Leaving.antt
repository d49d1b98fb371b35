-- What each step leaves of its view.
use Rattle.std.proofs.Common.{◌≡◌, ℕ, ◌+◌, ◌/◌, ◌<◌, Bool, true, false, ◌&&◌, List, [], ◌∷◌, length, set, refl, sym, ◌∙◌, ap, arith, ◌⊎◌, inl, inr, eqb}
use Rattle.std.specs.Prelude.{slice_index, if◌then◌else◌}
use Rattle.std.specs.List.{sum_by}
use Rattle.std.proofs.lemmas.List.{get_or-set_same, get_or-set_other}
use Rattle.std.proofs.lemmas.Bool.Decides.{eqb_tells}
use Rattle.pa_slot.specs.declared.title.Title.{Title}
use Rattle.pa_slot.specs.declared.title.OwnState.{OwnState}
use Rattle.pa_slot.specs.declared.word.Step.{Step}
use Rattle.pa_slot.specs.declared.word.Step.TheVariants.{Issue, Copy, Reset, Free, Write}
use Rattle.pa_slot.specs.Count.{stepped}
use Rattle.pa_slot.specs.Titles.{same_title, content_count, count_place, count_word, poison}
use Rattle.pa_slot.specs.Holdings.{FreePiece, FreeTitle, OwnOf, OwnAs, SealedOwn, RefOf, one, held_in}
use Rattle.pa_region.specs.declared.view.OwnTitle.{OwnTitle}
use Rattle.pa_region.specs.declared.view.Entry.{Entry}
use Rattle.pa_region.specs.declared.view.Entry.TheVariants.{Entered}
use Rattle.pa_region.specs.declared.view.Stake.{Stake}
use Rattle.pa_region.specs.declared.view.Keeper.{Keeper}
use Rattle.pa_region.specs.declared.view.View.{View}
use Rattle.pa_region.specs.Views.{held_of_view, least_stake, HasStake}
use Rattle.pa_region.specs.Pairs.{log_among}
use Rattle.pa_region.specs.Moves.{CanCount, is_back, is_own_of, changed, filled_with, noted, moved, after_count, after_look}
use Rattle.pa_region.specs.Entries.{new_entry, with_made, is_keeper, CanEnter, after_enter}
use Rattle.pa_region.specs.Leaves.{LeavesEntry, takes_free, takes_own, takes_ref, makes_ref, gives_back, LeavesCount, HoldsSame, LeavesEnter, OneOwnChanged}
use Rattle.pa_region.proofs.Adding.{first_of, changed_sum}
use Rattle.pa_region.proofs.Pieces.{frees_have, owns_have, refs_have, owns_as_have, seals_have, handle_piece, lost_by, gained_by, moved_changes}
use Rattle.pa_region.proofs.Entering.{with_entry_last, least_there, noted_logs, noted_stakes, least_noted}
use Rattle.pa_region.proofs.Waitings.{log_changed, last_noted}
use Rattle.pa_region.proofs.MovedRest.{moved_raws, moved_stakes, moved_uncut, moved_seen, entry_of}
use Rattle.pa_region.proofs.CountLists.{moved_rest}
use Rattle.pa_region.proofs.Filled.{filled_long, filled_beside}
use Rattle.pa_region.proofs.LookStep.{look_holds}
use Rattle.pa_region.proofs.EnterLists.{seen_after}

-- the log of another number
log_beside : (n k : ℕ) (e : Entry) (ss : List Stake) → (k ≡ n → ⊥) →
    log_among k (changed (λ (s : Stake). eqb s.number n) (with_entry_last e) ss) ≡ log_among k ss
log_beside n k e [] ne = refl
log_beside n k e (s ∷ ss) ne = elim (eqb_tells s.number n) [
  | inl y ↦ elim (eqb_tells s.number k) [ inl z ↦ absurd (ne (sym z.1 ∙ y.1)) | inr z ↦ rw (y.0, z.0) refl ]
  | inr m ↦ elim (eqb_tells s.number k) [ inl z ↦ rw (m.0, z.0) refl | inr z ↦ rw (m.0, z.0) (log_beside n k e ss ne) ]
]

-- what an entry leaves
pub entry_leaves : (e : Entry) (v w : View) → HasStake v → w.stakes ≡ noted e v.stakes → LeavesEntry e v w
entry_leaves e v w has same = record {
  logs = λ weight. rw same (noted_logs e v.stakes weight has);
  least = rw same (least_noted e v.stakes);
  log = rw same (log_changed (least_stake v.stakes) e v.stakes (least_there v.stakes has));
  other_logs = λ k ne. rw same (log_beside (least_stake v.stakes) k e v.stakes ne);
  last = rw same (last_noted e v.stakes has);
  stakes = λ k. rw same (noted_stakes e v.stakes k has);
}

-- what a step takes and gives of free titles, Owns and Refs
lost_free : (step : Step) (t : Title) (sealed : Bool) (a : OwnState) (u : Title) →
    held_in (lost_by step t sealed a) (FreeTitle u) ≡ one (takes_free step && same_title t u)
lost_free Issue t sealed a u = omega arith
lost_free Copy t sealed a u = refl
lost_free Reset t sealed a u = refl
lost_free Free t sealed a u = refl
lost_free Write t sealed a u = refl

back_free : (b : Bool) (t u : Title) → held_in (if b then FreePiece t ∷ [] else []) (FreeTitle u) ≡ one (b && same_title t u)
back_free true t u = omega arith
back_free false t u = refl

gained_free : (step : Step) (t : Title) (sealed : Bool) (left : ℕ) (u : Title) →
    held_in (gained_by step t sealed left) (FreeTitle u) ≡ one (gives_back step left && same_title t u)
gained_free Issue t sealed left u = refl
gained_free Copy t sealed left u = refl
gained_free Reset t sealed left u = back_free (is_back left) t u
gained_free Free t sealed left u = back_free (is_back left) t u
gained_free Write t sealed left u = refl

back_own : (b : Bool) (t u : Title) → held_in (if b then FreePiece t ∷ [] else []) (OwnOf u) ≡ 0
back_own true t u = refl
back_own false t u = refl

own_change : (step : Step) (t : Title) (sealed : Bool) (a : OwnState) (left : ℕ) (u : Title) →
    held_in (lost_by step t sealed a) (OwnOf u) + one (takes_free step && same_title t u)
    ≡ held_in (gained_by step t sealed left) (OwnOf u) + one (takes_own step && same_title t u)
own_change Issue t sealed a left u = omega arith
own_change Copy t sealed a left u = refl
own_change Reset t sealed a left u = let b = back_own (is_back left) t u in omega arith
own_change Free t sealed a left u = let b = back_own (is_back left) t u in omega arith
own_change Write t sealed a left u = omega arith

back_ref : (b : Bool) (t u : Title) → held_in (if b then FreePiece t ∷ [] else []) (RefOf u) ≡ 0
back_ref true t u = refl
back_ref false t u = refl

ref_change : (step : Step) (t : Title) (sealed : Bool) (a : OwnState) (left : ℕ) (u : Title) →
    held_in (lost_by step t sealed a) (RefOf u) + one (makes_ref step && same_title t u)
    ≡ held_in (gained_by step t sealed left) (RefOf u) + one (takes_ref step && same_title t u)
ref_change Issue t sealed a left u = refl
ref_change Copy t sealed a left u = omega arith
ref_change Reset t sealed a left u = let b = back_ref (is_back left) t u in omega arith
ref_change Free t sealed a left u = let b = back_ref (is_back left) t u in omega arith
ref_change Write t sealed a left u = refl

-- the words if the title isn't given back
words_stay : (step : Step) (t : Title) (word : ℕ) (v : View) → gives_back step (stepped step word) ≡ false →
    (moved step t word v).words ≡ v.words
words_stay Issue t word v e = refl
words_stay Copy t word v e = refl
words_stay Reset t word v e = rw e refl
words_stay Free t word v e = rw e refl
words_stay Write t word v e = refl

-- a counted step leaves each word outside its title as it was
words_beside : (step : Step) (t : Title) (word : ℕ) (v : View) (q : ℕ) → (q < t.start / 8) ⊎ (count_place t < q) →
    slice_index (moved step t word v).words q ≡ slice_index v.words q
words_beside Issue t word v q out = refl
words_beside Copy t word v q out = refl
words_beside Reset t word v q out = go (is_back (stepped Reset word))
  where
    go : (b : Bool) → slice_index
        (if b then set (filled_with poison t (content_count t) v.words) (count_place t) (stepped Reset word) else v.words) q ≡ slice_index
        v.words q
    go true =
        get_or-set_other (filled_with poison t (content_count t) v.words) (count_place t) q (stepped Reset word) 0
        (λ e. elim out [ inl y ↦ absurd (omega arith) | inr m ↦ absurd (omega arith) ])
        ∙ filled_beside poison t (content_count t) v.words q (elim out [ inl y ↦ inl y | inr m ↦ inr (omega arith) ])
    go false = refl
words_beside Free t word v q out = go (is_back (stepped Free word))
  where
    go : (b : Bool) → slice_index (if b then set v.words (count_place t) (stepped Free word) else v.words) q ≡ slice_index v.words q
    go true = get_or-set_other v.words (count_place t) q (stepped Free word) 0
        (λ e. elim out [ inl y ↦ absurd (omega arith) | inr m ↦ absurd (omega arith) ])
    go false = refl
words_beside Write t word v q out = refl

-- the count word if it is given back
word_back : (step : Step) (t : Title) (word : ℕ) (v : View) → gives_back step (stepped step word) ≡ true → count_place t < length v.words →
    count_word (moved step t word v).words t ≡ stepped step word
word_back Issue t word v e below = absurd (cc)
word_back Copy t word v e below = absurd (cc)
word_back Reset t word v e below =
    let l = filled_long poison t (content_count t) v.words in
    rw e (get_or-set_same (filled_with poison t (content_count t) v.words) (count_place t) (stepped Reset word) 0 (omega arith))
word_back Free t word v e below = rw e (get_or-set_same v.words (count_place t) (stepped Free word) 0 below)
word_back Write t word v e below = absurd (cc)

-- what a counted step leaves
pub count_leaves : (step : Step) (t : Title) (word : ℕ) (v : View) → CanCount step t v →
    LeavesCount step t word v (after_count step t word v)
count_leaves step t word v can =
    let w = after_count step t word v in
    let moves = moved_changes step t word v (handle_piece step t v can.0) in
    let rest = moved_rest step t word v in
    record {
      raws = moved_raws step t word v;
      frees = λ u.
          let e = moves.changes (FreeTitle u) in
          let l = lost_free step t moves.sealed moves.state u in let g = gained_free step t moves.sealed (stepped step word) u in
          let a = frees_have v u in let b = frees_have w u in
          let same : held_of_view w (FreeTitle u) ≡ held_of_view (moved step t word v) (FreeTitle u) = refl in
          omega arith;
      owns = λ u.
          let e = moves.changes (OwnOf u) in let c = own_change step t moves.sealed moves.state (stepped step word) u in
          let a = owns_have v u in let b = owns_have w u in
          let same : held_of_view w (OwnOf u) ≡ held_of_view (moved step t word v) (OwnOf u) = refl in
          omega arith;
      refs = λ u.
          let e = moves.changes (RefOf u) in let c = ref_change step t moves.sealed moves.state (stepped step word) u in
          let a = refs_have v u in let b = refs_have w u in
          let same : held_of_view w (RefOf u) ≡ held_of_view (moved step t word v) (RefOf u) = refl in
          omega arith;
      budget = refl;
      entry = entry_leaves (entry_of step t word v) v w can.1 (ap (λ ss. noted (entry_of step t word v) ss) (moved_stakes step t word v));
      seen = λ u. rw (moved_seen step t word v) refl;
      known = λ e. words_stay step t word v e;
      others = λ q out. words_beside step t word v q out;
      count = λ e below. word_back step t word v e below;
      keepers = rest.0;
      leases = rest.1;
      lists = rest.2;
      uncut = moved_uncut step t word v;
    }

-- what a look leaves
pub look_leaves : (t : Title) (word : ℕ) (v : View) → HoldsSame v (after_look t word v)
look_leaves t word v = record {
  frees = λ u. refl;
  owns = λ u. let e = look_holds t word v (OwnOf u) in let a = owns_have v u in let b = owns_have (after_look t word v) u in omega arith;
  states = λ u a. let e = look_holds t word v (OwnAs u a) in let x = owns_as_have v u a in let y = owns_as_have (after_look t word v) u a in
      omega arith;
  sealed = λ u. let e = look_holds t word v (SealedOwn u) in let x = seals_have v u in let y = seals_have (after_look t word v) u in
      omega arith;
  refs = λ u. refl;
}

-- what an entry in a keeper's list leaves
pub enter_leaves : (k : ℕ) (numbers : List ℕ) (v : View) → CanEnter k v → LeavesEnter k numbers v (after_enter k numbers v)
enter_leaves k numbers v can = record {
  list = seen_after k numbers v k ∙ elim (eqb_tells k k) [ inl y ↦ rw y.0 refl | inr n ↦ absurd (n.1 refl) ];
  other_lists = λ q ne. seen_after k numbers v q ∙ elim (eqb_tells q k) [ inl y ↦ absurd (ne y.1) | inr n ↦ rw n.0 refl ];
  keepers = λ q. changed_sum (is_keeper k) (with_made (new_entry numbers v)) (λ (p : Keeper). one (eqb p.number q)) v.keepers (λ p. refl);
  entry = entry_leaves (Entered k (new_entry numbers v)) v (after_enter k numbers v) can.1 refl;
}

-- the change of one Own
pub one_own : (t : Title) (change : OwnTitle → OwnTitle) (os : List OwnTitle) →
    0 < sum_by (λ (o : OwnTitle). one (same_title o.title t)) os →
    (o : OwnTitle) × OneOwnChanged t change os o
one_own t change os has =
    let first = first_of (is_own_of t) os has in (
      first.0,
      record {
        is_own = first.1.passes;
        within = λ f. let l = first.1.left_out f in omega arith;
        replaced = λ f. first.1.replaced change f;
      },
    )
