-- The fifth part after a counted step, and after a look.
use Rattle.std.proofs.Common.{◌≡◌, ℕ, ◌+◌, ◌<◌, ◌≤◌, Bool, true, false, List, ◌∷◌, length, set, refl, sym, ◌∙◌, ap, subst, arith, inl, inr, eqb}
use Rattle.std.specs.Prelude.{if◌then◌else◌}
use mathlib.Core.Option.{some}
use lib.ListN.{get_elem?}
use Rattle.pa_slot.specs.declared.title.Title.{Title}
use Rattle.pa_slot.specs.declared.title.OwnState.{OwnState}
use Rattle.pa_slot.specs.declared.word.Step.{Step}
use Rattle.pa_slot.specs.declared.word.Step.TheVariants.{Issue, Copy, Reset, Free, Write}
use Rattle.pa_slot.specs.Count.{stepped, number_of, refs_of}
use Rattle.pa_slot.specs.Titles.{same_title, count_place, count_word}
use Rattle.pa_slot.specs.Holdings.{FreeTitle, OwnOf, RefOf, one}
use Rattle.pa_machine.specs.Events.{total_of}
use Rattle.pa_machine.proofs.Parts.{word_covered}
use Rattle.pa_slot.proofs.Same.{title_tells}
use Rattle.pa_region.specs.declared.view.Entry.TheVariants.{Counted, Looked}
use Rattle.pa_region.specs.declared.view.OwnTitle.{OwnTitle}
use Rattle.pa_region.specs.declared.view.View.{View}
use Rattle.pa_region.specs.Views.{held_of_view, byte_words, shown, free_of, own_of, ref_of, seen_of}
use Rattle.pa_region.specs.Moves.{HasHandle, CanCount, is_own_of, idle_if, noted, moved, value_of, after_count, after_look}
use Rattle.pa_region.specs.Rule.{Values, IsKept}
use Rattle.pa_region.specs.Lists.{HasSeenFree, Lists}
use Rattle.pa_region.proofs.Adding.{changed_sum}
use Rattle.pa_region.proofs.Pieces.{handle_piece, moved_changes, frees_have, owns_have, refs_have}
use Rattle.pa_region.proofs.HolderPart.{IsCountStep, words_by, lost_here, gained_here, other_stays, word_here}
use Rattle.pa_region.proofs.SeenPart.{note, note_grows, note_here}
use Rattle.pa_region.proofs.Bytes.{held_in_all}
use Rattle.pa_region.proofs.Shown.{put_there}
use Rattle.pa_region.proofs.ValuePart.{ShownGood}
use Rattle.pa_region.proofs.ListPart.{IsGrown, lists_grown}
use Rattle.pa_slot.proofs.Runs.{number_stepped}

-- a counted step leaves keepers, leases, lists, stakes and what was seen to the entry
pub moved_rest : (step : Step) (t : Title) (word : ℕ) (v : View) →
    ((moved step t word v).keepers ≡ v.keepers) × ((moved step t word v).leases ≡ v.leases) ×
    ((moved step t word v).seen_lists ≡ v.seen_lists)
    × ((moved step t word v).stakes ≡ v.stakes) × ((moved step t word v).seen ≡ v.seen)
moved_rest Issue t word v = (refl, refl, refl, refl, refl)
moved_rest Copy t word v = (refl, refl, refl, refl, refl)
moved_rest Reset t word v = (refl, refl, refl, refl, refl)
moved_rest Free t word v = (refl, refl, refl, refl, refl)
moved_rest Write t word v = (refl, refl, refl, refl, refl)

-- of other titles it has no handle that it had not
other_handles : (step : Step) (t : Title) (word : ℕ) (v : View) (u : Title) → HasHandle step t v → (t ≡ u → ⊥) →
    0 < own_of (after_count step t word v) u + ref_of (after_count step t word v) u → 0 < own_of v u + ref_of v u
other_handles step t word v u can ne has =
    let w = after_count step t word v in
    let moves = moved_changes step t word v (handle_piece step t v can) in
    let gained = gained_here step t moves.sealed (stepped step word) u ne in
    let o = moves.changes (OwnOf u) in let r = moves.changes (RefOf u) in
    let go = gained.own in let gr = gained.ref in
    let held_own : held_of_view w (OwnOf u) ≡ held_of_view (moved step t word v) (OwnOf u) = refl in
    let held_ref : held_of_view w (RefOf u) ≡ held_of_view (moved step t word v) (RefOf u) = refl in
    let o1 = owns_have v u in let o2 = owns_have w u in
    let r1 = refs_have v u in let r2 = refs_have w u in
    omega arith

-- a view after a counted step has seen more, and entered nothing
pub count_grown : (step : Step) (t : Title) (word : ℕ) (v : View) → HasHandle step t v → IsGrown v (after_count step t word v)
count_grown step t word v can =
    let m = moved_rest step t word v in
    record {
      keepers = m.0;
      leases = m.1;
      lists = m.2;
      stakes = inr (Counted t step word (value_of step t v), ap (λ ss. noted (Counted t step word (value_of step t v)) ss) m.3, λ k. refl);
      seen = λ u. subst (λ ss. seen_of v u ≤ seen_of (record v { seen = note t (number_of word + 1) ∷ ss }) u) (sym m.4)
          (note_grows t (number_of word + 1) v.seen u);
      handles = λ u has. elim (title_tells t u) [
        | inl y ↦
            let s = note_here t (number_of word + 1) (moved step t word v).seen in
            inr (subst (λ (z : Title). 1 ≤ seen_of (after_count step t word v) z) y.1 (omega arith))
        | inr n ↦ inl (other_handles step t word v u can n.1 has)
      ];
    }

-- of a title that a view holds free it knows the word
pub free_word_known : (words : List ℕ) (views : List View) (i : ℕ) (v : View) (u : Title) → ShownGood words views →
    Values (byte_words words) views →
    get_elem? views i ≡ some v → 0 < free_of v u → count_word v.words u ≡ count_word (byte_words words) u
free_word_known words views i v u g vals at_i free =
    let f = frees_have v u in
    let held = held_in_all words views i v u at_i (omega arith) in
    vals.known i (count_place u) v at_i
    (inr (inl (u, free, word_covered (length (byte_words words)) u (count_place u) (g.divided.well u held) (omega arith, omega arith))))

-- after a counted step its view has seen the number of each title that it holds free
count_free : (step : Step) (t : Title) (a : OwnState) (words after : List ℕ) (views : List View) (i : ℕ) (v : View)
    (k : IsKept words views) → get_elem? views i ≡ some v →
    CanCount step t v →
    IsCountStep step t a (byte_words words) (total_of (shown words views))
    (total_of (shown after (set views i (after_count step t (count_word (byte_words words) t) v)))) →
    ShownGood after (set views i (after_count step t (count_word (byte_words words) t) v)) →
    Values (byte_words after) (set views i (after_count step t (count_word (byte_words words) t) v)) →
    byte_words after ≡ words_by step t (byte_words words) → HasSeenFree (after_count step t (count_word (byte_words words) t) v)
count_free step t a words after views i v k at_i can x good vals at_place u free =
    let word = count_word (byte_words words) t in
    let w = after_count step t word v in
    let known = free_word_known after (set views i w) i w u good vals (put_there views i v w at_i) free in
    elim (title_tells t u) [
      | inl y ↦
          let here : count_word (byte_words after) t ≡ stepped step word = ap (λ ws. count_word ws t) at_place
          ∙ word_here step t a (byte_words words) (total_of (shown words views)) _ _ _ _ k.holders x in
          let n = number_stepped step word x.can in
          let s = note_here t (number_of word + 1) (moved step t word v).seen in
          let e : number_of (count_word w.words u) ≡ number_of word + 1 =
          ap number_of (known ∙ (ap (λ z. count_word (byte_words after) z) (sym y.1) ∙ here)) ∙ n in
          let s2 : number_of word + 1 ≤ seen_of w u = subst (λ (z : Title). number_of word + 1 ≤ seen_of w z) y.1 s in
          omega arith
      | inr n ↦
          let moves = moved_changes step t word v (handle_piece step t v can.0) in
          let m = moves.changes (FreeTitle u) in
          let lost = (lost_here step t moves.sealed moves.state u n.1).free in
          let gained = (gained_here step t moves.sealed (stepped step word) u n.1).free in
          let now = frees_have w u in
          let held_now : held_of_view w (FreeTitle u) ≡ held_of_view (moved step t word v) (FreeTitle u) = refl in
          let was = frees_have v u in
          let before : 0 < free_of v u = omega arith in
          let held = held_in_all words views i v u at_i (omega arith) in
          let stays = (other_stays step t a (byte_words words) (total_of (shown words views)) _ _ _ _ k.holders x u n.1 held).word in
          let same : count_word (byte_words after) u ≡ count_word (byte_words words) u = ap (λ ws. count_word ws u) at_place ∙ stays in
          let known_before = free_word_known words views i v u k.holders.good k.values at_i before in
          let e : number_of (count_word w.words u) ≡ number_of (count_word v.words u) = ap number_of (known ∙ (same ∙ sym known_before)) in
          let s = k.lists.free_seen i v at_i u before in
          let g = (count_grown step t word v can.0).seen u in
          omega arith
    ]

-- a counted step keeps the part
pub count_lists : (step : Step) (t : Title) (a : OwnState) (words after : List ℕ) (views : List View) (i : ℕ) (v : View)
    (k : IsKept words views) → get_elem? views i ≡ some v →
    CanCount step t v →
    IsCountStep step t a (byte_words words) (total_of (shown words views))
    (total_of (shown after (set views i (after_count step t (count_word (byte_words words) t) v)))) →
    ShownGood after (set views i (after_count step t (count_word (byte_words words) t) v)) →
    Values (byte_words after) (set views i (after_count step t (count_word (byte_words words) t) v)) →
    byte_words after ≡ words_by step t (byte_words words) →
    Lists k.list (set views i (after_count step t (count_word (byte_words words) t) v))
count_lists step t a words after views i v k at_i can x good vals at_place =
    lists_grown k.list views i v (after_count step t (count_word (byte_words words) t) v) at_i k.lists
    (count_grown step t (count_word (byte_words words) t) v can.0)
    (count_free step t a words after views i v k at_i can x good vals at_place)

-- an Own that may have become idle is of the same title
idle_title : (word : ℕ) (o : OwnTitle) → (idle_if word o).title ≡ o.title
idle_title word o = go (eqb (refs_of word) 0)
  where
    go : (b : Bool) → (if b then record o { idle = true } else o).title ≡ o.title
    go true = refl
    go false = refl

-- a view after a look has seen more, and entered nothing
pub look_grown : (t : Title) (word : ℕ) (v : View) → IsGrown v (after_look t word v)
look_grown t word v = record {
  keepers = refl;
  leases = refl;
  lists = refl;
  stakes = inr (Looked t word, refl, λ k. refl);
  seen = λ u. note_grows t (number_of word) v.seen u;
  handles = λ u has.
      let o = changed_sum (is_own_of t) (idle_if word) (λ (x : OwnTitle). one (same_title x.title u)) v.owns
      (λ x. ap (λ z. one (same_title z u)) (idle_title word x)) in
      inl (omega arith);
}

pub look_lists : (t : Title) (word : ℕ) (words : List ℕ) (views : List View) (i : ℕ) (v : View) (k : IsKept words views) →
    get_elem? views i ≡ some v →
    Lists k.list (set views i (after_look t word v))
look_lists t word words views i v k at_i =
    lists_grown k.list views i v (after_look t word v) at_i k.lists (look_grown t word v)
    (λ u free. let s = k.lists.free_seen i v at_i u free in let g = (look_grown t word v).seen u in omega arith)
