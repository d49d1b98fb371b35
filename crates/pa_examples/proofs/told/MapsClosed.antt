-- The worked run of direct maps is closed: its seat is as required, so the words at the end hold the run.
use Rattle.std.proofs.Common.{◌≡◌, ℕ, zero, suc, ◌+◌, ◌<◌, ◌≤◌, [], lit<, lit≤, refl, sym, ◌∙◌, ap, subst, arith, inl, inr}
use Rattle.std.specs.Prelude.{Contains}
use Rattle.pa_slot.specs.declared.title.Title.{Title}
use Rattle.pa_slot.specs.Count.{held_of}
use Rattle.pa_slot.specs.Titles.{same_title, count_word}
use Rattle.pa_slot.specs.Holdings.{one}
use Rattle.pa_slot.proofs.Same.{title_tells}
use Rattle.pa_buckets.specs.Table.{rows, row_of, slot_of, pages_of, slots_of}
use Rattle.pa_region.specs.Views.{seen_among, names, uncuts, logged_of, uncut_of, undone_of, HasTitle}
use Rattle.pa_region.specs.AllReads.{HasAllLogs}
use Rattle.pa_region.specs.Ends.{IsEnd, EndsWith}
use Rattle.pa_region.specs.History.{reached, content_of}
use Rattle.pa_record.specs.declared.numbered.Numbered.{Numbered}
use Rattle.pa_record.specs.Root.{new_root, root_replayed}
use Rattle.pa_record.specs.Sound.{IsMade}
use Rattle.pa_record.specs.Worked.{map_gone, direct_map_again_pool, direct_map_again_journal}
use Rattle.pa_lists.proofs.Members.{not_in_none}
use Rattle.pa_examples.specs.Worked.{direct_map_trace}
use Rattle.pa_examples.proofs.worked.MapsHeld.{at_end}
use Rattle.pa_examples.proofs.worked.MapsPlaced.{roots}
use Rattle.pa_logs.specs.Told.{told_of}
use Rattle.pa_logs.specs.Reads.{KnowsAll}
use Rattle.pa_logs.specs.Said.{HasLogs}
use Rattle.pa_logs.specs.Standing.{OnlyUnmapsUncut, ListedIsFree}
use Rattle.pa_logs.specs.Worked.{view_of}
use Rattle.pa_examples.specs.told.Entered.{in_root}
use Rattle.pa_examples.specs.told.Maps.{map_title, maps_told}
use Rattle.pa_examples.specs.told.OneThread.{told_maps, maps_lists, maps_words, maps_holding, seat_maps, DirectMapIsClosed}
use Rattle.pa_examples.proofs.told.ClosedBy.{closed_by}
use Rattle.pa_examples.proofs.told.FreeSlots.{words_at, words_long}
use Rattle.pa_examples.proofs.told.Maps.{last, last_history, by_name}
use Rattle.pa_examples.proofs.told.MapsSaid.{sizes, notes, alone, alone_knows, says, lists, lists_are}
use Rattle.pa_examples.proofs.told.OneThread.{fits_seat, fits_knows}
use Rattle.pa_examples.proofs.told.Seats.{FitsSeat, FitsHolding, weighed, all_logs, history_is, has_logs}
use Rattle.pa_examples.proofs.told.Uncuts.{unmaps_none, unmaps_one, only_unmaps}

-- the last seat has one title, that of the third map
has_third : (t : Title) → HasTitle seat_maps t → map_title 5 ≡ t
has_third t has = elim (title_tells (map_title 5) t) [
  | inl y ↦ y.1
  | inr n ↦ let none : one (same_title (map_title 5) t) ≡ 0 = rw n.0 refl in absurd (omega arith)
]

one_at_most : (t : Title) → one (same_title (map_title 5) t) ≤ 1
one_at_most t = elim (title_tells (map_title 5) t) [ inl y ↦ rw y.0 (lit≤ tt) | inr n ↦ rw n.0 (lit≤ tt) ]

held : FitsHolding maps_told notes seat_maps
held = record {
  raw_none = λ b. refl;
  free_once = λ t. omega arith;
  own_once = λ t. let few = one_at_most t in omega arith;
  free_alone = λ t free. absurd (omega arith);
  apart = λ t u b has has' here there. sym (has_third t has) ∙ has_third u has';
  gone = λ t cut has. subst (λ u. 0 < told_of maps_told (uncuts u) → ⊥) (has_third t has) (λ some_cut. absurd (omega arith)) cut;
  undone = λ t cut has. subst (λ u. 0 < undone_of seat_maps u → ⊥) (has_third t has) (λ some_cut. absurd (omega arith)) cut;
  free_seen = λ t free. absurd (omega arith);
  handles = λ t has. subst (λ u. 1 ≤ seen_among u notes) (has_third t (omega arith)) (lit≤ tt);
  long = words_long 252415 9728 0x1000001;
}

fits : FitsSeat maps_told notes maps_lists
fits = fits_seat maps_told notes direct_map_again_journal direct_map_again_pool alone

logs : HasLogs seat_maps maps_told
logs = has_logs maps_told notes maps_lists maps_holding fits held

the_logs : HasAllLogs seat_maps
the_logs = all_logs maps_told notes maps_lists maps_holding fits held.long

its_history : (t : Title) → the_logs.history t ≡ last.all.history t
unfolding the_logs fits
its_history t = history_is maps_told notes maps_lists maps_holding fits held.long t
    ∙ ap (λ (k : KnowsAll (view_of maps_told) maps_told). k.all.history t)
    (fits_knows maps_told notes direct_map_again_journal direct_map_again_pool alone ∙ alone_knows)

-- ---- the words

its_word : count_word maps_words (map_title 5) ≡ 0x1000001
its_word = (words_at 252415 9728 0x1000001 252415).0 refl

ends_third : EndsWith maps_words seat_maps (map_title 5) (the_logs.history (map_title 5))
ends_third = record {
  last = its_word ∙ sym (ap reached (its_history (map_title 5) ∙ last_history (map_title 5)));
  poison = λ freed. let bit : 1 ≡ 0 = sym (ap held_of its_word) ∙ freed.0 in absurd (omega arith);
  content = λ own clean i low high. (words_at 252415 9728 0x1000001 (2048 + i)).1 (λ e. absurd (omega arith)) ∙
      sym (ap content_of (its_history (map_title 5) ∙ last_history (map_title 5)));
}

-- of the three that the logs name two were uncut
named_is : (t : Title) → 0 < logged_of seat_maps (names t) → uncut_of seat_maps t ≡ 0 → map_title 5 ≡ t
named_is t named cut =
    let all = weighed maps_told notes maps_lists maps_holding fits (names t) in
    by_name (λ u. told_of maps_told (uncuts u) ≡ 0 → map_title 5 ≡ u) (λ none. absurd (omega arith)) (λ none. absurd (omega arith))
    (λ none. refl) t (omega arith)
    (sym (weighed maps_told notes maps_lists maps_holding fits (uncuts t)) ∙ cut)

is_end : IsEnd maps_words seat_maps
is_end = record {
  aware = logs.aware;
  logs = the_logs;
  named = λ t named cut. subst (λ u. EndsWith maps_words seat_maps u (the_logs.history u)) (named_is t named cut) ends_third;
  held = λ t has. subst (λ u. EndsWith maps_words seat_maps u (the_logs.history u)) (has_third t has) ends_third;
  values = λ place known. refl;
}

-- ---- the close

-- the root has no span
no_spans : (root_replayed direct_map_again_pool direct_map_again_journal new_root).spans ≡ []
unfolding rows row_of slot_of pages_of slots_of
no_spans = refl

none_made : (p : ℕ) (u : Title) → IsMade (root_replayed direct_map_again_pool (roots p) new_root) u → ⊥
none_made zero u (s, among, number, below, is) = not_in_none s (subst (λ ss. Contains ss s) no_spans among)
none_made (suc p) u (s, among, number, below, is) = not_in_none s among

none_listed : (k p class : ℕ) (m : Numbered) → k < 1 → Contains (at_end k p class) m → ⊥
none_listed zero p class m few among = not_in_none m among
none_listed (suc k) p class m few among = absurd (omega arith)

unmaps : OnlyUnmapsUncut maps_told
unmaps = only_unmaps maps_told (
  unmaps_none _ refl,
  (
    unmaps_one _ (map_title 0) refl (record {
      partition = 0;
      small = lit< tt;
      made = in_root (map_gone 3 1 16384 0 2);
      entry = map_gone 3 1 16384 0 2;
      asked = 1;
      slot = _;
      entered = (0, lit< tt, refl);
      says = refl;
      act = refl;
      names = refl;
    }),
    (
      unmaps_none _ refl,
      (
        unmaps_none _ refl,
        (
          unmaps_none _ refl,
          (
            unmaps_none _ refl,
            (
              unmaps_one _ (map_title 2) refl (record {
                partition = 0;
                small = lit< tt;
                made = in_root (map_gone 8 4 16384 2 4);
                entry = map_gone 8 4 16384 2 4;
                asked = 4;
                slot = _;
                entered = (0, lit< tt, refl);
                says = refl;
                act = refl;
                names = refl;
              }),
              (unmaps_none _ refl, tt),
            ),
          ),
        ),
      ),
    ),
  ),
)

pub direct_map_closes : DirectMapIsClosed
direct_map_closes = closed_by direct_map_trace told_maps seat_maps maps_told maps_words (says logs) lists
    (subst (λ at. ListedIsFree 1 1 sizes (at 1) seat_maps) (sym lists_are)
    (λ k p class m few one real among. absurd (none_listed k p class m few among)))
    unmaps (λ p u made stays. absurd (none_made p u made)) refl is_end
