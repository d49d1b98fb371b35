-- The worked run with a purge is closed: its seat is as required, so the words at the end hold the run.
use Rattle.std.proofs.Common.{◌≡◌, ℕ, zero, suc, ◌+◌, ◌*◌, ◌<◌, ◌≤◌, false, [], ◌∷◌, map, lit<, lit≤, refl, sym, ◌∙◌, ap, subst, arith, inl, inr}
use Rattle.std.specs.Prelude.{Contains}
use Rattle.std.proofs.lemmas.Bool.{cases_eq, ne_eqb}
use Rattle.std.proofs.lemmas.List.Sums.{sum_by-cons}
use Rattle.pa_slot.specs.declared.title.Title.{Title}
use Rattle.pa_slot.specs.Count.{number_of, held_of, refs_of}
use Rattle.pa_slot.specs.Titles.{same_title, count_word}
use Rattle.pa_slot.specs.Holdings.{one}
use Rattle.pa_slot.proofs.Same.{title_tells}
use Rattle.pa_buckets.specs.Table.{rows, row_of, slot_of, pages_of, slots_of}
use Rattle.pa_buckets.specs.Bands.{fill_of}
use Rattle.pa_region.specs.Views.{seen_among, names, logged_of, HasTitle}
use Rattle.pa_region.specs.AllReads.{HasAllLogs}
use Rattle.pa_region.specs.Ends.{IsEnd, EndsWith}
use Rattle.pa_region.specs.History.{reached, content_of}
use Rattle.pa_record.specs.declared.numbered.Numbered.{Numbered}
use Rattle.pa_record.specs.Root.{new_root, root_replayed}
use Rattle.pa_record.specs.Sound.{IsMade}
use Rattle.pa_record.specs.Spans.{name_of}
use Rattle.pa_record.specs.Laws.{IsNameOut, times_left, times_back}
use Rattle.pa_record.specs.Worked.{purge_pool, purge_journal}
use Rattle.pa_record.proofs.Leaving.{out_is_left}
use Rattle.pa_lists.proofs.Members.{not_in_none}
use Rattle.pa_record.proofs.Worked.{purge}
use Rattle.pa_rules.specs.Caches.{IsOfClass}
use Rattle.pa_examples.specs.WorkedPurge.{purge_trace}
use Rattle.pa_examples.proofs.worked.Lists.{each}
use Rattle.pa_examples.proofs.worked.OneFill.{filled, rest}
use Rattle.pa_examples.proofs.worked.Purge as worked
use Rattle.pa_logs.specs.Told.{told_of}
use Rattle.pa_logs.specs.Reads.{KnowsAll}
use Rattle.pa_logs.specs.Touches.{title_of}
use Rattle.pa_logs.specs.Said.{HasLogs}
use Rattle.pa_logs.specs.Standing.{ListedIsFree}
use Rattle.pa_logs.specs.Worked.{its_title, view_of}
use Rattle.pa_examples.specs.told.AllSaid.{title_number, span_slots}
use Rattle.pa_examples.specs.told.OneThread.{told_purge, purge_lists, later_slots, purge_words, purge_holding, seat_purge, PurgeIsClosed}
use Rattle.pa_examples.specs.told.Purge.{purge_told}
use Rattle.pa_examples.specs.told.Threads.{seen_number}
use Rattle.pa_examples.proofs.told.ClosedBy.{closed_by}
use Rattle.pa_examples.proofs.told.FreeSlots.{times_in, stands_in, slots_once, slot_has, none_raw, slots_apart, shape_of, made_free, words_at, words_long, first_word, by_slot}
use Rattle.pa_examples.proofs.told.OneThread.{fits_seat, fits_knows}
use Rattle.pa_examples.proofs.told.Purge.{last, last_history, last_other}
use Rattle.pa_examples.proofs.told.PurgeSaid.{roots, sizes, size_is, in_class_0, alone, alone_knows, says, lists, lists_are}
use Rattle.pa_examples.proofs.told.Seats.{FitsSeat, FitsHolding, weighed, all_logs, history_is, has_logs}
use Rattle.pa_examples.proofs.told.Uncuts.{unmaps_none, only_unmaps}

-- ---- the slots that it has: the first as an owner, the others free

whole : (count : ℕ) (t : Title) → times_in (span_slots (suc count)) t ≡ one (same_title its_title t) + times_in (later_slots count) t
unfolding span_slots later_slots
whole count t = sum_by-cons (λ u. one (same_title u t)) its_title (later_slots count)

-- which of the two
which : (t : Title) → HasTitle seat_purge t → 0 < times_in (span_slots 256) t
which t has = let all = whole 255 t in omega arith

-- a slot that isn't the first is free
is_free : (t : Title) → 0 < times_in (span_slots 256) t → same_title its_title t ≡ false → 0 < times_in (later_slots 255) t
is_free t there other = let all = whole 255 t in let none : one (same_title its_title t) ≡ 0 = rw other refl in omega arith

numbers_seen : (t : Title) → 0 < times_in (span_slots 256) t → number_of (count_word purge_words t) ≡ seen_among t (seen_number 3)
numbers_seen = by_slot 0x3000001 (λ t. number_of (count_word purge_words t) ≡ seen_among t (seen_number 3))
    (ap number_of (first_word 0x3000001))
    (λ t other zero_word. ap number_of zero_word ∙ rw other refl)

held : FitsHolding purge_told (seen_number 3) seat_purge
held = record {
  raw_none = none_raw (later_slots 255) _;
  free_once = λ t. let all = whole 255 t in let few = slots_once 256 t in omega arith;
  own_once = λ t. let all = whole 255 t in let few = slots_once 256 t in omega arith;
  free_alone = λ t free. let all = whole 255 t in let few = slots_once 256 t in omega arith;
  apart = λ t u b has has'. slots_apart t u b (which t has) (which u has');
  gone = λ t cut has. absurd (omega arith);
  undone = λ t cut has. absurd (omega arith);
  free_seen = λ t free. numbers_seen t (let all = whole 255 t in omega arith);
  handles = λ t has. elim (title_tells its_title t) [
    | inl y ↦ subst (λ u. 1 ≤ seen_among u (seen_number 3)) y.1 (lit≤ tt)
    | inr n ↦ let none : one (same_title its_title t) ≡ 0 = rw n.0 refl in absurd (omega arith)
  ];
  long = words_long 2049 260094 0x3000001;
}

fits : FitsSeat purge_told (seen_number 3) purge_lists
fits = fits_seat purge_told (seen_number 3) purge_journal purge_pool alone

logs : HasLogs seat_purge purge_told
logs = has_logs purge_told (seen_number 3) purge_lists purge_holding fits held

the_logs : HasAllLogs seat_purge
the_logs = all_logs purge_told (seen_number 3) purge_lists purge_holding fits held.long

its_history : (t : Title) → the_logs.history t ≡ last.all.history t
unfolding the_logs fits
its_history t = history_is purge_told (seen_number 3) purge_lists purge_holding fits held.long t
    ∙ ap (λ (k : KnowsAll (view_of purge_told) purge_told). k.all.history t)
    (fits_knows purge_told (seen_number 3) purge_journal purge_pool alone ∙ alone_knows)

-- ---- the words

ends_first : EndsWith purge_words seat_purge its_title (the_logs.history its_title)
ends_first = record {
  last = first_word 0x3000001 ∙ sym (ap reached (its_history its_title ∙ last_history));
  poison = λ freed. let bit : 1 ≡ 0 = sym (ap held_of (first_word 0x3000001)) ∙ freed.0 in absurd (omega arith);
  content = λ own clean i low high. (words_at 2049 260094 0x3000001 (2048 + i)).1 (λ e. absurd (omega arith)) ∙
      sym (ap content_of (its_history its_title ∙ last_history));
}

ends_other : (t : Title) → same_title its_title t ≡ false → count_word purge_words t ≡ 0 →
    EndsWith purge_words seat_purge t (the_logs.history t)
ends_other t other zero_word = record {
  last = zero_word ∙ sym (ap reached (its_history t ∙ last_other t other));
  poison = λ freed. let some_refs = subst (λ w. 0 < refs_of w) zero_word freed.1 in absurd (omega arith);
  content = λ own clean. let bit : 0 ≡ 1 = sym (ap held_of zero_word) ∙ own in absurd (omega arith);
}

-- the logs name the one slot
named_is : (t : Title) → 0 < logged_of seat_purge (names t) → its_title ≡ t
named_is t named = elim (title_tells its_title t) [
  | inl y ↦ y.1
  | inr n ↦
      let none : told_of purge_told (names t) ≡ 0 = rw n.0 refl in
      let all = weighed purge_told (seen_number 3) purge_lists purge_holding fits (names t) in
      absurd (omega arith)
]

is_end : IsEnd purge_words seat_purge
is_end = record {
  aware = logs.aware;
  logs = the_logs;
  named = λ t named cut. subst (λ u. EndsWith purge_words seat_purge u (the_logs.history u)) (named_is t named) ends_first;
  held = λ t has. by_slot 0x3000001 (λ u. EndsWith purge_words seat_purge u (the_logs.history u)) ends_first ends_other t (which t has);
  values = λ place known. refl;
}

-- ---- the close

spans_are : map shape_of (root_replayed purge_pool purge_journal new_root).spans ≡ (16384, 0, 0, 256) ∷ []
unfolding rows row_of slot_of pages_of slots_of fill_of
spans_are = refl

-- the first slot is out: it left the root twice, and came back once
is_out : IsNameOut (root_replayed purge_pool purge_journal new_root) (name_of its_title)
is_out = elim (out_is_left purge_pool purge_journal (name_of its_title) purge.is_journal) [
  | inl y ↦ y.0
  | inr n ↦ absurd (none n.1)
]
  where
    none : times_left (name_of its_title) purge_journal ≡ times_back (name_of its_title) purge_journal → ⊥
    none e = absurd (omega arith)

rooted : (p : ℕ) (u : Title) → IsMade (root_replayed purge_pool (roots p) new_root) u →
    (IsNameOut (root_replayed purge_pool (roots p) new_root) (name_of u) → ⊥) → 0 < times_in (later_slots 255) u
rooted zero u made stays = elim (title_tells its_title u) [
  | inl y ↦ absurd (subst (λ (w : Title). IsNameOut (root_replayed purge_pool purge_journal new_root) (name_of w) → ⊥)
      (sym y.1) stays is_out)
  | inr n ↦ is_free u (made_free (root_replayed purge_pool purge_journal new_root) spans_are u made) n.0
]
rooted (suc p) u (s, among, number, below, is) stays = absurd (not_in_none s among)

-- a slot of the fill is free, but the first
abbrev IsListed : Numbered → Type 0
IsListed m = 0 < times_in (later_slots 255) (title_of sizes m.slot)

slot_free : (n : ℕ) → 0 < n → n < 256 → IsOfClass roots (name_of (title_number n)) 0 0 →
    0 < times_in (later_slots 255) (title_of sizes (name_of (title_number n)))
slot_free n some_number few of =
    let bytes = size_is (name_of (title_number n)) (in_class_0 (name_of (title_number n)) of) in
    let title : title_number n ≡ title_of sizes (name_of (title_number n)) =
    ap (λ (len : ℕ). record { start = 16384 + 16 * n; len = len; born = 0 }) (sym bytes) in
    subst (λ u. 0 < times_in (later_slots 255) u) title
    (is_free (title_number n) (stands_in (span_slots 256) (title_number n) (slot_has 256 n few)) (other n some_number))
  where
    other : (m : ℕ) → 0 < m → same_title its_title (title_number m) ≡ false
    other m more = elim (title_tells its_title (title_number m)) [
      | inl y ↦ let start : 16384 ≡ 16384 + 16 * m = ap (λ (u : Title). u.start) y.1 in absurd (omega arith)
      | inr n ↦ n.0
    ]

listed : ListedIsFree 1 1 sizes worked.at_end seat_purge
listed k p class m few alone real among =
    let first : 0 ≡ k = omega arith in
    let home : 0 ≡ p = omega arith in
    of_class class m (subst (λ q. Contains (worked.at_end 0 q class) m) (sym home)
    (subst (λ j. Contains (worked.at_end j p class) m) (sym first) among))
  where
    in_list : (m : Numbered) → Contains rest m → IsListed m
    in_list m there = each IsListed rest (
      slot_free 1 (lit< tt) (lit< tt) (_, _, filled, (0, lit< tt, refl), refl, (1, lit< tt, refl)),
      (
        slot_free 2 (lit< tt) (lit< tt) (_, _, filled, (0, lit< tt, refl), refl, (2, lit< tt, refl)),
        (
          slot_free 3 (lit< tt) (lit< tt) (_, _, filled, (0, lit< tt, refl), refl, (3, lit< tt, refl)),
          (
            slot_free 4 (lit< tt) (lit< tt) (_, _, filled, (0, lit< tt, refl), refl, (4, lit< tt, refl)),
            (
              slot_free 5 (lit< tt) (lit< tt) (_, _, filled, (0, lit< tt, refl), refl, (5, lit< tt, refl)),
              (
                slot_free 6 (lit< tt) (lit< tt) (_, _, filled, (0, lit< tt, refl), refl, (6, lit< tt, refl)),
                (slot_free 7 (lit< tt) (lit< tt) (_, _, filled, (0, lit< tt, refl), refl, (7, lit< tt, refl)), tt),
              ),
            ),
          ),
        ),
      ),
    ) m there

    of_class : (c : ℕ) (m : Numbered) → Contains (worked.at_end 0 0 c) m → IsListed m
    of_class c m there = elim (cases_eq c 0) [
      | inl e ↦ in_list m (subst (λ q. Contains (worked.at_end 0 0 q) m) e there)
      | inr other ↦ absurd (not_in_none m (rw (ne_eqb c 0 other) at there))
    ]

pub purge_closes : PurgeIsClosed
purge_closes = closed_by purge_trace told_purge seat_purge purge_told purge_words (says logs) lists
    (subst (λ at. ListedIsFree 1 1 sizes (at 1) seat_purge) (sym lists_are) listed)
    (only_unmaps purge_told (unmaps_none _ refl, (unmaps_none _ refl, (unmaps_none _ refl, (unmaps_none _ refl, tt))))) rooted refl is_end
