-- The seat that closes the worked run of two threads: it is as a seat's type keeps it, and it has the slots of the span free.
use Rattle.std.proofs.Common.{◌≡◌, ℕ, ◌<◌, false, List, [], refl, sym, ◌∙◌, ap, subst, arith, inl, inr}
use Rattle.pa_slot.specs.declared.title.Title.{Title}
use Rattle.pa_slot.specs.Count.{number_of, held_of, refs_of}
use Rattle.pa_slot.specs.Titles.{same_title, count_word}
use Rattle.pa_slot.proofs.Same.{title_tells}
use Rattle.pa_region.specs.declared.view.View.{View}
use Rattle.pa_region.specs.Views.{seen_among, names, logged_of, HasTitle}
use Rattle.pa_region.specs.AllReads.{HasAllLogs}
use Rattle.pa_region.specs.Ends.{IsEnd, EndsWith}
use Rattle.pa_region.specs.History.{reached}
use Rattle.pa_record.specs.declared.entry.Answer.{Answer}
use Rattle.pa_logs.specs.Told.{ToldRecord, told_of, told_until}
use Rattle.pa_logs.specs.Reads.{KnowsAll}
use Rattle.pa_logs.specs.Said.{HasLogs}
use Rattle.pa_logs.specs.Worked.{its_title, view_of}
use Rattle.pa_examples.specs.told.Worked.{Worked}
use Rattle.pa_examples.specs.told.Threads.{seen_number}
use Rattle.pa_examples.specs.told.OtherReads.{reading_so}
use Rattle.pa_examples.specs.told.AllSaid.{span_slots, last_words, last_holding, seat_last, lists_until}
use Rattle.pa_examples.proofs.told.FreeSlots.{times_in, slots_once, none_raw, slots_apart, words_long, first_word, by_slot}
use Rattle.pa_examples.proofs.told.PhaseEnds.{KnowsUntil, fits_3, knows_3}
use Rattle.pa_examples.proofs.told.Played.{so_read}
use Rattle.pa_examples.proofs.told.Seats.{FitsSeat, FitsHolding, weighed, all_logs, history_is, has_logs}

-- All of the last seat's logs are known, and the last word of the slot's history. Another title has no history.
pub record KnowsLast (ts : List ToldRecord) : Type 0 where
  pub until : KnowsUntil ts 3
  pub first : reached (until.knows.all.history its_title) ≡ 0x4000000
  pub others : (t : Title) → same_title its_title t ≡ false → until.knows.all.history t ≡ []

module _ (answer : Answer) (word value after : ℕ) (last : KnowsLast (reading_so (so_read answer word value after))) where
  abbrev so : Worked
  so = so_read answer word value after

  abbrev ts : List ToldRecord
  ts = reading_so so

  abbrev v : View
  v = seat_last so

  fits : FitsSeat (told_until 3 ts) (seen_number 4) (lists_until 3)
  fits = fits_3 answer word value after last.until

  -- what it has is free
  has_free : (t : Title) → HasTitle v t → 0 < times_in (span_slots 256) t
  has_free t has = omega arith

  numbers_seen : (t : Title) → 0 < times_in (span_slots 256) t → number_of (count_word last_words t) ≡ seen_among t (seen_number 4)
  numbers_seen = by_slot 0x4000000 (λ t. number_of (count_word last_words t) ≡ seen_among t (seen_number 4))
      (ap number_of (first_word 0x4000000))
      (λ t other zero_word. ap number_of zero_word ∙ rw other refl)

  held : FitsHolding (told_until 3 ts) (seen_number 4) v
  held = record {
    raw_none = none_raw (span_slots 256) [];
    free_once = slots_once 256;
    own_once = λ t. omega arith;
    free_alone = λ t free. refl;
    apart = λ t u b has has'. slots_apart t u b (has_free t has) (has_free u has');
    gone = λ t cut has. absurd (omega arith);
    undone = λ t cut has. absurd (omega arith);
    free_seen = numbers_seen;
    handles = λ t has. absurd (omega arith);
    long = words_long 2049 260094 0x4000000;
  }

  pub last_logs : HasLogs v ts
  last_logs = has_logs (told_until 3 ts) (seen_number 4) (lists_until 3) last_holding fits held

  the_logs : HasAllLogs v
  the_logs = all_logs (told_until 3 ts) (seen_number 4) (lists_until 3) last_holding fits held.long

  its_history : (t : Title) → the_logs.history t ≡ last.until.knows.all.history t
  unfolding the_logs fits
  its_history t =
      history_is (told_until 3 ts) (seen_number 4) (lists_until 3) last_holding fits held.long t
      ∙ ap (λ (k : KnowsAll (view_of (told_until 3 ts)) (told_until 3 ts)). k.all.history t) (knows_3 answer word value after last.until)

  -- ---- the words

  ends_first : EndsWith last_words v its_title (the_logs.history its_title)
  ends_first = record {
    last = first_word 0x4000000 ∙ sym (ap reached (its_history its_title) ∙ last.first);
    poison = λ freed. let some_refs = subst (λ w. 0 < refs_of w) (first_word 0x4000000) freed.1 in absurd (omega arith);
    content = λ held clean. let bit : 0 ≡ 1 = sym (ap held_of (first_word 0x4000000)) ∙ held in absurd (omega arith);
  }

  ends_other : (t : Title) → same_title its_title t ≡ false → count_word last_words t ≡ 0 → EndsWith last_words v t (the_logs.history t)
  ends_other t other zero_word = record {
    last = zero_word ∙ sym (ap reached (its_history t ∙ last.others t other));
    poison = λ freed. let some_refs = subst (λ w. 0 < refs_of w) zero_word freed.1 in absurd (omega arith);
    content = λ held clean. let bit : 0 ≡ 1 = sym (ap held_of zero_word) ∙ held in absurd (omega arith);
  }

  -- the logs name the one slot
  named_is : (t : Title) → 0 < logged_of v (names t) → its_title ≡ t
  named_is t named = elim (title_tells its_title t) [
    | inl y ↦ y.1
    | inr n ↦
        let none : told_of (told_until 3 ts) (names t) ≡ 0 = rw n.0 refl in
        let all = weighed (told_until 3 ts) (seen_number 4) (lists_until 3) last_holding fits (names t) in
        absurd (omega arith)
  ]

  pub is_end : IsEnd last_words v
  is_end = record {
    aware = last_logs.aware;
    logs = the_logs;
    named = λ t named cut. subst (λ u. EndsWith last_words v u (the_logs.history u)) (named_is t named) ends_first;
    held = λ t has. by_slot 0x4000000 (λ u. EndsWith last_words v u (the_logs.history u)) ends_first ends_other t (has_free t has);
    values = λ place known. refl;
  }
