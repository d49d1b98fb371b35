-- The report of the worked run of two threads: live, then quarantined, then cached.
use Rattle.std.proofs.Common.{◌≡◌, ℕ, ◌≤◌, true, List, [], ◌∷◌, refl, lit<, lit≤}
use Rattle.std.specs.Prelude.{AllPairs}
use Rattle.std.proofs.lemmas.List.Elements.{All-from_recursion}
use Rattle.pa_slot.specs.Run.{IsLive, IsQuarantined}
use Rattle.pa_buckets.specs.Table.{rows, row_of, slot_of}
use Rattle.pa_record.specs.declared.report.ReportLine.{ReportLine}
use Rattle.pa_rules.specs.Caches.{listed_slots}
use Rattle.pa_rules.specs.declared.played.Played.{Played}
use Rattle.pa_rules.specs.Played.{marks_of}
use Rattle.pa_rules.specs.Report.{until, IsTally, HasCensus, IsReportLine, IsReport, listed_bytes}
use Rattle.pa_rules.proofs.Running.{OtherLine}
use Rattle.pa_legal.proofs.tallies.Levels.{is_live, live_is, is_live_of, is_quarantined, quarantined_is, is_quarantined_of}
use Rattle.pa_examples.specs.Worked.{tally, report_line, two_threads_records, two_threads_journal, two_threads_pool, two_threads_census, two_threads_report}
use Rattle.pa_examples.proofs.worked.Slots.{Worded, are_worded}
use Rattle.pa_examples.proofs.worked.OneJournal.{census_of_one}
use Rattle.pa_examples.proofs.worked.OneFill.{roots, the_slot, has_size, counted}
use Rattle.pa_examples.proofs.worked.Report.{other_lines, slots_of_kind}
use Rattle.pa_examples.proofs.worked.Threads.{words, worded}
use Rattle.pa_examples.proofs.worked.ThreadsHeld.{after_1, after_2, after_3, cached_1, cached_2, cached_3}

-- the records up to the end of each phase
abbrev records : ℕ → List Played
records phase = until phase two_threads_records

-- the words that the slot had until then
abbrev words_1 : List Worded
words_1 = record { slot = the_slot; words = 0x1000001 ∷ 0x2000003 ∷ [] } ∷ []

abbrev words_2 : List Worded
words_2 = record { slot = the_slot; words = 0x1000001 ∷ 0x2000003 ∷ 0x3000002 ∷ [] } ∷ []

worded_1 : are_worded (marks_of (records 1)) words_1 ≡ true
worded_1 = refl

worded_2 : are_worded (marks_of (records 2)) words_2 ≡ true
worded_2 = refl

alone_1 : AllPairs OtherLine (marks_of (records 1))
alone_1 = other_lines (marks_of (records 1)) refl

alone_2 : AllPairs OtherLine (marks_of (records 2))
alone_2 = other_lines (marks_of (records 2)) refl

alone_3 : AllPairs OtherLine (marks_of (records 3))
alone_3 = other_lines (marks_of (records 3)) refl

live_1 : IsTally IsLive roots (records 1) 0 (tally 1 16)
live_1 = (
  _,
  16 ∷ [],
  slots_of_kind IsLive is_live live_is is_live_of refl roots (records 1) 0 words_1 (16 ∷ []) alone_1 worded_1
      (has_size, tt) refl,
  refl,
  refl,
)

quarantined_1 : IsTally IsQuarantined roots (records 1) 0 (tally 0 0)
quarantined_1 = (
  _,
  [],
  slots_of_kind IsQuarantined is_quarantined quarantined_is is_quarantined_of refl roots (records 1) 0 words_1
      [] alone_1 worded_1 tt refl,
  refl,
  refl,
)

live_2 : IsTally IsLive roots (records 2) 0 (tally 0 0)
live_2 = (_, [], slots_of_kind IsLive is_live live_is is_live_of refl roots (records 2) 0 words_2 [] alone_2 worded_2 tt refl, refl, refl)

quarantined_2 : IsTally IsQuarantined roots (records 2) 0 (tally 1 16)
quarantined_2 = (
  _,
  16 ∷ [],
  slots_of_kind IsQuarantined is_quarantined quarantined_is is_quarantined_of refl roots (records 2) 0 words_2 (16 ∷ []) alone_2 worded_2
      (has_size, tt) refl,
  refl,
  refl,
)

live_3 : IsTally IsLive roots (records 3) 0 (tally 0 0)
live_3 = (_, [], slots_of_kind IsLive is_live live_is is_live_of refl roots (records 3) 0 words [] alone_3 worded tt refl, refl, refl)

quarantined_3 : IsTally IsQuarantined roots (records 3) 0 (tally 0 0)
quarantined_3 = (
  _,
  [],
  slots_of_kind IsQuarantined is_quarantined quarantined_is is_quarantined_of refl roots (records 3) 0 words
      [] alone_3 worded tt refl,
  refl,
  refl,
)

-- the fill is of phase 1, and there is no other entry
has_census : (phase : ℕ) → 1 ≤ phase → HasCensus two_threads_records two_threads_pool roots phase 0 two_threads_census
has_census phase from = census_of_one two_threads_records two_threads_pool two_threads_journal phase _
    ((_, ((0, lit< tt, refl), refl), from), tt) refl counted

abbrev IsRight : ReportLine → Type 0
IsRight l = IsReportLine 1 2 two_threads_records two_threads_pool roots l

right_1 : IsRight (report_line 1 (tally 1 16) (tally 0 0) (tally 7 112) two_threads_census)
unfolding rows row_of slot_of listed_slots listed_bytes
right_1 = record { live = live_1; quarantined = quarantined_1; cached = (after_1, cached_1, refl, refl); root = has_census 1 (lit≤ tt) }

right_2 : IsRight (report_line 2 (tally 0 0) (tally 1 16) (tally 7 112) two_threads_census)
unfolding rows row_of slot_of listed_slots listed_bytes
right_2 = record { live = live_2; quarantined = quarantined_2; cached = (after_2, cached_2, refl, refl); root = has_census 2 (lit≤ tt) }

right_3 : IsRight (report_line 3 (tally 0 0) (tally 0 0) (tally 8 128) two_threads_census)
unfolding rows row_of slot_of listed_slots listed_bytes
right_3 = record { live = live_3; quarantined = quarantined_3; cached = (after_3, cached_3, refl, refl); root = has_census 3 (lit≤ tt) }

pub reported : IsReport 3 1 2 two_threads_records two_threads_pool roots two_threads_report
reported = record { places = refl; right = All-from_recursion IsRight two_threads_report (right_1, (right_2, (right_3, tt))) }
