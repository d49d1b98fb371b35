-- The slots of the worked run with an early read: pool and journal, holders, caches and report.
use Rattle.std.proofs.Common.{◌≡◌, ℕ, ◌≤◌, true, List, [], ◌∷◌, Some, refl, arith, inl, inr, lit<, lit≤}
use Rattle.std.specs.Prelude.{AllPairs}
use Rattle.std.specs.List.{AllByRecursion}
use Rattle.std.proofs.lemmas.List.Elements.{All-from_recursion}
use Rattle.pa_slot.specs.declared.word.Step.TheVariants as steps
use Rattle.pa_slot.specs.Run.{IsLive, IsQuarantined}
use Rattle.pa_buckets.specs.Table.{rows, row_of, slot_of}
use Rattle.pa_trace.specs.declared.script.Op.TheVariants as ops
use Rattle.pa_record.specs.declared.entry.Answer.TheVariants as answers
use Rattle.pa_record.specs.declared.report.ReportLine.{ReportLine}
use Rattle.pa_rules.specs.declared.played.Played.{Played}
use Rattle.pa_rules.specs.Played.{marks_of}
use Rattle.pa_rules.specs.Roots.{AreRoots, IsPoolOf, AreAllTitles}
use Rattle.pa_rules.specs.Holders.{InRoot, AreHolders}
use Rattle.pa_rules.specs.Caches.{Caches, with_cache, no_caches, DoneRow, CachesTo, AreCaches, listed_slots}
use Rattle.pa_rules.specs.Report.{until, IsTally, HasCensus, IsReportLine, IsReport, listed_bytes}
use Rattle.pa_rules.proofs.Following.{titles_follow}
use Rattle.pa_rules.proofs.Running.{OtherLine}
use Rattle.pa_legal.proofs.tallies.Levels.{is_live, live_is, is_live_of, is_quarantined, quarantined_is, is_quarantined_of}
use Rattle.pa_examples.specs.Worked.{seen_at, tally, report_line, two_threads_journal, two_threads_pool, two_threads_census, of_one}
use Rattle.pa_examples.specs.WorkedEarly.{early_read_records, early_read_report, early_read_trace}
use Rattle.pa_examples.proofs.worked.Pool.{pool_of_one}
use Rattle.pa_examples.proofs.worked.Holders.{HasIt, IsIssued, issued, no_moves}
use Rattle.pa_examples.proofs.worked.Moves.{holders_of_one}
use Rattle.pa_examples.proofs.worked.OneJournal.{IsMade, none_on, roots_of_one, census_of_one}
use Rattle.pa_examples.proofs.worked.OneFill.{roots, the_slot, is_pool, is_journal, kept, made_row, has_size, counted}
use Rattle.pa_examples.proofs.worked.Report.{other_lines, slots_of_kind}
use Rattle.pa_examples.proofs.worked.Slots.{Worded, are_worded}
use Rattle.pa_examples.proofs.worked.Early.{follow, words, worded, lines}
use Rattle.pa_rules.proofs.Worked.{class_0}

made : AllByRecursion (IsMade early_read_records two_threads_pool) two_threads_journal
made = ((_, ((0, lit< tt, refl), refl), (0, 8, refl, class_0)), tt)

pub rooted : AreRoots 1 early_read_records two_threads_pool roots
rooted = roots_of_one early_read_records two_threads_pool two_threads_journal early_read_trace lines is_journal made follow refl refl

pub pooled : IsPoolOf 1 early_read_records two_threads_pool roots
pooled = pool_of_one 1 early_read_records two_threads_pool two_threads_journal is_pool follow refl refl refl

pub titled : AreAllTitles two_threads_pool roots
titled = titles_follow.titles 1 1 early_read_records two_threads_pool roots rooted pooled

has_it : HasIt early_read_records roots 0 (seen_at 16384 0 0)
has_it = (0, InRoot, no_moves two_threads_journal _ _, inl (refl, refl), (_, ((0, lit< tt, refl), refl), refl))

all_issued : AllByRecursion (IsIssued early_read_records roots) early_read_records
all_issued = (
  issued early_read_records roots 0 _ 8 has_it,
  (
    λ seen usable a. absurd cc,
    (
      λ seen usable a. absurd cc,
      (
        λ seen usable a. absurd cc,
        (
          λ seen usable a. absurd cc,
          (
            λ seen usable a. absurd cc,
            (
              λ seen usable a. absurd cc,
              (λ seen usable a. absurd cc, tt),
            ),
          ),
        ),
      ),
    ),
  ),
)

pub held : AreHolders early_read_records roots
held = holders_of_one early_read_records two_threads_journal refl refl refl all_issued

-- all threads' lists at the end of each phase: the first thread keeps the fill's other slots
abbrev after_1 : Caches
after_1 = with_cache (with_cache (with_cache no_caches 0 kept) 0 kept) 0 kept

abbrev after_2 : Caches
after_2 = with_cache (with_cache (with_cache (with_cache (with_cache after_1 1 (no_caches 1)) 1 (no_caches 1)) 1 (no_caches 1)) 0 kept) 0
    kept

free_row : DoneRow roots
    (record of_one { line = 10; thread = 0; phase = 2; op = ops.Free 0; answer = answers.Done (seen_at 16384 0 0x2000003) })
    (Some steps.Free) (seen_at 16384 0 0x2000003)
    kept kept
free_row = inr (λ h. absurd (omega (arith, h.1)), none_on two_threads_journal 10 refl, λ p c. refl)

cached_1 : CachesTo 1 roots no_caches (until 1 early_read_records) after_1
cached_1 = (
  kept,
  made_row,
  (kept, inr (λ h. h, none_on two_threads_journal 3 refl, λ p c. refl), (kept, (none_on two_threads_journal 4 refl, λ p c. refl), refl)),
)

cached_2 : CachesTo 1 roots no_caches (until 2 early_read_records) after_2
cached_2 = (
  kept,
  made_row,
  (
    kept,
    inr (λ h. h, none_on two_threads_journal 3 refl, λ p c. refl),
    (
      kept,
      (none_on two_threads_journal 4 refl, λ p c. refl),
      (
        no_caches 1,
        (none_on two_threads_journal 6 refl, λ p c. refl),
        (
          no_caches 1,
          (none_on two_threads_journal 7 refl, λ p c. refl),
          (
            no_caches 1,
            (none_on two_threads_journal 8 refl, λ p c. refl),
            (
              kept,
              (none_on two_threads_journal 9 refl, λ p c. refl),
              (kept, free_row, refl),
            ),
          ),
        ),
      ),
    ),
  ),
)

pub cached : AreCaches 1 roots early_read_records
cached = (after_2, cached_2)

-- ---- the report: live, then quarantined

abbrev records : ℕ → List Played
records phase = until phase early_read_records

-- the words that the slot had until the first phase's end
abbrev words_1 : List Worded
words_1 = record { slot = the_slot; words = 0x1000001 ∷ 0x2000003 ∷ [] } ∷ []

worded_1 : are_worded (marks_of (records 1)) words_1 ≡ true
worded_1 = refl

alone_1 : AllPairs OtherLine (marks_of (records 1))
alone_1 = other_lines (marks_of (records 1)) refl

alone_2 : AllPairs OtherLine (marks_of (records 2))
alone_2 = other_lines (marks_of (records 2)) refl

live_1 : IsTally IsLive roots (records 1) 0 (tally 1 16)
live_1 = (
  _,
  16 ∷ [],
  slots_of_kind IsLive is_live live_is is_live_of refl roots (records 1) 0 words_1 (16 ∷ []) alone_1 worded_1
      (has_size, tt) refl,
  refl,
  refl,
)

quarantined_1 : IsTally IsQuarantined roots (records 1) 0 (tally 0 0)
quarantined_1 = (
  _,
  [],
  slots_of_kind IsQuarantined is_quarantined quarantined_is is_quarantined_of refl roots (records 1) 0 words_1
      [] alone_1 worded_1 tt refl,
  refl,
  refl,
)

live_2 : IsTally IsLive roots (records 2) 0 (tally 0 0)
live_2 = (_, [], slots_of_kind IsLive is_live live_is is_live_of refl roots (records 2) 0 words [] alone_2 worded tt refl, refl, refl)

quarantined_2 : IsTally IsQuarantined roots (records 2) 0 (tally 1 16)
quarantined_2 = (
  _,
  16 ∷ [],
  slots_of_kind IsQuarantined is_quarantined quarantined_is is_quarantined_of refl roots (records 2) 0 words (16 ∷ []) alone_2 worded
      (has_size, tt) refl,
  refl,
  refl,
)

-- the fill is of phase 1, and there is no other entry
has_census : (phase : ℕ) → 1 ≤ phase → HasCensus early_read_records two_threads_pool roots phase 0 two_threads_census
has_census phase from = census_of_one early_read_records two_threads_pool two_threads_journal phase _
    ((_, ((0, lit< tt, refl), refl), from), tt) refl counted

abbrev IsRight : ReportLine → Type 0
IsRight l = IsReportLine 1 2 early_read_records two_threads_pool roots l

right_1 : IsRight (report_line 1 (tally 1 16) (tally 0 0) (tally 7 112) two_threads_census)
unfolding rows row_of slot_of listed_slots listed_bytes
right_1 = record { live = live_1; quarantined = quarantined_1; cached = (after_1, cached_1, refl, refl); root = has_census 1 (lit≤ tt) }

right_2 : IsRight (report_line 2 (tally 0 0) (tally 1 16) (tally 7 112) two_threads_census)
unfolding rows row_of slot_of listed_slots listed_bytes
right_2 = record { live = live_2; quarantined = quarantined_2; cached = (after_2, cached_2, refl, refl); root = has_census 2 (lit≤ tt) }

pub reported : IsReport 2 1 2 early_read_records two_threads_pool roots early_read_report
reported = record { places = refl; right = All-from_recursion IsRight early_read_report (right_1, (right_2, tt)) }
