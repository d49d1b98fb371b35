-- The slots of the worked run of writes: pool and journal, holders, caches and report.
use Rattle.std.proofs.Common.{[], ◌∷◌, Some, refl, arith, inl, inr, lit<, lit≤}
use Rattle.std.specs.Prelude.{AllPairs}
use Rattle.std.specs.List.{AllByRecursion}
use Rattle.std.proofs.lemmas.List.Elements.{All-from_recursion}
use Rattle.pa_slot.specs.declared.word.Step.TheVariants as steps
use Rattle.pa_slot.specs.Run.{IsLive, IsQuarantined}
use Rattle.pa_buckets.specs.Table.{rows, row_of, slot_of}
use Rattle.pa_trace.specs.declared.script.Op.TheVariants as ops
use Rattle.pa_record.specs.declared.entry.Answer.TheVariants as answers
use Rattle.pa_rules.specs.Played.{marks_of}
use Rattle.pa_rules.specs.Roots.{AreRoots, IsPoolOf, AreAllTitles}
use Rattle.pa_rules.specs.Holders.{InRoot, AreHolders}
use Rattle.pa_rules.specs.Caches.{Caches, with_cache, no_caches, DoneRow, CachesTo, AreCaches, listed_slots}
use Rattle.pa_rules.specs.Report.{IsTally, IsReportLine, IsReport, listed_bytes}
use Rattle.pa_rules.proofs.Following.{titles_follow}
use Rattle.pa_rules.proofs.Running.{OtherLine}
use Rattle.pa_legal.proofs.tallies.Levels.{is_live, live_is, is_live_of, is_quarantined, quarantined_is, is_quarantined_of}
use Rattle.pa_examples.specs.Worked.{seen_at, tally, of_one}
use Rattle.pa_examples.specs.WorkedWrites.{writes_records, writes_journal, writes_pool, writes_report, writes_trace}
use Rattle.pa_examples.proofs.worked.Holders.{HasIt, IsIssued, issued, no_moves}
use Rattle.pa_examples.proofs.worked.Moves.{holders_of_one}
use Rattle.pa_examples.proofs.worked.Pool.{pool_of_one}
use Rattle.pa_examples.proofs.worked.OneJournal.{IsMade, none_on, roots_of_one, census_of_one}
use Rattle.pa_examples.proofs.worked.OneFill.{roots, is_pool, is_journal, kept, made_row, has_size, counted}
use Rattle.pa_examples.proofs.worked.Report.{other_lines, slots_of_kind}
use Rattle.pa_examples.proofs.worked.Writes.{words, worded, follow, lines}
use Rattle.pa_rules.proofs.Worked.{class_0}

made : AllByRecursion (IsMade writes_records writes_pool) writes_journal
made = ((_, ((0, lit< tt, refl), refl), (0, 8, refl, class_0)), tt)

pub rooted : AreRoots 1 writes_records writes_pool roots
rooted = roots_of_one writes_records writes_pool writes_journal writes_trace lines is_journal made follow refl refl

pub pooled : IsPoolOf 1 writes_records writes_pool roots
pooled = pool_of_one 1 writes_records writes_pool writes_journal is_pool follow refl refl refl

pub titled : AreAllTitles writes_pool roots
titled = titles_follow.titles 1 1 writes_records writes_pool roots rooted pooled

has_it : HasIt writes_records roots 0 (seen_at 16384 0 0)
has_it = (0, InRoot, no_moves writes_journal _ _, inl (refl, refl), (_, ((0, lit< tt, refl), refl), refl))

all_issued : AllByRecursion (IsIssued writes_records roots) writes_records
all_issued = (
  issued writes_records roots 0 _ 8 has_it,
  (
    λ seen usable a. absurd cc,
    (
      λ seen usable a. absurd cc,
      (
        λ seen usable a. absurd cc,
        (
          λ seen usable a. absurd cc,
          (
            λ seen usable a. absurd cc,
            (
              λ seen usable a. absurd cc,
              (λ seen usable a. absurd cc, tt),
            ),
          ),
        ),
      ),
    ),
  ),
)

pub held : AreHolders writes_records roots
held = holders_of_one writes_records writes_journal refl refl refl all_issued

-- the thread keeps the fill's other slots
abbrev again : Caches → Caches
again all = with_cache all 0 kept

abbrev at_end : Caches
at_end = again (again (again (again (again (again (again (again no_caches)))))))

-- a raw_ptr is reset, and its slot stays held
reset_row : DoneRow roots (record of_one {
  line = 7;
  thread = 0;
  phase = 1;
  op = ops.Reset 1;
  answer = answers.Done (seen_at 16384 0 0x3000003);
}) (Some steps.Reset) (seen_at 16384 0 0x3000003) kept kept
reset_row = inr (λ h. absurd (omega (arith, h.0)), none_on writes_journal 7 refl, λ p c. refl)

cached_to : CachesTo 1 roots no_caches writes_records at_end
cached_to = (
  kept,
  made_row,
  (
    kept,
    inr (λ h. h, none_on writes_journal 3 refl, λ p c. refl),
    (
      kept,
      inr (λ h. h, none_on writes_journal 4 refl, λ p c. refl),
      (
        kept,
        (none_on writes_journal 5 refl, λ p c. refl),
        (
          kept,
          (none_on writes_journal 6 refl, λ p c. refl),
          (
            kept,
            reset_row,
            (
              kept,
              inr (λ h. h, none_on writes_journal 8 refl, λ p c. refl),
              (kept, (none_on writes_journal 9 refl, λ p c. refl), refl),
            ),
          ),
        ),
      ),
    ),
  ),
)

pub cached : AreCaches 1 roots writes_records
cached = (at_end, cached_to)

-- the report
alone : AllPairs OtherLine (marks_of writes_records)
alone = other_lines (marks_of writes_records) refl

live : IsTally IsLive roots writes_records 0 (tally 1 16)
live = (
  _,
  16 ∷ [],
  slots_of_kind IsLive is_live live_is is_live_of refl roots writes_records 0 words (16 ∷ []) alone worded
      (has_size, tt) refl,
  refl,
  refl,
)

quarantined : IsTally IsQuarantined roots writes_records 0 (tally 0 0)
quarantined = (
  _,
  [],
  slots_of_kind IsQuarantined is_quarantined quarantined_is is_quarantined_of refl roots writes_records 0 words
      [] alone worded tt refl,
  refl,
  refl,
)

all_right : AllByRecursion (IsReportLine 1 1 writes_records writes_pool roots) writes_report
unfolding rows row_of slot_of listed_slots listed_bytes
all_right = (
  record {
    live = live;
    quarantined = quarantined;
    cached = (at_end, cached_to, refl, refl);
    root = census_of_one writes_records writes_pool writes_journal 1 _ ((_, ((0, lit< tt, refl), refl), lit≤ tt), tt) refl counted;
  },
  tt,
)

pub reported : IsReport 1 1 1 writes_records writes_pool roots writes_report
reported = record { places = refl; right = All-from_recursion (IsReportLine 1 1 writes_records writes_pool roots) writes_report all_right }
