-- The direct maps of the worked run: who holds them, the caches, and the report.
use Rattle.std.proofs.Common.{[], ◌∷◌, refl, arith, inl, inr, lit<, lit≤}
use Rattle.std.specs.Prelude.{AllPairs}
use Rattle.std.specs.List.{AllByRecursion, AllZip}
use Rattle.std.proofs.lemmas.List.Elements.{All-from_recursion}
use Rattle.pa_slot.specs.Run.{IsLive, IsQuarantined}
use Rattle.pa_buckets.specs.Table.{rows, row_of, slot_of}
use Rattle.pa_record.specs.Worked.{direct_map_again_pool, direct_map_again_journal, direct_map_again_census}
use Rattle.pa_record.proofs.Worked.{direct_map_again}
use Rattle.pa_rules.specs.Played.{marks_of}
use Rattle.pa_rules.proofs.Running.{OtherLine}
use Rattle.pa_rules.specs.Holders.{InRoot, AreHolders}
use Rattle.pa_rules.specs.Caches.{Caches, with_cache, no_caches, IsDirect, CachesTo, AreCaches, listed_slots}
use Rattle.pa_rules.specs.Report.{HasSize, IsTally, InPhases, IsReportLine, IsReport, listed_bytes}
use Rattle.pa_legal.proofs.tallies.Levels.{is_live, live_is, is_live_of, is_quarantined, quarantined_is, is_quarantined_of}
use Rattle.pa_examples.specs.Worked.{seen_at, tally, report_line, direct_map_records, direct_map_report}
use Rattle.pa_examples.proofs.worked.Holders.{HasIt, IsIssued, issued, no_moves}
use Rattle.pa_examples.proofs.worked.Moves.{holders_of_one}
use Rattle.pa_examples.proofs.worked.OneJournal.{no_other, none_on, census_of_one}
use Rattle.pa_examples.proofs.worked.Report.{other_lines, slots_passing, slots_of_kind}
use Rattle.pa_examples.proofs.worked.Maps.{slot_by, words, worded}
use Rattle.pa_examples.proofs.worked.MapsPlaced.{roots, direct}

-- an allocation that made a slot has it
has_first : HasIt direct_map_records roots 0 (seen_at 16384 0 0)
has_first = (0, InRoot, no_moves direct_map_again_journal _ _, inl (refl, refl), (_, ((0, lit< tt, refl), refl), refl))

has_second : HasIt direct_map_records roots 0 (seen_at 16384 2 0)
has_second = (0, InRoot, no_moves direct_map_again_journal _ _, inl (refl, refl), (_, ((2, lit< tt, refl), refl), refl))

has_third : HasIt direct_map_records roots 0 (seen_at 16384 5 0)
has_third = (0, InRoot, no_moves direct_map_again_journal _ _, inl (refl, refl), (_, ((7, lit< tt, refl), refl), refl))

all_issued : AllByRecursion (IsIssued direct_map_records roots) direct_map_records
all_issued = (
  issued direct_map_records roots 0 _ 2002936 has_first,
  (
    λ seen usable a. absurd cc,
    (
      issued direct_map_records roots 0 _ 2002936 has_second,
      (
        λ seen usable a. absurd cc,
        (
          λ seen usable a. absurd cc,
          (
            λ seen usable a. absurd cc,
            (
              λ seen usable a. absurd cc,
              (issued direct_map_records roots 0 _ 2002936 has_third, tt),
            ),
          ),
        ),
      ),
    ),
  ),
)

pub held : AreHolders direct_map_records roots
held = holders_of_one direct_map_records direct_map_again_journal refl refl refl all_issued

-- the thread's lists stay empty
abbrev again : Caches → Caches
again all = with_cache all 0 (no_caches 0)

abbrev pub at_end : Caches
at_end = again (again (again (again (again (again (again (again no_caches)))))))

first_map : IsDirect roots (slot_by 0) 0
first_map = (_, 0, 2002944, (0, lit< tt, refl), refl)

second_map : IsDirect roots (slot_by 2) 0
second_map = (_, 2, 2002944, (2, lit< tt, refl), refl)

pub cached_to : CachesTo 1 roots no_caches direct_map_records at_end
cached_to = (
  no_caches 0,
  inr (0, 2000000, 0, 2002944, (0, refl, direct), (refl, no_other direct_map_again_journal 2), λ p c. refl),
  (
    no_caches 0,
    inl ((refl, refl), inr (0, 1, 2, first_map, (refl, no_other direct_map_again_journal 3), λ p c. refl)),
    (
      no_caches 0,
      inr (0, 2000000, 2, 2002944, (0, refl, direct), (refl, no_other direct_map_again_journal 4), λ p c. refl),
      (
        no_caches 0,
        inr (λ h. h, none_on direct_map_again_journal 5 refl, λ p c. refl),
        (
          no_caches 0,
          inr (λ h. absurd (omega (arith, h.1)), none_on direct_map_again_journal 6 refl, λ p c. refl),
          (
            no_caches 0,
            inr (0, 2000000, 3, (2, refl, direct), (refl, no_other direct_map_again_journal 7), λ p c. refl),
            (
              no_caches 0,
              inl ((refl, refl), inr (0, 4, 4, second_map, (refl, no_other direct_map_again_journal 8), λ p c. refl)),
              (
                no_caches 0,
                inr (0, 2000000, 5, 2002944, (2, refl, direct), (refl, no_other direct_map_again_journal 9), λ p c. refl),
                refl,
              ),
            ),
          ),
        ),
      ),
    ),
  ),
)

pub cached : AreCaches 1 roots direct_map_records
cached = (at_end, cached_to)

-- the report
alone : AllPairs OtherLine (marks_of direct_map_records)
alone = other_lines (marks_of direct_map_records) refl

third_size : AllZip (HasSize roots 0) (slots_passing is_live words) (2002944 ∷ [])
third_size = (inr (_, 5, (5, lit< tt, refl), refl), tt)

live : IsTally IsLive roots direct_map_records 0 (tally 1 2002944)
live = (
  _,
  2002944 ∷ [],
  slots_of_kind IsLive is_live live_is is_live_of refl roots direct_map_records 0 words (2002944 ∷ []) alone worded third_size refl,
  refl,
  refl,
)

quarantined : IsTally IsQuarantined roots direct_map_records 0 (tally 0 0)
quarantined = (
  _,
  [],
  slots_of_kind IsQuarantined is_quarantined quarantined_is is_quarantined_of refl roots direct_map_records 0 words
      [] alone worded tt refl,
  refl,
  refl,
)

in_phase_1 : AllByRecursion (InPhases direct_map_records 1) direct_map_again_journal
in_phase_1 = (
  (_, ((0, lit< tt, refl), refl), lit≤ tt),
  (
    (_, ((1, lit< tt, refl), refl), lit≤ tt),
    (
      (_, ((2, lit< tt, refl), refl), lit≤ tt),
      (
        (_, ((5, lit< tt, refl), refl), lit≤ tt),
        (
          (_, ((6, lit< tt, refl), refl), lit≤ tt),
          ((_, ((7, lit< tt, refl), refl), lit≤ tt), tt),
        ),
      ),
    ),
  ),
)

line_right : IsReportLine 1 1 direct_map_records direct_map_again_pool roots
    (report_line 1 (tally 1 2002944) (tally 0 0) (tally 0 0) direct_map_again_census)
unfolding rows row_of slot_of listed_slots listed_bytes
line_right = record {
  live = live;
  quarantined = quarantined;
  cached = (at_end, cached_to, refl, refl);
  root = census_of_one direct_map_records direct_map_again_pool direct_map_again_journal 1 _ in_phase_1 refl direct_map_again.counted;
}

pub reported : IsReport 1 1 1 direct_map_records direct_map_again_pool roots direct_map_report
reported = record {
  places = refl;
  right = All-from_recursion (IsReportLine 1 1 direct_map_records direct_map_again_pool roots) direct_map_report (line_right, tt);
}
