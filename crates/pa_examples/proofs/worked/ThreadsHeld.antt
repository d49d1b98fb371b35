-- The slots of the worked run of two threads: pool and journal, holders and caches.
use Rattle.std.proofs.Common.{[], ◌∷◌, Some, refl, arith, inl, inr, lit<}
use Rattle.std.specs.List.{AllByRecursion}
use Rattle.pa_slot.specs.declared.word.Step.TheVariants as steps
use Rattle.pa_buckets.specs.Table.{rows, row_of}
use Rattle.pa_buckets.specs.Bands.{limit_of}
use Rattle.pa_trace.specs.declared.script.Op.TheVariants as ops
use Rattle.pa_record.specs.declared.entry.Answer.TheVariants as answers
use Rattle.pa_rules.specs.Roots.{AreRoots, IsPoolOf, AreAllTitles}
use Rattle.pa_rules.specs.Holders.{InRoot, AreHolders}
use Rattle.pa_rules.specs.Caches.{Cache, Caches, with_list, with_cache, no_caches, DoneRow, CachesTo, AreCaches}
use Rattle.pa_rules.specs.Report.{until}
use Rattle.pa_rules.proofs.Following.{titles_follow}
use Rattle.pa_examples.specs.Worked.{seen_at, two_threads_records, two_threads_journal, two_threads_pool, of_one, two_threads_trace}
use Rattle.pa_examples.proofs.worked.Pool.{pool_of_one}
use Rattle.pa_examples.proofs.worked.Holders.{HasIt, IsIssued, issued, no_moves}
use Rattle.pa_examples.proofs.worked.Moves.{holders_of_one}
use Rattle.pa_examples.proofs.worked.OneJournal.{IsMade, no_other, none_on, roots_of_one}
use Rattle.pa_examples.proofs.worked.OneFill.{roots, the_slot, is_pool, is_journal, kept, made_row, of_class}
use Rattle.pa_examples.proofs.worked.Threads.{follow, lines}
use Rattle.pa_rules.proofs.Worked.{class_0}

made : AllByRecursion (IsMade two_threads_records two_threads_pool) two_threads_journal
made = ((_, ((0, lit< tt, refl), refl), (0, 8, refl, class_0)), tt)

pub rooted : AreRoots 1 two_threads_records two_threads_pool roots
rooted = roots_of_one two_threads_records two_threads_pool two_threads_journal two_threads_trace lines is_journal made follow refl refl

pub pooled : IsPoolOf 1 two_threads_records two_threads_pool roots
pooled = pool_of_one 1 two_threads_records two_threads_pool two_threads_journal is_pool follow refl refl refl

pub titled : AreAllTitles two_threads_pool roots
titled = titles_follow.titles 1 1 two_threads_records two_threads_pool roots rooted pooled

has_it : HasIt two_threads_records roots 0 (seen_at 16384 0 0)
has_it = (0, InRoot, no_moves two_threads_journal _ _, inl (refl, refl), (_, ((0, lit< tt, refl), refl), refl))

all_issued : AllByRecursion (IsIssued two_threads_records roots) two_threads_records
all_issued = (
  issued two_threads_records roots 0 _ 8 has_it,
  (
    λ seen usable a. absurd cc,
    (
      λ seen usable a. absurd cc,
      (
        λ seen usable a. absurd cc,
        (
          λ seen usable a. absurd cc,
          (
            λ seen usable a. absurd cc,
            (
              λ seen usable a. absurd cc,
              (λ seen usable a. absurd cc, tt),
            ),
          ),
        ),
      ),
    ),
  ),
)

pub held : AreHolders two_threads_records roots
held = holders_of_one two_threads_records two_threads_journal refl refl refl all_issued

-- the threads' lists: the first keeps the fill's other slots, and the second gets the slot that it resets
abbrev second_cache : Cache
second_cache = with_list (no_caches 1) 0 0 (record { slot = the_slot; number = 4 } ∷ [])

-- all threads' lists at the end of each phase
abbrev pub after_1 : Caches
after_1 = with_cache (with_cache (with_cache no_caches 0 kept) 0 kept) 0 kept

abbrev pub after_2 : Caches
after_2 = with_cache (with_cache (with_cache after_1 0 kept) 1 (no_caches 1)) 1 (no_caches 1)

abbrev pub after_3 : Caches
after_3 = with_cache (with_cache after_2 1 (no_caches 1)) 1 second_cache

free_row : DoneRow roots
    (record of_one { line = 6; thread = 0; phase = 2; op = ops.Free 0; answer = answers.Done (seen_at 16384 0 0x2000003) })
    (Some steps.Free) (seen_at 16384 0 0x2000003)
    kept kept
free_row = inr (λ h. absurd (omega (arith, h.1)), none_on two_threads_journal 6 refl, λ p c. refl)

reset_row : DoneRow roots
    (record of_one { line = 11; thread = 1; phase = 3; op = ops.Reset 0; answer = answers.Done (seen_at 16384 0 0x3000002) })
    (Some steps.Reset) (seen_at 16384 0 0x3000002)
    (no_caches 1) second_cache
unfolding rows row_of limit_of
reset_row = inl ((refl, refl), inl (0, 0, of_class, (refl, no_other two_threads_journal 11), λ p c. refl))

pub cached_1 : CachesTo 1 roots no_caches (until 1 two_threads_records) after_1
cached_1 = (
  kept,
  made_row,
  (kept, inr (λ h. h, none_on two_threads_journal 3 refl, λ p c. refl), (kept, (none_on two_threads_journal 4 refl, λ p c. refl), refl)),
)

pub cached_2 : CachesTo 1 roots no_caches (until 2 two_threads_records) after_2
cached_2 = (
  kept,
  made_row,
  (
    kept,
    inr (λ h. h, none_on two_threads_journal 3 refl, λ p c. refl),
    (
      kept,
      (none_on two_threads_journal 4 refl, λ p c. refl),
      (
        kept,
        free_row,
        (
          no_caches 1,
          (none_on two_threads_journal 7 refl, λ p c. refl),
          (no_caches 1, (none_on two_threads_journal 8 refl, λ p c. refl), refl),
        ),
      ),
    ),
  ),
)

pub cached_3 : CachesTo 1 roots no_caches (until 3 two_threads_records) after_3
cached_3 = (
  kept,
  made_row,
  (
    kept,
    inr (λ h. h, none_on two_threads_journal 3 refl, λ p c. refl),
    (
      kept,
      (none_on two_threads_journal 4 refl, λ p c. refl),
      (
        kept,
        free_row,
        (
          no_caches 1,
          (none_on two_threads_journal 7 refl, λ p c. refl),
          (
            no_caches 1,
            (none_on two_threads_journal 8 refl, λ p c. refl),
            (
              no_caches 1,
              (none_on two_threads_journal 10 refl, λ p c. refl),
              (second_cache, reset_row, refl),
            ),
          ),
        ),
      ),
    ),
  ),
)

pub cached : AreCaches 1 roots two_threads_records
cached = (after_3, cached_3)
