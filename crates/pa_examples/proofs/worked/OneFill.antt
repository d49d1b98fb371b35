-- The journal of two worked runs, with the fill for one request of 8 bytes alone: its pool, the slots of the fill, and its
-- census.
use Rattle.std.proofs.Common.{◌≡◌, true, List, [], ◌∷◌, Some, refl, inl, lit<}
use Rattle.pa_slot.specs.declared.word.SlotName.{SlotName}
use Rattle.pa_buckets.specs.Table.{rows, row_of, slot_of, pages_of, slots_of}
use Rattle.pa_buckets.specs.Bands.{fill_of}
use Rattle.pa_trace.specs.declared.script.Op.TheVariants as ops
use Rattle.pa_record.specs.declared.entry.Answer.TheVariants as answers
use Rattle.pa_record.specs.declared.numbered.Numbered.{Numbered}
use Rattle.pa_record.specs.Worked.{slots}
use Rattle.pa_record.specs.Pool.{IsPool, new_pool}
use Rattle.pa_record.specs.Root.{new_root, root_replayed, IsJournal, all_asked}
use Rattle.pa_record.specs.Census.{census}
use Rattle.pa_record.proofs.Tested.{all_fit, all_fit-true, pool_all_fit-true, rise-true}
use Rattle.pa_rules.specs.Roots.{Journals, journal_at}
use Rattle.pa_rules.specs.Caches.{Cache, with_list, no_caches, IsOfClass, MadeRow}
use Rattle.pa_rules.specs.Report.{HasSize}
use Rattle.pa_examples.specs.Worked.{seen_at, two_threads_journal, two_threads_pool, two_threads_census, of_one}
use Rattle.pa_examples.proofs.worked.OneJournal.{no_other}
use Rattle.pa_rules.proofs.Worked.{class_0}

abbrev pub roots : Journals
roots = journal_at (two_threads_journal ∷ [])

abbrev pub the_slot : SlotName
the_slot = record { start = 16384; born = 0 }

pub is_pool : IsPool 1 two_threads_pool
is_pool = pool_all_fit-true two_threads_pool two_threads_pool (new_pool 1) refl

journal_fits : all_fit two_threads_pool two_threads_journal new_root ≡ true
unfolding rows row_of slot_of pages_of slots_of fill_of
journal_fits = refl

pub is_journal : IsJournal two_threads_pool two_threads_journal
is_journal = record {
  replays = all_fit-true two_threads_pool two_threads_journal new_root journal_fits;
  rise = rise-true 0 (all_asked two_threads_journal) refl;
}

-- the slots of the fill, and those that the thread keeps
abbrev pub filled : List Numbered
filled = slots 0 0 (16384 ∷ 16400 ∷ 16416 ∷ 16432 ∷ 16448 ∷ 16464 ∷ 16480 ∷ 16496 ∷ [])

abbrev pub rest : List Numbered
rest = slots 0 0 (16400 ∷ 16416 ∷ 16432 ∷ 16448 ∷ 16464 ∷ 16480 ∷ 16496 ∷ [])

abbrev pub kept : Cache
kept = with_list (no_caches 0) 0 0 rest

pub made_row : MadeRow roots
    (record of_one { line = 2; thread = 0; phase = 1; op = ops.Alloc 0 0 8; answer = answers.Made (seen_at 16384 0 0) 8 })
    (seen_at 16384 0 0) (no_caches 0) kept
made_row = inl (0, 0, filled, rest, (0, 8, refl, class_0), (Some 0, (refl, no_other two_threads_journal 2)), refl, λ p c. refl)

pub of_class : IsOfClass roots the_slot 0 0
of_class = (_, Some 0, filled, (0, lit< tt, refl), refl, (0, lit< tt, refl))

-- the slot has 16 bytes
pub has_size : HasSize roots 0 the_slot 16
unfolding rows row_of slot_of
has_size = inl (0, of_class, refl)

pub counted : census (root_replayed two_threads_pool two_threads_journal new_root) ≡ two_threads_census
unfolding rows row_of slot_of pages_of slots_of fill_of
counted = refl
