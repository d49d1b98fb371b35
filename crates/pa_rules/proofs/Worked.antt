-- The caches of the worked purge.
use Rattle.std.proofs.Common.{◌≡◌, ℕ, zero, suc, ◌<◌, List, [], ◌∷◌, length, Some, None, refl, arith, inl, lit<}
use Rattle.pa_slot.specs.declared.word.Step.TheVariants as steps
use Rattle.pa_buckets.specs.Table.{rows, row_of, slot_of, pages_of, slots_of}
use Rattle.pa_buckets.specs.Bands.{limit_of, fill_of}
use Rattle.pa_buckets.specs.Classes.{IsClassIn}
use Rattle.pa_trace.specs.declared.script.Op.TheVariants as ops
use Rattle.pa_record.specs.declared.entry.Answer.TheVariants as answers
use Rattle.pa_record.specs.declared.numbered.Numbered.{Numbered}
use Rattle.pa_record.specs.Worked.{purge_pool, purge_journal, slots, fill}
use Rattle.pa_record.specs.Root.{new_root, root_replayed}
use Rattle.pa_record.specs.Laws.{names_out, slots_made}
use Rattle.pa_rules.specs.Roots.{Journals, journal_at}
use Rattle.pa_rules.specs.Caches.{Cache, with_list, acts_of, purge_acts, listed_slots, MadeRow, DoneRow, no_caches}
use Rattle.pa_rules.specs.Worked.{first_slot, of_first_thread, PurgeIsCached, IsCountedAs, PurgeIsCounted}

-- a request of 8 bytes is of class 0
pub class_0 : IsClassIn 1 16 0
unfolding rows row_of slot_of
class_0 = record { from = omega arith; real = lit< tt; fits = omega arith; least = λ d from below. absurd (omega arith) }

abbrev roots : Journals
roots = journal_at (purge_journal ∷ [])

-- no other partition has entries
no_other : (line q : ℕ) → (q ≡ 0 → ⊥) → acts_of roots line q ≡ []
no_other line zero ne = absurd (ne refl)
no_other line (suc q) ne = refl

-- the slots of the fill, and those of the list after the free
abbrev filled : List Numbered
filled = slots 0 0 (16384 ∷ 16400 ∷ 16416 ∷ 16432 ∷ 16448 ∷ 16464 ∷ 16480 ∷ 16496 ∷ [])

abbrev rest : List Numbered
rest = slots 0 0 (16400 ∷ 16416 ∷ 16432 ∷ 16448 ∷ 16464 ∷ 16480 ∷ 16496 ∷ [])

abbrev first : ℕ → Numbered
first number = record { slot = record { start = 16384; born = 0 }; number = number }

-- the thread's lists after each line
abbrev after_made : Cache
after_made = with_list (no_caches 0) 0 0 rest

abbrev after_free : Cache
after_free = with_list after_made 0 0 (first 2 ∷ rest)

abbrev after_purge : Cache
after_purge p c = []

abbrev after_again : Cache
after_again = with_list after_purge 0 0 rest

made_first : MadeRow roots (of_first_thread 2 (ops.Alloc 0 0 8) (answers.Made (first_slot 0) 8)) (first_slot 0) (no_caches 0) after_made
made_first = inl (0, 0, filled, rest, (0, 8, refl, class_0), (Some 0, (refl, no_other 2)), refl, λ p c. refl)

freed : DoneRow roots (of_first_thread 3 (ops.Free 0) (answers.Done (first_slot 16777217))) (Some steps.Free)
    (first_slot 16777217) after_made after_free
unfolding rows row_of limit_of
freed = inl (
  (refl, refl),
  inl (0, 0, (fill 2 0 (Some 0) filled, Some 0, filled, (0, lit< tt, refl), refl, (0, lit< tt, refl)), (refl, no_other 3), λ p c. refl),
)

purged_acts : (p : ℕ) → p < 1 → acts_of roots 4 p ≡ purge_acts (after_free p) 0 170
purged_acts zero below = refl
purged_acts (suc p) below = absurd (omega arith)

made_again : MadeRow roots (of_first_thread 5 (ops.Alloc 1 0 8) (answers.Made (first_slot 33554432) 8))
    (first_slot 33554432) after_purge after_again
made_again = inl (0, 0, first 2 ∷ rest, rest, (1, 8, refl, class_0), (None, (refl, no_other 5)), refl, λ p c. refl)

pub purge_is_cached : PurgeIsCached
unfolding listed_slots
purge_is_cached = (
  _,
  (after_made, made_first, (after_free, freed, (after_purge, (purged_acts, refl, λ p c. refl), (after_again, made_again, refl)))),
)

-- the counts of that run
first_counted : IsCountedAs (record { start = 16384; born = 0 }) 2 1 2 1
first_counted = record { issues = refl; backs = refl; lefts = refl; returns = refl }

second_counted : IsCountedAs (record { start = 16400; born = 0 }) 0 1 2 0
second_counted = record { issues = refl; backs = refl; lefts = refl; returns = refl }

eight_out : length (names_out (root_replayed purge_pool purge_journal new_root)) ≡ 8
unfolding rows row_of slot_of pages_of slots_of fill_of
eight_out = refl

all_made : slots_made (root_replayed purge_pool purge_journal new_root) ≡ 256
unfolding rows row_of slot_of pages_of slots_of fill_of
all_made = refl

pub purge_is_counted : PurgeIsCounted
purge_is_counted = record { first = first_counted; second = second_counted; out = eight_out; made = all_made }
