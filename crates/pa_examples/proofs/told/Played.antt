-- The rows of registers and of lists of the worked run of two threads, with any answer that its read may give.
use Rattle.std.proofs.Common.{Bool, ◌≡◌, ℕ, ◌-◌, ◌*◌, ◌<◌, ◌≤◌, ◌&&◌, false, eqb, leb, List, [], ◌∷◌, filter, Some, lit≤, refl, sym, subst, arith, inl, inr}
use Rattle.std.specs.Prelude.{if◌then◌else◌}
use Rattle.std.proofs.lemmas.Bool.{cases_eq, ne_eqb}
use Rattle.pa_slot.specs.declared.word.SlotName.{SlotName}
use Rattle.pa_slot.specs.declared.word.Step.TheVariants as steps
use Rattle.pa_slot.specs.Count.{held_of}
use Rattle.pa_slot.specs.Titles.{poison}
use Rattle.pa_buckets.specs.Bands.{limit_of}
use Rattle.pa_buckets.specs.Table.{rows, row_of}
use Rattle.pa_region.specs.declared.view.Entry.{Entry}
use Rattle.pa_region.specs.declared.view.Entry.TheVariants.{Looked, Read}
use Rattle.pa_region.specs.Moves.{no_deeds}
use Rattle.pa_trace.specs.declared.script.Op.TheVariants as ops
use Rattle.pa_record.specs.declared.entry.Seen.{Seen}
use Rattle.pa_record.specs.declared.entry.Answer.{Answer}
use Rattle.pa_record.specs.declared.entry.Answer.TheVariants as answers
use Rattle.pa_rules.specs.declared.register.Register.TheVariants.{Empty, Own, Ref, Freed, Cleared}
use Rattle.pa_rules.specs.declared.played.Played.{Played}
use Rattle.pa_rules.specs.Registers.{Regs, Facts, Row, PointRow, with, no_regs}
use Rattle.pa_rules.specs.Caches.{Cache, Caches, with_list, no_caches, DoneRow, CacheRow}
use Rattle.pa_rules.specs.Report.{until}
use Rattle.pa_rules.specs.Sizes.{slot_size_for}
use Rattle.pa_examples.specs.Worked.{seen_at, two_threads_journal, of_one}
use Rattle.pa_examples.proofs.worked.OneFill.{roots, the_slot, kept, made_row, of_class}
use Rattle.pa_examples.proofs.worked.OneJournal.{no_other, none_on}
use Rattle.pa_examples.proofs.worked.ThreadsRead.{after_take}
use Rattle.pa_logs.specs.Told.{ToldRecord, played_in, is_of_thread}
use Rattle.pa_logs.specs.Touches.{title_of}
use Rattle.pa_logs.specs.Reported.{CacheLeadsTo}
use Rattle.pa_logs.specs.Rows.{records_by}
use Rattle.pa_logs.specs.Said.{IsReadThrough, HasToldRows}
use Rattle.pa_logs.specs.Worked.{its_title}
use Rattle.pa_logs.proofs.Through.{by_length}
use Rattle.pa_examples.specs.told.Entered.{threads_cells}
use Rattle.pa_examples.specs.told.OtherReads.{read_with, reading_so}
use Rattle.pa_examples.specs.told.Worked.{Worked}
use Rattle.pa_examples.proofs.told.Entering.{below_four}

-- a look of the slot that finds this word, and a read right after it that gives this value
abbrev pub look_and_read : ℕ → ℕ → List Entry
look_and_read word value = Looked its_title word ∷ Read its_title 0 value no_deeds false false ∷ []

abbrev pub so_read : Answer → ℕ → ℕ → ℕ → Worked
so_read answer word value after = read_with answer (look_and_read word value) after

-- ---- registers

abbrev after_made : Regs
after_made = with (no_regs 0) 0 (Own the_slot)

abbrev after_copy : Regs
after_copy = with after_made 1 (Ref the_slot)

abbrev after_give : Regs
after_give = with after_copy 1 Empty

abbrev after_free : Regs
after_free = with after_give 0 Freed

abbrev after_reset : Regs
after_reset = with after_take 0 Cleared

not_own : (s : SlotName) → Ref the_slot ≡ Own s → ⊥
not_own s e = cc

-- a copy that was done is counted
pub not_uncounted : (seen : Seen) → answers.Done seen ≡ answers.Uncounted → ⊥
not_uncounted seen e = cc

-- if the slot has 16 bytes
module _ (plain : SlotName → Bool) (sizes : SlotName → ℕ) (long : sizes the_slot ≡ 16) where
  abbrev pub facts : Facts
  facts = by_length 1 plain sizes threads_cells

  -- a read through the raw_ptr, before which the slot was seen
  through_ref : (x : ToldRecord) → 1 ≤ x.saw its_title → IsReadThrough sizes (Ref the_slot) x
  through_ref x some_number = record {
    issued = λ s has. subst (λ u. 1 ≤ x.saw (title_of sizes u)) has
        (subst (λ n. 1 ≤ x.saw (record { start = 16384; len = n; born = 0 })) (sym long) some_number);
    owned = λ s t place value since owner unclean own among. absurd (not_own s own);
  }

  made : Row facts (ops.Alloc 0 0 8) (no_regs 0) (answers.Made (seen_at 16384 0 0) 8) after_made
  unfolding slot_size_for rows
  made = inr (inl (lit≤ tt, seen_at 16384 0 0, refl, λ k. refl))

  inside : 8 * 0 < sizes the_slot - 8
  inside = omega arith

  -- the read that finds the allocator's bit, and the one that finds the slot freed
  pub held_row : (word value : ℕ) → held_of word ≡ 1 →
      Row facts (ops.Read 0 0) after_take (answers.Value (seen_at 16384 0 word) value) after_take
  held_row word value held = (λ k. refl, inr (inside, seen_at 16384 0 word, value, refl, inl (held, refl)))

  pub freed_row : (word value : ℕ) → held_of word ≡ 0 →
      Row facts (ops.Read 0 0) after_take (answers.Dangling (seen_at 16384 0 word) value) after_take
  freed_row word value freed = (λ k. refl, inr (inside, seen_at 16384 0 word, value, refl, inr (freed, refl)))

  -- if it isn't plain
  module _ (counted : plain the_slot ≡ false) (answer : Answer) (word value after : ℕ)
      (read : Row facts (ops.Read 0 0) after_take answer after_take) where
    abbrev ts : List ToldRecord
    ts = reading_so (so_read answer word value after)

    copied : Row facts (ops.Copy 0 1) after_made (answers.Done (seen_at 16384 0 0x1000001)) after_copy
    copied = subst (λ b. PointRow b the_slot after_made 1 (answers.Done (seen_at 16384 0 0x1000001)) after_copy) (sym counted)
        (seen_at 16384 0 0x1000001, refl, refl, λ k. refl)

    first_rows : HasToldRows sizes facts (no_regs 0) (filter (is_of_thread 0) ts)
    first_rows = (
      after_made,
      made,
      tt,
      (
        after_copy,
        copied,
        λ s own e. absurd (not_uncounted (seen_at 16384 0 0x1000001) e),
        (
          after_give,
          (0, _, refl, refl, refl, λ k. refl),
          tt,
          (after_free, (seen_at 16384 0 0x2000003, refl, refl, λ k. refl), tt, tt),
        ),
      ),
    )

    second_rows : HasToldRows sizes facts (no_regs 1) (filter (is_of_thread 1) ts)
    second_rows = (
      after_take,
      (1, _, refl, refl, refl, λ k. refl),
      tt,
      (
        after_take,
        read,
        through_ref _ (lit≤ tt),
        (
          after_take,
          freed_row 0x3000002 poison refl,
          through_ref _ (lit≤ tt),
          (after_reset, (seen_at 16384 0 0x3000002, refl, refl, λ k. refl), tt, tt),
        ),
      ),
    )

    pub rows_of : (k : ℕ) → HasToldRows sizes facts (no_regs k) (filter (is_of_thread k) ts)
    rows_of k = elim (cases_eq 0 k) [
      | inl e ↦ subst (λ n. HasToldRows sizes facts (no_regs n) (filter (is_of_thread n) ts)) e first_rows
      | inr n0 ↦ elim (cases_eq 1 k) [
        | inl e ↦ subst (λ n. HasToldRows sizes facts (no_regs n) (filter (is_of_thread n) ts)) e second_rows
        | inr n1 ↦ rw (ne_eqb 0 k n0, ne_eqb 1 k n1) tt
      ]
    ]

-- ---- the threads' lists

abbrev second_cache : Cache
second_cache = with_list (no_caches 1) 0 0 (record { slot = the_slot; number = 4 } ∷ [])

-- at the end of each phase: the first thread keeps the fill's other slots, and the second gets the slot that it resets
abbrev pub caches_until : ℕ → Caches
caches_until n k = if leb 1 n && eqb 0 k then kept else if eqb 3 n && eqb 1 k then second_cache else no_caches k

free_row : DoneRow roots
    (record of_one { line = 6; thread = 0; phase = 2; op = ops.Free 0; answer = answers.Done (seen_at 16384 0 0x2000003) })
    (Some steps.Free) (seen_at 16384 0 0x2000003)
    kept kept
free_row = inr (λ h. absurd (omega (arith, h.1)), none_on two_threads_journal 6 refl, λ p c. refl)

reset_row : DoneRow roots
    (record of_one { line = 11; thread = 1; phase = 3; op = ops.Reset 0; answer = answers.Done (seen_at 16384 0 0x3000002) })
    (Some steps.Reset) (seen_at 16384 0 0x3000002)
    (no_caches 1) second_cache
unfolding rows row_of limit_of
reset_row = inl ((refl, refl), inl (0, 0, of_class, (refl, no_other two_threads_journal 11), λ p c. refl))

-- the read touches no list
abbrev pub ReadsOnly : Answer → Type 0
ReadsOnly answer = CacheRow 1 roots (record of_one { line = 8; thread = 1; phase = 2; op = ops.Read 0 0; answer = answer }) answer
    (no_caches 1) (no_caches 1)

module _ (answer : Answer) (word value after : ℕ) (read : ReadsOnly answer) where
  abbrev ps : List Played
  ps = played_in (reading_so (so_read answer word value after))

  abbrev Leads : ℕ → ℕ → Type 0
  Leads n k = CacheLeadsTo 1 roots (no_caches k) (records_by k (until n ps)) (caches_until n k)

  by_thread : (n : ℕ) → Leads n 0 → Leads n 1 → ((k : ℕ) → (0 ≡ k → ⊥) → (1 ≡ k → ⊥) → Leads n k) → (k : ℕ) → Leads n k
  by_thread n first second others k = elim (cases_eq 0 k) [
    | inl e ↦ subst (Leads n) e first
    | inr n0 ↦ elim (cases_eq 1 k) [ inl e ↦ subst (Leads n) e second | inr n1 ↦ others k n0 n1 ]
  ]

  until_0 : (k : ℕ) → Leads 0 k
  until_0 k = refl

  until_1 : (k : ℕ) → Leads 1 k
  until_1 = by_thread 1 (
    kept,
    made_row,
    (
      kept,
      inr (λ h. h, none_on two_threads_journal 3 refl, λ p c. refl),
      (kept, (none_on two_threads_journal 4 refl, λ p c. refl), refl),
    ),
  )
      refl (λ k n0 n1. rw (ne_eqb 0 k n0) refl)

  until_2 : (k : ℕ) → Leads 2 k
  until_2 = by_thread 2 (
    kept,
    made_row,
    (
      kept,
      inr (λ h. h, none_on two_threads_journal 3 refl, λ p c. refl),
      (kept, (none_on two_threads_journal 4 refl, λ p c. refl), (kept, free_row, refl)),
    ),
  )
      (no_caches 1, (none_on two_threads_journal 7 refl, λ p c. refl), (no_caches 1, read, refl))
      (λ k n0 n1. rw (ne_eqb 0 k n0, ne_eqb 1 k n1) refl)

  until_3 : (k : ℕ) → Leads 3 k
  until_3 = by_thread 3 (
    kept,
    made_row,
    (
      kept,
      inr (λ h. h, none_on two_threads_journal 3 refl, λ p c. refl),
      (kept, (none_on two_threads_journal 4 refl, λ p c. refl), (kept, free_row, refl)),
    ),
  ) (
    no_caches 1,
    (none_on two_threads_journal 7 refl, λ p c. refl),
    (no_caches 1, read, (no_caches 1, (none_on two_threads_journal 10 refl, λ p c. refl), (second_cache, reset_row, refl))),
  )
      (λ k n0 n1. rw (ne_eqb 0 k n0, ne_eqb 1 k n1) refl)

  pub leads_of : (n k : ℕ) → n < 4 → Leads n k
  leads_of n k few = below_four (λ m. Leads m k) (until_0 k) (until_1 k) (until_2 k) (until_3 k) n few
