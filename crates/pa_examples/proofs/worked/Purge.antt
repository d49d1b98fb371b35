-- The worked purge: its registers, slots, pool and journal, holders, caches and report.
use Rattle.std.proofs.Common.{◌≡◌, ℕ, zero, suc, ◌<◌, true, List, [], ◌∷◌, drop, Some, None, refl, sym, ◌∙◌, subst, rules, arith, inl, inr, lit<, lit≤}
use Rattle.std.specs.Prelude.{AllPairs, slice_get}
use Rattle.std.specs.List.{AllByRecursion}
use Rattle.std.proofs.lemmas.List.Elements.{All-from_recursion}
use Rattle.pa_slot.specs.declared.word.Step.TheVariants as steps
use Rattle.pa_slot.specs.Run.{Slots, IsLive, IsQuarantined}
use Rattle.pa_buckets.specs.Table.{rows, row_of, slot_of}
use Rattle.pa_buckets.specs.Bands.{limit_of}
use Rattle.pa_trace.specs.declared.script.Op.TheVariants as ops
use Rattle.pa_trace.specs.Rules.{rules_of}
use Rattle.pa_record.specs.declared.entry.Answer.TheVariants as answers
use Rattle.pa_record.specs.declared.numbered.Numbered.{Numbered}
use Rattle.pa_record.specs.declared.pool.PoolEntry.{PoolEntry}
use Rattle.pa_record.specs.declared.root.RootEntry.{RootEntry}
use Rattle.pa_record.specs.Root.{asked_by}
use Rattle.pa_record.specs.Worked.{purge_pool, purge_journal}
use Rattle.pa_record.proofs.Worked.{purge}
use Rattle.pa_lists.proofs.Members.{of_some, not_some}
use Rattle.pa_rules.specs.declared.register.Register.TheVariants.{Own, Freed}
use Rattle.pa_rules.specs.Played.{marks_of, AreLines}
use Rattle.pa_rules.specs.Cells.{AreCells}
use Rattle.pa_rules.specs.Registers.{Regs, with, no_regs, AreRegisters}
use Rattle.pa_rules.specs.Contents.{IsReadAllowed, AreContents}
use Rattle.pa_rules.specs.Roots.{Journals, journal_at, IsEntry, AreRoots, IsPoolOf, AreAllTitles}
use Rattle.pa_rules.specs.Holders.{InRoot, WithThread, AreHolders}
use Rattle.pa_rules.specs.Caches.{Cache, Caches, with_list, with_cache, no_caches, acts_of, purge_acts, IsOfClass, MadeRow, DoneRow, CachesTo, AreCaches, listed_slots}
use Rattle.pa_rules.specs.Seen.{IsSeenInOrder}
use Rattle.pa_rules.specs.Report.{HasSize, InPhases, IsTally, IsReportLine, IsReport, listed_bytes}
use Rattle.pa_rules.specs.Sizes.{slot_size_for, usable_of}
use Rattle.pa_rules.specs.Worked.{first_slot, of_first_thread, purge_records}
use Rattle.pa_rules.proofs.Following.{titles_follow}
use Rattle.pa_rules.proofs.Running.{OtherLine}
use Rattle.pa_legal.proofs.tallies.Levels.{is_live, live_is, is_live_of, is_quarantined, quarantined_is, is_quarantined_of}
use Rattle.pa_examples.specs.Worked.{tally}
use Rattle.pa_examples.specs.WorkedPurge.{purge_trace, purge_report}
use Rattle.pa_one_run.specs.Parts.{pool_line}
use Rattle.pa_examples.proofs.worked.Lists.{each, rises, only_journal, lines_follow, in_order}
use Rattle.pa_examples.proofs.worked.Slots.{Worded, are_worded, worded_slots}
use Rattle.pa_examples.proofs.worked.Alone.{no_cells, no_cell_used, seen_by_line}
use Rattle.pa_examples.proofs.worked.Holders.{HasIt, IsIssued, issued, no_moves}
use Rattle.pa_examples.proofs.worked.Moves.{holders_of_one}
use Rattle.pa_examples.proofs.worked.OneJournal.{IsMade, no_other, roots_of_one, census_of_one}
use Rattle.pa_examples.proofs.worked.Report.{other_lines, slots_of_kind}
use Rattle.pa_examples.proofs.worked.OneFill.{the_slot, filled, rest}
use Rattle.pa_lists.proofs.Indexed.{at_in}
use Rattle.pa_rules.proofs.Worked.{class_0}

abbrev roots : Journals
roots = journal_at (purge_journal ∷ [])

pub lines : AreLines (rules_of purge_trace) purge_trace.lines purge_records
lines = refl

pub cells : AreCells no_cells purge_records
cells = no_cell_used purge_records refl

-- the registers after each line
abbrev after_made : Regs
after_made = with (no_regs 0) 0 (Own the_slot)

abbrev after_free : Regs
after_free = with after_made 0 Freed

abbrev after_again : Regs
after_again = with after_free 1 (Own the_slot)

pub registers : AreRegisters (usable_of 1) no_cells purge_records
unfolding slot_size_for rows
registers = (
  _,
  (
    after_made,
    inr (inl (lit≤ tt, first_slot 0, refl, λ k. refl)),
    (
      after_free,
      (first_slot 16777217, refl, refl, λ k. refl),
      (
        after_free,
        (8, refl, λ k. refl),
        (after_again, inr (inl (lit≤ tt, first_slot 33554432, refl, λ k. refl)), refl),
      ),
    ),
  ),
)

-- the words of the slot: issued, freed and issued again
abbrev words : List Worded
words = record { slot = the_slot; words = 0x1000001 ∷ 0x2000000 ∷ 0x3000001 ∷ [] } ∷ []

worded : are_worded (marks_of purge_records) words ≡ true
worded = refl

pub slots_in_order : Slots (marks_of purge_records)
slots_in_order = worded_slots (marks_of purge_records) words worded

-- nothing was read
pub contents : AreContents (usable_of 1) no_cells purge_records
contents = each (λ x. IsReadAllowed (usable_of 1) no_cells purge_records x x.answer) purge_records (search rules)

pub seen : IsSeenInOrder no_cells purge_records
seen = seen_by_line purge_records refl

follow : lines_follow purge_records ≡ true
follow = refl

made : AllByRecursion (IsMade purge_records purge_pool) purge_journal
made = (
  (_, ((0, lit< tt, refl), refl), (0, 8, refl, class_0)),
  (
    (_, ((2, lit< tt, refl), refl), inr refl),
    (
      (_, ((2, lit< tt, refl), refl), refl),
      ((_, ((3, lit< tt, refl), refl), (1, 8, refl, class_0)), tt),
    ),
  ),
)

pub rooted : AreRoots 1 purge_records purge_pool roots
rooted = roots_of_one purge_records purge_pool purge_journal purge_trace lines purge.is_journal made follow refl refl

-- the first entry of the journal names that of the pool, and no other does
first_names : (i j : ℕ) (e : RootEntry) → slice_get purge_journal i ≡ Some e → asked_by e.act ≡ Some j → i ≡ 0
first_names zero j e at asked = refl
first_names (suc i) j e at asked =
    let none : asked_by e.act ≡ None =
    each (λ (z : RootEntry). asked_by z.act ≡ None) (drop 1 purge_journal) (refl, (refl, (refl, tt))) e
    (at_in (drop 1 purge_journal) i e at) in
    absurd (not_some j (sym none ∙ asked))

named : (j : ℕ) (e : PoolEntry) → slice_get purge_pool j ≡ Some e → (i : ℕ) × (f : RootEntry) × IsEntry roots e.partition i f ×
    (asked_by f.act ≡ Some j) × (f.line ≡ e.line)
named zero e at = subst (λ (z : PoolEntry). (i : ℕ) × (f : RootEntry) × IsEntry roots z.partition i f × (asked_by f.act ≡ Some 0) ×
    (f.line ≡ z.line)) (of_some _ e at) (0, _, refl, refl, refl)
named (suc j) e at = absurd (not_some e at)

pub pooled : IsPoolOf 1 purge_records purge_pool roots
pooled = record {
  fits = purge.is_pool;
  named = named;
  once = λ j p q i k d is_there (e, at, asked) (f, at', asked').
      let (here, stands) = only_journal purge_journal p i e at in
      let (there, stands') = only_journal purge_journal q k f at' in
      (here ∙ sym there, first_names i j e stands asked ∙ sym (first_names k j f stands' asked'));
  order = in_order purge_records pool_line purge_pool follow (rises pool_line purge_pool refl);
}

pub titled : AreAllTitles purge_pool roots
titled = titles_follow.titles 1 1 purge_records purge_pool roots rooted pooled

-- the root has the slot first, and then the thread that freed it, until the purge
has_first : HasIt purge_records roots 0 (first_slot 0)
has_first = (0, InRoot, no_moves purge_journal _ _, inl (refl, refl), (_, ((0, lit< tt, refl), refl), refl))

has_again : HasIt purge_records roots 0 (first_slot 33554432)
has_again = (
  0,
  WithThread 0,
  no_moves purge_journal _ _,
  inr (_, ((1, lit< tt, refl), _, steps.Free, refl, refl, refl, (refl, refl), refl), refl),
  (_, ((2, lit< tt, refl), refl), (_, ((3, lit< tt, refl), refl), refl)),
)

all_issued : AllByRecursion (IsIssued purge_records roots) purge_records
all_issued = (
  issued purge_records roots 0 _ 8 has_first,
  (
    λ seen usable a. absurd cc,
    (
      λ seen usable a. absurd cc,
      (issued purge_records roots 0 _ 8 has_again, tt),
    ),
  ),
)

pub held : AreHolders purge_records roots
held = holders_of_one purge_records purge_journal refl refl refl all_issued

abbrev freed : Numbered
freed = record { slot = the_slot; number = 2 }

-- the thread's lists after each line
abbrev listed_made : Cache
listed_made = with_list (no_caches 0) 0 0 rest

abbrev listed_free : Cache
listed_free = with_list listed_made 0 0 (freed ∷ rest)

abbrev listed_again : Cache
listed_again = with_list (no_caches 0) 0 0 rest

abbrev pub at_end : Caches
at_end = with_cache (with_cache (with_cache (with_cache no_caches 0 listed_made) 0 listed_free) 0 (no_caches 0)) 0 listed_again

of_class : IsOfClass roots the_slot 0 0
of_class = (_, Some 0, filled, (0, lit< tt, refl), refl, (0, lit< tt, refl))

made_row : MadeRow roots (of_first_thread 2 (ops.Alloc 0 0 8) (answers.Made (first_slot 0) 8)) (first_slot 0) (no_caches 0) listed_made
made_row = inl (0, 0, filled, rest, (0, 8, refl, class_0), (Some 0, (refl, no_other purge_journal 2)), refl, λ p c. refl)

free_row : DoneRow roots (of_first_thread 3 (ops.Free 0) (answers.Done (first_slot 16777217))) (Some steps.Free)
    (first_slot 16777217) listed_made listed_free
unfolding rows row_of limit_of
free_row = inl ((refl, refl), inl (0, 0, of_class, (refl, no_other purge_journal 3), λ p c. refl))

purged_acts : (p : ℕ) → p < 1 → acts_of roots 4 p ≡ purge_acts (listed_free p) 0 170
purged_acts zero below = refl
purged_acts (suc p) below = absurd (omega arith)

again_row : MadeRow roots (of_first_thread 5 (ops.Alloc 1 0 8) (answers.Made (first_slot 33554432) 8)) (first_slot 33554432)
    (no_caches 0) listed_again
again_row = inl (0, 0, freed ∷ rest, rest, (1, 8, refl, class_0), (None, (refl, no_other purge_journal 5)), refl, λ p c. refl)

pub cached_to : CachesTo 1 roots no_caches purge_records at_end
unfolding listed_slots
cached_to = (
  listed_made,
  made_row,
  (listed_free, free_row, (no_caches 0, (purged_acts, refl, λ p c. refl), (listed_again, again_row, refl))),
)

pub cached : AreCaches 1 roots purge_records
cached = (at_end, cached_to)

-- the report
alone : AllPairs OtherLine (marks_of purge_records)
alone = other_lines (marks_of purge_records) refl

has_size : HasSize roots 0 the_slot 16
unfolding rows row_of slot_of
has_size = inl (0, of_class, refl)

live : IsTally IsLive roots purge_records 0 (tally 1 16)
live = (
  _,
  16 ∷ [],
  slots_of_kind IsLive is_live live_is is_live_of refl roots purge_records 0 words (16 ∷ []) alone worded
      (has_size, tt) refl,
  refl,
  refl,
)

quarantined : IsTally IsQuarantined roots purge_records 0 (tally 0 0)
quarantined = (
  _,
  [],
  slots_of_kind IsQuarantined is_quarantined quarantined_is is_quarantined_of refl roots purge_records 0 words
      [] alone worded tt refl,
  refl,
  refl,
)

in_phase_1 : AllByRecursion (InPhases purge_records 1) purge_journal
in_phase_1 = (
  (_, ((0, lit< tt, refl), refl), lit≤ tt),
  (
    (_, ((2, lit< tt, refl), refl), lit≤ tt),
    (
      (_, ((2, lit< tt, refl), refl), lit≤ tt),
      ((_, ((3, lit< tt, refl), refl), lit≤ tt), tt),
    ),
  ),
)

all_right : AllByRecursion (IsReportLine 1 1 purge_records purge_pool roots) purge_report
unfolding rows row_of slot_of listed_slots listed_bytes
all_right = (
  record {
    live = live;
    quarantined = quarantined;
    cached = (at_end, cached_to, refl, refl);
    root = census_of_one purge_records purge_pool purge_journal 1 _ in_phase_1 refl purge.counted;
  },
  tt,
)

pub reported : IsReport 1 1 1 purge_records purge_pool roots purge_report
reported = record { places = refl; right = All-from_recursion (IsReportLine 1 1 purge_records purge_pool roots) purge_report all_right }
