-- Four runs that have no outline.
use Rattle.std.proofs.Common.{◌≡◌, ℕ, List, [], ◌∷◌, get_or, Some, None, refl, sym, ◌∙◌, ap, arith, inl, inr}
use Rattle.pa_slot.specs.declared.word.Step.TheVariants as steps
use Rattle.pa_trace.specs.declared.script.Op.TheVariants as ops
use Rattle.pa_trace.specs.Rules.{first_rules, rules_of}
use Rattle.pa_record.specs.declared.entry.Answer.TheVariants as answers
use Rattle.pa_record.specs.declared.root.RootAct.TheVariants.{Purge}
use Rattle.pa_record.specs.declared.root.RootEntry.{RootEntry}
use Rattle.pa_record.specs.Worked.{purge}
use Rattle.pa_lists.proofs.Indexed.{at_in}
use Rattle.pa_rules.specs.declared.played.Played.{Played}
use Rattle.pa_rules.specs.Played.{mark_at}
use Rattle.pa_rules.specs.Roots.{journal_at}
use Rattle.pa_rules.proofs.Numbering.{lines_differ}
use Rattle.pa_timeline.specs.Timeline.{Part, Entering, Swapping, Looking, Counting, Moment, outline_parts, part_enters, part_swaps}
use Rattle.pa_timeline.specs.Worked.{lower_slot, upper_slot, slot_seen, one_fill, two_slots_trace, two_slots_records, TwoSlotsHaveNone, purges_trace, purges_records, purged_in, PurgesHaveNone, slot_and_cell_trace, slot_and_cell_records, SlotAndCellHaveNone, journal_and_cell_trace, journal_and_cell_records, JournalAndCellHaveNone}
use Rattle.pa_timeline.proofs.Places.{in_two, in_three, by_list, part_on, parts_kept, moment, placed, by_line, by_number}

-- ---- two slots

abbrev slots_at : ℕ → Played
slots_at i = get_or two_slots_records i
    (record { line = 0; thread = 0; phase = 0; rules = first_rules 1; op = ops.Purge; answer = answers.Nothing })

abbrev slots_due : ℕ → List Part
slots_due i = outline_parts 1 (journal_at (one_fill ∷ [])) (slots_at i)

-- the counted steps on lines 12 to 15
pub two_slots_have_none : TwoSlotsHaveNone
two_slots_have_none report (ms, t) =
    let differ = lines_differ (rules_of two_slots_trace) two_slots_trace.lines two_slots_records refl in
    let (i, at_i) = placed _ _ _ _ _ ms t differ (slots_at 8) Counting (at_in two_slots_records 8 (slots_at 8) refl)
    (at_in (slots_due 8) 0 Counting refl) in
    let (j, at_j) = placed _ _ _ _ _ ms t differ (slots_at 9) Counting (at_in two_slots_records 9 (slots_at 9) refl)
    (at_in (slots_due 9) 0 Counting refl) in
    let (k, at_k) = placed _ _ _ _ _ ms t differ (slots_at 10) Counting (at_in two_slots_records 10 (slots_at 10) refl)
    (at_in (slots_due 10) 0 Counting refl) in
    let (l, at_l) = placed _ _ _ _ _ ms t differ (slots_at 11) Counting (at_in two_slots_records 11 (slots_at 11) refl)
    (at_in (slots_due 11) 0 Counting refl) in
    let a = by_line _ _ _ _ _ ms t i j (moment (slots_at 8) Counting) (moment (slots_at 9) Counting) at_i at_j (inl (refl, omega arith)) in
    let b = by_number _ _ _ _ _ ms t j k (moment (slots_at 9) Counting) (moment (slots_at 10) Counting)
    (mark_at 13 (slot_seen lower_slot 0x2000003) (Some steps.Free)) (mark_at 14 (slot_seen lower_slot 0x3000002) (Some steps.Reset))
    at_j at_k (inr refl) (inr refl) refl refl refl (omega arith) in
    let c = by_line _ _ _ _ _ ms t k l (moment (slots_at 10) Counting) (moment (slots_at 11) Counting) at_k at_l
    (inl (refl, omega arith)) in
    let d = by_number _ _ _ _ _ ms t l i (moment (slots_at 11) Counting) (moment (slots_at 8) Counting)
    (mark_at 15 (slot_seen upper_slot 0x2000003) (Some steps.Reset)) (mark_at 12 (slot_seen upper_slot 0x3000001) (Some steps.Free))
    at_l at_i (inr refl) (inr refl) refl refl refl (omega arith) in
    omega arith

-- ---- two partitions

abbrev purge_at : ℕ → Played
purge_at i = get_or purges_records i
    (record { line = 0; thread = 0; phase = 0; rules = first_rules 1; op = ops.Purge; answer = answers.Nothing })

abbrev purge_due : ℕ → List Part
purge_due i = outline_parts 2 (journal_at (purged_in 3 4 2 ∷ purged_in 2 3 4 ∷ [])) (purge_at i)

abbrev entered : ℕ → ℕ → Moment
entered i p = moment (purge_at i) (Entering p Purge)

entry_line : (x y : RootEntry) → x ≡ y → x.line ≡ y.line
entry_line x y e = ap (λ (z : RootEntry). z.line) e

pub purges_have_none : PurgesHaveNone
purges_have_none report (ms, t) =
    let differ = lines_differ (rules_of purges_trace) purges_trace.lines purges_records refl in
    let (i, at_i) = placed _ _ _ _ _ ms t differ (purge_at 2) (Entering 0 Purge) (at_in purges_records 2 (purge_at 2) refl)
    (at_in (purge_due 2) 0 (Entering 0 Purge) refl) in
    let (j, at_j) = placed _ _ _ _ _ ms t differ (purge_at 0) (Entering 0 Purge) (at_in purges_records 0 (purge_at 0) refl)
    (at_in (purge_due 0) 0 (Entering 0 Purge) refl) in
    let (k, at_k) = placed _ _ _ _ _ ms t differ (purge_at 0) (Entering 1 Purge) (at_in purges_records 0 (purge_at 0) refl)
    (at_in (purge_due 0) 1 (Entering 1 Purge) refl) in
    let (l, at_l) = placed _ _ _ _ _ ms t differ (purge_at 1) (Entering 1 Purge) (at_in purges_records 1 (purge_at 1) refl)
    (at_in (purge_due 1) 1 (Entering 1 Purge) refl) in
    let a = by_list (λ (m : Moment). part_enters 0 m.x.line m.part) ms i j (entered 2 0) (entered 0 0) (purge 4)
    (purge 2) at_i at_j refl refl (λ e. let n = entry_line _ _ e in omega arith)
    (λ us vs ws e. elim (in_three (purge 3) (purge 4) (purge 2) (purge 4) (purge 2) us vs ws (sym (t.journals 0) ∙ e)) [
      | inl (first, rest) ↦ let n = entry_line _ _ first in omega arith
      | inr (second, rest) ↦ let n = entry_line _ _ second in omega arith
    ]) in
    let b = by_list (part_on 2) ms j k (entered 0 0) (entered 0 1) (Entering 0 Purge) (Entering 1 Purge) at_j at_k refl refl (λ e. cc)
    (λ us vs ws e.
    let (first, second) = in_two (Entering 0 Purge) (Entering 1 Purge) (Entering 0 Purge) (Entering 1 Purge) us vs ws
    (sym (parts_kept 2 ms ∙ t.whole (purge_at 0) (at_in purges_records 0 (purge_at 0) refl)) ∙ e) in
    cc) in
    let c = by_list (λ (m : Moment). part_enters 1 m.x.line m.part) ms k l (entered 0 1) (entered 1 1) (purge 2)
    (purge 3) at_k at_l refl refl (λ e. let n = entry_line _ _ e in omega arith)
    (λ us vs ws e. elim (in_three (purge 2) (purge 3) (purge 4) (purge 2) (purge 3) us vs ws (sym (t.journals 1) ∙ e)) [
      | inl (first, rest) ↦ let n = entry_line _ _ first in omega arith
      | inr (second, third) ↦ let n = entry_line _ _ third in omega arith
    ]) in
    let d = by_line _ _ _ _ _ ms t l i (entered 1 1) (entered 2 0) at_l at_i (inl (refl, omega arith)) in
    omega arith

-- ---- an exchange of nothing and a slot

abbrev cell_at : ℕ → Played
cell_at i = get_or slot_and_cell_records i
    (record { line = 0; thread = 0; phase = 0; rules = first_rules 1; op = ops.Purge; answer = answers.Nothing })

abbrev cell_due : ℕ → List Part
cell_due i = outline_parts 1 (journal_at (one_fill ∷ [])) (cell_at i)

-- the steps on lines 7 to 10
pub slot_and_cell_have_none : SlotAndCellHaveNone
slot_and_cell_have_none report (ms, t) =
    let differ = lines_differ (rules_of slot_and_cell_trace) slot_and_cell_trace.lines slot_and_cell_records refl in
    let (i, at_i) = placed _ _ _ _ _ ms t differ (cell_at 4) Swapping (at_in slot_and_cell_records 4 (cell_at 4) refl)
    (at_in (cell_due 4) 0 Swapping refl) in
    let (j, at_j) = placed _ _ _ _ _ ms t differ (cell_at 5) Counting (at_in slot_and_cell_records 5 (cell_at 5) refl)
    (at_in (cell_due 5) 0 Counting refl) in
    let (k, at_k) = placed _ _ _ _ _ ms t differ (cell_at 6) Looking (at_in slot_and_cell_records 6 (cell_at 6) refl)
    (at_in (cell_due 6) 0 Looking refl) in
    let (l, at_l) = placed _ _ _ _ _ ms t differ (cell_at 7) Swapping (at_in slot_and_cell_records 7 (cell_at 7) refl)
    (at_in (cell_due 7) 0 Swapping refl) in
    let a = by_line _ _ _ _ _ ms t i j (moment (cell_at 4) Swapping) (moment (cell_at 5) Counting) at_i at_j (inl (refl, omega arith)) in
    let b = by_number _ _ _ _ _ ms t j k (moment (cell_at 5) Counting) (moment (cell_at 6) Looking)
    (mark_at 8 (slot_seen lower_slot 0x2000003) (Some steps.Copy)) (mark_at 9 (slot_seen lower_slot 0x3000005) None)
    at_j at_k (inr refl) (inl refl) refl refl refl (omega arith) in
    let c = by_line _ _ _ _ _ ms t k l (moment (cell_at 6) Looking) (moment (cell_at 7) Swapping) at_k at_l (inl (refl, omega arith)) in
    let d = by_list (λ (m : Moment). part_swaps 1 m.x.line m.x.op m.part) ms l i (moment (cell_at 7) Swapping)
    (moment (cell_at 4) Swapping) 10 7 at_l at_i refl refl (λ e. omega arith)
    (λ us vs ws e. let (first, second) = in_two 10 7 10 7 us vs ws (sym (t.exchanges 1) ∙ e) in omega arith) in
    omega arith

-- ---- an exchange of nothing and a journal

abbrev purger_at : ℕ → Played
purger_at i = get_or journal_and_cell_records i
    (record { line = 0; thread = 0; phase = 0; rules = first_rules 1; op = ops.Purge; answer = answers.Nothing })

abbrev purger_due : ℕ → List Part
purger_due i = outline_parts 1 (journal_at ((purge 3 ∷ purge 4 ∷ []) ∷ [])) (purger_at i)

abbrev purged_at : ℕ → Moment
purged_at i = moment (purger_at i) (Entering 0 Purge)

pub journal_and_cell_have_none : JournalAndCellHaveNone
journal_and_cell_have_none report (ms, t) =
    let differ = lines_differ (rules_of journal_and_cell_trace) journal_and_cell_trace.lines journal_and_cell_records refl in
    let all = journal_and_cell_records in
    let (i, at_i) = placed _ _ _ _ _ ms t differ (purger_at 0) Swapping (at_in all 0 (purger_at 0) refl)
    (at_in (purger_due 0) 0 Swapping refl) in
    let (j, at_j) = placed _ _ _ _ _ ms t differ (purger_at 1) (Entering 0 Purge) (at_in all 1 (purger_at 1) refl)
    (at_in (purger_due 1) 0 (Entering 0 Purge) refl) in
    let (k, at_k) = placed _ _ _ _ _ ms t differ (purger_at 2) (Entering 0 Purge) (at_in all 2 (purger_at 2) refl)
    (at_in (purger_due 2) 0 (Entering 0 Purge) refl) in
    let (l, at_l) = placed _ _ _ _ _ ms t differ (purger_at 3) Swapping (at_in all 3 (purger_at 3) refl)
    (at_in (purger_due 3) 0 Swapping refl) in
    let a = by_line _ _ _ _ _ ms t i j (moment (purger_at 0) Swapping) (purged_at 1) at_i at_j (inl (refl, omega arith)) in
    let b = by_list (λ (m : Moment). part_enters 0 m.x.line m.part) ms j k (purged_at 1) (purged_at 2) (purge 3)
    (purge 4) at_j at_k refl refl (λ e. let n = entry_line _ _ e in omega arith)
    (λ us vs ws e.
    let (first, second) = in_two (purge 3) (purge 4) (purge 3) (purge 4) us vs ws (sym (t.journals 0) ∙ e) in
    let n = entry_line _ _ first in omega arith) in
    let c = by_line _ _ _ _ _ ms t k l (purged_at 2) (moment (purger_at 3) Swapping) at_k at_l (inl (refl, omega arith)) in
    let d = by_list (λ (m : Moment). part_swaps 0 m.x.line m.x.op m.part) ms l i (moment (purger_at 3) Swapping)
    (moment (purger_at 0) Swapping) 5 2 at_l at_i refl refl (λ e. omega arith)
    (λ us vs ws e. let (first, second) = in_two 5 2 5 2 us vs ws (sym (t.exchanges 0) ∙ e) in omega arith) in
    omega arith
