-- Three small runs of two threads that were worked out by hand, of which none has a timeline: by what their reads gave.
use Rattle.std.specs.Prelude.{ℕ, List, [], ◌∷◌, Some}
use Rattle.pa_slot.specs.Titles.{poison}
use Rattle.pa_trace.specs.declared.script.Trace.{Trace}
use Rattle.pa_trace.specs.declared.script.Line.{Line}
use Rattle.pa_trace.specs.declared.script.Line.TheVariants.{Phase, Do}
use Rattle.pa_trace.specs.declared.script.Op.TheVariants as ops
use Rattle.pa_trace.specs.Rules.{first_rules}
use Rattle.pa_record.specs.declared.entry.Answer.TheVariants as answers
use Rattle.pa_record.specs.declared.root.RootEntry.{RootEntry}
use Rattle.pa_record.specs.declared.report.ReportLine.{ReportLine}
use Rattle.pa_record.specs.Worked.{slots, fill}
use Rattle.pa_rules.specs.declared.played.Played.{Played}
use Rattle.pa_timeline.specs.Timeline.{HasTimeline}
use Rattle.pa_timeline.specs.Worked.{told_as, trace_as, lower_slot, slot_seen, one_fill, one_super_page, passed_on}

-- ---- how each of them begins

-- thread 0 makes a slot of this many bytes, and hands a raw_ptr to it to thread 1, and then these lines come
abbrev pub handed_lines : ℕ → List Line → List Line
handed_lines size lines =
    Do 0 (ops.Alloc 0 0 size) ∷ Do 0 (ops.Copy 0 1) ∷ Do 0 (ops.Swap 0 1) ∷ Phase ∷ Do 1 (ops.Swap 0 0) ∷ lines

-- the records of `handed_lines` for a slot of this many bytes, and these after them
abbrev pub handed_records : ℕ → List Played → List Played
handed_records size records =
    record {
      line = 2;
      thread = 0;
      phase = 1;
      rules = first_rules 1;
      op = ops.Alloc 0 0 size;
      answer = answers.Made (slot_seen lower_slot 0) size;
    }
    ∷ record {
      line = 3;
      thread = 0;
      phase = 1;
      rules = first_rules 1;
      op = ops.Copy 0 1;
      answer = answers.Done (slot_seen lower_slot 0x1000001);
    }
    ∷ record { line = 4; thread = 0; phase = 1; rules = first_rules 1; op = ops.Swap 0 1; answer = answers.Swapped 0 }
    ∷ record { line = 6; thread = 1; phase = 2; rules = first_rules 1; op = ops.Swap 0 0; answer = answers.Swapped 1 }
    ∷ records

-- ---- poison, and then the content again

-- thread 0 frees the slot, and thread 1 reads its one word twice, and finds poison and then the content
abbrev pub gone_poison_trace : Trace
gone_poison_trace = trace_as (handed_lines 8 (Do 0 (ops.Free 0) ∷ Do 1 (ops.Read 0 0) ∷ Do 1 (ops.Read 0 0) ∷ []))

-- the records of `gone_poison_trace`: the free, and then reads of the one word that give poison and 0
abbrev pub gone_poison_records : List Played
gone_poison_records =
    handed_records 8
    (record {
      line = 7;
      thread = 0;
      phase = 2;
      rules = first_rules 1;
      op = ops.Free 0;
      answer = answers.Done (slot_seen lower_slot 0x2000003);
    }
    ∷ record {
      line = 8;
      thread = 1;
      phase = 2;
      rules = first_rules 1;
      op = ops.Read 0 0;
      answer = answers.Value (slot_seen lower_slot 0x2000003) poison;
    }
    ∷ record {
      line = 9;
      thread = 1;
      phase = 2;
      rules = first_rules 1;
      op = ops.Read 0 0;
      answer = answers.Value (slot_seen lower_slot 0x2000003) 0;
    }
    ∷ [])

-- The run in which poison is read and then the content has no timeline, whatever its report: what is poison stays so.
abbrev pub GonePoisonHasNone : Type 0
GonePoisonHasNone =
    (report : List ReportLine) →
    HasTimeline gone_poison_trace
    (told_as gone_poison_records (one_fill ∷ []) one_super_page (passed_on 4 6 lower_slot ∷ []) report) → ⊥

-- ---- poison in the second word, and then the content in the first

-- the fill of a journal with slots of 32 bytes, which have three content words
abbrev pub wide_fill : List RootEntry
wide_fill = fill 2 0 (Some 0) (slots 1 0 (16384 ∷ 16416 ∷ 16448 ∷ 16480 ∷ 16512 ∷ 16544 ∷ 16576 ∷ 16608 ∷ [])) ∷ []

-- thread 0 frees the slot, and thread 1 finds poison in its second word, and then the content in its first
abbrev pub second_word_trace : Trace
second_word_trace = trace_as (handed_lines 24 (Do 0 (ops.Free 0) ∷ Do 1 (ops.Read 0 1) ∷ Do 1 (ops.Read 0 0) ∷ []))

-- the records of `second_word_trace`: the free, and then reads that give poison in word 1 and 0 in word 0
abbrev pub second_word_records : List Played
second_word_records =
    handed_records 24
    (record {
      line = 7;
      thread = 0;
      phase = 2;
      rules = first_rules 1;
      op = ops.Free 0;
      answer = answers.Done (slot_seen lower_slot 0x2000003);
    }
    ∷ record {
      line = 8;
      thread = 1;
      phase = 2;
      rules = first_rules 1;
      op = ops.Read 0 1;
      answer = answers.Value (slot_seen lower_slot 0x2000003) poison;
    }
    ∷ record {
      line = 9;
      thread = 1;
      phase = 2;
      rules = first_rules 1;
      op = ops.Read 0 0;
      answer = answers.Value (slot_seen lower_slot 0x2000003) 0;
    }
    ∷ [])

-- The run in which poison is read in the second word and then the content in the first has no timeline, whatever its report: a free
-- poisons the first word before the second.
abbrev pub SecondWordHasNone : Type 0
SecondWordHasNone =
    (report : List ReportLine) →
    HasTimeline second_word_trace
    (told_as second_word_records (wide_fill ∷ []) one_super_page (passed_on 4 6 lower_slot ∷ []) report) → ⊥

-- ---- poison before a copy that the freeing thread found

-- Thread 1 reads poison and then copies its raw_ptr, and thread 0 copies its owner and frees the slot. By the numbers of the
-- slot thread 1's copy came before thread 0's.
abbrev pub copied_trace : Trace
copied_trace =
    trace_as (handed_lines 8 (Do 1 (ops.Read 0 0) ∷ Do 1 (ops.Copy 0 1) ∷ Do 0 (ops.Copy 0 2) ∷ Do 0 (ops.Free 0) ∷ []))

-- the records of `copied_trace`: the read that gives poison, the copies of thread 1 and of thread 0, and then the free
abbrev pub copied_records : List Played
copied_records =
    handed_records 8
    (record {
      line = 7;
      thread = 1;
      phase = 2;
      rules = first_rules 1;
      op = ops.Read 0 0;
      answer = answers.Value (slot_seen lower_slot 0x2000003) poison;
    }
    ∷ record {
      line = 8;
      thread = 1;
      phase = 2;
      rules = first_rules 1;
      op = ops.Copy 0 1;
      answer = answers.Done (slot_seen lower_slot 0x2000003);
    }
    ∷ record {
      line = 9;
      thread = 0;
      phase = 2;
      rules = first_rules 1;
      op = ops.Copy 0 2;
      answer = answers.Done (slot_seen lower_slot 0x3000005);
    }
    ∷ record {
      line = 10;
      thread = 0;
      phase = 2;
      rules = first_rules 1;
      op = ops.Free 0;
      answer = answers.Done (slot_seen lower_slot 0x4000007);
    }
    ∷ [])

-- The run in which poison is read before a copy that comes before the free has no timeline, whatever its report:
-- the read was over before the free began.
abbrev pub CopiedHasNone : Type 0
CopiedHasNone =
    (report : List ReportLine) →
    HasTimeline copied_trace
    (told_as copied_records (one_fill ∷ []) one_super_page (passed_on 4 6 lower_slot ∷ []) report) → ⊥
