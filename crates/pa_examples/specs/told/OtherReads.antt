-- The worked run of two threads with each of the other two answers that its read may give: the content, and that the slot was
-- freed. Both meet what is required of logs and of what was seen.
use Rattle.std.specs.Prelude.{ℕ, List, [], ◌∷◌, ◌++◌, take, drop, false}
use Rattle.pa_region.specs.declared.view.Entry.{Entry}
use Rattle.pa_region.specs.declared.view.Entry.TheVariants.{Looked, Read}
use Rattle.pa_region.specs.Moves.{no_deeds}
use Rattle.pa_slot.specs.Titles.{poison}
use Rattle.pa_trace.specs.declared.script.Op.TheVariants as ops
use Rattle.pa_record.specs.declared.entry.Answer.{Answer}
use Rattle.pa_record.specs.declared.entry.Answer.TheVariants as answers
use Rattle.pa_rules.specs.Cells.{history_at}
use Rattle.pa_examples.specs.Worked.{seen_at, two_threads_history, of_one}
use Rattle.pa_logs.specs.Told.{ToldRecord}
use Rattle.pa_logs.specs.Touches.{AreTold}
use Rattle.pa_logs.specs.Reads.{KnowsAll, HaveEnds}
use Rattle.pa_logs.specs.Viewed.{AreViewed}
use Rattle.pa_logs.specs.Worked.{sixteen, its_title, view_of}
use Rattle.pa_examples.specs.told.Threads.{seen_number, read_poison, threads_worked}
use Rattle.pa_examples.specs.told.Worked.{Worked, told_records}

-- the read with this answer and log segment, after which its seat has seen this number
abbrev pub read_with : Answer → List Entry → ℕ → Worked
read_with answer stretch after = record {
  played = record of_one { line = 8; thread = 1; phase = 2; op = ops.Read 0 0; answer = answer };
  stretch = stretch;
  saw = seen_number 2;
  gives = seen_number after;
}

-- the read that gave the content, which is 0 as the slot was made
abbrev pub content_read : Worked
content_read =
    read_with (answers.Value (seen_at 16384 0 0x2000003) 0) (Looked its_title 0x2000003 ∷ Read its_title 0 0 no_deeds false false ∷ []) 2

-- the read that found the slot freed and gave poison, after which its seat has seen number 3
abbrev pub freed_read : Worked
freed_read = read_with (answers.Dangling (seen_at 16384 0 0x3000002) poison) (read_poison 0x3000002) 3

-- the records with that read in place of the one that found poison under the bit
abbrev pub reading_so : Worked → List ToldRecord
reading_so read = told_records (take 5 threads_worked ++ (read ∷ drop 6 threads_worked))

-- These records meet what is required of logs and of what was seen.
pub record LogsFit (ts : List ToldRecord) : Type 0 where
  pub told : AreTold sixteen ts
  pub last : KnowsAll (view_of ts) ts
  pub ends : HaveEnds ts
  pub viewed : AreViewed (history_at (two_threads_history ∷ [])) ts

-- the records meet that if the read gave the content, and if it found the slot freed
pub record OtherReadsFit : Type 0 where
  pub content : LogsFit (reading_so content_read)
  pub freed : LogsFit (reading_so freed_read)
