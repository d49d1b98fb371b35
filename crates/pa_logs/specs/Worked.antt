-- Four records of two threads that were worked out by hand: a slot is made and pointed to by thread 0, read by thread 1, and
-- freed by thread 0. They meet what the laws of steps, of reads and of what was seen require.
use Rattle.std.specs.Prelude.{ℕ, List, [], ◌∷◌, map, false, if◌then◌else◌}
use Rattle.pa_slot.specs.declared.title.Title.{Title}
use Rattle.pa_slot.specs.declared.word.SlotName.{SlotName}
use Rattle.pa_slot.specs.declared.word.Step.TheVariants.{Issue, Copy, Free}
use Rattle.pa_slot.specs.Titles.{same_title}
use Rattle.pa_trace.specs.Rules.{first_rules}
use Rattle.pa_region.specs.declared.view.Entry.{Entry}
use Rattle.pa_region.specs.declared.view.Entry.TheVariants.{Counted, Looked, Read}
use Rattle.pa_region.specs.declared.view.Stake.{Stake}
use Rattle.pa_region.specs.declared.view.View.{View}
use Rattle.pa_region.specs.Moves.{no_deeds}
use Rattle.pa_region.specs.Start.{blank, stakes_from}
use Rattle.pa_trace.specs.declared.script.Op.{Op}
use Rattle.pa_trace.specs.declared.script.Op.TheVariants as ops
use Rattle.pa_record.specs.declared.entry.Seen.{Seen}
use Rattle.pa_record.specs.declared.entry.Answer.{Answer}
use Rattle.pa_record.specs.declared.entry.Answer.TheVariants as answers
use Rattle.pa_record.specs.declared.history.CellEntry.{CellEntry}
use Rattle.pa_logs.specs.Told.{ToldRecord, played_in, log_of}
use Rattle.pa_logs.specs.Reads.{IsReadOff}
use Rattle.pa_logs.specs.Viewed.{IsOrdered, AreViewed}

-- each slot has 16 bytes
abbrev pub sixteen : SlotName → ℕ
sixteen s = 16

-- the slot at byte 16384, seen with this count word
abbrev pub slot_with : ℕ → Seen
slot_with word = record { slot = record { start = 16384; born = 0 }; found = record { 0 = word } }

-- the slot's title: 16 bytes from byte 16384 on, out of what the pool's entry 0 took
abbrev pub its_title : Title
its_title = record { start = 16384; len = 16; born = 0 }

-- the number of that title, and 0 of another
abbrev pub at_number : ℕ → Title → ℕ
at_number n t = if same_title its_title t then n else 0

-- a record in phase 1, what its thread's log says of it, the number that its seat had seen, and the one that it hands on
abbrev pub worked : ℕ → ℕ → Op → Answer → List Entry → ℕ → ℕ → ToldRecord
worked line thread op answer stretch saw gives = record {
  played = record { line = line; thread = thread; phase = 1; rules = first_rules 1; op = op; answer = answer };
  stretch = stretch;
  saw = at_number saw;
  gives = at_number gives;
}

-- line 2: thread 0 allocates the slot, and hands on number 1
abbrev pub the_maker : ToldRecord
the_maker = worked 2 0 (ops.Alloc 0 0 8) (answers.Made (slot_with 0) 8) (Counted its_title Issue 0 0 ∷ []) 0 1

-- line 3: thread 0 makes a Ref of the slot, and hands on number 2
abbrev pub the_copy : ToldRecord
the_copy = worked 3 0 (ops.Copy 0 1) (answers.Done (slot_with 16777217)) (Counted its_title Copy 16777217 0 ∷ []) 1 2

-- line 4: thread 1 looks at the slot and reads its content word 0, which is 0
abbrev pub the_reader : ToldRecord
the_reader =
    worked 4 1 (ops.Read 0 0) (answers.Value (slot_with 33554435) 0)
    (Looked its_title 33554435 ∷ Read its_title 0 0 no_deeds false false ∷ []) 2 2

-- line 5: thread 0 frees the slot while one Ref of it is left, and hands on number 3
abbrev pub the_free : ToldRecord
the_free = worked 5 0 (ops.Free 0) (answers.Done (slot_with 33554435)) (Counted its_title Free 33554435 0 ∷ []) 2 3

-- the four records in the order of their lines: an allocation, a copy, a read and a free
abbrev pub worked_records : List ToldRecord
worked_records = the_maker ∷ the_copy ∷ the_reader ∷ the_free ∷ []

-- a stake with the log of these records' threads
abbrev pub with_log : List ToldRecord → Stake → Stake
with_log ts s = record { number = s.number; log = log_of s.number ts }

-- a view that has 262144 words, all 0, and the 16 stakes with the logs of these records, and holds nothing
abbrev pub view_of : List ToldRecord → View
view_of ts = record {
  raws = [];
  frees = [];
  uncut = [];
  owns = [];
  refs = [];
  words = blank 262144;
  budget = 0;
  stakes = map (with_log ts) (stakes_from 0 16);
  since = no_deeds;
  keepers = [];
  leases = record { single = []; from = [] };
  seen = [];
  seen_lists = [];
}

-- a view with the logs of the four records knows all of them, and the read between the copy and the free gave what it may
abbrev pub WorkedIsReadOff : Type 0
WorkedIsReadOff = IsReadOff sixteen (view_of worked_records) worked_records

-- there are no cells
abbrev pub no_cells : ℕ → List CellEntry
no_cells k = []

-- what the seats of the four records had seen is in order, with each line's number as its place
abbrev pub WorkedIsSeen : Type 0
WorkedIsSeen = IsOrdered no_cells (λ line. line) (played_in worked_records) × AreViewed no_cells worked_records
