-- The text of a run, line by line.
use Rattle.std.specs.Prelude.{ℕ, ◌+◌, List, [], ◌∷◌, ◌++◌, codes, Option, Some, None}
use Rattle.std.specs.List.{flat_map}
use Rattle.std.specs.Fmt.{decimal}
use Rattle.pa_text.specs.Hex.{hex, slot_text}
use Rattle.pa_record.specs.declared.entry.Entry.{Entry}
use Rattle.pa_record.specs.declared.entry.Seen.{Seen}
use Rattle.pa_record.specs.declared.entry.Answer.{Answer}
use Rattle.pa_record.specs.declared.numbered.Numbered.{Numbered}
use Rattle.pa_record.specs.declared.root.RootEntry.{RootEntry}
use Rattle.pa_record.specs.declared.root.RootAct.{RootAct}
use Rattle.pa_record.specs.declared.root.RootAct.TheVariants as acts
use Rattle.pa_record.specs.declared.pool.PoolEntry.{PoolEntry}
use Rattle.pa_record.specs.declared.pool.PoolAct.{PoolAct}
use Rattle.pa_record.specs.declared.pool.PoolAct.TheVariants as turns
use Rattle.pa_record.specs.declared.history.CellEntry.{CellEntry}
use Rattle.pa_record.specs.declared.history.Held.{Held}
use Rattle.pa_record.specs.declared.history.Held.TheVariants as handles
use Rattle.pa_record.specs.declared.report.Tally.{Tally}
use Rattle.pa_record.specs.declared.report.ReportLine.{ReportLine}
use Rattle.pa_record.specs.declared.run.Run.{Run}
use Rattle.pa_record.specs.declared.entry.Answer.TheVariants.{Made, Done, Value, Dangling, SecondFree, NotOwner, StaleReset, StaleUse, Nothing, Filled, NotRef, Shared, OutOfRange, TooLarge, Full, Swapped, Purged, Uncounted}

-- ` SLOT`: a space and the slot's name
abbrev pub spaced_slot : Seen → List ℕ
spaced_slot seen = codes " " ++ slot_text seen.slot

-- ` SLOT FOUND`, with the word that was found as 16 hexadecimal digits
abbrev pub seen_text : Seen → List ℕ
seen_text seen = spaced_slot seen ++ codes " " ++ hex 16 seen.found.0

-- ` SLOT FOUND`, or nothing if no slot was seen
abbrev pub seen_text_if : Option Seen → List ℕ
seen_text_if None = []
seen_text_if (Some seen) = seen_text seen

-- the answer's name and its fields
abbrev pub answer_text : Answer → List ℕ
answer_text (Made seen usable) = codes "made" ++ spaced_slot seen ++ codes " " ++ decimal usable ++ codes " " ++ hex 16 seen.found.0
answer_text (Done seen) = codes "done" ++ seen_text seen
answer_text (Value seen value) = codes "word" ++ seen_text seen ++ codes " " ++ hex 16 value
answer_text (Dangling seen value) = codes "dangling" ++ seen_text seen ++ codes " " ++ hex 16 value
answer_text (SecondFree seen) = codes "second-free" ++ seen_text_if seen
answer_text (NotOwner seen) = codes "not-owner" ++ seen_text seen
answer_text StaleReset = codes "stale-reset"
answer_text (StaleUse seen) = codes "stale-use" ++ seen_text_if seen
answer_text Nothing = codes "nothing"
answer_text Filled = codes "filled"
answer_text NotRef = codes "not-ref"
answer_text (Shared seen) = codes "shared" ++ seen_text seen
answer_text OutOfRange = codes "out-of-range"
answer_text TooLarge = codes "too-large"
answer_text (Full entry) = codes "full " ++ decimal entry
answer_text (Swapped entry) = codes "swapped " ++ decimal entry
answer_text (Purged slots) = codes "purged " ++ decimal slots
answer_text Uncounted = codes "uncounted"

-- `e LINE THREAD ANSWER` and an LF
abbrev pub entry_text : Entry → List ℕ
entry_text e = codes "e " ++ decimal e.line ++ codes " " ++ decimal e.thread ++ codes " " ++ answer_text e.answer ++ 10 ∷ []

-- a word and the number after it
abbrev pub field_text : List ℕ → ℕ → List ℕ
field_text word n = word ++ decimal n

-- the number, or a word if there is none
abbrev pub number_or : List ℕ → Option ℕ → List ℕ
number_or word None = word
number_or word (Some n) = decimal n

-- `SLOT@K`
abbrev pub numbered_text : Numbered → List ℕ
numbered_text n = slot_text n.slot ++ codes "@" ++ decimal n.number

-- ` SLOT@K` for each slot
abbrev pub slots_text : List Numbered → List ℕ
slots_text slots = flat_map (λ n. codes " " ++ numbered_text n) slots

-- the text of what a root did
abbrev pub root_act_text : RootAct → List ℕ
root_act_text (acts.Fill class pool slots) = codes "fill " ++ decimal class ++ codes " " ++ number_or (codes "-") pool ++ slots_text slots
root_act_text (acts.Map pool slot len) = codes "map " ++ decimal pool ++ codes " " ++ slot_text slot ++ codes "@0 " ++ decimal len
root_act_text (acts.Full class pool) = codes "full " ++ number_or (codes "direct") class ++ codes " " ++ decimal pool
root_act_text (acts.Give slots) = codes "give" ++ slots_text slots
root_act_text (acts.Unmap pool slot) = codes "unmap " ++ decimal pool ++ codes " " ++ numbered_text slot
root_act_text acts.Purge = codes "purge"

-- `r P J LINE ACT` and an LF: entry J of the journal of partition P
abbrev pub root_text : ℕ → ℕ → RootEntry → List ℕ
root_text p j e = field_text (codes "r ") p ++ field_text (codes " ") j ++ field_text (codes " ") e.line ++ codes " "
    ++ root_act_text e.act ++ 10 ∷ []

-- the text of what the pool did
abbrev pub pool_act_text : PoolAct → List ℕ
pool_act_text (turns.Take count first) = codes "take " ++ decimal count ++ codes " " ++ number_or (codes "none") first
pool_act_text (turns.Give count first) = codes "give " ++ decimal count ++ codes " " ++ decimal first

-- `p J LINE P ACT` and an LF: entry J of the pool
abbrev pub pool_text : ℕ → PoolEntry → List ℕ
pool_text j e = field_text (codes "p ") j ++ field_text (codes " ") e.line
    ++ field_text (codes " ") e.partition ++ codes " " ++ pool_act_text e.act ++ 10 ∷ []

-- `-`, `own:SLOT` or `ref:SLOT`
abbrev pub held_text : Held → List ℕ
held_text handles.Nothing = codes "-"
held_text (handles.Own slot) = codes "own:" ++ slot_text slot
held_text (handles.Ref slot) = codes "ref:" ++ slot_text slot

-- `c K J LINE GAVE FOUND` and an LF: exchange J of cell K
abbrev pub cell_text : ℕ → ℕ → CellEntry → List ℕ
cell_text k j e = field_text (codes "c ") k ++ field_text (codes " ") j ++ field_text (codes " ") e.line
    ++ codes " " ++ held_text e.gave ++ codes " " ++ held_text e.found ++ 10 ∷ []

-- a word, how many slots and how many bytes
abbrev pub tally_text : List ℕ → Tally → List ℕ
tally_text word t = field_text word t.slots ++ field_text (codes " ") t.bytes

-- `s PHASE P live N B quarantined N B cached N B root N B`
unfoldable pub places_text : ReportLine → List ℕ
places_text s = field_text (codes "s ") s.phase ++ field_text (codes " ") s.partition
    ++ tally_text (codes " live ") s.live ++ tally_text (codes " quarantined ") s.quarantined
    ++ tally_text (codes " cached ") s.cached ++ tally_text (codes " root ") s.root

-- ` committed B reserved B`
abbrev pub bytes_text : ReportLine → List ℕ
bytes_text s = field_text (codes " committed ") s.committed ++ field_text (codes " reserved ") s.reserved

-- ` full N active N empty N decommitted N`
unfoldable pub spans_text : ReportLine → List ℕ
spans_text s = field_text (codes " full ") s.full ++ field_text (codes " active ") s.active
    ++ field_text (codes " empty ") s.empty ++ field_text (codes " decommitted ") s.decommitted

-- the line of the report, and an LF
abbrev pub report_text : ReportLine → List ℕ
report_text s = places_text s ++ bytes_text s ++ spans_text s ++ 10 ∷ []

-- what f gives for each member and its index, if the first has index n
abbrev pub lines_from : {A : Type 0} → (ℕ → A → List ℕ) → ℕ → List A → List ℕ
lines_from f n [] = []
lines_from f n (x ∷ xs) = f n x ++ lines_from f (n + 1) xs

-- the lines of a journal of partition p
abbrev pub journal_text : ℕ → List RootEntry → List ℕ
journal_text p entries = lines_from (root_text p) 0 entries

-- the lines of all journals, from partition 0 on
abbrev pub roots_text : List (List RootEntry) → List ℕ
roots_text journals = lines_from journal_text 0 journals

-- the lines of the pool
abbrev pub pools_text : List PoolEntry → List ℕ
pools_text entries = lines_from pool_text 0 entries

-- the lines of the history of cell k
abbrev pub history_text : ℕ → List CellEntry → List ℕ
history_text k entries = lines_from (cell_text k) 0 entries

-- the lines of all histories, from cell 0 on
abbrev pub cells_text : List (List CellEntry) → List ℕ
cells_text histories = lines_from history_text 0 histories

-- the whole text of a run
abbrev pub run_text : Run → List ℕ
run_text r = codes "run 1\n" ++ flat_map entry_text r.entries.items ++ roots_text r.roots.items ++ pools_text r.pool.items
    ++ cells_text r.cells.items ++ flat_map report_text r.report.items ++ codes "end\n"
