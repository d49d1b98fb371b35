-- Reading the line of each item.
use Rattle.std.specs.Prelude.{ℕ, List, ◌++◌, codes, Option, Some, None}
use Rattle.std.specs.Fmt.{decimal}
use Rattle.pa_text.specs.Reading.{◌>>=◌}
use Rattle.pa_record.specs.Bits.{Is32, TallyInBits}
use Rattle.pa_record.specs.Text.{tally_text}
use Rattle.pa_record.specs.declared.pool.PoolAct.{PoolAct}
use Rattle.pa_record.specs.declared.pool.PoolAct.TheVariants as turns
use Rattle.pa_record.specs.declared.history.Held.{Held}
use Rattle.pa_record.specs.declared.history.Held.TheVariants as handles
use Rattle.pa_record.specs.declared.report.Tally.{Tally}
use Rattle.pa_record.specs.declared.report.ReportLine.{ReportLine}
use Rattle.pa_trace.specs.Limits.{cell_count}
use Rattle.pa_run_reader.specs.declared.other.Places.{Places}
use Rattle.pa_run_reader.specs.declared.other.States.{States}
use Rattle.pa_run_reader.specs.declared.item.Item.{Item}
use Rattle.pa_run_reader.specs.declared.item.Item.TheVariants as items
use Rattle.pa_run_reader.specs.Reading.{after_word, either, below_at, below_in, wide_in, slot_in}
use Rattle.pa_run_reader.specs.Records.{record_in}
use Rattle.pa_run_reader.specs.Roots.{number_or_in, root_in}

-- ---- the pool

-- after `take `: how many super pages, and the first of them, or `none`
unfoldable pub take_in : List ℕ → Option (PoolAct × List ℕ)
take_in bytes = do
  count ← below_at 4294967296 bytes
  rest ← after_word (codes " ") count.1
  first ← number_or_in (codes "none") 4294967296 rest
  Some (turns.Take count.0 first.0, first.1)

-- after `give `: how many super pages, and the first of them
unfoldable pub given_back_in : List ℕ → Option (PoolAct × List ℕ)
given_back_in bytes = do
  count ← below_at 4294967296 bytes
  first ← below_in (codes " ") 4294967296 count.1
  Some (turns.Give count.0 first.0, first.1)

-- what the pool did: a take or a give, by its word
unfoldable pub pool_act_in : List ℕ → Option (PoolAct × List ℕ)
pool_act_in bytes = either (after_word (codes "take ") bytes) take_in (either (after_word (codes "give ") bytes) given_back_in None)

-- after `p `: index and entry, and the LF
unfoldable pub pool_in : List ℕ → Option (Item × List ℕ)
pool_in bytes = do
  index ← below_at 4294967296 bytes
  line ← below_in (codes " ") 4294967296 index.1
  partition ← below_in (codes " ") 4294967296 line.1
  rest ← after_word (codes " ") partition.1
  act ← pool_act_in rest
  end ← after_word (codes "\n") act.1
  Some (items.Pool index.0 (record { line = line.0; partition = partition.0; act = act.0 }), end)

-- ---- cells

-- after `own:`: the slot of an Own
unfoldable pub own_in : List ℕ → Option (Held × List ℕ)
own_in bytes = do
  slot ← slot_in bytes
  Some (handles.Own slot.0, slot.1)

-- after `ref:`: the slot of a Ref
unfoldable pub ref_in : List ℕ → Option (Held × List ℕ)
ref_in bytes = do
  slot ← slot_in bytes
  Some (handles.Ref slot.0, slot.1)

-- `-`, `own:SLOT` or `ref:SLOT`
unfoldable pub own_or_ref_in : List ℕ → Option (Held × List ℕ)
own_or_ref_in bytes =
    either (after_word (codes "-") bytes) (λ rest. Some (handles.Nothing, rest)) (either (after_word (codes "own:") bytes) own_in
    (either (after_word (codes "ref:") bytes) ref_in None))

-- after `c `: cell, index and exchange, and the LF
unfoldable pub cell_in : List ℕ → Option (Item × List ℕ)
cell_in bytes = do
  cell ← below_at cell_count bytes
  index ← below_in (codes " ") 4294967296 cell.1
  line ← below_in (codes " ") 4294967296 index.1
  rest ← after_word (codes " ") line.1
  gave ← own_or_ref_in rest
  more ← after_word (codes " ") gave.1
  found ← own_or_ref_in more
  end ← after_word (codes "\n") found.1
  Some (items.Cell cell.0 index.0 (record { line = line.0; gave = gave.0; found = found.0 }), end)

-- ---- the report

-- a word, how many slots, a space and how many bytes, each number of 64 bits
unfoldable pub tally_in : List ℕ → List ℕ → Option (Tally × List ℕ)
tally_in word bytes = do
  slots ← wide_in word bytes
  size ← wide_in (codes " ") slots.1
  Some (record { slots = slots.0; bytes = size.0 }, size.1)

-- the parts' numbers have the bits of their types
abbrev pub PlacesFit : Places → Type 0
PlacesFit p = Is32 p.phase × Is32 p.partition × TallyInBits p.live × TallyInBits p.quarantined × TallyInBits p.cached × TallyInBits p.root

-- the number of spans in each state has 32 bits
abbrev pub StatesFit : States → Type 0
StatesFit s = Is32 s.full × Is32 s.active × Is32 s.empty × Is32 s.decommitted

-- the parts' texts, and what follows them
abbrev pub places_before : Places → List ℕ → List ℕ
places_before p x =
    decimal p.phase ++ (codes " " ++ (decimal p.partition ++ (tally_text (codes " live ") p.live
    ++ (tally_text (codes " quarantined ") p.quarantined
    ++ (tally_text (codes " cached ") p.cached ++ (tally_text (codes " root ") p.root ++ x))))))

-- the text of the numbers of spans in each state, and what follows it
abbrev pub states_before : States → List ℕ → List ℕ
states_before s x =
    codes " full " ++ (decimal s.full ++ (codes " active " ++ (decimal s.active ++ (codes " empty " ++ (decimal s.empty
    ++ (codes " decommitted " ++ (decimal s.decommitted ++ x)))))))

-- after `s `: phase and partition, and then what is live, quarantined, cached and with the root
unfoldable pub places_in : List ℕ → Option (Places × List ℕ)
places_in bytes = do
  phase ← below_at 4294967296 bytes
  partition ← below_in (codes " ") 4294967296 phase.1
  live ← tally_in (codes " live ") partition.1
  quarantined ← tally_in (codes " quarantined ") live.1
  cached ← tally_in (codes " cached ") quarantined.1
  root ← tally_in (codes " root ") cached.1
  Some (
    record {
      phase = phase.0;
      partition = partition.0;
      live = live.0;
      quarantined = quarantined.0;
      cached = cached.0;
      root = root.0;
    },
    root.1,
  )

-- ` full N active N empty N decommitted N`, each number of 32 bits
unfoldable pub states_in : List ℕ → Option (States × List ℕ)
states_in bytes = do
  full ← below_in (codes " full ") 4294967296 bytes
  active ← below_in (codes " active ") 4294967296 full.1
  empty ← below_in (codes " empty ") 4294967296 active.1
  decommitted ← below_in (codes " decommitted ") 4294967296 empty.1
  Some (record { full = full.0; active = active.0; empty = empty.0; decommitted = decommitted.0 }, decommitted.1)

-- the line of these parts
abbrev pub report_of : Places → ℕ → ℕ → States → ReportLine
report_of p committed reserved s = record {
  phase = p.phase;
  partition = p.partition;
  live = p.live;
  quarantined = p.quarantined;
  cached = p.cached;
  root = p.root;
  committed = committed;
  reserved = reserved;
  full = s.full;
  active = s.active;
  empty = s.empty;
  decommitted = s.decommitted;
}

-- after `s `: the line, and the LF
unfoldable pub report_in : List ℕ → Option (ReportLine × List ℕ)
report_in bytes = do
  places ← places_in bytes
  committed ← wide_in (codes " committed ") places.1
  reserved ← wide_in (codes " reserved ") committed.1
  states ← states_in reserved.1
  end ← after_word (codes "\n") states.1
  Some (report_of places.0 committed.0 reserved.0 states.0, end)

-- ---- each line

-- after `e `: a record, as an item of the run
unfoldable pub record_item_in : List ℕ → Option (Item × List ℕ)
record_item_in bytes = do
  entry ← record_in bytes
  Some (items.Record entry.0, entry.1)

-- after `s `: a line of the report, as an item of the run
unfoldable pub report_item_in : List ℕ → Option (Item × List ℕ)
report_item_in bytes = do
  line ← report_in bytes
  Some (items.Report line.0, line.1)

-- the first line of the bytes, with its LF
unfoldable pub item_in : List ℕ → Option (Item × List ℕ)
item_in bytes =
    either (after_word (codes "e ") bytes) record_item_in (either (after_word (codes "r ") bytes) root_in
    (either (after_word (codes "p ") bytes) pool_in
    (either (after_word (codes "c ") bytes) cell_in (either (after_word (codes "s ") bytes) report_item_in
    (either (after_word (codes "run 1\n") bytes) (λ rest. Some (items.Head, rest))
    (either (after_word (codes "end\n") bytes) (λ rest. Some (items.End, rest)) None))))))
