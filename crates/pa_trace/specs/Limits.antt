-- The limits of a trace.
use Rattle.std.specs.Prelude.{ℕ, ◌<◌, ◌≤◌, nat_le, if◌then◌else◌, List, length}
use Rattle.std.specs.List.{AllByRecursion}
use Rattle.pa_layout.specs.Limits.{most_supers, region_supers}
use Rattle.pa_trace.specs.declared.line.Head.{Head}
use Rattle.pa_trace.specs.declared.script.Trace.{Trace}
use Rattle.pa_trace.specs.declared.script.Line.{Line}
use Rattle.pa_trace.specs.declared.script.Line.TheVariants.{Phase, Do}
use Rattle.pa_trace.specs.declared.script.Op.{Op}
use Rattle.pa_trace.specs.declared.script.Op.TheVariants.{Alloc, Copy, Reset, Free, Write, Read, Swap, Purge}
use Rattle.pa_trace.specs.Grammar.{IsVersionTo, IsTraceText, head_of_trace, last_version, tells_plain}

-- how many registers each thread has
abbrev pub register_count : ℕ
register_count = 64

-- how many cells there are, for all threads together
abbrev pub cell_count : ℕ
cell_count = 64

-- the most partitions of a trace
abbrev pub most_partitions : ℕ
most_partitions = 4

-- the most threads of a trace
abbrev pub most_threads : ℕ
most_threads = 16

-- an op of a trace with that many partitions: registers and cells are 0 to 63, a partition is one of the trace's, sizes
-- and numbers of words have 32 bits
abbrev pub IsOpWithin : ℕ → Op → Type 0
IsOpWithin partitions (Alloc reg partition size) = (reg < register_count) × (partition < partitions) × (size ≤ 4294967295)
IsOpWithin partitions (Copy from to) = (from < register_count) × (to < register_count)
IsOpWithin partitions (Reset reg) = reg < register_count
IsOpWithin partitions (Free reg) = reg < register_count
IsOpWithin partitions (Write reg value) = reg < register_count
IsOpWithin partitions (Read reg place) = (reg < register_count) × (place ≤ 4294967295)
IsOpWithin partitions (Swap cell reg) = (cell < cell_count) × (reg < register_count)
IsOpWithin partitions Purge = Unit {0}

-- a line of a trace with that many partitions and threads: its thread is one of the trace's
abbrev pub IsLineWithin : ℕ → ℕ → Line → Type 0
IsLineWithin partitions threads Phase = Unit {0}
IsLineWithin partitions threads (Do thread op) = (thread < threads) × IsOpWithin partitions op

-- the most super pages of a region in a version
abbrev pub most_region : ℕ → ℕ
most_region version = if nat_le version 1 then most_supers else region_supers

-- the most plain partitions among this many in a version: all of them since version 3, and none before
abbrev pub most_plain : ℕ → ℕ → ℕ
most_plain version partitions = if tells_plain version then partitions else 0

-- a head: 1 to 16 super pages in version 1 and 1 to 64 in versions 2 and 3, 1 to 4 partitions, 1 to 16 threads, and 0 to all of
-- the partitions are plain
abbrev pub IsHeadWithin : Head → Type 0
IsHeadWithin h =
    ((1 ≤ h.region) × (h.region ≤ most_region h.version)) × ((1 ≤ h.partitions) × (h.partitions ≤ most_partitions))
    × ((1 ≤ h.threads) × (h.threads ≤ most_threads)) × (h.plain ≤ most_plain h.version h.partitions)

-- the most lines of a trace, the head included
abbrev pub most_lines : ℕ
most_lines = 65536

-- the most bytes of a trace's text: 4 MiB
abbrev pub most_bytes : ℕ
most_bytes = 4194304

-- a trace within the limits: of one of the versions, and of at most 65,536 lines, the head included
pub record IsWithinLimits (t : Trace) : Type 0 where
  pub version : IsVersionTo last_version t.version
  pub head : IsHeadWithin (head_of_trace t)
  pub lines : AllByRecursion (IsLineWithin t.partitions t.threads) t.lines
  pub few : length t.lines < most_lines

-- the bytes are the text of this trace, which is within the limits, and at most 4,194,304 of them
pub record IsInput (t : Trace) (bytes : List ℕ) : Type 0 where
  pub limits : IsWithinLimits t
  pub text : IsTraceText t bytes
  pub short : length bytes ≤ most_bytes
