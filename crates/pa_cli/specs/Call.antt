-- A call of the program: its words, what its source and its sink show before and after it, and what it returns of a run.
use Rattle.std.specs.Prelude.{◌≡◌, ℕ, ◌+◌, ◌≤◌, ◌⊎◌, List, Option, length}
use Rattle.std.specs.Io.KnownBytes.{Consumes}
use Rattle.pa_io.specs.Moves.{IsAllOf, IsReadOut}
use Rattle.pa_record.specs.declared.run.Run.{Run}

-- What a source or a sink shows at one moment: its bytes, if it exposes them, which are those left to read or those written
-- so far, and how many faults it has had so far.
pub record Stream : Type 0 where
  pub told : Option (List ℕ)
  pub faults : ℕ

-- a source or a sink with these bytes, if it exposes them, and this number of faults
abbrev pub stream_of : Option (List ℕ) → ℕ → Stream
stream_of told faults = record { told = told; faults = faults }

-- The words, what source and sink show before and after the call, and what the call returns besides its status: a run, and the
-- words of the closed region.
pub record Call : Type 0 where
  pub words : List (List ℕ)
  pub source : Stream
  pub source_after : Stream
  pub sink : Stream
  pub sink_after : Stream
  pub run : Option Run
  pub region : Option (List ℕ)

-- the call with these words, with source and sink before and after it, and with this run and this region
abbrev pub call_of : List (List ℕ) → Stream → Stream → Stream → Stream → Option Run → Option (List ℕ) → Call
call_of words source source_after sink sink_after run region = record {
  words = words;
  source = source;
  source_after = source_after;
  sink = sink;
  sink_after = sink_after;
  run = run;
  region = region;
}

-- nothing was read: the source is as it was
abbrev pub KeepsSource : Call → Type 0
KeepsSource c = c.source_after ≡ c.source

-- nothing was written: the sink is as it was
abbrev pub KeepsSink : Call → Type 0
KeepsSink c = c.sink_after ≡ c.sink

-- the source gave these bytes, and at most one byte more than an input may have
pub record HasGiven (most : ℕ) (before after : Stream) (bytes : List ℕ) : Type 0 where
  pub given : Consumes before.told after.told bytes
  pub within : length bytes ≤ most + 1

-- The source was read to its end without a fault and gave no more bytes than an input may have. If it exposes its bytes, those
-- left before were exactly these, and none is left now.
pub record IsReadWhole (most : ℕ) (before after : Stream) (bytes : List ℕ) : Type 0 where
  pub all : IsAllOf before.told bytes
  pub end : IsReadOut before.told after.told
  pub within : length bytes ≤ most
  pub calm : after.faults ≡ before.faults

-- the source was read without a fault to one byte past the most bytes that an input may have
pub record IsReadPast (most : ℕ) (before after : Stream) (bytes : List ℕ) : Type 0 where
  pub given : Consumes before.told after.told bytes
  pub past : length bytes ≡ most + 1
  pub calm : after.faults ≡ before.faults

-- the input was read: to its end, or to one byte past the most that it may have
abbrev pub IsRead : ℕ → Stream → Stream → List ℕ → Type 0
IsRead most before after bytes = IsReadWhole most before after bytes ⊎ IsReadPast most before after bytes
