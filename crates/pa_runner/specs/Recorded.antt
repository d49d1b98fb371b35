-- The spans of each partition in the closed region: their records in the metadata pages, and their free slots.
use Rattle.std.specs.Prelude.{ℕ, List}
use Rattle.pa_rules.specs.Told.{Told}
use Rattle.pa_records.specs.Records.{AreSpansIn}

-- The words have each partition's root as its journal replays: the record of each of its spans, and the chain of that span's free slots.
abbrev pub HasSpanRecords : Told → List ℕ → Type 0
HasSpanRecords r words = AreSpansIn r.pools r.roots words
