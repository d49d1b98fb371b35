-- What the source gave, read by read.
use Rattle.std.proofs.Common.{arith, ◌+◌, ◌≤◌, ℕ, List, ◌++◌, length}
use Rattle.std.specs.Io.KnownBytes.{Consumes}
use Rattle.std.proofs.lemmas.List.{length-append}
use Rattle.pa_io.proofs.Moves.{Consumes_append}
use Rattle.pa_cli.specs.Call.{Stream, HasGiven}

-- one more read: what the source gave before it and in it
pub given_more : (most : ℕ) (start between after : Stream) (read more : List ℕ) → Consumes start.told between.told read →
    Consumes between.told after.told more
    → length read + length more ≤ most + 1 → HasGiven most start after (read ++ more)
given_more most start between after read more first second within = record {
  given = Consumes_append start.told between.told after.told read more first second;
  within = (let l = length-append read more in omega arith);
}
