use Rattle.std.proofs.Common.{◌≡◌, ◌++◌, take}
use Rattle.pa_text.proofs.reading.behind.Given as goal

-- the bytes of the word so far come before the rest
abbrev pub invariant-loop-byte : goal.invariant-loop-byte
invariant-loop-byte l = l.bytes ≡ take l.byte-index l.word ++ l.rest
