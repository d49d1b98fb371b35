-- Reading a record of an op.
use Rattle.std.specs.Prelude.{ℕ, List, codes, Option, Some, None}
use Rattle.pa_text.specs.Reading.{◌>>=◌}
use Rattle.pa_record.specs.declared.entry.Entry.{Entry}
use Rattle.pa_record.specs.declared.entry.Seen.{Seen}
use Rattle.pa_record.specs.declared.entry.Answer.{Answer}
use Rattle.pa_record.specs.declared.entry.Answer.TheVariants.{Made, Done, Value, Dangling, SecondFree, NotOwner, StaleReset, StaleUse, Nothing, Filled, NotRef, Shared, OutOfRange, TooLarge, Full, Swapped, Purged, Uncounted}
use Rattle.pa_run_reader.specs.Reading.{after_word, either, first_read, below_at, below_in, hexes_in, slot_in}

-- ---- answers

-- ` SLOT FOUND`: a slot's name and the word that was found
unfoldable pub seen_in : List ℕ → Option (Seen × List ℕ)
seen_in bytes = do
  rest ← after_word (codes " ") bytes
  slot ← slot_in rest
  found ← hexes_in slot.1
  Some (record { slot = slot.0; found = record { 0 = found.0 } }, found.1)

-- ` SLOT FOUND`, for an answer that may have it or not
abbrev pub some_seen_in : List ℕ → Option (Option Seen × List ℕ)
some_seen_in bytes = do
  seen ← seen_in bytes
  Some (Some seen.0, seen.1)

-- ` SLOT FOUND` if a space comes next, and else nothing
unfoldable pub seen_if_in : List ℕ → Option (Option Seen × List ℕ)
seen_if_in bytes = either (after_word (codes " ") bytes) (λ rest. some_seen_in bytes) (Some (None, bytes))

-- after `made`: ` SLOT USABLE FOUND`
unfoldable pub made_in : List ℕ → Option (Answer × List ℕ)
made_in bytes = do
  rest ← after_word (codes " ") bytes
  slot ← slot_in rest
  usable ← below_in (codes " ") 4294967296 slot.1
  found ← hexes_in usable.1
  Some (Made (record { slot = slot.0; found = record { 0 = found.0 } }) usable.0, found.1)

-- after `done`: ` SLOT FOUND`
unfoldable pub done_in : List ℕ → Option (Answer × List ℕ)
done_in bytes = do
  seen ← seen_in bytes
  Some (Done seen.0, seen.1)

-- after `word`: ` SLOT FOUND VALUE`
unfoldable pub value_in : List ℕ → Option (Answer × List ℕ)
value_in bytes = do
  seen ← seen_in bytes
  value ← hexes_in seen.1
  Some (Value seen.0 value.0, value.1)

-- after `dangling`: ` SLOT FOUND VALUE`
unfoldable pub dangling_in : List ℕ → Option (Answer × List ℕ)
dangling_in bytes = do
  seen ← seen_in bytes
  value ← hexes_in seen.1
  Some (Dangling seen.0 value.0, value.1)

-- after `second-free`: ` SLOT FOUND` or nothing
unfoldable pub second_free_in : List ℕ → Option (Answer × List ℕ)
second_free_in bytes = do
  seen ← seen_if_in bytes
  Some (SecondFree seen.0, seen.1)

-- after `not-owner`: ` SLOT FOUND`
unfoldable pub not_owner_in : List ℕ → Option (Answer × List ℕ)
not_owner_in bytes = do
  seen ← seen_in bytes
  Some (NotOwner seen.0, seen.1)

-- after `stale-use`: ` SLOT FOUND` or nothing
unfoldable pub stale_use_in : List ℕ → Option (Answer × List ℕ)
stale_use_in bytes = do
  seen ← seen_if_in bytes
  Some (StaleUse seen.0, seen.1)

-- after `shared`: ` SLOT FOUND`
unfoldable pub shared_in : List ℕ → Option (Answer × List ℕ)
shared_in bytes = do
  seen ← seen_in bytes
  Some (Shared seen.0, seen.1)

-- an answer that names a slot, or may name one
unfoldable pub slot_answer_in : List ℕ → Option (Answer × List ℕ)
slot_answer_in bytes =
    either (after_word (codes "made") bytes) made_in (either (after_word (codes "done") bytes) done_in
    (either (after_word (codes "word") bytes) value_in (either (after_word (codes "dangling") bytes) dangling_in
    (either (after_word (codes "second-free") bytes) second_free_in (either (after_word (codes "not-owner") bytes) not_owner_in
    (either (after_word (codes "stale-use") bytes) stale_use_in (either (after_word (codes "shared") bytes) shared_in None)))))))

-- the answers that are a word and nothing more
unfoldable pub plain_answer_in : List ℕ → Option (Answer × List ℕ)
plain_answer_in bytes =
    either (after_word (codes "stale-reset") bytes) (λ rest. Some (StaleReset, rest))
    (either (after_word (codes "nothing") bytes) (λ rest. Some (Nothing, rest))
    (either (after_word (codes "filled") bytes) (λ rest. Some (Filled, rest))
    (either (after_word (codes "not-ref") bytes) (λ rest. Some (NotRef, rest))
    (either (after_word (codes "out-of-range") bytes) (λ rest. Some (OutOfRange, rest))
    (either (after_word (codes "too-large") bytes) (λ rest. Some (TooLarge, rest))
    (either (after_word (codes "uncounted") bytes) (λ rest. Some (Uncounted, rest)) None))))))

-- the answer with the number that was read, if one was
abbrev pub with_number : (ℕ → Answer) → Option (ℕ × List ℕ) → Option (Answer × List ℕ)
with_number answer None = None
with_number answer (Some x) = Some (answer x.0, x.1)

-- the answers that are a word and a number of 32 bits: full, swapped and purged
unfoldable pub counted_answer_in : List ℕ → Option (Answer × List ℕ)
counted_answer_in bytes =
    first_read (with_number (λ n. Full n) (below_in (codes "full ") 4294967296 bytes))
    (first_read (with_number (λ n. Swapped n) (below_in (codes "swapped ") 4294967296 bytes))
    (with_number (λ n. Purged n) (below_in (codes "purged ") 4294967296 bytes)))

-- an answer of any of the three kinds
unfoldable pub answer_in : List ℕ → Option (Answer × List ℕ)
answer_in bytes = first_read (slot_answer_in bytes) (first_read (plain_answer_in bytes) (counted_answer_in bytes))

-- after `e `: the record, and the LF
unfoldable pub record_in : List ℕ → Option (Entry × List ℕ)
record_in bytes = do
  line ← below_at 4294967296 bytes
  thread ← below_in (codes " ") 4294967296 line.1
  rest ← after_word (codes " ") thread.1
  answer ← answer_in rest
  end ← after_word (codes "\n") answer.1
  Some (record { line = line.0; thread = thread.0; answer = answer.0 }, end)

-- the record's whole line
unfoldable pub record_line_in : List ℕ → Option (Entry × List ℕ)
record_line_in bytes = do
  rest ← after_word (codes "e ") bytes
  record_in rest
