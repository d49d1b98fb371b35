-- Reading a line from left to right. A number is handed on with its value if it has 32 bits.
use Rattle.std.specs.Prelude.{◌≡◌, ℕ, Bool, true, false, ◌==◌, ◌&&◌, nat_eq, nat_lt, nat_le, if◌then◌else◌, List, [], ◌∷◌, length, take, drop, codes, Option, Some, None, Result, Ok, Err}
use Rattle.std.specs.Cmp.Lexicographic.{pointwise}
use Rattle.pa_text.specs.Reading.{fitted, number_at, hexes_at}
use Rattle.pa_trace.specs.declared.field.LineFault.{LineFault}
use Rattle.pa_trace.specs.declared.field.LineFault.TheVariants.{Outside, Past}
use Rattle.pa_trace.specs.declared.line.Head.{Head}
use Rattle.pa_trace.specs.declared.script.Line.{Line}
use Rattle.pa_trace.specs.declared.script.Line.TheVariants.{Phase, Do}
use Rattle.pa_trace.specs.declared.script.Op.{Op}
use Rattle.pa_trace.specs.declared.script.Op.TheVariants.{Alloc, Copy, Reset, Free, Write, Read, Swap, Purge}
use Rattle.pa_trace.specs.Grammar.{tells_plain}
use Rattle.pa_trace.specs.Limits.{register_count, cell_count, most_region, most_partitions, most_threads, most_plain}

-- one step that may fail, and then the next
infixl 10 ◌>>=◌
abbrev pub ◌>>=◌ : {A B : Type 0} → Result A LineFault → (A → Result B LineFault) → Result B LineFault
(Ok x) >>= f = f x
(Err e) >>= f = Err e

-- what a function returned, seen by view, is what reading gives
abbrev pub Gives : {X Y : Type 0} → (X → Y) → Result X LineFault → Result Y LineFault → Type 0
Gives view (Ok x) read = read ≡ Ok (view x)
Gives view (Err e) read = read ≡ Err e

-- the bytes after a word with which they begin
unfoldable pub behind : List ℕ → List ℕ → Result (List ℕ) LineFault
behind word bytes = if pointwise nat_eq (take (length word) bytes) word then Ok (drop (length word) bytes) else Err Outside

-- what was read, or a line outside the grammar if nothing was
abbrev pub or_outside : {A : Type 0} → Option A → Result A LineFault
or_outside None = Err Outside
or_outside (Some x) = Ok x

-- a number that was read, with its value only if it has 32 bits, or a line outside the grammar
abbrev pub hand_on : Option (ℕ × List ℕ) → Result (Option ℕ × List ℕ) LineFault
hand_on None = Err Outside
hand_on (Some x) = Ok (fitted x)

-- the number at the start, and the bytes after it
unfoldable pub number_in : List ℕ → Result (Option ℕ × List ℕ) LineFault
number_in bytes = hand_on (number_at bytes)

-- a word and the number after it
unfoldable pub field_in : List ℕ → List ℕ → Result (Option ℕ × List ℕ) LineFault
field_in word bytes = do
  rest ← behind word bytes
  number_in rest

-- nothing is left
abbrev pub ended : List ℕ → Result (Unit {0}) LineFault
ended bytes = if length bytes == 0 then Ok tt else Err Outside

-- the word that the first sixteen hexadecimal digits spell, and the bytes after it
unfoldable pub word_in : List ℕ → Result (ℕ × List ℕ) LineFault
word_in bytes = or_outside (hexes_at 16 bytes)

-- all of the bytes are a word with a number
unfoldable pub one_in : List ℕ → List ℕ → Result (Option ℕ) LineFault
one_in bytes first = do
  a ← field_in first bytes
  end ← ended a.1
  Ok a.0

-- all of the bytes are two words, each with a number
unfoldable pub two_in : List ℕ → List ℕ → List ℕ → Result (Option ℕ × Option ℕ) LineFault
two_in bytes first second = do
  a ← field_in first bytes
  b ← field_in second a.1
  end ← ended b.1
  Ok (a.0, b.0)

-- three words, each with a number, and the bytes after them
unfoldable pub fields_in : List ℕ → List ℕ → List ℕ → List ℕ → Result (Option ℕ × Option ℕ × Option ℕ × List ℕ) LineFault
fields_in bytes first second third = do
  a ← field_in first bytes
  b ← field_in second a.1
  c ← field_in third b.1
  Ok (a.0, b.0, c.0, c.1)

-- all of the bytes are three words, each with a number
unfoldable pub three_in : List ℕ → List ℕ → List ℕ → List ℕ → Result (Option ℕ × Option ℕ × Option ℕ) LineFault
three_in bytes first second third = do
  x ← fields_in bytes first second third
  end ← ended x.3
  Ok (x.0, x.1, x.2)

-- all of the bytes are a word and a number, a space, and sixteen digits
unfoldable pub field_and_word_in : List ℕ → List ℕ → Result (Option ℕ × ℕ) LineFault
field_and_word_in bytes first = do
  a ← field_in first bytes
  rest ← behind (codes " ") a.1
  value ← word_in rest
  end ← ended value.1
  Ok (a.0, value.0)

-- the number, if it is below the limit
abbrev pub below : Option ℕ → ℕ → Result ℕ LineFault
below None limit = Err Past
below (Some n) limit = if nat_lt n limit then Ok n else Err Past

-- the number, if it has 32 bits
abbrev pub within : Option ℕ → Result ℕ LineFault
within None = Err Past
within (Some n) = Ok n

-- the number, if it is from 1 to the most
abbrev pub count_in : Option ℕ → ℕ → Result ℕ LineFault
count_in None most = Err Past
count_in (Some n) most = if nat_le 1 n && nat_le n most then Ok n else Err Past

-- the number, if it is at most this one
abbrev pub up_to : Option ℕ → ℕ → Result ℕ LineFault
up_to None most = Err Past
up_to (Some n) most = if nat_le n most then Ok n else Err Past

-- the version, if it is one up to the last that is known: any other is outside the grammar
abbrev pub known_in : ℕ → Option ℕ → Result ℕ LineFault
known_in known None = Err Outside
known_in known (Some n) = if nat_le 1 n && nat_le n known then Ok n else Err Outside

-- the head of this version with these numbers of super pages, partitions, threads and plain partitions, if each is within its limit
abbrev pub head_of : ℕ → Option ℕ → Option ℕ → Option ℕ → Option ℕ → Result Head LineFault
head_of version one two three four = do
  region ← count_in one (most_region version)
  partitions ← count_in two most_partitions
  threads ← count_in three most_threads
  plain ← up_to four (most_plain version partitions)
  Ok (record { version = version; region = region; partitions = partitions; threads = threads; plain = plain })

-- what is left of a head behind its threads: ` plain ` and a number where it tells how many partitions are plain, else nothing, and
-- none is
unfoldable pub plain_number_in : Bool → List ℕ → Result (Option ℕ) LineFault
plain_number_in true bytes = one_in bytes (codes " plain ")
plain_number_in false bytes = do
  end ← ended bytes
  Ok (Some 0)

-- the head, without its LF
unfoldable pub head_in : ℕ → List ℕ → Result Head LineFault
head_in known bytes = do
  first ← field_in (codes "trace ") bytes
  version ← known_in known first.0
  numbers ← fields_in first.1 (codes " region ") (codes " partitions ") (codes " threads ")
  plain ← plain_number_in (tells_plain version) numbers.3
  head_of version numbers.0 numbers.1 numbers.2 plain

-- after the letter A: a register, one of the trace's partitions, and a size of 32 bits
unfoldable pub alloc_in : ℕ → List ℕ → Result Op LineFault
alloc_in partitions bytes = do
  numbers ← three_in bytes (codes " r") (codes " p") (codes " ")
  reg ← below numbers.0 register_count
  partition ← below numbers.1 partitions
  size ← within numbers.2
  Ok (Alloc reg partition size)

-- after the letter C: the register that is copied, and the one that gets the copy
unfoldable pub copy_in : List ℕ → Result Op LineFault
copy_in bytes = do
  numbers ← two_in bytes (codes " r") (codes " r")
  from ← below numbers.0 register_count
  to ← below numbers.1 register_count
  Ok (Copy from to)

-- after the letter R: a register
unfoldable pub reset_in : List ℕ → Result Op LineFault
reset_in bytes = do
  number ← one_in bytes (codes " r")
  reg ← below number register_count
  Ok (Reset reg)

-- after the letter F: a register
unfoldable pub free_in : List ℕ → Result Op LineFault
free_in bytes = do
  number ← one_in bytes (codes " r")
  reg ← below number register_count
  Ok (Free reg)

-- after the letter W: a register, and a value of sixteen hexadecimal digits
unfoldable pub write_in : List ℕ → Result Op LineFault
write_in bytes = do
  x ← field_and_word_in bytes (codes " r")
  reg ← below x.0 register_count
  Ok (Write reg x.1)

-- after the letter D: a register, and a number of a word, of 32 bits
unfoldable pub read_in : List ℕ → Result Op LineFault
read_in bytes = do
  numbers ← two_in bytes (codes " r") (codes " ")
  reg ← below numbers.0 register_count
  place ← within numbers.1
  Ok (Read reg place)

-- after the letter X: a cell and a register
unfoldable pub swap_in : List ℕ → Result Op LineFault
swap_in bytes = do
  numbers ← two_in bytes (codes " c") (codes " r")
  cell ← below numbers.0 cell_count
  reg ← below numbers.1 register_count
  Ok (Swap cell reg)

-- after the letter P: nothing
unfoldable pub purge_in : List ℕ → Result Op LineFault
purge_in bytes = do
  end ← ended bytes
  Ok Purge

-- the op by its letter: A, C, R, F, W, D, X, P
unfoldable pub op_in : ℕ → List ℕ → Result Op LineFault
op_in partitions [] = Err Outside
op_in partitions (c ∷ rest) =
    if c == 65 then alloc_in partitions rest else
    (if c == 67 then copy_in rest else (if c == 82 then reset_in rest else (if c == 70 then free_in rest
    else (if c == 87 then write_in rest else
    (if c == 68 then read_in rest else (if c == 88 then swap_in rest else (if c == 80 then purge_in rest else Err Outside)))))))

-- the thread, a space and the op
unfoldable pub do_in : ℕ → ℕ → List ℕ → Result Line LineFault
do_in partitions threads bytes = do
  thread ← number_in bytes
  rest ← behind (codes " ") thread.1
  op ← op_in partitions rest
  number ← below thread.0 threads
  Ok (Do number op)

-- a line after the head, without its LF
unfoldable pub line_in : ℕ → ℕ → List ℕ → Result Line LineFault
line_in partitions threads bytes = if pointwise nat_eq bytes (codes "phase") then Ok Phase else do_in partitions threads bytes
