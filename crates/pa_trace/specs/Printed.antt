-- How a head and a line are printed: the grammar's texts, each number in its one spelling.
use Rattle.std.specs.Prelude.{ℕ, Bool, true, false, ◌<◌, ◌^◌, List, [], ◌∷◌, ◌++◌, codes}
use Rattle.std.specs.Fmt.{decimal}
use Rattle.pa_text.specs.Hex.{hex}
use Rattle.pa_trace.specs.declared.line.Head.{Head}
use Rattle.pa_trace.specs.declared.script.Line.{Line}
use Rattle.pa_trace.specs.declared.script.Line.TheVariants.{Phase, Do}
use Rattle.pa_trace.specs.declared.script.Op.{Op}
use Rattle.pa_trace.specs.declared.script.Op.TheVariants.{Alloc, Copy, Reset, Free, Write, Read, Swap, Purge}
use Rattle.pa_trace.specs.Grammar.{tells_plain}

-- a word and the number after it
abbrev pub word_then_number : List ℕ → ℕ → List ℕ
word_then_number word n = word ++ decimal n

-- a space and the op
abbrev pub op_text : Op → List ℕ
op_text (Alloc reg partition size) = word_then_number (codes " A r") reg ++ word_then_number (codes " p") partition ++
    word_then_number (codes " ") size
op_text (Copy from to) = word_then_number (codes " C r") from ++ word_then_number (codes " r") to
op_text (Reset reg) = word_then_number (codes " R r") reg
op_text (Free reg) = word_then_number (codes " F r") reg
op_text (Write reg value) = word_then_number (codes " W r") reg ++ codes " " ++ hex 16 value
op_text (Read reg place) = word_then_number (codes " D r") reg ++ word_then_number (codes " ") place
op_text (Swap cell reg) = word_then_number (codes " X c") cell ++ word_then_number (codes " r") reg
op_text Purge = codes " P"

-- the line and an LF
abbrev pub line_text : Line → List ℕ
line_text Phase = codes "phase\n"
line_text (Do thread op) = decimal thread ++ op_text op ++ 10 ∷ []

-- how many partitions are plain, where the head tells it
abbrev pub plain_text : Bool → ℕ → List ℕ
plain_text true plain = word_then_number (codes " plain ") plain
plain_text false plain = []

-- the head and an LF
abbrev pub head_text : Head → List ℕ
head_text head =
    word_then_number (codes "trace ") head.version ++ (word_then_number (codes " region ") head.region
    ++ (word_then_number (codes " partitions ") head.partitions ++ (word_then_number (codes " threads ") head.threads
    ++ (plain_text (tells_plain head.version) head.plain ++ 10 ∷ []))))

-- ---- what the types say of the numbers of a line

-- an op: the value of a write has 64 bits, and every other number has 32
abbrev pub OpInBits : Op → Type 0
OpInBits (Alloc reg partition size) = (reg < 2 ^ 32) × (partition < 2 ^ 32) × (size < 2 ^ 32)
OpInBits (Copy from to) = (from < 2 ^ 32) × (to < 2 ^ 32)
OpInBits (Reset reg) = reg < 2 ^ 32
OpInBits (Free reg) = reg < 2 ^ 32
OpInBits (Write reg value) = (reg < 2 ^ 32) × (value < 2 ^ 64)
OpInBits (Read reg place) = (reg < 2 ^ 32) × (place < 2 ^ 32)
OpInBits (Swap cell reg) = (cell < 2 ^ 32) × (reg < 2 ^ 32)
OpInBits Purge = Unit {0}

-- a line: its thread has 32 bits, and the numbers of its op fit their types
abbrev pub LineInBits : Line → Type 0
LineInBits Phase = Unit {0}
LineInBits (Do thread op) = (thread < 2 ^ 32) × OpInBits op
