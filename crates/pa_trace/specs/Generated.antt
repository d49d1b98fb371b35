-- The generated trace: rounds of four threads, with sizes and values from drawn words.
use Rattle.std.specs.Prelude.{◌≡◌, ℕ, zero, suc, ◌+◌, ◌*◌, ◌%◌, List, [], ◌∷◌, ◌++◌, get_or, slice_get, Some}
use Rattle.rand_core.specs.Steps.{first_words}
use Rattle.rand_pcg.specs.Lcg.{started, increment_of}
use Rattle.rand_pcg.specs.Pcg.{multiplier_64, pcg32}
use Rattle.pa_trace.specs.declared.script.Trace.{Trace}
use Rattle.pa_trace.specs.declared.script.Line.{Line}
use Rattle.pa_trace.specs.declared.script.Line.TheVariants.{Phase, Do}
use Rattle.pa_trace.specs.declared.script.Op.TheVariants.{Alloc, Copy, Reset, Free, Write, Read, Swap}

-- the first n words that the random numbers of this key give, on stream 1
abbrev pub drawn_words : ℕ → ℕ → List ℕ
drawn_words key n = first_words pcg32 n (started 64 multiplier_64 key (increment_of 64 1))

-- the parts from 0 to n - 1, one after the other
abbrev pub parts : (ℕ → List Line) → ℕ → List Line
parts part zero = []
parts part (suc n) = parts part n ++ part n

-- the index of the first of an object's two words, of which its size is made: a round draws 32 words, 8 for each thread, 2 for
-- each of its objects
abbrev pub size_place : ℕ → ℕ → ℕ → ℕ
size_place round thread object = 32 * round + 8 * thread + 2 * object

-- the index of the second of an object's two words, which is its value
abbrev pub value_place : ℕ → ℕ → ℕ → ℕ
value_place round thread object = size_place round thread object + 1

-- an object is allocated, of 8 to 4,000 bytes, from the partition of the thread's number, and filled with its value
abbrev pub object_lines : ℕ → ℕ → ℕ → ℕ → List Line
object_lines thread object size value = Do thread (Alloc object thread (8 + size % 3993)) ∷ Do thread (Write object value) ∷ []

-- Object 0 gets two raw_ptrs, in registers 8 and 9. The second goes into a cell, whose handle takes its place. Object 0 is
-- read, freed and read again through the first, which is reset. What the cell held is read and reset, and the other objects are
-- freed.
abbrev pub pointer_lines : ℕ → ℕ → List Line
pointer_lines round thread =
    Do thread (Copy 0 8)
    ∷ Do thread (Copy 0 9)
    ∷ Do thread (Swap ((thread + round) % 4) 9)
    ∷ Do thread (Read 8 0)
    ∷ Do thread (Free 0)
    ∷ Do thread (Read 8 0)
    ∷ Do thread (Reset 8)
    ∷ Do thread (Read 9 0)
    ∷ Do thread (Reset 9)
    ∷ Do thread (Free 1)
    ∷ Do thread (Free 2)
    ∷ Do thread (Free 3)
    ∷ []

-- the lines of an object with its two words
abbrev pub drawn_object : List ℕ → ℕ → ℕ → ℕ → List Line
drawn_object words round thread object =
    object_lines thread object (get_or words (size_place round thread object) 0) (get_or words (value_place round thread object) 0)

-- the 20 lines of a thread in a round: its four objects, and what it does with them
abbrev pub thread_lines : List ℕ → ℕ → ℕ → List Line
thread_lines words round thread = parts (drawn_object words round thread) 4 ++ pointer_lines round thread

-- a round: the lines of the four threads, in their order
abbrev pub round_lines : List ℕ → ℕ → List Line
round_lines words round = parts (thread_lines words round) 4

-- a `phase` before each round but the first
abbrev pub phase_before : ℕ → List Line
phase_before zero = []
phase_before (suc round) = Phase ∷ []

-- the lines after the head
abbrev pub generated_lines : List ℕ → ℕ → List Line
generated_lines words rounds = parts (λ round. phase_before round ++ round_lines words round) rounds

-- the trace of that many rounds that is made of the drawn words
pub record IsGeneratedOf (words : List ℕ) (rounds : ℕ) (trace : Trace) : Type 0 where
  pub version : trace.version ≡ 1
  pub region : trace.region ≡ 8
  pub partitions : trace.partitions ≡ 4
  pub threads : trace.threads ≡ 4
  pub plain : trace.plain ≡ 0
  pub lines : trace.lines ≡ generated_lines words rounds

-- the generated trace of that many rounds and this key
abbrev pub IsGenerated : ℕ → ℕ → Trace → Type 0
IsGenerated rounds key trace = IsGeneratedOf (drawn_words key (32 * rounds)) rounds trace

-- how many phases are over before the line with index k
abbrev pub phases_over : List Line → ℕ → ℕ
phases_over [] k = 0
phases_over (l ∷ ls) zero = 0
phases_over (Phase ∷ ls) (suc k) = suc (phases_over ls k)
phases_over (Do thread op ∷ ls) (suc k) = phases_over ls k

-- no cell is touched by two threads in one phase
abbrev pub KeepsCellsApart : List Line → Type 0
KeepsCellsApart lines =
    (j k s t cell q r : ℕ) → slice_get lines j ≡ Some (Do s (Swap cell q)) → slice_get lines k ≡ Some (Do t (Swap cell r))
    → phases_over lines j ≡ phases_over lines k → s ≡ t
