-- The summary of a run: how many lines have each answer, and what is live and quarantined at the run's end.
use Rattle.std.specs.Prelude.{◌≡◌, ℕ, ◌+◌, ◌==◌, if◌then◌else◌, max, List, [], ◌∷◌, ◌++◌, codes, sum_by}
use Rattle.std.specs.Fmt.{decimal}
use Rattle.pa_record.specs.declared.entry.Entry.{Entry}
use Rattle.pa_record.specs.declared.entry.Answer.{Answer}
use Rattle.pa_record.specs.declared.entry.Answer.TheVariants.{Made, Done, Value, Dangling, SecondFree, NotOwner, StaleReset, StaleUse, Nothing, Filled, NotRef, Shared, OutOfRange, TooLarge, Full, Swapped, Purged, Uncounted}
use Rattle.pa_record.specs.declared.report.Tally.{Tally}
use Rattle.pa_record.specs.declared.report.ReportLine.{ReportLine}
use Rattle.pa_record.specs.declared.run.Run.{Run}
use Rattle.pa_record.specs.Text.{answer_text, lines_from, tally_text}

-- the number of an answer, from 1 on
abbrev pub answer_number : Answer → ℕ
answer_number (Made seen usable) = 1
answer_number (Done seen) = 2
answer_number (Value seen value) = 3
answer_number (Dangling seen value) = 4
answer_number (SecondFree seen) = 5
answer_number (NotOwner seen) = 6
answer_number StaleReset = 7
answer_number (StaleUse seen) = 8
answer_number Nothing = 9
answer_number Filled = 10
answer_number NotRef = 11
answer_number (Shared seen) = 12
answer_number OutOfRange = 13
answer_number TooLarge = 14
answer_number (Full entry) = 15
answer_number (Swapped entry) = 16
answer_number (Purged slots) = 17
answer_number Uncounted = 18

-- the names of the answers, in the order of their numbers
abbrev pub answer_names : List (List ℕ)
answer_names =
    codes "made" ∷ codes "done" ∷ codes "word" ∷ codes "dangling" ∷ codes "second-free" ∷ codes "not-owner"
    ∷ codes "stale-reset" ∷ codes "stale-use" ∷ codes "nothing" ∷ codes "filled" ∷ codes "not-ref" ∷ codes "shared"
    ∷ codes "out-of-range" ∷ codes "too-large" ∷ codes "full" ∷ codes "swapped" ∷ codes "purged"
    ∷ codes "uncounted" ∷ []

-- the name of number n among these, of which the first has number m
abbrev pub name_from : ℕ → List (List ℕ) → ℕ → List ℕ
name_from m [] n = []
name_from m (name ∷ names) n = if n == m then name else name_from (m + 1) names n

-- the name of the answer of number n, or nothing if no answer has that number
abbrev pub answer_name : ℕ → List ℕ
answer_name n = name_from 1 answer_names n

-- the text of an answer in a run begins with the name of its number
abbrev pub NamesAreOfRecords : Type 0
NamesAreOfRecords = (a : Answer) → (rest : List ℕ) × (answer_text a ≡ answer_name (answer_number a) ++ rest)

-- 1 if the record has the answer of number n, and else 0
abbrev pub has_answer : ℕ → Entry → ℕ
has_answer n e = if answer_number e.answer == n then 1 else 0

-- how many of the records have the answer of number n
abbrev pub answer_count : ℕ → List Entry → ℕ
answer_count n es = sum_by (has_answer n) es

-- `NAME N` and an LF, or nothing if the number is 0
abbrev pub count_line : List ℕ → ℕ → List ℕ
count_line name number = if number == 0 then [] else name ++ codes " " ++ decimal number ++ 10 ∷ []

-- the line of the answer of number n, which has this name
abbrev pub answer_line : List Entry → ℕ → List ℕ → List ℕ
answer_line es n name = count_line name (answer_count n es)

-- the lines of all answers, in the order of their numbers
unfoldable pub count_lines : List Entry → List ℕ
count_lines es = lines_from (answer_line es) 1 answer_names

-- the greatest phase of the lines, or 0 if there are none
abbrev pub last_phase : List ReportLine → ℕ
last_phase [] = 0
last_phase (l ∷ ls) = max l.phase (last_phase ls)

-- the number that f gives of a line if the line is of this phase, and else 0
abbrev pub of_phase : ℕ → (ReportLine → ℕ) → ReportLine → ℕ
of_phase phase f l = if l.phase == phase then f l else 0

-- the sum of the numbers that f gives of the lines of this phase
abbrev pub phase_sum : ℕ → (ReportLine → ℕ) → List ReportLine → ℕ
phase_sum phase f ls = sum_by (of_phase phase f) ls

-- the slots and the bytes of one part, over the lines of the last phase
abbrev pub sums_at_end : (ReportLine → Tally) → List ReportLine → Tally
sums_at_end part ls = record {
  slots = phase_sum (last_phase ls) (λ l. (part l).slots) ls;
  bytes = phase_sum (last_phase ls) (λ l. (part l).bytes) ls;
}

-- `WORD N B` and an LF
abbrev pub tally_line : List ℕ → Tally → List ℕ
tally_line word t = tally_text word t ++ 10 ∷ []

-- `gen ROUNDS KEY` and an LF
abbrev pub title_line : ℕ → ℕ → List ℕ
title_line rounds key = codes "gen " ++ decimal rounds ++ codes " " ++ decimal key ++ 10 ∷ []

-- The summary of a run of the trace of this number of rounds and this key: the title, a line for each answer that there is, in the order
-- of their numbers, and the slots and bytes that are live and quarantined at the end of the last phase, in all partitions.
abbrev pub summary_text : ℕ → ℕ → Run → List ℕ
summary_text rounds key run =
    title_line rounds key ++ count_lines run.entries.items
    ++ tally_line (codes "live ") (sums_at_end (λ l. l.live) run.report.items)
    ++ tally_line (codes "quarantined ") (sums_at_end (λ l. l.quarantined) run.report.items)
