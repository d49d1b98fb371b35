-- The order in which a log segment has its counted step and its entries in lists, in the words of logs alone.
use Rattle.std.specs.Prelude.{◌≡◌, ℕ, ◌≤◌, ◌==◌, if◌then◌else◌, List, [], ◌∷◌, ◌++◌, Option, Some, None}
use Rattle.std.specs.List.{filter_map, flat_map, range_with_len}
use Rattle.pa_slot.specs.declared.word.SlotName.{SlotName}
use Rattle.pa_region.specs.declared.view.Entry.{Entry}
use Rattle.pa_region.specs.declared.view.Entry.TheVariants.{Counted, Looked, Read, Added, Entered, Uncut}
use Rattle.pa_trace.specs.Limits.{most_partitions}
use Rattle.pa_record.specs.declared.entry.Answer.{Answer}
use Rattle.pa_record.specs.declared.entry.Answer.TheVariants as answers
use Rattle.pa_record.specs.declared.root.RootAct.{RootAct}
use Rattle.pa_record.specs.Numbers.{root_numbers}
use Rattle.pa_record.specs.Root.{asked_by}
use Rattle.pa_rules.specs.Roots.{Journals}
use Rattle.pa_rules.specs.Caches.{acts_of}
use Rattle.pa_logs.specs.Told.{ToldRecord}
use Rattle.pa_logs.specs.Touches.{IsTold}
use Rattle.pa_step_order.specs.Segments.{IsInItsOrder}

-- the sign of a log's entry: a counted step, or an entry in the list of keeper q, a root's with its numbers
pub data Sign : Type 0 where
  Stepped : Sign
  Listed : ℕ → List ℕ → Sign

-- the numbers of an entry in the list of keeper q, but none of one in the pool's list or the cells'
abbrev pub root_alone : ℕ → List ℕ → List ℕ
root_alone q numbers = if q == 4 then [] else (if q == 5 then [] else numbers)

-- the sign of a log's entry, which has one if it is a counted step or an entry in a list
abbrev pub sign_of : Entry → Option Sign
sign_of (Counted t step found value) = Some Stepped
sign_of (Looked t found) = None
sign_of (Read t place value since owned unclean) = None
sign_of (Added word bytes) = None
sign_of (Entered keeper made) = Some (Listed keeper (root_alone keeper made.numbers))
sign_of (Uncut t) = None

-- the signs of what a root did, after that of the pool's entry, if it names one
abbrev pub asked_first : Option ℕ → List Sign → List Sign
asked_first None signs = signs
asked_first (Some j) signs = Listed 4 [] ∷ signs

-- the signs of what root p did on a line: the pool's entry, if the act names one, and then its own
abbrev pub act_signs : ℕ → ℕ → RootAct → List Sign
act_signs line p act = asked_first (asked_by act) (Listed p (root_numbers (record { line = line; act = act })) ∷ [])

-- the signs of the entries of a line, partition by partition
abbrev pub line_signs : ℕ → Journals → ℕ → List Sign
line_signs partitions roots line = flat_map (λ p. flat_map (act_signs line p) (acts_of roots line p)) (range_with_len 0 partitions)

-- An allocation enters before its counted step, and another op after it.
abbrev pub due_signs : ℕ → Journals → ℕ → Answer → List Sign
due_signs partitions roots line (answers.Made seen usable) = line_signs partitions roots line ++ Stepped ∷ []
due_signs partitions roots line (answers.Done seen) = Stepped ∷ line_signs partitions roots line
due_signs partitions roots line (answers.Full entry) = line_signs partitions roots line
due_signs partitions roots line (answers.Swapped entry) = Listed 5 [] ∷ []
due_signs partitions roots line (answers.Purged slots) = line_signs partitions roots line
due_signs partitions roots line answer = []

-- the signs of a record's log segment are those that its line and its answer require, in order
abbrev pub HasItsSigns : ℕ → Journals → ToldRecord → Type 0
HasItsSigns partitions roots x = filter_map sign_of x.stretch ≡ due_signs partitions roots x.played.line x.played.answer

-- If a log segment is what the answer requires and has its signs, its entries are its record's steps, in their order.
abbrev pub SegmentsFollow : Type 0
SegmentsFollow =
    (sizes : SlotName → ℕ) (partitions : ℕ) (roots : Journals) (x : ToldRecord) → ((p : ℕ) → most_partitions ≤ p → roots p ≡ []) →
    IsTold sizes x → HasItsSigns partitions roots x → IsInItsOrder partitions roots x
