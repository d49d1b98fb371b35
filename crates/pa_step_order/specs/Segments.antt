-- Which steps of its record the entries of a log segment are.
use Rattle.std.specs.Prelude.{◌≡◌, ℕ, ◌==◌, ◌&&◌, if◌then◌else◌, Bool, true, false, List, [], ◌∷◌, Option, Some, None, Contains, find}
use Rattle.std.specs.List.{filter_map}
use Rattle.pa_region.specs.declared.view.Entry.{Entry}
use Rattle.pa_region.specs.declared.view.Entry.TheVariants.{Counted, Looked, Read, Added, Entered, Uncut}
use Rattle.pa_record.specs.declared.entry.Answer.{Answer}
use Rattle.pa_record.specs.declared.entry.Answer.TheVariants.{Made, Done}
use Rattle.pa_record.specs.declared.root.RootEntry.{RootEntry}
use Rattle.pa_record.specs.Numbers.{root_numbers}
use Rattle.pa_rules.specs.Roots.{Journals}
use Rattle.pa_timeline.specs.Timeline.{Part, Asking, Entering, Swapping, Looking, Loading, Counting, outline_parts}
use Rattle.pa_logs.specs.Told.{ToldRecord}

-- A look of a record that makes a counted step is none of its steps: a write looks first whether it is alone.
abbrev pub look_part : Answer → Option Part
look_part (Made seen usable) = None
look_part (Done seen) = None
look_part answer = Some Looking

-- the journal's entry with these numbers
abbrev pub same_numbers : List ℕ → List ℕ → Bool
same_numbers [] [] = true
same_numbers (m ∷ ms) (n ∷ ns) = (m == n) && same_numbers ms ns
same_numbers ms ns = false

-- the journal's first entry with these numbers, if there is one
abbrev pub entry_with : List ℕ → List RootEntry → Option RootEntry
entry_with numbers journal = find (λ (e : RootEntry). same_numbers (root_numbers e) numbers) journal

-- an entry in the list of keeper q: 4 has the pool's, 5 the cells', and each other one that of the journal with its number
abbrev pub entering : ℕ → Option RootEntry → Option Part
entering q None = None
entering q (Some e) = Some (Entering q e.act)

-- what step an entry with these numbers is, in the list of keeper q: none if the list is a root's and no entry of its journal has them
abbrev pub entered_part : Journals → ℕ → List ℕ → Option Part
entered_part roots q numbers =
    if q == 4 then Some Asking else (if q == 5 then Some Swapping else entering q (entry_with numbers (roots q)))

-- What step an entry is of a record with this answer. An addition to a total is none, and neither is an uncut.
abbrev pub part_of : Journals → Answer → Entry → Option Part
part_of roots answer (Counted t step found value) = Some Counting
part_of roots answer (Looked t found) = look_part answer
part_of roots answer (Read t place value since owned unclean) = Some Loading
part_of roots answer (Added word bytes) = None
part_of roots answer (Entered keeper made) = entered_part roots keeper made.numbers
part_of roots answer (Uncut t) = None

-- The entries of a record's log segment are its steps, in their order: all but the poisonings, which no log has.
abbrev pub IsInItsOrder : ℕ → Journals → ToldRecord → Type 0
IsInItsOrder partitions roots x = filter_map (part_of roots x.played.answer) x.stretch ≡ outline_parts partitions roots x.played

-- the log segment of each of these records has the record's steps, in their order
abbrev pub AreInTheirOrder : ℕ → Journals → List ToldRecord → Type 0
AreInTheirOrder partitions roots ts = (x : ToldRecord) → Contains ts x → IsInItsOrder partitions roots x
