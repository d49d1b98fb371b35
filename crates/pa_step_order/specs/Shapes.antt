-- The shapes that the log segments of ops have, and the signs of each.
use Rattle.std.specs.Prelude.{◌≡◌, ℕ, ◌<◌, ◌≤◌, List, [], ◌∷◌, ◌++◌, map, Some, None, Contains}
use Rattle.std.specs.List.{filter_map, flat_map, range_with_len}
use Rattle.pa_slot.specs.declared.word.SlotName.{SlotName}
use Rattle.pa_region.specs.declared.view.Entry.{Entry}
use Rattle.pa_region.specs.declared.view.Entry.TheVariants.{Counted, Looked, Read, Added, Entered, Uncut}
use Rattle.pa_region.specs.declared.view.Made.{Made}
use Rattle.pa_region.specs.Lists.{entered_in}
use Rattle.pa_trace.specs.Limits.{most_partitions}
use Rattle.pa_record.specs.declared.entry.Answer.TheVariants.{Swapped}
use Rattle.pa_record.specs.declared.root.RootAct.{RootAct}
use Rattle.pa_record.specs.Numbers.{root_numbers}
use Rattle.pa_record.specs.Root.{asked_by}
use Rattle.pa_rules.specs.Roots.{Journals}
use Rattle.pa_rules.specs.Caches.{acts_of, OnlyActs, NoActs}
use Rattle.pa_logs.specs.Told.{ToldRecord}
use Rattle.pa_logs.specs.Touches.{IsTold}
use Rattle.pa_step_order.specs.Signs.{sign_of, act_signs, line_signs, HasItsSigns}

-- the numbers of a root's entry on a line
abbrev pub numbers_on : ℕ → RootAct → List ℕ
numbers_on line act = root_numbers (record { line = line; act = act })

-- additions to totals words
abbrev pub AreAdditions : List Entry → Type 0
AreAdditions [] = Unit {0}
AreAdditions (Counted t step found value ∷ es) = ⊥
AreAdditions (Looked t found ∷ es) = ⊥
AreAdditions (Read t place value since owned unclean ∷ es) = ⊥
AreAdditions (Added word bytes ∷ es) = AreAdditions es
AreAdditions (Entered keeper made ∷ es) = ⊥
AreAdditions (Uncut t ∷ es) = ⊥

-- The signs of a log segment, by its shape.
--   quiet: an op that enters nothing, and no exchange, has those of its record if its log segment is what its answer requires
--   swapped: so has an exchange that entered once in the cells' list
--   settled: additions after a log segment change nothing
--   entries, asked: entries in the list of one root that name none of the pool, and one after the pool's entry that it names
--   only, each: of a line that entered in one journal alone, and in one after the other
pub record ShapesHaveSigns : Type 0 where
  pub quiet : (sizes : SlotName → ℕ) (partitions : ℕ) (roots : Journals) (x : ToldRecord) → IsTold sizes x →
      ((q : ℕ) → entered_in q x.stretch ≡ []) → NoActs roots x.played.line → ((j : ℕ) → x.played.answer ≡ Swapped j → ⊥) →
      HasItsSigns partitions roots x
  pub swapped : (partitions j : ℕ) (roots : Journals) (x : ToldRecord) (made : Made) → x.played.answer ≡ Swapped j →
      x.stretch ≡ Entered 5 made ∷ [] → HasItsSigns partitions roots x
  pub settled : (partitions : ℕ) (roots : Journals) (x : ToldRecord) (es : List Entry) → AreAdditions es → HasItsSigns partitions roots x →
      HasItsSigns partitions roots (record x { stretch = x.stretch ++ es })
  pub entries : (line p : ℕ) (ms : List Made) (acts : List RootAct) → p < most_partitions →
      map (λ (m : Made). m.numbers) ms ≡ map (numbers_on line) acts → ((act : RootAct) → Contains acts act → asked_by act ≡ None) →
      filter_map sign_of (map (Entered p) ms) ≡ flat_map (act_signs line p) acts
  pub asked : (line p j : ℕ) (act : RootAct) (pool made : Made) → p < most_partitions → made.numbers ≡ numbers_on line act →
      asked_by act ≡ Some j → filter_map sign_of (Entered 4 pool ∷ Entered p made ∷ []) ≡ flat_map (act_signs line p) (act ∷ [])
  pub only : (partitions line p : ℕ) (roots : Journals) (acts : List RootAct) → ((q : ℕ) → partitions ≤ q → roots q ≡ []) →
      OnlyActs roots line p acts → flat_map (act_signs line p) acts ≡ line_signs partitions roots line
  pub each : (partitions line : ℕ) (roots : Journals) (pieces : ℕ → List Entry) →
      ((p : ℕ) → p < partitions → filter_map sign_of (pieces p) ≡ flat_map (act_signs line p) (acts_of roots line p)) →
      filter_map sign_of (flat_map pieces (range_with_len 0 partitions)) ≡ line_signs partitions roots line
