-- The places of a run's text in their order, and what is found of a clause by them.
use Rattle.std.specs.Prelude.{◌<◌, ◌≤◌, length, Option, Some, None}
use Rattle.pa_record.specs.declared.run.Run.{Run}
use Rattle.pa_record.specs.RunText.{history_of, journal_of}
use Rattle.pa_rules.specs.declared.verdict.Place.{Place}
use Rattle.pa_rules.specs.declared.verdict.Place.TheVariants as places
use Rattle.pa_rules.specs.RecordDemands.{IsAbove}

-- the run's text has the place, and the end of the report counts as a line of it
abbrev pub IsThere : Run → Place → Type 0
IsThere r (places.Record i) = i < length r.entries.items
IsThere r (places.Root p j) = j < length (journal_of r p)
IsThere r (places.Pool j) = j < length r.pool.items
IsThere r (places.Cell k j) = j < length (history_of r k)
IsThere r (places.Report i) = i ≤ length r.report.items

-- the first place comes above the second: records, journals, the pool, histories, the report
abbrev pub Precedes : Place → Place → Type 0
Precedes (places.Record i) (places.Record j) = i < j
Precedes (places.Record i) (places.Root p j) = Unit {0}
Precedes (places.Record i) (places.Pool j) = Unit {0}
Precedes (places.Record i) (places.Cell p j) = Unit {0}
Precedes (places.Record i) (places.Report j) = Unit {0}
Precedes (places.Root q i) (places.Record j) = ⊥
Precedes (places.Root q i) (places.Root p j) = IsAbove q i p j
Precedes (places.Root q i) (places.Pool j) = Unit {0}
Precedes (places.Root q i) (places.Cell p j) = Unit {0}
Precedes (places.Root q i) (places.Report j) = Unit {0}
Precedes (places.Pool i) (places.Record j) = ⊥
Precedes (places.Pool i) (places.Root p j) = ⊥
Precedes (places.Pool i) (places.Pool j) = i < j
Precedes (places.Pool i) (places.Cell p j) = Unit {0}
Precedes (places.Pool i) (places.Report j) = Unit {0}
Precedes (places.Cell q i) (places.Record j) = ⊥
Precedes (places.Cell q i) (places.Root p j) = ⊥
Precedes (places.Cell q i) (places.Pool j) = ⊥
Precedes (places.Cell q i) (places.Cell p j) = IsAbove q i p j
Precedes (places.Cell q i) (places.Report j) = Unit {0}
Precedes (places.Report i) (places.Record j) = ⊥
Precedes (places.Report i) (places.Root p j) = ⊥
Precedes (places.Report i) (places.Pool j) = ⊥
Precedes (places.Report i) (places.Cell p j) = ⊥
Precedes (places.Report i) (places.Report j) = i < j

-- Nothing is found if each place meets what is required of it, and else the first in the text that doesn't.
abbrev pub TellsPlace : (Place → Type 0) → Option Place → Type 0
TellsPlace Meets None = (place : Place) → Meets place
TellsPlace Meets (Some place) = (Meets place → ⊥) × ((other : Place) → Precedes other place → Meets other)
