-- What is out of a root under a name: a slot of a span, or a direct map.
use Rattle.std.specs.Prelude.{◌≡◌, Contains}
use Rattle.pa_slot.specs.declared.title.Title.{Title}
use Rattle.pa_slot.specs.declared.word.SlotName.{SlotName}
use Rattle.pa_record.specs.Spans.{name_of}
use Rattle.pa_record.specs.Root.{Root, IsOut, IsTitleOut}
use Rattle.pa_place.specs.declared.placed.Out.{Out}
use Rattle.pa_place.specs.declared.placed.Out.TheVariants.{Slot, Map}

-- what is out under this name: a span's slot, with its title, or one of the root's direct maps
abbrev pub IsOutAs : Root → SlotName → Out → Type 0
IsOutAs r name (Slot t) = IsOut r name × IsTitleOut r t × (name_of t ≡ name)
IsOutAs r name (Map t) = Contains r.maps t × (name_of t ≡ name)

-- nothing of that name is out
abbrev pub IsNotOut : Root → SlotName → Type 0
IsNotOut r name = (t : Title) → IsTitleOut r t → name_of t ≡ name → ⊥
