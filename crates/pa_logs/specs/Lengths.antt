-- The length of each slot, from the journals.
use Rattle.std.specs.Prelude.{◌≡◌, ℕ, zero, suc, List, [], ◌∷◌, ◌++◌, map, if◌then◌else◌}
use Rattle.std.specs.List.{flat_map}
use Rattle.pa_slot.specs.declared.title.Title.{Title}
use Rattle.pa_slot.specs.declared.word.SlotName.{SlotName}
use Rattle.pa_slot.specs.Run.{same_slot}
use Rattle.pa_record.specs.declared.pool.PoolEntry.{PoolEntry}
use Rattle.pa_record.specs.declared.root.RootEntry.{RootEntry}
use Rattle.pa_record.specs.declared.root.RootAct.{RootAct}
use Rattle.pa_record.specs.declared.root.RootAct.TheVariants.{Fill, Map, Full, Give, Unmap, Purge}
use Rattle.pa_record.specs.Spans.{Span, title_at, name_of}
use Rattle.pa_record.specs.Root.{new_root, root_replayed, map_title}
use Rattle.pa_record.specs.Sound.{IsMadeBy}
use Rattle.pa_rules.specs.declared.played.Played.{Played}
use Rattle.pa_rules.specs.Roots.{Journals, AreRoots, IsPoolOf}
use Rattle.pa_rules.specs.Report.{HasSize}
use Rattle.pa_rules.specs.Held.{IsStanding}
use Rattle.pa_lists.specs.Numbers.{numbers}

-- the slots that were cut of a span
abbrev pub slots_cut : Span → List Title
slots_cut s = map (title_at s) (numbers 0 s.made)

-- the direct map's title, if the entry makes one
abbrev pub maps_by : RootAct → List Title
maps_by (Fill class asked slots) = []
maps_by (Map asked slot len) = map_title slot len ∷ []
maps_by (Full class asked) = []
maps_by (Give slots) = []
maps_by (Unmap asked slot) = []
maps_by Purge = []

-- the titles that a journal makes
abbrev pub titles_by : List PoolEntry → List RootEntry → List Title
titles_by pools journal =
    flat_map slots_cut (root_replayed pools journal new_root).spans ++ flat_map (λ (e : RootEntry). maps_by e.act) journal

-- the titles that the journals of the first n partitions make
abbrev pub titles_of : List PoolEntry → Journals → ℕ → List Title
titles_of pools roots zero = []
titles_of pools roots (suc n) = titles_by pools (roots n) ++ titles_of pools roots n

-- the length of the first title of that name, 0 if there is none
abbrev pub length_among : List Title → SlotName → ℕ
length_among [] s = 0
length_among (t ∷ ts) s = if same_slot (name_of t) s then t.len else length_among ts s

-- the length of each slot, as the journals say it
abbrev pub lengths_by : ℕ → List PoolEntry → Journals → SlotName → ℕ
lengths_by partitions pools roots s = length_among (titles_of pools roots partitions) s

-- Each slot has the length that its journal gives.
--   made: a title that was made has that of its slot
--   stands: so has one that exists, as the closing seat must satisfy
--   named: a slot has the length of its class or of its direct map
pub record LengthsFollow : Type 0 where
  pub made : (supers partitions p : ℕ) (ps : List Played) (pools : List PoolEntry) (roots : Journals) (t : Title) →
      AreRoots partitions ps pools roots → IsPoolOf supers ps pools roots → IsMadeBy pools (roots p) t →
      lengths_by partitions pools roots (name_of t) ≡ t.len
  pub stands : (supers partitions p : ℕ) (ps : List Played) (pools : List PoolEntry) (roots : Journals) (t : Title) →
      AreRoots partitions ps pools roots → IsPoolOf supers ps pools roots → IsStanding pools (roots p) t →
      lengths_by partitions pools roots (name_of t) ≡ t.len
  pub named : (supers partitions p len : ℕ) (ps : List Played) (pools : List PoolEntry) (roots : Journals) (s : SlotName) →
      AreRoots partitions ps pools roots → IsPoolOf supers ps pools roots → HasSize roots p s len →
      lengths_by partitions pools roots s ≡ len
