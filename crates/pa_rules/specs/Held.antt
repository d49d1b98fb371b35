-- Held by the closed region: what the words of a region that was closed say of the run that was played in it.
use Rattle.std.specs.Prelude.{ℕ, ◌⊎◌, List, Contains}
use Rattle.pa_slot.specs.declared.title.Title.{Title}
use Rattle.pa_slot.specs.Count.{number_of}
use Rattle.pa_slot.specs.Run.{IsLive, IsQuarantined}
use Rattle.pa_slot.specs.Titles.{poison, count_word, HasContentFrom}
use Rattle.pa_trace.specs.declared.script.Trace.{Trace}
use Rattle.pa_record.specs.declared.pool.PoolEntry.{PoolEntry}
use Rattle.pa_record.specs.declared.root.RootEntry.{RootEntry}
use Rattle.pa_record.specs.Spans.{name_of}
use Rattle.pa_record.specs.Root.{new_root, root_replayed}
use Rattle.pa_record.specs.Sound.{IsMade}
use Rattle.pa_rules.specs.declared.played.Played.{Played}
use Rattle.pa_rules.specs.Contents.{IsContent}
use Rattle.pa_rules.specs.Report.{HasWord}
use Rattle.pa_rules.specs.Told.{Told, records_of}

-- the title was made and is in the root after its journal: a slot that was cut, or a direct map that didn't go back
abbrev pub IsStanding : List PoolEntry → List RootEntry → Title → Type 0
IsStanding pools journal t = IsMade (root_replayed pools journal new_root) t ⊎ Contains (root_replayed pools journal new_root).maps t

-- The region's words show a slot: its count word is the last word of its run. If it is quarantined, each content word is
-- poison, and if it is live, each is its content at that number.
pub record HasSlot (words : List ℕ) (ps : List Played) (t : Title) : Type 0 where
  pub word : HasWord ps (name_of t) (count_word words t)
  pub quarantined : IsQuarantined (count_word words t) → HasContentFrom words t 0 poison
  pub live : IsLive (count_word words t)
      → (value : ℕ) × IsContent ps (name_of t) (number_of (count_word words t)) value × HasContentFrom words t 0 value

-- the region's words show each slot that was made and is in its root
abbrev pub IsHeldIn : Trace → Told → List ℕ → Type 0
IsHeldIn t r words = (p : ℕ) (title : Title) → IsStanding r.pools (r.roots p) title → HasSlot words (records_of t r) title
