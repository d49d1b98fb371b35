-- The threads' lists in the closed region: each slot has the link to the next one in its first content word.
use Rattle.std.specs.Prelude.{ℕ, List, map}
use Rattle.pa_slot.specs.Links.{AreLinked}
use Rattle.pa_record.specs.declared.numbered.Numbered.{Numbered}
use Rattle.pa_trace.specs.declared.script.Trace.{Trace}
use Rattle.pa_rules.specs.Caches.{Caches, CachesTo, no_caches}
use Rattle.pa_rules.specs.Told.{Told, records_of}

-- The words have the threads' lists as the run leaves them, by thread, partition and class.
-- A list that the run doesn't have is empty.
pub record HasLinkedLists (t : Trace) (r : Told) (words : List ℕ) : Type 0 where
  pub all : Caches
  pub are : CachesTo t.partitions r.roots no_caches (records_of t r) all
  pub linked : (k p class : ℕ) → AreLinked words (map (λ (n : Numbered). n.slot) (all k p class))
