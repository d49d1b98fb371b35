-- A run whose steps are in one order.
use Rattle.std.proofs.Common.{◌≡◌, ℕ, List, map}
use Rattle.pa_slot.specs.declared.title.Title.{Title}
use Rattle.pa_slot.specs.declared.word.SlotName.{SlotName}
use Rattle.pa_region.specs.Order.{Stamped, OneStep, logged_among, spoiled, AreInPlace}
use Rattle.pa_rules.specs.Roots.{Journals}
use Rattle.pa_logs.specs.Told.{ToldRecord}
use Rattle.pa_logs.specs.Touches.{AreTold}
use Rattle.pa_logs.specs.Listed.{AreRising}
use Rattle.pa_step_order.proofs.Named.{Named, AreNamed}
use Rattle.pa_step_order.proofs.Found.{IsFound}
use Rattle.pa_step_order.proofs.Laid.{stamped_of}

-- a run in order: what is known of its records, the entries of all logs and the same with their records, and the order, with
-- poisonings among the steps
pub record OrderedRun : Type 0 where
  pub sizes : SlotName → ℕ
  pub ts : List ToldRecord
  pub told : AreTold sizes ts
  pub rising : AreRising ts
  pub all : List Stamped
  pub ns : List Named
  pub are : AreNamed ts all ns
  pub roots : Journals
  pub rule : IsFound all
  pub order : List OneStep
  pub agree : map stamped_of ns ≡ logged_among order
  pub placed : AreInPlace order
  pub closed : (t : Title) → spoiled t order ≡ 0
