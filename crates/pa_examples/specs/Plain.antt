-- Which partitions of a trace are plain: that is, without reference counts.
use Rattle.std.specs.Prelude.{◌≡◌, ℕ, true, ◌+◌, ◌≤◌, ◌↔◌}
use Rattle.pa_trace.specs.declared.script.Op.TheVariants.{Alloc}
use Rattle.pa_trace.specs.declared.script.Trace.{Trace}
use Rattle.pa_trace.specs.Limits.{IsWithinLimits}
use Rattle.pa_trace.specs.Rules.{rules_of}
use Rattle.pa_rules.specs.Registers.{is_plain_op}

-- The plain partitions of a trace within the limits are its last ones, as many as it tells.
--   parted: those that aren't plain come first, and the plain ones are all others
--   asks: an allocation asks for a plain slot exactly if its partition is one of so many last ones
pub record PlainPartitionsAreLast : Type 0 where
  pub parted : (t : Trace) → IsWithinLimits t → (rules_of t).plain_from + t.plain ≡ t.partitions
  pub asks : (t : Trace) (reg partition size : ℕ) → IsWithinLimits t
      → (is_plain_op (rules_of t) (Alloc reg partition size) ≡ true) ↔ (t.partitions ≤ partition + t.plain)
