-- A free and a write through a raw_ptr, which only look.
use Rattle.std.proofs.Common.{◌≡◌, ℕ, ◌<◌, Some, refl, sym, ap, subst, ◌⊎◌, inl, inr}
use Rattle.pa_slot.specs.Count.{held_of}
use Rattle.pa_trace.specs.declared.script.Op.TheVariants as ops
use Rattle.pa_record.specs.declared.entry.Seen.{Seen}
use Rattle.pa_record.specs.declared.entry.Answer.{Answer}
use Rattle.pa_record.specs.declared.entry.Answer.TheVariants.{NotOwner, SecondFree, StaleUse}
use Rattle.pa_record.specs.Spans.{name_of}
use Rattle.pa_region.specs.Leaves.{LookLeaves}
use Rattle.pa_region.specs.Aware.{IsAware}
use Rattle.pa_rules.specs.Registers.{FreeRow, WriteRow}
use Rattle.pa_cells.specs.declared.handle.Handle.{Handle}
use Rattle.pa_rules.specs.declared.register.Register.TheVariants.{Ref}
use Rattle.pa_op_specs.specs.Stocks.{StockValue, IsStock, register_in, as_reg, regs_of}
use Rattle.pa_op_specs.specs.Workers.{HasItsStake}
use Rattle.pa_thread_state.specs.Changes.{LooksAtSlot}
use Rattle.pa_op_specs.specs.Plays.{DoesOp}
use Rattle.pa_heap.proofs.Looking.{IsOfLook, looked_does}
use Rattle.pa_thread_state.proofs.Looking.{seen_at}

-- what was seen is what a look at the handle's slot answers
seen_is : (h : Handle) (seen : Seen) → seen.slot ≡ name_of h.title → seen ≡ seen_at h seen.found.0
seen_is h seen e = ap (λ n. record seen { slot = n }) e

pub free_looked : LookLeaves → (s after : StockValue) (reg : ℕ) (h : Handle) (seen : Seen) (answer : Answer) → IsStock s →
    IsAware s.view → HasItsStake s → reg < 64 →
    register_in s.registers reg ≡ Ref h → LooksAtSlot h seen s after →
    (((held_of seen.found.0 ≡ 1) × (answer ≡ NotOwner seen)) ⊎ ((held_of seen.found.0 ≡ 0) × (answer ≡ SecondFree (Some seen)))) →
    (line : ℕ) → DoesOp line (ops.Free reg) answer s after
free_looked looks s after reg h seen answer is aware stake below ref at is_answer line =
    subst (DoesOp line (ops.Free reg) answer s) (sym at.after_is)
    (looked_does looks s (ops.Free reg) answer reg seen.found.0 h is aware stake below (inr ref) at.found tt (of_look is_answer)
    (λ o. subst (λ x. FreeRow (as_reg x) (regs_of s.registers) reg answer (regs_of s.registers)) (sym ref)
    (seen, at.slot, λ k. refl, is_answer))
    (λ o line phase. tt) line)
  where
    of_look : (((held_of seen.found.0 ≡ 1) × (answer ≡ NotOwner seen)) ⊎ ((held_of seen.found.0 ≡ 0) × (answer ≡ SecondFree (Some seen)))) →
        IsOfLook answer (seen_at h seen.found.0)
    of_look (inl (bit, e)) = subst (λ a. IsOfLook a (seen_at h seen.found.0)) (sym e) (seen_is h seen at.slot)
    of_look (inr (bit, e)) = subst (λ a. IsOfLook a (seen_at h seen.found.0)) (sym e) (seen_is h seen at.slot)

pub write_looked : LookLeaves → (s after : StockValue) (reg value : ℕ) (h : Handle) (seen : Seen) (answer : Answer) → IsStock s →
    IsAware s.view → HasItsStake s → reg < 64 →
    register_in s.registers reg ≡ Ref h → LooksAtSlot h seen s after →
    (((held_of seen.found.0 ≡ 1) × (answer ≡ NotOwner seen)) ⊎ ((held_of seen.found.0 ≡ 0) × (answer ≡ StaleUse (Some seen)))) →
    (line : ℕ) → DoesOp line (ops.Write reg value) answer s after
write_looked looks s after reg value h seen answer is aware stake below ref at is_answer line =
    subst (DoesOp line (ops.Write reg value) answer s) (sym at.after_is)
    (looked_does looks s (ops.Write reg value) answer reg seen.found.0 h is aware stake below (inr ref) at.found tt (of_look is_answer)
    (λ o. subst (λ x. WriteRow (as_reg x) (regs_of s.registers) answer (regs_of s.registers)) (sym ref)
    (seen, at.slot, λ k. refl, is_answer))
    (λ o line phase. tt) line)
  where
    of_look : (((held_of seen.found.0 ≡ 1) × (answer ≡ NotOwner seen)) ⊎ ((held_of seen.found.0 ≡ 0) × (answer ≡ StaleUse (Some seen)))) →
        IsOfLook answer (seen_at h seen.found.0)
    of_look (inl (bit, e)) = subst (λ a. IsOfLook a (seen_at h seen.found.0)) (sym e) (seen_is h seen at.slot)
    of_look (inr (bit, e)) = subst (λ a. IsOfLook a (seen_at h seen.found.0)) (sym e) (seen_is h seen at.slot)
