-- A slot that a reset's or a free's step returned: what a call knows of it, and that the seat has its stake then.
use Rattle.std.proofs.Common.{◌≡◌, ℕ, ◌<◌, refl, sym, ◌∙◌, subst, arith, inl, inr}
use Rattle.std.specs.Prelude.{Contains}
use Rattle.pa_slot.specs.declared.word.Step.TheVariants as steps
use Rattle.pa_record.specs.declared.entry.Seen.{Seen}
use Rattle.pa_region.specs.Views.{free_of}
use Rattle.pa_region.specs.Moves.{after_count}
use Rattle.pa_region.specs.Leaves.{CountLeaves, OwnsChange, StatesAreOwns}
use Rattle.pa_region.specs.Aware.{IsAware}
use Rattle.pa_quarantine.specs.Filling.{poisoned}
use Rattle.pa_count.specs.declared.steps.Fate.{Fate}
use Rattle.pa_count.specs.declared.steps.Fate.TheVariants.{Kept, Last}
use Rattle.pa_cells.specs.declared.handle.Handle.{Handle}
use Rattle.pa_cells.specs.Handles.{HasSeenMade}
use Rattle.pa_rules.specs.declared.register.Register.TheVariants.{Own, Ref, Freed, Cleared}
use Rattle.pa_op_specs.specs.Stocks.{StockValue, IsStock, register_in, titles_in}
use Rattle.pa_op_specs.specs.Workers.{HasItsStake}
use Rattle.pa_op_specs.proofs.Seeing.{made_kept}
use Rattle.pa_op_specs.proofs.Stocks.{register_has}
use Rattle.pa_thread_state.specs.Changes.{LetsGo, IsBack}
use Rattle.pa_thread_state.proofs.Leaving.{user_not_free}
use Rattle.pa_thread_state.proofs.Resetting.{can_reset}
use Rattle.pa_thread_state.proofs.Freeing.{can_step, freed_view}

pub not_last : (fate : Fate) → fate ≡ Last → fate ≡ Kept → ⊥
not_last fate last kept = let bad : Last ≡ Kept = sym last ∙ kept in cc

-- What a call knows of the title that its reset returned.
pub reset_back : (s mid : StockValue) (r : ℕ) (h : Handle) (seen : Seen) → IsStock s → IsAware s.view → r < 64 →
    register_in s.registers r ≡ Ref h → LetsGo steps.Reset h r Cleared s.view seen s mid →
    free_of mid.view h.title ≡ 1 → IsBack h mid
reset_back s mid r h seen is aware below ref gone free =
    let knows = register_has s r h is below (inr ref) in
    record {
      free = omega arith;
      new = λ p class among. user_not_free s.view h.title aware knows.0
          (is.lists.free p class h.title (subst (λ (z : StockValue). Contains (titles_in z.caches p class) h.title) gone.after_is among));
      made = subst (λ (z : StockValue). HasSeenMade h z.view) (sym gone.after_is)
          (made_kept h s.view (after_count steps.Reset h.title seen.found.0 s.view) refl knows.1);
    }

pub free_back : (s mid : StockValue) (r : ℕ) (h : Handle) (seen : Seen) → IsStock s → IsAware s.view → r < 64
    → register_in s.registers r ≡ Own h → LetsGo steps.Free h r Freed (poisoned h.title s.view) seen s mid →
    free_of mid.view h.title ≡ 1 → IsBack h mid
free_back s mid r h seen is aware below own gone free =
    let knows = register_has s r h is below (inl own) in
    record {
      free = omega arith;
      new = λ p class among. user_not_free s.view h.title aware knows.0
          (is.lists.free p class h.title (subst (λ (z : StockValue). Contains (titles_in z.caches p class) h.title) gone.after_is among));
      made = subst (λ (z : StockValue). HasSeenMade h z.view) (sym gone.after_is)
          (made_kept h s.view (freed_view s.view h.title seen.found.0) refl knows.1);
    }

-- The seat has its stake still after the step.
pub reset_stake : CountLeaves → (s mid : StockValue) (r : ℕ) (h : Handle) (seen : Seen) → IsStock s → HasItsStake s → 0 < s.view.budget →
    r < 64 →
    register_in s.registers r ≡ Ref h → LetsGo steps.Reset h r Cleared s.view seen s mid → HasItsStake mid
reset_stake counts s mid r h seen is stake budget below ref gone =
    let leaves = counts steps.Reset h.title seen.found.0 s.view (can_reset s r h is stake budget below ref) in
    subst (λ (z : StockValue). HasItsStake z) (sym gone.after_is) (subst (λ (n : ℕ). 0 < n) (sym (leaves.entry.stakes s.thread)) stake)

pub free_stake : CountLeaves → OwnsChange → StatesAreOwns → (s mid : StockValue) (r : ℕ) (h : Handle) (seen : Seen) → IsStock s →
    HasItsStake s → 0 < s.view.budget → r < 64 →
    register_in s.registers r ≡ Own h → LetsGo steps.Free h r Freed (poisoned h.title s.view) seen s mid → HasItsStake mid
free_stake counts owns states s mid r h seen is stake budget below own gone =
    let leaves = counts steps.Free h.title seen.found.0 (poisoned h.title s.view) (can_step states owns s r h is stake budget below own) in
    subst (λ (z : StockValue). HasItsStake z) (sym gone.after_is) (subst (λ (n : ℕ). 0 < n) (sym (leaves.entry.stakes s.thread)) stake)
