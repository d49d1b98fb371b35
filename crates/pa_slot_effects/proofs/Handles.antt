-- Sums over registers and cells, and what changes when one of them does.
use Rattle.std.proofs.Common.{◌≡◌, ℕ, ◌+◌, ◌*◌, ◌<◌, ◌≤◌, inl, inr, refl, ap, arith, zero, suc}
use Rattle.std.proofs.lemmas.Bool.{cases_eq, eq-eqb, ne_eqb}
use Rattle.pa_record.specs.declared.history.Held.{Held}
use Rattle.pa_rules.specs.Registers.{Reg, AllRegs, reg_of, with}
use Rattle.pa_slot_effects.specs.Shown.{over, amount, with_reg, with_held}

pub over_same : (n : ℕ) (f g : ℕ → ℕ) → ((i : ℕ) → g i ≡ f i) → over n g ≡ over n f
over_same zero f g h = refl
over_same (suc n) f g h = omega (arith, over_same n f g h, h n)

pub over_past : (n i : ℕ) (f g : ℕ → ℕ) → n ≤ i → ((j : ℕ) → (j ≡ i → ⊥) → g j ≡ f j) → over n g ≡ over n f
over_past zero i f g le h = refl
over_past (suc n) i f g le h =
    let ne : n ≡ i → ⊥ = λ e. omega (arith, e) in
    omega (arith, over_past n i f g (omega arith) h, h n ne)

-- one of the summed is changed
pub over_one : (n i : ℕ) (f g : ℕ → ℕ) → i < n → ((j : ℕ) → (j ≡ i → ⊥) → g j ≡ f j) → over n g + f i ≡ over n f + g i
over_one zero i f g lt h = absurd (omega arith)
over_one (suc n) i f g lt h = elim (cases_eq n i) [
  | inl e ↦ omega (arith, over_past n i f g (omega arith) h, ap f e, ap g e)
  | inr ne ↦ omega (arith, over_one n i f g (omega arith) h, h n ne)
]

pub over_part : (n i : ℕ) (f : ℕ → ℕ) → i < n → f i ≤ over n f
over_part zero i f lt = absurd (omega arith)
over_part (suc n) i f lt = elim (cases_eq n i) [
  | inl e ↦ omega (arith, ap f e)
  | inr ne ↦ omega (arith, over_part n i f (omega arith))
]

pub over_few : (n : ℕ) (f : ℕ → ℕ) → ((i : ℕ) → f i ≤ 1) → over n f ≤ n
over_few zero f h = omega arith
over_few (suc n) f h = omega (arith, over_few n f h, h n)

pub over_many : (n : ℕ) (f : ℕ → ℕ) → ((i : ℕ) → f i ≤ 64) → over n f ≤ 64 * n
over_many zero f h = omega arith
over_many (suc n) f h = omega (arith, over_many n f h, h n)

-- the registers of the thread, and those of another
pub reg_here : (regs : AllRegs) (thread reg : ℕ) (x : Reg) → with_reg regs thread reg x thread ≡ with (regs thread) reg x
reg_here regs thread reg x = rw (eq-eqb thread thread refl) refl

pub reg_there : (regs : AllRegs) (thread reg : ℕ) (x : Reg) (t : ℕ) → (t ≡ thread → ⊥) → with_reg regs thread reg x t ≡ regs t
reg_there regs thread reg x t ne = rw (ne_eqb t thread ne) refl

pub at_reg : (regs : AllRegs) (thread reg : ℕ) (x : Reg) → with_reg regs thread reg x thread reg ≡ x
at_reg regs thread reg x = rw (eq-eqb thread thread refl, eq-eqb reg reg refl) refl

pub at_other : (regs : AllRegs) (thread reg : ℕ) (x : Reg) (r : ℕ) → (r ≡ reg → ⊥) → with_reg regs thread reg x thread r ≡ regs thread r
at_other regs thread reg x r ne = rw (eq-eqb thread thread refl, ne_eqb r reg ne) refl

row_one : (f : Reg → ℕ) (regs : AllRegs) (thread reg : ℕ) (x : Reg) → reg < 64
    → over 64 (λ r. f (with_reg regs thread reg x thread r)) + f (regs thread reg) ≡ over 64 (λ r. f (regs thread r)) + f x
row_one f regs thread reg x lt =
    let old : ℕ → ℕ = λ r. f (regs thread r) in
    let new : ℕ → ℕ = λ r. f (with_reg regs thread reg x thread r) in
    let one : over 64 new + old reg ≡ over 64 old + new reg = over_one 64 reg old new lt (λ j ne. ap f (at_other regs thread reg x j ne)) in
    omega (arith, one, ap f (at_reg regs thread reg x))

-- what all have, if one register is changed
pub amount_reg : (threads : ℕ) (f : Reg → ℕ) (regs : AllRegs) (held : ℕ → Held) (thread reg : ℕ) (x : Reg) → thread < threads → reg < 64
    → amount threads f (with_reg regs thread reg x) held + f (regs thread reg) ≡ amount threads f regs held + f x
amount_reg threads f regs held thread reg x ht hr =
    let old : ℕ → ℕ = λ t. over 64 (λ r. f (regs t r)) in
    let new : ℕ → ℕ = λ t. over 64 (λ r. f (with_reg regs thread reg x t r)) in
    let all : over threads new + old thread ≡ over threads old + new thread =
    over_one threads thread old new ht (λ t ne. ap (λ (row : ℕ → Reg). over 64 (λ r. f (row r))) (reg_there regs thread reg x t ne)) in
    omega (arith, all, row_one f regs thread reg x hr)

pub at_held : (held : ℕ → Held) (cell : ℕ) (h : Held) → with_held held cell h cell ≡ h
at_held held cell h = rw (eq-eqb cell cell refl) refl

pub at_held_other : (held : ℕ → Held) (cell : ℕ) (h : Held) (k : ℕ) → (k ≡ cell → ⊥) → with_held held cell h k ≡ held k
at_held_other held cell h k ne = rw (ne_eqb k cell ne) refl

-- when one cell is set, the sum over registers and cells loses the cell's old part and gains its new one
pub amount_cell : (threads : ℕ) (f : Reg → ℕ) (regs : AllRegs) (held : ℕ → Held) (cell : ℕ) (h : Held) → cell < 64
    → amount threads f regs (with_held held cell h) + f (reg_of (held cell)) ≡ amount threads f regs held + f (reg_of h)
amount_cell threads f regs held cell h lt =
    let old : ℕ → ℕ = λ k. f (reg_of (held k)) in
    let new : ℕ → ℕ = λ k. f (reg_of (with_held held cell h k)) in
    let one : over 64 new + old cell ≡ over 64 old + new cell =
    over_one 64 cell old new lt (λ k ne. ap (λ x. f (reg_of x)) (at_held_other held cell h k ne)) in
    omega (arith, one, ap (λ x. f (reg_of x)) (at_held held cell h))

-- a register's part, and a cell's
pub amount_part : (threads : ℕ) (f : Reg → ℕ) (regs : AllRegs) (held : ℕ → Held) (thread reg : ℕ) → thread < threads → reg < 64
    → f (regs thread reg) ≤ amount threads f regs held
amount_part threads f regs held thread reg ht hr =
    let row : ℕ → ℕ = λ t. over 64 (λ r. f (regs t r)) in
    omega (arith, over_part threads thread row ht, over_part 64 reg (λ r. f (regs thread r)) hr)

-- all have no more than there are
pub amount_few : (threads : ℕ) (f : Reg → ℕ) (regs : AllRegs) (held : ℕ → Held) → ((x : Reg) → f x ≤ 1) →
    amount threads f regs held ≤ 64 * threads + 64
amount_few threads f regs held h =
    let row : ℕ → ℕ = λ t. over 64 (λ r. f (regs t r)) in
    omega (
      arith,
      over_many threads row (λ t. over_few 64 (λ r. f (regs t r)) (λ r. h (regs t r))),
      over_few 64 (λ k. f (reg_of (held k))) (λ k. h (reg_of (held k))),
    )
