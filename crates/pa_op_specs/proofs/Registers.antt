-- A worker's registers with one of them changed: what they have, and how the rules of a run have them.
use Rattle.std.proofs.Common.{◌≡◌, ℕ, zero, suc, ◌+◌, ◌<◌, Bool, true, false, List, [], ◌∷◌, length, refl, sym, ◌∙◌, ap, subst, arith}
use Rattle.std.specs.Prelude.{IsTrue, ◌==◌, slice_index_or, slice_set, if◌then◌else◌}
use Rattle.std.specs.List.{sum_by}
use Rattle.std.proofs.lemmas.List.{get_or-set_same, get_or-set_other}
use Rattle.std.proofs.lemmas.List.Sums.{sum_by-cons}
use Rattle.std.proofs.lemmas.Bool.{true≢false}
use Rattle.std.proofs.lemmas.Bool.Decides.{nat_tests}
use Rattle.pa_region.specs.declared.view.View.{View}
use Rattle.pa_rules.specs.Registers.{with}
use Rattle.pa_rules.specs.declared.register.Register.TheVariants.{Empty, Own, Ref, Freed, Cleared}
use Rattle.pa_rules.specs.Nexts.{HasSomeHandle}
use Rattle.pa_op_specs.specs.Stocks.{StockRegister, register_in, as_reg, regs_of, HasNoHandle, IsMadeFor}

-- the sum over a list with one member set
pub sum_set : {A : Type 0} (f : A → ℕ) (xs : List A) (i : ℕ) (y d : A) → i < length xs →
    sum_by f (slice_set xs i y) + f (slice_index_or xs i d) ≡ sum_by f xs + f y
sum_set f [] i y d within = absurd (omega arith)
sum_set f (x ∷ xs) zero y d within = omega (arith, sum_by-cons f y xs, sum_by-cons f x xs)
sum_set f (x ∷ xs) (suc i) y d within =
    let again = sum_set f xs i y d (omega arith) in
    omega (arith, sum_by-cons f x (slice_set xs i y), sum_by-cons f x xs)

-- what a list has after one member is set
pub set_at : {A : Type 0} (xs : List A) (c k : ℕ) (y d : A) → c < length xs →
    slice_index_or (slice_set xs c y) k d ≡ (if k == c then y else slice_index_or xs k d)
set_at {A} xs c k y d within = go (k == c) refl
  where
    go : (b : Bool) → (k == c) ≡ b → slice_index_or (slice_set xs c y) k d ≡ (if b then y else slice_index_or xs k d)
    go true is = let e : c ≡ k = grind (arith, nat_tests) in
        subst (λ (n : ℕ). slice_index_or (slice_set xs c y) n d ≡ y) e (get_or-set_same xs c y d within)
    go false is = get_or-set_other xs c k y d (λ e. grind (arith, nat_tests))

-- the registers of the rules with one of them changed
pub regs_set : (rs : List StockRegister) (i : ℕ) (r : StockRegister) (k : ℕ) → i < length rs →
    regs_of (slice_set rs i r) k ≡ with (regs_of rs) i (as_reg r) k
regs_set rs i r k within = ap as_reg (set_at rs i k r Empty within) ∙ go (k == i)
  where
    go : (b : Bool) → as_reg (if b then r else slice_index_or rs k Empty) ≡ (if b then as_reg r else regs_of rs k)
    go true = refl
    go false = refl

-- it was seen how the slot of each register's handle was made, after one register is set
pub made_set : (v : View) (rs : List StockRegister) (i : ℕ) (r : StockRegister) → i < length rs → IsMadeFor v r →
    ((k : ℕ) → IsMadeFor v (register_in rs k)) → (k : ℕ) → IsMadeFor v (register_in (slice_set rs i r) k)
made_set v rs i r within here there k = subst (IsMadeFor v) (sym (set_at rs i k r Empty within)) (go (k == i))
  where
    go : (b : Bool) → IsMadeFor v (if b then r else slice_index_or rs k Empty)
    go true = here
    go false = there k

-- a register that by a test has no handle
pub bare_register : (r : StockRegister) (has : Bool) → has ≡ false → (HasSomeHandle r → IsTrue has) → HasNoHandle r
bare_register Empty has none tells = tt
bare_register (Own h) has none tells = absurd (true≢false (sym (tells tt) ∙ none))
bare_register (Ref h) has none tells = absurd (true≢false (sym (tells tt) ∙ none))
bare_register Freed has none tells = tt
bare_register Cleared has none tells = tt
