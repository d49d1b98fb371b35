-- Options: what a Some says.
use Rattle.std.proofs.Common.{ℕ, Some, ◌≡◌, Bool, cond, None, true, refl, false}

pub some_same : (a b : ℕ) → Some a ≡ Some b → a ≡ b
some_same a b e = cc

pub if_some : {A : Type 0} (b : Bool) (x y : A) → cond b (Some x) None ≡ Some y → (b ≡ true) × (x ≡ y)
if_some true x y e = (refl, cc)
if_some false x y e = absurd cc
