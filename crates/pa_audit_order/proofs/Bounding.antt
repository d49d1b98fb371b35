-- The greatest key of a map below a bound.
use Rattle.std.proofs.Common.{◌≡◌, ℕ, ◌<◌, false, Option, Some, None, IsSome, refl, sym, ◌∙◌, ap, arith}
use Rattle.std.specs.Ordering.{nat_cmp, is_lt}
use Rattle.std.specs.Cmp.{nat_cmp_is}
use Rattle.std.specs.declared.cmp.Ordering.TheVariants.{Less}
use Rattle.std.proofs.lemmas.Bool.{true≢false}
use Rattle.pa_audit_order.specs.Keyed.{HasNoKey}

none_of : (o : Option ℕ) → (IsSome o → ⊥) → o ≡ None
none_of None h = refl
none_of (Some x) h = absurd (h refl)

less_is : (k q : ℕ) → k < q → nat_cmp k q ≡ Less
less_is k q less = sym (nat_cmp_is k q Less less)

-- what is greater than every key that is there isn't there
pub none_from : (at : ℕ → Option ℕ) (low high k : ℕ) → k < low →
    ((q : ℕ) → nat_cmp q high ≡ Less → IsSome (at q) → is_lt (nat_cmp k q) ≡ false) → HasNoKey at low high
none_from at low high k less most q from below =
    none_of (at q) (λ some. true≢false (sym (ap is_lt (less_is k q (omega (arith, less, from)))) ∙ most q (less_is q high below) some))
