-- What a map has after one of its keys was set, and the numbers of slots as keys.
use Rattle.std.proofs.Common.{◌≡◌, ℕ, ◌<◌, false, Option, Some, sym, ◌∙◌, ap, arith}
use Rattle.std.specs.Prelude.{bit_xor, nat_eq}
use Rattle.std.specs.Int.Bits.{xor_assoc, xor_self, xor_zero_r}
use Rattle.std.proofs.lemmas.Bool.{ne_eqb}
use Rattle.pa_slot.specs.declared.word.SlotName.{SlotName}
use Rattle.pa_audit_records.specs.Keys.{name_key}
use Rattle.pa_audit_records.specs.Tables.{Puts}

unsalted : (salt key : ℕ) → bit_xor (bit_xor key salt) salt ≡ key
unsalted salt key = xor_assoc key salt salt ∙ ap (bit_xor key) (xor_self salt) ∙ xor_zero_r key

-- two keys stay two when they are mixed with one salt
salted_apart : (salt k q : ℕ) → (q ≡ k → ⊥) → nat_eq (bit_xor k salt) (bit_xor q salt) ≡ false
salted_apart salt k q apart = ne_eqb _ _ (λ same. apart (sym (unsalted salt q) ∙ ap (λ n. bit_xor n salt) (sym same) ∙ unsalted salt k))

pub salted_put : {V : Type 0} (f g : ℕ → Option V) (salt k : ℕ) (v : V) → g (bit_xor k salt) ≡ Some v →
    ((q : ℕ) → nat_eq (bit_xor k salt) q ≡ false → g q ≡ f q) →
    Puts (λ q. f (bit_xor q salt)) (λ q. g (bit_xor q salt)) k v
salted_put f g salt k v here other = record { here = here; other = λ q apart. other (bit_xor q salt) (salted_apart salt k q apart) }

pub same_key : (s t : SlotName) → s.start < 4294967296 → t.start < 4294967296 → name_key s ≡ name_key t → s ≡ t
same_key s t within within' same =
    let start : s.start ≡ t.start = omega (arith, within, within', same) in
    let born : s.born ≡ t.born = omega (arith, within, within', same) in
    λ i. record { start = start i; born = born i }
