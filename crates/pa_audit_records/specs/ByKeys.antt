-- What a table has.
use Rattle.std.specs.Prelude.{ℕ, Option, nat_eq, bit_xor}
use Rattle.std.specs.HashMap.{get}
use Rattle.pa_audit_records.specs.declared.by_key.ByKey.{ByKey}

-- the value that the table has at a key
abbrev pub value_at : {V : Type 0} → ByKey V → ℕ → Option V
value_at t key = get nat_eq t.values (bit_xor key t.salt)
