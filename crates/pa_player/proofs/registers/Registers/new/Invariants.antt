use Rattle.std.proofs.Common.{◌≡◌, length, replicate}
use Rattle.std.specs.List.{All}
use Rattle.pa_rules.specs.declared.register.Register.TheVariants.{Empty}
use Rattle.pa_player.proofs.registers.Registers.new.Given as goal

-- that many threads have empty registers
abbrev pub invariant-loop : goal.invariant-loop
invariant-loop l = (length l.of.items ≡ l.counter) × All (λ row. row ≡ replicate 64 Empty) l.of.items
