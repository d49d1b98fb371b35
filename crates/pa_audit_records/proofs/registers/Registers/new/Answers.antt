use Rattle.std.proofs.Common.{◌≡◌, rules, replicate, sym, subst}
use Rattle.pa_rules.specs.declared.register.Register.TheVariants.{Empty}
use Rattle.pa_rules.specs.Registers.{no_regs}
use Rattle.pa_audit_records.specs.Tables.{AreRegsOf}
use Rattle.pa_audit_records.proofs.Rowing.{all_empty}
use Rattle.pa_audit_records.proofs.registers.Registers.new.Goals as goal

pub returns : goal.returns
returns c =
    let is : c.in_ok-vec.field-0.items ≡ replicate 1024 Empty = search rules in
    subst (λ zs. AreRegsOf zs no_regs) (sym is) (all_empty 1024)
