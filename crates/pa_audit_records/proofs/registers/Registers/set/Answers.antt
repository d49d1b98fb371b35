use Rattle.std.proofs.Common.{◌+◌, ◌*◌, List, set, arith, subst}
use Rattle.pa_rules.specs.Registers.{Reg}
use Rattle.pa_audit_records.specs.Tables.{AreRegsOf, regs_in, with_register}
use Rattle.pa_audit_records.proofs.Rowing.{set_register}
use Rattle.pa_audit_records.proofs.registers.Registers.set.Goals as goal

pub returns : goal.returns
returns c =
    let list : List Reg = c.self.inside.of.items in
    let t = c.args.thread in
    let r = c.args.reg in
    let P = λ (old : List Reg). AreRegsOf (set list (64 * t + r) c.args.holds) (with_register (regs_in old) t r c.args.holds) in
    subst P c.self.view_is (set_register list t r c.args.holds (omega arith) c.requires.reg)
