use Rattle.std.proofs.Common.{ℕ, ◌∙◌, sym, ap, inr}
use Rattle.pa_trace.specs.declared.script.Line.TheVariants.{Do}
use Rattle.pa_trace.specs.declared.script.Op.TheVariants as ops
use Rattle.pa_rules.specs.Nexts.{write_next, looked_write}
use Rattle.pa_rules.specs.declared.register.Register.{Register}
use Rattle.pa_rules.proofs.Nexts.{write_steps, write_looks}
use Rattle.pa_player.proofs.Answers.{write_refuses}
use Rattle.pa_player.proofs.Branches.{write_plays}
use Rattle.pa_player.proofs.Looks.{write_looked, was_seen}
use Rattle.pa_player.proofs.Ready.{write_ready, place_ready}
use Rattle.pa_player.proofs.Showing.{handle_points}
use Rattle.pa_player.proofs.steps.Player+Told+O.write.Goals as goal

pub write_owned-requires : goal.write_owned-requires
write_owned-requires g c =
    write_ready c.args.self.now c.args.thread c.args.reg c.args.value c.in-Step.place c.requires
    (write_steps _ c.in-Step.place (sym (c.for_write.ensures ∙ ap (λ (r : Register ℕ). write_next r) c.register.ensures) ∙ c.in-Step.is))

pub seen-requires : goal.seen-requires
seen-requires g c =
    let ref = write_looks _ c.in-Look.place (sym (c.for_write.ensures ∙ ap (λ (r : Register ℕ). write_next r) c.register.ensures) ∙
    c.in-Look.is) in
    record {
      among = place_ready c.args.self.now
          (Do c.args.thread (ops.Write c.args.reg c.args.value)) c.args.thread c.args.reg c.in-Look.place c.requires
          (handle_points _ c.in-Look.place (inr ref));
    }

pub returns-in-Refused : goal.returns-in-Refused
returns-in-Refused g c =
    write_refuses c.args.self.now c.args.thread c.args.reg c.args.value c.in-Refused.refusal
    (sym (c.for_write.ensures ∙ ap (λ (r : Register ℕ). write_next r) c.register.ensures) ∙ c.in-Refused.is)

pub returns-in-Step : goal.returns-in-Step
returns-in-Step g c =
    write_plays c.args.self.now c.write_owned.new.self c.args.thread c.args.reg c.args.value c.in-Step.place c.write_owned.result
    (write_steps _ c.in-Step.place (sym (c.for_write.ensures ∙ ap (λ (r : Register ℕ). write_next r) c.register.ensures) ∙ c.in-Step.is))
    c.write_owned.ensures

pub returns-in-Look : goal.returns-in-Look
returns-in-Look g c =
    write_looked c.args.self.now c.args.thread c.args.reg c.args.value c.in-Look.place c.looked_write.result
    (write_looks _ c.in-Look.place (sym (c.for_write.ensures ∙ ap (λ (r : Register ℕ). write_next r) c.register.ensures) ∙ c.in-Look.is))
    (c.looked_write.ensures ∙
    ap looked_write (was_seen c.args.self.now.table c.in-Look.place c.seen.result c.seen.ensures.slot c.seen.ensures.found))
