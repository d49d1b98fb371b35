use Rattle.std.proofs.Common.{◌≡◌, ℕ, ◌∙◌, sym, ap, inr}
use Rattle.pa_trace.specs.declared.script.Line.TheVariants.{Do}
use Rattle.pa_trace.specs.declared.script.Op.TheVariants as ops
use Rattle.pa_record.specs.declared.entry.Answer.{Answer}
use Rattle.pa_record.specs.declared.entry.Answer.TheVariants as answers
use Rattle.pa_rules.specs.Nexts.{free_next, looked_free}
use Rattle.pa_rules.specs.declared.register.Register.{Register}
use Rattle.pa_rules.proofs.Nexts.{free_steps, free_looks}
use Rattle.pa_player.specs.Changes.{Frees, seen_at}
use Rattle.pa_player.specs.Plays.{Plays}
use Rattle.pa_player.proofs.Answers.{free_refuses}
use Rattle.pa_player.proofs.Branches.{free_plays}
use Rattle.pa_player.proofs.Looks.{free_looked, was_seen}
use Rattle.pa_player.proofs.Outcome.{both_ok}
use Rattle.pa_player.proofs.Ready.{free_ready, place_ready}
use Rattle.pa_player.proofs.Showing.{handle_points}
use Rattle.pa_player.proofs.steps.Player+Told+O.free.Goals as goal

pub free_owned-requires : goal.free_owned-requires
free_owned-requires g c =
    free_ready c.args.self.now c.args.thread c.args.reg c.in-Step.place c.requires
    (free_steps _ c.in-Step.place (sym (c.for_free.ensures ∙ ap (λ (r : Register ℕ). free_next r) c.register.ensures) ∙ c.in-Step.is))

pub seen-requires : goal.seen-requires
seen-requires g c =
    let ref = free_looks _ c.in-Look.place (sym (c.for_free.ensures ∙ ap (λ (r : Register ℕ). free_next r) c.register.ensures) ∙
    c.in-Look.is) in
    record {
      among = place_ready c.args.self.now (Do c.args.thread (ops.Free c.args.reg)) c.args.thread c.args.reg c.in-Look.place c.requires
          (handle_points _ c.in-Look.place (inr ref));
    }

pub returns-in-Refused-clause-played : goal.returns-in-Refused-clause-played
returns-in-Refused-clause-played g c =
    free_refuses c.args.self.now c.args.thread c.args.reg c.in-Refused.refusal
    (sym (c.for_free.ensures ∙ ap (λ (r : Register ℕ). free_next r) c.register.ensures) ∙ c.in-Refused.is)

pub returns-in-Step-clause-played : goal.returns-in-Step-clause-played
returns-in-Step-clause-played g c =
    let p = c.args.self.now in
    let is = free_steps _ c.in-Step.place (sym (c.for_free.ensures ∙ ap (λ (r : Register ℕ). free_next r) c.register.ensures) ∙
    c.in-Step.is) in
    both_ok c.free_owned.result (λ (a : Answer). a ≡ answers.Done (seen_at p.table c.in-Step.place))
    (λ a. Plays p c.args.thread (ops.Free c.args.reg) c.free_owned.new.self a)
    (Frees c.args.thread c.args.reg c.in-Step.place p c.free_owned.new.self)
    c.free_owned.ensures.answer c.free_owned.ensures.frees
    (λ a says frees. free_plays p c.free_owned.new.self c.args.thread c.args.reg c.in-Step.place a is
    (free_ready p c.args.thread c.args.reg c.in-Step.place c.requires is) says frees)

pub returns-in-Look-clause-played : goal.returns-in-Look-clause-played
returns-in-Look-clause-played g c =
    free_looked c.args.self.now c.args.thread c.args.reg c.in-Look.place c.looked_free.result
    (free_looks _ c.in-Look.place (sym (c.for_free.ensures ∙ ap (λ (r : Register ℕ). free_next r) c.register.ensures) ∙ c.in-Look.is))
    (c.looked_free.ensures ∙
    ap looked_free (was_seen c.args.self.now.table c.in-Look.place c.seen.result c.seen.ensures.slot c.seen.ensures.found))
