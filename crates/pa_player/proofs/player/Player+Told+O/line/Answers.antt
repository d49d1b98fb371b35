use Rattle.std.proofs.Common.{None, sym, subst}
use Rattle.pa_trace.specs.declared.script.Line.{Line}
use Rattle.pa_trace.specs.declared.script.Line.TheVariants.{Phase}
use Rattle.pa_player.specs.Plays.{GoesTo, IsReady}
use Rattle.pa_player.proofs.Ready.{phase_ready}
use Rattle.pa_player.proofs.Reporting.{phase_plays}
use Rattle.pa_player.proofs.player.Player+Told+O.line.Goals as goal

pub begin_phase-requires : goal.begin_phase-requires
begin_phase-requires g c = phase_ready c.args.self.now (subst (λ (l : Line). IsReady l c.args.self.now) c.in-Phase.is c.requires)

pub returns-in_ok-begin_phase-in-Phase-clause-played : goal.returns-in_ok-begin_phase-in-Phase-clause-played
returns-in_ok-begin_phase-in-Phase-clause-played g c =
    let p = c.args.self.now in
    let q = c.begin_phase.new.self in
    let played : GoesTo p Phase None q = subst (GoesTo p Phase None) (sym c.in_ok-begin_phase-in-Phase.ensures.begun) (phase_plays p) in
    subst (λ (l : Line). GoesTo p l None q) (sym c.in-Phase.is) played
