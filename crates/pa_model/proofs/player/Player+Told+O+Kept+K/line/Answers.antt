use Rattle.std.proofs.Common.{ap}
use Rattle.pa_trace_writer.specs.Lines.{LinesSoFar}
use Rattle.pa_model.specs.Player.{Player}
use Rattle.pa_model.proofs.Going.{ready, plays_line}
use Rattle.pa_model.proofs.Owned.{reads_owned}
use Rattle.pa_model.proofs.player.Player+Told+O+Kept+K.line.Goals as goal

pub line-requires : goal.line-requires
line-requires g c = ready c.args.self.now c.args.self.now c.args.line c.requires.going c.requires.few c.requires.within

pub returns-clause-played : goal.returns-clause-played
returns-clause-played g c =
    let p = c.args.self.now in
    let q : Player = record { inner = c.line.new.self; lines = c.push.new.self; alloc = p.alloc } in
    let more = c.in_ok-push.ensures.pushed in
    plays_line p q c.args.line c.in_ok-answer.answer c.requires.going c.requires.few c.requires.within
    (ap (λ (l : LinesSoFar). l.head) more)
    (ap (λ (l : LinesSoFar). l.items) more) c.in_ok-answer.ensures.played

pub returns-clause-owned : goal.returns-clause-owned
returns-clause-owned g c =
    let p = c.args.self.now in
    let q : Player = record { inner = c.line.new.self; lines = c.push.new.self; alloc = p.alloc } in
    reads_owned p c.args.line c.in_ok-answer.answer q c.in_ok-answer.ensures.played c.in_ok-answer.ensures.owned
