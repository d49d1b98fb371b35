use Rattle.std.proofs.Common.{None, map, refl, string_bytes}
use Rattle.pa_cli.specs.Call.{call_of, stream_of}
use Rattle.pa_cli.proofs.Right.{refused_caused}
use Rattle.pa_cli.proofs.alone.answer.Goals as goal

pub returns-in-Err-clause-cause : goal.returns-in-Err-clause-cause
returns-in-Err-clause-cause g c =
    refused_caused c.in-Err.status c.in-Some.command
    (call_of (map string_bytes c.args.words.now)
    (stream_of (g.S.Source.left c.args.source.now) (g.S.Source.faults c.args.source.now))
    (stream_of (g.S.Source.left c.text_of.new.source) (g.S.Source.faults c.text_of.new.source))
    (stream_of (g.K.Sink.written c.args.sink.now) (g.K.Sink.faults c.args.sink.now))
    (stream_of (g.K.Sink.written c.args.sink.now) (g.K.Sink.faults c.args.sink.now)) None None)
    c.in-Some.ensures.asked c.in-Err.ensures.refusal refl

pub returns-in-Err-clause-reads : goal.returns-in-Err-clause-reads
returns-in-Err-clause-reads g c unread =
    let same = c.in-Err.ensures.unread (λ some. unread (c.in-Some.command, c.in-Some.ensures.asked, some)) in
    rw (same.0, same.1) refl
