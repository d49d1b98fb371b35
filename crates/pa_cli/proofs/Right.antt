-- A status with its cause is a right call.
use Rattle.std.proofs.Common.{◌≡◌, ℕ, List, Option, None, sym, subst}
use Rattle.pa_cli.specs.declared.status.Status.{Status}
use Rattle.pa_record.specs.declared.run.Run.{Run}
use Rattle.pa_cli.specs.declared.status.Status.TheVariants.{Done, BadCommand, BadLine, Limit, ReadFault, WriteFault, OutOfMemory, NotLegal}
use Rattle.pa_cli.specs.declared.command.Command.{Command}
use Rattle.pa_cli.specs.Command.{AsksFor, needs_of}
use Rattle.pa_cli.specs.Call.{Stream, Call, call_of, KeepsSink}
use Rattle.pa_cli.specs.Output.{HasNoRun}
use Rattle.pa_cli.specs.Cause.{IsRefusal, Caused, ReadsForInput, TellsNoRun, IsRightCall}
use Rattle.pa_cli.proofs.Ending.{caused_answers, caused_completes, caused_judges, caused_refuses}
use Rattle.pa_cli.proofs.Running.{caused_tells}

-- a command that has no output, for this reason, ends with this status
pub refused_caused : (status : Status) (command : Command) (c : Call) → AsksFor command c.words →
    IsRefusal status (needs_of command) c.source c.source_after
    → KeepsSink c → Caused status c
refused_caused Done command c asked h sink = absurd h
refused_caused BadCommand command c asked h sink = absurd h
refused_caused (BadLine n) command c asked h sink = ((command, asked, h), sink)
refused_caused (Limit n) command c asked h sink = ((command, asked, h), sink)
refused_caused ReadFault command c asked h sink = ((command, asked, h), sink)
refused_caused WriteFault command c asked h sink = absurd h
refused_caused OutOfMemory command c asked h sink = ((command, asked, h), sink)
refused_caused (NotLegal clause n) command c asked h sink = ((command, asked, h), sink)

pub right_call : (status : Status) (c : Call) → Caused status c → ReadsForInput c → TellsNoRun status c → IsRightCall status c
right_call status c cause reads none = record {
  cause = cause;
  reads = reads;
  answers = caused_answers status c cause;
  completes = caused_completes status c cause;
  judges = caused_judges status c cause;
  refuses = caused_refuses status c cause;
  run = caused_tells status c cause none;
}

-- a call that returns the same status, with no run and no region, is right too
pub alone_right : (status other : Status) (words : List (List ℕ)) (source source_after sink sink_after : Stream) (run : Option Run)
    (region : Option (List ℕ))
    → IsRightCall status (call_of words source source_after sink sink_after None None) → other ≡ status → HasNoRun run region
    → IsRightCall other (call_of words source source_after sink sink_after run region)
alone_right status other words source source_after sink sink_after run region right same none =
    let with_run : IsRightCall status (call_of words source source_after sink sink_after run None) =
    subst (λ (x : Option Run). IsRightCall status (call_of words source source_after sink sink_after x None)) (sym none.0) right in
    let with_region : IsRightCall status (call_of words source source_after sink sink_after run region) =
    subst (λ (x : Option (List ℕ)). IsRightCall status (call_of words source source_after sink sink_after run x)) (sym none.1) with_run in
    subst (λ (x : Status). IsRightCall x (call_of words source source_after sink sink_after run region)) (sym same) with_region
