-- What the answers say of each other: who is told of a broken clause, and that a fault of the source comes first.
use Rattle.std.proofs.Common.{arith, ◌≡◌, ◌∙◌, ◌<◌, ◌⊎◌, ℕ, List, inl, inr, refl, ap, sym, subst}
use Rattle.pa_cli.specs.declared.command.Command.{Command}
use Rattle.pa_cli.specs.declared.command.Command.TheVariants.{Replay, Model, Delay, Audit, Dangling, Layout, Trace, Gen, Help, Version, Resize, Verdicts}
use Rattle.pa_cli.specs.declared.status.Status.{Status}
use Rattle.pa_cli.specs.declared.status.Status.TheVariants.{Done, BadCommand, BadLine, Limit, ReadFault, WriteFault, OutOfMemory, NotLegal}
use Rattle.pa_cli.specs.Call.{Stream, Call}
use Rattle.pa_cli.specs.Command.{ReadsNothing, ReadsRun, ReadsSome, Needs, needs_of, most_read, AsksFor, AsksToRead}
use Rattle.pa_cli.specs.Output.{Output, output_with, IsOutputOf, IsOutput}
use Rattle.pa_cli.specs.Cause.{ReadsForInput}
use Rattle.pa_cli.specs.Laws.{OnlyAuditRefutes, AReadFaultComesFirst}
use Rattle.pa_cli.proofs.Commands.{one_needs}
use Rattle.pa_cli.proofs.Refusing.{read_stopped}

-- the commands that read a run
read_runs : (command : Command) → (needs_of command).reads ≡ ReadsRun → (command ≡ Audit) ⊎ (command ≡ Dangling)
read_runs Replay h = absurd cc
read_runs Model h = absurd cc
read_runs (Delay bytes) h = absurd cc
read_runs Audit h = inl refl
read_runs Dangling h = inr refl
read_runs Resize h = absurd cc
read_runs Verdicts h = absurd cc
read_runs (Layout size) h = absurd cc
read_runs (Trace rounds key) h = absurd cc
read_runs (Gen rounds key) h = absurd cc
read_runs Help h = absurd cc
read_runs Version h = absurd cc

reads_same : (command other : Command) (words : List (List ℕ)) → AsksFor command words → AsksFor other words
    → (needs_of command).reads ≡ (needs_of other).reads
reads_same command other words asked also = ap (λ (x : Needs). x.reads) (one_needs command other words asked also)

pub only_refuted : OnlyAuditRefutes
only_refuted clause n c command right asked =
    let h = right.cause.0 in read_runs command (reads_same command h.0 c.words asked h.1 ∙ h.2.0)

-- words that ask for a command that reads nothing don't ask for one that reads
none_read : (command : Command) (words : List (List ℕ)) → AsksFor command words →
    (needs_of command).reads ≡ ReadsNothing → AsksToRead words → ⊥
none_read command words asked none h = subst ReadsSome (sym (reads_same command h.0 words asked h.1) ∙ none) h.2

-- a command that reads nothing leaves the count of faults as it was
nothing_read : (command : Command) (c : Call) → AsksFor command c.words → (needs_of command).reads ≡ ReadsNothing → ReadsForInput c
    → c.source_after.faults ≡ c.source.faults
nothing_read command c asked none reads = ap (λ (s : Stream). s.faults) (reads (none_read command c.words asked none))

-- whoever has an output had no fault of the source
output_calm : (command : Command) (c : Call) (out : Output) → AsksFor command c.words →
    IsOutputOf command c.source c.source_after out → ReadsForInput c
    → c.source_after.faults ≡ c.source.faults
output_calm Replay c out asked h reads = h.read.read.calm
output_calm Model c out asked h reads = h.0.read.read.calm
output_calm (Delay bytes) c out asked h reads = h.read.read.calm
output_calm Audit c out asked h reads = h.0.read.calm
output_calm Dangling c out asked h reads = h.0.read.calm
output_calm Resize c out asked h reads = h.0.read.read.calm
output_calm Verdicts c out asked h reads = h.0.read.read.calm
output_calm (Layout size) c out asked h reads = nothing_read (Layout size) c asked refl reads
output_calm (Trace rounds key) c out asked h reads = nothing_read (Trace rounds key) c asked refl reads
output_calm (Gen rounds key) c out asked h reads = nothing_read (Gen rounds key) c asked refl reads
output_calm Help c out asked h reads = nothing_read Help c asked refl reads
output_calm Version c out asked h reads = nothing_read Version c asked refl reads

written_calm : (c : Call) (text : List ℕ) → IsOutput c text → ReadsForInput c → c.source_after.faults ≡ c.source.faults
written_calm c text h reads = output_calm h.0 c (output_with text c.run c.region) h.1 h.2 reads

-- a count that rose isn't as it was
rose : (status : Status) (before after : Stream) → after.faults ≡ before.faults → before.faults < after.faults → status ≡ ReadFault
rose status before after calm risen = absurd (omega (arith, calm, risen))

pub read_fault_first : AReadFaultComesFirst
read_fault_first Done c right risen =
    let h = right.cause in rose Done c.source c.source_after (written_calm c h.0 h.1 right.reads) risen
read_fault_first BadCommand c right risen =
    let h = right.cause in rose BadCommand c.source c.source_after (ap (λ (s : Stream). s.faults) h.1) risen
read_fault_first (BadLine n) c right risen =
    let h = right.cause.0 in
    let f = h.2.1 in
    rose (BadLine n) c.source c.source_after
    (read_stopped (most_read (needs_of h.0).reads) f.bytes c.source c.source_after f.read).calm risen
read_fault_first (Limit n) c right risen =
    let h = right.cause.0 in
    let f = h.2.1 in
    rose (Limit n) c.source c.source_after (read_stopped (most_read (needs_of h.0).reads) f.bytes c.source c.source_after f.read).calm risen
read_fault_first ReadFault c right risen = refl
read_fault_first WriteFault c right risen =
    let h = right.cause in rose WriteFault c.source c.source_after (written_calm c h.0 h.1 right.reads) risen
read_fault_first OutOfMemory c right risen = let h = right.cause.0 in rose OutOfMemory c.source c.source_after h.2.1.calm risen
read_fault_first (NotLegal clause n) c right risen =
    let h = right.cause.0 in rose (NotLegal clause n) c.source c.source_after h.2.1.read.calm risen
