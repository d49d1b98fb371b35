-- When a call has a run and a region.
use Rattle.std.proofs.Common.{◌≡◌, ◌∙◌, ◌↔◌, List, ℕ, Bool, true, false, Option, Some, None, IsSome, inl, inr, refl, sym}
use Rattle.pa_cli.specs.declared.command.Command.{Command}
use Rattle.pa_cli.specs.declared.command.Command.TheVariants.{Replay, Model, Delay, Audit, Dangling, Layout, Gen, Help, Version, Resize, Verdicts}
use Rattle.pa_cli.specs.declared.command.Command.TheVariants as commands
use Rattle.pa_cli.specs.declared.status.Status.{Status}
use Rattle.pa_cli.specs.declared.status.Status.TheVariants.{Done, BadCommand, BadLine, Limit, ReadFault, WriteFault, OutOfMemory, NotLegal}
use Rattle.pa_cli.specs.Call.{Stream, Call}
use Rattle.pa_cli.specs.Command.{AsksFor, AsksForRegion, needs_of}
use Rattle.pa_cli.specs.Output.{Output, output_with, HasNoRun, IsOutputOf, IsOutput}
use Rattle.pa_cli.proofs.Commands.{region_asked}
use Rattle.pa_cli.specs.Cause.{Caused, IsWritten, TellsNoRun, TellsRun}

-- the output has a run and a region, or neither
abbrev RunsBy : Bool → Output → Type 0
RunsBy true out = IsSome out.run × IsSome out.region
RunsBy false out = HasNoRun out.run out.region

is_some : {A : Type 0} (o : Option A) (x : A) → o ≡ Some x → IsSome o
is_some o x e = rw e refl

-- the output of a command that plays in a region has both
runs_by : (command : Command) (before after : Stream) (out : Output) → IsOutputOf command before after out →
    RunsBy (needs_of command).region out
runs_by Replay before after out h = (is_some out.run h.played.run h.played.has_run, is_some out.region h.played.words h.played.has_region)
runs_by Model before after out h = h.1
runs_by (Delay bytes) before after out h =
    (is_some out.run h.played.run h.played.has_run, is_some out.region h.played.words h.played.has_region)
runs_by Audit before after out h = h.1
runs_by Dangling before after out h = h.1
runs_by Resize before after out h = h.1
runs_by Verdicts before after out h = h.1
runs_by (Layout size) before after out h = h.1
runs_by (commands.Trace rounds key) before after out h = h.1
runs_by (Gen rounds key) before after out h = (is_some out.run h.run h.has_run, is_some out.region h.words h.has_region)
runs_by Help before after out h = h.1
runs_by Version before after out h = h.1

is_away : {A P : Type 0} (o : Option A) → o ≡ None → (P → ⊥) → IsSome o ↔ P
is_away o e never = (λ h. absurd cc, λ p. absurd (never p))

-- a call that has neither, and wasn't due to
tells_none : (status : Status) (c : Call) → HasNoRun c.run c.region → ((AsksForRegion c.words × IsWritten status) → ⊥) → TellsRun status c
tells_none status c none never = record { run = is_away c.run none.0 never; region = is_away c.region none.1 never }

-- a call with an output, by whether its command plays in a region
tells_by : (region : Bool) (command : Command) (status : Status) (c : Call) (text : List ℕ) → IsWritten status → AsksFor command c.words
    → (needs_of command).region ≡ region → RunsBy region (output_with text c.run c.region) → TellsRun status c
tells_by true command status c text written asked plays h =
    record { run = (λ _. ((command, asked, plays), written), λ _. h.0); region = (λ _. ((command, asked, plays), written), λ _. h.1) }
tells_by false command status c text written asked plays h =
    tells_none status c h (λ due. let e : true ≡ false = sym (region_asked command c.words asked due.0) ∙ plays in absurd cc)

tells : (status : Status) (c : Call) (text : List ℕ) → IsWritten status → IsOutput c text → TellsRun status c
tells status c text written h =
    tells_by (needs_of h.0).region h.0 status c text written h.1 refl
    (runs_by h.0 c.source c.source_after (output_with text c.run c.region) h.2)

-- a call that wrote nothing
unwritten : (status : Status) → (status ≡ Done → ⊥) → (status ≡ WriteFault → ⊥) → IsWritten status → ⊥
unwritten status done fault (inl e) = done e
unwritten status done fault (inr e) = fault e

tells_nothing : (status : Status) (c : Call) → TellsNoRun status c → (IsWritten status → ⊥) → TellsRun status c
tells_nothing status c none never = tells_none status c (none never) (λ due. never due.1)

-- a call that has its cause returns its run as it should
pub caused_tells : (status : Status) (c : Call) → Caused status c → TellsNoRun status c → TellsRun status c
caused_tells Done c h none = tells Done c h.0 (inl refl) h.1
caused_tells BadCommand c h none = tells_nothing BadCommand c none (unwritten BadCommand (λ e. absurd cc) (λ e. absurd cc))
caused_tells (BadLine n) c h none = tells_nothing (BadLine n) c none (unwritten (BadLine n) (λ e. absurd cc) (λ e. absurd cc))
caused_tells (Limit n) c h none = tells_nothing (Limit n) c none (unwritten (Limit n) (λ e. absurd cc) (λ e. absurd cc))
caused_tells ReadFault c h none = tells_nothing ReadFault c none (unwritten ReadFault (λ e. absurd cc) (λ e. absurd cc))
caused_tells WriteFault c h none = tells WriteFault c h.0 (inr refl) h.1
caused_tells OutOfMemory c h none = tells_nothing OutOfMemory c none (unwritten OutOfMemory (λ e. absurd cc) (λ e. absurd cc))
caused_tells (NotLegal clause n) c h none =
    tells_nothing (NotLegal clause n) c none (unwritten (NotLegal clause n) (λ e. absurd cc) (λ e. absurd cc))
