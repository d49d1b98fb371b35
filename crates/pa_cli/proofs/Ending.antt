-- What a status and its cause imply if the input is good, if it is faulty, and if nothing is read.
use Rattle.std.proofs.Common.{arith, ◌≡◌, ◌∙◌, ◌≤◌, ℕ, List, Option, Some, None, IfSome, inl, inr, refl, sym, ap, subst}
use Rattle.pa_io.specs.Moves.{IsAllOf}
use Rattle.pa_trace.specs.declared.fault.TraceFault.{TraceFault}
use Rattle.pa_trace.specs.declared.fault.TraceFault.TheVariants as faults
use Rattle.pa_trace.specs.declared.script.Trace.{Trace}
use Rattle.pa_trace.specs.Grammar.{last_version}
use Rattle.pa_trace.specs.Limits.{IsInput}
use Rattle.pa_trace.proofs.Firsts.{one_fault, no_fault_of_input}
use Rattle.pa_script.specs.Limits.{IsScriptInput}
use Rattle.pa_rules.specs.declared.verdict.Clause.{Clause}
use Rattle.pa_rules.specs.declared.verdict.Verdict.{Verdict}
use Rattle.pa_rules.specs.declared.verdict.Verdict.TheVariants.{Legal, Broken}
use Rattle.pa_audit_input.specs.Input.{IsAudited}
use Rattle.pa_audit_input.specs.Judged.{IsLegalInput, IsRefutedInput, IsVerdictOn}
use Rattle.pa_audit_input.proofs.Parting.{no_audit_fault, one_audit_fault}
use Rattle.pa_audit_input.proofs.Together.{legal_input}
use Rattle.pa_cli.specs.declared.command.Command.{Command}
use Rattle.pa_cli.specs.declared.command.Command.TheVariants.{Replay, Model, Delay, Audit, Dangling, Layout, Gen, Help, Version, Resize, Verdicts}
use Rattle.pa_cli.specs.declared.command.Command.TheVariants as commands
use Rattle.pa_cli.specs.declared.status.Status.{Status}
use Rattle.pa_cli.specs.declared.status.Status.TheVariants.{Done, BadCommand, BadLine, Limit, ReadFault, WriteFault, OutOfMemory, NotLegal}
use Rattle.pa_cli.specs.Call.{Stream, Call}
use Rattle.pa_cli.specs.Command.{AsksFor, Reading, ReadsNothing, ReadsTrace, ReadsRun, ReadsSome, Needs, needs_of, ReadsScript}
use Rattle.pa_cli.specs.Output.{Output, output_with, IsTraceRead, IsOutputOf, IsOutput}
use Rattle.pa_cli.specs.Cause.{IsFaulty, HasFault, IsRefuted, IsInputFor, Caused, Answers, Completes, Judges, Refuses}
use Rattle.pa_cli.specs.StatusText.{status_of_trace, status_of_verdict}
use Rattle.pa_cli.proofs.Commands.{one_needs}
use Rattle.pa_cli.proofs.Judging.{one_judgement}
use Rattle.pa_script.proofs.Firsts.{one_script_fault, no_script_fault}

-- what holds of all bytes that the source exposes, if they are these
told_these : (P : List ℕ → Type 0) (told : Option (List ℕ)) (bytes : List ℕ) → told ≡ Some bytes → IfSome told P → P bytes
told_these P None bytes e h = absurd cc
told_these P (Some left) bytes e h = let same : left ≡ bytes = cc in subst P same h

-- if the source exposed these bytes and all of them were read, what was read is these bytes
read_these : (told : Option (List ℕ)) (bytes read : List ℕ) → told ≡ Some bytes → IsAllOf told read → read ≡ bytes
read_these None bytes read e h = absurd cc
read_these (Some left) bytes read e h = let same : left ≡ bytes = cc in sym h ∙ same

-- an input has no fault
clean : (reads : Reading) (bytes : List ℕ) (fault : TraceFault) → IsInputFor reads bytes → IsFaulty reads fault bytes → ⊥
clean ReadsNothing bytes fault input h = input
clean (ReadsTrace known) bytes fault input h = no_fault_of_input known input.0 bytes fault input.2 input.1 h
clean ReadsScript bytes fault input h = no_script_fault input.0 bytes fault input.1 h
clean ReadsRun bytes fault input h = no_audit_fault input.0 input.1 input.2 bytes fault input.3 h

-- bytes have one fault
one_of : (reads : Reading) (bytes : List ℕ) (fault other : TraceFault) → IsFaulty reads fault bytes →
    IsFaulty reads other bytes → fault ≡ other
one_of ReadsNothing bytes fault other h k = absurd h
one_of (ReadsTrace known) bytes fault other h k = one_fault known fault other bytes h k
one_of ReadsScript bytes fault other h k = one_script_fault fault other bytes h k
one_of ReadsRun bytes fault other h k = one_audit_fault fault other bytes h k

-- what has a fault is read
fault_read : (reads : Reading) (bytes : List ℕ) (fault : TraceFault) → IsFaulty reads fault bytes → ReadsSome reads
fault_read ReadsNothing bytes fault h = h
fault_read (ReadsTrace known) bytes fault h = tt
fault_read ReadsScript bytes fault h = tt
fault_read ReadsRun bytes fault h = tt

-- the fault of a call, by what another command needs for which the same words ask
fault_of : (of other : Needs) (fault : TraceFault) (before after : Stream) → of ≡ other → HasFault other.reads fault before after
    → HasFault of.reads fault before after
fault_of of other fault before after same h = subst (λ (x : Needs). HasFault x.reads fault before after) (sym same) h

-- an input has no fault of a call
no_fault : (bytes : List ℕ) (of other : Needs) (fault : TraceFault) (before after : Stream) → of ≡ other → before.told ≡ Some bytes
    → IsInputFor of.reads bytes → HasFault other.reads fault before after → ⊥
no_fault bytes of other fault before after same told input h =
    clean of.reads bytes fault input
    (told_these (IsFaulty of.reads fault) before.told bytes told (fault_of of other fault before after same h).told)

-- of what reads nothing, nothing is read
never_read : (of other : Needs) → of ≡ other → of.reads ≡ ReadsNothing → ReadsSome other.reads → ⊥
never_read of other same none h = subst ReadsSome (ap (λ (x : Needs). x.reads) (sym same) ∙ none) h

-- a good input leads to Done, or of a run to NotLegal, or memory has run out
pub caused_completes : (status : Status) (c : Call) → Caused status c → Completes status c
caused_completes Done c h = λ bytes command words told input calm quiet. inl refl
caused_completes BadCommand c h = λ bytes command words told input calm quiet. absurd (h.0 (command, words))
caused_completes (BadLine n) c h = λ bytes command words told input calm quiet.
    absurd (no_fault bytes (needs_of command) (needs_of h.0.0) (faults.BadLine n) c.source c.source_after
    (one_needs command h.0.0 c.words words h.0.1) told input h.0.2.1)
caused_completes (Limit n) c h = λ bytes command words told input calm quiet.
    absurd (no_fault bytes (needs_of command) (needs_of h.0.0) (faults.Limit n) c.source c.source_after
    (one_needs command h.0.0 c.words words h.0.1) told input h.0.2.1)
caused_completes ReadFault c h = λ bytes command words told input calm quiet. absurd (calm h.0.2.1.risen)
caused_completes WriteFault c h = λ bytes command words told input calm quiet. absurd (quiet h.2)
caused_completes OutOfMemory c h = λ bytes command words told input calm quiet. inr (inl refl)
caused_completes (NotLegal clause n) c h = λ bytes command words told input calm quiet.
    let same = one_needs command h.0.0 c.words words h.0.1 in
    inr (inr (ap (λ (x : Needs). x.reads) same ∙ h.0.2.0, clause, n, refl))

-- a command that reads nothing leads to Done, or takes memory
pub caused_answers : (status : Status) (c : Call) → Caused status c → Answers status c
caused_answers Done c h = λ command words none quiet. inl refl
caused_answers BadCommand c h = λ command words none quiet. absurd (h.0 (command, words))
caused_answers (BadLine n) c h = λ command words none quiet.
    absurd (never_read (needs_of command) (needs_of h.0.0) (one_needs command h.0.0 c.words words h.0.1) none h.0.2.0)
caused_answers (Limit n) c h = λ command words none quiet.
    absurd (never_read (needs_of command) (needs_of h.0.0) (one_needs command h.0.0 c.words words h.0.1) none h.0.2.0)
caused_answers ReadFault c h = λ command words none quiet.
    absurd (never_read (needs_of command) (needs_of h.0.0) (one_needs command h.0.0 c.words words h.0.1) none h.0.2.0)
caused_answers WriteFault c h = λ command words none quiet. absurd (quiet h.2)
caused_answers OutOfMemory c h = λ command words none quiet.
    let same = one_needs command h.0.0 c.words words h.0.1 in
    inr (refl, ap (λ (x : Needs). x.memory) same ∙ h.0.2.0)
caused_answers (NotLegal clause n) c h = λ command words none quiet.
    let read : ReadsSome (needs_of h.0.0).reads = subst ReadsSome (sym h.0.2.0) tt in
    absurd (never_read (needs_of command) (needs_of h.0.0) (one_needs command h.0.0 c.words words h.0.1) none read)

-- a trace that was read, of a version up to this one, is an input
read_input : (t : Trace) (known : ℕ) (bytes : List ℕ) (before after : Stream) → before.told ≡ Some bytes → IsTraceRead t before after
    → t.version ≤ known → IsInputFor (ReadsTrace known) bytes
read_input t known bytes before after told h recent =
    (t, subst (IsInput t) (read_these before.told bytes h.bytes told h.read.all) h.input, recent)

-- a command with an output had an input
output_input : (command : Command) (bytes : List ℕ) (before after : Stream) (out : Output) →
    ReadsSome (needs_of command).reads → before.told ≡ Some bytes
    → IsOutputOf command before after out → IsInputFor (needs_of command).reads bytes
output_input Replay bytes before after out reads told h =
    read_input h.trace last_version bytes before after told h.read h.read.input.limits.version.1
output_input Model bytes before after out reads told h =
    read_input h.0.trace last_version bytes before after told h.0.read h.0.read.input.limits.version.1
output_input (Delay most) bytes before after out reads told h =
    let recent : h.trace.version ≤ 1 = omega (arith, h.version) in read_input h.trace 1 bytes before after told h.read recent
output_input Audit bytes before after out reads told h =
    let input = h.0.legal in (
      input.trace,
      input.run,
      input.lines,
      subst (IsAudited input.trace input.run input.lines) (read_these before.told bytes h.0.bytes told h.0.read.all) input.input,
    )
output_input Dangling bytes before after out reads told h =
    let legal = h.0.legal in (
      h.0.trace,
      h.0.run,
      legal.lines,
      subst (IsAudited h.0.trace h.0.run legal.lines) (read_these before.told bytes h.0.bytes told h.0.read.all) legal.input,
    )
output_input Resize bytes before after out reads told h =
    (h.0.script, subst (IsScriptInput h.0.script) (read_these before.told bytes h.0.read.bytes told h.0.read.read.all) h.0.read.input)
output_input Verdicts bytes before after out reads told h =
    (h.0.script, subst (IsScriptInput h.0.script) (read_these before.told bytes h.0.read.bytes told h.0.read.read.all) h.0.read.input)
output_input (Layout size) bytes before after out reads told h = absurd reads
output_input (commands.Trace rounds key) bytes before after out reads told h = absurd reads
output_input (Gen rounds key) bytes before after out reads told h = absurd reads
output_input Help bytes before after out reads told h = absurd reads
output_input Version bytes before after out reads told h = absurd reads

-- a faulty input has no output
no_output : (bytes : List ℕ) (command : Command) (fault : TraceFault) (c : Call) (text : List ℕ) →
    AsksFor command c.words → c.source.told ≡ Some bytes
    → IsFaulty (needs_of command).reads fault bytes → IsOutput c text → ⊥
no_output bytes command fault c text words told first h =
    let same = one_needs command h.0 c.words words h.1 in
    let faulty : IsFaulty (needs_of h.0).reads fault bytes = subst (λ (x : Needs). IsFaulty x.reads fault bytes) same first in
    let reads = fault_read (needs_of h.0).reads bytes fault faulty in
    clean (needs_of h.0).reads bytes fault
    (output_input h.0 bytes c.source c.source_after (output_with text c.run c.region) reads told h.2) faulty

-- two first faults of the same bytes have one status
same_status : (bytes : List ℕ) (of other : Needs) (fault found : TraceFault) (before after : Stream) → of ≡ other → before.told ≡ Some bytes
    → IsFaulty of.reads fault bytes → HasFault other.reads found before after → status_of_trace found ≡ status_of_trace fault
same_status bytes of other fault found before after same told first h =
    let also = fault_of of other found before after same h in
    ap status_of_trace (one_of of.reads bytes found fault (told_these (IsFaulty of.reads found) before.told bytes told also.told) first)

-- a run that isn't legal was read from an input
refuted_input : (bytes : List ℕ) (clause : Clause) (n : ℕ) (before after : Stream) → before.told ≡ Some bytes →
    IsRefuted clause n before after
    → IsInputFor ReadsRun bytes
refuted_input bytes clause n before after told h =
    let input = h.refuted in (
      input.trace,
      input.run,
      input.lines,
      subst (IsAudited input.trace input.run input.lines) (read_these before.told bytes h.bytes told h.read.all) input.input,
    )

-- a faulty input leads to the status of its fault or to OutOfMemory
pub caused_refuses : (status : Status) (c : Call) → Caused status c → Refuses status c
caused_refuses Done c h = λ bytes fault command words told first calm. absurd (no_output bytes command fault c h.0 words told first h.1)
caused_refuses BadCommand c h = λ bytes fault command words told first calm. absurd (h.0 (command, words))
caused_refuses (BadLine n) c h = λ bytes fault command words told first calm.
    inl (same_status bytes (needs_of command) (needs_of h.0.0) fault (faults.BadLine n) c.source c.source_after
    (one_needs command h.0.0 c.words words h.0.1) told first h.0.2.1)
caused_refuses (Limit n) c h = λ bytes fault command words told first calm.
    inl (same_status bytes (needs_of command) (needs_of h.0.0) fault (faults.Limit n) c.source c.source_after
    (one_needs command h.0.0 c.words words h.0.1) told first h.0.2.1)
caused_refuses ReadFault c h = λ bytes fault command words told first calm. absurd (calm h.0.2.1.risen)
caused_refuses WriteFault c h =
    λ bytes fault command words told first calm. absurd (no_output bytes command fault c h.0 words told first h.1)
caused_refuses OutOfMemory c h = λ bytes fault command words told first calm. inr refl
caused_refuses (NotLegal clause n) c h = λ bytes fault command words told first calm.
    let same = ap (λ (x : Needs). x.reads) (one_needs command h.0.0 c.words words h.0.1) ∙ h.0.2.0 in
    let faulty : IsFaulty ReadsRun fault bytes = subst (λ (x : Reading). IsFaulty x fault bytes) same first in
    absurd (clean ReadsRun bytes fault (refuted_input bytes clause n c.source c.source_after told h.0.2.1) faulty)

-- bytes with a verdict are an input
verdict_input : (bytes : List ℕ) (verdict : Verdict) → IsVerdictOn verdict bytes → IsInputFor ReadsRun bytes
verdict_input bytes Legal h = (h.trace, h.run, h.lines, h.input)
verdict_input bytes (Broken clause n) h = (h.trace, h.run, h.lines, h.input)

-- what a command printed that reads a run is of a legal one
output_legal : (command : Command) (bytes : List ℕ) (before after : Stream) (out : Output) →
    (needs_of command).reads ≡ ReadsRun → before.told ≡ Some bytes
    → IsOutputOf command before after out → IsLegalInput bytes
output_legal Replay bytes before after out reads told h = absurd cc
output_legal Model bytes before after out reads told h = absurd cc
output_legal (Delay most) bytes before after out reads told h = absurd cc
output_legal Audit bytes before after out reads told h =
    subst IsLegalInput (read_these before.told bytes h.0.bytes told h.0.read.all) h.0.legal
output_legal Dangling bytes before after out reads told h =
    subst IsLegalInput (read_these before.told bytes h.0.bytes told h.0.read.all) (legal_input h.0.trace h.0.run h.0.bytes h.0.legal)
output_legal Resize bytes before after out reads told h = absurd cc
output_legal Verdicts bytes before after out reads told h = absurd cc
output_legal (Layout size) bytes before after out reads told h = absurd cc
output_legal (commands.Trace rounds key) bytes before after out reads told h = absurd cc
output_legal (Gen rounds key) bytes before after out reads told h = absurd cc
output_legal Help bytes before after out reads told h = absurd cc
output_legal Version bytes before after out reads told h = absurd cc

legal_output : (bytes : List ℕ) (command : Command) (c : Call) (text : List ℕ) → AsksFor command c.words →
    (needs_of command).reads ≡ ReadsRun
    → c.source.told ≡ Some bytes → IsOutput c text → IsVerdictOn Legal bytes
legal_output bytes command c text asked reads told h =
    output_legal h.0 bytes c.source c.source_after (output_with text c.run c.region)
    (ap (λ (x : Needs). x.reads) (one_needs h.0 command c.words h.1 asked) ∙ reads) told h.2

-- bytes with a verdict are what a command reads that reads a run
judged_input : (bytes : List ℕ) (command : Command) (verdict : Verdict) → (needs_of command).reads ≡ ReadsRun → IsVerdictOn verdict bytes
    → IsInputFor (needs_of command).reads bytes
judged_input bytes command verdict reads h = subst (λ (x : Reading). IsInputFor x bytes) (sym reads) (verdict_input bytes verdict h)

-- a verdict leads to its status or to OutOfMemory
pub caused_judges : (status : Status) (c : Call) → Caused status c → Judges status c
caused_judges Done c h = λ bytes verdict command asked reads told right calm quiet.
    inl (ap status_of_verdict (one_judgement bytes Legal verdict (legal_output bytes command c h.0 asked reads told h.1) right))
caused_judges BadCommand c h = λ bytes verdict command asked reads told right calm quiet. absurd (h.0 (command, asked))
caused_judges (BadLine n) c h = λ bytes verdict command asked reads told right calm quiet.
    let same = one_needs command h.0.0 c.words asked h.0.1 in
    absurd (no_fault bytes (needs_of command) (needs_of h.0.0) (faults.BadLine n) c.source c.source_after same told
    (judged_input bytes command verdict reads right) h.0.2.1)
caused_judges (Limit n) c h = λ bytes verdict command asked reads told right calm quiet.
    let same = one_needs command h.0.0 c.words asked h.0.1 in
    absurd (no_fault bytes (needs_of command) (needs_of h.0.0) (faults.Limit n) c.source c.source_after same told
    (judged_input bytes command verdict reads right) h.0.2.1)
caused_judges ReadFault c h = λ bytes verdict command asked reads told right calm quiet. absurd (calm h.0.2.1.risen)
caused_judges WriteFault c h = λ bytes verdict command asked reads told right calm quiet. absurd (quiet h.2)
caused_judges OutOfMemory c h = λ bytes verdict command asked reads told right calm quiet. inr refl
caused_judges (NotLegal clause n) c h = λ bytes verdict command asked reads told right calm quiet.
    let refuted = h.0.2.1 in
    let found : IsVerdictOn (Broken clause n) bytes =
    subst (IsRefutedInput clause n) (read_these c.source.told bytes refuted.bytes told refuted.read.all) refuted.refuted in
    inl (ap status_of_verdict (one_judgement bytes (Broken clause n) verdict found right))
