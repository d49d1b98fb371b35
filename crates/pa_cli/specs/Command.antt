-- The words of a command, and what each command needs.
use Rattle.std.specs.Prelude.{◌≡◌, ℕ, ◌≤◌, Bool, true, false, List, [], ◌∷◌, codes}
use Rattle.pa_text.specs.Numeral.{IsNumeral}
use Rattle.pa_trace.specs.Grammar.{last_version}
use Rattle.pa_trace.specs.Limits.{most_bytes}
use Rattle.pa_audit_input.specs.Input.{most_audited}
use Rattle.pa_cli.specs.declared.command.Command.{Command}
use Rattle.pa_cli.specs.declared.command.Command.TheVariants.{Replay, Model, Delay, Audit, Dangling, Layout, Trace, Gen, Help, Version, Resize, Verdicts}

-- the one word `replay`
abbrev pub IsReplay : List (List ℕ) → Type 0
IsReplay words = words ≡ codes "replay" ∷ []

-- the one word `model`
abbrev pub IsModel : List (List ℕ) → Type 0
IsModel words = words ≡ codes "model" ∷ []

-- the most bytes that may wait in a thread's queue
abbrev pub most_delayed : ℕ
most_delayed = 33554432

-- the word `delay` and how many bytes may wait in a thread's queue, in decimal
abbrev pub IsDelay : ℕ → List (List ℕ) → Type 0
IsDelay bytes words =
    (number : List ℕ) × (words ≡ codes "delay" ∷ number ∷ []) × IsNumeral bytes number × (bytes ≤ most_delayed)

-- the one word `audit`
abbrev pub IsAudit : List (List ℕ) → Type 0
IsAudit words = words ≡ codes "audit" ∷ []

-- the one word `dangling`
abbrev pub IsDangling : List (List ℕ) → Type 0
IsDangling words = words ≡ codes "dangling" ∷ []

-- the one word `resize`
abbrev pub IsResize : List (List ℕ) → Type 0
IsResize words = words ≡ codes "resize" ∷ []

-- the one word `verdicts`
abbrev pub IsVerdicts : List (List ℕ) → Type 0
IsVerdicts words = words ≡ codes "verdicts" ∷ []

-- the word `layout` and a size of 32 bits in decimal
abbrev pub IsLayout : ℕ → List (List ℕ) → Type 0
IsLayout size words =
    (number : List ℕ) × (words ≡ codes "layout" ∷ number ∷ []) × IsNumeral size number × (size ≤ 4294967295)

-- the word, the rounds, 1 to 800, and a key of 64 bits, both in decimal
abbrev pub IsDrawn : List ℕ → ℕ → ℕ → List (List ℕ) → Type 0
IsDrawn word rounds key words =
    (many number : List ℕ) × (words ≡ word ∷ many ∷ number ∷ [])
    × IsNumeral rounds many × (1 ≤ rounds) × (rounds ≤ 800) × IsNumeral key number × (key ≤ 18446744073709551615)

-- the word `trace`, the rounds and a key
abbrev pub IsTrace : ℕ → ℕ → List (List ℕ) → Type 0
IsTrace rounds key words = IsDrawn (codes "trace") rounds key words

-- the word `gen`, the rounds and a key
abbrev pub IsGen : ℕ → ℕ → List (List ℕ) → Type 0
IsGen rounds key words = IsDrawn (codes "gen") rounds key words

-- the one word `--help`
abbrev pub IsHelp : List (List ℕ) → Type 0
IsHelp words = words ≡ codes "--help" ∷ []

-- the one word `--version`
abbrev pub IsVersion : List (List ℕ) → Type 0
IsVersion words = words ≡ codes "--version" ∷ []

-- the words ask for this command
abbrev pub AsksFor : Command → List (List ℕ) → Type 0
AsksFor Replay words = IsReplay words
AsksFor Model words = IsModel words
AsksFor (Delay bytes) words = IsDelay bytes words
AsksFor Audit words = IsAudit words
AsksFor Dangling words = IsDangling words
AsksFor Resize words = IsResize words
AsksFor Verdicts words = IsVerdicts words
AsksFor (Layout size) words = IsLayout size words
AsksFor (Trace rounds key) words = IsTrace rounds key words
AsksFor (Gen rounds key) words = IsGen rounds key words
AsksFor Help words = IsHelp words
AsksFor Version words = IsVersion words

-- some words ask for this command
abbrev pub IsAsked : Command → Type 0
IsAsked command = (words : List (List ℕ)) × AsksFor command words

-- the words are those of one of the commands
abbrev pub IsCommand : List (List ℕ) → Type 0
IsCommand words = (command : Command) × AsksFor command words

-- What a command reads: nothing, the text of a trace of a version up to this one, that of a script, or the text of a trace and after it
-- that of a run.
pub data Reading : Type 0 where
  ReadsNothing : Reading
  ReadsTrace : ℕ → Reading
  ReadsScript : Reading
  ReadsRun : Reading

-- the command reads an input
abbrev pub ReadsSome : Reading → Type 0
ReadsSome ReadsNothing = ⊥
ReadsSome (ReadsTrace known) = Unit {0}
ReadsSome ReadsScript = Unit {0}
ReadsSome ReadsRun = Unit {0}

-- the most bytes that such an input may have
abbrev pub most_read : Reading → ℕ
most_read ReadsNothing = 0
most_read (ReadsTrace known) = most_bytes
most_read ReadsScript = most_bytes
most_read ReadsRun = most_audited

-- What a command needs.
--   reads: what it reads
--   region: it plays in a region, so its call may wait, and has a run and a region if its output is written
--   memory: it takes memory
pub record Needs : Type 0 where
  pub reads : Reading
  pub region : Bool
  pub memory : Bool

-- a command's needs: what it reads, whether it plays in a region, and whether it takes memory
abbrev pub needing : Reading → Bool → Bool → Needs
needing reads region memory = record { reads = reads; region = region; memory = memory }

-- the needs of each command
abbrev pub needs_of : Command → Needs
needs_of Replay = needing (ReadsTrace last_version) true true
needs_of Model = needing (ReadsTrace last_version) false true
needs_of (Delay bytes) = needing (ReadsTrace 1) true true
needs_of Audit = needing ReadsRun false true
needs_of Dangling = needing ReadsRun false true
needs_of Resize = needing ReadsScript false true
needs_of Verdicts = needing ReadsScript false true
needs_of (Layout size) = needing ReadsNothing false false
needs_of (Trace rounds key) = needing ReadsNothing false true
needs_of (Gen rounds key) = needing ReadsNothing true true
needs_of Help = needing ReadsNothing false false
needs_of Version = needing ReadsNothing false false

-- the words are those of a command that reads
abbrev pub AsksToRead : List (List ℕ) → Type 0
AsksToRead words = (command : Command) × AsksFor command words × ReadsSome (needs_of command).reads

-- the words are those of a command that plays in a region
abbrev pub AsksForRegion : List (List ℕ) → Type 0
AsksForRegion words = (command : Command) × AsksFor command words × ((needs_of command).region ≡ true)
