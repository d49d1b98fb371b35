-- The text of a trace, as a relation by cases on its lines. Numbers are of any length here; the limits are stated apart.
use Rattle.std.specs.Prelude.{◌≡◌, ℕ, Bool, true, false, nat_le, ◌<◌, ◌≤◌, List, [], ◌∷◌, ◌++◌, codes}
use Rattle.pa_text.specs.Numeral.{IsNumeral}
use Rattle.pa_text.specs.Hex.{hex}
use Rattle.pa_trace.specs.declared.line.Head.{Head}
use Rattle.pa_trace.specs.declared.script.Trace.{Trace}
use Rattle.pa_trace.specs.declared.script.Line.{Line}
use Rattle.pa_trace.specs.declared.script.Line.TheVariants.{Phase, Do}
use Rattle.pa_trace.specs.declared.script.Op.{Op}
use Rattle.pa_trace.specs.declared.script.Op.TheVariants.{Alloc, Copy, Reset, Free, Write, Read, Swap, Purge}

-- `A rI pJ SIZE`, `C rI rJ`, `R rI`, `F rI`, `W rI VALUE` with sixteen hexadecimal digits, `D rI K`, `X cK rI`, `P`
abbrev pub IsOpText : Op → List ℕ → Type 0
IsOpText (Alloc reg partition size) text =
    (i j k : List ℕ) × IsNumeral reg i × IsNumeral partition j × IsNumeral size k
    × (text ≡ codes "A r" ++ i ++ codes " p" ++ j ++ codes " " ++ k)
IsOpText (Copy from to) text = (i j : List ℕ) × IsNumeral from i × IsNumeral to j × (text ≡ codes "C r" ++ i ++ codes " r" ++ j)
IsOpText (Reset reg) text = (i : List ℕ) × IsNumeral reg i × (text ≡ codes "R r" ++ i)
IsOpText (Free reg) text = (i : List ℕ) × IsNumeral reg i × (text ≡ codes "F r" ++ i)
IsOpText (Write reg value) text =
    (i : List ℕ) × IsNumeral reg i × (value < 18446744073709551616) × (text ≡ codes "W r" ++ i ++ codes " " ++ hex 16 value)
IsOpText (Read reg place) text = (i k : List ℕ) × IsNumeral reg i × IsNumeral place k × (text ≡ codes "D r" ++ i ++ codes " " ++ k)
IsOpText (Swap cell reg) text = (k i : List ℕ) × IsNumeral cell k × IsNumeral reg i × (text ≡ codes "X c" ++ k ++ codes " r" ++ i)
IsOpText Purge text = text ≡ codes "P"

-- `phase`, or `T OP`
abbrev pub IsLineText : Line → List ℕ → Type 0
IsLineText Phase text = text ≡ codes "phase"
IsLineText (Do thread op) text = (t o : List ℕ) × IsNumeral thread t × IsOpText op o × (text ≡ t ++ codes " " ++ o)

-- the lines, each ended by an LF
abbrev pub AreLinesText : List Line → List ℕ → Type 0
AreLinesText [] text = text ≡ []
AreLinesText (l ∷ ls) text = (first rest : List ℕ) × IsLineText l first × AreLinesText ls rest × (text ≡ first ++ 10 ∷ rest)

-- the last version of traces
abbrev pub last_version : ℕ
last_version = 3

-- a version of traces, up to this one
abbrev pub IsVersionTo : ℕ → ℕ → Type 0
IsVersionTo last version = (1 ≤ version) × (version ≤ last)

-- the head of this version tells how many partitions are plain: that is, without reference counts
abbrev pub tells_plain : ℕ → Bool
tells_plain version = nat_le 3 version

-- the head of a trace
abbrev pub head_of_trace : Trace → Head
head_of_trace t = record { version = t.version; region = t.region; partitions = t.partitions; threads = t.threads; plain = t.plain }

-- ` plain Q` where the head tells how many partitions are plain, else nothing, and none is
abbrev pub IsPlainText : Bool → ℕ → List ℕ → Type 0
IsPlainText true plain text = (q : List ℕ) × IsNumeral plain q × (text ≡ codes " plain " ++ q)
IsPlainText false plain text = (plain ≡ 0) × (text ≡ [])

-- of a head that doesn't tell how many partitions are plain, none is
abbrev pub IsToldPlain : Head → Type 0
IsToldPlain h = tells_plain h.version ≡ false → h.plain ≡ 0

-- `trace V region N partitions P threads T`, and from version 3 on ` plain Q`
abbrev pub IsHeadText : Head → List ℕ → Type 0
IsHeadText h text =
    (v n p t q : List ℕ) × IsNumeral h.version v × IsNumeral h.region n × IsNumeral h.partitions p × IsNumeral h.threads t
    × IsPlainText (tells_plain h.version) h.plain q
    × (text ≡ codes "trace " ++ v ++ codes " region " ++ n ++ codes " partitions " ++ p ++ codes " threads " ++ t ++ q)

-- the head, ended by an LF, and the lines, of a trace of one of the versions
abbrev pub IsTraceText : Trace → List ℕ → Type 0
IsTraceText t text =
    (head rest : List ℕ) × IsHeadText (head_of_trace t) head × AreLinesText t.lines rest × (text ≡ head ++ 10 ∷ rest)
    × IsVersionTo last_version t.version

-- two traces are the same, compared by their heads and lines
pub record IsSameTrace (s t : Trace) : Type 0 where
  pub version : s.version ≡ t.version
  pub region : s.region ≡ t.region
  pub partitions : s.partitions ≡ t.partitions
  pub threads : s.threads ≡ t.threads
  pub plain : s.plain ≡ t.plain
  pub lines : s.lines ≡ t.lines
