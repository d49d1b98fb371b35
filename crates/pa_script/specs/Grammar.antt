-- The text of a script: that of a trace of version 1, with one op more and another first word. Numbers are of any length here.
use Rattle.std.specs.Prelude.{◌≡◌, ℕ, List, [], ◌∷◌, ◌++◌, codes}
use Rattle.pa_text.specs.Numeral.{IsNumeral}
use Rattle.pa_trace.specs.Grammar.{IsLineText}
use Rattle.pa_script.specs.declared.script.Script.{Script}
use Rattle.pa_script.specs.declared.script.ScriptLine.{ScriptLine}
use Rattle.pa_script.specs.declared.script.ScriptLine.TheVariants.{Plain, Resize}

-- a line of a trace, or `T S rI SIZE`
abbrev pub IsScriptLineText : ScriptLine → List ℕ → Type 0
IsScriptLineText (Plain l) text = IsLineText l text
IsScriptLineText (Resize thread reg size) text =
    (t i k : List ℕ) × IsNumeral thread t × IsNumeral reg i × IsNumeral size k × (text ≡ t ++ codes " S r" ++ i ++ codes " " ++ k)

-- the lines, each ended by an LF
abbrev pub AreScriptLinesText : List ScriptLine → List ℕ → Type 0
AreScriptLinesText [] text = text ≡ []
AreScriptLinesText (l ∷ ls) text =
    (first rest : List ℕ) × IsScriptLineText l first × AreScriptLinesText ls rest × (text ≡ first ++ 10 ∷ rest)

-- `script 1 region N partitions P threads T`
abbrev pub IsScriptHeadText : ℕ → ℕ → ℕ → List ℕ → Type 0
IsScriptHeadText region partitions threads text =
    (n p t : List ℕ) × IsNumeral region n × IsNumeral partitions p × IsNumeral threads t
    × (text ≡ codes "script 1 region " ++ n ++ codes " partitions " ++ p ++ codes " threads " ++ t)

-- the head, ended by an LF, and the lines
abbrev pub IsScriptText : Script → List ℕ → Type 0
IsScriptText s text =
    (head rest : List ℕ) × IsScriptHeadText s.region s.partitions s.threads head × AreScriptLinesText s.lines rest
    × (text ≡ head ++ 10 ∷ rest)
