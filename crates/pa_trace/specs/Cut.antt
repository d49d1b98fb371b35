-- What the parts of the reader and the writer say of lines.
use Rattle.std.specs.Prelude.{◌≡◌, ℕ, ◌++◌, List}
use Rattle.std.specs.List.{AllByRecursion}
use Rattle.pa_trace.specs.declared.fault.TraceFault.{TraceFault}
use Rattle.pa_trace.specs.declared.fault.TraceFault.TheVariants.{BadLine, Limit}
use Rattle.pa_trace.specs.declared.field.LineFault.{LineFault}
use Rattle.pa_trace.specs.declared.field.LineFault.TheVariants.{Outside, Past}

-- no LF is among the bytes
abbrev pub IsOneLine : List ℕ → Type 0
IsOneLine bytes = AllByRecursion (λ b. b ≡ 10 → ⊥) bytes

-- how the fault of line n is reported, if the line isn't past the limits
abbrev pub told : ℕ → LineFault → TraceFault
told n Outside = BadLine n
told n Past = Limit n

-- new is old followed by a text of this kind
abbrev pub Appends : (List ℕ → Type 0) → List ℕ → List ℕ → Type 0
Appends IsText old new = (text : List ℕ) × IsText text × (new ≡ old ++ text)
