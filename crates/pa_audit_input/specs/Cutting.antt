-- What the parts of the code do with bytes that are cut line by line.
use Rattle.std.specs.Prelude.{◌≡◌, ℕ, ◌+◌, ◌<◌, ◌≤◌, List, [], ◌∷◌, ◌++◌, None, length}
use Rattle.std.specs.List.{AllByRecursion, flat_map}
use Rattle.pa_trace.specs.declared.fault.TraceFault.{TraceFault}
use Rattle.pa_trace.specs.declared.fault.TraceFault.TheVariants.{BadLine, Limit, OutOfMemory}
use Rattle.pa_trace.specs.Faults.{lines_of}
use Rattle.pa_audit_input.specs.Input.{IsFirstOfRun}

-- why the bytes after that many lines and bytes are not the run of an input: their first faulty line, or out of memory
abbrev pub IsRunPartFault : ℕ → ℕ → List ℕ → TraceFault → Type 0
IsRunPartFault lines before back (BadLine n) = IsFirstOfRun (lines + 1) before None (lines_of back) (BadLine n)
IsRunPartFault lines before back (Limit n) = IsFirstOfRun (lines + 1) before None (lines_of back) (Limit n)
IsRunPartFault lines before back OutOfMemory = Unit {0}

-- lines, one after the other
abbrev pub joined : List (List ℕ) → List ℕ
joined lines = flat_map (λ line. line) lines

-- the second bytes are those after the first line of the first
pub record IsBehindLine (bytes after : List ℕ) : Type 0 where
  pub line : List ℕ
  pub some : 0 < length line
  pub parts : bytes ≡ line ++ after
  pub lines : lines_of bytes ≡ line ∷ lines_of after

-- the last bytes are the last line of these, and the first ones are the lines before it, of which there are that many
pub record IsLastCut (bytes before last : List ℕ) (lines : ℕ) : Type 0 where
  pub parts : bytes ≡ before ++ last
  pub whole : lines_of bytes ≡ lines_of before ++ last ∷ []
  pub some : 0 < length last
  pub count : lines ≡ length (lines_of before)

-- the last bytes are those after that many lines of the first, and this holds of each of these lines
pub record IsCutAt (P : List ℕ → Type 0) (bytes rest : List ℕ) (n : ℕ) : Type 0 where
  pub before : List (List ℕ)
  pub parts : bytes ≡ joined before ++ rest
  pub lines : lines_of bytes ≡ before ++ lines_of rest
  pub each : AllByRecursion P before
  pub count : n ≡ length before
  pub few : n ≤ length (joined before)
