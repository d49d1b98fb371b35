-- The output of the command `verdicts`: what each resize of a script came to.
use Rattle.std.specs.Prelude.{ℕ, List, [], ◌∷◌, ◌++◌, codes}
use Rattle.std.specs.List.{flat_map}
use Rattle.std.specs.Fmt.{decimal}
use Rattle.pa_resize.specs.declared.verdict.Verdict.{Verdict}
use Rattle.pa_resize.specs.declared.verdict.Verdict.TheVariants.{NotOwn, Shared, TooLarge, Kept, NoRoom, Moved}

-- the word for what a resize came to
abbrev pub resize_word : Verdict → List ℕ
resize_word NotOwn = codes "not-own"
resize_word Shared = codes "shared"
resize_word TooLarge = codes "too-large"
resize_word Kept = codes "kept"
resize_word NoRoom = codes "no-room"
resize_word Moved = codes "moved"

-- `v LINE VERDICT` and an LF, of a resize on this line of the script
abbrev pub verdict_line : ℕ × Verdict → List ℕ
verdict_line found = codes "v " ++ decimal found.0 ++ codes " " ++ resize_word found.1 ++ 10 ∷ []

-- a line for each resize, and then `end` and an LF
abbrev pub verdicts_text : List (ℕ × Verdict) → List ℕ
verdicts_text found = flat_map verdict_line found ++ codes "end\n"
