-- The text of the pairs of a run.
use Rattle.std.specs.Prelude.{ℕ, List, ◌++◌, codes, length}
use Rattle.std.specs.List.{flat_map}
use Rattle.std.specs.Fmt.{decimal}
use Rattle.pa_dangle.specs.declared.found.Pair.{Pair}
use Rattle.pa_dangle.specs.declared.found.Use.{Use}
use Rattle.pa_dangle.specs.declared.found.Use.TheVariants.{Copied, WasReset, WasFreed, Written, WasRead}

-- the word that says how a slot was used
abbrev pub use_text : Use → List ℕ
use_text Copied = codes "copy"
use_text WasReset = codes "reset"
use_text WasFreed = codes "free"
use_text Written = codes "write"
use_text WasRead = codes "read"

-- one line: the lines on which the slot was made, freed and used later, how it was used, and the line of its raw_ptr's copy
abbrev pub pair_text : Pair → List ℕ
pair_text p =
    codes "pair made " ++ decimal p.made ++ codes " free " ++ decimal p.free ++ codes " later " ++ decimal p.later ++ codes " "
    ++ use_text p.how ++ codes " origin " ++ decimal p.origin ++ codes "\n"

-- a head, a line for each pair, how many frees, slots in quarantine and pairs there are, and an end
abbrev pub dangling_text : List Pair → ℕ → ℕ → List ℕ
dangling_text pairs freed left =
    codes "dangling 1\n" ++ flat_map pair_text pairs ++ codes "freed " ++ decimal freed ++ codes " open " ++ decimal left
    ++ codes " pairs " ++ decimal (length pairs) ++ codes "\nend\n"
