-- The words of a slot along its steps.
use Rattle.std.proofs.Common.{List, ℕ, sym, ◌≡◌, [], ◌∷◌}
use Rattle.pa_slot.specs.Run.{Mark}
use Rattle.pa_slot.specs.declared.word.SlotName.{SlotName}
use Rattle.pa_slot.specs.Runs.{IsPath}
use Rattle.pa_rules.specs.Report.{last_word}

pub path_ends : (ms : List Mark) (s : SlotName) (u : ℕ) (vs : List ℕ) (w : ℕ) → IsPath ms s u vs w → w ≡ last_word u vs
path_ends ms s u [] w h = sym h
path_ends ms s u (v ∷ vs) w (m, p, first, can, is, rest) = path_ends ms s v vs w rest
