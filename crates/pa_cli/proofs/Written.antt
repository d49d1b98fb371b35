-- What was written of two parts, one after the other.
use Rattle.std.proofs.Common.{◌∙◌, ℕ, List, ◌++◌, Option, ap, append_assoc, sym}
use Rattle.std.specs.Io.KnownBytes.{Appends}
use Rattle.pa_io.specs.Moves.{HasWrittenPart}
use Rattle.pa_io.proofs.Moves.{Appends_append}

-- a part of the first
pub first_written : (before after : Option (List ℕ)) (first rest : List ℕ) → HasWrittenPart before after first →
    HasWrittenPart before after (first ++ rest)
first_written before after first rest h = (
  h.0 ++ rest,
  record {
    front = h.1.front;
    split = ap (λ (z : List ℕ). z ++ rest) h.1.split ∙ append_assoc h.1.front h.0 rest;
    grown = h.1.grown;
  },
)

-- the first, and a part of the rest
pub rest_written : (before between after : Option (List ℕ)) (first rest : List ℕ) → Appends before between first →
    HasWrittenPart between after rest
    → HasWrittenPart before after (first ++ rest)
rest_written before between after first rest a h = (
  h.0,
  record {
    front = first ++ h.1.front;
    split = ap (λ (z : List ℕ). first ++ z) h.1.split ∙ sym (append_assoc first h.1.front h.0);
    grown = Appends_append before between after first h.1.front a h.1.grown;
  },
)
