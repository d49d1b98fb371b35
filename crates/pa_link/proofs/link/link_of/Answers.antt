use Rattle.std.proofs.Common.{ap, sym, ◌∙◌, arith}
use Rattle.std.specs.Int.{swap_bytes, w64}
use Rattle.pa_slot.specs.Links.{link_number, link_to}
use Rattle.pa_link.proofs.link.link_of.Goals as goal

pub returns-in-Some : goal.returns-in-Some
unfolding link_number
returns-in-Some c = c.swap_bytes.ensures ∙ (ap (swap_bytes w64) (omega arith) ∙ ap link_to (sym c.in-Some.is))
