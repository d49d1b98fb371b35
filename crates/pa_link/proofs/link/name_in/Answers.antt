use Rattle.std.proofs.Common.{ℕ, ◌/◌, ◌%◌, ap}
use Rattle.pa_slot.specs.declared.word.SlotName.{SlotName}
use Rattle.pa_slot.specs.Links.{linked_name}
use Rattle.pa_link.proofs.link.name_in.Goals as goal

pub returns : goal.returns
unfolding linked_name
returns c =
    let halves : ℕ → SlotName = λ n. record { start = n % 4294967296; born = n / 4294967296 } in
    ap halves c.swap_bytes-number.ensures
