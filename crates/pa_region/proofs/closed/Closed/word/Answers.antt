use Rattle.std.proofs.Common.{ℕ, ◌/◌, ◌∙◌, List, length, sym, ap, arith}
use Rattle.std.specs.Prelude.{slice_index}
use Rattle.core.specs.Mem.Slots.{slots_items}
use Rattle.pa_region.proofs.Ends.{word_of}
use Rattle.pa_region.proofs.closed.Closed.word.Goals as goal

pub returns : goal.returns
returns c =
    let same = c.self.view_is in
    let long = ap (λ (ws : List ℕ). length ws) same in
    let inside = c.requires.1 in
    sym (sym (ap (λ (ws : List ℕ). slice_index ws (c.args.at / 8)) same)
    ∙ word_of (slots_items c.self.inside.table.words) (c.args.at / 8) c.word.result c.word.ensures (omega arith))
