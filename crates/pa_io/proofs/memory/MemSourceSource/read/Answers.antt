use Rattle.std.proofs.Common.{rules, arith, ◌≡◌, ℕ, ◌+◌, ◌-◌, List, ◌++◌, sym, take, drop}
use Rattle.std.proofs.lemmas.Grind.{common_steps}
use Rattle.std.proofs.lemmas.List.{take-append-drop, drop-drop, nil_from_length}
use Rattle.pa_io.proofs.Moves.{moves_front}
use Rattle.pa_io.proofs.memory.MemSourceSource.read.Goals as goal

-- what was copied from the place on, and what follows it, is all from the place on
copied-append-drop : (bytes lent copied : List ℕ) (place n : ℕ) → lent ≡ bytes → copied ≡ take (place + n - place) (drop place lent) →
    drop place bytes ≡ copied ++ drop (place + n) bytes
copied-append-drop bytes lent copied place n e f =
    let k : place + n - place ≡ n = omega arith in
    let g : take n (drop place bytes) ++ drop n (drop place bytes) ≡ drop place bytes = take-append-drop n (drop place bytes) in
    rw (f, e, k, ← drop-drop n place bytes) (sym g)

pub returns-clause-moves : goal.returns-clause-moves
returns-clause-moves c =
    let p = copied-append-drop c.self.inside.bytes.items c.deref.result.now c.copy_from_slice.new.self c.self.inside.at c.min-n.result
    c.deref.ensures.value c.copy_from_slice.ensures.after in
    moves_front c.args.self.now.left (drop (c.self.inside.at + c.min-n.result) c.self.inside.bytes.items) _ c.copy_from_slice.new.self
    (drop c.min-n.result c.args.into.now) c.min-n.result
    (grind (arith, common_steps)) (cc) (search rules) (grind (arith, common_steps, nil_from_length))
