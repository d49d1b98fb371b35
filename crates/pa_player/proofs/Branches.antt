-- What each op leads to, by what its register holds, as the code answers it.
use Rattle.std.proofs.Common.{◌≡◌, ℕ, sym, subst, inl, inr}
use Rattle.pa_slot.specs.declared.word.Step.TheVariants as steps
use Rattle.pa_trace.specs.declared.script.Op.{Op}
use Rattle.pa_trace.specs.declared.script.Op.TheVariants as ops
use Rattle.pa_record.specs.declared.entry.Answer.{Answer}
use Rattle.pa_record.specs.declared.entry.Answer.TheVariants as answers
use Rattle.pa_rules.specs.Nexts.{is_owner}
use Rattle.pa_rules.specs.declared.register.Register.TheVariants.{Own, Ref}
use Rattle.pa_player.specs.Player.{Player}
use Rattle.pa_player.specs.Tables.{slot_at, Points}
use Rattle.pa_player.specs.Playing.{register_at}
use Rattle.pa_player.specs.Changes.{registered, stepped_at, seen_at, returned_at, freed_at, reset_at, reset_last, quarantined_more, filled_at, Copies, Resets, Frees, Writes}
use Rattle.pa_player.specs.Asks.{CanReset, CanFree}
use Rattle.pa_player.specs.Plays.{Plays}
use Rattle.pa_player.proofs.Answers.{copy_filled, copy_uncounted}
use Rattle.pa_player.proofs.Copies.{copied, was_reset}
use Rattle.pa_player.proofs.Frees.{was_quarantined, was_written}
use Rattle.pa_player.proofs.Looks.{write_shared}
use Rattle.pa_player.proofs.Returned.{free_return_plays, reset_return_plays}

-- the player and the answer are these
pub plays_as : (p : Player) (thread : ℕ) (op : Op) (q r : Player) (a answer : Answer) → r ≡ q → answer ≡ a → Plays p thread op q a →
    Plays p thread op r answer
plays_as p thread op q r a answer is says played =
    subst (λ z. Plays p thread op z answer) (sym is) (subst (λ z. Plays p thread op q z) (sym says) played)

-- ---- a copy of a handle of the slot in a place, by what the second register holds

pub copy_plays : (p r : Player) (thread from to i : ℕ) (answer : Answer) → Points (register_at p thread from) i →
    Copies thread (is_owner (register_at p thread from)) to i p r answer
    → Plays p thread (ops.Copy from to) r answer
copy_plays p r thread from to i answer points (inl (full, then, says)) =
    plays_as p thread (ops.Copy from to) p r answers.Filled answer then says (copy_filled p thread from to i points full)
copy_plays p r thread from to i answer points (inr (inl (none, plain, then, says))) =
    plays_as p thread (ops.Copy from to) p r answers.Uncounted answer then says (copy_uncounted p thread from to i points none plain)
copy_plays p r thread from to i answer points (inr (inr (none, counted, then, says))) =
    plays_as p thread (ops.Copy from to) (registered thread to (Ref i) (stepped_at steps.Copy i p)) r
    (answers.Done (seen_at p.table i)) answer then says
    (copied p thread from to i points none counted)

-- ---- a reset of a raw_ptr, a free and a write by the owner

pub reset_plays : (p r : Player) (thread reg i : ℕ) (answer : Answer) → register_at p thread reg ≡ Ref i → CanReset thread reg i p →
    answer ≡ answers.Done (seen_at p.table i)
    → Resets thread reg i p r → Plays p thread (ops.Reset reg) r answer
reset_plays p r thread reg i answer is can says (inl (last, then)) =
    plays_as p thread (ops.Reset reg) (returned_at thread i p (reset_last thread reg i p)) r
    (answers.Done (seen_at p.table i)) answer then says
    (reset_return_plays p thread reg i is (can.slots last) (can.bytes last) last)
reset_plays p r thread reg i answer is can says (inr (stays, then)) =
    plays_as p thread (ops.Reset reg) (reset_at thread reg i p) r (answers.Done (seen_at p.table i)) answer then says
    (was_reset p thread reg i is stays)

pub free_plays : (p r : Player) (thread reg i : ℕ) (answer : Answer) → register_at p thread reg ≡ Own i → CanFree thread reg i p →
    answer ≡ answers.Done (seen_at p.table i)
    → Frees thread reg i p r → Plays p thread (ops.Free reg) r answer
free_plays p r thread reg i answer is can says (inl (none, then)) =
    plays_as p thread (ops.Free reg) (returned_at thread i p (freed_at thread reg i p)) r
    (answers.Done (seen_at p.table i)) answer then says
    (free_return_plays p thread reg i is can.slots can.bytes none)
free_plays p r thread reg i answer is can says (inr (some, then)) =
    plays_as p thread (ops.Free reg)
    (quarantined_more (slot_at p.table i).partition (slot_at p.table i).title.len (freed_at thread reg i p)) r
    (answers.Done (seen_at p.table i)) answer then says
    (was_quarantined p thread reg i is can.slots can.bytes some)

pub write_plays : (p r : Player) (thread reg value i : ℕ) (answer : Answer) → register_at p thread reg ≡ Own i → Writes i value p r answer →
    Plays p thread (ops.Write reg value) r answer
write_plays p r thread reg value i answer is (inl (none, then, says)) =
    plays_as p thread (ops.Write reg value) (filled_at value i (stepped_at steps.Write i p)) r
    (answers.Done (seen_at p.table i)) answer then says (was_written p thread reg i value is none)
write_plays p r thread reg value i answer is (inr (some, then, says)) =
    plays_as p thread (ops.Write reg value) p r (answers.Shared (seen_at p.table i)) answer then says
    (write_shared p thread reg value i is some)
