-- An act that lets slots out of its root, and what is reported with it.
use Rattle.std.proofs.Common.{◌≡◌, ℕ, List, [], ◌∷◌, ◌++◌, set, Option, Some, None, ap}
use Rattle.std.specs.Prelude.{Contains}
use Rattle.pa_slot.specs.declared.word.SlotName.{SlotName}
use Rattle.pa_record.specs.declared.pool.PoolEntry.{PoolEntry}
use Rattle.pa_record.specs.declared.root.RootAct.{RootAct}
use Rattle.pa_lists.proofs.Members.{not_in_none, first_in, later_in}
use Rattle.pa_rules.specs.Holders.{Way, Out, Back, Move, moves_by}
use Rattle.pa_legal.specs.Numbers.{at_end, at_after, IsNumbered, HasAt}
use Rattle.pa_heap_effects.specs.Deeds.{entries_at}
use Rattle.pa_player.specs.Player.{Player}
use Rattle.pa_player.specs.Told.{Lists, journal_in}

-- the act lets these slots out, and moves no other
pub record LetsOut (act : RootAct) (outs : List SlotName) : Type 0 where
  pub moves : (line : ℕ) (m : Move) → Contains (moves_by line act) m → (m.way ≡ Out) × Contains outs m.slot
  pub each : (line : ℕ) (s : SlotName) → Contains outs s → (m : Move) × Contains (moves_by line act) m × (m.slot ≡ s)

-- the first of some moves out takes the slot at its number, and then the root doesn't have it
pub out_first : (at : Option ℕ) (ms : List Move) (m : Move) → ((z : Move) → Contains ms z → z.way ≡ Out) → IsNumbered at ms →
    Contains ms m → (k : ℕ) × (at ≡ Some k)
out_first at [] m outs fits among = absurd (not_in_none m among)
out_first at (z ∷ ms) m outs (has, rest) among = (z.number, out_has at z.way z.number (outs z (first_in z ms)) has)
  where
    out_has : (at : Option ℕ) (w : Way) (k : ℕ) → w ≡ Out → HasAt at w k → at ≡ Some k
    out_has at Out k e has = has
    out_has at Back k e has = absurd (back_out e)
      where
        back_out : Back ≡ Out → ⊥
        back_out e = cc

pub out_last : (at : Option ℕ) (ms : List Move) (m : Move) → ((z : Move) → Contains ms z → z.way ≡ Out) → Contains ms m →
    at_end at ms ≡ None
out_last at [] m outs among = absurd (not_in_none m among)
out_last at (z ∷ []) m outs among = ap (λ w. at_after w z.number) (outs z (first_in z []))
out_last at (z ∷ y ∷ ms) m outs among =
    out_last (at_after z.way z.number) (y ∷ ms) y (λ x there. outs x (later_in z x (y ∷ ms) there)) (first_in y ms)

pub none_some : (k : ℕ) → None ≡ Some k → ⊥
none_some k e = cc

-- What is reported then, but for the answer.
pub record IsToldOn (p : Player) (told : Lists) (more : List PoolEntry) (q : ℕ) (act : RootAct) : Type 0 where
  pub entries : told.entries ≡ p.told.entries
  pub report : told.report ≡ p.told.report
  pub line : told.line ≡ p.told.line
  pub histories : told.histories ≡ p.told.histories
  pub pools : told.pools ≡ p.told.pools ++ more
  pub journals : told.journals ≡ set p.told.journals q (journal_in p.told q ++ entries_at p.told.line (act ∷ []))
