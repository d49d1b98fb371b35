-- What an entry does with each slot, by its numbers.
use Rattle.std.proofs.Common.{◌≡◌, ℕ, true, false, List, [], ◌∷◌, ◌++◌, Some, map, filter, refl, sym, ◌∙◌, ap, subst, inl, inr}
use Rattle.std.specs.Prelude.{◌≢◌, AllPairs, Contains}
use Rattle.std.proofs.lemmas.List.{append-nil}
use Rattle.pa_slot.specs.declared.title.Title.{Title}
use Rattle.pa_slot.specs.declared.word.SlotName.{SlotName}
use Rattle.pa_slot.specs.Run.{same_slot}
use Rattle.pa_slot.proofs.Runs.{same_slot_yes, same_slot_no}
use Rattle.pa_region.specs.declared.view.View.{View}
use Rattle.pa_record.specs.declared.numbered.Numbered.{Numbered}
use Rattle.pa_record.specs.declared.root.RootEntry.{RootEntry}
use Rattle.pa_record.specs.Spans.{name_of}
use Rattle.pa_record.specs.Root.{names}
use Rattle.pa_lists.proofs.Members.{not_in_none, first_in, later_in, in_cases}
use Rattle.pa_lists.proofs.Joined.{map_in}
use Rattle.pa_lists.proofs.Pairs.{pairs_head, pairs_tail}
use Rattle.pa_rules.specs.Holders.{Way, Move, move_of, moves_by}
use Rattle.pa_legal.specs.Numbers.{is_of, moves_of, at_end, at_after, HasAt, IsNumbered}
use Rattle.pa_legal.proofs.Growing.{numbers_grow}
use Rattle.pa_root.specs.Handing.{numbered_by}

-- the slot's moves in a journal with one more entry: those before, and those of the entry
pub moves_more : (journal : List RootEntry) (e : RootEntry) (name : SlotName) →
    moves_of (journal ++ e ∷ []) name ≡ moves_of journal name ++ filter (is_of name) (moves_by e.line e.act)
moves_more journal e name =
    numbers_grow.moves journal (e ∷ []) name
    ∙ ap (λ ms. moves_of journal name ++ filter (is_of name) ms) (append-nil (moves_by e.line e.act))

-- slots that move in one way, if none has the name, or one has
pub none_moves : (line : ℕ) (way : Way) (name : SlotName) (slots : List Numbered) → (Contains (names slots) name → ⊥) →
    filter (is_of name) (map (move_of line way) slots) ≡ []
none_moves line way name [] away = refl
none_moves line way name (n ∷ ns) away =
    let other : same_slot n.slot name ≡ false =
    same_slot_no n.slot name (λ e. away (subst (λ s. Contains (n.slot ∷ names ns) s) e (first_in n.slot (names ns)))) in
    rw other (none_moves line way name ns (λ among. away (later_in n.slot name (names ns) among)))

pub one_moves : (line : ℕ) (way : Way) (m : Numbered) (slots : List Numbered) → AllPairs ◌≢◌ (names slots) → Contains slots m →
    filter (is_of m.slot) (map (move_of line way) slots) ≡ move_of line way m ∷ []
one_moves line way m [] once among = absurd (not_in_none m among)
one_moves line way m (n ∷ ns) once among =
    let R : SlotName → SlotName → Type 0 = λ a b. a ≢ b in
    elim (in_cases n m ns among) [
      | inl here ↦
          let same : same_slot n.slot m.slot ≡ true = same_slot_yes n.slot m.slot (ap (λ (x : Numbered). x.slot) here) in
          let rest : filter (is_of m.slot) (map (move_of line way) ns) ≡ [] =
          none_moves line way m.slot ns (λ again. pairs_head R n.slot m.slot (names ns) once again (ap (λ (x : Numbered). x.slot) here)) in
          rw same (ap (λ ms. move_of line way n ∷ ms) rest ∙ ap (λ x. move_of line way x ∷ []) here)
      | inr later ↦
          let away : n.slot ≡ m.slot → ⊥ = pairs_head R n.slot m.slot (names ns) once (map_in (λ (x : Numbered). x.slot) ns m later) in
          rw (same_slot_no n.slot m.slot away) (one_moves line way m ns (pairs_tail R n.slot (names ns) once) later)
    ]

-- the names of titles at their numbers
pub names_by : (v : View) (titles : List Title) → names (numbered_by v titles) ≡ map name_of titles
names_by v [] = refl
names_by v (t ∷ ts) = ap (λ ns. name_of t ∷ ns) (names_by v ts)

-- a slot that doesn't move stays at its number
pub numbers_without : (journal : List RootEntry) (e : RootEntry) (name : SlotName) → filter (is_of name) (moves_by e.line e.act) ≡ [] →
    moves_of (journal ++ e ∷ []) name ≡ moves_of journal name
numbers_without journal e name none =
    moves_more journal e name ∙ ap (λ ms. moves_of journal name ++ ms) none ∙ append-nil (moves_of journal name)

-- one that moves once is then in the state that the move gives
pub numbers_with : (journal : List RootEntry) (e : RootEntry) (name : SlotName) (m : Move) →
    filter (is_of name) (moves_by e.line e.act) ≡ m ∷ [] →
    IsNumbered (Some 0) (moves_of journal name) → HasAt (at_end (Some 0) (moves_of journal name)) m.way m.number →
    IsNumbered (Some 0) (moves_of (journal ++ e ∷ []) name) ×
    (at_end (Some 0) (moves_of (journal ++ e ∷ []) name) ≡ at_after m.way m.number)
numbers_with journal e name m one numbered has =
    let list : moves_of (journal ++ e ∷ []) name ≡ moves_of journal name ++ m ∷ [] = moves_more journal e name ∙
    ap (λ ms. moves_of journal name ++ ms) one in (
      subst (λ ms. IsNumbered (Some 0) ms) (sym list) (numbers_grow.fits (Some 0) (moves_of journal name) (m ∷ []) numbered (has, tt)),
      ap (at_end (Some 0)) list ∙ numbers_grow.ends (Some 0) (moves_of journal name) (m ∷ []),
    )
