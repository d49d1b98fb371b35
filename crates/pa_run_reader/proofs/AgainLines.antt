-- What is spelled as an item is read as that item.
use Rattle.std.proofs.Common.{◌≡◌, ℕ, ◌<◌, List, ◌∷◌, ◌++◌, codes, Option, Some, None, refl, sym, ap, ◌∙◌, arith}
use Rattle.std.specs.Fmt.{decimal}
use Rattle.pa_text.specs.Reading.{IsStop}
use Rattle.pa_record.specs.declared.pool.PoolEntry.{PoolEntry}
use Rattle.pa_record.specs.declared.pool.PoolAct.{PoolAct}
use Rattle.pa_record.specs.declared.pool.PoolAct.TheVariants as turns
use Rattle.pa_record.specs.declared.history.CellEntry.{CellEntry}
use Rattle.pa_record.specs.declared.history.Held.{Held}
use Rattle.pa_record.specs.declared.history.Held.TheVariants as handles
use Rattle.pa_record.specs.Bits.{Is32, PoolActInBits, PoolInBits, HeldInBits, CellInBits}
use Rattle.pa_record.specs.Text.{number_or, pool_act_text, held_text, cell_text}
use Rattle.pa_record.proofs.Fields.{cut4}
use Rattle.pa_run_reader.specs.declared.item.Item.{Item}
use Rattle.pa_run_reader.specs.declared.item.Item.TheVariants as items
use Rattle.pa_run_reader.specs.Reading.{after_word}
use Rattle.pa_run_reader.specs.Lines.{take_in, given_back_in, pool_act_in, pool_in, own_in, ref_in, own_or_ref_in, cell_in, record_item_in, report_item_in, item_in}
use Rattle.pa_run_reader.specs.Item.{item_text, ItemInBits}
use Rattle.pa_run_reader.proofs.Fields.{behind_again, below_again, field_again, slot_again}
use Rattle.pa_run_reader.proofs.Again.{record_again}
use Rattle.pa_run_reader.proofs.Reports.{report_again, report_cut}
use Rattle.pa_run_reader.proofs.AgainRoots.{number_or_again, root_again}
use Rattle.pa_record.proofs.EntryLines.{entry_cut}
use Rattle.pa_record.proofs.OtherLines.{root_cut, pool_cut, cell_cut}

-- ---- the pool

take_again : (n : ℕ) (f : Option ℕ) (rest : List ℕ) → PoolActInBits (turns.Take n f)
    → take_in (decimal n ++ (codes " " ++ (number_or (codes "none") f ++ 10 ∷ rest))) ≡ Some (turns.Take n f, 10 ∷ rest)
unfolding take_in
take_again n f rest fits =
    rw (
      below_again 4294967296 n (codes " " ++ (number_or (codes "none") f ++ 10 ∷ rest)) fits.0 (omega arith) refl,
      behind_again (codes " ") (number_or (codes "none") f ++ 10 ∷ rest),
      number_or_again 110 (codes "one") 4294967296 f (10 ∷ rest) (λ a b. omega (arith, a, b)) fits.1 (omega arith) refl,
    ) refl

back_again : (n f : ℕ) (rest : List ℕ) → PoolActInBits (turns.Give n f) →
    given_back_in (decimal n ++ (codes " " ++ (decimal f ++ 10 ∷ rest))) ≡ Some (turns.Give n f, 10 ∷ rest)
unfolding given_back_in
back_again n f rest fits =
    rw (
      below_again 4294967296 n (codes " " ++ (decimal f ++ 10 ∷ rest)) fits.0 (omega arith) refl,
      field_again (codes " ") 4294967296 f (10 ∷ rest) fits.1 (omega arith) refl,
    ) refl

pool_act_again : (a : PoolAct) (rest : List ℕ) → PoolActInBits a → pool_act_in (pool_act_text a ++ 10 ∷ rest) ≡ Some (a, 10 ∷ rest)
unfolding pool_act_in after_word
pool_act_again (turns.Take n f) rest fits =
    ap pool_act_in (cut4 (codes "take ") (decimal n) (codes " ") (number_or (codes "none") f) (10 ∷ rest)) ∙
    rw (take_again n f rest fits) refl
pool_act_again (turns.Give n f) rest fits = ap pool_act_in (cut4 (codes "give ") (decimal n) (codes " ") (decimal f) (10 ∷ rest)) ∙
    rw (back_again n f rest fits) refl

pool_again : (j : ℕ) (e : PoolEntry) (rest : List ℕ) → Is32 j → PoolInBits e
    → pool_in (decimal j ++ (codes " " ++
    (decimal e.line ++ (codes " " ++ (decimal e.partition ++ (codes " " ++ (pool_act_text e.act ++ 10 ∷ rest))))))) ≡ Some
    (items.Pool j e, rest)
unfolding pool_in
pool_again j e rest small fits =
    let act : List ℕ = pool_act_text e.act ++ 10 ∷ rest in
    rw (
      below_again 4294967296 j (codes " " ++ (decimal e.line ++ (codes " " ++ (decimal e.partition ++ (codes " " ++ act))))) small
          (omega arith) refl,
      field_again (codes " ") 4294967296 e.line (codes " " ++ (decimal e.partition ++ (codes " " ++ act))) fits.0 (omega arith) refl,
      field_again (codes " ") 4294967296 e.partition (codes " " ++ act) fits.1 (omega arith) refl,
      behind_again (codes " ") act,
      pool_act_again e.act rest fits.2,
      behind_again (codes "\n") rest,
    ) refl

-- ---- cells

held_again : (h : Held) (rest : List ℕ) → HeldInBits h → IsStop rest → own_or_ref_in (held_text h ++ rest) ≡ Some (h, rest)
unfolding own_or_ref_in after_word own_in ref_in
held_again handles.Nothing rest fits stop = refl
held_again (handles.Own s) rest fits stop = rw (slot_again s rest fits stop) refl
held_again (handles.Ref s) rest fits stop = rw (slot_again s rest fits stop) refl

cell_again : (k j : ℕ) (e : CellEntry) (rest : List ℕ) → k < 64 → Is32 j → CellInBits e
    → cell_in (decimal k ++ (codes " " ++ (decimal j ++ (codes " " ++
    (decimal e.line ++ (codes " " ++ (held_text e.gave ++ (codes " " ++ (held_text e.found ++ 10 ∷ rest))))))))) ≡ Some
    (items.Cell k j e, rest)
unfolding cell_in
cell_again k j e rest cells small fits =
    let found : List ℕ = held_text e.found ++ 10 ∷ rest in
    let gave : List ℕ = held_text e.gave ++ (codes " " ++ found) in
    rw (
      below_again 64 k (codes " " ++ (decimal j ++ (codes " " ++ (decimal e.line ++ (codes " " ++ gave))))) cells (omega arith) refl,
      field_again (codes " ") 4294967296 j (codes " " ++ (decimal e.line ++ (codes " " ++ gave))) small (omega arith) refl,
      field_again (codes " ") 4294967296 e.line (codes " " ++ gave) fits.0 (omega arith) refl,
      behind_again (codes " ") gave,
      held_again e.gave (codes " " ++ found) fits.1 refl,
      behind_again (codes " ") found,
      held_again e.found (10 ∷ rest) fits.2 refl,
      behind_again (codes "\n") rest,
    ) refl

-- ---- each line

-- what was read of a cell's line
pub cell_spelled : (k j : ℕ) (e : CellEntry) (bytes a b c d f g h rest : List ℕ) → bytes ≡ decimal k ++ a → a ≡ codes " " ++
    (decimal j ++ b) → b ≡ codes " " ++ (decimal e.line ++ c)
    → c ≡ codes " " ++ d → d ≡ held_text e.gave ++ f → f ≡ codes " " ++ g → g ≡ held_text e.found ++ h → h ≡ codes "\n" ++ rest →
    codes "c " ++ bytes ≡ cell_text k j e ++ rest
cell_spelled k j e bytes a b c d f g h rest e1 e2 e3 e4 e5 e6 e7 e8 =
    ap (λ (w : List ℕ). codes "c " ++ w)
    (e1 ∙ ap (λ (w : List ℕ). decimal k ++ w) (e2 ∙ ap (λ (w : List ℕ). codes " " ++ (decimal j ++ w)) (e3
    ∙ ap (λ (w : List ℕ). codes " " ++ (decimal e.line ++ w))
    (e4 ∙ ap (λ (w : List ℕ). codes " " ++ w) (e5 ∙ ap (λ (w : List ℕ). held_text e.gave ++ w) (e6
    ∙ ap (λ (w : List ℕ). codes " " ++ w) (e7 ∙ ap (λ (w : List ℕ). held_text e.found ++ w) e8))))))) ∙ sym (cell_cut k j e rest)

pub item_again : (i : Item) (rest : List ℕ) → ItemInBits i → item_in (item_text i ++ rest) ≡ Some (i, rest)
unfolding item_in after_word record_item_in report_item_in
item_again items.Head rest bits = refl
item_again (items.Record e) rest bits = ap item_in (entry_cut e rest) ∙ rw (record_again e rest bits.0) refl
item_again (items.Root p j e) rest bits = ap item_in (root_cut p j e rest) ∙
    rw (root_again p j e rest bits.0.0 bits.1 bits.0.1 bits.0.2) refl
item_again (items.Pool j e) rest bits = ap item_in (pool_cut j e rest) ∙ rw (pool_again j e rest bits.1 bits.0) refl
item_again (items.Cell k j e) rest bits = ap item_in (cell_cut k j e rest) ∙ rw (cell_again k j e rest bits.0.0 bits.1 bits.0.1) refl
item_again (items.Report s) rest bits = ap item_in (report_cut s rest) ∙ rw (report_again s rest bits.0) refl
item_again items.End rest bits = refl

-- if nothing is read no item's line comes first
pub no_item : (bytes : List ℕ) → item_in bytes ≡ None → (i : Item) (rest : List ℕ) → ItemInBits i → bytes ≡ item_text i ++ rest → ⊥
no_item bytes e i rest bits same =
    let read : item_in bytes ≡ Some (i, rest) = ap item_in same ∙ item_again i rest bits in
    cc
