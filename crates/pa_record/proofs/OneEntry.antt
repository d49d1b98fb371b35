-- The numbers of an entry are those of no other.
use Rattle.std.proofs.Common.{◌≡◌, ℕ, List, [], ◌∷◌, ◌++◌, Option, Some, None, refl, ap}
use Rattle.std.specs.List.{flat_map}
use Rattle.pa_record.specs.declared.numbered.Numbered.{Numbered}
use Rattle.pa_record.specs.declared.root.RootEntry.{RootEntry}
use Rattle.pa_record.specs.declared.root.RootAct.{RootAct}
use Rattle.pa_record.specs.declared.root.RootAct.TheVariants as acts
use Rattle.pa_record.specs.declared.pool.PoolEntry.{PoolEntry}
use Rattle.pa_record.specs.declared.pool.PoolAct.{PoolAct}
use Rattle.pa_record.specs.declared.pool.PoolAct.TheVariants as turns
use Rattle.pa_record.specs.declared.history.CellEntry.{CellEntry}
use Rattle.pa_record.specs.declared.history.Held.{Held}
use Rattle.pa_record.specs.declared.history.Held.TheVariants as handles
use Rattle.pa_record.proofs.Same.{same_numbered, same_root, same_pool, same_cell}
use Rattle.pa_record.specs.Numbers.{option_numbers, numbered_numbers, batch_numbers, root_act_numbers, root_numbers, pool_act_numbers, pool_numbers, held_numbers, cell_numbers}
use Rattle.pa_slot.proofs.Runs.{slot_parts}

-- an Option, and what follows it
one_option : (p q : Option ℕ) (x y : List ℕ) → option_numbers p ++ x ≡ option_numbers q ++ y → (p ≡ q) × (x ≡ y)
one_option None None x y e = (refl, cc)
one_option (Some m) (Some n) x y e = (cc, cc)
one_option p q x y e = absurd cc

-- a slot with its number
pub one_numbered : (m n : Numbered) → m.slot.start ≡ n.slot.start → m.slot.born ≡ n.slot.born → m.number ≡ n.number → m ≡ n
one_numbered m n e f g = same_numbered m n (slot_parts m.slot n.slot e f) g

pub one_slots : (s t : List Numbered) → flat_map numbered_numbers s ≡ flat_map numbered_numbers t → s ≡ t
one_slots [] [] e = refl
one_slots [] (n ∷ t) e = absurd cc
one_slots (m ∷ s) [] e = absurd cc
one_slots (m ∷ s) (n ∷ t) e =
    let head : m ≡ n = one_numbered m n (cc) (cc) (cc) in
    let tail : s ≡ t = one_slots s t cc in
    cc

one_batch : (s t : List Numbered) → batch_numbers s ≡ batch_numbers t → s ≡ t
one_batch s t e = one_slots s t cc

-- what a root did
pub one_act : (a b : RootAct) → root_act_numbers a ≡ root_act_numbers b → a ≡ b
one_act (acts.Fill c p s) (acts.Fill d q t) e =
    let (same, rest) = one_option p q (batch_numbers s) (batch_numbers t) cc in
    let slots = one_batch s t rest in
    cc
one_act (acts.Map p s l) (acts.Map q t m) e =
    let slot = slot_parts s t (cc) (cc) in
    cc
one_act (acts.Full c p) (acts.Full d q) e =
    let (same, rest) = one_option c d (p ∷ []) (q ∷ []) cc in
    cc
one_act (acts.Give s) (acts.Give t) e =
    let slots = one_batch s t cc in
    cc
one_act (acts.Unmap p m) (acts.Unmap q n) e =
    let slot = one_numbered m n (cc) (cc) (cc) in
    cc
one_act acts.Purge acts.Purge e = refl
one_act a b e = absurd cc

pub one_root : (a b : RootEntry) → root_numbers a ≡ root_numbers b → a ≡ b
one_root a b e = same_root a b (cc) (one_act a.act b.act cc)

-- what the pool did
one_turn : (a b : PoolAct) → pool_act_numbers a ≡ pool_act_numbers b → a ≡ b
one_turn (turns.Take m p) (turns.Take n q) e =
    let (same, rest) = one_option p q [] [] cc in
    cc
one_turn (turns.Give m f) (turns.Give n g) e = cc
one_turn a b e = absurd cc

pub one_pool : (a b : PoolEntry) → pool_numbers a ≡ pool_numbers b → a ≡ b
one_pool a b e = same_pool a b (cc) (cc) (one_turn a.act b.act cc)

-- a handle, and what follows it
one_held : (a b : Held) (x y : List ℕ) → held_numbers a ++ x ≡ held_numbers b ++ y → (a ≡ b) × (x ≡ y)
one_held handles.Nothing handles.Nothing x y e = (refl, cc)
one_held (handles.Own s) (handles.Own t) x y e =
    let slot = slot_parts s t (cc) (cc) in
    (cc, cc)
one_held (handles.Ref s) (handles.Ref t) x y e =
    let slot = slot_parts s t (cc) (cc) in
    (cc, cc)
one_held a b x y e = absurd cc

pub one_cell : (a b : CellEntry) → cell_numbers a ≡ cell_numbers b → a ≡ b
one_cell a b e =
    let (gave, rest) = one_held a.gave b.gave (held_numbers a.found) (held_numbers b.found) cc in
    let (found, none) = one_held a.found b.found [] [] (ap (λ (xs : List ℕ). xs ++ []) rest) in
    same_cell a b (cc) gave found
