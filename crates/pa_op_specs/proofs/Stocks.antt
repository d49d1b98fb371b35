-- A worker's thread state stays sound.
use Rattle.std.proofs.Common.{◌≡◌, ℕ, zero, suc, ◌<◌, ◌≤◌, List, [], ◌∷◌, length, ◌∙◌, ap, subst, arith, inl, inr}
use Rattle.std.specs.List.{sum_by}
use Rattle.std.proofs.lemmas.List.Sums.{sum_by-cons}
use Rattle.pa_slot.specs.declared.title.Title.{Title}
use Rattle.pa_slot.specs.Holdings.{one}
use Rattle.pa_slot.proofs.Same.{title_self}
use Rattle.pa_region.specs.declared.view.View.{View}
use Rattle.pa_region.specs.Views.{free_of, own_of, ref_of, stake_of}
use Rattle.pa_region.specs.Shares.{IsUser}
use Rattle.pa_cells.specs.declared.handle.Handle.{Handle}
use Rattle.pa_cells.specs.Handles.{HasSeenMade}
use Rattle.pa_rules.specs.declared.register.Register.TheVariants.{Own, Ref}
use Rattle.pa_op_specs.specs.Stocks.{StockRegister, StockValue, IsStock, HoldsHandles, HoldsStake, IsMadeFor, HasHandleTo, register_in, owns_one, refs_one, listed_slot}
use Rattle.pa_op_specs.proofs.Seeing.{made_kept}

-- a register's part of a sum
pub part_of : (f : StockRegister → ℕ) (rs : List StockRegister) (i : ℕ) → i < length rs → f (register_in rs i) ≤ sum_by f rs
part_of f [] i within = absurd (omega arith)
part_of f (r ∷ rs) zero within = omega (arith, sum_by-cons f r rs)
part_of f (r ∷ rs) (suc i) within = let again = part_of f rs i (omega arith) in omega (arith, sum_by-cons f r rs)

-- the seat has the handle of a register, and has seen how its slot was made
pub register_has : (s : StockValue) (i : ℕ) (h : Handle) → IsStock s → i < 64 → HasHandleTo h (register_in s.registers i) →
    IsUser h.title s.view × HasSeenMade h s.view
register_has s i h is below (inl own) =
    let part = part_of (owns_one h.title) s.registers i (let n = is.handles.count in omega arith) in
    let one_there : owns_one h.title (register_in s.registers i) ≡ 1 = ap (owns_one h.title) own ∙ ap one (title_self h.title) in
    let sum = is.handles.owns h.title in
    (omega arith, subst (IsMadeFor s.view) own (is.handles.made i))
register_has s i h is below (inr ref) =
    let part = part_of (refs_one h.title) s.registers i (let n = is.handles.count in omega arith) in
    let one_there : refs_one h.title (register_in s.registers i) ≡ 1 = ap (refs_one h.title) ref ∙ ap one (title_self h.title) in
    let sum = is.handles.refs h.title in
    (omega arith, subst (IsMadeFor s.view) ref (is.handles.made i))

-- the seat has the Own that a register owns
pub register_owns : (s : StockValue) (i : ℕ) (h : Handle) → IsStock s → i < 64 → register_in s.registers i ≡ Own h →
    0 < own_of s.view h.title
register_owns s i h is below own =
    let part = part_of (owns_one h.title) s.registers i (let n = is.handles.count in omega arith) in
    let one_there : owns_one h.title (register_in s.registers i) ≡ 1 = ap (owns_one h.title) own ∙ ap one (title_self h.title) in
    let sum = is.handles.owns h.title in
    omega arith

-- the seat has a Ref if a register has one
pub register_points : (s : StockValue) (i : ℕ) (h : Handle) → IsStock s → i < 64 → register_in s.registers i ≡ Ref h →
    0 < ref_of s.view h.title
register_points s i h is below ref =
    let part = part_of (refs_one h.title) s.registers i (let n = is.handles.count in omega arith) in
    let one_there : refs_one h.title (register_in s.registers i) ≡ 1 = ap (refs_one h.title) ref ∙ ap one (title_self h.title) in
    let sum = is.handles.refs h.title in
    omega arith

-- the thread state with another view, which has seen how all was made that was seen so before, and holds no fewer free titles
pub stock_kept : (s : StockValue) (w : View) (rs : List StockRegister) → IsStock s → HoldsHandles s.plain_from rs w →
    HoldsStake s.thread w → ((h : Handle) → HasSeenMade h s.view → HasSeenMade h w) → ((t : Title) → free_of s.view t ≤ free_of w t) →
    IsStock (record s { view = w; registers = rs })
stock_kept s w rs is handles stake made frees = record {
  partitions = is.partitions;
  handles = handles;
  lists = record {
    count = is.lists.count;
    sound = is.lists.sound;
    classes = is.lists.classes;
    few = is.lists.few;
    free = λ p class t among. let a = is.lists.free p class t among in let b = frees t in omega arith;
    apart = is.lists.apart;
    made = λ p class t among. made (listed_slot p class t) (is.lists.made p class t among);
    well = is.lists.well;
  };
  stake = stake;
}

-- if it has seen the same lists and has the same stakes
pub stock_with : (s : StockValue) (w : View) (rs : List StockRegister) → IsStock s → HoldsHandles s.plain_from rs w →
    w.seen_lists ≡ s.view.seen_lists → ((t : Title) → free_of s.view t ≤ free_of w t) → ((k : ℕ) → stake_of w k ≡ stake_of s.view k) →
    IsStock (record s { view = w; registers = rs })
stock_with s w rs is handles lists frees stakes =
    stock_kept s w rs is handles (record { small = is.stake.small; only = λ k other. stakes k ∙ is.stake.only k other })
    (λ h made. made_kept h s.view w lists made) frees
