-- What stays over all views when one view changes and keeps it.
use Rattle.std.proofs.Common.{◌≡◌, ℕ, ◌+◌, ◌≤◌, ◌&&◌, List, set, refl, arith, ltb, leb}
use Rattle.std.proofs.lemmas.List.Sums.{sum_by-le-sum_by}
use mathlib.Core.Option.{some}
use lib.ListN.{get_elem?}
use Rattle.pa_slot.specs.declared.title.Title.{Title}
use Rattle.pa_slot.specs.Holdings.{RawByte, one, amount}
use Rattle.pa_machine.specs.Events.{total_of}
use Rattle.pa_region.specs.declared.view.RawRange.{RawRange}
use Rattle.pa_region.specs.declared.view.View.{View}
use Rattle.pa_region.specs.Views.{raw_piece, held_of_view, shown, low_of, low_in, uncut_in, undone_of, undone_in, stake_of, stakes_in}
use Rattle.pa_region.proofs.Adding.{one_and, sum_set}
use Rattle.pa_region.proofs.Pieces.{held_split, total_sum}

-- floors stay if a view's raw ranges do
pub low_set : (views : List View) (i : ℕ) (v w : View) → get_elem? views i ≡ some v → w.raws ≡ v.raws → (b n : ℕ) →
    low_in (set views i w) b n ≡ low_in views b n
low_set views i v w at_i e b n =
    let c = sum_set (λ u. low_of u b n) views i v w at_i in
    let same : low_of w b n ≡ low_of v b n = rw e refl in
    omega arith

-- stakes stay
pub stakes_set : (views : List View) (i : ℕ) (v w : View) → get_elem? views i ≡ some v → ((k : ℕ) → stake_of w k ≡ stake_of v k) → (k : ℕ) →
    stakes_in (set views i w) k ≡ stakes_in views k
stakes_set views i v w at_i same k =
    let c = sum_set (λ u. stake_of u k) views i v w at_i in
    let s = same k in
    omega arith

-- what a view's own list says was uncut, some log says, if the lists stay and no log loses anything
pub undone_set : (views : List View) (i : ℕ) (v w : View) → get_elem? views i ≡ some v → w.uncut ≡ v.uncut →
    ((t : Title) → uncut_in views t ≤ uncut_in (set views i w) t) → ((t : Title) → undone_in views t ≤ uncut_in views t) →
    (t : Title) → undone_in (set views i w) t ≤ uncut_in (set views i w) t
undone_set views i v w at_i e grows before t =
    let c = sum_set (λ u. undone_of u t) views i v w at_i in
    let same : undone_of w t ≡ undone_of v t = rw e refl in
    let g = grows t in
    let b = before t in
    omega arith

-- a raw range with a low floor is a raw range, of one view
pub low_held : (v : View) (b n : ℕ) → low_of v b n ≤ held_of_view v (RawByte b)
low_held v b n =
    let h = held_split v (RawByte b) in
    let l = sum_by-le-sum_by (λ (r : RawRange). one ((leb r.start b && ltb b (r.start + r.len)) && leb r.floor n))
    (λ (r : RawRange). amount (RawByte b) (raw_piece r)) v.raws
    (λ r. one_and (leb r.start b && ltb b (r.start + r.len)) (leb r.floor n)) in
    omega arith

-- in all views together, no more raw ranges have a byte with a floor of at most n than have the byte
pub low_raw : (words : List ℕ) (views : List View) (b n : ℕ) → low_in views b n ≤ total_of (shown words views) (RawByte b)
low_raw words views b n =
    let s = total_sum words views (RawByte b) in
    let l = sum_by-le-sum_by (λ v. low_of v b n) (λ v. held_of_view v (RawByte b)) views (λ v. low_held v b n) in
    omega arith
