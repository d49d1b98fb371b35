-- One settling after the other.
use Rattle.std.proofs.Common.{◌≡◌, ℕ, zero, suc, ◌+◌, ◌*◌, ◌<◌, List, ◌++◌, ◌∙◌, ap, subst, arith}
use Rattle.std.specs.Prelude.{◌==◌, if◌then◌else◌}
use Rattle.std.specs.List.{sum_by}
use Rattle.std.proofs.lemmas.List.{append_assoc}
use Rattle.std.proofs.lemmas.List.Sums.{sum_by-append}
use Rattle.pa_region.specs.declared.view.Entry.{Entry}
use Rattle.pa_region.specs.declared.view.View.{View}
use Rattle.pa_region.specs.Views.{least_stake}
use Rattle.pa_region.specs.Takes.{log_of}
use Rattle.pa_region.specs.Leaves.{AddLeaves}
use Rattle.pa_region.specs.Totals.{added_to}
use Rattle.pa_totals.specs.declared.owed.Owed.{Owed}
use Rattle.pa_totals.specs.Settled.{owed_to, after_settle, addition, four_added, owed_at, CanSettleAll, after_settle_all, all_added, LeavesSettleAll}
use Rattle.pa_totals.proofs.Settling.{word_added, leaves_settle, settles_each}

-- what a settling of partition p adds to word number k
abbrev adds_to : ℕ → ℕ → Owed → ℕ
adds_to k p o =
    (if 4 * p == k then o.issued else 0) + ((if 4 * p + 1 == k then o.freed else 0)
    + ((if 4 * p + 2 == k then o.entered else 0) + (if 4 * p + 3 == k then o.left else 0)))

-- the sum over four lists, one after the other
sum_four : (f : Entry → ℕ) (xs ys zs ws : List Entry) (x y z w : ℕ) → sum_by f xs ≡ x → sum_by f ys ≡ y → sum_by f zs ≡ z →
    sum_by f ws ≡ w → sum_by f (xs ++ (ys ++ (zs ++ ws))) ≡ x + (y + (z + w))
sum_four f xs ys zs ws x y z w first second third fourth =
    let a = sum_by-append f xs (ys ++ (zs ++ ws)) in
    let b = sum_by-append f ys (zs ++ ws) in
    let c = sum_by-append f zs ws in
    omega arith

four_adds : (k p : ℕ) (o : Owed) → sum_by (added_to k) (four_added p o) ≡ adds_to k p o
four_adds k p o =
    sum_four (added_to k) (addition (4 * p) o.issued) (addition (4 * p + 1) o.freed) (addition (4 * p + 2) o.entered)
    (addition (4 * p + 3) o.left) _ _ _ _ (word_added k (4 * p) o.issued) (word_added k (4 * p + 1) o.freed)
    (word_added k (4 * p + 2) o.entered) (word_added k (4 * p + 3) o.left)

sums_to : (k : ℕ) (owed : List Owed) → sum_by (added_to k) (all_added owed) ≡
    adds_to k 0 (owed_at owed 0) + (adds_to k 1 (owed_at owed 1) + (adds_to k 2 (owed_at owed 2) + adds_to k 3 (owed_at owed 3)))
sums_to k owed =
    sum_four (added_to k) (four_added 0 (owed_at owed 0)) (four_added 1 (owed_at owed 1)) (four_added 2 (owed_at owed 2))
    (four_added 3 (owed_at owed 3)) _ _ _ _ (four_adds k 0 (owed_at owed 0)) (four_adds k 1 (owed_at owed 1))
    (four_adds k 2 (owed_at owed 2)) (four_adds k 3 (owed_at owed 3))

-- to each word what was owed to it
all_adds : (owed : List Owed) (p q : ℕ) → p < 4 → q < 4 → sum_by (added_to (4 * p + q)) (all_added owed) ≡ owed_to q (owed_at owed p)
all_adds owed zero zero a b = sums_to 0 owed ∙ omega arith
all_adds owed zero (suc zero) a b = sums_to 1 owed ∙ omega arith
all_adds owed zero (suc (suc zero)) a b = sums_to 2 owed ∙ omega arith
all_adds owed zero (suc (suc (suc zero))) a b = sums_to 3 owed ∙ omega arith
all_adds owed (suc zero) zero a b = sums_to 4 owed ∙ omega arith
all_adds owed (suc zero) (suc zero) a b = sums_to 5 owed ∙ omega arith
all_adds owed (suc zero) (suc (suc zero)) a b = sums_to 6 owed ∙ omega arith
all_adds owed (suc zero) (suc (suc (suc zero))) a b = sums_to 7 owed ∙ omega arith
all_adds owed (suc (suc zero)) zero a b = sums_to 8 owed ∙ omega arith
all_adds owed (suc (suc zero)) (suc zero) a b = sums_to 9 owed ∙ omega arith
all_adds owed (suc (suc zero)) (suc (suc zero)) a b = sums_to 10 owed ∙ omega arith
all_adds owed (suc (suc zero)) (suc (suc (suc zero))) a b = sums_to 11 owed ∙ omega arith
all_adds owed (suc (suc (suc zero))) zero a b = sums_to 12 owed ∙ omega arith
all_adds owed (suc (suc (suc zero))) (suc zero) a b = sums_to 13 owed ∙ omega arith
all_adds owed (suc (suc (suc zero))) (suc (suc zero)) a b = sums_to 14 owed ∙ omega arith
all_adds owed (suc (suc (suc zero))) (suc (suc (suc zero))) a b = sums_to 15 owed ∙ omega arith
all_adds owed (suc (suc (suc (suc p)))) q a b = absurd (omega arith)
all_adds owed p (suc (suc (suc (suc q)))) a b = absurd (omega arith)

pub leaves_all : AddLeaves → (owed : List Owed) (v : View) → CanSettleAll owed v → LeavesSettleAll owed v (after_settle_all owed v)
leaves_all leaves owed v can =
    let each = settles_each leaves owed v can in
    let o0 = owed_at owed 0 in
    let o1 = owed_at owed 1 in
    let o2 = owed_at owed 2 in
    let o3 = owed_at owed 3 in
    let v1 = after_settle 0 o0 v in
    let v2 = after_settle 1 o1 v1 in
    let v3 = after_settle 2 o2 v2 in
    let w = after_settle 3 o3 v3 in
    let a = leaves_settle leaves 0 o0 v each.first in
    let b = leaves_settle leaves 1 o1 v1 each.second in
    let c = leaves_settle leaves 2 o2 v2 each.third in
    let d = leaves_settle leaves 3 o3 v3 each.fourth in
    let n = least_stake v.stakes in
    let l1 : least_stake v1.stakes ≡ n = a.least in
    let l2 : least_stake v2.stakes ≡ n = b.least ∙ l1 in
    let l3 : least_stake v3.stakes ≡ n = c.least ∙ l2 in
    let e0 = four_added 0 o0 in
    let e1 = four_added 1 o1 in
    let e2 = four_added 2 o2 in
    let e3 = four_added 3 o3 in
    let log2 : log_of n v2 ≡ log_of n v1 ++ e1 = subst (λ (k : ℕ). log_of k v2 ≡ log_of k v1 ++ e1) l1 b.log in
    let log3 : log_of n v3 ≡ log_of n v2 ++ e2 = subst (λ (k : ℕ). log_of k v3 ≡ log_of k v2 ++ e2) l2 c.log in
    let log4 : log_of n w ≡ log_of n v3 ++ e3 = subst (λ (k : ℕ). log_of k w ≡ log_of k v3 ++ e3) l3 d.log in
    let two : log_of n v2 ≡ log_of n v ++ (e0 ++ e1) = log2 ∙ (ap (λ (l : List Entry). l ++ e1) a.log ∙ append_assoc (log_of n v) e0 e1) in
    let three : log_of n v3 ≡ log_of n v ++ ((e0 ++ e1) ++ e2) = log3 ∙
    (ap (λ (l : List Entry). l ++ e2) two ∙ append_assoc (log_of n v) (e0 ++ e1) e2) in
    record {
      least = d.least ∙ l3;
      log = log4 ∙ (ap (λ (l : List Entry). l ++ e3) three ∙ (append_assoc (log_of n v) ((e0 ++ e1) ++ e2) e3
          ∙ ap (λ (l : List Entry). log_of n v ++ l) (append_assoc (e0 ++ e1) e2 e3 ∙ append_assoc e0 e1 (e2 ++ e3))));
      other_logs = λ k ne. d.other_logs k (λ e. ne (e ∙ l3)) ∙
          (c.other_logs k (λ e. ne (e ∙ l2)) ∙ (b.other_logs k (λ e. ne (e ∙ l1)) ∙ a.other_logs k ne));
      stakes = λ k. d.stakes k ∙ (c.stakes k ∙ (b.stakes k ∙ a.stakes k));
      covered = λ q. let r = each.room.1 q in omega arith;
      adds = all_adds owed;
    }
