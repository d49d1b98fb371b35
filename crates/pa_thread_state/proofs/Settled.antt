-- A stock whose thread settled what it owes.
use Rattle.std.proofs.Common.{ℕ, ◌≤◌, List, refl, ◌∙◌, subst, arith}
use Rattle.std.specs.List.{sum_by}
use Rattle.pa_region.specs.Takes.{log_of}
use Rattle.pa_region.specs.Totals.{added_as, owes_as}
use Rattle.pa_totals.specs.declared.owed.Owed.{Owed}
use Rattle.pa_totals.specs.Settled.{none_owed, after_settle_all, LeavesSettleAll, SettleAllLeaves}
use Rattle.pa_totals.proofs.Settling.{none_owed_in}
use Rattle.pa_op_specs.specs.Stocks.{StockValue, IsStock, register_in}
use Rattle.pa_op_specs.specs.Workers.{HasItsStake, IsCovered}
use Rattle.pa_op_specs.proofs.Seeing.{made_for_kept}
use Rattle.pa_op_specs.proofs.Stakes.{least_is, can_settle}
use Rattle.pa_op_specs.proofs.Stocks.{stock_with}

module _ (leaves : SettleAllLeaves) (owed : List Owed) (s : StockValue) (is : IsStock s) (stake : HasItsStake s)
    (covered : IsCovered owed s) where
  abbrev pub settled : StockValue
  settled = record s { view = after_settle_all owed s.view }

  left : LeavesSettleAll owed s.view (after_settle_all owed s.view)
  left = leaves owed s.view (can_settle owed s is.stake stake covered)

  -- a thread state that settled stays sound
  pub settled_stock : IsStock settled
  settled_stock = stock_with s (after_settle_all owed s.view) s.registers is
      (record {
        count = is.handles.count;
        owns = is.handles.owns;
        refs = is.handles.refs;
        clean = is.handles.clean;
        sealed = is.handles.sealed;
        made = λ k. made_for_kept s.view (after_settle_all owed s.view) refl (register_in s.registers k) (is.handles.made k);
      })
      refl (λ t. omega arith) left.stakes

  -- a thread state that settled has its stake as before
  pub settled_stake : HasItsStake settled
  settled_stake = let e = left.stakes s.thread in let h = stake in omega arith

  -- the log of a thread state that settled added no more than its steps owe
  pub settled_covered : IsCovered none_owed settled
  settled_covered has q =
      let w = after_settle_all owed s.view in
      let least = left.least ∙ (least_is s.thread s.view is.stake stake).0 in
      let c : sum_by (added_as q) (log_of s.thread w) ≤ sum_by (owes_as q) (log_of s.thread w) =
      subst (λ (n : ℕ). sum_by (added_as q) (log_of n w) ≤ sum_by (owes_as q) (log_of n w)) least (left.covered q) in
      let n = none_owed_in q in
      omega arith
