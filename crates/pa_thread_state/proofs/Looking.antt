-- A look at the slot of a register's handle: the thread state after it.
use Rattle.std.proofs.Common.{◌≡◌, ℕ, Bool, true, false, refl, ◌∙◌, arith}
use Rattle.std.specs.Prelude.{◌==◌, if◌then◌else◌}
use Rattle.pa_slot.specs.Count.{refs_of}
use Rattle.pa_slot.specs.Holdings.{one}
use Rattle.pa_record.specs.declared.entry.Seen.{Seen}
use Rattle.pa_record.specs.Spans.{name_of}
use Rattle.pa_region.specs.declared.view.OwnTitle.{OwnTitle}
use Rattle.pa_region.specs.Waiting.{is_unclean}
use Rattle.pa_region.specs.Moves.{after_look, idle_if}
use Rattle.pa_region.specs.Leaves.{LookLeaves, OwnsChange}
use Rattle.pa_cells.specs.declared.handle.Handle.{Handle}
use Rattle.pa_op_specs.specs.Stocks.{StockValue, IsStock, register_in}
use Rattle.pa_op_specs.specs.Workers.{HasItsStake}
use Rattle.pa_op_specs.proofs.Seeing.{made_for_kept}
use Rattle.pa_op_specs.proofs.Stakes.{least_is}
use Rattle.pa_op_specs.proofs.Stocks.{stock_with}

-- what a look at a handle's slot answers
abbrev pub seen_at : Handle → ℕ → Seen
seen_at h word = record { slot = name_of h.title; found = record { 0 = word } }

-- the thread state after a look that found this word
abbrev pub looked : StockValue → Handle → ℕ → StockValue
looked s h word = record s { view = after_look h.title word s.view }

-- a look leaves the state of Owns
idle_unclean : (word : ℕ) (o : OwnTitle) → one (is_unclean (idle_if word o).state) ≡ one (is_unclean o.state)
idle_unclean word o = go (refs_of word == 0)
  where
    go : (b : Bool) → one (is_unclean (if b then record o { idle = true } else o).state) ≡ one (is_unclean o.state)
    go true = refl
    go false = refl

-- the thread state stays sound
pub looked_stock : LookLeaves → OwnsChange → (s : StockValue) (word : ℕ) (h : Handle) → IsStock s → HasItsStake s →
    IsStock (looked s h word)
looked_stock looks owns s word h is stake =
    let t = h.title in
    let w = after_look t word s.view in
    let leaves = looks t word s.view (least_is s.thread s.view is.stake stake).1 in
    stock_with s w s.registers is
    (record {
      count = is.handles.count;
      owns = λ u. leaves.0.owns u ∙ is.handles.owns u;
      refs = λ u. leaves.0.refs u ∙ is.handles.refs u;
      clean = owns.1 t (idle_if word) (λ (o : OwnTitle). one (is_unclean o.state)) s.view.owns (idle_unclean word) ∙ is.handles.clean;
      sealed = λ u. leaves.0.sealed u ∙ is.handles.sealed u;
      made = λ k. made_for_kept s.view w refl (register_in s.registers k) (is.handles.made k);
    })
    refl (λ u. let a = leaves.0.frees u in omega arith) leaves.1.stakes

-- the stake is there as before
pub looked_stake : LookLeaves → (s : StockValue) (word : ℕ) (h : Handle) → IsStock s → HasItsStake s → HasItsStake (looked s h word)
looked_stake looks s word h is stake =
    let leaves = looks h.title word s.view (least_is s.thread s.view is.stake stake).1 in
    let e = leaves.1.stakes s.thread in omega arith
