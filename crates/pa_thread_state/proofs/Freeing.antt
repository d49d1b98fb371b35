-- A free by the owner: that it can be made, and the thread state after it.
use Rattle.std.proofs.Common.{◌≡◌, ℕ, ◌+◌, ◌<◌, Bool, false, List, length, refl, ◌∙◌, ap, arith, inl, inr}
use Rattle.std.specs.Prelude.{◌&&◌, slice_set}
use Rattle.std.specs.List.{sum_by}
use Rattle.std.proofs.lemmas.List.{length-set}
use Rattle.pa_slot.specs.declared.title.Title.{Title}
use Rattle.pa_slot.specs.declared.word.Step.TheVariants as steps
use Rattle.pa_slot.specs.declared.title.OwnState.TheVariants.{Clean, Dirty}
use Rattle.pa_slot.specs.Titles.{same_title, content_count}
use Rattle.pa_slot.specs.Holdings.{one}
use Rattle.pa_slot.proofs.Same.{title_tells}
use Rattle.pa_region.specs.declared.view.OwnTitle.{OwnTitle}
use Rattle.pa_region.specs.declared.view.View.{View}
use Rattle.pa_region.specs.Views.{own_of, own_as, HasStake}
use Rattle.pa_region.specs.Aware.{IsAware}
use Rattle.pa_region.specs.Waiting.{is_unclean}
use Rattle.pa_region.specs.Moves.{CanCount, after_count, without, changed, is_own_of}
use Rattle.pa_region.specs.Stores.{poisoned_to}
use Rattle.pa_region.specs.Leaves.{CountLeaves, OwnsChange, StatesAreOwns}
use Rattle.pa_region.proofs.Pieces.{found_title}
use Rattle.pa_region.proofs.PoisonedOwns.{sum_without}
use Rattle.pa_quarantine.specs.Filling.{poisoned}
use Rattle.pa_quarantine.proofs.Filling.{poison_ready}
use Rattle.pa_quarantine.proofs.Handing.{without_changed, without_less}
use Rattle.pa_cells.specs.declared.handle.Handle.{Handle}
use Rattle.pa_cells.specs.Handles.{is_plain}
use Rattle.pa_rules.specs.declared.register.Register.TheVariants.{Empty, Own, Freed}
use Rattle.pa_op_specs.specs.Stocks.{StockValue, IsStock, register_in, owns_one, seals_one, refs_one}
use Rattle.pa_op_specs.specs.Workers.{HasItsStake}
use Rattle.pa_op_specs.proofs.Registers.{sum_set, made_set}
use Rattle.pa_op_specs.proofs.Seeing.{made_for_kept}
use Rattle.pa_op_specs.proofs.Stakes.{least_is}
use Rattle.pa_thread_state.proofs.Leaving.{clean_own, seals_own}
use Rattle.pa_thread_state.proofs.Seals.{no_seals}
use Rattle.pa_op_specs.proofs.Stocks.{register_owns, stock_with}

-- the view after the content was poisoned and a free found this word
abbrev pub freed_view : View → Title → ℕ → View
freed_view v t word = after_count steps.Free t word (poisoned t v)

abbrev pub freed : StockValue → Handle → ℕ → ℕ → StockValue
freed s h r word = record s { view = freed_view s.view h.title word; registers = slice_set s.registers r Freed }

-- an owner can free, and can make the step then
pub can_free : (s : StockValue) (r : ℕ) (h : Handle) → IsStock s → HasItsStake s → 0 < s.view.budget → r < 64 →
    register_in s.registers r ≡ Own h →
    (0 < own_as s.view h.title Clean + own_as s.view h.title Dirty) × HasStake s.view × (0 < s.view.budget)
can_free s r h is stake budget below own =
    let has = register_owns s r h is below own in
    let clean = clean_own s.view h.title is.handles.clean in
    (omega arith, (least_is s.thread s.view is.stake stake).1, budget)

pub can_step : StatesAreOwns → OwnsChange → (s : StockValue) (r : ℕ) (h : Handle) → IsStock s → HasItsStake s → 0 < s.view.budget → r < 64 →
    register_in s.registers r ≡ Own h →
    CanCount steps.Free h.title (poisoned h.title s.view)
can_step states owns s r h is stake budget below own =
    let can = can_free s r h is stake budget below own in
    (poison_ready states owns h.title s.view can.0, can.1, budget, refl)

-- an Own that isn't clean went with the free
freed_clean : (t : Title) (os : List OwnTitle) → sum_by (λ (o : OwnTitle). one (is_unclean o.state)) os ≡ 0 →
    sum_by (λ (o : OwnTitle). one (is_unclean o.state))
    (without (is_own_of t) (changed (is_own_of t) (poisoned_to (content_count t)) os)) ≡ 0
freed_clean t os clean =
    let e = ap (sum_by (λ (o : OwnTitle). one (is_unclean o.state))) (without_changed t (poisoned_to (content_count t)) (λ o. refl) os) in
    let less = without_less (is_own_of t) (λ (o : OwnTitle). one (is_unclean o.state)) os in
    omega arith

-- Owns of other titles are sealed as before
freed_seals : (t u : Title) (os : List OwnTitle) → same_title t u ≡ false →
    sum_by (λ (o : OwnTitle). one (same_title o.title u && o.sealed))
    (without (is_own_of t) (changed (is_own_of t) (poisoned_to (content_count t)) os))
    ≡ sum_by (λ (o : OwnTitle). one (same_title o.title u && o.sealed)) os
freed_seals t u os other =
    ap (sum_by (λ (o : OwnTitle). one (same_title o.title u && o.sealed)))
    (without_changed t (poisoned_to (content_count t)) (λ o. refl) os)
    ∙ sum_without (λ (o : OwnTitle). one (same_title o.title u && o.sealed)) (is_own_of t) os
    (λ o is. ap (λ (x : Bool). one (x && o.sealed)) (ap (λ (x : Title). same_title x u) (found_title t o.title is) ∙ other))

-- the thread state stays sound
pub freed_stock : CountLeaves → OwnsChange → StatesAreOwns → (s : StockValue) (r word : ℕ) (h : Handle) → IsStock s → IsAware s.view →
    HasItsStake s → 0 < s.view.budget → r < 64 →
    register_in s.registers r ≡ Own h → IsStock (freed s h r word)
freed_stock counts owns states s r word h is aware stake budget below own =
    let t = h.title in
    let w = freed_view s.view t word in
    let leaves = counts steps.Free t word (poisoned t s.view) (can_step states owns s r h is stake budget below own) in
    let rs = s.registers in
    let inside : r < length rs = let n = is.handles.count in omega arith in
    let owned : (u : Title) → own_of w u ≡ sum_by (owns_one u) (slice_set rs r Freed) = λ u.
    let a = leaves.owns u in let b = is.handles.owns u in let c = sum_set (owns_one u) rs r Freed Empty inside in
    let d : owns_one u (register_in rs r) ≡ one (same_title t u) = ap (owns_one u) own in
    let e = owns.1 t (poisoned_to (content_count t)) (λ (o : OwnTitle). one (same_title o.title u)) s.view.owns (λ o. refl) in
    omega arith in
    stock_with s w (slice_set rs r Freed) is
    (record {
      count = length-set rs r Freed ∙ is.handles.count;
      owns = owned;
      refs = λ u. let a = leaves.refs u in let b = is.handles.refs u in let c = sum_set (refs_one u) rs r Freed Empty inside in
          let d : refs_one u (register_in rs r) ≡ 0 = ap (refs_one u) own in omega arith;
      clean = freed_clean t s.view.owns is.handles.clean;
      sealed = λ u. elim (title_tells t u) [
        | inl y ↦
            (let a = owned u in let b = is.handles.owns u in let c = sum_set (owns_one u) rs r Freed Empty inside in
            let d : owns_one u (register_in rs r) ≡ 1 = ap (owns_one u) own ∙ ap one y.0 in
            let e = aware.own_once u in
            let f = no_seals s.plain_from u (slice_set rs r Freed) (omega arith) in let g = seals_own w u in omega arith)
        | inr n ↦
            (let a = freed_seals t u s.view.owns n.0 in let b = is.handles.sealed u in
            let c = sum_set (seals_one s.plain_from u) rs r Freed Empty inside in
            let d : seals_one s.plain_from u (register_in rs r) ≡ 0 =
            ap (seals_one s.plain_from u) own ∙ ap (λ (x : Bool). one (x && is_plain s.plain_from h)) n.0 in omega arith)
      ];
      made = made_set w rs r Freed inside tt (λ k. made_for_kept s.view w refl (register_in rs k) (is.handles.made k));
    })
    refl (λ u. let a = leaves.frees u in omega arith) leaves.entry.stakes
