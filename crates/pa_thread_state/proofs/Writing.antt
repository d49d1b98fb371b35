-- Stores to the slot of an Own, and the step that records them: that they can be made, and the thread state after them.
use Rattle.std.proofs.Common.{◌≡◌, ℕ, ◌<◌, true, List, [], ◌∷◌, length, refl, ◌∙◌, ap, arith, inl, inr}
use Rattle.std.specs.Prelude.{◌&&◌}
use Rattle.std.specs.List.{sum_by}
use Rattle.std.proofs.lemmas.Bool.{cases_Bool}
use Rattle.pa_slot.specs.declared.title.Title.{Title}
use Rattle.pa_slot.specs.declared.word.Step.TheVariants as steps
use Rattle.pa_slot.specs.Holdings.{one}
use Rattle.pa_slot.specs.Titles.{same_title, IsWellFormed}
use Rattle.pa_region.specs.declared.view.OwnTitle.{OwnTitle}
use Rattle.pa_region.specs.declared.view.View.{View}
use Rattle.pa_region.specs.Waiting.{is_unclean}
use Rattle.pa_region.specs.Moves.{CanCount, after_count, changed, is_own_of, written}
use Rattle.pa_region.specs.Stores.{dirty}
use Rattle.pa_region.specs.Leaves.{CountLeaves, OwnsChange, StatesAreOwns, FilledWords}
use Rattle.pa_quarantine.specs.Filling.{filled}
use Rattle.pa_quarantine.proofs.Writing.{write_told}
use Rattle.pa_cells.specs.declared.handle.Handle.{Handle}
use Rattle.pa_rules.specs.declared.register.Register.TheVariants.{Own}
use Rattle.pa_op_specs.specs.Stocks.{StockValue, IsStock, register_in}
use Rattle.pa_op_specs.specs.Workers.{HasItsStake}
use Rattle.pa_thread_state.specs.Changes.{CanFill}
use Rattle.pa_op_specs.proofs.Seeing.{made_for_kept}
use Rattle.pa_op_specs.proofs.Stakes.{least_is}
use Rattle.pa_op_specs.proofs.Stocks.{register_owns, stock_with}

-- the view after stores of the value and a step that found this word
abbrev pub filled_view : View → Title → ℕ → ℕ → View
filled_view v t value word = after_count steps.Write t word (filled t value v)

abbrev pub filled_stock : StockValue → Handle → ℕ → ℕ → StockValue
filled_stock s h value word = record s { view = filled_view s.view h.title value word }

-- what is required of the step
pub can_tell : StatesAreOwns → OwnsChange → FilledWords → (n : ℕ) (s : StockValue) (value : ℕ) (h : Handle) → IsStock s → HasItsStake s →
    0 < s.view.budget →
    IsWellFormed n h.title → length s.view.words ≡ n → CanFill h s → CanCount steps.Write h.title (filled h.title value s.view)
can_tell states owns fills n s value h is stake budget well long can =
    write_told states owns fills n h.title value s.view (filled h.title value s.view) well long can
    (least_is s.thread s.view is.stake stake).1 budget refl

-- two changes of the first Own of a title are one
changed_both : (t : Title) (f g : OwnTitle → OwnTitle) → ((o : OwnTitle) → (f o).title ≡ o.title) → (os : List OwnTitle) →
    changed (is_own_of t) g (changed (is_own_of t) f os) ≡ changed (is_own_of t) (λ o. g (f o)) os
changed_both t f g same [] = refl
changed_both t f g same (o ∷ os) = elim (cases_Bool (same_title o.title t)) [
  | inl y ↦ let z : same_title (f o).title t ≡ true = ap (λ u. same_title u t) (same o) ∙ y in rw (y, z) refl
  | inr k ↦ rw (k, k) (ap (λ ps. o ∷ ps) (changed_both t f g same os))
]

-- the Own is clean again
filled_clean : OwnsChange → (t : Title) (os : List OwnTitle) → 0 < sum_by (λ (o : OwnTitle). one (same_title o.title t)) os →
    sum_by (λ (o : OwnTitle). one (is_unclean o.state)) os ≡ 0 →
    sum_by (λ (o : OwnTitle). one (is_unclean o.state)) (changed (is_own_of t) written (changed (is_own_of t) dirty os)) ≡ 0
filled_clean owns t os has clean =
    let first = owns.0 t (λ o. written (dirty o)) os has in
    let a = first.1.replaced (λ (o : OwnTitle). one (is_unclean o.state)) in
    let e = ap (sum_by (λ (o : OwnTitle). one (is_unclean o.state))) (changed_both t dirty written (λ o. refl) os) in
    omega arith

-- and sealed if it was
filled_seals : OwnsChange → (t u : Title) (os : List OwnTitle) →
    sum_by (λ (o : OwnTitle). one (same_title o.title u && o.sealed)) (changed (is_own_of t) written (changed (is_own_of t) dirty os))
    ≡ sum_by (λ (o : OwnTitle). one (same_title o.title u && o.sealed)) os
filled_seals owns t u os =
    owns.1 t written (λ (o : OwnTitle). one (same_title o.title u && o.sealed)) (changed (is_own_of t) dirty os) (λ o. refl)
    ∙ owns.1 t dirty (λ (o : OwnTitle). one (same_title o.title u && o.sealed)) os (λ o. refl)

-- the thread state stays sound
pub filled_sound : CountLeaves → OwnsChange → StatesAreOwns → FilledWords → (n : ℕ) (s : StockValue) (reg value word : ℕ) (h : Handle) →
    IsStock s → HasItsStake s →
    0 < s.view.budget → reg < 64 → register_in s.registers reg ≡ Own h → IsWellFormed n h.title → length s.view.words ≡ n → CanFill h s →
    IsStock (filled_stock s h value word)
filled_sound counts owns states fills n s reg value word h is stake budget below own well long can =
    let t = h.title in
    let v = filled t value s.view in
    let w = filled_view s.view t value word in
    let leaves = counts steps.Write t word v (can_tell states owns fills n s value h is stake budget well long can) in
    stock_with s w s.registers is
    (record {
      count = is.handles.count;
      owns = λ u.
          let a = leaves.owns u in
          let b = owns.1 t dirty (λ (o : OwnTitle). one (same_title o.title u)) s.view.owns (λ o. refl) in
          let c = is.handles.owns u in
          omega arith;
      refs = λ u. let a = leaves.refs u in let b = is.handles.refs u in omega arith;
      clean = filled_clean owns t s.view.owns (register_owns s reg h is below own) is.handles.clean;
      sealed = λ u. filled_seals owns t u s.view.owns ∙ is.handles.sealed u;
      made = λ k. made_for_kept s.view w refl (register_in s.registers k) (is.handles.made k);
    })
    refl (λ u. let a = leaves.frees u in omega arith) leaves.entry.stakes
