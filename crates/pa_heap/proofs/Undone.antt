-- A handle that went out and came back.
use Rattle.std.proofs.Common.{◌≡◌, ℕ, zero, suc, ◌+◌, ◌-◌, ◌<◌, List, [], ◌∷◌, length, Option, Some, None, refl, sym, ◌∙◌, ap, subst, arith, inl, inr}
use Rattle.std.specs.Prelude.{slice_set, IfSome, IfNone}
use Rattle.pa_region.specs.declared.view.View.{View}
use Rattle.pa_region.specs.Views.{seen_of, stake_of}
use Rattle.pa_region.specs.Lists.{list_of}
use Rattle.pa_region.specs.Takes.{BeginningsJoin, SeenJoins, ListsJoin, FreeNumbersStay}
use Rattle.pa_region.specs.Hands.{left_after, given_after, united}
use Rattle.pa_region.specs.Aware.{IsAware}
use Rattle.pa_cells.specs.Handles.{ParkedHandle, GiversLackHandles, TakersHaveHandles}
use Rattle.pa_rules.specs.declared.register.Register.TheVariants.{Empty}
use Rattle.pa_op_specs.specs.Stocks.{StockRegister, StockValue, IsStock, register_in}
use Rattle.pa_op_specs.specs.Workers.{HasItsStake}
use Rattle.pa_thread_state.specs.Stopping.{KeepsItsStake}
use Rattle.pa_thread_state.specs.Exchanging.{Parks, TakesIn, TakesHandleIn, IsUndone, register_of, handle_parcel}
use Rattle.pa_thread_state.proofs.Parking.{parked_rests, taken_rests, holds_given}

pub undone_none : (s : StockValue) → IsUndone s s
undone_none s = record {
  thread = refl;
  partitions = refl;
  plain = refl;
  registers = refl;
  caches = refl;
  frees = λ t. refl;
  owns = λ t. refl;
  refs = λ t. refl;
  stakes = λ k. refl;
  logs = λ k. refl;
  lists = λ k. refl;
  seen = λ t. refl;
  budget = refl;
}

-- the thread state has its stake still after a handle went out and came back
pub undone_keeps : (s d : StockValue) → IsUndone s d → HasItsStake s → KeepsItsStake s d
undone_keeps s d undone stake = record {
  thread = undone.thread;
  stake = subst (λ k. 0 < stake_of d.view k) (sym undone.thread) (subst (λ n. 0 < n) (sym (undone.stakes s.thread)) stake);
}

-- a register that is emptied and gets what it had
set_back : (rs : List StockRegister) (i : ℕ) (r : StockRegister) → i < length rs → register_in rs i ≡ r →
    slice_set (slice_set rs i Empty) i r ≡ rs
set_back [] i r within has = absurd (omega arith)
set_back (x ∷ xs) zero r within has = ap (λ (y : StockRegister). y ∷ xs) (sym has)
set_back (x ∷ xs) (suc i) r within has = ap (λ (ys : List StockRegister). x ∷ ys) (set_back xs i r (omega arith) has)

back : GiversLackHandles → TakersHaveHandles → BeginningsJoin → SeenJoins → ListsJoin → FreeNumbersStay →
    (s : StockValue) (reg : ℕ) (p : ParkedHandle) →
    IsStock s → reg < 64 → register_in s.registers reg ≡ register_of p → p.note.view ≡ given_after (handle_parcel p) s.view →
    IsAware (left_after (handle_parcel p) s.view) → IsAware (united (left_after (handle_parcel p) s.view) p.note.view) →
    (d : StockValue) →
    TakesHandleIn reg p (record s { view = left_after (handle_parcel p) s.view; registers = slice_set s.registers reg Empty }) d →
    IsUndone s (record s {
      view = united (left_after (handle_parcel p) s.view) p.note.view;
      registers = slice_set (slice_set s.registers reg Empty) reg (register_of p);
    })
back gives takes joins seen longest stay s reg p is below has given aware both d taken =
    let left = left_after (handle_parcel p) s.view in
    let lacks = gives p.own p.handle.title 0 s.view (holds_given s reg p.own p.handle is below has) in
    let first = parked_rests p.own p.handle s.view lacks in
    let has_again = takes p left taken.parked both in
    let last = taken_rests joins seen stay left p.note.view aware taken.aware both taken.long taken.parked.stakes in
    record {
      thread = refl;
      partitions = refl;
      plain = refl;
      registers = set_back s.registers reg (register_of p) (let n = is.handles.count in omega arith) has;
      caches = refl;
      frees = λ t. has_again.frees t ∙ lacks.frees t;
      owns = λ t. has_again.owns t ∙ lacks.owns t;
      refs = λ t. has_again.refs t ∙ lacks.refs t;
      stakes = λ k. last.stakes k ∙ first.stakes k;
      logs = λ k. last.logs k ∙ first.logs k;
      lists = λ k. elim (longest left p.note.view k).either [
        | inl e ↦ e
        | inr e ↦ e ∙ ap (λ (v : View). list_of k v) given
      ];
      seen = λ t.
          let e = seen left p.note.view t in
          let f : seen_of p.note.view t ≡ seen_of s.view t = ap (λ (v : View). seen_of v t) given in
          let h : seen_of left t ≡ seen_of s.view t = refl in
          omega arith;
      budget =
          let f : p.note.view.budget ≡ 0 = ap (λ (v : View). v.budget) given in
          plus s.view.budget p.note.view.budget f;
    }
  where
    plus : (n m : ℕ) → m ≡ 0 → (n - 0) + m ≡ n
    plus n m e = omega arith

pub undone_back : GiversLackHandles → TakersHaveHandles → BeginningsJoin → SeenJoins → ListsJoin → FreeNumbersStay →
    (s a d : StockValue) (reg : ℕ) (p : ParkedHandle) →
    IsStock s → reg < 64 → IsAware a.view → IsAware d.view → Parks reg (Some p) s a → TakesIn reg (Some p) a d → IsUndone s d
undone_back gives takes joins seen longest stay s a d reg p is below aware both parks taken =
    let left = left_after (handle_parcel p) s.view in
    let mid : StockValue = record s { view = left; registers = slice_set s.registers reg Empty } in
    let t : TakesHandleIn reg p mid d = subst (λ (z : StockValue). TakesHandleIn reg p z d) parks.2 taken in
    subst (λ (z : StockValue). IsUndone s z) (sym t.after_is)
    (back gives takes joins seen longest stay s reg p is below parks.0 parks.1 (subst (λ (z : StockValue). IsAware z.view) parks.2 aware)
    (subst (λ (z : StockValue). IsAware z.view) t.after_is both) d t)

-- By what the calls say: what was handed over came back, since the exchange found no memory, and was taken in again.
pub undone : GiversLackHandles → TakersHaveHandles → BeginningsJoin → SeenJoins → ListsJoin → FreeNumbersStay →
    (s a b d : StockValue) (reg : ℕ) (given back : Option ParkedHandle) →
    IsStock s → reg < 64 → IsAware a.view → IsAware d.view → Parks reg given s a → back ≡ given → b ≡ a →
    IfSome back (λ p. TakesIn reg (Some p) b d) →
    IfNone back (d ≡ b) → IsUndone s d
undone gives takes joins seen longest stay s a b d reg given back is below aware both parks same kept taken none =
    go given parks (subst (λ (o : Option ParkedHandle). IfSome o (λ p. TakesIn reg (Some p) b d)) same taken)
    (subst (λ (o : Option ParkedHandle). IfNone o (d ≡ b)) same none)
  where
    go : (o : Option ParkedHandle) → Parks reg o s a → IfSome o (λ p. TakesIn reg (Some p) b d) → IfNone o (d ≡ b) → IsUndone s d
    go None parked taken none = subst (λ (z : StockValue). IsUndone s z) (sym (none ∙ (kept ∙ parked.0))) (undone_none s)
    go (Some p) parked taken none =
        undone_back gives takes joins seen longest stay s a d reg p is below aware both parked
        (subst (λ (z : StockValue). TakesIn reg (Some p) z d) kept taken)
