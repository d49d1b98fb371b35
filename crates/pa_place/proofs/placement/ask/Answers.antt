use Rattle.std.proofs.Common.{◌≡◌, ◌+◌, refl, sym, ◌∙◌, ap, subst, arith}
use Rattle.std.specs.Prelude.{is_none, IsNone}
use Rattle.std.proofs.Common.{true, Option, Some, None}
use Rattle.std.proofs.lemmas.Bool.{false≢true}
use Rattle.pa_record.specs.Root.{span_for}
use Rattle.pa_record.specs.Pool.{PoolState}
use Rattle.pa_place.specs.Placed.{IsStep}
use Rattle.pa_record.proofs.Mapping.{born_more}
use Rattle.pa_place.proofs.placement.ask.Goals as goal

pub returns-in-Some-clause-asks : goal.returns-in-Some-clause-asks
returns-in-Some-clause-asks c = (
  is_none_at (span_for c.args.class c.args.root.now.root) (sym c.asks.ensures ∙ c.if-not-asks.false),
  Some c.in-Some.first,
  record { entry = c.entries-entry.ensures; lowest = c.in-Some.ensures.lowest; took = c.in-Some.ensures.after },
  c.«open».ensures.opened,
)
  where
    is_none_at : {A : Type 0} (o : Option A) → is_none o ≡ true → IsNone o
    is_none_at None e = refl
    is_none_at (Some x) e = absurd (false≢true e)

pub returns-in-Some-clause-step : goal.returns-in-Some-clause-step
returns-in-Some-clause-step c =
    let n = c.entries-entry.ensures in
    let m : c.entries-entry.result + 1 ≡ c.take.new.self.entries = ap (λ k. k + 1) n ∙
    sym (ap (λ (p : PoolState). p.entries) c.in-Some.ensures.after) in
    subst (λ k. IsStep k c.take.new.self.entries c.args.root.now.root c.«open».new.self.root) n
    (subst (λ k. IsStep c.entries-entry.result k c.args.root.now.root c.«open».new.self.root) m c.«open».ensures.step)

pub returns-in_default-clause-step : goal.returns-in_default-clause-step
returns-in_default-clause-step c =
    let n = c.args.pool.now.entries in
    let m : c.take.new.self.entries ≡ n + 1 = ap (λ (p : PoolState). p.entries) c.in_default.ensures.after in
    record {
      turn = omega arith;
      rises = omega arith;
      entries = omega arith;
      one = omega arith;
      born = λ old. born_more n c.take.new.self.entries c.args.root.now.root (omega arith) old;
    }
