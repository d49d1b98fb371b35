use Rattle.std.proofs.Common.{sym, ◌∙◌, subst, arith}
use Rattle.std.proofs.lemmas.Bool.{false≢true, lt-ltb, ltb-true}
use Rattle.pa_rules.specs.Sizes.{HasClass}
use Rattle.pa_thread_state.proofs.stock.Stock.room.Goals as goal

pub count_listed-requires-clause-class : goal.count_listed-requires-clause-class
count_listed-requires-clause-class g c = subst (λ v. HasClass v c.args.class) c.version.ensures (c.has_class.ensures.0 c.if-has_class.true)

pub returns-then-has_class : goal.returns-then-has_class
returns-then-has_class g c =
    let real = subst (λ v. HasClass v c.args.class) c.version.ensures (c.has_class.ensures.0 c.if-has_class.true) in (
      λ less. (real, (let low = ltb-true _ _ less in omega (arith, low, c.count_listed.ensures.count, c.cache_limit.ensures.limit))),
      λ both. lt-ltb _ _ (let low = both.1 in omega (arith, low, c.count_listed.ensures.count, c.cache_limit.ensures.limit)),
    )

pub returns-else-has_class : goal.returns-else-has_class
returns-else-has_class g c = (
  λ never. absurd (false≢true never),
  λ both. absurd (false≢true (sym c.if-has_class.false
      ∙ c.has_class.ensures.1 (subst (λ v. HasClass v c.args.class) (sym c.version.ensures) both.0))),
)
