use Rattle.std.proofs.Common.{◌≡◌, length, ap, arith, sym, subst}
use Rattle.std.specs.Prelude.{All}
use Rattle.std.proofs.lemmas.List.{length_push}
use Rattle.std.proofs.lemmas.List.Elements.{All-push}
use Rattle.pa_record.specs.Root.{new_root}
use Rattle.pa_player.proofs.Empty.{are_new}
use Rattle.pa_player.proofs.roots.Roots.new.Goals as goal

pub returns : goal.returns
returns c = are_new c.args.partitions c.loop.of.items (omega (arith, c.loop.invariant.0)) c.loop.invariant.1

pub loop-preserved : goal.loop-preserved
loop-preserved c = (
  let p = ap length c.in_ok-push.ensures.items in let q = length_push c.loop.of.items c.in_ok-new.field-0 in let n = c.loop.invariant.0 in
      omega arith,
  subst (λ xs. All (λ r. r ≡ new_root) xs) (sym c.in_ok-push.ensures.items)
      (All-push (λ r. r ≡ new_root) c.loop.of.items c.in_ok-new.field-0 c.loop.invariant.1 c.in_ok-new.ensures.start),
)
