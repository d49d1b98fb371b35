use Rattle.std.proofs.Common.{◌≡◌, ◌++◌, ◌∙◌, List, ap, subst, arith}
use Rattle.std.specs.Option.{option_to_list}
use Rattle.pa_slot.specs.declared.title.Title.{Title}
use Rattle.pa_region.specs.declared.view.View.{View}
use Rattle.pa_region.specs.Shares.{Share}
use Rattle.pa_link.specs.Chains.{IsChain}
use Rattle.pa_link.proofs.Gaps.{skipped_more}
use Rattle.pa_link.proofs.chain.skip.Goals as goal

pub loop-done-preserved : goal.loop-done-preserved
loop-done-preserved c = record {
  seat = c.pop-last.ensures.seat ∙ c.loop-done.invariant.seat;
  chain = λ ts is.
      let pop = subst (λ (x : View). (us : List Title) → IsChain x c.loop-done.chain us →
      (rest : List Title) × (us ≡ option_to_list c.pop-last.result ++ rest) × IsChain x c.pop-last.new.self rest)
      (ap (λ (s : Share). s.view) c.loop-done.invariant.seat) c.pop-last.ensures.chain in
      let l = c.loop-done.invariant.len in let e = c.requires.enough in
      skipped_more c.args.seat.now.view c.loop-done.chain c.pop-last.new.self c.loop-done.done c.loop-done.last c.pop-last.result ts
      (c.loop-done.invariant.chain ts is)
      (omega arith) c.pop-last.ensures.none pop;
  slot_len = c.pop-last.ensures.slot_len ∙ c.loop-done.invariant.slot_len;
  len = let l = c.loop-done.invariant.len in let m = c.pop-last.ensures.len in let e = c.requires.enough in omega arith;
}
