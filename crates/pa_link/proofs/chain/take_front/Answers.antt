use Rattle.std.proofs.Common.{◌≡◌, ◌+◌, ◌++◌, ◌∷◌, ◌∙◌, [], List, Option, take, drop, length, length-append, refl, ap, sym, subst, arith}
use Rattle.std.specs.Prelude.{◌↔◌, IsNone}
use Rattle.std.specs.Option.{option_to_list}
use Rattle.arrayvec.specs.ArrayVec.{ArrayVec}
use Rattle.pa_slot.specs.declared.title.Title.{Title}
use Rattle.pa_region.specs.declared.view.View.{View}
use Rattle.pa_region.specs.Shares.{Share}
use Rattle.pa_link.specs.Chains.{IsChain}
use Rattle.pa_link.proofs.Gaps.{AreTaken, taken_some, taken_none}
use Rattle.pa_link.proofs.chain.take_front.Goals as goal
use Rattle.pa_link.proofs.chain.take_front.Goals.{in-Some, in_default}

pub loop-taken-preserved : goal.loop-taken-preserved
loop-taken-preserved c =
    let v = c.args.seat.now.view in let n = c.loop-taken.taken in let before = c.loop-taken.invariant in
    let now = c.loop-taken.chain in let next = c.pop.new.self in let m = c.pop.ensures.len in
    let pop = subst (λ (x : View). (us : List Title) → IsChain x now us →
    (rest : List Title) × (us ≡ option_to_list c.pop.result ++ rest) × IsChain x next rest)
    (ap (λ (s : Share). s.view) before.seat) c.pop.ensures.chain in
    elim c.match-pop.branch [
      | in-Some w ↦
          let t : Title = w.in-Some.title in
          let off = subst (λ (o : Option Title). (us : List Title) → IsChain v now us →
          (rest : List Title) × (us ≡ option_to_list o ++ rest) × IsChain v next rest) w.in-Some.is pop in
          let more : c.match-pop.batch.items ≡ c.loop-taken.batch.items ++ t ∷ [] = ap (λ (b : ArrayVec Title). b.items) w.batch-is
          ∙ w.push.ensures.items in
          record {
            seat = c.pop.ensures.seat ∙ before.seat;
            chain = λ ts is. taken_some v now next n c.loop-taken.batch.items c.match-pop.batch.items t ts (before.chain ts is) more off;
            slot_len = c.pop.ensures.slot_len ∙ before.slot_len;
            len = let l = before.len in omega arith;
            few = let f = before.few in omega (arith, ap length more, length-append c.loop-taken.batch.items (t ∷ []));
          }
      | in_default w ↦
          let same : c.match-pop.batch.items ≡ c.loop-taken.batch.items = ap (λ (b : ArrayVec Title). b.items) w.batch-is in
          let none = subst (λ (o : Option Title). IsNone o ↔ (now.len ≡ 0)) w.in_default.is c.pop.ensures.none in
          let off = subst (λ (o : Option Title). (us : List Title) → IsChain v now us →
          (rest : List Title) × (us ≡ option_to_list o ++ rest) × IsChain v next rest) w.in_default.is pop in
          record {
            seat = c.pop.ensures.seat ∙ before.seat;
            chain = λ ts is. subst (λ items. AreTaken v next (n + 1) items ts) (sym same)
                (taken_none v now next n c.loop-taken.batch.items ts (before.chain ts is) (none.0 refl) off);
            slot_len = c.pop.ensures.slot_len ∙ before.slot_len;
            len = let l = before.len in omega arith;
            few = let f = before.few in omega (arith, ap length same);
          }
    ]

pub returns-clause-chain : goal.returns-clause-chain
returns-clause-chain c ts is =
    let so = c.loop-taken.invariant.chain ts is in
    let all : c.loop-taken.taken ≡ 16 = omega arith in (
      so.batch ∙ ap (λ n. take n ts) all,
      subst (λ n. IsChain c.args.seat.now.view c.loop-taken.chain (drop n ts)) all so.chain,
    )
