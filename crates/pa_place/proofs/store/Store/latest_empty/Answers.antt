use Rattle.std.proofs.Common.{◌≡◌, ◌<◌, ◌+◌, ◌-◌, ◌∙◌, true, false, length, refl, sym, subst, arith, eqb, ap}
use Rattle.std.proofs.lemmas.Option.{slice_get_read}
use Rattle.pa_place.specs.Listing.{is_class}
use Rattle.pa_place.specs.Store.{root_of}
use Rattle.pa_place.proofs.Latest.{OthersFrom, ring_there, ring_latest, ring_none, others_from}
use Rattle.pa_place.proofs.store.Store.latest_empty.Goals as goal

pub index-requires : goal.index-requires
index-requires c =
    let ss = c.args.self.now.spans.items in
    let ids = c.args.self.now.lists.empty.items in
    let k = c.loop-listed.listed - 1 in
    let some = c.loop-listed-test.true in
    let low = c.loop-listed.invariant.low in
    let below : k < length ids = omega arith in
    let at = slice_get_read ids (length ids) k c.index-at.result.now refl below c.index-at.ensures in
    let within = ring_there ss ids k c.index-at.result.now c.requires.filed.empty at in
    omega arith

pub returns-then-eq-clause-latest : goal.returns-then-eq-clause-latest
returns-then-eq-clause-latest c =
    let ss = c.args.self.now.spans.items in
    let ids = c.args.self.now.lists.empty.items in
    let k = c.loop-listed.listed - 1 in
    let some = c.loop-listed-test.true in
    let low = c.loop-listed.invariant.low in
    let below : k < length ids = omega arith in
    let at = slice_get_read ids (length ids) k c.index-at.result.now refl below c.index-at.ensures in
    let within = ring_there ss ids k c.index-at.result.now c.requires.filed.empty at in
    let here = slice_get_read ss (length ss) c.index-at.result.now c.index.result.now refl within c.index.ensures in
    let step : c.loop-listed.listed ≡ k + 1 = omega arith in
    let others = subst (λ n. OthersFrom n c.args.class ids ss) step c.loop-listed.invariant.others in
    let hit : is_class c.args.class c.index.result.now ≡ true = sym (ap (λ n. eqb n c.args.class) c.class.ensures) ∙ sym c.eq.ensures ∙
    c.if-eq.true in
    ring_latest c.args.class
    (root_of c.args.self.now) ids k c.index-at.result.now c.index.result.now c.requires.sound c.requires.filed.empty at here hit others

pub returns-then-eq-clause-within : goal.returns-then-eq-clause-within
returns-then-eq-clause-within c =
    let ss = c.args.self.now.spans.items in
    let ids = c.args.self.now.lists.empty.items in
    let k = c.loop-listed.listed - 1 in
    let some = c.loop-listed-test.true in
    let low = c.loop-listed.invariant.low in
    let below : k < length ids = omega arith in
    let at = slice_get_read ids (length ids) k c.index-at.result.now refl below c.index-at.ensures in
    ring_there ss ids k c.index-at.result.now c.requires.filed.empty at

pub loop-listed-preserved : goal.loop-listed-preserved
loop-listed-preserved c =
    let ss = c.args.self.now.spans.items in
    let ids = c.args.self.now.lists.empty.items in
    let k = c.loop-listed.listed - 1 in
    let some = c.loop-listed-test.true in
    let low = c.loop-listed.invariant.low in
    let below : k < length ids = omega arith in
    let at = slice_get_read ids (length ids) k c.index-at.result.now refl below c.index-at.ensures in
    let within = ring_there ss ids k c.index-at.result.now c.requires.filed.empty at in
    let here = slice_get_read ss (length ss) c.index-at.result.now c.index.result.now refl within c.index.ensures in
    let step : c.loop-listed.listed ≡ k + 1 = omega arith in
    let others = subst (λ n. OthersFrom n c.args.class ids ss) step c.loop-listed.invariant.others in
    let miss : is_class c.args.class c.index.result.now ≡ false = sym (ap (λ n. eqb n c.args.class) c.class.ensures) ∙ sym c.eq.ensures ∙
    c.if-eq.false in
    record {
      others = others_from c.args.class k c.index-at.result.now ids ss c.index.result.now at here miss others;
      low = omega arith;
    }

pub returns-clause-latest : goal.returns-clause-latest
returns-clause-latest c =
    let ss = c.args.self.now.spans.items in
    let ids = c.args.self.now.lists.empty.items in
    let over = c.loop-listed-test.false in
    let none : c.loop-listed.listed ≡ 0 = omega arith in
    sym (ring_none c.args.class ss ids c.requires.filed.empty
    (subst (λ n. OthersFrom n c.args.class ids ss) none c.loop-listed.invariant.others))
