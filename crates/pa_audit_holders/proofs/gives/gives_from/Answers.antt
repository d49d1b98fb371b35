use Rattle.std.proofs.Common.{◌<◌, length, map, sym, ◌∙◌, ap, arith}
use Rattle.std.proofs.lemmas.Bool.{both_ways}
use Rattle.std.proofs.lemmas.List.{length-map}
use Rattle.pa_dense.specs.Act.{act_of}
use Rattle.pa_record.specs.declared.root.RootEntry.{RootEntry}
use Rattle.pa_audit_holders.specs.Lines.{did_at}
use Rattle.pa_audit_holders.proofs.Giving.{act_found, strip_end, strip_more, strip_other, strip_short, strip_start}
use Rattle.pa_audit_holders.proofs.gives.gives_from.Goals as goal

pub batches-init : goal.batches-init
batches-init c =
    let long = length-map c.args.places.now (did_at c.args.journal.now) in
    strip_start (map (did_at c.args.journal.now) c.args.places.now) c.args.at c.args.slots.now (omega (arith, long, c.requires.within))

pub returns-then-next-places : goal.returns-then-next-places
returns-then-next-places c =
    let acts = map (did_at c.args.journal.now) c.args.places.now in
    let long = length-map c.args.places.now (did_at c.args.journal.now) in
    strip_short acts c.args.at c.args.slots.now c.batches.from c.min-to.result c.batches.next c.batches.invariant c.batches-test.true
    c.min-to.ensures (omega (arith, long, c.if-next-places.true))

pub returns-then-not-is_give : goal.returns-then-not-is_give
returns-then-not-is_give c =
    let journal = c.args.journal.now in
    let places = c.args.places.now in
    let acts = map (did_at journal) places in
    let long = length-map places (did_at journal) in
    let within : c.batches.next < length places = c.if-next-places.false in
    let e = c.index-journal-places.result in
    let act = act_of c.act.result in
    let there = act_found journal places c.batches.next e c.requires.among within ∙
    ap (λ (z : RootEntry). z.act) (sym c.index-journal-places.is) ∙ sym c.act.ensures.act in
    strip_other acts c.args.at c.args.slots.now c.batches.from c.min-to.result c.batches.next act c.batches.invariant c.batches-test.true
    c.min-to.ensures (omega (arith, long, within))
    there (λ is. both_ways _ c.if-not-is_give.true (c.is_give.ensures.1 is))

pub batches-preserved : goal.batches-preserved
batches-preserved c =
    let journal = c.args.journal.now in
    let places = c.args.places.now in
    let acts = map (did_at journal) places in
    let long = length-map places (did_at journal) in
    let within : c.batches.next < length places = c.if-next-places.false in
    let e = c.index-journal-places.result in
    let act = act_of c.act.result in
    let there = act_found journal places c.batches.next e c.requires.among within ∙
    ap (λ (z : RootEntry). z.act) (sym c.index-journal-places.is) ∙ sym c.act.ensures.act in
    strip_more acts c.args.at c.args.slots.now c.batches.from c.min-to.result c.batches.next act c.batches.invariant c.batches-test.true
    c.min-to.ensures (omega (arith, long, within))
    there (c.is_give.ensures.0 c.if-not-is_give.false)

pub returns : goal.returns
returns c =
    let acts = map (did_at c.args.journal.now) c.args.places.now in
    strip_end acts c.args.at c.args.slots.now c.batches.from c.batches.next c.batches.invariant c.batches-test.false
