use Rattle.std.proofs.Common.{◌≡◌, ◌+◌, get_or, length, map, sym, ◌∙◌, ap, arith}
use Rattle.std.proofs.lemmas.Bool.{false≢true}
use Rattle.std.proofs.lemmas.List.{length-map}
use Rattle.pa_dense.specs.Act.{act_of}
use Rattle.pa_record.specs.declared.root.RootEntry.{RootEntry}
use Rattle.pa_record.specs.declared.root.RootAct.TheVariants.{Purge}
use Rattle.pa_audit_holders.specs.Lines.{did_at}
use Rattle.pa_audit_holders.proofs.Giving.{act_found, last_is, last_was}
use Rattle.pa_audit_holders.proofs.gives.ends_with_purge.Goals as goal

pub returns-then-at-places : goal.returns-then-at-places
returns-then-at-places c =
    let acts = map (did_at c.args.journal.now) c.args.places.now in
    let long = length-map c.args.places.now (did_at c.args.journal.now) in (
      λ yes. absurd (false≢true yes),
      λ is. absurd (c.if-at-places.true ((last_was acts c.args.at Purge is).0 ∙ long)),
    )

pub returns : goal.returns
returns c =
    let journal = c.args.journal.now in
    let places = c.args.places.now in
    let acts = map (did_at journal) places in
    let long = length-map places (did_at journal) in
    let last : c.args.at + 1 ≡ length acts = c.if-at-places.false ∙ sym long in
    let e = c.index-journal-places.result in
    let there = act_found journal places c.args.at e c.requires.among (omega (arith, last, long)) in
    let here : get_or acts c.args.at Purge ≡ act_of c.act.result =
    there ∙ ap (λ (z : RootEntry). z.act) (sym c.index-journal-places.is) ∙ sym c.act.ensures.act in (
      λ yes. last_is acts c.args.at Purge last (here ∙ c.is_purge.ensures.0 yes),
      λ is. c.is_purge.ensures.1 (sym here ∙ (last_was acts c.args.at Purge is).1),
    )
