use Rattle.std.proofs.Common.{◌∙◌, ◌+◌, ◌<◌, ◌∷◌, drop, get_or, sym, subst, ap, arith}
use Rattle.std.proofs.lemmas.List.{drop_more}
use Rattle.pa_lists.proofs.Members.{first_in}
use Rattle.pa_slot.specs.declared.title.Title.{Title}
use Rattle.pa_record.specs.Spans.{name_of}
use Rattle.pa_record.specs.Root.{Root, returned, all_returned}
use Rattle.pa_region.specs.Shares.{Share}
use Rattle.pa_region.specs.Views.{free_of}
use Rattle.pa_link.specs.Chains.{slot_names}
use Rattle.pa_shelf.specs.Moving.{Rewritten}
use Rattle.pa_shelf.specs.Shelves.{AreBack}
use Rattle.pa_shelf.proofs.Batches.{rest_back, first_back, back_there, back_few, back_turn}
use Rattle.pa_shelf.proofs.Rewriting.{rewritten_on}
use Rattle.pa_shelf.proofs.shelf.Shelf.give_all.Goals as goal

pub span_at-at-requires-clause-back : goal.span_at-at-requires-clause-back
span_at-at-requires-clause-back c =
    let (r, b) = c.requires.back in
    let ts = c.args.titles.now in let i = c.loop-title.title-index in let d : Title = record { start = 0; len = 0; born = 0 } in
    let v = c.loop-title.own.view in let l = c.loop-title.self in
    let (z, h, e) = c.loop-title.invariant.left r b in
    let whole = subst (λ us. AreBack v l us z) (drop_more ts i d c.loop-title-test.true) h in
    let (s, n, there) = first_back v l (get_or ts i d) (drop (i + 1) ts) z whole in
    (z, s, n, there)

pub give_back-requires-clause-able : goal.give_back-requires-clause-able
give_back-requires-clause-able c =
    let (r, b) = c.requires.back in
    let ts = c.args.titles.now in let i = c.loop-title.title-index in let d : Title = record { start = 0; len = 0; born = 0 } in
    let v = c.loop-title.own.view in let l = c.loop-title.self in
    let (z, h, e) = c.loop-title.invariant.left r b in
    let whole = subst (λ us. AreBack v l us z) (drop_more ts i d c.loop-title-test.true) h in
    subst (λ (q : Share). 0 < free_of q.view (get_or ts i d)) (sym c.span_at-at.ensures.seat)
    (whole.free (get_or ts i d) (first_in (get_or ts i d) (drop (i + 1) ts)))

pub give_back-requires-clause-back : goal.give_back-requires-clause-back
give_back-requires-clause-back c =
    let (r, b) = c.requires.back in
    let ts = c.args.titles.now in let i = c.loop-title.title-index in let d : Title = record { start = 0; len = 0; born = 0 } in
    let v = c.loop-title.own.view in let l = c.loop-title.self in
    let (z, h, e) = c.loop-title.invariant.left r b in
    let whole = subst (λ us. AreBack v l us z) (drop_more ts i d c.loop-title-test.true) h in
    let (s, n, there) = first_back v l (get_or ts i d) (drop (i + 1) ts) z whole in (
      z,
      s,
      n,
      back_there c.span_at-at.new.own c.loop-title.own l c.span_at-at.result (get_or ts i d) z s n there c.span_at-at.ensures.seat
          (c.span_at-at.ensures.start z s n there),
    )

pub give_back-requires-clause-few : goal.give_back-requires-clause-few
give_back-requires-clause-few c =
    let (r, b) = c.requires.back in
    let ts = c.args.titles.now in let i = c.loop-title.title-index in
    let (z, h, e) = c.loop-title.invariant.left r b in
    back_few c.loop-title.own.view c.loop-title.self (drop i ts) z h

pub loop-title-preserved : goal.loop-title-preserved
loop-title-preserved c =
    let ts = c.args.titles.now in let i = c.loop-title.title-index in let d : Title = record { start = 0; len = 0; born = 0 } in
    let v = c.loop-title.own.view in let l = c.loop-title.self in let t = get_or ts i d in
    let w = c.give_back.new.own.view in let m = c.give_back.new.self in
    let more = drop_more ts i d c.loop-title-test.true in
    let wrote = subst (λ (q : Share). Rewritten q.view w) c.span_at-at.ensures.seat c.give_back.ensures.rest in
    let after = λ (z : Root) (h : AreBack v l (t ∷ drop (i + 1) ts) z).
    let (s, n, there) = first_back v l t (drop (i + 1) ts) z h in
    c.give_back.ensures.shown z s n
    (back_there c.span_at-at.new.own c.loop-title.own l c.span_at-at.result t z s n there c.span_at-at.ensures.seat
    (c.span_at-at.ensures.start z s n there)) in
    record {
      region = c.give_back.ensures.region ∙ (ap (λ (q : Share). q.region) c.span_at-at.ensures.seat ∙ c.loop-title.invariant.region);
      left = λ r b.
          let (z, h, e) = c.loop-title.invariant.left r b in
          let whole = subst (λ us. AreBack v l us z) more h in (
            returned (name_of t) z,
            rest_back v w l m t (drop (i + 1) ts) z whole wrote (after z whole),
            ap (λ us. all_returned (slot_names us) z) (sym more) ∙ e,
          );
      turn =
          let (r, b) = c.requires.back in
          let (z, h, e) = c.loop-title.invariant.left r b in
          let whole = subst (λ us. AreBack v l us z) more h in
          let up = back_turn v w l m t (drop (i + 1) ts) z whole (after z whole) in
          let before = c.loop-title.invariant.turn in
          omega arith;
      rest = rewritten_on c.args.own.now.view v w c.loop-title.invariant.rest wrote;
    }
