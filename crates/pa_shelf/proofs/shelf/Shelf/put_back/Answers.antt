use Rattle.std.proofs.Common.{◌∙◌, ◌-◌, ◌∷◌, sym, subst, ap}
use Rattle.std.specs.Prelude.{Contains}
use Rattle.pa_slot.specs.Links.{link_to}
use Rattle.pa_record.specs.Spans.{Span as RootSpan}
use Rattle.pa_record.specs.Root.{Root, entered}
use Rattle.pa_region.specs.declared.view.View.{View}
use Rattle.pa_region.specs.Shares.{Share, byte_word_count}
use Rattle.pa_region.specs.Aware.{IsAware}
use Rattle.pa_spans.specs.declared.span.Span.{Span as SpanRecord}
use Rattle.pa_spans.specs.Lists.{StaysListed}
use Rattle.pa_records.specs.Words.{spans_in}
use Rattle.pa_records.specs.Records.{titles_free}
use Rattle.pa_meta.specs.Stores.{HasSpanAt, Rerecorded}
use Rattle.pa_link.specs.declared.chain.ChainParts.{ChainParts}
use Rattle.pa_link.specs.Chains.{IsChain, after_link}
use Rattle.pa_shelf.specs.Moving.{IsRecordFor, parts_of_record, pushed_parts, state_with, Rewritten}
use Rattle.pa_shelf.specs.Shelves.{RecordsRoot, chain_of}
use Rattle.pa_shelf.proofs.Decommitting.{read_is}
use Rattle.pa_shelf.proofs.Returning.{back_had, some_out, parts_are, not_listed, few_more, front_stays, pushed_kept, pushed_is, state_used, back_shown}
use Rattle.pa_shelf.proofs.Rewriting.{rewritten_on, of_records, of_link}
use Rattle.pa_shelf.proofs.shelf.Shelf.put_back.Goals as goal

pub read_meta-span-requires-clause-raw : goal.read_meta-span-requires-clause-raw
read_meta-span-requires-clause-raw c =
    let (r, s, n, b) = c.requires.back in (back_had c.args.own.now.view c.args.self.now c.args.at c.args.title r s n b).raw

pub read_meta-span-requires-clause-record : goal.read_meta-span-requires-clause-record
read_meta-span-requires-clause-record c =
    let (r, s, n, b) = c.requires.back in
    let h = back_had c.args.own.now.view c.args.self.now c.args.at c.args.title r s n b in (h.span, h.recorded)

pub push_onto-requires-clause-counted : goal.push_onto-requires-clause-counted
push_onto-requires-clause-counted c =
    let (r, s, n, b) = c.requires.back in
    let v = c.args.own.now.view in let l = c.args.self.now in let x = c.read_meta-span.result in
    let x_is = read_is v l.supers c.args.at x (back_had v l c.args.at c.args.title r s n b) c.read_meta-span.ensures.span in
    (some_out v l c.args.at c.args.title r s n x b x_is).1

pub state_back-to-requires : goal.state_back-to-requires
state_back-to-requires c =
    let (r, s, n, b) = c.requires.back in
    let v = c.args.own.now.view in let l = c.args.self.now in let x = c.read_meta-span.result in
    let x_is = read_is v l.supers c.args.at x (back_had v l c.args.at c.args.title r s n b) c.read_meta-span.ensures.span in
    (some_out v l c.args.at c.args.title r s n x b x_is).0

pub with_front-requires : goal.with_front-requires
with_front-requires c =
    let (r, s, n, b) = c.requires.back in
    let v = c.args.own.now.view in let l = c.args.self.now in let x = c.read_meta-span.result in
    let x_is = read_is v l.supers c.args.at x (back_had v l c.args.at c.args.title r s n b) c.read_meta-span.ensures.span in
    (some_out v l c.args.at c.args.title r s n x b x_is).0

pub change-requires-clause-stand : goal.change-requires-clause-stand
change-requires-clause-stand c =
    let (r, s, n, b) = c.requires.back in
    let v = c.args.own.now.view in let l = c.args.self.now in let t = c.args.title in
    let link = link_to (parts_of_record c.read_meta-span.result t).head in
    let e = c.push_onto.ensures.view ∙ ap (λ (z : Share). after_link t link z.view) c.read_meta-span.ensures.seat in
    (subst (λ (z : View). RecordsRoot z l r) (sym e) (pushed_kept v l c.args.at t link r s n b c.aware.ensures.aware c.requires.able)).stand

pub change-requires-clause-has : goal.change-requires-clause-has
change-requires-clause-has c =
    let (r, s, n, b) = c.requires.back in
    let v = c.args.own.now.view in let l = c.args.self.now in let t = c.args.title in
    let link = link_to (parts_of_record c.read_meta-span.result t).head in
    let e = c.push_onto.ensures.view ∙ ap (λ (z : Share). after_link t link z.view) c.read_meta-span.ensures.seat in
    let kept = pushed_kept v l c.args.at t link r s n b c.aware.ensures.aware c.requires.able in
    subst (λ (z : View). HasSpanAt z l.supers c.args.at) (sym e)
    (subst (HasSpanAt (after_link t link v) l.supers) b.here (kept.stored.had s b.among))

pub change-requires-clause-stays : goal.change-requires-clause-stays
change-requires-clause-stays c =
    let (r, s, n, b) = c.requires.back in
    let v = c.args.own.now.view in let l = c.args.self.now in let t = c.args.title in let x = c.read_meta-span.result in
    let link = link_to (parts_of_record x t).head in
    let e = c.push_onto.ensures.view ∙ ap (λ (z : Share). after_link t link z.view) c.read_meta-span.ensures.seat in
    let x_is = read_is v l.supers c.args.at x (back_had v l c.args.at t r s n b) c.read_meta-span.ensures.span in
    subst (λ (z : View). StaysListed (spans_in z.words c.args.at) c.with_front.result) (sym e)
    (front_stays x c.with_front.result (spans_in (after_link t link v).words c.args.at) t.start
    (pushed_is v l c.args.at t link r s n x b c.aware.ensures.aware c.requires.able x_is) c.with_front.ensures)

pub change-requires-clause-used : goal.change-requires-clause-used
change-requires-clause-used c = state_used (c.read_meta-span.result.allocated - 1) c.state_back-to.result c.state_back-to.ensures

pub change-requires-clause-few : goal.change-requires-clause-few
change-requires-clause-few c = few_more c.args.at c.state_back-to.result c.args.self.now.lists c.with_front.result c.requires.few

pub returns-clause-shown : goal.returns-clause-shown
returns-clause-shown c r s n b =
    let v = c.args.own.now.view in let w = c.change.new.own.view in let l = c.args.self.now in let at = c.args.at in let t = c.args.title in
    let x = c.read_meta-span.result in let y = c.with_front.result in let to = c.state_back-to.result in
    let link = link_to (parts_of_record x t).head in
    let seat = c.read_meta-span.ensures.seat in
    let e = c.push_onto.ensures.view ∙ ap (λ (z : Share). after_link t link z.view) seat in
    let x_is = read_is v l.supers at x (back_had v l at t r s n b) c.read_meta-span.ensures.span in
    let parts = parts_are v l at t r s n x b x_is in
    let before : IsChain c.read_meta-span.new.seat.view (parts_of_record x t) (titles_free s) =
    subst (λ (z : Share). IsChain z.view (parts_of_record x t) (titles_free s)) (sym seat)
    (subst (λ (d : ChainParts). IsChain v d (titles_free s)) (sym parts) (b.shown.chains s b.among)) in
    let after = c.push_onto.ensures.chain (titles_free s) before (not_listed v l at t r s s n b b.among) in
    let chain : IsChain (after_link t link v) (pushed_parts t (chain_of s)) (t ∷ titles_free s) =
    subst (λ (z : View). IsChain z (pushed_parts t (chain_of s)) (t ∷ titles_free s)) e
    (subst (λ (d : ChainParts). IsChain c.push_onto.new.own.view (pushed_parts t d) (t ∷ titles_free s)) parts after) in
    let moved = subst (λ (z : View). (q : Root) (a d : RootSpan) → RecordsRoot z l q → Contains q.spans a → IsRecordFor at y a d →
    RecordsRoot w c.change.new.self (entered to d q)) e c.change.ensures.kept in
    back_shown (byte_word_count c.args.own.now.region) v w l c.change.new.self at t link r s n x y to b c.aware.ensures.aware
    c.placed.ensures.well
    c.requires.able (subst IsAware e c.aware-2.ensures.aware)
    (subst (λ (z : View). Rerecorded l.supers z w) e c.change.ensures.view) x_is c.with_front.ensures
    (c.state_back-to.ensures ∙ sym (ap (λ (z : SpanRecord). state_with z.allocated) c.with_front.ensures)) chain (moved r)

pub returns-clause-rest : goal.returns-clause-rest
returns-clause-rest c =
    let v = c.args.own.now.view in let t = c.args.title in
    let link = link_to (parts_of_record c.read_meta-span.result t).head in
    let e = c.push_onto.ensures.view ∙ ap (λ (z : Share). after_link t link z.view) c.read_meta-span.ensures.seat in
    rewritten_on v c.push_onto.new.own.view c.change.new.own.view (subst (Rewritten v) (sym e) (of_link t link v c.requires.able))
    (of_records c.args.self.now.supers c.push_onto.new.own.view c.change.new.own.view c.change.ensures.view)
