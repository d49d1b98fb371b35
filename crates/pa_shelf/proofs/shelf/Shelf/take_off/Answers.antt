use Rattle.std.proofs.Common.{◌≡◌, ◌∙◌, ℕ, List, ◌∷◌, map, sym, subst, ap, arith}
use Rattle.std.specs.Prelude.{Contains}
use Rattle.pa_slot.specs.declared.title.Title.{Title}
use Rattle.pa_buckets.specs.declared.spans.State.TheVariants as state
use Rattle.pa_record.specs.Spans.{Span as RootSpan, same_state, title_at, with_free}
use Rattle.pa_record.specs.Root.{Root, entered, front_taken}
use Rattle.pa_region.specs.Shares.{Share}
use Rattle.pa_records.specs.Records.{titles_free}
use Rattle.pa_records.specs.Words.{spans_in}
use Rattle.pa_spans.specs.Lists.{StaysListed}
use Rattle.pa_meta.specs.Stores.{HasSpanAt, Rerecorded}
use Rattle.pa_link.specs.declared.chain.ChainParts.{ChainParts}
use Rattle.pa_link.specs.Chains.{IsChain}
use Rattle.pa_shelf.specs.Moving.{IsRecordFor, parts_of_record}
use Rattle.pa_shelf.specs.Shelves.{RecordsRoot, chain_of}
use Rattle.pa_shelf.proofs.Taking.{front, ready_parts, ready_some, state_out_used, few_out, front_listed, take_shown}
use Rattle.pa_shelf.proofs.shelf.Shelf.take_off.Goals as goal

pub front_off-front-requires-clause-chain : goal.front_off-front-requires-clause-chain
front_off-front-requires-clause-chain c =
    let (r, s, b) = c.requires.ready in
    let v = c.args.own.now.view in let l = c.args.self.now in let x = c.args.span in let t = c.args.first in (
      titles_free (with_free s),
      subst (λ (d : ChainParts). IsChain v d (titles_free (with_free s))) (sym (ready_parts v l x t r s b)) b.chain,
    )

pub front_off-front-requires-clause-counted : goal.front_off-front-requires-clause-counted
front_off-front-requires-clause-counted c =
    let (r, s, b) = c.requires.ready in
    let some = ready_some c.args.own.now.view c.args.self.now c.args.span c.args.first r s b in
    let less = some.0 in
    omega arith

pub without_front-next-requires : goal.without_front-next-requires
without_front-next-requires c =
    let (r, s, b) = c.requires.ready in
    (ready_some c.args.own.now.view c.args.self.now c.args.span c.args.first r s b).1

pub change-requires-clause-stand : goal.change-requires-clause-stand
change-requires-clause-stand c =
    let (r, s, b) = c.requires.ready in
    (subst (λ (z : Share). RecordsRoot z.view c.args.self.now r) (sym c.front_off-front.ensures.seat) b.shown.kept).stand

pub change-requires-clause-has : goal.change-requires-clause-has
change-requires-clause-has c =
    let (r, s, b) = c.requires.ready in
    let l = c.args.self.now in
    let here : s.place ≡ c.args.first.start = sym (ap (λ (t : Title). t.start) b.first) in
    subst (λ (z : Share). HasSpanAt z.view l.supers c.args.first.start) (sym c.front_off-front.ensures.seat)
    (subst (HasSpanAt c.args.own.now.view l.supers) here (b.shown.kept.stored.had s b.among))

pub change-requires-clause-stays : goal.change-requires-clause-stays
change-requires-clause-stays c =
    let (r, s, b) = c.requires.ready in
    let z = spans_in c.args.own.now.view.words c.args.first.start in
    subst (λ (u : Share). StaysListed (spans_in u.view.words c.args.first.start) c.without_front-next.result)
    (sym c.front_off-front.ensures.seat)
    (front_listed c.args.span c.without_front-next.result z c.front_off-front.result.next b.listed c.without_front-next.ensures)

pub change-requires-clause-used : goal.change-requires-clause-used
change-requires-clause-used c =
    let y = c.without_front-next.result in
    subst (λ a. a ≡ state.None → ⊥) (sym c.state_out-to.ensures) (state_out_used y.class y.allocated).0

pub change-requires-clause-few : goal.change-requires-clause-few
change-requires-clause-few c =
    let (r, s, b) = c.requires.ready in
    let y = c.without_front-next.result in
    few_out c.args.first.start c.state_out-to.result c.args.self.now.lists y
    (ap (λ a. same_state a state.Empty) c.state_out-to.ensures ∙ (state_out_used y.class y.allocated).1) b.shown.kept.few

pub returns-clause-title : goal.returns-clause-title
returns-clause-title c r s b =
    let v = c.args.own.now.view in let l = c.args.self.now in let x = c.args.span in let t = c.args.first in
    let f = with_free s in let h = front v l x t r s b in
    let ts = map (title_at f) h.rest in
    let whole : IsChain v (parts_of_record x t) (title_at f h.number ∷ ts) =
    subst (λ (d : ChainParts). IsChain v d (title_at f h.number ∷ ts)) (sym (ready_parts v l x t r s b))
    (subst (λ (xs : List ℕ). IsChain v (chain_of f) (map (title_at f) xs)) h.free b.chain) in
    (c.front_off-front.ensures.front (title_at f h.number) ts whole).0
    ∙ sym (ap (λ (xs : List ℕ). (front_taken xs f r).title) h.free)

pub returns-clause-shown : goal.returns-clause-shown
returns-clause-shown c r s b =
    let v = c.args.own.now.view in let l = c.args.self.now in let x = c.args.span in let t = c.args.first in
    let y = c.without_front-next.result in let w = c.change.new.own.view in
    let f = with_free s in let h = front v l x t r s b in
    let ts = map (title_at f) h.rest in
    let seat = c.front_off-front.ensures.seat in
    let whole : IsChain v (parts_of_record x t) (title_at f h.number ∷ ts) =
    subst (λ (d : ChainParts). IsChain v d (title_at f h.number ∷ ts)) (sym (ready_parts v l x t r s b))
    (subst (λ (xs : List ℕ). IsChain v (chain_of f) (map (title_at f) xs)) h.free b.chain) in
    let moved = subst (λ (z : Share). (q : Root) (a d : RootSpan) → RecordsRoot z.view l q → Contains q.spans a →
    IsRecordFor t.start y a d →
    RecordsRoot w c.change.new.self (entered c.state_out-to.result d q)) seat c.change.ensures.kept in
    let wrote = subst (λ (z : Share). Rerecorded l.supers z.view w) seat c.change.ensures.view in
    take_shown v w l c.change.new.self x y t r s h.number c.front_off-front.result.next h.rest c.state_out-to.result b c.aware.ensures.aware
    wrote h.free
    c.without_front-next.ensures (c.front_off-front.ensures.front (title_at f h.number) ts whole).1 c.state_out-to.ensures (moved r)

pub returns-clause-rest : goal.returns-clause-rest
returns-clause-rest c =
    let w = c.change.new.own.view in
    let wrote = subst (λ (z : Share). Rerecorded c.args.self.now.supers z.view w) c.front_off-front.ensures.seat c.change.ensures.view in
    record { rest = wrote.rest; long = wrote.long }
