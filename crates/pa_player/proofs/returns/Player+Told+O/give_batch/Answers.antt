use Rattle.std.proofs.Common.{◌≡◌, ◌≢◌, ℕ, ◌-◌, map, set, length, drop, sym, ap, ◌∙◌, subst, arith}
use Rattle.std.specs.Prelude.{All, AllPairs, slice_range}
use Rattle.std.proofs.lemmas.List.{length-take, length-drop, length-map}
use Rattle.pa_slot.specs.declared.title.Title.{Title}
use Rattle.pa_record.specs.declared.root.RootAct.TheVariants.{Give}
use Rattle.pa_record.specs.Root.{IsOut, all_returned, names}
use Rattle.pa_record.specs.Spans.{name_of}
use Rattle.pa_player.specs.Changes.{list_in, bytes_at, tallied_less}
use Rattle.pa_player.specs.Playing.{numbered_at, root_of}
use Rattle.pa_player.specs.Tables.{slot_at}
use Rattle.pa_player.specs.Told.{with_act}
use Rattle.pa_player.proofs.Batching.{titles_named, batch_given}
use Rattle.pa_player.proofs.returns.Player+Told+O.give_batch.Goals as goal

pub give-requires-clause-are_out : goal.give-requires-clause-are_out
give-requires-clause-are_out g c =
    let p = c.args.self.now in
    let xs = slice_range (list_in p c.args.at) c.args.from c.args.to in
    let e : c.list_given-bytes.new.titles.items ≡ map (λ (i : ℕ). (slot_at p.table i).title) xs =
    c.list_given-bytes.ensures.titles ∙
    ap (λ z. map (λ (i : ℕ). (slot_at p.table i).title) (slice_range z c.args.from c.args.to)) c.places.ensures.places in
    let named : map name_of c.as_slice.result.now ≡ names (map (numbered_at p.table) xs) = ap (map name_of) (c.as_slice.ensures.value ∙ e) ∙
    titles_named p.table xs in
    subst (λ z. All (IsOut (root_of p c.args.partition)) z) (sym named) c.requires.can.out.0

pub give-requires-clause-once : goal.give-requires-clause-once
give-requires-clause-once g c =
    let p = c.args.self.now in
    let xs = slice_range (list_in p c.args.at) c.args.from c.args.to in
    let e : c.list_given-bytes.new.titles.items ≡ map (λ (i : ℕ). (slot_at p.table i).title) xs =
    c.list_given-bytes.ensures.titles ∙
    ap (λ z. map (λ (i : ℕ). (slot_at p.table i).title) (slice_range z c.args.from c.args.to)) c.places.ensures.places in
    let named : map name_of c.as_slice.result.now ≡ names (map (numbered_at p.table) xs) = ap (map name_of) (c.as_slice.ensures.value ∙ e) ∙
    titles_named p.table xs in
    subst (λ z. AllPairs ◌≢◌ z) (sym named) c.requires.can.out.1

pub returns-clause-gave : goal.returns-clause-gave
returns-clause-gave g c =
    let p = c.args.self.now in
    let q = c.args.partition in
    let xs = slice_range (list_in p c.args.at) c.args.from c.args.to in
    let num = numbered_at p.table in
    let title : ℕ → Title = λ i. (slot_at p.table i).title in
    let e : c.list_given-bytes.new.titles.items ≡ map title xs =
    c.list_given-bytes.ensures.titles ∙ ap (λ z. map title (slice_range z c.args.from c.args.to)) c.places.ensures.places in
    let named : map name_of c.as_slice.result.now ≡ names (map num xs) = ap (map name_of) (c.as_slice.ensures.value ∙ e) ∙
    titles_named p.table xs in
    let slots : c.of-slots.result ≡ map num xs =
    c.of-slots.ensures.slots ∙ c.items.ensures.items ∙ c.list_given-bytes.ensures.slots ∙
    ap (λ z. map num (slice_range z c.args.from c.args.to)) c.places.ensures.places in
    let bytes : c.list_given-bytes.result ≡ bytes_at p.table xs = c.list_given-bytes.ensures.bytes ∙
    ap (λ z. bytes_at p.table (slice_range z c.args.from c.args.to)) c.places.ensures.places in
    let many : c.len.result ≡ length xs = c.len.ensures.value ∙ ap length e ∙ length-map xs title in
    let a = length-take (c.args.to - c.args.from) (drop c.args.from (list_in p c.args.at)) in
    let b = length-drop c.args.from (list_in p c.args.at) in
    let within = c.requires.within in
    let some = c.requires.some in
    let few = c.requires.few in
    batch_given q xs p c.give.new.self c.root.new.self c.remove.new.self (omega arith) (omega arith)
    (c.give.ensures ∙ ap (λ z. set p.heap.roots q (all_returned z (root_of p q))) named)
    (c.in_ok-root.ensures.after ∙ ap (λ z. with_act q (record { line = p.told.line; act = Give z }) p.told) slots)
    (c.remove.ensures ∙ ap (λ z. tallied_less q z c.list_given-bytes.result p.cached.of) many ∙
    ap (λ z. tallied_less q (length xs) z p.cached.of) bytes)
