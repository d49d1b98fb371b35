use Rattle.std.proofs.Common.{◌/◌, ◌<◌, ◌∷◌, length, sym, ap, ◌∙◌, subst, arith}
use Rattle.pa_buckets.proofs.Facts.{IsRow-of}
use Rattle.pa_player.specs.declared.table.Slot.{Slot}
use Rattle.pa_player.specs.Asks.{CanGive}
use Rattle.pa_player.specs.Changes.{list_in, put_front, tallied_more}
use Rattle.pa_player.proofs.Backing.{front_put, spill_ready}
use Rattle.pa_player.proofs.returns.Player+Told+O.put_back.Goals as goal

pub put-requires-clause-room : goal.put-requires-clause-room
put-requires-clause-room g c =
    let row = IsRow-of c.args.class c.cache_limit-limit.ensures.bound in
    let few = row.few_kept in
    let size = ap (λ k. length (list_in c.args.self.now k)) c.list_of-at.ensures in
    let short = c.requires.can.short in
    omega arith

pub give-requires-clause-can : goal.give-requires-clause-can
give-requires-clause-can g c =
    let p = c.args.self.now in
    let q = c.args.partition in
    let at = c.list_of-at.result in
    let i = c.args.place in
    let can : CanGive q (i ∷ list_in p at) (put_front q at i p) =
    subst (λ k. CanGive q (i ∷ list_in p k) (put_front q k i p)) (sym c.list_of-at.ensures) c.requires.can.gives in
    let there : at < length p.caches = subst (λ k. k < length p.caches) (sym c.list_of-at.ensures) c.requires.can.at in
    let cached = c.add.ensures ∙ ap (λ (x : Slot). tallied_more q 1 x.title.len p.cached.of) c.slot-len.ensures.slot in
    spill_ready q at i (c.cache_limit-limit.result / 2) p _ there can
    (front_put q at i p c.put.new.self c.add.new.self c.put.ensures cached)
