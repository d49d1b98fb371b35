use Rattle.std.proofs.Common.{◌≡◌, ◌+◌, ◌∷◌, ◌++◌, [], get_or, sym, ap, ◌∙◌, subst, arith}
use Rattle.pa_slot.specs.declared.title.Title.{Title}
use Rattle.pa_record.specs.declared.numbered.Numbered.{Numbered}
use Rattle.pa_player.specs.Playing.{numbered_at}
use Rattle.pa_player.proofs.Putting.{IsPutSo, put_more, put_end, put_one, put_is, numbered_is, drop_next}
use Rattle.pa_player.proofs.alloc.Player+Told+O.put_all.Goals as goal

pub loop-title-preserved : goal.loop-title-preserved
loop-title-preserved g c =
    let p = c.args.self.now in
    let s = c.loop-title.self in
    let i = c.loop-title.title-index in
    let after = c.home.new.self in
    let place = c.in_ok-place.place in
    let none : Title = record { start = 0; len = 0; born = 0 } in
    let t = get_or c.args.titles.now i none in
    let next = put_more c.args.partition c.args.at c.args.class c.args.titles.now i p s c.loop-title.batch t after place
    c.loop-title.invariant
    (drop_next c.args.titles.now i none c.loop-title-test.true) c.fits.ensures c.in_ok-place.ensures.home in
    let player = put_is c.args.partition c.args.at place t after s c.push-in-loop-title.new.self c.add.new.self c.push-in-loop-title.ensures
    c.add.ensures in
    let batch : c.push.new.self ≡ c.loop-title.batch ++ numbered_at after place ∷ [] =
    c.push.ensures.pushed ∙ ap (λ (n : Numbered). c.loop-title.batch ++ n ∷ [])
    (numbered_is after place c.numbered.result c.numbered.ensures.slot c.numbered.ensures.number) in
    subst (λ z. IsPutSo c.args.partition c.args.at c.args.class c.args.titles.now (i + 1) p z c.push.new.self) (sym player)
    (subst (IsPutSo c.args.partition c.args.at c.args.class c.args.titles.now (i + 1) p
    (put_one c.args.partition c.args.at t after place s)) (sym batch) next)

pub returns-clause-put : goal.returns-clause-put
returns-clause-put g c =
    let past = c.loop-title-test.false in
    let last = c.loop-title.auto.title-index-end in
    put_end c.args.partition c.args.at c.args.class c.args.titles.now c.loop-title.title-index c.args.self.now c.loop-title.self
    c.loop-title.batch (omega arith) c.loop-title.invariant
