use Rattle.std.proofs.Common.{sym, ap, subst, arith}
use Rattle.pa_record.specs.Root.{Root}
use Rattle.pa_record.specs.Sound.{IsSound}
use Rattle.pa_record.proofs.Returning.{put_back_out}
use Rattle.pa_place.specs.Store.{root_of}
use Rattle.pa_place.proofs.store.Store.give.Goals as goal

pub settle-requires-clause-sound : goal.settle-requires-clause-sound
settle-requires-clause-sound c =
    subst IsSound (sym c.put_back.ensures.back)
    (put_back_out (root_of c.args.self.now) c.args.name c.requires.sound c.requires.out).kept.sound

pub settle-requires-clause-turn : goal.settle-requires-clause-turn
settle-requires-clause-turn c =
    let most = (put_back_out (root_of c.args.self.now) c.args.name c.requires.sound c.requires.out).turn in
    let same = ap (λ (r : Root). r.turn) c.put_back.ensures.back in
    let low = c.requires.turn in
    omega arith
