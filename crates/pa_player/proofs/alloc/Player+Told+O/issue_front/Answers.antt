use Rattle.pa_player.proofs.Fronting.{front_is, issue_kept}
use Rattle.pa_player.proofs.alloc.Player+Told+O.issue_front.Goals as goal

pub slot-len-requires : goal.slot-len-requires
slot-len-requires g c =
    let front = front_is c.front.result c.unwrap-place.result c.args.at c.args.self.now.caches c.front.new.self c.unwrap-place.ensures
    c.front.ensures.some in
    record { among = (c.requires.can.issue c.unwrap-place.result front.rest front.front).place }

pub issue-requires : goal.issue-requires
issue-requires g c =
    let front = front_is c.front.result c.unwrap-place.result c.args.at c.args.self.now.caches c.front.new.self c.unwrap-place.ensures
    c.front.ensures.some in
    record {
      can = issue_kept c.args.thread c.args.reg c.unwrap-place.result c.args.self.now c.front.new.self c.remove.new.self
          (c.requires.can.issue c.unwrap-place.result front.rest front.front);
    }
