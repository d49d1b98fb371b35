use Rattle.pa_player.proofs.Putting.{IsPutSo}
use Rattle.pa_player.proofs.alloc.Player+Told+O.put_all.Given as goal

-- the first titles were put
abbrev pub invariant-loop-title : goal.invariant-loop-title
invariant-loop-title g l = IsPutSo l.partition l.at l.class l.titles l.title-index l.fn.self l.self l.batch
