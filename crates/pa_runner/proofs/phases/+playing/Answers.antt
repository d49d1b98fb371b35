use Rattle.pa_runner.proofs.Behind.{ready_first, ready_behind, all_played}
use Rattle.pa_runner.proofs.phases.+playing.Goals as goal

pub Playing::play_from-play_lines-requires-clause-ready : goal.Playing::play_from-play_lines-requires-clause-ready
Playing::play_from-play_lines-requires-clause-ready g t c κs within =
    ready_first c.args.first c.args.queues.now _ c.args.workers.now _ _ _ c.in-Some-split_first.ensures.cases.0 c.in-Some.ensures.cases.0
    c.requires.ready _ c.as_slice-lines.ensures

pub Playing::play_from-play_from-requires-clause-ready : goal.Playing::play_from-play_from-requires-clause-ready
Playing::play_from-play_from-requires-clause-ready g t c κs within =
    ready_behind c.args.first c.args.queues.now _ c.args.workers.now _ _ _ c.in-Some-split_first.ensures.cases.0 c.in-Some.ensures.cases.0
    c.requires.ready

pub Playing::play_from-play_beside-requires-clause-ready : goal.Playing::play_from-play_beside-requires-clause-ready
Playing::play_from-play_beside-requires-clause-ready g t c κs within =
    ready_first c.args.first c.args.queues.now _ c.args.workers.now _ _ _ c.in-Some-split_first.ensures.cases.0 c.in-Some.ensures.cases.0
    c.requires.ready _ c.as_slice-lines.ensures

pub Playing::play_from-play_beside-requires-clause-others : goal.Playing::play_from-play_beside-requires-clause-others
Playing::play_from-play_beside-requires-clause-others g t c κs within =
    ready_behind c.args.first c.args.queues.now _ c.args.workers.now _ _ _ c.in-Some-split_first.ensures.cases.0 c.in-Some.ensures.cases.0
    c.requires.ready

pub Playing::play_from-returns-then-not-have_lines-clause-played : goal.Playing::play_from-returns-then-not-have_lines-clause-played
Playing::play_from-returns-then-not-have_lines-clause-played g t c =
    all_played c.args.queues.now _ c.args.workers.now _ _ _ _ _ _ c.in-Some-split_first.ensures.cases.0 c.in-Some.ensures.cases.0
    c.as_slice-lines.ensures
    c.play_lines.ensures c.play_from.ensures.played

pub Playing::play_from-returns-else-not-have_lines-clause-played : goal.Playing::play_from-returns-else-not-have_lines-clause-played
Playing::play_from-returns-else-not-have_lines-clause-played g t c =
    all_played c.args.queues.now _ c.args.workers.now _ _ _ _ _ _ c.in-Some-split_first.ensures.cases.0 c.in-Some.ensures.cases.0
    c.as_slice-lines.ensures
    c.play_beside.ensures.played c.play_beside.ensures.others
