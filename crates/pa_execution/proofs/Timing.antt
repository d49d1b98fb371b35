-- An execution with a right report has a timeline: each record's log segment has its steps in their order.
use Rattle.pa_logs.specs.Said.{sizes_in}
use Rattle.pa_step_order.proofs.Signing.{segments_follow}
use Rattle.pa_step_order.proofs.Whole.{timeline_follows}
use Rattle.pa_op_specs.proofs.Following.{in_order}
use Rattle.pa_execution.specs.Turns.{Beside}
use Rattle.pa_execution.specs.Merged.{told_by_turns, outcome_of}
use Rattle.pa_execution.specs.Telling.{CoursesTellTimeline}
use Rattle.pa_execution.proofs.Grouping.{told_turn, within, turn_low, turn_high, in_group}
use Rattle.pa_execution.proofs.Fitting.{answer, fits}
use Rattle.pa_execution.proofs.Keepers.{courses_tell_all}

pub courses_tell_timeline : CoursesTellTimeline
courses_tell_timeline t r c v xs run lines flows clean =
    timeline_follows t r v (told_by_turns Beside t c) (courses_tell_all Beside t r c v xs run lines) flows (λ x among.
    let n = told_turn Beside x in let k = x.played.thread in
    let low = turn_low Beside t c run.left.limits run.course x among in
    let high = turn_high Beside t c run.left.limits run.course x among in
    let few = (within Beside t c run.left.limits run.course x among).thread in
    segments_follow (sizes_in t r) t.partitions r.roots x run.left.past (answer Beside t r c v xs run x among).told
    (in_order (outcome_of t r) (c.starts n k) (c.ends n k) (c.plays n k) (run.course.plays n k low high few)
    (fits Beside t r c v xs run n k low high few) x (in_group Beside t c run.left.limits run.course x among)))
    clean
