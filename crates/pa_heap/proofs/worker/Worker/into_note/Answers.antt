use Rattle.std.proofs.Common.{sym, subst}
use Rattle.pa_op_specs.specs.Workers.{WorkerValue}
use Rattle.pa_heap.specs.Closing.{HasTold}
use Rattle.pa_heap.proofs.worker.Worker.into_note.Goals as goal

pub into_note-requires : goal.into_note-requires
into_note-requires g c = subst (λ (w : WorkerValue). HasTold w) (sym {A = WorkerValue} c.self.view_is) c.requires
