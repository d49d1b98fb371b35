use Rattle.std.proofs.Common.{◌≡◌, List, ℕ, ◌++◌, codes, Result, Ok, Err, Some, IfErr}
use Rattle.pa_run_reader.specs.Gathered.{Gathered}
use Rattle.pa_run_reader.specs.declared.item.Item.TheVariants as items
use Rattle.pa_run_reader.specs.declared.fault.RunFault.{RunFault}
use Rattle.pa_run_reader.specs.declared.fault.RunFault.TheVariants.{BadLine, OutOfMemory}
use Rattle.pa_run_reader.specs.Faults.{IsFaultFrom, IsRunFault}
use Rattle.pa_run_reader.proofs.FirstBad.{no_head, head_followed}
use Rattle.pa_run_reader.proofs.reading.read_draft.Goals as goal

-- the fault of the lines after the head is that of all
fault_of_all : (bytes rest : List ℕ) (r : Result Gathered RunFault) → bytes ≡ codes "run 1\n" ++ rest →
    IfErr r (IsFaultFrom 2 (Some items.Head) rest) → IfErr r (IsRunFault bytes)
fault_of_all bytes rest (Ok draft) e h = tt
fault_of_all bytes rest (Err (BadLine m)) e h = head_followed m bytes rest e h
fault_of_all bytes rest (Err OutOfMemory) e h = tt

pub returns-in_default-clause-fault : goal.returns-in_default-clause-fault
returns-in_default-clause-fault c = no_head c.args.bytes.now c.in_default.ensures.read

pub returns-clause-fault : goal.returns-clause-fault
returns-clause-fault c =
    fault_of_all c.args.bytes.now c.in-Some.rest.now c.read_items.result c.in-Some.ensures.found c.read_items.ensures.fault
