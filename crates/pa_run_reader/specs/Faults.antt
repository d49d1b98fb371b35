-- Why a text isn't the text of a run.
use Rattle.std.specs.Prelude.{ℕ, List, ◌++◌, codes, Option, None}
use Rattle.std.specs.Fmt.{decimal}
use Rattle.pa_trace.specs.Faults.{lines_of}
use Rattle.pa_run_reader.specs.declared.item.Item.{Item}
use Rattle.pa_run_reader.specs.declared.fault.RunFault.{RunFault}
use Rattle.pa_run_reader.specs.declared.fault.RunFault.TheVariants.{BadLine, OutOfMemory}
use Rattle.pa_run_reader.specs.Order.{IsFirstBad}

-- how a fault is printed
abbrev pub run_fault_text : RunFault → List ℕ
run_fault_text (BadLine n) = codes "bad line " ++ decimal n
run_fault_text OutOfMemory = codes "out of memory"

-- why the lines from line n on, after the last item, were not read: the first bad one, or out of memory
abbrev pub IsFaultFrom : ℕ → Option Item → List ℕ → RunFault → Type 0
IsFaultFrom n last bytes (BadLine m) = IsFirstBad n last (lines_of bytes) m
IsFaultFrom n last bytes OutOfMemory = Unit {0}

-- why a text was not read: its first bad line, or out of memory
abbrev pub IsRunFault : List ℕ → RunFault → Type 0
IsRunFault bytes fault = IsFaultFrom 1 None bytes fault
