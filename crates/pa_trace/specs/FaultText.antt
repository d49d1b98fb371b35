-- How a fault is printed.
use Rattle.std.specs.Prelude.{ℕ, List, ◌++◌, codes}
use Rattle.std.specs.Fmt.{decimal}
use Rattle.pa_trace.specs.declared.fault.TraceFault.{TraceFault}
use Rattle.pa_trace.specs.declared.fault.TraceFault.TheVariants.{BadLine, Limit, OutOfMemory}

-- `bad line N`, `limit at line N`, `out of memory`
abbrev pub fault_text : TraceFault → List ℕ
fault_text (BadLine n) = codes "bad line " ++ decimal n
fault_text (Limit n) = codes "limit at line " ++ decimal n
fault_text OutOfMemory = codes "out of memory"
