-- How a status is shown: the number with which the program exits, and its text.
use Rattle.std.specs.Prelude.{ℕ, List, [], ◌++◌, codes}
use Rattle.std.specs.Fmt.{decimal}
use Rattle.pa_trace.specs.declared.fault.TraceFault.{TraceFault}
use Rattle.pa_trace.specs.declared.fault.TraceFault.TheVariants as traces
use Rattle.pa_rules.specs.declared.verdict.Clause.{Clause}
use Rattle.pa_rules.specs.declared.verdict.Clause.TheVariants as clauses
use Rattle.pa_rules.specs.declared.verdict.Verdict.{Verdict}
use Rattle.pa_rules.specs.declared.verdict.Verdict.TheVariants.{Legal, Broken}
use Rattle.pa_cli.specs.declared.input.InputFault.{InputFault}
use Rattle.pa_cli.specs.declared.input.InputFault.TheVariants as inputs
use Rattle.pa_cli.specs.declared.status.Status.{Status}
use Rattle.pa_cli.specs.declared.status.Status.TheVariants.{Done, BadCommand, BadLine, Limit, ReadFault, WriteFault, OutOfMemory, NotLegal}

-- the name of a clause
abbrev pub clause_name : Clause → List ℕ
clause_name clauses.Lines = codes "lines"
clause_name clauses.Cells = codes "cells"
clause_name clauses.Registers = codes "registers"
clause_name clauses.Slots = codes "slots"
clause_name clauses.Contents = codes "contents"
clause_name clauses.Pool = codes "pool"
clause_name clauses.Roots = codes "roots"
clause_name clauses.Titles = codes "titles"
clause_name clauses.Holders = codes "holders"
clause_name clauses.Caches = codes "caches"
clause_name clauses.Seen = codes "seen"
clause_name clauses.Report = codes "report"

-- the exit code of the program
abbrev pub status_number : Status → ℕ
status_number Done = 0
status_number BadCommand = 1
status_number (BadLine n) = 2
status_number (Limit n) = 3
status_number ReadFault = 4
status_number WriteFault = 5
status_number OutOfMemory = 6
status_number (NotLegal clause n) = 7

-- the text on standard error, which is empty for Done
abbrev pub status_text : Status → List ℕ
status_text Done = []
status_text BadCommand = codes "bad command"
status_text (BadLine n) = codes "bad line " ++ decimal n
status_text (Limit n) = codes "limit at line " ++ decimal n
status_text ReadFault = codes "read fault"
status_text WriteFault = codes "write fault"
status_text OutOfMemory = codes "out of memory"
status_text (NotLegal clause n) = codes "not legal: " ++ clause_name clause ++ codes " at line " ++ decimal n

-- the status that reports a verdict
abbrev pub status_of_verdict : Verdict → Status
status_of_verdict Legal = Done
status_of_verdict (Broken clause n) = NotLegal clause n

-- the status of an input that wasn't read
abbrev pub status_of_input : InputFault → Status
status_of_input inputs.ReadFault = ReadFault
status_of_input inputs.OutOfMemory = OutOfMemory

-- the status of an input that was read: for a bad line, for a line past a limit, or if memory ran out
abbrev pub status_of_trace : TraceFault → Status
status_of_trace (traces.BadLine n) = BadLine n
status_of_trace (traces.Limit n) = Limit n
status_of_trace traces.OutOfMemory = OutOfMemory
