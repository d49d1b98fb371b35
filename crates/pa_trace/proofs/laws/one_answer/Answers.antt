use Rattle.pa_trace.proofs.Firsts.{one_fault, no_fault_of_input}
use Rattle.pa_trace.proofs.Found.{some_fault}
use Rattle.pa_trace.proofs.laws.one_answer.Goals as goal

pub returns-clause-none : goal.returns-clause-none
returns-clause-none c = no_fault_of_input

pub returns-clause-one : goal.returns-clause-one
returns-clause-one c = one_fault

pub returns-clause-some : goal.returns-clause-some
returns-clause-some c = λ known bytes recent. some_fault known recent bytes
