use Rattle.pa_op_specs.proofs.Following.{some, composes, rows, lists, told, counts, bytes}
use Rattle.pa_op_specs.proofs.laws.plays_follow.Goals as goal

pub returns : goal.returns
returns c = record { some = some; composes = composes; rows = rows; lists = lists; told = told; counts = counts; bytes = bytes }
