use Rattle.pa_machine.specs.Tables.{IsFilled}
use Rattle.pa_machine.proofs.changes.point_words.Given as goal

abbrev pub invariant-loop-word : goal.invariant-loop-word
invariant-loop-word l = IsFilled 0 l.initial.homes l.start l.word l.home l.homes
