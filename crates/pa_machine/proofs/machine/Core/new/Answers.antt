use Rattle.pa_machine.proofs.Starting.{start_sound, start_is, start_content}
use Rattle.pa_machine.proofs.machine.Core.new.Goals as goal

pub invariant_of-result : goal.invariant_of-result
invariant_of-result c = start_sound c.in_ok-tables.tables c.args.bytes c.args.actors c.in_ok-tables.ensures.start c.requires.whole
    c.requires.some_actor

pub returns-clause-start : goal.returns-clause-start
returns-clause-start c = start_is c.in_ok-tables.tables c.args.bytes c.args.actors c.in_ok-tables.ensures.start

pub returns-clause-good : goal.returns-clause-good
returns-clause-good c = (start_sound c.in_ok-tables.tables c.args.bytes c.args.actors c.in_ok-tables.ensures.start c.requires.whole
    c.requires.some_actor).good

pub returns-clause-content : goal.returns-clause-content
returns-clause-content c =
    λ last. start_content c.in_ok-tables.tables c.args.bytes c.args.actors c.in_ok-tables.ensures.start c.requires.some_actor last
