use Rattle.pa_machine.proofs.tables.Tables.make.Goals as goal

pub returns-in-Store-clause-ok : goal.returns-in-Store-clause-ok
returns-in-Store-clause-ok c = rw c.in-Store.is c.store.ensures.happens
