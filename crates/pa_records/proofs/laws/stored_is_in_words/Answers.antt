use Rattle.pa_records.proofs.Having.{words_have}
use Rattle.pa_records.proofs.laws.stored_is_in_words.Goals as goal

pub returns : goal.returns
returns g c words r = words_have words c.args.lists.now (g.S.SpanStore.has c.args.store.now) r
