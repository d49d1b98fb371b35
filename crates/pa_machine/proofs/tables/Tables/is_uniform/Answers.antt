use Rattle.std.proofs.Common.{◌≡◌, get_or, sym, ◌∙◌, ap, arith}
use Rattle.std.proofs.lemmas.List.{get_or_read}
use Rattle.pa_slot.specs.Titles.{content_at}
use Rattle.pa_machine.proofs.tables.Tables.is_uniform.Goals as goal

pub returns : goal.returns
returns c =
    let words = c.args.self.now.words.items in
    let long = c.requires.long in
    let inside = c.requires.inside in
    let a = c.requires.start_aligned in let b = c.requires.len_aligned in
    let index = c.first_word.ensures in
    let read : c.index.result.now ≡ get_or words c.first_word.result 0 = get_or_read words _ _ (omega arith) c.index.ensures 0 in
    let first : c.index.result.now ≡ content_at words c.args.title 0 = read ∙ ap (λ i. get_or words i 0) (omega arith) in (
      λ yes. (c.index.result.now, c.content_is.ensures.0 yes),
      λ same. c.content_is.ensures.1 (λ i low below. same.1 i low below ∙ sym (first ∙ same.1 0 (omega arith) (omega arith))),
    )
