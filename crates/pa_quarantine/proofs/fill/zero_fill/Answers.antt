use Rattle.std.proofs.Common.{◌+◌, ◌*◌, ◌∙◌, refl, arith}
use Rattle.pa_region.specs.Shares.{byte_word_count}
use Rattle.pa_quarantine.proofs.Filling.{zero_can, zero_plain, zero_next, zero_end, zero_content}
use Rattle.pa_quarantine.proofs.fill.zero_fill.Goals as goal

pub loop-word-init : goal.loop-word-init
loop-word-init c = record { region = refl; view = refl }

pub store-requires-clause-able : goal.store-requires-clause-able
store-requires-clause-able c =
    zero_can (byte_word_count c.args.seat.now.region) c.args.title c.loop-word.word
    (c.args.title.start + 8 * c.loop-word.word) c.args.seat.now.view c.loop-word.seat.view
    c.placed.ensures.well refl (omega arith) c.requires.able c.loop-word.invariant.view

pub loop-word-preserved : goal.loop-word-preserved
loop-word-preserved c = record {
  region = c.store.ensures.region ∙ c.loop-word.invariant.region;
  view = zero_next (byte_word_count c.args.seat.now.region) c.args.title c.loop-word.word
      (c.args.title.start + 8 * c.loop-word.word) c.args.seat.now.view c.loop-word.seat.view c.store.new.seat.view
      c.placed.ensures.well refl c.loop-word.invariant.view c.store.ensures.view
      (c.store.ensures.owns.plain (zero_plain (byte_word_count c.args.seat.now.region) c.args.title c.loop-word.word
      (c.args.title.start + 8 * c.loop-word.word) c.args.seat.now.view c.loop-word.seat.view
      c.placed.ensures.well refl (omega arith) c.requires.able c.loop-word.invariant.view));
}

pub returns-clause-view : goal.returns-clause-view
returns-clause-view c =
    let long = c.placed.ensures.well.long in
    zero_end c.args.title c.loop-word.word c.args.seat.now.view c.loop-word.seat.view (omega arith) (omega arith) c.loop-word.invariant.view

pub returns-clause-content : goal.returns-clause-content
returns-clause-content c =
    let long = c.placed.ensures.well.long in
    zero_content c.filled_words_have_the_value.ensures
    (byte_word_count c.args.seat.now.region) c.args.title c.args.seat.now.view c.loop-word.seat.view c.placed.ensures.well
    c.placed.ensures.long
    (zero_end c.args.title c.loop-word.word c.args.seat.now.view c.loop-word.seat.view (omega arith)
    (omega arith) c.loop-word.invariant.view)
