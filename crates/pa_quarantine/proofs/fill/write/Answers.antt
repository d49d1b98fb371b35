use Rattle.std.proofs.Common.{◌≡◌, ◌+◌, ◌*◌, ◌∙◌, refl, ap, subst, arith}
use Rattle.pa_slot.specs.declared.word.Step.TheVariants.{Write}
use Rattle.pa_region.specs.Shares.{Share, IsStepMade, byte_word_count}
use Rattle.pa_quarantine.specs.Filling.{filled_share}
use Rattle.pa_quarantine.proofs.Filling.{open_own}
use Rattle.pa_quarantine.proofs.Writing.{write_can, write_own, write_next, write_end, write_told}
use Rattle.pa_quarantine.proofs.fill.write.Goals as goal

pub placed-requires : goal.placed-requires
placed-requires c = let o = open_own c.states_are_owns.ensures c.args.seat.now.view c.args.title c.requires.own.1 in omega arith

pub loop-word-init : goal.loop-word-init
loop-word-init c = record { region = refl; view = refl }

pub store-requires-clause-able : goal.store-requires-clause-able
store-requires-clause-able c =
    write_can c.states_are_owns.ensures c.owns_change.ensures (byte_word_count c.args.seat.now.region) c.args.title c.args.value
    c.loop-word.word (c.args.title.start + 8 * c.loop-word.word) c.args.seat.now.view c.loop-word.seat.view
    c.placed.ensures.well refl (omega arith) c.requires.own c.requires.able.0 c.loop-word.invariant.view

pub loop-word-preserved : goal.loop-word-preserved
loop-word-preserved c =
    let own = write_own c.states_are_owns.ensures c.owns_change.ensures (byte_word_count c.args.seat.now.region) c.args.title c.args.value
    c.loop-word.word (c.args.title.start + 8 * c.loop-word.word) c.args.seat.now.view c.loop-word.seat.view
    c.placed.ensures.well refl (omega arith) c.requires.own c.loop-word.invariant.view in
    record {
      region = c.store.ensures.region ∙ c.loop-word.invariant.region;
      view = write_next (byte_word_count c.args.seat.now.region) c.args.title c.args.value c.loop-word.word
          (c.args.title.start + 8 * c.loop-word.word) c.args.seat.now.view c.loop-word.seat.view
          c.store.new.seat.view c.placed.ensures.well refl c.loop-word.invariant.view c.store.ensures.view
          (c.store.ensures.owns.own c.args.title own.0 own.1);
    }

pub wrote-requires-clause-able : goal.wrote-requires-clause-able
wrote-requires-clause-able c =
    let long = c.placed.ensures.well.long in
    write_told c.states_are_owns.ensures c.owns_change.ensures c.filled_words_have_the_value.ensures
    (byte_word_count c.args.seat.now.region) c.args.title c.args.value c.args.seat.now.view c.loop-word.seat.view
    c.placed.ensures.well c.placed.ensures.long
    c.requires.own c.requires.able.0 c.requires.able.1
    (write_end c.args.title c.args.value c.loop-word.word c.args.seat.now.view c.loop-word.seat.view (omega arith)
    (omega arith) c.loop-word.invariant.view)

pub returns : goal.returns
returns c =
    let long = c.placed.ensures.well.long in
    let view = write_end c.args.title c.args.value c.loop-word.word c.args.seat.now.view c.loop-word.seat.view (omega arith)
    (omega arith) c.loop-word.invariant.view in
    let same : c.loop-word.seat ≡ filled_share c.args.title c.args.value c.args.seat.now =
    ap (λ r. record { region = r; view = c.loop-word.seat.view }) c.loop-word.invariant.region ∙
    ap (λ v. record { region = c.args.seat.now.region; view = v }) view in
    subst (λ (s : Share). IsStepMade Write c.args.title c.wrote.result.0 s c.wrote.new.seat) same c.wrote.ensures
