use Rattle.std.proofs.Common.{◌≡◌, ◌+◌, ◌*◌, sym, subst, arith}
use Rattle.pa_region.specs.declared.view.View.{View}
use Rattle.pa_region.specs.Shares.{byte_word_count}
use Rattle.pa_records.specs.Words.{record_byte, record_word, IsRecordAt}
use Rattle.pa_meta.specs.Meta.{HasRawRecord}
use Rattle.pa_records.proofs.Words.{reads_back}
use Rattle.pa_meta.proofs.Writing.{raw_word, written, record_inside}
use Rattle.pa_meta.proofs.meta.write_meta.Goals as goal

pub store_word-requires-clause-able : goal.store_word-requires-clause-able
store_word-requires-clause-able c =
    raw_word c.args.at 0 c.record_start-start.result c.args.seat.now.view c.requires.raw (omega arith)
    (let s = c.record_start-start.ensures in omega arith)

pub store_word-requires-2-clause-able : goal.store_word-requires-2-clause-able
store_word-requires-2-clause-able c =
    let r1 = subst (λ (x : View). HasRawRecord x c.args.at) (sym c.store_word.ensures.view) c.requires.raw in
    raw_word c.args.at 1 (c.record_start-start.result + 8) c.store_word.new.seat.view r1 (omega arith)
    (let s = c.record_start-start.ensures in omega arith)

pub store_word-requires-3-clause-able : goal.store_word-requires-3-clause-able
store_word-requires-3-clause-able c =
    let r1 = subst (λ (x : View). HasRawRecord x c.args.at) (sym c.store_word.ensures.view) c.requires.raw in
    let r2 = subst (λ (x : View). HasRawRecord x c.args.at) (sym c.store_word-2.ensures.view) r1 in
    raw_word c.args.at 2 (c.record_start-start.result + 16) c.store_word-2.new.seat.view r2 (omega arith)
    (let s = c.record_start-start.ensures in omega arith)

pub store_word-requires-4-clause-able : goal.store_word-requires-4-clause-able
store_word-requires-4-clause-able c =
    let r1 = subst (λ (x : View). HasRawRecord x c.args.at) (sym c.store_word.ensures.view) c.requires.raw in
    let r2 = subst (λ (x : View). HasRawRecord x c.args.at) (sym c.store_word-2.ensures.view) r1 in
    let r3 = subst (λ (x : View). HasRawRecord x c.args.at) (sym c.store_word-3.ensures.view) r2 in
    raw_word c.args.at 3 (c.record_start-start.result + 24) c.store_word-3.new.seat.view r3 (omega arith)
    (let s = c.record_start-start.ensures in omega arith)

pub returns-clause-view : goal.returns-clause-view
returns-clause-view c =
    let start = c.record_start-start.result in
    let e = c.record_start-start.ensures in
    let p0 : start ≡ record_byte c.args.at + 8 * 0 = omega arith in
    let p1 : start + 8 ≡ record_byte c.args.at + 8 * 1 = omega arith in
    let p2 : start + 16 ≡ record_byte c.args.at + 8 * 2 = omega arith in
    let p3 : start + 24 ≡ record_byte c.args.at + 8 * 3 = omega arith in
    written c.args.at c.args.span c.args.seat.now.view c.store_word.new.seat.view c.store_word-2.new.seat.view c.store_word-3.new.seat.view
    c.store_word-4.new.seat.view
    start (start + 8) (start + 16) (start + 24) c.counts-first.result c.both-second.result c.both-third.result p0 p1 p2 p3
    c.counts-first.ensures.word c.both-second.ensures.word c.both-third.ensures.word c.store_word.ensures.view c.store_word-2.ensures.view
    c.store_word-3.ensures.view c.store_word-4.ensures.view

pub returns-clause-reads : goal.returns-clause-reads
returns-clause-reads c =
    let v = c.args.seat.now.view in let q = record_word c.args.at in
    let a = c.counts-first.ensures.fits in let b = c.both-second.ensures.fits in let d = c.both-third.ensures.fits in
    let inside = record_inside c.args.at
    (byte_word_count c.args.seat.now.region) v c.requires.raw c.aware.ensures.raw c.aware.ensures.long in
    subst (λ (x : View). IsRecordAt x.words q c.args.span) (sym (returns-clause-view c)) (reads_back v.words q c.args.span inside (record {
      class = c.counts-first.ensures.class;
      allocated = a.0;
      provisioned = a.1;
      committed = a.2;
      made = b.1;
      head = b.0;
      previous = d.0;
      next = d.1;
      turn = c.store_word-4.ensures.fits;
    }))
