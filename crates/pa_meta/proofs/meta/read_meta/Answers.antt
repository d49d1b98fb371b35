use Rattle.std.proofs.Common.{◌≡◌, ◌+◌, ◌*◌, ◌/◌, ◌∙◌, ap, sym, subst, arith}
use Rattle.std.specs.Prelude.{slice_index}
use Rattle.pa_region.specs.Shares.{Share}
use Rattle.pa_records.specs.Words.{record_byte}
use Rattle.pa_meta.specs.Meta.{HasRawRecord}
use Rattle.pa_meta.proofs.Writing.{raw_word, loaded}
use Rattle.pa_meta.proofs.meta.read_meta.Goals as goal

pub load_word-counts-requires-clause-able : goal.load_word-counts-requires-clause-able
load_word-counts-requires-clause-able c =
    raw_word c.args.at 0 c.record_start-start.result c.args.seat.now.view c.requires.raw (omega arith)
    (let s = c.record_start-start.ensures in omega arith)

pub load_word-slots-requires-clause-able : goal.load_word-slots-requires-clause-able
load_word-slots-requires-clause-able c =
    let r = subst (λ (s : Share). HasRawRecord s.view c.args.at) (sym c.load_word-counts.ensures.seat) c.requires.raw in
    raw_word c.args.at 1 (c.record_start-start.result + 8) c.load_word-counts.new.seat.view r (omega arith)
    (let s = c.record_start-start.ensures in omega arith)

pub load_word-neighbours-requires-clause-able : goal.load_word-neighbours-requires-clause-able
load_word-neighbours-requires-clause-able c =
    let e = c.load_word-slots.ensures.seat ∙ c.load_word-counts.ensures.seat in
    let r = subst (λ (s : Share). HasRawRecord s.view c.args.at) (sym e) c.requires.raw in
    raw_word c.args.at 2 (c.record_start-start.result + 16) c.load_word-slots.new.seat.view r (omega arith)
    (let s = c.record_start-start.ensures in omega arith)

pub load_word-turn-requires-clause-able : goal.load_word-turn-requires-clause-able
load_word-turn-requires-clause-able c =
    let e = c.load_word-neighbours.ensures.seat ∙ (c.load_word-slots.ensures.seat ∙ c.load_word-counts.ensures.seat) in
    let r = subst (λ (s : Share). HasRawRecord s.view c.args.at) (sym e) c.requires.raw in
    raw_word c.args.at 3 (c.record_start-start.result + 24) c.load_word-neighbours.new.seat.view r (omega arith)
    (let s = c.record_start-start.ensures in omega arith)

pub span_in-requires : goal.span_in-requires
span_in-requires c =
    let start = c.record_start-start.result in let e = c.record_start-start.ensures in
    let p0 : start ≡ record_byte c.args.at + 8 * 0 = omega arith in
    let p1 : start + 8 ≡ record_byte c.args.at + 8 * 1 = omega arith in
    let p2 : start + 16 ≡ record_byte c.args.at + 8 * 2 = omega arith in
    let p3 : start + 24 ≡ record_byte c.args.at + 8 * 3 = omega arith in
    let s1 = c.load_word-counts.ensures.seat in let s2 = c.load_word-slots.ensures.seat ∙ s1 in
    let s3 = c.load_word-neighbours.ensures.seat ∙ s2 in (
      c.requires.record.0,
      loaded c.args.at c.args.seat.now.view c.requires.record.0 start (start + 8) (start + 16) (start + 24)
          c.load_word-counts.result c.load_word-slots.result c.load_word-neighbours.result c.load_word-turn.result p0 p1 p2 p3
          c.load_word-counts.ensures.word
          (c.load_word-slots.ensures.word ∙ ap (λ (s : Share). slice_index s.view.words ((start + 8) / 8)) s1)
          (c.load_word-neighbours.ensures.word ∙ ap (λ (s : Share). slice_index s.view.words ((start + 16) / 8)) s2)
          (c.load_word-turn.ensures.word ∙ ap (λ (s : Share). slice_index s.view.words ((start + 24) / 8)) s3) c.requires.record.1,
    )

pub returns-clause-span : goal.returns-clause-span
returns-clause-span c s is =
    let start = c.record_start-start.result in let e = c.record_start-start.ensures in
    let p0 : start ≡ record_byte c.args.at + 8 * 0 = omega arith in
    let p1 : start + 8 ≡ record_byte c.args.at + 8 * 1 = omega arith in
    let p2 : start + 16 ≡ record_byte c.args.at + 8 * 2 = omega arith in
    let p3 : start + 24 ≡ record_byte c.args.at + 8 * 3 = omega arith in
    let s1 = c.load_word-counts.ensures.seat in let s2 = c.load_word-slots.ensures.seat ∙ s1 in
    let s3 = c.load_word-neighbours.ensures.seat ∙ s2 in
    c.span_in.ensures s (loaded c.args.at c.args.seat.now.view s start (start + 8) (start + 16) (start + 24)
    c.load_word-counts.result c.load_word-slots.result c.load_word-neighbours.result c.load_word-turn.result p0 p1 p2 p3
    c.load_word-counts.ensures.word
    (c.load_word-slots.ensures.word ∙ ap (λ (u : Share). slice_index u.view.words ((start + 8) / 8)) s1)
    (c.load_word-neighbours.ensures.word ∙ ap (λ (u : Share). slice_index u.view.words ((start + 16) / 8)) s2)
    (c.load_word-turn.ensures.word ∙ ap (λ (u : Share). slice_index u.view.words ((start + 24) / 8)) s3) is)
