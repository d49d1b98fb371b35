use Rattle.std.proofs.Common.{◌∙◌, refl, ap, sym, subst}
use Rattle.pa_region.specs.declared.view.View.{View}
use Rattle.pa_records.specs.Words.{record_word, IsRecordAt, spans_in}
use Rattle.pa_meta.specs.Stores.{HasSpanAt, Rerecorded}
use Rattle.pa_records.proofs.Words.{spans_written}
use Rattle.pa_meta.proofs.Spans.{had_after, rerecorded}
use Rattle.pa_meta.proofs.store.MetaStoreSpanStore.set.Goals as goal

pub write_meta-requires-clause-region : goal.write_meta-requires-clause-region
write_meta-requires-clause-region c = c.requires.0

pub write_meta-requires-clause-raw : goal.write_meta-requires-clause-raw
write_meta-requires-clause-raw c = c.requires.1.raw

pub returns-clause-span : goal.returns-clause-span
returns-clause-span c u =
    let v = c.args.self.now.seat.now.view in let view = c.write_meta.ensures.view in
    let reads = subst (λ (x : View). IsRecordAt x.words (record_word c.args.at) c.args.span) view c.write_meta.ensures.reads in
    ap (λ (x : View). spans_in x.words u) view ∙ spans_written v.words c.args.at c.args.span c.requires.1.payload.aligned reads u

pub returns-clause-has : goal.returns-clause-has
returns-clause-has c u =
    let v = c.args.self.now.seat.now.view in let view = c.write_meta.ensures.view in let supers = c.args.self.now.supers.now in
    let reads = subst (λ (x : View). IsRecordAt x.words (record_word c.args.at) c.args.span) view c.write_meta.ensures.reads in
    let both = had_after v supers c.args.at c.args.span c.requires.1 reads u in (
      λ h. (c.requires.0, both.0 (subst (λ (x : View). HasSpanAt x supers u) view h.1)),
      λ h. (c.write_meta.ensures.region ∙ h.0, subst (λ (x : View). HasSpanAt x supers u) (sym view) (both.1 h.1)),
    )

pub returns-clause-follows : goal.returns-clause-follows
returns-clause-follows c =
    let v = c.args.self.now.seat.now.view in let supers = c.args.self.now.supers.now in (
      refl,
      refl,
      refl,
      c.write_meta.ensures.region,
      subst (λ (x : View). Rerecorded supers v x) (sym c.write_meta.ensures.view)
          (rerecorded v supers c.args.at c.args.span c.requires.1.payload),
    )
