use Rattle.std.proofs.Common.{◌≡◌, ◌∙◌, refl, ap, sym, subst}
use Rattle.pa_region.specs.Shares.{Share}
use Rattle.pa_records.specs.Words.{spans_in}
use Rattle.pa_meta.specs.Stores.{HasSpanAt, Rerecorded, rerecorded_none}
use Rattle.pa_records.proofs.Words.{span_is}
use Rattle.pa_meta.proofs.store.MetaStoreSpanStore.get.Goals as goal

pub read_meta-requires-clause-region : goal.read_meta-requires-clause-region
read_meta-requires-clause-region c = c.requires.0

pub read_meta-requires-clause-raw : goal.read_meta-requires-clause-raw
read_meta-requires-clause-raw c = c.requires.1.raw

pub read_meta-requires-clause-record : goal.read_meta-requires-clause-record
read_meta-requires-clause-record c = (c.requires.1.span, c.requires.1.recorded)

pub returns-clause-span : goal.returns-clause-span
returns-clause-span c =
    let had = c.requires.1 in
    c.read_meta.ensures.span had.span had.recorded ∙
    sym (span_is c.args.self.now.seat.now.view.words c.args.at had.span had.payload.aligned had.recorded)

pub returns-clause-same : goal.returns-clause-same
returns-clause-same c u = ap (λ (s : Share). spans_in s.view.words u) c.read_meta.ensures.seat

pub returns-clause-has : goal.returns-clause-has
returns-clause-has c u =
    let seat = c.read_meta.ensures.seat in let region = c.args.self.now.region.now in let supers = c.args.self.now.supers.now in (
      λ h. subst (λ (s : Share). (s.region ≡ region) × HasSpanAt s.view supers u) seat h,
      λ h. subst (λ (s : Share). (s.region ≡ region) × HasSpanAt s.view supers u) (sym seat) h,
    )

pub returns-clause-follows : goal.returns-clause-follows
returns-clause-follows c =
    let seat = c.read_meta.ensures.seat in let v = c.args.self.now.seat.now.view in let supers = c.args.self.now.supers.now in (
      refl,
      refl,
      refl,
      ap (λ (s : Share). s.region) seat,
      subst (λ (s : Share). Rerecorded supers v s.view) (sym seat) (rerecorded_none supers v),
    )
