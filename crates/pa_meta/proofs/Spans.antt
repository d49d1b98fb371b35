-- What writes of records leave of a view.
use Rattle.std.proofs.Common.{ℕ, List, inl, inr, refl, sym, subst, arith}
use Rattle.std.specs.Prelude.{◌↔◌}
use Rattle.std.proofs.lemmas.Bool.Decides.{eqb_tells}
use Rattle.pa_region.specs.declared.view.View.{View}
use Rattle.pa_record.specs.declared.taken.SuperPage.{SuperPage}
use Rattle.pa_spans.specs.declared.span.Span.{Span}
use Rattle.pa_records.specs.Words.{record_word, IsRecordAt}
use Rattle.pa_records.proofs.Words.{kept_word, long_as, four_kept, same_record, back_kept}
use Rattle.pa_meta.specs.Meta.{after_record}
use Rattle.pa_meta.specs.Stores.{IsPayloadOf, HasSpanAt, Rerecorded}

-- after a record was written, the same offsets have a span
pub had_after : (v : View) (supers : List SuperPage) (at : ℕ) (s : Span) → HasSpanAt v supers at →
    IsRecordAt (after_record at s v).words (record_word at) s → (u : ℕ) →
    HasSpanAt (after_record at s v) supers u ↔ HasSpanAt v supers u
had_after v supers at s here reads u = elim (eqb_tells u at) [
  | inl w ↦ (
    λ h. subst (HasSpanAt v supers) (sym w.1) here,
    λ h. record {
      payload = h.payload;
      raw = h.raw;
      span = s;
      recorded = subst (λ z. IsRecordAt (after_record at s v).words (record_word z) s) (sym w.1) reads;
    },
  )
  | inr w ↦ (
    λ h. record {
      payload = h.payload;
      raw = h.raw;
      span = h.span;
      recorded = same_record (after_record at s v).words v.words (record_word u) h.span
          (back_kept v.words (after_record at s v).words (record_word u)
          (four_kept v.words s u at h.payload.aligned here.payload.aligned w.1)) h.recorded;
    },
    λ h. record {
      payload = h.payload;
      raw = h.raw;
      span = h.span;
      recorded = same_record v.words (after_record at s v).words (record_word u) h.span
          (four_kept v.words s u at h.payload.aligned here.payload.aligned w.1) h.recorded;
    },
  )
]

-- the writing of a record writes records alone
pub rerecorded : (v : View) (supers : List SuperPage) (at : ℕ) (s : Span) → IsPayloadOf supers at →
    Rerecorded supers v (after_record at s v)
rerecorded v supers at s payload = record {
  rest = refl;
  long = long_as v.words (record_word at) s;
  others = λ q none. kept_word v.words (record_word at) s q (λ j small e. none at payload (omega arith) (omega arith));
}
