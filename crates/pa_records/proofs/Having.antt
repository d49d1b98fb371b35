-- Words have a root if a store over them has its spans, and their lists stand.
use Rattle.std.proofs.Common.{◌≡◌, ℕ, List, sym, ◌∙◌, subst}
use Rattle.std.specs.Prelude.{Contains}
use Rattle.pa_slot.specs.Links.{AreLinked}
use Rattle.pa_record.specs.Spans.{Span}
use Rattle.pa_record.specs.Root.{Root}
use Rattle.pa_spans.specs.Lists.{SpanListParts, Stand}
use Rattle.pa_records.specs.Words.{record_word, IsRecordAt, spans_in}
use Rattle.pa_records.specs.Records.{span_record, names_free, HasSpans}
use Rattle.pa_records.specs.Stored.{AreReadable, AreStored}
use Rattle.pa_records.proofs.Words.{span_is}
use Rattle.pa_records.proofs.Neighbours.{stored_is_recorded}

pub words_have : (words : List ℕ) (l : SpanListParts) (has : ℕ → Type 0) (r : Root) → AreReadable words has → Stand l (spans_in words) has →
    AreStored (spans_in words) has r.spans → ((s : Span) → Contains r.spans s → AreLinked words (names_free s)) → HasSpans words r
words_have words l has r read stand st chains = record {
  records = λ s among.
      let (aligned, x, is) = read s.place (st.had s among) in
      let e : x ≡ span_record r.spans s = sym (span_is words s.place x aligned is) ∙
      stored_is_recorded l (spans_in words) has r.spans stand st s among in
      subst (IsRecordAt words (record_word s.place)) e is;
  chains = chains;
}
