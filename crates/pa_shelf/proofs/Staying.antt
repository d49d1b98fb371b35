-- A view with the same records as another one records the root too, and if free slots keep their first words, it shows the root.
use Rattle.std.proofs.Common.{◌≡◌, ℕ, ◌+◌, ◌/◌, ◌<◌, inl, List, sym, ◌∙◌, ap, arith}
use Rattle.std.proofs.lemmas.List.{get_or-set_other}
use Rattle.pa_lists.proofs.Elements.{all_from_members}
use Rattle.pa_slot.specs.declared.title.Title.{Title}
use Rattle.pa_slot.specs.Links.{first_word}
use Rattle.pa_record.specs.declared.taken.SuperPage.{SuperPage}
use Rattle.pa_record.specs.Spans.{name_of}
use Rattle.pa_record.specs.Root.{Root}
use Rattle.pa_region.specs.declared.view.View.{View}
use Rattle.pa_region.specs.Views.{free_of}
use Rattle.pa_region.specs.Aware.{IsAware}
use Rattle.pa_spans.specs.declared.span.Span.{Span as SpanRecord}
use Rattle.pa_spans.proofs.Staying.{stays, same_listed}
use Rattle.pa_records.specs.Words.{record_word, spans_in}
use Rattle.pa_records.specs.Records.{titles_free}
use Rattle.pa_records.specs.Stored.{alone}
use Rattle.pa_records.proofs.Words.{FourKept, same_record, span_is}
use Rattle.pa_meta.specs.Stores.{IsPayloadOf, HasSpanAt}
use Rattle.pa_link.specs.Chains.{after_link}
use Rattle.pa_link.proofs.Chains.{stay}
use Rattle.pa_shelf.specs.Shelves.{ShelfParts, KeepsRecords, RecordsRoot, ShownStays, chain_of}
use Rattle.pa_shelf.proofs.Chained.{apart}

four : (supers : List SuperPage) (v w : View) (u : ℕ) → KeepsRecords supers v w → IsPayloadOf supers u →
    FourKept v.words w.words (record_word u)
four supers v w u keeps payload = let q = record_word u in record {
  first = keeps.words u q payload (omega arith) (omega arith);
  second = keeps.words u (q + 1) payload (omega arith) (omega arith);
  third = keeps.words u (q + 2) payload (omega arith) (omega arith);
  fourth = keeps.words u (q + 3) payload (omega arith) (omega arith);
}

pub has_kept : (supers : List SuperPage) (v w : View) (u : ℕ) → KeepsRecords supers v w → HasSpanAt v supers u → HasSpanAt w supers u
has_kept supers v w u keeps h = record {
  payload = h.payload;
  raw = keeps.raw u h.payload h.raw;
  span = h.span;
  recorded = same_record v.words w.words (record_word u) h.span (four supers v w u keeps h.payload) h.recorded;
}

pub spans_kept : (supers : List SuperPage) (v w : View) (u : ℕ) → KeepsRecords supers v w → HasSpanAt v supers u →
    spans_in w.words u ≡ spans_in v.words u
spans_kept supers v w u keeps h =
    span_is w.words u h.span h.payload.aligned
    (same_record v.words w.words (record_word u) h.span (four supers v w u keeps h.payload) h.recorded)
    ∙ sym (span_is v.words u h.span h.payload.aligned h.recorded)

pub records_stay : (v w : View) (l : ShelfParts) (r : Root) → KeepsRecords l.supers v w → RecordsRoot v l r → RecordsRoot w l r
records_stay v w l r keeps k =
    let same : (u : ℕ) → HasSpanAt v l.supers u → spans_in w.words u ≡ spans_in v.words u = λ u h. spans_kept l.supers v w u keeps h in
    record {
      supers = k.supers;
      maps = k.maps;
      page = k.page;
      turn = k.turn;
      apart = k.apart;
      small = k.small;
      pages = λ u payload. has_kept l.supers v w u keeps (k.pages u payload);
      unused = λ u h none. let was = k.pages u h.payload in let e = same u was in
          ap (λ (x : SpanRecord). x.turn) e ∙ k.unused u was (sym (ap (λ (x : SpanRecord). x.state) e) ∙ none);
      stand = stays l.lists (spans_in v.words) (spans_in w.words) (HasSpanAt v l.supers) (HasSpanAt w l.supers) k.stand (record {
        on = λ u h. (has_kept l.supers v w u keeps h, same_listed (spans_in v.words u) (spans_in w.words u) (same u h));
        back = λ u h. let was = k.pages u h.payload in inl (was, same_listed (spans_in v.words u) (spans_in w.words u) (same u was));
        none = λ h. k.stand.some (k.pages 0 h.payload);
      });
      few = k.few;
      stored = record {
        had = λ s among. has_kept l.supers v w s.place keeps (k.stored.had s among);
        numbers = λ s among. ap alone (same s.place (k.stored.had s among)) ∙ k.stored.numbers s among;
        each = λ u h used. let was = k.pages u h.payload in
            k.stored.each u was (λ none. used (ap (λ (x : SpanRecord). x.state) (same u was) ∙ none));
        one = k.stored.one;
        places = k.stored.places;
      };
    }

pub shown_stays : ShownStays
shown_stays v w l r keeps chains shown = record {
  kept = records_stay v w l r keeps shown.kept;
  chains = λ s among. let k = chains s among in
      stay v w (chain_of s) (titles_free s)
      (all_from_members (λ t. 0 < free_of w t) (titles_free s) (λ t inside. (k t inside).0))
      (all_from_members (λ t. first_word w.words (name_of t) ≡ first_word v.words (name_of t)) (titles_free s) (λ t inside. (k t inside).1))
      (shown.chains s among);
}

-- a link that is stored in a free title leaves the records
pub link_keeps : (v : View) (l : ShelfParts) (r : Root) (t : Title) (link : ℕ) → IsAware v → 0 < free_of v t → 0 < t.len →
    RecordsRoot v l r →
    KeepsRecords l.supers v (after_link t link v)
link_keeps v l r t link aware free some k = record {
  words = λ u q payload low high.
      get_or-set_other v.words (t.start / 8) q link 0
      (λ same. apart v t u aware (k.pages u payload).raw free some (omega arith) (omega arith));
  raw = λ u payload raw. raw;
}
