-- The records of a root's spans, and the first words of their free slots, are words that the root's seat knows: the region's are the same.
use Rattle.std.proofs.Common.{◌≡◌, ℕ, ◌+◌, ◌*◌, ◌/◌, ◌<◌, ◌≤◌, List, sym, ◌∙◌, subst, arith, inl}
use Rattle.std.specs.Prelude.{Contains}
use Rattle.pa_lists.proofs.Joined.{map_cases}
use Rattle.pa_slot.specs.declared.title.Title.{Title}
use Rattle.pa_slot.specs.declared.word.SlotName.{SlotName}
use Rattle.pa_slot.specs.Links.{first_word}
use Rattle.pa_buckets.proofs.Facts.{IsRow-of}
use Rattle.pa_record.specs.Spans.{Span, name_of}
use Rattle.pa_region.specs.declared.view.View.{View}
use Rattle.pa_region.specs.Views.{Knows}
use Rattle.pa_region.specs.Ends.{IsEnd}
use Rattle.pa_records.specs.Words.{record_word}
use Rattle.pa_records.specs.Records.{titles_free, KeepsSpans}
use Rattle.pa_meta.specs.Stores.{IsPayloadOf}
use Rattle.pa_root.specs.Keeping.{RootState, IsRootSound}
use Rattle.pa_root.proofs.Seeing.{root_sound}
use Rattle.pa_root.proofs.Shown.{free_held, raw_held}
use Rattle.pa_root.proofs.Whole.{made_is_whole}
use Rattle.pa_heap.specs.Closing.{IsWithin}
use Rattle.pa_heap.proofs.TakingIn.{first_known}

module _ (p : ℕ) (s : RootState) (sound : IsRootSound p s) where
  -- the words of a span's record are raw
  record_known : (u : Span) (q : ℕ) → Contains s.root.spans u → record_word u.place ≤ q → q < record_word u.place + 4 → Knows s.view q
  record_known u q among low high =
      let good = root_sound p s sound.journal in
      let (at, page, h) = good.placed u among in
      let place = h.place in
      let first = h.first in
      let last = h.last in
      let some = (IsRow-of u.class (good.spans u among).counted.class).some_pages in
      let payload : IsPayloadOf s.root.supers u.place =
      record { aligned = omega arith; super = (at, h.among, omega arith); page = (omega arith, omega arith) } in
      inl (raw_held p s u.place sound payload (8 * q) (omega arith) (omega arith))

  -- a slot of a span's list is free
  listed_known : (u : Span) (t : Title) → Contains s.root.spans u → Contains (titles_free u) t → Knows s.view (t.start / 8)
  listed_known u t among listed =
      let free = free_held p s u t sound among listed in
      first_known (t.start + t.len) s.view t (made_is_whole s.root t (root_sound p s sound.journal) (sound.titles.made t free)) free

  -- the words of the region are the same there, if the seat was taken in by the one that closed it
  pub keeps_spans : (v : View) (words : List ℕ) → IsWithin s.view v → IsEnd words v → KeepsSpans s.view.words words s.root
  keeps_spans v words within ends = record {
    records = λ u q among low high.
        let (here, same) = within.known q (record_known u q among low high) in
        sym (ends.values q here) ∙ same;
    firsts = λ u name among inside.
        let (t, listed, is) = map_cases name_of (titles_free u) name inside in
        let (here, same) = within.known (t.start / 8) (listed_known u t among listed) in
        subst (λ (z : SlotName). first_word words z ≡ first_word s.view.words z) is (sym (ends.values (t.start / 8) here) ∙ same);
  }
