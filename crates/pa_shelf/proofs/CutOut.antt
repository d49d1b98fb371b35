-- Titles that are cut out of raw bytes beside records: the root that is shown stays shown.
use Rattle.std.proofs.Common.{◌≡◌, ℕ, ◌+◌, ◌*◌, ◌/◌, ◌%◌, ◌<◌, ◌≤◌, ◌⊎◌, inl, inr, List, ◌∷◌, refl, ◌∙◌, ap, subst, arith}
use Rattle.std.specs.Prelude.{Contains}
use Rattle.std.proofs.lemmas.Bool.{cases_lt}
use Rattle.std.proofs.lemmas.List.{get_or-set_other}
use Rattle.std.proofs.lemmas.List.Elements.{All-contains}
use Rattle.std.proofs.lemmas.List.Sums.{sum_by-cons}
use Rattle.pa_lists.proofs.Joined.{map_cases}
use Rattle.pa_slot.specs.declared.title.Title.{Title}
use Rattle.pa_slot.specs.Titles.{Covers, count_place, same_title}
use Rattle.pa_slot.specs.Holdings.{FreePiece, RawByte, amount, one}
use Rattle.pa_buckets.specs.Table.{slot_of, pages_of, slots_of}
use Rattle.pa_record.specs.declared.taken.SuperPage.{SuperPage}
use Rattle.pa_record.specs.Spans.{Span, title_at}
use Rattle.pa_record.specs.Root.{Root}
use Rattle.pa_record.specs.Sound.{IsSound}
use Rattle.pa_record.proofs.Slots.{slot_within}
use Rattle.pa_record.proofs.SpanSteps.{size_some}
use Rattle.pa_region.specs.declared.view.View.{View}
use Rattle.pa_region.specs.Views.{free_of, held_of_view, HasTitle}
use Rattle.pa_region.specs.Aware.{IsAware}
use Rattle.pa_region.specs.Cuts.{CanCut, after_cut}
use Rattle.pa_region.proofs.Adding.{sum_none}
use Rattle.pa_region.proofs.Pieces.{held_split}
use Rattle.pa_region.proofs.Stays.{low_held}
use Rattle.pa_region.proofs.Parting.{raws_part}
use Rattle.pa_region.proofs.Cutting.{inside_none}
use Rattle.pa_records.specs.Words.{record_byte}
use Rattle.pa_records.specs.Records.{titles_free}
use Rattle.pa_meta.specs.Meta.{HasRawRecord}
use Rattle.pa_meta.proofs.Writing.{aligned}
use Rattle.pa_shelf.specs.Cutting.{IsBesideRecords, AreCutOut, CutsKeepShown}
use Rattle.pa_shelf.specs.Shelves.{ShelfParts, KeepsChains, ShowsRoot}
use Rattle.pa_shelf.proofs.Provisioning.{start_whole}
use Rattle.pa_shelf.proofs.Staying.{shown_stays}

-- no byte gets raw, and those beside the title stay raw
raw_after : (t : Title) (w : View) (b : ℕ) → held_of_view (after_cut t w) (RawByte b) ≤ held_of_view w (RawByte b)
raw_after t w b =
    let p = raws_part t.start (t.start + t.len) (omega arith) w.raws (RawByte b) in
    let before = held_split w (RawByte b) in
    let after = held_split (after_cut t w) (RawByte b) in
    let f = sum_none (λ (u : Title). amount (RawByte b) (FreePiece u)) (t ∷ w.frees) (λ u. refl) in
    let g = sum_none (λ (u : Title). amount (RawByte b) (FreePiece u)) w.frees (λ u. refl) in
    omega arith

raw_beside : (t : Title) (w : View) (b : ℕ) → (b < t.start) ⊎ (t.start + t.len ≤ b) →
    held_of_view (after_cut t w) (RawByte b) ≡ held_of_view w (RawByte b)
raw_beside t w b far =
    let none = inside_none t.start (t.start + t.len) b w.raws far in
    let p = raws_part t.start (t.start + t.len) (omega arith) w.raws (RawByte b) in
    let before = held_split w (RawByte b) in
    let after = held_split (after_cut t w) (RawByte b) in
    let f = sum_none (λ (u : Title). amount (RawByte b) (FreePiece u)) (t ∷ w.frees) (λ u. refl) in
    let g = sum_none (λ (u : Title). amount (RawByte b) (FreePiece u)) w.frees (λ u. refl) in
    omega arith

-- the title has its count word
count_inside : (t : Title) (w : View) (q : ℕ) → CanCut t w → q ≡ count_place t → Covers t (8 * q)
count_inside t w q can is =
    let start = can.start_aligned in let len = can.len_aligned in let long = can.long in
    (omega arith, omega arith)

raw_stays : (t : Title) (w : View) (supers : List SuperPage) (u : ℕ) →
    ((b : ℕ) → Covers t b → record_byte u ≤ b → b < record_byte u + 32 → ⊥) →
    HasRawRecord w u → HasRawRecord (after_cut t w) u
raw_stays t w supers u beside raw b low high =
    let before = raw b low high in
    elim (cases_lt b t.start) [
      | inl less ↦ let same = raw_beside t w b (inl less) in omega arith
      | inr from ↦ elim (cases_lt b (t.start + t.len)) [
        | inl inside ↦ absurd (beside b (omega arith, inside) low high)
        | inr past ↦ let same = raw_beside t w b (inr (omega arith)) in omega arith
      ]
    ]

-- one more title is cut
cut_more : (supers : List SuperPage) (v w : View) (t : Title) → AreCutOut supers v w → CanCut t w → IsBesideRecords supers t →
    AreCutOut supers v (after_cut t w)
cut_more supers v w t cut can beside = record {
  records = record {
    words = λ u q payload low high.
        get_or-set_other w.words (count_place t) q 0 0 (λ same.
        let whole = aligned u in
        beside u (8 * q) payload (count_inside t w q can same) (omega arith) (omega arith))
        ∙ cut.records.words u q payload low high;
    raw = λ u payload raw. raw_stays t w supers u (λ b. beside u b payload) (cut.records.raw u payload raw);
  };
  frees = λ u free. let kept = cut.frees u free in omega (arith, sum_by-cons (λ x. one (same_title x u)) t w.frees);
  words = λ q none.
      get_or-set_other w.words (count_place t) q 0 0 (λ same.
      let low = can.floors (8 * q) (count_inside t w q can same) in
      let held = low_held w (8 * q) t.born in
      let raw = cut.raws (8 * q) (omega arith) in
      omega arith)
      ∙ cut.words q none;
  raws = λ b held. let fewer = raw_after t w b in cut.raws b (omega arith);
}

-- a span's slots lie on payload pages, and the records don't
away : (number page pages k p b : ℕ) → 1 ≤ page → page + pages ≤ 127 → 2097152 * number + 16384 * page ≤ b →
    b < 2097152 * number + 16384 * page + 16384 * pages → p ≤ 127 → 2097152 * k + 4096 + 32 * p ≤ b → b < 2097152 * k + 4096 + 32 * p + 32 →
    ⊥
away number page pages k p b first last low high few from to = omega arith

slots_beside_records : (supers : List SuperPage) (r : Root) (s : Span) (n : ℕ) → IsSound r → Contains r.spans s → n < slots_of s.class →
    IsBesideRecords supers (title_at s n)
slots_beside_records supers r s n sound among below u b payload covers low high =
    let within = slot_within s n (sound.spans s among).counted below in
    let (a, page, p) = sound.placed s among in
    let from = within.from in let to = within.to in let place = p.place in let least = covers.0 in let most = covers.1 in
    let few = payload.page.1 in
    away a.number page (pages_of s.class) (u / 2097152) (u % 2097152 / 16384) b p.first p.last (omega arith) (omega arith)
    (omega arith) low high

-- what is shown stays shown
chains_kept : (v w : View) (l : ShelfParts) (r : Root) → IsAware v → IsSound r → ShowsRoot v l r → AreCutOut l.supers v w →
    KeepsChains v w r.spans
chains_kept v w l r aware sound shown cut s member t inside =
    let (m, numbered, is) = map_cases (title_at s) s.free t inside in
    let real = (sound.spans s member).counted.class in
    let free : 0 < free_of v t = All-contains (λ (x : Title). 0 < free_of v x) (titles_free s) t (shown.chains s member).free inside in
    let start : t.start % 8 ≡ 0 = subst (λ (z : Title). z.start % 8 ≡ 0) is (start_whole v l r s m shown member real) in
    let size : slot_of s.class ≡ t.len = ap (λ (z : Title). z.len) is in
    let some = size_some s.class real in
    let has : HasTitle v t = omega arith in
    let none = aware.raw_apart t (8 * (t.start / 8)) has (omega arith, omega arith) in
    (cut.frees t free, cut.words (t.start / 8) none)

cut_shown : (v w : View) (l : ShelfParts) (r : Root) → IsAware v → IsSound r → ShowsRoot v l r → AreCutOut l.supers v w → ShowsRoot w l r
cut_shown v w l r aware sound shown cut = shown_stays v w l r cut.records (chains_kept v w l r aware sound shown cut) shown

pub cuts_keep_shown : CutsKeepShown
cuts_keep_shown = record {
  none = λ supers v. record {
    records = record { words = λ u q payload low high. refl; raw = λ u payload raw. raw };
    frees = λ t free. free;
    words = λ q none. refl;
    raws = λ b held. held;
  };
  more = cut_more;
  beside = slots_beside_records;
  shown = cut_shown;
  able = λ v w l at r s aware b cut old new. record {
    slot = record { sound = b.sound; shown = cut_shown v w l r aware b.sound b.shown cut; among = b.among; here = b.here; less = b.less };
    held = λ none n low high. elim (cases_lt n s.made) [
      | inl before ↦ cut.frees (title_at s n) (old none n low before)
      | inr after ↦ new none n (omega arith) high
    ];
  };
}
