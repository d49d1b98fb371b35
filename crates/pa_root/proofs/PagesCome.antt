-- Super pages that come from the pool: the root has none of them, so it has less than sixteen super pages and less than sixteen direct
-- maps.
use Rattle.std.proofs.Common.{◌≡◌, ℕ, ◌+◌, ◌*◌, ◌<◌, ◌≤◌, inr, map, length, refl, sym, subst, arith}
use Rattle.std.specs.Prelude.{◌≢◌, All, AllPairs, Contains}
use Rattle.std.proofs.lemmas.List.Elements.{All-contains}
use Rattle.pa_lists.proofs.Elements.{length_map}
use Rattle.pa_lists.proofs.Different.{length_less}
use Rattle.pa_lists.proofs.Joined.{map_cases, pairs_map}
use Rattle.pa_slot.specs.declared.title.Title.{Title}
use Rattle.pa_slot.specs.Titles.{Covers}
use Rattle.pa_slot.specs.Holdings.{RawByte}
use Rattle.pa_layout.specs.Limits.{region_supers}
use Rattle.pa_layout.specs.Pages.{super_page_at, page_place, supers_for}
use Rattle.pa_region.specs.declared.view.View.{View}
use Rattle.pa_region.specs.Views.{held_of_view, low_of}
use Rattle.pa_region.specs.Hands.{united}
use Rattle.pa_region.specs.Aware.{IsAware}
use Rattle.pa_region.proofs.JoinStep.{united_parts}
use Rattle.pa_region.proofs.Stays.{low_held}
use Rattle.pa_record.specs.declared.taken.SuperPage.{SuperPage}
use Rattle.pa_records.specs.Words.{record_byte}
use Rattle.pa_shelf.specs.Opening.{HasRawRecords, IsNewNumber}
use Rattle.pa_shelf.specs.Shelves.{ShelfParts, ShowsRoot}
use Rattle.pa_shelf.proofs.Counting.{payload_at}
use Rattle.pa_root.specs.Keeping.{RootState, IsInRun, IsRootSound}
use Rattle.pa_root.specs.Filling.{HasRunOnly}
use Rattle.pa_root.proofs.Seeing.{root_sound}
use Rattle.pa_root.proofs.Shown.{raw_held}

-- each direct map has the first byte of its super pages, a guard's
pub map_first : (p : ℕ) (s : RootState) (t : Title) → IsRootSound p s → Contains s.root.maps t →
    (t.start ≡ 2097152 * super_page_at t.start + 16384) × (0 < low_of s.view (2097152 * super_page_at t.start) t.born)
map_first p s t sound among =
    let (first, start, seen) = sound.maps.taken t among in
    let here : super_page_at t.start ≡ first = omega arith in
    let some : 1 ≤ supers_for t.len = omega arith in
    let away : Covers t (2097152 * first) → ⊥ = λ covers. let low = covers.0 in omega arith in
    let raw = sound.rest.raw t.born (2097152 * first) (inr (t, first, among, refl, start, (omega arith, omega arith), away)) in
    (omega arith, subst (λ n. 0 < low_of s.view (2097152 * n) t.born) (sym here) raw)

-- no two direct maps start in one super page
maps_apart : (p : ℕ) (s : RootState) (t u : Title) → IsRootSound p s → Contains s.root.maps t → Contains s.root.maps u → t.born ≢ u.born →
    super_page_at t.start ≢ super_page_at u.start
maps_apart p s t u sound among other differ same =
    let (first, start, seen) = sound.maps.taken t among in
    let (second, begin, saw) = sound.maps.taken u other in
    let e : second ≡ first = omega arith in
    let some : 1 ≤ supers_for t.len = omega arith in
    let more : 1 ≤ supers_for u.len = omega arith in
    let away : Covers t (2097152 * first) → ⊥ = λ covers. let low = covers.0 in omega arith in
    let aside : Covers u (2097152 * first) → ⊥ = λ covers. let low = covers.0 in omega arith in
    differ (sound.rest.one t.born u.born (2097152 * first)
    (inr (t, first, among, refl, start, (omega arith, omega arith), away))
    (inr (u, second, other, refl, begin, (omega arith, omega arith), aside)))

module _ (p first count entry : ℕ) (s : RootState) (w : View) (sound : IsRootSound p s) (both : IsAware (united s.view w))
    (has : HasRunOnly first count entry entry w) (some : 1 ≤ count) where
  -- a byte of the note's isn't the seat's
  pub not_ours : (b : ℕ) → IsInRun first count b → 0 < held_of_view s.view (RawByte b) → ⊥
  not_ours b inside held =
      let raw = has.raws b inside in
      let there = low_held w b entry in
      let e = (united_parts s.view w).things (RawByte b) in
      let once = both.raw_once b in
      omega arith

  pub new_number : (l : ShelfParts) → ShowsRoot s.view l s.root → IsNewNumber first l.supers
  new_number l shown at among same =
      let ours = subst (λ ss. Contains ss at) (sym shown.kept.supers) among in
      let u = page_place at.number 1 in
      let payload = payload_at s.root.supers at 1 ours (omega arith) (omega arith) in
      let b = record_byte u in
      let place : record_byte u ≡ 2097152 * at.number + 4128 = omega arith in
      not_ours b (omega arith, omega arith) (raw_held p s u sound payload b (omega arith) (omega arith))

  pub few_supers : (l : ShelfParts) → ShowsRoot s.view l s.root → All (λ (a : SuperPage). a.number < region_supers) l.supers →
      first < region_supers →
      length l.supers < region_supers
  few_supers l shown below small =
      let number : SuperPage → ℕ = λ a. a.number in
      let once : AllPairs ◌≢◌ (map number l.supers) =
      pairs_map (λ (a b : SuperPage). a.number ≢ b.number) ◌≢◌ number l.supers (λ a b inside other differ. differ) shown.kept.apart in
      let under : (k : ℕ) → Contains (map number l.supers) k → k < region_supers = λ k inside.
      let (a, member, is) = map_cases number l.supers k inside in
      subst (λ n. n < region_supers) is (All-contains (λ (z : SuperPage). z.number < region_supers) l.supers a below member) in
      let never : Contains (map number l.supers) first → ⊥ = λ inside.
      let (a, member, is) = map_cases number l.supers first inside in new_number l shown a member is in
      subst (λ n. n < region_supers) (length_map number l.supers)
      (length_less (map number l.supers) region_supers first once under small never)

  pub few_maps : ((b : ℕ) → 0 < held_of_view s.view (RawByte b) → b < 134217728) → first < region_supers →
      length s.root.maps < region_supers
  few_maps inside_region small =
      let good = root_sound p s sound.journal in
      let start : Title → ℕ = λ t. super_page_at t.start in
      let once : AllPairs ◌≢◌ (map start s.root.maps) =
      pairs_map (λ (t u : Title). t.born ≢ u.born) ◌≢◌ start s.root.maps
      (λ t u inside other differ. maps_apart p s t u sound inside other differ) good.alone in
      let raw : (t : Title) → Contains s.root.maps t → 0 < held_of_view s.view (RawByte (2097152 * super_page_at t.start)) = λ t among.
      let low = (map_first p s t sound among).1 in let held = low_held s.view (2097152 * super_page_at t.start) t.born in omega arith in
      let under : (k : ℕ) → Contains (map start s.root.maps) k → k < region_supers = λ k inside.
      let (t, member, is) = map_cases start s.root.maps k inside in
      let low = inside_region (2097152 * super_page_at t.start) (raw t member) in omega arith in
      let never : Contains (map start s.root.maps) first → ⊥ = λ inside.
      let (t, member, is) = map_cases start s.root.maps first inside in
      not_ours (2097152 * super_page_at t.start) (omega arith, omega arith) (raw t member) in
      subst (λ n. n < region_supers) (length_map start s.root.maps)
      (length_less (map start s.root.maps) region_supers first once under small never)

-- the records of a super page that came are raw
pub raw_records : (first count entry : ℕ) (v w : View) → HasRunOnly first count entry entry w → 1 ≤ count → HasRawRecords (united v w) first
raw_records first count entry v w has some page low high b from to =
    let place : record_byte (page_place first page) ≡ 2097152 * first + 4096 + 32 * page = omega arith in
    let raw = has.raws b (omega arith, omega arith) in
    let there = low_held w b entry in
    let e = (united_parts v w).things (RawByte b) in
    omega arith
