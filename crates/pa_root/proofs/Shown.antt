-- A sound root's records and free slots are its seat's, so the root that was shown is shown in later views of the seat.
use Rattle.std.proofs.Common.{◌≡◌, ℕ, ◌+◌, ◌*◌, ◌/◌, ◌%◌, ◌<◌, ◌≤◌, inl, inr, length, refl, sym, ◌∙◌, ap, subst, arith}
use Rattle.std.specs.Prelude.{Contains, slice_index}
use Rattle.std.proofs.lemmas.List.Elements.{All-contains}
use Rattle.pa_lists.proofs.Joined.{map_cases}
use Rattle.pa_slot.specs.declared.title.Title.{Title}
use Rattle.pa_slot.specs.declared.word.SlotName.{SlotName}
use Rattle.pa_slot.specs.Titles.{Covers}
use Rattle.pa_slot.specs.Holdings.{RawByte}
use Rattle.pa_region.specs.declared.view.View.{View}
use Rattle.pa_region.specs.Views.{held_of_view, free_of, Knows}
use Rattle.pa_region.specs.Hands.{united}
use Rattle.pa_region.specs.Lending.{Keeps}
use Rattle.pa_region.proofs.JoinStep.{united_parts}
use Rattle.pa_region.proofs.Stays.{low_held}
use Rattle.pa_region.proofs.TakeLaws.{left_known}
use Rattle.pa_record.specs.Spans.{Span, title_at, name_of}
use Rattle.pa_record.specs.Root.{Root}
use Rattle.pa_record.specs.Sound.{IsSound, IsMade}
use Rattle.pa_record.proofs.Slots.{one_slot}
use Rattle.pa_records.specs.Words.{record_byte, record_word}
use Rattle.pa_records.specs.Records.{titles_free}
use Rattle.pa_meta.specs.Meta.{HasRawRecord}
use Rattle.pa_meta.specs.Stores.{IsPayloadOf}
use Rattle.pa_meta.proofs.Writing.{aligned}
use Rattle.pa_shelf.specs.Shelves.{ShelfParts, ShowsRoot}
use Rattle.pa_shelf.proofs.CutOut.{cuts_keep_shown}
use Rattle.pa_shelf.proofs.Staying.{shown_stays}
use Rattle.pa_root.specs.Keeping.{RootState, IsInMade, IsRootSound}
use Rattle.pa_root.proofs.Seeing.{root_sound, free_kept}
use Rattle.pa_root.proofs.Together.{free_both}
use Rattle.pa_root.proofs.Whole.{made_is_whole}

-- ---- what a sound root's seat has

-- a slot in a span's list was made
listed_made : (r : Root) (s : Span) (t : Title) → IsSound r → Contains r.spans s → Contains (titles_free s) t → IsMade r t
listed_made r s t sound among inside =
    let (n, numbered, is) = map_cases (title_at s) s.free t inside in
    let c = (sound.spans s among).counted in
    let below = c.numbers n numbered in let made = c.made in
    (s, among, n, omega arith, sym is)

-- a free slot of a span is free in the seat's view
pub free_held : (p : ℕ) (s : RootState) (span : Span) (t : Title) → IsRootSound p s → Contains s.root.spans span →
    Contains (titles_free span) t →
    0 < free_of s.view t
free_held p s span t sound among inside =
    let good = root_sound p s sound.journal in
    elim (sound.titles.has t (listed_made s.root span t good among inside)) [
      | inl free ↦ free
      | inr out ↦
          let (n, numbered, is) = map_cases (title_at span) span.free t inside in
          let (other, member, k, away) = out in
          let c = (good.spans span among).counted in let d = (good.spans other member).counted in
          let low = c.numbers n numbered in let lows = c.made in let most = c.most in
          let high = away.provisioned in let highs = d.made in let tops = d.most in
          let names : name_of (title_at other k) ≡ name_of (title_at span n) = sym away.named ∙ ap name_of (sym is) in
          let one = one_slot s.root other span k n good member among (omega arith) (omega arith)
          (ap (λ (a : SlotName). a.born) names) (ap (λ (a : SlotName). a.start) names) in
          absurd (away.out (subst (λ m. Contains other.free m) (sym one.number)
          (subst (λ (z : Span). Contains z.free n) (sym one.span) numbered)))
    ]

-- a record's bytes lie in the rest of its super page
in_run : (number page b : ℕ) → page ≤ 126 → 2097152 * number + 4096 + 32 * page ≤ b → b < 2097152 * number + 4096 + 32 * page + 32 →
    (2097152 * number ≤ b) × (b < 2097152 * (number + 1))
in_run number page b few low high = (omega arith, omega arith)

pub raw_held : (p : ℕ) (s : RootState) (u : ℕ) → IsRootSound p s → IsPayloadOf s.root.supers u → HasRawRecord s.view u
raw_held p s u sound payload b low high =
    let good = root_sound p s sound.journal in
    let (at, among, number) = payload.super in
    let place : record_byte u ≡ 2097152 * at.number + 4096 + 32 * (u % 2097152 / 16384) =
    ap (λ n. 2097152 * n + 4096 + 32 * (u % 2097152 / 16384)) (sym number) in
    let inside = in_run at.number (u % 2097152 / 16384) b payload.page.1 (omega arith) (omega arith) in
    let away : IsInMade s.root at.born b → ⊥ = λ (t, (span, member, n, below, is), born, covers).
    let most = (good.spans span member).counted.most in
    cuts_keep_shown.beside s.root.supers s.root span n good member (omega arith) u b payload
    (subst (λ (z : Title). Covers z b) is covers) low high in
    let floor = sound.rest.raw at.born b (inl (at, among, refl, inside, away)) in
    let held = low_held s.view b at.born in
    omega arith

-- ---- words of records and of first words are known

record_known : (v : View) (u q : ℕ) → HasRawRecord v u → record_word u ≤ q → q < record_word u + 4 → Knows v q
record_known v u q raw low high = let whole = aligned u in inl (raw (8 * q) (omega arith) (omega arith))

first_known : (v : View) (r : Root) (s : Span) (t : Title) → IsSound r → Contains r.spans s → Contains (titles_free s) t → 0 < free_of v t →
    Knows v (t.start / 8)
first_known v r s t sound among inside free =
    let well = made_is_whole r t sound (listed_made r s t sound among inside) in
    let whole = well.start_aligned in let long = well.long in
    inr (inl (t, free, (omega arith, omega arith)))

-- the words that both views know are the same
abbrev pub SameKnown : View → View → Type 0
SameKnown v x = (q : ℕ) → Knows v q → Knows x q → slice_index x.words q ≡ slice_index v.words q

-- A sound root is shown by its view, if it was shown by another one with the same words where both know them.
pub shown_later : (p : ℕ) (v : View) (s : RootState) (l : ShelfParts) → IsRootSound p s → SameKnown v s.view → ShowsRoot v l s.root →
    ShowsRoot s.view l s.root
shown_later p v s l sound same shown =
    let good = root_sound p s sound.journal in
    let ours : (u : ℕ) → IsPayloadOf l.supers u → IsPayloadOf s.root.supers u =
    λ u payload. subst (λ ss. IsPayloadOf ss u) (sym shown.kept.supers) payload in
    shown_stays v s.view l s.root
    (record {
      words = λ u q payload low high. same q (record_known v u q (shown.kept.pages u payload).raw low high)
          (record_known s.view u q (raw_held p s u sound (ours u payload)) low high);
      raw = λ u payload raw. raw_held p s u sound (ours u payload);
    })
    (λ span among t inside.
    let was : 0 < free_of v t = All-contains (λ (z : Title). 0 < free_of v z) (titles_free span) t (shown.chains span among).free inside in
    let now = free_held p s span t sound among inside in
    (now, same (t.start / 8) (first_known v s.root span t good among inside was) (first_known s.view s.root span t good among inside now)))
    shown

-- ---- views that have more

-- The view x has what v has, raw and free, and the same words where v knows them.
pub record HasMore (v x : View) : Type 0 where
  pub raw : (b : ℕ) → 0 < held_of_view v (RawByte b) → 0 < held_of_view x (RawByte b)
  pub frees : (t : Title) → 0 < free_of v t → 0 < free_of x t
  pub words : (q : ℕ) → Knows v q → slice_index x.words q ≡ slice_index v.words q

pub shown_more : (v x : View) (l : ShelfParts) (r : Root) → IsSound r → HasMore v x → ShowsRoot v l r → ShowsRoot x l r
shown_more v x l r sound more shown =
    shown_stays v x l r
    (record {
      words = λ u q payload low high. more.words q (record_known v u q (shown.kept.pages u payload).raw low high);
      raw = λ u payload raw b low high. more.raw b (raw b low high);
    })
    (λ span among t inside.
    let was : 0 < free_of v t = All-contains (λ (z : Title). 0 < free_of v z) (titles_free span) t (shown.chains span among).free inside in
    (more.frees t was, more.words (t.start / 8) (first_known v r span t sound among inside was)))
    shown

pub kept_more : (v x : View) → Keeps v x → HasMore v x
kept_more v x keeps = record {
  raw = λ b held. subst (λ n. 0 < n) (sym (keeps.things (RawByte b))) held;
  frees = λ t free. subst (λ n. 0 < n) (sym (free_kept v x t keeps)) free;
  words = keeps.words;
}

pub united_more : (v w : View) → length v.words ≡ length w.words → HasMore v (united v w)
united_more v w long = record {
  raw = λ b held. let e = (united_parts v w).things (RawByte b) in omega arith;
  frees = λ t free. let e = free_both v w t in omega arith;
  words = λ q knows. left_known v w q long knows;
}
