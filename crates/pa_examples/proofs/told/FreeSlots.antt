-- The slots of the span that the closing seat has free, and their count words.
use Rattle.std.proofs.Common.{◌≡◌, ℕ, zero, suc, ◌+◌, ◌*◌, ◌<◌, ◌≤◌, ◌⊎◌, false, List, [], ◌∷◌, ◌++◌, length, map, refl, sym, ◌∙◌, ap, subst, arith, inl, inr}
use Rattle.std.specs.Prelude.{Contains, slice_index}
use Rattle.std.specs.List.{sum_by}
use Rattle.std.proofs.lemmas.Bool.{true≢false}
use Rattle.std.proofs.lemmas.List.{length-append}
use Rattle.std.proofs.lemmas.List.Sums.{sum_by-cons}
use Rattle.pa_slot.specs.declared.title.Title.{Title}
use Rattle.pa_slot.specs.Titles.{same_title, Covers, count_word, count_place}
use Rattle.pa_slot.specs.Holdings.{one, Piece, FreePiece, RawByte, held_in, amount}
use Rattle.pa_slot.proofs.Same.{title_tells}
use Rattle.pa_buckets.specs.Table.{slot_of}
use Rattle.pa_region.specs.Start.{blank}
use Rattle.pa_region.proofs.FirstLists.{blank_at}
use Rattle.pa_region.proofs.OneRead.{one_true}
use Rattle.pa_region.proofs.Opens.{blank_long}
use Rattle.pa_record.specs.Root.{Root}
use Rattle.pa_record.specs.Sound.{IsMade}
use Rattle.pa_record.specs.Spans.{Span, title_at}
use Rattle.pa_lists.proofs.Different.{numbers_in, numbers_has}
use Rattle.pa_lists.proofs.Joined.{map_cases, map_in}
use Rattle.pa_lists.proofs.Members.{not_in_none, in_cases}
use Rattle.pa_logs.proofs.Filters.{only_one}
use Rattle.pa_logs.proofs.Sums.{sum_some}
use Rattle.pa_logs.specs.Worked.{its_title}
use Rattle.pa_examples.specs.told.AllSaid.{title_number, span_slots, one_word}
use Rattle.pa_lists.specs.Numbers.{numbers}
use Rattle.pa_buckets.proofs.Facts.{sixteen_bytes}

-- how many times a title is in a list
abbrev pub times_in : List Title → Title → ℕ
times_in ts t = sum_by (λ u. one (same_title u t)) ts

-- a title of a list is in it
pub stands_in : (ts : List Title) (t : Title) → Contains ts t → 0 < times_in ts t
stands_in [] t among = absurd (not_in_none t among)
stands_in (u ∷ us) t among =
    let c = sum_by-cons (λ v. one (same_title v t)) u us in
    elim (in_cases u t us among) [
      | inl e ↦ elim (title_tells u t) [
        | inl y ↦ let here : one (same_title u t) ≡ 1 = rw y.0 refl in omega arith
        | inr n ↦ absurd (n.1 e)
      ]
      | inr later ↦ let again = stands_in us t later in omega arith
    ]

-- a title that is counted among these is one of them
pub one_of_them : (ts : List Title) (t : Title) → 0 < times_in ts t → Contains ts t
one_of_them ts t some_times =
    let (u, among, same) = sum_some (λ v. one (same_title v t)) ts some_times in
    elim (title_tells u t) [
      | inl y ↦ subst (λ v. Contains ts v) y.1 among
      | inr n ↦ absurd (true≢false (sym (one_true _ same) ∙ n.0))
    ]

-- slots from a number on: each is there once
from_number : (from count : ℕ) (t : Title) → (times_in (map title_number (numbers from count)) t ≡ 0)
    ⊎ ((times_in (map title_number (numbers from count)) t ≡ 1) × ((k : ℕ) × (from ≤ k) × (title_number k ≡ t)))
from_number from zero t = inl refl
from_number from (suc count) t =
    let c = sum_by-cons (λ v. one (same_title v t)) (title_number from) (map title_number (numbers (from + 1) count)) in
    elim (title_tells (title_number from) t) [
      | inl y ↦ elim (from_number (from + 1) count t) [
        | inl none ↦ let here : one (same_title (title_number from) t) ≡ 1 = rw y.0 refl in inr (omega arith, (from, omega arith, y.1))
        | inr (once, (k, past, is)) ↦
            let start : 16384 + 16 * k ≡ 16384 + 16 * from = ap (λ (u : Title). u.start) (is ∙ sym y.1) in
            absurd (omega arith)
      ]
      | inr n ↦
          let here : one (same_title (title_number from) t) ≡ 0 = rw n.0 refl in
          elim (from_number (from + 1) count t) [
            | inl none ↦ inl (omega arith)
            | inr (once, (k, past, is)) ↦ inr (omega arith, (k, omega arith, is))
          ]
    ]

pub slots_once : (count : ℕ) (t : Title) → times_in (span_slots count) t ≤ 1
unfolding span_slots
slots_once count t = elim (from_number 0 count t) [ inl none ↦ omega arith | inr some_time ↦ let once = some_time.0 in omega arith ]

-- the first slots are those of the first numbers
pub slot_has : (count n : ℕ) → n < count → Contains (span_slots count) (title_number n)
unfolding span_slots
slot_has count n below = map_in title_number (numbers 0 count) n (numbers_has 0 count n (omega arith) (omega arith))

pub slot_is : (count : ℕ) (t : Title) → Contains (span_slots count) t → (n : ℕ) × (n < count) × (title_number n ≡ t)
unfolding span_slots
slot_is count t among =
    let (n, counted, is) = map_cases title_number (numbers 0 count) t among in
    let (low, high) = numbers_in 0 count n counted in
    (n, omega arith, is)

-- free titles hold no raw bytes
pub none_raw : (ts : List Title) (rest : List Piece) (b : ℕ) → held_in (map FreePiece ts ++ rest) (RawByte b) ≡ held_in rest (RawByte b)
none_raw [] rest b = refl
none_raw (t ∷ ts) rest b =
    let c = sum_by-cons (amount (RawByte b)) (FreePiece t) (map FreePiece ts ++ rest) in
    let again = none_raw ts rest b in
    omega arith

-- two slots that cover a byte are one
pub slots_apart : (t u : Title) (b : ℕ) → 0 < times_in (span_slots 256) t → 0 < times_in (span_slots 256) u → Covers t b → Covers u b →
    t ≡ u
slots_apart t u b first second here there =
    let (m, few, is) = slot_is 256 t (one_of_them (span_slots 256) t first) in
    let (n, few', is') = slot_is 256 u (one_of_them (span_slots 256) u second) in
    let low : 16384 + 16 * m ≤ b = subst (λ (w : Title). w.start ≤ b) (sym is) here.0 in
    let high : b < 16384 + 16 * m + 16 = subst (λ (w : Title). b < w.start + w.len) (sym is) here.1 in
    let low' : 16384 + 16 * n ≤ b = subst (λ (w : Title). w.start ≤ b) (sym is') there.0 in
    let high' : b < 16384 + 16 * n + 16 = subst (λ (w : Title). b < w.start + w.len) (sym is') there.1 in
    let same : m ≡ n = omega arith in
    sym is ∙ (ap title_number same ∙ is')

-- the span, with all its slots made: its index, the entry of the pool, its class and how many slots were made
abbrev pub shape_of : Span → ℕ × ℕ × ℕ × ℕ
shape_of s = (s.place, s.born, s.class, s.made)

-- a slot that was made is one of the first 256
pub made_free : (r : Root) → map shape_of r.spans ≡ (16384, 0, 0, 256) ∷ [] → (u : Title) → IsMade r u → 0 < times_in (span_slots 256) u
made_free r spans_are u (s, among, number, below, is) =
    let shape = only_one (16384, 0, 0, 256) (shape_of s)
    (subst (λ xs. Contains xs (shape_of s)) spans_are (map_in shape_of r.spans s among)) in
    let place : 16384 ≡ s.place = ap (λ (x : ℕ × ℕ × ℕ × ℕ). x.0) shape in
    let born : 0 ≡ s.born = ap (λ (x : ℕ × ℕ × ℕ × ℕ). x.1) shape in
    let class : 0 ≡ s.class = ap (λ (x : ℕ × ℕ × ℕ × ℕ). x.2) shape in
    let made : 256 ≡ s.made = ap (λ (x : ℕ × ℕ × ℕ × ℕ). x.3) shape in
    let size : 16 ≡ slot_of s.class = sym sixteen_bytes ∙ ap slot_of class in
    let named : title_number number ≡ title_at s number =
    ap (λ (n : ℕ). record { start = n + 16 * number; len = 16; born = 0 }) place
    ∙ (ap (λ (n : ℕ). record { start = s.place + n * number; len = n; born = 0 }) size ∙
    ap (λ (n : ℕ). record { start = s.place + slot_of s.class * number; len = slot_of s.class; born = n }) born) in
    stands_in (span_slots 256) u (subst (λ t. Contains (span_slots 256) t) (named ∙ sym is) (slot_has 256 number (omega arith)))

-- ---- the words

pub words_at : (before after word i : ℕ) → (i ≡ before → slice_index (one_word before word after) i ≡ word) ×
    ((i ≡ before → ⊥) → slice_index (one_word before word after) i ≡ 0)
unfolding blank
words_at zero after word zero = (λ e. refl, λ ne. absurd (ne refl))
words_at zero after word (suc i) = (λ e. absurd (omega arith), λ ne. blank_at after i)
words_at (suc before) after word zero = (λ e. absurd (omega arith), λ ne. refl)
words_at (suc before) after word (suc i) =
    let again = words_at before after word i in
    (λ e. again.0 (omega arith), λ ne. again.1 (λ e. ne (omega arith)))

pub words_long : (before after word : ℕ) → length (one_word before word after) ≡ before + 1 + after
words_long before after word =
    let a = blank_long before in
    let b = blank_long after in
    let c = length-append (blank before) (word ∷ blank after) in
    omega arith

-- where the count word of a slot is
place_of : (n : ℕ) → count_place (title_number n) ≡ 2049 + 2 * n
place_of n = omega arith

-- if the first slot's count word is the only one that isn't 0
module _ (word : ℕ) where
  abbrev words : List ℕ
  words = one_word 2049 word 260094

  pub first_word : count_word words its_title ≡ word
  first_word = (words_at 2049 260094 word 2049).0 refl

  other_word : (n : ℕ) → 0 < n → count_word words (title_number n) ≡ 0
  other_word n some_number = let at = place_of n in (words_at 2049 260094 word (count_place (title_number n))).1 (λ e. omega arith)

  -- what holds of the first slot, and of each other slot that the seat has
  pub by_slot : (P : Title → Type 0) → P its_title → ((t : Title) → same_title its_title t ≡ false → count_word words t ≡ 0 → P t) →
      (t : Title) → 0 < times_in (span_slots 256) t → P t
  by_slot P first others t free =
      let (n, below, is) = slot_is 256 t (one_of_them (span_slots 256) t free) in
      subst P is (by_number n)
    where
      by_number : (n : ℕ) → P (title_number n)
      by_number zero = first
      by_number (suc n) = elim (title_tells its_title (title_number (suc n))) [
        | inl y ↦ let start : 16384 ≡ 16384 + 16 * suc n = ap (λ (u : Title). u.start) y.1 in absurd (omega arith)
        | inr other ↦ others (title_number (suc n)) other.0 (other_word (suc n) (omega arith))
      ]
