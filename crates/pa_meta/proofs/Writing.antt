-- A record that is written: where its words lie, and that they are then the record.
use Rattle.std.proofs.Common.{◌≡◌, ℕ, ◌+◌, ◌*◌, ◌/◌, ◌%◌, ◌<◌, length, ◌∙◌, ap, arith}
use Rattle.std.specs.Prelude.{slice_index}
use Rattle.pa_slot.specs.Holdings.{RawByte}
use Rattle.pa_region.specs.declared.view.View.{View}
use Rattle.pa_region.specs.Views.{held_of_view}
use Rattle.pa_region.specs.Stores.{HasRawWord}
use Rattle.pa_spans.specs.declared.span.Span.{Span}
use Rattle.pa_records.specs.Words.{record_byte, record_word, counts_of, slots_of_record, neighbours_of, AreRecordOf, IsRecordAt}
use Rattle.pa_meta.specs.Meta.{HasRawRecord, with_word, after_record}

-- where word i of a record lies
pub aligned : (place : ℕ) → record_byte place % 8 ≡ 0
aligned place = omega arith

pub word_at : (place i at_byte : ℕ) → at_byte ≡ record_byte place + 8 * i → (at_byte % 8 ≡ 0) × (at_byte / 8 ≡ record_word place + i)
word_at place i at_byte e = (omega arith, omega arith)

-- a word of a record that is raw is raw
pub raw_word : (place i at_byte : ℕ) (v : View) → HasRawRecord v place → i < 4 → at_byte ≡ record_byte place + 8 * i → (at_byte % 8 ≡ 0) ×
    HasRawWord v at_byte
raw_word place i at_byte v raw few e = ((word_at place i at_byte e).0, λ b low high. raw b (omega arith) (omega arith))

-- the record lies in the list of words
pub record_inside : (place n : ℕ) (v : View) → HasRawRecord v place → ((b : ℕ) → 0 < held_of_view v (RawByte b) → b < 8 * n) →
    length v.words ≡ n →
    record_word place + 3 < length v.words
record_inside place n v raw small long =
    let last = small (record_byte place + 31) (raw (record_byte place + 31) (omega arith) (omega arith)) in
    let a = aligned place in
    omega arith

-- four words that are stored one after the other are the record
pub written : (place : ℕ) (s : Span) (v w1 w2 w3 w4 : View) (a0 a1 a2 a3 counts slots neighbours : ℕ) →
    a0 ≡ record_byte place + 8 * 0 → a1 ≡ record_byte place + 8 * 1 → a2 ≡ record_byte place + 8 * 2 → a3 ≡ record_byte place + 8 * 3 →
    counts ≡ counts_of s → slots ≡ slots_of_record s → neighbours ≡ neighbours_of s →
    w1 ≡ with_word (a0 / 8) counts v → w2 ≡ with_word (a1 / 8) slots w1 → w3 ≡ with_word (a2 / 8) neighbours w2 →
    w4 ≡ with_word (a3 / 8) s.turn w3 →
    w4 ≡ after_record place s v
written place s v w1 w2 w3 w4 a0 a1 a2 a3 counts slots neighbours p0 p1 p2 p3 is0 is1 is2 e1 e2 e3 e4 =
    let q = record_word place in
    let q0 : a0 / 8 ≡ q = omega (arith, (word_at place 0 a0 p0).1) in
    let f1 : w1 ≡ with_word q (counts_of s) v = e1 ∙ (ap (λ n. with_word n counts v) q0 ∙ ap (λ n. with_word q n v) is0) in
    let f2 : w2 ≡ with_word (q + 1) (slots_of_record s) (with_word q (counts_of s) v) =
    e2 ∙ (ap (λ n. with_word n slots w1) (word_at place 1 a1 p1).1 ∙
    (ap (λ n. with_word (q + 1) n w1) is1 ∙ ap (with_word (q + 1) (slots_of_record s)) f1)) in
    let f3 : w3 ≡ with_word (q + 2) (neighbours_of s) (with_word (q + 1) (slots_of_record s) (with_word q (counts_of s) v)) =
    e3 ∙ (ap (λ n. with_word n neighbours w2) (word_at place 2 a2 p2).1 ∙
    (ap (λ n. with_word (q + 2) n w2) is2 ∙ ap (with_word (q + 2) (neighbours_of s)) f2)) in
    e4 ∙ (ap (λ n. with_word n s.turn w3) (word_at place 3 a3 p3).1 ∙ ap (with_word (q + 3) s.turn) f3)

-- four words that were loaded are those of the record
pub loaded : (place : ℕ) (v : View) (s : Span) (a0 a1 a2 a3 counts slots neighbours turn : ℕ) →
    a0 ≡ record_byte place + 8 * 0 → a1 ≡ record_byte place + 8 * 1 → a2 ≡ record_byte place + 8 * 2 → a3 ≡ record_byte place + 8 * 3 →
    counts ≡ slice_index v.words (a0 / 8) → slots ≡ slice_index v.words (a1 / 8) → neighbours ≡ slice_index v.words (a2 / 8) →
    turn ≡ slice_index v.words (a3 / 8) → IsRecordAt v.words (record_word place) s → AreRecordOf s counts slots neighbours turn
loaded place v s a0 a1 a2 a3 counts slots neighbours turn p0 p1 p2 p3 e0 e1 e2 e3 is =
    let q0 : a0 / 8 ≡ record_word place = omega (arith, (word_at place 0 a0 p0).1) in
    record {
      fits = is.fits;
      counts_are = e0 ∙ (ap (slice_index v.words) q0 ∙ is.counts_are);
      slots_are = e1 ∙ (ap (slice_index v.words) (word_at place 1 a1 p1).1 ∙ is.slots_are);
      neighbours_are = e2 ∙ (ap (slice_index v.words) (word_at place 2 a2 p2).1 ∙ is.neighbours_are);
      turn_is = e3 ∙ (ap (slice_index v.words) (word_at place 3 a3 p3).1 ∙ is.turn_is);
    }
