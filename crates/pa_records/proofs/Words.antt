-- The spans that words have: a record is that of the span which is decoded, and a write leaves the others.
use Rattle.std.proofs.Common.{◌≡◌, ℕ, ◌+◌, ◌*◌, ◌/◌, ◌%◌, ◌<◌, ◌==◌, if◌then◌else◌, Bool, List, length, inl, inr, ◌∙◌, refl, ap, sym, subst, arith}
use Rattle.std.specs.Prelude.{slice_index, slice_set}
use Rattle.std.proofs.lemmas.Bool.{eq-eqb}
use Rattle.std.proofs.lemmas.Bool.Decides.{eqb_tells}
use Rattle.std.proofs.lemmas.List.{get_or-set_same, get_or-set_other, length-set}
use Rattle.pa_buckets.specs.declared.spans.State.{State}
use Rattle.pa_buckets.specs.declared.spans.State.TheVariants as state
use Rattle.pa_spans.specs.declared.span.Span.{Span}
use Rattle.pa_records.specs.Words.{state_number, record_word, counts_of, slots_of_record, neighbours_of, FitsRecord, IsRecordAt, with_record, numbered_state, decoded_span, unused_span, spans_in}
use Rattle.pa_records.proofs.Decoding.{fields_of, same_span}

state_back : (a : State) → numbered_state (state_number a) ≡ a
state_back state.None = refl
state_back state.Active = refl
state_back state.Empty = refl
state_back state.Decommitted = refl
state_back state.Full = refl

-- the words of a record are decoded to its span
pub decoded : (words : List ℕ) (q : ℕ) (s : Span) → IsRecordAt words q s → decoded_span words q ≡ s
decoded words q s is =
    let f = fields_of s (slice_index words q) (slice_index words (q + 1)) (slice_index words (q + 2)) (slice_index words (q + 3)) is in
    same_span (decoded_span words q) s f.class (ap numbered_state f.state ∙
    state_back s.state) f.allocated f.provisioned f.committed f.made f.head f.previous
    f.next f.turn

-- where a page starts
pub at_page : (words : List ℕ) (place : ℕ) → place % 16384 ≡ 0 → spans_in words place ≡ decoded_span words (record_word place)
at_page words place aligned =
    ap (λ (b : Bool). if b then decoded_span words (record_word place) else unused_span) (eq-eqb (place % 16384) 0 aligned)

pub span_is : (words : List ℕ) (place : ℕ) (s : Span) → place % 16384 ≡ 0 → IsRecordAt words (record_word place) s →
    spans_in words place ≡ s
span_is words place s aligned is = at_page words place aligned ∙ decoded words (record_word place) s is

-- records of two pages lie apart
word_of : (m place : ℕ) → place ≡ 16384 * m → record_word place ≡ 262144 * (m / 128) + 512 + 4 * (m % 128)
word_of m place e = omega arith

pub apart : (u at i j : ℕ) → u % 16384 ≡ 0 → at % 16384 ≡ 0 → (u ≡ at → ⊥) → i < 4 → j < 4 → record_word u + i ≡ record_word at + j → ⊥
apart u at i j first second differ low small same =
    let m = u / 16384 in let k = at / 16384 in
    let of_u : u ≡ 16384 * m = omega arith in let of_at : at ≡ 16384 * k = omega arith in
    let a = word_of m u of_u in let b = word_of k at of_at in
    let equal : m ≡ k = omega arith in
    differ (of_u ∙ (ap (λ n. 16384 * n) equal ∙ sym of_at))

-- a word that isn't the record's stays
pub kept_word : (words : List ℕ) (q : ℕ) (s : Span) (r : ℕ) → ((j : ℕ) → j < 4 → r ≡ q + j → ⊥) →
    slice_index (with_record words q s) r ≡ slice_index words r
kept_word words q s r away =
    let w0 = slice_set words q (counts_of s) in
    let w1 = slice_set w0 (q + 1) (slots_of_record s) in
    let w2 = slice_set w1 (q + 2) (neighbours_of s) in
    get_or-set_other w2 (q + 3) r s.turn 0 (away 3 (omega arith)) ∙
    (get_or-set_other w1 (q + 2) r (neighbours_of s) 0 (away 2 (omega arith))
    ∙ (get_or-set_other w0 (q + 1) r (slots_of_record s) 0 (away 1 (omega arith)) ∙
    get_or-set_other words q r (counts_of s) 0 (λ e. away 0 (omega arith) (omega arith))))

pub long_as : (words : List ℕ) (q : ℕ) (s : Span) → length (with_record words q s) ≡ length words
long_as words q s =
    let w0 = slice_set words q (counts_of s) in
    let w1 = slice_set w0 (q + 1) (slots_of_record s) in
    let w2 = slice_set w1 (q + 2) (neighbours_of s) in
    length-set w2 (q + 3) s.turn ∙
    (length-set w1 (q + 2) (neighbours_of s) ∙ (length-set w0 (q + 1) (slots_of_record s) ∙ length-set words q (counts_of s)))

-- the four words of another page's record
pub record FourKept (words after : List ℕ) (q : ℕ) : Type 0 where
  pub first : slice_index after q ≡ slice_index words q
  pub second : slice_index after (q + 1) ≡ slice_index words (q + 1)
  pub third : slice_index after (q + 2) ≡ slice_index words (q + 2)
  pub fourth : slice_index after (q + 3) ≡ slice_index words (q + 3)

pub four_kept : (words : List ℕ) (s : Span) (u at : ℕ) → u % 16384 ≡ 0 → at % 16384 ≡ 0 → (u ≡ at → ⊥) →
    FourKept words (with_record words (record_word at) s) (record_word u)
four_kept words s u at first second differ =
    let q = record_word at in let r = record_word u in record {
      first = kept_word words q s r (λ j small e. apart u at 0 j first second differ (omega arith) small (omega arith));
      second = kept_word words q s (r + 1) (λ j small e. apart u at 1 j first second differ (omega arith) small e);
      third = kept_word words q s (r + 2) (λ j small e. apart u at 2 j first second differ (omega arith) small e);
      fourth = kept_word words q s (r + 3) (λ j small e. apart u at 3 j first second differ (omega arith) small e);
    }

-- a span by its four words
of_words : ℕ → ℕ → ℕ → ℕ → Span
of_words a b c d = record {
  class = a % 256;
  state = numbered_state (a / 256 % 256);
  allocated = a / 65536 % 65536;
  provisioned = a / 4294967296 % 65536;
  committed = a / 281474976710656;
  made = b / 4294967296;
  head = b % 4294967296;
  previous = c % 4294967296;
  next = c / 4294967296;
  turn = d;
}

same_decoded : (words after : List ℕ) (q : ℕ) → FourKept words after q → decoded_span after q ≡ decoded_span words q
unfolding of_words
same_decoded words after q k =
    ap (λ n. of_words n (slice_index after (q + 1)) (slice_index after (q + 2)) (slice_index after (q + 3))) k.first
    ∙ (ap (λ n. of_words (slice_index words q) n (slice_index after (q + 2)) (slice_index after (q + 3))) k.second
    ∙ (ap (λ n. of_words (slice_index words q) (slice_index words (q + 1)) n (slice_index after (q + 3))) k.third
    ∙ ap (λ n. of_words (slice_index words q) (slice_index words (q + 1)) (slice_index words (q + 2)) n) k.fourth))

pub same_record : (words after : List ℕ) (q : ℕ) (s : Span) → FourKept words after q → IsRecordAt words q s → IsRecordAt after q s
same_record words after q s k is = record {
  fits = is.fits;
  counts_are = k.first ∙ is.counts_are;
  slots_are = k.second ∙ is.slots_are;
  neighbours_are = k.third ∙ is.neighbours_are;
  turn_is = k.fourth ∙ is.turn_is;
}

pub back_kept : (words after : List ℕ) (q : ℕ) → FourKept words after q → FourKept after words q
back_kept words after q k = record { first = sym k.first; second = sym k.second; third = sym k.third; fourth = sym k.fourth }

-- the spans after a record was written
pub spans_written : (words : List ℕ) (at : ℕ) (s : Span) → at % 16384 ≡ 0 →
    IsRecordAt (with_record words (record_word at) s) (record_word at) s → (u : ℕ) →
    spans_in (with_record words (record_word at) s) u ≡ (if u == at then s else spans_in words u)
spans_written words at s aligned reads u =
    let after = with_record words (record_word at) s in
    elim (eqb_tells u at) [
      | inl w ↦ (subst (λ v. spans_in after v ≡ s) (sym w.1) (span_is after at s aligned reads)) ∙
          sym (ap (λ (b : Bool). if b then s else spans_in words u) w.0)
      | inr w ↦
          let kept : spans_in after u ≡ spans_in words u = elim (eqb_tells (u % 16384) 0) [
            | inl z ↦ at_page after u z.1 ∙
                (same_decoded words after (record_word u) (four_kept words s u at z.1 aligned w.1) ∙ sym (at_page words u z.1))
            | inr z ↦ ap (λ (b : Bool). if b then decoded_span after (record_word u) else unused_span) z.0
                ∙ sym (ap (λ (b : Bool). if b then decoded_span words (record_word u) else unused_span) z.0)
          ] in
          kept ∙ sym (ap (λ (b : Bool). if b then s else spans_in words u) w.0)
    ]

-- a record that was written reads as the span
pub reads_back : (words : List ℕ) (q : ℕ) (s : Span) → q + 3 < length words → FitsRecord s → IsRecordAt (with_record words q s) q s
reads_back words q s inside fits =
    let w0 = slice_set words q (counts_of s) in
    let w1 = slice_set w0 (q + 1) (slots_of_record s) in
    let w2 = slice_set w1 (q + 2) (neighbours_of s) in
    let l0 : length w0 ≡ length words = length-set words q (counts_of s) in
    let l1 : length w1 ≡ length words = length-set w0 (q + 1) (slots_of_record s) ∙ l0 in
    let l2 : length w2 ≡ length words = length-set w1 (q + 2) (neighbours_of s) ∙ l1 in
    record {
      fits = fits;
      counts_are = get_or-set_other w2 (q + 3) q s.turn 0 (λ e. omega arith) ∙
          (get_or-set_other w1 (q + 2) q (neighbours_of s) 0 (λ e. omega arith)
          ∙ (get_or-set_other w0 (q + 1) q (slots_of_record s) 0 (λ e. omega arith) ∙
          get_or-set_same words q (counts_of s) 0 (omega arith)));
      slots_are = get_or-set_other w2 (q + 3) (q + 1) s.turn 0 (λ e. omega arith) ∙
          (get_or-set_other w1 (q + 2) (q + 1) (neighbours_of s) 0 (λ e. omega arith)
          ∙ get_or-set_same w0 (q + 1) (slots_of_record s) 0 (omega arith));
      neighbours_are = get_or-set_other w2 (q + 3) (q + 2) s.turn 0 (λ e. omega arith) ∙
          get_or-set_same w1 (q + 2) (neighbours_of s) 0 (omega arith);
      turn_is = get_or-set_same w2 (q + 3) s.turn 0 (omega arith);
    }
