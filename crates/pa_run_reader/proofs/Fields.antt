-- Fields of a line: what is read is spelled so, and what is spelled so is read.
use Rattle.std.proofs.Common.{◌≡◌, ℕ, ◌<◌, ◌≤◌, cond, List, ◌∷◌, ◌++◌, codes, length, take, drop, Some, None, refl, sym, ap, subst, ◌∙◌, append_assoc, arith}
use Rattle.std.specs.Prelude.{nat_eq, nat_lt}
use Rattle.std.specs.Cmp.Lexicographic.{pointwise}
use Rattle.std.specs.Fmt.{decimal}
use Rattle.std.proofs.lemmas.Bool.{lt-ltb, ltb-true}
use Rattle.pa_slot.specs.declared.word.SlotName.{SlotName}
use Rattle.pa_text.specs.Hex.{hex, slot_text, SlotFits}
use Rattle.pa_text.specs.Reading.{◌>>=◌, IsStop, number_at, hexes_at}
use Rattle.pa_text.proofs.Fronts.{front_parts, front_found}
use Rattle.pa_text.proofs.Numerals.{number_takes, number_again, decimal_numeral, one_numeral}
use Rattle.pa_text.proofs.Words.{hexes_take, hexes_again, some_bind}
use Rattle.pa_run_reader.specs.Reading.{after_word, narrowed, wide_at, below_at, below_in, wide_in, hexes_in, slot_in}
use Rattle.pa_lists.proofs.Options.{if_some}

-- ---- a word at the start

pub behind_takes : (word bytes rest : List ℕ) → after_word word bytes ≡ Some rest → bytes ≡ word ++ rest
unfolding after_word
behind_takes word bytes rest e =
    let t = if_some (pointwise nat_eq (take (length word) bytes) word) (drop (length word) bytes) rest e in
    front_parts word bytes t.0 ∙ ap (λ (x : List ℕ). word ++ x) t.1

pub behind_again : (word rest : List ℕ) → after_word word (word ++ rest) ≡ Some rest
unfolding after_word
behind_again word rest =
    let front = front_found word (word ++ rest) rest refl in
    rw (front.0, front.1) refl

-- ---- numbers

pub wide_takes : (bytes : List ℕ) (n : ℕ) (rest : List ℕ) → wide_at bytes ≡ Some (n, rest) → bytes ≡ decimal n ++ rest
unfolding wide_at
wide_takes bytes n rest e =
    let b = some_bind (number_at bytes) narrowed (n, rest) e in
    let t = if_some (nat_lt b.0.0 18446744073709551616) b.0 (n, rest) b.2 in
    let small : b.0.0 < 18446744073709551616 = ltb-true b.0.0 18446744073709551616 t.0 in
    let begun = number_takes bytes b.0.0 b.0.1 b.1 in
    let spelled : begun.digits ≡ decimal b.0.0 =
    one_numeral b.0.0 begun.digits (decimal b.0.0) begun.numeral (decimal_numeral b.0.0 small) in
    let all : bytes ≡ decimal b.0.0 ++ b.0.1 = begun.parts ∙ ap (λ (x : List ℕ). x ++ b.0.1) spelled in
    subst (λ (x : ℕ × List ℕ). bytes ≡ decimal x.0 ++ x.1) t.1 all

pub wide_again : (n : ℕ) (rest : List ℕ) → n < 18446744073709551616 → IsStop rest → wide_at (decimal n ++ rest) ≡ Some (n, rest)
unfolding wide_at
wide_again n rest small stop = rw (number_again n (decimal n) rest (decimal_numeral n small) stop, lt-ltb n 18446744073709551616 small) refl

pub below_takes : (limit : ℕ) (bytes : List ℕ) (n : ℕ) (rest : List ℕ) → below_at limit bytes ≡ Some (n, rest) → (n < limit) ×
    (bytes ≡ decimal n ++ rest)
unfolding below_at
below_takes limit bytes n rest e =
    let b = some_bind (wide_at bytes) (λ x. cond (nat_lt x.0 limit) (Some x) None) (n, rest) e in
    let t = if_some (nat_lt b.0.0 limit) b.0 (n, rest) b.2 in
    let small : b.0.0 < limit = ltb-true b.0.0 limit t.0 in
    let all : (b.0.0 < limit) × (bytes ≡ decimal b.0.0 ++ b.0.1) = (small, wide_takes bytes b.0.0 b.0.1 b.1) in
    subst (λ (x : ℕ × List ℕ). (x.0 < limit) × (bytes ≡ decimal x.0 ++ x.1)) t.1 all

pub below_again : (limit n : ℕ) (rest : List ℕ) → n < limit → limit ≤ 4294967296 → IsStop rest →
    below_at limit (decimal n ++ rest) ≡ Some (n, rest)
unfolding below_at
below_again limit n rest small le stop = rw (wide_again n rest (omega arith) stop, lt-ltb n limit small) refl

pub field_again : (word : List ℕ) (limit n : ℕ) (rest : List ℕ) → n < limit → limit ≤ 4294967296 → IsStop rest →
    below_in word limit (word ++ (decimal n ++ rest)) ≡ Some (n, rest)
unfolding below_in
field_again word limit n rest small le stop = rw (behind_again word (decimal n ++ rest), below_again limit n rest small le stop) refl

pub wide_field_again : (word : List ℕ) (n : ℕ) (rest : List ℕ) → n < 18446744073709551616 → IsStop rest →
    wide_in word (word ++ (decimal n ++ rest)) ≡ Some (n, rest)
unfolding wide_in
wide_field_again word n rest small stop = rw (behind_again word (decimal n ++ rest), wide_again n rest small stop) refl

-- ---- hexadecimal digits, and names of slots

pub hexes_taken : (k : ℕ) (bytes : List ℕ) (n : ℕ) (rest : List ℕ) → hexes_at k bytes ≡ Some (n, rest) → bytes ≡ hex k n ++ rest
hexes_taken k bytes n rest e = (hexes_take k bytes (n, rest) e).0

pub word_again : (n : ℕ) (rest : List ℕ) → n < 18446744073709551616 → hexes_in (codes " " ++ (hex 16 n ++ rest)) ≡ Some (n, rest)
unfolding hexes_in
word_again n rest small = rw (behind_again (codes " ") (hex 16 n ++ rest), hexes_again 16 n rest small) refl

pub slot_takes : (start born : ℕ) (bytes more rest : List ℕ) → hexes_at 8 bytes ≡ Some (start, more) → more ≡ codes "." ++
    (decimal born ++ rest) → bytes ≡ (hex 8 start ++ 46 ∷ decimal born) ++ rest
slot_takes start born bytes more rest e f =
    hexes_taken 8 bytes start more e ∙ ap (λ (x : List ℕ). hex 8 start ++ x) f ∙ sym (append_assoc (hex 8 start) (46 ∷ decimal born) rest)

pub slot_again : (s : SlotName) (rest : List ℕ) → SlotFits s → IsStop rest → slot_in (slot_text s ++ rest) ≡ Some (s, rest)
unfolding slot_in
slot_again s rest fits stop =
    ap slot_in (append_assoc (hex 8 s.start) (46 ∷ decimal s.born) rest)
    ∙ rw (
      hexes_again 8 s.start (codes "." ++ (decimal s.born ++ rest)) (omega (arith, fits.0)),
      field_again (codes ".") 4294967296 s.born rest fits.1 (omega arith) stop,
    ) refl
