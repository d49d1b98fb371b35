-- The printed form of a number, a word or a slot's name determines it, and what follows it.
use Rattle.std.proofs.Common.{◌≡◌, ℕ, ◌^◌, ◌<◌, List, ◌∷◌, ◌++◌, sym, ap, ◌∙◌, append_assoc, arith}
use Rattle.std.specs.Fmt.{decimal}
use Rattle.std.proofs.lemmas.Option.{some_pair_parts}
use Rattle.pa_slot.specs.declared.word.SlotName.{SlotName}
use Rattle.pa_text.specs.Reading.{IsStop, number_at, hexes_at}
use Rattle.pa_text.specs.Hex.{SlotFits, hex, slot_text}
use Rattle.pa_text.proofs.Numerals.{number_again, decimal_numeral}
use Rattle.pa_text.proofs.Words.{hexes_again}
use Rattle.pa_slot.proofs.Runs.{slot_parts}

-- a number with no digit after it
pub split_number : (m n : ℕ) (x y : List ℕ) → m < 2 ^ 64 → n < 2 ^ 64 → IsStop x → IsStop y → decimal m ++ x ≡ decimal n ++ y → (m ≡ n) ×
    (x ≡ y)
split_number m n x y hm hn sx sy e =
    some_pair_parts m n x y
    (sym (number_again m (decimal m) x (decimal_numeral m hm) sx) ∙ ap number_at e ∙ number_again n (decimal n) y (decimal_numeral n hn) sy)

-- that many hexadecimal digits
split_hex : (k m n : ℕ) (x y : List ℕ) → m < 16 ^ k → n < 16 ^ k → hex k m ++ x ≡ hex k n ++ y → (m ≡ n) × (x ≡ y)
split_hex k m n x y hm hn e =
    some_pair_parts m n x y (sym (hexes_again k m x hm) ∙ ap (hexes_at k) e ∙ hexes_again k n y hn)

-- a word
pub split_word : (m n : ℕ) (x y : List ℕ) → m < 2 ^ 64 → n < 2 ^ 64 → hex 16 m ++ x ≡ hex 16 n ++ y → (m ≡ n) × (x ≡ y)
split_word m n x y hm hn e = split_hex 16 m n x y hm hn e

-- a slot's name
heads : (c d : ℕ) (x y : List ℕ) → c ∷ x ≡ d ∷ y → (c ≡ d) × (x ≡ y)
heads c d x y e = (cc, cc)

pub split_slot : (s t : SlotName) (x y : List ℕ) → SlotFits s → SlotFits t → IsStop x → IsStop y → slot_text s ++ x ≡ slot_text t ++ y →
    (s ≡ t) × (x ≡ y)
split_slot s t x y hs ht sx sy e =
    let start = split_hex 8 s.start t.start (46 ∷ decimal s.born ++ x) (46 ∷ decimal t.born ++ y) hs.0 ht.0
    (sym (append_assoc (hex 8 s.start) (46 ∷ decimal s.born) x) ∙ e ∙ append_assoc (hex 8 t.start) (46 ∷ decimal t.born) y) in
    let rest = heads 46 46 (decimal s.born ++ x) (decimal t.born ++ y) start.1 in
    let born = split_number s.born t.born x y (omega (arith, hs.1)) (omega (arith, ht.1)) sx sy rest.1 in
    (slot_parts s t start.0 born.0, born.1)
