-- The fields of a line, each with what follows it.
use Rattle.std.proofs.Common.{◌≡◌, ℕ, List, [], ◌∷◌, ◌++◌, codes, Option, Some, None, get_or, refl, sym, ap, ◌∙◌, append_assoc, arith}
use Rattle.std.specs.List.{AllByRecursion}
use Rattle.std.specs.Option.{IfSome}
use Rattle.std.specs.Fmt.{decimal}
use Rattle.std.proofs.lemmas.List.{append_cancel_left}
use Rattle.pa_slot.specs.declared.word.SlotName.{SlotName}
use Rattle.pa_text.specs.Reading.{IsStop}
use Rattle.pa_text.specs.Hex.{SlotFits, hex, slot_text}
use Rattle.pa_text.specs.Numeral.{IsDigit, IsNumeral}
use Rattle.pa_text.proofs.Numerals.{decimal_numeral}
use Rattle.pa_text.proofs.Splitting.{split_number, split_word, split_slot}
use Rattle.pa_record.specs.declared.entry.Seen.{Seen}
use Rattle.pa_record.specs.declared.numbered.Numbered.{Numbered}
use Rattle.pa_record.specs.declared.history.Held.{Held}
use Rattle.pa_record.specs.declared.history.Held.TheVariants as handles
use Rattle.pa_record.specs.Bits.{Is32, Is64, IsClass, SeenInBits, NumberedInBits, HeldInBits}
use Rattle.pa_record.specs.Text.{seen_text, seen_text_if, number_or, numbered_text, slots_text, held_text}
use Rattle.pa_record.proofs.Same.{same_seen, same_numbered}

-- ---- a text of several parts, with more after it

pub cut3 : (a b c x : List ℕ) → (a ++ b ++ c) ++ x ≡ a ++ (b ++ (c ++ x))
cut3 a b c x = simp append_assoc

pub cut4 : (a b c d x : List ℕ) → (a ++ b ++ c ++ d) ++ x ≡ a ++ (b ++ (c ++ (d ++ x)))
cut4 a b c d x = simp append_assoc

pub cut5 : (a b c d f x : List ℕ) → (a ++ b ++ c ++ d ++ f) ++ x ≡ a ++ (b ++ (c ++ (d ++ (f ++ x))))
cut5 a b c d f x = simp append_assoc

pub cut6 : (a b c d f g x : List ℕ) → (a ++ b ++ c ++ d ++ f ++ g) ++ x ≡ a ++ (b ++ (c ++ (d ++ (f ++ (g ++ x)))))
cut6 a b c d f g x = simp append_assoc

pub cut7 : (a b c d f g h x : List ℕ) → (a ++ b ++ c ++ d ++ f ++ g ++ h) ++ x ≡ a ++ (b ++ (c ++ (d ++ (f ++ (g ++ (h ++ x))))))
cut7 a b c d f g h x = simp append_assoc

pub cut8 : (a b c d f g h k x : List ℕ) → (a ++ b ++ c ++ d ++ f ++ g ++ h ++ k) ++ x ≡ a ++
    (b ++ (c ++ (d ++ (f ++ (g ++ (h ++ (k ++ x)))))))
cut8 a b c d f g h k x = simp append_assoc

-- ---- names, which differ in four of their letters
pub record Letters (u v : List ℕ) : Type 0 where
  pub first : get_or u 0 0 ≡ get_or v 0 0
  pub second : get_or u 1 0 ≡ get_or v 1 0
  pub fifth : get_or u 4 0 ≡ get_or v 4 0
  pub seventh : get_or u 6 0 ≡ get_or v 6 0

pub letters : (u v : List ℕ) → u ≡ v → Letters u v
letters u v e = record {
  first = ap (λ (w : List ℕ). get_or w 0 0) e;
  second = ap (λ (w : List ℕ). get_or w 1 0) e;
  fifth = ap (λ (w : List ℕ). get_or w 4 0) e;
  seventh = ap (λ (w : List ℕ). get_or w 6 0) e;
}

-- ---- one field and the byte after it

pub wide : (n : ℕ) → Is32 n → Is64 n
wide n h = omega arith

pub class_wide : (n : ℕ) → IsClass n → Is64 n
class_wide n h = omega arith

pub same_rest : (c : ℕ) (x y : List ℕ) → c ∷ x ≡ c ∷ y → x ≡ y
same_rest c x y e = cc

-- a number, and the space or the LF after it
pub spaced_number : (m n : ℕ) (x y : List ℕ) → Is64 m → Is64 n → decimal m ++ 32 ∷ x ≡ decimal n ++ 32 ∷ y → (m ≡ n) × (x ≡ y)
spaced_number m n x y hm hn e =
    let p = split_number m n (32 ∷ x) (32 ∷ y) hm hn refl refl e in
    (p.0, same_rest 32 x y p.1)

pub last_number : (m n : ℕ) (x y : List ℕ) → Is64 m → Is64 n → decimal m ++ 10 ∷ x ≡ decimal n ++ 10 ∷ y → (m ≡ n) × (x ≡ y)
last_number m n x y hm hn e =
    let p = split_number m n (10 ∷ x) (10 ∷ y) hm hn refl refl e in
    (p.0, same_rest 10 x y p.1)

-- a slot's name, and the space or the `@` after it
pub spaced_slot : (s t : SlotName) (x y : List ℕ) → SlotFits s → SlotFits t → slot_text s ++ 32 ∷ x ≡ slot_text t ++ 32 ∷ y → (s ≡ t) ×
    (x ≡ y)
spaced_slot s t x y hs ht e =
    let p = split_slot s t (32 ∷ x) (32 ∷ y) hs ht refl refl e in
    (p.0, same_rest 32 x y p.1)

pub marked_slot : (s t : SlotName) (x y : List ℕ) → SlotFits s → SlotFits t → slot_text s ++ 64 ∷ x ≡ slot_text t ++ 64 ∷ y → (s ≡ t) ×
    (x ≡ y)
marked_slot s t x y hs ht e =
    let p = split_slot s t (64 ∷ x) (64 ∷ y) hs ht refl refl e in
    (p.0, same_rest 64 x y p.1)

-- ---- a slot with its word

seen_cut : (s : Seen) (x : List ℕ) → seen_text s ++ x ≡ codes " " ++ (slot_text s.slot ++ (codes " " ++ (hex 16 s.found.0 ++ x)))
seen_cut s x = cut4 (codes " ") (slot_text s.slot) (codes " ") (hex 16 s.found.0) x

pub split_seen : (s t : Seen) (x y : List ℕ) → SeenInBits s → SeenInBits t → seen_text s ++ x ≡ seen_text t ++ y → (s ≡ t) × (x ≡ y)
split_seen s t x y hs ht e =
    let slot = spaced_slot s.slot t.slot (hex 16 s.found.0 ++ x) (hex 16 t.found.0 ++ y) hs.0 ht.0
    (same_rest 32 _ _ (sym (seen_cut s x) ∙ e ∙ seen_cut t y)) in
    let found = split_word s.found.0 t.found.0 x y hs.1 ht.1 slot.1 in
    (same_seen s t slot.0 found.0, found.1)

pub split_seen_if : (s t : Option Seen) (x y : List ℕ) → IfSome s SeenInBits → IfSome t SeenInBits → seen_text_if s ++
    10 ∷ x ≡ seen_text_if t ++ 10 ∷ y → (s ≡ t) × (x ≡ y)
split_seen_if None None x y hs ht e = (refl, same_rest 10 x y e)
split_seen_if (Some s) (Some t) x y hs ht e =
    let seen = split_seen s t (10 ∷ x) (10 ∷ y) hs ht e in
    (ap (λ (v : Seen). Some v) seen.0, same_rest 10 x y seen.1)
split_seen_if s t x y hs ht e = absurd cc

-- ---- slots with their numbers

pub split_numbered : (m n : Numbered) (x y : List ℕ) → NumberedInBits m → NumberedInBits n → IsStop x → IsStop y → numbered_text m ++
    x ≡ numbered_text n ++ y → (m ≡ n) × (x ≡ y)
split_numbered m n x y hm hn sx sy e =
    let cut = sym (cut3 (slot_text m.slot) (codes "@") (decimal m.number) x) ∙ e ∙
    cut3 (slot_text n.slot) (codes "@") (decimal n.number) y in
    let slot = marked_slot m.slot n.slot (decimal m.number ++ x) (decimal n.number ++ y) hm.0 hn.0 cut in
    let number = split_number m.number n.number x y hm.1 hn.1 sx sy slot.1 in
    (same_numbered m n slot.0 number.0, number.1)

-- after a slot comes a space or an LF
pub slots_stop : (s : List Numbered) (x : List ℕ) → IsStop (slots_text s ++ 10 ∷ x)
slots_stop [] x = refl
slots_stop (m ∷ s) x = refl

pub split_slots : (s t : List Numbered) (x y : List ℕ) → AllByRecursion NumberedInBits s → AllByRecursion NumberedInBits t → slots_text s ++
    10 ∷ x ≡ slots_text t ++ 10 ∷ y → (s ≡ t) × (x ≡ y)
split_slots [] [] x y hs ht e = (refl, same_rest 10 x y e)
split_slots [] (n ∷ t) x y hs ht e = absurd cc
split_slots (m ∷ s) [] x y hs ht e = absurd cc
split_slots (m ∷ s) (n ∷ t) x y hs ht e =
    let cut = sym (cut3 (codes " ") (numbered_text m) (slots_text s) (10 ∷ x)) ∙ e ∙
    cut3 (codes " ") (numbered_text n) (slots_text t) (10 ∷ y) in
    let head = split_numbered m n (slots_text s ++ 10 ∷ x) (slots_text t ++ 10 ∷ y) hs.0 ht.0 (slots_stop s x) (slots_stop t y)
    (same_rest 32 _ _ cut) in
    let tail = split_slots s t x y hs.1 ht.1 head.1 in
    let one = head.0 in
    let more = tail.0 in
    (cc, tail.1)

-- ---- a number, or a word in its place

-- digits begin with a digit
front_of : (n : ℕ) (ds : List ℕ) (c : ℕ) (x y : List ℕ) → IsNumeral n ds → ds ++ x ≡ c ∷ y → IsDigit c
front_of n [] c x y h e = absurd (h.written refl)
front_of n (d ∷ ds) c x y h e =
    let same : d ≡ c = ap (λ (w : List ℕ). get_or w 0 0) e in
    (omega (arith, h.digits.0.0), omega (arith, h.digits.0.1))

pub split_number_or : (c : ℕ) (ws : List ℕ) (p q : Option ℕ) (x y : List ℕ) → (IsDigit c → ⊥) → IfSome p Is64 → IfSome q Is64 → IsStop x →
    IsStop y
    → number_or (c ∷ ws) p ++ x ≡ number_or (c ∷ ws) q ++ y → (p ≡ q) × (x ≡ y)
split_number_or c ws None None x y other hp hq sx sy e = (refl, append_cancel_left (c ∷ ws) x y e)
split_number_or c ws None (Some n) x y other hp hq sx sy e =
    absurd (other (front_of n (decimal n) c y (ws ++ x) (decimal_numeral n hq) (sym e)))
split_number_or c ws (Some m) None x y other hp hq sx sy e = absurd (other (front_of m (decimal m) c x (ws ++ y) (decimal_numeral m hp) e))
split_number_or c ws (Some m) (Some n) x y other hp hq sx sy e =
    let p = split_number m n x y hp hq sx sy e in
    (ap (λ (v : ℕ). Some v) p.0, p.1)

pub wide_if : (p : Option ℕ) → IfSome p Is32 → IfSome p Is64
wide_if None h = tt
wide_if (Some n) h = wide n h

pub class_wide_if : (p : Option ℕ) → IfSome p IsClass → IfSome p Is64
class_wide_if None h = tt
class_wide_if (Some n) h = class_wide n h

-- ---- handles

pub split_held : (a b : Held) (c : ℕ) (x y : List ℕ) → IsStop (c ∷ x) → IsStop (c ∷ y) → HeldInBits a → HeldInBits b → held_text a ++
    c ∷ x ≡ held_text b ++ c ∷ y → (a ≡ b) × (x ≡ y)
split_held handles.Nothing handles.Nothing c x y sx sy ha hb e = (refl, cc)
split_held (handles.Own s) (handles.Own t) c x y sx sy ha hb e =
    let p = split_slot s t (c ∷ x) (c ∷ y) ha hb sx sy (append_cancel_left (codes "own:") _ _ e) in
    (ap (λ (v : SlotName). handles.Own v) p.0, same_rest c x y p.1)
split_held (handles.Ref s) (handles.Ref t) c x y sx sy ha hb e =
    let p = split_slot s t (c ∷ x) (c ∷ y) ha hb sx sy (append_cancel_left (codes "ref:") _ _ e) in
    (ap (λ (v : SlotName). handles.Ref v) p.0, same_rest c x y p.1)
split_held a b c x y sx sy ha hb e =
    let l = letters (held_text a ++ c ∷ x) (held_text b ++ c ∷ y) e in
    absurd (omega (arith, l.first))
