-- The table of slots: each is found by its name.
use Rattle.std.proofs.Common.{◌≡◌, ℕ, ◌+◌, ◌*◌, ◌<◌, ◌⊎◌, inl, inr, List, [], ◌∷◌, ◌++◌, length, set, Option, Some, None, refl, sym, ap, ◌∙◌, subst, arith, length-set}
use Rattle.std.specs.Prelude.{nat_eq}
use Rattle.std.specs.HashMap.{HashMap, get}
use Rattle.std.specs.Map.{lookup}
use Rattle.std.proofs.lemmas.Bool.{cases_eq, cases_lt}
use Rattle.std.proofs.lemmas.List.{get_or-set_same, get_or-set_other, get_or_append_left, get_or_push, length_push}
use Rattle.pa_slot.specs.declared.word.SlotName.{SlotName}
use Rattle.pa_record.specs.Spans.{name_of}
use Rattle.pa_player.specs.declared.table.Slot.{Slot}
use Rattle.pa_player.specs.Tables.{no_slot, named_at, key_of, IsHomed, AreNamed, NoneNamed}
use Rattle.pa_lists.proofs.Options.{some_same}

none_some : (i : ℕ) → Some i ≡ None → ⊥
none_some i e = cc

cases_last : (i n : ℕ) → i < n + 1 → (i < n) ⊎ (i ≡ n)
cases_last i n l = elim (cases_lt i n) [
  | inl a ↦ inl a
  | inr b ↦ inr (omega (arith, b, l))
]

-- a slot that is changed keeps its name
pub named_set : (slots : List Slot) (i j : ℕ) (x : Slot) → i < length slots → name_of x.title ≡ named_at slots i →
    named_at (set slots i x) j ≡ named_at slots j
named_set slots i j x lt e = elim (cases_eq j i) [
  | inl same ↦
      let N : ℕ → Type 0 = λ k. named_at (set slots i x) k ≡ named_at slots k in
      let here : named_at (set slots i x) i ≡ named_at slots i = ap (λ (y : Slot). name_of y.title) (get_or-set_same slots i x no_slot lt) ∙
      e in
      subst N (sym same) here
  | inr ne ↦ ap (λ (y : Slot). name_of y.title) (get_or-set_other slots i j x no_slot ne)
]

pub homed_set : (slots : List Slot) (home : ℕ → Option ℕ) (i : ℕ) (x : Slot) → i < length slots → name_of x.title ≡ named_at slots i →
    IsHomed slots home
    → IsHomed (set slots i x) home
homed_set slots home i x lt e h = record {
  leads = λ j l. ap (λ n. home (key_of n)) (named_set slots i j x lt e) ∙ h.leads j (omega (arith, l, length-set slots i x));
  only = λ k j f. let o = h.only k j f in (omega (arith, o.0, length-set slots i x), ap key_of (named_set slots i j x lt e) ∙ o.1);
  low = λ j l. omega (arith, ap (λ (n : SlotName). n.start) (named_set slots i j x lt e), h.low j (omega (arith, l, length-set slots i x)));
}

pub homed_names : (slots : List Slot) (home : ℕ → Option ℕ) → IsHomed slots home → AreNamed slots
homed_names slots home h i j li lj e = some_same i j (sym (h.leads i li) ∙ ap (λ n. home (key_of n)) e ∙ h.leads j lj)

-- a slot more after the others, whose name none of them has
key_start : (a b c d : ℕ) → a < 4294967296 → c < 4294967296 → a + 4294967296 * b ≡ c + 4294967296 * d → (a ≡ c) × (b ≡ d)
key_start a b c d l m e = (omega (arith, l, m, e), omega (arith, l, m, e))

pub key_name : (s t : SlotName) → s.start < 4294967296 → t.start < 4294967296 → key_of s ≡ key_of t → s ≡ t
key_name s t l m e =
    let k = key_start s.start s.born t.start t.born l m e in
    let f : ℕ → ℕ → SlotName = λ a b. record { start = a; born = b } in
    ap (λ a. f a s.born) k.0 ∙ ap (f t.start) k.1

pub homed_push : (slots : List Slot) (home after : ℕ → Option ℕ) (x : Slot) → (name_of x.title).start < 4294967296 →
    home (key_of (name_of x.title)) ≡ None
    → after (key_of (name_of x.title)) ≡ Some (length slots) → ((k : ℕ) → (k ≡ key_of (name_of x.title) → ⊥) → after k ≡ home k) →
    IsHomed slots home
    → IsHomed (slots ++ x ∷ []) after
homed_push slots home after x low none here others h =
    let key = key_of (name_of x.title) in
    let old : (i : ℕ) → i < length slots → named_at (slots ++ x ∷ []) i ≡ named_at slots i =
    λ i l. ap (λ (y : Slot). name_of y.title) (get_or_append_left slots (x ∷ []) no_slot i l) in
    let new : named_at (slots ++ x ∷ []) (length slots) ≡ name_of x.title =
    ap (λ (y : Slot). name_of y.title) (get_or_push slots x no_slot (length slots) refl) in
    let cases : (i : ℕ) → i < length (slots ++ x ∷ []) → (i < length slots) ⊎
    (i ≡ length slots) = λ i l. cases_last i (length slots) (omega (arith, l, length_push slots x)) in
    record {
      leads = λ i l. elim (cases i l) [
        | inl a ↦
            let apart : key_of (named_at slots i) ≡ key → ⊥ = λ e. absurd (none_some i (sym (h.leads i a) ∙ ap home e ∙ none)) in
            ap (λ n. after (key_of n)) (old i a) ∙ others (key_of (named_at slots i)) apart ∙ h.leads i a
        | inr e ↦
            let P : ℕ → Type 0 = λ j. after (key_of (named_at (slots ++ x ∷ []) j)) ≡ Some j in
            subst P (sym e) (ap (λ n. after (key_of n)) new ∙ here)
      ];
      only = λ k i f. elim (cases_eq k key) [
        | inl e ↦
            let j : i ≡ length slots = some_same i (length slots) (sym f ∙ ap after e ∙ here) in
            let P : ℕ → Type 0 = λ m. key_of (named_at (slots ++ x ∷ []) m) ≡ k in
            (omega (arith, j, length_push slots x), subst P (sym j) (ap key_of new ∙ sym e))
        | inr ne ↦
            let o = h.only k i (sym (others k ne) ∙ f) in
            (omega (arith, o.0, length_push slots x), ap key_of (old i o.0) ∙ o.1)
      ];
      low = λ i l. elim (cases i l) [
        | inl a ↦ omega (arith, ap (λ (n : SlotName). n.start) (old i a), h.low i a)
        | inr e ↦
            let P : ℕ → Type 0 = λ j. (named_at (slots ++ x ∷ []) j).start < 4294967296 in
            subst P (sym e) (omega (arith, ap (λ (n : SlotName). n.start) new, low))
      ];
    }

-- where a name's key leads, and that no slot has it where it leads nowhere
pub home_found : (slots : List Slot) (home : ℕ → Option ℕ) (s : SlotName) (i : ℕ) → s.start < 4294967296 → home (key_of s) ≡ Some i →
    IsHomed slots home
    → (i < length slots) × (named_at slots i ≡ s)
home_found slots home s i low f h = let o = h.only (key_of s) i f in (o.0, key_name (named_at slots i) s (h.low i o.0) low o.1)

pub home_none : (slots : List Slot) (home : ℕ → Option ℕ) (s : SlotName) → home (key_of s) ≡ None → IsHomed slots home → NoneNamed slots s
home_none slots home s none h i l e = absurd (none_some i (sym (h.leads i l) ∙ ap (λ n. home (key_of n)) e ∙ none))

-- if a map leads names to their slots, a map with equal entries leads them to equal slots
pub homed_same : {S : Type 0} (slots more : List Slot) (m n : HashMap ℕ ℕ S) → more ≡ slots → n.entries ≡ m.entries →
    IsHomed slots (get nat_eq m)
    → IsHomed more (get nat_eq n)
homed_same slots more m n e f h =
    let P : List (ℕ × ℕ) → Type 0 = λ es. IsHomed more (λ k. lookup (nat_eq k) es) in
    let Q : List Slot → Type 0 = λ xs. IsHomed xs (get nat_eq m) in
    subst P (sym f) (subst Q (sym e) h)
