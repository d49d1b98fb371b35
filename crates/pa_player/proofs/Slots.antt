-- The table of slots by their names, and what stays of it.
use Rattle.std.proofs.Common.{◌≡◌, ℕ, zero, suc, ◌-◌, ◌<◌, ◌≤◌, ◌⊎◌, inl, inr, List, [], ◌∷◌, ◌++◌, length, set, refl, sym, ap, ◌∙◌, subst, arith, length-set}
use Rattle.std.specs.Prelude.{if◌then◌else◌}
use Rattle.std.proofs.lemmas.Bool.{cases_eq, cases_lt}
use Rattle.std.proofs.lemmas.List.{get_or-set_same, get_or-set_other, get_or_append_left, get_or_push, length_push}
use Rattle.pa_slot.specs.declared.title.Title.{Title}
use Rattle.pa_slot.specs.declared.word.SlotName.{SlotName}
use Rattle.pa_slot.specs.Run.{same_slot}
use Rattle.pa_slot.proofs.Runs.{same_slot_yes, same_slot_no, same_slot_cases}
use Rattle.pa_record.specs.Spans.{name_of}
use Rattle.pa_player.specs.declared.table.Slot.{Slot}
use Rattle.pa_player.specs.Tables.{no_slot, slot_at, named_at, AreNamed, NoneNamed, IsHome}
use Rattle.pa_player.specs.Playing.{slot_of_name, usable_in, home_in, len_in}
use Rattle.pa_player.proofs.Homes.{named_set}

-- ---- a slot by its name

-- the slot of that name is there
abbrev pub IsPlaceOf : List Slot → SlotName → ℕ → Type 0
IsPlaceOf slots s i = (i < length slots) × (named_at slots i ≡ s)

zero_suc : (i : ℕ) → 0 ≡ suc i → ⊥
zero_suc i e = omega arith

named_rest : (x : Slot) (xs : List Slot) → AreNamed (x ∷ xs) → AreNamed xs
named_rest x xs named i j li lj e = let k = named (suc i) (suc j) (omega arith) (omega arith) e in omega arith

pub slot_here : (slots : List Slot) (s : SlotName) (i : ℕ) → AreNamed slots → IsPlaceOf slots s i → slot_of_name slots s ≡ slot_at slots i
slot_here [] s i named at = absurd (omega (arith, at.0))
slot_here (x ∷ xs) s zero named at = rw (same_slot_yes (name_of x.title) s at.1) refl
slot_here (x ∷ xs) s (suc i) named at =
    let other : name_of x.title ≡ s → ⊥ = λ e. zero_suc i (named 0 (suc i) (omega arith) at.0 (e ∙ sym at.1)) in
    rw (same_slot_no (name_of x.title) s other) (slot_here xs s i (named_rest x xs named) (omega (arith, at.0), at.1))

none_rest : (x : Slot) (xs : List Slot) (s : SlotName) → NoneNamed (x ∷ xs) s → NoneNamed xs s
none_rest x xs s none i l e = none (suc i) (omega arith) e

pub slot_nowhere : (slots : List Slot) (s : SlotName) → NoneNamed slots s → slot_of_name slots s ≡ no_slot
slot_nowhere [] s none = refl
slot_nowhere (x ∷ xs) s none = rw (same_slot_no (name_of x.title) s (none 0 (omega arith))) (slot_nowhere xs s (none_rest x xs s none))

none_first : (x : Slot) (xs : List Slot) (s : SlotName) → (name_of x.title ≡ s → ⊥) → NoneNamed xs s → NoneNamed (x ∷ xs) s
none_first x xs s other none zero l e = other e
none_first x xs s other none (suc i) l e = none i (omega arith) e

pub slot_cases : (slots : List Slot) (s : SlotName) → ((i : ℕ) × IsPlaceOf slots s i) ⊎ NoneNamed slots s
slot_cases [] s = inr (λ i l e. absurd (omega arith))
slot_cases (x ∷ xs) s = elim (same_slot_cases (name_of x.title) s) [
  | inl e ↦ inl (0, (omega arith, e))
  | inr other ↦ elim (slot_cases xs s) [
    | inl there ↦ inl (suc there.0, (omega (arith, there.1.0), there.1.1))
    | inr none ↦ inr (none_first x xs s other none)
  ]
]

-- ---- slots that stay

-- The slots of a table are in the one after it, in the same places, with their titles, partitions and classes.
pub record KeepsSlots (before after : List Slot) : Type 0 where
  pub longer : length before ≤ length after
  pub title : (i : ℕ) → i < length before → (slot_at after i).title ≡ (slot_at before i).title
  pub partition : (i : ℕ) → i < length before → (slot_at after i).partition ≡ (slot_at before i).partition
  pub class : (i : ℕ) → i < length before → (slot_at after i).class ≡ (slot_at before i).class

pub keeps_all : (slots : List Slot) → KeepsSlots slots slots
keeps_all slots = record { longer = omega arith; title = λ i l. refl; partition = λ i l. refl; class = λ i l. refl }

pub keeps_then : (a b c : List Slot) → KeepsSlots a b → KeepsSlots b c → KeepsSlots a c
keeps_then a b c h k = record {
  longer = omega (arith, h.longer, k.longer);
  title = λ i l. k.title i (omega (arith, l, h.longer)) ∙ h.title i l;
  partition = λ i l. k.partition i (omega (arith, l, h.longer)) ∙ h.partition i l;
  class = λ i l. k.class i (omega (arith, l, h.longer)) ∙ h.class i l;
}

pub keeps_named : (before after : List Slot) (i : ℕ) → KeepsSlots before after → i < length before → named_at after i ≡ named_at before i
keeps_named before after i h l = ap name_of (h.title i l)

-- a slot is changed, but for its title, partition and class
pub record IsSame (x y : Slot) : Type 0 where
  pub title : y.title ≡ x.title
  pub partition : y.partition ≡ x.partition
  pub class : y.class ≡ x.class

keeps_at : {X : Type 0} (f : Slot → X) (slots : List Slot) (i j : ℕ) (y : Slot) → f y ≡ f (slot_at slots i) → i < length slots →
    f (slot_at (set slots i y) j) ≡ f (slot_at slots j)
keeps_at {X} f slots i j y e l = elim (cases_eq j i) [
  | inl same ↦
      let P : ℕ → Type 0 = λ k. f (slot_at (set slots i y) k) ≡ f (slot_at slots k) in
      let here : f (slot_at (set slots i y) i) ≡ f (slot_at slots i) = ap f (get_or-set_same slots i y no_slot l) ∙ e in
      subst P (sym same) here
  | inr ne ↦ ap f (get_or-set_other slots i j y no_slot ne)
]

pub keeps_set : (slots : List Slot) (i : ℕ) (y : Slot) → i < length slots → IsSame (slot_at slots i) y → KeepsSlots slots (set slots i y)
keeps_set slots i y l same = record {
  longer = omega (arith, length-set slots i y);
  title = λ j m. keeps_at (λ z. z.title) slots i j y same.title l;
  partition = λ j m. keeps_at (λ z. z.partition) slots i j y same.partition l;
  class = λ j m. keeps_at (λ z. z.class) slots i j y same.class l;
}

pub keeps_push : (slots : List Slot) (x : Slot) → KeepsSlots slots (slots ++ x ∷ [])
keeps_push slots x = record {
  longer = omega (arith, length_push slots x);
  title = λ i l. ap (λ (z : Slot). z.title) (get_or_append_left slots (x ∷ []) no_slot i l);
  partition = λ i l. ap (λ (z : Slot). z.partition) (get_or_append_left slots (x ∷ []) no_slot i l);
  class = λ i l. ap (λ (z : Slot). z.class) (get_or_append_left slots (x ∷ []) no_slot i l);
}

-- the place of a home, and its name
pub home_place : (before after : List Slot) (new : Slot) (place : ℕ) → IsHome before after new place →
    IsPlaceOf after (name_of new.title) place
home_place before after new place (inl h) =
    let P : List Slot → Type 0 = λ z. IsPlaceOf z (name_of new.title) place in
    subst P (sym h.0) (h.1, h.2)
home_place before after new place (inr h) =
    let P : List Slot → Type 0 = λ z. IsPlaceOf z (name_of new.title) place in
    subst P (sym h.0)
    (omega (arith, h.1, length_push before new), ap (λ (z : Slot). name_of z.title) (get_or_push before new no_slot place (sym h.1)))

-- ---- each slot has a name of its own

pub named_as : (slots : List Slot) (i : ℕ) (y : Slot) → AreNamed slots → i < length slots → IsSame (slot_at slots i) y →
    AreNamed (set slots i y)
named_as slots i y named l same j k lj lk e =
    let a = named_set slots i j y l (ap name_of same.title) in
    let b = named_set slots i k y l (ap name_of same.title) in
    named j k (omega (arith, lj, length-set slots i y)) (omega (arith, lk, length-set slots i y)) (sym a ∙ e ∙ b)

named_push : (slots : List Slot) (x : Slot) → AreNamed slots → NoneNamed slots (name_of x.title) → AreNamed (slots ++ x ∷ [])
named_push slots x named none i j li lj e =
    let n = length_push slots x in
    let old : (k : ℕ) → k < length slots → named_at (slots ++ x ∷ []) k ≡ named_at slots k =
    λ k l. keeps_named slots (slots ++ x ∷ []) k (keeps_push slots x) l in
    let new : (k : ℕ) → length slots ≡ k → named_at (slots ++ x ∷ []) k ≡ name_of x.title =
    λ k is. ap (λ (z : Slot). name_of z.title) (get_or_push slots x no_slot k is) in
    elim (cases_lt i (length slots)) [
      | inl a ↦ elim (cases_lt j (length slots)) [
        | inl b ↦ named i j a b (sym (old i a) ∙ e ∙ old j b)
        | inr b ↦ absurd (none i a (sym (old i a) ∙ e ∙ new j (omega arith)))
      ]
      | inr a ↦ elim (cases_lt j (length slots)) [
        | inl b ↦ absurd (none j b (sym (old j b) ∙ sym e ∙ new i (omega arith)))
        | inr b ↦ omega arith
      ]
    ]

pub named_home : (before after : List Slot) (new : Slot) (place : ℕ) → AreNamed before → IsHome before after new place → AreNamed after
named_home before after new place named (inl h) = subst AreNamed (sym h.0) named
named_home before after new place named (inr h) = subst AreNamed (sym h.0) (named_push before new named h.2)

-- ---- what is said of a slot by its name

-- one slot is changed
pub by_name_set : {X : Type 0} (f : Slot → X) (slots : List Slot) (i : ℕ) (y : Slot) (s : SlotName) → AreNamed slots → i < length slots →
    IsSame (slot_at slots i) y
    → f (slot_of_name (set slots i y) s) ≡ (if same_slot s (named_at slots i) then f y else f (slot_of_name slots s))
by_name_set {X} f slots i y s named l same =
    let after = named_as slots i y named l same in
    let name : (j : ℕ) → named_at (set slots i y) j ≡ named_at slots j = λ j. named_set slots i j y l (ap name_of same.title) in
    let n = length-set slots i y in
    elim (same_slot_cases s (named_at slots i)) [
      | inl e ↦ rw (same_slot_yes s (named_at slots i) e)
          (ap f (slot_here (set slots i y) s i after (omega arith, name i ∙ sym e) ∙ get_or-set_same slots i y no_slot l))
      | inr other ↦ rw (same_slot_no s (named_at slots i) other) (elim (slot_cases slots s) [
        | inl there ↦
            let j = there.0 in
            let apart : j ≡ i → ⊥ = λ e. other (sym there.1.1 ∙ ap (named_at slots) e) in
            let low = there.1.0 in
            ap f (slot_here (set slots i y) s j after (omega arith, name j ∙ there.1.1) ∙ get_or-set_other slots i j y no_slot apart ∙
            sym (slot_here slots s j named there.1))
        | inr none ↦ ap f (slot_nowhere (set slots i y) s (λ j m e. none j (omega arith) (sym (name j) ∙ e)) ∙
            sym (slot_nowhere slots s none))
      ])
    ]

-- a slot that was there, and stays
pub by_name_kept : (before after : List Slot) (s : SlotName) (i : ℕ) → AreNamed before → AreNamed after → KeepsSlots before after →
    IsPlaceOf before s i
    → (home_in after s ≡ home_in before s) × (len_in after s ≡ len_in before s) × (usable_in after s ≡ usable_in before s)
by_name_kept before after s i named next keeps at =
    let a = slot_here before s i named at in
    let b = slot_here after s i next (omega (arith, at.0, keeps.longer), keeps_named before after i keeps at.0 ∙ at.1) in (
      ap (λ (z : Slot). z.partition) b ∙ keeps.partition i at.0 ∙ ap (λ (z : Slot). z.partition) (sym a),
      ap (λ (z : Slot). z.title.len) b ∙ ap (λ (t : Title). t.len) (keeps.title i at.0) ∙ ap (λ (z : Slot). z.title.len) (sym a),
      ap (λ (z : Slot). z.title.len - 8) b ∙ ap (λ (t : Title). t.len - 8) (keeps.title i at.0) ∙
          ap (λ (z : Slot). z.title.len - 8) (sym a),
    )
