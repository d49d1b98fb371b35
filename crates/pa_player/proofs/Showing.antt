-- What the tables show, by the names of slots, after each change.
use Rattle.std.proofs.Common.{◌≡◌, ℕ, ◌-◌, ◌<◌, ◌⊎◌, List, [], length, set, get_or, refl, sym, ap, ◌∙◌, subst, inl, inr}
use Rattle.std.specs.Prelude.{nat_le, if◌then◌else◌, slice_index_or}
use Rattle.std.proofs.lemmas.Bool.{cases_eq, eq-eqb, ne_eqb}
use Rattle.std.proofs.lemmas.List.{get_or-set_same, get_or-set_other}
use Rattle.pa_slot.specs.declared.title.Title.{Title}
use Rattle.pa_slot.specs.declared.word.SlotName.{SlotName}
use Rattle.pa_slot.specs.Run.{same_slot}
use Rattle.pa_slot.proofs.Runs.{same_slot_yes, same_slot_no, same_slot_cases}
use Rattle.pa_record.specs.declared.history.Held.TheVariants as held
use Rattle.pa_rules.specs.Registers.{Reg, AllRegs}
use Rattle.pa_slot_effects.specs.Shown.{with_reg, with_slot}
use Rattle.pa_slot_effects.specs.Turns.{Names, HoldsNone}
use Rattle.pa_rules.specs.declared.register.Register.{Register}
use Rattle.pa_rules.specs.declared.register.Register.TheVariants.{Empty, Own, Ref, Freed, Cleared}
use Rattle.pa_player.specs.declared.table.Slot.{Slot}
use Rattle.pa_player.specs.Player.{Player}
use Rattle.pa_player.specs.Tables.{slot_at, named_at, held_of, AreNamed, IsIn, Points, HasNone}
use Rattle.pa_player.specs.Playing.{slot_of_name, word_in, content_in, usable_in, home_in, reg_of, register_at}
use Rattle.pa_player.specs.Changes.{registered}
use Rattle.pa_player.proofs.Slots.{KeepsSlots, IsSame, slot_here, by_name_set, keeps_named}

-- ---- handles

-- what a handle is by the table stays where its slot does
pub reg_kept : (before after : List Slot) (x : Register ℕ) → KeepsSlots before after → IsIn (length before) x →
    reg_of after x ≡ reg_of before x
reg_kept before after Empty keeps among = refl
reg_kept before after (Own place) keeps among = ap (λ s. Own s) (keeps_named before after place keeps among)
reg_kept before after (Ref place) keeps among = ap (λ s. Ref s) (keeps_named before after place keeps among)
reg_kept before after Freed keeps among = refl
reg_kept before after Cleared keeps among = refl

pub told_kept : (before after : List Slot) (x : Register ℕ) → KeepsSlots before after → IsIn (length before) x →
    held_of after x ≡ held_of before x
told_kept before after Empty keeps among = refl
told_kept before after (Own place) keeps among = ap (λ s. held.Own s) (keeps_named before after place keeps among)
told_kept before after (Ref place) keeps among = ap (λ s. held.Ref s) (keeps_named before after place keeps among)
told_kept before after Freed keeps among = refl
told_kept before after Cleared keeps among = refl

-- a handle of the slot in a place
pub handle_points : (x : Register ℕ) (i : ℕ) → (x ≡ Own i) ⊎ (x ≡ Ref i) → Points x i
handle_points x i (inl own) = subst (λ z. Points z i) (sym own) refl
handle_points x i (inr ref) = subst (λ z. Points z i) (sym ref) refl

pub points_in : (n : ℕ) (x : Register ℕ) (i : ℕ) → Points x i → IsIn n x → i < n
points_in n Empty i points among = absurd points
points_in n (Own place) i points among = subst (λ z. z < n) points among
points_in n (Ref place) i points among = subst (λ z. z < n) points among
points_in n Freed i points among = absurd points
points_in n Cleared i points among = absurd points

pub points_names : (slots : List Slot) (x : Register ℕ) (i : ℕ) → Points x i → Names (named_at slots i) (reg_of slots x)
points_names slots Empty i points = absurd points
points_names slots (Own place) i points = ap (named_at slots) points
points_names slots (Ref place) i points = ap (named_at slots) points
points_names slots Freed i points = absurd points
points_names slots Cleared i points = absurd points

pub none_holds : (slots : List Slot) (x : Register ℕ) → HasNone x → HoldsNone (reg_of slots x)
none_holds slots Empty none = tt
none_holds slots (Own place) none = absurd (none tt)
none_holds slots (Ref place) none = absurd (none tt)
none_holds slots Freed none = tt
none_holds slots Cleared none = tt

-- ---- registers

-- the registers after one was set
pub regs_registered : (p : Player) (slots : List Slot) (t r : ℕ) (x : Register ℕ) (u k : ℕ) → t < length p.registers →
    r < length (slice_index_or p.registers t [])
    → reg_of slots (register_at (registered t r x p) u k) ≡ with_reg (λ v j. reg_of slots (register_at p v j)) t r (reg_of slots x) u k
regs_registered p slots t r x u k low small =
    let row = slice_index_or p.registers t [] in
    let new = set row r x in
    elim (cases_eq u t) [
      | inl e ↦
          let P : ℕ → Type 0 = λ v. reg_of slots (register_at (registered t r x p) v k) ≡ with_reg
          (λ v j. reg_of slots (register_at p v j)) t r (reg_of slots x) v k in
          let at : register_at (registered t r x p) t k ≡ get_or new k Empty =
          ap (λ (zs : List (Register ℕ)). get_or zs k Empty) (get_or-set_same p.registers t new [] low) in
          subst P (sym e) (rw (eq-eqb t t refl) (elim (cases_eq k r) [
            | inl f ↦ rw (eq-eqb k r f) (ap (reg_of slots) (at ∙ ap (λ j. get_or new j Empty) f ∙ get_or-set_same row r x Empty small))
            | inr other ↦ rw (ne_eqb k r other) (ap (reg_of slots) (at ∙ get_or-set_other row r k x Empty other))
          ]))
      | inr apart ↦ rw (ne_eqb u t apart)
          (ap (λ (zs : List (Register ℕ)). reg_of slots (get_or zs k Empty)) (get_or-set_other p.registers t u new [] apart))
    ]

-- registers that are the same still are if the same register is set in both
pub with_reg_same : (a b : AllRegs) (t r : ℕ) (x y : Reg) (u k : ℕ) → ((v j : ℕ) → b v j ≡ a v j) → y ≡ x →
    with_reg b t r y u k ≡ with_reg a t r x u k
with_reg_same a b t r x y u k same e = elim (cases_eq u t) [
  | inl f ↦ elim (cases_eq k r) [
    | inl g ↦ rw (eq-eqb u t f, eq-eqb k r g) e
    | inr other ↦ rw (eq-eqb u t f, ne_eqb k r other) (same t k)
  ]
  | inr apart ↦ rw (ne_eqb u t apart) (same u k)
]

-- ---- words, contents, usable numbers and partitions

pub word_set : (slots : List Slot) (i : ℕ) (y : Slot) (s : SlotName) → AreNamed slots → i < length slots → IsSame (slot_at slots i) y
    → word_in (set slots i y) s ≡ with_slot (word_in slots) (named_at slots i) y.word.0 s
word_set slots i y s named l same = by_name_set (λ z. z.word.0) slots i y s named l same

pub content_set : (slots : List Slot) (i : ℕ) (y : Slot) (s : SlotName) → AreNamed slots → i < length slots → IsSame (slot_at slots i) y
    → content_in (set slots i y) s ≡ with_slot (content_in slots) (named_at slots i) y.content s
content_set slots i y s named l same = by_name_set (λ z. z.content) slots i y s named l same

-- what a place has is what its name has
pub at_name : {X : Type 0} (f : Slot → X) (slots : List Slot) (i : ℕ) → AreNamed slots → i < length slots →
    f (slot_of_name slots (named_at slots i)) ≡ f (slot_at slots i)
at_name {X} f slots i named l = ap f (slot_here slots (named_at slots i) i named (l, refl))

-- what a change keeps of a slot is found by each name as before
name_set_same : {X : Type 0} (f : Slot → X) (slots : List Slot) (i : ℕ) (y : Slot) (s : SlotName) → AreNamed slots → i < length slots →
    IsSame (slot_at slots i) y
    → f y ≡ f (slot_at slots i) → f (slot_of_name (set slots i y) s) ≡ f (slot_of_name slots s)
name_set_same {X} f slots i y s named l same e = elim (same_slot_cases s (named_at slots i)) [
  | inl is ↦
      let a = by_name_set f slots i y s named l same in
      let b : (if same_slot s (named_at slots i) then f y else f (slot_of_name slots s)) ≡ f y =
      rw (same_slot_yes s (named_at slots i) is) refl in
      a ∙ b ∙ e ∙ sym (at_name f slots i named l) ∙ ap (λ z. f (slot_of_name slots z)) (sym is)
  | inr other ↦
      let b : (if same_slot s (named_at slots i) then f y else f (slot_of_name slots s)) ≡ f (slot_of_name slots s) =
      rw (same_slot_no s (named_at slots i) other) refl in
      by_name_set f slots i y s named l same ∙ b
]

pub word_stays : (slots : List Slot) (i : ℕ) (y : Slot) (s : SlotName) → AreNamed slots → i < length slots → IsSame (slot_at slots i) y →
    y.word.0 ≡ (slot_at slots i).word.0
    → word_in (set slots i y) s ≡ word_in slots s
word_stays slots i y s named l same e = name_set_same (λ z. z.word.0) slots i y s named l same e

pub content_stays : (slots : List Slot) (i : ℕ) (y : Slot) (s : SlotName) → AreNamed slots → i < length slots → IsSame (slot_at slots i) y →
    y.content ≡ (slot_at slots i).content
    → content_in (set slots i y) s ≡ content_in slots s
content_stays slots i y s named l same e = name_set_same (λ z. z.content) slots i y s named l same e

pub usable_stays : (slots : List Slot) (i : ℕ) (y : Slot) (s : SlotName) → AreNamed slots → i < length slots → IsSame (slot_at slots i) y
    → usable_in (set slots i y) s ≡ usable_in slots s
usable_stays slots i y s named l same =
    name_set_same (λ z. z.title.len - 8) slots i y s named l same (ap (λ (t : Title). t.len - 8) same.title)

pub plain_stays : (from : ℕ) (slots : List Slot) (i : ℕ) (y : Slot) (s : SlotName) → AreNamed slots → i < length slots →
    IsSame (slot_at slots i) y → nat_le from (home_in (set slots i y) s) ≡ nat_le from (home_in slots s)
plain_stays from slots i y s named l same =
    name_set_same (λ z. nat_le from z.partition) slots i y s named l same (ap (λ n. nat_le from n) same.partition)
