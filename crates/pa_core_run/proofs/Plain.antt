-- Whether a slot is plain: each record that made it says the same, since a slot has one partition.
use Rattle.std.proofs.Common.{◌≡◌, ℕ, nat_le, Bool, List, [], ◌∷◌, refl, sym, ◌∙◌, ap, subst, ◌⊎◌, inl, inr}
use Rattle.std.specs.Prelude.{Contains}
use Rattle.pa_slot.specs.declared.word.SlotName.{SlotName}
use Rattle.pa_slot.proofs.Runs.{same_slot_cases, same_slot_yes, same_slot_no}
use Rattle.pa_trace.specs.declared.script.Op.TheVariants as ops
use Rattle.pa_trace.specs.declared.script.Rules.{Rules}
use Rattle.pa_record.specs.declared.entry.Seen.{Seen}
use Rattle.pa_record.specs.declared.entry.Answer.{Answer}
use Rattle.pa_record.specs.declared.entry.Answer.TheVariants as answers
use Rattle.pa_lists.proofs.Members.{not_in_none, first_in, later_in, in_cases}
use Rattle.pa_rules.specs.declared.played.Played.{Played}
use Rattle.pa_rules.specs.Registers.{made_of, is_plain_op, plain_or, plain_in}
use Rattle.pa_rules.specs.Caches.{IsOfClass, IsDirect}
use Rattle.pa_one_run.specs.Parts.{Parts}
use Rattle.pa_one_run.proofs.Filed.{IsFiled, IsMadeIn}
use Rattle.pa_one_run.proofs.roots.Classes.{made_class, one_class, one_direct, class_or_direct}

-- a record that made the slot tells it, and one that didn't leaves it to the later ones
plain_here : (a : Answer) (p : Played) (seen : Seen) (n : ℕ) (y : SlotName) (other : Bool) → a ≡ answers.Made seen n → seen.slot ≡ y →
    plain_or (made_of a) p y other ≡ is_plain_op p.rules p.op
plain_here a p seen n y other is at = ap (λ z. plain_or (made_of z) p y other) is ∙ rw (same_slot_yes seen.slot y at) refl

plain_told : (a : Answer) (p : Played) (y : SlotName) (other : Bool) → ((seen : Seen) × (n : ℕ) × (a ≡ answers.Made seen n)
    × (seen.slot ≡ y)) ⊎ (plain_or (made_of a) p y other ≡ other)
plain_told (answers.Made seen n) p y other = elim (same_slot_cases seen.slot y) [
  | inl e ↦ inl (seen, n, refl, e)
  | inr ne ↦ inr (rw (same_slot_no seen.slot y ne) refl)
]
plain_told answer p y other = inr refl

-- if all records that made the slot say one thing, it is so
pub plain_made : (ps : List Played) (y : SlotName) (plain : Bool) → ((q : Played) (seen : Seen) (n : ℕ) → Contains ps q
    → q.answer ≡ answers.Made seen n → seen.slot ≡ y → is_plain_op q.rules q.op ≡ plain) →
    IsMadeIn ps y → plain_in ps y ≡ plain
plain_made [] y plain each (q, seen, n, among, is, at) = absurd (not_in_none q among)
plain_made (p ∷ ps) y plain each (q, seen, n, among, is, at) = elim (plain_told p.answer p y (plain_in ps y)) [
  | inl (found, m, made, slot) ↦ plain_here p.answer p found m y (plain_in ps y) made slot ∙ each p found m (first_in p ps) made slot
  | inr leaves ↦ elim (in_cases p q ps among) [
    | inl here ↦
        let made : p.answer ≡ answers.Made seen n = ap (λ (z : Played). z.answer) here ∙ is in
        plain_here p.answer p seen n y (plain_in ps y) made at ∙ each p seen n (first_in p ps) made at
    | inr later ↦ leaves ∙
        plain_made ps y plain (λ r found m member. each r found m (later_in p r ps member)) (q, seen, n, later, is, at)
  ]
]

module _ (a : Parts) (h : IsFiled a) where
  -- the slot is in this partition
  abbrev IsIn : SlotName → ℕ → Type 0
  IsIn y p = ((c : ℕ) × IsOfClass a.roots y p c) ⊎ IsDirect a.roots y p

  one_partition : (y : SlotName) (p q : ℕ) → IsIn y p → IsIn y q → p ≡ q
  one_partition y p q (inl (c, of)) (inl (d, other)) = (one_class a y p q c d h of other).0
  one_partition y p q (inl (c, of)) (inr direct) = absurd (class_or_direct a y p q c h of direct)
  one_partition y p q (inr direct) (inl (c, of)) = absurd (class_or_direct a y q p c h of direct)
  one_partition y p q (inr direct) (inr other) = one_direct a y p q h direct other

  -- the partition from which a record asked for the slot that it made
  asked_from : (x : Played) (seen : Seen) (n : ℕ) → Contains a.ps x → x.answer ≡ answers.Made seen n →
      (p : ℕ) × IsIn seen.slot p × (is_plain_op x.rules x.op ≡ nat_le a.rules.plain_from p)
  asked_from x seen n among is = elim (made_class a x seen n h among is) [
    | inl (p, c, asks, of) ↦ (p, inl (c, of), plain asks.0 p asks.1 asks.2)
    | inr (p, size, asks, direct) ↦ (p, inr direct, plain asks.0 p size asks.1)
  ]
    where
      plain : (reg p size : ℕ) → x.op ≡ ops.Alloc reg p size → is_plain_op x.rules x.op ≡ nat_le a.rules.plain_from p
      plain reg p size op = ap (is_plain_op x.rules) op ∙ ap (λ (r : Rules). nat_le r.plain_from p) (h.ruled x among)

  -- a slot that a record made is plain exactly if the record's op asked for one that is
  pub made_plain : (x : Played) (seen : Seen) (n : ℕ) → Contains a.ps x → x.answer ≡ answers.Made seen n →
      plain_in a.ps seen.slot ≡ is_plain_op x.rules x.op
  made_plain x seen n among is =
      let (p, here, told) = asked_from x seen n among is in
      plain_made a.ps seen.slot (is_plain_op x.rules x.op)
      (λ q found m member made at.
      let (r, there, says) = asked_from q found m member made in
      let same = one_partition seen.slot r p (subst (λ y. IsIn y r) at there) here in
      says ∙ (ap (nat_le a.rules.plain_from) same ∙ sym told))
      (x, seen, n, among, is, refl)
