-- What is said of a slot that was made, the record says that made it first: the records behind change nothing.
use Rattle.std.proofs.Common.{Bool, ◌≡◌, ℕ, List, [], ◌∷◌, ◌++◌, refl, sym, ◌∙◌, ap, inl, inr}
use Rattle.pa_slot.specs.declared.word.SlotName.{SlotName}
use Rattle.pa_slot.proofs.Runs.{same_slot_yes}
use Rattle.pa_lists.proofs.Members.{not_in_none, in_cases}
use Rattle.pa_record.specs.declared.entry.Seen.{Seen}
use Rattle.pa_record.specs.declared.entry.Answer.TheVariants.{Made}
use Rattle.pa_rules.specs.declared.played.Played.{Played}
use Rattle.pa_rules.specs.Registers.{made_of, usable_or, usable_in, plain_or, plain_in}
use Rattle.pa_one_run.proofs.Filed.{IsMadeIn}

-- saying folds the records from the last to the first, and a record that made slot s doesn't ask what those behind it say
said_front : {A : Type 0} (said : List Played → A) (saying : Played → A → A) (s : SlotName) →
    ((p : Played) (ps : List Played) → said (p ∷ ps) ≡ saying p (said ps)) →
    ((p : Played) (seen : Seen) (usable : ℕ) (x y : A) → p.answer ≡ Made seen usable → seen.slot ≡ s → saying p x ≡ saying p y) →
    (before more other : List Played) → IsMadeIn before s → said (before ++ more) ≡ said (before ++ other)
said_front said saying s folds first [] more other (q, seen, usable, among, is, slot) = absurd (not_in_none q among)
said_front said saying s folds first (p ∷ before) more other (q, seen, usable, among, is, slot) =
    folds p (before ++ more) ∙ elim (in_cases p q before among) [
      | inl same ↦
          first p seen usable (said (before ++ more)) (said (before ++ other)) (ap (λ (z : Played). z.answer) same ∙ is) slot
      | inr later ↦ ap (saying p) (said_front said saying s folds first before more other (q, seen, usable, later, is, slot))
    ] ∙ sym (folds p (before ++ other))

-- how many bytes of it are usable
pub usable_front : (before more other : List Played) (s : SlotName) → IsMadeIn before s →
    usable_in (before ++ more) s ≡ usable_in (before ++ other) s
usable_front before more other s =
    said_front (λ ps. usable_in ps s) (λ p. usable_or (made_of p.answer) s) s (λ p ps. refl) here before more other
  where
    here : (p : Played) (seen : Seen) (usable x y : ℕ) → p.answer ≡ Made seen usable → seen.slot ≡ s →
        usable_or (made_of p.answer) s x ≡ usable_or (made_of p.answer) s y
    here p seen usable x y is slot = rw is (rw (same_slot_yes seen.slot s slot) refl)

-- whether it is in a partition without reference counts
pub plain_front : (before more other : List Played) (s : SlotName) → IsMadeIn before s →
    plain_in (before ++ more) s ≡ plain_in (before ++ other) s
plain_front before more other s =
    said_front (λ ps. plain_in ps s) (λ p. plain_or (made_of p.answer) p s) s (λ p ps. refl) here before more other
  where
    here : (p : Played) (seen : Seen) (usable : ℕ) (x y : Bool) → p.answer ≡ Made seen usable → seen.slot ≡ s →
        plain_or (made_of p.answer) p s x ≡ plain_or (made_of p.answer) p s y
    here p seen usable x y is slot = rw is (rw (same_slot_yes seen.slot s slot) refl)
