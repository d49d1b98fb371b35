-- What the table of the slots that records made has of each of them.
use Rattle.std.proofs.Common.{◌≡◌, ℕ, Bool, true, false, ◌&&◌, ◌+◌, ◌<◌, ◌⊎◌, if◌then◌else◌, List, [], ◌∷◌, drop, get_or, length, Option, Some, None, refl, sym, ◌∙◌, ap, subst, inl, inr}
use Rattle.std.specs.Option.{unwrap_or}
use Rattle.std.specs.Prelude.{◌↔◌, Any, Contains, IsTrue}
use Rattle.std.proofs.lemmas.Bool.{cases_Bool, false_from_ne_true, false≢true}
use Rattle.std.proofs.lemmas.List.{drop_more}
use Rattle.pa_slot.specs.declared.word.SlotName.{SlotName}
use Rattle.pa_slot.specs.Run.{same_slot}
use Rattle.pa_slot.proofs.Runs.{same_slot_cases, same_slot_yes, same_slot_no}
use Rattle.pa_lists.proofs.Members.{first_in, later_in}
use Rattle.pa_record.specs.declared.entry.Seen.{Seen}
use Rattle.pa_record.specs.declared.entry.Answer.TheVariants.{Made}
use Rattle.pa_rules.specs.declared.played.Played.{Played}
use Rattle.pa_rules.specs.Registers.{is_plain_op, made_of, usable_or, usable_in, plain_or, plain_in}
use Rattle.pa_audit_records.specs.ByKeys.{value_at}
use Rattle.pa_audit_records.specs.Keys.{name_key}
use Rattle.pa_audit_records.specs.Tables.{Puts, AreSlotFacts, ArePlains, ReadsSlot, SuitsRecords, facts_at, unmade}
use Rattle.pa_audit_records.specs.declared.known.SlotFacts.{SlotFacts}
use Rattle.pa_audit_records.specs.declared.known.KnownSlots.{KnownSlots}
use Rattle.pa_audit_records.proofs.Putting.{same_key}

-- ---- what the first record that made a slot says of it

-- what records say of a slot
abbrev told_of : List Played → SlotName → SlotFacts
told_of ps s = record { usable = usable_in ps s; plain = plain_in ps s }

-- a record that made a slot, before others
told_front : (x : Played) (rest : List Played) (seen : Seen) (facts : SlotFacts) (f g : ℕ → Option SlotFacts)
    → x.answer ≡ Made seen facts.usable → facts.plain ≡ is_plain_op x.rules x.op → seen.slot.start < 4294967296
    → Puts f g (name_key seen.slot) facts → AreSlotFacts rest f →
    AreSlotFacts (x ∷ rest) g
told_front x rest seen facts f g is plain start puts h s within =
    let at : told_of (x ∷ rest) s ≡ record {
      usable = if same_slot seen.slot s then facts.usable else usable_in rest s;
      plain = if same_slot seen.slot s then is_plain_op x.rules x.op else plain_in rest s;
    } =
    ap (λ a. record { usable = usable_or (made_of a) s (usable_in rest s); plain = plain_or (made_of a) x s (plain_in rest s) }) is in
    elim (same_slot_cases seen.slot s) [
      | inl same ↦
          let one : facts_at g s ≡ facts = ap (λ z. facts_at g z) (sym same) ∙ ap (λ o. unwrap_or o unmade) puts.here in
          let here : facts ≡ record { usable = facts.usable; plain = is_plain_op x.rules x.op } =
          λ i. record { usable = facts.usable; plain = plain i } in
          one ∙ here ∙ sym (at ∙ rw (same_slot_yes seen.slot s same) refl)
      | inr other ↦
          let one : facts_at g s ≡ told_of rest s =
          ap (λ o. unwrap_or o unmade) (puts.other (name_key s) (λ e. other (sym (same_key s seen.slot within start e)))) ∙ h s within in
          one ∙ sym (at ∙ rw (same_slot_no seen.slot s other) refl)
    ]

pub told_here : (ps : List Played) (k at : ℕ) (d : Played) (seen : Seen) (facts : SlotFacts) (f g : ℕ → Option SlotFacts) → k < length ps
    → at ≡ k + 1 → (get_or ps k d).answer ≡ Made seen facts.usable
    → facts.plain ≡ is_plain_op (get_or ps k d).rules (get_or ps k d).op
    → seen.slot.start < 4294967296 → Puts f g (name_key seen.slot) facts → AreSlotFacts (drop at ps) f → AreSlotFacts (drop k ps) g
told_here ps k at d seen facts f g below next is plain start puts h =
    subst (λ zs. AreSlotFacts zs g) (sym (drop_more ps k d below))
    (told_front (get_or ps k d) (drop (k + 1) ps) seen facts f g is plain start puts (subst (λ n. AreSlotFacts (drop n ps) f) next h))

-- ---- no slot is plain

plain_miss : (m : Option (SlotName × ℕ)) (x : Played) (s : SlotName) (other : Bool) → is_plain_op x.rules x.op ≡ false → other ≡ false →
    plain_or m x s other ≡ false
plain_miss None x s other not none = none
plain_miss (Some m) x s other not none = elim (same_slot_cases m.0 s) [
  | inl same ↦ rw (same_slot_yes m.0 s same) not
  | inr apart ↦ rw (same_slot_no m.0 s apart) none
]

-- where no record asks for a slot in a plain partition, no slot is plain
pub none_plain : (ps : List Played) (s : SlotName) → ((x : Played) → Contains ps x → IsTrue (is_plain_op x.rules x.op) → ⊥) →
    plain_in ps s ≡ false
none_plain [] s none = refl
none_plain (x ∷ ps) s none =
    plain_miss (made_of x.answer) x s (plain_in ps s) (false_from_ne_true (is_plain_op x.rules x.op) (none x (first_in x ps)))
    (none_plain ps s (λ y among. none y (later_in x y ps among)))

-- ---- what is known of the slots suits the records

plains_known : (ps : List Played) (known : KnownSlots)
    → (IsTrue known.any_plain ↔ Any (λ (x : Played). IsTrue (is_plain_op x.rules x.op)) ps)
    → (IsTrue known.any_plain → AreSlotFacts ps (value_at known.slots)) → ArePlains ps known
plains_known ps known asks facts s within = elim (cases_Bool known.any_plain) [
  | inl some ↦ rw some (ap (λ (f : SlotFacts). f.plain) (facts some s within))
  | inr none ↦
      let not = none_plain ps s (λ x among is. false≢true (sym none ∙ asks.1 (among.0, x, among.1, among.2, is))) in
      rw none (sym not)
]

-- what is known suits the records if the table has what they say, or none of them reads a slot or asks for a plain one
pub suits_known : (ps : List Played) (known : KnownSlots)
    → (IsTrue known.any_plain ↔ Any (λ (x : Played). IsTrue (is_plain_op x.rules x.op)) ps)
    → AreSlotFacts ps (value_at known.slots) ⊎ ((known.any_plain ≡ false) × (Any (λ (x : Played). ReadsSlot x.op) ps → ⊥))
    → SuitsRecords ps known
suits_known ps known asks (inl facts) = (
  λ x among is s within. ap (λ (f : SlotFacts). f.usable) (facts s within),
  plains_known ps known asks (λ some. facts),
)
suits_known ps known asks (inr (none, reads)) = (
  λ x among is. absurd (reads (among.0, x, among.1, among.2, is)),
  plains_known ps known asks (λ some. absurd (false≢true (sym none ∙ some))),
)
