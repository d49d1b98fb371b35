-- What a record reads is what the core's words hold.
use Rattle.std.proofs.Common.{◌≡◌, ℕ, ◌<◌, List, [], ◌∷◌, refl, sym, ◌∙◌, ap, subst, arith, ◌⊎◌, inl, inr}
use Rattle.std.specs.Prelude.{Contains}
use Rattle.std.proofs.lemmas.List.Sums.{sum_by-cons}
use Rattle.std.proofs.lemmas.Bool.{cases_lt}
use Rattle.pa_slot.specs.declared.word.SlotName.{SlotName}
use Rattle.pa_slot.specs.declared.title.Title.{Title}
use Rattle.pa_slot.specs.declared.title.OwnState.{OwnState}
use Rattle.pa_slot.specs.declared.title.OwnState.TheVariants.{Clean}
use Rattle.pa_slot.specs.Count.{held_of}
use Rattle.pa_slot.specs.Titles.{content_count, content_at, count_word, poison}
use Rattle.pa_slot.specs.Holdings.{Piece, OwnOf, OwnAs, RefOf, IsTitleHeld, held_in, held_by_all}
use Rattle.pa_machine.specs.Events.{State, total_of}
use Rattle.pa_slot.proofs.Runs.{same_slot_cases, same_slot_yes, same_slot_no}
use Rattle.pa_machine.proofs.Happening.{in_total}
use Rattle.pa_machine.proofs.Keeps.{own_of_state}
use Rattle.pa_machine.proofs.Totals.{tally_of}
use Rattle.pa_record.specs.declared.entry.Seen.{Seen}
use Rattle.pa_record.specs.declared.entry.Answer.{Answer}
use Rattle.pa_record.specs.declared.entry.Answer.TheVariants as answers
use Rattle.pa_record.specs.Spans.{name_of}
use Rattle.pa_lists.proofs.Members.{not_in_none, first_in, later_in, in_cases}
use Rattle.pa_rules.specs.declared.played.Played.{Played}
use Rattle.pa_rules.specs.Registers.{made_of, usable_or, usable_in}
use Rattle.pa_one_run.proofs.Filed.{IsMadeIn}
use Rattle.pa_core_run.specs.Ledger.{Ledger, Titles, IsShown}
use Rattle.pa_core_run.proofs.Acting.{HasHandle, handle_held}
use Rattle.pa_core_run.proofs.Stepping.{own_some}
use Rattle.pa_core_run.proofs.NextFronts.{among}

-- if all together have an Own, someone has it in some state
all_own : (t : Title) (hs : List (List Piece)) → 0 < held_by_all hs (OwnOf t) → (a : OwnState) × (0 < held_by_all hs (OwnAs t a))
all_own t [] some = absurd (omega arith)
all_own t (ps ∷ hs) some =
    let c = sum_by-cons (λ qs. held_in qs (OwnOf t)) ps hs in
    elim (cases_lt 0 (held_in ps (OwnOf t))) [
      | inl here ↦
          let (o, has) = own_some t ps here in
          let d = sum_by-cons (λ qs. held_in qs (OwnAs t o)) ps hs in
          (o, omega arith)
      | inr none ↦
          let (o, has) = all_own t hs (omega arith) in
          let d = sum_by-cons (λ qs. held_in qs (OwnAs t o)) ps hs in
          (o, omega arith)
    ]

module _ (names : Titles) (actors bytes : ℕ) (b : Ledger) (s : State) (shown : IsShown names actors bytes b s) where
  -- a slot that is held has its content
  pub held_content : (t : Title) (place : ℕ) → IsTitleHeld (total_of s) t → held_of (count_word s.words t) ≡ 1 → place < content_count t →
      content_at s.words t place ≡ b.content (name_of t)
  held_content t place held bit inside =
      let owns = (shown.good.counted t held).owns in
      let (o, has) = all_own t s.holdings (omega arith) in
      let clean = shown.clean t o has in
      let P : OwnState → Type 0 = λ v. 0 < total_of s (OwnAs t v) in
      shown.contents t (subst P clean has) place (omega arith) inside

  -- a slot that was freed and is pointed to has poison
  pub freed_content : (k : ℕ) (t : Title) (place : ℕ) → HasHandle s k t → held_of (count_word s.words t) ≡ 0 → place < content_count t →
      content_at s.words t place ≡ poison
  freed_content k t place handle bit inside =
      let held = handle_held s k t handle in
      let counted = shown.good.counted t held in
      let owns = counted.owns in
      let refs = counted.refs in
      elim handle [
        | inl own ↦ absurd (let p = own_of_state (total_of s) t Clean (tally_of s.holdings) (in_total s k (OwnAs t Clean) own) in
            omega arith)
        | inr ref ↦
            let p = in_total s k (RefOf t) ref in
            (shown.good.poison_kept t held).quarantine (bit, omega arith) place inside
      ]

-- ---- how long a slot is

-- a record that made the slot, with the usable number that is reported of it
abbrev pub HasUsable : List Played → SlotName → ℕ → Type 0
HasUsable ps y n = (q : Played) × (seen : Seen) × Contains ps q × (q.answer ≡ answers.Made seen n) × (seen.slot ≡ y)

usable_step : (answer : Answer) (y : SlotName) (n : ℕ) → ((seen : Seen) × (usable : ℕ) × (answer ≡ answers.Made seen usable)
    × (seen.slot ≡ y) × (usable_or (made_of answer) y n ≡ usable)) ⊎ (usable_or (made_of answer) y n ≡ n)
usable_step (answers.Made seen usable) y n = elim (same_slot_cases seen.slot y) [
  | inl e ↦ inl (seen, usable, refl, e, rw (same_slot_yes seen.slot y e) refl)
  | inr ne ↦ inr (rw (same_slot_no seen.slot y ne) refl)
]
usable_step answer y n = inr refl

made_tells : (answer : Answer) (seen : Seen) (usable : ℕ) (y : SlotName) (n : ℕ) → answer ≡ answers.Made seen usable → seen.slot ≡ y →
    usable_or (made_of answer) y n ≡ usable
made_tells answer seen usable y n is slot =
    let P : Answer → Type 0 = λ z. usable_or (made_of z) y n ≡ usable in
    let there : P (answers.Made seen usable) = rw (same_slot_yes seen.slot y slot) refl in
    subst P (sym is) there

-- the usable number of a slot is that of a record which made it
pub usable_made : (ps : List Played) (y : SlotName) → IsMadeIn ps y → HasUsable ps y (usable_in ps y)
usable_made [] y (q, seen, usable, among, is, slot) = absurd (not_in_none q among)
usable_made (p ∷ ps) y (q, seen, usable, among, is, slot) = elim (usable_step p.answer y (usable_in ps y)) [
  | inl (found, n, made, at, told) ↦ (p, found, first_in p ps, subst (λ k. p.answer ≡ answers.Made found k) (sym told) made, at)
  | inr same ↦ elim (in_cases p q ps among) [
    | inl here ↦ (
      p,
      seen,
      first_in p ps,
      ap (λ (z : Played). z.answer) here ∙
          (is ∙ ap {B = Answer} (λ k. answers.Made seen k)
          (sym (made_tells p.answer seen usable y (usable_in ps y) (ap (λ (z : Played). z.answer) here ∙ is) slot))),
      slot,
    )
    | inr later ↦
        let (r, found, member, made, at) = usable_made ps y (q, seen, usable, later, is, slot) in
        (r, found, later_in p r ps member, subst (λ k. r.answer ≡ answers.Made found k) (sym same) made, at)
  ]
]
