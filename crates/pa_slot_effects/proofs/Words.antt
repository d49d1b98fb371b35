-- The word of a slot that was stepped on, and what a handle says of its slot's word.
use Rattle.std.proofs.Common.{◌≡◌, ℕ, ◌+◌, ◌*◌, ◌<◌, ◌≤◌, inl, inr, List, [], ◌∷◌, Some, Contains, refl, ap, ◌∙◌, arith}
use Rattle.pa_slot.specs.declared.word.SlotName.{SlotName}
use Rattle.pa_slot.specs.declared.word.Step.{Step}
use Rattle.pa_slot.specs.declared.word.Step.TheVariants as steps
use Rattle.pa_slot.specs.Count.{number_of, held_of, refs_of}
use Rattle.pa_slot.specs.Run.{Mark}
use Rattle.pa_slot.specs.Runs.{HasRuns, IsPath}
use Rattle.pa_slot.proofs.Runs.{same_slot_yes, same_slot_no, same_slot_cases, some_is, issue_first}
use Rattle.pa_record.specs.declared.entry.Seen.{Seen}
use Rattle.pa_record.specs.declared.entry.Answer.TheVariants.{Made}
use Rattle.pa_rules.specs.Registers.{Reg}
use Rattle.pa_rules.specs.declared.register.Register.TheVariants.{Empty, Own, Ref, Freed, Cleared}
use Rattle.pa_rules.specs.declared.played.Played.{Played}
use Rattle.pa_rules.specs.Played.{mark_at, mark_of, mark_of_answer, marks_of}
use Rattle.pa_slot_effects.specs.Shown.{Shown, owns, points, amount, AreHandles}
use Rattle.pa_slot_effects.specs.Turns.{Names}
use Rattle.pa_slot_effects.specs.Laws.{HandleLets}
use Rattle.pa_slot_effects.proofs.Marking.{mark_told, issue_made}
use Rattle.pa_slot_effects.proofs.Handles.{amount_part, amount_few}
use Rattle.pa_rules.proofs.Phases.{mark_in}

-- a record made the slot
pub record WasMade (ps : List Played) (s : SlotName) : Type 0 where
  pub maker : Played
  pub seen : Seen
  pub usable : ℕ
  pub among : Contains ps maker
  pub made : maker.answer ≡ Made seen usable
  pub slot : seen.slot ≡ s

first_made : (ps : List Played) (s : SlotName) (vs : List ℕ) (w : ℕ) → IsPath (marks_of ps) s 0 vs w → 0 < w → WasMade ps s
first_made ps s [] w h up = absurd (omega (arith, h))
first_made ps s (v ∷ vs) w h up =
    let m : Mark = h.0 in
    let issue : h.1 ≡ steps.Issue = issue_first h.1 0 h.3 refl in
    let x = mark_told ps m h.2.among in
    let a = issue_made x.0.line x.0.op x.0.answer m x.2 (h.2.step ∙ ap (λ (y : Step). Some y) issue) in
    record { maker = x.0; seen = a.0; usable = a.1; among = x.1; made = a.2; slot = a.3 ∙ h.2.slot }

-- a slot whose word isn't 0 was made by one of the records
pub used_made : (ps : List Played) (word : SlotName → ℕ) (s : SlotName) → HasRuns (marks_of ps) word → 0 < word s → WasMade ps s
used_made ps word s runs up =
    let k = runs.path s in
    first_made ps s k.0 (word s) k.1 up

pub made_used : (ps : List Played) (word : SlotName → ℕ) (x : Played) (seen : Seen) (n : ℕ) → HasRuns (marks_of ps) word → Contains ps x →
    x.answer ≡ Made seen n
    → 0 < word seen.slot
made_used ps word x seen n runs c e =
    let m : Mark = mark_at x.line seen (Some steps.Issue) in
    let told : mark_of x ≡ Some m = ap (λ a. mark_of_answer x.line x.op a) e in
    let low : number_of m.found < number_of (word m.slot) = runs.counted m (mark_in ps x m c told) (some_is steps.Issue) in
    omega (arith, low)

-- what one register has of a slot
pub owns_one : (s : SlotName) → owns s (Own s) ≡ 1
owns_one s = rw (same_slot_yes s s refl) refl

pub points_one : (s : SlotName) → points s (Ref s) ≡ 1
points_one s = rw (same_slot_yes s s refl) refl

pub owns_other : (s t : SlotName) → (s ≡ t → ⊥) → owns t (Own s) ≡ 0
owns_other s t ne = rw (same_slot_no s t ne) refl

pub points_other : (s t : SlotName) → (s ≡ t → ⊥) → points t (Ref s) ≡ 0
points_other s t ne = rw (same_slot_no s t ne) refl

pub points_few : (s : SlotName) (r : Reg) → points s r ≤ 1
points_few s Empty = omega arith
points_few s (Own t) = omega arith
points_few s (Ref t) = elim (same_slot_cases t s) [
  | inl e ↦ rw (same_slot_yes t s e) (omega arith)
  | inr ne ↦ rw (same_slot_no t s ne) (omega arith)
]
points_few s Freed = omega arith
points_few s Cleared = omega arith

-- a register's handle is counted
module _ (threads : ℕ) (a : Shown) (h : AreHandles threads a) (thread reg : ℕ) (ht : thread < threads) (hr : reg < 64) where
  pub own_counts : (s : SlotName) → a.regs thread reg ≡ Own s → held_of (a.word s) ≡ 1
  own_counts s e =
      let part : owns s (a.regs thread reg) ≤ amount threads (owns s) a.regs a.held =
      amount_part threads (owns s) a.regs a.held thread reg ht hr in
      omega (arith, part, ap (owns s) e, owns_one s, h.owners s)

  pub ref_counts : (s : SlotName) → a.regs thread reg ≡ Ref s → 0 < refs_of (a.word s)
  ref_counts s e =
      let part : points s (a.regs thread reg) ≤ amount threads (points s) a.regs a.held =
      amount_part threads (points s) a.regs a.held thread reg ht hr in
      omega (arith, part, ap (points s) e, points_one s, h.pointers s)

  handle_counts : (s : SlotName) (r : Reg) → a.regs thread reg ≡ r → Names s r → 0 < held_of (a.word s) + refs_of (a.word s)
  handle_counts s Empty e n = absurd n
  handle_counts s (Own t) e n =
      let k : held_of (a.word s) ≡ 1 = own_counts s (e ∙ ap (λ x. Own x) n) in
      omega (arith, k)
  handle_counts s (Ref t) e n =
      let k : 0 < refs_of (a.word s) = ref_counts s (e ∙ ap (λ x. Ref x) n) in
      omega (arith, k)
  handle_counts s Freed e n = absurd n
  handle_counts s Cleared e n = absurd n

  pub in_use : (s : SlotName) → Names s (a.regs thread reg) → 0 < held_of (a.word s) + refs_of (a.word s)
  in_use s n = handle_counts s (a.regs thread reg) refl n

-- no slot has more raw_ptrs than there are registers and cells
refs_few : (threads : ℕ) (a : Shown) → AreHandles threads a → threads ≤ 16 → (s : SlotName) → refs_of (a.word s) ≤ 1088
refs_few threads a h few s =
    let k : amount threads (points s) a.regs a.held ≤ 64 * threads + 64 = amount_few threads (points s) a.regs a.held (points_few s) in
    omega (arith, k, h.pointers s)

pub handle_lets : HandleLets
handle_lets threads ls ps a thread reg can hr =
    let t = can.told in
    let low : (s : SlotName) → number_of (a.word s) < 1099511627775 = λ s. omega (arith, t.numbers.few s, can.short) in
    record {
      in_use = λ s n. in_use threads a t.handles thread reg can.among hr s n;
      copies = λ s n.
          (in_use threads a t.handles thread reg can.among hr s n, low s, omega (arith, refs_few threads a t.handles can.few s));
      resets = λ s e. (ref_counts threads a t.handles thread reg can.among hr s e, low s, tt);
      frees = λ s e. (own_counts threads a t.handles thread reg can.among hr s e, low s, tt);
      writes = λ s e none. ((own_counts threads a t.handles thread reg can.among hr s e, none), low s, tt);
      issues = λ s h r. ((h, r), low s, tt);
    }
