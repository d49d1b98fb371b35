-- Looks at a slot: a free and a write through a raw_ptr, a write of a shared slot, and reads.
use Rattle.std.proofs.Common.{◌≡◌, ℕ, ◌-◌, ◌*◌, ◌/◌, ◌<◌, ◌≤◌, ◌⊎◌, List, length, Some, refl, sym, ap, ◌∙◌, subst, arith, inl, inr}
use Rattle.std.proofs.lemmas.Bool.{cases_eq}
use Rattle.pa_slot.specs.Count.{held_of, refs_of}
use Rattle.pa_slot.specs.Titles.{poison}
use Rattle.pa_trace.specs.declared.script.Op.TheVariants as ops
use Rattle.pa_trace.specs.declared.script.Line.{Line}
use Rattle.pa_slot.specs.declared.word.SlotName.{SlotName}
use Rattle.pa_slot.specs.declared.word.Word.{Word}
use Rattle.pa_record.specs.declared.entry.Answer.{Answer}
use Rattle.pa_record.specs.declared.entry.Seen.{Seen}
use Rattle.pa_record.specs.declared.entry.Answer.TheVariants as answers
use Rattle.pa_rules.specs.Registers.{Regs, Facts, FreeRow, WriteRow, ReadRow, ReadFromRow}
use Rattle.pa_rules.specs.Nexts.{looked_free, looked_write}
use Rattle.pa_rules.proofs.Nexts.{by_held}
use Rattle.pa_heap_effects.specs.Ops.{KeepsLists}
use Rattle.pa_slot_effects.specs.Known.{facts_shown}
use Rattle.pa_slot_effects.specs.Turns.{Looks}
use Rattle.pa_rules.specs.declared.register.Register.{Register}
use Rattle.pa_rules.specs.declared.register.Register.TheVariants.{Empty, Own, Ref, Freed, Cleared}
use Rattle.pa_player.specs.declared.table.Slot.{Slot}
use Rattle.pa_player.specs.Player.{Player}
use Rattle.pa_player.specs.Tables.{slot_at, named_at, Points}
use Rattle.pa_player.specs.Playing.{shown, reg_of, register_at, IsPlaying}
use Rattle.pa_player.specs.Changes.{seen_at, Reads}
use Rattle.pa_player.specs.Plays.{Plays}
use Rattle.pa_player.proofs.Bounds.{IsLength, length_of}
use Rattle.pa_player.proofs.Showing.{at_name, handle_points, points_in}
use Rattle.pa_player.proofs.Quiet.{none_plays_by, look_plays, look_plays_by}

-- ---- through a raw_ptr

not_held : (w : ℕ) → (held_of w ≡ 1 → ⊥) → held_of w ≡ 0
not_held w other = elim (cases_eq (held_of w) 0) [
  | inl e ↦ e
  | inr some ↦ absurd (other (omega (arith, some)))
]

-- what a look at the slot in a place shows
pub was_seen : (slots : List Slot) (i : ℕ) (s : Seen) → s.slot ≡ named_at slots i → s.found ≡ (slot_at slots i).word → s ≡ seen_at slots i
was_seen slots i s slot found =
    ap (λ (n : SlotName). record { slot = n; found = s.found }) slot ∙
    ap (λ (w : Word). record { slot = named_at slots i; found = w }) found

pub free_looked : (p : Player) (thread reg i : ℕ) (answer : Answer) → register_at p thread reg ≡ Ref i →
    answer ≡ looked_free (seen_at p.table i)
    → Plays p thread (ops.Free reg) p answer
free_looked p thread reg i answer is says =
    let seen = seen_at p.table i in
    let points = handle_points (register_at p thread reg) i (inr is) in
    elim (by_held seen.found.0 (answers.NotOwner seen) (answers.SecondFree (Some seen))) [
      | inl h ↦
          subst (λ a. Plays p thread (ops.Free reg) p a) (sym (says ∙ h.1))
          (look_plays p thread reg i (ops.Free reg) (answers.NotOwner seen) (λ n w. w) points refl tt (λ cell r e. cc)
          (subst (λ z. FreeRow (reg_of p.table z) ((shown p).regs thread) reg (answers.NotOwner seen) ((shown p).regs thread)) (sym is)
          (seen, refl, λ k. refl, inl (h.0, refl))))
      | inr h ↦
          subst (λ a. Plays p thread (ops.Free reg) p a) (sym (says ∙ h.1))
          (look_plays p thread reg i (ops.Free reg) (answers.SecondFree (Some seen)) (λ n w. w) points refl tt (λ cell r e. cc)
          (subst (λ z. FreeRow (reg_of p.table z) ((shown p).regs thread) reg (answers.SecondFree (Some seen)) ((shown p).regs thread))
          (sym is)
          (seen, refl, λ k. refl, inr (h.0, refl))))
    ]

pub write_looked : (p : Player) (thread reg value i : ℕ) (answer : Answer) → register_at p thread reg ≡ Ref i
    → answer ≡ looked_write (seen_at p.table i) → Plays p thread (ops.Write reg value) p answer
write_looked p thread reg value i answer is says =
    let seen = seen_at p.table i in
    let points = handle_points (register_at p thread reg) i (inr is) in
    elim (by_held seen.found.0 (answers.NotOwner seen) (answers.StaleUse (Some seen))) [
      | inl h ↦
          subst (λ a. Plays p thread (ops.Write reg value) p a) (sym (says ∙ h.1))
          (look_plays p thread reg i (ops.Write reg value) (answers.NotOwner seen) (λ n w. w) points refl tt (λ cell r e. cc)
          (subst (λ z. WriteRow (reg_of p.table z) ((shown p).regs thread) (answers.NotOwner seen) ((shown p).regs thread)) (sym is)
          (seen, refl, λ k. refl, inl (h.0, refl))))
      | inr h ↦
          subst (λ a. Plays p thread (ops.Write reg value) p a) (sym (says ∙ h.1))
          (look_plays p thread reg i (ops.Write reg value) (answers.StaleUse (Some seen)) (λ n w. w) points refl tt (λ cell r e. cc)
          (subst (λ z. WriteRow (reg_of p.table z) ((shown p).regs thread) (answers.StaleUse (Some seen)) ((shown p).regs thread)) (sym is)
          (seen, refl, λ k. refl, inr (h.0, refl))))
    ]

-- a write by the owner, if raw_ptrs point to the slot
pub write_shared : (p : Player) (thread reg value i : ℕ) → register_at p thread reg ≡ Own i → 0 < refs_of (slot_at p.table i).word.0
    → Plays p thread (ops.Write reg value) p (answers.Shared (seen_at p.table i))
write_shared p thread reg value i is some =
    let seen = seen_at p.table i in
    look_plays p thread reg i (ops.Write reg value) (answers.Shared seen) (λ n w. w)
    (handle_points (register_at p thread reg) i (inl is)) refl tt (λ cell r e. cc)
    (subst (λ z. WriteRow (reg_of p.table z) ((shown p).regs thread) (answers.Shared seen) ((shown p).regs thread)) (sym is)
    (seen, refl, λ k. refl, inl (some, refl)))

-- ---- reads

read_row : (slots : List Slot) (facts : Facts) (x : Register ℕ) (i : ℕ) (regs : Regs) (place : ℕ) (answer : Answer) → Points x i →
    ReadFromRow (named_at slots i) facts regs place answer regs
    → ReadRow (reg_of slots x) facts regs place answer regs
read_row slots facts Empty i regs place answer points row = absurd points
read_row slots facts (Own j) i regs place answer points row =
    subst (λ k. ReadFromRow (named_at slots k) facts regs place answer regs) (sym points) row
read_row slots facts (Ref j) i regs place answer points row =
    subst (λ k. ReadFromRow (named_at slots k) facts regs place answer regs) (sym points) row
read_row slots facts Freed i regs place answer points row = absurd points
read_row slots facts Cleared i regs place answer points row = absurd points

-- a word is inside the usable bytes where its number is below the number of words
inside_words : (len place : ℕ) → IsLength len → place < (len - 8) / 8 → 8 * place < len - 8
inside_words len place long low = omega (arith, long.whole, long.least, low)

past_words : (len place : ℕ) → IsLength len → (len - 8) / 8 ≤ place → len - 8 ≤ 8 * place
past_words len place long past = omega (arith, long.whole, long.least, past)

-- what the slot in a place has, by its name
usable_is : (region partitions threads : ℕ) (ls : List Line) (p : Player) (thread reg i : ℕ) → IsPlaying region partitions threads ls p →
    Points (register_at p thread reg) i
    → (i < length p.table) × ((shown p).usable (named_at p.table i) ≡ (slot_at p.table i).title.len - 8)
usable_is region partitions threads ls p thread reg i h points =
    let low = points_in (length p.table) (register_at p thread reg) i points (h.shaped.held thread reg) in
    (low, at_name (λ z. z.title.len - 8) p.table i h.slots.apart low)

read_past : (p : Player) (thread reg place i : ℕ) → Points (register_at p thread reg) i → ((slot_at p.table i).title.len - 8) / 8 ≤ place →
    Plays p thread (ops.Read reg place) p answers.OutOfRange
read_past p thread reg place i points past =
    none_plays_by p thread (ops.Read reg place) answers.OutOfRange tt tt (λ cell r e. cc) (λ region partitions threads ls h.
    let (low, usable) = usable_is region partitions threads ls p thread reg i h points in
    let beyond = past_words (slot_at p.table i).title.len place (length_of region partitions threads ls p h i low) past in
    read_row p.table (facts_shown (shown p)) (register_at p thread reg) i
    ((shown p).regs thread) place answers.OutOfRange points
    ((λ k. refl), inl (omega (arith, usable, beyond), refl)))

read_in : (p : Player) (thread reg place i value : ℕ) (answer : Answer) → Points (register_at p thread reg) i →
    place < ((slot_at p.table i).title.len - 8) / 8
    → ((region partitions threads : ℕ) (ls : List Line) → IsPlaying region partitions threads ls p → i < length p.table
    → Looks (shown p) (seen_at p.table i) answer
    × (((held_of (slot_at p.table i).word.0 ≡ 1) × (answer ≡ answers.Value (seen_at p.table i) value))
    ⊎ ((held_of (slot_at p.table i).word.0 ≡ 0) × (answer ≡ answers.Dangling (seen_at p.table i) value))))
    → KeepsLists (ops.Read reg place) answer → Plays p thread (ops.Read reg place) p answer
read_in p thread reg place i value answer points low says keeps =
    look_plays_by p thread reg i (ops.Read reg place) answer (λ n w. w.0) points keeps (λ cell r e. cc) (λ region partitions threads ls h.
    let (among, usable) = usable_is region partitions threads ls p thread reg i h points in
    let inside = inside_words (slot_at p.table i).title.len place (length_of region partitions threads ls p h i among) low in
    let (looks, which) = says region partitions threads ls h among in (
      looks,
      read_row p.table (facts_shown (shown p)) (register_at p thread reg) i
          ((shown p).regs thread) place answer points
          ((λ k. refl), inr (omega (arith, usable, inside), seen_at p.table i, value, refl, which)),
    ))

pub read_plays : (p : Player) (thread reg place i : ℕ) (answer : Answer) → Points (register_at p thread reg) i → Reads i place p answer →
    Plays p thread (ops.Read reg place) p answer
read_plays p thread reg place i answer points (inl (past, says)) =
    subst (λ a. Plays p thread (ops.Read reg place) p a) (sym says) (read_past p thread reg place i points past)
read_plays p thread reg place i answer points (inr (inl (low, owned, says))) =
    let seen = seen_at p.table i in
    subst (λ a. Plays p thread (ops.Read reg place) p a) (sym says)
    (read_in p thread reg place i (slot_at p.table i).content (answers.Value seen (slot_at p.table i).content) points low
    (λ region partitions threads ls h among. (
      (refl, owned, sym (at_name (λ z. z.content) p.table i h.slots.apart among)),
      inl (owned, refl),
    )) tt)
read_plays p thread reg place i answer points (inr (inr (low, free, says))) =
    let seen = seen_at p.table i in
    subst (λ a. Plays p thread (ops.Read reg place) p a) (sym says)
    (read_in p thread reg place i poison (answers.Dangling seen poison) points low
    (λ region partitions threads ls h among. ((refl, refl), inr (not_held seen.found.0 free, refl))) tt)
