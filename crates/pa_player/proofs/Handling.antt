-- What the handles of registers let the ops of their thread do.
use Rattle.std.proofs.Common.{◌≡◌, ℕ, ◌+◌, ◌<◌, List, length, refl, sym, ap, ◌∙◌, subst, arith}
use Rattle.pa_slot.specs.declared.word.Step.TheVariants as steps
use Rattle.pa_slot.specs.Count.{CanStep, held_of, refs_of}
use Rattle.pa_trace.specs.declared.script.Op.{Op}
use Rattle.pa_trace.specs.declared.script.Line.{Line}
use Rattle.pa_trace.specs.declared.script.Line.TheVariants.{Do}
use Rattle.pa_slot_effects.specs.Turns.{CanPlay}
use Rattle.pa_slot_effects.specs.Laws.{LetsStep}
use Rattle.pa_slot_effects.proofs.Words.{handle_lets}
use Rattle.pa_rules.specs.declared.register.Register.TheVariants.{Own, Ref}
use Rattle.pa_player.specs.declared.table.Slot.{Slot}
use Rattle.pa_player.specs.Player.{Player}
use Rattle.pa_player.specs.Tables.{slot_at, named_at, Points}
use Rattle.pa_player.specs.Playing.{shown, register_at, reg_of, word_in}
use Rattle.pa_player.specs.Plays.{CanGoOn}
use Rattle.pa_player.proofs.Slots.{slot_here}
use Rattle.pa_player.proofs.Showing.{points_in, points_names}

module _ (region partitions threads : ℕ) (ls : List Line) (p : Player) (thread : ℕ) (op : Op)
    (can : CanGoOn region partitions threads ls (Do thread op) p) where
  pub can_play : CanPlay threads ls can.playing.ps (shown p) thread
  can_play = record { told = can.playing.told; among = can.within.0; few = can.head.2.1; short = omega (arith, can.short) }

  pub lets : (reg : ℕ) → reg < 64 → LetsStep (shown p) thread reg
  lets reg low = handle_lets threads ls can.playing.ps (shown p) thread reg can_play low

  pub place_of : (reg i : ℕ) → Points (register_at p thread reg) i → i < length p.table
  place_of reg i points = points_in (length p.table) (register_at p thread reg) i points (can.playing.shaped.held thread reg)

  -- the word of a slot by its name is that of its place
  pub word_here : (i : ℕ) → i < length p.table → word_in p.table (named_at p.table i) ≡ (slot_at p.table i).word.0
  word_here i low = ap (λ (x : Slot). x.word.0) (slot_here p.table (named_at p.table i) i can.playing.slots.apart (low, refl))

  pub used_by : (reg i : ℕ) → reg < 64 → Points (register_at p thread reg) i →
      0 < held_of (slot_at p.table i).word.0 + refs_of (slot_at p.table i).word.0
  used_by reg i low points =
      let U : ℕ → Type 0 = λ w. 0 < held_of w + refs_of w in
      subst U (word_here i (place_of reg i points))
      ((lets reg low).in_use (named_at p.table i) (points_names p.table (register_at p thread reg) i points))

  pub copies : (reg i : ℕ) → reg < 64 → Points (register_at p thread reg) i → CanStep steps.Copy (slot_at p.table i).word.0
  copies reg i low points =
      subst (CanStep steps.Copy) (word_here i (place_of reg i points))
      ((lets reg low).copies (named_at p.table i) (points_names p.table (register_at p thread reg) i points))

  owned : (reg i : ℕ) → register_at p thread reg ≡ Own i → i < length p.table
  owned reg i e = place_of reg i (subst (λ x. Points x i) (sym e) refl)

  pub resets : (reg i : ℕ) → reg < 64 → register_at p thread reg ≡ Ref i → CanStep steps.Reset (slot_at p.table i).word.0
  resets reg i low e =
      subst (CanStep steps.Reset) (word_here i (place_of reg i (subst (λ x. Points x i) (sym e) refl)))
      ((lets reg low).resets (named_at p.table i) (ap (reg_of p.table) e))

  pub frees : (reg i : ℕ) → reg < 64 → register_at p thread reg ≡ Own i → CanStep steps.Free (slot_at p.table i).word.0
  frees reg i low e = subst (CanStep steps.Free) (word_here i (owned reg i e))
      ((lets reg low).frees (named_at p.table i) (ap (reg_of p.table) e))

  pub writes : (reg i : ℕ) → reg < 64 → register_at p thread reg ≡ Own i → refs_of (slot_at p.table i).word.0 ≡ 0 →
      CanStep steps.Write (slot_at p.table i).word.0
  writes reg i low e none =
      let same = word_here i (owned reg i e) in
      subst (CanStep steps.Write) same ((lets reg low).writes (named_at p.table i) (ap (reg_of p.table) e) (ap refs_of same ∙ none))

  pub issues : (i : ℕ) → i < length p.table → held_of (slot_at p.table i).word.0 ≡ 0 → refs_of (slot_at p.table i).word.0 ≡ 0 →
      CanStep steps.Issue (slot_at p.table i).word.0
  issues i low held refs =
      let same = word_here i low in
      subst (CanStep steps.Issue) same
      ((lets 0 (omega arith)).issues (named_at p.table i) (ap held_of same ∙ held) (ap refs_of same ∙ refs))
