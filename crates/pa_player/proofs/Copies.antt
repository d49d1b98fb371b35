-- A copy, a reset that returns nothing, a free into quarantine, and a write.
use Rattle.std.proofs.Common.{◌≡◌, ℕ, false, ◌&&◌, List, ◌+◌, length, set, Some, refl, sym, ap, ◌∙◌, subst, arith, length-set}
use Rattle.pa_slot.specs.declared.word.Step.{Step}
use Rattle.pa_slot.specs.declared.word.Step.TheVariants as steps
use Rattle.pa_slot.specs.Count.{stepped}
use Rattle.pa_slot.specs.Run.{IsReturning}
use Rattle.pa_trace.specs.declared.script.Op.{Op}
use Rattle.pa_trace.specs.declared.script.Op.TheVariants as ops
use Rattle.pa_record.specs.declared.entry.Answer.TheVariants as answers
use Rattle.pa_record.specs.declared.entry.Seen.{Seen}
use Rattle.pa_rules.specs.Played.{step_of, mark_at}
use Rattle.pa_heap_effects.specs.Ops.{KeepsLists}
use Rattle.pa_slot_effects.specs.Turns.{after_copy, after_reset}
use Rattle.pa_slot_effects.proofs.Ops.{copy_goes_on, reset_goes_on}
use Rattle.pa_rules.specs.Nexts.{is_owner}
use Rattle.pa_rules.specs.declared.register.Register.{Register}
use Rattle.pa_rules.specs.declared.register.Register.TheVariants.{Empty, Own, Ref, Freed, Cleared}
use Rattle.pa_player.specs.declared.table.Slot.{Slot}
use Rattle.pa_player.specs.Player.{Player}
use Rattle.pa_player.specs.Tables.{slot_at, named_at, Points, HasNone}
use Rattle.pa_player.specs.Playing.{shown, reg_of, register_at}
use Rattle.pa_player.specs.Changes.{stepped_at, registered, seen_at, reset_at, is_uncounted}
use Rattle.pa_player.specs.Plays.{Plays}
use Rattle.pa_player.proofs.Slots.{IsSame, keeps_set}
use Rattle.pa_player.proofs.Shaping.{shaped_table, shaped_registered}
use Rattle.pa_player.proofs.Showing.{points_names, none_holds, content_stays}
use Rattle.pa_player.proofs.Quiet.{quiet_plays, can_play, counts_still}
use Rattle.pa_player.proofs.Weighing.{copy_adds, reset_adds}
use Rattle.pa_player.proofs.Answers.{plain_at_name}
use Rattle.pa_player.proofs.Stepping.{in_table, word_is, step_quiet, lists_kept, shows_step}
use Rattle.pa_slot.proofs.Runs.{some_same}

-- a slot with another word
abbrev pub word_as : ℕ → Slot → Slot
word_as w x = record x { word = record { 0 = w } }

pub word_same : (w : ℕ) (x : Slot) → IsSame x (word_as w x)
word_same w x = record { title = refl; partition = refl; class = refl }

pub keeps_lists : (op : Op) (seen : Seen) (step : Step) → step_of op ≡ Some step → (IsReturning step seen.found.0 → ⊥) →
    KeepsLists op (answers.Done seen)
keeps_lists op seen step is stays other e returns =
    stays (subst (λ z. IsReturning z seen.found.0) (some_same other step (sym e ∙ is)) returns)

-- ---- a copy

owner_named : (slots : List Slot) (x : Register ℕ) → is_owner (reg_of slots x) ≡ is_owner x
owner_named slots Empty = refl
owner_named slots (Own place) = refl
owner_named slots (Ref place) = refl
owner_named slots Freed = refl
owner_named slots Cleared = refl

module _ (p : Player) (thread from to i : ℕ) (points : Points (register_at p thread from) i)
    (none : HasNone (register_at p thread to))
    (counted : is_uncounted (is_owner (register_at p thread from)) i p ≡ false) where
  pub copied : Plays p thread (ops.Copy from to) (registered thread to (Ref i) (stepped_at steps.Copy i p))
      (answers.Done (seen_at p.table i))
  copied = quiet_plays p thread (ops.Copy from to) (registered thread to (Ref i) (stepped_at steps.Copy i p))
      (answers.Done (seen_at p.table i)) (λ region partitions threads ls can.
      let h = can.playing in
      let low = in_table region partitions threads ls p thread (ops.Copy from to) can from i can.within.1.0 points in
      let is = word_is region partitions threads ls p thread (ops.Copy from to) can from i can.within.1.0 points in
      let seen = seen_at p.table i in
      let x = slot_at p.table i in
      let y = word_as (stepped steps.Copy x.word.0) x in
      let same = word_same (stepped steps.Copy x.word.0) x in
      let keeps = keeps_set p.table i y low same in
      let shows = shows_step region partitions threads ls p i thread to
      (Ref i) y p.live p.quarantined h low can.within.0 can.within.1.1 low same in
      step_quiet region partitions threads ls p thread (ops.Copy from to) can from i can.within.1.0 points (answers.Done seen) y
      (registered thread to (Ref i) p).registers p.live p.quarantined
      (after_copy (shown p) thread to seen) (Some steps.Copy) same (keeps_lists (ops.Copy from to) seen steps.Copy refl (λ bad. bad)) refl
      (copy_goes_on threads ls h.ps (shown p) thread from to seen
      (can_play region partitions threads ls thread (ops.Copy from to) p can) can.within.1.0 can.within.1.1
      (points_names p.table (register_at p thread from) i points) (none_holds p.table (register_at p thread to) none) (sym is)
      (ap (λ b. b && (shown p).plain (named_at p.table i)) (owner_named p.table (register_at p thread from))
      ∙ plain_at_name region partitions threads ls p thread from i h points ∙ counted))
      (record {
        rules = refl;
        regs = shows.regs;
        held = shows.held;
        cells = λ k. refl;
        word = shows.word;
        content = λ s is_held. content_stays p.table i y s h.slots.apart low same refl;
        usable = λ s some. shows.usable s;
        plain = λ s some. shows.plain s;
      })
      (shaped_registered partitions threads (record p { table = set p.table i y })
      (shaped_table partitions threads p h.shaped (set p.table i y) keeps) thread to (Ref i)
      (omega (arith, low, length-set p.table i y)))
      (counts_still region partitions threads ls p (registered thread to (Ref i) (stepped_at steps.Copy i p))
      (Some (mark_at (length ls + 2) seen (Some steps.Copy))) h (copy_adds (length ls + 2) seen) refl refl refl
      (λ t k class. lists_kept region partitions threads ls p thread (ops.Copy from to) can from i can.within.1.0 points y t k class)))

-- ---- a reset that returns nothing

module _ (p : Player) (thread reg i : ℕ) (ref : register_at p thread reg ≡ Ref i)
    (stays : IsReturning steps.Reset (slot_at p.table i).word.0 → ⊥) where
  points_ref : Points (register_at p thread reg) i
  points_ref = subst (λ z. Points z i) (sym ref) refl

  pub was_reset : Plays p thread (ops.Reset reg) (reset_at thread reg i p) (answers.Done (seen_at p.table i))
  was_reset = quiet_plays p thread (ops.Reset reg) (reset_at thread reg i p) (answers.Done (seen_at p.table i))
      (λ region partitions threads ls can.
      let h = can.playing in
      let low = in_table region partitions threads ls p thread (ops.Reset reg) can reg i can.within.1 points_ref in
      let is = word_is region partitions threads ls p thread (ops.Reset reg) can reg i can.within.1 points_ref in
      let seen = seen_at p.table i in
      let x = slot_at p.table i in
      let y = word_as (stepped steps.Reset x.word.0) x in
      let same = word_same (stepped steps.Reset x.word.0) x in
      let keeps = keeps_set p.table i y low same in
      let shows = shows_step region partitions threads ls p i thread reg Cleared y p.live p.quarantined h low can.within.0 can.within.1 tt
      same in
      step_quiet region partitions threads ls p thread (ops.Reset reg) can reg i can.within.1 points_ref (answers.Done seen) y
      (registered thread reg Cleared p).registers p.live p.quarantined
      (after_reset (shown p) thread reg seen) (Some steps.Reset) same (keeps_lists (ops.Reset reg) seen steps.Reset refl stays) refl
      (reset_goes_on threads ls h.ps (shown p) thread reg seen
      (can_play region partitions threads ls thread (ops.Reset reg) p can) can.within.1 (ap (reg_of p.table) ref) (sym is))
      (record {
        rules = refl;
        regs = shows.regs;
        held = shows.held;
        cells = λ k. refl;
        word = shows.word;
        content = λ s is_held. content_stays p.table i y s h.slots.apart low same refl;
        usable = λ s some. shows.usable s;
        plain = λ s some. shows.plain s;
      })
      (shaped_registered partitions threads (record p { table = set p.table i y })
      (shaped_table partitions threads p h.shaped (set p.table i y) keeps) thread reg Cleared tt)
      (counts_still region partitions threads ls p (reset_at thread reg i p) (Some (mark_at (length ls + 2) seen (Some steps.Reset))) h
      (reset_adds (length ls + 2) seen stays) refl refl refl
      (λ t k class. lists_kept region partitions threads ls p thread (ops.Reset reg) can reg i can.within.1 points_ref y t k class)))
