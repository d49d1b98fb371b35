-- A free and a reset that return a slot.
use Rattle.std.proofs.Common.{◌≡◌, ℕ, ◌+◌, ◌≤◌, List, length, set, Option, Some, None, refl, sym, ap, ◌∙◌, subst, arith, length-set}
use Rattle.pa_slot.specs.declared.word.Step.TheVariants as steps
use Rattle.pa_slot.specs.Count.{refs_of, stepped, CanStep}
use Rattle.pa_slot.specs.Run.{IsReturning}
use Rattle.pa_slot.proofs.Runs.{number_stepped}
use Rattle.pa_trace.specs.declared.script.Op.TheVariants as ops
use Rattle.pa_trace.specs.declared.script.Line.{Line}
use Rattle.pa_trace.specs.declared.script.Line.TheVariants.{Do}
use Rattle.pa_record.specs.declared.entry.Answer.TheVariants.{Done}
use Rattle.pa_rules.specs.Played.{mark_at}
use Rattle.pa_slot.specs.Kinds.{issues, frees, enters, leaves}
use Rattle.pa_legal.proofs.Words.{leaves_free}
use Rattle.pa_slot_effects.specs.Turns.{after_free, after_reset}
use Rattle.pa_slot_effects.proofs.Ops.{free_goes_on, reset_goes_on}
use Rattle.pa_rules.specs.declared.register.Register.TheVariants.{Own, Ref, Freed, Cleared}
use Rattle.pa_player.specs.declared.table.Slot.{Slot}
use Rattle.pa_player.specs.Player.{Player}
use Rattle.pa_player.specs.Tables.{slot_at, named_at, Points}
use Rattle.pa_player.specs.Tallies.{tally_at}
use Rattle.pa_player.specs.Playing.{shown, reg_of, register_at}
use Rattle.pa_player.specs.Changes.{stepped_at, registered, seen_at, freed_at, reset_last, returned_at, taken_back, tallied_less}
use Rattle.pa_player.specs.Plays.{CanGoOn, Plays}
use Rattle.pa_player.proofs.Slots.{keeps_set}
use Rattle.pa_player.proofs.Shaping.{shaped_table, shaped_registered, shaped_live, shaped_quarantined}
use Rattle.pa_player.proofs.Showing.{content_stays}
use Rattle.pa_player.proofs.Counting.{tally_less}
use Rattle.pa_player.proofs.Quiet.{can_play, tally_still}
use Rattle.pa_player.proofs.Weighing.{tally_out, reset_leaves, free_enters_not}
use Rattle.pa_player.proofs.Stepping.{in_table, word_is, lets, shows_step}
use Rattle.pa_player.proofs.Copies.{word_as, word_same}
use Rattle.pa_player.proofs.Frees.{home_at}
use Rattle.pa_player.proofs.Shows.{IsPlayed}
use Rattle.pa_player.proofs.More.{playing_more}
use Rattle.pa_player.proofs.Returning.{IsReturn}
use Rattle.pa_player.proofs.Spilling.{back_played}
use Rattle.pa_player.proofs.Unmaps.{unmapped_played}

-- ---- a free by the owner, if no raw_ptr points to the slot

module _ (p : Player) (thread reg i : ℕ) (own : register_at p thread reg ≡ Own i)
    (some : 1 ≤ (tally_at p.live.of (slot_at p.table i).partition).slots)
    (many : (slot_at p.table i).title.len ≤ (tally_at p.live.of (slot_at p.table i).partition).bytes)
    (none : refs_of (slot_at p.table i).word.0 ≡ 0) where
  pub points_own : Points (register_at p thread reg) i
  points_own = subst (λ z. Points z i) (sym own) refl

  abbrev pub freed : Slot
  freed = word_as (stepped steps.Free (slot_at p.table i).word.0) (slot_at p.table i)

  pub free_returns : (region partitions threads : ℕ) (ls : List Line)
      (can : CanGoOn region partitions threads ls (Do thread (ops.Free reg)) p)
      → IsReturn region partitions threads ls p can.playing thread (ops.Free reg) i freed (registered thread reg Freed p).registers
      (record { of = tallied_less (slot_at p.table i).partition 1 (slot_at p.table i).title.len p.live.of }) p.quarantined
  free_returns region partitions threads ls can =
      let h = can.playing in
      let low = in_table region partitions threads ls p thread (ops.Free reg) can reg i can.within.1 points_own in
      let is = word_is region partitions threads ls p thread (ops.Free reg) can reg i can.within.1 points_own in
      let let_step = lets region partitions threads ls p thread (ops.Free reg) can reg i can.within.1 points_own in
      let step : CanStep steps.Free (slot_at p.table i).word.0 =
      subst (λ w. CanStep steps.Free w) is (let_step.frees (named_at p.table i) (ap (reg_of p.table) own)) in
      let seen = seen_at p.table i in
      let x = slot_at p.table i in
      let same = word_same (stepped steps.Free x.word.0) x in
      let keeps = keeps_set p.table i freed low same in
      let live = tallied_less x.partition 1 x.title.len p.live.of in
      let shows = shows_step region partitions threads ls p i thread reg Freed freed
      (record { of = live }) p.quarantined h low can.within.0 can.within.1 tt same in
      let home = home_at p.table i freed h.slots.apart low same in
      let among = h.slots.among i low in
      let registered_shape = shaped_registered partitions threads (record p { table = set p.table i freed })
      (shaped_table partitions threads p h.shaped (set p.table i freed) keeps) thread reg Freed tt in
      let returning : IsReturning steps.Free x.word.0 = (step.0, none) in
      let idle = leaves_free steps.Free x.word.0 step returning in
      record {
        step = steps.Free;
        after = after_free (shown p) thread reg seen;
        same = same;
        number = number_stepped steps.Free x.word.0 step;
        idle = let a = idle.0 in let b = idle.1 in omega arith;
        makes = refl;
        returning = returning;
        told = refl;
        turn = free_goes_on threads ls h.ps (shown p) thread reg seen
            (can_play region partitions threads ls thread (ops.Free reg) p can) can.within.1 (ap (reg_of p.table) own) (sym is);
        like = record {
          rules = refl;
          regs = shows.regs;
          held = shows.held;
          cells = λ k. refl;
          word = shows.word;
          content = λ s is_held. content_stays p.table i freed s h.slots.apart low same refl;
          usable = λ s stepped_on. shows.usable s;
          plain = λ s stepped_on. shows.plain s;
        };
        shaped = shaped_live partitions threads (registered thread reg Freed (stepped_at steps.Free i p)) registered_shape live
            (length-set p.live.of x.partition _ ∙ h.shaped.live);
        live = λ k inside.
            tally_out issues frees (set p.table i freed) k x.partition x.title.len seen.slot
            (Some (mark_at (length ls + 2) seen (Some steps.Free))) (tally_at p.live.of k) (tally_at live k) home.0 home.1
            (λ w. refl) (λ w. refl) (tally_less x.partition 1 x.title.len k p.live.of
            (omega (arith, among, h.shaped.four, h.shaped.live)) some many);
        quarantined = λ k inside.
            tally_still enters leaves (set p.table i freed) k (Some (mark_at (length ls + 2) seen (Some steps.Free)))
            (tally_at p.quarantined.of k) (free_enters_not (length ls + 2) seen none) (λ w. refl);
      }

  pub free_return_plays : Plays p thread (ops.Free reg) (returned_at thread i p (freed_at thread reg i p)) (Done (seen_at p.table i))
  free_return_plays region partitions threads ls can =
      playing_more region partitions threads ls p (returned_at thread i p (freed_at thread reg i p)) can.playing thread (ops.Free reg)
      (Done (seen_at p.table i)) can.short
      (by_class (slot_at p.table i).class refl)
    where
      by_class : (c : Option ℕ) → (slot_at p.table i).class ≡ c
          → IsPlayed region partitions threads ls p
          (taken_back thread (slot_at p.table i).partition c i (freed_at thread reg i p)) can.playing thread (ops.Free reg)
          (Done (seen_at p.table i))
      by_class (Some class) is =
          back_played region partitions threads ls p thread (ops.Free reg) can reg i can.within.1 points_own freed
          (registered thread reg Freed p).registers
          (record { of = tallied_less (slot_at p.table i).partition 1 (slot_at p.table i).title.len p.live.of }) p.quarantined
          (free_returns region partitions threads ls can) class is
      by_class None is =
          unmapped_played region partitions threads ls p thread (ops.Free reg) can reg i can.within.1 points_own freed
          (registered thread reg Freed p).registers
          (record { of = tallied_less (slot_at p.table i).partition 1 (slot_at p.table i).title.len p.live.of }) p.quarantined
          (free_returns region partitions threads ls can) is

-- ---- the last reset of a slot that was freed

module _ (p : Player) (thread reg i : ℕ) (ref : register_at p thread reg ≡ Ref i)
    (some : 1 ≤ (tally_at p.quarantined.of (slot_at p.table i).partition).slots)
    (many : (slot_at p.table i).title.len ≤ (tally_at p.quarantined.of (slot_at p.table i).partition).bytes)
    (last : IsReturning steps.Reset (slot_at p.table i).word.0) where
  pub points_ref : Points (register_at p thread reg) i
  points_ref = subst (λ z. Points z i) (sym ref) refl

  abbrev pub left : Slot
  left = word_as (stepped steps.Reset (slot_at p.table i).word.0) (slot_at p.table i)

  pub reset_returns : (region partitions threads : ℕ) (ls : List Line)
      (can : CanGoOn region partitions threads ls (Do thread (ops.Reset reg)) p)
      → IsReturn region partitions threads ls p can.playing thread (ops.Reset reg) i left (registered thread reg Cleared p).registers p.live
      (record { of = tallied_less (slot_at p.table i).partition 1 (slot_at p.table i).title.len p.quarantined.of })
  reset_returns region partitions threads ls can =
      let h = can.playing in
      let low = in_table region partitions threads ls p thread (ops.Reset reg) can reg i can.within.1 points_ref in
      let is = word_is region partitions threads ls p thread (ops.Reset reg) can reg i can.within.1 points_ref in
      let let_step = lets region partitions threads ls p thread (ops.Reset reg) can reg i can.within.1 points_ref in
      let step : CanStep steps.Reset (slot_at p.table i).word.0 =
      subst (λ w. CanStep steps.Reset w) is (let_step.resets (named_at p.table i) (ap (reg_of p.table) ref)) in
      let seen = seen_at p.table i in
      let x = slot_at p.table i in
      let same = word_same (stepped steps.Reset x.word.0) x in
      let keeps = keeps_set p.table i left low same in
      let away = tallied_less x.partition 1 x.title.len p.quarantined.of in
      let shows = shows_step region partitions threads ls p i thread reg Cleared left p.live
      (record { of = away }) h low can.within.0 can.within.1 tt same in
      let home = home_at p.table i left h.slots.apart low same in
      let among = h.slots.among i low in
      let registered_shape = shaped_registered partitions threads (record p { table = set p.table i left })
      (shaped_table partitions threads p h.shaped (set p.table i left) keeps) thread reg Cleared tt in
      let idle = leaves_free steps.Reset x.word.0 step last in
      record {
        step = steps.Reset;
        after = after_reset (shown p) thread reg seen;
        same = same;
        number = number_stepped steps.Reset x.word.0 step;
        idle = let a = idle.0 in let b = idle.1 in omega arith;
        makes = refl;
        returning = last;
        told = refl;
        turn = reset_goes_on threads ls h.ps (shown p) thread reg seen
            (can_play region partitions threads ls thread (ops.Reset reg) p can) can.within.1 (ap (reg_of p.table) ref) (sym is);
        like = record {
          rules = refl;
          regs = shows.regs;
          held = shows.held;
          cells = λ k. refl;
          word = shows.word;
          content = λ s is_held. content_stays p.table i left s h.slots.apart low same refl;
          usable = λ s stepped_on. shows.usable s;
          plain = λ s stepped_on. shows.plain s;
        };
        shaped = shaped_quarantined partitions threads (registered thread reg Cleared (stepped_at steps.Reset i p)) registered_shape away
            (length-set p.quarantined.of x.partition _ ∙ h.shaped.quarantined);
        live = λ k inside.
            tally_still issues frees (set p.table i left) k (Some (mark_at (length ls + 2) seen (Some steps.Reset))) (tally_at p.live.of k)
            (λ w. refl) (λ w. refl);
        quarantined = λ k inside.
            tally_out enters leaves (set p.table i left) k x.partition x.title.len seen.slot
            (Some (mark_at (length ls + 2) seen (Some steps.Reset))) (tally_at p.quarantined.of k) (tally_at away k) home.0 home.1
            (λ w. refl) (reset_leaves (length ls + 2) seen last)
            (tally_less x.partition 1 x.title.len k p.quarantined.of
            (omega (arith, among, h.shaped.four, h.shaped.quarantined)) some many);
      }

  pub reset_return_plays : Plays p thread (ops.Reset reg) (returned_at thread i p (reset_last thread reg i p)) (Done (seen_at p.table i))
  reset_return_plays region partitions threads ls can =
      playing_more region partitions threads ls p (returned_at thread i p (reset_last thread reg i p)) can.playing thread (ops.Reset reg)
      (Done (seen_at p.table i)) can.short
      (by_class (slot_at p.table i).class refl)
    where
      by_class : (c : Option ℕ) → (slot_at p.table i).class ≡ c
          → IsPlayed region partitions threads ls p
          (taken_back thread (slot_at p.table i).partition c i (reset_last thread reg i p)) can.playing thread (ops.Reset reg)
          (Done (seen_at p.table i))
      by_class (Some class) is =
          back_played region partitions threads ls p thread (ops.Reset reg) can reg i can.within.1 points_ref left
          (registered thread reg Cleared p).registers p.live
          (record { of = tallied_less (slot_at p.table i).partition 1 (slot_at p.table i).title.len p.quarantined.of })
          (reset_returns region partitions threads ls can) class is
      by_class None is =
          unmapped_played region partitions threads ls p thread (ops.Reset reg) can reg i can.within.1 points_ref left
          (registered thread reg Cleared p).registers p.live
          (record { of = tallied_less (slot_at p.table i).partition 1 (slot_at p.table i).title.len p.quarantined.of })
          (reset_returns region partitions threads ls can) is
