-- What each op of the code requires of the player: all follows if the line can be played.
use Rattle.std.proofs.Common.{◌≡◌, ℕ, ◌+◌, ◌<◌, max, List, length, set, refl, sym, subst, arith}
use Rattle.pa_slot.specs.declared.word.Step.TheVariants as steps
use Rattle.pa_slot.specs.Count.{stepped}
use Rattle.pa_slot.specs.Run.{IsReturning}
use Rattle.pa_buckets.specs.Classes.{IsClassIn}
use Rattle.pa_direct.specs.Shapes.{shape_of}
use Rattle.pa_rules.specs.Sizes.{IsMapSize}
use Rattle.pa_trace.specs.declared.script.Op.{Op}
use Rattle.pa_trace.specs.declared.script.Op.TheVariants as ops
use Rattle.pa_trace.specs.declared.script.Line.{Line}
use Rattle.pa_trace.specs.declared.script.Line.TheVariants.{Phase, Do}
use Rattle.pa_rules.specs.declared.register.Register.TheVariants.{Own, Ref}
use Rattle.pa_player.specs.Player.{Player}
use Rattle.pa_player.specs.declared.table.Slot.{Slot}
use Rattle.pa_player.specs.Tables.{slot_at, Points}
use Rattle.pa_player.specs.Tallies.{tally_at}
use Rattle.pa_player.specs.Changes.{reset_last, freed_at}
use Rattle.pa_player.specs.Playing.{register_at}
use Rattle.pa_player.specs.Plays.{IsReady}
use Rattle.pa_player.specs.Asks.{CanCopy, CanReset, CanFree, CanWrite, CanRead, CanAllocateSlot, CanAllocateMap, CanPurge, CanEnd}
use Rattle.pa_player.proofs.Slots.{KeepsSlots, keeps_set}
use Rattle.pa_player.proofs.Bounds.{length_of, quarantined_few}
use Rattle.pa_player.proofs.Showing.{points_in}
use Rattle.pa_player.proofs.Handling.{used_by, copies, resets, frees, writes}
use Rattle.pa_player.proofs.Tallying.{IsCounted, live_counts, quarantined_counts}
use Rattle.pa_player.proofs.GoingBack.{take_back}
use Rattle.pa_player.proofs.Allotting.{can_slot, can_map}
use Rattle.pa_player.proofs.Purged.{can_purge}
use Rattle.pa_player.proofs.Reporting.{end_ready}

-- a slot with another word stays
keeps_word : (slots : List Slot) (i w : ℕ) → i < length slots →
    KeepsSlots slots (set slots i (record (slot_at slots i) { word = record { 0 = w } }))
keeps_word slots i w low =
    keeps_set slots i (record (slot_at slots i) { word = record { 0 = w } }) low (record { title = refl; partition = refl; class = refl })

-- the thread has registers
pub thread_ready : (p : Player) (thread : ℕ) (op : Op) → IsReady (Do thread op) p → thread < length p.registers
thread_ready p thread op ready = omega (arith, ready.can.within.0, ready.can.playing.shaped.registers)

-- the slot of a register is in the table
pub place_ready : (p : Player) (l : Line) (thread reg i : ℕ) → IsReady l p → Points (register_at p thread reg) i → i < length p.table
place_ready p l thread reg i ready points =
    points_in (length p.table) (register_at p thread reg) i points (ready.can.playing.shaped.held thread reg)

pub copy_ready : (p : Player) (thread from to i : ℕ) → IsReady (Do thread (ops.Copy from to)) p → Points (register_at p thread from) i →
    CanCopy thread to i p
copy_ready p thread from to i ready points = record {
  threads = thread_ready p thread (ops.Copy from to) ready;
  regs = ready.can.within.1.1;
  place = place_ready p (Do thread (ops.Copy from to)) thread from i ready points;
  step = λ none. copies ready.region ready.partitions ready.threads ready.ls p thread
      (ops.Copy from to) ready.can from i ready.can.within.1.0 points;
}

pub reset_ready : (p : Player) (thread reg i : ℕ) → IsReady (Do thread (ops.Reset reg)) p → register_at p thread reg ≡ Ref i →
    CanReset thread reg i p
reset_ready p thread reg i ready points =
    let op = ops.Reset reg in
    let can = ready.can in
    let h = can.playing in
    let here : Points (register_at p thread reg) i = subst (λ x. Points x i) (sym points) refl in
    let place = place_ready p (Do thread op) thread reg i ready here in
    let used = used_by ready.region ready.partitions ready.threads ready.ls p thread op can reg i can.within.1 here in
    let counted : IsReturning steps.Reset (slot_at p.table i).word.0 →
    IsCounted (slot_at p.table i).title.len (tally_at p.quarantined.of (slot_at p.table i).partition) =
    λ r. quarantined_counts ready.region ready.partitions ready.threads ready.ls p h i place (r.0, omega (arith, r.1)) in
    let after = reset_last thread reg i p in
    record {
      threads = thread_ready p thread op ready;
      regs = can.within.1;
      place = place;
      step = resets ready.region ready.partitions ready.threads ready.ls p thread op can reg i can.within.1 points;
      four = omega (arith, h.slots.among i place, h.shaped.four);
      slots = λ r. (counted r).slots;
      bytes = λ r. (counted r).bytes;
      back = λ r. take_back ready.region ready.partitions ready.threads ready.ls p h thread op
          (omega (arith, can.short)) can.head.2.1 can.within.0 i place steps.Reset refl r
          after.table (keeps_word p.table i (stepped steps.Reset (slot_at p.table i).word.0) place) after.registers after.live
          after.quarantined used;
    }

pub free_ready : (p : Player) (thread reg i : ℕ) → IsReady (Do thread (ops.Free reg)) p → register_at p thread reg ≡ Own i →
    CanFree thread reg i p
free_ready p thread reg i ready points =
    let op = ops.Free reg in
    let can = ready.can in
    let h = can.playing in
    let here : Points (register_at p thread reg) i = subst (λ x. Points x i) (sym points) refl in
    let place = place_ready p (Do thread op) thread reg i ready here in
    let used = used_by ready.region ready.partitions ready.threads ready.ls p thread op can reg i can.within.1 here in
    let step = frees ready.region ready.partitions ready.threads ready.ls p thread op can reg i can.within.1 points in
    let counted = live_counts ready.region ready.partitions ready.threads ready.ls p h i place step.0 in
    let waiting = quarantined_few ready.region ready.partitions ready.threads ready.ls p h (slot_at p.table i).partition
    (omega (arith, can.short)) (h.slots.among i place) in
    let after = freed_at thread reg i p in
    record {
      threads = thread_ready p thread op ready;
      regs = can.within.1;
      place = place;
      step = step;
      four = omega (arith, h.slots.among i place, h.shaped.four);
      slots = counted.slots;
      bytes = counted.bytes;
      few = waiting.0;
      short = waiting.1;
      back = λ none. take_back ready.region ready.partitions ready.threads ready.ls p h thread op
          (omega (arith, can.short)) can.head.2.1 can.within.0 i place steps.Free refl (step.0, none)
          after.table (keeps_word p.table i (stepped steps.Free (slot_at p.table i).word.0) place) after.registers after.live
          after.quarantined used;
    }

pub write_ready : (p : Player) (thread reg value i : ℕ) → IsReady (Do thread (ops.Write reg value)) p → register_at p thread reg ≡ Own i →
    CanWrite i p
write_ready p thread reg value i ready points = record {
  place = place_ready p (Do thread (ops.Write reg value)) thread reg i ready (subst (λ x. Points x i) (sym points) refl);
  step = λ none. writes ready.region ready.partitions ready.threads ready.ls p thread
      (ops.Write reg value) ready.can reg i ready.can.within.1 points none;
}

pub read_ready : (p : Player) (thread reg word i : ℕ) → IsReady (Do thread (ops.Read reg word)) p → Points (register_at p thread reg) i →
    CanRead i p
read_ready p thread reg word i ready points = record {
  place = place_ready p (Do thread (ops.Read reg word)) thread reg i ready points;
  long = (length_of ready.region ready.partitions ready.threads ready.ls p ready.can.playing i
      (place_ready p (Do thread (ops.Read reg word)) thread reg i ready points)).least;
}

pub slot_ready : (p : Player) (thread reg q size class : ℕ) → IsReady (Do thread (ops.Alloc reg q size)) p →
    IsClassIn p.version (max size 1 + 8) class → CanAllocateSlot thread reg q class p
slot_ready p thread reg q size class ready of =
    can_slot ready.region ready.partitions ready.threads ready.ls p thread reg q size ready.can class of

pub map_ready : (p : Player) (thread reg q size : ℕ) → IsReady (Do thread (ops.Alloc reg q size)) p → IsMapSize p.version size
    → CanAllocateMap thread reg q (shape_of size).slot (shape_of size).supers p
map_ready p thread reg q size ready direct =
    can_map ready.region ready.partitions ready.threads ready.ls p thread reg q size ready.can direct

pub purge_ready : (p : Player) (thread : ℕ) → IsReady (Do thread ops.Purge) p → CanPurge thread p
purge_ready p thread ready =
    let can = ready.can in
    let h = can.playing in
    record {
      four = omega (arith, h.shaped.many, h.shaped.four);
      each = λ q low. can_purge ready.region ready.partitions ready.threads ready.ls p h thread q can.within.0
          (omega (arith, low, h.shaped.many)) (omega (arith, can.short)) can.head.2.1;
    }

pub phase_ready : (p : Player) → IsReady Phase p → CanEnd p
phase_ready p ready = end_ready ready.region ready.partitions ready.threads ready.ls p (omega (arith, ready.can.short)) ready.can.playing
