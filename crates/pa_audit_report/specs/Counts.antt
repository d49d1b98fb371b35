-- The steps that count for the slots in use, record by record.
use Rattle.std.specs.Prelude.{◌≡◌, ◌≢◌, ℕ, ◌+◌, ◌-◌, ◌*◌, ◌<◌, ◌≤◌, Bool, true, false, List, length, Option, Some, None}
use Rattle.pa_slot.specs.declared.word.SlotName.{SlotName}
use Rattle.pa_slot.specs.declared.word.Step.{Step}
use Rattle.pa_slot.specs.Run.{Mark}
use Rattle.pa_trace.specs.declared.script.Op.{Op}
use Rattle.pa_record.specs.declared.entry.Seen.{Seen}
use Rattle.pa_record.specs.declared.report.Tally.{Tally}
use Rattle.pa_rules.specs.declared.played.Played.{Played}
use Rattle.pa_rules.specs.Flow.{at_step}
use Rattle.pa_rules.specs.Played.{mark_of, marks_of, step_of}
use Rattle.pa_rules.specs.Report.{until}
use Rattle.pa_slot.specs.Kinds.{issues, frees, enters, leaves}
use Rattle.pa_legal.specs.Tallies.{weight_of, one_of, bytes_of}
use Rattle.pa_audit_holders.specs.declared.homes.Home.{Home}
use Rattle.pa_audit_report.specs.declared.counts.Count.{Count}
use Rattle.pa_audit_report.specs.declared.counts.InUse.{InUse}
use Rattle.pa_audit_report.specs.declared.counts.Stepped.{Stepped}
use Rattle.pa_audit_records.specs.Cuts.{HasEach}
use Rattle.pa_audit_report.specs.Sized.{home_in, size_in}

-- the tally is the total weight of the slots of partition p on which steps of these records pass the test
pub record IsTotal (test : Step → ℕ → Bool) (at : ℕ → Option Home) (p : ℕ) (xs : List Played) (tally : Tally) : Type 0 where
  pub slots : tally.slots ≡ weight_of test (one_of (home_in at) p) (marks_of xs)
  pub bytes : tally.bytes ≡ weight_of test (bytes_of (home_in at) (size_in at) p) (marks_of xs)
  pub few : tally.slots ≤ length xs
  pub small : tally.bytes ≤ 4294967296 * length xs

-- the count has the slots of partition p that these records issued and freed, and those that entered and left the quarantine
pub record HasCounted (at : ℕ → Option Home) (p : ℕ) (xs : List Played) (count : Count) : Type 0 where
  pub issued : IsTotal issues at p xs count.issued
  pub freed : IsTotal frees at p xs count.freed
  pub entered : IsTotal enters at p xs count.entered
  pub left : IsTotal leaves at p xs count.left

-- whether a record's step passes the test
abbrev pub mark_passes : (Step → ℕ → Bool) → Option Mark → Bool
mark_passes test None = false
mark_passes test (Some m) = at_step test m.found m.step

-- whether the step of a record passes the test; a record without a step doesn't
abbrev pub passes : (Step → ℕ → Bool) → Played → Bool
passes test x = mark_passes test (mark_of x)

-- the step of a record: the slot on which it was made, and the counts in which it goes
pub record IsStepOf (x : Played) (z : Stepped) : Type 0 where
  pub mark : Mark
  pub is : mark_of x ≡ Some mark
  pub slot : mark.slot ≡ z.slot
  pub issues_is : z.issues ≡ passes issues x
  pub frees_is : z.frees ≡ passes frees x
  pub enters_is : z.enters ≡ passes enters x
  pub leaves_is : z.leaves ≡ passes leaves x

-- the record goes in none of the counts
pub record MovesNothing (x : Played) : Type 0 where
  pub issues_not : passes issues x ≡ false
  pub frees_not : passes frees x ≡ false
  pub enters_not : passes enters x ≡ false
  pub leaves_not : passes leaves x ≡ false

-- the op is done on this slot, and its step goes in these counts
pub record IsDoneOf (op : Op) (seen : Seen) (z : Stepped) : Type 0 where
  pub slot : seen.slot ≡ z.slot
  pub issues_is : z.issues ≡ at_step issues seen.found.0 (step_of op)
  pub frees_is : z.frees ≡ at_step frees seen.found.0 (step_of op)
  pub enters_is : z.enters ≡ at_step enters seen.found.0 (step_of op)
  pub leaves_is : z.leaves ≡ at_step leaves seen.found.0 (step_of op)

-- the step of the op, if it makes one, goes in no count, whatever word it finds
pub record DoesNothing (op : Op) : Type 0 where
  pub issues_not : (w : ℕ) → at_step issues w (step_of op) ≡ false
  pub frees_not : (w : ℕ) → at_step frees w (step_of op) ≡ false
  pub enters_not : (w : ℕ) → at_step enters w (step_of op) ≡ false
  pub leaves_not : (w : ℕ) → at_step leaves w (step_of op) ≡ false

-- by the table the slot is of partition p and has that many bytes
pub record IsBytesOf (at : ℕ → Option Home) (p : ℕ) (s : SlotName) (bytes : ℕ) : Type 0 where
  pub home : home_in at s ≡ p
  pub size : size_in at s ≡ bytes

-- by the table the slot isn't of partition p
abbrev pub IsOfOther : (ℕ → Option Home) → ℕ → SlotName → Type 0
IsOfOther at p s = home_in at s ≢ p

-- a tally with one more slot, if it counts
abbrev pub tally_more : Tally → Bool → ℕ → Tally
tally_more t true bytes = record { slots = t.slots + 1; bytes = t.bytes + bytes }
tally_more t false bytes = t

-- there is room in each tally for one more slot
abbrev pub HasRoomFor : Tally → Type 0
HasRoomFor t = (t.slots < 65536) × (t.bytes < 281474976710656)

-- there is room for one more slot in all four tallies of the count
pub record HasRoom (count : Count) : Type 0 where
  pub issued : HasRoomFor count.issued
  pub freed : HasRoomFor count.freed
  pub entered : HasRoomFor count.entered
  pub left : HasRoomFor count.left

-- the count with the step on a slot of that many bytes
abbrev pub raised_by : Count → Stepped → ℕ → Count
raised_by c z bytes = record {
  issued = tally_more c.issued z.issues bytes;
  freed = tally_more c.freed z.frees bytes;
  entered = tally_more c.entered z.enters bytes;
  left = tally_more c.left z.leaves bytes;
}

-- what was added less what was removed
abbrev pub less_of : Tally → Tally → Tally
less_of into out = record { slots = into.slots - out.slots; bytes = into.bytes - out.bytes }

-- the slots in use of partition p after these records
pub record IsUse (at : ℕ → Option Home) (p : ℕ) (xs : List Played) (u : InUse) : Type 0 where
  pub count : Count
  pub counted : HasCounted at p xs count
  pub live : u.live ≡ less_of count.issued count.freed
  pub quarantined : u.quarantined ≡ less_of count.entered count.left

-- the slots in use of partition p at the end of each phase
abbrev pub HaveUses : (ℕ → Option Home) → ℕ → List Played → List InUse → Type 0
HaveUses at p ps uses = HasEach (λ i u. IsUse at p (until (i + 1) ps) u) uses
