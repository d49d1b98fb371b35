-- What the pool's calls require and ensure.
use Rattle.std.specs.Prelude.{◌≡◌, ℕ, ◌+◌, ◌*◌, ◌<◌, ◌≤◌, [], ◌∷◌, ◌++◌, ◌==◌, length, Option, Some, None, slice_get}
use Rattle.pa_slot.specs.declared.title.Title.{Title}
use Rattle.pa_machine.specs.declared.event.Item.TheVariants.{Raw}
use Rattle.pa_slot.specs.Holdings.{RawByte, one}
use Rattle.pa_record.specs.declared.pool.PoolEntry.{PoolEntry}
use Rattle.pa_record.specs.declared.pool.PoolAct.TheVariants.{Take, Give}
use Rattle.pa_record.specs.Pool.{IsLowest, FoundRun}
use Rattle.pa_record.specs.Numbers.{pool_numbers}
use Rattle.pa_region.specs.declared.view.Entry.TheVariants.{Entered}
use Rattle.pa_region.specs.declared.marks.Mark.TheVariants.{Lease}
use Rattle.pa_region.specs.declared.view.Made.{Made}
use Rattle.pa_region.specs.declared.view.View.{View}
use Rattle.pa_region.specs.Views.{held_of_view, low_of, stake_of, seen_of, seen_among, least_stake}
use Rattle.pa_region.specs.Lists.{keeper_of, lease_of, list_of, IsBeginning}
use Rattle.pa_region.specs.Hands.{Parcel, CanHand, left_after, given_after}
use Rattle.pa_region.specs.Marks.{parcel_of}
use Rattle.pa_region.specs.Lending.{Lends}
use Rattle.pa_region.specs.Shares.{Share}
use Rattle.pa_pool.specs.declared.fault.PoolFault.{PoolFault}
use Rattle.pa_pool.specs.declared.fault.PoolFault.TheVariants.{NoRoom, OutOfMemory}
use Rattle.pa_pool.specs.Pools.{PoolValue, pool_after, IsByteOf, HasNoTitle}

-- the entry of a take of `count` super pages that found those from this one on, or none
abbrev pub take_entry : (line partition count : ℕ) → Option ℕ → PoolEntry
take_entry line partition count found = record { line = line; partition = partition; act = Take count found }

-- the entry of a give of `count` super pages from `first` on, by a partition, on a line
abbrev pub give_entry : (line partition count first : ℕ) → PoolEntry
give_entry line partition count first = record { line = line; partition = partition; act = Give count first }

-- The pool made the entry e, with the stake r that the caller lent. As m it is at the end of the pool's list, which both seats have
-- seen whole, and in the stake's log. It carries all that the caller had seen, and nothing that the caller hasn't seen now.
pub record IsEntered (r : ℕ) (e : PoolEntry) (seat seat_now : View) (pool pool_now : PoolValue) (m : Made) : Type 0 where
  pub entries : pool_now.entries ≡ pool.entries ++ e ∷ []
  pub supers : pool_now.supers ≡ pool.supers
  pub stake : m.stake ≡ r
  pub says : m.numbers ≡ pool_numbers e
  pub list : list_of 4 pool_now.view ≡ list_of 4 pool.view ++ m ∷ []
  pub whole : list_of 4 seat_now ≡ list_of 4 pool_now.view
  pub lends : Lends r (Entered 4 m ∷ []) seat seat_now
  pub before : (t : Title) → seen_of seat t ≤ seen_among t m.seen
  pub known : (t : Title) → seen_among t m.seen ≤ seen_of seat_now t

-- The pool made the entry e with the least stake of the caller, by the seats and the pool before and after.
abbrev pub Enters : PoolEntry → (seat seat_now : Share) → (pool pool_now : PoolValue) → Type 0
Enters e a b p q = (m : Made) × IsEntered (least_stake a.view.stakes) e a.view b.view p q m

-- the view has each byte of these super pages as raw, with a floor of at most `floor`
abbrev pub HasRaw : (first count floor : ℕ) → View → Type 0
HasRaw first count floor v = (b : ℕ) → IsByteOf first count b → 0 < low_of v b floor

-- The view has the `count` super pages from `first` on as raw, with floors of at most `floor`, and the lease n.
-- But for raw bytes it has nothing else.
pub record HasRun (first count floor n : ℕ) (v : View) : Type 0 where
  pub raw : HasRaw first count floor v
  pub leases : (m : ℕ) → lease_of v m ≡ one (n == m)
  pub stakes : (k : ℕ) → stake_of v k ≡ 0
  pub keepers : (k : ℕ) → keeper_of v k ≡ 0
  pub titles : HasNoTitle v
  pub budget : v.budget ≡ 0

-- what is handed over with a run: its super pages as raw bytes, and a lease
abbrev pub run_parcel : (first count index : ℕ) → Parcel
run_parcel first count index = parcel_of (Raw (2097152 * first) (2097152 * count) ∷ []) 0 (Lease index ∷ [])

-- the view has no other byte as raw
abbrev pub HasNoOther : (first count : ℕ) → View → Type 0
HasNoOther first count v = (b : ℕ) → (IsByteOf first count b → ⊥) → held_of_view v (RawByte b) ≡ 0

-- The pool was asked for `count` super pages, and found the lowest that are free, or none if there are none.
-- Its new entry, with this index, says so.
pub record IsTaken (line partition count : ℕ) (found : Option ℕ) (index : ℕ)
    (seat seat_now : Share) (pool pool_now : PoolValue) : Type 0 where
  pub place : index ≡ length pool.entries
  pub lowest : IsLowest (pool_after pool.entries pool.supers) count found
  pub entered : Enters (take_entry line partition count found) seat seat_now pool pool_now
  pub stands : slice_get pool_now.entries index ≡ Some (take_entry line partition count found)

-- The note of a take, entry `index`, that found the super pages from `first` on. It has them, with floors of at most the index, and
-- that lease, and nothing else. It has seen the pool's whole list.
pub record IsNoteOf (first count index : ℕ) (note : View) (pool_now : PoolValue) : Type 0 where
  pub run : HasRun first count index index note
  pub only : HasNoOther first count note
  pub list : list_of 4 note ≡ list_of 4 pool_now.view

-- nothing changed but the room for entries
pub record IsAsBefore (pool pool_now : PoolValue) : Type 0 where
  pub view : pool_now.view ≡ pool.view
  pub entries : pool_now.entries ≡ pool.entries
  pub supers : pool_now.supers ≡ pool.supers

-- A take gave no super pages. There are none, as entry `index` says, or it ran out of memory, and nothing changed.
abbrev pub Refused : (line partition count : ℕ) → (seat seat_now : Share) → (pool pool_now : PoolValue) → PoolFault → Type 0
Refused line partition count a b p q (NoRoom index) = IsTaken line partition count None index a b p q
Refused line partition count a b p q OutOfMemory = IsAsBefore p q × (b ≡ a)

-- a view has seen that entry `taken` of the pool's list is a take of this partition
-- that found `count` super pages, those from `first` on
pub record HasSeenTake (partition taken first count : ℕ) (v : View) : Type 0 where
  pub line : ℕ
  pub made : Made
  pub stands : slice_get (list_of 4 v) taken ≡ Some made
  pub says : made.numbers ≡ pool_numbers (take_entry line partition count (Some first))

-- What comes back with a note is what entry `taken` took. The seat has seen that entry, and the note has its lease and its super
-- pages, with floors of at most `taken` + 1.
pub record ComesBack (partition taken first count : ℕ) (seat note : View) : Type 0 where
  pub seen : HasSeenTake partition taken first count seat
  pub run : HasRun first count (taken + 1) taken note

-- What entry `taken` took was given back, as the new entry with this index says.
pub record IsGivenBack (line partition taken first count index : ℕ)
    (seat seat_now : Share) (pool pool_now : PoolValue) : Type 0 where
  pub place : index ≡ length pool.entries
  pub found : FoundRun pool.entries taken count first
  pub entered : Enters (give_entry line partition count first) seat seat_now pool pool_now
  pub stands : slice_get pool_now.entries index ≡ Some (give_entry line partition count first)

-- a view that has seen a take still has seen it when it has seen more of the list
abbrev pub SeenTakesStay : Type 0
SeenTakesStay =
    (partition taken first count : ℕ) (v w : View) → IsBeginning (list_of 4 v) (list_of 4 w) → HasSeenTake partition taken first count v →
    HasSeenTake partition taken first count w

-- A view that has super pages as raw, and a lease, can hand them over. The note then has them, with floors that are no higher, and
-- the lease, and nothing else. The giver has the other bytes and the other leases as before.
pub record RunsAreHanded : Type 0 where
  pub able : (first count floor n : ℕ) (v : View) → HasRaw first count floor v → 0 < lease_of v n → CanHand (run_parcel first count n) v
  pub given : (first count floor n : ℕ) (v : View) → HasRaw first count floor v →
      HasRun first count floor n (given_after (run_parcel first count n) v)
  pub only : (first count n : ℕ) (v : View) → HasNoOther first count (given_after (run_parcel first count n) v)
  pub bytes : (first count n b m : ℕ) (v : View) → CanHand (run_parcel first count n) v → (IsByteOf first count b → ⊥) →
      low_of (left_after (run_parcel first count n) v) b m ≡ low_of v b m
  pub leases : (first count n m : ℕ) (v : View) → CanHand (run_parcel first count n) v →
      lease_of (left_after (run_parcel first count n) v) m + one (n == m) ≡ lease_of v m
