-- What a call of the root ensures for its caller's seat: the entries that were made for it,
-- in the lists of the root and of the pool, with its stake.
use Rattle.std.specs.Prelude.{◌≡◌, ℕ, ◌<◌, ◌≤◌, List, [], ◌∷◌, ◌++◌, length}
use Rattle.pa_slot.specs.declared.title.Title.{Title}
use Rattle.pa_region.specs.declared.view.Entry.{Entry}
use Rattle.pa_region.specs.declared.view.Entry.TheVariants.{Entered}
use Rattle.pa_region.specs.declared.view.Made.{Made}
use Rattle.pa_region.specs.declared.view.View.{View}
use Rattle.pa_region.specs.Views.{stake_of, seen_among, seen_of}
use Rattle.pa_region.specs.Lists.{list_of, IsBeginning}
use Rattle.pa_region.specs.Lending.{Keeps, Lends, IsNoted}
use Rattle.pa_region.specs.Aware.{IsAware}
use Rattle.pa_record.specs.declared.pool.PoolEntry.{PoolEntry}
use Rattle.pa_record.specs.declared.root.RootEntry.{RootEntry}
use Rattle.pa_record.specs.Numbers.{root_numbers, pool_numbers}

-- The entry m, with these numbers, was made with the stake r for a seat with the view v: it has index j in the list of keeper
-- k, which the seat has then seen up to it at least. It carries all that the seat had seen,
-- and the seat has seen what it carries.
pub record IsEnteredAt (j r k : ℕ) (numbers : List ℕ) (v after : View) (m : Made) : Type 0 where
  pub stake : m.stake ≡ r
  pub says : m.numbers ≡ numbers
  pub earlier : List Made
  pub stands : IsBeginning (earlier ++ m ∷ []) (list_of k after)
  pub index : length earlier ≡ j
  pub before : (t : Title) → seen_of v t ≤ seen_among t m.seen
  pub known : (t : Title) → seen_among t m.seen ≤ seen_of after t

-- Entry j of partition p's journal was made for the seat. Its stake's log has that
-- and nothing else besides, and it keeps what it has.
pub record EntersOne (j r p : ℕ) (entry : RootEntry) (v after : View) : Type 0 where
  pub made : Made
  pub is_made : IsEnteredAt j r p (root_numbers entry) v after made
  pub lends : Lends r (Entered p made ∷ []) v after

-- Entry `asked` of the pool and then entry j of partition p's journal were made for the seat. Its stake's log has, after
-- what was done first, the two and nothing else besides. What the first carries, the second does.
pub record EntersTwo (asked j r p : ℕ) (first : List Entry) (taken : PoolEntry) (entry : RootEntry) (v after : View) : Type 0 where
  pub pool : Made
  pub made : Made
  pub is_pool : IsEnteredAt asked r 4 (pool_numbers taken) v after pool
  pub is_made : IsEnteredAt j r p (root_numbers entry) v after made
  pub between : (t : Title) → seen_among t pool.seen ≤ seen_among t made.seen
  pub lends : Lends r (first ++ (Entered 4 pool ∷ Entered p made ∷ [])) v after

-- An entry that was made for a seat is so for a later view too, and for one before. One made with a lent stake is such an
-- entry, and two that are made one after the other, the first by the pool, are a pair of them.
pub record EntriesAreTold : Type 0 where
  pub later : (j r k : ℕ) (numbers : List ℕ) (v x after : View) (m : Made) → IsEnteredAt j r k numbers v x m → Keeps x after →
      IsEnteredAt j r k numbers v after m
  pub sooner : (j r k : ℕ) (numbers : List ℕ) (v x after : View) (m : Made) → Keeps v x → IsEnteredAt j r k numbers x after m →
      IsEnteredAt j r k numbers v after m
  pub on : (r : ℕ) (more again : List Entry) (v x after : View) → Lends r more v x → Lends r again x after → Lends r (more ++ again) v after
  pub one : (r p : ℕ) (entry : RootEntry) (v after host host_now : View) (m : Made) →
      IsNoted r p (root_numbers entry) v after host host_now m → EntersOne (length (list_of p host)) r p entry v after
  pub two : (asked r p : ℕ) (first : List Entry) (taken : PoolEntry) (entry : RootEntry) (v x after host host_now : View) (m n : Made) →
      IsEnteredAt asked r 4 (pool_numbers taken) v x m → Lends r (first ++ Entered 4 m ∷ []) v x →
      IsNoted r p (root_numbers entry) x after host host_now n →
      EntersTwo asked (length (list_of p host)) r p first taken entry v after

-- A view that lent its stake for an entry hadn't seen it before: what it had seen of the list is no longer than the list was.
abbrev pub EntriesAreNew : Type 0
EntriesAreNew =
    (r k : ℕ) (numbers : List ℕ) (v after host host_now : View) (m : Made) → IsAware v → IsAware after → 0 < stake_of v r →
    IsNoted r k numbers v after host host_now m → length (list_of k v) ≤ length (list_of k host)
