-- Lending a stake: what a seat that lends its stake and gets it back keeps, and what the seat that borrowed it keeps.
use Rattle.std.specs.Prelude.{◌≡◌, ℕ, ◌<◌, ◌≤◌, List, [], ◌∷◌, ◌++◌, ◌==◌, length, map, slice_index, if◌then◌else◌}
use Rattle.pa_slot.specs.declared.title.Title.{Title}
use Rattle.pa_slot.specs.Titles.{IsWellFormed}
use Rattle.pa_slot.specs.Holdings.{Thing}
use Rattle.pa_region.specs.declared.marks.Mark.TheVariants.{Stake}
use Rattle.pa_region.specs.declared.view.Entry.{Entry}
use Rattle.pa_region.specs.declared.view.Entry.TheVariants.{Entered}
use Rattle.pa_region.specs.declared.view.Made.{Made}
use Rattle.pa_region.specs.declared.view.View.{View}
use Rattle.pa_region.specs.Views.{held_of_view, Knows, free_of, idle_of, low_of, stake_of, undone_of, seen_among, seen_of, least_stake, HasStake}
use Rattle.pa_region.specs.Waiting.{poisoned_of, unclean_of}
use Rattle.pa_region.specs.Lists.{keeper_of, lease_of, list_of, IsBeginning}
use Rattle.pa_region.specs.Hands.{Parcel, CanHand, left_after, given_after, united}
use Rattle.pa_region.specs.Entries.{CanEnter, after_enter}
use Rattle.pa_region.specs.Marks.{parcel_of}
use Rattle.pa_region.specs.Aware.{IsAware}
use Rattle.pa_region.specs.Shares.{Share}
use Rattle.pa_region.specs.Takes.{log_of}

-- a parcel of the stake with this number and nothing else
abbrev pub stake_parcel : ℕ → Parcel
stake_parcel r = parcel_of [] 0 (Stake r ∷ [])

-- a view that may lend its stake has one, and only clean Owns
abbrev pub CanLend : View → Type 0
CanLend v = HasStake v × (unclean_of v ≡ 0)

-- a view that may borrow a stake has none, and only clean Owns
abbrev pub CanHost : View → Type 0
CanHost v = ((k : ℕ) → stake_of v k ≡ 0) × (unclean_of v ≡ 0)

-- a seat that has this keeper may borrow a stake
abbrev pub HostsKeeper : ℕ → View → Type 0
HostsKeeper k v = CanHost v × (0 < keeper_of v k)

-- The view `after` has what v has: each thing, floors, what it knows of Refs that are left, the budget, stakes, keepers and leases.
-- It knows the words that v knows, and has seen all that v has seen. What v uncut is in its list.
pub record Keeps (v after : View) : Type 0 where
  pub things : (x : Thing) → held_of_view after x ≡ held_of_view v x
  pub floors : (b n : ℕ) → low_of after b n ≡ low_of v b n
  pub idle : (t : Title) → idle_of after t ≡ idle_of v t
  pub poisoned : (t : Title) → poisoned_of after t ≡ poisoned_of v t
  pub unclean : unclean_of after ≡ unclean_of v
  pub budget : after.budget ≡ v.budget
  pub stakes : (k : ℕ) → stake_of after k ≡ stake_of v k
  pub keepers : (k : ℕ) → keeper_of after k ≡ keeper_of v k
  pub leases : (n : ℕ) → lease_of after n ≡ lease_of v n
  pub words : (q : ℕ) → Knows v q → slice_index after.words q ≡ slice_index v.words q
  pub seen : (t : Title) → seen_of v t ≤ seen_of after t
  pub lists : (k : ℕ) → IsBeginning (list_of k v) (list_of k after)
  pub undone : (t : Title) → undone_of v t ≤ undone_of after t

-- The lender of stake r that got it back keeps what it has. The stake's log has these entries more, and no other log has more. The
-- lists of its own keepers are as they were, since no other seat can make an entry there.
pub record Lends (r : ℕ) (more : List Entry) (v after : View) : Type 0 where
  pub keeps : Keeps v after
  pub own_lists : (k : ℕ) → 0 < keeper_of v k → list_of k after ≡ list_of k v
  pub logs : (k : ℕ) → log_of k after ≡ log_of k v ++ (if k == r then more else [])

-- A stake that comes back: `done` is the borrower's view, whatever was done in between.
abbrev pub LendsBack : Type 0
LendsBack =
    (lender done : View) (r : ℕ) (more : List Entry) → IsAware lender → CanHand (stake_parcel r) lender → CanHand (stake_parcel r) done →
    length lender.words ≡ length done.words → IsAware (united (left_after (stake_parcel r) lender) (given_after (stake_parcel r) done)) →
    stake_of done r ≡ stake_of lender r → log_of r done ≡ log_of r lender ++ more →
    Lends r more lender (united (left_after (stake_parcel r) lender) (given_after (stake_parcel r) done))

-- The borrower, which had no stake of this number before, keeps what it has.
abbrev pub HostsKeep : Type 0
HostsKeep =
    (host lender done : View) (r : ℕ) → CanHand (stake_parcel r) lender → CanHand (stake_parcel r) done →
    length host.words ≡ length lender.words → IsAware (united host (given_after (stake_parcel r) lender)) → stake_of host r ≡ 0 →
    Keeps (united host (given_after (stake_parcel r) lender)) done →
    Keeps host (left_after (stake_parcel r) done)

-- a seat that makes an entry in a keeper's list keeps what it has
abbrev pub EnteringKeeps : Type 0
EnteringKeeps = (k : ℕ) (numbers : List ℕ) (v : View) → CanEnter k v → Keeps v (after_enter k numbers v)

-- keeping is transitive: a seat that keeps what it has in each of two changes keeps it over both
abbrev pub KeepingGoesOn : Type 0
KeepingGoesOn = (u v w : View) → Keeps u v → Keeps v w → Keeps u w

-- A view that keeps what a lender has can lend the same stake again. One that keeps what a borrower has can borrow again.
abbrev pub LendsAgain : Type 0
LendsAgain =
    (v w : View) → Keeps v w → (CanLend v → CanLend w × (least_stake w.stakes ≡ least_stake v.stakes)) × (CanHost v → CanHost w)

-- if a seat keeps what it has, it has seen the same number as before of each title that it holds free
abbrev pub KeptNumbersStay : Type 0
KeptNumbersStay =
    (v w : View) (n : ℕ) (t : Title) → IsAware v → IsAware w → Keeps v w → IsWellFormed n t → 0 < free_of v t → seen_of w t ≡ seen_of v t

-- The entry m was made with the lent stake r in the list of keeper k, which the host has. It has these numbers and is at the end of
-- the list, which both seats have seen then. The lender's log has it, and it carries all that the lender had seen.
pub record IsNoted (r k : ℕ) (numbers : List ℕ) (lender lender_now host host_now : View) (m : Made) : Type 0 where
  pub stake : m.stake ≡ r
  pub says : m.numbers ≡ numbers
  pub list : list_of k host_now ≡ list_of k host ++ m ∷ []
  pub whole : list_of k lender_now ≡ list_of k host_now
  pub lends : Lends r (Entered k m ∷ []) lender lender_now
  pub hosts : Keeps host host_now
  pub before : (t : Title) → seen_of lender t ≤ seen_among t m.seen
  pub known : (t : Title) → seen_among t m.seen ≤ seen_of lender_now t

-- Two entries were made with the lender's stake r, one after the other. The stake was lent to `middle`, which lent it to `host`.
-- There m was made in the list of keeper `inner`, and then `middle` made n in that of keeper `outer`. The middle seat has seen the
-- inner list with its entry, and n carries that.
pub record AreNoted (r inner outer : ℕ) (first second : List ℕ)
    (lender lender_now middle middle_now host host_now : View) (m n : Made) : Type 0 where
  pub stakes : (m.stake ≡ r) × (n.stake ≡ r)
  pub say : (m.numbers ≡ first) × (n.numbers ≡ second)
  pub inner_list : list_of inner host_now ≡ list_of inner host ++ m ∷ []
  pub outer_list : list_of outer middle_now ≡ list_of outer middle ++ n ∷ []
  pub lends : Lends r (Entered inner m ∷ Entered outer n ∷ []) lender lender_now
  pub middle_has : Keeps middle middle_now
  pub host_has : Keeps host host_now
  pub before : (t : Title) → seen_of lender t ≤ seen_among t m.seen
  pub between : (t : Title) → seen_among t m.seen ≤ seen_among t n.seen
  pub known : (t : Title) → seen_among t n.seen ≤ seen_of lender_now t
  pub seen_list : IsBeginning (list_of inner host_now) (list_of inner middle_now)

-- one entry with these numbers was made with the lender's least stake in the list of keeper k, which the host has
abbrev pub MakesEntry : ℕ → List ℕ → (lender lender_now host host_now : Share) → Type 0
MakesEntry k numbers a b h i = (m : Made) × IsNoted (least_stake a.view.stakes) k numbers a.view b.view h.view i.view m

-- two entries were made with the lender's least stake: first the host's in the inner list, then the middle seat's in the outer one
abbrev pub MakesBoth : (inner : ℕ) → List ℕ → (outer : ℕ) → List ℕ → (lender lender_now middle middle_now host host_now : Share) → Type 0
MakesBoth inner first outer second a b c d h i =
    (m n : Made) × AreNoted (least_stake a.view.stakes) inner outer first second a.view b.view c.view d.view h.view i.view m n

-- Entries with these numbers were made with the lender's least stake: they are at the end of the list and of the log.
abbrev pub MakesAll : ℕ → List (List ℕ) → (lender lender_now host host_now : Share) → Type 0
MakesAll k numbers a b h i =
    (ms : List Made) × (map (λ m. m.numbers) ms ≡ numbers) × (list_of k i.view ≡ list_of k h.view ++ ms) ×
    (log_of (least_stake a.view.stakes) b.view ≡ log_of (least_stake a.view.stakes) a.view ++ map (λ m. Entered k m) ms)
