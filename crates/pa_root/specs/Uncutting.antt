-- A title that is uncut with a lent stake, and seats that show each other what they have seen.
use Rattle.std.specs.Prelude.{◌≡◌, ℕ, ◌+◌, ◌<◌, ◌≤◌, [], ◌∷◌, slice_index}
use Rattle.pa_slot.specs.declared.title.Title.{Title}
use Rattle.pa_slot.specs.Titles.{same_title, Covers, IsWellFormed}
use Rattle.pa_slot.specs.Holdings.{one}
use Rattle.pa_region.specs.declared.view.Entry.TheVariants.{Uncut}
use Rattle.pa_region.specs.declared.view.View.{View}
use Rattle.pa_region.specs.Views.{Knows, free_of, own_of, ref_of, low_of, stake_of, undone_of, seen_of}
use Rattle.pa_region.specs.Waiting.{unclean_of}
use Rattle.pa_region.specs.Lists.{list_of, lease_of, keeper_of, IsBeginning}
use Rattle.pa_region.specs.Takes.{IsLongest}
use Rattle.pa_region.specs.Lending.{Lends}

-- The free title t was uncut, and is in the view's list of such titles: titles that are born later can be cut out of
-- its bytes. All else is as it was, the words that were known too, but that more may have been seen, though no more of a title that is
-- free here, nor of an own list.
pub record IsUncut (t : Title) (v after : View) : Type 0 where
  pub frees : (o : Title) → free_of after o + one (same_title t o) ≡ free_of v o
  pub handles : (o : Title) → own_of after o + ref_of after o ≡ own_of v o + ref_of v o
  pub raw_here : (b n : ℕ) → Covers t b → t.born < n → 0 < low_of after b n
  pub raw_beside : (b n : ℕ) → (Covers t b → ⊥) → low_of after b n ≡ low_of v b n
  pub budget : after.budget ≡ v.budget
  pub stakes : (k : ℕ) → stake_of after k ≡ stake_of v k
  pub unclean : unclean_of after ≡ unclean_of v
  pub keepers : (k : ℕ) → keeper_of after k ≡ keeper_of v k
  pub leases : (n : ℕ) → lease_of after n ≡ lease_of v n
  pub numbers : (n : ℕ) (o : Title) → IsWellFormed n o → 0 < free_of after o → seen_of after o ≡ seen_of v o
  pub own_lists : (k : ℕ) → 0 < keeper_of v k → list_of k after ≡ list_of k v
  pub lists : (k : ℕ) → IsBeginning (list_of k v) (list_of k after)
  pub undone : (o : Title) → undone_of after o ≡ undone_of v o + one (same_title t o)
  pub words : (q : ℕ) → Knows v q → slice_index after.words q ≡ slice_index v.words q

-- the title was uncut in the host's view, with the lender's stake r, and that stake's log says so
pub record IsUncutWith (r : ℕ) (t : Title) (lender lender_now host host_now : View) : Type 0 where
  pub lends : Lends r (Uncut t ∷ []) lender lender_now
  pub uncut : IsUncut t host host_now

-- The seat with the view w has seen what the one with the view v has, and nothing besides. Each keeps what it has,
-- and has done nothing with its stakes.
pub record IsShown (v v_now w w_now : View) : Type 0 where
  pub giver : (r : ℕ) → Lends r [] v v_now
  pub taker : (r : ℕ) → Lends r [] w w_now
  pub same : (k : ℕ) → list_of k v_now ≡ list_of k v
  pub lists : (k : ℕ) → IsBeginning (list_of k v) (list_of k w_now)
  pub longest : (k : ℕ) → IsLongest (list_of k w_now) (list_of k w) (list_of k v)
  pub seen : (t : Title) → seen_of v t ≤ seen_of w_now t
