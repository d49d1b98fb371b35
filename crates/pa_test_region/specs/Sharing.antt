-- What tests on several threads say of their seats' views.
use Rattle.std.specs.Prelude.{◌≡◌, ℕ, ◌+◌}
use Rattle.pa_slot.specs.declared.title.Title.{Title}
use Rattle.pa_slot.specs.declared.title.OwnState.TheVariants.{Clean}
use Rattle.pa_region.specs.declared.view.View.{View}
use Rattle.pa_region.specs.Views.{HasEveryStake, own_as, ref_of, stake_of, least_stake}
use Rattle.pa_region.specs.Waiting.{unclean_of}

-- the view w has the stakes that v has, and only clean Owns
pub record Stays (v w : View) : Type 0 where
  pub stakes : (k : ℕ) → stake_of w k ≡ stake_of v k
  pub clean : unclean_of w ≡ 0

-- After a read the view w has the Refs of the title, the budget, the stakes and the unclean Owns that v had.
pub record StaysUser (t : Title) (v w : View) : Type 0 where
  pub refs : ref_of w t ≡ ref_of v t
  pub budget : w.budget ≡ v.budget
  pub stakes : (k : ℕ) → stake_of w k ≡ stake_of v k
  pub least : least_stake w.stakes ≡ least_stake v.stakes
  pub clean : unclean_of w ≡ unclean_of v

-- Of v's Refs of the title w has one, with the stake of this number and one counted step, and l has what is left.
pub record GaveRef (t : Title) (stake : ℕ) (v l w : View) : Type 0 where
  pub owns : l.owns ≡ v.owns
  pub refs : ref_of l t + 1 ≡ ref_of v t
  pub budget : l.budget + 1 ≡ v.budget
  pub stakes : (k : ℕ) → stake_of l k + stake_of w k ≡ stake_of v k
  pub others : (k : ℕ) → (k ≡ stake → ⊥) → stake_of l k ≡ stake_of v k

-- the view u has the stakes of v and of w, and only clean Owns
pub record AreTogether (v w u : View) : Type 0 where
  pub stakes : (k : ℕ) → stake_of u k ≡ stake_of v k + stake_of w k
  pub clean : unclean_of u ≡ 0

-- The view has every stake, a clean Own of the title and no other unclean one, `refs` Refs of it, and `steps` counted steps.
pub record IsShared (t : Title) (refs steps : ℕ) (v : View) : Type 0 where
  pub every : HasEveryStake v
  pub own : own_as v t Clean ≡ 1
  pub clean : unclean_of v ≡ 0
  pub has_refs : ref_of v t ≡ refs
  pub budget : v.budget ≡ steps
