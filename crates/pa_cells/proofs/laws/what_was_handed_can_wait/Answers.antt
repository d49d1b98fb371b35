use Rattle.std.proofs.Common.{◌≡◌, ℕ, Bool, true, false, List, [], ◌∷◌, refl, ap, arith}
use Rattle.std.specs.Prelude.{◌==◌, ◌&&◌}
use Rattle.std.specs.List.{filter, sum_by}
use Rattle.atomic_table.specs.Seated.{TableId}
use Rattle.pa_slot.specs.declared.title.Title.{Title}
use Rattle.pa_slot.specs.Titles.{same_title}
use Rattle.pa_slot.specs.Holdings.{one}
use Rattle.pa_region.specs.declared.view.Stake.{Stake}
use Rattle.pa_region.specs.declared.view.View.{View}
use Rattle.pa_region.specs.Views.{sealed_of}
use Rattle.pa_region.specs.Hands.{is_clean_of, first_sealed}
use Rattle.pa_region.specs.Marks.{marked_stake}
use Rattle.pa_cells.specs.declared.handle.Handle.{Handle}
use Rattle.pa_cells.specs.Handles.{HasSeenMade, IsParked, handed}
use Rattle.pa_cells.proofs.laws.what_was_handed_can_wait.Goals as goal

-- no stake is marked, so none goes
none_goes : (stakes : List Stake) → filter (λ (s : Stake). marked_stake [] s.number) stakes ≡ []
none_goes [] = refl
none_goes (s ∷ stakes) = none_goes stakes

-- the note can wait
waits : (h : Handle) (own : Bool) (region : TableId) (budget : ℕ) (v : View) → HasSeenMade h v → IsParked (handed h own region budget v)
waits h true region budget v made = record {
  owns = λ t. omega arith;
  refs = λ t. refl;
  frees = λ t. refl;
  clean = refl;
  stakes = λ k. ap (λ (ss : List Stake). sum_by (λ (s : Stake). one (s.number == k)) ss) (none_goes v.stakes);
  made = record { partition = made.partition; entry = made.entry };
}
waits h false region budget v made = record {
  owns = λ t. refl;
  refs = λ t. omega arith;
  frees = λ t. refl;
  clean = refl;
  stakes = λ k. ap (λ (ss : List Stake). sum_by (λ (s : Stake). one (s.number == k)) ss) (none_goes v.stakes);
  made = record { partition = made.partition; entry = made.entry };
}

-- its Own is sealed as the one that was given
sealed : (h : Handle) (own : Bool) (region : TableId) (budget : ℕ) (v : View) (t : Title) →
    sealed_of (handed h own region budget v).note.view t
    ≡ one ((own && same_title h.title t) && first_sealed (is_clean_of h.title) v.owns)
sealed h true region budget v t = omega arith
sealed h false region budget v t = refl

pub returns : goal.returns
returns c = record { waits = waits; sealed = sealed }
