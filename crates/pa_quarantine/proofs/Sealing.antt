-- A free of a sealed Own finds no Ref.
use Rattle.std.proofs.Common.{ℕ, ◌<◌, ◌&&◌, ◌||◌, refl, arith}
use Rattle.pa_slot.specs.declared.title.Title.{Title}
use Rattle.pa_slot.specs.declared.title.OwnState.TheVariants.{Clean}
use Rattle.pa_slot.specs.declared.word.Step.TheVariants.{Free}
use Rattle.pa_slot.specs.Run.{IsReturning}
use Rattle.pa_slot.specs.Titles.{same_title, content_count}
use Rattle.pa_slot.specs.Holdings.{one}
use Rattle.pa_region.specs.declared.view.OwnTitle.{OwnTitle}
use Rattle.pa_region.specs.declared.view.View.{View}
use Rattle.pa_region.specs.Views.{sealed_of, idle_of}
use Rattle.pa_region.specs.Stores.{poisoned_to}
use Rattle.pa_region.specs.Shares.{Share, IsStepMade}
use Rattle.pa_region.specs.Leaves.{OwnsChange, OwnsAreSealedOrNot}
use Rattle.pa_quarantine.specs.Filling.{poisoned, poisoned_share}

-- of a sealed Own it is known that no Ref is left, also while it is poisoned
sealed_idle : OwnsChange → OwnsAreSealedOrNot → (t : Title) (v : View) → 0 < sealed_of v t → 0 < idle_of (poisoned t v) t
sealed_idle law seals t v has =
    let same = law.1 t (poisoned_to (content_count t)) (λ (o : OwnTitle). one (same_title o.title t && (o.idle || o.sealed))) v.owns
    (λ o. refl) in
    let known = (seals v t Clean).2 in
    omega arith

-- so the free returns the title
pub sealed_free_returns : OwnsChange → OwnsAreSealedOrNot → (t : Title) (word : ℕ) (before after : Share) → 0 < sealed_of before.view t →
    IsStepMade Free t word (poisoned_share t before) after → IsReturning Free word
sealed_free_returns law seals t word before after has made =
    (made.enabled.0, made.found.idle (sealed_idle law seals t before.view has))
