use Rattle.std.proofs.Common.{◌+◌, ◌&&◌, ◌||◌, refl}
use Rattle.pa_slot.specs.Titles.{same_title}
use Rattle.pa_slot.specs.Holdings.{one}
use Rattle.pa_region.specs.declared.view.OwnTitle.{OwnTitle}
use Rattle.pa_region.specs.Moves.{is_own_of}
use Rattle.pa_region.specs.Stores.{has_content_at, dirty, poisoned_to}
use Rattle.pa_region.proofs.Adding.{changed_sum}
use Rattle.pa_region.proofs.step_laws.stores_leave.Goals as goal

pub returns : goal.returns
returns c = (
  (λ at_byte value v u. changed_sum (has_content_at at_byte) dirty (λ (o : OwnTitle). one (same_title o.title u)) v.owns (λ o. refl)),
  (λ at_byte value v u. changed_sum (has_content_at at_byte) dirty (λ (o : OwnTitle). one (same_title o.title u && (o.idle || o.sealed)))
      v.owns (λ o. refl)),
  (λ t j v u. changed_sum (is_own_of t) (poisoned_to (j + 1)) (λ (o : OwnTitle). one (same_title o.title u)) v.owns (λ o. refl)),
)
