-- Views of which only words are others.
use Rattle.std.proofs.Common.{ℕ, ◌<◌, List, refl, ◌∙◌, ap}
use Rattle.pa_slot.specs.declared.title.Title.{Title}
use Rattle.pa_record.specs.declared.taken.SuperPage.{SuperPage}
use Rattle.pa_region.specs.declared.view.View.{View}
use Rattle.pa_region.specs.Views.{free_of}
use Rattle.pa_meta.specs.Stores.{Rerecorded}
use Rattle.pa_link.specs.Chains.{after_link}
use Rattle.pa_link.proofs.Gaps.{relinked_once}
use Rattle.pa_shelf.specs.Moving.{Rewritten}

pub rewritten_none : (v : View) → Rewritten v v
rewritten_none v = record { rest = refl; long = refl }

pub rewritten_on : (u v w : View) → Rewritten u v → Rewritten v w → Rewritten u w
rewritten_on u v w first second = record {
  rest = second.rest ∙ ap (λ (x : View). record x { words = w.words; since = record x.since { stored = w.since.stored } }) first.rest;
  long = second.long ∙ first.long;
}

-- records were written, or a link was stored in a free title
pub of_records : (supers : List SuperPage) (v w : View) → Rerecorded supers v w → Rewritten v w
of_records supers v w wrote = record { rest = wrote.rest; long = wrote.long }

pub of_link : (t : Title) (link : ℕ) (v : View) → 0 < free_of v t → Rewritten v (after_link t link v)
of_link t link v free = let one = relinked_once t link v free in record { rest = one.rest; long = one.long }
