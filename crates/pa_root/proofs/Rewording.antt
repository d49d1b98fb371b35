-- Words of a view are written: what the view has stays, and cuts of it go the same way.
use Rattle.std.proofs.Common.{◌≡◌, ◌<◌, List, [], ◌∷◌, ◌∙◌, sym, ap, subst}
use Rattle.std.proofs.lemmas.List.{length-set}
use Rattle.pa_slot.specs.declared.title.Title.{Title}
use Rattle.pa_slot.specs.Titles.{count_place}
use Rattle.pa_region.specs.declared.view.View.{View}
use Rattle.pa_region.specs.Views.{free_of, low_of}
use Rattle.pa_region.specs.Cuts.{CanCut, after_cut}
use Rattle.pa_shelf.specs.Moving.{Rewritten}
use Rattle.pa_root.specs.Filling.{CanCutAll, after_cuts}
use Rattle.pa_root.proofs.Batches.{IsBesideCuts}

pub cut_rewritten : (t : Title) (v w : View) → Rewritten v w → Rewritten (after_cut t v) (after_cut t w)
cut_rewritten t v w wrote = record {
  rest = ap (after_cut t) wrote.rest;
  long = length-set w.words (count_place t) 0 ∙ (wrote.long ∙ sym (length-set v.words (count_place t) 0));
}

pub cuts_rewritten : (ts : List Title) (v w : View) → Rewritten v w → Rewritten (after_cuts ts v) (after_cuts ts w)
cuts_rewritten [] v w wrote = wrote
cuts_rewritten (t ∷ ts) v w wrote = cuts_rewritten ts (after_cut t v) (after_cut t w) (cut_rewritten t v w wrote)

pub free_rewritten : (v w : View) (t : Title) → Rewritten v w → free_of w t ≡ free_of v t
free_rewritten v w t wrote = ap (λ (x : View). free_of x t) wrote.rest

one_can_rewritten : (t : Title) (v w : View) → Rewritten v w → CanCut t v → CanCut t w
one_can_rewritten t v w wrote can = record {
  start_aligned = can.start_aligned;
  len_aligned = can.len_aligned;
  long = can.long;
  floors = λ b covers. subst (λ (x : View). 0 < low_of x b t.born) (sym wrote.rest) (can.floors b covers);
}

pub can_rewritten : (ts : List Title) (v w : View) → Rewritten v w → CanCutAll ts v → CanCutAll ts w
can_rewritten [] v w wrote can = can
can_rewritten (t ∷ ts) v w wrote (first, rest) =
    (one_can_rewritten t v w wrote first, can_rewritten ts (after_cut t v) (after_cut t w) (cut_rewritten t v w wrote) rest)

-- what stays beside cuts stays if words are written too
pub rewritten_beside : (v x y : View) → IsBesideCuts v x → Rewritten x y → IsBesideCuts v y
rewritten_beside v x y b wrote = subst (IsBesideCuts v) (sym wrote.rest) (record {
  handles = b.handles;
  budget = b.budget;
  stakes = b.stakes;
  unclean = b.unclean;
  keepers = b.keepers;
  leases = b.leases;
  seen = b.seen;
  lists = b.lists;
  undone = b.undone;
})
