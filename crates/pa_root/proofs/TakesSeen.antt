-- A root that takes in the super pages for which the pool was asked has seen the take.
use Rattle.std.proofs.Common.{◌≡◌, ℕ, List, [], ◌∷◌, ◌++◌, Some, length, refl, ◌∙◌, ap, subst}
use Rattle.std.specs.Prelude.{slice_get}
use Rattle.pa_region.specs.declared.view.Made.{Made}
use Rattle.pa_region.specs.declared.view.View.{View}
use Rattle.pa_region.specs.Lists.{list_of, IsBeginning}
use Rattle.pa_region.specs.Hands.{united}
use Rattle.pa_region.specs.Aware.{IsAware}
use Rattle.pa_region.proofs.TakeLaws.{right_begins}
use Rattle.pa_record.specs.Numbers.{pool_numbers}
use Rattle.pa_record.proofs.PoolSteps.{slice_get_more}
use Rattle.pa_pool.specs.Calls.{HasSeenTake, take_entry}
use Rattle.pa_pool.proofs.Gave.{seen_stays}
use Rattle.pa_root.specs.Making.{IsEnteredAt}
use Rattle.pa_root.specs.Asking.{IsAskedFor, IsRunNote}

-- the member after others is at their number
behind : (earlier : List Made) (m : Made) → slice_get (earlier ++ m ∷ []) (length earlier) ≡ Some m
behind [] m = refl
behind (x ∷ xs) m = behind xs m

-- a view that has seen an entry that says so has seen the take
pub entered_seen : (line p count first index r : ℕ) (v after : View) (m : Made) →
    IsEnteredAt index r 4 (pool_numbers (take_entry line p count (Some first))) v after m → HasSeenTake p index first count after
entered_seen line p count first index r v after m made = record {
  line = line;
  made = m;
  stands =
      let (rest, e) = made.stands in
      let here = subst (λ n. slice_get (made.earlier ++ m ∷ []) n ≡ Some m) made.index (behind made.earlier m) in
      ap (λ l. slice_get l index) e ∙ slice_get_more (made.earlier ++ m ∷ []) rest index m here;
  says = made.says;
}

-- the root that takes in the note has seen the take
pub asked_seen : (r line p count first index : ℕ) (v after root s w : View) → IsAskedFor r line p count (Some first) index v after root →
    IsRunNote first count index after w → IsAware (united s w) → HasSeenTake p index first count (united s w)
asked_seen r line p count first index v after root s w asked note both =
    let seen = entered_seen line p count first index r v after asked.made asked.is_made in
    let begins : IsBeginning (list_of 4 after) (list_of 4 (united s w)) =
    subst (λ l. IsBeginning l (list_of 4 (united s w))) note.list (right_begins s w 4 both) in
    seen_stays p index first count after (united s w) begins seen
