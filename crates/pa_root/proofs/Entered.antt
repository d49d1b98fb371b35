-- The entry of a root that was made for a call, whether or not the pool was asked first.
use Rattle.std.proofs.Common.{ℕ, Option, Some, None}
use Rattle.pa_record.specs.declared.root.RootAct.{RootAct}
use Rattle.pa_record.specs.Numbers.{root_numbers}
use Rattle.pa_region.specs.declared.view.Made.{Made}
use Rattle.pa_region.specs.declared.view.View.{View}
use Rattle.pa_root.specs.Making.{IsEnteredAt}
use Rattle.pa_root.specs.Handing.{EntersFor, root_entry}

-- the entry in the root's list
pub for_made : (j r p line : ℕ) (asked found : Option ℕ) (a_root : RootAct) (v u : View) → EntersFor j r p line asked found a_root v u →
    (m : Made) × IsEnteredAt j r p (root_numbers (root_entry line a_root)) v u m
for_made j r p line None found a_root v u one = (one.made, one.is_made)
for_made j r p line (Some a) found a_root v u two = (two.made, two.is_made)
