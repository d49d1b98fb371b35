use Rattle.std.proofs.Common.{◌≡◌, ℕ, ◌+◌, ◌-◌, ◌≤◌}
use Rattle.pa_shelf.specs.Counting.{sum_of_pages, AreAdded, AreSumsOf}
use Rattle.pa_shelf.proofs.counts.with_super_page.Given as goal

-- the spans of the pages before this one were counted
abbrev pub invariant-loop-page : goal.invariant-loop-page
invariant-loop-page l = record {
  seat : l.own ≡ l.initial.own;
  first : 1 ≤ l.page;
  last : l.page ≤ 127;
  added : AreAdded (λ f. sum_of_pages f l.initial.own.view.words l.number (l.page - 1)) l.initial.sums l.sums;
  below : (n : ℕ) → AreSumsOf n l.initial.sums → AreSumsOf (n + (l.page - 1)) l.sums;
}

abbrev pub decreases-loop-page : goal.decreases-loop-page
decreases-loop-page l = 127 - l.page
