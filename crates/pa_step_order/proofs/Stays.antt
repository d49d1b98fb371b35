-- Moments with poisonings among them, and the same without: numbers and lists that hold of these hold of those.
use Rattle.std.proofs.Common.{◌≡◌, ℕ, List, ◌∷◌, ◌++◌, Some, refl, sym, ◌∙◌, ap, subst, inl, inr}
use Rattle.std.specs.List.{cons_option, filter_map}
use Rattle.std.proofs.lemmas.List.Elements.{filter_map-append}
use Rattle.pa_slot.specs.Count.{number_of}
use Rattle.pa_slot.specs.Run.{Mark}
use Rattle.pa_rules.specs.Played.{mark_of}
use Rattle.pa_timeline.specs.Timeline.{Moment, IsTouch, counted_steps, part_enters, part_asks, part_swaps, journal_made, asked_lines, swap_lines}
use Rattle.pa_timeline.proofs.Places.{moment}
use Rattle.pa_timeline.proofs.Outlined.{stays, stays_is, kept_of, counts_stay, no_swap}
use Rattle.pa_step_order.proofs.Moments.{phase_at}
use Rattle.pa_step_order.proofs.Sorting.{sorted, sorted_through}

-- moments that stay do so in a list sorted by phase
pub sorted_stays : (ms : List Moment) → filter_map stays (sorted phase_at ms) ≡ sorted phase_at (filter_map stays ms)
sorted_stays ms = sorted_through phase_at stays (λ m n is. stays_is m.x m.part n is) ms

touch_stays : (m : Moment) → IsTouch m.part → stays m ≡ Some m
touch_stays m (inl looks) = subst (λ p. stays (moment m.x p) ≡ Some (moment m.x p)) (sym looks) refl
touch_stays m (inr counts) = subst (λ p. stays (moment m.x p) ≡ Some (moment m.x p)) (sym counts) refl

-- each look and counted step among the moments finds the number of those before it
abbrev pub FindsItsNumber : List Moment → Type 0
FindsItsNumber ms =
    (before after : List Moment) (m : Moment) (k : Mark) → ms ≡ before ++ m ∷ after → IsTouch m.part → mark_of m.x ≡ Some k →
    number_of k.found ≡ counted_steps k.slot before

pub found_stays : (ms : List Moment) → FindsItsNumber (filter_map stays ms) → FindsItsNumber ms
found_stays ms finds before after m k cut touch marked =
    let whole : filter_map stays ms ≡ filter_map stays before ++ m ∷ filter_map stays after =
    ap (filter_map stays) cut ∙ filter_map-append stays before (m ∷ after) ∙
    ap (λ o. filter_map stays before ++ cons_option o (filter_map stays after)) (touch_stays m touch) in
    finds (filter_map stays before) (filter_map stays after) m k whole touch marked ∙ counts_stay k.slot before

pub journal_stays : (p : ℕ) (ms : List Moment) → journal_made p (filter_map stays ms) ≡ journal_made p ms
journal_stays p ms = kept_of (λ (m : Moment). part_enters p m.x.line m.part) ms (λ x word. refl)

pub pool_stays : (ms : List Moment) → asked_lines (filter_map stays ms) ≡ asked_lines ms
pool_stays ms = kept_of (λ (m : Moment). part_asks m.x.line m.part) ms (λ x word. refl)

pub swaps_stay : (k : ℕ) (ms : List Moment) → swap_lines k (filter_map stays ms) ≡ swap_lines k ms
swaps_stay k ms = kept_of (λ (m : Moment). part_swaps k m.x.line m.x.op m.part) ms (λ x word. no_swap k x.line word x.op)
