-- What was seen, of two views together.
use Rattle.std.proofs.Common.{◌≡◌, ◌+◌, ◌≤◌, List, [], ◌∷◌, ◌++◌, arith, inl, inr, max}
use Rattle.pa_slot.specs.declared.title.Title.{Title}
use Rattle.pa_slot.specs.Count.{number_of}
use Rattle.pa_slot.proofs.Same.{title_tells}
use Rattle.pa_region.specs.declared.view.Entry.{Entry}
use Rattle.pa_region.specs.declared.view.Entry.TheVariants.{Counted, Looked, Read, Added, Entered, Uncut}
use Rattle.pa_region.specs.declared.view.SeenNumber.{SeenNumber}
use Rattle.pa_region.specs.Views.{seen_among, unseen_by}
use Rattle.pa_region.proofs.SeenPart.{lt_antitone}

-- two lists of notes say the greater of what each says
pub seen_append : (t : Title) (a b : List SeenNumber) → seen_among t (a ++ b) ≡ max (seen_among t a) (seen_among t b)
seen_append t [] b = omega arith
seen_append t (s ∷ ss) b =
    let again = seen_append t ss b in
    elim (title_tells s.title t) [ inl y ↦ rw y.0 omega arith | inr n ↦ rw n.0 again ]

-- the first of two lists of notes says no more than both together
pub seen_left : (t : Title) (a b : List SeenNumber) → seen_among t a ≤ seen_among t (a ++ b)
seen_left t a b = let e = seen_append t a b in omega arith

pub seen_right : (t : Title) (a b : List SeenNumber) → seen_among t b ≤ seen_among t (a ++ b)
seen_right t a b = let e = seen_append t a b in omega arith

-- a view that has seen more has seen what entries say
pub unseen_grown : (notes more : List SeenNumber) → ((t : Title) → seen_among t notes ≤ seen_among t more) → (e : Entry) →
    unseen_by more e ≤ unseen_by notes e
unseen_grown notes more h (Counted u step found value) = lt_antitone (seen_among u notes) (seen_among u more) (number_of found + 1) (h u)
unseen_grown notes more h (Looked u found) = lt_antitone (seen_among u notes) (seen_among u more) (number_of found) (h u)
unseen_grown notes more h (Read u place read since owned unclean) = omega arith
unseen_grown notes more h (Added word_number bytes) = omega arith
unseen_grown notes more h (Entered keeper made) = omega arith
unseen_grown notes more h (Uncut again) = omega arith
