-- Whether counted steps and looks of an order found what they should, as a test that computes.
use Rattle.std.proofs.Common.{◌≡◌, ℕ, Bool, true, ◌&&◌, List, [], ◌∷◌, ◌++◌, sym, ◌∙◌, ap, subst, eqb, append-nil, append_assoc}
use Rattle.std.proofs.lemmas.Bool.{and_parts, eqb-true}
use Rattle.pa_slot.specs.declared.title.Title.{Title}
use Rattle.pa_slot.specs.Count.{number_of}
use Rattle.pa_region.specs.declared.view.Entry.{Entry}
use Rattle.pa_region.specs.declared.view.Entry.TheVariants.{Counted, Looked, Read, Added, Entered, Uncut}
use Rattle.pa_region.specs.Order.{Stamped, steps_on, Touches}

-- the entry, if it is a counted step or a look, found the number of counted steps of its title among these
abbrev pub finds : List Stamped → Entry → Bool
finds before (Counted t step word value) = eqb (number_of word) (steps_on t before)
finds before (Looked t word) = eqb (number_of word) (steps_on t before)
finds before other = true

-- each entry of an order, after these, found the number of counted steps of its title before it
abbrev pub all_find : List Stamped → List Stamped → Bool
all_find before [] = true
all_find before (m ∷ after) = finds before m.entry && all_find (before ++ m ∷ []) after

found_one : (before : List Stamped) (e : Entry) (t : Title) (word : ℕ) → finds before e ≡ true → Touches e t word →
    number_of word ≡ steps_on t before
found_one before (Counted u step found value) t word test touches =
    subst (λ (x : Title). number_of word ≡ steps_on x before) touches.0
    (subst (λ (n : ℕ). number_of n ≡ steps_on u before) touches.1 (eqb-true _ _ test))
found_one before (Looked u found) t word test touches =
    subst (λ (x : Title). number_of word ≡ steps_on x before) touches.0
    (subst (λ (n : ℕ). number_of n ≡ steps_on u before) touches.1 (eqb-true _ _ test))
found_one before (Read u place value since owned unclean) t word test touches = absurd touches
found_one before (Added number bytes) t word test touches = absurd touches
found_one before (Entered keeper made) t word test touches = absurd touches
found_one before (Uncut u) t word test touches = absurd touches

-- what the test says of each place
pub all_found : (front all : List Stamped) → all_find front all ≡ true →
    (before after : List Stamped) (m : Stamped) (t : Title) (word : ℕ) →
    all ≡ before ++ m ∷ after → Touches m.entry t word → number_of word ≡ steps_on t (front ++ before)
all_found front [] test [] after m t word e touches = absurd (cc)
all_found front [] test (b ∷ before) after m t word e touches = absurd (cc)
all_found front (n ∷ all) test [] after m t word e touches =
    let head : n ≡ m = cc in
    subst (λ (xs : List Stamped). number_of word ≡ steps_on t xs) (sym (append-nil front))
    (found_one front m.entry t word (subst (λ (x : Stamped). finds front x.entry ≡ true) head (and_parts _ _ test).0) touches)
all_found front (n ∷ all) test (b ∷ before) after m t word e touches =
    let head : n ≡ b = cc in
    let tail : all ≡ before ++ m ∷ after = cc in
    subst (λ (xs : List Stamped). number_of word ≡ steps_on t xs)
    (append_assoc front (n ∷ []) before ∙ ap (λ (x : Stamped). front ++ x ∷ before) head)
    (all_found (front ++ n ∷ []) all (and_parts _ _ test).1 before after m t word tail touches)
