-- What a counted step leaves of its view, and its entry.
use Rattle.std.proofs.Common.{◌≡◌, ℕ, refl}
use Rattle.pa_slot.specs.declared.title.Title.{Title}
use Rattle.pa_slot.specs.declared.word.Step.{Step}
use Rattle.pa_slot.specs.declared.word.Step.TheVariants.{Issue, Copy, Reset, Free, Write}
use Rattle.pa_region.specs.declared.view.Entry.{Entry}
use Rattle.pa_region.specs.declared.view.Entry.TheVariants.{Counted}
use Rattle.pa_region.specs.declared.view.View.{View}
use Rattle.pa_region.specs.Moves.{moved, value_of}

-- a counted step leaves the rest of its view to the entry
pub moved_raws : (step : Step) (t : Title) (word : ℕ) (v : View) → (moved step t word v).raws ≡ v.raws
moved_raws Issue t word v = refl
moved_raws Copy t word v = refl
moved_raws Reset t word v = refl
moved_raws Free t word v = refl
moved_raws Write t word v = refl

-- a counted step leaves the stakes of what is moved
pub moved_stakes : (step : Step) (t : Title) (word : ℕ) (v : View) → (moved step t word v).stakes ≡ v.stakes
moved_stakes Issue t word v = refl
moved_stakes Copy t word v = refl
moved_stakes Reset t word v = refl
moved_stakes Free t word v = refl
moved_stakes Write t word v = refl

-- what it uncut
pub moved_uncut : (step : Step) (t : Title) (word : ℕ) (v : View) → (moved step t word v).uncut ≡ v.uncut
moved_uncut Issue t word v = refl
moved_uncut Copy t word v = refl
moved_uncut Reset t word v = refl
moved_uncut Free t word v = refl
moved_uncut Write t word v = refl

-- what it has seen
pub moved_seen : (step : Step) (t : Title) (word : ℕ) (v : View) → (moved step t word v).seen ≡ v.seen
moved_seen Issue t word v = refl
moved_seen Copy t word v = refl
moved_seen Reset t word v = refl
moved_seen Free t word v = refl
moved_seen Write t word v = refl

-- the entry of a counted step
abbrev pub entry_of : Step → Title → ℕ → View → Entry
entry_of step t word v = Counted t step word (value_of step t v)
