-- The marks of a run are in the order of their lines, and a slot's words are determined by their numbers.
use Rattle.std.proofs.Common.{◌≡◌, ℕ, ◌<◌, List, ◌∷◌, arith}
use Rattle.std.specs.Prelude.{Contains, AllPairs}
use Rattle.pa_slot.specs.declared.word.SlotName.{SlotName}
use Rattle.pa_slot.specs.declared.word.Step.{Step}
use Rattle.pa_slot.specs.Count.{CanStep, stepped}
use Rattle.pa_slot.specs.Run.{Mark, IsFirstAt, IsRunFrom}
use Rattle.pa_rules.specs.declared.played.Played.{Played}
use Rattle.pa_rules.specs.Played.{marks_of}
use Rattle.pa_rules.proofs.Marking.{mark_line}
use Rattle.pa_rules.proofs.Running.{one_mark, marks_pairs}
use Rattle.pa_legal.proofs.Words.{goes_on as goes_on_by_lines}
use Rattle.pa_one_run.proofs.Filed.{Earlier}

-- ---- marks in the order of their lines

abbrev pub Rises : Mark → Mark → Type 0
Rises m n = m.line < n.line

pub marks_rise : (ps : List Played) → AllPairs Earlier ps → AllPairs Rises (marks_of ps)
marks_rise ps h = marks_pairs Earlier Rises (λ x y m n less is is'. let a = mark_line x m is in let b = mark_line y n is' in
    omega arith) ps h

-- two first steps at a word are one
pub one_step : (ms : List Mark) (s : SlotName) (u : ℕ) (m n : Mark) (p q : Step) → AllPairs Rises ms → IsFirstAt ms s u m p →
    IsFirstAt ms s u n q → m ≡ n
one_step ms s u m n p q h f g = one_mark ms s u m n p q (λ i j d low inside same. let up = h i j d low inside in omega arith) f g

-- if a step was made at a word of the run, the next word is one of the run
pub goes_on : (ms : List Mark) (s : SlotName) (u : ℕ) (vs : List ℕ) (w : ℕ) (m : Mark) (p : Step) → AllPairs Rises ms →
    IsRunFrom ms s u vs → Contains (u ∷ vs) w → IsFirstAt ms s w m p → CanStep p w →
    Contains (u ∷ vs) (stepped p w)
goes_on ms s u vs w m p h = goes_on_by_lines ms s u vs w m p (λ i j d low inside same. let up = h i j d low inside in omega arith)
