-- Words that ask for two commands ask for two that need the same: the first word tells them apart.
use Rattle.std.proofs.Common.{◌≡◌, ◌∙◌, ℕ, ◌+◌, ◌*◌, ◌==◌, cond, true, false, List, [], ◌∷◌, codes, ap, sym}
use Rattle.pa_cli.specs.declared.command.Command.{Command}
use Rattle.pa_cli.specs.declared.command.Command.TheVariants.{Replay, Model, Delay, Audit, Dangling, Layout, Trace, Gen, Help, Version, Resize, Verdicts}
use Rattle.pa_cli.specs.Command.{AsksFor, AsksForRegion, Needs, needs_of}

-- the letters of the first word, as one number
abbrev letters : List ℕ → ℕ
letters [] = 0
letters (letter ∷ word) = letter + 256 * letters word

abbrev first_word : List (List ℕ) → ℕ
first_word [] = 0
first_word (word ∷ words) = letters word

-- what the command needs that has this first word
abbrev needs_by : ℕ → Needs
needs_by word =
    cond (word == letters (codes "replay")) (needs_of Replay)
    (cond (word == letters (codes "model")) (needs_of Model)
    (cond (word == letters (codes "delay")) (needs_of (Delay 0))
    (cond (word == letters (codes "audit")) (needs_of Audit)
    (cond (word == letters (codes "dangling")) (needs_of Dangling)
    (cond (word == letters (codes "resize")) (needs_of Resize)
    (cond (word == letters (codes "verdicts")) (needs_of Verdicts)
    (cond (word == letters (codes "trace")) (needs_of (Trace 0 0))
    (cond (word == letters (codes "gen")) (needs_of (Gen 0 0))
    (needs_of Help)))))))))

has_needs : (command : Command) (words : List (List ℕ)) → AsksFor command words → needs_by (first_word words) ≡ needs_of command
has_needs Replay words asked = ap (λ ws. needs_by (first_word ws)) asked
has_needs Model words asked = ap (λ ws. needs_by (first_word ws)) asked
has_needs (Delay bytes) words asked = ap (λ ws. needs_by (first_word ws)) asked.1
has_needs Audit words asked = ap (λ ws. needs_by (first_word ws)) asked
has_needs Dangling words asked = ap (λ ws. needs_by (first_word ws)) asked
has_needs Resize words asked = ap (λ ws. needs_by (first_word ws)) asked
has_needs Verdicts words asked = ap (λ ws. needs_by (first_word ws)) asked
has_needs (Layout size) words asked = ap (λ ws. needs_by (first_word ws)) asked.1
has_needs (Trace rounds key) words asked = ap (λ ws. needs_by (first_word ws)) asked.2
has_needs (Gen rounds key) words asked = ap (λ ws. needs_by (first_word ws)) asked.2
has_needs Help words asked = ap (λ ws. needs_by (first_word ws)) asked
has_needs Version words asked = ap (λ ws. needs_by (first_word ws)) asked

pub one_needs : (command other : Command) (words : List (List ℕ)) → AsksFor command words → AsksFor other words →
    needs_of command ≡ needs_of other
one_needs command other words asked also = sym (has_needs command words asked) ∙ has_needs other words also

-- the command plays in a region for which words ask that ask for one
pub region_asked : (command : Command) (words : List (List ℕ)) → AsksFor command words → AsksForRegion words →
    (needs_of command).region ≡ true
region_asked command words asked h = ap (λ (x : Needs). x.region) (one_needs command h.0 words asked h.1) ∙ h.2

-- words that ask for a command that plays in no region don't ask for one
pub alone_asked : (command : Command) (words : List (List ℕ)) → AsksFor command words →
    (needs_of command).region ≡ false → AsksForRegion words → ⊥
alone_asked command words asked alone h = let e : true ≡ false = sym (region_asked command words asked h) ∙ alone in absurd cc
