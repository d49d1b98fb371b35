-- A player is driven by the lines of a trace.
use Rattle.std.proofs.Common.{◌≡◌, ℕ, ◌+◌, ◌<◌, ◌≤◌, List, [], ◌∷◌, ◌++◌, length, take, get_or, refl, sym, ap, ◌∙◌, subst, arith}
use Rattle.std.proofs.lemmas.List.{length-take, take_more}
use Rattle.std.proofs.lemmas.List.Elements.{All-from_recursion, All-get_or}
use Rattle.pa_trace.specs.declared.script.Line.{Line}
use Rattle.pa_trace.specs.declared.script.Trace.{Trace}
use Rattle.pa_trace.specs.Grammar.{head_of_trace}
use Rattle.pa_trace.specs.Limits.{IsLineWithin, IsWithinLimits}
use Rattle.pa_model.specs.Player.{Player, IsGoing, IsNew}
use Rattle.pa_test_resize.specs.Driven.{IsDriven}

-- the first lines were played
pub record IsDrivenTo (t : Trace) (i : ℕ) (p : Player) : Type 0 where
  pub going : IsGoing p
  pub head : p.lines.head ≡ head_of_trace t
  pub lines : p.lines.items ≡ take i t.lines

pub driven_none : (t : Trace) (p : Player) → IsNew (head_of_trace t) p → IsDrivenTo t 0 p
driven_none t p new = record { going = new.going; head = new.head; lines = new.lines }

module _ (t : Trace) (i : ℕ) (p : Player) (line d : Line) (within : IsWithinLimits t) (lt : i < length t.lines)
    (is : line ≡ get_or t.lines i d) (h : IsDrivenTo t i p) where
  pub driven_few : length p.lines.items < 65535
  driven_few = let few = within.few in omega (arith, ap length h.lines, length-take i t.lines, few, lt)

  pub driven_within : IsLineWithin p.lines.head.partitions p.lines.head.threads line
  driven_within =
      let one : IsLineWithin t.partitions t.threads line = subst (IsLineWithin t.partitions t.threads) (sym is)
      (All-get_or (IsLineWithin t.partitions t.threads) t.lines i d lt
      (All-from_recursion (IsLineWithin t.partitions t.threads) t.lines within.lines)) in
      subst (λ k. IsLineWithin k.partitions k.threads line) (sym h.head) one

  pub driven_more : (q : Player) → IsDriven p line q → IsDrivenTo t (i + 1) q
  driven_more q step = record {
    going = step.going;
    head = step.head ∙ h.head;
    lines = step.lines ∙ ap (λ ls. ls ++ line ∷ []) h.lines ∙ ap (λ l. take i t.lines ++ l ∷ []) is ∙ sym (take_more t.lines i d lt);
  }
