-- The front of a list leaves the cache before it is issued.
use Rattle.std.proofs.Common.{◌≡◌, ℕ, List, Option, Some, subst}
use Rattle.std.specs.Prelude.{IfSome}
use Rattle.pa_player.specs.Player.{Player}
use Rattle.pa_player.specs.declared.tallies.Tallies.{Tallies}
use Rattle.pa_player.specs.Asks.{CanIssue}
use Rattle.pa_player.specs.Lists.{IsFront}

-- what the front is, by what was taken
pub front_is : (o : Option ℕ) (i at : ℕ) (before after : List (List ℕ)) → o ≡ Some i → IfSome o (λ place. IsFront at place before after) →
    IsFront at i before after
front_is o i at before after e h = let P : Option ℕ → Type 0 = λ z. IfSome z (λ place. IsFront at place before after) in subst P e h

-- lists and tallies of the caches don't matter to an issue
pub issue_kept : (thread reg i : ℕ) (p : Player) (lists : List (List ℕ)) (cached : Tallies) → CanIssue thread reg i p →
    CanIssue thread reg i (record p { caches = lists; cached = cached })
issue_kept thread reg i p lists cached h = record {
  threads = h.threads;
  regs = h.regs;
  place = h.place;
  step = h.step;
  long = h.long;
  four = h.four;
  slots = h.slots;
  bytes = h.bytes;
}
