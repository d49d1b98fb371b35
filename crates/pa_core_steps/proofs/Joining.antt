-- Runs that go one after the other are one run.
use Rattle.std.proofs.Common.{◌≡◌, List, [], ◌∷◌, ◌++◌, refl, sym, ◌∙◌, ap, subst}
use Rattle.pa_machine.specs.declared.event.Event.{Event}
use Rattle.pa_machine.specs.Events.{State, IsEnabled, Happens}
use Rattle.pa_machine.specs.Trail.{Played, end_of, IsGoodState, IsRunTo}
use Rattle.pa_machine.proofs.Happening.{happens_good}
use Rattle.pa_machine.proofs.Lasting.{lasts, run_start, run_more}
use Rattle.pa_core_steps.specs.Turns.{RunsJoin}

-- events after events
played_join : (s : State) (es fs : List Event) (ss ts : List State) → Played s es ss → Played (end_of s ss) fs ts →
    Played s (es ++ fs) (ss ++ ts)
played_join s [] fs [] ts p q = q
played_join s (e ∷ es) fs (next ∷ ss) ts p q = (p.0, p.1, played_join next es fs ss ts p.2 q)
played_join s [] fs (next ∷ ss) ts p q = absurd p
played_join s (e ∷ es) fs [] ts p q = absurd p

end_join : (s : State) (ss ts : List State) → end_of s (ss ++ ts) ≡ end_of (end_of s ss) ts
end_join s [] ts = refl
end_join s (next ∷ ss) ts = end_join next ss ts

played_good : (s : State) (es : List Event) (ss : List State) → IsGoodState s → Played s es ss → IsGoodState (end_of s ss)
played_good s [] [] good p = good
played_good s (e ∷ es) (next ∷ ss) good p = played_good next es ss (happens_good e s next good p.0 p.1) p.2
played_good s [] (next ∷ ss) good p = absurd p
played_good s (e ∷ es) [] good p = absurd p

pub run_good : (s after : State) (es : List Event) → IsGoodState s → IsRunTo s es after → IsGoodState after
run_good s after es good r = subst IsGoodState (sym r.ends) (played_good s es r.states good r.played)

pub run_join : (s mid after : State) (es fs : List Event) → IsGoodState s → IsRunTo s es mid → IsRunTo mid fs after →
    IsRunTo s (es ++ fs) after
run_join s mid after es fs good r q =
    let played = played_join s es fs r.states q.states r.played (subst (λ (x : State). Played x fs q.states) r.ends q.played) in
    record {
      states = r.states ++ q.states;
      played = played;
      ends = q.ends ∙ (ap (λ (x : State). end_of x q.states) r.ends ∙ sym (end_join s r.states q.states));
      shape = (q.shape.0 ∙ r.shape.0, q.shape.1 ∙ r.shape.1);
      lasts = λ last k. lasts s (es ++ fs) (r.states ++ q.states) last good k played;
    }

-- one event is a run
pub run_one : (s after : State) (e : Event) → IsGoodState s → IsEnabled e s → Happens e s after → IsRunTo s (e ∷ []) after
run_one s after e good can h = run_more s s after [] e good (run_start s good) can h

pub runs_join : RunsJoin
runs_join = record { joined = run_join; good = run_good }
