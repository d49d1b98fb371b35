-- The central law: along every run of enabled events the core stays good, each content is the one of its last Issue or
-- Write, and a title becomes free by a returning step alone.
use Rattle.std.proofs.Common.{◌≡◌, ℕ, ◌+◌, Some, List, [], ◌∷◌, ◌++◌, refl, sym, ◌∙◌}
use Rattle.pa_slot.specs.declared.title.Title.{Title}
use Rattle.pa_machine.specs.declared.event.StepFault.{StepFault}
use Rattle.pa_machine.specs.declared.event.StepFault.TheVariants.{NotEnabled, OutOfMemory}
use Rattle.pa_machine.specs.declared.event.Event.{Event}
use Rattle.pa_machine.specs.Events.{State, IsEnabled, Happens}
use Rattle.pa_machine.specs.Trail.{Played, end_of, IsGoodState, KeepsContent, noted, Lasts, IsRunTo, MayNeedMemory, IsRefusedFor}
use Rattle.pa_machine.proofs.Happening.{happens_good}
use Rattle.pa_machine.proofs.Holding.{same_shape}
use Rattle.pa_machine.proofs.Returning.{only_returns}
use Rattle.pa_machine.proofs.Noting.{keeps_content}

pub lasts : (s : State) (es : List Event) (ss : List State) (last : Title → ℕ) → IsGoodState s → KeepsContent s last → Played s es ss →
    Lasts s es ss last
lasts s [] [] last g k p = (g, k)
lasts s (e ∷ es) (after ∷ ss) last g k p = (
  g,
  k,
  only_returns e s after g p.0 p.1,
  lasts after es ss (noted e after last) (happens_good e s after g p.0 p.1) (keeps_content e s after last g p.0 p.1 k) p.2,
)
lasts s [] (after ∷ ss) last g k p = p
lasts s (e ∷ es) [] last g k p = p

-- one more event at the end of a run
pub played_more : (s : State) (es : List Event) (ss : List State) (e : Event) (after : State) → Played s es ss → IsEnabled e (end_of s ss) →
    Happens e (end_of s ss) after → Played s (es ++ e ∷ []) (ss ++ after ∷ [])
played_more s [] [] e after p can h = (can, h, tt)
played_more s (d ∷ es) (next ∷ ss) e after p can h = (p.0, p.1, played_more next es ss e after p.2 can h)
played_more s [] (next ∷ ss) e after p can h = absurd p
played_more s (d ∷ es) [] e after p can h = absurd p

pub end_more : (s : State) (ss : List State) (after : State) → end_of s (ss ++ after ∷ []) ≡ after
end_more s [] after = refl
end_more s (next ∷ ss) after = end_more next ss after

-- no event is a run from a good state to itself
pub run_start : (s : State) → IsGoodState s → IsRunTo s [] s
run_start s good = record { states = []; played = tt; ends = refl; shape = (refl, refl); lasts = λ last k. (good, k) }

-- a run with one more event that can happen at its end is a run
pub run_more : (s mid after : State) (es : List Event) (e : Event) → IsGoodState s → IsRunTo s es mid → IsEnabled e mid →
    Happens e mid after → IsRunTo s (es ++ e ∷ []) after
run_more s mid after es e good r can h =
    let played = played_more s es r.states e after r.played (rw (← r.ends) can) (rw (← r.ends) h) in
    record {
      states = r.states ++ after ∷ [];
      played = played;
      ends = sym (end_more s r.states after);
      shape = ((same_shape e mid after h).0 ∙ r.shape.0, (same_shape e mid after h).1 ∙ r.shape.1);
      lasts = λ last k. lasts s (es ++ e ∷ []) (r.states ++ after ∷ []) last good k played;
    }

-- what a refusal says of the event
pub refused_at : (fault : StepFault) (e : Event) (s : State) → (fault ≡ NotEnabled → IsEnabled e s → ⊥) →
    (fault ≡ OutOfMemory → IsEnabled e s)
    → (fault ≡ OutOfMemory → MayNeedMemory e) → IsRefusedFor fault (Some e) s
refused_at NotEnabled e s never always asks = never refl
refused_at OutOfMemory e s never always asks = (always refl, asks refl)
