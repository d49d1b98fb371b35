-- An actor that holds nothing adds nothing to a core.
use Rattle.std.proofs.Common.{◌≡◌, ℕ, zero, suc, ◌<◌, List, [], ◌∷◌, ◌++◌, get_or, refl, sym, ap, subst, arith}
use Rattle.std.proofs.Math.Seq.{get_or-append_seam}
use Rattle.std.proofs.lemmas.List.Sums.{sum_by_push}
use Rattle.pa_slot.specs.declared.title.Title.{Title}
use Rattle.pa_slot.specs.declared.title.OwnState.TheVariants.{Clean, Poisoned}
use Rattle.pa_slot.specs.Holdings.{Piece, Thing, OwnAs, RefOf, held_in}
use Rattle.pa_machine.specs.Good.{IsGood}
use Rattle.pa_machine.specs.Events.{State, total_of}
use Rattle.pa_machine.specs.Trail.{IsGoodState, KeepsContent}
use Rattle.pa_region_core.specs.Handed.{with_actor, ActorAddsNothing}

-- each place has what it had
pub same_at : (hs : List (List Piece)) (actor : ℕ) → get_or (hs ++ [] ∷ []) actor [] ≡ get_or hs actor []
same_at [] zero = refl
same_at [] (suc actor) = refl
same_at (h ∷ hs) zero = refl
same_at (h ∷ hs) (suc actor) = same_at hs actor

-- all actors together hold the same with one more that holds nothing
same_total : (s : State) → total_of (with_actor s) ≡ total_of s
same_total s = λ i x. each x i
  where
    each : (x : Thing) → total_of (with_actor s) x ≡ total_of s x
    each x = let e = sum_by_push (λ ps. held_in ps x) s.holdings [] in omega arith

pub good_with : (s : State) → IsGoodState s → IsGoodState (with_actor s)
good_with s good = subst (λ (total : Thing → ℕ). IsGood s.words total) (sym (same_total s)) good

content_with : (s : State) (last : Title → ℕ) → KeepsContent s last → KeepsContent (with_actor s) last
content_with s last k = record {
  clean = λ t has. k.clean t (subst (λ (total : Thing → ℕ). 0 < total (OwnAs t Clean)) (same_total s) has);
  beyond = λ t j many has. k.beyond t j (subst (λ (total : Thing → ℕ). 0 < total (RefOf t)) (same_total s) many)
      (subst (λ (total : Thing → ℕ). 0 < total (OwnAs t (Poisoned j))) (same_total s) has);
}

pub content_without : (s : State) (last : Title → ℕ) → KeepsContent (with_actor s) last → KeepsContent s last
content_without s last k = record {
  clean = λ t has. k.clean t (subst (λ (total : Thing → ℕ). 0 < total (OwnAs t Clean)) (sym (same_total s)) has);
  beyond = λ t j many has. k.beyond t j (subst (λ (total : Thing → ℕ). 0 < total (RefOf t)) (sym (same_total s)) many)
      (subst (λ (total : Thing → ℕ). 0 < total (OwnAs t (Poisoned j))) (sym (same_total s)) has);
}

pub adds_nothing : ActorAddsNothing
adds_nothing s = (
  λ actor x. ap (λ ps. held_in ps x) (same_at s.holdings actor),
  λ x. ap (λ ps. held_in ps x) (get_or-append_seam s.holdings [] [] []),
  same_total s,
  good_with s,
  λ good. subst (λ (total : Thing → ℕ). IsGood s.words total) (same_total s) good,
  content_with s,
  content_without s,
)
