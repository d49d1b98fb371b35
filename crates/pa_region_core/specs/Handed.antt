-- Handing over in the region, as events of the core.
use Rattle.std.specs.Prelude.{◌≡◌, ℕ, List, [], ◌∷◌, ◌++◌, length, map, slice_set}
use mathlib.Core.Option.{some}
use lib.ListN.{get_elem?}
use Rattle.pa_slot.specs.declared.title.Title.{Title}
use Rattle.pa_machine.specs.declared.event.Item.{Item}
use Rattle.pa_machine.specs.declared.event.Item.TheVariants.{Raw, Free, Own, Ref}
use Rattle.pa_machine.specs.declared.event.Event.{Event}
use Rattle.pa_machine.specs.declared.event.Event.TheVariants.{Hand}
use Rattle.pa_slot.specs.Holdings.{Thing}
use Rattle.pa_machine.specs.Events.{State, held_by, total_of}
use Rattle.pa_machine.specs.Trail.{IsGoodState, KeepsContent, IsRunTo}
use Rattle.pa_region.specs.declared.view.RawRange.{RawRange}
use Rattle.pa_region.specs.declared.view.OwnTitle.{OwnTitle}
use Rattle.pa_region.specs.declared.view.View.{View}
use Rattle.pa_region.specs.Views.{shown}
use Rattle.pa_region.specs.Rule.{IsKept}
use Rattle.pa_region.specs.Hands.{Parcel, CanHand, CanTake, left_after, given_after, united, spent_of}

-- the core with one more actor, the last, which holds nothing
abbrev pub with_actor : State → State
with_actor s = record { words = s.words; holdings = s.holdings ++ [] ∷ [] }

-- An additional actor that holds nothing changes nothing that is said of a core. What each actor holds and what all hold stays, and
-- so does whether the core is good, and which content it keeps.
abbrev pub ActorAddsNothing : Type 0
ActorAddsNothing =
    (s : State) →
    ((actor : ℕ) (x : Thing) → held_by (with_actor s) actor x ≡ held_by s actor x) ×
    ((x : Thing) → held_by (with_actor s) (length s.holdings) x ≡ 0) ×
    (total_of (with_actor s) ≡ total_of s) ×
    (IsGoodState s → IsGoodState (with_actor s)) × (IsGoodState (with_actor s) → IsGoodState s) ×
    ((last : Title → ℕ) → KeepsContent s last → KeepsContent (with_actor s) last) ×
    ((last : Title → ℕ) → KeepsContent (with_actor s) last → KeepsContent s last)

-- Each run of the core is one with an additional actor that takes no part. So that actor may have been there from the start.
abbrev pub ActorStaysAside : Type 0
ActorStaysAside = (s : State) (events : List Event) (after : State) → IsRunTo s events after →
    IsRunTo (with_actor s) events (with_actor after)

-- each of these items goes from the first actor to the second, one after the other
abbrev pub hands_of : ℕ → ℕ → List Item → List Event
hands_of from to items = map (Hand from to) items

-- a raw range as an item
abbrev pub raw_item : RawRange → Item
raw_item r = Raw r.start r.len

-- an Own as an item, whatever its state: it is handed over clean
abbrev pub own_item : OwnTitle → Item
own_item o = Own o.title

-- all that a view holds, piece by piece, as items
abbrev pub items_held : View → List Item
items_held v = map raw_item v.raws ++ (map Free v.frees ++ (map own_item v.owns ++ map Ref v.refs))

-- A hand by view number i is a run of the core, with one more actor that holds nothing: the actor i hands it the
-- parcel's items, in their order, each while it has it. The run ends in the core
-- that is shown after the hand, and no word has changed.
abbrev pub HandIsItsEvents : Type 0
HandIsItsEvents =
    (p : Parcel) (words : List ℕ) (views : List View) (i : ℕ) (v : View) → IsKept words views → get_elem? views i ≡ some v → CanHand p v →
    IsRunTo (with_actor (shown words views)) (hands_of i (length views) p.items)
    (shown words (slice_set views i (left_after p v) ++ given_after p v ∷ []))

-- A take by view number i of view number j is a run of the core: the actor j hands the actor i all that it holds. The run
-- ends in the core that is shown after the take, in which the actor j holds nothing, and no word has changed.
abbrev pub TakeIsItsEvents : Type 0
TakeIsItsEvents =
    (words : List ℕ) (views : List View) (i j : ℕ) (v w : View) →
    IsKept words views → get_elem? views i ≡ some v → get_elem? views j ≡ some w → (j ≡ i → ⊥) → CanTake v w →
    IsRunTo (shown words views) (hands_of j i (items_held w))
    (shown words (slice_set (slice_set views i (united v w)) j (spent_of w)))
