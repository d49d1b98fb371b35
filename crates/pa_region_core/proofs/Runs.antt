-- A hand and a take, as runs of the core that is shown.
use Rattle.std.proofs.Common.{◌≡◌, ℕ, zero, suc, ◌*◌, List, [], ◌∷◌, ◌++◌, length, map, get_or, set, refl, sym, ◌∙◌, ap, subst, arith, inl, inr}
use Rattle.std.proofs.lemmas.List.{length-map, length-append, map-set}
use Rattle.std.proofs.Math.ListN.{get_or-append}
use Rattle.std.proofs.Math.Seq.{get_or-append_seam}
use Rattle.std.proofs.lemmas.Bool.{cases_lt}
use mathlib.Core.Option.{some, some-ne-none}
use lib.ListN.{get_elem?}
use Rattle.pa_slot.specs.Holdings.{RawByte}
use Rattle.pa_machine.specs.Events.{State}
use Rattle.pa_machine.specs.Trail.{IsRunTo}
use Rattle.pa_region.specs.declared.view.View.{View}
use Rattle.pa_region.specs.Views.{pieces_of, byte_words, shown}
use Rattle.pa_region.specs.Rule.{IsKept}
use Rattle.pa_region.specs.Hands.{empty_of, left_after, given_after, united, spent_of}
use Rattle.pa_region.proofs.Pieces.{held_within}
use Rattle.pa_region.proofs.Shown.{map_at, shown_actor}
use Rattle.pa_region_core.specs.Handed.{with_actor, hands_of, items_held, HandIsItsEvents, TakeIsItsEvents}
use Rattle.pa_region_core.proofs.Passing.{ArePassed, run_of}
use Rattle.pa_region_core.proofs.Giving.{HasRawOnce, items_pass}
use Rattle.pa_region_core.proofs.Taking.{all_pass}
use Rattle.pa_region_core.proofs.Actors.{good_with}

-- under the rule no view has a raw byte twice
raw_once : (words : List ℕ) (views : List View) (i : ℕ) (v : View) → IsKept words views → get_elem? views i ≡ some v → HasRawOnce v
raw_once words views i v k at_i b =
    let h = held_within words views i v at_i (RawByte b) in
    elim (cases_lt b (8 * length (byte_words words))) [
      | inl below ↦ elim (k.holders.good.divided.bytes b below) [ inl y ↦ let e = y.0 in omega arith | inr n ↦ let e = n.0 in omega arith ]
      | inr past ↦ let e = k.holders.good.divided.outside b past in omega arith
    ]

-- a view that changes and one that is put at the end, in the core that is shown
put_last : (views : List View) (g : View) →
    set (map pieces_of views ++ [] ∷ []) (length views) (pieces_of g) ≡ map pieces_of (views ++ g ∷ [])
put_last [] g = refl
put_last (z ∷ zs) g = ap (λ hs. pieces_of z ∷ hs) (put_last zs g)

put_both : (views : List View) (i : ℕ) (v l g : View) → get_elem? views i ≡ some v →
    set (set (map pieces_of views ++ [] ∷ []) (length views) (pieces_of g)) i (pieces_of l) ≡ map pieces_of (set views i l ++ g ∷ [])
put_both [] i v l g e = absurd (some-ne-none v (sym e))
put_both (z ∷ zs) zero v l g e = ap (λ hs. pieces_of l ∷ hs) (put_last zs g)
put_both (z ∷ zs) (suc i) v l g e = ap (λ hs. pieces_of z ∷ hs) (put_both zs i v l g e)

pub hand_is_run : HandIsItsEvents
hand_is_run p words views i v k at_i can =
    let s = with_actor (shown words views) in
    let hs = map pieces_of views in
    let n = length views in
    let l = left_after p v in
    let g = given_after p v in
    let long = length-map views pieces_of in
    let more = length-append hs ([] ∷ []) in
    let below = shown_actor words views i v at_i in
    let at_from : get_or (hs ++ [] ∷ []) i [] ≡ pieces_of v = get_or-append hs ([] ∷ []) [] i below ∙ map_at pieces_of views i v [] at_i in
    let at_to : get_or (hs ++ [] ∷ []) n [] ≡ [] =
    subst (λ (m : ℕ). get_or (hs ++ [] ∷ []) m [] ≡ []) long (get_or-append_seam hs [] [] []) in
    let passed : ArePassed p.items (get_or (hs ++ [] ∷ []) i []) (get_or (hs ++ [] ∷ []) n []) (pieces_of l) (pieces_of g) =
    rw (at_from, at_to) (items_pass p.items v (empty_of v) can.items (raw_once words views i v k at_i)) in
    let run = run_of p.items s i n (pieces_of l) (pieces_of g) (λ e. omega arith) (omega arith) (omega arith)
    (good_with (shown words views) k.holders.good) passed in
    subst (λ (after : State). IsRunTo s (hands_of i n p.items) after)
    (ap (λ h. record { words = byte_words words; holdings = h }) (put_both views i v l g at_i)) run

pub take_is_run : TakeIsItsEvents
take_is_run words views i j v w k at_i at_j ne can =
    let s = shown words views in
    let hs = map pieces_of views in
    let both = united v w in
    let spent = spent_of w in
    let passed : ArePassed (items_held w) (get_or hs j []) (get_or hs i []) (pieces_of spent) (pieces_of both) =
    rw (map_at pieces_of views j w [] at_j, map_at pieces_of views i v [] at_i) (all_pass v w can.clean) in
    let run = run_of (items_held w) s j i (pieces_of spent) (pieces_of both) ne (shown_actor words views j w at_j)
    (shown_actor words views i v at_i) k.holders.good passed in
    let ends : set (set hs i (pieces_of both)) j (pieces_of spent) ≡ map pieces_of (set (set views i both) j spent) =
    ap (λ h. set h j (pieces_of spent)) (sym (map-set pieces_of views i both)) ∙ sym (map-set pieces_of (set views i both) j spent) in
    subst (λ (after : State). IsRunTo s (hands_of j i (items_held w)) after)
    (ap (λ h. record { words = byte_words words; holdings = h }) ends) run
