-- How a change of the tables changes what the actors hold, and that the tables stay sound.
use Rattle.std.proofs.Common.{◌≡◌, ℕ, zero, suc, ◌+◌, ◌-◌, ◌<◌, Bool, true, false, cond, eqb, List, [], ◌∷◌, ◌++◌, Option, Some, None, length, get_or, set, refl, sym, ◌∙◌, ap, subst, arith, inl, inr}
use Rattle.std.specs.List.{swap_remove}
use Rattle.std.proofs.lemmas.List.Sums.{sum_by-set, sum_by_push, sum_by-swap_remove}
use Rattle.std.proofs.lemmas.List.FromFn.{length-map-range_with_len}
use Rattle.std.proofs.lemmas.List.{get_or-set_other, get_or-set_same}
use Rattle.std.proofs.lemmas.Bool.{cases_eq}
use Rattle.std.specs.Prelude.{Box}
use Rattle.std.specs.Global.{Global}
use Rattle.pa_slot.specs.declared.title.Title.{Title}
use Rattle.pa_slot.specs.declared.title.OwnState.{OwnState}
use Rattle.pa_slot.specs.declared.title.OwnState.TheVariants.{Clean}
use Rattle.pa_machine.specs.declared.slot.Owner.{Owner}
use Rattle.pa_machine.specs.declared.slot.Slot.{Slot}
use Rattle.pa_machine.specs.declared.tables.Tables.{Tables}
use Rattle.pa_slot.specs.Holdings.{Piece, FreePiece, OwnPiece, RefPiece, Thing, IsTitleHeld, held_in}
use Rattle.pa_machine.specs.Events.{Exchanges, of_actor, total_of}
use Rattle.pa_machine.specs.Trail.{IsGoodState}
use Rattle.pa_machine.specs.Tables.{Place, raw_pieces, free_pieces, own_pieces, ref_pieces, slot_pieces, place_pieces, pieces_of, holdings_of, state_of, IsHolderWithin, IsOwnerWithin, IsPlaced, AreSound, IsNextSlot, IsIssuedSlot, IsRestatedSlot, is_sealed}
use Rattle.pa_machine.proofs.Tabled.{held_tables, ref_sum}
use Rattle.pa_machine.proofs.Reading.{slot_parts}

-- what an actor has of the whole tables, one entry of which becomes another and whose holders of bytes may change
pub tables_exchange : (holders later : List (Option ℕ)) (slots : List Place) (p : ℕ) (new : Place) (actors : ℕ)
    (lost gained : ℕ → List Piece) → p < length slots →
    ((actor : ℕ) (x : Thing) → actor < actors →
    held_in (raw_pieces actor 0 later) x + held_in (place_pieces actor new) x + held_in (lost actor) x
    ≡ held_in (raw_pieces actor 0 holders) x + held_in (place_pieces actor (get_or slots p None)) x + held_in (gained actor) x) →
    Exchanges (holdings_of holders slots actors) lost gained (holdings_of later (set slots p new) actors)
tables_exchange holders later slots p new actors lost gained inside each =
    let a = length-map-range_with_len (pieces_of holders slots) 0 actors in
    let b = length-map-range_with_len (pieces_of later (set slots p new)) 0 actors in (
      b ∙ sym a,
      λ actor x below.
          let has : actor < actors = omega arith in
          let before = held_tables holders slots actors actor x has in
          let after = held_tables later (set slots p new) actors actor x has in
          let sums = sum_by-set (λ q. held_in (place_pieces actor q) x) slots p new None inside in
          let e = each actor x has in
          omega arith,
    )

-- what an actor has of the whole tables, one entry of which becomes another while the holders of bytes stay
pub slot_exchange : (holders : List (Option ℕ)) (slots : List Place) (p : ℕ) (new : Place) (actors : ℕ) (lost gained : ℕ → List Piece) →
    p < length slots →
    ((actor : ℕ) (x : Thing) → actor < actors →
    held_in (place_pieces actor new) x + held_in (lost actor) x ≡ held_in (place_pieces actor (get_or slots p None)) x + held_in
    (gained actor) x) →
    Exchanges (holdings_of holders slots actors) lost gained (holdings_of holders (set slots p new) actors)
slot_exchange holders slots p new actors lost gained inside each =
    tables_exchange holders holders slots p new actors lost gained inside (λ actor x has. let e = each actor x has in omega arith)

-- what an actor has of the whole tables, where only the holders of bytes change
pub raw_exchange : (holders later : List (Option ℕ)) (slots : List Place) (actors : ℕ) (lost gained : ℕ → List Piece) →
    ((actor : ℕ) (x : Thing) → actor < actors →
    held_in (raw_pieces actor 0 later) x + held_in (lost actor) x ≡ held_in (raw_pieces actor 0 holders) x + held_in (gained actor) x) →
    Exchanges (holdings_of holders slots actors) lost gained (holdings_of later slots actors)
raw_exchange holders later slots actors lost gained each =
    let a = length-map-range_with_len (pieces_of holders slots) 0 actors in
    let b = length-map-range_with_len (pieces_of later slots) 0 actors in (
      b ∙ sym a,
      λ actor x below.
          let has : actor < actors = omega arith in
          let before = held_tables holders slots actors actor x has in
          let after = held_tables later slots actors actor x has in
          let e = each actor x has in
          omega arith,
    )

-- an entry's parts after a change, as what an actor holds of it
pub next_parts : (actor : ℕ) (old new : Slot) (free : Option ℕ) (own : Option Owner) (refs : List ℕ) (x : Thing) →
    IsNextSlot old new free own refs →
    held_in (slot_pieces actor new) x ≡ held_in
    (free_pieces actor old.title free) x + (held_in (own_pieces actor old.title own) x + held_in (ref_pieces actor old.title refs) x)
next_parts actor old new free own refs x n =
    slot_parts actor new x ∙ parts
  where
    parts : held_in (free_pieces actor new.title new.free)
        x + (held_in (own_pieces actor new.title new.own) x + held_in (ref_pieces actor new.title new.refs.items) x)
        ≡ held_in (free_pieces actor old.title free) x + (held_in (own_pieces actor old.title own) x + held_in
        (ref_pieces actor old.title refs) x)
    parts = rw (n.title, n.is_free, n.is_own, n.is_refs) refl

pub refs_push : (actor other : ℕ) (t : Title) (rs : List ℕ) (x : Thing) →
    held_in (ref_pieces actor t (rs ++ other ∷ [])) x ≡ held_in (ref_pieces actor t rs) x + held_in
    (of_actor other (RefPiece t ∷ []) actor) x
refs_push actor other t rs x =
    let a = ref_sum actor t (rs ++ other ∷ []) x in
    let b = ref_sum actor t rs x in
    let c = sum_by_push (λ r. held_in (of_actor r (RefPiece t ∷ []) actor) x) rs other in
    omega arith

pub refs_drop : (actor other k : ℕ) (t : Title) (rs : List ℕ) (x : Thing) → k < length rs → get_or rs k 0 ≡ other →
    held_in (ref_pieces actor t (swap_remove rs k 0)) x + held_in (of_actor other (RefPiece t ∷ []) actor) x ≡ held_in
    (ref_pieces actor t rs) x
refs_drop actor other k t rs x below is =
    let a = ref_sum actor t (swap_remove rs k 0) x in
    let b = ref_sum actor t rs x in
    let c = sum_by-swap_remove (λ r. held_in (of_actor r (RefPiece t ∷ []) actor) x) rs k 0 below in
    let d = rw is at c in
    omega arith

pub refs_pass : (actor from to k : ℕ) (t : Title) (rs : List ℕ) (x : Thing) → k < length rs → get_or rs k 0 ≡ from →
    held_in (ref_pieces actor t (set rs k to)) x + held_in (of_actor from (RefPiece t ∷ []) actor) x
    ≡ held_in (ref_pieces actor t rs) x + held_in (of_actor to (RefPiece t ∷ []) actor) x
refs_pass actor from to k t rs x below is =
    let a = ref_sum actor t (set rs k to) x in
    let b = ref_sum actor t rs x in
    let c = sum_by-set (λ r. held_in (of_actor r (RefPiece t ∷ []) actor) x) rs k to 0 below in
    let d = rw is at c in
    omega arith

-- a part that comes if the title is given back
pub free_part : (actor k : ℕ) (back : Bool) (t : Title) (h : Option ℕ) (x : Thing) → (back ≡ true → h ≡ None) →
    held_in (free_pieces actor t (cond back (Some k) h)) x ≡ held_in (free_pieces actor t h) x + held_in
    (of_actor k (cond back (FreePiece t ∷ []) []) actor) x
free_part actor k true t h x none = let e = none refl in rw e (omega arith)
free_part actor k false t h x none = let e = nothing (eqb k actor) in omega arith
  where
    nothing : (c : Bool) → held_in (cond {A = List Piece} c [] []) x ≡ 0
    nothing true = refl
    nothing false = refl

pub of_nothing : (actor k : ℕ) (x : Thing) → held_in (of_actor k [] actor) x ≡ 0
of_nothing actor k x = by_test (eqb k actor)
  where
    by_test : (c : Bool) → held_in (cond {A = List Piece} c [] []) x ≡ 0
    by_test true = refl
    by_test false = refl

-- how an entry changes what each actor has of it: this is lost, that is gained
abbrev pub SlotExchanges : Slot → Slot → ℕ → List Piece → ℕ → List Piece → Type 0
SlotExchanges old new from lost to gained = (actor : ℕ) (x : Thing) →
    held_in (slot_pieces actor new) x + held_in (of_actor from lost actor) x ≡ held_in (slot_pieces actor old) x + held_in
    (of_actor to gained actor) x

pub issue_slot : (sealed : Bool) (old new : Slot) (k : ℕ) → IsIssuedSlot sealed k old new →
    old.free ≡ Some k → old.own ≡ None → SlotExchanges old new k (FreePiece old.title ∷ []) k (OwnPiece sealed old.title Clean ∷ [])
issue_slot sealed old new k n free own actor x =
    let a = next_parts actor old new _ _ _ x n in
    let b = slot_parts actor old x in
    let c : held_in (free_pieces actor old.title old.free) x ≡ held_in (of_actor k (FreePiece old.title ∷ []) actor) x = rw free refl in
    let d : held_in (own_pieces actor old.title old.own) x ≡ 0 = rw own refl in
    omega arith

pub copy_slot : (old new : Slot) (k : ℕ) → IsNextSlot old new old.free old.own (old.refs.items ++ k ∷ []) →
    SlotExchanges old new k [] k (RefPiece old.title ∷ [])
copy_slot old new k n actor x =
    let a = next_parts actor old new _ _ _ x n in
    let b = slot_parts actor old x in
    let c = refs_push actor k old.title old.refs.items x in
    let d = of_nothing actor k x in
    omega arith

pub reset_slot : (old new : Slot) (k place : ℕ) (back : Bool) → place < length old.refs.items → get_or old.refs.items place 0 ≡ k →
    IsNextSlot old new (cond back (Some k) old.free) old.own (swap_remove old.refs.items place 0) → (back ≡ true → old.free ≡ None) →
    SlotExchanges old new k (RefPiece old.title ∷ []) k (cond back (FreePiece old.title ∷ []) [])
reset_slot old new k place back below is n none actor x =
    let a = next_parts actor old new _ _ _ x n in
    let b = slot_parts actor old x in
    let c = refs_drop actor k place old.title old.refs.items x below is in
    let d = free_part actor k back old.title old.free x none in
    omega arith

pub free_slot : (old new : Slot) (k : ℕ) (s : OwnState) (sealed back : Bool) →
    IsNextSlot old new (cond back (Some k) old.free) None old.refs.items →
    old.own ≡ Some (record { actor = k; state = s; sealed = sealed }) → (back ≡ true → old.free ≡ None) →
    SlotExchanges old new k (OwnPiece sealed old.title s ∷ []) k (cond back (FreePiece old.title ∷ []) [])
free_slot old new k s sealed back n own none actor x =
    let a = next_parts actor old new _ _ _ x n in
    let b = slot_parts actor old x in
    let c : held_in (own_pieces actor old.title old.own) x ≡ held_in (of_actor k (OwnPiece sealed old.title s ∷ []) actor) x =
    rw own refl in
    let d = free_part actor k back old.title old.free x none in
    omega arith

-- an Own in another state, or of another actor, sealed as before
pub own_slot : (old new : Slot) (from to : ℕ) (s other : OwnState) (sealed : Bool) → IsRestatedSlot to other old new →
    old.own ≡ Some (record { actor = from; state = s; sealed = sealed }) →
    SlotExchanges old new from (OwnPiece sealed old.title s ∷ []) to (OwnPiece sealed old.title other ∷ [])
own_slot old new from to s other sealed n own actor x =
    let a = next_parts actor old new _ _ _ x n in
    let b = slot_parts actor old x in
    let c : held_in (own_pieces actor old.title old.own) x ≡ held_in (of_actor from (OwnPiece sealed old.title s ∷ []) actor) x =
    rw own refl in
    let now : Option Owner = Some (record { actor = to; state = other; sealed = is_sealed old.own }) in
    let d : held_in (own_pieces actor old.title now) x ≡ held_in (of_actor to (OwnPiece sealed old.title other ∷ []) actor) x =
    rw own refl in
    omega arith

pub hand_free_slot : (old new : Slot) (from to : ℕ) → IsNextSlot old new (Some to) old.own old.refs.items → old.free ≡ Some from →
    SlotExchanges old new from (FreePiece old.title ∷ []) to (FreePiece old.title ∷ [])
hand_free_slot old new from to n free actor x =
    let a = next_parts actor old new _ _ _ x n in
    let b = slot_parts actor old x in
    let c : held_in (free_pieces actor old.title old.free) x ≡ held_in (of_actor from (FreePiece old.title ∷ []) actor) x = rw free refl in
    omega arith

pub hand_ref_slot : (old new : Slot) (from to k : ℕ) → k < length old.refs.items → get_or old.refs.items k 0 ≡ from →
    IsNextSlot old new old.free old.own (set old.refs.items k to) →
    SlotExchanges old new from (RefPiece old.title ∷ []) to (RefPiece old.title ∷ [])
hand_ref_slot old new from to k below is n actor x =
    let a = next_parts actor old new _ _ _ x n in
    let b = slot_parts actor old x in
    let c = refs_pass actor from to k old.title old.refs.items x below is in
    omega arith

-- one entry becomes another, and nothing else but words changes
pub record IsSlotChange (c after : Tables) (p : ℕ) (old new : Box Slot Global) : Type 0 where
  pub was : get_or c.slots.items p None ≡ Some old
  pub slots : after.slots.items ≡ set c.slots.items p (Some new)
  pub holders : after.holders.items ≡ c.holders.items
  pub homes : after.homes.items ≡ c.homes.items
  pub actors : after.actors ≡ c.actors

-- an index at which the table has an entry is within the table
place_inside : (slots : List Place) (p : ℕ) (b : Box Slot Global) → get_or slots p None ≡ Some b → p < length slots
place_inside [] p b is = absurd cc
place_inside (x ∷ xs) zero b is = omega arith
place_inside (x ∷ xs) (suc p) b is = let e = place_inside xs p b is in omega arith

pub slot_exchanges : (c after : Tables) (p : ℕ) (old new : Box Slot Global) (from to : ℕ) (lost gained : List Piece) →
    IsSlotChange c after p old new →
    SlotExchanges old.value new.value from lost to gained →
    Exchanges (state_of c).holdings (of_actor from lost) (of_actor to gained) (state_of after).holdings
slot_exchanges c after p old new from to lost gained ch e =
    rw (ch.slots, ch.holders, ch.actors)
    (slot_exchange c.holders.items c.slots.items p (Some new) c.actors (of_actor from lost) (of_actor to gained)
    (place_inside c.slots.items p old ch.was)
    (λ actor x below. rw ch.was (e actor x)))

-- each entry stays in its place
pub placed_next : (c after : Tables) (p : ℕ) (old new : Box Slot Global) → AreSound c → IsSlotChange c after p old new →
    length after.words.items ≡ length c.words.items →
    new.value.title ≡ old.value.title → IsHolderWithin c.actors new.value.free → IsOwnerWithin c.actors new.value.own →
    (i : ℕ) → IsPlaced (length after.words.items) after.actors i (get_or after.slots.items i None)
placed_next c after p old new sound ch words title free own i = rw (words, ch.actors, ch.slots) (elim (cases_eq i p) [
  | inl same ↦
      let inside = place_inside c.slots.items p old ch.was in
      let e : get_or (set c.slots.items p (Some new)) i None ≡ Some new =
      rw same (get_or-set_same c.slots.items p (Some new) None inside) in
      let was_p = subst (λ (q : Place). IsPlaced (length c.words.items) c.actors p q) ch.was (sound.placed p) in
      let was : IsPlaced (length c.words.items) c.actors i (Some old) = rw same was_p in
      rw e (rw title was.0, rw title was.1, free, own)
  | inr ne ↦ rw (get_or-set_other c.slots.items p i (Some new) None ne) (sound.placed i)
])

-- the tables stay sound if the state stays good, entries stay in place, and a title that is held was held before
pub sound_next : (c after : Tables) → AreSound c → length after.words.items ≡ length c.words.items →
    length after.holders.items ≡ length c.holders.items →
    length after.slots.items ≡ length c.slots.items → after.homes.items ≡ c.homes.items →
    ((i : ℕ) → IsPlaced (length after.words.items) after.actors i (get_or after.slots.items i None)) →
    ((t : Title) → IsTitleHeld (total_of (state_of after)) t → IsTitleHeld (total_of (state_of c)) t) → IsGoodState (state_of after) →
    AreSound after
sound_next c after sound words holders slots homes placed back good =
    let a = sound.holders in let b = sound.slots in let d = sound.homes in
    record {
      holders = omega arith;
      slots = omega arith;
      homes = ap length homes ∙ (d ∙ sym words);
      placed = placed;
      pointed = λ t q held low high. rw homes (sound.pointed t q (back t held) low high);
      good = good;
    }
