-- Each event that changes an entry, done on the tables, is the event of the state, and leaves the tables sound.
use Rattle.std.proofs.Common.{◌≡◌, ℕ, zero, suc, ◌+◌, ◌-◌, ◌/◌, ◌<◌, Bool, true, false, ◌&&◌, cond, eqb, List, [], ◌∷◌, ◌++◌, Option, Some, None, length, map, get_or, set, refl, sym, ◌∙◌, ap, subst, arith, inl, inr, Contains}
use Rattle.std.specs.Prelude.{Box}
use Rattle.std.specs.Global.{Global}
use Rattle.std.specs.Vec.{with_items}
use Rattle.std.proofs.Common.{Vec}
use Rattle.std.proofs.lemmas.List.{with_items_is}
use Rattle.std.specs.List.{range_with_len, flat_map}
use Rattle.std.proofs.lemmas.List.{length-set}
use Rattle.pa_slot.specs.declared.word.Step.{Step}
use Rattle.pa_slot.specs.declared.word.Step.TheVariants.{Issue, Copy, Reset, Free, Write}
use Rattle.pa_slot.specs.declared.title.Title.{Title}
use Rattle.pa_slot.specs.declared.title.OwnState.{OwnState}
use Rattle.pa_slot.specs.declared.title.OwnState.TheVariants.{Clean, Poisoned}
use Rattle.pa_machine.specs.declared.event.Event.{Event}
use Rattle.pa_machine.specs.declared.event.Event.TheVariants.{Count, Sealed}
use Rattle.pa_machine.specs.declared.slot.Owner.{Owner}
use Rattle.pa_machine.specs.declared.slot.Slot.{Slot}
use Rattle.pa_machine.specs.declared.tables.Tables.{Tables}
use Rattle.pa_slot.specs.Count.{held_of, refs_of, stepped}
use Rattle.pa_slot.specs.Titles.{count_place, count_word, content_count}
use Rattle.pa_slot.specs.Holdings.{Piece, FreePiece, OwnPiece, RefPiece, FreeTitle, OwnOf, OwnAs, RefOf, IsTitleHeld}
use Rattle.pa_machine.specs.Events.{State, IsEnabled, IsAfter, Happens, total_of, Holds, IsSealedAs, words_stepped}
use Rattle.pa_machine.specs.Trail.{IsGoodState}
use Rattle.pa_machine.specs.Tables.{Place, raw_pieces, place_pieces, slot_pieces, pieces_of, holdings_of, state_of, kept_as, slot_at, IsHolderWithin, IsOwnerWithin, IsPlaced, AreSound, IsSameSlot, IsIssuedSlot, IsSlotStepped, IsChangedAt, IsEntryAt}
use Rattle.pa_slot.proofs.Same.{title_tells}
use Rattle.pa_machine.proofs.Totals.{tally_of}
use Rattle.pa_machine.proofs.Keeps.{own_of_state}
use Rattle.pa_machine.proofs.Cutting.{free_alone}
use Rattle.pa_machine.proofs.Happening.{in_total, happens_good}
use Rattle.pa_machine.proofs.Returning.{not_free}
use Rattle.pa_machine.proofs.Reading.{reads_free, reads_own, reads_ref, free_read, own_read, seal_read}
use Rattle.pa_machine.proofs.Enabling.{none_some, actor_is}
use Rattle.pa_machine.proofs.Holding.{IsCutOf, held_back}
use Rattle.pa_machine.proofs.Rowing.{SlotExchanges, issue_slot, copy_slot, reset_slot, free_slot, own_slot, IsSlotChange, slot_exchanges, placed_next, sound_next}

-- the entry at a title's place is the title's
kept_value : (t : Title) (b : Box Slot Global) (o : Slot) → kept_as t (Some b) ≡ Some o → b.value ≡ o
kept_value t b o is = elim (title_tells b.value.title t) [
  | inl y ↦ let e : Some b.value ≡ Some o = rw y.0 at is in cc
  | inr n ↦ absurd (none_some o (rw n.0 at is))
]

entry_is : (c : Tables) (t : Title) (b : Box Slot Global) (o : Slot) → get_or c.slots.items (t.start / 8) None ≡ Some b →
    slot_at c.slots.items t ≡ Some o → b.value ≡ o
entry_is c t b o was is = kept_value t b o (subst (λ (q : Place). kept_as t q ≡ Some o) was is)

-- what the entry says, if its title is held free, owned or pointed to
pub entry_free : (c : Tables) (k : ℕ) (t : Title) (b : Box Slot Global) → AreSound c → k < c.actors → Holds (state_of c) k (FreeTitle t) →
    get_or c.slots.items (t.start / 8) None ≡ Some b → (b.value.title ≡ t) × (b.value.free ≡ Some k) ×
    (slot_at c.slots.items t ≡ Some b.value)
entry_free c k t b sound has h was =
    let r = reads_free c k t sound has h in
    let e = entry_is c t b r.0 was r.1 in
    subst (λ (o : Slot). (o.title ≡ t) × (o.free ≡ Some k) × (slot_at c.slots.items t ≡ Some o)) (sym e) (r.2, r.3, r.1)

pub entry_own : (c : Tables) (k : ℕ) (t : Title) (s : OwnState) (b : Box Slot Global) → AreSound c → k < c.actors →
    Holds (state_of c) k (OwnAs t s) →
    get_or c.slots.items (t.start / 8) None ≡ Some b → (b.value.title ≡ t) × (sealed : Bool) ×
    (b.value.own ≡ Some (record { actor = k; state = s; sealed = sealed })) × (slot_at c.slots.items t ≡ Some b.value) ×
    IsSealedAs (state_of c) k t sealed
entry_own c k t s b sound has h was =
    let r = reads_own c k t s sound has h in
    let e = entry_is c t b r.0 was r.1 in
    let own = ap (λ (o : Slot). o.own) e ∙ r.4 in
    let is = r.1 ∙ ap Some (sym e) in
    (ap (λ (o : Slot). o.title) e ∙ r.2, r.3, own, is, seal_read c k t s r.3 b.value sound has is own)

pub entry_ref : (c : Tables) (k : ℕ) (t : Title) (b : Box Slot Global) → AreSound c → k < c.actors → Holds (state_of c) k (RefOf t) →
    get_or c.slots.items (t.start / 8) None ≡ Some b → (b.value.title ≡ t) × Contains b.value.refs.items k ×
    (slot_at c.slots.items t ≡ Some b.value)
entry_ref c k t b sound has h was =
    let r = reads_ref c k t sound has h in
    let e = entry_is c t b r.0 was r.1 in
    (ap (λ (o : Slot). o.title) e ∙ r.2, subst (λ (o : Slot). Contains o.refs.items k) (sym e) r.3, r.1 ∙ ap Some (sym e))

-- an entry in its place says nothing that the state doesn't
pub placed_at : (c : Tables) (t : Title) (b : Box Slot Global) → AreSound c → get_or c.slots.items (t.start / 8) None ≡ Some b →
    IsPlaced (length c.words.items) c.actors (t.start / 8) (Some b)
placed_at c t b sound was = subst (λ (q : Place). IsPlaced (length c.words.items) c.actors (t.start / 8) q) was (sound.placed (t.start / 8))

no_holder : (c : Tables) (t : Title) (b : Box Slot Global) → AreSound c → slot_at c.slots.items t ≡ Some b.value →
    total_of (state_of c) (FreeTitle t) ≡ 0 →
    (h : Option ℕ) → b.value.free ≡ h → IsHolderWithin c.actors h → b.value.free ≡ None
no_holder c t b sound is none None e within = e
no_holder c t b sound is none (Some w) e within =
    let holds = free_read c w t b.value sound within is e in
    let p = in_total (state_of c) w (FreeTitle t) holds in
    absurd (omega arith)

pub no_owner : (c : Tables) (t : Title) (b : Box Slot Global) → AreSound c → slot_at c.slots.items t ≡ Some b.value →
    total_of (state_of c) (OwnOf t) ≡ 0 →
    (h : Option Owner) → b.value.own ≡ h → IsOwnerWithin c.actors h → b.value.own ≡ None
no_owner c t b sound is none None e within = e
no_owner c t b sound is none (Some w) e within =
    let holds = own_read c w.actor t w.state w.sealed b.value sound within is e in
    let p = own_of_state (total_of (state_of c)) t w.state (tally_of (state_of c).holdings)
    (in_total (state_of c) w.actor (OwnAs t w.state) holds) in
    absurd (omega arith)

holder_within : (n k : ℕ) (back : Bool) (h : Option ℕ) → k < n → IsHolderWithin n h → IsHolderWithin n (cond back (Some k) h)
holder_within n k true h has within = has
holder_within n k false h has within = within

-- an event that changes an entry, and a word, leaves the tables sound
pub row_sound : (e : Event) (c after : Tables) (p : ℕ) (old new : Box Slot Global) → AreSound c → IsEnabled e (state_of c) →
    ((u : Title) → IsCutOf e u → ⊥) →
    IsSlotChange c after p old new → length after.words.items ≡ length c.words.items → new.value.title ≡ old.value.title →
    IsHolderWithin c.actors new.value.free → IsOwnerWithin c.actors new.value.own → Happens e (state_of c) (state_of after) → AreSound after
row_sound e c after p old new sound can uncut ch words title free own h =
    sound_next c after sound words (ap length ch.holders) (ap length ch.slots ∙ length-set c.slots.items p (Some new)) ch.homes
    (placed_next c after p old new sound ch words title free own)
    (λ t held. elim (held_back e (state_of c) (state_of after) can h t held) [ inl was ↦ was | inr cut ↦ absurd (uncut t cut) ])
    (happens_good e (state_of c) (state_of after) sound.good can h)

-- the step that gives the title back does so if bit and count are 0 after it
abbrev pub back_after : ℕ → Bool
back_after v = eqb (held_of v) 0 && eqb (refs_of v) 0

-- one row on a title: what its entry says before and after, the two changes, and what follows
pub record IsRow (e : Event) (c after : Tables) : Type 0 where
  pub happens : Happens e (state_of c) (state_of after)
  pub sound : AreSound after

-- an issue, sealed or not, done on the tables is the one of the state
issue_after : (sealed : Bool) (c after : Tables) (k : ℕ) (t : Title) (old new : Box Slot Global) → AreSound c →
    IsEnabled (Count k t Issue) (state_of c) → IsSlotChange c after (t.start / 8) old new →
    after.words.items ≡ words_stepped Issue (state_of c) t → IsIssuedSlot sealed k old.value new.value →
    IsAfter (state_of c) k (FreePiece t ∷ []) (OwnPiece sealed t Clean ∷ []) (words_stepped Issue (state_of c) t) (state_of after)
issue_after sealed c after k t old new sound can ch words n =
    let o = entry_free c k t old sound (actor_is c k can.0) can.1.0 ch.was in
    let placed = placed_at c t old sound ch.was in
    let alone = free_alone c.words.items (total_of (state_of c)) t sound.good (in_total (state_of c) k (FreeTitle t) can.1.0) in
    let own = no_owner c t old sound o.2 alone.2 old.value.own refl placed.3 in
    let ex = subst (λ (x : Title). SlotExchanges old.value new.value k (FreePiece x ∷ []) k (OwnPiece sealed x Clean ∷ [])) o.0
    (issue_slot sealed old.value new.value k n o.1 own) in
    record { words = words; holdings = slot_exchanges c after (t.start / 8) old new k k _ _ ch ex }

pub sealed_row : (c after : Tables) (k : ℕ) (t : Title) (old new : Box Slot Global) → AreSound c →
    IsEnabled (Sealed k t) (state_of c) → IsSlotChange c after (t.start / 8) old new →
    after.words.items ≡ words_stepped Issue (state_of c) t → IsIssuedSlot true k old.value new.value → IsRow (Sealed k t) c after
sealed_row c after k t old new sound can ch words n =
    let h : Happens (Sealed k t) (state_of c) (state_of after) = issue_after true c after k t old new sound can ch words n in
    record {
      happens = h;
      sound = row_sound (Sealed k t) c after (t.start / 8) old new sound can (λ u cut. cut) ch
          (ap length words ∙ length-set c.words.items (count_place t) _) n.title (rw n.is_free tt) (rw n.is_own (actor_is c k can.0)) h;
    }

pub count_row : (c after : Tables) (k : ℕ) (t : Title) (p : Step) (back : Bool) (old new : Box Slot Global) → AreSound c →
    IsEnabled (Count k t p) (state_of c) →
    IsSlotChange c after (t.start / 8) old new → after.words.items ≡ words_stepped p (state_of c) t →
    back ≡ back_after (stepped p (count_word c.words.items t)) → IsSlotStepped p k back old.value new.value → IsRow (Count k t p) c after
count_row c after k t Issue back old new sound can ch words b n =
    let h : Happens (Count k t Issue) (state_of c) (state_of after) = issue_after false c after k t old new sound can ch words n in
    record {
      happens = h;
      sound = row_sound (Count k t Issue) c after (t.start / 8) old new sound can (λ u cut. cut) ch
          (ap length words ∙ length-set c.words.items (count_place t) _) n.title (rw n.is_free tt) (rw n.is_own (actor_is c k can.0)) h;
    }
count_row c after k t Copy back old new sound can ch words b n =
    let has = actor_is c k can.0 in
    let title : old.value.title ≡ t = elim can.1 [
      | inl own ↦ (entry_own c k t Clean old sound has own.0 ch.was).0
      | inr ref ↦ (entry_ref c k t old sound has ref ch.was).0
    ] in
    let placed = placed_at c t old sound ch.was in
    let ex = subst (λ (x : Title). SlotExchanges old.value new.value k [] k (RefPiece x ∷ [])) title (copy_slot old.value new.value k n) in
    let h : Happens (Count k t Copy) (state_of c) (state_of after) =
    record { words = words; holdings = slot_exchanges c after (t.start / 8) old new k k _ _ ch ex } in
    record {
      happens = h;
      sound = row_sound (Count k t Copy) c after (t.start / 8) old new sound can (λ u cut. cut) ch
          (ap length words ∙ length-set c.words.items (count_place t) _) n.title (rw n.is_free placed.2) (rw n.is_own placed.3) h;
    }
count_row c after k t Reset back old new sound can ch words b n =
    let has = actor_is c k can.0 in
    let o = entry_ref c k t old sound has can.1 ch.was in
    let placed = placed_at c t old sound ch.was in
    let next = n.3 in
    let refs = in_total (state_of c) k (RefOf t) can.1 in
    let none = no_holder c t old sound o.2 (not_free (state_of c) t sound.good (omega arith)) old.value.free refl placed.2 in
    let ex = subst (λ (x : Title). SlotExchanges old.value new.value k (RefPiece x ∷ []) k (cond back (FreePiece x ∷ []) [])) o.0
    (reset_slot old.value new.value k n.0 back n.1 n.2 next (λ _. none)) in
    let ex_back = subst (λ (q : Bool). SlotExchanges old.value new.value k (RefPiece t ∷ []) k (cond q (FreePiece t ∷ []) [])) b ex in
    let h : Happens (Count k t Reset) (state_of c) (state_of after) =
    record { words = words; holdings = slot_exchanges c after (t.start / 8) old new k k _ _ ch ex_back } in
    record {
      happens = h;
      sound = row_sound (Count k t Reset) c after (t.start / 8) old new sound can (λ u cut. cut) ch
          (ap length words ∙ length-set c.words.items (count_place t) _) next.title
          (rw next.is_free (holder_within c.actors k back old.value.free has placed.2)) (rw next.is_own placed.3) h;
    }
count_row c after k t Free back old new sound can ch words b n =
    let has = actor_is c k can.0 in
    let o = entry_own c k t (Poisoned (content_count t)) old sound has can.1 ch.was in
    let placed = placed_at c t old sound ch.was in
    let owns = own_of_state (total_of (state_of c)) t (Poisoned (content_count t)) (tally_of (state_of c).holdings)
    (in_total (state_of c) k (OwnAs t (Poisoned (content_count t))) can.1) in
    let none = no_holder c t old sound o.3 (not_free (state_of c) t sound.good (omega arith)) old.value.free refl placed.2 in
    let ex = subst (λ (x : Title). SlotExchanges old.value new.value k (OwnPiece o.1 x (Poisoned (content_count t)) ∷ []) k
    (cond back (FreePiece x ∷ []) [])) o.0
    (free_slot old.value new.value k (Poisoned (content_count t)) o.1 back n o.2 (λ _. none)) in
    let ex_back = subst (λ (q : Bool). SlotExchanges old.value new.value k (OwnPiece o.1 t (Poisoned (content_count t)) ∷ []) k
    (cond q (FreePiece t ∷ []) [])) b ex in
    let h : Happens (Count k t Free) (state_of c) (state_of after) =
    (o.1, o.4, record { words = words; holdings = slot_exchanges c after (t.start / 8) old new k k _ _ ch ex_back }) in
    record {
      happens = h;
      sound = row_sound (Count k t Free) c after (t.start / 8) old new sound can (λ u cut. cut) ch
          (ap length words ∙ length-set c.words.items (count_place t) _) n.title
          (rw n.is_free (holder_within c.actors k back old.value.free has placed.2)) (rw n.is_own tt) h;
    }
count_row c after k t Write back old new sound can ch words b n =
    let has = actor_is c k can.0 in
    let state = can.1.0.0 in
    let open_own = can.1.0.1 in
    let o = entry_own c k t state old sound has open_own.1 ch.was in
    let placed = placed_at c t old sound ch.was in
    let ex = subst (λ (x : Title). SlotExchanges old.value new.value k (OwnPiece o.1 x state ∷ []) k (OwnPiece o.1 x Clean ∷ [])) o.0
    (own_slot old.value new.value k k state Clean o.1 n o.2) in
    let h : Happens (Count k t Write) (state_of c) (state_of after) =
    (state, o.1, open_own, o.4, record { words = words; holdings = slot_exchanges c after (t.start / 8) old new k k _ _ ch ex }) in
    record {
      happens = h;
      sound = row_sound (Count k t Write) c after (t.start / 8) old new sound can (λ u cut. cut) ch
          (ap length words ∙ length-set c.words.items (count_place t) _) n.title (rw n.is_free placed.2) (rw n.is_own has) h;
    }

abbrev state_with : List ℕ → List (List Piece) → State
state_with w h = record { words = w; holdings = h }

state_is : (s u : State) → s.words ≡ u.words → s.holdings ≡ u.holdings → s ≡ u
state_is s u e f = ap (λ w. state_with w s.holdings) e ∙ ap (λ h. state_with u.words h) f

-- an entry that is as before leaves the state as it was
flat_same : (f : Place → List Piece) (xs : List Place) (p : ℕ) (y : Place) → f y ≡ f (get_or xs p None) →
    flat_map f (set xs p y) ≡ flat_map f xs
flat_same f [] p y e = refl
flat_same f (x ∷ xs) zero y e = ap (λ q. q ++ flat_map f xs) e
flat_same f (x ∷ xs) (suc p) y e = ap (λ q. f x ++ q) (flat_same f xs p y e)

same_pieces : (actor : ℕ) (old new : Slot) → IsSameSlot old new → slot_pieces actor new ≡ slot_pieces actor old
same_pieces actor old new n = rw (n.title, n.is_free, n.is_own, n.is_refs) refl

pub same_row : (c after : Tables) (p : ℕ) (old new : Box Slot Global) → AreSound c → IsSlotChange c after p old new →
    after.words.items ≡ c.words.items →
    IsSameSlot old.value new.value → (state_of after ≡ state_of c) × AreSound after
same_row c after p old new sound ch words n =
    let pieces : (actor : ℕ) →
    pieces_of c.holders.items (set c.slots.items p (Some new)) actor ≡ pieces_of c.holders.items c.slots.items actor = λ actor.
    ap (λ q. raw_pieces actor 0 c.holders.items ++ q)
    (flat_same (place_pieces actor) c.slots.items p (Some new) (rw ch.was (same_pieces actor old.value new.value n))) in
    let holdings : holdings_of c.holders.items
    (set c.slots.items p (Some new)) c.actors ≡ holdings_of c.holders.items c.slots.items c.actors =
    ap (λ (f : ℕ → List Piece). map f (range_with_len 0 c.actors)) (λ i actor. pieces actor i) in
    let held : (state_of after).holdings ≡ (state_of c).holdings = rw (ch.slots, ch.holders, ch.actors) holdings in
    let same : state_of after ≡ state_of c = state_is (state_of after) (state_of c) words held in
    let placed = placed_at_place in (
      same,
      sound_next c after sound (ap length words) (ap length ch.holders)
          (ap length ch.slots ∙ length-set c.slots.items p (Some new)) ch.homes
          (placed_next c after p old new sound ch (ap length words) n.title (rw n.is_free placed.2) (rw n.is_own placed.3))
          (λ t h. subst (λ (s : State). IsTitleHeld (total_of s) t) same h)
          (subst IsGoodState (sym same) sound.good),
    )
  where
    placed_at_place : IsPlaced (length c.words.items) c.actors p (Some old)
    placed_at_place = subst (λ (q : Place). IsPlaced (length c.words.items) c.actors p q) ch.was (sound.placed p)

-- a title's entry is at its place
kept_there : (t : Title) (q : Place) (o : Slot) (P : Slot → Type 0) → kept_as t q ≡ Some o → P o → (b : Box Slot Global) × (q ≡ Some b) ×
    P b.value
kept_there t None o P is h = absurd (none_some o is)
kept_there t (Some b) o P is h = (b, refl, subst P (sym (kept_value t b o is)) h)

pub entry_there : (c : Tables) (t : Title) (o : Slot) (P : Slot → Type 0) → slot_at c.slots.items t ≡ Some o → P o →
    IsEntryAt P c.slots.items (t.start / 8)
entry_there c t o P is h = kept_there t (get_or c.slots.items (t.start / 8) None) o P is h

-- the entry that a step finds
pub count_entry : (c : Tables) (k : ℕ) (t : Title) (p : Step) → AreSound c → IsEnabled (Count k t p) (state_of c) →
    IsEntryAt (λ o. p ≡ Reset → Contains o.refs.items k) c.slots.items (t.start / 8)
count_entry c k t Issue sound can =
    entry_there c t (reads_free c k t sound (actor_is c k can.0) can.1.0).0 _ (reads_free c k t sound (actor_is c k can.0) can.1.0).1
    (λ e. cc)
count_entry c k t Copy sound can = elim can.1 [
  | inl own ↦ let r = reads_own c k t Clean sound (actor_is c k can.0) own.0 in entry_there c t r.0 _ r.1 (λ e. cc)
  | inr ref ↦ let r = reads_ref c k t sound (actor_is c k can.0) ref in entry_there c t r.0 _ r.1 (λ e. cc)
]
count_entry c k t Reset sound can = let r = reads_ref c k t sound (actor_is c k can.0) can.1 in entry_there c t r.0 _ r.1 (λ _. r.3)
count_entry c k t Free sound can = let r = reads_own c k t (Poisoned (content_count t)) sound (actor_is c k can.0) can.1 in
    entry_there c t r.0 _ r.1 (λ e. cc)
count_entry c k t Write sound can = let r = reads_own c k t can.1.0.0 sound (actor_is c k can.0) can.1.0.1.1 in
    entry_there c t r.0 _ r.1 (λ e. cc)

-- what a call on the table of titles did, as a change of the tables
pub changed_row : (c after : Tables) (R : Slot → Slot → Type 0) (before later : List Place) (p : ℕ) (t : Title) → before ≡ c.slots.items →
    p ≡ t.start / 8 →
    after.slots.items ≡ later → after.holders.items ≡ c.holders.items → after.homes.items ≡ c.homes.items → after.actors ≡ c.actors →
    (h : IsChangedAt R before p later) → IsSlotChange c after (t.start / 8) h.0 h.1
changed_row c after R before later p t same place is holders homes actors h = record {
  was = rw (← same, ← place) h.2;
  slots = is ∙ (h.3 ∙ rw (same, place) refl);
  holders = holders;
  homes = homes;
  actors = actors;
}

-- the table holds what the call left
pub kept_items : (v : Vec Place Global) (R : Slot → Slot → Type 0) (before later : List Place) (p : ℕ) → before ≡ v.items →
    IsChangedAt R before p later → (with_items v later).items ≡ later
kept_items v R before later p same h =
    with_items_is v later (ap length h.3 ∙ (length-set before p (Some h.1) ∙ (ap length same ∙ sym v.ok.0)))
