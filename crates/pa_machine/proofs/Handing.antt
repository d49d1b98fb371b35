-- Stores, poisonings and hands, done on the tables, are the events of the state.
use Rattle.std.proofs.Common.{◌≡◌, ℕ, ◌+◌, ◌-◌, ◌*◌, ◌/◌, ◌<◌, ◌≤◌, Bool, true, false, cond, eqb, List, [], ◌∷◌, Some, None, length, get_or, set, refl, ◌∙◌, ap, subst, arith, ◌⊎◌, inl, inr}
use Rattle.std.specs.Prelude.{Box}
use Rattle.std.specs.Global.{Global}
use Rattle.std.proofs.lemmas.List.{length-set}
use Rattle.std.proofs.lemmas.Bool.{cases_lt}
use Rattle.pa_slot.specs.declared.title.Title.{Title}
use Rattle.pa_slot.specs.declared.title.OwnState.{OwnState}
use Rattle.pa_slot.specs.declared.title.OwnState.TheVariants.{Clean, Dirty, Poisoned}
use Rattle.pa_machine.specs.declared.event.Item.TheVariants.{Raw as RawItem, Free as FreeItem, Own as OwnItem, Ref as RefItem}
use Rattle.pa_machine.specs.declared.event.Event.{Event}
use Rattle.pa_machine.specs.declared.event.Event.TheVariants.{Store, Poison, Hand}
use Rattle.pa_machine.specs.declared.slot.Slot.{Slot}
use Rattle.pa_machine.specs.declared.tables.Tables.{Tables}
use Rattle.pa_slot.specs.Titles.{Covers, content_place, progress, poison, IsContentOf}
use Rattle.pa_slot.specs.Holdings.{Piece, RawPiece, FreePiece, OwnPiece, RefPiece, Thing, RawByte, FreeTitle, OwnOf, OwnAs, SealedOwn, RefOf, IsTitleHeld, held_in, one}
use Rattle.pa_machine.specs.Events.{HasActor, IsEnabled, Happens, HoldsOpen, total_of, Holds, of_actor, Exchanges, IsRawWord, IsFreeWord, IsOwnWord}
use Rattle.pa_machine.specs.Tables.{is_holder, raw_pieces, state_of, slot_over, AreSound, IsNextSlot, IsRestatedSlot, IsFilled, MayWrite, MayChange}
use Rattle.pa_machine.proofs.Cutting.{covered_raw, uncovered_raw, free_alone}
use Rattle.pa_machine.proofs.Totals.{tally_of}
use Rattle.pa_machine.proofs.Keeps.{own_of_state}
use Rattle.pa_machine.proofs.Happening.{in_total, happens_good, own_state_is}
use Rattle.pa_machine.proofs.Tabled.{raw_titles, raw_amount}
use Rattle.pa_machine.proofs.Reading.{reads_own, own_read, reads_raw}
use Rattle.pa_machine.proofs.Enabling.{actor_is, raw_inside, held_own, over_entry, entry_over, write_over}
use Rattle.pa_machine.proofs.Holding.{IsCutOf, held_back}
use Rattle.pa_machine.proofs.Rowing.{SlotExchanges, own_slot, hand_free_slot, hand_ref_slot, IsSlotChange, slot_exchanges, raw_exchange, sound_next}
use Rattle.pa_machine.proofs.Rows.{IsRow, entry_free, entry_own, entry_ref, placed_at, row_sound}

-- a hand of a free title, of a clean Own and of a Ref
pub hand_free_row : (c after : Tables) (from to : ℕ) (t : Title) (old new : Box Slot Global) → AreSound c →
    IsEnabled (Hand from to (FreeItem t)) (state_of c) →
    IsSlotChange c after (t.start / 8) old new → after.words.items ≡ c.words.items →
    IsNextSlot old.value new.value (Some to) old.value.own old.value.refs.items →
    IsRow (Hand from to (FreeItem t)) c after
hand_free_row c after from to t old new sound can ch words n =
    let o = entry_free c from t old sound (actor_is c from can.0) can.2 ch.was in
    let placed = placed_at c t old sound ch.was in
    let ex = subst (λ (x : Title). SlotExchanges old.value new.value from (FreePiece x ∷ []) to (FreePiece x ∷ [])) o.0
    (hand_free_slot old.value new.value from to n o.1) in
    let h : Happens (Hand from to (FreeItem t)) (state_of c) (state_of after) =
    (words, (false, tt, slot_exchanges c after (t.start / 8) old new from to _ _ ch ex)) in
    record {
      happens = h;
      sound = row_sound (Hand from to (FreeItem t)) c after (t.start / 8) old new sound can (λ u cut. cut) ch (ap length words) n.title
          (rw n.is_free (actor_is c to can.1)) (rw n.is_own placed.3) h;
    }

pub hand_own_row : (c after : Tables) (from to : ℕ) (t : Title) (old new : Box Slot Global) → AreSound c →
    IsEnabled (Hand from to (OwnItem t)) (state_of c) →
    IsSlotChange c after (t.start / 8) old new → after.words.items ≡ c.words.items →
    IsRestatedSlot to Clean old.value new.value → IsRow (Hand from to (OwnItem t)) c after
hand_own_row c after from to t old new sound can ch words n =
    let o = entry_own c from t Clean old sound (actor_is c from can.0) can.2 ch.was in
    let placed = placed_at c t old sound ch.was in
    let ex = subst (λ (x : Title). SlotExchanges old.value new.value from (OwnPiece o.1 x Clean ∷ []) to (OwnPiece o.1 x Clean ∷ [])) o.0
    (own_slot old.value new.value from to Clean Clean o.1 n o.2) in
    let h : Happens (Hand from to (OwnItem t)) (state_of c) (state_of after) =
    (words, (o.1, o.4, slot_exchanges c after (t.start / 8) old new from to _ _ ch ex)) in
    record {
      happens = h;
      sound = row_sound (Hand from to (OwnItem t)) c after (t.start / 8) old new sound can (λ u cut. cut) ch (ap length words) n.title
          (rw n.is_free placed.2) (rw n.is_own (actor_is c to can.1)) h;
    }

pub hand_ref_row : (c after : Tables) (from to : ℕ) (t : Title) (old new : Box Slot Global) → AreSound c →
    IsEnabled (Hand from to (RefItem t)) (state_of c) →
    IsSlotChange c after (t.start / 8) old new → after.words.items ≡ c.words.items → (k : ℕ) → k < length old.value.refs.items →
    get_or old.value.refs.items k 0 ≡ from →
    IsNextSlot old.value new.value old.value.free old.value.own (set old.value.refs.items k to) → IsRow (Hand from to (RefItem t)) c after
hand_ref_row c after from to t old new sound can ch words k below is n =
    let o = entry_ref c from t old sound (actor_is c from can.0) can.2 ch.was in
    let placed = placed_at c t old sound ch.was in
    let ex = subst (λ (x : Title). SlotExchanges old.value new.value from (RefPiece x ∷ []) to (RefPiece x ∷ [])) o.0
    (hand_ref_slot old.value new.value from to k below is n) in
    let h : Happens (Hand from to (RefItem t)) (state_of c) (state_of after) =
    (words, (false, tt, slot_exchanges c after (t.start / 8) old new from to _ _ ch ex)) in
    record {
      happens = h;
      sound = row_sound (Hand from to (RefItem t)) c after (t.start / 8) old new sound can (λ u cut. cut) ch (ap length words) n.title
          (rw n.is_free placed.2) (rw n.is_own placed.3) h;
    }

-- the next word of an Own is poisoned
pub poison_row : (c after : Tables) (k : ℕ) (t : Title) (state : OwnState) (old new : Box Slot Global) → AreSound c →
    IsEnabled (Poison k t) (state_of c) →
    Holds (state_of c) k (OwnAs t state) → IsSlotChange c after (t.start / 8) old new →
    after.words.items ≡ set c.words.items (content_place t (progress state)) poison →
    IsRestatedSlot k (Poisoned (progress state + 1)) old.value new.value → IsRow (Poison k t) c after
poison_row c after k t state old new sound can has ch words n =
    let o = entry_own c k t state old sound (actor_is c k can.0) has ch.was in
    let placed = placed_at c t old sound ch.was in
    let next = Poisoned (progress state + 1) in
    let ex = subst (λ (x : Title). SlotExchanges old.value new.value k (OwnPiece o.1 x state ∷ []) k (OwnPiece o.1 x next ∷ [])) o.0
    (own_slot old.value new.value k k state next o.1 n o.2) in
    let h : Happens (Poison k t) (state_of c) (state_of after) =
    (state, o.1, has, o.4, record { words = words; holdings = slot_exchanges c after (t.start / 8) old new k k _ _ ch ex }) in
    record {
      happens = h;
      sound = row_sound (Poison k t) c after (t.start / 8) old new sound can (λ u cut. cut) ch
          (ap length words ∙ length-set c.words.items _ _) n.title (rw n.is_free placed.2) (rw n.is_own (actor_is c k can.0)) h;
    }

-- a raw byte lies in no title that somebody holds
pub raw_unheld : (c : Tables) (k at_byte : ℕ) (t : Title) → AreSound c → Holds (state_of c) k (RawByte at_byte) →
    IsTitleHeld (total_of (state_of c)) t → Covers t at_byte → ⊥
raw_unheld c k at_byte t sound raw held covers =
    let r = in_total (state_of c) k (RawByte at_byte) raw in
    elim (cases_lt at_byte (8 * length c.words.items)) [
      | inl below ↦ elim (sound.good.divided.bytes at_byte below) [ inl y ↦ y.1 t held covers | inr n ↦ let z = n.0 in omega arith ]
      | inr past ↦ let z = sound.good.divided.outside at_byte past in omega arith
    ]

-- what a store to an Own asks, by what the table of homes finds there
opens : (c : Tables) (k at_byte : ℕ) (t : Title) (s : OwnState) → AreSound c → MayChange (state_of c) k t
    → Holds (state_of c) k (OwnAs t s) → IsContentOf t at_byte → IsOwnWord (state_of c) k at_byte t s
opens c k at_byte t s sound (inl free) holds within =
    let alone = free_alone c.words.items (total_of (state_of c)) t sound.good (in_total (state_of c) k (FreeTitle t) free) in
    let none = alone.2 in
    let p = own_of_state (total_of (state_of c)) t s (tally_of (state_of c).holdings) (in_total (state_of c) k (OwnAs t s) holds) in
    absurd (omega arith)
opens c k at_byte t s sound (inr own) holds within =
    let same = own_state_is (state_of c) k k t own.0.0 s sound.good own.0.1.1 holds in
    (subst (λ (q : OwnState). HoldsOpen (state_of c) k t q) same own.0.1, within, own.1)

own_word : (c : Tables) (k at_byte : ℕ) (o : Slot) (s : OwnState) → AreSound c → HasActor (state_of c) k →
    slot_over c.homes.items c.slots.items at_byte ≡ Some o →
    IsRawWord (state_of c) k at_byte ⊎ MayWrite (state_of c) k at_byte → Holds (state_of c) k (OwnAs o.title s) → Covers o.title at_byte →
    IsOwnWord (state_of c) k at_byte o.title s
own_word c k at_byte o s sound has over (inl raw) holds covers =
    absurd (raw_unheld c k at_byte o.title sound (raw at_byte (omega arith) (omega arith)) (held_own c k o.title s holds) covers)
own_word c k at_byte o s sound has over (inr may) holds covers =
    let r = write_over c k at_byte sound (actor_is c k has) may in
    let same : r.0 ≡ o = let e = r.1 in cc in
    opens c k at_byte o.title s sound (subst (λ (q : Slot). MayChange (state_of c) k q.title) same r.3) holds
    (subst (λ (q : Slot). IsContentOf q.title at_byte) same r.2)

-- a store to the content of an Own that the table of homes finds there
pub store_own_row : (c after : Tables) (k at_byte value : ℕ) (o : Slot) (s : OwnState) (sealed : Bool) (old new : Box Slot Global) →
    AreSound c →
    IsEnabled (Store k at_byte value) (state_of c) →
    slot_over c.homes.items c.slots.items at_byte ≡ Some o → o.own ≡ Some (record { actor = k; state = s; sealed = sealed }) →
    IsSlotChange c after (o.title.start / 8) old new → after.words.items ≡ set c.words.items (at_byte / 8) value →
    IsRestatedSlot k Dirty old.value new.value → IsRow (Store k at_byte value) c after
store_own_row c after k at_byte value o s sealed old new sound can over own ch words n =
    let has = actor_is c k can.0 in
    let e = over_entry c at_byte o sound over in
    let holds = own_read c k o.title s sealed o sound has e.0 own in
    let entry = entry_own c k o.title s old sound has holds ch.was in
    let placed = placed_at c o.title old sound ch.was in
    let ex = subst (λ (x : Title). SlotExchanges old.value new.value k (OwnPiece entry.1 x s ∷ []) k (OwnPiece entry.1 x Dirty ∷ []))
    entry.0
    (own_slot old.value new.value k k s Dirty entry.1 n entry.2) in
    let word = own_word c k at_byte o s sound can.0 over can.2 holds e.1 in
    let h : Happens (Store k at_byte value) (state_of c) (state_of after) =
    inr (
      o.title,
      s,
      entry.1,
      word,
      entry.4,
      record { words = words; holdings = slot_exchanges c after (o.title.start / 8) old new k k _ _ ch ex },
    ) in
    record {
      happens = h;
      sound = row_sound (Store k at_byte value) c after (o.title.start / 8) old new sound can (λ u cut. cut) ch
          (ap length words ∙ length-set c.words.items _ _) n.title (rw n.is_free placed.2) (rw n.is_own has) h;
    }

-- tables in which entries and homes stay
plain_sound : (e : Event) (c after : Tables) → AreSound c → IsEnabled e (state_of c) → ((u : Title) → IsCutOf e u → ⊥) →
    length after.words.items ≡ length c.words.items →
    length after.holders.items ≡ length c.holders.items → after.slots.items ≡ c.slots.items → after.homes.items ≡ c.homes.items →
    after.actors ≡ c.actors →
    Happens e (state_of c) (state_of after) → AreSound after
plain_sound e c after sound can uncut words holders slots homes actors h =
    sound_next c after sound words holders (ap length slots) homes (λ i. rw (words, actors, slots) (sound.placed i))
    (λ t held. elim (held_back e (state_of c) (state_of after) can h t held) [ inl was ↦ was | inr cut ↦ absurd (uncut t cut) ])
    (happens_good e (state_of c) (state_of after) sound.good can h)

-- nobody's pieces change
nothing_exchanged : (holdings : List (List Piece)) (k : ℕ) → Exchanges holdings (of_actor k []) (of_actor k []) holdings
nothing_exchanged holdings k = (refl, λ actor x below. refl)

plain_word : (c : Tables) (k at_byte : ℕ) → AreSound c → HasActor (state_of c) k →
    ((o : Slot) (s : OwnState) (sealed : Bool) → slot_over c.homes.items c.slots.items at_byte ≡ Some o →
    o.own ≡ Some (record { actor = k; state = s; sealed = sealed }) → ⊥) →
    IsRawWord (state_of c) k at_byte ⊎
    (IsFreeWord (state_of c) k at_byte ⊎ ((t : Title) × (state : OwnState) × IsOwnWord (state_of c) k at_byte t state)) →
    IsRawWord (state_of c) k at_byte ⊎ IsFreeWord (state_of c) k at_byte
plain_word c k at_byte sound has none (inl raw) = inl raw
plain_word c k at_byte sound has none (inr (inl free)) = inr free
plain_word c k at_byte sound has none (inr (inr own)) =
    let word = own.2 in
    let r = reads_own c k own.0 own.1 sound (actor_is c k has) word.0.1 in
    let low = word.1.0 in let high = word.1.1 in
    absurd (none r.0 own.1 r.3
    (entry_over c own.0 r.0 at_byte sound (held_own c k own.0 own.1 word.0.1) r.1 (omega arith, omega arith)) r.4)

pub store_plain_row : (c after : Tables) (k at_byte value : ℕ) → AreSound c → IsEnabled (Store k at_byte value) (state_of c) →
    ((o : Slot) (s : OwnState) (sealed : Bool) → slot_over c.homes.items c.slots.items at_byte ≡ Some o →
    o.own ≡ Some (record { actor = k; state = s; sealed = sealed }) → ⊥) →
    after.words.items ≡ set c.words.items (at_byte / 8) value → after.holders.items ≡ c.holders.items → after.slots.items ≡ c.slots.items →
    after.homes.items ≡ c.homes.items → after.actors ≡ c.actors → IsRow (Store k at_byte value) c after
store_plain_row c after k at_byte value sound can none words holders slots homes actors =
    let h : Happens (Store k at_byte value) (state_of c) (state_of after) =
    inl (
      plain_word c k at_byte sound can.0 none can.2,
      record { words = words; holdings = rw (holders, slots, actors) (nothing_exchanged (state_of c).holdings k) },
    ) in
    record {
      happens = h;
      sound = plain_sound (Store k at_byte value) c after sound can (λ u cut. cut) (ap length words ∙ length-set c.words.items _ _)
          (ap length holders) slots homes actors h;
    }

-- a part of one actor, counted by whether the actor is the one
pub one_of : (actor k : ℕ) (ps : List Piece) (x : Thing) → held_in ps x ≡ 1 →
    held_in (of_actor k ps actor) x ≡ one (is_holder actor (Some k))
one_of actor k ps x h = by_test (eqb k actor)
  where
    by_test : (b : Bool) → held_in (cond b ps []) x ≡ one b
    by_test true = h
    by_test false = refl

pub none_of : (actor k : ℕ) (ps : List Piece) (x : Thing) → held_in ps x ≡ 0 → held_in (of_actor k ps actor) x ≡ 0
none_of actor k ps x h = by_test (eqb k actor)
  where
    by_test : (b : Bool) → held_in (cond b ps []) x ≡ 0
    by_test true = h
    by_test false = refl

-- a byte lies in a range or not
pub range_or : (start len b : ℕ) → ((start ≤ b) × (b < start + len)) ⊎ ((b < start) ⊎ (start + len ≤ b))
range_or start len b = elim (cases_lt b start) [
  | inl low ↦ inr (inl low)
  | inr above ↦ elim (cases_lt b (start + len)) [ inl below ↦ inl (above, below) | inr high ↦ inr (inr high) ]
]

-- a hand of raw bytes
raw_bytes : (c after : Tables) (from to start len : ℕ) → IsEnabled (Hand from to (RawItem start len)) (state_of c) →
    IsFilled None c.holders.items start (start + len) (Some to) after.holders.items → (actor b : ℕ) →
    held_in (raw_pieces actor 0 after.holders.items) (RawByte b) + held_in (of_actor from (RawPiece start len ∷ []) actor) (RawByte b)
    ≡ held_in (raw_pieces actor 0 c.holders.items) (RawByte b) + held_in (of_actor to (RawPiece start len ∷ []) actor) (RawByte b)
raw_bytes c after from to start len can filled actor b =
    let now = raw_amount actor after.holders.items b in
    let was = raw_amount actor c.holders.items b in
    elim (range_or start len b) [
      | inl within ↦
          let cover = covered_raw start len b within.0 within.1 in
          let lost = one_of actor from (RawPiece start len ∷ []) (RawByte b) cover in
          let got = one_of actor to (RawPiece start len ∷ []) (RawByte b) cover in
          let held = reads_raw c from b (actor_is c from can.0) (can.2 b within.0 within.1) in
          let now_to = filled.within b within.0 within.1 in
          let x : one (is_holder actor (get_or after.holders.items b None)) ≡ one (is_holder actor (Some to)) =
          ap (λ q. one (is_holder actor q)) now_to in
          let y : one (is_holder actor (get_or c.holders.items b None)) ≡ one (is_holder actor (Some from)) =
          ap (λ q. one (is_holder actor q)) held in
          omega arith
      | inr out ↦
          let cover = uncovered_raw start len b out in
          let lost = none_of actor from (RawPiece start len ∷ []) (RawByte b) cover in
          let got = none_of actor to (RawPiece start len ∷ []) (RawByte b) cover in
          let x : one (is_holder actor (get_or after.holders.items b None)) ≡ one (is_holder actor (get_or c.holders.items b None)) =
          ap (λ q. one (is_holder actor q)) (filled.outside b out) in
          omega arith
    ]

raw_things : (c after : Tables) (from to start len : ℕ) → IsEnabled (Hand from to (RawItem start len)) (state_of c) →
    IsFilled None c.holders.items start (start + len) (Some to) after.holders.items → (actor : ℕ) (x : Thing) → actor < c.actors →
    held_in (raw_pieces actor 0 after.holders.items) x + held_in (of_actor from (RawPiece start len ∷ []) actor) x
    ≡ held_in (raw_pieces actor 0 c.holders.items) x + held_in (of_actor to (RawPiece start len ∷ []) actor) x
raw_things c after from to start len can filled actor (RawByte b) has = raw_bytes c after from to start len can filled actor b
raw_things c after from to start len can filled actor (FreeTitle t) has =
    let a = (raw_titles actor 0 after.holders.items t).free in let b = (raw_titles actor 0 c.holders.items t).free in
    let l = none_of actor from (RawPiece start len ∷ []) (FreeTitle t) refl in
    let g = none_of actor to (RawPiece start len ∷ []) (FreeTitle t) refl in omega arith
raw_things c after from to start len can filled actor (OwnOf t) has =
    let a = (raw_titles actor 0 after.holders.items t).own in let b = (raw_titles actor 0 c.holders.items t).own in
    let l = none_of actor from (RawPiece start len ∷ []) (OwnOf t) refl in
    let g = none_of actor to (RawPiece start len ∷ []) (OwnOf t) refl in omega arith
raw_things c after from to start len can filled actor (OwnAs t s) has =
    let a = (raw_titles actor 0 after.holders.items t).state s in let b = (raw_titles actor 0 c.holders.items t).state s in
    let l = none_of actor from (RawPiece start len ∷ []) (OwnAs t s) refl in
    let g = none_of actor to (RawPiece start len ∷ []) (OwnAs t s) refl in omega arith
raw_things c after from to start len can filled actor (SealedOwn t) has =
    let a = (raw_titles actor 0 after.holders.items t).seal in let b = (raw_titles actor 0 c.holders.items t).seal in
    let l = none_of actor from (RawPiece start len ∷ []) (SealedOwn t) refl in
    let g = none_of actor to (RawPiece start len ∷ []) (SealedOwn t) refl in omega arith
raw_things c after from to start len can filled actor (RefOf t) has =
    let a = (raw_titles actor 0 after.holders.items t).ref in let b = (raw_titles actor 0 c.holders.items t).ref in
    let l = none_of actor from (RawPiece start len ∷ []) (RefOf t) refl in
    let g = none_of actor to (RawPiece start len ∷ []) (RefOf t) refl in omega arith

pub hand_raw_row : (c after : Tables) (from to start len : ℕ) → AreSound c → IsEnabled (Hand from to (RawItem start len)) (state_of c) →
    after.words.items ≡ c.words.items → after.slots.items ≡ c.slots.items → after.homes.items ≡ c.homes.items → after.actors ≡ c.actors →
    IsFilled None c.holders.items start (start + len) (Some to) after.holders.items → IsRow (Hand from to (RawItem start len)) c after
hand_raw_row c after from to start len sound can words slots homes actors filled =
    let ex = raw_exchange c.holders.items after.holders.items c.slots.items c.actors (of_actor from (RawPiece start len ∷ []))
    (of_actor to (RawPiece start len ∷ []))
    (raw_things c after from to start len can filled) in
    let h : Happens (Hand from to (RawItem start len)) (state_of c) (state_of after) = (words, (false, tt, rw (slots, actors) ex)) in
    record {
      happens = h;
      sound =
          plain_sound (Hand from to (RawItem start len)) c after sound can (λ u cut. cut) (ap length words) filled.len slots homes actors h;
    }

-- a word that may be stored to lies in the region
pub store_inside : (c : Tables) (k at_byte value : ℕ) → AreSound c → IsEnabled (Store k at_byte value) (state_of c) →
    at_byte / 8 < length c.words.items
store_inside c k at_byte value sound can = inside can.2
  where
    inside : IsRawWord (state_of c) k at_byte ⊎ MayWrite (state_of c) k at_byte → at_byte / 8 < length c.words.items
    inside (inl raw) = let e = raw_inside c k at_byte 8 sound (omega arith) raw in omega arith
    inside (inr may) =
        let r = write_over c k at_byte sound (actor_is c k can.0) may in
        let e = (over_entry c at_byte r.0 sound r.1).2 in
        let i = e.inside in let w = r.2.1 in
        omega arith
