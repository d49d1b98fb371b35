-- A cut and an uncut, done on the tables, are the events of the state.
use Rattle.std.proofs.Common.{◌≡◌, ℕ, ◌+◌, ◌-◌, ◌/◌, ◌<◌, ◌≤◌, List, [], ◌∷◌, Option, Some, None, length, get_or, set, refl, sym, ◌∙◌, ap, subst, arith, ◌⊎◌, inl, inr}
use Rattle.std.specs.Prelude.{Box}
use Rattle.std.specs.Global.{Global}
use Rattle.std.proofs.lemmas.List.{length-set, get_or-set_same, get_or-set_other}
use Rattle.std.proofs.lemmas.Bool.{cases_eq, cases_lt}
use Rattle.pa_slot.specs.declared.title.Title.{Title}
use Rattle.pa_machine.specs.declared.event.Event.TheVariants.{Cut, Uncut}
use Rattle.pa_machine.specs.declared.slot.Slot.{Slot}
use Rattle.pa_machine.specs.declared.tables.Tables.{Tables}
use Rattle.pa_slot.specs.Titles.{IsWellFormed, count_place, count_word}
use Rattle.pa_slot.specs.Run.{IsFree}
use Rattle.pa_slot.specs.Holdings.{Piece, RawPiece, FreePiece, RefPiece, Thing, RawByte, FreeTitle, OwnOf, OwnAs, SealedOwn, RefOf, IsTitleHeld, held_in, one}
use Rattle.pa_machine.specs.Events.{IsEnabled, Happens, total_of, held_by, of_actor}
use Rattle.pa_machine.specs.Tables.{Place, is_holder, raw_pieces, place_pieces, slot_pieces, free_pieces, own_pieces, ref_pieces, state_of, slot_at, IsPlaced, AreSound, IsFilled}
use Rattle.pa_machine.proofs.Parts.{IsNoneOf, apart_words}
use Rattle.pa_machine.proofs.Amounts.{free_self}
use Rattle.pa_slot.proofs.Same.{title_tells}
use Rattle.pa_machine.proofs.Cutting.{covered_raw, uncovered_raw, free_alone}
use Rattle.pa_machine.proofs.Totals.{tally_of, held_part}
use Rattle.pa_machine.proofs.Happening.{in_total, happens_good, after_changes}
use Rattle.pa_machine.proofs.Tabled.{held_tables, raw_titles, raw_amount, place_raw, slots_at, place_none, slot_none}
use Rattle.pa_machine.proofs.Reading.{reads_free, reads_raw, raw_is, slot_parts, refs_zero}
use Rattle.pa_machine.proofs.Enabling.{actor_is, well_raw, held_free}
use Rattle.pa_machine.proofs.Holding.{held_back}
use Rattle.pa_machine.proofs.Rowing.{tables_exchange, sound_next}
use Rattle.pa_machine.proofs.Handing.{one_of, none_of, range_or, raw_unheld}
use Rattle.pa_machine.proofs.Rows.{IsRow, entry_free, entry_there, placed_at, no_owner}

-- what an actor has at a title's place is what it holds of the title
place_is : (c : Tables) (actor : ℕ) (t : Title) (x : Thing) → AreSound c → actor < c.actors →
    ((ps : List Piece) → IsNoneOf ps t → held_in ps x ≡ 0) →
    held_in (place_pieces actor (get_or c.slots.items (t.start / 8) None)) x ≡ held_by (state_of c) actor x
place_is c actor t x sound has about =
    let all = held_tables c.holders.items c.slots.items c.actors actor x has in
    let raw = about (raw_pieces actor 0 c.holders.items) (raw_titles actor 0 c.holders.items t) in
    let at_one = slots_at actor (length c.words.items) c.actors c.slots.items t x sound.placed about in
    omega arith

-- a thing of a title that nobody holds counts for nothing at the title's place
unheld_zero : (c : Tables) (actor p : ℕ) (t : Title) (x : Thing) → AreSound c → actor < c.actors →
    ((ps : List Piece) → IsNoneOf ps t → held_in ps x ≡ 0) →
    (t.start / 8 ≡ p → total_of (state_of c) x ≡ 0) → held_in (place_pieces actor (get_or c.slots.items p None)) x ≡ 0
unheld_zero c actor p t x sound has about none = elim (cases_eq p (t.start / 8)) [
  | inl same ↦
      let e = place_is c actor t x sound has about in
      let z = none (sym same) in
      let part = held_part (state_of c) actor x in
      rw same (omega arith)
  | inr ne ↦ about (place_pieces actor (get_or c.slots.items p None))
      (place_none actor (length c.words.items) c.actors p (get_or c.slots.items p None) t (sound.placed p) ne)
]

-- nobody holds a title that is where the bytes are raw
none_held : (c : Tables) (k p : ℕ) (t u : Title) → AreSound c → IsEnabled (Cut k t) (state_of c) → p ≡ t.start / 8 → u.start / 8 ≡ p →
    total_of (state_of c) (FreeTitle u) + total_of (state_of c) (OwnOf u) + total_of (state_of c) (RefOf u) ≡ 0
none_held c k p t u sound can place e =
    elim (cases_lt 0 (total_of (state_of c) (FreeTitle u) + total_of (state_of c) (OwnOf u) + total_of (state_of c) (RefOf u))) [
      | inl held ↦
          let well = sound.good.divided.well u held in
          let a = well.start_aligned in let b = well.long in
          let start = can.2 in let long = can.4 in
          absurd (raw_unheld c k t.start u sound (can.1 t.start (omega arith) (omega arith)) held (omega arith, omega arith))
      | inr z ↦ omega arith
    ]

-- before a cut nobody has anything at the place where the title will stand
stale_zero : (c : Tables) (actor k p : ℕ) (t : Title) → AreSound c → actor < c.actors → IsEnabled (Cut k t) (state_of c) → p ≡ t.start / 8 →
    (x : Thing) → held_in (place_pieces actor (get_or c.slots.items p None)) x ≡ 0
stale_zero c actor k p t sound has can place (RawByte b) = place_raw actor (get_or c.slots.items p None) b
stale_zero c actor k p t sound has can place (FreeTitle u) =
    unheld_zero c actor p u (FreeTitle u) sound has (λ ps n. n.free) (λ e. let z = none_held c k p t u sound can place e in omega arith)
stale_zero c actor k p t sound has can place (OwnOf u) =
    unheld_zero c actor p u (OwnOf u) sound has (λ ps n. n.own) (λ e. let z = none_held c k p t u sound can place e in omega arith)
stale_zero c actor k p t sound has can place (OwnAs u s) = unheld_zero c actor p u (OwnAs u s) sound has (λ ps n. n.state s) (λ e.
    let z = none_held c k p t u sound can place e in let part = (tally_of (state_of c).holdings).part u s in omega arith)
stale_zero c actor k p t sound has can place (SealedOwn u) = unheld_zero c actor p u (SealedOwn u) sound has (λ ps n. n.seal) (λ e.
    let z = none_held c k p t u sound can place e in let part = (tally_of (state_of c).holdings).seal u in omega arith)
stale_zero c actor k p t sound has can place (RefOf u) =
    unheld_zero c actor p u (RefOf u) sound has (λ ps n. n.ref) (λ e. let z = none_held c k p t u sound can place e in omega arith)

-- the entry of a title that was just cut out
abbrev pub IsFreshSlot : ℕ → Title → Slot → Type 0
IsFreshSlot k t o = (o.title ≡ t) × (o.free ≡ Some k) × (o.own ≡ None) × (o.refs.items ≡ [])

fresh_pieces : (actor k : ℕ) (t : Title) (o : Slot) (x : Thing) → IsFreshSlot k t o →
    held_in (slot_pieces actor o) x ≡ held_in (of_actor k (FreePiece t ∷ []) actor) x
fresh_pieces actor k t o x f =
    let e = slot_parts actor o x in
    let a : held_in (free_pieces actor o.title o.free) x ≡ held_in (of_actor k (FreePiece t ∷ []) actor) x = rw (f.0, f.1) refl in
    let b : held_in (own_pieces actor o.title o.own) x ≡ 0 = rw f.2 refl in
    let d : held_in (ref_pieces actor o.title o.refs.items) x ≡ 0 = rw f.3 refl in
    omega arith

-- raw bytes that an actor loses, or gains
raw_lost : (c : Tables) (later : List (Option ℕ)) (k : ℕ) (t : Title) → IsEnabled (Cut k t) (state_of c) →
    IsFilled None c.holders.items t.start (t.start + t.len) None later →
    (actor b : ℕ) → held_in (raw_pieces actor 0 later) (RawByte b) + held_in (of_actor k (RawPiece t.start t.len ∷ []) actor)
    (RawByte b) ≡ held_in (raw_pieces actor 0 c.holders.items) (RawByte b)
raw_lost c later k t can filled actor b =
    let now = raw_amount actor later b in
    let was = raw_amount actor c.holders.items b in
    elim (range_or t.start t.len b) [
      | inl within ↦
          let lost = one_of actor k (RawPiece t.start t.len ∷ []) (RawByte b) (covered_raw t.start t.len b within.0 within.1) in
          let held = reads_raw c k b (actor_is c k can.0) (can.1 b within.0 within.1) in
          let x : one (is_holder actor (get_or later b None)) ≡ 0 = ap (λ q. one (is_holder actor q)) (filled.within b within.0 within.1) in
          let y : one (is_holder actor (get_or c.holders.items b None)) ≡ one (is_holder actor (Some k)) =
          ap (λ q. one (is_holder actor q)) held in
          omega arith
      | inr out ↦
          let lost = none_of actor k (RawPiece t.start t.len ∷ []) (RawByte b) (uncovered_raw t.start t.len b out) in
          let x : one (is_holder actor (get_or later b None)) ≡ one (is_holder actor (get_or c.holders.items b None)) =
          ap (λ q. one (is_holder actor q)) (filled.outside b out) in
          omega arith
    ]

cut_things : (c after : Tables) (k : ℕ) (t : Title) (new : Box Slot Global) → AreSound c → IsEnabled (Cut k t) (state_of c) →
    IsFreshSlot k t new.value →
    IsFilled None c.holders.items t.start (t.start + t.len) None after.holders.items → (actor : ℕ) (x : Thing) → actor < c.actors →
    held_in (raw_pieces actor 0 after.holders.items) x + held_in (place_pieces actor (Some new)) x + held_in
    (of_actor k (RawPiece t.start t.len ∷ []) actor) x
    ≡ held_in (raw_pieces actor 0 c.holders.items) x + held_in (place_pieces actor (get_or c.slots.items (t.start / 8) None)) x + held_in
    (of_actor k (FreePiece t ∷ []) actor) x
cut_things c after k t new sound can fresh filled actor x has =
    let stale = stale_zero c actor k (t.start / 8) t sound has can refl x in
    let entry = fresh_pieces actor k t new.value x fresh in
    let bytes = raw_part x in
    omega arith
  where
    raw_part : (x : Thing) →
        held_in (raw_pieces actor 0 after.holders.items) x + held_in (of_actor k (RawPiece t.start t.len ∷ []) actor) x ≡ held_in
        (raw_pieces actor 0 c.holders.items) x
    raw_part (RawByte b) = raw_lost c after.holders.items k t can filled actor b
    raw_part (FreeTitle u) = let a = (raw_titles actor 0 after.holders.items u).free in let b =
        (raw_titles actor 0 c.holders.items u).free in let l = none_of actor k (RawPiece t.start t.len ∷ []) (FreeTitle u) refl in omega
        arith
    raw_part (OwnOf u) = let a = (raw_titles actor 0 after.holders.items u).own in let b = (raw_titles actor 0 c.holders.items u).own in
        let l = none_of actor k (RawPiece t.start t.len ∷ []) (OwnOf u) refl in omega arith
    raw_part (OwnAs u s) = let a = (raw_titles actor 0 after.holders.items u).state s in let b =
        (raw_titles actor 0 c.holders.items u).state s in let l = none_of actor k (RawPiece t.start t.len ∷ []) (OwnAs u s) refl in omega
        arith
    raw_part (SealedOwn u) = let a = (raw_titles actor 0 after.holders.items u).seal in let b =
        (raw_titles actor 0 c.holders.items u).seal in let l = none_of actor k (RawPiece t.start t.len ∷ []) (SealedOwn u) refl in omega
        arith
    raw_part (RefOf u) = let a = (raw_titles actor 0 after.holders.items u).ref in let b = (raw_titles actor 0 c.holders.items u).ref in
        let l = none_of actor k (RawPiece t.start t.len ∷ []) (RefOf u) refl in omega arith

-- the tables after a cut
pub record IsCutRow (c after : Tables) (k : ℕ) (t : Title) (new : Box Slot Global) : Type 0 where
  pub words : after.words.items ≡ c.words.items
  pub slots : after.slots.items ≡ set c.slots.items (t.start / 8) (Some new)
  pub fresh : IsFreshSlot k t new.value
  pub holders : IsFilled None c.holders.items t.start (t.start + t.len) None after.holders.items
  pub homes : IsFilled 0 c.homes.items (t.start / 8) (count_place t + 1) (t.start / 8) after.homes.items
  pub actors : after.actors ≡ c.actors

-- the title is held after the cut
new_held : (c after : Tables) (k : ℕ) (t : Title) → IsEnabled (Cut k t) (state_of c) → Happens (Cut k t) (state_of c) (state_of after) →
    IsTitleHeld (total_of (state_of after)) t
new_held c after k t can h =
    let e = after_changes (state_of c) (state_of after) k (RawPiece t.start t.len ∷ []) (FreePiece t ∷ []) _ can.0 h (FreeTitle t) in
    let f = free_self t in
    omega arith

place_in : (c : Tables) (t : Title) → AreSound c → IsWellFormed (length c.words.items) t → t.start / 8 < length c.slots.items
place_in c t sound well = let a = sound.slots in let b = well.inside in let d = well.long in omega arith

pub cut_row : (c after : Tables) (k : ℕ) (t : Title) (new : Box Slot Global) → AreSound c → IsEnabled (Cut k t) (state_of c) →
    IsCutRow c after k t new → IsRow (Cut k t) c after
cut_row c after k t new sound can r = record { happens = h; sound = sound_after }
  where
    well : IsWellFormed (length c.words.items) t
    well = well_raw c k t sound can.1 can.2 can.3 can.4

    h : Happens (Cut k t) (state_of c) (state_of after)
    h = record {
      words = r.words;
      holdings = rw (r.slots, r.actors)
          (tables_exchange c.holders.items after.holders.items c.slots.items (t.start / 8) (Some new) c.actors
          (of_actor k (RawPiece t.start t.len ∷ [])) (of_actor k (FreePiece t ∷ []))
          (place_in c t sound well) (cut_things c after k t new sound can r.fresh r.holders));
    }

    placed_new : IsPlaced (length c.words.items) c.actors (t.start / 8) (Some new)
    placed_new =
        let a = well.start_aligned in
        (rw r.fresh.0 (omega arith), rw r.fresh.0 well, rw r.fresh.1 (actor_is c k can.0), rw r.fresh.2 tt)

    placed : (i : ℕ) → IsPlaced (length after.words.items) after.actors i (get_or after.slots.items i None)
    placed i = rw (r.words, r.actors, r.slots) (elim (cases_eq i (t.start / 8)) [
      | inl same ↦
          let e : get_or (set c.slots.items (t.start / 8) (Some new)) (t.start / 8) None ≡ Some new =
          get_or-set_same c.slots.items (t.start / 8) (Some new) None (place_in c t sound well) in
          rw same (subst (λ (q : Place). IsPlaced (length c.words.items) c.actors (t.start / 8) q) (sym e) placed_new)
      | inr ne ↦ rw (get_or-set_other c.slots.items (t.start / 8) i (Some new) None ne) (sound.placed i)
    ])

    held_t : IsTitleHeld (total_of (state_of after)) t
    held_t = new_held c after k t can h

    pointed : (u : Title) (q : ℕ) → IsTitleHeld (total_of (state_of after)) u → u.start / 8 ≤ q → q ≤ count_place u →
        get_or after.homes.items q 0 ≡ u.start / 8
    pointed u q held low high = elim (title_tells t u) [
      | inl y ↦ subst (λ (x : Title). x.start / 8 ≤ q → q ≤ count_place x → get_or after.homes.items q 0 ≡ x.start / 8) y.1
          (λ a b. r.homes.within q a (omega arith)) low high
      | inr n ↦ elim (held_back (Cut k t) (state_of c) (state_of after) can h u held) [
        | inl was ↦
            let g = happens_good (Cut k t) (state_of c) (state_of after) sound.good can h in
            let out : (q < t.start / 8) ⊎ (count_place t + 1 ≤ q) = elim (cases_lt q (t.start / 8)) [
              | inl below ↦ inl below
              | inr from ↦ elim (cases_lt (count_place t) q) [
                | inl above ↦ inr (omega arith)
                | inr within ↦ absurd (apart_words (length after.words.items) (total_of (state_of after)) t u q g.divided held_t held n.1
                    (from, within) (low, high))
              ]
            ] in
            r.homes.outside q out ∙ sound.pointed u q was low high
        | inr cut ↦ absurd (n.1 cut)
      ]
    ]

    sound_after : AreSound after
    sound_after =
        let a = sound.holders in let b = sound.slots in let d = sound.homes in
        let w = ap length r.words in
        let hl = r.holders.len in let ml = r.homes.len in
        let sl = ap length r.slots ∙ length-set c.slots.items (t.start / 8) (Some new) in
        record {
          holders = omega arith;
          slots = omega arith;
          homes = omega arith;
          placed = placed;
          pointed = pointed;
          good = happens_good (Cut k t) (state_of c) (state_of after) sound.good can h;
        }

-- what an actor has at the place of a free title is the free title, if it holds it
free_place : (c : Tables) (k : ℕ) (t : Title) (old : Box Slot Global) → AreSound c → IsEnabled (Uncut k t) (state_of c) →
    get_or c.slots.items (t.start / 8) None ≡ Some old →
    (actor : ℕ) (x : Thing) → actor < c.actors →
    held_in (place_pieces actor (get_or c.slots.items (t.start / 8) None)) x ≡ held_in (of_actor k (FreePiece t ∷ []) actor) x
free_place c k t old sound can was actor x has = by_thing x
  where
    alone : IsFree (count_word c.words.items t) × (total_of (state_of c) (FreeTitle t) ≡ 1) × (total_of (state_of c) (OwnOf t) ≡ 0) ×
        (total_of (state_of c) (RefOf t) ≡ 0)
    alone = free_alone c.words.items (total_of (state_of c)) t sound.good (in_total (state_of c) k (FreeTitle t) can.1)

    entry : (old.value.title ≡ t) × (old.value.free ≡ Some k) × (slot_at c.slots.items t ≡ Some old.value)
    entry = entry_free c k t old sound (actor_is c k can.0) can.1 was

    parts : (x : Thing) → held_in (RefPiece old.value.title ∷ []) x ≡ 0 →
        held_in (place_pieces actor (get_or c.slots.items (t.start / 8) None)) x ≡ held_in (of_actor k (FreePiece t ∷ []) actor) x
    parts x none =
        let e = slot_parts actor old.value x in
        let placed = placed_at c t old sound was in
        let own = no_owner c t old sound entry.2 alone.2 old.value.own refl placed.3 in
        let a : held_in (free_pieces actor old.value.title old.value.free) x ≡ held_in (of_actor k (FreePiece t ∷ []) actor) x =
        rw (entry.0, entry.1) refl in
        let b : held_in (own_pieces actor old.value.title old.value.own) x ≡ 0 = rw own refl in
        let d = refs_zero actor old.value.title old.value.refs.items x none in
        rw was (omega arith)

    by_thing : (x : Thing) →
        held_in (place_pieces actor (get_or c.slots.items (t.start / 8) None)) x ≡ held_in (of_actor k (FreePiece t ∷ []) actor) x
    by_thing (RawByte b) = parts (RawByte b) refl
    by_thing (FreeTitle u) = parts (FreeTitle u) refl
    by_thing (OwnOf u) = parts (OwnOf u) refl
    by_thing (OwnAs u s) = parts (OwnAs u s) refl
    by_thing (SealedOwn u) = parts (SealedOwn u) refl
    by_thing (RefOf u) =
        let z = none_of actor k (FreePiece t ∷ []) (RefOf u) refl in
        elim (title_tells t u) [
          | inl y ↦
              let e = place_is c actor u (RefOf u) sound has (λ ps n. n.ref) in
              let part = held_part (state_of c) actor (RefOf u) in
              let none : total_of (state_of c) (RefOf u) ≡ 0 = subst (λ (v : Title). total_of (state_of c) (RefOf v) ≡ 0) y.1 alone.3 in
              let same : u.start / 8 ≡ t.start / 8 = ap (λ (v : Title). v.start / 8) (sym y.1) in
              let f = rw same at e in
              omega arith
          | inr n ↦
              let none = (slot_none actor old.value u (λ e. n.1 (sym entry.0 ∙ e))).ref in
              rw was (omega arith)
        ]

raw_gained : (c : Tables) (later : List (Option ℕ)) (k : ℕ) (t : Title) → AreSound c → IsEnabled (Uncut k t) (state_of c) →
    IsFilled None c.holders.items t.start (t.start + t.len) (Some k) later → (actor b : ℕ) → actor < c.actors →
    held_in (raw_pieces actor 0 later) (RawByte b) ≡ held_in (raw_pieces actor 0 c.holders.items) (RawByte b) + held_in
    (of_actor k (RawPiece t.start t.len ∷ []) actor) (RawByte b)
raw_gained c later k t sound can filled actor b has =
    let now = raw_amount actor later b in
    let was = raw_amount actor c.holders.items b in
    elim (range_or t.start t.len b) [
      | inl within ↦
          let got = one_of actor k (RawPiece t.start t.len ∷ []) (RawByte b) (covered_raw t.start t.len b within.0 within.1) in
          let x : one (is_holder actor (get_or later b None)) ≡ one (is_holder actor (Some k)) =
          ap (λ q. one (is_holder actor q)) (filled.within b within.0 within.1) in
          let e = raw_is c actor b has in
          let none : held_by (state_of c) actor (RawByte b) ≡ 0 = elim (cases_lt 0 (held_by (state_of c) actor (RawByte b))) [
            | inl raw ↦ absurd (raw_unheld c actor b t sound raw (held_free c k t can.1) within)
            | inr z ↦ omega arith
          ] in
          omega arith
      | inr out ↦
          let got = none_of actor k (RawPiece t.start t.len ∷ []) (RawByte b) (uncovered_raw t.start t.len b out) in
          let x : one (is_holder actor (get_or later b None)) ≡ one (is_holder actor (get_or c.holders.items b None)) =
          ap (λ q. one (is_holder actor q)) (filled.outside b out) in
          omega arith
    ]

uncut_things : (c after : Tables) (k : ℕ) (t : Title) (old : Box Slot Global) → AreSound c → IsEnabled (Uncut k t) (state_of c) →
    get_or c.slots.items (t.start / 8) None ≡ Some old →
    IsFilled None c.holders.items t.start (t.start + t.len) (Some k) after.holders.items → (actor : ℕ) (x : Thing) → actor < c.actors →
    held_in (raw_pieces actor 0 after.holders.items) x + held_in (place_pieces actor None) x + held_in
    (of_actor k (FreePiece t ∷ []) actor) x
    ≡ held_in (raw_pieces actor 0 c.holders.items) x + held_in (place_pieces actor (get_or c.slots.items (t.start / 8) None)) x + held_in
    (of_actor k (RawPiece t.start t.len ∷ []) actor) x
uncut_things c after k t old sound can was filled actor x has =
    let entry = free_place c k t old sound can was actor x has in
    let bytes = raw_part x in
    omega arith
  where
    raw_part : (x : Thing) →
        held_in (raw_pieces actor 0 after.holders.items) x ≡ held_in (raw_pieces actor 0 c.holders.items) x + held_in
        (of_actor k (RawPiece t.start t.len ∷ []) actor) x
    raw_part (RawByte b) = raw_gained c after.holders.items k t sound can filled actor b has
    raw_part (FreeTitle u) = let a = (raw_titles actor 0 after.holders.items u).free in let b =
        (raw_titles actor 0 c.holders.items u).free in let l = none_of actor k (RawPiece t.start t.len ∷ []) (FreeTitle u) refl in omega
        arith
    raw_part (OwnOf u) = let a = (raw_titles actor 0 after.holders.items u).own in let b = (raw_titles actor 0 c.holders.items u).own in
        let l = none_of actor k (RawPiece t.start t.len ∷ []) (OwnOf u) refl in omega arith
    raw_part (OwnAs u s) = let a = (raw_titles actor 0 after.holders.items u).state s in let b =
        (raw_titles actor 0 c.holders.items u).state s in let l = none_of actor k (RawPiece t.start t.len ∷ []) (OwnAs u s) refl in omega
        arith
    raw_part (SealedOwn u) = let a = (raw_titles actor 0 after.holders.items u).seal in let b =
        (raw_titles actor 0 c.holders.items u).seal in let l = none_of actor k (RawPiece t.start t.len ∷ []) (SealedOwn u) refl in omega
        arith
    raw_part (RefOf u) = let a = (raw_titles actor 0 after.holders.items u).ref in let b = (raw_titles actor 0 c.holders.items u).ref in
        let l = none_of actor k (RawPiece t.start t.len ∷ []) (RefOf u) refl in omega arith

-- the tables after an uncut
pub record IsUncutRow (c after : Tables) (k : ℕ) (t : Title) : Type 0 where
  pub words : after.words.items ≡ c.words.items
  pub slots : after.slots.items ≡ set c.slots.items (t.start / 8) None
  pub holders : IsFilled None c.holders.items t.start (t.start + t.len) (Some k) after.holders.items
  pub homes : after.homes.items ≡ c.homes.items
  pub actors : after.actors ≡ c.actors

pub uncut_row : (c after : Tables) (k : ℕ) (t : Title) → AreSound c → IsEnabled (Uncut k t) (state_of c) → IsUncutRow c after k t →
    IsRow (Uncut k t) c after
uncut_row c after k t sound can r = record { happens = h; sound = sound_after }
  where
    well : IsWellFormed (length c.words.items) t
    well = sound.good.divided.well t (held_free c k t can.1)

    there : (old : Box Slot Global) × (get_or c.slots.items (t.start / 8) None ≡ Some old) × Unit {0}
    there = let f = reads_free c k t sound (actor_is c k can.0) can.1 in entry_there c t f.0 (λ _. Unit {0}) f.1 tt

    h : Happens (Uncut k t) (state_of c) (state_of after)
    h = record {
      words = r.words;
      holdings = rw (r.slots, r.actors)
          (tables_exchange c.holders.items after.holders.items c.slots.items (t.start / 8) None c.actors (of_actor k (FreePiece t ∷ []))
          (of_actor k (RawPiece t.start t.len ∷ []))
          (place_in c t sound well) (uncut_things c after k t there.0 sound can there.1 r.holders));
    }

    placed : (i : ℕ) → IsPlaced (length after.words.items) after.actors i (get_or after.slots.items i None)
    placed i = rw (r.words, r.actors, r.slots) (elim (cases_eq i (t.start / 8)) [
      | inl same ↦
          let e : get_or (set c.slots.items (t.start / 8) None) (t.start / 8) None ≡ None =
          get_or-set_same c.slots.items (t.start / 8) None None (place_in c t sound well) in
          rw same (subst (λ (q : Place). IsPlaced (length c.words.items) c.actors (t.start / 8) q) (sym e) tt)
      | inr ne ↦ rw (get_or-set_other c.slots.items (t.start / 8) i None None ne) (sound.placed i)
    ])

    sound_after : AreSound after
    sound_after = sound_next c after sound (ap length r.words) r.holders.len
        (ap length r.slots ∙ length-set c.slots.items (t.start / 8) None) r.homes placed
        (λ u held. elim (held_back (Uncut k t) (state_of c) (state_of after) can h u held) [ inl was ↦ was | inr cut ↦ absurd cut ])
        (happens_good (Uncut k t) (state_of c) (state_of after) sound.good can h)
