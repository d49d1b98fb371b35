-- The tables at the start are sound, and represent the start.
use Rattle.std.proofs.Common.{◌≡◌, ℕ, zero, suc, ◌-◌, ◌/◌, ◌%◌, ◌<◌, ◌≤◌, List, [], ◌∷◌, Some, None, length, get_or, replicate, refl, sym, ◌∙◌, ap, subst, arith, inl, inr}
use Rattle.std.specs.List.{sum_by}
use Rattle.std.proofs.lemmas.List.{get_or-replicate, length-replicate}
use Rattle.std.proofs.lemmas.List.Sums.{sum_by-cons}
use Rattle.std.proofs.lemmas.List.FromFn.{length-map-range_with_len}
use Rattle.std.proofs.lemmas.Bool.{cases_lt}
use Rattle.pa_slot.specs.declared.title.Title.{Title}
use Rattle.pa_slot.specs.declared.title.OwnState.TheVariants.{Clean, Poisoned}
use Rattle.pa_machine.specs.declared.tables.Tables.{Tables}
use Rattle.pa_slot.specs.Holdings.{RawPiece, Thing, RawByte, FreeTitle, OwnOf, OwnAs, SealedOwn, RefOf, IsTitleHeld, held_in, one}
use Rattle.pa_machine.specs.Good.{IsGood}
use Rattle.pa_machine.specs.Events.{IsStart, held_by, total_of, of_actor}
use Rattle.pa_machine.specs.Trail.{KeepsContent}
use Rattle.pa_machine.specs.Tables.{Place, is_holder, raw_pieces, place_pieces, pieces_of, state_of, IsPlaced, AreSound, IsStartTables}
use Rattle.pa_machine.proofs.Sums.{spread, spread-one}
use Rattle.pa_machine.proofs.Totals.{of_actor_here, of_actor_apart, get_or_past}
use Rattle.pa_machine.proofs.Cutting.{covered_raw, uncovered_raw}
use Rattle.pa_machine.proofs.Tabled.{held_tables, raw_titles}
use Rattle.pa_machine.proofs.Reading.{raw_is}
use Rattle.pa_machine.proofs.Handing.{one_of, none_of}

-- a sum is its members, index by index
sum_spread : {A : Type 0} (f : A → ℕ) (d : A) (xs : List A) → sum_by f xs ≡ spread (λ i. f (get_or xs i d)) xs
sum_spread f d [] = refl
sum_spread f d (x ∷ xs) = let e = sum_by-cons f x xs in let again = sum_spread f d xs in omega arith

no_places : (actor n : ℕ) (x : Thing) → sum_by (λ p. held_in (place_pieces actor p) x) (replicate n None) ≡ 0
no_places actor zero x = refl
no_places actor (suc n) x =
    let e = sum_by-cons (λ p. held_in (place_pieces actor p) x) None (replicate n None) in
    let again = no_places actor n x in
    omega arith

no_place_at : (n i : ℕ) → get_or (replicate {A = Place} n None) i None ≡ None
no_place_at zero i = refl
no_place_at (suc n) zero = refl
no_place_at (suc n) (suc i) = no_place_at n i

-- the raw bytes are actor 0's, and nobody holds a title
start_titles : (c : Tables) (bytes actors actor : ℕ) (x : Thing) → IsStartTables bytes actors c → actor < c.actors
    → held_in (raw_pieces actor 0 c.holders.items) x ≡ 0 → held_by (state_of c) actor x ≡ 0
start_titles c bytes actors actor x st has none =
    let e = held_tables c.holders.items c.slots.items c.actors actor x has in
    let z : sum_by (λ p. held_in (place_pieces actor p) x) c.slots.items ≡ 0 = rw st.slots (no_places actor (bytes / 8) x) in
    omega arith

start_held : (c : Tables) (bytes actors actor : ℕ) → IsStartTables bytes actors c → actor < c.actors → (x : Thing) →
    held_by (state_of c) actor x ≡ held_in (of_actor 0 (RawPiece 0 bytes ∷ []) actor) x
start_held c bytes actors actor st has (RawByte b) =
    let e = raw_is c actor b has in
    elim (cases_lt b bytes) [
      | inl below ↦
          let here : get_or c.holders.items b None ≡ Some 0 = rw st.holders (get_or-replicate bytes b (Some 0) None below) in
          let x : one (is_holder actor (get_or c.holders.items b None)) ≡ one (is_holder actor (Some 0)) =
          ap (λ q. one (is_holder actor q)) here in
          let y = one_of actor 0 (RawPiece 0 bytes ∷ []) (RawByte b) (covered_raw 0 bytes b (omega arith) (omega arith)) in
          omega arith
      | inr past ↦
          let len : length c.holders.items ≡ bytes = rw st.holders (length-replicate bytes (Some 0)) in
          let x : one (is_holder actor (get_or c.holders.items b None)) ≡ 0 =
          ap (λ q. one (is_holder actor q)) (get_or_past c.holders.items b None (omega arith)) in
          let y = none_of actor 0 (RawPiece 0 bytes ∷ []) (RawByte b) (uncovered_raw 0 bytes b (inr (omega arith))) in
          omega arith
    ]
start_held c bytes actors actor st has (FreeTitle t) = start_titles c bytes actors actor (FreeTitle t) st has
    (raw_titles actor 0 c.holders.items t).free ∙ sym (none_of actor 0 (RawPiece 0 bytes ∷ []) (FreeTitle t) refl)
start_held c bytes actors actor st has (OwnOf t) = start_titles c bytes actors actor (OwnOf t) st has
    (raw_titles actor 0 c.holders.items t).own ∙ sym (none_of actor 0 (RawPiece 0 bytes ∷ []) (OwnOf t) refl)
start_held c bytes actors actor st has (OwnAs t s) = start_titles c bytes actors actor (OwnAs t s) st has
    ((raw_titles actor 0 c.holders.items t).state s) ∙ sym (none_of actor 0 (RawPiece 0 bytes ∷ []) (OwnAs t s) refl)
start_held c bytes actors actor st has (SealedOwn t) = start_titles c bytes actors actor (SealedOwn t) st has
    (raw_titles actor 0 c.holders.items t).seal ∙ sym (none_of actor 0 (RawPiece 0 bytes ∷ []) (SealedOwn t) refl)
start_held c bytes actors actor st has (RefOf t) = start_titles c bytes actors actor (RefOf t) st has
    (raw_titles actor 0 c.holders.items t).ref ∙ sym (none_of actor 0 (RawPiece 0 bytes ∷ []) (RefOf t) refl)

-- all actors together hold each byte once at the start, and no title
start_total : (c : Tables) (bytes actors : ℕ) → IsStartTables bytes actors c → 1 ≤ actors → (x : Thing) →
    total_of (state_of c) x ≡ held_in (RawPiece 0 bytes ∷ []) x
start_total c bytes actors st some_actor x =
    let count = length-map-range_with_len (pieces_of c.holders.items c.slots.items) 0 c.actors in
    let n = st.count in
    sum_spread (λ ps. held_in ps x) [] (state_of c).holdings
    ∙ spread-one (state_of c).holdings (λ i. held_by (state_of c) i x) 0 (held_in (RawPiece 0 bytes ∷ []) x)
    (start_held c bytes actors 0 st (omega arith) x ∙ of_actor_here 0 (RawPiece 0 bytes ∷ []) x)
    (λ i ne. elim (cases_lt i c.actors) [
      | inl has ↦ start_held c bytes actors i st has x ∙ of_actor_apart 0 i (RawPiece 0 bytes ∷ []) x ne
      | inr past ↦ let e = get_or_past (state_of c).holdings i [] (omega arith) in rw e refl
    ])
    (omega arith)

no_title : (c : Tables) (bytes actors : ℕ) (t : Title) → IsStartTables bytes actors c → 1 ≤ actors → IsTitleHeld (total_of (state_of c)) t →
    ⊥
no_title c bytes actors t st some_actor held =
    let a = start_total c bytes actors st some_actor (FreeTitle t) in
    let b = start_total c bytes actors st some_actor (OwnOf t) in
    let d = start_total c bytes actors st some_actor (RefOf t) in
    omega arith

start_good : (c : Tables) (bytes actors : ℕ) → IsStartTables bytes actors c → bytes % 8 ≡ 0 → 1 ≤ actors →
    IsGood c.words.items (total_of (state_of c))
start_good c bytes actors st whole some_actor = record {
  divided = record {
    bytes = λ b below. inl (
      (let total = start_total c bytes actors st some_actor (RawByte b) in
          let len : length c.words.items ≡ bytes / 8 = rw st.words (length-replicate (bytes / 8) 0) in
          total ∙ covered_raw 0 bytes b (omega arith) (omega arith)),
      λ t held covers. no_title c bytes actors t st some_actor held,
    );
    outside = λ b past.
        (let len : length c.words.items ≡ bytes / 8 = rw st.words (length-replicate (bytes / 8) 0) in
        start_total c bytes actors st some_actor (RawByte b) ∙ uncovered_raw 0 bytes b (inr (omega arith)));
    well = λ t held. absurd (no_title c bytes actors t st some_actor held);
    apart = λ t u b held other x y. absurd (no_title c bytes actors t st some_actor held);
  };
  counted = λ t held. absurd (no_title c bytes actors t st some_actor held);
  poison_kept = λ t held. absurd (no_title c bytes actors t st some_actor held);
  content_kept = λ t held. absurd (no_title c bytes actors t st some_actor held);
  seal_kept = λ t held. absurd (no_title c bytes actors t st some_actor held);
}

pub start_sound : (c : Tables) (bytes actors : ℕ) → IsStartTables bytes actors c → bytes % 8 ≡ 0 → 1 ≤ actors → AreSound c
start_sound c bytes actors st whole some_actor =
    let words : length c.words.items ≡ bytes / 8 = rw st.words (length-replicate (bytes / 8) 0) in
    let holders : length c.holders.items ≡ bytes = rw st.holders (length-replicate bytes (Some 0)) in
    let slots : length c.slots.items ≡ bytes / 8 = rw st.slots (length-replicate (bytes / 8) None) in
    let homes : length c.homes.items ≡ bytes / 8 = rw st.homes (length-replicate (bytes / 8) 0) in
    record {
      holders = omega arith;
      slots = omega arith;
      homes = omega arith;
      placed = λ i. subst (λ (q : Place). IsPlaced (length c.words.items) c.actors i q)
          (sym (ap (λ (v : List Place). get_or v i None) st.slots ∙ no_place_at (bytes / 8) i)) tt;
      pointed = λ t q held low high. absurd (no_title c bytes actors t st some_actor held);
      good = start_good c bytes actors st whole some_actor;
    }

pub start_is : (c : Tables) (bytes actors : ℕ) → IsStartTables bytes actors c → IsStart bytes actors (state_of c)
start_is c bytes actors st =
    let count = length-map-range_with_len (pieces_of c.holders.items c.slots.items) 0 c.actors in
    let n = st.count in
    record {
      count = omega arith;
      words = rw st.words (length-replicate (bytes / 8) 0);
      zero = λ i below. rw st.words (get_or-replicate (bytes / 8) i 0 0 below);
      held = λ actor x has. start_held c bytes actors actor st (omega arith) x;
    }

pub start_content : (c : Tables) (bytes actors : ℕ) → IsStartTables bytes actors c → 1 ≤ actors → (last : Title → ℕ) →
    KeepsContent (state_of c) last
start_content c bytes actors st some_actor last = record {
  clean = λ t h. let e = start_total c bytes actors st some_actor (OwnAs t Clean) in absurd (omega arith);
  beyond = λ t j r h. let e = start_total c bytes actors st some_actor (OwnAs t (Poisoned j)) in absurd (omega arith);
}
