-- What the state that the tables represent says of each actor and thing, read off the tables.
use Rattle.std.proofs.Common.{◌≡◌, ℕ, zero, suc, ◌+◌, ◌-◌, ◌/◌, ◌<◌, Bool, true, false, cond, eqb, List, [], ◌∷◌, ◌++◌, Option, Some, None, get_or, refl, sym, ◌∙◌, ap, arith, ◌⊎◌, inl, inr}
use Rattle.std.specs.List.{sum_by, slice_index_or, flat_map}
use Rattle.std.proofs.lemmas.List.Sums.{sum_by-cons, sum_by-append}
use Rattle.std.proofs.lemmas.List.FromFn.{get_or-map-range_with_len}
use Rattle.std.proofs.lemmas.Bool.Decides.{eqb_tells, nat_tests}
use Rattle.pa_slot.specs.declared.title.Title.{Title}
use Rattle.pa_machine.specs.declared.slot.Owner.{Owner}
use Rattle.pa_machine.specs.declared.slot.Slot.{Slot}
use Rattle.pa_slot.specs.Holdings.{Piece, RawPiece, FreePiece, OwnPiece, RefPiece, Thing, RawByte, FreeTitle, OwnOf, OwnAs, SealedOwn, RefOf, one, amount, held_in}
use Rattle.pa_machine.specs.Events.{of_actor}
use Rattle.pa_machine.specs.Tables.{Place, is_holder, raw_pieces, free_pieces, own_pieces, ref_pieces, slot_pieces, place_pieces, pieces_of, holdings_of, kept_as, IsPlaced}
use Rattle.pa_slot.proofs.Same.{title_tells}
use Rattle.pa_machine.proofs.Parts.{IsNoneOf, nil_none, free_none, own_none, ref_none}

-- what joined lists hold
pub held_join : (ps qs : List Piece) (x : Thing) → held_in (ps ++ qs) x ≡ held_in ps x + held_in qs x
held_join ps qs x = sum_by-append (amount x) ps qs

-- what a list of places holds for an actor is the sum over the places
pub held_flat : (actor : ℕ) (slots : List Place) (x : Thing) →
    held_in (flat_map (place_pieces actor) slots) x ≡ sum_by (λ p. held_in (place_pieces actor p) x) slots
held_flat actor [] x = refl
held_flat actor (p ∷ ps) x =
    let again = held_flat actor ps x in
    let join = held_join (place_pieces actor p) (flat_map (place_pieces actor) ps) x in
    let more = sum_by-cons (λ p. held_in (place_pieces actor p) x) p ps in
    omega arith

-- what an actor has of the bytes and of the titles
pub held_tables : (holders : List (Option ℕ)) (slots : List Place) (actors actor : ℕ) (x : Thing) → actor < actors →
    held_in (slice_index_or (holdings_of holders slots actors) actor []) x
    ≡ held_in (raw_pieces actor 0 holders) x + sum_by (λ p. held_in (place_pieces actor p) x) slots
held_tables holders slots actors actor x has =
    let e = get_or-map-range_with_len (pieces_of holders slots) 0 actors actor actor [] has (omega arith) in
    rw e (held_join (raw_pieces actor 0 holders) (flat_map (place_pieces actor) slots) x ∙
    ap (λ n. held_in (raw_pieces actor 0 holders) x + n) (held_flat actor slots x))

-- pieces that are none of a title, joined
none_join : (ps qs : List Piece) (t : Title) → IsNoneOf ps t → IsNoneOf qs t → IsNoneOf (ps ++ qs) t
none_join ps qs t a b = record {
  free = let e = held_join ps qs (FreeTitle t) in let x = a.free in let y = b.free in omega arith;
  own = let e = held_join ps qs (OwnOf t) in let x = a.own in let y = b.own in omega arith;
  ref = let e = held_join ps qs (RefOf t) in let x = a.ref in let y = b.ref in omega arith;
  seal = let e = held_join ps qs (SealedOwn t) in let x = a.seal in let y = b.seal in omega arith;
  state = λ s. let e = held_join ps qs (OwnAs t s) in let x = a.state s in let y = b.state s in omega arith;
}

none_if : (c : Bool) (ps : List Piece) (t : Title) → IsNoneOf ps t → IsNoneOf (cond c ps []) t
none_if true ps t h = h
none_if false ps t h = nil_none t

-- raw bytes count as no part of a title
pub raw_titles : (actor b : ℕ) (hs : List (Option ℕ)) (t : Title) → IsNoneOf (raw_pieces actor b hs) t
raw_titles actor b [] t = nil_none t
raw_titles actor b (h ∷ hs) t = by_test (is_holder actor h) (raw_titles actor (b + 1) hs t)
  where
    by_test : (c : Bool) → IsNoneOf (raw_pieces actor (b + 1) hs) t →
        IsNoneOf (cond c (RawPiece b 1 ∷ raw_pieces actor (b + 1) hs) (raw_pieces actor (b + 1) hs)) t
    by_test false r = r
    by_test true r = none_join (RawPiece b 1 ∷ []) (raw_pieces actor (b + 1) hs) t
        (record { free = refl; own = refl; ref = refl; seal = refl; state = λ s. refl }) r

raw_head : (k b : ℕ) → amount (RawByte b) (RawPiece k 1) ≡ one (eqb k b)
raw_head k b = elim (eqb_tells k b) [
  | inl y ↦ rw y.0 (let e = y.1 in grind (arith, nat_tests))
  | inr n ↦ rw n.0 (let e = n.1 in grind (arith, nat_tests))
]

raw_cons : (actor k : ℕ) (h : Option ℕ) (hs : List (Option ℕ)) (b : ℕ) →
    held_in (raw_pieces actor k (h ∷ hs)) (RawByte b) ≡ cond (is_holder actor h) (one (eqb k b)) 0 + held_in (raw_pieces actor (k + 1) hs)
    (RawByte b)
raw_cons actor k h hs b = by_test (is_holder actor h)
  where
    by_test : (c : Bool) → held_in (cond c (RawPiece k 1 ∷ raw_pieces actor (k + 1) hs) (raw_pieces actor (k + 1) hs)) (RawByte b)
        ≡ cond c (one (eqb k b)) 0 + held_in (raw_pieces actor (k + 1) hs) (RawByte b)
    by_test false = omega arith
    by_test true =
        let e = sum_by-cons (amount (RawByte b)) (RawPiece k 1) (raw_pieces actor (k + 1) hs) in
        let f = raw_head k b in
        omega arith

cond_zero : (c : Bool) → cond {A = ℕ} c 0 0 ≡ 0
cond_zero true = refl
cond_zero false = refl

cond_one : (c : Bool) → cond {A = ℕ} c 1 0 ≡ one c
cond_one true = refl
cond_one false = refl

raw_below : (actor k : ℕ) (hs : List (Option ℕ)) (b : ℕ) → b < k → held_in (raw_pieces actor k hs) (RawByte b) ≡ 0
raw_below actor k [] b low = refl
raw_below actor k (h ∷ hs) b low = elim (eqb_tells k b) [
  | inl y ↦ let e = y.1 in absurd (omega arith)
  | inr n ↦
      let again = raw_below actor (k + 1) hs b (omega arith) in
      let z = cond_zero (is_holder actor h) in
      raw_cons actor k h hs b ∙ rw n.0 (omega arith)
]

-- byte k + b is raw for an actor if the table names it there
raw_from : (actor k : ℕ) (hs : List (Option ℕ)) (b : ℕ) →
    held_in (raw_pieces actor k hs) (RawByte (k + b)) ≡ one (is_holder actor (get_or hs b None))
raw_from actor k [] b = refl
raw_from actor k (h ∷ hs) zero = elim (eqb_tells k (k + 0)) [
  | inl y ↦
      let rest = raw_below actor (k + 1) hs (k + 0) (omega arith) in
      let z = cond_one (is_holder actor h) in
      raw_cons actor k h hs (k + 0) ∙ rw y.0 (omega arith)
  | inr n ↦ absurd (n.1 (omega arith))
]
raw_from actor k (h ∷ hs) (suc b) = elim (eqb_tells k (k + suc b)) [
  | inl y ↦ let e = y.1 in absurd (omega arith)
  | inr n ↦
      let again = raw_from actor (k + 1) hs b in
      let e : k + 1 + b ≡ k + suc b = omega arith in
      let z = cond_zero (is_holder actor h) in
      let rest = rw e at again in
      raw_cons actor k h hs (k + suc b) ∙ rw n.0 (omega arith)
]

pub raw_amount : (actor : ℕ) (hs : List (Option ℕ)) (b : ℕ) →
    held_in (raw_pieces actor 0 hs) (RawByte b) ≡ one (is_holder actor (get_or hs b None))
raw_amount actor hs b = let e : 0 + b ≡ b = omega arith in rw e at (raw_from actor 0 hs b)

-- a title's entry holds no raw bytes
pub place_raw : (actor : ℕ) (p : Place) (b : ℕ) → held_in (place_pieces actor p) (RawByte b) ≡ 0
place_raw actor None b = refl
place_raw actor (Some x) b =
    let o = x.value in
    let j = held_join (free_pieces actor o.title o.free) (own_pieces actor o.title o.own ++ ref_pieces actor o.title o.refs.items)
    (RawByte b) in
    let k = held_join (own_pieces actor o.title o.own) (ref_pieces actor o.title o.refs.items) (RawByte b) in
    let f = free_raw o.free in
    let g = own_raw o.own in
    let r = refs_raw o.refs.items in
    omega arith
  where
    if_raw : (c : Bool) (ps : List Piece) → held_in ps (RawByte b) ≡ 0 → held_in (cond c ps []) (RawByte b) ≡ 0
    if_raw true ps h = h
    if_raw false ps h = refl

    free_raw : (h : Option ℕ) → held_in (free_pieces actor x.value.title h) (RawByte b) ≡ 0
    free_raw None = refl
    free_raw (Some other) = if_raw (eqb other actor) (FreePiece x.value.title ∷ []) refl

    own_raw : (h : Option Owner) → held_in (own_pieces actor x.value.title h) (RawByte b) ≡ 0
    own_raw None = refl
    own_raw (Some w) = if_raw (eqb w.actor actor) (OwnPiece w.sealed x.value.title w.state ∷ []) refl

    refs_raw : (rs : List ℕ) → held_in (ref_pieces actor x.value.title rs) (RawByte b) ≡ 0
    refs_raw [] = refl
    refs_raw (r ∷ rs) = by_test (eqb r actor) (refs_raw rs)
      where
        by_test : (c : Bool) → held_in (ref_pieces actor x.value.title rs) (RawByte b) ≡ 0 →
            held_in (cond c (RefPiece x.value.title ∷ ref_pieces actor x.value.title rs) (ref_pieces actor x.value.title rs))
            (RawByte b) ≡ 0
        by_test false h = h
        by_test true h = let e = sum_by-cons (amount (RawByte b)) (RefPiece x.value.title) (ref_pieces actor x.value.title rs) in
            omega arith

-- the Refs of an entry, as a sum over them
pub ref_sum : (actor : ℕ) (t : Title) (rs : List ℕ) (x : Thing) →
    held_in (ref_pieces actor t rs) x ≡ sum_by (λ r. held_in (of_actor r (RefPiece t ∷ []) actor) x) rs
ref_sum actor t [] x = refl
ref_sum actor t (r ∷ rs) x =
    let again = ref_sum actor t rs x in
    let more = sum_by-cons (λ q. held_in (of_actor q (RefPiece t ∷ []) actor) x) r rs in
    let head = by_test (eqb r actor) in
    omega arith
  where
    by_test : (c : Bool) → held_in (cond c (RefPiece t ∷ ref_pieces actor t rs) (ref_pieces actor t rs)) x ≡ held_in
        (cond c (RefPiece t ∷ []) []) x + held_in (ref_pieces actor t rs) x
    by_test false = omega arith
    by_test true = let e = sum_by-cons (amount x) (RefPiece t) (ref_pieces actor t rs) in omega arith

refs_none : (actor : ℕ) (t u : Title) (rs : List ℕ) → (t ≡ u → ⊥) → IsNoneOf (ref_pieces actor t rs) u
refs_none actor t u [] ne = nil_none u
refs_none actor t u (r ∷ rs) ne = by_test (eqb r actor) (refs_none actor t u rs ne)
  where
    by_test : (c : Bool) → IsNoneOf (ref_pieces actor t rs) u →
        IsNoneOf (cond c (RefPiece t ∷ ref_pieces actor t rs) (ref_pieces actor t rs)) u
    by_test false h = h
    by_test true h = none_join (RefPiece t ∷ []) (ref_pieces actor t rs) u (ref_none t u ne) h

-- an entry is of its title alone
pub slot_none : (actor : ℕ) (o : Slot) (u : Title) → (o.title ≡ u → ⊥) → IsNoneOf (slot_pieces actor o) u
slot_none actor o u ne =
    none_join (free_pieces actor o.title o.free) (own_pieces actor o.title o.own ++ ref_pieces actor o.title o.refs.items) u (frees o.free)
    (none_join (own_pieces actor o.title o.own) (ref_pieces actor o.title o.refs.items) u (owns o.own)
    (refs_none actor o.title u o.refs.items ne))
  where
    frees : (h : Option ℕ) → IsNoneOf (free_pieces actor o.title h) u
    frees None = nil_none u
    frees (Some other) = none_if (eqb other actor) (FreePiece o.title ∷ []) u (free_none o.title u ne)

    owns : (h : Option Owner) → IsNoneOf (own_pieces actor o.title h) u
    owns None = nil_none u
    owns (Some w) = none_if (eqb w.actor actor) (OwnPiece w.sealed o.title w.state ∷ []) u (own_none w.sealed o.title u w.state ne)

-- a sum in which one index alone counts
sum_at : {A : Type 0} (f : A → ℕ) (d : A) (xs : List A) (k : ℕ) → f d ≡ 0 → ((i : ℕ) → (i ≡ k → ⊥) → f (get_or xs i d) ≡ 0) →
    sum_by f xs ≡ f (get_or xs k d)
sum_at f d [] k z h = sym z
sum_at f d (x ∷ xs) zero z h =
    let e = sum_by-cons f x xs in
    let rest = all_zero f d xs (λ i. h (suc i) (λ q. omega arith)) in
    omega arith
  where
    all_zero : {A : Type 0} (f : A → ℕ) (d : A) (xs : List A) → ((i : ℕ) → f (get_or xs i d) ≡ 0) → sum_by f xs ≡ 0
    all_zero f d [] h = refl
    all_zero f d (x ∷ xs) h =
        let e = sum_by-cons f x xs in
        let first = h 0 in
        let rest = all_zero f d xs (λ i. h (suc i)) in
        omega arith
sum_at f d (x ∷ xs) (suc k) z h =
    let e = sum_by-cons f x xs in
    let first = h 0 (λ q. omega arith) in
    let rest = sum_at f d xs k z (λ i ne. h (suc i) (λ q. ne (omega arith))) in
    omega arith

-- an entry whose title is another one counts for nothing of this one
pub place_none : (actor words actors i : ℕ) (p : Place) (t : Title) → IsPlaced words actors i p → (i ≡ t.start / 8 → ⊥) →
    IsNoneOf (place_pieces actor p) t
place_none actor words actors i None t placed ne = nil_none t
place_none actor words actors i (Some b) t placed ne =
    let e = placed.0 in
    slot_none actor b.value t (λ same. let s = ap (λ (x : Title). x.start) same in ne (omega arith))

-- what an actor holds of a title is read off one place of the table
pub slots_at : (actor words actors : ℕ) (slots : List Place) (t : Title) (x : Thing) →
    ((i : ℕ) → IsPlaced words actors i (get_or slots i None)) →
    ((ps : List Piece) → IsNoneOf ps t → held_in ps x ≡ 0) →
    sum_by (λ p. held_in (place_pieces actor p) x) slots ≡ held_in (place_pieces actor (get_or slots (t.start / 8) None)) x
slots_at actor words actors slots t x placed about =
    sum_at (λ p. held_in (place_pieces actor p) x) None slots (t.start / 8) refl
    (λ i ne. about (place_pieces actor (get_or slots i None)) (place_none actor words actors i (get_or slots i None) t (placed i) ne))

-- what the entry at a place counts for a title
pub kept_amount : (actor : ℕ) (p : Place) (t : Title) (x : Thing) → ((ps : List Piece) → IsNoneOf ps t → held_in ps x ≡ 0) →
    ((o : Slot) × (kept_as t p ≡ Some o) × (o.title ≡ t) × (held_in (place_pieces actor p) x ≡ held_in (slot_pieces actor o) x))
    ⊎ ((kept_as t p ≡ None) × (held_in (place_pieces actor p) x ≡ 0))
kept_amount actor None t x about = inr (refl, refl)
kept_amount actor (Some b) t x about = elim (title_tells b.value.title t) [
  | inl y ↦ inl (b.value, rw y.0 refl, y.1, refl)
  | inr n ↦ inr (rw n.0 refl, about (slot_pieces actor b.value) (slot_none actor b.value t n.1))
]
