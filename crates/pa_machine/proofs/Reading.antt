-- Whether an actor holds a thing, as the tables have it.
use Rattle.std.proofs.Common.{◌≡◌, ℕ, suc, ◌+◌, ◌-◌, ◌/◌, ◌<◌, ◌≤◌, Bool, true, false, cond, eqb, List, [], ◌∷◌, ◌++◌, Option, Some, None, length, get_or, refl, sym, ◌∙◌, ap, subst, arith, ◌⊎◌, inl, inr, Contains, ◌↔◌}
use Rattle.std.specs.List.{sum_by}
use Rattle.std.proofs.lemmas.List.Sums.{sum_by-cons, get_or-le-sum_by}
use Rattle.std.proofs.lemmas.Bool.Decides.{eqb_tells}
use Rattle.pa_slot.specs.declared.title.Title.{Title}
use Rattle.pa_slot.specs.declared.title.OwnState.{OwnState}
use Rattle.pa_slot.specs.declared.title.OwnState.TheVariants.{Clean}
use Rattle.pa_machine.specs.declared.slot.Owner.{Owner}
use Rattle.pa_machine.specs.declared.slot.Slot.{Slot}
use Rattle.pa_machine.specs.declared.tables.Tables.{Tables}
use Rattle.pa_slot.specs.Holdings.{Piece, FreePiece, OwnPiece, RefPiece, Thing, RawByte, FreeTitle, OwnAs, SealedOwn, RefOf, one, amount, held_in}
use Rattle.pa_machine.specs.Events.{of_actor, held_by, Holds, HoldsRaw, IsSealedAs}
use Rattle.pa_machine.specs.Tables.{Place, is_holder, raw_pieces, free_pieces, own_pieces, ref_pieces, slot_pieces, place_pieces, state_of, slot_at, AreSound}
use Rattle.pa_slot.proofs.Same.{state_tells}
use Rattle.pa_machine.proofs.Parts.{IsNoneOf}
use Rattle.pa_machine.proofs.Amounts.{free_self, ref_self, seal_self, state_here, state_apart}
use Rattle.pa_machine.proofs.Tabled.{held_join, held_tables, raw_titles, raw_amount, place_raw, ref_sum, slots_at, kept_amount}

-- pieces that are there by a test
if_zero : (c : Bool) (ps : List Piece) (x : Thing) → held_in ps x ≡ 0 → held_in (cond c ps []) x ≡ 0
if_zero true ps x h = h
if_zero false ps x h = refl

-- an entry's parts
pub slot_parts : (actor : ℕ) (o : Slot) (x : Thing) → held_in (slot_pieces actor o) x
    ≡ held_in (free_pieces actor o.title o.free) x + (held_in (own_pieces actor o.title o.own) x + held_in
    (ref_pieces actor o.title o.refs.items) x)
slot_parts actor o x =
    let j = held_join (free_pieces actor o.title o.free) (own_pieces actor o.title o.own ++ ref_pieces actor o.title o.refs.items) x in
    let k = held_join (own_pieces actor o.title o.own) (ref_pieces actor o.title o.refs.items) x in
    omega arith

-- Refs count for nothing that a Ref isn't
pub refs_zero : (actor : ℕ) (t : Title) (rs : List ℕ) (x : Thing) → held_in (RefPiece t ∷ []) x ≡ 0 → held_in (ref_pieces actor t rs) x ≡ 0
refs_zero actor t [] x h = refl
refs_zero actor t (r ∷ rs) x h = by_test (eqb r actor) (refs_zero actor t rs x h)
  where
    by_test : (c : Bool) → held_in (ref_pieces actor t rs) x ≡ 0 →
        held_in (cond c (RefPiece t ∷ ref_pieces actor t rs) (ref_pieces actor t rs)) x ≡ 0
    by_test false z = z
    by_test true z = let e = sum_by-cons (amount x) (RefPiece t) (ref_pieces actor t rs) in omega arith

frees_zero : (actor : ℕ) (t : Title) (h : Option ℕ) (x : Thing) → held_in (FreePiece t ∷ []) x ≡ 0 → held_in (free_pieces actor t h) x ≡ 0
frees_zero actor t None x h = refl
frees_zero actor t (Some other) x h = if_zero (eqb other actor) (FreePiece t ∷ []) x h

owns_zero : (actor : ℕ) (t : Title) (w : Option Owner) (x : Thing) →
    ((sealed : Bool) (s : OwnState) → held_in (OwnPiece sealed t s ∷ []) x ≡ 0) →
    held_in (own_pieces actor t w) x ≡ 0
owns_zero actor t None x h = refl
owns_zero actor t (Some w) x h = if_zero (eqb w.actor actor) (OwnPiece w.sealed t w.state ∷ []) x (h w.sealed w.state)

-- whether an entry is held free by the actor, owned by it in a state, or by a Ref of it
frees_some : (actor : ℕ) (t : Title) (h : Option ℕ) → 0 < held_in (free_pieces actor t h) (FreeTitle t) → h ≡ Some actor
frees_some actor t None has = absurd (omega arith)
frees_some actor t (Some other) has = elim (eqb_tells other actor) [
  | inl y ↦ ap Some y.1
  | inr n ↦ let z = rw n.0 at has in absurd (omega arith)
]

frees_here : (actor : ℕ) (t : Title) → held_in (free_pieces actor t (Some actor)) (FreeTitle t) ≡ 1
frees_here actor t = elim (eqb_tells actor actor) [ inl y ↦ rw y.0 (free_self t) | inr n ↦ absurd (n.1 refl) ]

pub owner_is : (w : Owner) (actor : ℕ) (s : OwnState) → w.actor ≡ actor → w.state ≡ s →
    Some w ≡ Some (record { actor = actor; state = s; sealed = w.sealed })
owner_is w actor s e f = ap (λ (a : ℕ). let o : Owner = record { actor = a; state = w.state; sealed = w.sealed } in Some o) e ∙
    ap (λ (q : OwnState). let o : Owner = record { actor = actor; state = q; sealed = w.sealed } in Some o) f

owns_some : (actor : ℕ) (t : Title) (s : OwnState) (h : Option Owner) → 0 < held_in (own_pieces actor t h) (OwnAs t s) →
    (sealed : Bool) × (h ≡ Some (record { actor = actor; state = s; sealed = sealed }))
owns_some actor t s None has = absurd (omega arith)
owns_some actor t s (Some w) has = elim (eqb_tells w.actor actor) [
  | inl y ↦ elim (state_tells w.state s) [
    | inl e ↦ (w.sealed, owner_is w actor s y.1 e.1)
    | inr m ↦ let z = rw y.0 at has in let none = state_apart w.sealed t w.state s m.1 in absurd (omega arith)
  ]
  | inr n ↦ let z = rw n.0 at has in absurd (omega arith)
]

owns_here : (actor : ℕ) (t : Title) (s : OwnState) (sealed : Bool) →
    held_in (own_pieces actor t (Some (record { actor = actor; state = s; sealed = sealed }))) (OwnAs t s) ≡ 1
owns_here actor t s sealed = elim (eqb_tells actor actor) [ inl y ↦ rw y.0 (state_here sealed t s) | inr n ↦ absurd (n.1 refl) ]

seals_here : (actor : ℕ) (t : Title) (s : OwnState) (sealed : Bool) →
    held_in (own_pieces actor t (Some (record { actor = actor; state = s; sealed = sealed }))) (SealedOwn t) ≡ one sealed
seals_here actor t s sealed = elim (eqb_tells actor actor) [ inl y ↦ rw y.0 (seal_self sealed t s) | inr n ↦ absurd (n.1 refl) ]

refs_some : (actor : ℕ) (t : Title) (rs : List ℕ) → 0 < held_in (ref_pieces actor t rs) (RefOf t) → Contains rs actor
refs_some actor t [] has = absurd (omega arith)
refs_some actor t (r ∷ rs) has = elim (eqb_tells r actor) [
  | inl y ↦ (0, omega arith, y.1)
  | inr n ↦
      let rest = refs_some actor t rs (rw n.0 at has) in
      (suc rest.0, (let l = rest.1 in omega arith), rest.2)
]

refs_here : (actor : ℕ) (t : Title) (rs : List ℕ) → Contains rs actor → 0 < held_in (ref_pieces actor t rs) (RefOf t)
refs_here actor t rs (k, below, is) =
    let part = get_or-le-sum_by (λ r. held_in (of_actor r (RefPiece t ∷ []) actor) (RefOf t)) rs k actor below in
    let e = ref_sum actor t rs (RefOf t) in
    let one_here : held_in (of_actor (get_or rs k actor) (RefPiece t ∷ []) actor) (RefOf t) ≡ 1 =
    rw is (elim (eqb_tells actor actor) [ inl y ↦ rw y.0 (ref_self t) | inr n ↦ absurd (n.1 refl) ]) in
    omega arith

-- what an actor of the core holds of a title is what the title's entry has for it, if there is one
pub reads : (c : Tables) (actor : ℕ) (t : Title) (x : Thing) → AreSound c → actor < c.actors →
    ((ps : List Piece) → IsNoneOf ps t → held_in ps x ≡ 0) →
    ((o : Slot) × (slot_at c.slots.items t ≡ Some o) × (o.title ≡ t) × (held_by (state_of c) actor x ≡ held_in (slot_pieces actor o) x))
    ⊎ ((slot_at c.slots.items t ≡ None) × (held_by (state_of c) actor x ≡ 0))
reads c actor t x sound has about =
    let all = held_tables c.holders.items c.slots.items c.actors actor x has in
    let raw = about (raw_pieces actor 0 c.holders.items) (raw_titles actor 0 c.holders.items t) in
    let at_one = slots_at actor (length c.words.items) c.actors c.slots.items t x sound.placed about in
    elim (kept_amount actor (get_or c.slots.items (t.start / 8) None) t x about) [
      | inl y ↦ let e = y.3 in inl (y.0, y.1, y.2, omega arith)
      | inr n ↦ let e = n.1 in inr (n.0, omega arith)
    ]

-- the table names the actor as the holder of a title that it holds free
pub reads_free : (c : Tables) (actor : ℕ) (t : Title) → AreSound c → actor < c.actors → Holds (state_of c) actor (FreeTitle t) →
    (o : Slot) × (slot_at c.slots.items t ≡ Some o) × (o.title ≡ t) × (o.free ≡ Some actor)
reads_free c actor t sound has holds = elim (reads c actor t (FreeTitle t) sound has (λ ps n. n.free)) [
  | inl y ↦
      let e = y.3 in
      let p = slot_parts actor y.0 (FreeTitle t) in
      let z = owns_zero actor y.0.title y.0.own (FreeTitle t) (λ sealed s. refl) in
      let r = refs_zero actor y.0.title y.0.refs.items (FreeTitle t) refl in
      let f : 0 < held_in (free_pieces actor y.0.title y.0.free) (FreeTitle t) = omega arith in
      (y.0, y.1, y.2, frees_some actor y.0.title y.0.free (rw (← y.2) at f))
  | inr n ↦ let e = n.1 in absurd (omega arith)
]

pub free_read : (c : Tables) (actor : ℕ) (t : Title) (o : Slot) → AreSound c → actor < c.actors → slot_at c.slots.items t ≡ Some o →
    o.free ≡ Some actor → Holds (state_of c) actor (FreeTitle t)
free_read c actor t o sound has is free = elim (reads c actor t (FreeTitle t) sound has (λ ps n. n.free)) [
  | inl y ↦
      let same : y.0 ≡ o = cc in
      let e = y.3 in
      let p = slot_parts actor y.0 (FreeTitle t) in
      let f : held_in (free_pieces actor y.0.title y.0.free) (FreeTitle t) ≡ 1 =
      let is_free : y.0.free ≡ Some actor = ap (λ (q : Slot). q.free) same ∙ free in
      rw (is_free, y.2) (frees_here actor t) in
      omega arith
  | inr n ↦ let e = n.0 in cc
]

-- the table names the actor as the owner, in this state, of a title whose Own it has
pub reads_own : (c : Tables) (actor : ℕ) (t : Title) (s : OwnState) → AreSound c → actor < c.actors → Holds (state_of c) actor (OwnAs t s) →
    (o : Slot) × (slot_at c.slots.items t ≡ Some o) × (o.title ≡ t) × (sealed : Bool) ×
    (o.own ≡ Some (record { actor = actor; state = s; sealed = sealed }))
reads_own c actor t s sound has holds = elim (reads c actor t (OwnAs t s) sound has (λ ps n. n.state s)) [
  | inl y ↦
      let e = y.3 in
      let p = slot_parts actor y.0 (OwnAs t s) in
      let z = frees_zero actor y.0.title y.0.free (OwnAs t s) refl in
      let r = refs_zero actor y.0.title y.0.refs.items (OwnAs t s) refl in
      let f : 0 < held_in (own_pieces actor y.0.title y.0.own) (OwnAs t s) = omega arith in
      let own = owns_some actor y.0.title s y.0.own (rw (← y.2) at f) in
      (y.0, y.1, y.2, own.0, own.1)
  | inr n ↦ let e = n.1 in absurd (omega arith)
]

pub own_read : (c : Tables) (actor : ℕ) (t : Title) (s : OwnState) (sealed : Bool) (o : Slot) → AreSound c → actor < c.actors →
    slot_at c.slots.items t ≡ Some o →
    o.own ≡ Some (record { actor = actor; state = s; sealed = sealed }) → Holds (state_of c) actor (OwnAs t s)
own_read c actor t s sealed o sound has is own = elim (reads c actor t (OwnAs t s) sound has (λ ps n. n.state s)) [
  | inl y ↦
      let same : y.0 ≡ o = cc in
      let e = y.3 in
      let p = slot_parts actor y.0 (OwnAs t s) in
      let f : held_in (own_pieces actor y.0.title y.0.own) (OwnAs t s) ≡ 1 =
      let is_own : y.0.own ≡ Some (record { actor = actor; state = s; sealed = sealed }) = ap (λ (q : Slot). q.own) same ∙ own in
      rw (is_own, y.2) (owns_here actor t s sealed) in
      omega arith
  | inr n ↦ let e = n.0 in cc
]

-- the table says whether the Own is sealed that the actor has
pub seal_read : (c : Tables) (actor : ℕ) (t : Title) (s : OwnState) (sealed : Bool) (o : Slot) → AreSound c → actor < c.actors →
    slot_at c.slots.items t ≡ Some o →
    o.own ≡ Some (record { actor = actor; state = s; sealed = sealed }) → IsSealedAs (state_of c) actor t sealed
seal_read c actor t s sealed o sound has is own = elim (reads c actor t (SealedOwn t) sound has (λ ps n. n.seal)) [
  | inl y ↦
      let same : y.0 ≡ o = cc in
      let e = y.3 in
      let p = slot_parts actor y.0 (SealedOwn t) in
      let z = frees_zero actor y.0.title y.0.free (SealedOwn t) refl in
      let r = refs_zero actor y.0.title y.0.refs.items (SealedOwn t) refl in
      let f : held_in (own_pieces actor y.0.title y.0.own) (SealedOwn t) ≡ one sealed =
      let is_own : y.0.own ≡ Some (record { actor = actor; state = s; sealed = sealed }) = ap (λ (q : Slot). q.own) same ∙ own in
      rw (is_own, y.2) (seals_here actor t s sealed) in
      omega arith
  | inr n ↦ let e = n.0 in cc
]

-- the table names the actor among those that have a Ref of a title of which it has one
pub reads_ref : (c : Tables) (actor : ℕ) (t : Title) → AreSound c → actor < c.actors → Holds (state_of c) actor (RefOf t) →
    (o : Slot) × (slot_at c.slots.items t ≡ Some o) × (o.title ≡ t) × Contains o.refs.items actor
reads_ref c actor t sound has holds = elim (reads c actor t (RefOf t) sound has (λ ps n. n.ref)) [
  | inl y ↦
      let e = y.3 in
      let p = slot_parts actor y.0 (RefOf t) in
      let z = frees_zero actor y.0.title y.0.free (RefOf t) refl in
      let w = owns_zero actor y.0.title y.0.own (RefOf t) (λ sealed s. refl) in
      let f : 0 < held_in (ref_pieces actor y.0.title y.0.refs.items) (RefOf t) = omega arith in
      (y.0, y.1, y.2, refs_some actor y.0.title y.0.refs.items (rw (← y.2) at f))
  | inr n ↦ let e = n.1 in absurd (omega arith)
]

pub ref_read : (c : Tables) (actor : ℕ) (t : Title) (o : Slot) → AreSound c → actor < c.actors → slot_at c.slots.items t ≡ Some o →
    Contains o.refs.items actor → Holds (state_of c) actor (RefOf t)
ref_read c actor t o sound has is refs = elim (reads c actor t (RefOf t) sound has (λ ps n. n.ref)) [
  | inl y ↦
      let same : y.0 ≡ o = cc in
      let e = y.3 in
      let p = slot_parts actor y.0 (RefOf t) in
      let in_y : Contains y.0.refs.items actor = subst (λ (q : Slot). Contains q.refs.items actor) (sym same) refs in
      let f : 0 < held_in (ref_pieces actor y.0.title y.0.refs.items) (RefOf t) = rw y.2 (refs_here actor t y.0.refs.items in_y) in
      omega arith
  | inr n ↦ let e = n.0 in cc
]

-- the holder of a byte that counts for the actor is the actor
holder_some : (actor : ℕ) (h : Option ℕ) → 0 < one (is_holder actor h) → h ≡ Some actor
holder_some actor None has = absurd (omega arith)
holder_some actor (Some other) has = elim (eqb_tells other actor) [
  | inl y ↦ ap Some y.1
  | inr n ↦ let z = rw n.0 at has in absurd (omega arith)
]

holder_here : (actor : ℕ) → one (is_holder actor (Some actor)) ≡ 1
holder_here actor = elim (eqb_tells actor actor) [ inl y ↦ rw y.0 refl | inr n ↦ absurd (n.1 refl) ]

sum_raw : (actor : ℕ) (slots : List Place) (b : ℕ) → sum_by (λ p. held_in (place_pieces actor p) (RawByte b)) slots ≡ 0
sum_raw actor [] b = refl
sum_raw actor (p ∷ ps) b =
    let e = sum_by-cons (λ q. held_in (place_pieces actor q) (RawByte b)) p ps in
    let first = place_raw actor p b in
    let rest = sum_raw actor ps b in
    omega arith

pub raw_is : (c : Tables) (actor b : ℕ) → actor < c.actors →
    held_by (state_of c) actor (RawByte b) ≡ one (is_holder actor (get_or c.holders.items b None))
raw_is c actor b has =
    let all = held_tables c.holders.items c.slots.items c.actors actor (RawByte b) has in
    let raw = raw_amount actor c.holders.items b in
    let rest = sum_raw actor c.slots.items b in
    omega arith

pub reads_raw : (c : Tables) (actor b : ℕ) → actor < c.actors → Holds (state_of c) actor (RawByte b) →
    get_or c.holders.items b None ≡ Some actor
reads_raw c actor b has holds = let e = raw_is c actor b has in holder_some actor (get_or c.holders.items b None) (omega arith)

pub raw_read : (c : Tables) (actor b : ℕ) → actor < c.actors → get_or c.holders.items b None ≡ Some actor →
    Holds (state_of c) actor (RawByte b)
raw_read c actor b has is =
    let e = raw_is c actor b has in
    let f : one (is_holder actor (get_or c.holders.items b None)) ≡ 1 = rw is (holder_here actor) in
    omega arith

-- the entry of a title that is there names the actor as its free holder exactly if the actor holds the title free
pub free_same : (c : Tables) (actor : ℕ) (t : Title) (o : Slot) → AreSound c → actor < c.actors → slot_at c.slots.items t ≡ Some o →
    (o.free ≡ Some actor) ↔ Holds (state_of c) actor (FreeTitle t)
free_same c actor t o sound has is = (
  free_read c actor t o sound has is,
  λ holds.
      let r = reads_free c actor t sound has holds in
      let same : r.0 ≡ o = let e = r.1 in cc in
      ap (λ (q : Slot). q.free) (sym same) ∙ r.3,
)

-- the entry of a title that is there names the actor as its owner in this state exactly if the actor has that Own
pub own_same : (c : Tables) (actor : ℕ) (t : Title) (s : OwnState) (o : Slot) → AreSound c → actor < c.actors →
    slot_at c.slots.items t ≡ Some o →
    ((sealed : Bool) × (o.own ≡ Some (record { actor = actor; state = s; sealed = sealed }))) ↔ Holds (state_of c) actor (OwnAs t s)
own_same c actor t s o sound has is = (
  λ own. own_read c actor t s own.0 o sound has is own.1,
  λ holds.
      let r = reads_own c actor t s sound has holds in
      let same : r.0 ≡ o = let e = r.1 in cc in
      (r.3, ap (λ (q : Slot). q.own) (sym same) ∙ r.4),
)

unsealed : (sealed : Bool) → one sealed ≡ 0 → sealed ≡ false
unsealed true e = absurd (omega arith)
unsealed false e = refl

-- the entry of a title that is there names the actor as the owner of a clean Own that isn't sealed exactly if the actor has such an Own
pub copy_same : (c : Tables) (actor : ℕ) (t : Title) (o : Slot) → AreSound c → actor < c.actors → slot_at c.slots.items t ≡ Some o →
    (o.own ≡ Some (record { actor = actor; state = Clean; sealed = false })) ↔
    (Holds (state_of c) actor (OwnAs t Clean) × IsSealedAs (state_of c) actor t false)
copy_same c actor t o sound has is = (
  λ own. (own_read c actor t Clean false o sound has is own, seal_read c actor t Clean false o sound has is own),
  λ holds.
      let own = (own_same c actor t Clean o sound has is).1 holds.0 in
      let seal = seal_read c actor t Clean own.0 o sound has is own.1 in
      let none = unsealed own.0 (sym seal ∙ holds.1) in
      subst (λ (b : Bool). o.own ≡ Some (record { actor = actor; state = Clean; sealed = b })) none own.1,
)

-- the entry of a title that is there names the actor among those with a Ref exactly if the actor has a Ref
pub ref_same : (c : Tables) (actor : ℕ) (t : Title) (o : Slot) → AreSound c → actor < c.actors → slot_at c.slots.items t ≡ Some o →
    Contains o.refs.items actor ↔ Holds (state_of c) actor (RefOf t)
ref_same c actor t o sound has is = (
  ref_read c actor t o sound has is,
  λ holds.
      let r = reads_ref c actor t sound has holds in
      let same : r.0 ≡ o = let e = r.1 in cc in
      subst (λ (q : Slot). Contains q.refs.items actor) same r.3,
)

-- nobody holds a title free that has no entry
pub none_free : (c : Tables) (actor : ℕ) (t : Title) → AreSound c → actor < c.actors → slot_at c.slots.items t ≡ None →
    Holds (state_of c) actor (FreeTitle t) → ⊥
none_free c actor t sound has is holds = let r = reads_free c actor t sound has holds in let e = r.1 in cc

-- nobody has the Own of a title that has no entry
pub none_own : (c : Tables) (actor : ℕ) (t : Title) (s : OwnState) → AreSound c → actor < c.actors → slot_at c.slots.items t ≡ None →
    Holds (state_of c) actor (OwnAs t s) → ⊥
none_own c actor t s sound has is holds = let r = reads_own c actor t s sound has holds in let e = r.1 in cc

-- nobody has a Ref of a title that has no entry
pub none_ref : (c : Tables) (actor : ℕ) (t : Title) → AreSound c → actor < c.actors → slot_at c.slots.items t ≡ None →
    Holds (state_of c) actor (RefOf t) → ⊥
none_ref c actor t sound has is holds = let r = reads_ref c actor t sound has holds in let e = r.1 in cc

-- a whole range, byte by byte
pub raw_same : (c : Tables) (actor start len : ℕ) → actor < c.actors →
    ((b : ℕ) → start ≤ b → b < start + len → get_or c.holders.items b None ≡ Some actor) ↔ HoldsRaw (state_of c) actor start len
raw_same c actor start len has =
    (λ all b low high. raw_read c actor b has (all b low high), λ holds b low high. reads_raw c actor b has (holds b low high))
