-- The facts that the tests of the events' conditions rest on.
use Rattle.std.proofs.Common.{◌≡◌, ℕ, ◌+◌, ◌-◌, ◌*◌, ◌/◌, ◌%◌, ◌<◌, ◌≤◌, Bool, true, false, ◌&&◌, cond, Some, None, length, get_or, refl, sym, ◌∙◌, ap, subst, arith, ◌⊎◌, inl, inr, Contains, ◌↔◌}
use Rattle.std.specs.Prelude.{nat_le, nat_lt}
use Rattle.std.proofs.lemmas.Bool.Decides.{nat_tests}
use Rattle.std.proofs.lemmas.Bool.{cases_lt}
use Rattle.std.proofs.lemmas.List.FromFn.{length-map-range_with_len}
use Rattle.pa_slot.specs.declared.title.Title.{Title}
use Rattle.pa_slot.specs.declared.title.OwnState.{OwnState}
use Rattle.pa_slot.specs.declared.title.OwnState.TheVariants.{Clean, Dirty, Poisoned}
use Rattle.pa_slot.specs.declared.word.Step.{Step}
use Rattle.pa_slot.specs.declared.word.Step.TheVariants.{Issue, Copy, Reset, Free, Write}
use Rattle.pa_machine.specs.declared.slot.Slot.{Slot}
use Rattle.pa_machine.specs.declared.tables.Tables.{Tables}
use Rattle.pa_slot.specs.Titles.{Covers, IsWellFormed, IsContentOf, content_count, progress}
use Rattle.pa_slot.specs.Holdings.{RawByte, FreeTitle, OwnAs, RefOf, IsTitleHeld}
use Rattle.pa_machine.specs.Events.{HasActor, CanCount, HoldsRaw, Holds, HoldsOpen, total_of, IsTitleWord}
use Rattle.pa_machine.specs.Tables.{Place, pieces_of, state_of, kept_as, slot_at, kept_over, slot_over, IsPlaced, AreSound, IsHeldBy, CanPoison, MayChange, MayWrite}
use Rattle.pa_slot.proofs.Same.{title_tells, title_self}
use Rattle.pa_machine.proofs.Totals.{tally_of}
use Rattle.pa_machine.proofs.Keeps.{own_of_state}
use Rattle.pa_machine.proofs.Happening.{in_total}
use Rattle.pa_machine.proofs.Reading.{reads_free, reads_own, reads_ref, free_read, own_read, ref_read}

-- a title that an actor holds is held, and so well formed
pub held_free : (c : Tables) (actor : ℕ) (t : Title) → Holds (state_of c) actor (FreeTitle t) → IsTitleHeld (total_of (state_of c)) t
held_free c actor t h = let p = in_total (state_of c) actor (FreeTitle t) h in omega arith

pub held_own : (c : Tables) (actor : ℕ) (t : Title) (s : OwnState) → Holds (state_of c) actor (OwnAs t s) →
    IsTitleHeld (total_of (state_of c)) t
held_own c actor t s h =
    let p = own_of_state (total_of (state_of c)) t s (tally_of (state_of c).holdings) (in_total (state_of c) actor (OwnAs t s) h) in
    omega arith

pub held_ref : (c : Tables) (actor : ℕ) (t : Title) → Holds (state_of c) actor (RefOf t) → IsTitleHeld (total_of (state_of c)) t
held_ref c actor t h = let p = in_total (state_of c) actor (RefOf t) h in omega arith

pub well_free : (c : Tables) (actor : ℕ) (t : Title) → AreSound c → Holds (state_of c) actor (FreeTitle t) →
    IsWellFormed (length c.words.items) t
well_free c actor t sound h = sound.good.divided.well t (held_free c actor t h)

pub well_own : (c : Tables) (actor : ℕ) (t : Title) (s : OwnState) → AreSound c → Holds (state_of c) actor (OwnAs t s) →
    IsWellFormed (length c.words.items) t
well_own c actor t s sound h = sound.good.divided.well t (held_own c actor t s h)

pub well_ref : (c : Tables) (actor : ℕ) (t : Title) → AreSound c → Holds (state_of c) actor (RefOf t) →
    IsWellFormed (length c.words.items) t
well_ref c actor t sound h = sound.good.divided.well t (held_ref c actor t h)

-- nothing is no entry
pub none_some : (o : Slot) → None ≡ Some o → ⊥
none_some o e = cc

-- an actor of the state is one of the tables
pub actor_is : (c : Tables) (actor : ℕ) → HasActor (state_of c) actor → actor < c.actors
actor_is c actor has = let n = length-map-range_with_len (pieces_of c.holders.items c.slots.items) 0 c.actors in omega arith

pub actor_has : (c : Tables) (actor : ℕ) → actor < c.actors → HasActor (state_of c) actor
actor_has c actor has = let n = length-map-range_with_len (pieces_of c.holders.items c.slots.items) 0 c.actors in omega arith

-- an entry's title is well formed, and a title that has an entry is the entry's
pub kept_is : (t : Title) (p : Place) (o : Slot) → kept_as t p ≡ Some o → (words actors i : ℕ) → IsPlaced words actors i p → (o.title ≡ t) ×
    IsWellFormed words o.title × (o.title.start ≡ 8 * i)
kept_is t None o is words actors i placed = absurd (none_some o is)
kept_is t (Some b) o is words actors i placed = elim (title_tells b.value.title t) [
  | inl y ↦
      let e : Some b.value ≡ Some o = rw y.0 at is in
      let same : b.value ≡ o = cc in (
        ap (λ (x : Slot). x.title) (sym same) ∙ y.1,
        subst (λ (x : Slot). IsWellFormed words x.title) same placed.1,
        subst (λ (x : Slot). x.title.start ≡ 8 * i) same placed.0,
      )
  | inr n ↦ absurd (none_some o (rw n.0 at is))
]

-- the entry over a byte is its title's entry, and its title has the byte
over_is : (p : Place) (at_byte : ℕ) (o : Slot) → kept_over at_byte p ≡ Some o → (words actors i : ℕ) → IsPlaced words actors i p →
    (kept_as o.title p ≡ Some o) × Covers o.title at_byte × IsWellFormed words o.title × (o.title.start ≡ 8 * i)
over_is None at_byte o is words actors i placed = absurd cc
over_is (Some b) at_byte o is words actors i placed =
    by_test (nat_le b.value.title.start at_byte && nat_lt at_byte (b.value.title.start + b.value.title.len)) refl is
  where
    by_test : (c : Bool) → (nat_le b.value.title.start at_byte && nat_lt at_byte (b.value.title.start + b.value.title.len)) ≡ c →
        cond c (Some b.value) None ≡ Some o →
        (kept_as o.title (Some b) ≡ Some o) × Covers o.title at_byte × IsWellFormed words o.title × (o.title.start ≡ 8 * i)
    by_test false e h = absurd cc
    by_test true e h =
        let same : b.value ≡ o = cc in
        let low : b.value.title.start ≤ at_byte = grind (arith, nat_tests) in
        let high : at_byte < b.value.title.start + b.value.title.len = grind (arith, nat_tests) in
        subst (λ (x : Slot). (kept_as x.title (Some b) ≡ Some x) × Covers x.title at_byte × IsWellFormed words x.title ×
        (x.title.start ≡ 8 * i)) same
        (rw (title_self b.value.title) refl, (low, high), placed.1, placed.0)

pub over_entry : (c : Tables) (at_byte : ℕ) (o : Slot) → AreSound c → slot_over c.homes.items c.slots.items at_byte ≡ Some o →
    (slot_at c.slots.items o.title ≡ Some o) × Covers o.title at_byte × IsWellFormed (length c.words.items) o.title
over_entry c at_byte o sound is =
    let home = get_or c.homes.items (at_byte / 8) 0 in
    let r = over_is (get_or c.slots.items home None) at_byte o is (length c.words.items) c.actors home (sound.placed home) in
    let start = r.3 in
    let place : o.title.start / 8 ≡ home = omega arith in
    (rw place r.0, r.1, r.2)

-- a held title that has the byte is found there
kept_covers : (t : Title) (p : Place) (o : Slot) (at_byte : ℕ) → kept_as t p ≡ Some o → Covers t at_byte → kept_over at_byte p ≡ Some o
kept_covers t None o at_byte is covers = absurd cc
kept_covers t (Some b) o at_byte is covers = elim (title_tells b.value.title t) [
  | inl y ↦
      let e : Some b.value ≡ Some o = rw y.0 at is in
      let in_b : Covers b.value.title at_byte = subst (λ (x : Title). Covers x at_byte) (sym y.1) covers in
      let low = in_b.0 in let high = in_b.1 in
      let test : (nat_le b.value.title.start at_byte && nat_lt at_byte (b.value.title.start + b.value.title.len)) ≡ true =
      grind (arith, nat_tests) in
      rw test e
  | inr n ↦ absurd (none_some o (rw n.0 at is))
]

pub entry_over : (c : Tables) (t : Title) (o : Slot) (at_byte : ℕ) → AreSound c → IsTitleHeld (total_of (state_of c)) t →
    slot_at c.slots.items t ≡ Some o → Covers t at_byte → slot_over c.homes.items c.slots.items at_byte ≡ Some o
entry_over c t o at_byte sound held is covers =
    let well = sound.good.divided.well t held in
    let a = well.start_aligned in let b = well.len_aligned in let l = well.long in
    let low = covers.0 in let high = covers.1 in
    let home = sound.pointed t (at_byte / 8) held (omega arith) (omega arith) in
    rw home (kept_covers t (get_or c.slots.items (t.start / 8) None) o at_byte is covers)

-- the tests on an entry, as what the actor holds
pub poison_same : (c : Tables) (actor : ℕ) (t : Title) (o : Slot) → AreSound c → actor < c.actors → slot_at c.slots.items t ≡ Some o →
    CanPoison o actor ↔ ((state : OwnState) × Holds (state_of c) actor (OwnAs t state) × (progress state < content_count t))
poison_same c actor t o sound has is =
    let title = (kept_is t (get_or c.slots.items (t.start / 8) None) o is (length c.words.items) c.actors (t.start / 8)
    (sound.placed (t.start / 8))).0 in (
      λ can. (can.0, own_read c actor t can.0 can.1 o sound has is can.2, rw title at can.3),
      λ h.
          let r = reads_own c actor t h.0 sound has h.1 in
          let same : r.0 ≡ o = let e = r.1 in cc in
          (h.0, r.3, ap (λ (q : Slot). q.own) (sym same) ∙ r.4, rw title h.2),
    )

pub read_same : (c : Tables) (actor at_byte : ℕ) (o : Slot) → AreSound c → actor < c.actors →
    slot_over c.homes.items c.slots.items at_byte ≡ Some o →
    IsHeldBy o actor ↔ IsTitleWord (state_of c) actor at_byte
read_same c actor at_byte o sound has is =
    let e = over_entry c at_byte o sound is in (
      λ held. (
        o.title,
        e.1,
        elim held [
          | inl f ↦ inl (free_read c actor o.title o sound has e.0 f)
          | inr rest ↦ elim rest [
            | inl w ↦ inr (inl (w.0, own_read c actor o.title w.0 w.1 o sound has e.0 w.2))
            | inr r ↦ inr (inr (ref_read c actor o.title o sound has e.0 r))
          ]
        ],
      ),
      λ word. elim word.2 [
        | inl f ↦
            let r = reads_free c actor word.0 sound has f in
            let over = entry_over c word.0 r.0 at_byte sound (held_free c actor word.0 f) r.1 word.1 in
            let same : r.0 ≡ o = cc in
            inl (ap (λ (q : Slot). q.free) (sym same) ∙ r.3)
        | inr rest ↦ elim rest [
          | inl w ↦
              let r = reads_own c actor word.0 w.0 sound has w.1 in
              let over = entry_over c word.0 r.0 at_byte sound (held_own c actor word.0 w.0 w.1) r.1 word.1 in
              let same : r.0 ≡ o = cc in
              inr (inl (w.0, r.3, ap (λ (q : Slot). q.own) (sym same) ∙ r.4))
          | inr f ↦
              let r = reads_ref c actor word.0 sound has f in
              let over = entry_over c word.0 r.0 at_byte sound (held_ref c actor word.0 f) r.1 word.1 in
              let same : r.0 ≡ o = cc in
              inr (inr (subst (λ (q : Slot). Contains q.refs.items actor) same r.3))
        ]
      ],
    )

pub none_read : (c : Tables) (actor at_byte : ℕ) → AreSound c → actor < c.actors → slot_over c.homes.items c.slots.items at_byte ≡ None →
    IsTitleWord (state_of c) actor at_byte → ⊥
none_read c actor at_byte sound has none word = elim word.2 [
  | inl f ↦
      let r = reads_free c actor word.0 sound has f in
      let over = entry_over c word.0 r.0 at_byte sound (held_free c actor word.0 f) r.1 word.1 in cc
  | inr rest ↦ elim rest [
    | inl w ↦
        let r = reads_own c actor word.0 w.0 sound has w.1 in
        let over = entry_over c word.0 r.0 at_byte sound (held_own c actor word.0 w.0 w.1) r.1 word.1 in cc
    | inr f ↦
        let r = reads_ref c actor word.0 sound has f in
        let over = entry_over c word.0 r.0 at_byte sound (held_ref c actor word.0 f) r.1 word.1 in cc
  ]
]

-- a word that may be written lies in the title of the entry over it
pub write_over : (c : Tables) (actor at_byte : ℕ) → AreSound c → actor < c.actors → MayWrite (state_of c) actor at_byte →
    (o : Slot) × (slot_over c.homes.items c.slots.items at_byte ≡ Some o) × IsContentOf o.title at_byte ×
    MayChange (state_of c) actor o.title
write_over c actor at_byte sound has (inl free) =
    let t = free.0 in
    let r = reads_free c actor t sound has free.1 in
    let low = free.2.0 in let high = free.2.1 in
    let over = entry_over c t r.0 at_byte sound (held_free c actor t free.1) r.1 (omega arith, omega arith) in (
      r.0,
      over,
      subst (λ (x : Title). IsContentOf x at_byte) (sym r.2) free.2,
      subst (λ (x : Title). MayChange (state_of c) actor x) (sym r.2) (inl free.1),
    )
write_over c actor at_byte sound has (inr own) =
    let t = own.0 in
    let word = own.2 in
    let r = reads_own c actor t own.1 sound has word.0.1 in
    let low = word.1.0 in let high = word.1.1 in
    let over = entry_over c t r.0 at_byte sound (held_own c actor t own.1 word.0.1) r.1 (omega arith, omega arith) in (
      r.0,
      over,
      subst (λ (x : Title). IsContentOf x at_byte) (sym r.2) word.1,
      subst (λ (x : Title). MayChange (state_of c) actor x) (sym r.2) (inr ((own.1, word.0), word.2)),
    )

pub change_writes : (c : Tables) (actor at_byte : ℕ) (t : Title) → IsContentOf t at_byte → MayChange (state_of c) actor t →
    MayWrite (state_of c) actor at_byte
change_writes c actor at_byte t within (inl free) = inl (t, free, within)
change_writes c actor at_byte t within (inr own) = inr (t, own.0.0, (own.0.1, within, own.1))

-- an Own, clean or dirty, and what it says of the title
pub well_open : (c : Tables) (actor : ℕ) (t : Title) → AreSound c → ((state : OwnState) × HoldsOpen (state_of c) actor t state) →
    IsWellFormed (length c.words.items) t
well_open c actor t sound h = well_own c actor t h.0 sound h.1.1

pub open_either : (c : Tables) (actor : ℕ) (t : Title) → ((state : OwnState) × HoldsOpen (state_of c) actor t state) →
    Holds (state_of c) actor (OwnAs t Clean) ⊎ Holds (state_of c) actor (OwnAs t Dirty)
open_either c actor t h = elim h.1.0 [
  | inl e ↦ inl (subst (λ (s : OwnState). Holds (state_of c) actor (OwnAs t s)) e h.1.1)
  | inr e ↦ inr (subst (λ (s : OwnState). Holds (state_of c) actor (OwnAs t s)) e h.1.1)
]

-- what a step requires of its actor makes the title a held one
pub well_counted : (c : Tables) (actor : ℕ) (t : Title) (p : Step) → AreSound c → CanCount p (state_of c) actor t →
    IsWellFormed (length c.words.items) t
well_counted c actor t Issue sound can = well_free c actor t sound can.0
well_counted c actor t Copy sound can = elim can [ inl o ↦ well_own c actor t Clean sound o.0 | inr r ↦ well_ref c actor t sound r ]
well_counted c actor t Reset sound can = well_ref c actor t sound can
well_counted c actor t Free sound can = well_own c actor t (Poisoned (content_count t)) sound can
well_counted c actor t Write sound can = well_open c actor t sound can.0

-- raw bytes lie in the region
pub well_raw : (c : Tables) (actor : ℕ) (t : Title) → AreSound c → HoldsRaw (state_of c) actor t.start t.len → t.start % 8 ≡ 0 →
    t.len % 8 ≡ 0 → 16 ≤ t.len →
    IsWellFormed (length c.words.items) t
well_raw c actor t sound raw start len long =
    let last = in_total (state_of c) actor (RawByte (t.start + t.len - 1)) (raw (t.start + t.len - 1) (omega arith) (omega arith)) in
    record {
      start_aligned = start;
      len_aligned = len;
      long = long;
      inside = elim (cases_lt (t.start + t.len - 1) (8 * length c.words.items)) [
        | inl below ↦ omega arith
        | inr past ↦ let z = sound.good.divided.outside (t.start + t.len - 1) past in absurd (omega arith)
      ];
    }

-- a range of raw bytes that isn't empty lies in the region
pub raw_inside : (c : Tables) (actor start len : ℕ) → AreSound c → 0 < len → HoldsRaw (state_of c) actor start len →
    start + len ≤ 8 * length c.words.items
raw_inside c actor start len sound some_byte raw =
    let last = in_total (state_of c) actor (RawByte (start + len - 1)) (raw (start + len - 1) (omega arith) (omega arith)) in
    elim (cases_lt (start + len - 1) (8 * length c.words.items)) [
      | inl below ↦ omega arith
      | inr past ↦ let z = sound.good.divided.outside (start + len - 1) past in absurd (omega arith)
    ]
