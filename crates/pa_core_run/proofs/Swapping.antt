-- An exchange with a cell: what the register held goes to actor 0, and what the cell held comes to the thread.
use Rattle.std.proofs.Common.{◌≡◌, ℕ, zero, suc, ◌+◌, ◌<◌, ◌≤◌, false, List, [], ◌∷◌, ◌++◌, get_or, refl, sym, ◌∙◌, ap, subst, arith, ◌⊎◌, inl, inr, ◌==◌, if◌then◌else◌}
use Rattle.std.proofs.lemmas.Bool.{cases_eq, eq-eqb, ne_eqb}
use Rattle.pa_slot.specs.declared.word.SlotName.{SlotName}
use Rattle.pa_slot.specs.declared.title.Title.{Title}
use Rattle.pa_slot.specs.declared.title.OwnState.{OwnState}
use Rattle.pa_slot.specs.declared.title.OwnState.TheVariants.{Clean}
use Rattle.pa_machine.specs.declared.event.Item.{Item}
use Rattle.pa_machine.specs.declared.event.Item.TheVariants.{Own as OwnItem, Ref as RefItem}
use Rattle.pa_machine.specs.declared.event.Event.{Event}
use Rattle.pa_machine.specs.declared.event.Event.TheVariants.{Hand}
use Rattle.pa_slot.specs.Holdings.{Piece, RefPiece, Thing, FreeTitle, OwnOf, OwnAs, RefOf, held_in}
use Rattle.pa_machine.specs.Events.{State, Holds, of_actor}
use Rattle.pa_machine.specs.Trail.{IsRunTo}
use Rattle.pa_machine.proofs.Totals.{of_actor_here, of_actor_apart}
use Rattle.pa_machine.proofs.Happening.{in_total}
use Rattle.pa_machine.proofs.Lasting.{run_start}
use Rattle.pa_record.specs.Spans.{name_of}
use Rattle.pa_rules.specs.Registers.{Reg, with, handle_of, reg_of}
use Rattle.pa_rules.specs.declared.register.Register.TheVariants.{Empty, Own, Ref, Freed, Cleared}
use Rattle.pa_slot_effects.specs.Shown.{owns, points, over}
use Rattle.pa_slot_effects.proofs.Handles.{over_part, over_same, over_one}
use Rattle.pa_slot_effects.proofs.Words.{owns_one, points_one}
use Rattle.pa_core_steps.proofs.Joining.{run_join}
use Rattle.pa_core_run.specs.Playing.{AreBeside}
use Rattle.pa_core_run.specs.Ledger.{Ledger, Titles, IsShown, IsPaid}
use Rattle.pa_core_run.specs.Moves.{HaveNames}
use Rattle.pa_core_run.proofs.Showing.{own_piece, own_sealed, ref_pieces, own_pieces}
use Rattle.pa_core_run.proofs.Moving.{hand_shown}
use Rattle.pa_core_run.proofs.Stepping.{own_some}
use Rattle.pa_core_run.proofs.Acting.{beside_both}
use Rattle.pa_core_run.proofs.Paying.{set_at, set_apart, owns_piece, points_piece}
use Rattle.pa_core_run.specs.Standing.{Standing, in_registers, in_lists, ledger_of}
use Rattle.pa_machine.proofs.Holding.{own_title, ref_title}

-- what a handle has of each slot, as numbers by actor: one actor has it, the others nothing
abbrev pub has_at : (SlotName → Reg → ℕ) → ℕ → Reg → ℕ → SlotName → ℕ
has_at f k r j x = if k == j then f x r else 0

-- The handle r goes from one actor's share to another's. Of owners and raw_ptrs each actor is to hold as much as before, without what it
-- gave and with what it got. All else of the ledger stays.
pub record IsGone (b next : Ledger) (r : Reg) (from to : ℕ) : Type 0 where
  pub own : (j : ℕ) (x : SlotName) → next.own j x + has_at owns from r j x ≤ b.own j x + has_at owns to r j x
  pub ref : (j : ℕ) (x : SlotName) → next.ref j x + has_at points from r j x ≤ b.ref j x + has_at points to r j x
  pub free : (j : ℕ) (x : SlotName) → next.free j x ≡ b.free j x
  pub word : (x : SlotName) → next.word x ≡ b.word x
  pub content : (x : SlotName) → next.content x ≡ b.content x

at_here : (f : SlotName → Reg → ℕ) (k : ℕ) (r : Reg) (x : SlotName) → has_at f k r k x ≡ f x r
at_here f k r x = rw (eq-eqb k k refl) refl

at_apart : (f : SlotName → Reg → ℕ) (k : ℕ) (r : Reg) (j : ℕ) (x : SlotName) → (j ≡ k → ⊥) → has_at f k r j x ≡ 0
at_apart f k r j x ne = rw (ne_eqb k j (λ e. ne (sym e))) refl

-- what an actor has, as a piece and as a handle
piece_at : (f : SlotName → Reg → ℕ) (k : ℕ) (r : Reg) (ps : List Piece) (thing : Thing) (x : SlotName) → held_in ps thing ≡ f x r →
    (j : ℕ) → held_in (of_actor k ps j) thing ≡ has_at f k r j x
piece_at f k r ps thing x same j = elim (cases_eq j k) [
  | inl e ↦ subst (λ i. held_in (of_actor k ps i) thing ≡ has_at f k r i x) (sym e)
      (of_actor_here k ps thing ∙ (same ∙ sym (at_here f k r x)))
  | inr ne ↦ of_actor_apart k j ps thing ne ∙ sym (at_apart f k r j x ne)
]

module _ (names : Titles) (actors bytes : ℕ) (unique : HaveNames names.Made) where
  -- the piece of an Own of this title
  abbrev owned : Title → Piece
  owned t = own_piece (names.plain t) t

  -- if nothing goes the ledger asks no more than before
  stays : (b next : Ledger) (s : State) (r : Reg) (from to : ℕ) → IsShown names actors bytes b s → ((x : SlotName) → owns x r ≡ 0)
      → ((x : SlotName) → points x r ≡ 0) → IsGone b next r from to → IsShown names actors bytes next s
  stays b next s r from to h no_owner no_pointer g = record {
    good = h.good;
    many = h.many;
    long = h.long;
    own = λ k t below made. let a = h.own k t below made in let e = g.own k (name_of t) in
        let z = none owns to k (name_of t) (no_owner (name_of t)) in omega arith;
    ref = λ k t below made. let a = h.ref k t below made in let e = g.ref k (name_of t) in
        let z = none points to k (name_of t) (no_pointer (name_of t)) in omega arith;
    free = λ k t some below made. let a = h.free k t some below made in let e = g.free k (name_of t) in omega arith;
    kept = h.kept;
    words = λ t held. h.words t held ∙ sym (g.word (name_of t));
    contents = λ t some. let had = h.contents t some in λ i low inside. had i low inside ∙ sym (g.content (name_of t));
    clean = h.clean;
    sealed = h.sealed;
    raw = h.raw;
    there = h.there;
  }
    where
      none : (f : SlotName → Reg → ℕ) (k j : ℕ) (x : SlotName) → f x r ≡ 0 → has_at f k r j x ≡ 0
      none f k j x zero_it = elim (cases_eq j k) [
        | inl e ↦ subst (λ i. has_at f k r i x ≡ 0) (sym e) (at_here f k r x ∙ zero_it)
        | inr ne ↦ at_apart f k r j x ne
      ]

  -- What it is for a handle to go: a run of hands between the two actors, after which the core shows the next ledger.
  pub record Goes (s : State) (next : Ledger) (k : ℕ) : Type 0 where
    pub events : List Event
    pub after : State
    pub run : IsRunTo s events after
    pub beside : AreBeside k events
    pub shown : IsShown names actors bytes next after

  -- one of the two actors is 0, and the other is the thread's
  abbrev pub Between : ℕ → ℕ → ℕ → Type 0
  Between k from to = ((from ≡ k) × (to ≡ 0)) ⊎ ((from ≡ 0) × (to ≡ k))

  beside_hand : (k from to : ℕ) (item : Item) → Between k from to → AreBeside k (Hand from to item ∷ [])
  beside_hand k from to item (inl e) = ((inr e.0, inl e.1), tt)
  beside_hand k from to item (inr e) = ((inl e.0, inr e.1), tt)

  pub goes : (b next : Ledger) (s : State) (r : Reg) (k from to : ℕ) → IsShown names actors bytes b s → k < actors → Between k from to →
      ((x : SlotName) → owns x r ≤ b.own from x) → ((x : SlotName) → points x r ≤ b.ref from x) →
      ((x : SlotName) → (r ≡ Own x) ⊎ (r ≡ Ref x) → (t : Title) × names.Made t × (name_of t ≡ x)) →
      IsGone b next r from to → Goes s next k
  goes b next s Empty k from to h below between own ref titled g = record
      { events = []; after = s; run = run_start s h.good; beside = tt; shown = stays b next s Empty from to h (λ x. refl) (λ x. refl) g }
  goes b next s Freed k from to h below between own ref titled g = record
      { events = []; after = s; run = run_start s h.good; beside = tt; shown = stays b next s Freed from to h (λ x. refl) (λ x. refl) g }
  goes b next s Cleared k from to h below between own ref titled g = record
      { events = []; after = s; run = run_start s h.good; beside = tt; shown = stays b next s Cleared from to h (λ x. refl) (λ x. refl) g }
  goes b next s (Own x) k from to h below between own ref titled g =
      let (t, made, name) = titled x (inl refl) in
      let from_below : from < actors = elim between [ inl e ↦ let f = e.0 in omega arith | inr e ↦ let f = e.0 in omega arith ] in
      let to_below : to < actors = elim between [ inl e ↦ let f = e.1 in omega arith | inr e ↦ let f = e.1 in omega arith ] in
      let share = own x in
      let one = owns_one x in
      let all = h.own from t from_below made in
      let same = ap (b.own from) name in
      let some = own_some t (get_or s.holdings from []) (omega arith) in
      let clean = h.clean t some.0 (in_total s from (OwnAs t some.0) some.1) in
      let P : OwnState → Type 0 = λ a. Holds s from (OwnAs t a) in
      let has : Holds s from (OwnAs t Clean) = subst P clean some.1 in
      let here : (u : Title) → names.Made u → held_in (owned t ∷ []) (OwnOf u) ≡ owns (name_of u) (Own x) = λ u m. owns_piece
      (names.plain t) names.Made t u unique made m ∙ ap (λ y. owns (name_of u) (Own y)) name in
      let paid : IsPaid names.Made b next (of_actor from (owned t ∷ [])) (of_actor to (owned t ∷ [])) t
      (b.word (name_of t)) = record {
        own = λ j u m.
            let e = g.own j (name_of u) in
            let p = piece_at owns from (Own x) (owned t ∷ []) (OwnOf u) (name_of u) (here u m) j in
            let q = piece_at owns to (Own x) (owned t ∷ []) (OwnOf u) (name_of u) (here u m) j in
            omega arith;
        ref = λ j u m.
            let e = g.ref j (name_of u) in
            let p = piece_at points from (Own x) (owned t ∷ []) (RefOf u) (name_of u) refl j in
            let q = piece_at points to (Own x) (owned t ∷ []) (RefOf u) (name_of u) refl j in
            omega arith;
        free = λ j u up m.
            let e = g.free j (name_of u) in
            let p = piece_at points from (Own x) (owned t ∷ []) (FreeTitle u) (name_of u) refl j in
            let q = piece_at points to (Own x) (owned t ∷ []) (FreeTitle u) (name_of u) refl j in
            let z = no_points from x j (name_of u) in
            omega arith;
        word_left = g.word (name_of t);
        words = λ y ne. g.word y;
        contents = λ y ne. g.content y;
      } in
      let r = hand_shown names names.Kept actors bytes b next s from to (OwnItem t) (names.plain t) t h from_below to_below has
      (own_sealed names actors bytes b s h from t from_below has) (own_title s from t Clean has) (own_pieces names.plain t) paid
      (g.content (name_of t))
      (λ u kept.
      let had = h.kept u kept in
      let p = piece_at points from (Own x) (owned t ∷ []) (FreeTitle u) (name_of u) refl 0 in
      let z = no_points from x 0 (name_of u) in
      omega arith) in
      record {
        events = Hand from to (OwnItem t) ∷ [];
        after = r.0;
        run = r.1.run;
        beside = beside_hand k from to (OwnItem t) between;
        shown = r.1.shown;
      }
    where
      no_points : (i : ℕ) (y : SlotName) (j : ℕ) (z : SlotName) → has_at points i (Own y) j z ≡ 0
      no_points i y j z = elim (cases_eq j i) [
        | inl e ↦ subst (λ n. has_at points i (Own y) n z ≡ 0) (sym e) (at_here points i (Own y) z)
        | inr ne ↦
            at_apart points i (Own y) j z ne
      ]
  goes b next s (Ref x) k from to h below between own ref titled g =
      let (t, made, name) = titled x (inr refl) in
      let from_below : from < actors = elim between [ inl e ↦ let f = e.0 in omega arith | inr e ↦ let f = e.0 in omega arith ] in
      let to_below : to < actors = elim between [ inl e ↦ let f = e.1 in omega arith | inr e ↦ let f = e.1 in omega arith ] in
      let share = ref x in
      let one = points_one x in
      let all = h.ref from t from_below made in
      let same = ap (b.ref from) name in
      let has : Holds s from (RefOf t) = omega arith in
      let here : (u : Title) → names.Made u → held_in (RefPiece t ∷ []) (RefOf u) ≡ points (name_of u) (Ref x) = λ u m. points_piece
      names.Made t u unique made m ∙ ap (λ y. points (name_of u) (Ref y)) name in
      let paid : IsPaid names.Made b next (of_actor from (RefPiece t ∷ [])) (of_actor to (RefPiece t ∷ [])) t (b.word (name_of t)) =
      record {
        own = λ j u m.
            let e = g.own j (name_of u) in
            let p = piece_at owns from (Ref x) (RefPiece t ∷ []) (OwnOf u) (name_of u) refl j in
            let q = piece_at owns to (Ref x) (RefPiece t ∷ []) (OwnOf u) (name_of u) refl j in
            omega arith;
        ref = λ j u m.
            let e = g.ref j (name_of u) in
            let p = piece_at points from (Ref x) (RefPiece t ∷ []) (RefOf u) (name_of u) (here u m) j in
            let q = piece_at points to (Ref x) (RefPiece t ∷ []) (RefOf u) (name_of u) (here u m) j in
            omega arith;
        free = λ j u up m.
            let e = g.free j (name_of u) in
            let p = piece_at owns from (Ref x) (RefPiece t ∷ []) (FreeTitle u) (name_of u) refl j in
            let q = piece_at owns to (Ref x) (RefPiece t ∷ []) (FreeTitle u) (name_of u) refl j in
            let z = no_owns from x j (name_of u) in
            omega arith;
        word_left = g.word (name_of t);
        words = λ y ne. g.word y;
        contents = λ y ne. g.content y;
      } in
      let r = hand_shown names names.Kept actors bytes b next s from to (RefItem t) false t h from_below to_below has tt
      (ref_title s from t has) (ref_pieces names.plain t) paid (g.content (name_of t))
      (λ u kept.
      let had = h.kept u kept in
      let p = piece_at owns from (Ref x) (RefPiece t ∷ []) (FreeTitle u) (name_of u) refl 0 in
      let z = no_owns from x 0 (name_of u) in
      omega arith) in
      record {
        events = Hand from to (RefItem t) ∷ [];
        after = r.0;
        run = r.1.run;
        beside = beside_hand k from to (RefItem t) between;
        shown = r.1.shown;
      }
    where
      no_owns : (i : ℕ) (y : SlotName) (j : ℕ) (z : SlotName) → has_at owns i (Ref y) j z ≡ 0
      no_owns i y j z = elim (cases_eq j i) [
        | inl e ↦ subst (λ n. has_at owns i (Ref y) n z ≡ 0) (sym e) (at_here owns i (Ref y) z)
        | inr ne ↦
            at_apart owns i (Ref y) j z ne
      ]

-- ---- the two hands of an exchange

-- The state after an exchange of register `reg` of thread k and a cell.
pub record IsExchanged (partitions : ℕ) (st next : Standing) (k reg cell : ℕ) : Type 0 where
  pub few : reg < 64
  pub few_cells : cell < 64
  pub here : (r : ℕ) → next.regs k r ≡ with (st.regs k) reg (reg_of (st.held cell)) r
  pub other : (j : ℕ) → (j ≡ k → ⊥) → (r : ℕ) → next.regs j r ≡ st.regs j r
  pub held_here : next.held cell ≡ handle_of (st.regs k reg)
  pub held_other : (c : ℕ) → (c ≡ cell → ⊥) → next.held c ≡ st.held c
  pub lists : (j : ℕ) (y : SlotName) → in_lists partitions next y j ≡ in_lists partitions st y j
  pub words : (y : SlotName) → next.word y ≡ st.word y
  pub contents : (y : SlotName) → next.content y ≡ st.content y

-- a kind of handle of a slot: a register without one has none, and a cell has what the register that gave it had
record IsKind (f : Reg → ℕ) : Type 0 where
  empty : f Empty ≡ 0
  given : (r : Reg) → f (reg_of (handle_of r)) ≡ f r

owner_kind : (x : SlotName) → IsKind (owns x)
owner_kind x = record { empty = refl; given = given }
  where
    given : (r : Reg) → owns x (reg_of (handle_of r)) ≡ owns x r
    given Empty = refl
    given (Own s) = refl
    given (Ref s) = refl
    given Freed = refl
    given Cleared = refl

pointer_kind : (x : SlotName) → IsKind (points x)
pointer_kind x = record { empty = refl; given = given }
  where
    given : (r : Reg) → points x (reg_of (handle_of r)) ≡ points x r
    given Empty = refl
    given (Own s) = refl
    given (Ref s) = refl
    given Freed = refl
    given Cleared = refl

module _ (partitions : ℕ) (st next : Standing) (k reg cell : ℕ) (e : IsExchanged partitions st next k reg cell) where
  -- what is held once the register has given its handle: the registers without it, and the cells with one more
  abbrev halfway : (Reg → ℕ) → ℕ → ℕ
  halfway f zero = in_registers f st 0 + f (st.regs k reg)
  halfway f (suc j) = if j == k then over 64 (λ r. f (with (st.regs k) reg Empty r)) else in_registers f st (suc j)

  half_here : (f : Reg → ℕ) → halfway f (suc k) ≡ over 64 (λ r. f (with (st.regs k) reg Empty r))
  half_here f = rw (eq-eqb k k refl) refl

  half_apart : (f : Reg → ℕ) (j : ℕ) → (j ≡ k → ⊥) → halfway f (suc j) ≡ in_registers f st (suc j)
  half_apart f j ne = rw (ne_eqb j k ne) refl

  -- the share of an actor, by cases
  share : (f : SlotName → Reg → ℕ) (i : ℕ) (r : Reg) (j : ℕ) (x : SlotName) → ((j ≡ i) × (has_at f i r j x ≡ f x r)) ⊎
      ((j ≡ i → ⊥) × (has_at f i r j x ≡ 0))
  share f i r j x = elim (cases_eq j i) [
    | inl y ↦ inl (y, subst (λ n. has_at f i r n x ≡ f x r) (sym y) (at_here f i r x))
    | inr n ↦ inr (n, at_apart f i r j x n)
  ]

  given_share : (f : SlotName → Reg → ℕ) (x : SlotName) → IsKind (f x) → (j : ℕ) →
      halfway (f x) j + has_at f (suc k) (st.regs k reg) j x ≤ in_registers (f x) st j + has_at f 0 (st.regs k reg) j x
  given_share f x kind zero =
      let a = at_apart f (suc k) (st.regs k reg) 0 x (λ z. omega arith) in
      let b = at_here f 0 (st.regs k reg) x in
      omega arith
  given_share f x kind (suc j) = elim (cases_eq j k) [
    | inl y ↦ subst (λ n. halfway (f x) (suc n) + has_at f (suc k) (st.regs k reg) (suc n) x ≤ in_registers (f x) st (suc n) + has_at f 0
        (st.regs k reg) (suc n) x) (sym y)
        (let one = over_one 64 reg (λ r. f x (st.regs k r)) (λ r. f x (with (st.regs k) reg Empty r)) e.few
        (λ r ne. ap (f x) (set_apart (st.regs k) reg Empty r ne)) in
        let z = ap (f x) (set_at (st.regs k) reg Empty) in
        let none = kind.empty in
        let h = half_here (f x) in
        let a = at_here f (suc k) (st.regs k reg) x in
        omega arith)
    | inr n ↦
        let h = half_apart (f x) j n in
        let a = at_apart f (suc k) (st.regs k reg) (suc j) x (λ z. n (omega arith)) in
        omega arith
  ]

  found_share : (f : SlotName → Reg → ℕ) (x : SlotName) → IsKind (f x) → (j : ℕ)
      → in_registers (f x) next j + has_at f 0 (reg_of (st.held cell)) j x ≤ halfway (f x) j + has_at f (suc k) (reg_of (st.held cell)) j x
  found_share f x kind zero =
      let one = over_one 64 cell (λ c. f x (reg_of (st.held c))) (λ c. f x (reg_of (next.held c))) e.few_cells
      (λ c ne. ap (λ h. f x (reg_of h)) (e.held_other c ne)) in
      let g = ap (λ h. f x (reg_of h)) e.held_here ∙ kind.given (st.regs k reg) in
      let a = at_here f 0 (reg_of (st.held cell)) x in
      omega arith
  found_share f x kind (suc j) = elim (cases_eq j k) [
    | inl y ↦ subst (λ n. in_registers (f x) next (suc n) + has_at f 0 (reg_of (st.held cell)) (suc n) x ≤ halfway (f x) (suc n) + has_at f
        (suc k) (reg_of (st.held cell)) (suc n) x) (sym y)
        (let one = over_one 64 reg (λ r. f x (with (st.regs k) reg Empty r)) (λ r. f x (next.regs k r)) e.few
        (λ r ne. ap (f x) (e.here r ∙ set_apart (st.regs k) reg (reg_of (st.held cell)) r ne ∙
        sym (set_apart (st.regs k) reg Empty r ne))) in
        let z = ap (f x) (set_at (st.regs k) reg Empty) in
        let none = kind.empty in
        let w = ap (f x) (e.here reg ∙ set_at (st.regs k) reg (reg_of (st.held cell))) in
        let h = half_here (f x) in
        let a = at_here f (suc k) (reg_of (st.held cell)) x in
        let b = at_apart f 0 (reg_of (st.held cell)) (suc k) x (λ i. omega arith) in
        omega arith)
    | inr n ↦
        let h = half_apart (f x) j n in
        let same = over_same 64 (λ r. f x (st.regs j r)) (λ r. f x (next.regs j r)) (λ r. ap (f x) (e.other j n r)) in
        let b = at_apart f 0 (reg_of (st.held cell)) (suc j) x (λ i. omega arith) in
        omega arith
  ]

  abbrev mid_ledger : Ledger
  mid_ledger = record {
    own = λ j x. halfway (owns x) j;
    ref = λ j x. halfway (points x) j;
    free = λ j x. in_lists partitions st x j;
    word = st.word;
    content = st.content;
  }

  pub swap_stands : (names : Titles) (actors bytes : ℕ) (s : State) (unique : HaveNames names.Made) →
      IsShown names actors bytes (ledger_of partitions st) s → suc k < actors →
      ((x : SlotName) → (st.regs k reg ≡ Own x) ⊎ (st.regs k reg ≡ Ref x) → (t : Title) × names.Made t × (name_of t ≡ x)) →
      ((x : SlotName) → (reg_of (st.held cell) ≡ Own x) ⊎ (reg_of (st.held cell) ≡ Ref x) → (t : Title) × names.Made t × (name_of t ≡ x)) →
      Goes names actors bytes unique s (ledger_of partitions next) (suc k)
  swap_stands names actors bytes s unique h below titled found =
      let one = goes names actors bytes unique (ledger_of partitions st) mid_ledger s (st.regs k reg) (suc k) (suc k) 0 h below
      (inl (refl, refl))
      (λ x. over_part 64 reg (λ r. owns x (st.regs k r)) e.few) (λ x. over_part 64 reg (λ r. points x (st.regs k r)) e.few) titled
      (record {
        own = λ j x. given_share owns x (owner_kind x) j;
        ref = λ j x. given_share points x (pointer_kind x) j;
        free = λ j x. refl;
        word = λ x. refl;
        content = λ x. refl;
      }) in
      let two = goes names actors bytes unique mid_ledger (ledger_of partitions next) one.after (reg_of (st.held cell)) (suc k) 0
      (suc k) one.shown below (inr (refl, refl))
      (λ x. let p = over_part 64 cell (λ c. owns x (reg_of (st.held c))) e.few_cells in omega arith)
      (λ x. let p = over_part 64 cell (λ c. points x (reg_of (st.held c))) e.few_cells in omega arith) found
      (record {
        own = λ j x. found_share owns x (owner_kind x) j;
        ref = λ j x. found_share points x (pointer_kind x) j;
        free = λ j x. e.lists j x;
        word = e.words;
        content = e.contents;
      }) in
      record {
        events = one.events ++ two.events;
        after = two.after;
        run = run_join s one.after two.after one.events two.events h.good one.run two.run;
        beside = beside_both (suc k) one.events two.events one.beside two.beside;
        shown = two.shown;
      }
