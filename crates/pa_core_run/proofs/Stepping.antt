-- The counted ops, one whole: the core can play each, and shows the state after it.
use Rattle.std.proofs.Common.{◌≡◌, ℕ, suc, ◌+◌, ◌<◌, ◌≤◌, Bool, false, List, [], ◌∷◌, ◌++◌, get_or, refl, sym, ◌∙◌, ap, subst, arith, ◌⊎◌, inl, inr}
use Rattle.std.proofs.lemmas.List.Sums.{sum_by-cons}
use Rattle.pa_slot.specs.declared.word.SlotName.{SlotName}
use Rattle.pa_slot.specs.declared.word.Step.{Step}
use Rattle.pa_slot.specs.declared.word.Step.TheVariants.{Issue, Copy, Reset, Free, Write}
use Rattle.pa_slot.specs.declared.title.Title.{Title}
use Rattle.pa_slot.specs.declared.title.OwnState.{OwnState}
use Rattle.pa_slot.specs.declared.title.OwnState.TheVariants.{Clean}
use Rattle.pa_machine.specs.declared.event.Event.{Event}
use Rattle.pa_machine.specs.declared.event.Event.TheVariants.{Count}
use Rattle.pa_slot.specs.Count.{CanStep, stepped, refs_of}
use Rattle.pa_slot.specs.Titles.{content_count, count_word, HasContentFrom}
use Rattle.pa_slot.specs.Holdings.{Piece, RawPiece, FreePiece, OwnPiece, RefPiece, FreeTitle, OwnOf, OwnAs, RefOf, amount, held_in}
use Rattle.pa_machine.specs.Events.{State, HasActor, Holds, IsSealedAs, of_actor, total_of}
use Rattle.pa_machine.specs.Trail.{IsGoodState}
use Rattle.pa_slot.proofs.Same.{title_tells, state_self}
use Rattle.pa_machine.proofs.Totals.{tally_of, total_exchanged}
use Rattle.pa_machine.proofs.Amounts.{state_here}
use Rattle.pa_machine.proofs.Happening.{in_total, few_owns}
use Rattle.pa_machine.proofs.Keeps.{own_of_state}
use Rattle.pa_record.specs.Spans.{name_of}
use Rattle.pa_rules.specs.declared.register.Register.TheVariants.{Own, Ref, Freed, Cleared}
use Rattle.pa_slot_effects.specs.Shown.{owns, points}
use Rattle.pa_slot_effects.specs.Turns.{HoldsNone}
use Rattle.pa_slot_effects.proofs.Handles.{over_part}
use Rattle.pa_slot_effects.proofs.Words.{owns_one, points_one}
use Rattle.pa_slot_effects.proofs.Balance.{none_owns}
use Rattle.pa_core_steps.specs.Turns.{IsTurn, IsDone, left_by, poisons, stores, issue_event}
use Rattle.pa_core_steps.proofs.Freeing.{frees_can_happen}
use Rattle.pa_core_steps.proofs.Handling.{copies_can_happen, resets_can_happen}
use Rattle.pa_core_steps.proofs.Storing.{writes_can_happen, issues_can_happen}
use Rattle.pa_core_steps.proofs.Turning.{turn_then}
use Rattle.pa_core_run.specs.Ledger.{Titles, IsShown, IsPaid}
use Rattle.pa_core_run.specs.Standing.{Standing, in_lists, ledger_of}
use Rattle.pa_core_run.specs.Moves.{HaveNames}
use Rattle.pa_core_run.proofs.Showing.{own_piece, own_sealed, ArePieces, no_pieces, free_pieces, ref_pieces, own_pieces, returned_pieces}
use Rattle.pa_core_run.proofs.Moving.{turn_shown}
use Rattle.pa_core_run.proofs.Acting.{HasHandle, handle_held}
use Rattle.pa_core_run.proofs.Paying.{owns_piece, points_piece, IsSet, set_paid}
use Rattle.pa_machine.proofs.Noting.{returned_states}
use Rattle.pa_machine.proofs.Holding.{own_title, ref_title, free_title}

-- an op's turn is a turn
pub done_turn : (s after : State) (actor : ℕ) (t : Title) (p : Step) (e : Event) (lost gained : List Piece) (first : List Event) →
    IsGoodState s → IsDone s actor t p e lost gained first after →
    IsTurn s actor t lost gained (stepped p (count_word s.words t)) (first ++ e ∷ []) after
done_turn s after actor t p e lost gained first good d =
    turn_then s d.mid after actor t lost d.between gained _ _ first (e ∷ []) good d.prepares d.steps

-- an actor that has an Own has it in some state
pub own_some : (t : Title) (ps : List Piece) → 0 < held_in ps (OwnOf t) → (a : OwnState) × (0 < held_in ps (OwnAs t a))
own_some t [] some = absurd (omega arith)
own_some t (RawPiece start len ∷ ps) some =
    let c = sum_by-cons (amount (OwnOf t)) (RawPiece start len) ps in
    let rest = own_some t ps (omega arith) in
    let d = sum_by-cons (amount (OwnAs t rest.0)) (RawPiece start len) ps in
    let r = rest.1 in
    (rest.0, omega arith)
own_some t (FreePiece u ∷ ps) some =
    let c = sum_by-cons (amount (OwnOf t)) (FreePiece u) ps in
    let rest = own_some t ps (omega arith) in
    let d = sum_by-cons (amount (OwnAs t rest.0)) (FreePiece u) ps in
    let r = rest.1 in
    (rest.0, omega arith)
own_some t (RefPiece u ∷ ps) some =
    let c = sum_by-cons (amount (OwnOf t)) (RefPiece u) ps in
    let rest = own_some t ps (omega arith) in
    let d = sum_by-cons (amount (OwnAs t rest.0)) (RefPiece u) ps in
    let r = rest.1 in
    (rest.0, omega arith)
own_some t (OwnPiece sealed u b ∷ ps) some = elim (title_tells u t) [
  | inl y ↦
      let d = sum_by-cons (amount (OwnAs t b)) (OwnPiece sealed u b) ps in
      let e : amount (OwnAs t b) (OwnPiece sealed u b) ≡ 1 = rw (y.0, state_self b) refl in
      (b, omega arith)
  | inr n ↦
      let c = sum_by-cons (amount (OwnOf t)) (OwnPiece sealed u b) ps in
      let z : amount (OwnOf t) (OwnPiece sealed u b) ≡ 0 = rw n.0 refl in
      let rest = own_some t ps (omega arith) in
      let d = sum_by-cons (amount (OwnAs t rest.0)) (OwnPiece sealed u b) ps in
      let r = rest.1 in
      (rest.0, omega arith)
]

module _ (names : Titles) (partitions actors bytes : ℕ) (st : Standing) (s : State)
    (h : IsShown names actors bytes (ledger_of partitions st) s) (unique : HaveNames names.Made) where
  -- a register's owner is an Own of the thread's actor, and its raw_ptr a Ref
  pub has_own : (k reg : ℕ) (t : Title) → suc k < actors → reg < 64 → names.Made t → st.regs k reg ≡ Own (name_of t) →
      Holds s (suc k) (OwnAs t Clean)
  has_own k reg t below few made owner =
      let part = over_part 64 reg (λ r. owns (name_of t) (st.regs k r)) few in
      let here = ap (owns (name_of t)) owner ∙ owns_one (name_of t) in
      let all = h.own (suc k) t below made in
      let own = own_some t (get_or s.holdings (suc k) []) (omega arith) in
      let clean = h.clean t own.0 (in_total s (suc k) (OwnAs t own.0) own.1) in
      (let P : OwnState → Type 0 = λ a. Holds s (suc k) (OwnAs t a) in subst P clean own.1)

  pub has_ref : (k reg : ℕ) (t : Title) → suc k < actors → reg < 64 → names.Made t → st.regs k reg ≡ Ref (name_of t) →
      Holds s (suc k) (RefOf t)
  has_ref k reg t below few made pointer =
      let part = over_part 64 reg (λ r. points (name_of t) (st.regs k r)) few in
      let here = ap (points (name_of t)) pointer ∙ points_one (name_of t) in
      let all = h.ref (suc k) t below made in
      omega arith

  -- a clean Own that an actor has is sealed exactly if its title is plain
  sealed_so : (k : ℕ) (t : Title) → k < actors → Holds s k (OwnAs t Clean) → IsSealedAs s k t (names.plain t)
  sealed_so k t below own = own_sealed names actors bytes (ledger_of partitions st) s h k t below own

  -- the piece of an Own of this title
  abbrev pub owned : Title → Piece
  owned t = own_piece (names.plain t) t

  -- a thread with an Own or a Ref of a made title's slot in a register has a handle to the title
  pub has_handle : (k reg : ℕ) (t : Title) → suc k < actors → reg < 64 → names.Made t → (st.regs k reg ≡ Own (name_of t)) ⊎
      (st.regs k reg ≡ Ref (name_of t)) → HasHandle s (suc k) t
  has_handle k reg t below few made (inl owner) = inl (has_own k reg t below few made owner)
  has_handle k reg t below few made (inr pointer) = inr (has_ref k reg t below few made pointer)

  has_actor : (k : ℕ) → k < actors → HasActor s k
  has_actor k below = let many = h.many in omega arith

  -- the content of an Own that was clean stays
  own_stays : (after : State) (actor : ℕ) (t : Title) (lost gained : List Piece) (w : ℕ) (es : List Event) → HasActor s actor
      → IsTurn s actor t lost gained w es after → held_in gained (OwnAs t Clean) ≡ 0 →
      ((value : ℕ) → HasContentFrom s.words t 0 value → HasContentFrom after.words t 0 value) → 0 < total_of after (OwnAs t Clean) →
      HasContentFrom after.words t 0 (st.content (name_of t))
  own_stays after actor t lost gained w es has turn none keeps some =
      let e = total_exchanged s.holdings after.holdings actor actor lost gained turn.holdings has has (OwnAs t Clean) in
      keeps (st.content (name_of t)) (h.contents t (omega arith))

  -- an actor can copy with an Own that isn't sealed, or with a Ref
  abbrev CanCopy : ℕ → Title → Type 0
  CanCopy k t = (Holds s k (OwnAs t Clean) × IsSealedAs s k t false) ⊎ Holds s k (RefOf t)

  -- a copy of a raw_ptr, or of an owner of a slot that isn't plain
  pub copy_stands : (next : Standing) (k from to : ℕ) (t : Title) → suc k < actors → from < 64 → names.Made t →
      (st.regs k from ≡ Own (name_of t)) ⊎ (st.regs k from ≡ Ref (name_of t)) →
      (st.regs k from ≡ Own (name_of t) → names.plain t ≡ false) → HoldsNone (st.regs k to) → CanStep Copy (st.word (name_of t)) →
      IsSet partitions st next k to (Ref (name_of t)) (name_of t) (stepped Copy (st.word (name_of t))) →
      next.content (name_of t) ≡ st.content (name_of t) →
      ((y : SlotName) → in_lists partitions next y (suc k) ≡ in_lists partitions st y (suc k)) →
      (after : State) × IsDone s (suc k) t Copy (Count (suc k) t Copy) [] (RefPiece t ∷ []) [] after ×
      IsShown names actors bytes (ledger_of partitions next) after
  copy_stands next k from to t below few made names_it counted none can set content lists =
      let handle = has_handle k from t below few made names_it in
      let unsealed : CanCopy (suc k) t = elim names_it [
        | inl owner ↦ inl (
          has_own k from t below few made owner,
          subst (λ b. IsSealedAs s (suc k) t b) (counted owner)
              (sealed_so (suc k) t below (has_own k from t below few made owner)),
        )
        | inr pointer ↦ inr (has_ref k from t below few made pointer)
      ] in
      let held = handle_held s (suc k) t handle in
      let word = h.words t held in
      let has = has_actor (suc k) below in
      let r = copies_can_happen s (suc k) t h.good has unsealed (subst (λ w. CanStep Copy w) (sym word) can) in
      let turn = done_turn s r.0 (suc k) t Copy (Count (suc k) t Copy) [] (RefPiece t ∷ []) [] h.good r.1 in
      let paid = set_paid names.Made partitions st next k to (Ref (name_of t)) t (stepped Copy (st.word (name_of t))) []
      (RefPiece t ∷ []) set
      (λ u m. let a = none_owns (name_of u) (st.regs k to) none in let z : held_in [] (OwnOf u) ≡ 0 = refl in omega arith)
      (λ u m. let p = points_piece names.Made t u unique made m in let z : held_in [] (RefOf u) ≡ 0 = refl in omega arith)
      (λ u m. let e = lists (name_of u) in let z : held_in [] (FreeTitle u) ≡ 0 = refl in omega arith) in (
        r.0,
        r.1,
        turn_shown names actors bytes (ledger_of partitions st) (ledger_of partitions next) s r.0 (suc k) t [] (RefPiece t ∷ [])
            (stepped Copy (count_word s.words t)) (Count (suc k) t Copy ∷ []) h (omega arith) below held (no_pieces names.plain t)
            (ref_pieces names.plain t) turn
            (subst (λ w. IsPaid names.Made (ledger_of partitions st) (ledger_of partitions next) (of_actor (suc k) [])
            (of_actor (suc k) (RefPiece t ∷ [])) t (stepped Copy w)) (sym word) paid)
            (λ some. subst (λ v. HasContentFrom r.0.words t 0 v) (sym content)
            (own_stays r.0 (suc k) t [] (RefPiece t ∷ []) _ _ has turn refl r.2 some)),
      )

  -- a reset
  pub reset_stands : (next : Standing) (k reg : ℕ) (t : Title) → suc k < actors → names.Made t → st.regs k reg ≡ Ref (name_of t) →
      CanStep Reset (st.word (name_of t)) →
      IsSet partitions st next k reg Cleared (name_of t) (stepped Reset (st.word (name_of t))) →
      next.content (name_of t) ≡ st.content (name_of t) →
      ((u : Title) → names.Made u →
      in_lists partitions next (name_of u) (suc k) ≤ in_lists partitions st (name_of u) (suc k) + held_in (left_by Reset s t)
      (FreeTitle u)) →
      (after : State) × IsDone s (suc k) t Reset (Count (suc k) t Reset) (RefPiece t ∷ []) (left_by Reset s t) [] after ×
      IsShown names actors bytes (ledger_of partitions next) after
  reset_stands next k reg t below made pointer can set content lists =
      let ref = has_ref k reg t below set.few made pointer in
      let held = ref_title s (suc k) t ref in
      let word = h.words t held in
      let has = has_actor (suc k) below in
      let r = resets_can_happen s (suc k) t h.good has ref (subst (λ w. CanStep Reset w) (sym word) can) in
      let turn = done_turn s r.0 (suc k) t Reset (Count (suc k) t Reset) (RefPiece t ∷ []) (left_by Reset s t) [] h.good r.1 in
      let paid = set_paid names.Made partitions st next k reg Cleared t (stepped Reset (st.word (name_of t))) (RefPiece t ∷ [])
      (left_by Reset s t) set
      (λ u m. let z : held_in (RefPiece t ∷ []) (OwnOf u) ≡ 0 = refl in omega arith)
      (λ u m. let p = points_piece names.Made t u unique made m in let a = ap (points (name_of u)) pointer in omega arith)
      (λ u m. let e = lists u m in let z : held_in (RefPiece t ∷ []) (FreeTitle u) ≡ 0 = refl in omega arith) in (
        r.0,
        r.1,
        turn_shown names actors bytes (ledger_of partitions st) (ledger_of partitions next) s r.0 (suc k) t (RefPiece t ∷ [])
            (left_by Reset s t) (stepped Reset (count_word s.words t)) (Count (suc k) t Reset ∷ []) h (omega arith) below held
            (ref_pieces names.plain t) (returned_pieces names.plain (stepped Reset (count_word s.words t)) t) turn
            (subst (λ w. IsPaid names.Made (ledger_of partitions st) (ledger_of partitions next) (of_actor (suc k) (RefPiece t ∷ []))
            (of_actor (suc k) (left_by Reset s t)) t (stepped Reset w)) (sym word) paid)
            (λ some. subst (λ v. HasContentFrom r.0.words t 0 v) (sym content)
            (own_stays r.0 (suc k) t (RefPiece t ∷ []) (left_by Reset s t) _ _ has turn
            (returned_states (stepped Reset (count_word s.words t)) t Clean) r.2 some)),
      )

  -- a free
  pub free_stands : (next : Standing) (k reg : ℕ) (t : Title) → suc k < actors → names.Made t → st.regs k reg ≡ Own (name_of t) →
      CanStep Free (st.word (name_of t)) →
      IsSet partitions st next k reg Freed (name_of t) (stepped Free (st.word (name_of t))) →
      ((u : Title) → names.Made u →
      in_lists partitions next (name_of u) (suc k) ≤ in_lists partitions st (name_of u) (suc k) + held_in (left_by Free s t)
      (FreeTitle u)) →
      (after : State) × IsDone s (suc k) t Free (Count (suc k) t Free) (owned t ∷ []) (left_by Free s t)
      (poisons (content_count t) (suc k) t) after ×
      IsShown names actors bytes (ledger_of partitions next) after
  free_stands next k reg t below made owner can set lists =
      let own = has_own k reg t below set.few made owner in
      let held = own_title s (suc k) t Clean own in
      let word = h.words t held in
      let has = has_actor (suc k) below in
      let r = frees_can_happen s (suc k) t (names.plain t) h.good has own (sealed_so (suc k) t below own)
      (subst (λ w. CanStep Free w) (sym word) can) in
      let turn = done_turn s r.0 (suc k) t Free (Count (suc k) t Free) (owned t ∷ []) (left_by Free s t)
      (poisons (content_count t) (suc k) t) h.good r.1 in
      let paid = set_paid names.Made partitions st next k reg Freed t (stepped Free (st.word (name_of t))) (owned t ∷ [])
      (left_by Free s t) set
      (λ u m. let p = owns_piece (names.plain t) names.Made t u unique made m in let a = ap (owns (name_of u)) owner in omega arith)
      (λ u m. let z : held_in (owned t ∷ []) (RefOf u) ≡ 0 = refl in omega arith)
      (λ u m. let e = lists u m in let z : held_in (owned t ∷ []) (FreeTitle u) ≡ 0 = refl in omega arith) in (
        r.0,
        r.1,
        turn_shown names actors bytes (ledger_of partitions st) (ledger_of partitions next) s r.0 (suc k) t (owned t ∷ [])
            (left_by Free s t) (stepped Free (count_word s.words t)) _ h (omega arith) below held (own_pieces names.plain t)
            (returned_pieces names.plain (stepped Free (count_word s.words t)) t) turn
            (subst (λ w. IsPaid names.Made (ledger_of partitions st) (ledger_of partitions next)
            (of_actor (suc k) (owned t ∷ [])) (of_actor (suc k) (left_by Free s t)) t (stepped Free w)) (sym word) paid)
            (λ some.
            let e = total_exchanged s.holdings r.0.holdings (suc k) (suc k) (owned t ∷ []) (left_by Free s t) turn.holdings has has
            (OwnAs t Clean) in
            let z = returned_states (stepped Free (count_word s.words t)) t Clean in
            let o = state_here (names.plain t) t Clean in
            let part = (tally_of s.holdings).part t Clean in
            let few = few_owns s t h.good
            (own_of_state (total_of s) t Clean (tally_of s.holdings) (in_total s (suc k) (OwnAs t Clean) own)) in
            absurd (omega arith)),
      )

  -- a write
  pub write_stands : (next : Standing) (k reg value : ℕ) (t : Title) → suc k < actors → names.Made t → st.regs k reg ≡ Own (name_of t) →
      refs_of (st.word (name_of t)) ≡ 0 →
      CanStep Write (st.word (name_of t)) →
      IsSet partitions st next k reg (Own (name_of t)) (name_of t) (stepped Write (st.word (name_of t))) →
      next.content (name_of t) ≡ value →
      ((y : SlotName) → in_lists partitions next y (suc k) ≡ in_lists partitions st y (suc k)) →
      (after : State) × IsDone s (suc k) t Write (Count (suc k) t Write) (owned t ∷ []) (owned t ∷ [])
      (stores (content_count t) 0 (suc k) t value) after
      × IsShown names actors bytes (ledger_of partitions next) after
  write_stands next k reg value t below made owner alone can set content lists =
      let own = has_own k reg t below set.few made owner in
      let held = own_title s (suc k) t Clean own in
      let word = h.words t held in
      let has = has_actor (suc k) below in
      let r = writes_can_happen s (suc k) t (names.plain t) value h.good has own (sealed_so (suc k) t below own)
      (ap refs_of word ∙ alone) (subst (λ w. CanStep Write w) (sym word) can) in
      let turn = done_turn s r.0 (suc k) t Write (Count (suc k) t Write) (owned t ∷ []) (owned t ∷ [])
      (stores (content_count t) 0 (suc k) t value) h.good r.1 in
      let paid = set_paid names.Made partitions st next k reg (Own (name_of t)) t (stepped Write (st.word (name_of t)))
      (owned t ∷ []) (owned t ∷ []) set
      (λ u m. let a = ap (owns (name_of u)) owner in omega arith)
      (λ u m. let z : held_in (owned t ∷ []) (RefOf u) ≡ 0 = refl in omega arith)
      (λ u m. let e = lists (name_of u) in omega arith) in (
        r.0,
        r.1,
        turn_shown names actors bytes (ledger_of partitions st) (ledger_of partitions next) s r.0 (suc k) t (owned t ∷ [])
            (owned t ∷ []) (stepped Write (count_word s.words t)) _ h (omega arith) below held (own_pieces names.plain t)
            (own_pieces names.plain t) turn
            (subst (λ w. IsPaid names.Made (ledger_of partitions st) (ledger_of partitions next)
            (of_actor (suc k) (owned t ∷ [])) (of_actor (suc k) (owned t ∷ [])) t (stepped Write w)) (sym word) paid)
            (λ some. subst (λ v. HasContentFrom r.0.words t 0 v) (sym content) r.2),
      )

  -- an issue of a slot that the thread has in its lists
  pub issue_stands : (next : Standing) (k reg : ℕ) (t : Title) (sealed : Bool) → names.plain t ≡ sealed → suc k < actors → names.Made t →
      HoldsNone (st.regs k reg) →
      CanStep Issue (st.word (name_of t)) →
      IsSet partitions st next k reg (Own (name_of t)) (name_of t) (stepped Issue (st.word (name_of t))) → next.content (name_of t) ≡ 0 →
      Holds s (suc k) (FreeTitle t) →
      ((u : Title) → names.Made u →
      in_lists partitions next (name_of u) (suc k) + held_in (FreePiece t ∷ []) (FreeTitle u) ≤ in_lists partitions st (name_of u)
      (suc k)) →
      (after : State) × IsDone s (suc k) t Issue (issue_event sealed (suc k) t) (FreePiece t ∷ []) (own_piece sealed t ∷ [])
      (stores (content_count t) 0 (suc k) t 0) after
      × IsShown names actors bytes (ledger_of partitions next) after
  issue_stands next k reg t sealed plain below made none can set content free lists =
      let held = free_title s (suc k) t free in
      let word = h.words t held in
      let has = has_actor (suc k) below in
      let r = issues_can_happen s (suc k) t sealed h.good has free (subst (λ w. CanStep Issue w) (sym word) can) in
      let turn = done_turn s r.0 (suc k) t Issue (issue_event sealed (suc k) t) (FreePiece t ∷ []) (own_piece sealed t ∷ [])
      (stores (content_count t) 0 (suc k) t 0) h.good r.1 in
      let paid = set_paid names.Made partitions st next k reg (Own (name_of t)) t (stepped Issue (st.word (name_of t))) (FreePiece t ∷ [])
      (own_piece sealed t ∷ []) set
      (λ u m. let p = owns_piece sealed names.Made t u unique made m in let z : held_in (FreePiece t ∷ []) (OwnOf u) ≡ 0 = refl in
      omega arith)
      (λ u m. let z : held_in (FreePiece t ∷ []) (RefOf u) ≡ 0 = refl in omega arith)
      (λ u m. let e = lists u m in omega arith) in (
        r.0,
        r.1,
        turn_shown names actors bytes (ledger_of partitions st) (ledger_of partitions next) s r.0 (suc k) t (FreePiece t ∷ [])
            (own_piece sealed t ∷ []) (stepped Issue (count_word s.words t)) _ h (omega arith) below held (free_pieces names.plain t)
            (subst (λ b. ArePieces names.plain t (own_piece b t ∷ [])) plain (own_pieces names.plain t)) turn
            (subst (λ w. IsPaid names.Made (ledger_of partitions st) (ledger_of partitions next) (of_actor (suc k) (FreePiece t ∷ []))
            (of_actor (suc k) (own_piece sealed t ∷ [])) t (stepped Issue w)) (sym word) paid)
            (λ some. subst (λ v. HasContentFrom r.0.words t 0 v) (sym content) r.2),
      )
