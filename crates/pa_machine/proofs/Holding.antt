-- A title that is held after an event was held before it, unless the event cut it out.
use Rattle.std.proofs.Common.{◌≡◌, ℕ, false, true, List, [], ◌∷◌, length, refl, ◌∙◌, ap, subst, arith, ◌⊎◌, inl, inr}
use Rattle.std.proofs.lemmas.List.{length-set}
use Rattle.pa_slot.specs.declared.word.Step.TheVariants.{Issue, Copy, Reset, Free, Write}
use Rattle.pa_slot.specs.declared.title.Title.{Title}
use Rattle.pa_slot.specs.declared.title.OwnState.{OwnState}
use Rattle.pa_slot.specs.declared.title.OwnState.TheVariants.{Clean, Dirty, Poisoned}
use Rattle.pa_machine.specs.declared.event.Event.{Event}
use Rattle.pa_machine.specs.declared.event.Event.TheVariants.{Count, Sealed, Store, Poison, Load, Hand, Cut, Uncut}
use Rattle.pa_slot.specs.Count.{stepped}
use Rattle.pa_slot.specs.Titles.{content_count, count_word}
use Rattle.pa_slot.specs.Holdings.{Piece, RawPiece, FreePiece, Thing, FreeTitle, OwnOf, OwnAs, RefOf, IsTitleHeld}
use Rattle.pa_machine.specs.Events.{State, HasActor, IsEnabled, Happens, IsAfter, IsSameShape, total_of, piece_of, Holds}
use Rattle.pa_slot.proofs.Same.{title_tells}
use Rattle.pa_machine.proofs.Totals.{total_exchanged, tally_of}
use Rattle.pa_machine.proofs.Parts.{Changes, IsNoneOf, nil_none, free_none, own_none, ref_none, raw_none}
use Rattle.pa_machine.proofs.Keeps.{own_of_state, returned_here}
use Rattle.pa_machine.proofs.Happening.{after_changes, in_total}

-- the event cuts out this title
abbrev pub IsCutOf : Event → Title → Type 0
IsCutOf (Count actor t step) u = ⊥
IsCutOf (Sealed actor t) u = ⊥
IsCutOf (Store actor at_byte value) u = ⊥
IsCutOf (Poison actor t) u = ⊥
IsCutOf (Load actor at_byte) u = ⊥
IsCutOf (Hand from to item) u = ⊥
IsCutOf (Cut actor t) u = t ≡ u
IsCutOf (Uncut actor t) u = ⊥

-- if what is gained is none of the title's, it was held before
gained_back : (total later : Thing → ℕ) (lost gained : List Piece) (u : Title) → Changes total lost gained later → IsNoneOf gained u →
    IsTitleHeld later u → IsTitleHeld total u
gained_back total later lost gained u c g held =
    let a = c (FreeTitle u) in let b = c (OwnOf u) in let e = c (RefOf u) in
    let x = g.free in let y = g.own in let z = g.ref in
    omega arith

-- if what is gained is one held title's, each title that is held after was held before
one_title : (s after : State) (actor : ℕ) (lost gained : List Piece) (words : List ℕ) (t u : Title) → HasActor s actor →
    IsAfter s actor lost gained words after →
    IsTitleHeld (total_of s) t → ((v : Title) → (t ≡ v → ⊥) → IsNoneOf gained v) → IsTitleHeld (total_of after) u →
    IsTitleHeld (total_of s) u
one_title s after actor lost gained words t u has h held none after_held = elim (title_tells t u) [
  | inl y ↦ subst (λ (x : Title). IsTitleHeld (total_of s) x) y.1 held
  | inr n ↦ gained_back (total_of s) (total_of after) lost gained u (after_changes s after actor lost gained words has h)
      (none u n.1) after_held
]

pub free_title : (s : State) (actor : ℕ) (t : Title) → Holds s actor (FreeTitle t) → IsTitleHeld (total_of s) t
free_title s actor t h = let p = in_total s actor (FreeTitle t) h in omega arith

pub own_title : (s : State) (actor : ℕ) (t : Title) (a : OwnState) → Holds s actor (OwnAs t a) → IsTitleHeld (total_of s) t
own_title s actor t a h = let p = own_of_state (total_of s) t a (tally_of s.holdings) (in_total s actor (OwnAs t a) h) in omega arith

pub ref_title : (s : State) (actor : ℕ) (t : Title) → Holds s actor (RefOf t) → IsTitleHeld (total_of s) t
ref_title s actor t h = let p = in_total s actor (RefOf t) h in omega arith

pub held_back : (e : Event) (s after : State) → IsEnabled e s → Happens e s after → (u : Title) → IsTitleHeld (total_of after) u →
    IsTitleHeld (total_of s) u ⊎ IsCutOf e u
held_back (Count actor t Issue) s after can h u held =
    inl (one_title s after actor _ _ _ t u can.0 h (free_title s actor t can.1.0) (λ v ne. own_none false t v Clean ne) held)
held_back (Sealed actor t) s after can h u held =
    inl (one_title s after actor _ _ _ t u can.0 h (free_title s actor t can.1.0) (λ v ne. own_none true t v Clean ne) held)
held_back (Count actor t Copy) s after can h u held =
    inl (one_title s after actor _ _ _ t u can.0 h (elim can.1 [ inl o ↦ own_title s actor t Clean o.0 | inr r ↦ ref_title s actor t r ])
    (ref_none t) held)
held_back (Count actor t Reset) s after can h u held =
    inl (one_title s after actor _ _ _ t u can.0 h (ref_title s actor t can.1)
    (returned_here (stepped Reset (count_word s.words t)) t) held)
held_back (Count actor t Free) s after can h u held =
    inl (one_title s after actor _ _ _ t u can.0 h.2 (own_title s actor t (Poisoned (content_count t)) can.1)
    (returned_here (stepped Free (count_word s.words t)) t) held)
held_back (Count actor t Write) s after can h u held =
    inl (one_title s after actor _ _ _ t u can.0 h.4 (own_title s actor t h.0 h.2.1) (λ v ne. own_none h.1 t v Clean ne) held)
held_back (Store actor at_byte value) s after can (inl plain) u held =
    inl (gained_back (total_of s) (total_of after) [] [] u (after_changes s after actor [] [] _ can.0 plain.1) (nil_none u) held)
held_back (Store actor at_byte value) s after can (inr own) u held =
    inl (one_title s after actor _ _ _ own.0 u can.0 own.5 (own_title s actor own.0 own.1 own.3.0.1)
    (λ v ne. own_none own.2 own.0 v Dirty ne) held)
held_back (Poison actor t) s after can h u held =
    inl (one_title s after actor _ _ _ t u can.0 h.4 (own_title s actor t h.0 h.2) (λ v ne. own_none h.1 t v _ ne) held)
held_back (Load actor at_byte) s after can h u held = inl (subst (λ (x : State). IsTitleHeld (total_of x) u) h held)
held_back (Hand from to item) s after can h u held =
    let c = total_exchanged s.holdings after.holdings from to (piece_of h.1.0 item ∷ []) (piece_of h.1.0 item ∷ []) h.1.2 can.0 can.1 in
    inl (let a = c (FreeTitle u) in let b = c (OwnOf u) in let e = c (RefOf u) in omega arith)
held_back (Cut actor t) s after can h u held = elim (title_tells t u) [
  | inl y ↦ inr y.1
  | inr n ↦ inl (gained_back (total_of s) (total_of after) (RawPiece t.start t.len ∷ []) (FreePiece t ∷ []) u
      (after_changes s after actor _ _ _ can.0 h) (free_none t u n.1) held)
]
held_back (Uncut actor t) s after can h u held =
    inl (gained_back (total_of s) (total_of after) (FreePiece t ∷ []) (RawPiece t.start t.len ∷ []) u
    (after_changes s after actor _ _ _ can.0 h) (raw_none t.start t.len u) held)

-- no event changes how many words and actors there are
after_shape : (s after : State) (actor : ℕ) (lost gained : List Piece) (words : List ℕ) → IsAfter s actor lost gained words after →
    length words ≡ length s.words → IsSameShape s after
after_shape s after actor lost gained words h e = (ap length h.words ∙ e, h.holdings.0)

pub same_shape : (e : Event) (s after : State) → Happens e s after → IsSameShape s after
same_shape (Count actor t Issue) s after h = after_shape s after actor _ _ _ h (length-set s.words _ _)
same_shape (Sealed actor t) s after h = after_shape s after actor _ _ _ h (length-set s.words _ _)
same_shape (Count actor t Copy) s after h = after_shape s after actor _ _ _ h (length-set s.words _ _)
same_shape (Count actor t Reset) s after h = after_shape s after actor _ _ _ h (length-set s.words _ _)
same_shape (Count actor t Free) s after h = after_shape s after actor _ _ _ h.2 (length-set s.words _ _)
same_shape (Count actor t Write) s after h = after_shape s after actor _ _ _ h.4 (length-set s.words _ _)
same_shape (Store actor at_byte value) s after (inl plain) = after_shape s after actor _ _ _ plain.1 (length-set s.words _ _)
same_shape (Store actor at_byte value) s after (inr own) = after_shape s after actor _ _ _ own.5 (length-set s.words _ _)
same_shape (Poison actor t) s after h = after_shape s after actor _ _ _ h.4 (length-set s.words _ _)
same_shape (Load actor at_byte) s after h = (ap (λ (x : State). length x.words) h, ap (λ (x : State). length x.holdings) h)
same_shape (Hand from to item) s after h = (ap length h.0, h.1.2.0)
same_shape (Cut actor t) s after h = after_shape s after actor _ _ _ h refl
same_shape (Uncut actor t) s after h = after_shape s after actor _ _ _ h refl
