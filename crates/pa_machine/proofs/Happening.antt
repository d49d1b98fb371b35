-- Each event that is enabled keeps the state of the core good.
use Rattle.std.proofs.Common.{◌≡◌, ℕ, ◌*◌, ◌/◌, ◌<◌, ◌≤◌, Bool, true, false, List, [], ◌∷◌, length, get_or, arith, inl, inr}
use Rattle.std.proofs.lemmas.Bool.{cases_lt}
use Rattle.std.proofs.lemmas.List.Sums.{sum_by-le-sum_by}
use Rattle.pa_slot.specs.declared.word.Step.TheVariants.{Issue, Copy, Reset, Free, Write}
use Rattle.pa_slot.specs.declared.title.Title.{Title}
use Rattle.pa_slot.specs.declared.title.OwnState.{OwnState}
use Rattle.pa_slot.specs.declared.title.OwnState.TheVariants.{Clean, Dirty, Poisoned}
use Rattle.pa_machine.specs.declared.event.Event.{Event}
use Rattle.pa_machine.specs.declared.event.Event.TheVariants.{Count, Sealed, Store, Poison, Load, Hand, Cut, Uncut}
use Rattle.pa_slot.specs.Titles.{content_count, count_word, progress}
use Rattle.pa_slot.specs.Holdings.{Piece, FreePiece, OwnPiece, Thing, RawByte, FreeTitle, OwnOf, OwnAs, SealedOwn, RefOf, one, amount, held_in}
use Rattle.pa_machine.specs.Events.{State, HasActor, Holds, IsSealedAs, held_by, total_of, IsEnabled, IsAfter, Happens, piece_of, words_stepped}
use Rattle.pa_machine.specs.Trail.{IsGoodState}
use Rattle.pa_machine.proofs.Totals.{total_exchanged, held_part, get_or_past, amount_part, amount_seal, rest-le-sums, tally_of}
use Rattle.pa_machine.proofs.Parts.{Changes}
use Rattle.pa_slot.proofs.Arith.{held_small}
use Rattle.pa_machine.proofs.Storing.{one_state}
use Rattle.pa_machine.proofs.Cutting.{cut_good, uncut_good}
use Rattle.pa_machine.proofs.Keeps.{issue_keeps, copy_keeps, reset_keeps, free_keeps, write_keeps, store_own_keeps, store_free_keeps, store_raw_keeps, poison_keeps, same_keeps, content_index, own_of_state}

-- one actor's exchange, summed over all
pub after_changes : (s after : State) (actor : ℕ) (lost gained : List Piece) (words : List ℕ) → HasActor s actor →
    IsAfter s actor lost gained words after → Changes (total_of s) lost gained (total_of after)
after_changes s after actor lost gained words has h = total_exchanged s.holdings after.holdings actor actor lost gained h.holdings has has

pub in_total : (s : State) (actor : ℕ) (x : Thing) → Holds s actor x → 0 < total_of s x
in_total s actor x has = let p = held_part s actor x in omega arith

store_keeps : (s after : State) (actor at_byte value : ℕ) → IsGoodState s → IsEnabled (Store actor at_byte value) s →
    Happens (Store actor at_byte value) s after → IsGoodState after
store_keeps s after actor at_byte value g can (inl plain) =
    let c = after_changes s after actor [] [] _ can.0 plain.1 in
    rw plain.1.words (elim plain.0 [
      | inl raw ↦
          let aligned = can.1 in
          let e : 8 * (at_byte / 8) ≡ at_byte = omega arith in
          store_raw_keeps s.words (total_of s) (total_of after) (at_byte / 8) value g
          (rw e (in_total s actor (RawByte at_byte) (raw at_byte (omega arith) (omega arith)))) c
      | inr free ↦
          let t = free.0 in
          let has = in_total s actor (FreeTitle t) free.1 in
          let i = content_index (length s.words) t at_byte (g.divided.well t (omega arith)) can.1 free.2 in
          rw i.1 (store_free_keeps s.words (total_of s) (total_of after) t i.0 value g (tally_of after.holdings) i.2 has c)
    ])
store_keeps s after actor at_byte value g can (inr own) =
    let t = own.0 in
    let state = own.1 in
    let sealed = own.2 in
    let word = own.3 in
    let c = after_changes s after actor (OwnPiece sealed t state ∷ []) (OwnPiece sealed t Dirty ∷ []) _ can.0 own.5 in
    let has = in_total s actor (OwnAs t state) word.0.1 in
    let owned = own_of_state (total_of s) t state (tally_of s.holdings) has in
    let i = content_index (length s.words) t at_byte (g.divided.well t (omega arith)) can.1 word.1 in
    rw (own.5.words, i.1) (store_own_keeps sealed s.words (total_of s) (total_of after) t state i.0 value g (tally_of s.holdings)
    (tally_of after.holdings) i.2 has word.2 c)

-- a title has at most one Own
pub few_owns : (s : State) (t : Title) → IsGoodState s → 0 < total_of s (OwnOf t) → total_of s (OwnOf t) ≤ 1
few_owns s t g has =
    let owns = (g.counted t (omega arith)).owns in
    let small = held_small (count_word s.words t) in
    omega arith

-- two actors that hold the Own of a title hold it in the same state
pub own_state_is : (s : State) (actor other : ℕ) (t : Title) (a b : OwnState) → IsGoodState s → Holds s actor (OwnAs t a) →
    Holds s other (OwnAs t b) → a ≡ b
own_state_is s actor other t a b g x y =
    let tally = tally_of s.holdings in
    let has = in_total s actor (OwnAs t a) x in
    one_state (total_of s) t a b tally (few_owns s t g (own_of_state (total_of s) t a tally has)) has (in_total s other (OwnAs t b) y)

-- an Own in some state is an Own of the actor's
own_held : (s : State) (actor : ℕ) (t : Title) (a : OwnState) → Holds s actor (OwnAs t a) → 0 < held_by s actor (OwnOf t)
own_held s actor t a has =
    let part = sum_by-le-sum_by (amount (OwnAs t a)) (amount (OwnOf t)) (get_or s.holdings actor []) (amount_part t a) in
    omega arith

-- what an actor that has a title's Own has of it sealed, all actors have: nobody else has an Own
pub seal_total : (s : State) (actor : ℕ) (t : Title) (a : OwnState) (sealed : Bool) → IsGoodState s → Holds s actor (OwnAs t a) →
    IsSealedAs s actor t sealed → total_of s (SealedOwn t) ≡ one sealed
seal_total s actor t a sealed g has is =
    let tally = tally_of s.holdings in
    let few = few_owns s t g (own_of_state (total_of s) t a tally (in_total s actor (OwnAs t a) has)) in
    let low = held_part s actor (SealedOwn t) in
    let here = own_held s actor t a has in
    elim (cases_lt actor (length s.holdings)) [
      | inl below ↦
          let rest = rest-le-sums (λ ps. held_in ps (SealedOwn t)) (λ ps. held_in ps (OwnOf t)) []
          (λ ps. sum_by-le-sum_by (amount (SealedOwn t)) (amount (OwnOf t)) ps (amount_seal t)) s.holdings actor below in
          omega arith
      | inr past ↦ let e = get_or_past s.holdings actor [] past in let z = rw e at has in absurd (omega arith)
    ]

-- the Own that an actor has of a title is sealed or not
pub sealed_or_not : (s : State) (actor : ℕ) (t : Title) (a : OwnState) → IsGoodState s → Holds s actor (OwnAs t a) →
    (sealed : Bool) × IsSealedAs s actor t sealed
sealed_or_not s actor t a g has =
    let tally = tally_of s.holdings in
    let few = few_owns s t g (own_of_state (total_of s) t a tally (in_total s actor (OwnAs t a) has)) in
    let low = held_part s actor (SealedOwn t) in
    let part = tally.seal t in
    elim (cases_lt 0 (held_by s actor (SealedOwn t))) [
      | inl some_sealed ↦ (true, omega arith)
      | inr none ↦ (false, omega arith)
    ]

poison_state_keeps : (s after : State) (actor : ℕ) (t : Title) → IsGoodState s → IsEnabled (Poison actor t) s →
    Happens (Poison actor t) s after → IsGoodState after
poison_state_keeps s after actor t g can h =
    let e = own_state_is s actor actor t can.1.0 h.0 g can.1.1 h.2 in
    let room : progress h.0 < content_count t = rw (← e) can.1.2 in
    rw h.4.words (poison_keeps h.1 s.words (total_of s) (total_of after) t h.0 g (tally_of s.holdings) (tally_of after.holdings) room
    (in_total s actor (OwnAs t h.0) h.2) (after_changes s after actor _ _ _ can.0 h.4))

-- an issue, sealed or not
issue_state_keeps : (sealed : Bool) (s after : State) (actor : ℕ) (t : Title) → IsGoodState s → IsEnabled (Count actor t Issue) s →
    IsAfter s actor (FreePiece t ∷ []) (OwnPiece sealed t Clean ∷ []) (words_stepped Issue s t) after → IsGoodState after
issue_state_keeps sealed s after actor t g can h =
    rw h.words (issue_keeps sealed s.words (total_of s) (total_of after) t g (tally_of s.holdings) (tally_of after.holdings) can.2
    (in_total s actor (FreeTitle t) can.1.0) can.1.1 (after_changes s after actor _ _ _ can.0 h))

pub happens_good : (e : Event) (s after : State) → IsGoodState s → IsEnabled e s → Happens e s after → IsGoodState after
happens_good (Count actor t Issue) s after g can h = issue_state_keeps false s after actor t g can h
happens_good (Sealed actor t) s after g can h = issue_state_keeps true s after actor t g can h
happens_good (Count actor t Copy) s after g can h =
    rw h.words (copy_keeps s.words (total_of s) (total_of after) t g (tally_of s.holdings) (tally_of after.holdings) can.2
    (elim can.1 [
      | inl own ↦ inl (in_total s actor (OwnAs t Clean) own.0, seal_total s actor t Clean false g own.0 own.1)
      | inr ref ↦ inr (in_total s actor (RefOf t) ref)
    ])
    (after_changes s after actor _ _ _ can.0 h))
happens_good (Count actor t Reset) s after g can h =
    rw h.words (reset_keeps s.words (total_of s) (total_of after) t g (tally_of s.holdings) (tally_of after.holdings) can.2
    (in_total s actor (RefOf t) can.1) (after_changes s after actor _ _ _ can.0 h))
happens_good (Count actor t Free) s after g can h =
    rw h.2.words (free_keeps h.0 s.words (total_of s) (total_of after) t g (tally_of s.holdings) (tally_of after.holdings) can.2
    (in_total s actor (OwnAs t (Poisoned (content_count t))) can.1) (after_changes s after actor _ _ _ can.0 h.2))
happens_good (Count actor t Write) s after g can h =
    rw h.4.words (write_keeps h.1 s.words (total_of s) (total_of after) t h.0 g (tally_of s.holdings) (tally_of after.holdings) can.2
    (in_total s actor (OwnAs t h.0) h.2.1) can.1.2 (after_changes s after actor _ _ _ can.0 h.4))
happens_good (Store actor at_byte value) s after g can h = store_keeps s after actor at_byte value g can h
happens_good (Poison actor t) s after g can h = poison_state_keeps s after actor t g can h
happens_good (Load actor at_byte) s after g can h = rw h g
happens_good (Hand from to item) s after g can h =
    rw h.0 (same_keeps s.words (total_of s) (total_of after) g
    (λ x. let e = total_exchanged s.holdings after.holdings from to (piece_of h.1.0 item ∷ []) (piece_of h.1.0 item ∷ []) h.1.2 can.0
    can.1 x in
    omega arith))
happens_good (Cut actor t) s after g can h =
    rw h.words (cut_good s.words (total_of s) (total_of after) t g (tally_of after.holdings)
    (record {
      raw = λ b low high. in_total s actor (RawByte b) (can.1 b low high);
      start_aligned = can.2;
      len_aligned = can.3;
      long = can.4;
      word = can.5;
    })
    (after_changes s after actor _ _ _ can.0 h))
happens_good (Uncut actor t) s after g can h =
    rw h.words (uncut_good s.words (total_of s) (total_of after) t g (in_total s actor (FreeTitle t) can.1)
    (after_changes s after actor _ _ _ can.0 h))
