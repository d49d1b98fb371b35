-- Only a returning step makes a free title of one that was held, and gives it to the actor that made it.
use Rattle.std.proofs.Common.{◌≡◌, ℕ, ◌+◌, ◌<◌, List, [], ◌∷◌, length, refl, subst, arith, inl, inr}
use Rattle.std.proofs.lemmas.Bool.{cases_lt}
use Rattle.pa_slot.specs.declared.word.Step.{Step}
use Rattle.pa_slot.specs.declared.word.Step.TheVariants.{Issue, Copy, Reset, Free, Write}
use Rattle.pa_slot.specs.declared.title.Title.{Title}
use Rattle.pa_slot.specs.declared.title.OwnState.TheVariants.{Poisoned}
use Rattle.pa_machine.specs.declared.event.Event.{Event}
use Rattle.pa_machine.specs.declared.event.Event.TheVariants.{Count, Sealed, Store, Poison, Load, Hand, Cut, Uncut}
use Rattle.pa_slot.specs.Count.{stepped}
use Rattle.pa_slot.specs.Run.{IsFree, IsReturning}
use Rattle.pa_slot.specs.Titles.{content_count, count_word}
use Rattle.pa_slot.specs.Holdings.{Piece, FreePiece, OwnPiece, RefPiece, RawByte, FreeTitle, OwnOf, OwnAs, SealedOwn, RefOf, held_in}
use Rattle.pa_machine.specs.Events.{State, HasActor, held_by, total_of, IsEnabled, IsAfter, Happens, piece_of, returned_at}
use Rattle.pa_machine.specs.Trail.{IsGoodState, IsReturnedBy, OnlyReturns, SealedFreesReturn}
use Rattle.pa_slot.proofs.Arith.{stepped_is}
use Rattle.pa_slot.proofs.Same.{title_tells}
use Rattle.pa_machine.proofs.Totals.{total_exchanged, held_part, get_or_past, of_actor_here, of_actor_apart, tally_of}
use Rattle.pa_machine.proofs.Parts.{free_or, free_none}
use Rattle.pa_machine.proofs.Amounts.{free_self, returned_cases}
use Rattle.pa_machine.proofs.Cutting.{cut_unheld}
use Rattle.pa_machine.proofs.Happening.{after_changes, in_total}
use Rattle.pa_machine.proofs.Keeps.{own_of_state}

-- nobody holds a title free that is held as an Own or a Ref
pub not_free : (s : State) (t : Title) → IsGoodState s → 0 < total_of s (OwnOf t) + total_of s (RefOf t) → total_of s (FreeTitle t) ≡ 0
not_free s t g held =
    let counted = g.counted t (omega arith) in
    elim (free_or (count_word s.words t)) [
      | inl y ↦ let a = y.0 in let b = y.1 in let owns = counted.owns in let refs = counted.refs in absurd (omega arith)
      | inr n ↦ counted.taken n
    ]

-- what the actors hold free of a title, after an exchange in which one of them gained it
gained_alone : (s after : State) (actor : ℕ) (lost : List Piece) (words : List ℕ) (t : Title) → HasActor s actor →
    IsAfter s actor lost (FreePiece t ∷ []) words after → held_in lost (FreeTitle t) ≡ 0 → total_of s (FreeTitle t) ≡ 0 →
    (held_by after actor (FreeTitle t) ≡ 1) × ((other : ℕ) → (other ≡ actor → ⊥) → held_by after other (FreeTitle t) ≡ 0)
gained_alone s after actor lost words t has h none before = (
  (let e = h.holdings.1 actor (FreeTitle t) has in
      let p = held_part s actor (FreeTitle t) in
      let l = of_actor_here actor lost (FreeTitle t) in
      let k = of_actor_here actor (FreePiece t ∷ []) (FreeTitle t) in
      let f = free_self t in
      omega arith),
  λ other ne. elim (cases_lt other (length s.holdings)) [
    | inl below ↦
        let e = h.holdings.1 other (FreeTitle t) below in
        let p = held_part s other (FreeTitle t) in
        let l = of_actor_apart actor other lost (FreeTitle t) ne in
        let k = of_actor_apart actor other (FreePiece t ∷ []) (FreeTitle t) ne in
        omega arith
    | inr past ↦
        let same = h.holdings.0 in
        let e = get_or_past after.holdings other [] (omega arith) in
        rw e refl
  ],
)

-- a step that gives back at most its title gives back no other
given_back : (s after : State) (actor : ℕ) (p : Step) (lost : List Piece) (words : List ℕ) (t u : Title) (v : ℕ) → HasActor s actor →
    IsAfter s actor lost (returned_at v t) words after → ((x : Title) → held_in lost (FreeTitle x) ≡ 0) →
    (IsFree v → IsReturning p (count_word s.words t)) → total_of s (FreeTitle u) ≡ 0 → 0 < total_of after (FreeTitle u) →
    IsReturnedBy (Count actor t p) s after u
given_back s after actor p lost words t u v has h none returns before now = elim (returned_cases v t) [
  | inl y ↦
      let gives = subst (λ (ps : List Piece). IsAfter s actor lost ps words after) y.1 h in
      let c = after_changes s after actor lost (FreePiece t ∷ []) words has gives (FreeTitle u) in
      elim (title_tells t u) [
        | inl same ↦
            let before_t : total_of s (FreeTitle t) ≡ 0 = rw same.1 before in
            let alone = gained_alone s after actor lost words t has gives (none t) before_t in
            subst (λ (x : Title). IsReturnedBy (Count actor t p) s after x) same.1
            (record { actor = actor; step = p; event = refl; returning = returns y.0; gets = alone.0; alone = alone.1 })
        | inr ne ↦ let f = (free_none t u ne.1).free in absurd (omega arith)
      ]
  | inr n ↦
      let gives = subst (λ (ps : List Piece). IsAfter s actor lost ps words after) n.1 h in
      let c = after_changes s after actor lost [] words has gives (FreeTitle u) in
      absurd (omega arith)
]

-- an event in which the actor gains no free title makes none
none_given : (s after : State) (actor : ℕ) (lost gained : List Piece) (words : List ℕ) (u : Title) → HasActor s actor →
    IsAfter s actor lost gained words after → held_in gained (FreeTitle u) ≡ 0 → total_of s (FreeTitle u) ≡ 0 →
    0 < total_of after (FreeTitle u) → ⊥
none_given s after actor lost gained words u has h none before now =
    let c = after_changes s after actor lost gained words has h (FreeTitle u) in omega arith

pub only_returns : (e : Event) (s after : State) → IsGoodState s → IsEnabled e s → Happens e s after → OnlyReturns e s after
only_returns (Count actor t Issue) s after g can h u held now =
    absurd (none_given s after actor _ _ _ u can.0 h refl (not_free s u g held) now)
only_returns (Sealed actor t) s after g can h u held now =
    absurd (none_given s after actor _ _ _ u can.0 h refl (not_free s u g held) now)
only_returns (Count actor t Copy) s after g can h u held now =
    absurd (none_given s after actor _ _ _ u can.0 h refl (not_free s u g held) now)
only_returns (Count actor t Reset) s after g can h u held now =
    let st = stepped_is Reset (count_word s.words t) can.2 in
    given_back s after actor Reset (RefPiece t ∷ []) _ t u (stepped Reset (count_word s.words t)) can.0 h (λ x. refl)
    (λ f. let a = st.0 in let b = st.1 in let y = f.0 in let z = f.1 in (omega arith, omega arith)) (not_free s u g held) now
only_returns (Count actor t Free) s after g can h u held now =
    let st = stepped_is Free (count_word s.words t) can.2 in
    given_back s after actor Free (OwnPiece h.0 t (Poisoned (content_count t)) ∷ []) _ t u (stepped Free (count_word s.words t)) can.0 h.2
    (λ x. refl)
    (λ f. let a = st.0 in let b = st.2 in let y = f.0 in let z = f.1 in (omega arith, omega arith)) (not_free s u g held) now
only_returns (Count actor t Write) s after g can h u held now =
    absurd (none_given s after actor _ _ _ u can.0 h.4 refl (not_free s u g held) now)
only_returns (Store actor at_byte value) s after g can (inl plain) u held now =
    absurd (none_given s after actor _ _ _ u can.0 plain.1 refl (not_free s u g held) now)
only_returns (Store actor at_byte value) s after g can (inr own) u held now =
    absurd (none_given s after actor _ _ _ u can.0 own.5 refl (not_free s u g held) now)
only_returns (Poison actor t) s after g can h u held now =
    absurd (none_given s after actor _ _ _ u can.0 h.4 refl (not_free s u g held) now)
only_returns (Load actor at_byte) s after g can h u held now =
    let e = not_free s u g held in
    let still : 0 < total_of s (FreeTitle u) = rw (← h) now in
    absurd (omega arith)
only_returns (Hand from to item) s after g can h u held now =
    let e = not_free s u g held in
    let c = total_exchanged s.holdings after.holdings from to (piece_of h.1.0 item ∷ []) (piece_of h.1.0 item ∷ []) h.1.2 can.0 can.1
    (FreeTitle u) in
    absurd (omega arith)
only_returns (Cut actor t) s after g can h u held now = elim (title_tells t u) [
  | inl same ↦
      let held_t : 0 < total_of s (OwnOf t) + total_of s (RefOf t) = rw same.1 held in
      absurd (cut_unheld s.words (total_of s) t g.divided
      (record {
        raw = λ b low high. in_total s actor (RawByte b) (can.1 b low high);
        start_aligned = can.2;
        len_aligned = can.3;
        long = can.4;
        word = can.5;
      })
      (omega arith))
  | inr ne ↦ absurd (none_given s after actor _ _ _ u can.0 h (free_none t u ne.1).free (not_free s u g held) now)
]
only_returns (Uncut actor t) s after g can h u held now =
    absurd (none_given s after actor _ _ _ u can.0 h refl (not_free s u g held) now)

-- a title with a sealed Own has no Ref, so that its Free leaves nothing that counts
pub sealed_frees_returns : SealedFreesReturn
sealed_frees_returns s actor t g can is =
    let held = own_of_state (total_of s) t (Poisoned (content_count t)) (tally_of s.holdings)
    (in_total s actor (OwnAs t (Poisoned (content_count t))) can.1) in
    let seals = held_part s actor (SealedOwn t) in
    ((stepped_is Free (count_word s.words t) can.2).2, g.seal_kept t (omega arith) (omega arith))
