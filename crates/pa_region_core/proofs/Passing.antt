-- Items that one actor hands to another, one after the other, as a run of the core.
use Rattle.std.proofs.Common.{◌≡◌, ℕ, ◌+◌, ◌<◌, ◌≤◌, Bool, List, [], ◌∷◌, ◌++◌, length, get_or, set, refl, sym, ◌∙◌, ap, subst, arith, inl, inr}
use Rattle.std.proofs.lemmas.List.{length-set, get_or-set_same, get_or-set_other, set-get_or, set-set, set_comm}
use Rattle.std.proofs.lemmas.List.Sums.{sum_by-cons, sum_by-le-sum_by}
use Rattle.std.proofs.lemmas.Bool.{cases_lt}
use Rattle.std.proofs.lemmas.Bool.Decides.{eqb_tells}
use Rattle.pa_slot.specs.declared.title.Title.{Title}
use Rattle.pa_slot.specs.declared.title.OwnState.TheVariants.{Clean}
use Rattle.pa_machine.specs.declared.event.Item.{Item}
use Rattle.pa_machine.specs.declared.event.Item.TheVariants.{Raw, Free, Own, Ref}
use Rattle.pa_machine.specs.declared.event.Event.TheVariants.{Hand}
use Rattle.pa_slot.specs.Titles.{same_title}
use Rattle.pa_slot.specs.Holdings.{Piece, RawPiece, FreePiece, OwnPiece, RefPiece, Thing, RawByte, FreeTitle, OwnOf, OwnAs, SealedOwn, RefOf, one, amount, held_in}
use Rattle.pa_slot.proofs.Same.{title_self}
use Rattle.pa_machine.specs.Events.{State, HasActor, HoldsItem, IsItemSealed, IsEnabled, Happens, of_actor, piece_of, total_of}
use Rattle.pa_machine.specs.Trail.{Played, end_of, IsGoodState, IsRunTo}
use Rattle.pa_machine.proofs.Totals.{of_actor_here, of_actor_apart, held_part}
use Rattle.pa_machine.proofs.Happening.{few_owns}
use Rattle.pa_machine.proofs.Lasting.{lasts}
use Rattle.pa_region.proofs.Adding.{one_and}
use Rattle.pa_region_core.specs.Handed.{hands_of}

-- a view that holds these pieces has the item
abbrev pub HasItem : List Piece → Item → Type 0
HasItem ps (Raw start len) = (b : ℕ) → start ≤ b → b < start + len → 0 < held_in ps (RawByte b)
HasItem ps (Free t) = 0 < held_in ps (FreeTitle t)
HasItem ps (Own t) = 0 < held_in ps (OwnAs t Clean)
HasItem ps (Ref t) = 0 < held_in ps (RefOf t)

-- One item goes from the holder of the first pieces, which are the third then, to that of the second, which are the last then. An
-- Own goes as it is, sealed or not.
pub record IsPassed (x : Item) (giver getter left given : List Piece) : Type 0 where
  pub has : HasItem giver x
  pub sealed : Bool
  pub out : (th : Thing) → held_in left th + amount th (piece_of sealed x) ≡ held_in giver th
  pub came : (th : Thing) → held_in given th ≡ held_in getter th + amount th (piece_of sealed x)

-- all of these items pass, one after the other
abbrev pub ArePassed : List Item → List Piece → List Piece → List Piece → List Piece → Type 0
ArePassed [] giver getter left given = (left ≡ giver) × (given ≡ getter)
ArePassed (x ∷ xs) giver getter left given =
    (mid : List Piece) × (got : List Piece) × IsPassed x giver getter mid got × ArePassed xs mid got left given

-- the state with other pieces at two actors
abbrev pub moved_to : State → ℕ → ℕ → List Piece → List Piece → State
moved_to s from to left given = record { words = s.words; holdings = set (set s.holdings to given) from left }

holds_item : (s : State) (from : ℕ) (x : Item) → HasItem (get_or s.holdings from []) x → HoldsItem s from x
holds_item s from (Raw start len) has = has
holds_item s from (Free t) has = has
holds_item s from (Own t) has = has
holds_item s from (Ref t) has = has

-- no title's Own is twice among the pieces
abbrev pub HasOwnsOnce : List Piece → Type 0
HasOwnsOnce ps = (t : Title) → held_in ps (OwnOf t) ≤ 1

-- an actor of a good core has no Own twice
owns_once : (s : State) (actor : ℕ) → IsGoodState s → HasOwnsOnce (get_or s.holdings actor [])
owns_once s actor good t =
    let part = held_part s actor (OwnOf t) in
    elim (cases_lt 0 (total_of s (OwnOf t))) [
      | inl y ↦ let few = few_owns s t good y in omega arith
      | inr n ↦ omega arith
    ]

-- a sealed Own is an Own
seals_are_owns : (ps : List Piece) (t : Title) → held_in ps (SealedOwn t) ≤ held_in ps (OwnOf t)
seals_are_owns ps t = sum_by-le-sum_by (amount (SealedOwn t)) (amount (OwnOf t)) ps each
  where
    each : (p : Piece) → amount (SealedOwn t) p ≤ amount (OwnOf t) p
    each (RawPiece start len) = omega arith
    each (FreePiece u) = omega arith
    each (OwnPiece sealed u state) = one_and (same_title u t) sealed
    each (RefPiece u) = omega arith

-- an Own that is there once is sealed as its piece says
item_sealed : (x : Item) (s : State) (from : ℕ) (left : List Piece) (sealed : Bool) → HasOwnsOnce (get_or s.holdings from []) →
    ((th : Thing) → held_in left th + amount th (piece_of sealed x) ≡ held_in (get_or s.holdings from []) th) →
    IsItemSealed s from x sealed
item_sealed (Raw start len) s from left sealed once out = tt
item_sealed (Free t) s from left sealed once out = tt
item_sealed (Own t) s from left sealed once out =
    let few = once t in
    let owns = out (OwnOf t) in
    let seals = out (SealedOwn t) in
    let own_here : amount (OwnOf t) (OwnPiece sealed t Clean) ≡ 1 = rw (title_self t) refl in
    let seal_here : amount (SealedOwn t) (OwnPiece sealed t Clean) ≡ one sealed = rw (title_self t) refl in
    let within = seals_are_owns left t in
    omega arith
item_sealed (Ref t) s from left sealed once out = tt

-- what actor k holds by the event, if this piece goes
abbrev AsHanded : List (List Piece) → ℕ → ℕ → List Piece → List Piece → Piece → ℕ → Thing → Type 0
AsHanded before from to left given q k th =
    held_in (get_or (set (set before to given) from left) k []) th + held_in (of_actor from (q ∷ []) k) th
    ≡ held_in (get_or before k []) th + held_in (of_actor to (q ∷ []) k) th

-- one item is the event
pub passed_event : (x : Item) (s : State) (from to : ℕ) (left given : List Piece) → (from ≡ to → ⊥) → HasActor s from → HasActor s to →
    HasOwnsOnce (get_or s.holdings from []) →
    IsPassed x (get_or s.holdings from []) (get_or s.holdings to []) left given →
    IsEnabled (Hand from to x) s × Happens (Hand from to x) s (moved_to s from to left given)
passed_event x s from to left given ne has_from has_to once p = (
  (has_from, has_to, holds_item s from x p.has),
  (
    refl,
    (
      p.sealed,
      item_sealed x s from left p.sealed once p.out,
      (length-set (set s.holdings to given) from left ∙ length-set s.holdings to given, each),
    ),
  ),
)
  where
    single : (th : Thing) → held_in (piece_of p.sealed x ∷ []) th ≡ amount th (piece_of p.sealed x)
    single th = let c = sum_by-cons (amount th) (piece_of p.sealed x) [] in omega arith

    at_from : (th : Thing) → AsHanded s.holdings from to left given (piece_of p.sealed x) from th
    at_from th =
        let a = of_actor_here from (piece_of p.sealed x ∷ []) th in
        let b = of_actor_apart to from (piece_of p.sealed x ∷ []) th ne in
        let one = single th in
        let o = p.out th in
        let long = length-set s.holdings to given in
        let c = ap (λ ps. held_in ps th) (get_or-set_same (set s.holdings to given) from left [] (omega arith)) in
        omega arith

    at_to : (th : Thing) → AsHanded s.holdings from to left given (piece_of p.sealed x) to th
    at_to th =
        let a = of_actor_here to (piece_of p.sealed x ∷ []) th in
        let b = of_actor_apart from to (piece_of p.sealed x ∷ []) th (λ e. ne (sym e)) in
        let one = single th in
        let o = p.came th in
        let c = ap (λ ps. held_in ps th) (get_or-set_other (set s.holdings to given) from to left [] (λ e. ne (sym e)) ∙
        get_or-set_same s.holdings to given [] has_to) in
        omega arith

    each : (actor : ℕ) (th : Thing) → actor < length s.holdings →
        AsHanded s.holdings from to left given (piece_of p.sealed x) actor th
    each actor th below = elim (eqb_tells actor from) [
      | inl y ↦ subst (λ (k : ℕ). AsHanded s.holdings from to left given (piece_of p.sealed x) k th) (sym y.1)
          (at_from th)
      | inr n ↦ elim (eqb_tells actor to) [
        | inl y ↦ subst (λ (k : ℕ). AsHanded s.holdings from to left given (piece_of p.sealed x) k th) (sym y.1)
            (at_to th)
        | inr m ↦
            let a = of_actor_apart from actor (piece_of p.sealed x ∷ []) th n.1 in
            let b = of_actor_apart to actor (piece_of p.sealed x ∷ []) th m.1 in
            let c = ap (λ ps. held_in ps th) (get_or-set_other (set s.holdings to given) from actor left [] n.1 ∙
            get_or-set_other s.holdings to actor given [] m.1) in
            omega arith
      ]
    ]

-- if two actors changed before, and change again
over_again : (hs : List (List Piece)) (from to : ℕ) (mid got left given : List Piece) → (from ≡ to → ⊥) →
    set (set hs to given) from left ≡ set (set (set (set hs to got) from mid) to given) from left
over_again hs from to mid got left given ne = sym (
    ap (λ l. set l from left) (set_comm (set hs to got) from to mid given ne)
    ∙ (set-set (set (set hs to got) to given) from mid left ∙ ap (λ l. set l from left) (set-set hs to got given)))

-- all items, as events
play : (xs : List Item) (s : State) (from to : ℕ) (giver getter left given : List Piece) → (from ≡ to → ⊥) → HasActor s from →
    HasActor s to → HasOwnsOnce giver →
    get_or s.holdings from [] ≡ giver → get_or s.holdings to [] ≡ getter → ArePassed xs giver getter left given →
    (states : List State) × Played s (hands_of from to xs) states × (moved_to s from to left given ≡ end_of s states)
play [] s from to giver getter left given ne has_from has_to once at_from at_to p =
    ([], tt, ap (λ hs. record { words = s.words; holdings = hs }) same)
  where
    same : set (set s.holdings to given) from left ≡ s.holdings
    same =
        ap (λ g. set (set s.holdings to g) from left) (p.1 ∙ sym at_to)
        ∙ (ap (λ hs. set hs from left) (set-get_or s.holdings to [])
        ∙ (ap (λ l. set s.holdings from l) (p.0 ∙ sym at_from) ∙ set-get_or s.holdings from []))
play (x ∷ xs) s from to giver getter left given ne has_from has_to once at_from at_to p =
    let mid = p.0 in
    let got = p.1 in
    let next = moved_to s from to mid got in
    let event = passed_event x s from to mid got ne has_from has_to (subst (λ (ps : List Piece). HasOwnsOnce ps) (sym at_from) once)
    (rw (at_from, at_to) p.2) in
    let long1 = length-set s.holdings to got in
    let long2 = length-set (set s.holdings to got) from mid in
    let again = play xs next from to mid got left given ne (omega arith) (omega arith)
    (λ t. let o = once t in let e = p.2.out (OwnOf t) in omega arith)
    (get_or-set_same (set s.holdings to got) from mid [] (omega arith))
    (get_or-set_other (set s.holdings to got) from to mid [] (λ e. ne (sym e)) ∙ get_or-set_same s.holdings to got [] has_to) p.3 in (
      next ∷ again.0,
      (event.0, event.1, again.1),
      ap (λ hs. record { words = s.words; holdings = hs }) (over_again s.holdings from to mid got left given ne) ∙ again.2,
    )

-- items that pass are a run from a good core
pub run_of : (xs : List Item) (s : State) (from to : ℕ) (left given : List Piece) → (from ≡ to → ⊥) → HasActor s from → HasActor s to →
    IsGoodState s →
    ArePassed xs (get_or s.holdings from []) (get_or s.holdings to []) left given →
    IsRunTo s (hands_of from to xs) (moved_to s from to left given)
run_of xs s from to left given ne has_from has_to good p =
    let r = play xs s from to (get_or s.holdings from []) (get_or s.holdings to []) left given ne has_from has_to
    (owns_once s from good) refl refl p in
    record {
      states = r.0;
      played = r.1;
      ends = r.2;
      shape = (refl, length-set (set s.holdings to given) from left ∙ length-set s.holdings to given);
      lasts = λ last k. lasts s (hands_of from to xs) r.0 last good k r.1;
    }

-- items that go after others
pub pass_both : (xs ys : List Item) (a b c d e f : List Piece) → ArePassed xs a b c d → ArePassed ys c d e f → ArePassed (xs ++ ys) a b e f
pass_both [] ys a b c d e f p q =
    subst (λ (l : List Piece). ArePassed ys l b e f) p.0 (subst (λ (l : List Piece). ArePassed ys c l e f) p.1 q)
pass_both (x ∷ xs) ys a b c d e f p q = (p.0, p.1, p.2, pass_both xs ys p.0 p.1 c d e f p.3 q)
