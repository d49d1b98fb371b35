-- Each event that is enabled in a good core can happen.
use Rattle.std.proofs.Common.{◌≡◌, ℕ, ◌+◌, ◌*◌, ◌/◌, ◌<◌, Bool, false, List, [], ◌∷◌, length, get_or, set, refl, ap, arith, inl, inr}
use Rattle.std.proofs.lemmas.List.Sums.{sum_by-cons}
use Rattle.std.proofs.lemmas.Bool.{cases_lt}
use Rattle.pa_slot.specs.declared.word.Step.TheVariants.{Issue, Copy, Reset, Free, Write}
use Rattle.pa_slot.specs.declared.title.Title.{Title}
use Rattle.pa_slot.specs.declared.title.OwnState.{OwnState}
use Rattle.pa_slot.specs.declared.title.OwnState.TheVariants.{Clean, Dirty, Poisoned}
use Rattle.pa_machine.specs.declared.event.Item.{Item}
use Rattle.pa_machine.specs.declared.event.Item.TheVariants.{Raw as RawItem, Free as FreeItem, Own as OwnItem, Ref as RefItem}
use Rattle.pa_machine.specs.declared.event.Event.TheVariants.{Count, Sealed, Store, Poison, Load, Hand, Cut, Uncut}
use Rattle.pa_slot.specs.Titles.{content_count, content_place, progress, poison}
use Rattle.pa_slot.specs.Holdings.{Piece, RawPiece, FreePiece, OwnPiece, RefPiece, Thing, RawByte, FreeTitle, OwnOf, OwnAs, RefOf, amount, held_in}
use Rattle.pa_machine.specs.Events.{State, HasActor, Holds, HoldsRaw, HoldsItem, IsEnabled, IsSealedAs, IsItemSealed, IsAfter, Exchanges, of_actor, piece_of, words_stepped, held_by, total_of}
use Rattle.pa_machine.specs.Trail.{IsGoodState}
use Rattle.pa_machine.proofs.Totals.{held_part, tally_of}
use Rattle.pa_machine.proofs.Happening.{in_total, few_owns, sealed_or_not}
use Rattle.pa_machine.proofs.Keeps.{own_of_state}
use Rattle.pa_core_steps.specs.Turns.{EventsCanHappen}
use Rattle.pa_core_steps.proofs.Pieces.{taken_out, is_taken_out, only_free, only_ref, only_own, only_sealed, cut_out, cut_out_has}
use Rattle.pa_core_steps.proofs.Exchanging.{passes}

-- what is left of an actor's pieces when it loses these
abbrev pub CanLose : State → ℕ → List Piece → Type 0
CanLose s actor lost = (left : List Piece) × ((x : Thing) → held_in left x + held_in lost x ≡ held_by s actor x)

pub single : (q : Piece) (x : Thing) → held_in (q ∷ []) x ≡ amount x q
single q x = let c = sum_by-cons (amount x) q [] in omega arith

pub lose_one : (s : State) (actor : ℕ) (x : Thing) (q : Piece) → ((p : Piece) → 0 < amount x p → p ≡ q) → Holds s actor x →
    CanLose s actor (q ∷ [])
lose_one s actor x q only has =
    let out = is_taken_out x (get_or s.holdings actor []) has in (
      taken_out x (get_or s.holdings actor []),
      λ y. let l = out.left y in let e = ap (λ (p : Piece). amount y p) (only out.piece out.counts) in let o = single q y in omega arith,
    )

pub lose_free : (s : State) (actor : ℕ) (t : Title) → Holds s actor (FreeTitle t) → CanLose s actor (FreePiece t ∷ [])
lose_free s actor t has = lose_one s actor (FreeTitle t) (FreePiece t) (only_free t) has

pub lose_ref : (s : State) (actor : ℕ) (t : Title) → Holds s actor (RefOf t) → CanLose s actor (RefPiece t ∷ [])
lose_ref s actor t has = lose_one s actor (RefOf t) (RefPiece t) (only_ref t) has

-- in a good core an actor has one Own of a title at most, so it is the one that is sealed or not as the actor holds it
pub lose_own : (s : State) (actor : ℕ) (t : Title) (sealed : Bool) (a : OwnState) → IsGoodState s → Holds s actor (OwnAs t a) →
    IsSealedAs s actor t sealed → CanLose s actor (OwnPiece sealed t a ∷ [])
lose_own s actor t sealed a good has seal =
    let ps = get_or s.holdings actor [] in
    let out = is_taken_out (OwnAs t a) ps has in
    let (found, is) = only_own t a out.piece out.counts in
    let left : (y : Thing) → held_in (taken_out (OwnAs t a) ps) y + amount y (OwnPiece found t a) ≡ held_in ps y =
    λ y. (let l = out.left y in let e = ap (λ (p : Piece). amount y p) is in omega arith) in
    let part = held_part s actor (OwnOf t) in
    let few = few_owns s t good (own_of_state (total_of s) t a (tally_of s.holdings) (in_total s actor (OwnAs t a) has)) in
    let same = only_sealed t a found sealed ps (taken_out (OwnAs t a) ps) left (omega arith) seal in (
      taken_out (OwnAs t a) ps,
      λ y. let l = left y in let e = ap (λ b. amount y (OwnPiece b t a)) same in let o = single (OwnPiece sealed t a) y in omega arith,
    )

-- in a good core each raw byte is held once
raw_once : (s : State) (actor b : ℕ) → IsGoodState s → Holds s actor (RawByte b) → held_by s actor (RawByte b) ≡ 1
raw_once s actor b good has =
    let p = held_part s actor (RawByte b) in
    elim (cases_lt b (8 * length s.words)) [
      | inl below ↦ elim (good.divided.bytes b below) [ inl y ↦ let e = y.0 in omega arith | inr n ↦ let e = n.0 in absurd (omega arith) ]
      | inr past ↦ let e = good.divided.outside b past in absurd (omega arith)
    ]

pub lose_raw : (s : State) (actor start len : ℕ) → IsGoodState s → HoldsRaw s actor start len → CanLose s actor (RawPiece start len ∷ [])
lose_raw s actor start len good has = (
  cut_out start (start + len) (get_or s.holdings actor []),
  λ y.
      let e = cut_out_has start len (get_or s.holdings actor []) (λ c low high. raw_once s actor c good (has c low high)) y in
      let o = single (RawPiece start len) y in
      omega arith,
)

pub lose_nothing : (s : State) (actor : ℕ) → CanLose s actor []
lose_nothing s actor = (get_or s.holdings actor [], λ x. let z : held_in [] x ≡ 0 = refl in omega arith)

lose_item : (s : State) (actor : ℕ) (item : Item) (sealed : Bool) → IsGoodState s → HoldsItem s actor item →
    IsItemSealed s actor item sealed → CanLose s actor (piece_of sealed item ∷ [])
lose_item s actor (RawItem start len) sealed good has seal = lose_raw s actor start len good has
lose_item s actor (FreeItem t) sealed good has seal = lose_free s actor t has
lose_item s actor (OwnItem t) sealed good has seal = lose_own s actor t sealed Clean good has seal
lose_item s actor (RefItem t) sealed good has seal = lose_ref s actor t has

-- an item that is an Own is sealed or not
item_sealed_or_not : (s : State) (actor : ℕ) (item : Item) → IsGoodState s → HoldsItem s actor item →
    (sealed : Bool) × IsItemSealed s actor item sealed
item_sealed_or_not s actor (RawItem start len) good has = (false, tt)
item_sealed_or_not s actor (FreeItem t) good has = (false, tt)
item_sealed_or_not s actor (OwnItem t) good has = sealed_or_not s actor t Clean good has
item_sealed_or_not s actor (RefItem t) good has = (false, tt)

-- a state after such an exchange, with these words
pub after_of : (s : State) (actor : ℕ) (lost gained : List Piece) (words : List ℕ) → HasActor s actor → CanLose s actor lost →
    (after : State) × IsAfter s actor lost gained words after
after_of s actor lost gained words has out =
    let p = passes s.holdings actor actor lost gained out.0 has has out.1 in
    (record { words = words; holdings = p.0 }, record { words = refl; holdings = p.1 })

-- a hand can happen, of an item that is sealed like this
pub hand_can_happen : (s : State) (from to : ℕ) (item : Item) (sealed : Bool) → IsGoodState s → IsEnabled (Hand from to item) s →
    IsItemSealed s from item sealed →
    (after : State) × (after.words ≡ s.words) ×
    Exchanges s.holdings (of_actor from (piece_of sealed item ∷ [])) (of_actor to (piece_of sealed item ∷ [])) after.holdings
hand_can_happen s from to item sealed good can seal =
    let out = lose_item s from item sealed good can.2 seal in
    let p = passes s.holdings from to (piece_of sealed item ∷ []) (piece_of sealed item ∷ []) out.0 can.0 can.1 out.1 in
    (record { words = s.words; holdings = p.0 }, refl, p.1)

pub events_can_happen : EventsCanHappen
events_can_happen (Count actor t Issue) s good can = after_of s actor _ _ (words_stepped Issue s t) can.0 (lose_free s actor t can.1.0)
events_can_happen (Sealed actor t) s good can = after_of s actor _ _ (words_stepped Issue s t) can.0 (lose_free s actor t can.1.0)
events_can_happen (Count actor t Copy) s good can = after_of s actor _ _ (words_stepped Copy s t) can.0 (lose_nothing s actor)
events_can_happen (Count actor t Reset) s good can = after_of s actor _ _ (words_stepped Reset s t) can.0 (lose_ref s actor t can.1)
events_can_happen (Count actor t Free) s good can =
    let (sealed, seal) = sealed_or_not s actor t (Poisoned (content_count t)) good can.1 in
    let r = after_of s actor _ _ (words_stepped Free s t) can.0 (lose_own s actor t sealed (Poisoned (content_count t)) good can.1 seal) in
    (r.0, (sealed, seal, r.1))
events_can_happen (Count actor t Write) s good can =
    let a = can.1.0.0 in
    let open_own = can.1.0.1 in
    let (sealed, seal) = sealed_or_not s actor t a good open_own.1 in
    let r = after_of s actor (OwnPiece sealed t a ∷ []) (OwnPiece sealed t Clean ∷ []) (words_stepped Write s t) can.0
    (lose_own s actor t sealed a good open_own.1 seal) in
    (r.0, (a, sealed, open_own, seal, r.1))
events_can_happen (Store actor at_byte value) s good can = elim can.2 [
  | inl raw ↦ let r = after_of s actor [] [] (set s.words (at_byte / 8) value) can.0 (lose_nothing s actor) in (r.0, inl (inl raw, r.1))
  | inr other ↦ elim other [
    | inl free ↦ let r = after_of s actor [] [] (set s.words (at_byte / 8) value) can.0 (lose_nothing s actor) in (r.0, inl (inr free, r.1))
    | inr own ↦
        let t = own.0 in
        let a = own.1 in
        let (sealed, seal) = sealed_or_not s actor t a good own.2.0.1 in
        let r = after_of s actor (OwnPiece sealed t a ∷ []) (OwnPiece sealed t Dirty ∷ []) (set s.words (at_byte / 8) value) can.0
        (lose_own s actor t sealed a good own.2.0.1 seal) in
        (r.0, inr (t, a, sealed, own.2, seal, r.1))
  ]
]
events_can_happen (Poison actor t) s good can =
    let a = can.1.0 in
    let (sealed, seal) = sealed_or_not s actor t a good can.1.1 in
    let r = after_of s actor (OwnPiece sealed t a ∷ []) (OwnPiece sealed t (Poisoned (progress a + 1)) ∷ [])
    (set s.words (content_place t (progress a)) poison) can.0 (lose_own s actor t sealed a good can.1.1 seal) in
    (r.0, (a, sealed, can.1.1, seal, r.1))
events_can_happen (Load actor at_byte) s good can = (s, refl)
events_can_happen (Hand from to item) s good can =
    let (sealed, seal) = item_sealed_or_not s from item good can.2 in
    let r = hand_can_happen s from to item sealed good can seal in
    (r.0, (r.1, (sealed, seal, r.2)))
events_can_happen (Cut actor t) s good can = after_of s actor _ _ s.words can.0 (lose_raw s actor t.start t.len good can.1)
events_can_happen (Uncut actor t) s good can = after_of s actor _ _ s.words can.0 (lose_free s actor t can.1)
