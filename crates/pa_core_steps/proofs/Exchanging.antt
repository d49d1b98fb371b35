-- What actors lose and gain, as a change of the lists of their pieces.
use Rattle.std.proofs.Common.{◌≡◌, ℕ, ◌+◌, ◌<◌, List, [], ◌++◌, length, get_or, set, refl, ◌∙◌, ap, arith, inl, inr}
use Rattle.std.proofs.lemmas.List.{get_or-set_other, get_or-set_same, length-set}
use Rattle.std.proofs.lemmas.List.Sums.{sum_by-append}
use Rattle.std.proofs.lemmas.Bool.Decides.{eqb_tells}
use Rattle.pa_slot.specs.Holdings.{Piece, Thing, amount, held_in}
use Rattle.pa_machine.specs.Events.{Exchanges, of_actor}
use Rattle.pa_machine.proofs.Totals.{of_actor_here, of_actor_apart}

abbrev pub nobody : ℕ → List Piece
nobody actor = []

-- an exchange after another is one exchange, by what both lose and gain
pub exchanges_then : (hs mid later : List (List Piece)) (lost1 gained1 lost2 gained2 lost gained : ℕ → List Piece) →
    Exchanges hs lost1 gained1 mid → Exchanges mid lost2 gained2 later →
    ((k : ℕ) (x : Thing) → held_in (lost1 k) x + held_in (lost2 k) x + held_in (gained k) x ≡ held_in (lost k) x + held_in
    (gained1 k) x + held_in (gained2 k) x) →
    Exchanges hs lost gained later
exchanges_then hs mid later lost1 gained1 lost2 gained2 lost gained p q same = (
  q.0 ∙ p.0,
  λ k x below.
      let p0 = p.0 in
      let a = p.1 k x below in
      let b = q.1 k x (omega arith) in
      let c = same k x in
      omega arith,
)

-- one actor's pieces become others
pub actor_changes : (hs : List (List Piece)) (actor : ℕ) (lost gained now : List Piece) → actor < length hs →
    ((x : Thing) → held_in now x + held_in lost x ≡ held_in (get_or hs actor []) x + held_in gained x) →
    Exchanges hs (of_actor actor lost) (of_actor actor gained) (set hs actor now)
actor_changes hs actor lost gained now has same = (length-set hs actor now, each)
  where
    each : (k : ℕ) (x : Thing) → k < length hs →
        held_in (get_or (set hs actor now) k []) x + held_in (of_actor actor lost k) x ≡ held_in (get_or hs k []) x + held_in
        (of_actor actor gained k) x
    each k x below = elim (eqb_tells k actor) [
      | inl y ↦
          let e = ap (λ ps. held_in ps x) (get_or-set_same hs actor now [] has) in
          let a = of_actor_here actor lost x in
          let b = of_actor_here actor gained x in
          let c = same x in
          rw y.1 (omega arith)
      | inr n ↦
          let e = ap (λ ps. held_in ps x) (get_or-set_other hs actor k now [] n.1) in
          let a = of_actor_apart actor k lost x n.1 in
          let b = of_actor_apart actor k gained x n.1 in
          omega arith
    ]

-- no actor has a thing of pieces of which none counts as it
pub none_of : (a k : ℕ) (ps : List Piece) (x : Thing) → held_in ps x ≡ 0 → held_in (of_actor a ps k) x ≡ 0
none_of a k ps x none = elim (eqb_tells a k) [ inl y ↦ rw y.0 none | inr n ↦ rw n.0 refl ]

pub nothing_of : (a k : ℕ) (x : Thing) → held_in (of_actor a [] k) x ≡ 0
nothing_of a k x = none_of a k [] x refl

-- an actor that loses and gains nothing of a list of pieces may lose and gain some
pub exchanges_both : (hs later : List (List Piece)) (actor : ℕ) (both : List Piece) →
    Exchanges hs (of_actor actor []) (of_actor actor []) later →
    Exchanges hs (of_actor actor both) (of_actor actor both) later
exchanges_both hs later actor both p = (p.0, λ k x below. let a = p.1 k x below in let b = nothing_of actor k x in omega arith)

-- one actor loses what can be taken from it, and another gains it, or the same one
pub passes : (hs : List (List Piece)) (from to : ℕ) (lost gained left : List Piece) → from < length hs → to < length hs →
    ((x : Thing) → held_in left x + held_in lost x ≡ held_in (get_or hs from []) x) →
    (later : List (List Piece)) × Exchanges hs (of_actor from lost) (of_actor to gained) later
passes hs from to lost gained left has_from has_to same =
    let mid = set hs from left in
    let long = length-set hs from left in
    let out = actor_changes hs from lost [] left has_from (λ x. let e = same x in let z : held_in [] x ≡ 0 = refl in omega arith) in
    let now = gained ++ get_or mid to [] in
    let into = actor_changes mid to [] gained now (omega arith)
    (λ x. let e = sum_by-append (amount x) gained (get_or mid to []) in let z : held_in [] x ≡ 0 = refl in omega arith) in (
      set mid to now,
      exchanges_then hs mid (set mid to now) (of_actor from lost) (of_actor from []) (of_actor to []) (of_actor to gained)
          (of_actor from lost) (of_actor to gained) out into (λ k x.
          let a = nothing_of from k x in let b = nothing_of to k x in omega arith),
    )
