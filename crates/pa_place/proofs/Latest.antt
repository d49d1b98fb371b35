-- The span of a class that entered a state last, by the lists.
use Rattle.std.proofs.Common.{◌≡◌, ℕ, ◌+◌, ◌<◌, ◌≤◌, Bool, true, false, List, length, get_or, refl, sym, ◌∙◌, ap, subst, arith, inl, inr, Option, Some, None}
use Rattle.std.specs.Prelude.{IfSome, slice_get, Vec}
use Rattle.std.specs.declared.alloc.Global.{Global}
use Rattle.std.proofs.lemmas.Bool.{cases_lt, both_ways, and_from}
use Rattle.pa_buckets.specs.declared.spans.State.{State}
use Rattle.pa_buckets.specs.declared.spans.State.TheVariants as state
use Rattle.pa_record.specs.Spans.{Span, is_in, is_of, same_state, latest}
use Rattle.pa_record.proofs.Choice.{latest_is}
use Rattle.pa_record.proofs.Chosen.{is_latest}
use Rattle.pa_place.specs.Scans.{span_at}
use Rattle.std.proofs.lemmas.Option.{slice_get_within, slice_get-get_or, get_or_from_slice_get}
use Rattle.pa_record.specs.Root.{Root}
use Rattle.pa_record.specs.Sound.{IsSound}
use Rattle.pa_record.specs.Chosen.{TestsUsed}
use Rattle.pa_lists.proofs.Members.{of_some}
use Rattle.pa_record.proofs.Entering.{same_state-true}
use Rattle.pa_place.specs.Listing.{IsSooner, IsListing, AreListed, is_class}
use Rattle.pa_place.specs.Filed.{last_of}
use Rattle.pa_place.proofs.Listing.{last_is_latest, listed_within, place_of}
use Rattle.pa_place.proofs.Filing.{in_class, in_one}
use Rattle.pa_lists.proofs.Indexed.{at_in, element_at}

-- spans in one of the states that are listed have entered it
tests_used : (a : State) (class : ℕ) (r : Root) → same_state a state.None ≡ false → TestsUsed (is_of class a) r
tests_used a class r used s among passes = ap (λ b. same_state b state.None) (same_state-true s.state a (in_one a class s passes)) ∙ used

-- what the last of the list of a class says
pub record IsLatestAt (test : Span → Bool) (ss : List Span) (o : Option ℕ) : Type 0 where
  pub latest : span_at ss o ≡ latest test ss
  pub within : IfSome o (λ at. at < length ss)

pub class_latest : (a : State) (class : ℕ) (r : Root) (lists : List (Vec ℕ Global)) (o : Option ℕ) → same_state a state.None ≡ false →
    IsSound r → class < 170 → AreListed a r.spans lists →
    ((list : Vec ℕ Global) → slice_get lists class ≡ Some list → o ≡ last_of list.items) → IsLatestAt (is_of class a) r.spans o
class_latest a class r lists o used sound real h last =
    let (list, e) = element_at lists class (let k = h.classes in omega arith) in
    let k = h.listing class list e in
    record {
      latest = last_is_latest (is_of class a) r list.items o sound (tests_used a class r used) k (last list e);
      within = listed_within (is_of class a) r.spans list.items o k (last list e);
    }

-- the last empty span of a class, by the list of the empty ones
abbrev pub OthersFrom : ℕ → ℕ → List ℕ → List Span → Type 0
OthersFrom k class ids ss = (m i : ℕ) (s : Span) → k ≤ m → slice_get ids m ≡ Some i → slice_get ss i ≡ Some s → is_class class s ≡ false

pub ring_there : (ss : List Span) (ids : List ℕ) (k i : ℕ) → IsListing (is_in state.Empty) ss ids → slice_get ids k ≡ Some i → i < length ss
ring_there ss ids k i h e = let (s, f, p) = h.here i (at_in ids k i e) in slice_get_within ss i s f

pub ring_latest : (class : ℕ) (r : Root) (ids : List ℕ) (k i : ℕ) (s : Span) → IsSound r → IsListing (is_in state.Empty) r.spans ids →
    slice_get ids k ≡ Some i → slice_get r.spans i ≡ Some s →
    is_class class s ≡ true → OthersFrom (k + 1) class ids r.spans → slice_get r.spans i ≡ latest (is_of class state.Empty) r.spans
ring_latest class r ids k i s sound h at e hit others =
    let (u, f, p) = h.here i (at_in ids k i at) in
    let passes : is_in state.Empty s ≡ true = subst (λ z. is_in state.Empty z ≡ true) (of_some u s (sym f ∙ e)) p in
    e
    ∙ sym (is_latest (is_of class state.Empty) r s sound (tests_used state.Empty class r refl) (record {
      among = at_in r.spans i s e;
      passes = and_from _ _ hit passes;
      most = λ t member good.
          let (j, g) = place_of r.spans t member in
          let (m, below, n) = h.all j t g (in_one state.Empty class t good) in
          elim (cases_lt m k) [
            | inl less ↦
                let first = subst (λ z. IsSooner r.spans z (get_or ids k j)) n (h.order m k j less (slice_get_within ids k i at)) in
                let sooner = subst (λ z. IsSooner r.spans j z) (get_or_from_slice_get ids k i j at) first in
                let p = sooner t s g e in
                omega arith
            | inr more ↦ elim (cases_lt k m) [
              | inl later ↦ absurd (both_ways _ (others m j t (omega arith) (slice_get-get_or ids m j below ∙ ap Some n) g)
                  (in_class state.Empty class t good))
              | inr not_later ↦
                  let same : m ≡ k = omega arith in
                  let here : j ≡ i = sym n ∙ ap (λ z. get_or ids z j) same ∙ get_or_from_slice_get ids k i j at in
                  let p = ap (λ (z : Span). z.turn) (of_some s t (sym e ∙ ap (slice_get r.spans) (sym here) ∙ g)) in
                  omega arith
            ]
          ];
    }))

none_by : (class : ℕ) (ss : List Span) (ids : List ℕ) (o : Option Span) → IsListing (is_in state.Empty) ss ids → OthersFrom 0 class ids ss
    → latest (is_of class state.Empty) ss ≡ o → latest (is_of class state.Empty) ss ≡ None
none_by class ss ids None h others e = e
none_by class ss ids (Some s) h others e =
    let k = latest_is (is_of class state.Empty) ss s e in
    let (j, g) = place_of ss s k.among in
    let (m, below, n) = h.all j s g (in_one state.Empty class s k.passes) in
    absurd (both_ways _ (others m j s (omega arith) (slice_get-get_or ids m j below ∙ ap Some n) g) (in_class state.Empty class s k.passes))

pub ring_none : (class : ℕ) (ss : List Span) (ids : List ℕ) → IsListing (is_in state.Empty) ss ids → OthersFrom 0 class ids ss →
    latest (is_of class state.Empty) ss ≡ None
ring_none class ss ids h others = none_by class ss ids (latest (is_of class state.Empty) ss) h others refl

-- a further one isn't of the class
pub others_from : (class k i : ℕ) (ids : List ℕ) (ss : List Span) (s : Span) → slice_get ids k ≡ Some i → slice_get ss i ≡ Some s
    → is_class class s ≡ false → OthersFrom (k + 1) class ids ss → OthersFrom k class ids ss
others_from class k i ids ss s at e miss others = λ m j v from f g. elim (cases_lt k m) [
  | inl later ↦ others m j v (omega arith) f g
  | inr not_later ↦
      let same : m ≡ k = omega arith in
      let here : j ≡ i = of_some j i (sym f ∙ ap (slice_get ids) same ∙ at) in
      subst (λ z. is_class class z ≡ false) (of_some s v (sym e ∙ ap (slice_get ss) (sym here) ∙ g)) miss
]
