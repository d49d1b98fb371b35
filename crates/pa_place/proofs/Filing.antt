-- The lists of a store, while a span of it changes.
use Rattle.std.proofs.Common.{◌≡◌, ◌≢◌, ℕ, zero, suc, ◌+◌, ◌<◌, ◌≤◌, Bool, true, false, cond, eqb, ◌&&◌, List, [], ◌∷◌, ◌++◌, length, set, refl, sym, ◌∙◌, ap, subst, arith, inl, inr, Some, None}
use Rattle.std.specs.Prelude.{count_by, slice_get, Vec}
use Rattle.std.specs.Vec.{vec_capacity}
use Rattle.std.specs.declared.alloc.Global.{Global}
use Rattle.std.proofs.lemmas.Bool.{cases_Bool, false≢true, and_parts, eqb-true, eq-eqb}
use Rattle.std.proofs.lemmas.List.{length_push}
use Rattle.std.proofs.lemmas.List.Sums.{sum_by-cons, sum_by_push}
use Rattle.pa_buckets.specs.declared.spans.State.{State}
use Rattle.pa_buckets.specs.declared.spans.State.TheVariants as state
use Rattle.pa_record.specs.Spans.{Span, is_in, is_of, same_state, state_in_use, with_list, without_front}
use Rattle.pa_buckets.specs.Table.{slots_of}
use Rattle.pa_slot.specs.declared.title.Title.{Title}
use Rattle.pa_place.specs.Served.{IsServed}
use Rattle.pa_record.specs.Root.{Root, in_state, turn_after}
use Rattle.pa_record.specs.Sound.{IsSound}
use Rattle.pa_record.specs.Chosen.{TestsUsed}
use Rattle.pa_lists.proofs.Members.{of_some, not_some}
use Rattle.pa_record.proofs.Entering.{one_if, in_state_is, same_state-true, same_state-self}
use Rattle.pa_place.specs.declared.lists.Lists.{Lists}
use Rattle.pa_place.specs.Listing.{IsListing, AreListed, HasListRoom, is_class}
use Rattle.pa_place.specs.Filed.{AreFiled, HasRoomToList, CanRefileAt, IsRefiledAt, CanFile, IsFiledAnew}
use Rattle.pa_place.specs.Store.{IsFiled, HaveTurns, EntersAt}
use Rattle.pa_place.specs.declared.store.Store.{Store}
use Rattle.pa_place.proofs.Listing.{IsLast, stands, stays, alike, refiled_by, listed_in_turn}
use Rattle.pa_place.proofs.Setting.{set_same, set_parts, count_set, counts_less}
use Rattle.pa_lists.proofs.Indexed.{at_in}

-- a span of its class is one that is in the state
of_class : (a : State) (s : Span) (class : ℕ) → s.class ≡ class → is_of class a s ≡ is_in a s
of_class a s class same = rw (eq-eqb s.class class same) refl

other_class : (a : State) (s : Span) (class : ℕ) → eqb s.class class ≡ false → is_of class a s ≡ false
other_class a s class other = rw other refl

-- the spans of a class in a state are some of the class
pub in_class : (a : State) (class : ℕ) (v : Span) → is_of class a v ≡ true → is_class class v ≡ true
in_class a class v h = (and_parts _ _ h).0

-- how many are of a class stays
class_stays : (ss : List Span) (i class : ℕ) (s t : Span) → slice_get ss i ≡ Some s → t.class ≡ s.class →
    count_by (is_class class) (set ss i t) ≡ count_by (is_class class) ss
class_stays ss i class s t e same =
    let a = count_set (is_class class) ss i s t e in
    let b : one_if (is_class class t) ≡ one_if (is_class class s) = ap (λ n. one_if (eqb n class)) same in
    omega arith

set_length : {A : Type 0} (xs : List A) (i : ℕ) (x : A) → length (set xs i x) ≡ length xs
set_length [] i x = refl
set_length (y ∷ xs) zero x = refl
set_length (y ∷ xs) (suc i) x = ap (λ n. suc n) (set_length xs i x)

-- a span changed but for its class, state and turn
pub all_alike : (a : State) (ss : List Span) (i : ℕ) (s t : Span) (lists : List (Vec ℕ Global)) → slice_get ss i ≡ Some s
    → t.class ≡ s.class → t.state ≡ s.state → t.turn ≡ s.turn → AreListed a ss lists →
    AreListed a (set ss i t) lists
all_alike a ss i s t lists e class same turn h = record {
  classes = h.classes;
  listing = λ c list f. alike (is_of c a) ss list.items i s t e
      (ap (λ n. is_of_with c a n t.state) class ∙ ap (λ b. is_of_with c a s.class b) same) turn (h.listing c list f);
  room = λ c list f. let p = h.room c list f in let q = class_stays ss i c s t e class in omega arith;
}
  where
    is_of_with : ℕ → State → ℕ → State → Bool
    is_of_with c a n b = eqb n c && same_state b a

pub filed_alike : (ss : List Span) (i : ℕ) (s t : Span) (lists : Lists) → slice_get ss i ≡ Some s → t.class ≡ s.class → t.state ≡ s.state
    → t.turn ≡ s.turn → AreFiled ss lists → AreFiled (set ss i t) lists
filed_alike ss i s t lists e class same turn h = record {
  empty = alike (is_in state.Empty) ss lists.empty.items i s t e (ap (λ b. same_state b state.Empty) same) turn h.empty;
  ring = h.ring;
  active = all_alike state.Active ss i s t lists.active.items e class same turn h.active;
  decommitted = all_alike state.Decommitted ss i s t lists.decommitted.items e class same turn h.decommitted;
}

-- what a change of one span does to a list
pub record IsChange (a : State) (ss : List Span) (i : ℕ) (s t : Span) (was is : Bool) : Type 0 where
  pub there : slice_get ss i ≡ Some s
  pub class : t.class ≡ s.class
  pub was_in : was ≡ is_in a s
  pub is_now : is ≡ is_in a t
  pub same : was ≡ true → is ≡ true → t.turn ≡ s.turn
  pub last : was ≡ false → is ≡ true → IsLast (is_in a) ss t

pub in_one : (a : State) (class : ℕ) (v : Span) → is_of class a v ≡ true → is_in a v ≡ true
in_one a class v h = (and_parts _ _ h).1

pub all_refiled : (a : State) (ss : List Span) (i : ℕ) (s t : Span) (was is : Bool) (lists after : List (Vec ℕ Global)) →
    IsChange a ss i s t was is → IsRefiledAt s.class was is i lists after →
    AreListed a ss lists → AreListed a (set ss i t) after
all_refiled a ss i s t was is lists after c (list, next, there, done, e) h =
    subst (λ xs. AreListed a (set ss i t) xs) (sym e)
    (record {
      classes = set_length lists s.class next ∙ h.classes;
      listing = λ class ids f. elim (set_parts lists s.class class list next ids there f) [
        | inl here ↦
            let own = of_class a s s.class refl in
            let own' = of_class a t s.class c.class in
            let k = refiled_by (is_of s.class a) ss list.items i s t was is c.there (c.was_in ∙ sym own) (c.is_now ∙ sym own') c.same
            (λ first second j v g p. c.last first second j v g (in_one a s.class v p)) (h.listing s.class list there) in
            subst (λ n. IsListing (is_of n a) (set ss i t) ids.items) (sym here.0)
            (subst (λ xs. IsListing (is_of s.class a) (set ss i t) xs) (sym (ap (λ (z : Vec ℕ Global). z.items) here.1 ∙ done.items)) k)
        | inr other ↦
            let far : eqb s.class class ≡ false = not_class s.class class other.0 in
            let far' : eqb t.class class ≡ false = ap (λ n. eqb n class) c.class ∙ far in
            stands (is_of class a) ss ids.items i s t c.there (other_class a s class far) (other_class a t class far')
            (h.listing class ids other.1)
      ];
      room = λ class ids f.
          let q = class_stays ss i class s t c.there c.class in
          elim (set_parts lists s.class class list next ids there f) [
            | inl here ↦
                let p = h.room s.class list there in
                let k = ap (λ n. count_by (is_class n) ss) here.0 in
                let m = ap (λ (z : Vec ℕ Global). vec_capacity z) here.1 in
                let r = done.room in
                omega arith
            | inr other ↦ let p = h.room class ids other.1 in omega arith
          ];
    })
  where
    not_class : (n class : ℕ) → class ≢ n → eqb n class ≡ false
    not_class n class other = elim (cases_Bool (eqb n class)) [
      | inl hit ↦ absurd (other (sym (eqb-true n class hit)))
      | inr miss ↦ miss
    ]

-- the list has room when the span comes on it
can_refile_at : (a : State) (ss : List Span) (i : ℕ) (s : Span) (was is : Bool) (lists : List (Vec ℕ Global)) → slice_get ss i ≡ Some s
    → was ≡ is_in a s → AreListed a ss lists → CanRefileAt ss s.class was is lists
can_refile_at a ss i s was is lists e was_in h = λ list f. record {
  order = listed_in_turn (is_of s.class a) ss list.items (h.listing s.class list f);
  room = λ not_in now.
      let m = (h.listing s.class list f).many in
      let p = h.room s.class list f in
      let less = counts_less (is_of s.class a) (is_class s.class) ss i s (in_class a s.class) e
      (of_class a s s.class refl ∙ sym was_in ∙ not_in) (eq-eqb s.class s.class refl) in
      omega arith;
}

-- the lists can take the span into another state
pub can_file : (ss : List Span) (i : ℕ) (s : Span) (to : State) (lists : Lists) → slice_get ss i ≡ Some s
    → (to ≡ state.Empty → count_by (is_in state.Empty) ss ≤ 16) → AreFiled ss lists → CanFile ss s.class s.state to lists
can_file ss i s to lists e few h = record {
  classes = record { active = h.active.classes; decommitted = h.decommitted.classes };
  empty = record {
    order = listed_in_turn (is_in state.Empty) ss lists.empty.items h.empty;
    room = λ not_in now. let p = few (same_state-true to state.Empty now) in let q = h.empty.many in let k = h.ring in omega arith;
  };
  active = can_refile_at state.Active ss i s (is_in state.Active s) (same_state to state.Active) lists.active.items e refl h.active;
  decommitted = can_refile_at state.Decommitted ss i s (is_in state.Decommitted s)
      (same_state to state.Decommitted) lists.decommitted.items e refl h.decommitted;
}

-- a span that stays in its state keeps its turn, and another has the next
stays_in : (to : State) (turn : ℕ) (s : Span) → s.state ≡ to → (in_state to turn s).turn ≡ s.turn
stays_in to turn s same = rw (ap (λ b. same_state b to) same ∙ same_state-self to) refl

moves_to : (to : State) (turn : ℕ) (s : Span) → same_state s.state to ≡ false → (in_state to turn s).turn ≡ turn
moves_to to turn s other = rw other refl

class_of_in : (to : State) (turn : ℕ) (s : Span) → (in_state to turn s).class ≡ s.class
class_of_in to turn s = elim (cases_Bool (same_state s.state to)) [ inl same ↦ rw same refl | inr other ↦ rw other refl ]

in_change : (a : State) (ss : List Span) (i : ℕ) (s : Span) (to : State) (turn : ℕ) → same_state a state.None ≡ false →
    slice_get ss i ≡ Some s → HaveTurns ss turn →
    IsChange a ss i s (in_state to turn s) (same_state s.state a) (same_state to a)
in_change a ss i s to turn used e turns = record {
  there = e;
  class = class_of_in to turn s;
  was_in = refl;
  is_now = ap (λ b. same_state b a) (sym (in_state_is to turn s));
  same = λ first second. stays_in to turn s (same_state-true s.state a first ∙ sym (same_state-true to a second));
  last = λ first second j v f p.
      let reached = same_state-true to a second in
      let moved : same_state s.state to ≡ false = ap (λ b. same_state s.state b) reached ∙ first in
      let next = moves_to to turn s moved in
      let less = turns j v f (not_none v.state a used (same_state-true v.state a p)) in
      omega arith;
}
  where
    not_none : (b a : State) → same_state a state.None ≡ false → b ≡ a → same_state b state.None ≡ false
    not_none b a used same = ap (λ z. same_state z state.None) same ∙ used

-- after a span entered another state and was refiled, the lists say which spans are in which state, if they did before
pub filed_anew : (ss : List Span) (i : ℕ) (s : Span) (to : State) (turn : ℕ) (lists after : Lists) → slice_get ss i ≡ Some s
    → HaveTurns ss turn → IsFiledAnew s.class s.state to i lists after → AreFiled ss lists →
    AreFiled (set ss i (in_state to turn s)) after
filed_anew ss i s to turn lists after e turns done h =
    let t = in_state to turn s in
    let c = in_change state.Empty ss i s to turn refl e turns in
    record {
      empty = subst (λ xs. IsListing (is_in state.Empty) (set ss i t) xs) (sym done.empty.items)
          (refiled_by (is_in state.Empty) ss lists.empty.items i s t (same_state s.state state.Empty)
          (same_state to state.Empty) e c.was_in c.is_now c.same c.last h.empty);
      ring = let p = h.ring in let q = done.empty.room in omega arith;
      active = all_refiled state.Active ss i s t (same_state s.state state.Active) (same_state to state.Active) lists.active.items
          after.active.items (in_change state.Active ss i s to turn refl e turns) done.active h.active;
      decommitted = all_refiled state.Decommitted ss i s t (same_state s.state state.Decommitted) (same_state to state.Decommitted)
          lists.decommitted.items after.decommitted.items (in_change state.Decommitted ss i s to turn refl e turns) done.decommitted
          h.decommitted;
    }

-- refiling a span leaves room for as many spans as before in the list of each class
room_refiled : (class n m : ℕ) (was is : Bool) (i : ℕ) (lists after : List (Vec ℕ Global)) → IsRefiledAt class was is i lists after →
    HasListRoom m n lists → HasListRoom m n after
room_refiled class n m was is i lists after (list, next, there, done, e) h = λ ids f.
    elim (set_parts lists class m list next ids there (ap (λ xs. slice_get xs m) (sym e) ∙ f)) [
      | inl here ↦
          let p = h list (ap (slice_get lists) here.0 ∙ there) in
          let q = ap (λ (z : Vec ℕ Global). vec_capacity z) here.1 in
          let r = done.room in
          omega arith
      | inr other ↦ h ids other.1
    ]

pub room_anew : (class n m : ℕ) (was to : State) (i : ℕ) (lists after : Lists) → IsFiledAnew class was to i lists after →
    HasRoomToList m n lists → HasRoomToList m n after
room_anew class n m was to i lists after done h = record {
  active = room_refiled class n m (same_state was state.Active)
      (same_state to state.Active) i lists.active.items after.active.items done.active h.active;
  decommitted = room_refiled class n m (same_state was state.Decommitted)
      (same_state to state.Decommitted) i lists.decommitted.items after.decommitted.items done.decommitted h.decommitted;
}

-- a list with more room
pub all_reserved : (a : State) (ss : List Span) (class : ℕ) (list next : Vec ℕ Global) (lists : List (Vec ℕ Global)) →
    slice_get lists class ≡ Some list → next.items ≡ list.items →
    vec_capacity list ≤ vec_capacity next → AreListed a ss lists → AreListed a ss (set lists class next)
all_reserved a ss class list next lists there same more h = record {
  classes = set_length lists class next ∙ h.classes;
  listing = λ c ids f. elim (set_parts lists class c list next ids there f) [
    | inl here ↦
        subst (λ xs. IsListing (is_of c a) ss xs) (sym (ap (λ (z : Vec ℕ Global). z.items) here.1 ∙ same))
        (h.listing c list (ap (slice_get lists) here.0 ∙ there))
    | inr other ↦ h.listing c ids other.1
  ];
  room = λ c ids f. elim (set_parts lists class c list next ids there f) [
    | inl here ↦
        let p = h.room c list (ap (slice_get lists) here.0 ∙ there) in
        let q = ap (λ (z : Vec ℕ Global). vec_capacity z) here.1 in
        omega arith
    | inr other ↦ h.room c ids other.1
  ];
}

pub room_reserved : (class most : ℕ) (list next : Vec ℕ Global) (lists : List (Vec ℕ Global)) → slice_get lists class ≡ Some list
    → most ≤ vec_capacity next → HasListRoom class most (set lists class next)
room_reserved class most list next lists there more = λ ids f.
    let same = of_some next ids (sym (set_same lists class list next there) ∙ f) in
    subst (λ z. most ≤ vec_capacity z) same more

-- a new span of a class for which there is room
count_most : (test : Span → Bool) (ss : List Span) → count_by test ss ≤ length ss
count_most test [] = omega arith
count_most test (s ∷ ss) = let ih = count_most test ss in let a = sum_by-cons (λ (z : Span). cond (test z) 1 0) s ss in
    let b = one_low (test s) in omega arith
  where
    one_low : (b : Bool) → one_if b ≤ 1
    one_low true = omega arith
    one_low false = omega arith

all_stay : (a : State) (ss : List Span) (s : Span) (lists : List (Vec ℕ Global)) → is_in a s ≡ false
    → HasListRoom s.class (length ss + 1) lists → AreListed a ss lists → AreListed a (ss ++ s ∷ []) lists
all_stay a ss s lists other room h = record {
  classes = h.classes;
  listing = λ class list f. stays (is_of class a) ss list.items s (and_false (eqb s.class class) (is_in a s) other)
      (h.listing class list f);
  room = λ class list f. elim (cases_Bool (eqb s.class class)) [
    | inl hit ↦
        let p = room list (ap (slice_get lists) (eqb-true s.class class hit) ∙ f) in
        let q = count_most (is_class class) (ss ++ s ∷ []) in
        let k = length_push ss s in
        omega arith
    | inr miss ↦
        let p = h.room class list f in
        let q = sum_by_push (λ (z : Span). one_if (is_class class z)) ss s in
        let k : one_if (is_class class s) ≡ 0 = ap one_if miss in
        omega arith
  ];
}
  where
    and_false : (a b : Bool) → b ≡ false → (a && b) ≡ false
    and_false true b e = e
    and_false false b e = refl

pub filed_pushed : (ss : List Span) (s : Span) (lists : Lists) → s.state ≡ state.None → HasRoomToList s.class (length ss + 1) lists →
    AreFiled ss lists → AreFiled (ss ++ s ∷ []) lists
filed_pushed ss s lists none room h =
    let other : (a : State) → same_state state.None a ≡ false → is_in a s ≡ false = λ a e. ap (λ b. same_state b a) none ∙ e in
    record {
      empty = stays (is_in state.Empty) ss lists.empty.items s (other state.Empty refl) h.empty;
      ring = h.ring;
      active = all_stay state.Active ss s lists.active.items (other state.Active refl) room.active h.active;
      decommitted = all_stay state.Decommitted ss s lists.decommitted.items (other state.Decommitted refl) room.decommitted h.decommitted;
    }

-- the turns of a sound root, also after a span changed but for its state and turn
pub sound_turns : (r : Root) → IsSound r → HaveTurns r.spans r.turn
sound_turns r sound j v f used = sound.turns v (at_in r.spans j v f) used

pub turns_alike : (ss : List Span) (i turn : ℕ) (s t : Span) → slice_get ss i ≡ Some s → t.state ≡ s.state → t.turn ≡ s.turn →
    HaveTurns ss turn → HaveTurns (set ss i t) turn
turns_alike ss i turn s t e same turns h = λ j v f used. elim (set_parts ss i j s t v e f) [
  | inl here ↦
      let state = ap (λ (z : Span). same_state z.state state.None) here.1 ∙ ap (λ b. same_state b state.None) same in
      let less = h i s e (sym state ∙ used) in
      let p = ap (λ (z : Span). z.turn) here.1 in
      omega arith
  | inr other ↦ h j v other.1 used
]

-- a span in use isn't empty
pub in_use_other : (s : Span) → state_in_use s ≡ state.Empty → ⊥
in_use_other s e = elim (cases_Bool (eqb s.allocated (slots_of s.class))) [
  | inl full ↦ absurd (false≢true (ap (λ a. same_state a state.Empty) (rw full at e)))
  | inr left ↦ absurd (false≢true (ap (λ a. same_state a state.Empty) (rw left at e)))
]

-- a take changes neither the class of its span nor, before it enters a state, its state and turn
pub record IsSameFiling (t s : Span) : Type 0 where
  pub class : t.class ≡ s.class
  pub state : t.state ≡ s.state
  pub turn : t.turn ≡ s.turn

pub served_numbers : (s u : Span) (title : Title) → IsServed s u title → IsSameFiling u s
served_numbers s u title served = subst (λ z. IsSameFiling z s) (sym served.after) (by_list s.free s served.rest)
  where
    by_list : (xs : List ℕ) (s : Span) (rest : List ℕ) → IsSameFiling (without_front rest (with_list xs s)) s
    by_list [] s rest = record { class = refl; state = refl; turn = refl }
    by_list (x ∷ xs) s rest = record { class = refl; state = refl; turn = refl }

-- a span that was changed and then entered a state
pub set_within : (ss : List Span) (i : ℕ) (t : Span) → i < length ss → i < length (set ss i t)
set_within ss i t less = let e = set_length ss i t in omega arith

set_twice : (ss : List Span) (i : ℕ) (t u : Span) → set (set ss i t) i u ≡ set ss i u
set_twice [] i t u = refl
set_twice (s ∷ ss) zero t u = refl
set_twice (s ∷ ss) (suc i) t u = ap (λ xs. s ∷ xs) (set_twice ss i t u)

pub entered_after : (r after : Root) (i : ℕ) (s u : Span) (to : State) → slice_get r.spans i ≡ Some s →
    EntersAt (record r { spans = set r.spans i u }) after i to →
    after ≡ record r { spans = set r.spans i (in_state to r.turn u); turn = turn_after to r.turn u }
entered_after r after i s u to e enters =
    let there : slice_get (set r.spans i u) i ≡ Some u = set_same r.spans i s u e in
    enters u there ∙ ap (λ ss. record r { spans = ss; turn = turn_after to r.turn u }) (set_twice r.spans i u (in_state to r.turn u))

-- as many are empty before a span enters a state
pub empties_alike : (ss : List Span) (i : ℕ) (s t : Span) → slice_get ss i ≡ Some s → t.state ≡ s.state →
    count_by (is_in state.Empty) (set ss i t) ≡ count_by (is_in state.Empty) ss
empties_alike ss i s t e same =
    let a = count_set (is_in state.Empty) ss i s t e in
    let b : one_if (is_in state.Empty t) ≡ one_if (is_in state.Empty s) = ap (λ a. one_if (same_state a state.Empty)) same in
    omega arith

-- an empty span entered one of the four states
pub empties_used : (r : Root) → TestsUsed (is_in state.Empty) r
empties_used r s among passes = used s.state (same_state-true s.state state.Empty passes)
  where
    used : (a : State) → a ≡ state.Empty → same_state a state.None ≡ false
    used a e = rw e refl

-- the first that is listed
pub listed_first : (ids : List ℕ) (i : ℕ) → slice_get ids 0 ≡ Some i → (rest : List ℕ) × (ids ≡ i ∷ rest)
listed_first [] i e = absurd (not_some i e)
listed_first (k ∷ ids) i e = (ids, ap (λ n. n ∷ ids) (of_some k i e))

pub listed_none : (ids : List ℕ) → slice_get ids 0 ≡ None → ids ≡ []
listed_none [] e = refl
listed_none (k ∷ ids) e = absurd (not_some k (sym e))

-- a store with the same spans and lists
pub same_filed : (s after : Store) → after.spans.items ≡ s.spans.items → after.lists ≡ s.lists → IsFiled s → IsFiled after
same_filed s after e f h = subst (λ l. AreFiled after.spans.items l) (sym f) (subst (λ ss. AreFiled ss s.lists) (sym e) h)

-- less room will do
pub room_less : (class n m : ℕ) (lists : Lists) → m ≤ n → HasRoomToList class n lists → HasRoomToList class m lists
room_less class n m lists less h = record {
  active = λ list e. let p = h.active list e in omega arith;
  decommitted = λ list e. let p = h.decommitted list e in omega arith;
}
