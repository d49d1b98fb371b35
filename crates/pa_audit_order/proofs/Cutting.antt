-- The cut that a walk grows: what its steps keep, and that it has all records that are before.
use Rattle.std.proofs.Common.{◌≡◌, ℕ, zero, suc, ◌+◌, ◌<◌, Bool, true, false, if◌then◌else◌, List, [], ◌∷◌, ◌++◌, get_or, set, length, replicate, Option, Some, None, refl, sym, ◌∙◌, ap, subst, arith, inl, inr}
use Rattle.std.specs.Prelude.{slice_get, Contains}
use Rattle.std.proofs.lemmas.Bool.{cases_lt, cases_eq, true≢false}
use Rattle.std.proofs.lemmas.List.{length-set}
use Rattle.std.proofs.lemmas.List.Sums.{sum_by-set}
use Rattle.std.proofs.lemmas.List.Elements.{Contains-append_left, Contains-push, Contains-push_cases}
use Rattle.std.proofs.lemmas.Option.{slice_get_within}
use Rattle.pa_record.specs.declared.history.CellEntry.{CellEntry}
use Rattle.pa_lists.proofs.Members.{of_some, not_some, not_in_none}
use Rattle.pa_rules.specs.declared.played.Played.{Played}
use Rattle.pa_rules.specs.RecordDemands.{IsRecord}
use Rattle.pa_rules.specs.Seen.{IsBefore, Standing, Handing, Between}
use Rattle.pa_lists.proofs.Indexed.{in_at, one_at, here_is}
use Rattle.pa_rules.specs.Rising.{RiseByLine}
use Rattle.pa_rules.proofs.Rising.{rises}
use Rattle.pa_audit_order.specs.Looks.{IsMarked, AreLeft}
use Rattle.pa_audit_order.specs.Steps.{IsStepTo, IsLastOf, ArePrevious, AddsSteps}
use Rattle.pa_audit_order.specs.Cuts.{IsNear, IsTakenUp, IsGrown, unmarked}

-- ---- marks

pub set_here : {A : Type 0} (xs : List A) (i : ℕ) (v : A) → i < length xs → slice_get (set xs i v) i ≡ Some v
set_here [] i v below = absurd (omega (arith, below))
set_here (x ∷ xs) zero v below = refl
set_here (x ∷ xs) (suc i) v below = set_here xs i v (omega (arith, below))

pub set_other : {A : Type 0} (xs : List A) (i j : ℕ) (v : A) → (j ≡ i → ⊥) → slice_get (set xs i v) j ≡ slice_get xs j
set_other [] i j v other = refl
set_other (x ∷ xs) zero zero v other = absurd (other refl)
set_other (x ∷ xs) zero (suc j) v other = refl
set_other (x ∷ xs) (suc i) zero v other = refl
set_other (x ∷ xs) (suc i) (suc j) v other = set_other xs i j v (λ e. other (ap suc e))

-- what is marked stays so, and nothing else comes but the place
pub still_marked : (marked : List Bool) (i j : ℕ) → IsMarked marked j → IsMarked (set marked i true) j
still_marked marked i j is = elim (cases_eq j i) [
  | inl same ↦ subst (λ z. IsMarked (set marked i true) z) (sym same)
      (set_here marked i true (slice_get_within marked i true (subst (IsMarked marked) same is)))
  | inr other ↦ set_other marked i j true other ∙ is
]

pub was_marked : (marked : List Bool) (i j : ℕ) → (j ≡ i → ⊥) → IsMarked (set marked i true) j → IsMarked marked j
was_marked marked i j other is = sym (set_other marked i j true other) ∙ is

pub fewer_unmarked : (marked : List Bool) (i : ℕ) (d : Bool) → i < length marked → get_or marked i d ≡ false →
    unmarked (set marked i true) + 1 ≡ unmarked marked
fewer_unmarked marked i d below miss =
    let f : Bool → ℕ = λ b. if b then 0 else 1 in
    let sums = sum_by-set f marked i true d below in
    let one : f (get_or marked i d) ≡ 1 = ap f miss in
    omega (arith, sums, one)

none_marked : (n i : ℕ) → IsMarked (replicate n false) i → ⊥
none_marked zero i is = not_some true is
none_marked (suc n) zero is = true≢false (sym (of_some false true is))
none_marked (suc n) (suc i) is = none_marked n i is

-- ---- what is in

pub in_more : (marked : List Bool) (old new : List ℕ) (j : ℕ) → ((k : ℕ) → Contains old k → Contains new k) →
    IsTakenUp marked old j → IsTakenUp marked new j
in_more marked old new j kept (inl is) = inl is
in_more marked old new j kept (inr among) = inr (kept j among)

-- a cut says as much of what is ahead of less
pub cut_weaker : (cells : ℕ → List CellEntry) (ps : List Played) (A B : Played → Type 0) (but : ℕ) (marked : List Bool) (stack : List ℕ)
    (floor : ℕ) (left : ℕ → Option ℕ) → ((x : Played) → A x → B x)
    → IsGrown cells ps A but marked stack floor left → IsGrown cells ps B but marked stack floor left
cut_weaker cells ps A B but marked stack floor left weaker h = record {
  long = h.long;
  ground = h.ground;
  within = h.within;
  ahead = λ i x is at. weaker x (h.ahead i x is at);
  below = h.below;
  near = h.near;
  numbers = h.numbers;
}

pub cut_start : (cells : ℕ → List CellEntry) (ps : List Played) (A : Played → Type 0) (left : ℕ → Option ℕ) → ((q : ℕ) → left q ≡ None)
    → IsGrown cells ps A (length ps) (replicate (length ps) false) [] 0 left
cut_start cells ps A left none = record {
  long = length_of (length ps);
  ground = omega arith;
  within = λ i among. absurd (not_in_none i among);
  ahead = λ i x is at. absurd (nothing i is);
  below = λ i less. absurd (omega (arith, less));
  near = λ i j other is near. absurd (none_marked (length ps) i is);
  numbers = record {
    hit = λ q n is. absurd (not_some n (sym (none q) ∙ is));
    whole = λ i x m is. absurd (none_marked (length ps) i is);
  };
}
  where
    length_of : (n : ℕ) → length (replicate n false) ≡ n
    length_of zero = refl
    length_of (suc n) = ap suc (length_of n)

    nothing : (i : ℕ) → IsTakenUp (replicate (length ps) false) [] i → ⊥
    nothing i (inl is) = none_marked (length ps) i is
    nothing i (inr among) = not_in_none i among

-- the cut of which nothing is left out says as much but for one record
pub cut_but : (cells : ℕ → List CellEntry) (ps : List Played) (A : Played → Type 0) (k : ℕ) (marked : List Bool) (stack : List ℕ)
    (floor : ℕ) (left : ℕ → Option ℕ)
    → IsGrown cells ps A (length ps) marked stack floor left
    → IsGrown cells ps A k marked stack floor left
cut_but cells ps A k marked stack floor left h = record {
  long = h.long;
  ground = h.ground;
  within = h.within;
  ahead = h.ahead;
  below = h.below;
  near = λ i j other is near. h.near i j (λ e. let low = slice_get_within marked i true is in let long = h.long in
      omega (arith, low, long, e)) is near;
  numbers = h.numbers;
}

-- if the nearest steps to the record that was left out come from records that are taken up, no record is left out any more
pub cut_all : (cells : ℕ → List CellEntry) (ps : List Played) (A : Played → Type 0) (k : ℕ) (marked : List Bool) (stack : List ℕ)
    (floor : ℕ) (left : ℕ → Option ℕ)
    → ((j : ℕ) → IsNear cells ps j k → IsTakenUp marked stack j)
    → IsGrown cells ps A k marked stack floor left → IsGrown cells ps A (length ps) marked stack floor left
cut_all cells ps A k marked stack floor left steps h = record {
  long = h.long;
  ground = h.ground;
  within = h.within;
  ahead = h.ahead;
  below = h.below;
  near = λ i j other is near. elim (cases_eq i k) [
    | inl same ↦ steps j (subst (IsNear cells ps j) same near)
    | inr apart ↦ h.near i j apart is near
  ];
  numbers = h.numbers;
}

-- ---- the steps to a record come in

pub cut_steps : (cells : ℕ → List CellEntry) (ps : List Played) (A : Played → Type 0) (k : ℕ) (marked : List Bool) (old new : List ℕ)
    (low high : ℕ) (left : ℕ → Option ℕ)
    → ((x y : Played) → IsRecord ps k y → IsStepTo cells x y → A x) → AddsSteps cells ps k old low new high →
    IsGrown cells ps A k marked old low left → IsGrown cells ps A k marked new high left
cut_steps cells ps A k marked old new low high left steps adds h = record {
  long = h.long;
  ground = adds.within;
  within = λ i among. elim (adds.only i among) [
    | inl before ↦ h.within i before
    | inr (x, y, at, here, step) ↦ slice_get_within ps i x at
  ];
  ahead = λ i x is at. in_ahead i x is at;
  below = λ i less. elim (adds.floor i less) [
    | inl before ↦ in_more marked old new i adds.kept (h.below i before)
    | inr there ↦ inr there
  ];
  near = λ i j other is near. in_more marked old new j adds.kept (h.near i j other is near);
  numbers = h.numbers;
}
  where
    in_ahead : (i : ℕ) (x : Played) → IsTakenUp marked new i → IsRecord ps i x → A x
    in_ahead i x (inl is) at = h.ahead i x (inl is) at
    in_ahead i x (inr among) at = elim (adds.only i among) [
      | inl before ↦ h.ahead i x (inr before) at
      | inr (z, y, at', here, step) ↦ subst A (one_at ps i z x at' at) (steps z y here step)
    ]

pub steps_in : (cells : ℕ → List CellEntry) (ps : List Played) (A : Played → Type 0) (k : ℕ) (marked : List Bool) (old new : List ℕ)
    (low high : ℕ) (left : ℕ → Option ℕ)
    → AddsSteps cells ps k old low new high
    → IsGrown cells ps A k marked old low left → (j : ℕ) → IsNear cells ps j k → IsTakenUp marked new j
steps_in cells ps A k marked old new low high left adds h j (x, y, at, here, inl last) = inr (adds.previous j y here last)
steps_in cells ps A k marked old new low high left adds h j (x, y, at, here, inr (inl hands)) = inr (adds.giver j x y at here hands)
steps_in cells ps A k marked old new low high left adds h j (x, y, at, here, inr (inr phase)) =
    elim (adds.floor j (adds.phases j x y at here phase)) [
      | inl before ↦ in_more marked old new j adds.kept (h.below j before)
      | inr there ↦ inr there
    ]

-- ---- a record leaves the stack

-- the test of a mark
pub marked_at : (marked : List Bool) (i : ℕ) (d : Bool) → i < length marked → get_or marked i d ≡ true → IsMarked marked i
marked_at marked i d below is = here_is marked i d below ∙ ap Some is

-- what was in stays in if the record is marked
pub in_skip : (marked : List Bool) (rest : List ℕ) (k j : ℕ) → IsMarked marked k →
    IsTakenUp marked (rest ++ k ∷ []) j → IsTakenUp marked rest j
in_skip marked rest k j is (inl there) = inl there
in_skip marked rest k j is (inr among) = elim (Contains-push_cases rest k j among) [
  | inl early ↦ inr early
  | inr e ↦ inl (subst (IsMarked marked) e is)
]

-- a record that was marked before only leaves the stack
pub cut_skip : (cells : ℕ → List CellEntry) (ps : List Played) (A : Played → Type 0) (but k : ℕ) (marked : List Bool) (rest : List ℕ)
    (floor : ℕ) (left : ℕ → Option ℕ) → IsMarked marked k
    → IsGrown cells ps A but marked (rest ++ k ∷ []) floor left → IsGrown cells ps A but marked rest floor left
cut_skip cells ps A but k marked rest floor left is h =
    let out : (j : ℕ) → IsTakenUp marked rest j →
    IsTakenUp marked (rest ++ k ∷ []) j = λ j. in_more marked rest (rest ++ k ∷ []) j (λ i. Contains-append_left rest (k ∷ []) i) in
    record {
      long = h.long;
      ground = h.ground;
      within = λ i among. h.within i (Contains-append_left rest (k ∷ []) i among);
      ahead = λ i x there at. h.ahead i x (out i there) at;
      below = λ i less. in_skip marked rest k i is (h.below i less);
      near = λ i j other there near. in_skip marked rest k j is (h.near i j other there near);
      numbers = h.numbers;
    }

pub in_mark : (marked : List Bool) (rest : List ℕ) (k j : ℕ) → k < length marked → IsTakenUp marked (rest ++ k ∷ []) j →
    IsTakenUp (set marked k true) rest j
in_mark marked rest k j below (inl is) = inl (still_marked marked k j is)
in_mark marked rest k j below (inr among) = elim (Contains-push_cases rest k j among) [
  | inl early ↦ inr early
  | inr e ↦ inl (subst (IsMarked (set marked k true)) e (set_here marked k true below))
]

-- a record leaves the stack and is marked, and the steps to it are still to come
pub cut_mark : (cells : ℕ → List CellEntry) (ps : List Played) (A : Played → Type 0) (k : ℕ) (marked : List Bool) (rest : List ℕ)
    (floor : ℕ) (left next : ℕ → Option ℕ)
    → AreLeft ps (set marked k true) next
    → IsGrown cells ps A (length ps) marked (rest ++ k ∷ []) floor left → IsGrown cells ps A k (set marked k true) rest floor next
cut_mark cells ps A k marked rest floor left next has h =
    let long = h.long in
    let low : k < length marked = let within = h.within k (Contains-push rest k) in omega (arith, within, long) in
    let keep : (j : ℕ) → IsTakenUp marked (rest ++ k ∷ []) j → IsTakenUp (set marked k true) rest j = λ j. in_mark marked rest k j low in
    record {
      long = length-set marked k true ∙ long;
      ground = h.ground;
      within = λ i among. h.within i (Contains-append_left rest (k ∷ []) i among);
      ahead = λ i x there at. h.ahead i x (was i there) at;
      below = λ i less. keep i (h.below i less);
      near = λ i j other is near. keep j (h.near i j (λ e. let low = slice_get_within marked i true (was_marked marked k i other is) in
          omega (arith, low, long, e)) (was_marked marked k i other is) near);
      numbers = has;
    }
  where
    was : (i : ℕ) → IsTakenUp (set marked k true) rest i → IsTakenUp marked (rest ++ k ∷ []) i
    was i (inl is) = elim (cases_eq i k) [
      | inl same ↦ inr (subst (λ z. Contains (rest ++ k ∷ []) z) (sym same) (Contains-push rest k))
      | inr other ↦ inl (was_marked marked k i other is)
    ]
    was i (inr among) = inr (Contains-append_left rest (k ∷ []) i among)

-- ---- the cut has all that is before

-- the nearest steps to the record come from marked ones
abbrev IsClosedAt : (ℕ → List CellEntry) → List Played → List Bool → ℕ → Type 0
IsClosedAt cells ps marked i = (j : ℕ) → IsNear cells ps j i → IsMarked marked j

-- the earlier records of a marked record's thread are marked, if the nearest steps to it come from marked ones
thread_look : (n : ℕ) (cells : ℕ → List CellEntry) (ps : List Played) (marked : List Bool) (i j : ℕ) (x y : Played) (o : Option ℕ)
    → i < suc n → ((p : ℕ) (z : Played) → p < n → IsRecord ps p z → IsMarked marked p → x.thread ≡ z.thread → j < p → IsMarked marked j)
    → IsLastOf ps y.thread i o → IsClosedAt cells ps marked i → IsRecord ps j x → IsRecord ps i y →
    x.thread ≡ y.thread → j < i → IsMarked marked j
thread_look n cells ps marked i j x y None below again none closed at here same less = absurd (none j x less at same)
thread_look n cells ps marked i j x y (Some p) below again last closed at here same less =
    let (z, there, before, of, none) = last in
    let mine : IsMarked marked p = closed p (z, y, there, here, inl last) in
    elim (cases_lt j p) [
      | inl early ↦ again p z (omega (arith, before, below)) there mine (same ∙ sym of) early
      | inr late ↦ elim (cases_lt p j) [
        | inl between ↦ absurd (none j x between less at same)
        | inr most ↦ let e : p ≡ j = omega (arith, late, most) in subst (IsMarked marked) e mine
      ]
    ]

thread_marked : (n : ℕ) (cells : ℕ → List CellEntry) (ps : List Played) (table : List (Option ℕ)) (marked : List Bool) (i j : ℕ)
    (x y : Played) → i < n → ArePrevious ps table (length ps)
    → ((k : ℕ) → IsMarked marked k → IsClosedAt cells ps marked k) → IsClosedAt cells ps marked i → IsRecord ps j x → IsRecord ps i y →
    x.thread ≡ y.thread → j < i → IsMarked marked j
thread_marked zero cells ps table marked i j x y below tables all closed at here same less = absurd (omega (arith, below))
thread_marked (suc n) cells ps table marked i j x y below tables all closed at here same less =
    let long = tables.long in
    let within : i < length table = let low = slice_get_within ps i y here in omega (arith, low, long) in
    let last = tables.last i y (get_or table i None) (here_is table i None within) here in
    thread_look n cells ps marked i j x y (get_or table i None) below
    (λ p z low there mine of early. thread_marked n cells ps table marked p j x z low tables all (all p mine) at there of early) last closed
    at here same less

step_marked : (cells : ℕ → List CellEntry) (ps : List Played) (table : List (Option ℕ)) (marked : List Bool) (i j : ℕ) (x y : Played) →
    RiseByLine ps → ArePrevious ps table (length ps)
    → ((k : ℕ) → IsMarked marked k → IsClosedAt cells ps marked k) → IsClosedAt cells ps marked i → IsRecord ps j x → IsRecord ps i y →
    IsStepTo cells x y → IsMarked marked j
step_marked cells ps table marked i j x y rising tables all closed at here (inr hands) = closed j (x, y, at, here, inr (inl hands))
step_marked cells ps table marked i j x y rising tables all closed at here (inl (inr phase)) = closed j (x, y, at, here, inr (inr phase))
step_marked cells ps table marked i j x y rising tables all closed at here (inl (inl (same, line))) = elim (cases_lt j i) [
  | inl less ↦ thread_marked (suc i) cells ps table marked i j x y (omega arith) tables all closed at here same less
  | inr most ↦ elim (cases_lt i j) [
    | inl less ↦ let later = rises ps i j y x rising here at less in absurd (omega (arith, later, line))
    | inr least ↦
        let e : i ≡ j = omega (arith, most, least) in
        let one : x ≡ y = one_at ps j x y at (ap (slice_get ps) (sym e) ∙ here) in
        let lines = ap (λ (z : Played). z.line) one in
        absurd (omega (arith, line, lines))
  ]
]

pub before_marked : (cells : ℕ → List CellEntry) (ps : List Played) (table : List (Option ℕ)) (marked : List Bool) (i j : ℕ)
    (x y : Played) → RiseByLine ps → ArePrevious ps table (length ps)
    → ((k : ℕ) → IsMarked marked k → IsClosedAt cells ps marked k) → IsClosedAt cells ps marked i → IsRecord ps j x → IsRecord ps i y →
    IsBefore cells ps x y → IsMarked marked j
before_marked cells ps table marked i j x y rising tables all closed at here (Standing stands) =
    step_marked cells ps table marked i j x y rising tables all closed at here (inl stands)
before_marked cells ps table marked i j x y rising tables all closed at here (Handing hands) =
    step_marked cells ps table marked i j x y rising tables all closed at here (inr hands)
before_marked cells ps table marked i j x y rising tables all closed at here (Between z among first second) =
    let (k, there) = in_at ps z among in
    let mine = before_marked cells ps table marked i k z y rising tables all closed there here second in
    before_marked cells ps table marked k j x z rising tables all (all k mine) at there first
