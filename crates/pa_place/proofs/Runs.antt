-- The runs that are taken: which is removed, and how many there can be.
use Rattle.std.proofs.Common.{◌≡◌, ◌≢◌, ◌∙◌, ℕ, suc, ◌+◌, ◌<◌, ◌≤◌, eqb, List, [], ◌∷◌, ◌++◌, length, map, refl, ap, subst, arith, inl, inr, Some, None}
use Rattle.std.specs.Prelude.{Contains, AllPairs, position, remove}
use Rattle.std.proofs.lemmas.Bool.{cases_Bool}
use Rattle.std.proofs.lemmas.List.Elements.{Contains-push_cases}
use Rattle.pa_record.specs.declared.taken.Taken.{Taken}
use Rattle.pa_record.specs.Pool.{PoolState, IsApart, IsFreeRun, without_run}
use Rattle.std.proofs.lemmas.List.{length-append}
use Rattle.pa_lists.proofs.Members.{has, not_in_none, first_in, later_in, in_cases}
use Rattle.pa_lists.proofs.Pairs.{pairs_none, pairs_cons, pairs_tail, pairs_head, pairs_push}
use Rattle.pa_lists.proofs.Different.{passing_most, length_is}
use Rattle.pa_place.specs.Pool.{IsSoundPlan}
use Rattle.pa_place.proofs.Removing.{without_first, removed_first, none_removed_first}
use Rattle.pa_record.proofs.PoolSteps.{without_in, without_pairs, apart_swap}

-- the run that begins there, by its place
without_run_is : (first : ℕ) (ts : List Taken) → without_first (λ (t : Taken). eqb t.first first) ts ≡ without_run first ts
without_run_is first [] = refl
without_run_is first (t ∷ ts) = elim (cases_Bool (eqb t.first first)) [
  | inl hit ↦ rw hit refl
  | inr miss ↦ rw miss (ap (λ xs. t ∷ xs) (without_run_is first ts))
]

pub removed_is : (first k : ℕ) (ts : List Taken) → position (λ (t : Taken). eqb t.first first) ts ≡ Some k →
    remove ts k ≡ without_run first ts
removed_is first k ts e = removed_first (λ (t : Taken). eqb t.first first) k ts e ∙ without_run_is first ts

pub none_removed : (first : ℕ) (ts : List Taken) → position (λ (t : Taken). eqb t.first first) ts ≡ None → ts ≡ without_run first ts
none_removed first ts e = none_removed_first (λ (t : Taken). eqb t.first first) ts e ∙ without_run_is first ts

abbrev pub RunsApart : Taken → Taken → Type 0
RunsApart t u = IsApart t.first t.count u

abbrev pub state_of : ℕ → ℕ → List Taken → PoolState
state_of supers entries taken = record { supers = supers; entries = entries; taken = taken }

-- a plan without one of its runs
pub gave_sound : (supers entries next first : ℕ) (ts : List Taken) → IsSoundPlan (state_of supers entries ts) →
    IsSoundPlan (state_of supers next (without_run first ts))
gave_sound supers entries next first ts h = record {
  few = h.few;
  some = λ t among. h.some t (without_in first ts t among);
  inside = λ t among. h.inside t (without_in first ts t among);
  apart = without_pairs RunsApart first ts h.apart;
}

pub entered_sound : (supers entries next : ℕ) (ts : List Taken) → IsSoundPlan (state_of supers entries ts) →
    IsSoundPlan (state_of supers next ts)
entered_sound supers entries next ts h = record { few = h.few; some = h.some; inside = h.inside; apart = h.apart }

-- a plan with one run more, which was free
pub took_sound : (supers entries next : ℕ) (ts : List Taken) (t : Taken) → IsSoundPlan (state_of supers entries ts) → 1 ≤ t.count →
    IsFreeRun (state_of supers entries ts) t.count t.first → IsSoundPlan (state_of supers next (ts ++ t ∷ []))
took_sound supers entries next ts t h some run = record {
  few = h.few;
  some = λ u among. elim (Contains-push_cases ts t u among) [
    | inl old ↦ h.some u old
    | inr e ↦ subst (λ (z : Taken). 1 ≤ z.count) e some
  ];
  inside = λ u among. elim (Contains-push_cases ts t u among) [
    | inl old ↦ h.inside u old
    | inr e ↦ subst (λ (z : Taken). z.first + z.count ≤ supers) e run.inside
  ];
  apart = pairs_push RunsApart ts t h.apart (λ u among. apart_swap t u (run.free u among));
}

-- runs that lie apart begin in different super pages
firsts_differ : (ts : List Taken) → AllPairs RunsApart ts → ((t : Taken) → Contains ts t → 1 ≤ t.count) →
    AllPairs ◌≢◌ (map (λ (t : Taken). t.first) ts)
firsts_differ [] h some = pairs_none (λ (a b : ℕ). a ≢ b)
firsts_differ (t ∷ ts) h some =
    pairs_cons (λ (a b : ℕ). a ≢ b) t.first (map (λ (t : Taken). t.first) ts)
    (λ n among e.
    let (u, member, same) = mapped_from n ts among in
    let more = some t (first_in t ts) in
    let more' = some u (later_in t u ts member) in
    elim (pairs_head RunsApart t u ts h member) [ inl before ↦ omega arith | inr after ↦ omega arith ])
    (firsts_differ ts (pairs_tail RunsApart t ts h) (λ u among. some u (later_in t u ts among)))
  where
    mapped_from : (n : ℕ) (ts : List Taken) → Contains (map (λ (t : Taken). t.first) ts) n → (u : Taken) × Contains ts u × (u.first ≡ n)
    mapped_from n [] among = absurd (not_in_none n among)
    mapped_from n (t ∷ ts) among = elim (in_cases t.first n (map (λ (t : Taken). t.first) ts) among) [
      | inl e ↦ (t, first_in t ts, e)
      | inr rest ↦ let (u, member, e) = mapped_from n ts rest in (u, later_in t u ts member, e)
    ]

firsts_below : (ts : List Taken) (supers n : ℕ) → ((t : Taken) → Contains ts t → t.first < supers) →
    Contains (map (λ (t : Taken). t.first) ts) n → n < supers
firsts_below [] supers n h among = absurd (not_in_none n among)
firsts_below (t ∷ ts) supers n h among = elim (in_cases t.first n (map (λ (t : Taken). t.first) ts) among) [
  | inl e ↦ let p = h t (first_in t ts) in omega arith
  | inr rest ↦ firsts_below ts supers n (λ u member. h u (later_in t u ts member)) rest
]

firsts_many : (ts : List Taken) → length (map (λ (t : Taken). t.first) ts) ≡ length ts
firsts_many [] = refl
firsts_many (t ∷ ts) = ap (λ n. suc n) (firsts_many ts)

-- a sound plan has no more runs taken than there are super pages
pub runs_most : (supers entries : ℕ) (ts : List Taken) → IsSoundPlan (state_of supers entries ts) → length ts ≤ supers
runs_most supers entries ts h =
    let firsts = map (λ (t : Taken). t.first) ts in
    let low : (t : Taken) → Contains ts t → t.first < supers = λ t among. let p = h.inside t among in let q = h.some t among in
    omega arith in
    let e = length_is firsts supers (firsts_differ ts h.apart h.some) (λ n among. firsts_below ts supers n low among) in
    let most = passing_most (λ n. has n firsts) supers in
    let many = firsts_many ts in
    omega arith

-- a sound plan that has a free run of one super page or more has fewer than 64 runs taken
pub run_fits : (supers entries : ℕ) (ts : List Taken) (t : Taken) → IsSoundPlan (state_of supers entries ts) → 1 ≤ t.count →
    IsFreeRun (state_of supers entries ts) t.count t.first → length ts < 64
run_fits supers entries ts t h some run =
    let most = runs_most supers entries (ts ++ t ∷ []) (took_sound supers entries entries ts t h some run) in
    let long = length-append ts (t ∷ []) in
    let few = h.few in
    omega arith
