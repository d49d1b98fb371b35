-- The pool stays sound, and its list of entries grows.
use Rattle.std.proofs.Common.{◌≡◌, ◌≢◌, ℕ, zero, suc, ◌+◌, ◌<◌, ◌≤◌, eqb, List, [], ◌∷◌, ◌++◌, length, refl, sym, ◌∙◌, ap, subst, arith, inl, inr, Option, Some, None}
use Rattle.std.specs.Prelude.{Contains, AllPairs, slice_get, option_map, ◌==◌}
use Rattle.std.proofs.lemmas.Bool.{cases_Bool, eqb-true, eqb-false, ne_eqb}
use Rattle.std.proofs.lemmas.List.{append_assoc, length-append}
use Rattle.std.proofs.lemmas.List.Elements.{Contains-push_cases}
use Rattle.pa_record.specs.declared.taken.Taken.{Taken}
use Rattle.pa_record.specs.declared.pool.PoolEntry.{PoolEntry}
use Rattle.pa_record.specs.declared.pool.PoolAct.{PoolAct}
use Rattle.pa_record.specs.declared.pool.PoolAct.TheVariants as pool
use Rattle.pa_record.specs.Pool.{PoolState, new_pool, IsApart, IsFreeRun, IsLowest, IsOneTake, PoolActFits, PoolReplays, pool_next, pool_replayed, gave, without_run, act_at, FoundRun}
use Rattle.pa_record.specs.PoolLaws.{Covers, IsSoundPool, PoolIsSound, PoolGrows, PoolAnswers}
use Rattle.pa_lists.proofs.Members.{not_in_none, first_in, later_in, in_cases, of_some, not_some}
use Rattle.pa_lists.proofs.Pairs.{pairs_none, pairs_cons, pairs_tail, pairs_head, pairs_push}
use Rattle.pa_lists.proofs.Indexed.{slice_get_at}

-- an entry of a list stays where it is when more are added
pub slice_get_more : {A : Type 0} (xs ys : List A) (i : ℕ) (x : A) → slice_get xs i ≡ Some x → slice_get (xs ++ ys) i ≡ Some x
slice_get_more [] ys i x e = absurd (not_some x e)
slice_get_more (z ∷ xs) ys zero x e = e
slice_get_more (z ∷ xs) ys (suc i) x e = slice_get_more xs ys i x e

pub act_of : (o : Option PoolEntry) (a : PoolAct) → option_map (λ (e : PoolEntry). e.act) o ≡ Some a → (e : PoolEntry) × (o ≡ Some e) ×
    (e.act ≡ a)
act_of None a e = absurd (not_some a e)
act_of (Some x) a e = (x, refl, of_some x.act a e)

pub act_at_more : (pools more : List PoolEntry) (j : ℕ) (a : PoolAct) → act_at pools j ≡ Some a → act_at (pools ++ more) j ≡ Some a
act_at_more pools more j a h =
    let (x, e, f) = act_of (slice_get pools j) a h in
    ap (λ o. option_map (λ (e : PoolEntry). e.act) o) (slice_get_more pools more j x e) ∙ ap Some f

pub pool_fits_more : (pools more : List PoolEntry) (partition : ℕ) (act : PoolAct) (s : PoolState) → PoolActFits pools partition act s →
    PoolActFits (pools ++ more) partition act s
pool_fits_more pools more partition (pool.Take count found) s h = h
pool_fits_more pools more partition (pool.Give count first) s (t, one, (e, at, p)) =
    (t, one, (e, slice_get_more pools more t.entry e at, p))

pub pool_replays_more : (pools more es : List PoolEntry) (s : PoolState) → PoolReplays pools es s → PoolReplays (pools ++ more) es s
pool_replays_more pools more [] s h = tt
pool_replays_more pools more (e ∷ es) s h =
    (pool_fits_more pools more e.partition e.act s h.0, pool_replays_more pools more es (pool_next e.act s) h.1)

-- one entry more
pub pool_replayed_push : (es : List PoolEntry) (e : PoolEntry) (s : PoolState) →
    pool_replayed (es ++ e ∷ []) s ≡ pool_next e.act (pool_replayed es s)
pool_replayed_push [] e s = refl
pool_replayed_push (x ∷ es) e s = pool_replayed_push es e (pool_next x.act s)

pub pool_replays_push : (pools es : List PoolEntry) (e : PoolEntry) (s : PoolState) → PoolReplays pools es s →
    PoolActFits pools e.partition e.act (pool_replayed es s) →
    PoolReplays pools (es ++ e ∷ []) s
pool_replays_push pools [] e s h fits = (fits, tt)
pool_replays_push pools (x ∷ es) e s h fits = (h.0, pool_replays_push pools es e (pool_next x.act s) h.1 fits)

pub pool_grows : PoolGrows
pool_grows = record {
  fits = λ supers pools e h fits.
      pool_replays_push (pools ++ e ∷ []) pools e (new_pool supers) (pool_replays_more pools (e ∷ []) pools (new_pool supers) h)
      (pool_fits_more pools (e ∷ []) e.partition e.act (pool_replayed pools (new_pool supers)) fits);
  next = λ supers pools e. pool_replayed_push pools e (new_pool supers);
}

-- how many entries and super pages
next_counts : (act : PoolAct) (s : PoolState) → ((pool_next act s).entries ≡ s.entries + 1) × ((pool_next act s).supers ≡ s.supers)
next_counts (pool.Take count None) s = (refl, refl)
next_counts (pool.Take count (Some first)) s = (refl, refl)
next_counts (pool.Give count first) s = (refl, refl)

replayed_counts : (es : List PoolEntry) (s : PoolState) → ((pool_replayed es s).entries ≡ s.entries + length es) ×
    ((pool_replayed es s).supers ≡ s.supers)
replayed_counts [] s = (omega arith, refl)
replayed_counts (e ∷ es) s =
    let (p, q) = next_counts e.act s in
    let (p', q') = replayed_counts es (pool_next e.act s) in
    (omega arith, q' ∙ q)

-- runs apart
abbrev RunsApart : Taken → Taken → Type 0
RunsApart t u = IsApart t.first t.count u

abbrev OtherEntry : Taken → Taken → Type 0
OtherEntry t u = t.entry ≢ u.entry

pub apart_swap : (t u : Taken) → IsApart t.first t.count u → IsApart u.first u.count t
apart_swap t u (inl before) = inr before
apart_swap t u (inr after) = inl after

pub without_in : (first : ℕ) (ts : List Taken) (u : Taken) → Contains (without_run first ts) u → Contains ts u
without_in first [] u among = among
without_in first (t ∷ ts) u among = elim (cases_Bool (eqb t.first first)) [
  | inl hit ↦ later_in t u ts (rw hit at among)
  | inr miss ↦ elim (in_cases t u (without_run first ts) (rw miss at among)) [
    | inl e ↦ subst (λ z. Contains (t ∷ ts) z) e (first_in t ts)
    | inr old ↦ later_in t u ts (without_in first ts u old)
  ]
]

pub without_pairs : (R : Taken → Taken → Type 0) (first : ℕ) (ts : List Taken) → AllPairs R ts → AllPairs R (without_run first ts)
without_pairs R first [] h = h
without_pairs R first (t ∷ ts) h = elim (cases_Bool (eqb t.first first)) [
  | inl hit ↦ rw hit (pairs_tail R t ts h)
  | inr miss ↦ rw miss (pairs_cons R t (without_run first ts)
      (λ u among. pairs_head R t u ts h (without_in first ts u among))
      (without_pairs R first ts (pairs_tail R t ts h)))
]

-- of runs that lie apart and aren't empty, one covers a super page
one_owner : (ts : List Taken) (t u : Taken) (x : ℕ) → AllPairs RunsApart ts → Contains ts t → Contains ts u → Covers t x → Covers u x →
    t ≡ u
one_owner [] t u x h among among' c c' = absurd (not_in_none t among)
one_owner (y ∷ ts) t u x h among among' c c' = elim (in_cases y t ts among) [
  | inl e ↦ elim (in_cases y u ts among') [
    | inl e' ↦ sym e ∙ e'
    | inr rest ↦ absurd (not_both t u x (subst (λ z. RunsApart z u) e (pairs_head RunsApart y u ts h rest)) c c')
  ]
  | inr rest ↦ elim (in_cases y u ts among') [
    | inl e' ↦ absurd (not_both u t x (subst (λ z. RunsApart z t) e' (pairs_head RunsApart y t ts h rest)) c' c)
    | inr rest' ↦ one_owner ts t u x (pairs_tail RunsApart y ts h) rest rest' c c'
  ]
]
  where
    not_both : (t u : Taken) (x : ℕ) → RunsApart t u → Covers t x → Covers u x → ⊥
    not_both t u x (inl before) c c' = let p = c.1 in let q = c'.0 in omega arith
    not_both t u x (inr after) c c' = let p = c.0 in let q = c'.1 in omega arith

new_sound : (pools : List PoolEntry) (supers : ℕ) → IsSoundPool pools (new_pool supers)
new_sound pools supers = record {
  entries = omega arith;
  some = λ t among. absurd (not_in_none t among);
  inside = λ t among. absurd (not_in_none t among);
  found = λ t among. absurd (not_in_none t among);
  apart = pairs_none RunsApart;
  once = pairs_none OtherEntry;
  owned = λ t u x among. absurd (not_in_none t among);
}

next_sound : (pools : List PoolEntry) (partition : ℕ) (act : PoolAct) (s : PoolState) → IsSoundPool pools s → s.entries < length pools →
    act_at pools s.entries ≡ Some act →
    PoolActFits pools partition act s → IsSoundPool pools (pool_next act s)
next_sound pools partition (pool.Take count None) s h below at fits = record {
  entries = omega arith;
  some = h.some;
  inside = h.inside;
  found = λ t among. let (p, q) = h.found t among in (omega arith, q);
  apart = h.apart;
  once = h.once;
  owned = h.owned;
}
next_sound pools partition (pool.Take count (Some first)) s h below at fits =
    let t : Taken = record { entry = s.entries; first = first; count = count } in
    let run = fits.1.0 in
    let apart = pairs_push RunsApart s.taken t h.apart (λ u among. apart_swap t u (run.free u among)) in
    record {
      entries = omega arith;
      some = λ u among. elim (Contains-push_cases s.taken t u among) [
        | inl old ↦ h.some u old
        | inr e ↦ subst (λ (z : Taken). 1 ≤ z.count) e fits.0
      ];
      inside = λ u among. elim (Contains-push_cases s.taken t u among) [
        | inl old ↦ h.inside u old
        | inr e ↦ subst (λ (z : Taken). z.first + z.count ≤ s.supers) e run.inside
      ];
      found = λ u among. elim (Contains-push_cases s.taken t u among) [
        | inl old ↦ let (p, q) = h.found u old in (omega arith, q)
        | inr e ↦ subst (λ (z : Taken). (z.entry < s.entries + 1) × FoundRun pools z.entry z.count z.first) e (omega arith, at)
      ];
      apart = apart;
      once = pairs_push OtherEntry s.taken t h.once (λ u among e. let p = (h.found u among).0 in omega arith);
      owned = λ u v x among among' c c'. one_owner (s.taken ++ t ∷ []) u v x apart among among' c c';
    }
next_sound pools partition (pool.Give count first) s h below at fits = record {
  entries = omega arith;
  some = λ t among. h.some t (without_in first s.taken t among);
  inside = λ t among. h.inside t (without_in first s.taken t among);
  found = λ t among. let (p, q) = h.found t (without_in first s.taken t among) in (omega arith, q);
  apart = without_pairs RunsApart first s.taken h.apart;
  once = without_pairs OtherEntry first s.taken h.once;
  owned = λ t u x among among' c c'. h.owned t u x (without_in first s.taken t among) (without_in first s.taken u among') c c';
}

all_sound : (pools before es : List PoolEntry) (s : PoolState) → pools ≡ before ++ es → s.entries ≡ length before → IsSoundPool pools s →
    PoolReplays pools es s →
    IsSoundPool pools (pool_replayed es s)
all_sound pools before [] s e counts h fits = h
all_sound pools before (x ∷ es) s e counts h fits =
    let split : pools ≡ (before ++ x ∷ []) ++ es = e ∙ sym (append_assoc before (x ∷ []) es) in
    let here : slice_get pools s.entries ≡ Some x = ap (λ ps. slice_get ps s.entries) e ∙ ap (λ n. slice_get (before ++ x ∷ es) n) counts ∙
    slice_get_at before es x in
    let long = ap length e ∙ length-append before (x ∷ es) in
    let longer = length-append before (x ∷ []) in
    let (p, q) = next_counts x.act s in
    all_sound pools (before ++ x ∷ []) es (pool_next x.act s) split (omega arith)
    (next_sound pools x.partition x.act s h (omega arith) (ap (λ o. option_map (λ (e : PoolEntry). e.act) o) here) fits.0)
    fits.1

pub pool_is_sound : PoolIsSound
pool_is_sound = record {
  sound = λ supers pools fits. all_sound pools [] pools (new_pool supers) refl refl (new_sound pools supers) fits;
  counted = λ supers pools. let (p, q) = replayed_counts pools (new_pool supers) in omega arith;
  supers = λ supers pools. (replayed_counts pools (new_pool supers)).1;
}

-- the lowest run is one
lowest_one : (s : PoolState) (count : ℕ) (a b : Option ℕ) → IsLowest s count a → IsLowest s count b → a ≡ b
lowest_one s count None None h k = refl
lowest_one s count None (Some y) h k = absurd (h y k.0)
lowest_one s count (Some x) None h k = absurd (k x h.0)
lowest_one s count (Some x) (Some y) h k = let p = h.1 y k.0 in let q = k.1 x h.0 in let e : x ≡ y = omega arith in ap Some e

-- without its run, the super pages are free
without_free : (first count : ℕ) (ts : List Taken) (t : Taken) → AllPairs RunsApart ts → ((u : Taken) → Contains ts u → 1 ≤ u.count) →
    Contains ts t → t.first ≡ first → t.count ≡ count →
    (u : Taken) → Contains (without_run first ts) u → IsApart first count u
without_free first count [] t h some among e f u member = absurd (not_in_none t among)
without_free first count (x ∷ ts) t h some among e f u member = elim (cases_Bool (eqb x.first first)) [
  | inl hit ↦ elim (in_cases x t ts among) [
    | inl same ↦
        let g : x.first ≡ first = eqb-true _ _ hit in
        let k : x.count ≡ count = ap (λ (z : Taken). z.count) same ∙ f in
        subst (λ i. IsApart i count u) g (subst (λ i. IsApart x.first i u) k (pairs_head RunsApart x u ts h (rw hit at member)))
    | inr rest ↦
        let g : x.first ≡ first = eqb-true _ _ hit in
        let m = some x (first_in x ts) in
        let m' = some t (later_in x t ts rest) in
        absurd (meet x t first g e m m' (pairs_head RunsApart x t ts h rest))
  ]
  | inr miss ↦ elim (in_cases x t ts among) [
    | inl same ↦ absurd (eqb-false _ _ miss (ap (λ (z : Taken). z.first) same ∙ e))
    | inr rest ↦ elim (in_cases x u (without_run first ts) (rw miss at member)) [
      | inl here ↦ subst (λ z. IsApart first count z) here
          (subst (λ i. IsApart i count x) e (subst (λ i. IsApart t.first i x) f (apart_swap x t (pairs_head RunsApart x t ts h rest))))
      | inr old ↦ without_free first count ts t (pairs_tail RunsApart x ts h) (λ v m. some v (later_in x v ts m)) rest e f u old
    ]
  ]
]
  where
    meet : (x t : Taken) (first : ℕ) → x.first ≡ first → t.first ≡ first → 1 ≤ x.count → 1 ≤ t.count → RunsApart x t → ⊥
    meet x t first g e m m' (inl before) = omega arith
    meet x t first g e m m' (inr after) = omega arith

given_free : (pools : List PoolEntry) (s : PoolState) (first count : ℕ) (t : Taken) → IsSoundPool pools s → IsOneTake s first count t →
    IsFreeRun (gave first s) count first
given_free pools s first count t h one = record {
  inside = let p = h.inside t one.among in let q = one.begins in let k = one.reaches in omega arith;
  free = λ u member. without_free first count s.taken t h.apart h.some one.among one.begins one.reaches u member;
}

pub pool_answers : PoolAnswers
pool_answers = record { lowest = lowest_one; free = given_free }

pub without_keeps : (first : ℕ) (ts : List Taken) (u : Taken) → Contains ts u → (u.first ≡ first → ⊥) → Contains (without_run first ts) u
without_keeps first [] u among other = absurd (not_in_none u among)
without_keeps first (t ∷ ts) u among other = elim (in_cases t u ts among) [
  | inl e ↦
      let miss = ne_eqb t.first first (λ hit. other (ap (λ (z : Taken). z.first) (sym e) ∙ hit)) in
      rw miss (subst (λ z. Contains (t ∷ without_run first ts) z) e (first_in t (without_run first ts)))
  | inr rest ↦ elim (cases_Bool (t.first == first)) [
    | inl hit ↦ rw hit rest
    | inr miss ↦ rw miss (later_in t u (without_run first ts) (without_keeps first ts u rest other))
  ]
]
