-- A run that an entry of the pool took is taken until another gives it.
use Rattle.std.proofs.Common.{◌≡◌, ℕ, zero, suc, ◌+◌, List, [], ◌∷◌, ◌++◌, length, Some, None, refl, sym, ◌∙◌, ap, subst, arith, ◌⊎◌, inl, inr, append_assoc, length-append}
use Rattle.std.specs.Prelude.{Contains, slice_get}
use Rattle.std.proofs.lemmas.Bool.{cases_eq}
use Rattle.std.proofs.lemmas.List.{append-nil}
use Rattle.std.proofs.lemmas.List.Elements.{Contains-append_left, Contains-push}
use Rattle.pa_record.specs.declared.taken.Taken.{Taken}
use Rattle.pa_record.specs.declared.pool.PoolEntry.{PoolEntry}
use Rattle.pa_record.specs.declared.pool.PoolAct.{PoolAct}
use Rattle.pa_record.specs.declared.pool.PoolAct.TheVariants as pool
use Rattle.pa_record.specs.Pool.{PoolState, IsPartitions, PoolActFits, PoolReplays, IsPool, pool_next, FoundRun}
use Rattle.pa_lists.proofs.Members.{not_some, of_some}
use Rattle.pa_record.proofs.PoolSteps.{pool_grows, pool_is_sound, without_keeps, act_of}
use Rattle.pa_heap_effects.specs.Pooled.{pool_at}
use Rattle.pa_heap_effects.proofs.Pooling.{get_cases}

-- ---- the pool before one of its entries

-- entry k of the pool is e, which fits the pool after those before it
pub record Moment (supers : ℕ) (pools : List PoolEntry) (k : ℕ) (e : PoolEntry) (before after : List PoolEntry) : Type 0 where
  pub parts : pools ≡ before ++ e ∷ after
  pub place : length before ≡ k
  pub fits : IsPool supers before
  pub acts : PoolActFits before e.partition e.act (pool_at supers before)

pub fits_before : (supers : ℕ) (before es : List PoolEntry) (partition : ℕ) (act : PoolAct) → IsPool supers before →
    PoolActFits (before ++ es) partition act (pool_at supers before) →
    PoolActFits before partition act (pool_at supers before)
fits_before supers before es partition (pool.Take count found) h fits = fits
fits_before supers before es partition (pool.Give count first) h (t, one, (e, there, same)) =
    let sound = pool_is_sound.sound supers before h in
    let counted = pool_is_sound.counted supers before in
    let (low, found) = sound.found t one.among in
    elim (get_cases before es t.entry e there) [
      | inl old ↦ (t, one, (e, old, same))
      | inr (k, at, is) ↦ absurd (omega arith)
    ]

step_of_pool : (supers : ℕ) (pools before : List PoolEntry) (e : PoolEntry) (es : List PoolEntry) → pools ≡ before ++ e ∷ es
    → IsPool supers before → PoolReplays pools (e ∷ es) (pool_at supers before) →
    Moment supers pools (length before) e before es
step_of_pool supers pools before e es parts h fits = record {
  parts = parts;
  place = refl;
  fits = h;
  acts = fits_before supers before (e ∷ es) e.partition e.act h
      (subst (λ z. PoolActFits z e.partition e.act (pool_at supers before)) parts fits.0);
}

-- if an entry and those after it replay on the pool before it, those after it replay on the pool with it
rest_of : (supers : ℕ) (pools before : List PoolEntry) (e : PoolEntry) (es : List PoolEntry)
    → PoolReplays pools (e ∷ es) (pool_at supers before) → PoolReplays pools es (pool_at supers (before ++ e ∷ []))
rest_of supers pools before e es fits = subst (λ s. PoolReplays pools es s) (sym (pool_grows.next supers before e)) fits.1

after_moment : (supers : ℕ) (pools : List PoolEntry) (k : ℕ) (e : PoolEntry) (before after : List PoolEntry) →
    Moment supers pools k e before after → IsPool supers (before ++ e ∷ [])
after_moment supers pools k e before after m = pool_grows.fits supers before e m.fits m.acts

-- where an entry stands, with the rest of the list
record Found (supers : ℕ) (pools : List PoolEntry) (k : ℕ) (e : PoolEntry) (before after : List PoolEntry) : Type 0 where
  when : Moment supers pools k e before after
  rest : PoolReplays pools after (pool_at supers (before ++ e ∷ []))

moment_from : (supers : ℕ) (pools before es : List PoolEntry) (k : ℕ) (e : PoolEntry) → pools ≡ before ++ es → IsPool supers before
    → PoolReplays pools es (pool_at supers before) → slice_get es k ≡ Some e →
    (front behind : List PoolEntry) × Found supers pools (length before + k) e front behind
moment_from supers pools before [] k e parts h fits at = absurd (not_some e at)
moment_from supers pools before (x ∷ es) zero e parts h fits at =
    let f : Found supers pools (length before) x before es =
    record { when = step_of_pool supers pools before x es parts h fits; rest = rest_of supers pools before x es fits } in
    let place : length before ≡ length before + 0 = omega arith in (
      before,
      es,
      subst (λ z. Found supers pools (length before + 0) z before es) (of_some x e at)
          (subst (λ i. Found supers pools i x before es) place f),
    )
moment_from supers pools before (x ∷ es) (suc k) e parts h fits at =
    let m = step_of_pool supers pools before x es parts h fits in
    let (front, behind, found) = moment_from supers pools (before ++ x ∷ []) es k e (parts ∙ sym (append_assoc before (x ∷ []) es))
    (after_moment supers pools (length before) x before es m) (rest_of supers pools before x es fits) at in
    let long = length-append before (x ∷ []) in
    let place : length (before ++ x ∷ []) + k ≡ length before + suc k = omega arith in
    (front, behind, subst (λ i. Found supers pools i e front behind) place found)

moment : (supers : ℕ) (pools : List PoolEntry) (k : ℕ) (e : PoolEntry) → IsPool supers pools → slice_get pools k ≡ Some e →
    (front behind : List PoolEntry) × Found supers pools k e front behind
moment supers pools k e h at =
    let (front, behind, found) = moment_from supers pools [] pools k e refl tt h at in
    let place : 0 + k ≡ k = omega arith in
    (front, behind, subst (λ i. Found supers pools i e front behind) place found)

-- ---- until it is given

abbrev pub run_of : ℕ → ℕ → ℕ → Taken
run_of entry first count = record { entry = entry; first = first; count = count }

-- entry k of the pool gave this run
pub record WasGiven (supers : ℕ) (pools : List PoolEntry) (u : Taken) (k : ℕ) (e : PoolEntry) (before after : List PoolEntry) : Type 0 where
  pub when : Moment supers pools k e before after
  pub there : Contains (pool_at supers before).taken u
  pub act : e.act ≡ pool.Give u.count u.first
  pub owner : IsPartitions before e.partition u

-- runs that begin at one super page are one
pub one_first : (supers : ℕ) (pools : List PoolEntry) (t u : Taken) → IsPool supers pools → Contains (pool_at supers pools).taken t
    → Contains (pool_at supers pools).taken u → t.first ≡ u.first → t ≡ u
one_first supers pools t u h among among' same =
    let sound = pool_is_sound.sound supers pools h in
    let some = sound.some t among in
    let some' = sound.some u among' in
    sound.owned t u t.first among among' (omega arith, omega arith) (omega arith, omega arith)

-- a run stays, or the entry gives what begins there
keeps : (act : PoolAct) (s : PoolState) (u : Taken) → Contains s.taken u → Contains (pool_next act s).taken u ⊎
    ((count first : ℕ) × (act ≡ pool.Give count first) × (u.first ≡ first))
keeps (pool.Take count None) s u among = inl among
keeps (pool.Take count (Some first)) s u among = inl (Contains-append_left s.taken (run_of s.entries first count ∷ []) u among)
keeps (pool.Give count first) s u among = elim (cases_eq u.first first) [
  | inl same ↦ inr (count, first, refl, same)
  | inr other ↦ inl (without_keeps first s.taken u among other)
]

given_by : (supers : ℕ) (before : List PoolEntry) (partition count first : ℕ) (act : PoolAct) (u : Taken) → IsPool supers before
    → PoolActFits before partition act (pool_at supers before) → act ≡ pool.Give count first →
    Contains (pool_at supers before).taken u → u.first ≡ first → (act ≡ pool.Give u.count u.first) × IsPartitions before partition u
given_by supers before partition count first act u h fits is among same =
    let (v, one, owner) = subst (λ z. PoolActFits before partition z (pool_at supers before)) is fits in
    let e = one_first supers before v u h one.among among (one.begins ∙ sym same) in
    let count_is : count ≡ u.count = sym one.reaches ∙ ap (λ (z : Taken). z.count) e in (
      is ∙ ap (λ c. pool.Give c first) count_is ∙ ap (λ f. pool.Give u.count f) (sym same),
      subst (λ z. IsPartitions before partition z) e owner,
    )

-- ways in which a run ends
abbrev pub IsTakenOrGiven : ℕ → List PoolEntry → Taken → Type 0
IsTakenOrGiven supers pools u = Contains (pool_at supers pools).taken u ⊎
    ((k : ℕ) × (e : PoolEntry) × (before after : List PoolEntry) × WasGiven supers pools u k e before after)

walk : (supers : ℕ) (pools before es : List PoolEntry) (u : Taken) → pools ≡ before ++ es → IsPool supers before
    → PoolReplays pools es (pool_at supers before) → Contains (pool_at supers before).taken u →
    IsTakenOrGiven supers pools u
walk supers pools before [] u parts h fits among =
    inl (subst (λ z. Contains (pool_at supers z).taken u) (sym (parts ∙ append-nil before)) among)
walk supers pools before (e ∷ es) u parts h fits among =
    let m = step_of_pool supers pools before e es parts h fits in
    elim (keeps e.act (pool_at supers before) u among) [
      | inl stays ↦
          walk supers pools (before ++ e ∷ []) es u (parts ∙ sym (append_assoc before (e ∷ []) es))
          (after_moment supers pools (length before) e before es m) (rest_of supers pools before e es fits)
          (subst (λ (s : PoolState). Contains s.taken u) (sym (pool_grows.next supers before e)) stays)
      | inr (count, first, is, same) ↦
          let (act, owner) = given_by supers before e.partition count first e.act u h m.acts is among same in
          inr (length before, e, before, es, record { when = m; there = among; act = act; owner = owner })
    ]

pub taken_or_given : (supers : ℕ) (pools : List PoolEntry) (j count first : ℕ) → IsPool supers pools → FoundRun pools j count first →
    IsTakenOrGiven supers pools (run_of j first count)
taken_or_given supers pools j count first h found =
    let (e, at, act) = act_of (slice_get pools j) (pool.Take count (Some first)) found in
    let (front, behind, m) = moment supers pools j e h at in
    let next : pool_at supers (front ++ e ∷ []) ≡ pool_next (pool.Take count (Some first)) (pool_at supers front) =
    pool_grows.next supers front e ∙ ap (λ a. pool_next a (pool_at supers front)) act in
    let entry : (pool_at supers front).entries ≡ j = pool_is_sound.counted supers front ∙ m.when.place in
    walk supers pools (front ++ e ∷ []) behind (run_of j first count) (m.when.parts ∙ sym (append_assoc front (e ∷ []) behind))
    (after_moment supers pools j e front behind m.when) m.rest
    (subst (λ (s : PoolState). Contains s.taken (run_of j first count)) (sym next)
    (subst (λ i. Contains ((pool_at supers front).taken ++ run_of (pool_at supers front).entries first count ∷ []) (run_of i first count))
    entry
    (Contains-push (pool_at supers front).taken (run_of (pool_at supers front).entries first count))))
