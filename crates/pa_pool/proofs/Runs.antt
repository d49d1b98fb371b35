-- The runs that are taken, before and after an entry.
use Rattle.std.proofs.Common.{◌≡◌, ℕ, ◌+◌, ◌*◌, ◌<◌, ◌≤◌, List, [], ◌∷◌, ◌++◌, refl, sym, ◌∙◌, ap, subst, arith, ◌⊎◌, inl, inr, length, Some, None, Option}
use Rattle.std.specs.Prelude.{Contains}
use Rattle.std.proofs.lemmas.Bool.{cases_lt}
use Rattle.std.proofs.lemmas.Bool.Decides.{eqb_tells}
use Rattle.std.proofs.lemmas.List.Elements.{Contains-append_left}
use Rattle.pa_record.specs.declared.taken.Taken.{Taken}
use Rattle.pa_record.specs.declared.pool.PoolEntry.{PoolEntry}
use Rattle.pa_record.specs.declared.pool.PoolAct.{PoolAct}
use Rattle.pa_record.specs.declared.pool.PoolAct.TheVariants.{Take, Give}
use Rattle.pa_record.specs.Pool.{PoolState, IsPool, without_run, FoundRun}
use Rattle.pa_record.specs.PoolLaws.{IsSoundPool}
use Rattle.pa_lists.proofs.Members.{not_in_none, first_in, later_in, in_cases, of_some}
use Rattle.pa_record.proofs.PoolSteps.{pool_is_sound, pool_answers, without_in}
use Rattle.pa_pool.specs.Pools.{pool_after, IsByteOf, IsEntryOut}

-- whether some run that is taken is of this entry
out_among : (n : ℕ) (ts : List Taken) → ((t : Taken) × Contains ts t × (t.entry ≡ n)) ⊎ (((t : Taken) × Contains ts t × (t.entry ≡ n)) → ⊥)
out_among n [] = inr (λ h. not_in_none h.0 h.1)
out_among n (t ∷ ts) = elim (eqb_tells t.entry n) [
  | inl y ↦ inl (t, first_in t ts, y.1)
  | inr m ↦ elim (out_among n ts) [
    | inl h ↦ inl (h.0, later_in t h.0 ts h.1, h.2)
    | inr none ↦ inr (λ h. elim (in_cases t h.0 ts h.1) [
      | inl e ↦ m.1 (ap (λ (z : Taken). z.entry) e ∙ h.2)
      | inr rest ↦ none (h.0, rest, h.2)
    ])
  ]
]

pub out_cases : (s : PoolState) (n : ℕ) → IsEntryOut s n ⊎ (IsEntryOut s n → ⊥)
out_cases s n = out_among n s.taken

-- what a pool's entries replay to is sound, and counts them
pub sound_state : (supers : ℕ) (es : List PoolEntry) → IsPool supers es → IsSoundPool es (pool_after es supers)
sound_state supers es fits = pool_is_sound.sound supers es fits

pub counted : (supers : ℕ) (es : List PoolEntry) → (pool_after es supers).entries ≡ length es
counted supers es = pool_is_sound.counted supers es

pub same_supers : (supers : ℕ) (es : List PoolEntry) → (pool_after es supers).supers ≡ supers
same_supers supers es = pool_is_sound.supers supers es

-- the entry of a run that is taken is in the list
pub out_below : (supers : ℕ) (es : List PoolEntry) (n : ℕ) → IsPool supers es → IsEntryOut (pool_after es supers) n → n < length es
out_below supers es n fits h =
    let f = ((sound_state supers es fits).found h.0 h.1).0 in let c = counted supers es in let e = h.2 in omega arith

-- a byte lies in a run, or it doesn't
pub byte_cases : (first count b : ℕ) → IsByteOf first count b ⊎ (IsByteOf first count b → ⊥)
byte_cases first count b = elim (cases_lt b (2097152 * first)) [
  | inl y ↦ inr (λ h. let z = h.0 in omega arith)
  | inr n ↦ elim (cases_lt b (2097152 * (first + count))) [
    | inl y ↦ inl (n, y)
    | inr m ↦ inr (λ h. let z = h.1 in omega arith)
  ]
]

-- a byte that isn't of a run is before it or after it
pub byte_apart : (first count b : ℕ) → (IsByteOf first count b → ⊥) → (b < 2097152 * first) ⊎ (2097152 * first + 2097152 * count ≤ b)
byte_apart first count b out = elim (cases_lt b (2097152 * first)) [
  | inl y ↦ inl y
  | inr n ↦ elim (cases_lt b (2097152 * (first + count))) [ inl y ↦ absurd (out (n, y)) | inr m ↦ inr (omega arith) ]
]

-- one more run
pub took_more : (n first count : ℕ) (ts : List Taken) (t : Taken) → Contains ts t →
    Contains (ts ++ record { entry = n; first = first; count = count } ∷ []) t
took_more n first count ts t among = Contains-append_left ts (record { entry = n; first = first; count = count } ∷ []) t among

pub took_last : (n first count : ℕ) (ts : List Taken) →
    Contains (ts ++ record { entry = n; first = first; count = count } ∷ []) (record { entry = n; first = first; count = count })
took_last n first count [] = first_in (record { entry = n; first = first; count = count }) []
took_last n first count (u ∷ ts) =
    later_in u (record { entry = n; first = first; count = count }) (ts ++ record { entry = n; first = first; count = count } ∷ [])
    (took_last n first count ts)

-- of two runs that begin at one super page one is the other
pub one_begins : (es : List PoolEntry) (s : PoolState) (t u : Taken) → IsSoundPool es s → Contains s.taken t → Contains s.taken u →
    u.first ≡ t.first → u ≡ t
one_begins es s t u h among also e =
    let m = h.some t among in let n = h.some u also in
    h.owned u t t.first also among (omega arith, omega arith) (omega arith, omega arith)

-- the acts of one entry are one
take_one : (count other first another : ℕ) → Take count (Some first) ≡ Take other (Some another) → (count ≡ other) × (first ≡ another)
take_one count other first another e = (ap count_in e, of_some first another (ap first_in_act e))
  where
    count_in : PoolAct → ℕ
    count_in (Take n found) = n
    count_in (Give n from) = n

    first_in_act : PoolAct → Option ℕ
    first_in_act (Take n found) = found
    first_in_act (Give n from) = None

pub found_one : (es : List PoolEntry) (n count other first another : ℕ) → FoundRun es n count first → FoundRun es n other another →
    (count ≡ other) × (first ≡ another)
found_one es n count other first another f g =
    take_one count other first another (of_some (Take count (Some first)) (Take other (Some another)) (sym f ∙ g))

-- after a give no run of its entry is taken
pub gave_entry : (es : List PoolEntry) (s : PoolState) (t u : Taken) → IsSoundPool es s → Contains s.taken t →
    Contains (without_run t.first s.taken) u → u.entry ≡ t.entry → ⊥
gave_entry es s t u h among left e =
    let also = without_in t.first s.taken u left in
    let f = (h.found t among).1 in
    let g = subst (λ (n : ℕ). FoundRun es n u.count u.first) e ((h.found u also).1) in
    let same = found_one es t.entry u.count t.count u.first t.first g f in
    let free = (pool_answers.free es s t.first t.count t h (record { among = among; begins = refl; reaches = refl })).free u left in
    let m = h.some t among in let n = h.some u also in let x = same.0 in let y = same.1 in
    elim free [ inl before ↦ omega arith | inr after ↦ omega arith ]
