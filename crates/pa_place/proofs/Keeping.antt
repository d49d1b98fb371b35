-- What each call leaves: a sound root, of which at most 16 spans are empty, and lists that aren't too long.
use Rattle.std.proofs.Common.{◌≡◌, ◌≢◌, ℕ, suc, ◌+◌, ◌<◌, ◌≤◌, List, [], ◌∷◌, length, map, refl, sym, ◌∙◌, ap, subst, arith, inl, inr, Option, Some, None, vec_len}
use Rattle.std.specs.Prelude.{Contains, AllPairs, All, IsNone}
use Rattle.std.proofs.lemmas.Bool.{cases_Bool}
use Rattle.std.proofs.lemmas.List.{length_push}
use Rattle.pa_slot.specs.declared.title.Title.{Title}
use Rattle.pa_slot.specs.declared.word.SlotName.{SlotName}
use Rattle.pa_record.specs.declared.taken.SuperPage.{SuperPage}
use Rattle.pa_record.specs.Pool.{PoolState, took}
use Rattle.pa_record.specs.Spans.{name_of}
use Rattle.std.proofs.lemmas.List.Elements.{Contains-push_cases}
use Rattle.pa_record.specs.Root.{Root, Filled, span_for, takes, opened, mapped, all_returned, purged, unmapped, without_map, empties, IsOut}
use Rattle.pa_record.specs.Sound.{IsSound, IsSettled, IsBornBelow}
use Rattle.pa_record.proofs.Filling.{takes_filled, takes_none, opened_sound, opened_born}
use Rattle.pa_record.proofs.Returning.{all_returned_is, times_is}
use Rattle.pa_record.proofs.Mapping.{mapped_sound, mapped_born, unmapped_sound, unmapped_born, born_more, born_same}
use Rattle.pa_place.specs.declared.store.Store.{Store}
use Rattle.pa_place.specs.Placed.{filled_by, Fills, map_in, mapped_by, IsStep}
use Rattle.pa_place.specs.Order.{IsOrdered}
use Rattle.pa_place.specs.Store.{root_of, HasLowSupers, IsReady, IsStoreSound, opened_where, AsksWhere, IsFiled}
use Rattle.pa_place.proofs.Filling.{filled_with}
use Rattle.pa_place.proofs.Ordering.{order_opened}
use Rattle.pa_place.proofs.Removing.{is_named}

-- a store is kept if its root is this one
pub record IsGood (r : Root) : Type 0 where
  pub ready : IsReady r
  pub settled : IsSettled r
  pub ordered : IsOrdered r
  pub supers : length r.supers ≤ 2147483647
  pub maps : length r.maps ≤ 2147483647

pub kept_by : (s : Store) (r : Root) → root_of s ≡ r → IsGood r → vec_len s.spans ≤ 2147483647 → IsFiled s → IsStoreSound s
kept_by s r e good many filed =
    let g = subst IsGood (sym e) good in
    record { ready = g.ready; settled = g.settled; ordered = g.ordered; filed = filed; supers = g.supers; maps = g.maps; spans = many }

pub good_of : (s : Store) → IsStoreSound s → IsGood (root_of s)
good_of s k = record { ready = k.ready; settled = k.settled; ordered = k.ordered; supers = k.supers; maps = k.maps }

-- a step that leaves super pages and direct maps as they are
pub record IsInPlace (r next : Root) : Type 0 where
  pub good : IsGood next
  pub turn : next.turn ≤ r.turn + 32
  pub rises : r.turn ≤ next.turn
  pub born : (n : ℕ) → IsBornBelow n r → IsBornBelow n next
  pub maps : next.maps ≡ r.maps

step_by : (r next : Root) → IsGood r → IsSound next → IsSettled next → IsOrdered next → next.supers ≡ r.supers → next.maps ≡ r.maps →
    next.turn ≤ r.turn + 32 → r.turn ≤ next.turn → IsInPlace r next
step_by r next good sound settled ordered supers maps turn rises = record {
  good = record {
    ready = record { sound = sound; low = λ at among. good.ready.low at (subst (λ xs. Contains xs at) supers among) };
    settled = settled;
    ordered = ordered;
    supers = let p = ap length supers in let q = good.supers in omega arith;
    maps = let p = ap length maps in let q = good.maps in omega arith;
  };
  turn = turn;
  rises = rises;
  born = λ n old. born_same n r next supers maps old;
  maps = maps;
}

pub gives : (r next : Root) (titles : List Title) → IsGood r → length titles ≤ 16 → All (IsOut r) (map name_of titles) →
    AllPairs ◌≢◌ (map name_of titles) →
    next ≡ all_returned (map name_of titles) r → IsOrdered next → IsInPlace r next
gives r next titles good few out once e ordered =
    let a = all_returned_is (map name_of titles) r good.ready.sound out once in
    let many = length_map titles in
    subst (IsInPlace r) (sym e)
    (step_by r (all_returned (map name_of titles) r) good a.kept.sound (a.settled good.settled)
    (subst IsOrdered e ordered) a.kept.supers a.kept.maps (let p = a.turn in omega arith) a.kept.rises)
  where
    length_map : (ts : List Title) → length (map name_of ts) ≡ length ts
    length_map [] = refl
    length_map (t ∷ ts) = ap (λ n. suc n) (length_map ts)

pub purges : (r next : Root) → IsGood r → next ≡ purged r → IsOrdered next → IsInPlace r next
purges r next good e ordered =
    let a = times_is (empties r) r good.ready.sound in
    let few = good.settled in
    subst (IsInPlace r) (sym e)
    (step_by r (purged r) good a.kept.sound (let p = a.fewer in omega arith) (subst IsOrdered e ordered) a.kept.supers a.kept.maps
    (let p = a.turn in omega arith) a.kept.rises)

pub filled_step : (class want : ℕ) (r next : Root) (titles : List Title) → IsGood r → class < 170 → want ≤ 8 →
    takes class want r ≡ filled_with next titles → IsOrdered next → IsInPlace r next
filled_step class want r next titles good real few e ordered =
    let a = takes_filled class want r good.ready.sound real in
    let same : (takes class want r).root ≡ next = ap (λ (f : Filled). f.root) e in
    let settled = good.settled in
    subst (IsInPlace r) same
    (step_by r (takes class want r).root good a.sound (let p = a.settled in omega arith)
    (subst IsOrdered (sym same) ordered) a.supers a.maps (let p = a.turn in omega arith) a.rises)

-- a step in place, which leaves super pages and direct maps as they are, is a step with n pool entries before and after it
pub in_place : (n : ℕ) (r next : Root) → IsInPlace r next → IsStep n n r next
in_place n r next a = record { turn = a.turn; rises = a.rises; entries = omega arith; one = omega arith; born = a.born n }

-- a step after one that takes no turn
pub two_steps : (n m : ℕ) (r mid after : Root) → IsStep n m r mid → mid.turn ≡ r.turn → IsStep m m mid after → IsStep n m r after
two_steps n m r mid after a same b = record {
  turn = let p = b.turn in omega arith;
  rises = let p = b.rises in omega arith;
  entries = a.entries;
  one = a.one;
  born = λ old. b.born (a.born old);
}

pub entries_after : (count : ℕ) (found : Option ℕ) (pool : PoolState) → (took count found pool).entries ≡ pool.entries + 1
entries_after count None pool = refl
entries_after count (Some first) pool = refl

opened_good : (found : Option ℕ) (entry : ℕ) (r : Root) → IsGood r → length r.supers < 2147483647 → IsBornBelow entry r →
    HasLowSupers (opened_where found entry r) →
    IsGood (opened_where found entry r) × IsBornBelow (entry + 1) (opened_where found entry r) ×
    ((opened_where found entry r).turn ≡ r.turn)
opened_good None entry r good few old low = (good, born_more entry (entry + 1) r (omega arith) old, refl)
opened_good (Some first) entry r good few old low = (
  record {
    ready = record { sound = opened_sound first entry r good.ready.sound old; low = low };
    settled = good.settled;
    ordered = order_opened first entry r old good.ordered;
    supers = let p = length_push r.supers (super_at first entry) in omega arith;
    maps = good.maps;
  },
  opened_born first entry r old,
  refl,
)
  where
    super_at : ℕ → ℕ → SuperPage
    super_at number born = record { number = number; born = born }

-- the super page that was opened lies in the region
pub low_opened : (first entry : ℕ) (r : Root) → first < 64 → HasLowSupers r → HasLowSupers (opened first entry r)
low_opened first entry r low h at among = elim (Contains-push_cases r.supers (record { number = first; born = entry }) at among) [
  | inl old ↦ h at old
  | inr e ↦ subst (λ (z : SuperPage). z.number < 64) e low
]

-- a super page is opened in a root
pub record IsAfterOpen (entry : ℕ) (r after : Root) : Type 0 where
  pub good : IsGood after
  pub step : IsStep entry (entry + 1) r after

pub opened_step : (first entry : ℕ) (r after : Root) → IsGood r → length r.supers < 2147483647 → first < 64 → IsBornBelow entry r →
    after ≡ opened first entry r → IsAfterOpen entry r after
opened_step first entry r after good few low old e =
    let (a, b, t) = opened_good (Some first) entry r good few old (low_opened first entry r low good.ready.low) in
    subst (IsAfterOpen entry r) (sym e)
    (record {
      good = a;
      step = record { turn = omega arith; rises = omega arith; entries = omega arith; one = omega arith; born = λ _. b };
    })

-- the fill is one that asks the pool exactly when it has to
filled_where : (class want entry : ℕ) (found : Option ℕ) (r : Root) → IsNone (span_for class r) →
    takes class want (opened_where found entry r) ≡ filled_by class want entry found r
filled_where class want entry None r none = takes_none class want r none
filled_where class want entry (Some first) r none = refl

pub fills_by : (class want : ℕ) (pool next : PoolState) (r after last : Root) (titles : List Title) (asked : Option ℕ) →
    AsksWhere class pool next r after asked →
    takes class want after ≡ filled_with last titles → Fills class want pool next r (filled_with last titles) asked
fills_by class want pool next r after last titles None (some, same, e) filled = (some, same, sym filled ∙ ap (takes class want) e)
fills_by class want pool next r after last titles (Some entry) (none, found, is, e) filled =
    (none, found, is, sym filled ∙ ap (takes class want) e ∙ filled_where class want entry found r none)

-- a direct map
mapped_good : (len entry : ℕ) (found : Option ℕ) (r : Root) → IsGood r → length r.maps < 2147483647 → IsBornBelow entry r →
    IsGood (mapped_by len entry found r).root × IsBornBelow (entry + 1) (mapped_by len entry found r).root ×
    ((mapped_by len entry found r).root.turn ≡ r.turn)
mapped_good len entry None r good few old = (good, born_more entry (entry + 1) r (omega arith) old, refl)
mapped_good len entry (Some first) r good few old =
    let t = map_in first len entry in (
      record {
        ready = record { sound = mapped_sound t r good.ready.sound old; low = good.ready.low };
        settled = good.settled;
        ordered = record { spans = good.ordered.spans; supers = good.ordered.supers };
        supers = good.supers;
        maps = let p = length_push r.maps t in omega arith;
      },
      mapped_born t entry r (omega arith) old,
      refl,
    )

-- a direct map is made in a root
pub made_step : (first len entry : ℕ) (t : Title) (r after : Root) → IsGood r → length r.maps < 2147483647 → IsBornBelow entry r
    → t ≡ map_in first len entry → after ≡ mapped t r → IsAfterOpen entry r after
made_step first len entry t r after good few old is e =
    let (a, b, n) = mapped_good len entry (Some first) r good few old in
    subst (IsAfterOpen entry r) (sym (e ∙ ap (λ z. mapped z r) is))
    (record {
      good = a;
      step = record { turn = omega arith; rises = omega arith; entries = omega arith; one = omega arith; born = λ _. b };
    })

-- a direct map goes
length-without_map : (name : SlotName) (ts : List Title) → length (without_map name ts) ≤ length ts
length-without_map name [] = omega arith
length-without_map name (t ∷ ts) = elim (cases_Bool (is_named name t)) [
  | inl hit ↦ rw hit (omega arith)
  | inr miss ↦ rw miss (let ih = length-without_map name ts in omega arith)
]

pub record IsAfterUnmap (r after : Root) : Type 0 where
  pub good : IsGood after
  pub step : (n : ℕ) → IsStep n (n + 1) r after

pub unmapped_step : (name : SlotName) (r after : Root) → IsGood r → after ≡ unmapped name r → IsAfterUnmap r after
unmapped_step name r after good e =
    subst (IsAfterUnmap r) (sym e)
    (record {
      good = record {
        ready = record { sound = unmapped_sound name r good.ready.sound; low = good.ready.low };
        settled = good.settled;
        ordered = record { spans = good.ordered.spans; supers = good.ordered.supers };
        supers = good.supers;
        maps = let p = length-without_map name r.maps in let q = good.maps in omega arith;
      };
      step = λ n. record {
        turn = omega arith;
        rises = omega arith;
        entries = omega arith;
        one = omega arith;
        born = λ old. unmapped_born name n (n + 1) r (omega arith) old;
      };
    })
