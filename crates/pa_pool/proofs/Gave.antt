-- A give: that its run was taken, and the pool's view after its entry.
use Rattle.std.proofs.Common.{◌≡◌, ℕ, ◌+◌, ◌<◌, List, [], ◌∷◌, ◌++◌, map, length, get_or, refl, sym, ◌∙◌, ap, subst, arith, ◌⊎◌, inl, inr, Some, None, Option, eqb}
use Rattle.std.specs.Prelude.{Contains, slice_get, option_map}
use Rattle.std.proofs.lemmas.Bool.{eq-eqb}
use Rattle.std.proofs.lemmas.Bool.Decides.{eqb_tells}
use Rattle.std.proofs.lemmas.List.{length-map}
use Rattle.std.proofs.lemmas.Option.{slice_get-map, slice_get-get_or, get_or_from_slice_get}
use Rattle.pa_slot.specs.Holdings.{FreeTitle, OwnOf, RefOf, one}
use Rattle.pa_record.specs.declared.taken.Taken.{Taken}
use Rattle.pa_record.specs.declared.pool.PoolEntry.{PoolEntry}
use Rattle.pa_record.specs.declared.pool.PoolAct.TheVariants.{Take}
use Rattle.pa_record.specs.Pool.{IsOneTake, IsPartitions, gave, FoundRun}
use Rattle.pa_record.specs.Numbers.{pool_numbers}
use Rattle.pa_lists.proofs.Members.{of_some, not_some}
use Rattle.pa_record.proofs.OneEntry.{one_pool}
use Rattle.pa_record.proofs.PoolSteps.{slice_get_more, without_keeps, act_of, without_in}
use Rattle.pa_region.specs.declared.view.Made.{Made}
use Rattle.pa_region.specs.declared.view.View.{View}
use Rattle.pa_region.specs.Views.{low_of, least_stake}
use Rattle.pa_region.specs.Lists.{lease_of, list_of, IsBeginning}
use Rattle.pa_region.specs.Hands.{IsParted, united}
use Rattle.pa_region.specs.Aware.{IsAware}
use Rattle.pa_region.specs.Lending.{Keeps, HostsKeeper, IsNoted}
use Rattle.pa_region.specs.Shares.{Share}
use Rattle.pa_region.proofs.TakeLaws.{left_whole}
use Rattle.pa_region.proofs.Pieces.{frees_have, owns_have, refs_have}
use Rattle.pa_pool.specs.Pools.{PoolValue, pool_after, IsByteOf, IsFreeByte, IsEntryOut, IsPoolSound, HasNoMore}
use Rattle.pa_pool.specs.Calls.{take_entry, give_entry, HasRun, HasSeenTake, ComesBack, IsAsBefore, IsGivenBack, SeenTakesStay}
use Rattle.pa_pool.proofs.Runs.{sound_state, out_cases, out_below, byte_cases, gave_entry, one_begins, found_one}
use Rattle.pa_pool.proofs.RawBytes.{low_rises}
use Rattle.pa_pool.proofs.NextPool.{list_grows, next_pool, entered, last_stands}
use Rattle.pa_pool.proofs.Took.{IsMadeBy, made_by, more_kept}

-- the lease is the note's, so it isn't the pool's: its run is taken
pub is_out : (supers taken : ℕ) (es : List PoolEntry) (h note u : View) → IsPoolSound supers es h → IsAware u → IsParted u h note →
    lease_of note taken ≡ one (eqb taken taken) →
    IsEntryOut (pool_after es supers) taken
is_out supers taken es h note u sound aware parted lease =
    let o = aware.lease_once taken in
    let p = parted.leases taken in
    let z : one (eqb taken taken) ≡ 1 = ap one (eq-eqb taken taken refl) in
    elim (out_cases (pool_after es supers) taken) [ inl is ↦ is | inr none ↦ let l = sound.here taken none in absurd (omega arith) ]

-- the entry of a run that is still taken is in the list, with what it found
pub out_found : (supers taken : ℕ) (es : List PoolEntry) (h : View) → IsPoolSound supers es h →
    (is : IsEntryOut (pool_after es supers) taken) → FoundRun es taken is.0.count is.0.first
out_found supers taken es h sound is =
    subst (λ (n : ℕ). FoundRun es n is.0.count is.0.first) is.2 ((sound_state supers es sound.pool).found is.0 is.1).1

pub out_take : (supers taken first count : ℕ) (es : List PoolEntry) (h : View) → IsPoolSound supers es h →
    (is : IsEntryOut (pool_after es supers) taken) → FoundRun es taken count first →
    IsOneTake (pool_after es supers) first count is.0
out_take supers taken first count es h sound is found =
    let same = found_one es taken is.0.count count is.0.first first (out_found supers taken es h sound is) found in
    record { among = is.1; begins = same.1; reaches = same.0 }

pub at_taken : (supers taken : ℕ) (es : List PoolEntry) (h : View) → IsPoolSound supers es h
    → (is : IsEntryOut (pool_after es supers) taken) → (e : PoolEntry) × (slice_get es taken ≡ Some e)
    × (e.act ≡ Take is.0.count (Some is.0.first))
at_taken supers taken es h sound is = act_of (slice_get es taken) (Take is.0.count (Some is.0.first)) (out_found supers taken es h sound is)

-- what is read at its place in the list is what it found
pub run_found : (supers taken first count : ℕ) (es : List PoolEntry) (h : View) (e : PoolEntry) → IsPoolSound supers es h →
    IsEntryOut (pool_after es supers) taken → e ≡ get_or es taken e →
    e.act ≡ Take count (Some first) → FoundRun es taken count first
run_found supers taken first count es h e sound is stands acts =
    let there = at_taken supers taken es h sound is in
    let same = stands ∙ get_or_from_slice_get es taken there.0 e there.1 in
    ap (option_map (λ (x : PoolEntry). x.act)) there.1 ∙ ap Some (sym (ap (λ (x : PoolEntry). x.act) same) ∙ acts)

-- an entry of a beginning is at its place, also if the list gets more
pub begun_at : (a b : List Made) (n : ℕ) (m : Made) → IsBeginning a b → slice_get a n ≡ Some m → slice_get b n ≡ Some m
begun_at a b n m begins at_n = ap (λ xs. slice_get xs n) begins.1 ∙ slice_get_more a begins.0 n m at_n

within_at : (a more : List Made) (n : ℕ) (m : Made) → n < length a → slice_get (a ++ more) n ≡ Some m → slice_get a n ≡ Some m
within_at a more n m below at_n =
    let here = slice_get-get_or a n m below in
    here ∙ (sym (slice_get_more a more n _ here) ∙ at_n)

-- what the caller has seen of the entry is what the list has
pub seen_entry : (supers taken partition first count : ℕ) (es : List PoolEntry) (h seat seat_now after : View) (m : Made)
    → IsPoolSound supers es h → taken < length es → HasSeenTake partition taken first count seat →
    IsBeginning (list_of 4 seat) (list_of 4 seat_now) → list_of 4 seat_now ≡ list_of 4 after → list_of 4 after ≡ list_of 4 h ++ m ∷ [] →
    (line : ℕ) × (slice_get es taken ≡ Some (take_entry line partition count (Some first)))
seen_entry supers taken partition first count es h seat seat_now after m sound below seen begins whole list =
    let long : length (list_of 4 h) ≡ length es = sym (length-map (list_of 4 h) (λ (x : Made). x.numbers)) ∙
    (ap length sound.list ∙ length-map es pool_numbers) in
    let there : slice_get (list_of 4 h ++ m ∷ []) taken ≡ Some seen.made =
    ap (λ xs. slice_get xs taken) (sym (whole ∙ list)) ∙
    begun_at (list_of 4 seat) (list_of 4 seat_now) taken seen.made begins seen.stands in
    let here = within_at (list_of 4 h) (m ∷ []) taken seen.made (omega arith) there in
    let numbers : slice_get (map pool_numbers es) taken ≡ Some seen.made.numbers =
    ap (λ xs. slice_get xs taken) (sym sound.list) ∙
    (slice_get-map (λ (x : Made). x.numbers) (list_of 4 h) taken ∙ ap (option_map (λ (x : Made). x.numbers)) here) in
    let e = entry_of (slice_get es taken) seen.made.numbers (sym (slice_get-map pool_numbers es taken) ∙ numbers) in
    (seen.line, e.1 ∙ ap Some (one_pool e.0 (take_entry seen.line partition count (Some first)) (e.2 ∙ seen.says)))
  where
    entry_of : (o : Option PoolEntry) (ns : List ℕ) → option_map pool_numbers o ≡ Some ns → (e : PoolEntry) × (o ≡ Some e) ×
        (pool_numbers e ≡ ns)
    entry_of None ns e = absurd (not_some ns e)
    entry_of (Some x) ns e = (x, refl, of_some (pool_numbers x) ns e)

-- two views, neither with more
pub more_joined : (u h note : View) (first count floor n : ℕ) → IsParted u h note → HasNoMore h → HasRun first count floor n note →
    HasNoMore u
more_joined u h note first count floor n parted more run = record {
  titles = λ t.
      let f = parted.things (FreeTitle t) in let o = parted.things (OwnOf t) in let r = parted.things (RefOf t) in
      let f0 = frees_have u t in let o0 = owns_have u t in let r0 = refs_have u t in
      let f1 = frees_have h t in let o1 = owns_have h t in let r1 = refs_have h t in
      let f2 = frees_have note t in let o2 = owns_have note t in let r2 = refs_have note t in
      let x = more.titles t in let y = run.titles t in
      omega arith;
  budget = let p = parted.budget in let x = more.budget in let y = run.budget in omega arith;
  keepers = λ k ne. let p = parted.keepers k in let x = more.keepers k ne in let y = run.keepers k in omega arith;
}

module _ (line partition supers taken first count : ℕ) (es : List PoolEntry) (h note u w : View) (m : Made) where
  -- a run that is taken, but for the one that comes back, is taken still
  still : (t : Taken) → IsPoolSound supers es h → (is : IsEntryOut (pool_after es supers) taken) → FoundRun es taken count first →
      Contains (pool_after es supers).taken t →
      (t ≡ is.0) ⊎ Contains (gave first (pool_after es supers)).taken t
  still t sound is found among =
      let take = out_take supers taken first count es h sound is found in
      elim (eqb_tells t.first first) [
        | inl y ↦ inl (one_begins es (pool_after es supers) is.0 t (sound_state supers es sound.pool) is.1 among (y.1 ∙ sym take.begins))
        | inr ne ↦ inr (without_keeps first (pool_after es supers).taken t among ne.1)
      ]

  -- what comes back is raw here again
  gave_raw : (b : ℕ) → IsPoolSound supers es h → IsParted u h note → HasRun first count (taken + 1) taken note
      → (is : IsEntryOut (pool_after es supers) taken) → FoundRun es taken count first → Keeps u w →
      IsFreeByte (gave first (pool_after es supers)) b → 0 < low_of w b (length es + 1)
  gave_raw b sound parted run is found keeps free = elim (byte_cases first count b) [
    | inl within ↦
        let low = run.raw b within in let p = parted.floors b (taken + 1) in let k = keeps.floors b (taken + 1) in
        let below = out_below supers es taken sound.pool is in
        let r = low_rises w b (taken + 1) (length es + 1) (omega arith) in
        omega arith
    | inr out ↦
        let low = sound.raw b (record { inside = free.inside; free = λ t among has. beside t has out (still t sound is found among) }) in
        let p = parted.floors b (length es) in let k = keeps.floors b (length es) in
        let r = low_rises w b (length es) (length es + 1) (omega arith) in
        omega arith
  ]
    where
      beside : (t : Taken) → IsByteOf t.first t.count b → (IsByteOf first count b → ⊥) → (t ≡ is.0) ⊎
          Contains (gave first (pool_after es supers)).taken t → ⊥
      beside t has out (inl e) =
          let take = out_take supers taken first count es h sound is found in
          out (subst (λ n. IsByteOf first n b) (ap (λ (z : Taken). z.count) e ∙ take.reaches)
          (subst (λ n. IsByteOf n t.count b) (ap (λ (z : Taken). z.first) e ∙ take.begins) has))
      beside t has out (inr left) = free.free t left has

  gave_here : (n : ℕ) → IsPoolSound supers es h → IsParted u h note → HasRun first count (taken + 1) taken note
      → (is : IsEntryOut (pool_after es supers) taken) → FoundRun es taken count first → Keeps u w →
      (IsEntryOut (gave first (pool_after es supers)) n → ⊥) → 0 < lease_of w n
  gave_here n sound parted run is found keeps none =
      let p = parted.leases n in let k = keeps.leases n in let l = run.leases n in
      elim (eqb_tells taken n) [
        | inl y ↦ let z : one (eqb taken n) ≡ 1 = ap one y.0 in omega arith
        | inr ne ↦
            let mine = sound.here n (λ o. elim (still o.0 sound is found o.1) [
              | inl e ↦ ne.1 (sym is.2 ∙ (ap (λ (z : Taken). z.entry) (sym e) ∙ o.2))
              | inr left ↦ none (o.0, left, o.2)
            ]) in
            omega arith
      ]

  gave_out : (n : ℕ) → IsPoolSound supers es h → IsParted u h note → HasRun first count (taken + 1) taken note
      → (is : IsEntryOut (pool_after es supers) taken) → FoundRun es taken count first → Keeps u w →
      IsEntryOut (gave first (pool_after es supers)) n → lease_of w n ≡ 0
  gave_out n sound parted run is found keeps o =
      let take = out_take supers taken first count es h sound is found in
      let p = parted.leases n in let k = keeps.leases n in let l = run.leases n in
      let z = sound.out n (o.0, without_in first (pool_after es supers).taken o.0 o.1, o.2) in
      elim (eqb_tells taken n) [
        | inl y ↦ absurd (gave_entry es (pool_after es supers) is.0 o.0 (sound_state supers es sound.pool) is.1
            (subst (λ f. Contains (gave f (pool_after es supers)).taken o.0) (sym take.begins) o.1) (o.2 ∙ (sym y.1 ∙ sym is.2)))
        | inr ne ↦ let e : one (eqb taken n) ≡ 0 = ap one ne.0 in omega arith
      ]

  pub gave_sound : IsPoolSound supers es h → IsParted u h note → HasRun first count (taken + 1) taken note →
      (is : IsEntryOut (pool_after es supers) taken) → FoundRun es taken count first →
      IsPartitions es partition is.0 → list_of 4 u ≡ list_of 4 h → IsMadeBy (give_entry line partition count first) u w m →
      IsPoolSound supers (es ++ give_entry line partition count first ∷ []) w
  gave_sound sound parted run is found owned same made =
      next_pool supers es (give_entry line partition count first) w sound.few sound.pool
      (is.0, out_take supers taken first count es h sound is found, owned)
      (list_grows es (give_entry line partition count first) (list_of 4 h) (list_of 4 w) m sound.list
      (made.list ∙ ap (λ xs. xs ++ m ∷ []) same) made.says)
      made.hosts
      (record {
        raw = λ b free. gave_raw b sound parted run is found made.keeps free;
        here = λ n none. gave_here n sound parted run is found made.keeps none;
        out = λ n o. gave_out n sound parted run is found made.keeps o;
      })
      (more_kept u w made.keeps (more_joined u h note first count (taken + 1) taken parted sound.more run))

-- Of the note that comes back, and of what the caller has seen: the entry is the next one, and what was found is what the
-- caller has seen.
pub give_ends : (line partition supers taken first count from of r : ℕ) (es : List PoolEntry) (h note u w seat seat_now : View) (m : Made)
    → IsPoolSound supers es h → IsAware h → IsAware u → u ≡ united h note →
    IsParted u h note → ComesBack partition taken from of seat note → FoundRun es taken count first
    → IsNoted r 4 (pool_numbers (give_entry line partition count first)) seat seat_now u w m → HostsKeeper 4 w →
    IsPoolSound supers (es ++ give_entry line partition count first ∷ []) w × (list_of 4 u ≡ list_of 4 h) × ((of ≡ count) × (from ≡ first))
give_ends line partition supers taken first count from of r es h note u w seat seat_now m sound aware both joined parted back found noted
    hosts =
    let out = is_out supers taken es h note u sound both parted (back.run.leases taken) in
    let same : list_of 4 u ≡ list_of 4 h = ap (list_of 4) joined ∙
    left_whole h note 4 aware (subst (λ x. IsAware x) joined both) sound.hosts.1 in
    let seen = seen_entry supers taken partition from of es h seat seat_now w m sound (out_below supers es taken sound.pool out) back.seen
    (noted.lends.keeps.lists 4) noted.whole
    (noted.list ∙ ap (λ ms. ms ++ m ∷ []) same) in
    let one = found_one es taken of count from first (ap (option_map (λ (e : PoolEntry). e.act)) seen.1) found in
    let run = subst (λ n. HasRun first n (taken + 1) taken note) one.0 (subst (λ n. HasRun n of (taken + 1) taken note) one.1 back.run) in
    let owned : IsPartitions es partition out.0 =
    (take_entry seen.0 partition of (Some from), ap (λ n. slice_get es n) out.2 ∙ seen.1, refl) in (
      gave_sound line partition supers taken first count es h note u w m sound parted run out found owned same
          (made_by r (give_entry line partition count first) seat seat_now u w m noted hosts),
      same,
      one,
    )

-- what the call that gives ensures
pub given_so : (line partition taken first count from of index : ℕ) (u : View) (a b host : Share) (p q z : PoolValue) (m : Made) →
    IsAsBefore p q → index ≡ length q.entries →
    FoundRun q.entries taken count first → of ≡ count → from ≡ first →
    IsNoted (least_stake a.view.stakes) 4 (pool_numbers (give_entry line partition count first)) a.view b.view u host.view m →
    list_of 4 u ≡ list_of 4 q.view → z.entries ≡ q.entries ++ give_entry line partition count first ∷ [] → z.supers ≡ q.supers →
    list_of 4 z.view ≡ list_of 4 host.view →
    IsGivenBack line partition taken from of index a b p z
given_so line partition taken first count from of index u a b host p q z m same place found is_count is_first noted stays grown supers
    list =
    subst (λ n. IsGivenBack line partition taken n of index a b p z) (sym is_first)
    (subst (λ n. IsGivenBack line partition taken first n index a b p z) (sym is_count) (record {
      place = place ∙ ap length same.entries;
      found = subst (λ es. FoundRun es taken count first) same.entries found;
      entered = (
        m,
        entered (least_stake a.view.stakes)
            (give_entry line partition count first) a.view b.view u host.view p q z m same noted stays grown supers list,
      );
      stands = last_stands q.entries z.entries (give_entry line partition count first) index grown place;
    }))

-- what was seen of the list is seen still
pub seen_stays : SeenTakesStay
seen_stays partition taken first count v w begins seen = record {
  line = seen.line;
  made = seen.made;
  stands = begun_at (list_of 4 v) (list_of 4 w) taken seen.made begins seen.stands;
  says = seen.says;
}
