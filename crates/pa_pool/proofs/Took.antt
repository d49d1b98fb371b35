-- A take: the pool's view after its entry, and after the super pages that it found are handed over.
use Rattle.std.proofs.Common.{◌≡◌, ℕ, ◌+◌, ◌<◌, ◌≤◌, List, [], ◌∷◌, ◌++◌, length, sym, ◌∙◌, ap, subst, arith, inl, inr, Some, None, eqb}
use Rattle.std.proofs.lemmas.Bool.{eq-eqb}
use Rattle.std.proofs.lemmas.Bool.Decides.{eqb_tells}
use Rattle.std.proofs.lemmas.List.Elements.{Contains-push_cases}
use Rattle.pa_slot.specs.Holdings.{one}
use Rattle.pa_record.specs.declared.taken.Taken.{Taken}
use Rattle.pa_record.specs.declared.pool.PoolEntry.{PoolEntry}
use Rattle.pa_record.specs.Pool.{IsFreeRun, IsLowest, took}
use Rattle.pa_record.specs.Numbers.{pool_numbers}
use Rattle.pa_region.specs.declared.view.Made.{Made}
use Rattle.pa_region.specs.declared.view.View.{View}
use Rattle.pa_region.specs.Views.{low_of}
use Rattle.pa_region.specs.Lists.{lease_of, list_of}
use Rattle.pa_region.specs.Hands.{IsParted, CanHand, left_after, given_after}
use Rattle.pa_region.specs.Aware.{IsAware}
use Rattle.pa_region.specs.Lending.{Keeps, HostsKeeper, IsNoted}
use Rattle.pa_pool.specs.Pools.{pool_after, IsByteOf, IsFreeByte, IsEntryOut, IsPoolSound, HasNoMore}
use Rattle.pa_pool.specs.Calls.{take_entry, run_parcel, HasRun, HasNoOther}
use Rattle.pa_pool.proofs.Runs.{counted, out_below, took_more, took_last}
use Rattle.pa_pool.proofs.RawBytes.{low_rises, left_raw, given_lease, given_keeper, no_title_kept, handed}
use Rattle.pa_pool.proofs.NextPool.{list_grows, next_pool}

-- an entry with these numbers is at the list's end, and the view kept what it has
pub record IsMadeBy (e : PoolEntry) (before after : View) (m : Made) : Type 0 where
  pub list : list_of 4 after ≡ list_of 4 before ++ m ∷ []
  pub says : m.numbers ≡ pool_numbers e
  pub keeps : Keeps before after
  pub hosts : HostsKeeper 4 after

pub made_by : (r : ℕ) (e : PoolEntry) (v w before after : View) (m : Made) → IsNoted r 4 (pool_numbers e) v w before after m →
    HostsKeeper 4 after → IsMadeBy e before after m
made_by r e v w before after m noted hosts = record { list = noted.list; says = noted.says; keeps = noted.hosts; hosts = hosts }

pub more_kept : (v w : View) → Keeps v w → HasNoMore v → HasNoMore w
more_kept v w k more = record {
  titles = no_title_kept v w k more.titles;
  budget = k.budget ∙ more.budget;
  keepers = λ n ne. k.keepers n ∙
      more.keepers n ne;
}

module _ (line partition count supers : ℕ) (es : List PoolEntry) (h w : View) (m : Made) where
  -- if it found none
  pub took_none : IsPoolSound supers es h → 1 ≤ count → IsLowest (pool_after es supers) count None →
      IsMadeBy (take_entry line partition count None) h w m →
      IsPoolSound supers (es ++ take_entry line partition count None ∷ []) w
  took_none sound some lowest made =
      next_pool supers es (take_entry line partition count None) w sound.few sound.pool (some, lowest)
      (list_grows es (take_entry line partition count None) (list_of 4 h) (list_of 4 w) m sound.list made.list made.says)
      made.hosts
      (record {
        raw = λ b free.
            let low = sound.raw b (record { inside = free.inside; free = free.free }) in
            let f = made.keeps.floors b (length es) in let r = low_rises w b (length es) (length es + 1) (omega arith) in omega arith;
        here = λ n none. let e = made.keeps.leases n in let l = sound.here n none in omega arith;
        out = λ n is. made.keeps.leases n ∙ sound.out n is;
      })
      (more_kept h w made.keeps sound.more)

  -- the bytes of a free run are free
  run_bytes : (first b : ℕ) → IsFreeRun (pool_after es supers) count first → IsByteOf first count b → IsFreeByte (pool_after es supers) b
  run_bytes first b run within = record {
    inside = let i = run.inside in let w1 = within.1 in omega arith;
    free = λ t among has.
        let h0 = has.0 in let h1 = has.1 in let w0 = within.0 in let w1 = within.1 in
        elim (run.free t among) [ inl before ↦ absurd (omega arith) | inr after ↦ absurd (omega arith) ];
  }

  low_here : (first b : ℕ) → IsPoolSound supers es h → IsFreeRun (pool_after es supers) count first → Keeps h w → IsByteOf first count b →
      0 < low_of w b (length es)
  low_here first b sound run keeps within = let low = sound.raw b (run_bytes first b run within) in let f = keeps.floors b (length es) in
      omega arith

  -- no run has the next entry yet
  next_lease : IsPoolSound supers es h → Keeps h w → 0 < lease_of w (length es)
  next_lease sound keeps =
      let l = sound.here (length es) (λ is. let z = out_below supers es (length es) sound.pool is in omega arith) in
      let e = keeps.leases (length es) in omega arith

  -- what a take found can be handed over
  pub can_part : (first : ℕ) → IsPoolSound supers es h → IsFreeRun (pool_after es supers) count first → Keeps h w →
      CanHand (run_parcel first count (length es)) w
  can_part first sound run keeps =
      handed.able first count (length es) (length es) w (λ b within. low_here first b sound run keeps within) (next_lease sound keeps)

  -- what is handed over, and what stays
  pub note_has : (first : ℕ) → IsPoolSound supers es h → IsFreeRun (pool_after es supers) count first → Keeps h w →
      HasRun first count (length es) (length es) (given_after (run_parcel first count (length es)) w) ×
      HasNoOther first count (given_after (run_parcel first count (length es)) w)
  note_has first sound run keeps = (
    handed.given first count (length es) (length es) w (λ b within. low_here first b sound run keeps within),
    handed.only first count (length es) w,
  )

  rest_hosts : (first : ℕ) → HostsKeeper 4 w →
      IsParted w (left_after (run_parcel first count (length es)) w) (given_after (run_parcel first count (length es)) w) →
      HostsKeeper 4 (left_after (run_parcel first count (length es)) w)
  rest_hosts first hosts parted =
      let u = parted.unclean in let z = hosts.0.1 in let k = parted.keepers 4 in let g = given_keeper first count (length es) 4 w in
      let has = hosts.1 in
      (((λ n. let p = parted.stakes n in let y = hosts.0.0 n in omega arith), omega arith), omega arith)

  -- the leases that are left
  rest_here : (first n : ℕ) → IsPoolSound supers es h → Keeps h w →
      IsParted w (left_after (run_parcel first count (length es)) w) (given_after (run_parcel first count (length es)) w) →
      (IsEntryOut (took count (Some first) (pool_after es supers)) n → ⊥) →
      0 < lease_of (left_after (run_parcel first count (length es)) w) n
  rest_here first n sound keeps parted none =
      let s = pool_after es supers in
      let c = counted supers es in
      let p = parted.leases n in
      let g = given_lease first count (length es) n w in
      let k = keeps.leases n in
      let l = sound.here n (λ is. none (is.0, took_more s.entries first count s.taken is.0 is.1, is.2)) in
      elim (eqb_tells (length es) n) [
        | inl y ↦ absurd (none (
          record { entry = s.entries; first = first; count = count },
          took_last s.entries first count s.taken,
          c ∙
              y.1,
        ))
        | inr ne ↦ let z : one (eqb (length es) n) ≡ 0 = ap one ne.0 in omega arith
      ]

  rest_out : (first n : ℕ) → IsPoolSound supers es h → Keeps h w → IsAware w →
      IsParted w (left_after (run_parcel first count (length es)) w) (given_after (run_parcel first count (length es)) w) →
      IsEntryOut (took count (Some first) (pool_after es supers)) n → lease_of (left_after (run_parcel first count (length es)) w) n ≡ 0
  rest_out first n sound keeps aware parted is =
      let s = pool_after es supers in
      let c = counted supers es in
      let p = parted.leases n in
      let k = keeps.leases n in
      elim (Contains-push_cases s.taken (record { entry = s.entries; first = first; count = count }) is.0 is.1) [
        | inl old ↦ let o = sound.out n (is.0, old, is.2) in omega arith
        | inr e ↦
            let here : length es ≡ n = sym c ∙ (ap (λ (t : Taken). t.entry) e ∙ is.2) in
            let g = given_lease first count (length es) n w in
            let z : one (eqb (length es) n) ≡ 1 = ap one (eq-eqb (length es) n here) in
            let o = aware.lease_once n in
            omega arith
      ]

  -- if it found some
  pub took_some : (first : ℕ) → IsPoolSound supers es h → 1 ≤ count → IsLowest (pool_after es supers) count (Some first) →
      IsMadeBy (take_entry line partition count (Some first)) h w m → IsAware w →
      IsParted w (left_after (run_parcel first count (length es)) w) (given_after (run_parcel first count (length es)) w) →
      IsPoolSound supers (es ++ take_entry line partition count (Some first) ∷ []) (left_after (run_parcel first count (length es)) w)
  took_some first sound some lowest made aware parted =
      let s = pool_after es supers in
      let left = left_after (run_parcel first count (length es)) w in
      next_pool supers es (take_entry line partition count (Some first)) left sound.few sound.pool (some, lowest)
      (list_grows es (take_entry line partition count (Some first)) (list_of 4 h) (list_of 4 left) m sound.list made.list made.says)
      (rest_hosts first made.hosts parted)
      (record {
        raw = λ b free.
            let out : IsByteOf first count b →
            ⊥ = λ within. free.free (record { entry = s.entries; first = first; count = count })
            (took_last s.entries first count s.taken) within in
            let low = sound.raw b (record {
              inside = free.inside;
              free = λ t among. free.free t (took_more s.entries first count s.taken t among);
            }) in
            let f = made.keeps.floors b (length es) in
            let e = left_raw first count (length es) (length es) b w parted out in
            let r = low_rises left b (length es) (length es + 1) (omega arith) in
            omega arith;
        here = λ n none. rest_here first n sound made.keeps parted none;
        out = λ n is. rest_out first n sound made.keeps aware parted is;
      })
      (record {
        titles = no_title_kept h w made.keeps sound.more.titles;
        budget = let b = made.keeps.budget in let z = sound.more.budget in omega arith;
        keepers = λ k ne.
            let p = parted.keepers k in let g = given_keeper first count (length es) k w in
            let a = made.keeps.keepers k in let z = sound.more.keepers k ne in omega arith;
      })

  -- what a take ensures, of the views that the call leaves
  pub take_ends : (first index : ℕ) (l g : View) → l ≡ left_after (run_parcel first count index) w →
      g ≡ given_after (run_parcel first count index) w → index ≡ length es → IsParted w l g →
      IsPoolSound supers es h → 1 ≤ count → IsLowest (pool_after es supers) count (Some first) →
      IsMadeBy (take_entry line partition count (Some first)) h w m → IsAware w →
      IsPoolSound supers (es ++ take_entry line partition count (Some first) ∷ []) l
      × (HasRun first count index index g × HasNoOther first count g) × (list_of 4 g ≡ list_of 4 l) × (list_of 4 l ≡ list_of 4 w)
  take_ends first index l g is_left is_given place parted sound some lowest made aware =
      let left = left_after (run_parcel first count (length es)) w in
      let given = given_after (run_parcel first count (length es)) w in
      let a : l ≡ left = is_left ∙ ap (λ n. left_after (run_parcel first count n) w) place in
      let b : g ≡ given = is_given ∙ ap (λ n. given_after (run_parcel first count n) w) place in
      let p : IsParted w left given = subst (λ x. IsParted w x given) a (subst (λ x. IsParted w l x) b parted) in
      let note = note_has first sound lowest.0 made.keeps in (
        subst (λ x. IsPoolSound supers (es ++ take_entry line partition count (Some first) ∷ []) x) (sym a)
            (took_some first sound some lowest made aware p),
        (
          subst (λ x. HasRun first count index index x) (sym b) (subst (λ n. HasRun first count n n given) (sym place) note.0),
          subst (λ x. HasNoOther first count x) (sym b) note.1,
        ),
        ap (list_of 4) b ∙ sym (ap (list_of 4) a),
        ap (list_of 4) a,
      )
