-- Where titles lie: they are of whole words, long enough, and inside the region.
use Rattle.std.proofs.Common.{◌≡◌, ℕ, ◌+◌, ◌*◌, ◌%◌, ◌≤◌, sym, subst, arith, inl, inr}
use Rattle.pa_slot.specs.declared.title.Title.{Title}
use Rattle.pa_layout.specs.Pages.{supers_for}
use Rattle.pa_buckets.specs.Table.{slot_of}
use Rattle.pa_buckets.proofs.Facts.{IsRow-of}
use Rattle.pa_record.specs.Pool.{FoundRun}
use Rattle.pa_record.specs.Spans.{Span, title_at}
use Rattle.pa_record.specs.Sound.{IsMade, IsMadeBy}
use Rattle.pa_record.proofs.PoolSteps.{pool_is_sound}
use Rattle.pa_record.proofs.Lawful.{journal_leaves}
use Rattle.pa_heap_effects.proofs.Runs.{run_of, taken_or_given}
use Rattle.pa_one_run.specs.Parts.{Parts}
use Rattle.pa_one_run.specs.Before.{root_at}
use Rattle.pa_one_run.proofs.Filed.{IsFiled}
use Rattle.pa_one_run.proofs.roots.Replays.{front_journal}
use Rattle.pa_lists.proofs.Tests.{times_whole}

-- a title of whole words and at least two of them, which ends by a byte
pub record LiesIn (bytes : ℕ) (t : Title) : Type 0 where
  pub start_aligned : t.start % 8 ≡ 0
  pub len_aligned : t.len % 8 ≡ 0
  pub long : 16 ≤ t.len
  pub inside : t.start + t.len ≤ bytes

at_whole : (bytes : ℕ) (s : Span) (n : ℕ) → s.place % 8 ≡ 0 → slot_of s.class % 8 ≡ 0 → 16 ≤ slot_of s.class →
    (title_at s n).start + (title_at s n).len ≤ bytes → LiesIn bytes (title_at s n)
at_whole bytes s n place slot long inside =
    let start = times_whole (slot_of s.class) n slot in
    record { start_aligned = omega arith; len_aligned = slot; long = long; inside = inside }

-- super pages that the pool found are in the region
found_inside : (a : Parts) (j count first : ℕ) → IsFiled a → FoundRun a.pools j count first → first + count ≤ a.supers
found_inside a j count first h found = elim (taken_or_given a.supers a.pools j count first h.pool.fits found) [
  | inl taken ↦
      let sound = pool_is_sound.sound a.supers a.pools h.pool.fits in
      let all = pool_is_sound.supers a.supers a.pools in
      let low = sound.inside (run_of j first count) taken in
      omega arith
  | inr (k, e, before, after, w) ↦
      let sound = pool_is_sound.sound a.supers before w.when.fits in
      let all = pool_is_sound.supers a.supers before in
      let low = sound.inside (run_of j first count) w.there in
      omega arith
]

module _ (a : Parts) (h : IsFiled a) (p : ℕ) where
  pub ends_inside : (t : Title) → IsMadeBy a.pools (a.roots p) t → t.start + t.len ≤ 2097152 * a.supers
  ends_inside t made = elim ((journal_leaves a.pools (a.roots p) (h.journals.journals p)).titles.lie t made) [
    | inl (first, found, low, high) ↦ let most = found_inside a t.born 1 first h found in omega arith
    | inr (first, mapped) ↦
        let most = found_inside a t.born (supers_for t.len) first h mapped.taken in
        let guard = mapped.guard in
        omega arith
  ]

  -- a slot lies so
  pub slot_lies : (n : ℕ) (t : Title) → IsMade (root_at a n p) t → t.start + t.len ≤ 2097152 * a.supers → LiesIn (2097152 * a.supers) t
  slot_lies n t (s, among, number, below, is) inside =
      let sound = (journal_leaves a.pools _ (front_journal a n p h)).sound in
      let (at, page, placed) = sound.placed s among in
      let row = IsRow-of s.class (sound.spans s among).counted.class in
      let place = placed.place in
      let sixteen = row.sixteens in
      let end = subst (λ (u : Title). u.start + u.len ≤ 2097152 * a.supers) is inside in
      subst (λ u. LiesIn (2097152 * a.supers) u) (sym is)
      (at_whole (2097152 * a.supers) s number (omega arith) (omega arith) row.least_slot end)
