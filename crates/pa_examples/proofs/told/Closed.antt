-- The worked run of two threads is closed: its seat is as required, so the words at the end hold the run.
use Rattle.std.proofs.Common.{◌≡◌, ℕ, zero, suc, ◌<◌, List, [], ◌∷◌, map, refl, sym, ◌∙◌, ap, subst, arith, inl, inr}
use Rattle.std.proofs.lemmas.Bool.{cases_eq}
use Rattle.pa_slot.specs.declared.title.Title.{Title}
use Rattle.pa_slot.specs.declared.word.SlotName.{SlotName}
use Rattle.pa_buckets.specs.Table.{rows, row_of, slot_of, pages_of, slots_of}
use Rattle.pa_buckets.specs.Bands.{fill_of}
use Rattle.pa_record.specs.declared.entry.Answer.{Answer}
use Rattle.pa_record.specs.declared.entry.Answer.TheVariants as answers
use Rattle.pa_record.specs.declared.root.RootEntry.{RootEntry}
use Rattle.pa_record.specs.declared.root.RootAct.TheVariants.{Map}
use Rattle.pa_record.specs.Root.{new_root, root_replayed}
use Rattle.pa_record.specs.Sound.{IsMade, IsMadeBy}
use Rattle.pa_record.specs.Spans.{name_of}
use Rattle.pa_lists.proofs.Members.{not_in_none}
use Rattle.pa_rules.specs.Caches.{no_caches}
use Rattle.pa_rules.specs.Report.{until}
use Rattle.pa_rules.proofs.Known.{IsKnown, all_known}
use Rattle.pa_slot.specs.Titles.{poison}
use Rattle.pa_examples.specs.Worked.{seen_at, two_threads_trace, two_threads_records, two_threads_journal, two_threads_pool}
use Rattle.pa_examples.proofs.worked.OneFill.{roots}
use Rattle.pa_examples.proofs.worked.ThreadsHeld.{rooted, pooled, after_3, cached_3}
use Rattle.pa_logs.specs.Told.{ToldRecord}
use Rattle.pa_logs.specs.Touches.{title_of}
use Rattle.pa_logs.specs.Said.{sizes_in}
use Rattle.pa_logs.specs.Standing.{OnlyUnmapsUncut, ListedIsFree}
use Rattle.pa_logs.proofs.Filters.{only_one}
use Rattle.pa_logs.proofs.Homing.{has_title}
use Rattle.pa_logs.proofs.Sizing.{lengths_follow}
use Rattle.pa_examples.specs.told.Worked.{Worked}
use Rattle.pa_examples.specs.told.Threads.{the_fill}
use Rattle.pa_examples.specs.told.OtherReads.{reading_so}
use Rattle.pa_examples.specs.told.AllSaid.{span_slots, last_words, seat_last, told_with, SaysWith, ClosesWith, ThreadsClose}
use Rattle.pa_examples.proofs.told.AllSaid.{ReadFits, says, lists_are, poison_fits, content_fits, freed_fits}
use Rattle.pa_examples.proofs.told.ClosedBy.{closed_by}
use Rattle.pa_examples.proofs.told.ClosingSeat.{KnowsLast, is_end}
use Rattle.pa_examples.proofs.told.FreeSlots.{times_in, shape_of, made_free}
use Rattle.pa_examples.proofs.told.Played.{so_read, caches_until}
use Rattle.pa_examples.proofs.told.Uncuts.{unmaps_none, only_unmaps}

-- ---- the slots of the journal

spans_are : map shape_of (root_replayed two_threads_pool two_threads_journal new_root).spans ≡ (16384, 0, 0, 256) ∷ []
unfolding rows row_of slot_of pages_of slots_of fill_of
spans_are = refl

made_by_root : (u : Title) → IsMade (root_replayed two_threads_pool two_threads_journal new_root) u → 0 < times_in (span_slots 256) u
made_by_root u made = made_free (root_replayed two_threads_pool two_threads_journal new_root) spans_are u made

-- the journal makes no direct map
not_map : (asked len : ℕ) (slot : SlotName) → the_fill.act ≡ Map asked slot len → ⊥
not_map asked len slot e = cc

made_by_free : (u : Title) → IsMadeBy two_threads_pool (roots 0) u → 0 < times_in (span_slots 256) u
made_by_free u (inl made) = made_by_root u made
made_by_free u (inr (e, asked, len, slot, among, act, is)) =
    absurd (not_map asked len slot (ap (λ (z : RootEntry). z.act) (only_one the_fill e among) ∙ act))

-- the slots of the threads' lists are of their lists' classes
known_at : (k : ℕ) → k < 2 → IsKnown roots (caches_until 3 k)
known_at k few = elim (cases_eq 0 k) [
  | inl e ↦ subst (λ n. IsKnown roots (caches_until 3 n)) e
      (all_known 1 roots (until 3 two_threads_records) no_caches after_3 none cached_3 0)
  | inr n0 ↦ elim (cases_eq 1 k) [
    | inl e ↦ subst (λ n. IsKnown roots (caches_until 3 n)) e
        (all_known 1 roots (until 3 two_threads_records) no_caches after_3 none cached_3 1)
    | inr n1 ↦ absurd (omega arith)
  ]
]
  where
    none : (t : ℕ) → IsKnown roots (no_caches t)
    none t q c n among = absurd (not_in_none n among)

-- ---- the close

module _ (answer : Answer) (word value after : ℕ) (last : KnowsLast (reading_so (so_read answer word value after))) where
  abbrev so : Worked
  so = so_read answer word value after

  abbrev ts : List ToldRecord
  ts = reading_so so

  abbrev sizes : SlotName → ℕ
  sizes = sizes_in two_threads_trace (told_with so)

  unmaps : OnlyUnmapsUncut ts
  unmaps = only_unmaps ts (
    unmaps_none _ refl,
    (
      unmaps_none _ refl,
      (
        unmaps_none _ refl,
        (
          unmaps_none _ refl,
          (unmaps_none _ refl, (unmaps_none _ refl, (unmaps_none _ refl, (unmaps_none _ refl, tt)))),
        ),
      ),
    ),
  )

  listed : ListedIsFree 2 1 sizes (caches_until 3) (seat_last so)
  listed k p class m few one real among =
      let of = known_at k few p class m among in
      let home : p ≡ 0 = omega arith in
      let (t, by, name) = has_title 1 1 two_threads_records two_threads_pool roots rooted pooled p (slot_of class) m.slot
      (inl (class, of, refl)) in
      let here : IsMadeBy two_threads_pool (roots 0) t = subst (λ n. IsMadeBy two_threads_pool (roots n) t) home by in
      let long : sizes (name_of t) ≡ t.len = lengths_follow.made 1 1 0 two_threads_records two_threads_pool roots t rooted pooled here in
      let titled : t ≡ title_of sizes (name_of t) = ap (λ (n : ℕ). record { start = t.start; len = n; born = t.born }) (sym long) in
      subst (λ (s : SlotName). 0 < times_in (span_slots 256) (title_of sizes s)) name
      (subst (λ u. 0 < times_in (span_slots 256) u) titled (made_by_free t here))

  made_there : (p : ℕ) (u : Title) → IsMade (root_replayed two_threads_pool (roots p) new_root) u → 0 < times_in (span_slots 256) u
  made_there zero u made = made_by_root u made
  made_there (suc p) u (s, among, number, below, is) = absurd (not_in_none s among)

  pub closes_with : (says : SaysWith so) → says.lists.lists ≡ caches_until → ClosesWith so
  closes_with says are = closed_by two_threads_trace (told_with so) (seat_last so) ts last_words says.layers says.lists
      (subst (λ lists. ListedIsFree 2 1 sizes (lists 3) (seat_last so)) (sym are) listed) unmaps
      (λ p u made stays. made_there p u made) refl (is_end answer word value after last)

with_fits : (answer : Answer) (word value after : ℕ)
    (fits : ReadFits answer word value after (reading_so (so_read answer word value after))) → ClosesWith (so_read answer word value after)
with_fits answer word value after fits =
    closes_with answer word value after fits.last (says answer word value after fits) (lists_are answer word value after fits)

pub threads_close : ThreadsClose
threads_close = record {
  poison = with_fits (answers.Value (seen_at 16384 0 0x2000003) poison) 0x2000003 poison 2 poison_fits;
  content = with_fits (answers.Value (seen_at 16384 0 0x2000003) 0) 0x2000003 0 2 content_fits;
  freed = with_fits (answers.Dangling (seen_at 16384 0 0x3000002) poison) 0x3000002 poison 3 freed_fits;
}
