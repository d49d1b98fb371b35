-- The direct maps of the worked run: its pool and journal.
use Rattle.std.proofs.Common.{◌≡◌, [], ◌∷◌, None, refl, subst, inl, inr, lit<, lit≤}
use Rattle.std.specs.List.{AllByRecursion}
use Rattle.pa_trace.specs.declared.script.Op.TheVariants as ops
use Rattle.pa_rules.specs.Sizes.{IsMapSize}
use Rattle.pa_record.specs.declared.entry.Answer.TheVariants as answers
use Rattle.pa_record.specs.declared.root.RootEntry.{RootEntry}
use Rattle.pa_record.specs.Worked.{direct_map_again_pool, direct_map_again_journal}
use Rattle.pa_record.proofs.Worked.{direct_map_again}
use Rattle.pa_rules.specs.Roots.{Journals, journal_at, IsEntry, IsFull, AreRoots, IsPoolOf, AreAllTitles}
use Rattle.pa_rules.proofs.Following.{titles_follow}
use Rattle.pa_examples.specs.Worked.{direct_map_trace, direct_map_records, of_one}
use Rattle.pa_examples.proofs.worked.Lists.{each}
use Rattle.pa_examples.proofs.worked.Pool.{pool_of_one}
use Rattle.pa_examples.proofs.worked.OneJournal.{IsMade, IsRefused, roots_by}
use Rattle.pa_examples.proofs.worked.Maps.{follow, lines}

abbrev pub roots : Journals
roots = journal_at (direct_map_again_journal ∷ [])

-- a request of that size is for a direct map
pub direct : IsMapSize 1 2000000
direct = (lit< tt, lit≤ tt)

made : AllByRecursion (IsMade direct_map_records direct_map_again_pool) direct_map_again_journal
made = (
  (_, ((0, lit< tt, refl), refl), (2000000, (0, refl, direct), refl)),
  (
    (_, ((1, lit< tt, refl), refl), inl (0, refl)),
    (
      (_, ((2, lit< tt, refl), refl), (2000000, (0, refl, direct), refl)),
      (
        (_, ((5, lit< tt, refl), refl), (2000000, (2, refl, direct), refl)),
        (
          (_, ((6, lit< tt, refl), refl), inr (1, refl)),
          ((_, ((7, lit< tt, refl), refl), (2000000, (2, refl, direct), refl)), tt),
        ),
      ),
    ),
  ),
)

-- only the third allocation was refused
third : IsRefused direct_map_again_journal
    (record of_one { line = 7; thread = 0; phase = 1; op = ops.Alloc 2 0 2000000; answer = answers.Full 3 })
third j reg p size a b =
    let here : 3 ≡ j = cc in
    let there : 0 ≡ p = cc in
    subst (λ k. (e : RootEntry) × IsEntry roots p k e × (e.line ≡ 7) × IsFull e.act) here
    (subst (λ q. (e : RootEntry) × IsEntry roots q 3 e × (e.line ≡ 7) × IsFull e.act) there (_, refl, refl, (None, 3, refl)))

refused : AllByRecursion (IsRefused direct_map_again_journal) direct_map_records
refused = (
  λ j reg p size a b. absurd cc,
  (
    λ j reg p size a b. absurd cc,
    (
      λ j reg p size a b. absurd cc,
      (
        λ j reg p size a b. absurd cc,
        (
          λ j reg p size a b. absurd cc,
          (
            third,
            (
              λ j reg p size a b. absurd cc,
              (λ j reg p size a b. absurd cc, tt),
            ),
          ),
        ),
      ),
    ),
  ),
)

pub rooted : AreRoots 1 direct_map_records direct_map_again_pool roots
rooted =
    roots_by direct_map_records direct_map_again_pool direct_map_again_journal direct_map_trace lines direct_map_again.is_journal made
    follow refl
    (each (IsRefused direct_map_again_journal) direct_map_records refused)

pub pooled : IsPoolOf 1 direct_map_records direct_map_again_pool roots
pooled = pool_of_one 1 direct_map_records direct_map_again_pool direct_map_again_journal direct_map_again.is_pool follow refl refl refl

pub titled : AreAllTitles direct_map_again_pool roots
titled = titles_follow.titles 1 1 direct_map_records direct_map_again_pool roots rooted pooled
