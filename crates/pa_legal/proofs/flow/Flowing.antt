-- A run's caches give what the laws above need of how slots flow.
use Rattle.std.proofs.Common.{◌≡◌, ℕ, ◌+◌, ◌<◌, ◌≤◌, List, ◌++◌, refl, subst, arith}
use Rattle.std.specs.Prelude.{Contains}
use Rattle.pa_slot.specs.declared.word.SlotName.{SlotName}
use Rattle.pa_record.specs.declared.pool.PoolEntry.{PoolEntry}
use Rattle.pa_record.specs.Root.{IsJournal}
use Rattle.pa_lists.proofs.Members.{not_in_none}
use Rattle.pa_rules.specs.declared.played.Played.{Played}
use Rattle.pa_rules.specs.Roots.{Journals}
use Rattle.pa_rules.specs.Caches.{CachesTo, no_caches, AreCaches}
use Rattle.pa_rules.specs.Flow.{IsOnlyOf}
use Rattle.pa_legal.specs.Turns.{is_out}
use Rattle.pa_legal.specs.Flows.{IsNewMap, UnmapsNext, is_back, issues_at, returns_at, moves_on, over, CachesFlow}
use Rattle.pa_legal.proofs.flow.Counts.{listed_none}
use Rattle.pa_legal.proofs.flow.Cuts.{caches_cut}
use Rattle.pa_legal.proofs.flow.Threads.{all_flow}
use Rattle.pa_legal.proofs.holders.Records.{made_for, unmap_returns}

-- in the first records no thread issued the slot and gave it back more often than it took it out and returned it
front_flows : (partitions : ℕ) (ps : List Played) (pools : List PoolEntry) (roots : Journals) → ((q : ℕ) → IsJournal pools (roots q)) →
    AreCaches partitions roots ps → (t p k : ℕ) (s : SlotName) (xs ys : List Played) → ps ≡ xs ++ ys → p < partitions →
    IsOnlyOf roots p s → ((x : Played) → Contains xs x → IsNewMap roots x × UnmapsNext roots x) →
    over t (issues_at s k) xs + over t (moves_on is_back s k roots p) xs
    ≤ over t (moves_on is_out s k roots p) xs + over t (returns_at s k) xs
front_flows partitions ps pools roots journals (last, to) t p k s xs ys parts below own each =
    let (mid, front, back) =
    caches_cut partitions roots no_caches xs ys last (subst (λ zs. CachesTo partitions roots no_caches zs last) parts to) in
    let all = all_flow partitions pools roots s k p t journals own below xs no_caches mid each
    (λ u q c n among. absurd (not_in_none n among)) front in
    let start = listed_none s k (no_caches t p) 0 170 (λ c. refl) in
    omega arith

pub caches_flow : CachesFlow
caches_flow partitions ps pools roots journals caches = record {
  made = λ x seen usable among is. made_for partitions roots ps x seen usable caches among is;
  maps = λ x e p asked slot below among member line is.
      unmap_returns partitions roots ps x e p asked slot caches below among member line is;
  flow = front_flows partitions ps pools roots journals caches;
}
