-- What a root's seat has seen of lists: the pool's entries, and its own journal.
use Rattle.std.proofs.Common.{◌≡◌, ℕ, ◌<◌, List, [], ◌∷◌, ◌++◌, Some, None, map, refl, sym, ◌∙◌, ap, subst}
use Rattle.std.proofs.lemmas.List.{map-append}
use Rattle.pa_region.specs.declared.view.Made.{Made}
use Rattle.pa_region.specs.declared.view.View.{View}
use Rattle.pa_region.specs.Lists.{list_of, IsBeginning}
use Rattle.pa_region.specs.Lending.{HostsKeeper, Keeps}
use Rattle.pa_region.proofs.LendBack.{hosts_again}
use Rattle.pa_record.specs.declared.pool.PoolEntry.{PoolEntry}
use Rattle.pa_record.specs.declared.pool.PoolAct.{PoolAct}
use Rattle.pa_record.specs.declared.pool.PoolAct.TheVariants.{Take, Give}
use Rattle.pa_record.specs.declared.root.RootEntry.{RootEntry}
use Rattle.pa_record.specs.Numbers.{root_numbers, pool_numbers, pool_act_numbers}
use Rattle.pa_record.specs.Root.{new_root, root_next, root_replayed, IsJournal, RootActFits}
use Rattle.pa_record.proofs.Lawful.{journal_grows}
use Rattle.pa_root.specs.Reading.{pool_act_read, pool_entry_read, pools_read, pools_seen}
use Rattle.pa_root.specs.Keeping.{RootState, HasJournal}
use Rattle.pa_root.specs.Laws.{PoolsAreRead, JournalsFitPool, with_view, after_entry, HasEntryMore, FitsNext}

-- ---- the pool's entries

act_read : (a : PoolAct) → pool_act_read (pool_act_numbers a) ≡ a
act_read (Take count None) = refl
act_read (Take count (Some first)) = refl
act_read (Give count first) = refl

entry_read : (e : PoolEntry) → pool_entry_read (pool_numbers e) ≡ e
entry_read e = ap (λ a. let x : PoolEntry = record { line = e.line; partition = e.partition; act = a } in x) (act_read e.act)

read_again : (pools : List PoolEntry) → map pool_entry_read (map pool_numbers pools) ≡ pools
read_again [] = refl
read_again (e ∷ es) = ap (λ x. x ∷ map pool_entry_read (map pool_numbers es)) (entry_read e) ∙ ap (λ xs. e ∷ xs) (read_again es)

read_by_numbers : (list : List Made) → pools_read list ≡ map pool_entry_read (map (λ (m : Made). m.numbers) list)
read_by_numbers [] = refl
read_by_numbers (m ∷ ms) = ap (λ xs. pool_entry_read m.numbers ∷ xs) (read_by_numbers ms)

pub pools_are_read : PoolsAreRead
pools_are_read = record {
  entry = entry_read;
  list = λ list pools same. read_by_numbers list ∙ ap (map pool_entry_read) same ∙ read_again pools;
}

-- a view that has seen more of the pool's list has seen more of its entries
pub pools_more : (v x : View) → IsBeginning (list_of 4 v) (list_of 4 x) → (rest : List PoolEntry) × (pools_seen x ≡ pools_seen v ++ rest)
pools_more v x (rest, e) = (pools_read rest, ap pools_read e ∙ map-append (λ (m : Made). pool_entry_read m.numbers) (list_of 4 v) rest)

-- a journal goes on fitting, and replays to the same
pub fits_more : (v x : View) (journal : List RootEntry) → IsBeginning (list_of 4 v) (list_of 4 x) → IsJournal (pools_seen v) journal →
    IsJournal (pools_seen x) journal × (root_replayed (pools_seen x) journal new_root ≡ root_replayed (pools_seen v) journal new_root)
fits_more v x journal begins fits =
    let (rest, e) = pools_more v x begins in (
      subst (λ pools. IsJournal pools journal) (sym e) (journal_grows.pool_more (pools_seen v) rest journal fits),
      ap (λ pools. root_replayed pools journal new_root) e ∙ journal_grows.pool_same (pools_seen v) rest journal fits,
    )

-- ---- its own journal

pub hosts_kept : (p : ℕ) (v x : View) → Keeps v x → HostsKeeper p v → HostsKeeper p x
hosts_kept p v x keeps (can, has) = (hosts_again v x keeps can, subst (λ n. 0 < n) (sym (keeps.keepers p)) has)

-- nothing was entered
pub journal_stays : (p : ℕ) (s : RootState) (x : View) → HasJournal p s → HostsKeeper p x → IsBeginning (list_of 4 s.view) (list_of 4 x) →
    list_of p x ≡ list_of p s.view → HasJournal p (with_view x s)
journal_stays p s x has hosts begins same =
    let f = fits_more s.view x s.journal begins has.fits in
    record {
      partition = has.partition;
      hosts = hosts;
      listed = ap (map (λ (m : Made). m.numbers)) same ∙ has.listed;
      fits = f.0;
      replayed = has.replayed ∙ sym f.1;
    }

-- an entry that fits was entered
pub journal_goes_on : (p : ℕ) (s : RootState) (x : View) (e : RootEntry) → HasJournal p s → HostsKeeper p x →
    IsBeginning (list_of 4 s.view) (list_of 4 x) →
    HasEntryMore p e s.view x → FitsNext e s x → HasJournal p (after_entry x e s)
journal_goes_on p s x e has hosts begins (m, list, says) next =
    let f = fits_more s.view x s.journal begins has.fits in
    let root : s.root ≡ root_replayed (pools_seen x) s.journal new_root = has.replayed ∙ sym f.1 in
    record {
      partition = has.partition;
      hosts = hosts;
      listed =
          ap (map (λ (n : Made). n.numbers)) list ∙ map-append (λ (n : Made). n.numbers) (list_of p s.view) (m ∷ [])
          ∙ ap (λ ns. ns ++ m.numbers ∷ []) has.listed ∙ ap (λ n. map root_numbers s.journal ++ n ∷ []) says
          ∙ sym (map-append root_numbers s.journal (e ∷ []));
      fits = journal_grows.fits (pools_seen x) s.journal e f.0 (subst (λ r. RootActFits (pools_seen x) e.act r) root next.act) next.asks;
      replayed = ap (root_next (pools_seen x) e.act) root ∙ sym (journal_grows.next (pools_seen x) s.journal e);
    }

-- ---- with all entries of the pool

pub journals_fit_pool : JournalsFitPool
journals_fit_pool p s list pools sound (rest, e) is =
    let seen : pools ≡ pools_seen s.view ++ pools_read rest =
    sym (pools_are_read.list list pools is) ∙ ap pools_read e ∙
    map-append (λ (m : Made). pool_entry_read m.numbers) (list_of 4 s.view) rest in (
      subst (λ all. IsJournal all s.journal) (sym seen)
          (journal_grows.pool_more (pools_seen s.view) (pools_read rest) s.journal sound.journal.fits),
      sound.journal.replayed ∙ sym (journal_grows.pool_same (pools_seen s.view) (pools_read rest) s.journal sound.journal.fits)
          ∙ sym (ap (λ all. root_replayed all s.journal new_root) seen),
    )
