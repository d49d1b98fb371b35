use Rattle.std.proofs.Common.{◌≡◌, ℕ, ◌<◌, List, get_or, length, set, sym, ◌∙◌, ap, arith, subst}
use Rattle.std.specs.Prelude.{All}
use Rattle.std.proofs.lemmas.List.Elements.{All-set}
use Rattle.pa_rules.specs.Roots.{journal_at}
use Rattle.pa_rules.specs.Caches.{CacheRow}
use Rattle.pa_audit_holders.specs.Lists.{VersionLists, cache_in, caches_in}
use Rattle.pa_audit_holders.specs.Rows.{TellsNext, TellsRow}
use Rattle.pa_audit_holders.proofs.Leading.{play_next}
use Rattle.pa_audit_holders.proofs.caches.play.Goals as goal

pub returns-clause-next : goal.returns-clause-next
returns-clause-next c =
    let page = c.args.page.now in
    let threads = c.args.caches.now.items in
    let same = c.thread.ensures.thread in
    let low = c.thread.ensures.few in
    let many = c.requires.threads in
    let below : page.told.thread < length threads = omega (arith, same, low, many) in
    let roots = journal_at page.roots in
    let after = c.plays.new.cache in
    let is = c.index_mut-cache.ensures.value ∙ ap (λ (k : ℕ). get_or threads k c.index_mut-cache.result.now) same in
    subst (λ (k : ℕ). TellsNext page.partitions roots page.told (caches_in threads)
    (caches_in (set threads k after)) c.in_ok-fits.fits) (sym same)
    (play_next page.partitions roots page.told threads c.index_mut-cache.result.now after c.in_ok-fits.fits below
    (subst (λ (z : VersionLists). TellsRow (CacheRow page.partitions roots page.told page.told.answer (cache_in z))
    (cache_in after) c.in_ok-fits.fits) is c.in_ok-fits.ensures.row))

-- the lists of a thread are of the version that those of all threads are of
of_version : (threads : List VersionLists) (version t : ℕ) (lists : VersionLists) → length threads ≡ 16 → t < 16
    → All (λ (z : VersionLists). z.version ≡ version) threads → lists ≡ get_or threads t lists → lists.version ≡ version
of_version threads version t lists many low all is =
    subst (λ (z : VersionLists). z.version ≡ version) (sym is) (all t lists (omega (arith, many, low)))

pub plays-requires : goal.plays-requires
plays-requires c = record {
  version = of_version c.args.caches.now.items c.args.page.now.version c.thread.result c.index_mut-cache.result.now
      c.requires.threads c.thread.ensures.few c.requires.version c.index_mut-cache.ensures.value;
}

pub returns-clause-version : goal.returns-clause-version
returns-clause-version c =
    let before = of_version c.args.caches.now.items c.args.page.now.version c.thread.result c.index_mut-cache.result.now
    c.requires.threads c.thread.ensures.few c.requires.version c.index_mut-cache.ensures.value in
    All-set (λ (z : VersionLists). z.version ≡ c.args.page.now.version) c.args.caches.now.items c.thread.result c.plays.new.cache
    (c.plays.ensures.version ∙ before) c.requires.version
