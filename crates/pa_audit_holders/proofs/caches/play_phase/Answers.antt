use Rattle.std.proofs.Common.{◌≡◌, ◌<◌, get_or, length, sym, ap, arith, subst}
use Rattle.std.specs.Prelude.{All}
use Rattle.std.proofs.lemmas.Option.{slice_get-get_or}
use Rattle.pa_rules.specs.Roots.{journal_at}
use Rattle.pa_audit_holders.specs.Books.{RecordPage}
use Rattle.pa_audit_holders.specs.Lists.{VersionLists, caches_in}
use Rattle.pa_audit_holders.specs.Rows.{TellsNext}
use Rattle.pa_audit_holders.proofs.Caching.{caches_more, caches_not}
use Rattle.pa_audit_holders.proofs.caches.play_phase.Goals as goal

pub returns-then-not-fits-clause-played : goal.returns-then-not-fits-clause-played
returns-then-not-fits-clause-played c =
    let l = c.loop-at in
    let b = c.args.books.now in
    let before = caches_in l.caches.items in
    let after = caches_in c.play.new.caches.items in
    let below : l.at < length b.records = omega (arith, c.loop-at-test.true, c.requires.end) in
    let d = c.page-page.result.told in
    let is = c.page-page.ensures.page (get_or b.records l.at d) (slice_get-get_or b.records l.at d below) in
    let next = subst (λ (g : RecordPage). TellsNext g.partitions (journal_at g.roots) g.told before after c.in_ok-fits.fits) is
    c.in_ok-fits.ensures.next in
    caches_not b.partitions (journal_at b.roots) b.records before after l.at d c.in_ok-fits.fits c.page-page.ensures.kinds below
    l.invariant.walk next c.if-not-fits.true

pub loop-at-preserved : goal.loop-at-preserved
loop-at-preserved c =
    let l = c.loop-at in
    let b = c.args.books.now in
    let before = caches_in l.caches.items in
    let after = caches_in c.play.new.caches.items in
    let below : l.at < length b.records = omega (arith, c.loop-at-test.true, c.requires.end) in
    let d = c.page-page.result.told in
    let is = c.page-page.ensures.page (get_or b.records l.at d) (slice_get-get_or b.records l.at d below) in
    let next = subst (λ (g : RecordPage). TellsNext g.partitions (journal_at g.roots) g.told before after c.in_ok-fits.fits) is
    c.in_ok-fits.ensures.next in
    record {
      threads = c.in_ok-fits.ensures.threads;
      version = subst (λ v. All (λ (x : VersionLists). x.version ≡ v) c.play.new.caches.items)
          (ap (λ (g : RecordPage). g.version) is) c.in_ok-fits.ensures.version;
      walk = caches_more b.partitions (journal_at b.roots) b.records before after l.at d c.in_ok-fits.fits below l.invariant.walk next
          c.if-not-fits.false;
    }

pub play-requires-clause-version : goal.play-requires-clause-version
play-requires-clause-version c =
    let l = c.loop-at in
    let b = c.args.books.now in
    let below : l.at < length b.records = omega (arith, c.loop-at-test.true, c.requires.end) in
    let d = c.page-page.result.told in
    let is = c.page-page.ensures.page (get_or b.records l.at d) (slice_get-get_or b.records l.at d below) in
    subst (λ v. All (λ (x : VersionLists). x.version ≡ v) l.caches.items) (sym (ap (λ (g : RecordPage). g.version) is)) l.invariant.version
