use Rattle.std.proofs.Common.{◌≡◌, ◌+◌, List, Vec, get_or, length, map, sym, ◌∙◌, ap, subst, arith}
use Rattle.std.specs.Prelude.{All, IsSome}
use Rattle.std.proofs.lemmas.Bool.{false≢true}
use Rattle.std.proofs.lemmas.Option.{slice_get-get_or}
use Rattle.std.specs.declared.alloc.Global.{Global}
use Rattle.pa_record.specs.declared.report.Tally.{Tally}
use Rattle.pa_rules.specs.declared.played.Played.{Played}
use Rattle.pa_rules.specs.Report.{until}
use Rattle.pa_rules.specs.Roots.{journal_at}
use Rattle.pa_audit_records.specs.Cuts.{HasEach}
use Rattle.pa_audit_records.proofs.Cutting.{cut_order, each_next, each_none, long_next, low_none, within_records}
use Rattle.pa_audit_holders.specs.Cached.{AreCachedAt, CachesSoFar, HaveListed}
use Rattle.pa_audit_holders.specs.Lists.{VersionLists, caches_in}
use Rattle.pa_audit_holders.proofs.Caching.{caches_start, played_all, played_none}
use Rattle.pa_audit_holders.proofs.Tallying.{IsEnded, phase_ended}
use Rattle.pa_audit_holders.proofs.caches.caches_meet.Goals.{then-from-end+in_ok-misfit+else-is_some, else-from-end}
use Rattle.pa_audit_holders.proofs.caches.caches_meet.Goals as goal

pub play_phase-requires-clause-end : goal.play_phase-requires-clause-end
play_phase-requires-clause-end c =
    let i = c.loop-end.end-index in
    within_records c.args.books.now.records (i + 1) _ (c.requires.ends i _ (slice_get-get_or c.args.ends.now i 0 c.loop-end-test.true))

pub loop-end-init : goal.loop-end-init
loop-end-init c =
    record {
      many = ap length c.new-cached.ensures.items;
      low = low_none (map (λ (x : Played). x.phase) c.args.books.now.records) 0;
      threads = c.in_ok-caches.ensures.many;
      version = subst (λ v. All (λ (x : VersionLists). x.version ≡ v) c.in_ok-caches.caches.items) c.version.ensures
          c.in_ok-caches.ensures.version;
      walk = caches_start c.args.books.now.partitions (journal_at c.args.books.now.roots) c.args.books.now.records
          (caches_in c.in_ok-caches.caches.items) c.in_ok-caches.ensures.none;
      listed = subst (λ (zs : List VersionLists). HaveListed c.args.threads (caches_in zs) c.all_listed-listed.result)
          c.as_slice.ensures.value c.all_listed-listed.ensures;
      told =
          subst (λ (us : List (List Tally)). HasEach (λ i u. AreCachedAt c.args.books.now.partitions c.args.threads
          (journal_at c.args.books.now.roots) (until (i + 1) c.args.books.now.records) u) us) (sym c.new-cached.ensures.items)
          (each_none (λ i u. AreCachedAt c.args.books.now.partitions c.args.threads (journal_at c.args.books.now.roots)
          (until (i + 1) c.args.books.now.records) u));
    }

pub loop-end-preserved : goal.loop-end-preserved
loop-end-preserved c =
    let l = c.loop-end in
    let i = l.end-index in
    let j = c.if-from-end in
    let b = c.args.books.now in
    let roots = journal_at b.roots in
    let ps = b.records in
    let e = get_or c.args.ends.now i 0 in
    let cut = c.requires.ends i e (slice_get-get_or c.args.ends.now i 0 c.loop-end-test.true) in
    let ended : IsEnded b.partitions c.args.threads roots ps (i + 1) j.from j.caches.items j.listed = elim j.branch [
      | then-from-end+in_ok-misfit+else-is_some w ↦
          let lists = w.play_phase.new.caches.items in
          let tallies = w.all_listed-listed-then-from-end.result in
          let none : IsSome w.in_ok-misfit.misfit → ⊥ = λ some. false≢true (w.if-is_some.ensures ∙ some) in
          let walk = played_none b.partitions roots ps (caches_in lists) e w.in_ok-misfit.misfit none w.in_ok-misfit.ensures.played in
          let listed = subst (λ (zs : List VersionLists). HaveListed c.args.threads (caches_in zs) tallies)
          w.as_slice-then-from-end.ensures.value w.all_listed-listed-then-from-end.ensures in
          subst (λ (v : Vec VersionLists Global). IsEnded b.partitions c.args.threads roots ps (i + 1) j.from v.items j.listed)
          (sym w.caches-is)
          (subst (λ (ts : List Tally). IsEnded b.partitions c.args.threads roots ps (i + 1) j.from lists ts) (sym w.listed-is)
          (phase_ended b.partitions c.args.threads roots ps
          (i + 1) j.from e lists tallies cut w.from-is w.in_ok-misfit.ensures.sixteen walk listed))
      | else-from-end w ↦
          let low = cut_order (map (λ (x : Played). x.phase) ps) i (i + 1) l.from e (omega arith) l.invariant.low cut in
          let same : l.from ≡ e = omega (arith, low, w.if-from-end.false) in
          let walk = subst (λ n. CachesSoFar b.partitions roots ps (caches_in l.caches.items) n) same l.invariant.walk in
          subst (λ (v : Vec VersionLists Global). IsEnded b.partitions c.args.threads roots ps (i + 1) j.from v.items j.listed)
          (sym w.caches-is)
          (subst (λ (ts : List Tally). IsEnded b.partitions c.args.threads roots ps (i + 1) j.from l.caches.items ts) (sym w.listed-is)
          (phase_ended b.partitions c.args.threads roots ps (i + 1) j.from e l.caches.items l.listed cut
          (w.from-is ∙ same) l.invariant.threads walk l.invariant.listed))
    ] in
    record {
      many = long_next l.cached.items c.push.new.self.items j.listed i c.in_ok-push.ensures.items l.invariant.many;
      low = ended.low;
      threads = ended.sixteen;
      version = elim j.branch [
        | then-from-end+in_ok-misfit+else-is_some w ↦
            subst (λ (v : Vec VersionLists Global). All (λ (x : VersionLists). x.version ≡ b.version) v.items)
            (sym w.caches-is) w.in_ok-misfit.ensures.version
        | else-from-end w ↦ subst (λ (v : Vec VersionLists Global). All (λ (x : VersionLists). x.version ≡ b.version) v.items)
            (sym w.caches-is) l.invariant.version
      ];
      walk = ended.walk;
      listed = ended.listed;
      told = each_next (λ k u. AreCachedAt b.partitions c.args.threads roots (until (k + 1) ps) u) l.cached.items
          c.push.new.self.items j.listed i
          c.in_ok-push.ensures.items l.invariant.many l.invariant.told ended.here;
    }

pub returns-clause-misfit : goal.returns-clause-misfit
returns-clause-misfit c =
    played_all c.args.books.now.partitions (journal_at c.args.books.now.roots) c.args.books.now.records
    (caches_in c.play_phase-2.new.caches.items) c.count.result c.in_ok-misfit-2.misfit (omega (arith, c.count.ensures.count))
    c.in_ok-misfit-2.ensures.played
