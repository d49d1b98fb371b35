-- The lines of the report, by partitions and by phases.
use Rattle.std.proofs.Common.{◌≡◌, ◌≢◌, ℕ, zero, suc, ◌+◌, ◌<◌, List, [], ◌∷◌, ◌++◌, length, Option, Some, refl, sym, ◌∙◌, ap, subst, arith}
use Rattle.std.specs.Prelude.{slice_get, slice_index_or}
use Rattle.std.proofs.lemmas.List.{map-append, append-nil, append_assoc}
use Rattle.std.proofs.lemmas.List.Elements.{All-nil, All-push, All-contains}
use Rattle.std.proofs.lemmas.List.Kept.{AllPairs-filter}
use Rattle.pa_audit_holders.specs.Rows.{IsOfThreads}
use Rattle.pa_rules.specs.Sizes.{HasClass}
use Rattle.pa_record.specs.declared.census.Census.{Census}
use Rattle.pa_record.specs.declared.pool.PoolEntry.{PoolEntry}
use Rattle.pa_record.specs.declared.report.ReportLine.{ReportLine}
use Rattle.pa_record.specs.declared.report.Tally.{Tally}
use Rattle.pa_rules.specs.declared.played.Played.{Played}
use Rattle.pa_rules.specs.Report.{HasCensus, IsCached, IsReport, IsReportLine, partitions_of, phases_of, until}
use Rattle.pa_rules.specs.Roots.{Journals}
use Rattle.pa_rules.proofs.ByLines.{is_until}
use Rattle.pa_rules.proofs.Numbering.{rising_differ}
use Rattle.pa_rules.proofs.Phases.{runs_until}
use Rattle.pa_legal.specs.Tallies.{IsTallied}
use Rattle.pa_legal.proofs.Titling.{one_kind}
use Rattle.pa_rules.specs.Lists.{no_tally}
use Rattle.pa_audit_holders.proofs.Caching.{HaveOneKind}
use Rattle.pa_audit_report.specs.declared.counts.InUse.{InUse}
use Rattle.pa_audit_holders.specs.declared.homes.Home.{Home}
use Rattle.pa_audit_holders.specs.Cached.{AreCachedAt}
use Rattle.pa_audit_report.specs.Counts.{IsUse}
use Rattle.pa_audit_report.specs.Due.{AreColumns, GathersTo, IsColumn, IsDueAt, IsReportTo, line_by, phases_to}
use Rattle.pa_audit_report.specs.Given.{IsGiven}
use Rattle.pa_audit_holders.specs.Homes.{KnowsHomes}
use Rattle.pa_audit_records.proofs.Cutting.{each_next, long_next}
use Rattle.pa_audit_report.proofs.Tallying.{live_is, quarantined_is}
use Rattle.pa_lists.proofs.Tests.{one_more}
use Rattle.pa_rules.proofs.ReportLines.{phases_push}

-- ---- what is given

pub kinds_given : (supers partitions : ℕ) (ps : List Played) (pools : List PoolEntry) (roots : Journals) →
    (g : IsGiven supers partitions ps pools roots) → HaveOneKind g.version roots
kinds_given supers partitions ps pools roots g s =
    let kind = one_kind supers partitions ps pools roots s g.journals g.pool in
    record {
      class = kind.class;
      real = λ p c of. let (x, among, has) = kind.real p c of in
          subst (λ v. HasClass v c) (All-contains (IsOfThreads g.version) ps x g.within among).2 has;
      direct = kind.direct;
      either = kind.either;
    }

tallied_given : (supers partitions n : ℕ) (ps : List Played) (pools : List PoolEntry) (roots : Journals)
    → IsGiven supers partitions ps pools roots → IsTallied supers partitions ps (until n ps) pools roots
tallied_given supers partitions n ps pools roots g =
    let differ = rising_differ ps g.rising in
    record {
      journals = g.journals;
      pool = g.pool;
      lines = AllPairs-filter (λ (x y : Played). x.line ≢ y.line) (is_until n) ps differ;
      slots = runs_until ps n differ g.slots g.ordered;
    }

-- ---- a line

pub line_due : (supers partitions threads p i : ℕ) (ps : List Played) (pools : List PoolEntry) (roots : Journals) (at : ℕ → Option Home)
    (u : InUse) (tallies : List Tally) (cached : Tally) (c : Census) (l : ReportLine)
    → IsGiven supers partitions ps pools roots → KnowsHomes roots at → p < 4 → IsUse at p (until (i + 1) ps) u
    → AreCachedAt partitions threads roots (until (i + 1) ps) tallies → cached ≡ slice_index_or tallies p no_tally
    → HasCensus ps pools roots (i + 1) p c → l ≡ line_by (i + 1) p u cached c → IsDueAt partitions threads ps pools roots (i + 1) p l
line_due supers partitions threads p i ps pools roots at u tallies cached c l g knows low used listed is census same =
    let tallied = tallied_given supers partitions (i + 1) ps pools roots g in
    subst (λ z. IsDueAt partitions threads ps pools roots (i + 1) p z) (sym same) (record {
      phase_is = refl;
      partition_is = refl;
      right = record {
        live = live_is supers partitions p ps (until (i + 1) ps) pools roots at knows tallied u low used;
        quarantined = quarantined_is supers partitions p ps (until (i + 1) ps) pools roots at knows tallied u low used;
        cached = subst (λ t. IsCached partitions threads roots (until (i + 1) ps) p t) (sym is) (listed.each p low);
        root = census;
      };
    })

-- ---- columns

pub columns_next : (phases partitions threads n : ℕ) (ps : List Played) (pools : List PoolEntry) (roots : Journals)
    (columns after : List (List ReportLine)) (lines : List ReportLine)
    → after ≡ columns ++ lines ∷ [] → length lines ≡ phases
    → IsColumn partitions threads ps pools roots n lines → AreColumns phases partitions threads ps pools roots n columns →
    AreColumns phases partitions threads ps pools roots (n + 1) after
columns_next phases partitions threads n ps pools roots columns after lines is long here h = record {
  many = long_next columns after lines n is h.many;
  each = each_next (λ p ls. IsColumn partitions threads ps pools roots p ls × (length ls ≡ phases)) columns after lines n is h.many
      h.each (here, long);
}

-- ---- all lines

partitions_push : (n q k : ℕ) → partitions_of n q (suc k) ≡ partitions_of n q k ++ (n, q + k) ∷ []
partitions_push n q zero = let e : q ≡ q + 0 = omega arith in ap (λ z. (n, z) ∷ []) e
partitions_push n q (suc k) =
    let e : q + 1 + k ≡ q + suc k = omega arith in
    ap (λ zs. (n, q) ∷ zs) (partitions_push n (q + 1) k ∙ ap (λ z. partitions_of n (q + 1) k ++ (n, z) ∷ []) e)

pub gathers_none : (phases partitions : ℕ) (columns : List (List ReportLine)) (lines : List ReportLine) → lines ≡ [] →
    GathersTo phases partitions columns 0 0 lines
gathers_none phases partitions columns lines none threads ps pools roots are =
    subst (λ ls. IsReportTo partitions threads ps pools roots 0 0 ls) (sym none)
    (record { places = refl; right = All-nil (IsReportLine partitions threads ps pools roots) })

pub gathers_line : (phases partitions i p : ℕ) (columns : List (List ReportLine)) (lines after column : List ReportLine) (l : ReportLine)
    → p < partitions → slice_get columns p ≡ Some column → slice_get column i ≡ Some l → after ≡ lines ++ l ∷ []
    → GathersTo phases partitions columns i p lines → GathersTo phases partitions columns i (p + 1) after
gathers_line phases partitions i p columns lines after column l low at there is h threads ps pools roots are =
    let so = h threads ps pools roots are in
    let due = (are.each p column at).0 i l there in
    let here : (l.phase, l.partition) ≡ (i + 1, p) = ap (λ z. (z, l.partition)) due.phase_is ∙ ap (λ z. (i + 1, z)) due.partition_is in
    let more : partitions_of (i + 1) 0 (p + 1) ≡ partitions_of (i + 1) 0 p ++ (i + 1, p) ∷ [] =
    ap (partitions_of (i + 1) 0) (one_more p) ∙ partitions_push (i + 1) 0 p ∙
    ap (λ z. partitions_of (i + 1) 0 p ++ (i + 1, z) ∷ []) (plain p) in
    subst (λ ls. IsReportTo partitions threads ps pools roots i (p + 1) ls) (sym is) (record {
      places = map-append (λ (z : ReportLine). (z.phase, z.partition)) lines (l ∷ []) ∙
          ap (λ zs. zs ++ (l.phase, l.partition) ∷ []) so.places ∙ ap (λ z. phases_to partitions i p ++ z ∷ []) here
          ∙ append_assoc (phases_of partitions 1 i) (partitions_of (i + 1) 0 p) ((i + 1, p) ∷ []) ∙
          ap (λ zs. phases_of partitions 1 i ++ zs) (sym more);
      right = All-push (IsReportLine partitions threads ps pools roots) lines l so.right due.right;
    })
  where
    plain : (n : ℕ) → 0 + n ≡ n
    plain n = omega arith

pub gathers_phase : (phases partitions i p : ℕ) (columns : List (List ReportLine)) (lines : List ReportLine) → p ≡ partitions
    → GathersTo phases partitions columns i p lines → GathersTo phases partitions columns (i + 1) 0 lines
gathers_phase phases partitions i p columns lines end h threads ps pools roots are =
    let so = h threads ps pools roots are in
    let more : phases_of partitions 1 (i + 1) ≡ phases_of partitions 1 i ++ partitions_of (i + 1) 0 partitions =
    ap (phases_of partitions 1) (one_more i) ∙ phases_push partitions 1 i ∙
    ap (λ z. phases_of partitions 1 i ++ partitions_of z 0 partitions) (turned i) in
    record {
      places = so.places ∙ ap (λ z. phases_of partitions 1 i ++ partitions_of (i + 1) 0 z) end ∙ sym more ∙
          sym (append-nil (phases_of partitions 1 (i + 1)));
      right = so.right;
    }
  where
    turned : (n : ℕ) → 1 + n ≡ n + 1
    turned n = omega arith

pub gathers_all : (phases partitions i : ℕ) (columns : List (List ReportLine)) (lines : List ReportLine) → i ≡ phases →
    GathersTo phases partitions columns i 0 lines
    → (threads : ℕ) (ps : List Played) (pools : List PoolEntry) (roots : Journals)
    → AreColumns phases partitions threads ps pools roots partitions columns → IsReport phases partitions threads ps pools roots lines
gathers_all phases partitions i columns lines end h threads ps pools roots are =
    let so = h threads ps pools roots are in
    record { places = so.places ∙ append-nil (phases_of partitions 1 i) ∙ ap (phases_of partitions 1) end; right = so.right }
