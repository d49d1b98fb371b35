-- The four places add up in every line of a legal run's report.
use Rattle.std.proofs.Common.{◌≡◌, ℕ, zero, suc, ◌+◌, ◌<◌, List, get_or, ap, subst, arith, inl, inr}
use Rattle.std.specs.Prelude.{Contains}
use Rattle.std.proofs.lemmas.List.Elements.{Contains-get_or, Contains-append_cases, All-contains}
use Rattle.pa_trace.specs.Rules.{rules_of}
use Rattle.pa_record.specs.declared.report.ReportLine.{ReportLine}
use Rattle.pa_lists.proofs.Members.{not_in_none, in_cases}
use Rattle.pa_lists.proofs.Joined.{map_in}
use Rattle.pa_rules.specs.declared.played.Played.{Played}
use Rattle.pa_rules.specs.Seen.{IsSeenInOrder}
use Rattle.pa_rules.specs.Seen.IsBefore.{Standing}
use Rattle.pa_rules.specs.Report.{partitions_of, phases_of, IsReportLine}
use Rattle.pa_rules.specs.Flow.{IsInPhases}
use Rattle.pa_rules.specs.Legal.{phases_in}
use Rattle.pa_rules.specs.Laws.{ReportAddsUp}
use Rattle.pa_rules.specs.Told.{records_of}
use Rattle.pa_rules.proofs.Recorded.{records_are_lines}
use Rattle.pa_rules.proofs.Numbering.{lines_differ}
use Rattle.pa_rules.proofs.Within.{records_within}
use Rattle.pa_rules.proofs.FourPlaces.{places_add_up}

-- the partitions of a phase's lines are the trace's
in_partitions : (phase p n : ℕ) (at : ℕ × ℕ) → Contains (partitions_of phase p n) at → at.1 < p + n
in_partitions phase p zero at among = absurd (not_in_none at among)
in_partitions phase p (suc n) at among = elim (in_cases (phase, p) at (partitions_of phase (p + 1) n) among) [
  | inl e ↦ let same : p ≡ at.1 = ap (λ (z : ℕ × ℕ). z.1) e in omega arith
  | inr rest ↦ let ih = in_partitions phase (p + 1) n at rest in omega arith
]

in_phases : (partitions phase n : ℕ) (at : ℕ × ℕ) → Contains (phases_of partitions phase n) at → at.1 < partitions
in_phases partitions phase zero at among = absurd (not_in_none at among)
in_phases partitions phase (suc n) at among =
    elim (Contains-append_cases (partitions_of phase 0 partitions) (phases_of partitions (phase + 1) n) at among) [
      | inl here ↦ let low = in_partitions phase 0 partitions at here in omega arith
      | inr rest ↦ in_phases partitions (phase + 1) n at rest
    ]

-- what was seen is in the order of the phases
pub seen_in_phases : (cells : _) (ps : List Played) → IsSeenInOrder cells ps → IsInPhases ps
seen_in_phases cells ps h x y m n first second earlier is is' same = h.rising x y m n first second (Standing (inr earlier)) is is' same

abbrev place_of : ReportLine → ℕ × ℕ
place_of l = (l.phase, l.partition)

pub report_adds_up : ReportAddsUp
report_adds_up t r l limits legal among =
    let ps = records_of t r in
    let lines = records_are_lines.lines (rules_of t) t.lines r.entries legal.lines in
    let right = All-contains (IsReportLine t.partitions t.threads ps r.pools r.roots) r.report l legal.report.right among in
    let place : Contains (phases_of t.partitions 1 (phases_in t.lines)) (place_of l) =
    subst (λ z. Contains z (place_of l)) legal.report.places (map_in place_of r.report l among) in
    let (before, parts, census) = right.root in (
      before,
      parts,
      places_add_up t.region t.partitions t.threads ps r.pools r.roots l before legal.roots legal.pool
          (lines_differ (rules_of t) t.lines ps lines)
          (λ k d low. (records_within t ps (get_or ps k d) limits lines (Contains-get_or ps k d low)).0) legal.slots
          (seen_in_phases _ ps legal.seen) (in_phases t.partitions 1 (phases_in t.lines) (place_of l) place) right parts,
    )
