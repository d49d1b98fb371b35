-- A report beside the one that is due: there is only one right line for each phase and partition.
use Rattle.std.proofs.Common.{◌≡◌, ℕ, ◌+◌, ◌<◌, ◌≤◌, List, length, Option, Some, None, refl, sym, ◌∙◌, ap, subst, arith, inl, inr}
use Rattle.std.specs.Prelude.{slice_get, option_map}
use Rattle.std.proofs.lemmas.Bool.{cases_lt}
use Rattle.std.proofs.lemmas.List.Elements.{All-contains}
use Rattle.std.proofs.lemmas.Option.{slice_get-get_or, slice_get-map, slice_get_past, slice_get_within}
use Rattle.pa_slot.specs.Run.{IsLive, IsQuarantined}
use Rattle.pa_record.specs.declared.census.Census.{Census}
use Rattle.pa_record.specs.declared.pool.PoolEntry.{PoolEntry}
use Rattle.pa_record.specs.declared.report.ReportLine.{ReportLine}
use Rattle.pa_record.specs.declared.report.Tally.{Tally}
use Rattle.pa_record.specs.Census.{census}
use Rattle.pa_record.specs.Root.{new_root, root_replayed}
use Rattle.pa_lists.proofs.Members.{not_some}
use Rattle.pa_record.proofs.Same.{same_line, same_tally}
use Rattle.pa_record.proofs.OneSum.{one_sum}
use Rattle.pa_rules.specs.declared.played.Played.{Played}
use Rattle.pa_rules.specs.declared.verdict.Place.TheVariants as places
use Rattle.pa_rules.specs.Caches.{Caches, no_caches}
use Rattle.pa_rules.specs.HeapDemands.{ReportDemand}
use Rattle.pa_rules.specs.Report.{HasCensus, HasSize, IsCached, IsReport, IsReportLine, IsTally, cached_bytes, cached_slots, census_of, until}
use Rattle.pa_rules.specs.Roots.{Journals}
use Rattle.pa_rules.specs.Tells.{TellsFirst}
use Rattle.pa_rules.proofs.FourPlaces.{one_until}
use Rattle.pa_rules.proofs.Numbering.{rising_differ}
use Rattle.pa_legal.proofs.Titling.{one_kind}
use Rattle.pa_audit_holders.proofs.Caching.{caches_one}
use Rattle.pa_audit_report.specs.Given.{IsGiven}
use Rattle.pa_audit_report.proofs.Columns.{kinds_given}
use Rattle.pa_lists.proofs.Indexed.{at_in, option_cases}

-- where a line belongs
abbrev key : ReportLine → ℕ × ℕ
key l = (l.phase, l.partition)

module _ (supers partitions threads : ℕ) (ps : List Played) (pools : List PoolEntry) (roots : Journals)
    (g : IsGiven supers partitions ps pools roots) where
  one_tally : (P : ℕ → Type 0) (xs : List Played) (p : ℕ) (t u : Tally) → IsTally P roots xs p t → IsTally P roots xs p u → t ≡ u
  one_tally P xs p t u (slots, sizes, are, count, bytes) (others', more, are', count', bytes') =
      let (long, sums) = one_sum (λ s len. HasSize roots p s len)
      (λ s m n x y. ((one_kind supers partitions ps pools roots s g.journals g.pool).size p p m n x y).1) slots others' sizes more
      are.once are'.once are.sized are'.sized
      (λ s among. (are'.all s).1 ((are.all s).0 among)) (λ s among. (are.all s).1 ((are'.all s).0 among)) in
      same_tally t u (count ∙ long ∙ sym count') (bytes ∙ sums ∙ sym bytes')

  one_cached : (xs : List Played) (p : ℕ) (t u : Tally) → IsCached partitions threads roots xs p t →
      IsCached partitions threads roots xs p u → t ≡ u
  one_cached xs p t u (all, to, slots, bytes) (all', to', slots', bytes') =
      let same = caches_one partitions roots no_caches all all' xs (kinds_given supers partitions ps pools roots g) to to' in
      same_tally t u (slots ∙ ap (λ (z : Caches). cached_slots z p threads) same ∙ sym slots')
      (bytes ∙ ap (λ (z : Caches). cached_bytes z p threads) same ∙ sym bytes')

  one_census : (phase p : ℕ) (c d : Census) → HasCensus ps pools roots phase p c → HasCensus ps pools roots phase p d → c ≡ d
  one_census phase p c d (before, until', is) (before', until'', is') =
      is ∙ ap (λ es. census (root_replayed pools es new_root))
      (one_until ps phase (roots p) before before' (rising_differ ps g.rising) until' until'') ∙ sym is'

  one_line : (l m : ReportLine) → l.phase ≡ m.phase → l.partition ≡ m.partition → IsReportLine partitions threads ps pools roots l →
      IsReportLine partitions threads ps pools roots m → l ≡ m
  one_line l m phases places x y =
      let xs = until l.phase ps in
      let here : (Q : List Played → ℕ → Type 0) → Q (until m.phase ps) m.partition → Q (until l.phase ps) l.partition = λ Q z.
      subst (λ k. Q (until k ps) l.partition) (sym phases) (subst (λ k. Q (until m.phase ps) k) (sym places) z) in
      let root' : HasCensus ps pools roots l.phase l.partition (census_of m) =
      subst (λ k. HasCensus ps pools roots k l.partition (census_of m)) (sym phases)
      (subst (λ k. HasCensus ps pools roots m.phase k (census_of m)) (sym places) y.root) in
      let live = one_tally IsLive (until l.phase ps) l.partition l.live m.live x.live
      (here (λ zs p. IsTally IsLive roots zs p m.live) y.live) in
      let quarantined = one_tally IsQuarantined (until l.phase ps) l.partition l.quarantined m.quarantined x.quarantined
      (here (λ zs p. IsTally IsQuarantined roots zs p m.quarantined) y.quarantined) in
      let cached =
      one_cached (until l.phase ps) l.partition l.cached m.cached x.cached
      (here (λ zs p. IsCached partitions threads roots zs p m.cached) y.cached) in
      let root = one_census l.phase l.partition (census_of l) (census_of m) x.root root' in
      same_line l m phases places live quarantined cached
      (ap (λ (c : Census). c.root) root) (ap (λ (c : Census). c.committed) root) (ap (λ (c : Census). c.reserved) root)
      (ap (λ (c : Census). c.full) root) (ap (λ (c : Census). c.active) root) (ap (λ (c : Census). c.empty) root)
      (ap (λ (c : Census). c.decommitted) root)

  module _ (phases : ℕ) (report due : List ReportLine) (d : IsReport phases partitions threads ps pools roots due) where
    -- a line that is as the due one meets its demand, and the other way round
    same_meets : (i : ℕ) → slice_get report i ≡ slice_get due i →
        ReportDemand phases partitions threads ps pools roots report (places.Report i)
    same_meets i same = (
      slice_get-map key report i ∙ ap (option_map key) same
          ∙ sym (slice_get-map key due i) ∙ ap (λ zs. slice_get zs i) d.places,
      λ l at. All-contains (IsReportLine partitions threads ps pools roots) due l d.right (at_in due i l (sym same ∙ at)),
    )

    meets_same : (i : ℕ) → ReportDemand phases partitions threads ps pools roots report (places.Report i) →
        slice_get report i ≡ slice_get due i
    meets_same i (keys, right) = by_line (slice_get report i) refl
      where
        said : option_map key (slice_get report i) ≡ option_map key (slice_get due i)
        said = sym (slice_get-map key report i) ∙ keys ∙ sym (ap (λ zs. slice_get zs i) d.places) ∙ slice_get-map key due i

        none_of : (o : Option ReportLine) → None ≡ option_map key o → None ≡ o
        none_of None e = refl
        none_of (Some m) e = absurd (not_some (key m) e)

        by_line : (o : Option ReportLine) → slice_get report i ≡ o → slice_get report i ≡ slice_get due i
        by_line None at = at ∙ none_of (slice_get due i) (sym (ap (option_map key) at) ∙ said)
        by_line (Some l) at =
            let (m, there, is) = option_cases key (slice_get due i) (key l) (sym said ∙ ap (option_map key) at) in
            let wanted = All-contains (IsReportLine partitions threads ps pools roots) due m d.right (at_in due i m there) in
            let one = one_line l m (sym (ap (λ (z : ℕ × ℕ). z.0) is)) (sym (ap (λ (z : ℕ × ℕ). z.1) is)) (right l at) wanted in
            at ∙ ap Some one ∙ sym there

    pub tells_report : (o : Option ℕ) → TellsFirst (λ i. slice_get report i ≡ slice_get due i) o →
        TellsFirst (λ i. ReportDemand phases partitions threads ps pools roots report (places.Report i)) o
    tells_report None h = λ i. same_meets i (h i)
    tells_report (Some i) (unmet, met) = (λ demand. unmet (meets_same i demand), λ j less. same_meets j (met j less))

-- ---- the first place that differs

pub other_here : (lines due : List ReportLine) (i : ℕ) (l : ReportLine) → slice_get lines i ≡ Some l → (slice_get due i ≡ Some l → ⊥) →
    ((j : ℕ) → j < i → slice_get lines j ≡ slice_get due j)
    → TellsFirst (λ k. slice_get lines k ≡ slice_get due k) (Some i)
other_here lines due i l at other same = (λ e. other (sym e ∙ at), same)

pub same_more : (lines due : List ReportLine) (i : ℕ) (l : ReportLine) → slice_get lines i ≡ Some l → slice_get due i ≡ Some l →
    ((j : ℕ) → j < i → slice_get lines j ≡ slice_get due j)
    → (j : ℕ) → j < i + 1 → slice_get lines j ≡ slice_get due j
same_more lines due i l at there same j less = elim (cases_lt j i) [
  | inl before ↦ same j before
  | inr least ↦
      let here : j ≡ i = omega (arith, less, least) in
      ap (λ k. slice_get lines k) here ∙ at ∙ sym there ∙ ap (λ k. slice_get due k) (sym here)
]

pub one_missing : (lines due : List ReportLine) (i : ℕ) → length lines ≤ i → i < length due
    → ((j : ℕ) → j < i → slice_get lines j ≡ slice_get due j) → TellsFirst (λ k. slice_get lines k ≡ slice_get due k) (Some i)
one_missing lines due i end more same = (
  λ e. let inside = slice_get_within lines i _ (e ∙ slice_get-get_or due i blank more) in absurd (omega (arith, inside, end)),
  same,
)
  where
    blank : ReportLine
    blank = record {
      phase = 0;
      partition = 0;
      live = record { slots = 0; bytes = 0 };
      quarantined = record { slots = 0; bytes = 0 };
      cached = record { slots = 0; bytes = 0 };
      root = record { slots = 0; bytes = 0 };
      committed = 0;
      reserved = 0;
      full = 0;
      active = 0;
      empty = 0;
      decommitted = 0;
    }

pub all_same : (lines due : List ReportLine) (i : ℕ) → length lines ≤ i → length due ≤ length lines
    → ((j : ℕ) → j < i → slice_get lines j ≡ slice_get due j) → TellsFirst (λ k. slice_get lines k ≡ slice_get due k) None
all_same lines due i end few same j = elim (cases_lt j i) [
  | inl before ↦ same j before
  | inr least ↦ slice_get_past lines j (omega (arith, end, least)) ∙ sym (slice_get_past due j (omega (arith, end, few, least)))
]

pub same_to : (lines due : List ReportLine) (i n : ℕ) → i ≡ n → ((j : ℕ) → j < n → slice_get lines j ≡ slice_get due j) → (j : ℕ) → j < i →
    slice_get lines j ≡ slice_get due j
same_to lines due i n e same j less = same j (omega (arith, e, less))
