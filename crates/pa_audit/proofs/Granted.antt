-- What the clauses before a clause grant its checker; and that of places which aren't there nothing is asked.
use Rattle.std.proofs.Common.{◌≡◌, ℕ, ◌<◌, ◌≤◌, ◌^◌, List, [], length, get_or, zip, Some, sym, ◌∙◌, ap, subst, arith, inl, inr}
use Rattle.std.specs.Prelude.{All, slice_get, sum_by}
use Rattle.std.proofs.lemmas.Bool.{cases_lt}
use Rattle.std.proofs.lemmas.List.{get_or_past, length-map}
use Rattle.std.proofs.lemmas.List.Elements.{Contains-get_or}
use Rattle.std.proofs.lemmas.List.Sums.{sum_by_more_le}
use Rattle.std.proofs.lemmas.Slice.Zip.{length-zip}
use Rattle.std.proofs.lemmas.Option.{slice_get_within}
use Rattle.pa_slot.specs.declared.word.SlotName.{SlotName}
use Rattle.pa_trace.specs.declared.script.Trace.{Trace}
use Rattle.pa_trace.specs.Limits.{IsWithinLimits}
use Rattle.pa_trace.specs.Rules.{rules_of}
use Rattle.pa_trace.proofs.Versions.{region_most}
use Rattle.pa_trace.specs.declared.script.Rules.{Rules}
use Rattle.pa_rules.proofs.Ruling.{told_version, record_rules}
use Rattle.pa_rules.specs.Sizes.{HasClass}
use Rattle.pa_record.specs.declared.run.Run.{Run}
use Rattle.pa_record.specs.RunText.{history_of, journal_of}
use Rattle.pa_rules.specs.declared.played.Played.{Played}
use Rattle.pa_rules.specs.declared.verdict.Clause.TheVariants as clauses
use Rattle.pa_rules.specs.declared.verdict.Place.TheVariants as places
use Rattle.pa_rules.specs.Played.{AreDue, AreLines, beside, op_lines}
use Rattle.pa_rules.specs.Told.{records_of, told_by}
use Rattle.pa_rules.specs.RecordDemands.{CellsDemand, SlotsDemand}
use Rattle.pa_rules.specs.Verdicts.{Holds}
use Rattle.pa_rules.proofs.Recorded.{records_are_lines}
use Rattle.pa_rules.proofs.Within.{records_within}
use Rattle.pa_legal.proofs.Titling.{one_kind}
use Rattle.pa_verdict.proofs.Simple.{lines_are_places}
use Rattle.pa_verdict.proofs.Pool.{pool_is_places}
use Rattle.pa_verdict.proofs.Journals.{roots_are_places}
use Rattle.pa_audit_records.specs.Rows.{IsPlayedWithin}
use Rattle.pa_audit_records.proofs.Rising.{phased_played, records_are_within}
use Rattle.pa_audit_records.specs.Cuts.{RiseByPhase}
use Rattle.pa_audit_order.specs.Given.{MeetRegisters}
use Rattle.pa_audit_heap.specs.Ordered.{AreOfThreads16}
use Rattle.pa_audit_heap.specs.Replayed.{DoAllFit}
use Rattle.pa_audit_heap.proofs.Rising.{due_have_lines}
use Rattle.pa_audit_holders.specs.Homes.{HasOneHome}
use Rattle.pa_audit_holders.specs.Rows.{IsOfThreads}
use Rattle.pa_audit_report.specs.Given.{AreRecordsOf}
use Rattle.pa_audit.specs.Lined.{HasLines32}
use Rattle.pa_audit.proofs.Placing.{AsksThere}
use Rattle.pa_audit_report.proofs.Before.{names_within}

-- ---- records

pub all_within : (t : Trace) (r : Run) (ps : List Played) → AreRecordsOf t r ps → IsWithinLimits t → All IsPlayedWithin ps
all_within t r ps same limits = subst (λ qs. All IsPlayedWithin qs) (sym same) (records_are_within t r.entries.items limits)

pub phases_rise : (t : Trace) (r : Run) (ps : List Played) → AreRecordsOf t r ps → RiseByPhase ps
phases_rise t r ps same = subst RiseByPhase (sym same) (phased_played (rules_of t) t.lines r.entries.items)

pub are_due : (t : Trace) (r : Run) → Holds clauses.Lines t r → AreDue (rules_of t) t.lines r.entries.items
are_due t r holds = (lines_are_places t (told_by r)).1 holds

pub of_threads : (t : Trace) (r : Run) (ps : List Played) → AreRecordsOf t r ps → IsWithinLimits t →
    Holds clauses.Lines t r → AreOfThreads16 ps
of_threads t r ps same limits holds = subst AreOfThreads16 (sym same) (due_have_lines.threads t (told_by r) limits (are_due t r holds))

pub registers_held : (t : Trace) (r : Run) (ps : List Played) → AreRecordsOf t r ps → Holds clauses.Registers t r →
    MeetRegisters t.version (history_of r) ps
registers_held t r ps same holds = subst (MeetRegisters t.version (history_of r)) (sym same) (λ i. holds (places.Record i))

pub slots_held : (t : Trace) (r : Run) (ps : List Played) → AreRecordsOf t r ps → Holds clauses.Slots t r → (i : ℕ) →
    SlotsDemand ps (places.Record i)
slots_held t r ps same holds i = subst (λ qs. SlotsDemand qs (places.Record i)) (sym same) (holds (places.Record i))

pub swaps_held : (t : Trace) (r : Run) (ps : List Played) → AreRecordsOf t r ps → Holds clauses.Cells t r → (i : ℕ) →
    CellsDemand (history_of r) ps (places.Record i)
swaps_held t r ps same holds i = subst (λ qs. CellsDemand (history_of r) qs (places.Record i)) (sym same) (holds (places.Record i))

pub exchanges_held : (t : Trace) (r : Run) (ps : List Played) → AreRecordsOf t r ps → Holds clauses.Cells t r → (k j : ℕ) →
    CellsDemand (history_of r) ps (places.Cell k j)
exchanges_held t r ps same holds k j = subst (λ qs. CellsDemand (history_of r) qs (places.Cell k j)) (sym same) (holds (places.Cell k j))

pub all_of_threads : (t : Trace) (r : Run) (ps : List Played) → AreRecordsOf t r ps → IsWithinLimits t → Holds clauses.Lines t r →
    All (IsOfThreads t.version) ps
all_of_threads t r ps same limits holds k d below =
    let lines = subst (λ qs. AreLines (rules_of t) t.lines qs) (sym same)
    (records_are_lines.lines (rules_of t) t.lines r.entries.items (are_due t r holds)) in
    let (thread, op) = records_within t ps (get_or ps k d) limits lines (Contains-get_or ps k d below) in
    let few = limits.head.2 in (
      omega (arith, few, thread),
      names_within t.partitions (get_or ps k d).op limits.head.1.1 op,
      ap (λ (z : Rules). z.version) (record_rules (rules_of t) t.lines ps (get_or ps k d) lines (Contains-get_or ps k d below)),
    )

-- ---- the pool and the journals

pub region_few : (t : Trace) → IsWithinLimits t → t.region ≤ 64
region_few t limits = let most = region_most t.version in let region = limits.head.0.1 in omega (arith, region, most)

pub pool_fits : (t : Trace) (r : Run) → Holds clauses.Pool t r → DoAllFit t.region r.pool.items
pool_fits t r holds j e at = (holds (places.Pool j) e at).fits

pub homes_held : (t : Trace) (r : Run) → Holds clauses.Lines t r → Holds clauses.Pool t r → Holds clauses.Roots t r → (s : SlotName) →
    HasOneHome t.version (journal_of r) s
homes_held t r lines pool roots s =
    let u = told_by r in
    let due = are_due t r lines in
    let kind = one_kind t.region t.partitions (records_of t u) u.pools u.roots s ((roots_are_places t u due).1 roots)
    ((pool_is_places t u due).1 pool) in
    record {
      class = kind.class;
      real = λ p c of. let (x, among, has) = kind.real p c of in subst (λ v. HasClass v c) (told_version t u x among) has;
      direct = kind.direct;
      either = kind.either;
    }

-- ---- numbers of 32 bits

list_short : {A : Type 0} (xs : List (List A)) (p : ℕ) → length (get_or xs p []) ≤ sum_by length xs
list_short xs p = elim (cases_lt p (length xs)) [
  | inl there ↦ let most = sum_by_more_le length xs p [] there in omega (arith, most)
  | inr past ↦ let none = ap length (get_or_past xs p [] past) in omega (arith, none)
]

pub histories_short : (r : Run) → HasLines32 r → (k : ℕ) → length (history_of r k) < 2 ^ 32
histories_short r short k = let most = list_short r.cells.items k in omega (arith, most, short)

-- an exchange that isn't right is there
pub exchange_short : (r : Run) (ps : List Played) (k at : ℕ) → HasLines32 r →
    (CellsDemand (history_of r) ps (places.Cell k at) → ⊥) → at < 4294967296
exchange_short r ps k at short unmet = elim (cases_lt at (length (history_of r k))) [
  | inl less ↦ let few = histories_short r short k in omega (arith, less, few)
  | inr past ↦ absurd (unmet (λ e there. let within = slice_get_within (history_of r k) at e there in absurd (omega (arith, within, past))))
]

-- ---- places that aren't there

zip_short : {A B : Type 0} (xs : List A) (ys : List B) → length (zip xs ys) ≤ length ys
zip_short xs ys = let long = length-zip xs ys in omega (arith, long)

no_record : (t : Trace) (r : Run) (i : ℕ) (x : Played) → (i < length r.entries.items → ⊥) →
    slice_get (records_of t (told_by r)) i ≡ Some x → ⊥
no_record t r i x none at =
    let os = op_lines (rules_of t) 2 1 t.lines in
    let within = slice_get_within (records_of t (told_by r)) i x at in
    let long = length-map (zip os r.entries.items) beside in
    let few = zip_short os r.entries.items in
    none (omega (arith, within, long, few))

pub cells_rest : (t : Trace) (r : Run) → AsksThere clauses.Cells t r
cells_rest t r (places.Record i) none = λ x k reg at op. absurd (no_record t r i x none at)
cells_rest t r (places.Root p j) none = tt
cells_rest t r (places.Pool j) none = tt
cells_rest t r (places.Cell k j) none = λ e at. absurd (none (slice_get_within (history_of r k) j e at))
cells_rest t r (places.Report i) none = tt

pub pool_rest : (t : Trace) (r : Run) → AsksThere clauses.Pool t r
pool_rest t r (places.Record i) none = tt
pool_rest t r (places.Root p j) none = tt
pool_rest t r (places.Pool j) none = λ e at. absurd (none (slice_get_within r.pool.items j e at))
pool_rest t r (places.Cell k j) none = tt
pool_rest t r (places.Report i) none = tt

pub roots_rest : (t : Trace) (r : Run) → AsksThere clauses.Roots t r
roots_rest t r (places.Record i) none = λ x j reg p size at answer op. absurd (no_record t r i x none at)
roots_rest t r (places.Root p j) none = λ e at. absurd (none (slice_get_within (journal_of r p) j e at))
roots_rest t r (places.Pool j) none = tt
roots_rest t r (places.Cell k j) none = tt
roots_rest t r (places.Report i) none = tt

pub holders_rest : (t : Trace) (r : Run) → AsksThere clauses.Holders t r
holders_rest t r (places.Record i) none = λ x at. absurd (no_record t r i x none at)
holders_rest t r (places.Root p j) none = λ e at. absurd (none (slice_get_within (journal_of r p) j e at))
holders_rest t r (places.Pool j) none = tt
holders_rest t r (places.Cell k j) none = tt
holders_rest t r (places.Report i) none = tt
