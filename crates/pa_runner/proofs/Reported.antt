-- The lines of a phase's report, partition by partition.
use Rattle.std.proofs.Common.{◌≡◌, ℕ, zero, suc, ◌+◌, ◌-◌, ◌*◌, List, [], ◌∷◌, ◌++◌, refl, sym, ◌∙◌, ap, subst, arith, inl, inr, append-nil, append_assoc}
use Rattle.std.proofs.lemmas.Bool.{cases_eq, eq-eqb, ne_eqb}
use Rattle.std.proofs.lemmas.List.{map-append}
use Rattle.std.proofs.lemmas.List.Elements.{Contains-push_cases}
use Rattle.pa_record.specs.declared.census.Census.{Census}
use Rattle.pa_record.specs.declared.report.ReportLine.{ReportLine}
use Rattle.pa_record.specs.declared.report.Tally.{Tally}
use Rattle.pa_region.specs.declared.view.Made.{Made}
use Rattle.pa_region.specs.declared.view.View.{View}
use Rattle.pa_region.specs.Views.{HasEveryStake}
use Rattle.pa_region.specs.Lists.{list_of, IsBeginning}
use Rattle.pa_region.specs.Takes.{log_of}
use Rattle.pa_region.specs.Lending.{Keeps, Lends}
use Rattle.pa_region.specs.Aware.{IsAware}
use Rattle.pa_region.proofs.LendBack.{keeps_on}
use Rattle.pa_rules.specs.Report.{partitions_of, census_of}
use Rattle.pa_logs.specs.Said.{IsCensusBy}
use Rattle.pa_totals.specs.Settled.{added_in}
use Rattle.pa_op_specs.specs.declared.counts.Count.{Count}
use Rattle.pa_thread_state.specs.Censuses.{TellsCensus, HasSameLists}
use Rattle.pa_op_specs.specs.Workers.{WorkerValue}
use Rattle.pa_execution.specs.Lines.{IsLeftOf, IsLiveOf, IsQuarantinedOf}
use Rattle.pa_execution.proofs.Adding.{added_same}
use Rattle.pa_runner.specs.Reporting.{IsCountedBy, AreCountedBy, IsBalance, IsTotalled, IsLineFor, HasAsked, IsReported}

-- ---- what went in minus what went out

pub left_by : (into out : Count → ℕ) (i j p threads : ℕ) (workers : ℕ → WorkerValue) (seat : View) (a b bytes : ℕ) (t : Tally)
    → IsCountedBy into p threads workers a → IsCountedBy out p threads workers b →
    bytes ≡ added_in seat (4 * p + i) - added_in seat (4 * p + j) → t ≡ record { slots = a - b; bytes = bytes } →
    IsLeftOf into out i j p threads workers seat t
left_by into out i j p threads workers seat a b bytes t of_a of_b of_bytes left =
    let s = ap (λ (q : Tally). q.slots) left in
    record { slots = omega arith; bytes = ap (λ (q : Tally). q.bytes) left ∙ of_bytes }

-- both tallies of a line
pub live_by : (p threads : ℕ) (workers : ℕ → WorkerValue) (seat : View) (n : Count) (bytes : ℕ × ℕ) (t : Tally) →
    AreCountedBy p threads workers n → IsBalance p seat bytes →
    t ≡ record { slots = n.issued - n.freed; bytes = bytes.0 } → IsLiveOf p threads workers seat t
live_by p threads workers seat n bytes t of balance left =
    let e : 4 * p + 0 ≡ 4 * p = omega arith in
    left_by (λ (x : Count). x.issued) (λ (x : Count). x.freed) 0 1 p threads workers seat n.issued n.freed bytes.0 t of.issued of.freed
    (balance.live ∙ ap (λ k. added_in seat k - added_in seat (4 * p + 1)) (sym e)) left

pub quarantined_by : (p threads : ℕ) (workers : ℕ → WorkerValue) (seat : View) (n : Count) (bytes : ℕ × ℕ) (t : Tally) →
    AreCountedBy p threads workers n → IsBalance p seat bytes →
    t ≡ record { slots = n.entered - n.left; bytes = bytes.1 } → IsQuarantinedOf p threads workers seat t
quarantined_by p threads workers seat n bytes t of balance left =
    left_by (λ (x : Count). x.entered) (λ (x : Count). x.left) 2 3 p threads workers seat n.entered n.left bytes.1 t of.entered of.left
    balance.quarantined left

-- ---- a seat that asks

keeps_itself : (v : View) → Keeps v v
keeps_itself v = record {
  things = λ x. refl;
  floors = λ b n. refl;
  idle = λ t. refl;
  poisoned = λ t. refl;
  unclean = refl;
  budget = refl;
  stakes = λ k. refl;
  keepers = λ k. refl;
  leases = λ n. refl;
  words = λ q knows. refl;
  seen = λ t. omega arith;
  lists = λ k. ([], sym (append-nil (list_of k v)));
  undone = λ t. omega arith;
}

asked_nothing : (v : View) → HasAsked v v
asked_nothing v = record { keeps = keeps_itself v; logs = λ k. refl; lists = λ k. refl }

pub asked_every : (first seat : View) → HasAsked first seat → HasEveryStake first → HasEveryStake seat
asked_every first seat asked every k small = let s = asked.keeps.stakes k in let e = every k small in omega arith

pub asked_more : (r : ℕ) (first seat next : View) → HasAsked first seat → Lends r [] seat next →
    HasSameLists seat next → HasAsked first next
asked_more r first seat next asked lends same = record {
  keeps = keeps_on first seat next asked.keeps lends.keeps;
  logs = λ k. same_log k ∙ asked.logs k;
  lists = λ k. same k ∙ asked.lists k;
}
  where
    same_log : (k : ℕ) → log_of k next ≡ log_of k seat
    same_log k = elim (cases_eq k r) [
      | inl e ↦ lends.logs k ∙ (rw (eq-eqb k r e) (append-nil (log_of k seat)))
      | inr ne ↦ lends.logs k ∙ (rw (ne_eqb k r ne) (append-nil (log_of k seat)))
    ]

-- ---- lines

-- a census says the same of a seat that has the same lists
census_still : (p : ℕ) (c : Census) (seat next : View) → HasSameLists seat next → TellsCensus p seat c → TellsCensus p next c
census_still p c seat next same tells list pools begins pool =
    subst (λ (journal : List Made). IsCensusBy journal list c) (sym (same p))
    (tells list pools (subst (λ (ms : List Made). IsBeginning ms list) (same 4) begins) pool)

left_still : (into out : Count → ℕ) (i j p threads : ℕ) (workers : ℕ → WorkerValue) (seat next : View) (t : Tally) →
    ((k : ℕ) → added_in next k ≡ added_in seat k) →
    IsLeftOf into out i j p threads workers seat t → IsLeftOf into out i j p threads workers next t
left_still into out i j p threads workers seat next t same left =
    record { slots = left.slots; bytes = (let a = same (4 * p + i) in let b = same (4 * p + j) in let e = left.bytes in omega arith) }

pub totals_still : (threads : ℕ) (workers : ℕ → WorkerValue) (seat next : View) (l : ReportLine) → HasSameLists seat next →
    ((k : ℕ) → added_in next k ≡ added_in seat k) → IsTotalled threads workers seat l → IsTotalled threads workers next l
totals_still threads workers seat next l same added totals = record {
  live = left_still (λ (n : Count). n.issued) (λ (n : Count). n.freed) 0 1 l.partition threads workers seat next l.live added totals.live;
  quarantined =
      left_still (λ (n : Count). n.entered) (λ (n : Count). n.left) 2 3 l.partition threads workers seat next l.quarantined added
      totals.quarantined;
  root = census_still l.partition (census_of l) seat next same totals.root;
}

line_still : (phase threads : ℕ) (workers : ℕ → WorkerValue) (seat next : View) (l : ReportLine) → HasSameLists seat next →
    ((k : ℕ) → added_in next k ≡ added_in seat k) →
    IsLineFor phase threads workers seat l → IsLineFor phase threads workers next l
line_still phase threads workers seat next l same added line = record {
  phase_is = line.phase_is;
  totals = totals_still threads workers seat next l same added line.totals;
  cached = line.cached;
}

one_place : (phase p n : ℕ) → partitions_of phase p (n + 1) ≡ partitions_of phase p n ++ (phase, p + n) ∷ []
one_place phase p zero = let e : p ≡ p + 0 = omega arith in ap (λ q. (phase, q) ∷ []) e
one_place phase p (suc n) =
    let e : suc n + 1 ≡ suc (n + 1) = omega arith in
    let f : p + 1 + n ≡ p + suc n = omega arith in
    ap (partitions_of phase p) e ∙
    (ap (λ qs. (phase, p) ∷ qs) (one_place phase (p + 1) n) ∙
    ap (λ q. (phase, p) ∷ (partitions_of phase (p + 1) n ++ (phase, q) ∷ [])) f)

pub report_none : (phase threads : ℕ) (workers : ℕ → WorkerValue) (seat : View) (before : List ReportLine) →
    IsReported phase 0 threads workers seat seat before before
report_none phase threads workers seat before = record {
  asked = asked_nothing seat;
  lines = [];
  behind = sym (append-nil before);
  places = refl;
  right = λ l has. let low = has.1 in absurd (omega arith);
}

-- The seat asked one root more, and there is no line of it yet.
pub report_asked : (phase p r threads : ℕ) (workers : ℕ → WorkerValue) (first seat next : View) (before now : List ReportLine) →
    IsReported phase p threads workers first seat before now →
    IsAware first → HasEveryStake first → Lends r [] seat next → (HasEveryStake seat → HasSameLists seat next) →
    IsReported phase p threads workers first next before now
report_asked phase p r threads workers first seat next before now so aware every lends lists =
    let same = lists (asked_every first seat so.asked every) in
    let then = asked_more r first seat next so.asked lends same in
    let added : (k : ℕ) → added_in next k ≡ added_in seat k = λ k. added_same first next aware then.keeps.stakes then.logs k
    ∙ sym (added_same first seat aware so.asked.keeps.stakes so.asked.logs k) in
    record {
      asked = then;
      lines = so.lines;
      behind = so.behind;
      places = so.places;
      right = λ x has. line_still phase threads workers seat next x same added (so.right x has);
    }

pub report_more : (phase p r threads : ℕ) (workers : ℕ → WorkerValue) (first seat next : View) (before now after : List ReportLine)
    (l : ReportLine) → IsReported phase p threads workers first seat before now →
    IsAware first → HasEveryStake first → Lends r [] seat next → (HasEveryStake seat → HasSameLists seat next) →
    IsLineFor phase threads workers next l → l.partition ≡ p →
    after ≡ now ++ l ∷ [] →
    IsReported phase (p + 1) threads workers first next before after
report_more phase p r threads workers first seat next before now after l so aware every lends lists line at behind =
    let asked = report_asked phase p r threads workers first seat next before now so aware every lends lists in
    let place : (l.phase, l.partition) ≡ (phase, 0 + p) =
    (let f : l.partition ≡ 0 + p = omega arith in ap (λ n. (n, l.partition)) line.phase_is ∙ ap (λ q. (phase, q)) f) in
    record {
      asked = asked.asked;
      lines = asked.lines ++ l ∷ [];
      behind = behind ∙ (ap (λ ls. ls ++ l ∷ []) asked.behind ∙ append_assoc before asked.lines (l ∷ []));
      places =
          map-append (λ (x : ReportLine). (x.phase, x.partition)) asked.lines (l ∷ [])
          ∙ (ap (λ qs. qs ++ (l.phase, l.partition) ∷ []) asked.places ∙
          (ap (λ q. partitions_of phase 0 p ++ q ∷ []) place ∙ sym (one_place phase 0 p)));
      right = λ x has. elim (Contains-push_cases asked.lines l x has) [
        | inl old ↦ asked.right x old
        | inr e ↦ subst (IsLineFor phase threads workers next) e line
      ];
    }
