-- The lines of the report, phase after phase.
use Rattle.std.proofs.Common.{◌≡◌, ℕ, zero, suc, ◌+◌, ◌<◌, List, [], ◌++◌, length, map, refl, sym, ◌∙◌, ap, subst, arith, inl, inr, append-nil, append_assoc}
use Rattle.std.specs.Prelude.{Contains}
use Rattle.std.proofs.lemmas.List.{map-append}
use Rattle.std.proofs.lemmas.List.Elements.{Contains-append_cases}
use Rattle.pa_record.specs.declared.report.ReportLine.{ReportLine}
use Rattle.pa_record.specs.declared.report.Tally.{Tally}
use Rattle.pa_lists.proofs.Members.{not_in_none}
use Rattle.pa_region.specs.declared.view.View.{View}
use Rattle.pa_rules.specs.Caches.{listed_slots}
use Rattle.pa_rules.specs.Report.{listed_bytes, partitions_of, phases_of}
use Rattle.pa_trace.specs.declared.script.Trace.{Trace}
use Rattle.pa_op_specs.specs.declared.counts.Count.{Count}
use Rattle.pa_op_specs.specs.Counts.{counted_in}
use Rattle.pa_op_specs.specs.Stocks.{listed_in}
use Rattle.pa_op_specs.specs.Workers.{WorkerValue}
use Rattle.pa_execution.specs.Courses.{Course}
use Rattle.pa_execution.specs.Growing.{Agree, HasEnded}
use Rattle.pa_execution.specs.Gathering.{told_worker}
use Rattle.pa_execution.specs.Lines.{sum_over, IsLeftOf, IsCachedBy}
use Rattle.pa_execution.proofs.Adding.{sum_same}
use Rattle.pa_runner.specs.Phases.{HaveTold, worker_in}
use Rattle.pa_runner.specs.Reporting.{IsLineFor, IsReported}
use Rattle.pa_runner.specs.UnderWay.{IsReportOf}

-- ---- a line says the same of workers that counted the same and have the same lists

pub record HaveTheSame (threads : ℕ) (workers others : ℕ → WorkerValue) : Type 0 where
  pub counts : (k : ℕ) → k < threads → (others k).counts ≡ (workers k).counts
  pub lists : (k : ℕ) → k < threads → listed_in (others k).stock ≡ listed_in (workers k).stock

module _ (threads : ℕ) (workers others : ℕ → WorkerValue) (same : HaveTheSame threads workers others) where
  counts_same : (measure : Count → ℕ) (p : ℕ) →
      sum_over (λ k. measure (counted_in (others k).counts p)) threads ≡ sum_over (λ k. measure (counted_in (workers k).counts p)) threads
  counts_same measure p =
      sum_same (λ k. measure (counted_in (workers k).counts p)) (λ k. measure (counted_in (others k).counts p)) threads
      (λ k low. ap (λ (cs : List Count). measure (counted_in cs p)) (same.counts k low))

  pub left_same : (into out : Count → ℕ) (i j p : ℕ) (seat : View) (tally : Tally) → IsLeftOf into out i j p threads workers seat tally →
      IsLeftOf into out i j p threads others seat tally
  left_same into out i j p seat tally left = record {
    slots =
        let s = left.slots in
        let a = counts_same into p in
        let b = counts_same out p in
        omega arith;
    bytes = left.bytes;
  }

  cached_same : (p : ℕ) (tally : Tally) → IsCachedBy p threads workers tally → IsCachedBy p threads others tally
  cached_same p tally cached = record {
    slots =
        cached.slots
        ∙ sym (sum_same (λ k. listed_slots (listed_in (workers k).stock p) 0 170)
        (λ k. listed_slots (listed_in (others k).stock p) 0 170) threads
        (λ k low. ap (λ lists. listed_slots (lists p) 0 170) (same.lists k low)));
    bytes =
        cached.bytes
        ∙ sym (sum_same (λ k. listed_bytes (λ class. length (listed_in (workers k).stock p class)) 0 170)
        (λ k. listed_bytes (λ class. length (listed_in (others k).stock p class)) 0 170) threads
        (λ k low. ap (λ lists. listed_bytes (λ class. length (lists p class)) 0 170) (same.lists k low)));
  }

  line_same : (phase : ℕ) (seat : View) (l : ReportLine) → IsLineFor phase threads workers seat l → IsLineFor phase threads others seat l
  line_same phase seat l line = record {
    phase_is = line.phase_is;
    totals = record {
      live = left_same (λ (n : Count). n.issued) (λ (n : Count). n.freed) 0 1 l.partition seat l.live line.totals.live;
      quarantined =
          left_same (λ (n : Count). n.entered) (λ (n : Count). n.left) 2 3 l.partition seat l.quarantined line.totals.quarantined;
      root = line.totals.root;
    };
    cached = cached_same l.partition l.cached line.cached;
  }

-- workers that handed their stakes over have the same as before
pub told_same : (threads : ℕ) (ends after : List WorkerValue) → HaveTold threads ends after →
    HaveTheSame threads (worker_in after) (worker_in ends)
told_same threads ends after told = record {
  counts = λ k low. sym (ap (λ (w : WorkerValue). w.counts) (told.told k low));
  lists = λ k low. sym (ap (λ (w : WorkerValue). listed_in w.stock) (told.told k low) ∙ still k (worker_in ends k));
}
  where
    still : (k : ℕ) (w : WorkerValue) → listed_in (told_worker k w).stock ≡ listed_in w.stock
    still k w = refl

-- ---- one more phase

pub one_more : (partitions phase n : ℕ) →
    phases_of partitions phase (n + 1) ≡ phases_of partitions phase n ++ partitions_of (phase + n) 0 partitions
one_more partitions phase zero = let e : phase ≡ phase + 0 = omega arith in
    append-nil (partitions_of phase 0 partitions) ∙ ap (λ m. partitions_of m 0 partitions) e
one_more partitions phase (suc n) =
    let e : suc n + 1 ≡ suc (n + 1) = omega arith in
    let f : phase + 1 + n ≡ phase + suc n = omega arith in
    ap (phases_of partitions phase) e
    ∙ (ap (λ qs. partitions_of phase 0 partitions ++ qs) (one_more partitions (phase + 1) n)
    ∙ (sym (append_assoc (partitions_of phase 0 partitions) (phases_of partitions (phase + 1) n)
    (partitions_of (phase + 1 + n) 0 partitions))
    ∙ ap (λ m. phases_of partitions phase (suc n) ++ partitions_of m 0 partitions) f))

pub report_empty : (t : Trace) (c : Course) (report : List ReportLine) → report ≡ [] → IsReportOf t 0 c report
report_empty t c report none = subst (IsReportOf t 0 c) (sym none) (record {
  places = refl;
  within = λ l has. absurd (not_in_none l has);
  right = λ l has. absurd (not_in_none l has);
})

module _ (t : Trace) (n : ℕ) (c d : Course) (ends after : List WorkerValue) (first seat : View) (before now : List ReportLine)
    (old : IsReportOf t n c before) (agree : Agree n c d)
    (ended : HasEnded t (n + 1) d (worker_in ends) seat) (told : HaveTold t.threads ends after)
    (said : IsReported (n + 1) t.partitions t.threads (worker_in after) first seat before now) where
  old_right : (l : ReportLine) → Contains before l → IsLineFor l.phase t.threads (d.ends l.phase) (d.seats l.phase) l
  old_right l has =
      let (low, high) = old.within l has in
      subst (λ (v : View). IsLineFor l.phase t.threads (d.ends l.phase) v l) (sym (agree.seats l.phase low high))
      (line_same t.threads (c.ends l.phase) (d.ends l.phase) (record {
        counts = λ k few. ap (λ (w : WorkerValue). w.counts) (agree.ends l.phase k low high);
        lists = λ k few. ap (λ (w : WorkerValue). listed_in w.stock) (agree.ends l.phase k low high);
      }) l.phase (c.seats l.phase) l (old.right l has))

  new_right : (l : ReportLine) → Contains said.lines l → IsLineFor l.phase t.threads (d.ends l.phase) (d.seats l.phase) l
  new_right l has =
      let line = said.right l has in
      let is : l.phase ≡ n + 1 = line.phase_is in
      let ends_line : IsLineFor (n + 1) t.threads (worker_in ends) seat l =
      line_same t.threads (worker_in after) (worker_in ends) (told_same t.threads ends after told) (n + 1) seat l line in
      let course_line : IsLineFor (n + 1) t.threads (d.ends (n + 1)) seat l =
      line_same t.threads (worker_in ends) (d.ends (n + 1)) (record {
        counts = λ k few. ap (λ (w : WorkerValue). w.counts) (ended.ends k few);
        lists = λ k few. ap (λ (w : WorkerValue). listed_in w.stock) (ended.ends k few);
      }) (n + 1) seat l ends_line in
      subst (λ m. IsLineFor m t.threads (d.ends m) (d.seats m) l) (sym is)
      (subst (λ (v : View). IsLineFor (n + 1) t.threads (d.ends (n + 1)) v l) (sym ended.seat) course_line)

  pub report_grows : IsReportOf t (n + 1) d now
  report_grows = record {
    places =
        let e : n + 1 ≡ 1 + n = omega arith in
        ap (map (λ (l : ReportLine). (l.phase, l.partition))) said.behind
        ∙ (map-append (λ (l : ReportLine). (l.phase, l.partition)) before said.lines
        ∙ (ap (λ qs. qs ++ map (λ (l : ReportLine). (l.phase, l.partition)) said.lines) old.places
        ∙ (ap (λ qs. phases_of t.partitions 1 n ++ qs) (said.places ∙ ap (λ m. partitions_of m 0 t.partitions) e) ∙
        sym (one_more t.partitions 1 n))));
    within = λ l has. elim (Contains-append_cases before said.lines l (subst (λ (ls : List ReportLine). Contains ls l) said.behind has)) [
      | inl first ↦ let w = old.within l first in (w.0, let high = w.1 in omega arith)
      | inr last ↦ let is = (said.right l last).phase_is in (omega arith, omega arith)
    ];
    right = λ l has. elim (Contains-append_cases before said.lines l (subst (λ (ls : List ReportLine). Contains ls l) said.behind has)) [
      | inl first ↦ old_right l first
      | inr last ↦ new_right l last
    ];
  }
