-- The report of a delayed run, phase after phase, and as turns follow and the main seat asks roots.
use Rattle.std.proofs.Common.{◌≡◌, ℕ, ◌+◌, ◌<◌, ◌≤◌, List, [], ◌++◌, length, map, refl, sym, ◌∙◌, ap, ap₂, subst, arith, inl, inr}
use Rattle.std.specs.Prelude.{Contains}
use Rattle.std.proofs.lemmas.Bool.{cases_eq}
use Rattle.std.proofs.lemmas.List.{map-append}
use Rattle.std.proofs.lemmas.List.Elements.{Contains-append_cases}
use Rattle.pa_lists.proofs.Members.{not_in_none}
use Rattle.pa_trace.specs.declared.script.Trace.{Trace}
use Rattle.pa_record.specs.declared.report.ReportLine.{ReportLine}
use Rattle.pa_record.specs.declared.report.Tally.{Tally}
use Rattle.pa_region.specs.declared.view.View.{View}
use Rattle.pa_region.specs.Aware.{IsAware}
use Rattle.pa_rules.specs.Caches.{listed_slots}
use Rattle.pa_rules.specs.Report.{listed_bytes, partitions_of, phases_of}
use Rattle.pa_cells.specs.declared.handle.Handle.{Handle}
use Rattle.pa_delay.specs.Queue.{queued_slots, queued_bytes}
use Rattle.pa_op_specs.specs.declared.counts.Count.{Count}
use Rattle.pa_op_specs.specs.Stocks.{listed_in}
use Rattle.pa_op_specs.specs.Workers.{WorkerValue}
use Rattle.pa_execution.specs.Turns.{InTurn, last_turn}
use Rattle.pa_execution.specs.Courses.{Course}
use Rattle.pa_execution.specs.Growing.{Agree, HasEndedBy, HasSeenMore}
use Rattle.pa_execution.proofs.Adding.{sum_same, added_same}
use Rattle.pa_runner.specs.Phases.{HaveTold, worker_in}
use Rattle.pa_runner.specs.Reporting.{HasAsked, IsTotalled}
use Rattle.pa_runner.proofs.Reported.{totals_still}
use Rattle.pa_runner.proofs.ReportLines.{HaveTheSame, left_same, told_same, one_more}
use Rattle.pa_delay_runner.specs.Course.{IsCachedWith}
use Rattle.pa_delay_runner.specs.Played.{IsReportedWith}
use Rattle.pa_delay_runner.specs.Going.{IsDelayedReportOf}

-- ---- a line says the same of workers and queues that have the same

module _ (threads : ℕ) (workers others : ℕ → WorkerValue) (same : HaveTheSame threads workers others) where
  totalled_same : (seat : View) (l : ReportLine) → IsTotalled threads workers seat l → IsTotalled threads others seat l
  totalled_same seat l line = record {
    live = left_same threads workers others same (λ (n : Count). n.issued) (λ (n : Count). n.freed) 0 1 l.partition seat l.live line.live;
    quarantined =
        left_same threads workers others same (λ (n : Count). n.entered) (λ (n : Count). n.left) 2 3 l.partition seat l.quarantined
        line.quarantined;
    root = line.root;
  }

  cached_same : (p : ℕ) (queues rows : ℕ → List Handle) (tally : Tally) → ((k : ℕ) → k < threads → rows k ≡ queues k) →
      IsCachedWith p threads workers queues tally → IsCachedWith p threads others rows tally
  cached_same p queues rows tally again cached = record {
    slots =
        cached.slots
        ∙ sym (sum_same (λ k. listed_slots (listed_in (workers k).stock p) 0 170 + queued_slots p (queues k))
        (λ k. listed_slots (listed_in (others k).stock p) 0 170 + queued_slots p (rows k)) threads
        (λ k low. ap₂ (λ lists hs. listed_slots (lists p) 0 170 + queued_slots p hs) (same.lists k low) (again k low)));
    bytes =
        cached.bytes
        ∙ sym (sum_same (λ k. listed_bytes (λ class. length (listed_in (workers k).stock p class)) 0 170 + queued_bytes p (queues k))
        (λ k. listed_bytes (λ class. length (listed_in (others k).stock p class)) 0 170 + queued_bytes p (rows k)) threads
        (λ k low. ap₂ (λ lists hs. listed_bytes (λ class. length (lists p class)) 0 170 + queued_bytes p hs)
        (same.lists k low) (again k low)));
  }

-- workers that are the same have the same
all_same : (threads : ℕ) (workers others : ℕ → WorkerValue) → ((k : ℕ) → k < threads → others k ≡ workers k) →
    HaveTheSame threads workers others
all_same threads workers others are = record {
  counts = λ k low. ap (λ (w : WorkerValue). w.counts) (are k low);
  lists = λ k low. ap (λ (w : WorkerValue). listed_in w.stock) (are k low);
}

-- what a line says of the totals words and the roots is so of a seat that asked since
totalled_still : (threads : ℕ) (workers : ℕ → WorkerValue) (seat next : View) (l : ReportLine) → IsAware seat → HasAsked seat next →
    IsTotalled threads workers seat l → IsTotalled threads workers next l
totalled_still threads workers seat next l aware asked line =
    totals_still threads workers seat next l asked.lists (added_same seat next aware asked.keeps.stakes asked.logs) line

-- ---- the report goes on

pub report_first : (t : Trace) (turns : ℕ) (c : Course) (waiting : ℕ → ℕ → List Handle) (report : List ReportLine) → report ≡ [] →
    IsDelayedReportOf t 0 turns c waiting report
report_first t turns c waiting report none = subst (IsDelayedReportOf t 0 turns c waiting) (sym none) (record {
  places = refl;
  within = λ l has. absurd (not_in_none l has);
  right = λ l has. absurd (not_in_none l has);
  cached = λ l has. absurd (not_in_none l has);
})

-- a turn follows
pub report_kept : (t : Trace) (phases n : ℕ) (c d : Course) (waiting rows : ℕ → ℕ → List Handle) (report : List ReportLine) → Agree n c d →
    ((m k : ℕ) → m ≤ n → rows m k ≡ waiting m k) → IsDelayedReportOf t phases n c waiting report →
    IsDelayedReportOf t phases (n + 1) d rows report
report_kept t phases n c d waiting rows report agree again old = record {
  places = old.places;
  within = λ l has. let high = old.within l has in omega arith;
  right = λ l has.
      let m = last_turn InTurn t l.phase in
      subst (λ (v : View). IsTotalled t.threads (d.ends m) v l) (sym (agree.seats m (omega arith) (old.within l has)))
      (totalled_same t.threads (c.ends m) (d.ends m) (same l has) (c.seats m) l (old.right l has));
  cached = λ l has.
      let m = last_turn InTurn t l.phase in
      cached_same t.threads (c.ends m) (d.ends m) (same l has) l.partition (waiting m) (rows m) l.cached
      (λ k low. again m k (old.within l has)) (old.cached l has);
}
  where
    same : (l : ReportLine) → Contains report l →
        HaveTheSame t.threads (c.ends (last_turn InTurn t l.phase)) (d.ends (last_turn InTurn t l.phase))
    same l has = all_same t.threads (c.ends (last_turn InTurn t l.phase)) (d.ends (last_turn InTurn t l.phase))
        (λ k low. agree.ends (last_turn InTurn t l.phase) k (omega arith) (old.within l has))

-- the main seat asks roots before the next turn
pub report_asked : (t : Trace) (phases n : ℕ) (c d : Course) (waiting : ℕ → ℕ → List Handle) (ends : ℕ → WorkerValue) (seat next : View)
    (report : List ReportLine) → HasSeenMore InTurn t n c d ends next → c.seats n ≡ seat → IsAware seat → HasAsked seat next →
    IsDelayedReportOf t phases n c waiting report → IsDelayedReportOf t phases n d waiting report
report_asked t phases n c d waiting ends seat next report more was aware asked old = record {
  places = old.places;
  within = old.within;
  right = λ l has.
      let m = last_turn InTurn t l.phase in
      let line = totalled_same t.threads (c.ends m) (d.ends m) (same m) (c.seats m) l (old.right l has) in
      elim (cases_eq m n) [
        | inl e ↦
            let first : c.seats m ≡ seat = ap c.seats e ∙ was in
            let then : d.seats m ≡ next = ap d.seats e ∙ more.ended.seat in
            subst (λ (v : View). IsTotalled t.threads (d.ends m) v l) (sym then)
            (totalled_still t.threads (d.ends m) seat next l aware asked
            (subst (λ (v : View). IsTotalled t.threads (d.ends m) v l) first line))
        | inr ne ↦ let high = old.within l has in
            subst (λ (v : View). IsTotalled t.threads (d.ends m) v l) (sym (more.seats m (omega arith))) line
      ];
  cached = λ l has.
      let m = last_turn InTurn t l.phase in
      cached_same t.threads (c.ends m) (d.ends m) (same m) l.partition (waiting m) (waiting m) l.cached (λ k low. refl) (old.cached l has);
}
  where
    same : (m : ℕ) → HaveTheSame t.threads (c.ends m) (d.ends m)
    same m = all_same t.threads (c.ends m) (d.ends m) (λ k low. more.same_ends m k)

-- a phase ended with the last turn, and has its lines
module _ (t : Trace) (phases n : ℕ) (c : Course) (waiting : ℕ → ℕ → List Handle) (ends after : List WorkerValue) (first seat : View)
    (queues : ℕ → List Handle) (before now : List ReportLine)
    (old : IsDelayedReportOf t phases n c waiting before)
    (ended : HasEndedBy InTurn t n c (worker_in ends) seat) (told : HaveTold t.threads ends after)
    (rows : (k : ℕ) → k < t.threads → waiting n k ≡ queues k) (last : last_turn InTurn t (phases + 1) ≡ n)
    (said : IsReportedWith (phases + 1) t.partitions t.threads (worker_in after) queues first seat before now) where
  here : (l : ReportLine) → Contains said.lines l → last_turn InTurn t l.phase ≡ n
  here l has = ap (last_turn InTurn t) (said.right l has).phase_is ∙ last

  same : HaveTheSame t.threads (worker_in after) (c.ends n)
  same =
      let then = told_same t.threads ends after told in
      record {
        counts = λ k low. ap (λ (w : WorkerValue). w.counts) (ended.ends k low) ∙ then.counts k low;
        lists = λ k low. ap (λ (w : WorkerValue). listed_in w.stock) (ended.ends k low) ∙ then.lists k low;
      }

  new_right : (l : ReportLine) → Contains said.lines l →
      IsTotalled t.threads (c.ends (last_turn InTurn t l.phase)) (c.seats (last_turn InTurn t l.phase)) l
  new_right l has =
      subst (λ m. IsTotalled t.threads (c.ends m) (c.seats m) l) (sym (here l has))
      (subst (λ (v : View). IsTotalled t.threads (c.ends n) v l) (sym ended.seat)
      (totalled_same t.threads (worker_in after) (c.ends n) same seat l (said.right l has).totals))

  new_cached : (l : ReportLine) → Contains said.lines l →
      IsCachedWith l.partition t.threads (c.ends (last_turn InTurn t l.phase)) (waiting (last_turn InTurn t l.phase)) l.cached
  new_cached l has =
      subst (λ m. IsCachedWith l.partition t.threads (c.ends m) (waiting m) l.cached) (sym (here l has))
      (cached_same t.threads (worker_in after) (c.ends n) same l.partition queues (waiting n) l.cached rows (said.right l has).cached)

  pub report_grows : IsDelayedReportOf t (phases + 1) n c waiting now
  report_grows = record {
    places =
        let e : phases + 1 ≡ 1 + phases = omega arith in
        ap (map (λ (l : ReportLine). (l.phase, l.partition))) said.behind
        ∙ (map-append (λ (l : ReportLine). (l.phase, l.partition)) before said.lines
        ∙ (ap (λ qs. qs ++ map (λ (l : ReportLine). (l.phase, l.partition)) said.lines) old.places
        ∙ (ap (λ qs. phases_of t.partitions 1 phases ++ qs) (said.places ∙ ap (λ m. partitions_of m 0 t.partitions) e) ∙
        sym (one_more t.partitions 1 phases))));
    within = λ l has. elim (Contains-append_cases before said.lines l (subst (λ (ls : List ReportLine). Contains ls l) said.behind has)) [
      | inl first ↦ old.within l first
      | inr last ↦ let is = here l last in omega arith
    ];
    right = λ l has. elim (Contains-append_cases before said.lines l (subst (λ (ls : List ReportLine). Contains ls l) said.behind has)) [
      | inl first ↦ old.right l first
      | inr last ↦ new_right l last
    ];
    cached = λ l has. elim (Contains-append_cases before said.lines l (subst (λ (ls : List ReportLine). Contains ls l) said.behind has)) [
      | inl first ↦ old.cached l first
      | inr last ↦ new_cached l last
    ];
  }
