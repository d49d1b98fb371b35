-- A worker and its queue at a place of the trace's lines, and line by line.
use Rattle.std.proofs.Common.{◌≡◌, ℕ, ◌+◌, ◌<◌, ◌≤◌, List, [], ◌∷◌, ◌++◌, length, map, take, get_or, refl, sym, ◌∙◌, ap, ap₂, subst, arith, inl, inr}
use Rattle.std.specs.Prelude.{Contains}
use Rattle.std.specs.List.{AllByRecursion}
use Rattle.std.proofs.lemmas.Bool.{eq-eqb, ne_eqb}
use Rattle.std.proofs.lemmas.List.{map-append, length_push}
use Rattle.std.proofs.lemmas.List.Elements.{Contains-append_cases}
use Rattle.pa_trace.specs.declared.script.Line.TheVariants.{Phase, Do}
use Rattle.pa_trace.specs.declared.script.Op.{Op}
use Rattle.pa_trace.specs.declared.script.Trace.{Trace}
use Rattle.pa_trace.specs.Limits.{IsOpWithin}
use Rattle.pa_trace.specs.Rules.{rules_of}
use Rattle.pa_record.specs.declared.entry.Entry.{Entry}
use Rattle.pa_lists.proofs.Members.{in_cases, not_in_none}
use Rattle.pa_region.specs.declared.view.View.{View}
use Rattle.pa_region.specs.Views.{stake_of}
use Rattle.pa_rules.specs.Played.{OpLine}
use Rattle.pa_totals.specs.Settled.{none_owed}
use Rattle.pa_op_specs.specs.Workers.{WorkerValue, worker_with_view}
use Rattle.pa_execution.specs.Courses.{lines_in}
use Rattle.pa_op_specs.proofs.Following.{some}
use Rattle.pa_execution.proofs.Playing.{stays, keeps_rules}
use Rattle.pa_runner.specs.declared.thread_lines.LineOp.{LineOp}
use Rattle.pa_runner.specs.Playing.{in_phase, AreBefore, RiseFrom, CanPlay, PlaysLines}
use Rattle.pa_runner.specs.Opening.{IsNewFor}
use Rattle.pa_runner.specs.Tracing.{lines_by}
use Rattle.pa_runner.specs.UnderWay.{RiseTo, IsAtPlace}
use Rattle.pa_runner.proofs.Tracing.{phase_at, phase_new, phase_same, here, line_mine, line_other, lines_by_more, lines_by_start}
use Rattle.pa_runner.proofs.Counted.{lines_with}
use Rattle.pa_runner.proofs.PlayedLines.{plays_count}

-- ---- lines that rise

rise_from : (n : ℕ) (ds : List LineOp) (last : ℕ) → RiseTo n ds last → RiseFrom n ds
rise_from n [] last up = tt
rise_from n (d ∷ ds) last up = (up.0, rise_from (d.line + 1) ds last up.1)

rise_more : (n : ℕ) (ds : List LineOp) (last : ℕ) → RiseTo n ds last → RiseTo n ds (last + 1)
rise_more n [] last up = omega arith
rise_more n (d ∷ ds) last up = (up.0, rise_more (d.line + 1) ds last up.1)

rise_push : (n : ℕ) (ds : List LineOp) (last : ℕ) (d : LineOp) → RiseTo n ds last → d.line ≡ last → RiseTo n (ds ++ d ∷ []) (last + 1)
rise_push n [] last d up is = (omega arith, omega arith)
rise_push n (x ∷ xs) last d up is = (up.0, rise_push (x.line + 1) xs last d up.1 is)

rise_low : (n : ℕ) (ds : List LineOp) (last : ℕ) → RiseTo n ds last → n ≤ last
rise_low n [] last up = up
rise_low n (d ∷ ds) last up =
    let first = up.0 in
    let again = rise_low (d.line + 1) ds last up.1 in
    omega arith

-- records of these lines are before the last
rise_before : (n : ℕ) (ds : List LineOp) (last : ℕ) (es : List Entry) → RiseTo n ds last →
    map (λ (e : Entry). e.line) es ≡ map (λ (d : LineOp). d.line) ds → AreBefore last es
rise_before n ds last [] up same e among = absurd (not_in_none e among)
rise_before n [] last (x ∷ es) up same e among = absurd cc
rise_before n (d ∷ ds) last (x ∷ es) up same e among =
    let here : x.line ≡ d.line = cc in
    let rest : map (λ (z : Entry). z.line) es ≡ map (λ (z : LineOp). z.line) ds = cc in
    let low = rise_low (d.line + 1) ds last up.1 in
    elim (in_cases x e es among) [
      | inl is ↦ subst (λ (z : Entry). z.line < last) is (omega arith)
      | inr later ↦ rise_before (d.line + 1) ds last es up.1 rest e later
    ]

all_push : (P : LineOp → Type 0) (xs : List LineOp) (x : LineOp) → AllByRecursion P xs → P x → AllByRecursion P (xs ++ x ∷ [])
all_push P [] x all one = (one, tt)
all_push P (y ∷ ys) x all one = (all.0, all_push P ys x all.1 one)

-- ---- a worker at a place

-- at the start
pub place_start : (t : Trace) (k : ℕ) (queue : List LineOp) (w : WorkerValue) →
    IsNewFor k t.partitions (rules_of t) (lines_by k t.lines) w → queue ≡ [] → IsAtPlace t 0 k queue w
place_start t k queue w begins none = subst (λ (q : List LineOp). IsAtPlace t 0 k q w) (sym none) (record {
  thread = begins.new.stock.thread_is;
  partitions = begins.new.stock.partitions_are;
  rules = ap₂ (λ version plain_from. record { version = version; plain_from = plain_from }) begins.new.stock.version_is
      begins.new.stock.plain_is;
  going = begins.new.going;
  stake =
      subst (λ (v : View). 0 < stake_of v w.stock.thread) (sym begins.new.stock.view)
      (subst (λ n. 0 < stake_of begins.view n) (sym begins.new.stock.thread_is) begins.stake);
  settled = begins.new.owed;
  room = begins.new.room;
  count = let e = ap (λ (es : List Entry). length es) begins.new.records in omega arith;
  limits = tt;
  rise = (0, λ e among. absurd (not_in_none e (subst (λ (es : List Entry). Contains es e) begins.new.records among)), omega arith);
  lines = refl;
})

-- a worker at its place can play its lines
pub place_ready : (t : Trace) (i k : ℕ) (queue : List LineOp) (w : WorkerValue) → IsAtPlace t i k queue w → CanPlay queue w
place_ready t i k queue w at = record {
  going = at.going;
  stake = at.stake;
  room = let c = at.count in let r = at.room in let s = lines_by_start k i t.lines in omega arith;
  limits = subst (λ p. AllByRecursion (λ (due : LineOp). IsOpWithin p due.op) queue) (sym at.partitions) at.limits;
  rise = let (n, before, up) = at.rise in (n, before, rise_from n queue (i + 2) up);
}

module _ (t : Trace) (i : ℕ) (low : i < length t.lines) where
  -- a line of a thread is put into its queue
  module _ (thread : ℕ) (op : Op) (is : get_or t.lines i Phase ≡ Do thread op) where
    abbrev due : LineOp
    due = record { line = i + 2; op = op }

    pub place_mine : (queue : List LineOp) (w : WorkerValue) → IsOpWithin t.partitions op → IsAtPlace t i thread queue w →
        IsAtPlace t (i + 1) thread (queue ++ due ∷ []) w
    place_mine queue w within at = record {
      thread = at.thread;
      partitions = at.partitions;
      rules = at.rules;
      going = at.going;
      stake = at.stake;
      settled = at.settled;
      room = at.room;
      count =
          let a : lines_by thread (take (i + 1) t.lines) ≡ lines_by thread (take i t.lines) + 1 =
          lines_with i t.lines Phase (Do thread op) thread low is ∙
          (lines_by_more thread (take i t.lines) (Do thread op) ∙ rw (eq-eqb thread thread refl) refl) in
          let b = length_push queue due in
          let c = at.count in
          omega arith;
      limits = all_push (λ (d : LineOp). IsOpWithin t.partitions d.op) queue due at.limits within;
      rise =
          let (n, before, up) = at.rise in
          let place : i + 2 + 1 ≡ i + 1 + 2 = omega arith in
          (n, before, subst (RiseTo n (queue ++ due ∷ [])) place (rise_push n queue (i + 2) due up refl));
      lines =
          subst (λ n. map (in_phase (rules_of t) n thread) (queue ++ due ∷ []) ≡ lines_in (rules_of t) (take (i + 1) t.lines) n thread)
          (sym (phase_same t.lines i low thread op is))
          (map-append (in_phase (rules_of t) (phase_at i t.lines) thread) queue (due ∷ [])
          ∙ (ap (λ (os : List OpLine). os ++ here t.lines i low thread op is (rules_of t) ∷ []) at.lines ∙
          sym (line_mine t.lines i low thread op is (rules_of t))));
    }

    pub place_other : (k : ℕ) (queue : List LineOp) (w : WorkerValue) → (k ≡ thread → ⊥) →
        IsAtPlace t i k queue w → IsAtPlace t (i + 1) k queue w
    place_other k queue w ne at = record {
      thread = at.thread;
      partitions = at.partitions;
      rules = at.rules;
      going = at.going;
      stake = at.stake;
      settled = at.settled;
      room = at.room;
      count =
          let a : lines_by k (take (i + 1) t.lines) ≡ lines_by k (take i t.lines) + 0 =
          lines_with i t.lines Phase (Do thread op) k low is ∙
          (lines_by_more k (take i t.lines) (Do thread op) ∙ rw (ne_eqb thread k (λ e. ne (sym e))) refl) in
          let c = at.count in
          omega arith;
      limits = at.limits;
      rise =
          let (n, before, up) = at.rise in
          let place : i + 2 + 1 ≡ i + 1 + 2 = omega arith in
          (n, before, subst (RiseTo n queue) place (rise_more n queue (i + 2) up));
      lines =
          subst (λ n. map (in_phase (rules_of t) n k) queue ≡ lines_in (rules_of t) (take (i + 1) t.lines) n k)
          (sym (phase_same t.lines i low thread op is))
          (at.lines ∙ sym (line_other t.lines i low thread op is (rules_of t) k ne));
    }

  -- a new phase begins: the worker played its lines, and has heard
  pub place_next : (k : ℕ) (queue : List LineOp) (w ended : WorkerValue) (v : View) → get_or t.lines i Phase ≡ Phase →
      IsAtPlace t i k queue w → PlaysLines queue w ended →
      ended.owed ≡ none_owed → 0 < stake_of v k → IsAtPlace t (i + 1) k [] (worker_with_view v ended)
  place_next k queue w ended v is at played settled has =
      let (xs, all, of) = played.plays 0 in
      let (thread, many) = stays w ended xs (some w ended xs all) in
      record {
        thread = thread ∙ at.thread;
        partitions = many ∙ at.partitions;
        rules = keeps_rules w ended xs (some w ended xs all) ∙ at.rules;
        going = played.going;
        stake = subst (λ n. 0 < stake_of v n) (sym (thread ∙ at.thread)) has;
        settled = settled;
        room = played.room ∙ at.room;
        count =
            let a : lines_by k (take (i + 1) t.lines) ≡ lines_by k (take i t.lines) + 0 =
            lines_with i t.lines Phase Phase k low is ∙ lines_by_more k (take i t.lines) Phase in
            let b = plays_count queue w ended played in
            let c = at.count in
            omega arith;
        limits = tt;
        rise = (i + 2, before, omega arith);
        lines = sym (phase_new t.lines i low (rules_of t) k is);
      }
    where
      before : AreBefore (i + 2) ended.records
      before e among =
          let (n, old, up) = at.rise in
          let (es, is', of) = played.records in
          elim (Contains-append_cases w.records es e (subst (λ (zs : List Entry). Contains zs e) is' among)) [
            | inl first ↦ let a = old e first in let b = rise_low n queue (i + 2) up in omega arith
            | inr later ↦ rise_before n queue (i + 2) es up of e later
          ]
