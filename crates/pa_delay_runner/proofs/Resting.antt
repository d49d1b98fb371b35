-- After a delayed run each free slot that is out of its root is in a thread's lists or queue, so the closing seat has it free.
use Rattle.std.proofs.Common.{◌≡◌, ℕ, ◌<◌, ◌≤◌, List, [], ◌∷◌, Some, map, refl, sym, ◌∙◌, ap, subst, arith, inl, inr}
use Rattle.std.specs.Prelude.{Contains, All}
use Rattle.pa_lists.proofs.Elements.{all_from_members}
use Rattle.pa_lists.proofs.Joined.{map_cases}
use Rattle.pa_slot.specs.declared.title.Title.{Title}
use Rattle.pa_slot.specs.declared.word.SlotName.{SlotName}
use Rattle.pa_slot.specs.declared.word.Step.{Step}
use Rattle.pa_slot.specs.Run.{Mark, IsRunFrom}
use Rattle.pa_trace.specs.declared.script.Trace.{Trace}
use Rattle.pa_trace.specs.Rules.{rules_of}
use Rattle.pa_record.specs.declared.numbered.Numbered.{Numbered}
use Rattle.pa_record.specs.declared.report.ReportLine.{ReportLine}
use Rattle.pa_record.specs.Laws.{IsNameOut}
use Rattle.pa_record.specs.Root.{new_root, root_replayed}
use Rattle.pa_record.specs.Spans.{name_of}
use Rattle.pa_region.specs.declared.view.View.{View}
use Rattle.pa_region.specs.Views.{free_of, logged_of, names, counted_on}
use Rattle.pa_region.proofs.Cutting.{counted_names}
use Rattle.pa_region.proofs.SeenPart.{logged_mono}
use Rattle.pa_rules.specs.declared.played.Played.{Played}
use Rattle.pa_rules.specs.Caches.{Cache}
use Rattle.pa_rules.specs.Held.{IsStanding}
use Rattle.pa_rules.specs.Played.{marks_of}
use Rattle.pa_rules.specs.Report.{HasWord}
use Rattle.pa_rules.specs.Told.{Told}
use Rattle.pa_rules.proofs.Numbering.{lines_differ}
use Rattle.pa_rules.proofs.Running.{mark_from}
use Rattle.pa_logs.specs.Said.{sizes_in, LayersSay}
use Rattle.pa_logs.specs.Told.{ToldRecord, played_in}
use Rattle.pa_logs.specs.Touches.{title_of}
use Rattle.pa_logs.proofs.Saying.{are_lines, within, knows, steps, slots, pool, roots}
use Rattle.pa_logs.proofs.Sizing.{stands_made, is_partition}
use Rattle.pa_logs.proofs.StepMarks.{mark_step}
use Rattle.pa_cells.specs.declared.handle.Handle.{Handle}
use Rattle.pa_cells.specs.Cells.{Exchange}
use Rattle.pa_root.specs.Handing.{at_number_seen}
use Rattle.pa_delay.specs.Laws.{IsListed, IsQueued}
use Rattle.pa_delay.proofs.Waits.{waits_somewhere}
use Rattle.pa_op_specs.specs.Stocks.{listed_in, listed_slot, titles_in}
use Rattle.pa_heap.specs.Waiting.{waiting_in}
use Rattle.pa_execution.specs.Turns.{InTurn, turns_in}
use Rattle.pa_execution.specs.Courses.{Course}
use Rattle.pa_execution.specs.Lines.{IsLineBy}
use Rattle.pa_execution.specs.Merged.{told_by_turns, lists_at}
use Rattle.pa_execution.specs.Telling.{IsWholeRunBy}
use Rattle.pa_execution.proofs.Turning.{some_turn}
use Rattle.pa_delay_runner.specs.Course.{IsDelayedCourse}
use Rattle.pa_delay_runner.specs.Laws.{queues_at, HaveLists, WaitsFree}
use Rattle.pa_delay_runner.proofs.Leading.{has_lists, has_queue}
use Rattle.pa_delay_runner.proofs.Reporting.{seen_in_run, waits_in_run}
use Rattle.pa_delay_runner.proofs.Telling.{says, all_lead}

-- ---- a title that no log names

module _ (t : Trace) (r : Told) (v : View) (ts : List ToldRecord) (said : LayersSay t r v ts) (u : Title)
    (size : sizes_in t r (name_of u) ≡ u.len) (unnamed : logged_of v (names u) ≡ 0) where
  title_is : title_of (sizes_in t r) (name_of u) ≡ u
  title_is = with_length (sizes_in t r (name_of u)) size
    where
      with_length : (n : ℕ) → n ≡ u.len → record { start = u.start; len = n; born = u.born } ≡ u
      with_length n e = ap (λ m. record u { len = m }) e

  -- nobody stepped on it
  no_step : (m : Mark) (step : Step) → Contains (marks_of (played_in ts)) m → m.slot ≡ name_of u → m.step ≡ Some step → ⊥
  no_step m step among slot made =
      let (x, member, mark) = mark_from (played_in ts) m among in
      let (d, stepped, is) = mark_step x.line x.op x.answer m step mark made in
      let here : d.slot ≡ name_of u = sym (ap (λ (z : Mark). z.slot) is) ∙ slot in
      let below = ((steps t r v ts said (name_of u)).stand x d member stepped here).below in
      let chain = ((knows t r v ts said).all.chain (title_of (sizes_in t r) (name_of u))).all in
      let same : logged_of v (counted_on (title_of (sizes_in t r) (name_of u))) ≡ logged_of v (counted_on u) =
      ap (λ (z : Title). logged_of v (counted_on z)) title_is in
      let less = logged_mono v (counted_on u) (names u) (counted_names u) in
      omega arith

  word_is : (vs : List ℕ) → IsRunFrom (marks_of (played_in ts)) (name_of u) 0 vs → HasWord (played_in ts) (name_of u) 0
  word_is [] run = ([], run, refl)
  word_is (w ∷ vs) (m, step, first, can, next, more) = absurd (no_step m step first.among first.slot first.step)

-- ---- where it waits

module _ (bytes : ℕ) (t : Trace) (r : Told) (c : Course) (v : View) (xs : List Exchange) (waiting : ℕ → ℕ → List Handle)
    (run : IsWholeRunBy InTurn t r c v xs) (delayed : IsDelayedCourse bytes t (turns_in InTurn t) c waiting)
    (lines : (l : ReportLine) → Contains r.report l → IsLineBy InTurn t c v l)
    (frees : (k : ℕ) → k < t.threads → (u : Title) → free_of (c.ends (turns_in InTurn t) k).stock.view u ≤ free_of v u)
    (lists : HaveLists t c (turns_in InTurn t)) where
  abbrev n : ℕ
  n = turns_in InTurn t

  abbrev sizes : SlotName → ℕ
  sizes = sizes_in t r

  -- a slot in a thread's lists is free in the closing seat, and so is one in its queue
  listed_free : (k p : ℕ) (s : SlotName) → k < t.threads → IsListed s (lists_at t c n k) p → 0 < free_of v (title_of sizes s)
  listed_free k p s few (class, small, m, among, same) =
      let stock = (c.ends n k).stock in
      let there : Contains (listed_in stock p class) m =
      subst (λ (z : Cache). Contains (z p class) m) (has_lists bytes t r c v xs waiting run delayed n k few) among in
      let (w, listed, is) = map_cases (at_number_seen stock.view) (titles_in stock.caches p class) m there in
      let slot = seen_in_run bytes t r c v xs waiting run delayed n k (listed_slot p class w) (some_turn InTurn t) (omega arith) few
      ((lists k few).made p class w listed) in
      let title : title_of sizes s ≡ w = ap (title_of sizes) (sym same ∙ sym (ap (λ (z : Numbered). z.slot) is)) ∙ slot.title in
      let free = (lists k few).free p class w listed in
      let more = frees k few w in
      subst (λ (z : Title). 0 < free_of v z) (sym title) (omega arith)

  queued_free : (k : ℕ) (s : SlotName) → k < t.threads → IsQueued s (queues_at t c waiting n k) → 0 < free_of v (title_of sizes s)
  queued_free k s few (m, among, same) =
      let stock = (c.ends n k).stock in
      let low = some_turn InTurn t in
      let there : Contains (waiting_in stock (waiting n k)) m =
      subst (λ (z : List Numbered). Contains z m) (has_queue bytes t r c v xs waiting run delayed n k few) among in
      let (w, named, is) = map_cases (at_number_seen stock.view) (map (λ (h : Handle). h.title) (waiting n k)) m there in
      let (h, waits, title_is_w) = map_cases (λ (z : Handle). z.title) (waiting n k) w named in
      let slot = waits_in_run bytes t r c v xs waiting run delayed n k h low (omega arith) few waits in
      let name : name_of h.title ≡ s = ap name_of title_is_w ∙ (ap (λ (z : Numbered). z.slot) is ∙ same) in
      let title : title_of sizes s ≡ h.title = ap (title_of sizes) (sym name) ∙ slot.title in
      let free = ((delayed.holds n k low (omega arith) few).each h waits).apart.free in
      let more = frees k few h.title in
      subst (λ (z : Title). 0 < free_of v z) (sym title) (omega arith)

  -- a title that exists, is out of its root and is named by no log
  out_free : (p : ℕ) (u : Title) → IsStanding r.pools (r.roots p) u → IsNameOut (root_replayed r.pools (r.roots p) new_root) (name_of u) →
      sizes (name_of u) ≡ u.len → logged_of v (names u) ≡ 0 → 0 < free_of v u
  out_free p u stands out size unnamed =
      let ts = told_by_turns InTurn t c in
      let ps = played_in ts in
      let said = says bytes t r c v xs waiting run delayed lines in
      let ours = roots t r v ts said in
      let pools = pool t r v ts said in
      let (vs, goes, found) = slots t r v ts said (name_of u) in
      let below = is_partition t.region t.partitions ps r.pools r.roots ours pools p u
      (stands_made r.pools (r.roots p) u (said.roots.journals p) stands) in
      let threads : All (λ (x : Played). x.thread < t.threads) ps = all_from_members (λ (x : Played). x.thread < t.threads) ps (λ x among.
      let (y, there, is) = map_cases (λ (z : ToldRecord). z.played) ts x among in
      subst (λ (z : Played). z.thread < t.threads) is (within t r v ts said y there).thread) in
      let (k, few, somewhere) = waits_somewhere bytes t.region t.partitions t.threads p ps r.pools r.roots (lists_at t c n)
      (queues_at t c waiting n) (name_of u) 0 ours pools (lines_differ (rules_of t) t.lines ps (are_lines t r v ts said)) threads
      (slots t r v ts said) (all_lead bytes t r c v xs waiting run delayed) below out
      (word_is t r v ts said u size unnamed vs goes) (refl, refl) in
      subst (λ (z : Title). 0 < free_of v z) (title_is t r v ts said u size unnamed) (elim somewhere [
        | inl listed ↦ listed_free k p (name_of u) few listed
        | inr queued ↦ queued_free k (name_of u) few queued
      ])

pub waits_free : WaitsFree
waits_free bytes t r c v xs waiting run delayed lines frees lists p u stands out size unnamed =
    out_free bytes t r c v xs waiting run delayed lines frees lists p u stands out size unnamed
