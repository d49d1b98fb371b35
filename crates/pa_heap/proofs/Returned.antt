-- What is known of a reset or a free that returned its slot, whatever became of the slot then.
use Rattle.std.proofs.Common.{◌≡◌, ℕ, ◌+◌, ◌<◌, List, [], ◌∷◌, Option, Some, sym, ap, subst, inl}
use Rattle.std.specs.Prelude.{Contains}
use Rattle.pa_slot.specs.declared.word.SlotName.{SlotName}
use Rattle.pa_slot.specs.declared.word.Step.{Step}
use Rattle.pa_slot.specs.Count.{number_of}
use Rattle.pa_slot.specs.Run.{IsReturning}
use Rattle.pa_trace.specs.declared.script.Op.{Op}
use Rattle.pa_record.specs.declared.entry.Seen.{Seen}
use Rattle.pa_record.specs.declared.entry.Answer.TheVariants as answers
use Rattle.pa_record.specs.declared.numbered.Numbered.{Numbered}
use Rattle.pa_record.specs.Spans.{name_of}
use Rattle.pa_region.specs.declared.view.Entry.{Entry}
use Rattle.pa_region.specs.declared.view.Entry.TheVariants.{Counted}
use Rattle.pa_region.specs.declared.view.Made.{Made}
use Rattle.pa_region.specs.declared.view.View.{View}
use Rattle.pa_region.specs.Views.{free_of, seen_of}
use Rattle.pa_region.specs.Lists.{list_of, list_among, entered_in, made_with}
use Rattle.pa_region.specs.Takes.{log_of}
use Rattle.pa_rules.specs.declared.played.Played.{Played}
use Rattle.pa_rules.specs.Played.{mark_of_answer, mark_at, step_of}
use Rattle.pa_rules.specs.Registers.{Row}
use Rattle.pa_rules.specs.Caches.{Cache, CacheRow, DoneRow, ReturnRow}
use Rattle.pa_rules.specs.Roots.{Journals, IsFreeing}
use Rattle.pa_delay.specs.Delayed.{Waiting, DelayedReturn, DelayedDone, DelayedRow}
use Rattle.pa_logs.specs.Told.{ToldRecord}
use Rattle.pa_logs.specs.Touches.{IsStepTold, IsToldBy, title_of}
use Rattle.pa_logs.specs.Said.{ReadsIts}
use Rattle.pa_cells.specs.declared.handle.Handle.{Handle}
use Rattle.pa_cells.specs.Handles.{HasSeenMade}
use Rattle.pa_op_specs.specs.Stocks.{StockRegister, StockValue, regs_of, rules_at}
use Rattle.pa_op_specs.specs.Outcomes.{Outcome, row_facts}
use Rattle.pa_op_specs.specs.Entering.{EntersCells, HasSeenSome}
use Rattle.pa_op_specs.specs.Plays.{KeepsApart}
use Rattle.pa_thread_state.proofs.Looking.{seen_at}
use Rattle.pa_op_specs.proofs.Touching.{Touched}
use Rattle.pa_op_specs.specs.Owing.{bytes_through}
use Rattle.pa_op_specs.proofs.Quiet.{touched_apart}
use Rattle.pa_heap.proofs.Apart.{KeepsOthers, apart_both}

-- the slot of a handle, at the number that its step left
abbrev pub left_at : Handle → ℕ → Numbered
left_at h word = record { slot = name_of h.title; number = number_of word + 1 }

-- What is known of a reset or a free that returned its slot: its seat had the view w then, and these registers. The slot's title
-- wasn't free before.
pub record HasReturned (op : Op) (step : Step) (h : Handle) (word : ℕ) (s : StockValue) (w : View) (rs : List StockRegister) : Type 0 where
  pub freeing : IsFreeing op
  pub cells : (list : List Made) (x : ToldRecord) → entered_in 5 x.stretch ≡ [] → EntersCells op list x
  pub told : (sizes : SlotName → ℕ) (es : List Entry) → IsStepTold (title_of sizes (name_of h.title)) step word 0 es →
      IsToldBy sizes op (answers.Done (seen_at h word)) es
  pub long : bytes_through s.registers op ≡ h.title.len
  pub row : (o : Outcome) → Row (row_facts o) op (regs_of s.registers) (answers.Done (seen_at h word)) (regs_of rs)
  pub steps : step_of op ≡ Some step
  pub back : IsReturning step word
  pub reader : (o : Outcome) (x : ToldRecord) → ReadsIts o.sizes (regs_of s.registers) op x
  pub mark : (line : ℕ) → mark_of_answer line op (answers.Done (seen_at h word)) ≡ Some (mark_at line (seen_at h word) (Some step))
  pub touched : Touched s.thread (Counted h.title step word 0 ∷ []) s.view w
  pub held : 0 < free_of s.view h.title → ⊥
  pub number : seen_of w h.title ≡ number_of word + 1
  pub made : HasSeenMade h w
  pub own : (q : ℕ) → made_with s.thread (list_of q s.view) ≡ entered_in q (log_of s.thread s.view)

-- what was free and on no list stays so, if all else than the slot's title does from then on
pub returned_apart : (op : Op) (step : Step) (h : Handle) (word : ℕ) (s after : StockValue) (w : View) (rs : List StockRegister) →
    HasReturned op step h word s w rs → KeepsOthers h.title (record s { view = w; registers = rs }) after → KeepsApart s after
returned_apart op step h word s after w rs is others =
    apart_both h.title s (record s { view = w; registers = rs }) after
    (touched_apart s w rs s.caches (Counted h.title step word 0 ∷ []) is.touched (λ t alone. alone.off)) others
    (λ alone. is.held alone.free)

-- the seat had seen an entry in the journal of the slot's partition, as it had of any other in whose list it then sees one
pub seen_some : (op : Op) (step : Step) (h : Handle) (word : ℕ) (s : StockValue) (w : View) (rs : List StockRegister) →
    HasReturned op step h word s w rs → (q : ℕ) (m : Made) → Contains (list_of q w) m → HasSeenSome s.thread q s.view
seen_some op step h word s w rs is q m among = record {
  some = (m, subst (λ ls. Contains (list_among q ls) m) is.touched.lists among);
  own = is.own q;
}

pub seen_home : (op : Op) (step : Step) (h : Handle) (word : ℕ) (s : StockValue) (w : View) (rs : List StockRegister) →
    HasReturned op step h word s w rs → HasSeenSome s.thread h.partition s.view
seen_home op step h word s w rs is =
    let (m, e, among, says, out) = is.made.entry in seen_some op step h word s w rs is h.partition m among

-- the op's record, on this line and in this phase
abbrev pub played_at : (op : Op) (h : Handle) (word line phase : ℕ) (s : StockValue) → Played
played_at op h word line phase s =
    record { line = line; thread = s.thread; phase = phase; rules = rules_at s; op = op; answer = answers.Done (seen_at h word) }

-- the record leads the lists as the slot's return asks, and lists and queue if returned slots wait
module _ (op : Op) (step : Step) (h : Handle) (word : ℕ) (s : StockValue) (w : View) (rs : List StockRegister)
    (is : HasReturned op step h word s w rs) (partitions line phase : ℕ) (roots : Journals) where
  pub returned_leads : (cache after : Cache) → ReturnRow roots (played_at op h word line phase s) (left_at h word) cache after →
      CacheRow partitions roots (played_at op h word line phase s) (answers.Done (seen_at h word)) cache after
  returned_leads cache after row =
      subst (λ (o : Option Step). DoneRow roots (played_at op h word line phase s) o (seen_at h word) cache after) (sym is.steps)
      (inl (is.back, row))

  pub returned_delays : (bytes : ℕ) (before after : Waiting) →
      DelayedReturn bytes roots (played_at op h word line phase s) (left_at h word) before after →
      DelayedRow bytes partitions roots (played_at op h word line phase s) (answers.Done (seen_at h word)) before after
  returned_delays bytes before after row =
      subst (λ (o : Option Step). DelayedDone bytes roots (played_at op h word line phase s) o (seen_at h word) before after) (sym is.steps)
      (inl (is.back, row))

-- the answer of a step that was done is no refusal
pub not_full : (seen : Seen) (j : ℕ) → answers.Done seen ≡ answers.Full j → ⊥
not_full seen j e = cc

-- what was found is what the answer says
pub same_found : (h : Handle) (word : ℕ) (seen : Seen) → answers.Done (seen_at h word) ≡ answers.Done seen → word ≡ seen.found.0
same_found h word seen e = let same : seen_at h word ≡ seen = cc in ap (λ (z : Seen). z.found.0) same
