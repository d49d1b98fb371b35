-- At the end the records are as the rules ask.
use Rattle.std.proofs.Common.{◌≡◌, ℕ, ◌+◌, ◌<◌, ◌≤◌, inl, inr, List, [], ◌∷◌, length, Bool, true, false, cond, is_some, Contains, refl, sym, ap, ◌∙◌, arith, ltb, zero, suc}
use Rattle.std.proofs.lemmas.Bool.{cases_Bool, cases_lt, lt-ltb, le-ltb, and_left, and_right, and_from}
use Rattle.std.proofs.lemmas.List.Sums.{sum_by-cons}
use Rattle.pa_slot.specs.declared.word.SlotName.{SlotName}
use Rattle.pa_slot.specs.Count.{number_of}
use Rattle.pa_slot.specs.Run.{Mark, same_slot}
use Rattle.pa_slot.specs.Runs.{IsPath}
use Rattle.pa_slot.proofs.Runs.{run_of_path, runs_end, slots_of_runs, same_slot_yes}
use Rattle.pa_trace.specs.declared.script.Line.{Line}
use Rattle.pa_record.specs.declared.entry.Answer.{Answer}
use Rattle.pa_record.specs.declared.entry.Answer.TheVariants.{Made, Done, Value, Dangling, SecondFree, NotOwner, StaleReset, StaleUse, Nothing, Filled, NotRef, Shared, OutOfRange, TooLarge, Full, Swapped, Purged, Uncounted}
use Rattle.pa_record.specs.declared.history.CellEntry.{CellEntry}
use Rattle.pa_rules.specs.declared.played.Played.{Played}
use Rattle.pa_rules.specs.Played.{AreLines, marks_of}
use Rattle.pa_rules.specs.Registers.{RowsTo, usable_in, plain_in, no_regs}
use Rattle.pa_rules.specs.Order.{StandsBefore}
use Rattle.pa_rules.specs.Contents.{IsReadExact, IsReadAllowed}
use Rattle.pa_rules.specs.Seen.{IsBefore, Standing, Handing, Between, IsSeenInOrder}
use Rattle.pa_rules.specs.FileOrder.{is_step_before, steps_before}
use Rattle.pa_rules.specs.Report.{HasWord, last_word}
use Rattle.pa_rules.specs.Sizes.{usable_of}
use Rattle.pa_rules.proofs.Marking.{mark_line}
use Rattle.pa_rules.proofs.Numbering.{lines_rise}
use Rattle.pa_rules.proofs.Recorded.{records_are_lines}
use Rattle.pa_slot_effects.specs.Shown.{Shown}
use Rattle.pa_slot_effects.specs.Known.{facts_of, HasExchanged, IsToldTo}
use Rattle.pa_slot_effects.specs.Laws.{EndsRight}
use Rattle.pa_slot_effects.proofs.Histories.{exchanged_order, exchanged_cells}
use Rattle.pa_slot_effects.proofs.Lines.{played_phases}
use Rattle.pa_slot_effects.proofs.Rows.{rows_end, usable_made, plain_made}
use Rattle.pa_slot_effects.proofs.Words.{used_made}
use Rattle.pa_rules.proofs.Phases.{mark_in}
use Rattle.pa_rules.proofs.Rising.{steps_rise}

-- one mark's part of how many steps come before a line
one : SlotName → ℕ → Mark → ℕ
one s l m = cond {A = ℕ} (is_step_before s l m) 1 0

one_is : (s : SlotName) (l : ℕ) (m : Mark) (b : Bool) → is_step_before s l m ≡ b → one s l m ≡ cond {A = ℕ} b 1 0
unfolding one
one_is s l m b e = ap (λ x. cond {A = ℕ} x 1 0) e

steps_cons : (s : SlotName) (l : ℕ) (m : Mark) (ms : List Mark) → steps_before s l (m ∷ ms) ≡ one s l m + steps_before s l ms
unfolding one
steps_cons s l m ms = sum_by-cons (λ k. cond {A = ℕ} (is_step_before s l k) 1 0) m ms

none_before : (s : SlotName) (l : ℕ) (m : Mark) → l ≤ m.line → one s l m ≡ 0
none_before s l m le =
    one_is s l m false (and_right (same_slot m.slot s) _ (and_left (ltb m.line l) (is_some m.step) (le-ltb m.line l le)))

-- no fewer come before a later line
one_on : (s : SlotName) (l k : ℕ) (m : Mark) → l ≤ k → one s l m ≤ one s k m
one_on s l k m le = elim (cases_lt m.line l) [
  | inl lt ↦
      let low : ltb m.line l ≡ true = lt-ltb m.line l lt in
      let high : ltb m.line k ≡ true = lt-ltb m.line k (omega arith) in
      let e : is_step_before s l m ≡ is_step_before s k m = rw (low, high) refl in
      omega (arith, one_is s l m (is_step_before s k m) e, one_is s k m (is_step_before s k m) refl)
  | inr ge ↦ omega (arith, none_before s l m ge)
]

one_step : (s : SlotName) (k : ℕ) (m : Mark) → m.line < k → m.slot ≡ s → is_some m.step ≡ true → one s k m ≡ 1
one_step s k m lt at made =
    one_is s k m true (and_from (same_slot m.slot s) _ (same_slot_yes m.slot s at)
    (and_from (ltb m.line k) (is_some m.step) (lt-ltb m.line k lt) made))

-- if a step of slot s is on line l or later and before line k, more steps of s come before line k than before line l
steps_past : (s : SlotName) (l k : ℕ) (ms : List Mark) (m : Mark) → l ≤ m.line → m.line < k → Contains ms m → m.slot ≡ s →
    is_some m.step ≡ true
    → steps_before s l ms + 1 ≤ steps_before s k ms
steps_past s l k [] m le lt c at made = absurd (omega (arith, c.1))
steps_past s l k (n ∷ ms) m le lt (zero, c, same) at made =
    let low : one s l n ≡ 0 = ap (one s l) same ∙ none_before s l m le in
    let high : one s k n ≡ 1 = ap (one s k) same ∙ one_step s k m lt at made in
    omega (arith, steps_cons s l n ms, steps_cons s k n ms, low, high, steps_rise s l k ms (omega arith))
steps_past s l k (n ∷ ms) m le lt (suc i, c, same) at made =
    omega (
      arith,
      steps_cons s l n ms,
      steps_cons s k n ms,
      one_on s l k n (omega arith),
      steps_past s l k ms m le lt (i, omega (arith, c), same) at made,
    )

-- a record that is before another has a smaller line
module _ (ls : List Line) (ps : List Played) (a : Shown) (lines : AreLines a.rules ls ps)
    (h : HasExchanged a.cells a.held ps (length ls + 2)) where
  stands : (x y : Played) → Contains ps x → Contains ps y → StandsBefore x y → x.line < y.line
  stands x y c d (inl t) = t.1
  stands x y c d (inr p) = played_phases a.rules ls ps lines x y c d p

  before_line : (x y : Played) → Contains ps x → Contains ps y → IsBefore a.cells ps x y → x.line < y.line
  before_line x y c d (Standing s) = stands x y c d s
  before_line x y c d (Handing (k, j, e, f, one', two, here, there, gave)) =
      omega (arith, h.rising k j (j + 1) e f one' two (omega arith), here, there)
  before_line x z c d (Between y among s t) = omega (arith, before_line x y c among s, before_line y z among d t)

seen_in_file_order : (threads : ℕ) (ls : List Line) (ps : List Played) (a : Shown) → IsToldTo threads ls ps a → IsSeenInOrder a.cells ps
seen_in_file_order threads ls ps a h = record {
  ahead = λ x c b. let lt : x.line < x.line = before_line ls ps a h.lines h.exchanged x x c c b in omega (arith, lt);
  rising = λ x y m n c d b e f same.
      let lt : x.line < y.line = before_line ls ps a h.lines h.exchanged x y c d b in
      let among : Contains (marks_of ps) m = mark_in ps x m c e in
      let first : number_of m.found ≡ steps_before m.slot m.line (marks_of ps) = h.numbers.order m among in
      let then' : number_of n.found ≡ steps_before n.slot n.line (marks_of ps) = h.numbers.order n (mark_in ps y n d f) in
      let at : steps_before n.slot n.line (marks_of ps) ≡ steps_before m.slot n.line (marks_of ps) =
      ap (λ s. steps_before s n.line (marks_of ps)) (sym same) in
      let low : m.line < n.line = omega (arith, lt, mark_line x m e, mark_line y n f) in
      elim (cases_Bool (is_some m.step)) [
        | inl made ↦ rw made (omega (
          arith,
          first,
          then',
          at,
          steps_past m.slot m.line n.line (marks_of ps) m (omega arith) low among refl made,
        ))
        | inr look ↦ rw look (omega (arith, first, then', at, steps_rise m.slot m.line n.line (marks_of ps) (omega (arith, low))))
      ];
}

-- what was read exactly is allowed
allowed : (version : ℕ) (cells : ℕ → List CellEntry) (ps : List Played) (x : Played) (answer : Answer) → IsReadExact ps answer →
    IsReadAllowed (usable_of version) cells ps x answer
allowed version cells ps x (Made seen n) h = tt
allowed version cells ps x (Done seen) h = tt
allowed version cells ps x (Value seen value) h = inl h
allowed version cells ps x (Dangling seen value) h = h
allowed version cells ps x (SecondFree seen) h = tt
allowed version cells ps x (NotOwner seen) h = tt
allowed version cells ps x StaleReset h = tt
allowed version cells ps x (StaleUse seen) h = tt
allowed version cells ps x Nothing h = tt
allowed version cells ps x Filled h = tt
allowed version cells ps x NotRef h = tt
allowed version cells ps x (Shared seen) h = tt
allowed version cells ps x OutOfRange h = tt
allowed version cells ps x TooLarge h = tt
allowed version cells ps x (Full entry) h = tt
allowed version cells ps x (Swapped entry) h = tt
allowed version cells ps x (Purged slots) h = tt
allowed version cells ps x Uncounted h = tt

path_last_word : (ms : List Mark) (s : SlotName) (u : ℕ) (vs : List ℕ) (w : ℕ) → IsPath ms s u vs w → last_word u vs ≡ w
path_last_word ms s u [] w h = h
path_last_word ms s u (v ∷ vs) w h = path_last_word ms s v vs w h.5

word_at_end : (threads : ℕ) (ls : List Line) (ps : List Played) (a : Shown) → IsToldTo threads ls ps a → (s : SlotName) →
    HasWord ps s (a.word s)
word_at_end threads ls ps a h s =
    let k = h.runs.path s in (
      k.0,
      run_of_path (marks_of ps) s 0 k.0 (a.word s) (runs_end (marks_of ps) a.word s h.runs) k.1,
      sym (path_last_word (marks_of ps) s 0 k.0 (a.word s) k.1),
    )

-- the rows lead from empty registers to these
pub rows_told : (threads : ℕ) (ls : List Line) (ps : List Played) (a : Shown) → IsToldTo threads ls ps a →
    RowsTo (facts_of a.rules.version (usable_in ps) (plain_in ps) a.cells) no_regs ps a.regs
rows_told threads ls ps a h = rows_end a.rules.version a.word a.word a.usable (usable_in ps) a.plain (plain_in ps) a.cells a.cells (record {
  used = λ s u. u;
  sizes = λ s up.
      let m = used_made ps a.word s h.runs up in
      usable_made a.usable ps m.maker m.seen m.usable s h.sized m.among m.made m.slot;
  places = λ s up.
      let m = used_made ps a.word s h.runs up in
      plain_made a.plain ps m.maker m.seen m.usable s h.placed m.among m.made m.slot;
  exchanges = λ k j e i. i;
}) no_regs ps a.regs h.rows

pub ends_right : EndsRight
ends_right threads ls ps a h = record {
  rising = lines_rise a.rules ls ps h.lines;
  due = records_are_lines.due a.rules ls ps h.lines;
  cells = exchanged_cells a.cells a.held ps (length ls + 2) h.exchanged (played_phases a.rules ls ps h.lines);
  registers = (a.regs, rows_told threads ls ps a h);
  slots = slots_of_runs (marks_of ps) a.word h.runs;
  contents = λ x c. allowed a.rules.version a.cells ps x x.answer (h.contents.read x c);
  seen = seen_in_file_order threads ls ps a h;
  used = h.used;
  words = word_at_end threads ls ps a h;
  exchanges = exchanged_order a.cells a.held ps (length ls + 2) h.exchanged;
  numbers = h.numbers.order;
  exact = h.contents.read;
}
