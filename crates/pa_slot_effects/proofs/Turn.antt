-- A line more: what its op does to registers, cells, words and contents, and that with its record all is known again.
use Rattle.std.proofs.Common.{◌≡◌, ℕ, Bool, ◌+◌, ◌<◌, inl, inr, List, [], ◌∷◌, ◌++◌, length, Option, Some, None, Contains, refl, sym, ap, ◌∙◌, subst, arith, length-append}
use Rattle.std.proofs.Math.Path.{fun_ext}
use Rattle.std.proofs.lemmas.Bool.{cases_eq, eq-eqb, ne_eqb}
use Rattle.std.proofs.lemmas.List.Elements.{Contains-push_cases}
use Rattle.pa_slot.specs.declared.word.SlotName.{SlotName}
use Rattle.pa_slot.specs.declared.word.Step.{Step}
use Rattle.pa_slot.specs.Count.{number_of, held_of, refs_of, CanStep, stepped}
use Rattle.pa_slot.specs.Run.{Mark}
use Rattle.pa_slot.specs.Runs.{HasRuns}
use Rattle.pa_slot.proofs.Runs.{runs_look, runs_step, same_slot_cases, number_stepped}
use Rattle.pa_trace.specs.declared.script.Op.{Op}
use Rattle.pa_trace.specs.declared.script.Line.{Line}
use Rattle.pa_trace.specs.declared.script.Line.TheVariants.{Do}
use Rattle.pa_trace.specs.declared.script.Rules.{Rules}
use Rattle.pa_record.specs.declared.entry.Seen.{Seen}
use Rattle.pa_record.specs.declared.entry.Answer.{Answer}
use Rattle.pa_record.specs.declared.entry.Answer.TheVariants.{Made}
use Rattle.pa_record.specs.declared.history.CellEntry.{CellEntry}
use Rattle.pa_rules.specs.declared.played.Played.{Played}
use Rattle.pa_rules.specs.Played.{mark_of, marks_of, AreLines}
use Rattle.pa_rules.specs.Registers.{AllRegs, Row, no_regs, with_thread, is_plain_op}
use Rattle.pa_rules.specs.Cells.{IsExchange}
use Rattle.pa_slot_effects.specs.Shown.{Shown, AreHandles}
use Rattle.pa_slot_effects.specs.Known.{facts_of, RowsNamed, AreSized, ArePlaced, HasExchanged, HasNumbers, HasContents, IsToldTo}
use Rattle.pa_slot_effects.specs.Turns.{played_at, LeadsTo}
use Rattle.pa_slot_effects.proofs.Marking.{with_mark, marks_push, answer_line, line_or}
use Rattle.pa_slot_effects.proofs.Lines.{lines_more}
use Rattle.pa_slot_effects.proofs.Numbers.{numbers_later, numbers_look, numbers_step}
use Rattle.pa_slot_effects.proofs.Contents.{StepsTo}
use Rattle.pa_slot_effects.proofs.Rows.{rows_on, rows_push, used_on}

-- what a line reports of a slot: nothing, a look at a word that is in use, or a step
abbrev pub TellsBy : Option Step → Mark → (SlotName → ℕ) → (SlotName → ℕ) → Type 0
TellsBy None m word after = (m.found ≡ word m.slot) × (0 < held_of m.found + refs_of m.found) × (after ≡ word)
TellsBy (Some p) m word after = StepsTo m.slot p m.found word after

abbrev pub Tells : Option Mark → (SlotName → ℕ) → (SlotName → ℕ) → Type 0
Tells None word after = after ≡ word
Tells (Some m) word after = TellsBy m.step m word after

-- runs and numbers of these marks
pub record HasWords (ms : List Mark) (line : ℕ) (word : SlotName → ℕ) : Type 0 where
  pub runs : HasRuns ms word
  pub numbers : HasNumbers ms line word

words_by : (o : Option Step) (m : Mark) (ms : List Mark) (line : ℕ) (word after : SlotName → ℕ) → m.step ≡ o → HasWords ms line word →
    m.line ≡ line
    → TellsBy o m word after → HasWords (ms ++ m ∷ []) (line + 1) after
words_by None m ms line word after step h at (found, used, same) =
    let before : (k : Mark) → Contains ms k → k.line < m.line = λ k c. omega (arith, h.numbers.rising k c, at) in
    let P : (SlotName → ℕ) → Type 0 = λ w. HasWords (ms ++ m ∷ []) (line + 1) w in
    subst P (sym same) (record {
      runs = runs_look ms m word before found step h.runs;
      numbers = numbers_look ms m line word h.numbers at step found;
    })
words_by (Some p) m ms line word after step h at st =
    let before : (k : Mark) → Contains ms k → k.line < m.line = λ k c. omega (arith, h.numbers.rising k c, at) in
    record {
      runs = runs_step ms m p word after before st.found step st.can st.next st.others h.runs;
      numbers = numbers_step ms m p line word after h.numbers at step st.found st.can st.next st.others;
    }

words_more : (o : Option Mark) (ms : List Mark) (line : ℕ) (word after : SlotName → ℕ) → HasWords ms line word → line_or line o ≡ line
    → Tells o word after → HasWords (with_mark ms o) (line + 1) after
words_more None ms line word after h at same =
    let P : (SlotName → ℕ) → Type 0 = λ w. HasWords ms (line + 1) w in
    subst P (sym same) (record { runs = h.runs; numbers = numbers_later ms line word h.numbers })
words_more (Some m) ms line word after h at t = words_by m.step m ms line word after refl h at t

-- a word that isn't 0 stays so
pub step_up : (p : Step) (w : ℕ) → CanStep p w → 0 < stepped p w
step_up p w c =
    let up : number_of (stepped p w) ≡ number_of w + 1 = number_stepped p w c in
    omega (arith, up)

up_by : (o : Option Step) (m : Mark) (word after : SlotName → ℕ) → TellsBy o m word after → (s : SlotName) → 0 < word s → 0 < after s
up_by None m word after t s h = omega (arith, h, ap (λ (w : SlotName → ℕ). w s) t.2)
up_by (Some p) m word after st s h = elim (same_slot_cases s m.slot) [
  | inl e ↦ omega (arith, ap after e, st.next, step_up p m.found st.can)
  | inr ne ↦ omega (arith, st.others s ne, h)
]

pub stays_used : (o : Option Mark) (word after : SlotName → ℕ) → Tells o word after → (s : SlotName) → 0 < word s → 0 < after s
stays_used None word after t s h = omega (arith, h, ap (λ (w : SlotName → ℕ). w s) t)
stays_used (Some m) word after t s h = up_by m.step m word after t s h

looks_by : (o : Option Step) (m : Mark) (word after : SlotName → ℕ) → TellsBy o m word after → o ≡ None →
    0 < held_of m.found + refs_of m.found
looks_by None m word after t e = t.1
looks_by (Some p) m word after t e = absurd cc

looks_used : (o : Option Mark) (word after : SlotName → ℕ) → Tells o word after → (m : Mark) → o ≡ Some m → m.step ≡ None →
    0 < held_of m.found + refs_of m.found
looks_used None word after t m e none = absurd cc
looks_used (Some n) word after t m e none =
    let same : n ≡ m = cc in
    let P : Mark → Type 0 = λ k. k.step ≡ None → 0 < held_of k.found + refs_of k.found in
    (subst P same (λ z. looks_by n.step n word after t z)) none

-- What the record x of the next line does. Its exchange, if it is one, and its contents are stated for all records so far.
pub record IsTurn (threads : ℕ) (ps : List Played) (x : Played) (a b : Shown) : Type 0 where
  pub rules : b.rules ≡ a.rules
  pub row : Row (facts_of b.rules.version a.usable a.plain b.cells) x.op (a.regs x.thread) x.answer (b.regs x.thread)
  pub regs : b.regs ≡ with_thread a.regs x.thread (b.regs x.thread)
  pub usable : b.usable ≡ a.usable
  pub plain : b.plain ≡ a.plain
  pub sized : (seen : Seen) (n : ℕ) → x.answer ≡ Made seen n → n ≡ a.usable seen.slot
  pub placed : (seen : Seen) (n : ℕ) → x.answer ≡ Made seen n → is_plain_op x.rules x.op ≡ a.plain seen.slot
  pub stand : (k j : ℕ) (e : CellEntry) → IsExchange a.cells k j e → IsExchange b.cells k j e
  pub exchanged : HasExchanged b.cells b.held (ps ++ x ∷ []) (x.line + 1)
  pub tells : Tells (mark_of x) a.word b.word
  pub contents : HasContents (ps ++ x ∷ []) b.word b.content
  pub handles : AreHandles threads b

pub turn_extends : (threads : ℕ) (ls : List Line) (ps : List Played) (thread : ℕ) (op : Op) (answer : Answer) (a b : Shown) →
    IsToldTo threads ls ps a
    → IsTurn threads ps (played_at b.rules ls thread op answer) a b → LeadsTo threads ls ps thread op answer b
turn_extends threads ls ps thread op answer a b h t =
    let x = played_at b.rules ls thread op answer in
    let line = length ls + 2 in
    let qs = ps ++ x ∷ [] in
    let later : length (ls ++ Do thread op ∷ []) + 2 ≡ line + 1 = omega (arith, length-append ls (Do thread op ∷ [])) in
    let up = stays_used (mark_of x) a.word b.word t.tells in
    let words : HasWords (with_mark (marks_of ps) (mark_of x)) (line + 1) b.word =
    words_more (mark_of x) (marks_of ps) line a.word b.word (record { runs = h.runs; numbers = h.numbers })
    (answer_line line op answer) t.tells in
    let W : List Mark → Type 0 = λ ms. HasWords ms (line + 1) b.word in
    let all : HasWords (marks_of qs) (line + 1) b.word = subst W (sym (marks_push ps x)) words in
    let rows : RowsNamed b.rules.version b.word a.usable a.plain b.cells no_regs ps a.regs =
    subst (λ (k : Rules). RowsNamed k.version b.word a.usable a.plain b.cells no_regs ps a.regs) (sym t.rules)
    (rows_on a.rules.version a.word b.word a.usable a.usable a.plain a.plain a.cells b.cells
    (record { used = up; sizes = λ s u. refl; places = λ s u. refl; exchanges = t.stand }) no_regs ps a.regs h.rows) in
    let R : AllRegs → Type 0 = λ end. RowsNamed b.rules.version b.word a.usable a.plain b.cells no_regs qs end in
    let more : R b.regs = subst R (sym t.regs)
    (rows_push b.rules.version b.word a.usable a.plain b.cells no_regs ps a.regs x (b.regs thread) rows
    (λ r. used_on a.word b.word up (a.regs thread r) (h.handles.named thread r)) t.row) in
    let U : (SlotName → ℕ) → Type 0 = λ u. RowsNamed b.rules.version b.word u a.plain b.cells no_regs qs b.regs in
    let V : (SlotName → Bool) → Type 0 = λ v. RowsNamed b.rules.version b.word b.usable v b.cells no_regs qs b.regs in
    let S : (SlotName → ℕ) → Type 0 = λ u. AreSized u qs in
    let P : (SlotName → Bool) → Type 0 = λ v. ArePlaced v qs in
    let X : ℕ → Type 0 = λ l. HasExchanged b.cells b.held qs l in
    let N : ℕ → Type 0 = λ l. HasNumbers (marks_of qs) l b.word in
    let sized : AreSized a.usable qs = λ y seen n c e. elim (Contains-push_cases ps x y c) [
      | inl old ↦ h.sized y seen n old e
      | inr new ↦ t.sized seen n (ap (λ (z : Played). z.answer) new ∙ e)
    ] in
    let placed : ArePlaced a.plain qs = λ y seen n c e. elim (Contains-push_cases ps x y c) [
      | inl old ↦ h.placed y seen n old e
      | inr new ↦ ap (λ (z : Played). is_plain_op z.rules z.op) (sym new) ∙ t.placed seen n (ap (λ (z : Played). z.answer) new ∙ e)
    ] in
    record {
      lines = lines_more b.rules ls ps thread op answer (subst (λ (k : Rules). AreLines k ls ps) (sym t.rules) h.lines);
      rows = subst V (sym t.plain) (subst U (sym t.usable) more);
      sized = subst S (sym t.usable) sized;
      placed = subst P (sym t.plain) placed;
      exchanged = subst X (sym later) t.exchanged;
      runs = all.runs;
      numbers = subst N (sym later) all.numbers;
      contents = t.contents;
      used = λ y c m e none. elim (Contains-push_cases ps x y c) [
        | inl old ↦ h.used y old m e none
        | inr new ↦ looks_used (mark_of x) a.word b.word t.tells m (ap (λ (z : Played). mark_of z) new ∙ e) none
      ];
      handles = t.handles;
    }

-- the registers if none of the thread's is changed
pub same_regs : (regs : AllRegs) (thread : ℕ) → regs ≡ with_thread regs thread (regs thread)
same_regs regs thread = fun_ext (λ t. elim (cases_eq t thread) [
  | inl e ↦ rw (eq-eqb t thread e) (ap regs e)
  | inr ne ↦ rw (ne_eqb t thread ne) refl
])
