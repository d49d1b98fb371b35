-- A record of an exchange with a cell.
use Rattle.std.proofs.Common.{◌≡◌, ℕ, suc, ◌+◌, ◌*◌, ◌<◌, List, [], ◌∷◌, ◌++◌, slice_get, Option, Some, None, refl, sym, ◌∙◌, ap, subst, arith, ◌⊎◌, inl, inr}
use Rattle.std.specs.Prelude.{Contains}
use Rattle.std.proofs.lemmas.Bool.{cases_eq, cases_lt, eq-eqb, ne_eqb}
use Rattle.pa_slot.specs.declared.word.SlotName.{SlotName}
use Rattle.pa_machine.specs.Events.{State}
use Rattle.pa_trace.specs.declared.script.Op.TheVariants as ops
use Rattle.pa_record.specs.declared.history.CellEntry.{CellEntry}
use Rattle.pa_record.specs.declared.history.Held.{Held}
use Rattle.pa_record.specs.declared.history.Held.TheVariants as held
use Rattle.pa_lists.proofs.Members.{of_some, not_some, first_in, later_in}
use Rattle.pa_rules.specs.declared.register.Register.TheVariants.{Own, Ref}
use Rattle.pa_rules.specs.declared.played.Played.{Played}
use Rattle.pa_rules.specs.Played.{mark_of}
use Rattle.pa_rules.specs.Registers.{Row, with, reg_of}
use Rattle.pa_rules.specs.Caches.{SameLists, NoActs}
use Rattle.pa_rules.specs.Changes.{swapped_of}
use Rattle.pa_rules.proofs.Leading.{slot_in}
use Rattle.pa_one_run.specs.Parts.{Parts, cell_line}
use Rattle.pa_one_run.specs.Before.{below, root_at, facts_of, gave_last}
use Rattle.pa_one_run.proofs.lines.Sorting.{below_next, below_gap, in_below}
use Rattle.pa_one_run.proofs.lines.Cuts.{early_in, cut_here, exchange_made}
use Rattle.pa_one_run.proofs.Filed.{IsFiled}
use Rattle.pa_one_run.proofs.rows.Handles.{slot_held, holds_made}
use Rattle.pa_one_run.proofs.rows.Exchanges.{exchange_here, exchange_op, cell_steady}
use Rattle.pa_core_run.specs.Playing.{AreBeside}
use Rattle.pa_core_run.specs.Ledger.{IsShown}
use Rattle.pa_core_run.specs.Standing.{Standing, ledger_of}
use Rattle.pa_core_run.specs.Fronts.{MadeIn, titles_in, IsFrontOf}
use Rattle.pa_core_run.proofs.Acting.{play_none}
use Rattle.pa_core_run.proofs.Swapping.{IsExchanged, swap_stands}
use Rattle.pa_core_run.proofs.Named.{made_unique, HasTitle, made_title}
use Rattle.pa_core_run.proofs.NextFronts.{after_record, among, regs_left, row_here, cache_left, roots_left, lists_same, words_same, right_same}
use Rattle.pa_core_run.proofs.Records.{Outcome, few, shows_next, named_title}

-- the last of some exchanges and one more
gave_more : (first : Held) (es : List CellEntry) (e : CellEntry) → gave_last first (es ++ e ∷ []) ≡ e.gave
gave_more first [] e = refl
gave_more first (d ∷ es) e = gave_more d.gave es e

-- what was given last was given by an exchange, or nothing was
gave_by : (es : List CellEntry) (y : SlotName) → slot_held (gave_last held.Nothing es) ≡ Some y → (e : CellEntry) × Contains es e ×
    (slot_held e.gave ≡ Some y)
gave_by [] y names = absurd (not_some y names)
gave_by (e ∷ es) y names = go e es y names
  where
    go : (e : CellEntry) (es : List CellEntry) (y : SlotName) → slot_held (gave_last e.gave es) ≡ Some y → (d : CellEntry) ×
        Contains (e ∷ es) d × (slot_held d.gave ≡ Some y)
    go e [] y names = (e, first_in e [], names)
    go e (d ∷ es) y names = let (g, member, gave) = go d es y names in (g, later_in e g (d ∷ es) member, gave)

module _ (a : Parts) (before rest : List Played) (x : Played) (h : IsFiled a) (parts : a.ps ≡ before ++ x ∷ rest) (st : Standing)
    (f : IsFrontOf a x.line before (x ∷ rest) st) (s : State)
    (shown : IsShown (titles_in a (root_at a x.line)) (a.threads + 1) (2097152 * a.supers) (ledger_of a.partitions st) s) where
  abbrev swap_next : Standing
  swap_next = after_record a before x st (regs_left a before rest x h parts st f) (cache_left a before rest x h parts st f) st.content

  -- the title of what a cell holds
  cell_title : (k : ℕ) (y : SlotName) → slot_held (st.held k) ≡ Some y → HasTitle a y
  cell_title k y names =
      let (e, member, gave) = gave_by (below cell_line x.line (a.cells k)) y (ap slot_held (sym (f.cells k)) ∙ names) in
      let (there, less) = in_below cell_line x.line (a.cells k) e member in
      let (q, reg, within, line, op) = exchange_made a k e h there in
      let early = early_in a x.line before (x ∷ rest) q (cut_here a before rest x h parts) within (omega arith) in
      made_title a before (x ∷ rest) y h parts
      ((holds_made a before (x ∷ rest) st.regs h parts f.registers).cells k e q y there early (sym line) gave)

  held_slot : (v : Held) (y : SlotName) → (reg_of v ≡ Own y) ⊎ (reg_of v ≡ Ref y) → slot_held v ≡ Some y
  held_slot held.Nothing y (inl e) = absurd cc
  held_slot held.Nothing y (inr e) = absurd cc
  held_slot (held.Own z) y (inl e) = ap {B = Option SlotName} Some cc
  held_slot (held.Own z) y (inr e) = absurd cc
  held_slot (held.Ref z) y (inl e) = absurd cc
  held_slot (held.Ref z) y (inr e) = ap {B = Option SlotName} Some cc

  pub swap_plays : (cell reg : ℕ) → x.op ≡ ops.Swap cell reg → cell < 64 → reg < 64 → mark_of x ≡ None
      → SameLists (cache_left a before rest x h parts st f) (st.caches x.thread) → NoActs a.roots x.line
      → Outcome a before rest x h parts st f s shown
  swap_plays cell reg op cell_few reg_few unmarked lists none =
      let here = among a before rest x h parts st f in
      let (e, has) = exchange_here a x cell reg h here op in
      let (entry, d, is, at, gave, becomes) =
      subst (λ o. Row (facts_of a) o (st.regs x.thread) x.answer (regs_left a before rest x h parts st f)) op
      (row_here a before rest x h parts st f) in
      let place = of_some _ _ (ap swapped_of (sym is ∙ has.answer)) in
      let one : d ≡ e = of_some d e (sym at ∙ (ap (slice_get (a.cells cell)) place ∙ has.place)) in
      let found : d.found ≡ st.held cell = ap (λ (z : CellEntry). z.found) one ∙ (has.found ∙ sym (f.cells cell)) in
      let steady = cell_steady a cell h in
      let more : below cell_line (x.line + 1) (a.cells cell) ≡ below cell_line x.line (a.cells cell) ++ e ∷ [] =
      below_next cell_line x.line (x.line + 1) (a.cells cell) (omega arith) (λ z member up. omega arith) steady ∙
      ap (λ zs. below cell_line x.line (a.cells cell) ++ zs) has.only in
      let words = words_same a before rest x h parts st f (inl unmarked) in
      let exchanged : IsExchanged a.partitions st swap_next x.thread reg cell = record {
        few = reg_few;
        few_cells = cell_few;
        here = λ r. rw (eq-eqb x.thread x.thread refl) (becomes r ∙ ap (λ v. with (st.regs x.thread) reg (reg_of v) r) found);
        other = λ j ne r. rw (ne_eqb j x.thread ne) refl;
        held_here = ap (gave_last held.Nothing) more ∙
            (gave_more held.Nothing (below cell_line x.line (a.cells cell)) e ∙ (ap (λ (z : CellEntry). z.gave) (sym one) ∙ gave));
        held_other = λ c ne. ap (gave_last held.Nothing)
            (sym (below_gap cell_line x.line (x.line + 1) (a.cells c) (omega arith) (λ z member. elim (cases_eq z.line x.line) [
              | inl same ↦
                  let (r, swap) = exchange_op a x c z h here member same in
                  let both : ops.Swap cell reg ≡ ops.Swap c r = sym op ∙ swap in
                  let e2 : cell ≡ c = cc in
                  absurd (ne (sym e2))
              | inr apart ↦ elim (cases_lt z.line x.line) [ inl less ↦ inl less | inr up ↦ inr (omega arith) ]
            ]))) ∙ sym (f.cells c);
        lists = λ j y. lists_same a before rest x h parts st f st.content lists j y;
        words = words;
        contents = λ y. refl;
      } in
      let below_actors : suc x.thread < a.threads + 1 = (let low = few a before rest x h parts st f s shown in omega arith) in
      let goes = swap_stands a.partitions st swap_next x.thread reg cell exchanged (titles_in a (root_at a x.line)) (a.threads + 1)
      (2097152 * a.supers) s (made_unique a h) shown below_actors
      (λ y names. named_title a before rest x h parts st f s shown reg y
      (elim names [ inl own ↦ ap slot_in own | inr ref ↦ ap slot_in ref ]))
      (λ y names. cell_title cell y (held_slot (st.held cell) y names)) in
      let same : suc x.thread ≡ x.thread + 1 = omega arith in (
        goes.after,
        play_none (MadeIn a) x s goes.after goes.events unmarked shown.good goes.run
            (subst (λ k. AreBeside k goes.events) same goes.beside),
        shows_next a before rest x h parts st f s shown st.content goes.after (roots_left a before rest x h parts st f none)
            (right_same a before rest x h parts st f words) goes.shown,
      )
