-- The law of what stays if nothing is moved.
use Rattle.std.proofs.Common.{◌≡◌, ℕ, ◌+◌, List, [], ◌∷◌, ◌++◌, None, refl, sym, ap, ◌∙◌, subst, append_assoc}
use Rattle.std.proofs.lemmas.List.{append-nil}
use Rattle.pa_slot.specs.declared.word.SlotName.{SlotName}
use Rattle.pa_trace.specs.declared.script.Line.TheVariants.{Do}
use Rattle.pa_trace.specs.declared.script.Op.TheVariants as ops
use Rattle.pa_trace.specs.declared.script.Trace.{Trace}
use Rattle.pa_trace.specs.Limits.{IsWithinLimits}
use Rattle.pa_rules.specs.declared.played.Played.{Played}
use Rattle.pa_rules.specs.Changes.{change_of, changed}
use Rattle.pa_rules.specs.Legal.{IsFileTold}
use Rattle.pa_rules.specs.Played.{mark_at, mark_of_answer}
use Rattle.pa_rules.specs.Registers.{Regs, AllRegs, Facts, with_thread, facts_with}
use Rattle.pa_rules.specs.Sizes.{usable_of}
use Rattle.pa_rules.specs.Told.{Told, records_of}
use Rattle.pa_rules.proofs.Leading.{row_leads}
use Rattle.pa_one_run.specs.Parts.{Parts, parts_of}
use Rattle.pa_one_run.specs.Before.{word_after}
use Rattle.pa_one_run.proofs.Filed.{IsFiled}
use Rattle.pa_one_run.proofs.Legality.{filed}
use Rattle.pa_one_run.proofs.words.Found.{word_same}
use Rattle.pa_resize.specs.declared.verdict.Verdict.TheVariants.{NotOwn, Shared, TooLarge, Kept, NoRoom, Moved}
use Rattle.pa_resize.specs.Expansion.{did, spare, Object, HasNoRoom, IsLook}
use Rattle.pa_resize.specs.Keeping.{LeadsOver, StandsBetween, IsAsBefore, OthersStay}
use Rattle.pa_resize.proofs.Setting.{same_left}
use Rattle.pa_resize.proofs.Cells.{holds_one, holds_same, stands_here, stands_next, parts_next}
use Rattle.pa_resize.proofs.Moving.{line_op, looked_word}

module _ (t : Trace) (r : Told) (limits : IsWithinLimits t) (run : IsFileTold t r) where
  abbrev a : Parts
  a = parts_of t r

  abbrev h : IsFiled (parts_of t r)
  h = filed t r limits run

  stay_none : (before xs rest : List Played) (regs mid : AllRegs) → records_of t r ≡ before ++ (xs ++ rest) → xs ≡ [] →
      LeadsOver (records_of t r) r regs xs mid
      → IsAsBefore r before xs rest regs mid
  stay_none before xs rest regs mid parts none leads =
      let same : mid ≡ regs = subst (λ zs. LeadsOver (records_of t r) r regs zs mid) none leads in
      let here : records_of t r ≡ before ++ rest = subst (λ zs. records_of t r ≡ before ++ (zs ++ rest)) none parts in
      let empty : IsAsBefore r before [] rest regs mid = record {
        registers = λ i k. ap (λ (q : AllRegs). q i k) same;
        cells = λ n m k first last. holds_one a h before rest m n k here
            (subst (λ zs. StandsBetween m zs rest) (append-nil before) last) first;
        words = λ s. ap (λ zs. word_after zs s) (append-nil before);
      } in
      subst (λ zs. IsAsBefore r before zs rest regs mid) (sym none) empty

  -- a record that sets no register, exchanges nothing, and makes no step
  stay_one : (before rest : List Played) (z : Played) (regs mid : AllRegs) → records_of t r ≡ before ++ z ∷ rest
      → ((own : Regs) (k : ℕ) → changed own (change_of r.cells z.op z.answer) k ≡ own k) → ((k i : ℕ) → z.op ≡ ops.Swap k i → ⊥)
      → ((s : SlotName) → word_after (before ++ z ∷ []) s ≡ word_after before s) → LeadsOver (records_of t r) r regs (z ∷ []) mid →
      IsAsBefore r before (z ∷ []) rest regs mid
  stay_one before rest z regs mid parts kept apart words (next, row, end) =
      let F : Facts = facts_with (usable_of 1) (records_of t r) r.cells in
      record {
        registers = λ i k. ap (λ (q : AllRegs). q i k) end
            ∙ same_left regs z.thread next
            (λ j. (row_leads F z.op (regs z.thread) z.answer next row).registers j ∙ kept (regs z.thread) j) i k;
        cells = λ n m k first last.
            holds_one a h (before ++ z ∷ []) rest m (z.line + 1) k (parts_next a h before rest z parts) last
            (stands_next a h before rest z parts)
            ∙ (holds_same a h before rest z parts k (apart k) ∙
            holds_one a h before (z ∷ rest) z.line n k parts (stands_here a h before rest z parts) first);
        words = words;
      }

  stay_look : (before rest : List Played) (x : Played) (thread reg : ℕ) (o : Object) (regs mid : AllRegs) →
      records_of t r ≡ before ++ x ∷ rest
      → IsLook r.roots (regs thread reg) thread reg o x → LeadsOver (records_of t r) r regs (x ∷ []) mid →
      IsAsBefore r before (x ∷ []) rest regs mid
  stay_look before rest x thread reg o regs mid parts look leads =
      let op : x.op ≡ ops.Read reg 0 = line_op x thread (ops.Read reg 0) look.line in
      stay_one before rest x regs mid parts (λ own k. ap (λ z. changed own (change_of r.cells z x.answer) k) op)
      (λ k i e. read_swap reg k i (sym op ∙ e))
      (λ s. looked_word a h before x (mark_at x.line o.seen None) s (ap (λ ans. mark_of_answer x.line x.op ans) look.answer) refl) leads
    where
      read_swap : (i k j : ℕ) → ops.Read i 0 ≡ ops.Swap k j → ⊥
      read_swap i k j e = cc

  stay_seen : (before xs rest : List Played) (x : Played) (thread reg : ℕ) (o : Object) (regs mid : AllRegs) →
      records_of t r ≡ before ++ (xs ++ rest) → xs ≡ x ∷ []
      → IsLook r.roots (regs thread reg) thread reg o x → LeadsOver (records_of t r) r regs xs mid → IsAsBefore r before xs rest regs mid
  stay_seen before xs rest x thread reg o regs mid parts is look leads =
      subst (λ zs. IsAsBefore r before zs rest regs mid) (sym is)
      (stay_look before rest x thread reg o regs mid (subst (λ zs. records_of t r ≡ before ++ (zs ++ rest)) is parts) look
      (subst (λ zs. LeadsOver (records_of t r) r regs zs mid) is leads))

  stay_full : (before rest : List Played) (x y : Played) (thread reg partition size : ℕ) (o : Object) (regs mid : AllRegs) →
      records_of t r ≡ before ++ x ∷ y ∷ rest
      → IsLook r.roots (regs thread reg) thread reg o x → did y ≡ Do thread (ops.Alloc spare partition size) → HasNoRoom y.answer
      → LeadsOver (records_of t r) r regs (x ∷ y ∷ []) mid → IsAsBefore r before (x ∷ y ∷ []) rest regs mid
  stay_full before rest x y thread reg partition size o regs mid parts look ask (entry, full) (next, row, more) =
      let one : AllRegs = with_thread regs x.thread next in
      let b1 : List Played = before ++ x ∷ [] in
      let p1 = parts_next a h before (y ∷ rest) x parts in
      let joined : b1 ++ y ∷ [] ≡ before ++ x ∷ y ∷ [] = append_assoc before (x ∷ []) (y ∷ []) in
      let first = stay_look before (y ∷ rest) x thread reg o regs one parts look (next, row, refl) in
      let op : y.op ≡ ops.Alloc spare partition size = line_op y thread (ops.Alloc spare partition size) ask in
      let kept : (own : Regs) (k : ℕ) → changed own (change_of r.cells y.op y.answer) k ≡ own k =
      λ own k. ap (λ z. changed own (change_of r.cells z y.answer) k) op ∙
      ap (λ ans. changed own (change_of r.cells (ops.Alloc spare partition size) ans) k) full in
      let second = stay_one b1 rest y one mid p1 kept (λ k i e. alloc_swap spare partition size k i (sym op ∙ e))
      (λ s. word_same b1 y s (ap (λ ans. mark_of_answer y.line y.op ans) full)) more in
      let stands = stands_here a h b1 rest y p1 in
      record {
        registers = λ i k. second.registers i k ∙ first.registers i k;
        cells = λ n m k start last. second.cells y.line m k stands (subst (λ zs. StandsBetween m zs rest) (sym joined) last) ∙
            first.cells n y.line k start stands;
        words = λ s. ap (λ zs. word_after zs s) (sym joined) ∙ (second.words s ∙ first.words s);
      }
    where
      alloc_swap : (i j l k n : ℕ) → ops.Alloc i j l ≡ ops.Swap k n → ⊥
      alloc_swap i j l k n e = cc

pub others_stay : OthersStay
others_stay t r before xs rest regs after thread reg size NotOwn limits run parts other is leads =
    stay_none t r limits run before xs rest regs after parts is.1 leads
others_stay t r before xs rest regs after thread reg size Shared limits run parts other (o, x, look, some, is) leads =
    stay_seen t r limits run before xs rest x thread reg o regs after parts is look leads
others_stay t r before xs rest regs after thread reg size TooLarge limits run parts other (o, x, look, alone, large, is) leads =
    stay_seen t r limits run before xs rest x thread reg o regs after parts is look leads
others_stay t r before xs rest regs after thread reg size Kept limits run parts other (o, x, look, alone, small, same, is) leads =
    stay_seen t r limits run before xs rest x thread reg o regs after parts is look leads
others_stay t r before xs rest regs after thread reg size NoRoom limits run parts other (o, x, y, look, needs, ask, full, is) leads =
    subst (λ zs. IsAsBefore r before zs rest regs after) (sym is)
    (stay_full t r limits run before rest x y thread reg o.partition size o regs after
    (subst (λ zs. records_of t r ≡ before ++ (zs ++ rest)) is parts) look ask full
    (subst (λ zs. LeadsOver (records_of t r) r regs zs after) is leads))
others_stay t r before xs rest regs after thread reg size Moved limits run parts other is leads = absurd (other refl)
