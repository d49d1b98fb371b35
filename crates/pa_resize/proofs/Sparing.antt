-- The spare registers and the spare cell have nothing between any two pieces of a script.
use Rattle.std.proofs.Common.{◌≡◌, ℕ, ◌+◌, ◌<◌, List, [], ◌∷◌, ◌++◌, map, Option, Some, None, refl, sym, ap, ◌∙◌, subst, arith, inl, inr, append_assoc}
use Rattle.std.specs.List.{AllByRecursion, flat_map}
use Rattle.std.specs.Option.{option_map}
use Rattle.std.proofs.lemmas.Bool.{cases_eq, eq-eqb, ne_eqb}
use Rattle.std.proofs.lemmas.List.{append-nil}
use Rattle.std.proofs.lemmas.List.Concat.{flat_map-append}
use Rattle.pa_trace.specs.declared.script.Line.{Line}
use Rattle.pa_trace.specs.declared.script.Line.TheVariants.{Phase, Do}
use Rattle.pa_trace.specs.declared.script.Op.{Op}
use Rattle.pa_trace.specs.declared.script.Op.TheVariants as ops
use Rattle.pa_trace.specs.declared.script.Trace.{Trace}
use Rattle.pa_trace.specs.Limits.{IsWithinLimits}
use Rattle.pa_record.specs.declared.entry.Answer.{Answer}
use Rattle.pa_record.specs.declared.history.CellEntry.{CellEntry}
use Rattle.pa_script.specs.declared.script.ScriptLine.{ScriptLine}
use Rattle.pa_script.specs.declared.script.ScriptLine.TheVariants.{Plain, Resize}
use Rattle.pa_script.specs.Limits.{NamesFew, NamesFewIn, IsScriptLineWithin}
use Rattle.pa_rules.specs.declared.played.Played.{Played}
use Rattle.pa_rules.specs.declared.register.Register.TheVariants.{Empty}
use Rattle.pa_rules.specs.Changes.{change_of, changed}
use Rattle.pa_rules.specs.Legal.{IsFileTold}
use Rattle.pa_rules.specs.Registers.{Reg, Regs, AllRegs, Facts, RowsTo, no_regs, with_thread, facts_with}
use Rattle.pa_rules.specs.Sizes.{usable_of}
use Rattle.pa_rules.specs.Told.{Told, told_by, records_of}
use Rattle.pa_rules.proofs.Leading.{row_leads, rows_one}
use Rattle.pa_one_run.specs.Parts.{Parts, parts_of}
use Rattle.pa_one_run.proofs.Filed.{IsFiled}
use Rattle.pa_one_run.proofs.Legality.{filed}
use Rattle.pa_model.specs.Player.{AreRegsAfter}
use Rattle.pa_resize.specs.declared.verdict.Verdict.{Verdict}
use Rattle.pa_resize.specs.declared.verdict.Verdict.TheVariants.{NotOwn, Shared, TooLarge, Kept, NoRoom, Moved}
use Rattle.pa_resize.specs.Expansion.{did, spare, HasNoRoom, IsResized, ScriptPiece, IsRecordOf, IsPieceOf, ArePieces}
use Rattle.pa_resize.specs.Keeping.{LeadsOver, StandsBetween, IsSpareFree, SpareStaysFree}
use Rattle.pa_resize.proofs.Cells.{holds_first, holds_one, holds_same, stands_here, stands_next, parts_next}
use Rattle.pa_resize.proofs.Moving.{line_op}
use Rattle.pa_resize.proofs.Keeping.{moves_keep}

-- ---- which registers an op sets

one_kept : {A : Type 0} (regs : Regs) (reg : ℕ) (f : A → Reg) (o : Option A) → reg < spare →
    changed regs (option_map (λ m. (reg, f m)) o) spare ≡ regs spare
one_kept regs reg f None low = refl
one_kept regs reg f (Some m) low = rw (ne_eqb spare reg (λ e. omega (arith, e, low))) refl

-- an op of a script sets no spare register, and makes no exchange with the spare cell
few_kept : (cells : ℕ → List CellEntry) (op : Op) (answer : Answer) (regs : Regs) → NamesFewIn op →
    changed regs (change_of cells op answer) spare ≡ regs spare
few_kept cells (ops.Alloc reg partition size) answer regs low = one_kept regs reg _ _ low
few_kept cells (ops.Copy from to) answer regs low = one_kept regs to _ _ low.1
few_kept cells (ops.Reset reg) answer regs low = one_kept regs reg _ _ low
few_kept cells (ops.Free reg) answer regs low = one_kept regs reg _ _ low
few_kept cells (ops.Write reg value) answer regs low = refl
few_kept cells (ops.Read reg place) answer regs low = refl
few_kept cells (ops.Swap cell reg) answer regs low = one_kept regs reg _ _ low.1
few_kept cells ops.Purge answer regs low = refl

few_swaps : (op : Op) (i : ℕ) → NamesFewIn op → op ≡ ops.Swap spare i → ⊥
few_swaps (ops.Swap cell reg) i low is =
    let same : cell ≡ spare = cc in
    omega (arith, same, low.0)
few_swaps (ops.Alloc reg partition size) i low is = absurd cc
few_swaps (ops.Copy from to) i low is = absurd cc
few_swaps (ops.Reset reg) i low is = absurd cc
few_swaps (ops.Free reg) i low is = absurd cc
few_swaps (ops.Write reg value) i low is = absurd cc
few_swaps (ops.Read reg place) i low is = absurd cc
few_swaps ops.Purge i low is = absurd cc

-- if there was no room no register is set
full_kept : (cells : ℕ → List CellEntry) (reg partition size : ℕ) (answer : Answer) (regs : Regs) → HasNoRoom answer
    → changed regs (change_of cells (ops.Alloc reg partition size) answer) spare ≡ regs spare
full_kept cells reg partition size answer regs (entry, is) =
    ap (λ ans. changed regs (change_of cells (ops.Alloc reg partition size) ans) spare) is

-- ---- rows

rows_join : (facts : Facts) (all mid after : AllRegs) (xs ys : List Played) → RowsTo facts all xs mid → RowsTo facts mid ys after →
    RowsTo facts all (xs ++ ys) after
rows_join facts all mid after [] ys first then' = subst (λ (z : AllRegs). RowsTo facts z ys after) first then'
rows_join facts all mid after (x ∷ xs) ys (next, row, more) then' =
    (next, row, rows_join facts (with_thread all x.thread next) mid after xs ys more then')

rows_split : (facts : Facts) (all after : AllRegs) (xs ys : List Played) → RowsTo facts all (xs ++ ys) after →
    (mid : AllRegs) × RowsTo facts all xs mid × RowsTo facts mid ys after
rows_split facts all after [] ys h = (all, refl, h)
rows_split facts all after (x ∷ xs) ys (next, row, more) =
    let (mid, first, second) = rows_split facts (with_thread all x.thread next) after xs ys more in
    (mid, (next, row, first), second)

-- ---- a piece

module _ (t : Trace) (r : Told) (limits : IsWithinLimits t) (run : IsFileTold t r) where
  abbrev a : Parts
  a = parts_of t r

  abbrev h : IsFiled (parts_of t r)
  h = filed t r limits run

  free_none : (before xs rest : List Played) (regs mid : AllRegs) → xs ≡ [] → IsSpareFree r before (xs ++ rest) regs →
      LeadsOver (records_of t r) r regs xs mid
      → IsSpareFree r (before ++ xs) rest mid
  free_none before xs rest regs mid none free leads =
      let same : mid ≡ regs = subst (λ zs. LeadsOver (records_of t r) r regs zs mid) none leads in
      let here : IsSpareFree r before rest regs = subst (λ zs. IsSpareFree r before (zs ++ rest) regs) none free in
      let there : IsSpareFree r before rest mid = subst (IsSpareFree r before rest) (sym same) here in
      subst (λ zs. IsSpareFree r (before ++ zs) rest mid) (sym none)
      (subst (λ zs. IsSpareFree r zs rest mid) (sym (append-nil before)) there)

  free_one : (before rest : List Played) (z : Played) (regs mid : AllRegs) → records_of t r ≡ before ++ z ∷ rest
      → ((own : Regs) → changed own (change_of r.cells z.op z.answer) spare ≡ own spare) → ((i : ℕ) → z.op ≡ ops.Swap spare i → ⊥)
      → IsSpareFree r before (z ∷ rest) regs → LeadsOver (records_of t r) r regs (z ∷ []) mid → IsSpareFree r (before ++ z ∷ []) rest mid
  free_one before rest z regs mid parts kept apart free (next, row, end) =
      let F : Facts = facts_with (usable_of 1) (records_of t r) r.cells in
      let now : next spare ≡ regs z.thread spare =
      (row_leads F z.op (regs z.thread) z.answer next row).registers spare ∙ kept (regs z.thread) in
      record {
        register = λ i. ap (λ (q : AllRegs). q i spare) end ∙ elim (cases_eq i z.thread) [
          | inl e ↦
              let P : ℕ → Type 0 = λ j. with_thread regs z.thread next j spare ≡ Empty in
              subst P (sym e) (here_thread regs z.thread next ∙ (now ∙ free.register z.thread))
          | inr ne ↦ other_thread regs z.thread next i ne ∙ free.register i
        ];
        cell = λ n stands.
            holds_one a h (before ++ z ∷ []) rest n (z.line + 1) spare (parts_next a h before rest z parts) stands
            (stands_next a h before rest z parts)
            ∙ (holds_same a h before rest z parts spare apart ∙ free.cell z.line (stands_here a h before rest z parts));
      }
    where
      here_thread : (all : AllRegs) (th : ℕ) (next : Regs) → with_thread all th next th spare ≡ next spare
      here_thread all th next = rw (eq-eqb th th refl) refl

      other_thread : (all : AllRegs) (th : ℕ) (next : Regs) (i : ℕ) → (i ≡ th → ⊥) → with_thread all th next i spare ≡ all i spare
      other_thread all th next i ne = rw (ne_eqb i th ne) refl

  free_look : (before xs rest : List Played) (x : Played) (thread reg : ℕ) (regs mid : AllRegs) →
      records_of t r ≡ before ++ (xs ++ rest) → xs ≡ x ∷ []
      → did x ≡ Do thread (ops.Read reg 0) → IsSpareFree r before (xs ++ rest) regs → LeadsOver (records_of t r) r regs xs mid →
      IsSpareFree r (before ++ xs) rest mid
  free_look before xs rest x thread reg regs mid parts is look free leads =
      let op : x.op ≡ ops.Read reg 0 = line_op x thread (ops.Read reg 0) look in
      let kept : (own : Regs) → changed own (change_of r.cells x.op x.answer) spare ≡ own spare =
      λ own. ap (λ o. changed own (change_of r.cells o x.answer) spare) op in
      let apart : (i : ℕ) → x.op ≡ ops.Swap spare i → ⊥ = λ i e. read_swap reg i (sym op ∙ e) in
      subst (λ zs. IsSpareFree r (before ++ zs) rest mid) (sym is)
      (free_one before rest x regs mid (subst (λ zs. records_of t r ≡ before ++ (zs ++ rest)) is parts) kept apart
      (subst (λ zs. IsSpareFree r before (zs ++ rest) regs) is free) (subst (λ zs. LeadsOver (records_of t r) r regs zs mid) is leads))
    where
      read_swap : (i j : ℕ) → ops.Read i 0 ≡ ops.Swap spare j → ⊥
      read_swap i j e = cc

  free_full : (before rest : List Played) (x y : Played) (thread reg partition size : ℕ) (regs mid : AllRegs) →
      records_of t r ≡ before ++ x ∷ y ∷ rest
      → did x ≡ Do thread (ops.Read reg 0) → did y ≡ Do thread (ops.Alloc spare partition size) → HasNoRoom y.answer
      → IsSpareFree r before (x ∷ y ∷ rest) regs → LeadsOver (records_of t r) r regs (x ∷ y ∷ []) mid →
      IsSpareFree r (before ++ x ∷ y ∷ []) rest mid
  free_full before rest x y thread reg partition size regs mid parts look ask full free (next, row, more) =
      let one : AllRegs = with_thread regs x.thread next in
      let first = free_look before (x ∷ []) (y ∷ rest) x thread reg regs one parts refl look free (next, row, refl) in
      let op : y.op ≡ ops.Alloc spare partition size = line_op y thread (ops.Alloc spare partition size) ask in
      let kept : (own : Regs) → changed own (change_of r.cells y.op y.answer) spare ≡ own spare =
      λ own. ap (λ o. changed own (change_of r.cells o y.answer) spare) op ∙ full_kept r.cells spare partition size y.answer own full in
      let apart : (i : ℕ) → y.op ≡ ops.Swap spare i → ⊥ = λ i e. alloc_swap spare partition size i (sym op ∙ e) in
      subst (λ zs. IsSpareFree r zs rest mid) (append_assoc before (x ∷ []) (y ∷ []))
      (free_one (before ++ x ∷ []) rest y one mid (parts_next a h before (y ∷ rest) x parts) kept apart first more)
    where
      alloc_swap : (i j k l : ℕ) → ops.Alloc i j k ≡ ops.Swap spare l → ⊥
      alloc_swap i j k l e = cc

  free_resize : (v : Verdict) (before xs rest : List Played) (thread reg size : ℕ) (regs mid : AllRegs) →
      records_of t r ≡ before ++ (xs ++ rest) → reg < spare
      → IsResized v r.roots (regs thread reg) thread reg size xs → IsSpareFree r before (xs ++ rest) regs →
      LeadsOver (records_of t r) r regs xs mid
      → IsSpareFree r (before ++ xs) rest mid
  free_resize NotOwn before xs rest thread reg size regs mid parts low is free leads = free_none before xs rest regs mid is.1 free leads
  free_resize Shared before xs rest thread reg size regs mid parts low (o, x, look, some, is) free leads =
      free_look before xs rest x thread reg regs mid parts is look.line free leads
  free_resize TooLarge before xs rest thread reg size regs mid parts low (o, x, look, alone, large, is) free leads =
      free_look before xs rest x thread reg regs mid parts is look.line free leads
  free_resize Kept before xs rest thread reg size regs mid parts low (o, x, look, alone, small, same, is) free leads =
      free_look before xs rest x thread reg regs mid parts is look.line free leads
  free_resize NoRoom before xs rest thread reg size regs mid parts low (o, x, y, look, needs, ask, full, is) free leads =
      subst (λ zs. IsSpareFree r (before ++ zs) rest mid) (sym is)
      (free_full before rest x y thread reg o.partition size regs mid
      (subst (λ zs. records_of t r ≡ before ++ (zs ++ rest)) is parts) look.line ask full
      (subst (λ zs. IsSpareFree r before (zs ++ rest) regs) is free) (subst (λ zs. LeadsOver (records_of t r) r regs zs mid) is leads))
  free_resize Moved before xs rest thread reg size regs mid parts low (o, x, y, tail, look, needs, ask, room, moves, is) free leads =
      let kept = moves_keep t r before xs rest regs mid thread reg size limits run parts low
      (o, x, y, tail, look, needs, ask, room, moves, is) leads free in
      let here : records_of t r ≡ before ++ x ∷ (y ∷ tail ++ rest) = subst (λ zs. records_of t r ≡ before ++ (zs ++ rest)) is parts in
      let stands : StandsBetween x.line before (xs ++ rest) =
      subst (λ zs. StandsBetween x.line before (zs ++ rest)) (sym is) (stands_here a h before (y ∷ tail ++ rest) x here) in
      record {
        register = λ i. kept.others i spare (λ both. omega (arith, both.1, low)) ∙ free.register i;
        cell = λ n after. kept.cells x.line n spare stands after ∙ free.cell x.line stands;
      }

  free_plain : (l : Line) (before xs rest : List Played) (regs mid : AllRegs) →
      records_of t r ≡ before ++ (xs ++ rest) → NamesFew l → IsRecordOf l xs
      → IsSpareFree r before (xs ++ rest) regs → LeadsOver (records_of t r) r regs xs mid → IsSpareFree r (before ++ xs) rest mid
  free_plain Phase before xs rest regs mid parts low none free leads = free_none before xs rest regs mid none free leads
  free_plain (Do thread op) before xs rest regs mid parts low (z, at, is) free leads =
      let has : z.op ≡ op = line_op z thread op at in
      let low' : NamesFewIn z.op = subst NamesFewIn (sym has) low in
      subst (λ zs. IsSpareFree r (before ++ zs) rest mid) (sym is)
      (free_one before rest z regs mid (subst (λ zs. records_of t r ≡ before ++ (zs ++ rest)) is parts)
      (λ own. few_kept r.cells z.op z.answer own low') (λ i e. few_swaps z.op i low' e)
      (subst (λ zs. IsSpareFree r before (zs ++ rest) regs) is free) (subst (λ zs. LeadsOver (records_of t r) r regs zs mid) is leads))

  free_piece : (partitions threads : ℕ) (l : ScriptLine) (before xs rest : List Played) (lines : List Line) (verdict : Option Verdict)
      (regs mid : AllRegs)
      → records_of t r ≡ before ++ (xs ++ rest) → IsScriptLineWithin partitions threads l →
      IsPieceOf l (records_of t r) r before lines xs verdict
      → AreRegsAfter 1 (records_of t r) r before regs → IsSpareFree r before (xs ++ rest) regs → LeadsOver (records_of t r) r regs xs mid
      → IsSpareFree r (before ++ xs) rest mid
  free_piece partitions threads (Plain l) before xs rest lines verdict regs mid parts within piece after free leads =
      free_plain l before xs rest regs mid parts within.1 piece.1 free leads
  free_piece partitions threads (Resize thread reg size) before xs rest lines verdict regs mid parts within
      (v, has, made, other, then', is) after free leads =
      let F : Facts = facts_with (usable_of 1) (records_of t r) r.cells in
      let same : other ≡ regs = rows_one F no_regs other regs before then' after in
      let here : IsResized v r.roots (regs thread reg) thread reg size xs =
      subst (λ (q : AllRegs). IsResized v r.roots (q thread reg) thread reg size xs) same is in
      free_resize v before xs rest thread reg size regs mid parts within.1 here free leads

  -- ---- piece by piece

  abbrev recorded : List ScriptPiece → List Played
  recorded xs = flat_map (λ (x : ScriptPiece). x.records) xs

  walk : (partitions threads : ℕ) (before : List Played) (xs more : List ScriptPiece) (regs after : AllRegs) →
      records_of t r ≡ before ++ (recorded xs ++ recorded more)
      → AllByRecursion (λ (x : ScriptPiece). IsScriptLineWithin partitions threads x.line) xs →
      ArePieces (records_of t r) r before (xs ++ more)
      → AreRegsAfter 1 (records_of t r) r before regs → IsSpareFree r before (recorded xs ++ recorded more) regs →
      LeadsOver (records_of t r) r regs (recorded xs) after
      → IsSpareFree r (before ++ recorded xs) (recorded more) after
  walk partitions threads before [] more regs after parts within pieces at free leads =
      subst (λ zs. IsSpareFree r zs (recorded more) after) (sym (append-nil before))
      (subst (IsSpareFree r before (recorded more)) (sym leads) free)
  walk partitions threads before (x ∷ xs) more regs after parts within pieces at free leads =
      let F : Facts = facts_with (usable_of 1) (records_of t r) r.cells in
      let rest : List Played = recorded xs ++ recorded more in
      let assoc = append_assoc x.records (recorded xs) (recorded more) in
      let (mid, here, there) = rows_split F regs after x.records (recorded xs) leads in
      let parts' : records_of t r ≡ before ++ (x.records ++ rest) = subst (λ zs. records_of t r ≡ before ++ zs) assoc parts in
      let free' : IsSpareFree r before (x.records ++ rest) regs = subst (λ zs. IsSpareFree r before zs regs) assoc free in
      let next = free_piece partitions threads x.line before x.records rest x.lines x.verdict regs mid parts' within.0 pieces.0
      at free' here in
      let end = walk partitions threads (before ++ x.records) xs more mid after
      (parts' ∙ sym (append_assoc before x.records rest)) within.1 pieces.1
      (rows_join F no_regs regs mid before x.records at here) next there in
      subst (λ zs. IsSpareFree r zs (recorded more) after) (append_assoc before x.records (recorded xs)) end

-- ---- the law

within_all : (P : ScriptLine → Type 0) (xs more : List ScriptPiece) (ls : List ScriptLine) →
    map (λ (x : ScriptPiece). x.line) (xs ++ more) ≡ ls → AllByRecursion P ls
    → AllByRecursion (λ (x : ScriptPiece). P x.line) xs
within_all P [] more ls is all = tt
within_all P (x ∷ xs) more [] is all = absurd cc
within_all P (x ∷ xs) more (l ∷ ls) is all =
    let head : l ≡ x.line = cc in
    let tail : map (λ (y : ScriptPiece). y.line) (xs ++ more) ≡ ls = cc in
    (subst P head all.0, within_all P xs more ls tail all.1)

pub spare_stays_free : SpareStaysFree
spare_stays_free s t run verdicts first more regs within limits e cut after =
    let r : Told = told_by run in
    let R : ScriptPiece → List Played = λ x. x.records in
    let F : Facts = facts_with (usable_of 1) (records_of t r) r.cells in
    let parts : records_of t r ≡ flat_map R first ++ flat_map R more =
    sym e.records ∙ (ap (flat_map R) cut ∙ flat_map-append R first more) in
    let lines : map (λ (x : ScriptPiece). x.line) (first ++ more) ≡ s.lines = ap (map (λ (x : ScriptPiece). x.line)) (sym cut) ∙ e.script in
    let start : IsSpareFree r [] (flat_map R first ++ flat_map R more) no_regs = record {
      register = λ i. refl;
      cell = λ n stands. holds_first (parts_of t r) (filed t r limits e.file) (flat_map R first ++ flat_map R more) n spare parts stands;
    } in
    walk t r limits e.file s.partitions s.threads [] first more no_regs regs parts
    (within_all (IsScriptLineWithin s.partitions s.threads) first more s.lines lines within.lines)
    (subst (ArePieces (records_of t r) r []) cut e.each) refl start after
