-- What a log segment owes to the totals words, by the step that it has.
use Rattle.std.proofs.Common.{◌≡◌, ℕ, List, [], ◌∷◌, ◌++◌, Option, Some, None, refl, sym, ◌∙◌, ap, subst, arith}
use Rattle.std.specs.Prelude.{if◌then◌else◌}
use Rattle.std.specs.List.{sum_by}
use Rattle.std.proofs.lemmas.List.Sums.{sum_by-cons}
use Rattle.pa_slot.specs.declared.title.Title.{Title}
use Rattle.pa_slot.specs.declared.word.SlotName.{SlotName}
use Rattle.pa_slot.specs.declared.word.Step.{Step}
use Rattle.pa_slot.specs.declared.word.Step.TheVariants as steps
use Rattle.pa_trace.specs.declared.script.Op.{Op}
use Rattle.pa_record.specs.declared.entry.Seen.{Seen}
use Rattle.pa_record.specs.declared.entry.Answer.TheVariants as answers
use Rattle.pa_region.specs.declared.view.Entry.{Entry}
use Rattle.pa_region.specs.declared.view.Entry.TheVariants.{Counted, Looked, Read, Added, Entered, Uncut}
use Rattle.pa_region.specs.Totals.{is_of_kind, owes_as}
use Rattle.pa_rules.specs.Played.{step_of}
use Rattle.pa_logs.specs.Touches.{touches, title_of, value_by, done_step, AreLooks, IsStepTold, IsDoneTold}
use Rattle.pa_op_specs.specs.Owing.{bytes_stepped, owed_by, OwesOf}
use Rattle.pa_op_specs.specs.Stocks.{StockRegister}

-- if a log segment owes what its touches owe, it does with one more entry in front of both
owes_both : (q : ℕ) (e : Entry) (es : List Entry) → sum_by (owes_as q) es ≡ sum_by (owes_as q) (touches es) →
    sum_by (owes_as q) (e ∷ es) ≡ sum_by (owes_as q) (e ∷ touches es)
owes_both q e es same = let a = sum_by-cons (owes_as q) e es in let b = sum_by-cons (owes_as q) e (touches es) in omega arith

-- only steps owe
owes_touches : (q : ℕ) (es : List Entry) → sum_by (owes_as q) es ≡ sum_by (owes_as q) (touches es)
owes_touches q [] = refl
owes_touches q (Counted t step found value ∷ es) = owes_both q (Counted t step found value) es (owes_touches q es)
owes_touches q (Looked t found ∷ es) = owes_both q (Looked t found) es (owes_touches q es)
owes_touches q (Read t place value since owned unclean ∷ es) = owes_both q (Read t place value since owned unclean) es (owes_touches q es)
owes_touches q (Added word bytes ∷ es) = let e = owes_touches q es in let a = sum_by-cons (owes_as q) (Added word bytes) es in omega arith
owes_touches q (Entered keeper made ∷ es) = let e = owes_touches q es in let a = sum_by-cons (owes_as q) (Entered keeper made) es in
    omega arith
owes_touches q (Uncut t ∷ es) = let e = owes_touches q es in let a = sum_by-cons (owes_as q) (Uncut t) es in omega arith

owes_looks : (q : ℕ) (t : Title) (looks rest : List Entry) → AreLooks t looks → sum_by (owes_as q) (looks ++ rest) ≡ sum_by (owes_as q) rest
owes_looks q t [] rest are = refl
owes_looks q t (e ∷ es) rest ((found, is), more) =
    subst (λ (f : Entry). sum_by (owes_as q) (f ∷ (es ++ rest)) ≡ sum_by (owes_as q) rest) (sym is)
    (let a = owes_looks q t es rest more in let b = sum_by-cons (owes_as q) (Looked t found) (es ++ rest) in omega arith)

-- a segment that touches nothing owes nothing
pub owes_none : (q : ℕ) (es : List Entry) → touches es ≡ [] → sum_by (owes_as q) es ≡ 0
owes_none q es none = owes_touches q es ∙ ap (sum_by (owes_as q)) none

-- one with a step owes what the step does
owes_step : (q : ℕ) (t : Title) (step : Step) (found value : ℕ) (es : List Entry) → IsStepTold t step found value es →
    sum_by (owes_as q) es ≡ (if is_of_kind q step found then t.len else 0)
owes_step q t step found value es (looks, are, is) =
    owes_touches q es ∙ (ap (sum_by (owes_as q)) is ∙ (owes_looks q t looks (Counted t step found value ∷ []) are ∙ last))
  where
    last : sum_by (owes_as q) (Counted t step found value ∷ []) ≡ (if is_of_kind q step found then t.len else 0)
    last = let a = sum_by-cons (owes_as q) (Counted t step found value) [] in omega arith

-- what an allocation owes, of a slot that was made with this many bytes
pub owes_made : (registers : List StockRegister) (op : Op) (seen : Seen) (usable bytes : ℕ) (es : List Entry) →
    IsStepTold (title_of (λ (s : SlotName). bytes) seen.slot) steps.Issue seen.found.0 0 es →
    bytes_stepped registers op (answers.Made seen usable) ≡ bytes →
    OwesOf registers op (answers.Made seen usable) es
owes_made registers op seen usable bytes es told long q =
    owes_step q (title_of (λ (s : SlotName). bytes) seen.slot) steps.Issue seen.found.0 0 es told
    ∙ ap (λ (n : ℕ). if is_of_kind q steps.Issue seen.found.0 then n else 0) (sym long)

-- what an op owes for a step on the slot of a register
pub owes_done : (registers : List StockRegister) (op : Op) (seen : Seen) (bytes : ℕ) (es : List Entry) →
    IsDoneTold (λ (s : SlotName). bytes) (step_of op) (value_by op) seen es → bytes_stepped registers op (answers.Done seen) ≡ bytes →
    OwesOf registers op (answers.Done seen) es
owes_done registers op seen bytes es told long q = go (step_of op) told
  where
    go : (step : Option Step) → IsDoneTold (λ (s : SlotName). bytes) step (value_by op) seen es →
        sum_by (owes_as q) es ≡ owed_by q (done_step step (value_by op) seen) (bytes_stepped registers op (answers.Done seen))
    go None told = absurd told
    go (Some step) told = owes_step q (title_of (λ (s : SlotName). bytes) seen.slot) step seen.found.0 (value_by op) es told
        ∙ ap (λ (n : ℕ). if is_of_kind q step seen.found.0 then n else 0) (sym long)
