-- What a read may give by the registers of the walk is what the rules allow.
use Rattle.std.proofs.Common.{◌≡◌, ℕ, suc, ◌+◌, ◌<◌, ◌⊎◌, List, [], ◌∷◌, ◌++◌, take, drop, get_or, length, Some, refl, sym, ◌∙◌, ap, subst, inl, inr}
use Rattle.std.specs.Prelude.{slice_get}
use Rattle.pa_slot.specs.declared.word.SlotName.{SlotName}
use Rattle.pa_slot.specs.Count.{number_of}
use Rattle.pa_record.specs.declared.entry.Seen.{Seen}
use Rattle.pa_record.specs.declared.entry.Answer.{Answer}
use Rattle.pa_record.specs.declared.entry.Answer.TheVariants as answers
use Rattle.pa_record.specs.declared.history.CellEntry.{CellEntry}
use Rattle.pa_lists.proofs.Members.{of_some}
use Rattle.pa_rules.specs.declared.played.Played.{Played}
use Rattle.pa_rules.specs.declared.verdict.Place.TheVariants as places
use Rattle.pa_rules.specs.Contents.{IsContent, HasRegs, IsReadAllowed}
use Rattle.pa_rules.specs.RecordDemands.{IsRecord, ContentsDemand}
use Rattle.pa_rules.specs.Registers.{Reg, Regs, AllRegs, RowsTo, no_regs}
use Rattle.pa_rules.specs.Sizes.{usable_of}
use Rattle.pa_lists.proofs.Indexed.{cut_at, slice_get_at, here_is}
use Rattle.pa_rules.specs.Rising.{RiseByLine}
use Rattle.pa_rules.proofs.Leading.{rows_one}
use Rattle.pa_audit_records.specs.Rows.{MayAnswer}
use Rattle.pa_audit_records.specs.Tables.{regs_in, regs_next, AreRegsOf, facts_by}
use Rattle.pa_audit_records.proofs.Rowing.{row_may}
use Rattle.pa_audit_records.proofs.Walking.{RegsSoFar, regs_more}
use Rattle.pa_audit_order.specs.Given.{MayFindPoison, MayGive, MeetRegisters}
use Rattle.pa_audit_order.proofs.Stamping.{one_place}

-- the clause of the registers takes the walk on
pub regs_on : (version : ℕ) (cells : ℕ → List CellEntry) (ps : List Played) (list later : List Reg) (i : ℕ) (d : Played) → i < length ps
    → MeetRegisters version cells ps → RegsSoFar version cells ps list i
    → AreRegsOf later (regs_next cells (regs_in list) (get_or ps i d)) → RegsSoFar version cells ps later (i + 1)
regs_on version cells ps list later i d below demand h has =
    let x = get_or ps i d in
    let facts = facts_by version cells ps in
    let (all, next, rows, row) = demand i x (here_is ps i d below) in
    let may = row_may facts x.op (all x.thread) next x.answer row in
    let same : all ≡ regs_in list = rows_one facts no_regs all (regs_in list) (take i ps) rows h.rows in
    regs_more version cells ps list later i d below h (subst (λ (z : AllRegs). MayAnswer facts x.op (z x.thread) x.answer) same may) has

-- the registers that the walk has are those before the record
walk_has : (version : ℕ) (cells : ℕ → List CellEntry) (ps : List Played) (list : List Reg) (i : ℕ) (x : Played) → IsRecord ps i x
    → RegsSoFar version cells ps list i → HasRegs (usable_of version) cells ps x (regs_in list x.thread)
walk_has version cells ps list i x at h = (take i ps, drop (suc i) ps, regs_in list, cut_at ps i x at, h.rows, refl)

front_of : {A : Type 0} (xs ys : List A) → take (length xs) (xs ++ ys) ≡ xs
front_of [] [] = refl
front_of [] (y ∷ ys) = refl
front_of (z ∷ zs) ys = ap (λ t. z ∷ t) (front_of zs ys)

-- the registers before a record are those of the list, and no others
walk_only : (version : ℕ) (cells : ℕ → List CellEntry) (ps : List Played) (list : List Reg) (i : ℕ) (x : Played) (regs : Regs)
    → RiseByLine ps → IsRecord ps i x → RegsSoFar version cells ps list i → HasRegs (usable_of version) cells ps x regs
    → regs ≡ regs_in list x.thread
walk_only version cells ps list i x regs rising at h (before, after, all, parts, rows, is) =
    let there : slice_get ps (length before) ≡ Some x = ap (λ zs. slice_get zs (length before)) parts ∙ slice_get_at before after x in
    let place : length before ≡ i = one_place ps (length before) i x x rising there at refl in
    let front : before ≡ take i ps =
    sym (front_of before (x ∷ after)) ∙ ap (take (length before)) (sym parts) ∙ ap (λ n. take n ps) place in
    let facts = facts_by version cells ps in
    let same : all ≡ regs_in list =
    rows_one facts no_regs all (regs_in list) (take i ps) (subst (λ zs. RowsTo facts no_regs zs all) front rows) h.rows in
    is ∙ ap (λ (z : AllRegs). z x.thread) same

-- ---- a record's read

allowed_of : (version : ℕ) (cells : ℕ → List CellEntry) (ps : List Played) (list : List Reg) (i : ℕ) (x : Played) (a : Answer)
    → IsRecord ps i x → RegsSoFar version cells ps list i → MayGive ps (regs_in list x.thread) x a
    → IsReadAllowed (usable_of version) cells ps x a
allowed_of version cells ps list i x (answers.Value seen value) at h (inl content) = inl content
allowed_of version cells ps list i x (answers.Value seen value) at h (inr (is, (reg, place, op, holds), (y, next, (other, phase)))) =
    inr (is, ((reg, place, regs_in list x.thread, op, walk_has version cells ps list i x at h, holds), y, next, other, phase))
allowed_of version cells ps list i x (answers.Dangling seen value) at h may = may
allowed_of version cells ps list i x a at h may = tt

may_of : (version : ℕ) (cells : ℕ → List CellEntry) (ps : List Played) (list : List Reg) (i : ℕ) (x : Played) (a : Answer)
    → RiseByLine ps → IsRecord ps i x → RegsSoFar version cells ps list i → IsReadAllowed (usable_of version) cells ps x a
    → MayGive ps (regs_in list x.thread) x a
may_of version cells ps list i x (answers.Value seen value) rising at h (inl content) = inl content
may_of version cells ps list i x (answers.Value seen value) rising at h
    (inr (is, ((reg, place, regs, op, has, holds), y, next, other, phase))) =
    let same = walk_only version cells ps list i x regs rising at h has in
    inr (is, (reg, place, op, sym (ap (λ (z : Regs). z reg) same) ∙ holds), (y, next, (other, phase)))
may_of version cells ps list i x (answers.Dangling seen value) rising at h allowed = allowed
may_of version cells ps list i x a rising at h allowed = tt

pub content_met : (version : ℕ) (cells : ℕ → List CellEntry) (ps : List Played) (list : List Reg) (i : ℕ) (d : Played) → i < length ps →
    RegsSoFar version cells ps list i
    → MayGive ps (regs_in list (get_or ps i d).thread) (get_or ps i d) (get_or ps i d).answer →
    ContentsDemand (usable_of version) cells ps (places.Record i)
content_met version cells ps list i d below h may x at =
    let here = here_is ps i d below in
    let same : get_or ps i d ≡ x = of_some (get_or ps i d) x (sym here ∙ at) in
    subst (λ (z : Played). IsReadAllowed (usable_of version) cells ps z z.answer) same
    (allowed_of version cells ps list i (get_or ps i d) (get_or ps i d).answer here h may)

pub content_may : (version : ℕ) (cells : ℕ → List CellEntry) (ps : List Played) (list : List Reg) (i : ℕ) (d : Played) → RiseByLine ps
    → i < length ps → RegsSoFar version cells ps list i → ContentsDemand (usable_of version) cells ps (places.Record i)
    → MayGive ps (regs_in list (get_or ps i d).thread) (get_or ps i d) (get_or ps i d).answer
content_may version cells ps list i d rising below h demand =
    let here = here_is ps i d below in
    may_of version cells ps list i (get_or ps i d) (get_or ps i d).answer rising here h (demand (get_or ps i d) here)

-- a value of a slot that is held, if the number is at hand
abbrev MayGiveAt : List Played → Regs → Played → SlotName → ℕ → ℕ → Type 0
MayGiveAt ps regs x s k value = IsContent ps s k value ⊎ MayFindPoison ps regs x s k value

pub value_may : (ps : List Played) (regs : Regs) (x : Played) (a : Answer) (seen : Seen) (value k : ℕ) →
    a ≡ answers.Value seen value → k ≡ number_of seen.found.0
    → (MayGiveAt ps regs x seen.slot k value → MayGive ps regs x a) × (MayGive ps regs x a → MayGiveAt ps regs x seen.slot k value)
value_may ps regs x a seen value k is at = (
  λ may. subst (MayGive ps regs x) (sym is) (subst (λ z. MayGiveAt ps regs x seen.slot z value) at may),
  λ may. subst (λ z. MayGiveAt ps regs x seen.slot z value) (sym at) (subst (MayGive ps regs x) is may),
)
