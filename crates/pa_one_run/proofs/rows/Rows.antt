-- The answer of an op is the one that the records before it and the placement ask for.
use Rattle.std.proofs.Common.{Bool, true, false, ◌≡◌, ℕ, ◌<◌, ◌⊎◌, List, [], ◌∷◌, ◌++◌, length, slice_get, Option, Some, None, refl, sym, ◌∙◌, ap, subst, arith, inl, inr}
use Rattle.std.specs.Prelude.{Contains}
use Rattle.std.specs.Option.{option_map}
use Rattle.std.proofs.lemmas.Bool.{cases_eq}
use Rattle.pa_slot.specs.declared.word.SlotName.{SlotName}
use Rattle.pa_slot.specs.declared.word.Step.{Step}
use Rattle.pa_slot.specs.Count.{held_of, refs_of}
use Rattle.pa_slot.specs.Run.{Mark}
use Rattle.pa_slot.specs.Titles.{poison}
use Rattle.pa_slot.specs.declared.word.Step.TheVariants as steps
use Rattle.pa_trace.specs.declared.script.Op.{Op}
use Rattle.pa_trace.specs.declared.script.Op.TheVariants as ops
use Rattle.pa_trace.specs.declared.script.Rules.{Rules}
use Rattle.pa_rules.specs.Sizes.{usable_of}
use Rattle.pa_record.specs.declared.entry.Seen.{Seen}
use Rattle.pa_record.specs.declared.entry.Answer.{Answer}
use Rattle.pa_record.specs.declared.entry.Answer.TheVariants.{Made, Done, Value, Dangling, SecondFree, NotOwner, StaleUse, Shared, Full, Swapped, Purged}
use Rattle.pa_record.specs.declared.history.CellEntry.{CellEntry}
use Rattle.pa_lists.proofs.Members.{first_in, later_in, of_some, not_some}
use Rattle.pa_record.proofs.Same.{same_seen, same_cell}
use Rattle.pa_record.specs.declared.history.Held.TheVariants as held
use Rattle.pa_rules.specs.declared.register.Register.TheVariants.{Empty, Own, Ref, Freed, Cleared}
use Rattle.pa_rules.specs.declared.played.Played.{Played}
use Rattle.pa_rules.specs.Played.{OpLine, op_line_of, mark_at, look_at, mark_of_answer, step_of}
use Rattle.pa_rules.specs.Registers.{Reg, Regs, AllRegs, Facts, Row, RowsTo, with_thread, AllocRow, RequestRow, CopyRow, CopyToRow, PointRow, ResetRow, FreeRow, WriteRow, ReadRow, ReadFromRow, handle_of, reg_of, no_regs, usable_in, plain_in}
use Rattle.pa_rules.specs.Contents.{IsReadExact}
use Rattle.pa_rules.specs.Changes.{swapped_of, found_in, change_of, changed}
use Rattle.pa_rules.proofs.Leading.{slot_in, row_leads}
use Rattle.pa_one_run.specs.Parts.{Parts, cell_line}
use Rattle.pa_one_run.specs.Before.{word_after, below, on, facts_of, HasRegisters, gave_last}
use Rattle.pa_one_run.proofs.Filed.{IsFiled, Agrees, IsPlacedAlike}
use Rattle.pa_one_run.proofs.rows.Exchanges.{exchange_here, exchange_none, exchange_kept}
use Rattle.pa_one_run.proofs.rows.Handles.{row_at, holds_made, swap_gave}
use Rattle.pa_one_run.proofs.rows.Makers.{usable_front, plain_front}
use Rattle.pa_one_run.proofs.words.Found.{found_is}
use Rattle.pa_lists.proofs.Elements.{in_middle, in_front}
use Rattle.pa_one_run.proofs.lines.Cuts.{cut_here}

-- ---- the registers

-- the histories have the same exchanges for an answer to an op
abbrev AreCellsAlike : (ℕ → List CellEntry) → (ℕ → List CellEntry) → Op → Answer → Type 0
AreCellsAlike cells others op answer = (k reg j : ℕ) → op ≡ ops.Swap k reg → swapped_of answer ≡ Some j →
    slice_get (cells k) j ≡ slice_get (others k) j

swap_alike : (one other : ℕ → Option CellEntry) (f : Option CellEntry → ℕ × Reg) (o : Option ℕ) → ((j : ℕ) → o ≡ Some j → one j ≡ other j)
    → option_map (λ j. f (one j)) o ≡ option_map (λ j. f (other j)) o
swap_alike one other f None h = refl
swap_alike one other f (Some j) h = ap {B = Option (ℕ × Reg)} (λ c. Some (f c)) (h j refl)

change_alike : (cells others : ℕ → List CellEntry) (op : Op) (answer : Answer) → AreCellsAlike cells others op answer →
    change_of cells op answer ≡ change_of others op answer
change_alike cells others (ops.Alloc reg partition size) answer h = refl
change_alike cells others (ops.Copy from to) answer h = refl
change_alike cells others (ops.Reset reg) answer h = refl
change_alike cells others (ops.Free reg) answer h = refl
change_alike cells others (ops.Write reg value) answer h = refl
change_alike cells others (ops.Read reg place) answer h = refl
change_alike cells others (ops.Swap cell reg) answer h =
    swap_alike (slice_get (cells cell)) (slice_get (others cell)) (λ c. (reg, reg_of (found_in c))) (swapped_of answer)
    (λ j e. h cell reg j refl e)
change_alike cells others ops.Purge answer h = refl

-- records lead from equal registers to equal registers by two histories that have equal exchanges for their answers
rows_alike : (f g : Facts) (all all' : AllRegs) (ps : List Played) (after after' : AllRegs) →
    ((q : Played) → Contains ps q → AreCellsAlike f.cells g.cells q.op q.answer) → all ≡ all' →
    RowsTo f all ps after → RowsTo g all' ps after' → after ≡ after'
rows_alike f g all all' [] after after' alike same e d = e ∙ same ∙ sym d
rows_alike f g all all' (p ∷ ps) after after' alike same (next, row, more) (next', row', more') =
    let l = row_leads f p.op (all p.thread) p.answer next row in
    let m = row_leads g p.op (all' p.thread) p.answer next' row' in
    let change = change_alike f.cells g.cells p.op p.answer (alike p (first_in p ps)) in
    let each : (k : ℕ) → next k ≡ next' k = λ k.
    l.registers k ∙ ap (λ (z : AllRegs). changed (z p.thread) (change_of f.cells p.op p.answer) k) same ∙
    ap (λ o. changed (all' p.thread) o k) change ∙ sym (m.registers k) in
    let there : next ≡ next' = λ i k. each k i in
    let both : with_thread all p.thread next ≡ with_thread all' p.thread next' = λ i. with_thread (same i) p.thread (there i) in
    rows_alike f g (with_thread all p.thread next) (with_thread all' p.thread next') ps after after'
    (λ q among. alike q (later_in p q ps among)) both more more'

-- two runs that agree before a line have the same registers there
pub registers_agree : (a b : Parts) (before rest rest' : List Played) (n : ℕ) (all all' : AllRegs) → IsFiled a → IsFiled b →
    a.ps ≡ before ++ rest → b.ps ≡ before ++ rest' →
    ((q : Played) → Contains before q → q.line < n) → Agrees n a b → HasRegisters a before all → HasRegisters b before all' → all ≡ all'
registers_agree a b before rest rest' n all all' h k parts parts' early agrees rows rows' =
    rows_alike (facts_of a) (facts_of b) no_regs no_regs before all all'
    (λ q among cell reg j op is.
    let here = in_front before rest a.ps q parts among in
    let (i, e, answer, at, line) = h.exchanged.answers q cell reg here op in
    let place : i ≡ j = of_some i j (sym (ap swapped_of answer) ∙ is) in
    let at' : slice_get (a.cells cell) j ≡ Some e = ap (slice_get (a.cells cell)) (sym place) ∙ at in
    let less = early q among in
    at' ∙ sym (exchange_kept a b n cell j e h k agrees at' (omega arith)))
    refl rows rows'

-- ---- what an answer saw

-- the slot and the word, if the answer has them
abbrev pub seen_of : Answer → Option Seen
seen_of (Made seen usable) = Some seen
seen_of (Done seen) = Some seen
seen_of (Value seen value) = Some seen
seen_of (Dangling seen value) = Some seen
seen_of (SecondFree seen) = seen
seen_of (NotOwner seen) = Some seen
seen_of (StaleUse seen) = seen
seen_of (Shared seen) = Some seen
seen_of answer = None

-- a mark of what was seen
abbrev IsMarkOf : Option Mark → Seen → Type 0
IsMarkOf o seen = (m : Mark) × (o ≡ Some m) × (m.slot ≡ seen.slot) × (m.found ≡ seen.found.0)

mark_is : (line : ℕ) (step : Option Step) (seen other : Seen) → Some seen ≡ Some other → IsMarkOf (Some (mark_at line seen step)) other
mark_is line step seen other e =
    let same = of_some seen other e in
    (mark_at line seen step, refl, ap (λ (z : Seen). z.slot) same, ap (λ (z : Seen). z.found.0) same)

look_is : (line : ℕ) (o : Option Seen) (seen : Seen) → o ≡ Some seen → IsMarkOf (look_at line o) seen
look_is line None seen e = absurd (not_some seen e)
look_is line (Some other) seen e = mark_is line None other seen e

answer_mark : (line : ℕ) (op : Op) (answer : Answer) (seen : Seen) → seen_of answer ≡ Some seen →
    IsMarkOf (mark_of_answer line op answer) seen
answer_mark line op (Made other usable) seen e = mark_is line (Some steps.Issue) other seen e
answer_mark line op (Done other) seen e = mark_is line (step_of op) other seen e
answer_mark line op (Value other value) seen e = look_is line (Some other) seen e
answer_mark line op (Dangling other value) seen e = look_is line (Some other) seen e
answer_mark line op (SecondFree other) seen e = look_is line other seen e
answer_mark line op (NotOwner other) seen e = look_is line (Some other) seen e
answer_mark line op (StaleUse other) seen e = look_is line other seen e
answer_mark line op (Shared other) seen e = look_is line (Some other) seen e
answer_mark line op answer seen e = absurd (not_some seen e)

-- the word that a record saw
pub seen_word : (a : Parts) (before rest : List Played) (x : Played) (seen : Seen) → IsFiled a → a.ps ≡ before ++ x ∷ rest →
    seen_of x.answer ≡ Some seen → seen.found.0 ≡ word_after before seen.slot
seen_word a before rest x seen h parts is =
    let (m, mark, slot, found) = answer_mark x.line x.op x.answer seen is in
    sym found ∙ found_is a before rest x m h parts mark ∙ ap (word_after before) slot

-- ---- two rows of the same registers

-- what makes the answers x and y equal
record AreAlike (f g : Facts) (regs : Regs) (x y : Answer) : Type 0 where
  placed : IsPlacedAlike x y
  sizes : (size : ℕ) → f.usable_of size ≡ g.usable_of size
  usable : (reg : ℕ) (s : SlotName) → slot_in (regs reg) ≡ Some s → f.usable_at s ≡ g.usable_at s
  plain : (reg : ℕ) (s : SlotName) → slot_in (regs reg) ≡ Some s → f.plain_at s ≡ g.plain_at s
  seen : (c d : Seen) → seen_of x ≡ Some c → seen_of y ≡ Some d → c.slot ≡ d.slot → c ≡ d
  values : (c : Seen) (v w : ℕ) → x ≡ Value c v → y ≡ Value c w → v ≡ w
  poisons : (c d : Seen) (v w : ℕ) → x ≡ Dangling c v → y ≡ Dangling d w → v ≡ w

request_alike : (f g : Facts) (regs : Regs) (x y : Answer) (reg size : ℕ) (next next' : Regs) → AreAlike f g regs x y →
    RequestRow f regs reg size x next → RequestRow g regs reg size y next' → x ≡ y
request_alike f g regs x y reg size next next' alike (inl h) (inl k) = h.1 ∙ sym k.1
request_alike f g regs x y reg size next next' alike (inl h) (inr (inl k)) = absurd (omega (arith, h.0, k.0))
request_alike f g regs x y reg size next next' alike (inl h) (inr (inr k)) = absurd (omega (arith, h.0, k.0))
request_alike f g regs x y reg size next next' alike (inr (inl h)) (inl k) = absurd (omega (arith, h.0, k.0))
request_alike f g regs x y reg size next next' alike (inr (inl (low, c, is, _))) (inr (inl (low', d, is', _))) =
    let slot = alike.placed.made c d (f.usable_of size) (g.usable_of size) is is' in
    let same = alike.seen c d (ap seen_of is) (ap seen_of is') slot in
    is ∙ ap {B = Answer} (λ z. Made z (f.usable_of size)) same ∙ ap {B = Answer} (λ n. Made d n) (alike.sizes size) ∙ sym is'
request_alike f g regs x y reg size next next' alike (inr (inl (low, c, is, _))) (inr (inr (low', j, is', _))) =
    absurd (alike.placed.made_full c (f.usable_of size) j is is')
request_alike f g regs x y reg size next next' alike (inr (inr h)) (inl k) = absurd (omega (arith, h.0, k.0))
request_alike f g regs x y reg size next next' alike (inr (inr (low, i, is, _))) (inr (inl (low', d, is', _))) =
    absurd (alike.placed.full_made d (g.usable_of size) i is is')
request_alike f g regs x y reg size next next' alike (inr (inr (low, i, is, _))) (inr (inr (low', j, is', _))) = is ∙
    ap {B = Answer} (λ n. Full n) (alike.placed.full i j is is') ∙ sym is'

alloc_alike : (f g : Facts) (r : Reg) (regs : Regs) (x y : Answer) (reg size : ℕ) (next next' : Regs) → AreAlike f g regs x y
    → AllocRow r f regs reg size x next → AllocRow r g regs reg size y next' → x ≡ y
alloc_alike f g Empty regs x y reg size next next' alike h k = request_alike f g regs x y reg size next next' alike h k
alloc_alike f g (Own s) regs x y reg size next next' alike h k = h.0 ∙ sym k.0
alloc_alike f g (Ref s) regs x y reg size next next' alike h k = h.0 ∙ sym k.0
alloc_alike f g Freed regs x y reg size next next' alike h k = request_alike f g regs x y reg size next next' alike h k
alloc_alike f g Cleared regs x y reg size next next' alike h k = request_alike f g regs x y reg size next next' alike h k

-- both saw one slot
seen_alike : (f g : Facts) (regs : Regs) (x y a b : Answer) (c d : Seen) (s : SlotName) → AreAlike f g regs x y → x ≡ a → y ≡ b
    → seen_of a ≡ Some c → seen_of b ≡ Some d → c.slot ≡ s → d.slot ≡ s → c ≡ d
seen_alike f g regs x y a b c d s alike is is' one other slot slot' =
    alike.seen c d (ap seen_of is ∙ one) (ap seen_of is' ∙ other) (slot ∙ sym slot')

done_alike : (f g : Facts) (regs : Regs) (x y : Answer) (c d : Seen) (s : SlotName) → AreAlike f g regs x y → c.slot ≡ s → d.slot ≡ s →
    x ≡ Done c → y ≡ Done d → x ≡ y
done_alike f g regs x y c d s alike slot slot' is is' = is ∙
    ap {B = Answer} (λ z. Done z) (seen_alike f g regs x y (Done c) (Done d) c d s alike is is' refl refl slot slot') ∙ sym is'

point_alike : (f g : Facts) (plain : Bool) (s : SlotName) (regs : Regs) (x y : Answer) (to : ℕ) (next next' : Regs) →
    AreAlike f g regs x y → PointRow plain s regs to x next → PointRow plain s regs to y next' → x ≡ y
point_alike f g true s regs x y to next next' alike h k = h.0 ∙ sym k.0
point_alike f g false s regs x y to next next' alike h k = done_alike f g regs x y h.0 k.0 s alike h.1 k.1 h.2 k.2

copy_to_alike : (f g : Facts) (r : Reg) (plain : Bool) (s : SlotName) (regs : Regs) (x y : Answer) (to : ℕ) (next next' : Regs) →
    AreAlike f g regs x y → CopyToRow r plain s regs to x next → CopyToRow r plain s regs to y next' → x ≡ y
copy_to_alike f g Empty plain s regs x y to next next' alike h k = point_alike f g plain s regs x y to next next' alike h k
copy_to_alike f g (Own t) plain s regs x y to next next' alike h k = h.0 ∙ sym k.0
copy_to_alike f g (Ref t) plain s regs x y to next next' alike h k = h.0 ∙ sym k.0
copy_to_alike f g Freed plain s regs x y to next next' alike h k = point_alike f g plain s regs x y to next next' alike h k
copy_to_alike f g Cleared plain s regs x y to next next' alike h k = point_alike f g plain s regs x y to next next' alike h k

copy_alike : (f g : Facts) (r : Reg) (regs : Regs) (x y : Answer) (to : ℕ) (next next' : Regs) → AreAlike f g regs x y →
    ((s : SlotName) → slot_in r ≡ Some s → f.plain_at s ≡ g.plain_at s) →
    CopyRow r f regs to x next → CopyRow r g regs to y next' → x ≡ y
copy_alike f g Empty regs x y to next next' alike plain h k = h.0 ∙ sym k.0
copy_alike f g (Own s) regs x y to next next' alike plain h k =
    copy_to_alike f g (regs to) (f.plain_at s) s regs x y to next next' alike h
    (subst (λ z. CopyToRow (regs to) z s regs to y next') (sym (plain s refl)) k)
copy_alike f g (Ref s) regs x y to next next' alike plain h k = copy_to_alike f g (regs to) false s regs x y to next next' alike h k
copy_alike f g Freed regs x y to next next' alike plain h k = h.0 ∙ sym k.0
copy_alike f g Cleared regs x y to next next' alike plain h k = h.0 ∙ sym k.0

reset_alike : (f g : Facts) (r : Reg) (regs : Regs) (x y : Answer) (reg : ℕ) (next next' : Regs) → AreAlike f g regs x y →
    ResetRow r regs reg x next → ResetRow r regs reg y next' → x ≡ y
reset_alike f g Empty regs x y reg next next' alike h k = h.0 ∙ sym k.0
reset_alike f g (Own s) regs x y reg next next' alike h k = h.0 ∙ sym k.0
reset_alike f g (Ref s) regs x y reg next next' alike h k = done_alike f g regs x y h.0 k.0 s alike h.1 k.1 h.2 k.2
reset_alike f g Freed regs x y reg next next' alike h k = h.0 ∙ sym k.0
reset_alike f g Cleared regs x y reg next next' alike h k = h.0 ∙ sym k.0

-- an answer by whether the slot is held
abbrev ByHeld : Seen → Answer → Answer → Answer → Type 0
ByHeld seen answer kept freed = ((held_of seen.found.0 ≡ 1) × (answer ≡ kept)) ⊎ ((held_of seen.found.0 ≡ 0) × (answer ≡ freed))

held_alike : (c d : Seen) (x y : Answer) (kept freed : Seen → Answer) → ((o : Seen) → seen_of (kept o) ≡ Some o) →
    ((o : Seen) → seen_of (freed o) ≡ Some o) →
    ((m n : Seen) → seen_of x ≡ Some m → seen_of y ≡ Some n → m.slot ≡ n.slot → m ≡ n) → c.slot ≡ d.slot → ByHeld c x (kept c) (freed c) →
    ByHeld d y (kept d) (freed d) → x ≡ y
held_alike c d x y kept freed one other seen slot (inl h) (inl k) = h.1 ∙
    ap kept (seen c d (ap seen_of h.1 ∙ one c) (ap seen_of k.1 ∙ one d) slot) ∙ sym k.1
held_alike c d x y kept freed one other seen slot (inl h) (inr k) =
    let same : held_of c.found.0 ≡ held_of d.found.0 =
    ap (λ (z : Seen). held_of z.found.0) (seen c d (ap seen_of h.1 ∙ one c) (ap seen_of k.1 ∙ other d) slot) in
    absurd (omega (arith, h.0, k.0, same))
held_alike c d x y kept freed one other seen slot (inr h) (inl k) =
    let same : held_of c.found.0 ≡ held_of d.found.0 =
    ap (λ (z : Seen). held_of z.found.0) (seen c d (ap seen_of h.1 ∙ other c) (ap seen_of k.1 ∙ one d) slot) in
    absurd (omega (arith, h.0, k.0, same))
held_alike c d x y kept freed one other seen slot (inr h) (inr k) = h.1 ∙
    ap freed (seen c d (ap seen_of h.1 ∙ other c) (ap seen_of k.1 ∙ other d) slot) ∙ sym k.1

free_alike : (f g : Facts) (r : Reg) (regs : Regs) (x y : Answer) (reg : ℕ) (next next' : Regs) → AreAlike f g regs x y →
    FreeRow r regs reg x next → FreeRow r regs reg y next' → x ≡ y
free_alike f g Empty regs x y reg next next' alike h k = h.0 ∙ sym k.0
free_alike f g (Own s) regs x y reg next next' alike h k = done_alike f g regs x y h.0 k.0 s alike h.1 k.1 h.2 k.2
free_alike f g (Ref s) regs x y reg next next' alike (c, slot, _, h) (d, slot', _, k) =
    held_alike c d x y (λ o. NotOwner o) (λ o. SecondFree (Some o)) (λ o. refl) (λ o. refl) alike.seen (slot ∙ sym slot') h k
free_alike f g Freed regs x y reg next next' alike h k = h.0 ∙ sym k.0
free_alike f g Cleared regs x y reg next next' alike h k = h.0 ∙ sym k.0

-- a write by the owner, by whether the slot is shared
owner_alike : (f g : Facts) (regs : Regs) (x y : Answer) (c d : Seen) (s : SlotName) → AreAlike f g regs x y → c.slot ≡ s → d.slot ≡ s →
    ((0 < refs_of c.found.0) × (x ≡ Shared c)) ⊎ ((refs_of c.found.0 ≡ 0) × (x ≡ Done c)) → ((0 < refs_of d.found.0) × (y ≡ Shared d)) ⊎
    ((refs_of d.found.0 ≡ 0) × (y ≡ Done d)) → x ≡ y
owner_alike f g regs x y c d s alike slot slot' (inl h) (inl k) = h.1
    ∙ ap {B = Answer} (λ z. Shared z) (seen_alike f g regs x y (Shared c) (Shared d) c d s alike h.1 k.1 refl refl slot slot') ∙ sym k.1
owner_alike f g regs x y c d s alike slot slot' (inl h) (inr k) =
    let same : refs_of c.found.0 ≡ refs_of d.found.0 =
    ap (λ (z : Seen). refs_of z.found.0) (seen_alike f g regs x y (Shared c) (Done d) c d s alike h.1 k.1 refl refl slot slot') in
    absurd (omega (arith, h.0, k.0, same))
owner_alike f g regs x y c d s alike slot slot' (inr h) (inl k) =
    let same : refs_of c.found.0 ≡ refs_of d.found.0 =
    ap (λ (z : Seen). refs_of z.found.0) (seen_alike f g regs x y (Done c) (Shared d) c d s alike h.1 k.1 refl refl slot slot') in
    absurd (omega (arith, h.0, k.0, same))
owner_alike f g regs x y c d s alike slot slot' (inr h) (inr k) = done_alike f g regs x y c d s alike slot slot' h.1 k.1

write_alike : (f g : Facts) (r : Reg) (regs : Regs) (x y : Answer) (next next' : Regs) → AreAlike f g regs x y → WriteRow r regs x next →
    WriteRow r regs y next' → x ≡ y
write_alike f g Empty regs x y next next' alike h k = h.0 ∙ sym k.0
write_alike f g (Own s) regs x y next next' alike (c, slot, _, h) (d, slot', _, k) = owner_alike f g regs x y c d s alike slot slot' h k
write_alike f g (Ref s) regs x y next next' alike (c, slot, _, h) (d, slot', _, k) =
    held_alike c d x y (λ o. NotOwner o) (λ o. StaleUse (Some o)) (λ o. refl) (λ o. refl) alike.seen (slot ∙ sym slot') h k
write_alike f g Freed regs x y next next' alike h k = h.0 ∙ sym k.0
write_alike f g Cleared regs x y next next' alike h k = h.0 ∙ sym k.0

-- what was read, by whether the slot is held
read_alike_in : (f g : Facts) (regs : Regs) (x y : Answer) (c d : Seen) (v w : ℕ) (s : SlotName) → AreAlike f g regs x y → c.slot ≡ s →
    d.slot ≡ s → ByHeld c x (Value c v) (Dangling c v) →
    ByHeld d y (Value d w) (Dangling d w) → x ≡ y
read_alike_in f g regs x y c d v w s alike slot slot' (inl h) (inl k) =
    let same = seen_alike f g regs x y (Value c v) (Value d w) c d s alike h.1 k.1 refl refl slot slot' in
    let as_c : y ≡ Value c w = k.1 ∙ ap {B = Answer} (λ z. Value z w) (sym same) in
    h.1 ∙ ap {B = Answer} (λ n. Value c n) (alike.values c v w h.1 as_c) ∙ sym as_c
read_alike_in f g regs x y c d v w s alike slot slot' (inl h) (inr k) =
    let same : held_of c.found.0 ≡ held_of d.found.0 =
    ap (λ (z : Seen). held_of z.found.0)
    (seen_alike f g regs x y (Value c v) (Dangling d w) c d s alike h.1 k.1 refl refl slot slot') in
    absurd (omega (arith, h.0, k.0, same))
read_alike_in f g regs x y c d v w s alike slot slot' (inr h) (inl k) =
    let same : held_of c.found.0 ≡ held_of d.found.0 =
    ap (λ (z : Seen). held_of z.found.0)
    (seen_alike f g regs x y (Dangling c v) (Value d w) c d s alike h.1 k.1 refl refl slot slot') in
    absurd (omega (arith, h.0, k.0, same))
read_alike_in f g regs x y c d v w s alike slot slot' (inr h) (inr k) =
    let same = seen_alike f g regs x y (Dangling c v) (Dangling d w) c d s alike h.1 k.1 refl refl slot slot' in
    h.1 ∙ ap {B = Answer} (λ n. Dangling c n) (alike.poisons c d v w h.1 k.1) ∙ ap {B = Answer} (λ z. Dangling z w) same ∙ sym k.1

read_from_alike : (f g : Facts) (s : SlotName) (regs : Regs) (x y : Answer) (place : ℕ) (next next' : Regs) → AreAlike f g regs x y →
    f.usable_at s ≡ g.usable_at s →
    ReadFromRow s f regs place x next → ReadFromRow s g regs place y next' → x ≡ y
read_from_alike f g s regs x y place next next' alike usable (_, inl h) (_, inl k) = h.1 ∙ sym k.1
read_from_alike f g s regs x y place next next' alike usable (_, inl h) (_, inr k) = absurd (omega (arith, h.0, k.0, usable))
read_from_alike f g s regs x y place next next' alike usable (_, inr h) (_, inl k) = absurd (omega (arith, h.0, k.0, usable))
read_from_alike f g s regs x y place next next' alike usable (_, inr (_, c, v, slot, h)) (_, inr (_, d, w, slot', k)) =
    read_alike_in f g regs x y c d v w s alike slot slot' h k

read_alike : (f g : Facts) (r : Reg) (regs : Regs) (x y : Answer) (place : ℕ) (next next' : Regs) → AreAlike f g regs x y →
    ((s : SlotName) → slot_in r ≡ Some s → f.usable_at s ≡ g.usable_at s) →
    ReadRow r f regs place x next → ReadRow r g regs place y next' → x ≡ y
read_alike f g Empty regs x y place next next' alike usable h k = h.0 ∙ sym k.0
read_alike f g (Own s) regs x y place next next' alike usable h k =
    read_from_alike f g s regs x y place next next' alike (usable s refl) h k
read_alike f g (Ref s) regs x y place next next' alike usable h k =
    read_from_alike f g s regs x y place next next' alike (usable s refl) h k
read_alike f g Freed regs x y place next next' alike usable h k = h.0 ∙ sym k.0
read_alike f g Cleared regs x y place next next' alike usable h k = h.0 ∙ sym k.0

row_alike : (f g : Facts) (op : Op) (regs : Regs) (x y : Answer) (next next' : Regs) → AreAlike f g regs x y →
    ((cell reg i j : ℕ) → op ≡ ops.Swap cell reg → x ≡ Swapped i → y ≡ Swapped j → i ≡ j) → Row f op regs x next → Row g op regs y next' →
    x ≡ y
row_alike f g (ops.Alloc reg partition size) regs x y next next' alike swapped h k =
    alloc_alike f g (regs reg) regs x y reg size next next' alike h k
row_alike f g (ops.Copy from to) regs x y next next' alike swapped h k =
    copy_alike f g (regs from) regs x y to next next' alike (alike.plain from) h k
row_alike f g (ops.Reset reg) regs x y next next' alike swapped h k = reset_alike f g (regs reg) regs x y reg next next' alike h k
row_alike f g (ops.Free reg) regs x y next next' alike swapped h k = free_alike f g (regs reg) regs x y reg next next' alike h k
row_alike f g (ops.Write reg value) regs x y next next' alike swapped h k = write_alike f g (regs reg) regs x y next next' alike h k
row_alike f g (ops.Read reg place) regs x y next next' alike swapped h k =
    read_alike f g (regs reg) regs x y place next next' alike (alike.usable reg) h k
row_alike f g (ops.Swap cell reg) regs x y next next' alike swapped h k = h.2 ∙
    ap {B = Answer} (λ n. Swapped n) (swapped cell reg h.0 k.0 refl h.2 k.2) ∙ sym k.2
row_alike f g ops.Purge regs x y next next' alike swapped h k = h.1 ∙
    ap {B = Answer} (λ n. Purged n) (alike.placed.purged h.0 k.0 h.1 k.1) ∙ sym k.1

-- ---- two runs

poison_is : (a : Parts) (before rest : List Played) (x : Played) (seen : Seen) (v : ℕ) → IsFiled a → a.ps ≡ before ++ x ∷ rest →
    x.answer ≡ Dangling seen v → v ≡ poison
poison_is a before rest x seen v h parts is =
    let P : Answer → Type 0 = λ z. IsReadExact a.ps z in
    subst P is (h.order.contents x (in_middle before rest a.ps x parts))

-- the registers before the record that comes next in both
next_registers : (a b : Parts) (before rest rest' : List Played) (x y : Played) (all all' : AllRegs) → IsFiled a → IsFiled b →
    a.ps ≡ before ++ x ∷ rest → b.ps ≡ before ++ y ∷ rest' →
    Agrees x.line a b → HasRegisters a before all → HasRegisters b before all' → all ≡ all'
next_registers a b before rest rest' x y all all' h k parts parts' agrees rows rows' =
    registers_agree a b before (x ∷ rest) (y ∷ rest') x.line all all' h k parts parts'
    (cut_here a before rest x h parts).early agrees rows rows'

-- the places of the exchanges
swaps_agree : (a b : Parts) (before rest rest' : List Played) (x y : Played) (cell reg i j : ℕ) → IsFiled a → IsFiled b
    → a.ps ≡ before ++ x ∷ rest → b.ps ≡ before ++ y ∷ rest' → x.op ≡ y.op → x.line ≡ y.line →
    Agrees x.line a b → x.op ≡ ops.Swap cell reg → x.answer ≡ Swapped i → y.answer ≡ Swapped j → i ≡ j
swaps_agree a b before rest rest' x y cell reg i j h k parts parts' ops lines agrees op is is' =
    let (e, has) = exchange_here a x cell reg h (in_middle before rest a.ps x parts) op in
    let (f, has') = exchange_here b y cell reg k (in_middle before rest' b.ps y parts') (sym ops ∙ op) in
    let one = of_some _ _ (ap swapped_of (sym is ∙ has.answer)) in
    let other = of_some _ _ (ap swapped_of (sym is' ∙ has'.answer)) in
    one ∙ ap length (agrees.cells cell) ∙ ap (λ n. length (below cell_line n (b.cells cell))) lines ∙ sym other

pub answers_agree : (a b : Parts) (before rest rest' : List Played) (x y : Played) → IsFiled a → IsFiled b → a.ps ≡ before ++ x ∷ rest →
    b.ps ≡ before ++ y ∷ rest' → op_line_of x ≡ op_line_of y →
    Agrees x.line a b → IsPlacedAlike x.answer y.answer →
    ((seen : Seen) (v w : ℕ) → x.answer ≡ Value seen v → y.answer ≡ Value seen w → v ≡ w) → x.answer ≡ y.answer
answers_agree a b before rest rest' x y h k parts parts' same agrees placed values =
    let op : x.op ≡ y.op = ap (λ (l : OpLine). l.op) same in
    let line : x.line ≡ y.line = ap (λ (l : OpLine). l.line) same in
    let thread : x.thread ≡ y.thread = ap (λ (l : OpLine). l.thread) same in
    let one = row_at a before rest x h parts in
    let other = row_at b before rest' y k parts' in
    let all = next_registers a b before rest rest' x y one.all other.all h k parts parts' agrees one.registers other.registers in
    let regs : one.all x.thread ≡ other.all y.thread = λ i. (all i) (thread i) in
    let row = subst (λ o. Row (facts_of b) o (other.all y.thread) y.answer other.next) (sym op) other.row in
    let row' = subst (λ (r : Regs). Row (facts_of b) x.op r y.answer other.next) (sym regs) row in
    let holds = holds_made a before (x ∷ rest) one.all h parts one.registers in
    let alike : AreAlike (facts_of a) (facts_of b) (one.all x.thread) x.answer y.answer = record {
      placed = placed;
      sizes = λ size. ap (λ (z : Rules). usable_of z.version size) agrees.rules;
      usable = λ reg s names.
          ap (λ ps. usable_in ps s) parts ∙ usable_front before (x ∷ rest) (y ∷ rest') s (holds.registers x.thread reg s names) ∙
          sym (ap (λ ps. usable_in ps s) parts');
      plain = λ reg s names.
          ap (λ ps. plain_in ps s) parts ∙ plain_front before (x ∷ rest) (y ∷ rest') s (holds.registers x.thread reg s names) ∙
          sym (ap (λ ps. plain_in ps s) parts');
      seen = λ c d is is' slot. same_seen c d slot (seen_word a before rest x c h parts is ∙ ap (word_after before) slot ∙
          sym (seen_word b before rest' y d k parts' is'));
      values = values;
      poisons = λ c d v w is is'. poison_is a before rest x c v h parts is ∙ sym (poison_is b before rest' y d w k parts' is');
    } in
    row_alike (facts_of a) (facts_of b) x.op (one.all x.thread) x.answer y.answer one.next other.next alike
    (λ cell reg i j swaps is is'. swaps_agree a b before rest rest' x y cell reg i j h k parts parts' op line agrees swaps is is') one.row
    row'

pub swap_cases : (op : Op) (k : ℕ) → ((reg : ℕ) × (op ≡ ops.Swap k reg)) ⊎ ((reg : ℕ) → op ≡ ops.Swap k reg → ⊥)
swap_cases (ops.Swap cell reg) k = elim (cases_eq cell k) [
  | inl e ↦ inl (reg, ap {B = Op} (λ n. ops.Swap n reg) e)
  | inr other ↦ inr (λ r e. let same : cell ≡ k = cc in other same)
]
swap_cases op k = inr (λ r e. cc)

-- the exchanges of a record's line are the same in two runs that agree before it
pub exchanges_agree : (a b : Parts) (before rest rest' : List Played) (x : Played) → IsFiled a → IsFiled b → a.ps ≡ before ++ x ∷ rest →
    b.ps ≡ before ++ x ∷ rest' → Agrees x.line a b →
    (k : ℕ) → on cell_line x.line (a.cells k) ≡ on cell_line x.line (b.cells k)
exchanges_agree a b before rest rest' x h k parts parts' agrees cell =
    let here = in_middle before rest a.ps x parts in
    let there = in_middle before rest' b.ps x parts' in
    elim (swap_cases x.op cell) [
      | inl (reg, op) ↦
          let (e, has) = exchange_here a x cell reg h here op in
          let (f, has') = exchange_here b x cell reg k there op in
          let one = row_at a before rest x h parts in
          let other = row_at b before rest' x k parts' in
          let all = next_registers a b before rest rest' x x one.all other.all h k parts parts' agrees one.registers other.registers in
          let gave : e.gave ≡ f.gave = swap_gave a x cell reg e (one.all x.thread) one.next has op one.row
          ∙ ap (λ (z : AllRegs). handle_of (z x.thread reg)) all ∙
          sym (swap_gave b x cell reg f (other.all x.thread) other.next has' op other.row) in
          let found : e.found ≡ f.found = has.found ∙ ap (gave_last held.Nothing) (agrees.cells cell) ∙ sym has'.found in
          has.only ∙ ap (λ z. z ∷ []) (same_cell e f (has.line ∙ sym has'.line) gave found) ∙ sym has'.only
      | inr other ↦ exchange_none a x cell h here other ∙ sym (exchange_none b x cell k there other)
    ]
