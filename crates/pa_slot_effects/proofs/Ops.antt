-- The turns of ops that step a slot.
use Rattle.std.proofs.Common.{◌≡◌, ℕ, Bool, false, ◌+◌, ◌<◌, ◌≤◌, ◌&&◌, inl, inr, List, [], ◌∷◌, ◌++◌, length, Some, refl, sym, ap, ◌∙◌, subst, arith}
use Rattle.std.proofs.Math.Path.{fun_ext}
use Rattle.std.proofs.lemmas.Bool.{cases_eq}
use Rattle.pa_slot.specs.declared.word.SlotName.{SlotName}
use Rattle.pa_slot.specs.declared.word.Step.{Step}
use Rattle.pa_slot.specs.declared.word.Step.TheVariants as steps
use Rattle.pa_slot.specs.Count.{held_of, refs_of, number_of, CanStep, stepped}
use Rattle.pa_slot.specs.Run.{Mark}
use Rattle.pa_trace.specs.declared.script.Op.{Op}
use Rattle.pa_trace.specs.declared.script.Op.TheVariants as ops
use Rattle.pa_trace.specs.declared.script.Line.{Line}
use Rattle.pa_record.specs.declared.entry.Seen.{Seen}
use Rattle.pa_record.specs.declared.entry.Answer.{Answer}
use Rattle.pa_record.specs.declared.entry.Answer.TheVariants.{Made, Done}
use Rattle.pa_rules.specs.declared.register.Register.TheVariants.{Empty, Own, Ref, Freed, Cleared}
use Rattle.pa_rules.specs.declared.played.Played.{Played}
use Rattle.pa_rules.specs.Nexts.{is_owner}
use Rattle.pa_rules.specs.Played.{mark_at, mark_of}
use Rattle.pa_rules.specs.Registers.{Reg, Regs, AllRegs, Facts, with, with_thread, Becomes, Row, AllocRow, CopyRow, CopyToRow, ResetRow, FreeRow, WriteRow, is_plain_op}
use Rattle.pa_rules.specs.Contents.{IsContent}
use Rattle.pa_rules.specs.Sizes.{usable_of}
use Rattle.pa_slot_effects.specs.Shown.{Shown, IsUsed, with_slot, with_reg}
use Rattle.pa_slot_effects.specs.Known.{HasContents, IsToldTo, facts_shown}
use Rattle.pa_slot_effects.specs.Turns.{CanPlay, LeadsTo, played_at, Names, HoldsNone}
use Rattle.pa_slot_effects.specs.Laws.{MadeGoesOn, CopyGoesOn, ResetGoesOn, FreeGoesOn, WriteGoesOn}
use Rattle.pa_slot_effects.proofs.Histories.{exchanged_other}
use Rattle.pa_slot_effects.proofs.Contents.{found_by, StepsTo, IsNeither, contents_step, content_made, content_written, content_stays, held_before}
use Rattle.pa_slot_effects.proofs.Handles.{reg_here, reg_there, at_reg, at_other}
use Rattle.pa_slot_effects.proofs.Words.{handle_lets}
use Rattle.pa_slot_effects.proofs.Turn.{turn_extends, stays_used, step_up}
use Rattle.pa_slot_effects.proofs.Balance.{Balances, at_slot, at_other_slot, steps_slot, handles_step, issue_balances, copy_balances, reset_balances, free_balances, write_balances}

becomes : (regs : ℕ → Regs) (thread reg : ℕ) (x : Reg) → Becomes (with_reg regs thread reg x thread) (with (regs thread) reg x)
becomes regs thread reg x k = ap (λ (row : Regs). row k) (reg_here regs thread reg x)

-- a turn that steps the slot that was seen, and changes one register
step_turn : (threads : ℕ) (ls : List Line) (ps : List Played) (a : Shown) (thread reg : ℕ) (op : Op) (answer : Answer) (seen : Seen)
    (p : Step) (old new : Reg) (content : SlotName → ℕ)
    → CanPlay threads ls ps a thread → reg < 64 → a.regs thread reg ≡ old
    → mark_of (played_at a.rules ls thread op answer) ≡ Some (mark_at (length ls + 2) seen (Some p))
    → ((cell r : ℕ) → op ≡ ops.Swap cell r → ⊥)
    → ((u : Seen) (n : ℕ) → answer ≡ Made u n → (n ≡ a.usable u.slot) × (is_plain_op a.rules op ≡ a.plain u.slot))
    → seen.found.0 ≡ a.word seen.slot → CanStep p seen.found.0 → Balances seen.slot p seen.found.0 old new
    → IsUsed (with_slot a.word seen.slot (stepped p seen.found.0)) new
    → Row (facts_shown a) op (a.regs thread) answer (with_reg a.regs thread reg new thread)
    → HasContents (ps ++ played_at a.rules ls thread op answer ∷ []) (with_slot a.word seen.slot (stepped p seen.found.0)) content
    → LeadsTo threads ls ps thread op answer
    (record a { regs = with_reg a.regs thread reg new; word = with_slot a.word seen.slot (stepped p seen.found.0); content = content })
step_turn threads ls ps a thread reg op answer seen p old new content can hr was mark other made found able balance used row contents =
    let after = with_slot a.word seen.slot (stepped p seen.found.0) in
    let b : Shown = record a { regs = with_reg a.regs thread reg new; word = after; content = content } in
    let x = played_at a.rules ls thread op answer in
    let m : Mark = mark_at (length ls + 2) seen (Some p) in
    let st : StepsTo seen.slot p seen.found.0 a.word after = steps_slot a.word seen.slot p seen.found.0 found able in
    let up : (t : SlotName) → 0 < a.word t → 0 < after t = stays_used (Some m) a.word after st in
    turn_extends threads ls ps thread op answer a b can.told (record {
      rules = refl;
      row = row;
      regs = ap (λ (r : Regs). with_thread a.regs thread r) (sym (reg_here a.regs thread reg new));
      usable = refl;
      plain = refl;
      sized = λ u n e. (made u n e).0;
      placed = λ u n e. (made u n e).1;
      stand = λ k j e i. i;
      exchanged = exchanged_other a.cells a.held ps (length ls + 2) x can.told.exchanged other;
      tells = rw mark st;
      contents = contents;
      handles = handles_step threads a after content thread reg seen.slot p seen.found.0 old new can.told.handles can.among hr was st
          balance used up;
    })

-- the word of the slot after its step
stepped_up : (word : SlotName → ℕ) (s : SlotName) (p : Step) (w : ℕ) → CanStep p w → 0 < with_slot word s (stepped p w) s
stepped_up word s p w can = omega (arith, at_slot word s (stepped p w), step_up p w can)

-- a record that is no issue and no write
neither : (x : Played) (op : Op) (seen : Seen) → x.answer ≡ Done seen → x.op ≡ op → ((reg value : ℕ) → op ≡ ops.Write reg value → ⊥) →
    IsNeither x
neither x op seen e o unwritten = (
  (λ s n h. let bad : Made h.0 h.1 ≡ Done seen = sym h.2 ∙ e in cc),
  (λ s n value h. unwritten h.1 value (sym o ∙ h.2)),
)

-- the contents over a step that leaves them
contents_left : (threads : ℕ) (ls : List Line) (ps : List Played) (a : Shown) (thread : ℕ) (op : Op) (seen : Seen) (p : Step) →
    IsToldTo threads ls ps a
    → mark_of (played_at a.rules ls thread op (Done seen)) ≡ Some (mark_at (length ls + 2) seen (Some p)) →
    ((reg value : ℕ) → op ≡ ops.Write reg value → ⊥)
    → seen.found.0 ≡ a.word seen.slot → CanStep p seen.found.0 → (p ≡ steps.Issue → ⊥)
    → HasContents (ps ++ played_at a.rules ls thread op (Done seen) ∷ []) (with_slot a.word seen.slot (stepped p seen.found.0)) a.content
contents_left threads ls ps a thread op seen p t mark unwritten found can issue =
    let x = played_at a.rules ls thread op (Done seen) in
    let after = with_slot a.word seen.slot (stepped p seen.found.0) in
    let m : Mark = mark_at (length ls + 2) seen (Some p) in
    let st : StepsTo seen.slot p seen.found.0 a.word after = steps_slot a.word seen.slot p seen.found.0 found can in
    contents_step ps x (length ls + 2) a.word a.content after a.content seen.slot t.numbers t.contents (found_by a.word x m mark found)
    st.others (λ s ne. refl)
    (λ held.
    let before : held_of (a.word seen.slot) ≡ 1 = ap held_of (sym found) ∙
    held_before p seen.found.0 issue (ap held_of (sym st.next) ∙ held) can in
    content_stays ps x a.word a.content after seen.slot seen.found.0 p t.runs t.contents (neither x op seen refl refl unwritten) before st)
    tt

module _ (threads : ℕ) (ls : List Line) (ps : List Played) (a : Shown) (thread : ℕ) (can : CanPlay threads ls ps a thread) where
  able : (p : Step) (seen : Seen) → seen.found.0 ≡ a.word seen.slot → CanStep p (a.word seen.slot) → CanStep p seen.found.0
  able p seen found c = let P : ℕ → Type 0 = λ w. CanStep p w in subst P (sym found) c

alloc_row : (x : Reg) (facts : Facts) (regs : Regs) (reg size : ℕ) (seen : Seen) (after : Regs) → HoldsNone x → size ≤ 33521656
    → Becomes after (with regs reg (Own seen.slot)) → AllocRow x facts regs reg size (Made seen (facts.usable_of size)) after
alloc_row Empty facts regs reg size seen after h le b = inr (inl (le, seen, refl, b))
alloc_row (Own s) facts regs reg size seen after h le b = absurd h
alloc_row (Ref s) facts regs reg size seen after h le b = absurd h
alloc_row Freed facts regs reg size seen after h le b = inr (inl (le, seen, refl, b))
alloc_row Cleared facts regs reg size seen after h le b = inr (inl (le, seen, refl, b))

copy_to_row : (y : Reg) (s : SlotName) (regs : Regs) (to : ℕ) (seen : Seen) (after : Regs) → HoldsNone y → seen.slot ≡ s
    → Becomes after (with regs to (Ref s)) → CopyToRow y false s regs to (Done seen) after
copy_to_row Empty s regs to seen after h e b = (seen, e, refl, b)
copy_to_row (Own t) s regs to seen after h e b = absurd h
copy_to_row (Ref t) s regs to seen after h e b = absurd h
copy_to_row Freed s regs to seen after h e b = (seen, e, refl, b)
copy_to_row Cleared s regs to seen after h e b = (seen, e, refl, b)

copy_row : (x : Reg) (facts : Facts) (s : SlotName) (regs : Regs) (to : ℕ) (seen : Seen) (after : Regs) → Names s x
    → HoldsNone (regs to) → seen.slot ≡ s → (is_owner x && facts.plain_at s) ≡ false
    → Becomes after (with regs to (Ref s)) → CopyRow x facts regs to (Done seen) after
copy_row Empty facts s regs to seen after n h e counted b = absurd n
copy_row (Own t) facts s regs to seen after n h e counted b =
    let P : SlotName → Type 0 = λ v. CopyToRow (regs to) (facts.plain_at v) v regs to (Done seen) after in
    let Q : Bool → Type 0 = λ plain. CopyToRow (regs to) plain s regs to (Done seen) after in
    subst P (sym n) (subst Q (sym counted) (copy_to_row (regs to) s regs to seen after h e b))
copy_row (Ref t) facts s regs to seen after n h e counted b =
    let P : SlotName → Type 0 = λ v. CopyToRow (regs to) false v regs to (Done seen) after in
    subst P (sym n) (copy_to_row (regs to) s regs to seen after h e b)
copy_row Freed facts s regs to seen after n h e counted b = absurd n
copy_row Cleared facts s regs to seen after n h e counted b = absurd n

pub made_goes_on : MadeGoesOn
made_goes_on threads ls ps a thread reg partition size seen can hr none le found held refs usable plain =
    let op = ops.Alloc reg partition size in
    let answer = Made seen (usable_of a.rules.version size) in
    let x = played_at a.rules ls thread op answer in
    let s = seen.slot in
    let after = with_slot a.word s (stepped steps.Issue seen.found.0) in
    let now = with_slot a.content s 0 in
    let lets = handle_lets threads ls ps a thread reg can hr in
    let c : CanStep steps.Issue seen.found.0 =
    able threads ls ps a thread can steps.Issue seen found
    (lets.issues s (ap held_of (sym found) ∙ held) (ap refs_of (sym found) ∙ refs)) in
    let st : StepsTo s steps.Issue seen.found.0 a.word after = steps_slot a.word s steps.Issue seen.found.0 found c in
    let m : Mark = mark_at (length ls + 2) seen (Some steps.Issue) in
    let V : ℕ → Type 0 = λ v. IsContent (ps ++ x ∷ []) s (number_of (after s)) v in
    step_turn threads ls ps a thread reg op answer seen steps.Issue (a.regs thread reg) (Own s) now can hr refl refl (λ k r e. cc)
    (λ u n e.
    let same : Made seen (usable_of a.rules.version size) ≡ Made u n = e in
    let one : seen ≡ u = cc in
    let two : usable_of a.rules.version size ≡ n = cc in
    (sym two ∙ sym usable ∙ ap (λ (z : Seen). a.usable z.slot) one, plain ∙ ap (λ (z : Seen). a.plain z.slot) one))
    found c (issue_balances s seen.found.0 (a.regs thread reg) none held refs) (stepped_up a.word s steps.Issue seen.found.0 c)
    (alloc_row (a.regs thread reg) (facts_shown a) (a.regs thread) reg size seen
    (with_reg a.regs thread reg (Own s) thread) none le (becomes a.regs thread reg (Own s)))
    (contents_step ps x (length ls + 2) a.word a.content after now s can.told.numbers can.told.contents (found_by a.word x m refl found)
    st.others (λ t ne. at_other_slot a.content s 0 t ne)
    (λ h. subst V (sym (at_slot a.content s 0))
    (content_made ps x a.word after seen (usable_of a.rules.version size) can.told.runs refl st))
    tt)

pub copy_goes_on : CopyGoesOn
copy_goes_on threads ls ps a thread from to seen can hf ht names none found counted =
    let s = seen.slot in
    let lets = handle_lets threads ls ps a thread from can hf in
    let c : CanStep steps.Copy seen.found.0 = able threads ls ps a thread can steps.Copy seen found (lets.copies s names) in
    step_turn threads ls ps a thread to (ops.Copy from to) (Done seen) seen steps.Copy (a.regs thread to) (Ref s) a.content can ht refl refl
    (λ k r e. cc)
    (λ u n e. absurd cc)
    found c (copy_balances s seen.found.0 (a.regs thread to) none c.2) (stepped_up a.word s steps.Copy seen.found.0 c)
    (copy_row (a.regs thread from) (facts_shown a) s (a.regs thread) to seen
    (with_reg a.regs thread to (Ref s) thread) names none refl counted
    (becomes a.regs thread to (Ref s)))
    (contents_left threads ls ps a thread (ops.Copy from to) seen steps.Copy can.told refl (λ r v e. cc) found c (λ e. cc))

pub reset_goes_on : ResetGoesOn
reset_goes_on threads ls ps a thread reg seen can hr was found =
    let s = seen.slot in
    let lets = handle_lets threads ls ps a thread reg can hr in
    let c : CanStep steps.Reset seen.found.0 = able threads ls ps a thread can steps.Reset seen found (lets.resets s was) in
    let R : Reg → Type 0 = λ r. ResetRow r (a.regs thread) reg (Done seen) (with_reg a.regs thread reg Cleared thread) in
    step_turn threads ls ps a thread reg (ops.Reset reg) (Done seen) seen steps.Reset (Ref s) Cleared a.content can hr was refl
    (λ k r e. cc)
    (λ u n e. absurd cc)
    found c (reset_balances s seen.found.0 c) tt
    (subst R (sym was) (seen, refl, refl, becomes a.regs thread reg Cleared))
    (contents_left threads ls ps a thread (ops.Reset reg) seen steps.Reset can.told refl (λ r v e. cc) found c (λ e. cc))

pub free_goes_on : FreeGoesOn
free_goes_on threads ls ps a thread reg seen can hr was found =
    let s = seen.slot in
    let lets = handle_lets threads ls ps a thread reg can hr in
    let c : CanStep steps.Free seen.found.0 = able threads ls ps a thread can steps.Free seen found (lets.frees s was) in
    let R : Reg → Type 0 = λ r. FreeRow r (a.regs thread) reg (Done seen) (with_reg a.regs thread reg Freed thread) in
    step_turn threads ls ps a thread reg (ops.Free reg) (Done seen) seen steps.Free (Own s) Freed a.content can hr was refl (λ k r e. cc)
    (λ u n e. absurd cc)
    found c (free_balances s seen.found.0 c) tt
    (subst R (sym was) (seen, refl, refl, becomes a.regs thread reg Freed))
    (contents_left threads ls ps a thread (ops.Free reg) seen steps.Free can.told refl (λ r v e. cc) found c (λ e. cc))

-- registers of which one is set to what it holds
set_same : (regs : ℕ → Regs) (thread reg : ℕ) (x : Reg) → regs thread reg ≡ x → (t r : ℕ) → with_reg regs thread reg x t r ≡ regs t r
set_same regs thread reg x was t r = elim (cases_eq t thread) [
  | inl e ↦ ap (λ k. with_reg regs thread reg x k r) e ∙
      elim (cases_eq r reg) as (λ h. with_reg regs thread reg x thread r ≡ regs thread r) [
        | inl f ↦ ap (λ k. with_reg regs thread reg x thread k) f ∙ at_reg regs thread reg x ∙ sym was ∙ ap (regs thread) (sym f)
        | inr ne ↦ at_other regs thread reg x r ne
      ] ∙ ap (λ k. regs k r) (sym e)
  | inr ne ↦ ap (λ (row : Regs). row r) (reg_there regs thread reg x t ne)
]

pub write_goes_on : WriteGoesOn
write_goes_on threads ls ps a thread reg value seen can hr was found alone =
    let s = seen.slot in
    let op = ops.Write reg value in
    let x = played_at a.rules ls thread op (Done seen) in
    let after = with_slot a.word s (stepped steps.Write seen.found.0) in
    let now = with_slot a.content s value in
    let lets = handle_lets threads ls ps a thread reg can hr in
    let c : CanStep steps.Write seen.found.0 =
    able threads ls ps a thread can steps.Write seen found (lets.writes s was (ap refs_of (sym found) ∙ alone)) in
    let st : StepsTo s steps.Write seen.found.0 a.word after = steps_slot a.word s steps.Write seen.found.0 found c in
    let m : Mark = mark_at (length ls + 2) seen (Some steps.Write) in
    let V : ℕ → Type 0 = λ v. IsContent (ps ++ x ∷ []) s (number_of (after s)) v in
    let R : Reg → Type 0 = λ r. WriteRow r (a.regs thread) (Done seen) (with_reg a.regs thread reg (Own s) thread) in
    let L : AllRegs → Type 0 =
    λ regs. LeadsTo threads ls ps thread op (Done seen) (record a { regs = regs; word = after; content = now }) in
    let same : with_reg a.regs thread reg (Own s) ≡ a.regs = fun_ext (λ t. fun_ext (λ r. set_same a.regs thread reg (Own s) was t r)) in
    subst L same (step_turn threads ls ps a thread reg op (Done seen) seen steps.Write (Own s) (Own s) now can hr was refl (λ k r e. cc)
    (λ u n e. absurd cc)
    found c (write_balances s seen.found.0 (Own s)) (stepped_up a.word s steps.Write seen.found.0 c)
    (subst R (sym was) (seen, refl, (λ k. set_same a.regs thread reg (Own s) was thread k), inr (alone, refl)))
    (contents_step ps x (length ls + 2) a.word a.content after now s can.told.numbers can.told.contents (found_by a.word x m refl found)
    st.others (λ t ne. at_other_slot a.content s value t ne)
    (λ h. subst V (sym (at_slot a.content s value)) (content_written ps x a.word after seen reg value refl refl st))
    tt))
