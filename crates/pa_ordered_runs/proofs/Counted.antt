-- Numbers of a run in the order of its lines: a look or a counted step finds as many counted steps of its slot before it as its number
-- says.
use Rattle.std.proofs.Common.{◌≡◌, ℕ, suc, ◌+◌, Bool, true, false, cond, List, [], ◌∷◌, ◌++◌, map, length, Option, Some, None, refl, sym, ◌∙◌, ap, subst, arith, inl, inr}
use Rattle.std.specs.Prelude.{Contains, is_some, ◌&&◌}
use Rattle.std.specs.List.{cons_option, filter_map}
use Rattle.std.proofs.lemmas.List.Sums.{sum_by-cons, sum_by-append}
use Rattle.pa_slot.specs.declared.word.SlotName.{SlotName}
use Rattle.pa_slot.specs.declared.word.Step.{Step}
use Rattle.pa_slot.specs.declared.word.Step.TheVariants as steps
use Rattle.pa_slot.specs.Count.{number_of}
use Rattle.pa_slot.specs.Run.{Mark, same_slot}
use Rattle.pa_trace.specs.declared.script.Op.{Op}
use Rattle.pa_trace.specs.declared.script.Op.TheVariants as ops
use Rattle.pa_record.specs.declared.entry.Seen.{Seen}
use Rattle.pa_record.specs.declared.entry.Answer.{Answer}
use Rattle.pa_record.specs.declared.entry.Answer.TheVariants as answers
use Rattle.pa_lists.proofs.Members.{first_in, later_in, of_some, not_some}
use Rattle.pa_lists.proofs.Elements.{in_middle, parts_at, in_front}
use Rattle.pa_rules.specs.declared.played.Played.{Played}
use Rattle.pa_rules.specs.Played.{mark_of, mark_of_answer, mark_at, look_at, marks_of, step_of}
use Rattle.pa_rules.specs.Registers.{Regs, Reg, Facts, Row, AllocRow, RequestRow, ReadRow, ReadFromRow}
use Rattle.pa_rules.specs.declared.register.Register.TheVariants.{Empty, Own, Ref, Freed, Cleared}
use Rattle.pa_timeline.specs.Timeline.{Part, Looking, Counting, Moment, entry_parts, answer_parts, is_of_slot, is_counted_on, counted_steps, IsTouch}
use Rattle.pa_rules.proofs.Phases.{mark_in}
use Rattle.pa_one_run.specs.Parts.{Parts}
use Rattle.pa_one_run.specs.Before.{facts_of}
use Rattle.pa_one_run.proofs.Filed.{IsFiled}
use Rattle.pa_one_run.proofs.rows.Handles.{row_at}
use Rattle.pa_one_run.proofs.words.Fronts.{steps_of, steps_at}
use Rattle.pa_one_run.proofs.words.Found.{marks_at}
use Rattle.pa_one_run.proofs.words.Marks.{marks_rise}
use Rattle.pa_ordered_runs.proofs.Steps.{moment, steps_in, moments_at, line_by_line, no_entries, made_kept, done_kept, touching, first_touch}

-- ---- `done` is an answer of a counted step

module _ (facts : Facts) (regs next : Regs) (seen : Seen) where
  not_requested : (reg size : ℕ) → RequestRow facts regs reg size (answers.Done seen) next → ⊥
  not_requested reg size (inl (large, is, becomes)) = cc
  not_requested reg size (inr (inl (fits, other, is, becomes))) = cc
  not_requested reg size (inr (inr (fits, entry, is, becomes))) = cc

  not_allocated : (r : Reg) (reg size : ℕ) → AllocRow r facts regs reg size (answers.Done seen) next → ⊥
  not_allocated Empty reg size h = not_requested reg size h
  not_allocated (Own s) reg size h = let e = h.0 in cc
  not_allocated (Ref s) reg size h = let e = h.0 in cc
  not_allocated Freed reg size h = not_requested reg size h
  not_allocated Cleared reg size h = not_requested reg size h

  not_read_from : (s : SlotName) (place : ℕ) → ReadFromRow s facts regs place (answers.Done seen) next → ⊥
  not_read_from s place (becomes, inl (past, is)) = cc
  not_read_from s place (becomes, inr (inside, other, value, slot, inl (held, is))) = cc
  not_read_from s place (becomes, inr (inside, other, value, slot, inr (freed, is))) = cc

  not_read : (r : Reg) (place : ℕ) → ReadRow r facts regs place (answers.Done seen) next → ⊥
  not_read Empty place h = let e = h.0 in cc
  not_read (Own s) place h = not_read_from s place h
  not_read (Ref s) place h = not_read_from s place h
  not_read Freed place h = let e = h.0 in cc
  not_read Cleared place h = let e = h.0 in cc

  pub done_is_step : (op : Op) → Row facts op regs (answers.Done seen) next → (p : Step) × (step_of op ≡ Some p)
  done_is_step (ops.Alloc reg partition size) row = absurd (not_allocated (regs reg) reg size row)
  done_is_step (ops.Copy from to) row = (steps.Copy, refl)
  done_is_step (ops.Reset reg) row = (steps.Reset, refl)
  done_is_step (ops.Free reg) row = (steps.Free, refl)
  done_is_step (ops.Write reg value) row = (steps.Write, refl)
  done_is_step (ops.Read reg place) row = absurd (not_read (regs reg) place row)
  done_is_step (ops.Swap cell reg) (entry, e, is, at, gave, becomes) = absurd cc
  done_is_step ops.Purge (slots, is, becomes) = absurd cc

pub record_steps : (a : Parts) (x : Played) (seen : Seen) → IsFiled a → Contains a.ps x → x.answer ≡ answers.Done seen →
    (p : Step) × (step_of x.op ≡ Some p)
record_steps a x seen h among is =
    let (before, rest, parts) = parts_at a.ps x among in
    let at = row_at a before rest x h parts in
    done_is_step (facts_of a) (at.all x.thread) at.next seen x.op (subst (λ v. Row (facts_of a) x.op (at.all x.thread) v at.next) is at.row)

-- ---- how many counted steps a record has

abbrev counting : Part → Option ℕ
counting Counting = Some 0
counting part = None

abbrev step_piece : Option Step → List ℕ
step_piece None = []
step_piece (Some p) = 0 ∷ []

looked_at : (line : ℕ) (seen : Seen) (m : Mark) → look_at line (Some seen) ≡ Some m → [] ≡ step_piece m.step
looked_at line seen m is = ap (λ (z : Mark). step_piece z.step) (of_some (mark_at line seen None) m is)

answer_counts : (a : Parts) (line words : ℕ) (op : Op) (answer : Answer) (m : Mark) →
    ((seen : Seen) → answer ≡ answers.Done seen → (p : Step) × (step_of op ≡ Some p)) → mark_of_answer line op answer ≡ Some m →
    filter_map counting (answer_parts words op (entry_parts a.partitions a.roots line) answer) ≡ step_piece m.step
answer_counts a line words op (answers.Made seen usable) m done is =
    let entries = entry_parts a.partitions a.roots line in
    made_kept counting entries ∙ ap (λ ys. ys ++ 0 ∷ []) (no_entries counting a.partitions a.roots line refl (λ p act. refl))
    ∙ ap (λ (z : Mark). step_piece z.step) (of_some (mark_at line seen (Some steps.Issue)) m is)
answer_counts a line words op (answers.Done seen) m done is =
    let entries = entry_parts a.partitions a.roots line in
    let (p, step) = done seen refl in
    done_kept counting words op entries (λ word. refl) ∙
    ap (λ ys. 0 ∷ ys) (no_entries counting a.partitions a.roots line refl (λ q act. refl))
    ∙ sym (ap step_piece step) ∙ ap (λ (z : Mark). step_piece z.step) (of_some (mark_at line seen (step_of op)) m is)
answer_counts a line words op (answers.Value seen value) m done is = looked_at line seen m is
answer_counts a line words op (answers.Dangling seen value) m done is = looked_at line seen m is
answer_counts a line words op (answers.NotOwner seen) m done is = looked_at line seen m is
answer_counts a line words op (answers.Shared seen) m done is = looked_at line seen m is
answer_counts a line words op (answers.SecondFree (Some seen)) m done is = looked_at line seen m is
answer_counts a line words op (answers.StaleUse (Some seen)) m done is = looked_at line seen m is
answer_counts a line words op (answers.SecondFree None) m done is = absurd (not_some m is)
answer_counts a line words op (answers.StaleUse None) m done is = absurd (not_some m is)
answer_counts a line words op answer m done is = absurd (not_some m is)

-- ---- counted steps among moments

counted_more : (b : Bool) (all rest n : ℕ) → all ≡ cond {A = ℕ} b 1 0 + rest → rest ≡ cond {A = ℕ} b n 0 → all ≡ cond {A = ℕ} b (suc n) 0
counted_more true all rest n e f = omega arith
counted_more false all rest n e f = omega arith

none_of : (b : Bool) → 0 ≡ cond {A = ℕ} b 0 0
none_of true = refl
none_of false = refl

counted_own : (s : SlotName) (x : Played) (parts : List Part) →
    counted_steps s (map (moment x) parts) ≡ cond {A = ℕ} (is_of_slot s (mark_of x)) (length (filter_map counting parts)) 0
counted_own s x [] = none_of (is_of_slot s (mark_of x))
counted_own s x (Counting ∷ parts) =
    let all = sum_by-cons (λ (m : Moment). cond {A = ℕ} (is_counted_on s m.x m.part) 1 0) (moment x Counting) (map (moment x) parts) in
    counted_more (is_of_slot s (mark_of x)) _ _ (length (filter_map counting parts)) (omega arith) (counted_own s x parts)
counted_own s x (part ∷ parts) =
    let all = sum_by-cons (λ (m : Moment). cond {A = ℕ} (is_counted_on s m.x m.part) 1 0) (moment x part) (map (moment x) parts) in
    let ih = counted_own s x parts in
    omega arith

pub counted_none : (s : SlotName) (x : Played) (us : List Part) → filter_map touching us ≡ [] → counted_steps s (map (moment x) us) ≡ 0
counted_none s x [] none = refl
counted_none s x (Looking ∷ us) none = absurd cc
counted_none s x (Counting ∷ us) none = absurd cc
counted_none s x (part ∷ us) none =
    let all = sum_by-cons (λ (m : Moment). cond {A = ℕ} (is_counted_on s m.x m.part) 1 0) (moment x part) (map (moment x) us) in
    let ih = counted_none s x us none in
    omega arith

step_counts : (b : Bool) (o : Option Step) (n : ℕ) → n ≡ length (step_piece o) → cond {A = ℕ} b n 0 ≡ cond {A = ℕ} (b && is_some o) 1 0
step_counts true None n e = e
step_counts true (Some p) n e = e
step_counts false o n e = refl

module _ (a : Parts) (h : IsFiled a) (s : SlotName) where
  record_counts : (x : Played) (o : Option Mark) → Contains a.ps x → mark_of x ≡ o →
      counted_steps s (moments_at a x) + steps_of s [] ≡ steps_of s (cons_option o [])
  record_counts x None among is =
      let own = counted_own s x (steps_in a x) in
      let none : is_of_slot s (mark_of x) ≡ false = ap (is_of_slot s) is in
      let zero : cond {A = ℕ} (is_of_slot s (mark_of x)) (length (filter_map counting (steps_in a x))) 0 ≡ 0 = rw none refl in
      omega arith
  record_counts x (Some m) among is =
      let own = counted_own s x (steps_in a x) in
      let kept = answer_counts a x.line _ x.op x.answer m (λ seen answer. record_steps a x seen h among answer) is in
      let of : is_of_slot s (mark_of x) ≡ same_slot m.slot s = ap (is_of_slot s) is in
      let here = ap (λ b. cond {A = ℕ} b (length (filter_map counting (steps_in a x))) 0) of in
      let step = step_counts (same_slot m.slot s) m.step (length (filter_map counting (steps_in a x))) (ap length kept) in
      let one = sum_by-cons (λ y. cond {A = ℕ} (same_slot y.slot s && is_some y.step) 1 0) m [] in
      omega arith

  mark_more : (o : Option Mark) (ms : List Mark) → steps_of s (cons_option o ms) ≡ steps_of s (cons_option o []) + steps_of s ms
  mark_more None ms = omega arith
  mark_more (Some m) ms =
      let one = sum_by-cons (λ y. cond {A = ℕ} (same_slot y.slot s && is_some y.step) 1 0) m [] in
      let all = sum_by-cons (λ y. cond {A = ℕ} (same_slot y.slot s && is_some y.step) 1 0) m ms in
      omega arith

  pub counted_along : (ps : List Played) → ((x : Played) → Contains ps x → Contains a.ps x) →
      counted_steps s (line_by_line a ps) ≡ steps_of s (marks_of ps)
  counted_along [] there = refl
  counted_along (x ∷ ps) there =
      let parted = sum_by-append (λ (m : Moment). cond {A = ℕ} (is_counted_on s m.x m.part) 1 0) (moments_at a x) (line_by_line a ps) in
      let here = record_counts x (mark_of x) (there x (first_in x ps)) refl in
      let more = mark_more (mark_of x) (marks_of ps) in
      let ih = counted_along ps (λ y among. there y (later_in x y ps among)) in
      omega arith

-- a touch of a record finds as many as its number says
pub touch_found : (a : Parts) (front back : List Played) (x : Played) (us vs : List Part) (part : Part) (k : Mark) → IsFiled a →
    a.ps ≡ front ++ x ∷ back → steps_in a x ≡ us ++ part ∷ vs → IsTouch part → mark_of x ≡ Some k →
    number_of k.found ≡ counted_steps k.slot (line_by_line a front ++ map (moment x) us)
touch_found a front back x us vs part k h parts cut touch is =
    let parted = sum_by-append (λ (m : Moment). cond {A = ℕ} (is_counted_on k.slot m.x m.part) 1 0) (line_by_line a front)
    (map (moment x) us) in
    let none = counted_none k.slot x us (first_touch a x us vs part cut touch) in
    let along = counted_along a h k.slot front (λ y among. in_front front (x ∷ back) a.ps y parts among) in
    let number = h.order.numbers k (mark_in a.ps x k (in_middle front back a.ps x parts) is) in
    let at = steps_at (marks_of a.ps) (marks_of front) (marks_of back) k (marks_rise a.ps h.rising) (marks_at a front back x k parts is) in
    omega arith
