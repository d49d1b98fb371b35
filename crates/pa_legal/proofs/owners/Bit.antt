-- The owner of a slot finds the slot's bit: the first free after the issue from which its Own comes is of that Own.
use Rattle.std.proofs.Common.{◌≡◌, ℕ, zero, suc, ◌+◌, ◌≤◌, List, ◌∷◌, Some, refl, sym, ◌∙◌, ap, subst, arith, inl, inr}
use Rattle.std.specs.Prelude.{Contains}
use Rattle.std.proofs.lemmas.Bool.{cases_lt}
use Rattle.pa_slot.specs.declared.word.SlotName.{SlotName}
use Rattle.pa_slot.specs.declared.word.Step.TheVariants.{Issue, Free}
use Rattle.pa_slot.specs.Count.{number_of, held_of, stepped}
use Rattle.pa_slot.specs.Run.{Mark, IsRunFrom, IsOneRun}
use Rattle.pa_slot.proofs.Arith.{stepped_is, held_small}
use Rattle.pa_slot.proofs.Runs.{number_stepped}
use Rattle.pa_record.specs.declared.entry.Answer.TheVariants as answers
use Rattle.pa_trace.specs.declared.script.Op.TheVariants as ops
use Rattle.pa_rules.specs.declared.register.Register.TheVariants.{Empty, Own}
use Rattle.pa_rules.specs.declared.played.Played.{Played}
use Rattle.pa_rules.specs.Played.{mark_of, mark_of_answer, mark_at, marks_of}
use Rattle.pa_rules.specs.Changes.{change_of}
use Rattle.pa_rules.specs.Contents.{HasRegs}
use Rattle.pa_rules.specs.Registers.{Reg, Regs, FreeRow, Row}
use Rattle.pa_rules.specs.Seen.{IsBefore, left_number, Standing, Between}
use Rattle.pa_rules.specs.Sizes.{usable_of}
use Rattle.pa_rules.proofs.Marking.{found_left}
use Rattle.pa_rules.proofs.Numbering.{rising_differ}
use Rattle.pa_rules.proofs.Phases.{mark_in}
use Rattle.pa_rules.proofs.Running.{marks_differ, mark_from}
use Rattle.pa_lists.proofs.Members.{of_some}
use Rattle.pa_legal.specs.Owners.{WasPut, HaveHandles, OwnersFindTheBit}
use Rattle.pa_legal.proofs.Words.{Steps, one_stepper, goes_on}
use Rattle.pa_legal.proofs.owners.Falling.{FirstFree, first_free}
use Rattle.pa_legal.proofs.owners.Putting.{Cells, facts_of, row_of, record_in, was_put}
use Rattle.pa_legal.proofs.owners.Using.{free_done, owner_frees}
use Rattle.pa_legal.proofs.owners.Ways.{Ends, SoonOr, Way, HasSource, has_source, way_before, ends_last}

-- x's thread has the Own of slot s, which comes from an issue
pub record Owns (cells : Cells) (ps : List Played) (s : SlotName) (x : Played) : Type 0 where
  pub reg : ℕ
  pub put : Played
  pub held : WasPut cells ps x reg (Own s) put
  pub source : HasSource cells ps s put
  pub issue : Mark
  pub made : Steps ps s source.source issue Issue

-- the record f, which is there, freed slot s by its Own
pub record Frees (cells : Cells) (ps : List Played) (s : SlotName) (f : Played) : Type 0 where
  pub owns : Owns cells ps s f
  pub ends : Ends cells ps s owns.reg owns.put f

module _ (version : ℕ) (cells : Cells) (ps : List Played) (h : HaveHandles version cells ps) (s : SlotName) where
  owns_of : (x y : Played) (reg : ℕ) → WasPut cells ps x reg (Own s) y → Owns cells ps s x
  owns_of x y reg put =
      let source = has_source version cells ps h s y reg put.among put.puts in
      let (seen, usable, is, slot) = source.made in
      record {
        reg = reg;
        put = y;
        held = put;
        source = source;
        issue = mark_at source.source.line seen (Some Issue);
        made = record {
          among = source.among;
          mark = ap (mark_of_answer source.source.line source.source.op) is;
          slot = slot;
          step = refl;
        };
      }

  owner_of : (x : Played) (regs : Regs) (reg : ℕ) → HasRegs (usable_of version) cells ps x regs → regs reg ≡ Own s → Owns cells ps s x
  owner_of x regs reg has own =
      let (y, put) = was_put version cells ps x regs reg h.rising has (λ empty. let none : Own s ≡ Empty = sym own ∙ empty in cc) in
      owns_of x y reg (subst (λ (r : Reg). WasPut cells ps x reg r y) own put)

  -- the record of a free had the Own
  free_owns : (f : Played) (m : Mark) → Contains ps f → mark_of f ≡ Some m → m.slot ≡ s → m.step ≡ Some Free → Frees cells ps s f
  unfolding owns_of
  free_owns f m among mark slot step =
      let (reg, seen, op, answer, at) = free_done f.line f.op f.answer m mark step in
      let (regs, next, has, row) = row_of version cells ps f h.registers among in
      let frees : FreeRow (regs reg) regs reg (answers.Done seen) next = subst (λ a. FreeRow (regs reg) regs reg a next) answer
      (subst (λ o. Row (facts_of version cells ps) o regs f.answer next) op row) in
      let own : regs reg ≡ Own s = owner_frees (regs reg) regs next reg seen frees ∙ ap Own (at ∙ slot) in
      let (y, put) = was_put version cells ps f regs reg h.rising has (λ empty. let none : Own s ≡ Empty = sym own ∙ empty in cc) in
      let held : WasPut cells ps f reg (Own s) y = subst (λ (r : Reg). WasPut cells ps f reg r y) own put in
      record {
        owns = owns_of f y reg held;
        ends = record {
          among = among;
          held = held;
          changes = ap (λ o. change_of cells o f.answer) op ∙ ap (change_of cells (ops.Free reg)) answer;
          free = op;
        };
      }

  -- ---- by numbers

  seen_later : (x y : Played) (m n : Mark) → Contains ps x → Contains ps y → SoonOr version cells ps h s x y → mark_of x ≡ Some m
      → mark_of y ≡ Some n → m.slot ≡ n.slot → number_of m.found ≤ number_of n.found
  seen_later x y m n a b (inl e) mark mark' slot =
      let same : number_of m.found ≡ number_of n.found = ap (λ (z : Mark). number_of z.found)
      (of_some m n (sym mark ∙ ap mark_of e ∙ mark')) in
      omega (arith, same)
  seen_later x y m n a b (inr before) mark mark' slot =
      let left = h.seen.rising x y m n a b before mark mark' slot in
      let more = found_left m in
      omega (arith, left, more)

  -- whoever has an Own found no lower number than its issue left
  issued_below : (x : Played) (m : Mark) → Contains ps x → mark_of x ≡ Some m → m.slot ≡ s → (o : Owns cells ps s x)
      → number_of o.issue.found + 1 ≤ number_of m.found
  issued_below x m among mark slot o =
      let put : IsBefore cells ps o.put x = Standing (inl (o.held.thread, o.held.before)) in
      let before = h.seen.rising o.source.source x o.issue m o.source.among among
      (then_at (way_before version cells ps h s o.source.turns o.source.source o.put o.source.way) put) o.made.mark mark
      (o.made.slot ∙ sym slot) in
      let left : left_number o.issue ≡ number_of o.issue.found + 1 = rw o.made.step refl in
      omega (arith, before, left)
    where
      then_at : SoonOr version cells ps h s o.source.source o.put → IsBefore cells ps o.put x → IsBefore cells ps o.source.source x
      then_at (inl e) next = subst (λ p. IsBefore cells ps p x) (sym e) next
      then_at (inr first) next = Between o.put o.held.among first next

  -- if two Owns come from one issue, whoever has the one found no greater number than the record that freed the other
  free_last : (x f : Played) (m n : Mark) → Contains ps x → mark_of x ≡ Some m → m.slot ≡ s → (o : Owns cells ps s x)
      → (g : Frees cells ps s f) → mark_of f ≡ Some n → n.slot ≡ s
      → o.source.source ≡ g.owns.source.source → number_of m.found ≤ number_of n.found
  free_last x f m n among mark slot o g mark' slot' same =
      let way : Way cells ps s g.owns.source.turns o.source.source g.owns.put = subst
      (λ i. Way cells ps s g.owns.source.turns i g.owns.put) (sym same) g.owns.source.way in
      let soon = ends_last version cells ps h s o.source.turns g.owns.source.turns o.source.source x o.put g.owns.put f
      o.reg g.owns.reg among o.held o.source.way way g.ends in
      seen_later x f m n among g.ends.among soon mark mark' (slot ∙ sym slot')

  module _ (vs : List ℕ) (run : IsRunFrom (marks_of ps) s 0 vs) (one : IsOneRun (marks_of ps) s (0 ∷ vs)) where
    -- the word that an issue left is one of the slot's, and has the bit
    pub record Issued (i : Mark) : Type 0 where
      pub among : Contains (0 ∷ vs) (stepped Issue i.found)
      pub bit : held_of (stepped Issue i.found) ≡ 1
      pub none : held_of i.found ≡ 0
      pub next : number_of (stepped Issue i.found) ≡ number_of i.found + 1

    issued : (i : Mark) → Contains (marks_of ps) i → i.slot ≡ s → i.step ≡ Some Issue → Issued i
    issued i member slot step =
        let (first, can) = one.used i Issue member slot step in
        let (a, b, c, d) = stepped_is Issue i.found can in
        record {
          among = goes_on (marks_of ps) s 0 vs i.found i Issue (marks_differ ps (rising_differ ps h.rising)) run
              (one.found i member slot) first can;
          bit = b;
          none = can.0.0;
          next = number_stepped Issue i.found can;
        }

    issue_of : (x : Played) → (o : Owns cells ps s x) → Issued o.issue
    issue_of x o = issued o.issue (mark_in ps o.source.source o.issue o.source.among o.made.mark) o.made.slot o.made.step

    -- the first free after an issue
    falls : (i : Mark) (w : ℕ) → Issued i → Contains (0 ∷ vs) w → held_of w ≡ 0 → number_of i.found + 1 ≤ number_of w
        → FirstFree (marks_of ps) s vs (stepped Issue i.found) w
    falls i w is there none most =
        let next = is.next in
        first_free (marks_of ps) s vs (marks_differ ps (rising_differ ps h.rising)) run
        (stepped Issue i.found) w is.among there is.bit none (omega (arith, next, most))

    abbrev NoFree : (x : Played) → Owns cells ps s x → Mark → Type 0
    NoFree x o m =
        (w : ℕ) → Contains (0 ∷ vs) w → held_of w ≡ 0 → number_of o.issue.found + 1 ≤ number_of w → number_of w ≤ number_of m.found → ⊥

    -- from the issue to the owner's record each word has the bit
    still_held : (k : ℕ) (x : Played) (m : Mark) → number_of m.found ≤ k → Contains ps x → mark_of x ≡ Some m → m.slot ≡ s
        → (o : Owns cells ps s x) → NoFree x o m
    still_held zero x m few among mark slot o w there none low high = omega (arith, few, low, high)
    still_held (suc k) x m few among mark slot o w there none low high =
        let fall = falls o.issue w (issue_of x o) there none low in
        let (f, member, mark') = mark_from ps fall.free fall.among in
        let g = free_owns f fall.free member mark' fall.slot fall.step in
        let less = fall.high in
        let above = fall.low in
        let next = (issue_of x o).next in
        let below = issued_below f fall.free member mark' fall.slot g.owns in
        elim (cases_lt (number_of g.owns.issue.found) (number_of o.issue.found)) [
          | inl older ↦
              still_held k f fall.free (omega (arith, less, high, few)) member mark' fall.slot g.owns o.issue.found
              (one.found o.issue (mark_in ps o.source.source o.issue o.source.among o.made.mark) o.made.slot) (issue_of x o).none
              (omega (arith, older)) (omega (arith, above, next))
          | inr most ↦ elim (cases_lt (number_of o.issue.found) (number_of g.owns.issue.found)) [
            | inl newer ↦
                let bit = fall.held g.owns.issue.found
                (one.found g.owns.issue (mark_in ps g.owns.source.source g.owns.issue g.owns.source.among g.owns.made.mark)
                g.owns.made.slot)
                (omega (arith, next, newer)) (omega (arith, below)) in
                let none' = (issue_of f g.owns).none in
                omega (arith, bit, none')
            | inr least ↦
                let same = one_stepper ps s o.source.source g.owns.source.source o.issue g.owns.issue Issue Issue
                (rising_differ ps h.rising) h.slots o.made g.owns.made (omega (arith, most, least)) in
                let last = free_last x f m fall.free among mark slot o g mark' fall.slot same in
                omega (arith, last, less, high)
          ]
        ]

  pub owner_finds : (x : Played) (m : Mark) → Contains ps x → mark_of x ≡ Some m → m.slot ≡ s → Owns cells ps s x → held_of m.found ≡ 1
  owner_finds x m among mark slot o =
      let (vs, run, one) = h.slots s in
      let small = held_small m.found in
      elim (cases_lt 0 (held_of m.found)) [
        | inl some ↦ omega (arith, some, small)
        | inr none ↦ absurd (still_held vs run one (number_of m.found) x m (omega arith) among mark slot o m.found
            (one.found m (mark_in ps x m among mark) slot)
            (omega (arith, none)) (issued_below x m among mark slot o) (omega arith))
      ]

pub owners_find_the_bit : OwnersFindTheBit
owners_find_the_bit version cells ps x m regs reg h has own mark =
    owner_finds version cells ps h m.slot x m (record_in version cells ps x regs has) mark refl
    (owner_of version cells ps h m.slot x regs reg has own)
