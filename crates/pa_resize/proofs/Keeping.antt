-- The law of what a move keeps.
use Rattle.std.proofs.Common.{◌≡◌, ℕ, ◌+◌, ◌<◌, List, [], ◌∷◌, ◌++◌, refl, sym, ap, ◌∙◌, subst, arith, ◌⊎◌, inl, inr, append_assoc}
use Rattle.std.proofs.lemmas.Bool.{cases_eq}
use Rattle.pa_slot.specs.declared.word.SlotName.{SlotName}
use Rattle.pa_slot.specs.Count.{number_of, refs_of}
use Rattle.pa_trace.specs.declared.script.Line.TheVariants.{Do}
use Rattle.pa_trace.specs.declared.script.Op.{Op}
use Rattle.pa_trace.specs.declared.script.Op.TheVariants as ops
use Rattle.pa_trace.specs.declared.script.Trace.{Trace}
use Rattle.pa_trace.specs.Limits.{IsWithinLimits}
use Rattle.pa_record.specs.declared.entry.Seen.{Seen}
use Rattle.pa_record.specs.declared.entry.Answer.TheVariants.{Done, Shared}
use Rattle.pa_record.specs.declared.history.Held.TheVariants as held
use Rattle.pa_rules.specs.declared.played.Played.{Played}
use Rattle.pa_rules.specs.declared.register.Register.TheVariants.{Empty, Own, Freed}
use Rattle.pa_rules.specs.Legal.{IsFileTold}
use Rattle.pa_rules.specs.Registers.{Regs, AllRegs, Facts, Row, Becomes, WriteRow, FreeRow, with, with_thread, handle_of, reg_of, facts_with}
use Rattle.pa_rules.specs.Sizes.{usable_of}
use Rattle.pa_rules.specs.Told.{Told, records_of}
use Rattle.pa_rules.specs.Contents.{IsContent}
use Rattle.pa_one_run.specs.Parts.{Parts, parts_of}
use Rattle.pa_one_run.specs.Before.{word_after}
use Rattle.pa_one_run.proofs.Filed.{IsFiled}
use Rattle.pa_one_run.proofs.Legality.{filed}
use Rattle.pa_resize.specs.Expansion.{did, spare, Object, IsLook, NeedsOther, HasNoRoom}
use Rattle.pa_resize.specs.Keeping.{LeadsOver, StandsBetween, cell_before, IsSpareFree, IsMoveKept, MovesKeep}
use Rattle.pa_resize.proofs.Setting.{same_left, sets_left, read_held, makes}
use Rattle.pa_resize.proofs.Cells.{holds, holds_one, stands_here, stands_next, parts_next, holds_same, holds_on, exchanges}
use Rattle.pa_resize.proofs.Moving.{line_thread, line_op, four, Move, freed_alone, new_content, old_content}

-- ---- one record of a thread

abbrev pub facts_in : List Played → Told → Facts
facts_in ps r = facts_with (usable_of 1) ps r.cells

pub record Lead (ps : List Played) (r : Told) (all : AllRegs) (thread : ℕ) (op : Op) (x : Played) (xs : List Played)
    (after : AllRegs) : Type 0 where
  pub next : Regs
  pub row : Row (facts_in ps r) op (all thread) x.answer next
  pub rest : LeadsOver ps r (with_thread all thread next) xs after

pub lead : (ps : List Played) (r : Told) (all : AllRegs) (thread : ℕ) (op : Op) (x : Played) (xs : List Played) (after : AllRegs) →
    did x ≡ Do thread op
    → LeadsOver ps r all (x ∷ xs) after → Lead ps r all thread op x xs after
lead ps r all thread op x xs after is (next, row, rest) =
    let F : Facts = facts_in ps r in
    let here : Row F op (all x.thread) x.answer next = subst (λ o. Row F o (all x.thread) x.answer next) (line_op x thread op is) row in
    let at : x.thread ≡ thread = line_thread x thread op is in
    record {
      next = next;
      row = subst (λ i. Row F op (all i) x.answer next) at here;
      rest = subst (λ i. LeadsOver ps r (with_thread all i next) xs after) at rest;
    }

-- ---- a write and a free of what a register owns

pub record Wrote (s : SlotName) (regs : Regs) (x : Played) (next : Regs) : Type 0 where
  pub seen : Seen
  pub slot : seen.slot ≡ s
  pub same : Becomes next regs
  pub says : (x.answer ≡ Done seen) ⊎ (x.answer ≡ Shared seen)
  pub refs : x.answer ≡ Shared seen → 0 < refs_of seen.found.0

wrote_own : (s : SlotName) (regs : Regs) (x : Played) (next : Regs) → WriteRow (Own s) regs x.answer next → Wrote s regs x next
wrote_own s regs x next (seen, slot, same, inl (some, says)) =
    record { seen = seen; slot = slot; same = same; says = inr says; refs = λ e. some }
wrote_own s regs x next (seen, slot, same, inr (none, says)) =
    record { seen = seen; slot = slot; same = same; says = inl says; refs = λ e. absurd (done_shared (sym says ∙ e)) }
  where
    done_shared : Done seen ≡ Shared seen → ⊥
    done_shared e = cc

pub wrote : (s : SlotName) (regs : Regs) (reg : ℕ) (x : Played) (next : Regs) → regs reg ≡ Own s →
    WriteRow (regs reg) regs x.answer next → Wrote s regs x next
wrote s regs reg x next own row = wrote_own s regs x next (subst (λ v. WriteRow v regs x.answer next) own row)

pub record Frees (s : SlotName) (regs : Regs) (reg : ℕ) (x : Played) (next : Regs) : Type 0 where
  pub seen : Seen
  pub slot : seen.slot ≡ s
  pub done : x.answer ≡ Done seen
  pub becomes : Becomes next (with regs reg Freed)

pub frees : (s : SlotName) (regs : Regs) (reg : ℕ) (x : Played) (next : Regs) → regs reg ≡ Own s →
    FreeRow (regs reg) regs reg x.answer next → Frees s regs reg x next
frees s regs reg x next own row =
    let (seen, slot, done, becomes) = subst (λ v. FreeRow v regs reg x.answer next) own row in
    record { seen = seen; slot = slot; done = done; becomes = becomes }

-- ---- the six records

module _ (t : Trace) (r : Told) (limits : IsWithinLimits t) (run : IsFileTold t r) (before rest : List Played) (x y w f e g : Played)
    (parts : records_of t r ≡ before ++ x ∷ y ∷ w ∷ f ∷ e ∷ g ∷ rest) (regs after : AllRegs) (thread reg size : ℕ) (low : reg < spare)
    (o : Object) (look : IsLook r.roots (regs thread reg) thread reg o x) (needs : NeedsOther o size)
    (ask : did y ≡ Do thread (ops.Alloc spare o.partition size)) (room : HasNoRoom y.answer → ⊥)
    (writes : did w ≡ Do thread (ops.Write spare o.value)) (frees_it : did f ≡ Do thread (ops.Free reg))
    (gives : did e ≡ Do thread (ops.Swap spare spare)) (takes : did g ≡ Do thread (ops.Swap spare reg))
    (leads : LeadsOver (records_of t r) r regs (x ∷ y ∷ w ∷ f ∷ e ∷ g ∷ []) after)
    (free : IsSpareFree r before (x ∷ y ∷ w ∷ f ∷ e ∷ g ∷ rest) regs) where
  abbrev pub a : Parts
  a = parts_of t r

  abbrev pub h : IsFiled (parts_of t r)
  h = filed t r limits run

  -- what the rows leave in the registers: the slots, and the answers
  pub record Six : Type 0 where
    pub new : SlotName
    pub move : Move (parts_of t r) before rest x y w f e g o.slot new o.value
    pub owner : after thread reg ≡ Own new
    pub others : (t k : ℕ) → ((t ≡ thread) × (k ≡ reg) → ⊥) → after t k ≡ regs t k
    pub cell : holds (parts_of t r) h (g.line + 1) spare ≡ held.Nothing

  -- no other cell is exchanged with
  beside : (z : Played) (op : Op) (k : ℕ) → did z ≡ Do thread op → ((i : ℕ) → op ≡ ops.Swap k i → ⊥) → (i : ℕ) → z.op ≡ ops.Swap k i → ⊥
  beside z op k is other i swaps = other i (sym (line_op z thread op is) ∙ swaps)

  no_swap_x : (k i : ℕ) → x.op ≡ ops.Swap k i → ⊥
  no_swap_x k = beside x (ops.Read reg 0) k look.line (λ i e. cc)

  no_swap_y : (k i : ℕ) → y.op ≡ ops.Swap k i → ⊥
  no_swap_y k = beside y (ops.Alloc spare o.partition size) k ask (λ i e. cc)

  no_swap_w : (k i : ℕ) → w.op ≡ ops.Swap k i → ⊥
  no_swap_w k = beside w (ops.Write spare o.value) k writes (λ i e. cc)

  no_swap_f : (k i : ℕ) → f.op ≡ ops.Swap k i → ⊥
  no_swap_f k = beside f (ops.Free reg) k frees_it (λ i e. cc)

  q1 : a.ps ≡ (before ++ x ∷ []) ++ y ∷ w ∷ f ∷ e ∷ g ∷ rest
  q1 = parts_next a h before (y ∷ w ∷ f ∷ e ∷ g ∷ rest) x parts

  q2 : a.ps ≡ ((before ++ x ∷ []) ++ y ∷ []) ++ w ∷ f ∷ e ∷ g ∷ rest
  q2 = parts_next a h (before ++ x ∷ []) (w ∷ f ∷ e ∷ g ∷ rest) y q1

  q3 : a.ps ≡ (((before ++ x ∷ []) ++ y ∷ []) ++ w ∷ []) ++ f ∷ e ∷ g ∷ rest
  q3 = parts_next a h ((before ++ x ∷ []) ++ y ∷ []) (f ∷ e ∷ g ∷ rest) w q2

  q4 : a.ps ≡ ((((before ++ x ∷ []) ++ y ∷ []) ++ w ∷ []) ++ f ∷ []) ++ e ∷ g ∷ rest
  q4 = parts_next a h (((before ++ x ∷ []) ++ y ∷ []) ++ w ∷ []) (e ∷ g ∷ rest) f q3

  q5 : a.ps ≡ (((((before ++ x ∷ []) ++ y ∷ []) ++ w ∷ []) ++ f ∷ []) ++ e ∷ []) ++ g ∷ rest
  q5 = parts_next a h ((((before ++ x ∷ []) ++ y ∷ []) ++ w ∷ []) ++ f ∷ []) (g ∷ rest) e q4

  -- what a cell holds at the first exchange: as at the look
  at_e : (k : ℕ) → holds a h e.line k ≡ holds a h x.line k
  at_e k =
      holds_on a h (((before ++ x ∷ []) ++ y ∷ []) ++ w ∷ []) (e ∷ g ∷ rest) f q3 e (g ∷ rest) k refl (no_swap_f k)
      ∙ (holds_on a h ((before ++ x ∷ []) ++ y ∷ []) (f ∷ e ∷ g ∷ rest) w q2 f (e ∷ g ∷ rest) k refl (no_swap_w k)
      ∙ (holds_on a h (before ++ x ∷ []) (w ∷ f ∷ e ∷ g ∷ rest) y q1 w (f ∷ e ∷ g ∷ rest) k refl (no_swap_y k)
      ∙ holds_on a h before (y ∷ w ∷ f ∷ e ∷ g ∷ rest) x parts y (w ∷ f ∷ e ∷ g ∷ rest) k refl (no_swap_x k)))

  apart_regs : (spare ≡ reg → ⊥)
  apart_regs same = omega (arith, low, same)

  six : Six
  six =
      let ps = records_of t r in
      let F = facts_in ps r in
      let l1 = lead ps r regs thread (ops.Read reg 0) x (y ∷ w ∷ f ∷ e ∷ g ∷ []) after look.line leads in
      let rd = read_held o.slot F (regs thread) reg 0 x.answer l1.next o.seen o.value look.owned look.answer l1.row in
      let S1 : AllRegs = with_thread regs thread l1.next in
      let s1 = same_left regs thread l1.next rd.same in
      let l2 = lead ps r S1 thread (ops.Alloc spare o.partition size) y (w ∷ f ∷ e ∷ g ∷ []) after ask l1.rest in
      let mk = makes F (S1 thread) spare size y.answer l2.next (s1 thread spare ∙ free.register thread) needs.1 room l2.row in
      let new : SlotName = mk.seen.slot in
      let S2 : AllRegs = with_thread S1 thread l2.next in
      let s2 = sets_left S1 thread spare (Own new) l2.next mk.becomes in
      let l3 = lead ps r S2 thread (ops.Write spare o.value) w (f ∷ e ∷ g ∷ []) after writes l2.rest in
      let wr = wrote new (S2 thread) spare w l3.next s2.here l3.row in
      let S3 : AllRegs = with_thread S2 thread l3.next in
      let s3 = same_left S2 thread l3.next wr.same in
      let l4 = lead ps r S3 thread (ops.Free reg) f (e ∷ g ∷ []) after frees_it l3.rest in
      let own4 : S3 thread reg ≡ Own o.slot =
      s3 thread reg ∙ (s2.other thread reg (λ both. apart_regs (sym both.1)) ∙ (s1 thread reg ∙ look.owned)) in
      let fr = frees o.slot (S3 thread) reg f l4.next own4 l4.row in
      let S4 : AllRegs = with_thread S3 thread l4.next in
      let s4 = sets_left S3 thread reg Freed l4.next fr.becomes in
      let l5 = lead ps r S4 thread (ops.Swap spare spare) e (g ∷ []) after gives l4.rest in
      let give_op = line_op e thread (ops.Swap spare spare) gives in
      let ex5 = exchanges a h ((((before ++ x ∷ []) ++ y ∷ []) ++ w ∷ []) ++ f ∷ []) (g ∷ rest) e q4 spare spare
      (S4 thread) l5.next give_op l5.row in
      let none : holds a h e.line spare ≡ held.Nothing =
      at_e spare ∙ free.cell x.line (stands_here a h before (y ∷ w ∷ f ∷ e ∷ g ∷ rest) x parts) in
      let own5 : S4 thread spare ≡ Own new = s4.other thread spare (λ both. apart_regs both.1) ∙ (s3 thread spare ∙ s2.here) in
      let S5 : AllRegs = with_thread S4 thread l5.next in
      let s5 = sets_left S4 thread spare Empty l5.next
      (subst (λ v. Becomes l5.next (with (S4 thread) spare (reg_of v))) none ex5.becomes) in
      let l6 = lead ps r S5 thread (ops.Swap spare reg) g [] after takes l5.rest in
      let take_op = line_op g thread (ops.Swap spare reg) takes in
      let b4 : List Played = (((before ++ x ∷ []) ++ y ∷ []) ++ w ∷ []) ++ f ∷ [] in
      let ex6 = exchanges a h (b4 ++ e ∷ []) rest g q5 spare reg (S5 thread) l6.next take_op l6.row in
      let freed6 : S5 thread reg ≡ Freed = s5.other thread reg (λ both. apart_regs (sym both.1)) ∙ s4.here in
      let at_g : holds a h g.line spare ≡ held.Own new =
      holds_one a h (b4 ++ e ∷ []) (g ∷ rest) g.line (e.line + 1) spare q5 (stands_here a h (b4 ++ e ∷ []) rest g q5)
      (stands_next a h b4 (g ∷ rest) e q4)
      ∙ (ex5.cell ∙ ap handle_of own5) in
      let s6 = sets_left S5 thread reg (Own new) l6.next
      (subst (λ v. Becomes l6.next (with (S5 thread) reg (reg_of v))) at_g ex6.becomes) in
      let end : after ≡ with_thread S5 thread l6.next = l6.rest in
      record {
        new = new;
        move = record {
          parts = parts;
          seen = o.seen;
          made = mk.seen;
          usable = mk.usable;
          wrote = wr.seen;
          freed = fr.seen;
          read = reg;
          reg = reg;
          look_op = line_op x thread (ops.Read reg 0) look.line;
          look = look.answer;
          look_slot = rd.slot;
          look_held = rd.held;
          look_alone = needs.0;
          make = mk.made;
          make_slot = refl;
          write_op = line_op w thread (ops.Write spare o.value) writes;
          write = wr.says;
          write_refs = wr.refs;
          write_slot = wr.slot;
          free_op = line_op f thread (ops.Free reg) frees_it;
          free = fr.done;
          free_slot = fr.slot;
          give = (l5.row.0, l5.row.2);
          take = (l6.row.0, l6.row.2);
        };
        owner = ap (λ (q : AllRegs). q thread reg) end ∙ s6.here;
        others = λ i k ne.
            let old : S4 i k ≡ S3 i k = s4.other i k ne in
            ap (λ (q : AllRegs). q i k) end ∙ (s6.other i k ne ∙ elim (cases_eq i thread) [
              | inl same ↦ elim (cases_eq k spare) [
                | inl there ↦
                    let P : ℕ → ℕ → Type 0 = λ u v. S5 u v ≡ regs u v in
                    subst (λ u. P u k) (sym same) (subst (λ v. P thread v) (sym there) (s5.here ∙ sym (free.register thread)))
                | inr other ↦
                    s5.other i k (λ both. other both.1) ∙ (old ∙ (s3 i k ∙ (s2.other i k (λ both. other both.1) ∙ s1 i k)))
              ]
              | inr other ↦
                  s5.other i k (λ both. other both.0) ∙ (old ∙ (s3 i k ∙ (s2.other i k (λ both. other both.0) ∙ s1 i k)))
            ]);
        cell = ex6.cell ∙ ap handle_of freed6;
      }

  -- what each cell holds
  six_cells : (n m k : ℕ) → StandsBetween n before (x ∷ y ∷ w ∷ f ∷ e ∷ g ∷ rest) →
      StandsBetween m (before ++ (x ∷ y ∷ w ∷ f ∷ e ∷ g ∷ [])) rest
      → cell_before r m k ≡ cell_before r n k
  six_cells n m k first last =
      let b4 : List Played = (((before ++ x ∷ []) ++ y ∷ []) ++ w ∷ []) ++ f ∷ [] in
      let b6 : List Played = (b4 ++ e ∷ []) ++ g ∷ [] in
      let joined : before ++ (x ∷ y ∷ w ∷ f ∷ e ∷ g ∷ []) ≡ b6 =
      sym (append_assoc before (x ∷ []) (y ∷ w ∷ f ∷ e ∷ g ∷ [])) ∙ (sym (append_assoc (before ++ x ∷ []) (y ∷ []) (w ∷ f ∷ e ∷ g ∷ []))
      ∙ (sym (append_assoc ((before ++ x ∷ []) ++ y ∷ []) (w ∷ []) (f ∷ e ∷ g ∷ [])) ∙
      (sym (append_assoc (((before ++ x ∷ []) ++ y ∷ []) ++ w ∷ []) (f ∷ []) (e ∷ g ∷ []))
      ∙ sym (append_assoc b4 (e ∷ []) (g ∷ []))))) in
      let start = holds_one a h before (x ∷ y ∷ w ∷ f ∷ e ∷ g ∷ rest) n x.line k parts first
      (stands_here a h before (y ∷ w ∷ f ∷ e ∷ g ∷ rest) x parts) in
      let there : StandsBetween m b6 rest = subst (λ zs. StandsBetween m zs rest) joined last in
      let end = holds_one a h b6 rest m (g.line + 1) k (parts_next a h (b4 ++ e ∷ []) rest g q5) there
      (stands_next a h (b4 ++ e ∷ []) rest g q5) in
      elim (cases_eq k spare) [
        | inl same ↦
            let P : ℕ → Type 0 = λ i. holds a h (g.line + 1) i ≡ holds a h x.line i in
            let spared : P spare = six.cell ∙ sym (free.cell x.line (stands_here a h before (y ∷ w ∷ f ∷ e ∷ g ∷ rest) x parts)) in
            end ∙ (subst P (sym same) spared ∙ sym start)
        | inr other ↦
            let no_e = beside e (ops.Swap spare spare) k gives (λ i is. other (cell_of is)) in
            let no_g = beside g (ops.Swap spare reg) k takes (λ i is. other (cell_of is)) in
            end ∙ (holds_same a h (b4 ++ e ∷ []) rest g q5 k no_g ∙
            (holds_on a h b4 (g ∷ rest) e q4 g rest k refl no_e ∙ (at_e k ∙ sym start)))
      ]
    where
      cell_of : {i j l : ℕ} → ops.Swap spare i ≡ ops.Swap l j → l ≡ spare
      cell_of is = cc

  pub kept_six : IsMoveKept (records_of t r) r thread reg before (x ∷ y ∷ w ∷ f ∷ e ∷ g ∷ []) rest regs after
  kept_six =
      let m = six.move in
      let new = six.new in
      let b6 : List Played = (((((before ++ x ∷ []) ++ y ∷ []) ++ w ∷ []) ++ f ∷ []) ++ e ∷ []) ++ g ∷ [] in
      let joined : before ++ (x ∷ y ∷ w ∷ f ∷ e ∷ g ∷ []) ≡ b6 =
      sym (append_assoc before (x ∷ []) (y ∷ w ∷ f ∷ e ∷ g ∷ [])) ∙ (sym (append_assoc (before ++ x ∷ []) (y ∷ []) (w ∷ f ∷ e ∷ g ∷ []))
      ∙ (sym (append_assoc ((before ++ x ∷ []) ++ y ∷ []) (w ∷ []) (f ∷ e ∷ g ∷ [])) ∙
      (sym (append_assoc (((before ++ x ∷ []) ++ y ∷ []) ++ w ∷ []) (f ∷ []) (e ∷ g ∷ []))
      ∙ sym (append_assoc ((((before ++ x ∷ []) ++ y ∷ []) ++ w ∷ []) ++ f ∷ []) (e ∷ []) (g ∷ []))))) in
      record {
        new = new;
        old = o.slot;
        value = o.value;
        owned = look.owned;
        owner = six.owner;
        others = six.others;
        cells = six_cells;
        content = subst (λ zs. IsContent (records_of t r) new (number_of (word_after zs new)) o.value) (sym joined)
            (new_content a h before rest x y w f e g o.slot new o.value m);
        looked = old_content a h before rest x y w f e g o.slot new o.value m;
        freed = (
          f,
          m.freed,
          (3, omega arith, refl),
          line_op f thread (ops.Free reg) frees_it,
          m.free,
          m.free_slot,
          freed_alone a h before rest x y w f e g o.slot new o.value m,
        );
      }

-- ---- the law

pub moves_keep : MovesKeep
moves_keep t r before xs rest regs after thread reg size limits run parts low
    (o, x, y, tail, look, needs, ask, room, moves, is) leads free =
    let k = four thread reg o.value tail moves in
    let all : xs ≡ x ∷ y ∷ k.w ∷ k.f ∷ k.e ∷ k.g ∷ [] = is ∙ ap (λ zs. x ∷ y ∷ zs) k.all in
    subst (λ zs. IsMoveKept (records_of t r) r thread reg before zs rest regs after) (sym all)
    (kept_six t r limits run before rest x y k.w k.f k.e k.g
    (subst (λ zs. records_of t r ≡ before ++ (zs ++ rest)) all parts) regs after thread reg size low
    o look needs ask room k.writes k.frees k.gives k.takes (subst (λ zs. LeadsOver (records_of t r) r regs zs after) all leads)
    (subst (λ zs. IsSpareFree r before (zs ++ rest) regs) all free))
