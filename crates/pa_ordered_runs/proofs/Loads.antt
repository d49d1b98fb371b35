-- What a record reads is what the steps before it left in its word.
use Rattle.std.proofs.Common.{◌≡◌, ℕ, ◌-◌, ◌*◌, ◌%◌, ◌<◌, Bool, true, false, if◌then◌else◌, List, [], ◌∷◌, ◌++◌, map, Some, None, refl, sym, ◌∙◌, ap, subst, arith, inl, inr, drop, get_or}
use Rattle.pa_slot.specs.declared.word.SlotName.{SlotName}
use Rattle.pa_slot.specs.Count.{number_of, held_of}
use Rattle.pa_slot.specs.Run.{Mark}
use Rattle.pa_slot.specs.Titles.{poison}
use Rattle.pa_buckets.specs.Table.{slot_of}
use Rattle.pa_buckets.proofs.Facts.{IsRow-of}
use Rattle.pa_direct.proofs.Serving.{Serves-of}
use Rattle.pa_trace.specs.declared.script.Op.{Op}
use Rattle.pa_trace.specs.declared.script.Op.TheVariants as ops
use Rattle.pa_trace.specs.declared.script.Rules.{Rules}
use Rattle.pa_direct.specs.Shapes.{shape_of}
use Rattle.pa_rules.proofs.Versions.{real_in, direct_in}
use Rattle.pa_record.specs.declared.entry.Seen.{Seen}
use Rattle.pa_record.specs.declared.entry.Answer.{Answer}
use Rattle.pa_record.specs.declared.entry.Answer.TheVariants as answers
use Rattle.pa_lists.proofs.Elements.{in_middle, in_front}
use Rattle.pa_rules.specs.declared.register.Register.TheVariants.{Empty, Own, Ref, Freed, Cleared}
use Rattle.pa_rules.specs.declared.played.Played.{Played}
use Rattle.pa_rules.specs.Played.{mark_of, mark_at}
use Rattle.pa_rules.specs.Registers.{Reg, Regs, Facts, Row, ReadRow, ReadFromRow, usable_in}
use Rattle.pa_rules.specs.Contents.{IsReadExact, IsContent}
use Rattle.pa_rules.specs.Sizes.{usable_of, slot_size_for}
use Rattle.pa_timeline.specs.Timeline.{Part, Looking, Loading, slot_words, entry_parts, answer_parts, GivesAt, content_after, changed_to, is_of_slot}
use Rattle.pa_timeline.proofs.Left.{content_parted}
use Rattle.pa_rules.proofs.Leading.{slot_in}
use Rattle.pa_rules.proofs.Sizes.{sizes_fit}
use Rattle.pa_one_run.specs.Parts.{Parts}
use Rattle.pa_one_run.specs.Before.{facts_of, word_after}
use Rattle.pa_one_run.proofs.Filed.{IsFiled, IsMadeIn}
use Rattle.pa_one_run.proofs.words.Found.{found_is}
use Rattle.pa_one_run.proofs.roots.Classes.{made_class}
use Rattle.pa_one_run.proofs.rows.Handles.{row_at, holds_made}
use Rattle.pa_core_run.proofs.Contents.{content_one}
use Rattle.pa_core_run.proofs.Lengths.{alloc_usable}
use Rattle.pa_core_run.proofs.Values.{usable_made}
use Rattle.pa_ordered_runs.proofs.Steps.{moment, steps_in, line_by_line}
use Rattle.pa_ordered_runs.proofs.Contents.{content_at, IsInside, known_before}

-- ---- what a read's row says

-- the register names the slot, the word is inside it, and the bit is this
pub record IsReadOf (facts : Facts) (r : Reg) (place : ℕ) (seen : Seen) (bit : ℕ) : Type 0 where
  pub names : slot_in r ≡ Some seen.slot
  pub inside : 8 * place < facts.usable_at seen.slot
  pub held : held_of seen.found.0 ≡ bit

module _ (facts : Facts) (regs next : Regs) (place : ℕ) (seen : Seen) (v : ℕ) where
  read_of : (r : Reg) (s : SlotName) (other : Seen) (bit : ℕ) → slot_in r ≡ Some s → other.slot ≡ s → 8 * place < facts.usable_at s →
      held_of other.found.0 ≡ bit → seen ≡ other → IsReadOf facts r place seen bit
  read_of r s other bit names slot inside held same =
      let there : IsReadOf facts r place other bit = record {
        names = names ∙ ap Some (sym slot);
        inside = subst (λ t. 8 * place < facts.usable_at t) (sym slot) inside;
        held = held;
      } in
      subst (λ o. IsReadOf facts r place o bit) (sym same) there

  value_from : (r : Reg) (s : SlotName) → slot_in r ≡ Some s → ReadFromRow s facts regs place (answers.Value seen v) next →
      IsReadOf facts r place seen 1
  value_from r s names (becomes, inl (past, is)) = absurd cc
  value_from r s names (becomes, inr (inside, other, value, slot, inl (held, is))) =
      read_of r s other 1 names slot inside held (let same : seen ≡ other = cc in same)
  value_from r s names (becomes, inr (inside, other, value, slot, inr (freed, is))) = absurd cc

  dangling_from : (r : Reg) (s : SlotName) → slot_in r ≡ Some s → ReadFromRow s facts regs place (answers.Dangling seen v) next →
      IsReadOf facts r place seen 0
  dangling_from r s names (becomes, inl (past, is)) = absurd cc
  dangling_from r s names (becomes, inr (inside, other, value, slot, inl (held, is))) = absurd cc
  dangling_from r s names (becomes, inr (inside, other, value, slot, inr (freed, is))) =
      read_of r s other 0 names slot inside freed (let same : seen ≡ other = cc in same)

  pub value_row : (r : Reg) → ReadRow r facts regs place (answers.Value seen v) next → IsReadOf facts r place seen 1
  value_row Empty row = absurd (let e = row.0 in cc)
  value_row (Own s) row = value_from (Own s) s refl row
  value_row (Ref s) row = value_from (Ref s) s refl row
  value_row Freed row = absurd (let e = row.0 in cc)
  value_row Cleared row = absurd (let e = row.0 in cc)

  pub dangling_row : (r : Reg) → ReadRow r facts regs place (answers.Dangling seen v) next → IsReadOf facts r place seen 0
  dangling_row Empty row = absurd (let e = row.0 in cc)
  dangling_row (Own s) row = dangling_from (Own s) s refl row
  dangling_row (Ref s) row = dangling_from (Ref s) s refl row
  dangling_row Freed row = absurd (let e = row.0 in cc)
  dangling_row Cleared row = absurd (let e = row.0 in cc)

-- ---- a slot is of whole words

-- the usable bytes of a slot that was made
whole_words : (a : Parts) (s : SlotName) → IsFiled a → IsMadeIn a.ps s → usable_in a.ps s % 8 ≡ 0
whole_words a s h made =
    let (q, seen, among, answer, slot) = usable_made a.ps s made in
    elim (made_class a q seen (usable_in a.ps s) h among answer) [
      | inl (p, c, (reg, size, op, class), of) ↦
          let usable = alloc_usable a h q seen (usable_in a.ps s) reg p size among answer op in
          let fits = subst (λ (k : Rules). slot_size_for k.version size ≡ slot_of c) (h.ruled q among)
          (sizes_fit.class q.rules.version size c class) in
          let row = IsRow-of c (real_in q.rules.version c (class.from, class.real)) in
          let sixteens = row.sixteens in
          let least = row.least_slot in
          let is : usable_of a.rules.version size ≡ slot_size_for a.rules.version size - 8 = refl in
          omega arith
      | inr (p, size, (reg, op, direct), of) ↦
          let usable = alloc_usable a h q seen (usable_in a.ps s) reg p size among answer op in
          let fits = subst (λ (k : Rules). slot_size_for k.version size ≡ (shape_of size).slot) (h.ruled q among)
          (sizes_fit.direct q.rules.version size direct) in
          let serves = Serves-of size (direct_in q.rules.version size direct) in
          let pages = serves.system_pages in
          let large = (direct_in q.rules.version size direct).0 in
          let room = serves.usable in
          let is : usable_of a.rules.version size ≡ slot_size_for a.rules.version size - 8 = refl in
          omega arith
    ]

-- ---- the value that was read

-- before the load of a read its record only looked
looked_first : (us vs : List Part) → Looking ∷ Loading ∷ [] ≡ us ++ Loading ∷ vs → us ≡ Looking ∷ []
looked_first [] vs e = absurd (let head : Looking ≡ Loading = ap (λ z. get_or z 0 Looking) e in cc)
looked_first (u ∷ []) vs e = let head : Looking ≡ u = ap (λ z. get_or z 0 Looking) e in ap (λ z. z ∷ []) (sym head)
looked_first (u ∷ w ∷ us) vs e = absurd (let rest : [] ≡ us ++ Loading ∷ vs = ap (drop 2) e in none us rest)
  where
    none : (us : List Part) → [] ≡ us ++ Loading ∷ vs → ⊥
    none [] e = cc
    none (u ∷ us) e = cc

look_leaves : (s : SlotName) (place content : ℕ) (x : Played) → content_after s place content (map (moment x) (Looking ∷ [])) ≡ content
look_leaves s place content x = by_slot (is_of_slot s (mark_of x))
  where
    by_slot : (b : Bool) → changed_to (if b then None else None) content ≡ content
    by_slot true = refl
    by_slot false = refl

module _ (a : Parts) (h : IsFiled a) (front back : List Played) (x : Played) (parts : a.ps ≡ front ++ x ∷ back) (reg place : ℕ)
    (op : x.op ≡ ops.Read reg place) (seen : Seen) (v : ℕ) where
  abbrev Read : Answer → Type 0
  Read answer = (r : Reg) × (next : Regs) × (regs : Regs) × (slot_in r ≡ Some seen.slot → IsMadeIn front seen.slot) ×
      ReadRow r (facts_of a) regs place answer next

  read_row : Read x.answer
  read_row =
      let at = row_at a front back x h parts in
      let holds = holds_made a front (x ∷ back) at.all h parts at.registers in (
        at.all x.thread reg,
        at.next,
        at.all x.thread,
        λ names. holds.registers x.thread reg seen.slot names,
        subst (λ o. Row (facts_of a) o (at.all x.thread) x.answer at.next) op at.row,
      )

  inside_of : IsMadeIn front seen.slot → 8 * place < usable_in a.ps seen.slot → IsInside a place seen.slot
  inside_of (q, other, usable, there, answer, slot) less =
      let whole = whole_words a seen.slot h (q, other, usable, in_front front (x ∷ back) a.ps q parts there, answer, slot) in
      omega arith

  exact : IsReadExact a.ps x.answer
  exact = h.order.contents x (in_middle front back a.ps x parts)

  word_is : (m : Mark) → mark_of x ≡ Some m → m.found ≡ word_after front m.slot
  word_is m is = found_is a front back x m h parts is

  value_read : x.answer ≡ answers.Value seen v → v ≡ content_at a seen.slot place front
  value_read is =
      let (r, next, regs, made, row) = subst Read is read_row in
      let of = value_row (facts_of a) regs next place seen v r row in
      let known = known_before a place seen.slot front (x ∷ back) h (inside_of (made of.names) of.inside) parts in
      let word : seen.found.0 ≡ word_after front seen.slot = word_is (mark_at x.line seen None) (rw is refl) in
      let had = known.held (ap held_of (sym word) ∙ of.held) in
      let read = subst (λ answer. IsReadExact a.ps answer) is exact in
      content_one a h seen.slot (number_of (word_after front seen.slot)) v (content_at a seen.slot place front)
      (subst (λ w. IsContent a.ps seen.slot (number_of w) v) word read) had

  dangling_read : x.answer ≡ answers.Dangling seen v → v ≡ content_at a seen.slot place front
  dangling_read is =
      let (r, next, regs, made, row) = subst Read is read_row in
      let of = dangling_row (facts_of a) regs next place seen v r row in
      let known = known_before a place seen.slot front (x ∷ back) h (inside_of (made of.names) of.inside) parts in
      let word : seen.found.0 ≡ word_after front seen.slot = word_is (mark_at x.line seen None) (rw is refl) in
      let read : v ≡ poison = subst (λ answer. IsReadExact a.ps answer) is exact in
      read ∙ sym (known.freed (made of.names) (ap held_of (sym word) ∙ of.held))

-- a load finds what the steps before it left
pub load_found : (a : Parts) (front back : List Played) (x : Played) (us vs : List Part) (seen : Seen) (place value : ℕ) → IsFiled a →
    a.ps ≡ front ++ x ∷ back → steps_in a x ≡ us ++ Loading ∷ vs → GivesAt x.op x.answer seen place value →
    value ≡ content_after seen.slot place 0 (line_by_line a front ++ map (moment x) us)
load_found a front back x us vs seen place value h parts cut gives = by_op x.op refl gives
  where
    only_looked : (answer : Answer) → x.answer ≡ answer →
        answer_parts (slot_words (usable_in a.ps) (mark_of x)) x.op
        (entry_parts a.partitions a.roots x.line) answer ≡ Looking ∷ Loading ∷ [] →
        us ≡ Looking ∷ []
    only_looked answer is parts_are =
        looked_first us vs (sym (ap
        (λ v. answer_parts (slot_words (usable_in a.ps) (mark_of x)) x.op (entry_parts a.partitions a.roots x.line) v) is ∙ parts_are) ∙
        cut)

    after_look : us ≡ Looking ∷ [] →
        content_at a seen.slot place front ≡ content_after seen.slot place 0 (line_by_line a front ++ map (moment x) us)
    after_look looked =
        sym (content_parted seen.slot place 0 (line_by_line a front) (map (moment x) us)
        ∙ ap (λ ps. content_after seen.slot place (content_at a seen.slot place front) (map (moment x) ps)) looked
        ∙ look_leaves seen.slot place (content_at a seen.slot place front) x)

    by_op : (op : Op) → x.op ≡ op → GivesAt op x.answer seen place value →
        value ≡ content_after seen.slot place 0 (line_by_line a front ++ map (moment x) us)
    by_op (ops.Read reg word) op (same, inl is) =
        value_read a h front back x parts reg place (op ∙ ap {B = Op} (λ n. ops.Read reg n) same) seen value is ∙
        after_look (only_looked (answers.Value seen value) is refl)
    by_op (ops.Read reg word) op (same, inr is) =
        dangling_read a h front back x parts reg place (op ∙ ap {B = Op} (λ n. ops.Read reg n) same) seen value is ∙
        after_look (only_looked (answers.Dangling seen value) is refl)
    by_op op same gives = absurd gives
