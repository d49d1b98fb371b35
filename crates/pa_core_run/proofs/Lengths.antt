-- How long a slot's title is: as the usable number says that its records tell.
use Rattle.std.proofs.Common.{◌≡◌, ℕ, ◌+◌, ◌-◌, ◌<◌, [], refl, sym, ◌∙◌, ap, subst, arith, inl, inr}
use Rattle.std.specs.Prelude.{Contains}
use Rattle.pa_slot.specs.declared.word.SlotName.{SlotName}
use Rattle.pa_slot.specs.declared.title.Title.{Title}
use Rattle.pa_buckets.specs.Table.{slot_of}
use Rattle.pa_buckets.proofs.Facts.{IsRow-of}
use Rattle.pa_direct.specs.Shapes.{shape_of}
use Rattle.pa_trace.specs.declared.script.Op.TheVariants as ops
use Rattle.pa_trace.specs.declared.script.Rules.{Rules}
use Rattle.pa_rules.proofs.Versions.{direct_in}
use Rattle.pa_record.specs.declared.entry.Seen.{Seen}
use Rattle.pa_record.specs.declared.entry.Answer.TheVariants as answers
use Rattle.pa_record.specs.declared.root.RootAct.TheVariants.{Map}
use Rattle.pa_record.specs.Spans.{name_of}
use Rattle.pa_record.specs.Laws.{leaves_by}
use Rattle.pa_lists.proofs.Members.{first_in}
use Rattle.pa_rules.specs.declared.register.Register.TheVariants.{Empty, Own, Ref, Freed, Cleared}
use Rattle.pa_rules.specs.declared.played.Played.{Played}
use Rattle.pa_rules.specs.Registers.{Reg, Facts, Regs, Row, AllocRow, RequestRow}
use Rattle.pa_rules.specs.Roots.{MakesEntry, AsksForMap}
use Rattle.pa_rules.specs.Caches.{CacheRow, MadeRow, IsOfClass}
use Rattle.pa_rules.specs.Sizes.{usable_of, slot_size_for}
use Rattle.pa_rules.proofs.Sizes.{sizes_fit}
use Rattle.pa_rules.proofs.Owned.{title_of, HasLen}
use Rattle.pa_rules.proofs.Asking.{class_or_map, map_once}
use Rattle.pa_legal.proofs.flow.Rows.{line_entry}
use Rattle.pa_one_run.specs.Parts.{Parts}
use Rattle.pa_one_run.specs.Before.{facts_of}
use Rattle.pa_one_run.proofs.Filed.{IsFiled}
use Rattle.pa_one_run.proofs.lines.Cuts.{entry_made, record_row, same_played}
use Rattle.pa_lists.proofs.Elements.{parts_at}
use Rattle.pa_one_run.proofs.roots.Classes.{made_class}
use Rattle.pa_one_run.proofs.rows.Handles.{row_at}
use Rattle.pa_core_run.specs.Fronts.{MadeIn}
use Rattle.pa_core_run.proofs.Named.{made_unique}

-- an allocation that made a slot reports the usable bytes of its size
request_usable : (facts : Facts) (regs after : Regs) (reg size usable : ℕ) (seen : Seen) →
    RequestRow facts regs reg size (answers.Made seen usable) after →
    usable ≡ facts.usable_of size
request_usable facts regs after reg size usable seen (inl (large, is, becomes)) = absurd cc
request_usable facts regs after reg size usable seen (inr (inl (fits, other, is, becomes))) = cc
request_usable facts regs after reg size usable seen (inr (inr (fits, entry, is, becomes))) = absurd cc

row_usable : (r : Reg) (facts : Facts) (regs after : Regs) (reg size usable : ℕ) (seen : Seen) →
    AllocRow r facts regs reg size (answers.Made seen usable) after →
    usable ≡ facts.usable_of size
row_usable Empty facts regs after reg size usable seen row = request_usable facts regs after reg size usable seen row
row_usable (Own s) facts regs after reg size usable seen row = absurd (let e = row.0 in cc)
row_usable (Ref s) facts regs after reg size usable seen row = absurd (let e = row.0 in cc)
row_usable Freed facts regs after reg size usable seen row = request_usable facts regs after reg size usable seen row
row_usable Cleared facts regs after reg size usable seen row = request_usable facts regs after reg size usable seen row

module _ (a : Parts) (h : IsFiled a) where
  pub alloc_usable : (q : Played) (seen : Seen) (usable reg p size : ℕ) → Contains a.ps q → q.answer ≡ answers.Made seen usable →
      q.op ≡ ops.Alloc reg p size → usable ≡ usable_of a.rules.version size
  alloc_usable q seen usable reg p size among answer op =
      let (before, rest, parts) = parts_at a.ps q among in
      let at = row_at a before rest q h parts in
      let row = subst (λ z. Row (facts_of a) (ops.Alloc reg p size) (at.all q.thread) z at.next) answer
      (subst (λ o. Row (facts_of a) o (at.all q.thread) q.answer at.next) op at.row) in
      row_usable (at.all q.thread reg) (facts_of a) (at.all q.thread) at.next reg size usable seen row

  -- the title of a slot of a class, and of a direct map
  class_long : (y : SlotName) (p c : ℕ) (t : Title) → IsOfClass a.roots y p c → MadeIn a t → name_of t ≡ y → (c < 170) × (t.len ≡ slot_of c)
  class_long y p c t (e, asked, slots, among, is, member) made name =
      let (u, was, named, sized) =
      title_of a.pools (a.roots p) e y (h.journals.journals p) among (subst (λ act. Contains (leaves_by act) y) (sym is) member) in
      let (real, len) = subst (λ act. HasLen act u) is sized in
      let same = made_unique a h t u made (p, was) (name ∙ sym named) in
      (real, ap (λ (z : Title). z.len) same ∙ len)

  pub made_long_as : (q : Played) (seen : Seen) (usable : ℕ) (t : Title) → Contains a.ps q → q.answer ≡ answers.Made seen usable →
      MadeIn a t → name_of t ≡ seen.slot → usable + 8 ≡ t.len
  made_long_as q seen usable t among answer made name = elim (made_class a q seen usable h among answer) [
    | inl (p, c, (reg, size, op, class), of) ↦
        let (real, len) = class_long seen.slot p c t of made name in
        let fits = subst (λ (k : Rules). slot_size_for k.version size ≡ slot_of c) (h.ruled q among)
        (sizes_fit.class q.rules.version size c class) in
        let told = alloc_usable q seen usable reg p size among answer op in
        let row = IsRow-of c real in
        let least = row.least_slot in
        let u : usable_of a.rules.version size ≡ slot_size_for a.rules.version size - 8 = refl in
        omega arith
    | inr (p, size, asks, direct) ↦
        let (before, rest, parts) = parts_at a.ps q among in
        let (all, next, to, row) = record_row a before rest q h parts in
        mapped p size asks (subst (λ z. CacheRow a.partitions a.roots q z (all q.thread) next) answer row)
  ]
    where
      mapped : (p size : ℕ) → AsksForMap q p size → {cache after : _} → MadeRow a.roots q seen cache after → usable + 8 ≡ t.len
      mapped p size asks (inl (r, class, xs, rest, others, filled, front, becomes)) = absurd (class_or_map q r p class size others asks)
      mapped p size (reg, op, direct) (inr (r, other, asked, len, others, only, becomes)) =
          let (e, there, line, act) = line_entry a.roots q.line r (Map asked seen.slot len) only.0 in
          let (y, of, makes) = entry_made a r e h there in
          let (size2, asks2, long) = subst (λ z. MakesEntry a.pools r z y) act makes in
          let same : y ≡ q = same_played a y q h of.0 among (of.1 ∙ line) in
          let one = map_once q r p size2 size (subst (λ (z : Played). AsksForMap z r size2) same asks2) (reg, op, direct) in
          let (u, was, named, sized) =
          title_of a.pools (a.roots r) e seen.slot (h.journals.journals r) there
          (subst (λ z. Contains (leaves_by z) seen.slot) (sym act) (first_in seen.slot [])) in
          let len_is = subst (λ z. HasLen z u) act sized in
          let t_is = made_unique a h t u made (r, was) (name ∙ sym named) in
          let fits = subst (λ (k : Rules). slot_size_for k.version size ≡ (shape_of size).slot) (h.ruled q among)
          (sizes_fit.direct q.rules.version size direct) in
          let told = alloc_usable q seen usable reg p size among answer op in
          let v : usable_of a.rules.version size ≡ slot_size_for a.rules.version size - 8 = refl in
          let shape = ap (λ n. (shape_of n).slot) one.1 in
          let tl = ap (λ (z : Title). z.len) t_is in
          let large = (direct_in q.rules.version size direct).0 in
          omega arith
