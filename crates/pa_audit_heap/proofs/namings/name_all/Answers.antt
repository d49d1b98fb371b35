use Rattle.std.proofs.Common.{◌≡◌, ℕ, ◌+◌, ◌≤◌, List, length, get_or, set, refl, sym, ◌∙◌, ap, subst, arith, Some, None}
use Rattle.std.proofs.lemmas.Option.{slice_get_read}
use Rattle.std.specs.Prelude.{slice_get, Vec}
use Rattle.std.specs.declared.alloc.Global.{Global}
use Rattle.pa_audit_heap.specs.declared.namings.Naming.{Naming}
use Rattle.pa_audit_heap.specs.declared.namings.Naming.TheVariants.{Nobody, Once}
use Rattle.pa_record.specs.declared.root.RootEntry.{RootEntry}
use Rattle.pa_record.specs.Root.{asked_by}
use Rattle.pa_lists.proofs.Members.{not_some}
use Rattle.pa_rules.specs.Roots.{journal_at}
use Rattle.pa_audit_heap.specs.Namings.{AreNamings, named_by}
use Rattle.pa_audit_heap.proofs.Naming.{namings_other, namings_more, namings_next}
use Rattle.pa_audit_heap.proofs.namings.name_all.Goals.{in-Some, in_default}
use Rattle.pa_audit_heap.proofs.namings.name_all.Goals as goal

-- the entry of the pool is named so too
abbrev named_at : List Naming → ℕ → Naming → List Naming
named_at namings j next = set namings j (named_by (get_or namings j Nobody) next)

pub loop-entry-preserved : goal.loop-entry-preserved
loop-entry-preserved c =
    let l = c.loop-entry in
    let i = l.entry-index in
    let roots = journal_at c.args.roots.now in
    let q = c.args.partition in
    let size = length c.args.namings.now.items in
    let f = c.entry-item.result in
    let there : slice_get c.entries-entry-items.result.now i ≡ Some f = slice_get_read c.entries-entry-items.result.now
    (length c.entries-entry-items.result.now) i f refl c.loop-entry-test.true c.entry-item.is in
    let is : slice_get (roots q) i ≡ Some f =
    subst (λ (es : List RootEntry). slice_get es i ≡ Some f) (c.entries-entry-items.ensures.entries ∙ sym c.requires.journal) there in
    let asked : asked_by f.act ≡ c.asked_by.result = sym (c.asked_by.ensures ∙ ap asked_by c.act.ensures.act) in
    elim c.match-asked_by.branch [
      | in-Some w ↦
          let asks : asked_by f.act ≡ Some w.in-Some.pool = asked ∙ w.in-Some.is in
          let now = ap (λ (v : Vec Naming Global). v.items) w.namings-is ∙ w.name.ensures ∙
          ap (λ n. named_at l.namings.items w.in-Some.pool (Once q n)) w.line.ensures.line in
          subst (AreNamings roots q (i + 1) size) (sym now)
          (namings_more roots q i size w.in-Some.pool f l.namings.items is asks l.invariant)
      | in_default w ↦
          let none : asked_by f.act ≡ None = asked ∙ w.in_default.is in
          let now = ap (λ (v : Vec Naming Global). v.items) w.namings-is in
          subst (AreNamings roots q (i + 1) size) (sym now)
          (namings_other roots q i size f l.namings.items is (λ j less asks. not_some j (sym none ∙ asks)) l.invariant)
    ]

pub returns : goal.returns
returns c =
    let l = c.loop-entry in
    let roots = journal_at c.args.roots.now in
    let past : length (roots c.args.partition) ≤ l.entry-index = omega (
      arith,
      ap (λ (es : List RootEntry). length es) (c.requires.journal ∙ sym c.entries-entry-items.ensures.entries),
      c.loop-entry-test.false,
    ) in
    record { after = namings_next roots c.args.partition l.entry-index (length c.args.namings.now.items) l.namings.items past l.invariant }
