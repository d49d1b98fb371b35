use Rattle.std.proofs.Common.{◌≡◌, ◌≤◌, List, length, Some, refl, sym, ◌∙◌, ap, subst, arith}
use Rattle.std.specs.Prelude.{slice_get}
use Rattle.pa_audit_records.specs.ByKeys.{value_at}
use Rattle.std.proofs.lemmas.Option.{slice_get_read}
use Rattle.pa_record.specs.declared.root.RootEntry.{RootEntry}
use Rattle.pa_rules.specs.Roots.{journal_at}
use Rattle.pa_audit_holders.proofs.Housing.{above_more, above_end}
use Rattle.pa_audit_holders.proofs.homes.enter_all.Goals as goal

pub loop-entry-preserved : goal.loop-entry-preserved
loop-entry-preserved c =
    let l = c.loop-entry in
    let roots = journal_at c.args.roots.now in
    let f = c.entry-item.result in
    let es = c.entries-entry-items.result.now in
    let there : slice_get es l.entry-index ≡ Some f =
    slice_get_read es (length es) l.entry-index f refl c.loop-entry-test.true c.entry-item.is in
    let is : slice_get (roots c.args.partition) l.entry-index ≡ Some f = subst
    (λ (xs : List RootEntry). slice_get xs l.entry-index ≡ Some f)
    (c.entries-entry-items.ensures.entries ∙ sym c.requires.journal) there in
    record {
      homes = c.enter_entry.ensures.homes;
      above = above_more roots c.args.partition l.entry-index f (value_at l.homes)
          (value_at c.enter_entry.new.homes) is l.invariant.above c.in_ok-enter_entry.ensures.enters;
    }

pub returns-clause-above : goal.returns-clause-above
returns-clause-above c =
    let l = c.loop-entry in
    let roots = journal_at c.args.roots.now in
    let past : length (roots c.args.partition) ≤ l.entry-index = omega (
      arith,
      ap (λ (es : List RootEntry). length es) (c.requires.journal ∙ sym c.entries-entry-items.ensures.entries),
      c.loop-entry-test.false,
    ) in
    above_end roots c.args.partition l.entry-index (value_at l.homes) past l.invariant.above
