use Rattle.std.proofs.Common.{◌≡◌, ◌+◌, List, length, refl, sym, ap, subst, arith, Some}
use Rattle.std.specs.Prelude.{slice_get}
use Rattle.std.proofs.lemmas.Option.{slice_get_read}
use Rattle.pa_record.specs.declared.root.RootEntry.{RootEntry}
use Rattle.pa_audit_holders.proofs.Indexing.{AreOnLinesTo, lines_start, lines_next, lines_whole}
use Rattle.pa_audit_holders.proofs.lines.ByLine.of_entries.Goals as goal

pub loop-entry-init : goal.loop-entry-init
loop-entry-init c = record {
  at = refl;
  table =
      lines_start c.args.journal.now c.args.count c.in_ok-by_line.by_line c.in_ok-by_line.ensures.count c.in_ok-by_line.ensures.empty;
}

pub loop-entry-preserved : goal.loop-entry-preserved
loop-entry-preserved c =
    let l = c.loop-entry in
    let f = c.entry-item.result in
    let es = c.entries-entry-items.result.now in
    let there : slice_get es l.entry-index ≡ Some f =
    slice_get_read es (length es) l.entry-index f refl c.loop-entry-test.true c.entry-item.is in
    let is : slice_get c.args.journal.now l.entry-index ≡ Some f =
    subst (λ (xs : List RootEntry). slice_get xs l.entry-index ≡ Some f) c.entries-entry-items.ensures.entries there in
    record {
      at = ap (λ n. n + 1) l.invariant.at;
      table =
          subst (λ t. AreOnLinesTo c.args.journal.now c.args.count t (l.entry-index + 1)) (sym c.in_ok-enter.ensures.entered)
          (lines_next c.args.journal.now c.args.count l.by_line l.entry-index l.place c.line.result f l.invariant.table l.invariant.at is
          (sym c.line.ensures.line));
    }

pub returns : goal.returns
returns c =
    let l = c.loop-entry in
    let past = c.loop-entry-test.false in
    let end = l.auto.entry-index-end in
    let same = ap (λ (es : List RootEntry). length es) c.entries-entry-items.ensures.entries in
    lines_whole c.args.journal.now c.args.count l.by_line l.entry-index l.invariant.table (omega (arith, past, end, same))
