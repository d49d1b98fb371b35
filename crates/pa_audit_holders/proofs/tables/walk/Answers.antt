use Rattle.std.proofs.Common.{◌≡◌, ◌+◌, ◌≤◌, List, length, take, Some, refl, sym, ap, subst, arith}
use Rattle.std.specs.Prelude.{slice_get}
use Rattle.std.proofs.lemmas.Option.{slice_get_read}
use Rattle.pa_record.specs.declared.root.RootEntry.{RootEntry}
use Rattle.pa_audit_holders.specs.Owners.{FirstSoFar}
use Rattle.pa_audit_holders.specs.Holding.{EntryMovesFitAt}
use Rattle.pa_audit_holders.proofs.Moving.{first_next, first_tells}
use Rattle.pa_audit_holders.proofs.Tabling.{fits_at, past_fits, table_next}
use Rattle.pa_audit_holders.proofs.tables.walk.Goals as goal

pub loop-entry-preserved : goal.loop-entry-preserved
loop-entry-preserved c =
    let l = c.loop-entry in
    let i = l.entry-index in
    let ps = c.args.records.now in
    let journal = c.args.journal.now in
    let e = c.entry-item.result in
    let es = c.entries-entry-items.result.now in
    let there : slice_get journal i ≡ Some e =
    subst (λ (xs : List RootEntry). slice_get xs i ≡ Some e) c.entries-entry-items.ensures.entries
    (slice_get_read es (length es) i e refl c.loop-entry-test.true c.entry-item.is) in
    let here : slice_get journal l.at ≡ Some e = subst (λ n. slice_get journal n ≡ Some e) (sym l.invariant.at) there in
    record {
      at = ap (λ n. n + 1) l.invariant.at;
      table = table_next ps journal l.at i e c.play.new.table l.invariant.at there
          (c.in_ok-fits.ensures.table (take l.at journal) l.invariant.table);
      first = subst (λ o. FirstSoFar (EntryMovesFitAt ps journal) (l.at + 1) o) (sym c.first_misfit-misfit.ensures)
          (first_next (EntryMovesFitAt ps journal) l.misfit l.at c.in_ok-fits.fits l.invariant.first
          (fits_at ps journal l.at e c.in_ok-fits.fits here (c.in_ok-fits.ensures.fits (take l.at journal) l.invariant.table)));
    }

pub returns-clause-misfit : goal.returns-clause-misfit
returns-clause-misfit c =
    let l = c.loop-entry in
    let ps = c.args.records.now in
    let journal = c.args.journal.now in
    let at = l.invariant.at in
    let end : length journal ≤ l.at =
    omega (arith, ap (λ (es : List RootEntry). length es) c.entries-entry-items.ensures.entries, c.loop-entry-test.false, at) in
    first_tells (EntryMovesFitAt ps journal) l.at l.misfit l.invariant.first (λ j past. past_fits ps journal l.at j end past)
