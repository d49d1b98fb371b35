-- A run that has lists, and its text.
use Rattle.std.proofs.Common.{◌≡◌, ℕ, ◌<◌, ◌≤◌, ◌^◌, List, [], ◌∷◌, ◌++◌, codes, length, refl, ap, ◌∙◌, Vec, Global, arith}
use Rattle.std.proofs.Math.Nat.{le_refl}
use Rattle.std.proofs.lemmas.List.{length-append}
use Rattle.std.specs.Ptr.{null_ptr}
use Rattle.std.specs.List.{AllByRecursion, flat_map}
use Rattle.pa_record.specs.declared.entry.Entry.{Entry}
use Rattle.pa_record.specs.declared.history.CellEntry.{CellEntry}
use Rattle.pa_record.specs.declared.pool.PoolEntry.{PoolEntry}
use Rattle.pa_record.specs.declared.report.ReportLine.{ReportLine}
use Rattle.pa_record.specs.declared.root.RootEntry.{RootEntry}
use Rattle.pa_record.specs.declared.run.Run.{Run}
use Rattle.pa_record.specs.Bits.{RootInBits, PoolInBits, CellInBits, ReportInBits}
use Rattle.pa_record.specs.RunText.{IsPrintable}
use Rattle.pa_record.specs.Text.{entry_text, roots_text, pools_text, cells_text, report_text}
use Rattle.pa_run_writer.specs.Lines.{IsRecordsText}
use Rattle.pa_run_writer.specs.Whole.{HasLists, IsTextOfLists}

-- the lines of records have no fewer bytes than there are records
no_shorter : (es : List Entry) → length es ≤ length (flat_map entry_text es)
no_shorter [] = omega arith
no_shorter (e ∷ es) = omega (arith, no_shorter es, length-append (entry_text e) (flat_map entry_text es))

few_records : (es : List Entry) (bytes : List ℕ) → IsRecordsText es bytes → length bytes < 2 ^ 63 → length es < 2 ^ 63
few_records es bytes h small =
    omega (arith, no_shorter es, ap (λ (w : List ℕ). length w) h.text, length-append (codes "run 1\n") (flat_map entry_text es), small)

-- what begins a text is no longer than the text
no_longer : (a roots pools cells report last whole : List ℕ) → whole ≡ a ++ roots ++ pools ++ cells ++ report ++ last →
    length a ≤ length whole
no_longer a roots pools cells report last whole is =
    omega (arith, ap (λ (w : List ℕ). length w) is, length-append {A = ℕ})

-- a list as a vector of a heap
abbrev vec_of : {X : Type 0} → Global → (xs : List X) → length xs < 2 ^ 63 → Vec X Global
vec_of heap xs few = record {
  ptr = null_ptr;
  len = length xs;
  cap = length xs;
  alloc = heap;
  items = xs;
  ok = (refl, le_refl (length xs));
  small = few;
}

-- what was reported so far, and the rest after it, is the text of a run that has all of it
pub told_whole : (heap : Global) (es : List Entry) (js : List (List RootEntry)) (pool : Vec PoolEntry Global)
    (cells : Vec (List CellEntry) Global) (report : Vec ReportLine Global) (begun whole : List ℕ)
    → ((r : Run) → HasLists es js pool.items cells.items report.items r → IsPrintable r)
    → IsRecordsText es begun → length whole < 2 ^ 63 → length js < 2 ^ 63
    → AllByRecursion (AllByRecursion RootInBits) js → AllByRecursion PoolInBits pool.items →
    AllByRecursion (AllByRecursion CellInBits) cells.items → AllByRecursion ReportInBits report.items
    → whole ≡ begun ++ roots_text js ++ pools_text pool.items ++ cells_text cells.items ++ flat_map report_text report.items ++
    codes "end\n"
    → IsTextOfLists es js pool.items cells.items report.items whole
told_whole heap es js pool cells report begun whole printable told small few roots pools exchanged reported is =
    let few_begun : length begun < 2 ^ 63 =
    omega (
      arith,
      no_longer begun (roots_text js) (pools_text pool.items) (cells_text cells.items) (flat_map report_text report.items)
          (codes "end\n") whole is,
      small,
    ) in
    let r : Run = record {
      entries = vec_of heap es (few_records es begun told few_begun);
      roots = vec_of heap js few;
      pool = pool;
      cells = cells;
      report = report;
    } in
    let has : HasLists es js pool.items cells.items report.items r =
    record { entries = refl; roots = refl; pool = refl; cells = refl; report = refl } in
    record {
      run = r;
      lists = has;
      text = record {
        fits = record { entries = told.fits; roots = roots; pool = pools; cells = exchanged; report = reported };
        form = printable r has;
        text = is ∙ ap (λ (w : List ℕ). w ++ roots_text js ++ pools_text pool.items ++ cells_text cells.items ++
            flat_map report_text report.items ++ codes "end\n") told.text;
      };
    }

-- texts after each other
pub grown : (a b c d f g roots pools cells report last : List ℕ) → b ≡ a ++ roots → c ≡ b ++ pools → d ≡ c ++ cells → f ≡ d ++ report
    → g ≡ f ++ last → g ≡ a ++ roots ++ pools ++ cells ++ report ++ last
grown a b c d f g roots pools cells report last e1 e2 e3 e4 e5 = cc
