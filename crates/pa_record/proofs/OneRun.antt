-- A text is the text of one run.
use Rattle.std.proofs.Common.{◌≡◌, ℕ, ◌<◌, List, ◌++◌, codes, get_or, refl, sym, ap, ◌∙◌, arith}
use Rattle.std.specs.List.{flat_map}
use Rattle.std.proofs.lemmas.List.{append_cancel_left}
use Rattle.pa_record.specs.declared.run.Run.{Run}
use Rattle.pa_record.specs.Bits.{EntryInBits, RootInBits, PoolInBits, CellInBits, ReportInBits}
use Rattle.pa_record.specs.Text.{entry_text, root_text, roots_text, pool_text, pools_text, cell_text, cells_text, report_text, places_text, run_text}
use Rattle.pa_record.specs.RunText.{IsRunText, IsSameRun}
use Rattle.pa_record.proofs.Fields.{cut6}
use Rattle.pa_record.proofs.EntryLines.{split_entry}
use Rattle.pa_record.proofs.OtherLines.{split_root, root_place, split_pool, split_cell, cell_place, split_line}
use Rattle.pa_record.proofs.Lists.{Avoids, Begins, AreNested, avoid_flat, avoid_lines, avoid_nested, split_flat, split_placed, split_nested, same_nested}
use Rattle.pa_lists.proofs.Tests.{greater_apart}

-- ---- the letters before the lines

entry_begins : Begins 101 (λ _. entry_text)
entry_begins n e = (_, refl)

root_begins : (p : ℕ) → Begins 114 (root_text p)
root_begins p n e = (_, refl)

pool_begins : Begins 112 pool_text
pool_begins n e = (_, refl)

cell_begins : (k : ℕ) → Begins 99 (cell_text k)
cell_begins k n e = (_, refl)

report_begins : Begins 115 (λ _. report_text)
unfolding places_text
report_begins n s = (_, refl)

roots_known : AreNested RootInBits 114 root_text
roots_known = record { splits = split_root; place = root_place; begins = root_begins }

cells_known : AreNested CellInBits 99 cell_text
cells_known = record { splits = split_cell; place = cell_place; begins = cell_begins }

-- two numerals
apart : (c d : ℕ) → c < d → c ≡ d → ⊥
apart c d order e = absurd (omega arith)

-- ---- what follows the lines of each kind

behind_cells : Run → List ℕ
behind_cells r = flat_map report_text r.report.items ++ codes "end\n"

behind_pool : Run → List ℕ
behind_pool r = cells_text r.cells.items ++ behind_cells r

behind_roots : Run → List ℕ
behind_roots r = pools_text r.pool.items ++ behind_pool r

behind_entries : Run → List ℕ
behind_entries r = roots_text r.roots.items ++ behind_roots r

end_avoids : (c : ℕ) → Avoids c (codes "end\n")
end_avoids c rest e = greater_apart 110 32 (omega arith) (ap (λ (w : List ℕ). get_or w 1 0) e)

cells_avoid : (c : ℕ) (r : Run) → (c ≡ 115 → ⊥) → Avoids c (behind_cells r)
unfolding behind_cells
cells_avoid c r other = avoid_flat c 115 report_text r.report.items (codes "end\n") other report_begins (end_avoids c)

pool_avoids : (c : ℕ) (r : Run) → (c ≡ 99 → ⊥) → (c ≡ 115 → ⊥) → Avoids c (behind_pool r)
unfolding behind_pool
pool_avoids c r cells other =
    avoid_nested c 99 CellInBits cell_text 0 r.cells.items (behind_cells r) cells cells_known (cells_avoid c r other)

roots_avoid : (c : ℕ) (r : Run) → (c ≡ 112 → ⊥) → (c ≡ 99 → ⊥) → (c ≡ 115 → ⊥) → Avoids c (behind_roots r)
unfolding behind_roots
roots_avoid c r pool cells other = avoid_lines c 112 pool_text 0 r.pool.items (behind_pool r) pool pool_begins (pool_avoids c r cells other)

entries_avoid : (r : Run) → Avoids 101 (behind_entries r)
unfolding behind_entries
entries_avoid r =
    avoid_nested 101 114 RootInBits root_text 0 r.roots.items (behind_roots r) (apart 101 114 (omega arith)) roots_known
    (roots_avoid 101 r (apart 101 112 (omega arith)) (greater_apart 101 99 (omega arith)) (apart 101 115 (omega arith)))

-- each kind's letter, after the lines of that kind
roots_avoid_root : (r : Run) → Avoids 114 (behind_roots r)
roots_avoid_root r = roots_avoid 114 r (greater_apart 114 112 (omega arith)) (greater_apart 114 99 (omega arith))
    (apart 114 115 (omega arith))

pool_avoids_pool : (r : Run) → Avoids 112 (behind_pool r)
pool_avoids_pool r = pool_avoids 112 r (greater_apart 112 99 (omega arith)) (apart 112 115 (omega arith))

cells_avoid_cell : (r : Run) → Avoids 99 (behind_cells r)
cells_avoid_cell r = cells_avoid 99 r (apart 99 115 (omega arith))

run_cut : (r : Run) → run_text r ≡ codes "run 1\n" ++ (flat_map entry_text r.entries.items ++ behind_entries r)
unfolding behind_entries behind_roots behind_pool behind_cells
run_cut r = cut6 (codes "run 1\n") (flat_map entry_text r.entries.items) (roots_text r.roots.items) (pools_text r.pool.items)
    (cells_text r.cells.items) (flat_map report_text r.report.items) (codes "end\n")

-- ---- the run

pub one_run : (a b : Run) (text : List ℕ) → IsRunText a text → IsRunText b text → IsSameRun a b
unfolding behind_entries behind_roots behind_pool behind_cells
one_run a b text ha hb =
    let whole = append_cancel_left (codes "run 1\n") _ _ (sym (run_cut a) ∙ sym ha.text ∙ hb.text ∙ run_cut b) in
    let entries = split_flat EntryInBits 101 entry_text a.entries.items b.entries.items (behind_entries a) (behind_entries b)
    split_entry entry_begins (entries_avoid a) (entries_avoid b) ha.fits.entries hb.fits.entries whole in
    let roots = split_nested RootInBits 114 root_text 0 a.roots.items b.roots.items (behind_roots a) (behind_roots b) roots_known
    (roots_avoid_root a) (roots_avoid_root b) ha.fits.roots hb.fits.roots (omega arith) (omega arith) entries.1 in
    let pool = split_placed PoolInBits 112 pool_text a.pool.items b.pool.items (behind_pool a) (behind_pool b)
    split_pool pool_begins (pool_avoids_pool a) (pool_avoids_pool b) ha.fits.pool hb.fits.pool roots.1 in
    let cells = split_nested CellInBits 99 cell_text 0 a.cells.items b.cells.items (behind_cells a) (behind_cells b) cells_known
    (cells_avoid_cell a) (cells_avoid_cell b) ha.fits.cells hb.fits.cells (omega arith) (omega arith) pool.1 in
    let report = split_flat ReportInBits 115 report_text a.report.items b.report.items (codes "end\n") (codes "end\n")
    split_line report_begins (end_avoids 115) (end_avoids 115) ha.fits.report hb.fits.report cells.1 in
    record { entries = entries.0; roots = roots.0; pool = pool.0; cells = cells.0; report = report.0 }

joined : (a b b' c c' d d' f f' g g' h : List ℕ) → b ≡ b' → c ≡ c' → d ≡ d' → f ≡ f' → g ≡ g' → a ++ b ++ c ++ d ++ f ++ g ++ h ≡ a ++ b' ++
    c' ++ d' ++ f' ++ g' ++ h
joined a b b' c c' d d' f f' g g' h e1 e2 e3 e4 e5 = cc

-- runs with the same contents have one text
pub one_text : (a b : Run) (s t : List ℕ) → IsRunText a s → IsRunText b t → IsSameRun a b → s ≡ t
one_text a b s t ha hb same =
    ha.text
    ∙ joined (codes "run 1\n") (flat_map entry_text a.entries.items) (flat_map entry_text b.entries.items) (roots_text a.roots.items)
    (roots_text b.roots.items)
    (pools_text a.pool.items) (pools_text b.pool.items) (cells_text a.cells.items) (cells_text b.cells.items)
    (flat_map report_text a.report.items) (flat_map report_text b.report.items) (codes "end\n")
    (ap (flat_map entry_text) same.entries) (same_nested root_text 0 a.roots.items b.roots.items same.roots) (ap pools_text same.pool)
    (same_nested cell_text 0 a.cells.items b.cells.items same.cells) (ap (flat_map report_text) same.report)
    ∙ sym hb.text
