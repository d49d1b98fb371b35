-- A run of short lists has lines of 32 bits.
use Rattle.std.proofs.Common.{◌≡◌, ◌*◌, ◌<◌, ◌≤◌, List, length, arith}
use Rattle.std.specs.Prelude.{All, sum_by}
use Rattle.std.proofs.lemmas.List.Sums.{sum_by-le}
use Rattle.pa_record.specs.declared.run.Run.{Run}
use Rattle.pa_audit.specs.Lined.{HasLines32}

few_each : {A : Type 0} (xs : List (List A)) → All (λ es. length es < 1000) xs → sum_by length xs ≤ length xs * 1000
few_each xs all = sum_by-le length 1000 xs (λ k d below. let less = all k d below in omega (arith, less))

pub short_lines : (r : Run) → length r.roots.items ≡ 4 → length r.cells.items ≡ 64 → length r.entries.items < 1000 →
    All (λ es. length es < 1000) r.roots.items → length r.pool.items < 1000
    → All (λ es. length es < 1000) r.cells.items → length r.report.items < 1000 → HasLines32 r
short_lines r four many entries roots pool cells report =
    let journals = few_each r.roots.items roots in
    let histories = few_each r.cells.items cells in
    omega (arith, four, many, entries, pool, report, journals, histories)
