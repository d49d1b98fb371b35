-- A slot that was made is of whole words.
use Rattle.std.proofs.Common.{◌≡◌, ℕ, ◌+◌, ◌%◌, ◌≤◌, sym, subst, arith}
use Rattle.pa_slot.specs.Titles.{IsWellFormed}
use Rattle.pa_buckets.specs.Table.{slot_of}
use Rattle.pa_buckets.proofs.Facts.{IsRow-of}
use Rattle.pa_record.specs.Spans.{Span, title_at}
use Rattle.pa_root.specs.Laws.{MadeIsWhole}
use Rattle.pa_lists.proofs.Tests.{times_whole}

at_whole : (s : Span) (n : ℕ) → s.place % 8 ≡ 0 → slot_of s.class % 8 ≡ 0 → 16 ≤ slot_of s.class →
    IsWellFormed ((title_at s n).start + (title_at s n).len) (title_at s n)
at_whole s n place slot long =
    let start = times_whole (slot_of s.class) n slot in
    record { start_aligned = omega arith; len_aligned = slot; long = long; inside = omega arith }

pub made_is_whole : MadeIsWhole
made_is_whole r t sound (s, among, n, below, e) =
    let (at, page, p) = sound.placed s among in
    let row = IsRow-of s.class (sound.spans s among).counted.class in
    let place = p.place in
    let sixteen = row.sixteens in
    subst (λ x. IsWellFormed (x.start + x.len) x) (sym e) (at_whole s n (omega arith) (omega arith) row.least_slot)
