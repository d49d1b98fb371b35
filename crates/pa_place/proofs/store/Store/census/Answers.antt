use Rattle.std.proofs.Common.{◌≡◌, length, arith, rules}
use Rattle.pa_place.specs.Store.{root_of}
use Rattle.pa_record.proofs.Counted.{census_by}
use Rattle.pa_place.proofs.Looking.{bytes_low, pages_low}
use Rattle.pa_place.proofs.store.Store.census.Goals as goal

pub sums_of-sums-requires-clause-bytes : goal.sums_of-sums-requires-clause-bytes
sums_of-sums-requires-clause-bytes c =
    let same = rw c.deref.ensures.value at c.deref.ensures.len in
    let few = c.requires.spans in
    rw c.deref.ensures.value (bytes_low (root_of c.args.self.now) c.requires.ready (omega arith))

pub overflow_mul-result : goal.overflow_mul-result
overflow_mul-result c =
    let same = rw c.deref.ensures.value at c.deref.ensures.len in
    let few = c.requires.spans in
    let low = pages_low (root_of c.args.self.now) c.requires.ready (omega arith) in
    let pages = rw c.deref.ensures.value at c.sums_of-sums.ensures.pages in
    rw (c.from.ensures, pages) (omega arith)

pub overflow_add-result : goal.overflow_add-result
overflow_add-result c =
    let same = rw c.deref.ensures.value at c.deref.ensures.len in
    let few = c.requires.spans in
    let low = pages_low (root_of c.args.self.now) c.requires.ready (omega arith) in
    let pages = rw c.deref.ensures.value at c.sums_of-sums.ensures.pages in
    let bytes = c.mapped_of-mapped.ensures.low_bytes in
    rw (c.from.ensures, pages) (omega arith)

pub returns : goal.returns
returns c =
    let slots = rw c.deref.ensures.value at c.sums_of-sums.ensures.slots in
    let bytes = rw c.deref.ensures.value at c.sums_of-sums.ensures.bytes in
    let pages = rw c.deref.ensures.value at c.sums_of-sums.ensures.pages in
    let full = rw c.deref.ensures.value at c.sums_of-sums.ensures.full in
    let active = rw c.deref.ensures.value at c.sums_of-sums.ensures.active in
    let empty = rw c.deref.ensures.value at c.sums_of-sums.ensures.empty in
    let decommitted = rw c.deref.ensures.value at c.sums_of-sums.ensures.decommitted in
    let mapped = rw c.deref-2.ensures.value at c.mapped_of-mapped.ensures.bytes in
    let supers = rw c.deref-2.ensures.value at c.mapped_of-mapped.ensures.supers in
    let many : c.len.result ≡ length c.args.self.now.supers.items = search rules in
    census_by (root_of c.args.self.now) _ _ _ _ _ _ _ _ _ _ _ _ slots bytes pages mapped many supers full active empty decommitted
    c.from.ensures c.from-2.ensures
