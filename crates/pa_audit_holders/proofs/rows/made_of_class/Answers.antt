use Rattle.std.proofs.Common.{drop}
use Rattle.std.proofs.lemmas.Bool.{both_ways}
use Rattle.pa_rules.specs.Roots.{journal_at}
use Rattle.pa_rules.specs.Caches.{FilledFirst}
use Rattle.pa_audit_holders.specs.Lists.{cache_in}
use Rattle.pa_audit_holders.proofs.Listing.{with_again}
use Rattle.pa_audit_holders.proofs.Leading.{class_none, class_other, class_row, filled_is, filled_not, front_drop, front_told}
use Rattle.pa_audit_holders.proofs.rows.made_of_class.Goals as goal

pub returns-then-not-filled-clause-row : goal.returns-then-not-filled-clause-row
returns-then-not-filled-clause-row c =
    let roots = journal_at c.args.page.now.roots in
    let p = c.args.bin.now.partition in
    let class = c.args.bin.now.class in
    let list = c.replace-slots.result in
    class_none roots c.args.page.now.told.line p class c.args.seen (cache_in c.args.cache.now) list c.replace-slots.ensures.slots
    (filled_not (FilledFirst roots c.args.page.now.told.line p class list) c.fill_first.new.slots c.in_ok-filled.filled
    c.in_ok-filled.ensures.filled c.if-not-filled.true)

pub returns-then-not-is_front-clause-row : goal.returns-then-not-is_front-clause-row
returns-then-not-is_front-clause-row c =
    let roots = journal_at c.args.page.now.roots in
    let p = c.args.bin.now.partition in
    let class = c.args.bin.now.class in
    let list = c.replace-slots.result in
    let xs = c.fill_first.new.slots in
    let test = front_told c.args.seen c.items.result.now xs c.is_front.result c.items.ensures c.is_front.ensures in
    class_other roots c.args.page.now.told.line p class c.args.seen (cache_in c.args.cache.now) list xs c.replace-slots.ensures.slots
    (filled_is (FilledFirst roots c.args.page.now.told.line p class list) xs c.in_ok-filled.filled c.in_ok-filled.ensures.filled
    c.if-not-filled.false)
    (λ rest front. both_ways _ c.if-not-is_front.true (test.1 (front_drop c.args.seen xs rest front)))

pub returns-clause-row : goal.returns-clause-row
returns-clause-row c =
    let roots = journal_at c.args.page.now.roots in
    let p = c.args.bin.now.partition in
    let class = c.args.bin.now.class in
    let list = c.replace-slots.result in
    let xs = c.fill_first.new.slots in
    let test = front_told c.args.seen c.items.result.now xs c.is_front.result c.items.ensures c.is_front.ensures in
    class_row roots c.args.page.now.told.line p class c.args.seen (cache_in c.args.cache.now) (cache_in c.replace.new.self) list xs
    (drop 1 xs) c.drop_front.new.self c.replace-slots.ensures.slots
    (filled_is (FilledFirst roots c.args.page.now.told.line p class list) xs c.in_ok-filled.filled c.in_ok-filled.ensures.filled
    c.if-not-filled.false) (test.0 c.if-not-is_front.false) c.drop_front.ensures
    (with_again (cache_in c.args.cache.now) (cache_in c.replace-slots.new.self) (cache_in c.replace.new.self) p class
    c.new-none.result c.drop_front.new.self c.replace-slots.ensures.after c.replace.ensures.after)
