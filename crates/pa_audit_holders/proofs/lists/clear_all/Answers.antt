use Rattle.std.proofs.Common.{◌≡◌, ℕ, ◌+◌, ◌*◌, ◌<◌, ◌≤◌, [], get_or, sym, ◌∙◌, ap, subst, arith}
use Rattle.std.proofs.lemmas.Nat.{row_fits}
use Rattle.pa_rules.specs.Caches.{listed_slots}
use Rattle.pa_rules.specs.Sizes.{class_total}
use Rattle.pa_audit_holders.specs.Lists.{VersionLists}
use Rattle.pa_audit_holders.proofs.Clearing.{clear_end, clear_more, clear_slots, clear_start, from_place}
use Rattle.pa_audit_holders.proofs.lists.clear_all.Goals as goal

pub loop-partition-init : goal.loop-partition-init
loop-partition-init c = clear_start (class_total c.args.version) c.args.lists.now.items

-- the lists of the next partition are in the table
pub clear_from-requires-clause-within : goal.clear_from-requires-clause-within
clear_from-requires-clause-within c =
    let n = class_total c.args.version in
    let p = c.loop-partition.partition in
    let is = c.class_total-count.ensures.count in
    let rows = row_fits p n 4 n c.loop-partition-test.true (omega arith) in
    let place : p * c.class_total-count.result ≡ p * n = ap (λ k. p * k) is in
    let many = c.requires.many in
    let long = c.loop-partition.invariant.many in
    omega (arith, is, rows, place, many, long)

pub clear_from-requires-clause-slots : goal.clear_from-requires-clause-slots
clear_from-requires-clause-slots c =
    let all : VersionLists = record { version = c.args.version; lists = c.args.lists.now.items } in
    let sum = clear_slots all c.loop-partition.lists.items c.args.sums.now c.loop-partition.partition c.requires c.loop-partition-test.true
    c.loop-partition.invariant in
    sum ∙ ap (λ n. listed_slots (from_place c.loop-partition.lists.items (c.loop-partition.partition * n)) 0 n)
    (sym c.class_total-count.ensures.count)

pub loop-partition-preserved : goal.loop-partition-preserved
loop-partition-preserved c =
    let now = c.loop-partition.lists.items in
    let next = c.clear_from.new.lists.items in
    let p = c.loop-partition.partition in
    let is = c.class_total-count.ensures.count in
    clear_more (class_total c.args.version) c.args.lists.now.items now next p c.loop-partition.invariant c.clear_from.ensures.many
    (subst (λ n. (k : ℕ) → p * n ≤ k → k < p * n + n → get_or next k [] ≡ []) is c.clear_from.ensures.these)
    (subst (λ n. (k : ℕ) → (p * n ≤ k → p * n + n ≤ k) → get_or next k [] ≡ get_or now k []) is c.clear_from.ensures.others)

pub returns-clause-empty : goal.returns-clause-empty
returns-clause-empty c =
    let all : VersionLists = record { version = c.args.version; lists = c.args.lists.now.items } in
    clear_end all c.loop-partition.lists.items c.args.sums.now c.loop-partition.partition c.requires c.loop-partition-test.false
    c.loop-partition.invariant
