use Rattle.std.proofs.Common.{◌≡◌, ℕ, ◌<◌, ◌≤◌, List, Option, Some, map, sym, ◌∙◌, ap, subst, arith, rules}
use Rattle.std.specs.Option.{IfSome}
use Rattle.std.proofs.lemmas.Bool.{false≢true}
use Rattle.pa_buckets.specs.Limits.{first_class, past_class}
use Rattle.pa_record.specs.declared.numbered.Numbered.{Numbered}
use Rattle.pa_record.specs.declared.root.RootAct.{RootAct}
use Rattle.pa_rules.specs.Sizes.{HasClass}
use Rattle.pa_rules.proofs.Versions.{real_in}
use Rattle.pa_audit_holders.specs.Gives.{whole_count}
use Rattle.pa_audit_holders.specs.Lines.{did_at}
use Rattle.pa_audit_holders.specs.Lists.{VersionLists, cache_in}
use Rattle.pa_audit_holders.proofs.Listing.{none_but}
use Rattle.pa_audit_holders.proofs.Purging.{IsPurging, purging_end, purging_more, purging_no_end, purging_not, purging_over, purging_part, purging_start}
use Rattle.pa_audit_holders.proofs.Remaining.{left_some}
use Rattle.pa_audit_holders.proofs.purges.purges_lists.Goals as goal

pub lists-init : goal.lists-init
unfolding whole_count
lists-init c =
    let all = c.args.cache.now in
    let lists = cache_in all c.args.partition in
    let acts = map (did_at c.args.journal.now) c.args.places.now in
    let first : c.first_class-number.result ≡ first_class all.version = c.first_class-number.ensures ∙ ap first_class c.version.ensures in
    let rest = c.sum-rest.result.slots in
    record {
      low = omega (arith, first);
      purging = subst (λ k. IsPurging acts lists c.args.slots (past_class all.version) k 0 c.args.slots rest) (sym first)
          (purging_start all.version acts lists c.args.slots rest (none_but all c.args.partition) c.sum-rest.ensures.listed.slots);
    }

-- while slots are left the number is that of a class of the version
has_class : (all : VersionLists) (acts : List RootAct) (p slots k at left rest : ℕ) → first_class all.version ≤ k
    → IsPurging acts (cache_in all p) slots (past_class all.version) k at left rest → 0 < rest → HasClass all.version k
has_class all acts p slots k at left rest low h some = (low, left_some (cache_in all p) (past_class all.version) k rest h.lists_left some)

-- the class of a number has that number
same_number : (o : Option ℕ) (class number : ℕ) → o ≡ Some class → IfSome o (λ k. k ≡ number) → class ≡ number
same_number o class number e h = subst (λ z. IfSome z (λ k. k ≡ number)) e h

pub unwrap-requires : goal.unwrap-requires
unwrap-requires c =
    let l = c.lists in
    let less = real_in c.args.cache.now.version l.number
    (has_class _ _ _ _ _ _ _ _ l.invariant.low l.invariant.purging c.lists-test.true) in
    search rules

pub list-list-requires-clause-class : goal.list-list-requires-clause-class
list-list-requires-clause-class c =
    let l = c.lists in
    subst (HasClass c.args.cache.now.version) (sym (same_number _ _ _ c.unwrap.ensures c.of.ensures.class))
    (has_class _ _ _ _ _ _ _ _ l.invariant.low l.invariant.purging c.lists-test.true)

-- the list that was read is that of the number
read_here : (lists : ℕ → List Numbered) (o : Option ℕ) (class number : ℕ) (xs : List Numbered) → o ≡ Some class → IfSome o (λ k. k ≡ number)
    → xs ≡ lists class → xs ≡ lists number
read_here lists o class number xs e h is = is ∙ ap lists (same_number o class number e h)

pub overflow_sub-rest : goal.overflow_sub-rest
overflow_sub-rest c = purging_part c.lists.invariant.purging c.lists-test.true
    (read_here (cache_in c.args.cache.now c.args.partition) _ _ _ _ c.unwrap.ensures c.of.ensures.class c.list-list.ensures.slots)

pub lists-preserved : goal.lists-preserved
lists-preserved c =
    let low = c.lists.invariant.low in
    record {
      low = omega (arith, low);
      purging = purging_more c.lists.invariant.purging c.lists-test.true
          (read_here (cache_in c.args.cache.now c.args.partition) _ _ _ _ c.unwrap.ensures c.of.ensures.class c.list-list.ensures.slots)
          c.in-Some.next c.if-list-left.false c.in-Some.ensures;
    }

pub lists-smaller : goal.lists-smaller
lists-smaller c =
    let l = c.lists in
    let less = has_class _ _ _ _ _ _ _ _ l.invariant.low l.invariant.purging c.lists-test.true in
    omega (arith, less.1)

pub returns-in_default : goal.returns-in_default
returns-in_default c = purging_not c.lists.invariant.purging c.lists-test.true
    (read_here (cache_in c.args.cache.now c.args.partition) _ _ _ _ c.unwrap.ensures c.of.ensures.class c.list-list.ensures.slots)
    c.in_default.ensures

pub returns-then-list-left : goal.returns-then-list-left
returns-then-list-left c = purging_over c.lists.invariant.purging c.lists-test.true
    (read_here (cache_in c.args.cache.now c.args.partition) _ _ _ _ c.unwrap.ensures c.of.ensures.class c.list-list.ensures.slots)
    (omega (arith, c.if-list-left.true))

pub returns-then-ends_with_purge : goal.returns-then-ends_with_purge
returns-then-ends_with_purge c =
    purging_end c.lists.invariant.purging (omega (arith, c.lists-test.false)) (c.ends_with_purge.ensures.0 c.if-ends_with_purge.true)

pub returns-else-ends_with_purge : goal.returns-else-ends_with_purge
returns-else-ends_with_purge c =
    purging_no_end c.lists.invariant.purging (omega (arith, c.lists-test.false))
    (λ ends. false≢true (sym c.if-ends_with_purge.false ∙ c.ends_with_purge.ensures.1 ends))
