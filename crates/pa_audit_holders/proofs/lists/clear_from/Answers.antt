use Rattle.std.proofs.Common.{◌≡◌, ℕ, ◌+◌, ◌-◌, ◌<◌, List, [], get_or, length, set, sym, ◌∙◌, ap, subst, arith}
use Rattle.std.proofs.lemmas.List.{get_or_default}
use Rattle.pa_record.specs.declared.numbered.Numbered.{Numbered}
use Rattle.pa_audit_holders.proofs.Clearing.{AreEmptied, emptied_below, emptied_more, emptied_part, emptied_these, emptied_within}
use Rattle.pa_audit_holders.proofs.lists.clear_from.Goals as goal

pub index-requires : goal.index-requires
index-requires c = let below = emptied_below c.lists.invariant c.lists-test.true c.requires.within in omega (arith, below)

pub index_mut-requires : goal.index_mut-requires
index_mut-requires c = let below = emptied_below c.lists.invariant c.lists-test.true c.requires.within in omega (arith, below)

pub lists-smaller : goal.lists-smaller
lists-smaller c = let within = emptied_within c.lists.invariant c.lists-test.true in omega (arith, within)

-- the length of the list that was read in a place is that of the list there
long_read : (lists : List (List Numbered)) (at len : ℕ) (d found : List Numbered) → at < length lists →
    len ≡ length found → found ≡ get_or lists at d
    → len ≡ length (get_or lists at [])
long_read lists at len d found below long is = long ∙ ap length (is ∙ get_or_default lists at d [] below)

pub overflow_sub-rest : goal.overflow_sub-rest
overflow_sub-rest c =
    let below = emptied_below c.lists.invariant c.lists-test.true c.requires.within in
    emptied_part c.lists.invariant c.lists-test.true c.len-rest.result (long_read _ _ _ _ _ below c.len-rest.ensures c.index.ensures)

pub lists-preserved : goal.lists-preserved
lists-preserved c =
    let l = c.lists in
    let below = emptied_below l.invariant c.lists-test.true c.requires.within in
    subst (λ (xs : List Numbered). AreEmptied c.args.lists.now.items (set l.lists.items l.at xs) c.args.first c.args.count (l.at + 1)
    (l.rest - c.len-rest.result))
    (sym c.clear.ensures)
    (emptied_more l.invariant c.lists-test.true c.len-rest.result c.requires.within
    (long_read _ _ _ _ _ below c.len-rest.ensures c.index.ensures))

pub returns-clause-these : goal.returns-clause-these
returns-clause-these c =
    emptied_these c.args.lists.now.items c.lists.lists.items c.args.first c.args.count c.lists.at c.lists.rest c.lists.invariant
    c.lists-test.false
