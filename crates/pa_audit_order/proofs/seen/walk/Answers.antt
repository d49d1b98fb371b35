use Rattle.std.proofs.Common.{ℕ, ◌+◌, List, [], length, Bool, ap, sym, subst, refl}
use Rattle.pa_audit_records.specs.ByKeys.{value_at}
use Rattle.std.proofs.lemmas.Bool.{false≢true}
use Rattle.pa_rules.specs.Cells.{history_at}
use Rattle.pa_audit_order.specs.declared.cuts.Cut.{Cut}
use Rattle.pa_audit_order.specs.Cuts.{IsAhead, IsGrown}
use Rattle.pa_audit_order.proofs.Cutting.{cut_start}
use Rattle.pa_audit_order.proofs.Treading.{IsWalked, walked_start, walked_past, walked_cut, walked_on, walked_not, walked_all}
use Rattle.pa_audit_order.proofs.seen.walk.Goals.{then-record-thread+in_ok-reach+else-not-is_fresh, else-record-thread}
use Rattle.pa_audit_order.proofs.seen.walk.Goals as goal

pub loop-record-init : goal.loop-record-init
loop-record-init c =
    let cells = history_at c.args.cells.now in
    let ps = c.args.records.now in
    let t = c.args.thread in
    let cut = c.in_ok-cut.cut in
    let left = value_at cut.left in
    let A = IsAhead cells ps t 0 in
    let n = length ps in
    let has = c.in_ok-cut.ensures in
    let start = cut_start cells ps A left has.left in
    let one = subst (λ (ms : List Bool). IsGrown cells ps A n ms [] 0 left) (sym has.marked) start in
    let two = subst (λ (zs : List ℕ). IsGrown cells ps A n cut.marked.items zs 0 left) (sym has.stack) one in
    let three = subst (λ z. IsGrown cells ps A n cut.marked.items cut.stack.items z left) (sym has.floor) two in
    record { walked = walked_start cells ps t cut.marked.items cut.stack.items cut.floor left has.stack three; at = refl }

pub reach-requires-clause-cut : goal.reach-requires-clause-cut
reach-requires-clause-cut c =
    let cut = c.loop-record.cut in
    walked_cut (history_at c.args.cells.now) c.args.records.now c.args.thread c.loop-record.record-index c.loop-record.at _
    cut.marked.items cut.stack.items cut.floor (value_at cut.left) c.loop-record.invariant.at
    c.loop-record-test.true c.if-record-thread.true c.loop-record.invariant.walked

pub returns-then-not-is_fresh : goal.returns-then-not-is_fresh
returns-then-not-is_fresh c =
    let cut = c.reach.new.cut in
    let old = c.loop-record.cut in
    walked_not (history_at c.args.cells.now) c.args.records.now c.args.thread c.loop-record.record-index c.loop-record.at _
    old.marked.items cut.marked.items old.stack.items old.floor cut.floor (value_at old.left) (value_at cut.left)
    c.loop-record.invariant.at c.loop-record-test.true c.loop-record.invariant.walked c.in_ok-reach.ensures.cut
    c.if-not-is_fresh.ensures.sized (λ fresh. false≢true (c.if-not-is_fresh.ensures.fresh.1 fresh))

pub loop-record-preserved : goal.loop-record-preserved
loop-record-preserved c =
    let cells = history_at c.args.cells.now in
    let ps = c.args.records.now in
    let t = c.args.thread in
    let k = c.loop-record.record-index in
    let old = c.loop-record.cut in
    let inv = c.loop-record.invariant in
    let P = λ (z : Cut). IsWalked cells ps t (k + 1) z.marked.items z.stack.items z.floor (value_at z.left) in
    record {
      walked = elim c.if-record-thread.branch [
        | then-record-thread+in_ok-reach+else-not-is_fresh w ↦
            let cut = w.reach.new.cut in
            subst P (sym w.cut-is)
            (walked_on cells ps c.args.previous.now t k c.loop-record.at _ old.marked.items cut.marked.items old.stack.items
            cut.stack.items old.floor cut.floor (value_at old.left) (value_at cut.left) inv.at
            c.loop-record-test.true w.if-record-thread.true c.requires.ready.rising c.requires.ready.threads inv.walked
            w.in_ok-reach.ensures.cut w.in_ok-reach.ensures.empty w.in_ok-reach.ensures.near
            (w.if-not-is_fresh.ensures.fresh.0 refl))
        | else-record-thread w ↦
            subst P (sym w.cut-is)
            (walked_past cells ps t k _ old.marked.items old.stack.items old.floor
            (value_at old.left) c.loop-record-test.true w.if-record-thread.false inv.walked)
      ];
      at = ap (λ n. n + 1) inv.at;
    }

pub returns : goal.returns
returns c =
    let cut = c.loop-record.cut in
    walked_all (history_at c.args.cells.now) c.args.records.now c.args.thread c.loop-record.record-index cut.marked.items cut.stack.items
    cut.floor (value_at cut.left) c.loop-record-test.false c.loop-record.invariant.walked
