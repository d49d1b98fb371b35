use Rattle.std.proofs.Common.{◌≡◌, ℕ, ◌+◌, ◌<◌, List, Bool, false, not, ◌&&◌, length, take, get_or, ap, sym, subst, ◌∙◌}
use Rattle.std.proofs.lemmas.List.{length-set}
use Rattle.pa_region.specs.Marks.{marked_stake}
use Rattle.pa_region.proofs.Marking.{unmarked_more, none_more}
use Rattle.pa_region.proofs.marks.unmarked.Goals.{then-k-lt16, else-k-lt16}
use Rattle.pa_region.proofs.marks.unmarked.Goals as goal

pub loop-mark-preserved : goal.loop-mark-preserved
loop-mark-preserved c =
    let has = c.loop-mark.has in
    let stakes = c.args.stakes.now in
    let marks = c.args.marks.now in
    let i = c.loop-mark.mark-index in
    let (long, before) = c.loop-mark.invariant in
    let small = c.loop-mark-test.true in
    let names = c.number_of-k.ensures.named in
    let P = λ (z : List Bool). (length z ≡ 16) ×
    ((j : ℕ) → j < 16 → get_or z j false ≡ (get_or stakes j false && not (marked_stake (take (i + 1) marks) j))) in
    elim c.if-k-lt16.branch [
      | then-k-lt16 w ↦ subst P (sym w.has-is) (
        length-set has _ _ ∙ long,
        λ j few. unmarked_more has stakes marks i _ _ j long small names w.if-k-lt16.true few (before j few),
      )
      | else-k-lt16 w ↦ subst P (sym w.has-is) (
        long,
        λ j few. before j few ∙
            ap (λ b. get_or stakes j false && not b) (sym (none_more marks i _ _ j small names w.if-k-lt16.false few)),
      )
    ]
