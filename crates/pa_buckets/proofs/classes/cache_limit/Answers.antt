use Rattle.std.proofs.Common.{◌≡◌, ℕ, ◌<◌, sym, ◌∙◌, subst, arith}
use Rattle.pa_buckets.specs.Table.{slot_of}
use Rattle.pa_buckets.specs.Bands.{limit_of, limit_for}
use Rattle.pa_buckets.proofs.Facts.{IsRow-of, limit_of-size, limit_for-first, limit_for-second, limit_for-third, limit_for-last}
use Rattle.pa_buckets.proofs.classes.cache_limit.Goals as goal

-- the limit of a class whose slot size has it
by_size : (c size limit : ℕ) → c < 170 → size ≡ slot_of c → limit_for size ≡ limit → limit ≡ limit_of c
by_size c size limit real is at = sym (limit_of-size c real ∙ subst (λ s. limit_for s ≡ limit) is at)

pub returns-then-size-le128-clause-limit : goal.returns-then-size-le128-clause-limit
returns-then-size-le128-clause-limit c =
    by_size c.args.class c.slot_size-size.result _ c.slot_size-size.ensures.bound c.slot_size-size.ensures.size
    (limit_for-first c.slot_size-size.result (omega arith))

pub returns-then-size-le1024-clause-limit : goal.returns-then-size-le1024-clause-limit
returns-then-size-le1024-clause-limit c =
    by_size c.args.class c.slot_size-size.result _ c.slot_size-size.ensures.bound c.slot_size-size.ensures.size
    (limit_for-second c.slot_size-size.result (omega arith) (omega arith))

pub returns-then-size-le32768-clause-limit : goal.returns-then-size-le32768-clause-limit
returns-then-size-le32768-clause-limit c =
    by_size c.args.class c.slot_size-size.result _ c.slot_size-size.ensures.bound c.slot_size-size.ensures.size
    (limit_for-third c.slot_size-size.result (omega arith) (omega arith))

pub returns-else-size-le32768-clause-limit : goal.returns-else-size-le32768-clause-limit
returns-else-size-le32768-clause-limit c =
    let most = (IsRow-of c.args.class c.slot_size-size.ensures.bound).greatest_slot in
    let is = c.slot_size-size.ensures.size in
    by_size c.args.class c.slot_size-size.result _ c.slot_size-size.ensures.bound is
    (limit_for-last c.slot_size-size.result (omega arith) (omega arith))
