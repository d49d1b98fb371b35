use Rattle.std.proofs.Common.{◌/◌, max, sym, ap, ◌∙◌}
use Rattle.pa_buckets.proofs.Facts.{fill_of-limit}
use Rattle.pa_buckets.proofs.classes.fill_count.Goals as goal

pub returns-clause-count : goal.returns-clause-count
returns-clause-count c =
    c.max.ensures ∙ ap (λ n. max (n / 8) 1) c.cache_limit.ensures.limit
    ∙ sym (fill_of-limit c.args.class c.cache_limit.ensures.bound)
