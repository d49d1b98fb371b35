use Rattle.std.proofs.Common.{◌*◌, refl, ap, ◌∙◌}
use Rattle.pa_trace.specs.declared.script.Rules.{Rules}
use Rattle.pa_player.proofs.Empty.{clear_at}
use Rattle.pa_player.proofs.player.Player+Told+O.new.Goals as goal

pub returns : goal.returns
returns g c =
    let h = c.args.head in
    record {
      pool = c.in_ok-new.ensures.pool;
      roots = c.in_ok-new.ensures.roots;
      table = c.new-2.ensures.empty;
      registers = c.in_ok-new-2.ensures;
      cells = refl;
      cell = λ k. clear_at 64 k;
      caches = record {
        count = c.in_ok-new-3.ensures.count ∙ ap (λ n. h.threads * h.partitions * n) c.class_total.ensures.count;
        empty = c.in_ok-new-3.ensures.empty;
      };
      live = c.new-5.ensures;
      quarantined = c.new-6.ensures;
      cached = c.new-7.ensures;
      told = c.requires.told;
      rules = ap {B = Rules} (λ n. record { version = h.version; plain_from = n }) c.saturating_sub.ensures;
      many = refl;
      phase = refl;
    }
