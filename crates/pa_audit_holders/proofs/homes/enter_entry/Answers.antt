use Rattle.std.proofs.Common.{ℕ, ◌<◌, List, sym, ◌∙◌, ap, subst, inl, inr}
use Rattle.std.specs.Prelude.{Contains}
use Rattle.pa_dense.specs.Act.{act_of}
use Rattle.pa_record.specs.declared.numbered.Numbered.{Numbered}
use Rattle.pa_record.specs.Root.{names}
use Rattle.pa_rules.specs.Roots.{journal_at}
use Rattle.pa_rules.specs.Caches.{IsOfClass}
use Rattle.pa_audit_holders.proofs.homes.enter_entry.Goals as goal

pub enter_slots-requires-clause-home : goal.enter_slots-requires-clause-home
enter_slots-requires-clause-home c = λ s among.
    let of : IsOfClass (journal_at c.args.roots.now) s c.args.partition c.in-Fill.class = (
      c.args.entry.now,
      c.in-Fill.pool,
      c.in-Fill.slots,
      c.requires.among,
      sym c.act.ensures.act
          ∙ ap act_of c.in-Fill.is,
      subst (λ (zs : List Numbered). Contains (names zs) s) c.items.ensures.items among,
    ) in
    record {
      goes = subst (λ (k : ℕ). IsOfClass (journal_at c.args.roots.now) s c.args.partition k × (k < 170)) (sym c.number.ensures.number)
          (of, c.number.ensures.bound);
      size = inl (c.in-Fill.class, of, c.slot_size.ensures.size);
    }

pub enter-requires-clause-home : goal.enter-requires-clause-home
enter-requires-clause-home c =
    let is = sym c.act.ensures.act ∙ ap act_of c.in-Map.is in
    record {
      goes = (c.args.entry.now, c.in-Map.pool, c.in-Map.len, c.requires.among, is);
      size = inr (c.args.entry.now, c.in-Map.pool, c.requires.among, is);
    }
