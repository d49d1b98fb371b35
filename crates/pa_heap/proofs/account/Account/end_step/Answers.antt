use Rattle.std.proofs.Common.{◌≡◌, ◌+◌, [], ◌∷◌, length, ◌∙◌, sym, ap, subst, arith}
use Rattle.std.proofs.lemmas.List.{length-append}
use Rattle.pa_op_specs.specs.Counts.{AreOfSteps, IsOwedBySteps}
use Rattle.pa_op_specs.proofs.Counting.{are_within, owed_within}
use Rattle.pa_heap.proofs.account.Account.end_step.Goals as goal

pub count_step-requires-clause-small : goal.count_step-requires-clause-small
count_step-requires-clause-small c =
    are_within (length c.args.self.now.records.items) 4294967295 c.args.self.now.counts (omega arith) c.requires.account.counts

pub owe_step-requires-clause-small : goal.owe_step-requires-clause-small
owe_step-requires-clause-small c =
    owed_within (length c.args.self.now.records.items) 4294967295 c.args.self.now.owed (omega arith) c.requires.account.owed

pub returns-in-Ok-clause-account : goal.returns-in-Ok-clause-account
returns-in-Ok-clause-account c =
    let long : length c.enter.new.records.items ≡ length c.args.self.now.records.items + 1 =
    ap length c.enter.ensures.items ∙ length-append c.args.self.now.records.items (_ ∷ []) in
    record {
      room = omega (arith, c.enter.ensures.room, c.requires.account.room);
      counts = subst (λ n. AreOfSteps n c.count_step.new.counts) (sym long)
          (c.count_step.ensures.small (length c.args.self.now.records.items) c.requires.account.counts);
      owed = subst (λ n. IsOwedBySteps n c.owe_step.new.owed) (sym long)
          (c.owe_step.ensures.small (length c.args.self.now.records.items) c.requires.account.owed);
    }
