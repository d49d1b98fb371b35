use Rattle.std.proofs.Common.{◌≡◌, subst}
use Rattle.pa_rules.specs.Cells.{history_at}
use Rattle.pa_audit_order.specs.Steps.{IsGiving}
use Rattle.pa_audit_order.proofs.hands.given_to.Goals as goal

pub returns-in-Swapped-clause-all : goal.returns-in-Swapped-clause-all
returns-in-Swapped-clause-all c = λ k reg j l op answer giving.
    let cells = history_at c.args.cells.now in
    let swap = c.in-Swap.is in
    let swapped = c.in-Swapped.is in
    let cell : k ≡ c.in-Swap.cell = cc in
    let entry : j ≡ c.in-Swapped.entry = cc in
    c.given.ensures.all l (subst (λ z. IsGiving cells z c.in-Swapped.entry l) cell (subst (λ z. IsGiving cells k z l) entry giving))
