use Rattle.std.proofs.Common.{◌≡◌, sym, ◌∙◌, subst, inl, inr}
use Rattle.std.proofs.lemmas.Bool.{false≢true}
use Rattle.pa_audit_records.specs.ByKeys.{value_at}
use Rattle.pa_audit_records.specs.Tables.{AreSlotFacts}
use Rattle.pa_audit_records.proofs.Knowing.{suits_known}
use Rattle.pa_audit_records.proofs.known.known_slots.Goals as goal
use Rattle.pa_audit_records.proofs.known.known_slots.Goals.{then-any_plain, else-any_plain, then-reads+in_ok-slots, else-reads}

pub returns : goal.returns
returns c =
    let ps = c.args.records.now in
    suits_known ps (record { slots = c.if-reads.slots; any_plain = c.asks_plain-any_plain.result }) c.asks_plain-any_plain.ensures
    (elim c.if-reads.branch [
      | then-reads+in_ok-slots w ↦ inl (subst (λ m. AreSlotFacts ps (value_at m)) (sym w.slots-is) w.in_ok-slots.ensures)
      | else-reads w ↦ inr (elim c.if-any_plain.branch [
        | then-any_plain v ↦ absurd (false≢true (sym w.if-reads.false ∙ v.value-is ∙ v.if-any_plain.true))
        | else-any_plain v ↦ (v.if-any_plain.false, λ some. false≢true (sym w.if-reads.false ∙ v.value-is ∙ v.reads.ensures.1 some))
      ])
    ])
