use Rattle.std.proofs.Common.{refl, ◌+◌, ◌-◌, None, arith, inl, inr}
use Rattle.std.proofs.lemmas.Bool.Decides.{eqb_tells}
use Rattle.pa_machine.proofs.Totals.{get_or_past}
use Rattle.pa_machine.proofs.Enabling.{actor_is}
use Rattle.pa_machine.proofs.Reading.{reads_raw, raw_same}
use Rattle.pa_machine.proofs.tables.Tables.holds_raw.Goals as goal

pub returns-then-to-len : goal.returns-then-to-len
returns-then-to-len c =
    let held = c.args.self.now in
    elim (eqb_tells c.args.len 0) [
      | inl y ↦ (λ yes b low high. let z = y.1 in absurd (omega arith), λ holds. y.0)
      | inr n ↦ (
        λ yes. absurd (let z = n.0 in cc),
        λ holds.
            let ne = n.1 in
            let last = reads_raw held c.args.actor (c.args.start + c.args.len - 1) (actor_is c.args.self.now c.args.actor c.requires)
            (holds (c.args.start + c.args.len - 1) (omega arith) (omega arith)) in
            let past = get_or_past held.holders.items (c.args.start + c.args.len - 1) None (omega arith) in
            absurd cc,
      )
    ]

pub returns-then-not-is_raw_of : goal.returns-then-not-is_raw_of
returns-then-not-is_raw_of c = (
  λ yes. cc,
  λ holds. c.if-not-is_raw_of.ensures.1 (reads_raw c.args.self.now c.args.actor c.loop-byte.byte
      (actor_is c.args.self.now c.args.actor c.requires) (holds c.loop-byte.byte (omega arith) (omega arith))),
)

pub returns : goal.returns
returns c = (
  λ yes. (raw_same c.args.self.now c.args.actor c.args.start c.args.len (actor_is c.args.self.now c.args.actor c.requires)).0
      (λ b low high. c.loop-byte.invariant b low (omega arith)),
  λ holds. refl,
)
