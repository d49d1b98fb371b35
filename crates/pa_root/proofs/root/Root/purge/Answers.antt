use Rattle.std.proofs.Common.{◌≡◌, ◌+◌, [], ◌∷◌, ◌++◌, length, refl, sym, ◌∙◌, ap, subst, arith}
use Rattle.std.proofs.lemmas.List.{length-append}
use Rattle.pa_record.specs.declared.root.RootEntry.{RootEntry}
use Rattle.pa_record.specs.declared.root.RootAct.TheVariants.{Purge}
use Rattle.pa_record.specs.Root.{purged}
use Rattle.pa_region.specs.Views.{least_stake}
use Rattle.pa_root.specs.Handing.{root_entry}
use Rattle.pa_root.specs.Kept.{root_of, state_of, IsKept}
use Rattle.pa_root.specs.Laws.{with_view}
use Rattle.pa_root.proofs.Entries.{entries_are_told}
use Rattle.pa_root.proofs.KeptOn.{kept_good, kept_few, kept_turn}
use Rattle.pa_root.proofs.KeptSteps.{same_kept, kept_after}
use Rattle.pa_root.proofs.Purging.{purges_keep_slots}
use Rattle.pa_root.proofs.Rewriting.{rewriting_keeps}
use Rattle.pa_root.proofs.Seeing.{idle_entries_keep}
use Rattle.pa_root.proofs.root.Root.purge.Goals as goal

pub purge-requires-clause-shown : goal.purge-requires-clause-shown
purge-requires-clause-shown g c =
    let i = c.self.inside in
    let v = i.ledger.seat.view in let js = i.ledger.journal.items in
    let kept = c.self.invariant.2 in
    (root_of v js, kept_good g.row.P v js i.shelf kept, kept.shown)

pub purge-requires-clause-few : goal.purge-requires-clause-few
purge-requires-clause-few g c = let i = c.self.inside in
    kept_few g.row.P i.ledger.seat.view i.ledger.journal.items i.shelf c.self.invariant.2

pub purge-requires-clause-turn : goal.purge-requires-clause-turn
purge-requires-clause-turn g c =
    let i = c.self.inside in
    let turn = kept_turn g.row.P i.ledger.seat.view i.ledger.journal.items i.shelf c.self.invariant.2 in
    let long = c.self.invariant.1 in
    omega arith

pub invariant_of-self-2 : goal.invariant_of-self-2
invariant_of-self-2 g c =
    let p = g.row.P in
    let i = c.self.inside in
    let v = i.ledger.seat.view in let js = i.ledger.journal.items in
    let s = state_of v js in
    let kept = c.self.invariant.2 in
    let good = kept_good p v js i.shelf kept in
    let y = c.purge.new.own.view in let x = c.append.new.host.view in
    let (m, noted) = c.append.ensures.noted in
    let e : RootEntry = root_entry c.args.line Purge in
    let same = c.make_room.ensures.same in
    let grown : c.append.new.journal.items ≡ js ++ e ∷ [] = c.append.ensures.journal ∙ ap (λ es. es ++ e ∷ []) same in
    let few = c.in_ok-make_room.ensures.few in
    let more = length-append js (e ∷ []) in
    let long : length c.append.new.journal.items ≡ length js + 1 = ap length grown ∙ more in
    let at = ap length same in
    let there = rewriting_keeps p s y kept.sound c.purge.ensures.rest in
    let sound = idle_entries_keep p (with_view y s) x e there c.append.ensures.aware.0 c.append.ensures.aware.1 noted.hosts
    (m, noted.list, noted.says) (record { act = tt; asks = tt }) refl (purges_keep_slots s.root good) in
    let shown = c.purge.ensures.shown s.root good kept.shown in
    let done = kept_after p v y x js e i.shelf c.purge.new.self (purged s.root) kept tt sound (same_kept y x noted.hosts) shown in (
      c.append.ensures.regions.1 ∙ (c.purge.ensures.region ∙ c.self.invariant.0),
      omega arith,
      subst (λ es. IsKept p x es c.purge.new.self) (sym grown) done,
    )

pub returns-clause-entered : goal.returns-clause-entered
returns-clause-entered g c =
    let v = c.args.seat.now.view in
    let (m, noted) = c.append.ensures.noted in (
      _,
      entries_are_told.one (least_stake v.stakes) g.row.P
          (root_entry c.args.line Purge) v c.append.new.lender.view c.purge.new.own.view c.append.new.host.view m noted,
    )
