use Rattle.std.proofs.Common.{◌≡◌, ◌∙◌, length, refl, sym, subst, ap, arith}
use Rattle.pa_record.specs.Root.{decommitted_times}
use Rattle.pa_record.proofs.Returning.{times_is}
use Rattle.pa_shelf.specs.Shelves.{ShelfParts, ShowsRoot}
use Rattle.pa_shelf.proofs.Settling.{empties_are, times_more}
use Rattle.pa_shelf.proofs.Rewriting.{rewritten_none, rewritten_on, of_records}
use Rattle.pa_shelf.proofs.shelf.Shelf.purge.Goals as goal

pub loop-done-init : goal.loop-done-init
loop-done-init c = record { region = refl; shown = λ r sound shown. shown; rest = rewritten_none c.args.own.now.view }

pub decommit_oldest-requires-clause-region : goal.decommit_oldest-requires-clause-region
decommit_oldest-requires-clause-region c = c.loop-done.invariant.region ∙ c.requires.region

pub decommit_oldest-requires-clause-shown : goal.decommit_oldest-requires-clause-shown
decommit_oldest-requires-clause-shown c =
    let (r, sound, shown) = c.requires.shown in (decommitted_times c.loop-done.done r, c.loop-done.invariant.shown r sound shown)

pub decommit_oldest-requires-clause-turn : goal.decommit_oldest-requires-clause-turn
decommit_oldest-requires-clause-turn c =
    let (r, sound, shown) = c.requires.shown in
    let now = (c.loop-done.invariant.shown r sound shown).kept.turn in let before = shown.kept.turn in
    let up = (times_is c.loop-done.done r sound).turn in
    let ring = ap (λ (p : ShelfParts). length p.lists.ring) c.self.view_is in
    let many = c.empties-count.ensures in let few = c.requires.few in let low = c.requires.turn in let less = c.loop-done-test.true in
    omega arith

pub loop-done-preserved : goal.loop-done-preserved
loop-done-preserved c = record {
  region = c.decommit_oldest.ensures.region ∙ c.loop-done.invariant.region;
  shown = λ r sound shown.
      let n = c.loop-done.done in
      subst (ShowsRoot c.decommit_oldest.new.own.view c.decommit_oldest.new.self) (sym (times_more n r))
      (c.decommit_oldest.ensures.shown (decommitted_times n r) (times_is n r sound).kept.sound (c.loop-done.invariant.shown r sound shown));
  rest = let w = c.loop-done.own.view in let x = c.decommit_oldest.new.own.view in
      rewritten_on c.args.own.now.view w x c.loop-done.invariant.rest
      (of_records c.loop-done.self.supers w x c.decommit_oldest.ensures.view);
}

pub returns-clause-region : goal.returns-clause-region
returns-clause-region c = c.loop-done.invariant.region

pub returns-clause-rest : goal.returns-clause-rest
returns-clause-rest c = c.loop-done.invariant.rest

pub returns-clause-shown : goal.returns-clause-shown
returns-clause-shown c r sound shown =
    let all : c.loop-done.done ≡ c.empties-count.result = omega arith in
    let many = all ∙ (c.empties-count.ensures ∙ (ap (λ (p : ShelfParts). length p.lists.ring) c.self.view_is
    ∙ empties_are c.args.own.now.view c.args.self.now r shown.kept)) in
    subst (λ n. ShowsRoot c.loop-done.own.view c.loop-done.self (decommitted_times n r)) many (c.loop-done.invariant.shown r sound shown)
