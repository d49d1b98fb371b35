use Rattle.std.proofs.Common.{◌≡◌, sym, ◌∙◌, ap, subst}
use Rattle.pa_region.specs.declared.view.View.{View}
use Rattle.pa_region.specs.Shares.{Share}
use Rattle.pa_region.specs.Views.{least_stake}
use Rattle.pa_region.proofs.LendBack.{lends_again}
use Rattle.pa_root.specs.Uncutting.{IsShown}
use Rattle.pa_test_root.specs.RootScripts.{CanGoBack}
use Rattle.pa_test_root.proofs.RootNotes.{filled_back}
use Rattle.pa_test_root.proofs.root_scripts.fill.Goals as goal

pub note-requires : goal.note-requires
note-requires g c = (c.show_seen.ensures.shown.taker 0).keeps.unclean ∙ c.seat-own.ensures.clean

pub invariant_of-result : goal.invariant_of-result
invariant_of-result g c =
    let same = c.seat-own.ensures.same in
    let view : c.seat-own.result.view ≡ c.in-Ok.note.view = ap (λ (s : Share). s.view) same in
    let after = c.fill.new.seat.view in let now = c.show_seen.new.from.view in let own = c.show_seen.new.to.view in
    let shown : IsShown after now c.in-Ok.note.view own = subst (λ (x : View). IsShown after now x own) view c.show_seen.ensures.shown in
    let back =
    filled_back (least_stake c.args.seat.now.view.stakes) 0 c.args.line c.args.class c.args.seat.now.view after now c.in-Ok.note.view own
    c.in-Ok.titles.items c.args.root.now c.fill.new.self
    c.in-Ok.ensures.gave shown in (
      ap (λ (s : Share). s.region) c.note.ensures ∙
          (c.show_seen.ensures.regions.1 ∙ (ap (λ (s : Share). s.region) same ∙ c.in-Ok.ensures.note)),
      subst (λ (x : View). CanGoBack 0 x c.in-Ok.titles.items) (sym (ap (λ (s : Share). s.view) c.note.ensures)) back,
    )

pub returns-in-Ok-clause-again : goal.returns-in-Ok-clause-again
returns-in-Ok-clause-again g c =
    (lends_again c.fill.new.seat.view c.show_seen.new.from.view (c.show_seen.ensures.shown.giver 0).keeps c.in-Ok.ensures.again).0
