use Rattle.std.proofs.Common.{rules, ◌≡◌, ◌+◌, ◌≤◌, [], ◌∷◌, ◌++◌, length, sym, ◌∙◌, ap, subst, arith}
use Rattle.std.proofs.lemmas.List.{length-append}
use Rattle.std.specs.Prelude.{Vec}
use Rattle.std.specs.declared.alloc.Global.{Global}
use Rattle.pa_region.specs.declared.view.View.{View}
use Rattle.pa_region.specs.Views.{least_stake}
use Rattle.pa_region.specs.Lending.{IsNoted}
use Rattle.pa_record.specs.declared.root.RootEntry.{RootEntry}
use Rattle.pa_record.specs.declared.root.RootAct.TheVariants.{Fill}
use Rattle.pa_record.specs.Numbers.{root_numbers}
use Rattle.pa_root.specs.Keeping.{RootState}
use Rattle.pa_root.specs.Filling.{fill_taken}
use Rattle.pa_root.specs.Kept.{state_of, IsKept}
use Rattle.pa_root.specs.Handing.{numbered_by, root_entry}
use Rattle.pa_root.proofs.FillSteps.{hosts_left}
use Rattle.pa_root.proofs.FillEnds.{ready_turn, same_stake, filled_sound, fill_tells}
use Rattle.pa_root.proofs.KeptOn.{kept_turn}
use Rattle.pa_root.proofs.KeptSteps.{same_kept, kept_after}
use Rattle.pa_root.proofs.root.Root.fill.Goals as goal

pub open_page-requires : goal.open_page-requires
open_page-requires g c =
    let i = c.self.inside in
    let kept = subst (λ es. IsKept g.row.P i.ledger.seat.view es i.shelf) (sym c.in_ok-make_room.ensures.same) c.self.invariant.2 in
    (search rules, (c.self.invariant.0, (c.requires.lender, (kept, (c.in_ok-make_room.ensures.room, c.in_ok-make_room.ensures.few)))))

pub take_out-note-requires-clause-turn : goal.take_out-note-requires-clause-turn
take_out-note-requires-clause-turn g c =
    let i = c.self.inside in
    let v = i.ledger.seat.view in
    let opened = c.in_ok-asked.ensures.opened in
    let s = state_of v c.make_room.new.journal.items in
    let kept = subst (λ es. IsKept g.row.P v es i.shelf) (sym c.in_ok-make_room.ensures.same) c.self.invariant.2 in
    let turn = kept_turn g.row.P v c.make_room.new.journal.items i.shelf kept in
    let was = kept.shown.kept.turn in
    let now = opened.shown.kept.turn in
    let same = ready_turn c.in_ok-asked.asked s c.open_page.new.self.seat.view in
    let few = c.in_ok-make_room.ensures.few in
    omega arith

pub take_out-note-requires-clause-ready : goal.take_out-note-requires-clause-ready
take_out-note-requires-clause-ready g c =
    let s = state_of c.self.inside.ledger.seat.view c.make_room.new.journal.items in
    let opened = c.in_ok-asked.ensures.opened in
    (g.row.P, c.in_ok-asked.asked, s, opened.ready, opened.shown)

pub append-requires-clause-host : goal.append-requires-clause-host
append-requires-clause-host g c =
    let s = state_of c.self.inside.ledger.seat.view c.make_room.new.journal.items in
    let p = g.row.P in let class = c.args.class in let asked = c.in_ok-asked.asked in
    let opened = c.in_ok-asked.ensures.opened in
    let taken = c.take_out-note in
    let out = taken.ensures.out p asked s opened.ready opened.shown in
    let u = c.open_page.new.self.seat.view in
    hosts_left p class asked s u taken.new.own.view taken.result.0.view taken.result.1.items taken.result.2
    (fill_taken class asked s u).root out

pub invariant_of-self-2 : goal.invariant_of-self-2
invariant_of-self-2 g c =
    let i = c.self.inside in
    let s = state_of i.ledger.seat.view c.make_room.new.journal.items in
    let p = g.row.P in let class = c.args.class in let asked = c.in_ok-asked.asked in
    let opened = c.in_ok-asked.ensures.opened in
    let taken = c.take_out-note in
    let out = taken.ensures.out p asked s opened.ready opened.shown in
    let u = c.open_page.new.self.seat.view in
    let left = taken.new.own.view in let note = taken.result.0.view in let titles = taken.result.1.items in let slots = taken.result.2 in
    let root = (fill_taken class asked s u).root in let x = c.append.new.host.view in
    let e : RootEntry = root_entry c.args.line (Fill class asked slots) in
    let (m, noted) = c.append.ensures.noted in
    let sound = filled_sound p c.args.line class asked s u left note x titles slots root m out taken.ensures.aware c.append.ensures.aware.1
    noted.hosts noted.list noted.says in
    let grown : c.append.new.journal.items ≡ s.journal ++ e ∷ [] =
    c.append.ensures.journal ∙ ap (λ (js : Vec RootEntry Global). js.items ++ e ∷ []) c.in_ok-asked.ensures.journal in
    let size : length c.append.new.journal.items ≡ length s.journal + 1 = ap length grown ∙ length-append s.journal (e ∷ []) in
    let few = c.in_ok-make_room.ensures.few in
    let same = ap length c.in_ok-make_room.ensures.same in
    let kept = subst (λ es. IsKept p i.ledger.seat.view es i.shelf) (sym c.in_ok-make_room.ensures.same) c.self.invariant.2 in
    let batch : length slots ≤ 16 = search rules in
    let done = kept_after p i.ledger.seat.view left x s.journal e i.shelf taken.new.shelf root kept batch sound
    (same_kept left x noted.hosts)
    (taken.ensures.shown p asked s opened.ready opened.shown) in (
      c.append.ensures.regions.1 ∙ (taken.ensures.regions.0 ∙ c.in_ok-asked.ensures.region),
      omega arith,
      subst (λ es. IsKept p x es taken.new.shelf) (sym grown) done,
    )

pub returns-clause-gave : goal.returns-clause-gave
returns-clause-gave g c =
    let i = c.self.inside in
    let s = state_of i.ledger.seat.view c.make_room.new.journal.items in
    let p = g.row.P in let class = c.args.class in let asked = c.in_ok-asked.asked in let line = c.args.line in
    let opened = c.in_ok-asked.ensures.opened in
    let taken = c.take_out-note in
    let out = taken.ensures.out p asked s opened.ready opened.shown in
    let u = c.open_page.new.self.seat.view in
    let left = taken.new.own.view in let note = taken.result.0.view in let titles = taken.result.1.items in let slots = taken.result.2 in
    let root = (fill_taken class asked s u).root in let x = c.append.new.host.view in
    let v = c.args.seat.now.view in let a = c.open_page.new.asking.seat.now.view in let after = c.append.new.lender.view in
    let r = least_stake v.stakes in
    let e : RootEntry = root_entry line (Fill class asked slots) in
    let (m, noted_then) = c.append.ensures.noted in
    let noted : IsNoted (least_stake a.stakes) p (root_numbers e) a after left x m =
    subst (λ (z : View). IsNoted (least_stake z.stakes) p (root_numbers e) z after left x m) (search rules) noted_then in
    let noted' : IsNoted r p (root_numbers e) a after left x m =
    subst (λ k. IsNoted k p (root_numbers e) a after left x m) (same_stake r p line asked v a opened.told c.requires.lender) noted in
    let grown : c.append.new.journal.items ≡ s.journal ++ e ∷ [] =
    c.append.ensures.journal ∙ ap (λ (js : Vec RootEntry Global). js.items ++ e ∷ []) c.in_ok-asked.ensures.journal in
    let s_now = state_of x c.append.new.journal.items in
    let told = fill_tells p line class asked s u left note x titles slots root m out r v a after s_now opened.told noted' grown in
    let last : RootEntry = root_entry line (Fill class told.gives.asked (numbered_by note titles)) in
    record {
      gives = told.gives;
      journal =
          told.journal ∙ ap (λ js. js ++ last ∷ []) (c.in_ok-make_room.ensures.same ∙ ap (λ (z : RootState). z.journal) c.self.view_is);
    }
