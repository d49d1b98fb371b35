use Rattle.std.proofs.Common.{rules, ◌≡◌, ◌+◌, [], ◌∷◌, ◌++◌, length, sym, ◌∙◌, ap, subst, arith}
use Rattle.std.proofs.lemmas.List.{length-append}
use Rattle.pa_layout.specs.Pages.{super_page_at, supers_for}
use Rattle.pa_region.specs.declared.view.View.{View}
use Rattle.pa_region.specs.Lending.{IsNoted}
use Rattle.pa_record.specs.Numbers.{root_numbers}
use Rattle.pa_region.specs.Views.{least_stake}
use Rattle.pa_region.specs.Lists.{list_of}
use Rattle.pa_region.specs.Aware.{IsAware}
use Rattle.pa_region.specs.Hands.{left_after}
use Rattle.pa_region.proofs.LendBack.{keeps_on, lends_again}
use Rattle.pa_record.specs.declared.numbered.Numbered.{Numbered}
use Rattle.pa_record.specs.declared.root.RootEntry.{RootEntry}
use Rattle.pa_record.specs.declared.root.RootAct.TheVariants.{Unmap}
use Rattle.pa_record.specs.Root.{unmapped}
use Rattle.pa_record.specs.Spans.{name_of}
use Rattle.pa_pool.specs.Calls.{run_parcel}
use Rattle.pa_root.specs.Keeping.{RootState}
use Rattle.pa_root.specs.Kept.{state_of, IsKept}
use Rattle.pa_root.specs.Handing.{at_number_seen, root_entry}
use Rattle.pa_root.proofs.KeptSteps.{same_uncut, kept_after}
use Rattle.pa_root.proofs.UnmapEnds.{IsBringing, stands, can_hand, comes_as, given_for, hosts_later, same_slot, sound_after, told}
use Rattle.pa_root.proofs.root.Root.unmap.Goals as goal

pub hand_map-run-requires-clause-stands : goal.hand_map-run-requires-clause-stands
hand_map-run-requires-clause-stands g c =
    let i = c.self.inside in
    let s = state_of i.ledger.seat.view i.ledger.journal.items in
    let t = c.args.title in let w = c.args.note.view in let v = c.args.seat.now.view in
    let r = least_stake v.stakes in
    let k = c.take_title-number in
    let b : IsBringing g.row.P r k.result s t v k.new.seat.view k.new.root.view w =
    record {
      sound = c.self.invariant.2.sound;
      aware = c.aware.ensures.aware;
      back = k.ensures.back;
      cut_aware = k.ensures.aware;
      has = c.requires.has;
      named = c.requires.named;
    } in
    stands g.row.P r k.result s t v k.new.seat.view k.new.root.view w b

pub hand_map-run-requires-clause-inside : goal.hand_map-run-requires-clause-inside
hand_map-run-requires-clause-inside g c = c.take_title-number.ensures.back.inside

pub hand_map-run-requires-clause-able : goal.hand_map-run-requires-clause-able
hand_map-run-requires-clause-able g c =
    let i = c.self.inside in
    let s = state_of i.ledger.seat.view i.ledger.journal.items in
    let t = c.args.title in let w = c.args.note.view in let v = c.args.seat.now.view in
    let r = least_stake v.stakes in
    let k = c.take_title-number in
    let b : IsBringing g.row.P r k.result s t v k.new.seat.view k.new.root.view w =
    record {
      sound = c.self.invariant.2.sound;
      aware = c.aware.ensures.aware;
      back = k.ensures.back;
      cut_aware = k.ensures.aware;
      has = c.requires.has;
      named = c.requires.named;
    } in
    can_hand g.row.P r k.result s t v k.new.seat.view k.new.root.view w b

pub give_run-asked-requires-clause-back : goal.give_run-asked-requires-clause-back
give_run-asked-requires-clause-back g c =
    let i = c.self.inside in
    let s = state_of i.ledger.seat.view i.ledger.journal.items in
    let t = c.args.title in let w = c.args.note.view in let v = c.args.seat.now.view in
    let r = least_stake v.stakes in
    let k = c.take_title-number in
    let b : IsBringing g.row.P r k.result s t v k.new.seat.view k.new.root.view w =
    record {
      sound = c.self.invariant.2.sound;
      aware = c.aware.ensures.aware;
      back = k.ensures.back;
      cut_aware = k.ensures.aware;
      has = c.requires.has;
      named = c.requires.named;
    } in (
      super_page_at t.start,
      supers_for t.len,
      comes_as g.row.P r k.result s t v k.new.seat.view k.new.root.view w b c.hand_map-run.result.view c.hand_map-run.ensures.given,
    )

pub append-requires-clause-host : goal.append-requires-clause-host
append-requires-clause-host g c =
    let i = c.self.inside in
    let s = state_of i.ledger.seat.view i.ledger.journal.items in
    let t = c.args.title in let w = c.args.note.view in let v = c.args.seat.now.view in
    let r = least_stake v.stakes in
    let k = c.take_title-number in
    let b : IsBringing g.row.P r k.result s t v k.new.seat.view k.new.root.view w =
    record {
      sound = c.self.invariant.2.sound;
      aware = c.aware.ensures.aware;
      back = k.ensures.back;
      cut_aware = k.ensures.aware;
      has = c.requires.has;
      named = c.requires.named;
    } in
    let h = c.hand_map-run in let a = c.give_run-asked in
    let y2 = a.new.root.view in let v2 = a.new.self.seat.now.view in let q = least_stake k.new.seat.view.stakes in
    let given = given_for g.row.P r k.result s t v k.new.seat.view k.new.root.view w b c.args.line q a.result v2 h.new.seat.view
    h.result.view y2 h.ensures.left h.ensures.given a.ensures.gave in
    hosts_later g.row.P r k.result s t v k.new.seat.view k.new.root.view w b y2 (given.keeps 0).keeps

pub invariant_of-self-2 : goal.invariant_of-self-2
invariant_of-self-2 g c =
    let i = c.self.inside in
    let s = state_of i.ledger.seat.view i.ledger.journal.items in
    let t = c.args.title in let w = c.args.note.view in let v = c.args.seat.now.view in
    let r = least_stake v.stakes in
    let k = c.take_title-number in
    let b : IsBringing g.row.P r k.result s t v k.new.seat.view k.new.root.view w =
    record {
      sound = c.self.invariant.2.sound;
      aware = c.aware.ensures.aware;
      back = k.ensures.back;
      cut_aware = k.ensures.aware;
      has = c.requires.has;
      named = c.requires.named;
    } in
    let h = c.hand_map-run in let a = c.give_run-asked in
    let y2 = a.new.root.view in let v2 = a.new.self.seat.now.view in let q = least_stake k.new.seat.view.stakes in
    let given = given_for g.row.P r k.result s t v k.new.seat.view k.new.root.view w b c.args.line q a.result v2 h.new.seat.view
    h.result.view y2 h.ensures.left h.ensures.given a.ensures.gave in
    let x = c.append.new.host.view in
    let (m, noted_then) = c.append.ensures.noted in
    let slot : Numbered = record { slot = name_of t; number = k.result } in
    let e : RootEntry = root_entry c.args.line (Unmap a.result slot) in
    let left : IsAware (left_after (run_parcel (super_page_at t.start) (supers_for t.len) t.born) k.new.root.view) =
    subst IsAware h.ensures.left h.ensures.aware in
    let noted : IsNoted (least_stake v2.stakes) g.row.P (root_numbers e) v2 c.append.new.lender.view y2 x m =
    subst (λ (z : View). IsNoted (least_stake z.stakes) g.row.P (root_numbers e) z c.append.new.lender.view y2 x m)
    (search rules) noted_then in
    let sound = sound_after g.row.P r k.result s t v k.new.seat.view k.new.root.view w b c.args.line a.result q (least_stake v2.stakes) v2
    c.append.new.lender.view y2 x m given noted left c.append.ensures.aware.1 in
    let same = c.make_room.ensures.same in
    let grown : c.append.new.journal.items ≡ s.journal ++ e ∷ [] = c.append.ensures.journal ∙ ap (λ js. js ++ e ∷ []) same in
    let more = length-append s.journal (e ∷ []) in
    let size : length c.append.new.journal.items ≡ length s.journal + 1 = ap length grown ∙ more in
    let few = c.in-Ok.ensures.few in
    let at = ap length same in
    let parcel = run_parcel (super_page_at t.start) (supers_for t.len) t.born in
    let known = same_uncut t parcel s.view b.back.shown w k.new.root.view x (b.back.keeps 0).keeps b.back.long b.back.uncut
    (keeps_on (left_after parcel k.new.root.view) y2 x (given.keeps 0).keeps noted.hosts) in
    let shown = c.unmap.ensures.shown s.view s.root c.self.invariant.2.shown in
    let done = kept_after g.row.P s.view s.view x s.journal e i.shelf c.unmap.new.self
    (unmapped (name_of t) s.root) c.self.invariant.2 tt sound known shown in (
      c.append.ensures.regions.1 ∙ a.ensures.region,
      omega arith,
      subst (λ es. IsKept g.row.P x es c.unmap.new.self) (sym grown) done,
    )

pub returns-clause-took : goal.returns-clause-took
returns-clause-took g c =
    let i = c.self.inside in
    let s = state_of i.ledger.seat.view i.ledger.journal.items in
    let t = c.args.title in let w = c.args.note.view in let v = c.args.seat.now.view in
    let r = least_stake v.stakes in
    let k = c.take_title-number in
    let b : IsBringing g.row.P r k.result s t v k.new.seat.view k.new.root.view w =
    record {
      sound = c.self.invariant.2.sound;
      aware = c.aware.ensures.aware;
      back = k.ensures.back;
      cut_aware = k.ensures.aware;
      has = c.requires.has;
      named = c.requires.named;
    } in
    let h = c.hand_map-run in let a = c.give_run-asked in
    let y2 = a.new.root.view in let v2 = a.new.self.seat.now.view in let q = least_stake k.new.seat.view.stakes in
    let given = given_for g.row.P r k.result s t v k.new.seat.view k.new.root.view w b c.args.line q a.result v2 h.new.seat.view
    h.result.view y2 h.ensures.left h.ensures.given a.ensures.gave in
    let x = c.append.new.host.view in
    let (m, noted_then) = c.append.ensures.noted in
    let slot : Numbered = record { slot = name_of t; number = k.result } in
    let e : RootEntry = root_entry c.args.line (Unmap a.result slot) in
    let noted : IsNoted (least_stake v2.stakes) g.row.P (root_numbers e) v2 c.append.new.lender.view y2 x m =
    subst (λ (z : View). IsNoted (least_stake z.stakes) g.row.P (root_numbers e) z c.append.new.lender.view y2 x m)
    (search rules) noted_then in
    let same_q : q ≡ r = (lends_again v k.new.seat.view k.ensures.back.lends.keeps c.requires.lender).1 in
    let same_k : least_stake v2.stakes ≡ r = (lends_again k.new.seat.view v2 given.lends.keeps k.ensures.again).1 ∙ same_q in
    let enters = told g.row.P r k.result s t v k.new.seat.view k.new.root.view w b c.args.line a.result q
    (least_stake v2.stakes) v2 c.append.new.lender.view y2 x m given noted same_q same_k in
    let named : e ≡ root_entry c.args.line (Unmap a.result (at_number_seen w t)) =
    ap (λ z. root_entry c.args.line (Unmap a.result z)) (same_slot g.row.P r k.result s t v k.new.seat.view k.new.root.view w b) in
    record {
      takes = record {
        index = length (list_of g.row.P y2);
        asked = a.result;
        first = super_page_at t.start;
        enters = enters;
      };
      journal =
          c.append.ensures.journal ∙ (ap (λ js. js ++ e ∷ []) c.make_room.ensures.same
          ∙ (ap (λ z. s.journal ++ z ∷ []) named ∙
          ap (λ (z : RootState). z.journal ++ root_entry c.args.line (Unmap a.result (at_number_seen w t)) ∷ []) c.self.view_is));
    }
