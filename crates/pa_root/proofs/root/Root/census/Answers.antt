use Rattle.std.proofs.Common.{◌≤◌, [], sym, ◌∙◌, ap, subst, map, arith}
use Rattle.pa_region.specs.declared.view.Made.{Made}
use Rattle.pa_region.specs.Views.{least_stake, seen_of}
use Rattle.pa_region.specs.Lists.{list_of, IsBeginning}
use Rattle.pa_region.specs.Lending.{Lends}
use Rattle.pa_region.proofs.LendBack.{begins_on}
use Rattle.pa_region.specs.Shares.{Share}
use Rattle.pa_record.specs.Census.{census}
use Rattle.pa_record.specs.Numbers.{root_numbers}
use Rattle.pa_root.specs.Keeping.{RootState}
use Rattle.pa_root.specs.Kept.{root_of, state_of, IsKept}
use Rattle.pa_root.proofs.Entries.{on}
use Rattle.pa_root.proofs.KeptOn.{kept_good, kept_used, kept_in}
use Rattle.pa_root.proofs.Seeing.{seeing_more_keeps}
use Rattle.pa_root.proofs.Shown.{shown_more, kept_more}
use Rattle.pa_root.proofs.Showing.{own_stays, both_whole}
use Rattle.pa_root.proofs.root.Root.census.Goals as goal

pub census-requires-clause-shown : goal.census-requires-clause-shown
census-requires-clause-shown g c =
    let i = c.self.inside in
    let v = i.ledger.seat.view in let js = i.ledger.journal.items in
    let x = c.show_seen-2.new.from.view in
    let kept = c.self.invariant.2 in
    let good = kept_good g.row.P v js i.shelf kept in
    let lends = on 0 [] [] v c.show_seen.new.to.view x (c.show_seen.ensures.shown.taker 0) (c.show_seen-2.ensures.shown.giver 0) in (
      root_of v js,
      good,
      kept_used g.row.P v js i.shelf kept,
      shown_more v x i.shelf (root_of v js) good (kept_more v x lends.keeps) kept.shown,
    )

pub invariant_of-self : goal.invariant_of-self
invariant_of-self g c =
    let p = g.row.P in
    let i = c.self.inside in
    let v = i.ledger.seat.view in let js = i.ledger.journal.items in
    let x = c.show_seen-2.new.from.view in
    let there = c.show_seen.ensures.shown in let back = c.show_seen-2.ensures.shown in
    let kept = c.self.invariant.2 in
    let has = kept.sound.journal.hosts.1 in
    let good = kept_good p v js i.shelf kept in
    let lends = on 0 [] [] v c.show_seen.new.to.view x (there.taker 0) (back.giver 0) in
    let sound = seeing_more_keeps p (state_of v js) x kept.sound c.aware.ensures.aware c.aware-3.ensures.aware lends.keeps
    (own_stays p v c.args.seat.now.view c.show_seen.new.to.view c.show_seen.new.from.view x c.show_seen-2.new.to.view there back has) in
    let shown = shown_more v x i.shelf (root_of v js) good (kept_more v x lends.keeps) kept.shown in (
      ap (λ (q : Share). q.region) c.census.ensures.seat ∙
          (c.show_seen-2.ensures.regions.0 ∙ (c.show_seen.ensures.regions.1 ∙ c.self.invariant.0)),
      c.self.invariant.1,
      subst (λ (q : Share). IsKept p q.view js i.shelf) (sym c.census.ensures.seat) (kept_in p v x js i.shelf i.shelf kept sound shown),
    )

pub returns-clause-keeps : goal.returns-clause-keeps
returns-clause-keeps g c =
    let v = c.args.seat.now.view in
    let r = least_stake v.stakes in
    on r [] [] v c.show_seen.new.from.view c.show_seen-2.new.to.view (c.show_seen.ensures.shown.giver r)
    (c.show_seen-2.ensures.shown.taker r)

pub returns-clause-kept : goal.returns-clause-kept
returns-clause-kept g c =
    let v = c.self.inside.ledger.seat.view in
    let lends = on 0 [] [] v c.show_seen.new.to.view c.show_seen-2.new.from.view (c.show_seen.ensures.shown.taker 0)
    (c.show_seen-2.ensures.shown.giver 0) in
    subst (λ (z : RootState). Lends 0 [] z.view c.census.new.own.view) c.self.view_is
    (subst (λ (q : Share). Lends 0 [] v q.view) (sym c.census.ensures.seat) lends)

pub returns-clause-root : goal.returns-clause-root
returns-clause-root g c =
    let p = g.row.P in
    let i = c.self.inside in
    let v = i.ledger.seat.view in let js = i.ledger.journal.items in
    let x = c.show_seen-2.new.from.view in
    let there = c.show_seen.ensures.shown in let back = c.show_seen-2.ensures.shown in
    let kept = c.self.invariant.2 in
    let lends = on 0 [] [] v c.show_seen.new.to.view x (there.taker 0) (back.giver 0) in
    let sound = seeing_more_keeps p (state_of v js) x kept.sound c.aware.ensures.aware c.aware-3.ensures.aware lends.keeps
    (own_stays p v c.args.seat.now.view c.show_seen.new.to.view c.show_seen.new.from.view x c.show_seen-2.new.to.view there back
    kept.sound.journal.hosts.1) in
    ap (λ (q : Share). root_of q.view js) c.census.ensures.seat ∙
    (sym sound.journal.replayed ∙ ap (λ (z : RootState). z.root) c.self.view_is)

pub returns-clause-census : goal.returns-clause-census
returns-clause-census g c =
    let i = c.self.inside in
    let v = i.ledger.seat.view in let js = i.ledger.journal.items in
    let x = c.show_seen-2.new.from.view in
    let kept = c.self.invariant.2 in
    let good = kept_good g.row.P v js i.shelf kept in
    let lends = on 0 [] [] v c.show_seen.new.to.view x (c.show_seen.ensures.shown.taker 0) (c.show_seen-2.ensures.shown.giver 0) in
    c.census.ensures.census (root_of v js) good (kept_used g.row.P v js i.shelf kept)
    (shown_more v x i.shelf (root_of v js) good (kept_more v x lends.keeps) kept.shown)
    ∙ ap (λ (z : RootState). census z.root) c.self.view_is

pub returns-clause-seen : goal.returns-clause-seen
returns-clause-seen g c t =
    let a = (c.show_seen.ensures.shown.taker 0).keeps.seen t in
    let b = c.show_seen-2.ensures.shown.seen t in
    subst (λ (z : RootState). seen_of z.view t ≤ seen_of c.show_seen-2.new.to.view t) c.self.view_is (omega arith)

pub returns-clause-listed : goal.returns-clause-listed
returns-clause-listed g c =
    let i = c.self.inside in
    let sound = c.self.invariant.2.sound in
    let there = c.show_seen.ensures.shown in let back = c.show_seen-2.ensures.shown in
    let whole = both_whole g.row.P i.ledger.seat.view c.args.seat.now.view c.show_seen.new.to.view c.show_seen.new.from.view
    c.show_seen-2.new.from.view
    c.show_seen-2.new.to.view there back sound.journal.hosts.1 in
    ap (map (λ (m : Made). m.numbers)) whole ∙ (sound.journal.listed ∙ ap (λ (z : RootState). map root_numbers z.journal) c.self.view_is)

pub returns-clause-pools : goal.returns-clause-pools
returns-clause-pools g c =
    let i = c.self.inside in
    let a = (c.show_seen.ensures.shown.taker 0).keeps.lists 4 in
    let b = c.show_seen-2.ensures.shown.lists 4 in
    subst (λ (z : RootState). IsBeginning (list_of 4 z.view) (list_of 4 c.show_seen-2.new.to.view)) c.self.view_is
    (begins_on (list_of 4 i.ledger.seat.view) (list_of 4 c.show_seen.new.to.view) (list_of 4 c.show_seen-2.new.to.view) a b)
