use Rattle.std.proofs.Common.{◌≡◌, List, [], ◌∷◌, get_or, sym, ◌∙◌, ap, subst}
use Rattle.std.proofs.lemmas.Bool.{both_ways}
use Rattle.pa_rules.specs.Roots.{journal_at}
use Rattle.pa_record.specs.declared.root.RootAct.{RootAct}
use Rattle.pa_record.specs.declared.root.RootEntry.{RootEntry}
use Rattle.pa_rules.specs.Caches.{acts_of}
use Rattle.pa_audit_holders.proofs.Indexing.{one_there, one_was}
use Rattle.pa_audit_holders.proofs.books.Page.only_act.Goals as goal

pub returns-then-not-none_but-clause-none : goal.returns-then-not-none_but-clause-none
returns-then-not-none_but-clause-none c = λ a only. both_ways _ c.if-not-none_but.true (c.none_but.ensures.1 only.1)

pub returns-then-places-ne1-clause-none : goal.returns-then-places-ne1-clause-none
returns-then-places-ne1-clause-none c =
    λ a only. c.if-places-ne1.true (one_was _ c.places-places.result.now _ a c.places-places.ensures only.0)

pub returns-clause-some : goal.returns-clause-some
returns-clause-some c =
    let acts = acts_of (journal_at c.args.self.now.roots) c.args.self.now.told.line c.args.partition in
    let places = c.places-places.result.now in
    let e = c.index-journal-places.result in
    let there = one_there (journal_at c.args.self.now.roots c.args.partition) places acts e c.places-places.ensures c.if-places-ne1.false in
    let is = ap (λ (z : RootEntry). z.act) (sym c.index-journal-places.is) ∙ sym c.act.ensures.act in (
      subst (λ (es : List RootEntry). acts ≡ (get_or es (get_or places 0 0) e).act ∷ []) (sym c.journal.ensures) there ∙
          ap (λ (a : RootAct). a ∷ []) is,
      c.none_but.ensures.0 c.if-not-none_but.false,
    )
