use Rattle.std.proofs.Common.{◌∙◌, sym, subst, ap}
use Rattle.pa_record.specs.Spans.{listed}
use Rattle.pa_shelf.specs.Adding.{found_start, found_root}
use Rattle.pa_shelf.specs.Shelves.{ShowsRoot}
use Rattle.pa_shelf.proofs.Fresh.{found_listed, none_listed}
use Rattle.pa_shelf.proofs.Rewriting.{rewritten_none}
use Rattle.pa_shelf.proofs.shelf.Shelf.span_for.Goals as goal

pub returns-in-Some-clause-start : goal.returns-in-Some-clause-start
returns-in-Some-clause-start c r sound shown =
    sym (found_listed c.args.class r (listed c.args.class r.spans) c.in-Some.at
    (sym c.in-Some.is ∙ c.listed.ensures c.args.own.now.view r sound shown.kept)).0

pub returns-in-Some-clause-shown : goal.returns-in-Some-clause-shown
returns-in-Some-clause-shown c r sound shown =
    subst (ShowsRoot c.args.own.now.view c.args.self.now) (sym (found_listed c.args.class r (listed c.args.class r.spans) c.in-Some.at
    (sym c.in-Some.is ∙ c.listed.ensures c.args.own.now.view r sound shown.kept)).1) shown

pub returns-in-Some-clause-rest : goal.returns-in-Some-clause-rest
returns-in-Some-clause-rest c = rewritten_none c.args.own.now.view

pub returns-clause-start : goal.returns-clause-start
returns-clause-start c r sound shown =
    let none = none_listed c.args.class r (listed c.args.class r.spans)
    (sym c.in_default.is ∙ c.listed.ensures c.args.own.now.view r sound shown.kept) in
    c.add_span.ensures.start r sound shown ∙ sym (ap found_start none)

pub returns-clause-shown : goal.returns-clause-shown
returns-clause-shown c r sound shown =
    let none = none_listed c.args.class r (listed c.args.class r.spans)
    (sym c.in_default.is ∙ c.listed.ensures c.args.own.now.view r sound shown.kept) in
    subst (ShowsRoot c.add_span.new.own.view c.add_span.new.self) (sym (ap (λ o. found_root o r) none))
    (c.add_span.ensures.shown r sound shown)
