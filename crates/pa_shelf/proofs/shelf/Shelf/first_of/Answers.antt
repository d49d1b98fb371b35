use Rattle.std.proofs.Common.{◌∙◌, refl, sym, subst, ap}
use Rattle.std.specs.Prelude.{◌≢◌, AllPairs, Contains}
use Rattle.pa_slot.specs.declared.title.Title.{Title}
use Rattle.pa_record.specs.declared.taken.SuperPage.{SuperPage}
use Rattle.pa_shelf.specs.Shelves.{ShelfParts}
use Rattle.pa_shelf.proofs.Provisioning.{first_is}
use Rattle.pa_shelf.proofs.shelf.Shelf.first_of.Goals as goal

pub returns : goal.returns
returns c v r s b read =
    let l = c.args.self.now in
    let t : Title = record { start = c.args.at; len = c.slot_size.result; born = c.born_in.result } in
    let same = sym (c.deref.ensures.value ∙ ap (λ (p : ShelfParts). p.supers) c.self.view_is) in
    first_is v l c.args.at r s c.args.span.now t c.super_page_of.result b read refl c.slot_size.ensures.size c.super_page_of.ensures.page
    (λ a apart among number. c.born_in.ensures a (subst (AllPairs (λ (x y : SuperPage). x.number ≢ y.number)) same apart)
    (subst (λ zs. Contains zs a) same among) number)
