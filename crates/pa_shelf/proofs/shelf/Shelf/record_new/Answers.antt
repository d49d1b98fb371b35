use Rattle.std.proofs.Common.{◌≡◌, ◌∙◌, ◌∷◌, ◌++◌, [], ℕ, refl, sym, subst, ap}
use Rattle.std.specs.Prelude.{◌↔◌}
use Rattle.pa_region.specs.Shares.{Share}
use Rattle.pa_spans.specs.Lists.{Stand, IsOutside}
use Rattle.pa_records.specs.Words.{spans_in}
use Rattle.pa_records.specs.Stored.{AreStored}
use Rattle.pa_meta.specs.Stores.{HasSpanAt}
use Rattle.pa_shelf.specs.contracts.shelf.Shelf
use Rattle.pa_shelf.specs.Shelves.{ShelfParts, StartsAtZero, RecordsRoot}
use Rattle.pa_shelf.proofs.Adding.{added_kept}
use Rattle.pa_shelf.proofs.Seats.{IsStoreOf, stored_at, has_alike, stands_in, stands_out, stored_alike, stored_back}
use Rattle.pa_shelf.proofs.shelf.Shelf.record_new.Goals as goal

pub record_in-requires-clause-stand : goal.record_in-requires-clause-stand
record_in-requires-clause-stand c =
    let x = c.args.own.now in let y = c.new-store.result.seat.now in
    let st = subst (λ (p : ShelfParts). Stand p.lists (spans_in x.view.words) (HasSpanAt x.view p.supers))
    (sym c.self.view_is) c.requires.stand in
    stands_in c.self.inside.lists x y c.new-store.result.region.now c.self.inside.supers.items c.new-store.result.supers.now
    (record {
      seat = c.new-store.ensures.seat;
      supers = c.new-store.ensures.supers ∙ c.deref.ensures.value;
      of_region = c.requires.region ∙ sym c.new-store.ensures.region;
    }) st

pub record_in-requires-clause-outside : goal.record_in-requires-clause-outside
record_in-requires-clause-outside c =
    subst (λ (z : Share). IsOutside (spans_in z.view.words c.args.at)) (sym c.new-store.ensures.seat) c.requires.outside

pub record_in-requires-clause-zero : goal.record_in-requires-clause-zero
record_in-requires-clause-zero c =
    subst (λ (z : Share). StartsAtZero (spans_in z.view.words c.args.at)) (sym c.new-store.ensures.seat) c.requires.zero

pub returns-clause-kept : goal.returns-clause-kept
returns-clause-kept c r t k added =
    let follows = c.record_in.ensures.follows in
    let y = c.record_in.new.store.seat.now in let b = c.new-store.result.seat.now in let a = c.args.own.now in
    let new = c.record_in.new.store in let old = c.new-store.result in
    let supers = c.self.inside.supers.items in let l = c.self.inside.lists in
    let is_old : IsStoreOf a b old.region.now supers old.supers.now = record {
      seat = c.new-store.ensures.seat;
      supers = c.new-store.ensures.supers ∙ c.deref.ensures.value;
      of_region = c.requires.region ∙ sym c.new-store.ensures.region;
    } in
    let is_new : IsStoreOf y y new.region.now supers new.supers.now = record {
      seat = refl;
      supers = follows.2 ∙ is_old.supers;
      of_region = follows.3 ∙ (ap (λ (z : Share). z.region) is_old.seat ∙ (is_old.of_region ∙ sym follows.1));
    } in
    let kept = subst (λ (p : ShelfParts). RecordsRoot a.view p r) (sym c.self.view_is) k in
    let both_old = has_alike a b old.region.now supers old.supers.now is_old in
    let both_new = has_alike y y new.region.now supers new.supers.now is_new in
    let same : (u : ℕ) → HasSpanAt y.view supers u ↔ HasSpanAt a.view supers u = λ u.
    let p = both_new u in let q = both_old u in
    let m = c.record_in.ensures.has u in (λ h. q.0 (m.0 (p.1 h)), λ h. p.0 (m.1 (q.1 h))) in
    let stored_before : AreStored (spans_in b.view.words) (stored_at b old.region.now old.supers.now) r.spans =
    stored_alike a b old.region.now supers old.supers.now is_old r.spans kept.stored in
    let stored_after = stored_back y y new.region.now supers new.supers.now is_new (r.spans ++ t ∷ [])
    (c.record_in.ensures.stored r.spans t stored_before added) in
    let before : (u : ℕ) → stored_at b old.region.now old.supers.now u → StartsAtZero (spans_in b.view.words u) = λ u h.
    subst (λ (z : Share). StartsAtZero (spans_in z.view.words u)) (sym is_old.seat) (kept.unused u ((both_old u).0 h)) in
    let unused : (u : ℕ) → HasSpanAt y.view supers u → StartsAtZero (spans_in y.view.words u) = λ u h.
    c.record_in.ensures.unused before u ((both_new u).1 h) in
    let stand = stands_out l y y new.region.now supers new.supers.now is_new c.record_in.ensures.stand in
    let done = added_kept a.view y.view (Shelf.the_view c.self.inside) r t kept same unused stand stored_after in
    let last : c.own-1.given.0 ≡ y = c.own-1.given.1 (sym (follows.0 ∙ c.new-store.ensures.same_reference)) in
    subst (λ (p : ShelfParts). RecordsRoot c.own-1.given.0.view p (record r { spans = r.spans ++ t ∷ [] })) c.self.view_is
    (subst (λ (z : Share). RecordsRoot z.view (Shelf.the_view c.self.inside) (record r { spans = r.spans ++ t ∷ [] })) (sym last) done)
