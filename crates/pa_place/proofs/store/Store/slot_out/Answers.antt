use Rattle.std.proofs.Common.{◌≡◌, ℕ, length, refl, sym, ◌∙◌, subst, Option, Some, None}
use Rattle.std.specs.Prelude.{find, IfNone, IfSome}
use Rattle.std.proofs.lemmas.Option.{slice_get_read}
use Rattle.pa_slot.specs.declared.title.Title.{Title}
use Rattle.pa_record.specs.Spans.{holds, number_in}
use Rattle.pa_record.specs.Root.{IsOutOf}
use Rattle.pa_place.specs.Store.{root_of}
use Rattle.pa_place.proofs.Looking.{holder_is, none_holds, not_out, slot_is_out}
use Rattle.pa_place.proofs.store.Store.slot_out.Goals as goal

pub returns-in_err-at-clause-none : goal.returns-in_err-at-clause-none
returns-in_err-at-clause-none c =
    let ss = c.args.self.now.spans.items in
    let found = rw c.deref.ensures.value at c.in_err-at.ensures in
    let none : find (holds c.args.name) ss ≡ None = sym found.holding in
    rw c.from_residual.ensures (none_holds (root_of c.args.self.now) c.args.name c.requires.ready none)

pub out-requires-clause-counted : goal.out-requires-clause-counted
out-requires-clause-counted c =
    let ss = c.args.self.now.spans.items in
    let s = c.index.result.now in
    let found = rw c.deref.ensures.value at c.in_ok-at.ensures in
    let here = slice_get_read ss (length ss) c.in_ok-at.at s refl found.within c.index.ensures in
    let held : find (holds c.args.name) ss ≡ Some s = sym found.holding ∙ here in
    (holder_is (root_of c.args.self.now) s c.args.name c.requires.ready held).counted

pub out-requires-clause-low : goal.out-requires-clause-low
out-requires-clause-low c =
    let ss = c.args.self.now.spans.items in
    let s = c.index.result.now in
    let found = rw c.deref.ensures.value at c.in_ok-at.ensures in
    let here = slice_get_read ss (length ss) c.in_ok-at.at s refl found.within c.index.ensures in
    let held : find (holds c.args.name) ss ≡ Some s = sym found.holding ∙ here in
    (holder_is (root_of c.args.self.now) s c.args.name c.requires.ready held).low

pub out-requires-clause-held : goal.out-requires-clause-held
out-requires-clause-held c =
    let ss = c.args.self.now.spans.items in
    let s = c.index.result.now in
    let found = rw c.deref.ensures.value at c.in_ok-at.ensures in
    let here = slice_get_read ss (length ss) c.in_ok-at.at s refl found.within c.index.ensures in
    let held : find (holds c.args.name) ss ≡ Some s = sym found.holding ∙ here in
    (holder_is (root_of c.args.self.now) s c.args.name c.requires.ready held).held

pub returns-clause-none : goal.returns-clause-none
returns-clause-none c =
    let ss = c.args.self.now.spans.items in
    let s = c.index.result.now in
    let found = rw c.deref.ensures.value at c.in_ok-at.ensures in
    let here = slice_get_read ss (length ss) c.in_ok-at.at s refl found.within c.index.ensures in
    let held : find (holds c.args.name) ss ≡ Some s = sym found.holding ∙ here in
    by_cases c.out.result (λ e. not_out (root_of c.args.self.now) s c.args.name c.requires.ready held
    (subst (λ o. IfNone o ((n : ℕ) → IsOutOf s c.args.name n → ⊥)) e c.out.ensures.none))
  where
    by_cases : {P : Type 0} (o : Option Title) → (o ≡ None → P) → IfNone o P
    by_cases None h = h refl
    by_cases (Some t) h = tt

pub returns-clause-some : goal.returns-clause-some
returns-clause-some c =
    let ss = c.args.self.now.spans.items in
    let s = c.index.result.now in
    let found = rw c.deref.ensures.value at c.in_ok-at.ensures in
    let here = slice_get_read ss (length ss) c.in_ok-at.at s refl found.within c.index.ensures in
    let held : find (holds c.args.name) ss ≡ Some s = sym found.holding ∙ here in
    let among = (holder_is (root_of c.args.self.now) s c.args.name c.requires.ready held).among in
    by_title c.out.result c.out.ensures.some
    (λ t h. slot_is_out (root_of c.args.self.now) s t c.args.name (number_in s c.args.name) among h.0 h.1)
  where
    by_title : {P Q : Title → Type 0} (o : Option Title) → IfSome o P → ((t : Title) → P t → Q t) → IfSome o Q
    by_title None p f = tt
    by_title (Some t) p f = f t p

pub index_holding-requires : goal.index_holding-requires
index_holding-requires c = rw c.deref.ensures.value (record { order = c.requires.ordered.spans })
