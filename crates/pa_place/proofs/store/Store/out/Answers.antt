use Rattle.std.proofs.Common.{◌≡◌, true, get_or, sym, subst, Some, None}
use Rattle.std.specs.Prelude.{position, Contains}
use Rattle.std.proofs.lemmas.Bool.{both_ways}
use Rattle.std.proofs.lemmas.List.Elements.{Contains-get_or}
use Rattle.std.proofs.lemmas.List.Quantifiers.{position-Some}
use Rattle.pa_record.specs.Root.{IsOut}
use Rattle.pa_place.specs.Store.{root_of}
use Rattle.pa_place.proofs.Removing.{is_named, none_passes, named_tells, named_from}
use Rattle.pa_place.proofs.Looking.{name_out}
use Rattle.pa_place.proofs.store.Store.out.Goals as goal

pub returns-in_err-at-clause-none : goal.returns-in_err-at-clause-none
returns-in_err-at-clause-none c =
    let r = root_of c.args.self.now in
    let name = c.args.name in
    let none : position (is_named name) r.maps ≡ None = sym (rw c.deref.ensures.value at c.in_err-at.ensures) in
    let away : IsOut r name → ⊥ = c.in_default.ensures.none in
    rw c.from_residual.ensures (λ t out same.
    both_ways _ (none_passes (is_named name) r.maps t none (name_out r t name out same away)) (named_from name t same))

pub returns-clause-some : goal.returns-clause-some
returns-clause-some c =
    let r = root_of c.args.self.now in
    let name = c.args.name in
    let t = c.index.result.now in
    let at = c.in_ok-at.at in
    let found : position (is_named name) r.maps ≡ Some at = sym (rw c.deref.ensures.value at c.in_ok-at.ensures) in
    let (within, passes, first) = position-Some (is_named name) r.maps at t found in
    let same : t ≡ get_or r.maps at t = c.index.ensures in (
      subst (λ z. Contains r.maps z) (sym same) (Contains-get_or r.maps at t within),
      named_tells name t (subst (λ z. is_named name z ≡ true) (sym same) passes),
    )
