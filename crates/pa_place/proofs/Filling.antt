-- Takes one after another.
use Rattle.std.proofs.Common.{◌≡◌, ℕ, suc, ◌+◌, ◌≤◌, List, [], ◌∷◌, ◌++◌, sym, ◌∙◌, ap, subst, arith, inl, inr, Option, Some, None, append_assoc}
use Rattle.std.proofs.lemmas.List.{append-nil}
use Rattle.std.specs.Prelude.{Contains, ◌<◌}
use Rattle.pa_slot.specs.declared.title.Title.{Title}
use Rattle.pa_record.specs.Root.{Root, Took, taken_from, one_take, Filled, and_then, takes}
use Rattle.pa_record.proofs.Filling.{take_cases}
use Rattle.pa_place.specs.Store.{IsReady}

-- a fill after some slots were taken
abbrev pub with_taken : List Title → Filled → Filled
with_taken titles f = record { root = f.root; titles = titles ++ f.titles }

abbrev pub filled_with : Root → List Title → Filled
filled_with r titles = record { root = r; titles = titles }

abbrev pub took_with : Root → Option Title → Took
took_with r title = record { root = r; title = title }

pub take_more : (class k : ℕ) (r next : Root) (titles : List Title) (t : Title) → one_take class r ≡ took_with next (Some t) →
    with_taken titles (takes class (suc k) r) ≡ with_taken (titles ++ t ∷ []) (takes class k next)
take_more class k r next titles t e =
    let f = takes class k next in
    ap (λ z. with_taken titles (and_then z (takes class k))) e
    ∙ ap (filled_with f.root) (sym (append_assoc titles (t ∷ []) f.titles))

pub take_none : (class k : ℕ) (r next : Root) (titles : List Title) → one_take class r ≡ took_with next None →
    with_taken titles (takes class (suc k) r) ≡ filled_with next titles
take_none class k r next titles e = ap (λ z. with_taken titles (and_then z (takes class k))) e ∙ ap (filled_with next) (append-nil titles)

pub take_all : (class : ℕ) (r : Root) (titles : List Title) → with_taken titles (takes class 0 r) ≡ filled_with r titles
take_all class r titles = ap (filled_with r) (append-nil titles)

-- a take leaves a root that is ready
pub record IsAfterTake (r next : Root) : Type 0 where
  pub ready : IsReady next
  pub turn : next.turn ≤ r.turn + 1

pub take_ready : (class : ℕ) (r next : Root) (o : Option Title) → IsReady r → class < 170 → one_take class r ≡ took_with next o →
    IsAfterTake r next
take_ready class r next o ready real e =
    let same : (one_take class r).root ≡ next = ap (λ (z : Took). z.root) e in
    elim (take_cases class r ready.sound real) [
      | inl none ↦
          let f : (one_take class r).root ≡ r = ap (λ z. (taken_from z r).root) none in
          subst (λ z. IsAfterTake r z) (sym f ∙ same) (record { ready = ready; turn = omega arith })
      | inr (some, g) ↦
          subst (λ z. IsAfterTake r z) same
          (record {
            ready = record { sound = g.sound; low = λ at among. ready.low at (subst (λ xs. Contains xs at) g.supers among) };
            turn = g.turn;
          })
    ]
