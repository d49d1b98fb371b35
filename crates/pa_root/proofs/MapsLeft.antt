-- Direct maps of a root: where they are, and those that are left when one goes.
use Rattle.std.proofs.Common.{◌≡◌, ◌&&◌, List, [], ◌∷◌, sym, ◌∙◌, ap, subst, inl, inr, eqb}
use Rattle.std.specs.Prelude.{◌≢◌, AllPairs, Contains}
use Rattle.std.proofs.lemmas.Bool.{cases_Bool, and_parts, and_from, eqb-true, eq-eqb, both_ways}
use Rattle.pa_slot.specs.declared.title.Title.{Title}
use Rattle.pa_record.specs.Spans.{name_of}
use Rattle.pa_record.specs.Root.{without_map}
use Rattle.pa_lists.proofs.Members.{not_in_none, in_cases}
use Rattle.pa_lists.proofs.Pairs.{pairs_head, pairs_tail}
use Rattle.pa_record.proofs.Owned.{journal_taken}
use Rattle.pa_root.specs.Reading.{pools_seen}
use Rattle.pa_root.specs.Unmapping.{MapsStandInRuns}

pub maps_are_taken : MapsStandInRuns
maps_are_taken p s t sound among =
    (journal_taken (pools_seen s.view) s.journal sound.journal.fits).maps t (subst (λ r. Contains r.maps t) sound.journal.replayed among)

-- the direct maps that are left are of other entries of the pool
pub others_left : (t u : Title) (ts : List Title) → AllPairs (λ (a : Title) (b : Title). a.born ≢ b.born) ts → Contains ts t →
    Contains (without_map (name_of t) ts) u → u.born ≢ t.born
others_left t u [] alone among left = absurd (not_in_none t among)
others_left t u (x ∷ xs) alone among left =
    let R : Title → Title → Type 0 = λ a b. a.born ≢ b.born in
    elim (cases_Bool (eqb x.start t.start && eqb x.born t.born)) [
      | inl same ↦
          let born : x.born ≡ t.born = eqb-true _ _ (and_parts _ _ same).1 in
          let rest : Contains xs u = rw same at left in
          λ e. pairs_head R x u xs alone rest (born ∙ sym e)
      | inr other ↦
          let rest : Contains (x ∷ without_map (name_of t) xs) u = rw other at left in
          elim (in_cases x t xs among) [
            | inl here ↦
                absurd (both_ways _ other
                (and_from _ _ (eq-eqb x.start t.start (ap (λ (z : Title). z.start) here))
                (eq-eqb x.born t.born (ap (λ (z : Title). z.born) here))))
            | inr later ↦ elim (in_cases x u (without_map (name_of t) xs) rest) [
              | inl is ↦ λ e. pairs_head R x t xs alone later (ap (λ (z : Title). z.born) is ∙ e)
              | inr deeper ↦ others_left t u xs (pairs_tail R x xs alone) later deeper
            ]
          ]
    ]

-- two of one entry of the pool are one
pub one_of_entry : (t u : Title) (ts : List Title) → AllPairs (λ (a : Title) (b : Title). a.born ≢ b.born) ts → Contains ts t →
    Contains ts u → t.born ≡ u.born → t ≡ u
one_of_entry t u [] alone among other same = absurd (not_in_none t among)
one_of_entry t u (x ∷ xs) alone among other same =
    let R : Title → Title → Type 0 = λ a b. a.born ≢ b.born in
    elim (in_cases x t xs among) [
      | inl here ↦ elim (in_cases x u xs other) [
        | inl there ↦ sym here ∙ there
        | inr later ↦ absurd (pairs_head R x u xs alone later (ap (λ (z : Title). z.born) here ∙ same))
      ]
      | inr deeper ↦ elim (in_cases x u xs other) [
        | inl there ↦ absurd (pairs_head R x t xs alone deeper (ap (λ (z : Title). z.born) there ∙ sym same))
        | inr later ↦ one_of_entry t u xs (pairs_tail R x xs alone) deeper later same
      ]
    ]
