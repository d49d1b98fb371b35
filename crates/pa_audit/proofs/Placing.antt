-- The order of the places is that of their lines, and from the first place of a clause to the first line at which it fails.
use Rattle.std.proofs.Common.{◌≡◌, ℕ, ◌+◌, ◌<◌, ◌≤◌, ◌⊎◌, List, [], length, get_or, take, Option, Some, None, refl, ap, subst, arith, inl, inr}
use Rattle.std.specs.Prelude.{IfSome, sum_by}
use Rattle.std.specs.Option.{option_map}
use Rattle.std.proofs.lemmas.Bool.{cases_lt, cases_order}
use Rattle.std.proofs.lemmas.List.{get_or_past, take-take}
use Rattle.std.proofs.lemmas.List.Sums.{sum_by_more, sum_by_more_le, sum_by-take-le}
use Rattle.pa_trace.specs.declared.script.Trace.{Trace}
use Rattle.pa_record.specs.declared.run.Run.{Run}
use Rattle.pa_rules.specs.declared.verdict.Clause.{Clause}
use Rattle.pa_rules.specs.declared.verdict.Place.{Place}
use Rattle.pa_rules.specs.declared.verdict.Place.TheVariants as places
use Rattle.pa_rules.specs.Places.{line_at}
use Rattle.pa_rules.specs.RecordDemands.{IsAbove}
use Rattle.pa_rules.specs.Told.{told_by}
use Rattle.pa_rules.specs.Verdicts.{Demand}
use Rattle.pa_audit.specs.Lined.{TellsLine}
use Rattle.pa_audit.specs.Placed.{IsThere, Precedes, TellsPlace}

-- ---- places in lists one after the other

-- the list of a place is there
pub list_there : {A : Type 0} (xs : List (List A)) (p j : ℕ) → j < length (get_or xs p []) → p < length xs
list_there xs p j less = elim (cases_lt p (length xs)) [
  | inl there ↦ there
  | inr past ↦ let none = ap length (get_or_past xs p [] past) in absurd (omega (arith, none, less))
]

-- the members before a member of one of the lists are less than all members of the lists
pub within_all : {A : Type 0} (xs : List (List A)) (p j : ℕ) → j < length (get_or xs p []) →
    sum_by length (take p xs) + j < sum_by length xs
within_all xs p j less = let most = sum_by_more_le length xs p [] (list_there xs p j less) in omega (arith, most, less)

sum_up : {A : Type 0} (xs : List (List A)) (p q : ℕ) → p ≤ q → sum_by length (take p xs) ≤ sum_by length (take q xs)
sum_up xs p q less =
    subst (λ zs. sum_by length zs ≤ sum_by length (take q xs)) (take-take p q xs less) (sum_by-take-le length (take q xs) p)

-- what is on a lower line comes above
pub above_at : {A : Type 0} (xs : List (List A)) (q i p j : ℕ) → i < length (get_or xs q []) → j < length (get_or xs p []) →
    sum_by length (take q xs) + i < sum_by length (take p xs) + j → IsAbove q i p j
above_at xs q i p j there there' less = elim (cases_order q p) [
  | inl same ↦
      let sums : sum_by length (take q xs) ≡ sum_by length (take p xs) = ap (λ n. sum_by length (take n xs)) same in
      inr (same, omega (arith, sums, less))
  | inr rest ↦ elim rest [
    | inl below ↦ inl below
    | inr above ↦
        let more = sum_by_more length xs p [] (list_there xs p j there') in
        let up = sum_up xs (p + 1) q (omega (arith, above)) in
        absurd (omega (arith, more, up, less, there'))
  ]
]

-- ---- the order of the places

pub line_order : (r : Run) (a b : Place) → IsThere r a → IsThere r b → line_at r a < line_at r b → Precedes a b
line_order r (places.Record i) (places.Record j) a b less = omega (arith, less)
line_order r (places.Record i) (places.Root p j) a b less = tt
line_order r (places.Record i) (places.Pool j) a b less = tt
line_order r (places.Record i) (places.Cell p j) a b less = tt
line_order r (places.Record i) (places.Report j) a b less = tt
line_order r (places.Root q i) (places.Record j) a b less = absurd (omega (arith, less, b))
line_order r (places.Root q i) (places.Root p j) a b less = above_at r.roots.items q i p j a b (omega (arith, less))
line_order r (places.Root q i) (places.Pool j) a b less = tt
line_order r (places.Root q i) (places.Cell p j) a b less = tt
line_order r (places.Root q i) (places.Report j) a b less = tt
line_order r (places.Pool i) (places.Record j) a b less = absurd (omega (arith, less, b))
line_order r (places.Pool i) (places.Root p j) a b less = let bound = within_all r.roots.items p j b in
    absurd (omega (arith, less, b, bound))
line_order r (places.Pool i) (places.Pool j) a b less = omega (arith, less)
line_order r (places.Pool i) (places.Cell p j) a b less = tt
line_order r (places.Pool i) (places.Report j) a b less = tt
line_order r (places.Cell q i) (places.Record j) a b less = absurd (omega (arith, less, b))
line_order r (places.Cell q i) (places.Root p j) a b less = let bound = within_all r.roots.items p j b in
    absurd (omega (arith, less, b, bound))
line_order r (places.Cell q i) (places.Pool j) a b less = absurd (omega (arith, less, b))
line_order r (places.Cell q i) (places.Cell p j) a b less = above_at r.cells.items q i p j a b (omega (arith, less))
line_order r (places.Cell q i) (places.Report j) a b less = tt
line_order r (places.Report i) (places.Record j) a b less = absurd (omega (arith, less, b))
line_order r (places.Report i) (places.Root p j) a b less = let bound = within_all r.roots.items p j b in
    absurd (omega (arith, less, b, bound))
line_order r (places.Report i) (places.Pool j) a b less = absurd (omega (arith, less, b))
line_order r (places.Report i) (places.Cell p j) a b less = let bound = within_all r.cells.items p j b in
    absurd (omega (arith, less, b, bound))
line_order r (places.Report i) (places.Report j) a b less = omega (arith, less)

below_or : (i n : ℕ) → (i < n) ⊎ (i < n → ⊥)
below_or i n = elim (cases_lt i n) [ inl less ↦ inl less | inr past ↦ inr (λ less. absurd (omega (arith, past, less))) ]

there_or : (r : Run) (place : Place) → IsThere r place ⊎ (IsThere r place → ⊥)
there_or r (places.Record i) = below_or i (length r.entries.items)
there_or r (places.Root p j) = below_or j (length (get_or r.roots.items p []))
there_or r (places.Pool j) = below_or j (length r.pool.items)
there_or r (places.Cell k j) = below_or j (length (get_or r.cells.items k []))
there_or r (places.Report i) = elim (cases_lt (length r.report.items) i) [
  | inl past ↦ inr (λ there. absurd (omega (arith, past, there)))
  | inr there ↦ inl there
]

-- ---- lines

-- of places that aren't there the clause asks for nothing
abbrev pub AsksThere : Clause → Trace → Run → Type 0
AsksThere c t r = (place : Place) → (IsThere r place → ⊥) → Demand c t (told_by r) place

pub place_there : (c : Clause) (t : Trace) (r : Run) (o : Option Place) → AsksThere c t r →
    TellsPlace (Demand c t (told_by r)) o → IfSome o (IsThere r)
place_there c t r None rest tells = tt
place_there c t r (Some place) rest (unmet, before) =
    elim (there_or r place) [ inl there ↦ there | inr none ↦ absurd (unmet (rest place none)) ]

pub place_told : (c : Clause) (t : Trace) (r : Run) (o : Option Place) → AsksThere c t r → TellsPlace (Demand c t (told_by r)) o →
    TellsLine c t r (option_map (line_at r) o)
place_told c t r None rest tells = tells
place_told c t r (Some place) rest (unmet, before) =
    let here : IsThere r place = place_there c t r (Some place) rest (unmet, before) in
    record {
      place = place;
      line = refl;
      unmet = unmet;
      before = λ other less. elim (there_or r other) [
        | inl there ↦ before other (line_order r other place there here less)
        | inr none ↦
            rest other none
      ];
    }
