-- Entries in the order of their records: said of each two of them, and of each one and those before it.
use Rattle.std.proofs.Common.{◌≡◌, ℕ, ◌<◌, List, Some, sym, ◌∙◌, ap, subst, arith, inl, inr}
use Rattle.std.specs.Prelude.{Contains, AllPairs, slice_get, map}
use Rattle.std.proofs.lemmas.Bool.{cases_order}
use Rattle.pa_trace.specs.declared.script.Trace.{Trace}
use Rattle.pa_trace.specs.Rules.{rules_of}
use Rattle.pa_rules.specs.declared.played.Played.{Played}
use Rattle.pa_rules.specs.Told.{Told, records_of}
use Rattle.pa_rules.specs.Played.{AreDue}
use Rattle.pa_rules.specs.Order.{StandsBefore}
use Rattle.pa_rules.specs.RecordDemands.{ComesInOrder}
use Rattle.pa_rules.proofs.Running.{OtherRecord}
use Rattle.pa_rules.proofs.ByLines.{same_record}
use Rattle.pa_rules.proofs.Numbering.{lines_differ}
use Rattle.pa_rules.proofs.Recorded.{records_are_lines}
use Rattle.pa_lists.proofs.Indexed.{map_at, at_map, one_at}

-- if the records are those due, each has a line of its own
pub due_differ : (t : Trace) (r : Told) → AreDue (rules_of t) t.lines r.entries → AllPairs OtherRecord (records_of t r)
due_differ t r due = lines_differ (rules_of t) t.lines (records_of t r) (records_are_lines.lines (rules_of t) t.lines r.entries due)

-- a record doesn't come before itself
pub not_before : (x y : Played) → x ≡ y → StandsBefore x y → ⊥
not_before x y same (inl (thread, less)) = let e : x.line ≡ y.line = ap (λ (z : Played). z.line) same in omega arith
not_before x y same (inr less) = let e : x.phase ≡ y.phase = ap (λ (z : Played). z.phase) same in omega arith

-- the record x is of the line
abbrev pub IsAt : List Played → ℕ → Played → Type 0
IsAt ps line x = Contains ps x × (x.line ≡ line)

-- the entries of a list are in the order of their records
abbrev pub AreInOrder : {A : Type 0} → List Played → (A → ℕ) → List A → Type 0
AreInOrder {A} ps f xs =
    (i j : ℕ) (e g : A) (x y : Played) → slice_get xs i ≡ Some e → slice_get xs j ≡ Some g → IsAt ps (f e) x → IsAt ps (f g) y →
    StandsBefore x y → i < j

pub order_meets : {A : Type 0} (ps : List Played) (f : A → ℕ) (xs : List A) (j : ℕ) → AreInOrder ps f xs → ComesInOrder ps (map f xs) j
order_meets ps f xs j h i m n x y at at' less among is among' is' before =
    let (e, there, same) = map_at f xs i m at in
    let (g, there', same') = map_at f xs j n at' in
    let back = h j i g e y x there' there (among', is' ∙ sym same') (among, is ∙ sym same) before in
    omega arith

pub order_whole : {A : Type 0} (ps : List Played) (f : A → ℕ) (xs : List A) → AllPairs OtherRecord ps →
    ((j : ℕ) (e : A) → slice_get xs j ≡ Some e → ComesInOrder ps (map f xs) j)
    → AreInOrder ps f xs
order_whole ps f xs differ h i j e g x y at at' (among, is) (among', is') before = elim (cases_order i j) [
  | inl same ↦
      let one : e ≡ g = one_at xs j e g (subst (λ z. slice_get xs z ≡ Some e) same at) at' in
      absurd (not_before x y (same_record ps x y differ among among' (is ∙ ap f one ∙ sym is')) before)
  | inr rest ↦ elim rest [
    | inl less ↦ less
    | inr more ↦ absurd (h i e at j (f g) (f e) y x (at_map f xs j g at') (at_map f xs i e at) more among' is' among is before)
  ]
]
