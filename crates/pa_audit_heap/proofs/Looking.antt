-- The record of a line.
use Rattle.std.proofs.Common.{◌≡◌, ℕ, List, get_or, Some, None, subst, arith, inl, inr}
use Rattle.std.specs.Prelude.{slice_get}
use Rattle.std.proofs.lemmas.Bool.{cases_order}
use Rattle.std.proofs.lemmas.Option.{slice_get-get_or}
use Rattle.pa_rules.specs.declared.played.Played.{Played}
use Rattle.pa_rules.specs.Rising.{RiseByLine}
use Rattle.pa_rules.proofs.Rising.{rises}
use Rattle.pa_audit_records.specs.Seeking.{IsOnLine, NoneOnLine}
use Rattle.pa_audit_records.proofs.Seeking.{line_is, line_within}
use Rattle.pa_audit_heap.specs.Ordered.{IsTheRecord}
use Rattle.pa_lists.proofs.Indexed.{in_at, one_at}

-- two records of a line have one index
one_place : (ps : List Played) (i j : ℕ) (x y : Played) → RiseByLine ps → slice_get ps i ≡ Some x →
    slice_get ps j ≡ Some y → y.line ≡ x.line → y ≡ x
one_place ps i j x y rising at at' same = elim (cases_order j i) [
  | inl here ↦ one_at ps i y x (subst (λ k. slice_get ps k ≡ Some y) here at') at
  | inr rest ↦ elim rest [
    | inl less ↦ let k = rises ps j i y x rising at' at less in absurd (omega (arith, k, same))
    | inr more ↦ let k = rises ps i j x y rising at at' more in absurd (omega (arith, k, same))
  ]
]

-- the record at the index of a record of the line is that record
pub found_there : (ps : List Played) (line i : ℕ) (d : Played) → RiseByLine ps → IsOnLine ps line i →
    IsTheRecord ps line (Some (get_or ps i d))
found_there ps line i d rising on =
    let (among, is) = line_is ps line i d on in
    let at = slice_get-get_or ps i d (line_within ps line i on) in (
      (among, is),
      λ y (among', is').
          let (j, at') = in_at ps y among' in
          one_place ps i j (get_or ps i d) y rising at at' (omega (arith, is, is')),
    )

pub none_there : (ps : List Played) (line : ℕ) → NoneOnLine ps line → IsTheRecord ps line None
none_there ps line none x (among, is) = let (i, at) = in_at ps x among in none i (x, at, is)
