-- The record on a line, found where the lines of those before it end.
use Rattle.std.proofs.Common.{◌≡◌, ℕ, ◌<◌, List, get_or, length, true, false, ltb, sym, ap, subst, arith, inl, inr}
use Rattle.std.specs.Prelude.{Contains}
use Rattle.std.specs.List.Sorted.{IsNonDecreasingBy, IsPartitionedBy, IsPartitionPoint}
use Rattle.std.proofs.lemmas.Bool.{cases_lt, ltb-true, ltb-false}
use Rattle.std.proofs.lemmas.List.Sorted.{IsPartitionedBy-ltb}
use Rattle.std.proofs.lemmas.Option.{slice_get_within, get_or_from_slice_get}
use Rattle.pa_rules.specs.declared.played.Played.{Played}
use Rattle.pa_rules.specs.Rising.{RiseByLine}
use Rattle.pa_rules.proofs.Rising.{rises}
use Rattle.pa_lists.proofs.Indexed.{at_in, in_at, here_is}
use Rattle.pa_audit_records.specs.Seeking.{IsOnLine, NoneOnLine}

in_order : (ps : List Played) → RiseByLine ps → IsNonDecreasingBy (λ x. x.line) ps
in_order ps rising i j d order below = elim (cases_lt i j) [
  | inl less ↦ let more : (get_or ps i d).line < (get_or ps j d).line = rising i j d less below in omega (arith, more)
  | inr most ↦ let same : i ≡ j = omega (arith, order, most) in omega (arith, ap (λ k. (get_or ps k d).line) same)
]

-- the records of lower lines come before the others
pub lines_parted : (ps : List Played) (line : ℕ) → RiseByLine ps → IsPartitionedBy (λ x. ltb x.line line) ps
lines_parted ps line rising = IsPartitionedBy-ltb (λ x. x.line) ps line (in_order ps rising)

-- the line's record is where they end, or there is none
pub seek_none : (ps : List Played) (line at : ℕ) → RiseByLine ps →
    IsPartitionPoint (λ x. ltb x.line line ≡ true) (λ x. ltb x.line line ≡ false) ps at → (IsOnLine ps line at → ⊥) → NoneOnLine ps line
seek_none ps line at rising (before, behind) other i (x, here, mine) =
    let below : i < length ps = slice_get_within ps i x here in
    let one : get_or ps i x ≡ x = get_or_from_slice_get ps i x x here in
    elim (cases_lt i at) [
      | inl less ↦
          let low : x.line < line = subst (λ (z : Played). z.line < line) one (ltb-true _ _ (before i x (omega arith) less)) in
          omega (arith, low, mine)
      | inr most ↦ elim (cases_lt at i) [
        | inl less ↦
            let first = get_or ps at x in
            let within : at < length ps = omega (arith, less, below) in
            let high = ltb-false first.line line (behind at x (omega arith) within) in
            let more : first.line < x.line = rises ps at i first x rising (here_is ps at x within) here less in
            omega (arith, high, more, mine)
        | inr least ↦
            let same : i ≡ at = omega (arith, most, least) in
            other (subst (IsOnLine ps line) same (x, here, mine))
      ]
    ]

-- ---- what is known of it

pub line_within : (ps : List Played) (line i : ℕ) → IsOnLine ps line i → i < length ps
line_within ps line i (x, here, mine) = slice_get_within ps i x here

pub line_is : (ps : List Played) (line i : ℕ) (d : Played) → IsOnLine ps line i →
    Contains ps (get_or ps i d) × ((get_or ps i d).line ≡ line)
line_is ps line i d (x, here, mine) =
    subst (λ (z : Played). Contains ps z × (z.line ≡ line)) (sym (get_or_from_slice_get ps i x d here)) (at_in ps i x here, mine)

pub line_none : (ps : List Played) (line : ℕ) (x : Played) → NoneOnLine ps line → Contains ps x → x.line ≡ line → ⊥
line_none ps line x none among mine = let (i, here) = in_at ps x among in none i (x, here, mine)
