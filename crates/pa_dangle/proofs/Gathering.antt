-- The pairs as they are gathered, and put in order.
use Rattle.std.proofs.Common.{◌≡◌, ℕ, ◌+◌, ◌<◌, ◌≤◌, List, [], ◌∷◌, ◌++◌, get_or, length, Some, cond, refl, sym, ◌∙◌, ap, subst, arith, inl, inr}
use Rattle.std.specs.Prelude.{All, Contains, AllPairs, filter, ◌==◌}
use Rattle.std.specs.List.Sorted.{IsPermutation, IsNonDecreasingBy}
use Rattle.std.proofs.lemmas.Bool.{cases_lt, cases_eq, eq-eqb, ne_eqb}
use Rattle.std.proofs.lemmas.List.Elements.{All-contains, Contains-get_or, Contains-push_cases, Contains-push, Contains-append_left}
use Rattle.std.proofs.lemmas.List.Sorted.{Contains-permutation, IsPermutation-sym, sum_by-IsPermutation}
use Rattle.std.proofs.lemmas.List.Sums.{sum_by-cons}
use Rattle.pa_lists.proofs.Members.{of_some, first_in, later_in}
use Rattle.pa_lists.proofs.Indexed.{in_at, at_in, here_is}
use Rattle.pa_lists.proofs.Pairs.{pairs_tail, pairs_head, pairs_push}
use Rattle.pa_slot.specs.Run.{Mark, IsQuarantined, Slots}
use Rattle.pa_record.specs.declared.history.CellEntry.{CellEntry}
use Rattle.pa_rules.specs.declared.played.Played.{Played}
use Rattle.pa_rules.specs.Played.{mark_of, marks_of}
use Rattle.pa_rules.specs.Rising.{RiseByLine}
use Rattle.pa_rules.proofs.Rising.{rises}
use Rattle.pa_rules.proofs.Running.{mark_from}
use Rattle.pa_dangle.specs.declared.found.Pair.{Pair}
use Rattle.pa_dangle.specs.Collected.{AreCollected, IsNoUse, IsPairFrom, rank_of}
use Rattle.pa_dangle.specs.Pairs.{AreFound, IsPairOf, StandsAbove, keeps_slot, uses_on}
use Rattle.pa_dangle.proofs.Coupling.{own_lines}
use Rattle.pa_dangle.proofs.Finding.{at_here}
use Rattle.pa_dangle.proofs.Pairing.{used_quarantined, uses_are_paired}
use Rattle.pa_dangle.proofs.Tracing.{place_below}

abbrev Cells : Type 0
Cells = ℕ → List CellEntry

pub collected_skip : (cells : Cells) (ps : List Played) (pairs : List Pair) (k : ℕ) (d : Played) → k < length ps →
    ((m : Mark) → mark_of (get_or ps k d) ≡ Some m → IsQuarantined m.found
    → ⊥) → AreCollected cells ps pairs k → AreCollected cells ps pairs (k + 1)
collected_skip cells ps pairs k d below none h = record {
  each = λ p among. let (i, x, less, at, from) = h.each p among in (i, x, omega (arith, less), at, from);
  whole = λ i x m less at mark q. elim (cases_lt i k) [
    | inl early ↦ h.whole i x m early at mark q
    | inr late ↦
        let one = at_here ps k i d x below (omega (arith, less, late)) at in
        absurd (none m (ap mark_of one ∙ mark) q)
  ];
  rise = h.rise;
}

-- if no record is a use, there are no pairs
pub collected_none : (cells : Cells) (ps : List Played) (pairs : List Pair) → pairs ≡ [] → All IsNoUse ps →
    AreCollected cells ps pairs (length ps)
collected_none cells ps pairs none h = rw none (record {
  each = λ p among. absurd (omega (arith, among.1));
  whole = λ i x m less at mark q. absurd (All-contains IsNoUse ps x h (at_in ps i x at) m mark q);
  rise = λ i j d less below. absurd (omega (arith, below));
})

pub collected_push : (cells : Cells) (ps : List Played) (pairs : List Pair) (k : ℕ) (d : Played) (p : Pair) → RiseByLine ps →
    k < length ps → IsPairFrom cells ps (get_or ps k d) p
    → AreCollected cells ps pairs k → AreCollected cells ps (pairs ++ p ∷ []) (k + 1)
collected_push cells ps pairs k d p rising below from h =
    let here = here_is ps k d below in
    record {
      each = λ q among. elim (Contains-push_cases pairs p q among) [
        | inl old ↦ let (i, x, less, at, is) = h.each q old in (i, x, omega (arith, less), at, is)
        | inr same ↦ (k, get_or ps k d, omega arith, here, subst (IsPairFrom cells ps (get_or ps k d)) same from)
      ];
      whole = λ i x m less at mark q. elim (cases_lt i k) [
        | inl early ↦ let (r, among, is) = h.whole i x m early at mark q in (r, Contains-append_left pairs (p ∷ []) r among, is)
        | inr late ↦
            let one = at_here ps k i d x below (omega (arith, less, late)) at in
            (p, Contains-push pairs p, subst (λ (z : Played). IsPairFrom cells ps z p) one from)
      ];
      rise = pairs_push (λ (a b : Pair). a.later < b.later) pairs p h.rise (λ q among.
          let (i, x, less, at, is) = h.each q among in
          let up = rises ps i k x (get_or ps k d) rising at here less in
          let low = is.later in
          let high = from.later in
          omega (arith, up, low, high));
    }

-- ---- each use once

abbrev on_line : ℕ → Pair → ℕ
on_line line p = cond (p.later == line) 1 0

uses_none : (line : ℕ) (ps : List Pair) → ((p : Pair) → Contains ps p → line < p.later) → uses_on line ps ≡ 0
uses_none line [] above = refl
uses_none line (p ∷ ps) above =
    let rest = uses_none line ps (λ q among. above q (later_in p q ps among)) in
    let more = above p (first_in p ps) in
    let off : on_line line p ≡ 0 = rw (ne_eqb p.later line (λ e. omega (arith, e, more))) refl in
    let sum = sum_by-cons (on_line line) p ps in
    omega (arith, rest, off, sum)

uses_once : (line : ℕ) (ps : List Pair) → AllPairs (λ (a b : Pair). a.later < b.later) ps → uses_on line ps ≤ 1
uses_once line [] rise = let none : uses_on line [] ≡ 0 = refl in omega (arith, none)
uses_once line (p ∷ ps) rise =
    let sum = sum_by-cons (on_line line) p ps in
    elim (cases_eq p.later line) [
      | inl same ↦
          let rest = uses_none line ps (λ q among. let up =
          pairs_head (λ (a b : Pair). a.later < b.later) p q ps rise among in omega (arith, up, same)) in
          let on : on_line line p ≡ 1 = rw (eq-eqb p.later line same) refl in
          omega (arith, rest, on, sum)
      | inr other ↦
          let rest = uses_once line ps (pairs_tail (λ (a b : Pair). a.later < b.later) p ps rise) in
          let off : on_line line p ≡ 0 = rw (ne_eqb p.later line other) refl in
          omega (arith, rest, off, sum)
    ]

-- ---- in order

stands_above : (p q : Pair) → p.later < 4294967296 → q.later < 4294967296 → rank_of p ≤ rank_of q → StandsAbove p q
stands_above p q a b most = elim (cases_lt p.free q.free) [
  | inl less ↦ inl less
  | inr not ↦ inr (omega (arith, a, b, most, not), omega (arith, a, b, most, not))
]

pub found_is : (cells : Cells) (ps : List Played) (pairs sorted : List Pair) (count : ℕ) → RiseByLine ps → Slots (marks_of ps) →
    AreCollected cells ps pairs (length ps)
    → IsPermutation pairs sorted → IsNonDecreasingBy rank_of sorted
    → count ≡ length (filter (λ (x : Played). keeps_slot x.op x.answer) ps) → AreFound cells ps sorted count
found_is cells ps pairs sorted count rising slots h permuted order freed =
    let short : (p : Pair) → Contains sorted p → p.later < 4294967296 = λ p among.
    let (i, x, less, at, from) =
    h.each p (Contains-permutation sorted pairs p (IsPermutation-sym pairs sorted permuted) among) in from.short in
    record {
      each = λ p among.
          let (i, x, less, at, from) = h.each p (Contains-permutation sorted pairs p (IsPermutation-sym pairs sorted permuted) among) in
          (from.free, from.use_mark, from.pair);
      whole = λ f u is.
          let lines = own_lines ps rising in
          let q = used_quarantined (marks_of ps) f u slots lines is in
          let (x, member, mark) = mark_from ps u is.used in
          let (i, at) = in_at ps x member in
          let (p, among, from) = h.whole i x u (place_below ps i x at) at mark q in
          let use_is : from.use_mark ≡ u = of_some from.use_mark u (sym from.mark ∙ mark) in
          let pair : IsPairOf cells ps from.free u p = subst (λ (z : Mark). IsPairOf cells ps from.free z p) use_is from.pair in
          let free_is : from.free ≡ f = uses_are_paired.one (marks_of ps) from.free f u slots lines pair.uses is in
          (p, Contains-permutation pairs sorted p permuted among, subst (λ (z : Mark). IsPairOf cells ps z u p) free_is pair);
      order = λ i j d less below.
          stands_above (get_or sorted i d) (get_or sorted j d)
          (short (get_or sorted i d) (Contains-get_or sorted i d (omega (arith, less, below))))
          (short (get_or sorted j d) (Contains-get_or sorted j d below)) (order i j d (omega (arith, less)) below);
      once = λ line.
          let most = uses_once line pairs h.rise in
          let same = sum_by-IsPermutation (on_line line) pairs sorted permuted in
          omega (arith, most, same);
      freed = freed;
    }
