-- How many spans are empty after a move, and the next turn.
use Rattle.std.proofs.Common.{◌≡◌, ℕ, ◌+◌, ◌<◌, ◌≤◌, Bool, true, false, if◌then◌else◌, List, [], ◌∷◌, length, refl, sym, subst, arith, length-append}
use Rattle.pa_buckets.specs.declared.spans.State.{State}
use Rattle.pa_buckets.specs.declared.spans.State.TheVariants as state
use Rattle.pa_record.specs.Spans.{same_state}
use Rattle.pa_spans.specs.declared.span.Span.{Span}
use Rattle.pa_spans.specs.Lists.{SpanListParts, ring_without, ring_with, lists_without, lists_with, lists_entered}
use Rattle.pa_spans.proofs.Leaving.{turn_kept}
use Rattle.pa_spans.proofs.Rings.{ring_shrinks}
use Rattle.pa_test_spans.specs.Table.{IsTableKept}

longer : (at : ℕ) (a : State) (ring : List ℕ) → length ring ≤ 17 → (a ≡ state.Empty → length ring < 17) → length (ring_with at a ring) ≤ 17
longer at state.Empty ring few room = let n = length-append ring (at ∷ []) in let m = room refl in omega arith
longer at a ring few room = few

pub few_after : (at : ℕ) (to : State) (l : SpanListParts) (s : Span) → length l.ring ≤ 17 → (to ≡ state.Empty → length l.ring < 17) →
    length (lists_entered at to l s).ring ≤ 17
few_after at to l s few room = go (same_state s.state to)
  where
    go : (b : Bool) → length (if b then l else lists_with at s.class to (lists_without at s l)).ring ≤ 17
    go true = few
    go false =
        let less = ring_shrinks at s.state l.ring in
        longer at to (ring_without at s.state l.ring) (omega arith) (λ e. let m = room e in omega arith)

pub turn_after : (at : ℕ) (to : State) (l : SpanListParts) (s : Span) → (lists_entered at to l s).turn ≤ l.turn + 1
turn_after at to l s = go (same_state s.state to)
  where
    go : (b : Bool) → (if b then l else lists_with at s.class to (lists_without at s l)).turn ≤ l.turn + 1
    go true = omega arith
    go false = let e = turn_kept at s l in omega arith

-- what is kept is kept for more moves
pub kept_more : (l m : SpanListParts) (spans others : List Span) (a b : ℕ) → m ≡ l → others ≡ spans → a ≤ b →
    IsTableKept l spans a → IsTableKept m others b
kept_more l m spans others a b lists table less kept =
    let more : IsTableKept l spans b = record { stand = kept.stand; few = kept.few; turn = let t = kept.turn in omega arith } in
    subst (λ z. IsTableKept z others b) (sym lists) (subst (λ z. IsTableKept l z b) (sym table) more)
