-- The span with the greatest turn, or the least, is the one that is chosen.
use Rattle.std.proofs.Common.{◌≡◌, Bool, true, refl, ap, arith, inl, inr, Option, Some, None}
use Rattle.std.specs.Prelude.{Contains}
use Rattle.std.proofs.lemmas.Bool.{cases_Bool, both_ways}
use Rattle.pa_record.specs.Spans.{Span, latest, earliest, same_place}
use Rattle.pa_record.specs.Root.{Root}
use Rattle.pa_record.specs.Sound.{IsSound}
use Rattle.pa_record.specs.Steps.{IsLatest, IsEarliest}
use Rattle.pa_record.specs.Chosen.{TestsUsed, OneIsChosen}
use Rattle.pa_record.proofs.Places.{one_span}
use Rattle.pa_record.proofs.Choice.{latest_is, latest_none, earliest_is, earliest_none}

-- two spans that pass and have one turn are one
pub one_turn : (test : Span → Bool) (r : Root) (s t : Span) → IsSound r → TestsUsed test r → Contains r.spans s → Contains r.spans t →
    test s ≡ true → test t ≡ true →
    s.turn ≡ t.turn → s ≡ t
one_turn test r s t sound used first second passes passes' same = elim (cases_Bool (same_place s t)) [
  | inl here ↦ one_span s t r.spans sound.places first second here
  | inr far ↦ absurd (sound.order s t first second far (used s first passes) (used t second passes') same)
]

latest_by : (test : Span → Bool) (r : Root) (s : Span) (o : Option Span) → IsSound r → TestsUsed test r → IsLatest test r.spans s →
    latest test r.spans ≡ o → o ≡ Some s
latest_by test r s None sound used h e = absurd (both_ways _ (latest_none test r.spans e s h.among) h.passes)
latest_by test r s (Some t) sound used h e =
    let k = latest_is test r.spans t e in
    let up = k.most s h.among h.passes in
    let down = h.most t k.among k.passes in
    ap Some (one_turn test r t s sound used k.among h.among k.passes h.passes (omega arith))

pub is_latest : (test : Span → Bool) (r : Root) (s : Span) → IsSound r → TestsUsed test r → IsLatest test r.spans s →
    latest test r.spans ≡ Some s
is_latest test r s sound used h = latest_by test r s (latest test r.spans) sound used h refl

earliest_by : (test : Span → Bool) (r : Root) (s : Span) (o : Option Span) → IsSound r → TestsUsed test r → IsEarliest test r.spans s →
    earliest test r.spans ≡ o → o ≡ Some s
earliest_by test r s None sound used h e = absurd (both_ways _ (earliest_none test r.spans e s h.among) h.passes)
earliest_by test r s (Some t) sound used h e =
    let k = earliest_is test r.spans t e in
    let down = k.least s h.among h.passes in
    let up = h.least t k.among k.passes in
    ap Some (one_turn test r t s sound used k.among h.among k.passes h.passes (omega arith))

pub is_earliest : (test : Span → Bool) (r : Root) (s : Span) → IsSound r → TestsUsed test r → IsEarliest test r.spans s →
    earliest test r.spans ≡ Some s
is_earliest test r s sound used h = earliest_by test r s (earliest test r.spans) sound used h refl

pub one_is_chosen : OneIsChosen
one_is_chosen = record { latest = is_latest; earliest = is_earliest }
