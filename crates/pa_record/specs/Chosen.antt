-- In a sound root the turns determine one span: the one that has the greatest of those that pass a test, or the least.
use Rattle.std.specs.Prelude.{◌≡◌, Bool, true, false, Some, Contains}
use Rattle.pa_buckets.specs.declared.spans.State.TheVariants as state
use Rattle.pa_record.specs.Spans.{Span, is_in, latest, earliest}
use Rattle.pa_record.specs.Root.{Root}
use Rattle.pa_record.specs.Sound.{IsSound}
use Rattle.pa_record.specs.Steps.{IsLatest, IsEarliest}

-- only spans that entered a state pass the test
abbrev pub TestsUsed : (Span → Bool) → Root → Type 0
TestsUsed test r = (s : Span) → Contains r.spans s → test s ≡ true → is_in state.None s ≡ false

-- A span that passes and has the greatest turn of those that pass is the one that `latest` chooses. A span that passes and has
-- the least turn is the one that `earliest` chooses.
pub record OneIsChosen : Type 0 where
  pub latest : (test : Span → Bool) (r : Root) (s : Span) → IsSound r → TestsUsed test r → IsLatest test r.spans s →
      latest test r.spans ≡ Some s
  pub earliest : (test : Span → Bool) (r : Root) (s : Span) → IsSound r → TestsUsed test r → IsEarliest test r.spans s →
      earliest test r.spans ≡ Some s
