use Rattle.std.proofs.Common.{◌≡◌, ◌*◌, ◌∙◌, ap, refl, length, arith}
use Rattle.pa_trace.specs.Generated.{generated_lines}
use Rattle.pa_trace.proofs.Drawn.{drawn_length, round_more}
use Rattle.pa_trace.proofs.Generated.{generated_within}
use Rattle.pa_trace.proofs.generator.generate.Goals as goal

pub push_round-requires-clause-drawn : goal.push_round-requires-clause-drawn
push_round-requires-clause-drawn c =
    let many : length c.in_ok-words.words.items ≡ 32 * c.args.rounds = ap length c.in_ok-words.ensures ∙
    drawn_length (32 * c.args.rounds) _ in
    let same : length c.as_slice.result.now ≡ length c.in_ok-words.words.items = ap length c.as_slice.ensures.value in
    omega arith

pub loop-round-preserved : goal.loop-round-preserved
loop-round-preserved c =
    round_more c.in_ok-words.words.items c.as_slice.result.now c.loop-round.round c.loop-round.lines.items c.push_phase.new.lines.items
    c.push_round.new.lines.items
    c.as_slice.ensures.value c.loop-round.invariant c.in_ok-push_phase.ensures c.in_ok-push_round.ensures

pub returns-clause-limits : goal.returns-clause-limits
returns-clause-limits c =
    let words = c.in_ok-words.words.items in
    let all : c.loop-round.round ≡ c.args.rounds = omega arith in
    generated_within words c.args.rounds _ c.requires.some c.requires.few (record {
      version = refl;
      region = refl;
      partitions = refl;
      threads = refl;
      plain = refl;
      lines = c.of.ensures ∙ c.loop-round.invariant ∙ ap (generated_lines words) all;
    })
