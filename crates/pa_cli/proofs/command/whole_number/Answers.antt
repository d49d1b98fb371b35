use Rattle.std.proofs.Common.{rules, ℕ, List, subst, string_bytes, IfNone}
use Rattle.pa_text.specs.Reading.{BeginsWith}
use Rattle.pa_cli.proofs.Words.{no_numeral, never_numeral}
use Rattle.pa_cli.proofs.command.whole_number.Goals as goal

pub returns-in_default-clause-none : goal.returns-in_default-clause-none
returns-in_default-clause-none c = λ n h le.
    let found = c.in-Some.ensures.found in
    no_numeral (string_bytes c.args.word.now) c.as_bytes.result.now c.in-Some.rest.now found.0 c.as_bytes.ensures.value found.1
    (λ e. search rules) n h

pub returns-in_default-2-clause-none : goal.returns-in_default-2-clause-none
returns-in_default-2-clause-none c = λ n h le.
    never_numeral (string_bytes c.args.word.now) c.as_bytes.result.now c.as_bytes.ensures.value
    (subst (λ r. IfNone r ((n : ℕ) (rest : List ℕ) → BeginsWith c.as_bytes.result.now n rest → ⊥)) c.in_default.is
    c.number_at.ensures.none) n h
