use Rattle.std.proofs.Common.{rules, ◌≡◌, ℕ, List, [], sym, subst, string_bytes, Option, IfSome, IfNone, ◌≤◌}
use Rattle.pa_text.specs.Numeral.{IsNumeral}
use Rattle.pa_text.specs.Reading.{BeginsWith}
use Rattle.pa_cli.proofs.Words.{no_numeral, never_numeral}
use Rattle.pa_cli.proofs.Parsed.{key_found, key_none}
use Rattle.pa_cli.proofs.command.whole_key.Goals as goal

pub returns-in-Some-clause-found : goal.returns-in-Some-clause-found
returns-in-Some-clause-found c =
    let text = string_bytes c.args.word.now in
    let found = c.in-Some.ensures.found in
    let none : c.in-Some.rest.now ≡ [] = search rules in
    subst (λ (o : Option ℕ). IfSome o (λ n. IsNumeral n text)) (sym c.ok.ensures.value)
    (key_found text c.as_bytes.result.now c.as_str.result.now c.in-Some.rest.now found.0 c.parse.result c.as_bytes.ensures.value
    c.as_str.ensures.value found.1 none c.parse.ensures.value.0)

pub returns-in-Some-clause-none : goal.returns-in-Some-clause-none
returns-in-Some-clause-none c =
    let text = string_bytes c.args.word.now in
    let found = c.in-Some.ensures.found in
    let none : c.in-Some.rest.now ≡ [] = search rules in
    subst (λ (o : Option ℕ). IfNone o ((n : ℕ) → IsNumeral n text → n ≤ 18446744073709551615 → ⊥)) (sym c.ok.ensures.value)
    (key_none text c.as_bytes.result.now c.as_str.result.now c.in-Some.rest.now found.0 c.parse.result c.as_bytes.ensures.value
    c.as_str.ensures.value found.1 none c.parse.ensures.value.0)

pub returns-in_default-clause-none : goal.returns-in_default-clause-none
returns-in_default-clause-none c = λ n h le.
    let found = c.in-Some.ensures.found in
    no_numeral (string_bytes c.args.word.now) c.as_bytes.result.now c.in-Some.rest.now found.0 c.as_bytes.ensures.value found.1
    (λ e. search rules) n h

pub returns-in_default-2-clause-none : goal.returns-in_default-2-clause-none
returns-in_default-2-clause-none c = λ n h le.
    never_numeral (string_bytes c.args.word.now) c.as_bytes.result.now c.as_bytes.ensures.value
    (subst (λ r. IfNone r ((n : ℕ) (rest : List ℕ) → BeginsWith c.as_bytes.result.now n rest → ⊥)) c.in_default.is
    c.number_at.ensures.none) n h
