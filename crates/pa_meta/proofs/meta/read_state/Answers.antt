use Rattle.std.proofs.Common.{◌≡◌, ◌+◌, ◌/◌, ◌∙◌, sym, subst, ap, arith}
use Rattle.std.specs.Prelude.{slice_index}
use Rattle.pa_records.specs.Words.{record_word, AreRecordOf}
use Rattle.pa_meta.proofs.Writing.{raw_word}
use Rattle.pa_meta.proofs.meta.read_state.Goals as goal

pub load_word-counts-requires-clause-able : goal.load_word-counts-requires-clause-able
load_word-counts-requires-clause-able c =
    raw_word c.args.at 0 c.record_start-start.result c.args.seat.now.view c.requires.raw (omega arith)
    (let s = c.record_start-start.ensures in omega arith)

pub returns-clause-state : goal.returns-clause-state
returns-clause-state c s is =
    let start = c.record_start-start.result in let e = c.record_start-start.ensures in
    let ws = c.args.seat.now.view.words in let q = record_word c.args.at in
    let same : start / 8 ≡ q = omega arith in
    let word : c.load_word-counts.result ≡ slice_index ws q = c.load_word-counts.ensures.word ∙ ap (slice_index ws) same in
    c.state_in.ensures s (slice_index ws (q + 1)) (slice_index ws (q + 2)) (slice_index ws (q + 3))
    (subst (λ n. AreRecordOf s n (slice_index ws (q + 1)) (slice_index ws (q + 2)) (slice_index ws (q + 3))) (sym word) is)
