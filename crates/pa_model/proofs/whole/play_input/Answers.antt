use Rattle.std.proofs.Common.{subst}
use Rattle.std.proofs.lemmas.Result.{err_from_is_err_and}
use Rattle.std.specs.Prelude.{MatchOption}
use Rattle.pa_trace.specs.Grammar.{last_version}
use Rattle.pa_trace.specs.Unread.{Unread, IsLineRead, IsEndRead}
use Rattle.pa_player.specs.Told.{Lists, IsToldRun, IsToldText}
use Rattle.pa_player.proofs.Trace.{goes_on}
use Rattle.pa_model.proofs.Input.{input_begins, input_ready, input_goes_on, input_ends, input_told, input_played}
use Rattle.pa_model.proofs.whole.play_input.Goals as goal

pub loop-player-init : goal.loop-player-init
loop-player-init c =
    input_begins last_version c.args.bytes.now c.in_ok-reader.reader c.in_ok-player.player c.head-head.result c.head-head.ensures
    c.in_ok-reader.ensures.head c.in_ok-player.ensures

pub line-requires : goal.line-requires
line-requires c =
    let u : Unread = c.loop-player.reader in
    let v : Unread = c.next.new.self in
    let line = subst (λ found. MatchOption found (IsEndRead u v) (λ l. IsLineRead u l v)) c.in-Some.is c.in_ok-line.ensures.line in
    input_ready last_version c.args.bytes.now u c.loop-player.player c.loop-player.invariant c.in-Some.line v line

pub loop-player-preserved : goal.loop-player-preserved
loop-player-preserved c =
    let u : Unread = c.loop-player.reader in
    let v : Unread = c.next.new.self in
    let line = subst (λ found. MatchOption found (IsEndRead u v) (λ l. IsLineRead u l v)) c.in-Some.is c.in_ok-line.ensures.line in
    input_goes_on last_version c.args.bytes.now u c.loop-player.player c.loop-player.invariant c.in-Some.line v c.line.new.self line
    (goes_on c.loop-player.player c.in-Some.line _ c.line.new.self c.in_ok-line-2.ensures.played)

pub finish-requires : goal.finish-requires
finish-requires c = input_ends last_version c.args.bytes.now c.loop-player.reader c.loop-player.player c.loop-player.invariant

pub into_text-requires : goal.into_text-requires
into_text-requires c =
    let u : Unread = c.loop-player.reader in
    let v : Unread = c.next.new.self in
    let end = subst (λ found. MatchOption found (IsEndRead u v) (λ l. IsLineRead u l v)) c.in_default.is c.in_ok-line.ensures.line in
    let all = input_told last_version c.args.bytes.now u c.loop-player.player c.loop-player.invariant v end in
    λ r told. all.printable r (subst (λ (t : Lists). IsToldRun t r) c.in_ok-finish.ensures told)

pub returns-clause-text : goal.returns-clause-text
returns-clause-text c =
    let u : Unread = c.loop-player.reader in
    let v : Unread = c.next.new.self in
    let end = subst (λ found. MatchOption found (IsEndRead u v) (λ l. IsLineRead u l v)) c.in_default.is c.in_ok-line.ensures.line in
    let text = c.in_ok-text.text.items in
    input_played last_version c.args.bytes.now u c.loop-player.player c.loop-player.invariant v text end
    (subst (λ (t : Lists). IsToldText t text) c.in_ok-finish.ensures c.in_ok-text.ensures)

pub returns-in_err-line-clause-fault : goal.returns-in_err-line-clause-fault
returns-in_err-line-clause-fault c =
    let so_far = c.loop-player.invariant in
    let p = err_from_is_err_and c.from_residual-in_err-line.result c.from_residual-in_err-line.ensures.1 in
    rw (p.1, p.2) (c.in_err-line.ensures.fault last_version c.args.bytes.now so_far.ls so_far.read)
