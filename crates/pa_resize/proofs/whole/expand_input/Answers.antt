use Rattle.std.proofs.Common.{ap, subst, arith, ◌∙◌}
use Rattle.std.proofs.lemmas.Result.{err_from_is_err_and}
use Rattle.std.specs.Prelude.{MatchOption}
use Rattle.pa_trace.specs.declared.line.Head.{Head}
use Rattle.pa_trace.specs.Unread.{Unread}
use Rattle.pa_script.specs.Unread.{IsScriptLineRead, IsScriptEndRead}
use Rattle.pa_resize.proofs.Inputs.{input_begins, input_few, input_within, input_more, input_expanded}
use Rattle.pa_resize.proofs.whole.expand_input.Goals as goal

pub loop-player-init : goal.loop-player-init
loop-player-init c =
    input_begins c.args.bytes.now c.in_ok-reader.reader c.in_ok-player.player c.head.result c.head.ensures c.in_ok-reader.ensures.head
    c.in_ok-player.ensures

pub play_line-requires : goal.play_line-requires
play_line-requires c =
    let u : Unread = c.loop-player.reader in
    let v : Unread = c.next.new.self in
    let p = c.loop-player.player in
    let so_far = c.loop-player.invariant in
    let l = c.in-Some.line in
    let line = subst (λ found. MatchOption found (IsScriptEndRead u v) (λ l. IsScriptLineRead u l v)) c.in-Some.is
    c.in_ok-line.ensures.line in
    record {
      going = so_far.played.going;
      first = ap (λ (k : Head). k.version) so_far.played.head ∙ so_far.read.version;
      few = input_few c.args.bytes.now u p so_far l v line;
      within = input_within c.args.bytes.now u p so_far l v line;
    }

pub loop-player-preserved : goal.loop-player-preserved
loop-player-preserved c =
    let u : Unread = c.loop-player.reader in
    let v : Unread = c.next.new.self in
    let line = subst (λ found. MatchOption found (IsScriptEndRead u v) (λ l. IsScriptLineRead u l v)) c.in-Some.is
    c.in_ok-line.ensures.line in
    input_more c.args.bytes.now u c.loop-player.player c.loop-player.invariant c.in-Some.line v line c.play_line.new.player
    c.in_ok-play_line.field-0 c.in_ok-play_line.ensures

pub finish_printed-requires : goal.finish_printed-requires
finish_printed-requires c = c.loop-player.invariant.played.going

pub returns-clause-expanded : goal.returns-clause-expanded
returns-clause-expanded c =
    let u : Unread = c.loop-player.reader in
    let v : Unread = c.next.new.self in
    let end = subst (λ found. MatchOption found (IsScriptEndRead u v) (λ l. IsScriptLineRead u l v)) c.in_default.is
    c.in_ok-line.ensures.line in
    input_expanded c.args.bytes.now u c.loop-player.player c.loop-player.invariant v c.in_ok-trace.trace.items c.in_ok-trace.run'.items end
    c.in_ok-trace.ensures

pub returns-in_err-line-clause-fault : goal.returns-in_err-line-clause-fault
returns-in_err-line-clause-fault c =
    let so_far = c.loop-player.invariant in
    let p = err_from_is_err_and c.from_residual-in_err-line.result c.from_residual-in_err-line.ensures.1 in
    rw (p.1, p.2) (c.in_err-line.ensures.fault c.args.bytes.now so_far.lines so_far.read)

pub printing-requires : goal.printing-requires
printing-requires c =
    let read = c.in_ok-reader.ensures.head in
    rw c.head.ensures (record { version = (omega (arith, read.version), omega (arith, read.version)); within = read.head })
