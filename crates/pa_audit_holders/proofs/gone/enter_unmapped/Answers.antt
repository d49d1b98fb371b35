use Rattle.std.proofs.Common.{◌∙◌, ap, sym}
use Rattle.pa_audit_records.specs.ByKeys.{value_at}
use Rattle.pa_audit_holders.specs.Gone.{lesser_of}
use Rattle.pa_audit_holders.proofs.Going.{gone_entered, puts_over}
use Rattle.pa_audit_holders.proofs.gone.enter_unmapped.Goals as goal

pub returns-in_ok-put : goal.returns-in_ok-put
returns-in_ok-put c = λ before h.
    let f = value_at c.args.gone.now in
    let m = value_at c.replace.new.self in
    let g = value_at c.put.new.self in
    let slot = c.args.slot in
    let key = c.key-key.result in
    let (asked, is) = c.requires in
    gone_entered before c.args.entry.now f g asked key slot c.in_ok-before.before c.min.result is c.key-key.ensures.start
    c.key-key.ensures.key c.in_ok-before.ensures.old
    (c.min.ensures ∙ ap (λ o. lesser_of o slot.number) (sym c.in-Some.is))
    (puts_over f m g key slot.number c.min.result c.in_ok-before.ensures.puts c.in_ok-put.ensures.puts) h

pub returns-in_default : goal.returns-in_default
returns-in_default c = λ before h.
    let slot = c.args.slot in
    let (asked, is) = c.requires in
    gone_entered before c.args.entry.now (value_at c.args.gone.now) (value_at c.replace.new.self) asked c.key-key.result slot
    c.in_ok-before.before slot.number is c.key-key.ensures.start c.key-key.ensures.key
    c.in_ok-before.ensures.old (ap (λ o. lesser_of o slot.number) (sym c.in_default.is)) c.in_ok-before.ensures.puts h
