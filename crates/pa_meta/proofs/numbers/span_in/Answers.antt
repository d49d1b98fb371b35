use Rattle.pa_records.proofs.Decoding.{fields_of, same_span, class_is}
use Rattle.pa_meta.proofs.numbers.span_in.Goals as goal

pub returns : goal.returns
returns c s is =
    let f = fields_of s c.args.counts c.args.slots c.args.neighbours c.args.turn is in
    let class = class_is c.of.result c.unwrap.result c.unwrap.ensures c.of.ensures.class f.class in
    same_span _ s class (c.state_of_number.ensures s.state f.state) f.allocated f.provisioned f.committed f.made f.head f.previous f.next
    f.turn
