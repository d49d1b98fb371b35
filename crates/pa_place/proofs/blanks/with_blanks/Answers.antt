use Rattle.std.proofs.Common.{◌≡◌, List, sym, subst, arith}
use Rattle.std.specs.List.{All}
use Rattle.std.proofs.lemmas.List.Elements.{All-push}
use Rattle.pa_record.specs.Spans.{Span}
use Rattle.pa_place.specs.Served.{blank_span}
use Rattle.pa_place.proofs.blanks.with_blanks.Goals as goal

pub loop-blank-preserved : goal.loop-blank-preserved
loop-blank-preserved c =
    let l = c.loop-blank in
    let many = l.invariant.many in
    let room = l.invariant.room in
    let len = c.push_reserved.ensures.len in
    let capacity = c.push_reserved.ensures.capacity in
    record {
      blank = subst (All (λ s. s ≡ blank_span c.args.class)) (sym {A = List Span} c.push_reserved.ensures.items)
          (All-push (λ (s : Span). s ≡ blank_span c.args.class) l.list.items c.in_ok-blank.field-0 l.invariant.blank c.in_ok-blank.ensures);
      many = omega (arith, many, len);
      room = omega (arith, room, capacity);
    }
