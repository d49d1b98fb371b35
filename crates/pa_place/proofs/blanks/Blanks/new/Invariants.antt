use Rattle.std.proofs.Common.{◌≡◌, [], All, vec_len}
use Rattle.std.specs.Prelude.{Vec}
use Rattle.std.specs.Vec.{vec_capacity}
use Rattle.std.specs.declared.alloc.Global.{Global}
use Rattle.pa_record.specs.Spans.{Span}
use Rattle.pa_place.proofs.blanks.Blanks.new.Given as goal

abbrev pub invariant-loop-class : goal.invariant-loop-class
invariant-loop-class l = record {
  many : vec_len l.lists ≡ l._class;
  room : vec_capacity l.lists ≡ 170;
  none : All (λ (v : Vec Span Global). v.items ≡ []) l.lists.items;
}
