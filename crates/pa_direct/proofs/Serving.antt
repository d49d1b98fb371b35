-- What a direct map has room for.
use Rattle.std.proofs.Common.{ℕ, arith}
use Rattle.pa_direct.specs.Shapes.{shape_of, IsDirectSize, Serves}

-- the shape of a request for a direct map serves it
pub Serves-of : (size : ℕ) → IsDirectSize size → Serves (shape_of size) size
Serves-of size direct = record {
  system_pages = omega arith;
  usable = omega arith;
  close = omega arith;
  some_supers = omega arith;
  few_supers = omega arith;
  guards = omega arith;
  least = omega arith;
}
