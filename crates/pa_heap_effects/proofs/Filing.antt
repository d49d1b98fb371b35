-- What the run so far says of its journals and its pool.
use Rattle.std.proofs.Common.{◌≡◌, ℕ, ◌<◌, List, [], get_or, Some, refl, sym, ap, subst, arith, inl, inr}
use Rattle.std.proofs.Math.Path.{fun_ext}
use Rattle.std.specs.Prelude.{Contains, slice_get}
use Rattle.std.specs.List.Sorted.{IsNonDecreasingBy}
use Rattle.std.proofs.lemmas.Bool.{cases_lt}
use Rattle.std.proofs.lemmas.Option.{slice_get_within, get_or_from_slice_get}
use Rattle.std.proofs.lemmas.List.Sorted.{IsNonDecreasingBy-short}
use Rattle.pa_trace.specs.declared.script.Line.{Line}
use Rattle.pa_trace.specs.declared.script.Rules.{Rules}
use Rattle.pa_rules.proofs.Ruling.{record_rules, one_rules}
use Rattle.pa_record.specs.declared.pool.PoolEntry.{PoolEntry}
use Rattle.pa_record.specs.declared.root.RootEntry.{RootEntry}
use Rattle.pa_lists.proofs.Members.{not_in_none, not_some}
use Rattle.pa_lists.proofs.Pairs.{pairs_none}
use Rattle.pa_lists.proofs.Joined.{map_in}
use Rattle.pa_rules.specs.declared.played.Played.{Played}
use Rattle.pa_rules.specs.Played.{AreLines, op_line_of}
use Rattle.pa_rules.specs.Order.{StandsBefore}
use Rattle.pa_heap_effects.specs.Deeds.{IsPlacedTo}
use Rattle.pa_heap_effects.specs.Pooled.{IsPooledTo}
use Rattle.pa_heap_effects.specs.Laws.{StartsEmpty, LinePasses, PlacedAreRoots, SameIsPlaced}
use Rattle.pa_lists.proofs.Indexed.{at_in}
use Rattle.pa_rules.proofs.Lined.{lines_phases}

-- ---- the start

pub starts_empty : StartsEmpty
starts_empty = record {
  placed = λ partitions n. record {
    rising = pairs_none (λ (x y : Played). x.line < y.line);
    recorded = λ x among. absurd (not_in_none x among);
    entered = λ p e among. absurd (not_in_none e among);
    sorted = λ p. IsNonDecreasingBy-short (λ (e : RootEntry). e.line) [] (omega arith);
    journals = λ p. record { replays = tt; rise = tt };
    lines = λ p e among. absurd (not_in_none e among);
    none_past = λ p past. refl;
    refusals = λ x j reg p size among. absurd (not_in_none x among);
    caches = refl;
    numbers = λ p s. tt;
    unmaps = λ x among. absurd (not_in_none x among);
  };
  pooled = λ supers n. record {
    entered = λ e among. absurd (not_in_none e among);
    sorted = IsNonDecreasingBy-short (λ (e : PoolEntry). e.line) [] (omega arith);
    fits = tt;
    named = λ j e there. absurd (not_some e there);
    below = λ p i j names. absurd (not_some names.0 names.1);
    once = λ j p q i k first. absurd (not_some first.0 first.1);
  };
}

-- ---- a line that begins a phase

pub line_passes : LinePasses
line_passes = record {
  placed = λ partitions n ps pools roots all h. record {
    rising = h.rising;
    recorded = λ x among. let low = h.recorded x among in omega arith;
    entered = λ p e among. let low = h.entered p e among in omega arith;
    sorted = h.sorted;
    journals = h.journals;
    lines = h.lines;
    none_past = h.none_past;
    refusals = h.refusals;
    caches = h.caches;
    numbers = h.numbers;
    unmaps = h.unmaps;
  };
  pooled = λ supers n pools roots h. record {
    entered = λ e among. let low = h.entered e among in omega arith;
    sorted = h.sorted;
    fits = h.fits;
    named = h.named;
    below = h.below;
    once = h.once;
  };
}

-- ---- the order of the lines is that of the phases

pub phases_rise : (rules : Rules) (ls : List Line) (ps : List Played) (x y : Played) → AreLines rules ls ps → Contains ps x →
    Contains ps y → x.phase < y.phase → x.line < y.line
phases_rise rules ls ps x y lines first second less =
    lines_phases rules 2 1 ls (op_line_of x) (op_line_of y)
    (subst (λ z. Contains z (op_line_of x)) lines (map_in op_line_of ps x first))
    (subst (λ z. Contains z (op_line_of y)) lines (map_in op_line_of ps y second)) less

before_is_less : (rules : Rules) (ls : List Line) (ps : List Played) (x y : Played) → AreLines rules ls ps → Contains ps x → Contains ps y →
    StandsBefore x y → x.line < y.line
before_is_less rules ls ps x y lines first second (inl same) = same.1
before_is_less rules ls ps x y lines first second (inr earlier) = phases_rise rules ls ps x y lines first second earlier

-- if the lines are in order, the lesser line comes before
sorted_before : {A : Type 0} (line : A → ℕ) (xs : List A) (i j : ℕ) (a b : A) → IsNonDecreasingBy line xs → slice_get xs i ≡ Some a →
    slice_get xs j ≡ Some b → line a < line b → i < j
sorted_before line xs i j a b h first second less = elim (cases_lt i j) [
  | inl before ↦ before
  | inr past ↦
      let up = h j i a past (slice_get_within xs i a first) in
      let e : line (get_or xs i a) ≡ line a = ap line (get_or_from_slice_get xs i a a first) in
      let f : line (get_or xs j a) ≡ line b = ap line (get_or_from_slice_get xs j b a second) in
      absurd (omega arith)
]

-- ---- the journals and the pool are those of the records

pub placed_are_roots : PlacedAreRoots
placed_are_roots supers partitions n rules ls ps pools roots all filed h g = (
  record {
    one = one_rules rules ps (λ x. record_rules rules ls ps x filed);
    journals = h.journals;
    lines = λ p j e there. h.lines p e (at_in (roots p) j e there);
    order = λ p i j e f x y first second of of' before.
        let less = before_is_less rules ls ps x y filed of.0 of'.0 before in
        let a = of.1 in
        let b = of'.1 in
        sorted_before (λ (z : RootEntry). z.line) (roots p) i j e f (h.sorted p) first second (omega arith);
    none_past = h.none_past;
    refusals = h.refusals;
  },
  record {
    fits = g.fits;
    named = g.named;
    once = λ j p q i k e there first second. g.once j p q i k first second;
    order = λ i j e f x y first second of of' before.
        let less = before_is_less rules ls ps x y filed of.0 of'.0 before in
        let a = of.1 in
        let b = of'.1 in
        sorted_before (λ (z : PoolEntry). z.line) pools i j e f g.sorted first second (omega arith);
  },
)

-- ---- journals and lists with the same members

pub same_is_placed : SameIsPlaced
same_is_placed = record {
  placed = λ partitions n ps pools roots others all lists h same same'.
      subst (λ z. IsPlacedTo partitions n ps pools z lists) (sym (fun_ext same))
      (subst (λ z. IsPlacedTo partitions n ps pools roots z) (sym (fun_ext (λ t. fun_ext (λ p. fun_ext (λ c. same' t p c))))) h);
  pooled = λ supers n pools roots others h same. subst (λ z. IsPooledTo supers n pools z) (sym (fun_ext same)) h;
}
