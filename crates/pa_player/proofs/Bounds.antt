-- No number of a player passes its type.
use Rattle.std.proofs.Common.{◌≡◌, ℕ, zero, suc, ◌+◌, ◌*◌, ◌%◌, ◌<◌, ◌≤◌, ◌^◌, Bool, true, false, List, [], ◌∷◌, length, Option, Some, None, sym, ap, subst, arith, inl, inr}
use Rattle.std.specs.Prelude.{if◌then◌else◌, ◌==◌}
use Rattle.std.specs.List.{filter_map, cons_option}
use Rattle.std.proofs.lemmas.Bool.{cases_lt}
use Rattle.std.proofs.lemmas.List.{length-map}
use Rattle.std.proofs.lemmas.List.Sums.{sum_by-cons}
use Rattle.std.proofs.lemmas.Nat.{mul-le}
use Rattle.pa_slot.specs.declared.word.SlotName.{SlotName}
use Rattle.pa_slot.specs.declared.word.Step.{Step}
use Rattle.pa_slot.specs.Run.{Mark}
use Rattle.pa_buckets.specs.Table.{slot_of}
use Rattle.pa_buckets.proofs.Facts.{IsRow-of}
use Rattle.pa_direct.proofs.Serving.{Serves-of}
use Rattle.pa_trace.specs.declared.script.Line.{Line}
use Rattle.pa_trace.specs.declared.script.Line.TheVariants.{Phase, Do}
use Rattle.pa_trace.specs.declared.script.Rules.{Rules}
use Rattle.pa_record.specs.declared.numbered.Numbered.{Numbered}
use Rattle.pa_record.specs.declared.report.Tally.{Tally}
use Rattle.pa_rules.specs.declared.played.Played.{Played}
use Rattle.pa_rules.specs.Played.{AreLines, op_lines, op_line_of, mark_of, marks_of}
use Rattle.pa_rules.specs.Roots.{MakesEntry}
use Rattle.pa_rules.specs.Caches.{Caches, listed_slots}
use Rattle.pa_rules.specs.Flow.{at_step}
use Rattle.pa_rules.specs.Report.{listed_bytes, cached_slots, cached_bytes}
use Rattle.pa_rules.proofs.Sums.{slots_of_none, bytes_of_none}
use Rattle.pa_rules.proofs.Versions.{direct_in}
use Rattle.pa_legal.specs.Tallies.{weight_of, one_of, bytes_of, IsLeft}
use Rattle.pa_player.specs.declared.table.Slot.{Slot}
use Rattle.pa_player.specs.Player.{Player}
use Rattle.pa_player.specs.Tables.{slot_at}
use Rattle.pa_player.specs.Tallies.{tally_at}
use Rattle.pa_player.specs.Playing.{journals, caches, home_in, len_in, list_at, list_place, numbered_at, IsLetOut, IsPlaying, rules_at}
use Rattle.pa_player.proofs.Slots.{slot_cases, slot_here, slot_nowhere}
use Rattle.pa_player.proofs.OneList.{caches_here, caches_none, place_below}
use Rattle.pa_rules.proofs.Versions.{class_cases}
use Rattle.pa_rules.proofs.Versions.{real_in}
use Rattle.pa_rules.specs.Sizes.{HasClass}

-- ---- how many records and marks there are

lines_few : (rules : Rules) (n phase : ℕ) (ls : List Line) → length (op_lines rules n phase ls) ≤ length ls
lines_few rules n phase [] = omega arith
lines_few rules n phase (Phase ∷ ls) = omega (arith, lines_few rules (n + 1) (phase + 1) ls)
lines_few rules n phase (Do thread op ∷ ls) = omega (arith, lines_few rules (n + 1) phase ls)

played_few : (rules : Rules) (ls : List Line) (ps : List Played) → AreLines rules ls ps → length ps ≤ length ls
played_few rules ls ps lines = omega (arith, length-map ps op_line_of, ap length lines, lines_few rules 2 1 ls)

one_few : {Y : Type 0} (o : Option Y) (ys : List Y) (n : ℕ) → length ys ≤ n → length (cons_option o ys) ≤ n + 1
one_few None ys n low = omega (arith, low)
one_few (Some y) ys n low = omega (arith, low)

filtered_few : {X Y : Type 0} (f : X → Option Y) (xs : List X) → length (filter_map f xs) ≤ length xs
filtered_few f [] = omega arith
filtered_few f (x ∷ xs) = omega (arith, one_few (f x) (filter_map f xs) (length xs) (filtered_few f xs))

marks_few : (rules : Rules) (ls : List Line) (ps : List Played) → AreLines rules ls ps → length (marks_of ps) ≤ length ls
marks_few rules ls ps lines = omega (arith, filtered_few mark_of ps, played_few rules ls ps lines)

-- what passes a test weighs no more than all would
if_few : (b : Bool) (n most : ℕ) → n ≤ most → (if b then n else 0) ≤ most
if_few true n most low = low
if_few false n most low = omega arith

weight_few : (test : Step → ℕ → Bool) (weight : SlotName → ℕ) (most : ℕ) (ms : List Mark) → ((s : SlotName) → weight s ≤ most) →
    weight_of test weight ms ≤ most * length ms
weight_few test weight most [] low = omega arith
weight_few test weight most (m ∷ ms) low =
    let f : Mark → ℕ = λ x. if at_step test x.found x.step then weight x.slot else 0 in
    let here : f m ≤ most = if_few (at_step test m.found m.step) (weight m.slot) most (low m.slot) in
    omega (arith, sum_by-cons f m ms, here, weight_few test weight most ms low)

-- ---- lists that are short

pub listed_few : (lists : ℕ → List Numbered) (class n : ℕ) → ((c : ℕ) → length (lists c) ≤ 64) → listed_slots lists class n ≤ 64 * n
unfolding listed_slots
listed_few lists class zero short = omega (arith, slots_of_none lists class)
listed_few lists class (suc n) short = omega (arith, short class, listed_few lists (class + 1) n short)

bytes_few : (counts : ℕ → ℕ) (class n : ℕ) → class + n ≤ 170 → ((c : ℕ) → counts c ≤ 64) → listed_bytes counts class n ≤ 62914560 * n
unfolding listed_bytes
bytes_few counts class zero low short = omega (arith, bytes_of_none counts class)
bytes_few counts class (suc n) low short =
    let great : slot_of class ≤ 983040 = (IsRow-of class (omega (arith, low))).greatest_slot in
    omega (
      arith,
      mul-le (slot_of class) (counts class) 983040 64 great (short class),
      bytes_few counts (class + 1) n (omega (arith, low)) short,
    )

all_few : (all : Caches) (q n : ℕ) → ((t c : ℕ) → t < n → length (all t q c) ≤ 64) → cached_slots all q n ≤ 10880 * n
all_few all q zero short = omega arith
all_few all q (suc t) short =
    omega (arith, listed_few (all t q) 0 170 (λ c. short t c (omega arith)), all_few all q t (λ u c lt. short u c (omega (arith, lt))))

all_bytes_few : (all : Caches) (q n : ℕ) → ((t c : ℕ) → t < n → length (all t q c) ≤ 64) → cached_bytes all q n ≤ 10695475200 * n
all_bytes_few all q zero short = omega arith
all_bytes_few all q (suc t) short =
    omega (
      arith,
      bytes_few (λ class. length (all t q class)) 0 170 (omega arith) (λ c. short t c (omega arith)),
      all_bytes_few all q t (λ u c lt. short u c (omega (arith, lt))),
    )

-- the bounds of a slot's length, which is whole words
pub record IsLength (len : ℕ) : Type 0 where
  pub whole : len % 16 ≡ 0
  pub least : 8 ≤ len
  pub greatest : len < 33554432

module _ (region partitions threads : ℕ) (ls : List Line) (p : Player) (h : IsPlaying region partitions threads ls p) where
  let_out_length : (x : Slot) (class : Option ℕ) → IsLetOut p.version (journals p) x class → IsLength x.title.len
  let_out_length x (Some class) of =
      let row = IsRow-of class (real_in p.version class of.0) in
      record {
        whole = omega (arith, of.2, row.sixteens);
        least = omega (arith, of.2, row.least_slot);
        greatest = omega (arith, of.2, row.greatest_slot);
      }
  let_out_length x None (e, asked, among, act) =
      let (y, of, makes) = h.placed.lines x.partition e among in
      let made = subst (λ a. MakesEntry p.told.pools x.partition a y) act makes in
      let (size, (reg, op, mapped), is) = made in
      let direct = direct_in y.rules.version size mapped in
      let serves = Serves-of size direct in
      record {
        whole = omega (arith, is, serves.system_pages);
        least = omega (arith, is, serves.usable, direct.0);
        greatest = omega (arith, is, serves.close, direct.1);
      }

  pub length_of : (i : ℕ) → i < length p.table → IsLength (slot_at p.table i).title.len
  length_of i low = let_out_length (slot_at p.table i) (slot_at p.table i).class (h.slots.let_out i low)

  len_few : (s : SlotName) → len_in p.table s ≤ 33554432
  len_few s = elim (slot_cases p.table s) [
    | inl there ↦
        let same = ap (λ (x : Slot). x.title.len) (slot_here p.table s there.0 h.slots.apart there.1) in
        omega (arith, same, (length_of there.0 there.1.0).greatest)
    | inr none ↦ omega (arith, ap (λ (x : Slot). x.title.len) (slot_nowhere p.table s none))
  ]

  -- a tally that is what went in and didn't go out
  left_few : (into out : Step → ℕ → Bool) (q : ℕ) (t : Tally) → length ls ≤ 65535 →
      IsLeft into out (home_in p.table) (len_in p.table) q (marks_of h.ps) t
      → (t.slots < 2 ^ 31) × (t.bytes < 2 ^ 62)
  left_few into out q t few left =
      let marks = marks_few (rules_at p) ls h.ps h.told.lines in
      let ones = weight_few into (one_of (home_in p.table) q) 1 (marks_of h.ps) (λ s. if_few (home_in p.table s == q) 1 1 (omega arith)) in
      let bytes = weight_few into (bytes_of (home_in p.table) (len_in p.table) q) 33554432 (marks_of h.ps)
      (λ s. if_few (home_in p.table s == q) (len_in p.table s) 33554432 (len_few s)) in
      (omega (arith, left.slots, ones, marks, few), omega (arith, left.bytes, bytes, marks, few))

  pub live_few : (q : ℕ) → length ls ≤ 65535 → q < partitions → ((tally_at p.live.of q).slots < 2 ^ 31) ×
      ((tally_at p.live.of q).bytes < 2 ^ 62)
  live_few q few low = left_few _ _ q (tally_at p.live.of q) few (h.tallied q low).is_live

  pub quarantined_few : (q : ℕ) → length ls ≤ 65535 → q < partitions → ((tally_at p.quarantined.of q).slots < 2 ^ 31) ×
      ((tally_at p.quarantined.of q).bytes < 2 ^ 62)
  quarantined_few q few low = left_few _ _ q (tally_at p.quarantined.of q) few (h.tallied q low).is_quarantined

  -- the lists
  pub list_short : (t q class : ℕ) → t < threads → q < partitions → length (caches p t q class) ≤ 64
  list_short t q class below low = elim (class_cases p.version class) [
    | inl real ↦
        let kept = (IsRow-of class (real_in p.version class real)).few_kept in
        let same = ap length (caches_here p t q class (omega (arith, low, h.shaped.many)) real) in
        omega (arith, kept, same, length-map (list_at p t q class) (numbered_at p.table), h.shaped.short t q class below low real)
    | inr none ↦ omega (arith, ap length (caches_none p t q class (λ a b. none b)))
  ]

  pub cached_few : (q : ℕ) → threads ≤ 16 → q < partitions → ((tally_at p.cached.of q).slots < 2 ^ 31) ×
      ((tally_at p.cached.of q).bytes < 2 ^ 62)
  cached_few q few low =
      let t = h.tallied q low in (
        omega (arith, t.many, all_few (caches p) q threads (λ u c lt. list_short u q c lt low), few),
        omega (arith, t.bytes, all_bytes_few (caches p) q threads (λ u c lt. list_short u q c lt low), few),
      )

  -- the index of a list
  pub place_among : (t q class : ℕ) → t < threads → q < partitions → HasClass p.version class →
      list_place p.version p.partitions t q class < length p.caches
  place_among t q class below low real =
      let same : list_place p.version p.partitions t q class ≡ list_place p.version partitions t q class =
      ap (λ n. list_place p.version n t q class) h.shaped.many in
      let there = place_below p.version partitions threads t q class below low real in
      subst (λ n. n < length p.caches) (sym same) (subst (λ n. list_place p.version partitions t q class < n) (sym h.shaped.lists) there)
