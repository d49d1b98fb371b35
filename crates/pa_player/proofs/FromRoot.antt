-- The slots that a root gives when a list is filled: each has the length of the class, and one that left a root before is
-- free, and of this partition and class.
use Rattle.std.proofs.Common.{◌≡◌, ℕ, ◌+◌, ◌*◌, ◌/◌, ◌<◌, max, List, [], ◌∷◌, ◌++◌, map, length, Option, Some, None, refl, sym, ap, ◌∙◌, subst, arith, inl, inr}
use Rattle.std.specs.Prelude.{Contains}
use Rattle.std.proofs.lemmas.Bool.{eq-eqb}
use Rattle.pa_slot.specs.declared.title.Title.{Title}
use Rattle.pa_slot.specs.declared.word.SlotName.{SlotName}
use Rattle.pa_slot.specs.Count.{held_of, refs_of}
use Rattle.pa_buckets.specs.Table.{slot_of}
use Rattle.pa_buckets.specs.Bands.{fill_of}
use Rattle.pa_buckets.specs.Classes.{IsClassIn}
use Rattle.pa_trace.specs.declared.script.Op.TheVariants as ops
use Rattle.pa_trace.specs.declared.script.Line.{Line}
use Rattle.pa_trace.specs.declared.script.Line.TheVariants.{Do}
use Rattle.pa_record.specs.declared.entry.Answer.TheVariants.{Made}
use Rattle.pa_record.specs.declared.entry.Seen.{Seen}
use Rattle.pa_record.specs.declared.numbered.Numbered.{Numbered}
use Rattle.pa_record.specs.declared.pool.PoolEntry.{PoolEntry}
use Rattle.pa_record.specs.declared.root.RootEntry.{RootEntry}
use Rattle.pa_record.specs.declared.root.RootAct.TheVariants.{Fill}
use Rattle.pa_record.specs.Pool.{PoolState}
use Rattle.pa_record.specs.Spans.{name_of}
use Rattle.pa_record.specs.Root.{Root, Filled, opened, names, IsOut}
use Rattle.pa_record.specs.Sound.{IsSound, IsBornBelow}
use Rattle.pa_record.specs.Laws.{IsNameOut}
use Rattle.pa_record.specs.Steps.{IsFilled}
use Rattle.pa_record.proofs.Lawful.{fill_keeps}
use Rattle.pa_lists.proofs.Members.{first_in}
use Rattle.pa_lists.proofs.Joined.{map_cases, map_in}
use Rattle.pa_rules.specs.declared.played.Played.{Played}
use Rattle.pa_rules.specs.Roots.{Journals, AreRoots, IsPoolOf}
use Rattle.pa_rules.specs.Caches.{IsOfClass, FrontIs, with_list, with_cache}
use Rattle.pa_rules.specs.Flow.{busy}
use Rattle.pa_rules.proofs.Flowing.{class_leaves}
use Rattle.pa_legal.specs.Numbers.{moves_of, at_end}
use Rattle.pa_legal.specs.Kinds.{HasOneKind}
use Rattle.pa_legal.proofs.Titling.{one_kind}
use Rattle.pa_place.specs.declared.placed.Placed.{Placed}
use Rattle.pa_place.specs.Placed.{Fills, FillDid}
use Rattle.pa_heap_effects.specs.Deeds.{Acts, grown, root_at}
use Rattle.pa_heap_effects.specs.Pooled.{pool_at}
use Rattle.pa_heap_effects.specs.Ops.{only_in, asked_for, IsCalled, HasNumbers}
use Rattle.pa_heap_effects.proofs.Calls.{fill_is_done}
use Rattle.pa_heap_effects.proofs.Extending.{line_extends}
use Rattle.pa_heap_effects.proofs.Pooling.{pool_extends}
use Rattle.pa_heap_effects.proofs.Filing.{placed_are_roots}
use Rattle.pa_heap_effects.proofs.Growing.{grown_new}
use Rattle.pa_heap_effects.proofs.Listed.{stands_once, class_out}
use Rattle.pa_slot_effects.specs.Turns.{played_at}
use Rattle.pa_slot_effects.proofs.Lines.{lines_more}
use Rattle.pa_player.specs.Player.{Player}
use Rattle.pa_player.specs.Tables.{slot_at, named_at}
use Rattle.pa_player.specs.Playing.{journals, caches, root_of, list_at, numbered_at, IsLetOut, IsPlaying, rules_at}
use Rattle.pa_player.specs.Plays.{CanGoOn}
use Rattle.pa_player.proofs.OneList.{caches_here}
use Rattle.pa_player.proofs.Backs.{let_out_grown}
use Rattle.pa_player.proofs.Alone.{so_far, has_word, not_busy}
use Rattle.pa_player.proofs.GoingBack.{root_sound}
use Rattle.pa_rules.proofs.Versions.{real_in}

-- ---- what a fill took, of the root or with a super page more

pub record IsTaken (class want : ℕ) (r : Root) (f : Filled) : Type 0 where
  pub before : Root
  pub stays : (name : SlotName) → IsOut r name → IsOut before name
  pub filled : IsFilled class want before f

pub fill_takes : (class want : ℕ) (pool next : PoolState) (r : Root) (f : Filled) (asked : Option ℕ) → IsSound r →
    IsBornBelow pool.entries r → class < 170 → Fills class want pool next r f asked
    → (f.titles ≡ [] → ⊥) → IsTaken class want r f
fill_takes class want pool next r f None sound born real (some, same, is) none = record {
  before = r;
  stays = λ name out. out;
  filled = subst (IsFilled class want r) (sym is) (fill_keeps.filled class want r sound real);
}
fill_takes class want pool next r f (Some entry) sound born real (no_span, None, asked, is) none =
    absurd (none (ap (λ (g : Filled). g.titles) is))
fill_takes class want pool next r f (Some entry) sound born real (no_span, Some first, asked, is) none =
    let low : IsBornBelow entry r = subst (λ n. IsBornBelow n r) (sym asked.entry) born in
    record {
      before = opened first entry r;
      stays = λ name out. out;
      filled = subst (IsFilled class want (opened first entry r)) (sym is)
          (fill_keeps.filled class want (opened first entry r) (fill_keeps.opens first entry r sound low) real);
    }

-- ---- numbers of slots

abbrev number_at : Option ℕ → ℕ
number_at None = 0
number_at (Some n) = n

abbrev numbered_by : List RootEntry → Title → Numbered
numbered_by journal t = record { slot = name_of t; number = number_at (at_end (Some 0) (moves_of journal (name_of t))) }

names_by : (journal : List RootEntry) (ts : List Title) → map name_of ts ≡ names (map (numbered_by journal) ts)
names_by journal [] = refl
names_by journal (t ∷ ts) = ap (λ zs. name_of t ∷ zs) (names_by journal ts)

numbers_by : (roots : Journals) (q : ℕ) (ts : List Title) → HasNumbers roots q (map (numbered_by (roots q)) ts)
numbers_by roots q ts m k among =
    let (t, member, is) = map_cases (numbered_by (roots q)) ts m among in
    let P : Numbered → Type 0 = λ z. at_end (Some 0) (moves_of (roots q) z.slot) ≡ Some k → z.number ≡ k in
    subst P is (λ e. ap number_at e)

-- what is seen of a slot at a number
abbrev seen_by : Numbered → Seen
seen_by n = record { slot = n.slot; found = record { 0 = 16777216 * n.number } }

front_by : (n : Numbered) (ns : List Numbered) → FrontIs (seen_by n) (n ∷ ns) ns
front_by n ns =
    let f : ℕ → List Numbered = λ k. record { slot = n.slot; number = k } ∷ ns in
    let e : n.number ≡ 16777216 * n.number / 16777216 = omega arith in
    ap f e

-- ---- a list that is filled

-- a slot of the table is free, and of this partition and class
pub record IsFreeOf (p : Player) (q class i : ℕ) : Type 0 where
  pub home : (slot_at p.table i).partition ≡ q
  pub of : (slot_at p.table i).class ≡ Some class
  pub held : held_of (slot_at p.table i).word.0 ≡ 0
  pub refs : refs_of (slot_at p.table i).word.0 ≡ 0

module _ (region partitions threads : ℕ) (ls : List Line) (p : Player) (thread reg q size class : ℕ)
    (can : CanGoOn region partitions threads ls (Do thread (ops.Alloc reg q size)) p)
    (of : IsClassIn p.version (max size 1 + 8) class) (empty : list_at p thread q class ≡ []) (plan : PoolState) (after : Root)
    (placed : Placed)
    (did : FillDid class (fill_of class) p.heap.pool plan (root_of p q) after placed) (first : Title) (others : List Title)
    (got : placed.titles.items ≡ first ∷ others) where
  abbrev h : IsPlaying region partitions threads ls p
  h = can.playing

  low : q < partitions
  low = can.within.1.1

  abbrev slots : List Numbered
  slots = map (numbered_by (journals p q)) placed.titles.items

  abbrev rest : List Numbered
  rest = map (numbered_by (journals p q)) others

  abbrev seen : Seen
  seen = seen_by (numbered_by (journals p q) first)

  abbrev x : Played
  x = played_at (rules_at p) ls thread (ops.Alloc reg q size) (Made seen 0)

  abbrev acts : Acts
  acts = only_in q (Fill class placed.pool slots ∷ [])

  abbrev more : List PoolEntry
  more = asked_for (length ls + 2) q 1 placed.titles.items placed.pool

  no_cache : caches p thread q class ≡ []
  no_cache = caches_here p thread q class (omega (arith, low, h.shaped.many)) (of.from, of.real) ∙ ap (map (numbered_at p.table)) empty

  called : IsCalled region partitions (length ls + 2) x p.told.pools more (journals p) q (Fill class placed.pool slots ∷ [])
      (caches p thread) (with_list (caches p thread) q class rest) after plan
  called =
      let D : PoolState → Root → Type 0 = λ s r. FillDid class (fill_of class) s plan r after placed in
      let here : D (pool_at region p.told.pools) (root_at p.told.pools (journals p) q) =
      subst (D (pool_at region p.told.pools)) (h.roots q) (subst (λ s. D s (root_of p q)) h.plan did) in
      let front : FrontIs seen slots rest =
      subst (λ ts. FrontIs seen (map (numbered_by (journals p q)) ts) rest) (sym got)
      (front_by (numbered_by (journals p q) first) rest) in
      fill_is_done region partitions (length ls + 2) q class 0 h.ps x p.told.pools (journals p)
      (caches p) seen slots rest plan after placed h.placed refl refl (reg, size, refl, of) low no_cache
      here (names_by (journals p q) placed.titles.items) (numbers_by (journals p) q placed.titles.items) front

  run_then : AreRoots partitions (h.ps ++ x ∷ []) (p.told.pools ++ more) (grown (journals p) (length ls + 2) acts)
      × IsPoolOf region (h.ps ++ x ∷ []) (p.told.pools ++ more) (grown (journals p) (length ls + 2) acts)
  run_then =
      let then_placed = line_extends partitions (length ls + 2) h.ps x p.told.pools more (journals p) acts (caches p)
      (with_list (caches p thread) q class rest) h.placed called.done.deed in
      let then_pooled = pool_extends region (length ls + 2) p.told.pools more (journals p) acts h.pooled called.done.asks in
      placed_are_roots region partitions (length ls + 2 + 1) (rules_at p) (ls ++ Do thread (ops.Alloc reg q size) ∷ []) (h.ps ++ x ∷ [])
      (p.told.pools ++ more) (grown (journals p) (length ls + 2) acts)
      (with_cache (caches p) thread (with_list (caches p thread) q class rest))
      (lines_more (rules_at p) ls h.ps thread (ops.Alloc reg q size) (Made seen 0) h.told.lines) then_placed then_pooled

  one : (s : SlotName) → HasOneKind (h.ps ++ x ∷ []) (grown (journals p) (length ls + 2) acts) s
  one s = one_kind region partitions (h.ps ++ x ∷ []) (p.told.pools ++ more)
      (grown (journals p) (length ls + 2) acts) s run_then.0 run_then.1

  -- a slot of the fill is of its class
  filled_class : (t : Title) → Contains placed.titles.items t → IsOfClass (grown (journals p) (length ls + 2) acts) (name_of t) q class
  filled_class t among =
      let here : acts q ≡ Fill class placed.pool slots ∷ [] = rw (eq-eqb q q refl) refl in
      let act : Contains (acts q) (Fill class placed.pool slots) =
      subst (λ zs. Contains zs (Fill class placed.pool slots)) (sym here) (first_in (Fill class placed.pool slots) []) in
      let member : Contains (names slots) (name_of t) =
      map_in (λ (n : Numbered). n.slot) slots (numbered_by (journals p q) t)
      (map_in (numbered_by (journals p q)) placed.titles.items t among) in (
        record { line = length ls + 2; act = Fill class placed.pool slots },
        placed.pool,
        slots,
        grown_new (journals p) (length ls + 2) acts q (Fill class placed.pool slots) act,
        refl,
        member,
      )

  taken : IsTaken class (fill_of class) (root_of p q) (record { root = after; titles = placed.titles.items })
  taken = fill_takes class (fill_of class) p.heap.pool plan (root_of p q)
      (record { root = after; titles = placed.titles.items }) placed.pool (root_sound region partitions threads ls p h q)
      (h.bounded.born q) (real_in p.version class (of.from, of.real)) did (λ none. not_cons (sym got ∙ none))
    where
      not_cons : first ∷ others ≡ [] → ⊥
      not_cons e = cc

  pub taken_len : (t : Title) → Contains placed.titles.items t → t.len ≡ slot_of class
  taken_len t among = taken.filled.len t among

  -- one that is in the table
  module _ (t : Title) (among : Contains placed.titles.items t) (i : ℕ) (inside : i < length p.table)
      (is : named_at p.table i ≡ name_of t) where
    same_kind : (o : Option ℕ) → IsLetOut p.version (journals p) (slot_at p.table i) o → ((slot_at p.table i).partition ≡ q) ×
        (o ≡ Some class)
    same_kind o out = by_class o (let_out_grown p.version (journals p) (length ls + 2) acts (slot_at p.table i) o out)
      where
        filled : IsOfClass (grown (journals p) (length ls + 2) acts) (named_at p.table i) q class
        filled = subst (λ s. IsOfClass (grown (journals p) (length ls + 2) acts) s q class) (sym is) (filled_class t among)

        by_class : (o : Option ℕ) → IsLetOut p.version (grown (journals p) (length ls + 2) acts) (slot_at p.table i) o →
            ((slot_at p.table i).partition ≡ q) × (o ≡ Some class)
        by_class (Some c) out = let k = (one (named_at p.table i)).class (slot_at p.table i).partition q c class out.1 filled in
            (k.0, ap (λ z. Some z) k.1)
        by_class None (e, asked, there, act) =
            absurd ((one (named_at p.table i)).either q (slot_at p.table i).partition class filled
            (e, asked, (slot_at p.table i).title.len, there, act))

    of_class : IsOfClass (journals p) (named_at p.table i) q class
    of_class =
        let out = h.slots.let_out i inside in
        let k = same_kind (slot_at p.table i).class out in
        let there = subst (IsLetOut p.version (journals p) (slot_at p.table i)) k.1 out in
        subst (λ z. IsOfClass (journals p) (named_at p.table i) z class) k.0 there.1

    not_out : IsNameOut (root_at p.told.pools (journals p) q) (named_at p.table i) → ⊥
    not_out out =
        let slot = class_out region partitions (length ls + 2) ls h.ps p.told.pools (journals p) (caches p)
        (so_far region partitions threads ls p h) q class (named_at p.table i) of_class out in
        taken.filled.fresh t among
        (taken.stays (name_of t) (subst (IsOut (root_of p q)) is (subst (λ r. IsOut r (named_at p.table i)) (sym (h.roots q)) slot)))

    pub taken_free : IsFreeOf p q class i
    taken_free =
        let k = same_kind (slot_at p.table i).class (h.slots.let_out i inside) in
        let left = class_leaves (journals p) (named_at p.table i) q class of_class in
        let word = has_word region partitions threads ls p h i inside in
        let once = stands_once region partitions (length ls + 2) ls h.ps p.told.pools (journals p) (caches p)
        (so_far region partitions threads ls p h) q 0 (named_at p.table i)
        (slot_at p.table i).word.0 low left word in
        let none : busy (slot_at p.table i).word.0 ≡ 0 = elim once [
          | inl once_there ↦ absurd (not_out once_there.0)
          | inr nowhere ↦ let count = nowhere.1 in omega arith
        ] in
        let free = not_busy (slot_at p.table i).word.0 none in
        record { home = k.0; of = k.1; held = free.0; refs = free.1 }
