-- What an allocation asks, of a slot of a class and of a direct map.
use Rattle.std.proofs.Common.{◌≡◌, ℕ, ◌+◌, ◌<◌, ◌≤◌, ◌^◌, max, List, [], ◌∷◌, ◌++◌, length, Some, None, refl, sym, ap, ◌∙◌, subst, arith, inl, inr}
use Rattle.std.proofs.lemmas.List.{get_or_push, length_push}
use Rattle.pa_slot.specs.declared.title.Title.{Title}
use Rattle.pa_slot.specs.declared.word.SlotName.{SlotName}
use Rattle.pa_slot.specs.declared.word.Step.TheVariants as steps
use Rattle.pa_slot.specs.Count.{CanStep}
use Rattle.pa_buckets.specs.Table.{slot_of}
use Rattle.pa_buckets.specs.Classes.{IsClassIn}
use Rattle.pa_direct.specs.Shapes.{shape_of, Serves}
use Rattle.pa_rules.specs.Sizes.{IsMapSize}
use Rattle.pa_direct.proofs.Serving.{Serves-of}
use Rattle.pa_trace.specs.declared.script.Op.TheVariants as ops
use Rattle.pa_trace.specs.declared.script.Line.{Line}
use Rattle.pa_trace.specs.declared.script.Line.TheVariants.{Do}
use Rattle.pa_record.specs.declared.root.RootAct.{RootAct}
use Rattle.pa_record.specs.declared.root.RootAct.TheVariants.{Fill}
use Rattle.pa_record.specs.Pool.{PoolState}
use Rattle.pa_record.specs.Root.{Root, Filled}
use Rattle.pa_record.specs.Spans.{name_of}
use Rattle.pa_place.specs.Placed.{Maps, with_slots, map_in}
use Rattle.pa_player.specs.declared.table.Slot.{Slot}
use Rattle.pa_player.specs.Player.{Player}
use Rattle.pa_player.specs.Tables.{no_slot, slot_at, named_at, new_slot}
use Rattle.pa_player.specs.Tallies.{tally_at}
use Rattle.pa_player.specs.Playing.{journals, root_of, list_place, IsLetOut, IsPlaying}
use Rattle.pa_player.specs.Plays.{CanGoOn}
use Rattle.pa_player.specs.Changes.{acted, list_in, placed_in, asked_in, IsFilled, IsMapPlaced}
use Rattle.pa_player.specs.Asks.{CanPlace, CanIssue, CanIssueFront, CanAllocateSlot, CanAllocateMap}
use Rattle.pa_player.proofs.Refilled.{first_of}
use Rattle.pa_player.proofs.Alone.{listed_free}
use Rattle.pa_player.proofs.Bounds.{live_few, cached_few, place_among}
use Rattle.pa_player.proofs.Handling.{issues}
use Rattle.pa_player.proofs.GoingBack.{entries_are, listed_len, list_counted}
use Rattle.pa_player.proofs.FromRoot.{taken_len, taken_free}
use Rattle.pa_player.proofs.Issuable.{IsIssuable, IsFillable, issue_new, front_issued, fillable_put, fillable_asked, table_asked}
use Rattle.pa_rules.proofs.Versions.{real_in, direct_in}

-- what is reported is no matter
fillable_acted : (thread q class at k : ℕ) (acts : List RootAct) (s : Player) → IsFillable thread q class at s →
    IsFillable thread q class at (acted k acts s)
fillable_acted thread q class at k acts s h = record {
  threads = h.threads;
  slots = h.slots;
  bytes = h.bytes;
  room = h.room;
  tallies = h.tallies;
  each = h.each;
  many = h.many;
  size = h.size;
}

-- the title of a direct map
map_titled : (len asked : ℕ) (pool next : PoolState) (r : Root) (f : Filled) (t : Title) → Maps len pool next r f (Some asked) →
    f.titles ≡ t ∷ [] → (t.born ≡ pool.entries) × (t.len ≡ len)
map_titled len asked pool next r f t (None, ask, is) got = absurd (not_cons (sym (ap (λ (g : Filled). g.titles) is) ∙ got))
  where
    not_cons : [] ≡ t ∷ [] → ⊥
    not_cons e = cc
map_titled len asked pool next r f t (Some first, ask, is) got =
    let one : map_in first len asked ≡ t = first_same (map_in first len asked) t (sym (ap (λ (g : Filled). g.titles) is) ∙ got) in
    (sym (ap (λ (u : Title). u.born) one) ∙ ask.entry, sym (ap (λ (u : Title). u.len) one))
  where
    first_same : (u v : Title) → u ∷ [] ≡ v ∷ [] → u ≡ v
    first_same u v e = cc

module _ (region partitions threads : ℕ) (ls : List Line) (p : Player) (thread reg q size : ℕ)
    (can : CanGoOn region partitions threads ls (Do thread (ops.Alloc reg q size)) p) where
  abbrev h : IsPlaying region partitions threads ls p
  h = can.playing

  low : q < partitions
  low = can.within.1.1

  short : length ls ≤ 65535
  short = omega (arith, can.short)

  place : CanPlace q p
  place =
      let cached = cached_few region partitions threads ls p h q can.head.2.1 low in
      record {
        root = omega (arith, low, h.shaped.roots);
        journal = omega (arith, low, h.shaped.journals);
        four = omega (arith, low, h.shaped.four);
        turn = omega (arith, h.bounded.turns q, short);
        entries = omega (arith, entries_are region partitions threads ls p h, h.bounded.pools, short);
        born = h.bounded.born q;
        few = omega (arith, h.bounded.journals q, short);
        table = omega (arith, h.bounded.slots, short);
        slots = cached.0;
        bytes = cached.1;
      }

  -- a slot of a class
  module _ (class : ℕ) (of : IsClassIn p.version (max size 1 + 8) class) where
    fillable : IsFillable thread q class (list_place p.version p.partitions thread q class) p
    fillable =
        let live = live_few region partitions threads ls p h q short low in
        let counted = list_counted region partitions threads ls p h thread q class can.within.0 low (of.from, of.real) in
        record {
          threads = omega (arith, can.within.0, h.shaped.registers);
          slots = live.0;
          bytes = live.1;
          room = place_among region partitions threads ls p h thread q class can.within.0 low (of.from, of.real);
          tallies = omega (arith, low, h.shaped.four, h.shaped.cached);
          each = λ i among.
              let (inside, home, kind) = h.shaped.listed thread q class i can.within.0 low (of.from, of.real) among in
              let free = listed_free region partitions threads ls p h i thread q class can.within.0 low (of.from, of.real) among in
              record {
                inside = inside;
                step = issues region partitions threads ls p thread (ops.Alloc reg q size) can i inside free.held free.refs;
                len = listed_len region partitions threads ls p h thread q class i can.within.0 low (of.from, of.real) among;
                home = home;
              };
          many = counted.0;
          size = counted.1;
        }

    front : CanIssueFront thread reg q (list_place p.version p.partitions thread q class) p
    front = front_issued thread reg q class (list_place p.version p.partitions thread q class) p can.within.1.0
        (omega (arith, low, h.shaped.four)) (real_in p.version class (of.from, of.real)) fillable

    slot_len : (i : ℕ) → i < length p.table → (slot_at p.table i).class ≡ Some class → (slot_at p.table i).title.len ≡ slot_of class
    slot_len i inside kind = (subst (IsLetOut p.version (journals p) (slot_at p.table i)) kind (h.slots.let_out i inside)).2

    filled : (r : Player) → list_in p (list_place p.version p.partitions thread q class) ≡ [] →
        IsFilled q (list_place p.version p.partitions thread q class) class p r
        → CanIssueFront thread reg q (list_place p.version p.partitions thread q class) r
    filled r empty f =
        let at = list_place p.version p.partitions thread q class in
        let (first, others, got) = first_of f.placed.titles.items f.some in
        let start = asked_in q 1 f.placed.titles.items f.placed.pool (placed_in q f.after f.plan p) in
        let same : start.table ≡ p.table = table_asked q p f.after f.plan f.placed.titles.items f.placed.pool in
        let put = fillable_put thread q class at f.placed.titles.items start f.put f.slots
        (fillable_asked thread q class at p f.after f.plan f.placed.titles.items f.placed.pool fillable)
        (λ t among.
        let len = taken_len region partitions threads ls p thread reg q size class can of empty f.plan f.after f.placed f.did first others
        got t among in
        let P : List Slot → Type 0 = λ zs. (i : ℕ) → i < length zs → named_at zs i ≡ name_of t → IsIssuable zs q class i in (
          len,
          subst P (sym same) (λ i inside is.
              let free = taken_free region partitions threads ls p thread reg q size class can of empty f.plan f.after f.placed f.did first
              others got t among i inside is in
              record {
                inside = inside;
                step = issues region partitions threads ls p thread (ops.Alloc reg q size) can i inside free.held free.refs;
                len = slot_len i inside free.of;
                home = free.home;
              }),
        ))
        f.puts in
        subst (CanIssueFront thread reg q at) (sym f.acted)
        (front_issued thread reg q class at (acted q (Fill class f.placed.pool f.slots ∷ []) f.put) can.within.1.0
        (omega (arith, low, h.shaped.four)) (real_in p.version class (of.from, of.real))
        (fillable_acted thread q class at q (Fill class f.placed.pool f.slots ∷ []) f.put put))

    pub can_slot : CanAllocateSlot thread reg q class p
    can_slot = record {
      real = (of.from, of.real);
      threads = omega (arith, can.within.0, can.head.2.1);
      four = omega (arith, h.shaped.many, h.shaped.four);
      among = omega (arith, low, h.shaped.many);
      at = place_among region partitions threads ls p h thread q class can.within.0 low (of.from, of.real);
      place = place;
      front = front;
      filled = filled;
    }

  -- a direct map
  module _ (direct : IsMapSize p.version size) where
    serves : Serves (shape_of size) size
    serves = Serves-of size (direct_in p.version size direct)

    map_issue : (r : Player) (i : ℕ) → IsMapPlaced q (shape_of size).slot (shape_of size).supers p r i → CanIssue thread reg i r
    map_issue r i m =
        let len = (shape_of size).slot in
        let new = new_slot m.title q None in
        let titled = map_titled len m.asked p.heap.pool m.plan (root_of p q) (with_slots m.after m.placed) m.title
        (subst (λ o. Maps len p.heap.pool m.plan (root_of p q) (with_slots m.after m.placed) o) m.asks m.did) m.some in
        let live = live_few region partitions threads ls p h q short low in
        let here : (i < length m.table) × (slot_at m.table i ≡ new) = elim m.home [
          | inl old ↦
              let born = h.slots.born i old.1 in
              let same : (named_at p.table i).born ≡ m.title.born = ap (λ (s : SlotName). s.born) old.2 in
              let entries = entries_are region partitions threads ls p h in
              absurd (omega (arith, born, same, titled.0, entries))
          | inr last ↦
              let N : List Slot → ℕ → Type 0 = λ zs k. (k < length zs) × (slot_at zs k ≡ new) in
              let at : N (p.table ++ new ∷ []) (length p.table) =
              (omega (arith, length_push p.table new), get_or_push p.table new no_slot (length p.table) refl) in
              subst (N m.table) (sym last.1) (subst (λ zs. N zs (length p.table)) (sym last.0) at)
        ] in
        let T : ℕ → Type 0 = λ k. ((tally_at p.live.of k).slots < 2 ^ 31) × ((tally_at p.live.of k).bytes < 2 ^ 62) in
        let home = ap (λ (x : Slot). x.partition) here.1 in
        let few = subst T (sym home) live in
        subst (CanIssue thread reg i) (sym m.acted) (record {
          threads = omega (arith, can.within.0, h.shaped.registers);
          regs = can.within.1.0;
          place = here.0;
          step = subst (λ (x : Slot). CanStep steps.Issue x.word.0) (sym here.1) issue_new;
          long = omega (arith, ap (λ (x : Slot). x.title.len) here.1, titled.1, serves.usable, (direct_in p.version size direct).0);
          four = omega (arith, home, low, h.shaped.four);
          slots = few.0;
          bytes = few.1;
        })

    pub can_map : CanAllocateMap thread reg q (shape_of size).slot (shape_of size).supers p
    can_map = record {
      whole = serves.system_pages;
      some = omega (arith, serves.usable, (direct_in p.version size direct).0);
      count = refl;
      few = serves.few_supers;
      place = place;
      issue = map_issue;
    }
