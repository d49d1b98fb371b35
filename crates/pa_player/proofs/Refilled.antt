-- The slots with which a list is filled: where they are, and what each is.
use Rattle.std.proofs.Common.{◌≡◌, ℕ, ◌+◌, ◌<◌, ◌≤◌, max, inl, inr, List, [], ◌∷◌, ◌++◌, map, length, get_or, Option, Some, refl, sym, ap, ◌∙◌, subst, arith}
use Rattle.std.specs.Prelude.{Contains}
use Rattle.std.proofs.lemmas.Bool.{cases_lt}
use Rattle.std.proofs.lemmas.List.{get_or-set_same}
use Rattle.pa_slot.specs.declared.title.Title.{Title}
use Rattle.pa_slot.specs.Count.{number_of}
use Rattle.pa_buckets.specs.Table.{slot_of}
use Rattle.pa_buckets.specs.Bands.{fill_of}
use Rattle.pa_buckets.specs.Classes.{IsClassIn}
use Rattle.pa_trace.specs.declared.script.Op.TheVariants as ops
use Rattle.pa_trace.specs.declared.script.Line.{Line}
use Rattle.pa_trace.specs.declared.script.Line.TheVariants.{Do}
use Rattle.pa_record.specs.declared.entry.Answer.TheVariants as answers
use Rattle.pa_record.specs.declared.numbered.Numbered.{Numbered}
use Rattle.pa_record.specs.declared.pool.PoolEntry.{PoolEntry}
use Rattle.pa_record.specs.declared.root.RootAct.{RootAct}
use Rattle.pa_record.specs.declared.root.RootAct.TheVariants.{Fill}
use Rattle.pa_record.specs.Spans.{name_of}
use Rattle.pa_record.specs.Root.{names}
use Rattle.pa_record.specs.Sound.{IsSound}
use Rattle.pa_lists.proofs.Joined.{map_cases, map_in}
use Rattle.pa_record.proofs.Lawful.{journal_leaves}
use Rattle.pa_rules.specs.Caches.{with_list}
use Rattle.pa_rules.specs.Sizes.{usable_of}
use Rattle.pa_legal.specs.Numbers.{moves_of, at_end}
use Rattle.pa_heap_effects.specs.Deeds.{root_at}
use Rattle.pa_heap_effects.specs.Pooled.{pool_at}
use Rattle.pa_heap_effects.specs.Ops.{IsCalled, asked_for, HasNumbers}
use Rattle.pa_heap_effects.proofs.Calls.{fill_is_done}
use Rattle.pa_slot_effects.specs.Turns.{played_at}
use Rattle.pa_place.specs.Placed.{FillDid}
use Rattle.pa_player.specs.declared.table.Slot.{Slot}
use Rattle.pa_player.specs.Player.{Player}
use Rattle.pa_player.specs.Tables.{slot_at, named_at, HasNone, NoneNamed}
use Rattle.pa_player.specs.Playing.{journals, caches, numbered_at, list_place, root_of, register_at, IsLetOut, IsPlaying, rules_at}
use Rattle.pa_player.specs.Changes.{acted, placed_in, list_in, seen_at, ArePut, IsFilled}
use Rattle.pa_player.specs.Plays.{CanGoOn}
use Rattle.pa_player.proofs.OneList.{caches_here, place_below}
use Rattle.pa_player.proofs.Slots.{keeps_named}
use Rattle.pa_player.proofs.Grown.{IsGrown, old_at, keeps_grown, new_at}
use Rattle.pa_player.proofs.Puts.{IsPutIn, put_in}
use Rattle.pa_player.proofs.Filled.{IsFillOf, fill_of_root, asked_told}
use Rattle.pa_player.proofs.FromRoot.{taken_free}
use Rattle.pa_rules.proofs.Versions.{real_in}

-- the first of some titles
pub first_of : (ts : List Title) → (ts ≡ [] → ⊥) → (t : Title) × (others : List Title) × (ts ≡ t ∷ others)
first_of [] some = absurd (some refl)
first_of (t ∷ ts) some = (t, ts, refl)

module _ (p : Player) (thread reg q size class : ℕ) (none : HasNone (register_at p thread reg))
    (of : IsClassIn p.version (max size 1 + 8) class) (filled : Player)
    (empty : list_in p (list_place p.version p.partitions thread q class) ≡ [])
    (f : IsFilled q (list_place p.version p.partitions thread q class) class p filled) (i : ℕ) (rest : List ℕ)
    (front : list_in filled (list_place p.version p.partitions thread q class) ≡ i ∷ rest) (region partitions threads : ℕ) (ls : List Line)
    (can : CanGoOn region partitions threads ls (Do thread (ops.Alloc reg q size)) p) where
  abbrev pub h : IsPlaying region partitions threads ls p
  h = can.playing

  abbrev pub n : ℕ
  n = length ls + 2

  abbrev pub at : ℕ
  at = list_place p.version p.partitions thread q class

  abbrev pub titles : List Title
  titles = f.placed.titles.items

  abbrev pub asked : Option ℕ
  asked = f.placed.pool

  abbrev pub act : RootAct
  act = Fill class asked f.slots

  abbrev pub more : List PoolEntry
  more = asked_for n q 1 titles asked

  -- the player after the call, before its slots are put into the list
  abbrev pub base : Player
  base = record (placed_in q f.after f.plan p) { told = record p.told { pools = p.told.pools ++ asked_for p.told.line q 1 titles asked } }

  pub inside : q < partitions
  inside = can.within.1.1

  pub inner : q < p.partitions
  inner = subst (λ z. q < z) (sym h.shaped.many) inside

  pub room : at < length p.caches
  room =
      subst (λ z. list_place p.version z thread q class < length p.caches) (sym h.shaped.many)
      (let b = place_below p.version partitions threads thread q class can.within.0 inside (of.from, of.real) in let c = h.shaped.lists in
      omega arith)

  pub taken : IsFillOf class (fill_of class) (root_of p q) f.after titles
  taken =
      fill_of_root class (fill_of class) p.heap.pool f.plan (root_of p q) f.after titles asked
      (subst IsSound (sym (h.roots q)) (journal_leaves p.told.pools (journals p q) (h.placed.journals q)).sound) (h.bounded.born q)
      (real_in p.version class (of.from, of.real)) f.did

  puts : ArePut q at class titles base f.put f.slots
  puts = subst (λ z. ArePut q at class titles z f.put f.slots) (asked_told q 1 titles asked (placed_in q f.after f.plan p)) f.puts

  four_tallies : q < length p.cached.of
  four_tallies = let a = h.shaped.cached in let b = h.shaped.four in let c = inside in omega arith

  pub put_so : IsPutIn q at class (slot_of class) titles base f.put f.slots
  put_so = put_in q at class (slot_of class) titles base f.put f.slots room four_tallies h.slots.apart taken.len puts

  module _ (u : IsPutIn q at class (slot_of class) titles base f.put f.slots) where
    abbrev pub table : List Slot
    table = p.table ++ u.news

    pub grown_by : IsGrown p.table table u.news
    grown_by = record {
      table = refl;
      apart = u.apart;
      unissued = λ x among. let (t, member, e) = u.new_is x among in ap (λ (z : Slot). z.word.0) e;
    }

    -- the list, and its numbers
    pub list_is : u.places ≡ i ∷ rest
    list_is =
        let there : list_in filled at ≡ get_or u.lists at [] = ap (λ z. list_in z at) (f.acted ∙ ap (acted q (act ∷ [])) u.same) in
        let set_there : get_or u.lists at [] ≡ list_in p at ++ u.places = ap (λ zs. get_or zs at []) u.set_lists ∙
        get_or-set_same p.caches at (list_in p at ++ u.places) [] room in
        let all : list_in p at ++ u.places ≡ u.places = ap (λ zs. zs ++ u.places) empty in
        sym all ∙ sym set_there ∙ sym there ∙ front

    pub numbers : f.slots ≡ map (numbered_at table) (i ∷ rest)
    numbers = u.numbers ∙ ap (map (numbered_at table)) list_is

    pub low_of : (j : ℕ) → Contains (i ∷ rest) j → j < length table
    low_of j among = u.low j (subst (λ z. Contains z j) (sym list_is) among)

    pub name_among : (j : ℕ) → Contains (i ∷ rest) j → Contains (names f.slots) (named_at table j)
    name_among j among =
        map_in (λ (z : Numbered). z.slot) f.slots (numbered_at table j)
        (subst (λ z. Contains z (numbered_at table j)) (sym numbers) (map_in (numbered_at table) (i ∷ rest) j among))

    pub no_cached : caches p thread q class ≡ []
    no_cached = caches_here p thread q class inner (of.from, of.real) ∙ ap (map (numbered_at p.table)) empty

    did : FillDid class (fill_of class) (pool_at region p.told.pools) f.plan (root_at p.told.pools (journals p) q) f.after f.placed
    did =
        subst (λ s. FillDid class (fill_of class) (pool_at region p.told.pools) f.plan s f.after f.placed) (h.roots q)
        (subst (λ z. FillDid class (fill_of class) z f.plan (root_of p q) f.after f.placed) h.plan f.did)

    -- each of them is of the partition, the class and its length
    pub kind_of : (j : ℕ) → Contains (i ∷ rest) j → ((slot_at table j).partition ≡ q) × ((slot_at table j).class ≡ Some class)
    kind_of j among = elim (cases_lt j (length p.table)) [
      | inl old ↦
          let first = first_of titles f.some in
          let is = old_at p.table table u.news grown_by j old in
          let name : Contains (map name_of titles) (named_at p.table j) =
          subst (λ ss. Contains ss (named_at p.table j)) (sym u.named)
          (subst (λ (z : Slot). Contains (names f.slots) (name_of z.title)) is (name_among j among)) in
          let (t, member, e) = map_cases name_of titles (named_at p.table j) name in
          let kind = taken_free region partitions threads ls p thread reg q size class can of empty f.plan f.after f.placed f.did first.0
          first.1 first.2 t member j old (sym e) in
          (ap (λ (z : Slot). z.partition) is ∙ kind.home, ap (λ (z : Slot). z.class) is ∙ kind.of)
      | inr past ↦
          let (t, member, e) = u.new_is (slot_at table j) (new_at p.table table u.news grown_by j past (low_of j among)) in
          (ap (λ (z : Slot). z.partition) e, ap (λ (z : Slot). z.class) e)
    ]

    pub length_of : (j : ℕ) → Contains (i ∷ rest) j → (slot_at table j).title.len ≡ slot_of class
    length_of j among = elim (cases_lt j (length p.table)) [
      | inl old ↦
          let is = old_at p.table table u.news grown_by j old in
          let class_is : (slot_at p.table j).class ≡ Some class = ap (λ (z : Slot). z.class) (sym is) ∙ (kind_of j among).1 in
          ap (λ (z : Slot). z.title.len) is ∙
          (subst (λ c. IsLetOut p.version (journals p) (slot_at p.table j) c) class_is (h.slots.let_out j old)).2
      | inr past ↦
          let (t, member, e) = u.new_is (slot_at table j) (new_at p.table table u.news grown_by j past (low_of j among)) in
          ap (λ (z : Slot). z.title.len) e ∙ taken.len t member
    ]

    -- a slot that came after the others had no name among them
    none_before : (j : ℕ) → length p.table ≤ j → j < length table → NoneNamed p.table (named_at table j)
    none_before j past low l there e =
        let keeps = keeps_grown p.table table u.news grown_by in
        let same : l ≡ j = u.apart l j (let a = keeps.longer in omega arith) low (keeps_named p.table table l keeps there ∙ e) in
        omega arith

    has_numbers : HasNumbers (journals p) q f.slots
    has_numbers m k among is =
        let (j, member, e) = map_cases (numbered_at table) (i ∷ rest) m (subst (λ z. Contains z m) numbers among) in
        let is_j : at_end (Some 0) (moves_of (journals p q) (named_at table j)) ≡ Some k =
        ap (λ (z : Numbered). at_end (Some 0) (moves_of (journals p q) z.slot)) e ∙ is in
        sym (ap (λ (z : Numbered). z.number) e) ∙ elim (cases_lt j (length p.table)) [
          | inl old ↦
              let at_j = old_at p.table table u.news grown_by j old in
              let home : (slot_at p.table j).partition ≡ q = ap (λ (z : Slot). z.partition) (sym at_j) ∙ (kind_of j member).0 in
              let there : at_end (Some 0) (moves_of (journals p q) (named_at p.table j)) ≡ Some k =
              ap (λ (z : Slot). at_end (Some 0) (moves_of (journals p q) (name_of z.title))) (sym at_j) ∙ is_j in
              let was : at_end (Some 0) (moves_of (journals p (slot_at p.table j).partition) (named_at p.table j)) ≡ Some k =
              subst (λ z. at_end (Some 0) (moves_of (journals p z) (named_at p.table j)) ≡ Some k) (sym home) there in
              ap (λ (z : Slot). number_of z.word.0) at_j ∙ sym (h.slots.at j k old was)
          | inr past ↦
              let low = low_of j member in
              let nothing : moves_of (journals p q) (named_at table j) ≡ [] =
              h.slots.others q (named_at table j) (none_before j past low) in
              let zero_is : Some 0 ≡ Some k = sym (ap (at_end (Some 0)) nothing) ∙ is_j in
              ap number_of (grown_by.unissued (slot_at table j) (new_at p.table table u.news grown_by j past low)) ∙ some_same 0 k zero_is
        ]
      where
        some_same : (a b : ℕ) → Some a ≡ Some b → a ≡ b
        some_same a b e = cc

    pub called : IsCalled region partitions n (played_at (rules_at p) ls thread (ops.Alloc reg q size)
        (answers.Made (seen_at table i) (usable_of (rules_at p).version size))) p.told.pools more (journals p) q (act ∷ [])
        (caches p thread)
        (with_list (caches p thread) q class (map (numbered_at table) rest)) f.after f.plan
    called =
        fill_is_done region partitions n q class (usable_of (rules_at p).version size) h.ps
        (played_at (rules_at p) ls thread (ops.Alloc reg q size)
        (answers.Made (seen_at table i) (usable_of (rules_at p).version size))) p.told.pools (journals p) (caches p) (seen_at table i)
        f.slots (map (numbered_at table) rest) f.plan f.after f.placed h.placed refl refl
        (reg, size, refl, of) inside no_cached did u.named has_numbers numbers
