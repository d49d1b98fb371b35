-- What slots ask that go back to a root: those of a list, and one that a step returned.
use Rattle.std.proofs.Common.{◌≡◌, ℕ, ◌+◌, ◌*◌, ◌<◌, ◌≤◌, List, [], ◌∷◌, map, length, Option, Some, None, refl, sym, ap, ◌∙◌, subst, arith, inl, inr}
use Rattle.std.specs.Prelude.{◌≢◌, All, AllPairs, Contains}
use Rattle.std.proofs.lemmas.Bool.{eq-eqb}
use Rattle.std.proofs.lemmas.List.{length-map}
use Rattle.std.proofs.lemmas.List.Sums.{sum_by-cons}
use Rattle.pa_slot.specs.declared.title.Title.{Title}
use Rattle.pa_slot.specs.declared.word.SlotName.{SlotName}
use Rattle.pa_slot.specs.declared.word.Step.{Step}
use Rattle.pa_slot.specs.Count.{held_of, refs_of}
use Rattle.pa_slot.specs.Run.{IsReturning}
use Rattle.pa_layout.specs.Pages.{super_page_at, supers_for}
use Rattle.pa_buckets.specs.Table.{slot_of}
use Rattle.pa_buckets.proofs.Facts.{IsRow-of}
use Rattle.pa_trace.specs.declared.script.Op.{Op}
use Rattle.pa_trace.specs.declared.script.Line.{Line}
use Rattle.pa_record.specs.declared.entry.Answer.TheVariants as answers
use Rattle.pa_record.specs.declared.numbered.Numbered.{Numbered}
use Rattle.pa_record.specs.declared.taken.Taken.{Taken}
use Rattle.pa_record.specs.Pool.{PoolState, IsOneTake}
use Rattle.pa_record.specs.Root.{Root, names, IsOut}
use Rattle.pa_record.specs.Sound.{IsSound}
use Rattle.pa_record.proofs.Lawful.{journal_leaves}
use Rattle.pa_lists.proofs.Members.{first_in, later_in, in_cases}
use Rattle.pa_record.proofs.PoolSteps.{pool_is_sound}
use Rattle.pa_rules.specs.Played.{step_of}
use Rattle.pa_heap_effects.specs.Ops.{AreOut, Returns, returned_by}
use Rattle.pa_heap_effects.proofs.Returned.{return_is_done}
use Rattle.pa_heap_effects.proofs.Unmapping.{maps_are_taken}
use Rattle.pa_slot_effects.specs.Turns.{played_at}
use Rattle.pa_rules.specs.declared.register.Register.{Register}
use Rattle.pa_player.specs.declared.table.Slot.{Slot}
use Rattle.pa_player.specs.declared.tallies.Tallies.{Tallies}
use Rattle.pa_player.specs.Player.{Player}
use Rattle.pa_player.specs.Tables.{slot_at, named_at}
use Rattle.pa_player.specs.Tallies.{tally_at}
use Rattle.pa_player.specs.Playing.{journals, caches, root_of, list_at, list_place, numbered_at, IsLetOut, IsMappedAs, IsPlaying, rules_at}
use Rattle.pa_player.specs.Changes.{bytes_at, put_front, seen_at}
use Rattle.pa_player.specs.Asks.{CanGive, CanPutBack, CanUnmap, CanTakeBack}
use Rattle.pa_player.proofs.Slots.{KeepsSlots, keeps_named}
use Rattle.pa_player.proofs.OneList.{caches_here}
use Rattle.pa_player.proofs.Counting.{tally_more}
use Rattle.pa_player.proofs.Changing.{list_within}
use Rattle.pa_player.proofs.Alone.{so_far, has_word}
use Rattle.pa_player.proofs.Bounds.{cached_few, place_among}
use Rattle.pa_lists.proofs.Elements.{all_from_members}
use Rattle.pa_rules.proofs.Versions.{real_in}
use Rattle.pa_rules.specs.Sizes.{HasClass}

-- slots of one length
pub bytes_of_one : (slots : List Slot) (len : ℕ) (xs : List ℕ) → ((i : ℕ) → Contains xs i → (slot_at slots i).title.len ≡ len) →
    bytes_at slots xs ≡ len * length xs
bytes_of_one slots len [] one = omega arith
bytes_of_one slots len (x ∷ xs) one =
    let more = sum_by-cons (λ (n : ℕ). n) (slot_at slots x).title.len (map (λ (i : ℕ). (slot_at slots i).title.len) xs) in
    let here = one x (first_in x xs) in
    let rest = bytes_of_one slots len xs (λ i among. one i (later_in x i xs among)) in
    omega arith

-- slots that stay keep their names
pub names_kept : (before after : List Slot) (xs : List ℕ) → KeepsSlots before after → ((i : ℕ) → Contains xs i → i < length before)
    → names (map (numbered_at after) xs) ≡ names (map (numbered_at before) xs)
names_kept before after [] keeps among = refl
names_kept before after (x ∷ xs) keeps among =
    let f : SlotName → List SlotName = λ s. s ∷ names (map (numbered_at after) xs) in
    let g : List SlotName → List SlotName = λ zs. named_at before x ∷ zs in
    ap f (keeps_named before after x keeps (among x (first_in x xs))) ∙
    ap g (names_kept before after xs keeps (λ i there. among i (later_in x i xs there)))

-- slots of these names can go back to the root
abbrev pub AreNamesOut : Root → List SlotName → Type 0
AreNamesOut r ns = All (IsOut r) ns × AllPairs ◌≢◌ ns

module _ (region partitions threads : ℕ) (ls : List Line) (p : Player) (h : IsPlaying region partitions threads ls p) where
  pub root_sound : (q : ℕ) → IsSound (root_of p q)
  root_sound q = subst IsSound (sym (h.roots q)) (journal_leaves p.told.pools (journals p q) (h.placed.journals q)).sound

  pub entries_are : p.heap.pool.entries ≡ length p.told.pools
  entries_are = ap (λ (s : PoolState). s.entries) h.plan ∙ pool_is_sound.counted region p.told.pools

  -- a slot of a list
  pub listed_len : (t q class i : ℕ) → t < threads → q < partitions → HasClass p.version class → Contains (list_at p t q class) i →
      (slot_at p.table i).title.len ≡ slot_of class
  listed_len t q class i below low real among =
      let (inside, home, of) = h.shaped.listed t q class i below low real among in
      (subst (IsLetOut p.version (journals p) (slot_at p.table i)) of (h.slots.let_out i inside)).2

  pub list_length : (t q class : ℕ) → q < partitions → HasClass p.version class → length (caches p t q class) ≡ length (list_at p t q class)
  list_length t q class low real = ap length (caches_here p t q class (omega (arith, low, h.shaped.many)) real) ∙
      length-map (list_at p t q class) (numbered_at p.table)

  -- a list is counted
  pub list_counted : (t q class : ℕ) → t < threads → q < partitions → HasClass p.version class
      → (length (list_at p t q class) ≤ (tally_at p.cached.of q).slots) ×
      (slot_of class * length (list_at p t q class) ≤ (tally_at p.cached.of q).bytes)
  list_counted t q class below low real =
      let same = list_length t q class low real in
      let (slots, bytes) = list_within (caches p) threads t q class below (real_in p.version class real) in
      let product : slot_of class * length (caches p t q class) ≡ slot_of class * length (list_at p t q class) =
      ap (λ n. slot_of class * n) same in
      (omega (arith, same, slots, (h.tallied q low).many), omega (arith, product, bytes, (h.tallied q low).bytes))

-- ---- a slot that a step returned

module _ (region partitions threads : ℕ) (ls : List Line) (p : Player) (h : IsPlaying region partitions threads ls p) (thread : ℕ) (op : Op)
    (short : length ls ≤ 65535) (few : threads ≤ 16)
    (below : thread < threads) (i : ℕ) (inside : i < length p.table) (step : Step) (makes : step_of op ≡ Some step)
    (returning : IsReturning step (slot_at p.table i).word.0)
    (table : List Slot) (keeps : KeepsSlots p.table table) (registers : List (List (Register ℕ))) (live quarantined : Tallies) where
  low : (slot_at p.table i).partition < partitions
  low = h.slots.among i inside

  returns : Returns h.ps (played_at (rules_at p) ls thread op (answers.Done (seen_at p.table i))) (seen_at p.table i)
  returns = record {
    step = step;
    answer = refl;
    makes = makes;
    returning = returning;
    word = has_word region partitions threads ls p h i inside;
  }

  -- to its list
  module _ (class : ℕ) (of : (slot_at p.table i).class ≡ Some class) where
    let_out : IsLetOut p.version (journals p) (slot_at p.table i) (Some class)
    let_out = subst (IsLetOut p.version (journals p) (slot_at p.table i)) of (h.slots.let_out i inside)

    member : (j : ℕ) → Contains (i ∷ list_at p thread (slot_at p.table i).partition class) j → j < length p.table
    member j among = elim (in_cases i j (list_at p thread (slot_at p.table i).partition class) among) [
      | inl e ↦ omega (arith, e, inside)
      | inr rest ↦ (h.shaped.listed thread (slot_at p.table i).partition class j below low let_out.0 rest).0
    ]

    long : (j : ℕ) → Contains (list_at p thread (slot_at p.table i).partition class) j → (slot_at table j).title.len ≡ slot_of class
    long j among =
        ap (λ (t : Title). t.len) (keeps.title j (h.shaped.listed thread (slot_at p.table i).partition class j below low let_out.0 among).0)
        ∙ listed_len region partitions threads ls p h thread (slot_at p.table i).partition class j below low let_out.0 among

    out : AreOut (root_of p (slot_at p.table i).partition)
        (map (numbered_at table) (i ∷ list_at p thread (slot_at p.table i).partition class))
    out =
        let q = (slot_at p.table i).partition in
        let back = return_is_done region partitions (length ls + 2) q class ls h.ps
        (played_at (rules_at p) ls thread op (answers.Done (seen_at p.table i))) p.told.pools (journals p) (caches p)
        (seen_at p.table i) (so_far region partitions threads ls p h) refl returns let_out.1 in
        let here = caches_here p thread q class (omega (arith, low, h.shaped.many)) let_out.0 in
        let N : Root → List Numbered → Type 0 = λ r zs. AreOut r (returned_by (seen_at p.table i) ∷ zs) in
        let a : N (root_of p q) (map (numbered_at p.table) (list_at p thread q class)) =
        subst (N (root_of p q)) here (subst (λ r. N r (caches p thread q class)) (sym (h.roots q)) back.0) in
        subst (AreNamesOut (root_of p q)) (sym (names_kept p.table table (i ∷ list_at p thread q class) keeps member)) a

    gives : CanGive (slot_at p.table i).partition (i ∷ list_at p thread (slot_at p.table i).partition class)
        (put_front (slot_at p.table i).partition (list_place p.version p.partitions thread (slot_at p.table i).partition class) i
        (record p { table = table; registers = registers; live = live; quarantined = quarantined }))
    gives =
        let q = (slot_at p.table i).partition in
        let xs = list_at p thread q class in
        let kept = (IsRow-of class (real_in p.version class let_out.0)).few_kept in
        let shorter = h.shaped.short thread q class below low let_out.0 in
        let room : q < length p.cached.of = omega (arith, low, h.shaped.four, h.shaped.cached) in
        let more = tally_more q 1 (slot_at table i).title.len q p.cached.of room in
        let slots = rw (eq-eqb q q refl) at more.slots in
        let bytes = rw (eq-eqb q q refl) at more.bytes in
        let counted = list_counted region partitions threads ls p h thread q class below low let_out.0 in
        let first = sum_by-cons (λ (n : ℕ). n) (slot_at table i).title.len (map (λ (j : ℕ). (slot_at table j).title.len) xs) in
        record {
          root = omega (arith, low, h.shaped.roots);
          journal = omega (arith, low, h.shaped.journals);
          four = omega (arith, low, h.shaped.four);
          among = all_from_members (λ j. j < length table) (i ∷ xs) (λ j there. omega (arith, member j there, keeps.longer));
          sound = root_sound region partitions threads ls p h q;
          out = out;
          turn = omega (arith, h.bounded.turns q, short, kept, shorter);
          few = omega (arith, h.bounded.journals q, short, kept, shorter);
          slots = omega (arith, slots, counted.0);
          bytes = omega (arith, bytes, first, bytes_of_one table (slot_of class) xs long, counted.1);
        }

    put_back : CanPutBack thread i (slot_at p.table i).partition class
        (record p { table = table; registers = registers; live = live; quarantined = quarantined })
    put_back =
        let q = (slot_at p.table i).partition in
        let cached = cached_few region partitions threads ls p h q few low in
        record {
          real = let_out.0;
          threads = omega (arith, below, few);
          four = omega (arith, h.shaped.many, h.shaped.four);
          among = omega (arith, low, h.shaped.many);
          at = place_among region partitions threads ls p h thread q class below low let_out.0;
          short = h.shaped.short thread q class below low let_out.0;
          slots = cached.0;
          bytes = cached.1;
          gives = gives;
        }

  -- to the pool
  module _ (of : (slot_at p.table i).class ≡ None)
      (used : 0 < held_of (slot_at p.table i).word.0 + refs_of (slot_at p.table i).word.0) where
    mapped : Contains (root_of p (slot_at p.table i).partition).maps (slot_at p.table i).title
    mapped = subst (IsMappedAs (root_of p (slot_at p.table i).partition) (slot_at p.table i)) of (h.slots.mapped i inside) used

    unmap : CanUnmap i (slot_at p.table i).partition
        (record p { table = table; registers = registers; live = live; quarantined = quarantined })
    unmap =
        let q = (slot_at p.table i).partition in
        let there = subst (λ r. Contains r.maps (slot_at p.table i).title) (h.roots q) mapped in
        let (u, one, whose) = maps_are_taken region partitions (length ls + 2) q h.ps p.told.pools (journals p) (caches p)
        (slot_at p.table i).title h.placed h.pooled there in
        let T : PoolState → Title → Type 0 = λ s t. (v : Taken) × IsOneTake s (super_page_at t.start) (supers_for t.len) v in
        let same = keeps.title i inside in
        record {
          root = omega (arith, low, h.shaped.roots);
          journal = omega (arith, low, h.shaped.journals);
          entries = omega (arith, entries_are region partitions threads ls p h, h.bounded.pools, short);
          few = omega (arith, h.bounded.journals q, short);
          mapped = subst (λ t. Contains (root_of p q).maps t) (sym same) mapped;
          one_take = subst (T p.heap.pool) (sym same) (subst (λ s. T s (slot_at p.table i).title) (sym h.plan) (u, one));
        }

  -- a slot that a step returned can go back
  pub take_back : 0 < held_of (slot_at p.table i).word.0 + refs_of (slot_at p.table i).word.0
      → CanTakeBack thread i (slot_at p.table i).partition (slot_at p.table i).class
      (record p { table = table; registers = registers; live = live; quarantined = quarantined })
  take_back used = by_class (slot_at p.table i).class refl
    where
      by_class : (o : Option ℕ) → (slot_at p.table i).class ≡ o
          → CanTakeBack thread i (slot_at p.table i).partition o
          (record p { table = table; registers = registers; live = live; quarantined = quarantined })
      by_class (Some class) of = put_back class of
      by_class None of = unmap of used
