-- An allocation that fills its list is played.
use Rattle.std.proofs.Common.{◌≡◌, ℕ, ◌+◌, ◌-◌, ◌*◌, ◌<◌, ◌≤◌, max, inl, inr, List, [], ◌∷◌, ◌++◌, map, length, set, Option, Some, None, refl, sym, ap, ◌∙◌, subst, arith, length-set}
use Rattle.std.specs.Prelude.{Contains, AllPairs, ◌≢◌}
use Rattle.std.proofs.Math.Nat.{mul-add, mul-one, mul-zero}
use Rattle.std.proofs.lemmas.Bool.{cases_lt}
use Rattle.std.proofs.lemmas.List.{get_or-set_same, get_or-set_other, set-set, length-map}
use Rattle.pa_slot.specs.declared.title.Title.{Title}
use Rattle.pa_slot.specs.declared.word.SlotName.{SlotName}
use Rattle.pa_slot.specs.declared.word.Step.TheVariants as steps
use Rattle.pa_slot.specs.Count.{stepped}
use Rattle.pa_buckets.specs.Table.{slot_of}
use Rattle.pa_buckets.specs.Bands.{fill_of, limit_of}
use Rattle.pa_buckets.specs.Classes.{IsClassIn}
use Rattle.pa_buckets.proofs.Facts.{IsRow-of}
use Rattle.pa_trace.specs.declared.script.Op.TheVariants as ops
use Rattle.pa_trace.specs.declared.script.Line.{Line}
use Rattle.pa_trace.specs.declared.script.Line.TheVariants.{Do}
use Rattle.pa_record.specs.declared.entry.Answer.{Answer}
use Rattle.pa_record.specs.declared.entry.Answer.TheVariants as answers
use Rattle.pa_record.specs.declared.numbered.Numbered.{Numbered}
use Rattle.pa_record.specs.declared.pool.PoolEntry.{PoolEntry}
use Rattle.pa_record.specs.declared.report.Tally.{Tally}
use Rattle.pa_record.specs.declared.root.RootAct.{RootAct}
use Rattle.pa_record.specs.declared.root.RootAct.TheVariants.{Fill}
use Rattle.pa_record.specs.Spans.{name_of}
use Rattle.pa_record.specs.Root.{names}
use Rattle.pa_lists.proofs.Members.{first_in, later_in}
use Rattle.pa_lists.proofs.Joined.{map_cases, map_in}
use Rattle.pa_lists.proofs.Pairs.{pairs_head}
use Rattle.pa_rules.specs.Caches.{with_list, with_cache}
use Rattle.pa_rules.specs.Sizes.{usable_of, HasClass}
use Rattle.pa_rules.proofs.Sizes.{sizes_fit}
use Rattle.pa_legal.specs.Numbers.{moves_of, at_end}
use Rattle.pa_heap_effects.specs.Deeds.{grown}
use Rattle.pa_heap_effects.specs.Ops.{only_in, IsCalled, asked_for}
use Rattle.pa_heap_effects.proofs.Acting.{only_here}
use Rattle.pa_heap_effects.proofs.Growing.{grown_new}
use Rattle.pa_heap_effects.proofs.Extending.{line_extends}
use Rattle.pa_heap_effects.proofs.Single.{left_born}
use Rattle.pa_slot_effects.specs.Turns.{played_at}
use Rattle.pa_player.specs.declared.table.Slot.{Slot}
use Rattle.pa_player.specs.declared.tallies.Tallies.{Tallies}
use Rattle.pa_player.specs.Player.{Player}
use Rattle.pa_player.specs.Tables.{no_slot, slot_at, named_at, new_slot, HasNone}
use Rattle.pa_rules.specs.Lists.{no_tally}
use Rattle.pa_player.specs.Tallies.{tally_at}
use Rattle.pa_player.specs.Playing.{journals, caches, numbered_at, list_place, list_at, root_of, register_at, IsLetOut, AreShaped, IsPlaying, rules_at}
use Rattle.pa_rules.specs.declared.register.Register.TheVariants.{Own}
use Rattle.pa_player.specs.Changes.{acted, with_acts, registered, tallied_more, placed_in, list_in, listed, cached_less, issued, made_at, seen_at, tallied_less, IsFilled, IsFilledFirst}
use Rattle.pa_player.specs.Plays.{CanGoOn, Plays, PlaysAfter}
use Rattle.pa_player.proofs.Shaping.{shaped_table, shaped_listed, shaped_cached}
use Rattle.pa_player.proofs.Alone.{listed_away}
use Rattle.pa_player.proofs.Changing.{IsRetallied, counted_changed, caches_changed, other_list, this_list}
use Rattle.pa_player.proofs.Stepping.{map_on, no_list}
use Rattle.pa_player.proofs.Copies.{word_as}
use Rattle.pa_player.proofs.Frees.{set_both}
use Rattle.pa_player.proofs.More.{playing_more}
use Rattle.pa_player.proofs.Shows.{IsPlayed}
use Rattle.pa_player.proofs.Grown.{IsGrown, old_at, keeps_grown}
use Rattle.pa_player.proofs.Issuing.{had, issued_played}
use Rattle.pa_player.proofs.Leaving.{IsToldOn}
use Rattle.pa_player.proofs.Puts.{IsPutIn}
use Rattle.pa_player.proofs.Filled.{IsFillOf, fill_lets, fill_within}
use Rattle.pa_player.proofs.Refilled.{put_so, inside as inside_of, inner as inner_of, room as room_of, taken as taken_of, grown_by as grown_by_of, list_is as list_is_of, numbers as numbers_of, low_of as low_of_of, name_among as name_among_of, no_cached as no_cached_of, kind_of as kind_of_of, length_of as length_of_of, called as called_of}
use Rattle.pa_record.proofs.Leaving.{map_once}
use Rattle.pa_rules.proofs.Versions.{real_in}

module _ (p : Player) (thread reg q size class : ℕ) (none : HasNone (register_at p thread reg))
    (of : IsClassIn p.version (max size 1 + 8) class) (filled : Player)
    (empty : list_in p (list_place p.version p.partitions thread q class) ≡ [])
    (f : IsFilled q (list_place p.version p.partitions thread q class) class p filled) (i : ℕ) (rest : List ℕ)
    (front : list_in filled (list_place p.version p.partitions thread q class) ≡ i ∷ rest) (region partitions threads : ℕ) (ls : List Line)
    (can : CanGoOn region partitions threads ls (Do thread (ops.Alloc reg q size)) p) where
  abbrev h : IsPlaying region partitions threads ls p
  h = can.playing

  abbrev n : ℕ
  n = length ls + 2

  abbrev at : ℕ
  at = list_place p.version p.partitions thread q class

  abbrev titles : List Title
  titles = f.placed.titles.items

  abbrev asked : Option ℕ
  asked = f.placed.pool

  abbrev act : RootAct
  act = Fill class asked f.slots

  abbrev more : List PoolEntry
  more = asked_for n q 1 titles asked

  -- the player after the call, before its slots are put into the list
  abbrev base : Player
  base = record (placed_in q f.after f.plan p) { told = record p.told { pools = p.told.pools ++ asked_for p.told.line q 1 titles asked } }

  inside : q < partitions
  inside = inside_of p thread reg q size class none of filled empty f i rest front region partitions threads ls can

  inner : q < p.partitions
  inner = inner_of p thread reg q size class none of filled empty f i rest front region partitions threads ls can

  room : at < length p.caches
  room = room_of p thread reg q size class none of filled empty f i rest front region partitions threads ls can

  taken : IsFillOf class (fill_of class) (root_of p q) f.after titles
  taken = taken_of p thread reg q size class none of filled empty f i rest front region partitions threads ls can

  module _ (u : IsPutIn q at class (slot_of class) titles base f.put f.slots) where
    abbrev table : List Slot
    table = p.table ++ u.news

    grown_by : IsGrown p.table table u.news
    grown_by = grown_by_of p thread reg q size class none of filled empty f i rest front region partitions threads ls can u

    list_is : u.places ≡ i ∷ rest
    list_is = list_is_of p thread reg q size class none of filled empty f i rest front region partitions threads ls can u

    numbers : f.slots ≡ map (numbered_at table) (i ∷ rest)
    numbers = numbers_of p thread reg q size class none of filled empty f i rest front region partitions threads ls can u

    low_of : (j : ℕ) → Contains (i ∷ rest) j → j < length table
    low_of = low_of_of p thread reg q size class none of filled empty f i rest front region partitions threads ls can u

    name_among : (j : ℕ) → Contains (i ∷ rest) j → Contains (names f.slots) (named_at table j)
    name_among = name_among_of p thread reg q size class none of filled empty f i rest front region partitions threads ls can u

    no_cached : caches p thread q class ≡ []
    no_cached = no_cached_of p thread reg q size class none of filled empty f i rest front region partitions threads ls can u

    kind_of : (j : ℕ) → Contains (i ∷ rest) j → ((slot_at table j).partition ≡ q) × ((slot_at table j).class ≡ Some class)
    kind_of = kind_of_of p thread reg q size class none of filled empty f i rest front region partitions threads ls can u

    length_of : (j : ℕ) → Contains (i ∷ rest) j → (slot_at table j).title.len ≡ slot_of class
    length_of = length_of_of p thread reg q size class none of filled empty f i rest front region partitions threads ls can u

    called : IsCalled region partitions n (played_at (rules_at p) ls thread (ops.Alloc reg q size)
        (answers.Made (seen_at table i) (usable_of (rules_at p).version size))) p.told.pools more (journals p) q (act ∷ [])
        (caches p thread)
        (with_list (caches p thread) q class (map (numbered_at table) rest)) f.after f.plan
    called = called_of p thread reg q size class none of filled empty f i rest front region partitions threads ls can u

    -- ---- after the op

    fits : size ≤ 33521656
    fits = omega (arith, of.fits, (IsRow-of class (real_in p.version class (of.from, of.real))).greatest_slot)

    few_news : length u.news ≤ 8
    few_news = omega (arith, u.few, taken.many, (IsRow-of class (real_in p.version class (of.from, of.real))).few_fill)

    serves : (slot_at table i).title.len - 8 ≡ usable_of (rules_at p).version size
    serves = ap (λ z. z - 8) (length_of i (first_in i rest) ∙ sym (sizes_fit.class (rules_at p).version size class of))

    some_slots : 0 < length f.slots
    some_slots = let e : length f.slots ≡ length (map (numbered_at table) (i ∷ rest)) = ap length numbers in omega arith

    stays_after : (s : SlotName) → Contains (names f.slots) s → (j : ℕ) × ((j < length table) × (named_at table j ≡ s))
    stays_after s among =
        let (m, member, e) = map_cases (λ (z : Numbered). z.slot) f.slots s among in
        let (j, there, is) = map_cases (numbered_at table) (i ∷ rest) m (subst (λ z. Contains z m) numbers member) in
        (j, (low_of j there, ap (λ (z : Numbered). z.slot) is ∙ e))

    new_name : (x : Slot) → Contains u.news x → Contains (names f.slots) (name_of x.title)
    new_name x among =
        let (t, member, e) = u.new_is x among in
        subst (λ ss. Contains ss (name_of x.title)) u.named
        (subst (λ (z : Slot). Contains (map name_of titles) (name_of z.title)) (sym e) (map_in name_of titles t member))

    new_let : (x : Slot) → Contains u.news x → IsLetOut p.version (grown (journals p) n (only_in q (act ∷ []))) x x.class
    new_let x among =
        let (t, member, e) = u.new_is x among in
        let name : Contains (names f.slots) (name_of t) =
        subst (λ (z : Slot). Contains (names f.slots) (name_of z.title)) e (new_name x among) in
        let made : IsLetOut p.version (grown (journals p) n (only_in q (act ∷ []))) (new_slot t q (Some class)) (Some class) = (
          (of.from, of.real),
          (
            record { line = n; act = act },
            asked,
            f.slots,
            grown_new (journals p) n (only_in q (act ∷ [])) q act
                (subst (λ z. Contains z act) (sym (only_here q (act ∷ []))) (first_in act [])),
            refl,
            name,
          ),
          taken.len t member,
        ) in
        subst (λ (z : Slot). IsLetOut p.version (grown (journals p) n (only_in q (act ∷ []))) z z.class) (sym e) made

    born_then : (s : SlotName) → Contains (names f.slots) s → s.born < length (p.told.pools ++ more)
    born_then s among =
        let x = played_at (rules_at p) ls thread (ops.Alloc reg q size)
        (answers.Made (seen_at table i) (usable_of (rules_at p).version size)) in
        let next = with_list (caches p thread) q class (map (numbered_at table) rest) in
        let placed = line_extends partitions n h.ps x p.told.pools more (journals p) (only_in q (act ∷ []))
        (caches p) next h.placed called.done.deed in
        left_born region partitions (n + 1) (h.ps ++ x ∷ []) (p.told.pools ++ more) (grown (journals p) n (only_in q (act ∷ [])))
        (with_cache (caches p) thread next) placed q (record { line = n; act = act }) s
        (grown_new (journals p) n (only_in q (act ∷ [])) q act
        (subst (λ z. Contains z act) (sym (only_here q (act ∷ []))) (first_in act []))) among

    abbrev len : ℕ
    len = (slot_at table i).title.len

    abbrev issued_it : Slot
    issued_it = record (word_as (stepped steps.Issue (slot_at table i).word.0) (slot_at table i)) { content = 0 }

    abbrev lists : List (List ℕ)
    lists = set u.lists at rest

    abbrev cached : Tallies
    cached = record { of = tallied_less q 1 len u.cached }

    lists_are : lists ≡ set p.caches at rest
    lists_are = ap (λ zs. set zs at rest) u.set_lists ∙ set-set p.caches at (list_in p at ++ u.places) rest

    -- the slot isn't after itself, and in no other list
    once : Contains rest i → ⊥
    once among =
        let differ : AllPairs ◌≢◌ (names (map (numbered_at table) (i ∷ rest))) =
        subst (λ z. AllPairs ◌≢◌ (names z)) numbers (subst (λ ss. AllPairs ◌≢◌ ss) u.named (map_once titles taken.differ)) in
        let R : SlotName → SlotName → Type 0 = λ a b. a ≢ b in
        pairs_head R (named_at table i) (named_at table i) (names (map (numbered_at table) rest)) differ
        (map_in (λ (z : Numbered). z.slot) (map (numbered_at table) rest) (numbered_at table i) (map_in (numbered_at table) rest i among))
        refl

    other_slot : (t k c j : ℕ) → t < threads → k < partitions → HasClass p.version c → Contains (list_at p t k c) j → j ≡ i → ⊥
    other_slot t k c j below low real among e =
        let old = (h.shaped.listed t k c j below low real among).0 in
        let away = (listed_away region partitions threads ls p h j t k c below low real among).none in
        let is : slot_at table i ≡ slot_at p.table j = ap (slot_at table) (sym e) ∙ old_at p.table table u.news grown_by j old in
        let root_had = had region partitions threads ls p thread reg q size can none fits table u.news grown_by few_news i
        (low_of i (first_in i rest)) (kind_of i (first_in i rest)).0 serves act (names f.slots)
        (fill_lets class asked f.slots) some_slots more f.after f.plan
        (with_list (caches p thread) q class (map (numbered_at table) rest)) called (named_at table i)
        (name_among i (first_in i rest)) in
        let home : q ≡ (slot_at p.table j).partition = sym (kind_of i (first_in i rest)).0 ∙ ap (λ (z : Slot). z.partition) is in
        let back : at_end (Some 0) (moves_of (journals p (slot_at p.table j).partition) (named_at p.table j)) ≡ Some root_had.0 =
        subst (λ z. at_end (Some 0) (moves_of (journals p z) (named_at p.table j)) ≡ Some root_had.0) home
        (subst (λ (z : Slot). at_end (Some 0) (moves_of (journals p q) (name_of z.title)) ≡ Some root_had.0) is root_had.1) in
        not_both root_had.0 (sym away ∙ back)
      where
        not_both : (k : ℕ) → None ≡ Some k → ⊥
        not_both k e = cc

    -- the player after the op, but for the order in which its slot was set
    abbrev final : Player
    final = record p {
      heap = base.heap;
      table = set table i issued_it;
      registers = (registered thread reg (Own i) p).registers;
      caches = lists;
      live = record { of = tallied_more (slot_at table i).partition 1 len p.live.of };
      cached = cached;
      told = with_acts q (act ∷ []) base.told;
    }

    same_numbers : (xs : List ℕ) → ((j : ℕ) → Contains xs j → j ≡ i → ⊥) →
        map (numbered_at (set table i issued_it)) xs ≡ map (numbered_at table) xs
    same_numbers xs apart = map_on (numbered_at table) (numbered_at (set table i issued_it)) xs
        (λ j among. ap (λ (z : Slot). numbered_at (z ∷ []) 0) (get_or-set_other table i j issued_it no_slot (apart j among)))

    old_numbers : (t k c : ℕ) → k < partitions → HasClass p.version c →
        map (numbered_at (set table i issued_it)) (list_at p t k c) ≡ map (numbered_at p.table) (list_at p t k c)
    old_numbers t k c low real = elim (cases_lt t threads) [
      | inl below ↦
          same_numbers (list_at p t k c) (λ j among. other_slot t k c j below low real among)
          ∙ map_on (numbered_at p.table) (numbered_at table) (list_at p t k c)
          (λ j among. ap (λ (z : Slot). numbered_at (z ∷ []) 0)
          (old_at p.table table u.news grown_by j (h.shaped.listed t k c j below low real among).0))
      | inr past ↦
          let nothing = no_list partitions threads p t k c h.shaped past in
          ap (map (numbered_at (set table i issued_it))) nothing ∙ ap (map (numbered_at p.table)) (sym nothing)
    ]

    lists_then : (t k c : ℕ) →
        caches final t k c ≡ with_cache (caches p) thread (with_list (caches p thread) q class (map (numbered_at table) rest)) t k c
    lists_then t k c =
        caches_changed p final thread q class rest refl refl inner (of.from, of.real)
        (this_list p final thread q class rest refl refl lists_are room)
        (λ v l d low real other.
        ap (map (numbered_at (set table i issued_it)))
        (other_list p final thread q class v l d rest refl refl lists_are inner (of.from, of.real) low real other)
        ∙ old_numbers v l d (subst (λ z. l < z) h.shaped.many low) real)
        t k c
        ∙ ap (λ ys. with_cache (caches p) thread (with_list (caches p thread) q class ys) t k c)
        (same_numbers rest (λ j among e. once (subst (λ z. Contains rest z) e among)))

    length_rest : length rest + 1 ≡ length titles
    length_rest = let a = u.many in let e : length u.places ≡ length (i ∷ rest) = ap length list_is in omega arith

    four_long : length u.cached ≡ 4
    four_long = u.same_length ∙ h.shaped.cached

    long_tallies : q < length u.cached
    long_tallies = let a = four_long in let b = h.shaped.four in let c = inside in omega arith

    retallied : IsRetallied q (length (caches p thread q class)) (length (map (numbered_at table) rest))
        (slot_of class * length (caches p thread q class))
        (slot_of class * length (map (numbered_at table) rest)) p.cached.of cached.of
    retallied =
        let a = u.retallied.slots in
        let b = u.retallied.bytes in
        let c = length_rest in
        let d = length-map rest (numbered_at table) in
        let none_then : length (caches p thread q class) ≡ 0 = ap length no_cached in
        let none_bytes : slot_of class * length (caches p thread q class) ≡ 0 = ap (λ k. slot_of class * k) none_then ∙
        mul-zero (slot_of class) in
        let all_bytes : slot_of class * length titles ≡ slot_of class * length (map (numbered_at table) rest) + slot_of class =
        ap (λ k. slot_of class * k) (sym c ∙ ap (λ k. k + 1) (sym d)) ∙ mul-add (slot_of class) (length (map (numbered_at table) rest)) 1
        ∙ ap (λ k. slot_of class * length (map (numbered_at table) rest) + k) (mul-one (slot_of class)) in
        let e = length_of i (first_in i rest) in
        let less : Tally = record { slots = (tally_at u.cached q).slots - 1; bytes = (tally_at u.cached q).bytes - len } in
        let here : tally_at (set u.cached q less) q ≡ less = get_or-set_same u.cached q less no_tally long_tallies in
        let x : (tally_at cached.of q).slots ≡ (tally_at u.cached q).slots - 1 = ap (λ (z : Tally). z.slots) here in
        let y : (tally_at cached.of q).bytes ≡ (tally_at u.cached q).bytes - len = ap (λ (z : Tally). z.bytes) here in
        record {
          slots = omega arith;
          bytes = omega arith;
          others = λ k ne. get_or-set_other u.cached q k less no_tally ne ∙ u.retallied.others k ne;
        }

    shaped : AreShaped partitions threads (record p { table = table; caches = lists; cached = cached })
    shaped =
        let p1 : Player = record p { table = table } in
        let s1 : AreShaped partitions threads p1 =
        shaped_table partitions threads p h.shaped table (keeps_grown p.table table u.news grown_by) in
        let few : length rest ≤ limit_of class = let a = length_rest in let b = taken.many in
        let c = fill_within class (real_in p.version class (of.from, of.real)) in omega arith in
        let s2 = shaped_listed partitions threads p1 s1 thread q class rest can.within.0 inside (of.from, of.real)
        (λ j among. let kind = kind_of j (later_in i j rest among) in (low_of j (later_in i j rest among), kind.0, kind.1)) few in
        let s3 : AreShaped partitions threads (record p1 { caches = lists }) =
        subst (λ z. AreShaped partitions threads (record p1 { caches = z })) (sym lists_are) s2 in
        shaped_cached partitions threads (record p1 { caches = lists }) s3 cached.of (length-set u.cached q _ ∙ four_long)

    told_on : IsToldOn p (with_acts q (act ∷ []) base.told) more q act
    told_on = record {
      entries = refl;
      report = refl;
      line = refl;
      histories = refl;
      pools = ap (λ line. p.told.pools ++ asked_for line q 1 titles asked) h.line;
      journals = refl;
    }

    some_none : Some class ≡ None → ⊥
    some_none e = cc

    pub fill_played : IsPlayed region partitions threads ls p final can.playing thread (ops.Alloc reg q size)
        (answers.Made (seen_at table i) (usable_of (rules_at p).version size))
    fill_played =
        issued_played region partitions threads ls p thread reg q size can none fits table u.news grown_by few_news i
        (low_of i (first_in i rest)) (kind_of i (first_in i rest)).0 serves act (names f.slots)
        (fill_lets class asked f.slots) some_slots more f.after f.plan
        (with_list (caches p thread) q class (map (numbered_at table) rest)) called
        (name_among i (first_in i rest)) new_name (λ x among. let (t, member, e) = u.new_is x among in ap (λ (z : Slot). z.partition) e)
        new_let (λ x among. born_then (name_of x.title) (new_name x among))
        stays_after (λ t among. subst (λ ts. Contains ts t) (sym taken.maps) among)
        (λ e. absurd (some_none (sym (kind_of i (first_in i rest)).1 ∙ e)))
        base.heap (with_acts q (act ∷ []) base.told) lists cached told_on refl refl
        (let a = taken.turn in let b = (IsRow-of class (real_in p.version class (of.from, of.real))).few_fill in omega arith)
        shaped
        (counted_changed partitions threads thread q class p final (map (numbered_at table) rest) can.within.0
        (real_in p.version class (of.from, of.real))
        (record { many = λ k fit. (h.tallied k fit).many; bytes = λ k fit. (h.tallied k fit).bytes }) lists_then retallied)
        lists_then

    -- the allocation is also played if the slot's word and its content are set one after the other
    pub fill_goes : (r : Player) (answer : Answer) →
        (r ≡ issued thread reg i (cached_less q 1 (slot_at filled.table i).title.len (listed at rest filled))) × (answer ≡ made_at filled i)
        → PlaysAfter region partitions threads ls p thread (ops.Alloc reg q size) r answer
    fill_goes r answer (is, says) =
        let F : List Slot → Player = λ slots. record final { table = slots } in
        let filled_is : filled ≡ acted q (act ∷ []) (record base { table = table; caches = u.lists; cached = record { of = u.cached } }) =
        f.acted ∙ ap (acted q (act ∷ [])) u.same in
        let G : Player → Player = λ z. issued thread reg i (cached_less q 1 (slot_at z.table i).title.len (listed at rest z)) in
        let r_is : r ≡ F (set table i issued_it) =
        is ∙ ap G filled_is ∙ ap F (set_both table i 0 (stepped steps.Issue (slot_at table i).word.0) (low_of i (first_in i rest))) in
        let said : answer ≡ answers.Made (seen_at table i) (usable_of (rules_at p).version size) = says ∙ ap (λ z. made_at z i) filled_is ∙
        ap (λ k. answers.Made (seen_at table i) k) serves in
        subst (λ a. PlaysAfter region partitions threads ls p thread (ops.Alloc reg q size) r a) (sym said)
        (subst (λ z. PlaysAfter region partitions threads ls p thread (ops.Alloc reg q size) z
        (answers.Made (seen_at table i) (usable_of (rules_at p).version size))) (sym r_is)
        (playing_more region partitions threads ls p final can.playing thread (ops.Alloc reg q size)
        (answers.Made (seen_at table i) (usable_of (rules_at p).version size)) can.short fill_played))

-- a list that is empty is filled, and its front is issued
pub fill_plays : (p r : Player) (thread reg q size class : ℕ) (answer : Answer) → HasNone (register_at p thread reg) →
    IsClassIn p.version (max size 1 + 8) class
    → IsFilledFirst thread reg q (list_place p.version p.partitions thread q class) class p r answer →
    Plays p thread (ops.Alloc reg q size) r answer
fill_plays p r thread reg q size class answer none of x region partitions threads ls can =
    fill_goes p thread reg q size class none of x.filled x.empty x.fills x.front.place x.front.rest x.front.front region partitions threads
    ls can
    (put_so p thread reg q size class none of x.filled x.empty x.fills x.front.place x.front.rest x.front.front region partitions threads ls
    can) r answer (x.front.issued, x.front.says)
