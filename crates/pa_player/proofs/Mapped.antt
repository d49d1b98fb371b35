-- An allocation of a direct map.
use Rattle.std.proofs.Common.{◌≡◌, ℕ, ◌+◌, ◌-◌, ◌<◌, inl, inr, List, [], ◌∷◌, ◌++◌, length, set, Option, Some, None, refl, sym, ap, ◌∙◌, subst, arith, length-append}
use Rattle.std.specs.Prelude.{Contains}
use Rattle.std.proofs.lemmas.List.{get_or_push, get_or-set_other}
use Rattle.std.proofs.lemmas.List.Elements.{Contains-append_left, Contains-push}
use Rattle.pa_slot.specs.declared.title.Title.{Title}
use Rattle.pa_slot.specs.declared.word.SlotName.{SlotName}
use Rattle.pa_slot.specs.declared.word.Step.TheVariants as steps
use Rattle.pa_slot.specs.Count.{stepped}
use Rattle.pa_direct.specs.Shapes.{shape_of}
use Rattle.pa_rules.specs.Sizes.{IsMapSize}
use Rattle.pa_trace.specs.declared.script.Op.TheVariants as ops
use Rattle.pa_trace.specs.declared.script.Line.{Line}
use Rattle.pa_trace.specs.declared.script.Line.TheVariants.{Do}
use Rattle.pa_record.specs.declared.entry.Answer.{Answer}
use Rattle.pa_record.specs.declared.entry.Answer.TheVariants as answers
use Rattle.pa_record.specs.declared.pool.PoolEntry.{PoolEntry}
use Rattle.pa_record.specs.declared.pool.PoolAct.TheVariants as pool
use Rattle.pa_record.specs.declared.root.RootAct.{RootAct}
use Rattle.pa_record.specs.declared.root.RootAct.TheVariants.{Map}
use Rattle.pa_record.specs.Pool.{PoolState}
use Rattle.pa_record.specs.Spans.{name_of}
use Rattle.pa_record.specs.Root.{Root, Filled, mapped}
use Rattle.pa_lists.proofs.Members.{not_in_none, first_in, in_cases}
use Rattle.pa_record.proofs.PoolSteps.{pool_is_sound}
use Rattle.pa_rules.specs.Holders.{Out, Move}
use Rattle.pa_rules.specs.Sizes.{usable_of}
use Rattle.pa_rules.proofs.Sizes.{sizes_fit}
use Rattle.pa_heap_effects.specs.Deeds.{grown, root_at}
use Rattle.pa_heap_effects.specs.Pooled.{pool_at}
use Rattle.pa_heap_effects.specs.Ops.{only_in, IsCalled, asked_for, found_by}
use Rattle.pa_heap_effects.proofs.Acting.{only_here}
use Rattle.pa_heap_effects.proofs.Growing.{grown_new}
use Rattle.pa_heap_effects.proofs.Maps.{map_is_done}
use Rattle.pa_slot_effects.specs.Turns.{played_at}
use Rattle.pa_place.specs.Placed.{Maps, MapDid, map_in}
use Rattle.pa_player.specs.declared.table.Slot.{Slot}
use Rattle.pa_player.specs.Player.{Player}
use Rattle.pa_player.specs.Tables.{no_slot, slot_at, named_at, new_slot, HasNone, NoneNamed}
use Rattle.pa_player.specs.Playing.{journals, caches, numbered_at, root_of, register_at, IsLetOut, AreShaped, IsPlaying, rules_at}
use Rattle.pa_player.specs.Changes.{acted, pooled, placed_in, issued, made_at, seen_at, IsMapPlaced, IsMapIssued}
use Rattle.pa_player.specs.Plays.{CanGoOn, Plays, PlaysAfter}
use Rattle.pa_player.proofs.Slots.{IsPlaceOf, named_home, home_place}
use Rattle.pa_player.proofs.Shaping.{shaped_table}
use Rattle.pa_player.proofs.Counting.{cached_slots_same, cached_bytes_same}
use Rattle.pa_player.proofs.Stepping.{caches_kept}
use Rattle.pa_player.proofs.Copies.{word_as}
use Rattle.pa_player.proofs.Frees.{set_both}
use Rattle.pa_player.proofs.Quiet.{cache_same}
use Rattle.pa_player.proofs.More.{playing_more}
use Rattle.pa_player.proofs.Shows.{IsPlayed}
use Rattle.pa_player.proofs.Grown.{IsGrown, old_at, keeps_grown}
use Rattle.pa_player.proofs.Issuing.{issued_played}
use Rattle.pa_player.proofs.Leaving.{LetsOut, IsToldOn}

-- the slot of a direct map that was made, and its root
pub record IsMapOf (len entry : ℕ) (r after : Root) (title : Title) (before : PoolState) : Type 0 where
  pub asked : entry ≡ before.entries
  pub long : title.len ≡ len
  pub born : title.born ≡ entry
  pub root : after ≡ mapped title r

map_of : (len : ℕ) (before next : PoolState) (r after : Root) (titles : List Title) (o : Option ℕ) (entry : ℕ) (title : Title) →
    Maps len before next r (record { root = after; titles = titles }) o
    → o ≡ Some entry → titles ≡ title ∷ [] → IsMapOf len entry r after title before
map_of len before next r after titles None entry title did at is = absurd did
map_of len before next r after titles (Some asked) entry title (None, ask, e) at is =
    let none : titles ≡ [] = ap (λ (f : Filled). f.titles) e in
    let short : length (title ∷ []) ≡ 0 = ap length (sym is ∙ none) in absurd (omega arith)
map_of len before next r after titles (Some asked) entry title (Some first, ask, e) at is =
    let t = map_in first len asked in
    let same : title ≡ t = first_same title t (sym is ∙ ap (λ (f : Filled). f.titles) e) in
    let entries : asked ≡ entry = some_same asked entry at in
    record {
      asked = sym entries ∙ ask.entry;
      long = ap (λ (z : Title). z.len) same;
      born = ap (λ (z : Title). z.born) same ∙ entries;
      root = ap (λ (f : Filled). f.root) e ∙ ap (λ z. mapped z r) (sym same);
    }
  where
    first_same : (a b : Title) → a ∷ [] ≡ b ∷ [] → a ≡ b
    first_same a b e = cc

    some_same : (a b : ℕ) → Some a ≡ Some b → a ≡ b
    some_same a b e = cc

module _ (p : Player) (thread reg q size : ℕ) (none : HasNone (register_at p thread reg)) (direct : IsMapSize p.version size)
    (mapped_to : Player) (i : ℕ)
    (m : IsMapPlaced q (shape_of size).slot (shape_of size).supers p mapped_to i) (region partitions threads : ℕ) (ls : List Line)
    (can : CanGoOn region partitions threads ls (Do thread (ops.Alloc reg q size)) p) where
  abbrev h : IsPlaying region partitions threads ls p
  h = can.playing

  abbrev n : ℕ
  n = length ls + 2

  abbrev title : Title
  title = m.title

  abbrev new : Slot
  new = new_slot title q None

  abbrev act : RootAct
  act = Map m.asked (name_of title) title.len

  abbrev more : List PoolEntry
  more = asked_for n q (shape_of size).supers (title ∷ []) (Some m.asked)

  inside : q < partitions
  inside = can.within.1.1

  is_map : IsMapOf (shape_of size).slot m.asked (root_of p q) m.after title p.heap.pool
  is_map = map_of (shape_of size).slot p.heap.pool m.plan
      (root_of p q) m.after m.placed.titles.items m.placed.pool m.asked title m.did m.asks m.some

  next_entry : m.asked ≡ length p.told.pools
  next_entry = is_map.asked ∙ ap (λ (z : PoolState). z.entries) h.plan ∙ pool_is_sound.counted region p.told.pools

  -- no slot had its name
  is_new : (m.table ≡ p.table ++ new ∷ []) × (i ≡ length p.table) × NoneNamed p.table (name_of title)
  is_new = elim m.home [
    | inl old ↦
        let below = h.slots.born i old.1 in
        let born : (named_at p.table i).born ≡ title.born = ap (λ (s : SlotName). s.born) old.2 in
        let a = is_map.born in
        let b = next_entry in
        absurd (omega arith)
    | inr new ↦ new
  ]

  grown_by : IsGrown p.table m.table (new ∷ [])
  grown_by = record {
    table = is_new.0;
    apart = named_home p.table m.table new i h.slots.apart m.home;
    unissued = λ x among. subst (λ (z : Slot). z.word.0 ≡ 0) (only x among) refl;
  }
    where
      only : (x : Slot) → Contains (new ∷ []) x → new ≡ x
      only x among = elim (in_cases new x [] among) [ inl e ↦ e | inr nothing ↦ absurd (not_in_none x nothing) ]

  place : IsPlaceOf m.table (name_of title) i
  place = home_place p.table m.table new i m.home

  slot_is : slot_at m.table i ≡ new
  slot_is = ap (λ z. slot_at z i) is_new.0 ∙ get_or_push p.table new no_slot i (sym is_new.1)

  serves : (slot_at m.table i).title.len - 8 ≡ usable_of (rules_at p).version size
  serves = ap (λ (z : Slot). z.title.len - 8) slot_is ∙
      ap (λ k. k - 8) (is_map.long ∙ sym (sizes_fit.direct (rules_at p).version size direct))

  called : IsCalled region partitions n (played_at (rules_at p) ls thread (ops.Alloc reg q size)
      (answers.Made (seen_at m.table i) (usable_of (rules_at p).version size))) p.told.pools more (journals p) q (act ∷ [])
      (caches p thread) (caches p thread)
      m.after m.plan
  called =
      let x = played_at (rules_at p) ls thread (ops.Alloc reg q size)
      (answers.Made (seen_at m.table i) (usable_of (rules_at p).version size)) in
      let did : MapDid (shape_of size).slot (pool_at region p.told.pools) m.plan (root_at p.told.pools (journals p) q) m.after m.placed =
      subst (λ s. MapDid (shape_of size).slot (pool_at region p.told.pools) m.plan s m.after m.placed) (h.roots q)
      (subst (λ z. MapDid (shape_of size).slot z m.plan (root_of p q) m.after m.placed) h.plan m.did) in
      let C : RootAct → Type 0 =
      λ a. IsCalled region partitions n x p.told.pools more (journals p) q (a ∷ []) (caches p thread)
      (caches p thread) m.after m.plan in
      subst C (ap (λ s. Map m.asked s (shape_of size).slot) place.1 ∙ ap (λ k. Map m.asked (name_of title) k) (sym is_map.long))
      (map_is_done region partitions n q size (usable_of (rules_at p).version size) m.asked h.ps x p.told.pools (journals p) (caches p)
      (seen_at m.table i) title m.plan m.after m.placed h.placed refl refl (reg, refl, direct) inside did m.asks m.some (sym place.1))

  lets_out : LetsOut act (name_of title ∷ [])
  lets_out = record {
    moves = λ line z among.
        let mv : Move = record { line = line; slot = name_of title; number = 0; way = Out } in
        elim (in_cases mv z [] among) [
          | inl e ↦ (
            sym (ap (λ (y : Move). y.way) e),
            subst (λ (y : Move). Contains (name_of title ∷ []) y.slot) e (first_in (name_of title) []),
          )
          | inr nothing ↦ absurd (not_in_none z nothing)
        ];
    each = λ line s among.
        let mv : Move = record { line = line; slot = name_of title; number = 0; way = Out } in
        elim (in_cases (name_of title) s [] among) [
          | inl e ↦ (mv, first_in mv [], e)
          | inr nothing ↦ absurd (not_in_none s nothing)
        ];
  }

  only_new : (P : Slot → Type 0) → P new → (x : Slot) → Contains (new ∷ []) x → P x
  only_new P here x among = elim (in_cases new x [] among) [
    | inl e ↦ subst P e here
    | inr nothing ↦ absurd (not_in_none x nothing)
  ]

  let_out : IsLetOut p.version (grown (journals p) n (only_in q (act ∷ []))) new None
  let_out = (
    record { line = n; act = act },
    m.asked,
    grown_new (journals p) n (only_in q (act ∷ [])) q act (subst (λ z. Contains z act) (sym (only_here q (act ∷ []))) (first_in act [])),
    refl,
  )

  abbrev base : Player
  base = record (acted q (act ∷ []) (pooled q (pool.Take (shape_of size).supers (found_by (title ∷ []))) (placed_in q m.after m.plan p)))
      { table = m.table }

  told_on : IsToldOn p base.told more q act
  told_on = record {
    entries = refl;
    report = refl;
    line = refl;
    histories = refl;
    pools = ap (λ (line : ℕ). p.told.pools ++
        record { line = line; partition = q; act = pool.Take (shape_of size).supers (found_by (title ∷ [])) } ∷ []) h.line;
    journals = refl;
  }

  shaped : AreShaped partitions threads (record p { table = m.table })
  shaped = shaped_table partitions threads p h.shaped m.table (keeps_grown p.table m.table (new ∷ []) grown_by)

  abbrev issued_it : Slot
  issued_it = record (word_as (stepped steps.Issue (slot_at m.table i).word.0) (slot_at m.table i)) { content = 0 }

  -- the lists have other slots
  lists_same : (t k c : ℕ) → caches (record p { table = set m.table i issued_it }) t k c ≡ caches p t k c
  lists_same =
      caches_kept partitions threads p (set m.table i issued_it) h.shaped
      (λ t k c j below low real among.
      let there = (h.shaped.listed t k c j below low real among).0 in
      let at = is_new.1 in
      let apart : j ≡ i → ⊥ = λ e. omega arith in
      ap (λ (z : Slot). numbered_at (z ∷ []) 0) (get_or-set_other m.table i j issued_it no_slot apart ∙
      old_at p.table m.table (new ∷ []) grown_by j there))

  pub map_played : IsPlayed region partitions threads ls p (issued thread reg i base) can.playing thread (ops.Alloc reg q size)
      (answers.Made (seen_at m.table i) (usable_of (rules_at p).version size))
  map_played =
      let F : List Slot → Player = λ slots. record (issued thread reg i base) { table = slots } in
      let made = issued_played region partitions threads ls p thread reg q size can none direct.1 m.table (new ∷ []) grown_by
      (omega arith) i place.0 (ap (λ (z : Slot). z.partition) slot_is) serves
      act (name_of title ∷ []) lets_out tt more m.after m.plan (caches p thread) called
      (subst (λ s. Contains (name_of title ∷ []) s) (sym place.1) (first_in (name_of title) []))
      (only_new (λ x. Contains (name_of title ∷ []) (name_of x.title)) (first_in (name_of title) []))
      (only_new (λ x. x.partition ≡ q) refl)
      (only_new (λ x. IsLetOut p.version (grown (journals p) n (only_in q (act ∷ []))) x x.class) let_out)
      (only_new (λ x. (name_of x.title).born < length (p.told.pools ++ more))
      (let a = is_map.born in let b = next_entry in let c = length-append p.told.pools more in omega arith))
      (λ s among. elim (in_cases (name_of title) s [] among) [
        | inl e ↦ (i, (place.0, place.1 ∙ e))
        | inr nothing ↦ absurd (not_in_none s nothing)
      ])
      (λ t among. subst (λ (s : Root). Contains s.maps t) (sym is_map.root) (Contains-append_left (root_of p q).maps (title ∷ []) t among))
      (λ e. subst (λ (s : Root). Contains s.maps (slot_at m.table i).title) (sym is_map.root)
      (subst (λ (z : Slot). Contains ((root_of p q).maps ++ title ∷ []) z.title) (sym slot_is) (Contains-push (root_of p q).maps title)))
      base.heap base.told p.caches p.cached told_on refl refl
      (let e : m.after.turn ≡ (root_of p q).turn = ap (λ (s : Root). s.turn) is_map.root in omega arith)
      shaped
      (record {
        many = λ k fit. (h.tallied k fit).many ∙
            sym (cached_slots_same (caches p) (caches (record p { table = set m.table i issued_it })) threads k lists_same);
        bytes = λ k fit. (h.tallied k fit).bytes ∙
            sym (cached_bytes_same (caches p) (caches (record p { table = set m.table i issued_it })) threads k lists_same);
      })
      (λ t k c. lists_same t k c ∙ cache_same (caches p) thread t k c) in
      subst (λ slots. IsPlayed region partitions threads ls p (F slots) can.playing thread (ops.Alloc reg q size)
      (answers.Made (seen_at m.table i) (usable_of (rules_at p).version size)))
      (sym (set_both m.table i 0 (stepped steps.Issue (slot_at m.table i).word.0) place.0)) made

-- a direct map is made and issued
pub map_plays : (p r : Player) (thread reg q size : ℕ) (answer : Answer) → HasNone (register_at p thread reg) → IsMapSize p.version size
    → IsMapIssued thread reg q (shape_of size).slot (shape_of size).supers p r answer → Plays p thread (ops.Alloc reg q size) r answer
map_plays p r thread reg q size answer none direct u region partitions threads ls can =
    let m = u.placed in
    let played = map_played p thread reg q size none direct u.mapped u.place m region partitions threads ls can in
    let said : answer ≡ answers.Made (seen_at m.table u.place) (usable_of (rules_at p).version size) =
    u.says ∙ ap (λ z. made_at z u.place) m.acted ∙
    ap (λ k. answers.Made (seen_at m.table u.place) k)
    (serves p thread reg q size none direct u.mapped u.place m region partitions threads ls can) in
    let after : r ≡ issued thread reg u.place (base p thread reg q size none direct u.mapped u.place m region partitions threads ls can) =
    u.issued ∙ ap (issued thread reg u.place) m.acted in
    subst (λ a. PlaysAfter region partitions threads ls p thread (ops.Alloc reg q size) r a) (sym said)
    (subst (λ z. PlaysAfter region partitions threads ls p thread (ops.Alloc reg q size) z
    (answers.Made (seen_at m.table u.place) (usable_of (rules_at p).version size))) (sym after)
    (playing_more region partitions threads ls p (issued thread reg u.place
    (base p thread reg q size none direct u.mapped u.place m region partitions threads ls can)) can.playing thread
    (ops.Alloc reg q size)
    (answers.Made (seen_at m.table u.place) (usable_of (rules_at p).version size)) can.short played))
