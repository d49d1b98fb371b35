-- An allocation for which there is no room.
use Rattle.std.proofs.Common.{◌≡◌, ℕ, ◌+◌, ◌<◌, ◌≤◌, max, List, [], ◌∷◌, ◌++◌, map, length, Option, Some, None, refl, sym, ap, ◌∙◌, subst, arith, length-set, inl, inr, length-append}
use Rattle.std.specs.Prelude.{Contains}
use Rattle.std.proofs.lemmas.Bool.{cases_eq}
use Rattle.pa_slot.specs.Run.{Mark}
use Rattle.pa_buckets.specs.Bands.{fill_of}
use Rattle.pa_direct.specs.Shapes.{shape_of}
use Rattle.pa_trace.specs.declared.script.Op.TheVariants as ops
use Rattle.pa_trace.specs.declared.script.Line.{Line}
use Rattle.pa_trace.specs.declared.script.Line.TheVariants.{Do}
use Rattle.pa_buckets.specs.Classes.{IsClassIn}
use Rattle.pa_record.specs.declared.entry.Answer.TheVariants as answers
use Rattle.pa_record.specs.declared.pool.PoolEntry.{PoolEntry}
use Rattle.pa_record.specs.declared.pool.PoolAct.TheVariants as pool
use Rattle.pa_record.specs.declared.root.RootAct.{RootAct}
use Rattle.pa_record.specs.declared.root.RootAct.TheVariants.{Full}
use Rattle.pa_record.specs.RunText.{NamesSlots}
use Rattle.pa_record.specs.Pool.{PoolState}
use Rattle.pa_record.specs.Root.{Root}
use Rattle.pa_record.specs.Sound.{IsBornBelow}
use Rattle.pa_lists.proofs.Members.{not_in_none}
use Rattle.pa_record.proofs.Mapping.{born_more}
use Rattle.pa_record.proofs.PoolSteps.{pool_is_sound}
use Rattle.pa_rules.specs.Holders.{moves_by}
use Rattle.pa_rules.specs.Played.{mark_of}
use Rattle.pa_heap_effects.specs.Deeds.{grown, root_at, root_after}
use Rattle.pa_heap_effects.specs.Pooled.{pool_at}
use Rattle.pa_heap_effects.specs.Ops.{only_in, IsCalled, asked_for}
use Rattle.pa_heap_effects.proofs.Acting.{only_here}
use Rattle.pa_heap_effects.proofs.Extending.{line_replays}
use Rattle.pa_heap_effects.proofs.Calls.{full_is_done}
use Rattle.pa_heap_effects.proofs.Maps.{full_map_is_done}
use Rattle.pa_slot_effects.specs.Known.{facts_shown}
use Rattle.pa_slot_effects.specs.Turns.{played_at}
use Rattle.pa_slot_effects.proofs.Looking.{none_goes_on, none_mark}
use Rattle.pa_place.specs.Placed.{FillDid, MapDid}
use Rattle.pa_player.specs.Player.{Player}
use Rattle.pa_player.specs.Tables.{slot_at, HasNone}
use Rattle.pa_player.specs.Playing.{shown, journals, caches, root_of, numbered_at, register_at, list_place, IsMappedAs, IsPlaying, rules_at}
use Rattle.pa_player.specs.Changes.{acted, pooled, placed_in, list_in, IsUnfilled, IsMapRefused}
use Rattle.pa_player.specs.Plays.{CanGoOn, Plays}
use Rattle.pa_player.proofs.Answers.{request_row}
use Rattle.pa_player.proofs.OneList.{caches_here}
use Rattle.pa_player.proofs.Slots.{keeps_all}
use Rattle.pa_player.proofs.Shaping.{shaped_told, shaped_heap}
use Rattle.pa_player.proofs.Backs.{AllComeBack, slots_back}
use Rattle.pa_player.proofs.Changing.{journals_acted, of_only, root_here, root_there, heap_called}
use Rattle.pa_player.proofs.Shows.{TellsMore, HasHeap, IsPlayed}
use Rattle.pa_player.proofs.Quiet.{can_play, cache_same, like_same, none_adds, AddsNone, counts_still}
use Rattle.pa_player.proofs.More.{playing_more}
use Rattle.pa_lists.proofs.Elements.{in_one}
use Rattle.pa_rules.specs.Sizes.{HasClass}
use Rattle.pa_rules.specs.Sizes.{IsMapSize}

none_some : (m : Mark) → None ≡ Some m → ⊥
none_some m e = cc

module _ (region partitions threads : ℕ) (ls : List Line) (p : Player) (thread reg q size : ℕ)
    (can : CanGoOn region partitions threads ls (Do thread (ops.Alloc reg q size)) p)
    (none : HasNone (register_at p thread reg)) (fits : size ≤ 33521656) (count asked entry : ℕ) (class : Option ℕ) (after : Root)
    (plan : PoolState) where
  abbrev h : IsPlaying region partitions threads ls p
  h = can.playing

  abbrev n : ℕ
  n = length ls + 2

  abbrev made : List PoolEntry
  made = asked_for n q count [] (Some asked)

  abbrev act : RootAct
  act = Full class asked

  abbrev final : Player
  final = acted q (Full class asked ∷ []) (pooled q (pool.Take count None) (placed_in q after plan p))

  module _ (called : IsCalled region partitions n (played_at (rules_at p) ls thread (ops.Alloc reg q size) (answers.Full entry))
      p.told.pools made (journals p) q (act ∷ []) (caches p thread) (caches p thread) after plan) where
    low : q < partitions
    low = can.within.1.1

    -- the root is as it was
    same_root : after ≡ root_of p q
    same_root =
        sym called.root
        ∙ line_replays.roots partitions n h.ps (played_at (rules_at p) ls thread (ops.Alloc reg q size) (answers.Full entry)) p.told.pools
        made (journals p) (only_in q (act ∷ [])) (caches p) (caches p thread) q
        h.placed called.done.deed
        ∙ ap (λ acts. root_after (p.told.pools ++ made) acts (root_at p.told.pools (journals p) q)) (only_here q (act ∷ []))
        ∙ sym (h.roots q)

    entries_then : plan.entries ≡ length p.told.pools + 1
    entries_then =
        ap (λ (z : PoolState). z.entries) (sym called.pool) ∙ pool_is_sound.counted region (p.told.pools ++ made) ∙
        length-append p.told.pools made

    entries_here : p.heap.pool.entries ≡ length p.told.pools
    entries_here = ap (λ (z : PoolState). z.entries) h.plan ∙ pool_is_sound.counted region p.told.pools

    root_then : root_of final q ≡ after
    root_then = root_here p.heap.roots q after (let a = h.shaped.roots in let b = low in omega arith)

    roots_there : (k : ℕ) → (k ≡ q → ⊥) → root_of final k ≡ root_of p k
    roots_there k ne = root_there p.heap.roots q k after ne

    roots_same : (k : ℕ) → root_of final k ≡ root_of p k
    roots_same k = elim (cases_eq k q) [
      | inl e ↦ subst (λ j. root_of final j ≡ root_of p j) (sym e) (root_then ∙ same_root)
      | inr ne ↦ roots_there k ne
    ]

    tells : TellsMore p final n made (only_in q (act ∷ []))
    tells = record {
      entries = refl;
      report = refl;
      line = refl;
      rules = refl;
      phase = refl;
      pools = ap (λ (line : ℕ). p.told.pools ++ record { line = line; partition = q; act = pool.Take count None } ∷ []) h.line;
      journals = λ k.
          journals_acted p.told.journals q p.told.line (act ∷ []) (let a = h.shaped.journals in let b = low in omega arith) k
          ∙ ap (λ line. grown (journals p) line (only_in q (act ∷ [])) k) h.line;
      histories = λ k. inl refl;
      few = of_only (λ bs. length bs ≤ 512) q (act ∷ []) (omega arith) (omega arith);
      printable = of_only (λ bs. (a : RootAct) → Contains bs a → NamesSlots a) q (act ∷ [])
          (λ a among. subst NamesSlots (in_one act a among) tt) (λ a among. absurd (not_in_none a among));
    }

    heap_then : HasHeap region p final n made (only_in q (act ∷ []))
    heap_then =
        heap_called region partitions n (played_at (rules_at p) ls thread (ops.Alloc reg q size) (answers.Full entry)) p final made q
        (act ∷ []) (caches p thread) (caches p thread) after plan called h.roots root_then roots_there refl
        (let e : after.turn ≡ (root_of p q).turn = ap (λ (r : Root). r.turn) same_root in omega arith)
        (let a = entries_then in let b = entries_here in omega arith)
        (subst (λ r. IsBornBelow plan.entries r) (sym same_root)
        (born_more p.heap.pool.entries plan.entries (root_of p q) (let a = entries_then in let b = entries_here in omega arith)
        (h.bounded.born q)))
        h.bounded.born

    no_moves : AllComeBack p.table (act ∷ [])
    no_moves a among line m moves = absurd (not_in_none m (subst (λ z. Contains (moves_by line z) m) (sym (in_one act a among)) moves))

    silent : mark_of (played_at (rules_at p) ls thread (ops.Alloc reg q size) (answers.Full entry)) ≡ None
    silent = none_mark n (ops.Alloc reg q size) (answers.Full entry) tt

    pub refused_played : IsPlayed region partitions threads ls p final can.playing thread (ops.Alloc reg q size) (answers.Full entry)
    refused_played = record {
      more = made;
      acts = only_in q (act ∷ []);
      next = caches p thread;
      after = shown p;
      done = called.done;
      turn = none_goes_on threads ls h.ps (shown p) thread (ops.Alloc reg q size) (answers.Full entry)
          (can_play region partitions threads ls thread (ops.Alloc reg q size) p can) tt (λ cell k e. cc)
          (request_row p.table (register_at p thread reg) (facts_shown (shown p))
          ((shown p).regs thread) reg size
          (answers.Full entry) none (inr (inr (fits, entry, refl, λ k. refl))));
      like = like_same (shown p);
      lists = λ t k c. cache_same (caches p) thread t k c;
      told = tells;
      heap = heap_then;
      table = record {
        keeps = keeps_all p.table;
        few = omega arith;
        slots =
            slots_back partitions p.table p.told.pools made (journals p) (root_of p) (root_of final) n (only_in q (act ∷ [])) h.slots
            (of_only (AllComeBack p.table) q (act ∷ []) no_moves (λ a among. absurd (not_in_none a among)))
            (λ j there. subst (λ r. IsMappedAs r (slot_at p.table j) (slot_at p.table j).class)
            (sym (roots_same (slot_at p.table j).partition)) (h.slots.mapped j there));
        shaped =
            shaped_told partitions threads (record p { heap = final.heap })
            (shaped_heap partitions threads p h.shaped final.heap.pool final.heap.roots (length-set p.heap.roots q _)) final.told
            (length-set p.told.journals q _) refl;
        marked = λ m e. absurd (none_some m (sym silent ∙ e));
      };
      counts = counts_still region partitions threads ls p final
          (mark_of (played_at (rules_at p) ls thread (ops.Alloc reg q size) (answers.Full entry))) h
          (subst AddsNone (sym silent) none_adds) refl refl refl (λ t k c. refl);
    }

-- no room for a slot of a class, whose list is empty
pub full_plays : (p r : Player) (thread reg q size class entry : ℕ) → HasNone (register_at p thread reg) → size ≤ 33521656 →
    IsClassIn p.version (max size 1 + 8) class → HasClass p.version class
    → list_in p (list_place p.version p.partitions thread q class) ≡ [] → IsUnfilled q class p r entry →
    Plays p thread (ops.Alloc reg q size) r (answers.Full entry)
full_plays p r thread reg q size class entry none fits of real empty u region partitions threads ls can =
    let h = can.playing in
    let x = played_at (rules_at p) ls thread (ops.Alloc reg q size) (answers.Full entry) in
    let inner : q < p.partitions = subst (λ z. q < z) (sym h.shaped.many) can.within.1.1 in
    let no_list : caches p thread q class ≡ [] = caches_here p thread q class inner real ∙ ap (λ zs. map (numbered_at p.table) zs) empty in
    let did : FillDid class (fill_of class) (pool_at region p.told.pools) u.plan (root_at p.told.pools (journals p) q) u.after u.placed =
    subst (λ s. FillDid class (fill_of class) (pool_at region p.told.pools) u.plan s u.after u.placed) (h.roots q)
    (subst (λ z. FillDid class (fill_of class) z u.plan (root_of p q) u.after u.placed) h.plan u.did) in
    let called = full_is_done region partitions (length ls + 2) q class u.asked entry h.ps x p.told.pools (journals p) (caches p) u.plan
    u.after u.placed h.placed refl refl u.told (reg, size, refl, of) can.within.1.1 no_list
    did u.asks u.none in
    let played = refused_played region partitions threads ls p thread reg q size can none fits 1 u.asked entry
    (Some class) u.after u.plan called in
    playing_more region partitions threads ls p r can.playing thread (ops.Alloc reg q size) (answers.Full entry) can.short
    (subst (λ z. IsPlayed region partitions threads ls p z can.playing thread (ops.Alloc reg q size) (answers.Full entry))
    (sym u.acted) played)

-- no room for a direct map
pub full_map_plays : (p r : Player) (thread reg q size entry : ℕ) → HasNone (register_at p thread reg) → IsMapSize p.version size
    → IsMapRefused q (shape_of size).slot (shape_of size).supers p r entry → Plays p thread (ops.Alloc reg q size) r (answers.Full entry)
full_map_plays p r thread reg q size entry none direct u region partitions threads ls can =
    let h = can.playing in
    let x = played_at (rules_at p) ls thread (ops.Alloc reg q size) (answers.Full entry) in
    let did : MapDid (shape_of size).slot (pool_at region p.told.pools) u.plan (root_at p.told.pools (journals p) q) u.after u.placed =
    subst (λ s. MapDid (shape_of size).slot (pool_at region p.told.pools) u.plan s u.after u.placed) (h.roots q)
    (subst (λ z. MapDid (shape_of size).slot z u.plan (root_of p q) u.after u.placed) h.plan u.did) in
    let called = full_map_is_done region partitions (length ls + 2) q size u.asked entry h.ps x p.told.pools (journals p) (caches p)
    u.plan u.after u.placed h.placed refl refl u.told (reg, refl, direct) can.within.1.1
    did u.asks u.none in
    let played = refused_played region partitions threads ls p thread reg q size can none direct.1
    (shape_of size).supers u.asked entry None u.after u.plan called in
    playing_more region partitions threads ls p r can.playing thread (ops.Alloc reg q size) (answers.Full entry) can.short
    (subst (λ z. IsPlayed region partitions threads ls p z can.playing thread (ops.Alloc reg q size) (answers.Full entry))
    (sym u.acted) played)
