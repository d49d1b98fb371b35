-- A slot that left its root on this line is issued at once.
use Rattle.std.proofs.Common.{◌≡◌, ℕ, ◌+◌, ◌-◌, ◌<◌, ◌≤◌, inl, inr, List, [], ◌∷◌, ◌++◌, length, set, Option, Some, None, refl, sym, ap, ◌∙◌, subst, arith, length-set, length-append, nat_le}
use Rattle.std.specs.Prelude.{Contains, slice_index_or}
use Rattle.std.proofs.lemmas.Bool.{cases_eq, cases_lt}
use Rattle.pa_slot.specs.declared.title.Title.{Title}
use Rattle.pa_slot.specs.declared.word.SlotName.{SlotName}
use Rattle.pa_slot.specs.declared.word.Step.TheVariants as steps
use Rattle.pa_slot.specs.Count.{held_of, refs_of, stepped}
use Rattle.pa_slot.specs.Run.{Mark}
use Rattle.pa_trace.specs.declared.script.Op.TheVariants as ops
use Rattle.pa_trace.specs.declared.script.Line.{Line}
use Rattle.pa_trace.specs.declared.script.Line.TheVariants.{Do}
use Rattle.pa_record.specs.declared.entry.Answer.TheVariants as answers
use Rattle.pa_record.specs.declared.history.CellEntry.{CellEntry}
use Rattle.pa_record.specs.declared.pool.PoolEntry.{PoolEntry}
use Rattle.pa_record.specs.declared.report.Tally.{Tally}
use Rattle.pa_record.specs.declared.root.RootAct.{RootAct}
use Rattle.pa_record.specs.declared.root.RootEntry.{RootEntry}
use Rattle.pa_record.specs.RunText.{NamesSlots}
use Rattle.pa_record.specs.Pool.{PoolState}
use Rattle.pa_record.specs.Spans.{name_of}
use Rattle.pa_record.specs.Root.{Root, new_root}
use Rattle.pa_record.specs.Sound.{IsBornBelow, least_after_all}
use Rattle.pa_lists.proofs.Members.{not_in_none, first_in}
use Rattle.pa_lists.proofs.Joined.{filter_in, flat_in}
use Rattle.pa_record.proofs.Mapping.{born_more}
use Rattle.pa_record.proofs.PoolSteps.{pool_is_sound}
use Rattle.pa_record.proofs.Lawful.{journal_leaves}
use Rattle.pa_slot.proofs.Runs.{same_slot_yes}
use Rattle.pa_rules.specs.Played.{mark_at}
use Rattle.pa_rules.specs.Caches.{Cache, with_cache}
use Rattle.pa_rules.specs.Holders.{Out, Move, moves_by}
use Rattle.pa_rules.specs.Roots.{Journals, journal_at}
use Rattle.pa_rules.specs.Sizes.{usable_of}
use Rattle.pa_legal.specs.Numbers.{all_moves, is_of, moves_of, at_end}
use Rattle.pa_slot.specs.Kinds.{issues, frees, enters, leaves}
use Rattle.pa_legal.proofs.Growing.{numbers_grow}
use Rattle.pa_heap_effects.specs.Deeds.{entries_at, grown, root_at, IsPlacedTo}
use Rattle.pa_heap_effects.specs.Ops.{only_in, IsCalled}
use Rattle.pa_heap_effects.proofs.Acting.{only_here, only_else}
use Rattle.pa_heap_effects.proofs.Extending.{line_extends}
use Rattle.pa_heap_effects.proofs.Single.{next_low}
use Rattle.pa_slot_effects.specs.Turns.{CanPlay, LeadsTo, played_at, after_made}
use Rattle.pa_slot_effects.proofs.Ops.{made_goes_on}
use Rattle.pa_slot_effects.proofs.Starting.{like_is_told}
use Rattle.pa_slot_effects.proofs.Marking.{some_mark}
use Rattle.pa_rules.specs.declared.register.Register.TheVariants.{Own}
use Rattle.pa_player.specs.declared.heap.Heap.{Heap}
use Rattle.pa_player.specs.declared.table.Slot.{Slot}
use Rattle.pa_player.specs.declared.tallies.Tallies.{Tallies}
use Rattle.pa_player.specs.Player.{Player}
use Rattle.pa_player.specs.Tables.{slot_at, named_at, HasNone}
use Rattle.pa_player.specs.Tallies.{tally_at}
use Rattle.pa_player.specs.Told.{Lists}
use Rattle.pa_player.specs.Playing.{shown, journals, caches, root_of, reg_of, register_at, cell_at, IsLetOut, IsMappedAs, AreAllSlots, AreShaped, IsPlaying, rules_at}
use Rattle.pa_player.specs.Changes.{registered, seen_at, tallied_more}
use Rattle.pa_slot_effects.specs.Shown.{IsLike}
use Rattle.pa_player.specs.Plays.{CanGoOn}
use Rattle.pa_player.proofs.Slots.{KeepsSlots, IsSame, IsPlaceOf, keeps_set, keeps_named, keeps_then}
use Rattle.pa_player.proofs.Shaping.{in_longer, shaped_table, shaped_registered, shaped_live, shaped_told, shaped_heap}
use Rattle.pa_player.proofs.Showing.{none_holds, reg_kept, told_kept, regs_registered, with_reg_same, word_set, content_set, usable_stays, plain_stays, at_name}
use Rattle.pa_player.proofs.Alone.{used_away}
use Rattle.pa_player.proofs.Known.{IsKnownSlot, known_at, all_known, all_slots_set}
use Rattle.pa_player.proofs.Counting.{tally_more}
use Rattle.pa_player.proofs.Weighing.{tally_in}
use Rattle.pa_player.proofs.Quiet.{can_play, tally_still}
use Rattle.pa_player.proofs.Copies.{word_as}
use Rattle.pa_player.proofs.Frees.{home_at}
use Rattle.pa_player.proofs.Backs.{let_out_grown, move_by, no_members}
use Rattle.pa_player.proofs.Changing.{journals_acted, of_only, root_here, root_there, heap_called, AreCounted}
use Rattle.pa_player.proofs.Shows.{TellsMore, HasHeap, IsPlayed}
use Rattle.pa_player.proofs.Leaving.{LetsOut, IsToldOn, out_first, out_last, none_some}
use Rattle.pa_player.proofs.Grown.{IsGrown, old_at, keeps_grown, grown_length, new_at, like_grown}
use Rattle.pa_lists.proofs.Elements.{in_one}

module _ (region partitions threads : ℕ) (ls : List Line) (p : Player) (thread reg q size : ℕ)
    (can : CanGoOn region partitions threads ls (Do thread (ops.Alloc reg q size)) p)
    (none : HasNone (register_at p thread reg)) (fits : size ≤ 33521656) (table news : List Slot) (grown_by : IsGrown p.table table news)
    (few : length news ≤ 8)
    (i : ℕ) (low : i < length table) (here : (slot_at table i).partition ≡ q)
    (serves : (slot_at table i).title.len - 8 ≡ usable_of (rules_at p).version size)
    (act : RootAct) (outs : List SlotName) (lets_out : LetsOut act outs) (names_slots : NamesSlots act) (more : List PoolEntry)
    (after : Root) (plan : PoolState) (next : Cache)
    (called : IsCalled region partitions (length ls + 2) (played_at (rules_at p) ls thread (ops.Alloc reg q size)
    (answers.Made (seen_at table i) (usable_of (rules_at p).version size))) p.told.pools more (journals p) q (act ∷ [])
    (caches p thread)
    next after plan) where
  abbrev pub h : IsPlaying region partitions threads ls p
  h = can.playing

  abbrev pub n : ℕ
  n = length ls + 2

  abbrev pub roots : Journals
  roots = grown (journals p) n (only_in q (act ∷ []))

  abbrev pub pools : List PoolEntry
  pools = p.told.pools ++ more

  inside : q < partitions
  inside = can.within.1.1

  -- what the act does with a slot
  acted_moves : (k : ℕ) (s : SlotName) (m : Move) → Contains (moves_of (entries_at n (only_in q (act ∷ []) k)) s) m → (m.way ≡ Out) ×
      Contains outs s × (k ≡ q)
  acted_moves k s m among = elim (cases_eq k q) [
    | inl e ↦
        let (a, member, moves, is) = move_by n (only_in q (act ∷ []) k) s m among in
        let there : Contains (act ∷ []) a = subst (λ z. Contains z a) (ap (only_in q (act ∷ [])) e ∙ only_here q (act ∷ [])) member in
        let (way, out) = lets_out.moves n m (subst (λ z. Contains (moves_by n z) m) (sym (in_one act a there)) moves) in
        (way, subst (λ z. Contains outs z) is out, e)
    | inr ne ↦ absurd (not_in_none m (subst (λ bs. Contains (moves_of (entries_at n bs) s) m) (only_else q k (act ∷ []) ne) among))
  ]

  out_moves : (s : SlotName) → Contains outs s → (m : Move) × Contains (moves_of (entries_at n (only_in q (act ∷ []) q)) s) m
  out_moves s out =
      let (m, member, is) = lets_out.each n s out in
      let all : Contains (all_moves (entries_at n (act ∷ []))) m = flat_in (λ (e : RootEntry). moves_by e.line e.act)
      (entries_at n (act ∷ [])) (record { line = n; act = act }) m (first_in _ []) member in (
        m,
        subst (λ bs. Contains (moves_of (entries_at n bs) s) m) (sym (only_here q (act ∷ [])))
            (filter_in (is_of s) (all_moves (entries_at n (act ∷ []))) m all (same_slot_yes m.slot s is)),
      )

  -- the root had what it let out, and doesn't have it then
  pub had : (s : SlotName) → Contains outs s → (k : ℕ) × (at_end (Some 0) (moves_of (journals p q) s) ≡ Some k)
  had s out =
      let (m, member) = out_moves s out in
      out_first (at_end (Some 0) (moves_of (journals p q) s)) (moves_of (entries_at n (only_in q (act ∷ []) q)) s) m
      (λ z among. (acted_moves q s z among).0) (called.done.deed.numbers q s) member

  at_then : (k : ℕ) (s : SlotName) →
      at_end (Some 0) (moves_of (roots k) s) ≡ at_end (at_end (Some 0) (moves_of (journals p k) s))
      (moves_of (entries_at n (only_in q (act ∷ []) k)) s)
  at_then k s =
      ap (at_end (Some 0)) (numbers_grow.moves (journals p k) (entries_at n (only_in q (act ∷ []) k)) s)
      ∙ numbers_grow.ends (Some 0) (moves_of (journals p k) s) (moves_of (entries_at n (only_in q (act ∷ []) k)) s)

  pub gone : (s : SlotName) → Contains outs s → at_end (Some 0) (moves_of (roots q) s) ≡ None
  gone s out =
      let (m, member) = out_moves s out in
      at_then q s
      ∙ out_last (at_end (Some 0) (moves_of (journals p q) s)) (moves_of (entries_at n (only_in q (act ∷ []) q)) s) m
      (λ z among. (acted_moves q s z among).0) member

  -- a number at which a root has a slot then is one at which it had it
  still_at : (k number : ℕ) (s : SlotName) → at_end (Some 0) (moves_of (roots k) s) ≡ Some number →
      at_end (Some 0) (moves_of (journals p k) s) ≡ Some number
  still_at k number s e = by_moves (moves_of (entries_at n (only_in q (act ∷ []) k)) s) (λ m among. (acted_moves k s m among).0)
      (sym (at_then k s) ∙ e)
    where
      by_moves : (ms : List Move) → ((m : Move) → Contains ms m → m.way ≡ Out) →
          at_end (at_end (Some 0) (moves_of (journals p k) s)) ms ≡ Some number
          → at_end (Some 0) (moves_of (journals p k) s) ≡ Some number
      by_moves [] outs is = is
      by_moves (m ∷ ms) outs is =
          absurd (none_some number (sym (out_last (at_end (Some 0) (moves_of (journals p k) s)) (m ∷ ms) m outs (first_in m ms)) ∙ is))

  -- ---- the slots, before one is issued

  abbrev pub root_then : ℕ → Root
  root_then k = slice_index_or (set p.heap.roots q after) k new_root

  module _ (out_here : Contains outs (named_at table i)) (new_out : (x : Slot) → Contains news x → Contains outs (name_of x.title))
      (new_here : (x : Slot) → Contains news x → x.partition ≡ q)
      (new_let : (x : Slot) → Contains news x → IsLetOut p.version roots x x.class)
      (new_born : (x : Slot) → Contains news x → (name_of x.title).born < length pools)
      (outs_in : (s : SlotName) → Contains outs s → (j : ℕ) × IsPlaceOf table s j)
      (maps_stay : (t : Title) → Contains (root_of p q).maps t → Contains after.maps t)
      (mapped_now : (slot_at table i).class ≡ None → Contains after.maps (slot_at table i).title) where
    roots_low : q < length p.heap.roots
    roots_low = let a = h.shaped.roots in let b = inside in omega arith

    mapped_more : (x : Slot) (class : Option ℕ) → IsMappedAs (root_of p x.partition) x class → IsMappedAs (root_then x.partition) x class
    mapped_more x (Some class) m = tt
    mapped_more x None m = λ used. elim (cases_eq x.partition q) [
      | inl e ↦
          let before : Contains (root_of p q).maps x.title = subst (λ k. Contains (root_of p k).maps x.title) e (m used) in
          subst (λ k. Contains (root_then k).maps x.title) (sym e)
          (subst (λ (r : Root). Contains r.maps x.title) (sym (root_here p.heap.roots q after roots_low)) (maps_stay x.title before))
      | inr ne ↦ subst (λ (r : Root). Contains r.maps x.title) (sym (root_there p.heap.roots q x.partition after ne)) (m used)
    ]

    unused_mapped : (x : Slot) (r : Root) (class : Option ℕ) → x.word.0 ≡ 0 → IsMappedAs r x class
    unused_mapped x r (Some class) e = tt
    unused_mapped x r None e = λ used.
        let idle : held_of x.word.0 + refs_of x.word.0 ≡ 0 = ap (λ w. held_of w + refs_of w) e in absurd (omega arith)

    old_known : (j : ℕ) → j < length p.table → IsKnownSlot p.version partitions pools roots root_then (slot_at p.table j)
    old_known j there =
        let k = known_at partitions p.table p.told.pools (journals p) (root_of p) j h.slots there in
        let x = slot_at p.table j in
        record {
          among = k.among;
          let_out = let_out_grown p.version (journals p) n (only_in q (act ∷ [])) x x.class k.let_out;
          mapped = mapped_more x x.class k.mapped;
          at = λ number e. k.at number (still_at x.partition number (name_of x.title) e);
          born = let b = k.born in let e = length-append p.told.pools more in omega arith;
        }

    new_known : (x : Slot) → Contains news x → IsKnownSlot p.version partitions pools roots root_then x
    new_known x among = record {
      among = let e = new_here x among in let b = inside in omega arith;
      let_out = new_let x among;
      mapped = unused_mapped x (root_then x.partition) x.class (grown_by.unissued x among);
      at = λ number e.
          let back : at_end (Some 0) (moves_of (roots q) (name_of x.title)) ≡ Some number =
          subst (λ k. at_end (Some 0) (moves_of (roots k) (name_of x.title)) ≡ Some number) (new_here x among) e in
          absurd (none_some number (sym (gone (name_of x.title) (new_out x among)) ∙ back));
      born = new_born x among;
    }

    pub placed_slots : AreAllSlots p.version partitions table pools roots root_then
    placed_slots =
        all_known partitions table pools roots root_then
        (λ j there. elim (cases_lt j (length p.table)) [
          | inl old ↦ subst (IsKnownSlot p.version partitions pools roots root_then) (sym (old_at p.table table news grown_by j old))
              (old_known j old)
          | inr past ↦ new_known (slot_at table j) (new_at p.table table news grown_by j past there)
        ])
        grown_by.apart
        (λ k s nobody.
        let before : moves_of (journals p k) s ≡ [] = h.slots.others k s (λ j there e.
        let g = grown_length p.table table news grown_by in
        nobody j (omega arith) (keeps_named p.table table j (keeps_grown p.table table news grown_by) there ∙ e)) in
        let made : moves_of (entries_at n (only_in q (act ∷ []) k)) s ≡ [] = no_members (moves_of (entries_at n (only_in q (act ∷ []) k)) s)
        (λ m among. let (j, at) = outs_in s (acted_moves k s m among).1 in nobody j at.0 at.1) in
        numbers_grow.moves (journals p k) (entries_at n (only_in q (act ∷ []) k)) s ∙
        ap (λ ms. ms ++ moves_of (entries_at n (only_in q (act ∷ []) k)) s) before ∙ made)

    -- ---- the slot that is issued

    abbrev it : Slot
    it = slot_at table i

    abbrev pub issued_slot : Slot
    issued_slot = record (word_as (stepped steps.Issue it.word.0) it) { content = 0 }

    abbrev same : IsSame it issued_slot
    same = record { title = refl; partition = refl; class = refl }

    abbrev pub slots_then : List Slot
    slots_then = set table i issued_slot

    had_here : (k : ℕ) × (at_end (Some 0) (moves_of (journals p it.partition) (named_at table i)) ≡ Some k)
    had_here =
        let (k, e) = had (named_at table i) out_here in
        (k, subst (λ z. at_end (Some 0) (moves_of (journals p z) (named_at table i)) ≡ Some k) (sym here) e)

    -- nobody had it
    free : held_of it.word.0 + refs_of it.word.0 ≡ 0
    free = elim (cases_lt i (length p.table)) [
      | inl old ↦
          let is : it ≡ slot_at p.table i = old_at p.table table news grown_by i old in
          elim (cases_eq (held_of it.word.0 + refs_of it.word.0) 0) [
            | inl e ↦ e
            | inr some ↦
                let used : 0 < held_of (slot_at p.table i).word.0 + refs_of (slot_at p.table i).word.0 =
                subst (λ (z : Slot). 0 < held_of z.word.0 + refs_of z.word.0) is (omega arith) in
                let away = (used_away region partitions threads ls p h i old used).none in
                let (k, e) = had_here in
                let back : at_end (Some 0) (moves_of (journals p (slot_at p.table i).partition) (named_at p.table i)) ≡ Some k =
                subst (λ (z : Slot). at_end (Some 0) (moves_of (journals p z.partition) (name_of z.title)) ≡ Some k) is e in
                absurd (none_some k (sym away ∙ back))
          ]
      | inr past ↦ ap (λ w. held_of w + refs_of w) (grown_by.unissued it (new_at p.table table news grown_by i past low))
    ]

    abbrev grown_player : Player
    grown_player = record p { table = table }

    told_grown : CanPlay threads ls h.ps (shown grown_player) thread
    told_grown =
        let can_before = can_play region partitions threads ls thread (ops.Alloc reg q size) p can in
        record {
          told = like_is_told threads ls h.ps (shown p) (shown grown_player) h.told
              (like_grown partitions threads p table news h.shaped h.slots.apart grown_by);
          among = can_before.among;
          few = can_before.few;
          short = can_before.short;
        }

    turn : LeadsTo threads ls h.ps thread (ops.Alloc reg q size) (answers.Made (seen_at table i) (usable_of (rules_at p).version size))
        (after_made (shown grown_player) thread reg (seen_at table i))
    turn =
        let idle = free in
        made_goes_on threads ls h.ps (shown grown_player) thread reg q size (seen_at table i) told_grown can.within.1.0
        (none_holds table (register_at p thread reg) none) fits
        (sym (at_name (λ z. z.word.0) table i grown_by.apart low)) (omega arith) (omega arith)
        (at_name (λ z. z.title.len - 8) table i grown_by.apart low ∙ serves)
        (ap (λ k. nat_le p.plain_from k) (sym (at_name (λ z. z.partition) table i grown_by.apart low ∙ here)))

    -- ---- the player after the op

    module _ (heap : Heap) (told : Lists) (lists : List (List ℕ)) (cached : Tallies) (told_on : IsToldOn p told more q act)
        (heap_pool : heap.pool ≡ plan) (heap_roots : heap.roots ≡ set p.heap.roots q after)
        (turns : after.turn ≤ (root_of p q).turn + 32768) where
      abbrev pub lives : List Tally
      lives = tallied_more it.partition 1 it.title.len p.live.of

      abbrev pub final : Player
      final = record p {
        heap = heap;
        table = slots_then;
        registers = (registered thread reg (Own i) p).registers;
        caches = lists;
        live = record { of = lives };
        cached = cached;
        told = told;
      }

      keeps_it : KeepsSlots table slots_then
      keeps_it = keeps_set table i issued_slot low same

      slots_final : AreAllSlots p.version partitions slots_then pools roots (root_of final)
      slots_final =
          let issued_then : AreAllSlots p.version partitions slots_then pools roots root_then =
          all_slots_set partitions table pools roots root_then i issued_slot placed_slots low same
          (subst (λ k. at_end (Some 0) (moves_of (roots k) (named_at table i)) ≡ None) (sym here) (gone (named_at table i) out_here))
          (issued_mapped it.class refl) in
          subst (λ rs. AreAllSlots p.version partitions slots_then pools roots (λ k. slice_index_or rs k new_root))
          (sym heap_roots) issued_then
        where
          issued_mapped : (c : Option ℕ) → it.class ≡ c → IsMappedAs (root_then it.partition) issued_slot c
          issued_mapped (Some class) e = tt
          issued_mapped None e = λ used. subst (λ k. Contains (root_then k).maps it.title) (sym here)
              (subst (λ (r : Root). Contains r.maps it.title) (sym (root_here p.heap.roots q after roots_low)) (mapped_now e))

      shows_final : IsLike (after_made (shown grown_player) thread reg (seen_at table i)) (shown final)
      shows_final = record {
        rules = refl;
        regs = λ u k.
            regs_registered p slots_then thread reg (Own i) u k (let a = h.shaped.registers in let b = can.within.0 in omega arith)
            (let a = h.shaped.sixty_four thread can.within.0 in let b = can.within.1.0 in omega arith)
            ∙ with_reg_same (shown grown_player).regs (λ v j. reg_of slots_then (register_at p v j)) thread reg (reg_of table (Own i))
            (reg_of slots_then (Own i)) u k
            (λ v j. reg_kept table slots_then (register_at p v j) keeps_it
            (in_longer (length p.table) (length table) (register_at p v j) (keeps_grown p.table table news grown_by).longer
            (h.shaped.held v j)))
            (reg_kept table slots_then (Own i) keeps_it low);
        held = λ k. told_kept table slots_then (cell_at p k) keeps_it
            (in_longer (length p.table) (length table) (cell_at p k) (keeps_grown p.table table news grown_by).longer (h.shaped.celled k));
        cells = λ k. ap (λ (hs : List (List CellEntry)). slice_index_or hs k []) told_on.histories;
        word = λ s. word_set table i issued_slot s grown_by.apart low same;
        content = λ s is_held. content_set table i issued_slot s grown_by.apart low same;
        usable = λ s stepped_on. usable_stays table i issued_slot s grown_by.apart low same;
        plain = λ s stepped_on. plain_stays p.plain_from table i issued_slot s grown_by.apart low same;
      }

      -- what the pool's entries and the root are then
      placed_then : IsPlacedTo partitions (n + 1) (h.ps ++ played_at (rules_at p) ls thread (ops.Alloc reg q size)
          (answers.Made (seen_at table i) (usable_of (rules_at p).version size)) ∷ []) pools roots (with_cache (caches p) thread next)
      placed_then =
          line_extends partitions n h.ps (played_at (rules_at p) ls thread (ops.Alloc reg q size)
          (answers.Made (seen_at table i) (usable_of (rules_at p).version size))) p.told.pools more (journals p)
          (only_in q (act ∷ [])) (caches p) next h.placed
          called.done.deed

      entries_then : plan.entries ≡ length pools
      entries_then = ap (λ (z : PoolState). z.entries) (sym called.pool) ∙ pool_is_sound.counted region pools

      born_then : IsBornBelow plan.entries after
      born_then =
          let left = journal_leaves pools (roots q) (placed_then.journals q) in
          let below = next_low region partitions (n + 1) (h.ps ++ played_at (rules_at p) ls thread (ops.Alloc reg q size)
          (answers.Made (seen_at table i) (usable_of (rules_at p).version size)) ∷ []) pools roots
          (with_cache (caches p) thread next) placed_then q in
          let e = entries_then in
          subst (λ r. IsBornBelow plan.entries r) called.root
          (born_more (least_after_all 0 (roots q)) plan.entries (root_at pools roots q) (omega arith) left.born)

      heap_final : HasHeap region p final n more (only_in q (act ∷ []))
      heap_final =
          let before : p.heap.pool.entries ≡ length p.told.pools = ap (λ (z : PoolState). z.entries) h.plan ∙
          pool_is_sound.counted region p.told.pools in
          let e = entries_then in
          let l = length-append p.told.pools more in
          heap_called region partitions n (played_at (rules_at p) ls thread (ops.Alloc reg q size)
          (answers.Made (seen_at table i) (usable_of (rules_at p).version size))) p final more q (act ∷ []) (caches p thread) next
          after plan called h.roots
          (ap (λ rs. slice_index_or rs q new_root) heap_roots ∙ root_here p.heap.roots q after roots_low)
          (λ k ne. ap (λ rs. slice_index_or rs k new_root) heap_roots ∙ root_there p.heap.roots q k after ne) heap_pool turns
          (omega arith) born_then h.bounded.born

      tells_final : TellsMore p final n more (only_in q (act ∷ []))
      tells_final = record {
        entries = told_on.entries;
        report = told_on.report;
        line = told_on.line;
        rules = refl;
        phase = refl;
        pools = told_on.pools;
        journals = λ k.
            ap (λ js. journal_at js k) told_on.journals
            ∙ journals_acted p.told.journals q p.told.line (act ∷ []) (let a = h.shaped.journals in let b = inside in omega arith) k
            ∙ ap (λ line. grown (journals p) line (only_in q (act ∷ [])) k) h.line;
        histories = λ k. inl (ap (λ (hs : List (List CellEntry)). slice_index_or hs k []) told_on.histories);
        few = of_only (λ bs. length bs ≤ 512) q (act ∷ []) (omega arith) (omega arith);
        printable = of_only (λ bs. (a : RootAct) → Contains bs a → NamesSlots a) q (act ∷ [])
            (λ a among. subst NamesSlots (in_one act a among) names_slots) (λ a among. absurd (not_in_none a among));
      }

      -- its lists
      module _ (shaped : AreShaped partitions threads (record p { table = table; caches = lists; cached = cached }))
          (counted : AreCounted partitions threads final)
          (lists_then : (t k c : ℕ) → caches final t k c ≡ with_cache (caches p) thread next t k c) where
        shaped_final : AreShaped partitions threads final
        shaped_final =
            let p0 : Player = record p { table = table; caches = lists; cached = cached } in
            let p1 : Player = record p0 { table = slots_then } in
            let s1 : AreShaped partitions threads p1 = shaped_table partitions threads p0 shaped slots_then keeps_it in
            let s2 = shaped_registered partitions threads p1 s1 thread reg (Own i) (omega (arith, low, length-set table i issued_slot)) in
            let p2 : Player = registered thread reg (Own i) p1 in
            let s3 = shaped_live partitions threads p2 s2 lives (length-set p.live.of it.partition _ ∙ h.shaped.live) in
            let p3 : Player = record p2 { live = record { of = lives } } in
            let s4 = shaped_told partitions threads p3 s3 told (ap length told_on.journals ∙ length-set p.told.journals q _)
            (ap length told_on.histories) in
            shaped_heap partitions threads (record p3 { told = told }) s4 heap.pool heap.roots
            (ap length heap_roots ∙ length-set p.heap.roots q _)

        abbrev mark : Mark
        mark = mark_at n (seen_at table i) (Some steps.Issue)

        pub issued_played : IsPlayed region partitions threads ls p final can.playing thread (ops.Alloc reg q size)
            (answers.Made (seen_at table i) (usable_of (rules_at p).version size))
        issued_played =
            let home = home_at table i issued_slot grown_by.apart low same in
            let four = h.shaped.four in
            let some = inside in
            let at_q = here in
            record {
              more = more;
              acts = only_in q (act ∷ []);
              next = next;
              after = after_made (shown grown_player) thread reg (seen_at table i);
              done = called.done;
              turn = turn;
              like = shows_final;
              lists = lists_then;
              told = tells_final;
              heap = heap_final;
              table = record {
                keeps = keeps_then p.table table slots_then (keeps_grown p.table table news grown_by) keeps_it;
                few = let a = length-set table i issued_slot in let b = grown_length p.table table news grown_by in omega arith;
                slots = slots_final;
                shaped = shaped_final;
                marked = λ m e.
                    let slot : named_at table i ≡ m.slot = ap (λ (z : Mark). z.slot) (some_mark mark m e) in
                    (i, (omega (arith, length-set table i issued_slot, low), keeps_named table slots_then i keeps_it low ∙ slot));
              };
              counts = record {
                live = λ k fit.
                    tally_in issues frees slots_then k it.partition it.title.len (named_at table i) (Some mark) (tally_at p.live.of k)
                    (tally_at lives k) home.0 home.1 (λ w. refl) (λ w. refl)
                    (tally_more it.partition 1 it.title.len k p.live.of (omega (arith, at_q, some, four, h.shaped.live)));
                quarantined = λ k fit. tally_still enters leaves slots_then k (Some mark) (tally_at p.quarantined.of k) (λ w. refl)
                    (λ w. refl);
                many = counted.many;
                bytes = counted.bytes;
              };
            }
