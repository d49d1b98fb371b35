-- A direct map that a step returned goes back to the pool.
use Rattle.std.proofs.Common.{◌≡◌, ℕ, ◌+◌, ◌<◌, ◌≤◌, List, [], ◌∷◌, ◌++◌, length, set, Option, Some, None, refl, sym, ap, ◌∙◌, subst, arith, length-set, inl, inr}
use Rattle.std.specs.Prelude.{Contains}
use Rattle.std.proofs.lemmas.Bool.{cases_eq}
use Rattle.std.proofs.lemmas.List.{get_or-set_same}
use Rattle.pa_slot.specs.declared.title.Title.{Title}
use Rattle.pa_slot.specs.Count.{number_of, held_of, refs_of}
use Rattle.pa_layout.specs.Pages.{super_page_at, supers_for}
use Rattle.pa_trace.specs.declared.script.Op.{Op}
use Rattle.pa_trace.specs.declared.script.Line.{Line}
use Rattle.pa_trace.specs.declared.script.Line.TheVariants.{Do}
use Rattle.pa_record.specs.declared.entry.Answer.TheVariants.{Done}
use Rattle.pa_record.specs.declared.pool.PoolEntry.{PoolEntry}
use Rattle.pa_record.specs.declared.pool.PoolAct.TheVariants as pool
use Rattle.pa_record.specs.declared.root.RootAct.{RootAct}
use Rattle.pa_record.specs.RunText.{NamesSlots}
use Rattle.pa_record.specs.Pool.{PoolState, gave}
use Rattle.pa_record.specs.Spans.{name_of}
use Rattle.pa_record.specs.Root.{Root, unmapped}
use Rattle.pa_lists.proofs.Members.{not_in_none, in_cases}
use Rattle.pa_record.proofs.Mapping.{unmapped_born}
use Rattle.pa_rules.specs.Caches.{unmap_at}
use Rattle.pa_rules.specs.Holders.{Back, Move, move_of, moves_by}
use Rattle.pa_heap_effects.specs.Deeds.{grown, root_at}
use Rattle.pa_heap_effects.specs.Ops.{only_in, IsCalled, unmap_made}
use Rattle.pa_heap_effects.proofs.Single.{entries_are}
use Rattle.pa_heap_effects.proofs.Unmapped.{unmap_is_done}
use Rattle.pa_slot_effects.specs.Turns.{played_at}
use Rattle.pa_rules.specs.declared.register.Register.{Register}
use Rattle.pa_player.specs.declared.table.Slot.{Slot}
use Rattle.pa_player.specs.declared.tallies.Tallies.{Tallies}
use Rattle.pa_player.specs.Player.{Player}
use Rattle.pa_player.specs.Tables.{no_slot, slot_at, named_at, Points}
use Rattle.pa_player.specs.Playing.{journals, caches, root_of, register_at, IsMappedAs, AreAllSlots, AreShaped, IsPlaying}
use Rattle.pa_player.specs.Changes.{seen_at, unmapped_at}
use Rattle.pa_player.specs.Plays.{CanGoOn}
use Rattle.pa_player.proofs.Slots.{keeps_set}
use Rattle.pa_player.proofs.Shaping.{shaped_told, shaped_heap}
use Rattle.pa_player.proofs.Counting.{cached_slots_same, cached_bytes_same}
use Rattle.pa_player.proofs.Backs.{AllComeBack, slots_back}
use Rattle.pa_player.proofs.Changing.{journals_acted, of_only, root_here, root_there, heap_called}
use Rattle.pa_player.proofs.Shows.{TellsMore, HasHeap, IsPlayed}
use Rattle.pa_player.proofs.Quiet.{cache_same}
use Rattle.pa_player.proofs.Stepping.{changed_at, lists_kept}
use Rattle.pa_player.proofs.Returning.{IsReturn, inside, used, low, returns, stepped_slots, marked}
use Rattle.pa_lists.proofs.Elements.{in_one}
use Rattle.pa_record.proofs.Leaving.{kept_map}

module _ (region partitions threads : ℕ) (ls : List Line) (p : Player) (thread : ℕ) (op : Op)
    (can : CanGoOn region partitions threads ls (Do thread op) p)
    (reg i : ℕ) (small : reg < 64) (points : Points (register_at p thread reg) i) (y : Slot) (registers : List (List (Register ℕ)))
    (lives waits : Tallies)
    (r : IsReturn region partitions threads ls p can.playing thread op i y registers lives waits)
    (is_map : (slot_at p.table i).class ≡ None) where
  abbrev h : IsPlaying region partitions threads ls p
  h = can.playing

  abbrev n : ℕ
  n = length ls + 2

  abbrev home : ℕ
  home = (slot_at p.table i).partition

  abbrev table : List Slot
  table = set p.table i y

  abbrev stepped : Player
  stepped = changed_at p i y registers lives waits

  abbrev title : Title
  title = (slot_at p.table i).title

  abbrev final : Player
  final = unmapped_at home i stepped

  abbrev act : RootAct
  act = unmap_at (length p.told.pools) (named_at p.table i) (number_of (slot_at p.table i).word.0 + 1)

  inside_it : i < length p.table
  inside_it = inside region partitions threads ls p thread op can reg i small points y registers lives waits r

  its_home : home < partitions
  its_home = low region partitions threads ls p thread op can reg i small points y registers lives waits r

  slot_then : slot_at table i ≡ y
  slot_then = get_or-set_same p.table i y no_slot inside_it

  title_then : (slot_at table i).title ≡ title
  title_then = ap (λ (z : Slot). z.title) slot_then ∙ r.same.title

  number_then : number_of (slot_at table i).word.0 ≡ number_of (slot_at p.table i).word.0 + 1
  number_then = ap (λ (z : Slot). number_of z.word.0) slot_then ∙ r.number

  counted : p.heap.pool.entries ≡ length p.told.pools
  counted = ap (λ (z : PoolState). z.entries) h.plan ∙ entries_are region partitions n h.ps p.told.pools (journals p) (caches p) h.placed

  act_then : unmap_at p.heap.pool.entries (named_at table i) (number_of (slot_at table i).word.0) ≡ act
  act_then =
      ap (λ k. unmap_at k (named_at table i) (number_of (slot_at table i).word.0)) counted
      ∙ ap (λ (t : Title). unmap_at (length p.told.pools) (name_of t) (number_of (slot_at table i).word.0)) title_then
      ∙ ap (unmap_at (length p.told.pools) (named_at p.table i)) number_then

  mapped_here : Contains (root_of p home).maps title
  mapped_here = of_none (slot_at p.table i).class is_map (h.slots.mapped i inside_it)
    where
      of_none : (c : Option ℕ) → c ≡ None → IsMappedAs (root_of p home) (slot_at p.table i) c → Contains (root_of p home).maps title
      of_none (Some class) e m = absurd (some_none class e)
        where
          some_none : (k : ℕ) → Some k ≡ None → ⊥
          some_none k e = cc
      of_none None e m = m (used region partitions threads ls p thread op can reg i small points y registers lives waits r)

  called : IsCalled region partitions n (played_at r.after.rules ls thread op (Done (seen_at p.table i))) p.told.pools
      (unmap_made n home title ∷ []) (journals p) home (act ∷ []) (caches p thread) (caches p thread)
      (unmapped (named_at p.table i) (root_of p home)) (gave (super_page_at title.start) p.heap.pool)
  called =
      let x = played_at r.after.rules ls thread op (Done (seen_at p.table i)) in
      let C : Root → PoolState →
      Type 0 = λ s plan. IsCalled region partitions n x p.told.pools (unmap_made n home title ∷ []) (journals p) home (act ∷ [])
      (caches p thread) (caches p thread)
      (unmapped (named_at p.table i) s) (gave (super_page_at title.start) plan) in
      subst (λ s. C s p.heap.pool) (sym (h.roots home)) (subst (λ plan. C (root_at p.told.pools (journals p) home) plan) (sym h.plan)
      (unmap_is_done region partitions n home h.ps x p.told.pools (journals p) (caches p) (seen_at p.table i) title h.placed h.pooled refl
      (returns region partitions threads ls p thread op can reg i small points y registers lives waits r)
      (subst (λ s. Contains s.maps title) (h.roots home) mapped_here) refl))

  journals_low : home < length p.told.journals
  journals_low = let a = h.shaped.journals in let b = its_home in omega arith

  roots_low : home < length p.heap.roots
  roots_low = let a = h.shaped.roots in let b = its_home in omega arith

  root_then : root_of final home ≡ unmapped (named_at p.table i) (root_of p home)
  root_then = root_here p.heap.roots home (unmapped (named_at table i) (root_of p home)) roots_low ∙
      ap (λ (t : Title). unmapped (name_of t) (root_of p home)) title_then

  roots_there : (k : ℕ) → (k ≡ home → ⊥) → root_of final k ≡ root_of p k
  roots_there k ne = root_there p.heap.roots home k (unmapped (named_at table i) (root_of p home)) ne

  tells : TellsMore p final n (unmap_made n home title ∷ []) (only_in home (act ∷ []))
  tells = record {
    entries = refl;
    report = refl;
    line = refl;
    rules = refl;
    phase = refl;
    pools =
        let e : ℕ → Title → List PoolEntry = λ line t. p.told.pools ++
        record { line = line; partition = home; act = pool.Give (supers_for t.len) (super_page_at t.start) } ∷ [] in
        ap (λ line. e line (slot_at table i).title) h.line ∙ ap (e n) title_then;
    journals = λ k.
        journals_acted p.told.journals home p.told.line
        (unmap_at p.heap.pool.entries (named_at table i) (number_of (slot_at table i).word.0) ∷ []) journals_low k
        ∙ ap (λ line. grown (journals p) line
        (only_in home (unmap_at p.heap.pool.entries (named_at table i) (number_of (slot_at table i).word.0) ∷ [])) k) h.line
        ∙ ap (λ a. grown (journals p) n (only_in home (a ∷ [])) k) act_then;
    histories = λ k. inl refl;
    few = of_only (λ bs. length bs ≤ 512) home (act ∷ []) (omega arith) (omega arith);
    printable = of_only (λ bs. (a : RootAct) → Contains bs a → NamesSlots a) home (act ∷ [])
        (λ a among. subst NamesSlots (in_one act a among) tt) (λ a among. absurd (not_in_none a among));
  }

  heap_then : HasHeap region p final n (unmap_made n home title ∷ []) (only_in home (act ∷ []))
  heap_then =
      heap_called region partitions n (played_at r.after.rules ls thread op (Done (seen_at p.table i))) p final
      (unmap_made n home title ∷ []) home (act ∷ []) (caches p thread) (caches p thread)
      (unmapped (named_at p.table i) (root_of p home)) (gave (super_page_at title.start) p.heap.pool) called h.roots root_then roots_there
      (ap (λ (t : Title). gave (super_page_at t.start) p.heap.pool) title_then) (omega arith) (omega arith)
      (unmapped_born (named_at p.table i) p.heap.pool.entries (p.heap.pool.entries + 1) (root_of p home) (omega arith)
      (h.bounded.born home)) h.bounded.born

  known : AreAllSlots p.version partitions table p.told.pools (journals p) (root_of p)
  known = stepped_slots region partitions threads ls p thread op can reg i small points y registers lives waits r

  -- another direct map in use is still mapped
  mapped_then : (j : ℕ) → j < length table → (class : Option ℕ) → IsMappedAs (root_of p (slot_at table j).partition) (slot_at table j) class
      → IsMappedAs (root_of final (slot_at table j).partition) (slot_at table j) class
  mapped_then j there (Some class) m = tt
  mapped_then j there None m = λ some.
      let apart : j ≡ i → ⊥ = λ e.
      let idle : held_of (slot_at table j).word.0 + refs_of (slot_at table j).word.0 ≡ 0 =
      ap (λ z. held_of (slot_at table z).word.0 + refs_of (slot_at table z).word.0) e ∙
      ap (λ (z : Slot). held_of z.word.0 + refs_of z.word.0) slot_then ∙ r.idle in
      omega arith in
      elim (cases_eq (slot_at table j).partition home) [
        | inl e ↦
            let other : named_at table j ≡ named_at p.table i →
            ⊥ = λ same. apart (known.apart j i there (omega (arith, length-set p.table i y, inside_it))
            (same ∙ sym (ap name_of title_then))) in
            let before : Contains (root_of p home).maps (slot_at table j).title =
            subst (λ k. Contains (root_of p k).maps (slot_at table j).title) e (m some) in
            let after = kept_map (named_at p.table i) (root_of p home).maps (slot_at table j).title before other in
            subst (λ k. Contains (root_of final k).maps (slot_at table j).title) (sym e)
            (subst (λ (s : Root). Contains s.maps (slot_at table j).title) (sym root_then) after)
        | inr ne ↦ subst (λ (s : Root). Contains s.maps (slot_at table j).title) (sym (roots_there (slot_at table j).partition ne)) (m some)
      ]

  comes_back : AllComeBack table (act ∷ [])
  comes_back a among line m moves =
      let is : act ≡ a = in_one act a among in
      elim (in_cases (move_of line Back (record { slot = named_at p.table i; number = number_of (slot_at p.table i).word.0 + 1 })) m []
      (subst (λ z. Contains (moves_by line z) m) (sym is) moves)) [
        | inl e ↦ (
          sym (ap (λ (z : Move). z.way) e),
          i,
          omega (arith, length-set p.table i y, inside_it),
          sym (ap (λ (z : Move). z.slot) e) ∙ sym (ap name_of title_then),
          sym (ap (λ (z : Move). z.number) e) ∙ sym number_then,
        )
        | inr none ↦ absurd (not_in_none m none)
      ]

  slots_then : AreAllSlots p.version partitions table (p.told.pools ++ unmap_made n home title ∷ [])
      (grown (journals p) n (only_in home (act ∷ []))) (root_of final)
  slots_then =
      slots_back partitions table p.told.pools (unmap_made n home title ∷ []) (journals p) (root_of p) (root_of final) n
      (only_in home (act ∷ [])) known
      (of_only (AllComeBack table) home (act ∷ []) comes_back (λ a among. absurd (not_in_none a among)))
      (λ j there. mapped_then j there (slot_at table j).class (known.mapped j there))

  lists_then : (t k c : ℕ) → caches final t k c ≡ caches p t k c
  lists_then t k c = lists_kept region partitions threads ls p thread op can reg i small points y t k c

  shaped_then : AreShaped partitions threads final
  shaped_then =
      let heap_shape = shaped_heap partitions threads stepped r.shaped final.heap.pool final.heap.roots (length-set p.heap.roots home _) in
      shaped_told partitions threads (record stepped { heap = final.heap }) heap_shape final.told (length-set p.told.journals home _) refl

  pub unmapped_played : IsPlayed region partitions threads ls p (unmapped_at home i stepped) can.playing thread op
      (Done (seen_at p.table i))
  unmapped_played = record {
    more = unmap_made n home title ∷ [];
    acts = only_in home (act ∷ []);
    next = caches p thread;
    after = r.after;
    done = called.done;
    turn = r.turn;
    like = r.like;
    lists = λ t k c. lists_then t k c ∙ cache_same (caches p) thread t k c;
    told = tells;
    heap = heap_then;
    table = record {
      keeps = keeps_set p.table i y inside_it r.same;
      few = omega (arith, length-set p.table i y);
      slots = slots_then;
      shaped = shaped_then;
      marked = marked region partitions threads ls p thread op can reg i small points y registers lives waits r;
    };
    counts = record {
      live = r.live;
      quarantined = r.quarantined;
      many = λ k fits. (h.tallied k fits).many ∙ sym (cached_slots_same (caches p) (caches final) threads k lists_then);
      bytes = λ k fits. (h.tallied k fits).bytes ∙ sym (cached_bytes_same (caches p) (caches final) threads k lists_then);
    };
  }
