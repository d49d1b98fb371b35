-- A step that returns a slot of a class: to the front of its list, of which a part goes back to the root.
use Rattle.std.proofs.Common.{◌≡◌, ℕ, ◌+◌, ◌*◌, ◌<◌, ◌≤◌, List, [], ◌∷◌, ◌++◌, map, length, set, Option, Some, None, refl, sym, ap, ◌∙◌, subst, arith, length-set, inl, inr}
use Rattle.std.specs.Prelude.{Contains, slice_index_or}
use Rattle.std.proofs.lemmas.Bool.{cases_eq}
use Rattle.std.proofs.lemmas.List.{get_or-set_same, append-nil, length-map}
use Rattle.pa_slot.specs.declared.title.Title.{Title}
use Rattle.pa_slot.specs.declared.word.Step.{Step}
use Rattle.pa_slot.specs.Count.{number_of, held_of, refs_of}
use Rattle.pa_slot.specs.Run.{Mark, IsReturning}
use Rattle.pa_buckets.specs.Table.{slot_of}
use Rattle.pa_buckets.specs.Bands.{limit_of}
use Rattle.pa_buckets.proofs.Facts.{IsRow-of}
use Rattle.pa_trace.specs.declared.script.Op.{Op}
use Rattle.pa_trace.specs.declared.script.Line.{Line}
use Rattle.pa_trace.specs.declared.script.Line.TheVariants.{Do}
use Rattle.pa_record.specs.declared.entry.Seen.{Seen}
use Rattle.pa_record.specs.declared.entry.Answer.TheVariants.{Done}
use Rattle.pa_record.specs.declared.history.CellEntry.{CellEntry}
use Rattle.pa_record.specs.declared.numbered.Numbered.{Numbered}
use Rattle.pa_record.specs.declared.root.RootAct.{RootAct}
use Rattle.pa_record.specs.RunText.{NamesSlots}
use Rattle.pa_record.specs.Spans.{name_of}
use Rattle.pa_record.specs.Root.{Root, names, all_returned}
use Rattle.pa_record.specs.Sound.{IsSound}
use Rattle.pa_lists.proofs.Members.{not_in_none, in_cases}
use Rattle.pa_record.proofs.Returning.{all_returned_is}
use Rattle.pa_record.proofs.Mapping.{born_same}
use Rattle.pa_record.proofs.Lawful.{journal_leaves}
use Rattle.pa_rules.specs.declared.played.Played.{Played}
use Rattle.pa_rules.specs.Played.{step_of, mark_at, mark_of}
use Rattle.pa_rules.specs.Caches.{with_list, with_cache, gives, kept, spilled}
use Rattle.pa_rules.proofs.Batches.{gives_names}
use Rattle.pa_slot.specs.Kinds.{issues, frees, enters, leaves}
use Rattle.pa_heap_effects.specs.Deeds.{grown, root_at}
use Rattle.pa_heap_effects.specs.Pooled.{pool_at}
use Rattle.pa_heap_effects.specs.Ops.{only_in, IsCalled, returned_by, Returns, AreOut}
use Rattle.pa_heap_effects.proofs.Returned.{return_is_done, spilled_out}
use Rattle.pa_slot_effects.specs.Shown.{Shown, IsLike}
use Rattle.pa_slot_effects.specs.Turns.{LeadsTo, played_at}
use Rattle.pa_slot_effects.proofs.Marking.{some_mark}
use Rattle.pa_rules.specs.declared.register.Register.{Register}
use Rattle.pa_player.specs.declared.heap.Heap.{Heap}
use Rattle.pa_player.specs.declared.table.Slot.{Slot}
use Rattle.pa_player.specs.declared.tallies.Tallies.{Tallies}
use Rattle.pa_player.specs.Player.{Player}
use Rattle.pa_player.specs.Tables.{no_slot, slot_at, named_at, Points}
use Rattle.pa_player.specs.Told.{Lists}
use Rattle.pa_player.specs.Tallies.{tally_at}
use Rattle.pa_player.specs.Playing.{shown, journals, caches, root_of, numbered_at, list_place, list_at, register_at, IsLetOut, IsMappedAs, AreAllSlots, AreShaped, IsPlaying, rules_at}
use Rattle.pa_player.specs.Changes.{seen_at, gave_back}
use Rattle.pa_player.specs.Plays.{CanGoOn}
use Rattle.pa_player.proofs.OneList.{caches_here, place_below}
use Rattle.pa_player.proofs.Slots.{IsSame, IsPlaceOf, KeepsSlots, keeps_set, keeps_named}
use Rattle.pa_player.proofs.Shaping.{shaped_listed, shaped_cached, shaped_told, shaped_heap}
use Rattle.pa_player.proofs.Alone.{so_far, has_word, used_away}
use Rattle.pa_player.proofs.Known.{all_slots_set}
use Rattle.pa_player.proofs.Backs.{AllComeBack, slots_back, gives_few, numbered_back}
use Rattle.pa_player.proofs.Changing.{journals_acted, of_only, root_here, root_there, heap_called, caches_changed, other_list, this_list, AreCounted, IsRetallied, counted_changed}
use Rattle.pa_player.proofs.Shows.{TellsMore, HasHeap, IsTallyMore, IsPlayed}
use Rattle.pa_player.proofs.Stepping.{changed_at, in_table, in_use, lists_kept}
use Rattle.pa_rules.proofs.Versions.{real_in}

-- ---- slots that go back to a root

-- what is reported, and the roots, after slots went back to the root of partition q on line n
pub record IsBackIn (p m : Player) (n q : ℕ) (xs : List Numbered) : Type 0 where
  pub entries : m.told.entries ≡ p.told.entries
  pub report : m.told.report ≡ p.told.report
  pub line : m.told.line ≡ p.told.line
  pub rules : rules_at m ≡ rules_at p
  pub phase : m.phase ≡ p.phase
  pub pools : m.told.pools ≡ p.told.pools
  pub histories : m.told.histories ≡ p.told.histories
  pub pool : m.heap.pool ≡ p.heap.pool
  pub here : root_of m q ≡ all_returned (names xs) (root_of p q)
  pub there : (k : ℕ) → (k ≡ q → ⊥) → root_of m k ≡ root_of p k
  pub journals : (k : ℕ) → journals m k ≡ grown (journals p) n (only_in q (gives xs)) k

pub gave_back_in : (p : Player) (q : ℕ) (ys : List ℕ) → q < length p.told.journals → q < length p.heap.roots →
    IsBackIn p (gave_back q ys p) p.told.line q (map (numbered_at p.table) ys)
gave_back_in p q ys low inside =
    let xs = map (numbered_at p.table) ys in
    let r = all_returned (names xs) (root_of p q) in
    record {
      entries = refl;
      report = refl;
      line = refl;
      rules = refl;
      phase = refl;
      pools = refl;
      histories = refl;
      pool = refl;
      here = root_here p.heap.roots q r inside;
      there = λ k ne. root_there p.heap.roots q k r ne;
      journals = λ k. journals_acted p.told.journals q p.told.line (gives xs) low k;
    }

pub none_back : (p : Player) (n q : ℕ) → IsBackIn p p n q []
none_back p n q = record {
  entries = refl;
  report = refl;
  line = refl;
  rules = refl;
  phase = refl;
  pools = refl;
  histories = refl;
  pool = refl;
  here = refl;
  there = λ k ne. refl;
  journals = λ k. sym (append-nil (journals p k)) ∙ of_only (λ bs. journals p k ++ [] ≡ grown (journals p) n (λ _. bs) k) q [] refl refl k;
}

pub back_told : (p m : Player) (n q : ℕ) (xs : List Numbered) → length xs ≤ 4096 → IsBackIn p m n q xs →
    TellsMore p m n [] (only_in q (gives xs))
back_told p m n q xs few back = record {
  entries = back.entries;
  report = back.report;
  line = back.line;
  rules = back.rules;
  phase = back.phase;
  pools = back.pools ∙ sym (append-nil p.told.pools);
  journals = back.journals;
  histories = λ k. inl (ap (λ (hs : List (List CellEntry)). slice_index_or hs k []) back.histories);
  few = of_only (λ bs. length bs ≤ 512) q (gives xs) (let f = gives_few xs in omega arith) (omega arith);
  printable = of_only (λ bs. (a : RootAct) → Contains bs a → NamesSlots a) q (gives xs) (gives_names xs)
      (λ a among. absurd (not_in_none a among));
}

-- the root after slots that were out went back
pub record IsRootBack (r after : Root) (many : ℕ) : Type 0 where
  pub turn : after.turn ≤ r.turn + 2 * many
  pub supers : after.supers ≡ r.supers
  pub maps : after.maps ≡ r.maps

pub root_back : (r : Root) (xs : List Numbered) → IsSound r → AreOut r xs → IsRootBack r (all_returned (names xs) r) (length xs)
root_back r xs sound out =
    let a = all_returned_is (names xs) r sound out.0 out.1 in
    let e : length (names xs) ≡ length xs = length-map xs (λ (n : Numbered). n.slot) in
    record { turn = let t = a.turn in omega arith; supers = a.kept.supers; maps = a.kept.maps }

-- a direct map in use is still mapped in a root with the same direct maps
pub mapped_maps : (r after : Root) (x : Slot) (class : Option ℕ) → after.maps ≡ r.maps → IsMappedAs r x class → IsMappedAs after x class
mapped_maps r after x (Some class) e h = tt
mapped_maps r after x None e h = λ used. subst (λ (ts : List Title). Contains ts x.title) (sym e) (h used)

-- ---- the step

-- A step of the thread on the slot in a place returned it: the slot is y then, and a register and the tallies are these.
pub record IsReturn (region partitions threads : ℕ) (ls : List Line) (p : Player) (h : IsPlaying region partitions threads ls p)
    (thread : ℕ) (op : Op) (i : ℕ) (y : Slot)
    (registers : List (List (Register ℕ))) (lives waits : Tallies) : Type 0 where
  pub step : Step
  pub after : Shown
  pub same : IsSame (slot_at p.table i) y
  pub number : number_of y.word.0 ≡ number_of (slot_at p.table i).word.0 + 1
  pub idle : held_of y.word.0 + refs_of y.word.0 ≡ 0
  pub makes : step_of op ≡ Some step
  pub returning : IsReturning step (slot_at p.table i).word.0
  pub told : mark_of (played_at after.rules ls thread op (Done (seen_at p.table i))) ≡ Some
      (mark_at (length ls + 2) (seen_at p.table i) (Some step))
  pub turn : LeadsTo threads ls h.ps thread op (Done (seen_at p.table i)) after
  pub like : IsLike after (shown (changed_at p i y registers lives waits))
  pub shaped : AreShaped partitions threads (changed_at p i y registers lives waits)
  pub live : (k : ℕ) → k < partitions → IsTallyMore issues frees (set p.table i y) k
      (mark_of (played_at after.rules ls thread op (Done (seen_at p.table i)))) (tally_at p.live.of k) (tally_at lives.of k)
  pub quarantined : (k : ℕ) → k < partitions → IsTallyMore enters leaves (set p.table i y) k
      (mark_of (played_at after.rules ls thread op (Done (seen_at p.table i)))) (tally_at p.quarantined.of k) (tally_at waits.of k)

module _ (region partitions threads : ℕ) (ls : List Line) (p : Player) (thread : ℕ) (op : Op)
    (can : CanGoOn region partitions threads ls (Do thread op) p)
    (reg i : ℕ) (small : reg < 64) (points : Points (register_at p thread reg) i) (y : Slot) (registers : List (List (Register ℕ)))
    (lives waits : Tallies)
    (r : IsReturn region partitions threads ls p can.playing thread op i y registers lives waits) where
  abbrev pub h : IsPlaying region partitions threads ls p
  h = can.playing

  abbrev pub n : ℕ
  n = length ls + 2

  pub inside : i < length p.table
  inside = in_table region partitions threads ls p thread op can reg i small points

  pub used : 0 < held_of (slot_at p.table i).word.0 + refs_of (slot_at p.table i).word.0
  used = in_use region partitions threads ls p thread op can reg i small points

  abbrev pub home : ℕ
  home = (slot_at p.table i).partition

  pub low : home < partitions
  low = h.slots.among i inside

  pub below : thread < threads
  below = can.within.0

  abbrev pub table : List Slot
  table = set p.table i y

  abbrev pub stepped : Player
  stepped = changed_at p i y registers lives waits

  abbrev pub seen : Seen
  seen = seen_at p.table i

  abbrev pub x : Played
  x = played_at r.after.rules ls thread op (Done seen)

  pub returns : Returns h.ps x seen
  returns = record {
    step = r.step;
    answer = refl;
    makes = r.makes;
    returning = r.returning;
    word = has_word region partitions threads ls p h i inside;
  }

  -- the slot at the number that its step left
  pub numbered_then : numbered_at table i ≡ returned_by seen
  numbered_then =
      let f : Slot → Numbered = λ z. record { slot = name_of z.title; number = number_of z.word.0 } in
      ap f (get_or-set_same p.table i y no_slot inside)
      ∙ ap (λ (t : Title). record { slot = name_of t; number = number_of y.word.0 }) r.same.title
      ∙ ap (λ k. record { slot = named_at p.table i; number = k }) r.number

  -- the slots with the step made, before any goes back
  pub stepped_slots : AreAllSlots p.version partitions table p.told.pools (journals p) (root_of p)
  stepped_slots =
      all_slots_set partitions p.table p.told.pools (journals p) (root_of p) i y h.slots inside r.same
      (used_away region partitions threads ls p h i inside used).none
      (idle_mapped (root_of p home) y y.class r.idle)
    where
      idle_mapped : (root : Root) (z : Slot) (class : Option ℕ) → held_of z.word.0 + refs_of z.word.0 ≡ 0 → IsMappedAs root z class
      idle_mapped root z (Some class) idle = tt
      idle_mapped root z None idle = λ some. absurd (omega arith)

  pub marked : (m : Mark) → mark_of x ≡ Some m → (j : ℕ) × IsPlaceOf table m.slot j
  marked m e =
      let slot : named_at p.table i ≡ m.slot = ap (λ (z : Mark). z.slot) (some_mark (mark_at n seen (Some r.step)) m (sym r.told ∙ e)) in
      (i, (omega (arith, length-set p.table i y, inside), keeps_named p.table table i (keeps_set p.table i y inside r.same) inside ∙ slot))

  -- ---- a slot of a class

  module _ (class : ℕ) (is_class : (slot_at p.table i).class ≡ Some class) where
    pub of_class : IsLetOut p.version (journals p) (slot_at p.table i) (Some class)
    of_class = subst (λ c. IsLetOut p.version (journals p) (slot_at p.table i) c) is_class (h.slots.let_out i inside)

    abbrev pub old : List ℕ
    old = list_at p thread home class

    -- its list, with it at the start
    pub front : map (numbered_at table) (i ∷ old) ≡ returned_by seen ∷ caches p thread home class
    front =
        let inner : home < p.partitions = subst (λ z. home < z) (sym h.shaped.many) low in
        let same : map (numbered_at table) old ≡ caches p thread home class =
        sym (caches_here (record p { table = table }) thread home class inner of_class.0) ∙
        lists_kept region partitions threads ls p thread op can reg i small points y thread home class in
        ap (λ m. m ∷ map (numbered_at table) old) numbered_then ∙ ap (λ ms. returned_by seen ∷ ms) same

    pub out_and_called : AreOut (root_at p.told.pools (journals p) home) (returned_by seen ∷ caches p thread home class)
        × IsCalled region partitions n x p.told.pools [] (journals p) home
        (gives (spilled class (returned_by seen ∷ caches p thread home class))) (caches p thread)
        (with_list (caches p thread) home class (kept class (returned_by seen ∷ caches p thread home class)))
        (all_returned (names (spilled class (returned_by seen ∷ caches p thread home class))) (root_at p.told.pools (journals p) home))
        (pool_at region p.told.pools)
    out_and_called =
        return_is_done region partitions n home class ls h.ps x p.told.pools (journals p) (caches p) seen
        (so_far region partitions threads ls p h) refl returns of_class.1

    -- each slot of the list is of its partition and class
    pub among_old : (j : ℕ) → Contains (i ∷ old) j → (j < length table) × ((slot_at table j).partition ≡ home) ×
        ((slot_at table j).class ≡ Some class)
    among_old j among =
        let keeps : KeepsSlots p.table table = keeps_set p.table i y inside r.same in
        let there : (j < length p.table) × ((slot_at p.table j).partition ≡ home) × ((slot_at p.table j).class ≡ Some class) =
        elim (in_cases i j old among) [
          | inl e ↦ subst (λ z. (z < length p.table) × ((slot_at p.table z).partition ≡ home) × ((slot_at p.table z).class ≡ Some class)) e
              (inside, refl, is_class)
          | inr rest ↦ h.shaped.listed thread home class j below low of_class.0 rest
        ] in
        (omega (arith, there.0, keeps.longer), keeps.partition j there.0 ∙ there.1, keeps.class j there.0 ∙ there.2)

    pub len_old : (j : ℕ) → Contains (i ∷ old) j → (slot_at table j).title.len ≡ slot_of class
    len_old j among =
        let a = among_old j among in
        (subst (λ c. IsLetOut p.version (journals p) (slot_at table j) c) a.2 (stepped_slots.let_out j a.0)).2

    -- What stays of the list and what goes back, and the player final.
    module _ (stays back : List ℕ) (heap : Heap) (told : Lists) (lists : List (List ℕ)) (cached : Tallies)
        (was_back : IsBackIn p (record stepped { heap = heap; told = told; caches = lists; cached = cached }) n home
        (map (numbered_at table) back))
        (stays_is : map (numbered_at table) stays ≡ kept class (map (numbered_at table) (i ∷ old)))
        (back_is : map (numbered_at table) back ≡ spilled class (map (numbered_at table) (i ∷ old)))
        (stays_of : (j : ℕ) → Contains stays j → Contains (i ∷ old) j) (back_of : (j : ℕ) → Contains back j → Contains (i ∷ old) j)
        (short : length stays ≤ limit_of class) (parts : length stays + length back ≡ length old + 1)
        (set_lists : lists ≡ set p.caches (list_place p.version p.partitions thread home class) stays)
        (retallied : IsRetallied home (length (caches p thread home class)) (length (map (numbered_at table) stays))
        (slot_of class * length (caches p thread home class))
        (slot_of class * length (map (numbered_at table) stays)) p.cached.of cached.of)
        (four : length cached.of ≡ 4) (many_journals : length told.journals ≡ length p.told.journals)
        (many_roots : length heap.roots ≡ length p.heap.roots) where
      abbrev final : Player
      final = record stepped { heap = heap; told = told; caches = lists; cached = cached }

      abbrev gone : List Numbered
      gone = map (numbered_at table) back

      kept_here : kept class (returned_by seen ∷ caches p thread home class) ≡ map (numbered_at table) stays
      kept_here = ap (kept class) (sym front) ∙ sym stays_is

      spilled_here : spilled class (returned_by seen ∷ caches p thread home class) ≡ gone
      spilled_here = ap (spilled class) (sym front) ∙ sym back_is

      out_here : AreOut (root_of p home) gone
      out_here =
          let whole = spilled_out (root_at p.told.pools (journals p) home) class
          (returned_by seen ∷ caches p thread home class) out_and_called.0 in
          subst (λ z. AreOut z gone) (sym (h.roots home))
          (subst (λ z. AreOut (root_at p.told.pools (journals p) home) z) spilled_here whole)

      called : IsCalled region partitions n x p.told.pools [] (journals p) home (gives gone) (caches p thread)
          (with_list (caches p thread) home class (map (numbered_at table) stays)) (all_returned (names gone) (root_of p home)) p.heap.pool
      called =
          let C : List Numbered → List Numbered → Root → Type 0 =
          λ z k s. IsCalled region partitions n x p.told.pools [] (journals p) home (gives z) (caches p thread)
          (with_list (caches p thread) home class k) (all_returned (names z) s) p.heap.pool in
          let first : C (spilled class (returned_by seen ∷ caches p thread home class))
          (kept class (returned_by seen ∷ caches p thread home class)) (root_at p.told.pools (journals p) home) =
          subst (λ z. IsCalled region partitions n x p.told.pools [] (journals p) home
          (gives (spilled class (returned_by seen ∷ caches p thread home class))) (caches p thread)
          (with_list (caches p thread) home class (kept class (returned_by seen ∷ caches p thread home class)))
          (all_returned (names (spilled class (returned_by seen ∷ caches p thread home class))) (root_at p.told.pools (journals p) home)) z)
          (sym h.plan) out_and_called.1 in
          subst (λ s. C gone (map (numbered_at table) stays) s) (sym (h.roots home))
          (subst (λ k. C gone k (root_at p.told.pools (journals p) home)) kept_here
          (subst (λ z. C z (kept class (returned_by seen ∷ caches p thread home class)) (root_at p.told.pools (journals p) home))
          spilled_here first))

      sound : IsSound (root_of p home)
      sound = subst IsSound (sym (h.roots home)) (journal_leaves p.told.pools (journals p home) (h.placed.journals home)).sound

      root_then : IsRootBack (root_of p home) (all_returned (names gone) (root_of p home)) (length gone)
      root_then = root_back (root_of p home) gone sound out_here

      few_gone : length gone ≤ 4096
      few_gone =
          let a = length-map back (numbered_at table) in
          let b = h.shaped.short thread home class below low of_class.0 in
          let c = (IsRow-of class (real_in p.version class of_class.0)).few_kept in
          omega (arith, a, b, c, parts)

      maps_then : (k : ℕ) → (root_of final k).maps ≡ (root_of p k).maps
      maps_then k = elim (cases_eq k home) [
        | inl e ↦ subst (λ j. (root_of final j).maps ≡ (root_of p j).maps) (sym e)
            (ap (λ (z : Root). z.maps) was_back.here ∙ root_then.maps)
        | inr ne ↦ ap (λ (z : Root). z.maps) (was_back.there k ne)
      ]

      heap_then : HasHeap region p final n [] (only_in home (gives gone))
      heap_then =
          heap_called region partitions n x p final [] home (gives gone) (caches p thread)
          (with_list (caches p thread) home class (map (numbered_at table) stays))
          (all_returned (names gone) (root_of p home)) p.heap.pool called h.roots was_back.here was_back.there was_back.pool
          (omega (arith, root_then.turn, few_gone)) (omega arith)
          (born_same p.heap.pool.entries (root_of p home) (all_returned (names gone) (root_of p home)) root_then.supers root_then.maps
          (h.bounded.born home)) h.bounded.born

      lists_then : (t k c : ℕ) →
          caches final t k c ≡ with_cache (caches p) thread (with_list (caches p thread) home class (map (numbered_at table) stays)) t k c
      lists_then =
          let at_most : home < p.partitions = subst (λ z. home < z) (sym h.shaped.many) low in
          let room : list_place p.version p.partitions thread home class < length p.caches =
          subst (λ z. list_place p.version z thread home class < length p.caches) (sym h.shaped.many)
          (let b = place_below p.version partitions threads thread home class below low of_class.0 in omega (arith, b, h.shaped.lists)) in
          caches_changed p final thread home class stays refl refl at_most of_class.0
          (this_list p final thread home class stays refl refl set_lists room)
          (λ u k c within real other.
          let stays_there : list_at final u k c ≡ list_at p u k c =
          other_list p final thread home class u k c stays refl refl set_lists at_most of_class.0 within real other in
          ap (map (numbered_at table)) stays_there
          ∙ sym (caches_here (record p { table = table }) u k c within real)
          ∙ lists_kept region partitions threads ls p thread op can reg i small points y u k c
          ∙ caches_here p u k c within real)

      counted_then : AreCounted partitions threads final
      counted_then =
          counted_changed partitions threads thread home class p final (map (numbered_at table) stays) below
          (real_in p.version class of_class.0)
          (record { many = λ k fits. (h.tallied k fits).many; bytes = λ k fits. (h.tallied k fits).bytes }) lists_then retallied

      shaped_then : AreShaped partitions threads final
      shaped_then =
          let listed_then : AreShaped partitions threads
          (record stepped { caches = set p.caches (list_place p.version p.partitions thread home class) stays }) =
          shaped_listed partitions threads stepped r.shaped thread home class stays below low of_class.0
          (λ j among. among_old j (stays_of j among)) short in
          let set_then : AreShaped partitions threads (record stepped { caches = lists }) =
          subst (λ z. AreShaped partitions threads (record stepped { caches = z })) (sym set_lists) listed_then in
          let cached_then : AreShaped partitions threads (record stepped { caches = lists; cached = cached }) = shaped_cached partitions
          threads (record stepped { caches = lists }) set_then cached.of four in
          let told_then : AreShaped partitions threads (record stepped { caches = lists; cached = cached; told = told }) =
          shaped_told partitions threads (record stepped { caches = lists; cached = cached }) cached_then told many_journals
          (ap length was_back.histories) in
          shaped_heap partitions threads
          (record stepped { caches = lists; cached = cached; told = told }) told_then heap.pool heap.roots many_roots

      slots_then : AreAllSlots p.version partitions table (p.told.pools ++ []) (grown (journals p) n (only_in home (gives gone)))
          (root_of final)
      slots_then =
          slots_back partitions table p.told.pools [] (journals p) (root_of p) (root_of final) n (only_in home (gives gone)) stepped_slots
          (of_only (AllComeBack table) home (gives gone) (numbered_back table back (λ j among. (among_old j (back_of j among)).0))
          (λ a among. absurd (not_in_none a among)))
          (λ j there. mapped_maps (root_of p (slot_at table j).partition) (root_of final (slot_at table j).partition) (slot_at table j)
          (slot_at table j).class
          (maps_then (slot_at table j).partition) (stepped_slots.mapped j there))

      like_then : IsLike r.after (shown final)
      like_then =
          subst (λ hs. IsLike r.after (record (shown stepped) { cells = λ k. slice_index_or hs k [] })) (sym was_back.histories) r.like

      pub returned_played : IsPlayed region partitions threads ls p final h thread op (Done seen)
      returned_played = record {
        more = [];
        acts = only_in home (gives gone);
        next = with_list (caches p thread) home class (map (numbered_at table) stays);
        after = r.after;
        done = called.done;
        turn = r.turn;
        like = like_then;
        lists = lists_then;
        told = back_told p final n home gone few_gone was_back;
        heap = heap_then;
        table = record {
          keeps = keeps_set p.table i y inside r.same;
          few = omega (arith, length-set p.table i y);
          slots = slots_then;
          shaped = shaped_then;
          marked = marked;
        };
        counts = record { live = r.live; quarantined = r.quarantined; many = counted_then.many; bytes = counted_then.bytes };
      }
