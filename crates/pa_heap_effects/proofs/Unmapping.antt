-- The super pages of a direct map that is mapped are taken: an entry that gave them would have unmapped it.
use Rattle.std.proofs.Common.{◌≡◌, ℕ, zero, suc, ◌+◌, ◌<◌, ◌≤◌, List, [], ◌∷◌, ◌++◌, length, Option, Some, None, refl, sym, ◌∙◌, ap, subst, arith, inl, inr, append_assoc, length-append}
use Rattle.std.specs.Prelude.{Contains, slice_get, option_map}
use Rattle.std.proofs.lemmas.List.{append-nil}
use Rattle.std.proofs.lemmas.List.Elements.{Contains-append_left, Contains-append_right, Contains-append_cases}
use Rattle.pa_slot.specs.declared.title.Title.{Title}
use Rattle.pa_slot.specs.declared.word.SlotName.{SlotName}
use Rattle.pa_layout.specs.Pages.{page_place, super_page_at, supers_for}
use Rattle.pa_record.specs.declared.numbered.Numbered.{Numbered}
use Rattle.pa_record.specs.declared.taken.Taken.{Taken}
use Rattle.pa_record.specs.declared.pool.PoolEntry.{PoolEntry}
use Rattle.pa_record.specs.declared.pool.PoolAct.{PoolAct}
use Rattle.pa_record.specs.declared.pool.PoolAct.TheVariants as pool
use Rattle.pa_record.specs.declared.root.RootEntry.{RootEntry}
use Rattle.pa_record.specs.declared.root.RootAct.{RootAct}
use Rattle.pa_record.specs.declared.root.RootAct.TheVariants.{Fill, Map, Full, Give, Unmap, Purge}
use Rattle.pa_record.specs.Pool.{IsPartitions, act_at, FoundRun}
use Rattle.pa_record.specs.Spans.{name_of}
use Rattle.pa_record.specs.Root.{Root, new_root, root_next, root_replayed, RootReplays, RootActFits, RiseFrom, IsJournal, asked_by, all_asked, map_title}
use Rattle.pa_record.specs.Sound.{AsksFrom, least_after, least_after_all}
use Rattle.pa_record.specs.Laws.{leaves_by, comes_by, times, times_left, times_back, IsNameOut}
use Rattle.pa_lists.proofs.Members.{not_in_none, not_some, of_some, first_in, in_cases}
use Rattle.pa_lists.proofs.Joined.{map_cases, map_in}
use Rattle.pa_record.proofs.Titles.{rise_parts, least_more}
use Rattle.pa_record.proofs.PoolSteps.{slice_get_more, act_of}
use Rattle.pa_record.proofs.Owned.{roots_are_taken}
use Rattle.pa_record.proofs.Lawful.{journal_leaves}
use Rattle.pa_record.proofs.Leaving.{out_is_left}
use Rattle.pa_record.proofs.Asked.{titles_are_asked}
use Rattle.pa_rules.specs.declared.played.Played.{Played}
use Rattle.pa_rules.specs.Roots.{Journals, Names}
use Rattle.pa_rules.specs.Caches.{Caches}
use Rattle.pa_rules.specs.Holders.{Out, Back, Move, move_of, moves_by}
use Rattle.pa_rules.proofs.Owned.{title_of, journal_front}
use Rattle.pa_rules.proofs.Totals.{some_times}
use Rattle.pa_legal.proofs.Naming.{unnamed}
use Rattle.pa_heap_effects.specs.Deeds.{root_at, IsPlacedTo}
use Rattle.pa_heap_effects.specs.Pooled.{pool_at, IsPooledTo}
use Rattle.pa_heap_effects.specs.Ops.{MapsAreTaken}
use Rattle.pa_heap_effects.specs.Shared.{SharePool}
use Rattle.pa_heap_effects.proofs.Numbering.{none_left}
use Rattle.pa_heap_effects.proofs.First.{page_super}
use Rattle.pa_heap_effects.proofs.Runs.{Moment, WasGiven, run_of, one_first, taken_or_given}
use Rattle.pa_lists.proofs.Indexed.{slice_get_at}
use Rattle.pa_rules.proofs.FourPlaces.{left_member}
use Rattle.pa_slot.proofs.Runs.{slot_parts}

-- ---- parts of a journal

split_at : {A : Type 0} (xs : List A) (i : ℕ) (x : A) → slice_get xs i ≡ Some x → (before after : List A) × (xs ≡ before ++ x ∷ after)
split_at [] i x at = absurd (not_some x at)
split_at (y ∷ xs) zero x at = ([], xs, ap (λ z. z ∷ xs) (of_some y x at))
split_at (y ∷ xs) (suc i) x at = let (before, after, parts) = split_at xs i x at in (y ∷ before, after, ap (λ zs. y ∷ zs) parts)

replays_at : (pools : List PoolEntry) (xs ys : List RootEntry) (f : RootEntry) (r : Root) → RootReplays pools (xs ++ f ∷ ys) r →
    RootActFits pools f.act (root_replayed pools xs r)
replays_at pools [] ys f r h = h.0
replays_at pools (x ∷ xs) ys f r h = replays_at pools xs ys f (root_next pools x.act r) h.1

asks_at : (least : ℕ) (xs ys : List RootEntry) (f : RootEntry) → RiseFrom least (all_asked (xs ++ f ∷ ys)) →
    AsksFrom (least_after_all least xs) (asked_by f.act)
asks_at least [] ys f h = (rise_parts least (asked_by f.act) (all_asked ys) h).0
asks_at least (x ∷ xs) ys f h =
    asks_at (least_after least (asked_by x.act)) xs ys f (rise_parts least (asked_by x.act) (all_asked (xs ++ f ∷ ys)) h).1

pub least_rises : (least : ℕ) (xs : List RootEntry) → RiseFrom least (all_asked xs) → least ≤ least_after_all least xs
least_rises least [] h = omega arith
least_rises least (x ∷ xs) h =
    let (asks, rest) = rise_parts least (asked_by x.act) (all_asked xs) h in
    let a = least_more least (asked_by x.act) asks in
    let ih = least_rises (least_after least (asked_by x.act)) xs rest in
    omega arith

-- what a journal names is below what it may name next
asked_low : (least k : ℕ) (xs : List RootEntry) (e : RootEntry) → RiseFrom least (all_asked xs) → Contains xs e → asked_by e.act ≡ Some k →
    k < least_after_all least xs
asked_low least k [] e h among asked = absurd (not_in_none e among)
asked_low least k (x ∷ xs) e h among asked =
    let (asks, rest) = rise_parts least (asked_by x.act) (all_asked xs) h in
    elim (in_cases x e xs among) [
      | inl same ↦
          let named : asked_by x.act ≡ Some k = ap (λ (z : RootEntry). asked_by z.act) same ∙ asked in
          let at : least_after least (asked_by x.act) ≡ k + 1 = ap (least_after least) named in
          let up = least_rises (least_after least (asked_by x.act)) xs rest in
          omega arith
      | inr later ↦ asked_low (least_after least (asked_by x.act)) k xs e rest later asked
    ]

left_append : (s : SlotName) (xs ys : List RootEntry) → times_left s (xs ++ ys) ≡ times_left s xs + times_left s ys
left_append s [] ys = omega arith
left_append s (x ∷ xs) ys = let ih = left_append s xs ys in omega arith

back_append : (s : SlotName) (xs ys : List RootEntry) → times_back s (xs ++ ys) ≡ times_back s xs + times_back s ys
back_append s [] ys = omega arith
back_append s (x ∷ xs) ys = let ih = back_append s xs ys in omega arith

-- a slot that leaves by an act is one of its moves
leaves_move : (line : ℕ) (act : RootAct) (s : SlotName) → Contains (leaves_by act) s → (m : Move) × Contains (moves_by line act) m ×
    (m.slot ≡ s)
leaves_move line (Fill class asked slots) s among =
    let (u, member, is) = map_cases (λ (z : Numbered). z.slot) slots s among in
    (move_of line Out u, map_in (move_of line Out) slots u member, is)
leaves_move line (Map asked slot len) s among = elim (in_cases slot s [] among) [
  | inl same ↦ (record { line = line; slot = slot; number = 0; way = Out }, first_in _ [], same)
  | inr none ↦ absurd (not_in_none s none)
]
leaves_move line (Full class asked) s among = absurd (not_in_none s among)
leaves_move line (Give slots) s among = absurd (not_in_none s among)
leaves_move line (Unmap asked slot) s among = absurd (not_in_none s among)
leaves_move line Purge s among = absurd (not_in_none s among)

-- a direct map that went back isn't mapped any more
gone : (pools : List PoolEntry) (xs ys : List RootEntry) (f : RootEntry) (k : ℕ) (slot : Numbered) → IsJournal pools (xs ++ f ∷ ys) →
    IsJournal pools xs → f.act ≡ Unmap k slot →
    IsNameOut (root_replayed pools xs new_root) slot.slot → IsNameOut (root_replayed pools (xs ++ f ∷ ys) new_root) slot.slot → ⊥
gone pools xs ys f k slot h hx act before after =
    let s = slot.slot in
    let none = none_left s ys (λ e among leaves. let (m, move, same) = leaves_move e.line e.act s leaves in
    unnamed pools xs ys f e k slot m h act among move same) in
    let out : times s (leaves_by f.act) ≡ 0 = ap (λ a. times s (leaves_by a)) act in
    let back : times s (comes_by f.act) ≡ times s (s ∷ []) = ap (λ a. times s (comes_by a)) act in
    let some = some_times s (s ∷ []) (first_in s []) in
    let a = left_append s xs (f ∷ ys) in
    let b = back_append s xs (f ∷ ys) in
    elim (out_is_left pools xs s hx) [
      | inl (there, more) ↦ elim (out_is_left pools (xs ++ f ∷ ys) s h) [
        | inl (still, more') ↦ omega arith
        | inr (away, same) ↦ away after
      ]
      | inr (away, same) ↦ away before
    ]

-- ---- entries of the pool that give

take_is_no_give : (o : Option PoolAct) (count : ℕ) (found : Option ℕ) (c first : ℕ) → o ≡ Some (pool.Take count found) →
    o ≡ Some (pool.Give c first) → ⊥
take_is_no_give o count found c first e f = cc

give_first : (o : Option PoolAct) (count first c g : ℕ) → o ≡ Some (pool.Give count first) → o ≡ Some (pool.Give c g) → first ≡ g
give_first o count first c g e f = cc

-- the direct map that an entry of the pool gave back
pub record UnmapOf (pools : List PoolEntry) (roots : Journals) (q k first : ℕ) (slot : Numbered) (len : ℕ) (f : RootEntry)
    (xs ys : List RootEntry) : Type 0 where
  pub parts : roots q ≡ xs ++ f ∷ ys
  pub journal : IsJournal pools xs
  pub act : f.act ≡ Unmap k slot
  pub mapped : Contains (root_replayed pools xs new_root).maps (map_title slot.slot len)
  pub start : slot.slot.start ≡ page_place first 1

-- only an Unmap names a give
abbrev Unmaps : List PoolEntry → RootAct → ℕ → ℕ → Root → Type 0
Unmaps pools act k first r = (slot : Numbered) × (len : ℕ) × (act ≡ Unmap k slot) × Contains r.maps (map_title slot.slot len) ×
    (slot.slot.start ≡ page_place first 1)

unmaps_by : (pools : List PoolEntry) (act : RootAct) (k count first : ℕ) (r : Root) → asked_by act ≡ Some k
    → act_at pools k ≡ Some (pool.Give count first) → RootActFits pools act r → Unmaps pools act k first r
unmaps_by pools (Fill class None slots) k count first r asked gave fits = absurd (not_some k asked)
unmaps_by pools (Fill class (Some j) slots) k count first r asked gave fits =
    absurd (take_is_no_give (act_at pools j) 1 _ count first fits.1.2
    (subst (λ z. act_at pools z ≡ Some (pool.Give count first)) (sym (of_some j k asked)) gave))
unmaps_by pools (Map j slot len) k count first r asked gave fits =
    absurd (take_is_no_give (act_at pools j) (supers_for len) _ count first fits.1
    (subst (λ z. act_at pools z ≡ Some (pool.Give count first)) (sym (of_some j k asked)) gave))
unmaps_by pools (Full None j) k count first r asked gave fits =
    absurd (take_is_no_give (act_at pools j) fits.0 None count first fits.1
    (subst (λ z. act_at pools z ≡ Some (pool.Give count first)) (sym (of_some j k asked)) gave))
unmaps_by pools (Full (Some class) j) k count first r asked gave fits =
    absurd (take_is_no_give (act_at pools j) 1 None count first fits.1
    (subst (λ z. act_at pools z ≡ Some (pool.Give count first)) (sym (of_some j k asked)) gave))
unmaps_by pools (Give slots) k count first r asked gave fits = absurd (not_some k asked)
unmaps_by pools (Unmap j slot) k count first r asked gave (len, g, among, start, gives) =
    let same : j ≡ k = of_some j k asked in
    let first_is : g ≡ first =
    give_first (act_at pools j) (supers_for len) g count first gives
    (subst (λ z. act_at pools z ≡ Some (pool.Give count first)) (sym same) gave) in
    (slot, len, ap (λ z. Unmap z slot) same, among, start ∙ ap (λ z. page_place z 1) first_is)
unmaps_by pools Purge k count first r asked gave fits = absurd (not_some k asked)

act_before : (before rest : List PoolEntry) (j : ℕ) (a : PoolAct) → act_at (before ++ rest) j ≡ Some a → j < length before →
    act_at before j ≡ Some a
act_before [] rest j a at low = absurd (omega arith)
act_before (x ∷ before) rest zero a at low = at
act_before (x ∷ before) rest (suc j) a at low = act_before before rest j a at (omega arith)

module _ (supers : ℕ) (pools : List PoolEntry) (roots : Journals) (h : SharePool supers pools roots) where
  -- the journal of a map that was mapped names its entry of the pool
  map_named : (q : ℕ) (xs ys : List RootEntry) (u : Title) → roots q ≡ xs ++ ys → IsJournal pools xs →
      Contains (root_replayed pools xs new_root).maps u → (i : ℕ) × Names roots q i u.born
  map_named q xs ys u parts hx member = elim (out_is_left pools xs (name_of u) hx) [
    | inl (out, more) ↦
        let (e, among, leaves) = left_member (name_of u) xs (omega arith) in
        let (t, made, is, len) =
        title_of pools (roots q) e (name_of u) (h.journals q)
        (subst (λ z. Contains z e) (sym parts) (Contains-append_left xs ys e among)) leaves in
        let (i, f, at, asked) = titles_are_asked pools (roots q) t (h.journals q) made in
        (i, (f, at, asked ∙ ap Some (ap (λ (z : SlotName). z.born) is)))
    | inr (away, same) ↦ absurd (away (u, inr member, refl))
  ]

  pub owner_is : (j q i : ℕ) (e : PoolEntry) → slice_get pools j ≡ Some e → Names roots q i j → e.partition ≡ q
  owner_is j q i e at names =
      let (k, named) = h.named j e at in
      (h.once j e.partition q k i e at named names).0

  pub unmap_of : (k count first : ℕ) (e : PoolEntry) → slice_get pools k ≡ Some e → e.act ≡ pool.Give count first →
      (slot : Numbered) × (len : ℕ) × (f : RootEntry) × (xs ys : List RootEntry) × UnmapOf pools roots e.partition k first slot len f xs ys
  unmap_of k count first e at act =
      let (i, (f, there, asked)) = h.named k e at in
      let (xs, ys, parts) = split_at (roots e.partition) i f there in
      let journal = subst (λ z. IsJournal pools z) parts (h.journals e.partition) in
      let gave : act_at pools k ≡ Some (pool.Give count first) = ap (λ o. option_map (λ (z : PoolEntry). z.act) o) at ∙ ap Some act in
      let (slot, len, is, mapped, start) =
      unmaps_by pools f.act k count first (root_replayed pools xs new_root) asked gave
      (replays_at pools xs ys f new_root journal.replays) in (
        slot,
        len,
        f,
        xs,
        ys,
        record {
          parts = parts;
          journal = journal_front pools xs (f ∷ ys) journal;
          act = is;
          mapped = mapped;
          start = start;
        },
      )

  -- its run was taken before, and it was found by the map's entry of the pool
  record HasRun (k first : ℕ) (slot : Numbered) (len : ℕ) : Type 0 where
    found : FoundRun pools slot.slot.born (supers_for len) first
    low : slot.slot.born < k

  run_of_unmap : (q k first : ℕ) (slot : Numbered) (len : ℕ) (f : RootEntry) (xs ys : List RootEntry) →
      UnmapOf pools roots q k first slot len f xs ys → HasRun k first slot len
  run_of_unmap q k first slot len f xs ys u =
      let journal = subst (λ z. IsJournal pools z) u.parts (h.journals q) in
      let (first', found, start) = (roots_are_taken.journal pools xs u.journal).maps (map_title slot.slot len) u.mapped in
      let here = u.start in
      let same : first' ≡ first = omega arith in
      let born = (journal_leaves pools xs u.journal).born.maps (map_title slot.slot len) u.mapped in
      let asks : least_after_all 0 xs ≤ k =
      subst (λ o. AsksFrom (least_after_all 0 xs) o) (ap asked_by u.act) (asks_at 0 xs ys f journal.rise) in
      record { found = subst (λ z. FoundRun pools slot.slot.born (supers_for len) z) same found; low = omega arith }

  -- of two unmaps of one journal the earlier is of another map
  not_again : (q k k' first : ℕ) (slot slot' : Numbered) (len len' : ℕ) (f f' : RootEntry) (xs ys xs' ys' : List RootEntry) →
      UnmapOf pools roots q k first slot len f xs ys →
      UnmapOf pools roots q k' first slot' len' f' xs' ys' → k' < k → slot'.slot ≡ slot.slot → ⊥
  not_again q k k' first slot slot' len len' f f' xs ys xs' ys' u u' before same =
      let journal = subst (λ z. IsJournal pools z) u'.parts (h.journals q) in
      let front = journal_front pools xs' (f' ∷ ys') journal in
      let among : Contains (xs' ++ f' ∷ ys') f =
      subst (λ z. Contains z f) (sym u.parts ∙ u'.parts) (Contains-append_right xs (f ∷ ys) f (first_in f ys)) in
      let asks : least_after_all 0 xs' ≤ k' =
      subst (λ o. AsksFrom (least_after_all 0 xs') o) (ap asked_by u'.act) (asks_at 0 xs' ys' f' journal.rise) in
      elim (Contains-append_cases xs' (f' ∷ ys') f among) [
        | inl older ↦ let low = asked_low 0 k xs' f front.rise older (ap asked_by u.act) in omega arith
        | inr rest ↦ elim (in_cases f' f ys' rest) [
          | inl one ↦
              let e : k' ≡ k = of_some k' k (sym (ap asked_by u'.act) ∙ ap (λ (z : RootEntry). asked_by z.act) one ∙ ap asked_by u.act) in
              omega arith
          | inr later ↦
              unnamed pools xs' ys' f' f k' slot' (move_of f.line Back slot) journal u'.act later
              (subst (λ a. Contains (moves_by f.line a) (move_of f.line Back slot)) (sym u.act) (first_in (move_of f.line Back slot) []))
              (sym same)
        ]
      ]

  same_name : (first : ℕ) (s t : SlotName) → s.start ≡ page_place first 1 → t.start ≡ page_place first 1 → s.born ≡ t.born → s ≡ t
  same_name first s t a b born = slot_parts s t (a ∙ sym b) born

  -- the run of a map that goes back is there until then
  pub live : (fuel k first : ℕ) (e : PoolEntry) (before after : List PoolEntry) (slot : Numbered) (len : ℕ) (f : RootEntry)
      (xs ys : List RootEntry) → k < fuel → Moment supers pools k e before after →
      UnmapOf pools roots e.partition k first slot len f xs ys →
      Contains (pool_at supers before).taken (run_of slot.slot.born first (supers_for len))
  live zero k first e before after slot len f xs ys less m u = absurd (omega arith)
  live (suc fuel) k first e before after slot len f xs ys less m u =
      let run = run_of_unmap e.partition k first slot len f xs ys u in
      let place = m.place in
      let low = run.low in
      let found : FoundRun before slot.slot.born (supers_for len) first =
      act_before before (e ∷ after) slot.slot.born (pool.Take (supers_for len) (Some first))
      (subst (λ z. FoundRun z slot.slot.born (supers_for len) first) m.parts run.found) (omega arith) in
      elim (taken_or_given supers before slot.slot.born (supers_for len) first m.fits found) [
        | inl there ↦ there
        | inr (k', e', before', after', w) ↦ absurd (earlier (λ j d front behind. live fuel j first d front behind) k' e' before' after' w)
      ]
    where
      earlier : ((j : ℕ) (d : PoolEntry) (front behind : List PoolEntry) (slot' : Numbered) (len' : ℕ) (f' : RootEntry)
          (xs' ys' : List RootEntry) → j < fuel → Moment supers pools j d front behind →
          UnmapOf pools roots d.partition j first slot' len' f' xs' ys'
          → Contains (pool_at supers front).taken (run_of slot'.slot.born first (supers_for len')))
          → (k' : ℕ) (e' : PoolEntry) (before' after' : List PoolEntry)
          → WasGiven supers before (run_of slot.slot.born first (supers_for len)) k' e' before' after' → ⊥
      earlier ih k' e' before' after' w =
          let whole : pools ≡ before' ++ e' ∷ (after' ++ e ∷ after) = m.parts ∙ ap (λ z. z ++ e ∷ after) w.when.parts ∙
          append_assoc before' (e' ∷ after') (e ∷ after) in
          let m' : Moment supers pools k' e' before' (after' ++ e ∷ after) =
          record { parts = whole; place = w.when.place; fits = w.when.fits; acts = w.when.acts } in
          let at' : slice_get pools k' ≡ Some e' = ap (λ z. slice_get z k') whole
          ∙ ap (λ i. slice_get (before' ++ e' ∷ (after' ++ e ∷ after)) i) (sym w.when.place)
          ∙ slice_get_at before' (after' ++ e ∷ after) e' in
          let long = ap length w.when.parts ∙ length-append before' (e' ∷ after') in
          let place = m.place in
          let place' = w.when.place in
          let (d, there, same_owner) = w.owner in
          let (i, names) = map_named e.partition xs (f ∷ ys) (map_title slot.slot len) u.parts u.journal u.mapped in
          let at_d : slice_get pools slot.slot.born ≡ Some d = subst (λ z. slice_get z slot.slot.born ≡ Some d) (sym whole)
          (slice_get_more before' (e' ∷ (after' ++ e ∷ after)) slot.slot.born d there) in
          let one : e'.partition ≡ e.partition = sym same_owner ∙ owner_is slot.slot.born e.partition i d at_d names in
          let (slot', len', f', xs', ys', u') = unmap_of k' (supers_for len) first e' at' w.act in
          let run' = ih k' e' before' (after' ++ e ∷ after) slot' len' f' xs' ys' (omega arith) m' u' in
          let runs = one_first supers before' (run_of slot'.slot.born first (supers_for len'))
          (run_of slot.slot.born first (supers_for len)) w.when.fits run' w.there refl in
          let born : slot'.slot.born ≡ slot.slot.born = ap (λ (z : Taken). z.entry) runs in
          not_again e.partition k k' first slot slot' len len' f f' xs ys xs' ys' u
          (subst (λ q. UnmapOf pools roots q k' first slot' len' f' xs' ys') one u') (omega arith)
          (same_name first slot'.slot slot.slot u'.start u.start born)

  -- the run of a direct map that is mapped is there, and its entry of the pool is its partition's
  pub map_run : (p : ℕ) (t : Title) → Contains (root_at pools roots p).maps t →
      (first : ℕ) × (t.start ≡ page_place first 1) × Contains (pool_at supers pools).taken (run_of t.born first (supers_for t.len)) ×
      IsPartitions pools p (run_of t.born first (supers_for t.len))
  map_run p t member =
      let (first, found, start) = (roots_are_taken.journal pools (roots p) (h.journals p)).maps t member in
      let (i, names) = map_named p (roots p) [] t (sym (append-nil (roots p))) (h.journals p) member in
      let (d, at, act) = act_of (slice_get pools t.born) (pool.Take (supers_for t.len) (Some first)) found in
      let owner = owner_is t.born p i d at names in
      elim (taken_or_given supers pools t.born (supers_for t.len) first h.fits found) [
        | inl there ↦ (first, start, there, (d, at, owner))
        | inr (k, e, before, after, w) ↦ absurd (was_given first start d at owner k e before after w)
      ]
    where
      was_given : (first : ℕ) → t.start ≡ page_place first 1 → (d : PoolEntry) → slice_get pools t.born ≡ Some d → d.partition ≡ p →
          (k : ℕ) (e : PoolEntry) (before after : List PoolEntry) →
          WasGiven supers pools (run_of t.born first (supers_for t.len)) k e before after → ⊥
      was_given first start d at owner k e before after w =
          let at_k : slice_get pools k ≡ Some e = ap (λ z. slice_get z k) w.when.parts ∙
          ap (λ i. slice_get (before ++ e ∷ after) i) (sym w.when.place) ∙ slice_get_at before after e in
          let (c, there, same_owner) = w.owner in
          let at_c : slice_get pools t.born ≡ Some c =
          subst (λ z. slice_get z t.born ≡ Some c) (sym w.when.parts) (slice_get_more before (e ∷ after) t.born c there) in
          let same : d ≡ c = of_some d c (sym at ∙ at_c) in
          let place : e.partition ≡ p = sym same_owner ∙ ap (λ (z : PoolEntry). z.partition) (sym same) ∙ owner in
          let (slot, len, f, xs, ys, u) = unmap_of k (supers_for t.len) first e at_k w.act in
          let run = live (k + 1) k first e before after slot len f xs ys (omega arith) w.when u in
          let runs = one_first supers before (run_of slot.slot.born first (supers_for len))
          (run_of t.born first (supers_for t.len)) w.when.fits run w.there refl in
          let name : slot.slot ≡ name_of t = same_name first slot.slot (name_of t) u.start start (ap (λ (z : Taken). z.entry) runs) in
          let journal = subst (λ z. IsJournal pools z) u.parts (h.journals e.partition) in
          let still : IsNameOut (root_replayed pools (roots e.partition) new_root) slot.slot =
          subst (λ q. IsNameOut (root_at pools roots q) slot.slot) (sym place) (t, inr member, name) in
          gone pools xs ys f k slot journal u.journal u.act (map_title slot.slot len, inr u.mapped, refl)
          (subst (λ z. IsNameOut (root_replayed pools z new_root) slot.slot) u.parts still)

-- the journals of a run so far share its pool
pub of_placed : (supers partitions n : ℕ) (ps : List Played) (pools : List PoolEntry) (roots : Journals) (all : Caches) →
    IsPlacedTo partitions n ps pools roots all → IsPooledTo supers n pools roots →
    SharePool supers pools roots
of_placed supers partitions n ps pools roots all h g = record {
  fits = g.fits;
  journals = h.journals;
  named = λ j e at. let (i, f, there, asked, line) = g.named j e at in (i, (f, there, asked));
  once = λ j p q i k e at names names'. g.once j p q i k names names';
}

pub maps_are_taken : MapsAreTaken
maps_are_taken supers partitions n p ps pools roots all t h g member =
    let (first, start, there, owner) = map_run supers pools roots (of_placed supers partitions n ps pools roots all h g) p t member in (
      run_of t.born first (supers_for t.len),
      record { among = there; begins = sym (page_super first) ∙ ap super_page_at (sym start); reaches = refl },
      owner,
    )
