-- What a fill and a direct map did is the deed of an allocation.
use Rattle.std.proofs.Common.{◌≡◌, ℕ, zero, suc, ◌<◌, ◌≤◌, List, [], ◌∷◌, ◌++◌, map, length, Option, Some, None, refl, sym, ◌∙◌, ap, subst, arith, inl}
use Rattle.std.specs.Prelude.{IsNone}
use Rattle.std.proofs.lemmas.List.{append-nil}
use Rattle.pa_slot.specs.declared.title.Title.{Title}
use Rattle.pa_slot.specs.declared.word.SlotName.{SlotName}
use Rattle.pa_layout.specs.Pages.{super_page_at}
use Rattle.pa_buckets.specs.Bands.{fill_of}
use Rattle.pa_buckets.proofs.Facts.{IsRow-of}
use Rattle.pa_trace.specs.declared.script.Op.TheVariants as ops
use Rattle.pa_rules.proofs.Versions.{real_in}
use Rattle.pa_record.specs.declared.entry.Seen.{Seen}
use Rattle.pa_record.specs.declared.entry.Answer.TheVariants as answers
use Rattle.pa_record.specs.declared.numbered.Numbered.{Numbered}
use Rattle.pa_record.specs.declared.pool.PoolEntry.{PoolEntry}
use Rattle.pa_record.specs.declared.pool.PoolAct.TheVariants as pool
use Rattle.pa_record.specs.declared.root.RootAct.TheVariants.{Fill, Full}
use Rattle.pa_record.specs.Pool.{PoolState, took, IsLowest}
use Rattle.pa_record.specs.Spans.{name_of}
use Rattle.pa_record.specs.Root.{Root, Filled, takes, opened, names, span_for, root_next, RootActFits, asked_by}
use Rattle.pa_record.specs.Sound.{IsSound, IsBornBelow, AsksFrom, least_after_all}
use Rattle.pa_lists.proofs.Members.{not_in_none, not_some, of_some}
use Rattle.pa_lists.proofs.Joined.{map_cases}
use Rattle.pa_record.proofs.PoolSteps.{pool_grows}
use Rattle.pa_record.proofs.Lawful.{fill_keeps, journal_leaves}
use Rattle.pa_record.proofs.Mapping.{born_more}
use Rattle.pa_record.proofs.Calling.{calls_fit}
use Rattle.pa_rules.specs.declared.played.Played.{Played}
use Rattle.pa_rules.specs.Roots.{Journals, AsksForClass, MakesEntry}
use Rattle.pa_rules.specs.Caches.{Caches, with_list, OnlyActs, FilledFirst, FrontIs, FullRow, CacheRow}
use Rattle.pa_rules.specs.Holders.{Out, Move, move_of}
use Rattle.pa_legal.specs.Numbers.{moves_of, at_end}
use Rattle.pa_place.specs.Placed.{IsAsked, Fills, filled_by}
use Rattle.pa_heap_effects.specs.Deeds.{grown, root_at, IsPlacedTo}
use Rattle.pa_heap_effects.specs.Pooled.{pool_at}
use Rattle.pa_heap_effects.specs.Ops.{only_in, IsCalled, found_by, asked_for, HasNumbers, FillIsDone, FullIsDone}
use Rattle.pa_heap_effects.proofs.Numbering.{LeavesAt}
use Rattle.pa_heap_effects.proofs.Acting.{asks_none, not_full_made}
use Rattle.pa_heap_effects.proofs.First.{not_cons, first_start, page_super}
use Rattle.pa_heap_effects.proofs.Single.{IsOneAct, one_called, next_low, entries_are, asks_once, full_index, alloc_place, not_done_made, not_done_full}
use Rattle.pa_lists.proofs.Elements.{in_one}

-- ---- the slots of a fill

numbers_leave : (roots : Journals) (p class : ℕ) (asked : Option ℕ) (xs : List Numbered) (s : SlotName) → HasNumbers roots p xs →
    LeavesAt (roots p) (Fill class asked xs) s
numbers_leave roots p class asked xs s h m line k among way slot at =
    let (u, member, is) = map_cases (move_of line Out) xs m among in
    let named : u.slot ≡ s = ap (λ (z : Move). z.slot) is ∙ slot in
    let number : u.number ≡ m.number = ap (λ (z : Move). z.number) is in
    sym number ∙ h u k member (ap (λ z. at_end (Some 0) (moves_of (roots p) z)) named ∙ at)

filled_empty : (roots : Journals) (line p class : ℕ) (asked : Option ℕ) (old xs : List Numbered) → old ≡ [] →
    OnlyActs roots line p (Fill class asked xs ∷ []) → FilledFirst roots line p class old xs
filled_empty roots line p class asked old xs e only = subst (λ z. FilledFirst roots line p class z xs) (sym e) (asked, only)

module _ (supers partitions n p class usable : ℕ) (ps : List Played) (x : Played) (pools : List PoolEntry) (roots : Journals) (all : Caches)
    (seen : Seen) (xs rest : List Numbered)
    (h : IsPlacedTo partitions n ps pools roots all) (line : x.line ≡ n) (made : x.answer ≡ answers.Made seen usable)
    (asks : AsksForClass x p class)
    (below : p < partitions) (empty : all x.thread p class ≡ []) (has : HasNumbers roots p xs) (front : FrontIs seen xs rest) where
  fill_act : (more : List PoolEntry) (asked : Option ℕ) → RootActFits (pools ++ more) (Fill class asked xs) (root_at pools roots p) →
      AsksFrom (least_after_all 0 (roots p)) asked →
      IsOneAct partitions n p x pools more roots (Fill class asked xs) (all x.thread) (with_list (all x.thread) p class rest)
  fill_act more asked fits from = record {
    line = line;
    below = below;
    fits = fits;
    asks = from;
    makes = asks;
    refusal = λ j reg q size full. absurd (not_full_made x.answer seen usable j made full);
    row = λ only. subst (λ a. CacheRow partitions (grown roots n (only_in p (Fill class asked xs ∷ []))) x a (all x.thread)
        (with_list (all x.thread) p class rest)) (sym made)
        (inl (p, class, xs, rest, asks, filled_empty _ x.line p class asked (all x.thread p class) xs empty only, front, λ q c. refl));
    leaves = λ s. numbers_leave roots p class asked xs s has;
    unmaps = λ other q at slot e done. absurd (not_done_made x.answer seen usable other made done);
  }

  real : class < 170
  real = let (reg, size, is, of) = asks in real_in x.rules.version class (of.from, of.real)

  -- without asking the pool
  filled_without : (after : Root) (plan : PoolState) (titles : List Title)
      → Fills class (fill_of class) (pool_at supers pools) plan (root_at pools roots p) (record { root = after; titles = titles }) None →
      map name_of titles ≡ names xs →
      IsCalled supers partitions n x pools [] roots p (Fill class None xs ∷ []) (all x.thread)
      (with_list (all x.thread) p class rest) after plan
  filled_without after plan titles (some, same, is) named =
      let got : titles ≡ (takes class (fill_of class) (root_at pools roots p)).titles = ap (λ (f : Filled). f.titles) is in
      one_called supers partitions n p ps x pools [] roots (Fill class None xs) all (with_list (all x.thread) p class rest) h after plan
      (fill_act [] None (real, some, ap (λ zs. map name_of zs) (sym got) ∙ named) tt)
      (asks_none supers n p pools (Fill class None xs ∷ []) (λ a among. ap asked_by (sym (in_one (Fill class None xs) a among))))
      (sym (ap (λ (f : Filled). f.root) is))
      (ap (pool_at supers) (append-nil pools) ∙ sym same)

  -- with a super page that the pool gave
  filled_in : (after : Root) (plan : PoolState) (titles : List Title) (entry first : ℕ) → entry ≡ length pools →
      IsNone (span_for class (root_at pools roots p)) →
      IsAsked 1 entry (Some first) (pool_at supers pools) plan →
      record { root = after; titles = titles } ≡ filled_by class (fill_of class) entry (Some first) (root_at pools roots p) →
      found_by titles ≡ Some first → map name_of titles ≡ names xs →
      IsCalled supers partitions n x pools (asked_for n p 1 titles (Some entry)) roots p (Fill class (Some entry) xs ∷ []) (all x.thread)
      (with_list (all x.thread) p class rest) after plan
  filled_in after plan titles entry first at none asked is found named =
      let e : PoolEntry = record { line = n; partition = p; act = pool.Take 1 (found_by titles) } in
      let r = root_at pools roots p in
      let act : e.act ≡ pool.Take 1 (Some first) = ap (pool.Take 1) found in
      let got : titles ≡ (takes class (fill_of class) (opened first entry r)).titles = ap (λ (f : Filled). f.titles) is in
      let got_here : titles ≡ (takes class (fill_of class) (opened first (length pools) r)).titles = got ∙
      ap (λ z. (takes class (fill_of class) (opened first z r)).titles) at in
      let fits : RootActFits (pools ++ e ∷ []) (Fill class (Some entry) xs) r =
      subst (λ z. RootActFits (pools ++ e ∷ []) (Fill class (Some z) xs) r) (sym at)
      (calls_fit.fill pools e class first xs r real none act (ap (λ zs. map name_of zs) (sym got_here) ∙ named)) in
      one_called supers partitions n p ps x pools (e ∷ []) roots (Fill class (Some entry) xs) all
      (with_list (all x.thread) p class rest) h after plan
      (fill_act (e ∷ []) (Some entry) fits (let low = next_low supers partitions n ps pools roots all h p in omega arith))
      (asks_once supers n p pools e (Fill class (Some entry) xs) refl refl
      (omega arith, subst (λ z. IsLowest (pool_at supers pools) 1 z) (sym found) asked.lowest) (ap Some at))
      (ap (λ z. root_next (pools ++ e ∷ []) (Fill class (Some z) xs) r) at ∙ calls_fit.filled pools e class first xs r act
      ∙ sym (ap (λ (f : Filled). f.root) is ∙ ap (λ z. (takes class (fill_of class) (opened first z r)).root) at))
      (pool_grows.next supers pools e ∙ ap (λ z. took 1 z (pool_at supers pools)) found ∙ sym asked.took)

  no_slots : (titles : List Title) → titles ≡ [] → map name_of titles ≡ names xs → ⊥
  no_slots titles e named = not_cons seen.slot (names rest) (sym (ap (map name_of) e) ∙ named ∙ ap names front)

  first_of_titles : (titles : List Title) (entry first : ℕ) → IsNone (span_for class (root_at pools roots p))
      → titles ≡ (takes class (fill_of class) (opened first entry (root_at pools roots p))).titles →
      map name_of titles ≡ names xs → found_by titles ≡ Some first
  first_of_titles [] entry first none is named = absurd (no_slots [] refl named)
  first_of_titles (t ∷ ts) entry first none is named =
      ap Some (ap super_page_at (first_start class (fill_of class) first entry (root_at pools roots p) t ts none (sym is)) ∙
      page_super first)

  filled_asking : (after : Root) (plan : PoolState) (titles : List Title) (entry : ℕ) (found : Option ℕ) →
      IsNone (span_for class (root_at pools roots p)) →
      IsAsked 1 entry found (pool_at supers pools) plan → record { root = after; titles = titles } ≡ filled_by class (fill_of class) entry
      found (root_at pools roots p) → map name_of titles ≡ names xs →
      IsCalled supers partitions n x pools (asked_for n p 1 titles (Some entry)) roots p (Fill class (Some entry) xs ∷ []) (all x.thread)
      (with_list (all x.thread) p class rest) after plan
  filled_asking after plan titles entry None none asked is named = absurd (no_slots titles (ap (λ (f : Filled). f.titles) is) named)
  filled_asking after plan titles entry (Some first) none asked is named =
      filled_in after plan titles entry first (asked.entry ∙ entries_are supers partitions n ps pools roots all h) none asked is
      (first_of_titles titles entry first none (ap (λ (f : Filled). f.titles) is) named) named

  pub fill_called : (after : Root) (plan : PoolState) (titles : List Title) (asked : Option ℕ) →
      Fills class (fill_of class) (pool_at supers pools) plan (root_at pools roots p) (record { root = after; titles = titles }) asked →
      map name_of titles ≡ names xs →
      IsCalled supers partitions n x pools (asked_for n p 1 titles asked) roots p (Fill class asked xs ∷ []) (all x.thread)
      (with_list (all x.thread) p class rest) after plan
  fill_called after plan titles None did named = filled_without after plan titles did named
  fill_called after plan titles (Some entry) (none, found, asked, is) named =
      filled_asking after plan titles entry found none asked is named

pub fill_is_done : FillIsDone
fill_is_done supers partitions n p class usable ps x pools roots all seen xs rest plan after placed h line made asks below empty did named
    has front =
    fill_called supers partitions n p class usable ps x pools roots all seen xs rest h line made asks below empty has front after plan
    placed.titles.items placed.pool did named

-- ---- no room for a class

-- a call that got nothing asked the pool for one entry, which found none
module _ (supers partitions n p j : ℕ) (ps : List Played) (x : Played) (pools : List PoolEntry) (roots : Journals) (all : Caches)
    (h : IsPlacedTo partitions n ps pools roots all) (line : x.line ≡ n) (full : x.answer ≡ answers.Full j) (index : j ≡ length (roots p))
    (below : p < partitions) where
  full_act : (more : List PoolEntry) (class : Option ℕ) (asked reg size : ℕ) → x.op ≡ ops.Alloc reg p size →
      RootActFits (pools ++ more) (Full class asked) (root_at pools roots p) →
      least_after_all 0 (roots p) ≤ asked → MakesEntry (pools ++ more) p (Full class asked) x →
      (OnlyActs (grown roots n (only_in p (Full class asked ∷ []))) x.line p (Full class asked ∷ []) →
      FullRow (grown roots n (only_in p (Full class asked ∷ []))) x (all x.thread) (all x.thread)) →
      IsOneAct partitions n p x pools more roots (Full class asked) (all x.thread) (all x.thread)
  full_act more class asked reg size op fits from makes row = record {
    line = line;
    below = below;
    fits = fits;
    asks = from;
    makes = makes;
    refusal = λ i reg' q size' full' op'. (
      alloc_place x.op reg p size reg' q size' op op',
      full_index x.answer j i full full' ∙
          index,
      (class, asked, refl),
    );
    row = λ only. subst (λ a. CacheRow partitions (grown roots n (only_in p (Full class asked ∷ []))) x a (all x.thread) (all x.thread))
        (sym full) (row only);
    leaves = λ s m at k among. absurd (not_in_none m among);
    unmaps = λ other q at slot e done. absurd (not_done_full x.answer j other full done);
  }

  pub full_called : (class : Option ℕ) (count asked reg size : ℕ) (after : Root) (plan : PoolState) → x.op ≡ ops.Alloc reg p size →
      RootActFits (pools ++ asked_for n p count [] (Some asked)) (Full class asked) (root_at pools roots p) →
      MakesEntry (pools ++ asked_for n p count [] (Some asked)) p (Full class asked) x →
      (OnlyActs (grown roots n (only_in p (Full class asked ∷ []))) x.line p (Full class asked ∷ []) →
      FullRow (grown roots n (only_in p (Full class asked ∷ []))) x (all x.thread) (all x.thread)) →
      asked ≡ length pools → 1 ≤ count → IsLowest (pool_at supers pools) count None → plan ≡ took count None (pool_at supers pools) →
      after ≡ root_at pools roots p →
      IsCalled supers partitions n x pools (asked_for n p count [] (Some asked)) roots p (Full class asked ∷ []) (all x.thread)
      (all x.thread) after plan
  full_called class count asked reg size after plan op fits makes row at some lowest next same =
      let e : PoolEntry = record { line = n; partition = p; act = pool.Take count None } in
      one_called supers partitions n p ps x pools (e ∷ []) roots (Full class asked) all (all x.thread) h after plan
      (full_act (e ∷ []) class asked reg size op fits (let low = next_low supers partitions n ps pools roots all h p in
      omega arith) makes row)
      (asks_once supers n p pools e (Full class asked) refl refl (some, lowest) (ap Some at))
      (sym same)
      (pool_grows.next supers pools e ∙ sym next)

-- a fill that asked and got a super page has a slot
never_empty : (class want first entry : ℕ) (r : Root) → IsSound r → IsBornBelow entry r → class < 170 → 1 ≤ want →
    (takes class want (opened first entry r)).titles ≡ [] → ⊥
never_empty class zero first entry r sound born real some none = absurd (omega arith)
never_empty class (suc want) first entry r sound born real some none =
    let many = fill_keeps.finds class want (opened first entry r) (fill_keeps.opens first entry r sound born) real
    (fill_keeps.finds_new class first entry r real) in
    let few : length (takes class (suc want) (opened first entry r)).titles ≡ 0 = ap length none in
    omega arith

pub full_is_done : FullIsDone
full_is_done supers partitions n p class asked j ps x pools roots all plan after placed h line full index asks below empty did at none =
    by_answer placed.titles.items placed.pool did at none
  where
    r : Root
    r = root_at pools roots p

    real : class < 170
    real = let (reg, size, is, of) = asks in real_in x.rules.version class (of.from, of.real)

    by_found : (titles : List Title) (found : Option ℕ) → IsNone (span_for class (root_at pools roots p)) →
        IsAsked 1 asked found (pool_at supers pools) plan →
        record { root = after; titles = titles } ≡ filled_by class (fill_of class) asked found (root_at pools roots p) → titles ≡ [] →
        IsCalled supers partitions n x pools (asked_for n p 1 [] (Some asked)) roots p (Full (Some class) asked ∷ []) (all x.thread)
        (all x.thread) after plan
    by_found titles None no_span ask is none =
        let (reg, size, op, of) = asks in
        let at : asked ≡ length pools = ask.entry ∙ entries_are supers partitions n ps pools roots all h in
        let e : PoolEntry = record { line = n; partition = p; act = pool.Take 1 None } in
        full_called supers partitions n p j ps x pools roots all h line full index below (Some class) 1 asked reg size after plan op
        (subst (λ z. RootActFits (pools ++ e ∷ []) (Full (Some class) z) (root_at pools roots p)) (sym at)
        (calls_fit.full pools e class (root_at pools roots p) no_span refl))
        asks
        (λ only. inl (p, class, asked, asks, empty, only, λ q c. refl))
        at (omega arith) ask.lowest ask.took (ap (λ (f : Filled). f.root) is)
    by_found titles (Some first) no_span ask is none =
        let low = next_low supers partitions n ps pools roots all h p in
        let left = journal_leaves pools (roots p) (h.journals p) in
        let at : asked ≡ length pools = ask.entry ∙ entries_are supers partitions n ps pools roots all h in
        let some = (IsRow-of class real).some_fill in
        absurd (never_empty class (fill_of class) first asked (root_at pools roots p) left.sound
        (born_more (least_after_all 0 (roots p)) asked (root_at pools roots p) (omega arith) left.born) real some
        (sym (ap (λ (f : Filled). f.titles) is) ∙ none))

    by_answer : (titles : List Title) (o : Option ℕ) → Fills class (fill_of class) (pool_at supers pools) plan (root_at pools roots p)
        (record { root = after; titles = titles }) o → o ≡ Some asked → titles ≡ [] →
        IsCalled supers partitions n x pools (asked_for n p 1 [] (Some asked)) roots p (Full (Some class) asked ∷ []) (all x.thread)
        (all x.thread) after plan
    by_answer titles None did at none = absurd (not_some asked at)
    by_answer titles (Some entry) (no_span, found, ask, is) at none =
        let same : entry ≡ asked = of_some entry asked at in
        by_found titles found no_span (subst (λ z. IsAsked 1 z found (pool_at supers pools) plan) same ask)
        (subst (λ z. record { root = after; titles = titles } ≡ filled_by class (fill_of class) z found (root_at pools roots p)) same is)
        none
