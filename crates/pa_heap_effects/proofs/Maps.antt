-- What a direct map did is the deed of an allocation.
use Rattle.std.proofs.Common.{◌≡◌, ℕ, ◌<◌, List, [], ◌∷◌, ◌++◌, length, get_or, Option, Some, None, refl, sym, ◌∙◌, ap, subst, arith, inr}
use Rattle.std.specs.Prelude.{option_map}
use Rattle.pa_slot.specs.declared.title.Title.{Title}
use Rattle.pa_slot.specs.declared.word.SlotName.{SlotName}
use Rattle.pa_layout.specs.Pages.{page_place, super_page_at, supers_for}
use Rattle.pa_direct.specs.Shapes.{shape_of}
use Rattle.pa_record.specs.declared.entry.Seen.{Seen}
use Rattle.pa_record.specs.declared.entry.Answer.TheVariants as answers
use Rattle.pa_record.specs.declared.pool.PoolEntry.{PoolEntry}
use Rattle.pa_record.specs.declared.pool.PoolAct.TheVariants as pool
use Rattle.pa_record.specs.declared.root.RootAct.TheVariants.{Map, Full}
use Rattle.pa_record.specs.Pool.{PoolState, took, IsLowest}
use Rattle.pa_record.specs.Spans.{name_of}
use Rattle.pa_record.specs.Root.{Root, Filled, map_title, mapped, RootActFits}
use Rattle.pa_lists.proofs.Members.{of_some}
use Rattle.pa_record.proofs.PoolSteps.{pool_grows}
use Rattle.pa_record.proofs.Calling.{calls_fit}
use Rattle.pa_rules.specs.declared.played.Played.{Played}
use Rattle.pa_rules.specs.Roots.{Journals, AsksForMap, MakesEntry}
use Rattle.pa_rules.specs.Caches.{Caches, CacheRow}
use Rattle.pa_rules.specs.Holders.{Out, Move}
use Rattle.pa_legal.specs.Numbers.{moves_of, at_end}
use Rattle.pa_place.specs.Placed.{IsAsked, Maps, mapped_by, map_in}
use Rattle.pa_heap_effects.specs.Deeds.{grown, root_at, IsPlacedTo}
use Rattle.pa_heap_effects.specs.Pooled.{pool_at}
use Rattle.pa_heap_effects.specs.Ops.{only_in, IsCalled, found_by, asked_for, MapIsDone, FullMapIsDone}
use Rattle.pa_heap_effects.proofs.Numbering.{LeavesAt, never_moved}
use Rattle.pa_heap_effects.proofs.Acting.{not_full_made}
use Rattle.pa_heap_effects.proofs.First.{not_cons, page_super}
use Rattle.pa_heap_effects.proofs.Single.{IsOneAct, one_called, next_low, entries_are, left_born, asks_once, not_done_made}
use Rattle.pa_heap_effects.proofs.Calls.{full_called}
use Rattle.pa_lists.proofs.Indexed.{slice_get_at}
use Rattle.pa_lists.proofs.Elements.{in_one}

module _ (supers partitions n p size usable asked : ℕ) (ps : List Played) (x : Played) (pools : List PoolEntry) (roots : Journals)
    (all : Caches) (seen : Seen) (t : Title)
    (h : IsPlacedTo partitions n ps pools roots all) (line : x.line ≡ n) (made : x.answer ≡ answers.Made seen usable)
    (asks : AsksForMap x p size) (below : p < partitions)
    (named : name_of t ≡ seen.slot) where
  -- its name is new: no entry of the journal let it out
  map_leaves : (s : SlotName) → asked ≡ length pools → seen.slot.born ≡ asked →
      LeavesAt (roots p) (Map asked seen.slot (shape_of size).slot) s
  map_leaves s at born m line k among way slot there =
      let e : record { line = line; slot = seen.slot; number = 0; way = Out } ≡ m = in_one _ m among in
      let same : seen.slot ≡ s = ap (λ (z : Move). z.slot) e ∙ slot in
      let none : moves_of (roots p) seen.slot ≡ [] =
      never_moved pools (roots p) seen.slot (h.journals p)
      (λ f member leaves. let low = left_born supers partitions n ps pools roots all h p f seen.slot member leaves in omega arith) in
      let start : at_end (Some 0) (moves_of (roots p) s) ≡ Some 0 = ap (λ z. at_end (Some 0) (moves_of (roots p) z)) (sym same) ∙
      ap (at_end (Some 0)) none in
      let zero_is : 0 ≡ k = of_some 0 k (sym start ∙ there) in
      sym (ap (λ (z : Move). z.number) e) ∙ zero_is

  map_act : (more : List PoolEntry) → RootActFits (pools ++ more) (Map asked seen.slot (shape_of size).slot) (root_at pools roots p) →
      asked ≡ length pools → seen.slot.born ≡ asked →
      IsOneAct partitions n p x pools more roots (Map asked seen.slot (shape_of size).slot) (all x.thread) (all x.thread)
  map_act more fits at born = record {
    line = line;
    below = below;
    fits = fits;
    asks = let low = next_low supers partitions n ps pools roots all h p in omega arith;
    makes = (size, asks, refl);
    refusal = λ j reg q size' full. absurd (not_full_made x.answer seen usable j made full);
    row = λ only. subst (λ a. CacheRow partitions (grown roots n (only_in p (Map asked seen.slot (shape_of size).slot ∷ []))) x a
        (all x.thread) (all x.thread)) (sym made)
        (inr (p, size, asked, (shape_of size).slot, asks, only, λ q c. refl));
    leaves = λ s. map_leaves s at born;
    unmaps = λ other q at' slot e done. absurd (not_done_made x.answer seen usable other made done);
  }

  map_called : (after : Root) (plan : PoolState) (found : Option ℕ) →
      IsAsked (supers_for (shape_of size).slot) asked found (pool_at supers pools) plan →
      record { root = after; titles = t ∷ [] } ≡ mapped_by (shape_of size).slot asked found (root_at pools roots p) →
      IsCalled supers partitions n x pools (asked_for n p (shape_of size).supers (t ∷ []) (Some asked)) roots p
      (Map asked seen.slot (shape_of size).slot ∷ []) (all x.thread) (all x.thread) after plan
  map_called after plan None ask is = absurd (not_cons t [] (sym (ap (λ (f : Filled). f.titles) is)))
  map_called after plan (Some first) ask is =
      let title : t ≡ map_in first (shape_of size).slot asked = ap (λ zs. get_or zs 0 t) (ap (λ (f : Filled). f.titles) is) in
      let e : PoolEntry = record { line = n; partition = p; act = pool.Take (shape_of size).supers (found_by (t ∷ [])) } in
      let start : t.start ≡ page_place first 1 = ap (λ (z : Title). z.start) title in
      let found : found_by (t ∷ []) ≡ Some first = ap Some (ap super_page_at start ∙ page_super first) in
      let act : e.act ≡ pool.Take (supers_for (shape_of size).slot) (Some first) = ap (pool.Take (shape_of size).supers) found in
      let at : asked ≡ length pools = ask.entry ∙ entries_are supers partitions n ps pools roots all h in
      let slot : seen.slot ≡ record { start = page_place first 1; born = asked } = sym named ∙ ap name_of title in
      let born : seen.slot.born ≡ asked = ap (λ (z : SlotName). z.born) slot in
      let fits : RootActFits (pools ++ e ∷ []) (Map asked seen.slot (shape_of size).slot) (root_at pools roots p) =
      subst (λ z. RootActFits (pools ++ e ∷ []) (Map z seen.slot (shape_of size).slot) (root_at pools roots p)) (sym at)
      (calls_fit.map pools e first (shape_of size).slot seen.slot (root_at pools roots p) act (ap (λ (z : SlotName). z.start) slot)
      (born ∙ at)) in
      one_called supers partitions n p ps x pools (e ∷ []) roots (Map asked seen.slot (shape_of size).slot) all (all x.thread) h after plan
      (map_act (e ∷ []) fits at born)
      (asks_once supers n p pools e (Map asked seen.slot (shape_of size).slot) refl refl
      (omega arith, subst (λ z. IsLowest (pool_at supers pools) (shape_of size).supers z) (sym found) ask.lowest) (ap Some at))
      (ap (λ z. mapped (map_title z (shape_of size).slot) (root_at pools roots p)) slot ∙ sym (ap (λ (f : Filled). f.root) is))
      (pool_grows.next supers pools e ∙ ap (λ z. took (shape_of size).supers z (pool_at supers pools)) found ∙ sym ask.took)

-- the call asked the pool, by this entry
asked_as : (len asked : ℕ) (pool next : PoolState) (r : Root) (filled : Filled) (o : Option ℕ) → Maps len pool next r filled o →
    o ≡ Some asked →
    (found : Option ℕ) × IsAsked (supers_for len) asked found pool next × (filled ≡ mapped_by len asked found r)
asked_as len asked pool next r filled None did at = absurd did
asked_as len asked pool next r filled (Some entry) did at =
    subst (λ z. (found : Option ℕ) × IsAsked (supers_for len) z found pool next × (filled ≡ mapped_by len z found r))
    (of_some entry asked at) did

pub map_is_done : MapIsDone
map_is_done supers partitions n p size usable asked ps x pools roots all seen t plan after placed h line made asks below did at one named =
    let (found, ask, is) = asked_as (shape_of size).slot asked (pool_at supers pools) plan (root_at pools roots p) _ placed.pool did at in
    map_called supers partitions n p size usable asked ps x pools roots all seen t h line made asks below named after plan found ask
    (ap {B = Filled} (λ zs. record { root = after; titles = zs }) (sym one) ∙ is)

pub full_map_is_done : FullMapIsDone
full_map_is_done supers partitions n p size asked j ps x pools roots all plan after placed h line full index asks below did at none =
    let (found, ask, is) = asked_as (shape_of size).slot asked (pool_at supers pools) plan (root_at pools roots p) _ placed.pool did at in
    by_found found ask (ap {B = Filled} (λ zs. record { root = after; titles = zs }) (sym none) ∙ is)
  where
    by_found : (found : Option ℕ) → IsAsked (supers_for (shape_of size).slot) asked found (pool_at supers pools) plan →
        record { root = after; titles = [] } ≡ mapped_by (shape_of size).slot asked found (root_at pools roots p) →
        IsCalled supers partitions n x pools (asked_for n p (shape_of size).supers [] (Some asked)) roots p (Full None asked ∷ [])
        (all x.thread) (all x.thread) after plan
    by_found None ask is =
        let (reg, op, direct) = asks in
        let at : asked ≡ length pools = ask.entry ∙ entries_are supers partitions n ps pools roots all h in
        let e : PoolEntry = record { line = n; partition = p; act = pool.Take (shape_of size).supers None } in
        let none_found = calls_fit.full_map pools e (shape_of size).supers (root_at pools roots p) refl in
        full_called supers partitions n p j ps x pools roots all h line full index below None
        (shape_of size).supers asked reg size after plan op
        (subst (λ z. RootActFits (pools ++ e ∷ []) (Full None z) (root_at pools roots p)) (sym at) none_found)
        (subst (λ z. MakesEntry (pools ++ e ∷ []) p (Full None z) x) (sym at)
        (size, asks, ap (λ o. option_map (λ (z : PoolEntry). z.act) o) (slice_get_at pools [] e)))
        (λ only. inr (p, size, asked, asks, only, λ q c. refl))
        at (omega arith) ask.lowest ask.took (ap (λ (f : Filled). f.root) is)
    by_found (Some first) ask is = absurd (not_cons (map_in first (shape_of size).slot asked) [] (ap (λ (f : Filled). f.titles) is))
