-- A direct map that goes back is the deed of the step that returned it.
use Rattle.std.proofs.Common.{◌≡◌, ℕ, ◌+◌, ◌<◌, List, [], ◌∷◌, ◌++◌, length, refl, sym, ◌∙◌, ap, subst, arith, inl, inr}
use Rattle.std.specs.Prelude.{Contains}
use Rattle.std.proofs.lemmas.Bool.{cases_lt}
use Rattle.pa_slot.specs.declared.title.Title.{Title}
use Rattle.pa_slot.specs.declared.word.SlotName.{SlotName}
use Rattle.pa_slot.specs.Count.{number_of}
use Rattle.pa_layout.specs.Pages.{page_place, super_page_at}
use Rattle.pa_record.specs.declared.entry.Seen.{Seen}
use Rattle.pa_record.specs.declared.entry.Answer.{Answer}
use Rattle.pa_record.specs.declared.entry.Answer.TheVariants as answers
use Rattle.pa_record.specs.declared.numbered.Numbered.{Numbered}
use Rattle.pa_record.specs.declared.pool.PoolEntry.{PoolEntry}
use Rattle.pa_record.specs.declared.root.RootAct.{RootAct}
use Rattle.pa_record.specs.declared.root.RootAct.TheVariants.{Map, Unmap}
use Rattle.pa_record.specs.Pool.{gave}
use Rattle.pa_record.specs.Spans.{name_of}
use Rattle.pa_record.specs.Root.{new_root, root_replayed, map_title, unmapped, RootActFits}
use Rattle.pa_record.specs.Sound.{IsMadeBy}
use Rattle.pa_lists.proofs.Members.{not_in_none}
use Rattle.pa_record.proofs.PoolSteps.{pool_grows}
use Rattle.pa_record.proofs.Owned.{roots_are_taken}
use Rattle.pa_record.proofs.Titles.{made_born}
use Rattle.pa_record.proofs.Lawful.{journal_leaves}
use Rattle.pa_record.proofs.Leaving.{out_is_left}
use Rattle.pa_record.proofs.Calling.{calls_fit}
use Rattle.pa_rules.specs.declared.played.Played.{Played}
use Rattle.pa_rules.specs.Played.{step_of}
use Rattle.pa_rules.specs.Roots.{Journals}
use Rattle.pa_rules.specs.Caches.{Caches, IsDirect, CacheRow, unmap_at}
use Rattle.pa_rules.specs.Holders.{Out, Back, Move, move_of}
use Rattle.pa_rules.proofs.Owned.{title_of}
use Rattle.pa_legal.specs.Flows.{UnmapsNext}
use Rattle.pa_heap_effects.specs.Deeds.{grown, root_at, IsPlacedTo}
use Rattle.pa_heap_effects.specs.Pooled.{pool_at}
use Rattle.pa_heap_effects.specs.Ops.{only_in, Returns, unmap_made, UnmapIsDone}
use Rattle.pa_heap_effects.proofs.Growing.{grown_cases, grown_old}
use Rattle.pa_heap_effects.proofs.Numbering.{LeavesAt}
use Rattle.pa_heap_effects.proofs.Acting.{by_place}
use Rattle.pa_heap_effects.proofs.First.{page_super}
use Rattle.pa_heap_effects.proofs.Single.{one_called, next_low, asks_once, not_full_done}
use Rattle.pa_heap_effects.proofs.Returned.{frees_by, done_row}
use Rattle.pa_heap_effects.proofs.Unmapping.{maps_are_taken}
use Rattle.pa_lists.proofs.Elements.{in_one}
use Rattle.pa_rules.proofs.FourPlaces.{left_member}

one_seen : (a : Answer) (seen other : Seen) → a ≡ answers.Done seen → a ≡ answers.Done other → seen ≡ other
one_seen a seen other e f = cc

out_not_back : Back ≡ Out → ⊥
out_not_back e = cc

unmap_slot : (a : RootAct) (asked other : ℕ) (slot with : Numbered) → Unmap asked slot ≡ a → a ≡ Unmap other with → slot ≡ with
unmap_slot a asked other slot with e f = cc

module _ (supers partitions n p : ℕ) (ps : List Played) (x : Played) (pools : List PoolEntry) (roots : Journals) (all : Caches)
    (seen : Seen) (t : Title)
    (h : IsPlacedTo partitions n ps pools roots all) (line : x.line ≡ n) (returns : Returns ps x seen)
    (member : Contains (root_at pools roots p).maps t) (named : name_of t ≡ seen.slot) where
  -- what is mapped was made by an entry of its journal
  direct : IsDirect roots seen.slot p
  direct = elim (out_is_left pools (roots p) seen.slot (h.journals p)) [
    | inl (out, more) ↦
        let (e, among, leaves) = left_member seen.slot (roots p) (omega arith) in
        let (u, made, is, len) = title_of pools (roots p) e seen.slot (h.journals p) among leaves in
        by_title u is made
    | inr (away, same) ↦ absurd (away (t, inr member, sym named))
  ]
    where
      by_title : (u : Title) → name_of u ≡ seen.slot → IsMadeBy pools (roots p) u → IsDirect roots seen.slot p
      by_title u is (inl made) =
          let left = journal_leaves pools (roots p) (h.journals p) in
          let (at, there, born) = made_born (root_at pools roots p) u left.sound made in
          absurd (left.sound.mixed t at member there (ap (λ (z : SlotName). z.born) (named ∙ sym is) ∙ born))
      by_title u is (inr (f, asked, len, slot, among, act, title)) =
          (f, asked, len, among, act ∙ ap (λ z. Map asked z len) (sym (ap name_of title) ∙ is))

  below : p < partitions
  below = elim (cases_lt p partitions) [
    | inl low ↦ low
    | inr past ↦ absurd (not_in_none t (subst (λ z. Contains (root_replayed pools z new_root).maps t) (h.none_past p past) member))
  ]

  unmap_leaves : (s : SlotName) → LeavesAt (roots p) (unmap_at (length pools) seen.slot (number_of seen.found.0 + 1)) s
  unmap_leaves s m at k among way slot there =
      let e = in_one (move_of at Back (record { slot = seen.slot; number = number_of seen.found.0 + 1 })) m among in
      absurd (out_not_back (ap (λ (z : Move). z.way) e ∙ way))

  unmaps_next : UnmapsNext (grown roots n (only_in p (unmap_at (length pools) seen.slot (number_of seen.found.0 + 1) ∷ []))) x
  unmaps_next other q asked slot e done among at act =
      elim (grown_cases roots n (only_in p (unmap_at (length pools) seen.slot (number_of seen.found.0 + 1) ∷ [])) q e among) [
        | inl old ↦ absurd (let low = h.entered q e old in omega arith)
        | inr new ↦
            let one : unmap_at (length pools) seen.slot (number_of seen.found.0 + 1) ≡ e.act =
            by_place (λ q bs. Contains bs e.act → unmap_at (length pools) seen.slot (number_of seen.found.0 + 1) ≡ e.act) p
            (unmap_at (length pools) seen.slot (number_of seen.found.0 + 1) ∷ [])
            (in_one _ e.act) (λ q ne none. absurd (not_in_none e.act none)) q new.0 in
            let is = unmap_slot e.act (length pools) asked
            (record { slot = seen.slot; number = number_of seen.found.0 + 1 }) slot one act in
            sym (ap (λ (z : Numbered). z.number) is) ∙
            ap (λ (z : Seen). number_of z.found.0 + 1) (one_seen x.answer seen other returns.answer done)
      ]

pub unmap_is_done : UnmapIsDone
unmap_is_done supers partitions n p ps x pools roots all seen t h g line returns member named =
    let act : RootAct = unmap_at (length pools) seen.slot (number_of seen.found.0 + 1) in
    let e : PoolEntry = unmap_made n p t in
    let (first, found, start) = (roots_are_taken.journal pools (roots p) (h.journals p)).maps t member in
    let place : t.start ≡ page_place (super_page_at t.start) 1 = start ∙
    ap (λ z. page_place z 1) (sym (ap super_page_at start ∙ page_super first)) in
    let at : seen.slot.start ≡ t.start = ap (λ (z : SlotName). z.start) (sym named) in
    let title : t ≡ map_title seen.slot t.len = ap (λ (z : SlotName). map_title z t.len) named in
    let fits : RootActFits (pools ++ e ∷ []) (unmap_at (length pools) seen.slot (number_of seen.found.0 + 1)) (root_at pools roots p) =
    calls_fit.unmap pools e (super_page_at t.start) t.len (record { slot = seen.slot; number = number_of seen.found.0 + 1 })
    (root_at pools roots p)
    (subst (λ z. Contains (root_at pools roots p).maps z) title member) (at ∙ place) refl in
    let frees = frees_by x.op returns.step seen.found.0 returns.makes returns.returning in
    one_called supers partitions n p ps x pools (e ∷ []) roots act all (all x.thread) h
    (unmapped (name_of t) (root_at pools roots p)) (gave (super_page_at t.start) (pool_at supers pools))
    (record {
      line = line;
      below = below supers partitions n p ps x pools roots all seen t h line returns member named;
      fits = fits;
      asks = next_low supers partitions n ps pools roots all h p;
      makes = frees;
      refusal = λ j reg q size full. absurd (not_full_done x.answer seen j returns.answer full);
      row = λ only. subst (λ a. CacheRow partitions (grown roots n (only_in p (act ∷ []))) x a (all x.thread) (all x.thread))
          (sym returns.answer)
          (done_row _ x (step_of x.op) returns.step seen (all x.thread) (all x.thread) returns.makes returns.returning
          (inr (
            p,
            length pools,
            number_of seen.found.0 + 1,
            direct_grown (direct supers partitions n p ps x pools roots all seen t h line returns member named),
            only,
            λ q c. refl,
          )));
      leaves = unmap_leaves supers partitions n p ps x pools roots all seen t h line returns member named;
      unmaps = unmaps_next supers partitions n p ps x pools roots all seen t h line returns member named;
    })
    (asks_once supers n p pools e act refl refl (maps_are_taken supers partitions n p ps pools roots all t h g member) refl)
    (ap (λ z. unmapped z (root_at pools roots p)) (sym named))
    (pool_grows.next supers pools e)
  where
    direct_grown : IsDirect roots seen.slot p →
        IsDirect (grown roots n (only_in p (unmap_at (length pools) seen.slot (number_of seen.found.0 + 1) ∷ []))) seen.slot p
    direct_grown (f, asked, len, among, is) =
        (f, asked, len, grown_old roots n (only_in p (unmap_at (length pools) seen.slot (number_of seen.found.0 + 1) ∷ [])) p f among, is)
