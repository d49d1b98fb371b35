-- A line on which a direct map goes back: its free title goes to actor 0 and becomes raw bytes again.
use Rattle.std.proofs.Common.{◌≡◌, ℕ, suc, ◌+◌, ◌*◌, ◌<◌, ◌≤◌, List, [], ◌∷◌, ◌++◌, refl, sym, ◌∙◌, ap, subst, arith, inl, inr}
use Rattle.std.specs.Prelude.{Contains}
use Rattle.std.proofs.lemmas.Bool.{cases_eq}
use Rattle.pa_slot.specs.declared.word.SlotName.{SlotName}
use Rattle.pa_slot.specs.declared.title.Title.{Title}
use Rattle.pa_machine.specs.declared.event.Event.TheVariants.{Uncut}
use Rattle.pa_machine.specs.Events.{State}
use Rattle.pa_record.specs.declared.numbered.Numbered.{Numbered}
use Rattle.pa_record.specs.declared.root.RootAct.TheVariants.{Unmap}
use Rattle.pa_record.specs.Spans.{name_of}
use Rattle.pa_record.specs.Root.{Root, map_title, unmapped, names}
use Rattle.pa_record.specs.Sound.{IsSound, IsMade, IsMadeBy}
use Rattle.pa_record.specs.Laws.{IsNameOut}
use Rattle.pa_lists.proofs.Members.{first_in}
use Rattle.pa_record.proofs.Lawful.{journal_leaves}
use Rattle.pa_heap_effects.specs.Shared.{IsThere}
use Rattle.pa_rules.specs.declared.played.Played.{Played}
use Rattle.pa_rules.specs.Caches.{Cache, SameLists, OnlyActs, with_list}
use Rattle.pa_rules.proofs.Counted.{stands, times_cons, list_changed}
use Rattle.pa_rules.proofs.Running.{one_by}
use Rattle.pa_rules.proofs.Following.{titles_follow}
use Rattle.pa_core_steps.proofs.Joining.{run_join}
use Rattle.pa_rules.specs.Once.{once}
use Rattle.pa_one_run.specs.Parts.{Parts}
use Rattle.pa_one_run.specs.Before.{root_at}
use Rattle.pa_lists.proofs.Elements.{in_one}
use Rattle.pa_one_run.proofs.Filed.{IsFiled}
use Rattle.pa_one_run.proofs.roots.Replays.{front_journal, act_entry}
use Rattle.pa_core_run.specs.Ledger.{IsShown}
use Rattle.pa_core_run.specs.Moves.{named_in, IsReached}
use Rattle.pa_core_run.specs.Standing.{Standing, in_lists, ledger_of}
use Rattle.pa_core_run.specs.Fronts.{MadeIn, ThereIn, KeptIn, titles_in, IsFrontOf}
use Rattle.pa_core_run.proofs.Acting.{beside_both}
use Rattle.pa_core_run.proofs.Moving.{keeping}
use Rattle.pa_core_run.proofs.Cutting.{without_title, uncut_shown}
use Rattle.pa_core_run.proofs.Batching.{kept_with}
use Rattle.pa_core_run.proofs.Making.{renamed}
use Rattle.pa_core_run.proofs.Listing.{less_lists}
use Rattle.pa_core_run.proofs.NextFronts.{cache_left}
use Rattle.pa_core_run.proofs.Growing.{made_at_end}
use Rattle.pa_core_run.proofs.Unmade.{entry_inside}
use Rattle.pa_core_run.proofs.FilledRoots.{root_one, root_other, slot_not_map}
use Rattle.pa_core_run.proofs.Fronted.{lists_here}
use Rattle.pa_core_run.proofs.Issued.{lists_mine, names_next}
use Rattle.pa_core_run.proofs.Refills.{list_back}
use Rattle.pa_core_run.proofs.MapsMade.{map_made, other_stays}
use Rattle.pa_core_run.proofs.Stepped.{given_st}
use Rattle.pa_core_run.proofs.Returned.{titles_back}
use Rattle.pa_record.proofs.Leaving.{slot_out, name_cases}

module _ (a : Parts) (before rest : List Played) (x : Played) (h : IsFiled a) (parts : a.ps ≡ before ++ x ∷ rest) (st : Standing)
    (f : IsFrontOf a x.line before (x ∷ rest) st) (s : State)
    (shown : IsShown (titles_in a (root_at a x.line)) (a.threads + 1) (2097152 * a.supers) (ledger_of a.partitions st) s)
    (p asked len : ℕ) (slot : Numbered) (only : OnlyActs a.roots x.line p (Unmap asked slot ∷ []))
    (mapped : Contains (root_at a x.line p).maps (map_title slot.slot len)) where
  abbrev gone : Title
  gone = map_title slot.slot len

  abbrev old_root : Root
  old_root = root_at a x.line p

  next_is : root_at a (x.line + 1) p ≡ unmapped slot.slot old_root
  next_is = root_one a before rest x h parts st f p (Unmap asked slot) only

  sound_old : IsSound old_root
  sound_old = (journal_leaves a.pools _ (front_journal a x.line p h)).sound

  gone_made : IsMadeBy a.pools (a.roots p) gone
  gone_made = map_made a x.line p gone h mapped

  -- ---- the titles that are there, and those that the roots keep

  stays_there : (u : Title) → IsThere old_root u → (gone ≡ u → ⊥) → IsThere (unmapped slot.slot old_root) u
  stays_there u (inl made) ne = inl made
  stays_there u (inr member) ne =
      inr (other_stays slot.slot old_root.maps u member
      (λ same. ne (one_by (λ (z : Title). z.born) old_root.maps gone u sound_old.alone mapped member (sym same))))

  there_next : (u : Title) → ThereIn (root_at a x.line) u → (gone ≡ u → ⊥) → ThereIn (root_at a (x.line + 1)) u
  there_next u (q, there) ne = elim (cases_eq q p) [
    | inl e ↦ (p, subst (λ (r : Root). IsThere r u) (sym next_is) (stays_there u (subst (λ z. IsThere (root_at a x.line z) u) e there) ne))
    | inr other ↦ (
      q,
      subst (λ (r : Root). IsThere r u)
          (sym (root_other a before rest x h parts st f p (Unmap asked slot) only q other)) there,
    )
  ]

  -- a slot that is out stays out
  slot_stays : (u : Title) → IsMade old_root u → IsNameOut old_root (name_of u) → IsNameOut (unmapped slot.slot old_root) (name_of u)
  slot_stays u made out = elim (name_cases old_root (name_of u) out) [
    | inl is_out ↦ slot_out (unmapped slot.slot old_root) (name_of u) is_out
    | inr (v, member, same) ↦ absurd (slot_not_map old_root u v sound_old made member same)
  ]

  kept_next : (u : Title) → KeptIn (root_at a (x.line + 1)) u → kept_with (KeptIn (root_at a x.line)) (gone ∷ []) u × (gone ≡ u → ⊥)
  kept_next u (q, made, away) = elim (cases_eq q p) [
    | inl e ↦
        let made_now = subst (λ (r : Root). IsMade r u) next_is (subst (λ z. IsMade (root_at a (x.line + 1) z) u) e made) in
        let away_now = subst (λ (r : Root). IsNameOut r (name_of u) → ⊥) next_is
        (subst (λ z. IsNameOut (root_at a (x.line + 1) z) (name_of u) → ⊥) e away) in (
          inl (p, made_now, λ out. away_now (slot_stays u made_now out)),
          λ same. slot_not_map old_root u gone sound_old made_now mapped (ap name_of (sym same)),
        )
    | inr ne ↦
        let same = root_other a before rest x h parts st f p (Unmap asked slot) only q ne in
        let all = titles_follow.titles a.supers a.partitions a.ps a.pools a.roots h.journals h.pool in (
          inl (q, subst (λ (r : Root). IsMade r u) same made, subst (λ (r : Root). IsNameOut r (name_of u) → ⊥) same away),
          λ e. ne (all.owned q p u gone (inl (made_at_end a h q (x.line + 1) u made)) gone_made (ap (λ (z : Title). z.born) (sym e))),
        )
  ]

  -- ---- the thread's lists: the slot comes before one until its title goes

  abbrev pub list_back_with : Cache
  list_back_with = with_list (st.caches x.thread) p 0 (record { slot = slot.slot; number = 0 } ∷ st.caches x.thread p 0)

  inside : p < a.partitions
  inside =
      let (e, member, line, is) =
      act_entry a.roots x.line p (Unmap asked slot)
      (subst (λ xs. Contains xs (Unmap asked slot)) (sym only.0) (first_in (Unmap asked slot) [])) in
      entry_inside a h p e member

  lists_fall : SameLists (cache_left a before rest x h parts st f) (st.caches x.thread) → (y : SlotName) →
      in_lists a.partitions (given_st a before rest x h parts st f s shown (cache_left a before rest x h parts st f)) y (suc x.thread) +
      named_in y (gone ∷ []) ≤ in_lists a.partitions (given_st a before rest x h parts st f s shown list_back_with) y (suc x.thread)
  lists_fall same y =
      let cache = st.caches x.thread in
      let xs : List Numbered = record { slot = slot.slot; number = 0 } ∷ cache p 0 in
      let one = times_cons y slot.slot (names (cache p 0)) in
      let all = ap (stands y) (list_changed cache p 0 xs) in
      let here = lists_here a before rest x h parts st f s shown st.content y in
      let there = lists_mine a before rest x h parts st f s shown list_back_with y in
      let named : named_in y (gone ∷ []) ≡ once y slot.slot + 0 = refl in
      let fall = less_lists a.partitions p 0 y list_back_with (cache_left a before rest x h parts st f) (cache p 0) (once y slot.slot)
      (omega arith) inside (λ q c. same q c ∙ list_back cache p 0 xs q c) (omega arith) in
      omega arith

  -- ---- the line

  pub map_goes : SameLists (cache_left a before rest x h parts st f) (st.caches x.thread) → (mid : State) →
      IsShown (titles_in a (root_at a x.line)) (a.threads + 1) (2097152 * a.supers)
      (ledger_of a.partitions (given_st a before rest x h parts st f s shown list_back_with)) mid →
      (after : State) × IsReached (names_next a before rest x h parts st f s shown) (a.threads + 1) (2097152 * a.supers)
      (ledger_of a.partitions (given_st a before rest x h parts st f s shown (cache_left a before rest x h parts st f))) mid
      (suc x.thread) after
  map_goes same mid now =
      let actors = a.threads + 1 in
      let bytes = 2097152 * a.supers in
      let ledger = ledger_of a.partitions (given_st a before rest x h parts st f s shown (cache_left a before rest x h parts st f)) in
      let names_mid = keeping (titles_in a (root_at a x.line)) (kept_with (KeptIn (root_at a x.line)) (gone ∷ [])) in
      let (back, b) = titles_back a before rest x h parts st f s shown (gone ∷ []) list_back_with mid now
      (λ t member. subst (λ v. MadeIn a v) (in_one gone t member) (p, gone_made)) (lists_fall same) in
      let (after, run, raw) = uncut_shown names_mid (KeptIn (root_at a (x.line + 1))) actors bytes ledger back gone b.shown (omega arith)
      (b.shown.kept gone (inr (first_in gone []))) kept_next in (
        after,
        record {
          events = b.events ++ Uncut 0 gone ∷ [];
          run = run_join mid back after b.events (Uncut 0 gone ∷ []) now.good b.run run;
          beside = beside_both (suc x.thread) b.events (Uncut 0 gone ∷ []) b.beside (inl refl, tt);
          shown = renamed (without_title names_mid gone (KeptIn (root_at a (x.line + 1))))
              (names_next a before rest x h parts st f s shown) actors bytes ledger after (λ u. refl) (λ u made. made)
              (λ u there. there_next u there.0 there.1) (λ u kept. kept) raw;
        },
      )
