-- A line with a direct map: its title is cut and comes to the thread, and then the core shows the next roots.
use Rattle.std.proofs.Common.{◌≡◌, ℕ, suc, ◌+◌, ◌*◌, ◌≤◌, List, [], ◌∷◌, ◌++◌, refl, sym, ◌∙◌, ap, subst, arith, inl, inr}
use Rattle.std.specs.Prelude.{Contains}
use Rattle.std.proofs.lemmas.Bool.{cases_eq}
use Rattle.std.proofs.lemmas.List.Elements.{Contains-append_left, Contains-append_right}
use Rattle.pa_slot.specs.declared.word.SlotName.{SlotName}
use Rattle.pa_slot.specs.declared.title.Title.{Title}
use Rattle.pa_machine.specs.Events.{State}
use Rattle.pa_record.specs.declared.root.RootAct.{RootAct}
use Rattle.pa_record.specs.declared.root.RootAct.TheVariants.{Map}
use Rattle.pa_record.specs.Spans.{title_at, name_of}
use Rattle.pa_record.specs.Root.{Root, map_title, mapped, names}
use Rattle.pa_record.specs.Sound.{IsMade, IsMadeBy, TitlesApart, least_after_all}
use Rattle.pa_record.specs.Laws.{IsNameOut}
use Rattle.pa_lists.proofs.Members.{not_in_none, first_in}
use Rattle.pa_record.proofs.Titles.{made_born}
use Rattle.pa_record.proofs.Lawful.{journal_leaves}
use Rattle.pa_heap_effects.specs.Shared.{IsThere}
use Rattle.pa_rules.specs.declared.played.Played.{Played}
use Rattle.pa_rules.specs.Caches.{Cache, OnlyActs, with_list}
use Rattle.pa_rules.specs.Once.{once}
use Rattle.pa_rules.proofs.Counted.{times_cons}
use Rattle.pa_rules.proofs.Following.{titles_follow}
use Rattle.pa_one_run.specs.Parts.{Parts}
use Rattle.pa_one_run.specs.Before.{root_at}
use Rattle.pa_one_run.proofs.lines.Cuts.{cut_here}
use Rattle.pa_lists.proofs.Elements.{in_one}
use Rattle.pa_one_run.proofs.Filed.{IsFiled}
use Rattle.pa_one_run.proofs.roots.Replays.{front_journal, act_entry}
use Rattle.pa_one_run.proofs.roots.Requests.{one_fits, makes}
use Rattle.pa_core_run.specs.Ledger.{IsShown}
use Rattle.pa_core_run.specs.Moves.{named_in, CanBeCut}
use Rattle.pa_core_run.specs.Standing.{Standing, in_lists, ledger_of}
use Rattle.pa_core_run.specs.Fronts.{MadeIn, KeptIn, titles_in, IsFrontOf}
use Rattle.pa_core_run.proofs.Named.{made_long}
use Rattle.pa_core_run.proofs.Batching.{kept_with}
use Rattle.pa_core_run.proofs.Taking.{kept_without}
use Rattle.pa_core_run.proofs.Listing.{over_lists}
use Rattle.pa_core_run.proofs.NextFronts.{among}
use Rattle.pa_core_run.proofs.FrontPool.{journal_before, apart_here}
use Rattle.pa_core_run.proofs.Growing.{made_later, made_at_end, least_later}
use Rattle.pa_core_run.proofs.Unmade.{never_word}
use Rattle.pa_core_run.proofs.Lying.{ends_inside}
use Rattle.pa_core_run.proofs.Issued.{listing, lists_mine, IsBrought}
use Rattle.pa_core_run.proofs.FilledRoots.{root_one, root_other, asks_new}
use Rattle.pa_core_run.proofs.Bringing.{titles_come}
use Rattle.pa_record.proofs.Leaving.{name_cases}

-- a name that is out stays out when a direct map comes
name_stays : (r : Root) (t : Title) (name : SlotName) → IsNameOut r name → IsNameOut (mapped t r) name
name_stays r t name (u, inl slot, same) = (u, inl slot, same)
name_stays r t name (u, inr there, same) = (u, inr (Contains-append_left r.maps (t ∷ []) u there), same)

there_stays : (r : Root) (t u : Title) → IsThere r u → IsThere (mapped t r) u
there_stays r t u (inl made) = inl made
there_stays r t u (inr there) = inr (Contains-append_left r.maps (t ∷ []) u there)

module _ (a : Parts) (before rest : List Played) (x : Played) (h : IsFiled a) (parts : a.ps ≡ before ++ x ∷ rest) (st : Standing)
    (f : IsFrontOf a x.line before (x ∷ rest) st) (s : State)
    (shown : IsShown (titles_in a (root_at a x.line)) (a.threads + 1) (2097152 * a.supers) (ledger_of a.partitions st) s)
    (p asked len : ℕ) (slot : SlotName) (only : OnlyActs a.roots x.line p (Map asked slot len ∷ [])) where
  abbrev act : RootAct
  act = Map asked slot len

  abbrev map_now : Title
  map_now = map_title slot len

  abbrev old_root : Root
  old_root = root_at a x.line p

  abbrev least : ℕ
  least = least_after_all 0 (journal_before a x.line p)

  next_is : root_at a (x.line + 1) p ≡ mapped map_now old_root
  next_is = root_one a before rest x h parts st f p act only

  -- the entry of the pool that it names is new
  born_late : least ≤ slot.born
  born_late =
      let (first, found, start, born) = one_fits a x.line p act h only.0 in
      let asks = asks_new a before rest x h parts st f p act only in
      omega arith

  made_by : IsMadeBy a.pools (a.roots p) map_now
  made_by =
      let (e, stands_it, line, is) = act_entry a.roots x.line p act (subst (λ xs. Contains xs act) (sym only.0) (first_in act [])) in
      inr (e, asked, len, slot, stands_it, is, refl)

  not_there : IsThere old_root map_now → ⊥
  not_there there =
      let left = journal_leaves a.pools (journal_before a x.line p) (front_journal a x.line p h) in
      let late = born_late in
      elim there [
        | inl made ↦
            let (at, member, is) = made_born old_root map_now left.sound made in
            let low = left.born.supers at member in
            omega arith
        | inr there_it ↦ let low = left.born.maps map_now there_it in omega arith
      ]

  never : (m : ℕ) → m ≤ x.line → IsNameOut (root_at a m p) (name_of map_now) → ⊥
  never m low out =
      let late = born_late in
      elim (name_cases (root_at a m p) (name_of map_now) out) [
        | inl (span, member, number, o) ↦
            let sound = (journal_leaves a.pools (journal_before a m p) (front_journal a m p h)).sound in
            let left = journal_leaves a.pools (journal_before a x.line p) (front_journal a x.line p h) in
            let given = o.provisioned in
            let most = (sound.spans span member).counted.made in
            let made = made_later a h p m x.line (title_at span number) low (span, member, number, omega arith, refl) in
            let (at, there, is) = made_born old_root (title_at span number) left.sound made in
            let below = left.born.supers at there in
            let same = ap (λ (z : SlotName). z.born) o.named in
            omega arith
        | inr (v, there, name) ↦
            let left = journal_leaves a.pools (journal_before a m p) (front_journal a m p h) in
            let below = left.born.maps v there in
            let up = least_later a h p m x.line low in
            let same = ap (λ (z : SlotName). z.born) name in
            omega arith
      ]

  there_at : (q : ℕ) (u : Title) → IsThere (root_at a x.line q) u → IsThere (root_at a (x.line + 1) q) u
  there_at q u there = elim (cases_eq q p) [
    | inl e ↦ subst (λ z. IsThere (root_at a (x.line + 1) z) u) (sym e)
        (subst (λ (r : Root). IsThere r u) (sym next_is) (there_stays old_root map_now u
        (subst (λ z. IsThere (root_at a x.line z) u) e there)))
    | inr ne ↦ subst (λ (r : Root). IsThere r u) (sym (root_other a before rest x h parts st f p act only q ne)) there
  ]

  there_now : IsThere (root_at a (x.line + 1) p) map_now
  there_now = subst (λ (r : Root). IsThere r map_now) (sym next_is)
      (inr (Contains-append_right old_root.maps (map_now ∷ []) map_now (first_in map_now [])))

  map_apart : (u : Title) (q : ℕ) → IsThere (root_at a x.line q) u → TitlesApart map_now u
  map_apart u q there = elim (apart_here a (x.line + 1) h p q map_now u there_now (there_at q u there)) [
    | inl (place, same) ↦ absurd
        (not_there (subst (λ z. IsThere (root_at a x.line z) map_now) (sym place)
        (subst (λ v. IsThere (root_at a x.line q) v) (sym same) there)))
    | inr apart ↦ apart
  ]

  can_cut : CanBeCut (titles_in a (root_at a x.line)) (2097152 * a.supers) map_now ×
      ((ledger_of a.partitions st).word (name_of map_now) ≡ 0)
  can_cut =
      let (first, found, start, born) = one_fits a x.line p act h only.0 in
      let (size, asks, long) = makes a x p act h (among a before rest x h parts st f) only.0 in (
        record {
          apart = λ u there. map_apart u there.0 there.1;
          start_aligned = omega arith;
          len_aligned = omega arith;
          long = made_long a map_now h (p, made_by);
          inside = ends_inside a h p map_now made_by;
        },
        f.words (name_of map_now) ∙ never_word a h before (x ∷ rest) x.line p map_now (cut_here a before rest x h parts) made_by never,
      )

  kept_next : (u : Title) → KeptIn (root_at a (x.line + 1)) u →
      kept_without (kept_with (KeptIn (root_at a x.line)) (map_now ∷ [])) (map_now ∷ []) u
  kept_next u (q, made, away) = elim (cases_eq q p) [
    | inl e ↦
        let made_now = subst (λ (r : Root). IsMade r u) next_is (subst (λ z. IsMade (root_at a (x.line + 1) z) u) e made) in
        let away_now = subst (λ (r : Root). IsNameOut r (name_of u) → ⊥) next_is
        (subst (λ z. IsNameOut (root_at a (x.line + 1) z) (name_of u) → ⊥) e away) in (
          inl (p, made_now, λ out. away_now (name_stays old_root map_now (name_of u) out)),
          λ member. not_there (inl (subst (λ v. IsMade old_root v) (sym (in_one map_now u member)) made_now)),
        )
    | inr ne ↦
        let same = root_other a before rest x h parts st f p act only q ne in
        let all = titles_follow.titles a.supers a.partitions a.ps a.pools a.roots h.journals h.pool in (
          inl (q, subst (λ (r : Root). IsMade r u) same made, subst (λ (r : Root). IsNameOut r (name_of u) → ⊥) same away),
          λ member. ne (all.owned q p u u (inl (made_at_end a h q (x.line + 1) u made))
              (subst (λ v. IsMadeBy a.pools (a.roots p) v) (in_one map_now u member) made_by) refl),
        )
  ]

  -- its slot comes before a list while it comes
  abbrev pub list_mapped : Cache
  list_mapped = with_list (st.caches x.thread) p 0 (record { slot = slot; number = 0 } ∷ st.caches x.thread p 0)

  lists_mapped : (y : SlotName) → in_lists a.partitions (listing a before rest x h parts st f s shown list_mapped) y (suc x.thread) ≤
      in_lists a.partitions st y (suc x.thread) + named_in y (map_now ∷ [])
  lists_mapped y =
      let mine = lists_mine a before rest x h parts st f s shown list_mapped y in
      let one = times_cons y slot (names (st.caches x.thread p 0)) in
      let grown = over_lists a.partitions p 0 y (st.caches x.thread) list_mapped
      (record { slot = slot; number = 0 } ∷ st.caches x.thread p 0) (once y slot) (omega arith) (λ q c. refl) (omega arith) in
      let named : named_in y (map_now ∷ []) ≡ once y slot + 0 = refl in
      omega arith

  pub map_brings : (mid : State) × IsBrought a before rest x h parts st f s shown list_mapped mid
  map_brings = titles_come a before rest x h parts st f s shown (map_now ∷ []) (map_now ∷ []) list_mapped (record {
    can = λ t member. subst (λ v. CanBeCut (titles_in a (root_at a x.line)) (2097152 * a.supers) v ×
        ((ledger_of a.partitions st).word (name_of v) ≡ 0)) (in_one map_now t member) can_cut;
    apart = (λ u member. absurd (not_in_none u member), tt);
    kept = λ t member. subst (λ v. MadeIn a v × kept_with (KeptIn (root_at a x.line)) (map_now ∷ []) v) (in_one map_now t member)
        ((p, made_by), inr (first_in map_now []));
    alone = (λ member. not_in_none map_now member, tt);
    lists = lists_mapped;
    there = λ u there. elim there [
      | inl old ↦ (old.0, there_at old.0 u old.1)
      | inr it ↦
          (p, subst (λ v. IsThere (root_at a (x.line + 1) p) v) (in_one map_now u it) there_now)
    ];
    next = kept_next;
  })
