-- A line with a fill: the new titles are cut, those that the fill takes come to the thread, and then the core shows the next roots.
use Rattle.std.proofs.Common.{◌≡◌, ℕ, suc, ◌+◌, ◌*◌, ◌<◌, ◌≤◌, List, [], ◌∷◌, ◌++◌, Option, refl, sym, ◌∙◌, ap, subst, arith, ◌⊎◌, inl, inr}
use Rattle.std.specs.Prelude.{Contains}
use Rattle.std.proofs.lemmas.Bool.{cases_eq}
use Rattle.pa_slot.specs.declared.word.SlotName.{SlotName}
use Rattle.pa_slot.specs.declared.title.Title.{Title}
use Rattle.pa_machine.specs.Events.{State}
use Rattle.pa_record.specs.declared.numbered.Numbered.{Numbered}
use Rattle.pa_record.specs.declared.root.RootAct.TheVariants.{Fill}
use Rattle.pa_record.specs.Spans.{name_of}
use Rattle.pa_record.specs.Root.{Root}
use Rattle.pa_record.specs.Sound.{IsSound, IsMade, TitlesApart}
use Rattle.pa_record.specs.Laws.{IsNameOut, times}
use Rattle.pa_lists.proofs.Members.{first_in, later_in}
use Rattle.pa_record.proofs.Lawful.{journal_leaves}
use Rattle.pa_heap_effects.specs.Shared.{IsThere}
use Rattle.pa_rules.specs.declared.played.Played.{Played}
use Rattle.pa_rules.specs.Caches.{Cache, OnlyActs, with_list}
use Rattle.pa_rules.proofs.Counted.{stands}
use Rattle.pa_rules.proofs.Following.{titles_follow}
use Rattle.pa_one_run.specs.Parts.{Parts}
use Rattle.pa_one_run.specs.Before.{root_at}
use Rattle.pa_one_run.proofs.lines.Cuts.{cut_here}
use Rattle.pa_one_run.proofs.Filed.{IsFiled}
use Rattle.pa_one_run.proofs.roots.Replays.{front_journal}
use Rattle.pa_core_run.specs.Ledger.{IsShown}
use Rattle.pa_core_run.specs.Moves.{StandOnce, AllApart, named_in, CanBeCut}
use Rattle.pa_core_run.specs.Standing.{Standing, in_lists, ledger_of}
use Rattle.pa_core_run.specs.Fronts.{MadeIn, KeptIn, titles_in, IsFrontOf}
use Rattle.pa_core_run.proofs.Batching.{kept_with}
use Rattle.pa_core_run.proofs.Taking.{kept_without}
use Rattle.pa_core_run.proofs.Listing.{over_lists}
use Rattle.pa_core_run.proofs.FrontPool.{apart_here}
use Rattle.pa_core_run.proofs.Fresh.{all_there, listed_there, there_listed, AreFresh, fresh_of}
use Rattle.pa_core_run.proofs.Growing.{made_at_end}
use Rattle.pa_core_run.proofs.Unmade.{new_word}
use Rattle.pa_core_run.proofs.Lying.{ends_inside, slot_lies}
use Rattle.pa_core_run.proofs.Issued.{listing, lists_mine, IsBrought}
use Rattle.pa_core_run.proofs.FilledRoots.{IsFilledTo, slot_not_map, differ_once, name_stays, was_kept, root_other, filled_titles, filled_names, filled_root}
use Rattle.pa_core_run.proofs.Bringing.{named_times, titles_come}
use Rattle.pa_record.proofs.Leaving.{slot_out}

module _ (a : Parts) (before rest : List Played) (x : Played) (h : IsFiled a) (parts : a.ps ≡ before ++ x ∷ rest) (st : Standing)
    (f : IsFrontOf a x.line before (x ∷ rest) st) (s : State)
    (shown : IsShown (titles_in a (root_at a x.line)) (a.threads + 1) (2097152 * a.supers) (ledger_of a.partitions st) s)
    (p class : ℕ) (asked : Option ℕ) (xs : List Numbered) (only : OnlyActs a.roots x.line p (Fill class asked xs ∷ [])) where
  abbrev old_root : Root
  old_root = root_at a x.line p

  abbrev new_root : Root
  new_root = root_at a (x.line + 1) p

  abbrev taken : List Title
  taken = filled_titles a before rest x h parts st f p class asked xs only

  fill : IsFilledTo old_root new_root taken
  fill = filled_root a before rest x h parts st f p class asked xs only

  sound_old : IsSound old_root
  sound_old = (journal_leaves a.pools _ (front_journal a x.line p h)).sound

  sound_new : IsSound new_root
  sound_new = (journal_leaves a.pools _ (front_journal a (x.line + 1) p h)).sound

  fresh : (new : List Title) × AreFresh (all_there new_root) (all_there old_root) new
  fresh = fresh_of (all_there new_root) (all_there old_root)

  abbrev new : List Title
  new = fresh.0

  -- ---- the titles that are there

  -- a new title is a slot, which wasn't there
  new_made : (t : Title) → Contains new t → IsMade new_root t × (IsThere old_root t → ⊥)
  new_made t among =
      let (there, unlisted) = fresh.1.each t among in
      elim (there_listed new_root t there) [
        | inl made ↦ (made, λ old. unlisted (listed_there old_root t old))
        | inr mapped ↦ absurd (unlisted (listed_there old_root t (inr (subst (λ ts. Contains ts t) fill.maps mapped))))
      ]

  stays_there : (u : Title) → IsThere old_root u → IsThere new_root u
  stays_there u (inl made) = inl (fill.keeps u made)
  stays_there u (inr mapped) = inr (subst (λ ts. Contains ts u) (sym fill.maps) mapped)

  there_at : (q : ℕ) (u : Title) → IsThere (root_at a x.line q) u → IsThere (root_at a (x.line + 1) q) u
  there_at q u there = elim (cases_eq q p) [
    | inl e ↦ subst (λ z. IsThere (root_at a (x.line + 1) z) u) (sym e)
        (stays_there u (subst (λ z. IsThere (root_at a x.line z) u) e there))
    | inr ne ↦ subst (λ (r : Root). IsThere r u) (sym (root_other a before rest x h parts st f p (Fill class asked xs) only q ne)) there
  ]

  new_apart : (t u : Title) (q : ℕ) → Contains new t → IsThere (root_at a x.line q) u → TitlesApart t u
  new_apart t u q among there =
      let (made, away) = new_made t among in
      elim (apart_here a (x.line + 1) h p q t u (inl made) (there_at q u there)) [
        | inl (place, same) ↦ absurd
            (away (subst (λ z. IsThere (root_at a x.line z) t) (sym place) (subst (λ v. IsThere (root_at a x.line q) v) (sym same) there)))
        | inr apart ↦ apart
      ]

  all_apart : (ts : List Title) → ((t : Title) → Contains ts t → IsMade new_root t) → StandOnce ts → AllApart ts
  all_apart [] made alone = tt
  all_apart (t ∷ ts) made alone = (
    λ u among. elim (apart_here a (x.line + 1) h p p u t (inl (made u (later_in t u ts among))) (inl (made t (first_in t ts)))) [
      | inl (place, same) ↦ absurd (alone.0 (subst (λ v. Contains ts v) same among))
      | inr apart ↦ apart
    ],
    all_apart ts (λ u among. made u (later_in t u ts among)) alone.1,
  )

  abbrev Can : Title → Type 0
  Can t = CanBeCut (titles_in a (root_at a x.line)) (2097152 * a.supers) t × ((ledger_of a.partitions st).word (name_of t) ≡ 0)

  can_cut : (t : Title) → Contains new t → Can t
  can_cut t among =
      let (made, away) = new_made t among in
      let lies = slot_lies a h p (x.line + 1) t made (ends_inside a h p t (inl (made_at_end a h p (x.line + 1) t made))) in (
        record {
          apart = λ u there. new_apart t u there.0 among there.1;
          start_aligned = lies.start_aligned;
          len_aligned = lies.len_aligned;
          long = lies.long;
          inside = lies.inside;
        },
        f.words (name_of t) ∙ new_word a h before (x ∷ rest) x.line p t (cut_here a before rest x h parts) made (λ old. away (inl old)),
      )

  -- ---- the titles that the roots keep

  abbrev Cut : Title → Type 0
  Cut = kept_with (KeptIn (root_at a x.line)) new

  -- what is made now was kept, or is new
  was_or_new : (t : Title) → IsMade new_root t → IsMade old_root t ⊎ Contains new t
  was_or_new t made = elim (fresh.1.all t (listed_there new_root t (inl made))) [
    | inl old ↦ elim (there_listed old_root t old) [
      | inl before_it ↦ inl before_it
      | inr mapped ↦ absurd (slot_not_map new_root t t sound_new made (subst (λ ts. Contains ts t) (sym fill.maps) mapped) refl)
    ]
    | inr it ↦ inr it
  ]

  taken_kept : (t : Title) → Contains taken t → MadeIn a t × Cut t
  taken_kept t among =
      let made = fill.made t among in (
        (p, inl (made_at_end a h p (x.line + 1) t made)),
        elim (was_or_new t made) [
          | inl old ↦ inl (p, old, was_kept old_root new_root taken fill sound_old t among old)
          | inr it ↦ inr it
        ],
      )

  kept_here : (u : Title) → IsMade new_root u → (IsNameOut new_root (name_of u) → ⊥) → kept_without Cut taken u
  kept_here u made away = (
    elim (was_or_new u made) [
      | inl old ↦ inl (p, old, λ out. away (name_stays old_root new_root taken fill sound_old (name_of u) out))
      | inr it ↦ inr it
    ],
    λ among. away (slot_out new_root (name_of u) (fill.out u among)),
  )

  kept_next : (u : Title) → KeptIn (root_at a (x.line + 1)) u → kept_without Cut taken u
  kept_next u (q, made, away) = elim (cases_eq q p) [
    | inl e ↦ kept_here u (subst (λ z. IsMade (root_at a (x.line + 1) z) u) e made)
        (subst (λ z. IsNameOut (root_at a (x.line + 1) z) (name_of u) → ⊥) e away)
    | inr ne ↦
        let same = root_other a before rest x h parts st f p (Fill class asked xs) only q ne in
        let all = titles_follow.titles a.supers a.partitions a.ps a.pools a.roots h.journals h.pool in (
          inl (q, subst (λ (r : Root). IsMade r u) same made, subst (λ (r : Root). IsNameOut r (name_of u) → ⊥) same away),
          λ among. ne (all.owned q p u u (inl (made_at_end a h q (x.line + 1) u made))
              (inl (made_at_end a h p (x.line + 1) u (fill.made u among))) refl),
        )
  ]

  -- ---- the lists

  abbrev list_now : Cache
  list_now = with_list (st.caches x.thread) p class xs

  lists_filled : class < 170 → st.caches x.thread p class ≡ [] → (y : SlotName) →
      in_lists a.partitions (listing a before rest x h parts st f s shown list_now) y (suc x.thread) ≤ in_lists a.partitions st y
      (suc x.thread) + named_in y taken
  lists_filled real empty y =
      let mine = lists_mine a before rest x h parts st f s shown list_now y in
      let none = ap (stands y) empty in
      let grown = over_lists a.partitions p class y (st.caches x.thread) list_now xs (stands y xs) real (λ q c. refl) (omega arith) in
      let named : named_in y taken ≡ stands y xs = named_times y taken ∙
      ap (times y) (filled_names a before rest x h parts st f p class asked xs only) in
      omega arith

  -- ---- the line

  pub fill_brings : class < 170 → st.caches x.thread p class ≡ [] → (mid : State) ×
      IsBrought a before rest x h parts st f s shown list_now mid
  fill_brings real empty = titles_come a before rest x h parts st f s shown new taken list_now (record {
    can = can_cut;
    apart = all_apart new (λ t among. (new_made t among).0) fresh.1.once;
    kept = taken_kept;
    alone = differ_once taken fill.differ;
    lists = lists_filled real empty;
    there = λ u there. elim there [ inl old ↦ (old.0, there_at old.0 u old.1) | inr it ↦ (p, inl (new_made u it).0) ];
    next = kept_next;
  })
