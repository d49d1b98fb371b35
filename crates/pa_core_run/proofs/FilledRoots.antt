-- What a fill's line leaves in its root: more slots are made and out, and nothing else changes; and what the roots have then.
use Rattle.std.proofs.Common.{◌≡◌, ◌≢◌, ℕ, ◌+◌, List, [], ◌∷◌, ◌++◌, map, Option, Some, None, refl, sym, ◌∙◌, ap, subst, arith, inl, inr}
use Rattle.std.specs.Prelude.{Contains, AllPairs}
use Rattle.pa_slot.specs.declared.word.SlotName.{SlotName}
use Rattle.pa_slot.specs.declared.title.Title.{Title}
use Rattle.pa_buckets.specs.Bands.{fill_of}
use Rattle.pa_record.specs.declared.numbered.Numbered.{Numbered}
use Rattle.pa_record.specs.declared.pool.PoolEntry.{PoolEntry}
use Rattle.pa_record.specs.declared.root.RootAct.{RootAct}
use Rattle.pa_record.specs.declared.root.RootAct.TheVariants.{Fill}
use Rattle.pa_record.specs.Pool.{act_at}
use Rattle.pa_record.specs.Spans.{name_of}
use Rattle.pa_record.specs.Root.{Root, Filled, takes, opened_by, super_of, names, root_next, IsJournal, IsOut, asked_by, all_asked}
use Rattle.pa_record.specs.Sound.{IsSound, IsBornBelow, IsMade, AsksFrom, least_after_all}
use Rattle.pa_record.specs.Steps.{IsFilled}
use Rattle.pa_record.specs.Laws.{IsNameOut}
use Rattle.pa_lists.proofs.Pairs.{pairs_head, pairs_tail}
use Rattle.pa_record.proofs.Titles.{made_born, rise_parts}
use Rattle.pa_record.proofs.Filling.{takes_filled, opened_sound}
use Rattle.pa_record.proofs.Mapping.{born_more}
use Rattle.pa_record.proofs.Lawful.{journal_leaves}
use Rattle.pa_heap_effects.specs.Deeds.{root_after}
use Rattle.pa_rules.specs.Caches.{OnlyActs}
use Rattle.pa_rules.specs.declared.played.Played.{Played}
use Rattle.pa_one_run.specs.Parts.{Parts, entry_line}
use Rattle.pa_one_run.specs.Before.{root_at}
use Rattle.pa_one_run.proofs.lines.Sorting.{below_next}
use Rattle.pa_one_run.proofs.Filed.{IsFiled}
use Rattle.pa_one_run.proofs.roots.Replays.{front_journal, on_line}
use Rattle.pa_one_run.proofs.roots.Requests.{one_fits}
use Rattle.pa_core_run.specs.Moves.{StandOnce}
use Rattle.pa_core_run.specs.Standing.{Standing}
use Rattle.pa_core_run.specs.Fronts.{IsFrontOf}
use Rattle.pa_core_run.proofs.NextFronts.{root_line}
use Rattle.pa_core_run.proofs.FrontPool.{journal_before}
use Rattle.pa_record.proofs.Leaving.{slot_out, name_cases}
use Rattle.pa_heap_effects.proofs.Sharing.{rise_rest}

-- ---- one root

-- what a fill leaves of a root, and which titles it takes out
pub record IsFilledTo (r after : Root) (titles : List Title) : Type 0 where
  pub maps : after.maps ≡ r.maps
  pub keeps : (t : Title) → IsMade r t → IsMade after t
  pub made : (t : Title) → Contains titles t → IsMade after t
  pub fresh : (t : Title) → Contains titles t → IsOut r (name_of t) → ⊥
  pub out : (t : Title) → Contains titles t → IsOut after (name_of t)
  pub stays : (name : SlotName) → IsOut r name → IsOut after name
  pub differ : AllPairs (λ (t : Title) (u : Title). name_of t ≢ name_of u) titles

opened_fill : (pools : List PoolEntry) (o : Option ℕ) (class want : ℕ) (r : Root) (f : Filled) →
    IsFilled class want (opened_by pools o r) f → IsFilledTo r f.root f.titles
opened_fill pools None class want r f h =
    record { maps = h.maps; keeps = h.keeps; made = h.made; fresh = h.fresh; out = h.out; stays = h.stays; differ = h.differ }
opened_fill pools (Some j) class want r f h =
    record { maps = h.maps; keeps = h.keeps; made = h.made; fresh = h.fresh; out = h.out; stays = h.stays; differ = h.differ }

opened_by_sound : (pools : List PoolEntry) (o : Option ℕ) (n : ℕ) (r : Root) → AsksFrom n o → IsSound r → IsBornBelow n r →
    IsSound (opened_by pools o r)
opened_by_sound pools None n r asks sound born = sound
opened_by_sound pools (Some j) n r asks sound born = opened_sound (super_of (act_at pools j)) j r sound (born_more n j r asks born)

pub slot_not_map : (r : Root) (t u : Title) → IsSound r → IsMade r t → Contains r.maps u → name_of t ≡ name_of u → ⊥
slot_not_map r t u sound made mapped same =
    let (at, member, is) = made_born r t sound made in
    sound.mixed u at mapped member (sym (ap (λ (x : SlotName). x.born) same) ∙ is)

pub differ_once : (ts : List Title) → AllPairs (λ (t : Title) (u : Title). name_of t ≢ name_of u) ts → StandOnce ts
differ_once [] differ = tt
differ_once (t ∷ ts) differ = (
  λ among. pairs_head (λ (y : Title) (z : Title). name_of y ≢ name_of z) t t ts differ among refl,
  differ_once ts (pairs_tail (λ (y : Title) (z : Title). name_of y ≢ name_of z) t ts differ),
)

module _ (r after : Root) (titles : List Title) (f : IsFilledTo r after titles) (sound : IsSound r) where
  pub name_stays : (name : SlotName) → IsNameOut r name → IsNameOut after name
  name_stays name out = elim (name_cases r name out) [
    | inl slot ↦ slot_out after name (f.stays name slot)
    | inr (t, mapped, same) ↦ (t, inr (subst (λ ts. Contains ts t) (sym f.maps) mapped), same)
  ]

  -- a title that it took out of what was made before was in the root
  pub was_kept : (t : Title) → Contains titles t → IsMade r t → IsNameOut r (name_of t) → ⊥
  was_kept t among made out = elim (name_cases r (name_of t) out) [
    | inl slot ↦ f.fresh t among slot
    | inr (u, mapped, same) ↦ slot_not_map r t u sound made mapped same
  ]

-- ---- the roots of a line with one fill

module _ (a : Parts) (before rest : List Played) (x : Played) (h : IsFiled a) (parts : a.ps ≡ before ++ x ∷ rest) (st : Standing)
    (f : IsFrontOf a x.line before (x ∷ rest) st)
    (p : ℕ) (act : RootAct) (only : OnlyActs a.roots x.line p (act ∷ [])) where
  -- the root of its partition, and those of the others
  pub root_one : root_at a (x.line + 1) p ≡ root_next a.pools act (root_at a x.line p)
  root_one = root_line a before rest x h parts st f p ∙ ap (λ acts. root_after a.pools acts (root_at a x.line p)) only.0

  pub root_other : (q : ℕ) → (q ≡ p → ⊥) → root_at a (x.line + 1) q ≡ root_at a x.line q
  root_other q ne = root_line a before rest x h parts st f q ∙ ap (λ acts. root_after a.pools acts (root_at a x.line q)) (only.1 q ne)

  -- the entry of the pool that it names is none of those that were named before
  pub asks_new : AsksFrom (least_after_all 0 (journal_before a x.line p)) (asked_by act)
  asks_new =
      let (e, one, is) = on_line a x.line p act only.0 in
      let cut = below_next entry_line x.line (x.line + 1) (a.roots p) (omega arith) (λ d member up. omega arith) (h.order.journals p) in
      let journal = subst (λ es. IsJournal a.pools es) (cut ∙ ap (λ es. journal_before a x.line p ++ es) one)
      (front_journal a (x.line + 1) p h) in
      let rise = rise_rest 0 (journal_before a x.line p) (e ∷ []) journal.rise in
      subst (λ z. AsksFrom (least_after_all 0 (journal_before a x.line p)) (asked_by z)) is
      (rise_parts (least_after_all 0 (journal_before a x.line p)) (asked_by e.act) (all_asked []) rise).0

module _ (a : Parts) (before rest : List Played) (x : Played) (h : IsFiled a) (parts : a.ps ≡ before ++ x ∷ rest) (st : Standing)
    (f : IsFrontOf a x.line before (x ∷ rest) st)
    (p class : ℕ) (asked : Option ℕ) (xs : List Numbered) (only : OnlyActs a.roots x.line p (Fill class asked xs ∷ [])) where
  -- the titles that the fill takes
  abbrev pub filled_titles : List Title
  filled_titles = (takes class (fill_of class) (opened_by a.pools asked (root_at a x.line p))).titles

  pub filled_names : map name_of filled_titles ≡ names xs
  filled_names = (one_fits a x.line p (Fill class asked xs) h only.0).2

  pub filled_root : IsFilledTo (root_at a x.line p) (root_at a (x.line + 1) p) filled_titles
  filled_root =
      let fits = one_fits a x.line p (Fill class asked xs) h only.0 in
      let r = root_at a x.line p in
      let left = journal_leaves a.pools (journal_before a x.line p) (front_journal a x.line p h) in
      let sound = opened_by_sound a.pools asked (least_after_all 0 (journal_before a x.line p)) r
      (asks_new a before rest x h parts st f p (Fill class asked xs) only) left.sound left.born in
      subst (λ (z : Root). IsFilledTo r z filled_titles) (sym (root_one a before rest x h parts st f p (Fill class asked xs) only))
      (opened_fill a.pools asked class (fill_of class) r (takes class (fill_of class) (opened_by a.pools asked r))
      (takes_filled class (fill_of class) (opened_by a.pools asked r) sound fits.0))
