-- The entries of a run's journals have a text: each fill and each give names a slot.
use Rattle.std.proofs.Common.{◌≡◌, ℕ, zero, suc, ◌+◌, ◌<◌, Bool, List, [], ◌∷◌, length, get_or, Option, Some, None, sym, ◌∙◌, ap, subst, arith, inl, inr}
use Rattle.std.specs.Prelude.{Contains, ◌==◌, filter}
use Rattle.std.specs.List.{AllByRecursion}
use Rattle.std.proofs.lemmas.Bool.{cases_eq, cases_lt, eq-eqb}
use Rattle.std.proofs.lemmas.List.Elements.{All-from_get_or, recursion_from_All, Contains-append_cases, Contains-get_or}
use Rattle.pa_slot.specs.declared.word.Step.{Step}
use Rattle.pa_record.specs.declared.entry.Seen.{Seen}
use Rattle.pa_record.specs.declared.entry.Answer.{Answer}
use Rattle.pa_record.specs.declared.entry.Answer.TheVariants as answers
use Rattle.pa_record.specs.declared.numbered.Numbered.{Numbered}
use Rattle.pa_record.specs.declared.pool.PoolEntry.{PoolEntry}
use Rattle.pa_record.specs.declared.root.RootEntry.{RootEntry}
use Rattle.pa_record.specs.declared.root.RootAct.{RootAct}
use Rattle.pa_record.specs.declared.root.RootAct.TheVariants.{Fill, Map, Full, Purge}
use Rattle.pa_record.specs.RunText.{NamesSlots}
use Rattle.pa_lists.proofs.Joined.{map_in, filter_in}
use Rattle.pa_lists.proofs.Members.{not_in_none, in_cases}
use Rattle.pa_rules.specs.declared.played.Played.{Played}
use Rattle.pa_rules.specs.Played.{step_of}
use Rattle.pa_rules.specs.Roots.{Journals, AreRoots}
use Rattle.pa_rules.specs.Caches.{Cache, acts_of, OnlyActs, FilledFirst, MadeRow, FullRow, ReturnRow, DoneRow, PurgedRow, CacheRow, AreCaches, gives, spilled, unmap_at, purge_acts}
use Rattle.pa_rules.proofs.Batches.{gives_names}
use Rattle.pa_legal.proofs.holders.Records.{row_of}
use Rattle.pa_logs.proofs.Filters.{place_at}

-- ---- the acts of gives and of purges

pub in_purge : (lists : ℕ → List Numbered) (class n : ℕ) (a : RootAct) → Contains (purge_acts lists class n) a → NamesSlots a
in_purge lists class zero a among =
    elim (in_cases Purge a [] among) [ inl e ↦ subst NamesSlots e tt | inr none ↦ absurd (not_in_none a none) ]
in_purge lists class (suc n) a among = elim (Contains-append_cases (gives (lists class)) (purge_acts lists (class + 1) n) a among) [
  | inl here ↦ gives_names (lists class) a here
  | inr later ↦ in_purge lists (class + 1) n a later
]

-- ---- the acts of a record's line, by the row of its thread's lists

module _ (partitions : ℕ) (roots : Journals) (x : Played) (p : ℕ) (a : RootAct) (among : Contains (acts_of roots x.line p) a) where
  not_none : acts_of roots x.line p ≡ [] → ⊥
  not_none none = not_in_none a (subst (λ acts. Contains acts a) none among)

  of_acts : (q : ℕ) (acts : List RootAct) → OnlyActs roots x.line q acts → ((b : RootAct) → Contains acts b → NamesSlots b) → NamesSlots a
  of_acts q acts only named = elim (cases_eq p q) [
    | inl e ↦ named a (subst (λ acts. Contains acts a) (ap (acts_of roots x.line) e ∙ only.0) among)
    | inr other ↦ absurd (not_none (only.1 p other))
  ]

  of_one : (q : ℕ) (b : RootAct) → OnlyActs roots x.line q (b ∷ []) → NamesSlots b → NamesSlots a
  of_one q b only named =
      of_acts q (b ∷ []) only
      (λ d there. elim (in_cases b d [] there) [ inl e ↦ subst NamesSlots e named | inr none ↦ absurd (not_in_none d none) ])

  by_filled : (q class : ℕ) (old xs : List Numbered) → 0 < length xs → FilledFirst roots x.line q class old xs → NamesSlots a
  by_filled q class [] xs some (asked, only) = of_one q (Fill class asked xs) only some
  by_filled q class (y ∷ ys) xs some (same, none) = absurd (not_none (none p))

  by_made : (seen : Seen) (cache after : Cache) → MadeRow roots x seen cache after → NamesSlots a
  by_made seen cache after (inl (q, class, xs, rest, asks, filled, front, becomes)) =
      let long = ap (λ (zs : List Numbered). length zs) front in
      by_filled q class (cache q class) xs (omega arith) filled
  by_made seen cache after (inr (q, size, asked, len, asks, only, becomes)) = of_one q (Map asked seen.slot len) only tt

  by_full : (cache after : Cache) → FullRow roots x cache after → NamesSlots a
  by_full cache after (inl (q, class, asked, asks, empty, only, becomes)) = of_one q (Full (Some class) asked) only tt
  by_full cache after (inr (q, size, asked, asks, only, becomes)) = of_one q (Full None asked) only tt

  by_return : (slot : Numbered) (cache after : Cache) → ReturnRow roots x slot cache after → NamesSlots a
  by_return slot cache after (inl (q, class, of, only, becomes)) =
      of_acts q (gives (spilled class (slot ∷ cache q class))) only (gives_names (spilled class (slot ∷ cache q class)))
  by_return slot cache after (inr (q, asked, number, direct, only, becomes)) = of_one q (unmap_at asked slot.slot number) only tt

  by_done : (step : Option Step) (seen : Seen) (cache after : Cache) → DoneRow roots x step seen cache after → NamesSlots a
  by_done None seen cache after (acts, becomes) = absurd (not_none (acts p))
  by_done (Some step) seen cache after (inl (returning, row)) = by_return _ cache after row
  by_done (Some step) seen cache after (inr (other, acts, becomes)) = absurd (not_none (acts p))

  by_purged : (slots : ℕ) (cache after : Cache) → p < partitions → PurgedRow partitions roots x slots cache after → NamesSlots a
  by_purged slots cache after below (acts, counted, empty) =
      in_purge (cache p) 0 170 a (subst (λ acts. Contains acts a) (acts p below) among)

  pub by_row : (answer : Answer) (cache after : Cache) → p < partitions → CacheRow partitions roots x answer cache after → NamesSlots a
  by_row (answers.Made seen usable) cache after below row = by_made seen cache after row
  by_row (answers.Done seen) cache after below row = by_done (step_of x.op) seen cache after row
  by_row (answers.Full entry) cache after below row = by_full cache after row
  by_row (answers.Purged slots) cache after below row = by_purged slots cache after below row
  by_row answer cache after below row = absurd (not_none (row.0 p))

-- each act of these records' lines names slots
abbrev pub ActsName : ℕ → Journals → List Played → Type 0
ActsName partitions roots ps =
    (x : Played) (p : ℕ) (a : RootAct) → Contains ps x → p < partitions → Contains (acts_of roots x.line p) a → NamesSlots a

-- so it is if the threads' lists go with the records
pub acts_named : (partitions : ℕ) (roots : Journals) (ps : List Played) → AreCaches partitions roots ps → ActsName partitions roots ps
acts_named partitions roots ps caches x p a member below among =
    let (cache, after, known, row) = row_of partitions roots ps x caches member in
    by_row partitions roots x p a among x.answer cache after below row

-- ---- all entries

module _ (partitions : ℕ) (ps : List Played) (pools : List PoolEntry) (roots : Journals) (journals : List (List RootEntry))
    (are : AreRoots partitions ps pools roots) (named : ActsName partitions roots ps) where
  -- an entry is of some record's line
  entry_named : (p : ℕ) (e : RootEntry) → Contains (roots p) e → NamesSlots e.act
  entry_named p e among = elim (cases_lt p partitions) [
    | inl below ↦
        let (j, at) = place_at (roots p) e among in
        let (x, of_line, makes) = are.lines p j e at in
        let on_line : RootEntry → Bool = λ (f : RootEntry). f.line == x.line in
        let here : Contains (acts_of roots x.line p) e.act =
        map_in (λ (f : RootEntry). f.act) (filter on_line (roots p)) e
        (filter_in on_line (roots p) e among (eq-eqb e.line x.line (sym of_line.1))) in
        named x p e.act of_line.0 below here
    | inr past ↦ absurd (not_in_none e (subst (λ es. Contains es e) (are.none_past p past) among))
  ]

  pub journals_named : ((p : ℕ) → get_or journals p [] ≡ roots p) →
      AllByRecursion (AllByRecursion (λ (e : RootEntry). NamesSlots e.act)) journals
  journals_named same =
      let N : RootEntry → Type 0 = λ e. NamesSlots e.act in
      let each : (p : ℕ) → AllByRecursion N (get_or journals p []) = λ p.
      recursion_from_All N (get_or journals p [])
      (λ k d low. entry_named p _
      (subst (λ es. Contains es (get_or (get_or journals p []) k d)) (same p) (Contains-get_or (get_or journals p []) k d low))) in
      recursion_from_All (AllByRecursion N) journals (All-from_get_or (AllByRecursion N) journals [] (λ p low. each p))
