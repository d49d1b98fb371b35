-- All slots of a thread's lists, which a purge gives back; and what the roots have after its line.
use Rattle.std.proofs.Common.{◌≡◌, ℕ, zero, suc, ◌+◌, ◌*◌, ◌≤◌, List, [], ◌∷◌, ◌++◌, map, filter, ◌==◌, refl, sym, ◌∙◌, ap, subst, arith, inl, inr}
use Rattle.std.specs.Prelude.{Contains}
use Rattle.std.proofs.lemmas.Bool.{cases_lt}
use Rattle.std.proofs.lemmas.List.Elements.{Contains-append_cases, Contains-append_right}
use Rattle.pa_slot.specs.declared.word.SlotName.{SlotName}
use Rattle.pa_slot.specs.declared.title.Title.{Title}
use Rattle.pa_machine.specs.Events.{State}
use Rattle.pa_record.specs.declared.entry.Answer.TheVariants as answers
use Rattle.pa_record.specs.declared.numbered.Numbered.{Numbered}
use Rattle.pa_record.specs.declared.root.RootEntry.{RootEntry}
use Rattle.pa_record.specs.declared.root.RootAct.TheVariants.{Purge}
use Rattle.pa_record.specs.Spans.{name_of}
use Rattle.pa_lists.proofs.Members.{not_in_none, first_in}
use Rattle.pa_rules.specs.declared.played.Played.{Played}
use Rattle.pa_rules.specs.Caches.{Cache, CacheRow, PurgedRow, acts_of, gives, purge_acts}
use Rattle.pa_rules.specs.Flow.{listed_times, back_in}
use Rattle.pa_rules.proofs.Counted.{stands, stands_append, back_purge, listed_none}
use Rattle.pa_slot_effects.specs.Shown.{over}
use Rattle.pa_slot_effects.proofs.Handles.{over_part}
use Rattle.pa_one_run.specs.Parts.{Parts}
use Rattle.pa_one_run.specs.Before.{root_at}
use Rattle.pa_one_run.proofs.Filed.{IsFiled}
use Rattle.pa_core_run.specs.Ledger.{IsShown}
use Rattle.pa_core_run.specs.Moves.{named_in}
use Rattle.pa_core_run.specs.Standing.{Standing, in_lists, ledger_of}
use Rattle.pa_core_run.specs.Fronts.{KeptIn, titles_in, IsFrontOf}
use Rattle.pa_core_run.proofs.Named.{class_title}
use Rattle.pa_core_run.proofs.Batching.{kept_with}
use Rattle.pa_core_run.proofs.Growing.{made_at_end}
use Rattle.pa_core_run.proofs.NextFronts.{cache_left, cache_row}
use Rattle.pa_core_run.proofs.Stepped.{next_st}
use Rattle.pa_core_run.proofs.Fronted.{lists_here}
use Rattle.pa_core_run.proofs.Given.{AreGiving, giving_purge, kept_given}
use Rattle.pa_core_run.proofs.Titled.{lists_known, AreTitlesOf, titles_for, named_stands, title_among}

-- ---- the slots of a thread's lists

-- the slots of the lists of `n` classes of one partition, from one class on
abbrev pub slots_from : (ℕ → List Numbered) → ℕ → ℕ → List Numbered
slots_from lists class zero = []
slots_from lists class (suc n) = lists class ++ slots_from lists (class + 1) n

-- the slots of the lists of all classes of the first partitions
abbrev pub all_slots : Cache → ℕ → List Numbered
all_slots cache zero = []
all_slots cache (suc p) = all_slots cache p ++ slots_from (cache p) 0 170

slots_stand : (y : SlotName) (lists : ℕ → List Numbered) (class n : ℕ) → stands y (slots_from lists class n) ≡ listed_times y lists class n
unfolding listed_times
slots_stand y lists class zero = refl
slots_stand y lists class (suc n) = let a = stands_append y (lists class) (slots_from lists (class + 1) n) in
    let ih = slots_stand y lists (class + 1) n in omega arith

all_stand : (y : SlotName) (cache : Cache) (partitions : ℕ) →
    stands y (all_slots cache partitions) ≡ over partitions (λ p. listed_times y (cache p) 0 170)
all_stand y cache zero = refl
all_stand y cache (suc p) =
    let a = stands_append y (all_slots cache p) (slots_from (cache p) 0 170) in
    let b = slots_stand y (cache p) 0 170 in
    let ih = all_stand y cache p in
    omega arith

-- each is in a list
slot_among : (lists : ℕ → List Numbered) (class n : ℕ) (m : Numbered) → Contains (slots_from lists class n) m → (c : ℕ) ×
    Contains (lists c) m
slot_among lists class zero m among = absurd (not_in_none m among)
slot_among lists class (suc n) m among = elim (Contains-append_cases (lists class) (slots_from lists (class + 1) n) m among) [
  | inl here ↦ (class, here)
  | inr later ↦ slot_among lists (class + 1) n m later
]

all_among : (cache : Cache) (partitions : ℕ) (m : Numbered) → Contains (all_slots cache partitions) m → (p c : ℕ) × Contains (cache p c) m
all_among cache zero m among = absurd (not_in_none m among)
all_among cache (suc p) m among = elim (Contains-append_cases (all_slots cache p) (slots_from (cache p) 0 170) m among) [
  | inl before ↦ all_among cache p m before
  | inr here ↦ let (c, there) = slot_among (cache p) 0 170 m here in (p, c, there)
]

-- empty lists have none
none_over : (y : SlotName) (cache : Cache) (partitions : ℕ) → ((p c : ℕ) → cache p c ≡ []) →
    over partitions (λ p. listed_times y (cache p) 0 170) ≡ 0
none_over y cache zero none = refl
none_over y cache (suc p) none = let ih = none_over y cache p none in let here = listed_none y (cache p) 0 170 (none p) in omega arith

-- a purge of a partition ends with its Purge
pub purge_in : (lists : ℕ → List Numbered) (class n : ℕ) → Contains (purge_acts lists class n) Purge
purge_in lists class zero = first_in Purge []
purge_in lists class (suc n) =
    Contains-append_right (gives (lists class)) (purge_acts lists (class + 1) n) Purge (purge_in lists (class + 1) n)

-- ---- the line of a purge

module _ (a : Parts) (before rest : List Played) (x : Played) (h : IsFiled a) (parts : a.ps ≡ before ++ x ∷ rest) (st : Standing)
    (f : IsFrontOf a x.line before (x ∷ rest) st) (s : State)
    (shown : IsShown (titles_in a (root_at a x.line)) (a.threads + 1) (2097152 * a.supers) (ledger_of a.partitions st) s) (slots : ℕ)
    (answer : x.answer ≡ answers.Purged slots) where
  abbrev cache : Cache
  cache = st.caches x.thread

  pub purged_row : PurgedRow a.partitions a.roots x slots (st.caches x.thread) (cache_left a before rest x h parts st f)
  purged_row = subst (λ z. CacheRow a.partitions a.roots x z (st.caches x.thread) (cache_left a before rest x h parts st f)) answer
      (cache_row a before rest x h parts st f)

  acts_past : (p : ℕ) → a.partitions ≤ p → acts_of a.roots x.line p ≡ []
  acts_past p past = ap (λ es. map (λ (e : RootEntry). e.act) (filter (λ (e : RootEntry). e.line == x.line) es))
      (h.journals.none_past p past)

  pub giving : (p : ℕ) → AreGiving (acts_of a.roots x.line p)
  giving p = elim (cases_lt p a.partitions) [
    | inl low ↦ subst AreGiving (sym (purged_row.0 p low)) (giving_purge (cache p) 0 170)
    | inr past ↦ subst AreGiving (sym (acts_past p past)) tt
  ]

  -- the slots have titles
  pub purged_titled : (ts : List Title) × AreTitlesOf a (all_slots cache a.partitions) ts
  purged_titled =
      let known = lists_known a x.line before (x ∷ rest) st f x.thread in
      titles_for a (all_slots cache a.partitions) (λ m among. let (p, c, there) = all_among cache a.partitions m among in
      class_title a m.slot p c h (known p c m there))

  abbrev pub purged_titles : List Title
  purged_titles = purged_titled.0

  -- what the roots have then they had, or it is among them
  pub kept_next : (u : Title) → KeptIn (root_at a (x.line + 1)) u → kept_with (KeptIn (root_at a x.line)) purged_titles u
  kept_next u kept_now = elim (kept_given a before rest x h parts st f giving u kept_now) [
    | inl old ↦ inl old
    | inr (p, made, some) ↦ elim (cases_lt p a.partitions) [
      | inl low ↦
          let same : back_in (name_of u) (acts_of a.roots x.line p) ≡ listed_times (name_of u) (cache p) 0 170 =
          ap (back_in (name_of u)) (purged_row.0 p low) ∙ back_purge (name_of u) (cache p) 0 170 in
          let part = over_part a.partitions p (λ q. listed_times (name_of u) (cache q) 0 170) low in
          let all = all_stand (name_of u) cache a.partitions in
          inr (title_among a (all_slots cache a.partitions) purged_titles purged_titled.1 u h
          (p, inl (made_at_end a h p (x.line + 1) u made)) (omega arith))
      | inr past ↦ let none : back_in (name_of u) (acts_of a.roots x.line p) ≡ 0 = ap (back_in (name_of u)) (acts_past p past) in
          absurd (omega arith)
    ]
  ]

  -- the thread's lists have lost these slots
  pub lists_fall : (y : SlotName) → in_lists a.partitions (next_st a before rest x h parts st f s shown st.content) y (suc x.thread) +
      named_in y purged_titles ≤ in_lists a.partitions st y (suc x.thread)
  lists_fall y =
      let left = lists_here a before rest x h parts st f s shown st.content y in
      let none = none_over y (cache_left a before rest x h parts st f) a.partitions purged_row.2 in
      let named = named_stands a (all_slots cache a.partitions) purged_titles purged_titled.1 y in
      let all = all_stand y cache a.partitions in
      let had : in_lists a.partitions st y (suc x.thread) ≡ over a.partitions (λ p. listed_times y (cache p) 0 170) = refl in
      omega arith
