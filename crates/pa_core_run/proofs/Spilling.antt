-- A slot that came to the front of a list which spills: what doesn't stay of the list goes back to the root.
use Rattle.std.proofs.Common.{◌≡◌, ℕ, suc, ◌+◌, ◌*◌, ◌<◌, ◌≤◌, List, ◌∷◌, ◌++◌, refl, sym, ◌∙◌, ap, subst, arith, inl, inr}
use Rattle.std.proofs.lemmas.Bool.{cases_eq}
use Rattle.pa_slot.specs.declared.word.SlotName.{SlotName}
use Rattle.pa_slot.specs.declared.title.Title.{Title}
use Rattle.pa_machine.specs.Events.{State}
use Rattle.pa_record.specs.declared.numbered.Numbered.{Numbered}
use Rattle.pa_record.specs.Spans.{name_of}
use Rattle.pa_lists.proofs.Members.{in_cases}
use Rattle.pa_rules.specs.declared.played.Played.{Played}
use Rattle.pa_rules.specs.Caches.{Cache, SameLists, OnlyActs, IsOfClass, acts_of, with_list, gives, kept, spilled}
use Rattle.pa_rules.specs.Flow.{listed_times, back_in}
use Rattle.pa_rules.proofs.Counted.{stands, stands_kept, list_changed, back_gives}
use Rattle.pa_rules.proofs.Flowing.{class_real}
use Rattle.pa_slot_effects.specs.Shown.{over}
use Rattle.pa_one_run.specs.Parts.{Parts}
use Rattle.pa_one_run.specs.Before.{root_at}
use Rattle.pa_one_run.proofs.Filed.{IsFiled}
use Rattle.pa_core_run.specs.Ledger.{IsShown}
use Rattle.pa_core_run.specs.Moves.{named_in, IsReached}
use Rattle.pa_core_run.specs.Standing.{Standing, ledger_of}
use Rattle.pa_core_run.specs.Fronts.{KeptIn, titles_in, IsFrontOf}
use Rattle.pa_core_run.proofs.Moving.{keeping}
use Rattle.pa_core_run.proofs.Named.{class_title}
use Rattle.pa_core_run.proofs.Batching.{kept_with}
use Rattle.pa_core_run.proofs.Making.{renamed}
use Rattle.pa_core_run.proofs.Listing.{less_lists}
use Rattle.pa_core_run.proofs.NextFronts.{cache_left}
use Rattle.pa_core_run.proofs.Fronted.{lists_here}
use Rattle.pa_core_run.proofs.Issued.{lists_mine, names_next}
use Rattle.pa_core_run.proofs.Refills.{list_twice}
use Rattle.pa_core_run.proofs.Stepped.{given_st}
use Rattle.pa_core_run.proofs.Returned.{titles_back}
use Rattle.pa_core_run.proofs.Growing.{made_at_end}
use Rattle.pa_core_run.proofs.Given.{AreGiving, giving_gives, there_given, kept_given}
use Rattle.pa_core_run.proofs.Titled.{AreTitlesOf, lists_known, titles_for, named_stands, title_among}
use Rattle.pa_one_run.proofs.numbers.NextNumbers.{spilled_in, class_partition}

module _ (a : Parts) (before rest : List Played) (x : Played) (h : IsFiled a) (parts : a.ps ≡ before ++ x ∷ rest) (st : Standing)
    (f : IsFrontOf a x.line before (x ∷ rest) st) (s : State)
    (shown : IsShown (titles_in a (root_at a x.line)) (a.threads + 1) (2097152 * a.supers) (ledger_of a.partitions st) s)
    (p class : ℕ) (slot : Numbered) (of : IsOfClass a.roots slot.slot p class)
    (only : OnlyActs a.roots x.line p (gives (spilled class (slot ∷ st.caches x.thread p class))))
    (becomes : SameLists (cache_left a before rest x h parts st f)
    (with_list (st.caches x.thread) p class (kept class (slot ∷ st.caches x.thread p class)))) where
  abbrev list : List Numbered
  list = slot ∷ st.caches x.thread p class

  abbrev back : List Numbered
  back = spilled class list

  -- the thread's lists with the slot before its list, before it spills
  abbrev pub list_full : Cache
  list_full = with_list (st.caches x.thread) p class list

  abbrev left : Cache
  left = cache_left a before rest x h parts st f

  real : class < 170
  real = class_real a.pools a.roots slot.slot p class (h.journals.journals p) of

  -- the slots of the list have titles
  titled : (ts : List Title) × AreTitlesOf a back ts
  titled =
      let known = lists_known a x.line before (x ∷ rest) st f x.thread in
      titles_for a back (λ m among. elim (in_cases slot m (st.caches x.thread p class) (spilled_in class list m among)) [
        | inl same ↦ class_title a m.slot p class h (subst (λ (z : Numbered). IsOfClass a.roots z.slot p class) same of)
        | inr old ↦ class_title a m.slot p class h (known p class m old)
      ])

  abbrev ts : List Title
  ts = titled.0

  -- with what goes back the thread's lists are what they were with the slot
  lists_fall : (y : SlotName) →
      over a.partitions (λ q. listed_times y (left q) 0 170) + named_in y ts ≤ over a.partitions (λ q. listed_times y (list_full q) 0 170)
  lists_fall y =
      let split = stands_kept y class list in
      let full = ap (stands y) (list_changed (st.caches x.thread) p class list) in
      let named = named_stands a back ts titled.1 y in
      let fall = less_lists a.partitions p class y list_full left (kept class list) (stands y back) real
      (class_partition a slot.slot p class h of)
      (λ q c. becomes q c ∙ list_twice (st.caches x.thread) p class list (kept class list) q c) (omega arith) in
      omega arith

  giving : (q : ℕ) → AreGiving (acts_of a.roots x.line q)
  giving q = elim (cases_eq q p) [
    | inl e ↦ subst AreGiving (sym (ap (acts_of a.roots x.line) e ∙ only.0)) (giving_gives back)
    | inr ne ↦ subst AreGiving (sym (only.1 q ne)) tt
  ]

  -- what the roots have then they had, or it is among the titles that go back
  kept_next : (u : Title) → KeptIn (root_at a (x.line + 1)) u → kept_with (KeptIn (root_at a x.line)) ts u
  kept_next u kept_now = elim (kept_given a before rest x h parts st f giving u kept_now) [
    | inl old ↦ inl old
    | inr (q, made, some) ↦ elim (cases_eq q p) [
      | inl e ↦
          let same : back_in (name_of u) (acts_of a.roots x.line q) ≡ stands (name_of u) back =
          ap (back_in (name_of u)) (ap (acts_of a.roots x.line) e ∙ only.0) ∙ back_gives (name_of u) back in
          inr (title_among a back ts titled.1 u h (q, inl (made_at_end a h q (x.line + 1) u made)) (omega arith))
      | inr ne ↦ let none : back_in (name_of u) (acts_of a.roots x.line q) ≡ 0 = ap (back_in (name_of u)) (only.1 q ne) in
          absurd (omega arith)
    ]
  ]

  -- from a core that shows the list with the slot, the thread's events give back what doesn't stay and lead to the next roots
  pub slots_go : (mid : State) →
      IsShown (titles_in a (root_at a x.line)) (a.threads + 1) (2097152 * a.supers)
      (ledger_of a.partitions (given_st a before rest x h parts st f s shown list_full)) mid →
      (last : State) × IsReached (names_next a before rest x h parts st f s shown) (a.threads + 1) (2097152 * a.supers)
      (ledger_of a.partitions (given_st a before rest x h parts st f s shown left)) mid (suc x.thread) last
  slots_go mid now =
      let st2 = given_st a before rest x h parts st f s shown left in
      let (last, r) = titles_back a before rest x h parts st f s shown ts list_full mid now titled.1.made
      (λ y. let fall = lists_fall y in let mine = lists_mine a before rest x h parts st f s shown list_full y in let here = lists_here a
      before rest x h parts st f s shown st.content y in omega arith) in (
        last,
        record {
          events = r.events;
          run = r.run;
          beside = r.beside;
          shown = renamed (keeping (titles_in a (root_at a x.line)) (kept_with (KeptIn (root_at a x.line)) ts))
              (names_next a before rest x h parts st f s shown) (a.threads + 1) (2097152 * a.supers) (ledger_of a.partitions st2) last
              (λ u. refl) (λ u made. made) (there_given a before rest x h parts st f giving) kept_next r.shown;
        },
      )
