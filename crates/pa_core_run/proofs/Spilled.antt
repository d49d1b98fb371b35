-- A reset or a free that returned a slot of a class: it comes to the front of its list, and what doesn't stay of the list goes back to the
-- root.
use Rattle.std.proofs.Common.{◌≡◌, ℕ, ◌+◌, ◌*◌, List, [], ◌∷◌, ◌++◌, Option, Some, None, refl, ◌∙◌, ap, subst, inl, inr}
use Rattle.std.specs.Prelude.{Contains}
use Rattle.std.proofs.lemmas.Bool.{cases_eq}
use Rattle.pa_slot.specs.declared.word.Step.{Step}
use Rattle.pa_slot.specs.Count.{number_of}
use Rattle.pa_slot.specs.Run.{IsReturning}
use Rattle.pa_machine.specs.Events.{State}
use Rattle.pa_record.specs.declared.entry.Seen.{Seen}
use Rattle.pa_record.specs.declared.entry.Answer.TheVariants as answers
use Rattle.pa_record.specs.declared.numbered.Numbered.{Numbered}
use Rattle.pa_record.specs.declared.root.RootAct.{RootAct}
use Rattle.pa_record.specs.declared.root.RootAct.TheVariants.{Give}
use Rattle.pa_lists.proofs.Members.{not_in_none}
use Rattle.pa_rules.specs.declared.played.Played.{Played}
use Rattle.pa_rules.specs.Played.{step_of}
use Rattle.pa_rules.specs.Caches.{CacheRow, SameLists, OnlyActs, IsOfClass, DoneRow, acts_of, unmap_at, with_list, gives, kept, spilled}
use Rattle.pa_rules.specs.Told.{told_by}
use Rattle.pa_rules.proofs.Flowing.{class_real}
use Rattle.pa_one_run.specs.Parts.{Parts, parts_of}
use Rattle.pa_one_run.specs.Before.{root_at}
use Rattle.pa_lists.proofs.Elements.{in_one}
use Rattle.pa_one_run.proofs.Filed.{IsFiled}
use Rattle.pa_one_run.proofs.Legality.{filed}
use Rattle.pa_core_run.specs.Ledger.{IsShown}
use Rattle.pa_core_run.specs.Laws.{SpilledRecordsArePlayed}
use Rattle.pa_core_run.specs.Standing.{Standing, ledger_of}
use Rattle.pa_core_run.specs.Fronts.{titles_in, IsFrontOf}
use Rattle.pa_core_run.proofs.NextFronts.{cache_left, cache_row}
use Rattle.pa_core_run.proofs.Records.{Outcome}
use Rattle.pa_core_run.proofs.Returned.{one_more, return_plays, given_plays}
use Rattle.pa_core_run.proofs.Spilling.{list_full, slots_go}

module _ (a : Parts) (before rest : List Played) (x : Played) (h : IsFiled a) (parts : a.ps ≡ before ++ x ∷ rest) (st : Standing)
    (f : IsFrontOf a x.line before (x ∷ rest) st) (s : State)
    (shown : IsShown (titles_in a (root_at a x.line)) (a.threads + 1) (2097152 * a.supers) (ledger_of a.partitions st) s) where
  -- the slot at the number that the step left
  abbrev returned_slot : Seen → Numbered
  returned_slot seen = record { slot = seen.slot; number = number_of seen.found.0 + 1 }

  abbrev listed : (p class : ℕ) → Seen → List Numbered
  listed p class seen = returned_slot seen ∷ st.caches x.thread p class

  pub class_returns : (p class : ℕ) (step : Step) (seen : Seen) → step_of x.op ≡ Some step → x.answer ≡ answers.Done seen →
      IsReturning step seen.found.0 → IsOfClass a.roots seen.slot p class →
      OnlyActs a.roots x.line p (gives (spilled class (listed p class seen)))
      → SameLists (cache_left a before rest x h parts st f)
      (with_list (st.caches x.thread) p class (kept class (listed p class seen))) →
      Outcome a before rest x h parts st f s shown
  class_returns p class step seen makes answer returning of only becomes =
      let slot = returned_slot seen in
      let list = list_full a before rest x h parts st f s shown p class slot of only becomes in
      let real = class_real a.pools a.roots seen.slot p class (h.journals.journals p) of in
      let (mid, back) = return_plays a before rest x h parts st f s shown step seen list makes answer returning
      (one_more a before rest x h parts st f s shown p class slot real) in
      let (last, gone) = slots_go a before rest x h parts st f s shown p class slot of only becomes mid back.now in
      given_plays a before rest x h parts st f s shown list mid last back gone

-- a record that is done on a line with a give
module _ (a : Parts) (before rest : List Played) (x : Played) (seen : Seen) (q : ℕ) (slots : List Numbered) (h : IsFiled a)
    (parts : a.ps ≡ before ++ x ∷ rest)
    (gave : Contains (acts_of a.roots x.line q) (Give slots)) (st : Standing) (f : IsFrontOf a x.line before (x ∷ rest) st) (s : State)
    (shown : IsShown (titles_in a (root_at a x.line)) (a.threads + 1) (2097152 * a.supers) (ledger_of a.partitions st) s) where
  no_give : acts_of a.roots x.line q ≡ [] → ⊥
  no_give none = not_in_none (Give slots) (subst (λ acts. Contains acts (Give slots)) none gave)

  only_give : (p : ℕ) (act : RootAct) → OnlyActs a.roots x.line p (act ∷ []) → act ≡ Give slots
  only_give p act only = elim (cases_eq q p) [
    | inl e ↦ in_one act (Give slots) (subst (λ acts. Contains acts (Give slots)) (ap (acts_of a.roots x.line) e ∙ only.0) gave)
    | inr ne ↦ absurd (no_give (only.1 q ne))
  ]

  by_step : (o : Option Step) → step_of x.op ≡ o → x.answer ≡ answers.Done seen
      → DoneRow a.roots x o seen (st.caches x.thread) (cache_left a before rest x h parts st f)
      → Outcome a before rest x h parts st f s shown
  by_step None makes answer (none, same) = absurd (no_give (none q))
  by_step (Some step) makes answer (inr (other, none, same)) = absurd (no_give (none q))
  by_step (Some step) makes answer (inl (returning, inl (p, class, of, only, becomes))) =
      class_returns a before rest x h parts st f s shown p class step seen makes answer returning of only becomes
  by_step (Some step) makes answer (inl (returning, inr (p, asked, number, direct, only, same))) =
      absurd (let e = only_give p (unmap_at asked seen.slot number) only in cc)

  pub spilled_plays : x.answer ≡ answers.Done seen → Outcome a before rest x h parts st f s shown
  spilled_plays answer =
      by_step (step_of x.op) refl answer
      (subst (λ z. CacheRow a.partitions a.roots x z (st.caches x.thread) (cache_left a before rest x h parts st f)) answer
      (cache_row a before rest x h parts st f))

pub spilled_records_play : SpilledRecordsArePlayed
spilled_records_play t r limits filed_run before x rest seen p slots parts answer gave s shows =
    spilled_plays (parts_of t (told_by r)) before rest x seen p slots
    (filed t (told_by r) limits filed_run) parts gave shows.st shows.front s shows.shown answer
