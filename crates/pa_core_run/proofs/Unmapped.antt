-- A reset or a free that gave back a direct map, by the entry of its line.
use Rattle.std.proofs.Common.{◌≡◌, ℕ, ◌+◌, ◌*◌, List, [], ◌∷◌, ◌++◌, Some, sym, subst, arith, inl, inr}
use Rattle.std.specs.Prelude.{Contains}
use Rattle.pa_slot.specs.declared.word.Step.{Step}
use Rattle.pa_slot.specs.Run.{IsReturning}
use Rattle.pa_machine.specs.Events.{State}
use Rattle.pa_record.specs.declared.entry.Seen.{Seen}
use Rattle.pa_record.specs.declared.entry.Answer.TheVariants as answers
use Rattle.pa_record.specs.declared.numbered.Numbered.{Numbered}
use Rattle.pa_record.specs.declared.root.RootAct.TheVariants.{Unmap}
use Rattle.pa_rules.specs.declared.played.Played.{Played}
use Rattle.pa_rules.specs.Played.{step_of}
use Rattle.pa_rules.specs.Caches.{CacheRow, DoneRow, SameLists, OnlyActs, IsDirect, acts_of, unmap_at}
use Rattle.pa_rules.specs.Told.{told_by}
use Rattle.pa_legal.proofs.holders.Records.{unmap_returns}
use Rattle.pa_one_run.specs.Parts.{Parts, parts_of}
use Rattle.pa_one_run.specs.Before.{root_at}
use Rattle.pa_one_run.proofs.Legality.{filed}
use Rattle.pa_one_run.proofs.Filed.{IsFiled}
use Rattle.pa_one_run.proofs.roots.Replays.{act_entry}
use Rattle.pa_one_run.proofs.roots.Requests.{one_fits}
use Rattle.pa_one_run.proofs.roots.Classes.{class_or_direct}
use Rattle.pa_core_run.specs.Laws.{UnmappedRecordsArePlayed}
use Rattle.pa_core_run.specs.Ledger.{IsShown}
use Rattle.pa_core_run.specs.Standing.{Standing, ledger_of}
use Rattle.pa_core_run.specs.Fronts.{titles_in, IsFrontOf, CanBePlayed}
use Rattle.pa_core_run.proofs.NextFronts.{among, cache_left, cache_row}
use Rattle.pa_core_run.proofs.Records.{Outcome}
use Rattle.pa_core_run.proofs.Unmade.{entry_inside}
use Rattle.pa_core_run.proofs.Returned.{return_plays, one_more, given_plays}
use Rattle.pa_core_run.proofs.Unmapping.{list_back_with, map_goes}

module _ (a : Parts) (before rest : List Played) (x : Played) (h : IsFiled a) (parts : a.ps ≡ before ++ x ∷ rest) (st : Standing)
    (f : IsFrontOf a x.line before (x ∷ rest) st) (s : State)
    (shown : IsShown (titles_in a (root_at a x.line)) (a.threads + 1) (2097152 * a.supers) (ledger_of a.partitions st) s) where
  -- a step that returned a direct map, by its row
  pub map_returns : (p asked number : ℕ) (step : Step) (seen : Seen) → step_of x.op ≡ Some step → x.answer ≡ answers.Done seen →
      IsReturning step seen.found.0 →
      OnlyActs a.roots x.line p (unmap_at asked seen.slot number ∷ []) →
      SameLists (cache_left a before rest x h parts st f) (st.caches x.thread) → Outcome a before rest x h parts st f s shown
  map_returns p asked number step seen makes answer returning only same =
      let slot : Numbered = record { slot = seen.slot; number = number } in
      let (len, first, mapped, start, gave) = one_fits a x.line p (Unmap asked slot) h only.0 in
      let list = list_back_with a before rest x h parts st f s shown p asked len slot only mapped in
      let (mid, given) = return_plays a before rest x h parts st f s shown step seen list makes answer returning
      (one_more a before rest x h parts st f s shown p 0 (record { slot = seen.slot; number = 0 }) (omega arith)) in
      let (after, reached) = map_goes a before rest x h parts st f s shown p asked len slot only mapped same mid given.now in
      given_plays a before rest x h parts st f s shown list mid after given reached

  -- if the line has the entry, a step was made that returned the map
  pub map_plays : (p asked : ℕ) (slot : Numbered) → Contains (acts_of a.roots x.line p) (Unmap asked slot) →
      Outcome a before rest x h parts st f s shown
  map_plays p asked slot entry =
      let (e, member, line, is) = act_entry a.roots x.line p (Unmap asked slot) entry in
      let back = unmap_returns a.partitions a.roots a.ps x e p asked slot h.caches (entry_inside a h p e member)
      (among a before rest x h parts st f) member line is in
      let cache = st.caches x.thread in
      let after = cache_left a before rest x h parts st f in
      let done : CacheRow a.partitions a.roots x (answers.Done back.seen) cache after = subst
      (λ z. CacheRow a.partitions a.roots x z cache after) back.answer (cache_row a before rest x h parts st f) in
      let row : DoneRow a.roots x (Some back.step) back.seen cache after =
      subst (λ o. DoneRow a.roots x o back.seen cache after) back.steps done in
      elim row [
        | inl (returning, inl (q, class, of, only, same)) ↦ absurd
            (class_or_direct a back.seen.slot q back.partition class h of
            (subst (λ y. IsDirect a.roots y back.partition) (sym back.slot) back.direct))
        | inl (returning, inr (q, other, number, direct, only, same)) ↦
            map_returns q other number back.step back.seen back.steps back.answer returning only same
        | inr (other, none, same) ↦ absurd (other back.returning)
      ]

pub unmapped_record_plays : (a : Parts) (before rest : List Played) (x : Played) (p asked : ℕ) (slot : Numbered) → IsFiled a
    → a.ps ≡ before ++ x ∷ rest → Contains (acts_of a.roots x.line p) (Unmap asked slot) → CanBePlayed a before x rest
unmapped_record_plays a before rest x p asked slot h parts entry s shows =
    map_plays a before rest x h parts shows.st shows.front s shows.shown p asked slot entry

pub unmapped_records_play : UnmappedRecordsArePlayed
unmapped_records_play t r limits filed_run before x rest p asked slot parts entry =
    unmapped_record_plays (parts_of t (told_by r)) before rest x p asked slot (filed t (told_by r) limits filed_run) parts entry
