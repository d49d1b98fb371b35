-- Each record of a run in the order of its lines can be played, by its answer; and so the run.
use Rattle.std.proofs.Common.{◌≡◌, ◌≤◌, List, ◌∷◌, ◌++◌, Option, Some, None, refl, inl, inr, subst}
use Rattle.pa_slot.specs.declared.word.Step.{Step}
use Rattle.pa_machine.specs.Events.{State}
use Rattle.pa_record.specs.declared.entry.Seen.{Seen}
use Rattle.pa_record.specs.declared.entry.Answer.{Answer}
use Rattle.pa_record.specs.declared.entry.Answer.TheVariants as answers
use Rattle.pa_rules.specs.declared.played.Played.{Played}
use Rattle.pa_rules.specs.Played.{step_of}
use Rattle.pa_rules.specs.Caches.{CacheRow, DoneRow, NoActs}
use Rattle.pa_rules.specs.Told.{told_by}
use Rattle.pa_one_run.specs.Parts.{Parts, parts_of}
use Rattle.pa_one_run.proofs.Filed.{IsFiled}
use Rattle.pa_one_run.proofs.Legality.{filed}
use Rattle.pa_core_run.specs.Playing.{FileRunsArePlayed}
use Rattle.pa_core_run.specs.Fronts.{ShowsFront}
use Rattle.pa_core_run.proofs.NextFronts.{cache_left, cache_row}
use Rattle.pa_core_run.proofs.Records.{Outcome}
use Rattle.pa_core_run.proofs.Quiet.{quiet_plays}
use Rattle.pa_core_run.proofs.Refused.{refused_plays}
use Rattle.pa_core_run.proofs.Refills.{made_record_plays}
use Rattle.pa_core_run.proofs.Spilled.{class_returns}
use Rattle.pa_core_run.proofs.Unmapped.{map_returns}
use Rattle.pa_core_run.proofs.Purged.{purged_record_plays}
use Rattle.pa_core_run.proofs.Walking.{walks_whole}

module _ (a : Parts) (before rest : List Played) (x : Played) (h : IsFiled a) (some : 1 ≤ a.partitions)
    (parts : a.ps ≡ before ++ x ∷ rest) (s : State) (shows : ShowsFront a x.line before (x ∷ rest) s) where
  abbrev Plays_it : Type 0
  Plays_it = Outcome a before rest x h parts shows.st shows.front s shows.shown

  -- the row of the lists, by the answer
  row_as : (answer : Answer) → x.answer ≡ answer →
      CacheRow a.partitions a.roots x answer (shows.st.caches x.thread) (cache_left a before rest x h parts shows.st shows.front)
  row_as answer is = subst (λ z. CacheRow a.partitions a.roots x z (shows.st.caches x.thread)
      (cache_left a before rest x h parts shows.st shows.front)) is (cache_row a before rest x h parts shows.st shows.front)

  -- an answer whose row has no entry
  quiet : (answer : Answer) → x.answer ≡ answer → (CacheRow a.partitions a.roots x answer (shows.st.caches x.thread)
      (cache_left a before rest x h parts shows.st shows.front) → NoActs a.roots x.line) → Plays_it
  quiet answer is none = quiet_plays a before rest x h some parts (none (row_as answer is)) s shows

  done : (o : Option Step) (seen : Seen) → step_of x.op ≡ o → x.answer ≡ answers.Done seen
      → DoneRow a.roots x o seen (shows.st.caches x.thread) (cache_left a before rest x h parts shows.st shows.front) → Plays_it
  done None seen makes answer (none, same) = quiet_plays a before rest x h some parts none s shows
  done (Some step) seen makes answer (inr (other, none, same)) = quiet_plays a before rest x h some parts none s shows
  done (Some step) seen makes answer (inl (returning, inl (p, class, of, only, becomes))) =
      class_returns a before rest x h parts shows.st shows.front s shows.shown p class step seen makes answer returning of only becomes
  done (Some step) seen makes answer (inl (returning, inr (p, asked, number, direct, only, same))) =
      map_returns a before rest x h parts shows.st shows.front s shows.shown p asked number step seen makes answer returning only same

  by_answer : (answer : Answer) → x.answer ≡ answer → Plays_it
  by_answer (answers.Made seen usable) is = made_record_plays a before rest x seen usable h some parts is s shows
  by_answer (answers.Done seen) is = done (step_of x.op) seen refl is (row_as (answers.Done seen) is)
  by_answer (answers.Full entry) is = refused_plays a before rest x entry h parts is s shows
  by_answer (answers.Purged slots) is = purged_record_plays a before rest x slots h some parts is s shows
  by_answer (answers.Value seen value) is = quiet (answers.Value seen value) is (λ row. row.0)
  by_answer (answers.Dangling seen value) is = quiet (answers.Dangling seen value) is (λ row. row.0)
  by_answer (answers.SecondFree seen) is = quiet (answers.SecondFree seen) is (λ row. row.0)
  by_answer (answers.NotOwner seen) is = quiet (answers.NotOwner seen) is (λ row. row.0)
  by_answer answers.StaleReset is = quiet answers.StaleReset is (λ row. row.0)
  by_answer (answers.StaleUse seen) is = quiet (answers.StaleUse seen) is (λ row. row.0)
  by_answer answers.Nothing is = quiet answers.Nothing is (λ row. row.0)
  by_answer answers.Filled is = quiet answers.Filled is (λ row. row.0)
  by_answer answers.Uncounted is = quiet answers.Uncounted is (λ row. row.0)
  by_answer answers.NotRef is = quiet answers.NotRef is (λ row. row.0)
  by_answer (answers.Shared seen) is = quiet (answers.Shared seen) is (λ row. row.0)
  by_answer answers.OutOfRange is = quiet answers.OutOfRange is (λ row. row.0)
  by_answer answers.TooLarge is = quiet answers.TooLarge is (λ row. row.0)
  by_answer (answers.Swapped entry) is = quiet (answers.Swapped entry) is (λ row. row.0)

-- each run in the order of its lines has a run of the core
pub files_are_played : FileRunsArePlayed
files_are_played t r limits filed_run =
    let a = parts_of t (told_by r) in
    let h = filed t (told_by r) limits filed_run in
    walks_whole t r limits filed_run
    (λ before x rest parts. λ s shows. by_answer a before rest x h (limits.head.1.0) parts s shows x.answer refl)
