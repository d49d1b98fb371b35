-- A purge: the free titles of its thread's lists go to actor 0, and its lists are empty.
use Rattle.std.proofs.Common.{◌≡◌, ℕ, zero, suc, ◌+◌, ◌*◌, ◌≤◌, List, ◌∷◌, ◌++◌, None, refl, sym, ◌∙◌, ap, subst, arith, inl}
use Rattle.std.specs.Prelude.{Contains}
use Rattle.pa_slot.specs.declared.word.SlotName.{SlotName}
use Rattle.pa_machine.specs.Events.{State}
use Rattle.pa_trace.specs.declared.script.Op.TheVariants as ops
use Rattle.pa_record.specs.declared.entry.Answer.TheVariants as answers
use Rattle.pa_record.specs.declared.root.RootAct.{RootAct}
use Rattle.pa_record.specs.declared.root.RootAct.TheVariants.{Purge}
use Rattle.pa_rules.specs.declared.played.Played.{Played}
use Rattle.pa_rules.specs.Played.{mark_of, mark_of_answer}
use Rattle.pa_rules.specs.Registers.{Reg, Row, Becomes, reg_of}
use Rattle.pa_rules.specs.Roots.{MakesEntry}
use Rattle.pa_rules.specs.Told.{told_by}
use Rattle.pa_one_run.specs.Parts.{Parts, parts_of}
use Rattle.pa_one_run.specs.Before.{root_at, facts_of}
use Rattle.pa_one_run.proofs.Legality.{filed}
use Rattle.pa_one_run.proofs.Filed.{IsFiled}
use Rattle.pa_one_run.proofs.lines.Cuts.{entry_made, same_played}
use Rattle.pa_one_run.proofs.roots.Replays.{act_entry}
use Rattle.pa_core_run.specs.Laws.{PurgedRecordsArePlayed}
use Rattle.pa_core_run.specs.Playing.{AreBeside}
use Rattle.pa_core_run.specs.Ledger.{IsShown}
use Rattle.pa_core_run.specs.Standing.{Standing, in_registers, in_lists, ledger_of}
use Rattle.pa_core_run.specs.Fronts.{MadeIn, KeptIn, titles_in, IsFrontOf, CanBePlayed}
use Rattle.pa_core_run.proofs.Acting.{play_none}
use Rattle.pa_core_run.proofs.Moving.{keeping}
use Rattle.pa_core_run.proofs.NextFronts.{among, regs_left, row_here, front_next, cells_left, regs_same, words_same, right_same, lists_left}
use Rattle.pa_core_run.proofs.Records.{Outcome}
use Rattle.pa_core_run.proofs.Stepped.{next_st}
use Rattle.pa_core_run.proofs.Batching.{kept_with}
use Rattle.pa_core_run.proofs.Making.{renamed}
use Rattle.pa_core_run.proofs.Bringing.{titles_go}
use Rattle.pa_core_run.proofs.Issued.{names_next}
use Rattle.pa_core_run.proofs.Given.{there_given}
use Rattle.pa_core_run.proofs.Purging.{purged_row, purge_in, giving, purged_titled, purged_titles, kept_next, lists_fall}
use Rattle.pa_slot_effects.proofs.Handles.{over_same}

module _ (a : Parts) (before rest : List Played) (x : Played) (h : IsFiled a) (some : 1 ≤ a.partitions)
    (parts : a.ps ≡ before ++ x ∷ rest) (st : Standing) (f : IsFrontOf a x.line before (x ∷ rest) st) (s : State)
    (shown : IsShown (titles_in a (root_at a x.line)) (a.threads + 1) (2097152 * a.supers) (ledger_of a.partitions st) s) (slots : ℕ)
    (answer : x.answer ≡ answers.Purged slots) where
  -- the op purges, since its line has an entry that does
  purges : x.op ≡ ops.Purge
  purges =
      let row = purged_row a before rest x h parts st f s shown slots answer in
      let (e, member, line, is) =
      act_entry a.roots x.line 0 Purge
      (subst (λ acts. Contains acts Purge) (sym (row.0 0 some)) (purge_in (st.caches x.thread 0) 0 170)) in
      let (y, of, make) = entry_made a 0 e h member in
      let same : y ≡ x = same_played a y x h of.0 (among a before rest x h parts st f) (of.1 ∙ line) in
      let P : RootAct → Type 0 = λ act. MakesEntry a.pools 0 act x in
      subst P is (subst (λ (z : Played). MakesEntry a.pools 0 e.act z) same make)

  unmarked : mark_of x ≡ None
  unmarked = ap (λ z. mark_of_answer x.line x.op z) answer

  stays : Becomes (regs_left a before rest x h parts st f) (st.regs x.thread)
  stays = (subst (λ o. Row (facts_of a) o (st.regs x.thread) x.answer (regs_left a before rest x h parts st f)) purges
      (row_here a before rest x h parts st f)).2

  abbrev next : Standing
  next = next_st a before rest x h parts st f s shown st.content

  words : (y : SlotName) → next.word y ≡ st.word y
  words = words_same a before rest x h parts st f (inl unmarked)

  registers : (g : Reg → ℕ) (k : ℕ) → in_registers g next k ≡ in_registers g st k
  registers g zero = over_same 64 _ _
      (λ c. ap (λ v. g (reg_of v))
      (cells_left a before rest x h parts st f (λ k r swap. (let both : ops.Purge ≡ ops.Swap k r = sym purges ∙ swap in absurd cc)) c))
  registers g (suc j) = over_same 64 _ _ (λ r. ap g (regs_same a before rest x h parts st f stays j r))

  others : (j : ℕ) (y : SlotName) → (j ≡ suc x.thread → ⊥) → in_lists a.partitions next y j ≤ in_lists a.partitions st y j
  others zero y ne = omega arith
  others (suc j) y ne = let e = lists_left a before rest x h parts st f st.content j y (λ same. ne (ap suc same)) in omega arith

  pub purge_plays : Outcome a before rest x h parts st f s shown
  purge_plays =
      let Kept = KeptIn (root_at a x.line) in
      let ts = purged_titles a before rest x h parts st f s shown slots answer in
      let are = (purged_titled a before rest x h parts st f s shown slots answer).1 in
      let (after, r) = titles_go a before rest x h parts st f s shown st next ts s shown registers words (λ y. refl) are.made
      (lists_fall a before rest x h parts st f s shown slots answer) others in
      let e : suc x.thread ≡ x.thread + 1 = omega arith in (
        after,
        play_none (MadeIn a) x s after r.events unmarked shown.good r.run (subst (λ i. AreBeside i r.events) e r.beside),
        record {
          st = next;
          front = front_next a before rest x h parts st f st.content (right_same a before rest x h parts st f words);
          shown = renamed (keeping (titles_in a (root_at a x.line)) (kept_with Kept ts)) (names_next a before rest x h parts st f s shown)
              (a.threads + 1) (2097152 * a.supers) (ledger_of a.partitions next) after (λ u. refl) (λ u made. made)
              (there_given a before rest x h parts st f (giving a before rest x h parts st f s shown slots answer))
              (kept_next a before rest x h parts st f s shown slots answer) r.shown;
        },
      )

pub purged_record_plays : (a : Parts) (before rest : List Played) (x : Played) (slots : ℕ) → IsFiled a → 1 ≤ a.partitions
    → a.ps ≡ before ++ x ∷ rest → x.answer ≡ answers.Purged slots → CanBePlayed a before x rest
purged_record_plays a before rest x slots h some parts answer s shows =
    purge_plays a before rest x h some parts shows.st shows.front s shows.shown slots answer

pub purged_records_play : PurgedRecordsArePlayed
purged_records_play t r limits filed_run before x rest slots parts answer =
    purged_record_plays (parts_of t (told_by r)) before rest x slots (filed t (told_by r) limits filed_run) (limits.head.1.0) parts answer
