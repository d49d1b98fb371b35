-- Moments with poisonings among them, phase by phase, are a timeline.
use Rattle.std.proofs.Common.{◌≡◌, ℕ, ◌<◌, List, Some, refl, sym, ◌∙◌, ap, subst, arith, inl, inr}
use Rattle.std.specs.Prelude.{Contains, AllPairs}
use Rattle.std.specs.List.{filter_map}
use Rattle.pa_slot.specs.declared.word.SlotName.{SlotName}
use Rattle.std.proofs.lemmas.Bool.{eq-eqb, eqb-true, cases_eq, ne_eqb}
use Rattle.pa_lists.proofs.Elements.{all_from_members}
use Rattle.pa_lists.proofs.Joined.{map_cases, map_in, filter_cases, filter_in}
use Rattle.pa_lists.proofs.Members.{not_some}
use Rattle.pa_record.specs.declared.history.CellEntry.{CellEntry}
use Rattle.pa_record.specs.declared.pool.PoolEntry.{PoolEntry}
use Rattle.pa_rules.specs.declared.played.Played.{Played}
use Rattle.pa_rules.specs.Roots.{Journals}
use Rattle.pa_rules.specs.Flow.{IsInPhases}
use Rattle.pa_rules.specs.Contents.{AreContents}
use Rattle.pa_logs.proofs.Filters.{pairs_all}
use Rattle.pa_timeline.specs.Timeline.{Part, Counting, Spoiling, Moment, parts_in, journal_made, asked_lines, swap_lines, due_parts, outline_parts, IsStepOrder, IsTimeline}
use Rattle.pa_timeline.proofs.Places.{part_on, parts_kept}
use Rattle.pa_timeline.proofs.Outlined.{stays}
use Rattle.pa_step_order.proofs.Sorting.{sorted, sorted_from, sorted_kept, KeptRises}
use Rattle.pa_step_order.proofs.Moments.{phase_at, InLine, sorted_in_order}
use Rattle.pa_step_order.proofs.Stays.{FindsItsNumber, sorted_stays, found_stays, journal_stays, pool_stays, swaps_stay}
use Rattle.pa_step_order.proofs.Marked.{AreMarked}
use Rattle.pa_step_order.proofs.Reading.{IsRunOf}
use Rattle.pa_step_order.proofs.Crossing.{SpoilAlike, AreIssuedAgain, reads_sorted}
use Rattle.pa_step_order.proofs.Due.{counting_due, alike_due}

module _ (usable_of : ℕ → ℕ) (usable : SlotName → ℕ) (partitions : ℕ) (pools : List PoolEntry) (roots : Journals)
    (cells : ℕ → List CellEntry) (ps : List Played) (ms : List Moment)
    (marked : AreMarked ps ms) (one_line : (x y : Played) → Contains ps x → Contains ps y → x.line ≡ y.line → x ≡ y)
    (whole : (x : Played) → Contains ps x → parts_in x.line ms ≡ due_parts usable partitions roots x) where
  -- a step that a record is due is a moment
  due_moment : (x : Played) (part : Part) → Contains ps x → Contains (due_parts usable partitions roots x) part →
      Contains ms (record { x = x; part = part })
  due_moment x part of among =
      let (m, kept, is) = map_cases (λ (z : Moment). z.part) _ part (subst (λ parts. Contains parts part) (sym (whole x of)) among) in
      let (there, line) = filter_cases _ ms m kept in
      let same = one_line m.x x (marked.members m there) of (eqb-true m.x.line x.line line) in
      subst (λ (z : Played). Contains ms (record { x = z; part = part })) same
      (subst (λ p. Contains ms (record { x = m.x; part = p })) is there)

  moment_due : (x : Played) (part : Part) → Contains ps x → Contains ms (record { x = x; part = part }) →
      Contains (due_parts usable partitions roots x) part
  moment_due x part of among =
      subst (λ parts. Contains parts part) (whole x of)
      (map_in (λ (z : Moment). z.part) _ (record { x = x; part = part })
      (filter_in _ ms (record { x = x; part = part }) among (eq-eqb x.line x.line refl)))

  run_of : IsInPhases ps → IsRunOf ps ms
  run_of phases = record {
    one_line = one_line;
    phases = phases;
    counts = λ y d of is. due_moment y Counting of (counting_due usable partitions roots y d is);
  }

  alike : SpoilAlike ps ms
  alike x y d e word first second is is' frees frees' same among =
      due_moment y (Spoiling word) second
      (alike_due usable partitions roots x y d e word is is' frees frees' same (moment_due x (Spoiling word) first among))

  -- moments of one line are of one phase
  line_rises : (line : ℕ) → AllPairs (KeptRises phase_at (part_on line)) ms
  line_rises line = pairs_all (KeptRises phase_at (part_on line)) ms (λ a b first second u v here here'.
      let same = one_line a.x b.x (marked.members a first) (marked.members b second) (kept_line a u here ∙ sym (kept_line b v here')) in
      let e = ap (λ (z : Played). z.phase) same in omega arith)
    where
      kept_line : (m : Moment) (part : Part) → part_on line m ≡ Some part → m.x.line ≡ line
      kept_line m part is = elim (cases_eq m.x.line line) [
        | inl here ↦ here
        | inr other ↦ absurd (not_some part (rw (ne_eqb m.x.line line other) at is))
      ]

  pub timeline : ((x y : Played) → Contains ps x → Contains ps y → x.phase < y.phase → x.line < y.line) → IsInPhases ps →
      AreContents usable_of cells ps → AreIssuedAgain ps → AllPairs InLine ms →
      IsStepOrder (outline_parts partitions roots) ps pools roots cells (sorted phase_at (filter_map stays ms)) →
      IsTimeline usable partitions ps pools roots cells (sorted phase_at ms)
  timeline phases seen contents issued lines outline =
      let all = sorted phase_at ms in
      record {
        ordered = record {
          whole = λ x among. sym (parts_kept x.line all) ∙ sorted_kept phase_at (part_on x.line) ms (line_rises x.line) ∙
              parts_kept x.line ms ∙ whole x among;
          only = all_from_members (λ (m : Moment). Contains ps m.x) all (λ m among. marked.members m (sorted_from phase_at m ms among));
          in_order = sorted_in_order ps ms marked.members phases lines;
          found = found_stays all (subst FindsItsNumber (sym (sorted_stays ms)) outline.found);
          journals = λ p. sym (journal_stays p all) ∙ ap (journal_made p) (sorted_stays ms) ∙ outline.journals p;
          pool = sym (pool_stays all) ∙ ap asked_lines (sorted_stays ms) ∙ outline.pool;
          exchanges = λ k. sym (swaps_stay k all) ∙ ap (swap_lines k) (sorted_stays ms) ∙ outline.exchanges k;
        };
        reads = reads_sorted usable_of cells ps ms marked (run_of seen) contents alike issued;
      }
