-- The steps that a record is due, poisonings among them: a free has those of all content words first, and each other record none.
use Rattle.std.proofs.Common.{◌≡◌, ℕ, ◌/◌, List, [], ◌∷◌, ◌++◌, map, Some, refl, sym, ◌∙◌, ap, subst, inl, inr}
use Rattle.std.specs.Prelude.{Contains}
use Rattle.std.specs.List.{range_with_len}
use Rattle.std.proofs.lemmas.List.Elements.{Contains-append_left, Contains-append_right, Contains-append_cases}
use Rattle.pa_slot.specs.declared.word.SlotName.{SlotName}
use Rattle.pa_slot.specs.declared.word.Step.TheVariants as steps
use Rattle.pa_trace.specs.declared.script.Op.{Op}
use Rattle.pa_trace.specs.declared.script.Op.TheVariants as ops
use Rattle.pa_record.specs.declared.entry.Seen.{Seen}
use Rattle.pa_record.specs.declared.entry.Answer.{Answer}
use Rattle.pa_record.specs.declared.entry.Answer.TheVariants as answers
use Rattle.pa_lists.proofs.Members.{first_in, of_some, not_some, in_cases}
use Rattle.pa_legal.proofs.owners.Using.{free_op}
use Rattle.pa_rules.specs.declared.played.Played.{Played}
use Rattle.pa_rules.specs.Played.{mark_of}
use Rattle.pa_rules.specs.Roots.{Journals}
use Rattle.pa_logs.specs.Touches.{StepMade, step_in, step_by}
use Rattle.pa_logs.proofs.StepMarks.{step_mark, done_is}
use Rattle.pa_timeline.specs.Timeline.{Part, Spoiling, Counting, entry_parts, done_parts, answer_parts, slot_words, due_parts, outline_parts}
use Rattle.pa_timeline.proofs.Kept.{kept_from}
use Rattle.pa_timeline.proofs.Outlined.{part_stays, entries_stay}

-- a record that makes a step has its counted step
done_counts : (words : ℕ) (op : Op) (entries : List Part) → Contains (done_parts words op entries) Counting
done_counts words (ops.Free reg) entries =
    Contains-append_right (map Spoiling (range_with_len 0 words)) (Counting ∷ entries) Counting (first_in Counting entries)
done_counts words op entries = first_in Counting entries

answer_counts : (words : ℕ) (op : Op) (entries : List Part) (answer : Answer) (d : StepMade) → step_in op answer ≡ Some d →
    Contains (answer_parts words op entries answer) Counting
answer_counts words op entries (answers.Made seen usable) d is =
    Contains-append_right entries (Counting ∷ []) Counting (first_in Counting [])
answer_counts words op entries (answers.Done seen) d is = done_counts words op entries
answer_counts words op entries answer d is = absurd (not_some d is)

-- one that isn't a free is due what its outline has
done_other : (words : ℕ) (op : Op) (entries : List Part) (seen : Seen) →
    ((d : StepMade) → step_in op (answers.Done seen) ≡ Some d → d.step ≡ steps.Free → ⊥) →
    done_parts words op entries ≡ done_parts 0 op entries
done_other words (ops.Free reg) entries seen other =
    absurd (other (record { slot = seen.slot; step = steps.Free; found = seen.found.0; value = 0 }) refl refl)
done_other words op entries seen other = refl

answer_other : (words : ℕ) (op : Op) (entries : List Part) (answer : Answer) →
    ((d : StepMade) → step_in op answer ≡ Some d → d.step ≡ steps.Free → ⊥) →
    answer_parts words op entries answer ≡ answer_parts 0 op entries answer
answer_other words op entries (answers.Done seen) other = done_other words op entries seen other
answer_other words op entries answer other = refl

-- no entry is a poisoning
pub entries_unspoiled : (partitions : ℕ) (roots : Journals) (line word : ℕ) → Contains (entry_parts partitions roots line) (Spoiling word) →
    ⊥
entries_unspoiled partitions roots line word among =
    let (part, there, is) = kept_from part_stays (entry_parts partitions roots line) (Spoiling word)
    (subst (λ ps. Contains ps (Spoiling word)) (sym (entries_stay partitions roots line)) among) in
    stays_other part is
  where
    stays_other : (part : Part) → part_stays part ≡ Some (Spoiling word) → ⊥
    stays_other (Spoiling other) is = not_some (Spoiling word) is
    stays_other part is = let same : part ≡ Spoiling word = of_some part (Spoiling word) is in cc

module _ (usable : SlotName → ℕ) (partitions : ℕ) (roots : Journals) where
  pub counting_due : (x : Played) (d : StepMade) → step_by x ≡ Some d → Contains (due_parts usable partitions roots x) Counting
  counting_due x d is = answer_counts (slot_words usable (mark_of x)) x.op (entry_parts partitions roots x.line) x.answer d is

  pub other_due : (x : Played) → ((d : StepMade) → step_by x ≡ Some d → d.step ≡ steps.Free → ⊥) →
      due_parts usable partitions roots x ≡ outline_parts partitions roots x
  other_due x other = answer_other (slot_words usable (mark_of x)) x.op (entry_parts partitions roots x.line) x.answer other

  -- a free poisons all content words, in order, then makes its counted step, and enters what it enters
  free_parts : (words : ℕ) (x : Played) (d : StepMade) → step_by x ≡ Some d → d.step ≡ steps.Free →
      answer_parts words x.op (entry_parts partitions roots x.line) x.answer ≡ map Spoiling (range_with_len 0 words) ++
      Counting ∷ entry_parts partitions roots x.line
  free_parts words x d is frees =
      let done = done_is x.op x.answer d is (λ issue. let both : steps.Free ≡ steps.Issue = sym frees ∙ issue in cc) in
      let (reg, op) = free_op x.op (done.step ∙ ap Some frees) in
      ap (answer_parts words x.op (entry_parts partitions roots x.line)) done.answer ∙
      ap (λ o. done_parts words o (entry_parts partitions roots x.line)) op

  pub free_due : (x : Played) (d : StepMade) → step_by x ≡ Some d → d.step ≡ steps.Free →
      due_parts usable partitions roots x ≡ map Spoiling (range_with_len 0 (usable d.slot / 8)) ++
      Counting ∷ entry_parts partitions roots x.line
  free_due x d is frees =
      free_parts (slot_words usable (mark_of x)) x d is frees
      ∙ ap (λ o. map Spoiling (range_with_len 0 (slot_words usable o)) ++ Counting ∷ entry_parts partitions roots x.line)
      (step_mark x.line x.op x.answer d is)

  pub free_outline : (x : Played) (d : StepMade) → step_by x ≡ Some d → d.step ≡ steps.Free →
      outline_parts partitions roots x ≡ Counting ∷ entry_parts partitions roots x.line
  free_outline x d is frees = free_parts 0 x d is frees

  -- two frees of one slot are due the same poisonings
  pub alike_due : (x y : Played) (d e : StepMade) (word : ℕ) → step_by x ≡ Some d → step_by y ≡ Some e → d.step ≡ steps.Free →
      e.step ≡ steps.Free → d.slot ≡ e.slot →
      Contains (due_parts usable partitions roots x) (Spoiling word) → Contains (due_parts usable partitions roots y) (Spoiling word)
  alike_due x y d e word is is' frees frees' same among =
      let spoils : SlotName → List Part = λ s. map Spoiling (range_with_len 0 (usable s / 8)) in
      elim (Contains-append_cases (spoils d.slot) (Counting ∷ entry_parts partitions roots x.line) (Spoiling word)
      (subst (λ ps. Contains ps (Spoiling word)) (free_due x d is frees) among)) [
        | inl front ↦ subst (λ ps. Contains ps (Spoiling word)) (sym (free_due y e is' frees'))
            (Contains-append_left (spoils e.slot) (Counting ∷ entry_parts partitions roots y.line) (Spoiling word)
            (subst (λ s. Contains (spoils s) (Spoiling word)) same front))
        | inr rest ↦ elim (in_cases Counting (Spoiling word) (entry_parts partitions roots x.line) rest) [
          | inl both ↦ absurd cc
          | inr entry ↦ absurd (entries_unspoiled partitions roots x.line word entry)
        ]
      ]
