-- What the steps of a record leave in a content word of its slot: an issue 0, a write its value, a free poison, and no other record
-- anything.
use Rattle.std.proofs.Common.{◌≡◌, ℕ, ◌<◌, true, false, List, [], ◌∷◌, ◌++◌, map, Option, Some, None, refl, sym, ◌∙◌, ap, arith}
use Rattle.std.specs.List.{cons_option, filter_map, range_with_len}
use Rattle.std.proofs.lemmas.Bool.{eq-eqb, ne_eqb}
use Rattle.std.proofs.lemmas.List.{append-nil}
use Rattle.std.proofs.lemmas.List.Concat.{flat_map-append}
use Rattle.pa_slot.specs.declared.word.SlotName.{SlotName}
use Rattle.pa_slot.specs.Run.{Mark}
use Rattle.pa_slot.specs.Titles.{poison}
use Rattle.pa_trace.specs.declared.script.Op.{Op}
use Rattle.pa_trace.specs.declared.script.Op.TheVariants as ops
use Rattle.pa_record.specs.declared.entry.Seen.{Seen}
use Rattle.pa_record.specs.declared.entry.Answer.{Answer}
use Rattle.pa_record.specs.declared.entry.Answer.TheVariants as answers
use Rattle.pa_lists.proofs.Members.{of_some, not_some}
use Rattle.pa_rules.specs.declared.played.Played.{Played}
use Rattle.pa_rules.specs.Played.{mark_of, mark_of_answer, mark_at, look_at}
use Rattle.pa_timeline.specs.Timeline.{Part, Spoiling, Counting, entry_parts, answer_parts, is_of_slot, value_left, part_leaves, moment_leaves, changed_to, content_after}
use Rattle.pa_one_run.specs.Parts.{Parts}
use Rattle.pa_timeline.proofs.Left.{content_parted}
use Rattle.pa_timeline.proofs.Ranges.{in_range}
use Rattle.pa_ordered_runs.proofs.Pieces.{filter_map_pieces}
use Rattle.pa_ordered_runs.proofs.Steps.{moment, steps_in, moments_at, line_by_line, no_entries, made_kept, free_kept}

-- ---- a content word after moments

-- the last of what was left, if anything was
abbrev pub last_of : ℕ → List ℕ → ℕ
last_of content [] = content
last_of content (value ∷ values) = last_of value values

one_more : (o : Option ℕ) (content : ℕ) (values : List ℕ) → last_of (changed_to o content) values ≡ last_of content (cons_option o values)
one_more None content values = refl
one_more (Some value) content values = refl

-- moments of a record of another slot leave it
pub content_beside : (s : SlotName) (place content : ℕ) (x : Played) (parts : List Part) → is_of_slot s (mark_of x) ≡ false →
    content_after s place content (map (moment x) parts) ≡ content
content_beside s place content x [] other = refl
content_beside s place content x (part ∷ parts) other =
    let none : moment_leaves s place (moment x part) ≡ None = rw other refl in
    ap (λ o. content_after s place (changed_to o content) (map (moment x) parts)) none ∙ content_beside s place content x parts other

-- the parts of a record of the slot leave the last content that one of them leaves
pub content_here : (s : SlotName) (place content : ℕ) (x : Played) (parts : List Part) → is_of_slot s (mark_of x) ≡ true →
    content_after s place content (map (moment x) parts) ≡ last_of content (filter_map (part_leaves place x) parts)
content_here s place content x [] same = refl
content_here s place content x (part ∷ parts) same =
    let here : moment_leaves s place (moment x part) ≡ part_leaves place x part = rw same refl in
    ap (λ o. content_after s place (changed_to o content) (map (moment x) parts)) here
    ∙ content_here s place (changed_to (part_leaves place x part) content) x parts same
    ∙ one_more (part_leaves place x part) content (filter_map (part_leaves place x) parts)

-- the content after one record more is what that record's moments leave of the content before it
pub content_next : (a : Parts) (s : SlotName) (place : ℕ) (front : List Played) (x : Played) →
    content_after s place 0 (line_by_line a (front ++ x ∷ [])) ≡ content_after s place (content_after s place 0 (line_by_line a front))
    (moments_at a x)
content_next a s place front x =
    ap (content_after s place 0) (flat_map-append (moments_at a) front (x ∷ []) ∙
    ap (λ ys. line_by_line a front ++ ys) (append-nil (moments_at a x)))
    ∙ content_parted s place 0 (line_by_line a front) (moments_at a x)

-- ---- by the record's answer

-- the record neither made a slot nor made a step
pub record IsQuiet (answer : Answer) : Type 0 where
  pub not_made : (seen : Seen) (usable : ℕ) → answer ≡ answers.Made seen usable → ⊥
  pub not_done : (seen : Seen) → answer ≡ answers.Done seen → ⊥

looked : (line : ℕ) (seen : Seen) (m : Mark) → look_at line (Some seen) ≡ Some m → m.step ≡ None
looked line seen m is = ap (λ (z : Mark). z.step) (sym (of_some (mark_at line seen None) m is))

-- a record with a quiet answer made no step
pub quiet_step : (line : ℕ) (op : Op) (answer : Answer) (m : Mark) → IsQuiet answer → mark_of_answer line op answer ≡ Some m → m.step ≡ None
quiet_step line op (answers.Made seen usable) m quiet is = absurd (quiet.not_made seen usable refl)
quiet_step line op (answers.Done seen) m quiet is = absurd (quiet.not_done seen refl)
quiet_step line op (answers.Value seen value) m quiet is = looked line seen m is
quiet_step line op (answers.Dangling seen value) m quiet is = looked line seen m is
quiet_step line op (answers.NotOwner seen) m quiet is = looked line seen m is
quiet_step line op (answers.Shared seen) m quiet is = looked line seen m is
quiet_step line op (answers.SecondFree (Some seen)) m quiet is = looked line seen m is
quiet_step line op (answers.StaleUse (Some seen)) m quiet is = looked line seen m is
quiet_step line op (answers.SecondFree None) m quiet is = absurd (not_some m is)
quiet_step line op (answers.StaleUse None) m quiet is = absurd (not_some m is)
quiet_step line op answer m quiet is = absurd (not_some m is)

module _ (a : Parts) (place : ℕ) (x : Played) where
  none_left : filter_map (part_leaves place x) (entry_parts a.partitions a.roots x.line) ≡ []
  none_left = no_entries (part_leaves place x) a.partitions a.roots x.line refl (λ p act. refl)

  abbrev left_by_answer : ℕ → Op → Answer → List ℕ
  left_by_answer words op answer = filter_map (part_leaves place x) (answer_parts words op (entry_parts a.partitions a.roots x.line) answer)

  quiet_leaves : (words : ℕ) (op : Op) (answer : Answer) → IsQuiet answer → left_by_answer words op answer ≡ []
  quiet_leaves words op (answers.Made seen usable) quiet = absurd (quiet.not_made seen usable refl)
  quiet_leaves words op (answers.Done seen) quiet = absurd (quiet.not_done seen refl)
  quiet_leaves words op (answers.SecondFree None) quiet = refl
  quiet_leaves words op (answers.SecondFree (Some seen)) quiet = refl
  quiet_leaves words op (answers.StaleUse None) quiet = refl
  quiet_leaves words op (answers.StaleUse (Some seen)) quiet = refl
  quiet_leaves words op (answers.Full entry) quiet = none_left
  quiet_leaves words op (answers.Purged slots) quiet = none_left
  quiet_leaves words op answer quiet = refl

  pub quiet_left : IsQuiet x.answer → filter_map (part_leaves place x) (steps_in a x) ≡ []
  quiet_left quiet = quiet_leaves _ x.op x.answer quiet

  pub made_left : (seen : Seen) (usable : ℕ) → x.answer ≡ answers.Made seen usable →
      filter_map (part_leaves place x) (steps_in a x) ≡ 0 ∷ []
  made_left seen usable is =
      let zero : part_leaves place x Counting ≡ Some 0 = ap (value_left x.op) is in
      ap (left_by_answer _ x.op) is ∙ made_kept (part_leaves place x) (entry_parts a.partitions a.roots x.line)
      ∙ ap (λ ys. ys ++ cons_option (part_leaves place x Counting) []) none_left ∙ ap (λ o. cons_option o []) zero

  -- what the steps of one that was done leave
  done_left : (words : ℕ) (op : Op) (seen : Seen) (o : Option ℕ) → ((reg : ℕ) → op ≡ ops.Free reg → ⊥) → part_leaves place x Counting ≡ o →
      left_by_answer words op (answers.Done seen) ≡ cons_option o []
  done_left words (ops.Free reg) seen o other is = absurd (other reg refl)
  done_left words op seen o other is =
      ap (λ v. cons_option v (filter_map (part_leaves place x) (entry_parts a.partitions a.roots x.line))) is ∙ ap (cons_option o) none_left

  abbrev pub Leaves : List ℕ → Type 0
  Leaves values = filter_map (part_leaves place x) (steps_in a x) ≡ values

  pub copied_left : (from to : ℕ) (seen : Seen) → x.op ≡ ops.Copy from to → x.answer ≡ answers.Done seen → Leaves []
  copied_left from to seen op is =
      ap (left_by_answer _ x.op) is ∙ done_left _ x.op seen None (λ reg e. (let both : ops.Copy from to ≡ ops.Free reg = sym op ∙ e in cc))
      (ap (λ o. value_left o x.answer) op ∙ ap (value_left (ops.Copy from to)) is)

  pub reset_left : (reg : ℕ) (seen : Seen) → x.op ≡ ops.Reset reg → x.answer ≡ answers.Done seen → Leaves []
  reset_left reg seen op is =
      ap (left_by_answer _ x.op) is ∙ done_left _ x.op seen None (λ r e. (let both : ops.Reset reg ≡ ops.Free r = sym op ∙ e in cc))
      (ap (λ o. value_left o x.answer) op ∙ ap (value_left (ops.Reset reg)) is)

  pub written_left : (reg value : ℕ) (seen : Seen) → x.op ≡ ops.Write reg value → x.answer ≡ answers.Done seen → Leaves (value ∷ [])
  written_left reg value seen op is =
      ap (left_by_answer _ x.op) is ∙
      done_left _ x.op seen (Some value) (λ r e. (let both : ops.Write reg value ≡ ops.Free r = sym op ∙ e in cc))
      (ap (λ o. value_left o x.answer) op ∙ ap (value_left (ops.Write reg value)) is)

  -- poison of all words, of which this is one
  spoiled : (words : ℕ) → place < words → filter_map (λ word. part_leaves place x (Spoiling word)) (range_with_len 0 words) ≡ poison ∷ []
  spoiled words inside =
      let piece : ℕ → List ℕ = λ word. cons_option (part_leaves place x (Spoiling word)) [] in
      let here : piece place ≡ poison ∷ [] = rw (eq-eqb place place refl) refl in
      filter_map_pieces (λ word. part_leaves place x (Spoiling word)) (range_with_len 0 words)
      ∙ in_range piece place 0 words (omega arith) (omega arith) (λ q other. rw (ne_eqb q place other) refl) ∙ here

  freed_parts : (words reg : ℕ) (seen : Seen) → place < words → x.op ≡ ops.Free reg → x.answer ≡ answers.Done seen →
      left_by_answer words (ops.Free reg) (answers.Done seen) ≡ poison ∷ []
  freed_parts words reg seen inside op is =
      let none : part_leaves place x Counting ≡ None = ap (λ o. value_left o x.answer) op ∙ ap (value_left (ops.Free reg)) is in
      free_kept (part_leaves place x) words reg (entry_parts a.partitions a.roots x.line)
      ∙ ap (λ ys. ys ++ cons_option (part_leaves place x Counting)
      (filter_map (part_leaves place x) (entry_parts a.partitions a.roots x.line))) (spoiled words inside)
      ∙ ap (λ o. poison ∷ cons_option o (filter_map (part_leaves place x) (entry_parts a.partitions a.roots x.line))) none
      ∙ ap (λ ys. poison ∷ ys) none_left

  pub freed_left : (words reg : ℕ) (seen : Seen) → place < words → x.op ≡ ops.Free reg → x.answer ≡ answers.Done seen →
      left_by_answer words x.op x.answer ≡ poison ∷ []
  freed_left words reg seen inside op is =
      ap (λ o. left_by_answer words o x.answer) op ∙ ap (left_by_answer words (ops.Free reg)) is ∙ freed_parts words reg seen inside op is
