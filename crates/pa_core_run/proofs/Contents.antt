-- The content of a slot at its next number, after each kind of step; and that it has one.
use Rattle.std.proofs.Common.{◌≡◌, ℕ, ◌+◌, Some, refl, sym, ◌∙◌, ap, subst, arith, inl, inr}
use Rattle.std.specs.Prelude.{Contains}
use Rattle.std.proofs.lemmas.Bool.{cases_lt}
use Rattle.pa_slot.specs.declared.word.SlotName.{SlotName}
use Rattle.pa_slot.specs.declared.word.Step.{Step}
use Rattle.pa_slot.specs.declared.word.Step.TheVariants as steps
use Rattle.pa_slot.specs.Count.{number_of}
use Rattle.pa_slot.specs.Run.{Mark, IsFirstAt}
use Rattle.pa_trace.specs.declared.script.Op.TheVariants as ops
use Rattle.pa_record.specs.declared.entry.Seen.{Seen}
use Rattle.pa_record.specs.declared.entry.Answer.TheVariants.{Made, Done}
use Rattle.pa_rules.specs.declared.played.Played.{Played}
use Rattle.pa_rules.specs.Played.{mark_of, marks_of, mark_at}
use Rattle.pa_rules.specs.Contents.{IsMadeAt, IsWrittenAt, IsWrittenFor, IsContent}
use Rattle.pa_rules.proofs.Marking.{mark_line}
use Rattle.pa_rules.proofs.Running.{first_line, same_word}
use Rattle.pa_rules.proofs.Phases.{mark_in}
use Rattle.pa_one_run.specs.Parts.{Parts}
use Rattle.pa_one_run.proofs.Filed.{IsFiled}
use Rattle.pa_one_run.proofs.lines.Cuts.{same_played}
use Rattle.pa_one_run.proofs.words.Reading.{made_mark, written_mark}

-- one number of a slot has one step
pub step_once : (a : Parts) (q y : Played) (m n : Mark) (p r : Step) → IsFiled a → Contains a.ps q → Contains a.ps y → mark_of q ≡ Some m →
    mark_of y ≡ Some n → m.step ≡ Some p → n.step ≡ Some r →
    m.slot ≡ n.slot → number_of m.found ≡ number_of n.found → q ≡ y
step_once a q y m n p r h there there' is is' step step' slot number =
    let s = n.slot in
    let (vs, run, one) = h.slots s in
    let among = mark_in a.ps q m there is in
    let among' = mark_in a.ps y n there' is' in
    let word = same_word (marks_of a.ps) s 0 vs m.found n.found run (one.found m among slot) (one.found n among' refl) number in
    let (first, can) = one.used m p among slot step in
    let (first', can') = one.used n r among' refl step' in
    let line = first_line (marks_of a.ps) s n.found m n p r (subst (λ z. IsFirstAt (marks_of a.ps) s z m p) word first) first' in
    let b = mark_line q m is in
    let c = mark_line y n is' in
    same_played a q y h there there' (omega arith)

module _ (a : Parts) (h : IsFiled a) where
  -- the record that made or wrote a slot at a number is the one that stepped there
  made_here : (x : Played) (m : Mark) (p : Step) → Contains a.ps x → mark_of x ≡ Some m → m.step ≡ Some p
      → IsMadeAt a.ps m.slot (number_of m.found) → (seen : Seen) × (usable : ℕ) × (x.answer ≡ Made seen usable)
  made_here x m p there is step (q, seen, usable, among, answer, slot, number) =
      let same = step_once a q x (mark_at q.line seen (Some steps.Issue)) m steps.Issue p h among there
      (made_mark q seen usable answer) is refl step slot number in
      (seen, usable, ap (λ (z : Played). z.answer) (sym same) ∙ answer)

  written_here : (x : Played) (m : Mark) (p : Step) (value : ℕ) → Contains a.ps x → mark_of x ≡ Some m → m.step ≡ Some p →
      IsWrittenAt a.ps m.slot (number_of m.found) value →
      (seen : Seen) × (reg : ℕ) × (x.op ≡ ops.Write reg value) × (x.answer ≡ Done seen)
  written_here x m p value there is step (q, seen, reg, among, op, answer, slot, number) =
      let same = step_once a q x (mark_at q.line seen (Some steps.Write)) m steps.Write p h among there
      (written_mark q seen reg value op answer) is refl step slot number in
      (seen, reg, ap (λ (z : Played). z.op) (sym same) ∙ op, ap (λ (z : Played). z.answer) (sym same) ∙ answer)

  -- a step that neither makes nor writes the slot leaves its content
  pub content_left : (x : Played) (m : Mark) (p : Step) (value : ℕ) → Contains a.ps x → mark_of x ≡ Some m → m.step ≡ Some p →
      ((seen : Seen) (usable : ℕ) → x.answer ≡ Made seen usable → ⊥) → ((reg other : ℕ) → x.op ≡ ops.Write reg other → ⊥) →
      IsContent a.ps m.slot (number_of m.found) value → IsContent a.ps m.slot (number_of m.found + 1) value
  content_left x m p value there is step not_made not_written had =
      let k = number_of m.found in
      let back : (n other : ℕ) → IsWrittenFor a.ps m.slot (k + 1) n other →
      IsWrittenFor a.ps m.slot k n other = λ n other (written, below, none). elim (cases_lt n k) [
        | inl less ↦ (written, less, λ j made low high. none j made low (omega arith))
        | inr more ↦
            let e : n ≡ k = omega arith in
            let (seen, reg, op, answer) = written_here x m p other there is step (subst (λ z. IsWrittenAt a.ps m.slot z other) e written) in
            absurd (not_written reg other op)
      ] in
      elim had [
        | inl (n, (written, below, none), last) ↦ inl (
          n,
          (
            written,
            omega arith,
            λ j made low high. elim (cases_lt j k) [
              | inl less ↦ none j made low less
              | inr more ↦
                  let e : j ≡ k = omega arith in
                  let (seen, usable, answer) = made_here x m p there is step (subst (λ z. IsMadeAt a.ps m.slot z) e made) in
                  not_made seen usable answer
            ],
          ),
          λ j other w low. last j other (back j other w) low,
        )
        | inr (zero_value, none) ↦ inr (zero_value, λ n other w. none n other (back n other w))
      ]

  -- a slot that is made has the content 0
  pub content_made : (x : Played) (seen : Seen) (usable : ℕ) → Contains a.ps x → x.answer ≡ Made seen usable →
      IsContent a.ps seen.slot (number_of seen.found.0 + 1) 0
  content_made x seen usable there answer =
      let k = number_of seen.found.0 in
      inr (
        refl,
        λ n other (written, below, none). elim (cases_lt n k) [
          | inl less ↦ none k (x, seen, usable, there, answer, refl, refl) less (omega arith)
          | inr more ↦
              let e : n ≡ k = omega arith in
              let (found, reg, op, done) = written_here x (mark_at x.line seen (Some steps.Issue)) steps.Issue other there
              (made_mark x seen usable answer) refl (subst (λ z. IsWrittenAt a.ps seen.slot z other) e written) in
              let both : Made seen usable ≡ Done found = sym answer ∙ done in
              absurd cc
        ],
      )

  -- after a write the content of its slot, at the number after the one that the write found, is the value written
  pub content_written : (x : Played) (seen : Seen) (reg value : ℕ) → Contains a.ps x → x.op ≡ ops.Write reg value → x.answer ≡ Done seen →
      IsContent a.ps seen.slot (number_of seen.found.0 + 1) value
  content_written x seen reg value there op answer =
      let k = number_of seen.found.0 in
      inl (
        k,
        ((x, seen, reg, there, op, answer, refl, refl), omega arith, λ j made low high. omega arith),
        λ j other (written, below, none) low. omega arith,
      )

  -- a slot has one content at a number
  written_once : (s : SlotName) (n v w : ℕ) → IsWrittenAt a.ps s n v → IsWrittenAt a.ps s n w → v ≡ w
  written_once s n v w (q, seen, reg, member, op, answer, slot, number) (r, other, reg', member', op', answer', slot', number') =
      let same = step_once a q r (mark_at q.line seen (Some steps.Write))
      (mark_at r.line other (Some steps.Write)) steps.Write steps.Write h member member'
      (written_mark q seen reg v op answer) (written_mark r other reg' w op' answer') refl refl (slot ∙ sym slot') (number ∙ sym number') in
      let both : ops.Write reg v ≡ ops.Write reg' w = sym op ∙ ap (λ (z : Played). z.op) same ∙ op' in
      cc

  pub content_one : (s : SlotName) (k v w : ℕ) → IsContent a.ps s k v → IsContent a.ps s k w → v ≡ w
  content_one s k v w (inl (n, written, last)) (inl (m, written', last')) = elim (cases_lt n m) [
    | inl less ↦ absurd (last m w written' less)
    | inr more ↦ elim (cases_lt m n) [
      | inl less ↦ absurd (last' n v written less)
      | inr same ↦
          let e : n ≡ m = omega arith in
          written_once s m v w (subst (λ z. IsWrittenAt a.ps s z v) e written.0) written'.0
    ]
  ]
  content_one s k v w (inl (n, written, last)) (inr (zero_value, none)) = absurd (none n v written)
  content_one s k v w (inr (zero_value, none)) (inl (m, written, last)) = absurd (none m w written)
  content_one s k v w (inr (zero_value, none)) (inr (zero_value', none')) = zero_value ∙ sym zero_value'
