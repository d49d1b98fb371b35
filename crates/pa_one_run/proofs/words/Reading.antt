-- What a record reads is the content that the records before it leave, so two runs read the same.
use Rattle.std.proofs.Common.{◌≡◌, ℕ, ◌<◌, List, ◌∷◌, ◌++◌, Some, None, refl, sym, ◌∙◌, ap, subst, arith, inl, inr}
use Rattle.std.specs.Prelude.{Contains}
use Rattle.std.proofs.lemmas.Bool.{cases_lt}
use Rattle.pa_slot.specs.declared.word.SlotName.{SlotName}
use Rattle.pa_slot.specs.Count.{number_of}
use Rattle.pa_slot.specs.Run.{Mark, IsFirstAt}
use Rattle.pa_slot.specs.declared.word.Step.TheVariants as steps
use Rattle.pa_trace.specs.declared.script.Op.TheVariants as ops
use Rattle.pa_record.specs.declared.entry.Seen.{Seen}
use Rattle.pa_record.specs.declared.entry.Answer.TheVariants.{Made, Done, Value}
use Rattle.pa_rules.specs.declared.played.Played.{Played}
use Rattle.pa_rules.specs.Played.{mark_of, marks_of, mark_at}
use Rattle.pa_rules.specs.Contents.{IsMadeAt, IsWrittenAt, IsWrittenFor, IsContent, IsReadExact}
use Rattle.pa_rules.specs.FileOrder.{steps_before}
use Rattle.pa_rules.proofs.Marking.{mark_line, read_mark}
use Rattle.pa_rules.proofs.Running.{first_line, same_word}
use Rattle.pa_rules.proofs.Phases.{mark_in}
use Rattle.pa_rules.proofs.Rising.{steps_rise}
use Rattle.pa_one_run.proofs.Filed.{IsFiled}
use Rattle.pa_lists.proofs.Elements.{in_middle, in_front}
use Rattle.pa_one_run.specs.Parts.{Parts}
use Rattle.pa_one_run.proofs.lines.Cuts.{same_played, early_in, cut_here}

-- ---- a record that found a lesser number of the slot comes before

pub stands_before : (a : Parts) (before rest : List Played) (x q : Played) (m n : Mark) → IsFiled a → a.ps ≡ before ++ x ∷ rest →
    mark_of x ≡ Some m → Contains a.ps q → mark_of q ≡ Some n →
    n.slot ≡ m.slot → number_of n.found < number_of m.found → Contains before q
stands_before a before rest x q m n h parts is member is' slot less = elim (cases_lt q.line x.line) [
  | inl early ↦ early_in a x.line before (x ∷ rest) q (cut_here a before rest x h parts) member early
  | inr late ↦
      let b = mark_line x m is in
      let c = mark_line q n is' in
      let up = steps_rise m.slot m.line n.line (marks_of a.ps) (omega arith) in
      let d = h.order.numbers m (mark_in a.ps x m (in_middle before rest a.ps x parts) is) in
      let e = h.order.numbers n (mark_in a.ps q n member is') in
      let f : steps_before n.slot n.line (marks_of a.ps) ≡ steps_before m.slot n.line (marks_of a.ps) =
      ap (λ s. steps_before s n.line (marks_of a.ps)) slot in
      absurd (omega arith)
]

-- ---- the marks of what made, wrote and read

pub made_mark : (q : Played) (seen : Seen) (usable : ℕ) → q.answer ≡ Made seen usable →
    mark_of q ≡ Some (mark_at q.line seen (Some steps.Issue))
made_mark q seen usable e = rw e refl

pub written_mark : (q : Played) (seen : Seen) (reg value : ℕ) → q.op ≡ ops.Write reg value → q.answer ≡ Done seen →
    mark_of q ≡ Some (mark_at q.line seen (Some steps.Write))
written_mark q seen reg value op e = rw (e, op) refl

-- ---- the content before a record that reads

module _ (a : Parts) (before rest : List Played) (x : Played) (seen : Seen) (v : ℕ) (h : IsFiled a) (parts : a.ps ≡ before ++ x ∷ rest)
    (reads : x.answer ≡ Value seen v) where
  made_before : (m : ℕ) → IsMadeAt a.ps seen.slot m → m < number_of seen.found.0 → IsMadeAt before seen.slot m
  made_before m (q, other, usable, member, answer, slot, number) less = (
    q,
    other,
    usable,
    stands_before a before rest x q (mark_at x.line seen None) (mark_at q.line other (Some steps.Issue)) h parts
        (read_mark x seen v reads) member (made_mark q other usable answer) slot (omega arith),
    answer,
    slot,
    number,
  )

  made_there : (m : ℕ) → IsMadeAt before seen.slot m → IsMadeAt a.ps seen.slot m
  made_there m (q, other, usable, member, answer, slot, number) =
      (q, other, usable, in_front before (x ∷ rest) a.ps q parts member, answer, slot, number)

  written_before : (n value : ℕ) → IsWrittenFor a.ps seen.slot (number_of seen.found.0) n value →
      IsWrittenFor before seen.slot (number_of seen.found.0) n value
  written_before n value ((q, other, reg, member, op, answer, slot, number), less, none) = (
    (
      q,
      other,
      reg,
      stands_before a before rest x q (mark_at x.line seen None) (mark_at q.line other (Some steps.Write)) h parts
          (read_mark x seen v reads) member (written_mark q other reg value op answer) slot (omega arith),
      op,
      answer,
      slot,
      number,
    ),
    less,
    λ m made. none m (made_there m made),
  )

  written_there : (n value : ℕ) → IsWrittenFor before seen.slot (number_of seen.found.0) n value →
      IsWrittenFor a.ps seen.slot (number_of seen.found.0) n value
  written_there n value ((q, other, reg, member, op, answer, slot, number), less, none) = (
    (q, other, reg, in_front before (x ∷ rest) a.ps q parts member, op, answer, slot, number),
    less,
    λ m made low high. none m (made_before m made high) low high,
  )

  content_read : IsContent a.ps seen.slot (number_of seen.found.0) v
  content_read = subst (λ z. IsReadExact a.ps z) reads (h.order.contents x (in_middle before rest a.ps x parts))

  pub content_before : IsContent before seen.slot (number_of seen.found.0) v
  content_before = elim content_read [
    | inl (n, written, last) ↦ inl (n, written_before n v written, λ m other w. last m other (written_there m other w))
    | inr (zero_value, none) ↦ inr (zero_value, λ n other w. none n other (written_there n other w))
  ]

-- ---- one content

-- one number of a slot was written once
written_once : (a : Parts) (before rest : List Played) (s : SlotName) (n v w : ℕ) → IsFiled a → a.ps ≡ before ++ rest →
    IsWrittenAt before s n v → IsWrittenAt before s n w → v ≡ w
written_once a before rest s n v w h parts (q, seen, reg, member, op, answer, slot, number)
    (r, other, reg', member', op', answer', slot', number') =
    let (vs, run, one) = h.slots s in
    let there : Contains a.ps q = in_front before rest a.ps q parts member in
    let there' : Contains a.ps r = in_front before rest a.ps r parts member' in
    let among = mark_in a.ps q (mark_at q.line seen (Some steps.Write)) there (written_mark q seen reg v op answer) in
    let among' = mark_in a.ps r (mark_at r.line other (Some steps.Write)) there' (written_mark r other reg' w op' answer') in
    let word = same_word (marks_of a.ps) s 0 vs seen.found.0 other.found.0 run
    (one.found (mark_at q.line seen (Some steps.Write)) among slot) (one.found (mark_at r.line other (Some steps.Write)) among' slot')
    (number ∙ sym number') in
    let (first, can) = one.used (mark_at q.line seen (Some steps.Write)) steps.Write among slot refl in
    let (first', can') = one.used (mark_at r.line other (Some steps.Write)) steps.Write among' slot' refl in
    let line = first_line (marks_of a.ps) s other.found.0 (mark_at q.line seen (Some steps.Write))
    (mark_at r.line other (Some steps.Write)) steps.Write steps.Write
    (subst (λ z. IsFirstAt (marks_of a.ps) s z (mark_at q.line seen (Some steps.Write)) steps.Write) word first) first' in
    let same : q ≡ r = same_played a q r h there there' line in
    let ops' : ops.Write reg v ≡ ops.Write reg' w = sym op ∙ ap (λ (z : Played). z.op) same ∙ op' in
    cc

content_one : (a : Parts) (before rest : List Played) (s : SlotName) (k v w : ℕ) → IsFiled a → a.ps ≡ before ++ rest →
    IsContent before s k v → IsContent before s k w → v ≡ w
content_one a before rest s k v w h parts (inl (n, written, last)) (inl (m, written', last')) = elim (cases_lt n m) [
  | inl less ↦ absurd (last m w written' less)
  | inr more ↦ elim (cases_lt m n) [
    | inl less ↦ absurd (last' n v written less)
    | inr same ↦
        let e : n ≡ m = omega arith in
        written_once a before rest s m v w h parts (subst (λ z. IsWrittenAt before s z v) e written.0) written'.0
  ]
]
content_one a before rest s k v w h parts (inl (n, written, last)) (inr (zero_value, none)) = absurd (none n v written)
content_one a before rest s k v w h parts (inr (zero_value, none)) (inl (m, written, last)) = absurd (none m w written)
content_one a before rest s k v w h parts (inr (zero_value, none)) (inr (zero_value', none')) = zero_value ∙ sym zero_value'

pub values_agree : (a b : Parts) (before rest rest' : List Played) (x y : Played) (seen : Seen) (v w : ℕ) → IsFiled a → IsFiled b →
    a.ps ≡ before ++ x ∷ rest → b.ps ≡ before ++ y ∷ rest' →
    x.answer ≡ Value seen v → y.answer ≡ Value seen w → v ≡ w
values_agree a b before rest rest' x y seen v w h k parts parts' is is' =
    content_one a before (x ∷ rest) seen.slot (number_of seen.found.0) v w h parts (content_before a before rest x seen v h parts is)
    (content_before b before rest' y seen w k parts' is')
