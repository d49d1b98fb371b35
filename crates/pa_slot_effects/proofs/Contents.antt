-- What the records so far say of the contents of the slots, kept by each line.
use Rattle.std.proofs.Common.{◌≡◌, ℕ, ◌+◌, ◌<◌, ◌≤◌, ◌⊎◌, inl, inr, List, [], ◌∷◌, ◌++◌, Some, None, Contains, refl, sym, ap, ◌∙◌, subst, arith}
use Rattle.std.proofs.lemmas.List.Elements.{Contains-append_left, Contains-push, Contains-push_cases}
use Rattle.pa_slot.specs.declared.word.SlotName.{SlotName}
use Rattle.pa_slot.specs.declared.word.Step.{Step}
use Rattle.pa_slot.specs.declared.word.Step.TheVariants as steps
use Rattle.pa_slot.specs.Count.{number_of, held_of, CanStep, stepped}
use Rattle.pa_slot.specs.Run.{Mark}
use Rattle.pa_slot.specs.Runs.{HasRuns}
use Rattle.pa_slot.proofs.Runs.{number_stepped, same_slot_cases, some_is}
use Rattle.pa_trace.specs.declared.script.Op.TheVariants as ops
use Rattle.pa_record.specs.declared.entry.Seen.{Seen}
use Rattle.pa_record.specs.declared.entry.Answer.{Answer}
use Rattle.pa_record.specs.declared.entry.Answer.TheVariants.{Made, Done, Value, Dangling, SecondFree, NotOwner, StaleReset, StaleUse, Nothing, Filled, NotRef, Shared, OutOfRange, TooLarge, Full, Swapped, Purged, Uncounted}
use Rattle.pa_rules.specs.declared.played.Played.{Played}
use Rattle.pa_rules.specs.Played.{mark_at, mark_of, mark_of_answer, marks_of}
use Rattle.pa_rules.specs.Contents.{IsMadeAt, IsWrittenAt, IsWrittenFor, IsContent, IsReadExact, AreExactContents}
use Rattle.pa_slot_effects.specs.Known.{HasNumbers, HasContents}
use Rattle.pa_rules.proofs.Marking.{read_mark}
use Rattle.pa_rules.proofs.Phases.{mark_in}

-- this one record made slot s, or wrote the value to it, and found this number
abbrev pub IsMadeBy : Played → SlotName → ℕ → Type 0
IsMadeBy x s n = (seen : Seen) × (usable : ℕ) × (x.answer ≡ Made seen usable) × (seen.slot ≡ s) × (number_of seen.found.0 ≡ n)

abbrev pub IsWrittenBy : Played → SlotName → ℕ → ℕ → Type 0
IsWrittenBy x s n value =
    (seen : Seen) × (reg : ℕ) × (x.op ≡ ops.Write reg value) × (x.answer ≡ Done seen) × (seen.slot ≡ s) × (number_of seen.found.0 ≡ n)

made_kept : (ps : List Played) (x : Played) (s : SlotName) (n : ℕ) → IsMadeAt ps s n → IsMadeAt (ps ++ x ∷ []) s n
made_kept ps x s n h = (h.0, h.1, h.2, Contains-append_left ps (x ∷ []) h.0 h.3, h.4, h.5, h.6)

written_kept : (ps : List Played) (x : Played) (s : SlotName) (n value : ℕ) → IsWrittenAt ps s n value →
    IsWrittenAt (ps ++ x ∷ []) s n value
written_kept ps x s n value h = (h.0, h.1, h.2, Contains-append_left ps (x ∷ []) h.0 h.3, h.4, h.5, h.6, h.7)

made_cases : (ps : List Played) (x : Played) (s : SlotName) (n : ℕ) → IsMadeAt (ps ++ x ∷ []) s n → IsMadeAt ps s n ⊎ IsMadeBy x s n
made_cases ps x s n h = elim (Contains-push_cases ps x h.0 h.3) [
  | inl a ↦ inl (h.0, h.1, h.2, a, h.4, h.5, h.6)
  | inr e ↦ inr (h.1, h.2, ap (λ (y : Played). y.answer) e ∙ h.4, h.5, h.6)
]

written_cases : (ps : List Played) (x : Played) (s : SlotName) (n value : ℕ) → IsWrittenAt (ps ++ x ∷ []) s n value
    → IsWrittenAt ps s n value ⊎ IsWrittenBy x s n value
written_cases ps x s n value h = elim (Contains-push_cases ps x h.0 h.3) [
  | inl a ↦ inl (h.0, h.1, h.2, a, h.4, h.5, h.6, h.7)
  | inr e ↦ inr (h.1, h.2, ap (λ (y : Played). y.op) e ∙ h.4, ap (λ (y : Played). y.answer) e ∙ h.5, h.6, h.7)
]

-- what such a record reports of the slot
pub made_mark : (x : Played) (s : SlotName) (n : ℕ) → (h : IsMadeBy x s n) → mark_of x ≡ Some (mark_at x.line h.0 (Some steps.Issue))
made_mark x s n h = ap (λ a. mark_of_answer x.line x.op a) h.2

pub written_mark : (x : Played) (s : SlotName) (n value : ℕ) → (h : IsWrittenBy x s n value) →
    mark_of x ≡ Some (mark_at x.line h.0 (Some steps.Write))
written_mark x s n value h =
    ap (λ a. mark_of_answer x.line x.op a) h.3 ∙ ap (λ o. mark_of_answer x.line o (Done h.0)) h.2

counted : (ps : List Played) (word : SlotName → ℕ) → HasRuns (marks_of ps) word →
    (x : Played) (seen : Seen) (step : Step) (s : SlotName) (n : ℕ) → Contains ps x
    → mark_of x ≡ Some (mark_at x.line seen (Some step)) → seen.slot ≡ s → number_of seen.found.0 ≡ n → n < number_of (word s)
counted ps word runs x seen step s n c e at number =
    let m : Mark = mark_at x.line seen (Some step) in
    let P : SlotName → Type 0 = λ t. number_of m.found < number_of (word t) in
    let lt : number_of m.found < number_of (word s) = subst P at (runs.counted m (mark_in ps x m c e) (some_is step)) in
    omega (arith, lt, number)

made_below : (ps : List Played) (word : SlotName → ℕ) → HasRuns (marks_of ps) word → (s : SlotName) (n : ℕ) → IsMadeAt ps s n →
    n < number_of (word s)
made_below ps word runs s n h =
    counted ps word runs h.0 h.1 steps.Issue s n h.3 (made_mark h.0 s n (h.1, h.2, h.4, h.5, h.6)) h.5 h.6

written_below : (ps : List Played) (word : SlotName → ℕ) → HasRuns (marks_of ps) word → (s : SlotName) (n value : ℕ) →
    IsWrittenAt ps s n value → n < number_of (word s)
written_below ps word runs s n value h =
    counted ps word runs h.0 h.1 steps.Write s n h.3 (written_mark h.0 s n value (h.1, h.2, h.4, h.5, h.6, h.7)) h.6 h.7

-- The content at a number is that at a later one, if no record more finds a number below this one, and none at all
-- one from the first number on.
pub record IsQuiet (ps qs : List Played) (s : SlotName) (k l : ℕ) : Type 0 where
  pub up : k ≤ l
  pub made : (n : ℕ) → IsMadeAt ps s n → IsMadeAt qs s n
  pub written : (n value : ℕ) → IsWrittenAt ps s n value → IsWrittenAt qs s n value
  pub made_back : (n : ℕ) → IsMadeAt qs s n → n < l → IsMadeAt ps s n × (n < k)
  pub written_back : (n value : ℕ) → IsWrittenAt qs s n value → n < l → IsWrittenAt ps s n value × (n < k)

content_kept : (ps qs : List Played) (s : SlotName) (k l value : ℕ) → IsQuiet ps qs s k l → IsContent ps s k value → IsContent qs s l value
content_kept ps qs s k l value q h =
    let forth : (n v : ℕ) → IsWrittenFor ps s k n v → IsWrittenFor qs s l n v = λ n v w. (
      q.written n v w.0,
      omega (arith, w.1, q.up),
      λ m made above below. let b = q.made_back m made below in w.2 m b.0 above b.1,
    ) in
    let back : (n v : ℕ) → IsWrittenFor qs s l n v → IsWrittenFor ps s k n v = λ n v w.
    let b = q.written_back n v w.0 w.1 in
    (b.0, b.1, λ m made above below. w.2 m (q.made m made) above (omega (arith, below, q.up))) in
    elim h as (λ x. IsContent qs s l value) [
      | inl c ↦ inl (c.0, forth c.0 value c.1, λ m other w lt. c.2 m other (back m other w) lt)
      | inr z ↦ inr (z.0, λ n other w. z.1 n other (back n other w))
    ]

-- a record more that finds no number of slot s below k
still_quiet : (ps : List Played) (x : Played) (s : SlotName) (k : ℕ) → ((n : ℕ) → IsMadeBy x s n → k ≤ n) →
    ((n value : ℕ) → IsWrittenBy x s n value → k ≤ n)
    → IsQuiet ps (ps ++ x ∷ []) s k k
still_quiet ps x s k made written = record {
  up = omega arith;
  made = made_kept ps x s;
  written = written_kept ps x s;
  made_back = λ n h lt. elim (made_cases ps x s n h) [ inl a ↦ (a, lt) | inr b ↦ absurd (omega (arith, made n b, lt)) ];
  written_back = λ n value h lt. elim (written_cases ps x s n value h)
      [ inl a ↦ (a, lt) | inr b ↦ absurd (omega (arith, written n value b, lt)) ];
}

-- what was read rightly stays so with a record more that finds no number below the slots'
right_kept : (ps : List Played) (x : Played) (a : Answer) →
    ((seen : Seen) (value : ℕ) → a ≡ Value seen value →
    IsQuiet ps (ps ++ x ∷ []) seen.slot (number_of seen.found.0) (number_of seen.found.0))
    → IsReadExact ps a → IsReadExact (ps ++ x ∷ []) a
right_kept ps x (Made seen usable) q h = tt
right_kept ps x (Done seen) q h = tt
right_kept ps x (Value seen value) q h =
    content_kept ps (ps ++ x ∷ []) seen.slot (number_of seen.found.0) (number_of seen.found.0) value (q seen value refl) h
right_kept ps x (Dangling seen value) q h = h
right_kept ps x (SecondFree seen) q h = tt
right_kept ps x (NotOwner seen) q h = tt
right_kept ps x StaleReset q h = tt
right_kept ps x (StaleUse seen) q h = tt
right_kept ps x Nothing q h = tt
right_kept ps x Filled q h = tt
right_kept ps x NotRef q h = tt
right_kept ps x (Shared seen) q h = tt
right_kept ps x OutOfRange q h = tt
right_kept ps x TooLarge q h = tt
right_kept ps x (Full entry) q h = tt
right_kept ps x (Swapped entry) q h = tt
right_kept ps x (Purged slots) q h = tt
right_kept ps x Uncounted q h = tt

-- a record's mark has found the slot's word
abbrev pub HasFound : (SlotName → ℕ) → Played → Type 0
HasFound word x = (m : Mark) → mark_of x ≡ Some m → m.found ≡ word m.slot

-- a record whose one mark has found the slot's word
pub found_by : (word : SlotName → ℕ) (x : Played) (m : Mark) → mark_of x ≡ Some m → m.found ≡ word m.slot → HasFound word x
found_by word x m e found n f =
    let same : m ≡ n = let g : Some m ≡ Some n = sym e ∙ f in cc in
    let P : Mark → Type 0 = λ k. k.found ≡ word k.slot in
    subst P same found

made_late : (word : SlotName → ℕ) (x : Played) (s : SlotName) (n : ℕ) → HasFound word x → IsMadeBy x s n → number_of (word s) ≡ n
made_late word x s n found h =
    let m : Mark = mark_at x.line h.0 (Some steps.Issue) in
    let e : h.0.found.0 ≡ word h.0.slot = found m (made_mark x s n h) in
    ap (λ t. number_of (word t)) (sym h.3) ∙ ap number_of (sym e) ∙ h.4

written_late : (word : SlotName → ℕ) (x : Played) (s : SlotName) (n value : ℕ) → HasFound word x → IsWrittenBy x s n value →
    number_of (word s) ≡ n
written_late word x s n value found h =
    let m : Mark = mark_at x.line h.0 (Some steps.Write) in
    let e : h.0.found.0 ≡ word h.0.slot = found m (written_mark x s n value h) in
    ap (λ t. number_of (word t)) (sym h.4) ∙ ap number_of (sym e) ∙ h.5

-- if k isn't above the number of s, one more record that found its slot's word makes or writes s at no number below k
quiet_upto : (ps : List Played) (x : Played) (word : SlotName → ℕ) (s : SlotName) (k : ℕ) → HasFound word x → k ≤ number_of (word s)
    → IsQuiet ps (ps ++ x ∷ []) s k k
quiet_upto ps x word s k found le =
    still_quiet ps x s k (λ n h. omega (arith, made_late word x s n found h, le))
    (λ n value h. omega (arith, written_late word x s n value found h, le))

-- the values read, with a record more
read_push : (ps : List Played) (x : Played) (line : ℕ) (word : SlotName → ℕ) → HasNumbers (marks_of ps) line word
    → HasFound word x → AreExactContents ps → IsReadExact (ps ++ x ∷ []) x.answer → AreExactContents (ps ++ x ∷ [])
read_push ps x line word numbers found right here p c = elim (Contains-push_cases ps x p c) as (λ w. IsReadExact (ps ++ x ∷ []) p.answer) [
  | inl a ↦ right_kept ps x p.answer
      (λ seen value e.
      let m : Mark = mark_at p.line seen None in
      let le : number_of seen.found.0 ≤ number_of (word seen.slot) = numbers.found m (mark_in ps p m a (read_mark p seen value e)) in
      quiet_upto ps x word seen.slot (number_of seen.found.0) found le)
      (right p a)
  | inr e ↦ let P : Played → Type 0 = λ y. IsReadExact (ps ++ x ∷ []) y.answer in subst P e here
]

-- the content of a slot that this record doesn't step
pub content_same : (ps : List Played) (x : Played) (word content : SlotName → ℕ) (s : SlotName) → HasContents ps word content →
    HasFound word x
    → held_of (word s) ≡ 1 → IsContent (ps ++ x ∷ []) s (number_of (word s)) (content s)
content_same ps x word content s h found held =
    content_kept ps (ps ++ x ∷ []) s (number_of (word s)) (number_of (word s)) (content s)
    (quiet_upto ps x word s (number_of (word s)) found (omega arith))
    (h.held s held)

-- no records
pub contents_none : HasContents [] (λ s. 0) (λ s. 0)
contents_none = record {
  held = λ s h. absurd (omega (arith, h));
  read = λ p c. absurd (omega (arith, c.1));
}

-- a record that steps no slot
pub contents_same : (ps : List Played) (x : Played) (line : ℕ) (word content : SlotName → ℕ) → HasNumbers (marks_of ps) line word
    → HasContents ps word content → HasFound word x → IsReadExact (ps ++ x ∷ []) x.answer → HasContents (ps ++ x ∷ []) word content
contents_same ps x line word content numbers h found read = record {
  held = λ s held. content_same ps x word content s h found held;
  read = read_push ps x line word numbers found h.read read;
}

-- a record that steps slot s
pub contents_step : (ps : List Played) (x : Played) (line : ℕ) (word content next now : SlotName → ℕ) (s : SlotName) →
    HasNumbers (marks_of ps) line word
    → HasContents ps word content → HasFound word x
    → ((t : SlotName) → (t ≡ s → ⊥) → next t ≡ word t) → ((t : SlotName) → (t ≡ s → ⊥) → now t ≡ content t)
    → (held_of (next s) ≡ 1 → IsContent (ps ++ x ∷ []) s (number_of (next s)) (now s))
    → IsReadExact (ps ++ x ∷ []) x.answer → HasContents (ps ++ x ∷ []) next now
contents_step ps x line word content next now s numbers h found words values here read = record {
  held = λ t held. elim (same_slot_cases t s) [
    | inl q ↦
        let P : SlotName → Type 0 = λ n. IsContent (ps ++ x ∷ []) n (number_of (next n)) (now n) in
        subst P (sym q) (here (ap (λ n. held_of (next n)) (sym q) ∙ held))
    | inr ne ↦ rw (words t ne, values t ne) (content_same ps x word content t h found (ap held_of (sym (words t ne)) ∙ held))
  ];
  read = read_push ps x line word numbers found h.read read;
}

-- the step p of slot s, whose word was w
pub record StepsTo (s : SlotName) (p : Step) (w : ℕ) (word after : SlotName → ℕ) : Type 0 where
  pub found : w ≡ word s
  pub can : CanStep p w
  pub next : after s ≡ stepped p w
  pub others : (t : SlotName) → (t ≡ s → ⊥) → after t ≡ word t

-- a slot that is made has the content 0 after its step
pub content_made : (ps : List Played) (x : Played) (word next : SlotName → ℕ) (seen : Seen) (usable : ℕ)
    → HasRuns (marks_of ps) word → x.answer ≡ Made seen usable → StepsTo seen.slot steps.Issue seen.found.0 word next
    → IsContent (ps ++ x ∷ []) seen.slot (number_of (next seen.slot)) 0
content_made ps x word next seen usable runs e st =
    let s = seen.slot in
    let up : number_of (next s) ≡ number_of seen.found.0 + 1 = ap number_of st.next ∙ number_stepped steps.Issue seen.found.0 st.can in
    let number : number_of (word s) ≡ number_of seen.found.0 = ap number_of (sym st.found) in
    inr (
      refl,
      λ n other w. elim (written_cases ps x s n other w.0) [
        | inl a ↦
            let lt = written_below ps word runs s n other a in
            w.2 (number_of seen.found.0) (x, seen, usable, Contains-push ps x, e, refl, refl) (omega (arith, lt, number))
            (omega (arith, up))
        | inr b ↦
            let bad : Made seen usable ≡ Done b.0 = sym e ∙ b.3 in
            absurd cc
      ],
    )

-- a slot that is written has the value after its step
pub content_written : (ps : List Played) (x : Played) (word next : SlotName → ℕ) (seen : Seen) (reg value : ℕ)
    → x.op ≡ ops.Write reg value → x.answer ≡ Done seen
    → StepsTo seen.slot steps.Write seen.found.0 word next → IsContent (ps ++ x ∷ []) seen.slot (number_of (next seen.slot)) value
content_written ps x word next seen reg value op e st =
    let up : number_of (next seen.slot) ≡ number_of seen.found.0 + 1 = ap number_of st.next ∙
    number_stepped steps.Write seen.found.0 st.can in
    inl (
      number_of seen.found.0,
      ((x, seen, reg, Contains-push ps x, op, e, refl, refl), omega (arith, up), λ m made above below. omega (arith, up, above, below)),
      λ m other w lt. omega (arith, up, w.1, lt),
    )

-- a record that neither makes nor writes a slot
abbrev pub IsNeither : Played → Type 0
IsNeither x = ((s : SlotName) (n : ℕ) → IsMadeBy x s n → ⊥) × ((s : SlotName) (n value : ℕ) → IsWrittenBy x s n value → ⊥)

-- a slot that stays held keeps its content over a step of another kind
pub content_stays : (ps : List Played) (x : Played) (word content next : SlotName → ℕ) (s : SlotName) (w : ℕ) (p : Step)
    → HasRuns (marks_of ps) word → HasContents ps word content → IsNeither x → held_of (word s) ≡ 1
    → StepsTo s p w word next → IsContent (ps ++ x ∷ []) s (number_of (next s)) (content s)
content_stays ps x word content next s w p runs h none held st =
    let up : number_of (next s) ≡ number_of (word s) + 1 = ap number_of st.next ∙ number_stepped p w st.can ∙
    ap (λ x. number_of x + 1) st.found in
    let quiet : IsQuiet ps (ps ++ x ∷ []) s (number_of (word s)) (number_of (next s)) = record {
      up = omega (arith, up);
      made = made_kept ps x s;
      written = written_kept ps x s;
      made_back = λ n h lt. elim (made_cases ps x s n h) [
        | inl a ↦ (a, made_below ps word runs s n a)
        | inr b ↦ absurd (none.0 s n b)
      ];
      written_back = λ n v h lt. elim (written_cases ps x s n v h) [
        | inl a ↦ (a, written_below ps word runs s n v a)
        | inr b ↦ absurd (none.1 s n v b)
      ];
    } in
    content_kept ps (ps ++ x ∷ []) s (number_of (word s)) (number_of (next s)) (content s) quiet (h.held s held)

-- a slot that was held before its step if it is held after
pub held_before : (p : Step) (w : ℕ) → (p ≡ steps.Issue → ⊥) → held_of (stepped p w) ≡ 1 → CanStep p w → held_of w ≡ 1
held_before steps.Issue w ne h c = absurd (ne refl)
held_before steps.Copy w ne h c = omega (arith, h)
held_before steps.Reset w ne h c = omega (arith, h, c)
held_before steps.Free w ne h c = omega (arith, h, c)
held_before steps.Write w ne h c = omega (arith, h)

-- a freed slot isn't held
pub freed : (w : ℕ) → CanStep steps.Free w → held_of (stepped steps.Free w) ≡ 1 → ⊥
freed w c h = omega (arith, h, c)
