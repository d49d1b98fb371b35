-- The first faulty line, as the reader comes to it: a line that is read carries on the faults of the rest, and one that is
-- not read is the first faulty one.
use Rattle.std.proofs.Common.{◌≡◌, ℕ, ◌+◌, ◌-◌, ◌<◌, ◌≤◌, List, [], ◌∷◌, ◌++◌, length, ◌⊎◌, inl, inr, refl, sym, ap, subst, ◌∙◌, arith}
use Rattle.std.proofs.lemmas.Bool.{cases_lt}
use Rattle.std.proofs.lemmas.List.{length_push, same_from_push}
use Rattle.pa_trace.specs.declared.fault.TraceFault.{TraceFault}
use Rattle.pa_trace.specs.declared.fault.TraceFault.TheVariants.{BadLine, Limit, OutOfMemory}
use Rattle.pa_trace.specs.declared.field.LineFault.{LineFault}
use Rattle.pa_trace.specs.declared.field.LineFault.TheVariants.{Outside, Past}
use Rattle.pa_trace.specs.declared.line.Head.{Head}
use Rattle.pa_trace.specs.declared.script.Line.{Line}
use Rattle.pa_trace.specs.Grammar.{IsVersionTo, IsHeadText, IsLineText}
use Rattle.pa_trace.specs.Limits.{IsHeadWithin, IsLineWithin}
use Rattle.pa_trace.specs.Faults.{lines_of, IsPast, IsBodyLine, IsHeadLine, IsBadLine, IsBadHead, IsFirstBehind, IsFirstOf, IsFirstFault, IsFault}
use Rattle.pa_trace.specs.Cut.{IsOneLine, told}
use Rattle.pa_trace.proofs.Limits.{IsNotRead}
use Rattle.pa_trace.proofs.Heads.{IsHeadNotRead}
use Rattle.pa_trace.proofs.Cuts.{cut_lines, last_line, no_lines, no_cut}

-- ---- the length of a line and its text

past_line : (n before : ℕ) (line : List ℕ) → (65536 < n) ⊎ (4194304 < before + (length line + 1)) → IsPast n before (line ++ 10 ∷ [])
past_line n before line (inl many) = inl many
past_line n before line (inr long) = inr (omega (arith, length_push line 10))

pub not_past : (n before : ℕ) (line : List ℕ) → n ≤ 65536 → before + (length line + 1) ≤ 4194304 → IsPast n before (line ++ 10 ∷ []) → ⊥
not_past n before line few short (inl many) = omega arith
not_past n before line few short (inr long) = omega (arith, length_push line 10)

pub body_text : (l : Line) (line : List ℕ) → IsBodyLine l (line ++ 10 ∷ []) → IsLineText l line
body_text l line h = subst (λ (x : List ℕ). IsLineText l x) (sym (same_from_push line h.0 10 10 h.2).0) h.1

pub head_text : (known : ℕ) (head : Head) (line : List ℕ) → IsHeadLine known head (line ++ 10 ∷ []) → IsHeadText head line
head_text known head line h = subst (λ (x : List ℕ). IsHeadText head x) (sym (same_from_push line h.0 10 10 h.2).0) h.1

pub cut_of : (bytes line after : List ℕ) → IsOneLine line → bytes ≡ line ++ 10 ∷ after → lines_of bytes ≡ (line ++ 10 ∷ []) ∷ lines_of after
cut_of bytes line after one e = ap lines_of e ∙ cut_lines line after one

-- ---- lines after a head

module _ (partitions threads : ℕ) where
  -- a line that is past
  pub first_past : (n before : ℕ) (bytes line after : List ℕ) → IsOneLine line → bytes ≡ line ++ 10 ∷ after → (65536 < n) ⊎
      (4194304 < before + (length line + 1))
      → IsFirstBehind partitions threads n before (lines_of bytes) (Limit n)
  first_past n before bytes line after one e past =
      subst (λ (x : List (List ℕ)). IsFirstBehind partitions threads n before x (Limit n)) (sym (cut_of bytes line after one e))
      (inl (refl, inl (past_line n before line past)))

  unread_here : (n before : ℕ) (line : List ℕ) (lines : List (List ℕ)) (d : LineFault) → (IsPast n before (line ++ 10 ∷ []) → ⊥) →
      IsNotRead partitions threads d line
      → IsFirstBehind partitions threads n before ((line ++ 10 ∷ []) ∷ lines) (told n d)
  unread_here n before line lines Outside none out = inl (refl, none, λ l h. out l (body_text l line h))
  unread_here n before line lines Past none over = inl (refl, inr (over.0, (line, over.1, refl), over.2))

  -- a line that is not past and is not read
  pub first_unread : (n before : ℕ) (bytes line after : List ℕ) (d : LineFault) → IsOneLine line → bytes ≡ line ++ 10 ∷ after → n ≤ 65536 →
      before + (length line + 1) ≤ 4194304
      → IsNotRead partitions threads d line → IsFirstBehind partitions threads n before (lines_of bytes) (told n d)
  first_unread n before bytes line after d one e few short unread =
      subst (λ (x : List (List ℕ)). IsFirstBehind partitions threads n before x (told n d)) (sym (cut_of bytes line after one e))
      (unread_here n before line (lines_of after) d (not_past n before line few short) unread)

  -- a line that is read
  pub first_later : (n before m behind : ℕ) (bytes line after : List ℕ) (l : Line) (e : TraceFault) → IsOneLine line → bytes ≡ line ++
      10 ∷ after → n ≤ 65536 → before + (length line + 1) ≤ 4194304
      → IsLineText l line → IsLineWithin partitions threads l → m ≡ n + 1 → behind ≡ before + (length line + 1)
      → IsFirstBehind partitions threads m behind (lines_of after) e → IsFirstBehind partitions threads n before (lines_of bytes) e
  first_later n before m behind bytes line after l e one parts few short text within next far h =
      let place : behind ≡ before + length (line ++ 10 ∷ []) = omega (arith, far, length_push line 10) in
      let there : IsFirstBehind partitions threads (n + 1) (before + length (line ++ 10 ∷ [])) (lines_of after) e =
      subst (λ (x : ℕ). IsFirstBehind partitions threads x (before + length (line ++ 10 ∷ [])) (lines_of after) e) next
      (subst (λ (x : ℕ). IsFirstBehind partitions threads m x (lines_of after) e) place h) in
      subst (λ (x : List (List ℕ)). IsFirstBehind partitions threads n before x e) (sym (cut_of bytes line after one parts))
      (inr (l, (line, text, refl), within, not_past n before line few short, there))

  -- a last line without an LF
  bad_end : (line : List ℕ) → IsOneLine line → IsBadLine line
  bad_end line one l h = no_cut line h.0 [] one h.2

  pub end_past : (n before : ℕ) (line : List ℕ) → IsOneLine line → (line ≡ [] → ⊥) → IsPast n before line →
      IsFirstBehind partitions threads n before (lines_of line) (Limit n)
  end_past n before line one some' past =
      subst (λ (x : List (List ℕ)). IsFirstBehind partitions threads n before x (Limit n)) (sym (last_line line one some'))
      (inl (refl, inl past))

  pub end_bad : (n before : ℕ) (line : List ℕ) → IsOneLine line → (line ≡ [] → ⊥) → n ≤ 65536 → before + length line ≤ 4194304 →
      IsFirstBehind partitions threads n before (lines_of line) (BadLine n)
  end_bad n before line one some' few short =
      subst (λ (x : List (List ℕ)). IsFirstBehind partitions threads n before x (BadLine n)) (sym (last_line line one some'))
      (inl (refl, (λ past. elim past [ inl many ↦ omega arith | inr long ↦ omega arith ]), bad_end line one))

  -- a last line without an LF, and what is reported of it
  pub first_end : (n before : ℕ) (line : List ℕ) (e : TraceFault) → IsOneLine line → (line ≡ [] → ⊥)
      → ((65536 < n) ⊎ (4194304 < before + length line) → e ≡ Limit n) → (n ≤ 65536 → before + length line ≤ 4194304 → e ≡ BadLine n)
      → IsFirstBehind partitions threads n before (lines_of line) e
  first_end n before line e one some' past bad =
      let as_limit : (65536 < n) ⊎ (4194304 < before + length line) → IsFirstBehind partitions threads n before (lines_of line) e =
      λ h. subst (λ (x : TraceFault). IsFirstBehind partitions threads n before (lines_of line) x) (sym (past h))
      (end_past n before line one some' h) in
      elim (cases_lt 65536 n) [
        | inl many ↦ as_limit (inl many)
        | inr few ↦ elim (cases_lt 4194304 (before + length line)) [
          | inl long ↦ as_limit (inr long)
          | inr short ↦ subst (λ (x : TraceFault). IsFirstBehind partitions threads n before (lines_of line) x) (sym (bad few short))
              (end_bad n before line one some' few short)
        ]
      ]

-- ---- the head

-- the first fault is why bytes aren't read
pub first_is_fault : (known : ℕ) (e : TraceFault) (bytes : List ℕ) → IsFirstFault known e bytes → IsFault known e bytes
first_is_fault known (BadLine n) bytes h = h
first_is_fault known (Limit n) bytes h = h
first_is_fault known OutOfMemory bytes h = tt

module _ (known : ℕ) where
  pub head_past : (bytes line after : List ℕ) → IsOneLine line → bytes ≡ line ++ 10 ∷ after → (65536 < 1) ⊎ (4194304 < length line + 1) →
      IsFirstFault known (Limit 1) bytes
  head_past bytes line after one e past =
      subst (λ (x : List (List ℕ)). IsFirstOf known x (Limit 1)) (sym (cut_of bytes line after one e))
      (inl (refl, inl (past_line 1 0 line (elim past [ inl many ↦ inl many | inr long ↦ inr (omega arith) ]))))

  head_unread_here : (line : List ℕ) (lines : List (List ℕ)) (d : LineFault) → (IsPast 1 0 (line ++ 10 ∷ []) → ⊥) →
      IsHeadNotRead known d line
      → IsFirstOf known ((line ++ 10 ∷ []) ∷ lines) (told 1 d)
  head_unread_here line lines Outside none out = inl (refl, none, λ head h. out head h.3 (head_text known head line h))
  head_unread_here line lines Past none over = inl (refl, inr (over.0, (line, over.2, refl, over.1), over.3))

  pub head_first_unread : (bytes line after : List ℕ) (d : LineFault) → IsOneLine line → bytes ≡ line ++ 10 ∷ after →
      length line + 1 ≤ 4194304
      → IsHeadNotRead known d line → IsFirstFault known (told 1 d) bytes
  head_first_unread bytes line after d one e short unread =
      subst (λ (x : List (List ℕ)). IsFirstOf known x (told 1 d)) (sym (cut_of bytes line after one e))
      (head_unread_here line (lines_of after) d (not_past 1 0 line (omega arith) (omega arith)) unread)

  pub head_unread : (bytes line after : List ℕ) (d : LineFault) → IsOneLine line → bytes ≡ line ++ 10 ∷ after → length line + 1 ≤ 4194304
      → IsHeadNotRead known d line → IsFault known (told 1 d) bytes
  head_unread bytes line after d one e short unread =
      first_is_fault known (told 1 d) bytes (head_first_unread bytes line after d one e short unread)

  pub head_later : (head : Head) (behind : ℕ) (bytes line after : List ℕ) (e : TraceFault) → IsOneLine line → bytes ≡ line ++ 10 ∷ after →
      length line + 1 ≤ 4194304
      → IsHeadText head line → IsHeadWithin head → IsVersionTo known head.version → behind ≡ length line + 1
      → IsFirstBehind head.partitions head.threads 2 behind (lines_of after) e → IsFirstFault known e bytes
  head_later head behind bytes line after e one parts short text within to far h =
      let place : behind ≡ length (line ++ 10 ∷ []) = omega (arith, far, length_push line 10) in
      let there : IsFirstBehind head.partitions head.threads 2 (length (line ++ 10 ∷ [])) (lines_of after) e =
      subst (λ (x : ℕ). IsFirstBehind head.partitions head.threads 2 x (lines_of after) e) place h in
      subst (λ (x : List (List ℕ)). IsFirstOf known x e) (sym (cut_of bytes line after one parts))
      (inr (head, (line, text, refl, to), within, not_past 1 0 line (omega arith) (omega arith), there))

  no_head : (bytes : List ℕ) → IsOneLine bytes → IsBadHead known bytes
  no_head bytes one head h = no_cut bytes h.0 [] one h.2

  -- bytes without an LF: one line, or none
  pub end_limit : (bytes : List ℕ) → IsOneLine bytes → 4194304 < length bytes → IsFirstFault known (Limit 1) bytes
  end_limit [] one long = absurd (omega arith)
  end_limit (b ∷ bytes) one long =
      subst (λ (x : List (List ℕ)). IsFirstOf known x (Limit 1)) (sym (last_line (b ∷ bytes) one (λ e. cc)))
      (inl (refl, inl (inr (omega arith))))

  pub end_badly : (bytes : List ℕ) → IsOneLine bytes → length bytes ≤ 4194304 → IsFirstFault known (BadLine 1) bytes
  end_badly [] one short = subst (λ (x : List (List ℕ)). IsFirstOf known x (BadLine 1)) (sym no_lines) refl
  end_badly (b ∷ bytes) one short =
      subst (λ (x : List (List ℕ)). IsFirstOf known x (BadLine 1)) (sym (last_line (b ∷ bytes) one (λ e. cc)))
      (inl (refl, (λ past. elim past [ inl many ↦ omega arith | inr long ↦ omega arith ]), no_head (b ∷ bytes) one))

  pub head_end : (bytes : List ℕ) (e : TraceFault) → IsOneLine bytes → ((65536 < 1) ⊎ (4194304 < length bytes) → e ≡ Limit 1)
      → (1 ≤ 65536 → length bytes ≤ 4194304 → e ≡ BadLine 1) → IsFault known e bytes
  head_end bytes e one past bad =
      elim (cases_lt 4194304 (length bytes)) [
        | inl long ↦ subst (λ (x : TraceFault). IsFault known x bytes) (sym (past (inr long))) (end_limit bytes one long)
        | inr short ↦ subst (λ (x : TraceFault). IsFault known x bytes) (sym (bad (omega arith) short)) (end_badly bytes one short)
      ]

-- ---- what the reader knows of the room that is left

pub over_room : (n left len : ℕ) → left ≤ 4194304 → (65536 < n) ⊎ (left < len) → (65536 < n) ⊎ (4194304 < 4194304 - left + len)
over_room n left len most (inl many) = inl many
over_room n left len most (inr long) = inr (omega arith)

pub in_room : (n left len : ℕ) → left ≤ 4194304 → (65536 < n) ⊎ (4194304 < 4194304 - left + len) → (65536 < n) ⊎ (left < len)
in_room n left len most (inl many) = inl many
in_room n left len most (inr long) = inr (omega arith)

pub under_room : (n left len : ℕ) → ((65536 < n) ⊎ (left < len) → ⊥) → (n ≤ 65536) × (len ≤ left)
under_room n left len none =
    elim (cases_lt 65536 n) [
      | inl many ↦ absurd (none (inl many))
      | inr few ↦ elim (cases_lt left len) [ inl long ↦ absurd (none (inr long)) | inr short ↦ (few, short) ]
    ]
