-- What is no input has a first fault: reading line by line ends with all lines or at the first faulty one.
use Rattle.std.proofs.Common.{◌≡◌, ℕ, zero, suc, ◌+◌, ◌<◌, ◌≤◌, List, [], ◌∷◌, ◌++◌, length, Result, Ok, Err, ◌⊎◌, inl, inr, refl, ap, ◌∙◌, arith}
use Rattle.std.specs.List.{AllByRecursion}
use Rattle.std.proofs.lemmas.Bool.{cases_eq, cases_lt}
use Rattle.std.proofs.lemmas.List.{length-append}
use Rattle.pa_trace.specs.declared.fault.TraceFault.{TraceFault}
use Rattle.pa_trace.specs.declared.fault.TraceFault.TheVariants.{BadLine, Limit}
use Rattle.pa_trace.specs.declared.field.LineFault.{LineFault}
use Rattle.pa_trace.specs.declared.line.Head.{Head}
use Rattle.pa_trace.specs.declared.script.Trace.{Trace}
use Rattle.pa_trace.specs.declared.script.Line.{Line}
use Rattle.pa_trace.specs.Grammar.{AreLinesText}
use Rattle.pa_trace.specs.Limits.{IsLineWithin, IsInput}
use Rattle.pa_trace.specs.Faults.{lines_of, IsFirstBehind, IsFirstFault}
use Rattle.pa_trace.specs.Reading.{line_in, head_in}
use Rattle.pa_trace.specs.Cut.{IsOneLine, told}
use Rattle.pa_trace.specs.Unread.{trace_with}
use Rattle.pa_trace.proofs.Limits.{line_read, line_not_read}
use Rattle.pa_trace.proofs.Heads.{head_read, head_not_read}
use Rattle.pa_trace.proofs.Behind.{first_past, first_unread, first_later, end_past, end_bad, head_past, head_first_unread, head_later, end_limit, end_badly}

-- ---- the first line of bytes

-- the bytes are one line without an LF, or they are cut at the first LF
abbrev CutOf : List ℕ → Type 0
CutOf bytes = IsOneLine bytes ⊎ ((line after : List ℕ) × IsOneLine line × (bytes ≡ line ++ 10 ∷ after))

cut_more : (b : ℕ) (bytes : List ℕ) → (b ≡ 10 → ⊥) → CutOf bytes → CutOf (b ∷ bytes)
cut_more b bytes other (inl one) = inl (other, one)
cut_more b bytes other (inr cut) = inr (b ∷ cut.0, cut.1, (other, cut.2), ap (λ (x : List ℕ). b ∷ x) cut.3)

cut_at : (bytes : List ℕ) → CutOf bytes
cut_at [] = inl tt
cut_at (b ∷ bytes) =
    elim (cases_eq b 10) [ inl lf ↦ inr ([], bytes, tt, ap (λ (x : ℕ). x ∷ bytes) lf) | inr other ↦ cut_more b bytes other (cut_at bytes) ]

-- ---- the lines after a head

module _ (partitions threads : ℕ) (few : partitions ≤ 4294967296) (few_threads : threads ≤ 4294967296) where
  -- all lines are read, or one is the first faulty one
  abbrev Found : ℕ → ℕ → List ℕ → Type 0
  Found n before bytes =
      ((ls : List Line) × AreLinesText ls bytes × AllByRecursion (IsLineWithin partitions threads) ls × (n + length ls ≤ 65537) ×
      (before + length bytes ≤ 4194304))
      ⊎ ((e : TraceFault) × IsFirstBehind partitions threads n before (lines_of bytes) e)

  found_end : (n before : ℕ) (bytes : List ℕ) → IsOneLine bytes → n ≤ 65537 → before ≤ 4194304 → Found n before bytes
  found_end n before [] one most room = inl ([], refl, tt, omega arith, omega arith)
  found_end n before (b ∷ bytes) one most room =
      elim (cases_lt 65536 n) [
        | inl many ↦ inr (Limit n, end_past partitions threads n before (b ∷ bytes) one (λ e. cc) (inl many))
        | inr fits ↦ elim (cases_lt 4194304 (before + length (b ∷ bytes))) [
          | inl long ↦ inr (Limit n, end_past partitions threads n before (b ∷ bytes) one (λ e. cc) (inr long))
          | inr short ↦ inr (BadLine n, end_bad partitions threads n before (b ∷ bytes) one (λ e. cc) fits short)
        ]
      ]

  found_later : (n before : ℕ) (bytes line after : List ℕ) (l : Line) → IsOneLine line → bytes ≡ line ++ 10 ∷ after → n ≤ 65536 →
      before + (length line + 1) ≤ 4194304
      → line_in partitions threads line ≡ Ok l → Found (n + 1) (before + (length line + 1)) after → Found n before bytes
  found_later n before bytes line after l one parts fits short read (inl rest) =
      let taken : length bytes ≡ length line + (length after + 1) = ap length parts ∙ simp length-append (omega arith) in
      let t = line_read partitions threads few few_threads line l read in
      inl (l ∷ rest.0, (line, after, t.0, rest.1, parts), (t.1, rest.2), omega (arith, rest.3), omega (arith, taken, rest.4))
  found_later n before bytes line after l one parts fits short read (inr rest) =
      let t = line_read partitions threads few few_threads line l read in
      inr (
        rest.0,
        first_later partitions threads n before (n + 1)
            (before + (length line + 1)) bytes line after l rest.0 one parts fits short t.0 t.1 refl refl rest.1,
      )

  found_line : (n before : ℕ) (bytes line after : List ℕ) (r : Result Line LineFault) → IsOneLine line → bytes ≡ line ++ 10 ∷ after →
      n ≤ 65536 → before + (length line + 1) ≤ 4194304
      → line_in partitions threads line ≡ r → Found (n + 1) (before + (length line + 1)) after → Found n before bytes
  found_line n before bytes line after (Ok l) one parts fits short read rest =
      found_later n before bytes line after l one parts fits short read rest
  found_line n before bytes line after (Err d) one parts fits short read rest =
      inr (
        told n d,
        first_unread partitions threads n before bytes line after d one parts fits short
            (line_not_read partitions threads few few_threads line d read),
      )

  found_cut : (n before : ℕ) (bytes line after : List ℕ) → IsOneLine line → bytes ≡ line ++ 10 ∷ after
      → (n ≤ 65536 → before + (length line + 1) ≤ 4194304 → Found (n + 1) (before + (length line + 1)) after) → Found n before bytes
  found_cut n before bytes line after one parts rest =
      elim (cases_lt 65536 n) [
        | inl many ↦ inr (Limit n, first_past partitions threads n before bytes line after one parts (inl many))
        | inr fits ↦ elim (cases_lt 4194304 (before + (length line + 1))) [
          | inl long ↦ inr (Limit n, first_past partitions threads n before bytes line after one parts (inr long))
          | inr short ↦ found_line n before bytes line after (line_in partitions threads line) one parts fits short refl (rest fits short)
        ]
      ]

  found_behind : (most : ℕ) (n before : ℕ) (bytes : List ℕ) → length bytes ≤ most → n ≤ 65537 → before ≤ 4194304 → Found n before bytes
  found_behind zero n before bytes le fits room =
      elim (cut_at bytes) [
        | inl one ↦ found_end n before bytes one fits room
        | inr cut ↦ absurd (omega (arith, ap length cut.3, length-append cut.0 (10 ∷ cut.1)))
      ]
  found_behind (suc most) n before bytes le fits room =
      elim (cut_at bytes) [
        | inl one ↦ found_end n before bytes one fits room
        | inr cut ↦ found_cut n before bytes cut.0 cut.1 cut.2 cut.3 (λ few short.
            found_behind most (n + 1) (before + (length cut.0 + 1)) cut.1 (omega (arith, ap length cut.3, length-append cut.0 (10 ∷ cut.1)))
            (omega arith) short)
      ]

-- ---- all lines

abbrev HasFault : ℕ → List ℕ → Type 0
HasFault known bytes = (e : TraceFault) × IsFirstFault known e bytes

module _ (known : ℕ) (recent : known ≤ 3) where
  abbrev NoInput : List ℕ → Type 0
  NoInput bytes = (t : Trace) → t.version ≤ known → IsInput t bytes → ⊥

  small : known < 4294967296
  small = omega arith

  fault_behind : (bytes line after : List ℕ) (h : Head) → IsOneLine line → bytes ≡ line ++ 10 ∷ after → length line + 1 ≤ 4194304 →
      head_in known line ≡ Ok h
      → NoInput bytes → HasFault known bytes
  fault_behind bytes line after h one parts short read none =
      let t = head_read known small line h read in
      let to = t.2 in
      let taken : length bytes ≡ length line + (length after + 1) = ap length parts ∙ simp length-append (omega arith) in
      elim (found_behind h.partitions h.threads (omega (arith, t.1.1.1)) (omega (arith, t.1.2.1)) (length after) 2 (length line + 1) after
      (omega arith) (omega arith) short) [
        | inl all ↦ absurd (none (trace_with h all.0) to.1 (record {
          limits = record { version = (to.0, omega (arith, to.1)); head = t.1; lines = all.2; few = omega (arith, all.3) };
          text = (line, after, t.0, all.1, parts, (to.0, omega (arith, to.1)));
          short = omega (arith, taken, all.4);
        }))
        | inr first ↦ (first.0, head_later known h (length line + 1) bytes line after first.0 one parts short t.0 t.1 to refl first.1)
      ]

  fault_of_head : (bytes line after : List ℕ) (r : Result Head LineFault) → IsOneLine line → bytes ≡ line ++ 10 ∷ after →
      length line + 1 ≤ 4194304 → head_in known line ≡ r
      → NoInput bytes → HasFault known bytes
  fault_of_head bytes line after (Ok h) one parts short read none = fault_behind bytes line after h one parts short read none
  fault_of_head bytes line after (Err d) one parts short read none =
      (told 1 d, head_first_unread known bytes line after d one parts short (head_not_read known small line d read))

  pub some_fault : (bytes : List ℕ) → NoInput bytes → HasFault known bytes
  some_fault bytes none =
      elim (cut_at bytes) [
        | inl one ↦ elim (cases_lt 4194304 (length bytes))
            [ inl long ↦ (Limit 1, end_limit known bytes one long) | inr short ↦ (BadLine 1, end_badly known bytes one short) ]
        | inr cut ↦ elim (cases_lt 4194304 (length cut.0 + 1)) [
          | inl long ↦ (Limit 1, head_past known bytes cut.0 cut.1 cut.2 cut.3 (inr long))
          | inr short ↦ fault_of_head bytes cut.0 cut.1 (head_in known cut.0) cut.2 cut.3 short refl none
        ]
      ]
