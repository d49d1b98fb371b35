-- The records of an execution, merged by the trace's lines: their lines are the trace's, and those of a thread in a turn are its own.
use Rattle.std.proofs.Common.{◌≡◌, ℕ, Bool, true, false, List, [], ◌∷◌, ◌++◌, map, take, drop, filter, refl, sym, ◌∙◌, ap, subst, inl, inr}
use Rattle.std.specs.Prelude.{Contains}
use Rattle.std.proofs.lemmas.Bool.{cases_Bool, eq-eqb, eqb-true}
use Rattle.pa_lists.proofs.Members.{first_in, later_in}
use Rattle.pa_rules.specs.Played.{OpLine, op_line_of}
use Rattle.pa_logs.specs.Told.{ToldRecord, played_in}
use Rattle.pa_execution.specs.Turns.{Manner, turn_of, is_line_in}
use Rattle.pa_execution.specs.Merged.{without_line, merged_by_lines}
use Rattle.pa_lists.proofs.Tests.{both_true}

-- the op lines of annotated records
abbrev pub lines_told : List ToldRecord → List OpLine
lines_told xs = map op_line_of (played_in xs)

-- records with this first line
record Begun (xs : List ToldRecord) (o : OpLine) (ls : List OpLine) : Type 0 where
  first : ToldRecord
  rest : List ToldRecord
  is : xs ≡ first ∷ rest
  line : op_line_of first.played ≡ o
  lines : lines_told rest ≡ ls

begun : (xs : List ToldRecord) (o : OpLine) (ls : List OpLine) → lines_told xs ≡ o ∷ ls → Begun xs o ls
begun [] o ls e = absurd cc
begun (x ∷ xs) o ls e =
    let line : op_line_of x.played ≡ o = cc in
    let lines : lines_told xs ≡ ls = cc in
    record { first = x; rest = xs; is = refl; line = line; lines = lines }

pub no_lines : (xs : List ToldRecord) → lines_told xs ≡ [] → xs ≡ []
no_lines [] e = refl
no_lines (x ∷ xs) e = absurd cc

module _ (way : Manner) where
  -- an annotated record of a thread in a turn
  abbrev pub is_told_in : ℕ → ℕ → ToldRecord → Bool
  is_told_in n k x = is_line_in way n k (op_line_of x.played)

  -- a line is of its own thread and turn, and of no other
  own_group : (o : OpLine) → is_line_in way (turn_of way o) o.thread o ≡ true
  own_group o = rw (eq-eqb (turn_of way o) (turn_of way o) refl, eq-eqb o.thread o.thread refl) refl

  pub group_is : (n k : ℕ) (o : OpLine) → is_line_in way n k o ≡ true → (turn_of way o ≡ n) × (o.thread ≡ k)
  group_is n k o e =
      let (a, b) = both_true _ _ e in
      (eqb-true (turn_of way o) n a, eqb-true o.thread k b)

  -- each group's records have that group's lines, for the turns and threads that R allows
  abbrev HaveLines : (ℕ → ℕ → Type 0) → (ℕ → ℕ → List ToldRecord) → List OpLine → Type 0
  HaveLines R plays os = (n k : ℕ) → R n k → lines_told (plays n k) ≡ filter (is_line_in way n k) os

  abbrev AreAllowed : (ℕ → ℕ → Type 0) → List OpLine → Type 0
  AreAllowed R os = (o : OpLine) → Contains os o → R (turn_of way o) o.thread

  lines_without : (R : ℕ → ℕ → Type 0) (plays : ℕ → ℕ → List ToldRecord) (o : OpLine) (os : List OpLine) → HaveLines R plays (o ∷ os) →
      HaveLines R (without_line way o plays) os
  lines_without R plays o os have n k allowed = elim (cases_Bool (is_line_in way n k o)) [
    | inl y ↦
        let mine : lines_told (plays n k) ≡ o ∷ filter (is_line_in way n k) os = have n k allowed ∙ rw y refl in
        let b = begun (plays n k) o (filter (is_line_in way n k) os) mine in
        rw y (ap (λ xs. lines_told (drop 1 xs)) b.is ∙ b.lines)
    | inr m ↦
        let others : lines_told (plays n k) ≡ filter (is_line_in way n k) os = have n k allowed ∙ rw m refl in
        rw m others
  ]

  first_begun : (R : ℕ → ℕ → Type 0) (plays : ℕ → ℕ → List ToldRecord) (o : OpLine) (os : List OpLine) → R (turn_of way o) o.thread →
      HaveLines R plays (o ∷ os) →
      Begun (plays (turn_of way o) o.thread) o (filter (is_line_in way (turn_of way o) o.thread) os)
  first_begun R plays o os allowed have =
      let mine : filter (is_line_in way (turn_of way o) o.thread) (o ∷ os) ≡ o ∷ filter
      (is_line_in way (turn_of way o) o.thread) os = rw (own_group o) refl in
      begun (plays (turn_of way o) o.thread) o (filter (is_line_in way (turn_of way o) o.thread) os)
      (have (turn_of way o) o.thread allowed ∙ mine)

  pub merged_lines : (R : ℕ → ℕ → Type 0) (plays : ℕ → ℕ → List ToldRecord) (os : List OpLine) → AreAllowed R os → HaveLines R plays os →
      lines_told (merged_by_lines way plays os) ≡ os
  merged_lines R plays [] allowed have = refl
  merged_lines R plays (o ∷ os) allowed have =
      let b = first_begun R plays o os (allowed o (first_in o os)) have in
      let again = merged_lines R (without_line way o plays) os (λ a among. allowed a (later_in o a os among))
      (lines_without R plays o os have) in
      ap (λ xs. lines_told (take 1 xs ++ merged_by_lines way (without_line way o plays) os)) b.is ∙
      (ap (λ l. l ∷ lines_told (merged_by_lines way (without_line way o plays) os)) b.line ∙ ap (λ ls. o ∷ ls) again)

  pub merged_groups : (R : ℕ → ℕ → Type 0) (plays : ℕ → ℕ → List ToldRecord) (os : List OpLine) → AreAllowed R os → HaveLines R plays os →
      (n k : ℕ) → R n k → filter (is_told_in n k) (merged_by_lines way plays os) ≡ plays n k
  merged_groups R plays [] allowed have n k of = sym (no_lines (plays n k) (have n k of))
  merged_groups R plays (o ∷ os) allowed have n k of =
      let b = first_begun R plays o os (allowed o (first_in o os)) have in
      let rest = merged_by_lines way (without_line way o plays) os in
      let again = merged_groups R (without_line way o plays) os (λ a among. allowed a (later_in o a os among))
      (lines_without R plays o os have) n k of in
      let here : filter (is_told_in n k) (merged_by_lines way plays (o ∷ os)) ≡ filter (is_told_in n k) (b.first ∷ rest) =
      ap (λ xs. filter (is_told_in n k) (take 1 xs ++ rest)) b.is in
      elim (cases_Bool (is_line_in way n k o)) [
        | inl y ↦
            let (turn, thread) = group_is n k o y in
            let first : is_told_in n k b.first ≡ true = ap (is_line_in way n k) b.line ∙ y in
            let plays_are : plays n k ≡ b.first ∷ b.rest =
            subst (λ p. plays p k ≡ b.first ∷ b.rest) turn (subst (λ q. plays (turn_of way o) q ≡ b.first ∷ b.rest) thread b.is) in
            let left : without_line way o plays n k ≡ b.rest = rw y (ap (λ xs. drop 1 xs) plays_are) in
            let taken : filter (is_told_in n k) (b.first ∷ rest) ≡ b.first ∷ filter (is_told_in n k) rest = rw first refl in
            here ∙ (taken ∙ (ap (λ xs. b.first ∷ xs) (again ∙ left) ∙ sym plays_are))
        | inr m ↦
            let other : is_told_in n k b.first ≡ false = ap (is_line_in way n k) b.line ∙ m in
            let left : without_line way o plays n k ≡ plays n k = rw m refl in
            let passed : filter (is_told_in n k) (b.first ∷ rest) ≡ filter (is_told_in n k) rest = rw other refl in
            here ∙ (passed ∙ (again ∙ left))
      ]
