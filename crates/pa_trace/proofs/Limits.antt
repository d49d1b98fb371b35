-- What is read within the limits is what is spelled and within the limits.
use Rattle.std.proofs.Common.{◌≡◌, ℕ, ◌<◌, ◌≤◌, Bool, true, false, cond, eqb, ltb, leb, ◌&&◌, List, [], ◌∷◌, Result, Ok, Err, codes, refl, sym, subst, ◌∙◌, inl, inr, arith}
use Rattle.std.proofs.lemmas.Bool.{ltb-true, leb-true, lt-ltb, le-ltb, le-leb, lt-leb, and_parts, and_from, cases_lt, both_ways}
use Rattle.std.specs.Prelude.{nat_eq}
use Rattle.std.specs.Cmp.Lexicographic.{pointwise}
use Rattle.pa_text.specs.Reading.{fit, number_at}
use Rattle.pa_trace.specs.declared.field.LineFault.{LineFault}
use Rattle.pa_trace.specs.declared.field.LineFault.TheVariants.{Outside, Past}
use Rattle.pa_trace.specs.declared.script.Line.{Line}
use Rattle.pa_trace.specs.declared.script.Line.TheVariants.{Phase, Do}
use Rattle.pa_trace.specs.declared.script.Op.{Op}
use Rattle.pa_trace.specs.declared.script.Op.TheVariants.{Alloc, Copy, Reset, Free, Write, Read, Swap, Purge}
use Rattle.pa_trace.specs.Limits.{IsOpWithin, IsLineWithin}
use Rattle.pa_trace.specs.Reading.{◌>>=◌, or_outside, behind, ended, below, within, count_in, alloc_in, copy_in, reset_in, free_in, write_in, read_in, swap_in, purge_in, op_in, do_in, line_in}
use Rattle.pa_trace.proofs.Fields.{bind_ok, handed, field_at, field_handed, one_at, one_handed, two_at, two_handed, one_is, two_is, number_handed, field_and_word_at, word_handed, field_and_word_is}
use Rattle.pa_trace.proofs.Threes.{three_at, three_handed, three_is}
use Rattle.pa_trace.specs.Grammar.{IsLineText}
use Rattle.pa_trace.proofs.Shapes.{line_outside}
use Rattle.pa_trace.proofs.Spelled.{alloc_at, copy_at, reset_at, free_at, write_at, read_at, swap_at, op_at, do_at, line_at, line_takes, line_again}

-- ---- tests of one number

-- a number that is let through, or is past its limit
abbrev pub tested : Bool → ℕ → Result ℕ LineFault
tested b n = cond b (Ok n) (Err Past)

pub below_fit : (n limit : ℕ) → limit ≤ 4294967296 → below (fit n) limit ≡ tested (ltb n limit) n
below_fit n limit small =
    elim (cases_lt n 4294967296) [
      | inl lt ↦ rw (lt-ltb n 4294967296 lt) refl
      | inr le ↦ rw (le-ltb n 4294967296 le, le-ltb n limit (omega arith)) refl
    ]

pub within_fit : (n : ℕ) → within (fit n) ≡ tested (ltb n 4294967296) n
within_fit n =
    elim (cases_lt n 4294967296) [
      | inl lt ↦ rw (lt-ltb n 4294967296 lt) refl
      | inr le ↦ rw (le-ltb n 4294967296 le) refl
    ]

pub count_fit : (n most : ℕ) → most < 4294967296 → count_in (fit n) most ≡ tested (leb 1 n && leb n most) n
count_fit n most small =
    elim (cases_lt n 4294967296) [
      | inl lt ↦ rw (lt-ltb n 4294967296 lt) refl
      | inr le ↦ rw (le-ltb n 4294967296 le, le-leb 1 n (omega arith), lt-leb n most (omega arith)) refl
    ]

-- ---- ops

-- the op is within the limits
abbrev pub op_ok : ℕ → Op → Bool
op_ok partitions (Alloc reg partition size) = ltb reg 64 && (ltb partition partitions && ltb size 4294967296)
op_ok partitions (Copy from to) = ltb from 64 && ltb to 64
op_ok partitions (Reset reg) = ltb reg 64
op_ok partitions (Free reg) = ltb reg 64
op_ok partitions (Write reg value) = ltb reg 64
op_ok partitions (Read reg place) = ltb reg 64 && ltb place 4294967296
op_ok partitions (Swap cell reg) = ltb cell 64 && ltb reg 64
op_ok partitions Purge = true

abbrev pub checked : ℕ → Op → Result Op LineFault
checked partitions op = cond (op_ok partitions op) (Ok op) (Err Past)

alloc_tested : (a b c : Bool) (m n k : ℕ) → (tested a m >>= λ reg. tested b n >>= λ partition. tested c k >>= λ size. Ok
    (Alloc reg partition size)) ≡ cond (a && (b && c)) (Ok (Alloc m n k)) (Err Past)
alloc_tested true true true m n k = refl
alloc_tested true true false m n k = refl
alloc_tested true false c m n k = refl
alloc_tested false b c m n k = refl

one_tested : (make : ℕ → Op) (a : Bool) (n : ℕ) → (tested a n >>= λ reg. Ok (make reg)) ≡ cond a (Ok (make n)) (Err Past)
one_tested make true n = refl
one_tested make false n = refl

two_tested : (make : ℕ → ℕ → Op) (a b : Bool) (m n : ℕ) →
    (tested a m >>= λ x. tested b n >>= λ y. Ok (make x y)) ≡ cond (a && b) (Ok (make m n)) (Err Past)
two_tested make true true m n = refl
two_tested make true false m n = refl
two_tested make false b m n = refl

module _ (partitions : ℕ) (few : partitions ≤ 4294967296) where
  alloc_cases : (r : Result (ℕ × ℕ × ℕ) LineFault) → ((r >>= three_handed) >>= λ numbers. below numbers.0 64 >>= λ reg. below numbers.1
      partitions >>= λ partition. within numbers.2 >>= λ size. Ok (Alloc reg partition size))
      ≡ ((r >>= λ x. Ok (Alloc x.0 x.1 x.2)) >>= checked partitions)
  alloc_cases (Ok x) = rw (below_fit x.0 64 (omega arith), below_fit x.1 partitions few, within_fit x.2)
      (alloc_tested (ltb x.0 64) (ltb x.1 partitions) (ltb x.2 4294967296) x.0 x.1 x.2)
  alloc_cases (Err e) = refl

  alloc_is : (bytes : List ℕ) → alloc_in partitions bytes ≡ (alloc_at bytes >>= checked partitions)
  unfolding alloc_in alloc_at
  alloc_is bytes = rw three_is (alloc_cases (three_at bytes (codes " r") (codes " p") (codes " ")))

  copy_cases : (r : Result (ℕ × ℕ) LineFault) → ((r >>= two_handed) >>= λ numbers. below numbers.0 64 >>= λ from. below numbers.1 64 >>= λ
      to. Ok (Copy from to)) ≡ ((r >>= λ x. Ok (Copy x.0 x.1)) >>= checked partitions)
  copy_cases (Ok x) = rw (below_fit x.0 64 (omega arith), below_fit x.1 64 (omega arith))
      (two_tested (λ m n. Copy m n) (ltb x.0 64) (ltb x.1 64) x.0 x.1)
  copy_cases (Err e) = refl

  copy_is : (bytes : List ℕ) → copy_in bytes ≡ (copy_at bytes >>= checked partitions)
  unfolding copy_in copy_at
  copy_is bytes = rw two_is (copy_cases (two_at bytes (codes " r") (codes " r")))

  reset_cases : (r : Result ℕ LineFault) →
      ((r >>= one_handed) >>= λ number. below number 64 >>= λ reg. Ok (Reset reg)) ≡ ((r >>= λ n. Ok (Reset n)) >>= checked partitions)
  reset_cases (Ok n) = rw (below_fit n 64 (omega arith)) (one_tested (λ reg. Reset reg) (ltb n 64) n)
  reset_cases (Err e) = refl

  reset_is : (bytes : List ℕ) → reset_in bytes ≡ (reset_at bytes >>= checked partitions)
  unfolding reset_in reset_at
  reset_is bytes = rw one_is (reset_cases (one_at bytes (codes " r")))

  free_cases : (r : Result ℕ LineFault) →
      ((r >>= one_handed) >>= λ number. below number 64 >>= λ reg. Ok (Free reg)) ≡ ((r >>= λ n. Ok (Free n)) >>= checked partitions)
  free_cases (Ok n) = rw (below_fit n 64 (omega arith)) (one_tested (λ reg. Free reg) (ltb n 64) n)
  free_cases (Err e) = refl

  free_is : (bytes : List ℕ) → free_in bytes ≡ (free_at bytes >>= checked partitions)
  unfolding free_in free_at
  free_is bytes = rw one_is (free_cases (one_at bytes (codes " r")))

  write_cases : (r : Result (ℕ × ℕ) LineFault) →
      ((r >>= word_handed) >>= λ x. below x.0 64 >>= λ reg. Ok (Write reg x.1)) ≡ ((r >>= λ x. Ok (Write x.0 x.1)) >>= checked partitions)
  write_cases (Ok x) = rw (below_fit x.0 64 (omega arith)) (one_tested (λ reg. Write reg x.1) (ltb x.0 64) x.0)
  write_cases (Err e) = refl

  write_is : (bytes : List ℕ) → write_in bytes ≡ (write_at bytes >>= checked partitions)
  unfolding write_in write_at
  write_is bytes = rw field_and_word_is (write_cases (field_and_word_at bytes (codes " r")))

  read_cases : (r : Result (ℕ × ℕ) LineFault) → ((r >>= two_handed) >>= λ numbers. below numbers.0 64 >>= λ reg. within numbers.1 >>= λ
      place. Ok (Read reg place)) ≡ ((r >>= λ x. Ok (Read x.0 x.1)) >>= checked partitions)
  read_cases (Ok x) = rw (below_fit x.0 64 (omega arith), within_fit x.1)
      (two_tested (λ m n. Read m n) (ltb x.0 64) (ltb x.1 4294967296) x.0 x.1)
  read_cases (Err e) = refl

  read_is : (bytes : List ℕ) → read_in bytes ≡ (read_at bytes >>= checked partitions)
  unfolding read_in read_at
  read_is bytes = rw two_is (read_cases (two_at bytes (codes " r") (codes " ")))

  swap_cases : (r : Result (ℕ × ℕ) LineFault) → ((r >>= two_handed) >>= λ numbers. below numbers.0 64 >>= λ cell. below numbers.1 64 >>= λ
      reg. Ok (Swap cell reg)) ≡ ((r >>= λ x. Ok (Swap x.0 x.1)) >>= checked partitions)
  swap_cases (Ok x) = rw (below_fit x.0 64 (omega arith), below_fit x.1 64 (omega arith))
      (two_tested (λ m n. Swap m n) (ltb x.0 64) (ltb x.1 64) x.0 x.1)
  swap_cases (Err e) = refl

  swap_is : (bytes : List ℕ) → swap_in bytes ≡ (swap_at bytes >>= checked partitions)
  unfolding swap_in swap_at
  swap_is bytes = rw two_is (swap_cases (two_at bytes (codes " c") (codes " r")))

  purge_cases : (r : Result (Unit {0}) LineFault) → (r >>= λ end. Ok Purge) ≡ ((r >>= λ end. Ok Purge) >>= checked partitions)
  purge_cases (Ok u) = refl
  purge_cases (Err e) = refl

  purge_is : (bytes : List ℕ) → purge_in bytes ≡ (purge_in bytes >>= checked partitions)
  unfolding purge_in
  purge_is bytes = purge_cases (ended bytes)

  -- a test of the letter, on both sides
  letter_is : (b : Bool) (x y : Result Op LineFault) (u v : Result Op LineFault) → x ≡ (u >>= checked partitions) →
      y ≡ (v >>= checked partitions) → cond b x y ≡ (cond b u v >>= checked partitions)
  letter_is true x y u v e f = e
  letter_is false x y u v e f = f

  op_is : (bytes : List ℕ) → op_in partitions bytes ≡ (op_at bytes >>= checked partitions)
  unfolding op_in op_at
  op_is [] = refl
  op_is (c ∷ rest) =
      letter_is (eqb c 65) _ _ _ _ (alloc_is rest)
      (letter_is (eqb c 67) _ _ _ _ (copy_is rest)
      (letter_is (eqb c 82) _ _ _ _ (reset_is rest)
      (letter_is (eqb c 70) _ _ _ _ (free_is rest)
      (letter_is (eqb c 87) _ _ _ _ (write_is rest)
      (letter_is (eqb c 68) _ _ _ _ (read_is rest)
      (letter_is (eqb c 88) _ _ _ _ (swap_is rest)
      (letter_is (eqb c 80) _ _ _ _ (purge_is rest) refl)))))))

-- ---- lines

abbrev pub line_ok : ℕ → ℕ → Line → Bool
line_ok partitions threads Phase = true
line_ok partitions threads (Do thread op) = op_ok partitions op && ltb thread threads

abbrev pub checked_line : ℕ → ℕ → Line → Result Line LineFault
checked_line partitions threads line = cond (line_ok partitions threads line) (Ok line) (Err Past)

line_tested : (a b : Bool) (n : ℕ) (op : Op) →
    (cond a (Ok op) (Err Past) >>= λ op. tested b n >>= λ number. Ok (Do number op)) ≡ cond (a && b) (Ok (Do n op)) (Err Past)
line_tested true true n op = refl
line_tested true false n op = refl
line_tested false b n op = refl

module _ (partitions threads : ℕ) (few : partitions ≤ 4294967296) (few_threads : threads ≤ 4294967296) where
  line_op : (n : ℕ) (r : Result Op LineFault) → ((r >>= checked partitions) >>= λ op. below (fit n) threads >>= λ number. Ok
      (Do number op)) ≡ ((r >>= λ op. Ok (Do n op)) >>= checked_line partitions threads)
  line_op n (Ok op) = rw (below_fit n threads few_threads) (line_tested (op_ok partitions op) (ltb n threads) n op)
  line_op n (Err e) = refl

  line_rest : (n : ℕ) (r : Result (List ℕ) LineFault) → (r >>= λ rest. op_in partitions rest >>= λ op. below (fit n) threads >>= λ number.
      Ok (Do number op)) ≡ ((r >>= λ rest. op_at rest >>= λ op. Ok (Do n op)) >>= checked_line partitions threads)
  line_rest n (Ok rest) = rw (op_is partitions few rest) (line_op n (op_at rest))
  line_rest n (Err e) = refl

  line_cases : (r : Result (ℕ × List ℕ) LineFault) → ((r >>= handed) >>= λ thread. behind (codes " ") thread.1 >>= λ rest. op_in
      partitions rest >>= λ op. below thread.0 threads >>= λ number. Ok (Do number op))
      ≡ ((r >>= λ thread. behind (codes " ") thread.1 >>= λ rest. op_at rest >>= λ op. Ok (Do thread.0 op)) >>= checked_line partitions
      threads)
  line_cases (Ok x) = line_rest x.0 (behind (codes " ") x.1)
  line_cases (Err e) = refl

  do_is : (bytes : List ℕ) → do_in partitions threads bytes ≡ (do_at bytes >>= checked_line partitions threads)
  unfolding do_in do_at
  do_is bytes = rw number_handed (line_cases (or_outside (number_at bytes)))

  phase_or : (b : Bool) (x y : Result Line LineFault) → x ≡ (y >>= checked_line partitions threads) →
      cond b (Ok Phase) x ≡ (cond b (Ok Phase) y >>= checked_line partitions threads)
  phase_or true x y e = refl
  phase_or false x y e = e

  pub line_is : (bytes : List ℕ) → line_in partitions threads bytes ≡ (line_at bytes >>= checked_line partitions threads)
  unfolding line_in line_at
  line_is bytes = phase_or (pointwise nat_eq bytes (codes "phase")) (do_in partitions threads bytes) (do_at bytes) (do_is bytes)

-- ---- the limits as tests

op_within : (partitions : ℕ) (op : Op) → op_ok partitions op ≡ true → IsOpWithin partitions op
op_within partitions (Alloc reg partition size) e =
    let p = and_parts (ltb reg 64) (ltb partition partitions && ltb size 4294967296) e in
    let q = and_parts (ltb partition partitions) (ltb size 4294967296) p.1 in
    (ltb-true reg 64 p.0, ltb-true partition partitions q.0, omega (arith, ltb-true size 4294967296 q.1))
op_within partitions (Copy from to) e = let p = and_parts (ltb from 64) (ltb to 64) e in (ltb-true from 64 p.0, ltb-true to 64 p.1)
op_within partitions (Reset reg) e = ltb-true reg 64 e
op_within partitions (Free reg) e = ltb-true reg 64 e
op_within partitions (Write reg value) e = ltb-true reg 64 e
op_within partitions (Read reg place) e = let p = and_parts (ltb reg 64) (ltb place 4294967296) e in
    (ltb-true reg 64 p.0, omega (arith, ltb-true place 4294967296 p.1))
op_within partitions (Swap cell reg) e = let p = and_parts (ltb cell 64) (ltb reg 64) e in (ltb-true cell 64 p.0, ltb-true reg 64 p.1)
op_within partitions Purge e = tt

within_op : (partitions : ℕ) (op : Op) → IsOpWithin partitions op → op_ok partitions op ≡ true
within_op partitions (Alloc reg partition size) h =
    and_from _ _ (lt-ltb reg 64 h.0) (and_from _ _ (lt-ltb partition partitions h.1) (lt-ltb size 4294967296 (omega (arith, h.2))))
within_op partitions (Copy from to) h = and_from _ _ (lt-ltb from 64 h.0) (lt-ltb to 64 h.1)
within_op partitions (Reset reg) h = lt-ltb reg 64 h
within_op partitions (Free reg) h = lt-ltb reg 64 h
within_op partitions (Write reg value) h = lt-ltb reg 64 h
within_op partitions (Read reg place) h = and_from _ _ (lt-ltb reg 64 h.0) (lt-ltb place 4294967296 (omega (arith, h.1)))
within_op partitions (Swap cell reg) h = and_from _ _ (lt-ltb cell 64 h.0) (lt-ltb reg 64 h.1)
within_op partitions Purge h = refl

line_within : (partitions threads : ℕ) (line : Line) → line_ok partitions threads line ≡ true → IsLineWithin partitions threads line
line_within partitions threads Phase e = tt
line_within partitions threads (Do thread op) e =
    let p = and_parts (op_ok partitions op) (ltb thread threads) e in (ltb-true thread threads p.1, op_within partitions op p.0)

within_line : (partitions threads : ℕ) (line : Line) → IsLineWithin partitions threads line → line_ok partitions threads line ≡ true
within_line partitions threads Phase h = refl
within_line partitions threads (Do thread op) h = and_from _ _ (within_op partitions op h.1) (lt-ltb thread threads h.0)

-- which way a test of limits went
pub let_through : {A : Type 0} (b : Bool) (x y : A) → cond b (Ok x) (Err Past) ≡ Ok y → (b ≡ true) × (x ≡ y)
let_through true x y e = (refl, cc)
let_through false x y e = absurd cc

pub kept_out : {A : Type 0} (b : Bool) (x : A) (d : LineFault) → cond b (Ok x) (Err Past) ≡ Err d → (b ≡ false) × (d ≡ Past)
kept_out true x d e = absurd cc
kept_out false x d e = (refl, cc)

-- ---- what is read of a line

pub err_parts : {A : Type 0} (f d : LineFault) → Outside ≡ f → ◌≡◌ {A = Result A LineFault} (Err f) (Err d) → Outside ≡ d
err_parts f d out e = let same : f ≡ d = cc in out ∙ same

-- what a line that was not read is: outside the grammar, or in it and not within the limits
abbrev pub IsNotRead : ℕ → ℕ → LineFault → List ℕ → Type 0
IsNotRead partitions threads Outside bytes = (l : Line) → IsLineText l bytes → ⊥
IsNotRead partitions threads Past bytes = (l : Line) × IsLineText l bytes × (IsLineWithin partitions threads l → ⊥)

module _ (partitions threads : ℕ) (few : partitions ≤ 4294967296) (few_threads : threads ≤ 4294967296) where
  -- the line is spelled so, and within the limits
  pub line_read : (bytes : List ℕ) (line : Line) → line_in partitions threads bytes ≡ Ok line → IsLineText line bytes ×
      IsLineWithin partitions threads line
  line_read bytes line e =
      let b = bind_ok (line_at bytes) (checked_line partitions threads) line (sym (line_is partitions threads few few_threads bytes) ∙ e) in
      let t = let_through (line_ok partitions threads b.0) b.0 line b.2 in
      subst (λ (l : Line). IsLineText l bytes × IsLineWithin partitions threads l) t.1
      (line_takes bytes b.0 b.1, line_within partitions threads b.0 t.0)

  not_read_cases : (bytes : List ℕ) (r : Result Line LineFault) (d : LineFault) → line_at bytes ≡ r →
      (r >>= checked_line partitions threads) ≡ Err d
      → IsNotRead partitions threads d bytes
  not_read_cases bytes (Ok line) d same e =
      let t = kept_out (line_ok partitions threads line) line d e in
      let past : IsNotRead partitions threads Past bytes =
      (line, line_takes bytes line same, λ h. both_ways (line_ok partitions threads line) t.0 (within_line partitions threads line h)) in
      subst (λ (k : LineFault). IsNotRead partitions threads k bytes) (sym t.1) past
  not_read_cases bytes (Err f) d same e =
      let out : IsNotRead partitions threads Outside bytes =
      λ l h. let read : ◌≡◌ {A = Result Line LineFault} (Err f) (Ok l) = sym same ∙ line_again l bytes h in cc in
      let is : Outside ≡ d = err_parts f d (line_outside bytes f same) e in
      subst (λ (k : LineFault). IsNotRead partitions threads k bytes) is out

  pub line_not_read : (bytes : List ℕ) (d : LineFault) → line_in partitions threads bytes ≡ Err d → IsNotRead partitions threads d bytes
  line_not_read bytes d e = not_read_cases bytes (line_at bytes) d refl (sym (line_is partitions threads few few_threads bytes) ∙ e)
