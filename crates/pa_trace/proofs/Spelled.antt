-- Ops, lines and heads with numbers of any length: what is read is spelled so, and what is spelled so is read.
use Rattle.std.proofs.Common.{◌≡◌, ℕ, Bool, true, false, cond, eqb, List, [], ◌∷◌, ◌++◌, Option, Some, None, Result, Ok, Err, codes, refl, sym, ap, subst, ◌∙◌, append_assoc, ◌⊎◌, inl, inr, arith}
use Rattle.std.specs.Prelude.{nat_eq}
use Rattle.std.specs.Cmp.Lexicographic.{pointwise}
use Rattle.std.proofs.lemmas.Bool.{eqb-true, ne_eqb}
use Rattle.pa_text.specs.Numeral.{IsNumeral}
use Rattle.pa_text.specs.Reading.{IsStop, number_at}
use Rattle.pa_text.proofs.Fronts.{word_same}
use Rattle.pa_text.proofs.Numerals.{number_takes, number_again}
use Rattle.pa_trace.specs.declared.field.LineFault.{LineFault}
use Rattle.pa_trace.specs.declared.field.LineFault.TheVariants.{Outside}
use Rattle.pa_trace.specs.declared.line.Head.{Head}
use Rattle.pa_trace.specs.declared.script.Line.{Line}
use Rattle.pa_trace.specs.declared.script.Line.TheVariants.{Phase, Do}
use Rattle.pa_trace.specs.declared.script.Op.{Op}
use Rattle.pa_trace.specs.declared.script.Op.TheVariants.{Alloc, Copy, Reset, Free, Write, Read, Swap, Purge}
use Rattle.pa_trace.specs.Grammar.{IsOpText, IsLineText, IsPlainText, IsHeadText, tells_plain}
use Rattle.pa_trace.specs.Reading.{◌>>=◌, or_outside, behind, ended, purge_in}
use Rattle.pa_trace.proofs.Fields.{bind_ok, ok_is, behind_takes, behind_again, ended_ok, field_at, field_takes, field_again, one_at, one_takes, one_again, two_at, two_takes, two_again, field_and_word_at, field_and_word_takes, field_and_word_again}
use Rattle.pa_trace.proofs.Threes.{fields_at, fields_take, fields_again, three_at, three_takes, three_again}

-- ---- ops

-- the op whose letter was read
unfoldable pub alloc_at : List ℕ → Result Op LineFault
alloc_at bytes = do
  x ← three_at bytes (codes " r") (codes " p") (codes " ")
  Ok (Alloc x.0 x.1 x.2)

unfoldable pub copy_at : List ℕ → Result Op LineFault
copy_at bytes = do
  x ← two_at bytes (codes " r") (codes " r")
  Ok (Copy x.0 x.1)

unfoldable pub reset_at : List ℕ → Result Op LineFault
reset_at bytes = do
  n ← one_at bytes (codes " r")
  Ok (Reset n)

unfoldable pub free_at : List ℕ → Result Op LineFault
free_at bytes = do
  n ← one_at bytes (codes " r")
  Ok (Free n)

unfoldable pub write_at : List ℕ → Result Op LineFault
write_at bytes = do
  x ← field_and_word_at bytes (codes " r")
  Ok (Write x.0 x.1)

unfoldable pub read_at : List ℕ → Result Op LineFault
read_at bytes = do
  x ← two_at bytes (codes " r") (codes " ")
  Ok (Read x.0 x.1)

unfoldable pub swap_at : List ℕ → Result Op LineFault
swap_at bytes = do
  x ← two_at bytes (codes " c") (codes " r")
  Ok (Swap x.0 x.1)

unfoldable pub op_at : List ℕ → Result Op LineFault
op_at [] = Err Outside
op_at (c ∷ rest) =
    cond (eqb c 65) (alloc_at rest) (cond (eqb c 67) (copy_at rest) (cond (eqb c 82) (reset_at rest) (cond (eqb c 70) (free_at rest)
    (cond (eqb c 87) (write_at rest)
    (cond (eqb c 68) (read_at rest) (cond (eqb c 88) (swap_at rest) (cond (eqb c 80) (purge_in rest) (Err Outside))))))))

ok_op : (x y : Op) → ◌≡◌ {A = Result Op LineFault} (Ok x) (Ok y) → x ≡ y
ok_op x y e = cc

lead : (c : ℕ) (rest text : List ℕ) → rest ≡ text → c ∷ rest ≡ c ∷ text
lead c rest text e = ap (λ (x : List ℕ). c ∷ x) e

alloc_takes : (rest : List ℕ) (op : Op) → alloc_at rest ≡ Ok op → IsOpText op (65 ∷ rest)
unfolding alloc_at
alloc_takes rest op e =
    let b = bind_ok (three_at rest (codes " r") (codes " p") (codes " ")) (λ x. Ok (Alloc x.0 x.1 x.2)) op e in
    let t = three_takes rest (codes " r") (codes " p") (codes " ") b.0 b.1 in
    subst (λ (o : Op). IsOpText o (65 ∷ rest)) (ok_op (Alloc b.0.0 b.0.1 b.0.2) op b.2) (t.0, t.1, t.2, t.3, t.4, t.5, lead 65 _ _ t.6)

copy_takes : (rest : List ℕ) (op : Op) → copy_at rest ≡ Ok op → IsOpText op (67 ∷ rest)
unfolding copy_at
copy_takes rest op e =
    let b = bind_ok (two_at rest (codes " r") (codes " r")) (λ x. Ok (Copy x.0 x.1)) op e in
    let t = two_takes rest (codes " r") (codes " r") b.0 b.1 in
    subst (λ (o : Op). IsOpText o (67 ∷ rest)) (ok_op (Copy b.0.0 b.0.1) op b.2) (t.0, t.1, t.2, t.3, lead 67 _ _ t.4)

reset_takes : (rest : List ℕ) (op : Op) → reset_at rest ≡ Ok op → IsOpText op (82 ∷ rest)
unfolding reset_at
reset_takes rest op e =
    let b = bind_ok (one_at rest (codes " r")) (λ n. Ok (Reset n)) op e in
    let t = one_takes rest (codes " r") b.0 b.1 in
    subst (λ (o : Op). IsOpText o (82 ∷ rest)) (ok_op (Reset b.0) op b.2) (t.0, t.1, lead 82 _ _ t.2)

free_takes : (rest : List ℕ) (op : Op) → free_at rest ≡ Ok op → IsOpText op (70 ∷ rest)
unfolding free_at
free_takes rest op e =
    let b = bind_ok (one_at rest (codes " r")) (λ n. Ok (Free n)) op e in
    let t = one_takes rest (codes " r") b.0 b.1 in
    subst (λ (o : Op). IsOpText o (70 ∷ rest)) (ok_op (Free b.0) op b.2) (t.0, t.1, lead 70 _ _ t.2)

write_takes : (rest : List ℕ) (op : Op) → write_at rest ≡ Ok op → IsOpText op (87 ∷ rest)
unfolding write_at
write_takes rest op e =
    let b = bind_ok (field_and_word_at rest (codes " r")) (λ x. Ok (Write x.0 x.1)) op e in
    let t = field_and_word_takes rest (codes " r") b.0 b.1 in
    subst (λ (o : Op). IsOpText o (87 ∷ rest)) (ok_op (Write b.0.0 b.0.1) op b.2) (t.0, t.1, t.2, lead 87 _ _ t.3)

read_takes : (rest : List ℕ) (op : Op) → read_at rest ≡ Ok op → IsOpText op (68 ∷ rest)
unfolding read_at
read_takes rest op e =
    let b = bind_ok (two_at rest (codes " r") (codes " ")) (λ x. Ok (Read x.0 x.1)) op e in
    let t = two_takes rest (codes " r") (codes " ") b.0 b.1 in
    subst (λ (o : Op). IsOpText o (68 ∷ rest)) (ok_op (Read b.0.0 b.0.1) op b.2) (t.0, t.1, t.2, t.3, lead 68 _ _ t.4)

swap_takes : (rest : List ℕ) (op : Op) → swap_at rest ≡ Ok op → IsOpText op (88 ∷ rest)
unfolding swap_at
swap_takes rest op e =
    let b = bind_ok (two_at rest (codes " c") (codes " r")) (λ x. Ok (Swap x.0 x.1)) op e in
    let t = two_takes rest (codes " c") (codes " r") b.0 b.1 in
    subst (λ (o : Op). IsOpText o (88 ∷ rest)) (ok_op (Swap b.0.0 b.0.1) op b.2) (t.0, t.1, t.2, t.3, lead 88 _ _ t.4)

purge_takes : (rest : List ℕ) (op : Op) → purge_in rest ≡ Ok op → IsOpText op (80 ∷ rest)
unfolding purge_in
purge_takes rest op e =
    let b = bind_ok (ended rest) (λ end. Ok Purge) op e in
    subst (λ (o : Op). IsOpText o (80 ∷ rest)) (ok_op Purge op b.2) (lead 80 rest [] (ended_ok rest b.0 b.1))

-- which way a test went
chosen : {A : Type 0} (b : Bool) (x y z : A) → cond b x y ≡ z → ((b ≡ true) × (x ≡ z)) ⊎ ((b ≡ false) × (y ≡ z))
chosen true x y z e = inl (refl, e)
chosen false x y z e = inr (refl, e)

-- the letter that was tested
lettered : (c k : ℕ) (rest : List ℕ) (op : Op) → eqb c k ≡ true → IsOpText op (k ∷ rest) → IsOpText op (c ∷ rest)
lettered c k rest op e h = subst (λ (x : ℕ). IsOpText op (x ∷ rest)) (sym (eqb-true c k e)) h

-- a test of the letter
by_letter : (c k : ℕ) (rest : List ℕ) (op : Op) (x y : Result Op LineFault) → (x ≡ Ok op → IsOpText op (k ∷ rest))
    → (y ≡ Ok op → IsOpText op (c ∷ rest)) → cond (eqb c k) x y ≡ Ok op → IsOpText op (c ∷ rest)
by_letter c k rest op x y hit miss e =
    elim (chosen (eqb c k) x y (Ok op) e) [ inl a ↦ lettered c k rest op a.0 (hit a.1) | inr a ↦ miss a.1 ]

no_letter : (rest : List ℕ) (op : Op) → ◌≡◌ {A = Result Op LineFault} (Err Outside) (Ok op) → IsOpText op rest
no_letter rest op e = absurd cc

pub op_takes : (bytes : List ℕ) (op : Op) → op_at bytes ≡ Ok op → IsOpText op bytes
unfolding op_at
op_takes [] op e = absurd cc
op_takes (c ∷ rest) op e =
    by_letter c 65 rest op (alloc_at rest) _ (alloc_takes rest op)
    (by_letter c 67 rest op (copy_at rest) _ (copy_takes rest op)
    (by_letter c 82 rest op (reset_at rest) _ (reset_takes rest op)
    (by_letter c 70 rest op (free_at rest) _ (free_takes rest op)
    (by_letter c 87 rest op (write_at rest) _ (write_takes rest op)
    (by_letter c 68 rest op (read_at rest) _ (read_takes rest op)
    (by_letter c 88 rest op (swap_at rest) _ (swap_takes rest op)
    (by_letter c 80 rest op (purge_in rest) (Err Outside) (purge_takes rest op) (no_letter (c ∷ rest) op)))))))) e

pub op_again : (op : Op) (text : List ℕ) → IsOpText op text → op_at text ≡ Ok op
unfolding op_at alloc_at copy_at reset_at free_at write_at read_at swap_at purge_in
op_again (Alloc reg partition size) text h =
    ap op_at h.6 ∙ rw (three_again (codes " r") (codes " p") (codes " ") reg partition size h.0 h.1 h.2 (λ x. refl) (λ x. refl) h.3 h.4 h.5)
    refl
op_again (Copy from to) text h =
    ap op_at h.4 ∙ rw (two_again (codes " r") (codes " r") from to h.0 h.1 (λ x. refl) h.2 h.3) refl
op_again (Reset reg) text h =
    ap op_at h.2 ∙ rw (one_again (codes " r") reg h.0 h.1) refl
op_again (Free reg) text h =
    ap op_at h.2 ∙ rw (one_again (codes " r") reg h.0 h.1) refl
op_again (Write reg value) text h =
    ap op_at h.3 ∙ rw (field_and_word_again (codes " r") reg value h.0 h.1 h.2) refl
op_again (Read reg place) text h =
    ap op_at h.4 ∙ rw (two_again (codes " r") (codes " ") reg place h.0 h.1 (λ x. refl) h.2 h.3) refl
op_again (Swap cell reg) text h =
    ap op_at h.4 ∙ rw (two_again (codes " c") (codes " r") cell reg h.0 h.1 (λ x. refl) h.2 h.3) refl
op_again Purge text h = ap op_at h

-- ---- lines

unfoldable pub do_at : List ℕ → Result Line LineFault
do_at bytes = do
  thread ← or_outside (number_at bytes)
  rest ← behind (codes " ") thread.1
  op ← op_at rest
  Ok (Do thread.0 op)

unfoldable pub line_at : List ℕ → Result Line LineFault
line_at bytes = cond (pointwise nat_eq bytes (codes "phase")) (Ok Phase) (do_at bytes)

ok_line : (x y : Line) → ◌≡◌ {A = Result Line LineFault} (Ok x) (Ok y) → x ≡ y
ok_line x y e = cc

or_outside_ok : {A : Type 0} (o : Option A) (x : A) → or_outside o ≡ Ok x → o ≡ Some x
or_outside_ok None x e = absurd cc
or_outside_ok (Some y) x e = cc

join_line : (bytes t r o : List ℕ) → bytes ≡ t ++ r → r ≡ codes " " ++ o → bytes ≡ t ++ codes " " ++ o
join_line bytes t r o e f = e ∙ ap (λ (x : List ℕ). t ++ x) f ∙ sym (append_assoc t (codes " ") o)

do_takes : (bytes : List ℕ) (line : Line) → do_at bytes ≡ Ok line → IsLineText line bytes
unfolding do_at
do_takes bytes line e =
    let a = bind_ok (or_outside (number_at bytes))
    (λ thread. behind (codes " ") thread.1 >>= λ rest. op_at rest >>= λ op. Ok (Do thread.0 op)) line e in
    let b = bind_ok (behind (codes " ") a.0.1) (λ rest. op_at rest >>= λ op. Ok (Do a.0.0 op)) line a.2 in
    let c = bind_ok (op_at b.0) (λ op. Ok (Do a.0.0 op)) line b.2 in
    let t = number_takes bytes a.0.0 a.0.1 (or_outside_ok (number_at bytes) a.0 a.1) in
    subst (λ (l : Line). IsLineText l bytes) (ok_line (Do a.0.0 c.0) line c.2)
    (t.digits, b.0, t.numeral, op_takes b.0 c.0 c.1, join_line bytes t.digits a.0.1 b.0 t.parts (behind_takes (codes " ") a.0.1 b.0 b.1))

pub line_takes : (bytes : List ℕ) (line : Line) → line_at bytes ≡ Ok line → IsLineText line bytes
unfolding line_at
line_takes bytes line e =
    elim (chosen (pointwise nat_eq bytes (codes "phase")) (Ok Phase) (do_at bytes) (Ok line) e) [
      | inl a ↦ subst (λ (l : Line). IsLineText l bytes) (ok_line Phase line a.1) (word_same bytes (codes "phase") a.0)
      | inr a ↦ do_takes bytes line a.1
    ]

-- what begins with a digit is not the word `phase`
not_phase : (n : ℕ) (ds rest : List ℕ) → IsNumeral n ds → pointwise nat_eq (ds ++ rest) (codes "phase") ≡ false
not_phase n [] rest h = absurd (h.written refl)
not_phase n (d ∷ ds) rest h = rw (ne_eqb d 112 (λ e. omega (arith, h.digits.0.1))) refl

pub line_again : (line : Line) (text : List ℕ) → IsLineText line text → line_at text ≡ Ok line
unfolding line_at do_at
line_again Phase text h = ap line_at h
line_again (Do thread op) text h =
    let joined : text ≡ h.0 ++ (codes " " ++ h.1) = h.4 ∙ append_assoc h.0 (codes " ") h.1 in
    ap line_at joined ∙ rw (
      not_phase thread h.0 (codes " " ++ h.1) h.2,
      number_again thread h.0 (codes " " ++ h.1) h.2 refl,
      behind_again (codes " ") h.1,
      op_again op h.1 h.3,
    ) refl

-- ---- the head

-- the head of five numbers
abbrev pub head_with : ℕ → ℕ → ℕ → ℕ → ℕ → Head
head_with version region partitions threads plain =
    record { version = version; region = region; partitions = partitions; threads = threads; plain = plain }

-- how many partitions are plain, if it is told, and that no more follows
unfoldable pub plain_number_at : Bool → List ℕ → Result ℕ LineFault
plain_number_at true bytes = one_at bytes (codes " plain ")
plain_number_at false bytes = do
  end ← ended bytes
  Ok 0

-- what follows the version of a head
unfoldable pub head_behind_at : ℕ → List ℕ → Result Head LineFault
head_behind_at version bytes = do
  x ← fields_at bytes (codes " region ") (codes " partitions ") (codes " threads ")
  plain ← plain_number_at (tells_plain version) x.3
  Ok (head_with version x.0 x.1 x.2 plain)

unfoldable pub head_at : List ℕ → Result Head LineFault
head_at bytes = do
  first ← field_at (codes "trace ") bytes
  head_behind_at first.0 first.1

ok_head : (x y : Head) → ◌≡◌ {A = Result Head LineFault} (Ok x) (Ok y) → x ≡ y
ok_head x y e = cc

plain_takes : (b : Bool) (bytes : List ℕ) (n : ℕ) → plain_number_at b bytes ≡ Ok n → IsPlainText b n bytes
unfolding plain_number_at
plain_takes true bytes n e = one_takes bytes (codes " plain ") n e
plain_takes false bytes n e =
    let z = bind_ok (ended bytes) (λ end. Ok 0) n e in
    let none : n ≡ 0 = sym (ok_is 0 n z.2) in
    (none, ended_ok bytes z.0 z.1)

-- a text of plain partitions begins with no digit
plain_stops : (b : Bool) (n : ℕ) (text : List ℕ) → IsPlainText b n text → IsStop text
plain_stops true n text h = subst IsStop (sym h.2) refl
plain_stops false n text h = subst IsStop (sym h.1) tt

plain_again : (b : Bool) (n : ℕ) (text : List ℕ) → IsPlainText b n text → plain_number_at b text ≡ Ok n
unfolding plain_number_at
plain_again true n text h = ap (λ (x : List ℕ). one_at x (codes " plain ")) h.2 ∙ one_again (codes " plain ") n h.0 h.1
plain_again false n text h = ap (λ (x : List ℕ). ended x >>= λ end. Ok 0) h.1 ∙ ap (λ (x : ℕ). Ok x) (sym h.0)

-- the version of a head and what follows it
join_head : (bytes w v r a n b p d t q : List ℕ) → bytes ≡ w ++ v ++ r → r ≡ a ++ n ++ b ++ p ++ d ++ t ++ q →
    bytes ≡ w ++ v ++ a ++ n ++ b ++ p ++ d ++ t ++ q
join_head bytes w v r a n b p d t q e f = e ∙ ap (λ (x : List ℕ). w ++ v ++ x) f ∙ simp append_assoc

part_head : (w v a n b p d t q : List ℕ) → w ++ v ++ a ++ n ++ b ++ p ++ d ++ t ++ q ≡ w ++ (v ++ (a ++ n ++ b ++ p ++ d ++ t ++ q))
part_head w v a n b p d t q = simp append_assoc

pub head_takes : (bytes : List ℕ) (h : Head) → head_at bytes ≡ Ok h → IsHeadText h bytes
unfolding head_at head_behind_at
head_takes bytes h e =
    let a = bind_ok (field_at (codes "trace ") bytes) (λ first. head_behind_at first.0 first.1) h e in
    let version = a.0.0 in
    let b = bind_ok (fields_at a.0.1 (codes " region ") (codes " partitions ") (codes " threads "))
    (λ x. plain_number_at (tells_plain version) x.3 >>= λ plain. Ok (head_with version x.0 x.1 x.2 plain)) h a.2 in
    let c = bind_ok (plain_number_at (tells_plain version) b.0.3)
    (λ plain. Ok (head_with version b.0.0 b.0.1 b.0.2 plain)) h b.2 in
    let f = field_takes (codes "trace ") bytes a.0 a.1 in
    let s = fields_take a.0.1 (codes " region ") (codes " partitions ") (codes " threads ") b.0 b.1 in
    let q = plain_takes (tells_plain version) b.0.3 c.0 c.1 in
    let joined = join_head bytes (codes "trace ") f.numeral a.0.1 (codes " region ") s.0 (codes " partitions ") s.1
    (codes " threads ") s.2 b.0.3 f.parts s.6 in
    subst (λ (k : Head). IsHeadText k bytes) (ok_head (head_with version b.0.0 b.0.1 b.0.2 c.0) h c.2)
    (f.numeral, s.0, s.1, s.2, b.0.3, f.spelled, s.3, s.4, s.5, q, joined)

pub head_again : (h : Head) (text : List ℕ) → IsHeadText h text → head_at text ≡ Ok h
unfolding head_at head_behind_at
head_again h text (v, n, p, t, q, hv, hn, hp, ht, hq, is) =
    let rest : List ℕ = codes " region " ++ n ++ codes " partitions " ++ p ++ codes " threads " ++ t ++ q in
    let parted : text ≡ codes "trace " ++ (v ++ rest) = is ∙
    part_head (codes "trace ") v (codes " region ") n (codes " partitions ") p (codes " threads ") t q in
    let first : field_at (codes "trace ") (codes "trace " ++ (v ++ rest)) ≡ Ok (h.version, rest) =
    field_again (codes "trace ") h.version v rest hv refl in
    let others : fields_at rest (codes " region ") (codes " partitions ") (codes " threads ") ≡ Ok (h.region, h.partitions, h.threads, q) =
    fields_again (codes " region ") (codes " partitions ") (codes " threads ") h.region h.partitions h.threads n p t q (λ x. refl)
    (λ x. refl) (plain_stops (tells_plain h.version) h.plain q hq) hn hp ht in
    let last : plain_number_at (tells_plain h.version) q ≡ Ok h.plain = plain_again (tells_plain h.version) h.plain q hq in
    ap head_at parted ∙ rw (first, others, last) refl
