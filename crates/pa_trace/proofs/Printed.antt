-- What is printed of a head and of a line is their text.
use Rattle.std.proofs.Common.{◌≡◌, ℕ, Bool, true, false, ◌<◌, List, [], ◌∷◌, ◌++◌, codes, refl, append_assoc, ◌∙◌, ap, arith}
use Rattle.std.specs.Fmt.{decimal}
use Rattle.pa_text.specs.Hex.{hex}
use Rattle.pa_text.proofs.Numerals.{decimal_numeral}
use Rattle.pa_trace.specs.declared.line.Head.{Head}
use Rattle.pa_trace.specs.declared.script.Line.{Line}
use Rattle.pa_trace.specs.declared.script.Line.TheVariants.{Phase, Do}
use Rattle.pa_trace.specs.declared.script.Op.{Op}
use Rattle.pa_trace.specs.declared.script.Op.TheVariants.{Alloc, Copy, Reset, Free, Write, Read, Swap, Purge}
use Rattle.pa_trace.specs.Faults.{IsBodyLine, IsHeadLine}
use Rattle.pa_trace.specs.Grammar.{IsVersionTo, IsToldPlain, IsOpText, IsPlainText, last_version, tells_plain}
use Rattle.pa_trace.specs.Printed.{word_then_number, plain_text, head_text, line_text, op_text, OpInBits, LineInBits}

-- the op without the space before it
op_spelled : (op : Op) → OpInBits op → (o : List ℕ) × IsOpText op o × (op_text op ≡ codes " " ++ o)
op_spelled (Alloc reg partition size) h = (
  codes "A r" ++ decimal reg ++ codes " p" ++ decimal partition ++ codes " " ++ decimal size,
  (
    decimal reg,
    decimal partition,
    decimal size,
    decimal_numeral reg (omega (arith, h.0)),
    decimal_numeral partition (omega (arith, h.1)),
    decimal_numeral size (omega (arith, h.2)),
    refl,
  ),
  simp append_assoc,
)
op_spelled (Copy from to) h = (
  codes "C r" ++ decimal from ++ codes " r" ++ decimal to,
  (decimal from, decimal to, decimal_numeral from (omega (arith, h.0)), decimal_numeral to (omega (arith, h.1)), refl),
  simp append_assoc,
)
op_spelled (Reset reg) h = (codes "R r" ++ decimal reg, (decimal reg, decimal_numeral reg (omega (arith, h)), refl), refl)
op_spelled (Free reg) h = (codes "F r" ++ decimal reg, (decimal reg, decimal_numeral reg (omega (arith, h)), refl), refl)
op_spelled (Write reg value) h = (
  codes "W r" ++ decimal reg ++ codes " " ++ hex 16 value,
  (decimal reg, decimal_numeral reg (omega (arith, h.0)), omega (arith, h.1), refl),
  simp append_assoc,
)
op_spelled (Read reg place) h = (
  codes "D r" ++ decimal reg ++ codes " " ++ decimal place,
  (decimal reg, decimal place, decimal_numeral reg (omega (arith, h.0)), decimal_numeral place (omega (arith, h.1)), refl),
  simp append_assoc,
)
op_spelled (Swap cell reg) h = (
  codes "X c" ++ decimal cell ++ codes " r" ++ decimal reg,
  (decimal cell, decimal reg, decimal_numeral cell (omega (arith, h.0)), decimal_numeral reg (omega (arith, h.1)), refl),
  simp append_assoc,
)
op_spelled Purge h = (codes "P", refl, refl)

pub line_spelled : (line : Line) → LineInBits line → IsBodyLine line (line_text line)
line_spelled Phase h = (codes "phase", refl, refl)
line_spelled (Do thread op) h =
    let (o, is, at) = op_spelled op h.1 in (
      decimal thread ++ codes " " ++ o,
      (decimal thread, o, decimal_numeral thread (omega (arith, h.0)), is, refl),
      ap (λ (x : List ℕ). decimal thread ++ x ++ 10 ∷ []) at ∙ simp append_assoc,
    )

all_printed : (w v a n b p d t q e : List ℕ) →
    (w ++ v) ++ ((a ++ n) ++ ((b ++ p) ++ ((d ++ t) ++ (q ++ e)))) ≡ (w ++ v ++ a ++ n ++ b ++ p ++ d ++ t ++ q) ++ e
all_printed w v a n b p d t q e = simp append_assoc

plain_spelled : (b : Bool) (plain : ℕ) → plain < 4294967296 → (b ≡ false → plain ≡ 0) → IsPlainText b plain (plain_text b plain)
plain_spelled true plain small told = (decimal plain, decimal_numeral plain (omega (arith, small)), refl)
plain_spelled false plain small told = (told refl, refl)

pub head_spelled : (head : Head) → head.region < 4294967296 → head.partitions < 4294967296 → head.threads < 4294967296 →
    head.plain < 4294967296 → IsVersionTo last_version head.version → IsToldPlain head
    → IsHeadLine last_version head (head_text head)
head_spelled head r p t q to told =
    let v : List ℕ = decimal head.version in
    let a : List ℕ = decimal head.region in
    let b : List ℕ = decimal head.partitions in
    let d : List ℕ = decimal head.threads in
    let z : List ℕ = plain_text (tells_plain head.version) head.plain in (
      codes "trace " ++ v ++ codes " region " ++ a ++ codes " partitions " ++ b ++ codes " threads " ++ d ++ z,
      (
        v,
        a,
        b,
        d,
        z,
        decimal_numeral head.version (omega (arith, to.1)),
        decimal_numeral head.region (omega (arith, r)),
        decimal_numeral head.partitions (omega (arith, p)),
        decimal_numeral head.threads (omega (arith, t)),
        plain_spelled (tells_plain head.version) head.plain q told,
        refl,
      ),
      all_printed (codes "trace ") v (codes " region ") a (codes " partitions ") b (codes " threads ") d z (10 ∷ []),
      to,
    )

-- what is printed part by part
joined : (old a b c d e f x y z w q u : List ℕ) → a ≡ old ++ x → b ≡ a ++ y → c ≡ b ++ z → d ≡ c ++ w → e ≡ d ++ q → f ≡ e ++ u →
    f ≡ old ++ (x ++ (y ++ (z ++ (w ++ (q ++ u)))))
joined old a b c d e f x y z w q u ea eb ec ed ee ef =
    ef ∙ ap (λ (t : List ℕ). t ++ u) (ee ∙ ap (λ (t : List ℕ). t ++ q)
    (ed ∙ ap (λ (t : List ℕ). t ++ w) (ec ∙ ap (λ (t : List ℕ). t ++ z) (eb ∙ ap (λ (t : List ℕ). t ++ y) ea))))
    ∙ simp append_assoc

pub head_joined : (head : Head) (old a b c d e f : List ℕ) → a ≡ old ++ word_then_number (codes "trace ") head.version → b ≡ a ++
    word_then_number (codes " region ") head.region
    → c ≡ b ++ word_then_number (codes " partitions ") head.partitions → d ≡ c ++ word_then_number (codes " threads ") head.threads
    → e ≡ d ++ plain_text (tells_plain head.version) head.plain → f ≡ e ++ 10 ∷ []
    → f ≡ old ++ head_text head
head_joined head old a b c d e f ea eb ec ed ee ef =
    let x : List ℕ = word_then_number (codes "trace ") head.version in
    let y : List ℕ = word_then_number (codes " region ") head.region in
    let z : List ℕ = word_then_number (codes " partitions ") head.partitions in
    let w : List ℕ = word_then_number (codes " threads ") head.threads in
    let q : List ℕ = plain_text (tells_plain head.version) head.plain in
    joined old a b c d e f x y z w q (10 ∷ []) ea eb ec ed ee ef
