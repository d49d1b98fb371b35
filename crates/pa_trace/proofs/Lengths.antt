-- A text within the limits is short: no line has more than 64 bytes with its LF.
use Rattle.std.proofs.Common.{◌≡◌, ℕ, Bool, true, false, zero, suc, ◌+◌, ◌*◌, ◌/◌, ◌<◌, ◌≤◌, List, [], ◌∷◌, ◌++◌, length, codes, refl, ap, arith}
use Rattle.std.specs.List.{AllByRecursion}
use Rattle.std.specs.Fmt.{decimal}
use Rattle.std.proofs.lemmas.List.{length-append}
use Rattle.std.proofs.lemmas.Fmt.{length-decimal-le}
use Rattle.pa_text.specs.Numeral.{IsNumeral}
use Rattle.pa_text.specs.Hex.{hex}
use Rattle.pa_text.proofs.Numerals.{one_numeral, decimal_numeral}
use Rattle.pa_trace.specs.declared.script.Trace.{Trace}
use Rattle.pa_trace.specs.declared.line.Head.{Head}
use Rattle.pa_trace.specs.declared.script.Line.{Line}
use Rattle.pa_trace.specs.declared.script.Line.TheVariants.{Phase, Do}
use Rattle.pa_trace.specs.declared.script.Op.{Op}
use Rattle.pa_trace.specs.declared.script.Op.TheVariants.{Alloc, Copy, Reset, Free, Write, Read, Swap, Purge}
use Rattle.pa_trace.specs.Grammar.{IsVersionTo, IsOpText, IsLineText, AreLinesText, IsPlainText, IsHeadText, IsTraceText, head_of_trace, last_version, tells_plain}
use Rattle.pa_trace.specs.Limits.{IsOpWithin, IsLineWithin, IsHeadWithin, IsWithinLimits}
use Rattle.pa_trace.proofs.Versions.{region_most, plain_most}

numeral_length : (n : ℕ) (i : List ℕ) → IsNumeral n i → n < 4294967296 → length i ≤ 10
numeral_length n i h small =
    let same : i ≡ decimal n = one_numeral n i (decimal n) h (decimal_numeral n (omega arith)) in
    omega (arith, ap length same, length-decimal-le 10 n (omega arith) (omega arith))

hex_length : (k n : ℕ) → length (hex k n) ≡ k
unfolding hex
hex_length zero n = refl
hex_length (suc k) n = simp length-append (omega (arith, hex_length k (n / 16)))

two_length : (v i w j : List ℕ) → length (v ++ i ++ w ++ j) ≡ length v + length i + length w + length j
two_length v i w j = simp length-append

three_length : (v i w j y k : List ℕ) →
    length (v ++ i ++ w ++ j ++ y ++ k) ≡ length v + length i + length w + length j + length y + length k
three_length v i w j y k = simp length-append

head_parts_length : (u h v i w j y k q : List ℕ) → length (u ++ h ++ v ++ i ++ w ++ j ++ y ++ k ++ q) ≡
    length u + length h + length v + length i + length w + length j + length y + length k + length q
head_parts_length u h v i w j y k q = simp length-append

op_length : (partitions : ℕ) (op : Op) (text : List ℕ) → partitions ≤ 4 → IsOpWithin partitions op → IsOpText op text → length text ≤ 40
op_length partitions (Alloc reg partition size) text few h t =
    omega (
      arith,
      ap length t.6,
      three_length (codes "A r") t.0 (codes " p") t.1 (codes " ") t.2,
      numeral_length reg t.0 t.3 (omega (arith, h.0)),
      numeral_length partition t.1 t.4 (omega (arith, h.1)),
      numeral_length size t.2 t.5 (omega (arith, h.2)),
    )
op_length partitions (Copy from to) text few h t =
    omega (
      arith,
      ap length t.4,
      two_length (codes "C r") t.0 (codes " r") t.1,
      numeral_length from t.0 t.2 (omega (arith, h.0)),
      numeral_length to t.1 t.3 (omega (arith, h.1)),
    )
op_length partitions (Reset reg) text few h t =
    omega (arith, ap length t.2, length-append (codes "R r") t.0, numeral_length reg t.0 t.1 (omega (arith, h)))
op_length partitions (Free reg) text few h t =
    omega (arith, ap length t.2, length-append (codes "F r") t.0, numeral_length reg t.0 t.1 (omega (arith, h)))
op_length partitions (Write reg value) text few h t =
    omega (
      arith,
      ap length t.3,
      two_length (codes "W r") t.0 (codes " ") (hex 16 value),
      hex_length 16 value,
      numeral_length reg t.0 t.1 (omega (arith, h)),
    )
op_length partitions (Read reg place) text few h t =
    omega (
      arith,
      ap length t.4,
      two_length (codes "D r") t.0 (codes " ") t.1,
      numeral_length reg t.0 t.2 (omega (arith, h.0)),
      numeral_length place t.1 t.3 (omega (arith, h.1)),
    )
op_length partitions (Swap cell reg) text few h t =
    omega (
      arith,
      ap length t.4,
      two_length (codes "X c") t.0 (codes " r") t.1,
      numeral_length cell t.0 t.2 (omega (arith, h.0)),
      numeral_length reg t.1 t.3 (omega (arith, h.1)),
    )
op_length partitions Purge text few h t = omega (arith, ap length t)

line_length : (partitions threads : ℕ) (l : Line) (text : List ℕ) → partitions ≤ 4 → threads ≤ 16 → IsLineWithin partitions threads l →
    IsLineText l text → length text ≤ 60
line_length partitions threads Phase text few few_threads h t = omega (arith, ap length t)
line_length partitions threads (Do thread op) text few few_threads h t =
    omega (
      arith,
      ap length t.4,
      two_length [] t.0 (codes " ") t.1,
      numeral_length thread t.0 t.2 (omega (arith, h.0)),
      op_length partitions op t.1 few h.1 t.3,
    )

lines_length : (partitions threads : ℕ) (ls : List Line) (text : List ℕ) → partitions ≤ 4 → threads ≤ 16
    → AllByRecursion (IsLineWithin partitions threads) ls → AreLinesText ls text → length text ≤ 61 * length ls
lines_length partitions threads [] text few few_threads h t = omega (arith, ap length t)
lines_length partitions threads (l ∷ ls) text few few_threads h t =
    omega (
      arith,
      ap length t.4,
      length-append t.0 (10 ∷ t.1),
      line_length partitions threads l t.0 few few_threads h.0 t.2,
      lines_length partitions threads ls t.1 few few_threads h.1 t.3,
    )

plain_length : (b : Bool) (plain : ℕ) (text : List ℕ) → plain < 4294967296 → IsPlainText b plain text → length text ≤ 17
plain_length true plain text small t =
    omega (arith, ap length t.2, length-append (codes " plain ") t.0, numeral_length plain t.0 t.1 small)
plain_length false plain text small t = omega (arith, ap length t.1)

head_length : (h : Head) (text : List ℕ) → IsVersionTo last_version h.version → IsHeadWithin h → IsHeadText h text → length text ≤ 99
head_length h text to within (v, n, p, t, q, hv, hn, hp, ht, hq, is) =
    omega (
      arith,
      ap length is,
      head_parts_length (codes "trace ") v (codes " region ") n (codes " partitions ") p (codes " threads ") t q,
      numeral_length h.version v hv (omega (arith, to.1)),
      numeral_length h.region n hn (omega (arith, within.0.1, region_most h.version)),
      numeral_length h.partitions p hp (omega (arith, within.1.1)),
      numeral_length h.threads t ht (omega (arith, within.2.1)),
      plain_length (tells_plain h.version) h.plain q
          (omega (arith, within.3, plain_most h.version h.partitions, within.1.1)) hq,
    )

pub trace_length : (t : Trace) (text : List ℕ) → IsWithinLimits t → IsTraceText t text → length text ≤ 4194304
trace_length t text h x =
    omega (
      arith,
      ap length x.4,
      length-append x.0 (10 ∷ x.1),
      head_length (head_of_trace t) x.0 h.version h.head x.2,
      lines_length t.partitions t.threads t.lines x.1 h.head.1.1 h.head.2.1 h.lines x.3,
      h.few,
    )
