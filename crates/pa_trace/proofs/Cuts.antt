-- Lines in a text: where a line ends, and that a text is cut in one way.
use Rattle.std.proofs.Common.{◌≡◌, ℕ, zero, suc, ◌+◌, ◌/◌, ◌%◌, ◌<◌, inl, inr, List, [], ◌∷◌, ◌++◌, length, get_or, take, drop, Bool, true, false, not, ◌&&◌, eqb, codes, refl, sym, ap, subst, ◌∙◌, arith}
use Rattle.std.specs.List.{AllByRecursion}
use Rattle.std.proofs.lemmas.List.{drop_more, take-append-drop}
use Rattle.std.proofs.lemmas.Bool.{and_parts, eqb-false, ne_eqb, not-true, cases_lt, lt-ltb, le-ltb}
use Rattle.pa_text.specs.Hex.{hex, hex_digit}
use Rattle.pa_text.specs.Numeral.{IsDigit, IsNumeral}
use Rattle.pa_trace.specs.declared.line.Head.{Head}
use Rattle.pa_trace.specs.declared.script.Line.{Line}
use Rattle.pa_trace.specs.declared.script.Line.TheVariants.{Phase, Do}
use Rattle.pa_trace.specs.declared.script.Op.{Op}
use Rattle.pa_trace.specs.declared.script.Op.TheVariants.{Alloc, Copy, Reset, Free, Write, Read, Swap, Purge}
use Rattle.pa_trace.specs.Grammar.{IsOpText, IsLineText, IsPlainText, IsHeadText, tells_plain}
use Rattle.pa_trace.specs.Cut.{IsOneLine}
use Rattle.pa_trace.specs.Faults.{with_front, lines_of}

-- ---- bytes without an LF

pub one_line_append : (a b : List ℕ) → IsOneLine a → IsOneLine b → IsOneLine (a ++ b)
one_line_append [] b ha hb = hb
one_line_append (x ∷ a) b ha hb = (ha.0, one_line_append a b ha.1 hb)

-- the first LF cuts the bytes
pub cut_here : (bytes : List ℕ) (i : ℕ) → i < length bytes → get_or bytes i 0 ≡ 10 → bytes ≡ take i bytes ++ 10 ∷ drop 1 (drop i bytes)
cut_here bytes i lt e =
    let back : drop i bytes ≡ 10 ∷ drop (i + 1) bytes = drop_more bytes i 0 lt ∙ ap (λ (x : ℕ). x ∷ drop (i + 1) bytes) e in
    sym (take-append-drop i bytes) ∙ ap (λ (x : List ℕ). take i bytes ++ x) (back ∙ ap (λ (x : List ℕ). 10 ∷ drop 1 x) (sym back))

-- a text has one first line
pub one_cut : (a b r s : List ℕ) → IsOneLine a → IsOneLine b → a ++ 10 ∷ r ≡ b ++ 10 ∷ s → (a ≡ b) × (r ≡ s)
one_cut [] [] r s ha hb e = (refl, cc)
one_cut [] (y ∷ b) r s ha hb e = absurd (hb.0 (cc))
one_cut (x ∷ a) [] r s ha hb e = absurd (ha.0 (cc))
one_cut (x ∷ a) (y ∷ b) r s ha hb e =
    let tail : a ++ 10 ∷ r ≡ b ++ 10 ∷ s = cc in
    let head : x ≡ y = cc in
    let t = one_cut a b r s ha.1 hb.1 tail in
    (ap (λ (z : ℕ). z ∷ a) head ∙ ap (λ (z : List ℕ). y ∷ z) t.0, t.1)

pub no_cut : (bytes a r : List ℕ) → IsOneLine bytes → bytes ≡ a ++ 10 ∷ r → ⊥
no_cut [] [] r h e = cc
no_cut [] (x ∷ a) r h e = cc
no_cut (y ∷ bytes) [] r h e = h.0 (cc)
no_cut (y ∷ bytes) (x ∷ a) r h e = no_cut bytes a r h.1 (cc)

-- ---- the lines of a text

pub lf_front : (lines : List (List ℕ)) → with_front 10 lines ≡ (10 ∷ []) ∷ lines
lf_front [] = refl
lf_front (line ∷ lines) = refl

pub other_front : (b : ℕ) (line : List ℕ) (lines : List (List ℕ)) → (b ≡ 10 → ⊥) → with_front b (line ∷ lines) ≡ (b ∷ line) ∷ lines
other_front b line lines other = rw (ne_eqb b 10 other) refl

-- a line with its LF comes before the lines after it
pub cut_lines : (line after : List ℕ) → IsOneLine line → lines_of (line ++ 10 ∷ after) ≡ (line ++ 10 ∷ []) ∷ lines_of after
unfolding lines_of
cut_lines [] after one = lf_front (lines_of after)
cut_lines (b ∷ line) after one = ap (with_front b) (cut_lines line after one.1) ∙ other_front b (line ++ 10 ∷ []) (lines_of after) one.0

-- bytes without an LF are one line
last_cons : (b : ℕ) (line : List ℕ) → IsOneLine (b ∷ line) → lines_of (b ∷ line) ≡ (b ∷ line) ∷ []
unfolding lines_of
last_cons b [] one = refl
last_cons b (c ∷ line) one = ap (with_front b) (last_cons c line one.1) ∙ other_front b (c ∷ line) [] one.0

pub last_line : (line : List ℕ) → IsOneLine line → (line ≡ [] → ⊥) → lines_of line ≡ line ∷ []
last_line [] one some' = absurd (some' refl)
last_line (b ∷ line) one some' = last_cons b line one

pub no_lines : lines_of [] ≡ []
unfolding lines_of
no_lines = refl

-- ---- what is spelled in a line has no LF

pub numeral_line : (ds : List ℕ) → AllByRecursion IsDigit ds → IsOneLine ds
numeral_line [] h = tt
numeral_line (d ∷ ds) h = ((λ e. omega (arith, h.0.0)), numeral_line ds h.1)

numeral_one : (n : ℕ) (ds : List ℕ) → IsNumeral n ds → IsOneLine ds
numeral_one n ds h = numeral_line ds h.digits

field_line : (v i : List ℕ) (n : ℕ) → IsOneLine v → IsNumeral n i → IsOneLine (v ++ i)
field_line v i n hv hi = one_line_append v i hv (numeral_one n i hi)

two_line : (v i w j : List ℕ) (m n : ℕ) → IsOneLine v → IsOneLine w → IsNumeral m i → IsNumeral n j → IsOneLine (v ++ i ++ w ++ j)
two_line v i w j m n hv hw hi hj = field_line (v ++ i ++ w) j n (one_line_append (v ++ i) w (field_line v i m hv hi) hw) hj

pub three_line : (v i w j y k : List ℕ) (m n p : ℕ) → IsOneLine v → IsOneLine w → IsOneLine y → IsNumeral m i → IsNumeral n j →
    IsNumeral p k → IsOneLine (v ++ i ++ w ++ j ++ y ++ k)
three_line v i w j y k m n p hv hw hy hi hj hk =
    field_line (v ++ i ++ w ++ j ++ y) k p (one_line_append (v ++ i ++ w ++ j) y (two_line v i w j m n hv hw hi hj) hy) hk

-- the test of a word that is written out
abbrev pub has_no_lf : List ℕ → Bool
has_no_lf [] = true
has_no_lf (b ∷ bs) = not (eqb b 10) && has_no_lf bs

pub word_line : (w : List ℕ) → has_no_lf w ≡ true → IsOneLine w
word_line [] e = tt
word_line (b ∷ bs) e =
    let p = and_parts (not (eqb b 10)) (has_no_lf bs) e in
    (eqb-false b 10 (not-true (eqb b 10) p.0), word_line bs p.1)

pub digit_line : (d : ℕ) → hex_digit d ≡ 10 → ⊥
digit_line d e =
    elim (cases_lt d 10) [
      | inl low ↦ let is : hex_digit d ≡ 48 + d = rw (lt-ltb d 10 low) refl in omega (arith, e, is)
      | inr high ↦ let is : hex_digit d ≡ 87 + d = rw (le-ltb d 10 high) refl in omega (arith, e, is)
    ]

pub hex_line : (k n : ℕ) → IsOneLine (hex k n)
unfolding hex
hex_line zero n = tt
hex_line (suc k) n = one_line_append (hex k (n / 16)) (hex_digit (n % 16) ∷ []) (hex_line k (n / 16)) (digit_line (n % 16), tt)

along : (a b : List ℕ) → a ≡ b → IsOneLine b → IsOneLine a
along a b e h = subst (λ (x : List ℕ). IsOneLine x) (sym e) h

op_line : (op : Op) (text : List ℕ) → IsOpText op text → IsOneLine text
op_line (Alloc reg partition size) text h =
    along text _ h.6 (three_line (codes "A r") h.0 (codes " p") h.1 (codes " ") h.2 reg partition size (word_line (codes "A r") refl)
    (word_line (codes " p") refl) (word_line (codes " ") refl) h.3 h.4 h.5)
op_line (Copy from to) text h =
    along text _ h.4 (two_line (codes "C r") h.0 (codes " r") h.1 from to (word_line (codes "C r") refl)
    (word_line (codes " r") refl) h.2 h.3)
op_line (Reset reg) text h = along text _ h.2 (field_line (codes "R r") h.0 reg (word_line (codes "R r") refl) h.1)
op_line (Free reg) text h = along text _ h.2 (field_line (codes "F r") h.0 reg (word_line (codes "F r") refl) h.1)
op_line (Write reg value) text h =
    along text _ h.3 (one_line_append (codes "W r" ++ h.0 ++ codes " ") (hex 16 value)
    (one_line_append (codes "W r" ++ h.0) (codes " ") (field_line (codes "W r") h.0 reg (word_line (codes "W r") refl) h.1)
    (word_line (codes " ") refl)) (hex_line 16 value))
op_line (Read reg place) text h =
    along text _ h.4 (two_line (codes "D r") h.0 (codes " ") h.1 reg place (word_line (codes "D r") refl)
    (word_line (codes " ") refl) h.2 h.3)
op_line (Swap cell reg) text h =
    along text _ h.4 (two_line (codes "X c") h.0 (codes " r") h.1 cell reg (word_line (codes "X c") refl)
    (word_line (codes " r") refl) h.2 h.3)
op_line Purge text h = along text _ h (word_line (codes "P") refl)

pub line_line : (line : Line) (text : List ℕ) → IsLineText line text → IsOneLine text
line_line Phase text h = along text _ h (word_line (codes "phase") refl)
line_line (Do thread op) text h =
    along text _ h.4 (one_line_append (h.0 ++ codes " ") h.1
    (one_line_append h.0 (codes " ") (numeral_one thread h.0 h.2) (word_line (codes " ") refl)) (op_line op h.1 h.3))

plain_line : (b : Bool) (n : ℕ) (text : List ℕ) → IsPlainText b n text → IsOneLine text
plain_line true n text h = along text _ h.2 (field_line (codes " plain ") h.0 n (word_line (codes " plain ") refl) h.1)
plain_line false n text h = along text _ h.1 tt

pub head_line : (h : Head) (text : List ℕ) → IsHeadText h text → IsOneLine text
head_line h text (v, n, p, t, q, hv, hn, hp, ht, hq, is) =
    let first : IsOneLine (codes "trace " ++ v) = field_line (codes "trace ") v h.version (word_line (codes "trace ") refl) hv in
    let front : IsOneLine (codes "trace " ++ v ++ codes " region ") =
    one_line_append (codes "trace " ++ v) (codes " region ") first (word_line (codes " region ") refl) in
    along text _ is (one_line_append (codes "trace " ++ v ++ codes " region " ++ n ++ codes " partitions " ++ p ++ codes " threads " ++ t) q
    (three_line (codes "trace " ++ v ++ codes " region ") n (codes " partitions ") p (codes " threads ") t h.region h.partitions h.threads
    front (word_line (codes " partitions ") refl) (word_line (codes " threads ") refl) hn hp ht)
    (plain_line (tells_plain h.version) h.plain q hq))
