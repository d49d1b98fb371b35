-- A line, a head and a trace have one text each, and a text belongs to one of them.
use Rattle.std.proofs.Common.{◌≡◌, ◌↔◌, ℕ, Bool, true, false, List, [], ◌∷◌, ◌++◌, codes, Result, Ok, sym, ap, refl, subst, ◌∙◌, append_assoc, arith}
use Rattle.std.proofs.lemmas.List.{append-nil}
use Rattle.std.specs.List.{AllByRecursion}
use Rattle.pa_trace.specs.declared.field.LineFault.{LineFault}
use Rattle.pa_trace.specs.declared.script.Trace.{Trace}
use Rattle.pa_trace.specs.declared.line.Head.{Head}
use Rattle.pa_trace.specs.declared.script.Line.{Line}
use Rattle.pa_trace.specs.declared.script.Line.TheVariants.{Phase, Do}
use Rattle.pa_trace.specs.declared.script.Op.{Op}
use Rattle.pa_trace.specs.declared.script.Op.TheVariants.{Alloc, Copy, Reset, Free, Write, Read, Swap, Purge}
use Rattle.pa_text.specs.Numeral.{IsNumeral}
use Rattle.pa_text.proofs.Numerals.{one_numeral}
use Rattle.pa_trace.specs.Grammar.{IsOpText, IsLineText, AreLinesText, IsPlainText, IsHeadText, IsTraceText, IsSameTrace, head_of_trace, tells_plain}
use Rattle.pa_trace.proofs.Spelled.{line_again, head_again}
use Rattle.pa_trace.proofs.Cuts.{one_cut, line_line, head_line}
use Rattle.pa_trace.proofs.Versions.{tells_none, one_only, one_spelled}

-- ---- lines that were read

-- one line more
pub lines_more : (ls : List Line) (l : Line) (bytes line after : List ℕ) → bytes ≡ line ++ 10 ∷ after → IsLineText l line →
    AreLinesText ls after → AreLinesText (l ∷ ls) bytes
lines_more ls l bytes line after e text h = (line, after, text, h, e)

pub lines_join : (done ls : List Line) (l : Line) → (done ++ l ∷ []) ++ ls ≡ done ++ (l ∷ ls)
lines_join done ls l = append_assoc done (l ∷ []) ls

-- what holds of each line of a list, and of one line more, holds of the longer list
pub all_push : (P : Line → Type 0) (done : List Line) (l : Line) → AllByRecursion P done → P l → AllByRecursion P (done ++ l ∷ [])
all_push P [] l h p = (p, tt)
all_push P (d ∷ done) l h p = (h.0, all_push P done l h.1 p)

-- ---- a text belongs to one line, and to one trace

ok_line : (x y : Line) → ◌≡◌ {A = Result Line LineFault} (Ok x) (Ok y) → x ≡ y
ok_line x y e = cc

pub one_line_of : (k l : Line) (text : List ℕ) → IsLineText k text → IsLineText l text → k ≡ l
one_line_of k l text hk hl = ok_line k l (sym (line_again k text hk) ∙ line_again l text hl)

-- if two readings of three numbers are the same, so are the numbers
pub ok_head : (x y : ℕ × ℕ × ℕ) → ◌≡◌ {A = Result (ℕ × ℕ × ℕ) LineFault} (Ok x) (Ok y) → x ≡ y
ok_head x y e = cc

ok_heads : (x y : Head) → ◌≡◌ {A = Result Head LineFault} (Ok x) (Ok y) → x ≡ y
ok_heads x y e = cc

pub one_head_of : (a b : Head) (text : List ℕ) → IsHeadText a text → IsHeadText b text → a ≡ b
one_head_of a b text h k = ok_heads a b (sym (head_again a text h) ∙ head_again b text k)

not_empty : (a r : List ℕ) → [] ≡ a ++ 10 ∷ r → ⊥
not_empty [] r e = cc
not_empty (x ∷ a) r e = cc

one_lines : (ks ls : List Line) (text : List ℕ) → AreLinesText ks text → AreLinesText ls text → ks ≡ ls
one_lines [] [] text hk hl = refl
one_lines [] (l ∷ ls) text hk hl = absurd (not_empty hl.0 hl.1 (sym hk ∙ hl.4))
one_lines (k ∷ ks) [] text hk hl = absurd (not_empty hk.0 hk.1 (sym hl ∙ hk.4))
one_lines (k ∷ ks) (l ∷ ls) text hk hl =
    let cut = one_cut hk.0 hl.0 hk.1 hl.1 (line_line k hk.0 hk.2) (line_line l hl.0 hl.2) (sym hk.4 ∙ hl.4) in
    let same : k ≡ l = one_line_of k l hl.0 (subst (λ (x : List ℕ). IsLineText k x) cut.0 hk.2) hl.2 in
    let rest = one_lines ks ls hl.1 (subst (λ (x : List ℕ). AreLinesText ks x) cut.1 hk.3) hl.3 in
    ap (λ (x : Line). x ∷ ks) same ∙ ap (λ (x : List Line). l ∷ x) rest

pub one_trace : (s t : Trace) (text : List ℕ) → IsTraceText s text → IsTraceText t text → IsSameTrace s t
one_trace s t text hs ht =
    let cut = one_cut hs.0 ht.0 hs.1 ht.1 (head_line (head_of_trace s) hs.0 hs.2) (head_line (head_of_trace t) ht.0 ht.2)
    (sym hs.4 ∙ ht.4) in
    let heads = one_head_of (head_of_trace s) (head_of_trace t) ht.0
    (subst (λ (x : List ℕ). IsHeadText (head_of_trace s) x) cut.0 hs.2) ht.2 in
    record {
      version = ap (λ (x : Head). x.version) heads;
      region = ap (λ (x : Head). x.region) heads;
      partitions = ap (λ (x : Head). x.partitions) heads;
      threads = ap (λ (x : Head). x.threads) heads;
      plain = ap (λ (x : Head). x.plain) heads;
      lines = one_lines s.lines t.lines ht.1 (subst (λ (x : List ℕ). AreLinesText s.lines x) cut.1 hs.3) ht.3;
    }

-- ---- a trace has one text

one_text_op : (op : Op) (a b : List ℕ) → IsOpText op a → IsOpText op b → a ≡ b
one_text_op (Alloc reg partition size) a b ha hb =
    ha.6 ∙ cc (one_numeral reg ha.0 hb.0 ha.3 hb.3, one_numeral partition ha.1 hb.1 ha.4 hb.4, one_numeral size ha.2 hb.2 ha.5 hb.5) ∙
    sym hb.6
one_text_op (Copy from to) a b ha hb = ha.4 ∙ cc (one_numeral from ha.0 hb.0 ha.2 hb.2, one_numeral to ha.1 hb.1 ha.3 hb.3) ∙ sym hb.4
one_text_op (Reset reg) a b ha hb = ha.2 ∙ cc (one_numeral reg ha.0 hb.0 ha.1 hb.1) ∙ sym hb.2
one_text_op (Free reg) a b ha hb = ha.2 ∙ cc (one_numeral reg ha.0 hb.0 ha.1 hb.1) ∙ sym hb.2
one_text_op (Write reg value) a b ha hb = ha.3 ∙ cc (one_numeral reg ha.0 hb.0 ha.1 hb.1) ∙ sym hb.3
one_text_op (Read reg place) a b ha hb = ha.4 ∙ cc (one_numeral reg ha.0 hb.0 ha.2 hb.2, one_numeral place ha.1 hb.1 ha.3 hb.3) ∙ sym hb.4
one_text_op (Swap cell reg) a b ha hb = ha.4 ∙ cc (one_numeral cell ha.0 hb.0 ha.2 hb.2, one_numeral reg ha.1 hb.1 ha.3 hb.3) ∙ sym hb.4
one_text_op Purge a b ha hb = ha ∙ sym hb

one_text_line : (line : Line) (a b : List ℕ) → IsLineText line a → IsLineText line b → a ≡ b
one_text_line Phase a b ha hb = ha ∙ sym hb
one_text_line (Do thread op) a b ha hb = ha.4 ∙ cc (one_numeral thread ha.0 hb.0 ha.2 hb.2, one_text_op op ha.1 hb.1 ha.3 hb.3) ∙ sym hb.4

one_text_lines : (ls : List Line) (a b : List ℕ) → AreLinesText ls a → AreLinesText ls b → a ≡ b
one_text_lines [] a b ha hb = ha ∙ sym hb
one_text_lines (l ∷ ls) a b ha hb = ha.4 ∙ cc (one_text_line l ha.0 hb.0 ha.2 hb.2, one_text_lines ls ha.1 hb.1 ha.3 hb.3) ∙ sym hb.4

one_text_plain : (b : Bool) (plain : ℕ) (x y : List ℕ) → IsPlainText b plain x → IsPlainText b plain y → x ≡ y
one_text_plain true plain x y hx hy = hx.2 ∙ cc (one_numeral plain hx.0 hy.0 hx.1 hy.1) ∙ sym hy.2
one_text_plain false plain x y hx hy = hx.1 ∙ sym hy.1

one_text_head : (h : Head) (a b : List ℕ) → IsHeadText h a → IsHeadText h b → a ≡ b
one_text_head h a b (v, n, p, t, q, hv, hn, hp, ht, hq, is) (w, m, o, u, r, hw, hm, ho, hu, hr, so) =
    is
    ∙ cc (
      one_numeral h.version v w hv hw,
      one_numeral h.region n m hn hm,
      one_numeral h.partitions p o hp ho,
      one_numeral h.threads t u ht hu,
      one_text_plain (tells_plain h.version) h.plain q r hq hr,
    )
    ∙ sym so

-- ---- version 1

first_from : (text v n p t q : List ℕ) → v ≡ codes "1" → q ≡ [] → text ≡ codes "trace " ++ v ++ codes " region " ++ n ++
    codes " partitions " ++ p ++ codes " threads " ++ t ++ q
    → text ≡ codes "trace 1 region " ++ n ++ codes " partitions " ++ p ++ codes " threads " ++ t
first_from text v n p t q is none e =
    e ∙ ap (λ (x : List ℕ). codes "trace " ++ v ++ codes " region " ++ n ++ codes " partitions " ++ p ++ codes " threads " ++ t ++ x) none
    ∙ append-nil (codes "trace " ++ v ++ codes " region " ++ n ++ codes " partitions " ++ p ++ codes " threads " ++ t)
    ∙ ap (λ (x : List ℕ). codes "trace " ++ x ++ codes " region " ++ n ++ codes " partitions " ++ p ++ codes " threads " ++ t) is

-- the text of a head of version 1 begins with `trace 1 region `, and none of its partitions is plain
pub first_version : (h : Head) (text : List ℕ) → h.version ≡ 1 → IsHeadText h text ↔
    ((n p t : List ℕ) × IsNumeral h.region n × IsNumeral h.partitions p × IsNumeral h.threads t × (h.plain ≡ 0)
    × (text ≡ codes "trace 1 region " ++ n ++ codes " partitions " ++ p ++ codes " threads " ++ t))
first_version h text is =
    let no : tells_plain h.version ≡ false = tells_none h.version (omega (arith, is)) in (
      λ (v, n, p, t, q, hv, hn, hp, ht, hq, e).
          let none : IsPlainText false h.plain q = subst (λ b. IsPlainText b h.plain q) no hq in
          (n, p, t, hn, hp, ht, none.0, first_from text v n p t q (one_only v (subst (λ k. IsNumeral k v) is hv)) none.1 e),
      λ (n, p, t, hn, hp, ht, none, e). (
        codes "1",
        n,
        p,
        t,
        [],
        subst (λ k. IsNumeral k (codes "1")) (sym is) one_spelled,
        hn,
        hp,
        ht,
        subst (λ b. IsPlainText b h.plain []) (sym no) (none, refl),
        e ∙ sym (append-nil (codes "trace 1 region " ++ n ++ codes " partitions " ++ p ++ codes " threads " ++ t)),
      ),
    )

pub one_text_trace : (t : Trace) (a b : List ℕ) → IsTraceText t a → IsTraceText t b → a ≡ b
one_text_trace t a b ha hb = ha.4 ∙ cc (one_text_head (head_of_trace t) ha.0 hb.0 ha.2 hb.2, one_text_lines t.lines ha.1 hb.1 ha.3 hb.3) ∙
    sym hb.4
