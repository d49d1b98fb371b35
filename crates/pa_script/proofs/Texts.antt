-- A line of a script and its head have no LF, and a text belongs to one line, and to one head.
use Rattle.std.proofs.Common.{◌≡◌, ◌∙◌, ℕ, List, [], ◌∷◌, ◌++◌, codes, Option, Some, None, Ok, refl, ap, sym, subst, append_assoc, arith}
use Rattle.pa_text.specs.Numeral.{IsNumeral}
use Rattle.pa_text.specs.Reading.{number_at}
use Rattle.pa_text.proofs.Numerals.{number_again}
use Rattle.pa_trace.specs.declared.script.Line.{Line}
use Rattle.pa_trace.specs.declared.script.Line.TheVariants.{Phase, Do}
use Rattle.pa_trace.specs.declared.script.Op.{Op}
use Rattle.pa_trace.specs.declared.script.Op.TheVariants.{Alloc, Copy, Reset, Free, Write, Read, Swap, Purge}
use Rattle.pa_trace.specs.Grammar.{IsOpText, IsLineText}
use Rattle.pa_trace.specs.Cut.{IsOneLine}
use Rattle.pa_trace.proofs.Cuts.{word_line, three_line, line_line}
use Rattle.pa_trace.proofs.Threes.{three_at, three_again}
use Rattle.pa_trace.proofs.Texts.{one_line_of, ok_head}
use Rattle.pa_script.specs.declared.script.ScriptLine.{ScriptLine}
use Rattle.pa_script.specs.declared.script.ScriptLine.TheVariants.{Plain, Resize}
use Rattle.pa_script.specs.Grammar.{IsScriptHeadText, IsScriptLineText}

-- ---- no LF

pub script_line_one : (l : ScriptLine) (text : List ℕ) → IsScriptLineText l text → IsOneLine text
script_line_one (Plain l) text h = line_line l text h
script_line_one (Resize thread reg size) text h =
    subst (λ (x : List ℕ). IsOneLine x) (sym h.6)
    (three_line [] h.0 (codes " S r") h.1 (codes " ") h.2 thread reg size tt (word_line (codes " S r") refl)
    (word_line (codes " ") refl) h.3 h.4 h.5)

pub script_head_one : (region partitions threads : ℕ) (text : List ℕ) → IsScriptHeadText region partitions threads text → IsOneLine text
script_head_one region partitions threads text h =
    subst (λ (x : List ℕ). IsOneLine x) (sym h.6)
    (three_line (codes "script 1 region ") h.0 (codes " partitions ") h.1 (codes " threads ") h.2 region partitions threads
    (word_line (codes "script 1 region ") refl) (word_line (codes " partitions ") refl) (word_line (codes " threads ") refl) h.3 h.4 h.5)

-- ---- no line of a trace is a resize

abbrev first_letter : List ℕ → ℕ
first_letter [] = 0
first_letter (letter ∷ text) = letter

op_apart : (op : Op) (text rest : List ℕ) → IsOpText op text → text ≡ 83 ∷ rest → ⊥
op_apart (Alloc reg partition size) text rest h e = let bad : 65 ≡ 83 = sym (ap first_letter h.6) ∙ ap first_letter e in omega (arith, bad)
op_apart (Copy from to) text rest h e = let bad : 67 ≡ 83 = sym (ap first_letter h.4) ∙ ap first_letter e in omega (arith, bad)
op_apart (Reset reg) text rest h e = let bad : 82 ≡ 83 = sym (ap first_letter h.2) ∙ ap first_letter e in omega (arith, bad)
op_apart (Free reg) text rest h e = let bad : 70 ≡ 83 = sym (ap first_letter h.2) ∙ ap first_letter e in omega (arith, bad)
op_apart (Write reg value) text rest h e = let bad : 87 ≡ 83 = sym (ap first_letter h.3) ∙ ap first_letter e in omega (arith, bad)
op_apart (Read reg place) text rest h e = let bad : 68 ≡ 83 = sym (ap first_letter h.4) ∙ ap first_letter e in omega (arith, bad)
op_apart (Swap cell reg) text rest h e = let bad : 88 ≡ 83 = sym (ap first_letter h.4) ∙ ap first_letter e in omega (arith, bad)
op_apart Purge text rest h e = let bad : 80 ≡ 83 = sym (ap first_letter h) ∙ ap first_letter e in omega (arith, bad)

-- the text of a resize after its thread
abbrev behind_thread : List ℕ → List ℕ → List ℕ
behind_thread i k = codes " S r" ++ i ++ codes " " ++ k

thread_first : (t i k : List ℕ) → t ++ codes " S r" ++ i ++ codes " " ++ k ≡ t ++ behind_thread i k
thread_first t i k =
    ap (λ (x : List ℕ). x ++ codes " " ++ k) (append_assoc t (codes " S r") i)
    ∙ ap (λ (x : List ℕ). x ++ k) (append_assoc t (codes " S r" ++ i) (codes " "))
    ∙ append_assoc t (codes " S r" ++ i ++ codes " ") k

phase_apart : (n : ℕ) (ds rest : List ℕ) → IsNumeral n ds → codes "phase" ≡ ds ++ rest → ⊥
phase_apart n [] rest h e = h.written refl
phase_apart n (d ∷ ds) rest h e = let first : 112 ≡ d = ap first_letter e in omega (arith, first, h.digits.0.1)

abbrev after_first : Option (ℕ × List ℕ) → List ℕ
after_first None = []
after_first (Some (n, [])) = []
after_first (Some (n, letter ∷ text)) = text

plain_apart : (l : Line) (thread reg size : ℕ) (text : List ℕ) → IsLineText l text → IsScriptLineText (Resize thread reg size) text → ⊥
plain_apart Phase thread reg size text h g =
    phase_apart thread g.0 (behind_thread g.1 g.2) g.3 (sym h ∙ g.6 ∙ thread_first g.0 g.1 g.2)
plain_apart (Do t op) thread reg size text h g =
    let first : number_at text ≡ Some (t, codes " " ++ h.1) =
    ap number_at (h.4 ∙ append_assoc h.0 (codes " ") h.1) ∙ number_again t h.0 (codes " " ++ h.1) h.2 refl in
    let second : number_at text ≡ Some (thread, behind_thread g.1 g.2) =
    ap number_at (g.6 ∙ thread_first g.0 g.1 g.2) ∙ number_again thread g.0 (behind_thread g.1 g.2) g.3 refl in
    op_apart op h.1 (codes " r" ++ g.1 ++ codes " " ++ g.2) h.3 (ap after_first (sym first ∙ second))

-- ---- a text belongs to one line, and to one head

resize_numbers : (thread reg size : ℕ) (text : List ℕ) → IsScriptLineText (Resize thread reg size) text
    → three_at text [] (codes " S r") (codes " ") ≡ Ok (thread, reg, size)
resize_numbers thread reg size text h =
    ap (λ (x : List ℕ). three_at x [] (codes " S r") (codes " ")) h.6
    ∙ three_again [] (codes " S r") (codes " ") thread reg size h.0 h.1 h.2 (λ x. refl) (λ x. refl) h.3 h.4 h.5

head_numbers : (region partitions threads : ℕ) (text : List ℕ) → IsScriptHeadText region partitions threads text
    → three_at text (codes "script 1 region ") (codes " partitions ") (codes " threads ") ≡ Ok (region, partitions, threads)
head_numbers region partitions threads text h =
    ap (λ (x : List ℕ). three_at x (codes "script 1 region ") (codes " partitions ") (codes " threads ")) h.6
    ∙ three_again (codes "script 1 region ") (codes " partitions ") (codes " threads ") region partitions threads h.0 h.1 h.2 (λ x. refl)
    (λ x. refl) h.3 h.4 h.5

pub one_script_line : (k l : ScriptLine) (text : List ℕ) → IsScriptLineText k text → IsScriptLineText l text → k ≡ l
one_script_line (Plain k) (Plain l) text h g = ap (λ (x : Line). Plain x) (one_line_of k l text h g)
one_script_line (Plain k) (Resize thread reg size) text h g = absurd (plain_apart k thread reg size text h g)
one_script_line (Resize thread reg size) (Plain l) text h g = absurd (plain_apart l thread reg size text g h)
one_script_line (Resize thread reg size) (Resize t r s) text h g =
    ap (λ (x : ℕ × ℕ × ℕ). Resize x.0 x.1 x.2)
    (ok_head (thread, reg, size) (t, r, s) (sym (resize_numbers thread reg size text h) ∙ resize_numbers t r s text g))

pub one_script_head : (r p t s q u : ℕ) (text : List ℕ) → IsScriptHeadText r p t text → IsScriptHeadText s q u text
    → ◌≡◌ {A = ℕ × ℕ × ℕ} (r, p, t) (s, q, u)
one_script_head r p t s q u text h g = ok_head (r, p, t) (s, q, u) (sym (head_numbers r p t text h) ∙ head_numbers s q u text g)
