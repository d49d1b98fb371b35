-- What is read of a line of a script is what is spelled and within the limits.
use Rattle.std.proofs.Common.{◌≡◌, ℕ, ◌<◌, ◌≤◌, Bool, true, false, cond, ltb, ◌&&◌, List, [], Result, Ok, Err, codes, refl, sym, subst, ◌∙◌, ap, arith}
use Rattle.std.proofs.lemmas.Bool.{ltb-true, lt-ltb, and_parts, and_from, both_ways}
use Rattle.pa_trace.specs.declared.field.LineFault.{LineFault}
use Rattle.pa_trace.specs.declared.field.LineFault.TheVariants.{Outside, Past}
use Rattle.pa_trace.specs.declared.line.Head.{Head}
use Rattle.pa_trace.specs.declared.script.Line.{Line}
use Rattle.pa_trace.specs.declared.script.Line.TheVariants.{Phase, Do}
use Rattle.pa_trace.specs.declared.script.Op.{Op}
use Rattle.pa_trace.specs.declared.script.Op.TheVariants.{Alloc, Copy, Reset, Free, Write, Read, Swap, Purge}
use Rattle.pa_trace.specs.Limits.{IsHeadWithin}
use Rattle.pa_trace.specs.Reading.{◌>>=◌, below, within, line_in}
use Rattle.pa_trace.proofs.Fields.{bind_ok}
use Rattle.pa_trace.proofs.Threes.{three_at, three_takes, three_again, three_handed, three_is}
use Rattle.pa_trace.specs.Rules.{first_head}
use Rattle.pa_trace.proofs.Heads.{head_ok, checked_head, head_cases, head_within, within_head}
use Rattle.pa_trace.proofs.Limits.{tested, below_fit, within_fit, let_through, kept_out, IsNotRead, line_read, line_not_read}
use Rattle.pa_trace.proofs.Shapes.{three_shape, shape_of}
use Rattle.pa_script.specs.declared.script.ScriptLine.{ScriptLine}
use Rattle.pa_script.specs.declared.script.ScriptLine.TheVariants.{Plain, Resize}
use Rattle.pa_script.specs.Grammar.{IsScriptHeadText, IsScriptLineText}
use Rattle.pa_script.specs.Limits.{NamesFewIn, NamesFew, IsScriptLineWithin}
use Rattle.pa_script.specs.Reading.{script_head_in, resize_in, names_few_in, names_few, plain_of, plain_in, or_plain, script_line_in}

-- ---- registers and cells

few_in : (op : Op) → names_few_in op ≡ true → NamesFewIn op
few_in (Alloc reg partition size) e = ltb-true reg 63 e
few_in (Copy from to) e = let p = and_parts (ltb from 63) (ltb to 63) e in (ltb-true from 63 p.0, ltb-true to 63 p.1)
few_in (Reset reg) e = ltb-true reg 63 e
few_in (Free reg) e = ltb-true reg 63 e
few_in (Write reg value) e = ltb-true reg 63 e
few_in (Read reg place) e = ltb-true reg 63 e
few_in (Swap cell reg) e = let p = and_parts (ltb cell 63) (ltb reg 63) e in (ltb-true cell 63 p.0, ltb-true reg 63 p.1)
few_in Purge e = tt

in_few : (op : Op) → NamesFewIn op → names_few_in op ≡ true
in_few (Alloc reg partition size) h = lt-ltb reg 63 h
in_few (Copy from to) h = and_from _ _ (lt-ltb from 63 h.0) (lt-ltb to 63 h.1)
in_few (Reset reg) h = lt-ltb reg 63 h
in_few (Free reg) h = lt-ltb reg 63 h
in_few (Write reg value) h = lt-ltb reg 63 h
in_few (Read reg place) h = lt-ltb reg 63 h
in_few (Swap cell reg) h = and_from _ _ (lt-ltb cell 63 h.0) (lt-ltb reg 63 h.1)
in_few Purge h = refl

few_names : (l : Line) → names_few l ≡ true → NamesFew l
few_names Phase e = tt
few_names (Do thread op) e = few_in op e

names_are_few : (l : Line) → NamesFew l → names_few l ≡ true
names_are_few Phase h = refl
names_are_few (Do thread op) h = in_few op h

-- ---- a resize

-- the numbers of a resize are within the limits
abbrev resize_ok : ℕ → ℕ × ℕ × ℕ → Bool
resize_ok threads x = ltb x.0 threads && (ltb x.1 63 && ltb x.2 4294967296)

abbrev resize_with : ℕ × ℕ × ℕ → ScriptLine
resize_with x = Resize x.0 x.1 x.2

abbrev checked_resize : ℕ → ℕ × ℕ × ℕ → Result ScriptLine LineFault
checked_resize threads x = cond (resize_ok threads x) (Ok (resize_with x)) (Err Past)

abbrev resize_at : List ℕ → Result (ℕ × ℕ × ℕ) LineFault
resize_at bytes = three_at bytes [] (codes " S r") (codes " ")

resize_tested : (a b c : Bool) (m n k : ℕ)
    → (tested a m >>= λ thread. tested b n >>= λ reg. tested c k >>= λ size. Ok (Resize thread reg size)) ≡ cond (a && (b && c))
    (Ok (Resize m n k)) (Err Past)
resize_tested true true true m n k = refl
resize_tested true true false m n k = refl
resize_tested true false c m n k = refl
resize_tested false b c m n k = refl

resize_takes : (bytes : List ℕ) (x : ℕ × ℕ × ℕ) → resize_at bytes ≡ Ok x → IsScriptLineText (resize_with x) bytes
resize_takes bytes x e = three_takes bytes [] (codes " S r") (codes " ") x e

resize_again : (thread reg size : ℕ) (text : List ℕ) → IsScriptLineText (Resize thread reg size) text →
    resize_at text ≡ Ok (thread, reg, size)
resize_again thread reg size text h =
    ap resize_at h.6 ∙ three_again [] (codes " S r") (codes " ") thread reg size h.0 h.1 h.2 (λ x. refl) (λ x. refl) h.3 h.4 h.5

module _ (threads : ℕ) (few_threads : threads ≤ 4294967296) where
  resize_cases : (r : Result (ℕ × ℕ × ℕ) LineFault)
      → ((r >>= three_handed) >>= λ numbers. below numbers.0 threads >>= λ thread. below numbers.1 63 >>= λ reg. within numbers.2 >>=
      λ size. Ok (Resize thread reg size))
      ≡ (r >>= checked_resize threads)
  resize_cases (Ok x) = rw (below_fit x.0 threads few_threads, below_fit x.1 63 (omega arith), within_fit x.2)
      (resize_tested (ltb x.0 threads) (ltb x.1 63) (ltb x.2 4294967296) x.0 x.1 x.2)
  resize_cases (Err e) = refl

  resize_is : (bytes : List ℕ) → resize_in threads bytes ≡ (resize_at bytes >>= checked_resize threads)
  unfolding resize_in
  resize_is bytes = rw three_is (resize_cases (resize_at bytes))

  resize_within : (x : ℕ × ℕ × ℕ) → resize_ok threads x ≡ true → (x.0 < threads) × (x.1 < 63) × (x.2 ≤ 4294967295)
  resize_within x e =
      let p = and_parts (ltb x.0 threads) (ltb x.1 63 && ltb x.2 4294967296) e in
      let q = and_parts (ltb x.1 63) (ltb x.2 4294967296) p.1 in
      (ltb-true x.0 threads p.0, ltb-true x.1 63 q.0, omega (arith, ltb-true x.2 4294967296 q.1))

  within_resize : (x : ℕ × ℕ × ℕ) → (x.0 < threads) × (x.1 < 63) × (x.2 ≤ 4294967295) → resize_ok threads x ≡ true
  within_resize x h = and_from _ _ (lt-ltb x.0 threads h.0) (and_from _ _ (lt-ltb x.1 63 h.1) (lt-ltb x.2 4294967296 (omega (arith, h.2))))

-- what a line that was not read as a resize is
abbrev IsNotResize : ℕ → ℕ → LineFault → List ℕ → Type 0
IsNotResize partitions threads Outside bytes = (thread reg size : ℕ) → IsScriptLineText (Resize thread reg size) bytes → ⊥
IsNotResize partitions threads Past bytes = (l : ScriptLine) × IsScriptLineText l bytes × (IsScriptLineWithin partitions threads l → ⊥)

module _ (partitions threads : ℕ) (few_threads : threads ≤ 4294967296) where
  resize_read : (bytes : List ℕ) (l : ScriptLine) → resize_in threads bytes ≡ Ok l → IsScriptLineText l bytes ×
      IsScriptLineWithin partitions threads l
  resize_read bytes l e =
      let b = bind_ok (resize_at bytes) (checked_resize threads) l (sym (resize_is threads few_threads bytes) ∙ e) in
      let t = let_through (resize_ok threads b.0) (resize_with b.0) l b.2 in
      subst (λ (k : ScriptLine). IsScriptLineText k bytes × IsScriptLineWithin partitions threads k) t.1
      (resize_takes bytes b.0 b.1, resize_within threads few_threads b.0 t.0)

  resize_refused : (bytes : List ℕ) (r : Result (ℕ × ℕ × ℕ) LineFault) (d : LineFault) → resize_at bytes ≡ r
      → (r >>= checked_resize threads) ≡ Err d → IsNotResize partitions threads d bytes
  resize_refused bytes (Ok x) d same e =
      let t = kept_out (resize_ok threads x) (resize_with x) d e in
      let past : IsNotResize partitions threads Past bytes =
      (resize_with x, resize_takes bytes x same, λ h. both_ways (resize_ok threads x) t.0 (within_resize threads few_threads x h)) in
      subst (λ (k : LineFault). IsNotResize partitions threads k bytes) (sym t.1) past
  resize_refused bytes (Err f) d same e =
      let out : IsNotResize partitions threads Outside bytes =
      λ thread reg size h. let read : ◌≡◌ {A = Result (ℕ × ℕ × ℕ) LineFault} (Err f) (Ok (thread, reg, size)) = sym same ∙
      resize_again thread reg size bytes h in cc in
      let shape = shape_of (resize_at bytes) f same (three_shape bytes [] (codes " S r") (codes " ")) in
      let is : Outside ≡ d = let one : f ≡ d = cc in shape ∙ one in
      subst (λ (k : LineFault). IsNotResize partitions threads k bytes) is out

  resize_not_read : (bytes : List ℕ) (d : LineFault) → resize_in threads bytes ≡ Err d → IsNotResize partitions threads d bytes
  resize_not_read bytes d e = resize_refused bytes (resize_at bytes) d refl (sym (resize_is threads few_threads bytes) ∙ e)

-- ---- a line

-- what a line that was not read is: outside the grammar, or in it and not within the limits
abbrev pub IsScriptNotRead : ℕ → ℕ → LineFault → List ℕ → Type 0
IsScriptNotRead partitions threads Outside bytes = (l : ScriptLine) → IsScriptLineText l bytes → ⊥
IsScriptNotRead partitions threads Past bytes = (l : ScriptLine) × IsScriptLineText l bytes × (IsScriptLineWithin partitions threads l → ⊥)

module _ (partitions threads : ℕ) (few : partitions ≤ 4294967296) (few_threads : threads ≤ 4294967296) where
  plain_read : (bytes : List ℕ) (l : ScriptLine) → plain_in partitions threads bytes ≡ Ok l → IsScriptLineText l bytes ×
      IsScriptLineWithin partitions threads l
  unfolding plain_in
  plain_read bytes l e =
      let b = bind_ok (line_in partitions threads bytes) plain_of l e in
      let t = let_through (names_few b.0) (Plain b.0) l b.2 in
      let read = line_read partitions threads few few_threads bytes b.0 b.1 in
      subst (λ (k : ScriptLine). IsScriptLineText k bytes × IsScriptLineWithin partitions threads k) t.1
      (read.0, (read.1, few_names b.0 t.0))

  read_by : (bytes : List ℕ) (r : Result ScriptLine LineFault) (l : ScriptLine) → resize_in threads bytes ≡ r
      → or_plain r (plain_in partitions threads bytes) ≡ Ok l
      → IsScriptLineText l bytes × IsScriptLineWithin partitions threads l
  read_by bytes (Ok x) l same e = resize_read partitions threads few_threads bytes l (same ∙ e)
  read_by bytes (Err Outside) l same e = plain_read bytes l e
  read_by bytes (Err Past) l same e = absurd cc

  pub script_line_read : (bytes : List ℕ) (l : ScriptLine) → script_line_in partitions threads bytes ≡ Ok l
      → IsScriptLineText l bytes × IsScriptLineWithin partitions threads l
  script_line_read bytes l e = read_by bytes (resize_in threads bytes) l refl e

  plain_refused : (bytes : List ℕ) (r : Result Line LineFault) (d : LineFault) → IsNotResize partitions threads Outside bytes
      → line_in partitions threads bytes ≡ r → (r >>= plain_of) ≡ Err d
      → IsScriptNotRead partitions threads d bytes
  plain_refused bytes (Ok l) d none same e =
      let t = kept_out (names_few l) (Plain l) d e in
      let read = line_read partitions threads few few_threads bytes l same in
      let past : IsScriptNotRead partitions threads Past bytes =
      (Plain l, read.0, λ h. both_ways (names_few l) t.0 (names_are_few l h.1)) in
      subst (λ (k : LineFault). IsScriptNotRead partitions threads k bytes) (sym t.1) past
  plain_refused bytes (Err f) d none same e =
      let is : f ≡ d = cc in
      subst (λ (k : LineFault). IsScriptNotRead partitions threads k bytes) is
      (not_plain f (line_not_read partitions threads few few_threads bytes f same))
    where
      not_plain : (f : LineFault) → IsNotRead partitions threads f bytes → IsScriptNotRead partitions threads f bytes
      not_plain Outside out = either
        where
          either : (l : ScriptLine) → IsScriptLineText l bytes → ⊥
          either (Plain l) h = out l h
          either (Resize thread reg size) h = none thread reg size h
      not_plain Past over = (Plain over.0, over.1, λ h. over.2 h.0)

  refused_by : (bytes : List ℕ) (r : Result ScriptLine LineFault) (d : LineFault) → resize_in threads bytes ≡ r
      → or_plain r (plain_in partitions threads bytes) ≡ Err d
      → IsScriptNotRead partitions threads d bytes
  unfolding plain_in
  refused_by bytes (Ok x) d same e = absurd cc
  refused_by bytes (Err Outside) d same e =
      plain_refused bytes (line_in partitions threads bytes) d (resize_not_read partitions threads few_threads bytes Outside same) refl e
  refused_by bytes (Err Past) d same e =
      let is : Past ≡ d = cc in
      subst (λ (k : LineFault). IsScriptNotRead partitions threads k bytes) is
      (resize_not_read partitions threads few_threads bytes Past same)

  pub script_line_not_read : (bytes : List ℕ) (d : LineFault) → script_line_in partitions threads bytes ≡ Err d →
      IsScriptNotRead partitions threads d bytes
  script_line_not_read bytes d e = refused_by bytes (resize_in threads bytes) d refl e

-- ---- the head

abbrev head_at : List ℕ → Result (ℕ × ℕ × ℕ) LineFault
head_at bytes = three_at bytes (codes "script 1 region ") (codes " partitions ") (codes " threads ")

-- a head of version 1, if its numbers are within the limits
abbrev checked_first : ℕ × ℕ × ℕ → Result Head LineFault
checked_first x = checked_head (first_head x.0 x.1 x.2)

head_is : (bytes : List ℕ) → script_head_in bytes ≡ (head_at bytes >>= checked_first)
unfolding script_head_in
head_is bytes = rw three_is (head_cases 1 (head_at bytes))

pub script_head_read : (bytes : List ℕ) (h : Head) → script_head_in bytes ≡ Ok h
    → IsScriptHeadText h.region h.partitions h.threads bytes × IsHeadWithin h × (h.version ≡ 1)
script_head_read bytes h e =
    let b = bind_ok (head_at bytes) checked_first h (sym (head_is bytes) ∙ e) in
    let first : Head = first_head b.0.0 b.0.1 b.0.2 in
    let t = let_through (head_ok first) first h b.2 in
    subst (λ (h : Head). IsScriptHeadText h.region h.partitions h.threads bytes × IsHeadWithin h × (h.version ≡ 1)) t.1
    (three_takes bytes (codes "script 1 region ") (codes " partitions ") (codes " threads ") b.0 b.1, head_within first t.0, refl)

-- what a head that was not read is
abbrev pub IsScriptHeadNotRead : LineFault → List ℕ → Type 0
IsScriptHeadNotRead Outside bytes = (region partitions threads : ℕ) → IsScriptHeadText region partitions threads bytes → ⊥
IsScriptHeadNotRead Past bytes = (region partitions threads : ℕ) × IsScriptHeadText region partitions threads bytes ×
    (IsHeadWithin (first_head region partitions threads) → ⊥)

head_again : (region partitions threads : ℕ) (text : List ℕ) → IsScriptHeadText region partitions threads text →
    head_at text ≡ Ok (region, partitions, threads)
head_again region partitions threads text h =
    ap head_at h.6 ∙ three_again (codes "script 1 region ") (codes " partitions ") (codes " threads ") region partitions threads h.0 h.1 h.2
    (λ x. refl) (λ x. refl) h.3 h.4 h.5

head_refused : (bytes : List ℕ) (r : Result (ℕ × ℕ × ℕ) LineFault) (d : LineFault) → head_at bytes ≡ r → (r >>= checked_first) ≡ Err d
    → IsScriptHeadNotRead d bytes
head_refused bytes (Ok x) d same e =
    let first : Head = first_head x.0 x.1 x.2 in
    let t = kept_out (head_ok first) first d e in
    let takes = three_takes bytes (codes "script 1 region ") (codes " partitions ") (codes " threads ") x same in
    let past : IsScriptHeadNotRead Past bytes = (x.0, x.1, x.2, takes, λ h. both_ways (head_ok first) t.0 (within_head first h)) in
    subst (λ (k : LineFault). IsScriptHeadNotRead k bytes) (sym t.1) past
head_refused bytes (Err f) d same e =
    let out : IsScriptHeadNotRead Outside bytes =
    λ region partitions threads h.
    let read : ◌≡◌ {A = Result (ℕ × ℕ × ℕ) LineFault} (Err f) (Ok (region, partitions, threads)) = sym same ∙
    head_again region partitions threads bytes h in
    cc in
    let shape = shape_of (head_at bytes) f same (three_shape bytes (codes "script 1 region ") (codes " partitions ") (codes " threads ")) in
    let is : Outside ≡ d = let one : f ≡ d = cc in shape ∙ one in
    subst (λ (k : LineFault). IsScriptHeadNotRead k bytes) is out

pub script_head_not_read : (bytes : List ℕ) (d : LineFault) → script_head_in bytes ≡ Err d → IsScriptHeadNotRead d bytes
script_head_not_read bytes d e = head_refused bytes (head_at bytes) d refl (sym (head_is bytes) ∙ e)
