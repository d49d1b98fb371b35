-- The text of each item is one line with its LF.
use Rattle.std.proofs.Common.{◌≡◌, ℕ, zero, suc, ◌+◌, ◌/◌, ◌%◌, true, false, eqb, List, [], ◌∷◌, ◌++◌, codes, Option, Some, None, inl, inr, refl, arith}
use Rattle.std.specs.Fmt.{decimal, digits, digits_onto, digit_glyph}
use Rattle.std.proofs.lemmas.Bool.{cases_lt, cases_Bool, lt-ltb, le-ltb}
use Rattle.pa_slot.specs.declared.word.SlotName.{SlotName}
use Rattle.pa_text.specs.Hex.{hex, slot_text}
use Rattle.pa_trace.specs.Cut.{IsOneLine}
use Rattle.pa_trace.proofs.Cuts.{has_no_lf, word_line, one_line_append, hex_line}
use Rattle.pa_record.specs.declared.entry.Seen.{Seen}
use Rattle.pa_record.specs.declared.entry.Answer.{Answer}
use Rattle.pa_record.specs.declared.entry.Answer.TheVariants.{Made, Done, Value, Dangling, SecondFree, NotOwner, StaleReset, StaleUse, Nothing, Filled, NotRef, Shared, OutOfRange, TooLarge, Full, Swapped, Purged, Uncounted}
use Rattle.pa_record.specs.declared.numbered.Numbered.{Numbered}
use Rattle.pa_record.specs.declared.root.RootAct.{RootAct}
use Rattle.pa_record.specs.declared.root.RootAct.TheVariants as acts
use Rattle.pa_record.specs.declared.pool.PoolAct.{PoolAct}
use Rattle.pa_record.specs.declared.pool.PoolAct.TheVariants as turns
use Rattle.pa_record.specs.declared.history.Held.{Held}
use Rattle.pa_record.specs.declared.history.Held.TheVariants as handles
use Rattle.pa_record.specs.declared.report.Tally.{Tally}
use Rattle.pa_record.specs.declared.report.ReportLine.{ReportLine}
use Rattle.pa_record.specs.Text.{spaced_slot, seen_text, seen_text_if, answer_text, field_text, number_or, numbered_text, slots_text, root_act_text, pool_act_text, held_text, tally_text, places_text, bytes_text, spans_text}
use Rattle.pa_run_reader.specs.declared.item.Item.{Item}
use Rattle.pa_run_reader.specs.declared.item.Item.TheVariants as items
use Rattle.pa_run_reader.specs.Item.{item_text}

-- ---- numbers and digits

glyph_line : (d : ℕ) → digit_glyph false d ≡ 10 → ⊥
glyph_line d e =
    elim (cases_lt d 10) [
      | inl low ↦ let is : digit_glyph false d ≡ 48 + d = rw (lt-ltb d 10 low) refl in omega (arith, e, is)
      | inr high ↦ let is : digit_glyph false d ≡ 87 + d = rw (le-ltb d 10 high) refl in omega (arith, e, is)
    ]

onto_line : (k n : ℕ) (acc : List ℕ) → IsOneLine acc → IsOneLine (digits_onto k 10 false n acc)
onto_line zero n acc h = h
onto_line (suc k) n acc h =
    let one : IsOneLine (digit_glyph false (n % 10) ∷ acc) = (glyph_line (n % 10), h) in
    elim (cases_Bool (eqb (n / 10) 0)) [
      | inl last ↦ rw last one
      | inr more ↦ rw more (onto_line k (n / 10) (digit_glyph false (n % 10) ∷ acc) one)
    ]

decimal_line : (n : ℕ) → IsOneLine (decimal n)
unfolding digits
decimal_line n = onto_line 64 n [] tt

-- ---- texts without an LF

record Plain (text : List ℕ) : Type 0 where
  pub line : IsOneLine text

infixl 10 ◌&◌
◌&◌ : {a b : List ℕ} → Plain a → Plain b → Plain (a ++ b)
◌&◌ {a} {b} p q = record { line = one_line_append a b p.line q.line }

said : (w : List ℕ) → has_no_lf w ≡ true → Plain w
said w e = record { line = word_line w e }

number : (n : ℕ) → Plain (decimal n)
number n = record { line = decimal_line n }

hexes : (k n : ℕ) → Plain (hex k n)
hexes k n = record { line = hex_line k n }

field : (w : List ℕ) (n : ℕ) → has_no_lf w ≡ true → Plain (field_text w n)
field w n e = said w e & number n

or_number : (w : List ℕ) (o : Option ℕ) → has_no_lf w ≡ true → Plain (number_or w o)
or_number w None e = said w e
or_number w (Some n) e = number n

space : Plain (codes " ")
space = said (codes " ") refl

-- ---- slots

dotted : (n : ℕ) → Plain (46 ∷ decimal n)
dotted n = record { line = ((λ e. omega (arith, e)), decimal_line n) }

slot : (s : SlotName) → Plain (slot_text s)
slot s = hexes 8 s.start & dotted s.born

spaced : (s : Seen) → Plain (spaced_slot s)
spaced s = space & slot s.slot

seen : (s : Seen) → Plain (seen_text s)
seen s = spaced s & space & hexes 16 s.found.0

seen_if : (o : Option Seen) → Plain (seen_text_if o)
seen_if None = record { line = tt }
seen_if (Some s) = seen s

numbered : (n : Numbered) → Plain (numbered_text n)
numbered n = slot n.slot & said (codes "@") refl & number n.number

slots : (ns : List Numbered) → Plain (slots_text ns)
slots [] = record { line = tt }
slots (n ∷ ns) = space & numbered n & slots ns

-- ---- what each kind tells

answer : (a : Answer) → Plain (answer_text a)
answer (Made s n) = said (codes "made") refl & spaced s & space & number n & space & hexes 16 s.found.0
answer (Done s) = said (codes "done") refl & seen s
answer (Value s v) = said (codes "word") refl & seen s & space & hexes 16 v
answer (Dangling s v) = said (codes "dangling") refl & seen s & space & hexes 16 v
answer (SecondFree s) = said (codes "second-free") refl & seen_if s
answer (NotOwner s) = said (codes "not-owner") refl & seen s
answer StaleReset = said (codes "stale-reset") refl
answer (StaleUse s) = said (codes "stale-use") refl & seen_if s
answer Nothing = said (codes "nothing") refl
answer Filled = said (codes "filled") refl
answer NotRef = said (codes "not-ref") refl
answer (Shared s) = said (codes "shared") refl & seen s
answer OutOfRange = said (codes "out-of-range") refl
answer TooLarge = said (codes "too-large") refl
answer (Full n) = said (codes "full ") refl & number n
answer (Swapped n) = said (codes "swapped ") refl & number n
answer (Purged n) = said (codes "purged ") refl & number n
answer Uncounted = said (codes "uncounted") refl

root_act : (a : RootAct) → Plain (root_act_text a)
root_act (acts.Fill c p s) = said (codes "fill ") refl & number c & space & or_number (codes "-") p refl & slots s
root_act (acts.Map p s l) = said (codes "map ") refl & number p & space & slot s & said (codes "@0 ") refl & number l
root_act (acts.Full c p) = said (codes "full ") refl & or_number (codes "direct") c refl & space & number p
root_act (acts.Give s) = said (codes "give") refl & slots s
root_act (acts.Unmap p s) = said (codes "unmap ") refl & number p & space & numbered s
root_act acts.Purge = said (codes "purge") refl

pool_act : (a : PoolAct) → Plain (pool_act_text a)
pool_act (turns.Take n f) = said (codes "take ") refl & number n & space & or_number (codes "none") f refl
pool_act (turns.Give n f) = said (codes "give ") refl & number n & space & number f

held : (h : Held) → Plain (held_text h)
held handles.Nothing = said (codes "-") refl
held (handles.Own s) = said (codes "own:") refl & slot s
held (handles.Ref s) = said (codes "ref:") refl & slot s

tally : (w : List ℕ) (t : Tally) → has_no_lf w ≡ true → Plain (tally_text w t)
tally w t e = field w t.slots e & field (codes " ") t.bytes refl

places : (s : ReportLine) → Plain (places_text s)
unfolding places_text
places s =
    field (codes "s ") s.phase refl & field (codes " ") s.partition refl & tally (codes " live ") s.live refl & tally
    (codes " quarantined ") s.quarantined refl
    & tally (codes " cached ") s.cached refl & tally (codes " root ") s.root refl

sizes : (s : ReportLine) → Plain (bytes_text s)
sizes s = field (codes " committed ") s.committed refl & field (codes " reserved ") s.reserved refl

spans : (s : ReportLine) → Plain (spans_text s)
unfolding spans_text
spans s =
    field (codes " full ") s.full refl & field (codes " active ") s.active refl & field (codes " empty ") s.empty refl & field
    (codes " decommitted ") s.decommitted refl

-- ---- lines

-- the text is one line with its LF
abbrev pub EndsOnce : List ℕ → Type 0
EndsOnce text = (line : List ℕ) × IsOneLine line × (text ≡ line ++ 10 ∷ [])

ends : {line : List ℕ} → Plain line → EndsOnce (line ++ 10 ∷ [])
ends {line} p = (line, p.line, refl)

pub item_line : (i : Item) → EndsOnce (item_text i)
item_line items.Head = ends (said (codes "run 1") refl)
item_line (items.Record e) = ends (said (codes "e ") refl & number e.line & space & number e.thread & space & answer e.answer)
item_line (items.Root p j e) =
    ends (field (codes "r ") p refl & field (codes " ") j refl & field (codes " ") e.line refl & space & root_act e.act)
item_line (items.Pool j e) =
    ends (field (codes "p ") j refl & field (codes " ") e.line refl & field (codes " ") e.partition refl & space & pool_act e.act)
item_line (items.Cell k j e) =
    ends (field (codes "c ") k refl & field (codes " ") j refl & field (codes " ") e.line refl & space & held e.gave & space & held e.found)
item_line (items.Report s) = ends (places s & sizes s & spans s)
item_line items.End = ends (said (codes "end") refl)
