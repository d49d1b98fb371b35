-- The records beside their ops are the trace's op lines and the run's records, if those are due.
use Rattle.std.proofs.Common.{◌≡◌, ℕ, List, [], ◌∷◌, map, refl, sym, ◌∙◌, ap, drop, get_or}
use Rattle.std.specs.Prelude.{zip}
use Rattle.pa_record.specs.declared.entry.Entry.{Entry}
use Rattle.pa_rules.specs.declared.played.Played.{Played}
use Rattle.pa_rules.specs.Played.{OpLine, op_lines, op_line_of, entry_of, beside, key_of_line, key_of_entry}
use Rattle.pa_rules.specs.Laws.{RecordsAreLines}

-- the lists have the same keys, index by index
abbrev HaveKeys : List OpLine → List Entry → Type 0
HaveKeys os es = map key_of_entry es ≡ map key_of_line os

head_key : (e : Entry) (o : OpLine) (es : List Entry) (os : List OpLine) → HaveKeys (o ∷ os) (e ∷ es) → key_of_entry e ≡ key_of_line o
head_key e o es os h = ap (λ z. get_or z 0 (key_of_entry e)) h

lines_of : (os : List OpLine) (es : List Entry) → HaveKeys os es → map op_line_of (map beside (zip os es)) ≡ os
lines_of [] es h = refl
lines_of (o ∷ os) [] h = absurd cc
lines_of (o ∷ os) (e ∷ es) h = ap (λ zs. o ∷ zs) (lines_of os es (ap (drop 1) h))

told_of : (os : List OpLine) (es : List Entry) → HaveKeys os es → map entry_of (map beside (zip os es)) ≡ es
told_of [] [] h = refl
told_of [] (e ∷ es) h = absurd cc
told_of (o ∷ os) [] h = refl
told_of (o ∷ os) (e ∷ es) h =
    let key = head_key e o es os h in
    let same : entry_of (beside (o, e)) ≡ e =
    ap {B = Entry} (λ (k : ℕ × ℕ). record { line = k.0; thread = k.1; answer = e.answer }) (sym key) in
    ap (λ z. z ∷ map entry_of (map beside (zip os es))) same ∙ ap (λ zs. e ∷ zs) (told_of os es (ap (drop 1) h))

keys_of : (ps : List Played) → map key_of_entry (map entry_of ps) ≡ map key_of_line (map op_line_of ps)
keys_of [] = refl
keys_of (p ∷ ps) = ap (λ zs. key_of_entry (entry_of p) ∷ zs) (keys_of ps)

beside_of : (ps : List Played) → map beside (zip (map op_line_of ps) (map entry_of ps)) ≡ ps
beside_of [] = refl
beside_of (p ∷ ps) = ap (λ zs. p ∷ zs) (beside_of ps)

pub records_are_lines : RecordsAreLines
records_are_lines = record {
  lines = λ rules ls es h. lines_of (op_lines rules 2 1 ls) es h;
  told = λ rules ls es h. told_of (op_lines rules 2 1 ls) es h;
  due = λ rules ls ps h. keys_of ps ∙ ap (map key_of_line) h;
  same = λ rules ls ps h. ap (λ os. map beside (zip os (map entry_of ps))) (sym h) ∙ beside_of ps;
}
