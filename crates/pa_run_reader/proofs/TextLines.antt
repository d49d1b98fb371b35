-- The lines of a text of items.
use Rattle.std.proofs.Common.{◌≡◌, ℕ, List, [], ◌∷◌, ◌++◌, refl, sym, ap, ◌∙◌, append_assoc, inl, inr}
use Rattle.std.specs.List.{flat_map}
use Rattle.std.proofs.lemmas.Bool.{cases_eq}
use Rattle.pa_trace.specs.Faults.{with_front, lines_of}
use Rattle.pa_trace.proofs.Cuts.{lf_front, other_front, cut_lines}
use Rattle.pa_run_reader.specs.declared.item.Item.{Item}
use Rattle.pa_run_reader.specs.Item.{item_text}
use Rattle.pa_run_reader.proofs.OneLine.{item_line}

-- lines, one after the other
abbrev pub joined : List (List ℕ) → List ℕ
joined lines = flat_map (λ line. line) lines

front_joined : (b : ℕ) (lines : List (List ℕ)) → joined (with_front b lines) ≡ b ∷ joined lines
front_joined b [] = refl
front_joined b (line ∷ lines) =
    elim (cases_eq b 10) [
      | inl lf ↦ let split : with_front 10 (line ∷ lines) ≡ (10 ∷ []) ∷ line ∷ lines = lf_front (line ∷ lines) in
          rw lf (ap joined split)
      | inr other ↦ ap joined (other_front b line lines other)
    ]

-- the lines of a text are the text
pub lines_joined : (bytes : List ℕ) → joined (lines_of bytes) ≡ bytes
unfolding lines_of
lines_joined [] = refl
lines_joined (b ∷ bytes) = front_joined b (lines_of bytes) ∙ ap (λ (w : List ℕ). b ∷ w) (lines_joined bytes)

-- the first line comes first
pub first_line : (bytes line : List ℕ) (lines : List (List ℕ)) → lines_of bytes ≡ line ∷ lines → bytes ≡ line ++ joined lines
first_line bytes line lines e = sym (lines_joined bytes) ∙ ap joined e

-- an item's line is a line
pub item_lines : (i : Item) (after : List ℕ) → lines_of (item_text i ++ after) ≡ item_text i ∷ lines_of after
item_lines i after =
    let t = item_line i in
    ap lines_of (ap (λ (w : List ℕ). w ++ after) t.2 ∙ append_assoc t.0 (10 ∷ []) after) ∙ cut_lines t.0 after t.1
    ∙ ap (λ (w : List ℕ). w ∷ lines_of after) (sym t.2)
