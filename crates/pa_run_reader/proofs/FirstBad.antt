-- The first bad line, as the reader comes to it: an item that may follow carries on the bad line of the rest, and one that
-- isn't read, or may not follow, is the bad one.
use Rattle.std.proofs.Common.{◌≡◌, ℕ, ◌+◌, ◌<◌, ◌≤◌, ◌^◌, List, [], ◌∷◌, ◌++◌, codes, inl, inr, Option, Some, None, refl, sym, ap, subst, ◌∙◌, arith}
use Rattle.std.proofs.lemmas.Option.{some_pair_parts}
use Rattle.pa_trace.specs.Faults.{lines_of}
use Rattle.pa_run_reader.specs.declared.item.Item.{Item}
use Rattle.pa_run_reader.specs.declared.item.Item.TheVariants as items
use Rattle.pa_run_reader.specs.declared.place.Place.{Place}
use Rattle.pa_run_reader.specs.declared.place.Place.TheVariants.{Head, Record, Root, Pool, Cell, Report, End}
use Rattle.pa_run_reader.specs.Reading.{after_word}
use Rattle.pa_run_reader.specs.Lines.{item_in}
use Rattle.pa_run_reader.specs.Item.{FitsItem, ItemInBits, index_of, item_text}
use Rattle.pa_run_reader.specs.Order.{item_place, StandsBehind, Follows, IsFirstBad}
use Rattle.pa_run_reader.proofs.Fields.{behind_again}
use Rattle.pa_run_reader.proofs.AgainLines.{item_again}
use Rattle.pa_run_reader.proofs.TextLines.{joined, lines_joined, first_line, item_lines}

-- ---- indices

index_at : Place → ℕ
index_at (Root partition index) = index
index_at (Pool index) = index
index_at (Cell cell index) = index
index_at other = 0

index_same : (i : Item) → index_of i ≡ index_at (item_place i)
unfolding index_at
index_same items.Head = refl
index_same (items.Record e) = refl
index_same (items.Root p j e) = refl
index_same (items.Pool j e) = refl
index_same (items.Cell k j e) = refl
index_same (items.Report l) = refl
index_same items.End = refl

next_at : (l p : Place) → StandsBehind l p → index_at p ≤ index_at l + 1
unfolding index_at
next_at (Root p j) (Root q i) (inr (inl h)) = omega (arith, h.1)
next_at (Root p j) (Root q i) (inr (inr h)) = omega (arith, h.1)
next_at (Pool j) (Pool i) (inr h) = omega (arith, h)
next_at (Cell p j) (Cell q i) (inr (inl h)) = omega (arith, h.1)
next_at (Cell p j) (Cell q i) (inr (inr h)) = omega (arith, h.1)
next_at l (Root q i) (inl h) = omega (arith, h.1)
next_at l (Pool i) (inl h) = omega (arith, h.1)
next_at l (Cell q i) (inl h) = omega (arith, h.1)
next_at l Head h = omega arith
next_at l Record h = omega arith
next_at l Report h = omega arith
next_at l End h = omega arith
next_at l p (inr h) = absurd h

-- the index of what follows is at most one more
pub next_index : (last i : Item) → Follows (Some last) i → index_of i ≤ index_of last + 1
next_index last i h = omega (arith, next_at (item_place last) (item_place i) h, index_same last, index_same i)

-- ---- items and their texts

-- a text is of one item
pub one_item : (i j : Item) → ItemInBits i → ItemInBits j → item_text i ≡ item_text j → i ≡ j
one_item i j hi hj e =
    (some_pair_parts i j [] [] (sym (item_again i [] hi) ∙ ap (λ (w : List ℕ). item_in (w ++ [])) e ∙ item_again j [] hj)).0

some_same : (i j : Item) → ◌≡◌ {A = Option Item} (Some i) (Some j) → i ≡ j
some_same i j e = cc

-- ---- after an item

bad_lines : (n : ℕ) (last : Item) (rest : List ℕ) (lines : List (List ℕ)) → lines_of rest ≡ lines → index_of last + 1 < 2 ^ 32
    → ((i : Item) (x : List ℕ) → ItemInBits i → rest ≡ item_text i ++ x → ⊥) → (rest ≡ [] → last ≡ items.End → ⊥) →
    IsFirstBad n (Some last) lines n
bad_lines n last rest [] e few none end = (refl, λ same. end (sym (lines_joined rest) ∙ ap joined e) (some_same last items.End same))
bad_lines n last rest (line ∷ lines) e few none end =
    inl (
      refl,
      λ i fits follows same. none i (joined lines) (fits, omega (arith, next_index last i follows, few))
          (first_line rest line lines e ∙ ap (λ (w : List ℕ). w ++ joined lines) same),
    )

-- no item's line comes first, and it isn't the end of the text
pub not_read : (n : ℕ) (last : Item) (rest : List ℕ) → index_of last + 1 < 2 ^ 32 →
    ((i : Item) (x : List ℕ) → ItemInBits i → rest ≡ item_text i ++ x → ⊥)
    → (rest ≡ [] → last ≡ items.End → ⊥) → IsFirstBad n (Some last) (lines_of rest) n
not_read n last rest few none end = bad_lines n last rest (lines_of rest) refl few none end

lines_here : (i : Item) (rest after : List ℕ) → rest ≡ item_text i ++ after → item_text i ∷ lines_of after ≡ lines_of rest
lines_here i rest after e = sym (ap lines_of e ∙ item_lines i after)

-- an item comes first that may not follow
pub misplaced : (n : ℕ) (last i : Item) (rest after : List ℕ) → index_of last + 1 < 2 ^ 32 → ItemInBits i → rest ≡ item_text i ++ after →
    (Follows (Some last) i → ⊥)
    → IsFirstBad n (Some last) (lines_of rest) n
misplaced n last i rest after few bits e other =
    subst (λ (lines : List (List ℕ)). IsFirstBad n (Some last) lines n) (lines_here i rest after e)
    (inl (
      refl,
      λ j fits follows same.
          let one = one_item i j bits (fits, omega (arith, next_index last j follows, few)) same in
          other (subst (λ (k : Item). Follows (Some last) k) (sym one) follows),
    ))

-- an item comes first that may follow
pub followed : (n m : ℕ) (last i : Item) (rest after : List ℕ) → FitsItem i → Follows (Some last) i → rest ≡ item_text i ++ after
    → IsFirstBad (n + 1) (Some i) (lines_of after) m → IsFirstBad n (Some last) (lines_of rest) m
followed n m last i rest after fits follows e h =
    subst (λ (lines : List (List ℕ)). IsFirstBad n (Some last) lines m) (lines_here i rest after e) (inr (i, fits, follows, refl, h))

-- ---- the head

head_lines : (bytes : List ℕ) (lines : List (List ℕ)) → lines_of bytes ≡ lines → after_word (codes "run 1\n") bytes ≡ None →
    IsFirstBad 1 None lines 1
head_lines bytes [] e none = (refl, λ same. absurd (cc))
head_lines bytes (line ∷ lines) e none =
    inl (
      refl,
      λ i fits follows same.
          let parts : bytes ≡ codes "run 1\n" ++ joined lines = first_line bytes line lines e ∙
          ap (λ (w : List ℕ). w ++ joined lines) (same ∙ ap item_text follows) in
          let read : after_word (codes "run 1\n") bytes ≡ Some (joined lines) = ap (after_word (codes "run 1\n")) parts ∙
          behind_again (codes "run 1\n") (joined lines) in
          absurd (cc),
    )

pub no_head : (bytes : List ℕ) → after_word (codes "run 1\n") bytes ≡ None → IsFirstBad 1 None (lines_of bytes) 1
no_head bytes none = head_lines bytes (lines_of bytes) refl none

pub head_followed : (m : ℕ) (bytes rest : List ℕ) → bytes ≡ codes "run 1\n" ++ rest → IsFirstBad 2 (Some items.Head) (lines_of rest) m →
    IsFirstBad 1 None (lines_of bytes) m
head_followed m bytes rest e h =
    subst (λ (lines : List (List ℕ)). IsFirstBad 1 None lines m) (lines_here items.Head bytes rest e) (inr (items.Head, tt, refl, refl, h))
