-- The lists of the caches in rows: what the sum of a row tells of its lists, and what it is when one of them changes.
use Rattle.std.proofs.Common.{◌≡◌, ℕ, suc, ◌+◌, ◌-◌, ◌*◌, ◌/◌, ◌%◌, ◌<◌, ◌≤◌, List, [], length, get_or, replicate, set, take, drop, sym, ◌∙◌, ap, subst, arith, inl, inr}
use Rattle.std.specs.List.{All, sum_by}
use Rattle.std.proofs.Math.Nat.{mul-le-mul_right}
use Rattle.std.proofs.Math.Seq.{take-set-lt}
use Rattle.std.proofs.lemmas.Bool.{cases_eq, cases_order}
use Rattle.std.proofs.lemmas.List.{drop-set-add, drop-set-lt, get_or-drop, get_or-replicate, get_or-set_other, get_or-set_same, get_or-take, get_or_read, length-drop, length-replicate, length-set, length-take, nil_from_length, take-set-le}
use Rattle.std.proofs.lemmas.List.Elements.{All-drop, All-set, All-take}
use Rattle.std.proofs.lemmas.List.Sums.{get_or-le-sum_by, sum_by-le, sum_by-set}
use Rattle.std.proofs.lemmas.Nat.{div-add-mod', div_below, mod_below}
use Rattle.pa_player.specs.Lists.{AreSummed, row_in}

-- ---- rows

-- a list of a row
list_in_row : (lists : List (List ℕ)) (classes row k : ℕ) → k < classes →
    get_or (row_in lists classes row) k [] ≡ get_or lists (row * classes + k) []
list_in_row lists classes row k low = get_or-take classes (drop (row * classes) lists) k [] low ∙ get_or-drop (row * classes) lists k []

-- what is true of all lists is true of those of a row
all_in_row : (P : List ℕ → Type 0) (lists : List (List ℕ)) (classes row : ℕ) → All P lists → All P (row_in lists classes row)
all_in_row P lists classes row all = All-take P classes (drop (row * classes) lists) (All-drop P (row * classes) lists all)

-- a list has a class, and its row has a sum
some_classes : {lists : List (List ℕ)} {classes : ℕ} {sums : List ℕ} {at : ℕ} → AreSummed lists classes sums → at < length lists →
    0 < classes
some_classes h among = grind (arith, h.many, among)

row_among : {lists : List (List ℕ)} {classes : ℕ} {sums : List ℕ} {at : ℕ} → AreSummed lists classes sums → at < length lists →
    at / classes < length sums
row_among {lists} {classes} {sums} {at} h among = div_below at classes (length sums) (some_classes h among) (omega (arith, h.many, among))

-- a list comes before the end of its row
pub row_end : {lists : List (List ℕ)} {classes : ℕ} {sums : List ℕ} {at : ℕ} → AreSummed lists classes sums → at < length lists →
    at < (at / classes + 1) * classes
row_end {lists} {classes} {sums} {at} h among = omega (arith, div-add-mod' at classes, mod_below at classes (some_classes h among))

-- a row has all of its lists
row_long : {lists : List (List ℕ)} {classes : ℕ} {sums : List ℕ} (row : ℕ) → AreSummed lists classes sums → row < length sums →
    length (row_in lists classes row) ≡ classes
row_long {lists} {classes} {sums} row h among =
    let end : suc row * classes ≤ length sums * classes = mul-le-mul_right classes among in
    omega (arith, h.many, end, length-take classes (drop (row * classes) lists), length-drop (row * classes) lists)

-- the row of a changed list
row_changed : (lists : List (List ℕ)) (classes row k : ℕ) (next : List ℕ) → k < classes →
    row_in (set lists (row * classes + k) next) classes row ≡ set (row_in lists classes row) k next
row_changed lists classes row k next low = ap (take classes) (drop-set-add (row * classes) lists k next) ∙
    take-set-lt classes (drop (row * classes) lists) k next low

-- another row stays
row_kept : (lists : List (List ℕ)) (classes row other k : ℕ) (next : List ℕ) → k < classes → (other ≡ row → ⊥) →
    row_in (set lists (row * classes + k) next) classes other ≡ row_in lists classes other
row_kept lists classes row other k next low ne = elim (cases_order other row) [
  | inl same ↦ absurd (ne same)
  | inr (inl less) ↦
      let end : suc other * classes ≤ row * classes = mul-le-mul_right classes less in
      let i : ℕ = row * classes + k - other * classes in
      let place : row * classes + k ≡ other * classes + i = omega (arith, end) in
      ap (λ at. row_in (set lists at next) classes other) place ∙ ap (take classes) (drop-set-add (other * classes) lists i next)
      ∙ take-set-le classes (drop (other * classes) lists) i next (omega (arith, end))
  | inr (inr more) ↦
      let end : suc row * classes ≤ other * classes = mul-le-mul_right classes more in
      ap (take classes) (drop-set-lt (other * classes) lists (row * classes + k) next (omega (arith, end, low)))
]

-- ---- a list and the sum of its row

-- these are the slots of the list at an index, and this is the sum of its row
pub record AreRead (lists : List (List ℕ)) (classes : ℕ) (sums : List ℕ) (at : ℕ) (slots : List ℕ) (sum : ℕ) : Type 0 where
  pub summed : AreSummed lists classes sums
  pub row : at / classes < length sums
  pub place : at % classes < classes
  pub list : slots ≡ get_or lists at []
  pub short : length slots ≤ 65
  pub total : sum ≡ sum_by length (row_in lists classes (at / classes))

pub are_read : {lists : List (List ℕ)} {classes : ℕ} {sums : List ℕ} {at : ℕ} {slots : List ℕ} {sum : ℕ} → AreSummed lists classes sums →
    at < length lists
    → slots ≡ get_or lists at slots → sum ≡ get_or sums (at / classes) sum → AreRead lists classes sums at slots sum
are_read {lists} {classes} {sums} {at} {slots} {sum} h among list total = record {
  summed = h;
  row = row_among h among;
  place = mod_below at classes (some_classes h among);
  list = get_or_read lists at slots among list [];
  short = subst (λ xs. length xs ≤ 65) (sym list) (h.short at slots among);
  total = get_or_read sums (at / classes) sum (row_among h among) total 0 ∙ h.each (at / classes) (row_among h among);
}

-- the list in its row
list_there : {lists : List (List ℕ)} {classes : ℕ} {sums : List ℕ} {at : ℕ} {slots : List ℕ} {sum : ℕ} →
    AreRead lists classes sums at slots sum
    → get_or (row_in lists classes (at / classes)) (at % classes) [] ≡ slots
list_there {lists} {classes} {sums} {at} r = list_in_row lists classes (at / classes) (at % classes) r.place ∙
    ap (λ k. get_or lists k []) (div-add-mod' at classes) ∙ sym r.list

-- a list's slots are among those of its row
pub list_part : {lists : List (List ℕ)} {classes : ℕ} {sums : List ℕ} {at : ℕ} {slots : List ℕ} {sum : ℕ} →
    AreRead lists classes sums at slots sum → length slots ≤ sum
list_part {lists} {classes} {sums} {at} r =
    let part = get_or-le-sum_by length (row_in lists classes (at / classes)) (at % classes) []
    (omega (arith, row_long (at / classes) r.summed r.row, r.place)) in
    omega (arith, ap length (list_there r), r.total, part)

-- a sum is small
pub sum_small : {lists : List (List ℕ)} {classes : ℕ} {sums : List ℕ} {at : ℕ} {slots : List ℕ} {sum : ℕ} →
    AreRead lists classes sums at slots sum → sum ≤ classes * 65
sum_small {lists} {classes} {sums} {at} r =
    let row = row_in lists classes (at / classes) in
    let most : sum_by length row ≤ length row * 65 =
    sum_by-le length 65 row (all_in_row (λ xs. length xs ≤ 65) lists classes (at / classes) r.summed.short) in
    omega (arith, most, r.total, row_long (at / classes) r.summed r.row)

-- a list changes, and the sum of its row by as many slots
pub summed_set : {lists : List (List ℕ)} {classes : ℕ} {sums : List ℕ} {at : ℕ} {slots : List ℕ} {sum : ℕ} (next : List ℕ) (after : ℕ) →
    AreRead lists classes sums at slots sum
    → length next ≤ 65 → after + length slots ≡ sum + length next → AreSummed (set lists at next) classes (set sums (at / classes) after)
summed_set {lists} {classes} {sums} {at} next after r few is = record {
  many = length-set lists at next ∙ r.summed.many ∙ ap (λ n. n * classes) (sym (length-set sums row after));
  short = All-set (λ (xs : List ℕ). length xs ≤ 65) lists at next few r.summed.short;
  each = λ other among. elim (cases_eq other row) [
    | inl same ↦ subst (λ z. get_or (set sums row after) z 0 ≡ sum_by length (row_in (set lists at next) classes z)) (sym same)
        (get_or-set_same sums row after 0 r.row ∙ here)
    | inr ne ↦ get_or-set_other sums row other after 0 ne ∙ r.summed.each other (omega (arith, among, length-set sums row after)) ∙
        ap (sum_by length) (sym (there other ne))
  ];
}
  where
    row : ℕ
    row = at / classes

    k : ℕ
    k = at % classes

    place : row * classes + k ≡ at
    place = div-add-mod' at classes

    changed : row_in (set lists at next) classes row ≡ set (row_in lists classes row) k next
    changed = subst (λ z. row_in (set lists z next) classes row ≡ set (row_in lists classes row) k next) place
        (row_changed lists classes row k next r.place)

    here : after ≡ sum_by length (row_in (set lists at next) classes row)
    here =
        let both = sum_by-set length (row_in lists classes row) k next [] (omega (arith, row_long row r.summed r.row, r.place)) in
        omega (arith, is, both, r.total, ap length (list_there r), ap (sum_by length) changed)

    there : (other : ℕ) → (other ≡ row → ⊥) → row_in (set lists at next) classes other ≡ row_in lists classes other
    there other ne = subst (λ z. row_in (set lists z next) classes other ≡ row_in lists classes other) place
        (row_kept lists classes row other k next r.place ne)

-- ---- empty lists

-- if a row has no slots, its lists from one on are empty
pub none_left : {lists : List (List ℕ)} {classes : ℕ} {sums : List ℕ} {at sum : ℕ} (k : ℕ) → AreSummed lists classes sums →
    at < length lists
    → sum ≡ get_or sums (at / classes) sum → sum ≡ 0 → at ≤ k → k < (at / classes + 1) * classes → get_or lists k [] ≡ []
none_left {lists} {classes} {sums} {at} {sum} k h among total none from to =
    let row = row_in lists classes (at / classes) in
    let start = div-add-mod' at classes in
    let i : ℕ = k - at / classes * classes in
    let low : i < classes = omega (arith, start, from, to) in
    let here : at / classes * classes + i ≡ k = omega (arith, start, from) in
    let is = get_or_read sums (at / classes) sum (row_among h among) total 0 ∙ h.each (at / classes) (row_among h among) in
    let part = get_or-le-sum_by length row i [] (omega (arith, row_long (at / classes) h (row_among h among), low)) in
    ap (λ z. get_or lists z []) (sym here) ∙ sym (list_in_row lists classes (at / classes) i low) ∙
    nil_from_length (get_or row i []) (omega (arith, is, none, part))

-- rows of empty lists have no slots
pub none_summed : (lists : List (List ℕ)) (count classes : ℕ) → length lists ≡ count * classes → All (λ xs. xs ≡ []) lists →
    AreSummed lists classes (replicate count 0)
none_summed lists count classes many none = record {
  many = many ∙ ap (λ n. n * classes) (sym (length-replicate {A = ℕ} count 0));
  short = λ k d low. omega (arith, ap length (none k d low));
  each = λ k among. get_or-replicate count k 0 0 (omega (arith, among, length-replicate {A = ℕ} count 0)) ∙ sym (no_slots k);
}
  where
    no_slots : (row : ℕ) → sum_by length (row_in lists classes row) ≡ 0
    no_slots row =
        let empty : All (λ xs. length xs ≤ 0) lists = λ k d low. omega (arith, ap length (none k d low)) in
        omega (arith, sum_by-le length 0 (row_in lists classes row) (all_in_row (λ xs. length xs ≤ 0) lists classes row empty))
