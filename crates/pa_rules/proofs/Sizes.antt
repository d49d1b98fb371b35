-- The slot of a request is that of its class, or of its direct map.
use Rattle.std.proofs.Common.{◌≡◌, ℕ, zero, suc, ◌+◌, ◌<◌, ◌≤◌, max, Bool, true, false, List, [], ◌∷◌, Some, None, length, get_or, refl, sym, ◌∙◌, ap, subst, arith}
use Rattle.std.specs.Prelude.{◌-◌, find, nat_le, if◌then◌else◌, slice_range}
use Rattle.std.specs.Option.{option_map_or}
use Rattle.std.proofs.lemmas.Bool.{le-leb, lt-leb}
use Rattle.pa_buckets.specs.Limits.{first_class, past_class}
use Rattle.pa_buckets.specs.Table.{Row, rows, rows_of, row_of, slot_of}
use Rattle.pa_buckets.specs.Classes.{IsClassIn}
use Rattle.pa_buckets.proofs.Tests.{equal_below}
use Rattle.pa_direct.specs.Shapes.{shape_of}
use Rattle.pa_rules.specs.Sizes.{IsMapSize, slot_size_for, SizesFit}
use Rattle.pa_rules.proofs.Versions.{slot_in}

-- the first of a list that passes, and a list of which none does
find_at : {A : Type 0} (test : A → Bool) (xs : List A) (k : ℕ) (d : A) → k < length xs → test (get_or xs k d) ≡ true
    → ((j : ℕ) → j < k → test (get_or xs j d) ≡ false) → find test xs ≡ Some (get_or xs k d)
find_at test [] k d few passes before = absurd (omega arith)
find_at test (x ∷ xs) zero d few passes before = rw passes refl
find_at test (x ∷ xs) (suc k) d few passes before =
    rw (before 0 (omega arith)) (find_at test xs k d (omega arith) passes (λ j less. before (suc j) (omega arith)))

find_nowhere : {A : Type 0} (test : A → Bool) (xs : List A) (d : A) → ((j : ℕ) → j < length xs → test (get_or xs j d) ≡ false) →
    find test xs ≡ None
find_nowhere test [] d none = refl
find_nowhere test (x ∷ xs) d none = rw (none 0 (omega arith)) (find_nowhere test xs d (λ j less. none (suc j) (omega arith)))

-- the rows of a version are by its classes
row_count_by : (b : Bool) →
    length (slice_range rows (if b then 0 else 59) (if b then 59 else 170)) ≡ (if b then 59 else 170) - (if b then 0 else 59)
unfolding rows
row_count_by true = refl
row_count_by false = refl

row_slot_by : (b : Bool) (d : Row) (k : ℕ) → k < (if b then 59 else 170) - (if b then 0 else 59)
    → (get_or (slice_range rows (if b then 0 else 59) (if b then 59 else 170)) k d).slot ≡ slot_of ((if b then 0 else 59) + k)
unfolding rows row_of slot_of
row_slot_by true d k real = equal_below (λ j. (get_or (rows_of 1) j d).slot) (λ j. slot_of (0 + j)) 59 refl k real
row_slot_by false d k real = equal_below (λ j. (get_or (rows_of 2) j d).slot) (λ j. slot_of (59 + j)) 111 refl k real

no_row : Row
no_row = record { class = 0; slot = 0; pages = 0; system = 0; slots = 0; waste = 0 }

abbrev is_enough : ℕ → Row → Bool
is_enough size r = nat_le (max size 1 + 8) r.slot

-- the slot of the first of these rows that is enough for a size
abbrev found_in : List Row → ℕ → ℕ
found_in rs size = option_map_or (λ (r : Row). r.slot) (find (is_enough size) rs) (shape_of size).slot

-- rows of the classes from `first` on
module _ (rs : List Row) (first count : ℕ) (long : length rs ≡ count)
    (slots : (d : Row) (k : ℕ) → k < count → (get_or rs k d).slot ≡ slot_of (first + k)) where
  enough : (size k : ℕ) → k < count → max size 1 + 8 ≤ slot_of (first + k) → is_enough size (get_or rs k no_row) ≡ true
  enough size k real fits = let same = slots no_row k real in le-leb _ _ (omega arith)

  too_small : (size k : ℕ) → k < count → slot_of (first + k) < max size 1 + 8 → is_enough size (get_or rs k no_row) ≡ false
  too_small size k real less = let same = slots no_row k real in lt-leb _ _ (omega arith)

  class_found : (size class : ℕ) → first ≤ class → class < first + count → max size 1 + 8 ≤ slot_of class
      → ((d : ℕ) → first ≤ d → d < class → slot_of d < max size 1 + 8) → found_in rs size ≡ slot_of class
  class_found size class low real fits least =
      let at : first + (class - first) ≡ class = omega arith in
      let here = subst (λ c. max size 1 + 8 ≤ slot_of c) (sym at) fits in
      let found = find_at (is_enough size) rs (class - first) no_row (omega arith) (enough size (class - first) (omega arith) here)
      (λ j less. too_small size j (omega arith) (least (first + j) (omega arith) (omega arith))) in
      ap (λ o. option_map_or (λ (r : Row). r.slot) o (shape_of size).slot) found ∙
      (slots no_row (class - first) (omega arith) ∙ ap slot_of at)

  none_found : (size : ℕ) → ((k : ℕ) → k < count → slot_of (first + k) < max size 1 + 8) → found_in rs size ≡ (shape_of size).slot
  none_found size small =
      let none = find_nowhere (is_enough size) rs no_row
      (λ j less. let real : j < count = omega arith in too_small size j real (small j real)) in
      ap (λ o. option_map_or (λ (r : Row). r.slot) o (shape_of size).slot) none

-- a version has a class at least
some_by : (b : Bool) → (if b then 0 else 59) < (if b then 59 else 170)
some_by true = omega arith
some_by false = omega arith

class_size : (version size class : ℕ) → IsClassIn version (max size 1 + 8) class → slot_size_for version size ≡ slot_of class
unfolding slot_size_for
class_size version size class h =
    let b = nat_le version 1 in
    let low = h.from in
    let real = h.real in
    class_found (rows_of version) (first_class version) (past_class version - first_class version) (row_count_by b) (row_slot_by b)
    size class low (omega arith) h.fits h.least

direct_size : (version size : ℕ) → IsMapSize version size → slot_size_for version size ≡ (shape_of size).slot
unfolding slot_size_for
direct_size version size (large, within) =
    let b = nat_le version 1 in
    let some' = some_by b in
    none_found (rows_of version) (first_class version) (past_class version - first_class version) (row_count_by b) (row_slot_by b) size
    (λ k few. let most = slot_in version (first_class version + k) (omega arith, omega arith) in omega arith)

pub sizes_fit : SizesFit
sizes_fit = record { class = class_size; direct = direct_size }
