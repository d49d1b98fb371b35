-- The shapes of the tables after each change.
use Rattle.std.proofs.Common.{◌≡◌, ℕ, ◌<◌, ◌≤◌, ◌⊎◌, List, [], length, set, get_or, Some, sym, ap, ◌∙◌, subst, arith, length-set, inl, inr}
use Rattle.std.specs.Prelude.{slice_index_or, Contains}
use Rattle.std.proofs.lemmas.Bool.{cases_eq, cases_lt}
use Rattle.std.proofs.lemmas.List.{get_or-set_same, get_or-set_other, set_past}
use Rattle.pa_buckets.specs.Bands.{limit_of}
use Rattle.pa_record.specs.declared.report.Tally.{Tally}
use Rattle.pa_record.specs.Root.{Root}
use Rattle.pa_record.specs.Pool.{PoolState}
use Rattle.pa_rules.specs.declared.register.Register.{Register}
use Rattle.pa_rules.specs.declared.register.Register.TheVariants.{Empty, Own, Ref, Freed, Cleared}
use Rattle.pa_player.specs.declared.table.Slot.{Slot}
use Rattle.pa_player.specs.Player.{Player}
use Rattle.pa_player.specs.Tables.{slot_at, IsIn, handle_in}
use Rattle.pa_player.specs.Told.{Lists}
use Rattle.pa_player.specs.Playing.{register_at, cell_at, list_place, list_at, AreShaped}
use Rattle.pa_player.specs.Changes.{registered, listed}
use Rattle.pa_player.proofs.Slots.{KeepsSlots}
use Rattle.pa_player.proofs.OneList.{same_place}
use Rattle.pa_rules.specs.Sizes.{HasClass}

-- what is in a place of a list in which one was set
pub set_cases : {X : Type 0} (xs : List X) (i j : ℕ) (y d : X) → ((j ≡ i) × (get_or (set xs i y) j d ≡ y)) ⊎
    (get_or (set xs i y) j d ≡ get_or xs j d)
set_cases {X} xs i j y d = elim (cases_lt i (length xs)) [
  | inl low ↦ elim (cases_eq j i) [
    | inl e ↦
        let P : ℕ → Type 0 = λ k. get_or (set xs i y) k d ≡ y in
        inl (e, subst P (sym e) (get_or-set_same xs i y d low))
    | inr ne ↦ inr (get_or-set_other xs i j y d ne)
  ]
  | inr past ↦ inr (ap (λ zs. get_or zs j d) (set_past xs i y past))
]

-- the length of a row of rows, in which one was set by another of the same length
pub rows_set : {X : Type 0} (xs : List (List X)) (i j : ℕ) (ys : List X) → length ys ≡ length (get_or xs i []) →
    length (get_or (set xs i ys) j []) ≡ length (get_or xs j [])
rows_set {X} xs i j ys same = elim (set_cases xs i j ys []) [
  | inl h ↦
      let P : ℕ → Type 0 = λ k. length (get_or (set xs i ys) j []) ≡ length (get_or xs k []) in
      subst P (sym h.0) (ap length h.1 ∙ same)
  | inr e ↦ ap length e
]

-- a place stays in a longer table
pub in_longer : (n m : ℕ) (x : Register ℕ) → n ≤ m → IsIn n x → IsIn m x
in_longer n m Empty low among = tt
in_longer n m (Own place) low among = omega (arith, low, among)
in_longer n m (Ref place) low among = omega (arith, low, among)
in_longer n m Freed low among = tt
in_longer n m Cleared low among = tt

module _ (partitions threads : ℕ) (p : Player) (h : AreShaped partitions threads p) where
  -- the table of slots, if those that were there stay
  pub shaped_table : (slots : List Slot) → KeepsSlots p.table slots → AreShaped partitions threads (record p { table = slots })
  shaped_table slots keeps = record {
    many = h.many;
    four = h.four;
    registers = h.registers;
    sixty_four = h.sixty_four;
    cells = h.cells;
    histories = h.histories;
    journals = h.journals;
    roots = h.roots;
    lists = h.lists;
    short = h.short;
    live = h.live;
    quarantined = h.quarantined;
    cached = h.cached;
    held = λ t r. in_longer (length p.table) (length slots) (register_at p t r) keeps.longer (h.held t r);
    celled = λ k. in_longer (length p.table) (length slots) (cell_at p k) keeps.longer (h.celled k);
    handles = h.handles;
    listed = λ t q class i below low real among.
        let a = h.listed t q class i below low real among in
        (omega (arith, a.0, keeps.longer), keeps.partition i a.0 ∙ a.1, keeps.class i a.0 ∙ a.2);
  }

  -- a register, and a cell
  pub shaped_registered : (t r : ℕ) (x : Register ℕ) → IsIn (length p.table) x → AreShaped partitions threads (registered t r x p)
  shaped_registered t r x among =
      let row = slice_index_or p.registers t [] in
      let new = set row r x in
      record {
        many = h.many;
        four = h.four;
        cells = h.cells;
        histories = h.histories;
        journals = h.journals;
        roots = h.roots;
        lists = h.lists;
        celled = h.celled;
        handles = h.handles;
        listed = h.listed;
        short = h.short;
        live = h.live;
        quarantined = h.quarantined;
        cached = h.cached;
        registers = length-set p.registers t new ∙ h.registers;
        sixty_four = λ u low. rows_set p.registers t u new (length-set row r x) ∙ h.sixty_four u low;
        held = λ u k. elim (set_cases p.registers t u new []) [
          | inl a ↦ elim (set_cases row r k x Empty) [
            | inl b ↦ subst (IsIn (length p.table)) (sym (ap (λ (zs : List (Register ℕ)). get_or zs k Empty) a.1 ∙ b.1)) among
            | inr b ↦ subst (IsIn (length p.table)) (sym (ap (λ (zs : List (Register ℕ)). get_or zs k Empty) a.1 ∙ b)) (h.held t k)
          ]
          | inr a ↦ subst (IsIn (length p.table)) (sym (ap (λ (zs : List (Register ℕ)). get_or zs k Empty) a)) (h.held u k)
        ];
      }

  pub shaped_celled : (k : ℕ) (x : Register ℕ) → IsIn (length p.table) x → handle_in x ≡ x →
      AreShaped partitions threads (record p { cells = set p.cells k x })
  shaped_celled k x among handle = record {
    many = h.many;
    four = h.four;
    registers = h.registers;
    sixty_four = h.sixty_four;
    histories = h.histories;
    journals = h.journals;
    roots = h.roots;
    lists = h.lists;
    held = h.held;
    listed = h.listed;
    short = h.short;
    live = h.live;
    quarantined = h.quarantined;
    cached = h.cached;
    cells = length-set p.cells k x ∙ h.cells;
    celled = λ j. elim (set_cases p.cells k j x Empty) [
      | inl a ↦ subst (IsIn (length p.table)) (sym a.1) among
      | inr a ↦ subst (IsIn (length p.table)) (sym a) (h.celled j)
    ];
    handles = λ j. elim (set_cases p.cells k j x Empty) [
      | inl a ↦ subst (λ z. handle_in z ≡ z) (sym a.1) handle
      | inr a ↦ subst (λ z. handle_in z ≡ z) (sym a) (h.handles j)
    ];
  }

  -- a list, whose slots are of its partition and class
  pub shaped_listed : (t q class : ℕ) (xs : List ℕ) → t < threads → q < partitions → HasClass p.version class
      → ((i : ℕ) → Contains xs i → (i < length p.table) × ((slot_at p.table i).partition ≡ q) × ((slot_at p.table i).class ≡ Some class))
      → length xs ≤ limit_of class → AreShaped partitions threads (listed (list_place p.version p.partitions t q class) xs p)
  shaped_listed t q class xs below low real each few =
      let at = list_place p.version p.partitions t q class in
      let where_is : (u k c : ℕ) → k < partitions → HasClass p.version c → list_place p.version p.partitions u k c ≡ at → (u ≡ t) ×
      (k ≡ q) × (c ≡ class) =
      λ u k c inside within e. same_place p.version p.partitions u k c t q class (omega (arith, inside, h.many))
      (omega (arith, low, h.many)) within real e in
      record {
        many = h.many;
        four = h.four;
        registers = h.registers;
        sixty_four = h.sixty_four;
        cells = h.cells;
        histories = h.histories;
        journals = h.journals;
        roots = h.roots;
        held = h.held;
        celled = h.celled;
        handles = h.handles;
        live = h.live;
        quarantined = h.quarantined;
        cached = h.cached;
        lists = length-set p.caches at xs ∙ h.lists;
        listed = λ u k c i lower inside within among. elim (set_cases p.caches at (list_place p.version p.partitions u k c) xs []) [
          | inl new ↦
              let (thread, partition, same) = where_is u k c inside within new.0 in
              let a = each i (subst (λ z. Contains z i) new.1 among) in
              (a.0, a.1 ∙ sym partition, a.2 ∙ ap (λ z. Some z) (sym same))
          | inr old ↦ h.listed u k c i lower inside within (subst (λ z. Contains z i) old among)
        ];
        short = λ u k c lower inside within. elim (set_cases p.caches at (list_place p.version p.partitions u k c) xs []) [
          | inl new ↦
              let (thread, partition, same) = where_is u k c inside within new.0 in
              let long : length (get_or (set p.caches at xs) (list_place p.version p.partitions u k c) []) ≡ length xs = ap length new.1 in
              let limit : limit_of class ≡ limit_of c = ap limit_of (sym same) in
              omega (arith, long, limit, few)
          | inr old ↦
              let long : length (get_or (set p.caches at xs) (list_place p.version p.partitions u k c) []) ≡ length (list_at p u k c) =
              ap length old in
              omega (arith, long, h.short u k c lower inside within)
        ];
      }

  -- the tallies
  pub shaped_live : (ts : List Tally) → length ts ≡ 4 → AreShaped partitions threads (record p { live = record { of = ts } })
  shaped_live ts four = record {
    many = h.many;
    four = h.four;
    registers = h.registers;
    sixty_four = h.sixty_four;
    cells = h.cells;
    histories = h.histories;
    journals = h.journals;
    roots = h.roots;
    lists = h.lists;
    held = h.held;
    celled = h.celled;
    handles = h.handles;
    listed = h.listed;
    short = h.short;
    quarantined = h.quarantined;
    cached = h.cached;
    live = four;
  }

  pub shaped_quarantined : (ts : List Tally) → length ts ≡ 4 → AreShaped partitions threads (record p { quarantined = record { of = ts } })
  shaped_quarantined ts four = record {
    many = h.many;
    four = h.four;
    registers = h.registers;
    sixty_four = h.sixty_four;
    cells = h.cells;
    histories = h.histories;
    journals = h.journals;
    roots = h.roots;
    lists = h.lists;
    held = h.held;
    celled = h.celled;
    handles = h.handles;
    listed = h.listed;
    short = h.short;
    live = h.live;
    cached = h.cached;
    quarantined = four;
  }

  pub shaped_cached : (ts : List Tally) → length ts ≡ 4 → AreShaped partitions threads (record p { cached = record { of = ts } })
  shaped_cached ts four = record {
    many = h.many;
    four = h.four;
    registers = h.registers;
    sixty_four = h.sixty_four;
    cells = h.cells;
    histories = h.histories;
    journals = h.journals;
    roots = h.roots;
    lists = h.lists;
    held = h.held;
    celled = h.celled;
    handles = h.handles;
    listed = h.listed;
    short = h.short;
    live = h.live;
    quarantined = h.quarantined;
    cached = four;
  }

  -- what is reported, and the roots and the pool
  pub shaped_told : (told : Lists) → length told.journals ≡ length p.told.journals → length told.histories ≡ length p.told.histories
      → AreShaped partitions threads (record p { told = told })
  shaped_told told journals histories = record {
    many = h.many;
    four = h.four;
    registers = h.registers;
    sixty_four = h.sixty_four;
    cells = h.cells;
    roots = h.roots;
    lists = h.lists;
    held = h.held;
    celled = h.celled;
    handles = h.handles;
    listed = h.listed;
    short = h.short;
    live = h.live;
    quarantined = h.quarantined;
    cached = h.cached;
    journals = journals ∙ h.journals;
    histories = histories ∙ h.histories;
  }

  pub shaped_heap : (pool : PoolState) (roots : List Root) → length roots ≡ length p.heap.roots
      → AreShaped partitions threads (record p { heap = record { pool = pool; roots = roots } })
  shaped_heap pool roots same = record {
    many = h.many;
    four = h.four;
    registers = h.registers;
    sixty_four = h.sixty_four;
    cells = h.cells;
    histories = h.histories;
    journals = h.journals;
    lists = h.lists;
    held = h.held;
    celled = h.celled;
    handles = h.handles;
    listed = h.listed;
    short = h.short;
    live = h.live;
    quarantined = h.quarantined;
    cached = h.cached;
    roots = same ∙ h.roots;
  }
