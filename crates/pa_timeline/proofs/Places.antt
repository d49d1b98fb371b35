-- Where moments are in an order of steps: each step of a record has a place, and lines, numbers and lists say which place comes first.
use Rattle.std.proofs.Common.{◌≡◌, ◌≢◌, ℕ, zero, suc, ◌+◌, ◌<◌, ◌≤◌, cond, List, [], ◌∷◌, ◌++◌, length, get_or, Option, Some, None, ◌⊎◌, if◌then◌else◌, refl, sym, ◌∙◌, ap, subst, arith, inl, inr, append_assoc}
use Rattle.std.specs.Prelude.{Contains, AllPairs, filter, ◌==◌}
use Rattle.std.specs.List.{cons_option, filter_map}
use Rattle.std.proofs.lemmas.Bool.{cases_lt, cases_eq, eqb-true, eq-eqb, ne_eqb}
use Rattle.std.proofs.lemmas.List.Elements.{filter_map-append, All-contains}
use Rattle.std.proofs.lemmas.List.Sums.{sum_by-append}
use Rattle.pa_slot.specs.Count.{number_of}
use Rattle.pa_slot.specs.Run.{Mark}
use Rattle.pa_record.specs.declared.history.CellEntry.{CellEntry}
use Rattle.pa_record.specs.declared.pool.PoolEntry.{PoolEntry}
use Rattle.pa_lists.proofs.Members.{of_some}
use Rattle.pa_lists.proofs.Joined.{map_cases, map_in, filter_cases, filter_in}
use Rattle.pa_rules.specs.declared.played.Played.{Played}
use Rattle.pa_rules.specs.Played.{mark_of}
use Rattle.pa_rules.specs.Order.{StandsBefore}
use Rattle.pa_rules.specs.Roots.{Journals}
use Rattle.pa_rules.proofs.Running.{one_by}
use Rattle.pa_timeline.specs.Timeline.{Part, Moment, parts_in, is_counted_on, counted_steps, IsTouch, IsStepOrder}

-- the member at a place
abbrev pub IsAt : {A : Type 0} → List A → ℕ → A → Type 0
IsAt xs i x = (i < length xs) × (get_or xs i x ≡ x)

-- a list is cut at a place, and at a later one
pub cut_one : {A : Type 0} (xs : List A) (i : ℕ) (x : A) → IsAt xs i x → (us vs : List A) × (xs ≡ us ++ x ∷ vs) × (length us ≡ i)
cut_one [] i x (less, is) = absurd (omega arith)
cut_one (y ∷ xs) zero x (less, is) = ([], xs, ap (λ z. z ∷ xs) is, refl)
cut_one (y ∷ xs) (suc i) x (less, is) =
    let (us, vs, cut, place) = cut_one xs i x (omega arith, is) in
    (y ∷ us, vs, ap (λ zs. y ∷ zs) cut, ap suc place)

pub cut_two : {A : Type 0} (xs : List A) (i j : ℕ) (x y : A) → IsAt xs i x → IsAt xs j y → i < j →
    (us vs ws : List A) × (xs ≡ us ++ x ∷ (vs ++ y ∷ ws))
cut_two [] i j x y (less, is) at up = absurd (omega arith)
cut_two (z ∷ xs) zero zero x y at at' up = absurd (omega arith)
cut_two (z ∷ xs) zero (suc j) x y (less, is) (less', is') up =
    let (vs, ws, cut, place) = cut_one xs j y (omega arith, is') in
    ([], vs, ws, ap (λ w. w ∷ xs) is ∙ ap (λ zs. x ∷ zs) cut)
cut_two (z ∷ xs) (suc i) zero x y at at' up = absurd (omega arith)
cut_two (z ∷ xs) (suc i) (suc j) x y (less, is) (less', is') up =
    let (us, vs, ws, cut) = cut_two xs i j x y (omega arith, is) (omega arith, is') (omega arith) in
    (z ∷ us, vs, ws, ap (λ zs. z ∷ zs) cut)

-- one place has one member
pub one_member : {A : Type 0} (xs : List A) (i : ℕ) (x y : A) → IsAt xs i x → IsAt xs i y → x ≡ y
one_member [] i x y (less, is) at = absurd (omega arith)
one_member (z ∷ xs) zero x y (less, is) (less', is') = sym is ∙ is'
one_member (z ∷ xs) (suc i) x y (less, is) (less', is') = one_member xs i x y (omega arith, is) (omega arith, is')

-- ---- lists that come of moments

longer : {A : Type 0} (xs : List A) (y : A) (ys : List A) → length (xs ++ y ∷ ys) ≡ length xs + suc (length ys)
longer [] y ys = omega arith
longer (x ∷ xs) y ys = let ih = longer xs y ys in omega arith

-- the first and a later member of a list of two, and of three
pub in_two : {A : Type 0} (x y u v : A) (us vs ws : List A) → x ∷ y ∷ [] ≡ us ++ v ∷ (vs ++ u ∷ ws) → (x ≡ v) × (y ≡ u)
in_two x y u v [] [] ws e = (ap (λ zs. get_or zs 0 x) e, ap (λ zs. get_or zs 1 x) e)
in_two x y u v [] (b ∷ vs) ws e = absurd (let n = ap length e in let more = longer vs u ws in omega arith)
in_two x y u v (a ∷ us) vs ws e =
    absurd (let n = ap length e in let more = longer us v (vs ++ u ∷ ws) in let rest = longer vs u ws in omega arith)

pub in_three : {A : Type 0} (x y z u v : A) (us vs ws : List A) → x ∷ y ∷ z ∷ [] ≡ us ++ v ∷ (vs ++ u ∷ ws) →
    ((x ≡ v) × ((y ≡ u) ⊎ (z ≡ u))) ⊎ ((y ≡ v) × (z ≡ u))
in_three x y z u v [] [] ws e = inl (ap (λ zs. get_or zs 0 x) e, inl (ap (λ zs. get_or zs 1 x) e))
in_three x y z u v [] (b ∷ []) ws e = inl (ap (λ zs. get_or zs 0 x) e, inr (ap (λ zs. get_or zs 2 x) e))
in_three x y z u v [] (b ∷ c ∷ vs) ws e = absurd (let n = ap length e in let more = longer vs u ws in omega arith)
in_three x y z u v (a ∷ []) [] ws e = inr (ap (λ zs. get_or zs 1 x) e, ap (λ zs. get_or zs 2 x) e)
in_three x y z u v (a ∷ []) (b ∷ vs) ws e = absurd (let n = ap length e in let more = longer vs u ws in omega arith)
in_three x y z u v (a ∷ b ∷ us) vs ws e =
    absurd (let n = ap length e in let more = longer us v (vs ++ u ∷ ws) in let rest = longer vs u ws in omega arith)

-- If what a filter keeps of two members can't be there the other way round, the one comes first.
pub by_list : {A B : Type 0} (f : A → Option B) (xs : List A) (i j : ℕ) (x y : A) (u v : B) → IsAt xs i x → IsAt xs j y → f x ≡ Some u →
    f y ≡ Some v → (u ≡ v → ⊥) →
    ((us vs ws : List B) → filter_map f xs ≡ us ++ v ∷ (vs ++ u ∷ ws) → ⊥) → i < j
by_list f xs i j x y u v at at' is is' other never = elim (cases_lt i j) [
  | inl up ↦ up
  | inr down ↦ elim (cases_eq i j) [
    | inl same ↦
        let one : x ≡ y = one_member xs j x y (subst (λ k. IsAt xs k x) same at) at' in
        absurd (other (of_some u v (sym is ∙ ap f one ∙ is')))
    | inr apart ↦
        let (us, vs, ws, cut) = cut_two xs j i y x at' at (omega arith) in
        let second : filter_map f (x ∷ ws) ≡ u ∷ filter_map f ws = ap (λ o. cons_option o (filter_map f ws)) is in
        let first : filter_map f (y ∷ (vs ++ x ∷ ws)) ≡ v ∷ (filter_map f vs ++ u ∷ filter_map f ws) =
        ap (λ o. cons_option o (filter_map f (vs ++ x ∷ ws))) is' ∙
        ap (λ zs. v ∷ zs) (filter_map-append f vs (x ∷ ws) ∙ ap (λ zs. filter_map f vs ++ zs) second) in
        absurd (never (filter_map f us) (filter_map f vs) (filter_map f ws)
        (ap (filter_map f) cut ∙ filter_map-append f us (y ∷ (vs ++ x ∷ ws)) ∙ ap (λ zs. filter_map f us ++ zs) first))
  ]
]

-- the steps of a line, as a filter keeps them
abbrev pub part_on : ℕ → Moment → Option Part
part_on line m = if m.x.line == line then Some m.part else None

pub parts_kept : (line : ℕ) (ms : List Moment) → filter_map (part_on line) ms ≡ parts_in line ms
parts_kept line [] = refl
parts_kept line (m ∷ ms) = elim (cases_eq m.x.line line) [
  | inl here ↦ rw (eq-eqb m.x.line line here) (ap (λ zs. m.part ∷ zs) (parts_kept line ms))
  | inr other ↦ rw (ne_eqb m.x.line line other) (parts_kept line ms)
]

-- ---- in an order of steps

abbrev pub moment : Played → Part → Moment
moment x part = record { x = x; part = part }

module _ (steps : Played → List Part) (ps : List Played) (pools : List PoolEntry) (roots : Journals) (cells : ℕ → List CellEntry)
    (ms : List Moment)
    (t : IsStepOrder steps ps pools roots cells ms) where
  -- each step of a record has a place
  pub placed : AllPairs (λ (x y : Played). x.line ≢ y.line) ps → (x : Played) (part : Part) → Contains ps x →
      Contains (steps x) part →
      (i : ℕ) × IsAt ms i (moment x part)
  placed differ x part there due =
      let here : Contains (parts_in x.line ms) part = subst (λ parts. Contains parts part) (sym (t.whole x there)) due in
      let (m, kept, is) = map_cases (λ (m : Moment). m.part) (filter (λ (m : Moment). m.x.line == x.line) ms) part here in
      let (among, line) = filter_cases (λ (m : Moment). m.x.line == x.line) ms m kept in
      let of : Contains ps m.x = All-contains (λ (m : Moment). Contains ps m.x) ms m t.only among in
      let same : m.x ≡ x = one_by (λ (y : Played). y.line) ps m.x x differ of there (eqb-true m.x.line x.line line) in
      let it : m ≡ moment x part = ap (λ (y : Played). moment y m.part) same ∙ ap (moment x) is in
      let (i, less, at) = subst (λ n. Contains ms n) it among in
      (i, (less, at))

  -- a step of a line that is before another's comes before its steps
  pub by_line : (i j : ℕ) (m n : Moment) → IsAt ms i m → IsAt ms j n → StandsBefore m.x n.x → i < j
  by_line i j m n (less, is) (less', is') before = elim (cases_lt i j) [
    | inl up ↦ up
    | inr down ↦ elim (cases_eq i j) [
      | inl same ↦
          let one : m ≡ n = one_member ms j m n (subst (λ k. IsAt ms k m) same (less, is)) (less', is') in
          absurd (itself (subst (λ (z : Moment). StandsBefore m.x z.x) (sym one) before))
      | inr other ↦
          let no = t.in_order j i m (omega arith) less in
          let first : get_or ms j m ≡ n = placed_at ms j m n less' is' in
          absurd (no (subst (λ (z : Moment). StandsBefore z.x (get_or ms j m).x) (sym is)
          (subst (λ (z : Moment). StandsBefore m.x z.x) (sym first) before)))
    ]
  ]
    where
      itself : StandsBefore m.x m.x → ⊥
      itself (inl (thread, less)) = omega arith
      itself (inr less) = omega arith

      placed_at : (xs : List Moment) (k : ℕ) (d n : Moment) → k < length xs → get_or xs k n ≡ n → get_or xs k d ≡ n
      placed_at [] k d n low e = absurd (omega arith)
      placed_at (x ∷ xs) zero d n low e = e
      placed_at (x ∷ xs) (suc k) d n low e = placed_at xs k d n (omega arith) e

  -- numbers of a slot don't fall
  rising : (i j : ℕ) (m n : Moment) (k l : Mark) → IsAt ms i m → IsAt ms j n → IsTouch m.part → IsTouch n.part → mark_of m.x ≡ Some k →
      mark_of n.x ≡ Some l → k.slot ≡ l.slot → i < j →
      number_of k.found ≤ number_of l.found
  rising i j m n k l at at' touch touch' is is' slot up =
      let (us, vs, ws, cut) = cut_two ms i j m n at at' up in
      let one = t.found us (vs ++ n ∷ ws) m k cut touch is in
      let two = t.found (us ++ m ∷ vs) ws n l (cut ∙ sym (append_assoc us (m ∷ vs) (n ∷ ws))) touch' is' in
      let parted = sum_by-append (λ (z : Moment). cond {A = ℕ} (is_counted_on k.slot z.x z.part) 1 0) us (m ∷ vs) in
      let same : counted_steps k.slot (us ++ m ∷ vs) ≡ counted_steps l.slot (us ++ m ∷ vs) =
      ap (λ s. counted_steps s (us ++ m ∷ vs)) slot in
      omega arith

  -- of two touches of a slot that found different numbers, the one with the lesser number comes first
  pub by_number : (i j : ℕ) (m n : Moment) (k l : Mark) → IsAt ms i m → IsAt ms j n → IsTouch m.part → IsTouch n.part →
      mark_of m.x ≡ Some k → mark_of n.x ≡ Some l → k.slot ≡ l.slot →
      number_of k.found < number_of l.found → i < j
  by_number i j m n k l at at' touch touch' is is' slot less = elim (cases_lt i j) [
    | inl up ↦ up
    | inr down ↦ elim (cases_eq i j) [
      | inl same ↦
          let one : m ≡ n = one_member ms j m n (subst (λ z. IsAt ms z m) same at) at' in
          let marks : k ≡ l = of_some k l (sym is ∙ ap (λ (z : Moment). mark_of z.x) one ∙ is') in
          let numbers : number_of k.found ≡ number_of l.found = ap (λ (z : Mark). number_of z.found) marks in
          absurd (omega arith)
      | inr other ↦ let back = rising j i n m l k at' at touch' touch is' is (sym slot) (omega arith) in absurd (omega arith)
    ]
  ]

  -- each moment is a step of a record
  pub step_of_record : (m : Moment) → Contains ms m → Contains ps m.x × Contains (steps m.x) m.part
  step_of_record m among =
      let of : Contains ps m.x = All-contains (λ (z : Moment). Contains ps z.x) ms m t.only among in
      let kept = filter_in (λ (z : Moment). z.x.line == m.x.line) ms m among (eq-eqb m.x.line m.x.line refl) in
      let there = map_in (λ (z : Moment). z.part) (filter (λ (z : Moment). z.x.line == m.x.line) ms) m kept in
      (of, subst (λ parts. Contains parts m.part) (t.whole m.x of) there)
