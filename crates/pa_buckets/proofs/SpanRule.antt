-- The rule for spans: what it gives for each class, and that it gives one span.
use Rattle.std.proofs.Common.{◌≡◌, ℕ, ◌+◌, ◌-◌, ◌*◌, ◌/◌, ◌%◌, ◌<◌, ◌≤◌, ◌⊎◌, inl, inr, Bool, true, not, ◌&&◌, ◌||◌, eqb, ltb, leb, refl, sym, ap, ◌∙◌, arith}
use Rattle.std.proofs.lemmas.Bool.{cases_lt, cases_eq, cases_order, and_parts, and_from, or_cases, or_left, or_right, eqb-true, ltb-true, leb-true, eq-eqb, lt-ltb, not-true, both_ways}
use Rattle.pa_buckets.specs.declared.spans.SpanShape.{SpanShape}
use Rattle.pa_buckets.specs.Table.{rows, row_of, slot_of, pages_of, system_of, slots_of, waste_of, span_shape_of}
use Rattle.pa_buckets.specs.Rule.{IsTried, IsBefore, left_over, IsFirstTight, WastesLess, WastesAlike, IsLeastWaste, IsOneSlot, FollowsRule}
use Rattle.pa_buckets.proofs.Tests.{each_below, equal_below}
use Rattle.pa_buckets.proofs.Facts.{slot_of-in_order, slot_of-36}

-- what holds of a pair holds of an equal one
at_pair : (P : ℕ → ℕ → Type 0) → (n c m d : ℕ) → n ≡ m → c ≡ d → P m d → P n c
at_pair P n c m d e f p = rw (e, f) p

-- what holds of the eight pairs holds of each pair that is tried
pub each_pair : (P : ℕ → ℕ → Type 0) → P 1 4 → P 2 8 → P 2 7 → P 3 12 → P 3 11 → P 4 16 → P 4 15 → P 4 14 →
    (n c : ℕ) → IsTried n c → P n c
each_pair P a b1 b2 c1 c2 d1 d2 d3 n c t =
    elim (cases_eq n 1) [
      | inl one ↦ at_pair P n c 1 4 one (omega arith) a
      | inr not_one ↦ elim (cases_eq n 2) [
        | inl two ↦ elim (cases_eq c 8) [
          | inl whole ↦ at_pair P n c 2 8 two whole b1
          | inr less ↦ at_pair P n c 2 7 two (omega arith) b2
        ]
        | inr not_two ↦ elim (cases_eq n 3) [
          | inl three ↦ elim (cases_eq c 12) [
            | inl whole ↦ at_pair P n c 3 12 three whole c1
            | inr less ↦ at_pair P n c 3 11 three (omega arith) c2
          ]
          | inr not_three ↦ elim (cases_eq c 16) [
            | inl whole ↦ at_pair P n c 4 16 (omega arith) whole d1
            | inr less ↦ elim (cases_eq c 15) [
              | inl whole ↦ at_pair P n c 4 15 (omega arith) whole d2
              | inr less' ↦ at_pair P n c 4 14 (omega arith) (omega arith) d3
            ]
          ]
        ]
      ]
    ]

-- whether (m, d) is tried before (n, c)
abbrev before : ℕ → ℕ → ℕ → ℕ → Bool
before m d n c = ltb m n || (eqb m n && ltb c d)

before-true : (m d n c : ℕ) → IsBefore m d n c → before m d n c ≡ true
before-true m d n c (inl less) = or_left _ _ (lt-ltb m n less)
before-true m d n c (inr (same, more)) = or_right _ _ (and_from _ _ (eq-eqb m n same) (lt-ltb c d more))

-- whether (m, d) isn't tried before (n, c), or leaves more than 64 bytes over
abbrev passed : ℕ → ℕ → ℕ → ℕ → ℕ → Bool
passed s n c m d = not (before m d n c) || ltb 64 (left_over s d)

passed-true : (s n c m d : ℕ) → passed s n c m d ≡ true → IsBefore m d n c → 64 < left_over s d
passed-true s n c m d pass earlier =
    elim (or_cases _ _ pass) [
      | inl late ↦ absurd (both_ways _ (not-true _ late) (before-true m d n c earlier))
      | inr more ↦ ltb-true _ _ more
    ]

-- whether (n, c) is the first pair that leaves at most 64 bytes over
abbrev first_tight : ℕ → ℕ → ℕ → Bool
first_tight s n c =
    (leb 1 n && (leb n 4 && (leb c (4 * n) && leb (4 * n - n / 2) c))) && (leb (left_over s c) 64 &&
    (passed s n c 1 4 && (passed s n c 2 8 && (passed s n c 2 7 && (passed s n c 3 12 && (passed s n c 3 11 &&
    (passed s n c 4 16 && (passed s n c 4 15 && passed s n c 4 14))))))))

-- a pair that passes the tests is the first
first_tight-true : (s n c : ℕ) → first_tight s n c ≡ true → IsFirstTight s n c
first_tight-true s n c passes =
    let (tries, rest) = and_parts _ _ passes in
    let (t1, u1) = and_parts _ _ tries in
    let (t2, u2) = and_parts _ _ u1 in
    let (t3, t4) = and_parts _ _ u2 in
    let (tight, r0) = and_parts _ _ rest in
    let (p1, r1) = and_parts _ _ r0 in
    let (p2, r2) = and_parts _ _ r1 in
    let (p3, r3) = and_parts _ _ r2 in
    let (p4, r4) = and_parts _ _ r3 in
    let (p5, r5) = and_parts _ _ r4 in
    let (p6, r6) = and_parts _ _ r5 in
    let (p7, p8) = and_parts _ _ r6 in
    record {
      tried = record {
        from_one = leb-true _ _ t1;
        to_four = leb-true _ _ t2;
        at_most_all = leb-true _ _ t3;
        nearly_all = leb-true _ _ t4;
      };
      tight = leb-true _ _ tight;
      first = λ m d t earlier.
          passed-true s n c m d (each_pair (λ m d. passed s n c m d ≡ true) p1 p2 p3 p4 p5 p6 p7 p8 m d t) earlier;
    }

-- whether (m, d) leaves more than 64 bytes over, and no less a part than (n, c), or just as much and isn't tried before
abbrev worse : ℕ → ℕ → ℕ → ℕ → ℕ → Bool
worse s n c m d =
    ltb 64 (left_over s d) &&
    (ltb (left_over s c * (4096 * d)) (left_over s d * (4096 * c)) ||
    (eqb (left_over s c * (4096 * d)) (left_over s d * (4096 * c)) && not (before m d n c)))

worse-true : (s n c m d : ℕ) → worse s n c m d ≡ true → (64 < left_over s d) × (WastesLess s c d ⊎ (WastesAlike s c d × ¬ IsBefore m d n c))
worse-true s n c m d pass =
    let (loose, rest) = and_parts _ _ pass in (
      ltb-true _ _ loose,
      elim (or_cases _ _ rest) [
        | inl less ↦ inl (ltb-true _ _ less)
        | inr both ↦
            let (alike, late) = and_parts _ _ both in
            inr (eqb-true _ _ alike, λ earlier. both_ways _ (not-true _ late) (before-true m d n c earlier))
      ],
    )

-- whether no pair leaves at most 64 bytes over, and (n, c) is the first of those that leave the least part over
abbrev least_waste : ℕ → ℕ → ℕ → Bool
least_waste s n c =
    (leb 1 n && (leb n 4 && (leb c (4 * n) && leb (4 * n - n / 2) c))) &&
    (worse s n c 1 4 && (worse s n c 2 8 && (worse s n c 2 7 && (worse s n c 3 12 && (worse s n c 3 11 &&
    (worse s n c 4 16 && (worse s n c 4 15 && worse s n c 4 14)))))))

-- a pair that passes the tests is that one
least_waste-true : (s n c : ℕ) → least_waste s n c ≡ true → IsLeastWaste s n c
least_waste-true s n c passes =
    let (tries, r0) = and_parts _ _ passes in
    let (t1, u1) = and_parts _ _ tries in
    let (t2, u2) = and_parts _ _ u1 in
    let (t3, t4) = and_parts _ _ u2 in
    let (p1, r1) = and_parts _ _ r0 in
    let (p2, r2) = and_parts _ _ r1 in
    let (p3, r3) = and_parts _ _ r2 in
    let (p4, r4) = and_parts _ _ r3 in
    let (p5, r5) = and_parts _ _ r4 in
    let (p6, r6) = and_parts _ _ r5 in
    let (p7, p8) = and_parts _ _ r6 in
    let each = each_pair (λ m d. worse s n c m d ≡ true) p1 p2 p3 p4 p5 p6 p7 p8 in
    record {
      tried = record {
        from_one = leb-true _ _ t1;
        to_four = leb-true _ _ t2;
        at_most_all = leb-true _ _ t3;
        nearly_all = leb-true _ _ t4;
      };
      none_tight = λ m d t. (worse-true s n c m d (each m d t)).0;
      least = λ m d t. (worse-true s n c m d (each m d t)).1;
    }

-- the classes of version 1 with slots of at most 16,384 bytes have the first pair that leaves at most 64 bytes over
small_rows : (c : ℕ) → c < 36 → IsFirstTight (slot_of c) (pages_of c) (system_of c)
unfolding rows row_of slot_of pages_of system_of
small_rows c below =
    first_tight-true _ _ _ (each_below (λ k. first_tight (slot_of k) (pages_of k) (system_of k)) 36 refl c below)

pub tight_rows : (c : ℕ) → c < 59 → slot_of c ≤ 16384 → IsFirstTight (slot_of c) (pages_of c) (system_of c)
tight_rows c real small =
    elim (cases_lt c 36) [
      | inl below ↦ small_rows c below
      | inr above ↦ absurd (omega (arith, slot_of-in_order 36 c above real, slot_of-36))
    ]

-- whether slots of s bytes are too large for a pair, or this is the pair for them
abbrev right_pair : ℕ → ℕ → ℕ → Bool
right_pair s n c = ltb 16384 s || (first_tight s n c || least_waste s n c)

pair_rows : (c : ℕ) → c < 170 → right_pair (slot_of c) (pages_of c) (system_of c) ≡ true
unfolding rows row_of slot_of pages_of system_of
pair_rows c real = each_below (λ k. right_pair (slot_of k) (pages_of k) (system_of k)) 170 refl c real

over : {s n : ℕ} → s ≤ n → n < s → ⊥
over little much = omega arith

right_pair-small : (s n c : ℕ) → right_pair s n c ≡ true → s ≤ 16384 → IsFirstTight s n c ⊎ IsLeastWaste s n c
right_pair-small s n c pass small =
    elim (or_cases _ _ pass) [
      | inl large ↦ absurd (over small (ltb-true 16384 s large))
      | inr right ↦ elim (or_cases _ _ right) [
        | inl tight ↦ inl (first_tight-true s n c tight)
        | inr least ↦ inr (least_waste-true s n c least)
      ]
    ]

-- whether slots of s bytes are small enough for a pair, or these are the numbers of a span of one slot
abbrev one_slot : ℕ → ℕ → ℕ → ℕ → Bool
one_slot s n c slots = leb s 16384 || (eqb c ((s + 4095) / 4096) && (eqb n ((c + 3) / 4) && eqb slots 1))

one_slot_rows : (c : ℕ) → c < 170 → one_slot (slot_of c) (pages_of c) (system_of c) (slots_of c) ≡ true
unfolding rows row_of slot_of pages_of system_of slots_of
one_slot_rows c real = each_below (λ k. one_slot (slot_of k) (pages_of k) (system_of k) (slots_of k)) 170 refl c real

large_rows : (c : ℕ) → c < 170 → 16384 < slot_of c → IsOneSlot (slot_of c) (span_shape_of c)
large_rows c real large =
    elim (or_cases _ _ (one_slot_rows c real)) [
      | inl small ↦ absurd (over (leb-true (slot_of c) 16384 small) large)
      | inr right ↦
          let (system, rest) = and_parts _ _ right in
          let (pages, one) = and_parts _ _ rest in
          record { system_pages = eqb-true _ _ system; pages = eqb-true _ _ pages; one = eqb-true _ _ one }
    ]

-- the slots and the waste of each class
row_slots : (c : ℕ) → c < 170 → slots_of c ≡ 4096 * system_of c / slot_of c
unfolding rows row_of slot_of system_of slots_of
row_slots c real = equal_below slots_of (λ k. 4096 * system_of k / slot_of k) 170 refl c real

row_waste : (c : ℕ) → c < 170 → waste_of c ≡ 4096 * system_of c % slot_of c
unfolding rows row_of slot_of system_of waste_of
row_waste c real = equal_below waste_of (λ k. 4096 * system_of k % slot_of k) 170 refl c real

-- each class follows the rule
pub FollowsRule-of : (c : ℕ) → c < 170 → FollowsRule (slot_of c) (span_shape_of c)
FollowsRule-of c real = record {
  small = right_pair-small _ _ _ (pair_rows c real);
  large = large_rows c real;
  slots = row_slots c real;
  waste = row_waste c real;
}

-- of two pairs that differ one is tried before the other
order_of_pairs : (n c m d : ℕ) → ((n ≡ m) × (c ≡ d)) ⊎ (IsBefore n c m d ⊎ IsBefore m d n c)
order_of_pairs n c m d =
    elim (cases_order n m) [
      | inl same ↦ elim (cases_order c d) [
        | inl equal ↦ inl (same, equal)
        | inr other ↦ elim other [
          | inl less ↦ inr (inr (inr (sym same, less)))
          | inr more ↦ inr (inl (inr (same, more)))
        ]
      ]
      | inr other ↦ elim other [
        | inl less ↦ inr (inl (inl less))
        | inr more ↦ inr (inr (inl more))
      ]
    ]

-- orders that exclude each other
between : (a b : ℕ) → a < b → b < a → ⊥
between a b less more = omega arith

between_equal : (a b : ℕ) → a < b → b ≡ a → ⊥
between_equal a b less same = omega arith

-- (n, c) is a pair that the rule may give
abbrev Given : ℕ → ℕ → ℕ → Type 0
Given s n c = IsFirstTight s n c ⊎ IsLeastWaste s n c

-- of two such pairs neither is tried before the other
not_least : (s n c m d : ℕ) → IsLeastWaste s n c → IsLeastWaste s m d → IsBefore n c m d → ⊥
not_least s n c m d x y earlier =
    elim (y.least n c x.tried) [
      | inl less ↦ elim (x.least m d y.tried) [
        | inl less' ↦ between _ _ less less'
        | inr alike ↦ between_equal _ _ less alike.0
      ]
      | inr alike ↦ alike.1 earlier
    ]

not_before : (s n c m d : ℕ) → Given s n c → Given s m d → IsBefore n c m d → ⊥
not_before s n c m d (inl x) (inl y) earlier = over x.tight (y.first n c x.tried earlier)
not_before s n c m d (inl x) (inr y) earlier = over x.tight (y.none_tight n c x.tried)
not_before s n c m d (inr x) (inl y) earlier = over y.tight (x.none_tight m d y.tried)
not_before s n c m d (inr x) (inr y) earlier = not_least s n c m d x y earlier

-- the rule gives a slot size only one pair
one_pair : (s n c m d : ℕ) → Given s n c → Given s m d → (n ≡ m) × (c ≡ d)
one_pair s n c m d x y =
    elim (order_of_pairs n c m d) [
      | inl same ↦ same
      | inr other ↦ elim other [
        | inl earlier ↦ absurd (not_before s n c m d x y earlier)
        | inr later ↦ absurd (not_before s m d n c y x later)
      ]
    ]

-- a span by its four numbers
abbrev span : ℕ → ℕ → ℕ → ℕ → SpanShape
span pages system slots waste = record { pages = pages; system_pages = system; slots = slots; waste = waste }

-- two spans with the same four numbers are one
pub same_span : (x y : SpanShape) → x.pages ≡ y.pages → x.system_pages ≡ y.system_pages → x.slots ≡ y.slots → x.waste ≡ y.waste → x ≡ y
same_span x y e f g h =
    let same : span x.pages x.system_pages x.slots x.waste ≡ span y.pages y.system_pages y.slots y.waste = rw (e, f, g, h) refl in
    same

-- two spans that follow the rule have as many pages
same_pages : (s : ℕ) (x y : SpanShape) → FollowsRule s x → FollowsRule s y → (x.pages ≡ y.pages) × (x.system_pages ≡ y.system_pages)
same_pages s x y p q =
    elim (cases_lt 16384 s) [
      | inl large ↦
          let u = p.large large in
          let v = q.large large in
          let e : x.system_pages ≡ y.system_pages = u.system_pages ∙ sym v.system_pages in
          (u.pages ∙ ap (λ n. (n + 3) / 4) e ∙ sym v.pages, e)
      | inr small ↦ one_pair s _ _ _ _ (p.small small) (q.small small)
    ]

-- two spans that follow the rule for one slot size are the same
pub FollowsRule-unique : (s : ℕ) (x y : SpanShape) → FollowsRule s x → FollowsRule s y → x ≡ y
FollowsRule-unique s x y p q =
    let same = same_pages s x y p q in
    same_span x y same.0 same.1
    (p.slots ∙ ap (λ n. 4096 * n / s) same.1 ∙ sym q.slots)
    (p.waste ∙ ap (λ n. left_over s n) same.1 ∙ sym q.waste)
