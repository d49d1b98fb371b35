-- The lists of the caches after one of them was changed.
use Rattle.std.proofs.Common.{◌≡◌, ℕ, suc, ◌+◌, ◌-◌, ◌*◌, ◌<◌, ◌≤◌, ◌⊎◌, inl, inr, List, [], map, length, refl, sym, ap, ◌∙◌, subst, arith}
use Rattle.std.proofs.Math.Nat.{mul-le-mul_right}
use Rattle.std.proofs.lemmas.Nat.{mul-le}
use Rattle.std.proofs.lemmas.Bool.{cases_eq, cases_lt, ne_eqb, eq-eqb, lt-ltb, le-ltb, and_left, and_right}
use Rattle.std.proofs.lemmas.List.{get_or-set_same, get_or-set_other}
use Rattle.std.specs.Prelude.{nat_lt}
use Rattle.pa_record.specs.declared.numbered.Numbered.{Numbered}
use Rattle.pa_rules.specs.Caches.{Cache, Caches, with_list, with_cache}
use Rattle.pa_rules.specs.Sizes.{HasClass, is_class, class_total}
use Rattle.pa_rules.proofs.Versions.{class_cases, class_yes, class_no, one_place, place_within}
use Rattle.pa_rules.proofs.Counted.{list_changed, list_of_another_class, list_of_another}
use Rattle.pa_player.specs.Player.{Player}
use Rattle.pa_player.specs.Playing.{numbered_at, list_place, list_at, caches}
use Rattle.pa_player.specs.Changes.{listed, list_in}

-- ---- where lists are

same_row : (partitions t u q r : ℕ) → q < partitions → r < partitions → t * partitions + q ≡ u * partitions + r → (t ≡ u) × (q ≡ r)
same_row partitions t u q r low high e = elim (cases_eq t u) [
  | inl same ↦ let f : t * partitions ≡ u * partitions = ap (λ k. k * partitions) same in (same, omega arith)
  | inr other ↦ elim (cases_lt t u) [
    | inl less ↦ let more : suc t * partitions ≤ u * partitions = mul-le-mul_right partitions less in absurd (omega arith)
    | inr at_least ↦ let more : suc u * partitions ≤ t * partitions = mul-le-mul_right partitions (omega arith) in absurd (omega arith)
  ]
]

pub same_place : (version partitions t q class u k c : ℕ) → q < partitions → k < partitions → HasClass version class → HasClass version c
    → list_place version partitions t q class ≡ list_place version partitions u k c → (t ≡ u) × (q ≡ k) × (class ≡ c)
same_place version partitions t q class u k c low high real within e =
    let (rows, classes) = one_place version (t * partitions + q) class (u * partitions + k) c real within e in
    let (threads, partition) = same_row partitions t u q k low high rows in
    (threads, partition, classes)

-- the rows of all threads are few
pub few_rows : (t partitions q : ℕ) → t < 16 → partitions ≤ 4 → q < partitions → t * partitions + q < 64
few_rows t partitions q few four low =
    let rows : t * partitions ≤ 15 * 4 = mul-le t partitions 15 4 (omega arith) four in
    omega (arith, rows)

-- a list is among all
pub place_below : (version partitions threads t q class : ℕ) → t < threads → q < partitions → HasClass version class
    → list_place version partitions t q class < threads * partitions * class_total version
place_below version partitions threads t q class below low real =
    let more : suc t * partitions ≤ threads * partitions = mul-le-mul_right partitions below in
    let row : t * partitions + q < threads * partitions = omega arith in
    place_within version (threads * partitions) (t * partitions + q) class row real

-- ---- what the lists have

pub caches_here : (p : Player) (u k c : ℕ) → k < p.partitions → HasClass p.version c →
    caches p u k c ≡ map (numbered_at p.table) (list_at p u k c)
caches_here p u k c inside real = rw (lt-ltb k p.partitions inside, class_yes p.version c real) refl

pub caches_none : (p : Player) (u k c : ℕ) → (k < p.partitions → HasClass p.version c → ⊥) → caches p u k c ≡ []
caches_none p u k c out = elim (cases_lt k p.partitions) [
  | inl inside ↦ elim (class_cases p.version c) [
    | inl real ↦ absurd (out inside real)
    | inr none ↦ rw (and_right (nat_lt k p.partitions) (is_class p.version c) (class_no p.version c none)) refl
  ]
  | inr past ↦ rw (and_left (nat_lt k p.partitions) (is_class p.version c) (le-ltb k p.partitions past)) refl
]

-- a thread's lists were changed
pub with_cache_here : (all : Caches) (t : ℕ) (next : Cache) (k c : ℕ) → with_cache all t next t k c ≡ next k c
with_cache_here all t next k c = rw (eq-eqb t t refl) refl

pub with_cache_other : (all : Caches) (t : ℕ) (next : Cache) (u k c : ℕ) → (u ≡ t → ⊥) → with_cache all t next u k c ≡ all u k c
with_cache_other all t next u k c ne = rw (ne_eqb u t ne) refl

-- another list than that of thread t, partition q and class
abbrev pub IsOther : ℕ → ℕ → ℕ → ℕ → ℕ → ℕ → Type 0
IsOther t q class u k c = u ≡ t → k ≡ q → c ≡ class → ⊥

pub list_cases : (t q class u k c : ℕ) → ((u ≡ t) × (k ≡ q) × (c ≡ class)) ⊎ IsOther t q class u k c
list_cases t q class u k c = elim (cases_eq u t) [
  | inl a ↦ elim (cases_eq k q) [
    | inl b ↦ elim (cases_eq c class) [
      | inl d ↦ inl (a, b, d)
      | inr ne ↦ inr (λ _ _ d. ne d)
    ]
    | inr ne ↦ inr (λ _ b _. ne b)
  ]
  | inr ne ↦ inr (λ a _ _. ne a)
]

pub with_other : (all : Caches) (t q class : ℕ) (xs : List Numbered) (u k c : ℕ) → IsOther t q class u k c →
    with_cache all t (with_list (all t) q class xs) u k c ≡ all u k c
with_other all t q class xs u k c other = elim (cases_eq u t) [
  | inl a ↦
      let P : ℕ → Type 0 = λ z. with_cache all t (with_list (all t) q class xs) z k c ≡ all z k c in
      subst P (sym a) (with_cache_here all t (with_list (all t) q class xs) k c ∙ elim (cases_eq k q) [
        | inl b ↦
            let Q : ℕ → Type 0 = λ z. with_list (all t) q class xs z c ≡ all t z c in
            subst Q (sym b) (list_of_another_class (all t) q class xs c (λ d. other a b d))
        | inr ne ↦ list_of_another (all t) q class xs k c ne
      ])
  | inr ne ↦ with_cache_other all t (with_list (all t) q class xs) u k c ne
]

-- one list was set
pub caches_listed : (p : Player) (t q class : ℕ) (xs : List ℕ) → q < p.partitions → HasClass p.version class →
    list_place p.version p.partitions t q class < length p.caches → (u k c : ℕ)
    → caches (listed (list_place p.version p.partitions t q class) xs p) u k c ≡ with_cache (caches p) t
    (with_list (caches p t) q class (map (numbered_at p.table) xs)) u k c
caches_listed p t q class xs low real room u k c =
    let at = list_place p.version p.partitions t q class in
    let new = map (numbered_at p.table) xs in
    let next = with_list (caches p t) q class new in
    elim (list_cases t q class u k c) [
      | inl (a, b, d) ↦
          let P : ℕ → ℕ → ℕ → Type 0 = λ x y z. caches (listed at xs p) x y z ≡ with_cache (caches p) t next x y z in
          let here : caches (listed at xs p) t q class ≡ new = caches_here (listed at xs p) t q class low real ∙
          ap (map (numbered_at p.table)) (get_or-set_same p.caches at xs [] room) in
          let there : with_cache (caches p) t next t q class ≡ new = with_cache_here (caches p) t next q class ∙
          list_changed (caches p t) q class new in
          subst (λ x. P x k c) (sym a) (subst (λ y. P t y c) (sym b) (subst (λ z. P t q z) (sym d) (here ∙ sym there)))
      | inr other ↦ kept other ∙ sym (with_other (caches p) t q class new u k c other)
    ]
  where
    kept : IsOther t q class u k c → caches (listed (list_place p.version p.partitions t q class) xs p) u k c ≡ caches p u k c
    kept other = elim (cases_lt k p.partitions) [
      | inl inside ↦ elim (class_cases p.version c) [
        | inl within ↦
            let at = list_place p.version p.partitions t q class in
            let apart : list_place p.version p.partitions u k c ≡ at →
            ⊥ = λ e. let (x, y, z) = same_place p.version p.partitions u k c t q class inside low within real e in other x y z in
            caches_here (listed at xs p) u k c inside within ∙ ap (map (numbered_at p.table))
            (get_or-set_other p.caches at (list_place p.version p.partitions u k c) xs [] apart)
            ∙ sym (caches_here p u k c inside within)
        | inr none ↦ caches_none (listed (list_place p.version p.partitions t q class) xs p) u k c (λ _ b. none b) ∙
            sym (caches_none p u k c (λ _ b. none b))
      ]
      | inr past ↦ caches_none (listed (list_place p.version p.partitions t q class) xs p) u k c (λ a _. omega arith) ∙
          sym (caches_none p u k c (λ a _. omega arith))
    ]

-- a list by its place
pub list_by_place : (p : Player) (t q class : ℕ) → q < p.partitions → HasClass p.version class
    → caches p t q class ≡ map (numbered_at p.table) (list_in p (list_place p.version p.partitions t q class))
list_by_place p t q class low real = caches_here p t q class low real
