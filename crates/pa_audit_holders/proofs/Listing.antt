-- A thread's lists in a table.
use Rattle.std.proofs.Common.{◌≡◌, ℕ, ◌*◌, ◌<◌, List, [], length, get_or, set, refl, sym, ◌∙◌, ap, subst, arith, inl, inr}
use Rattle.std.specs.Prelude.{All}
use Rattle.std.proofs.lemmas.Bool.{cases_eq, cases_lt, eq-eqb, ne_eqb}
use Rattle.std.proofs.lemmas.List.{get_or_default, get_or_past, get_or-set_same, get_or-set_other}
use Rattle.pa_record.specs.declared.numbered.Numbered.{Numbered}
use Rattle.pa_rules.specs.Caches.{Cache, no_caches, with_cache, with_list}
use Rattle.pa_rules.specs.Lists.{cache_place}
use Rattle.pa_rules.specs.Sizes.{HasClass, class_total}
use Rattle.pa_rules.proofs.Sums.{NoneButOf}
use Rattle.pa_rules.proofs.Versions.{class_cases, class_end, class_no, class_yes, one_place, place_within}
use Rattle.pa_audit_holders.specs.Lists.{VersionLists, cache_in, caches_in, no_lists}

-- ---- one list changed

pub with_here : (cache : Cache) (p class q c : ℕ) (xs : List Numbered) → q ≡ p → c ≡ class → with_list cache p class xs q c ≡ xs
with_here cache p class q c xs same here = rw (eq-eqb q p same) (rw (eq-eqb c class here) refl)

pub with_other : (cache : Cache) (p class q c : ℕ) (xs : List Numbered) → ((q ≡ p) → (c ≡ class) → ⊥) →
    with_list cache p class xs q c ≡ cache q c
with_other cache p class q c xs other = elim (cases_eq q p) [
  | inl same ↦ rw (eq-eqb q p same) (rw (ne_eqb c class (other same)) refl)
  | inr ne ↦ rw (ne_eqb q p ne) refl
]

-- a list that was changed before
pub with_again : (cache before after : Cache) (p class : ℕ) (xs ys : List Numbered) → before ≡ with_list cache p class xs →
    after ≡ with_list before p class ys → after ≡ with_list cache p class ys
with_again cache before after p class xs ys first second = second ∙ (λ i q c. at q c i)
  where
    at : (q c : ℕ) → with_list before p class ys q c ≡ with_list cache p class ys q c
    at q c = elim (cases_eq q p) [
      | inl same ↦ elim (cases_eq c class) [
        | inl here ↦ with_here before p class q c ys same here ∙ sym (with_here cache p class q c ys same here)
        | inr ne ↦ elsewhere q c (λ e f. ne f)
      ]
      | inr ne ↦ elsewhere q c (λ e f. ne e)
    ]
      where
        elsewhere : (q c : ℕ) → ((q ≡ p) → (c ≡ class) → ⊥) → with_list before p class ys q c ≡ with_list cache p class ys q c
        elsewhere q c other =
            with_other before p class q c ys other ∙ ap (λ (z : Cache). z q c) first ∙ with_other cache p class q c xs other ∙
            sym (with_other cache p class q c ys other)

-- ---- the table

-- the lists with others in one place
abbrev pub with_place : VersionLists → ℕ → List Numbered → VersionLists
with_place all at xs = record { version = all.version; lists = set all.lists at xs }

same_place : (version q c p d : ℕ) → q ≡ p → c ≡ d → cache_place version q c ≡ cache_place version p d
same_place version q c p d part class = ap (λ k. cache_place version k c) part ∙ ap (λ k. cache_place version p k) class

pub listed : (all : VersionLists) (p c : ℕ) → HasClass all.version c → cache_in all p c ≡ get_or all.lists (cache_place all.version p c) []
listed all p c real = rw (class_yes all.version c real) refl

-- a partition's lists are in the table
pub listed_within : (all : VersionLists) (p c : ℕ) → length all.lists ≡ 4 * class_total all.version → p < 4 → HasClass all.version c →
    cache_place all.version p c < length all.lists
listed_within all p c many low real = let within = place_within all.version 4 p c low real in omega (arith, many, within)

-- what was read there is the list
pub listed_there : (all : VersionLists) (p c at : ℕ) (d found : List Numbered) → length all.lists ≡ 4 * class_total all.version → p < 4 →
    HasClass all.version c
    → at ≡ cache_place all.version p c → found ≡ get_or all.lists at d → found ≡ cache_in all p c
listed_there all p c at d found many low real there is =
    is ∙ ap (λ k. get_or all.lists k d) there ∙
    get_or_default all.lists (cache_place all.version p c) d [] (listed_within all p c many low real) ∙ sym (listed all p c real)

pub unlisted : (all : VersionLists) (p c : ℕ) → (HasClass all.version c → ⊥) → cache_in all p c ≡ []
unlisted all p c none = rw (class_no all.version c none) refl

-- none but the classes of the version have lists
pub none_but : (all : VersionLists) (p : ℕ) → NoneButOf all.version (cache_in all p)
none_but all p c (inl low) = unlisted all p c (λ h. let from = h.0 in omega (arith, low, from))
none_but all p c (inr past) = unlisted all p c (λ h. let real = h.1 in let end = class_end all.version in omega (arith, past, real, end))

pub cache_empty : (all : VersionLists) → All (λ xs. xs ≡ []) all.lists → cache_in all ≡ (λ p c. [])
cache_empty all h = λ i p c. empty p c i
  where
    empty : (p c : ℕ) → cache_in all p c ≡ []
    empty p c = elim (class_cases all.version c) [
      | inl real ↦ listed all p c real ∙ (elim (cases_lt (cache_place all.version p c) (length all.lists)) [
        | inl below ↦ h (cache_place all.version p c) [] below
        | inr past ↦ get_or_past all.lists (cache_place all.version p c) [] past
      ])
      | inr none ↦ unlisted all p c none
    ]

pub cache_set : (all : VersionLists) (p class : ℕ) (xs : List Numbered) → cache_place all.version p class < length all.lists →
    HasClass all.version class
    → cache_in (with_place all (cache_place all.version p class) xs) ≡ with_list (cache_in all) p class xs
cache_set all p class xs below real = λ i q c. at q c i
  where
    place : ℕ
    place = cache_place all.version p class

    table : VersionLists
    table = with_place all place xs

    at : (q c : ℕ) → cache_in table q c ≡ with_list (cache_in all) p class xs q c
    at q c = elim (class_cases all.version c) [
      | inl one ↦ elim (cases_eq (cache_place all.version q c) place) [
        | inl same ↦
            let (part, here) = one_place all.version q c p class one real same in
            listed table q c one ∙ ap (λ z. get_or table.lists z []) same ∙ get_or-set_same all.lists place xs [] below ∙
            sym (with_here (cache_in all) p class q c xs part here)
        | inr other ↦
            listed table q c one ∙ get_or-set_other all.lists place (cache_place all.version q c) xs [] other ∙ sym (listed all q c one)
            ∙ sym (with_other (cache_in all) p class q c xs (λ e f. other (same_place all.version q c p class e f)))
      ]
      | inr none ↦ unlisted table q c none ∙ sym (unlisted all q c none)
          ∙ sym (with_other (cache_in all) p class q c xs (λ e f. none (subst (λ k. HasClass all.version k) (sym f) real)))
    ]

-- the list in a place was changed
pub cache_put : (all : VersionLists) (p class at : ℕ) (xs : List Numbered) → length all.lists ≡ 4 * class_total all.version → p < 4 →
    HasClass all.version class → at ≡ cache_place all.version p class
    → cache_in (with_place all at xs) ≡ with_list (cache_in all) p class xs
cache_put all p class at xs many low real there =
    ap (λ k. cache_in (with_place all k xs)) there ∙ cache_set all p class xs (listed_within all p class many low real) real

-- ---- all threads

pub caches_empty : (threads : List VersionLists) → All (λ lists. cache_in lists ≡ (λ p c. [])) threads → caches_in threads ≡ no_caches
caches_empty threads h = λ i t. empty t i
  where
    empty : (t : ℕ) → caches_in threads t ≡ no_caches t
    empty t = elim (cases_lt t (length threads)) [
      | inl below ↦ h t no_lists below
      | inr past ↦ ap cache_in (get_or_past threads t no_lists past) ∙ cache_empty no_lists (λ i d below. absurd (omega (arith, below)))
    ]

pub caches_set : (threads : List VersionLists) (t : ℕ) (lists : VersionLists) → t < length threads →
    caches_in (set threads t lists) ≡ with_cache (caches_in threads) t (cache_in lists)
caches_set threads t lists below = λ i u. at u i
  where
    at : (u : ℕ) → caches_in (set threads t lists) u ≡ with_cache (caches_in threads) t (cache_in lists) u
    at u = elim (cases_eq u t) [
      | inl same ↦ rw (eq-eqb u t same) (ap (λ z. caches_in (set threads t lists) z) same ∙
          ap cache_in (get_or-set_same threads t lists no_lists below))
      | inr ne ↦ rw (ne_eqb u t ne) (ap cache_in (get_or-set_other threads t u lists no_lists ne))
    ]
