-- Lists of titles: the list at one place changed, and a part of a list and its rest.
use Rattle.std.proofs.Common.{◌≡◌, ℕ, zero, suc, ◌+◌, ◌*◌, ◌<◌, List, [], ◌∷◌, ◌++◌, length, take, drop, refl, sym, ◌∙◌, ap, ap₂, subst, arith, inl, inr}
use Rattle.std.specs.Prelude.{◌==◌, ◌≢◌, AllPairs, Contains, if◌then◌else◌, slice_index_or, slice_set}
use Rattle.std.proofs.lemmas.List.{drop-drop, take-append-drop}
use Rattle.std.proofs.lemmas.List.Elements.{Contains-append_right, Contains-append_cases}
use Rattle.std.proofs.lemmas.Bool.Decides.{eqb_tells}
use Rattle.pa_slot.specs.declared.title.Title.{Title}
use Rattle.pa_lists.proofs.Members.{in_cases, not_in_none}
use Rattle.pa_lists.proofs.Pairs.{pairs_head, pairs_tail}
use Rattle.pa_cache.specs.Caches.{CacheList, batch_after, rest_after}
use Rattle.pa_rules.specs.Sizes.{HasClass, class_total}
use Rattle.pa_rules.proofs.Versions.{class_cases, one_place, place_within}
use Rattle.pa_rules.specs.Lists.{cache_place}
use Rattle.pa_op_specs.specs.Stocks.{WorkerLists, no_cache, titles_in}
use Rattle.pa_thread_state.specs.Giving.{with_titles}
use Rattle.pa_op_specs.proofs.Registers.{set_at}
use Rattle.pa_thread_state.proofs.Places.{titles_here, titles_none}
use Rattle.pa_lists.proofs.Elements.{take_in, drop_in}

-- the list at one place, and another one
pub this_list : (p c : ℕ) (ts : List Title) (lists : ℕ → ℕ → List Title) → with_titles p c ts lists p c ≡ ts
this_list p c ts lists = elim (eqb_tells p p) [
  | inl y ↦ elim (eqb_tells c c) [ inl z ↦ rw (y.0, z.0) refl | inr n ↦ absurd (n.1 refl) ]
  | inr n ↦ absurd (n.1 refl)
]

pub this_one : (p c : ℕ) (ts : List Title) (lists : ℕ → ℕ → List Title) (q d : ℕ) → q ≡ p → d ≡ c → with_titles p c ts lists q d ≡ ts
this_one p c ts lists q d one same =
    subst (λ r. with_titles p c ts lists r d ≡ ts) (sym one)
    (subst (λ e. with_titles p c ts lists p e ≡ ts) (sym same) (this_list p c ts lists))

pub other_list : (p c : ℕ) (ts : List Title) (lists : ℕ → ℕ → List Title) (q d : ℕ) → ((q ≡ p) × (d ≡ c) → ⊥) →
    with_titles p c ts lists q d ≡ lists q d
other_list p c ts lists q d other = elim (eqb_tells q p) [
  | inl y ↦ elim (eqb_tells d c) [ inl z ↦ absurd (other (y.1, z.1)) | inr n ↦ rw (y.0, n.0) refl ]
  | inr n ↦ rw n.0 refl
]

-- each list after a cache was put at the place of partition p and the class
pub set_titles : (caches : WorkerLists) (p c : ℕ) (new : CacheList) (q d : ℕ) → p < 4 → HasClass caches.version c →
    length caches.lists ≡ 4 * class_total caches.version →
    titles_in (record caches { lists = slice_set caches.lists (cache_place caches.version p c) new }) q d ≡ with_titles p c new.titles
    (titles_in caches) q d
set_titles caches p c new q d low real long = elim (class_cases v d) [
  | inr none ↦
      titles_none after q d none ∙ (sym (titles_none caches q d none)
      ∙ sym (other_list p c new.titles (titles_in caches) q d (λ e. none (subst (HasClass v) (sym e.1) real))))
  | inl is ↦ elim (eqb_tells (cache_place v q d) (cache_place v p c)) [
    | inl y ↦
        let same = one_place v q d p c is real y.1 in
        titles_here after q d is ∙
        (ap (λ (x : CacheList). x.titles) (rw y.0 at at) ∙ sym (this_one p c new.titles (titles_in caches) q d same.0 same.1))
    | inr n ↦
        titles_here after q d is ∙ (ap (λ (x : CacheList). x.titles) (rw n.0 at at) ∙ (sym (titles_here caches q d is)
        ∙ sym (other_list p c new.titles (titles_in caches) q d (λ e. n.1 (ap₂ (cache_place v) e.0 e.1)))))
  ]
]
  where
    v : ℕ
    v = caches.version

    after : WorkerLists
    after = record caches { lists = slice_set caches.lists (cache_place v p c) new }

    at : slice_index_or (slice_set caches.lists (cache_place v p c) new) (cache_place v q d) no_cache
        ≡ (if cache_place v q d == cache_place v p c then new else slice_index_or caches.lists (cache_place v q d) no_cache)
    at = set_at caches.lists (cache_place v p c) (cache_place v q d) new no_cache
        (let within = place_within v 4 p c low real in omega (arith, within, long))

-- ---- a part of a list, and its rest

-- what stays and what goes were there
pub in_rest : (keep : ℕ) (ts : List Title) (t : Title) → Contains (rest_after keep ts) t → Contains ts t
in_rest keep ts t among = elim (Contains-append_cases (take keep ts) (drop (keep + 16) ts) t among) [
  | inl first ↦ take_in keep ts t first
  | inr later ↦ drop_in (keep + 16) ts t later
]

pub in_batch : (keep : ℕ) (ts : List Title) (t : Title) → Contains (batch_after keep ts) t → Contains ts t
in_batch keep ts t among = drop_in keep ts t (take_in 16 (drop keep ts) t among)

-- if no title is there twice, none is in both
apart_append : (xs ys : List Title) (t : Title) → AllPairs ◌≢◌ (xs ++ ys) → Contains xs t → Contains ys t → ⊥
apart_append [] ys t once first second = not_in_none t first
apart_append (x ∷ xs) ys t once first second =
    let R : Title → Title → Type 0 = λ a b. a ≢ b in
    elim (in_cases x t xs first) [
      | inl same ↦ pairs_head R x t (xs ++ ys) once (Contains-append_right xs ys t second) same
      | inr later ↦ apart_append xs ys t (pairs_tail R x (xs ++ ys) once) later second
    ]

pairs_after : (n : ℕ) (xs : List Title) → AllPairs ◌≢◌ xs → AllPairs ◌≢◌ (drop n xs)
pairs_after zero xs once = once
pairs_after (suc n) [] once = once
pairs_after (suc n) (x ∷ xs) once = pairs_after n xs (pairs_tail (λ a b. a ≢ b) x xs once)

pub rest_or_batch : (keep : ℕ) (ts : List Title) (t : Title) → AllPairs ◌≢◌ ts → Contains (rest_after keep ts) t →
    Contains (batch_after keep ts) t → ⊥
rest_or_batch keep ts t once rest batch = elim (Contains-append_cases (take keep ts) (drop (keep + 16) ts) t rest) [
  | inl first ↦
      apart_append (take keep ts) (drop keep ts) t (subst (AllPairs ◌≢◌) (sym (take-append-drop keep ts)) once) first
      (take_in 16 (drop keep ts) t batch)
  | inr later ↦
      apart_append (take 16 (drop keep ts)) (drop 16 (drop keep ts)) t
      (subst (AllPairs ◌≢◌) (sym (take-append-drop 16 (drop keep ts))) (pairs_after keep ts once)) batch
      (subst (λ us. Contains us t) (sym (drop-drop 16 keep ts)) later)
]
