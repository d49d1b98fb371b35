-- A worker's thread state at the start.
use Rattle.std.proofs.Common.{◌≡◌, ℕ, zero, suc, ◌+◌, ◌*◌, ◌%◌, ◌<◌, ◌≤◌, List, [], ◌∷◌, ◌++◌, length, refl, sym, ◌∙◌, ap, subst, arith, inl, inr, rules}
use Rattle.std.specs.Prelude.{Contains, replicate, slice_index_or, All}
use Rattle.std.proofs.lemmas.List.{length-append}
use Rattle.std.proofs.lemmas.List.Folds.{sum_by-replicate}
use Rattle.std.proofs.lemmas.Bool.{cases_lt}
use Rattle.pa_slot.specs.declared.title.Title.{Title}
use Rattle.pa_lists.proofs.Members.{not_in_none}
use Rattle.pa_region.specs.declared.view.View.{View}
use Rattle.pa_region.specs.Waiting.{unclean_of}
use Rattle.pa_buckets.specs.Limits.{first_class}
use Rattle.pa_buckets.specs.Table.{slot_of}
use Rattle.pa_rules.specs.Sizes.{class_total}
use Rattle.pa_rules.proofs.Versions.{class_cases, place_within, real_in}
use Rattle.pa_cache.specs.Caches.{CacheList, IsCache}
use Rattle.pa_rules.specs.declared.register.Register.TheVariants.{Empty}
use Rattle.pa_rules.specs.Lists.{cache_place}
use Rattle.pa_op_specs.specs.Stocks.{StockRegister, WorkerLists, IsStock, IsForThread, IsMadeFor, AreNoLists, titles_in, owns_one, seals_one, refs_one, no_cache}
use Rattle.pa_thread_state.proofs.Leaving.{seals_own}
use Rattle.pa_thread_state.proofs.Places.{class_in_turn, turn_real, titles_here, titles_none}

-- registers that are all empty
pub all_empty : (n i : ℕ) → slice_index_or {A = StockRegister} (replicate n Empty) i Empty ≡ Empty
all_empty zero i = refl
all_empty (suc n) zero = refl
all_empty (suc n) (suc i) = all_empty n i

long_replicate : (n : ℕ) → length {A = StockRegister} (replicate n Empty) ≡ n
long_replicate zero = refl
long_replicate (suc n) = let again = long_replicate n in omega arith

-- a list after the others is the next one
past : (xs : List CacheList) (k : ℕ) → length xs ≤ k → slice_index_or xs k no_cache ≡ no_cache
past [] k far = refl
past (x ∷ xs) zero far = absurd (omega arith)
past (x ∷ xs) (suc k) far = past xs k (omega arith)

-- each of the lists is without titles
each_none : (version n : ℕ) (lists : List CacheList) (k : ℕ) → AreNoLists version n lists →
    slice_index_or lists k no_cache ≡ record { class = (slice_index_or lists k no_cache).class; titles = [] }
each_none version n lists k are = elim (cases_lt k n) [
  | inl low ↦ (let e = are.each k low in e ∙ ap (λ (l : CacheList). record { class = l.class; titles = [] }) (sym e))
  | inr high ↦
      (let long = are.count_is in
      let e = past lists k (omega (arith, long, high)) in e ∙ ap (λ (l : CacheList). record { class = l.class; titles = [] }) (sym e))
]

pub no_titles : (n : ℕ) (caches : WorkerLists) (p c : ℕ) → AreNoLists caches.version n caches.lists → titles_in caches p c ≡ []
no_titles n caches p c are = elim (class_cases caches.version c) [
  | inl is ↦
      titles_here caches p c is
      ∙ ap (λ (x : CacheList). x.titles) (each_none caches.version n caches.lists (cache_place caches.version p c) are)
  | inr none ↦ titles_none caches p c none
]

-- each of no titles has the slot size
none_sized : (n : ℕ) → All (λ (t : Title). t.len ≡ slot_of n) []
none_sized n = search rules

-- a list without titles is one
empty_is : (n : ℕ) → n < 170 → IsCache (record { class = n; titles = [] })
empty_is n low = record { class = omega (arith, low); sized = none_sized n; different = search rules; few = omega arith }

real_class : (version n : ℕ) (lists : List CacheList) (k : ℕ) → AreNoLists version n lists → (slice_index_or lists k no_cache).class < 170
real_class version n lists k are = elim (cases_lt k n) [
  | inl low ↦
      (let e = ap (λ (x : CacheList). x.class) (are.each k low) in
      let real = real_in version (first_class version + k % class_total version) (turn_real version k) in omega (arith, e, real))
  | inr high ↦
      (let long = are.count_is in
      let e = ap (λ (x : CacheList). x.class) (past lists k (omega (arith, long, high))) in omega (arith, e))
]

-- the thread state is sound
pub new_stock : (thread partitions plain_from : ℕ) (v : View) (caches : WorkerLists) → IsForThread thread v → unclean_of v ≡ 0 →
    partitions ≤ 4 → AreNoLists caches.version (4 * class_total caches.version) caches.lists →
    IsStock (record {
      thread = thread;
      partitions = partitions;
      plain_from = plain_from;
      view = v;
      registers = replicate 64 Empty;
      caches = caches;
    })
new_stock thread partitions plain_from v caches for clean few are = record {
  partitions = few;
  handles = record {
    count = long_replicate 64;
    owns = λ t. let e = for.unused t in let s = sum_by-replicate (owns_one t) 64 Empty in omega arith;
    refs = λ t. let e = for.unused t in let s = sum_by-replicate (refs_one t) 64 Empty in omega arith;
    clean = clean;
    sealed = λ t. let e = for.unused t in let s = seals_own v t in let n = sum_by-replicate (seals_one plain_from t) 64 Empty in
        omega arith;
    made = λ i. subst (IsMadeFor v) (sym (all_empty 64 i)) tt;
  };
  lists = record {
    count = are.count_is;
    sound = λ k. subst IsCache (sym (each_none caches.version count caches.lists k are))
        (empty_is (slice_index_or caches.lists k no_cache).class (real_class caches.version count caches.lists k are));
    classes = λ p c low real.
        ap (λ (x : CacheList). x.class) (are.each (cache_place caches.version p c) (place_within caches.version 4 p c low real))
        ∙ class_in_turn caches.version p c real;
    few = λ p c. let e = ap length (no_titles count caches p c are) in omega (arith, e);
    free = λ p c t among. absurd (not_in_none t (subst (λ ts. Contains ts t) (no_titles count caches p c are) among));
    apart = λ p q c d t among other. absurd (not_in_none t (subst (λ ts. Contains ts t) (no_titles count caches p c are) among));
    made = λ p c t among. absurd (not_in_none t (subst (λ ts. Contains ts t) (no_titles count caches p c are) among));
    well = λ p c t among. absurd (not_in_none t (subst (λ ts. Contains ts t) (no_titles count caches p c are) among));
  };
  stake = for.stake;
}
  where
    count : ℕ
    count = 4 * class_total caches.version

-- what a list has at its front, and at its end
at_less : (xs ys : List CacheList) (k : ℕ) → k < length xs → slice_index_or (xs ++ ys) k no_cache ≡ slice_index_or xs k no_cache
at_less [] ys k low = absurd (omega arith)
at_less (x ∷ xs) ys zero low = refl
at_less (x ∷ xs) ys (suc k) low = at_less xs ys k (omega arith)

at_end : (xs : List CacheList) (x : CacheList) (k : ℕ) → k ≡ length xs → slice_index_or (xs ++ x ∷ []) k no_cache ≡ x
at_end [] x zero e = refl
at_end [] x (suc k) e = absurd (omega arith)
at_end (y ∷ ys) x zero e = absurd (omega arith)
at_end (y ∷ ys) x (suc k) e = at_end ys x k (omega arith)

-- the list in turn at this place, without titles
abbrev pub list_in_turn : ℕ → ℕ → CacheList
list_in_turn version k = record { class = first_class version + k % class_total version; titles = [] }

-- what a list has with one more after it
put : (version : ℕ) (xs : List CacheList) (n : ℕ) (x : CacheList) → x ≡ list_in_turn version n → length xs ≡ n →
    ((j : ℕ) → j < n → slice_index_or xs j no_cache ≡ list_in_turn version j) → (k : ℕ) → k < n + 1 →
    slice_index_or (xs ++ x ∷ []) k no_cache ≡ list_in_turn version k
put version [] n x is long each zero low = let e : n ≡ 0 = omega arith in is ∙ ap (list_in_turn version) e
put version [] n x is long each (suc k) low = absurd (omega arith)
put version (y ∷ ys) n x is long each zero low = each 0 (omega arith)
put version (y ∷ ys) n x is long each (suc k) low = elim (cases_lt (suc k) n) [
  | inl below ↦ at_less ys (x ∷ []) k (omega arith) ∙ each (suc k) below
  | inr above ↦ (let e : n ≡ suc k = omega arith in at_end ys x k (omega arith) ∙ (is ∙ ap (list_in_turn version) e))
]

-- one list more
pub lists_more : (version n : ℕ) (caches : List CacheList) (x : CacheList) → AreNoLists version n caches → x ≡ list_in_turn version n →
    AreNoLists version (n + 1) (caches ++ x ∷ [])
lists_more version n caches x are is = record {
  count_is = let e = are.count_is in omega (arith, e, length-append caches (x ∷ []));
  each = λ k low. put version caches n x is are.count_is are.each k low;
}
