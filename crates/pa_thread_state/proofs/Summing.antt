-- What a worker's lists of each partition have together, when one of its caches changes.
use Rattle.std.proofs.Common.{◌≡◌, ℕ, ◌*◌, ◌<◌, ◌≤◌, List, [], ◌∷◌, length, sym, ◌∙◌, ap, subst, arith, inl, inr}
use Rattle.std.specs.Prelude.{map, slice_index_or, slice_set}
use Rattle.std.proofs.lemmas.Bool.{cases_eq}
use Rattle.std.proofs.lemmas.List.{get_or_default, length-map, length-set, map-set}
use Rattle.pa_slot.specs.declared.title.Title.{Title}
use Rattle.pa_record.specs.declared.report.Tally.{Tally}
use Rattle.pa_region.specs.declared.view.View.{View}
use Rattle.pa_rules.specs.Lists.{HasPart, cache_place, changed_by, no_tally}
use Rattle.pa_rules.specs.Sizes.{HasClass, class_total}
use Rattle.pa_rules.proofs.Tallies.{part_of, sums_changed, sums_none}
use Rattle.pa_rules.proofs.Versions.{place_within, real_in}
use Rattle.pa_root.specs.Handing.{numbered_by, at_number_seen}
use Rattle.pa_cache.specs.Caches.{CacheList}
use Rattle.pa_cache.specs.Chained.{CacheParts, list_in}
use Rattle.pa_op_specs.specs.Stocks.{AreNoLists, titles_in}
use Rattle.pa_thread_state.specs.Giving.{with_titles}
use Rattle.pa_thread_state.specs.Lists.{WorkerCaches, AreSummed, lists_in, no_parts, numbered_in, parts_of, titles_of, with_parts}
use Rattle.pa_thread_state.proofs.Beginning.{no_titles}
use Rattle.pa_thread_state.proofs.Chained.{titles_of_list}
use Rattle.pa_thread_state.proofs.TitleLists.{set_titles, this_list, other_list}

-- ---- a cache that changes

-- a list has as many slots as titles
numbered_long : (v : View) (ts : List Title) → length (numbered_by v ts) ≡ length ts
numbered_long v ts = length-map ts (at_number_seen v)

module _ (cs after : WorkerCaches) (p class : ℕ) (new : CacheParts) (low : p < 4) (real : HasClass cs.version class)
    (many : length cs.parts ≡ 4 * class_total cs.version) (is : after ≡ with_parts p class new cs) (v : View) where
  -- each list after it: the titles of the new cache, or as it was
  pub titles_after : (q d : ℕ) →
      titles_in (lists_in v after) q d ≡ with_titles p class (list_in v new).titles (titles_in (lists_in v cs)) q d
  titles_after q d =
      ap (λ (z : WorkerCaches). titles_in (lists_in v z) q d) is
      ∙ (ap (λ (ls : List CacheList). titles_in (record { version = cs.version; lists = ls }) q d)
      (map-set (list_in v) cs.parts (cache_place cs.version p class) new)
      ∙ set_titles (lists_in v cs) p class (list_in v new) q d low real (length-map cs.parts (list_in v) ∙ many))

  here_long : length (numbered_in v after p class) ≡ length (list_in v new).titles
  here_long =
      ap (λ ts. length (numbered_by v ts)) (titles_after p class ∙ this_list p class (list_in v new).titles (titles_in (lists_in v cs)))
      ∙ numbered_long v (list_in v new).titles

  was_long : length (numbered_in v cs p class) ≡ length (titles_of v p class cs)
  was_long = ap (λ ts. length (numbered_by v ts)) (titles_of_list v cs p class low real many) ∙ numbered_long v (titles_of v p class cs)

  other_same : (q d : ℕ) → ((q ≡ p) × (d ≡ class) → ⊥) → numbered_in v after q d ≡ numbered_in v cs q d
  other_same q d other = ap (numbered_by v) (titles_after q d ∙
      other_list p class (list_in v new).titles (titles_in (lists_in v cs)) q d other)

  -- none becomes too long
  short_after : (n : ℕ) → length (list_in v new).titles ≤ n → ((q d : ℕ) → length (titles_in (lists_in v cs) q d) ≤ n) → (q d : ℕ) →
      length (titles_in (lists_in v after) q d) ≤ n
  short_after n few short q d = elim (cases_eq q p) [
    | inl y ↦ elim (cases_eq d class) [
      | inl z ↦ subst (λ ts. length ts ≤ n) (sym (titles_after q d ∙ this_here y z)) few
      | inr ne ↦ subst (λ ts. length ts ≤ n) (sym (titles_after q d ∙ elsewhere (λ e. ne e.1))) (short q d)
    ]
    | inr ne ↦ subst (λ ts. length ts ≤ n) (sym (titles_after q d ∙ elsewhere (λ e. ne e.0))) (short q d)
  ]
    where
      ts : List Title
      ts = (list_in v new).titles

      this_here : q ≡ p → d ≡ class → with_titles p class ts (titles_in (lists_in v cs)) q d ≡ ts
      this_here y z =
          subst (λ r. with_titles p class ts (titles_in (lists_in v cs)) r d ≡ ts) (sym y)
          (subst (λ e. with_titles p class ts (titles_in (lists_in v cs)) p e ≡ ts) (sym z)
          (this_list p class ts (titles_in (lists_in v cs))))

      elsewhere : ((q ≡ p) × (d ≡ class) → ⊥) → with_titles p class ts (titles_in (lists_in v cs)) q d ≡ titles_in (lists_in v cs) q d
      elsewhere other = other_list p class ts (titles_in (lists_in v cs)) q d other

any_view : (cs : WorkerCaches) (sums : List Tally) (v : View) (p c : ℕ) → AreSummed cs sums → length (numbered_in v cs p c) ≤ 72
any_view cs sums v p c h = let e = numbered_long v (titles_in (lists_in v cs) p c) in let few = h.short v p c in omega (arith, e, few)

-- the cache at the place of a partition and a class is theirs
pub part_is : (cs : WorkerCaches) (p class at : ℕ) (x : CacheParts) → p < 4 → HasClass cs.version class →
    length cs.parts ≡ 4 * class_total cs.version →
    at ≡ cache_place cs.version p class → x ≡ slice_index_or cs.parts at x → x ≡ parts_of p class cs
part_is cs p class at x low real many place is =
    is
    ∙ (get_or_default cs.parts at x no_parts (let within = place_within cs.version 4 p class low real in omega (arith, within, many, place))
    ∙ ap (λ k. slice_index_or cs.parts k no_parts) place)

-- the tally counts the cache that is to change
pub has_part : (cs : WorkerCaches) (sums : List Tally) (p class before now : ℕ) (v : View) → AreSummed cs sums → p < 4 →
    HasClass cs.version class →
    before ≡ length (titles_of v p class cs) → now ≤ 72 → HasPart (slice_index_or sums p no_tally) class before now
has_part cs sums p class before now v h low real long short =
    subst (λ n. HasPart (slice_index_or sums p no_tally) class n now)
    (ap (λ ts. length (numbered_by v ts)) (titles_of_list v cs p class low real h.many) ∙
    (numbered_long v (titles_of v p class cs) ∙ sym long))
    (part_of (numbered_in v cs p) class now (slice_index_or sums p no_tally) (real_in cs.version class real)
    (λ c. any_view cs sums v p c h) short ((h.right v).each p low))

-- the sums are those of the caches then
pub summed_after : (cs after : WorkerCaches) (sums : List Tally) (p class before now : ℕ) (new : CacheParts) (sum : Tally) →
    AreSummed cs sums → p < 4 →
    HasClass cs.version class → after ≡ with_parts p class new cs → ((v : View) → before ≡ length (titles_of v p class cs)) →
    ((v : View) → now ≡ length (list_in v new).titles) → now ≤ 72 → sum ≡ changed_by (slice_index_or sums p no_tally) class before now →
    AreSummed after (slice_set sums p sum)
summed_after cs after sums p class before now new sum h low real is was long short becomes = record {
  many = subst (λ (z : WorkerCaches). length z.parts ≡ 4 * class_total z.version) (sym is)
      (length-set cs.parts (cache_place cs.version p class) new ∙ h.many);
  short = λ v q d. short_after cs after p class new low real h.many is v 72 (let e = long v in omega (arith, e, short)) (h.short v) q d;
  right = λ v. sums_changed (numbered_in v cs) (numbered_in v after) sums p class sum low (real_in cs.version class real)
      (other_same cs after p class new low real h.many is v) (h.right v)
      (becomes
      ∙ ap (λ n. changed_by (slice_index_or sums p no_tally) class n now)
      (was v ∙ sym (was_long cs after p class new low real h.many is v))
      ∙ ap (changed_by (slice_index_or sums p no_tally) class (length (numbered_in v cs p class)))
      (long v ∙ sym (here_long cs after p class new low real h.many is v)));
}

-- ---- one call on one cache

-- The cache x at the place of a partition and a class became y, and these are how many titles both have in any view.
module _ (cs : WorkerCaches) (sums : List Tally) (p class at : ℕ) (x y : CacheParts) (before now : ℕ) (h : AreSummed cs sums) (low : p < 4)
    (real : HasClass cs.version class) (place : at ≡ cache_place cs.version p class) (is : x ≡ slice_index_or cs.parts at x)
    (was : (v : View) → before ≡ length (list_in v x).titles) (long : (v : View) → now ≡ length (list_in v y).titles) where
  pub call_at : x ≡ parts_of p class cs
  call_at = part_is cs p class at x low real h.many place is

  was_there : (v : View) → before ≡ length (titles_of v p class cs)
  was_there v = was v ∙ ap (λ (c : CacheParts). length (list_in v c).titles) call_at

  pub call_few : (v : View) → before ≤ 72
  call_few v =
      let e = was_there v in
      let f = ap length (titles_of_list v cs p class low real h.many) in
      let few = h.short v p class in
      omega (arith, e, f, few)

  pub call_part : View → now ≤ 72 → HasPart (slice_index_or sums p no_tally) class before now
  call_part v short = has_part cs sums p class before now v h low real (was_there v) short

  pub call_becomes : record cs { parts = slice_set cs.parts at y } ≡ with_parts p class y cs
  call_becomes = ap (λ k. record cs { parts = slice_set cs.parts k y }) place

  pub call_summed : (sum : Tally) → now ≤ 72 → sum ≡ changed_by (slice_index_or sums p no_tally) class before now →
      AreSummed (record cs { parts = slice_set cs.parts at y }) (slice_set sums p sum)
  call_summed sum short becomes =
      summed_after cs (record cs { parts = slice_set cs.parts at y }) sums p class before now y sum h low real call_becomes was_there long
      short becomes

-- ---- at the start

-- lists that are all empty have no slots together
pub none_summed : (cs : WorkerCaches) (sums : List Tally) →
    ((v : View) → AreNoLists cs.version (4 * class_total cs.version) (map (list_in v) cs.parts)) →
    length cs.parts ≡ 4 * class_total cs.version → sums ≡ no_tally ∷ no_tally ∷ no_tally ∷ no_tally ∷ [] → AreSummed cs sums
none_summed cs sums none many are = record {
  many = many;
  short = λ v p c. let e = ap length (empty v p c) in omega (arith, e);
  right = λ v. sums_none (numbered_in v cs) sums (λ p c. ap (numbered_by v) (empty v p c)) are;
}
  where
    empty : (v : View) (p c : ℕ) → titles_in (lists_in v cs) p c ≡ []
    empty v p c = no_titles (4 * class_total cs.version) (lists_in v cs) p c (none v)
