-- The lists of caches over chains: how many titles they have, and in which views they stay.
use Rattle.std.proofs.Common.{◌≡◌, ℕ, zero, suc, ◌/◌, ◌<◌, List, [], ◌∷◌, length, get_or, set, Option, Some, None, refl, sym, ◌∙◌, ap, subst, arith, inl, inr}
use Rattle.std.specs.Prelude.{All, Contains, IsNone, map}
use Rattle.std.proofs.lemmas.Bool.{false≢true, cases_eq}
use Rattle.std.proofs.lemmas.List.{get_or-set_same, get_or-set_other, length-set, map-set}
use Rattle.std.proofs.lemmas.List.Elements.{All-contains, Contains-get_or}
use Rattle.pa_lists.proofs.Elements.{all_from_members, same_cons, map_alike}
use Rattle.pa_slot.specs.declared.title.Title.{Title}
use Rattle.pa_slot.specs.declared.word.SlotName.{SlotName}
use Rattle.pa_slot.specs.Titles.{IsWellFormed}
use Rattle.pa_slot.specs.Links.{linked_name, first_word}
use Rattle.pa_buckets.specs.Table.{slot_of}
use Rattle.pa_buckets.specs.Laws.{RowsHaveBounds}
use Rattle.pa_record.specs.Spans.{name_of}
use Rattle.pa_region.specs.declared.view.View.{View}
use Rattle.pa_region.specs.Views.{free_of}
use Rattle.pa_region.specs.Aware.{IsAware}
use Rattle.pa_link.specs.Chains.{IsChain, Relinked, SameBeside, titles_from}
use Rattle.pa_link.proofs.Chains.{listed, stay, starts_apart}
use Rattle.pa_link.proofs.Gaps.{free_same}
use Rattle.pa_cache.specs.Caches.{IsCache}
use Rattle.pa_cache.specs.Chained.{CacheParts, KeepsBounds, HoldsList, ListsStay, OtherListsStay, list_in}

-- this many titles are along the links, whatever the words are
along_many : (words : List ℕ) (len n : ℕ) (front : Option SlotName) → (IsNone front → n ≡ 0) → length (titles_from words len n front) ≡ n
unfolding titles_from
along_many words len zero front none = refl
along_many words len (suc n) None none = let no : suc n ≡ 0 = none refl in absurd (omega arith)
along_many words len (suc n) (Some s) none =
    ap suc (along_many words len n (Some (linked_name (first_word words s))) (λ no. absurd (false≢true (sym no))))

pub list_many : (v : View) (c : CacheParts) → (IsNone c.chain.head → c.chain.len ≡ 0) → length (list_in v c).titles ≡ c.chain.len
list_many v c none = along_many v.words c.chain.slot_len c.chain.len c.chain.head none

-- a seat that has the cache's chain of some titles has its list, and these are it
pub held : (v : View) (c : CacheParts) (ts : List Title) → KeepsBounds c → IsChain v c.chain ts →
    HoldsList v c × ((list_in v c).titles ≡ ts)
held v c ts bounds chain =
    let e = listed v c.chain ts chain in
    let few = bounds.few in let many = chain.many in (
      record {
        is = subst (λ us. IsCache (record { class = c.class; titles = us })) (sym e) (record {
          class = bounds.class;
          sized = λ k d within. chain.sized k d within ∙ bounds.size;
          different = chain.different;
          few = omega arith;
        });
        chain = subst (IsChain v c.chain) (sym e) chain;
      },
      e,
    )

-- one list stays if its titles are free and have the same first words
one_stays : (v w : View) (c : CacheParts) → HoldsList v c →
    ((t : Title) → Contains (list_in v c).titles t →
    (0 < free_of w t) × (first_word w.words (name_of t) ≡ first_word v.words (name_of t))) →
    HoldsList w c × (list_in w c ≡ list_in v c)
one_stays v w c has same =
    let ts = (list_in v c).titles in
    let chain = stay v w c.chain ts (all_from_members (λ t. 0 < free_of w t) ts (λ t inside. (same t inside).0))
    (all_from_members (λ t. first_word w.words (name_of t) ≡ first_word v.words (name_of t)) ts (λ t inside. (same t inside).1))
    has.chain in
    let e = listed w c.chain ts chain in (
      record {
        is = subst (λ us. IsCache (record { class = c.class; titles = us })) (sym e) has.is;
        chain = subst (IsChain w c.chain) (sym e) chain;
      },
      ap (λ us. record { class = c.class; titles = us }) e,
    )

-- maps that are alike at each element but one
map_alike_beside : {A B : Type 0} (f g : A → B) (xs : List A) (i : ℕ) (y : B) →
    ((k : ℕ) (d : A) → k < length xs → (k ≡ i → ⊥) → f (get_or xs k d) ≡ g (get_or xs k d)) → set (map f xs) i y ≡ set (map g xs) i y
map_alike_beside f g [] i y same = refl
map_alike_beside f g (x ∷ xs) zero y same =
    ap (λ ys. y ∷ ys) (map_alike f g xs (λ k d within. same (suc k) d (omega arith) (omega arith)))
map_alike_beside f g (x ∷ xs) (suc i) y same =
    same_cons (f x) (g x) (set (map f xs) i y) (set (map g xs) i y) (same 0 x (omega arith) (omega arith))
    (map_alike_beside f g xs i y (λ k d within other. same (suc k) d (omega arith) (omega arith)))

pub lists_stay : ListsStay
lists_stay v w cs has same = ((λ k d within. (each k d within).0), map_alike (list_in w) (list_in v) cs (λ k d within. (each k d within).1))
  where
    each : All (λ c. HoldsList w c × (list_in w c ≡ list_in v c)) cs
    each k d within = one_stays v w (get_or cs k d) (has k d within)
        (λ t inside. same t (get_or cs k d, Contains-get_or cs k d within, inside))

-- stores in titles of one list leave another one
other_stays : RowsHaveBounds → (v w : View) (c d : CacheParts) → IsAware v → HoldsList v d → HoldsList w c → Relinked v w →
    SameBeside (list_in w c).titles v.words w.words →
    ((t : Title) → Contains (list_in w c).titles t → (words : ℕ) × IsWellFormed words t) →
    ((t : Title) → Contains (list_in v d).titles t → Contains (list_in w c).titles t → ⊥) → HoldsList w d × (list_in w d ≡ list_in v d)
other_stays rows v w c d aware other has re beside well apart = one_stays v w d other (λ t inside. (
  subst (λ n. 0 < n) (sym (free_same v w re t)) (here t inside),
  beside (t.start / 8) (λ u among same. starts_apart (well u among).0 v u t aware (well u among).1 (some t inside)
      (subst (λ n. 0 < n) (free_same v w re u) (All-contains (λ x. 0 < free_of w x) (list_in w c).titles u has.chain.free among))
      (here t inside)
      (λ e. apart t inside (subst (Contains (list_in w c).titles) e among)) (sym same)),
))
  where
    here : (t : Title) → Contains (list_in v d).titles t → 0 < free_of v t
    here t inside = All-contains (λ x. 0 < free_of v x) (list_in v d).titles t other.chain.free inside

    some : (t : Title) → Contains (list_in v d).titles t → 0 < t.len
    some t inside =
        let long = (rows.bounds d.class other.is.class).least_slot in
        let size : t.len ≡ slot_of d.class = All-contains (λ (x : Title). x.len ≡ slot_of d.class) (list_in v d).titles t
        other.is.sized inside in
        omega arith

pub others_stay : RowsHaveBounds → OtherListsStay
others_stay rows v w cs place c aware all has re beside well apart = (
  (λ k d within. elim (cases_eq k place) [
    | inl same ↦ subst (λ j. HoldsList w (get_or (set cs place c) j d)) (sym same)
        (subst (HoldsList w) (sym (get_or-set_same cs place c d (inside k d within same))) has)
    | inr other ↦ subst (HoldsList w) (sym (get_or-set_other cs place k c d other))
        (each k d (subst (λ n. k < n) (length-set cs place c) within) other).0
  ]),
  map-set (list_in w) cs place c ∙ map_alike_beside (list_in w) (list_in v) cs place (list_in w c)
      (λ k d within other. (each k d within other).1),
)
  where
    each : (k : ℕ) (d : CacheParts) → k < length cs → (k ≡ place → ⊥) →
        HoldsList w (get_or cs k d) × (list_in w (get_or cs k d) ≡ list_in v (get_or cs k d))
    each k d within other = other_stays rows v w c (get_or cs k d) aware (all k d within) has re beside well
        (λ t inside. apart k d t within other inside)

    inside : (k : ℕ) (d : CacheParts) → k < length (set cs place c) → k ≡ place → place < length cs
    inside k d within same = let e = length-set cs place c in omega arith
