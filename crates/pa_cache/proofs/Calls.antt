-- What each call makes of a cache: the list that the seat has then, and which words were stored.
use Rattle.std.proofs.Common.{◌≡◌, ℕ, suc, ◌+◌, ◌-◌, ◌^◌, ◌<◌, ◌≤◌, List, [], ◌∷◌, ◌++◌, length, take, drop, get_or, Option, None, refl, sym, ◌∙◌, ap, subst, arith, length-append}
use Rattle.std.specs.Prelude.{◌≢◌, ◌↔◌, All, AllPairs, Contains, IsNone, IfSome}
use Rattle.std.specs.Option.{option_to_list}
use Rattle.std.proofs.lemmas.List.{nil_from_length, drop-drop}
use Rattle.std.proofs.lemmas.List.Elements.{All-nil, All-take, All-drop, Contains-append_left, Contains-get_or}
use Rattle.std.proofs.Math.Seq.{drop-cons}
use Rattle.pa_lists.proofs.Pairs.{pairs_none, pairs_head}
use Rattle.pa_lists.proofs.Members.{first_in}
use Rattle.pa_slot.specs.declared.title.Title.{Title}
use Rattle.pa_buckets.specs.Limits.{class_count}
use Rattle.pa_buckets.specs.Table.{slot_of}
use Rattle.pa_buckets.specs.Bands.{limit_of}
use Rattle.pa_region.specs.declared.view.View.{View}
use Rattle.pa_region.specs.Views.{free_of}
use Rattle.pa_region.specs.Aware.{IsAware}
use Rattle.pa_link.specs.declared.chain.ChainParts.{ChainParts}
use Rattle.pa_link.specs.Chains.{IsChain, Relinked, SameBeside, after_link}
use Rattle.pa_link.proofs.Chains.{none_is}
use Rattle.pa_link.proofs.Gaps.{free_same, relinked_once, beside_once}
use Rattle.pa_cache.specs.Caches.{IsFreeAtItsNumber, batch_after, rest_after}
use Rattle.pa_cache.proofs.Middle.{outside_short, first_stay, later_stay, pairs_take, pairs_drop}
use Rattle.pa_cache.proofs.Keeping.{front_has, at_their_numbers, none_behind}
use Rattle.pa_cache.specs.Chained.{CacheParts, KeepsBounds, HoldsList, list_in}
use Rattle.pa_cache.proofs.Lists.{list_many, held}

-- a chain without titles
pub chain_none : (v : View) (c : ChainParts) → c.head ≡ None → c.len ≡ 0 → IsChain v c []
chain_none v c head len = record {
  many = sym len;
  head = head;
  sized = All-nil (λ (t : Title). t.len ≡ c.slot_len);
  named = All-nil (λ (t : Title). (t.start < 2 ^ 32) × (t.born < 2 ^ 32));
  free = All-nil (λ t. 0 < free_of v t);
  different = pairs_none ◌≢◌;
  links = tt;
}

-- a cache with a chain that isn't too long keeps the bounds
kept : (c d : CacheParts) → KeepsBounds c → d.class ≡ c.class → d.chain.slot_len ≡ c.chain.slot_len → d.chain.len ≤ limit_of c.class + 8 →
    KeepsBounds d
kept c d bounds class size few = record {
  class = subst (λ n. n < class_count) (sym class) bounds.class;
  size = size ∙ (bounds.size ∙ ap slot_of (sym class));
  few = subst (λ n. d.chain.len ≤ limit_of n + 8) (sym class) few;
}

-- A cache became one that a seat with this view has, with these titles.
pub record Becomes (w : View) (d : CacheParts) (ts : List Title) : Type 0 where
  pub bounds : KeepsBounds d
  pub has : HoldsList w d
  pub titles : (list_in w d).titles ≡ ts

pub becomes : (w : View) (c d : CacheParts) (ts : List Title) → KeepsBounds c → d.class ≡ c.class → d.chain.slot_len ≡ c.chain.slot_len →
    length ts ≤ limit_of c.class + 8 → IsChain w d.chain ts → Becomes w d ts
becomes w c d ts bounds class size few chain =
    let many = chain.many in
    let now = kept c d bounds class size (omega arith) in
    let is = held w d ts now chain in
    record { bounds = now; has = is.0; titles = is.1 }

-- a new one has no titles
pub begins : (v : View) (class n : ℕ) (c : ChainParts) → class < class_count → n ≡ slot_of class →
    c ≡ record { slot_len = n; head = None; len = 0 } → Becomes v (record { class = class; chain = c }) []
begins v class n c small size e =
    let chain : IsChain v c [] = chain_none v c (ap (λ (d : ChainParts). d.head) e) (ap (λ (d : ChainParts). d.len) e) in
    let len : c.len ≡ 0 = ap (λ (d : ChainParts). d.len) e in
    let bounds : KeepsBounds (record { class = class; chain = c }) = record {
      class = small;
      size = ap (λ (d : ChainParts). d.slot_len) e ∙ size;
      few = omega arith;
    } in
    let is = held v (record { class = class; chain = c }) [] bounds chain in
    record { bounds = bounds; has = is.0; titles = is.1 }

-- an empty list is an empty chain
pub empty_chain : (v : View) (c : CacheParts) → (IsNone c.chain.head ↔ (c.chain.len ≡ 0)) → (list_in v c).titles ≡ [] → IsChain v c.chain []
empty_chain v c none empty =
    let len : c.chain.len ≡ 0 = sym (list_many v c none.0) ∙ ap length empty in
    chain_none v c.chain (none_is c.chain.head (none.1 len)) len

-- A pop took the front.
pub record IsPopped (v : View) (c d : CacheParts) (out : Option Title) : Type 0 where
  pub none : IsNone out ↔ ((list_in v c).titles ≡ [])
  pub front : (list_in v c).titles ≡ option_to_list out ++ (list_in v d).titles
  pub size : IfSome out (λ t. t.len ≡ slot_of c.class)
  pub number : IfSome out (IsFreeAtItsNumber v)
  pub has : HoldsList v d

pub popped : (v : View) (c d : CacheParts) (out : Option Title) → IsAware v → KeepsBounds c → HoldsList v c → d.class ≡ c.class →
    d.chain.slot_len ≡ c.chain.slot_len → (IsNone out ↔ (c.chain.len ≡ 0)) →
    ((ts : List Title) → IsChain v c.chain ts → (rest : List Title) × (ts ≡ option_to_list out ++ rest) × IsChain v d.chain rest) →
    IsPopped v c d out
popped v c d out aware bounds has class size none pop =
    let ts = (list_in v c).titles in
    let off = pop ts has.chain in
    let few = bounds.few in let long = has.chain.many in
    let fewer : length off.0 ≤ length ts = omega (arith, ap length off.1, length-append (option_to_list out) off.0) in
    let now = becomes v c d off.0 bounds class size (omega arith) off.2 in
    record {
      none = ((λ no. nil_from_length ts (long ∙ none.0 no)), (λ empty. none.1 (sym long ∙ ap length empty)));
      front = off.1 ∙ ap (λ us. option_to_list out ++ us) (sym now.titles);
      size = front_has (λ (t : Title). t.len ≡ slot_of c.class) out ts off.0 off.1 has.is.sized;
      number = front_has (IsFreeAtItsNumber v) out ts off.0 off.1 (at_their_numbers v ts aware has.chain.free);
      has = now.has;
    }

-- A push put a title at the front.
pub record IsPushed (v w : View) (c d : CacheParts) (t : Title) : Type 0 where
  pub front : (list_in w d).titles ≡ t ∷ (list_in v c).titles
  pub has : HoldsList w d
  pub relinked : Relinked v w
  pub beside : SameBeside (list_in w d).titles v.words w.words

pub pushed : (v w : View) (c d : CacheParts) (t : Title) (link : ℕ) → KeepsBounds c → HoldsList v c → d.class ≡ c.class →
    d.chain.slot_len ≡ c.chain.slot_len → length (list_in v c).titles ≤ limit_of c.class → 0 < free_of v t → w ≡ after_link t link v →
    IsChain w d.chain (t ∷ (list_in v c).titles) → IsPushed v w c d t
pushed v w c d t link bounds has class size few free stored chain =
    let now = becomes w c d (t ∷ (list_in v c).titles) bounds class size (omega arith) chain in
    record {
      front = now.titles;
      has = now.has;
      relinked = subst (Relinked v) (sym stored) (relinked_once t link v free);
      beside = subst (λ (x : View). SameBeside (list_in w d).titles v.words x.words) (sym stored)
          (beside_once t link v (list_in w d).titles (subst (λ us. Contains us t) (sym now.titles) (first_in t (list_in v c).titles)));
    }

-- Of titles that are pushed from the last to the first, the next one: it comes before those that were pushed, and isn't among them.
pub record IsNextPushed (ts : List Title) (done : ℕ) (t : Title) : Type 0 where
  pub after : drop (length ts - (done + 1)) ts ≡ t ∷ drop (length ts - done) ts
  pub new : Contains (drop (length ts - done) ts) t → ⊥
  pub inside : Contains ts t

pub next_pushed : (ts : List Title) (done : ℕ) (d : Title) → AllPairs ◌≢◌ ts → done < length ts →
    IsNextPushed ts done (get_or ts (length ts - 1 - done) d)
next_pushed ts done d different less = record {
  after = is;
  new = λ among. pairs_head ◌≢◌ t t rest (subst (AllPairs ◌≢◌) is (pairs_drop ◌≢◌ (length ts - (done + 1)) ts different)) among refl;
  inside = Contains-get_or ts (length ts - 1 - done) d (omega arith);
}
  where
    t : Title
    t = get_or ts (length ts - 1 - done) d

    rest : List Title
    rest = drop (length ts - done) ts

    is : drop (length ts - (done + 1)) ts ≡ t ∷ rest
    is =
        let here : length ts - (done + 1) ≡ length ts - 1 - done = omega arith in
        let later : suc (length ts - 1 - done) ≡ length ts - done = omega arith in
        ap (λ n. drop n ts) here ∙ (drop-cons ts (length ts - 1 - done) d (omega arith) ∙ ap (λ n. t ∷ drop n ts) later)

-- A spill took out these titles after the first `keep`.
pub record IsSpilled (v w : View) (c d : CacheParts) (keep : ℕ) (items : List Title) : Type 0 where
  pub batch : items ≡ batch_after keep (list_in v c).titles
  pub rest : (list_in w d).titles ≡ rest_after keep (list_in v c).titles
  pub first : take keep (list_in w d).titles ≡ take keep (list_in v c).titles
  pub later : drop keep (list_in w d).titles ≡ drop 16 (drop keep (list_in v c).titles)
  pub none : (items ≡ []) ↔ (length (list_in v c).titles ≤ keep)
  pub size : All (λ (t : Title). t.len ≡ slot_of c.class) items
  pub different : AllPairs ◌≢◌ items
  pub number : All (IsFreeAtItsNumber w) items
  pub has : HoldsList w d
  pub beside : SameBeside (list_in w d).titles v.words w.words

pub spilled : (v w : View) (c d : CacheParts) (keep : ℕ) (items : List Title) → IsAware w → KeepsBounds c → HoldsList v c →
    d.class ≡ c.class → d.chain.slot_len ≡ c.chain.slot_len → Relinked v w → SameBeside (take keep (list_in v c).titles) v.words w.words →
    items ≡ batch_after keep (list_in v c).titles → IsChain w d.chain (rest_after keep (list_in v c).titles) → IsSpilled v w c d keep items
spilled v w c d keep items aware bounds has class size re beside batch chain = record {
  batch = batch;
  rest = now.titles;
  first = ap (take keep) now.titles ∙ first_stay keep (keep + 16) ts (omega arith);
  later = ap (drop keep) now.titles ∙ (later_stay keep (keep + 16) ts (omega arith) ∙ sym (drop-drop 16 keep ts));
  none = subst (λ us. (us ≡ []) ↔ (length ts ≤ keep)) (sym batch) (none_behind keep ts);
  size = among (λ (t : Title). t.len ≡ slot_of c.class) has.is.sized;
  different = subst (AllPairs ◌≢◌) (sym batch) (pairs_take ◌≢◌ 16 (drop keep ts) (pairs_drop ◌≢◌ keep ts has.is.different));
  number = among (IsFreeAtItsNumber w) (at_their_numbers w ts aware
      (λ k e within. subst (λ n. 0 < n) (sym (free_same v w re (get_or ts k e))) (has.chain.free k e within)));
  has = now.has;
  beside = λ q none. beside q (λ t inside same. none t (subst (λ us. Contains us t) (sym now.titles) (Contains-append_left (take keep ts)
      (drop (keep + 16) ts) t inside)) same);
}
  where
    ts : List Title
    ts = (list_in v c).titles

    now : Becomes w d (rest_after keep ts)
    now =
        let few = bounds.few in let many = has.chain.many in let short = outside_short keep (keep + 16) ts (omega arith) in
        becomes w c d (rest_after keep ts) bounds class size (omega arith) chain

    among : (P : Title → Type 0) → All P ts → All P items
    among P all = subst (All P) (sym batch) (All-take P 16 (drop keep ts) (All-drop P keep ts all))
