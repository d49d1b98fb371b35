-- Titles that are taken out of the middle of a chain: those before them, those after them, and the link that joins both.
use Rattle.std.proofs.Common.{◌≡◌, ℕ, zero, suc, ◌+◌, ◌/◌, ◌<◌, ◌≤◌, List, [], ◌∷◌, ◌++◌, length, take, drop, Option, Some, None, refl, sym, ◌∙◌, ap, subst, arith, add-one, append_assoc, length-append}
use Rattle.std.specs.Prelude.{◌≢◌, ◌↔◌, All, AllPairs, Contains, IsNone}
use Rattle.std.specs.Option.{option_to_list}
use Rattle.std.proofs.lemmas.Bool.{false≢true}
use Rattle.std.proofs.lemmas.List.{get_or-set_same, get_or-set_other, length-set, length-drop, drop-drop, take_at, drop_at, take_all, drop_all, nil_from_length, map-append, take-append-drop}
use Rattle.std.proofs.lemmas.List.Elements.{All-head, All-map, All-append, All-drop, Contains-append_right}
use Rattle.pa_lists.proofs.Elements.{all_front, pairs_front, drop_in, all_back}
use Rattle.pa_lists.proofs.Parts.{pairs_across, pairs_after}
use Rattle.pa_lists.proofs.Members.{first_in}
use Rattle.pa_lists.proofs.Joined.{pairs_append}
use Rattle.pa_slot.specs.declared.title.Title.{Title}
use Rattle.pa_slot.specs.Titles.{IsWellFormed}
use Rattle.pa_slot.specs.Links.{first_word, front_of, link_to, AreLinked}
use Rattle.pa_slot.proofs.Links.{links_join}
use Rattle.pa_record.specs.Spans.{name_of}
use Rattle.pa_region.specs.declared.view.View.{View}
use Rattle.pa_region.specs.Views.{free_of}
use Rattle.pa_region.specs.Aware.{IsAware}
use Rattle.pa_link.specs.declared.chain.ChainParts.{ChainParts}
use Rattle.pa_link.specs.Chains.{slot_names, IsChain, IsSkipped, after_link, Relinked, SameBeside}
use Rattle.pa_link.proofs.Chains.{Named, all_elsewhere}

-- stores of links: none, and one
pub relinked_none : (v : View) → Relinked v v
relinked_none v = record { rest = refl; long = refl; others = λ q free. refl }

pub relinked_once : (t : Title) (link : ℕ) (v : View) → 0 < free_of v t → Relinked v (after_link t link v)
relinked_once t link v has = record {
  rest = refl;
  long = length-set v.words (t.start / 8) link;
  others = λ q free. get_or-set_other v.words (t.start / 8) q link 0 (λ same. free t has (sym same));
}

-- a store in one of some titles leaves the words beside their first ones
pub beside_once : (t : Title) (link : ℕ) (v : View) (ts : List Title) → Contains ts t → SameBeside ts v.words (after_link t link v).words
beside_once t link v ts inside q others = get_or-set_other v.words (t.start / 8) q link 0 (λ same. others t inside (sym same))

-- links leave what is free
pub free_same : (v w : View) → Relinked v w → (t : Title) → free_of w t ≡ free_of v t
free_same v w re t = ap (λ (y : View). free_of y t) re.rest

-- more of them after some
pub relinked_more : (v w x : View) → Relinked v w → Relinked w x → Relinked v x
relinked_more v w x first next = record {
  rest = next.rest ∙ ap (λ (y : View). record y { words = x.words; since = record y.since { stored = x.since.stored } }) first.rest;
  long = next.long ∙ first.long;
  others = λ q free. next.others q (λ t has. free t (subst (λ n. 0 < n) (free_same v w first t) has)) ∙ first.others q free;
}

-- all but the first n of the second part stay
all_kept : {A : Type 0} (P : A → Type 0) (n : ℕ) (xs ys : List A) → All P (xs ++ ys) → All P (xs ++ drop n ys)
all_kept P n xs ys all = All-append P xs (drop n ys) (all_front P xs ys all) (All-drop P n ys (all_back P xs ys all))

pairs_kept : {A : Type 0} (R : A → A → Type 0) (n : ℕ) (xs ys : List A) → AllPairs R (xs ++ ys) → AllPairs R (xs ++ drop n ys)
pairs_kept R n xs ys all =
    pairs_append R xs (drop n ys) (pairs_front R xs ys all)
    (pairs_after R (take n ys) (drop n ys) (subst (AllPairs R) (sym (take-append-drop n ys)) (pairs_after R xs ys all)))
    (λ x y left right. pairs_across R xs ys x y all left (drop_in n ys y right))

-- a list of parts without the first 16 of the last one
pub kept_parts : {A : Type 0} (keep : ℕ) (front rest ts : List A) → ts ≡ front ++ rest → length front ≡ keep →
    (take 16 (drop keep ts) ≡ take 16 rest) × (take keep ts ++ drop (keep + 16) ts ≡ front ++ drop 16 rest)
kept_parts keep front rest ts is count =
    let first : take keep ts ≡ front = ap (take keep) is ∙ take_at front rest keep count in
    let later : drop keep ts ≡ rest = ap (drop keep) is ∙ drop_at front rest keep count in
    let far : drop (keep + 16) ts ≡ drop 16 rest = sym (drop-drop 16 keep ts) ∙ ap (drop 16) later in
    (ap (take 16) later, ap (λ xs. xs ++ drop (keep + 16) ts) first ∙ ap (λ ys. front ++ ys) far)

-- one more title is skipped
pub skipped_more : (v : View) (c d : ChainParts) (n : ℕ) (last next : Option Title) (ts : List Title) → IsSkipped v c n last ts →
    0 < c.len →
    (IsNone next ↔ (c.len ≡ 0)) →
    ((us : List Title) → IsChain v c us → (rest : List Title) × (us ≡ option_to_list next ++ rest) × IsChain v d rest) →
    IsSkipped v d (n + 1) next ts
skipped_more v c d n last None ts so more none pop = let m = none.0 refl in absurd (omega arith)
skipped_more v c d n last (Some t) ts so more none pop =
    let p = pop so.rest so.chain in
    let all : ts ≡ ((so.before ++ option_to_list last) ++ t ∷ []) ++ p.0 =
    so.parts ∙ (ap (λ us. (so.before ++ option_to_list last) ++ us) p.1
    ∙ sym (append_assoc (so.before ++ option_to_list last) (t ∷ []) p.0)) in
    record {
      before = so.before ++ option_to_list last;
      rest = p.0;
      parts = all;
      counted = let m = so.counted in omega (arith, length-append (so.before ++ option_to_list last) (t ∷ []));
      none = λ none. absurd (false≢true (sym none));
      chain = p.2;
    }

-- one more at the end of what was taken, and what is left
next_of : {A : Type 0} (n : ℕ) (xs rest : List A) (x : A) → drop n xs ≡ x ∷ rest →
    (take (suc n) xs ≡ take n xs ++ x ∷ []) × (drop (suc n) xs ≡ rest)
next_of zero xs rest x is = (ap (take 1) is, ap (drop 1) is)
next_of (suc n) [] rest x is = absurd cc
next_of (suc n) (y ∷ xs) rest x is = let more = next_of n xs rest x is in (ap (λ zs. y ∷ zs) more.0, more.1)

-- `n` titles were taken off the front
pub record AreTaken (v : View) (c : ChainParts) (n : ℕ) (items ts : List Title) : Type 0 where
  pub batch : items ≡ take n ts
  pub chain : IsChain v c (drop n ts)

pub taken_some : (v : View) (c d : ChainParts) (n : ℕ) (batch now : List Title) (t : Title) (ts : List Title) →
    AreTaken v c n batch ts → now ≡ batch ++ t ∷ [] →
    ((us : List Title) → IsChain v c us → (rest : List Title) × (us ≡ t ∷ rest) × IsChain v d rest) → AreTaken v d (n + 1) now ts
taken_some v c d n batch now t ts so is pop =
    let p = pop (drop n ts) so.chain in
    let more = next_of n ts p.0 t p.1 in
    record {
      batch = is ∙ (ap (λ us. us ++ t ∷ []) so.batch ∙ (sym more.0 ∙ ap (λ m. take m ts) (sym (add-one n))));
      chain = subst (λ us. IsChain v d us) (sym (ap (λ m. drop m ts) (add-one n) ∙ more.1)) p.2;
    }

pub taken_none : (v : View) (c d : ChainParts) (n : ℕ) (batch : List Title) (ts : List Title) → AreTaken v c n batch ts → c.len ≡ 0 →
    ((us : List Title) → IsChain v c us → (rest : List Title) × (us ≡ rest) × IsChain v d rest) → AreTaken v d (n + 1) batch ts
taken_none v c d n batch ts so empty pop =
    let p = pop (drop n ts) so.chain in
    let m = so.chain.many in
    let short : length ts ≤ n = omega (arith, length-drop n ts) in
    let same : drop (n + 1) ts ≡ drop n ts = drop_all (n + 1) ts (omega arith) ∙ sym (drop_all n ts short) in
    record {
      batch = so.batch ∙ (take_all n ts short ∙ sym (take_all (n + 1) ts (omega arith)));
      chain = subst (λ us. IsChain v d us) (sym (same ∙ p.1)) p.2;
    }

-- The link in the last title before the gap joins what is before it and what is after it.
pub joined : (words : ℕ) (v w : View) (c d : ChainParts) (keep : ℕ) (last : Title) (before rest : List Title) → IsAware v →
    IsWellFormed words last → length v.words ≡ words →
    IsChain v c ((before ++ last ∷ []) ++ rest) → IsChain v d (drop 16 rest) → d.slot_len ≡ c.slot_len →
    length (before ++ last ∷ []) ≡ keep →
    w ≡ after_link last (link_to d.head) v →
    IsChain w (record { slot_len = c.slot_len; head = c.head; len = keep + d.len }) ((before ++ last ∷ []) ++ drop 16 rest)
joined words v w c d keep last before rest aware well long is tail size count e =
    subst (λ (x : View). IsChain x (record { slot_len = c.slot_len; head = c.head; len = keep + d.len }) (front ++ drop 16 rest))
    (sym e) (record {
      many = let m = tail.many in omega (arith, length-append front (drop 16 rest));
      head = is.head ∙ same_front before;
      sized = all_kept (λ (x : Title). x.len ≡ c.slot_len) 16 front rest is.sized;
      named = all_kept Named 16 front rest is.named;
      free = all_kept (λ x. 0 < free_of v x) 16 front rest is.free;
      different = pairs_kept ◌≢◌ 16 front rest is.different;
      links = subst (λ ss. AreLinked after.words ss) (sym (names_are (drop 16 rest)))
          (links_join v.words after.words (slot_names before) (slot_names (drop 16 rest)) (slot_names rest) (name_of last)
          (subst (λ ss. AreLinked v.words ss) (names_are rest) is.links) tail.links
          (All-map (λ s. first_word after.words s ≡ first_word v.words s) name_of before (all_elsewhere words v last
          (link_to d.head) before aware well has (alike before sized_before) free_before not_before))
          (All-map (λ s. first_word after.words s ≡ first_word v.words s) name_of (drop 16 rest) (all_elsewhere words v last
          (link_to d.head) (drop 16 rest) aware well has (alike (drop 16 rest) (λ k z within. tail.sized k z within
          ∙ size)) tail.free not_after))
          here);
    })
  where
    front : List Title
    front = before ++ last ∷ []

    after : View
    after = after_link last (link_to d.head) v

    size_last : last.len ≡ c.slot_len
    size_last = All-head (λ (x : Title). x.len ≡ c.slot_len) last [] (all_back (λ (x : Title). x.len ≡ c.slot_len) before (last ∷ [])
        (all_front (λ (x : Title). x.len ≡ c.slot_len) front rest is.sized))

    has : 0 < free_of v last
    has = All-head (λ x. 0 < free_of v x) last [] (all_back (λ x. 0 < free_of v x) before (last ∷ []) (all_front
        (λ x. 0 < free_of v x) front rest is.free))

    alike : (us : List Title) → All (λ (x : Title). x.len ≡ c.slot_len) us → All (λ (x : Title). x.len ≡ last.len) us
    alike us all = λ k z within. all k z within ∙ sym size_last

    sized_before : All (λ (x : Title). x.len ≡ c.slot_len) before
    sized_before = all_front (λ (x : Title). x.len ≡ c.slot_len) before (last ∷ []) (all_front (λ
        (x : Title). x.len ≡ c.slot_len) front rest is.sized)

    free_before : All (λ x. 0 < free_of v x) before
    free_before = all_front (λ x. 0 < free_of v x) before (last ∷ []) (all_front (λ x. 0 < free_of v x) front rest is.free)

    not_before : Contains before last → ⊥
    not_before inside = pairs_across ◌≢◌ before (last ∷ []) last last (pairs_front ◌≢◌ front rest is.different) inside
        (first_in last []) refl

    not_after : Contains (drop 16 rest) last → ⊥
    not_after inside = pairs_across ◌≢◌ front rest last last is.different (Contains-append_right before (last ∷ []) last
        (first_in last [])) (drop_in 16 rest last inside) refl

    same_front : (us : List Title) → front_of (slot_names ((us ++ last ∷ []) ++ rest)) ≡ front_of (slot_names
        ((us ++ last ∷ []) ++ drop 16 rest))
    same_front [] = refl
    same_front (u ∷ us) = refl

    names_are : (us : List Title) → slot_names ((before ++ last ∷ []) ++ us) ≡ slot_names before ++ name_of last ∷ slot_names us
    names_are us = ap slot_names (append_assoc before (last ∷ []) us) ∙ map-append name_of before (last ∷ us)

    here : first_word after.words (name_of last) ≡ link_to (front_of (slot_names (drop 16 rest)))
    here =
        let a = well.inside in let b = well.long in
        get_or-set_same v.words (last.start / 8) (link_to d.head) 0 (omega arith) ∙ ap link_to tail.head

-- the last title that was skipped is free
pub last_free : (v : View) (c e : ChainParts) (keep : ℕ) (last : Title) (ts : List Title) → IsChain v c ts →
    IsSkipped v e keep (Some last) ts → 0 < free_of v last
last_free v c e keep last ts is so =
    let P : Title → Type 0 = λ x. 0 < free_of v x in
    All-head P last [] (all_back P so.before (last ∷ []) (all_front P (so.before ++ last ∷ []) so.rest (subst (All P) so.parts is.free)))

-- the link that ends a skipped part changes no word beside the first one of its last title
pub cut_beside : (v : View) (c : ChainParts) (keep link : ℕ) (last : Title) (ts : List Title) → IsSkipped v c keep (Some last) ts →
    SameBeside (take keep ts) v.words (after_link last link v).words
cut_beside v c keep link last ts so =
    let first : take keep ts ≡ so.before ++ last ∷ [] = ap (take keep) so.parts
    ∙ take_at (so.before ++ last ∷ []) so.rest keep so.counted in
    beside_once last link v (take keep ts) (subst (λ us. Contains us last) (sym first) (Contains-append_right so.before (last ∷ [])
    last (first_in last [])))

-- what comes off after the last title that was skipped, and what stays
pub cut_some : (words : ℕ) (v w : View) (c d e : ChainParts) (keep : ℕ) (last : Title) (items ts : List Title) → IsAware v →
    IsWellFormed words last → length v.words ≡ words →
    IsChain v c ts → IsSkipped v e keep (Some last) ts → ((us : List Title) → IsChain v e us →
    (items ≡ take 16 us) × IsChain v d (drop 16 us)) →
    d.slot_len ≡ c.slot_len → w ≡ after_link last (link_to d.head) v →
    (items ≡ take 16 (drop keep ts)) × IsChain w (record { slot_len = c.slot_len; head = c.head; len = keep + d.len })
    (take keep ts ++ drop (keep + 16) ts)
cut_some words v w c d e keep last items ts aware well long is so taken size stored =
    let parts = kept_parts keep (so.before ++ last ∷ []) so.rest ts so.parts so.counted in
    let off = taken so.rest so.chain in (
      off.0 ∙ sym parts.0,
      subst (λ us. IsChain w (record { slot_len = c.slot_len; head = c.head; len = keep + d.len }) us) (sym parts.1)
          (joined words v w c d keep last so.before so.rest aware well long (subst
          (λ us. IsChain v c us) so.parts is) off.1 size so.counted stored),
    )

-- the titles that are taken off, if none was skipped
pub cut_none : (v : View) (d e : ChainParts) (keep : ℕ) (items ts : List Title) → IsSkipped v e keep None ts →
    ((us : List Title) → IsChain v e us → (items ≡ take 16 us) × IsChain v d (drop 16 us)) →
    (items ≡ take 16 (drop keep ts)) × IsChain v d (take keep ts ++ drop (keep + 16) ts)
cut_none v d e keep items ts so taken =
    let parts = kept_parts keep (so.before ++ []) so.rest ts so.parts so.counted in
    let off = taken so.rest so.chain in
    let empty : so.before ++ [] ≡ [] = nil_from_length (so.before ++ []) (so.counted ∙ so.none refl) in (
      off.0 ∙ sym parts.0,
      subst (λ us. IsChain v d us) (sym (parts.1 ∙ ap (λ us. us ++ drop 16 so.rest) empty)) off.1,
    )
