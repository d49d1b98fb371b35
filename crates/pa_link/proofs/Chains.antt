-- Chains: which titles they have along the links, and what a push, a pop and other stores make of them.
use Rattle.std.proofs.Common.{◌≡◌, ℕ, suc, ◌+◌, ◌-◌, ◌/◌, ◌^◌, ◌<◌, List, [], ◌∷◌, length, get_or, Option, Some, None, refl, sym, ◌∙◌, ap, subst, arith}
use Rattle.std.specs.Prelude.{◌≢◌, ◌↔◌, All, Contains, IsNone}
use Rattle.std.proofs.lemmas.Bool.{false≢true}
use Rattle.std.proofs.lemmas.List.{get_or-set_same, get_or-set_other}
use Rattle.std.proofs.lemmas.List.Elements.{All-cons, All-head, All-tail, All-map, Contains-get_or}
use Rattle.pa_lists.proofs.Members.{of_some}
use Rattle.pa_lists.proofs.Pairs.{pairs_cons, pairs_tail}
use Rattle.pa_slot.specs.declared.title.Title.{Title}
use Rattle.pa_slot.specs.declared.word.SlotName.{SlotName}
use Rattle.pa_slot.specs.Titles.{IsWellFormed}
use Rattle.pa_slot.specs.Links.{link_number, linked_name, first_word, front_of, link_to, AreLinked}
use Rattle.pa_slot.proofs.Links.{links_stay, linked_back}
use Rattle.pa_slot.proofs.Same.{title_is}
use Rattle.pa_record.specs.Spans.{name_of}
use Rattle.pa_region.specs.declared.view.View.{View}
use Rattle.pa_region.specs.Views.{free_of}
use Rattle.pa_region.specs.Aware.{IsAware}
use Rattle.pa_link.specs.declared.chain.ChainParts.{ChainParts}
use Rattle.pa_link.specs.Chains.{title_named, slot_names, IsChain, titles_from, after_link, ChainsAreListed, ChainsStay, LinksElsewhere}

abbrev pub Named : Title → Type 0
Named t = (t.start < 2 ^ 32) × (t.born < 2 ^ 32)

-- a title is that of its name
named_again : (t : Title) (len : ℕ) → t.len ≡ len → title_named len (name_of t) ≡ t
named_again t len size = title_is (title_named len (name_of t)) t refl (sym size) refl

-- the link to a title leads to its name
link_leads : (t : Title) → Named t → linked_name (link_number (name_of t)) ≡ name_of t
link_leads t (start, born) = linked_back (name_of t) start born

-- titles that are linked are those along the links
along : (words : List ℕ) (len : ℕ) (ts : List Title) → All (λ (t : Title). t.len ≡ len) ts → All Named ts →
    AreLinked words (slot_names ts) →
    titles_from words len (length ts) (front_of (slot_names ts)) ≡ ts
unfolding titles_from
along words len [] sized named linked = refl
along words len (t ∷ []) sized named linked = ap (λ x. x ∷ []) (named_again t len (All-head (λ (x : Title). x.len ≡ len) t [] sized))
along words len (t ∷ u ∷ ts) sized named linked =
    let later = All-tail Named t (u ∷ ts) named in
    let next : linked_name (first_word words (name_of t)) ≡ name_of u = ap linked_name linked.0
    ∙ link_leads u (All-head Named u ts later) in
    ap (λ x. x ∷ titles_from words len (suc (length ts)) (Some (linked_name (first_word words (name_of t))))) (named_again t len
    (All-head (λ (x : Title). x.len ≡ len) t (u ∷ ts) sized))
    ∙ (ap (λ s. t ∷ titles_from words len (suc (length ts)) (Some s)) next
    ∙ ap (λ us. t ∷ us) (along words len (u ∷ ts) (All-tail (λ (x : Title). x.len ≡ len) t (u ∷ ts) sized) later linked.1))

pub listed : ChainsAreListed
listed v c ts is =
    ap (λ n. titles_from v.words c.slot_len n c.head) (sym is.many)
    ∙ (ap (λ h. titles_from v.words c.slot_len (length ts) h) is.head ∙ along v.words c.slot_len ts is.sized is.named is.links)

pub stay : ChainsStay
stay v w c ts free same is = record {
  many = is.many;
  head = is.head;
  sized = is.sized;
  named = is.named;
  free = free;
  different = is.different;
  links = links_stay v.words w.words (slot_names ts) (All-map
      (λ s. first_word w.words s ≡ first_word v.words s) name_of ts same) is.links;
}

-- a free title's first word isn't that of another one
pub starts_apart : (words : ℕ) (v : View) (t u : Title) → IsAware v → IsWellFormed words t → 0 < u.len → 0 < free_of v t → 0 < free_of v u →
    (t ≡ u → ⊥) → u.start / 8 ≡ t.start / 8 → ⊥
starts_apart words v t u aware well some has other apart same =
    let a = well.start_aligned in let b = well.long in
    apart (aware.apart t u u.start (omega arith) (omega arith) (omega arith, omega arith) (omega arith, omega arith))

pub elsewhere : LinksElsewhere
elsewhere words v t u link aware well some has other apart =
    get_or-set_other v.words (t.start / 8) (u.start / 8) link 0 (starts_apart words v t u aware well some has other apart)

-- a link that is stored in a title leaves the first words of a list in which that isn't
pub all_elsewhere : (words : ℕ) (v : View) (t : Title) (link : ℕ) (ts : List Title) → IsAware v → IsWellFormed words t → 0 < free_of v t →
    All (λ (x : Title). x.len ≡ t.len) ts → All (λ x. 0 < free_of v x) ts → (Contains ts t → ⊥) →
    All (λ x. first_word (after_link t link v).words (name_of x) ≡ first_word v.words (name_of x)) ts
all_elsewhere words v t link ts aware well has sized free new = λ k d within.
    let a = well.long in let b = sized k d within in
    elsewhere words v t (get_or ts k d) link aware well (omega arith) has (free k d within)
    (λ same. new (subst (Contains ts) (sym same) (Contains-get_or ts k d within)))

-- a push
pub pushed : (words : ℕ) (v w : View) (c : ChainParts) (t : Title) (ts : List Title) → IsAware v → IsWellFormed words t →
    length v.words ≡ words →
    0 < free_of v t → t.len ≡ c.slot_len → Named t → w ≡ after_link t (link_to c.head) v → IsChain v c ts → (Contains ts t → ⊥) →
    IsChain w (record { slot_len = c.slot_len; head = Some (name_of t); len = c.len + 1 }) (t ∷ ts)
pushed words v w c t ts aware well long free size named e is new =
    subst (λ (x : View). IsChain x (record { slot_len = c.slot_len; head = Some (name_of t); len = c.len + 1 }) (t ∷ ts)) (sym e)
    (record {
      many = let m = is.many in omega arith;
      head = refl;
      sized = All-cons (λ (x : Title). x.len ≡ c.slot_len) t ts size is.sized;
      named = All-cons Named t ts named is.named;
      free = All-cons (λ x. 0 < free_of v x) t ts free is.free;
      different = pairs_cons ◌≢◌ t ts (λ x inside same. new (subst (Contains ts) (sym same) inside)) is.different;
      links = (
        here,
        links_stay v.words (after_link t (link_to c.head) v).words (slot_names ts)
            (All-map (λ s. first_word (after_link t (link_to c.head) v).words s ≡ first_word v.words s) name_of ts
            (all_elsewhere words v t (link_to c.head) ts aware well free (λ k d within. is.sized k d within
            ∙ sym size) is.free new)) is.links,
      );
    })
  where
    here : first_word (after_link t (link_to c.head) v).words (name_of t) ≡ link_to (front_of (slot_names ts))
    here =
        let a = well.inside in let b = well.long in
        get_or-set_same v.words (t.start / 8) (link_to c.head) 0 (omega arith) ∙ ap link_to is.head

-- the front of a chain is its first title
pub front_is : (v : View) (c : ChainParts) (ts : List Title) (name : SlotName) → IsChain v c ts → c.head ≡ Some name →
    (rest : List Title) × (ts ≡ title_named c.slot_len name ∷ rest)
front_is v c [] name is e = let no : None ≡ Some name = sym is.head ∙ e in absurd cc
front_is v c (t ∷ rest) name is e =
    let same : name_of t ≡ name = of_some (name_of t) name (sym is.head ∙ e) in
    let size : t.len ≡ c.slot_len = All-head (λ (x : Title). x.len ≡ c.slot_len) t rest is.sized in
    (rest, ap (λ x. x ∷ rest) (sym (named_again t c.slot_len size) ∙ ap (title_named c.slot_len) same))

-- the seat holds the front of a chain free
pub front_free : (v : View) (c : ChainParts) (ts : List Title) (name : SlotName) → IsChain v c ts → c.head ≡ Some name →
    0 < free_of v (title_named c.slot_len name)
front_free v c ts name is e =
    let front = front_is v c ts name is e in
    All-head (λ x. 0 < free_of v x) (title_named c.slot_len name) front.0 (subst (All (λ x. 0 < free_of v x)) front.1 is.free)

pub none_is : (h : Option SlotName) → IsNone h → h ≡ None
none_is None none = refl
none_is (Some s) none = absurd (false≢true (sym none))

-- a chain without its front
without_front : (v : View) (c : ChainParts) (t : Title) (rest : List Title) (h : Option SlotName) → IsChain v c (t ∷ rest) →
    (IsNone h ↔ (c.len - 1 ≡ 0)) → (0 < c.len - 1 → h ≡ Some (linked_name (first_word v.words (name_of t)))) →
    IsChain v (record { slot_len = c.slot_len; head = h; len = c.len - 1 }) rest
without_front v c t rest h is none next = record {
  many = let m = is.many in omega arith;
  head = front rest is;
  sized = All-tail (λ (x : Title). x.len ≡ c.slot_len) t rest is.sized;
  named = All-tail Named t rest is.named;
  free = All-tail (λ x. 0 < free_of v x) t rest is.free;
  different = pairs_tail ◌≢◌ t rest is.different;
  links = is.links.1;
}
  where
    front : (us : List Title) → IsChain v c (t ∷ us) → h ≡ front_of (slot_names us)
    front [] it = let m = it.many in none_is h (none.1 (omega arith))
    front (u ∷ us) it =
        let m = it.many in
        next (omega arith) ∙ ap Some (ap linked_name it.links.0 ∙ link_leads u (All-head Named u us (All-tail Named t (u ∷ us) it.named)))

-- a pop
pub popped : (v : View) (c : ChainParts) (name : SlotName) (h : Option SlotName) → c.head ≡ Some name → (IsNone h ↔ (c.len - 1 ≡ 0)) →
    (0 < c.len - 1 → h ≡ Some (linked_name (first_word v.words name))) → (ts : List Title) → IsChain v c ts →
    (rest : List Title) × (ts ≡ title_named c.slot_len name ∷ rest) ×
    IsChain v (record { slot_len = c.slot_len; head = h; len = c.len - 1 }) rest
popped v c name h e none next ts is =
    let front = front_is v c ts name is e in
    (front.0, front.1, without_front v c (title_named c.slot_len name) front.0 h (subst (λ us. IsChain v c us) front.1 is) none next)
