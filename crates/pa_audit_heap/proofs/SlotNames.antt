-- The names of titles and of numbered slots, one by one.
use Rattle.std.proofs.Common.{◌≡◌, ◌≢◌, ℕ, ◌+◌, ◌<◌, ◌≤◌, List, [], ◌∷◌, ◌++◌, length, get_or, map, take, sym, ◌∙◌, ap, subst, arith, inl, inr}
use Rattle.std.specs.Prelude.{Contains, All, AllPairs}
use Rattle.std.proofs.lemmas.List.{map-append, take_more, take_more_same, get_or-map, get_or-take, length-map, length-take-le, take_all}
use Rattle.std.proofs.lemmas.List.Elements.{Contains-push_cases, All-push}
use Rattle.pa_slot.specs.declared.title.Title.{Title}
use Rattle.pa_slot.specs.declared.word.SlotName.{SlotName}
use Rattle.pa_record.specs.declared.numbered.Numbered.{Numbered}
use Rattle.pa_record.specs.Spans.{name_of}
use Rattle.pa_record.specs.Root.{names}
use Rattle.pa_lists.proofs.Pairs.{pairs_push}

-- what fills a place past the end
abbrev pub no_name : SlotName
no_name = record { start = 0; born = 0 }

abbrev pub no_slot : Numbered
no_slot = record { slot = no_name; number = 0 }

abbrev pub no_title : Title
no_title = record { start = 0; len = 0; born = 0 }

abbrev slot_name : Numbered → SlotName
slot_name n = n.slot

pub name_at : (slots : List Numbered) (i : ℕ) (d : SlotName) → i < length slots → get_or (names slots) i d ≡ (get_or slots i no_slot).slot
name_at slots i d within = get_or-map slot_name slots i no_slot d within

title_at_place : (titles : List Title) (i : ℕ) (d : SlotName) → i < length titles →
    get_or (map name_of titles) i d ≡ name_of (get_or titles i no_title)
title_at_place titles i d within = get_or-map name_of titles i no_title d within

pub names_long : (slots : List Numbered) → length (names slots) ≡ length slots
names_long slots = length-map slots slot_name

pub names_differ : (titles : List Title) (slots : List Numbered) (i : ℕ) → i < length titles → i < length slots →
    (name_of (get_or titles i no_title) ≡ (get_or slots i no_slot).slot → ⊥)
    → map name_of titles ≡ names slots → ⊥
names_differ titles slots i within within' differ same =
    differ (sym (title_at_place titles i no_name within) ∙ ap (λ xs. get_or xs i no_name) same ∙ name_at slots i no_name within')

pub names_more : (titles : List Title) (slots : List Numbered) (i : ℕ) → i < length titles → i < length slots →
    take i (map name_of titles) ≡ take i (names slots)
    → name_of (get_or titles i no_title) ≡ (get_or slots i no_slot).slot → take (i + 1) (map name_of titles) ≡ take (i + 1) (names slots)
names_more titles slots i within within' front same =
    let a = length-map titles name_of in
    let b = names_long slots in
    take_more_same (map name_of titles) (names slots) i no_name (omega arith) (omega arith) front
    (title_at_place titles i no_name within ∙ same ∙ sym (name_at slots i no_name within'))

pub front_names : (slots : List Numbered) (i : ℕ) → i < length slots →
    take (i + 1) (names slots) ≡ take i (names slots) ++ (get_or slots i no_slot).slot ∷ []
front_names slots i within =
    let b = names_long slots in
    take_more (names slots) i no_name (omega arith) ∙ ap (λ n. take i (names slots) ++ n ∷ []) (name_at slots i no_name within)

pub before_more : (slots : List Numbered) (i : ℕ) (name : SlotName) → i < length slots → (Contains (take i (names slots)) name → ⊥) →
    ((get_or slots i no_slot).slot ≡ name → ⊥)
    → Contains (take (i + 1) (names slots)) name → ⊥
before_more slots i name within away differ among =
    elim (Contains-push_cases (take i (names slots)) (get_or slots i no_slot).slot name
    (subst (λ xs. Contains xs name) (front_names slots i within) among)) [
      | inl before ↦ away before
      | inr same ↦ differ same
    ]

pub different_more : (slots : List Numbered) (i : ℕ) → i < length slots → AllPairs ◌≢◌ (take i (names slots)) →
    (Contains (take i (names slots)) (get_or slots i no_slot).slot → ⊥)
    → AllPairs ◌≢◌ (take (i + 1) (names slots))
different_more slots i within differ away = subst (λ xs. AllPairs ◌≢◌ xs) (sym (front_names slots i within))
    (pairs_push ◌≢◌ (take i (names slots)) (get_or slots i no_slot).slot differ
    (λ x among same. away (subst (λ y. Contains (take i (names slots)) y) same among)))

pub not_different : (slots : List Numbered) (i : ℕ) → i < length slots → Contains (take i (names slots)) (get_or slots i no_slot).slot →
    AllPairs ◌≢◌ (names slots) → ⊥
not_different slots i within (k, below, is) differ =
    let x = (get_or slots i no_slot).slot in
    let b = names_long slots in
    let long = length-take-le i (names slots) (omega arith) in
    differ k i x (omega arith) (omega arith) (sym (get_or-take i (names slots) k x (omega arith)) ∙ is ∙ sym (name_at slots i x within))

pub all_different : (slots : List Numbered) (i : ℕ) → length slots ≤ i → AllPairs ◌≢◌ (take i (names slots)) → AllPairs ◌≢◌ (names slots)
all_different slots i past differ = let b = names_long slots in
    subst (λ xs. AllPairs ◌≢◌ xs) (take_all i (names slots) (omega arith)) differ

-- one title more
pub titled_more : (titles : List Title) (t : Title) (slots : List Numbered) (i : ℕ) → i < length slots →
    map name_of titles ≡ take i (names slots) → name_of t ≡ (get_or slots i no_slot).slot
    → map name_of (titles ++ t ∷ []) ≡ take (i + 1) (names slots)
titled_more titles t slots i within same name =
    map-append name_of titles (t ∷ []) ∙ ap (λ xs. xs ++ name_of t ∷ []) same ∙ ap (λ n. take i (names slots) ++ n ∷ []) name ∙
    sym (front_names slots i within)

pub all_more : (P : SlotName → Type 0) (slots : List Numbered) (i : ℕ) → i < length slots → All P (take i (names slots)) →
    P (get_or slots i no_slot).slot → All P (take (i + 1) (names slots))
all_more P slots i within front at =
    subst (λ xs. All P xs) (sym (front_names slots i within)) (All-push P (take i (names slots)) (get_or slots i no_slot).slot front at)

pub all_at : (P : SlotName → Type 0) (slots : List Numbered) (i : ℕ) → i < length slots → All P (names slots) →
    P (get_or slots i no_slot).slot
all_at P slots i within all = let b = names_long slots in subst P (name_at slots i no_name within) (all i no_name (omega arith))

pub front_whole : (slots : List Numbered) (i : ℕ) → length slots ≤ i → take i (names slots) ≡ names slots
front_whole slots i past = let b = names_long slots in take_all i (names slots) (omega arith)
