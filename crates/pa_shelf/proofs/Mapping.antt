-- Direct maps that join and go.
use Rattle.std.proofs.Common.{◌≡◌, ℕ, zero, suc, ◌+◌, ◌<◌, Bool, List, [], ◌∷◌, ◌++◌, eqb, ◌&&◌, inl, inr, Some, None, refl, sym, ◌∙◌, ap, subst, arith}
use Rattle.std.specs.Prelude.{position, remove}
use Rattle.std.specs.List.{position_from}
use Rattle.std.proofs.lemmas.Bool.{cases_Bool}
use Rattle.std.proofs.lemmas.Iterator.Adapters.{position_from-zero}
use Rattle.pa_lists.proofs.Members.{of_some, not_some}
use Rattle.pa_slot.specs.declared.title.Title.{Title}
use Rattle.pa_slot.specs.declared.word.SlotName.{SlotName}
use Rattle.pa_record.specs.Root.{Root, mapped, unmapped, without_map}
use Rattle.pa_region.specs.declared.view.View.{View}
use Rattle.pa_shelf.specs.Shelves.{ShelfParts, ShowsRoot}

-- other direct maps
with_maps : (v : View) (l : ShelfParts) (r : Root) (ls rs : List Title) → rs ≡ ls → ShowsRoot v l r →
    ShowsRoot v (record l { maps = ls }) (record r { maps = rs })
with_maps v l r ls rs same shown = let k = shown.kept in record {
  kept = record {
    supers = k.supers;
    maps = same;
    page = k.page;
    turn = k.turn;
    apart = k.apart;
    small = k.small;
    pages = k.pages;
    unused = k.unused;
    stand = k.stand;
    few = k.few;
    stored = k.stored;
  };
  chains = shown.chains;
}

pub mapped_shown : (v : View) (l : ShelfParts) (r : Root) (t : Title) → ShowsRoot v l r →
    ShowsRoot v (record l { maps = l.maps ++ t ∷ [] }) (mapped t r)
mapped_shown v l r t shown = with_maps v l r (l.maps ++ t ∷ []) (r.maps ++ t ∷ []) (ap (λ ts. ts ++ t ∷ []) shown.kept.maps) shown

pub unmapped_shown : (v : View) (l : ShelfParts) (r : Root) (name : SlotName) → ShowsRoot v l r →
    ShowsRoot v (record l { maps = without_map name l.maps }) (unmapped name r)
unmapped_shown v l r name shown =
    with_maps v l r (without_map name l.maps) (without_map name r.maps) (ap (without_map name) shown.kept.maps) shown

-- the direct map of a name
abbrev pub is_named : SlotName → Title → Bool
is_named name t = eqb t.start name.start && eqb t.born name.born

later_places : (name : SlotName) (n k : ℕ) (ts : List Title) → k < n → position_from (is_named name) n ts ≡ Some k → ⊥
later_places name n k [] less e = not_some k e
later_places name n k (t ∷ ts) less e = elim (cases_Bool (is_named name t)) [
  | inl hit ↦ let same = of_some n k (rw hit at e) in omega arith
  | inr miss ↦ later_places name (n + 1) k ts (omega arith) (rw miss at e)
]

removed_from : (name : SlotName) (n k : ℕ) (ts : List Title) → position_from (is_named name) n ts ≡ Some (n + k) →
    remove ts k ≡ without_map name ts
removed_from name n k [] e = absurd (not_some (n + k) e)
removed_from name n zero (t ∷ ts) e = elim (cases_Bool (is_named name t)) [
  | inl hit ↦ rw hit refl
  | inr miss ↦ absurd (later_places name (n + 1) (n + 0) ts (omega arith) (rw miss at e))
]
removed_from name n (suc k) (t ∷ ts) e = elim (cases_Bool (is_named name t)) [
  | inl hit ↦ let same = of_some n (n + suc k) (rw hit at e) in absurd (omega arith)
  | inr miss ↦
      let f : n + suc k ≡ n + 1 + k = omega arith in
      rw miss (ap (λ us. t ∷ us) (removed_from name (n + 1) k ts
      (subst (λ i. position_from (is_named name) (n + 1) ts ≡ Some i) f (rw miss at e))))
]

pub removed_named : (name : SlotName) (k : ℕ) (ts : List Title) → position (is_named name) ts ≡ Some k → remove ts k ≡ without_map name ts
removed_named name k ts e =
    let f : k ≡ 0 + k = omega arith in
    let g : position_from (is_named name) 0 ts ≡ Some k = sym (position_from-zero (is_named name) ts) ∙ e in
    removed_from name 0 k ts (subst (λ i. position_from (is_named name) 0 ts ≡ Some i) f g)

none_from : (name : SlotName) (n : ℕ) (ts : List Title) → position_from (is_named name) n ts ≡ None → ts ≡ without_map name ts
none_from name n [] e = refl
none_from name n (t ∷ ts) e = elim (cases_Bool (is_named name t)) [
  | inl hit ↦ absurd (not_some n (sym (rw hit at e)))
  | inr miss ↦ rw miss (ap (λ us. t ∷ us) (none_from name (n + 1) ts (rw miss at e)))
]

pub none_named : (name : SlotName) (ts : List Title) → position (is_named name) ts ≡ None → ts ≡ without_map name ts
none_named name ts e = none_from name 0 ts (sym (position_from-zero (is_named name) ts) ∙ e)
