-- What a root knows of direct maps goes on with each entry.
use Rattle.std.proofs.Common.{◌≡◌, ℕ, ◌<◌, ◌≤◌, [], ◌∷◌, ◌++◌, sym, ◌∙◌, ap, subst, arith, ◌⊎◌, inl, inr}
use Rattle.std.specs.Prelude.{Contains}
use Rattle.std.proofs.lemmas.List.Elements.{Contains-append_cases}
use Rattle.pa_slot.specs.declared.title.Title.{Title}
use Rattle.pa_slot.specs.declared.word.SlotName.{SlotName}
use Rattle.pa_layout.specs.Pages.{page_place, supers_for}
use Rattle.pa_region.specs.declared.view.View.{View}
use Rattle.pa_region.specs.Views.{undone_of}
use Rattle.pa_region.specs.Lists.{list_of, IsBeginning}
use Rattle.pa_record.specs.declared.root.RootEntry.{RootEntry}
use Rattle.pa_record.specs.declared.root.RootAct.TheVariants.{Map}
use Rattle.pa_record.specs.Root.{Root, map_title}
use Rattle.pa_lists.proofs.Members.{not_in_none, in_cases}
use Rattle.pa_pool.specs.Calls.{HasSeenTake}
use Rattle.pa_pool.proofs.Gave.{seen_stays}
use Rattle.pa_root.specs.Keeping.{RootState, KnowsMaps}

-- A seat that has seen more of the pool's list, while its own list has what it had.
pub record SeesMore (v x : View) : Type 0 where
  pub undone : (t : Title) → undone_of v t ≤ undone_of x t
  pub pool : IsBeginning (list_of 4 v) (list_of 4 x)

-- the take of a direct map is seen still
taken_stays : (p : ℕ) (v x : View) (t : Title) → SeesMore v x →
    ((first : ℕ) × (t.start ≡ page_place first 1) × HasSeenTake p t.born first (supers_for t.len) v) →
    (first : ℕ) × (t.start ≡ page_place first 1) × HasSeenTake p t.born first (supers_for t.len) x
taken_stays p v x t more (first, start, seen) = (first, start, seen_stays p t.born first (supers_for t.len) v x more.pool seen)

-- What is known of direct maps goes on with an entry if its seat sees more, each direct map stays mapped or was uncut, and what
-- the entry maps is mapped. What is mapped besides has its take.
pub maps_go_on : (p : ℕ) (s : RootState) (x : View) (e : RootEntry) (after : Root) → KnowsMaps p s → SeesMore s.view x →
    ((t : Title) → Contains s.root.maps t → Contains after.maps t ⊎ (0 < undone_of x t)) →
    ((asked len : ℕ) (slot : SlotName) → e.act ≡ Map asked slot len → Contains after.maps (map_title slot len)) →
    ((t : Title) → Contains after.maps t →
    Contains s.root.maps t ⊎ ((first : ℕ) × (t.start ≡ page_place first 1) × HasSeenTake p t.born first (supers_for t.len) x)) →
    KnowsMaps p (record { view = x; journal = s.journal ++ e ∷ []; root = after })
maps_go_on p s x e after knows more stays makes only = record {
  mapped = λ t (f, asked, len, slot, among, is, same). elim (Contains-append_cases s.journal (e ∷ []) f among) [
    | inl old ↦ elim (knows.mapped t (f, asked, len, slot, old, is, same)) [
      | inl there ↦ stays t there
      | inr gone ↦ inr (let g = more.undone t in omega arith)
    ]
    | inr new ↦ elim (in_cases e f [] new) [
      | inl here ↦ inl (subst (λ z. Contains after.maps z) (sym same) (makes asked len slot (ap (λ (k : RootEntry). k.act) here ∙ is)))
      | inr none ↦ absurd (not_in_none f none)
    ]
  ];
  taken = λ t among. elim (only t among) [ inl old ↦ taken_stays p s.view x t more (knows.taken t old) | inr new ↦ new ];
}

-- what is known of direct maps goes on with an entry that maps nothing and leaves the direct maps
pub maps_leave : (p : ℕ) (s : RootState) (x : View) (e : RootEntry) (after : Root) → KnowsMaps p s → SeesMore s.view x →
    after.maps ≡ s.root.maps →
    ((asked len : ℕ) (slot : SlotName) → e.act ≡ Map asked slot len → ⊥) →
    KnowsMaps p (record { view = x; journal = s.journal ++ e ∷ []; root = after })
maps_leave p s x e after knows more same none =
    maps_go_on p s x e after knows more (λ t among. inl (subst (λ ts. Contains ts t) (sym same) among))
    (λ asked len slot is. absurd (none asked len slot is)) (λ t among. inl (subst (λ ts. Contains ts t) same among))

-- what is known of direct maps stays if the root's seat sees more
pub maps_stay : (p : ℕ) (s : RootState) (x : View) → KnowsMaps p s → SeesMore s.view x →
    KnowsMaps p (record { view = x; journal = s.journal; root = s.root })
maps_stay p s x knows more = record {
  mapped = λ t made. elim (knows.mapped t made) [ inl there ↦ inl there | inr gone ↦ inr (let g = more.undone t in omega arith) ];
  taken = λ t among. taken_stays p s.view x t more (knows.taken t among);
}
