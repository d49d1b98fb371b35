-- A slot that was made before goes back to the same list in two runs.
use Rattle.std.proofs.Common.{◌≡◌, ℕ, ◌⊎◌, List, ◌++◌, ◌∙◌, subst, inl, inr}
use Rattle.pa_slot.specs.declared.word.SlotName.{SlotName}
use Rattle.pa_rules.specs.declared.played.Played.{Played}
use Rattle.pa_rules.specs.Caches.{IsOfClass, IsDirect}
use Rattle.pa_rules.proofs.Asking.{class_once, map_once, class_or_map}
use Rattle.pa_one_run.specs.Parts.{Parts}
use Rattle.pa_one_run.proofs.Filed.{IsFiled, IsMadeIn}
use Rattle.pa_one_run.proofs.roots.Classes.{made_class, one_class, one_direct, class_or_direct}
use Rattle.pa_lists.proofs.Elements.{in_front}

-- the slot has one place in both runs
abbrev IsPlacedIn : Parts → Parts → SlotName → Type 0
IsPlacedIn a b s = ((p c : ℕ) × IsOfClass a.roots s p c × IsOfClass b.roots s p c) ⊎ ((p : ℕ) × IsDirect a.roots s p × IsDirect b.roots s p)

-- two runs with the same records up to some
pub record AreAfter (a b : Parts) (before : List Played) : Type 0 where
  pub filed : IsFiled a
  pub filed' : IsFiled b
  pub rest : List Played
  pub rest' : List Played
  pub parts : a.ps ≡ before ++ rest
  pub parts' : b.ps ≡ before ++ rest'

-- the record that made it is one of both runs
made_place : (a b : Parts) (before : List Played) (s : SlotName) → AreAfter a b before → IsMadeIn before s → IsPlacedIn a b s
made_place a b before s h (q, seen, usable, among, is, same) =
    subst (λ z. IsPlacedIn a b z) same
    (elim (made_class a q seen usable h.filed (in_front before h.rest a.ps q h.parts among) is) [
      | inl (p, c, asks, of) ↦ elim (made_class b q seen usable h.filed' (in_front before h.rest' b.ps q h.parts' among) is) [
        | inl (p', c', asks', of') ↦
            let (e, f) = class_once q p' p c' c asks' asks in
            inl (p, c, of, subst (λ z. IsOfClass b.roots seen.slot z c) e (subst (λ z. IsOfClass b.roots seen.slot p' z) f of'))
        | inr (p', size, asks', direct) ↦ absurd (class_or_map q p p' c size asks asks')
      ]
      | inr (p, size, asks, direct) ↦ elim (made_class b q seen usable h.filed' (in_front before h.rest' b.ps q h.parts' among) is) [
        | inl (p', c', asks', of') ↦ absurd (class_or_map q p' p c' size asks' asks)
        | inr (p', size', asks', direct') ↦
            inr (p, direct, subst (λ z. IsDirect b.roots seen.slot z) (map_once q p' p size' size asks' asks).0 direct')
      ]
    ])

-- the partition and the class of a slot that was made before are the same in both runs
pub class_alike : (a b : Parts) (before : List Played) (s : SlotName) (p q c d : ℕ) → AreAfter a b before → IsMadeIn before s →
    IsOfClass a.roots s p c → IsOfClass b.roots s q d → (p ≡ q) × (c ≡ d)
class_alike a b before s p q c d h made of of' = elim (made_place a b before s h made) [
  | inl (r, e, one, two) ↦
      let (f, g) = one_class a s p r c e h.filed of one in
      let (i, j) = one_class b s r q e d h.filed' two of' in
      (f ∙ i, g ∙ j)
  | inr (r, one, two) ↦ absurd (class_or_direct a s p r c h.filed of one)
]

pub direct_alike : (a b : Parts) (before : List Played) (s : SlotName) (p q : ℕ) → AreAfter a b before → IsMadeIn before s →
    IsDirect a.roots s p → IsDirect b.roots s q → p ≡ q
direct_alike a b before s p q h made of of' = elim (made_place a b before s h made) [
  | inl (r, e, one, two) ↦ absurd (class_or_direct a s r p e h.filed one of)
  | inr (r, one, two) ↦ one_direct a s p r h.filed of one ∙ one_direct b s r q h.filed' two of'
]

-- what is of a class in the one is no direct map in the other
pub class_not_direct : (a b : Parts) (before : List Played) (s : SlotName) (p q c : ℕ) → AreAfter a b before → IsMadeIn before s →
    IsOfClass a.roots s p c → IsDirect b.roots s q → ⊥
class_not_direct a b before s p q c h made of of' = elim (made_place a b before s h made) [
  | inl (r, e, one, two) ↦ class_or_direct b s r q e h.filed' two of'
  | inr (r, one, two) ↦ class_or_direct a s p r c h.filed of one
]

pub direct_not_class : (a b : Parts) (before : List Played) (s : SlotName) (p q c : ℕ) → AreAfter a b before → IsMadeIn before s →
    IsDirect a.roots s p → IsOfClass b.roots s q c → ⊥
direct_not_class a b before s p q c h made of of' = elim (made_place a b before s h made) [
  | inl (r, e, one, two) ↦ class_or_direct a s r p e h.filed one of
  | inr (r, one, two) ↦ class_or_direct b s q r c h.filed' of' two
]
