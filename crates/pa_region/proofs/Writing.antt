-- The table lets a seat store and poison: the conditions of its calls, and what a seat's type keeps.
use Rattle.std.proofs.Common.{◌≡◌, ℕ, ◌/◌, ◌<◌, length, set, refl, sym, ◌∙◌, ap, subst, arith, ◌⊎◌, inl, inr}
use Rattle.std.proofs.lemmas.List.{length-set}
use Rattle.atomic_table.specs.Table.{Me, Allows, keeps}
use Rattle.atomic_table.specs.Table.{State as TableState}
use Rattle.atomic_table.specs.Seated.{TableId}
use Rattle.pa_slot.specs.declared.title.Title.{Title}
use Rattle.pa_slot.specs.Titles.{content_place, IsWellFormed, IsContentOf, poison}
use Rattle.pa_slot.specs.Holdings.{RawByte, FreeTitle, OwnOf, RefOf}
use Rattle.pa_region.specs.declared.view.View.{View}
use Rattle.pa_region.specs.Views.{held_of_view}
use Rattle.pa_region.specs.Rule.{IsKept}
use Rattle.pa_region.specs.Shares.{IsSeatSound, byte_word_count}
use Rattle.pa_region.specs.Stores.{after_store, HasRawWord, HasFreeContent, HasIdleContent, CanStore, StoreTells, after_poison, CanPoison}
use Rattle.pa_region.proofs.Pieces.{title_held, held_title, owns_have, idle_owns}
use Rattle.pa_region.proofs.StoreStep.{store_keeps, store_holds, plain_owns, own_dirty}
use Rattle.pa_region.proofs.PoisonStep.{poison_keeps, poison_holds, own_to_own}

-- what a step that leaves its seat with this view reports
abbrev pub Leaves : View → Me (Unit {0}) View → Me (Unit {0}) View → Type 0
Leaves w me after = (after.0 ≡ w) × (after.1 ≡ me.1)

-- whatever the table is, a seat that may store may store
pub store_allowed : (at_byte value slots id place : ℕ) (me : Me (Unit {0}) View) → place ≡ at_byte / 8 → CanStore at_byte me.0 →
    Allows (λ (s : TableState (Unit {0}) View). IsKept s.words s.views) slots id me place (λ _. value)
    (λ _ after. Leaves (after_store at_byte value me.0) me after × StoreTells at_byte me.0 after.0)
store_allowed at_byte value slots id place me at_place can s k homes at_id small = (
  after_store at_byte value me.0,
  keeps,
  tt,
  subst (λ (p : ℕ). IsKept (set s.words p value) (set s.views id (after_store at_byte value me.0))) (sym at_place)
      (store_keeps at_byte value s.words s.views id me.0 k at_id can),
  (
    (refl, refl),
    record {
      plain = plain_owns at_byte s.words s.views id me.0 k at_id;
      own = λ t has inside. own_dirty at_byte t s.words s.views id me.0 k at_id has inside;
    },
  ),
)

-- a seat that can poison the next content word may do so
pub poison_allowed : (t : Title) (j slots id place : ℕ) (me : Me (Unit {0}) View) → place ≡ content_place t j → CanPoison t j me.0 →
    Allows (λ (s : TableState (Unit {0}) View). IsKept s.words s.views) slots id me place (λ _. poison)
    (λ _ after. Leaves (after_poison t j me.0) me after)
poison_allowed t j slots id place me at_place can s k homes at_id small = (
  after_poison t j me.0,
  keeps,
  tt,
  subst (λ (p : ℕ). IsKept (set s.words p poison) (set s.views id (after_poison t j me.0))) (sym at_place)
      (poison_keeps t j s.words s.views id me.0 k at_id can),
  (refl, refl),
)

-- a view that holds the same, with as many words, is sound
pub same_sound : (region : TableId) (v w : View) → IsSeatSound region v → length w.words ≡ length v.words →
    ((b : ℕ) → held_of_view w (RawByte b) ≡ held_of_view v (RawByte b)) →
    ((t : Title) → held_of_view w (FreeTitle t) ≡ held_of_view v (FreeTitle t)) →
    ((t : Title) → held_of_view w (OwnOf t) ≡ held_of_view v (OwnOf t)) →
    ((t : Title) → held_of_view w (RefOf t) ≡ held_of_view v (RefOf t)) → IsSeatSound region w
same_sound region v w sound long raw free own ref = record {
  small = sound.small;
  well = λ t has.
      let held = title_held w t has in
      let a = free t in let b = own t in let c = ref t in
      sound.well t (held_title v t (omega arith));
  raw = λ b has. let e = raw b in sound.raw b (omega arith);
  long = long ∙ sound.long;
}

-- what the type of a seat keeps holds after a store
pub store_sound : (region : TableId) (at_byte value : ℕ) (v : View) → IsSeatSound region v →
    IsSeatSound region (after_store at_byte value v)
store_sound region at_byte value v sound =
    same_sound region v (after_store at_byte value v) sound (length-set v.words (at_byte / 8) value)
    (λ b. store_holds at_byte value v (RawByte b) (λ o. refl)) (λ t. store_holds at_byte value v (FreeTitle t) (λ o. refl))
    (λ t. store_holds at_byte value v (OwnOf t) (λ o. refl)) (λ t. store_holds at_byte value v (RefOf t) (λ o. refl))

-- what the type of a seat keeps holds after a poisoning
pub poison_sound : (region : TableId) (t : Title) (j : ℕ) (v : View) → IsSeatSound region v → IsSeatSound region (after_poison t j v)
poison_sound region t j v sound =
    same_sound region v (after_poison t j v) sound (length-set v.words (content_place t j) poison)
    (λ b. poison_holds t j v (RawByte b) (λ o. refl)) (λ u. poison_holds t j v (FreeTitle u) (λ o. refl))
    (λ u. poison_holds t j v (OwnOf u) (λ o. refl)) (λ u. poison_holds t j v (RefOf u) (λ o. refl))

-- the word that is stored is one of the region's
pub store_inside : (region table : TableId) (at_byte place : ℕ) (v : View) → region ≡ table → IsSeatSound region v → CanStore at_byte v →
    place ≡ at_byte / 8 → place < table.words
store_inside region table at_byte place v same sound can e = go can.1
  where
    words_are : region.words ≡ table.words
    words_are = ap (λ (z : TableId). z.words) same

    of_title : (t : Title) → IsContentOf t at_byte → IsWellFormed (byte_word_count region) t → place < table.words
    of_title t inside well = let w = words_are in let a = well.inside in let h = inside.1 in omega arith

    go : HasRawWord v at_byte ⊎ (HasFreeContent v at_byte ⊎ HasIdleContent v at_byte) → place < table.words
    go (inl raw) = let w = words_are in let b = sound.raw at_byte (raw at_byte (omega arith) (omega arith)) in omega arith
    go (inr (inl free)) = let has = free.1 in of_title free.0 free.2 (sound.well free.0 (omega arith))
    go (inr (inr own)) =
        let h = idle_owns v own.0 own.1 in
        let o = owns_have v own.0 in
        of_title own.0 own.3 (sound.well own.0 (omega arith))

-- the word that is poisoned is in the region
pub poison_inside : (region table : TableId) (t : Title) (j place : ℕ) (v : View) → region ≡ table → IsSeatSound region v →
    CanPoison t j v → place ≡ content_place t j → place < table.words
poison_inside region table t j place v same sound can e =
    let w = ap (λ (z : TableId). z.words) same in
    let words_are : region.words ≡ table.words = w in
    let l = own_to_own v t j in
    let has = can.0 in
    let below = can.1 in
    let well = sound.well t (omega arith) in
    let a = well.inside in let b = well.start_aligned in let c = well.len_aligned in let d = well.long in
    omega arith
