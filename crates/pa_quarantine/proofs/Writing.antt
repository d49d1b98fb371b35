-- An owner's write, one content word after the other.
use Rattle.std.proofs.Common.{◌≡◌, ℕ, zero, suc, ◌+◌, ◌*◌, ◌/◌, ◌%◌, ◌<◌, true, ◌&&◌, ◌||◌, List, [], ◌∷◌, length, set, refl, sym, ◌∙◌, ap, subst, arith, inl, inr}
use Rattle.std.specs.List.{sum_by}
use Rattle.std.proofs.lemmas.Bool.{cases_Bool}
use Rattle.pa_slot.specs.declared.title.Title.{Title}
use Rattle.pa_slot.specs.declared.title.OwnState.TheVariants.{Clean, Dirty}
use Rattle.pa_slot.specs.declared.word.Step.TheVariants.{Write}
use Rattle.pa_slot.specs.Titles.{same_title, same_state, IsWellFormed, IsContentOf, content_count, content_place}
use Rattle.pa_slot.specs.Holdings.{one}
use Rattle.pa_region.specs.declared.view.OwnTitle.{OwnTitle}
use Rattle.pa_region.specs.declared.view.View.{View}
use Rattle.pa_region.specs.Views.{own_of, own_as, idle_of, HasStake}
use Rattle.pa_region.specs.Moves.{changed, is_own_of, filled_with, CanCount}
use Rattle.pa_region.specs.Stores.{dirty, after_store, CanStore}
use Rattle.pa_region.specs.Leaves.{StatesAreOwns, OwnsChange, FilledWords}
use Rattle.pa_quarantine.specs.Filling.{writes_to, filled}
use Rattle.pa_quarantine.proofs.Filling.{offset_place, open_own}

-- an Own, clean or dirty, that is known to have no Ref left
abbrev pub IsOpen : Title → View → Type 0
IsOpen t v = (0 < idle_of v t) × (0 < own_as v t Clean + own_as v t Dirty)

-- an open Own stays open when it gets dirty
open_dirty : StatesAreOwns → OwnsChange → (t : Title) (v : View) → IsOpen t v →
    (0 < sum_by (λ (o : OwnTitle). one (same_title o.title t && (o.idle || o.sealed))) (changed (is_own_of t) dirty v.owns)) ×
    (0 < sum_by (λ (o : OwnTitle). one (same_title o.title t && same_state o.state Clean)) (changed (is_own_of t) dirty v.owns)
    + sum_by (λ (o : OwnTitle). one (same_title o.title t && same_state o.state Dirty)) (changed (is_own_of t) dirty v.owns))
open_dirty states law t v has =
    let idle = law.1 t dirty (λ (o : OwnTitle). one (same_title o.title t && (o.idle || o.sealed))) v.owns (λ o. refl) in
    let some_idle = has.0 in
    let first = law.0 t dirty v.owns (open_own states v t has.1) in
    let a = first.1.replaced (λ (o : OwnTitle). one (same_title o.title t && same_state o.state Dirty)) in
    let b = first.1.within (λ (o : OwnTitle). one (same_title o.title t && same_state o.state Dirty)) in
    let here : one (same_title first.0.title t && same_state Dirty Dirty) ≡ 1 = rw first.1.is_own refl in
    (omega arith, omega arith)

-- the Own of a view that has written some words is still open
open_still : StatesAreOwns → OwnsChange → (t : Title) (value j : ℕ) (v : View) → IsOpen t v → IsOpen t (writes_to t value j v)
open_still states law t value zero v has = has
open_still states law t value (suc j) v has = open_dirty states law t v has

stake_still : (t : Title) (value j : ℕ) (v : View) → HasStake v → HasStake (writes_to t value j v)
stake_still t value zero v has = has
stake_still t value (suc j) v has = has

-- where the word is
content_inside : (n : ℕ) (t : Title) (j at_byte : ℕ) → IsWellFormed n t → at_byte ≡ t.start + 8 * j → j < content_count t →
    (at_byte % 8 ≡ 0) × IsContentOf t at_byte
content_inside n t j at_byte well e below =
    let a = well.start_aligned in let b = well.len_aligned in let c = well.long in
    (omega arith, (omega arith, omega arith))

-- a store may be made
pub write_can : StatesAreOwns → OwnsChange → (n : ℕ) (t : Title) (value j at_byte : ℕ) (v u : View) → IsWellFormed n t →
    at_byte ≡ t.start + 8 * j → j < content_count t → IsOpen t v → HasStake v →
    u ≡ writes_to t value j v → CanStore at_byte u
write_can states law n t value j at_byte v u well e below has stake same =
    let inside = content_inside n t j at_byte well e below in
    let still = open_still states law t value j v has in
    subst (λ (x : View). CanStore at_byte x) (sym same) (inside.0, inr (inr (t, still.0, still.1, inside.1, stake_still t value j v stake)))

-- to a content word of the Own
pub write_own : StatesAreOwns → OwnsChange → (n : ℕ) (t : Title) (value j at_byte : ℕ) (v u : View) → IsWellFormed n t →
    at_byte ≡ t.start + 8 * j → j < content_count t → IsOpen t v →
    u ≡ writes_to t value j v → (0 < own_of u t) × IsContentOf t at_byte
write_own states law n t value j at_byte v u well e below has same =
    let still = open_still states law t value j v has in (
      subst (λ (x : View). 0 < own_of x t) (sym same) (open_own states (writes_to t value j v) t still.1),
      (content_inside n t j at_byte well e below).1,
    )

-- dirty twice is dirty
dirty_twice : (t : Title) (os : List OwnTitle) →
    changed (is_own_of t) dirty (changed (is_own_of t) dirty os) ≡ changed (is_own_of t) dirty os
dirty_twice t [] = refl
dirty_twice t (o ∷ os) = elim (cases_Bool (is_own_of t o)) [
  | inl y ↦ rw (y, y) refl
  | inr k ↦ rw (k, k) (ap (λ ps. o ∷ ps) (dirty_twice t os))
]

-- one word more
write_step : (t : Title) (value k : ℕ) (v : View) →
    record (writes_to t value k v) {
      words = set (writes_to t value k v).words (content_place t k) value;
      owns = changed (is_own_of t) dirty (writes_to t value k v).owns;
      since = record (writes_to t value k v).since { stored = true };
    } ≡ writes_to t value (suc k) v
unfolding filled_with
write_step t value zero v = refl
write_step t value (suc k) v = ap (λ (os : List OwnTitle). record (writes_to t value (suc (suc k)) v) { owns = os }) (dirty_twice t v.owns)

-- the view after the next store of the value is the one with one word more written
pub write_next : (n : ℕ) (t : Title) (value j at_byte : ℕ) (v u w : View) → IsWellFormed n t → at_byte ≡ t.start + 8 * j →
    u ≡ writes_to t value j v →
    w ≡ after_store at_byte value u → w.owns ≡ changed (is_own_of t) dirty u.owns → w ≡ writes_to t value (j + 1) v
write_next n t value j at_byte v u w well e same stored owns =
    let place = offset_place n t j at_byte well e in
    let dirty_owns : (after_store at_byte value u).owns ≡ changed (is_own_of t) dirty u.owns = sym (ap (λ (x : View). x.owns) stored) ∙
    owns in
    let now : w ≡ record u {
      words = set u.words (at_byte / 8) value;
      owns = changed (is_own_of t) dirty u.owns;
      since = record u.since { stored = true };
    } =
    stored ∙ ap (λ (os : List OwnTitle). record u {
      words = set u.words (at_byte / 8) value;
      owns = os;
      since = record u.since { stored = true };
    }) dirty_owns in
    let at_place : w ≡ record u {
      words = set u.words (content_place t j) value;
      owns = changed (is_own_of t) dirty u.owns;
      since = record u.since { stored = true };
    } =
    now ∙ ap (λ (p : ℕ). record u {
      words = set u.words p value;
      owns = changed (is_own_of t) dirty u.owns;
      since = record u.since { stored = true };
    }) place in
    let one_more : suc j ≡ j + 1 = omega arith in
    at_place ∙ (ap (λ (x : View). record x {
      words = set x.words (content_place t j) value;
      owns = changed (is_own_of t) dirty x.owns;
      since = record x.since { stored = true };
    }) same
    ∙ (write_step t value j v ∙ ap (λ (k : ℕ). writes_to t value k v) one_more))

-- after all of them
pub write_end : (t : Title) (value j : ℕ) (v u : View) → 0 < content_count t → j ≡ content_count t → u ≡ writes_to t value j v →
    u ≡ filled t value v
write_end t value j v u some_content all e = e ∙ (ap (λ (k : ℕ). writes_to t value k v) all ∙ go (content_count t) some_content)
  where
    go : (k : ℕ) → 0 < k → writes_to t value k v ≡ record v {
      words = filled_with value t k v.words;
      owns = changed (is_own_of t) dirty v.owns;
      since = record v.since { stored = true };
    }
    go zero h = absurd (omega arith)
    go (suc k) h = refl

-- the owner may record its write
pub write_told : StatesAreOwns → OwnsChange → FilledWords → (n : ℕ) (t : Title) (value : ℕ) (v u : View) → IsWellFormed n t →
    length v.words ≡ n → IsOpen t v → HasStake v → 0 < v.budget →
    u ≡ filled t value v → CanCount Write t u
write_told states law fills n t value v u well long has stake budget e =
    let a = well.start_aligned in let b = well.len_aligned in let c = well.long in let d = well.inside in
    subst (λ (x : View). CanCount Write t x) (sym e) (
      open_dirty states law t v has,
      stake,
      budget,
      (value, λ i low below. (fills value t (content_count t) v.words).0 i below (omega arith)),
    )
