-- Stores and poisonings, one content word after the other.
use Rattle.std.proofs.Common.{◌≡◌, ℕ, zero, suc, ◌+◌, ◌*◌, ◌/◌, ◌%◌, ◌<◌, ◌≤◌, Bool, true, false, ◌&&◌, List, [], ◌∷◌, Some, length, set, refl, sym, ◌∙◌, ap, subst, arith, ◌⊎◌, inl, inr}
use Rattle.std.specs.Prelude.{◌==◌, slice_index}
use Rattle.std.specs.List.{sum_by}
use Rattle.std.proofs.lemmas.List.Sums.{sum_by-cons}
use Rattle.std.proofs.lemmas.Bool.{cases_Bool, eq-eqb}
use Rattle.pa_slot.specs.declared.title.Title.{Title}
use Rattle.pa_slot.specs.declared.title.OwnState.{OwnState}
use Rattle.pa_slot.specs.declared.title.OwnState.TheVariants.{Clean, Dirty, Poisoned}
use Rattle.pa_slot.specs.Titles.{same_title, same_state, Covers, IsWellFormed, content_count, content_place, HasContentFrom, poison, progress}
use Rattle.pa_slot.specs.Holdings.{one}
use Rattle.pa_slot.proofs.Same.{state_self}
use Rattle.pa_region.specs.declared.view.OwnTitle.{OwnTitle}
use Rattle.pa_region.specs.declared.view.View.{View}
use Rattle.pa_region.specs.Views.{free_of, own_of, own_as, HasStake}
use Rattle.pa_region.specs.Moves.{changed, is_own_of, filled_with, after_look}
use Rattle.pa_region.specs.Waiting.{poisoned_owns}
use Rattle.pa_region.specs.Stores.{after_store, HasRawWord, HasFreeContent, CanStore, poisoned_to, after_poison, own_to, CanPoison}
use Rattle.pa_region.specs.declared.view.Entry.TheVariants.{Looked}
use Rattle.pa_region.specs.Pairs.{last_entry, least_log}
use Rattle.pa_region.specs.Shares.{IsUser}
use Rattle.pa_region.specs.Loads.{content_offset}
use Rattle.pa_region.specs.Leaves.{StatesAreOwns, OwnsChange, FilledWords, LookLeaves}
use Rattle.pa_quarantine.specs.Filling.{zeros_to, poisons_to, zeroed, poisoned}

-- the view after a store that left its Owns
plain_after : (at_byte value : ℕ) (v w : View) → w ≡ after_store at_byte value v → w.owns ≡ v.owns →
    w ≡ record v { words = set v.words (at_byte / 8) value; since = record v.since { stored = true } }
plain_after at_byte value v w e owns =
    let same : (after_store at_byte value v).owns ≡ v.owns = sym (ap (λ (x : View). x.owns) e) ∙ owns in
    e ∙ ap (λ (os : List OwnTitle). record v {
      words = set v.words (at_byte / 8) value;
      owns = os;
      since = record v.since { stored = true };
    }) same

-- a content word's offset, and its number among the region's words
pub offset_place : (n : ℕ) (t : Title) (j at_byte : ℕ) → IsWellFormed n t → at_byte ≡ t.start + 8 * j → at_byte / 8 ≡ content_place t j
offset_place n t j at_byte well e = let a = well.start_aligned in omega arith

-- a content word of a free title may be stored to, while words before it are set to 0
pub zero_plain : (n : ℕ) (t : Title) (j at_byte : ℕ) (v u : View) → IsWellFormed n t → at_byte ≡ t.start + 8 * j → j < content_count t →
    0 < free_of v t →
    u ≡ zeros_to t j v → HasRawWord u at_byte ⊎ HasFreeContent u at_byte
zero_plain n t j at_byte v u well e below has same =
    let a = well.start_aligned in let b = well.len_aligned in let c = well.long in
    inr (t, subst (λ (x : View). 0 < free_of x t) (sym same) (still j), (omega arith, omega arith))
  where
    still : (k : ℕ) → 0 < free_of (zeros_to t k v) t
    still zero = has
    still (suc k) = has

-- the next store of 0 may be made
pub zero_can : (n : ℕ) (t : Title) (j at_byte : ℕ) (v u : View) → IsWellFormed n t → at_byte ≡ t.start + 8 * j → j < content_count t →
    0 < free_of v t →
    u ≡ zeros_to t j v → CanStore at_byte u
zero_can n t j at_byte v u well e below has same =
    let a = well.start_aligned in
    (omega arith, elim (zero_plain n t j at_byte v u well e below has same) [ inl raw ↦ inl raw | inr free ↦ inr (inl free) ])

-- one word more
zero_step : (t : Title) (k : ℕ) (v : View) →
    record (zeros_to t k v) {
      words = set (zeros_to t k v).words (content_place t k) 0;
      since = record (zeros_to t k v).since { stored = true };
    } ≡ zeros_to t (suc k) v
unfolding filled_with
zero_step t zero v = refl
zero_step t (suc k) v = refl

-- the view after the next store of 0 is the one with one word more set
pub zero_next : (n : ℕ) (t : Title) (j at_byte : ℕ) (v u w : View) → IsWellFormed n t → at_byte ≡ t.start + 8 * j → u ≡ zeros_to t j v →
    w ≡ after_store at_byte 0 u → w.owns ≡ u.owns → w ≡ zeros_to t (j + 1) v
zero_next n t j at_byte v u w well e same stored owns =
    let place = offset_place n t j at_byte well e in
    let now = plain_after at_byte 0 u w stored owns in
    let at_place : w ≡ record u { words = set u.words (content_place t j) 0; since = record u.since { stored = true } } =
    now ∙ ap (λ (p : ℕ). record u { words = set u.words p 0; since = record u.since { stored = true } }) place in
    let one_more : suc j ≡ j + 1 = omega arith in
    at_place ∙ (ap (λ (x : View). record x { words = set x.words (content_place t j) 0; since = record x.since { stored = true } }) same
    ∙ (zero_step t j v ∙ ap (λ (k : ℕ). zeros_to t k v) one_more))

-- after all of them
pub zero_end : (t : Title) (j : ℕ) (v u : View) → 0 < content_count t → j ≡ content_count t → u ≡ zeros_to t j v → u ≡ zeroed t v
zero_end t j v u some_content all e = e ∙ (ap (λ (k : ℕ). zeros_to t k v) all ∙ go (content_count t) some_content)
  where
    go : (k : ℕ) → 0 < k → zeros_to t k v ≡ record v { words = filled_with 0 t k v.words; since = record v.since { stored = true } }
    go zero h = absurd (omega arith)
    go (suc k) h = refl

-- the content is 0 then
pub zero_content : FilledWords → (n : ℕ) (t : Title) (v u : View) → IsWellFormed n t → length v.words ≡ n → u ≡ zeroed t v →
    HasContentFrom u.words t 0 0
zero_content law n t v u well long e i low below =
    let a = well.start_aligned in let b = well.len_aligned in let c = well.long in let d = well.inside in
    ap (λ (x : View). slice_index x.words (content_place t i)) e ∙ (law 0 t (content_count t) v.words).0 i below (omega arith)

-- an Own that is clean or dirty has no word poisoned
open_to : (v : View) (t : Title) → own_as v t Clean + own_as v t Dirty ≤ own_to v t 0
open_to v t = go v.owns
  where
    each : (b : Bool) (a : OwnState) → one (b && same_state a Clean) + one (b && same_state a Dirty) ≤ one (b && (progress a == 0))
    each true Clean = omega arith
    each true Dirty = omega arith
    each true (Poisoned j) = omega arith
    each false a = omega arith

    go : (os : List OwnTitle) → sum_by (λ (o : OwnTitle). one (same_title o.title t && same_state o.state Clean)) os + sum_by
        (λ (o : OwnTitle). one (same_title o.title t && same_state o.state Dirty)) os
        ≤ sum_by (λ (o : OwnTitle). one (same_title o.title t && (progress o.state == 0))) os
    go [] = omega arith
    go (o ∷ os) =
        let again = go os in
        let here = each (same_title o.title t) o.state in
        omega (
          arith,
          sum_by-cons (λ (x : OwnTitle). one (same_title x.title t && same_state x.state Clean)) o os,
          sum_by-cons (λ (x : OwnTitle). one (same_title x.title t && same_state x.state Dirty)) o os,
          sum_by-cons (λ (x : OwnTitle). one (same_title x.title t && (progress x.state == 0))) o os,
        )

-- an open Own is an Own
pub open_own : StatesAreOwns → (v : View) (t : Title) → 0 < own_as v t Clean + own_as v t Dirty → 0 < own_of v t
open_own law v t h = let a = law v t Clean in let b = law v t Dirty in omega arith

-- an Own that was poisoned so far, in the view after it
poisoned_there : OwnsChange → (v : View) (t : Title) (n : ℕ) → 0 < own_of v t →
    (0 < sum_by (λ (o : OwnTitle). one (same_title o.title t && (progress o.state == n))) (changed (is_own_of t) (poisoned_to n) v.owns)) ×
    (0 < sum_by (λ (o : OwnTitle). one (same_title o.title t && same_state o.state (Poisoned n)))
    (changed (is_own_of t) (poisoned_to n) v.owns))
poisoned_there law v t n has =
    let first = law.0 t (poisoned_to n) v.owns has in
    let a = first.1.replaced (λ (o : OwnTitle). one (same_title o.title t && (progress o.state == n))) in
    let b = first.1.replaced (λ (o : OwnTitle). one (same_title o.title t && same_state o.state (Poisoned n))) in
    let a1 = first.1.within (λ (o : OwnTitle). one (same_title o.title t && (progress o.state == n))) in
    let b1 = first.1.within (λ (o : OwnTitle). one (same_title o.title t && same_state o.state (Poisoned n))) in
    let x : one (same_title first.0.title t && (n == n)) ≡ 1 = rw (first.1.is_own, eq-eqb n n refl) refl in
    let y : one (same_title first.0.title t && same_state (Poisoned n) (Poisoned n)) ≡ 1 =
    rw (first.1.is_own, state_self (Poisoned n)) refl in
    (omega arith, omega arith)

-- the next word may be poisoned
pub poison_can : StatesAreOwns → OwnsChange → (t : Title) (j : ℕ) (v u : View) → j < content_count t →
    0 < own_as v t Clean + own_as v t Dirty → HasStake v →
    poisoned_owns v ≡ 0 → u ≡ poisons_to t j v → CanPoison t j u
poison_can states law t j v u below has stake none same = subst (λ (x : View). CanPoison t j x) (sym same) (go j below)
  where
    go : (k : ℕ) → k < content_count t → CanPoison t k (poisons_to t k v)
    go zero less = (let o = open_to v t in omega arith, less, stake, none)
    go (suc k) less = ((poisoned_there law v t (suc k) (open_own states v t has)).0, less, stake, refl)

-- a change of the first Own that was changed
changed_twice : (t : Title) (n m : ℕ) (os : List OwnTitle) →
    changed (is_own_of t) (poisoned_to m) (changed (is_own_of t) (poisoned_to n) os) ≡ changed (is_own_of t) (poisoned_to m) os
changed_twice t n m [] = refl
changed_twice t n m (o ∷ os) = elim (cases_Bool (is_own_of t o)) [
  | inl y ↦ rw (y, y) refl
  | inr k ↦ rw (k, k) (ap (λ ps. o ∷ ps) (changed_twice t n m os))
]

-- one word more
poison_step : (t : Title) (k : ℕ) (v : View) → after_poison t k (poisons_to t k v) ≡ poisons_to t (suc k) v
unfolding filled_with
poison_step t zero v = refl
poison_step t (suc k) v =
    let e : suc k + 1 ≡ suc (suc k) = omega arith in
    ap (λ (os : List OwnTitle). record (poisons_to t (suc (suc k)) v) { owns = os })
    (ap (λ (m : ℕ). changed (is_own_of t) (poisoned_to m) (changed (is_own_of t) (poisoned_to (suc k)) v.owns)) e
    ∙ changed_twice t (suc k) (suc (suc k)) v.owns)

-- the view after the next poisoning is the one with one word more poisoned
pub poison_more : (t : Title) (j : ℕ) (v u w : View) → u ≡ poisons_to t j v → w ≡ after_poison t j u → w ≡ poisons_to t (j + 1) v
poison_more t j v u w same now =
    let one_more : suc j ≡ j + 1 = omega arith in
    now ∙ (ap (λ (x : View). after_poison t j x) same ∙ (poison_step t j v ∙ ap (λ (k : ℕ). poisons_to t k v) one_more))

-- after all of them
pub poison_end : (t : Title) (j : ℕ) (v u : View) → 0 < content_count t → j ≡ content_count t → u ≡ poisons_to t j v → u ≡ poisoned t v
poison_end t j v u some_content all e = e ∙ (ap (λ (k : ℕ). poisons_to t k v) all ∙ go (content_count t) some_content)
  where
    go : (k : ℕ) → 0 < k → poisons_to t k v ≡ record v {
      words = filled_with poison t k v.words;
      owns = changed (is_own_of t) (poisoned_to k) v.owns;
      since = record v.since { poisoned = true };
    }
    go zero h = absurd (omega arith)
    go (suc k) h = refl

-- the Own can be freed then
pub poison_ready : StatesAreOwns → OwnsChange → (t : Title) (v : View) → 0 < own_as v t Clean + own_as v t Dirty →
    0 < own_as (poisoned t v) t (Poisoned (content_count t))
poison_ready states law t v has = (poisoned_there law v t (content_count t) (open_own states v t has)).1

-- After a look the view has the same handles and words, and a stake: so it may read.
pub look_user : LookLeaves → (t : Title) (word : ℕ) (v u : View) → u ≡ after_look t word v → HasStake v → IsUser t v → IsUser t u
look_user law t word v u e stake has =
    let same = (law t word v stake).0 in
    let o = same.owns t in let r = same.refs t in
    subst (λ (x : View). IsUser t x) (sym e) (omega arith)

pub look_stake : LookLeaves → (t : Title) (word : ℕ) (v u : View) → u ≡ after_look t word v → HasStake v → HasStake u
look_stake law t word v u e has = let l = (law t word v has).1.least in subst (λ (x : View). HasStake x) (sym e) (omega arith)

-- the log of a view after a look ends with that look
pub look_last : LookLeaves → (t : Title) (word : ℕ) (v u : View) → u ≡ after_look t word v → HasStake v →
    last_entry (least_log u.stakes) ≡ Some (Looked t word)
look_last law t word v u e has = ap (λ (x : View). last_entry (least_log x.stakes)) e ∙ (law t word v has).1.last

-- a view has its Own of the title after a look as before
pub look_own : LookLeaves → (t : Title) (word : ℕ) (v u : View) → u ≡ after_look t word v → HasStake v → 0 < own_of v t → 0 < own_of u t
look_own law t word v u e stake has = let o = (law t word v stake).0.owns t in subst (λ (x : View). 0 < own_of x t) (sym e) (omega arith)

-- where a content word is
pub place_offset : (n : ℕ) (t : Title) (place : ℕ) → IsWellFormed n t → place < content_count t →
    (t.start + 8 * place ≡ content_offset t place) × ((t.start + 8 * place) % 8 ≡ 0) × Covers t (t.start + 8 * place)
place_offset n t place well below =
    let a = well.start_aligned in let b = well.len_aligned in let c = well.long in
    (omega arith, omega arith, (omega arith, omega arith))
