-- A store and a poisoning keep their title good.
use Rattle.std.proofs.Common.{◌≡◌, ℕ, ◌+◌, ◌<◌, ◌≤◌, Bool, List, [], ◌∷◌, ◌∙◌, arith, inl, inr}
use Rattle.std.proofs.lemmas.Bool.{cases_eq}
use Rattle.pa_slot.specs.declared.title.Title.{Title}
use Rattle.pa_slot.specs.declared.title.OwnState.{OwnState}
use Rattle.pa_slot.specs.declared.title.OwnState.TheVariants.{Clean, Dirty, Poisoned}
use Rattle.pa_slot.specs.Count.{refs_of}
use Rattle.pa_slot.specs.Run.{IsFree}
use Rattle.pa_slot.specs.Titles.{content_count, content_at, count_word, HasContentFrom, IsPoisonedTo, poison, progress}
use Rattle.pa_slot.specs.Holdings.{OwnPiece, Thing, FreeTitle, OwnOf, OwnAs, SealedOwn, RefOf, held_in}
use Rattle.pa_machine.specs.Good.{IsCounted}
use Rattle.pa_slot.proofs.Arith.{held_small}
use Rattle.pa_slot.proofs.Same.{state_tells}
use Rattle.pa_machine.proofs.Totals.{IsTally}
use Rattle.pa_machine.proofs.Parts.{free_or, IsTitleGood, Changes}
use Rattle.pa_machine.proofs.Amounts.{own_self, seal_self, state_here, state_apart}

-- After an Own of t in one state became one in another, there is an Own in that state, and none in any third.
pub record IsRestated (total later : Thing → ℕ) (t : Title) (from to : OwnState) : Type 0 where
  pub free : later (FreeTitle t) ≡ total (FreeTitle t)
  pub own : later (OwnOf t) ≡ total (OwnOf t)
  pub ref : later (RefOf t) ≡ total (RefOf t)
  pub seal : later (SealedOwn t) ≡ total (SealedOwn t)
  pub now : 0 < later (OwnAs t to)

pub restated : (sealed : Bool) (total later : Thing → ℕ) (t : Title) (from to : OwnState) → 0 < total (OwnAs t from) →
    Changes total (OwnPiece sealed t from ∷ []) (OwnPiece sealed t to ∷ []) later → IsRestated total later t from to
restated sealed total later t from to has c =
    let free = c (FreeTitle t) in
    let own = c (OwnOf t) in
    let ref = c (RefOf t) in
    let in_state = c (OwnAs t to) in
    let o1 = own_self sealed t from in
    let o2 = own_self sealed t to in
    let seals = c (SealedOwn t) in
    let s1 = seal_self sealed t from in
    let s2 = seal_self sealed t to in
    let m = state_here sealed t to in
    let lost : held_in (OwnPiece sealed t from ∷ []) (OwnAs t to) ≤ total (OwnAs t to) = elim (state_tells from to) [
      | inl y ↦ rw (y.1, state_here sealed t to) (rw y.1 at has)
      | inr n ↦ rw (state_apart sealed t from to n.1) (omega arith)
    ] in
    record { free = omega arith; own = omega arith; ref = omega arith; seal = omega arith; now = omega arith }

-- with at most one Own, a state that one has is the state
pub one_state : (later : Thing → ℕ) (t : Title) (a b : OwnState) → IsTally later → later (OwnOf t) ≤ 1 →
    0 < later (OwnAs t a) → 0 < later (OwnAs t b) → a ≡ b
one_state later t a b tallied few x y = elim (state_tells a b) [
  | inl e ↦ e.1
  | inr n ↦ let two = tallied.two t a b n.1 in absurd (omega arith)
]

-- the count word and its numbers are as before
same_counted : (words after : List ℕ) (total later : Thing → ℕ) (t : Title) → IsCounted (count_word words t) total t →
    count_word after t ≡ count_word words t → later (FreeTitle t) ≡ total (FreeTitle t) → later (OwnOf t) ≡ total (OwnOf t) →
    later (RefOf t) ≡ total (RefOf t) → IsCounted (count_word after t) later t
same_counted words after total later t g w free own ref = record {
  owns = rw (w, own) g.owns;
  refs = rw (w, ref) g.refs;
  free = λ f. rw free (g.free (rw w at f));
  taken = λ n. rw free (g.taken (λ f. n (rw w f)));
}

-- a store to a content word of an Own to which no Ref points
pub store_own_good : (sealed : Bool) (words after : List ℕ) (total later : Thing → ℕ) (t : Title) (state : OwnState) →
    IsTitleGood words total t →
    IsTally total → IsTally later → count_word after t ≡ count_word words t → 0 < total (OwnAs t state) →
    refs_of (count_word words t) ≡ 0 → Changes total (OwnPiece sealed t state ∷ []) (OwnPiece sealed t Dirty ∷ []) later →
    IsTitleGood after later t
store_own_good sealed words after total later t state g tally tallied w has none c =
    let r = restated sealed total later t state Dirty has c in
    let own = r.own in
    let owns = g.counted.owns in
    let small = held_small (count_word words t) in
    let now = r.now in
    let part = tally.part t state in
    let few : later (OwnOf t) ≤ 1 = omega arith in
    record {
      counted = same_counted words after total later t g.counted w r.free r.own r.ref;
      poison_kept = record {
        progress = λ j h. let e = one_state later t Dirty (Poisoned j) tallied few now h in cc;
        quarantine = λ q. let z = (rw w at q).0 in absurd (omega arith);
      };
      content_kept = record {
        clean = λ h. let e = one_state later t Dirty Clean tallied few now h in cc;
        shared = λ other many _. let z = rw w at many in absurd (omega arith);
      };
      seal_kept = λ _. rw w none;
    }

-- a store to a content word of a free title
pub store_free_good : (words after : List ℕ) (total later : Thing → ℕ) (t : Title) → IsTitleGood words total t →
    IsTally later → count_word after t ≡ count_word words t → 0 < total (FreeTitle t) →
    ((x : Thing) → later x ≡ total x) → IsTitleGood after later t
store_free_good words after total later t g tallied w has same =
    let free = same (FreeTitle t) in
    let own = same (OwnOf t) in
    let ref = same (RefOf t) in
    let is_free : IsFree (count_word words t) = elim (free_or (count_word words t)) [
      | inl y ↦ y
      | inr n ↦ let e = g.counted.taken n in absurd (omega arith)
    ] in
    let owns = g.counted.owns in
    let h = is_free.0 in
    let k = is_free.1 in
    let none : later (OwnOf t) ≡ 0 = omega arith in
    record {
      counted = same_counted words after total later t g.counted w free own ref;
      poison_kept = record {
        progress = λ j m. let p = tallied.part t (Poisoned j) in absurd (omega arith);
        quarantine = λ q. let z = (rw w at q).1 in absurd (omega arith);
      };
      content_kept = record {
        clean = λ m. let p = tallied.part t Clean in absurd (omega arith);
        shared = λ other many m. let p = tallied.part t other in absurd (omega arith);
      };
      seal_kept = λ m. let p = tallied.seal t in absurd (omega arith);
    }

-- the words with the title's content word p poisoned
pub record IsWrittenContent (words after : List ℕ) (t : Title) (p v : ℕ) : Type 0 where
  pub word : count_word after t ≡ count_word words t
  pub here : content_at after t p ≡ v
  pub others : (i : ℕ) → (i ≡ p → ⊥) → content_at after t i ≡ content_at words t i

-- the words below the new progress are poison
poisoned_more : (words after : List ℕ) (t : Title) (p : ℕ) → IsWrittenContent words after t p poison → IsPoisonedTo words t p →
    IsPoisonedTo after t (p + 1)
poisoned_more words after t p w h i below = elim (cases_eq i p) [
  | inl e ↦ rw e w.here
  | inr n ↦ w.others i n ∙ h i (omega arith)
]

-- the words from the new progress on are as before
left_more : (words after : List ℕ) (t : Title) (p j value : ℕ) → IsWrittenContent words after t p poison → j ≤ p + 1 →
    HasContentFrom words t j value → HasContentFrom after t (p + 1) value
left_more words after t p j value w low h = λ i above below. w.others i (λ e. omega arith) ∙ h i (omega arith) below

-- what an Own's first words hold, by its state
pub poisoned_so_far : (words : List ℕ) (total : Thing → ℕ) (t : Title) (state : OwnState) → IsTitleGood words total t →
    0 < total (OwnAs t state) → IsPoisonedTo words t (progress state)
poisoned_so_far words total t Clean g has = λ i below. absurd (omega arith)
poisoned_so_far words total t Dirty g has = λ i below. absurd (omega arith)
poisoned_so_far words total t (Poisoned j) g has = (g.poison_kept.progress j has).1

-- the words beyond the progress are equal while there are Refs
pub shared_so_far : (words : List ℕ) (total : Thing → ℕ) (t : Title) (state : OwnState) → IsTitleGood words total t →
    0 < refs_of (count_word words t) → 0 < total (OwnAs t state) → (value : ℕ) × HasContentFrom words t (progress state) value
shared_so_far words total t Clean g many has = g.content_kept.clean has
shared_so_far words total t Dirty g many has = elim (g.content_kept.shared Dirty many has) [
  | inl e ↦ cc
  | inr p ↦ let e = p.1 in cc
]
shared_so_far words total t (Poisoned j) g many has = elim (g.content_kept.shared (Poisoned j) many has) [
  | inl e ↦ cc
  | inr p ↦ let e = p.1 in let f : j ≡ p.0 = cc in (p.2, rw f p.3)
]

pub poison_good : (sealed : Bool) (words after : List ℕ) (total later : Thing → ℕ) (t : Title) (state : OwnState) →
    IsTitleGood words total t →
    IsTally total → IsTally later → IsWrittenContent words after t (progress state) poison → progress state < content_count t →
    0 < total (OwnAs t state) →
    Changes total (OwnPiece sealed t state ∷ []) (OwnPiece sealed t (Poisoned (progress state + 1)) ∷ []) later →
    IsTitleGood after later t
poison_good sealed words after total later t state g tally tallied w room has c =
    let next = Poisoned (progress state + 1) in
    let r = restated sealed total later t state next has c in
    let own = r.own in
    let owns = g.counted.owns in
    let small = held_small (count_word words t) in
    let now = r.now in
    let part = tally.part t state in
    let few : later (OwnOf t) ≤ 1 = omega arith in
    record {
      counted = same_counted words after total later t g.counted w.word r.free r.own r.ref;
      poison_kept = record {
        progress = λ j h.
            let e = one_state later t next (Poisoned j) tallied few now h in
            let f : progress state + 1 ≡ j = cc in
            (omega arith, rw (← f) (poisoned_more words after t (progress state) w (poisoned_so_far words total t state g has)));
        quarantine = λ q. let z = (rw w.word at q).0 in absurd (omega arith);
      };
      content_kept = record {
        clean = λ h. let e = one_state later t next Clean tallied few now h in cc;
        shared = λ other many h.
            let e = one_state later t other next tallied few h now in
            let value = shared_so_far words total t state g (rw w.word at many) has in
            inr (progress state + 1, e, value.0, left_more words after t (progress state) (progress state) value.0 w (omega arith) value.1);
      };
      seal_kept = λ h. rw w.word (g.seal_kept (rw r.seal at h));
    }
