-- Each step on a count word keeps its title good.
use Rattle.std.proofs.Common.{◌≡◌, ℕ, ◌<◌, ◌≤◌, Bool, List, [], ◌∷◌, length, set, refl, ◌∙◌, arith, ◌⊎◌, inl, inr}
use Rattle.pa_slot.specs.declared.word.Step.TheVariants.{Issue, Copy, Reset, Free, Write}
use Rattle.pa_slot.specs.declared.title.Title.{Title}
use Rattle.pa_slot.specs.declared.title.OwnState.{OwnState}
use Rattle.pa_slot.specs.declared.title.OwnState.TheVariants.{Clean, Poisoned}
use Rattle.pa_slot.specs.Count.{refs_of}
use Rattle.pa_slot.specs.Run.{IsFree}
use Rattle.pa_slot.specs.Titles.{IsWellFormed, content_count, count_place, content_at, count_word, HasContentFrom, IsUniform}
use Rattle.pa_slot.specs.Holdings.{FreePiece, OwnPiece, RefPiece, Thing, FreeTitle, OwnOf, OwnAs, SealedOwn, RefOf, held_in}
use Rattle.pa_machine.specs.Events.{returned_at}
use Rattle.pa_slot.proofs.Arith.{IsStepped, held_small}
use Rattle.pa_slot.proofs.Same.{state_tells}
use Rattle.pa_machine.proofs.Totals.{IsTally}
use Rattle.pa_machine.proofs.Parts.{IsTitleGood, Changes}
use Rattle.pa_machine.proofs.Amounts.{free_self, own_self, ref_self, state_here, state_apart, returned_cases, word_written, content_unwritten}

-- The words after a step on the count word of t, which leaves the word v.
pub record IsWrittenWord (words after : List ℕ) (t : Title) (v : ℕ) : Type 0 where
  pub word : count_word after t ≡ v
  pub content : (i : ℕ) → i < content_count t → content_at after t i ≡ content_at words t i

pub written_word : (words : List ℕ) (t : Title) (v : ℕ) → IsWellFormed (length words) t →
    IsWrittenWord words (set words (count_place t) v) t v
written_word words t v well = record { word = word_written words t v well; content = λ i below. content_unwritten words t v i below }

-- the content words have the values that they had
same_from : (words after : List ℕ) (t : Title) (v j value : ℕ) → IsWrittenWord words after t v → HasContentFrom words t j value →
    HasContentFrom after t j value
same_from words after t v j value s h = λ i low below. s.content i below ∙ h i low below

pub issue_good : (sealed : Bool) (words after : List ℕ) (total later : Thing → ℕ) (t : Title) (v : ℕ) → IsTitleGood words total t →
    IsTally total →
    IsTally later →
    IsStepped Issue (count_word words t) v → IsWrittenWord words after t v → 0 < total (FreeTitle t) → HasContentFrom words t 0 0 →
    Changes total (FreePiece t ∷ []) (OwnPiece sealed t Clean ∷ []) later → IsTitleGood after later t
issue_good sealed words after total later t v g tally tallied s w has zeros c =
    let free = c (FreeTitle t) in
    let own = c (OwnOf t) in
    let ref = c (RefOf t) in
    let f1 = free_self t in
    let o1 = own_self sealed t Clean in
    let once = g.counted.free (s.3, s.2) in
    let owns = g.counted.owns in
    let refs = g.counted.refs in
    let a = s.0 in let b = s.1 in let d = s.2 in let e = s.3 in
    record {
      counted = record {
        owns = rw w.word (omega arith);
        refs = rw w.word (omega arith);
        free = λ is_free. let z = (rw w.word at is_free).0 in omega arith;
        taken = λ _. omega arith;
      };
      poison_kept = record {
        progress = λ j h.
            let k = c (OwnAs t (Poisoned j)) in
            let m = state_apart sealed t Clean (Poisoned j) (λ q. cc) in
            let n = tally.part t (Poisoned j) in
            absurd (omega arith);
        quarantine = λ q. let z = (rw w.word at q).0 in absurd (omega arith);
      };
      content_kept = record {
        clean = λ _. (0, same_from words after t v 0 0 w zeros);
        shared = λ a many _. let z = rw w.word at many in absurd (omega arith);
      };
      seal_kept = λ _. rw w.word (omega arith);
    }

pub copy_good : (words after : List ℕ) (total later : Thing → ℕ) (t : Title) (v : ℕ) → IsTitleGood words total t → IsTally total →
    IsTally later →
    IsStepped Copy (count_word words t) v → IsWrittenWord words after t v →
    ((0 < total (OwnAs t Clean)) × (total (SealedOwn t) ≡ 0)) ⊎ (0 < total (RefOf t)) →
    Changes total [] (RefPiece t ∷ []) later → IsTitleGood after later t
copy_good words after total later t v g tally tallied s w has c =
    let free = c (FreeTitle t) in
    let own = c (OwnOf t) in
    let ref = c (RefOf t) in
    let r1 = ref_self t in
    let taken = g.counted.taken (λ f. let y = f.0 in let z = f.1 in let p = s.2 in omega arith) in
    let owns = g.counted.owns in
    let refs = g.counted.refs in
    let a = s.0 in let b = s.1 in let d = s.2 in
    record {
      counted = record {
        owns = rw w.word (omega arith);
        refs = rw w.word (omega arith);
        free = λ is_free. let z = (rw w.word at is_free).1 in omega arith;
        taken = λ _. omega arith;
      };
      poison_kept = record {
        progress = λ j h.
            let k = c (OwnAs t (Poisoned j)) in
            let before : 0 < total (OwnAs t (Poisoned j)) = omega arith in
            let p = g.poison_kept.progress j before in
            let low = p.0 in
            (p.0, λ i below. let inside : i < content_count t = omega arith in w.content i inside ∙ p.1 i below);
        quarantine = λ q i below.
            let z = (rw w.word at q).0 in
            w.content i below ∙ g.poison_kept.quarantine (omega arith, omega arith) i below;
      };
      content_kept = record {
        clean = λ h.
            let k = c (OwnAs t Clean) in
            let before : 0 < total (OwnAs t Clean) = omega arith in
            let u = g.content_kept.clean before in
            (u.0, same_from words after t v 0 u.0 w u.1);
        shared = λ state many h.
            let k = c (OwnAs t state) in
            let before : 0 < total (OwnAs t state) = omega arith in
            elim has [
              | inl cleanly ↦ elim (state_tells state Clean) [
                | inl y ↦ inl y.1
                | inr n ↦
                    let two = tally.two t state Clean n.1 in
                    let own_clean = cleanly.0 in
                    let small = held_small (count_word words t) in
                    absurd (omega arith)
              ]
              | inr some_ref ↦
                  let many_before : 0 < refs_of (count_word words t) = omega arith in
                  elim (g.content_kept.shared state many_before before) [
                    | inl y ↦ inl y
                    | inr p ↦ inr (p.0, p.1, p.2, same_from words after t v p.0 p.2 w p.3)
                  ]
            ];
      };
      seal_kept = λ h.
          let k = c (SealedOwn t) in
          elim has [
            | inl open_own ↦ let none = open_own.1 in absurd (omega arith)
            | inr some_ref ↦ let z = g.seal_kept (omega arith) in absurd (omega arith)
          ];
    }

-- what is given back counts as one free title if the word is free, and as none if it isn't
pub returned_free : (v : ℕ) (t : Title) →
    (IsFree v × (held_in (returned_at v t) (FreeTitle t) ≡ 1)) ⊎ ((IsFree v → ⊥) × (held_in (returned_at v t) (FreeTitle t) ≡ 0))
returned_free v t = elim (returned_cases v t) [
  | inl y ↦ inl (y.0, rw y.1 (free_self t))
  | inr n ↦ inr (n.0, rw n.1 refl)
]

returned_none : (v : ℕ) (t : Title) →
    (held_in (returned_at v t) (OwnOf t) ≡ 0) × (held_in (returned_at v t) (RefOf t) ≡ 0) ×
    (held_in (returned_at v t) (SealedOwn t) ≡ 0) × ((a : OwnState) → held_in (returned_at v t) (OwnAs t a) ≡ 0)
returned_none v t = elim (returned_cases v t) [
  | inl y ↦ (rw y.1 refl, rw y.1 refl, rw y.1 refl, λ a. rw y.1 refl)
  | inr n ↦ (rw n.1 refl, rw n.1 refl, rw n.1 refl, λ a. rw n.1 refl)
]

pub reset_good : (words after : List ℕ) (total later : Thing → ℕ) (t : Title) (v : ℕ) → IsTitleGood words total t → IsTally total →
    IsTally later →
    IsStepped Reset (count_word words t) v → IsWrittenWord words after t v → 0 < total (RefOf t) →
    Changes total (RefPiece t ∷ []) (returned_at v t) later → IsTitleGood after later t
reset_good words after total later t v g tally tallied s w has c =
    let free = c (FreeTitle t) in
    let own = c (OwnOf t) in
    let ref = c (RefOf t) in
    let r1 = ref_self t in
    let none = returned_none v t in
    let n0 = none.0 in let n1 = none.1 in
    let taken = g.counted.taken (λ f. let y = f.0 in let z = f.1 in let r = g.counted.refs in omega arith) in
    let owns = g.counted.owns in
    let refs = g.counted.refs in
    let a = s.0 in let b = s.1 in
    record {
      counted = record {
        owns = rw w.word (omega arith);
        refs = rw w.word (omega arith);
        free = λ is_free. elim (returned_free v t) [
          | inl y ↦ let m = y.1 in omega arith
          | inr n ↦ absurd (n.0 (rw w.word at is_free))
        ];
        taken = λ not_free. elim (returned_free v t) [
          | inl y ↦ absurd (not_free (rw w.word y.0))
          | inr n ↦ let m = n.1 in omega arith
        ];
      };
      poison_kept = record {
        progress = λ j h.
            let k = c (OwnAs t (Poisoned j)) in
            let z = none.3 (Poisoned j) in
            let before : 0 < total (OwnAs t (Poisoned j)) = omega arith in
            let p = g.poison_kept.progress j before in
            let low = p.0 in
            (p.0, λ i below. let inside : i < content_count t = omega arith in w.content i inside ∙ p.1 i below);
        quarantine = λ q i below.
            let y = (rw w.word at q).0 in
            let z = (rw w.word at q).1 in
            w.content i below ∙ g.poison_kept.quarantine (omega arith, omega arith) i below;
      };
      content_kept = record {
        clean = λ h.
            let k = c (OwnAs t Clean) in
            let z = none.3 Clean in
            let before : 0 < total (OwnAs t Clean) = omega arith in
            let u = g.content_kept.clean before in
            (u.0, same_from words after t v 0 u.0 w u.1);
        shared = λ state many h.
            let k = c (OwnAs t state) in
            let z = none.3 state in
            let before : 0 < total (OwnAs t state) = omega arith in
            let many_before : 0 < refs_of (count_word words t) = omega arith in
            elim (g.content_kept.shared state many_before before) [
              | inl y ↦ inl y
              | inr p ↦ inr (p.0, p.1, p.2, same_from words after t v p.0 p.2 w p.3)
            ];
      };
      seal_kept = λ h.
          let k = c (SealedOwn t) in
          let n2 = none.2 in
          let z = g.seal_kept (omega arith) in
          absurd (omega arith);
    }

pub free_good : (sealed : Bool) (words after : List ℕ) (total later : Thing → ℕ) (t : Title) (v : ℕ) → IsTitleGood words total t →
    IsTally total →
    IsTally later →
    IsStepped Free (count_word words t) v → IsWrittenWord words after t v → 0 < total (OwnAs t (Poisoned (content_count t))) →
    Changes total (OwnPiece sealed t (Poisoned (content_count t)) ∷ []) (returned_at v t) later → IsTitleGood after later t
free_good sealed words after total later t v g tally tallied s w has c =
    let free = c (FreeTitle t) in
    let own = c (OwnOf t) in
    let ref = c (RefOf t) in
    let o1 = own_self sealed t (Poisoned (content_count t)) in
    let none = returned_none v t in
    let n0 = none.0 in let n1 = none.1 in
    let taken = g.counted.taken (λ f. let y = f.0 in let z = s.2 in omega arith) in
    let owns = g.counted.owns in
    let refs = g.counted.refs in
    let a = s.0 in let b = s.1 in let d = s.2 in
    let gone : later (OwnOf t) ≡ 0 = omega arith in
    record {
      counted = record {
        owns = rw w.word (omega arith);
        refs = rw w.word (omega arith);
        free = λ is_free. elim (returned_free v t) [
          | inl y ↦ let m = y.1 in omega arith
          | inr n ↦ absurd (n.0 (rw w.word at is_free))
        ];
        taken = λ not_free. elim (returned_free v t) [
          | inl y ↦ absurd (not_free (rw w.word y.0))
          | inr n ↦ let m = n.1 in omega arith
        ];
      };
      poison_kept = record {
        progress = λ j h. let k = tallied.part t (Poisoned j) in absurd (omega arith);
        quarantine = λ q i below. w.content i below ∙ (g.poison_kept.progress (content_count t) has).1 i below;
      };
      content_kept = record {
        clean = λ h. let k = tallied.part t Clean in absurd (omega arith);
        shared = λ state many h. let k = tallied.part t state in absurd (omega arith);
      };
      seal_kept = λ h. let k = tallied.seal t in absurd (omega arith);
    }

pub write_good : (sealed : Bool) (words after : List ℕ) (total later : Thing → ℕ) (t : Title) (v : ℕ) (state : OwnState) →
    IsTitleGood words total t →
    IsTally total → IsTally later →
    IsStepped Write (count_word words t) v → IsWrittenWord words after t v → 0 < total (OwnAs t state) → IsUniform words t →
    Changes total (OwnPiece sealed t state ∷ []) (OwnPiece sealed t Clean ∷ []) later → IsTitleGood after later t
write_good sealed words after total later t v state g tally tallied s w has same c =
    let free = c (FreeTitle t) in
    let own = c (OwnOf t) in
    let ref = c (RefOf t) in
    let o1 = own_self sealed t state in
    let o2 = own_self sealed t Clean in
    let taken = g.counted.taken (λ f. let y = f.0 in let z = s.2 in omega arith) in
    let owns = g.counted.owns in
    let refs = g.counted.refs in
    let a = s.0 in let b = s.1 in let d = s.2 in let e = s.3 in
    record {
      counted = record {
        owns = rw w.word (omega arith);
        refs = rw w.word (omega arith);
        free = λ is_free. let z = (rw w.word at is_free).0 in omega arith;
        taken = λ _. omega arith;
      };
      poison_kept = record {
        progress = λ j h.
            let k = c (OwnAs t Clean) in
            let lost : held_in (OwnPiece sealed t state ∷ []) (OwnAs t Clean) ≤ total (OwnAs t Clean) = elim (state_tells state Clean) [
              | inl y ↦ rw (y.1, state_here sealed t Clean) (rw y.1 at has)
              | inr n ↦ rw (state_apart sealed t state Clean n.1) (omega arith)
            ] in
            let m = state_here sealed t Clean in
            let two = tallied.two t Clean (Poisoned j) (λ q. cc) in
            absurd (omega arith);
        quarantine = λ q. let z = (rw w.word at q).0 in absurd (omega arith);
      };
      content_kept = record {
        clean = λ _. (same.0, same_from words after t v 0 same.0 w same.1);
        shared = λ other many _. let z = rw w.word at many in absurd (omega arith);
      };
      seal_kept = λ _. rw w.word (omega arith);
    }
