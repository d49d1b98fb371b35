-- Each event keeps the core good, said of its words and of what all actors hold together.
use Rattle.std.proofs.Common.{◌≡◌, ℕ, ◌+◌, ◌-◌, ◌*◌, ◌/◌, ◌%◌, ◌<◌, Bool, List, [], ◌∷◌, length, set, refl, arith, ◌⊎◌, inl, inr}
use Rattle.std.proofs.lemmas.List.{length-set}
use Rattle.std.proofs.lemmas.Bool.{cases_lt}
use Rattle.pa_slot.specs.declared.word.Step.{Step}
use Rattle.pa_slot.specs.declared.word.Step.TheVariants.{Issue, Copy, Reset, Free, Write}
use Rattle.pa_slot.specs.declared.title.Title.{Title}
use Rattle.pa_slot.specs.declared.title.OwnState.{OwnState}
use Rattle.pa_slot.specs.declared.title.OwnState.TheVariants.{Clean, Dirty, Poisoned}
use Rattle.pa_slot.specs.Count.{refs_of, CanStep, stepped}
use Rattle.pa_slot.specs.Titles.{Covers, IsWellFormed, content_count, content_place, count_place, count_word, HasContentFrom, IsUniform, poison, progress, IsContentOf}
use Rattle.pa_slot.specs.Holdings.{FreePiece, OwnPiece, RefPiece, Thing, RawByte, FreeTitle, OwnOf, OwnAs, SealedOwn, RefOf, IsTitleHeld, held_in}
use Rattle.pa_machine.specs.Good.{IsGood}
use Rattle.pa_machine.specs.Events.{returned_at}
use Rattle.pa_slot.proofs.Arith.{stepped_is}
use Rattle.pa_machine.proofs.Totals.{IsTally}
use Rattle.pa_machine.proofs.Parts.{free_or, IsTitleGood, Changes, title_of_good, IsWordOf, word_covered, IsNoneOf, nil_none, free_none, own_none, ref_none, IsChangeAt, change_good, good_by, divided_same, untouched_by_write}
use Rattle.pa_machine.proofs.Amounts.{own_self, ref_self, returned_cases, content_written, content_other, word_unwritten}
use Rattle.pa_machine.proofs.Counting.{written_word, issue_good, copy_good, reset_good, free_good, write_good}
use Rattle.pa_machine.proofs.Storing.{store_own_good, store_free_good, poison_good, IsWrittenContent}

-- what a step gives back is the title's alone, and no raw byte
pub returned_here : (v : ℕ) (t u : Title) → (t ≡ u → ⊥) → IsNoneOf (returned_at v t) u
returned_here v t u ne = elim (returned_cases v t) [
  | inl y ↦ rw y.1 (free_none t u ne)
  | inr n ↦ rw n.1 (nil_none u)
]

pub returned_raw : (v : ℕ) (t : Title) (b : ℕ) → held_in (returned_at v t) (RawByte b) ≡ 0
returned_raw v t b = elim (returned_cases v t) [ inl y ↦ rw y.1 refl | inr n ↦ rw n.1 refl ]

-- the words after a step on the title's count word
abbrev pub after_step : Step → List ℕ → Title → List ℕ
after_step p words t = set words (count_place t) (stepped p (count_word words t))

-- an Own in some state is an Own
pub own_of_state : (total : Thing → ℕ) (t : Title) (a : OwnState) → IsTally total → 0 < total (OwnAs t a) → 0 < total (OwnOf t)
own_of_state total t a tally has = let p = tally.part t a in omega arith

-- each event of a title changes nothing but this title: a step on its count word, or a write to its content
pub issue_change : (sealed : Bool) (words : List ℕ) (total later : Thing → ℕ) (t : Title) →
    Changes total (FreePiece t ∷ []) (OwnPiece sealed t Clean ∷ []) later →
    IsChangeAt words total later t (FreePiece t ∷ []) (OwnPiece sealed t Clean ∷ []) (count_place t)
issue_change sealed words total later t c = record {
  changes = c;
  lost_here = free_none t;
  gained_here = λ u ne. own_none sealed t u Clean ne;
  no_raw_lost = λ b. refl;
  no_raw_gained = λ b. refl;
  place = (omega arith, omega arith);
}

pub copy_change : (words : List ℕ) (total later : Thing → ℕ) (t : Title) → Changes total [] (RefPiece t ∷ []) later →
    IsChangeAt words total later t [] (RefPiece t ∷ []) (count_place t)
copy_change words total later t c = record {
  changes = c;
  lost_here = λ u ne. nil_none u;
  gained_here = ref_none t;
  no_raw_lost = λ b. refl;
  no_raw_gained = λ b. refl;
  place = (omega arith, omega arith);
}

pub reset_change : (words : List ℕ) (total later : Thing → ℕ) (t : Title) (v : ℕ) →
    Changes total (RefPiece t ∷ []) (returned_at v t) later →
    IsChangeAt words total later t (RefPiece t ∷ []) (returned_at v t) (count_place t)
reset_change words total later t v c = record {
  changes = c;
  lost_here = ref_none t;
  gained_here = returned_here v t;
  no_raw_lost = λ b. refl;
  no_raw_gained = returned_raw v t;
  place = (omega arith, omega arith);
}

pub free_change : (sealed : Bool) (words : List ℕ) (total later : Thing → ℕ) (t : Title) (v : ℕ) →
    Changes total (OwnPiece sealed t (Poisoned (content_count t)) ∷ []) (returned_at v t) later →
    IsChangeAt words total later t (OwnPiece sealed t (Poisoned (content_count t)) ∷ []) (returned_at v t) (count_place t)
free_change sealed words total later t v c = record {
  changes = c;
  lost_here = λ u ne. own_none sealed t u (Poisoned (content_count t)) ne;
  gained_here = returned_here v t;
  no_raw_lost = λ b. refl;
  no_raw_gained = returned_raw v t;
  place = (omega arith, omega arith);
}

pub restate_change : (sealed : Bool) (words : List ℕ) (total later : Thing → ℕ) (t : Title) (a b : OwnState) (p : ℕ) →
    Changes total (OwnPiece sealed t a ∷ []) (OwnPiece sealed t b ∷ []) later →
    IsWordOf t p → IsChangeAt words total later t (OwnPiece sealed t a ∷ []) (OwnPiece sealed t b ∷ []) p
restate_change sealed words total later t a b p c place = record {
  changes = c;
  lost_here = λ u ne. own_none sealed t u a ne;
  gained_here = λ u ne. own_none sealed t u b ne;
  no_raw_lost = λ b. refl;
  no_raw_gained = λ b. refl;
  place = place;
}

pub nil_change : (words : List ℕ) (total later : Thing → ℕ) (t : Title) (p : ℕ) → Changes total [] [] later →
    IsWordOf t p → IsChangeAt words total later t [] [] p
nil_change words total later t p c place = record {
  changes = c;
  lost_here = λ u ne. nil_none u;
  gained_here = λ u ne. nil_none u;
  no_raw_lost = λ b. refl;
  no_raw_gained = λ b. refl;
  place = place;
}

-- a title that is good is held
pub still_held : (after : List ℕ) (later : Thing → ℕ) (t : Title) → IsTitleGood after later t → IsTitleHeld later t
still_held after later t good = elim (free_or (count_word after t)) [
  | inl y ↦ let e = good.counted.free y in omega arith
  | inr n ↦ elim (cases_lt 0 (later (OwnOf t) + later (RefOf t))) [
    | inl some_held ↦ omega arith
    | inr none ↦ let a = good.counted.owns in let b = good.counted.refs in absurd (n (omega arith, omega arith))
  ]
]

pub issue_keeps : (sealed : Bool) (words : List ℕ) (total later : Thing → ℕ) (t : Title) → IsGood words total → IsTally total →
    IsTally later →
    CanStep Issue (count_word words t) → 0 < total (FreeTitle t) → HasContentFrom words t 0 0 →
    Changes total (FreePiece t ∷ []) (OwnPiece sealed t Clean ∷ []) later → IsGood (after_step Issue words t) later
issue_keeps sealed words total later t g tally tallied can has zeros c =
    let held : IsTitleHeld total t = omega arith in
    let a = c (OwnOf t) in let o = own_self sealed t Clean in
    change_good words total later t (FreePiece t ∷ []) (OwnPiece sealed t Clean ∷ []) (count_place t)
    (stepped Issue (count_word words t)) g held
    (omega arith)
    (issue_change sealed words total later t c)
    (issue_good sealed words (after_step Issue words t) total later t (stepped Issue (count_word words t))
    (title_of_good words total t g held) tally tallied
    (stepped_is Issue (count_word words t) can)
    (written_word words t (stepped Issue (count_word words t)) (g.divided.well t held)) has zeros c)

pub copy_keeps : (words : List ℕ) (total later : Thing → ℕ) (t : Title) → IsGood words total → IsTally total → IsTally later →
    CanStep Copy (count_word words t) → ((0 < total (OwnAs t Clean)) × (total (SealedOwn t) ≡ 0)) ⊎ (0 < total (RefOf t)) →
    Changes total [] (RefPiece t ∷ []) later → IsGood (after_step Copy words t) later
copy_keeps words total later t g tally tallied can has c =
    let held : IsTitleHeld total t = elim has [
      | inl o ↦ let p = own_of_state total t Clean tally o.0 in omega arith
      | inr r ↦ omega arith
    ] in
    let a = c (RefOf t) in let o = ref_self t in
    change_good words total later t [] (RefPiece t ∷ []) (count_place t) (stepped Copy (count_word words t)) g held (omega arith)
    (copy_change words total later t c)
    (copy_good words (after_step Copy words t) total later t (stepped Copy (count_word words t))
    (title_of_good words total t g held) tally tallied
    (stepped_is Copy (count_word words t) can) (written_word words t (stepped Copy (count_word words t)) (g.divided.well t held)) has c)

pub reset_keeps : (words : List ℕ) (total later : Thing → ℕ) (t : Title) → IsGood words total → IsTally total → IsTally later →
    CanStep Reset (count_word words t) → 0 < total (RefOf t) →
    Changes total (RefPiece t ∷ []) (returned_at (stepped Reset (count_word words t)) t) later → IsGood (after_step Reset words t) later
reset_keeps words total later t g tally tallied can has c =
    let held : IsTitleHeld total t = omega arith in
    let v = stepped Reset (count_word words t) in
    let good = reset_good words (after_step Reset words t) total later t v (title_of_good words total t g held) tally tallied
    (stepped_is Reset (count_word words t) can) (written_word words t v (g.divided.well t held)) has c in
    let word = (written_word words t v (g.divided.well t held)).word in
    change_good words total later t (RefPiece t ∷ []) (returned_at v t) (count_place t) v g held
    (still_held (after_step Reset words t) later t good)
    (reset_change words total later t v c)
    good

pub free_keeps : (sealed : Bool) (words : List ℕ) (total later : Thing → ℕ) (t : Title) → IsGood words total → IsTally total →
    IsTally later →
    CanStep Free (count_word words t) → 0 < total (OwnAs t (Poisoned (content_count t))) →
    Changes total (OwnPiece sealed t (Poisoned (content_count t)) ∷ []) (returned_at (stepped Free (count_word words t)) t) later →
    IsGood (after_step Free words t) later
free_keeps sealed words total later t g tally tallied can has c =
    let owned = own_of_state total t (Poisoned (content_count t)) tally has in
    let held : IsTitleHeld total t = omega arith in
    let v = stepped Free (count_word words t) in
    let good = free_good sealed words (after_step Free words t) total later t v (title_of_good words total t g held) tally tallied
    (stepped_is Free (count_word words t) can) (written_word words t v (g.divided.well t held)) has c in
    change_good words total later t (OwnPiece sealed t (Poisoned (content_count t)) ∷ []) (returned_at v t) (count_place t) v g held
    (still_held (after_step Free words t) later t good)
    (free_change sealed words total later t v c)
    good

pub write_keeps : (sealed : Bool) (words : List ℕ) (total later : Thing → ℕ) (t : Title) (state : OwnState) → IsGood words total →
    IsTally total → IsTally later →
    CanStep Write (count_word words t) → 0 < total (OwnAs t state) → IsUniform words t →
    Changes total (OwnPiece sealed t state ∷ []) (OwnPiece sealed t Clean ∷ []) later → IsGood (after_step Write words t) later
write_keeps sealed words total later t state g tally tallied can has same c =
    let owned = own_of_state total t state tally has in
    let held : IsTitleHeld total t = omega arith in
    let v = stepped Write (count_word words t) in
    let good = write_good sealed words (after_step Write words t) total later t v state (title_of_good words total t g held) tally tallied
    (stepped_is Write (count_word words t) can) (written_word words t v (g.divided.well t held)) has same c in
    change_good words total later t (OwnPiece sealed t state ∷ []) (OwnPiece sealed t Clean ∷ []) (count_place t) v g held
    (still_held (after_step Write words t) later t good)
    (restate_change sealed words total later t state Clean (count_place t) c (omega arith, omega arith))
    good

-- the place of a content word, by the offset of the word in bytes
pub content_index : (n : ℕ) (t : Title) (at_byte : ℕ) → IsWellFormed n t → at_byte % 8 ≡ 0 → IsContentOf t at_byte →
    (i : ℕ) × (at_byte / 8 ≡ content_place t i) × (i < content_count t)
content_index n t at_byte well aligned within =
    let a = well.start_aligned in let b = well.len_aligned in let c = well.long in
    let low = within.0 in let high = within.1 in
    (at_byte / 8 - t.start / 8, omega arith, omega arith)

-- a write of any value to a content word
pub written_content : (words : List ℕ) (t : Title) (p v : ℕ) → IsWellFormed (length words) t → p < content_count t →
    IsWrittenContent words (set words (content_place t p) v) t p v
written_content words t p v well below = record {
  word = word_unwritten words t v p below;
  here = content_written words t v p well below;
  others = λ i ne. content_other words t v p i ne;
}

pub store_own_keeps : (sealed : Bool) (words : List ℕ) (total later : Thing → ℕ) (t : Title) (state : OwnState) (i v : ℕ) →
    IsGood words total →
    IsTally total → IsTally later →
    i < content_count t → 0 < total (OwnAs t state) → refs_of (count_word words t) ≡ 0 →
    Changes total (OwnPiece sealed t state ∷ []) (OwnPiece sealed t Dirty ∷ []) later → IsGood (set words (content_place t i) v) later
store_own_keeps sealed words total later t state i v g tally tallied below has none c =
    let owned = own_of_state total t state tally has in
    let held : IsTitleHeld total t = omega arith in
    let good = store_own_good sealed words (set words (content_place t i) v) total later t state (title_of_good words total t g held) tally
    tallied
    (word_unwritten words t v i below) has none c in
    change_good words total later t (OwnPiece sealed t state ∷ []) (OwnPiece sealed t Dirty ∷ []) (content_place t i) v g held
    (still_held (set words (content_place t i) v) later t good)
    (restate_change sealed words total later t state Dirty (content_place t i) c (omega arith, omega arith))
    good

pub store_free_keeps : (words : List ℕ) (total later : Thing → ℕ) (t : Title) (i v : ℕ) → IsGood words total → IsTally later →
    i < content_count t → 0 < total (FreeTitle t) → Changes total [] [] later → IsGood (set words (content_place t i) v) later
store_free_keeps words total later t i v g tallied below has c =
    let held : IsTitleHeld total t = omega arith in
    let good = store_free_good words (set words (content_place t i) v) total later t (title_of_good words total t g held) tallied
    (word_unwritten words t v i below) has (λ x. let e = c x in omega arith) in
    change_good words total later t [] [] (content_place t i) v g held
    (still_held (set words (content_place t i) v) later t good)
    (nil_change words total later t (content_place t i) c (omega arith, omega arith))
    good

pub poison_keeps : (sealed : Bool) (words : List ℕ) (total later : Thing → ℕ) (t : Title) (state : OwnState) → IsGood words total →
    IsTally total → IsTally later →
    progress state < content_count t → 0 < total (OwnAs t state) →
    Changes total (OwnPiece sealed t state ∷ []) (OwnPiece sealed t (Poisoned (progress state + 1)) ∷ []) later →
    IsGood (set words (content_place t (progress state)) poison) later
poison_keeps sealed words total later t state g tally tallied below has c =
    let owned = own_of_state total t state tally has in
    let held : IsTitleHeld total t = omega arith in
    let good = poison_good sealed words (set words (content_place t (progress state)) poison) total later t state
    (title_of_good words total t g held) tally tallied
    (written_content words t (progress state) poison (g.divided.well t held) below) below has c in
    change_good words total later t (OwnPiece sealed t state ∷ []) (OwnPiece sealed t (Poisoned (progress state + 1)) ∷ [])
    (content_place t (progress state)) poison g held
    (still_held (set words (content_place t (progress state)) poison) later t good)
    (restate_change sealed words total later t state (Poisoned (progress state + 1)) (content_place t (progress state)) c
    (omega arith, omega arith))
    good

-- a write to a word whose first byte is raw keeps the core good
pub store_raw_keeps : (words : List ℕ) (total later : Thing → ℕ) (p v : ℕ) → IsGood words total → 0 < total (RawByte (8 * p)) →
    Changes total [] [] later → IsGood (set words p v) later
store_raw_keeps words total later p v g raw c =
    let same : (x : Thing) → later x ≡ total x = λ x. let e = c x in omega arith in
    good_by words total (set words p v) later g
    (rw (length-set words p v) (divided_same (length words) total later g.divided (λ b. same (RawByte b))
    (λ u held. let a = same (FreeTitle u) in let b = same (OwnOf u) in let d = same (RefOf u) in omega arith)
    (λ u held. let a = same (FreeTitle u) in let b = same (OwnOf u) in let d = same (RefOf u) in omega arith)))
    (λ u held. inl (untouched_by_write words total later u p v
    (λ within.
    let before : IsTitleHeld total u = let a = same (FreeTitle u) in let b = same (OwnOf u) in let d = same (RefOf u) in omega arith in
    none_there words total p u g raw before (word_covered (length words) u p (g.divided.well u before) within))
    (same (FreeTitle u)) (same (OwnOf u)) (same (RefOf u)) (same (SealedOwn u)) (λ a. same (OwnAs u a))))
  where
    none_there : (words : List ℕ) (total : Thing → ℕ) (p : ℕ) (u : Title) → IsGood words total → 0 < total (RawByte (8 * p)) →
        IsTitleHeld total u → Covers u (8 * p) → ⊥
    none_there words total p u g raw held covers = elim (cases_lt (8 * p) (8 * length words)) [
      | inl below ↦ elim (g.divided.bytes (8 * p) below) [ inl r ↦ r.1 u held covers | inr r ↦ let z = r.0 in omega arith ]
      | inr past ↦ let z = g.divided.outside (8 * p) past in omega arith
    ]

-- nothing changes in sum
pub same_keeps : (words : List ℕ) (total later : Thing → ℕ) → IsGood words total → ((x : Thing) → later x ≡ total x) → IsGood words later
same_keeps words total later g same =
    good_by words total words later g
    (divided_same (length words) total later g.divided (λ b. same (RawByte b))
    (λ u held. let a = same (FreeTitle u) in let b = same (OwnOf u) in let d = same (RefOf u) in omega arith)
    (λ u held. let a = same (FreeTitle u) in let b = same (OwnOf u) in let d = same (RefOf u) in omega arith))
    (λ u held. inl (record {
      free = same (FreeTitle u);
      own = same (OwnOf u);
      ref = same (RefOf u);
      seal = same (SealedOwn u);
      state = λ a. same (OwnAs u a);
      word = refl;
      content = λ i below. refl;
    }))
