-- The parts of a good core, title by title, and the laws that carry them over a change.
use Rattle.std.proofs.Common.{◌≡◌, ℕ, ◌+◌, ◌-◌, ◌*◌, ◌/◌, ◌<◌, ◌≤◌, Bool, List, [], ◌∷◌, length, set, refl, ◌∙◌, subst, arith, ◌⊎◌, inl, inr}
use Rattle.std.proofs.lemmas.List.{get_or-set_other, length-set}
use Rattle.std.proofs.lemmas.Bool.{cases_eq}
use Rattle.pa_slot.specs.declared.title.Title.{Title}
use Rattle.pa_slot.specs.declared.title.OwnState.{OwnState}
use Rattle.pa_slot.specs.declared.title.OwnState.TheVariants.{Clean, Poisoned}
use Rattle.pa_slot.specs.Count.{held_of, refs_of}
use Rattle.pa_slot.specs.Run.{IsFree}
use Rattle.pa_slot.specs.Titles.{Covers, IsWellFormed, content_count, content_place, count_place, content_at, count_word}
use Rattle.pa_slot.specs.Holdings.{Piece, RawPiece, FreePiece, OwnPiece, RefPiece, Thing, RawByte, FreeTitle, OwnOf, OwnAs, SealedOwn, RefOf, IsTitleHeld, held_in}
use Rattle.pa_machine.specs.Good.{IsDivided, IsCounted, IsPoisonKept, IsContentKept, IsSealKept, IsGood}
use Rattle.pa_slot.proofs.Same.{title_tells}

-- a count word says that its title is free, or that it isn't
pub free_or : (w : ℕ) → IsFree w ⊎ (IsFree w → ⊥)
free_or w =
    elim (cases_eq (held_of w) 0) [
      | inl h ↦ elim (cases_eq (refs_of w) 0) [ inl c ↦ inl (h, c) | inr n ↦ inr (λ f. n f.1) ]
      | inr n ↦ inr (λ f. n f.0)
    ]

-- what must hold of one held title
pub record IsTitleGood (words : List ℕ) (total : Thing → ℕ) (t : Title) : Type 0 where
  pub counted : IsCounted (count_word words t) total t
  pub poison_kept : IsPoisonKept words total t
  pub content_kept : IsContentKept words total t
  pub seal_kept : IsSealKept words total t

pub title_of_good : (words : List ℕ) (total : Thing → ℕ) (t : Title) → IsGood words total → IsTitleHeld total t → IsTitleGood words total t
title_of_good words total t g held = record {
  counted = g.counted t held;
  poison_kept = g.poison_kept t held;
  content_kept = g.content_kept t held;
  seal_kept = g.seal_kept t held;
}

-- the title's own words and handles are as before
pub record IsUntouched (words : List ℕ) (total : Thing → ℕ) (words_after : List ℕ) (after : Thing → ℕ) (t : Title) : Type 0 where
  pub free : after (FreeTitle t) ≡ total (FreeTitle t)
  pub own : after (OwnOf t) ≡ total (OwnOf t)
  pub ref : after (RefOf t) ≡ total (RefOf t)
  pub seal : after (SealedOwn t) ≡ total (SealedOwn t)
  pub state : (a : OwnState) → after (OwnAs t a) ≡ total (OwnAs t a)
  pub word : count_word words_after t ≡ count_word words t
  pub content : (i : ℕ) → i < content_count t → content_at words_after t i ≡ content_at words t i

-- such a title stays good
pub untouched_good : (words : List ℕ) (total : Thing → ℕ) (words_after : List ℕ) (after : Thing → ℕ) (t : Title) →
    IsTitleGood words total t → IsUntouched words total words_after after t → IsTitleGood words_after after t
untouched_good words total words_after after t g u = record {
  counted = record {
    owns = rw (u.word, u.own) g.counted.owns;
    refs = rw (u.word, u.ref) g.counted.refs;
    free = λ f. rw u.free (g.counted.free (rw u.word at f));
    taken = λ n. rw u.free (g.counted.taken (λ f. n (rw u.word f)));
  };
  poison_kept = record {
    progress = λ j h.
        let e = u.state (Poisoned j) in
        let before : 0 < total (OwnAs t (Poisoned j)) = omega arith in
        let p = g.poison_kept.progress j before in
        let low = p.0 in
        (p.0, λ i below. let inside : i < content_count t = omega arith in u.content i inside ∙ p.1 i below);
    quarantine = λ q i below. u.content i below ∙ g.poison_kept.quarantine (rw u.word at q) i below;
  };
  content_kept = record {
    clean = λ h.
        let e = u.state Clean in
        let before : 0 < total (OwnAs t Clean) = omega arith in
        let same = g.content_kept.clean before in
        (same.0, λ i low below. u.content i below ∙ same.1 i low below);
    shared = λ a c h.
        let e = u.state a in
        let before : 0 < total (OwnAs t a) = omega arith in
        elim (g.content_kept.shared a (rw u.word at c) before) [
          | inl k ↦ inl k
          | inr p ↦ inr (p.0, p.1, p.2, λ i low below. u.content i below ∙ p.3 i low below)
        ];
  };
  seal_kept = λ h. rw u.word (g.seal_kept (rw u.seal at h));
}

-- an untouched title that is held after was held before, by the same sums
pub untouched_held : (words : List ℕ) (total : Thing → ℕ) (words_after : List ℕ) (after : Thing → ℕ) (t : Title) →
    IsUntouched words total words_after after t → IsTitleHeld after t → IsTitleHeld total t
untouched_held words total words_after after t u held =
    let a = u.free in let b = u.own in let c = u.ref in omega arith

-- a core is good if its bytes are divided well, and each held title was good and is untouched, or is good
pub good_by : (words : List ℕ) (total : Thing → ℕ) (words_after : List ℕ) (after : Thing → ℕ) →
    IsGood words total → IsDivided (length words_after) after →
    ((t : Title) → IsTitleHeld after t → IsUntouched words total words_after after t ⊎ IsTitleGood words_after after t) →
    IsGood words_after after
good_by words total words_after after g divided each = record {
  divided = divided;
  counted = λ t held. (good t held).counted;
  poison_kept = λ t held. (good t held).poison_kept;
  content_kept = λ t held. (good t held).content_kept;
  seal_kept = λ t held. (good t held).seal_kept;
}
  where
    good : (t : Title) → IsTitleHeld after t → IsTitleGood words_after after t
    good t held = elim (each t held) [
      | inl u ↦ untouched_good words total words_after after t
          (title_of_good words total t g (untouched_held words total words_after after t u held)) u
      | inr k ↦ k
    ]

-- the division of the bytes goes over if the same bytes are raw and the same titles are held
pub divided_same : (n : ℕ) (total after : Thing → ℕ) → IsDivided n total →
    ((b : ℕ) → after (RawByte b) ≡ total (RawByte b)) →
    ((t : Title) → IsTitleHeld total t → IsTitleHeld after t) →
    ((t : Title) → IsTitleHeld after t → IsTitleHeld total t) → IsDivided n after
divided_same n total after d raw forth back = record {
  bytes = λ b below. elim (d.bytes b below) [
    | inl r ↦ inl (raw b ∙ r.0, λ t held covers. r.1 t (back t held) covers)
    | inr r ↦ inr (raw b ∙ r.0, (r.1.0, forth r.1.0 r.1.1, r.1.2))
  ];
  outside = λ b past. raw b ∙ d.outside b past;
  well = λ t held. d.well t (back t held);
  apart = λ t u b held other. d.apart t u b (back t held) (back u other);
}

-- the word q of the region is one of the title's words
abbrev pub IsWordOf : Title → ℕ → Type 0
IsWordOf t q = (t.start / 8 ≤ q) × (q ≤ count_place t)

pub word_covered : (n : ℕ) (t : Title) (q : ℕ) → IsWellFormed n t → IsWordOf t q → Covers t (8 * q)
word_covered n t q well within =
    let a = well.start_aligned in let b = well.len_aligned in let c = well.long in (omega arith, omega arith)

-- a word of one held title is no word of another
pub apart_words : (n : ℕ) (total : Thing → ℕ) (t u : Title) (q : ℕ) → IsDivided n total → IsTitleHeld total t → IsTitleHeld total u →
    (t ≡ u → ⊥) → IsWordOf t q → IsWordOf u q → ⊥
apart_words n total t u q d held other ne within inside =
    ne (d.apart t u (8 * q) held other (word_covered n t q (d.well t held) within) (word_covered n u q (d.well u other) inside))

-- a title is untouched by a write to a word that isn't its own, if its handles stay
pub untouched_by_write : (words : List ℕ) (total after : Thing → ℕ) (u : Title) (p v : ℕ) → (IsWordOf u p → ⊥) →
    after (FreeTitle u) ≡ total (FreeTitle u) → after (OwnOf u) ≡ total (OwnOf u) → after (RefOf u) ≡ total (RefOf u) →
    after (SealedOwn u) ≡ total (SealedOwn u) →
    ((a : OwnState) → after (OwnAs u a) ≡ total (OwnAs u a)) → IsUntouched words total (set words p v) after u
untouched_by_write words total after u p v away free own ref seal state = record {
  free = free;
  own = own;
  ref = ref;
  seal = seal;
  state = state;
  word = get_or-set_other words p (count_place u) v 0 (λ e. away (omega arith, omega arith));
  content = λ i below. get_or-set_other words p (content_place u i) v 0 (λ e. away (omega arith, omega arith));
}

-- the pieces are none of the title's
pub record IsNoneOf (ps : List Piece) (u : Title) : Type 0 where
  pub free : held_in ps (FreeTitle u) ≡ 0
  pub own : held_in ps (OwnOf u) ≡ 0
  pub ref : held_in ps (RefOf u) ≡ 0
  pub seal : held_in ps (SealedOwn u) ≡ 0
  pub state : (a : OwnState) → held_in ps (OwnAs u a) ≡ 0

pub nil_none : (u : Title) → IsNoneOf [] u
nil_none u = record { free = refl; own = refl; ref = refl; seal = refl; state = λ a. refl }

pub raw_none : (start len : ℕ) (u : Title) → IsNoneOf (RawPiece start len ∷ []) u
raw_none start len u = record { free = refl; own = refl; ref = refl; seal = refl; state = λ a. refl }

pub free_none : (t u : Title) → (t ≡ u → ⊥) → IsNoneOf (FreePiece t ∷ []) u
free_none t u ne = elim (title_tells t u) [
  | inl y ↦ absurd (ne y.1)
  | inr n ↦ record { free = rw n.0 refl; own = refl; ref = refl; seal = refl; state = λ a. refl }
]

pub own_none : (sealed : Bool) (t u : Title) (s : OwnState) → (t ≡ u → ⊥) → IsNoneOf (OwnPiece sealed t s ∷ []) u
own_none sealed t u s ne = elim (title_tells t u) [
  | inl y ↦ absurd (ne y.1)
  | inr n ↦ record { free = refl; own = rw n.0 refl; ref = refl; seal = rw n.0 refl; state = λ a. rw n.0 refl }
]

pub ref_none : (t u : Title) → (t ≡ u → ⊥) → IsNoneOf (RefPiece t ∷ []) u
ref_none t u ne = elim (title_tells t u) [
  | inl y ↦ absurd (ne y.1)
  | inr n ↦ record { free = refl; own = refl; ref = rw n.0 refl; seal = refl; state = λ a. refl }
]

-- all things are held as before, but for what is lost and gained
abbrev pub Changes : (Thing → ℕ) → List Piece → List Piece → (Thing → ℕ) → Type 0
Changes total lost gained after = (x : Thing) → after x + held_in lost x ≡ total x + held_in gained x

-- A change at one title: what is lost and gained is the title's alone and no raw byte, and one of its words is written.
pub record IsChangeAt (words : List ℕ) (total : Thing → ℕ) (after : Thing → ℕ) (t : Title) (lost gained : List Piece) (p : ℕ) : Type 0 where
  pub changes : Changes total lost gained after
  pub lost_here : (u : Title) → (t ≡ u → ⊥) → IsNoneOf lost u
  pub gained_here : (u : Title) → (t ≡ u → ⊥) → IsNoneOf gained u
  pub no_raw_lost : (b : ℕ) → held_in lost (RawByte b) ≡ 0
  pub no_raw_gained : (b : ℕ) → held_in gained (RawByte b) ≡ 0
  pub place : IsWordOf t p

-- another title is untouched by it
pub change_untouched : (words : List ℕ) (total after : Thing → ℕ) (t : Title) (lost gained : List Piece) (p v : ℕ) →
    IsDivided (length words) total → IsTitleHeld total t → IsChangeAt words total after t lost gained p →
    (u : Title) → (t ≡ u → ⊥) → IsTitleHeld total u → IsUntouched words total (set words p v) after u
change_untouched words total after t lost gained p v d held c u ne other =
    untouched_by_write words total after u p v
    (λ within. apart_words (length words) total t u p d held other ne c.place within)
    (let a = c.changes (FreeTitle u) in let l = (c.lost_here u ne).free in let g = (c.gained_here u ne).free in omega arith)
    (let a = c.changes (OwnOf u) in let l = (c.lost_here u ne).own in let g = (c.gained_here u ne).own in omega arith)
    (let a = c.changes (RefOf u) in let l = (c.lost_here u ne).ref in let g = (c.gained_here u ne).ref in omega arith)
    (let a = c.changes (SealedOwn u) in let l = (c.lost_here u ne).seal in let g = (c.gained_here u ne).seal in omega arith)
    (λ s. let a = c.changes (OwnAs u s) in let l = (c.lost_here u ne).state s in let g = (c.gained_here u ne).state s in omega arith)

-- another title is held after it exactly when it was held before
pub change_held : (words : List ℕ) (total after : Thing → ℕ) (t : Title) (lost gained : List Piece) (p : ℕ) →
    IsChangeAt words total after t lost gained p → (u : Title) → (t ≡ u → ⊥) →
    after (FreeTitle u) + after (OwnOf u) + after (RefOf u) ≡ total (FreeTitle u) + total (OwnOf u) + total (RefOf u)
change_held words total after t lost gained p c u ne =
    let l = c.lost_here u ne in
    let g = c.gained_here u ne in
    let a = c.changes (FreeTitle u) in
    let b = c.changes (OwnOf u) in
    let d = c.changes (RefOf u) in
    let l1 = l.free in let l2 = l.own in let l3 = l.ref in
    let g1 = g.free in let g2 = g.own in let g3 = g.ref in
    omega arith

-- the core stays good if the title itself does, which is held before and after
pub change_good : (words : List ℕ) (total after : Thing → ℕ) (t : Title) (lost gained : List Piece) (p v : ℕ) →
    IsGood words total → IsTitleHeld total t → IsTitleHeld after t → IsChangeAt words total after t lost gained p →
    IsTitleGood (set words p v) after t → IsGood (set words p v) after
change_good words total after t lost gained p v g held stays c good =
    good_by words total (set words p v) after g
    (rw (length-set words p v) (divided_same (length words) total after g.divided
    (λ b. let a = c.changes (RawByte b) in let l = c.no_raw_lost b in let k = c.no_raw_gained b in omega arith)
    (λ u other. elim (title_tells t u) [
      | inl y ↦ subst (λ (x : Title). IsTitleHeld after x) y.1 stays
      | inr n ↦ let e = change_held words total after t lost gained p c u n.1 in omega arith
    ])
    (λ u other. elim (title_tells t u) [
      | inl y ↦ subst (λ (x : Title). IsTitleHeld total x) y.1 held
      | inr n ↦ let e = change_held words total after t lost gained p c u n.1 in omega arith
    ])))
    (λ u other. elim (title_tells t u) [
      | inl y ↦ inr (subst (λ (x : Title). IsTitleGood (set words p v) after x) y.1 good)
      | inr n ↦ inl (change_untouched words total after t lost gained p v g.divided held c u n.1
          (let e = change_held words total after t lost gained p c u n.1 in omega arith))
    ])
