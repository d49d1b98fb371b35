-- The core goes on showing the ledger when one title changes and the ledger with it.
use Rattle.std.proofs.Common.{◌≡◌, ℕ, ◌+◌, ◌*◌, ◌<◌, Bool, true, false, if◌then◌else◌, List, [], ◌∷◌, length, get_or, refl, sym, ◌∙◌, ap, subst, arith, ◌⊎◌, inl, inr}
use Rattle.std.proofs.lemmas.Bool.{cases_eq}
use Rattle.std.proofs.lemmas.List.Sums.{sum_by-le-sum_by}
use Rattle.pa_slot.specs.declared.word.SlotName.{SlotName}
use Rattle.pa_slot.specs.declared.title.Title.{Title}
use Rattle.pa_slot.specs.declared.title.OwnState.{OwnState}
use Rattle.pa_slot.specs.declared.title.OwnState.TheVariants.{Clean}
use Rattle.pa_slot.specs.Titles.{count_word, HasContentFrom}
use Rattle.pa_slot.specs.Holdings.{Piece, FreePiece, OwnPiece, RefPiece, RawByte, FreeTitle, OwnOf, OwnAs, SealedOwn, RefOf, IsTitleHeld, one, amount, held_in}
use Rattle.pa_machine.specs.Events.{State, Holds, IsSealedAs, Exchanges, held_by, total_of, of_actor, returned_at}
use Rattle.pa_machine.specs.Trail.{IsGoodState}
use Rattle.pa_slot.proofs.Same.{title_tells, state_tells}
use Rattle.pa_machine.proofs.Totals.{tally_of, amount_part, of_actor_here, of_actor_apart}
use Rattle.pa_machine.proofs.Happening.{sealed_or_not}
use Rattle.pa_machine.proofs.Parts.{IsUntouched, untouched_held, IsNoneOf, nil_none, free_none, own_none, ref_none}
use Rattle.pa_machine.proofs.Amounts.{state_apart, own_self, seal_self, returned_cases}
use Rattle.pa_machine.proofs.Keeps.{own_of_state}
use Rattle.pa_record.specs.Spans.{name_of}
use Rattle.pa_core_run.specs.Ledger.{Ledger, Titles, AreSealed, IsShown, IsPaid}

-- two titles that are held at once and have one name are one
pub one_named : (s : State) (t u : Title) → IsGoodState s → IsTitleHeld (total_of s) t → IsTitleHeld (total_of s) u →
    name_of t ≡ name_of u → t ≡ u
one_named s t u good held other same =
    let a = (good.divided.well t held).long in
    let b = (good.divided.well u other).long in
    let e : t.start ≡ u.start = ap (λ (x : SlotName). x.start) same in
    good.divided.apart t u t.start held other (omega arith, omega arith) (omega arith, omega arith)

-- ---- pieces of one title

-- the piece of an Own between two records: clean, and sealed if the Boolean is true
abbrev pub own_piece : Bool → Title → Piece
own_piece sealed t = OwnPiece sealed t Clean

-- where no Own is none is sealed, and one Own is sealed if it is to be
none_sealed : (plain : Bool) (seals owns : ℕ) → seals ≡ 0 → owns ≡ 0 → seals ≡ (if plain then owns else 0)
none_sealed true seals owns a b = omega arith
none_sealed false seals owns a b = a

one_sealed : (plain : Bool) (seals owns : ℕ) → seals ≡ one plain → owns ≡ 1 → seals ≡ (if plain then owns else 0)
one_sealed true seals owns a b = omega arith
one_sealed false seals owns a b = a

-- pieces among which no Own is
pub no_seals : (plain : Title → Bool) (ps : List Piece) → ((u : Title) → held_in ps (SealedOwn u) ≡ 0) →
    ((u : Title) → held_in ps (OwnOf u) ≡ 0) → AreSealed plain (held_in ps)
no_seals plain ps seals owns u = none_sealed (plain u) (held_in ps (SealedOwn u)) (held_in ps (OwnOf u)) (seals u) (owns u)

-- what one actor has is sealed rightly if the pieces that it gets are, and the others get nothing
pub seals_of : (plain : Title → Bool) (actor k : ℕ) (ps : List Piece) → AreSealed plain (held_in ps) →
    AreSealed plain (held_in (of_actor actor ps k))
seals_of plain actor k ps are = elim (cases_eq k actor) [
  | inl e ↦ subst (λ j. AreSealed plain (held_in (of_actor actor ps j))) (sym e)
      (λ u. of_actor_here actor ps (SealedOwn u)
      ∙ (are u ∙ ap (λ n. if plain u then n else 0) (sym (of_actor_here actor ps (OwnOf u)))))
  | inr ne ↦ no_seals plain (of_actor actor ps k) (λ u. of_actor_apart actor k ps (SealedOwn u) ne)
      (λ u. of_actor_apart actor k ps (OwnOf u) ne)
]

-- the pieces are this title's alone: free, owned clean by an Own that is sealed exactly if the title is plain, or pointed to
pub record ArePieces (plain : Title → Bool) (t : Title) (ps : List Piece) : Type 0 where
  pub others : (u : Title) → (t ≡ u → ⊥) → IsNoneOf ps u
  pub raw : (b : ℕ) → held_in ps (RawByte b) ≡ 0
  pub clean : (a : OwnState) → 0 < held_in ps (OwnAs t a) → a ≡ Clean
  pub sealed : AreSealed plain (held_in ps)

pub no_pieces : (plain : Title → Bool) (t : Title) → ArePieces plain t []
no_pieces plain t = record {
  others = λ u ne. nil_none u;
  raw = λ b. refl;
  clean = λ a some. absurd (omega arith);
  sealed = no_seals plain [] (λ u. refl) (λ u. refl);
}

pub free_pieces : (plain : Title → Bool) (t : Title) → ArePieces plain t (FreePiece t ∷ [])
free_pieces plain t = record {
  others = free_none t;
  raw = λ b. refl;
  clean = λ a some. absurd (omega arith);
  sealed = no_seals plain (FreePiece t ∷ []) (λ u. refl) (λ u. refl);
}

pub ref_pieces : (plain : Title → Bool) (t : Title) → ArePieces plain t (RefPiece t ∷ [])
ref_pieces plain t = record {
  others = ref_none t;
  raw = λ b. refl;
  clean = λ a some. absurd (omega arith);
  sealed = no_seals plain (RefPiece t ∷ []) (λ u. refl) (λ u. refl);
}

pub own_pieces : (plain : Title → Bool) (t : Title) → ArePieces plain t (own_piece (plain t) t ∷ [])
own_pieces plain t = record { others = λ u ne. own_none (plain t) t u Clean ne; raw = λ b. refl; clean = clean; sealed = sealed }
  where
    clean : (a : OwnState) → 0 < held_in (own_piece (plain t) t ∷ []) (OwnAs t a) → a ≡ Clean
    clean a some = elim (state_tells Clean a) [
      | inl y ↦ sym y.1
      | inr n ↦ absurd (let e = state_apart (plain t) t Clean a n.1 in omega arith)
    ]

    sealed : AreSealed plain (held_in (own_piece (plain t) t ∷ []))
    sealed u = elim (title_tells t u) [
      | inl y ↦ subst (λ (v : Title). held_in (own_piece (plain t) t ∷ []) (SealedOwn v) ≡ (if plain v then held_in
          (own_piece (plain t) t ∷ []) (OwnOf v) else 0)) y.1
          (one_sealed (plain t) _ _ (seal_self (plain t) t Clean) (own_self (plain t) t Clean))
      | inr n ↦
          let none = own_none (plain t) t u Clean n.1 in
          none_sealed (plain u) _ _ none.seal none.own
    ]

pub returned_pieces : (plain : Title → Bool) (w : ℕ) (t : Title) → ArePieces plain t (returned_at w t)
returned_pieces plain w t = elim (returned_cases w t) [
  | inl y ↦ rw y.1 (free_pieces plain t)
  | inr n ↦ rw n.1 (no_pieces plain t)
]

-- what an actor has stays sealed rightly if what it loses and what it gains is
seals_left : (plain : Bool) (had has seals_lost lost seals_gained gained seals_had seals_has : ℕ) →
    seals_had ≡ (if plain then had else 0) → seals_lost ≡ (if plain then lost else 0) → seals_gained ≡ (if plain then gained else 0) →
    seals_has + seals_lost ≡ seals_had + seals_gained → has + lost ≡ had + gained → seals_has ≡ (if plain then has else 0)
seals_left true had has seals_lost lost seals_gained gained seals_had seals_has a l g seals owns = omega arith
seals_left false had has seals_lost lost seals_gained gained seals_had seals_has a l g seals owns = omega arith

-- a clean Own that an actor has is sealed exactly if its title is plain
pub own_sealed : (names : Titles) (actors bytes : ℕ) (b : Ledger) (s : State) → IsShown names actors bytes b s → (k : ℕ) (t : Title) →
    k < actors → Holds s k (OwnAs t Clean) → IsSealedAs s k t (names.plain t)
own_sealed names actors bytes b s h k t below own =
    let (sealed, is) = sealed_or_not s k t Clean h.good own in
    let part = sum_by-le-sum_by (amount (OwnAs t Clean)) (amount (OwnOf t)) (get_or s.holdings k []) (amount_part t Clean) in
    subst (λ seal. IsSealedAs s k t seal) (same (names.plain t) sealed _ _ (h.sealed k below t) is (omega arith)) is
  where
    same : (plain sealed : Bool) (seals owns : ℕ) → seals ≡ (if plain then owns else 0) → seals ≡ one sealed → 0 < owns → sealed ≡ plain
    same true true seals owns a b some = refl
    same true false seals owns a b some = absurd (omega arith)
    same false true seals owns a b some = absurd (omega arith)
    same false false seals owns a b some = refl

-- ---- one title changes

-- What a change at one title leaves: the others are untouched.
pub record IsChangeOf (s : State) (t : Title) (after : State) : Type 0 where
  pub good : IsGoodState after
  pub many : length after.holdings ≡ length s.holdings
  pub long : length after.words ≡ length s.words
  pub others : (u : Title) → (t ≡ u → ⊥) → IsTitleHeld (total_of after) u → IsUntouched s.words (total_of s) after.words (total_of after) u

-- the ledger of another title that is held
other_name : (s after : State) (t u : Title) → IsGoodState s → IsTitleHeld (total_of s) t ⊎ IsTitleHeld (total_of after) t
    → IsChangeOf s t after → (t ≡ u → ⊥) → IsTitleHeld (total_of after) u → name_of u ≡ name_of t → ⊥
other_name s after t u good (inl held) c ne other same =
    let before = untouched_held s.words (total_of s) after.words (total_of after) u (c.others u ne other) other in
    ne (one_named s t u good held before (sym same))
other_name s after t u good (inr held) c ne other same = ne (one_named after t u c.good held other (sym same))

pub shown_after : (names next_names : Titles) (actors bytes : ℕ) (b next : Ledger) (s after : State) (t : Title)
    (lost gained : ℕ → List Piece) (word : ℕ) →
    IsShown names actors bytes b s → ((u : Title) → next_names.Made u → names.Made u) →
    ((u : Title) → next_names.plain u ≡ names.plain u) →
    IsTitleHeld (total_of s) t ⊎ IsTitleHeld (total_of after) t → IsChangeOf s t after →
    Exchanges s.holdings lost gained after.holdings → IsPaid names.Made b next lost gained t word →
    ((u : Title) → next_names.Kept u → Holds after 0 (FreeTitle u)) →
    (IsTitleHeld (total_of after) t → count_word after.words t ≡ word) →
    (0 < total_of after (OwnAs t Clean) → HasContentFrom after.words t 0 (next.content (name_of t))) →
    ((a : OwnState) → 0 < total_of after (OwnAs t a) → a ≡ Clean) →
    ((k : ℕ) (byte : ℕ) → 0 < k → k < actors → held_in (gained k) (RawByte byte) ≡ 0) →
    ((k : ℕ) → AreSealed names.plain (held_in (lost k))) → ((k : ℕ) → AreSealed names.plain (held_in (gained k))) →
    ((u : Title) → (t ≡ u → ⊥) → names.There u → next_names.There u) →
    (IsTitleHeld (total_of after) t → next_names.There t) →
    IsShown next_names actors bytes next after
shown_after names next_names actors bytes b next s after t lost gained word h made plain held c ex paid kept word_is content clean no_raw
    lost_seals gained_seals stays there = record {
      good = c.good;
      many = c.many ∙ h.many;
      long = ap (λ n. 8 * n) c.long ∙ h.long;
      own = λ k u below m. let hm = h.many in let a = h.own k u below (made u m) in let p = paid.own k u (made u m) in
          let e = ex.1 k (OwnOf u) (omega arith) in omega arith;
      ref = λ k u below m. let hm = h.many in let a = h.ref k u below (made u m) in let p = paid.ref k u (made u m) in
          let e = ex.1 k (RefOf u) (omega arith) in omega arith;
      free = λ k u some below m. let hm = h.many in let a = h.free k u some below (made u m) in let p = paid.free k u some (made u m) in
          let e = ex.1 k (FreeTitle u) (omega arith) in omega arith;
      kept = kept;
      words = λ u other. elim (title_tells t u) [
        | inl y ↦ subst (λ (v : Title). count_word after.words v ≡ next.word (name_of v)) y.1
            (word_is (subst (λ (v : Title). IsTitleHeld (total_of after) v) (sym y.1) other) ∙ sym paid.word_left)
        | inr n ↦
            let untouched = c.others u n.1 other in
            untouched.word ∙ (h.words u (untouched_held s.words (total_of s) after.words (total_of after) u untouched other)
            ∙ sym (paid.words (name_of u) (other_name s after t u h.good held c n.1 other)))
      ];
      contents = λ u some. elim (title_tells t u) [
        | inl y ↦ subst (λ (v : Title). HasContentFrom after.words v 0 (next.content (name_of v))) y.1
            (content (subst (λ (v : Title). 0 < total_of after (OwnAs v Clean)) (sym y.1) some))
        | inr n ↦
            let p = own_of_state (total_of after) u Clean (tally_of after.holdings) some in
            let other : IsTitleHeld (total_of after) u = omega arith in
            let untouched = c.others u n.1 other in
            let e = untouched.state Clean in
            let had = h.contents u (omega arith) in
            let same = paid.contents (name_of u) (other_name s after t u h.good held c n.1 other) in
            λ i low inside. untouched.content i inside ∙ (had i low inside ∙ sym same)
      ];
      clean = λ u a some. elim (title_tells t u) [
        | inl y ↦ clean a (subst (λ (v : Title). 0 < total_of after (OwnAs v a)) (sym y.1) some)
        | inr n ↦
            let p = own_of_state (total_of after) u a (tally_of after.holdings) some in
            let other : IsTitleHeld (total_of after) u = omega arith in
            let e = (c.others u n.1 other).state a in
            h.clean u a (omega arith)
      ];
      sealed = λ k below u.
          let hm = h.many in
          let seals = ex.1 k (SealedOwn u) (omega arith) in
          let owns = ex.1 k (OwnOf u) (omega arith) in
          subst (λ p. held_by after k (SealedOwn u) ≡ (if p then held_by after k (OwnOf u) else 0)) (sym (plain u))
          (seals_left (names.plain u) (held_by s k (OwnOf u)) (held_by after k (OwnOf u)) _ _ _ _ _ _ (h.sealed k below u)
          (lost_seals k u) (gained_seals k u) seals owns);
      raw = λ k byte some below. let hm = h.many in let a = h.raw k byte some below in let z = no_raw k byte some below in
          let e = ex.1 k (RawByte byte) (omega arith) in omega arith;
      there = λ u other. elim (title_tells t u) [
        | inl y ↦ subst next_names.There y.1 (there (subst (λ (v : Title). IsTitleHeld (total_of after) v) (sym y.1) other))
        | inr n ↦ stays u n.1 (h.there u (untouched_held s.words (total_of s) after.words (total_of after) u (c.others u n.1 other) other))
      ];
    }
