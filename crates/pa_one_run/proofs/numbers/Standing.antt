-- What holds of a slot's numbers beside the caches, and how it goes on holding when entries, caches and the slot's word change.
use Rattle.std.proofs.Common.{◌≡◌, ℕ, ◌+◌, ◌<◌, ◌⊎◌, Bool, true, false, not, List, [], ◌∷◌, ◌++◌, Option, refl, sym, ◌∙◌, ap, subst, arith, inl, inr}
use Rattle.std.specs.Prelude.{Contains, ◌==◌}
use Rattle.std.proofs.lemmas.Bool.{cases_lt, cases_eq, ne_eqb, both_ways}
use Rattle.std.proofs.lemmas.List.{append-nil}
use Rattle.pa_slot.specs.declared.word.SlotName.{SlotName}
use Rattle.pa_record.specs.declared.numbered.Numbered.{Numbered}
use Rattle.pa_record.specs.declared.root.RootAct.{RootAct}
use Rattle.pa_record.specs.declared.root.RootAct.TheVariants.{Fill}
use Rattle.pa_rules.specs.Holders.{Out, Way}
use Rattle.pa_one_run.proofs.numbers.Ways.{ways_in, ways_of, away_after, is_away, ways_append, away_append, ways_in_none, ways_in_some, out_away}

-- Slot s, whose word has the number n, beside what its partition's entries did.
--   listed: where it is listed it has that number, at which it is away
--   later: no entry named it at a later number
--   gone: it is away at each earlier number
pub record AreNumbered (acts : List RootAct) (s : SlotName) (n : ℕ) (Listed : Numbered → Type 0) : Type 0 where
  pub listed : (m : Numbered) → Listed m → (m.number ≡ n) × (is_away acts s n ≡ true)
  pub later : (k : ℕ) → n < k → ways_of s k acts ≡ []
  pub gone : (k : ℕ) → k < n → is_away acts s k ≡ true

away_unnamed : (acts : List RootAct) (s : SlotName) (k : ℕ) → (k ≡ 0 → ⊥) → ways_of s k acts ≡ [] → is_away acts s k ≡ true
away_unnamed acts s k some none = rw (none, ne_eqb k 0 some) refl

-- a slot that is numbered is in the root at no number but its own
pub root_number : (acts : List RootAct) (s : SlotName) (n k : ℕ) (Listed : Numbered → Type 0) → AreNumbered acts s n Listed →
    is_away acts s k ≡ false → k ≡ n
root_number acts s n k Listed are root = elim (cases_eq k n) [
  | inl e ↦ e
  | inr other ↦ elim (cases_lt k n) [
    | inl less ↦ absurd (both_ways _ root (are.gone k less))
    | inr from ↦ absurd (both_ways _ root (away_unnamed acts s k (λ e. omega arith) (are.later k (omega arith))))
  ]
]

away_more : (acts more : List RootAct) (s : SlotName) (k : ℕ) →
    is_away (acts ++ more) s k ≡ away_after (is_away acts s k) (ways_of s k more)
away_more acts more s k = ap (away_after (not (k == 0))) (ways_append s k acts more) ∙
    away_append (not (k == 0)) (ways_of s k acts) (ways_of s k more)

-- entries that don't name it at a number
ways_still : (acts more : List RootAct) (s : SlotName) (k : ℕ) → ways_of s k more ≡ [] → ways_of s k (acts ++ more) ≡ ways_of s k acts
ways_still acts more s k none = ways_append s k acts more ∙ ap (λ ws. ways_of s k acts ++ ws) none ∙ append-nil (ways_of s k acts)

away_still : (acts more : List RootAct) (s : SlotName) (k : ℕ) → ways_of s k more ≡ [] → is_away acts s k ≡ true →
    is_away (acts ++ more) s k ≡ true
away_still acts more s k none away = ap (away_after (not (k == 0))) (ways_still acts more s k none) ∙ away

module _ (acts more : List RootAct) (s : SlotName) (n : ℕ) (Listed Next : Numbered → Type 0) (are : AreNumbered acts s n Listed) where
  -- fewer are listed
  pub fewer : ((m : Numbered) → Next m → Listed m) → AreNumbered acts s n Next
  fewer old = record { listed = λ m stands. are.listed m (old m stands); later = are.later; gone = are.gone }

  -- no entry names it, and it is listed where it was
  pub still : ((k : ℕ) → ways_of s k more ≡ []) → ((m : Numbered) → Next m → Listed m) → AreNumbered (acts ++ more) s n Next
  still none old = record {
    listed = λ m stands. let (number, away) = are.listed m (old m stands) in (number, away_still acts more s n (none n) away);
    later = λ k more'. ways_still acts more s k (none k) ∙ are.later k more';
    gone = λ k less. away_still acts more s k (none k) (are.gone k less);
  }

  -- it is given back where it was listed, and listed nowhere then
  pub gives : (back : Numbered → Type 0) → ((k : ℕ) → ((m : Numbered) → back m → m.slot ≡ s → m.number ≡ k → ⊥) → ways_of s k more ≡ [])
      → ((m : Numbered) → back m → m.slot ≡ s → Listed m) → ((m : Numbered) → Next m → Listed m)
      → ((m : Numbered) → back m → m.slot ≡ s → ⊥) ⊎ ((m : Numbered) → Next m → ⊥) → AreNumbered (acts ++ more) s n Next
  gives back named stood old (inl unnamed) = still (λ k. named k (λ m is same number. unnamed m is same)) old
  gives back named stood old (inr nowhere) =
      let other : (k : ℕ) → (k ≡ n → ⊥) → ways_of s k more ≡ [] =
      λ k ne. named k (λ m is same number. ne (sym number ∙ (are.listed m (stood m is same)).0)) in
      record {
        listed = λ m stands. absurd (nowhere m stands);
        later = λ k more'. ways_still acts more s k (other k (λ e. omega arith)) ∙ are.later k more';
        gone = λ k less. away_still acts more s k (other k (λ e. omega arith)) (are.gone k less);
      }

  -- a step was made at the number, at which it is away: it is listed at the next number, or not at all
  pub steps : is_away acts s n ≡ true → ((m : Numbered) → Next m → m.number ≡ n + 1) → AreNumbered acts s (n + 1) Next
  steps away new = record {
    listed = λ m stands. (new m stands, away_unnamed acts s (n + 1) (λ e. omega arith) (are.later (n + 1) (omega arith)));
    later = λ k more'. are.later k (omega arith);
    gone = λ k less. elim (cases_eq k n) [
      | inl e ↦ subst (λ z. is_away acts s z ≡ true) (sym e) away
      | inr other ↦ are.gone k (omega arith)
    ];
  }

out_some : (b : Bool) (ws vs : List Way) → ws ≡ Out ∷ vs → away_after true ws ≡ true → away_after b ws ≡ true
out_some b ws vs is away = let away' : away_after true vs ≡ true = rw is at away in rw is away'

-- a fill takes slots that are in the root
pub filled : (acts more : List RootAct) (s : SlotName) (n class : ℕ) (asked : Option ℕ) (slots : List Numbered)
    (Listed Next : Numbered → Type 0) → AreNumbered acts s n Listed →
    more ≡ Fill class asked slots ∷ [] → ((m : Numbered) → Contains slots m → m.slot ≡ s → is_away acts s m.number ≡ false) →
    ((m : Numbered) → Next m → Listed m ⊎ (Contains slots m × (m.slot ≡ s))) → AreNumbered (acts ++ more) s n Next
filled acts more s n class asked slots Listed Next are only root new =
    let number : (m : Numbered) → Contains slots m → m.slot ≡ s →
    m.number ≡ n = λ m among same. root_number acts s n m.number Listed are (root m among same) in
    let ways : (k : ℕ) → ways_of s k more ≡ ways_in Out s k slots = λ k. ap (ways_of s k) only ∙ append-nil (ways_in Out s k slots) in
    let other : (k : ℕ) → (k ≡ n → ⊥) → ways_of s k more ≡ [] = λ k ne. ways k ∙
    ways_in_none Out s k slots (λ m among same is. ne (sym is ∙ number m among same)) in
    let after : is_away (acts ++ more) s n ≡ away_after (is_away acts s n) (ways_in Out s n slots) = away_more acts more s n ∙
    ap (away_after (is_away acts s n)) (ways n) in
    record {
      listed = λ m stands. elim (new m stands) [
        | inl old ↦ let (is, away) = are.listed m old in (is, after ∙ out_away (is_away acts s n) s n slots away)
        | inr (among, same) ↦
            let is = number m among same in
            let (vs, first) = ways_in_some Out s n slots m among same is in
            (is, after ∙ out_some (is_away acts s n) (ways_in Out s n slots) vs first (out_away true s n slots refl))
      ];
      later = λ k more'. ways_still acts more s k (other k (λ e. omega arith)) ∙ are.later k more';
      gone = λ k less. away_still acts more s k (other k (λ e. omega arith)) (are.gone k less);
    }
