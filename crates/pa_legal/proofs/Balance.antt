-- No thread gives a slot back more often than it got it, so each turn finds the holder that it needs.
use Rattle.std.proofs.Common.{◌≡◌, ℕ, ◌+◌, ◌<◌, not, ◌&&◌, cond, List, [], ◌∷◌, ◌++◌, refl, sym, ◌∙◌, ap, subst, arith, inl, inr, append_assoc}
use Rattle.std.specs.Prelude.{◌==◌}
use Rattle.std.proofs.lemmas.Bool.{cases_eq, ne_eqb, true≢false}
use Rattle.std.proofs.lemmas.List.{append-nil}
use Rattle.std.proofs.lemmas.List.Sums.{sum_by_push}
use Rattle.pa_rules.specs.Holders.{Holder, InRoot, WithThread, Way, Out, Back}
use Rattle.pa_legal.specs.Turns.{Turn, is_out, is_with, needs, makes, Alternate, TurnsFit, holder_after, has, takes_of, backs_of, NoneLoses, HoldersBalance}

-- 1 if the numbers are one
abbrev is_one : ℕ → ℕ → ℕ
is_one u t = cond {A = ℕ} (u == t) 1 0

takes_push : (t : ℕ) (us : List Turn) (u : Turn) →
    takes_of t (us ++ u ∷ []) ≡ takes_of t us + cond {A = ℕ} (is_out u.way && (u.thread == t)) 1 0
takes_push t us u = sum_by_push (λ (v : Turn). cond {A = ℕ} (is_out v.way && (v.thread == t)) 1 0) us u

backs_push : (t : ℕ) (us : List Turn) (u : Turn) →
    backs_of t (us ++ u ∷ []) ≡ backs_of t us + cond {A = ℕ} (not (is_out u.way) && (u.thread == t)) 1 0
backs_push t us u = sum_by_push (λ (v : Turn). cond {A = ℕ} (not (is_out v.way) && (v.thread == t)) 1 0) us u

-- what each thread got and gave back so far differs by what it has
abbrev Even : Holder → List Turn → Holder → Type 0
Even h before now = (t : ℕ) → has t h + takes_of t before ≡ backs_of t before + has t now

-- a thread that has the slot is its holder
has_it : (t : ℕ) (h : Holder) → 0 < has t h → h ≡ WithThread t
has_it t InRoot some = absurd (omega arith)
has_it t (WithThread u) some = elim (cases_eq u t) [
  | inl e ↦ ap WithThread e
  | inr other ↦ let none : has t (WithThread u) ≡ 0 = rw (ne_eqb u t other) refl in absurd (omega arith)
]

even_next : (h : Holder) (before : List Turn) (now : Holder) (w : Way) (t : ℕ) → Even h before now → now ≡ needs w t →
    Even h (before ++ record { way = w; thread = t } ∷ []) (makes w t)
even_next h before now Out t even is v =
    let a = even v in
    let b = takes_push v before (record { way = Out; thread = t }) in
    let c = backs_push v before (record { way = Out; thread = t }) in
    let d : has v now ≡ 0 = ap (has v) is in
    omega arith
even_next h before now Back t even is v =
    let a = even v in
    let b = takes_push v before (record { way = Back; thread = t }) in
    let c = backs_push v before (record { way = Back; thread = t }) in
    let d : has v now ≡ is_one t v = ap (has v) is in
    omega arith

module _ (h : Holder) (all : List Turn) (none : NoneLoses h all) where
  needed : (before rest : List Turn) (w : Way) (t : ℕ) (now : Holder) → all ≡ before ++ record { way = w; thread = t } ∷ rest →
      is_with now ≡ not (is_out w) → Even h before now → now ≡ needs w t
  needed before rest Out t InRoot parts away even = refl
  needed before rest Out t (WithThread u) parts away even = absurd (true≢false away)
  needed before rest Back t now parts away even =
      let less = none before rest (record { way = Back; thread = t }) parts refl in
      let a = even t in
      has_it t now (omega arith)

  walk : (before rest : List Turn) (now : Holder) → all ≡ before ++ rest → Alternate (is_with now) rest → Even h before now →
      TurnsFit now rest × Even h all (holder_after now rest)
  walk before [] now parts turns even = (tt, subst (λ us. Even h us now) (sym (parts ∙ append-nil before)) even)
  walk before (u ∷ rest) now parts turns even =
      let is = needed before rest u.way u.thread now parts turns.0 even in
      let away : is_with (makes u.way u.thread) ≡ is_out u.way = with_made u.way u.thread in
      let (fit, last) = walk (before ++ u ∷ []) rest (makes u.way u.thread) (parts ∙ sym (append_assoc before (u ∷ []) rest))
      (subst (λ b. Alternate b rest) (sym away) turns.1)
      (even_next h before now u.way u.thread even is) in
      ((is, fit), last)
    where
      with_made : (w : Way) (t : ℕ) → is_with (makes w t) ≡ is_out w
      with_made Out t = refl
      with_made Back t = refl

pub holders_balance : HoldersBalance
holders_balance h us turns none =
    let (fit, even) = walk h us none [] us h refl turns (λ t. omega arith) in
    (fit, λ t less. let a = even t in has_it t (holder_after h us) (omega arith))
