-- A read keeps the rule, and what its value is.
use Rattle.std.proofs.Common.{◌≡◌, ℕ, ◌+◌, ◌<◌, ◌≤◌, Bool, true, false, ◌&&◌, List, [], ◌∷◌, refl, sym, ◌∙◌, subst, arith, ◌⊎◌, inl, inr, ltb}
use Rattle.std.specs.Prelude.{if◌then◌else◌}
use Rattle.std.specs.List.{sum_by}
use Rattle.std.proofs.lemmas.List.Sums.{sum_by-le-sum_by, sum_by-cons}
use Rattle.std.proofs.lemmas.Bool.{cases_lt, lt-ltb, le-ltb, true≢false}
use mathlib.Core.Option.{some, some-injective}
use lib.ListN.{get_elem?}
use Rattle.pa_slot.specs.declared.title.Title.{Title}
use Rattle.pa_slot.specs.declared.title.OwnState.{OwnState}
use Rattle.pa_slot.specs.declared.title.OwnState.TheVariants.{Clean, Dirty, Poisoned}
use Rattle.pa_slot.specs.Titles.{same_title, same_state, content_count, content_at, count_word, poison}
use Rattle.pa_slot.specs.Holdings.{OwnOf, OwnAs, RefOf, one, IsTitleHeld}
use Rattle.pa_machine.specs.Good.{IsCounted}
use Rattle.pa_machine.specs.Events.{total_of}
use Rattle.pa_region.specs.declared.view.OwnTitle.{OwnTitle}
use Rattle.pa_region.specs.declared.view.View.{View}
use Rattle.pa_region.specs.Views.{held_of_view, byte_words, shown, own_of, own_as, stake_of, stakes_in, least_stake, HasStake}
use Rattle.pa_region.specs.History.{content_of}
use Rattle.pa_region.specs.Rule.{IsKept}
use Rattle.pa_region.specs.Moves.{is_own_of}
use Rattle.pa_region.specs.Waiting.{is_poisoned, is_unclean, poisoned_of, poisoned_apart}
use Rattle.pa_region.specs.Shares.{IsUser}
use Rattle.pa_region.specs.Loads.{has_own, has_unclean}
use Rattle.pa_region.proofs.Adding.{sum_part, first_of, one_lt}
use Rattle.pa_region.proofs.Pieces.{total_sum, held_within, title_held, owns_have, owns_as_have, refs_have, first_own, own_as_own}
use Rattle.pa_region.proofs.Bytes.{held_in_all}
use Rattle.pa_region.proofs.OneRead.{IsWordRead}
use Rattle.pa_region.proofs.OneLog.{some_member, stake_alone}

-- a user's title is held
pub user_in_all : (words : List ℕ) (views : List View) (i : ℕ) (v : View) (t : Title) → get_elem? views i ≡ some v → IsUser t v →
    IsTitleHeld (total_of (shown words views)) t
user_in_all words views i v t at_i has = held_in_all words views i v t at_i (title_held v t (omega arith))

-- an Own is clean, or it isn't
pub clean_or : (t : Title) (os : List OwnTitle) →
    sum_by (λ (o : OwnTitle). one (same_title o.title t)) os ≤
    sum_by (λ (o : OwnTitle). one (same_title o.title t && same_state o.state Clean)) os + sum_by
    (λ (o : OwnTitle). one (same_title o.title t && is_unclean o.state)) os
clean_or t [] = omega arith
clean_or t (o ∷ os) =
    let again = clean_or t os in
    let here = go (same_title o.title t) o.state in
    omega (
      arith,
      sum_by-cons (λ (x : OwnTitle). one (same_title x.title t)) o os,
      sum_by-cons (λ (x : OwnTitle). one (same_title x.title t && same_state x.state Clean)) o os,
      sum_by-cons (λ (x : OwnTitle). one (same_title x.title t && is_unclean x.state)) o os,
    )
  where
    go : (b : Bool) (a : OwnState) → one b ≤ one (b && same_state a Clean) + one (b && is_unclean a)
    go true Clean = omega arith
    go true Dirty = omega arith
    go true (Poisoned j) = omega arith
    go false a = omega arith

-- a test on numbers, as a fact
test_yes : (n : ℕ) → ltb 0 n ≡ true → 0 < n
test_yes n e = elim (cases_lt 0 n) [ inl y ↦ y | inr m ↦ absurd (true≢false (sym e ∙ le-ltb 0 n m)) ]

pub test_no : (n : ℕ) → ltb 0 n ≡ false → n ≡ 0
test_no n e = elim (cases_lt 0 n) [ inl y ↦ absurd (true≢false (sym (lt-ltb 0 n y) ∙ e)) | inr m ↦ omega arith ]

-- a view that has an Own in a poisoned state has it poisoned
pub as_poisoned : (v : View) (t : Title) (j : ℕ) → own_as v t (Poisoned j) ≤ poisoned_of v t
as_poisoned v t j =
    sum_by-le-sum_by (λ (o : OwnTitle). one (same_title o.title t && same_state o.state (Poisoned j)))
    (λ (o : OwnTitle). one (same_title o.title t && is_poisoned o.state)) v.owns
    (λ o. go (same_title o.title t) o.state)
  where
    go : (b : Bool) (a : OwnState) → one (b && same_state a (Poisoned j)) ≤ one (b && is_poisoned a)
    go true Clean = omega arith
    go true Dirty = omega arith
    go true (Poisoned k) = small (same_state (Poisoned k) (Poisoned j))
      where
        small : (c : Bool) → one c ≤ 1
        small true = omega arith
        small false = omega arith
    go false a = omega arith

-- the Own of a title that is live, in the view that has it
pub live_own : (words : List ℕ) (views : List View) (t : Title) → 0 < total_of (shown words views) (OwnOf t) →
    (j : ℕ) × (u : View) × (get_elem? views j ≡ some u) × (0 < own_of u t) × ((a : OwnState) × (0 < held_of_view u (OwnAs t a)))
live_own words views t some_own =
    let s = total_sum words views (OwnOf t) in
    let m = some_member (λ u. held_of_view u (OwnOf t)) views (omega arith) in
    let h = m.3 in
    let o = owns_have m.1 t in
    let has : 0 < own_of m.1 t = omega arith in
    let first = first_of (is_own_of t) m.1.owns has in
    (m.0, m.1, m.2, has, (first.0.state, first_own t m.1 first.0 first.1))

-- What a content word is to a view that uses its title. If the title is quarantined it is poison. Through a clean Own it is the
-- content. Through a Ref it is the content, or poison while the Own is poisoned elsewhere.
pub word_read : (words : List ℕ) (views : List View) (i : ℕ) (v : View) (t : Title) (place : ℕ) (k : IsKept words views) →
    get_elem? views i ≡ some v → IsUser t v →
    HasStake v → place < content_count t →
    IsWordRead (k.history t) (count_word (byte_words words) t) (content_at (byte_words words) t place) (has_own v t) (has_unclean v t)
    (poisoned_apart views t (least_stake v.stakes))
word_read words views i v t place k at_i has stake below = record {
  freed = λ low.
      let p = counted.owns in let q = counted.refs in
      let o = owns_have v t in let r = refs_have v t in
      let ow = held_within words views i v at_i (OwnOf t) in let rw1 = held_within words views i v at_i (RefOf t) in
      (k.holders.good.poison_kept t held).quarantine (low, omega arith) place below;
  own = λ owned clean.
      let mine = test_yes (own_of v t) owned in
      let none = test_no (sum_by (λ (o : OwnTitle). one (same_title o.title t && is_unclean o.state)) v.owns) clean in
      let c = clean_or t v.owns in
      let e = owns_as_have v t Clean in
      let w = held_within words views i v at_i (OwnAs t Clean) in
      k.content.clean t (omega arith) place (omega arith) below;
  ref = λ owned set_bit.
      let none = test_no (own_of v t) owned in
      let p = counted.owns in let q = counted.refs in
      let r = refs_have v t in
      let rw1 = held_within words views i v at_i (RefOf t) in
      let live = live_own words views t (omega arith) in
      through live.0 live.1 live.2 none (omega arith) live.4.0 live.4.1;
}
  where
    held : IsTitleHeld (total_of (shown words views)) t
    held = user_in_all words views i v t at_i has

    counted : IsCounted (count_word (byte_words words) t) (total_of (shown words views)) t
    counted = k.holders.good.counted t held

    not_mine : (u : View) → v ≡ u → (n : ℕ) → 0 < held_of_view u (OwnAs t (Poisoned n)) → own_of v t ≡ 0 → ⊥
    not_mine u same n here none =
        let mine : 0 < held_of_view v (OwnAs t (Poisoned n)) =
        subst (λ (x : View). 0 < held_of_view x (OwnAs t (Poisoned n))) (sym same) here in
        let e = owns_as_have v t (Poisoned n) in
        let l = own_as_own v t (Poisoned n) in
        absurd (omega arith)

    once : HasStake v → stakes_in views (least_stake v.stakes) ≡ 1
    once small = k.logs.each_stake (least_stake v.stakes) ∙
        elim (one_lt (least_stake v.stakes) 16) [ inl y ↦ y.0 | inr n ↦ let z = n.1 in absurd (omega arith) ]

    through : (j : ℕ) (u : View) → get_elem? views j ≡ some u → own_of v t ≡ 0 → 0 < total_of (shown words views) (RefOf t) →
        (a : OwnState) → 0 < held_of_view u (OwnAs t a) →
        (content_at (byte_words words) t place ≡ content_of (k.history t)) ⊎
        ((content_at (byte_words words) t place ≡ poison) × (0 < poisoned_apart views t (least_stake v.stakes)))
    through j u at_j none refs a mine =
        let w = held_within words views j u at_j (OwnAs t a) in
        let q = counted.refs in
        elim ((k.holders.good.content_kept t held).shared a (omega arith) (omega arith)) [
          | inl clean ↦
              let now : 0 < total_of (shown words views) (OwnAs t Clean) =
              subst (λ (s : OwnState). 0 < total_of (shown words views) (OwnAs t s)) clean (omega arith) in
              inl (k.content.clean t now place (omega arith) below)
          | inr p ↦
              let now : 0 < total_of (shown words views) (OwnAs t (Poisoned p.0)) =
              subst (λ (s : OwnState). 0 < total_of (shown words views) (OwnAs t s)) p.1 (omega arith) in
              let here : 0 < held_of_view u (OwnAs t (Poisoned p.0)) = subst (λ (s : OwnState). 0 < held_of_view u (OwnAs t s)) p.1 mine in
              elim (cases_lt place p.0) [
                | inl done ↦ inr (((k.holders.good.poison_kept t held).progress p.0 now).1 place done, apart j u at_j none p.0 here)
                | inr left ↦ inl (k.content.beyond t p.0 refs now place left below)
              ]
        ]
      where
        apart : (j : ℕ) (u : View) → get_elem? views j ≡ some u → own_of v t ≡ 0 → (n : ℕ) → 0 < held_of_view u (OwnAs t (Poisoned n)) →
            0 < poisoned_apart views t (least_stake v.stakes)
        apart j u at_j none n here =
            let e = owns_as_have u t (Poisoned n) in
            let l = as_poisoned u t n in
            let no_stake = stake_alone views i j v u at_i at_j
            (λ same. not_mine u (some-injective v u (sym at_i ∙ subst (λ (m : ℕ). get_elem? views m ≡ some u) same at_j)) n here none) stake
            (once stake) in
            let part = sum_part (λ (x : View). if ltb 0 (stake_of x (least_stake v.stakes)) then 0 else poisoned_of x t) views j u at_j in
            let amount : (if ltb 0 (stake_of u (least_stake v.stakes)) then 0 else poisoned_of u t) ≡ poisoned_of u t =
            rw (no_stake) refl in
            omega arith
