-- What the rule says of steps with the poisonings: of other views, of what a read gives, and to a view with every stake.
use Rattle.std.proofs.Common.{◌≡◌, ℕ, ◌<◌, false, ◌&&◌, List, [], ◌∷◌, refl, sym, ◌∙◌, ap, subst, arith, inl, inr, eqb}
use Rattle.std.specs.List.{sum_by}
use Rattle.core.specs.List.{AllByRecursion as Each}
use Rattle.std.proofs.lemmas.List.Sums.{sum_by-cons}
use Rattle.std.proofs.lemmas.Bool.{cases_lt}
use Rattle.std.proofs.lemmas.Bool.Decides.{eqb_tells}
use mathlib.Core.Option.{some, some-injective}
use lib.ListN.{get_elem?}
use Rattle.pa_slot.specs.declared.title.Title.{Title}
use Rattle.pa_slot.specs.declared.title.OwnState.{OwnState}
use Rattle.pa_slot.specs.declared.title.OwnState.TheVariants.{Clean, Dirty, Poisoned}
use Rattle.pa_slot.specs.Titles.{same_title, content_count, content_at, count_word, progress}
use Rattle.pa_slot.specs.Holdings.{OwnOf, OwnAs, RefOf, one, IsTitleHeld}
use Rattle.pa_machine.specs.Good.{IsCounted}
use Rattle.pa_machine.specs.Events.{total_of}
use Rattle.pa_region.specs.declared.view.OwnTitle.{OwnTitle}
use Rattle.pa_region.specs.declared.view.Entry.{Entry}
use Rattle.pa_region.specs.declared.view.Stake.{Stake}
use Rattle.pa_region.specs.declared.view.View.{View}
use Rattle.pa_region.specs.Views.{held_of_view, byte_words, shown, own_of, stake_of, stakes_in, least_stake, HasStake, HasEveryStake}
use Rattle.pa_region.specs.Pairs.{last_entry, log_among, least_log}
use Rattle.pa_region.specs.Waiting.{is_unclean, poisoned_of}
use Rattle.pa_region.specs.Shares.{IsUser}
use Rattle.pa_region.specs.Loads.{has_unclean}
use Rattle.pa_region.specs.Order.{by_stake, logged_among, spoiled, content_in, IsReadInPlace}
use Rattle.pa_region.specs.Rule.{IsKept}
use Rattle.pa_region.proofs.Adding.{sum_pair, one_lt}
use Rattle.pa_region.proofs.Pieces.{held_within, owns_as_have, refs_have}
use Rattle.pa_region.proofs.Entering.{least_there}
use Rattle.pa_region.proofs.OneLog.{stake_alone}
use Rattle.pa_region.proofs.PoisonedOwns.{poisoned_unclean}
use Rattle.pa_region.proofs.ReadStep.{user_in_all, clean_or, test_no, live_own, as_poisoned}

-- each stake is there once
pub once_there : (words : List ℕ) (views : List View) (k : IsKept words views) (n : ℕ) → n < 16 → stakes_in views n ≡ 1
once_there words views k n small = k.logs.each_stake n ∙ elim (one_lt n 16) [ inl y ↦ y.0 | inr m ↦ let z = m.1 in absurd (omega arith) ]

-- a view that has poisoned an Own has a stake
pub poisoned_stake : (words : List ℕ) (views : List View) (j : ℕ) (u : View) (t : Title) → IsKept words views → get_elem? views j ≡ some u →
    0 < poisoned_of u t → HasStake u
poisoned_stake words views j u t k at_j some_own = (k.reads.each_view j u at_j).stake (let l = poisoned_unclean u t in omega arith)

-- the least stake of a view isn't that of another view
pub others_apart : (words : List ℕ) (views : List View) (i : ℕ) (v : View) → IsKept words views → get_elem? views i ≡ some v → HasStake v →
    (j : ℕ) (u : View) → (j ≡ i → ⊥) → get_elem? views j ≡ some u → (t : Title) → 0 < poisoned_of u t →
    least_stake v.stakes ≡ least_stake u.stakes → ⊥
others_apart words views i v k at_i has j u ne at_j t some_own same =
    let none = stake_alone views i j v u at_i at_j ne has (once_there words views k (least_stake v.stakes) has) in
    let mine = least_there u.stakes (poisoned_stake words views j u t k at_j some_own) in
    let here : 0 < stake_of u (least_stake v.stakes) = subst (λ (n : ℕ). 0 < stake_of u n) (sym same) mine in
    absurd (omega arith)

-- the log of a number that a view has is what its stake did
log_is : (n : ℕ) (ss : List Stake) (f : ℕ → List Entry) → Each (λ (s : Stake). s.log ≡ f s.number) ss →
    0 < sum_by (λ (s : Stake). one (eqb s.number n)) ss → log_among n ss ≡ f n
log_is n [] f each has = absurd (omega arith)
log_is n (s ∷ ss) f each has = elim (eqb_tells s.number n) [
  | inl y ↦ rw y.0 (each.0 ∙ ap f y.1)
  | inr m ↦
      let c = sum_by-cons (λ (x : Stake). one (eqb x.number n)) s ss in
      let z : one (eqb s.number n) ≡ 0 = ap one m.0 in
      rw m.0 (log_is n ss f each.1 (omega arith))
]

pub least_log_is : (words : List ℕ) (views : List View) (i : ℕ) (v : View) (k : IsKept words views) → get_elem? views i ≡ some v →
    HasStake v →
    least_log v.stakes ≡ by_stake (least_stake v.stakes) (logged_among k.steps)
least_log_is words views i v k at_i has =
    log_is (least_stake v.stakes) v.stakes (λ n. by_stake n k.all) (k.ordered.logs i v at_i) (least_there v.stakes has)
    ∙ ap (by_stake (least_stake v.stakes)) (sym k.filled.logged)

-- a content word that is read is what the steps left
pub word_left : (words : List ℕ) (views : List View) (i : ℕ) (v : View) (t : Title) (place : ℕ) (k : IsKept words views) →
    get_elem? views i ≡ some v → IsUser t v →
    place < content_count t → has_unclean v t ≡ false → content_at (byte_words words) t place ≡ content_in t place k.steps
word_left words views i v t place k at_i has below clean = elim (cases_lt 0 (own_of v t)) [
  | inl mine ↦
      let none = test_no (sum_by (λ (o : OwnTitle). one (same_title o.title t && is_unclean o.state)) v.owns) clean in
      let c = clean_or t v.owns in
      let e = owns_as_have v t Clean in
      let w = held_within words views i v at_i (OwnAs t Clean) in
      as_clean (omega arith)
  | inr rest ↦
      let r = refs_have v t in
      let w = held_within words views i v at_i (RefOf t) in
      through (omega arith)
]
  where
    held : IsTitleHeld (total_of (shown words views)) t
    held = user_in_all words views i v t at_i has

    counted : IsCounted (count_word (byte_words words) t) (total_of (shown words views)) t
    counted = k.holders.good.counted t held

    as_clean : 0 < total_of (shown words views) (OwnAs t Clean) → content_at (byte_words words) t place ≡ content_in t place k.steps
    as_clean now = k.content.clean t now place (omega arith) below ∙ sym ((k.filled.owned t Clean now).beyond place (omega arith))

    by_state : (a : OwnState) → 0 < total_of (shown words views) (OwnAs t a) → 0 < total_of (shown words views) (RefOf t) →
        content_at (byte_words words) t place ≡ content_in t place k.steps
    by_state a now refs =
        let q = counted.refs in
        elim ((k.holders.good.content_kept t held).shared a (omega arith) now) [
          | inl c ↦ as_clean (subst (λ (s : OwnState). 0 < total_of (shown words views) (OwnAs t s)) c now)
          | inr p ↦
              let there : 0 < total_of (shown words views) (OwnAs t (Poisoned p.0)) =
              subst (λ (s : OwnState). 0 < total_of (shown words views) (OwnAs t s)) p.1 now in
              let f = k.filled.owned t (Poisoned p.0) there in
              elim (cases_lt place p.0) [
                | inl done ↦ ((k.holders.good.poison_kept t held).progress p.0 there).1 place done ∙ sym (f.poisoned place done)
                | inr rest ↦ k.content.beyond t p.0 refs there place rest below ∙ sym (f.beyond place rest)
              ]
        ]

    through : 0 < total_of (shown words views) (RefOf t) → content_at (byte_words words) t place ≡ content_in t place k.steps
    through refs = elim (cases_lt 0 (total_of (shown words views) (OwnOf t))) [
      | inl live ↦
          let l = live_own words views t live in
          let w = held_within words views l.0 l.1 l.2 (OwnAs t l.4.0) in
          let mine = l.4.1 in
          by_state l.4.0 (omega arith) refs
      | inr dead ↦
          let o = counted.owns in let q = counted.refs in
          (k.holders.good.poison_kept t held).quarantine (omega arith, omega arith) place below ∙
          sym ((k.filled.left t (omega arith)).poisoned refs place below)
    ]

-- a read is in place after the steps
pub read_in_place : (words : List ℕ) (views : List View) (i : ℕ) (v : View) (t : Title) (place : ℕ) (k : IsKept words views) →
    get_elem? views i ≡ some v → IsUser t v →
    HasStake v → place < content_count t →
    IsReadInPlace (least_stake v.stakes) t place (content_at (byte_words words) t place) v.since (has_unclean v t) k.steps
read_in_place words views i v t place k at_i has stake below = record {
  right = λ clean. word_left words views i v t place k at_i has below clean;
  calm = λ found is handed. (k.filled.each_view i v at_i).waits t found
      (ap last_entry (least_log_is words views i v k at_i stake) ∙ is) handed;
}

-- to a view with every stake each poisoning of a title has a free after it, but of an Own that it has poisoned itself
pub freed_after : (words : List ℕ) (views : List View) (i : ℕ) (v : View) (k : IsKept words views) → get_elem? views i ≡ some v →
    HasEveryStake v → (t : Title) →
    poisoned_of v t ≡ 0 → spoiled t k.steps ≡ 0
freed_after words views i v k at_i every t none = elim (cases_lt 0 (total_of (shown words views) (OwnOf t))) [
  | inl live ↦
      let l = live_own words views t live in
      let w = held_within words views l.0 l.1 l.2 (OwnAs t l.4.0) in
      let mine = l.4.1 in
      (k.filled.owned t l.4.0 (omega arith)).many ∙ not_begun l.4.0 l.0 l.1 l.2 mine
  | inr dead ↦ (k.filled.left t (omega arith)).none
]
  where
    not_begun : (a : OwnState) (j : ℕ) (u : View) → get_elem? views j ≡ some u → 0 < held_of_view u (OwnAs t a) → progress a ≡ 0
    not_begun Clean j u at_j mine = refl
    not_begun Dirty j u at_j mine = refl
    not_begun (Poisoned n) j u at_j mine =
        let e = owns_as_have u t (Poisoned n) in
        let l = as_poisoned u t n in
        elim (eqb_tells j i) [
          | inl y ↦
              let same : v ≡ u = some-injective v u (sym at_i ∙ subst (λ (m : ℕ). get_elem? views m ≡ some u) y.1 at_j) in
              let gone : poisoned_of u t ≡ 0 = subst (λ (x : View). poisoned_of x t ≡ 0) same none in
              absurd (omega arith)
          | inr ne ↦
              let has = poisoned_stake words views j u t k at_j (omega arith) in
              let there = least_there u.stakes has in
              let here = every (least_stake u.stakes) has in
              let pair = sum_pair (λ x. stake_of x (least_stake u.stakes)) views i j v u at_i at_j ne.1 in
              let one_stake = once_there words views k (least_stake u.stakes) has in
              absurd (omega arith)
        ]
