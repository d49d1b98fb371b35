-- What the rule's one order says of numbers, and to a view with every stake.
use Rattle.std.proofs.Common.{◌≡◌, ℕ, zero, suc, ◌+◌, ◌*◌, ◌<◌, List, [], ◌∷◌, ◌++◌, refl, sym, ◌∙◌, ap, subst, arith, inl, inr, eqb, append-nil}
use Rattle.std.specs.Prelude.{nat_lt}
use Rattle.std.specs.List.{sum_by}
use Rattle.core.specs.List.{AllByRecursion as Each}
use Rattle.std.proofs.Math.Nat.{mul-suc}
use Rattle.std.proofs.lemmas.List.Sums.{sum_by-cons}
use Rattle.std.proofs.lemmas.Bool.Decides.{eqb_tells}
use mathlib.Core.Option.{some}
use lib.ListN.{get_elem?}
use Rattle.pa_slot.specs.declared.title.Title.{Title}
use Rattle.pa_slot.specs.Count.{number_of}
use Rattle.pa_slot.specs.Titles.{count_word}
use Rattle.pa_slot.specs.Holdings.{one, IsTitleHeld}
use Rattle.pa_machine.specs.Events.{total_of}
use Rattle.pa_region.specs.declared.view.Entry.{Entry}
use Rattle.pa_region.specs.declared.view.Made.{Made}
use Rattle.pa_region.specs.declared.view.Stake.{Stake}
use Rattle.pa_region.specs.declared.view.View.{View}
use Rattle.pa_region.specs.Views.{byte_words, shown, stake_of, stakes_in, counted_on, logged_of, logged_in, HasEveryStake}
use Rattle.pa_region.specs.Lists.{list_of, made_with, entered_in, IsBeginning}
use Rattle.pa_region.specs.Rule.{IsKept}
use Rattle.pa_region.specs.Order.{Stamped, by_stake, steps_on, IsLoggedIn, InOneOrder, HasOneOrder}
use Rattle.pa_region.proofs.Adding.{one_lt, one_eq}
use Rattle.pa_region.proofs.ListFacts.{each_right, made_append}
use Rattle.pa_region.proofs.JoinLists.{among_beginning}
use Rattle.pa_region.proofs.OneTitle.{number_length}
use Rattle.pa_region.proofs.OrderPart.{only_view}
use Rattle.pa_region.proofs.StepsKept.{freed_after}

-- a product with one more
times_more : (w n k : ℕ) → n ≡ k + 1 → w * n ≡ w * k + w
times_more w n k e = ap (λ m. w * m) e ∙ (ap (λ m. w * m) (let z : k + 1 ≡ suc k = omega arith in z) ∙ mul-suc w k)

-- what the logs of these stakes have of an order, if it has one entry more in front: its weight for each stake of its number
stakes_weigh : (weight : Entry → ℕ) (m : Stamped) (all : List Stamped) (ss : List Stake) →
    sum_by (λ (s : Stake). sum_by weight (by_stake s.number (m ∷ all))) ss
    ≡ sum_by (λ (s : Stake). sum_by weight (by_stake s.number all)) ss + weight m.entry * sum_by
    (λ (s : Stake). one (eqb s.number m.stake)) ss
stakes_weigh weight m all [] = omega arith
stakes_weigh weight m all (s ∷ ss) =
    let again = stakes_weigh weight m all ss in
    let a = sum_by-cons (λ (x : Stake). sum_by weight (by_stake x.number (m ∷ all))) s ss in
    let b = sum_by-cons (λ (x : Stake). sum_by weight (by_stake x.number all)) s ss in
    let c = sum_by-cons (λ (x : Stake). one (eqb x.number m.stake)) s ss in
    elim (eqb_tells m.stake s.number) [
      | inl y ↦
          let here : sum_by weight (by_stake s.number (m ∷ all)) ≡ weight m.entry + sum_by weight (by_stake s.number all) =
          rw y.0 (sum_by-cons weight m.entry (by_stake s.number all)) in
          let mine : one (eqb s.number m.stake) ≡ 1 =
          elim (eqb_tells s.number m.stake) [ inl z ↦ ap one z.0 | inr n ↦ absurd (n.1 (sym y.1)) ] in
          let t = times_more (weight m.entry) (sum_by (λ (x : Stake). one (eqb x.number m.stake)) (s ∷ ss))
          (sum_by (λ (x : Stake). one (eqb x.number m.stake)) ss) (omega arith) in
          omega arith
      | inr n ↦
          let here : sum_by weight (by_stake s.number (m ∷ all)) ≡ sum_by weight (by_stake s.number all) = rw n.0 refl in
          let mine : one (eqb s.number m.stake) ≡ 0 =
          elim (eqb_tells s.number m.stake) [ inl z ↦ absurd (n.1 (sym z.1)) | inr z ↦ ap one z.0 ] in
          let t : weight m.entry * sum_by (λ (x : Stake). one (eqb x.number m.stake)) (s ∷ ss) ≡ weight m.entry * sum_by
          (λ (x : Stake). one (eqb x.number m.stake)) ss =
          ap (λ k. weight m.entry * k) (omega arith) in
          omega arith
    ]

-- what all views' stakes have of an order
abbrev ordered_in : List View → (Entry → ℕ) → List Stamped → ℕ
ordered_in views weight all = sum_by (λ (v : View). sum_by (λ (s : Stake). sum_by weight (by_stake s.number all)) v.stakes) views

times_sum : (w a b c : ℕ) → c ≡ a + b → w * c ≡ w * a + w * b
times_sum w a zero c e = ap (λ m. w * m) (let z : c ≡ a = omega arith in z) ∙ (let z : w * zero ≡ 0 = omega arith in omega arith)
times_sum w a (suc b) c e =
    let again = times_sum w a b (a + b) refl in
    let t = times_more w c (a + b) (omega arith) in
    let u = times_more w (suc b) b (omega arith) in
    omega arith

views_weigh : (weight : Entry → ℕ) (m : Stamped) (all : List Stamped) (views : List View) →
    ordered_in views weight (m ∷ all) ≡ ordered_in views weight all + weight m.entry * stakes_in views m.stake
views_weigh weight m all [] = omega arith
views_weigh weight m all (v ∷ vs) =
    let again = views_weigh weight m all vs in
    let here = stakes_weigh weight m all v.stakes in
    let a = sum_by-cons (λ (u : View). sum_by (λ (s : Stake). sum_by weight (by_stake s.number (m ∷ all))) u.stakes) v vs in
    let b = sum_by-cons (λ (u : View). sum_by (λ (s : Stake). sum_by weight (by_stake s.number all)) u.stakes) v vs in
    let c = sum_by-cons (λ (u : View). stake_of u m.stake) v vs in
    let t = times_sum (weight m.entry) (stake_of v m.stake) (stakes_in vs m.stake) (stakes_in (v ∷ vs) m.stake) c in
    omega arith

-- nothing, of an empty order
none_ordered : (weight : Entry → ℕ) (views : List View) → ordered_in views weight [] ≡ 0
none_ordered weight [] = refl
none_ordered weight (v ∷ vs) =
    let again = none_ordered weight vs in
    let here = none_there v.stakes in
    let a = sum_by-cons (λ (u : View). sum_by (λ (s : Stake). sum_by weight (by_stake s.number [])) u.stakes) v vs in
    omega arith
  where
    none_there : (ss : List Stake) → sum_by (λ (s : Stake). sum_by weight (by_stake s.number [])) ss ≡ 0
    none_there [] = refl
    none_there (s ∷ ss) = let c = sum_by-cons (λ (x : Stake). sum_by weight (by_stake x.number [])) s ss in let again = none_there ss in
        omega arith

-- if each stake is there once, it is all that the order has
all_ordered : (weight : Entry → ℕ) (views : List View) (all : List Stamped) → ((k : ℕ) → stakes_in views k ≡ one (nat_lt k 16)) →
    Each (λ (m : Stamped). m.stake < 16) all → ordered_in views weight all ≡ sum_by (λ (m : Stamped). weight m.entry) all
all_ordered weight views [] each small = none_ordered weight views
all_ordered weight views (m ∷ all) each small =
    let again = all_ordered weight views all each small.1 in
    let here = views_weigh weight m all views in
    let c = sum_by-cons (λ (n : Stamped). weight n.entry) m all in
    let one_stake : stakes_in views m.stake ≡ 0 + 1 =
    let e = each m.stake in let s = small.0 in
    elim (one_lt m.stake 16) [ inl y ↦ let z = y.0 in omega arith | inr n ↦ let z = n.1 in absurd (omega arith) ] in
    let t = times_more (weight m.entry) (stakes_in views m.stake) 0 one_stake in
    let u : weight m.entry * 0 ≡ 0 = omega arith in
    omega arith

-- the logs are those of the order
stakes_ordered : (weight : Entry → ℕ) (all : List Stamped) (ss : List Stake) → Each (λ (s : Stake). s.log ≡ by_stake s.number all) ss →
    sum_by (λ (s : Stake). sum_by weight s.log) ss ≡ sum_by (λ (s : Stake). sum_by weight (by_stake s.number all)) ss
stakes_ordered weight all [] each = refl
stakes_ordered weight all (s ∷ ss) each =
    let again = stakes_ordered weight all ss each.1 in
    let here = ap (sum_by weight) each.0 in
    let a = sum_by-cons (λ (x : Stake). sum_by weight x.log) s ss in
    let b = sum_by-cons (λ (x : Stake). sum_by weight (by_stake x.number all)) s ss in
    omega arith

views_ordered : (weight : Entry → ℕ) (all : List Stamped) (views : List View) →
    ((i : ℕ) (v : View) → get_elem? views i ≡ some v → IsLoggedIn all v) →
    logged_in views weight ≡ ordered_in views weight all
views_ordered weight all [] each = refl
views_ordered weight all (v ∷ vs) each =
    let again = views_ordered weight all vs (λ i u at_i. each (suc i) u at_i) in
    let here = stakes_ordered weight all v.stakes (each 0 v refl) in
    let a = sum_by-cons (λ (u : View). logged_of u weight) v vs in
    let b = sum_by-cons (λ (u : View). sum_by (λ (s : Stake). sum_by weight (by_stake s.number all)) u.stakes) v vs in
    omega arith

-- what all logs weigh, the order weighs
pub order_weighs : (weight : Entry → ℕ) (all : List Stamped) (list : ℕ → List Made) (views : List View) → InOneOrder all list views →
    ((k : ℕ) → stakes_in views k ≡ one (nat_lt k 16)) → logged_in views weight ≡ sum_by (λ (m : Stamped). weight m.entry) all
order_weighs weight all list views o each = views_ordered weight all views o.logs ∙ all_ordered weight views all each o.stakes

-- the number that stands in a held title's word is that of its counted steps in the order
pub found_now : (words : List ℕ) (views : List View) (t : Title) (k : IsKept words views) → IsTitleHeld (total_of (shown words views)) t →
    number_of (count_word (byte_words words) t) ≡ steps_on t k.all
found_now words views t k held =
    let n = number_length words views t k held in
    let a = (k.logs.chain t).all in
    let w = order_weighs (counted_on t) k.all k.list views k.ordered k.logs.each_stake in
    omega arith

-- a step on a held title, or a look at it, finds how many steps on it the order has
pub touched_now : (words : List ℕ) (views : List View) (t : Title) (k : IsKept words views) → IsTitleHeld (total_of (shown words views)) t →
    (u : Title) (word : ℕ) →
    (t ≡ u) × (count_word (byte_words words) t ≡ word) → number_of word ≡ steps_on u k.all
touched_now words views t k held u word same =
    subst (λ (x : Title). number_of word ≡ steps_on x k.all) same.0
    (subst (λ (n : ℕ). number_of n ≡ steps_on t k.all) same.1 (found_now words views t k held))

-- if the makers of a list had stakes, and no stake made anything of it, it is empty
nothing_made : (ms : List Made) → Each (λ m. m.stake < 16) ms → ((k : ℕ) → k < 16 → made_with k ms ≡ []) → ms ≡ []
nothing_made [] small none = refl
nothing_made (m ∷ ms) small none =
    elim (eqb_tells m.stake m.stake) [
      | inl y ↦ let e : m ∷ made_with m.stake ms ≡ [] = (rw y.0 refl) ∙ none m.stake small.0 in absurd (cc)
      | inr n ↦ absurd (n.1 refl)
    ]

-- a beginning of a list is all of it, if each stake made as much of both
whole_list : (begun list : List Made) → IsBeginning begun list → Each (λ m. m.stake < 16) list →
    ((k : ℕ) → k < 16 → made_with k begun ≡ made_with k list) → begun ≡ list
whole_list begun list b small same =
    let none : b.0 ≡ [] = nothing_made b.0
    (each_right (λ m. m.stake < 16) begun b.0 (subst (λ (ms : List Made). Each (λ m. m.stake < 16) ms) b.1 small))
    (λ k less. cancel (made_with k begun) (made_with k b.0) (same k less ∙ (ap (made_with k) b.1 ∙ made_append k begun b.0))) in
    sym (b.1 ∙ (ap (λ xs. begun ++ xs) none ∙ append-nil begun))
  where
    cancel : (xs ys : List Made) → xs ≡ xs ++ ys → ys ≡ []
    cancel [] ys e = sym e
    cancel (x ∷ xs) ys e = cancel xs ys (let z : xs ≡ xs ++ ys = cc in z)

-- a stake that a view has, with its log
log_of_stake : (k : ℕ) (ss : List Stake) (f g : ℕ → List Made) (h : Stake → List Made) →
    0 < sum_by (λ (s : Stake). one (eqb s.number k)) ss →
    Each (λ (s : Stake). f s.number ≡ h s) ss → Each (λ (s : Stake). g s.number ≡ h s) ss → f k ≡ g k
log_of_stake k [] f g h has a b = absurd (omega arith)
log_of_stake k (s ∷ ss) f g h has a b =
    let c = sum_by-cons (λ (x : Stake). one (eqb x.number k)) s ss in
    elim (one_eq s.number k) [
      | inl y ↦ subst (λ n. f n ≡ g n) y.1 (a.0 ∙ sym b.0)
      | inr n ↦ let z = n.0 in log_of_stake k ss f g h (omega arith) a.1 b.1
    ]

-- under the rule a view with every stake knows the order
pub knows_order : (words : List ℕ) (views : List View) (i : ℕ) (v : View) → IsKept words views → get_elem? views i ≡ some v →
    HasEveryStake v → HasOneOrder v
knows_order words views i v k at_i every = record {
  all = k.all;
  ordered = record {
    stakes = k.ordered.stakes;
    logs = λ j u at_j. subst (IsLoggedIn k.all) (only_view v j u at_j) (k.ordered.logs i v at_i);
    lists = λ q. whole_list (list_of q v) (k.list q) (begins q) (k.lists.makers q)
        (λ r small. log_of_stake r v.stakes (λ n. made_with n (list_of q v)) (λ n. made_with n (k.list q)) (λ s. entered_in q s.log)
        (every r small)
        ((k.lists.each_view i v at_i).noticed q) ((k.lists.each_view i v at_i).made q)) ∙ k.ordered.lists q;
    found = k.ordered.found;
  };
  steps = k.steps;
  logged = k.filled.logged;
  placed = k.filled.placed;
  freed = freed_after words views i v k at_i every;
}
  where
    begins : (q : ℕ) → IsBeginning (list_of q v) (k.list q)
    begins q = among_beginning k.list q v.seen_lists (k.lists.each_view i v at_i).beginnings
