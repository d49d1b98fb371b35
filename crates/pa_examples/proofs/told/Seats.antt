-- A seat with the logs of worked records, which has seen some numbers and lists, is as a seat's type keeps it.
use Rattle.std.proofs.Common.{◌≡◌, ℕ, ◌+◌, ◌<◌, ◌≤◌, true, ltb, eqb, List, [], ◌∷◌, ◌++◌, length, map, refl, sym, ◌∙◌, ap, subst, arith, inl, inr}
use Rattle.std.specs.List.{AllByRecursion as Each, sum_by}
use Rattle.std.proofs.lemmas.List.Sums.{sum_by-le-sum_by}
use Rattle.std.proofs.lemmas.Bool.{cases_Bool, cases_eq, ltb-true, ne_eqb}
use Rattle.pa_slot.specs.declared.title.Title.{Title}
use Rattle.pa_slot.specs.Count.{number_of}
use Rattle.pa_slot.specs.Titles.{IsWellFormed, Covers, count_word}
use Rattle.pa_slot.specs.Holdings.{one, RawByte}
use Rattle.pa_region.specs.declared.view.Entry.{Entry}
use Rattle.pa_region.specs.declared.view.Made.{Made}
use Rattle.pa_region.specs.declared.view.SeenNumber.{SeenNumber}
use Rattle.pa_region.specs.declared.view.Stake.{Stake}
use Rattle.pa_region.specs.declared.view.View.{View}
use Rattle.pa_region.specs.Views.{seen_among, unseen_by, counted_on, logged_of, uncuts, stake_of, held_of_view, free_of, own_of, ref_of, undone_of, HasTitle}
use Rattle.pa_region.specs.Lists.{list_of, longer, made_with, entered_in, IsKnownTo, Rises}
use Rattle.pa_region.specs.Pairs.{amount_by, logged_of_by}
use Rattle.pa_region.specs.AllReads.{HasAllLogs}
use Rattle.pa_region.specs.Aware.{IsAware}
use Rattle.pa_region.specs.Order.{Stamped, OneStep, by_stake, IsLoggedIn, logged_among, spoiled, AreInPlace, HasOneOrder}
use Rattle.pa_region.specs.Start.{stakes_from}
use Rattle.pa_region.specs.Totals.{added_as}
use Rattle.pa_region.proofs.FirstLists.{stake_count}
use Rattle.pa_region.proofs.Adding.{sum_map}
use Rattle.pa_region.proofs.PairSums.{by_within}
use Rattle.pa_region.proofs.OrderPart.{order_of_view, only_view}
use Rattle.pa_region.proofs.Finding.{all_find, all_found}
use Rattle.pa_region.proofs.Opens.{blank_long}
use Rattle.pa_logs.specs.Told.{ToldRecord, told_of, log_of}
use Rattle.pa_logs.specs.Reads.{KnowsAll}
use Rattle.pa_logs.specs.Said.{HasLogs}
use Rattle.pa_logs.specs.Worked.{with_log, view_of}
use Rattle.pa_logs.proofs.Logs.{logs_are_told}
use Rattle.pa_examples.specs.told.AllSaid.{Holding, seat_with, seat_of}

-- a list that is no shorter than an empty one
pub longer_none : (a : List Made) → longer a [] ≡ a
longer_none a = elim (cases_Bool (ltb (length a) 0)) [
  | inl y ↦ let less = ltb-true (length a) 0 y in absurd (omega arith)
  | inr n ↦ rw n refl
]

pub append_none : (xs : List Made) → xs ≡ xs ++ []
append_none [] = refl
append_none (x ∷ xs) = ap (λ ys. x ∷ ys) (append_none xs)

-- what such a seat has seen of a list
module _ (ts : List ToldRecord) (notes : List SeenNumber) (lists : ℕ → List Made) where
  pub list_cases : (P : ℕ → List Made → Type 0) → P 0 (lists 0) → P 4 (lists 4) → P 5 (lists 5)
      → ((k : ℕ) → (0 ≡ k → ⊥) → (4 ≡ k → ⊥) → (5 ≡ k → ⊥) → P k []) → (k : ℕ) → P k (list_of k (seat_of ts notes lists))
  list_cases P root pool cells none k = elim (cases_eq 0 k) [
    | inl e ↦ subst (λ n. P n (list_of n (seat_of ts notes lists))) e (subst (λ ms. P 0 ms) (sym (longer_none (lists 0))) root)
    | inr n0 ↦ elim (cases_eq 4 k) [
      | inl e ↦ subst (λ n. P n (list_of n (seat_of ts notes lists))) e (subst (λ ms. P 4 ms) (sym (longer_none (lists 4))) pool)
      | inr n4 ↦ elim (cases_eq 5 k) [
        | inl e ↦ subst (λ n. P n (list_of n (seat_of ts notes lists))) e (subst (λ ms. P 5 ms) (sym (longer_none (lists 5))) cells)
        | inr n5 ↦ rw (ne_eqb 0 k n0, ne_eqb 4 k n4, ne_eqb 5 k n5) (none k n0 n4 n5)
      ]
    ]
  ]

-- One order of what the logs and the lists of such a seat say.
--   stakes: each entry was made with one of the 16 stakes
--   logs, lists: each log is what its stake did there, and each list what was entered
--   found: each counted step and each look found the number of counted steps of its title before it
--   steps, logged, placed, freed: with poisonings each step is in place, and each poisoning has a free after it
pub record IsOrderOf (ts : List ToldRecord) (notes : List SeenNumber) (lists : ℕ → List Made) (all : List Stamped) : Type 0 where
  pub stakes : Each (λ (m : Stamped). m.stake < 16) all
  pub logs : (k : ℕ) → log_of k ts ≡ by_stake k all
  pub lists_are : (q : ℕ) → list_of q (seat_of ts notes lists) ≡ entered_in q (map (λ (m : Stamped). m.entry) all)
  pub found : all_find [] all ≡ true
  pub steps : List OneStep
  pub logged : logged_among steps ≡ all
  pub placed : AreInPlace steps
  pub freed : (t : Title) → spoiled t steps ≡ 0

pub has_order : (ts : List ToldRecord) (notes : List SeenNumber) (lists : ℕ → List Made) (all : List Stamped) →
    IsOrderOf ts notes lists all → HasOneOrder (seat_of ts notes lists)
has_order ts notes lists all is = record {
  all = all;
  ordered = record {
    stakes = is.stakes;
    logs = λ i v at_i. subst (IsLoggedIn all) (only_view (seat_of ts notes lists) i v at_i) (each_log (stakes_from 0 16));
    lists = is.lists_are;
    found = all_found [] all is.found;
  };
  steps = is.steps;
  logged = is.logged;
  placed = is.placed;
  freed = λ t none. is.freed t;
}
  where
    each_log : (ss : List Stake) → Each (λ (s : Stake). s.log ≡ by_stake s.number all) (map (with_log ts) ss)
    each_log [] = tt
    each_log (s ∷ ss) = (is.logs s.number, each_log ss)

-- What is computed of the records, the numbers and the lists.
--   knows: a view with these logs knows all of them
--   is: what each stake made in a list is what its log entered there
--   rises, makers, follows: what makers had seen rises, they had stakes, and the seat has seen it
--   own_logs, all_seen: it has seen what the logs say, and no more
--   adds: nothing was added to a totals word
--   order: what the logs and the lists say is of one order
pub record FitsSeat (ts : List ToldRecord) (notes : List SeenNumber) (lists : ℕ → List Made) : Type 0 where
  pub knows : KnowsAll (view_of ts) ts
  pub is : (q k : ℕ) → made_with k (list_of q (seat_of ts notes lists)) ≡ entered_in q (log_of k ts)
  pub rises : (q : ℕ) → Rises (list_of q (seat_of ts notes lists))
  pub makers : (q : ℕ) → Each (λ m. m.stake < 16) (list_of q (seat_of ts notes lists))
  pub follows : (q : ℕ) → Each (λ m. IsKnownTo notes m) (list_of q (seat_of ts notes lists))
  pub own_logs : told_of ts (unseen_by notes) ≡ 0
  pub adds : (q : ℕ) → told_of ts (added_as q) ≡ 0
  pub all_seen : (t : Title) → seen_among t notes ≤ told_of ts (counted_on t)
  pub order : HasOneOrder (seat_of ts notes lists)

-- What is computed of what the seat holds.
--   raw_none: none of its bytes is raw
--   free_once, own_once, free_alone, apart: a title is there once, free or owned, and two share no byte
--   gone, undone: none was uncut
--   free_seen, handles: it has seen the number of each that is free, and the issue of each that it owns
--   long: the words are those of a region of one super page
pub record FitsHolding (ts : List ToldRecord) (notes : List SeenNumber) (v : View) : Type 0 where
  pub raw_none : (b : ℕ) → held_of_view v (RawByte b) ≡ 0
  pub free_once : (t : Title) → free_of v t ≤ 1
  pub own_once : (t : Title) → own_of v t ≤ 1
  pub free_alone : (t : Title) → 0 < free_of v t → own_of v t + ref_of v t ≡ 0
  pub apart : (t u : Title) (b : ℕ) → HasTitle v t → HasTitle v u → Covers t b → Covers u b → t ≡ u
  pub gone : (t : Title) → 0 < told_of ts (uncuts t) → HasTitle v t → ⊥
  pub undone : (t : Title) → 0 < undone_of v t → HasTitle v t → ⊥
  pub free_seen : (t : Title) → 0 < free_of v t → number_of (count_word v.words t) ≡ seen_among t notes
  pub handles : (t : Title) → 0 < own_of v t + ref_of v t → 1 ≤ seen_among t notes
  pub long : length v.words ≡ 262144

module _ (ts : List ToldRecord) (notes : List SeenNumber) (lists : ℕ → List Made) (held : Holding) (fits : FitsSeat ts notes lists) where
  abbrev v : View
  v = seat_with ts notes lists held

  pub weighed : (weight : Entry → ℕ) → logged_of v weight ≡ told_of ts weight
  weighed weight = logs_are_told (view_of ts) ts weight fits.knows.logs

  -- each stake made what its log entered
  stakes_made : (q : ℕ) (ss : List Stake) → Each (λ s. made_with s.number (list_of q v) ≡ entered_in q s.log) (map (with_log ts) ss)
  stakes_made q [] = tt
  stakes_made q (s ∷ ss) = (fits.is q s.number, stakes_made q ss)

  pub all_logs : length v.words ≡ 262144 → HasAllLogs v
  all_logs long =
      let h = fits.knows.all in
      record {
        history = h.history;
        chain = h.chain;
        well = λ t named. subst (λ n. IsWellFormed n t) (blank_long 262144 ∙ sym long) (h.well t named);
        one_name = h.one_name;
        reads = record { freed = h.reads.freed; own = h.reads.own; ref = h.reads.ref };
      }

  pub history_is : (long : length v.words ≡ 262144) (t : Title) → (all_logs long).history t ≡ fits.knows.all.history t
  unfolding all_logs
  history_is long t = refl

  by_number : (r : ℕ) (weight : Entry → ℕ) → logged_of_by v r weight ≤ logged_of v weight
  by_number r weight =
      sum_by-le-sum_by (amount_by r (sum_by weight)) (λ (s : Stake). sum_by weight s.log) v.stakes (by_within r (sum_by weight))

  small : (k : ℕ) → 0 < stake_of (view_of ts) k → k < 16
  small k has =
      let m = sum_map (λ (s : Stake). one (eqb s.number k)) (with_log ts) (stakes_from 0 16) in
      elim (stake_count 0 16 k) [ inl y ↦ let a = y.1 in omega arith | inr n ↦ let a = n.1 in absurd (omega arith) ]

  pub aware : FitsHolding ts notes v → IsAware v
  aware h = record {
    raw_once = λ b. let none = h.raw_none b in omega arith;
    free_once = h.free_once;
    own_once = h.own_once;
    stake_once = fits.knows.logs.once;
    stake_small = small;
    keeper_once = λ k. omega arith;
    lease_once = λ n. omega arith;
    free_alone = h.free_alone;
    apart = h.apart;
    raw_apart = λ t b has covers. h.raw_none b;
    gone = λ t cut has. h.gone t (subst (λ n. 0 < n) (weighed (uncuts t)) cut) has;
    undone = h.undone;
    own_logs = weighed (unseen_by notes) ∙ fits.own_logs;
    free_seen = h.free_seen;
    notes = (([], begins 0 (lists 0)), (([], begins 4 (lists 4)), (([], begins 5 (lists 5)), tt)));
    own_lists = tt;
    entered = λ q. stakes_made q (stakes_from 0 16);
    rises = fits.rises;
    makers = fits.makers;
    follows = fits.follows;
    handles = h.handles;
    covered = λ r q. let a = fits.adds q in let b = weighed (added_as q) in let c = by_number r (added_as q) in omega arith;
    all_logs = λ every. all_logs h.long;
    one_order = λ every. record {
      all = fits.order.all;
      ordered = order_of_view fits.order.all (seat_of ts notes lists) v refl refl fits.order.ordered;
      steps = fits.order.steps;
      logged = fits.order.logged;
      placed = fits.order.placed;
      freed = λ t none. fits.order.freed t refl;
    };
    all_seen = λ every t. let seen = fits.all_seen t in let all = weighed (counted_on t) in omega arith;
  }
    where
      begins : (q : ℕ) (list : List Made) → longer list [] ≡ list ++ []
      begins q list = longer_none list ∙ append_none list

  pub has_logs : FitsHolding ts notes v → HasLogs v ts
  has_logs h = record { aware = aware h; every = fits.knows.logs.every; logs = fits.knows.logs.logs }

-- a seat that holds nothing
pub fits_nothing : (ts : List ToldRecord) (notes : List SeenNumber) (lists : ℕ → List Made) → FitsHolding ts notes (seat_of ts notes lists)
fits_nothing ts notes lists = record {
  raw_none = λ b. refl;
  free_once = λ t. omega arith;
  own_once = λ t. omega arith;
  free_alone = λ t free. absurd (omega arith);
  apart = λ t u b has. absurd (omega arith);
  gone = λ t cut has. absurd (omega arith);
  undone = λ t cut has. absurd (omega arith);
  free_seen = λ t free. absurd (omega arith);
  handles = λ t has. absurd (omega arith);
  long = blank_long 262144;
}
