-- The seats at the ends of the phases of the worked run of two threads, with any answer that its read may give.
use Rattle.std.proofs.Common.{◌≡◌, ℕ, suc, ◌<◌, ◌≤◌, List, [], ◌∷◌, lit<, lit≤, refl, subst, arith, inl, inr}
use Rattle.std.specs.List.{AllByRecursion as Each}
use Rattle.std.proofs.lemmas.Bool.{cases_eq, ne_eqb}
use Rattle.pa_slot.proofs.Same.{title_tells}
use Rattle.pa_region.specs.declared.view.Made.{Made}
use Rattle.pa_region.specs.declared.view.SeenNumber.{SeenNumber}
use Rattle.pa_region.specs.Views.{seen_among, unseen_by, counted_on}
use Rattle.pa_region.specs.Lists.{list_of, made_with, entered_in, IsBeginning, IsKnownTo, Rises}
use Rattle.pa_region.specs.Totals.{added_as}
use Rattle.pa_region.specs.Order.{HasOneOrder}
use Rattle.pa_record.specs.declared.entry.Answer.{Answer}
use Rattle.pa_logs.specs.Told.{ToldRecord, told_of, told_until, log_of}
use Rattle.pa_logs.specs.Reads.{KnowsAll}
use Rattle.pa_logs.specs.Said.{HasLogs, EndsPhase}
use Rattle.pa_logs.specs.Worked.{its_title, view_of}
use Rattle.pa_examples.specs.told.Threads.{seen_number}
use Rattle.pa_examples.specs.told.Entered.{taking_made}
use Rattle.pa_examples.specs.told.OtherReads.{reading_so}
use Rattle.pa_examples.specs.told.AllSaid.{seat_of, lists_until, seat_until}
use Rattle.pa_examples.proofs.told.Entering.{below_six}
use Rattle.pa_examples.proofs.told.Played.{so_read}
use Rattle.pa_examples.proofs.told.Seats.{list_cases, FitsSeat, has_logs, fits_nothing}
use Rattle.pa_examples.proofs.told.Seen.{covered}

-- each of two threads, and the others
pub by_two : (P : ℕ → Type 0) → P 0 → P 1 → ((k : ℕ) → (0 ≡ k → ⊥) → (1 ≡ k → ⊥) → P k) → (k : ℕ) → P k
by_two P first second others k = elim (cases_eq 0 k) [
  | inl e ↦ subst P e first
  | inr n0 ↦ elim (cases_eq 1 k) [ inl e ↦ subst P e second | inr n1 ↦ others k n0 n1 ]
]

-- what is known of the logs at the end of a phase: a view knows them all, the seat has seen what they say, and they are of one order
pub record KnowsUntil (ts : List ToldRecord) (n : ℕ) : Type 0 where
  pub knows : KnowsAll (view_of (told_until n ts)) (told_until n ts)
  pub own_logs : told_of (told_until n ts) (unseen_by (seen_number (suc n))) ≡ 0
  pub adds : (q : ℕ) → told_of (told_until n ts) (added_as q) ≡ 0
  pub order : HasOneOrder (seat_until ts n)

-- a seat that holds nothing has all logs
holds_none : (ts : List ToldRecord) (notes : List SeenNumber) (lists : ℕ → List Made) → FitsSeat ts notes lists →
    HasLogs (seat_of ts notes lists) ts
holds_none ts notes lists fits = has_logs ts notes lists _ fits (fits_nothing ts notes lists)

-- what the lists of a phase's end say, whatever the logs
module _ (ts : List ToldRecord) (n : ℕ) where
  abbrev lists : ℕ → List Made
  lists = lists_until n

  abbrev OfAll : (ℕ → List Made → Type 0) → Type 0
  OfAll P = (q : ℕ) → P q (list_of q (seat_of ts (seen_number (suc n)) lists))

  all_rise : Rises (lists 5) → OfAll (λ q ms. Rises ms)
  all_rise cells = list_cases ts (seen_number (suc n)) lists (λ q ms. Rises ms) (tt, tt) (tt, tt) cells (λ q n0 n4 n5. tt)

  all_make : Each (λ (m : Made). m.stake < 16) (lists 5) → OfAll (λ q ms. Each (λ (m : Made). m.stake < 16) ms)
  all_make cells = list_cases ts (seen_number (suc n)) lists (λ q ms. Each (λ (m : Made). m.stake < 16) ms) (lit< tt, tt)
      (lit< tt, tt) cells (λ q n0 n4 n5. tt)

  all_follow : Each (λ (m : Made). IsKnownTo (seen_number (suc n)) m) (lists 5) →
      OfAll (λ q ms. Each (λ (m : Made). IsKnownTo (seen_number (suc n)) m) ms)
  all_follow cells =
      list_cases ts (seen_number (suc n)) lists (λ q ms. Each (λ (m : Made). IsKnownTo (seen_number (suc n)) m) ms) (λ t. omega arith, tt)
      (λ t. omega arith, tt) cells (λ q n0 n4 n5. tt)

module _ (answer : Answer) (word value after : ℕ) where
  abbrev ts : List ToldRecord
  ts = reading_so (so_read answer word value after)

  -- what each stake made in a list is what its log entered there
  abbrev MadeIn : ℕ → ℕ → ℕ → List Made → Type 0
  MadeIn n k q ms = made_with k ms ≡ entered_in q (log_of k (told_until n ts))

  made_1 : (k q : ℕ) → MadeIn 1 k q (list_of q (seat_until ts 1))
  made_1 k q = list_cases (told_until 1 ts) (seen_number 2) (lists_until 1) (MadeIn 1 k)
      (by_two (λ j. MadeIn 1 j 0 (lists_until 1 0)) refl refl (λ j n0 n1. rw (ne_eqb 0 j n0) refl) k)
      (by_two (λ j. MadeIn 1 j 4 (lists_until 1 4)) refl refl (λ j n0 n1. rw (ne_eqb 0 j n0) refl) k)
      (by_two (λ j. MadeIn 1 j 5 (lists_until 1 5)) refl refl (λ j n0 n1. rw (ne_eqb 0 j n0) refl) k)
      (λ p n0 n4 n5. by_two (λ j. MadeIn 1 j p []) (rw (ne_eqb 0 p n0, ne_eqb 4 p n4, ne_eqb 5 p n5) refl) refl
      (λ j m0 m1. rw (ne_eqb 0 j m0) refl) k)
      q

  made_2 : (k q : ℕ) → MadeIn 2 k q (list_of q (seat_until ts 2))
  made_2 k q = list_cases (told_until 2 ts) (seen_number 3) (lists_until 2) (MadeIn 2 k)
      (by_two (λ j. MadeIn 2 j 0 (lists_until 2 0)) refl refl (λ j n0 n1. rw (ne_eqb 0 j n0, ne_eqb 1 j n1) refl) k)
      (by_two (λ j. MadeIn 2 j 4 (lists_until 2 4)) refl refl (λ j n0 n1. rw (ne_eqb 0 j n0, ne_eqb 1 j n1) refl) k)
      (by_two (λ j. MadeIn 2 j 5 (lists_until 2 5)) refl refl (λ j n0 n1. rw (ne_eqb 0 j n0, ne_eqb 1 j n1) refl) k)
      (λ p n0 n4 n5. by_two (λ j. MadeIn 2 j p []) (rw (ne_eqb 0 p n0, ne_eqb 4 p n4, ne_eqb 5 p n5) refl) (rw (ne_eqb 5 p n5) refl)
      (λ j m0 m1. rw (ne_eqb 0 j m0, ne_eqb 1 j m1) refl) k)
      q

  made_3 : (k q : ℕ) → MadeIn 3 k q (list_of q (seat_until ts 3))
  made_3 k q = list_cases (told_until 3 ts) (seen_number 4) (lists_until 3) (MadeIn 3 k)
      (by_two (λ j. MadeIn 3 j 0 (lists_until 3 0)) refl refl (λ j n0 n1. rw (ne_eqb 0 j n0, ne_eqb 1 j n1) refl) k)
      (by_two (λ j. MadeIn 3 j 4 (lists_until 3 4)) refl refl (λ j n0 n1. rw (ne_eqb 0 j n0, ne_eqb 1 j n1) refl) k)
      (by_two (λ j. MadeIn 3 j 5 (lists_until 3 5)) refl refl (λ j n0 n1. rw (ne_eqb 0 j n0, ne_eqb 1 j n1) refl) k)
      (λ p n0 n4 n5. by_two (λ j. MadeIn 3 j p []) (rw (ne_eqb 0 p n0, ne_eqb 4 p n4, ne_eqb 5 p n5) refl) (rw (ne_eqb 5 p n5) refl)
      (λ j m0 m1. rw (ne_eqb 0 j m0, ne_eqb 1 j m1) refl) k)
      q

  fits_1 : KnowsUntil ts 1 → FitsSeat (told_until 1 ts) (seen_number 2) (lists_until 1)
  fits_1 h = record {
    knows = h.knows;
    is = λ q k. made_1 k q;
    rises = all_rise (told_until 1 ts) 1 (tt, tt);
    makers = all_make (told_until 1 ts) 1 (lit< tt, tt);
    follows = all_follow (told_until 1 ts) 1 (λ t. covered (seen_number 2) (seen_number 2) refl t, tt);
    own_logs = h.own_logs;
    adds = h.adds;
    order = h.order;
    all_seen = λ t. elim (title_tells its_title t) [
      | inl y ↦ subst (λ u. seen_among u (seen_number 2) ≤ told_of (told_until 1 ts) (counted_on u)) y.1 (lit≤ tt)
      | inr none ↦ rw none.0 (omega arith)
    ];
  }

  fits_2 : KnowsUntil ts 2 → FitsSeat (told_until 2 ts) (seen_number 3) (lists_until 2)
  fits_2 h = record {
    knows = h.knows;
    is = λ q k. made_2 k q;
    rises = all_rise (told_until 2 ts) 2 ((λ t. omega arith, tt), (tt, tt));
    makers = all_make (told_until 2 ts) 2 (lit< tt, (lit< tt, tt));
    follows = all_follow (told_until 2 ts) 2 (
      λ t. covered (seen_number 2) (seen_number 3) refl t,
      (λ t. covered (seen_number 2) (seen_number 3) refl t, tt),
    );
    own_logs = h.own_logs;
    adds = h.adds;
    order = h.order;
    all_seen = λ t. elim (title_tells its_title t) [
      | inl y ↦ subst (λ u. seen_among u (seen_number 3) ≤ told_of (told_until 2 ts) (counted_on u)) y.1 (lit≤ tt)
      | inr none ↦ rw none.0 (omega arith)
    ];
  }

  pub fits_3 : KnowsUntil ts 3 → FitsSeat (told_until 3 ts) (seen_number 4) (lists_until 3)
  fits_3 h = record {
    knows = h.knows;
    is = λ q k. made_3 k q;
    rises = all_rise (told_until 3 ts) 3 ((λ t. omega arith, tt), (tt, tt));
    makers = all_make (told_until 3 ts) 3 (lit< tt, (lit< tt, tt));
    follows = all_follow (told_until 3 ts) 3 (
      λ t. covered (seen_number 2) (seen_number 4) refl t,
      (λ t. covered (seen_number 2) (seen_number 4) refl t, tt),
    );
    own_logs = h.own_logs;
    adds = h.adds;
    order = h.order;
    all_seen = λ t. elim (title_tells its_title t) [
      | inl y ↦ subst (λ u. seen_among u (seen_number 4) ≤ told_of (told_until 3 ts) (counted_on u)) y.1 (lit≤ tt)
      | inr none ↦ rw none.0 (omega arith)
    ];
  }

  pub knows_3 : (h : KnowsUntil ts 3) → (fits_3 h).knows ≡ h.knows
  unfolding fits_3
  knows_3 h = refl

  -- a seat's lists are beginnings of the last one's
  abbrev Begins : ℕ → ℕ → Type 0
  Begins n q = IsBeginning (list_of q (seat_until ts n)) (list_of q (seat_until ts 3))

  pub ends_1 : KnowsUntil ts 1 → EndsPhase 1 (seat_until ts 1) (seat_until ts 3) ts
  ends_1 h = record {
    has = holds_none (told_until 1 ts) (seen_number 2) (lists_until 1) (fits_1 h);
    begins = below_six (Begins 1) ([], refl) ([], refl) ([], refl) ([], refl) ([], refl) (taking_made.made ∷ [], refl);
  }

  pub ends_2 : KnowsUntil ts 2 → EndsPhase 2 (seat_until ts 2) (seat_until ts 3) ts
  ends_2 h = record {
    has = holds_none (told_until 2 ts) (seen_number 3) (lists_until 2) (fits_2 h);
    begins = below_six (Begins 2) ([], refl) ([], refl) ([], refl) ([], refl) ([], refl) ([], refl);
  }

  pub ends_3 : KnowsUntil ts 3 → EndsPhase 3 (seat_until ts 3) (seat_until ts 3) ts
  ends_3 h = record {
    has = holds_none (told_until 3 ts) (seen_number 4) (lists_until 3) (fits_3 h);
    begins = below_six (Begins 3) ([], refl) ([], refl) ([], refl) ([], refl) ([], refl) ([], refl);
  }
