-- A view with the logs of records that name one title knows all of them, from what the records' log segments weigh.
use Rattle.std.proofs.Common.{◌≡◌, ℕ, zero, suc, ◌+◌, ◌<◌, ◌⊎◌, Bool, true, false, ltb, eqb, List, [], ◌∷◌, map, lit≤, refl, sym, ◌∙◌, subst, arith, inl, inr}
use Rattle.std.specs.Prelude.{Contains, if◌then◌else◌}
use Rattle.std.specs.List.{sum_by}
use Rattle.std.proofs.lemmas.Bool.{eqb-true, cases_lt}
use Rattle.std.proofs.lemmas.List.Sums.{sum_by-cons}
use Rattle.pa_slot.specs.declared.title.Title.{Title}
use Rattle.pa_slot.specs.Count.{number_of, held_of}
use Rattle.pa_slot.specs.Titles.{IsWellFormed, same_title, poison}
use Rattle.pa_slot.specs.Holdings.{one}
use Rattle.pa_slot.proofs.Same.{title_tells}
use Rattle.pa_region.specs.declared.view.Entry.{Entry}
use Rattle.pa_region.specs.declared.view.Stake.{Stake}
use Rattle.pa_region.specs.Views.{logged_of, names, counted_on, counted_at, looked_at}
use Rattle.pa_region.specs.History.{Done, IsChained}
use Rattle.pa_region.specs.Contents.{content_at_number}
use Rattle.pa_region.specs.Pairs.{paired_of, paired_of_by, logged_of_by, amount_by}
use Rattle.pa_region.specs.Start.{stakes_from}
use Rattle.pa_region.specs.Waiting.{gave_no_poison, quiet_read, IsFreedElsewhere}
use Rattle.pa_region.specs.AllReads.{HasReads}
use Rattle.pa_region.proofs.Adding.{one_lt, one_eq}
use Rattle.pa_region.proofs.Opens.{blank_long}
use Rattle.pa_logs.specs.Told.{ToldRecord, told_of, log_of}
use Rattle.pa_logs.specs.Reads.{KnowsAll}
use Rattle.pa_logs.specs.Worked.{its_title, with_log, view_of}
use Rattle.pa_logs.proofs.Logs.{logs_are_told}
use Rattle.pa_logs.proofs.Worked.{are_logs}

-- how many numbers below n are k
abbrev pub numbers_below : ℕ → ℕ → ℕ
numbers_below zero k = 0
numbers_below (suc n) k = numbers_below n k + one (eqb n k)

pub below : (n k : ℕ) → numbers_below n k ≡ one (ltb k n)
below zero k = elim (one_lt k 0) [ inl y ↦ let z = y.1 in absurd (omega arith) | inr n ↦ let z = n.0 in omega arith ]
below (suc n) k =
    let again = below n k in
    elim (one_lt k n) [
      | inl y ↦ elim (one_eq n k) [
        | inl e ↦ let a = y.1 in let b = e.1 in absurd (omega arith)
        | inr e ↦ elim (one_lt k (suc n)) [
          | inl z ↦ let a = y.0 in let b = e.0 in let c = z.0 in omega arith
          | inr z ↦ let a = y.1 in
              let b = z.1 in absurd (omega arith)
        ]
      ]
      | inr y ↦ elim (one_eq n k) [
        | inl e ↦ elim (one_lt k (suc n)) [
          | inl z ↦ let a = y.0 in let b = e.0 in let c = z.0 in omega arith
          | inr z ↦ let a = e.1 in
              let b = z.1 in absurd (omega arith)
        ]
        | inr e ↦ elim (one_lt k (suc n)) [
          | inl z ↦ let a = y.1 in let b = z.1 in absurd (e.1 (omega arith))
          | inr z ↦ let a = y.0 in let b = e.0 in let c = z.0 in omega arith
        ]
      ]
    ]

-- what a view's log with number r amounts to is what the records of thread r do
module _ (ts : List ToldRecord) (r : ℕ) (amount : List Entry → ℕ) where
  by_thread : (ss : List Stake) → 0 < sum_by (amount_by r amount) (map (with_log ts) ss) → 0 < amount (log_of r ts)
  by_thread [] h = absurd (omega arith)
  by_thread (s ∷ ss) h =
      let c = sum_by-cons (amount_by r amount) (with_log ts s) (map (with_log ts) ss) in
      elim (cases_lt 0 (sum_by (amount_by r amount) (map (with_log ts) ss))) [
        | inl rest ↦ by_thread ss rest
        | inr none ↦
            let here : 0 < amount_by r amount (with_log ts s) = omega arith in
            mine (eqb s.number r) (eqb-true s.number r) here
      ]
    where
      mine : (b : Bool) → (b ≡ true → s.number ≡ r) → 0 < (if b then amount (log_of s.number ts) else 0) → 0 < amount (log_of r ts)
      mine true same some_here = subst (λ q. 0 < amount (log_of q ts)) (same refl) some_here
      mine false same some_here = absurd (omega arith)

  pub of_thread : 0 < sum_by (amount_by r amount) (view_of ts).stakes → 0 < amount (log_of r ts)
  of_thread h = by_thread (stakes_from 0 16) h

-- What is computed of records, with these as the histories of their titles.
--   chained: their log segments chain them
--   well, one_name: the titles that they name are well formed, and two of one start and one `born` are one
--   reads: what reads gave
pub record AreKnown (ts : List ToldRecord) (history : Title → List Done) : Type 0 where
  pub low : (x : ToldRecord) → Contains ts x → x.played.thread < 16
  pub chained : (t : Title) → IsChained (told_of ts) t (history t)
  pub well : (t : Title) → 0 < told_of ts (names t) → IsWellFormed 262144 t
  pub one_name : (t u : Title) → 0 < told_of ts (names t) → 0 < told_of ts (names u) → t.start ≡ u.start → t.born ≡ u.born → t ≡ u
  pub reads : HasReads history (view_of ts)

module _ (ts : List ToldRecord) (history : Title → List Done) (is : AreKnown ts history) where
  weighed : (weight : Entry → ℕ) → logged_of (view_of ts) weight ≡ told_of ts weight
  weighed weight = logs_are_told (view_of ts) ts weight (are_logs ts is.low)

  same_logs : told_of ts ≡ logged_of (view_of ts)
  same_logs = λ n weight. sym (weighed weight) n

  pub knows : KnowsAll (view_of ts) ts
  knows = record {
    logs = are_logs ts is.low;
    all = record {
      history = history;
      chain = λ t. subst (λ (logs : (Entry → ℕ) → ℕ). IsChained logs t (history t)) same_logs (is.chained t);
      well = λ t mine. let a = weighed (names t) in rw (blank_long 262144) (is.well t (omega arith));
      one_name = λ t u mine other start born. let a = weighed (names t) in let b = weighed (names u) in
          is.one_name t u (omega arith) (omega arith) start born;
      reads = is.reads;
    };
  }

  pub history_known : (t : Title) → knows.all.history t ≡ history t
  unfolding knows
  history_known t = refl

-- a title that isn't named has no history
pub record IsOther (ts : List ToldRecord) (t : Title) : Type 0 where
  pub at : (k : ℕ) → told_of ts (counted_at t k) ≡ 0
  pub on : told_of ts (counted_on t) ≡ 0
  pub looked : (word : ℕ) → told_of ts (looked_at t word) ≡ 0
  pub named : told_of ts (names t) ≡ 0

pub chain_there : (ts : List ToldRecord) (t : Title) → IsOther ts t → IsChained (told_of ts) t []
chain_there ts t is = record {
  legal = tt;
  steps = tt;
  numbers = λ k. is.at k ∙ below 0 k;
  all = is.on;
  looks = λ word some_look. let none = is.looked word in absurd (omega arith);
}

-- What is computed of records that name one title, with the history `steps`.
--   chained: their log segments chain it
--   other: they say nothing of another title
--   freed, own, ref: what reads gave
pub record IsOfOne (ts : List ToldRecord) (steps : List Done) : Type 0 where
  pub low : (x : ToldRecord) → Contains ts x → x.played.thread < 16
  pub chained : IsChained (told_of ts) its_title steps
  pub other : (t : Title) → same_title its_title t ≡ false → IsOther ts t
  pub freed : paired_of (view_of ts) gave_no_poison ≡ 0
  pub own : (t : Title) (found value : ℕ) → 0 < paired_of (view_of ts) (quiet_read true t found value) → ⊥
  pub ref : (r : ℕ) (t : Title) (found value : ℕ) → held_of found ≡ 1 → 0 < paired_of_by (view_of ts) r (quiet_read false t found value) →
      (its_title ≡ t) × ((value ≡ content_at_number (number_of found) steps) ⊎
      ((value ≡ poison) × IsFreedElsewhere (logged_of_by (view_of ts)) steps its_title r (number_of found)))

well_here : IsWellFormed 262144 its_title
well_here = record { start_aligned = refl; len_aligned = refl; long = lit≤ tt; inside = lit≤ tt }

abbrev pub history_if : List Done → Bool → List Done
history_if steps b = if b then steps else []

-- the history of the one title, and of another none
abbrev pub history_of_one : List Done → Title → List Done
history_of_one steps t = history_if steps (same_title its_title t)

module _ (ts : List ToldRecord) (steps : List Done) (is : IsOfOne ts steps) where
  chain_told : (t : Title) → IsChained (told_of ts) t (history_of_one steps t)
  chain_told t = elim (title_tells its_title t) [
    | inl y ↦ subst (λ b. IsChained (told_of ts) t (history_if steps b)) (sym y.0)
        (subst (λ u. IsChained (told_of ts) u steps) y.1 is.chained)
    | inr n ↦ subst (λ b. IsChained (told_of ts) t (history_if steps b)) (sym n.0) (chain_there ts t (is.other t n.0))
  ]

  named_is : (t : Title) → 0 < told_of ts (names t) → its_title ≡ t
  named_is t mine = elim (title_tells its_title t) [
    | inl y ↦ y.1
    | inr n ↦ let b = (is.other t n.0).named in absurd (omega arith)
  ]

  ref_read : (r : ℕ) (t : Title) (found value : ℕ) → held_of found ≡ 1 → 0 < paired_of_by (view_of ts) r (quiet_read false t found value) →
      (value ≡ content_at_number (number_of found) (history_of_one steps t)) ⊎
      ((value ≡ poison) × IsFreedElsewhere (logged_of_by (view_of ts)) (history_of_one steps t) t r (number_of found))
  ref_read r t found value held some_pair =
      let (same, gave) = is.ref r t found value held some_pair in
      subst
      (λ (u : Title). (value ≡ content_at_number (number_of found) (history_of_one steps u))
      ⊎ ((value ≡ poison) × IsFreedElsewhere (logged_of_by (view_of ts)) (history_of_one steps u) u r (number_of found)))
      same gave

  pub knows_one : KnowsAll (view_of ts) ts
  knows_one = knows ts (history_of_one steps) (record {
    low = is.low;
    chained = chain_told;
    well = λ t mine. subst (λ u. IsWellFormed 262144 u) (named_is t mine) well_here;
    one_name = λ t u mine other start born. sym (named_is t mine) ∙ named_is u other;
    reads = record { freed = is.freed; own = λ t found value held some_pair. absurd (is.own t found value some_pair); ref = ref_read };
  })

  -- the one title's history, and that of another
  pub history_here : knows_one.all.history its_title ≡ steps
  unfolding knows knows_one
  history_here = refl

  pub history_there : (t : Title) → same_title its_title t ≡ false → knows_one.all.history t ≡ []
  unfolding knows knows_one
  history_there t other = rw other refl
