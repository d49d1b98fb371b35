-- What is weighed over the logs of a view with every stake is weighed over the records.
use Rattle.std.proofs.Common.{◌≡◌, ℕ, ◌+◌, List, [], ◌∷◌, refl, sym, ◌∙◌, ap, arith, inl, inr, eqb}
use Rattle.std.specs.Prelude.{if◌then◌else◌, Contains}
use Rattle.std.specs.List.{sum_by}
use Rattle.std.specs.List.{AllByRecursion as Each}
use Rattle.std.proofs.lemmas.List.Sums.{sum_by-cons, sum_by-append}
use Rattle.std.proofs.lemmas.Bool.{cases_Bool}
use Rattle.std.proofs.lemmas.Bool.Decides.{eqb_tells}
use Rattle.pa_slot.specs.Holdings.{one}
use Rattle.pa_lists.proofs.Members.{first_in, later_in}
use Rattle.pa_region.specs.declared.view.Entry.{Entry}
use Rattle.pa_region.specs.declared.view.Stake.{Stake}
use Rattle.pa_region.proofs.Adding.{sum_split, sum_none}
use Rattle.pa_logs.specs.Told.{ToldRecord, is_of_thread, log_of, told_of, LogsAreTold}

-- what a log has of the first record, and of the others
abbrev part : ℕ → ℕ → ℕ → ℕ
part thread amount k = if eqb thread k then amount else 0

-- the log of a thread weighs what its first record's log segment does, if that is its own, and the rest
log_sum : (weight : Entry → ℕ) (k : ℕ) (x : ToldRecord) (ts : List ToldRecord) →
    part x.played.thread (sum_by weight x.stretch) k + sum_by weight (log_of k ts) ≡ sum_by weight (log_of k (x ∷ ts))
log_sum weight k x ts = elim (cases_Bool (is_of_thread k x)) [
  | inl y ↦ rw y (sym (sum_by-append weight x.stretch (log_of k ts)))
  | inr n ↦ rw n (omega arith)
]

-- one stake of a thread has the amount once
part_once : (thread amount : ℕ) (ss : List Stake) → sum_by (λ (s : Stake). one (eqb s.number thread)) ss ≡ 0 →
    sum_by (λ (s : Stake). part thread amount s.number) ss ≡ 0
part_once thread amount [] none = refl
part_once thread amount (s ∷ ss) none =
    let c = sum_by-cons (λ (x : Stake). one (eqb x.number thread)) s ss in
    let d = sum_by-cons (λ (x : Stake). part thread amount x.number) s ss in
    elim (eqb_tells s.number thread) [
      | inl y ↦ let z : one (eqb s.number thread) ≡ 1 = ap one y.0 in absurd (omega arith)
      | inr n ↦
          let again = part_once thread amount ss (omega arith) in
          let here : part thread amount s.number ≡ 0 =
          elim (eqb_tells thread s.number) [ inl y ↦ absurd (n.1 (sym y.1)) | inr m ↦ rw m.0 refl ] in
          omega arith
    ]

part_sum : (thread amount : ℕ) (ss : List Stake) → sum_by (λ (s : Stake). one (eqb s.number thread)) ss ≡ 1 →
    sum_by (λ (s : Stake). part thread amount s.number) ss ≡ amount
part_sum thread amount [] e = absurd (omega arith)
part_sum thread amount (s ∷ ss) e =
    let c = sum_by-cons (λ (x : Stake). one (eqb x.number thread)) s ss in
    let d = sum_by-cons (λ (x : Stake). part thread amount x.number) s ss in
    elim (eqb_tells s.number thread) [
      | inl y ↦
          let z : one (eqb s.number thread) ≡ 1 = ap one y.0 in
          let none = part_once thread amount ss (omega arith) in
          let here : part thread amount s.number ≡ amount =
          elim (eqb_tells thread s.number) [ inl m ↦ rw m.0 refl | inr n ↦ absurd (n.1 (sym y.1)) ] in
          omega arith
      | inr n ↦
          let z : one (eqb s.number thread) ≡ 0 = ap one n.0 in
          let again = part_sum thread amount ss (omega arith) in
          let here : part thread amount s.number ≡ 0 =
          elim (eqb_tells thread s.number) [ inl y ↦ absurd (n.1 (sym y.1)) | inr m ↦ rw m.0 refl ] in
          omega arith
    ]

-- the logs of these stakes weigh what the records do, if each record's thread has one of them
stakes_sum : (weight : Entry → ℕ) (ss : List Stake) (ts : List ToldRecord) →
    ((x : ToldRecord) → Contains ts x → sum_by (λ (s : Stake). one (eqb s.number x.played.thread)) ss ≡ 1) →
    sum_by (λ (s : Stake). sum_by weight (log_of s.number ts)) ss ≡ told_of ts weight
stakes_sum weight ss [] each = sum_none (λ (s : Stake). sum_by weight (log_of s.number [])) ss (λ s. refl)
stakes_sum weight ss (x ∷ ts) each =
    let amount = sum_by weight x.stretch in
    let again = stakes_sum weight ss ts (λ y among. each y (later_in x y ts among)) in
    let mine = part_sum x.played.thread amount ss (each x (first_in x ts)) in
    let both = sum_split (λ (s : Stake). part x.played.thread amount s.number) (λ (s : Stake). sum_by weight (log_of s.number ts))
    (λ (s : Stake). sum_by weight (log_of s.number (x ∷ ts))) ss (λ s. log_sum weight s.number x ts) in
    let c = sum_by-cons (λ (y : ToldRecord). sum_by weight y.stretch) x ts in
    omega arith

-- the stakes have these logs
own_logs : (weight : Entry → ℕ) (ts : List ToldRecord) (ss : List Stake) → Each (λ (s : Stake). s.log ≡ log_of s.number ts) ss →
    sum_by (λ (s : Stake). sum_by weight s.log) ss ≡ sum_by (λ (s : Stake). sum_by weight (log_of s.number ts)) ss
own_logs weight ts [] each = refl
own_logs weight ts (s ∷ ss) each =
    let again = own_logs weight ts ss each.1 in
    let here : sum_by weight s.log ≡ sum_by weight (log_of s.number ts) = ap (λ log. sum_by weight log) each.0 in
    let c = sum_by-cons (λ (y : Stake). sum_by weight y.log) s ss in
    let d = sum_by-cons (λ (y : Stake). sum_by weight (log_of y.number ts)) s ss in
    omega arith

pub logs_are_told : LogsAreTold
logs_are_told v ts weight are =
    own_logs weight ts v.stakes are.logs
    ∙ stakes_sum weight v.stakes ts (λ x among. let some_stake = are.every x.played.thread (are.threads x among) in
    let few = are.once x.played.thread in omega arith)
