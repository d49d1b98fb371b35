-- A record's log segment in its thread's log, and logs up to a phase.
use Rattle.std.proofs.Common.{◌≡◌, ℕ, zero, suc, ◌<◌, ◌≤◌, Bool, true, List, [], ◌∷◌, ◌++◌, refl, sym, ◌∙◌, ap, subst, arith, inl, inr, filter, flat_map}
use Rattle.std.specs.Prelude.{Contains}
use Rattle.std.specs.List.{sum_by}
use Rattle.std.specs.List.{AllByRecursion as Each}
use Rattle.std.proofs.lemmas.List.Concat.{flat_map-append}
use Rattle.std.proofs.lemmas.List.Elements.{filter-append}
use Rattle.std.proofs.lemmas.List.Sums.{sum_by-cons}
use Rattle.std.proofs.lemmas.Bool.{cases_Bool, eq-eqb, eqb-true}
use mathlib.Core.Option.{some, some-injective, some-ne-none}
use lib.ListN.{get_elem?}
use Rattle.pa_lists.proofs.Parts.{parts_at}
use Rattle.pa_lists.proofs.Joined.{filter_cases, flat_cases}
use Rattle.pa_region.specs.declared.view.Entry.{Entry}
use Rattle.pa_region.specs.declared.view.Stake.{Stake}
use Rattle.pa_region.specs.declared.view.View.{View}
use Rattle.pa_region.proofs.OneLog.{some_member}
use Rattle.pa_region.proofs.OneRead.{one_true}
use Rattle.pa_logs.specs.Told.{ToldRecord, is_of_thread, log_of, AreLogs}
use Rattle.pa_logs.proofs.Sums.{sum_some}

module _ {A : Type 0} where
  -- what holds of each member holds of one at a place
  pub each_at : (P : A → Type 0) (xs : List A) (i : ℕ) (x : A) → Each P xs → get_elem? xs i ≡ some x → P x
  each_at P [] i x each at_i = absurd (some-ne-none x (sym at_i))
  each_at P (y ∷ ys) zero x each at_i = subst P (some-injective y x at_i) each.0
  each_at P (y ∷ ys) (suc i) x each at_i = each_at P ys i x each.1 at_i

  -- a sum over the members that pass isn't more than over all
  pub filter_less : (test : A → Bool) (f : A → ℕ) (xs : List A) → sum_by f (filter test xs) ≤ sum_by f xs
  filter_less test f [] = omega arith
  filter_less test f (x ∷ xs) =
      let again = filter_less test f xs in
      let c = sum_by-cons f x xs in
      elim (cases_Bool (test x)) [
        | inl y ↦ let d = sum_by-cons f x (filter test xs) in rw y (omega arith)
        | inr n ↦ rw n (omega arith)
      ]

-- the log of a thread goes through the records in order
log_append : (k : ℕ) (xs ys : List ToldRecord) → log_of k (xs ++ ys) ≡ log_of k xs ++ log_of k ys
log_append k xs ys =
    let stretch : ToldRecord → List Entry = λ x. x.stretch in
    ap (λ zs. flat_map stretch zs) (filter-append (is_of_thread k) xs ys) ∙
    flat_map-append stretch (filter (is_of_thread k) xs) (filter (is_of_thread k) ys)

log_first : (k : ℕ) (x : ToldRecord) (ts : List ToldRecord) → is_of_thread k x ≡ true → log_of k (x ∷ ts) ≡ x.stretch ++ log_of k ts
log_first k x ts mine = rw mine refl

-- a record's log segment is in its thread's log
pub stretch_at : (k : ℕ) (ts : List ToldRecord) (x : ToldRecord) → Contains ts x → x.played.thread ≡ k → (before later : List Entry) ×
    (log_of k ts ≡ before ++ (x.stretch ++ later))
stretch_at k ts x among mine =
    let (front, rest, parts) = parts_at ts x among in (
      log_of k front,
      log_of k rest,
      ap (log_of k) parts ∙ (log_append k front (x ∷ rest) ∙
          ap (λ es. log_of k front ++ es) (log_first k x rest (eq-eqb x.played.thread k mine))),
    )

-- an entry of a thread's log is of one of its records
pub log_from : (k : ℕ) (ts : List ToldRecord) (weight : Entry → ℕ) → 0 < sum_by weight (log_of k ts) →
    (x : ToldRecord) × (e : Entry) × Contains ts x × (x.played.thread ≡ k) × Contains x.stretch e × (0 < weight e)
log_from k ts weight some_weight =
    let (e, among, here) = sum_some weight (log_of k ts) some_weight in
    let (x, member, within) = flat_cases (λ (y : ToldRecord). y.stretch) (filter (is_of_thread k) ts) e among in
    let (there, mine) = filter_cases (is_of_thread k) ts x member in
    (x, e, there, eqb-true x.played.thread k mine, within, here)

-- the stake of a thread, at its place
pub stake_at : (v : View) (ts : List ToldRecord) (k : ℕ) → AreLogs v ts → k < 16 → (i : ℕ) × (s : Stake) × (get_elem? v.stakes i ≡ some s) ×
    (s.number ≡ k) × (s.log ≡ log_of k ts)
stake_at v ts k are low =
    let (i, s, at_i, is) = some_member _ v.stakes (are.every k low) in
    let mine : s.number ≡ k = eqb-true s.number k (one_true _ is) in
    let log = each_at (λ (z : Stake). z.log ≡ log_of z.number ts) v.stakes i s are.logs at_i in
    (i, s, at_i, mine, log ∙ ap (λ n. log_of n ts) mine)
