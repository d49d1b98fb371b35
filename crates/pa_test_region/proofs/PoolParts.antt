-- What the tests' calls leave.
use Rattle.std.proofs.Common.{◌≡◌, ℕ, ◌+◌, ◌++◌, List, [], ◌∷◌, arith, sym, ◌∙◌, ap, subst, append-nil}
use Rattle.std.specs.Prelude.{Result, Ok, Err, IfOk, IfSome, Option}
use Rattle.std.specs.Result.{result_ok}
use Rattle.pa_region.specs.declared.marks.Mark.{Mark}
use Rattle.pa_region.specs.declared.marks.Mark.TheVariants.{Stake, Keeper}
use Rattle.pa_region.specs.declared.view.View.{View}
use Rattle.pa_region.specs.Lists.{list_of, IsBeginning}
use Rattle.pa_region.specs.Hands.{given_after}
use Rattle.pa_region.specs.Marks.{parcel_of}
use Rattle.pa_region.specs.Lending.{CanLend}
use Rattle.pa_region.specs.Start.{first_view}
use Rattle.pa_region.specs.Shares.{Share}
use Rattle.pa_pool.specs.Calls.{IsNoteOf, HasSeenTake, ComesBack}
use Rattle.pa_pool.specs.Pools.{PoolValue}
use Rattle.pa_pool.proofs.RawBytes.{low_rises}
use Rattle.pa_pool.proofs.Gave.{seen_stays}

-- who is as before has seen what it had seen
pub begins_same : (a b : Share) → b ≡ a → IsBeginning (list_of 4 a.view) (list_of 4 b.view)
begins_same a b same = (
  [],
  subst (λ (s : Share). list_of 4 s.view ≡ list_of 4 a.view ++ []) (sym same) (sym (append-nil (list_of 4 a.view))),
)

-- the note of a take can come back at once
pub comes_back : (partition first count index : ℕ) (seat note : View) (p : PoolValue) → HasSeenTake partition index first count seat
    → IsNoteOf first count index note p → ComesBack partition index first count seat note
comes_back partition first count index seat note p seen is = record {
  seen = seen;
  run = record {
    raw = λ b within. let l = is.run.raw b within in let r = low_rises note b index (index + 1) (omega arith) in omega arith;
    leases = is.run.leases;
    stakes = is.run.stakes;
    keepers = is.run.keepers;
    titles = is.run.titles;
    budget = is.run.budget;
  };
}

-- what holds of a result that is Ok holds of its value
pub some_of : {A B : Type 0} (r : Result A B) (o : Option A) (P Q R : A → Type 0) → o ≡ result_ok r → IfOk r P → IfOk r Q →
    ((x : A) → P x → Q x → R x) → IfSome o R
some_of (Ok x) o P Q R e p q f = subst (λ y. IfSome y R) (sym e) (f x p q)
some_of (Err y) o P Q R e p q f = subst (λ z. IfSome z R) (sym e) tt

-- what can come back can come back later
pub stays_back : (partition taken first count : ℕ) (v w note : View) → IsBeginning (list_of 4 v) (list_of 4 w)
    → ComesBack partition taken first count v note → ComesBack partition taken first count w note
stays_back partition taken first count v w note begins back =
    record { seen = seen_stays partition taken first count v w begins back.seen; run = back.run }

-- all that a pool's seat doesn't have
abbrev pub others : List Mark
others =
    Stake 0 ∷ Stake 1 ∷ Stake 2 ∷ Stake 3 ∷ Stake 4 ∷ Stake 5 ∷ Stake 6 ∷ Stake 7 ∷ Stake 8 ∷ Stake 9 ∷ Stake 10 ∷ Stake 11 ∷ Stake 12 ∷
    Stake 13 ∷ Stake 14 ∷ Stake 15 ∷ Keeper 0 ∷ Keeper 1 ∷ Keeper 2 ∷ Keeper 3
    ∷ Keeper 5 ∷ []

-- a view that gets it can lend a stake
pub others_lend : (v w z : View) → v ≡ w → w ≡ given_after (parcel_of [] 0 others) z → z ≡ first_view 1048576 0 → CanLend v
others_lend v w z e f g =
    subst (λ (x : View). CanLend x) (sym (e ∙ (f ∙ ap (λ (x : View). given_after (parcel_of [] 0 others) x) g))) (omega arith, omega arith)
