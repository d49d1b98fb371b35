-- Ops that were played one after the other.
use Rattle.std.proofs.Common.{◌≡◌, ℕ, List, [], ◌∷◌, ◌++◌, sym, ◌∙◌, ap, subst, inl, inr}
use Rattle.std.specs.Prelude.{Contains}
use Rattle.std.proofs.lemmas.List.{append-nil, append_assoc}
use Rattle.pa_lists.proofs.Members.{in_cases, not_in_none, first_in, later_in}
use Rattle.pa_region.specs.declared.view.Made.{Made}
use Rattle.pa_region.specs.declared.view.View.{View}
use Rattle.pa_region.specs.Lists.{list_of, IsBeginning}
use Rattle.pa_logs.specs.Told.{ToldRecord, played_in}
use Rattle.pa_logs.specs.Touches.{AreTold, IsTold}
use Rattle.pa_logs.specs.Rows.{HasRows}
use Rattle.pa_logs.specs.Reported.{CacheLeadsTo}
use Rattle.pa_step_order.specs.Signs.{HasItsSigns}
use Rattle.pa_op_specs.specs.Stocks.{regs_of, listed_in}
use Rattle.pa_op_specs.specs.Workers.{WorkerValue}
use Rattle.pa_op_specs.specs.Counts.{CountsBy}
use Rattle.pa_op_specs.specs.Booking.{BooksBy}
use Rattle.pa_op_specs.specs.Outcomes.{Outcome, IsSeenOf, FitsRun, row_facts}
use Rattle.pa_op_specs.specs.Plays.{PlaysOne, PlaysSome, PlaysAll, AnswersIn}
use Rattle.pa_op_specs.specs.Following.{FitsAll}
use Rattle.pa_op_specs.proofs.Counting.{counts_none, counts_append}
use Rattle.pa_op_specs.proofs.Booking.{books_none, books_append}

pub composes : (w u v : WorkerValue) (xs ys : List ToldRecord) → PlaysAll w xs u → PlaysAll u ys v → PlaysAll w (xs ++ ys) v
composes w u v [] ys same rest = subst (λ z. PlaysAll z ys v) same rest
composes w u v (x ∷ xs) ys (next, one, leads, more) rest = (next, one, leads, composes next u v xs ys more rest)

-- ops that each led the worker's lists are some ops
pub some : (w v : WorkerValue) (xs : List ToldRecord) → PlaysAll w xs v → PlaysSome w xs v
some w v [] same = same
some w v (x ∷ xs) (next, one, leads, more) = (next, one, some next v xs more)

-- a worker forgets nothing of any list
begins : (w v : WorkerValue) (xs : List ToldRecord) → PlaysSome w xs v → (k : ℕ) →
    IsBeginning (list_of k w.stock.view) (list_of k v.stock.view)
begins w v [] same k = ([], ap (λ (z : WorkerValue). list_of k z.stock.view) same ∙ sym (append-nil (list_of k w.stock.view)))
begins w v (x ∷ xs) (next, one, more) k =
    let (a, e) = one.does.lists k in
    let (b, f) = begins next v xs more k in
    (a ++ b, f ∙ (ap (λ l. l ++ b) e ∙ append_assoc (list_of k w.stock.view) a b))

-- what has seen less has seen it of the same run
place_on : (list later older rest : List Made) (m : Made) → IsBeginning list later → list ≡ older ++ m ∷ rest → (more : List Made) ×
    (later ≡ older ++ m ∷ more)
place_on list later older rest m (more, e) at = (rest ++ more, e ∙ (ap (λ l. l ++ more) at ∙ append_assoc older (m ∷ rest) more))

pub seen_before : (o : Outcome) (v w : View) → ((k : ℕ) → IsBeginning (list_of k v) (list_of k w)) → IsSeenOf o w → IsSeenOf o v
seen_before o v w begin seen = record {
  roots = λ p older rest m e low at says. let (more, on) = place_on (list_of p v) (list_of p w) older rest m (begin p) at in
      seen.roots p older more m e low on says;
  pools = λ older rest m e at says. let (more, on) = place_on (list_of 4 v) (list_of 4 w) older rest m (begin 4) at in
      seen.pools older more m e on says;
  exchanges = λ older rest m e at says. let (more, on) = place_on (list_of 5 v) (list_of 5 w) older rest m (begin 5) at in
      seen.exchanges older more m e on says;
}

-- the run fits the first op, and the rest
first_fits : (o : Outcome) (w next v : WorkerValue) (x : ToldRecord) (xs : List ToldRecord) → PlaysOne w next x → PlaysSome next xs v →
    FitsAll o w.stock.partitions v.stock.view (x ∷ xs) →
    FitsRun o w.stock.partitions next.stock.view x × FitsAll o next.stock.partitions v.stock.view xs
first_fits o w next v x xs one more fits = (
  record {
    many = fits.many;
    rules = fits.rules x (first_in x xs);
    run = fits.run;
    seen = seen_before o next.stock.view v.stock.view (begins next v xs more) fits.seen;
    acts = fits.acts x (first_in x xs);
  },
  record {
    many = fits.many ∙ sym one.does.same.1;
    rules = λ y among. fits.rules y (later_in x y xs among);
    run = fits.run;
    seen = fits.seen;
    acts = λ y among. fits.acts y (later_in x y xs among);
  },
)

-- the first op's answer, and that the rest fits
pub first_answer : (o : Outcome) (w next v : WorkerValue) (x : ToldRecord) (xs : List ToldRecord) → PlaysOne w next x →
    PlaysSome next xs v →
    FitsAll o w.stock.partitions v.stock.view (x ∷ xs) →
    AnswersIn o w.stock next.stock x × FitsAll o next.stock.partitions v.stock.view xs
first_answer o w next v x xs one more fits =
    let (first, rest) = first_fits o w next v x xs one more fits in
    (one.does.answers o first, rest)

pub rows : (o : Outcome) (w v : WorkerValue) (xs : List ToldRecord) → PlaysSome w xs v → FitsAll o w.stock.partitions v.stock.view xs →
    HasRows (row_facts o) (regs_of w.stock.registers) (played_in xs)
rows o w v [] plays fits = tt
rows o w v (x ∷ xs) (next, one, more) fits =
    let (answer, rest) = first_answer o w next v x xs one more fits in
    (regs_of next.stock.registers, answer.row, rows o next v xs more rest)

pub lists : (o : Outcome) (w v : WorkerValue) (xs : List ToldRecord) → PlaysAll w xs v → FitsAll o w.stock.partitions v.stock.view xs →
    CacheLeadsTo o.partitions o.roots (listed_in w.stock) (played_in xs) (listed_in v.stock)
lists o w v [] same fits = ap (λ (z : WorkerValue). listed_in z.stock) same
lists o w v (x ∷ xs) (next, one, leads, more) fits =
    let (first, rest) = first_fits o w next v x xs one (some next v xs more) fits in
    (listed_in next.stock, leads.row o first, lists o next v xs more rest)

-- each log segment has its entries in their order
pub in_order : (o : Outcome) (w v : WorkerValue) (xs : List ToldRecord) → PlaysAll w xs v →
    FitsAll o w.stock.partitions v.stock.view xs → (x : ToldRecord) → Contains xs x → HasItsSigns o.partitions o.roots x
in_order o w v [] plays fits x among = absurd (not_in_none x among)
in_order o w v (y ∷ ys) (next, one, leads, more) fits x among =
    let (first, rest) = first_fits o w next v y ys one (some next v ys more) fits in
    elim (in_cases y x ys among) [
      | inl same ↦ subst (HasItsSigns o.partitions o.roots) same (leads.signs o first)
      | inr later ↦ in_order o next v ys more rest x later
    ]

pub told : (o : Outcome) (w v : WorkerValue) (xs : List ToldRecord) → PlaysSome w xs v → FitsAll o w.stock.partitions v.stock.view xs →
    AreTold o.sizes xs
told o w v [] plays fits = λ x among. absurd (not_in_none x among)
told o w v (y ∷ ys) (next, one, more) fits = λ x among.
    let (answer, rest) = first_answer o w next v y ys one more fits in
    elim (in_cases y x ys among) [
      | inl same ↦ subst (IsTold o.sizes) same answer.told
      | inr later ↦ told o next v ys more rest x later
    ]

pub counts : (o : Outcome) (w v : WorkerValue) (xs : List ToldRecord) → PlaysSome w xs v → FitsAll o w.stock.partitions v.stock.view xs →
    CountsBy o.homes (played_in xs) w.counts v.counts
counts o w v [] same fits = subst (λ (z : WorkerValue). CountsBy o.homes [] w.counts z.counts) (sym same) (counts_none o.homes w.counts)
counts o w v (x ∷ xs) (next, one, more) fits =
    let (first, rest) = first_fits o w next v x xs one more fits in
    counts_append o.homes (x.played ∷ []) (played_in xs) w.counts next.counts v.counts (one.counts o first) (counts o next v xs more rest)

pub bytes : (o : Outcome) (w v : WorkerValue) (xs : List ToldRecord) → PlaysSome w xs v → FitsAll o w.stock.partitions v.stock.view xs →
    BooksBy o.homes o.sizes (played_in xs) w v
bytes o w v [] same fits = subst (λ (z : WorkerValue). BooksBy o.homes o.sizes [] w z) (sym same) (books_none o.homes o.sizes w)
bytes o w v (x ∷ xs) (next, one, more) fits =
    let (first, rest) = first_fits o w next v x xs one more fits in
    books_append o.homes o.sizes (x.played ∷ []) (played_in xs) w next v (one.bytes o first) (bytes o next v xs more rest)
