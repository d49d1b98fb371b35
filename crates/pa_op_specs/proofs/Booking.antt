-- What a worker booked to the totals words grows by what its ops owe, and a settling leaves it as it is.
use Rattle.std.proofs.Common.{◌≡◌, ℕ, ◌+◌, ◌*◌, ◌≤◌, true, List, [], ◌∷◌, ◌++◌, refl, ◌∙◌, ap, arith}
use Rattle.std.specs.Prelude.{◌==◌, Contains}
use Rattle.std.specs.List.{sum_by}
use Rattle.std.proofs.lemmas.Bool.{eq-eqb}
use Rattle.std.proofs.lemmas.List.Sums.{sum_by-cons, sum_by-append}
use Rattle.pa_slot.specs.declared.word.SlotName.{SlotName}
use Rattle.pa_lists.proofs.Members.{first_in, later_in}
use Rattle.pa_region.specs.declared.view.Entry.{Entry}
use Rattle.pa_region.specs.declared.view.Entry.TheVariants.{Counted, Looked, Read, Added, Entered, Uncut}
use Rattle.pa_region.specs.Takes.{log_of}
use Rattle.pa_region.specs.Totals.{is_of_kind, owes_as, added_as, added_to}
use Rattle.pa_rules.specs.declared.played.Played.{Played}
use Rattle.pa_legal.specs.Tallies.{bytes_of}
use Rattle.pa_logs.specs.Told.{ToldRecord}
use Rattle.pa_logs.specs.Touches.{step_by}
use Rattle.pa_totals.specs.declared.owed.Owed.{Owed}
use Rattle.pa_totals.specs.Settled.{owed_in}
use Rattle.pa_op_specs.specs.Stocks.{StockValue}
use Rattle.pa_op_specs.specs.Workers.{WorkerValue, HasItsStake, IsCovered}
use Rattle.pa_op_specs.specs.Booking.{BooksBy}
use Rattle.pa_op_specs.specs.Owing.{AddsNothing, bytes_stepped, owed_by}
use Rattle.pa_op_specs.specs.Plays.{Does}
use Rattle.pa_op_specs.proofs.Counting.{OwesBy, weight_append}

-- ---- a log segment without additions

sum_none : (f : Entry → ℕ) (es : List Entry) → ((e : Entry) → Contains es e → f e ≡ 0) → sum_by f es ≡ 0
sum_none f [] each = refl
sum_none f (e ∷ es) each =
    let a = each e (first_in e es) in
    let b = sum_none f es (λ g among. each g (later_in e g es among)) in
    let c = sum_by-cons f e es in
    omega arith

to_none : (k : ℕ) (es : List Entry) → AddsNothing es → (e : Entry) → Contains es e → added_to k e ≡ 0
to_none k es none (Counted t step found value) among = refl
to_none k es none (Looked t found) among = refl
to_none k es none (Read t place value since owned unclean) among = refl
to_none k es none (Added word bytes) among = absurd (none word bytes among)
to_none k es none (Entered keeper made) among = refl
to_none k es none (Uncut t) among = refl

as_none : (q : ℕ) (es : List Entry) → AddsNothing es → (e : Entry) → Contains es e → added_as q e ≡ 0
as_none q es none (Counted t step found value) among = refl
as_none q es none (Looked t found) among = refl
as_none q es none (Read t place value since owned unclean) among = refl
as_none q es none (Added word bytes) among = absurd (none word bytes among)
as_none q es none (Entered keeper made) among = refl
as_none q es none (Uncut t) among = refl

-- ---- an op

-- the log of its thread's stake has the op's log segment besides
own_log : (before after : StockValue) (x : ToldRecord) → Does before after x →
    log_of after.thread after.view ≡ log_of before.thread before.view ++ x.stretch
own_log before after x does =
    let own : (before.thread == before.thread) ≡ true = eq-eqb before.thread before.thread refl in
    let logs : log_of before.thread after.view ≡ log_of before.thread before.view ++ x.stretch = does.logs before.thread ∙ rw own refl in
    ap (λ (n : ℕ). log_of n after.view) does.same.0 ∙ logs

-- an op books what it owes
pub op_books : (home size : SlotName → ℕ) (x : ToldRecord) (before after : WorkerValue) → Does before.stock after.stock x →
    AddsNothing x.stretch →
    OwesBy home size (x.played ∷ []) before.owed after.owed → BooksBy home size (x.played ∷ []) before after
op_books home size x before after does none owes p q low kind =
    let k = 4 * p + q in
    let log = log_of before.stock.thread before.stock.view in
    let a : sum_by (added_to k) (log_of after.stock.thread after.stock.view) ≡ sum_by (added_to k) (log ++ x.stretch) =
    ap (sum_by (added_to k)) (own_log before.stock after.stock x does) in
    let b = sum_by-append (added_to k) log x.stretch in
    let c = sum_none (added_to k) x.stretch (to_none k x.stretch none) in
    let d = owes p q low kind in
    omega arith

-- what is owed after it may still be added
pub op_covered : (before after : StockValue) (x : ToldRecord) (os ps : List Owed) → Does before after x → AddsNothing x.stretch →
    ((q : ℕ) → owed_in q ps ≤ owed_in q os + owed_by q (step_by x.played) (bytes_stepped before.registers x.played.op x.played.answer)) →
    HasItsStake before → IsCovered os before → IsCovered ps after
op_covered before after x os ps does none less stake covered has q =
    let log = log_of before.thread before.view in
    let own = own_log before after x does in
    let a : sum_by (added_as q) (log_of after.thread after.view) ≡ sum_by (added_as q) (log ++ x.stretch) = ap (sum_by (added_as q)) own in
    let b : sum_by (owes_as q) (log_of after.thread after.view) ≡ sum_by (owes_as q) (log ++ x.stretch) = ap (sum_by (owes_as q)) own in
    let c = sum_by-append (added_as q) log x.stretch in
    let d = sum_by-append (owes_as q) log x.stretch in
    let e = sum_none (added_as q) x.stretch (as_none q x.stretch none) in
    let f = does.owes q in
    let g = less q in
    let h = covered stake q in
    omega arith

-- ---- ops one after the other

pub books_none : (home size : SlotName → ℕ) (w : WorkerValue) → BooksBy home size [] w w
books_none home size w p q low kind = omega arith

pub books_append : (home size : SlotName → ℕ) (xs ys : List Played) (u v w : WorkerValue) → BooksBy home size xs u v →
    BooksBy home size ys v w →
    BooksBy home size (xs ++ ys) u w
books_append home size xs ys u v w first rest p q low kind =
    let s = weight_append (is_of_kind q) (bytes_of home size p) xs ys in
    let a = first p q low kind in
    let b = rest p q low kind in
    omega arith
