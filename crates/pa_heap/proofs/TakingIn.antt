-- A seat takes others in.
use Rattle.std.proofs.Common.{◌≡◌, ℕ, ◌/◌, ◌<◌, List, [], ◌++◌, length, refl, sym, ◌∙◌, ap, subst, arith, inl, inr, append-nil}
use Rattle.std.specs.List.{sum_by}
use Rattle.std.specs.Prelude.{◌==◌}
use Rattle.std.proofs.lemmas.List.Sums.{sum_by-append}
use Rattle.pa_slot.specs.declared.title.Title.{Title}
use Rattle.pa_slot.specs.Titles.{same_title, IsWellFormed}
use Rattle.pa_slot.specs.Holdings.{one}
use Rattle.pa_region.specs.declared.view.Keeper.{Keeper}
use Rattle.pa_region.specs.declared.view.OwnTitle.{OwnTitle}
use Rattle.pa_region.specs.declared.view.Stake.{Stake}
use Rattle.pa_region.specs.declared.view.View.{View}
use Rattle.pa_region.specs.Views.{Knows, free_of}
use Rattle.pa_region.specs.Pairs.{log_among}
use Rattle.pa_region.specs.Waiting.{is_unclean}
use Rattle.pa_region.specs.Lists.{list_of}
use Rattle.pa_region.specs.Hands.{united}
use Rattle.pa_region.specs.Aware.{IsAware}
use Rattle.pa_region.specs.Lending.{CanHost}
use Rattle.pa_region.proofs.HandStep.{knows_less}
use Rattle.pa_region.proofs.JoinStep.{united_parts}
use Rattle.pa_region.proofs.LendBack.{begins_on}
use Rattle.pa_region.proofs.SeenJoin.{seen_left, seen_right}
use Rattle.pa_region.proofs.TakeLaws.{left_begins, right_begins, left_known, right_known, left_whole, right_whole}
use Rattle.pa_heap.specs.Closing.{IsWithin, TakesOthersIn, LeavesPool, LeavesRoot, LeavesWorker}
use Rattle.pa_thread_state.proofs.Parking.{no_stakes}

-- a view has what it has
pub within_same : (v : View) → IsWithin v v
within_same v = record {
  frees = λ t. omega arith;
  keepers = λ k. omega arith;
  lists = λ k. ([], sym (append-nil (list_of k v)));
  own_lists = λ k has. refl;
  seen = λ t. omega arith;
  known = λ q knows. (knows, refl);
}

pub within_on : (u v w : View) → IsWithin u v → IsWithin v w → IsWithin u w
within_on u v w a b = record {
  frees = λ t. let e = a.frees t in let f = b.frees t in omega arith;
  keepers = λ k. let e = a.keepers k in let f = b.keepers k in omega arith;
  lists = λ k. begins_on (list_of k u) (list_of k v) (list_of k w) (a.lists k) (b.lists k);
  own_lists = λ k has. let e = a.keepers k in b.own_lists k (omega arith) ∙ a.own_lists k has;
  seen = λ t. let e = a.seen t in let f = b.seen t in omega arith;
  known = λ q knows. let (here, is) = a.known q knows in let (there, same) = b.known q here in (there, same ∙ is);
}

pub takes_none : (v : View) → TakesOthersIn v v
takes_none v = record { within = within_same v; stakes = λ k. refl; logs = λ k. refl; clean = refl }

pub takes_on : (u v w : View) → TakesOthersIn u v → TakesOthersIn v w → TakesOthersIn u w
takes_on u v w a b = record {
  within = within_on u v w a.within b.within;
  stakes = λ k. b.stakes k ∙ a.stakes k;
  logs = λ k. b.logs k ∙ a.logs k;
  clean = b.clean ∙ a.clean;
}

-- the first word of a free title is known
pub first_known : (n : ℕ) (v : View) (t : Title) → IsWellFormed n t → 0 < free_of v t → Knows v (t.start / 8)
first_known n v t well free =
    let a = well.start_aligned in let b = well.long in
    inr (inl (t, free, (omega arith, omega arith)))

-- two views together have what each has
pub left_within : (v w : View) → IsAware v → IsAware (united v w) → length v.words ≡ length w.words → IsWithin v (united v w)
left_within v w aware both long = record {
  frees = λ t. let e = sum_by-append (λ u. one (same_title u t)) v.frees w.frees in omega arith;
  keepers = λ k. let e = sum_by-append (λ (q : Keeper). one (q.number == k)) v.keepers w.keepers in omega arith;
  lists = λ k. left_begins v w k both;
  own_lists = λ k has. left_whole v w k aware both has;
  seen = λ t. seen_left t v.seen w.seen;
  known = λ q knows.
      (knows_less (united v w) v q (λ x. let e = (united_parts v w).things x in omega arith) knows, left_known v w q long knows);
}

pub right_within : (v w : View) → IsAware w → IsAware (united v w) → length v.words ≡ length w.words → IsWithin w (united v w)
right_within v w aware both long = record {
  frees = λ t. let e = sum_by-append (λ u. one (same_title u t)) v.frees w.frees in omega arith;
  keepers = λ k. let e = sum_by-append (λ (q : Keeper). one (q.number == k)) v.keepers w.keepers in omega arith;
  lists = λ k. right_begins v w k both;
  own_lists = λ k has. right_whole v w k aware both has;
  seen = λ t. seen_right t v.seen w.seen;
  known = λ q knows.
      (knows_less (united v w) w q (λ x. let e = (united_parts v w).things x in omega arith) knows, right_known v w q both long knows);
}

-- a note without stakes is taken in
pub joins : (v w after : View) → after ≡ united v w → CanHost w → IsAware v → IsAware w → IsAware after → length v.words ≡ length w.words →
    TakesOthersIn v after × IsWithin w after
joins v w after is host aware other both long =
    let all = subst IsAware is both in
    let none = no_stakes w.stakes host.0 in
    let stakes : v.stakes ++ w.stakes ≡ v.stakes = ap (λ (ss : List Stake). v.stakes ++ ss) none ∙ append-nil v.stakes in
    subst (λ (z : View). TakesOthersIn v z × IsWithin w z) (sym is) (
      record {
        within = left_within v w aware all long;
        stakes = λ k. ap (λ (ss : List Stake). sum_by (λ (s : Stake). one (s.number == k)) ss) stakes;
        logs = λ k. ap (λ (ss : List Stake). log_among k ss) stakes;
        clean = let e = sum_by-append (λ (o : OwnTitle). one (is_unclean o.state)) v.owns w.owns in let n = host.1 in omega arith;
      },
      right_within v w other all long,
    )

-- what was taken in stays so when more is taken in
pub pool_on : (words : ℕ) (v w : View) → {es : _} → LeavesPool words es v → IsWithin v w → LeavesPool words es w
pool_on words v w left on =
    record {
      pool = left.pool;
      entries_are = left.entries_are;
      whole = left.whole;
      kept = left.kept;
      within = within_on left.pool.view v w left.within on;
    }

pub root_on : (p : ℕ) (v w : View) → {es : _} → LeavesRoot p es v → IsWithin v w → LeavesRoot p es w
root_on p v w left on =
    record {
      root = left.root;
      journal_is = left.journal_is;
      kept = left.kept;
      spans = left.spans;
      within = within_on left.root.view v w left.within on;
    }

pub worker_on : (v w : View) → {x : _} → LeavesWorker v x → IsWithin v w → LeavesWorker w x
worker_on v w {x} left on = record { stock = left.stock; links = left.links; within = within_on x.stock.view v w left.within on }
