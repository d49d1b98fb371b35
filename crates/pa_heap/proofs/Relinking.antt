-- Stores of links leave what was said of a view: what an op made in logs and lists, and what it gave a register's slot.
use Rattle.std.proofs.Common.{◌≡◌, ℕ, ◌<◌, List, refl, sym, ap, subst, arith}
use Rattle.pa_slot.specs.declared.title.Title.{Title}
use Rattle.pa_record.specs.declared.root.RootAct.{RootAct}
use Rattle.pa_region.specs.declared.view.Entry.{Entry}
use Rattle.pa_region.specs.declared.view.Entry.TheVariants.{Counted, Looked, Read, Added, Entered, Uncut}
use Rattle.pa_region.specs.declared.view.View.{View}
use Rattle.pa_region.specs.Views.{seen_of}
use Rattle.pa_link.specs.Chains.{Relinked}
use Rattle.pa_link.proofs.Gaps.{free_same}
use Rattle.pa_cells.specs.declared.handle.Handle.{Handle}
use Rattle.pa_op_specs.specs.Stocks.{StockValue, WorkerLists}
use Rattle.pa_op_specs.proofs.Entered.{TellsOf, Entering}
use Rattle.pa_op_specs.proofs.Seeing.{made_kept}
use Rattle.pa_op_specs.proofs.Touching.{Touched, Touches}
use Rattle.pa_thread_state.specs.Changes.{IsBack}
use Rattle.pa_heap.proofs.Issuing.{Bringing}

-- if w is v with other links stored in its free titles, v is w with other links stored in its free titles
pub relinked_back : (v w : View) → Relinked v w → Relinked w v
relinked_back v w re = record {
  rest = ap (λ (x : View). record x { words = v.words; since = record x.since { stored = v.since.stored } }) (sym re.rest);
  long = sym re.long;
  others = λ q free. sym (re.others q (λ t has. free t (subst (λ n. 0 < n) (sym (free_same v w re t)) has)));
}

-- what an entry says is said of seen numbers
touches_to : (v w x : View) → ((t : Title) → seen_of x t ≡ seen_of w t) → (e : Entry) → Touches v w e → Touches v x e
touches_to v w x same (Counted t step found value) is = let e = same t in let f = is.1 in (is.0, omega arith)
touches_to v w x same (Looked t found) is = let e = same t in let f = is.1 in (is.0, omega arith)
touches_to v w x same (Read t place value since owned unclean) is = tt
touches_to v w x same (Added word bytes) is = absurd is
touches_to v w x same (Entered keeper made) is = absurd is
touches_to v w x same (Uncut t) is = absurd is

tells_to : (line : ℕ) (v w x : View) → ((t : Title) → seen_of x t ≡ seen_of w t) → (e : Entry) → TellsOf line v w e → TellsOf line v x e
tells_to line v w x same (Counted t step found value) is = let e = same t in let f = is.1 in (is.0, omega arith)
tells_to line v w x same (Looked t found) is = let e = same t in let f = is.1 in (is.0, omega arith)
tells_to line v w x same (Read t place value since owned unclean) is = tt
tells_to line v w x same (Added word bytes) is = absurd is
tells_to line v w x same (Entered keeper made) is = is
tells_to line v w x same (Uncut t) is = tt

-- what an op made that entered nothing
pub touched_relinked : (stake : ℕ) (es : List Entry) (v w x : View) → Relinked w x → Touched stake es v w → Touched stake es v x
touched_relinked stake es v w x re touched = subst (Touched stake es v) (sym re.rest) (record {
  logs = touched.logs;
  stakes = touched.stakes;
  lists = touched.lists;
  grows = touched.grows;
  frees = touched.frees;
  numbers = touched.numbers;
  each = λ e among. touches_to v w (record w { words = x.words; since = record w.since { stored = x.since.stored } }) (λ t. refl) e
      (touched.each e among);
})

-- what an op made that entered something
pub entering_relinked : (stake line : ℕ) (es : List Entry) (v w x : View) → Relinked w x → Entering stake line es v w →
    Entering stake line es v x
entering_relinked stake line es v w x re entering = subst (Entering stake line es v) (sym re.rest) (record {
  logs = entering.logs;
  stakes = entering.stakes;
  lists = entering.lists;
  grows = entering.grows;
  each = λ e among.
      tells_to line v w (record w { words = x.words; since = record w.since { stored = x.since.stored } }) (λ t. refl) e
      (entering.each e among);
})

-- what came before an issue
pub brings_relinked : (line size : ℕ) (h : Handle) (acts : List RootAct) (es : List Entry) (s : StockValue) (v x : View)
    (cs : WorkerLists) → Relinked v x →
    Bringing line size h acts es s v cs → Bringing line size h acts es s x cs
brings_relinked line size h acts es s v x cs re brings = subst (λ (y : View). Bringing line size h acts es s y cs) (sym re.rest) (record {
  entering = subst (λ (y : View). Entering s.thread line es s.view y) re.rest
      (entering_relinked s.thread line es s.view v x re brings.entering);
  version = brings.version;
  quiet = brings.quiet;
  uncut = brings.uncut;
  asks = record {
    roots_are = brings.asks.roots_are;
    pools = brings.asks.pools;
    pools_are = brings.asks.pools_are;
    asked = brings.asks.asked;
    signs = brings.asks.signs;
  };
  makes = brings.makes;
  fills = brings.fills;
  usable = brings.usable;
  apart = λ t alone.
      let (still, same) = brings.apart t alone in
      (record { free = still.free; off = still.off; well = still.well }, same);
  lacks = brings.lacks;
  rows = brings.rows;
})

-- a slot that can be issued
pub back_relinked : (h : Handle) (s : StockValue) (x : View) → Relinked s.view x → IsBack h s → IsBack h (record s { view = x })
back_relinked h s x re back = record {
  free = subst (λ n. 0 < n) (sym (free_same s.view x re h.title)) back.free;
  new = back.new;
  made = made_kept h s.view x (ap (λ (y : View). y.seen_lists) re.rest) back.made;
}
