-- Allocations, by what the contracts of the thread state say: the op does what it should.
use Rattle.std.proofs.Common.{◌≡◌, ℕ, ◌+◌, ◌<◌, ◌≤◌, [], ◌∷◌, max, sym, ap, subst, arith}
use Rattle.std.specs.Prelude.{◌==◌}
use Rattle.std.proofs.lemmas.List.Sums.{sum_by-append}
use Rattle.pa_slot.specs.Holdings.{one}
use Rattle.pa_slot.specs.declared.title.Title.{Title}
use Rattle.pa_slot.specs.Titles.{IsWellFormed}
use Rattle.pa_buckets.specs.Classes.{IsClassIn}
use Rattle.pa_buckets.specs.Bands.{fill_of}
use Rattle.pa_direct.specs.Shapes.{greatest_size, shape_of}
use Rattle.pa_rules.specs.Sizes.{IsMapSize}
use Rattle.pa_trace.specs.declared.script.Op.TheVariants as ops
use Rattle.pa_record.specs.declared.entry.Answer.{Answer}
use Rattle.pa_region.specs.declared.view.Stake.{Stake}
use Rattle.pa_region.specs.declared.view.View.{View}
use Rattle.pa_region.specs.Views.{stake_of}
use Rattle.pa_region.specs.Hands.{united}
use Rattle.pa_region.specs.Aware.{IsAware}
use Rattle.pa_region.specs.Leaves.{CountLeaves, SealedLeaves}
use Rattle.pa_cells.specs.declared.handle.Handle.{Handle}
use Rattle.pa_op_specs.specs.Stocks.{StockValue, IsStock, HasNoHandle, register_in, listed_slot}
use Rattle.pa_op_specs.specs.Workers.{HasItsStake}
use Rattle.pa_thread_state.specs.Changes.{IsBack}
use Rattle.pa_thread_state.specs.Allocating.{TakesFront, FillsList, MapsTitle, Issues, with_listed}
use Rattle.pa_op_specs.specs.Plays.{DoesOp}
use Rattle.pa_heap.proofs.Issuing.{issued_does}
use Rattle.pa_heap.proofs.Relinking.{relinked_back, brings_relinked, back_relinked}
use Rattle.pa_heap.proofs.Taking.{front_back, front_brings}
use Rattle.pa_thread_state.proofs.Chained.{stock_relinked}
use Rattle.pa_thread_state.proofs.Fetching.{fill_asking, mapped_slot, map_asking, map_back}
use Rattle.pa_heap.proofs.Fetching.{fill_back, fill_brings, map_brings}

-- What is known of a thread's state to which a title came, before and after.
pub record Came (s mid : StockValue) (r : ℕ) : Type 0 where
  pub stock : IsStock s
  pub aware : IsAware s.view
  pub stake : HasItsStake s
  pub bare : HasNoHandle (register_in s.registers r)
  pub below : r < 64
  pub now : IsStock mid
  pub now_aware : IsAware mid.view

-- the seat has what an issue to register r needs: the title back, its stake, a bare register, and no less budget than before
pub record CanIssueTo (h : Handle) (s mid : StockValue) (r : ℕ) : Type 0 where
  pub back : IsBack h mid
  pub stake : HasItsStake mid
  pub bare : HasNoHandle (register_in mid.registers r)
  pub budget : s.view.budget ≤ mid.view.budget

-- two together have the stakes of both
united_stakes : (v n : View) (k : ℕ) → stake_of v k ≤ stake_of (united v n) k
united_stakes v n k = omega (arith, sum_by-append (λ (x : Stake). one (x.number == k)) v.stakes n.stakes)

-- ---- the front of a list

pub front_issues : (p c r : ℕ) (t : Title) (s mid : StockValue) → TakesFront p c t s mid → p < 4 → Came s mid r →
    CanIssueTo (listed_slot p c t) s mid r
front_issues p c r t s mid front low came = record {
  back = front_back s mid p c t came.stock low front;
  stake = subst (λ (z : StockValue). HasItsStake z) (sym front.after_is) came.stake;
  bare = subst (λ (z : StockValue). HasNoHandle (register_in z.registers r)) (sym front.after_is) came.bare;
  budget = let e : mid.view.budget ≡ s.view.budget = ap (λ (z : StockValue). z.view.budget) front.after_is in omega arith;
}

pub front_does : CountLeaves → SealedLeaves → (line size p c r : ℕ) (t : Title) (s mid after : StockValue) (answer : Answer) →
    TakesFront p c t s mid → p < s.partitions → Came s mid r →
    size ≤ greatest_size → IsClassIn s.caches.version (max size 1 + 8) c → Issues (listed_slot p c t) r answer mid after →
    DoesOp line (ops.Alloc r p size) answer s after
front_does counts seals line size p c r t s mid after answer front inner came few class issue =
    let low : p < 4 = let most = came.stock.partitions in omega arith in
    let can = front_issues p c r t s mid front low came in
    issued_does counts seals line size r (listed_slot p c t) [] [] s mid after s.view (with_listed p c front.rest s.caches) answer
    (front_brings line size p c t s mid front came.stock low class) front.after_is came.now can.stake can.back issue inner
    came.below came.bare few

-- ---- a fill

-- what the seat is aware of in between
abbrev pub Awares : View → View → View → Type 0
Awares v u n = IsAware v × IsAware u × IsAware n × IsAware (united u n)

pub fill_awares : (line p c : ℕ) (t : Title) (s mid : StockValue) (f : FillsList line p c t s mid) →
    IsAware s.view → Awares s.view f.asked f.note
fill_awares line p c t s mid f aware = (aware, f.awares.0, f.awares.1, f.awares.2)

pub fill_issues : (line p c r : ℕ) (t : Title) (s mid : StockValue) → FillsList line p c t s mid → p < 4 → Came s mid r →
    CanIssueTo (listed_slot p c t) s mid r
fill_issues line p c r t s mid f low came =
    let awares = fill_awares line p c t s mid f came.aware in
    let asking = fill_asking line p c (fill_of c) s f.asked f.note (t ∷ f.rest) f.gives came.stock awares f.long low in
    let re = f.loaded.relinked in
    record {
      back = subst (λ (z : StockValue). IsBack (listed_slot p c t) z) (sym f.loaded.after_is)
          (back_relinked (listed_slot p c t)
          (record s { view = united f.asked f.note; caches = with_listed p c f.rest s.caches }) mid.view re
          (fill_back line p c s f.asked f.note t f.rest f.gives came.stock awares f.long low f.real));
      stake = subst (λ (z : StockValue). HasItsStake z) (sym f.loaded.after_is)
          (let e = asking.keeps.stakes s.thread in let h = came.stake in let both = united_stakes f.asked f.note s.thread in
          let same : stake_of mid.view s.thread ≡ stake_of (united f.asked f.note) s.thread =
          ap (λ (v : View). stake_of v s.thread) re.rest in omega arith);
      bare = subst (λ (z : StockValue). HasNoHandle (register_in z.registers r)) (sym f.loaded.after_is) came.bare;
      budget =
          let e : mid.view.budget ≡ f.asked.budget + f.note.budget = ap (λ (v : View). v.budget) re.rest in
          let k = asking.keeps.budget in omega arith;
    }

pub fill_does : CountLeaves → SealedLeaves → (line size p c r words : ℕ) (t : Title) (s mid after : StockValue) (answer : Answer) →
    FillsList line p c t s mid → p < s.partitions → Came s mid r →
    size ≤ greatest_size → IsClassIn s.caches.version (max size 1 + 8) c → IsWellFormed words t →
    Issues (listed_slot p c t) r answer mid after → DoesOp line (ops.Alloc r p size) answer s after
fill_does counts seals line size p c r words t s mid after answer f inner came few class well issue =
    let low : p < 4 = let most = came.stock.partitions in omega arith in
    let can = fill_issues line p c r t s mid f low came in
    let awares = fill_awares line p c t s mid f came.aware in
    let both = united f.asked f.note in
    let sound = stock_relinked (record s { view = mid.view; caches = with_listed p c f.rest s.caches }) both
    (relinked_back both mid.view f.loaded.relinked)
    (subst (λ (z : StockValue). IsStock z) f.loaded.after_is came.now) in
    issued_does counts seals line size r (listed_slot p c t) _ _ s mid after mid.view (with_listed p c f.rest s.caches) answer
    (brings_relinked line size (listed_slot p c t) _ _ s both mid.view (with_listed p c f.rest s.caches) f.loaded.relinked
    (fill_brings line size p c s f.asked f.note t f.rest f.gives came.stock awares f.long low f.real f.empty class sound words well))
    f.loaded.after_is came.now can.stake can.back issue inner came.below came.bare few

-- ---- a direct map

pub map_awares : (line p len : ℕ) (t : Title) (s mid : StockValue) (m : MapsTitle line p len t s mid) → IsAware s.view →
    IsAware mid.view → Awares s.view m.asked m.note
map_awares line p len t s mid m aware now = (aware, m.awares.0, m.awares.1, subst (λ (z : StockValue). IsAware z.view) m.after_is now)

pub map_issues : (line p len r : ℕ) (t : Title) (s mid : StockValue) → MapsTitle line p len t s mid → p < 4 → Came s mid r →
    CanIssueTo (mapped_slot p t) s mid r
map_issues line p len r t s mid m low came =
    let awares = map_awares line p len t s mid m came.aware came.now_aware in
    let asking = map_asking line p len s m.asked m.note t m.gives came.stock awares m.long low in
    record {
      back = subst (λ (z : StockValue). IsBack (mapped_slot p t) z) (sym m.after_is)
          (map_back line p len s m.asked m.note t m.gives came.stock awares m.long low);
      stake = subst (λ (z : StockValue). HasItsStake z) (sym m.after_is)
          (let e = asking.keeps.stakes s.thread in let h = came.stake in let both = united_stakes m.asked m.note s.thread in omega arith);
      bare = subst (λ (z : StockValue). HasNoHandle (register_in z.registers r)) (sym m.after_is) came.bare;
      budget =
          let e : mid.view.budget ≡ m.asked.budget + m.note.budget = ap (λ (z : StockValue). z.view.budget) m.after_is in
          let k = asking.keeps.budget in omega arith;
    }

pub map_does : CountLeaves → SealedLeaves → (line size p len r : ℕ) (t : Title) (s mid after : StockValue) (answer : Answer) →
    MapsTitle line p len t s mid → p < s.partitions → Came s mid r →
    IsMapSize s.caches.version size → len ≡ (shape_of size).slot → Issues (mapped_slot p t) r answer mid after →
    DoesOp line (ops.Alloc r p size) answer s after
map_does counts seals line size p len r t s mid after answer m inner came direct shape issue =
    let low : p < 4 = let most = came.stock.partitions in omega arith in
    let can = map_issues line p len r t s mid m low came in
    let awares = map_awares line p len t s mid m came.aware came.now_aware in
    issued_does counts seals line size r (mapped_slot p t) _ _ s mid after (united m.asked m.note) s.caches answer
    (map_brings line size p len s m.asked m.note t m.gives came.stock awares m.long low direct shape) m.after_is came.now can.stake can.back
    issue inner came.below came.bare direct.1
