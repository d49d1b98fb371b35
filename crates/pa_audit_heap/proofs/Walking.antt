-- A journal walked over, entry by entry.
use Rattle.std.proofs.Common.{◌≡◌, ℕ, ◌+◌, ◌-◌, ◌<◌, ◌≤◌, ◌^◌, List, [], map, take, min, Some, refl, sym, ap, subst, arith, inl, inr}
use Rattle.std.specs.Prelude.{slice_get}
use Rattle.pa_record.specs.declared.pool.PoolEntry.{PoolEntry}
use Rattle.pa_record.specs.declared.root.RootEntry.{RootEntry}
use Rattle.pa_record.specs.Census.{census}
use Rattle.pa_record.specs.Pool.{new_pool}
use Rattle.pa_record.specs.Root.{RootActFits, asked_by, new_root}
use Rattle.pa_record.specs.Sound.{AsksFrom, least_after}
use Rattle.pa_rules.specs.declared.played.Played.{Played}
use Rattle.pa_rules.specs.HeapDemands.{EntryFits}
use Rattle.pa_rules.specs.Roots.{MakesEntry}
use Rattle.pa_audit_heap.specs.declared.order.Order.{Order}
use Rattle.pa_audit_heap.specs.declared.walk.Walk.{Walk}
use Rattle.pa_audit_heap.specs.Ordered.{AreOfThreads16, HasSeen, IsBehind, IsTheRecord, entered_by}
use Rattle.pa_audit_heap.specs.Replayed.{IsPlayedBy}
use Rattle.pa_audit_heap.specs.Replaying.{IsReplayed}
use Rattle.pa_audit_heap.specs.Walking.{AreCounted, AreFilledUp, IsWalked}
use Rattle.pa_audit_heap.proofs.Counting.{counted_filled, counted_more, counted_none}
use Rattle.pa_audit_heap.proofs.Journaling.{replayed_more, replayed_none, rises_here}
use Rattle.pa_audit_heap.proofs.Listed.{front_more}
use Rattle.pa_audit_heap.proofs.Ordering.{order_enters, order_met, order_unmet}
use Rattle.pa_lists.proofs.Indexed.{at_map}

-- ---- before the first entry

first_phase : (ps : List Played) (lines : List ℕ) (o : Order) → HasSeen ps lines 0 o → o.phase ≤ 1
first_phase ps lines o seen = elim seen.at_phase [
  | inl zero ↦ omega (arith, zero)
  | inr (x, among, is) ↦ let below = among.below in absurd (omega (arith, below))
]

pub walked_none : (supers phases : ℕ) (ps : List Played) (pools : List PoolEntry) (es : List RootEntry) (w : Walk) →
    HasSeen ps (map (λ (e : RootEntry). e.line) es) 0 w.order
    → w.replay.root ≡ new_root → w.replay.plan ≡ new_pool supers → w.least ≡ 0 → w.censuses ≡ [] → IsWalked supers phases ps pools es 0 w
walked_none supers phases ps pools es w seen root plan least none = record {
  seen = seen;
  replayed = subst (IsReplayed supers pools es 0 w.replay) (sym least) (replayed_none supers pools es w.replay root plan);
  bound = omega (arith, least);
  counted = subst (AreCounted phases ps pools [] w.order.phase) (sym none)
      (counted_none phases ps pools w.order.phase (first_phase ps (map (λ (e : RootEntry). e.line) es) w.order seen));
}

-- ---- the next entry

-- what the next entry's tests show
pub record IsTaken (partitions : ℕ) (ps : List Played) (pools : List PoolEntry) (p : ℕ) (w : Walk) (e : RootEntry)
    (x : Played) : Type 0 where
  pub partition : p < partitions
  pub is : IsTheRecord ps e.line (Some x)
  pub makes : MakesEntry pools p e.act x
  pub from : AsksFrom w.least (asked_by e.act)
  pub behind : IsBehind w.order x

-- with them, an entry that fits the root meets its clause
pub fits_next : (supers partitions phases : ℕ) (ps : List Played) (pools : List PoolEntry) (es : List RootEntry) (p j : ℕ) (w : Walk)
    (e : RootEntry) (x : Played)
    → IsWalked supers phases ps pools es j w → slice_get es j ≡ Some e → IsTaken partitions ps pools p w e x →
    RootActFits pools e.act w.replay.root → EntryFits partitions ps pools (λ q. es) p j e
fits_next supers partitions phases ps pools es p j w e x h at t fits = record {
  partition = t.partition;
  fits = subst (RootActFits pools e.act) h.replayed.root fits;
  rises = rises_here supers pools (λ q. es) p j e w.replay w.least h.replayed t.from;
  line = (x, t.is.0, t.makes);
  order = order_met ps (map (λ (f : RootEntry). f.line) es) j e.line w.order x h.seen
      (at_map (λ (f : RootEntry). f.line) es j e at) t.is t.behind;
}

-- the walk goes on after an entry that was played
pub walked_next : (supers partitions phases : ℕ) (ps : List Played) (pools : List PoolEntry) (es : List RootEntry) (p j : ℕ) (w next : Walk)
    (e : RootEntry) (x : Played)
    → AreOfThreads16 ps → IsWalked supers phases ps pools es j w → slice_get es j ≡ Some e → IsTaken partitions ps pools p w e x →
    next.order ≡ entered_by x w.order
    → AreFilledUp (census w.replay.root) (min phases (x.phase - 1)) w.censuses next.censuses →
    IsPlayedBy pools e.act w.replay.plan w.replay.root next.replay.plan next.replay.root
    → next.least ≡ least_after w.least (asked_by e.act) → next.least ≤ 2 ^ 32 → IsWalked supers phases ps pools es (j + 1) next
walked_next supers partitions phases ps pools es p j w next e x few h at t order filled played least bound =
    let lines = map (λ (f : RootEntry). f.line) es in
    let later = t.behind.phase in
    let counted = counted_filled phases ps pools (take j es) w.order.phase x.phase (min phases (x.phase - 1)) w.censuses next.censuses
    (census w.replay.root) h.counted filled (ap census h.replayed.root) later refl in
    let more = counted_more phases ps pools (take j es) e x next.censuses counted t.is.0 in
    record {
      seen = subst (HasSeen ps lines (j + 1)) (sym order)
          (order_enters ps lines j e.line w.order x few h.seen (at_map (λ (f : RootEntry). f.line) es j e at) t.is t.behind);
      replayed = replayed_more supers pools es j e w.replay next.replay w.least next.least h.replayed at t.from played least;
      bound = bound;
      counted = subst (λ (o : Order). AreCounted phases ps pools (take (j + 1) es) o.phase next.censuses) (sym order)
          (subst (λ (xs : List RootEntry). AreCounted phases ps pools xs x.phase next.censuses) (sym (front_more es j e at)) more);
    }

-- an entry whose record is not after the last one doesn't meet its clause
pub unmet_order : (supers partitions phases : ℕ) (ps : List Played) (pools : List PoolEntry) (es : List RootEntry) (p j : ℕ) (w : Walk)
    (e : RootEntry) (x : Played)
    → IsWalked supers phases ps pools es j w → slice_get es j ≡ Some e → IsTheRecord ps e.line (Some x) → (IsBehind w.order x → ⊥) →
    EntryFits partitions ps pools (λ q. es) p j e → ⊥
unmet_order supers partitions phases ps pools es p j w e x h at is ahead fits =
    order_unmet ps (map (λ (f : RootEntry). f.line) es) j e.line w.order x h.seen
    (at_map (λ (f : RootEntry). f.line) es j e at) is.0 ahead fits.order
