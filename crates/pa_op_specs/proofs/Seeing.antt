-- What a view has seen of lists and numbers, and what follows of a handle's slot in any run.
use Rattle.std.proofs.Common.{◌≡◌, ℕ, ◌≤◌, Bool, true, false, length, Option, Some, None, refl, sym, ap, ap₂, subst, arith, inl, inr}
use Rattle.std.specs.Prelude.{Contains, nat_le, max, if◌then◌else◌}
use Rattle.pa_slot.specs.declared.title.Title.{Title}
use Rattle.pa_slot.specs.Run.{Mark}
use Rattle.pa_slot.specs.Titles.{same_title}
use Rattle.pa_slot.proofs.Same.{title_tells}
use Rattle.pa_trace.specs.declared.script.Rules.{Rules}
use Rattle.pa_record.specs.declared.root.RootEntry.{RootEntry}
use Rattle.pa_record.specs.Spans.{name_of}
use Rattle.pa_lists.proofs.Members.{of_some}
use Rattle.pa_region.specs.declared.view.View.{View}
use Rattle.pa_region.specs.Lists.{list_of, list_among}
use Rattle.pa_rules.specs.Roots.{Journals}
use Rattle.pa_rules.specs.Caches.{IsOfClass}
use Rattle.pa_rules.specs.Report.{HasSize}
use Rattle.pa_rules.specs.Sizes.{HasClass}
use Rattle.pa_lists.proofs.Parts.{parts_at}
use Rattle.pa_logs.proofs.Filters.{get_in}
use Rattle.pa_logs.specs.Touches.{title_of}
use Rattle.pa_cells.specs.declared.handle.Handle.{Handle}
use Rattle.pa_cells.specs.Handles.{HandsOut, HasSeenMade, is_plain}
use Rattle.pa_op_specs.specs.Outcomes.{Outcome, IsOutcome, IsSeenOf, FillsFrom, row_facts}
use Rattle.pa_op_specs.specs.Stocks.{StockRegister, StockValue, IsMadeFor, rules_at}
use Rattle.pa_rules.specs.declared.register.Register.TheVariants.{Empty, Own, Ref, Freed, Cleared}

-- a view that has seen the same lists has seen how a slot was made
pub made_kept : (h : Handle) (v w : View) → w.seen_lists ≡ v.seen_lists → HasSeenMade h v → HasSeenMade h w
made_kept h v w same is = record {
  partition = is.partition;
  entry =
      (is.entry.0, is.entry.1, subst (λ ls. Contains (list_among h.partition ls) is.entry.0) (sym same) is.entry.2, is.entry.3, is.entry.4);
}

pub made_for_kept : (v w : View) → w.seen_lists ≡ v.seen_lists → (r : StockRegister) → IsMadeFor v r → IsMadeFor w r
made_for_kept v w same Empty is = tt
made_for_kept v w same (Own h) is = made_kept h v w same is
made_for_kept v w same (Ref h) is = made_kept h v w same is
made_for_kept v w same Freed is = tt
made_for_kept v w same Cleared is = tt

-- an act that hands a slot out gives it its length
size_by : (roots : Journals) (p : ℕ) (e : RootEntry) (class : Option ℕ) (t : Title) → Contains (roots p) e → HandsOut class t e.act →
    HasSize roots p (name_of t) t.len
size_by roots p e (Some c) t among out = inl (c, (e, out.0, out.1, among, out.2, out.3), out.4)
size_by roots p e None t among out = inr (e, out.0, among, out.1)

-- A slot that was seen made has the length of its title, and its handle's partition and class, which is one of the version's, in any run
-- that fits.
pub record IsSlotIn (o : Outcome) (h : Handle) : Type 0 where
  pub length : o.sizes (name_of h.title) ≡ h.title.len
  pub home : o.homes (name_of h.title) ≡ h.partition
  pub title : title_of o.sizes (name_of h.title) ≡ h.title
  pub size : HasSize o.roots h.partition (name_of h.title) (o.sizes (name_of h.title))
  pub class : (c : ℕ) → h.class ≡ Some c → IsOfClass o.roots (name_of h.title) h.partition c
  pub real : (c : ℕ) → h.class ≡ Some c → HasClass o.rules.version c

title_by : (t : Title) (n : ℕ) → n ≡ t.len → record { start = t.start; len = n; born = t.born } ≡ t
title_by t n e = ap (λ m. record t { len = m }) e

-- the slot of a title that an act hands out has the act's class
class_by : (roots : Journals) (p : ℕ) (e : RootEntry) (class : Option ℕ) (t : Title) (c : ℕ) → Contains (roots p) e →
    HandsOut class t e.act → class ≡ Some c →
    IsOfClass roots (name_of t) p c
class_by roots p e class t c among out is =
    let h : HandsOut (Some c) t e.act = subst (λ k. HandsOut k t e.act) is out in
    (e, h.0, h.1, among, h.2, h.3)

-- that class is one of the version's, if each fill is of one
real_by : (version : ℕ) (e : RootEntry) (class : Option ℕ) (t : Title) (c : ℕ) → FillsFrom version e.act → HandsOut class t e.act →
    class ≡ Some c →
    HasClass version c
real_by version e class t c fills out is =
    let h : HandsOut (Some c) t e.act = subst (λ k. HandsOut k t e.act) is out in
    subst (FillsFrom version) h.2 fills

pub slot_in_run : (o : Outcome) (v : View) (h : Handle) → IsOutcome o → IsSeenOf o v → HasSeenMade h v → IsSlotIn o h
slot_in_run o v h is seen made =
    let (m, e, among, says, out) = made.entry in
    let parts = parts_at (list_of h.partition v) m among in
    let there = get_in (o.roots h.partition) (length parts.0) e (seen.roots h.partition parts.0 parts.1 m e made.partition parts.2 says) in
    let long : o.sizes (name_of h.title) ≡ h.title.len = is.lengths h.partition e h.class h.title there out in
    record {
      length = long;
      home = is.homes h.partition e h.class h.title there out;
      title = title_by h.title (o.sizes (name_of h.title)) long;
      size = subst (λ n. HasSize o.roots h.partition (name_of h.title) n) (sym long)
          (size_by o.roots h.partition e h.class h.title there out);
      class = λ c is_class. class_by o.roots h.partition e h.class h.title c there out is_class;
      real = λ c is_class. real_by o.rules.version e h.class h.title c (is.fills h.partition e there) out is_class;
    }

-- by the rules of a worker whose run it is, the slot is plain exactly if its handle's partition is
pub plain_in_run : (o : Outcome) (s : StockValue) (h : Handle) → rules_at s ≡ o.rules → IsSlotIn o h →
    (row_facts o).plain_at (name_of h.title) ≡ is_plain s.plain_from h
plain_in_run o s h rules slot = ap₂ nat_le (ap (λ (k : Rules). k.plain_from) (sym rules)) slot.home

-- a number that is the greatest of what was seen and n, for one title, isn't less than what was seen
pub more_seen : (t u : Title) (n m k : ℕ) → m ≡ (if same_title t u then max n k else k) → k ≤ m
more_seen t u n m k e = go (same_title t u) e
  where
    go : (b : Bool) → m ≡ (if b then max n k else k) → k ≤ m
    go true is = omega arith
    go false is = omega arith

-- of another title it is the same
pub same_seen : (t u : Title) (n m k : ℕ) → (t ≡ u → ⊥) → m ≡ (if same_title t u then max n k else k) → m ≡ k
same_seen t u n m k other e = elim (title_tells t u) [
  | inl y ↦ absurd (other y.1)
  | inr differs ↦ rw differs.0 at e
]

-- after n was seen of a title, the number seen of it isn't less than n
pub now_seen : (t : Title) (n m k : ℕ) → m ≡ (if same_title t t then max n k else k) → n ≤ m
now_seen t n m k e = elim (title_tells t t) [
  | inl y ↦ (let f : m ≡ max n k = rw y.0 at e in omega arith)
  | inr differs ↦ absurd (differs.1 refl)
]

-- the mark belongs to a record and has the slot's size
pub home_of : (o : Outcome) (p : ℕ) (n m : Mark) → Some n ≡ Some m → HasSize o.roots p n.slot (o.sizes n.slot) →
    HasSize o.roots p m.slot (o.sizes m.slot)
home_of o p n m e size = subst (λ (k : Mark). HasSize o.roots p k.slot (o.sizes k.slot)) (of_some n m e) size
