-- The fifth part after a step that enters nothing: the lists stay.
use Rattle.std.proofs.Common.{◌≡◌, ℕ, ◌+◌, ◌<◌, ◌≤◌, List, [], set, refl, sym, ◌∙◌, ap, subst, arith, ◌⊎◌, inl, inr, eqb}
use Rattle.core.specs.List.{AllByRecursion as Each}
use Rattle.std.proofs.lemmas.Bool.Decides.{eqb_tells}
use mathlib.Core.Option.{some, some-injective}
use lib.ListN.{get_elem?}
use Rattle.pa_slot.specs.declared.title.Title.{Title}
use Rattle.pa_region.specs.declared.view.Entry.{Entry}
use Rattle.pa_region.specs.declared.view.Made.{Made}
use Rattle.pa_region.specs.declared.view.Stake.{Stake}
use Rattle.pa_region.specs.declared.view.Keeper.{Keeper}
use Rattle.pa_region.specs.declared.view.SeenList.{SeenList}
use Rattle.pa_region.specs.declared.view.View.{View}
use Rattle.pa_region.specs.Views.{seen_of, least_stake, own_of, ref_of}
use Rattle.pa_region.specs.Moves.{noted}
use Rattle.pa_region.specs.Lists.{keeper_of, lease_of, list_of, list_among, made_with, entry_in, entered_in, IsBeginning, IsKnownTo, IsListed, HasSeenFree, Lists}
use Rattle.pa_region.proofs.Adding.{sum_set}
use Rattle.pa_region.proofs.Entering.{with_entry_last}
use Rattle.pa_region.proofs.Shown.{put_there, put_beside}
use Rattle.pa_region.proofs.ListFacts.{each_map, each_changed, entered_nothing}

-- the stakes got at most an entry that enters nothing
abbrev pub IsLogging : List Stake → List Stake → Type 0
IsLogging before after = (after ≡ before) ⊎ ((e : Entry) × (after ≡ noted e before) × ((k : ℕ) → entry_in k e ≡ []))

-- a view after a step that enters nothing: it has seen at least as much, also the issue of a title that it got a handle of
pub record IsGrown (v w : View) : Type 0 where
  pub keepers : w.keepers ≡ v.keepers
  pub leases : w.leases ≡ v.leases
  pub lists : w.seen_lists ≡ v.seen_lists
  pub stakes : IsLogging v.stakes w.stakes
  pub seen : (t : Title) → seen_of v t ≤ seen_of w t
  pub handles : (t : Title) → 0 < own_of w t + ref_of w t → (0 < own_of v t + ref_of v t) ⊎ (1 ≤ seen_of w t)

-- what stakes made stays what their logs entered
logging_keeps : (list : List Made) (k : ℕ) (before after : List Stake) → IsLogging before after →
    Each (λ s. made_with s.number list ≡ entered_in k s.log) before → Each (λ s. made_with s.number list ≡ entered_in k s.log) after
logging_keeps list k before after (inl same) each =
    subst (λ (ss : List Stake). Each (λ (s : Stake). made_with s.number list ≡ entered_in k s.log) ss) (sym same) each
logging_keeps list k before after (inr logs) each =
    subst (λ (ss : List Stake). Each (λ (s : Stake). made_with s.number list ≡ entered_in k s.log) ss) (sym logs.1)
    (each_changed (λ (s : Stake). made_with s.number list ≡ entered_in k s.log) (λ (s : Stake). eqb s.number (least_stake before))
    (with_entry_last logs.0) before
    (λ s here. here ∙ sym (entered_nothing k s.log logs.0 (logs.2 k))) each)

-- a view that has seen more, and entered nothing, stays as it was to the lists
pub listed_grown : (list : ℕ → List Made) (v w : View) → IsListed list v → IsGrown v w → IsListed list w
listed_grown list v w l g = record {
  beginnings = subst (λ (ns : List SeenList). Each (λ n. IsBeginning n.entries (list n.keeper)) ns) (sym g.lists) l.beginnings;
  whole = λ k has. ap (list_among k) g.lists ∙
      l.whole k (subst (λ (qs : List Keeper). 0 < keeper_of (record v { keepers = qs }) k) g.keepers has);
  kept = subst (λ (qs : List Keeper). Each (λ q. q.entries ≡ list q.number) qs) (sym g.keepers) l.kept;
  made = λ k. logging_keeps (list k) k v.stakes w.stakes g.stakes (l.made k);
  noticed = λ k. subst (λ (ns : List SeenList). Each (λ s. made_with s.number (list_among k ns) ≡ entered_in k s.log) w.stakes)
      (sym g.lists)
      (logging_keeps (list_of k v) k v.stakes w.stakes g.stakes (l.noticed k));
  follows = λ k. subst (λ (ns : List SeenList). Each (λ m. IsKnownTo w.seen m) (list_among k ns)) (sym g.lists)
      (each_map (IsKnownTo v.seen) (IsKnownTo w.seen) (list_of k v) (λ m known t. let a = known t in let b = g.seen t in omega arith)
      (l.follows k));
  handles = λ t has. elim (g.handles t has) [ inl y ↦ let a = l.handles t y in let b = g.seen t in omega arith | inr n ↦ n ];
}

-- a fact of each view, when one view changes
pub each_set : (P : View → Type 0) (views : List View) (i : ℕ) (v w : View) → get_elem? views i ≡ some v →
    ((j : ℕ) (u : View) → get_elem? views j ≡ some u → (j ≡ i → ⊥) → P u) → P w → (j : ℕ) (u : View) →
    get_elem? (set views i w) j ≡ some u → P u
each_set P views i v w at_i others here j u at_j = elim (eqb_tells j i) [
  | inl y ↦ subst P (some-injective w u (sym (put_there views i v w at_i) ∙
      subst (λ (k : ℕ). get_elem? (set views i w) k ≡ some u) y.1 at_j)) here
  | inr n ↦ others j u (sym (put_beside views i j w n.1) ∙ at_j) n.1
]

-- a step after which a view has seen more, and entered nothing, keeps the part
pub lists_grown : (list : ℕ → List Made) (views : List View) (i : ℕ) (v w : View) → get_elem? views i ≡ some v → Lists list views →
    IsGrown v w → HasSeenFree w →
    Lists list (set views i w)
lists_grown list views i v w at_i l g free = record {
  each_keeper = λ k.
      let c = sum_set (λ u. keeper_of u k) views i v w at_i in
      let same : keeper_of w k ≡ keeper_of v k = rw g.keepers refl in
      let n = l.each_keeper k in
      omega arith;
  each_lease = λ n.
      let c = sum_set (λ u. lease_of u n) views i v w at_i in
      let same : lease_of w n ≡ lease_of v n = rw g.leases refl in
      let o = l.each_lease n in
      omega arith;
  rises = l.rises;
  makers = l.makers;
  each_view = each_set (IsListed list) views i v w at_i (λ j u at_j ne. l.each_view j u at_j)
      (listed_grown list v w (l.each_view i v at_i) g);
  free_seen = each_set HasSeenFree views i v w at_i (λ j u at_j ne. l.free_seen j u at_j) free;
}
