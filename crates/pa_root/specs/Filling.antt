-- Slots that are made and go out: a super page that the pool gave, slots that are cut for the first time, and a fill.
use Rattle.std.specs.Prelude.{◌≡◌, ◌≢◌, ℕ, ◌+◌, ◌<◌, ◌≤◌, ◌⊎◌, List, [], ◌∷◌, length, map, Option, Some, None, IsSome, IsNone, AllPairs, Contains}
use Rattle.pa_slot.specs.declared.title.Title.{Title}
use Rattle.pa_machine.specs.declared.event.Item.{Item}
use Rattle.pa_machine.specs.declared.event.Item.TheVariants as items
use Rattle.pa_buckets.specs.Limits.{class_count}
use Rattle.pa_buckets.specs.Bands.{fill_of}
use Rattle.pa_region.specs.declared.view.View.{View}
use Rattle.pa_region.specs.Views.{free_of, own_of, ref_of, low_of, stake_of, undone_of, seen_of}
use Rattle.pa_region.specs.Lists.{list_of, lease_of, keeper_of, IsBeginning}
use Rattle.pa_region.specs.Hands.{Parcel, CanHand, left_after, given_after, united}
use Rattle.pa_region.specs.Marks.{parcel_of}
use Rattle.pa_region.specs.Cuts.{CanCut, after_cut}
use Rattle.pa_region.specs.Lending.{HostsKeeper, Keeps}
use Rattle.pa_region.specs.Aware.{IsAware}
use Rattle.pa_record.specs.declared.root.RootEntry.{RootEntry}
use Rattle.pa_record.specs.declared.root.RootAct.TheVariants.{Fill}
use Rattle.pa_record.specs.Root.{Root, Filled, takes, opened, opened_by, span_for, Asked}
use Rattle.pa_record.specs.Pool.{FoundRun}
use Rattle.pa_record.specs.Sound.{IsSound, IsMade, AsksFrom, least_after_all}
use Rattle.pa_shelf.specs.Moving.{Rewritten}
use Rattle.pa_root.specs.Reading.{pools_seen}
use Rattle.pa_root.specs.Keeping.{RootState, HoldsMade, KnowsNumbers, IsInRun, HasRest, KeepsLeases, IsRootSound}
use Rattle.pa_root.specs.Handing.{HasOnly, numbered_by, root_entry}
use Rattle.pa_root.specs.Laws.{HasEntryMore, after_entry}

-- What holds of slots, raw bytes and leases, also between two entries.
pub record HasSlots (s : RootState) : Type 0 where
  pub titles : HoldsMade s
  pub numbers : KnowsNumbers s
  pub rest : HasRest s
  pub leases : KeepsLeases s

-- ---- a super page that the pool gave

-- A note of `count` super pages from `first` on, raw with floors of at most `floor`, with the lease of the entry of the pool that
-- took them, and nothing else. As the pool gives it, the floors are at most the index of that entry.
pub record HasRunOnly (first count floor entry : ℕ) (v : View) : Type 0 where
  pub raws : (b : ℕ) → IsInRun first count b → 0 < low_of v b floor
  pub lease : 0 < lease_of v entry
  pub frees : (t : Title) → free_of v t ≡ 0
  pub handles : (t : Title) → own_of v t + ref_of v t ≡ 0
  pub budget : v.budget ≡ 0
  pub stakes : (k : ℕ) → stake_of v k ≡ 0
  pub keepers : (k : ℕ) → keeper_of v k ≡ 0

-- A root may take in a note of one super page from the pool, if the pool's entry is later than those of its own super pages.
pub record CanTakePage (p number entry : ℕ) (s : RootState) (w : View) : Type 0 where
  pub sound : IsRootSound p s
  pub aware : IsAware s.view
  pub both_aware : IsAware (united s.view w)
  pub long : length s.view.words ≡ length w.words
  pub has : HasRunOnly number 1 entry entry w

-- the root with the super page, and with the view u of its seat
abbrev pub opened_state : (number entry : ℕ) → RootState → View → RootState
opened_state number entry s u = record { view = u; journal = s.journal; root = opened number entry s.root }

-- If a root may take in such a note, all that holds of its slots, raw bytes and leases holds with the super page too,
-- and its seat may borrow a stake.
abbrev pub OpeningKeeps : Type 0
OpeningKeeps =
    (p number entry : ℕ) (s : RootState) (w : View) → CanTakePage p number entry s w →
    HasSlots (opened_state number entry s (united s.view w)) × HostsKeeper p (united s.view w)

-- ---- slots that are cut for the first time

-- these titles can be cut, one after the other
abbrev pub CanCutAll : List Title → View → Type 0
CanCutAll [] v = Unit {0}
CanCutAll (t ∷ ts) v = CanCut t v × CanCutAll ts (after_cut t v)

-- the view after these titles were cut, one after the other
abbrev pub after_cuts : List Title → View → View
after_cuts [] v = v
after_cuts (t ∷ ts) v = after_cuts ts (after_cut t v)

-- What was made before stays made, and these titles were made besides, each once.
pub record MakesMore (r after : Root) (ts : List Title) : Type 0 where
  pub keeps : (t : Title) → IsMade r t → IsMade after t
  pub only : (t : Title) → IsMade after t → IsMade r t ⊎ Contains ts t
  pub makes : (t : Title) → Contains ts t → IsMade after t
  pub fresh : (t : Title) → Contains ts t → IsMade r t → ⊥
  pub once : AllPairs ◌≢◌ ts

-- Slots that a root makes can all be cut: they lie in the rest of its super pages, and no two share a byte.
abbrev pub WhatIsMadeCanBeCut : Type 0
WhatIsMadeCanBeCut =
    (s : RootState) (after : Root) (ts : List Title) → HasRest s → IsSound s.root → IsSound after → after.supers ≡ s.root.supers →
    MakesMore s.root after ts → CanCutAll ts s.view

-- ---- a fill

-- the root from which a fill takes: with the super page of the pool's entry that it names, if it does
abbrev pub ready_root : Option ℕ → RootState → View → Root
ready_root asked s u = opened_by (pools_seen u) asked s.root

-- A root is ready for a fill of a class: if its first take has to ask the pool, its seat has the super page, which the pool
-- gave by an entry that is later than those which the journal names. What was uncut stays so, and the seat may have seen more.
pub record IsReadyFor (p class : ℕ) (asked : Option ℕ) (s : RootState) (u : View) : Type 0 where
  pub sound : IsRootSound p s
  pub aware : IsAware u
  pub hosts : HostsKeeper p u
  pub own_list : list_of p u ≡ list_of p s.view
  pub pool_list : IsBeginning (list_of 4 s.view) (list_of 4 u)
  pub undone : (t : Title) → undone_of s.view t ≤ undone_of u t
  pub slots : HasSlots (record { view = u; journal = s.journal; root = ready_root asked s u })
  pub class_is : class < class_count
  pub asked_if : Asked (pools_seen u) class asked s.root
  pub later : AsksFrom (least_after_all 0 s.journal) asked

-- A root is ready as it is if its first take finds a span. Else it is ready with the super page that the pool gave, by an entry after
-- those that its seat had seen.
pub record RootsAreReady : Type 0 where
  pub as_it_is : (p class : ℕ) (s : RootState) → IsRootSound p s → IsAware s.view → class < class_count → IsSome (span_for class s.root) →
      IsReadyFor p class None s s.view
  pub with_page : (p class number entry : ℕ) (s : RootState) (w : View) → CanTakePage p number entry s w → class < class_count →
      IsNone (span_for class s.root) → FoundRun (pools_seen (united s.view w)) entry 1 number → length (list_of 4 s.view) ≤ entry →
      IsReadyFor p class (Some entry) s (united s.view w)

-- what the fill takes
abbrev pub fill_taken : ℕ → Option ℕ → RootState → View → Filled
fill_taken class asked s u = takes class (fill_of class) (ready_root asked s u)

-- a title as an item that is handed over free
abbrev pub free_item : Title → Item
free_item t = items.Free t

-- a parcel of these titles, free, with no counted steps, stakes, keepers or leases
abbrev pub frees_parcel : List Title → Parcel
frees_parcel ts = parcel_of (map free_item ts) 0 []

-- The slots that the fill made are cut: the seat's view is then that after these cuts but for words, as its records and chains were
-- written too, and it has seen no step on any of them.
pub record IsCutFor (p class : ℕ) (asked : Option ℕ) (s : RootState) (u c : View) (ts : List Title) : Type 0 where
  pub ready : IsReadyFor p class asked s u
  pub more : MakesMore (ready_root asked s u) (fill_taken class asked s u).root ts
  pub cut : Rewritten (after_cuts ts u) c
  pub aware : IsAware c
  pub new : (t : Title) → Contains ts t → seen_of c t ≡ 0

-- These titles can be handed over. The note has them and nothing else, and has seen the same numbers.
pub record GivesTitles (titles : List Title) (c : View) : Type 0 where
  pub can : CanHand (frees_parcel titles) c
  pub has : HasOnly titles (given_after (frees_parcel titles) c)
  pub seen : (t : Title) → seen_of (given_after (frees_parcel titles) c) t ≡ seen_of c t

-- once the slots that it made are cut, a fill can hand over what it takes
abbrev pub FillsHandOut : Type 0
FillsHandOut =
    (p class : ℕ) (asked : Option ℕ) (s : RootState) (u c : View) (ts : List Title) → IsCutFor p class asked s u c ts →
    GivesTitles (fill_taken class asked s u).titles c

-- After a fill the root is sound with the entry that names the titles, each at the number that the note has seen, once its seat has
-- handed them over and has made the entry.
abbrev pub FillsKeep : Type 0
FillsKeep =
    (p line class : ℕ) (asked : Option ℕ) (s : RootState) (u c x : View) (ts : List Title) (e : RootEntry) →
    IsCutFor p class asked s u c ts →
    e ≡ root_entry line (Fill class asked (numbered_by c (fill_taken class asked s u).titles)) →
    IsAware x → IsAware (left_after (frees_parcel (fill_taken class asked s u).titles) c) →
    Keeps (left_after (frees_parcel (fill_taken class asked s u).titles) c) x →
    HasEntryMore p e (left_after (frees_parcel (fill_taken class asked s u).titles) c) x →
    IsRootSound p (after_entry x e s)
