-- The laws of a root's journal.
use Rattle.std.specs.Prelude.{◌≡◌, ◌≢◌, ℕ, suc, ◌+◌, ◌<◌, ◌≤◌, ◌⊎◌, ◌↔◌, Bool, false, not, eqb, List, [], ◌∷◌, ◌++◌, length, map, Option, Some, None, IsSome, IsNone, is_some, All, AllPairs, Contains, filter, find, slice_get, count_by, sum_by}
use Rattle.std.specs.List.{list_any, flat_map}
use Rattle.pa_slot.specs.declared.title.Title.{Title}
use Rattle.pa_slot.specs.declared.word.SlotName.{SlotName}
use Rattle.pa_slot.specs.Run.{same_slot}
use Rattle.pa_layout.specs.Pages.{page_place, supers_for}
use Rattle.pa_buckets.specs.Limits.{class_count}
use Rattle.pa_buckets.specs.Bands.{fill_of}
use Rattle.pa_record.specs.declared.numbered.Numbered.{Numbered}
use Rattle.pa_record.specs.declared.pool.PoolEntry.{PoolEntry}
use Rattle.pa_record.specs.declared.pool.PoolAct.TheVariants as pool
use Rattle.pa_record.specs.declared.root.RootEntry.{RootEntry}
use Rattle.pa_record.specs.declared.root.RootAct.{RootAct}
use Rattle.pa_record.specs.declared.root.RootAct.TheVariants.{Fill, Map, Full, Give, Unmap, Purge}
use Rattle.pa_buckets.specs.declared.spans.State.TheVariants as state
use Rattle.pa_record.specs.Spans.{Span, is_in, holds, number_in, latest, earliest, title_at, name_of}
use Rattle.pa_record.specs.Root.{Root, new_root, opened, span_for, takes, all_returned, purged, empties, map_title, mapped, unmapped, names, root_next, root_replayed, RootActFits, IsJournal, asked_by, IsOut, IsOutOf, IsTitleOut}
use Rattle.pa_record.specs.Census.{count_in, census}
use Rattle.pa_record.specs.Sound.{IsSound, IsSettled, IsBornBelow, AsksFrom, least_after_all, IsNext, IsMadeBy, AreTitles}
use Rattle.pa_record.specs.Steps.{IsLatest, IsEarliest, IsFilled, IsReturned, IsDecommittedTimes}
use Rattle.pa_lists.specs.Numbers.{numbers}

-- Of the spans that pass a test `latest` finds one with the greatest turn, and `earliest` finds one with the least. Both find
-- none only if none passes.
pub record TurnsChoose : Type 0 where
  pub greatest : (test : Span → Bool) (ss : List Span) (s : Span) → latest test ss ≡ Some s → IsLatest test ss s
  pub no_greatest : (test : Span → Bool) (ss : List Span) → latest test ss ≡ None → (s : Span) → Contains ss s → test s ≡ false
  pub least : (test : Span → Bool) (ss : List Span) (s : Span) → earliest test ss ≡ Some s → IsEarliest test ss s
  pub no_least : (test : Span → Bool) (ss : List Span) → earliest test ss ≡ None → (s : Span) → Contains ss s → test s ≡ false

-- the numbers of the slots of a span that are provisioned and not in its list
abbrev pub out_of : Span → List ℕ
out_of s = filter (λ n. not (list_any (eqb n) s.free)) (numbers 0 s.provisioned)

-- the slot's span is the one that is found, at the slot's number, and has some slots out
pub record CanReturn (r : Root) (name : SlotName) (s : Span) (n : ℕ) : Type 0 where
  pub among : Contains r.spans s
  pub out : IsOutOf s name n
  pub found : find (holds name) r.spans ≡ Some s
  pub number : number_in s name ≡ n
  pub some : 1 ≤ s.allocated

-- A slot that is out can be returned, allocated is how many of a span's slots are out, and a name has one title that is
-- out: a slot's, or a direct map's.
pub record OutIsOut : Type 0 where
  pub returnable : (r : Root) (name : SlotName) → IsSound r → IsOut r name → (s : Span) × (n : ℕ) × CanReturn r name s n
  pub counted : (r : Root) (s : Span) → IsSound r → Contains r.spans s → length (out_of s) ≡ s.allocated
  pub titled : (r : Root) (name : SlotName) → IsOut r name → (t : Title) × IsTitleOut r t × (name ≡ name_of t)
  pub one : (r : Root) (t u : Title) → IsSound r → IsTitleOut r t → IsTitleOut r u → name_of t ≡ name_of u → t ≡ u

-- A fill of a sound root: the slots were not out before, are different, and are out after it. It gives at least one exactly
-- when its first take finds a span, which it does if it got a new super page; else it changes nothing.
pub record FillKeeps : Type 0 where
  pub filled : (class want : ℕ) (r : Root) → IsSound r → class < class_count → IsFilled class want r (takes class want r)
  pub opens : (number born : ℕ) (r : Root) → IsSound r → IsBornBelow born r → IsSound (opened number born r)
  pub finds : (class want : ℕ) (r : Root) → IsSound r → class < class_count → IsSome (span_for class r) →
      1 ≤ length (takes class (suc want) r).titles
  pub finds_none : (class want : ℕ) (r : Root) → IsNone (span_for class r) → takes class want r ≡ record { root = r; titles = [] }
  pub finds_new : (class number born : ℕ) (r : Root) → class < class_count → IsSome (span_for class (opened number born r))

-- Returns, a purge, and direct maps that come and go keep a root sound.
pub record ReturnKeeps : Type 0 where
  pub returns : (r : Root) (xs : List SlotName) → IsSound r → All (IsOut r) xs → AllPairs ◌≢◌ xs → IsReturned xs r (all_returned xs r)
  pub purges : (r : Root) → IsSound r → IsDecommittedTimes (empties r) r (purged r)
  pub maps : (t : Title) (r : Root) → IsSound r → IsBornBelow t.born r → IsSound (mapped t r)
  pub unmaps : (name : SlotName) (r : Root) → IsSound r → IsSound (unmapped name r)

-- an entry that fits a sound root leaves a sound root
abbrev pub EntryKeeps : Type 0
EntryKeeps =
    (pools : List PoolEntry) (act : RootAct) (n : ℕ) (r : Root) → IsSound r → IsSettled r → IsBornBelow n r →
    AsksFrom n (asked_by act) → RootActFits pools act r → IsNext n act r (root_next pools act r)

-- a journal leaves a sound root with at most 16 empty spans, and its titles are equal or lie apart, where they may lie
pub record IsLeft (pools : List PoolEntry) (journal : List RootEntry) (r : Root) : Type 0 where
  pub sound : IsSound r
  pub settled : IsSettled r
  pub born : IsBornBelow (least_after_all 0 journal) r
  pub titles : AreTitles pools (IsMadeBy pools journal)

-- each journal, replayed from a root that has nothing, leaves a root as IsLeft says
abbrev pub JournalLeaves : Type 0
JournalLeaves = (pools : List PoolEntry) (journal : List RootEntry) → IsJournal pools journal →
    IsLeft pools journal (root_replayed pools journal new_root)

-- A journal that fits goes on fitting while its pool gets entries, and with one more entry that fits.
pub record JournalGrows : Type 0 where
  pub pool_more : (pools more : List PoolEntry) (journal : List RootEntry) → IsJournal pools journal → IsJournal (pools ++ more) journal
  pub pool_same : (pools more : List PoolEntry) (journal : List RootEntry) → IsJournal pools journal →
      root_replayed (pools ++ more) journal new_root ≡ root_replayed pools journal new_root
  pub fits : (pools : List PoolEntry) (journal : List RootEntry) (e : RootEntry) → IsJournal pools journal →
      RootActFits pools e.act (root_replayed pools journal new_root) → AsksFrom (least_after_all 0 journal) (asked_by e.act) →
      IsJournal pools (journal ++ e ∷ [])
  pub next : (pools : List PoolEntry) (journal : List RootEntry) (e : RootEntry) →
      root_replayed pools (journal ++ e ∷ []) new_root ≡ root_next pools e.act (root_replayed pools journal new_root)

-- What fits is determined. Two fills of a class that fit one root both asked the pool or neither did, and with the same entry
-- of the pool they have the same slots. If a fill fits, no Full of its class that names the same entry does, and none at all if
-- the fill asked for none. Direct maps of one entry of the pool have one name.
pub record EntryIsOne : Type 0 where
  pub asked : (pools : List PoolEntry) (class : ℕ) (a b : Option ℕ) (xs ys : List Numbered) (r : Root) →
      RootActFits pools (Fill class a xs) r → RootActFits pools (Fill class b ys) r → is_some a ≡ is_some b
  pub filled : (pools : List PoolEntry) (class : ℕ) (a : Option ℕ) (xs ys : List Numbered) (r : Root) →
      RootActFits pools (Fill class a xs) r → RootActFits pools (Fill class a ys) r → names xs ≡ names ys
  pub full : (pools : List PoolEntry) (class j : ℕ) (xs : List Numbered) (r : Root) →
      RootActFits pools (Fill class (Some j) xs) r → RootActFits pools (Full (Some class) j) r → ⊥
  pub full_unasked : (pools : List PoolEntry) (class j : ℕ) (xs : List Numbered) (r : Root) →
      RootActFits pools (Fill class None xs) r → RootActFits pools (Full (Some class) j) r → ⊥
  pub mapped : (pools : List PoolEntry) (j : ℕ) (x y : SlotName) (len : ℕ) (r : Root) →
      RootActFits pools (Map j x len) r → RootActFits pools (Map j y len) r → x ≡ y

-- the entry of the pool to which a title belongs is named by an entry of its journal
abbrev pub TitlesAreAsked : Type 0
TitlesAreAsked = (pools : List PoolEntry) (journal : List RootEntry) (t : Title) → IsJournal pools journal →
    IsMadeBy pools journal t → (i : ℕ) × (e : RootEntry) × (slice_get journal i ≡ Some e) × (asked_by e.act ≡ Some t.born)

-- the slots that an entry takes out of the root
abbrev pub leaves_by : RootAct → List SlotName
leaves_by (Fill class asked slots) = names slots
leaves_by (Map asked slot len) = slot ∷ []
leaves_by (Full class asked) = []
leaves_by (Give slots) = []
leaves_by (Unmap asked slot) = []
leaves_by Purge = []

-- the slots that an entry brings back into the root
abbrev pub comes_by : RootAct → List SlotName
comes_by (Fill class asked slots) = []
comes_by (Map asked slot len) = []
comes_by (Full class asked) = []
comes_by (Give slots) = names slots
comes_by (Unmap asked slot) = slot.slot ∷ []
comes_by Purge = []

-- how often a name is in a list
abbrev pub times : SlotName → List SlotName → ℕ
times name xs = count_by (same_slot name) xs

-- how often the slot left the root in a journal
abbrev pub times_left : SlotName → List RootEntry → ℕ
times_left name [] = 0
times_left name (e ∷ es) = times name (leaves_by e.act) + times_left name es

-- how often the slot came back to the root in a journal
abbrev pub times_back : SlotName → List RootEntry → ℕ
times_back name [] = 0
times_back name (e ∷ es) = times name (comes_by e.act) + times_back name es

-- the name is that of a slot or a direct map that is out
abbrev pub IsNameOut : Root → SlotName → Type 0
IsNameOut r name = (t : Title) × IsTitleOut r t × (name ≡ name_of t)

-- the slot is out and left the root once more than it came back, or it isn't out and came back as often as it left
abbrev pub IsOutBy : Root → SlotName → ℕ → ℕ → Type 0
IsOutBy r name left back = (IsNameOut r name × (left ≡ back + 1)) ⊎ ((IsNameOut r name → ⊥) × (left ≡ back))

-- in the root that a journal leaves, a slot is out exactly if it left the root once more than it came back in the journal
abbrev pub OutIsLeft : Type 0
OutIsLeft = (pools : List PoolEntry) (journal : List RootEntry) (name : SlotName) → IsJournal pools journal →
    IsOutBy (root_replayed pools journal new_root) name (times_left name journal) (times_back name journal)

-- What a call did is an entry that fits, if the pool appended its entry for it: a fill that asked and got
-- a super page, one that got none, a direct map, one that got no room, and a direct map that went back. And the pool's next
-- entry is always one that a journal may name.
pub record CallsFit : Type 0 where
  pub fill : (pools : List PoolEntry) (e : PoolEntry) (class first : ℕ) (slots : List Numbered) (r : Root) → class < class_count →
      IsNone (span_for class r) →
      e.act ≡ pool.Take 1 (Some first) → map name_of (takes class (fill_of class) (opened first (length pools) r)).titles ≡ names slots →
      RootActFits (pools ++ e ∷ []) (Fill class (Some (length pools)) slots) r
  pub filled : (pools : List PoolEntry) (e : PoolEntry) (class first : ℕ) (slots : List Numbered) (r : Root) →
      e.act ≡ pool.Take 1 (Some first) →
      root_next (pools ++ e ∷ []) (Fill class (Some (length pools)) slots) r ≡
      (takes class (fill_of class) (opened first (length pools) r)).root
  pub full : (pools : List PoolEntry) (e : PoolEntry) (class : ℕ) (r : Root) → IsNone (span_for class r) → e.act ≡ pool.Take 1 None →
      RootActFits (pools ++ e ∷ []) (Full (Some class) (length pools)) r
  pub map : (pools : List PoolEntry) (e : PoolEntry) (first len : ℕ) (slot : SlotName) (r : Root) →
      e.act ≡ pool.Take (supers_for len) (Some first) →
      slot.start ≡ page_place first 1 → slot.born ≡ length pools → RootActFits (pools ++ e ∷ []) (Map (length pools) slot len) r
  pub full_map : (pools : List PoolEntry) (e : PoolEntry) (count : ℕ) (r : Root) → e.act ≡ pool.Take count None →
      RootActFits (pools ++ e ∷ []) (Full None (length pools)) r
  pub unmap : (pools : List PoolEntry) (e : PoolEntry) (first len : ℕ) (slot : Numbered) (r : Root) →
      Contains r.maps (map_title slot.slot len) →
      slot.slot.start ≡ page_place first 1 → e.act ≡ pool.Give (supers_for len) first →
      RootActFits (pools ++ e ∷ []) (Unmap (length pools) slot) r
  pub next : (pools : List PoolEntry) (journal : List RootEntry) → IsJournal pools journal → least_after_all 0 journal ≤ length pools

-- each span of the root entered one of the four states
abbrev pub IsUsed : Root → Type 0
IsUsed r = (s : Span) → Contains r.spans s → is_in state.None s ≡ false

-- Takes, returns and purges keep each span in one of the four states, so a journal does. In such a root the counts of the four
-- states add up to the number of spans.
pub record SpansAreUsed : Type 0 where
  pub takes_keep : (class want : ℕ) (r : Root) → IsSound r → class < class_count → IsUsed r → IsUsed (takes class want r).root
  pub returns_keep : (r : Root) (xs : List SlotName) → IsSound r → All (IsOut r) xs → AllPairs ◌≢◌ xs → IsUsed r →
      IsUsed (all_returned xs r)
  pub purge_keeps : (r : Root) → IsSound r → IsUsed r → IsUsed (purged r)
  pub journal : (pools : List PoolEntry) (journal : List RootEntry) → IsJournal pools journal →
      IsUsed (root_replayed pools journal new_root)
  pub counted : (r : Root) → IsUsed r →
      count_in state.Full r + count_in state.Active r + count_in state.Empty r + count_in state.Decommitted r ≡ length r.spans

-- the names of the slots of a span that are out
abbrev pub names_of : Span → List SlotName
names_of s = map (λ n. name_of (title_at s n)) (out_of s)

-- the names of all slots and direct maps that are out of a root
abbrev pub names_out : Root → List SlotName
names_out r = flat_map names_of r.spans ++ map name_of r.maps

-- how many slots of the root's spans were made
abbrev pub slots_made : Root → ℕ
slots_made r = sum_by (λ (s : Span). s.made) r.spans

-- What is out is listed, each once. The slots that a root keeps and those that are out are together the slots that were made
-- and the direct maps that are mapped.
pub record AddsUp (r : Root) : Type 0 where
  pub out : (name : SlotName) → Contains (names_out r) name ↔ IsNameOut r name
  pub once : AllPairs ◌≢◌ (names_out r)
  pub counted : (census r).root.slots + length (names_out r) ≡ slots_made r + length r.maps

-- each root that a journal leaves adds up
abbrev pub RootAddsUp : Type 0
RootAddsUp = (pools : List PoolEntry) (journal : List RootEntry) → IsJournal pools journal → AddsUp (root_replayed pools journal new_root)
