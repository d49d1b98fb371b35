-- The root of a partition: what a list of its journal's entries replays to, and which entry fits.
use Rattle.std.specs.Prelude.{◌≡◌, ℕ, zero, suc, ◌+◌, ◌-◌, ◌<◌, ◌≤◌, ◌==◌, ◌&&◌, nat_lt, nat_le, if◌then◌else◌, ◌⊎◌, List, [], ◌∷◌, ◌++◌, map, length, Option, Some, None, IsSome, IsNone, All, AllPairs, Contains, find, count_by, slice_get, filter_map, ◌≢◌}
use Rattle.pa_slot.specs.declared.title.Title.{Title}
use Rattle.pa_slot.specs.declared.word.SlotName.{SlotName}
use Rattle.pa_layout.specs.Pages.{page_place, supers_for}
use Rattle.pa_buckets.specs.declared.spans.State.{State}
use Rattle.pa_buckets.specs.declared.spans.State.TheVariants as state
use Rattle.pa_buckets.specs.Limits.{class_count}
use Rattle.pa_buckets.specs.Table.{pages_of}
use Rattle.pa_buckets.specs.Bands.{fill_of}
use Rattle.pa_record.specs.declared.taken.SuperPage.{SuperPage}
use Rattle.pa_record.specs.declared.numbered.Numbered.{Numbered}
use Rattle.pa_record.specs.declared.pool.PoolEntry.{PoolEntry}
use Rattle.pa_record.specs.declared.pool.PoolAct.{PoolAct}
use Rattle.pa_record.specs.declared.pool.PoolAct.TheVariants as pool
use Rattle.pa_record.specs.declared.root.RootEntry.{RootEntry}
use Rattle.pa_record.specs.declared.root.RootAct.{RootAct}
use Rattle.pa_record.specs.declared.root.RootAct.TheVariants.{Fill, Map, Full, Give, Unmap, Purge}
use Rattle.pa_record.specs.Pool.{act_at, FoundRun, FoundNone, GaveRun}
use Rattle.pa_record.specs.Spans.{Span, title_at, name_of, holds, number_in, with_free, without_front, with_front, without_pages, state_in_use, state_back, same_state, is_in, earliest, listed, put}

-- The super pages that fills took, in order, of which the last is the current one; the next free partition page of the
-- current one; the next turn; the direct maps that are mapped; and the spans, in the order in which they were made.
pub record Root : Type 0 where
  pub supers : List SuperPage
  pub page : ℕ
  pub turn : ℕ
  pub maps : List Title
  pub spans : List Span

-- the root at the start, which has no super page, no direct map and no span
abbrev pub new_root : Root
new_root = record { supers = []; page = 0; turn = 0; maps = []; spans = [] }

-- the current super page: the last one that was taken, or none if none was
abbrev pub current : Root → Option SuperPage
current r = slice_get r.supers (length r.supers - 1)

-- the span in this state, with the next turn if it was in another one before
abbrev pub in_state : State → ℕ → Span → Span
in_state to turn s = if same_state s.state to then s else record s { state = to; turn = turn }

-- the next turn after a span entered the state: one more if the span was in another one before
abbrev pub turn_after : State → ℕ → Span → ℕ
turn_after to turn s = if same_state s.state to then turn else turn + 1

-- the root after its span s entered the state
abbrev pub entered : State → Span → Root → Root
entered to s r = record r { spans = put (in_state to r.turn s) r.spans; turn = turn_after to r.turn s }

-- a span, and the root that it is in
pub record Found : Type 0 where
  pub span : Span
  pub root : Root

-- a new span of the class at the next free page of a super page: nothing of it is committed
abbrev pub new_span : ℕ → SuperPage → ℕ → Span
new_span class at page =
    record {
      place = page_place at.number page;
      born = at.born;
      class = class;
      state = state.None;
      turn = 0;
      allocated = 0;
      provisioned = 0;
      committed = 0;
      made = 0;
      free = [];
    }

-- the root with a new span, whose pages are taken
abbrev pub with_span : Span → Root → Root
with_span s r = record r { page = r.page + pages_of s.class; spans = r.spans ++ s ∷ [] }

-- a new span of the class at the next free page of the current super page, if there is one and the span's pages end before
-- its last partition page, number 127
abbrev pub at_page : ℕ → Root → Option SuperPage → Option Found
at_page class r None = None
at_page class r (Some at) =
    let s = new_span class at r.page in
    if nat_le (r.page + pages_of class) 127 then Some (record { span = s; root = with_span s r }) else None

-- the listed span; if none is listed, a new one, if the current super page has room for it
abbrev pub found_or_new : ℕ → Root → Option Span → Option Found
found_or_new class r None = at_page class r (current r)
found_or_new class r (Some s) = Some (record { span = s; root = r })

-- the span from which a slot of the class is taken, without asking the pool
abbrev pub span_for : ℕ → Root → Option Found
span_for class r = found_or_new class r (listed class r.spans)

-- the root after a take, and the slot that was taken
pub record Took : Type 0 where
  pub root : Root
  pub title : Option Title

-- the root after the front of this list of the span is taken, and as it was if the list is empty
abbrev pub front_taken : List ℕ → Span → Root → Took
front_taken [] s r = record { root = r; title = None }
front_taken (number ∷ rest) s r =
    let t = without_front rest s in
    record { root = entered (state_in_use t) t r; title = Some (title_at s number) }

-- a take from the span that was found, which first gets new slots if its list is empty; if none was found, nothing changes
abbrev pub taken_from : Option Found → Root → Took
taken_from None r = record { root = r; title = None }
taken_from (Some f) r = let s = with_free f.span in front_taken s.free s f.root

-- one take of a slot of the class that may not ask the pool
abbrev pub one_take : ℕ → Root → Took
one_take class r = taken_from (span_for class r) r

-- the root after a fill, and the slots that were taken, in order
pub record Filled : Type 0 where
  pub root : Root
  pub titles : List Title

-- after a take that gave a slot, the rest of the fill goes on from the take's root; after one that gave none, it ends
abbrev pub and_then : Took → (Root → Filled) → Filled
and_then t further = elim t.title as (λ o. Filled) [
  | None ↦ record { root = t.root; titles = [] }
  | Some title ↦ let rest = further t.root in record { root = rest.root; titles = title ∷ rest.titles }
]

-- takes until `want` slots are taken or a take finds none
abbrev pub takes : ℕ → ℕ → Root → Filled
takes class zero r = record { root = r; titles = [] }
takes class (suc want) r = and_then (one_take class r) (takes class want)

-- a super page that the pool gave becomes the current one; the pages that are left in the old one stay unused
abbrev pub opened : ℕ → ℕ → Root → Root
opened number born r = record r { supers = r.supers ++ record { number = number; born = born } ∷ []; page = 1 }

-- the root after this empty span, if there is one, is decommitted
abbrev pub decommitted_span : Option Span → Root → Root
decommitted_span None r = r
decommitted_span (Some s) r = entered state.Decommitted (without_pages s) r

-- the root after the one of its empty spans with the least turn is decommitted, if any is empty
abbrev pub oldest_decommitted : Root → Root
oldest_decommitted r = decommitted_span (earliest (is_in state.Empty) r.spans) r

-- how many spans of the root are empty
abbrev pub empties : Root → ℕ
empties r = count_by (is_in state.Empty) r.spans

-- the root after its oldest empty span is decommitted if more than 16 are empty
abbrev pub settled : Root → Root
settled r = if nat_lt 16 (empties r) then oldest_decommitted r else r

-- the root after the slot came back to the front of the list of this span, if there is one
abbrev pub put_back : SlotName → Option Span → Root → Root
put_back name None r = r
put_back name (Some s) r = let t = with_front (number_in s name) s in entered (state_back t) t r

-- the root after a slot is returned and, if more than 16 spans are empty then, the oldest empty one is decommitted
abbrev pub returned : SlotName → Root → Root
returned name r = settled (put_back name (find (holds name) r.spans) r)

-- the root after these slots are returned one by one
abbrev pub all_returned : List SlotName → Root → Root
all_returned [] r = r
all_returned (name ∷ names) r = all_returned names (returned name r)

-- the root after its oldest empty span is decommitted, n times
abbrev pub decommitted_times : ℕ → Root → Root
decommitted_times zero r = r
decommitted_times (suc n) r = decommitted_times n (oldest_decommitted r)

-- the root after as many decommits of its oldest empty span as it has empty spans
abbrev pub purged : Root → Root
purged r = decommitted_times (empties r) r

-- the title of a direct map with this name, whose slot has `len` bytes
abbrev pub map_title : SlotName → ℕ → Title
map_title name len = record { start = name.start; len = len; born = name.born }

-- the direct maps without the first one of this name
abbrev pub without_map : SlotName → List Title → List Title
without_map name [] = []
without_map name (t ∷ ts) = if (t.start == name.start) && (t.born == name.born) then ts else t ∷ without_map name ts

-- the root with one more direct map, the last
abbrev pub mapped : Title → Root → Root
mapped t r = record r { maps = r.maps ++ t ∷ [] }

-- the root without its direct map of this name
abbrev pub unmapped : SlotName → Root → Root
unmapped name r = record r { maps = without_map name r.maps }

-- the name is a slot of the span, and out of the root
pub record IsOutOf (s : Span) (name : SlotName) (number : ℕ) : Type 0 where
  pub provisioned : number < s.provisioned
  pub named : name ≡ name_of (title_at s number)
  pub out : Contains s.free number → ⊥

-- the name is a slot of some span of the root, and out
abbrev pub IsOut : Root → SlotName → Type 0
IsOut r name = (s : Span) × Contains r.spans s × (number : ℕ) × IsOutOf s name number

-- the title is out of the root: it is a slot that is out, or a direct map
abbrev pub IsTitleOut : Root → Title → Type 0
IsTitleOut r t =
    ((s : Span) × Contains r.spans s × (number : ℕ) × IsOutOf s (name_of t) number × (t ≡ title_at s number)) ⊎ Contains r.maps t

-- the super page that an act of the pool found, or 0 if it found none
abbrev pub super_of : Option PoolAct → ℕ
super_of (Some (pool.Take count (Some first))) = first
super_of a = 0

-- the root in which the super page that the pool's entry j found is the current one, if a fill named that entry
abbrev pub opened_by : List PoolEntry → Option ℕ → Root → Root
opened_by pools None r = r
opened_by pools (Some j) r = opened (super_of (act_at pools j)) j r

-- the names of slots, without the numbers of their count words
abbrev pub names : List Numbered → List SlotName
names slots = map (λ n. n.slot) slots

-- the root after an entry
abbrev pub root_next : List PoolEntry → RootAct → Root → Root
root_next pools (Fill class asked slots) r = (takes class (fill_of class) (opened_by pools asked r)).root
root_next pools (Map asked slot len) r = mapped (map_title slot len) r
root_next pools (Full class asked) r = r
root_next pools (Give slots) r = all_returned (names slots) r
root_next pools (Unmap asked slot) r = unmapped slot.slot r
root_next pools Purge r = purged r

-- a fill's first take asked the pool exactly when an entry is named, and it found a super page
abbrev pub Asked : List PoolEntry → ℕ → Option ℕ → Root → Type 0
Asked pools class None r = IsSome (span_for class r)
Asked pools class (Some j) r = IsNone (span_for class r) × (first : ℕ) × FoundRun pools j 1 first

-- a Full fits: its entry of the pool found nothing, and if it names a class, the root has no span of it to take from
abbrev pub FullFits : List PoolEntry → Option ℕ → ℕ → Root → Type 0
FullFits pools None asked r = (count : ℕ) × FoundNone pools asked count
FullFits pools (Some class) asked r = IsNone (span_for class r) × FoundNone pools asked 1

-- the direct map's slot lies in the super pages that the pool's entry found
abbrev pub MapFits : List PoolEntry → ℕ → SlotName → ℕ → Type 0
MapFits pools asked slot len =
    (first : ℕ) × FoundRun pools asked (supers_for len) first × (slot.start ≡ page_place first 1) × (slot.born ≡ asked)

-- the slot is a direct map of this root, whose super pages the pool's entry gave back
abbrev pub UnmapFits : List PoolEntry → ℕ → SlotName → Root → Type 0
UnmapFits pools asked slot r =
    (len first : ℕ) × Contains r.maps (map_title slot len) × (slot.start ≡ page_place first 1) × GaveRun pools asked (supers_for len) first

-- an entry fits the root after the entries before it
abbrev pub RootActFits : List PoolEntry → RootAct → Root → Type 0
RootActFits pools (Fill class asked slots) r =
    (class < class_count) × Asked pools class asked r
    × (map name_of (takes class (fill_of class) (opened_by pools asked r)).titles ≡ names slots)
RootActFits pools (Map asked slot len) r = MapFits pools asked slot len
RootActFits pools (Full class asked) r = FullFits pools class asked r
RootActFits pools (Give slots) r = All (IsOut r) (names slots) × AllPairs ◌≢◌ (names slots)
RootActFits pools (Unmap asked slot) r = UnmapFits pools asked slot.slot r
RootActFits pools Purge r = Unit {0}

-- the root after these entries
abbrev pub root_replayed : List PoolEntry → List RootEntry → Root → Root
root_replayed pools [] r = r
root_replayed pools (e ∷ es) r = root_replayed pools es (root_next pools e.act r)

-- each of these entries fits the root after the entries before it; `pools` are the entries of the pool
abbrev pub RootReplays : List PoolEntry → List RootEntry → Root → Type 0
RootReplays pools [] r = Unit {0}
RootReplays pools (e ∷ es) r = RootActFits pools e.act r × RootReplays pools es (root_next pools e.act r)

-- the pool's entry that an entry names
abbrev pub asked_by : RootAct → Option ℕ
asked_by (Fill class asked slots) = asked
asked_by (Map asked slot len) = Some asked
asked_by (Full class asked) = Some asked
asked_by (Give slots) = None
asked_by (Unmap asked slot) = Some asked
asked_by Purge = None

-- the pool's entries that a journal names, in order
abbrev pub all_asked : List RootEntry → List ℕ
all_asked es = filter_map (λ (e : RootEntry). asked_by e.act) es

-- rising numbers, the first of which is at least `least`
abbrev pub RiseFrom : ℕ → List ℕ → Type 0
RiseFrom least [] = Unit {0}
RiseFrom least (n ∷ ns) = (least ≤ n) × RiseFrom (n + 1) ns

-- a journal of a root: each entry fits, and the pool's entries that they name rise
pub record IsJournal (pools : List PoolEntry) (journal : List RootEntry) : Type 0 where
  pub replays : RootReplays pools journal new_root
  pub rise : RiseFrom 0 (all_asked journal)
