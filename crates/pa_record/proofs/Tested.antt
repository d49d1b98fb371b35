-- Tests that compute, by which a written journal and a written list of the pool's entries are seen to fit.
use Rattle.std.proofs.Common.{◌≡◌, ◌≢◌, ℕ, zero, suc, ◌+◌, ◌≤◌, Bool, true, false, ◌&&◌, ◌||◌, not, eqb, ltb, leb, List, [], ◌∷◌, map, Option, Some, None, refl, ap, subst, arith, inl, inr}
use Rattle.std.specs.Prelude.{All, AllPairs, Contains, slice_get, is_some, find}
use Rattle.std.specs.List.{list_all}
use Rattle.std.proofs.lemmas.List.Elements.{All-nil, All-cons}
use Rattle.std.proofs.lemmas.Bool.{and_parts, or_cases, eqb-true, ltb-true, leb-true, cases_lt, not-true, both_ways, eq-eqb, le-leb, or_left, or_right, and_from, agree_below, agree_below_at, false≢true, true≢false}
use Rattle.pa_slot.specs.declared.title.Title.{Title}
use Rattle.pa_slot.specs.declared.word.SlotName.{SlotName}
use Rattle.pa_layout.specs.Pages.{page_place, supers_for}
use Rattle.pa_record.specs.declared.taken.Taken.{Taken}
use Rattle.pa_record.specs.declared.pool.PoolEntry.{PoolEntry}
use Rattle.pa_record.specs.declared.pool.PoolAct.{PoolAct}
use Rattle.pa_record.specs.declared.pool.PoolAct.TheVariants as pool
use Rattle.pa_record.specs.declared.root.RootEntry.{RootEntry}
use Rattle.pa_record.specs.declared.root.RootAct.{RootAct}
use Rattle.pa_record.specs.declared.root.RootAct.TheVariants.{Fill, Map, Full, Give, Unmap, Purge}
use Rattle.pa_buckets.specs.Bands.{fill_of}
use Rattle.pa_record.specs.Pool.{PoolState, IsApart, IsFreeRun, IsLowest, IsOneTake, IsPartitions, PoolActFits, PoolReplays, pool_next, act_at}
use Rattle.pa_record.specs.Spans.{Span, title_at, name_of, holds, number_in}
use Rattle.pa_record.specs.Root.{Root, span_for, takes, opened_by, names, map_title, root_next, IsOut, Asked, FullFits, MapFits, UnmapFits, RootActFits, RootReplays, RiseFrom}
use Rattle.pa_lists.proofs.Members.{first_in, later_in, find_is, has, has_not}
use Rattle.pa_lists.proofs.Elements.{passes}

-- names that are one
abbrev pub same_name : SlotName → SlotName → Bool
same_name a b = eqb a.start b.start && eqb a.born b.born

pub name_is : (start born : ℕ) (b : SlotName) → start ≡ b.start → born ≡ b.born → record { start = start; born = born } ≡ b
name_is start born b e f = let same : record { start = start; born = born } ≡ record { start = b.start; born = b.born } = rw (e, f) refl in
    same

pub same_name-true : (a b : SlotName) → same_name a b ≡ true → a ≡ b
same_name-true a b h = let p = and_parts _ _ h in name_is a.start a.born b (eqb-true _ _ p.0) (eqb-true _ _ p.1)

pub same_name-self : (a : SlotName) → same_name a a ≡ true
same_name-self a = rw (eq-eqb a.start a.start refl, eq-eqb a.born a.born refl) refl

abbrev pub same_names : List SlotName → List SlotName → Bool
same_names [] [] = true
same_names [] (b ∷ bs) = false
same_names (a ∷ as') [] = false
same_names (a ∷ as') (b ∷ bs) = same_name a b && same_names as' bs

same_names-true : (xs ys : List SlotName) → same_names xs ys ≡ true → xs ≡ ys
same_names-true [] [] h = refl
same_names-true [] (b ∷ bs) h = absurd (false≢true h)
same_names-true (a ∷ xs) [] h = absurd (false≢true h)
same_names-true (a ∷ xs) (b ∷ bs) h =
    let p = and_parts _ _ h in
    rw (same_name-true a b p.0, same_names-true xs bs p.1) refl

-- the name is a slot of the span that `find` gives, and out
abbrev pub is_out_of : Option Span → SlotName → Bool
is_out_of None name = false
is_out_of (Some s) name =
    let number = number_in s name in
    ltb number s.provisioned && (same_name name (name_of (title_at s number)) && not (has number s.free))

out_of_span : (r : Root) (name : SlotName) (o : Option Span) → find (holds name) r.spans ≡ o → is_out_of o name ≡ true → IsOut r name
out_of_span r name None e h = absurd (false≢true h)
out_of_span r name (Some s) e h =
    let number = number_in s name in
    let (p, q) = and_parts (ltb number s.provisioned) (same_name name (name_of (title_at s number)) && not (has number s.free)) h in
    let (named, free) = and_parts (same_name name (name_of (title_at s number))) (not (has number s.free)) q in
    let (among, _) = find_is (holds name) r.spans s e in (
      s,
      among,
      number,
      record {
        provisioned = ltb-true _ _ p;
        named = same_name-true _ _ named;
        out = has_not number s.free (not-true _ free);
      },
    )

abbrev pub is_out : Root → SlotName → Bool
is_out r name = is_out_of (find (holds name) r.spans) name

is_out-true : (r : Root) (name : SlotName) → is_out r name ≡ true → IsOut r name
is_out-true r name h = out_of_span r name (find (holds name) r.spans) refl h

-- each of the names is out, and no two of them are one
abbrev pub are_out : Root → List SlotName → Bool
are_out r xs = list_all (is_out r) xs

all_passing : {A : Type 0} (P : A → Type 0) (test : A → Bool) → ((x : A) → test x ≡ true → P x) → (xs : List A) → list_all test xs ≡ true →
    All P xs
all_passing P test says [] h = All-nil P
all_passing P test says (x ∷ xs) h =
    let (p, q) = and_parts _ _ h in
    All-cons P x xs (says x p) (all_passing P test says xs q)

abbrev pub other : SlotName → SlotName → Bool
other a b = not (same_name a b)

other-true : (a b : SlotName) → other a b ≡ true → a ≢ b
other-true a b h e = both_ways _ (not-true _ h) (rw e (same_name-self b))

abbrev pub all_other : List SlotName → Bool
all_other [] = true
all_other (x ∷ xs) = list_all (other x) xs && all_other xs

all_other-true : (xs : List SlotName) → all_other xs ≡ true → AllPairs ◌≢◌ xs
all_other-true [] h i j d before below = absurd (omega arith)
all_other-true (x ∷ xs) h zero zero d before below = absurd (omega arith)
all_other-true (x ∷ xs) h zero (suc j) d before below =
    all_passing (λ y. x ≢ y) (other x) (other-true x) xs (and_parts _ _ h).0 j d (omega arith)
all_other-true (x ∷ xs) h (suc i) zero d before below = absurd (omega arith)
all_other-true (x ∷ xs) h (suc i) (suc j) d before below = all_other-true xs (and_parts _ _ h).1 i j d (omega arith) (omega arith)

-- the pool's entry is a take that found super pages, one that found none, or a give
abbrev pub is_found : Option PoolAct → ℕ → Bool
is_found (Some (pool.Take count (Some first))) wanted = eqb count wanted
is_found a wanted = false

is_found-true : (a : Option PoolAct) (wanted : ℕ) → is_found a wanted ≡ true → (first : ℕ) × (a ≡ Some (pool.Take wanted (Some first)))
is_found-true None wanted h = absurd (false≢true h)
is_found-true (Some (pool.Take count None)) wanted h = absurd (false≢true h)
is_found-true (Some (pool.Take count (Some first))) wanted h = (first, ap (λ n. Some (pool.Take n (Some first))) (eqb-true _ _ h))
is_found-true (Some (pool.Give count first)) wanted h = absurd (false≢true h)

abbrev pub is_refused : Option PoolAct → ℕ → Bool
is_refused (Some (pool.Take count None)) wanted = eqb count wanted
is_refused a wanted = false

is_refused-true : (a : Option PoolAct) (wanted : ℕ) → is_refused a wanted ≡ true → a ≡ Some (pool.Take wanted None)
is_refused-true None wanted h = absurd (false≢true h)
is_refused-true (Some (pool.Take count None)) wanted h = ap (λ n. Some (pool.Take n None)) (eqb-true _ _ h)
is_refused-true (Some (pool.Take count (Some first))) wanted h = absurd (false≢true h)
is_refused-true (Some (pool.Give count first)) wanted h = absurd (false≢true h)

-- a count that some refused take has
abbrev pub refused_count : Option PoolAct → Option ℕ
refused_count (Some (pool.Take count None)) = Some count
refused_count a = None

refused_any : (a : Option PoolAct) → is_some (refused_count a) ≡ true → (count : ℕ) × (a ≡ Some (pool.Take count None))
refused_any None h = absurd (false≢true h)
refused_any (Some (pool.Take count None)) h = (count, refl)
refused_any (Some (pool.Take count (Some first))) h = absurd (false≢true h)
refused_any (Some (pool.Give count first)) h = absurd (false≢true h)

abbrev pub asks : List PoolEntry → ℕ → Option ℕ → Root → Bool
asks pools class None r = is_some (span_for class r)
asks pools class (Some j) r = not (is_some (span_for class r)) && is_found (act_at pools j) 1

asks-true : (pools : List PoolEntry) (class : ℕ) (asked : Option ℕ) (r : Root) → asks pools class asked r ≡ true → Asked pools class asked r
asks-true pools class None r h = h
asks-true pools class (Some j) r h =
    let (none, found) = and_parts (not (is_some (span_for class r))) (is_found (act_at pools j) 1) h in
    let (first, run) = is_found-true _ _ found in
    (not-true _ none, first, run)

abbrev pub is_full : List PoolEntry → Option ℕ → ℕ → Root → Bool
is_full pools None asked r = is_some (refused_count (act_at pools asked))
is_full pools (Some class) asked r = not (is_some (span_for class r)) && is_refused (act_at pools asked) 1

is_full-true : (pools : List PoolEntry) (class : Option ℕ) (asked : ℕ) (r : Root) → is_full pools class asked r ≡ true →
    FullFits pools class asked r
is_full-true pools None asked r h = refused_any _ h
is_full-true pools (Some class) asked r h =
    let (none, refused) = and_parts (not (is_some (span_for class r))) (is_refused (act_at pools asked) 1) h in
    (not-true _ none, is_refused-true _ _ refused)

-- the slot comes after the first guard of the super pages that an entry found
abbrev pub stands_in : Option PoolAct → ℕ → ℕ → Bool
stands_in (Some (pool.Take count (Some first))) wanted start = eqb count wanted && eqb start (page_place first 1)
stands_in (Some (pool.Give count first)) wanted start = eqb count wanted && eqb start (page_place first 1)
stands_in a wanted start = false

abbrev pub is_take : Option PoolAct → Bool
is_take (Some (pool.Take count first)) = true
is_take a = false

stands-taken : (a : Option PoolAct) (wanted start : ℕ) → is_take a ≡ true → stands_in a wanted start ≡ true →
    (first : ℕ) × (a ≡ Some (pool.Take wanted (Some first))) × (start ≡ page_place first 1)
stands-taken None wanted start t h = absurd (false≢true h)
stands-taken (Some (pool.Take count None)) wanted start t h = absurd (false≢true h)
stands-taken (Some (pool.Take count (Some first))) wanted start t h =
    let (p, q) = and_parts _ _ h in
    (first, ap (λ n. Some (pool.Take n (Some first))) (eqb-true _ _ p), eqb-true _ _ q)
stands-taken (Some (pool.Give count first)) wanted start t h = absurd (false≢true t)

stands-given : (a : Option PoolAct) (wanted start : ℕ) → is_take a ≡ false → stands_in a wanted start ≡ true →
    (first : ℕ) × (a ≡ Some (pool.Give wanted first)) × (start ≡ page_place first 1)
stands-given None wanted start t h = absurd (false≢true h)
stands-given (Some (pool.Take count None)) wanted start t h = absurd (false≢true h)
stands-given (Some (pool.Take count (Some first))) wanted start t h = absurd (true≢false t)
stands-given (Some (pool.Give count first)) wanted start t h =
    let (p, q) = and_parts _ _ h in
    (first, ap (λ n. Some (pool.Give n first)) (eqb-true _ _ p), eqb-true _ _ q)

abbrev pub is_map : List PoolEntry → ℕ → SlotName → ℕ → Bool
is_map pools asked slot len =
    is_take (act_at pools asked) && (stands_in (act_at pools asked) (supers_for len) slot.start && eqb slot.born asked)

is_map-true : (pools : List PoolEntry) (asked : ℕ) (slot : SlotName) (len : ℕ) → is_map pools asked slot len ≡ true →
    MapFits pools asked slot len
is_map-true pools asked slot len h =
    let (taken, q) = and_parts (is_take (act_at pools asked))
    (stands_in (act_at pools asked) (supers_for len) slot.start && eqb slot.born asked) h in
    let (stands, born) = and_parts (stands_in (act_at pools asked) (supers_for len) slot.start) (eqb slot.born asked) q in
    let (first, run, start) = stands-taken _ _ _ taken stands in
    (first, run, start, eqb-true _ _ born)

abbrev pub is_unmap_of : List PoolEntry → ℕ → SlotName → Option Title → Bool
is_unmap_of pools asked slot None = false
is_unmap_of pools asked slot (Some t) =
    not (is_take (act_at pools asked)) && stands_in (act_at pools asked) (supers_for t.len) slot.start

abbrev pub is_named : SlotName → Title → Bool
is_named slot t = same_name slot (name_of t)

map_is : (slot : SlotName) (t : Title) → slot ≡ name_of t → t ≡ map_title slot t.len
map_is slot t e = rw e refl

unmap_of : (pools : List PoolEntry) (asked : ℕ) (slot : SlotName) (r : Root) (o : Option Title) → find (is_named slot) r.maps ≡ o →
    is_unmap_of pools asked slot o ≡ true → UnmapFits pools asked slot r
unmap_of pools asked slot r None e h = absurd (false≢true h)
unmap_of pools asked slot r (Some t) e h =
    let (given, stands) = and_parts (not (is_take (act_at pools asked))) (stands_in (act_at pools asked) (supers_for t.len) slot.start) h in
    let (first, run, start) = stands-given _ _ _ (not-true _ given) stands in
    let (among, named) = find_is (is_named slot) r.maps t e in
    (t.len, first, subst (λ u. Contains r.maps u) (map_is slot t (same_name-true _ _ named)) among, start, run)

-- an entry fits
abbrev pub fits : List PoolEntry → RootAct → Root → Bool
fits pools (Fill class asked slots) r =
    ltb class 170 && (asks pools class asked r &&
    same_names (map name_of (takes class (fill_of class) (opened_by pools asked r)).titles) (names slots))
fits pools (Map asked slot len) r = is_map pools asked slot len
fits pools (Full class asked) r = is_full pools class asked r
fits pools (Give slots) r = list_all (is_out r) (names slots) && all_other (names slots)
fits pools (Unmap asked slot) r = is_unmap_of pools asked slot.slot (find (is_named slot.slot) r.maps)
fits pools Purge r = true

fits-true : (pools : List PoolEntry) (act : RootAct) (r : Root) → fits pools act r ≡ true → RootActFits pools act r
fits-true pools (Fill class asked slots) r h =
    let slots_same = same_names (map name_of (takes class (fill_of class) (opened_by pools asked r)).titles) (names slots) in
    let (real, rest) = and_parts (ltb class 170) (asks pools class asked r && slots_same) h in
    let (p, q) = and_parts (asks pools class asked r) slots_same rest in
    (ltb-true _ _ real, asks-true pools class asked r p, same_names-true _ _ q)
fits-true pools (Map asked slot len) r h = is_map-true pools asked slot len h
fits-true pools (Full class asked) r h = is_full-true pools class asked r h
fits-true pools (Give slots) r h =
    let (p, q) = and_parts (list_all (is_out r) (names slots)) (all_other (names slots)) h in
    (all_passing (IsOut r) (is_out r) (is_out-true r) (names slots) p, all_other-true (names slots) q)
fits-true pools (Unmap asked slot) r h = unmap_of pools asked slot.slot r _ refl h
fits-true pools Purge r h = tt

-- a whole journal fits
abbrev pub all_fit : List PoolEntry → List RootEntry → Root → Bool
all_fit pools [] r = true
all_fit pools (e ∷ es) r = fits pools e.act r && all_fit pools es (root_next pools e.act r)

pub all_fit-true : (pools : List PoolEntry) (es : List RootEntry) (r : Root) → all_fit pools es r ≡ true → RootReplays pools es r
all_fit-true pools [] r h = tt
all_fit-true pools (e ∷ es) r h =
    let (p, q) = and_parts (fits pools e.act r) (all_fit pools es (root_next pools e.act r)) h in
    (fits-true pools e.act r p, all_fit-true pools es (root_next pools e.act r) q)

-- numbers that rise
abbrev pub rise : ℕ → List ℕ → Bool
rise least [] = true
rise least (n ∷ ns) = leb least n && rise (n + 1) ns

pub rise-true : (least : ℕ) (ns : List ℕ) → rise least ns ≡ true → RiseFrom least ns
rise-true least [] h = tt
rise-true least (n ∷ ns) h = let (p, q) = and_parts (leb least n) (rise (n + 1) ns) h in (leb-true _ _ p, rise-true (n + 1) ns q)

-- a run of free super pages
abbrev pub apart : ℕ → ℕ → Taken → Bool
apart first count t = leb (first + count) t.first || leb (t.first + t.count) first

apart-true : (first count : ℕ) (t : Taken) → apart first count t ≡ true → IsApart first count t
apart-true first count t h = elim (or_cases _ _ h) [
  | inl below ↦ inl (leb-true _ _ below)
  | inr above ↦ inr (leb-true _ _ above)
]

apart-from : (first count : ℕ) (t : Taken) → IsApart first count t → apart first count t ≡ true
apart-from first count t (inl below) = or_left _ _ (le-leb _ _ below)
apart-from first count t (inr above) = or_right _ _ (le-leb _ _ above)

abbrev pub is_free : PoolState → ℕ → ℕ → Bool
is_free s count first = leb (first + count) s.supers && list_all (apart first count) s.taken

list_all-from : {A : Type 0} (test : A → Bool) (xs : List A) → ((x : A) → Contains xs x → test x ≡ true) → list_all test xs ≡ true
list_all-from test [] h = refl
list_all-from test (y ∷ ys) h = and_from _ _ (h y (first_in y ys)) (list_all-from test ys (λ x among. h x (later_in y x ys among)))

is_free-true : (s : PoolState) (count first : ℕ) → is_free s count first ≡ true → IsFreeRun s count first
is_free-true s count first h =
    let (p, q) = and_parts (leb (first + count) s.supers) (list_all (apart first count) s.taken) h in
    record { inside = leb-true _ _ p; free = λ t among. apart-true first count t (passes (apart first count) s.taken t q among) }

is_free-from : (s : PoolState) (count first : ℕ) → IsFreeRun s count first → is_free s count first ≡ true
is_free-from s count first h =
    and_from _ _ (le-leb _ _ h.inside) (list_all-from (apart first count) s.taken (λ t among. apart-from first count t (h.free t among)))

-- none of the runs that begin below n is free
abbrev pub none_below : PoolState → ℕ → ℕ → Bool
none_below s count n = agree_below (λ first. is_free s count first) (λ first. false) n

not_below : (s : PoolState) (count n first : ℕ) → none_below s count n ≡ true → IsFreeRun s count first → n ≤ first
not_below s count n first h free = elim (cases_lt first n) [
  | inl below ↦ absurd (both_ways _ (agree_below_at (λ k. is_free s count k) (λ k. false) n first h below)
      (is_free-from s count first free))
  | inr above ↦ above
]

abbrev pub is_lowest : PoolState → ℕ → Option ℕ → Bool
is_lowest s count None = leb 1 count && none_below s count s.supers
is_lowest s count (Some first) = is_free s count first && none_below s count first

is_lowest-true : (s : PoolState) (count : ℕ) (found : Option ℕ) → is_lowest s count found ≡ true → IsLowest s count found
is_lowest-true s count None h =
    λ first free.
    let (p, q) = and_parts (leb 1 count) (none_below s count s.supers) h in
    let some = leb-true 1 count p in
    let above = not_below s count s.supers first q free in
    let inside = free.inside in
    omega arith
is_lowest-true s count (Some first) h =
    let (p, q) = and_parts (is_free s count first) (none_below s count first) h in
    (is_free-true s count first p, λ lower free. not_below s count first lower q free)

-- an entry of the pool fits
abbrev pub is_run : ℕ → ℕ → Taken → Bool
is_run first count t = eqb t.first first && eqb t.count count

abbrev pub is_for : ℕ → Option PoolEntry → Bool
is_for partition None = false
is_for partition (Some e) = eqb e.partition partition

is_for-true : (partition : ℕ) (o : Option PoolEntry) → is_for partition o ≡ true → (e : PoolEntry) × (o ≡ Some e) ×
    (e.partition ≡ partition)
is_for-true partition None h = absurd (false≢true h)
is_for-true partition (Some e) h = (e, refl, eqb-true _ _ h)

abbrev pub is_given : List PoolEntry → ℕ → Option Taken → Bool
is_given pools partition None = false
is_given pools partition (Some t) = is_for partition (slice_get pools t.entry)

given_run : (pools : List PoolEntry) (partition first count : ℕ) (s : PoolState) (o : Option Taken) →
    find (is_run first count) s.taken ≡ o →
    is_given pools partition o ≡ true → (t : Taken) × IsOneTake s first count t × IsPartitions pools partition t
given_run pools partition first count s None e h = absurd (false≢true h)
given_run pools partition first count s (Some t) e h =
    let (among, run) = find_is (is_run first count) s.taken t e in
    let (p, q) = and_parts _ _ run in
    (t, record { among = among; begins = eqb-true _ _ p; reaches = eqb-true _ _ q }, is_for-true partition _ h)

abbrev pub pool_fits : List PoolEntry → ℕ → PoolAct → PoolState → Bool
pool_fits pools partition (pool.Take count found) s = leb 1 count && is_lowest s count found
pool_fits pools partition (pool.Give count first) s = is_given pools partition (find (is_run first count) s.taken)

pool_fits-true : (pools : List PoolEntry) (partition : ℕ) (act : PoolAct) (s : PoolState) → pool_fits pools partition act s ≡ true →
    PoolActFits pools partition act s
pool_fits-true pools partition (pool.Take count found) s h =
    let (p, q) = and_parts (leb 1 count) (is_lowest s count found) h in
    (leb-true _ _ p, is_lowest-true s count found q)
pool_fits-true pools partition (pool.Give count first) s h = given_run pools partition first count s _ refl h

abbrev pub pool_all_fit : List PoolEntry → List PoolEntry → PoolState → Bool
pool_all_fit pools [] s = true
pool_all_fit pools (e ∷ es) s = pool_fits pools e.partition e.act s && pool_all_fit pools es (pool_next e.act s)

pub pool_all_fit-true : (pools es : List PoolEntry) (s : PoolState) → pool_all_fit pools es s ≡ true → PoolReplays pools es s
pool_all_fit-true pools [] s h = tt
pool_all_fit-true pools (e ∷ es) s h =
    let (p, q) = and_parts (pool_fits pools e.partition e.act s) (pool_all_fit pools es (pool_next e.act s)) h in
    (pool_fits-true pools e.partition e.act s p, pool_all_fit-true pools es (pool_next e.act s) q)
