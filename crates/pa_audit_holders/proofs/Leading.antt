-- What the tests of a record's row tell, by its answer.
use Rattle.std.proofs.Common.{◌≡◌, ℕ, ◌+◌, ◌-◌, ◌<◌, Bool, true, false, ◌↔◌, List, [], ◌∷◌, drop, get_or, length, set, take, Some, None, refl, sym, ◌∙◌, ap, subst, arith, inl, inr}
use Rattle.std.specs.Prelude.{IsTrue}
use Rattle.std.proofs.Math.Seq.{take_all}
use Rattle.std.proofs.lemmas.Bool.{false≢true}
use Rattle.std.proofs.lemmas.List.{get_or_default, length-drop}
use Rattle.pa_slot.specs.declared.word.SlotName.{SlotName}
use Rattle.pa_slot.specs.declared.word.Step.{Step}
use Rattle.pa_slot.specs.Count.{number_of}
use Rattle.pa_slot.specs.Run.{IsReturning}
use Rattle.pa_record.specs.declared.entry.Seen.{Seen}
use Rattle.pa_record.specs.declared.numbered.Numbered.{Numbered}
use Rattle.pa_record.specs.declared.root.RootAct.TheVariants.{Full, Map}
use Rattle.pa_rules.specs.declared.played.Played.{Played}
use Rattle.pa_rules.specs.Roots.{Journals, AsksForClass, AsksForMap}
use Rattle.pa_rules.specs.Caches.{Cache, CacheRow, DoneRow, FilledFirst, FrontIs, FullRow, IsDirect, IsOfClass, MadeRow, NoActs, OnlyActs, PurgedRow, ReturnRow, SameLists, gives, kept, spilled, unmap_at, with_list}
use Rattle.pa_rules.proofs.Asking.{class_once, map_once, class_or_map}
use Rattle.pa_audit_holders.specs.Gives.{PurgesAll, whole_purge}
use Rattle.pa_audit_holders.specs.Homes.{HasOneHome, IsHomeless}
use Rattle.pa_audit_holders.specs.Lists.{VersionLists, cache_in, caches_in, no_lists}
use Rattle.pa_audit_holders.proofs.Listing.{caches_set}
use Rattle.pa_audit_holders.proofs.Caching.{filled_one}
use Rattle.pa_audit_holders.specs.Rows.{BackRow, ClassRow, TellsFilled, TellsNext, TellsRow}

same_as : (after cache : Cache) → after ≡ cache → SameLists after cache
same_as after cache e = λ p c. ap (λ (z : Cache). z p c) e

-- a test of the entries alone, if the lists stay
pub row_stays : (Row : Cache → Type 0) (May : Type 0) (cache : Cache) (b : Bool) → IsTrue b ↔ May → (May → Row cache) →
    ((next : Cache) → Row next → May) → TellsRow Row cache b
row_stays Row May cache true test onto back = onto (test.0 refl)
row_stays Row May cache false test onto back = λ next row. false≢true (test.1 (back next row))

-- a row in other words
pub row_same : (Row Other : Cache → Type 0) (after : Cache) (b : Bool) → ((next : Cache) → Row next → Other next)
    → ((next : Cache) → Other next → Row next) → TellsRow Row after b → TellsRow Other after b
row_same Row Other after true f g h = f after h
row_same Row Other after false f g h = λ next row. h next (g next row)

-- ---- a slot was made

made_class : (roots : Journals) (x : Played) (seen : Seen) (cache next : Cache) (p class : ℕ) → AsksForClass x p class →
    MadeRow roots x seen cache next → ClassRow roots x.line p class seen cache next
made_class roots x seen cache next p class asks (inl (q, d, xs, rest, asks', filled, front, becomes)) =
    let (e, f) = class_once x q p d class asks' asks in
    subst (λ z. ClassRow roots x.line z class seen cache next) e
    (subst (λ z. ClassRow roots x.line q z seen cache next) f (xs, rest, filled, front, becomes))
made_class roots x seen cache next p class asks (inr (q, size, asked, len, asks', only, becomes)) =
    absurd (class_or_map x p q class size asks asks')

class_made : (roots : Journals) (x : Played) (seen : Seen) (cache next : Cache) (p class : ℕ) → AsksForClass x p class →
    ClassRow roots x.line p class seen cache next → MadeRow roots x seen cache next
class_made roots x seen cache next p class asks (xs, rest, filled, front, becomes) = inl (p, class, xs, rest, asks, filled, front, becomes)

pub made_by_class : (roots : Journals) (x : Played) (seen : Seen) (cache after : Cache) (p class : ℕ) (b : Bool) → AsksForClass x p class →
    TellsRow (ClassRow roots x.line p class seen cache) after b
    → TellsRow (MadeRow roots x seen cache) after b
made_by_class roots x seen cache after p class b asks h =
    row_same (ClassRow roots x.line p class seen cache) (MadeRow roots x seen cache) after b
    (λ next row. class_made roots x seen cache next p class asks row) (λ next row. made_class roots x seen cache next p class asks row) h

abbrev pub IsMappedOnly : Journals → ℕ → ℕ → SlotName → Type 0
IsMappedOnly roots line p s = (asked len : ℕ) × OnlyActs roots line p (Map asked s len ∷ [])

pub made_by_map : (roots : Journals) (x : Played) (seen : Seen) (cache : Cache) (p size : ℕ) (b : Bool) → AsksForMap x p size →
    IsTrue b ↔ IsMappedOnly roots x.line p seen.slot
    → TellsRow (MadeRow roots x seen cache) cache b
made_by_map roots x seen cache p size b asks test =
    row_stays (MadeRow roots x seen cache) (IsMappedOnly roots x.line p seen.slot) cache b test
    (λ (asked, len, only). inr (p, size, asked, len, asks, only, λ q c. refl)) back
  where
    back : (next : Cache) → MadeRow roots x seen cache next → IsMappedOnly roots x.line p seen.slot
    back next (inl (q, d, xs, rest, asks', filled, front, becomes)) = absurd (class_or_map x q p d size asks' asks)
    back next (inr (q, m, asked, len, asks', only, becomes)) =
        let (e, f) = map_once x q p m size asks' asks in
        subst (λ z. IsMappedOnly roots x.line z seen.slot) e (asked, len, only)

pub made_by_none : (roots : Journals) (x : Played) (seen : Seen) (cache : Cache) → ((p class : ℕ) → AsksForClass x p class → ⊥) →
    ((p size : ℕ) → AsksForMap x p size → ⊥)
    → TellsRow (MadeRow roots x seen cache) cache false
made_by_none roots x seen cache class map next (inl (q, d, xs, rest, asks, filled, front, becomes)) = class q d asks
made_by_none roots x seen cache class map next (inr (q, m, asked, len, asks, only, becomes)) = map q m asks

-- ---- there was no room

abbrev pub IsRoomless : Journals → ℕ → ℕ → ℕ → Type 0
IsRoomless roots line p class = (asked : ℕ) × OnlyActs roots line p (Full (Some class) asked ∷ [])

abbrev pub IsClassFull : Journals → ℕ → ℕ → ℕ → Cache → Type 0
IsClassFull roots line p class cache = (cache p class ≡ []) × IsRoomless roots line p class

pub full_by_class : (roots : Journals) (x : Played) (cache : Cache) (p class : ℕ) (b : Bool) → AsksForClass x p class
    → IsTrue b ↔ IsClassFull roots x.line p class cache → TellsRow (FullRow roots x cache) cache b
full_by_class roots x cache p class b asks test = row_stays (FullRow roots x cache) (IsClassFull roots x.line p class cache) cache b test
    (λ (empty, (asked, only)). inl (p, class, asked, asks, empty, only, λ q c. refl)) back
  where
    back : (next : Cache) → FullRow roots x cache next → IsClassFull roots x.line p class cache
    back next (inl (q, d, asked, asks', empty, only, row)) =
        let (e, f) = class_once x q p d class asks' asks in
        subst (λ z. IsClassFull roots x.line z class cache) e (subst (λ z. IsClassFull roots x.line q z cache) f (empty, (asked, only)))
    back next (inr (q, m, asked, asks', only, row)) = absurd (class_or_map x p q class m asks asks')

abbrev pub IsMapFull : Journals → ℕ → ℕ → Type 0
IsMapFull roots line p = (asked : ℕ) × OnlyActs roots line p (Full None asked ∷ [])

pub full_by_map : (roots : Journals) (x : Played) (cache : Cache) (p size : ℕ) (b : Bool) → AsksForMap x p size →
    IsTrue b ↔ IsMapFull roots x.line p → TellsRow (FullRow roots x cache) cache b
full_by_map roots x cache p size b asks test = row_stays (FullRow roots x cache) (IsMapFull roots x.line p) cache b test
    (λ (asked, only). inr (p, size, asked, asks, only, λ q c. refl)) back
  where
    back : (next : Cache) → FullRow roots x cache next → IsMapFull roots x.line p
    back next (inl (q, d, asked, asks', empty, only, row)) = absurd (class_or_map x q p d size asks' asks)
    back next (inr (q, m, asked, asks', only, row)) =
        let (e, f) = map_once x q p m size asks' asks in
        subst (λ z. IsMapFull roots x.line z) e (asked, only)

pub full_by_none : (roots : Journals) (x : Played) (cache : Cache) → ((p class : ℕ) → AsksForClass x p class → ⊥)
    → ((p size : ℕ) → AsksForMap x p size → ⊥) → TellsRow (FullRow roots x cache) cache false
full_by_none roots x cache class map next (inl (q, d, asked, asks, empty, only, becomes)) = class q d asks
full_by_none roots x cache class map next (inr (q, m, asked, asks, only, becomes)) = map q m asks

-- ---- a slot came back

pub back_by_class : {version : ℕ} (roots : Journals) (x : Played) (slot : Numbered) (cache after : Cache) (p class : ℕ) (b : Bool)
    → HasOneHome version roots slot.slot → IsOfClass roots slot.slot p class
    → TellsRow (BackRow roots x.line p class slot cache) after b → TellsRow (ReturnRow roots x slot cache) after b
back_by_class roots x slot cache after p class b kind of h = row_same (BackRow roots x.line p class slot cache)
    (ReturnRow roots x slot cache) after b (λ next row. inl (p, class, of, row.0, row.1)) back h
  where
    back : (next : Cache) → ReturnRow roots x slot cache next → BackRow roots x.line p class slot cache next
    back next (inl (q, d, of', only, becomes)) =
        let (e, f) = kind.class q p d class of' of in
        subst (λ z. BackRow roots x.line z class slot cache next) e
        (subst (λ z. BackRow roots x.line q z slot cache next) f (only, becomes))
    back next (inr (q, asked, number, direct, only, becomes)) = absurd (kind.either p q class of direct)

abbrev pub IsUnmappedOnly : Journals → ℕ → ℕ → SlotName → Type 0
IsUnmappedOnly roots line p s = (asked number : ℕ) × OnlyActs roots line p (unmap_at asked s number ∷ [])

pub back_by_map : {version : ℕ} (roots : Journals) (x : Played) (slot : Numbered) (cache : Cache) (p : ℕ) (b : Bool)
    → HasOneHome version roots slot.slot → IsDirect roots slot.slot p → IsTrue b ↔ IsUnmappedOnly roots x.line p slot.slot
    → TellsRow (ReturnRow roots x slot cache) cache b
back_by_map roots x slot cache p b kind direct test =
    row_stays (ReturnRow roots x slot cache) (IsUnmappedOnly roots x.line p slot.slot) cache b test
    (λ (asked, number, only). inr (p, asked, number, direct, only, λ q c. refl)) back
  where
    back : (next : Cache) → ReturnRow roots x slot cache next → IsUnmappedOnly roots x.line p slot.slot
    back next (inl (q, d, of, only, becomes)) = absurd (kind.either q p d of direct)
    back next (inr (q, asked, number, direct', only, row)) =
        subst (λ z. IsUnmappedOnly roots x.line z slot.slot) (kind.direct q p direct' direct) (asked, number, only)

pub back_by_none : (roots : Journals) (x : Played) (slot : Numbered) (cache : Cache) → IsHomeless roots slot.slot →
    TellsRow (ReturnRow roots x slot cache) cache false
back_by_none roots x slot cache none next (inl (q, d, of, only, becomes)) = none.class q d of
back_by_none roots x slot cache none next (inr (q, asked, number, direct, only, becomes)) = none.direct q direct

-- ---- a step was made

pub done_returning : (roots : Journals) (x : Played) (step : Step) (seen : Seen) (cache after : Cache) (b : Bool) →
    IsReturning step seen.found.0
    → TellsRow (ReturnRow roots x (record { slot = seen.slot; number = number_of seen.found.0 + 1 }) cache) after b →
    TellsRow (DoneRow roots x (Some step) seen cache) after b
done_returning roots x step seen cache after b returns h =
    row_same (ReturnRow roots x (record { slot = seen.slot; number = number_of seen.found.0 + 1 }) cache)
    (DoneRow roots x (Some step) seen cache) after b (λ next row. inl (returns, row)) back h
  where
    back : (next : Cache) → DoneRow roots x (Some step) seen cache next →
        ReturnRow roots x (record { slot = seen.slot; number = number_of seen.found.0 + 1 }) cache next
    back next (inl (is, row)) = row
    back next (inr (not, none, becomes)) = absurd (not returns)

pub done_none : (roots : Journals) (x : Played) (seen : Seen) (cache : Cache) (b : Bool) → IsTrue b ↔ NoActs roots x.line →
    TellsRow (DoneRow roots x None seen cache) cache b
done_none roots x seen cache b test =
    row_stays (DoneRow roots x None seen cache) (NoActs roots x.line) cache b test (λ none. (none, λ p c. refl)) (λ next row. row.0)

-- ---- a purge

pub purged_row : (partitions : ℕ) (roots : Journals) (x : Played) (slots : ℕ) (cache after : Cache) → after ≡ (λ p c. [])
    → PurgesAll partitions roots x.line slots cache → PurgedRow partitions roots x slots cache after
unfolding whole_purge
purged_row partitions roots x slots cache after none (acts, counted) = (acts, counted, same_as after (λ p c. []) none)

pub purged_was : (partitions : ℕ) (roots : Journals) (x : Played) (slots : ℕ) (cache after : Cache) →
    PurgedRow partitions roots x slots cache after → PurgesAll partitions roots x.line slots cache
unfolding whole_purge
purged_was partitions roots x slots cache after (acts, counted, none) = (acts, counted)

-- ---- a list that changes

-- the rest of a list as a slice
pub slice_rest : {X : Type 0} (k : ℕ) (xs : List X) → take (length xs - k) (drop k xs) ≡ drop k xs
slice_rest k xs = let long = length-drop k xs in take_all (length xs - k) (drop k xs) (omega arith)

pub put_row : (roots : Journals) (line p class stays : ℕ) (slot : Numbered) (cache after : Cache) (list whole items more : List Numbered)
    → list ≡ cache p class → whole ≡ slot ∷ list → items ≡ whole → more ≡ whole
    → take stays items ≡ kept class items → drop stays items ≡ spilled class items → OnlyActs roots line p (gives (drop stays more)) →
    after ≡ with_list cache p class (take stays whole)
    → BackRow roots line p class slot cache after
put_row roots line p class stays slot cache after list whole items more there is same same' keeps spills only became =
    let all : items ≡ slot ∷ cache p class = same ∙ is ∙ ap (λ z. slot ∷ z) there in
    let gone : drop stays more ≡ spilled class (slot ∷ cache p class) =
    ap (drop stays) (same' ∙ sym same) ∙ spills ∙ ap (spilled class) all in
    let left : take stays whole ≡ kept class (slot ∷ cache p class) = ap (take stays) (sym same) ∙ keeps ∙ ap (kept class) all in (
      subst (λ z. OnlyActs roots line p (gives z)) gone only,
      same_as after (with_list cache p class (kept class (slot ∷ cache p class))) (became ∙ ap (λ z. with_list cache p class z) left),
    )

pub class_row : (roots : Journals) (line p class : ℕ) (seen : Seen) (cache after : Cache) (list xs rest left : List Numbered)
    → list ≡ cache p class → FilledFirst roots line p class list xs → FrontIs seen xs rest → left ≡ rest
    → after ≡ with_list cache p class left → ClassRow roots line p class seen cache after
class_row roots line p class seen cache after list xs rest left there filled front same became = (
  xs,
  rest,
  subst (λ z. FilledFirst roots line p class z xs) there filled,
  front,
  same_as after (with_list cache p class rest) (became ∙ ap (λ z. with_list cache p class z) same),
)

pub class_none : (roots : Journals) (line p class : ℕ) (seen : Seen) (cache : Cache) (list : List Numbered) → list ≡ cache p class →
    ((xs : List Numbered) → FilledFirst roots line p class list xs → ⊥)
    → (next : Cache) → ClassRow roots line p class seen cache next → ⊥
class_none roots line p class seen cache list there none next (xs, rest, filled, front, becomes) =
    none xs (subst (λ z. FilledFirst roots line p class z xs) (sym there) filled)

pub class_other : (roots : Journals) (line p class : ℕ) (seen : Seen) (cache : Cache) (list xs : List Numbered) → list ≡ cache p class
    → FilledFirst roots line p class list xs → ((rest : List Numbered) → FrontIs seen xs rest → ⊥)
    → (next : Cache) → ClassRow roots line p class seen cache next → ⊥
class_other roots line p class seen cache list xs there filled other next (ys, rest, filled', front, becomes) =
    let same : ys ≡ xs =
    filled_one roots line p class list ys xs (subst (λ z. FilledFirst roots line p class z ys) (sym there) filled') filled in
    other rest (sym same ∙ front)

-- what is found by a look for the list from which a slot is taken
pub filled_is : (IsAsked : List Numbered → Type 0) (xs : List Numbered) (b : Bool) → TellsFilled IsAsked xs b → b ≡ true → IsAsked xs
filled_is IsAsked xs b told fits = subst (TellsFilled IsAsked xs) fits told

pub filled_not : (IsAsked : List Numbered → Type 0) (xs : List Numbered) (b : Bool) → TellsFilled IsAsked xs b → b ≡ false →
    (ys : List Numbered) → IsAsked ys → ⊥
filled_not IsAsked xs b told misfits = subst (TellsFilled IsAsked xs) misfits told

-- what a test of the slots says of the list that has them
pub front_told : (seen : Seen) (slots xs : List Numbered) (b : Bool) → slots ≡ xs → IsTrue b ↔ FrontIs seen slots (drop 1 slots) →
    IsTrue b ↔ FrontIs seen xs (drop 1 xs)
front_told seen slots xs b same told = subst (λ (ys : List Numbered). IsTrue b ↔ FrontIs seen ys (drop 1 ys)) same told

pub front_drop : (seen : Seen) (xs rest : List Numbered) → FrontIs seen xs rest → FrontIs seen xs (drop 1 xs)
front_drop seen xs rest front =
    let head : Numbered = record { slot = seen.slot; number = number_of seen.found.0 } in
    subst (λ (ys : List Numbered). xs ≡ head ∷ ys) (sym (ap (drop 1) front)) front

-- ---- a thread's row among all threads

pub play_next : (partitions : ℕ) (roots : Journals) (x : Played) (threads : List VersionLists) (d lists : VersionLists) (b : Bool) →
    x.thread < length threads
    → TellsRow (CacheRow partitions roots x x.answer (cache_in (get_or threads x.thread d))) (cache_in lists) b
    → TellsNext partitions roots x (caches_in threads) (caches_in (set threads x.thread lists)) b
play_next partitions roots x threads d lists b below h = by_test b
    (subst (λ (z : VersionLists). TellsRow (CacheRow partitions roots x x.answer (cache_in z)) (cache_in lists) b)
    (get_or_default threads x.thread d no_lists below) h)
  where
    by_test : (b : Bool) → TellsRow (CacheRow partitions roots x x.answer (caches_in threads x.thread)) (cache_in lists) b
        → TellsNext partitions roots x (caches_in threads) (caches_in (set threads x.thread lists)) b
    by_test true row = record {
      fits = λ e. (cache_in lists, row, caches_set threads x.thread lists below);
      misfits = λ e. absurd (false≢true (sym e));
    }
    by_test false none = record { fits = λ e. absurd (false≢true e); misfits = λ e. none }
