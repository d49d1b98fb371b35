-- The four places of a report's line add up.
use Rattle.std.proofs.Common.{◌≡◌, ℕ, ◌+◌, ◌<◌, ◌≤◌, List, [], ◌∷◌, ◌++◌, length, drop, get_or, refl, sym, ◌∙◌, ap, subst, arith, ◌⊎◌, inl, inr}
use Rattle.std.specs.Prelude.{Contains, AllPairs, All}
use Rattle.std.proofs.lemmas.Bool.{cases_eq}
use Rattle.std.proofs.lemmas.List.Elements.{All-filter, All-head, All-tail, Contains-append_left}
use Rattle.std.proofs.lemmas.List.Kept.{AllPairs-filter}
use Rattle.pa_slot.specs.declared.word.SlotName.{SlotName}
use Rattle.pa_slot.specs.Count.{held_of, refs_of}
use Rattle.pa_slot.specs.Run.{Slots, IsLive, IsQuarantined}
use Rattle.pa_slot.proofs.Arith.{held_small}
use Rattle.pa_slot.proofs.Runs.{same_slot_cases}
use Rattle.pa_buckets.specs.Table.{slot_of}
use Rattle.pa_record.specs.declared.pool.PoolEntry.{PoolEntry}
use Rattle.pa_record.specs.declared.root.RootEntry.{RootEntry}
use Rattle.pa_record.specs.declared.root.RootAct.{RootAct}
use Rattle.pa_record.specs.declared.root.RootAct.TheVariants.{Fill, Map, Full, Give, Unmap, Purge}
use Rattle.pa_record.specs.declared.census.Census.{Census}
use Rattle.pa_record.specs.Root.{Root, new_root, root_replayed, IsJournal}
use Rattle.pa_record.specs.Census.{census}
use Rattle.pa_record.specs.Laws.{leaves_by, times, times_left, IsNameOut, names_out}
use Rattle.pa_lists.proofs.Members.{not_in_none, first_in, later_in, in_cases}
use Rattle.pa_record.proofs.Leaving.{out_is_left}
use Rattle.pa_record.proofs.AddingUp.{root_adds_up}
use Rattle.pa_rules.specs.declared.played.Played.{Played}
use Rattle.pa_rules.specs.Played.{marks_of}
use Rattle.pa_rules.specs.Report.{last_word}
use Rattle.pa_rules.specs.Roots.{Journals, AreRoots, IsPoolOf}
use Rattle.pa_rules.specs.Caches.{Caches, CachesTo, no_caches}
use Rattle.pa_rules.specs.Report.{until, HasSize, HasWord, AreSlots, cached_slots, InPhases, PastPhases, AreUntil}
use Rattle.pa_rules.specs.Flow.{cached_times, busy}
use Rattle.pa_rules.specs.Laws.{PlacesAddUp}
use Rattle.pa_rules.specs.Once.{once}
use Rattle.pa_rules.proofs.Counted.{times_cons}
use Rattle.pa_rules.proofs.Flowing.{caches_keep, class_leaves, not_once}
use Rattle.pa_rules.proofs.Running.{OtherRecord, marks_differ, one_run, issues_return, busy_free, busy_some}
use Rattle.pa_rules.proofs.Known.{all_known}
use Rattle.pa_rules.proofs.Owned.{only_of, journal_front}
use Rattle.pa_rules.proofs.ByLines.{IsFront, is_until, until_front, same_record, left_front, back_front}
use Rattle.pa_rules.proofs.Phases.{runs_until}
use Rattle.pa_rules.proofs.Totals.{total_add, total_same, total_ones, times_in, times_out, total_times, total_cached, some_cached}

-- what the places of slots after some records rest on: the journals and the pool, those records with a line each, the
-- entries on their lines, which come before partition p's journal, and the caches after them
pub record Given (supers partitions threads p : ℕ) (ps : List Played) (pools : List PoolEntry) (roots : Journals) (xs : List Played)
    (front : List RootEntry) (all : Caches) : Type 0 where
  pub are_roots : AreRoots partitions ps pools roots
  pub are_pool : IsPoolOf supers ps pools roots
  pub lines : AllPairs OtherRecord xs
  pub threads_below : All (λ (x : Played). x.thread < threads) xs
  pub steps : Slots (marks_of xs)
  pub below : p < partitions
  pub parts : IsFront xs (roots p) front
  pub caches : CachesTo partitions roots no_caches xs all

-- an entry of the journal by which a slot left
abbrev pub HasLeft : Journals → ℕ → SlotName → Type 0
HasLeft roots p s = (e : RootEntry) × Contains (roots p) e × Contains (leaves_by e.act) s

-- a slot that is out is cached or in use once, and another one never
abbrev pub IsOnce : Root → SlotName → ℕ → Type 0
IsOnce r s n = (IsNameOut r s × (n ≡ 1)) ⊎ ((IsNameOut r s → ⊥) × (n ≡ 0))

front_is : (pools : List PoolEntry) (xs : List Played) (journal front : List RootEntry) → IsJournal pools journal →
    IsFront xs journal front → IsJournal pools front
front_is pools xs journal front h u = journal_front pools front u.rest (subst (λ z. IsJournal pools z) u.parts h)

-- where a slot that left is after some records: its times in the caches and in use
pub slot_once : (supers partitions threads p : ℕ) (ps : List Played) (pools : List PoolEntry) (roots : Journals) (xs : List Played)
    (front : List RootEntry) (all : Caches) (s : SlotName) (w : ℕ) →
    Given supers partitions threads p ps pools roots xs front all → HasLeft roots p s → HasWord xs s w →
    IsOnce (root_replayed pools front new_root) s (cached_times s all p threads + busy w)
slot_once supers partitions threads p ps pools roots xs front all s w g (e, among, leaves) word =
    let own = only_of supers partitions ps pools roots p e s g.are_roots g.are_pool among leaves in
    let flow = caches_keep partitions threads p pools roots s xs all g.are_roots.journals own g.below g.threads_below g.caches in
    let run = issues_return xs s w g.lines g.steps word in
    let left = left_front s xs roots p front g.lines g.parts in
    let back = back_front s xs roots p front g.lines g.parts in
    elim (out_is_left pools front s (front_is pools xs (roots p) front (g.are_roots.journals p) g.parts)) [
      | inl (out, more) ↦ inl (out, omega arith)
      | inr (in', same) ↦ inr (in', omega arith)
    ]

-- a slot that is out left by an entry
pub times_member : (s : SlotName) (ss : List SlotName) → 1 ≤ times s ss → Contains ss s
times_member s [] some = absurd (omega arith)
times_member s (t ∷ ss) some = elim (once_cases s t) [
  | inl e ↦ subst (λ z. Contains (t ∷ ss) z) (sym e) (first_in t ss)
  | inr none ↦ let c = times_cons s t ss in later_in t s ss (times_member s ss (omega arith))
]
  where
    once_cases : (s t : SlotName) → (s ≡ t) ⊎ (once s t ≡ 0)
    once_cases s t = elim (same_slot_cases s t) [ inl e ↦ inl e | inr ne ↦ inr (not_once s t ne) ]

pub left_member : (s : SlotName) (es : List RootEntry) → 1 ≤ times_left s es → (e : RootEntry) × Contains es e ×
    Contains (leaves_by e.act) s
left_member s [] some = absurd (omega arith)
left_member s (e ∷ es) some = elim (cases_eq (times s (leaves_by e.act)) 0) [
  | inl none ↦ let (f, member, leaves) = left_member s es (omega arith) in (f, later_in e f es member, leaves)
  | inr more ↦ (e, first_in e es, times_member s (leaves_by e.act) (omega arith))
]

out_left : (pools : List PoolEntry) (xs : List Played) (p : ℕ) (roots : Journals) (front : List RootEntry) (s : SlotName) →
    IsJournal pools (roots p) → IsFront xs (roots p) front →
    IsNameOut (root_replayed pools front new_root) s → HasLeft roots p s
out_left pools xs p roots front s h u out = elim (out_is_left pools front s (front_is pools xs (roots p) front h u)) [
  | inl (still, more) ↦
      let (e, member, leaves) = left_member s front (omega arith) in
      (e, subst (λ z. Contains z e) (sym u.parts) (Contains-append_left front u.rest e member), leaves)
  | inr (in', same) ↦ absurd (in' out)
]

-- its size
size_by : (roots : Journals) (p : ℕ) (s : SlotName) (e : RootEntry) (act : RootAct) → Contains (roots p) e → e.act ≡ act →
    Contains (leaves_by act) s → (len : ℕ) × HasSize roots p s len
size_by roots p s e (Fill class asked slots) among is leaves = (slot_of class, inl (class, (e, asked, slots, among, is, leaves), refl))
size_by roots p s e (Map asked slot len) among is leaves = elim (in_cases slot s [] leaves) [
  | inl same ↦ (len, inr (e, asked, among, is ∙ ap (λ z. Map asked z len) same))
  | inr none ↦ absurd (not_in_none s none)
]
size_by roots p s e (Full class asked) among is leaves = absurd (not_in_none s leaves)
size_by roots p s e (Give slots) among is leaves = absurd (not_in_none s leaves)
size_by roots p s e (Unmap asked slot) among is leaves = absurd (not_in_none s leaves)
size_by roots p s e Purge among is leaves = absurd (not_in_none s leaves)

sized_left : (roots : Journals) (p : ℕ) (s : SlotName) (len : ℕ) → HasSize roots p s len → HasLeft roots p s
sized_left roots p s len (inl (class, of, is)) = class_leaves roots s p class of
sized_left roots p s len (inr (e, asked, among, is)) = (e, among, subst (λ a. Contains (leaves_by a) s) (sym is) (first_in s []))

pub one_word : (xs : List Played) (s : SlotName) (u w : ℕ) → AllPairs OtherRecord xs → HasWord xs s u → HasWord xs s w → u ≡ w
one_word xs s u w h (vs, run, last) (ws, run', last') = last ∙ one_run (marks_of xs) s 0 0 vs ws (marks_differ xs h) refl run run' ∙
    sym last'

-- a slot that isn't free is live or quarantined
in_use : (roots : Journals) (xs : List Played) (p : ℕ) (lives quarantined : List SlotName) (sizes more : List ℕ) (s : SlotName)
    (len w : ℕ) → AllPairs OtherRecord xs →
    AreSlots IsLive roots xs p lives sizes → AreSlots IsQuarantined roots xs p quarantined more → HasSize roots p s len → HasWord xs s w →
    times s lives + times s quarantined ≡ busy w
in_use roots xs p lives quarantined sizes more s len w h live quarantine size word = elim (cases_eq (held_of w) 0) [
  | inl low ↦
      let a = times_out s lives live.once (λ among.
      let (len', w', size', word', is) = (live.all s).0 among in
      let e : held_of w ≡ held_of w' = ap held_of (one_word xs s w w' h word word') in omega arith) in
      elim (cases_eq (refs_of w) 0) [
        | inl none ↦
            let b = times_out s quarantined quarantine.once (λ among.
            let (len', w', size', word', is) = (quarantine.all s).0 among in
            let low' = is.0 in let some = is.1 in
            let e : refs_of w ≡ refs_of w' = ap refs_of (one_word xs s w w' h word word') in omega arith) in
            let c = busy_free w low none in
            omega arith
        | inr some ↦
            let b = times_in s quarantined quarantine.once ((quarantine.all s).1 (len, w, size, word, (low, omega arith))) in
            let c = busy_some w (omega arith) in
            omega arith
      ]
  | inr high ↦
      let small = held_small w in
      let a = times_in s lives live.once ((live.all s).1 (len, w, size, word, omega arith)) in
      let b = times_out s quarantined quarantine.once (λ among.
      let (len', w', size', word', is) = (quarantine.all s).0 among in
      let low' = is.0 in
      let e : held_of w ≡ held_of w' = ap held_of (one_word xs s w w' h word word') in omega arith) in
      let c = busy_some w (omega arith) in
      omega arith
]

-- the sum over what is out
out_adds : (supers partitions threads p : ℕ) (ps : List Played) (pools : List PoolEntry) (roots : Journals) (xs : List Played)
    (front : List RootEntry) (all : Caches) (lives quarantined : List SlotName) (sizes more : List ℕ) →
    Given supers partitions threads p ps pools roots xs front all → AreSlots IsLive roots xs p lives sizes →
    AreSlots IsQuarantined roots xs p quarantined more →
    length lives + length quarantined + cached_slots all p threads ≡ length (names_out (root_replayed pools front new_root))
out_adds supers partitions threads p ps pools roots xs front all lives quarantined sizes more g live quarantine =
    let r = root_replayed pools front new_root in
    let ss = names_out r in
    let up = root_adds_up pools front (front_is pools xs (roots p) front (g.are_roots.journals p) g.parts) in
    let has_word : (s : SlotName) → (w : ℕ) × HasWord xs s w = λ s. let (vs, run, one) = g.steps s in (last_word 0 vs, (vs, run, refl)) in
    -- a slot that left, and is cached or in use, is out
    let is_out : (s : SlotName) (w : ℕ) → HasLeft roots p s → HasWord xs s w → 1 ≤ cached_times s all p threads + busy w → Contains ss s =
    λ s w left word some. elim (slot_once supers partitions threads p ps pools roots xs front all s w g left word) [
      | inl (out, one) ↦ (up.out s).1 out
      | inr (in', none) ↦ absurd (omega arith)
    ] in
    let a = total_cached all p threads ss up.once (λ t c m low real among.
    let known = all_known partitions roots xs no_caches all (λ t q c n among. absurd (not_in_none n among)) g.caches t in
    let (w, word) = has_word m.slot in
    let some = some_cached all p threads t c m low real among in
    is_out m.slot w (class_leaves roots m.slot p c (known p c m among)) word (omega arith)) in
    let b = total_times lives ss up.once (λ s among.
    let (len, w, size, word, is) = (live.all s).0 among in
    let c = busy_some w (omega arith) in
    is_out s w (sized_left roots p s len size) word (omega arith)) in
    let c = total_times quarantined ss up.once (λ s among.
    let (len, w, size, word, is) = (quarantine.all s).0 among in
    let some = is.1 in
    let c = busy_some w (omega arith) in
    is_out s w (sized_left roots p s len size) word (omega arith)) in
    let d = total_add (λ s. times s lives) (λ s. times s quarantined) ss in
    let e = total_add (λ s. cached_times s all p threads) (λ s. times s lives + times s quarantined) ss in
    let f = total_same (λ s. cached_times s all p threads + (times s lives + times s quarantined)) (λ s. 1) ss (λ s among.
    let out = (up.out s).0 among in
    let (w, word) = has_word s in
    let left = out_left pools xs p roots front s (g.are_roots.journals p) g.parts out in
    let (len, size) = size_by roots p s left.0 left.0.act left.1 refl left.2 in
    let use' = in_use roots xs p lives quarantined sizes more s len w g.lines live quarantine size word in
    elim (slot_once supers partitions threads p ps pools roots xs front all s w g left word) [
      | inl (still, one) ↦ omega arith
      | inr (in', none) ↦ absurd (in' out)
    ]) in
    let k = total_ones ss in
    omega arith

-- ---- one list of entries comes before the end of a phase

not_both : (ps : List Played) (phase : ℕ) (e : RootEntry) → AllPairs OtherRecord ps → InPhases ps phase e → PastPhases ps phase e → ⊥
not_both ps phase e h (x, of, low) (y, of', high) =
    let same = same_record ps x y h of.0 of'.0 (of.1 ∙ sym of'.1) in
    let phases : x.phase ≡ y.phase = ap (λ (z : Played). z.phase) same in
    omega arith

one_front : (ps : List Played) (phase : ℕ) (xs ys us vs : List RootEntry) → AllPairs OtherRecord ps → All (InPhases ps phase) xs →
    All (InPhases ps phase) ys → All (PastPhases ps phase) us →
    All (PastPhases ps phase) vs → xs ++ us ≡ ys ++ vs → xs ≡ ys
one_front ps phase [] [] us vs h inx iny pastu pastv e = refl
one_front ps phase [] (y ∷ ys) us vs h inx iny pastu pastv e =
    absurd (not_both ps phase y h (All-head (InPhases ps phase) y ys iny)
    (All-head (PastPhases ps phase) y (ys ++ vs) (subst (λ z. All (PastPhases ps phase) z) e pastu)))
one_front ps phase (x ∷ xs) [] us vs h inx iny pastu pastv e =
    absurd (not_both ps phase x h (All-head (InPhases ps phase) x xs inx)
    (All-head (PastPhases ps phase) x (xs ++ us) (subst (λ z. All (PastPhases ps phase) z) (sym e) pastv)))
one_front ps phase (x ∷ xs) (y ∷ ys) us vs h inx iny pastu pastv e =
    let head : x ≡ y = ap (λ z. get_or z 0 x) e in
    let rest = one_front ps phase xs ys us vs h (All-tail (InPhases ps phase) x xs inx) (All-tail (InPhases ps phase) y ys iny) pastu pastv
    (ap (drop 1) e) in
    ap (λ z. z ∷ xs) head ∙ ap (λ zs. y ∷ zs) rest

pub one_until : (ps : List Played) (phase : ℕ) (journal xs ys : List RootEntry) → AllPairs OtherRecord ps → AreUntil ps phase journal xs →
    AreUntil ps phase journal ys → xs ≡ ys
one_until ps phase journal xs ys h a b =
    one_front ps phase xs ys a.rest b.rest h a.in_phases b.in_phases a.past_phases b.past_phases (sym a.parts ∙ b.parts)

abbrev census_at : List PoolEntry → List RootEntry → Census
census_at pools es = census (root_replayed pools es new_root)

pub places_add_up : PlacesAddUp
places_add_up supers partitions threads ps pools roots l before are_roots are_pool lines few slots phases below line parts =
    let p = l.partition in
    let (lives, sizes, live, l_slots, l_bytes) = line.live in
    let (quarantined, more, quarantine, q_slots, q_bytes) = line.quarantined in
    let (all, caches, c_slots, c_bytes) = line.cached in
    let (other, parts', is) = line.root in
    let r = root_replayed pools before new_root in
    let xs = until l.phase ps in
    let front = until_front ps l.phase (roots p) before lines parts in
    let g : Given supers partitions threads p ps pools roots xs before all = record {
      are_roots = are_roots;
      are_pool = are_pool;
      lines = AllPairs-filter OtherRecord (is_until l.phase) ps lines;
      threads_below = All-filter (is_until l.phase) (λ (x : Played). x.thread < threads) ps few;
      steps = runs_until ps l.phase lines slots phases;
      below = below;
      parts = front;
      caches = caches;
    } in
    let a = out_adds supers partitions threads p ps pools roots xs before all lives quarantined sizes more g live quarantine in
    let up = (root_adds_up pools before (front_is pools xs (roots p) before (are_roots.journals p) front)).counted in
    let same = one_until ps l.phase (roots p) other before lines parts' parts in
    let kept : l.root.slots ≡ (census_at pools other).root.slots = ap (λ (c : Census). c.root.slots) is in
    let here : (census_at pools other).root.slots ≡ (census_at pools before).root.slots = ap (λ es. (census_at pools es).root.slots) same in
    omega arith
