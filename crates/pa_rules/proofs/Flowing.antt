-- Record by record a slot goes from the root to a thread's list and on to an owner, and back.
use Rattle.std.proofs.Common.{◌≡◌, ℕ, zero, suc, ◌+◌, ◌<◌, true, false, ◌&&◌, cond, Bool, List, [], ◌∷◌, Option, Some, None, refl, sym, ◌∙◌, ap, subst, arith, inl, inr}
use Rattle.std.specs.Prelude.{Contains, All, ◌==◌, count_by}
use Rattle.std.proofs.lemmas.Bool.{cases_Bool, cases_eq, eq-eqb, ne_eqb, false_from_ne_true}
use Rattle.std.proofs.lemmas.List.Elements.{All-head, All-tail}
use Rattle.std.proofs.lemmas.List.Sums.{sum_by-cons}
use Rattle.pa_slot.specs.declared.word.SlotName.{SlotName}
use Rattle.pa_slot.specs.declared.word.Step.{Step}
use Rattle.pa_slot.specs.declared.word.Step.TheVariants.{Issue, Copy, Reset, Free, Write}
use Rattle.pa_slot.specs.Count.{number_of, held_of, refs_of}
use Rattle.pa_slot.specs.Run.{Mark, IsReturning, same_slot}
use Rattle.pa_slot.proofs.Runs.{same_slot_eq}
use Rattle.pa_trace.specs.declared.script.Op.{Op}
use Rattle.pa_trace.specs.declared.script.Op.TheVariants as ops
use Rattle.pa_rules.proofs.Versions.{real_in}
use Rattle.pa_record.specs.declared.entry.Seen.{Seen}
use Rattle.pa_record.specs.declared.entry.Answer.{Answer}
use Rattle.pa_record.specs.declared.entry.Answer.TheVariants as answers
use Rattle.pa_record.specs.declared.numbered.Numbered.{Numbered}
use Rattle.pa_record.specs.declared.pool.PoolEntry.{PoolEntry}
use Rattle.pa_record.specs.declared.root.RootEntry.{RootEntry}
use Rattle.pa_record.specs.declared.root.RootAct.{RootAct}
use Rattle.pa_record.specs.declared.root.RootAct.TheVariants.{Fill, Map, Full}
use Rattle.pa_record.specs.Root.{Root, names, new_root, root_next, RootActFits, RootReplays, IsJournal}
use Rattle.pa_record.specs.Laws.{leaves_by, times}
use Rattle.pa_lists.proofs.Members.{not_in_none, first_in, in_cases}
use Rattle.pa_rules.specs.declared.played.Played.{Played}
use Rattle.pa_rules.specs.Played.{mark_of, mark_of_answer, mark_at, look_at, marks_of, step_of}
use Rattle.pa_rules.specs.Roots.{Journals}
use Rattle.pa_rules.specs.Caches.{Cache, Caches, with_list, with_cache, SameLists, acts_of, OnlyActs, NoActs, IsOfClass, IsDirect, MadeRow, FullRow, ReturnRow, DoneRow, PurgedRow, CacheRow, CachesTo, no_caches, gives, kept, spilled, unmap_at}
use Rattle.pa_rules.specs.Flow.{returns_at, is_issue, is_issue_of, is_return_of, issues_of, returns_of, listed_times, cached_times, left_in, back_in, left_on, back_on, IsOnlyOf, CachesKeep}
use Rattle.pa_rules.specs.Once.{once}
use Rattle.pa_rules.proofs.Known.{IsKnown, FirstKeeps, first_keeps, entry_of_act, known_with, row_known}
use Rattle.pa_rules.proofs.Counted.{stands, times_cons, stands_kept, back_gives, left_gives, back_purge, left_purge, listed_agree, listed_none, list_of_another, listed_changed, cached_changed}

-- 1 if there is a mark that passes
abbrev marked : (Mark → Bool) → Option Mark → ℕ
marked test None = 0
marked test (Some m) = cond (test m) 1 0

mark_counted : (test : Mark → Bool) (o : Option Mark) (x : Played) (xs : List Played) → mark_of x ≡ o →
    count_by test (marks_of (x ∷ xs)) ≡ marked test o + count_by test (marks_of xs)
mark_counted test None x xs e = rw e (omega arith)
mark_counted test (Some m) x xs e = rw e (sum_by-cons (λ y. cond (test y) 1 0) m (marks_of xs))

-- what a row does with a slot of partition p: with these entries and this mark it stands as often in the lists, was issued
-- or came back as it left or was returned
abbrev Flows : SlotName → ℕ → List RootAct → Option Mark → Cache → Cache → Type 0
Flows s p acts mark cache after =
    listed_times s (after p) 0 170 + marked (is_issue_of s) mark + back_in s acts ≡ listed_times s (cache p) 0 170 + left_in s acts + marked
    (is_return_of s) mark

-- a row without entries, steps that issue or return, and changes
quiet : (s : SlotName) (p : ℕ) (acts : List RootAct) (mark : Option Mark) (cache after : Cache) → SameLists after cache →
    left_in s acts + marked (is_return_of s) mark ≡ back_in s acts + marked (is_issue_of s) mark → Flows s p acts mark cache after
quiet s p acts mark cache after becomes even = let same = listed_agree s (after p) (cache p) 0 170 (λ c low. becomes p c) in omega arith

none_left : (s : SlotName) (acts : List RootAct) → acts ≡ [] → (left_in s acts ≡ 0) × (back_in s acts ≡ 0)
none_left s acts e = (ap (left_in s) e, ap (back_in s) e)

-- a slot of another partition isn't s
pub not_once : (s t : SlotName) → (s ≡ t → ⊥) → once s t ≡ 0
not_once s t ne = let e = false_from_ne_true _ (λ hit. ne (same_slot_eq s t hit)) in rw e refl

not_of : (roots : Journals) (s t : SlotName) (p q : ℕ) → IsOnlyOf roots p s → (q ≡ p → ⊥) →
    ((e : RootEntry) × Contains (roots q) e × Contains (leaves_by e.act) t) → once s t ≡ 0
not_of roots s t p q own ne (e, among, leaves) =
    not_once s t (λ same. ne (own q e among (subst (λ z. Contains (leaves_by e.act) z) (sym same) leaves)))

-- a fill or a map of an entry of the journal
pub class_leaves : (roots : Journals) (t : SlotName) (q class : ℕ) → IsOfClass roots t q class → (e : RootEntry) × Contains (roots q) e ×
    Contains (leaves_by e.act) t
class_leaves roots t q class (e, asked, slots, among, act, member) = (e, among, subst (λ a. Contains (leaves_by a) t) (sym act) member)

pub map_leaves : (roots : Journals) (t : SlotName) (q : ℕ) → IsDirect roots t q → (e : RootEntry) × Contains (roots q) e ×
    Contains (leaves_by e.act) t
map_leaves roots t q (e, asked, len, among, act) = (e, among, subst (λ a. Contains (leaves_by a) t) (sym act) (first_in t []))

-- the marks of an issue, and of a step that is none
issue_marked : (s : SlotName) (line : ℕ) (seen : Seen) → marked (is_issue_of s) (Some (mark_at line seen (Some Issue))) ≡ once s seen.slot
issue_marked s line seen = elim (cases_Bool (same_slot s seen.slot)) [ inl hit ↦ rw hit refl | inr miss ↦ rw miss refl ]

off : (a b : Bool) → b ≡ false → cond {A = ℕ} (a && b) 1 0 ≡ 0
off true b e = rw e refl
off false b e = refl

on : (a b : Bool) → b ≡ true → cond {A = ℕ} (a && b) 1 0 ≡ cond {A = ℕ} a 1 0
on true b e = rw e refl
on false b e = refl

made_keeps : (s : SlotName) (p : ℕ) (roots : Journals) (x : Played) (seen : Seen) (cache after : Cache) → IsOnlyOf roots p s →
    IsKnown roots cache → MadeRow roots x seen cache after →
    Flows s p (acts_of roots x.line p) (Some (mark_at x.line seen (Some Issue))) cache after
made_keeps s p roots x seen cache after own known (inl (q, class, xs, rest, asks, filled, front, becomes)) =
    let f = first_keeps s roots x.line q class (cache q class) xs (λ n. known q class n) filled in
    let head : Numbered = record { slot = seen.slot; number = number_of seen.found.0 } in
    let e : stands s xs ≡ stands s (head ∷ rest) = ap (stands s) front in
    let g = times_cons s seen.slot (names rest) in
    let i = issue_marked s x.line seen in
    let o = off (same_slot s seen.slot) false refl in
    let at : (n : Numbered) → Contains (head ∷ rest) n →
    IsOfClass roots n.slot q class = λ n member. f.known n (subst (λ zs. Contains zs n) (sym front) member) in
    elim (cases_eq q p) [
      | inl same ↦
          let turned : FirstKeeps s roots x.line p class (cache p class) xs =
          subst (λ z. FirstKeeps s roots x.line z class (cache z class) xs) same f in
          let left = turned.flow in
          let back = turned.back in
          let change = listed_changed s cache after p class rest (real_in x.rules.version class (asks.3.from, asks.3.real))
          (λ c. becomes p c ∙ ap (λ z. with_list cache z class rest p c) same) in
          omega arith
      | inr other ↦
          let none = none_left s (acts_of roots x.line p) (f.others p (λ e. other (sym e))) in
          let (left, back) = none in
          let away = not_of roots s seen.slot p q own other (class_leaves roots seen.slot q class (at head (first_in head rest))) in
          let same = listed_agree s (after p) (cache p) 0 170
          (λ c low. becomes p c ∙ list_of_another cache q class rest p c (λ e. other (sym e))) in
          omega arith
    ]
made_keeps s p roots x seen cache after own known (inr (q, size, asked, len, asks, only, becomes)) =
    let i = issue_marked s x.line seen in
    let o = off (same_slot s seen.slot) false refl in
    let act : RootAct = Map asked seen.slot len in
    let one = times_cons s seen.slot [] in
    quiet s p (acts_of roots x.line p) (Some (mark_at x.line seen (Some Issue))) cache after becomes
    (elim (cases_eq q p) [
      | inl same ↦
          let here : acts_of roots x.line p ≡ act ∷ [] = subst (λ z. acts_of roots x.line z ≡ act ∷ []) same only.0 in
          let left : left_in s (acts_of roots x.line p) ≡ times s (seen.slot ∷ []) + 0 = ap (left_in s) here in
          let back : back_in s (acts_of roots x.line p) ≡ 0 = ap (back_in s) here in
          omega arith
      | inr other ↦
          let (left, back) = none_left s (acts_of roots x.line p) (only.1 p (λ e. other (sym e))) in
          let (e, among, is) = entry_of_act roots x.line q act only.0 in
          let away = not_of roots s seen.slot p q own other (
            e,
            among,
            subst (λ a. Contains (leaves_by a) seen.slot) (sym is) (first_in seen.slot []),
          ) in
          omega arith
    ])

-- a fill of a journal is of a real class
fill_real : (pools : List PoolEntry) (es : List RootEntry) (r : Root) (e : RootEntry) (class : ℕ) (asked : Option ℕ)
    (slots : List Numbered) → RootReplays pools es r →
    Contains es e → e.act ≡ Fill class asked slots → class < 170
fill_real pools [] r e class asked slots fits among act = absurd (not_in_none e among)
fill_real pools (f ∷ es) r e class asked slots fits among act = elim (in_cases f e es among) [
  | inl same ↦
      let here : RootActFits pools (Fill class asked slots) r =
      subst (λ a. RootActFits pools a r) (ap (λ (z : RootEntry). z.act) same ∙ act) fits.0 in
      here.0
  | inr rest ↦ fill_real pools es (root_next pools f.act r) e class asked slots fits.1 rest act
]

pub class_real : (pools : List PoolEntry) (roots : Journals) (t : SlotName) (q class : ℕ) → IsJournal pools (roots q) →
    IsOfClass roots t q class → class < 170
class_real pools roots t q class j (e, asked, slots, among, act, member) =
    fill_real pools (roots q) new_root e class asked slots j.replays among act

-- a slot that a step returned, if its mark is one return and no issue
return_keeps : (s : SlotName) (p : ℕ) (pools : List PoolEntry) (roots : Journals) (x : Played) (slot : Numbered) (mark : Option Mark)
    (cache after : Cache) → ((q : ℕ) → IsJournal pools (roots q)) → IsOnlyOf roots p s → marked (is_issue_of s) mark ≡ 0
    → marked (is_return_of s) mark ≡ once s slot.slot → ReturnRow roots x slot cache after
    → Flows s p (acts_of roots x.line p) mark cache after
return_keeps s p pools roots x slot mark cache after journals own i o (inl (q, class, of, only, becomes)) =
    let list = slot ∷ cache q class in
    let one = times_cons s slot.slot (names (cache q class)) in
    let parts = stands_kept s class list in
    elim (cases_eq q p) [
      | inl same ↦
          let acts : acts_of roots x.line p ≡ gives (spilled class list) =
          subst (λ z. acts_of roots x.line z ≡ gives (spilled class list)) same only.0 in
          let left : left_in s (acts_of roots x.line p) ≡ 0 = ap (left_in s) acts ∙ left_gives s (spilled class list) in
          let back : back_in s (acts_of roots x.line p) ≡ stands s (spilled class list) = ap (back_in s) acts ∙
          back_gives s (spilled class list) in
          let change = listed_changed s cache after p class (kept class list) (class_real pools roots slot.slot q class (journals q) of)
          (λ c. becomes p c ∙ ap (λ z. with_list cache z class (kept class list) p c) same) in
          let old : stands s (cache q class) ≡ stands s (cache p class) = ap (λ z. stands s (cache z class)) same in
          omega arith
      | inr other ↦
          let (left, back) = none_left s (acts_of roots x.line p) (only.1 p (λ e. other (sym e))) in
          let away = not_of roots s slot.slot p q own other (class_leaves roots slot.slot q class of) in
          let same = listed_agree s (after p) (cache p) 0 170
          (λ c low. becomes p c ∙ list_of_another cache q class (kept class list) p c (λ e. other (sym e))) in
          omega arith
    ]
return_keeps s p pools roots x slot mark cache after journals own i o (inr (q, asked, number, direct, only, becomes)) =
    let act : RootAct = unmap_at asked slot.slot number in
    let one = times_cons s slot.slot [] in
    quiet s p (acts_of roots x.line p) mark cache after becomes
    (elim (cases_eq q p) [
      | inl same ↦
          let here : acts_of roots x.line p ≡ act ∷ [] = subst (λ z. acts_of roots x.line z ≡ act ∷ []) same only.0 in
          let left : left_in s (acts_of roots x.line p) ≡ 0 = ap (left_in s) here in
          let back : back_in s (acts_of roots x.line p) ≡ times s (slot.slot ∷ []) + 0 = ap (back_in s) here in
          omega arith
      | inr other ↦
          let (left, back) = none_left s (acts_of roots x.line p) (only.1 p (λ e. other (sym e))) in
          let away = not_of roots s slot.slot p q own other (map_leaves roots slot.slot q direct) in
          omega arith
    ])

-- the test of a returning step
pub returns_yes : (step : Step) (w : ℕ) → IsReturning step w → returns_at step w ≡ true
returns_yes Issue w h = absurd h
returns_yes Copy w h = absurd h
returns_yes Reset w h = rw (eq-eqb (held_of w) 0 h.0, eq-eqb (refs_of w) 1 h.1) refl
returns_yes Free w h = rw (eq-eqb (held_of w) 1 h.0, eq-eqb (refs_of w) 0 h.1) refl
returns_yes Write w h = absurd h

both_test : (a b c d : ℕ) → ((a ≡ b) × (c ≡ d) → ⊥) → ((a == b) && (c == d)) ≡ false
both_test a b c d not_both = elim (cases_eq a b) [
  | inl e ↦ elim (cases_eq c d) [
    | inl f ↦ absurd (not_both (e, f))
    | inr f ↦ rw (eq-eqb a b e, ne_eqb c d f) refl
  ]
  | inr e ↦ rw (ne_eqb a b e) refl
]

pub returns_no : (step : Step) (w : ℕ) → (IsReturning step w → ⊥) → returns_at step w ≡ false
returns_no Issue w h = refl
returns_no Copy w h = refl
returns_no Reset w h = both_test (held_of w) 0 (refs_of w) 1 h
returns_no Free w h = both_test (held_of w) 1 (refs_of w) 0 h
returns_no Write w h = refl

pub no_issue : (op : Op) → is_issue (step_of op) ≡ false
no_issue (ops.Alloc reg partition size) = refl
no_issue (ops.Copy from to) = refl
no_issue (ops.Reset reg) = refl
no_issue (ops.Free reg) = refl
no_issue (ops.Write reg value) = refl
no_issue (ops.Read reg place) = refl
no_issue (ops.Swap cell reg) = refl
no_issue ops.Purge = refl

done_keeps : (s : SlotName) (p : ℕ) (pools : List PoolEntry) (roots : Journals) (x : Played) (o : Option Step) (seen : Seen)
    (cache after : Cache) → ((q : ℕ) → IsJournal pools (roots q)) → IsOnlyOf roots p s → is_issue o ≡ false
    → DoneRow roots x o seen cache after → Flows s p (acts_of roots x.line p) (Some (mark_at x.line seen o)) cache after
done_keeps s p pools roots x None seen cache after journals own none (acts, becomes) =
    let (left, back) = none_left s (acts_of roots x.line p) (acts p) in
    let i = off (same_slot s seen.slot) false refl in
    quiet s p (acts_of roots x.line p) (Some (mark_at x.line seen None)) cache after becomes (omega arith)
done_keeps s p pools roots x (Some step) seen cache after journals own none (inl (returning, row)) =
    return_keeps s p pools roots x _ (Some (mark_at x.line seen (Some step))) cache after journals own
    (off (same_slot s seen.slot) (is_issue (Some step)) none)
    (on (same_slot s seen.slot) (returns_at step seen.found.0) (returns_yes step seen.found.0 returning)) row
done_keeps s p pools roots x (Some step) seen cache after journals own none (inr (other, acts, becomes)) =
    let (left, back) = none_left s (acts_of roots x.line p) (acts p) in
    let i = off (same_slot s seen.slot) (is_issue (Some step)) none in
    let o = off (same_slot s seen.slot) (returns_at step seen.found.0) (returns_no step seen.found.0 other) in
    quiet s p (acts_of roots x.line p) (Some (mark_at x.line seen (Some step))) cache after becomes (omega arith)

one_full : (s : SlotName) (roots : Journals) (line p q : ℕ) (class : Option ℕ) (asked : ℕ) → OnlyActs roots line q (Full class asked ∷ [])
    → (left_in s (acts_of roots line p) ≡ 0) × (back_in s (acts_of roots line p) ≡ 0)
one_full s roots line p q class asked only = elim (cases_eq p q) [
  | inl same ↦
      let here : acts_of roots line p ≡ Full class asked ∷ [] =
      subst (λ z. acts_of roots line z ≡ Full class asked ∷ []) (sym same) only.0 in
      (ap (left_in s) here, ap (back_in s) here)
  | inr other ↦ none_left s (acts_of roots line p) (only.1 p other)
]

full_keeps : (s : SlotName) (p : ℕ) (roots : Journals) (x : Played) (cache after : Cache) → FullRow roots x cache after →
    Flows s p (acts_of roots x.line p) None cache after
full_keeps s p roots x cache after (inl (q, class, asked, asks, empty, only, becomes)) =
    let (left, back) = one_full s roots x.line p q (Some class) asked only in
    quiet s p (acts_of roots x.line p) None cache after becomes (omega arith)
full_keeps s p roots x cache after (inr (q, size, asked, asks, only, becomes)) =
    let (left, back) = one_full s roots x.line p q None asked only in
    quiet s p (acts_of roots x.line p) None cache after becomes (omega arith)

purged_keeps : (partitions : ℕ) (s : SlotName) (p : ℕ) (roots : Journals) (x : Played) (slots : ℕ) (cache after : Cache) → p < partitions →
    PurgedRow partitions roots x slots cache after →
    Flows s p (acts_of roots x.line p) None cache after
purged_keeps partitions s p roots x slots cache after below (acts, counted, empty) =
    let left : left_in s (acts_of roots x.line p) ≡ 0 = ap (left_in s) (acts p below) ∙ left_purge s (cache p) 0 170 in
    let back : back_in s (acts_of roots x.line p) ≡ listed_times s (cache p) 0 170 = ap (back_in s) (acts p below) ∙
    back_purge s (cache p) 0 170 in
    let none = listed_none s (after p) 0 170 (empty p) in
    omega arith

-- a row without entries, with a look or no mark
look_keeps : (s : SlotName) (p : ℕ) (roots : Journals) (x : Played) (o : Option Seen) (cache after : Cache) → NoActs roots x.line ×
    SameLists after cache →
    Flows s p (acts_of roots x.line p) (look_at x.line o) cache after
look_keeps s p roots x None cache after (acts, becomes) =
    let (left, back) = none_left s (acts_of roots x.line p) (acts p) in
    quiet s p (acts_of roots x.line p) None cache after becomes (omega arith)
look_keeps s p roots x (Some seen) cache after (acts, becomes) =
    let (left, back) = none_left s (acts_of roots x.line p) (acts p) in
    let i = off (same_slot s seen.slot) false refl in
    quiet s p (acts_of roots x.line p) (Some (mark_at x.line seen None)) cache after becomes (omega arith)

row_keeps : (partitions : ℕ) (s : SlotName) (p : ℕ) (pools : List PoolEntry) (roots : Journals) (x : Played) (a : Answer)
    (cache after : Cache) → ((q : ℕ) → IsJournal pools (roots q)) → IsOnlyOf roots p s →
    p < partitions → IsKnown roots cache → CacheRow partitions roots x a cache after →
    Flows s p (acts_of roots x.line p) (mark_of_answer x.line x.op a) cache after
row_keeps partitions s p pools roots x (answers.Made seen usable) cache after journals own below known row =
    made_keeps s p roots x seen cache after own known row
row_keeps partitions s p pools roots x (answers.Done seen) cache after journals own below known row =
    done_keeps s p pools roots x (step_of x.op) seen cache after journals own (no_issue x.op) row
row_keeps partitions s p pools roots x (answers.Value seen value) cache after journals own below known row =
    look_keeps s p roots x (Some seen) cache after row
row_keeps partitions s p pools roots x (answers.Dangling seen value) cache after journals own below known row =
    look_keeps s p roots x (Some seen) cache after row
row_keeps partitions s p pools roots x (answers.SecondFree seen) cache after journals own below known row =
    look_keeps s p roots x seen cache after row
row_keeps partitions s p pools roots x (answers.NotOwner seen) cache after journals own below known row =
    look_keeps s p roots x (Some seen) cache after row
row_keeps partitions s p pools roots x answers.StaleReset cache after journals own below known row =
    look_keeps s p roots x None cache after row
row_keeps partitions s p pools roots x (answers.StaleUse seen) cache after journals own below known row =
    look_keeps s p roots x seen cache after row
row_keeps partitions s p pools roots x answers.Nothing cache after journals own below known row =
    look_keeps s p roots x None cache after row
row_keeps partitions s p pools roots x answers.Filled cache after journals own below known row = look_keeps s p roots x None cache after row
row_keeps partitions s p pools roots x answers.NotRef cache after journals own below known row = look_keeps s p roots x None cache after row
row_keeps partitions s p pools roots x (answers.Shared seen) cache after journals own below known row =
    look_keeps s p roots x (Some seen) cache after row
row_keeps partitions s p pools roots x answers.OutOfRange cache after journals own below known row =
    look_keeps s p roots x None cache after row
row_keeps partitions s p pools roots x answers.TooLarge cache after journals own below known row =
    look_keeps s p roots x None cache after row
row_keeps partitions s p pools roots x (answers.Full entry) cache after journals own below known row =
    full_keeps s p roots x cache after row
row_keeps partitions s p pools roots x (answers.Swapped entry) cache after journals own below known row =
    look_keeps s p roots x None cache after row
row_keeps partitions s p pools roots x (answers.Purged slots) cache after journals own below known row =
    purged_keeps partitions s p roots x slots cache after below row
row_keeps partitions s p pools roots x answers.Uncounted cache after journals own below known row =
    look_keeps s p roots x None cache after row

all_keep : (partitions threads p : ℕ) (pools : List PoolEntry) (roots : Journals) (s : SlotName) (xs : List Played) (all after : Caches) →
    ((q : ℕ) → IsJournal pools (roots q)) → IsOnlyOf roots p s →
    p < partitions → All (λ (x : Played). x.thread < threads) xs → ((t : ℕ) → IsKnown roots (all t)) →
    CachesTo partitions roots all xs after →
    cached_times s after p threads + issues_of s
    (marks_of xs) + back_on s roots p xs ≡ cached_times s all p threads + left_on s roots p xs + returns_of s (marks_of xs)
all_keep partitions threads p pools roots s [] all after journals own below few known e =
    let same : cached_times s after p threads ≡ cached_times s all p threads = ap (λ c. cached_times s c p threads) e in
    omega arith
all_keep partitions threads p pools roots s (x ∷ xs) all after journals own below few known (next, row, rest) =
    let flow = row_keeps partitions s p pools roots x x.answer (all x.thread) next journals own below (known x.thread) row in
    let change = cached_changed s all x.thread p threads next (All-head (λ (y : Played). y.thread < threads) x xs few) in
    let ih = all_keep partitions threads p pools roots s xs (with_cache all x.thread next) after journals own below
    (All-tail (λ (y : Played). y.thread < threads) x xs few)
    (known_with roots all x.thread next known (row_known partitions roots x x.answer (all x.thread) next (known x.thread) row)) rest in
    let i = mark_counted (is_issue_of s) (mark_of x) x xs refl in
    let o = mark_counted (is_return_of s) (mark_of x) x xs refl in
    omega arith

pub no_cached : (s : SlotName) (p threads : ℕ) → cached_times s no_caches p threads ≡ 0
no_cached s p zero = refl
no_cached s p (suc t) =
    let here = listed_none s (no_caches t p) 0 170 (λ c. refl) in
    let ih = no_cached s p t in
    omega arith

pub caches_keep : CachesKeep
caches_keep partitions threads p pools roots s xs after journals own below few to =
    let start = no_cached s p threads in
    let k = all_keep partitions threads p pools roots s xs no_caches after journals own below few
    (λ t q c n among. absurd (not_in_none n among)) to in
    omega arith
