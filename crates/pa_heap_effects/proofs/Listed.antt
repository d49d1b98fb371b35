-- What a thread's lists have is out of its roots, each slot once; and so is the slot that a step returns.
use Rattle.std.proofs.Common.{◌≡◌, ℕ, zero, suc, ◌+◌, ◌<◌, ◌≤◌, List, [], ◌∷◌, max, refl, sym, ◌∙◌, ap, subst, arith, inl, inr}
use Rattle.std.specs.Prelude.{Contains, All}
use Rattle.std.proofs.lemmas.Bool.{cases_lt, cases_eq}
use Rattle.std.proofs.lemmas.List.{append-nil}
use Rattle.std.proofs.lemmas.List.Elements.{All-cons, Contains-append_cases}
use Rattle.pa_slot.specs.declared.title.Title.{Title}
use Rattle.pa_slot.specs.declared.word.SlotName.{SlotName}
use Rattle.pa_slot.specs.declared.word.Step.{Step}
use Rattle.pa_slot.specs.declared.word.Step.TheVariants.{Issue, Copy, Reset, Free, Write}
use Rattle.pa_slot.specs.Count.{held_of, refs_of}
use Rattle.pa_slot.specs.Run.{IsReturning}
use Rattle.pa_trace.specs.declared.script.Line.{Line}
use Rattle.pa_record.specs.declared.numbered.Numbered.{Numbered}
use Rattle.pa_record.specs.declared.pool.PoolEntry.{PoolEntry}
use Rattle.pa_record.specs.declared.root.RootAct.TheVariants.{Map}
use Rattle.pa_record.specs.Spans.{name_of}
use Rattle.pa_record.specs.Root.{names, IsOut}
use Rattle.pa_record.specs.Sound.{IsMadeBy}
use Rattle.pa_record.specs.Laws.{times, IsNameOut}
use Rattle.pa_lists.proofs.Members.{not_in_none}
use Rattle.pa_lists.proofs.Joined.{map_cases}
use Rattle.pa_record.proofs.Titles.{made_born}
use Rattle.pa_record.proofs.Lawful.{journal_leaves}
use Rattle.pa_record.proofs.Leaving.{name_cases}
use Rattle.pa_rules.specs.declared.played.Played.{Played}
use Rattle.pa_rules.specs.Roots.{Journals, AreRoots, IsPoolOf}
use Rattle.pa_rules.specs.Caches.{Caches, no_caches, IsOfClass}
use Rattle.pa_rules.specs.Report.{HasWord, last_word}
use Rattle.pa_rules.specs.Flow.{listed_times, cached_times, busy}
use Rattle.pa_rules.proofs.Numbering.{rising_differ}
use Rattle.pa_rules.proofs.Counted.{stands, stands_append}
use Rattle.pa_rules.proofs.Running.{busy_some}
use Rattle.pa_rules.proofs.Known.{all_known}
use Rattle.pa_rules.proofs.Owned.{title_of}
use Rattle.pa_rules.proofs.Flowing.{class_leaves, class_real}
use Rattle.pa_rules.proofs.FourPlaces.{HasLeft, IsOnce, slot_once, times_member}
use Rattle.pa_rules.proofs.Totals.{some_cached}
use Rattle.pa_legal.proofs.Titling.{one_kind}
use Rattle.pa_heap_effects.specs.Deeds.{root_at}
use Rattle.pa_heap_effects.specs.Pooled.{IsSoFar}
use Rattle.pa_heap_effects.specs.Ops.{AreOut, all_of, ListsAreOut}
use Rattle.pa_heap_effects.proofs.Filing.{placed_are_roots}
use Rattle.pa_heap_effects.proofs.Lists.{once_differ}
use Rattle.pa_lists.proofs.Elements.{all_from_members}

-- ---- numbers of threads

-- a number that is above the threads of these records
pub threads_of : List Played → ℕ
threads_of [] = 0
threads_of (x ∷ xs) = max (x.thread + 1) (threads_of xs)

threads_below : (xs : List Played) (n : ℕ) → threads_of xs ≤ n → All (λ (x : Played). x.thread < n) xs
unfolding threads_of
threads_below [] n low = λ k d below. absurd (omega arith)
threads_below (x ∷ xs) n low = All-cons (λ (y : Played). y.thread < n) x xs (omega arith) (threads_below xs n (omega arith))

-- ---- lists of one thread

listed_is : (s : SlotName) (lists : ℕ → List Numbered) (class n : ℕ) → stands s (all_of lists class n) ≡ listed_times s lists class n
unfolding listed_times
listed_is s lists class zero = refl
listed_is s lists class (suc n) =
    let a = stands_append s (lists class) (all_of lists (class + 1) n) in
    let ih = listed_is s lists (class + 1) n in
    omega arith

listed_from : (lists : ℕ → List Numbered) (class n : ℕ) (m : Numbered) → Contains (all_of lists class n) m → (c : ℕ) × (class ≤ c) ×
    (c < class + n) × Contains (lists c) m
listed_from lists class zero m among = absurd (not_in_none m among)
listed_from lists class (suc n) m among = elim (Contains-append_cases (lists class) (all_of lists (class + 1) n) m among) [
  | inl here ↦ (class, omega arith, omega arith, here)
  | inr rest ↦ let (c, low, high, there) = listed_from lists (class + 1) n m rest in (c, omega arith, omega arith, there)
]

pub listed_least : (s : SlotName) (lists : ℕ → List Numbered) (c class n : ℕ) → class ≤ c → c < class + n →
    stands s (lists c) ≤ listed_times s lists class n
unfolding listed_times
listed_least s lists c class zero low high = absurd (omega arith)
listed_least s lists c class (suc n) low high = elim (cases_eq class c) [
  | inl e ↦ let same : stands s (lists class) ≡ stands s (lists c) = ap (λ z. stands s (lists z)) e in omega arith
  | inr other ↦ let ih = listed_least s lists c (class + 1) n (omega arith) (omega arith) in omega arith
]

pub cached_least : (s : SlotName) (all : Caches) (p threads t : ℕ) → t < threads →
    listed_times s (all t p) 0 170 ≤ cached_times s all p threads
cached_least s all p zero t below = absurd (omega arith)
cached_least s all p (suc u) t below = elim (cases_eq u t) [
  | inl e ↦ let same : listed_times s (all u p) 0 170 ≡ listed_times s (all t p) 0 170 = ap (λ z. listed_times s (all z p) 0 170) e in
      omega arith
  | inr other ↦ let ih = cached_least s all p u t (omega arith) in omega arith
]

-- ---- a slot of the run so far

module _ (supers partitions n : ℕ) (ls : List Line) (ps : List Played) (pools : List PoolEntry) (roots : Journals) (all : Caches)
    (h : IsSoFar supers partitions n ls ps pools roots all) where
  are_roots : AreRoots partitions ps pools roots
  are_roots = (placed_are_roots supers partitions n h.rules ls ps pools roots all h.lines h.placed h.pooled).0

  are_pool : IsPoolOf supers ps pools roots
  are_pool = (placed_are_roots supers partitions n h.rules ls ps pools roots all h.lines h.placed h.pooled).1

  -- a slot that left a root is in the lists or is in use, once, or it is in the root
  pub stands_once : (p t : ℕ) (s : SlotName) (w : ℕ) → p < partitions → HasLeft roots p s → HasWord ps s w →
      IsOnce (root_at pools roots p) s (cached_times s all p (max (t + 1) (threads_of ps)) + busy w)
  stands_once p t s w below left word =
      let r = are_roots in
      slot_once supers partitions (max (t + 1) (threads_of ps)) p ps pools roots ps (roots p) all s w
      (record {
        are_roots = are_roots;
        are_pool = are_pool;
        lines = rising_differ ps h.placed.rising;
        threads_below = threads_below ps (max (t + 1) (threads_of ps)) (omega arith);
        steps = h.slots;
        below = below;
        parts = record {
          rest = [];
          parts = sym (append-nil (roots p));
          each = λ e member. let (x, of, makes) = h.placed.lines p e member in (x, of.0, sym of.1);
          none = λ e x member. absurd (not_in_none e member);
        };
        caches = h.placed.caches;
      })
      left word

  inside : (p : ℕ) (s : SlotName) → HasLeft roots p s → p < partitions
  inside p s (e, among, leaves) = elim (cases_lt p partitions) [
    | inl below ↦ below
    | inr past ↦ absurd (not_in_none e (subst (λ z. Contains z e) (h.placed.none_past p past) among))
  ]

  -- what is out under the name of a slot of a class is a slot of a span
  pub class_out : (p class : ℕ) (s : SlotName) → IsOfClass roots s p class → IsNameOut (root_at pools roots p) s →
      IsOut (root_at pools roots p) s
  class_out p class s of out = elim (name_cases (root_at pools roots p) s out) [
    | inl slot ↦ slot
    | inr (u, member, same) ↦
        let (e, among, leaves) = class_leaves roots s p class of in
        let (t, made, is, len) = title_of pools (roots p) e s (h.placed.journals p) among leaves in
        absurd (not_both u member same t is made)
  ]
    where
      not_both : (u : Title) → Contains (root_at pools roots p).maps u → s ≡ name_of u → (t : Title) → name_of t ≡ s →
          IsMadeBy pools (roots p) t → ⊥
      not_both u member same t is (inl made) =
          let left = journal_leaves pools (roots p) (h.placed.journals p) in
          let (at, there, born) = made_born (root_at pools roots p) t left.sound made in
          left.sound.mixed u at member there (sym (ap (λ (z : SlotName). z.born) (is ∙ same)) ∙ born)
      not_both u member same t is (inr (f, asked, len, slot, among, act, title)) =
          let named : slot ≡ s = sym (ap name_of title) ∙ is in
          (one_kind supers partitions ps pools roots s are_roots are_pool).either p p class of
          (f, asked, len, among, act ∙ ap (λ z. Map asked z len) named)

  word_of_slot : (s : SlotName) → (w : ℕ) × HasWord ps s w
  word_of_slot s = let (vs, run, one) = h.slots s in (last_word 0 vs, (vs, run, refl))

  known_class : (t p class : ℕ) (m : Numbered) → Contains (all t p class) m → IsOfClass roots m.slot p class
  known_class t p class m among =
      all_known partitions roots ps no_caches all (λ u q c k none. absurd (not_in_none k none)) h.placed.caches t p class m among

  -- a slot of a list is out, and is in no other
  listed_out : (t p class : ℕ) (m : Numbered) → Contains (all t p class) m → IsOut (root_at pools roots p) m.slot ×
      (listed_times m.slot (all t p) 0 170 ≤ 1)
  listed_out t p class m among =
      let of = known_class t p class m among in
      let left = class_leaves roots m.slot p class of in
      let (w, word) = word_of_slot m.slot in
      let real = class_real pools roots m.slot p class (h.placed.journals p) of in
      let some = some_cached all p (max (t + 1) (threads_of ps)) t class m (omega arith) real among in
      let least = cached_least m.slot all p (max (t + 1) (threads_of ps)) t (omega arith) in
      elim (stands_once p t m.slot w (inside p m.slot left) left word) [
        | inl (out, one) ↦ (class_out p class m.slot of out, omega arith)
        | inr (away, none) ↦ absurd (omega arith)
      ]

  lists_out : (p t : ℕ) → AreOut (root_at pools roots p) (all_of (all t p) 0 170)
  lists_out p t = (
    members_out (IsOut (root_at pools roots p)) (λ m among.
        let (c, low, high, there) = listed_from (all t p) 0 170 m among in
        (listed_out t p c m there).0),
    once_differ (names (all_of (all t p) 0 170)) once,
  )
    where
      members_out : (P : SlotName → Type 0) → ((m : Numbered) → Contains (all_of (all t p) 0 170) m → P m.slot) →
          All P (names (all_of (all t p) 0 170))
      members_out P each = all_from_members P (names (all_of (all t p) 0 170)) (λ s among.
          let (m, member, is) = map_cases (λ (z : Numbered). z.slot) (all_of (all t p) 0 170) s among in
          subst P is (each m member))

      once : (s : SlotName) → times s (names (all_of (all t p) 0 170)) ≤ 1
      once s = elim (cases_eq (times s (names (all_of (all t p) 0 170))) 0) [
        | inl none ↦ omega arith
        | inr some ↦
            let among = times_member s (names (all_of (all t p) 0 170)) (omega arith) in
            let (m, member, is) = map_cases (λ (z : Numbered). z.slot) (all_of (all t p) 0 170) s among in
            let (c, low, high, there) = listed_from (all t p) 0 170 m member in
            let few = (listed_out t p c m there).1 in
            let same : listed_times m.slot (all t p) 0 170 ≡ listed_times s (all t p) 0 170 = ap (λ z. listed_times z (all t p) 0 170) is in
            let a = listed_is s (all t p) 0 170 in
            omega arith
      ]

  -- the slot that a step returns is out, and in no list
  pub returned_out : (p t class : ℕ) (s : SlotName) (step : Step) (w : ℕ) → IsOfClass roots s p class → HasWord ps s w →
      IsReturning step w →
      IsOut (root_at pools roots p) s × (stands s (all t p class) ≡ 0)
  returned_out p t class s step w of word returning =
      let left = class_leaves roots s p class of in
      let real = class_real pools roots s p class (h.placed.journals p) of in
      let used = busy_some w (in_use step w returning) in
      let least = cached_least s all p (max (t + 1) (threads_of ps)) t (omega arith) in
      let here = listed_least s (all t p) class 0 170 (omega arith) (omega arith) in
      elim (stands_once p t s w (inside p s left) left word) [
        | inl (out, one) ↦ (class_out p class s of out, omega arith)
        | inr (away, none) ↦ absurd (omega arith)
      ]
    where
      in_use : (step : Step) (w : ℕ) → IsReturning step w → 0 < held_of w + refs_of w
      in_use Issue w none = absurd none
      in_use Copy w none = absurd none
      in_use Reset w is = let refs = is.1 in omega arith
      in_use Free w is = let held = is.0 in omega arith
      in_use Write w none = absurd none

pub lists_are_out : ListsAreOut
lists_are_out supers partitions n p t ls ps pools roots all h = lists_out supers partitions n ls ps pools roots all h p t
