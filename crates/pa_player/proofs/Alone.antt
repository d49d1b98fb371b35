-- A slot that is in use is out of its root, and in no list; and so is one of a list, which is there once.
use Rattle.std.proofs.Common.{◌≡◌, ℕ, zero, suc, ◌+◌, ◌<◌, ◌≤◌, inl, inr, List, [], ◌∷◌, map, max, length, Option, Some, None, refl, sym, ap, ◌∙◌, subst, arith, true}
use Rattle.std.specs.Prelude.{Contains, nat_lt}
use Rattle.std.proofs.lemmas.Bool.{cases_eq, lt-ltb}
use Rattle.pa_slot.specs.declared.word.SlotName.{SlotName}
use Rattle.pa_slot.specs.Count.{held_of, refs_of}
use Rattle.pa_slot.proofs.Runs.{same_slot_yes}
use Rattle.pa_trace.specs.declared.script.Line.{Line}
use Rattle.pa_record.specs.declared.numbered.Numbered.{Numbered}
use Rattle.pa_record.specs.Laws.{IsNameOut, leaves_by, times}
use Rattle.pa_record.specs.Root.{names}
use Rattle.pa_lists.proofs.Members.{first_in}
use Rattle.pa_lists.proofs.Joined.{map_in}
use Rattle.pa_rules.specs.Roots.{Journals}
use Rattle.pa_rules.specs.Caches.{Caches}
use Rattle.pa_rules.specs.Flow.{busy, cached_times, listed_times}
use Rattle.pa_rules.specs.Report.{HasWord}
use Rattle.pa_rules.specs.Once.{once}
use Rattle.pa_rules.proofs.Counted.{stands, times_cons}
use Rattle.pa_rules.proofs.Running.{busy_some}
use Rattle.pa_rules.proofs.Flowing.{class_leaves}
use Rattle.pa_rules.proofs.FourPlaces.{HasLeft, IsOnce}
use Rattle.pa_rules.proofs.Totals.{some_cached, some_times}
use Rattle.pa_legal.specs.Numbers.{moves_of, at_end}
use Rattle.pa_legal.proofs.Standing.{out_none}
use Rattle.pa_heap_effects.specs.Deeds.{root_at}
use Rattle.pa_heap_effects.specs.Pooled.{IsSoFar}
use Rattle.pa_heap_effects.proofs.Listed.{threads_of, listed_least, cached_least, stands_once}
use Rattle.pa_slot_effects.proofs.Ending.{ends_right}
use Rattle.pa_player.specs.Player.{Player}
use Rattle.pa_player.specs.declared.table.Slot.{Slot}
use Rattle.pa_player.specs.Tables.{slot_at, named_at}
use Rattle.pa_player.specs.Playing.{shown, journals, root_of, list_at, caches, numbered_at, IsLetOut, IsPlaying, rules_at}
use Rattle.pa_player.proofs.Slots.{slot_here}
use Rattle.pa_lists.proofs.Options.{some_same}
use Rattle.pa_rules.proofs.Versions.{class_yes}
use Rattle.pa_rules.proofs.Versions.{real_in}
use Rattle.pa_rules.specs.Sizes.{HasClass}
use Rattle.pa_rules.specs.Sizes.{is_class}

-- the root of its partition doesn't have it
pub record IsAway (p : Player) (i : ℕ) : Type 0 where
  pub out : IsNameOut (root_of p (slot_at p.table i).partition) (named_at p.table i)
  pub none : at_end (Some 0) (moves_of (journals p (slot_at p.table i).partition) (named_at p.table i)) ≡ None

-- nobody has it
pub record IsFree (p : Player) (i : ℕ) : Type 0 where
  pub held : held_of (slot_at p.table i).word.0 ≡ 0
  pub refs : refs_of (slot_at p.table i).word.0 ≡ 0

-- ---- counts

-- lists of two threads
cached_two : (s : SlotName) (all : Caches) (q threads t u : ℕ) → t < threads → u < threads → (t ≡ u → ⊥)
    → listed_times s (all t q) 0 170 + listed_times s (all u q) 0 170 ≤ cached_times s all q threads
cached_two s all q zero t u below lower apart = absurd (omega arith)
cached_two s all q (suc n) t u below lower apart = elim (cases_eq t n) [
  | inl e ↦
      let other : u ≡ n → ⊥ = λ f. apart (e ∙ sym f) in
      let least = cached_least s all q n u (omega arith) in
      let same : listed_times s (all t q) 0 170 ≡ listed_times s (all n q) 0 170 = ap (λ z. listed_times s (all z q) 0 170) e in
      omega arith
  | inr ne ↦ elim (cases_eq u n) [
    | inl e ↦
        let least = cached_least s all q n t (omega arith) in
        let same : listed_times s (all u q) 0 170 ≡ listed_times s (all n q) 0 170 = ap (λ z. listed_times s (all z q) 0 170) e in
        omega arith
    | inr other ↦ let ih = cached_two s all q n t u (omega arith) (omega arith) apart in omega arith
  ]
]

pub not_busy : (w : ℕ) → busy w ≡ 0 → (held_of w ≡ 0) × (refs_of w ≡ 0)
not_busy w none = elim (cases_eq (held_of w + refs_of w) 0) [
  | inl e ↦ (omega (arith, e), omega (arith, e))
  | inr some ↦ let one = busy_some w (omega arith) in absurd (omega arith)
]

let_out_left : (version : ℕ) (roots : Journals) (x : Slot) (s : SlotName) (class : Option ℕ) → s ≡ named_at (x ∷ []) 0 →
    IsLetOut version roots x class → HasLeft roots x.partition s
let_out_left version roots x s (Some class) is of =
    subst (λ z. HasLeft roots x.partition z) (sym is) (class_leaves roots (named_at (x ∷ []) 0) x.partition class of.1)
let_out_left version roots x s None is (e, asked, among, act) =
    subst (λ z. HasLeft roots x.partition z) (sym is)
    (e, among, subst (λ a. Contains (leaves_by a) (named_at (x ∷ []) 0)) (sym act) (first_in (named_at (x ∷ []) 0) []))

module _ (region partitions threads : ℕ) (ls : List Line) (p : Player) (h : IsPlaying region partitions threads ls p) where
  pub so_far : IsSoFar region partitions (length ls + 2) ls h.ps p.told.pools (journals p) (caches p)
  so_far = record {
    rules = rules_at p;
    lines = h.told.lines;
    slots = (ends_right threads ls h.ps (shown p) h.told).slots;
    placed = h.placed;
    pooled = h.pooled;
  }

  -- its word is that of the records
  pub has_word : (i : ℕ) → i < length p.table → HasWord h.ps (named_at p.table i) (slot_at p.table i).word.0
  has_word i low =
      let here = ap (λ (z : Slot). z.word.0) (slot_here p.table (named_at p.table i) i h.slots.apart (low, refl)) in
      subst (λ w. HasWord h.ps (named_at p.table i) w) here ((ends_right threads ls h.ps (shown p) h.told).words (named_at p.table i))

  -- a slot is in the lists or is in use, once, or it is in the root
  is_once : (i t : ℕ) → i < length p.table → IsOnce (root_at p.told.pools (journals p) (slot_at p.table i).partition) (named_at p.table i)
      (cached_times (named_at p.table i) (caches p) (slot_at p.table i).partition (max (t + 1) (threads_of h.ps)) + busy
      (slot_at p.table i).word.0)
  is_once i t low =
      stands_once region partitions (length ls + 2) ls h.ps p.told.pools (journals p) (caches p) so_far (slot_at p.table i).partition t
      (named_at p.table i) (slot_at p.table i).word.0
      (h.slots.among i low) (let_out_left p.version (journals p) (slot_at p.table i) (named_at p.table i) (slot_at p.table i).class refl
      (h.slots.let_out i low)) (has_word i low)

  away : (i : ℕ) → IsNameOut (root_at p.told.pools (journals p) (slot_at p.table i).partition) (named_at p.table i) → IsAway p i
  away i out =
      let q = (slot_at p.table i).partition in
      record {
        out = subst (λ r. IsNameOut r (named_at p.table i)) (sym (h.roots q)) out;
        none = out_none p.told.pools (journals p q) (named_at p.table i) (h.placed.journals q)
            (h.placed.numbers q (named_at p.table i)) out;
      }

  pub used_away : (i : ℕ) → i < length p.table → 0 < held_of (slot_at p.table i).word.0 + refs_of (slot_at p.table i).word.0 → IsAway p i
  used_away i low used =
      let one = busy_some (slot_at p.table i).word.0 used in
      elim (is_once i 0 low) [
        | inl outside ↦ away i outside.0
        | inr inside_it ↦ let none = inside_it.1 in absurd (omega arith)
      ]

  -- a member of a list, with its number
  listed_cached : (i t q class : ℕ) → q < partitions → HasClass p.version class → Contains (list_at p t q class) i →
      Contains (caches p t q class) (numbered_at p.table i)
  listed_cached i t q class inside real among =
      let a : nat_lt q p.partitions ≡ true = lt-ltb q p.partitions (omega (arith, inside, h.shaped.many)) in
      let b : is_class p.version class ≡ true = class_yes p.version class real in
      rw (a, b) (map_in (numbered_at p.table) (list_at p t q class) i among)

  some_here : (i t q class bound : ℕ) → q < partitions → HasClass p.version class → t < bound → Contains (list_at p t q class) i →
      1 ≤ cached_times (named_at p.table i) (caches p) q bound
  some_here i t q class bound inside real below among = some_cached (caches p) q bound t class (numbered_at p.table i) below
      (real_in p.version class real) (listed_cached i t q class inside real among)

  in_table : (i t q class : ℕ) → t < threads → q < partitions → HasClass p.version class → Contains (list_at p t q class) i
      → (i < length p.table) × ((slot_at p.table i).partition ≡ q) × ((slot_at p.table i).class ≡ Some class)
  in_table i t q class below inside real among = h.shaped.listed t q class i below inside real among

  some_of : (i t q class bound : ℕ) → t < threads → q < partitions → HasClass p.version class → t < bound → Contains (list_at p t q class) i
      → 1 ≤ cached_times (named_at p.table i) (caches p) (slot_at p.table i).partition bound
  some_of i t q class bound below inside real under among =
      subst (λ k. 1 ≤ cached_times (named_at p.table i) (caches p) k bound) (sym (in_table i t q class below inside real among).1)
      (some_here i t q class bound inside real under among)

  pub used_unlisted : (i t q class : ℕ) → i < length p.table → 0 < held_of (slot_at p.table i).word.0 + refs_of (slot_at p.table i).word.0
      → t < threads → q < partitions → HasClass p.version class → Contains (list_at p t q class) i → ⊥
  used_unlisted i t q class low used below inside real among =
      let one = busy_some (slot_at p.table i).word.0 used in
      let some = some_of i t q class (max (t + 1) (threads_of h.ps)) below inside real (omega arith) among in
      elim (is_once i t low) [
        | inl outside ↦ let all = outside.1 in omega arith
        | inr inside_it ↦ let none = inside_it.1 in omega arith
      ]

  pub listed_away : (i t q class : ℕ) → t < threads → q < partitions → HasClass p.version class → Contains (list_at p t q class) i →
      IsAway p i
  listed_away i t q class below inside real among =
      let some = some_of i t q class (max (t + 1) (threads_of h.ps)) below inside real (omega arith) among in
      elim (is_once i t (in_table i t q class below inside real among).0) [
        | inl outside ↦ away i outside.0
        | inr inside_it ↦ let none = inside_it.1 in absurd (omega arith)
      ]

  pub listed_free : (i t q class : ℕ) → t < threads → q < partitions → HasClass p.version class → Contains (list_at p t q class) i →
      IsFree p i
  listed_free i t q class below inside real among =
      let some = some_of i t q class (max (t + 1) (threads_of h.ps)) below inside real (omega arith) among in
      let idle : busy (slot_at p.table i).word.0 ≡ 0 = elim (is_once i t (in_table i t q class below inside real among).0) [
        | inl outside ↦ let all = outside.1 in omega arith
        | inr inside_it ↦ let none = inside_it.1 in omega arith
      ] in
      let free = not_busy (slot_at p.table i).word.0 idle in
      record { held = free.0; refs = free.1 }

  -- how often a list has a slot, and all of a thread's lists of a partition
  stands_here : (i t q class : ℕ) → q < partitions → HasClass p.version class → Contains (list_at p t q class) i →
      1 ≤ stands (named_at p.table i) (caches p t q class)
  stands_here i t q class inside real among =
      some_times (named_at p.table i) (names (caches p t q class))
      (map_in (λ (n : Numbered). n.slot) (caches p t q class) (numbered_at p.table i) (listed_cached i t q class inside real among))

  listed_some : (i t q class : ℕ) → q < partitions → HasClass p.version class → Contains (list_at p t q class) i →
      1 ≤ listed_times (named_at p.table i) (caches p t q) 0 170
  listed_some i t q class inside real among =
      let a = listed_least (named_at p.table i) (caches p t q) class 0 170 (omega arith) (omega (arith, real_in p.version class real)) in
      let b = stands_here i t q class inside real among in
      omega arith

  -- in no other list, and after the front of a list it isn't there again
  pub listed_once : (i t q class u k c : ℕ) → t < threads → q < partitions → HasClass p.version class → u < threads → k < partitions →
      HasClass p.version c
      → Contains (list_at p t q class) i → Contains (list_at p u k c) i → (t ≡ u) × (q ≡ k) × (class ≡ c)
  listed_once i t q class u k c below inside real lower within known there here =
      let a = in_table i t q class below inside real there in
      let b = in_table i u k c lower within known here in
      let same : q ≡ k = sym a.1 ∙ b.1 in
      let thread : t ≡ u = elim (cases_eq t u) [
        | inl e ↦ e
        | inr apart ↦
            let two = cached_two (named_at p.table i) (caches p) q (max (max t u + 1) (threads_of h.ps)) t u (omega arith)
            (omega arith) apart in
            let x = listed_some i t q class inside real there in
            let y = listed_some i u q c inside known (subst (λ z. Contains (list_at p u z c) i) (sym same) here) in
            let one = is_once i (max t u) a.0 in
            let at : IsOnce (root_at p.told.pools (journals p) q) (named_at p.table i)
            (cached_times (named_at p.table i) (caches p) q (max (max t u + 1) (threads_of h.ps)) + busy
            (slot_at p.table i).word.0) =
            subst (λ z. IsOnce (root_at p.told.pools (journals p) z) (named_at p.table i)
            (cached_times (named_at p.table i) (caches p) z (max (max t u + 1) (threads_of h.ps)) + busy (slot_at p.table i).word.0))
            a.1 one in
            elim at [
              | inl outside ↦ let all = outside.1 in absurd (omega arith)
              | inr inside_it ↦ let none = inside_it.1 in absurd (omega arith)
            ]
      ] in
      (thread, same, some_same class c (sym a.2 ∙ b.2))

  twice : (i t q class : ℕ) (rest : List ℕ) → q < partitions → HasClass p.version class → list_at p t q class ≡ i ∷ rest → Contains rest i →
      2 ≤ stands (named_at p.table i) (caches p t q class)
  twice i t q class rest inside real is among =
      let a : nat_lt q p.partitions ≡ true = lt-ltb q p.partitions (omega (arith, inside, h.shaped.many)) in
      let b : is_class p.version class ≡ true = class_yes p.version class real in
      let s = named_at p.table i in
      let here : caches p t q class ≡ numbered_at p.table i ∷ map (numbered_at p.table) rest =
      rw (a, b) (ap (map (numbered_at p.table)) is) in
      let more = times_cons s s (names (map (numbered_at p.table) rest)) in
      let first : once s s ≡ 1 = rw (same_slot_yes s s refl) refl in
      let some = some_times s (names (map (numbered_at p.table) rest))
      (map_in (λ (n : Numbered). n.slot) (map (numbered_at p.table) rest) (numbered_at p.table i)
      (map_in (numbered_at p.table) rest i among)) in
      let all : stands s (caches p t q class) ≡ times s (s ∷ names (map (numbered_at p.table) rest)) = ap (stands s) here in
      omega arith

  pub front_once : (i t q class : ℕ) (rest : List ℕ) → t < threads → q < partitions → HasClass p.version class →
      list_at p t q class ≡ i ∷ rest → Contains rest i → ⊥
  front_once i t q class rest below inside real is among =
      let there : Contains (list_at p t q class) i = subst (λ z. Contains z i) (sym is) (first_in i rest) in
      let at = in_table i t q class below inside real there in
      let two = twice i t q class rest inside real is among in
      let some = listed_least (named_at p.table i) (caches p t q) class 0 170 (omega arith) (omega (arith, real_in p.version class real)) in
      let bound = max (t + 1) (threads_of h.ps) in
      let least = cached_least (named_at p.table i) (caches p) q bound t (omega arith) in
      let many : 2 ≤ cached_times (named_at p.table i) (caches p) (slot_at p.table i).partition bound =
      subst (λ k. 2 ≤ cached_times (named_at p.table i) (caches p) k bound) (sym at.1) (omega arith) in
      elim (is_once i t at.0) [
        | inl outside ↦ let all = outside.1 in omega arith
        | inr inside_it ↦ let none = inside_it.1 in omega arith
      ]
