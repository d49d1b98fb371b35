-- What is known of the records so far and stays with a record more: sizes, weights and phases.
use Rattle.std.proofs.Common.{◌≡◌, ℕ, ◌+◌, ◌≤◌, Bool, cond, List, [], ◌∷◌, ◌++◌, length, Option, Some, None, refl, sym, ap, ◌∙◌, subst, arith, inl, inr}
use Rattle.std.specs.Prelude.{if◌then◌else◌, ◌==◌, Contains}
use Rattle.std.proofs.lemmas.List.Sums.{sum_by-cons, sum_by_push}
use Rattle.pa_slot.specs.declared.word.SlotName.{SlotName}
use Rattle.pa_slot.specs.declared.word.Step.{Step}
use Rattle.pa_slot.specs.Run.{Mark}
use Rattle.pa_slot.proofs.Runs.{same_slot_yes}
use Rattle.pa_trace.specs.declared.script.Op.{Op}
use Rattle.pa_trace.specs.declared.script.Line.{Line}
use Rattle.pa_trace.specs.declared.script.Line.TheVariants.{Do}
use Rattle.pa_record.specs.declared.numbered.Numbered.{Numbered}
use Rattle.pa_record.specs.declared.pool.PoolEntry.{PoolEntry}
use Rattle.pa_record.specs.declared.report.Tally.{Tally}
use Rattle.pa_record.specs.declared.root.RootEntry.{RootEntry}
use Rattle.pa_record.specs.Spans.{name_of}
use Rattle.pa_record.specs.Root.{Root}
use Rattle.pa_lists.proofs.Members.{not_in_none, first_in, later_in}
use Rattle.pa_lists.proofs.Joined.{map_cases, map_in, filter_in, flat_in}
use Rattle.pa_rules.specs.Roots.{Journals}
use Rattle.pa_rules.specs.Holders.{Out, Move, move_of, moves_by}
use Rattle.pa_rules.specs.Legal.{is_phase, phases_in}
use Rattle.pa_rules.specs.Flow.{at_step}
use Rattle.pa_rules.specs.Report.{HasSize}
use Rattle.pa_legal.specs.Numbers.{all_moves, is_of, moves_of}
use Rattle.pa_legal.specs.Tallies.{weight_of, one_of, bytes_of, IsLeft}
use Rattle.pa_heap_effects.specs.Deeds.{Acts, grown}
use Rattle.pa_heap_effects.specs.Pooled.{Asks}
use Rattle.pa_heap_effects.proofs.Growing.{grown_old}
use Rattle.pa_slot_effects.proofs.Marking.{with_mark}
use Rattle.pa_player.specs.declared.table.Slot.{Slot}
use Rattle.pa_player.specs.Playing.{home_in, len_in, IsLetOut, AreAllSlots}
use Rattle.pa_player.proofs.Slots.{IsPlaceOf, slot_cases}
use Rattle.pa_player.proofs.Shows.{gain, IsTallyMore}

-- ---- sizes, and where a slot that has one is

pub let_out_sized : (version : ℕ) (roots : Journals) (x : Slot) (class : Option ℕ) → IsLetOut version roots x class →
    HasSize roots x.partition (name_of x.title) x.title.len
let_out_sized version roots x (Some class) of = inl (class, of.1, of.2)
let_out_sized version roots x None of = inr of

pub moves_not_none : (journal : List RootEntry) (s : SlotName) (e : RootEntry) (m : Move) → Contains journal e →
    Contains (moves_by e.line e.act) m → m.slot ≡ s → moves_of journal s ≡ [] → ⊥
moves_not_none journal s e m among moves is none =
    let all = flat_in (λ (f : RootEntry). moves_by f.line f.act) journal e m among moves in
    let kept = filter_in (is_of s) (all_moves journal) m all (same_slot_yes m.slot s is) in
    not_in_none m (subst (λ z. Contains z m) none kept)

pub size_moves : (roots : Journals) (k : ℕ) (s : SlotName) (len : ℕ) → HasSize roots k s len → moves_of (roots k) s ≡ [] → ⊥
size_moves roots k s len (inl (class, of, is)) none =
    let (e, asked, slots, among, act, member) = of in
    let (n, there, name) = map_cases (λ (z : Numbered). z.slot) slots s member in
    moves_not_none (roots k) s e (move_of e.line Out n) among
    (subst (λ a. Contains (moves_by e.line a) (move_of e.line Out n)) (sym act) (map_in (move_of e.line Out) slots n there)) name none
size_moves roots k s len (inr (e, asked, among, act)) none =
    let m : Move = record { line = e.line; slot = s; number = 0; way = Out } in
    moves_not_none (roots k) s e m among (subst (λ a. Contains (moves_by e.line a) m) (sym act) (first_in m [])) refl none

pub sized_place : {version : ℕ} (partitions : ℕ) (slots : List Slot) (pools : List PoolEntry) (roots : Journals) (root : ℕ → Root) (k : ℕ)
    (s : SlotName) (len : ℕ)
    → AreAllSlots version partitions slots pools roots root → HasSize roots k s len → (i : ℕ) × IsPlaceOf slots s i
sized_place partitions slots pools roots root k s len h sized = elim (slot_cases slots s) [
  | inl there ↦ there
  | inr none ↦ absurd (size_moves roots k s len sized (h.others k s none))
]

pub size_grown : (roots : Journals) (n : ℕ) (acts : Acts) (k : ℕ) (s : SlotName) (len : ℕ) → HasSize roots k s len →
    HasSize (grown roots n acts) k s len
size_grown roots n acts k s len (inl (class, of, is)) =
    let (e, asked, slots, among, act, member) = of in
    inl (class, (e, asked, slots, grown_old roots n acts k e among, act, member), is)
size_grown roots n acts k s len (inr (e, asked, among, act)) = inr (e, asked, grown_old roots n acts k e among, act)

-- ---- weights

weight_push : (test : Step → ℕ → Bool) (weight : SlotName → ℕ) (ms : List Mark) (o : Option Mark) →
    weight_of test weight (with_mark ms o) ≡ weight_of test weight ms + gain test weight o
weight_push test weight ms None = omega arith
weight_push test weight ms (Some m) = sum_by_push (λ (x : Mark). if at_step test x.found x.step then weight x.slot else 0) ms m

weight_same : (test : Step → ℕ → Bool) (f g : SlotName → ℕ) (ms : List Mark) → ((m : Mark) → Contains ms m → g m.slot ≡ f m.slot) →
    weight_of test g ms ≡ weight_of test f ms
weight_same test f g [] same = refl
weight_same test f g (m ∷ ms) same =
    let v : (SlotName → ℕ) → Mark → ℕ = λ w x. if at_step test x.found x.step then w x.slot else 0 in
    let a = sum_by-cons (v g) m ms in
    let b = sum_by-cons (v f) m ms in
    let here : v g m ≡ v f m = ap (λ z. if at_step test m.found m.step then z else 0) (same m (first_in m ms)) in
    let rest = weight_same test f g ms (λ x among. same x (later_in m x ms among)) in
    omega arith

-- the homes and the lengths of the slots of some marks are the same in both tables
abbrev pub AreSameHomes : List Slot → List Slot → List Mark → Type 0
AreSameHomes before after ms = (m : Mark) → Contains ms m → (home_in after m.slot ≡ home_in before m.slot) ×
    (len_in after m.slot ≡ len_in before m.slot)

pub left_more : (into out : Step → ℕ → Bool) (before after : List Slot) (k : ℕ) (ms : List Mark) (o : Option Mark) (t u : Tally) →
    AreSameHomes before after ms
    → IsLeft into out (home_in before) (len_in before) k ms t → IsTallyMore into out after k o t u →
    IsLeft into out (home_in after) (len_in after) k (with_mark ms o) u
left_more into out before after k ms o t u same h m =
    let one : (x : Mark) → Contains ms x → one_of (home_in after) k x.slot ≡ one_of (home_in before) k x.slot =
    λ x among. ap (λ z. if z == k then 1 else 0) (same x among).0 in
    let many : (x : Mark) → Contains ms x →
    bytes_of (home_in after) (len_in after) k x.slot ≡ bytes_of (home_in before) (len_in before) k x.slot =
    λ x among. ap (λ z. if z == k then len_in after x.slot else 0) (same x among).0 ∙
    ap (λ z. if home_in before x.slot == k then z else 0) (same x among).1 in
    record {
      slots =
          let a = weight_push into (one_of (home_in after) k) ms o in
          let b = weight_push out (one_of (home_in after) k) ms o in
          let c = weight_same into (one_of (home_in before) k) (one_of (home_in after) k) ms one in
          let d = weight_same out (one_of (home_in before) k) (one_of (home_in after) k) ms one in
          omega (arith, a, b, c, d, h.slots, m.slots);
      bytes =
          let a = weight_push into (bytes_of (home_in after) (len_in after) k) ms o in
          let b = weight_push out (bytes_of (home_in after) (len_in after) k) ms o in
          let c = weight_same into (bytes_of (home_in before) (len_in before) k) (bytes_of (home_in after) (len_in after) k) ms many in
          let d = weight_same out (bytes_of (home_in before) (len_in before) k) (bytes_of (home_in after) (len_in after) k) ms many in
          omega (arith, a, b, c, d, h.bytes, m.bytes);
    }

-- ---- lines

pub asks_few : (supers n : ℕ) (pools more : List PoolEntry) (acts : Acts) → Asks supers n pools more acts → length more ≤ 1
asks_few supers n pools [] acts asks = omega arith
asks_few supers n pools (e ∷ []) acts asks = omega arith
asks_few supers n pools (e ∷ f ∷ more) acts asks = absurd asks

pub phases_push : (ls : List Line) (thread : ℕ) (op : Op) → phases_in (ls ++ Do thread op ∷ []) ≡ phases_in ls
phases_push ls thread op =
    let more = sum_by_push (λ (l : Line). cond (is_phase l) 1 0) ls (Do thread op) in
    omega (arith, more)
