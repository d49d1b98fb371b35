-- The delayed run that was worked out.
use Rattle.std.proofs.Common.{◌≡◌, ℕ, zero, suc, ◌<◌, List, [], ◌∷◌, ◌++◌, Some, refl, sym, ap, arith, inl, inr, lit<, ◌∙◌, cond}
use Rattle.std.specs.Prelude.{◌==◌}
use Rattle.std.proofs.lemmas.Bool.{ne_eqb}
use Rattle.pa_slot.specs.declared.word.SlotName.{SlotName}
use Rattle.pa_slot.specs.declared.word.Step.TheVariants as steps
use Rattle.pa_buckets.specs.Table.{rows, row_of, slot_of}
use Rattle.pa_buckets.specs.Bands.{limit_of}
use Rattle.pa_buckets.proofs.Facts.{sixteen_bytes}
use Rattle.pa_lists.proofs.Members.{not_in_none, in_cases}
use Rattle.pa_trace.specs.declared.script.Op.TheVariants as ops
use Rattle.pa_record.specs.declared.entry.Answer.TheVariants as answers
use Rattle.pa_record.specs.declared.numbered.Numbered.{Numbered}
use Rattle.pa_record.specs.declared.root.RootEntry.{RootEntry}
use Rattle.pa_record.specs.declared.root.RootAct.{RootAct}
use Rattle.pa_record.specs.declared.root.RootAct.TheVariants.{Fill}
use Rattle.pa_record.specs.Worked.{slots, fill}
use Rattle.pa_rules.specs.Caches.{Cache, Caches, with_list, with_cache, acts_of, IsOfClass, MadeRow, no_caches, listed_slots}
use Rattle.pa_rules.specs.Report.{listed_bytes}
use Rattle.pa_rules.specs.Worked.{first_slot, of_first_thread}
use Rattle.pa_rules.proofs.Worked.{class_0}
use Rattle.pa_delay.specs.Queue.{GoesPast}
use Rattle.pa_delay.specs.Delayed.{Waiting, Queues, with_queue, no_queues, HaveBytes, AllLeave, DelayedDone, DelayedTo}
use Rattle.pa_delay.specs.Worked.{later_slot, waiting_records, waiting_fill, waiting_roots, OneWaits}

-- the two slots after their returns, and the slots of the fill after the first and after the second
abbrev a : Numbered
a = record { slot = record { start = 16384; born = 0 }; number = 2 }

abbrev b : Numbered
b = record { slot = record { start = 16400; born = 0 }; number = 2 }

abbrev after_one : List Numbered
after_one = slots 0 0 (16400 ∷ 16416 ∷ 16432 ∷ 16448 ∷ 16464 ∷ 16480 ∷ 16496 ∷ [])

abbrev after_two : List Numbered
after_two = slots 0 0 (16416 ∷ 16432 ∷ 16448 ∷ 16464 ∷ 16480 ∷ 16496 ∷ [])

-- the lists after lines 2, 4, 5 and 6
abbrev lists_2 : Cache
lists_2 = with_list (no_caches 0) 0 0 after_one

abbrev lists_4 : Cache
lists_4 = with_list lists_2 0 0 after_two

abbrev lists_5 : Cache
lists_5 = with_list lists_4 0 0 (a ∷ after_two)

abbrev lists_6 : Cache
lists_6 = with_list lists_5 0 0 after_two

abbrev has : Cache → List Numbered → Waiting
has lists queue = record { lists = lists; queue = queue }

-- no other partition has entries, and no line but the second
no_other : (line q : ℕ) → (q ≡ 0 → ⊥) → acts_of waiting_roots line q ≡ []
no_other line zero ne = absurd (ne refl)
no_other line (suc q) ne = refl

none_3 : (q : ℕ) → acts_of waiting_roots 3 q ≡ []
none_3 zero = refl
none_3 (suc q) = refl

none_4 : (q : ℕ) → acts_of waiting_roots 4 q ≡ []
none_4 zero = refl
none_4 (suc q) = refl

none_5 : (q : ℕ) → acts_of waiting_roots 5 q ≡ []
none_5 zero = refl
none_5 (suc q) = refl

none_6 : (q : ℕ) → acts_of waiting_roots 6 q ≡ []
none_6 zero = refl
none_6 (suc q) = refl

a_is : IsOfClass waiting_roots a.slot 0 0
a_is = (fill 2 0 (Some 0) waiting_fill, Some 0, waiting_fill, (0, lit< tt, refl), refl, (0, lit< tt, refl))

b_is : IsOfClass waiting_roots b.slot 0 0
b_is = (fill 2 0 (Some 0) waiting_fill, Some 0, waiting_fill, (0, lit< tt, refl), refl, (1, lit< tt, refl))

-- each slot there is of class 0
abbrev class_of_fill : RootAct → ℕ
class_of_fill (Fill class asked slots) = class
class_of_fill act = 0

only_class : (s : SlotName) (p class : ℕ) → IsOfClass waiting_roots s p class → class ≡ 0
only_class s zero class (e, asked, given, there, act, among) = elim (in_cases (fill 2 0 (Some 0) waiting_fill) e [] there) [
  | inl same ↦ ap class_of_fill (sym act) ∙ ap (λ (z : RootEntry). class_of_fill z.act) (sym same)
  | inr later ↦ absurd (not_in_none e later)
]
only_class s (suc p) class (e, asked, given, there, act, among) = absurd (not_in_none e there)

one_fits : (s : Numbered) → IsOfClass waiting_roots s.slot 0 0 → HaveBytes waiting_roots (s ∷ []) 16
unfolding rows row_of slot_of
one_fits s of = (0, 0, 0, of, refl, refl)

two_past : (s t : Numbered) (n : ℕ) → HaveBytes waiting_roots (s ∷ t ∷ []) n → 16 < n
two_past s t n (p, c, m, of, (q, d, k, of', none, sum'), sum) =
    let first : slot_of c ≡ 16 = ap slot_of (only_class s.slot p c of) ∙ sixteen_bytes in
    let second : slot_of d ≡ 16 = ap slot_of (only_class t.slot q d of') ∙ sixteen_bytes in
    omega arith

not_ended : (front : List Numbered) (last : Numbered) → [] ≡ front ++ last ∷ [] → ⊥
not_ended [] last e = absurd cc
not_ended (x ∷ front) last e = absurd cc

-- the first slot waits; it leaves as the second comes
first_waits : GoesPast (HaveBytes waiting_roots) 16 (a ∷ []) [] (a ∷ [])
first_waits = record {
  parts = refl;
  fits = (16, one_fits a a_is, omega arith);
  least = λ front last n e h. absurd (not_ended front last e);
}

first_goes : GoesPast (HaveBytes waiting_roots) 16 (a ∷ b ∷ []) (a ∷ []) (b ∷ [])
first_goes = record { parts = refl; fits = (16, one_fits b b_is, omega arith); least = λ front last n e h. two_past last b n h }

made_first : MadeRow waiting_roots (of_first_thread 2 (ops.Alloc 0 0 8) (answers.Made (first_slot 0) 8)) (first_slot 0)
    (no_caches 0) lists_2
made_first = inl (0, 0, waiting_fill, after_one, (0, 8, refl, class_0), (Some 0, (refl, no_other 2)), refl, λ p c. refl)

freed_first : DelayedDone 16 waiting_roots (of_first_thread 3 (ops.Free 0) (answers.Done (first_slot 16777217))) (Some steps.Free)
    (first_slot 16777217) (has lists_2 []) (has lists_2 (a ∷ []))
freed_first = inl ((refl, refl), inl (0, 0, [], (λ q. []), a_is, first_waits, ((λ q. refl), λ p c. refl), none_3))

made_second : MadeRow waiting_roots (of_first_thread 4 (ops.Alloc 1 0 8) (answers.Made (later_slot 0) 8)) (later_slot 0) lists_2 lists_4
made_second = inl (0, 0, after_one, after_two, (1, 8, refl, class_0), (refl, none_4), refl, λ p c. refl)

leaves : AllLeave waiting_roots (a ∷ []) lists_4 (λ q. []) lists_5
unfolding rows row_of limit_of
leaves = (lists_5, (λ q. []), (λ q. []), (0, 0, a_is, nothing, λ p c. refl), ((λ q. refl), λ p c. refl), λ q. refl)
  where
    nothing : (q : ℕ) → [] ≡ cond {A = List RootAct} (q == 0) [] []
    nothing zero = refl
    nothing (suc q) = rw (ne_eqb (suc q) 0 (λ e. omega arith)) refl

freed_second : DelayedDone 16 waiting_roots (of_first_thread 5 (ops.Free 1) (answers.Done (later_slot 16777217))) (Some steps.Free)
    (later_slot 16777217)
    (has lists_4 (a ∷ [])) (has lists_5 (b ∷ []))
freed_second = inl ((refl, refl), inl (0, 0, a ∷ [], (λ q. []), b_is, first_goes, leaves, none_5))

made_third : MadeRow waiting_roots (of_first_thread 6 (ops.Alloc 2 0 8) (answers.Made (first_slot 33554432) 8))
    (first_slot 33554432) lists_5 lists_6
made_third = inl (0, 0, a ∷ after_two, after_two, (2, 8, refl, class_0), (refl, none_6), refl, λ p c. refl)

abbrev all_after : Caches
all_after = with_cache (with_cache (with_cache (with_cache (with_cache no_caches 0 lists_2) 0 lists_2) 0 lists_4) 0 lists_5) 0 lists_6

abbrev left_after : Queues
left_after = with_queue (with_queue (with_queue (with_queue (with_queue no_queues 0 []) 0 (a ∷ [])) 0 (a ∷ [])) 0 (b ∷ [])) 0 (b ∷ [])

walked : DelayedTo 16 1 waiting_roots no_caches no_queues waiting_records all_after left_after
walked = (
  has lists_2 [],
  (made_first, refl),
  (
    has lists_2 (a ∷ []),
    freed_first,
    (
      has lists_4 (a ∷ []),
      (made_second, refl),
      (has lists_5 (b ∷ []), freed_second, (has lists_6 (b ∷ []), (made_third, refl), (refl, refl))),
    ),
  ),
)

pub one_waits : OneWaits
unfolding rows row_of slot_of listed_slots listed_bytes
one_waits = record {
  rows = (all_after, left_after, walked);
  cached = (
    all_after,
    left_after,
    1,
    16,
    walked,
    (1, 16, 0, 0, (0, 0, 0, 0, b_is, (refl, refl), refl, refl), (refl, refl), refl, refl),
    refl,
    refl,
  );
}
