-- Slots that are out of a root go back in parts.
use Rattle.std.proofs.Common.{◌≡◌, ◌≢◌, ℕ, zero, suc, ◌+◌, ◌<◌, ◌≤◌, List, [], ◌∷◌, ◌++◌, refl, sym, subst, arith, inl, inr}
use Rattle.std.specs.Prelude.{Contains, All, AllPairs}
use Rattle.std.proofs.lemmas.Bool.{cases_eq}
use Rattle.std.proofs.lemmas.List.{map-append}
use Rattle.std.proofs.lemmas.List.Elements.{All-contains}
use Rattle.pa_slot.specs.declared.word.SlotName.{SlotName}
use Rattle.pa_record.specs.declared.numbered.Numbered.{Numbered}
use Rattle.pa_record.specs.Root.{Root, names, all_returned, returned, IsOut}
use Rattle.pa_record.specs.Sound.{IsSound}
use Rattle.pa_record.specs.Laws.{times}
use Rattle.pa_lists.proofs.Members.{first_in}
use Rattle.pa_lists.proofs.Pairs.{pairs_none, pairs_cons}
use Rattle.pa_record.proofs.Lawful.{return_keeps}
use Rattle.pa_record.proofs.Leaving.{once_or_not}
use Rattle.pa_rules.proofs.Counted.{times_cons}
use Rattle.pa_rules.proofs.Totals.{some_times}
use Rattle.pa_heap_effects.specs.Ops.{AreOut, PartsAreOut, all_of}
use Rattle.pa_lists.proofs.Elements.{all_front, all_from_members, all_back}

-- ---- slots that differ, by how often each is in the list

pub times_append : (s : SlotName) (xs ys : List SlotName) → times s (xs ++ ys) ≡ times s xs + times s ys
times_append s [] ys = omega arith
times_append s (x ∷ xs) ys =
    let a = times_cons s x (xs ++ ys) in
    let b = times_cons s x xs in
    let ih = times_append s xs ys in
    omega arith

pub differ_once : (s : SlotName) (xs : List SlotName) → AllPairs ◌≢◌ xs → times s xs ≤ 1
differ_once s xs h = elim (once_or_not s xs h) [
  | inl there ↦ let one = there.1 in omega arith
  | inr away ↦ let none = away.1 in omega arith
]

pub once_differ : (xs : List SlotName) → ((s : SlotName) → times s xs ≤ 1) → AllPairs ◌≢◌ xs
once_differ [] few = pairs_none (λ (a b : SlotName). a ≢ b)
once_differ (x ∷ xs) few =
    pairs_cons (λ (a b : SlotName). a ≢ b) x xs
    (λ y among same.
    let a = times_cons x x xs in
    let b = few x in
    let c = some_times x (x ∷ []) (first_in x []) in
    let d = times_cons x x [] in
    let e = some_times x xs (subst (λ z. Contains xs z) (sym same) among) in
    omega arith)
    (once_differ xs (λ s. let a = times_cons s x xs in let b = few s in omega arith))

-- ---- parts

pub names_append : (xs ys : List Numbered) → names (xs ++ ys) ≡ names xs ++ names ys
names_append xs ys = map-append (λ (n : Numbered). n.slot) xs ys

parts_out : (r : Root) (xs ys : List Numbered) → AreOut r (xs ++ ys) → All (IsOut r) (names xs ++ names ys) ×
    AllPairs ◌≢◌ (names xs ++ names ys)
parts_out r xs ys h = (subst (λ z. All (IsOut r) z) (names_append xs ys) h.0, subst (λ z. AllPairs ◌≢◌ z) (names_append xs ys) h.1)

front : (r : Root) (xs ys : List Numbered) → AreOut r (xs ++ ys) → AreOut r xs
front r xs ys h =
    let (out, differ) = parts_out r xs ys h in (
      all_front (IsOut r) (names xs) (names ys) out,
      once_differ (names xs) (λ s. let a = times_append s (names xs) (names ys) in let b = differ_once s (names xs ++ names ys) differ in
          omega arith),
    )

behind : (r : Root) (xs ys : List Numbered) → AreOut r (xs ++ ys) → AreOut r ys
behind r xs ys h =
    let (out, differ) = parts_out r xs ys h in (
      all_back (IsOut r) (names xs) (names ys) out,
      once_differ (names ys) (λ s. let a = times_append s (names xs) (names ys) in let b = differ_once s (names xs ++ names ys) differ in
          omega arith),
    )

-- what comes back leaves the others out
rest : (r : Root) (xs ys : List Numbered) → IsSound r → AreOut r (xs ++ ys) → AreOut (all_returned (names xs) r) ys
rest r xs ys sound h =
    let (out, differ) = parts_out r xs ys h in
    let (first, once) = front r xs ys h in
    let (second, once') = behind r xs ys h in
    let back = return_keeps.returns r (names xs) sound first once in (
      all_from_members (IsOut (all_returned (names xs) r)) (names ys) (λ s among. back.stays s
          (λ there.
          let a = some_times s (names xs) there in
          let b = some_times s (names ys) among in
          let c = times_append s (names xs) (names ys) in
          let d = differ_once s (names xs ++ names ys) differ in
          omega arith)
          (All-contains (IsOut r) (names ys) s second among)),
      once',
    )

returned_parts : (r : Root) (xs ys : List SlotName) → all_returned (xs ++ ys) r ≡ all_returned ys (all_returned xs r)
returned_parts r [] ys = refl
returned_parts r (x ∷ xs) ys = returned_parts (returned x r) xs ys

pub parts_are_out : PartsAreOut
parts_are_out = record { front = front; rest = rest; behind = behind; joined = returned_parts }

pub returned_sound : (r : Root) (xs : List Numbered) → IsSound r → AreOut r xs → IsSound (all_returned (names xs) r)
returned_sound r xs sound h = (return_keeps.returns r (names xs) sound h.0 h.1).kept.sound

-- one of some lists
pub listed_alone : (r : Root) (lists : ℕ → List Numbered) (c class n : ℕ) → class ≤ c → c < class + n → AreOut r (all_of lists class n) →
    AreOut r (lists c)
listed_alone r lists c class zero low high h = absurd (omega arith)
listed_alone r lists c class (suc n) low high h = elim (cases_eq class c) [
  | inl e ↦ subst (λ z. AreOut r (lists z)) e (front r (lists class) (all_of lists (class + 1) n) h)
  | inr other ↦ listed_alone r lists c (class + 1) n (omega arith) (omega arith) (behind r (lists class) (all_of lists (class + 1) n) h)
]
