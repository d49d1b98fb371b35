-- The runs of the slots of a written run: by the words that each slot had, in order.
use Rattle.std.proofs.Common.{◌≡◌, ℕ, ◌+◌, Bool, true, false, ◌&&◌, not, eqb, ltb, leb, List, [], ◌∷◌, Option, Some, None, refl, sym, subst}
use Rattle.std.specs.Prelude.{Contains, find, is_some}
use Rattle.std.specs.List.{list_all}
use Rattle.std.proofs.lemmas.Bool.{and_parts, and_from, eqb-true, ltb-true, leb-true, eq-eqb, not-true, both_ways, false≢true}
use Rattle.pa_slot.specs.declared.word.SlotName.{SlotName}
use Rattle.pa_slot.specs.declared.word.Step.{Step}
use Rattle.pa_slot.specs.declared.word.Step.TheVariants.{Issue, Copy, Reset, Free, Write}
use Rattle.pa_slot.specs.Count.{Enabled, HasRoom, CanStep, stepped, number_of, refs_of, held_of}
use Rattle.pa_slot.specs.Run.{Mark, IsFirstAt, IsRunFrom, IsOneRun, Slots, same_slot}
use Rattle.pa_slot.proofs.Runs.{same_slot_yes, same_slot_eq}
use Rattle.pa_lists.proofs.Members.{find_is, has}
use Rattle.pa_examples.proofs.worked.Lists.{implies, implied}
use Rattle.pa_lists.proofs.Elements.{passes}
use Rattle.pa_lists.proofs.Different.{has_some}

-- if a step may be made
abbrev pub enabled : Step → ℕ → ℕ → Bool
enabled Issue c h = eqb h 0 && eqb c 0
enabled Copy c h = ltb 0 (h + c)
enabled Reset c h = leb 1 c
enabled Free c h = eqb h 1
enabled Write c h = eqb h 1 && eqb c 0

enabled-true : (p : Step) (c h : ℕ) → enabled p c h ≡ true → Enabled p c h
enabled-true Issue c h e = let (a, b) = and_parts (eqb h 0) (eqb c 0) e in (eqb-true h 0 a, eqb-true c 0 b)
enabled-true Copy c h e = ltb-true 0 (h + c) e
enabled-true Reset c h e = leb-true 1 c e
enabled-true Free c h e = eqb-true h 1 e
enabled-true Write c h e = let (a, b) = and_parts (eqb h 1) (eqb c 0) e in (eqb-true h 1 a, eqb-true c 0 b)

abbrev pub has_room : Step → ℕ → Bool
has_room Issue c = true
has_room Copy c = ltb c 8388607
has_room Reset c = true
has_room Free c = true
has_room Write c = true

has_room-true : (p : Step) (c : ℕ) → has_room p c ≡ true → HasRoom p c
has_room-true Issue c e = tt
has_room-true Copy c e = ltb-true c 8388607 e
has_room-true Reset c e = tt
has_room-true Free c e = tt
has_room-true Write c e = tt

abbrev pub can_step : Step → ℕ → Bool
can_step p w = enabled p (refs_of w) (held_of w) && (ltb (number_of w) 1099511627775 && has_room p (refs_of w))

can_step-true : (p : Step) (w : ℕ) → can_step p w ≡ true → CanStep p w
can_step-true p w h =
    let (a, b) = and_parts (enabled p (refs_of w) (held_of w)) (ltb (number_of w) 1099511627775 && has_room p (refs_of w)) h in
    let (c, d) = and_parts (ltb (number_of w) 1099511627775) (has_room p (refs_of w)) b in
    (enabled-true p (refs_of w) (held_of w) a, ltb-true _ _ c, has_room-true p (refs_of w) d)

-- m makes a step of slot s at the word u
abbrev pub steps_at : SlotName → ℕ → Mark → Bool
steps_at s u m = same_slot m.slot s && (eqb m.found u && is_some m.step)

-- no mark that makes a step of slot s at the word u has a lesser line
abbrev pub is_least : List Mark → SlotName → ℕ → ℕ → Bool
is_least ms s u line = list_all (λ (n : Mark). implies (steps_at s u n) (leb line n.line)) ms

first_at : (ms : List Mark) (s : SlotName) (u : ℕ) (m : Mark) (p : Step) → Contains ms m → m.slot ≡ s → m.found ≡ u → m.step ≡ Some p →
    is_least ms s u m.line ≡ true → IsFirstAt ms s u m p
first_at ms s u m p among slot found step least = record {
  among = among;
  slot = slot;
  found = found;
  step = step;
  least = λ n member e g made.
      leb-true _ _ (implied _ _ (passes (λ (n : Mark). implies (steps_at s u n) (leb m.line n.line)) ms n least member)
      (and_from _ _ (same_slot_yes n.slot s e) (and_from _ _ (eq-eqb n.found u g) made)));
}

-- the step leads from one word to the other
abbrev pub leads : Option Step → ℕ → ℕ → Bool
leads None u v = false
leads (Some p) u v = can_step p u && eqb v (stepped p u)

leads-true : (o : Option Step) (u v : ℕ) → leads o u v ≡ true → (p : Step) × (o ≡ Some p) × CanStep p u × (v ≡ stepped p u)
leads-true None u v h = absurd (false≢true h)
leads-true (Some p) u v h = let (a, b) = and_parts (can_step p u) (eqb v (stepped p u)) h in (p, refl, can_step-true p u a, eqb-true _ _ b)

-- the first mark that makes a step of slot s at the word u
abbrev pub is_first : List Mark → SlotName → ℕ → Mark → Bool
is_first ms s u m = steps_at s u m && is_least ms s u m.line

abbrev pub goes : Option Mark → ℕ → ℕ → Bool
goes None u v = false
goes (Some m) u v = leads m.step u v

-- the words of slot s after the word u are these
abbrev pub is_run : List Mark → SlotName → ℕ → List ℕ → Bool
is_run ms s u [] = list_all (λ (m : Mark). not (steps_at s u m)) ms
is_run ms s u (v ∷ vs) = goes (find (is_first ms s u) ms) u v && is_run ms s v vs

one_step : (ms : List Mark) (s : SlotName) (u v : ℕ) (o : Option Mark) → find (is_first ms s u) ms ≡ o → goes o u v ≡ true
    → (m : Mark) × (p : Step) × IsFirstAt ms s u m p × CanStep p u × (v ≡ stepped p u)
one_step ms s u v None e h = absurd (false≢true h)
one_step ms s u v (Some m) e h =
    let (among, first) = find_is (is_first ms s u) ms m e in
    let (at, least) = and_parts (steps_at s u m) (is_least ms s u m.line) first in
    let (same, b) = and_parts (same_slot m.slot s) (eqb m.found u && is_some m.step) at in
    let (found, made) = and_parts (eqb m.found u) (is_some m.step) b in
    let (p, step, can, is) = leads-true m.step u v h in
    (m, p, first_at ms s u m p among (same_slot_eq m.slot s same) (eqb-true _ _ found) step least, can, is)

run_from : (ms : List Mark) (s : SlotName) (u : ℕ) (vs : List ℕ) → is_run ms s u vs ≡ true → IsRunFrom ms s u vs
run_from ms s u [] h =
    λ m p first can.
    let none : steps_at s u m ≡ false = not-true _ (passes (λ (n : Mark). not (steps_at s u n)) ms m h first.among) in
    let made : is_some m.step ≡ true = subst (λ o. is_some o ≡ true) (sym first.step) refl in
    both_ways _ none (and_from _ _ (same_slot_yes m.slot s first.slot) (and_from _ _ (eq-eqb m.found u first.found) made))
run_from ms s u (v ∷ vs) h =
    let (step, rest) = and_parts (goes (find (is_first ms s u) ms) u v) (is_run ms s v vs) h in
    let (m, p, first, can, is) = one_step ms s u v (find (is_first ms s u) ms) refl step in
    (m, p, first, can, is, run_from ms s v vs rest)

-- a mark of slot s found one of the words, and the step that it made was the first there, and might be made
abbrev pub is_used : List Mark → SlotName → Mark → Option Step → Bool
is_used ms s m None = true
is_used ms s m (Some p) = is_least ms s m.found m.line && can_step p m.found

abbrev pub is_one_run : List Mark → SlotName → List ℕ → Bool
is_one_run ms s ws = list_all (λ (m : Mark). implies (same_slot m.slot s) (has m.found ws && is_used ms s m m.step)) ms

one_run : (ms : List Mark) (s : SlotName) (ws : List ℕ) → is_one_run ms s ws ≡ true → IsOneRun ms s ws
one_run ms s ws h =
    let of : (m : Mark) → Contains ms m → m.slot ≡ s → (has m.found ws && is_used ms s m m.step) ≡ true =
    λ m among slot. implied _ _ (passes (λ (n : Mark). implies (same_slot n.slot s) (has n.found ws && is_used ms s n n.step)) ms m h among)
    (same_slot_yes m.slot s slot) in
    record {
      found = λ m among slot. has_some m.found ws (and_parts _ _ (of m among slot)).0;
      used = λ m p among slot step.
          let all : is_used ms s m (Some p) ≡ true =
          subst (λ o. is_used ms s m o ≡ true) step (and_parts (has m.found ws) (is_used ms s m m.step) (of m among slot)).1 in
          let (least, can) = and_parts (is_least ms s m.found m.line) (can_step p m.found) all in
          (first_at ms s m.found m p among slot refl step least, can_step-true p m.found can);
    }

-- a slot, and its words after 0
pub record Worded : Type 0 where
  pub slot : SlotName
  pub words : List ℕ

abbrev pub is_named : SlotName → Worded → Bool
is_named s n = same_slot n.slot s

abbrev pub words_of : Option Worded → List ℕ
words_of None = []
words_of (Some n) = n.words

-- each mark is of one of these slots, and the slots have these words
abbrev pub are_worded : List Mark → List Worded → Bool
are_worded ms named =
    list_all (λ (m : Mark). is_some (find (is_named m.slot) named)) ms &&
    list_all (λ (n : Worded). is_run ms n.slot 0 n.words && is_one_run ms n.slot (0 ∷ n.words)) named

pub worded_run : (ms : List Mark) (named : List Worded) (n : Worded) → are_worded ms named ≡ true → Contains named n →
    IsRunFrom ms n.slot 0 n.words × IsOneRun ms n.slot (0 ∷ n.words)
worded_run ms named n h among =
    let test : Worded → Bool = λ (n : Worded). is_run ms n.slot 0 n.words && is_one_run ms n.slot (0 ∷ n.words) in
    let (a, b) = and_parts (is_run ms n.slot 0 n.words) (is_one_run ms n.slot (0 ∷ n.words))
    (passes test named n (and_parts _ _ h).1 among) in
    (run_from ms n.slot 0 n.words a, one_run ms n.slot (0 ∷ n.words) b)

-- a slot that isn't named has no mark
unnamed : (ms : List Mark) (named : List Worded) (s : SlotName) (m : Mark) → are_worded ms named ≡ true → find (is_named s) named ≡ None →
    Contains ms m → m.slot ≡ s → ⊥
unnamed ms named s m h none among slot =
    let some : is_some (find (is_named m.slot) named) ≡ true =
    passes (λ (m : Mark). is_some (find (is_named m.slot) named)) ms m (and_parts _ _ h).0 among in
    let some' : is_some (find (is_named s) named) ≡ true = subst (λ t. is_some (find (is_named t) named) ≡ true) slot some in
    false≢true (subst (λ o. is_some o ≡ true) none some')

pub run_at : (ms : List Mark) (named : List Worded) (s : SlotName) (o : Option Worded) → are_worded ms named ≡ true →
    find (is_named s) named ≡ o →
    IsRunFrom ms s 0 (words_of o) × IsOneRun ms s (0 ∷ words_of o)
run_at ms named s None h e = (
  λ m p first can. unnamed ms named s m h e first.among first.slot,
  record {
    found = λ m among slot. absurd (unnamed ms named s m h e among slot);
    used = λ m p among slot step. absurd (unnamed ms named s m h e among slot);
  },
)
run_at ms named s (Some n) h e =
    let (among, same) = find_is (is_named s) named n e in
    subst (λ t. IsRunFrom ms t 0 n.words × IsOneRun ms t (0 ∷ n.words)) (same_slot_eq n.slot s same) (worded_run ms named n h among)

-- each slot has one run, if the marks are of slots with these words
pub worded_slots : (ms : List Mark) (named : List Worded) → are_worded ms named ≡ true → Slots ms
worded_slots ms named h s =
    let (run, one) = run_at ms named s (find (is_named s) named) h refl in
    (words_of (find (is_named s) named), run, one)
