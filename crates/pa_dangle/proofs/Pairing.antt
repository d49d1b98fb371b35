-- The law of uses: a mark at a quarantined word is a use of what one free left there.
use Rattle.std.proofs.Common.{◌≡◌, ℕ, ◌<◌, ◌≤◌, List, Some, refl, sym, ◌∙◌, subst, arith, inl, inr}
use Rattle.std.specs.Prelude.{Contains}
use Rattle.std.proofs.lemmas.Bool.{cases_lt}
use Rattle.pa_slot.specs.declared.word.SlotName.{SlotName}
use Rattle.pa_slot.specs.declared.word.Step.TheVariants.{Free}
use Rattle.pa_slot.specs.Count.{number_of}
use Rattle.pa_slot.specs.Run.{Mark, IsFirstAt, IsQuarantined, Slots}
use Rattle.pa_slot.proofs.Arith.{stepped_is}
use Rattle.pa_rules.proofs.Running.{one_mark, same_word}
use Rattle.pa_dangle.specs.Uses.{IsUseOf, OwnLines, UsesArePaired}
use Rattle.pa_dangle.proofs.Waiting.{Run, Waits, comes_of_free, waits_quarantined}

pub run_of : (ms : List Mark) (s : SlotName) → Slots ms → OwnLines ms → (vs : List ℕ) × Run ms s vs
run_of ms s slots lines = let (vs, run, one) = slots s in (vs, record { lines = lines; run = run; one = one })

-- a use waits, and a mark that waits is a use
waits_of : (ms : List Mark) (f u : Mark) (s : SlotName) → u.slot ≡ s → IsUseOf ms f u → Waits ms s (number_of u.found) f
waits_of ms f u s slot is = record {
  among = is.freed;
  slot = sym is.slot ∙ slot;
  kept = is.kept;
  later = is.later;
  none = λ r p member at. is.waits r p member (at ∙ sym slot ∙ is.slot);
}

use_of : (ms : List Mark) (f u : Mark) → Contains ms u → Waits ms u.slot (number_of u.found) f → IsUseOf ms f u
use_of ms f u member w = record {
  freed = w.among;
  used = member;
  slot = sym w.slot;
  kept = w.kept;
  later = w.later;
  waits = λ r p among at. w.none r p among (at ∙ w.slot);
}

pub used_quarantined : (ms : List Mark) (f u : Mark) → Slots ms → OwnLines ms → IsUseOf ms f u → IsQuarantined u.found
used_quarantined ms f u slots lines is =
    let (vs, h) = run_of ms u.slot slots lines in
    waits_quarantined ms u.slot vs h f u.found (h.one.found u is.used refl) (waits_of ms f u u.slot refl is)

pub quarantined_used : (ms : List Mark) (u : Mark) → Slots ms → OwnLines ms → Contains ms u →
    IsQuarantined u.found → (f : Mark) × IsUseOf ms f u
quarantined_used ms u slots lines member q =
    let (vs, h) = run_of ms u.slot slots lines in
    let (f, w) = comes_of_free ms u.slot vs h u.found (h.one.found u member refl) q in
    (f, use_of ms f u member w)

-- a use of what f freed that is not below another free of the slot
none_between : (ms : List Mark) (f g u : Mark) → Slots ms → OwnLines ms → IsUseOf ms f u → Contains ms g →
    g.slot ≡ u.slot → g.step ≡ Some Free →
    number_of g.found < number_of u.found → number_of f.found < number_of g.found → ⊥
none_between ms f g u slots lines is member slot step below above =
    let (vs, h) = run_of ms g.slot slots lines in
    let (first, can) = h.one.used g Free member refl step in
    let (a, b, c) = stepped_is Free g.found can in
    let between : IsUseOf ms f g = record {
      freed = is.freed;
      used = member;
      slot = slot ∙ is.slot;
      kept = is.kept;
      later = above;
      waits = λ r p among at made returns low high. is.waits r p among at made returns low (omega arith);
    } in
    let (free, refs) = used_quarantined ms f g slots lines between in
    omega arith

pub last_free : (ms : List Mark) (f g u : Mark) → Slots ms → OwnLines ms → IsUseOf ms f u → Contains ms g →
    g.slot ≡ u.slot → g.step ≡ Some Free →
    number_of g.found < number_of u.found → number_of g.found ≤ number_of f.found
last_free ms f g u slots lines is member slot step below = elim (cases_lt (number_of f.found) (number_of g.found)) [
  | inl above ↦ absurd (none_between ms f g u slots lines is member slot step below above)
  | inr not ↦ omega arith
]

-- two frees of a slot at one number are one
pub one_free : (ms : List Mark) (f g : Mark) → Slots ms → OwnLines ms → Contains ms f → Contains ms g → f.slot ≡ g.slot →
    f.step ≡ Some Free → g.step ≡ Some Free →
    number_of f.found ≡ number_of g.found → f ≡ g
one_free ms f g slots lines a b slot step step' same =
    let (vs, h) = run_of ms g.slot slots lines in
    let word = same_word ms g.slot 0 vs f.found g.found h.run (h.one.found f a slot) (h.one.found g b refl) same in
    let (first, can) = h.one.used f Free a slot step in
    let (first', can') = h.one.used g Free b refl step' in
    one_mark ms g.slot g.found f g Free Free lines (subst (λ z. IsFirstAt ms g.slot z f Free) word first) first'

one_of : (ms : List Mark) (f g u : Mark) → Slots ms → OwnLines ms → IsUseOf ms f u → IsUseOf ms g u → f ≡ g
one_of ms f g u slots lines a b =
    let low = last_free ms f g u slots lines a b.freed (sym b.slot) b.kept.step b.later in
    let high = last_free ms g f u slots lines b a.freed (sym a.slot) a.kept.step a.later in
    one_free ms f g slots lines a.freed b.freed (sym a.slot ∙ b.slot) a.kept.step b.kept.step (omega arith)

pub uses_are_paired : UsesArePaired
uses_are_paired = record {
  paired = λ ms u slots lines member. (λ q. quarantined_used ms u slots lines member q, λ (f, is). used_quarantined ms f u slots lines is);
  one = one_of;
  last = last_free;
}
