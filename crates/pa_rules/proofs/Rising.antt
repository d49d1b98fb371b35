-- Records whose lines rise, by their places, and how many steps come before a line.
use Rattle.std.proofs.Common.{◌≡◌, ℕ, ◌<◌, ◌≤◌, Bool, true, false, ◌&&◌, cond, List, [], ◌∷◌, get_or, Some, refl, subst, arith}
use Rattle.std.specs.Prelude.{slice_get, is_some, nat_lt}
use Rattle.std.proofs.lemmas.Bool.{lt-ltb, ltb-true}
use Rattle.std.proofs.lemmas.List.Sums.{sum_by-cons}
use Rattle.std.proofs.lemmas.Option.{slice_get_within, get_or_from_slice_get}
use Rattle.pa_slot.specs.declared.word.SlotName.{SlotName}
use Rattle.pa_slot.specs.Run.{Mark, same_slot}
use Rattle.pa_rules.specs.declared.played.Played.{Played}
use Rattle.pa_rules.specs.FileOrder.{is_step_before, steps_before}
use Rattle.pa_rules.specs.Rising.{RiseByLine}

pub rises : (ps : List Played) (i j : ℕ) (x y : Played) → RiseByLine ps → slice_get ps i ≡ Some x → slice_get ps j ≡ Some y → i < j →
    x.line < y.line
rises ps i j x y rising at at' less =
    subst (λ (z : Played). z.line < y.line) (get_or_from_slice_get ps i x x at)
    (subst (λ (z : Played). (get_or ps i x).line < z.line) (get_or_from_slice_get ps j y x at')
    (rising i j x less (slice_get_within ps j y at')))

no_less : (a b c d : Bool) → (b ≡ true → d ≡ true) → cond {A = ℕ} (a && (b && c)) 1 0 ≤ cond {A = ℕ} (a && (d && c)) 1 0
no_less false b c d h = omega arith
no_less true false c d h = omega arith
no_less true true c d h = rw (h refl) (omega arith)

-- a line past another has no fewer steps before it
pub steps_rise : (s : SlotName) (i j : ℕ) (ms : List Mark) → i ≤ j → steps_before s i ms ≤ steps_before s j ms
steps_rise s i j [] up = omega arith
steps_rise s i j (m ∷ ms) up =
    let a = sum_by-cons (λ y. cond {A = ℕ} (is_step_before s i y) 1 0) m ms in
    let b = sum_by-cons (λ y. cond {A = ℕ} (is_step_before s j y) 1 0) m ms in
    let c = no_less (same_slot m.slot s) (nat_lt m.line i) (is_some m.step) (nat_lt m.line j)
    (λ hit. let low = ltb-true m.line i hit in lt-ltb m.line j (omega arith)) in
    let ih = steps_rise s i j ms up in
    omega arith
