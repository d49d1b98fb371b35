-- The turns of a slot that is made, pointed to, freed and left.
use Rattle.std.proofs.Common.{ℕ, ◌<◌, List, [], ◌∷◌, ◌++◌, length, refl, arith}
use Rattle.pa_trace.specs.declared.script.Line.{Line}
use Rattle.pa_trace.specs.declared.script.Line.TheVariants.{Do}
use Rattle.pa_trace.specs.declared.script.Op.TheVariants.{Alloc, Copy, Free, Reset}
use Rattle.pa_trace.specs.Rules.{first_rules}
use Rattle.pa_record.specs.declared.entry.Seen.{Seen}
use Rattle.pa_record.specs.declared.entry.Answer.TheVariants.{Made, Done}
use Rattle.pa_rules.specs.declared.played.Played.{Played}
use Rattle.pa_rules.specs.Sizes.{usable_of}
use Rattle.pa_slot_effects.specs.Shown.{Shown}
use Rattle.pa_slot_effects.specs.Known.{IsToldTo}
use Rattle.pa_slot_effects.specs.Turns.{CanPlay, played_at, after_made, after_copy, after_free, after_reset}
use Rattle.pa_slot_effects.specs.Laws.{nothing_shown}
use Rattle.pa_slot_effects.specs.Worked.{WorkedTurns}
use Rattle.pa_slot_effects.proofs.Starting.{starts_told, like_is_told}
use Rattle.pa_slot_effects.proofs.Ops.{made_goes_on, copy_goes_on, free_goes_on, reset_goes_on}

abbrev before : Shown
before = record (nothing_shown (first_rules 1)) { usable = λ s. usable_of 1 1 }

abbrev made : Shown
made = after_made before 0 0 (record { slot = record { start = 16384; born = 0 }; found = record { 0 = 0 } })

abbrev copied : Shown
copied = after_copy made 0 1 (record { slot = record { start = 16384; born = 0 }; found = record { 0 = 16777217 } })

abbrev freed : Shown
freed = after_free copied 0 0 (record { slot = record { start = 16384; born = 0 }; found = record { 0 = 33554435 } })

abbrev gone : Shown
gone = after_reset freed 0 1 (record { slot = record { start = 16384; born = 0 }; found = record { 0 = 50331650 } })

can : (ls : List Line) (ps : List Played) (a : Shown) → IsToldTo 1 ls ps a → length ls < 65536 → CanPlay 1 ls ps a 0
can ls ps a h short = record { told = h; among = omega arith; few = omega arith; short = short }

pub worked_turns : WorkedTurns
worked_turns =
    let start : IsToldTo 1 [] [] before =
    like_is_told 1 [] [] (nothing_shown (first_rules 1)) before (starts_told 1 (first_rules 1)) (record {
      rules = refl;
      regs = λ t r. refl;
      held = λ k. refl;
      cells = λ k. refl;
      word = λ s. refl;
      content = λ s h. refl;
      usable = λ s h. absurd (omega (arith, h));
      plain = λ s h. absurd (omega (arith, h));
    }) in
    let s : ℕ → Seen = λ w. record { slot = record { start = 16384; born = 0 }; found = record { 0 = w } } in
    let one = made_goes_on 1 [] [] before 0 0 0 1 (s 0) (can [] [] before start (omega arith)) (omega arith) tt
    (omega arith) refl refl refl refl refl in
    let ls = Do 0 (Alloc 0 0 1) ∷ [] in
    let ps = played_at (first_rules 1) [] 0 (Alloc 0 0 1) (Made (s 0) (usable_of 1 1)) ∷ [] in
    let two = copy_goes_on 1 ls ps made 0 0 1 (s 16777217) (can ls ps made one (omega arith)) (omega arith) (omega arith)
    refl tt refl refl in
    let ms = ls ++ Do 0 (Copy 0 1) ∷ [] in
    let qs = ps ++ played_at (first_rules 1) ls 0 (Copy 0 1) (Done (s 16777217)) ∷ [] in
    let three = free_goes_on 1 ms qs copied 0 0 (s 33554435) (can ms qs copied two (omega arith)) (omega arith) refl refl in
    let ns = ms ++ Do 0 (Free 0) ∷ [] in
    let rs = qs ++ played_at (first_rules 1) ms 0 (Free 0) (Done (s 33554435)) ∷ [] in (
      rs ++ played_at (first_rules 1) ns 0 (Reset 1) (Done (s 50331650)) ∷ [],
      gone,
      reset_goes_on 1 ns rs freed 0 1 (s 50331650) (can ns rs freed three (omega arith)) (omega arith) refl refl,
    )
