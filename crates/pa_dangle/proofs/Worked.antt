-- The marks that were worked out: each finds the word that those before it left, so each slot has one run, and the law says the rest.
use Rattle.std.proofs.Common.{◌≡◌, ◌≢◌, ℕ, ◌+◌, ◌<◌, List, [], ◌∷◌, ◌++◌, Option, Some, None, refl, sym, ◌∙◌, ap, subst, arith, inl, inr, lit<, lit≤, append_assoc, append-nil, cond, drop}
use Rattle.std.specs.Prelude.{Contains}
use Rattle.std.specs.List.{AllByRecursion}
use Rattle.std.proofs.lemmas.List.Elements.{All-from_recursion, All-contains, Contains-push_cases}
use Rattle.pa_slot.specs.declared.word.SlotName.{SlotName}
use Rattle.pa_slot.specs.declared.word.Step.{Step}
use Rattle.pa_slot.specs.declared.word.Step.TheVariants.{Free}
use Rattle.pa_slot.specs.Count.{CanStep, stepped, refs_of}
use Rattle.pa_slot.specs.Run.{Mark, Slots, IsQuarantined, same_slot}
use Rattle.pa_slot.specs.Runs.{HasRuns}
use Rattle.pa_slot.proofs.Runs.{runs_none, runs_same, runs_look, runs_step, slots_of_runs, same_slot_yes, same_slot_no, same_slot_cases}
use Rattle.pa_lists.proofs.Members.{not_in_none, in_cases}
use Rattle.pa_lists.proofs.Pairs.{pairs_none, pairs_cons}
use Rattle.pa_dangle.specs.Uses.{IsUseOf, OwnLines}
use Rattle.pa_dangle.specs.Worked.{worked_marks, WorkedUses, kept_free, read_after, last_reset, early_look, next_look}
use Rattle.pa_dangle.proofs.Pairing.{quarantined_used, used_quarantined}

abbrev Words : Type 0
Words = SlotName → ℕ

-- the words after a mark, which is of a later line and finds its slot's word
abbrev word_after : Mark → Option Step → ℕ
word_after m None = m.found
word_after m (Some p) = stepped p m.found

abbrev words_after : Words → Mark → Words
words_after word m s = cond (same_slot s m.slot) (word_after m m.step) (word s)

abbrev MayStep : ℕ → Option Step → Type 0
MayStep w None = Unit {0}
MayStep w (Some p) = CanStep p w

abbrev Follow : ℕ → Words → List Mark → Type 0
Follow line word [] = Unit {0}
Follow line word (m ∷ ms) = (line < m.line) × (m.found ≡ word m.slot) × MayStep m.found m.step × Follow m.line (words_after word m) ms

abbrev Rise : ℕ → List Mark → Type 0
Rise line [] = Unit {0}
Rise line (m ∷ ms) = (line < m.line) × Rise m.line ms

above : (line : ℕ) (ms : List Mark) → Rise line ms → (k : Mark) → Contains ms k → line < k.line
above line [] rise k among = absurd (not_in_none k among)
above line (m ∷ ms) (less, rest) k among = elim (in_cases m k ms among) [
  | inl same ↦ let at : m.line ≡ k.line = ap (λ (z : Mark). z.line) same in omega arith
  | inr later ↦ let low = above m.line ms rest k later in omega arith
]

rises_differ : (line : ℕ) (ms : List Mark) → Rise line ms → OwnLines ms
rises_differ line [] rise = pairs_none (λ (m : Mark) (n : Mark). m.line ≢ n.line)
rises_differ line (m ∷ ms) (less, rest) =
    pairs_cons (λ (m : Mark) (n : Mark). m.line ≢ n.line) m ms (λ k among e. let low = above m.line ms rest k among in omega arith)
    (rises_differ m.line ms rest)

-- one mark more
goes : (m : Mark) (o : Option Step) → m.step ≡ o → (ms : List Mark) (word : Words) → ((k : Mark) → Contains ms k → k.line < m.line) →
    m.found ≡ word m.slot → MayStep m.found o → HasRuns ms word →
    HasRuns (ms ++ m ∷ []) (λ s. cond (same_slot s m.slot) (word_after m o) (word s))
goes m None e ms word early found can h = runs_same (ms ++ m ∷ []) word (λ s. cond (same_slot s m.slot) m.found (word s))
    (λ s. elim (same_slot_cases s m.slot) [
      | inl same ↦ rw (same_slot_yes s m.slot same) (found ∙ ap word (sym same))
      | inr not ↦ rw (same_slot_no s m.slot not) refl
    ])
    (runs_look ms m word early found e h)
goes m (Some p) e ms word early found can h =
    runs_step ms m p word (λ s. cond (same_slot s m.slot) (stepped p m.found) (word s)) early found e can
    (rw (same_slot_yes m.slot m.slot refl) refl)
    (λ s not. rw (same_slot_no s m.slot not) refl) h

follow : (line : ℕ) (word : Words) (before ms : List Mark) → ((k : Mark) → Contains before k → k.line < line + 1) → HasRuns before word →
    Follow line word ms → Slots (before ++ ms)
follow line word before [] early h f = subst Slots (sym (append-nil before)) (slots_of_runs before word h)
follow line word before (m ∷ ms) early h (less, found, may, rest) =
    subst Slots (append_assoc before (m ∷ []) ms)
    (follow m.line (words_after word m) (before ++ m ∷ []) ms
    (λ k among. elim (Contains-push_cases before m k among) [
      | inl old ↦ let low = early k old in omega arith
      | inr same ↦ let at : m.line ≡ k.line = ap (λ (z : Mark). z.line) same in omega arith
    ])
    (goes m m.step refl before word (λ k among. let low = early k among in omega arith) found may h) rest)

slots : Slots worked_marks
slots = follow 0 (λ s. 0) [] worked_marks (λ k among. absurd (not_in_none k among)) (runs_none (λ s. 0) (λ s. refl)) (
  lit< tt,
  refl,
  ((refl, refl), lit< tt, tt),
  (
    lit< tt,
    refl,
    (lit< tt, lit< tt, lit< tt),
    (
      lit< tt,
      refl,
      tt,
      (
        lit< tt,
        refl,
        (refl, lit< tt, tt),
        (
          lit< tt,
          refl,
          tt,
          (
            lit< tt,
            refl,
            (lit≤ tt, lit< tt, tt),
            (lit< tt, refl, ((refl, refl), lit< tt, tt), (lit< tt, refl, tt, (lit< tt, refl, (refl, lit< tt, tt), tt))),
          ),
        ),
      ),
    ),
  ),
)

lines : OwnLines worked_marks
lines = rises_differ 0 worked_marks (lit< tt, (lit< tt, (lit< tt, (lit< tt, (lit< tt, (lit< tt, (lit< tt, (lit< tt, (lit< tt, tt)))))))))

-- the one free that found a raw_ptr
only_free : (f : Mark) → Contains worked_marks f → f.step ≡ Some Free → 0 < refs_of f.found → f ≡ kept_free
only_free f among = All-contains (λ (z : Mark). z.step ≡ Some Free → 0 < refs_of z.found → z ≡ kept_free) worked_marks f
    (All-from_recursion (λ (z : Mark). z.step ≡ Some Free → 0 < refs_of z.found → z ≡ kept_free) worked_marks
    ((λ e r. absurd cc), ((λ e r. absurd cc), ((λ e r. absurd cc), ((λ e r. refl), after))))) among
  where
    after : AllByRecursion (λ (z : Mark). z.step ≡ Some Free → 0 < refs_of z.found → z ≡ kept_free) (drop 4 worked_marks)
    after = ((λ e r. absurd cc), ((λ e r. absurd cc), ((λ e r. absurd cc), ((λ e r. absurd cc), ((λ e r. absurd (omega arith)), tt)))))

of_kept : (u : Mark) → Contains worked_marks u → IsQuarantined u.found → IsUseOf worked_marks kept_free u
of_kept u among q =
    let (f, is) = quarantined_used worked_marks u slots lines among q in
    subst (λ z. IsUseOf worked_marks z u) (only_free f is.freed is.kept.step is.kept.refs) is

pub worked_uses : WorkedUses
worked_uses = record {
  slots = slots;
  lines = lines;
  read = of_kept read_after (4, lit< tt, refl) (refl, lit< tt);
  reset = of_kept last_reset (5, lit< tt, refl) (refl, lit< tt);
  early = λ f is. let q = used_quarantined worked_marks f early_look slots lines is in absurd (omega arith);
  next = λ f is. let q = used_quarantined worked_marks f next_look slots lines is in absurd (omega arith);
  plain = λ u is. let low = is.kept.refs in absurd (omega arith);
}
