-- The report of a written run: which of its slots have words of a kind.
use Rattle.std.proofs.Common.{◌≡◌, ◌≢◌, ℕ, Bool, true, false, not, eqb, List, [], ◌∷◌, map, Option, Some, None, refl, ◌∙◌, subst, filter, inl, inr}
use Rattle.std.specs.Prelude.{Contains, AllPairs, find}
use Rattle.std.specs.List.{AllZip}
use Rattle.std.proofs.lemmas.Bool.{eq-eqb, not-true, both_ways}
use Rattle.pa_slot.specs.declared.word.SlotName.{SlotName}
use Rattle.pa_slot.specs.Run.{Mark, same_slot}
use Rattle.pa_slot.proofs.Runs.{same_slot_yes, same_slot_eq}
use Rattle.pa_lists.proofs.Members.{find_is, in_cases, not_in_none}
use Rattle.pa_lists.proofs.Joined.{map_cases, map_in, filter_cases, filter_in}
use Rattle.pa_rules.specs.declared.played.Played.{Played}
use Rattle.pa_rules.specs.Played.{marks_of}
use Rattle.pa_rules.specs.Roots.{Journals}
use Rattle.pa_rules.specs.Report.{HasSize, last_word, HasWord, AreSlots}
use Rattle.pa_rules.proofs.Running.{OtherLine, one_run}
use Rattle.pa_examples.proofs.worked.Lists.{all_pairs, pairs_pass}
use Rattle.pa_examples.proofs.worked.Slots.{Worded, is_named, are_worded, worded_run, run_at}

-- marks that have other lines
pub other_lines : (ms : List Mark) → all_pairs (λ (m : Mark) (n : Mark). not (eqb m.line n.line)) ms ≡ true → AllPairs OtherLine ms
other_lines ms h = pairs_pass OtherLine (λ (m : Mark) (n : Mark). not (eqb m.line n.line))
    (λ m n other same. both_ways _ (not-true _ other) (eq-eqb m.line n.line same)) ms h

-- the slots with a last word that passes a test
abbrev pub passing : (ℕ → Bool) → Worded → Bool
passing test n = test (last_word 0 n.words)

abbrev pub slots_passing : (ℕ → Bool) → List Worded → List SlotName
slots_passing test named = map (λ (n : Worded). n.slot) (filter (passing test) named)

sized_in : (roots : Journals) (p : ℕ) (ss : List SlotName) (sizes : List ℕ) (s : SlotName) → AllZip (HasSize roots p) ss sizes →
    Contains ss s → (len : ℕ) × HasSize roots p s len
sized_in roots p [] [] s h among = absurd (not_in_none s among)
sized_in roots p [] (len ∷ sizes) s h among = absurd h
sized_in roots p (t ∷ ss) [] s h among = absurd h
sized_in roots p (t ∷ ss) (len ∷ sizes) s (here, rest) among = elim (in_cases t s ss among) [
  | inl e ↦ (len, subst (λ z. HasSize roots p z len) e here)
  | inr among' ↦ sized_in roots p ss sizes s rest among'
]

module _ (P : ℕ → Type 0) (test : ℕ → Bool) (says : (w : ℕ) → test w ≡ true → P w) (from : (w : ℕ) → P w → test w ≡ true)
    (zero_fails : test 0 ≡ false)
    (roots : Journals) (ps : List Played) (p : ℕ) (named : List Worded) (sizes : List ℕ)
    (alone : AllPairs OtherLine (marks_of ps)) (worded : are_worded (marks_of ps) named ≡ true) where
  into : (s : SlotName) → AllZip (HasSize roots p) (slots_passing test named) sizes → Contains (slots_passing test named) s → (len w : ℕ) ×
      HasSize roots p s len × HasWord ps s w × P w
  into s sized among =
      let (n, member, e) = map_cases (λ (n : Worded). n.slot) (filter (passing test) named) s among in
      let (member', passed) = filter_cases (passing test) named n member in
      let (len, size) = sized_in roots p (slots_passing test named) sizes s sized among in
      let run = (worded_run (marks_of ps) named n worded member').0 in
      (len, last_word 0 n.words, size, subst (λ t. HasWord ps t (last_word 0 n.words)) e (n.words, run, refl), says _ passed)

  out_of : (s : SlotName) (o : Option Worded) (w : ℕ) → find (is_named s) named ≡ o → HasWord ps s w → P w →
      Contains (slots_passing test named) s
  out_of s None w e (vs, run, last) holds =
      let none : last_word 0 vs ≡ 0 = one_run (marks_of ps) s 0 0 vs [] alone refl run (run_at (marks_of ps) named s None worded e).0 in
      absurd (both_ways (test 0) zero_fails (subst (λ v. test v ≡ true) (last ∙ none) (from w holds)))
  out_of s (Some n) w e (vs, run, last) holds =
      let same : last_word 0 vs ≡ last_word 0 n.words =
      one_run (marks_of ps) s 0 0 vs n.words alone refl run (run_at (marks_of ps) named s (Some n) worded e).0 in
      let (member, is) = find_is (is_named s) named n e in
      let kept = filter_in (passing test) named n member (subst (λ v. test v ≡ true) (last ∙ same) (from w holds)) in
      subst (λ t. Contains (slots_passing test named) t) (same_slot_eq n.slot s is)
      (map_in (λ (n : Worded). n.slot) (filter (passing test) named) n kept)

  -- they are the slots of that kind, with these sizes
  pub slots_of_kind : AllZip (HasSize roots p) (slots_passing test named) sizes →
      all_pairs (λ s t. not (same_slot s t)) (slots_passing test named) ≡ true →
      AreSlots P roots ps p (slots_passing test named) sizes
  slots_of_kind sized once = record {
    once = pairs_pass ◌≢◌ (λ s t. not (same_slot s t)) (λ s t h e. both_ways _ (not-true _ h) (same_slot_yes s t e))
        (slots_passing test named) once;
    all = λ s. (into s sized, λ h. out_of s (find (is_named s) named) h.1 refl h.3 h.4);
    sized = sized;
  }
