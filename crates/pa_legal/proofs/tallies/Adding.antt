-- A tally of steps is that of the slots that are live or quarantined after them.
use Rattle.std.proofs.Common.{◌≡◌, ◌≢◌, ℕ, ◌+◌, ◌*◌, Bool, true, false, ◌&&◌, cond, List, [], ◌∷◌, map, filter, refl, sym, ◌∙◌, ap, subst, arith}
use Rattle.std.specs.Prelude.{Contains, AllPairs, count_by, ◌==◌}
use Rattle.std.specs.List.{AllZip}
use Rattle.std.proofs.Math.Nat.{add-mul}
use Rattle.std.proofs.lemmas.Bool.{and_parts, and_from, eqb-true, eq-eqb, false≢true}
use Rattle.std.proofs.lemmas.List.Kept.{AllPairs-filter}
use Rattle.pa_slot.specs.declared.word.SlotName.{SlotName}
use Rattle.pa_slot.specs.declared.word.Step.{Step}
use Rattle.pa_slot.specs.Run.{Mark, Slots, IsRunFrom, IsLive, IsQuarantined}
use Rattle.pa_record.specs.declared.pool.PoolEntry.{PoolEntry}
use Rattle.pa_record.specs.declared.report.Tally.{Tally}
use Rattle.pa_lists.proofs.Members.{first_in, later_in}
use Rattle.pa_lists.proofs.Joined.{map_cases, map_in, filter_cases, filter_in}
use Rattle.pa_rules.specs.declared.played.Played.{Played}
use Rattle.pa_rules.specs.Played.{marks_of}
use Rattle.pa_rules.specs.Roots.{Journals, AreRoots, IsPoolOf}
use Rattle.pa_rules.specs.Report.{HasSize, HasWord, last_word, AreSlots, IsTally}
use Rattle.pa_rules.specs.Flow.{steps_so}
use Rattle.pa_rules.proofs.Running.{OtherRecord, Balances, one_if, run_levels, marks_differ}
use Rattle.pa_rules.proofs.FourPlaces.{one_word}
use Rattle.pa_rules.proofs.Totals.{total, total_add, total_same, total_ones}
use Rattle.pa_slot.specs.Kinds.{issues, frees, enters, leaves}
use Rattle.pa_legal.specs.Tallies.{weight_of, AreHomes, IsLeft, WentIn, TalliesFollow}
use Rattle.pa_legal.proofs.Titling.{one_size}
use Rattle.pa_legal.proofs.tallies.Levels.{is_live, live_balances, live_is, is_live_of, is_quarantined, quarantined_balances, quarantined_is, is_quarantined_of}
use Rattle.pa_legal.proofs.tallies.Sums.{distinct, in_distinct, distinct_in, distinct_once, total_sum, total_filter, slot_weight, weight_times, over_names}

abbrev slot_at : Mark → SlotName
slot_at m = m.slot

-- what a test of words and the steps across it give
record IsLevel (P : ℕ → Type 0) (up down : Step → ℕ → Bool) (test : ℕ → Bool) : Type 0 where
  balances : Balances up down (λ w. one_if (test w))
  first : test 0 ≡ false
  is : (w : ℕ) → test w ≡ true → P w
  of : (w : ℕ) → P w → test w ≡ true

module _ (P : ℕ → Type 0) (up down : Step → ℕ → Bool) (test : ℕ → Bool) (level : IsLevel P up down test) (xs : List Played)
    (lines : AllPairs OtherRecord xs) (slots : Slots (marks_of xs)) where
  abbrev word : SlotName → ℕ
  word s = last_word 0 (slots s).0

  has_word : (s : SlotName) → HasWord xs s (last_word 0 (slots s).0)
  has_word s = ((slots s).0, (slots s).1, refl)

  -- a slot without a mark has the word 0
  marked_slot : (s : SlotName) → test (last_word 0 (slots s).0) ≡ true → Contains (map slot_at (marks_of xs)) s
  marked_slot s passes = by_run (slots s).0 (slots s).1 passes
    where
      by_run : (vs : List ℕ) → IsRunFrom (marks_of xs) s 0 vs → test (last_word 0 vs) ≡ true → Contains (map slot_at (marks_of xs)) s
      by_run [] run passes' = absurd (false≢true (sym level.first ∙ passes'))
      by_run (v ∷ vs) (m, p, at, can, is, rest) passes' =
          subst (λ z. Contains (map slot_at (marks_of xs)) z) at.slot (map_in slot_at (marks_of xs) m at.among)

  -- what a slot's steps weigh, by its word
  slot_levels : (s : SlotName) (c : ℕ) →
      cond {A = ℕ} (test (last_word 0 (slots s).0)) c 0 + slot_weight down s c (marks_of xs) ≡ slot_weight up s c (marks_of xs)
  slot_levels s c =
      let ms = marks_of xs in
      let (vs, run, one) = slots s in
      let levels = run_levels up down (λ w. one_if (test w)) level.balances ms s (slots s).0 (marks_differ xs lines) (slots s).1
      (slots s).2 in
      let start : one_if (test 0) ≡ 0 = ap one_if level.first in
      let even : count_by (steps_so up s) ms ≡ count_by (steps_so down s) ms + one_if (test (last_word 0 (slots s).0)) = omega arith in
      let a = weight_times up s c ms in
      let b = weight_times down s c ms in
      let d : count_by (steps_so up s) ms * c ≡ (count_by (steps_so down s) ms + one_if (test (last_word 0 (slots s).0))) * c =
      ap (λ n. n * c) even in
      let e = add-mul (count_by (steps_so down s) ms) (one_if (test (last_word 0 (slots s).0))) c in
      let f : one_if (test (last_word 0 (slots s).0)) * c ≡ cond {A = ℕ} (test (last_word 0 (slots s).0)) c 0 =
      once_times (test (last_word 0 (slots s).0)) in
      omega arith
    where
      once_times : (b : Bool) → one_if b * c ≡ cond {A = ℕ} b c 0
      once_times true = omega arith
      once_times false = omega arith

  module _ (p : ℕ) (home size : SlotName → ℕ) where
    abbrev names : List SlotName
    names = distinct (map slot_at (marks_of xs))

    abbrev passes : SlotName → Bool
    passes s = (home s == p) && test (last_word 0 (slots s).0)

    -- the slots that pass weigh what went in and didn't go out
    weighs : (g : SlotName → ℕ) → total g (filter passes names) + weight_of down (λ s. cond {A = ℕ} (home s == p) (g s) 0) (marks_of xs) ≡
        weight_of up (λ s. cond {A = ℕ} (home s == p) (g s) 0) (marks_of xs)
    weighs g =
        let ms = marks_of xs in
        let once = distinct_once (map slot_at (marks_of xs)) in
        let inside : (m : Mark) → Contains ms m → Contains (distinct (map slot_at (marks_of xs))) m.slot =
        λ m among. distinct_in (map slot_at ms) m.slot (map_in slot_at ms m among) in
        let a = total_filter passes g names in
        let b = total_same (λ s. cond {A = ℕ} (passes s) (g s) 0)
        (λ s. cond {A = ℕ} (test (last_word 0 (slots s).0)) (cond {A = ℕ} (home s == p) (g s) 0) 0) names
        (λ s among. turned (home s == p) (test (last_word 0 (slots s).0)) (g s)) in
        let c = total_add (λ s. cond {A = ℕ} (test (last_word 0 (slots s).0)) (cond {A = ℕ} (home s == p) (g s) 0) 0)
        (λ s. slot_weight down s (cond {A = ℕ} (home s == p) (g s) 0) ms) names in
        let d = total_same (λ s. cond {A = ℕ} (test (last_word 0 (slots s).0)) (cond {A = ℕ} (home s == p) (g s) 0) 0 + slot_weight down s
        (cond {A = ℕ} (home s == p) (g s) 0) ms)
        (λ s. slot_weight up s (cond {A = ℕ} (home s == p) (g s) 0) ms) names
        (λ s among. slot_levels s (cond {A = ℕ} (home s == p) (g s) 0)) in
        let e = over_names up (λ s. cond {A = ℕ} (home s == p) (g s) 0) names ms once inside in
        let f = over_names down (λ s. cond {A = ℕ} (home s == p) (g s) 0) names ms once inside in
        omega arith
      where
        turned : (a b : Bool) (n : ℕ) → cond {A = ℕ} (a && b) n 0 ≡ cond {A = ℕ} b (cond {A = ℕ} a n 0) 0
        turned true true n = refl
        turned true false n = refl
        turned false true n = refl
        turned false false n = refl

    -- the marks remove no more than they add, in slots and in bytes
    went_in : WentIn up down home size p (marks_of xs)
    went_in =
        let ones = weighs (λ s. 1) in
        let bytes = weighs size in
        record { slots = omega arith; bytes = omega arith }

    module _ (supers partitions : ℕ) (ps : List Played) (pools : List PoolEntry) (roots : Journals) (tally : Tally)
        (r : AreRoots partitions ps pools roots) (h : IsPoolOf supers ps pools roots) (homes : AreHomes roots home size (marks_of xs))
        (left : IsLeft up down home size p (marks_of xs) tally) where
      -- its size
      sized_here : (s : SlotName) → Contains (map slot_at (marks_of xs)) s → HasSize roots (home s) s (size s)
      sized_here s among =
          let (m, member, is) = map_cases slot_at (marks_of xs) s among in
          subst (λ z. HasSize roots (home z) z (size z)) is (homes m member)

      passing : (s : SlotName) → Contains (filter passes names) s → HasSize roots p s (size s) × (test (last_word 0 (slots s).0) ≡ true)
      passing s among =
          let (there, hit) = filter_cases passes names s among in
          let (here, so) = and_parts (home s == p) (test (last_word 0 (slots s).0)) hit in (
            subst (λ q. HasSize roots q s (size s)) (eqb-true (home s) p here)
                (sized_here s (in_distinct (map slot_at (marks_of xs)) s there)),
            so,
          )

      all_sized : (ss : List SlotName) → ((s : SlotName) → Contains ss s → HasSize roots p s (size s)) →
          AllZip (HasSize roots p) ss (map size ss)
      all_sized [] each = tt
      all_sized (s ∷ ss) each = (each s (first_in s ss), all_sized ss (λ t among. each t (later_in s t ss among)))

      are_slots : AreSlots P roots xs p (filter passes names) (map size (filter passes names))
      are_slots = record {
        once = AllPairs-filter (λ (s t : SlotName). s ≢ t) passes names (distinct_once (map slot_at (marks_of xs)));
        all = λ s. (
          λ among. let (sized, so) = passing s among in
              (size s, last_word 0 (slots s).0, sized, has_word s, level.is (last_word 0 (slots s).0) so),
          λ (len, w, sized, has, is).
              let same = one_word xs s w (last_word 0 (slots s).0) lines has (has_word s) in
              let so : test (last_word 0 (slots s).0) ≡ true = level.of (last_word 0 (slots s).0) (subst P same is) in
              let there = marked_slot s so in
              let here = (one_size supers partitions ps pools roots r h s (home s) p (size s) len (sized_here s there) sized).0 in
              filter_in passes names s (distinct_in (map slot_at (marks_of xs)) s there)
              (and_from (home s == p) (test (last_word 0 (slots s).0)) (eq-eqb (home s) p here) so),
        );
        sized = all_sized (filter passes names) (λ s among. (passing s among).0);
      }

      tally_is : IsTally P roots xs p tally
      tally_is =
          let ones = weighs (λ s. 1) in
          let bytes = weighs size in
          let a = left.slots in
          let b = left.bytes in
          let c = total_ones (filter passes names) in
          let d = total_sum size (filter passes names) in
          (filter passes names, map size (filter passes names), are_slots, omega arith, omega arith)

live_level : IsLevel IsLive issues frees is_live
live_level = record { balances = live_balances; first = refl; is = live_is; of = is_live_of }

quarantined_level : IsLevel IsQuarantined enters leaves is_quarantined
quarantined_level = record { balances = quarantined_balances; first = refl; is = quarantined_is; of = is_quarantined_of }

pub tallies_follow : TalliesFollow
tallies_follow = record {
  live = λ supers partitions p ps xs pools roots home size tally given homes left.
      tally_is IsLive issues frees is_live live_level xs given.lines given.slots p home size supers partitions ps pools roots tally
      given.journals given.pool homes left;
  quarantined = λ supers partitions p ps xs pools roots home size tally given homes left.
      tally_is IsQuarantined enters leaves is_quarantined quarantined_level xs given.lines given.slots p home size supers partitions ps
      pools roots tally given.journals given.pool homes left;
  freed = λ supers partitions p ps xs pools roots home size given. went_in IsLive issues frees is_live live_level xs given.lines given.slots
      p home size;
  left = λ supers partitions p ps xs pools roots home size given.
      went_in IsQuarantined enters leaves is_quarantined quarantined_level xs given.lines given.slots p home size;
}
