-- The tallies of the slots in use, by counts of the steps on slots that the journals handed out.
use Rattle.std.proofs.Common.{◌≡◌, ◌≢◌, ℕ, ◌+◌, ◌-◌, ◌<◌, Bool, true, false, List, [], ◌∷◌, filter, Option, Some, None, refl, sym, ◌∙◌, ap, subst, arith}
use Rattle.std.specs.Prelude.{◌↔◌, Contains, if◌then◌else◌, is_some}
use Rattle.std.proofs.lemmas.Bool.{false≢true, ne_eqb}
use Rattle.std.proofs.lemmas.List.Kept.{AllPairs-filter}
use Rattle.pa_slot.specs.declared.word.SlotName.{SlotName}
use Rattle.pa_slot.specs.declared.word.Step.{Step}
use Rattle.pa_slot.specs.Run.{Mark, IsFirstAt, IsLive, IsOneRun, IsQuarantined, IsRunFrom, Slots}
use Rattle.pa_record.specs.declared.pool.PoolEntry.{PoolEntry}
use Rattle.pa_record.specs.declared.report.Tally.{Tally}
use Rattle.pa_lists.proofs.Joined.{filter_cases, filter_in}
use Rattle.pa_rules.specs.declared.played.Played.{Played}
use Rattle.pa_rules.specs.Flow.{at_step}
use Rattle.pa_rules.specs.Played.{mark_of, marks_of}
use Rattle.pa_rules.specs.Report.{HasSize, HasWord, IsTally}
use Rattle.pa_rules.specs.Roots.{Journals}
use Rattle.pa_rules.proofs.Phases.{mark_in}
use Rattle.pa_rules.proofs.Running.{mark_from}
use Rattle.pa_slot.specs.Kinds.{enters, frees, issues, leaves}
use Rattle.pa_legal.specs.Tallies.{AreHomes, IsLeft, IsTallied, WentIn, bytes_of, one_of, weight_of}
use Rattle.pa_legal.proofs.tallies.Adding.{tallies_follow}
use Rattle.pa_legal.proofs.tallies.Sums.{one_weight, weight_first}
use Rattle.pa_audit_holders.specs.declared.homes.Home.{Home}
use Rattle.pa_audit_report.specs.declared.counts.InUse.{InUse}
use Rattle.pa_audit_report.specs.Counts.{IsTotal, IsUse, less_of}
use Rattle.pa_audit_holders.specs.Homes.{KnowsHomes, home_at}
use Rattle.pa_audit_report.specs.Sized.{home_in, partition_by, bytes_by, size_in}
use Rattle.pa_audit_report.proofs.Sizing.{size_known, sized_there}

-- the table has a home for the slot
abbrev homed : (ℕ → Option Home) → SlotName → Bool
homed at s = is_some (home_at at s)

-- the table has a home for the slot of a mark, if there is a mark
abbrev mark_homed : (ℕ → Option Home) → Option Mark → Bool
mark_homed at None = true
mark_homed at (Some m) = homed at m.slot

-- the table has a home for the slot that a record reports, if it reports one
abbrev keeps : (ℕ → Option Home) → Played → Bool
keeps at x = mark_homed at (mark_of x)

abbrev those : (ℕ → Option Home) → List Played → List Played
those at xs = filter (keeps at) xs

-- ---- the marks of a slot that was handed out stay

marks_stay : (at : ℕ → Option Home) (xs : List Played) (m : Mark) → homed at m.slot ≡ true →
    Contains (marks_of xs) m ↔ Contains (marks_of (those at xs)) m
marks_stay at xs m home = (
  λ among.
      let (x, member, is) = mark_from xs m among in
      let kept : keeps at x ≡ true = ap (mark_homed at) is ∙ home in
      mark_in (those at xs) x m (filter_in (keeps at) xs x member kept) is,
  λ among.
      let (x, member, is) = mark_from (those at xs) m among in
      mark_in xs x m (filter_cases (keeps at) xs x member).0 is,
)

marks_homed : (at : ℕ → Option Home) (xs : List Played) (m : Mark) → Contains (marks_of (those at xs)) m → homed at m.slot ≡ true
marks_homed at xs m among =
    let (x, member, is) = mark_from (those at xs) m among in
    sym (ap (mark_homed at) is) ∙ (filter_cases (keeps at) xs x member).1

-- two lists have the same marks of a slot
abbrev SameMarks : SlotName → List Mark → List Mark → Type 0
SameMarks s ms ns = (m : Mark) → m.slot ≡ s → Contains ms m ↔ Contains ns m

turned : (s : SlotName) (ms ns : List Mark) → SameMarks s ms ns → SameMarks s ns ms
turned s ms ns h m of = ((h m of).1, (h m of).0)

same_marks : (at : ℕ → Option Home) (xs : List Played) (s : SlotName) → homed at s ≡ true →
    SameMarks s (marks_of xs) (marks_of (those at xs))
same_marks at xs s home m of = marks_stay at xs m (ap (homed at) of ∙ home)

first_same : (ms ns : List Mark) (s : SlotName) (u : ℕ) (m : Mark) (p : Step) → SameMarks s ms ns →
    IsFirstAt ms s u m p → IsFirstAt ns s u m p
first_same ms ns s u m p h f = record {
  among = (h m f.slot).0 f.among;
  slot = f.slot;
  found = f.found;
  step = f.step;
  least = λ n among of found step. f.least n ((h n of).1 among) of found step;
}

run_same : (ms ns : List Mark) (s : SlotName) (u : ℕ) (vs : List ℕ) → SameMarks s ms ns → IsRunFrom ms s u vs → IsRunFrom ns s u vs
run_same ms ns s u [] h run = λ m p first can. run m p (first_same ns ms s u m p (turned s ms ns h) first) can
run_same ms ns s u (v ∷ vs) h (m, p, first, can, is, rest) = (m, p, first_same ms ns s u m p h first, can, is, run_same ms ns s v vs h rest)

one_same : (ms ns : List Mark) (s : SlotName) (ws : List ℕ) → SameMarks s ms ns → IsOneRun ms s ws → IsOneRun ns s ws
one_same ms ns s ws h one = record {
  found = λ m among of. one.found m ((h m of).1 among) of;
  used = λ m p among of step. let (first, can) = one.used m p ((h m of).1 among) of step in (first_same ms ns s m.found m p h first, can);
}

slots_stay : (at : ℕ → Option Home) (xs : List Played) → Slots (marks_of xs) → Slots (marks_of (those at xs))
slots_stay at xs slots s = by_home (homed at s) refl
  where
    by_home : (b : Bool) → homed at s ≡ b →
        (vs : List ℕ) × IsRunFrom (marks_of (those at xs)) s 0 vs × IsOneRun (marks_of (those at xs)) s (0 ∷ vs)
    by_home true home =
        let (vs, run, one) = slots s in
        let h = same_marks at xs s home in
        (vs, run_same (marks_of xs) (marks_of (those at xs)) s 0 vs h run, one_same (marks_of xs) (marks_of (those at xs)) s (0 ∷ vs) h one)
    by_home false away =
        let none : (m : Mark) → Contains (marks_of (those at xs)) m → m.slot ≡ s → ⊥ =
        λ m among of. false≢true (sym away ∙ ap (homed at) (sym of) ∙ marks_homed at xs m among) in (
          [],
          λ m p first can. none m first.among first.slot,
          record { found = λ m among of. absurd (none m among of); used = λ m p among of step. absurd (none m among of) },
        )

-- ---- what is left out weighs nothing

weighs_none : (test : Step → ℕ → Bool) (weight : SlotName → ℕ) (at : ℕ → Option Home) (o : Option Mark)
    → ((s : SlotName) → homed at s ≡ false → weight s ≡ 0) → mark_homed at o ≡ false → one_weight test weight o ≡ 0
weighs_none test weight at None h away = absurd (false≢true (sym away))
weighs_none test weight at (Some m) h away = by_test (at_step test m.found m.step)
  where
    by_test : (b : Bool) → (if b then weight m.slot else 0) ≡ 0
    by_test true = h m.slot away
    by_test false = refl

weight_stays : (test : Step → ℕ → Bool) (weight : SlotName → ℕ) (at : ℕ → Option Home) (xs : List Played) →
    ((s : SlotName) → homed at s ≡ false → weight s ≡ 0)
    → weight_of test weight (marks_of (those at xs)) ≡ weight_of test weight (marks_of xs)
weight_stays test weight at [] h = refl
weight_stays test weight at (x ∷ xs) h = by_keep (keeps at x) refl (weight_stays test weight at xs h)
  where
    plain : (n : ℕ) → 0 + n ≡ n
    plain n = omega arith

    by_keep : (b : Bool) → keeps at x ≡ b → weight_of test weight (marks_of (those at xs)) ≡ weight_of test weight (marks_of xs)
        → weight_of test weight (marks_of (those at (x ∷ xs))) ≡ weight_of test weight (marks_of (x ∷ xs))
    by_keep true kept again =
        let a = weight_first test weight x (those at xs) in
        let b = weight_first test weight x xs in
        let same : those at (x ∷ xs) ≡ x ∷ those at xs = rw kept refl in
        ap (λ zs. weight_of test weight (marks_of zs)) same ∙ a ∙ ap (λ n. one_weight test weight (mark_of x) + n) again ∙ sym b
    by_keep false away again =
        let b = weight_first test weight x xs in
        let none = weighs_none test weight at (mark_of x) h away in
        let same : those at (x ∷ xs) ≡ those at xs = rw away refl in
        ap (λ zs. weight_of test weight (marks_of zs)) same ∙ again ∙
        sym (b ∙ ap (λ n. n + weight_of test weight (marks_of xs)) none ∙ plain (weight_of test weight (marks_of xs)))

away_home : (at : ℕ → Option Home) (p : ℕ) (s : SlotName) → p < 4 → homed at s ≡ false → home_in at s ≢ p
away_home at p s low away same = by_size (home_at at s) refl
  where
    by_size : (o : Option Home) → home_at at s ≡ o → ⊥
    by_size None e = let four : home_in at s ≡ 4 = ap partition_by e in omega (arith, four, low, same)
    by_size (Some z) e = false≢true (sym away ∙ ap is_some e)

one_none : (at : ℕ → Option Home) (p : ℕ) → p < 4 → (s : SlotName) → homed at s ≡ false → one_of (home_in at) p s ≡ 0
one_none at p low s away = rw (ne_eqb (home_in at s) p (away_home at p s low away)) refl

bytes_none : (at : ℕ → Option Home) (p : ℕ) → p < 4 → (s : SlotName) → homed at s ≡ false → bytes_of (home_in at) (size_in at) p s ≡ 0
bytes_none at p low s away = rw (ne_eqb (home_in at s) p (away_home at p s low away)) refl

-- ---- the tally

left_is : (into out : Step → ℕ → Bool) (at : ℕ → Option Home) (p : ℕ) (xs : List Played) (a b tally : Tally) → p < 4 →
    IsTotal into at p xs a → IsTotal out at p xs b → tally ≡ less_of a b
    → WentIn into out (home_in at) (size_in at) p (marks_of (those at xs)) →
    IsLeft into out (home_in at) (size_in at) p (marks_of (those at xs)) tally
left_is into out at p xs a b tally low x y is went =
    let s1 = weight_stays into (one_of (home_in at) p) at xs (one_none at p low) in
    let s2 = weight_stays out (one_of (home_in at) p) at xs (one_none at p low) in
    let b1 = weight_stays into (bytes_of (home_in at) (size_in at) p) at xs (bytes_none at p low) in
    let b2 = weight_stays out (bytes_of (home_in at) (size_in at) p) at xs (bytes_none at p low) in
    let f = went.slots in
    let g = went.bytes in
    let e : tally.slots ≡ a.slots - b.slots = ap (λ (t : Tally). t.slots) is in
    let d : tally.bytes ≡ a.bytes - b.bytes = ap (λ (t : Tally). t.bytes) is in
    let xs1 = x.slots in let xs2 = y.slots in let xb1 = x.bytes in let xb2 = y.bytes in
    record { slots = omega (arith, s1, s2, f, e, xs1, xs2); bytes = omega (arith, b1, b2, g, d, xb1, xb2) }

module _ (supers partitions p : ℕ) (ps xs : List Played) (pools : List PoolEntry) (roots : Journals) (at : ℕ → Option Home)
    (knows : KnowsHomes roots at) (given : IsTallied supers partitions ps xs pools roots) where
  tallied : IsTallied supers partitions ps (those at xs) pools roots
  tallied = record {
    journals = given.journals;
    pool = given.pool;
    lines = AllPairs-filter (λ (x y : Played). x.line ≢ y.line) (keeps at) xs given.lines;
    slots = slots_stay at xs given.slots;
  }

  homes : AreHomes roots (home_in at) (size_in at) (marks_of (those at xs))
  homes m among = by_size (home_at at m.slot) refl
    where
      by_size : (o : Option Home) → home_at at m.slot ≡ o → HasSize roots (home_in at m.slot) m.slot (size_in at m.slot)
      by_size None e = absurd (false≢true (sym (ap is_some e) ∙ marks_homed at xs m among))
      by_size (Some z) e =
          let sized = sized_there roots at m.slot z knows e in
          subst (λ k. HasSize roots k m.slot (size_in at m.slot)) (sym (ap partition_by e))
          (subst (λ k. HasSize roots z.partition m.slot k) (sym (ap bytes_by e)) sized)

  word_stays : (s : SlotName) (len w : ℕ) → HasSize roots p s len → HasWord (those at xs) s w ↔ HasWord xs s w
  word_stays s len w size =
      let (z, there) = size_known roots at p s len knows size in
      let h = same_marks at xs s (ap is_some there) in (
        λ (vs, run, is). (
          vs,
          run_same (marks_of (those at xs)) (marks_of xs) s 0 vs
              (turned s (marks_of xs) (marks_of (those at xs)) h) run,
          is,
        ),
        λ (vs, run, is). (vs, run_same (marks_of xs) (marks_of (those at xs)) s 0 vs h run, is),
      )

  tally_stays : (P : ℕ → Type 0) (tally : Tally) → IsTally P roots (those at xs) p tally → IsTally P roots xs p tally
  tally_stays P tally (slots, sizes, are, count, bytes) = (
    slots,
    sizes,
    record {
      once = are.once;
      all = λ s. (
        λ among. let (len, w, size, word, is) = (are.all s).0 among in (len, w, size, (word_stays s len w size).0 word, is),
        λ (len, w, size, word, is). (are.all s).1 (len, w, size, (word_stays s len w size).1 word, is),
      );
      sized = are.sized;
    },
    count,
    bytes,
  )

  pub live_is : (u : InUse) → p < 4 → IsUse at p xs u → IsTally IsLive roots xs p u.live
  live_is u low h = tally_stays IsLive u.live
      (tallies_follow.live supers partitions p ps (those at xs) pools roots (home_in at) (size_in at) u.live tallied homes
      (left_is issues frees at p xs h.count.issued h.count.freed u.live low h.counted.issued h.counted.freed h.live
      (tallies_follow.freed supers partitions p ps (those at xs) pools roots (home_in at) (size_in at) tallied)))

  pub quarantined_is : (u : InUse) → p < 4 → IsUse at p xs u → IsTally IsQuarantined roots xs p u.quarantined
  quarantined_is u low h = tally_stays IsQuarantined u.quarantined
      (tallies_follow.quarantined supers partitions p ps (those at xs) pools roots (home_in at) (size_in at) u.quarantined tallied homes
      (left_is enters leaves at p xs h.count.entered h.count.left u.quarantined low h.counted.entered h.counted.left h.quarantined
      (tallies_follow.left supers partitions p ps (those at xs) pools roots (home_in at) (size_in at) tallied)))
