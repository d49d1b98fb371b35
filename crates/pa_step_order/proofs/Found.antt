-- A look or a counted step finds as many counted steps of its slot before it as its number says: in the order of the logs, and phase by
-- phase.
use Rattle.std.proofs.Common.{◌≡◌, ℕ, ◌+◌, ◌≤◌, ◌&&◌, cond, Bool, true, false, List, [], ◌∷◌, ◌++◌, map, Option, Some, None, if◌then◌else◌, refl, sym, ◌∙◌, ap, subst, arith, inl, inr, ◌⊎◌, append_assoc}
use Rattle.std.specs.Prelude.{Contains, AllPairs, is_some, nat_lt, count_by}
use Rattle.std.specs.List.{sum_by}
use Rattle.std.proofs.lemmas.Bool.{cases_Bool, lt-ltb, le-ltb}
use Rattle.std.proofs.lemmas.List.{map-append}
use Rattle.std.proofs.lemmas.List.Elements.{Contains-append_left}
use Rattle.std.proofs.lemmas.List.Sums.{sum_by-cons}
use Rattle.pa_slot.specs.declared.title.Title.{Title}
use Rattle.pa_slot.specs.declared.word.SlotName.{SlotName}
use Rattle.pa_slot.specs.Count.{number_of}
use Rattle.pa_slot.specs.Run.{Mark, same_slot}
use Rattle.pa_slot.proofs.Runs.{same_slot_cases, same_slot_yes, same_slot_no}
use Rattle.pa_region.specs.declared.view.Entry.{Entry}
use Rattle.pa_region.specs.Views.{counted_on}
use Rattle.pa_region.specs.Order.{Stamped, steps_on, Touches}
use Rattle.pa_region.proofs.Adding.{sum_map}
use Rattle.pa_lists.proofs.Members.{first_in, later_in}
use Rattle.pa_lists.proofs.Elements.{in_front, in_middle}
use Rattle.pa_lists.proofs.Pairs.{pairs_head}
use Rattle.pa_lists.proofs.Parts.{parts_at, map_parts, pairs_across, pairs_after}
use Rattle.pa_lists.proofs.Cuts.{pairs_cuts}
use Rattle.pa_rules.specs.declared.played.Played.{Played}
use Rattle.pa_rules.specs.Played.{mark_of}
use Rattle.pa_rules.specs.Roots.{Journals}
use Rattle.pa_rules.specs.Seen.{left_number}
use Rattle.pa_rules.specs.Flow.{IsInPhases}
use Rattle.pa_timeline.specs.Timeline.{Part, Counting, Moment, IsTouch, is_of_slot, is_counted_on, counted_steps}
use Rattle.pa_timeline.proofs.Kept.{none_or_some, kept_cut, count_cons, count_append, count_before}
use Rattle.pa_timeline.proofs.Places.{moment}
use Rattle.pa_logs.specs.Told.{ToldRecord, played_in}
use Rattle.pa_logs.specs.Touches.{title_of, AreTold}
use Rattle.pa_step_order.specs.Segments.{part_of}
use Rattle.pa_step_order.proofs.Named.{Named, AreNamed, named_in}
use Rattle.pa_step_order.proofs.Looks.{touch_of, is_counting, counts_as}
use Rattle.pa_step_order.proofs.Moments.{moment_of, moments_in, phase_at, by_phases, moment_from, step_of, of_records}
use Rattle.pa_step_order.proofs.Sorting.{sorted_from, sorted_sum, sorted_pairs}

-- Each counted step and look finds the number of counted steps of its title before it, as the rule says.
abbrev pub IsFound : List Stamped → Type 0
IsFound all =
    (before after : List Stamped) (m : Stamped) (t : Title) (word : ℕ) → all ≡ before ++ m ∷ after → Touches m.entry t word →
    number_of word ≡ steps_on t before

module _ (sizes : SlotName → ℕ) (ts : List ToldRecord) (told : AreTold sizes ts) (all : List Stamped) (ns : List Named)
    (are : AreNamed ts all ns) (roots : Journals) where
  -- ---- counted steps among entries and among moments

  steps_counted : (s : SlotName) (bs : List Named) → ((n : Named) → Contains bs n → Contains ns n) →
      sum_by (λ (n : Named). counted_on (title_of sizes s) n.entry) bs ≡ counted_steps s (moments_in roots bs)
  steps_counted s [] within = refl
  steps_counted s (n ∷ bs) within =
      let (record_in, inside) = named_in ts all ns are n (within n (first_in n bs)) in
      let a = sum_by-cons (λ (z : Named). counted_on (title_of sizes s) z.entry) n bs in
      let here = counts_as sizes n.x (told n.x record_in) roots s n.entry inside in
      let again = steps_counted s bs (λ z among. within z (later_in n z bs among)) in
      elim (none_or_some (part_of roots n.x.played.answer n.entry)) [
        | inl none ↦
            let zero : counted_on (title_of sizes s) n.entry ≡ 0 = rw none at here in
            rw none (omega arith)
        | inr (part, some) ↦
            let one : counted_on (title_of sizes s) n.entry ≡ cond {A = ℕ} (is_counted_on s n.x.played part) 1 0 = rw some at here in
            let b = count_cons (λ (m : Moment). is_counted_on s m.x m.part) (moment n.x.played part) (moments_in roots bs) in
            rw some (omega arith)
      ]

  -- ---- in the order of the logs

  -- what a moment that touches its slot says of its mark
  touch_at : (m : Moment) (k : Mark) → Contains (moments_in roots ns) m → IsTouch m.part → mark_of m.x ≡ Some k →
      is_some k.step ≡ is_counting m.part
  touch_at m k among touch marked =
      let (n, there, is) = step_of ts all ns are roots m among in
      let (record_in, inside) = named_in ts all ns are n there in
      let (played, part) = moment_from roots n m is in
      (touch_of sizes n.x (told n.x record_in) roots n.entry m.part k inside part touch (ap mark_of (sym played) ∙ marked)).step

  module _ (rule : IsFound all) where
    pub found_in_logs : (us vs : List Moment) (m : Moment) (k : Mark) → moments_in roots ns ≡ us ++ m ∷ vs → IsTouch m.part →
        mark_of m.x ≡ Some k →
        number_of k.found ≡ counted_steps k.slot us
    found_in_logs us vs m k cut touch marked =
        let (before, n, after, parts, is, left) = kept_cut (moment_of roots) ns us vs m cut in
        let there : Contains ns n = in_middle before after ns n parts in
        let (record_in, inside) = named_in ts all ns are n there in
        let (played, part) = moment_from roots n m is in
        let found = (touch_of sizes n.x (told n.x record_in) roots n.entry m.part k inside part touch
        (ap mark_of (sym played) ∙ marked)).found in
        let entry : Named → Entry = λ z. z.entry in
        let stamped : Stamped → Entry = λ z. z.entry in
        let entries : map stamped all ≡ map entry before ++ n.entry ∷ map entry after = sym are.entries ∙ ap (map entry) parts ∙
        map-append entry before (n ∷ after) in
        let (front, m', back, whole, same, at) = map_parts stamped all (map entry before) n.entry (map entry after) entries in
        let t = title_of sizes k.slot in
        let number : number_of k.found ≡ steps_on t front =
        rule front back m' t k.found whole (subst (λ e. Touches e t k.found) (sym at) found) in
        let weigh : steps_on t front ≡ sum_by (λ (z : Named). counted_on t z.entry) before =
        sym (sum_map (counted_on t) stamped front) ∙ ap (sum_by (counted_on t)) same ∙ sum_map (counted_on t) entry before in
        number ∙ weigh ∙ steps_counted k.slot before (λ z among. in_front before (n ∷ after) ns z parts among) ∙
        ap (counted_steps k.slot) left

    -- ---- each two touches of a slot

    abbrev Follows : Moment → Moment → Type 0
    Follows m n = (k l : Mark) → IsTouch m.part → IsTouch n.part → mark_of m.x ≡ Some k → mark_of n.x ≡ Some l → k.slot ≡ l.slot →
        left_number k ≤ number_of l.found

    -- what one step more is
    one_counted : (m : Moment) (k : Mark) → IsTouch m.part → mark_of m.x ≡ Some k → is_some k.step ≡ is_counting m.part →
        cond {A = ℕ} (is_counted_on k.slot m.x m.part) 1 0 ≡ (if is_some k.step then 1 else 0)
    one_counted m k (inl looks) marked step =
        let none : is_some k.step ≡ false = step ∙ ap is_counting looks in
        ap (λ p. cond {A = ℕ} (is_counted_on k.slot m.x p) 1 0) looks ∙ sym (ap (λ b. if b then 1 else 0) none)
    one_counted m k (inr counts) marked step =
        let some : is_some k.step ≡ true = step ∙ ap is_counting counts in
        let own : is_of_slot k.slot (mark_of m.x) ≡ true = ap (is_of_slot k.slot) marked ∙ same_slot_yes k.slot k.slot refl in
        ap (λ p. cond {A = ℕ} (is_counted_on k.slot m.x p) 1 0) counts ∙ ap (λ b. cond {A = ℕ} b 1 0) own ∙
        sym (ap (λ b. if b then 1 else 0) some)

    logs_follow : AllPairs Follows (moments_in roots ns)
    logs_follow = pairs_cuts Follows (moments_in roots ns) (λ us vs ws a b cut k l touch touch' marked marked' slot.
        let ms = moments_in roots ns in
        let one = found_in_logs us (vs ++ b ∷ ws) a k cut touch marked in
        let two = found_in_logs (us ++ a ∷ vs) ws b l (cut ∙ sym (append_assoc us (a ∷ vs) (b ∷ ws))) touch' marked' in
        let test : Moment → Bool = λ m. is_counted_on k.slot m.x m.part in
        let parted = count_append test us (a ∷ vs) in
        let more = count_cons test a vs in
        let here = one_counted a k touch marked (touch_at a k (in_middle us (vs ++ b ∷ ws) ms a cut) touch marked) in
        let same : counted_steps k.slot (us ++ a ∷ vs) ≡ counted_steps l.slot (us ++ a ∷ vs) =
        ap (λ s. counted_steps s (us ++ a ∷ vs)) slot in
        omega arith)

    -- ---- phase by phase

    phases_follow : IsInPhases (played_in ts) → AllPairs Follows (by_phases roots ns)
    phases_follow seen = sorted_pairs phase_at Follows (moments_in roots ns) logs_follow
        (λ a b first second back less k l touch touch' marked marked' slot.
        seen a.x b.x k l (of_records ts all ns are roots a first) (of_records ts all ns are roots b second) less marked marked' slot)

    -- the mark found less than this number
    abbrev is_lower : ℕ → Option Mark → Bool
    is_lower n None = false
    is_lower n (Some l) = nat_lt (number_of l.found) n

    left_more : (l : Mark) → is_some l.step ≡ true → left_number l ≡ number_of l.found + 1
    left_more l step = ap (λ b. number_of l.found + (if b then 1 else 0)) step

    -- where the touch k is, the counted steps of its slot with lesser numbers are those before it
    abbrev lesser : Mark → Moment → Bool
    lesser k m = is_counted_on k.slot m.x m.part && is_lower (number_of k.found) (mark_of m.x)

    counted_mark : (s : SlotName) (x : Played) (part : Part) → is_counted_on s x part ≡ true → (part ≡ Counting) × (l : Mark) ×
        (mark_of x ≡ Some l) × (l.slot ≡ s)
    counted_mark s x Counting is = elim (none_or_some (mark_of x)) [
      | inl none ↦ absurd (let both = sym (ap (is_of_slot s) none) ∙ is in cc)
      | inr (l, some) ↦
          let same : same_slot l.slot s ≡ true = sym (ap (is_of_slot s) some) ∙ is in
          elim (same_slot_cases l.slot s) [
            | inl slot ↦ (refl, l, some, slot)
            | inr other ↦ absurd (let both = sym same ∙ same_slot_no l.slot s other in cc)
          ]
    ]
    counted_mark s x part is = absurd cc

    lesser_before : (us vs : List Moment) (m : Moment) (k : Mark) →
        ((z : Moment) → Contains (us ++ m ∷ vs) z → Contains (moments_in roots ns) z) →
        AllPairs Follows (us ++ m ∷ vs) → IsTouch m.part → mark_of m.x ≡ Some k →
        count_by (lesser k) (us ++ m ∷ vs) ≡ counted_steps k.slot us
    lesser_before us vs m k within follows touch marked =
        count_before (λ (z : Moment). is_counted_on k.slot z.x z.part) (lesser k) us vs m
        (λ u among. front u among (cases_Bool (is_counted_on k.slot u.x u.part)))
        (and_false (is_counted_on k.slot m.x m.part) (is_lower (number_of k.found) (mark_of m.x))
        (ap (is_lower (number_of k.found)) marked ∙ le-ltb (number_of k.found) (number_of k.found) (omega arith)))
        (λ v among. back v among (cases_Bool (is_counted_on k.slot v.x v.part)))
      where
        and_false : (a b : Bool) → b ≡ false → (a && b) ≡ false
        and_false true b e = e
        and_false false b e = refl

        front : (u : Moment) → Contains us u → (is_counted_on k.slot u.x u.part ≡ true) ⊎ (is_counted_on k.slot u.x u.part ≡ false) →
            lesser k u ≡ is_counted_on k.slot u.x u.part
        front u among (inr other) = rw other refl
        front u among (inl counted) =
            let (counts, l, is, slot) = counted_mark k.slot u.x u.part counted in
            let step : is_some l.step ≡ true = touch_at u l (within u (Contains-append_left us (m ∷ vs) u among)) (inr counts) is ∙
            ap is_counting counts in
            let more = left_more l step in
            let up = pairs_across Follows us (m ∷ vs) u m follows among (first_in m vs) l k (inr counts) touch is marked slot in
            let low : is_lower (number_of k.found) (mark_of u.x) ≡ true = ap (is_lower (number_of k.found)) is ∙
            lt-ltb (number_of l.found) (number_of k.found) (omega arith) in
            rw (counted, low) refl

        back : (v : Moment) → Contains vs v → (is_counted_on k.slot v.x v.part ≡ true) ⊎ (is_counted_on k.slot v.x v.part ≡ false) →
            lesser k v ≡ false
        back v among (inr other) = rw other refl
        back v among (inl counted) =
            let (counts, l, is, slot) = counted_mark k.slot v.x v.part counted in
            let up = pairs_head Follows m v vs (pairs_after Follows us (m ∷ vs) follows) among k l touch (inr counts) marked is
            (sym slot) in
            and_false (is_counted_on k.slot v.x v.part) (is_lower (number_of k.found) (mark_of v.x))
            (ap (is_lower (number_of k.found)) is ∙ le-ltb (number_of l.found) (number_of k.found) (omega arith))

    pub found : IsInPhases (played_in ts) → (before after : List Moment) (m : Moment) (k : Mark) → by_phases roots ns ≡ before ++
        m ∷ after → IsTouch m.part →
        mark_of m.x ≡ Some k → number_of k.found ≡ counted_steps k.slot before
    found seen before after m k cut touch marked =
        let ms = moments_in roots ns in
        let among : Contains ms m = sorted_from phase_at m ms (in_middle before after (by_phases roots ns) m cut) in
        let (us, vs, parts) = parts_at ms m among in
        let here = lesser_before before after m k (λ z there. sorted_from phase_at z ms (subst (λ zs. Contains zs z) (sym cut) there))
        (subst (AllPairs Follows) cut (phases_follow seen)) touch marked in
        let there = lesser_before us vs m k (λ z there. subst (λ zs. Contains zs z) (sym parts) there)
        (subst (AllPairs Follows) parts logs_follow) touch marked in
        let same = sorted_sum phase_at (λ (z : Moment). cond {A = ℕ} (lesser k z) 1 0) ms in
        found_in_logs us vs m k parts touch marked ∙ sym there ∙ ap (count_by (lesser k)) (sym parts) ∙ sym same ∙
        ap (count_by (lesser k)) cut ∙ here
