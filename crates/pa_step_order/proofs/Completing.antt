-- The steps of each record are among the moments of the order, as it is due them.
use Rattle.std.proofs.Common.{◌≡◌, ℕ, ◌+◌, ◌/◌, eqb, Bool, List, [], ◌∷◌, ◌++◌, map, filter, length, take, drop, Option, Some, None, ◌⊎◌, refl, sym, ◌∙◌, ap, subst, arith, inl, inr, append_assoc}
use Rattle.std.specs.Prelude.{Contains, AllPairs, find, option_map}
use Rattle.std.specs.List.{cons_option, filter_map, range_with_len}
use Rattle.std.proofs.lemmas.Bool.{cases_eq, eq-eqb, ne_eqb}
use Rattle.std.proofs.Math.Seq.{take-append_seam, drop-append_seam}
use Rattle.std.proofs.lemmas.List.{map-append}
use Rattle.std.proofs.lemmas.List.Elements.{filter-append, filter_map-append, Contains-append_right}
use Rattle.pa_slot.specs.declared.title.Title.{Title}
use Rattle.pa_slot.specs.declared.word.SlotName.{SlotName}
use Rattle.pa_slot.specs.declared.word.Step.{Step}
use Rattle.pa_slot.specs.declared.word.Step.TheVariants as steps
use Rattle.pa_slot.specs.Titles.{content_count}
use Rattle.pa_region.specs.declared.view.Entry.{Entry}
use Rattle.pa_region.specs.Order.{OneStep, Logged, Spoiled, logged_among}
use Rattle.pa_lists.proofs.Elements.{in_middle, length_same}
use Rattle.pa_lists.proofs.Joined.{map_cases, map_in, filter_in}
use Rattle.pa_lists.proofs.Members.{first_in, of_some, not_some}
use Rattle.pa_lists.proofs.Parts.{parts_at}
use Rattle.pa_lists.proofs.Cuts.{pairs_cuts, not_again}
use Rattle.pa_rules.specs.declared.played.Played.{Played}
use Rattle.pa_rules.specs.Roots.{Journals}
use Rattle.pa_logs.specs.Told.{ToldRecord, played_in}
use Rattle.pa_logs.specs.Touches.{title_of, StepMade, step_by}
use Rattle.pa_timeline.specs.Timeline.{Part, Spoiling, Counting, Moment, entry_parts, due_parts, outline_parts, parts_in}
use Rattle.pa_timeline.proofs.Kept.{none_or_some, kept_in, kept_pairs}
use Rattle.pa_timeline.proofs.Places.{part_on, parts_kept}
use Rattle.pa_timeline.proofs.Outlined.{part_stays, parts_stay}
use Rattle.pa_step_order.specs.Segments.{part_of, AreInTheirOrder}
use Rattle.pa_step_order.proofs.Named.{Named, named_as, line_named}
use Rattle.pa_step_order.proofs.Moments.{moments_in, moment_from, whole_logs}
use Rattle.pa_step_order.proofs.Due.{free_due, free_outline, other_due}
use Rattle.pa_step_order.proofs.Ordered.{OrderedRun}
use Rattle.pa_step_order.proofs.Laid.{stamped_of, back_at, front_at, spoiling, frees, piece, laid, cut_laid, never_spoils, parted, laid_stays}
use Rattle.pa_step_order.proofs.Owned.{step_named}
use Rattle.pa_step_order.proofs.Belonging.{front_all, IsSpoil, spoil_at, spoils_piece, logged_at}
use Rattle.pa_step_order.proofs.Lining.{front_within}
use Rattle.pa_step_order.proofs.Poisoning.{word_of, SpoilsFirst, parts_split, entries_uncounted, logged_cut, spoilt_parts, spoil_step, none_spoilt, all_words}

on_is : (line : ℕ) (m : Moment) (part : Part) → part_on line m ≡ Some part → (m.x.line ≡ line) × (m.part ≡ part)
on_is line m part is = elim (cases_eq m.x.line line) [
  | inl here ↦ (here, of_some m.part part (rw (eq-eqb m.x.line line here) at is))
  | inr other ↦ absurd (not_some part (rw (ne_eqb m.x.line line other) at is))
]

-- the step that a record frees with, if it does
freeing : (x : Played) → ((d : StepMade) × (step_by x ≡ Some d) × (d.step ≡ steps.Free)) ⊎
    ((d : StepMade) → step_by x ≡ Some d → d.step ≡ steps.Free → ⊥)
freeing x = elim (none_or_some (step_by x)) [
  | inl none ↦ inr (λ d is free. not_some d (sym none ∙ is))
  | inr (d, is) ↦ by_step d is d.step refl
]
  where
    other : (d e : StepMade) → step_by x ≡ Some d → step_by x ≡ Some e → e.step ≡ steps.Free → d.step ≡ steps.Free
    other d e is is' free = ap (λ (z : StepMade). z.step) (of_some d e (sym is ∙ is')) ∙ free

    by_step : (d : StepMade) → step_by x ≡ Some d → (p : Step) → d.step ≡ p →
        ((d : StepMade) × (step_by x ≡ Some d) × (d.step ≡ steps.Free)) ⊎ ((d : StepMade) → step_by x ≡ Some d → d.step ≡ steps.Free → ⊥)
    by_step d is steps.Issue e = inr (λ z is' free. let both = sym e ∙ other d z is is' free in cc)
    by_step d is steps.Copy e = inr (λ z is' free. let both = sym e ∙ other d z is is' free in cc)
    by_step d is steps.Reset e = inr (λ z is' free. let both = sym e ∙ other d z is is' free in cc)
    by_step d is steps.Free e = inl (d, is, e)
    by_step d is steps.Write e = inr (λ z is' free. let both = sym e ∙ other d z is is' free in cc)

kept_named : (roots : Journals) (y : ToldRecord) (es : List Entry) →
    filter_map (λ (n : Named). part_of roots n.x.played.answer n.entry) (map (named_as y) es) ≡ filter_map
    (part_of roots y.played.answer) es
kept_named roots y [] = refl
kept_named roots y (e ∷ es) = ap (cons_option (part_of roots y.played.answer e)) (kept_named roots y es)

spoiling_part : (word : ℕ) (o : Option Named) (m : Moment) → option_map (spoiling word) o ≡ Some m → part_stays m.part ≡ None
spoiling_part word None m is = absurd (not_some m is)
spoiling_part word (Some f) m is = ap part_stays (sym (ap (λ (z : Moment). z.part) (of_some (spoiling word f) m is)))

module _ (run : OrderedRun) (partitions : ℕ) (in_order : AreInTheirOrder partitions run.roots run.ts) where
  open run use {sizes, ts, told, rising, all, ns, are, roots, rule, order, agree, placed, closed}

  abbrev ms : List Moment
  ms = laid roots ns order

  -- ---- poisonings come first

  module _ (y : ToldRecord) (there : Contains ts y) where
    abbrev line : ℕ
    line = y.played.line

    abbrev on_line : Named → Bool
    on_line n = eqb n.x.played.line line

    abbrev part_at : Named → Option Part
    part_at n = part_of roots n.x.played.answer n.entry

    of_y : Contains (played_in ts) y.played
    of_y = map_in (λ (z : ToldRecord). z.played) ts y there

    -- a step of the record before one of its poisonings
    none_before : (later : List OneStep) (t : Title) (word : ℕ) (o : List OneStep) (f n : Named) (part : Part) → order ≡ later ++
        Spoiled t word ∷ o →
        IsSpoil run t o f → f.x.played.line ≡ line → Contains (front_at ns o) n → n.x.played.line ≡ line → part_at n ≡ Some part → ⊥
    none_before later t word o f n part cut spoil here in_front mine some =
        let free = spoil_step run y.played of_y t o f spoil here in
        let outline : filter_map part_at (filter on_line ns) ≡ Counting ∷ entry_parts partitions roots line =
        ap (filter_map part_at) (line_named ts all ns are rising y there) ∙ kept_named roots y y.stretch ∙ in_order y there
        ∙ free_outline (λ s. 0) partitions roots y.played spoil.d free (sym spoil.of.step_is) in
        let whole = (parted ns order agree (later ++ Spoiled t word ∷ []) o (cut ∙ sym (append_assoc later (Spoiled t word ∷ []) o))).1 in
        let split : filter_map part_at (filter on_line (front_at ns o)) ++
        filter_map part_at (filter on_line (back_at ns o)) ≡ Counting ∷ entry_parts partitions roots line =
        sym (ap (λ z. filter_map part_at (filter on_line z)) whole ∙
        ap (filter_map part_at) (filter-append on_line (front_at ns o) (back_at ns o))
        ∙ filter_map-append part_at (filter on_line (front_at ns o)) (filter on_line (back_at ns o))) ∙ outline in
        let first = kept_in part_at (filter on_line (front_at ns o)) n part
        (filter_in on_line (front_at ns o) n in_front (eq-eqb n.x.played.line line mine)) some in
        let f_in = in_middle spoil.is.mid spoil.is.rest (back_at ns o) f spoil.is.parts in
        let second = kept_in part_at (filter on_line (back_at ns o)) f Counting
        (filter_in on_line (back_at ns o) f f_in (eq-eqb f.x.played.line line here))
        (ap (part_of roots f.x.played.answer) spoil.entry) in
        entries_uncounted partitions roots line
        (not_again (filter_map part_at (filter on_line (front_at ns o))) (filter_map part_at (filter on_line (back_at ns o)))
        (entry_parts partitions roots line) part Counting split first second)

    abbrev OnLineFirst : Moment → Moment → Type 0
    OnLineFirst a b = a.x.line ≡ line → b.x.line ≡ line → SpoilsFirst a.part b.part

    by_steps : (later : List OneStep) (s : OneStep) (o : List OneStep) (b : Moment) → order ≡ later ++ s ∷ o → piece roots ns s o ≡ Some b →
        (middle : List OneStep) (s' : OneStep) (older : List OneStep) (a : Moment) →
        o ≡ middle ++ s' ∷ older → piece roots ns s' older ≡ Some a → OnLineFirst a b
    by_steps later s o b cut is middle (Spoiled t word) older a within is' here here' w spoils =
        spoiling_part word (find (frees t) (back_at ns older)) a is'
    by_steps later (Logged st) o b cut is middle (Logged st') older a within is' here here' w spoils =
        let (n, l) = logged_at run later st o b cut is in
        absurd (never_spoils roots n.x.played.answer n.entry w ((moment_from roots n b l.moment_is).1 ∙ ap Some spoils))
    by_steps later (Spoiled t word) o b cut is middle (Logged st') older a within is' here here' w spoils =
        let (f, spoil) = spoil_at run later t word o cut in
        let same = spoils_piece run later t word o f b cut spoil is in
        let cut' : order ≡ (later ++ Spoiled t word ∷ middle) ++ Logged st' ∷ older = cut ∙ ap (λ z. later ++ Spoiled t word ∷ z) within
        ∙ sym (append_assoc later (Spoiled t word ∷ middle) (Logged st' ∷ older)) in
        let (n, l) = logged_at run (later ++ Spoiled t word ∷ middle) st' older a cut' is' in
        let from = moment_from roots n a l.moment_is in
        let own : Contains (front_at ns (Logged st' ∷ older)) n =
        subst (λ zs. Contains zs n) (sym l.next.front) (Contains-append_right (front_at ns older) (n ∷ []) n (first_in n [])) in
        let in_front = subst (λ z. Contains (front_at ns z) n) (sym within) (front_within run middle (Logged st' ∷ older) n own) in
        absurd (none_before later t word o f n a.part cut spoil (ap (λ (z : Moment). z.x.line) same ∙ here') in_front
        (sym (ap (λ (z : Played). z.line) from.0) ∙ here) from.1)

    spoils_first : AllPairs SpoilsFirst (parts_in line ms)
    spoils_first =
        subst (AllPairs SpoilsFirst) (parts_kept line ms)
        (kept_pairs (part_on line) OnLineFirst SpoilsFirst ms
        (pairs_cuts OnLineFirst ms (λ us vs ws a b cut.
        let (later, s, o, parts, front, is) = cut_laid roots ns order (us ++ a ∷ vs) ws b (cut ∙ sym (append_assoc us (a ∷ vs) (b ∷ ws))) in
        let (middle, s', older, within, front', is') = cut_laid roots ns o us vs a (sym front) in
        by_steps later s o b parts is middle s' older a within is'))
        (λ a b p q first second ordered is is' word e.
        let (here, p_is) = on_is line a p is in
        let (here', q_is) = on_is line b q is' in
        ap part_stays (sym p_is) ∙ ordered here here' word (q_is ∙ e)))

    -- ---- the steps of a record

    outline_stays : filter_map part_stays (parts_in line ms) ≡ outline_parts partitions roots y.played
    outline_stays =
        sym (parts_stay line ms)
        ∙ ap (parts_in line) (laid_stays ns order agree roots [] order refl ∙ ap (moments_in roots) (front_all run))
        ∙ whole_logs ts all ns are roots rising partitions in_order y there

    parts_are : (words : List ℕ) → filter_map word_of (parts_in line ms) ≡ words → parts_in line ms ≡ map Spoiling words ++
        outline_parts partitions roots y.played
    parts_are words is =
        parts_split (parts_in line ms) spoils_first ∙ ap (λ z. map Spoiling z ++ filter_map part_stays (parts_in line ms)) is ∙
        ap (λ z. map Spoiling words ++ z) outline_stays

    whole_of : (usable : SlotName → ℕ) → ((d : StepMade) → step_by y.played ≡ Some d → usable d.slot + 8 ≡ sizes d.slot) →
        parts_in line ms ≡ due_parts usable partitions roots y.played
    whole_of usable fits = elim (freeing y.played) [
      | inr other ↦
          parts_are [] (spoilt_parts run y.played of_y ms
          ∙ none_spoilt run y.played of_y other [] order refl)
          ∙ sym (other_due usable partitions roots y.played other)
      | inl (d, is, free) ↦
          let (n, among, same, entry) = step_named sizes ts told all ns are roots rising y.played d of_y is in
          let (a, b, cut) = parts_at ns n among in
          let (later, o, cut_o, logged) =
          logged_cut order (map stamped_of a) (map stamped_of b) (stamped_of n)
          (sym agree ∙ ap (map stamped_of) cut ∙ map-append stamped_of a (n ∷ b)) in
          let k : length (logged_among o) ≡ length a = length_same stamped_of a (logged_among o) (sym logged) in
          let front : front_at ns o ≡ a = ap (λ i. take i ns) k ∙ ap (take (length a)) cut ∙ take-append_seam a (n ∷ b) in
          let back : back_at ns o ≡ n ∷ b = ap (λ i. drop i ns) k ∙ ap (drop (length a)) cut ∙ drop-append_seam a (n ∷ b) in
          let words = all_words run y.played of_y d is free n same entry a b cut later (stamped_of n) o cut_o front back refl in
          let size = fits d is in
          let count : content_count (title_of sizes d.slot) ≡ usable d.slot / 8 = omega arith in
          parts_are (range_with_len 0 (content_count (title_of sizes d.slot))) (spoilt_parts run y.played of_y ms ∙ words)
          ∙ ap (λ i. map Spoiling (range_with_len 0 i) ++ outline_parts partitions roots y.played) count
          ∙ ap (λ z. map Spoiling (range_with_len 0 (usable d.slot / 8)) ++ z) (free_outline usable partitions roots y.played d is free)
          ∙ sym (free_due usable partitions roots y.played d is free)
    ]

  pub whole : (usable : SlotName → ℕ) →
      ((x : Played) (d : StepMade) → Contains (played_in ts) x → step_by x ≡ Some d → usable d.slot + 8 ≡ sizes d.slot) → (x : Played) →
      Contains (played_in ts) x →
      parts_in x.line ms ≡ due_parts usable partitions roots x
  whole usable fits x among =
      let (y, there, is) = map_cases (λ (z : ToldRecord). z.played) ts x among in
      subst (λ (z : Played). parts_in z.line ms ≡ due_parts usable partitions roots z) is
      (whole_of y there usable (λ d made. fits y.played d (of_y y there) made))
