-- The moments of a run by the order of all logs, phase by phase: each record's steps are there, and they are in order.
use Rattle.std.proofs.Common.{◌≡◌, ℕ, ◌<◌, ◌≤◌, eqb, true, List, [], ◌∷◌, map, get_or, Option, Some, None, refl, sym, ◌∙◌, ap, subst, arith, inl, inr}
use Rattle.std.specs.Prelude.{Contains, All, AllPairs, option_map, option_and_then}
use Rattle.std.specs.List.{cons_option, filter_map}
use Rattle.std.proofs.lemmas.Bool.{cases_eq, eq-eqb, ne_eqb}
use Rattle.pa_lists.proofs.Elements.{all_from_members}
use Rattle.pa_lists.proofs.Indexed.{option_cases}
use Rattle.pa_lists.proofs.Joined.{map_cases, map_in}
use Rattle.pa_lists.proofs.Members.{not_some}
use Rattle.pa_region.specs.declared.view.Entry.{Entry}
use Rattle.pa_region.specs.Order.{Stamped}
use Rattle.pa_rules.specs.declared.played.Played.{Played}
use Rattle.pa_rules.specs.Order.{StandsBefore}
use Rattle.pa_rules.specs.Roots.{Journals}
use Rattle.pa_timeline.specs.Timeline.{Part, Moment, outline_parts, parts_in}
use Rattle.pa_timeline.proofs.Kept.{none_or_some, kept_from, kept_pairs, kept_twice, kept_passing}
use Rattle.pa_timeline.proofs.Places.{moment, part_on, parts_kept}
use Rattle.pa_logs.specs.Told.{ToldRecord, played_in}
use Rattle.pa_logs.specs.Listed.{AreRising}
use Rattle.pa_logs.proofs.Filters.{pairs_all}
use Rattle.pa_logs.proofs.Listing.{one_record}
use Rattle.pa_step_order.specs.Segments.{part_of, AreInTheirOrder}
use Rattle.pa_step_order.proofs.Named.{Named, named_as, AreNamed, named_in, line_named, threads_rise}
use Rattle.pa_step_order.proofs.Sorting.{sorted, sorted_from, sorted_rises, sorted_pairs, sorted_kept, KeptRises}

-- the moment that an entry is
abbrev pub moment_of : Journals → Named → Option Moment
moment_of roots n = option_map (moment n.x.played) (part_of roots n.x.played.answer n.entry)

-- in the order of the logs, and phase by phase
abbrev pub moments_in : Journals → List Named → List Moment
moments_in roots ns = filter_map (moment_of roots) ns

abbrev pub phase_at : Moment → ℕ
phase_at m = m.x.phase

abbrev pub by_phases : Journals → List Named → List Moment
by_phases roots ns = sorted phase_at (moments_in roots ns)

-- ---- threads and phases

-- moments of one thread are in the order of its lines
abbrev pub InLine : Moment → Moment → Type 0
InLine m n = m.x.thread ≡ n.x.thread → m.x.line ≤ n.x.line

-- moments sorted by phase are in the order of their phases
pub sorted_in_order : (ps : List Played) (ms : List Moment) → ((m : Moment) → Contains ms m → Contains ps m.x) →
    ((x y : Played) → Contains ps x → Contains ps y → x.phase < y.phase → x.line < y.line) → AllPairs InLine ms →
    AllPairs (λ (m n : Moment). StandsBefore n.x m.x → ⊥) (sorted phase_at ms)
sorted_in_order ps ms members phases lines =
    let again = sorted_pairs phase_at InLine ms lines (λ a b first second back less same. let up =
    phases a.x b.x (members a first) (members b second) less in omega arith) in
    let up = sorted_rises phase_at ms in
    λ i j d before below. neither (get_or (sorted phase_at ms) i d) (get_or (sorted phase_at ms) j d) (again i j d before below)
    (up i j d before below)
  where
    neither : (m n : Moment) → InLine m n → m.x.phase ≤ n.x.phase → StandsBefore n.x m.x → ⊥
    neither m n lines up (inl (thread, less)) = let low = lines (sym thread) in omega arith
    neither m n lines up (inr less) = omega arith

-- ---- where a moment is from

pub moment_from : (roots : Journals) (n : Named) (m : Moment) → moment_of roots n ≡ Some m →
    (m.x ≡ n.x.played) × (part_of roots n.x.played.answer n.entry ≡ Some m.part)
moment_from roots n m is =
    let (part, some, same) = option_cases (moment n.x.played) (part_of roots n.x.played.answer n.entry) m is in
    (sym (ap (λ (z : Moment). z.x) same), some ∙ ap (λ (z : Moment). Some z.part) same)

module _ (ts : List ToldRecord) (all : List Stamped) (ns : List Named) (are : AreNamed ts all ns) (roots : Journals) where
  -- a moment is a step of one of the records
  pub step_of : (m : Moment) → Contains (moments_in roots ns) m → (n : Named) × Contains ns n × (moment_of roots n ≡ Some m)
  step_of m among = kept_from (moment_of roots) ns m among

  pub of_records : (m : Moment) → Contains (moments_in roots ns) m → Contains (played_in ts) m.x
  of_records m among =
      let (n, there, is) = step_of m among in
      subst (λ x. Contains (played_in ts) x) (sym (moment_from roots n m is).0)
      (map_in (λ (z : ToldRecord). z.played) ts n.x (named_in ts all ns are n there).0)

  pub only : All (λ (m : Moment). Contains (played_in ts) m.x) (by_phases roots ns)
  only = all_from_members (λ (m : Moment). Contains (played_in ts) m.x) (by_phases roots ns)
      (λ m among. of_records m (sorted_from phase_at m (moments_in roots ns) among))

  module _ (rising : AreRising ts) where
    -- ---- the steps of a record

    part_here : (line : ℕ) (x : Played) (o : Option Part) → x.line ≡ line → option_and_then (part_on line) (option_map (moment x) o) ≡ o
    part_here line x None here = refl
    part_here line x (Some part) here = rw (eq-eqb x.line line here) refl

    parts_of_named : (line : ℕ) (x : ToldRecord) (es : List Entry) → x.played.line ≡ line →
        filter_map (λ n. option_and_then (part_on line) (moment_of roots n)) (map (named_as x) es) ≡ filter_map
        (part_of roots x.played.answer) es
    parts_of_named line x [] here = refl
    parts_of_named line x (e ∷ es) here =
        ap (λ o. cons_option o (filter_map (λ n. option_and_then (part_on line) (moment_of roots n)) (map (named_as x) es)))
        (part_here line x.played (part_of roots x.played.answer e) here)
        ∙ ap (cons_option (part_of roots x.played.answer e)) (parts_of_named line x es here)

    -- what is kept for a line is of that line
    kept_line : (line : ℕ) (m : Moment) (part : Part) → part_on line m ≡ Some part → m.x.line ≡ line
    kept_line line m part is = elim (cases_eq m.x.line line) [
      | inl here ↦ here
      | inr other ↦ absurd (not_some part (rw (ne_eqb m.x.line line other) at is))
    ]

    line_kept : (line : ℕ) (n : Named) (part : Part) → option_and_then (part_on line) (moment_of roots n) ≡ Some part →
        eqb n.x.played.line line ≡ true
    line_kept line n part is = elim (none_or_some (moment_of roots n)) [
      | inl none ↦ absurd (not_some part (rw none at is))
      | inr (m, some) ↦
          let here = kept_line line m part (rw some at is) in
          eq-eqb n.x.played.line line (sym (ap (λ (z : Played). z.line) (moment_from roots n m some).0) ∙ here)
    ]

    pub one_played : (x y : Played) → Contains (played_in ts) x → Contains (played_in ts) y → x.line ≡ y.line → x ≡ y
    one_played x y first second same =
        let (a, there, is) = map_cases (λ (z : ToldRecord). z.played) ts x first in
        let (b, there', is') = map_cases (λ (z : ToldRecord). z.played) ts y second in
        let one = one_record ts a b rising there there' (ap (λ (z : Played). z.line) is ∙ same ∙ sym (ap (λ (z : Played). z.line) is')) in
        sym is ∙ ap (λ (z : ToldRecord). z.played) one ∙ is'

    -- in the order of the logs, and phase by phase
    pub whole_logs : (partitions : ℕ) → AreInTheirOrder partitions roots ts → (y : ToldRecord) → Contains ts y →
        parts_in y.played.line (moments_in roots ns) ≡ outline_parts partitions roots y.played
    whole_logs partitions order y there =
        let line = y.played.line in
        let f : Named → Option Part = λ n. option_and_then (part_on line) (moment_of roots n) in
        sym (parts_kept line (moments_in roots ns)) ∙ kept_twice (part_on line) (moment_of roots) ns
        ∙ sym (kept_passing f (λ (n : Named). eqb n.x.played.line line) ns (λ n part member is. line_kept line n part is))
        ∙ ap (filter_map f) (line_named ts all ns are rising y there) ∙ parts_of_named line y y.stretch refl ∙ order y there

    pub whole : (partitions : ℕ) → AreInTheirOrder partitions roots ts → (x : Played) → Contains (played_in ts) x →
        parts_in x.line (by_phases roots ns) ≡ outline_parts partitions roots x
    whole partitions order x among =
        let (y, there, is) = map_cases (λ (z : ToldRecord). z.played) ts x among in
        subst (λ (z : Played). parts_in z.line (by_phases roots ns) ≡ outline_parts partitions roots z) is (of_told y there)
      where
        of_told : (y : ToldRecord) → Contains ts y → parts_in y.played.line (by_phases roots ns) ≡ outline_parts partitions roots y.played
        of_told y there =
            let line = y.played.line in
            let ms = moments_in roots ns in
            let steady = pairs_all (KeptRises phase_at (part_on line)) ms (λ a b first second u v here here'.
            let same = one_played a.x b.x (of_records a first) (of_records b second)
            (kept_line line a u here ∙ sym (kept_line line b v here')) in
            let e = ap (λ (z : Played). z.phase) same in omega arith) in
            sym (parts_kept line (by_phases roots ns)) ∙ sorted_kept phase_at (part_on line) ms steady ∙ parts_kept line ms ∙
            whole_logs partitions order y there

    -- ---- threads and phases

    pub in_order : ((x y : Played) → Contains (played_in ts) x → Contains (played_in ts) y → x.phase < y.phase → x.line < y.line) →
        AllPairs (λ (m n : Moment). StandsBefore n.x m.x → ⊥) (by_phases roots ns)
    in_order phases =
        let R : Named → Named → Type 0 = λ a b. a.x.played.thread ≡ b.x.played.thread → a.x.played.line ≤ b.x.played.line in
        sorted_in_order (played_in ts) (moments_in roots ns) of_records phases
        (kept_pairs (moment_of roots) R InLine ns (threads_rise ts all ns are rising)
        (λ a b u v first second up is is'. moments_up a b u v up is is'))
      where
        moments_up : (a b : Named) (u v : Moment) → (a.x.played.thread ≡ b.x.played.thread → a.x.played.line ≤ b.x.played.line) →
            moment_of roots a ≡ Some u → moment_of roots b ≡ Some v → InLine u v
        moments_up a b u v up is is' same =
            let x = (moment_from roots a u is).0 in
            let y = (moment_from roots b v is').0 in
            let less = up (sym (ap (λ (z : Played). z.thread) x) ∙ same ∙ ap (λ (z : Played). z.thread) y) in
            let e = ap (λ (z : Played). z.line) x in
            let f = ap (λ (z : Played). z.line) y in
            omega arith
