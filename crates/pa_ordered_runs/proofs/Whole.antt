-- The steps of a run in the order of its lines, record by record, are a timeline of it.
use Rattle.std.proofs.Common.{◌≡◌, ℕ, ◌<◌, ◌≤◌, List, [], ◌∷◌, ◌++◌, map, Some, refl, sym, ◌∙◌, ap, subst, arith, inl, inr, append-nil}
use Rattle.std.specs.Prelude.{Contains, All, AllPairs, filter, ◌==◌}
use Rattle.std.proofs.lemmas.Bool.{cases_lt, eq-eqb, ne_eqb}
use Rattle.std.proofs.lemmas.List.{map-append}
use Rattle.std.proofs.lemmas.List.Elements.{filter-append}
use Rattle.std.proofs.lemmas.List.Concat.{flat_map-append}
use Rattle.pa_slot.specs.Count.{number_of}
use Rattle.pa_slot.specs.Run.{Mark}
use Rattle.pa_trace.specs.Rules.{rules_of}
use Rattle.pa_trace.specs.declared.script.Rules.{Rules}
use Rattle.pa_record.specs.declared.entry.Seen.{Seen}
use Rattle.pa_lists.proofs.Members.{first_in, later_in}
use Rattle.pa_lists.proofs.Elements.{all_from_members, parts_at, pairs_across, pairs_after}
use Rattle.pa_lists.proofs.Joined.{map_cases, map_in, flat_cases, pairs_flat}
use Rattle.pa_lists.proofs.Pairs.{pairs_none, pairs_cons, pairs_head, pairs_tail}
use Rattle.pa_lists.proofs.Parts.{map_parts}
use Rattle.pa_trace.specs.declared.script.Line.{Line}
use Rattle.pa_rules.specs.declared.played.Played.{Played}
use Rattle.pa_rules.specs.Played.{AreLines, op_lines, op_line_of, mark_of}
use Rattle.pa_rules.specs.Order.{StandsBefore}
use Rattle.pa_rules.specs.Told.{told_by}
use Rattle.pa_timeline.specs.Timeline.{Part, Loading, Moment, parts_in, counted_steps, content_after, IsTouch, GivesAt}
use Rattle.pa_rules.proofs.Recorded.{records_are_lines}
use Rattle.pa_rules.proofs.Lined.{lines_phases}
use Rattle.pa_one_run.specs.Parts.{Parts, parts_of}
use Rattle.pa_one_run.proofs.Filed.{IsFiled, Earlier}
use Rattle.pa_one_run.proofs.Legality.{filed}
use Rattle.pa_ordered_runs.specs.Laws.{FileRunsHaveATimeline}
use Rattle.pa_ordered_runs.proofs.Pieces.{cut_at}
use Rattle.pa_ordered_runs.proofs.Steps.{moment, steps_in, moments_at, line_by_line}
use Rattle.pa_ordered_runs.proofs.Entered.{journals_made, pool_asked, cells_swapped}
use Rattle.pa_ordered_runs.proofs.Counted.{touch_found}
use Rattle.pa_ordered_runs.proofs.Loads.{load_found}

-- ---- each record's steps are there

-- the moments of a record are of its line
own_parts : (x : Played) (line : ℕ) (parts : List Part) → x.line ≡ line → parts_in line (map (moment x) parts) ≡ parts
own_parts x line [] same = refl
own_parts x line (part ∷ parts) same = rw (eq-eqb x.line line same) (ap (λ ps. part ∷ ps) (own_parts x line parts same))

-- a record has no parts on another line
other_parts : (x : Played) (line : ℕ) (parts : List Part) → (x.line ≡ line → ⊥) → parts_in line (map (moment x) parts) ≡ []
other_parts x line [] other = refl
other_parts x line (part ∷ parts) other = rw (ne_eqb x.line line other) (other_parts x line parts other)

parts_append : (line : ℕ) (ms ns : List Moment) → parts_in line (ms ++ ns) ≡ parts_in line ms ++ parts_in line ns
parts_append line ms ns =
    ap (map (λ (m : Moment). m.part)) (filter-append (λ (m : Moment). m.x.line == line) ms ns)
    ∙ map-append (λ (m : Moment). m.part) (filter (λ (m : Moment). m.x.line == line) ms) (filter (λ (m : Moment). m.x.line == line) ns)

module _ (a : Parts) (line : ℕ) where
  none_of : (ps : List Played) → ((x : Played) → Contains ps x → x.line ≡ line → ⊥) → parts_in line (line_by_line a ps) ≡ []
  none_of [] other = refl
  none_of (x ∷ ps) other =
      parts_append line (moments_at a x) (line_by_line a ps)
      ∙ ap (λ ys. ys ++ parts_in line (line_by_line a ps)) (other_parts x line (steps_in a x) (other x (first_in x ps)))
      ∙ none_of ps (λ y among. other y (later_in x y ps among))

module _ (a : Parts) (h : IsFiled a) where
  whole : (x : Played) → Contains a.ps x → parts_in x.line (line_by_line a a.ps) ≡ steps_in a x
  whole x among =
      let (front, back, parts) = parts_at a.ps x among in
      let rising = subst (AllPairs Earlier) parts h.rising in
      let before = none_of a x.line front (λ y there same. let less =
      pairs_across Earlier front (x ∷ back) y x rising there (first_in x back) in omega arith) in
      let after = none_of a x.line back (λ y there same. let less =
      pairs_head Earlier x y back (pairs_after Earlier front (x ∷ back) rising) there in omega arith) in
      ap (λ ps. parts_in x.line (line_by_line a ps)) parts
      ∙ ap (parts_in x.line) (flat_map-append (moments_at a) front (x ∷ back))
      ∙ parts_append x.line (line_by_line a front) (moments_at a x ++ line_by_line a back)
      ∙ ap (λ ys. ys ++ parts_in x.line (moments_at a x ++ line_by_line a back)) before
      ∙ parts_append x.line (moments_at a x) (line_by_line a back)
      ∙ ap (λ ys. parts_in x.line (moments_at a x) ++ ys) after
      ∙ append-nil (parts_in x.line (moments_at a x))
      ∙ own_parts x x.line (steps_in a x) refl

  only : All (λ (m : Moment). Contains a.ps m.x) (line_by_line a a.ps)
  only = all_from_members (λ (m : Moment). Contains a.ps m.x) (line_by_line a a.ps) (λ m among.
      let (x, there, here) = flat_cases (moments_at a) a.ps m among in
      let (part, in_steps, is) = map_cases (moment x) (steps_in a x) m here in
      subst (λ (n : Moment). Contains a.ps n.x) is there)

  -- ---- where the moments are cut

  -- the record and its step there
  record IsAt (before : List Moment) (m : Moment) : Type 0 where
    front : List Played
    back : List Played
    us : List Part
    vs : List Part
    whole : a.ps ≡ front ++ m.x ∷ back
    piece : steps_in a m.x ≡ us ++ m.part ∷ vs
    left : before ≡ line_by_line a front ++ map (moment m.x) us

  at : (before after : List Moment) (m : Moment) → line_by_line a a.ps ≡ before ++ m ∷ after → IsAt before m
  at before after m cut =
      let c = cut_at (moments_at a) a.ps before after m cut in
      let (us, part, vs, pieces, front_is, is) = map_parts (moment c.x) (steps_in a c.x) c.us m c.vs c.piece in
      let here : IsAt before (moment c.x part) = record {
        front = c.front;
        back = c.back;
        us = us;
        vs = vs;
        whole = c.whole;
        piece = pieces;
        left = c.left ∙ ap (λ ys. line_by_line a c.front ++ ys) (sym front_is);
      } in
      subst (IsAt before) is here

  found : (before after : List Moment) (m : Moment) (k : Mark) → line_by_line a a.ps ≡ before ++ m ∷ after → IsTouch m.part →
      mark_of m.x ≡ Some k →
      number_of k.found ≡ counted_steps k.slot before
  found before after m k cut touch is =
      let c = at before after m cut in
      touch_found a c.front c.back m.x c.us c.vs m.part k h c.whole c.piece touch is ∙ ap (counted_steps k.slot) (sym c.left)

  reads : (before after : List Moment) (m : Moment) (seen : Seen) (place value : ℕ) → line_by_line a a.ps ≡ before ++ m ∷ after →
      m.part ≡ Loading →
      GivesAt m.x.op m.x.answer seen place value → value ≡ content_after seen.slot place 0 before
  reads before after m seen place value cut loads gives =
      let c = at before after m cut in
      load_found a c.front c.back m.x c.us c.vs seen place value h c.whole (c.piece ∙ ap (λ part. c.us ++ part ∷ c.vs) loads) gives
      ∙ ap (content_after seen.slot place 0) (sym c.left)

  -- ---- the order

  in_order : AllPairs (λ (x y : Played). (x.line < y.line) × (x.phase ≤ y.phase)) a.ps →
      AllPairs (λ (m n : Moment). StandsBefore n.x m.x → ⊥) (line_by_line a a.ps)
  in_order rising = pairs_flat (λ (x y : Played). (x.line < y.line) × (x.phase ≤ y.phase)) (λ (m n : Moment). StandsBefore n.x m.x → ⊥)
      (moments_at a) a.ps rising
      (λ x among. own x (steps_in a x))
      (λ x y m n first second up here there.
      let (part, in_x, is) = map_cases (moment x) (steps_in a x) m here in
      let (other, in_y, is') = map_cases (moment y) (steps_in a y) n there in
      subst (λ (u : Moment). StandsBefore n.x u.x → ⊥) is (subst (λ (u : Moment). StandsBefore u.x x → ⊥) is' (later x y up)))
    where
      not_itself : (x : Played) → StandsBefore x x → ⊥
      not_itself x (inl (thread, less)) = omega arith
      not_itself x (inr less) = omega arith

      own : (x : Played) (parts : List Part) → AllPairs (λ (m n : Moment). StandsBefore n.x m.x → ⊥) (map (moment x) parts)
      own x [] = pairs_none (λ (m n : Moment). StandsBefore n.x m.x → ⊥)
      own x (part ∷ parts) = pairs_cons (λ (m n : Moment). StandsBefore n.x m.x → ⊥) (moment x part) (map (moment x) parts)
          (λ m among. let (other, there, is) = map_cases (moment x) parts m among in
          subst (λ (u : Moment). StandsBefore u.x x → ⊥) is (not_itself x))
          (own x parts)

      later : (x y : Played) → (x.line < y.line) × (x.phase ≤ y.phase) → StandsBefore y x → ⊥
      later x y up (inl (thread, less)) = omega (arith, up.0)
      later x y up (inr less) = omega (arith, up.1)

-- ---- lines and phases rise

rises : (ps : List Played) → AllPairs Earlier ps → ((x y : Played) → Contains ps x → Contains ps y → y.phase < x.phase → y.line < x.line) →
    AllPairs (λ (x y : Played). (x.line < y.line) × (x.phase ≤ y.phase)) ps
rises [] h phases = pairs_none (λ (x y : Played). (x.line < y.line) × (x.phase ≤ y.phase))
rises (x ∷ ps) h phases =
    pairs_cons (λ (u v : Played). (u.line < v.line) × (u.phase ≤ v.phase)) x ps
    (λ y among.
    let less = pairs_head Earlier x y ps h among in (
      less,
      elim (cases_lt y.phase x.phase) [
        | inl back ↦ let other = phases x y (first_in x ps) (later_in x y ps among) back in absurd (omega arith)
        | inr up ↦ omega arith
      ],
    ))
    (rises ps (pairs_tail Earlier x ps h) (λ y z first second. phases y z (later_in x y ps first) (later_in x z ps second)))

phases_rise : (rules : Rules) (ls : List Line) (ps : List Played) → AreLines rules ls ps → (x y : Played) → Contains ps x → Contains ps y →
    y.phase < x.phase → y.line < x.line
phases_rise rules ls ps lines x y first second less =
    let there : (z : Played) → Contains ps z → Contains (op_lines rules 2 1 ls) (op_line_of z) =
    λ z among. subst (λ os. Contains os (op_line_of z)) lines (map_in op_line_of ps z among) in
    lines_phases rules 2 1 ls (op_line_of y) (op_line_of x) (there y second) (there x first) less

-- ---- the law

pub files_have_timelines : FileRunsHaveATimeline
files_have_timelines t r limits (legal, order) =
    let told = told_by r in
    let a = parts_of t told in
    let h = filed t told limits (legal, order) in
    let lines = records_are_lines.lines (rules_of t) t.lines told.entries legal.lines in (
      line_by_line a a.ps,
      record {
        ordered = record {
          whole = whole a h;
          only = only a h;
          in_order = in_order a h (rises a.ps h.rising (phases_rise (rules_of t) t.lines a.ps lines));
          found = found a h;
          journals = journals_made a h;
          pool = pool_asked a h;
          exchanges = cells_swapped a h;
        };
        reads = reads a h;
      },
    )
