-- Records in the order of their lines, cut in two: the first ones have each slot's run so far, and the front of each journal.
use Rattle.std.proofs.Common.{◌≡◌, ℕ, ◌+◌, ◌<◌, ◌≤◌, cond, List, [], ◌∷◌, ◌++◌, map, get_or, Option, Some, None, refl, sym, ◌∙◌, ap, subst, arith, inl, inr}
use Rattle.std.specs.Prelude.{Contains, AllPairs, is_some}
use Rattle.std.specs.List.Sorted.{IsNonDecreasingBy}
use Rattle.std.proofs.lemmas.Bool.{le-ltb, lt-ltb}
use Rattle.std.proofs.lemmas.List.Elements.{Contains-append_cases, Contains-append_left, Contains-append_right, filter_map-append}
use Rattle.std.proofs.lemmas.List.Sorted.{IsNonDecreasingBy-drop}
use Rattle.std.proofs.lemmas.List.Sums.{sum_by-append, sum_by-cons}
use Rattle.pa_slot.specs.declared.word.SlotName.{SlotName}
use Rattle.pa_slot.specs.Count.{number_of}
use Rattle.pa_slot.specs.Run.{Mark, Slots}
use Rattle.pa_slot.proofs.Runs.{same_slot_yes}
use Rattle.pa_record.specs.declared.root.RootEntry.{RootEntry}
use Rattle.pa_lists.proofs.Members.{not_in_none, first_in, later_in, in_cases}
use Rattle.pa_lists.proofs.Joined.{map_cases, pairs_append, pairs_map}
use Rattle.pa_lists.proofs.Parts.{parts_at, pairs_across, pairs_after}
use Rattle.pa_lists.proofs.Elements.{pairs_front}
use Rattle.pa_rules.specs.declared.played.Played.{Played}
use Rattle.pa_rules.specs.Played.{mark_of, marks_of}
use Rattle.pa_rules.specs.FileOrder.{is_step_before, steps_before, AreNumbersInFileOrder}
use Rattle.pa_rules.specs.Flow.{IsInPhases}
use Rattle.pa_rules.specs.Report.{until}
use Rattle.pa_rules.specs.Rising.{RiseByLine}
use Rattle.pa_rules.specs.Seen.{left_number}
use Rattle.pa_rules.proofs.ByLines.{IsFront}
use Rattle.pa_rules.proofs.Marking.{mark_line}
use Rattle.pa_rules.proofs.Phases.{mark_in, runs_until}
use Rattle.pa_rules.proofs.Rising.{steps_rise}
use Rattle.pa_rules.proofs.Running.{OtherRecord}

-- ---- numbers

-- 1 if this mark is a step of the slot on a line before this one
abbrev counts : SlotName → ℕ → Mark → ℕ
counts s line m = cond (is_step_before s line m) 1 0

-- the steps before a line are those of the marks before a mark, of that mark and of those after it
steps_parts : (s : SlotName) (line : ℕ) (ms before rest : List Mark) (m : Mark) → ms ≡ before ++ m ∷ rest →
    steps_before s line ms ≡ steps_before s line before + (counts s line m + steps_before s line rest)
steps_parts s line ms before rest m parts =
    ap (steps_before s line) parts ∙ sum_by-append (counts s line) before (m ∷ rest) ∙
    ap (λ n. steps_before s line before + n) (sum_by-cons (counts s line) m rest)

-- if the numbers are those of the order of the lines, a later line finds no lower number than an earlier one left
numbers_rise : (ms : List Mark) (m n : Mark) → AreNumbersInFileOrder ms → Contains ms m → Contains ms n → m.slot ≡ n.slot →
    m.line < n.line → left_number m ≤ number_of n.found
numbers_rise ms m n order among among' same less =
    let found = order m among in
    let later : number_of n.found ≡ steps_before m.slot n.line ms =
    order n among' ∙ ap (λ s. steps_before s n.line ms) (sym same) in
    let (before, rest, parts) = parts_at ms m among in
    let low = steps_parts m.slot m.line ms before rest m parts in
    let high = steps_parts m.slot n.line ms before rest m parts in
    let front = steps_rise m.slot m.line n.line before (omega arith) in
    let back = steps_rise m.slot m.line n.line rest (omega arith) in
    let not_yet : counts m.slot m.line m ≡ 0 = rw (same_slot_yes m.slot m.slot refl, le-ltb m.line m.line (omega arith)) refl in
    let by_then : counts m.slot n.line m ≡ cond (is_some m.step) 1 0 =
    rw (same_slot_yes m.slot m.slot refl, lt-ltb m.line n.line less) refl in
    omega arith

-- ---- runs

-- the record as one of this phase, of which its mark says nothing
in_phase : ℕ → Played → Played
in_phase k x = record { line = x.line; thread = x.thread; phase = k; rules = x.rules; op = x.op; answer = x.answer }

-- the first records are phase 0, and the rest phase 1
abbrev phased : List Played → List Played → List Played
phased xs ys = map (in_phase 0) xs ++ map (in_phase 1) ys

marks_more : (k : ℕ) (x : Played) (xs : List Played) (o : Option Mark) → mark_of x ≡ o →
    marks_of (map (in_phase k) xs) ≡ marks_of xs → marks_of (map (in_phase k) (x ∷ xs)) ≡ marks_of (x ∷ xs)
unfolding in_phase
marks_more k x xs None e rest = rw e rest
marks_more k x xs (Some m) e rest = rw e (ap (λ ms. m ∷ ms) rest)

marks_same : (k : ℕ) (xs : List Played) → marks_of (map (in_phase k) xs) ≡ marks_of xs
marks_same k [] = refl
marks_same k (x ∷ xs) = marks_more k x xs (mark_of x) refl (marks_same k xs)

marks_phased : (xs ys : List Played) → marks_of (phased xs ys) ≡ marks_of (xs ++ ys)
marks_phased xs ys =
    filter_map-append mark_of (map (in_phase 0) xs) (map (in_phase 1) ys) ∙
    ap (λ ms. ms ++ marks_of (map (in_phase 1) ys)) (marks_same 0 xs) ∙ ap (λ ms. marks_of xs ++ ms) (marks_same 1 ys) ∙
    sym (filter_map-append mark_of xs ys)

until_first : (xs ys : List Played) → until 0 (phased xs ys) ≡ map (in_phase 0) xs
unfolding in_phase
until_first [] [] = refl
until_first [] (y ∷ ys) = until_first [] ys
until_first (x ∷ xs) ys = ap (λ zs. in_phase 0 x ∷ zs) (until_first xs ys)

abbrev Earlier : Played → Played → Type 0
Earlier x y = x.line < y.line

module _ (xs ys : List Played) (rising : RiseByLine (xs ++ ys)) where
  phased_differ : AllPairs OtherRecord (phased xs ys)
  unfolding in_phase
  phased_differ = pairs_append OtherRecord (map (in_phase 0) xs) (map (in_phase 1) ys)
      (pairs_map Earlier OtherRecord (in_phase 0) xs (λ x y among among' less same. omega arith) (pairs_front Earlier xs ys rising))
      (pairs_map Earlier OtherRecord (in_phase 1) ys (λ x y among among' less same. omega arith) (pairs_after Earlier xs ys rising))
      (λ x y among among' same.
      let (u, first, is) = map_cases (in_phase 0) xs x among in
      let (v, second, is') = map_cases (in_phase 1) ys y among' in
      let less = pairs_across Earlier xs ys u v rising first second in
      let here : u.line ≡ x.line = ap (λ (z : Played). z.line) is in
      let there : v.line ≡ y.line = ap (λ (z : Played). z.line) is' in
      omega arith)

  -- no record of the second phase finds a lower number of a slot than one of the first left
  in_phases : AreNumbersInFileOrder (marks_of (xs ++ ys)) → IsInPhases (phased xs ys)
  unfolding in_phase
  in_phases order x y m n among among' less is is' same =
      elim (Contains-append_cases (map (in_phase 0) xs) (map (in_phase 1) ys) x among) [
        | inl first ↦ elim (Contains-append_cases (map (in_phase 0) xs) (map (in_phase 1) ys) y among') [
          | inl early ↦
              let (v, there, e) = map_cases (in_phase 0) xs y early in
              let phase : 0 ≡ y.phase = ap (λ (z : Played). z.phase) e in
              absurd (omega arith)
          | inr second ↦
              let (u, here, e) = map_cases (in_phase 0) xs x first in
              let (v, there, e') = map_cases (in_phase 1) ys y second in
              let up = pairs_across Earlier xs ys u v rising here there in
              let at : mark_of u ≡ Some m = ap mark_of e ∙ is in
              let at' : mark_of v ≡ Some n = ap mark_of e' ∙ is' in
              let line = mark_line u m at in
              let line' = mark_line v n at' in
              numbers_rise (marks_of (xs ++ ys)) m n order (mark_in (xs ++ ys) u m (Contains-append_left xs ys u here) at)
              (mark_in (xs ++ ys) v n (Contains-append_right xs ys v there) at') same (omega arith)
        ]
        | inr late ↦
            let (u, here, e) = map_cases (in_phase 1) ys x late in
            let phase : 1 ≡ x.phase = ap (λ (z : Played). z.phase) e in
            elim (Contains-append_cases (map (in_phase 0) xs) (map (in_phase 1) ys) y among') [
              | inl early ↦
                  let (v, there, e') = map_cases (in_phase 0) xs y early in
                  let phase' : 0 ≡ y.phase = ap (λ (z : Played). z.phase) e' in
                  absurd (omega arith)
              | inr second ↦
                  let (v, there, e') = map_cases (in_phase 1) ys y second in
                  let phase' : 1 ≡ y.phase = ap (λ (z : Played). z.phase) e' in
                  absurd (omega arith)
            ]
      ]

  -- the first records have each slot's run so far
  pub slots_so_far : Slots (marks_of (xs ++ ys)) → AreNumbersInFileOrder (marks_of (xs ++ ys)) → Slots (marks_of xs)
  slots_so_far slots order =
      subst (λ ms. Slots ms) (ap marks_of (until_first xs ys) ∙ marks_same 0 xs)
      (runs_until (phased xs ys) 0 phased_differ (subst (λ ms. Slots ms) (sym (marks_phased xs ys)) slots) (in_phases order))

  -- the entries on the lines of the first records come before a journal that is in the order of its lines
  pub front_so_far : (es : List RootEntry) → IsNonDecreasingBy (λ (e : RootEntry). e.line) es →
      ((e : RootEntry) → Contains es e → (x : Played) × Contains (xs ++ ys) x × (e.line ≡ x.line)) →
      (front : List RootEntry) × IsFront xs es front
  front_so_far [] order each =
      ([], record { rest = []; parts = refl; each = λ e none. absurd (not_in_none e none); none = λ e x none. absurd (not_in_none e none) })
  front_so_far (e ∷ es) order each =
      let (x, among, line) = each e (first_in e es) in
      elim (Contains-append_cases xs ys x among) [
        | inl early ↦
            let (front, is) = front_so_far es (IsNonDecreasingBy-drop (λ (f : RootEntry). f.line) 1 (e ∷ es) order)
            (λ f member. each f (later_in e f es member)) in (
              e ∷ front,
              record {
                rest = is.rest;
                parts = ap (λ fs. e ∷ fs) is.parts;
                each = λ f member. elim (in_cases e f front member) [
                  | inl same ↦ (x, early, sym (ap (λ (g : RootEntry). g.line) same) ∙ line)
                  | inr later ↦ is.each f later
                ];
                none = is.none;
              },
            )
        | inr late ↦ (
          [],
          record {
            rest = e ∷ es;
            parts = refl;
            each = λ f none. absurd (not_in_none f none);
            none = λ f z member first same.
                let less = pairs_across Earlier xs ys z x rising first late in
                let (k, within, is) = member in
                let up = order 0 k f (omega arith) within in
                let at : (get_or (e ∷ es) k f).line ≡ f.line = ap (λ (g : RootEntry). g.line) is in
                omega arith;
          },
        )
      ]
