-- In a legal run by one thread all is in the order of the lines.
use Rattle.std.proofs.Common.{◌≡◌, ℕ, ◌+◌, ◌<◌, ◌≤◌, List, [], ◌∷◌, ◌++◌, Some, refl, sym, ◌∙◌, ap, subst, arith, ◌⊎◌, inl, inr}
use Rattle.std.specs.Prelude.{Contains, AllPairs}
use Rattle.std.specs.List.Sorted.{IsNonDecreasingBy}
use Rattle.std.proofs.lemmas.Bool.{cases_lt}
use Rattle.std.proofs.lemmas.List.Elements.{Contains-append_cases}
use Rattle.pa_slot.specs.declared.word.SlotName.{SlotName}
use Rattle.pa_slot.specs.declared.word.Step.{Step}
use Rattle.pa_slot.specs.Count.{number_of}
use Rattle.pa_slot.specs.Run.{Mark, Slots, IsFirstAt, IsRunFrom}
use Rattle.pa_slot.specs.Runs.{IsPath}
use Rattle.pa_slot.proofs.Runs.{number_stepped}
use Rattle.pa_trace.specs.declared.script.Trace.{Trace}
use Rattle.pa_trace.specs.Limits.{IsWithinLimits}
use Rattle.pa_trace.specs.Rules.{rules_of}
use Rattle.pa_record.specs.declared.entry.Answer.{Answer}
use Rattle.pa_record.specs.declared.entry.Answer.TheVariants.{Value, Dangling}
use Rattle.pa_record.specs.declared.history.CellEntry.{CellEntry}
use Rattle.pa_record.specs.declared.pool.PoolEntry.{PoolEntry}
use Rattle.pa_record.specs.declared.root.RootEntry.{RootEntry}
use Rattle.pa_lists.proofs.Members.{first_in, in_cases}
use Rattle.pa_lists.proofs.Pairs.{pairs_head}
use Rattle.pa_rules.specs.declared.played.Played.{Played}
use Rattle.pa_rules.specs.Played.{marks_of}
use Rattle.pa_rules.specs.Cells.{AreCells}
use Rattle.pa_rules.specs.Roots.{Journals, IsPoolOf, AreRoots}
use Rattle.pa_rules.specs.Contents.{IsReadAllowed, IsReadExact, AreContents, AreExactContents}
use Rattle.pa_rules.specs.Seen.{IsSeenInOrder, left_number}
use Rattle.pa_rules.specs.Seen.IsBefore.{Standing}
use Rattle.pa_rules.specs.FileOrder.{AreNumbersInFileOrder, AreCellsInFileOrder, IsInFileOrder}
use Rattle.pa_rules.specs.Told.{Told, records_of}
use Rattle.pa_rules.specs.Legal.{IsLegalTold}
use Rattle.pa_rules.proofs.Recorded.{records_are_lines}
use Rattle.pa_rules.specs.Sizes.{usable_of}
use Rattle.pa_rules.proofs.Marking.{mark_line, found_left}
use Rattle.pa_rules.proofs.Numbering.{lines_rise}
use Rattle.pa_rules.proofs.Running.{mark_from, run_rises, made_some, same_word}
use Rattle.pa_rules.proofs.Within.{records_within}
use Rattle.pa_one_run.specs.Before.{word_from}
use Rattle.pa_one_run.proofs.words.Marks.{Rises, marks_rise}
use Rattle.pa_one_run.proofs.words.Fronts.{FindsLeft, front_of, steps_at}
use Rattle.pa_lists.proofs.Elements.{pairs_across, pairs_after, parts_at, in_front, in_middle, in_one}
use Rattle.pa_one_run.proofs.lines.Sorting.{rises_by, sorted_by}

-- every record is of one thread
abbrev IsAlone : List Played → Type 0
IsAlone ps = (x y : Played) → Contains ps x → Contains ps y → x.thread ≡ y.thread

-- ---- entries and exchanges

journals_sorted : (partitions : ℕ) (ps : List Played) (pools : List PoolEntry) (roots : Journals) → IsAlone ps
    → AreRoots partitions ps pools roots → (p : ℕ) → IsNonDecreasingBy (λ (e : RootEntry). e.line) (roots p)
journals_sorted partitions ps pools roots alone h p = sorted_by (λ (e : RootEntry). e.line) (roots p) (λ i j e g at at' less.
    let (x, of, makes) = h.lines p i e at in
    let (y, of', makes') = h.lines p j g at' in
    h.order p i j e g x y at at' of of' (inl (alone x y of.0 of'.0, omega arith)))

pool_sorted : (supers partitions : ℕ) (ps : List Played) (pools : List PoolEntry) (roots : Journals) → IsAlone ps →
    AreRoots partitions ps pools roots → IsPoolOf supers ps pools roots →
    IsNonDecreasingBy (λ (e : PoolEntry). e.line) pools
pool_sorted supers partitions ps pools roots alone rows h = sorted_by (λ (e : PoolEntry). e.line) pools (λ i j e g at at' less.
    let (k, f, entry, asks, line) = h.named i e at in
    let (k', f', entry', asks', line') = h.named j g at' in
    let (x, of, makes) = rows.lines e.partition k f entry in
    let (y, of', makes') = rows.lines g.partition k' f' entry' in
    h.order i j e g x y at at' (of.0, of.1 ∙ line) (of'.0, of'.1 ∙ line') (inl (alone x y of.0 of'.0, omega arith)))

cells_sorted : (cells : ℕ → List CellEntry) (ps : List Played) → IsAlone ps → AreCells cells ps → AreCellsInFileOrder cells
cells_sorted cells ps alone h k = rises_by (λ (e : CellEntry). e.line) (cells k)
    (sorted_by (λ (e : CellEntry). e.line) (cells k) (λ i j e g at at' less.
    let (x, reg, of, op) = h.lines k i e at in
    let (y, reg', of', op') = h.lines k j g at' in
    h.order k i j e g x y at at' of of' (inl (alone x y of.0 of'.0, omega arith))))
    (λ i j e g at at' same. (h.different k k i j e g at at' same).1)

-- ---- contents

exact : (usable_of : ℕ → ℕ) (cells : ℕ → List CellEntry) (ps : List Played) (x : Played) (a : Answer) → IsAlone ps → Contains ps x →
    IsReadAllowed usable_of cells ps x a → IsReadExact ps a
exact usable_of cells ps x (Value seen value) alone among (inl content) = content
exact usable_of cells ps x (Value seen value) alone among (inr (gone, (reads, y, (n, freed, next, first), other, phase))) =
    absurd (other (alone y x freed.0 among))
exact usable_of cells ps x (Dangling seen value) alone among allowed = allowed
exact usable_of cells ps x a alone among allowed = tt

exact_contents : (usable_of : ℕ → ℕ) (cells : ℕ → List CellEntry) (ps : List Played) → IsAlone ps → AreContents usable_of cells ps →
    AreExactContents ps
exact_contents usable_of cells ps alone h x among = exact usable_of cells ps x x.answer alone among (h x among)

-- ---- numbers

-- no mark finds a lower number of its slot than one on a lesser line left
abbrev pub FindsNoLess : List Mark → Type 0
FindsNoLess ms = (m n : Mark) → Contains ms m → Contains ms n → m.line < n.line → m.slot ≡ n.slot → left_number m ≤ number_of n.found

finds_no_less : (cells : ℕ → List CellEntry) (ps : List Played) → IsAlone ps → IsSeenInOrder cells ps → FindsNoLess (marks_of ps)
finds_no_less cells ps alone h m n first second less slot =
    let (x, among, is) = mark_from ps m first in
    let (y, among', is') = mark_from ps n second in
    let a = mark_line x m is in
    let b = mark_line y n is' in
    h.rising x y m n among among' (Standing (inl (alone x y among among', omega arith))) is is' slot

left_by : (m : Mark) (p : Step) → m.step ≡ Some p → left_number m ≡ number_of m.found + 1
left_by m p step = rw step refl

-- a path's last word is its first, or a mark left it
path_left : (ms : List Mark) (s : SlotName) (u : ℕ) (vs : List ℕ) (w : ℕ) → IsPath ms s u vs w → (u ≡ w) ⊎
    ((m : Mark) × Contains ms m × (m.slot ≡ s) × (left_number m ≡ number_of w))
path_left ms s u [] w h = inl h
path_left ms s u (v ∷ vs) w (m, p, first, can, is, rest) = elim (path_left ms s v vs w rest) [
  | inl e ↦
      let a = left_by m p first.step in
      let b : number_of m.found ≡ number_of u = ap number_of first.found in
      let c : number_of w ≡ number_of u + 1 = ap number_of (sym e ∙ is) ∙ number_stepped p u can in
      inr (m, first.among, first.slot, omega arith)
  | inr mark ↦ inr mark
]

-- at a word of a run that has a later one a step was made
step_at : (ms : List Mark) (s : SlotName) (u : ℕ) (vs : List ℕ) (x y : ℕ) → IsRunFrom ms s u vs → Contains (u ∷ vs) x →
    Contains (u ∷ vs) y → number_of x < number_of y →
    (n : Mark) × (p : Step) × IsFirstAt ms s x n p
step_at ms s u [] x y run first second less = let same : number_of x ≡ number_of y =
    ap number_of (sym (in_one u x first) ∙ in_one u y second) in absurd (omega arith)
step_at ms s u (v ∷ vs) x y (m, p, at, can, is, rest) first second less = elim (in_cases u x (v ∷ vs) first) [
  | inl e ↦ (m, p, subst (λ z. IsFirstAt ms s z m p) e at)
  | inr after ↦ elim (in_cases u y (v ∷ vs) second) [
    | inl f ↦
        let low = run_rises ms s v vs x rest after in
        let up : number_of v ≡ number_of u + 1 = ap number_of is ∙ number_stepped p u can in
        let same : number_of u ≡ number_of y = ap number_of f in
        absurd (omega arith)
    | inr after' ↦ step_at ms s v vs x y rest after after' less
  ]
]

-- each mark finds the word that those before it leave
finds_left : (ms : List Mark) (slots : Slots ms) → AllPairs Rises ms → FindsNoLess ms → FindsLeft ms slots
finds_left ms slots rises seen front back m parts h =
    let (vs, run, one) = slots m.slot in
    let among = in_middle front back ms m parts in
    let found = one.found m among refl in
    let lies = h.lies m.slot in
    same_word ms m.slot 0 vs m.found (word_from front m.slot 0) run found lies (even _ _ (no_more vs run found lies) no_less)
  where
    even : (a b : ℕ) → (b < a → ⊥) → b ≤ a → a ≡ b
    even a b none le = elim (cases_lt b a) [ inl less ↦ absurd (none less) | inr low ↦ omega arith ]

    cut : AllPairs Rises (front ++ m ∷ back)
    cut = subst (λ z. AllPairs Rises z) parts rises

    no_less : number_of (word_from front m.slot 0) ≤ number_of m.found
    no_less =
        let (ws, path, founds) = h.runs.path m.slot in
        elim (path_left front m.slot 0 ws (word_from front m.slot 0) path) [
          | inl e ↦ let zero_number : number_of 0 ≡ number_of (word_from front m.slot 0) = ap number_of e in omega arith
          | inr (k, before, slot, left) ↦
              let there = in_front front (m ∷ back) ms k parts before in
              let least = seen k m there (in_middle front back ms m parts)
              (pairs_across Rises front (m ∷ back) k m cut before (first_in m back)) slot in
              omega arith
        ]

    no_more : (vs : List ℕ) → IsRunFrom ms m.slot 0 vs → Contains (0 ∷ vs) m.found → Contains (0 ∷ vs) (word_from front m.slot 0) →
        number_of (word_from front m.slot 0) < number_of m.found → ⊥
    no_more vs run found lies less =
        let (n, p, at) = step_at ms m.slot 0 vs (word_from front m.slot 0) m.found run lies found less in
        let same : number_of n.found ≡ number_of (word_from front m.slot 0) = ap number_of at.found in
        elim (Contains-append_cases front (m ∷ back) n (subst (λ z. Contains z n) parts at.among)) [
          | inl before ↦
              let low = h.runs.counted n before (made_some n.step p at.step) in
              let word : number_of (word_from front n.slot 0) ≡ number_of (word_from front m.slot 0) =
              ap (λ s. number_of (word_from front s 0)) at.slot in
              omega arith
          | inr from ↦ elim (in_cases m n back from) [
            | inl e ↦ let here : number_of m.found ≡ number_of n.found = ap (λ (z : Mark). number_of z.found) e in omega arith
            | inr after ↦
                let least = seen m n (in_middle front back ms m parts) at.among
                (pairs_head Rises m n back (pairs_after Rises front (m ∷ back) cut) after) (sym at.slot) in
                let more = found_left m in
                omega arith
          ]
        ]

pub numbers : (ms : List Mark) → Slots ms → AllPairs Rises ms → FindsNoLess ms → AreNumbersInFileOrder ms
numbers ms slots rises seen m among =
    let (front, back, parts) = parts_at ms m among in
    let h = front_of ms slots front (m ∷ back) rises (finds_left ms slots rises seen) parts in
    ap number_of (finds_left ms slots rises seen front back m parts h) ∙ h.counted m.slot ∙ sym (steps_at ms front back m rises parts)

pub one_thread : (t : Trace) (r : Told) → IsWithinLimits t → t.threads ≡ 1 → IsLegalTold t r →
    IsInFileOrder (records_of t r) r.pools r.roots r.cells
one_thread t r limits one h =
    let ps = records_of t r in
    let lines = records_are_lines.lines (rules_of t) t.lines r.entries h.lines in
    let alone : IsAlone ps = λ x y among among'.
    let (a, within) = records_within t ps x limits lines among in
    let (b, within') = records_within t ps y limits lines among' in
    omega arith in
    record {
      journals = journals_sorted t.partitions ps r.pools r.roots alone h.roots;
      pool = pool_sorted t.region t.partitions ps r.pools r.roots alone h.roots h.pool;
      exchanges = cells_sorted r.cells ps alone h.cells;
      numbers = numbers (marks_of ps) h.slots (marks_rise ps (lines_rise (rules_of t) t.lines ps lines))
          (finds_no_less r.cells ps alone h.seen);
      contents = exact_contents (usable_of t.version) r.cells ps alone h.contents;
    }
