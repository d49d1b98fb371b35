-- Four runs that have no timeline, by what their reads gave.
use Rattle.std.proofs.Common.{◌≡◌, ℕ, ◌<◌, Bool, true, false, List, [], ◌∷◌, ◌++◌, map, drop, length, get_or, Some, refl, sym, ◌∙◌, ap, subst, arith, inl, inr, append_assoc}
use Rattle.std.specs.Prelude.{Contains, AllPairs, ◌≢◌, ◌==◌, ◌||◌, ◌&&◌}
use Rattle.std.specs.List.{flat_map, list_all}
use Rattle.std.proofs.lemmas.Bool.{eqb-true, both_ways}
use Rattle.pa_slot.specs.declared.word.Step.TheVariants as steps
use Rattle.pa_slot.specs.Titles.{poison}
use Rattle.pa_trace.specs.declared.script.Op.TheVariants as ops
use Rattle.pa_trace.specs.Rules.{first_rules, rules_of}
use Rattle.pa_record.specs.declared.entry.Answer.TheVariants as answers
use Rattle.pa_record.specs.declared.history.CellEntry.{CellEntry}
use Rattle.pa_record.specs.declared.pool.PoolEntry.{PoolEntry}
use Rattle.pa_record.specs.declared.root.RootEntry.{RootEntry}
use Rattle.pa_lists.proofs.Elements.{passes}
use Rattle.pa_lists.proofs.Indexed.{at_in}
use Rattle.pa_lists.proofs.Joined.{map_in, flat_in}
use Rattle.pa_lists.proofs.Tests.{both_true}
use Rattle.pa_rules.specs.declared.played.Played.{Played}
use Rattle.pa_rules.specs.Played.{mark_at}
use Rattle.pa_rules.specs.Registers.{usable_in}
use Rattle.pa_rules.specs.Roots.{journal_at}
use Rattle.pa_rules.specs.Order.{StandsBefore}
use Rattle.pa_rules.proofs.Numbering.{lines_differ}
use Rattle.pa_rules.proofs.Running.{one_by}
use Rattle.pa_timeline.specs.Timeline.{Part, Asking, Entering, Swapping, Looking, Loading, Spoiling, Counting, Moment, due_parts, part_swaps, moment_leaves, IsTimeline, GivesAt}
use Rattle.pa_timeline.specs.Worked.{lower_slot, slot_seen, one_fill, early_trace, early_records, ReadBeforeFreeHasNone}
use Rattle.pa_timeline.proofs.Places.{IsAt, cut_one, in_two, by_list, part_on, parts_kept, moment, placed, by_line, by_number}
use Rattle.pa_timeline.specs.WorkedReads.{gone_poison_trace, gone_poison_records, GonePoisonHasNone, wide_fill, second_word_trace, second_word_records, SecondWordHasNone, copied_trace, copied_records, CopiedHasNone}
use Rattle.pa_timeline.proofs.Left.{leaves_as, either_of, left_stays, changed_before}

-- the record at a place, and its steps by the journal
abbrev record_in : List Played → ℕ → Played
record_in records i = get_or records i
    (record { line = 0; thread = 0; phase = 0; rules = first_rules 1; op = ops.Purge; answer = answers.Nothing })

abbrev due_in : List Played → List RootEntry → Played → List Part
due_in records journal x = due_parts (usable_in records) 1 (journal_at (journal ∷ [])) x

abbrev moments_in : List Played → List RootEntry → List Moment
moments_in records journal = flat_map (λ x. map (moment x) (due_in records journal x)) records

-- a step of a record is among them
among_all : (records : List Played) (journal : List RootEntry) (z : Moment) → Contains records z.x →
    Contains (due_in records journal z.x) z.part → Contains (moments_in records journal) z
among_all records journal z of due =
    flat_in (λ x. map (moment x) (due_in records journal x)) records z.x z of (map_in (moment z.x) (due_in records journal z.x) z.part due)

not_zero : poison ≡ 0 → ⊥
not_zero e = omega arith

-- ---- poisonings on line 7

abbrev spoils : ℕ → Part → Bool
spoils place (Spoiling word) = word == place
spoils place part = false

spoils_is : (place : ℕ) (part : Part) → spoils place part ≡ true → part ≡ Spoiling place
spoils_is place Asking e = absurd cc
spoils_is place (Entering p act) e = absurd cc
spoils_is place Swapping e = absurd cc
spoils_is place Looking e = absurd cc
spoils_is place Loading e = absurd cc
spoils_is place (Spoiling word) e = ap Spoiling (eqb-true word place e)
spoils_is place Counting e = absurd cc

-- the poisoning of this word alone leaves something else than 0 in it
abbrev spoils_alone : ℕ → Moment → Bool
spoils_alone place z = leaves_as 0 (moment_leaves lower_slot place z) || ((z.x.line == 7) && spoils place z.part)

-- what leaves something else than poison in the first word is of the first phase
abbrev cleans_early : Moment → Bool
cleans_early z = leaves_as poison (moment_leaves lower_slot 0 z) || (z.x.phase == 1)

-- what isn't clean by the first test is the poisoning of the word by the free
the_poisoning : (records : List Played) (free : Played) (place : ℕ) (z : Moment) → AllPairs (λ (x y : Played). x.line ≢ y.line) records →
    Contains records free → free.line ≡ 7 → Contains records z.x → spoils_alone place z ≡ true →
    leaves_as 0 (moment_leaves lower_slot place z) ≡ false → z ≡ moment free (Spoiling place)
the_poisoning records free place z differ there line of test changes =
    elim (either_of (leaves_as 0 (moment_leaves lower_slot place z)) ((z.x.line == 7) && spoils place z.part) test) [
      | inl clean ↦ absurd (both_ways _ changes clean)
      | inr both ↦
          let (at_line, part) = both_true (z.x.line == 7) (spoils place z.part) both in
          let same : z.x ≡ free = one_by (λ (y : Played). y.line) records z.x free differ of there
          (eqb-true z.x.line 7 at_line ∙ sym line) in
          ap (λ (y : Played). moment y z.part) same ∙ ap (moment free) (spoils_is place z.part part)
    ]

before_second : (x y : Played) → y.phase ≡ 2 → (x.phase == 1) ≡ true → StandsBefore x y
before_second x y second first = inr (let e = eqb-true x.phase 1 first in omega arith)

-- ---- in a timeline of records with one journal

module _ (records : List Played) (journal : List RootEntry) (pools : List PoolEntry) (cells : ℕ → List CellEntry) (ms : List Moment)
    (t : IsTimeline (usable_in records) 1 records pools (journal_at (journal ∷ [])) cells ms) where
  -- a read of poison comes after a step that left something else than 0
  changer_before : (place i : ℕ) (y : Moment) → IsAt ms i y → y.part ≡ Loading →
      GivesAt y.x.op y.x.answer (slot_seen lower_slot 0x2000003) place poison →
      (k : ℕ) × (z : Moment) × IsAt ms k z × (k < i) × Contains records z.x × Contains (moments_in records journal) z
      × (leaves_as 0 (moment_leaves lower_slot place z) ≡ false)
  changer_before place i y at_i loads gives =
      let (us, vs, cut, length) = cut_one ms i y at_i in
      let given = t.reads us vs y (slot_seen lower_slot 0x2000003) place poison cut loads gives in
      let (k, z, at_z, low, of, due, changes) =
      changed_before _ _ _ _ _ ms t.ordered lower_slot place us vs y cut (λ zero. not_zero (given ∙ zero)) in
      (k, z, at_z, omega arith, of, among_all records journal z of due, changes)

  -- a read that gives poison comes after the free on line 7 poisoned the word, if nothing else leaves something other than 0 in it
  poisoned_before : AllPairs (λ (x y : Played). x.line ≢ y.line) records → (free : Played) → Contains records free → free.line ≡ 7 →
      (place : ℕ) → list_all (spoils_alone place) (moments_in records journal) ≡ true → (i : ℕ) (y : Moment) → IsAt ms i y →
      y.part ≡ Loading → GivesAt y.x.op y.x.answer (slot_seen lower_slot 0x2000003) place poison →
      (k : ℕ) × IsAt ms k (moment free (Spoiling place)) × (k < i)
  poisoned_before differ free there line place alone i y at_i loads gives =
      let (k, z, at_z, low, of, among, changes) = changer_before place i y at_i loads gives in
      let it : z ≡ moment free (Spoiling place) =
      the_poisoning records free place z differ there line of
      (passes (spoils_alone place) (moments_in records journal) z alone among) changes in
      (k, subst (λ m. IsAt ms k m) it at_z, low)

  -- after a free of phase 2 poisoned the first word, no read gives 0 there if only steps of phase 1 leave something other than poison
  no_content_after : (free : Played) → free.phase ≡ 2 → moment_leaves lower_slot 0 (moment free (Spoiling 0)) ≡ Some poison →
      list_all cleans_early (moments_in records journal) ≡ true → (k j : ℕ) (y : Moment) → IsAt ms k (moment free (Spoiling 0)) →
      IsAt ms j y → k < j → y.part ≡ Loading → GivesAt y.x.op y.x.answer (slot_seen lower_slot 0x2000003) 0 0 → ⊥
  no_content_after free phase left early k j y at_k at_j up loads gives =
      let (us, ws, cut, content) = left_stays _ _ _ _ _ ms t.ordered lower_slot 0 poison k j (moment free (Spoiling 0)) y at_k at_j up left
      (λ z of due. elim (either_of (leaves_as poison (moment_leaves lower_slot 0 z)) (z.x.phase == 1)
      (passes cleans_early (moments_in records journal) z early (among_all records journal z of due))) [
        | inl kept ↦ inl kept
        | inr first ↦ inr (before_second z.x free phase first)
      ]) in
      not_zero (sym (t.reads us ws y (slot_seen lower_slot 0x2000003) 0 0 cut loads gives ∙ content))

-- ---- poison, and then the content again

abbrev gone_due : Played → List Part
gone_due x = due_in gone_poison_records one_fill x

abbrev gone_at : ℕ → Played
gone_at i = record_in gone_poison_records i

gone_spoils : list_all (spoils_alone 0) (moments_in gone_poison_records one_fill) ≡ true
gone_spoils = refl

gone_cleans : list_all cleans_early (moments_in gone_poison_records one_fill) ≡ true
gone_cleans = refl

pub gone_poison_has_none : GonePoisonHasNone
gone_poison_has_none report (ms, t) =
    let all = gone_poison_records in
    let differ = lines_differ (rules_of gone_poison_trace) gone_poison_trace.lines gone_poison_records refl in
    let (i, at_i) = placed _ _ _ _ _ ms t.ordered differ (gone_at 5) Loading (at_in all 5 (gone_at 5) refl)
    (at_in (gone_due (gone_at 5)) 1 Loading refl) in
    let (j, at_j) = placed _ _ _ _ _ ms t.ordered differ (gone_at 6) Loading (at_in all 6 (gone_at 6) refl)
    (at_in (gone_due (gone_at 6)) 1 Loading refl) in
    let a = by_line _ _ _ _ _ ms t.ordered i j (moment (gone_at 5) Loading) (moment (gone_at 6) Loading) at_i at_j
    (inl (refl, omega arith)) in
    let (k, at_k, low) = poisoned_before all one_fill _ _ ms t differ (gone_at 4) (at_in all 4 (gone_at 4) refl) refl 0 gone_spoils
    i (moment (gone_at 5) Loading) at_i refl (refl, inl refl) in
    no_content_after all one_fill _ _ ms t (gone_at 4) refl refl gone_cleans k j (moment (gone_at 6) Loading) at_k at_j (omega arith) refl
    (refl, inl refl)

-- ---- poison in the second word, and then the content in the first

abbrev second_due : Played → List Part
second_due x = due_in second_word_records wide_fill x

abbrev second_at : ℕ → Played
second_at i = record_in second_word_records i

second_spoils : list_all (spoils_alone 1) (moments_in second_word_records wide_fill) ≡ true
second_spoils = refl

second_cleans : list_all cleans_early (moments_in second_word_records wide_fill) ≡ true
second_cleans = refl

-- the steps of the free don't have the first word's poisoning after the second's
abbrev has_first : List Part → Bool
has_first [] = false
has_first (part ∷ parts) = spoils 0 part || has_first parts

or_true : (b : Bool) → (b || true) ≡ true
or_true true = refl
or_true false = refl

first_there : (us ws : List Part) → has_first (us ++ Spoiling 0 ∷ ws) ≡ true
first_there [] ws = refl
first_there (u ∷ us) ws = ap (λ b. spoils 0 u || b) (first_there us ws) ∙ or_true (spoils 0 u)

never_back : (us vs ws : List Part) → Spoiling 0 ∷ Spoiling 1 ∷ Spoiling 2 ∷ Counting ∷ [] ≡ us ++ Spoiling 1 ∷ (vs ++ Spoiling 0 ∷ ws) → ⊥
never_back [] vs ws e = both_ways (has_first (Spoiling 1 ∷ Spoiling 2 ∷ Counting ∷ [])) refl
    (ap (λ zs. has_first (drop 1 zs)) e ∙ first_there vs ws)
never_back (u ∷ us) vs ws e =
    let later : has_first (us ++ Spoiling 1 ∷ (vs ++ Spoiling 0 ∷ ws)) ≡ true =
    ap has_first (sym (append_assoc us (Spoiling 1 ∷ vs) (Spoiling 0 ∷ ws))) ∙ first_there (us ++ Spoiling 1 ∷ vs) ws in
    both_ways (has_first (Spoiling 1 ∷ Spoiling 2 ∷ Counting ∷ [])) refl (ap (λ zs. has_first (drop 1 zs)) e ∙ later)

not_the_first : Spoiling 0 ≡ Spoiling 1 → ⊥
not_the_first e = both_ways (spoils 0 (Spoiling 1)) refl (sym (ap (spoils 0) e))

pub second_word_has_none : SecondWordHasNone
second_word_has_none report (ms, t) =
    let all = second_word_records in
    let differ = lines_differ (rules_of second_word_trace) second_word_trace.lines second_word_records refl in
    let (i, at_i) = placed _ _ _ _ _ ms t.ordered differ (second_at 5) Loading (at_in all 5 (second_at 5) refl)
    (at_in (second_due (second_at 5)) 1 Loading refl) in
    let (j, at_j) = placed _ _ _ _ _ ms t.ordered differ (second_at 6) Loading (at_in all 6 (second_at 6) refl)
    (at_in (second_due (second_at 6)) 1 Loading refl) in
    let (l, at_l) = placed _ _ _ _ _ ms t.ordered differ (second_at 4) (Spoiling 0) (at_in all 4 (second_at 4) refl)
    (at_in (second_due (second_at 4)) 0 (Spoiling 0) refl) in
    let a = by_line _ _ _ _ _ ms t.ordered i j (moment (second_at 5) Loading) (moment (second_at 6) Loading) at_i at_j
    (inl (refl, omega arith)) in
    let (k, at_k, low) = poisoned_before all wide_fill _ _ ms t differ (second_at 4) (at_in all 4 (second_at 4) refl) refl 1 second_spoils
    i (moment (second_at 5) Loading) at_i refl (refl, inl refl) in
    let b = by_list (part_on 7) ms l k (moment (second_at 4) (Spoiling 0)) (moment (second_at 4) (Spoiling 1)) (Spoiling 0)
    (Spoiling 1) at_l at_k refl refl not_the_first
    (λ us vs ws e. never_back us vs ws (sym (parts_kept 7 ms ∙ t.ordered.whole (second_at 4) (at_in all 4 (second_at 4) refl)) ∙ e)) in
    no_content_after all wide_fill _ _ ms t (second_at 4) refl refl second_cleans l j (moment (second_at 6) Loading) at_l at_j
    (omega arith) refl (refl, inl refl)

-- ---- poison before the free

-- all steps of the run but those of its free, on line 10, leave the word 0
abbrev frees_last : Moment → Bool
frees_last z = leaves_as 0 (moment_leaves lower_slot 0 z) || (z.x.line == 10)

abbrev early_due : Played → List Part
early_due x = due_in early_records one_fill x

abbrev early_at : ℕ → Played
early_at i = record_in early_records i

early_frees : list_all frees_last (moments_in early_records one_fill) ≡ true
early_frees = refl

pub early_has_none : ReadBeforeFreeHasNone
early_has_none report (ms, t) =
    let all = early_records in
    let differ = lines_differ (rules_of early_trace) early_trace.lines early_records refl in
    let (i, at_i) = placed _ _ _ _ _ ms t.ordered differ (early_at 4) Loading (at_in all 4 (early_at 4) refl)
    (at_in (early_due (early_at 4)) 1 Loading refl) in
    let (j, at_j) = placed _ _ _ _ _ ms t.ordered differ (early_at 5) Swapping (at_in all 5 (early_at 5) refl)
    (at_in (early_due (early_at 5)) 0 Swapping refl) in
    let (k, at_k) = placed _ _ _ _ _ ms t.ordered differ (early_at 6) Swapping (at_in all 6 (early_at 6) refl)
    (at_in (early_due (early_at 6)) 0 Swapping refl) in
    let a = by_line _ _ _ _ _ ms t.ordered i j (moment (early_at 4) Loading) (moment (early_at 5) Swapping) at_i at_j
    (inl (refl, omega arith)) in
    let b = by_list (λ (m : Moment). part_swaps 1 m.x.line m.x.op m.part) ms j k (moment (early_at 5) Swapping)
    (moment (early_at 6) Swapping) 8 9 at_j at_k refl refl (λ e. omega arith)
    (λ us vs ws e. let (first, second) = in_two 8 9 8 9 us vs ws (sym (t.ordered.exchanges 1) ∙ e) in omega arith) in
    let (n, z, at_z, low, of, among, changes) =
    changer_before all one_fill _ _ ms t 0 i (moment (early_at 4) Loading) at_i refl (refl, inl refl) in
    elim (either_of (leaves_as 0 (moment_leaves lower_slot 0 z)) (z.x.line == 10)
    (passes frees_last (moments_in all one_fill) z early_frees among)) [
      | inl clean ↦ both_ways _ changes clean
      | inr last ↦
          let same : z.x ≡ early_at 7 =
          one_by (λ (y : Played). y.line) all z.x (early_at 7) differ of (at_in all 7 (early_at 7) refl)
          (eqb-true z.x.line 10 last) in
          let c = by_line _ _ _ _ _ ms t.ordered k n (moment (early_at 6) Swapping) z at_k at_z
          (subst (λ y. StandsBefore (early_at 6) y) (sym same) (inl (refl, omega arith))) in
          omega arith
    ]

-- ---- poison before a copy that the freeing thread found

abbrev copied_due : Played → List Part
copied_due x = due_in copied_records one_fill x

abbrev copied_at : ℕ → Played
copied_at i = record_in copied_records i

copied_frees : list_all frees_last (moments_in copied_records one_fill) ≡ true
copied_frees = refl

pub copied_has_none : CopiedHasNone
copied_has_none report (ms, t) =
    let all = copied_records in
    let differ = lines_differ (rules_of copied_trace) copied_trace.lines copied_records refl in
    let (i, at_i) = placed _ _ _ _ _ ms t.ordered differ (copied_at 4) Loading (at_in all 4 (copied_at 4) refl)
    (at_in (copied_due (copied_at 4)) 1 Loading refl) in
    let (j, at_j) = placed _ _ _ _ _ ms t.ordered differ (copied_at 5) Counting (at_in all 5 (copied_at 5) refl)
    (at_in (copied_due (copied_at 5)) 0 Counting refl) in
    let (k, at_k) = placed _ _ _ _ _ ms t.ordered differ (copied_at 6) Counting (at_in all 6 (copied_at 6) refl)
    (at_in (copied_due (copied_at 6)) 0 Counting refl) in
    let a = by_line _ _ _ _ _ ms t.ordered i j (moment (copied_at 4) Loading) (moment (copied_at 5) Counting) at_i at_j
    (inl (refl, omega arith)) in
    let b = by_number _ _ _ _ _ ms t.ordered j k (moment (copied_at 5) Counting) (moment (copied_at 6) Counting)
    (mark_at 8 (slot_seen lower_slot 0x2000003) (Some steps.Copy)) (mark_at 9 (slot_seen lower_slot 0x3000005) (Some steps.Copy))
    at_j at_k (inr refl) (inr refl) refl refl refl (omega arith) in
    let (n, z, at_z, low, of, among, changes) =
    changer_before all one_fill _ _ ms t 0 i (moment (copied_at 4) Loading) at_i refl (refl, inl refl) in
    elim (either_of (leaves_as 0 (moment_leaves lower_slot 0 z)) (z.x.line == 10)
    (passes frees_last (moments_in all one_fill) z copied_frees among)) [
      | inl clean ↦ both_ways _ changes clean
      | inr last ↦
          let same : z.x ≡ copied_at 7 =
          one_by (λ (y : Played). y.line) all z.x (copied_at 7) differ of (at_in all 7 (copied_at 7) refl)
          (eqb-true z.x.line 10 last) in
          let c = by_line _ _ _ _ _ ms t.ordered k n (moment (copied_at 6) Counting) z at_k at_z
          (subst (λ y. StandsBefore (copied_at 6) y) (sym same) (inl (refl, omega arith))) in
          omega arith
    ]
