-- The worked run of two threads meets all that is required of annotated records.
use Rattle.std.proofs.Common.{◌≡◌, ℕ, zero, suc, ◌<◌, ◌⊎◌, Bool, true, false, ◌&&◌, eqb, List, [], ◌∷◌, map, lit<, lit≤, add-one, refl, sym, ◌∙◌, ap, subst, arith, inl, inr}
use Rattle.std.proofs.lemmas.Bool.{true≢false, eqb-true, eq-eqb, and_from, cases_lt, cases_Bool}
use Rattle.pa_slot.specs.declared.title.Title.{Title}
use Rattle.pa_slot.specs.declared.word.Step.TheVariants.{Issue, Copy, Reset, Free}
use Rattle.pa_slot.specs.Count.{number_of, held_of}
use Rattle.pa_slot.specs.Titles.{poison}
use Rattle.pa_slot.specs.Holdings.{one}
use Rattle.pa_trace.specs.Rules.{rules_of}
use Rattle.pa_region.specs.declared.view.Entry.{Entry}
use Rattle.pa_region.specs.declared.view.Entry.TheVariants.{Looked, Read}
use Rattle.pa_region.specs.declared.view.View.{View}
use Rattle.pa_region.specs.History.{Done, IsChained}
use Rattle.pa_region.specs.Contents.{content_at_number}
use Rattle.pa_region.specs.Moves.{no_deeds}
use Rattle.pa_region.specs.Pairs.{pairs, paired_of_by, logged_of_by}
use Rattle.pa_region.specs.Waiting.{quiet_read, IsFreedElsewhere}
use Rattle.pa_region.proofs.OneRead.{one_true, quiet_tells}
use Rattle.pa_trace.specs.declared.script.Op.TheVariants as ops
use Rattle.pa_record.specs.declared.entry.Seen.{Seen}
use Rattle.pa_record.specs.declared.entry.Answer.TheVariants.{Value}
use Rattle.pa_record.specs.declared.run.Run.{Run}
use Rattle.pa_lists.proofs.Members.{of_some, not_some}
use Rattle.pa_rules.specs.declared.played.Played.{Played}
use Rattle.pa_rules.specs.Played.{entry_of, played}
use Rattle.pa_rules.specs.Registers.{Regs}
use Rattle.pa_rules.specs.Contents.{HasRegs}
use Rattle.pa_rules.specs.Sizes.{usable_of}
use Rattle.pa_rules.specs.Seen.{HandsTo}
use Rattle.pa_rules.specs.Told.{told_by, records_of}
use Rattle.pa_rules.proofs.Recorded.{records_are_lines}
use Rattle.pa_legal.specs.Known.{IsKnown}
use Rattle.pa_examples.specs.Worked.{IsRunOf, seen_at, two_threads_trace, two_threads_records, two_threads_journal, two_threads_pool, two_threads_history, two_threads_report}
use Rattle.pa_one_run.specs.Parts.{cell_line}
use Rattle.pa_examples.proofs.worked.Lists.{each}
use Rattle.pa_examples.proofs.worked.Knowing.{two_threads_are_known}
use Rattle.pa_examples.proofs.worked.Threads.{cells, lines}
use Rattle.pa_examples.proofs.worked.ThreadsRead.{after_take, has_regs}
use Rattle.pa_logs.specs.Told.{ToldRecord, told_of, told_until, log_of}
use Rattle.pa_logs.specs.Touches.{IsTold, AreTold, title_of, IsReadTold}
use Rattle.pa_logs.specs.Reads.{KnowsAll, HaveEnds, HaveReaders, ReadsThrough}
use Rattle.pa_logs.specs.Viewed.{AreViewed}
use Rattle.pa_logs.specs.Whole.{IsPlayedOut}
use Rattle.pa_logs.specs.Worked.{sixteen, its_title, view_of}
use Rattle.pa_examples.specs.told.Threads.{read_poison, the_read, threads_worked, threads_told, TwoThreadsArePlayedOut}
use Rattle.pa_examples.specs.told.Worked.{told_record}
use Rattle.pa_examples.proofs.told.Alone.{of_run}
use Rattle.pa_examples.proofs.told.Knowing.{below, of_thread, IsOfOne, knows_one}
use Rattle.pa_examples.proofs.told.Seen.{viewed}

-- each log segment is what its answer requires
told : AreTold sixteen threads_told
told x among = each (IsTold sixteen) threads_told (
  (([], tt, refl), refl),
  (
    ([], tt, refl),
    (
      refl,
      (
        ([], tt, refl),
        (
          refl,
          (
            (
              refl,
              (
                0,
                0,
                false,
                refl,
                record {
                  since = no_deeds;
                  unclean = false;
                  rest = [];
                  pair = refl;
                  none = refl;
                  quiet = refl;
                  clean = refl;
                  in_use = omega arith;
                },
              ),
            ),
            (
              (
                refl,
                (
                  0,
                  0,
                  false,
                  refl,
                  record {
                    since = no_deeds;
                    unclean = false;
                    rest = [];
                    pair = refl;
                    none = refl;
                    quiet = refl;
                    clean = refl;
                    in_use = omega arith;
                  },
                ),
              ),
              (([], tt, refl), tt),
            ),
          ),
        ),
      ),
    ),
  ),
) x among

-- the slot's history after each phase
abbrev pub steps_first : List Done
steps_first = record { step = Copy; value = 0 } ∷ record { step = Issue; value = 0 } ∷ []

abbrev pub steps_second : List Done
steps_second = record { step = Free; value = 0 } ∷ steps_first

abbrev pub steps_last : List Done
steps_last = record { step = Reset; value = 0 } ∷ steps_second

abbrev pub told_first : List ToldRecord
told_first = told_until 1 threads_told

abbrev pub told_second : List ToldRecord
told_second = told_until 2 threads_told

pub chained_first : IsChained (told_of told_first) its_title steps_first
chained_first = record {
  legal = ((omega arith, omega arith, omega arith), (((refl, refl), omega arith, tt), tt));
  steps = (refl, (refl, tt));
  numbers = λ k. let b = below 2 k in omega arith;
  all = refl;
  looks = λ word some_look. absurd (omega arith);
}

chained_second : IsChained (told_of told_second) its_title steps_second
chained_second = record {
  legal = ((refl, omega arith, tt), chained_first.legal);
  steps = (refl, (refl, (refl, tt)));
  numbers = λ k. let b = below 3 k in omega arith;
  all = refl;
  looks = λ word some_look. inr (inl (sym (eqb-true 33554435 word (one_true _ (omega arith)))));
}

chained_last : IsChained (told_of threads_told) its_title steps_last
chained_last = record {
  legal = ((omega arith, omega arith, tt), chained_second.legal);
  steps = (refl, (refl, (refl, (refl, tt))));
  numbers = λ k. let b = below 4 k in omega arith;
  all = refl;
  looks = λ word some_look. elim (cases_lt 0 (one (eqb 33554435 word))) [
    | inl look ↦ inr (inr (inl (sym (eqb-true 33554435 word (one_true _ look)))))
    | inr none ↦ inr (inl (sym (eqb-true 50331650 word (one_true _ (omega arith)))))
  ];
}

-- a quiet read without an Own, of the slot
read_is : (t : Title) (word found value : ℕ)
    → 0 < quiet_read false t found value (Looked its_title word) (Read its_title 0 poison no_deeds false false)
    → (its_title ≡ t) × (word ≡ found) × (poison ≡ value)
read_is t word found value some_pair =
    let is = quiet_tells false t found value (Looked its_title word) its_title 0 poison no_deeds false false some_pair in
    (is.title, found_is its_title t word found is.looked, is.gave)
  where
    found_is : (a b : Title) (w u : ℕ) → Looked a w ≡ Looked b u → w ≡ u
    found_is a b w u e = cc

-- no quiet read is through an Own
not_owned : (t : Title) (word found value : ℕ) →
    0 < quiet_read true t found value (Looked its_title word) (Read its_title 0 poison no_deeds false false) → ⊥
not_owned t word found value some_pair =
    let is = quiet_tells true t found value (Looked its_title word) its_title 0 poison no_deeds false false some_pair in
    true≢false (sym is.owner)

-- what the second thread's reads gave by a history in which the first thread's free is the next one
abbrev pub GaveRef : List ToldRecord → List Done → ℕ → Title → ℕ → ℕ → Type 0
GaveRef ts steps r t found value =
    (its_title ≡ t) × ((value ≡ content_at_number (number_of found) steps) ⊎
    ((value ≡ poison) × IsFreedElsewhere (logged_of_by (view_of ts)) steps its_title r (number_of found)))

module _ (ts : List ToldRecord) (steps : List Done) (freed : IsFreedElsewhere (logged_of_by (view_of ts)) steps its_title 1 2) where
  gave : (t : Title) (found value : ℕ) →
      0 < quiet_read false t found value (Looked its_title 33554435) (Read its_title 0 poison no_deeds false false) →
      GaveRef ts steps 1 t found value
  gave t found value some_pair =
      let (title, word, is) = read_is t 33554435 found value some_pair in
      (title, inr (sym is, subst (λ w. IsFreedElsewhere (logged_of_by (view_of ts)) steps its_title 1 (number_of w)) word freed))

-- a look that found the bit 0 is no look at a held slot
not_held : (t : Title) (found value : ℕ) → held_of found ≡ 1 →
    0 < quiet_read false t found value (Looked its_title 50331650) (Read its_title 0 poison no_deeds false false) → ⊥
not_held t found value held some_pair =
    let (title, word, is) = read_is t 50331650 found value some_pair in
    let bit : 0 ≡ held_of found = ap held_of word in
    absurd (omega arith)

-- only the second thread reads
module _ (ts : List ToldRecord) (r : ℕ) (weight : Entry → Entry → ℕ) (P : ℕ → Type 0)
    (none : pairs weight (log_of 0 ts) ≡ 0) (others : eqb 0 r ≡ false → eqb 1 r ≡ false → pairs weight (log_of r ts) ≡ 0) where
  pub by_second : 0 < paired_of_by (view_of ts) r weight → (0 < pairs weight (log_of 1 ts) → P 1) → P r
  by_second some_pair has =
      let mine = of_thread ts r (pairs weight) some_pair in
      elim (cases_Bool (eqb 1 r)) [
        | inl e ↦ let same = eqb-true 1 r e in subst P same (has (subst (λ q. 0 < pairs weight (log_of q ts)) (sym same) mine))
        | inr n ↦ elim (cases_Bool (eqb 0 r)) [
          | inl e ↦
              let first : 0 < pairs weight (log_of 0 ts) = subst (λ q. 0 < pairs weight (log_of q ts)) (sym (eqb-true 0 r e)) mine in
              absurd (omega arith)
          | inr m ↦ let gone = others m n in absurd (omega arith)
        ]
      ]

freed_second : IsFreedElsewhere (logged_of_by (view_of told_second)) steps_second its_title 1 2
freed_second = (2, record { behind = lit≤ tt; none_before = refl; here = refl }, refl)

freed_last : IsFreedElsewhere (logged_of_by (view_of threads_told)) steps_last its_title 1 2
freed_last = (2, record { behind = lit≤ tt; none_before = refl; here = refl }, refl)

pub of_first : IsOfOne told_first steps_first
of_first = record {
  low = λ x among. each (λ (y : ToldRecord). y.played.thread < 16) told_first (lit< tt, (lit< tt, (lit< tt, tt))) x among;
  chained = chained_first;
  other = λ t other. record { at = λ k. rw other refl; on = rw other refl; looked = λ word. refl; named = rw other refl };
  freed = refl;
  own = λ t found value some_pair. absurd (omega arith);
  ref = λ r t found value held some_pair.
      by_second told_first r (quiet_read false t found value) (λ q. GaveRef told_first steps_first q t found value) refl
      (λ a b. rw a refl) some_pair
      (λ mine. absurd (omega arith));
}

pub of_second : IsOfOne told_second steps_second
of_second = record {
  low = λ x among. each (λ (y : ToldRecord). y.played.thread < 16) told_second
      (lit< tt, (lit< tt, (lit< tt, (lit< tt, (lit< tt, (lit< tt, tt)))))) x among;
  chained = chained_second;
  other = λ t other. record { at = λ k. rw other refl; on = rw other refl; looked = λ word. rw other refl; named = rw other refl };
  freed = refl;
  own = λ t found value some_pair. not_owned t 33554435 found value (omega arith);
  ref = λ r t found value held some_pair.
      by_second told_second r (quiet_read false t found value) (λ q. GaveRef told_second steps_second q t found value) refl
      (λ a b. rw (a, b) refl) some_pair
      (λ mine. gave told_second steps_second freed_second t found value (omega arith));
}

pub of_last : IsOfOne threads_told steps_last
of_last = record {
  low = λ x among. each (λ (y : ToldRecord). y.played.thread < 16) threads_told
      (lit< tt, (lit< tt, (lit< tt, (lit< tt, (lit< tt, (lit< tt, (lit< tt, (lit< tt, tt)))))))) x among;
  chained = chained_last;
  other = λ t other. record { at = λ k. rw other refl; on = rw other refl; looked = λ word. rw other refl; named = rw other refl };
  freed = refl;
  own = λ t found value some_pair.
      elim (cases_lt 0 (quiet_read true t found value (Looked its_title 33554435) (Read its_title 0 poison no_deeds false false))) [
        | inl early ↦ not_owned t 33554435 found value early
        | inr none ↦ not_owned t 50331650 found value (omega arith)
      ];
  ref = λ r t found value held some_pair.
      by_second threads_told r (quiet_read false t found value) (λ q. GaveRef threads_told steps_last q t found value) refl
      (λ a b. rw (a, b) refl) some_pair
      (λ mine. elim (cases_lt 0 (quiet_read false t found value (Looked its_title 33554435) (Read its_title 0 poison no_deeds false false))) [
        | inl early ↦ gave threads_told steps_last freed_last t found value early
        | inr none ↦ absurd (not_held t found value held (omega arith))
      ]);
}

-- at the end of each phase a view knows all logs
abbrev Ended : ℕ → Type 0
Ended n = (v : View) × KnowsAll v (told_until n threads_told)

ends : HaveEnds threads_told
ends x among =
    let first : Ended 1 = (view_of told_first, knows_one told_first steps_first of_first) in
    let second : Ended 2 = (view_of told_second, knows_one told_second steps_second of_second) in
    let last : Ended 3 = (view_of threads_told, knows_one threads_told steps_last of_last) in
    each (λ (y : ToldRecord). Ended y.played.phase) threads_told
    (first, (first, (first, (second, (second, (second, (last, (last, tt)))))))) x among

-- the read of the second phase was through a raw_ptr that the cell gave
abbrev HasReader : ToldRecord → Type 0
HasReader x =
    (seen : Seen) (value : ℕ) → x.played.answer ≡ Value seen value →
    (reg place : ℕ) × (regs : Regs) × (x.played.op ≡ ops.Read reg place) × HasRegs (usable_of 1) cells two_threads_records x.played regs ×
    ReadsThrough sixteen (regs reg) seen place value x

value_is : (a b : Seen) (v w : ℕ) → Value a v ≡ Value b w → (a ≡ b) × (v ≡ w)
value_is a b v w e = (cc, cc)

abbrev the_seen : Seen
the_seen = seen_at 16384 0 0x2000003

read_told : IsReadTold (title_of sixteen the_seen.slot) 0 the_seen.found.0 poison false (read_poison 0x2000003)
read_told = record {
  since = no_deeds;
  unclean = false;
  rest = [];
  pair = refl;
  none = refl;
  quiet = refl;
  clean = refl;
  in_use = omega arith;
}

reader_read : ReadsThrough sixteen (after_take 0) the_seen 0 poison (told_record the_read)
reader_read = (refl, false, read_told)

the_reader_has : HasReader (told_record the_read)
the_reader_has seen value e =
    let (same, gave_it) = value_is the_seen seen poison value e in (
      0,
      0,
      after_take,
      refl,
      has_regs,
      subst (λ (z : Seen). ReadsThrough sixteen (after_take 0) z 0 value (told_record the_read)) same
          (subst (λ v. ReadsThrough sixteen (after_take 0) the_seen 0 v (told_record the_read)) gave_it reader_read),
    )

readers : HaveReaders 1 sixteen cells threads_told
readers x seen value among is = each HasReader threads_told (
  (λ a v e. absurd cc),
  (
    (λ a v e. absurd cc),
    (
      (λ a v e. absurd cc),
      (
        (λ a v e. absurd cc),
        (
          (λ a v e. absurd cc),
          (
            the_reader_has,
            ((λ a v e. absurd cc), ((λ a v e. absurd cc), tt)),
          ),
        ),
      ),
    ),
  ),
) x among seen value is

-- the one exchange that gave, and the one that it gave to
abbrev pub hands : ℕ → ℕ → Bool
hands m n = eqb 4 m && eqb 7 n

handed : (x y : Played) → HandsTo cells x y → (4 ≡ x.line) × (7 ≡ y.line)
handed x y (zero, zero, e, f, at, at', line, line', gave_one) =
    (ap cell_line (of_some _ e at) ∙ line, ap cell_line (of_some _ f at') ∙ line')
handed x y (zero, suc j, e, f, at, at', line, line', gave_one) = absurd (not_some f (rw add-one at at'))
handed x y (suc k, j, e, f, at, at', line, line', gave_one) = absurd (not_some e at)

pub hands_so : (x y : Played) → HandsTo cells x y → hands x.line y.line ≡ true
hands_so x y h = let (a, b) = handed x y h in and_from _ _ (eq-eqb 4 x.line a) (eq-eqb 7 y.line b)

pub seen_so : AreViewed cells threads_told
seen_so = viewed cells threads_worked hands refl hands_so

handed_on : (x y : Played) → HandsTo cells x y → x.line < y.line
handed_on x y h = let (a, b) = handed x y h in omega arith

module _ (r : Run) (is : IsRunOf r (map entry_of two_threads_records) (two_threads_journal ∷ []) two_threads_pool
    (two_threads_history ∷ []) two_threads_report) where
  same : two_threads_records ≡ records_of two_threads_trace (told_by r)
  same = sym (ap (played (rules_of two_threads_trace) two_threads_trace.lines) is.entries ∙
      records_are_lines.same (rules_of two_threads_trace) two_threads_trace.lines two_threads_records lines)

  known : IsKnown two_threads_trace (told_by r) two_threads_records
  known = subst (λ ps. IsKnown two_threads_trace (told_by r) ps) (sym same) (two_threads_are_known r is)

  pub played_out : IsPlayedOut sixteen (λ line. line) two_threads_trace (told_by r) (view_of threads_told) threads_told
  played_out = record {
    due = known.lines;
    records = same;
    told = told;
    last = knows_one threads_told steps_last of_last;
    ends = ends;
    readers = of_run r (two_threads_history ∷ []) is.cells (λ c. HaveReaders 1 sixteen c threads_told) readers;
    viewed = of_run r (two_threads_history ∷ []) is.cells (λ c. AreViewed c threads_told) seen_so;
    handed = of_run r (two_threads_history ∷ []) is.cells (λ c. (x y : Played) → HandsTo c x y → x.line < y.line) handed_on;
    threads = λ x y first second a b thread less. less;
    cells = known.cells;
    registers = known.registers;
    pool = known.pool;
    roots = known.roots;
    flows = known.flows;
    numbers = known.numbers;
    unmaps = known.unmaps;
  }

pub two_threads_are_played_out : TwoThreadsArePlayedOut
two_threads_are_played_out r is = played_out r is
