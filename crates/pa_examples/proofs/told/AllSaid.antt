-- The worked run of two threads, with each of the three answers of its read, meets the obligations of all layers at once.
use Rattle.std.proofs.Common.{Bool, ◌≡◌, ℕ, ◌<◌, ◌≤◌, false, List, [], rules, refl, sym, ap, subst, arith, inl, inr}
use Rattle.std.specs.Prelude.{nat_le, Some, None, ◌++◌, take, drop, Contains}
use Rattle.std.specs.List.{AllByRecursion as Each}
use Rattle.std.proofs.lemmas.Bool.{cases_eq}
use Rattle.pa_slot.specs.declared.title.Title.{Title}
use Rattle.pa_slot.specs.declared.word.SlotName.{SlotName}
use Rattle.pa_slot.specs.Titles.{poison}
use Rattle.pa_buckets.specs.Table.{rows, row_of, slot_of}
use Rattle.pa_region.specs.History.{reached}
use Rattle.pa_region.specs.Moves.{no_deeds}
use Rattle.pa_region.specs.Views.{seen_among}
use Rattle.pa_trace.specs.Limits.{IsWithinLimits}
use Rattle.pa_trace.specs.declared.script.Op.TheVariants as ops
use Rattle.pa_record.specs.declared.entry.Answer.{Answer}
use Rattle.pa_record.specs.declared.entry.Answer.TheVariants as answers
use Rattle.pa_record.specs.declared.report.ReportLine.{ReportLine}
use Rattle.pa_record.specs.declared.report.Tally.{Tally}
use Rattle.pa_rules.specs.Caches.{listed_slots}
use Rattle.pa_rules.specs.declared.played.Played.{Played}
use Rattle.pa_rules.specs.Played.{mark_of}
use Rattle.pa_rules.specs.Registers.{Row}
use Rattle.pa_rules.specs.Report.{until, listed_bytes, cached_slots, cached_bytes}
use Rattle.pa_slot.specs.Kinds.{issues, frees, enters, leaves}
use Rattle.pa_examples.specs.Worked.{tally, report_line, seen_at, two_threads_trace, two_threads_journal, two_threads_report, two_threads_census, of_one}
use Rattle.pa_examples.proofs.worked.Lists.{each}
use Rattle.pa_examples.proofs.worked.OneFill.{the_slot}
use Rattle.pa_examples.proofs.worked.OneJournal.{none_on}
use Rattle.pa_examples.proofs.worked.ThreadsRead.{after_take}
use Rattle.pa_logs.specs.Told.{ToldRecord, played_in}
use Rattle.pa_logs.specs.Touches.{IsTold, AreTold}
use Rattle.pa_logs.specs.Reported.{IsLeftBy}
use Rattle.pa_logs.specs.Seats.{AreOfLines}
use Rattle.pa_logs.specs.Viewed.{AreViewed}
use Rattle.pa_logs.specs.Said.{sizes_in, homes_in, plains_in, EndsPhase, RunnerSays, HeapTells, IsLineSaid, LayersSay}
use Rattle.pa_logs.proofs.Through.{by_length}
use Rattle.pa_logs.proofs.Said.{layers_tell_all}
use Rattle.pa_examples.specs.told.Worked.{Worked, told_record, told_records}
use Rattle.pa_examples.specs.told.Threads.{seen_number, the_read, threads_worked, threads_told}
use Rattle.pa_examples.specs.told.Entered.{threads_swaps, threads_cells}
use Rattle.pa_examples.specs.told.OtherReads.{content_read, freed_read, reading_so}
use Rattle.pa_examples.specs.told.AllSaid.{seat_until, seat_last, told_with, SaysWith, ThreadsSay, IsFineWith, OtherReadsAreLegal}
use Rattle.pa_examples.proofs.told.ClosingSeat.{KnowsLast, last_logs}
use Rattle.pa_examples.proofs.told.Entering.{below_six, lines_told}
use Rattle.pa_examples.proofs.told.Knowing.{knows_one, history_here, history_there}
use Rattle.pa_examples.proofs.told.Layered.{size_is, home_is, pool_tells, roots_tell, cells_tell, census_said}
use Rattle.pa_examples.proofs.told.Otherwise.{so_content, content_second, content_of_second, content_of_last, so_freed, freed_second, freed_of_second, freed_of_last, other_reads_fit}
use Rattle.pa_examples.proofs.told.PhaseEnds.{KnowsUntil, ends_1, ends_2, ends_3}
use Rattle.pa_examples.proofs.told.Ordered.{order_1, poison_steps, content_steps, freed_steps, held_poison, held_content, freed_poison, held_2, held_3, freed_2, freed_3}
use Rattle.pa_examples.proofs.told.Played.{so_read, held_row, freed_row, rows_of, caches_until, ReadsOnly, leads_of}
use Rattle.pa_examples.proofs.told.Seen.{covered, have_seen}
use Rattle.pa_examples.proofs.told.Threads.{steps_first, steps_second, steps_last, told_first, told_second, of_first, of_second, of_last, seen_so}

-- by how many steps slots became live or quarantined, or ended that, until a phase
pub record IsCounted (ps : List Played) (n : ℕ) (live quarantined : Tally) : Type 0 where
  pub lives : (homes sizes : SlotName → ℕ) → homes the_slot ≡ 0 → sizes the_slot ≡ 16 →
      IsLeftBy issues frees homes sizes 0 2 (until n ps) live
  pub waits : (homes sizes : SlotName → ℕ) → homes the_slot ≡ 0 → sizes the_slot ≡ 16 →
      IsLeftBy enters leaves homes sizes 0 2 (until n ps) quarantined

-- whichever slots are plain, the read has this answer by its register
abbrev IsItsRow : Answer → Type 0
IsItsRow answer = (plain : SlotName → Bool) (sizes : SlotName → ℕ) → sizes the_slot ≡ 16 →
    Row (by_length 1 plain sizes threads_cells) (ops.Read 0 0) after_take answer after_take

-- What is required of the answer of the read: its log segment, what seats had seen, what is known at each phase's end, its rows, and the
-- counts of steps.
pub record ReadFits (answer : Answer) (word value after : ℕ) (ts : List ToldRecord) : Type 0 where
  pub told : (sizes : SlotName → ℕ) → sizes the_slot ≡ 16 → IsTold sizes (told_record (so_read answer word value after))
  pub viewed : AreViewed threads_cells ts
  pub first : KnowsUntil ts 1
  pub second : KnowsUntil ts 2
  pub last : KnowsLast ts
  pub row : IsItsRow answer
  pub cached : ReadsOnly answer
  pub until_1 : IsCounted (played_in ts) 1 (tally 1 16) (tally 0 0)
  pub until_2 : IsCounted (played_in ts) 2 (tally 0 0) (tally 1 16)
  pub until_3 : IsCounted (played_in ts) 3 (tally 0 0) (tally 0 0)
  pub heard : (u : Title) → seen_among u (seen_number after) ≤ seen_among u (seen_number 4)

limits : IsWithinLimits two_threads_trace
limits = record { version = (omega arith, omega arith); head = search rules; lines = search rules; few = search rules }

module _ (answer : Answer) (word value after : ℕ)
    (fits : ReadFits answer word value after (reading_so (so_read answer word value after))) where
  abbrev so : Worked
  so = so_read answer word value after

  abbrev ts : List ToldRecord
  ts = reading_so so

  abbrev sizes : SlotName → ℕ
  sizes = sizes_in two_threads_trace (told_with so)

  abbrev plains : SlotName → Bool
  plains = plains_in two_threads_trace (told_with so)

  -- the log segments of the other records are right with 16 bytes, so they are with the slot's length
  abbrev others : List ToldRecord
  others = told_records (take 5 threads_worked ++ drop 6 threads_worked)

  others_16 : Each (IsTold (λ s. 16)) others
  others_16 = (
    (([], tt, refl), refl),
    (
      ([], tt, refl),
      (
        refl,
        (
          ([], tt, refl),
          (
            refl,
            (
              (
                refl,
                (
                  0,
                  0,
                  false,
                  refl,
                  record {
                    since = no_deeds;
                    unclean = false;
                    rest = [];
                    pair = refl;
                    none = refl;
                    quiet = refl;
                    clean = refl;
                    in_use = omega arith;
                  },
                ),
              ),
              (([], tt, refl), tt),
            ),
          ),
        ),
      ),
    ),
  )

  others_told : Each (IsTold (λ s. sizes the_slot)) others
  others_told = subst (λ n. Each (IsTold (λ s. n)) others) (sym (size_is so)) others_16

  told : AreTold sizes ts
  told x among =
      let (a, (b, (c, (d, (e, (f, (g, none))))))) = others_told in
      each (IsTold sizes) ts (a, (b, (c, (d, (e, (fits.told sizes (size_is so), (f, (g, tt)))))))) x among

  -- the seat at the end has seen what each record hands on
  record IsHeard (x : ToldRecord) : Type 0 where
    heard_it : (u : Title) → x.gives u ≤ seen_among u (seen_number 4)

  heard : (x : ToldRecord) (u : Title) → Contains ts x → x.gives u ≤ seen_among u (seen_number 4)
  heard x u among = (each IsHeard ts (
    record { heard_it = covered (seen_number 1) (seen_number 4) refl },
    (
      record { heard_it = covered (seen_number 2) (seen_number 4) refl },
      (
        record { heard_it = covered (seen_number 2) (seen_number 4) refl },
        (
          record { heard_it = covered (seen_number 3) (seen_number 4) refl },
          (
            record { heard_it = covered (seen_number 2) (seen_number 4) refl },
            (
              record { heard_it = fits.heard },
              (
                record { heard_it = covered (seen_number 3) (seen_number 4) refl },
                (record { heard_it = covered (seen_number 4) (seen_number 4) refl }, tt),
              ),
            ),
          ),
        ),
      ),
    ),
  ) x among).heard_it u

  -- the last seat has seen what the seat of the last phase's end has
  to_last : (n : ℕ) → EndsPhase n (seat_until ts n) (seat_until ts 3) ts → EndsPhase n (seat_until ts n) (seat_last so) ts
  to_last n e = record { has = e.has; begins = e.begins }

  ends : (n : ℕ) → 1 ≤ n → n ≤ 3 → EndsPhase n (seat_until ts n) (seat_last so) ts
  ends n low high = elim (cases_eq 1 n) [
    | inl e ↦ subst (λ m. EndsPhase m (seat_until ts m) (seat_last so) ts) e (to_last 1 (ends_1 answer word value after fits.first))
    | inr n1 ↦ elim (cases_eq 2 n) [
      | inl e ↦ subst (λ m. EndsPhase m (seat_until ts m) (seat_last so) ts) e (to_last 2 (ends_2 answer word value after fits.second))
      | inr n2 ↦ elim (cases_eq 3 n) [
        | inl e ↦ subst (λ m. EndsPhase m (seat_until ts m) (seat_last so) ts) e
            (to_last 3 (ends_3 answer word value after fits.last.until))
        | inr n3 ↦ absurd (omega arith)
      ]
    ]
  ]

  runner : RunnerSays two_threads_trace (told_with so) (seat_last so) ts (seat_until ts)
  runner = record {
    limits = limits;
    due = refl;
    records = refl;
    has = last_logs answer word value after fits.last;
    ends = ends;
    heard = heard;
    phases = λ x y u first second late. fits.viewed.stands x y u first second (inr late);
    places = refl;
  }

  -- each record entered only what is of its line
  of_lines : (q : ℕ) → q < 6 → AreOfLines q ts
  of_lines = below_six (λ p. AreOfLines p ts) (lines_told 0 ts refl) (lines_told 1 ts refl) (lines_told 2 ts refl) (lines_told 3 ts refl)
      (lines_told 4 ts refl) (lines_told 5 ts refl)

  heap : HeapTells two_threads_trace (told_with so) ts
  heap = record {
    told = told;
    lines = of_lines;
    rows = rows_of plains sizes (size_is so) (ap (nat_le 1) (home_is so)) answer word value after (fits.row plains sizes (size_is so));
    seen = have_seen threads_cells ts fits.viewed;
  }

  -- ---- the report

  abbrev LineSaid : ℕ → ReportLine → Type 0
  LineSaid n l = IsLineSaid two_threads_trace (told_with so) (seat_last so) ts (seat_until ts n) l

  line_1 : LineSaid 1 (report_line 1 (tally 1 16) (tally 0 0) (tally 7 112) two_threads_census)
  line_1 = record {
    live = fits.until_1.lives (homes_in two_threads_trace (told_with so)) sizes (home_is so) (size_is so);
    quarantined = fits.until_1.waits (homes_in two_threads_trace (told_with so)) sizes (home_is so) (size_is so);
    root = census_said answer word value after 1 refl;
  }

  line_2 : LineSaid 2 (report_line 2 (tally 0 0) (tally 1 16) (tally 7 112) two_threads_census)
  line_2 = record {
    live = fits.until_2.lives (homes_in two_threads_trace (told_with so)) sizes (home_is so) (size_is so);
    quarantined = fits.until_2.waits (homes_in two_threads_trace (told_with so)) sizes (home_is so) (size_is so);
    root = census_said answer word value after 2 refl;
  }

  line_3 : LineSaid 3 (report_line 3 (tally 0 0) (tally 0 0) (tally 8 128) two_threads_census)
  line_3 = record {
    live = fits.until_3.lives (homes_in two_threads_trace (told_with so)) sizes (home_is so) (size_is so);
    quarantined = fits.until_3.waits (homes_in two_threads_trace (told_with so)) sizes (home_is so) (size_is so);
    root = census_said answer word value after 3 refl;
  }

  abbrev IsSaid : ReportLine → Type 0
  IsSaid l = LineSaid l.phase l

  layers : LayersSay two_threads_trace (told_with so) (seat_last so) ts
  layers = record {
    seats = seat_until ts;
    swaps = threads_swaps;
    runner = runner;
    pool = pool_tells answer word value after;
    roots = roots_tell answer word value after;
    cells = cells_tell answer word value after;
    heap = heap;
    report = λ l among. each IsSaid two_threads_report (line_1, (line_2, (line_3, tt))) l among;
  }

  -- ---- the threads' lists

  -- what the lists hold at the end of the phase of a line
  abbrev CountsLists : ReportLine → Type 0
  CountsLists l =
      (l.cached.slots ≡ cached_slots (caches_until l.phase) l.partition 2)
      × (l.cached.bytes ≡ cached_bytes (caches_until l.phase) l.partition 2)

  counted : (l : ReportLine) → Contains two_threads_report l → CountsLists l
  unfolding rows row_of slot_of listed_slots listed_bytes
  counted l among = each CountsLists two_threads_report ((refl, refl), ((refl, refl), ((refl, refl), tt))) l among

  pub says : SaysWith so
  says = record {
    layers = layers;
    lists = record {
      lists = caches_until;
      caches = λ n k some_phase few. leads_of answer word value after fits.cached n k (omega arith);
      cached = counted;
    };
  }

  pub lists_are : says.lists.lists ≡ caches_until
  unfolding says
  lists_are = refl

-- ---- the three answers

-- a read after a look at the slot that its record reports
abbrev IsLook : Answer → ℕ → Type 0
IsLook answer word = mark_of (record of_one { line = 8; thread = 1; phase = 2; op = ops.Read 0 0; answer = answer }) ≡ Some
    (record { line = 8; slot = the_slot; found = word; step = None })

-- What is required of the answer by itself: it is a look, and in a register's row and in the lists it changes nothing. The rest follows
-- from what is known of logs and of what was seen.
pub fits : (answer : Answer) (word value after : ℕ) → IsLook answer word →
    ((sizes : SlotName → ℕ) → sizes the_slot ≡ 16 → IsTold sizes (told_record (so_read answer word value after))) →
    IsItsRow answer → ReadsOnly answer →
    AreViewed threads_cells (reading_so (so_read answer word value after)) → KnowsUntil (reading_so (so_read answer word value after)) 1 →
    KnowsUntil (reading_so (so_read answer word value after)) 2 → KnowsLast (reading_so (so_read answer word value after)) →
    ((u : Title) → seen_among u (seen_number after) ≤ seen_among u (seen_number 4)) →
    ReadFits answer word value after (reading_so (so_read answer word value after))
fits answer word value after look told row cached viewed first second last heard = record {
  told = told;
  viewed = viewed;
  first = first;
  second = second;
  last = last;
  row = row;
  cached = cached;
  until_1 = record {
    lives = λ homes sizes home long. record { slots = rw home refl; bytes = rw (home, long) refl };
    waits = λ homes sizes home long. record { slots = refl; bytes = refl };
  };
  until_2 = record {
    lives = λ homes sizes home long. record { slots = rw (look, home) refl; bytes = rw (look, home, long) refl };
    waits = λ homes sizes home long. record { slots = rw (look, home) refl; bytes = rw (look, home, long) refl };
  };
  until_3 = record {
    lives = λ homes sizes home long. record { slots = rw (look, home) refl; bytes = rw (look, home, long) refl };
    waits = λ homes sizes home long. record { slots = rw (look, home) refl; bytes = rw (look, home, long) refl };
  };
  heard = heard;
}

pub poison_fits : ReadFits (answers.Value (seen_at 16384 0 0x2000003) poison) 0x2000003 poison 2 (reading_so the_read)
poison_fits = fits (answers.Value (seen_at 16384 0 0x2000003) poison) 0x2000003 poison 2 refl
    (λ sizes long. subst (λ n. IsTold (λ s. n) (told_record the_read)) (sym long) (
      refl,
      (
        0,
        0,
        false,
        refl,
        record {
          since = no_deeds;
          unclean = false;
          rest = [];
          pair = refl;
          none = refl;
          quiet = refl;
          clean = refl;
          in_use = omega arith;
        },
      ),
    ))
    (λ plain sizes long. held_row plain sizes long 0x2000003 poison refl) (none_on two_threads_journal 8 refl, λ p c. refl) seen_so
    (record {
      knows = knows_one told_first steps_first of_first;
      own_logs = refl;
      adds = λ q. refl;
      order = order_1 (answers.Value (seen_at 16384 0 0x2000003) poison) 0x2000003 poison 2;
    })
    (record {
      knows = knows_one told_second steps_second of_second;
      own_logs = refl;
      adds = λ q. refl;
      order = held_2 (answers.Value (seen_at 16384 0 0x2000003) poison) poison 2 poison_steps held_poison;
    }) (record {
      until = record {
        knows = knows_one threads_told steps_last of_last;
        own_logs = refl;
        adds = λ q. refl;
        order = held_3 (answers.Value (seen_at 16384 0 0x2000003) poison) poison 2 poison_steps held_poison;
      };
      first = ap reached (history_here threads_told steps_last of_last);
      others = history_there threads_told steps_last of_last;
    })
    (covered (seen_number 2) (seen_number 4) refl)

pub content_fits : ReadFits (answers.Value (seen_at 16384 0 0x2000003) 0) 0x2000003 0 2 (reading_so content_read)
content_fits = fits (answers.Value (seen_at 16384 0 0x2000003) 0) 0x2000003 0 2 refl
    (λ sizes long. subst (λ n. IsTold (λ s. n) (told_record content_read)) (sym long) (
      refl,
      (
        0,
        0,
        false,
        refl,
        record {
          since = no_deeds;
          unclean = false;
          rest = [];
          pair = refl;
          none = refl;
          quiet = refl;
          clean = refl;
          in_use = omega arith;
        },
      ),
    ))
    (λ plain sizes long. held_row plain sizes long 0x2000003 0 refl) (none_on two_threads_journal 8 refl, λ p c. refl)
    other_reads_fit.content.viewed
    (record {
      knows = knows_one told_first steps_first of_first;
      own_logs = refl;
      adds = λ q. refl;
      order = order_1 (answers.Value (seen_at 16384 0 0x2000003) 0) 0x2000003 0 2;
    })
    (record {
      knows = knows_one content_second steps_second content_of_second;
      own_logs = refl;
      adds = λ q. refl;
      order = held_2 (answers.Value (seen_at 16384 0 0x2000003) 0) 0 2 content_steps held_content;
    }) (record {
      until = record {
        knows = knows_one so_content steps_last content_of_last;
        own_logs = refl;
        adds = λ q. refl;
        order = held_3 (answers.Value (seen_at 16384 0 0x2000003) 0) 0 2 content_steps held_content;
      };
      first = ap reached (history_here so_content steps_last content_of_last);
      others = history_there so_content steps_last content_of_last;
    })
    (covered (seen_number 2) (seen_number 4) refl)

pub freed_fits : ReadFits (answers.Dangling (seen_at 16384 0 0x3000002) poison) 0x3000002 poison 3 (reading_so freed_read)
freed_fits = fits (answers.Dangling (seen_at 16384 0 0x3000002) poison) 0x3000002 poison 3 refl
    (λ sizes long. subst (λ n. IsTold (λ s. n) (told_record freed_read)) (sym long) (
      refl,
      (
        0,
        0,
        false,
        refl,
        record {
          since = no_deeds;
          unclean = false;
          rest = [];
          pair = refl;
          none = refl;
          quiet = refl;
          clean = refl;
          in_use = omega arith;
        },
      ),
    ))
    (λ plain sizes long. freed_row plain sizes long 0x3000002 poison refl)
    (none_on two_threads_journal 8 refl, λ p c. refl) other_reads_fit.freed.viewed
    (record {
      knows = knows_one told_first steps_first of_first;
      own_logs = refl;
      adds = λ q. refl;
      order = order_1 (answers.Dangling (seen_at 16384 0 0x3000002) poison) 0x3000002 poison 3;
    })
    (record {
      knows = knows_one freed_second steps_second freed_of_second;
      own_logs = refl;
      adds = λ q. refl;
      order = freed_2 (answers.Dangling (seen_at 16384 0 0x3000002) poison) poison 3 freed_steps freed_poison;
    })
    (record {
      until = record {
        knows = knows_one so_freed steps_last freed_of_last;
        own_logs = refl;
        adds = λ q. refl;
        order = freed_3 (answers.Dangling (seen_at 16384 0 0x3000002) poison) poison 3 freed_steps freed_poison;
      };
      first = ap reached (history_here so_freed steps_last freed_of_last);
      others = history_there so_freed steps_last freed_of_last;
    })
    (covered (seen_number 3) (seen_number 4) refl)

pub threads_say : ThreadsSay
threads_say = record {
  poison = says (answers.Value (seen_at 16384 0 0x2000003) poison) 0x2000003 poison 2 poison_fits;
  content = says (answers.Value (seen_at 16384 0 0x2000003) 0) 0x2000003 0 2 content_fits;
  freed = says (answers.Dangling (seen_at 16384 0 0x3000002) poison) 0x3000002 poison 3 freed_fits;
}

-- the run with each read is legal
fine : (read : Worked) → SaysWith read → IsFineWith read
fine read h = record {
  played = layers_tell_all.played two_threads_trace (told_with read) (seat_last read) (reading_so read) h.layers
      (layers_tell_all.flows two_threads_trace (told_with read) (seat_last read) (reading_so read) h.layers h.lists);
  legal = layers_tell_all.legal two_threads_trace (told_with read) (seat_last read) (reading_so read) h.layers h.lists;
}

pub other_reads_are_legal : OtherReadsAreLegal
other_reads_are_legal = record {
  poison = fine the_read threads_say.poison;
  content = fine content_read threads_say.content;
  freed = fine freed_read threads_say.freed;
}
