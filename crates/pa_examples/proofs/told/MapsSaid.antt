-- The worked run of direct maps meets the obligations of all layers at once.
use Rattle.std.proofs.Common.{◌≡◌, ℕ, ◌<◌, ◌≤◌, List, [], ◌∷◌, filter, map, take, drop, None, lit<, lit≤, refl, rules, sym, ◌∙◌, subst, arith, inl, inr}
use Rattle.std.specs.Prelude.{◌==◌, nat_le, if◌then◌else◌, Contains}
use Rattle.std.specs.List.{AllByRecursion as Each}
use Rattle.std.proofs.lemmas.Bool.{ne_eqb}
use Rattle.pa_slot.specs.declared.title.Title.{Title}
use Rattle.pa_slot.specs.declared.word.SlotName.{SlotName}
use Rattle.pa_slot.proofs.Same.{title_tells}
use Rattle.pa_buckets.specs.Table.{rows, row_of, slot_of}
use Rattle.pa_region.specs.declared.view.SeenNumber.{SeenNumber}
use Rattle.pa_region.specs.Views.{seen_among, counted_on}
use Rattle.pa_region.specs.Lists.{list_of, entered_in}
use Rattle.pa_trace.specs.Limits.{IsWithinLimits}
use Rattle.pa_trace.specs.declared.script.Op.TheVariants as ops
use Rattle.pa_record.specs.declared.entry.Answer.TheVariants as answers
use Rattle.pa_record.specs.declared.report.ReportLine.{ReportLine}
use Rattle.pa_record.specs.Worked.{full, map_made, map_gone, direct_map_again_pool, direct_map_again_journal, direct_map_again_census}
use Rattle.pa_lists.proofs.Joined.{map_in}
use Rattle.pa_record.proofs.Worked.{direct_map_again}
use Rattle.pa_rules.specs.declared.register.Register.TheVariants.{Own, Ref, Freed, Cleared}
use Rattle.pa_rules.specs.Registers.{Regs, Facts, Row, PointRow, with, no_regs}
use Rattle.pa_rules.specs.Cells.{history_at}
use Rattle.pa_rules.specs.Caches.{no_caches, listed_slots}
use Rattle.pa_rules.specs.Report.{HasSize, until, listed_bytes, cached_slots, cached_bytes}
use Rattle.pa_rules.specs.Sizes.{slot_size_for}
use Rattle.pa_rules.specs.Legal.{IsLegalTold}
use Rattle.pa_legal.specs.Known.{IsKnown}
use Rattle.pa_slot.specs.Kinds.{issues, frees, enters, leaves}
use Rattle.pa_legal.proofs.Converse.{legal_is_known}
use Rattle.pa_examples.specs.Worked.{seen_at, tally, report_line, direct_map_trace, direct_map_records, direct_map_report}
use Rattle.pa_examples.proofs.worked.Lists.{each}
use Rattle.pa_examples.proofs.worked.Knowing.{all_used}
use Rattle.pa_examples.proofs.worked.Maps as worked
use Rattle.pa_examples.proofs.worked.Maps.{slot_by}
use Rattle.pa_examples.proofs.worked.MapsPlaced.{roots, direct, rooted, pooled, titled}
use Rattle.pa_examples.proofs.worked.MapsHeld.{held, at_end, cached_to, cached, reported}
use Rattle.pa_logs.specs.Told.{ToldRecord, told_of, is_of_thread}
use Rattle.pa_logs.specs.Touches.{IsTold, AreTold}
use Rattle.pa_logs.specs.Indices.{IsFullAt}
use Rattle.pa_logs.specs.Listed.{IsJournalOf}
use Rattle.pa_logs.specs.Reported.{IsLeftBy, CacheLeadsTo}
use Rattle.pa_logs.specs.Rows.{records_by}
use Rattle.pa_logs.specs.Seats.{AreOfLines}
use Rattle.pa_logs.specs.Said.{sizes_in, homes_in, facts_in, HasToldRows, EndsPhase, RunnerSays, PoolTells, RootsTell, CellsTell, HeapTells, IsLineSaid, LayersSay, ListsSay, HasLogs}
use Rattle.pa_logs.proofs.Homing.{homes_follow}
use Rattle.pa_logs.proofs.Sizing.{lengths_follow}
use Rattle.pa_examples.specs.told.Entered.{in_root}
use Rattle.pa_examples.specs.told.Maps.{map_title, seen_map, maps_worked, maps_told}
use Rattle.pa_examples.specs.told.OneThread.{told_maps, seat_maps}
use Rattle.pa_examples.proofs.told.Entering.{below_four, below_six, lines_told}
use Rattle.pa_examples.proofs.told.Fitting.{maps_asked}
use Rattle.pa_examples.proofs.told.Making.{Makes, makes_none, makes_all, none_makes}
use Rattle.pa_examples.proofs.told.Maps.{last, seen_so}
use Rattle.pa_examples.proofs.told.OneThread.{by_one, IsAlone, no_cells_tell, leads_of}
use Rattle.pa_examples.proofs.told.Played.{not_uncounted}
use Rattle.pa_examples.proofs.told.Seats.{append_none}
use Rattle.pa_examples.proofs.told.Seen.{heard_by, have_seen}

abbrev pub sizes : SlotName → ℕ
sizes = sizes_in direct_map_trace told_maps

abbrev homes : SlotName → ℕ
homes = homes_in direct_map_trace told_maps

-- ---- the maps' lengths and partition, and the root's numbers

-- the map of this entry of the pool has its length, and is of partition 0
record IsMapHere (born : ℕ) : Type 0 where
  long : sizes (slot_by born) ≡ 2002944
  home : homes (slot_by born) ≡ 0

is_here : (born : ℕ) → HasSize roots 0 (slot_by born) 2002944 → IsMapHere born
is_here born has = record {
  long = lengths_follow.named 1 1 0 2002944 direct_map_records direct_map_again_pool roots (slot_by born) rooted pooled has;
  home = homes_follow.named 1 1 0 2002944 direct_map_records direct_map_again_pool roots (slot_by born) rooted pooled has;
}

first : IsMapHere 0
first = is_here 0 (inr (_, 0, (0, lit< tt, refl), refl))

second : IsMapHere 2
second = is_here 2 (inr (_, 2, (2, lit< tt, refl), refl))

third : IsMapHere 5
third = is_here 5 (inr (_, 5, (5, lit< tt, refl), refl))

legal : IsLegalTold direct_map_trace told_maps
legal = record {
  lines = refl;
  cells = worked.cells;
  registers = worked.registers;
  slots = worked.slots;
  contents = worked.contents;
  pool = pooled;
  roots = rooted;
  titles = titled;
  holders = held;
  caches = cached;
  seen = worked.seen;
  report = reported;
}

known : IsKnown direct_map_trace told_maps direct_map_records
known = legal_is_known direct_map_trace told_maps legal (all_used direct_map_records refl)

-- ---- the runner

limits : IsWithinLimits direct_map_trace
limits = record { version = (omega arith, omega arith); head = search rules; lines = search rules; few = search rules }

-- what the seat has seen at the end
abbrev pub notes : List SeenNumber
notes = seen_map 5 1 ∷ seen_map 2 4 ∷ seen_map 0 2 ∷ []

abbrev IsSeen : Title → Type 0
IsSeen u = seen_among u notes ≤ told_of maps_told (counted_on u)

pub alone : IsAlone maps_told notes direct_map_again_journal direct_map_again_pool
alone = record {
  knows = last;
  root = refl;
  pool = refl;
  others = λ q n0 n4. rw (ne_eqb 0 q n0, ne_eqb 4 q n4) refl;
  alone = λ k other. rw (ne_eqb 0 k other) refl;
  own_logs = refl;
  adds = λ q. refl;
  found = refl;
  unread = refl;
  all_seen = λ t. elim (title_tells (map_title 5) t) [
    | inl y ↦ subst IsSeen y.1 (lit≤ tt)
    | inr n ↦ elim (title_tells (map_title 2) t) [
      | inl y ↦ subst IsSeen y.1 (lit≤ tt)
      | inr m ↦ elim (title_tells (map_title 0) t) [ inl y ↦ subst IsSeen y.1 (lit≤ tt) | inr o ↦ rw (n.0, m.0, o.0) (omega arith) ]
    ]
  ];
}

pub alone_knows : alone.knows ≡ last
unfolding alone
alone_knows = refl

-- the seat is that of the only phase's end
module _ (has : HasLogs seat_maps maps_told) where
  ends : (n : ℕ) → 1 ≤ n → n ≤ 1 → EndsPhase n seat_maps seat_maps maps_told
  ends n low high =
      let one : 1 ≡ n = omega arith in
      subst (λ m. EndsPhase m seat_maps seat_maps maps_told) one
      (record { has = has; begins = λ q few. ([], append_none (list_of q seat_maps)) })

  runner : RunnerSays direct_map_trace told_maps seat_maps maps_told (λ n. seat_maps)
  runner = record {
    limits = limits;
    due = refl;
    records = refl;
    has = has;
    ends = ends;
    heard = heard_by maps_worked notes refl;
    phases = λ x y u first second less. seen_so.stands x y u first second (inr less);
    places = refl;
  }

-- ---- the pool, the roots and the cells

pool_tells : PoolTells direct_map_trace told_maps seat_maps maps_told
pool_tells = record { list = refl; fits = direct_map_again.is_pool; asked = maps_asked }

first_makes : (x : ToldRecord) → Contains maps_told x → Makes direct_map_again_pool 0 x
first_makes x among = each (Makes direct_map_again_pool 0) maps_told (
  makes_all direct_map_again_pool _ (map_made 2 0 16384 2002944 ∷ []) refl ((2000000, (0, refl, direct), refl), tt),
  (
    makes_all direct_map_again_pool _ (map_gone 3 1 16384 0 2 ∷ []) refl (inl (0, refl), tt),
    (
      makes_all direct_map_again_pool _ (map_made 4 2 16384 2002944 ∷ []) refl ((2000000, (0, refl, direct), refl), tt),
      (
        makes_none direct_map_again_pool 0 _ refl,
        (
          makes_none direct_map_again_pool 0 _ refl,
          (
            makes_all direct_map_again_pool _ (full 7 None 3 ∷ []) refl ((2000000, (2, refl, direct), refl), tt),
            (
              makes_all direct_map_again_pool _ (map_gone 8 4 16384 2 4 ∷ []) refl (inr (1, refl), tt),
              (makes_all direct_map_again_pool _ (map_made 9 5 16384 2002944 ∷ []) refl ((2000000, (2, refl, direct), refl), tt), tt),
            ),
          ),
        ),
      ),
    ),
  ),
) x among

-- only the third allocation was refused
abbrev IsRefused : ToldRecord → Type 0
IsRefused x = (j reg p size : ℕ) → x.played.answer ≡ answers.Full j → x.played.op ≡ ops.Alloc reg p size →
    IsFullAt (list_of p seat_maps) x j

is_refused : (x : ToldRecord) → x.played.line ≡ 7 → x.played.answer ≡ answers.Full 3 → x.played.op ≡ ops.Alloc 2 0 2000000 → IsRefused x
is_refused x line answer op j reg p size a b =
    let entry : 3 ≡ j = same_entry 3 j (sym answer ∙ a) in
    let home : 0 ≡ p = same_home 2 reg 0 p 2000000 size (sym op ∙ b) in
    subst (λ k. IsFullAt (list_of p seat_maps) x k) entry (subst (λ q. IsFullAt (list_of q seat_maps) x 3) home (record {
      made = in_root (full 7 None 3);
      entry = full 7 None 3;
      stands = record {
        older = take 3 (map in_root direct_map_again_journal);
        rest = drop 4 (map in_root direct_map_again_journal);
        begins = refl;
        index_is = refl;
      };
      says = refl;
      line = sym line;
      full = (None, 3, refl);
    }))
  where
    same_entry : (m n : ℕ) → answers.Full m ≡ answers.Full n → m ≡ n
    same_entry m n e = cc

    same_home : (r s p q m n : ℕ) → ops.Alloc r p m ≡ ops.Alloc s q n → p ≡ q
    same_home r s p q m n e = cc

refused : (x : ToldRecord) → Contains maps_told x → IsRefused x
refused x among = each IsRefused maps_told (
  (λ j r p s a o. absurd cc),
  (
    (λ j r p s a o. absurd cc),
    (
      (λ j r p s a o. absurd cc),
      (
        (λ j r p s a o. absurd cc),
        ((λ j r p s a o. absurd cc), (is_refused _ refl refl refl, ((λ j r p s a o. absurd cc), ((λ j r p s a o. absurd cc), tt)))),
      ),
    ),
  ),
) x among

abbrev NoEntries : ℕ → Type 0
NoEntries p = Each (λ (x : ToldRecord). entered_in p x.stretch ≡ []) maps_told

roots_tell : RootsTell direct_map_trace told_maps seat_maps maps_told
roots_tell = record {
  lists = below_four (λ p. IsJournalOf (list_of p seat_maps) (roots p)) refl refl refl refl;
  journals = rooted.journals;
  none_past = rooted.none_past;
  makes = λ x p m e few among.
      (below_four (λ q. Makes direct_map_again_pool q x) (first_makes x among) (none_makes direct_map_again_pool 1 maps_told none_1 x among)
      (none_makes direct_map_again_pool 2 maps_told none_2 x among)
      (none_makes direct_map_again_pool 3 maps_told none_3 x among) p few).makes_it m e;
  refused = λ x j reg p size among full op. refused x among j reg p size full op;
  numbers = known.numbers;
  unmaps = λ x among. known.unmaps x.played (map_in (λ (y : ToldRecord). y.played) maps_told x among);
}
  where
    none_1 : NoEntries 1
    none_1 = (refl, (refl, (refl, (refl, (refl, (refl, (refl, (refl, tt))))))))

    none_2 : NoEntries 2
    none_2 = (refl, (refl, (refl, (refl, (refl, (refl, (refl, (refl, tt))))))))

    none_3 : NoEntries 3
    none_3 = (refl, (refl, (refl, (refl, (refl, (refl, (refl, (refl, tt))))))))

cells_tell : CellsTell told_maps seat_maps maps_told []
cells_tell = no_cells_tell told_maps seat_maps maps_told refl refl (refl, (refl, (refl, (refl, (refl, (refl, (refl, (refl, tt)))))))) refl

-- ---- the workers

-- lengths by the entry of the pool; so each log segment is right with those of the three maps
abbrev by_born : (a b c : ℕ) → SlotName → ℕ
by_born a b c s = if s.born == 0 then a else if s.born == 2 then b else c

told_long : Each (IsTold (by_born 2002944 2002944 2002944)) maps_told
told_long = (
  (([], tt, refl), refl),
  (
    ([], tt, refl),
    (
      (([], tt, refl), refl),
      (([], tt, refl), (([], tt, refl), (refl, (([], tt, refl), ((([], tt, refl), refl), tt))))),
    ),
  ),
)

told : AreTold sizes maps_told
told x among = each (IsTold sizes) maps_told (
    subst (λ n. Each (IsTold (by_born n (sizes (slot_by 2)) (sizes (slot_by 5)))) maps_told) (sym first.long)
    (subst (λ n. Each (IsTold (by_born 2002944 n (sizes (slot_by 5)))) maps_told) (sym second.long)
    (subst (λ n. Each (IsTold (by_born 2002944 2002944 n)) maps_told) (sym third.long) told_long))) x among

-- the registers after each line
abbrev after_made : Regs
after_made = with (no_regs 0) 0 (Own (slot_by 0))

abbrev after_free : Regs
after_free = with after_made 0 Freed

abbrev after_second : Regs
after_second = with after_free 0 (Own (slot_by 2))

abbrev after_copy : Regs
after_copy = with after_second 1 (Ref (slot_by 2))

abbrev after_second_free : Regs
after_second_free = with after_copy 0 Freed

abbrev after_reset : Regs
after_reset = with after_second_free 1 Cleared

abbrev after_third : Regs
after_third = with after_reset 2 (Own (slot_by 5))

abbrev facts : Facts
facts = facts_in direct_map_trace told_maps

abbrev RowsOf : ℕ → Type 0
RowsOf k = HasToldRows sizes facts (no_regs k) (filter (is_of_thread k) maps_told)

-- the second map's partition isn't plain
copied : Row facts (ops.Copy 0 1) after_second (answers.Done (seen_at 16384 2 0x1000001)) after_copy
copied = subst (λ p. PointRow (nat_le 1 p) (slot_by 2) after_second 1 (answers.Done (seen_at 16384 2 0x1000001)) after_copy)
    (sym second.home) (seen_at 16384 2 0x1000001, refl, refl, λ k. refl)

first_rows : RowsOf 0
unfolding slot_size_for rows
first_rows = (
  after_made,
  inr (inl (lit≤ tt, seen_at 16384 0 0, refl, λ k. refl)),
  tt,
  (
    after_free,
    (seen_at 16384 0 0x1000001, refl, refl, λ k. refl),
    tt,
    (
      after_second,
      inr (inl (lit≤ tt, seen_at 16384 2 0, refl, λ k. refl)),
      tt,
      (
        after_copy,
        copied,
        λ s own e. absurd (not_uncounted (seen_at 16384 2 0x1000001) e),
        (
          after_second_free,
          (seen_at 16384 2 0x2000003, refl, refl, λ k. refl),
          tt,
          (
            after_second_free,
            inr (inr (lit≤ tt, 3, refl, λ k. refl)),
            tt,
            (
              after_reset,
              (seen_at 16384 2 0x3000002, refl, refl, λ k. refl),
              tt,
              (after_third, inr (inl (lit≤ tt, seen_at 16384 5 0, refl, λ k. refl)), tt, tt),
            ),
          ),
        ),
      ),
    ),
  ),
)

of_lines : (q : ℕ) → q < 6 → AreOfLines q maps_told
of_lines = below_six (λ p. AreOfLines p maps_told) (lines_told 0 maps_told refl) (lines_told 1 maps_told refl)
    (lines_told 2 maps_told refl) (lines_told 3 maps_told refl) (lines_told 4 maps_told refl) (lines_told 5 maps_told refl)

heap : HeapTells direct_map_trace told_maps maps_told
heap = record {
  told = told;
  lines = of_lines;
  rows = by_one RowsOf first_rows (λ k other. rw (ne_eqb 0 k other) tt);
  seen = have_seen (history_at []) maps_told seen_so;
}

-- ---- the report

line : IsLineSaid direct_map_trace told_maps seat_maps maps_told seat_maps
    (report_line 1 (tally 1 2002944) (tally 0 0) (tally 0 0) direct_map_again_census)
line = record {
  live = lives homes sizes first.home second.home third.home first.long second.long third.long;
  quarantined = waits homes sizes second.home second.long;
  root = record {
    journal = direct_map_again_journal;
    journal_is = refl;
    seen = list_of 4 seat_maps;
    begins = ([], refl);
    pool = direct_map_again_pool;
    pool_is = refl;
    replays = direct_map_again.is_journal;
    taken = sym direct_map_again.counted;
  };
}
  where
    lives : (h z : SlotName → ℕ) → h (slot_by 0) ≡ 0 → h (slot_by 2) ≡ 0 → h (slot_by 5) ≡ 0 → z (slot_by 0) ≡ 2002944 →
        z (slot_by 2) ≡ 2002944 → z (slot_by 5) ≡ 2002944 →
        IsLeftBy issues frees h z 0 1 (until 1 direct_map_records) (tally 1 2002944)
    lives h z a b c d e f = record { slots = rw (a, b, c) refl; bytes = rw (a, b, c, d, e, f) refl }

    waits : (h z : SlotName → ℕ) → h (slot_by 2) ≡ 0 → z (slot_by 2) ≡ 2002944 →
        IsLeftBy enters leaves h z 0 1 (until 1 direct_map_records) (tally 0 0)
    waits h z a b = record { slots = rw a refl; bytes = rw (a, b) refl }

pub says : HasLogs seat_maps maps_told → LayersSay direct_map_trace told_maps seat_maps maps_told
says has = record {
  seats = λ n. seat_maps;
  swaps = [];
  runner = runner has;
  pool = pool_tells;
  roots = roots_tell;
  cells = cells_tell;
  heap = heap;
  report = λ l among. each (λ (k : ReportLine). IsLineSaid direct_map_trace told_maps seat_maps maps_told seat_maps k) direct_map_report
      (line, tt) l among;
}

-- ---- the threads' lists

-- what the lists hold at the end
abbrev CountsLists : ReportLine → Type 0
CountsLists l = (l.cached.slots ≡ cached_slots at_end l.partition 1) × (l.cached.bytes ≡ cached_bytes at_end l.partition 1)

counted : (l : ReportLine) → Contains direct_map_report l → CountsLists l
unfolding rows row_of slot_of listed_slots listed_bytes
counted l among = each CountsLists direct_map_report ((refl, refl), tt) l among

pub lists : ListsSay direct_map_trace told_maps maps_told
lists = record {
  lists = λ n. at_end;
  caches = λ n k low high.
      let one : 1 ≡ n = omega arith in
      subst (λ m. CacheLeadsTo 1 roots (no_caches k) (records_by k (until m direct_map_records)) (at_end k)) one
      (leads_of 1 roots no_caches direct_map_records at_end cached_to k);
  cached = counted;
}

pub lists_are : lists.lists ≡ (λ n. at_end)
unfolding lists
lists_are = refl
