-- The worked run with a purge meets the obligations of all layers at once.
use Rattle.std.proofs.Common.{◌≡◌, ℕ, ◌<◌, ◌≤◌, [], ◌∷◌, filter, take, drop, lit<, lit≤, refl, rules, sym, subst, arith, inl, inr}
use Rattle.std.specs.Prelude.{Contains}
use Rattle.std.specs.List.{AllByRecursion as Each}
use Rattle.std.proofs.lemmas.Bool.{ne_eqb}
use Rattle.pa_slot.specs.declared.word.SlotName.{SlotName}
use Rattle.pa_slot.proofs.Same.{title_tells}
use Rattle.pa_buckets.specs.Table.{rows, row_of, slot_of}
use Rattle.pa_region.specs.Views.{seen_among, counted_on}
use Rattle.pa_region.specs.Lists.{list_of, entered_in}
use Rattle.pa_trace.specs.Limits.{IsWithinLimits}
use Rattle.pa_trace.specs.declared.script.Op.TheVariants as ops
use Rattle.pa_record.specs.declared.entry.Answer.TheVariants as answers
use Rattle.pa_record.specs.declared.report.ReportLine.{ReportLine}
use Rattle.pa_record.specs.Worked.{purge_pool, purge_journal, purge_census}
use Rattle.pa_lists.proofs.Joined.{map_in}
use Rattle.pa_record.proofs.Worked.{purge}
use Rattle.pa_rules.specs.declared.register.Register.TheVariants.{Own, Freed}
use Rattle.pa_rules.specs.Registers.{Regs, with, no_regs}
use Rattle.pa_rules.specs.Roots.{Journals, journal_at}
use Rattle.pa_rules.specs.Cells.{history_at}
use Rattle.pa_rules.specs.Caches.{IsOfClass, no_caches, listed_slots}
use Rattle.pa_rules.specs.Report.{HasSize, until, listed_bytes, cached_slots, cached_bytes}
use Rattle.pa_rules.specs.Sizes.{slot_size_for}
use Rattle.pa_rules.specs.Legal.{IsLegalTold}
use Rattle.pa_rules.specs.Worked.{first_slot, purge_records}
use Rattle.pa_legal.specs.Known.{IsKnown}
use Rattle.pa_slot.specs.Kinds.{issues, frees}
use Rattle.pa_legal.proofs.Converse.{legal_is_known}
use Rattle.pa_examples.specs.Worked.{tally, report_line}
use Rattle.pa_examples.specs.WorkedPurge.{purge_trace, purge_report}
use Rattle.pa_examples.proofs.worked.Lists.{each}
use Rattle.pa_examples.proofs.worked.Knowing.{all_used}
use Rattle.pa_examples.proofs.worked.OneFill.{the_slot, filled}
use Rattle.pa_examples.proofs.worked.Purge as worked
use Rattle.pa_logs.specs.Told.{ToldRecord, told_of, is_of_thread}
use Rattle.pa_logs.specs.Touches.{IsTold, AreTold}
use Rattle.pa_logs.specs.Listed.{IsJournalOf}
use Rattle.pa_logs.specs.Reported.{IsLeftBy, CacheLeadsTo}
use Rattle.pa_logs.specs.Rows.{records_by}
use Rattle.pa_logs.specs.Seats.{AreOfLines}
use Rattle.pa_logs.specs.Said.{sizes_in, homes_in, facts_in, HasToldRows, EndsPhase, RunnerSays, PoolTells, RootsTell, CellsTell, HeapTells, IsLineSaid, LayersSay, ListsSay, HasLogs}
use Rattle.pa_logs.specs.Worked.{its_title}
use Rattle.pa_logs.proofs.Homing.{homes_follow}
use Rattle.pa_logs.proofs.Sizing.{lengths_follow}
use Rattle.pa_examples.specs.told.OneThread.{told_purge, seat_purge}
use Rattle.pa_examples.specs.told.Purge.{purge_worked, purge_told}
use Rattle.pa_examples.specs.told.Threads.{seen_number}
use Rattle.pa_examples.proofs.told.Entering.{below_four, below_six, lines_told}
use Rattle.pa_examples.proofs.told.Fitting.{purge_asked}
use Rattle.pa_examples.proofs.told.Making.{Makes, makes_none, makes_all, none_makes}
use Rattle.pa_examples.proofs.told.OneThread.{by_one, IsAlone, no_cells_tell, leads_of}
use Rattle.pa_examples.proofs.told.Purge.{last, seen_so}
use Rattle.pa_examples.proofs.told.Seats.{append_none}
use Rattle.pa_examples.proofs.told.Seen.{heard_by, have_seen}
use Rattle.pa_rules.proofs.Worked.{class_0}

abbrev pub roots : Journals
roots = journal_at (purge_journal ∷ [])

abbrev pub sizes : SlotName → ℕ
sizes = sizes_in purge_trace told_purge

abbrev homes : SlotName → ℕ
homes = homes_in purge_trace told_purge

-- ---- a slot's length and partition, and the root's numbers

pub size_is : (s : SlotName) → HasSize roots 0 s 16 → sizes s ≡ 16
size_is s has = lengths_follow.named 1 1 0 16 purge_records purge_pool roots s worked.rooted worked.pooled has

pub in_class_0 : (s : SlotName) → IsOfClass roots s 0 0 → HasSize roots 0 s 16
unfolding rows row_of slot_of
in_class_0 s of = inl (0, of, refl)

has_size : HasSize roots 0 the_slot 16
has_size = in_class_0 the_slot (_, _, filled, (0, lit< tt, refl), refl, (0, lit< tt, refl))

long : sizes the_slot ≡ 16
long = size_is the_slot has_size

home : homes the_slot ≡ 0
home = homes_follow.named 1 1 0 16 purge_records purge_pool roots the_slot worked.rooted worked.pooled has_size

legal : IsLegalTold purge_trace told_purge
legal = record {
  lines = refl;
  cells = worked.cells;
  registers = worked.registers;
  slots = worked.slots_in_order;
  contents = worked.contents;
  pool = worked.pooled;
  roots = worked.rooted;
  titles = worked.titled;
  holders = worked.held;
  caches = worked.cached;
  seen = worked.seen;
  report = worked.reported;
}

known : IsKnown purge_trace told_purge purge_records
known = legal_is_known purge_trace told_purge legal (all_used purge_records refl)

-- ---- the runner

limits : IsWithinLimits purge_trace
limits = record { version = (omega arith, omega arith); head = search rules; lines = search rules; few = search rules }

pub alone : IsAlone purge_told (seen_number 3) purge_journal purge_pool
alone = record {
  knows = last;
  root = refl;
  pool = refl;
  others = λ q n0 n4. rw (ne_eqb 0 q n0, ne_eqb 4 q n4) refl;
  alone = λ k other. rw (ne_eqb 0 k other) refl;
  own_logs = refl;
  adds = λ q. refl;
  found = refl;
  unread = refl;
  all_seen = λ t. elim (title_tells its_title t) [
    | inl y ↦ subst (λ u. seen_among u (seen_number 3) ≤ told_of purge_told (counted_on u)) y.1 (lit≤ tt)
    | inr none ↦ rw none.0 (omega arith)
  ];
}

pub alone_knows : alone.knows ≡ last
unfolding alone
alone_knows = refl

-- the seat is that of the only phase's end
module _ (has : HasLogs seat_purge purge_told) where
  ends : (n : ℕ) → 1 ≤ n → n ≤ 1 → EndsPhase n seat_purge seat_purge purge_told
  ends n low high =
      let one : 1 ≡ n = omega arith in
      subst (λ m. EndsPhase m seat_purge seat_purge purge_told) one
      (record { has = has; begins = λ q few. ([], append_none (list_of q seat_purge)) })

  runner : RunnerSays purge_trace told_purge seat_purge purge_told (λ n. seat_purge)
  runner = record {
    limits = limits;
    due = refl;
    records = refl;
    has = has;
    ends = ends;
    heard = heard_by purge_worked (seen_number 3) refl;
    phases = λ x y u first second less. seen_so.stands x y u first second (inr less);
    places = refl;
  }

-- ---- the pool, the roots and the cells

pool_tells : PoolTells purge_trace told_purge seat_purge purge_told
pool_tells = record { list = refl; fits = purge.is_pool; asked = purge_asked }

abbrev NoEntries : ℕ → Type 0
NoEntries p = Each (λ (x : ToldRecord). entered_in p x.stretch ≡ []) purge_told

first_makes : (x : ToldRecord) → Contains purge_told x → Makes purge_pool 0 x
first_makes x among = each (Makes purge_pool 0) purge_told (
  makes_all purge_pool _ (take 1 purge_journal) refl ((0, 8, refl, class_0), tt),
  (
    makes_none purge_pool 0 _ refl,
    (
      makes_all purge_pool _ (take 2 (drop 1 purge_journal)) refl (inr refl, (refl, tt)),
      (makes_all purge_pool _ (drop 3 purge_journal) refl ((1, 8, refl, class_0), tt), tt),
    ),
  ),
) x among

-- no request is refused
abbrev IsNoRefusal : ToldRecord → Type 0
IsNoRefusal x = (j reg p size : ℕ) → x.played.answer ≡ answers.Full j → x.played.op ≡ ops.Alloc reg p size → ⊥

none_refused : (x : ToldRecord) → Contains purge_told x → IsNoRefusal x
none_refused x among = each IsNoRefusal purge_told
    ((λ j r p s a o. absurd cc), ((λ j r p s a o. absurd cc), ((λ j r p s a o. absurd cc), ((λ j r p s a o. absurd cc), tt)))) x among

roots_tell : RootsTell purge_trace told_purge seat_purge purge_told
roots_tell = record {
  lists = below_four (λ p. IsJournalOf (list_of p seat_purge) (roots p)) refl refl refl refl;
  journals = worked.rooted.journals;
  none_past = worked.rooted.none_past;
  makes = λ x p m e few among.
      (below_four (λ q. Makes purge_pool q x) (first_makes x among)
      (none_makes purge_pool 1 purge_told (refl, (refl, (refl, (refl, tt)))) x among)
      (none_makes purge_pool 2 purge_told (refl, (refl, (refl, (refl, tt)))) x among)
      (none_makes purge_pool 3 purge_told (refl, (refl, (refl, (refl, tt)))) x among) p few).makes_it m e;
  refused = λ x j reg p size among full op. absurd (none_refused x among j reg p size full op);
  numbers = known.numbers;
  unmaps = λ x among. known.unmaps x.played (map_in (λ (y : ToldRecord). y.played) purge_told x among);
}

cells_tell : CellsTell told_purge seat_purge purge_told []
cells_tell = no_cells_tell told_purge seat_purge purge_told refl refl (refl, (refl, (refl, (refl, tt)))) refl

-- ---- the workers

told : AreTold sizes purge_told
told x among = each (IsTold sizes) purge_told (subst (λ n. Each (IsTold (λ s. n)) purge_told) (sym long)
    ((([], tt, refl), refl), (([], tt, refl), (refl, ((([], tt, refl), refl), tt))))) x among

-- the registers after each line
abbrev after_made : Regs
after_made = with (no_regs 0) 0 (Own the_slot)

abbrev after_free : Regs
after_free = with after_made 0 Freed

abbrev after_again : Regs
after_again = with after_free 1 (Own the_slot)

abbrev RowsOf : ℕ → Type 0
RowsOf k = HasToldRows sizes (facts_in purge_trace told_purge) (no_regs k) (filter (is_of_thread k) purge_told)

first_rows : RowsOf 0
unfolding slot_size_for rows
first_rows = (
  after_made,
  inr (inl (lit≤ tt, first_slot 0, refl, λ k. refl)),
  tt,
  (
    after_free,
    (first_slot 16777217, refl, refl, λ k. refl),
    tt,
    (
      after_free,
      (8, refl, λ k. refl),
      tt,
      (after_again, inr (inl (lit≤ tt, first_slot 33554432, refl, λ k. refl)), tt, tt),
    ),
  ),
)

of_lines : (q : ℕ) → q < 6 → AreOfLines q purge_told
of_lines = below_six (λ p. AreOfLines p purge_told) (lines_told 0 purge_told refl) (lines_told 1 purge_told refl)
    (lines_told 2 purge_told refl) (lines_told 3 purge_told refl) (lines_told 4 purge_told refl) (lines_told 5 purge_told refl)

heap : HeapTells purge_trace told_purge purge_told
heap = record {
  told = told;
  lines = of_lines;
  rows = by_one RowsOf first_rows (λ k other. rw (ne_eqb 0 k other) tt);
  seen = have_seen (history_at []) purge_told seen_so;
}

-- ---- the report

line : IsLineSaid purge_trace told_purge seat_purge purge_told seat_purge
    (report_line 1 (tally 1 16) (tally 0 0) (tally 7 112) purge_census)
line = record {
  live = counted homes sizes home long;
  quarantined = record { slots = refl; bytes = refl };
  root = record {
    journal = purge_journal;
    journal_is = refl;
    seen = list_of 4 seat_purge;
    begins = ([], refl);
    pool = purge_pool;
    pool_is = refl;
    replays = purge.is_journal;
    taken = sym purge.counted;
  };
}
  where
    counted : (h z : SlotName → ℕ) → h the_slot ≡ 0 → z the_slot ≡ 16 → IsLeftBy issues frees h z 0 1 (until 1 purge_records) (tally 1 16)
    counted h z at_home bytes = record { slots = rw at_home refl; bytes = rw (at_home, bytes) refl }

pub says : HasLogs seat_purge purge_told → LayersSay purge_trace told_purge seat_purge purge_told
says has = record {
  seats = λ n. seat_purge;
  swaps = [];
  runner = runner has;
  pool = pool_tells;
  roots = roots_tell;
  cells = cells_tell;
  heap = heap;
  report = λ l among. each (λ (k : ReportLine). IsLineSaid purge_trace told_purge seat_purge purge_told seat_purge k) purge_report
      (line, tt) l among;
}

-- ---- the threads' lists

-- what the lists hold at the end
abbrev CountsLists : ReportLine → Type 0
CountsLists l = (l.cached.slots ≡ cached_slots worked.at_end l.partition 1) × (l.cached.bytes ≡ cached_bytes worked.at_end l.partition 1)

counted : (l : ReportLine) → Contains purge_report l → CountsLists l
unfolding rows row_of slot_of listed_slots listed_bytes
counted l among = each CountsLists purge_report ((refl, refl), tt) l among

pub lists : ListsSay purge_trace told_purge purge_told
lists = record {
  lists = λ n. worked.at_end;
  caches = λ n k low high.
      let one : 1 ≡ n = omega arith in
      subst (λ m. CacheLeadsTo 1 roots (no_caches k) (records_by k (until m purge_records)) (worked.at_end k)) one
      (leads_of 1 roots no_caches purge_records worked.at_end worked.cached_to k);
  cached = counted;
}

pub lists_are : lists.lists ≡ (λ n. worked.at_end)
unfolding lists
lists_are = refl
