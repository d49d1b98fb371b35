-- The end of a phase: its lines of the report, and the line that begins the next.
use Rattle.std.proofs.Common.{◌≡◌, ℕ, zero, suc, ◌+◌, ◌-◌, ◌<◌, ◌≤◌, cond, List, [], ◌∷◌, ◌++◌, map, length, None, refl, sym, ap, ◌∙◌, subst, arith}
use Rattle.std.specs.Prelude.{All, Contains}
use Rattle.std.proofs.lemmas.List.{append-nil, map-append, length_push, length-map, get_or-map}
use Rattle.std.proofs.lemmas.List.Elements.{All-nil, All-cons, All-append, All-weaker}
use Rattle.std.proofs.lemmas.List.Sums.{sum_by_push, count_by-le-length}
use Rattle.pa_trace.specs.declared.script.Line.{Line}
use Rattle.pa_trace.specs.declared.script.Line.TheVariants.{Phase, Do}
use Rattle.pa_trace.specs.declared.script.Rules.{Rules}
use Rattle.pa_record.specs.declared.pool.PoolEntry.{PoolEntry}
use Rattle.pa_record.specs.declared.report.ReportLine.{ReportLine}
use Rattle.pa_record.specs.Census.{census}
use Rattle.pa_rules.specs.declared.played.Played.{Played}
use Rattle.pa_rules.specs.Played.{OpLine, AreLines, op_lines, op_line_of}
use Rattle.pa_rules.specs.Legal.{is_phase, phases_in}
use Rattle.pa_rules.specs.Roots.{Journals}
use Rattle.pa_rules.specs.Report.{partitions_of, phases_of}
use Rattle.pa_heap_effects.specs.Deeds.{IsPlacedTo}
use Rattle.pa_heap_effects.specs.Pooled.{IsPooledTo}
use Rattle.pa_heap_effects.proofs.Filing.{line_passes}
use Rattle.pa_heap_effects.proofs.Onwards.{run_goes_on}
use Rattle.pa_slot_effects.proofs.Ending.{ends_right}
use Rattle.pa_rules.proofs.Lined.{phase_after, phases_are, phase_on}
use Rattle.pa_slot_effects.proofs.Starting.{phase_goes_on}
use Rattle.pa_player.specs.Player.{Player}
use Rattle.pa_player.specs.Playing.{shown, journals, caches, home_in, len_in, AreShaped, AreBounded, IsToldLine, IsPlaying, rules_at}
use Rattle.pa_player.specs.Changes.{report_line, report_lines, phase_ended, phase_begun}
use Rattle.pa_player.specs.Plays.{GoesTo}
use Rattle.pa_player.specs.Told.{history_in}
use Rattle.pa_player.specs.Asks.{CanEnd}
use Rattle.pa_rules.proofs.ReportLines.{phases_push}

-- ---- the phases of the records

lines_until : (rules : Rules) (n phase : ℕ) (ls : List Line) (a : OpLine) → Contains (op_lines rules n phase ls) a →
    a.phase ≤ phase_after phase ls
lines_until rules n phase [] a c = absurd (omega (arith, c.1))
lines_until rules n phase (Phase ∷ ls) a c = lines_until rules (n + 1) (phase + 1) ls a c
lines_until rules n phase (Do t o ∷ ls) a (zero, c, e) = omega (arith, phase_on phase ls, ap (λ (x : OpLine). x.phase) e)
lines_until rules n phase (Do t o ∷ ls) a (suc i, c, e) = lines_until rules (n + 1) phase ls a (i, omega (arith, c), e)

-- the records so far are in the phases so far
played_until : (rules : Rules) (ls : List Line) (ps : List Played) → AreLines rules ls ps → (x : Played) → Contains ps x →
    x.phase ≤ phases_in ls
played_until rules ls ps lines x (i, lt, e) =
    let among : Contains (map op_line_of ps) (op_line_of x) =
    (i, omega (arith, lt, length-map ps op_line_of), get_or-map op_line_of ps i x (op_line_of x) lt ∙ ap op_line_of e) in
    omega (arith, lines_until rules 2 1 ls (op_line_of x) (subst (λ zs. Contains zs (op_line_of x)) lines among), phases_are ls)

pub phases_begin : (ls : List Line) → phases_in (ls ++ Phase ∷ []) ≡ phases_in ls + 1
phases_begin ls =
    let more = sum_by_push (λ (l : Line). cond (is_phase l) 1 0) ls Phase in
    omega (arith, more)

-- no more phases than lines
phases_few : (ls : List Line) → phases_in ls ≤ length ls + 1
phases_few ls = omega (arith, count_by-le-length is_phase ls)

pub phases_some : (ls : List Line) → 1 ≤ phases_in ls
phases_some ls = omega arith

-- ---- the places of the lines of a report

report_places : (p : Player) (q n : ℕ) → map (λ (l : ReportLine). (l.phase, l.partition)) (report_lines p q n) ≡ partitions_of p.phase q n
report_places p q zero = refl
report_places p q (suc n) = ap (λ zs. (p.phase, q) ∷ zs) (report_places p (q + 1) n)

phases_next : (partitions n : ℕ) → 1 ≤ n → phases_of partitions 1 (n - 1) ++ partitions_of n 0 partitions ≡ phases_of partitions 1 n
phases_next partitions n some =
    let f : ℕ → List (ℕ × ℕ) = λ k. phases_of partitions 1 (n - 1) ++ partitions_of k 0 partitions in
    let g : ℕ → List (ℕ × ℕ) = λ k. phases_of partitions 1 k in
    let e : n ≡ 1 + (n - 1) = omega arith in
    let s : suc (n - 1) ≡ n = omega arith in
    ap f e ∙ sym (phases_push partitions 1 (n - 1)) ∙ ap g s

-- ---- the lines

told_all : (P : ReportLine → Type 0) (p : Player) (q n : ℕ) → ((k : ℕ) → k < q + n → P (report_line p k)) → All P (report_lines p q n)
told_all P p q zero h = All-nil P
told_all P p q (suc n) h =
    All-cons P (report_line p q) (report_lines p (q + 1) n) (h q (omega arith)) (told_all P p (q + 1) n (λ k lt. h k (omega (arith, lt))))

-- what was reported stays so on later lines and in later phases
pub told_stays : (partitions threads n m phase next : ℕ) (ps : List Played) (pools : List PoolEntry) (roots : Journals) (l : ReportLine) →
    n ≤ m → phase ≤ next
    → IsToldLine partitions threads n phase ps pools roots l → IsToldLine partitions threads m next ps pools roots l
told_stays partitions threads n m phase next ps pools roots l le on t = record {
  line = t.line;
  early = t.early;
  entries = t.entries;
  before = t.before;
  all = t.all;
  home = t.home;
  size = t.size;
  passed = omega (arith, t.passed);
  ended = omega (arith, t.ended);
  placed = t.placed;
  slots = t.slots;
  goes_on = t.goes_on;
  within = t.within;
  later = t.later;
  homes = t.homes;
  live = t.live;
  quarantined = t.quarantined;
  many = t.many;
  bytes = t.bytes;
  census = t.census;
}

module _ (region partitions threads : ℕ) (ls : List Line) (p : Player) (h : IsPlaying region partitions threads ls p) where
  -- the line of a partition that is reported now
  told_now : (q : ℕ) → q < partitions →
      IsToldLine partitions threads (length ls + 2) (p.phase + 1) h.ps p.told.pools (journals p) (report_line p q)
  told_now q low =
      let t = h.tallied q low in
      record {
        line = length ls + 2;
        early = h.ps;
        entries = p.told.pools;
        before = journals p;
        all = caches p;
        home = home_in p.table;
        size = len_in p.table;
        passed = omega arith;
        ended = omega arith;
        placed = h.placed;
        slots = (ends_right threads ls h.ps (shown p) h.told).slots;
        goes_on = run_goes_on.here (length ls + 2) h.ps p.told.pools (journals p);
        within = λ x among. omega (arith, played_until (rules_at p) ls h.ps h.told.lines x among, h.phase);
        later = λ x among past. absurd (omega (arith, h.placed.recorded x among, past));
        homes = h.marked;
        live = t.is_live;
        quarantined = t.is_quarantined;
        many = t.many;
        bytes = t.bytes;
        census = ap census (h.roots q);
      }

  -- the report at the end of the phase
  pub told_then : All (IsToldLine partitions threads (length ls + 2) (p.phase + 1) h.ps p.told.pools (journals p))
      (phase_ended p).told.report
  told_then =
      let P : ReportLine → Type 0 = IsToldLine partitions threads (length ls + 2) p.phase h.ps p.told.pools (journals p) in
      let Q : ReportLine → Type 0 = IsToldLine partitions threads (length ls + 2) (p.phase + 1) h.ps p.told.pools (journals p) in
      let on : (l : ReportLine) → P l → Q l = λ l t.
      told_stays partitions threads (length ls + 2) (length ls + 2) p.phase (p.phase + 1) h.ps p.told.pools (journals p) l (omega arith)
      (omega arith) t in
      All-append Q p.told.report (report_lines p 0 p.partitions) (All-weaker P Q on p.told.report h.reported)
      (told_all Q p 0 p.partitions (λ k lt. told_now k (omega (arith, lt, h.shaped.many))))

  pub places_then : map (λ (l : ReportLine). (l.phase, l.partition)) (phase_ended p).told.report ≡ phases_of partitions 1 p.phase
  places_then =
      let f : ReportLine → ℕ × ℕ = λ l. (l.phase, l.partition) in
      let g : ℕ → List (ℕ × ℕ) = λ n. phases_of partitions 1 (p.phase - 1) ++ partitions_of p.phase 0 n in
      map-append f p.told.report (report_lines p 0 p.partitions)
      ∙ ap (λ zs. zs ++ map f (report_lines p 0 p.partitions)) h.places
      ∙ ap (λ zs. phases_of partitions 1 (p.phase - 1) ++ zs) (report_places p 0 p.partitions)
      ∙ ap g h.shaped.many
      ∙ phases_next partitions p.phase (omega (arith, h.phase, phases_some ls))

  -- the line that begins the next phase
  module _ (short : length ls < 65535) where
    next : length (ls ++ Phase ∷ []) ≡ length ls + 1
    next = length_push ls Phase

    next_line : length ls + 2 + 1 ≡ length (ls ++ Phase ∷ []) + 2
    next_line = omega (arith, next)

    begun_shaped : AreShaped partitions threads (phase_begun p)
    begun_shaped = record {
      many = h.shaped.many;
      four = h.shaped.four;
      registers = h.shaped.registers;
      sixty_four = h.shaped.sixty_four;
      cells = h.shaped.cells;
      histories = h.shaped.histories;
      journals = h.shaped.journals;
      roots = h.shaped.roots;
      lists = h.shaped.lists;
      held = h.shaped.held;
      celled = h.shaped.celled;
      handles = h.shaped.handles;
      listed = h.shaped.listed;
      short = h.shaped.short;
      live = h.shaped.live;
      quarantined = h.shaped.quarantined;
      cached = h.shaped.cached;
    }

    begun_bounded : AreBounded (length (ls ++ Phase ∷ []) + 2) (phase_begun p)
    begun_bounded = record {
      few = omega (arith, next);
      slots = omega (arith, next, h.bounded.slots);
      pools = omega (arith, next, h.bounded.pools);
      journals = λ q. omega (arith, next, h.bounded.journals q);
      histories = λ k. omega (arith, next, h.bounded.histories k);
      turns = λ q. omega (arith, next, h.bounded.turns q);
      born = h.bounded.born;
    }

    begun_told : All (IsToldLine partitions threads (length (ls ++ Phase ∷ []) + 2) (p.phase + 1) h.ps p.told.pools (journals p))
        (phase_ended p).told.report
    begun_told =
        let P : ReportLine → Type 0 = IsToldLine partitions threads (length ls + 2) (p.phase + 1) h.ps p.told.pools (journals p) in
        let Q : ReportLine → Type 0 =
        IsToldLine partitions threads (length (ls ++ Phase ∷ []) + 2) (p.phase + 1) h.ps p.told.pools (journals p) in
        let on : (l : ReportLine) → P l → Q l = λ l t.
        told_stays partitions threads (length ls + 2) (length (ls ++ Phase ∷ []) + 2) (p.phase + 1) (p.phase + 1) h.ps p.told.pools
        (journals p) l (omega (arith, next)) (omega arith) t in
        All-weaker P Q on (phase_ended p).told.report told_then

    begun : IsPlaying region partitions threads (ls ++ Phase ∷ []) (phase_begun p)
    begun = record {
      ps = h.ps;
      told = phase_goes_on threads ls h.ps (shown p) h.told;
      entries = h.entries;
      line = omega (arith, next, h.line);
      phase = omega (arith, h.phase, phases_begin ls);
      placed = subst (λ n. IsPlacedTo partitions n h.ps p.told.pools (journals p) (caches p)) next_line
          (line_passes.placed partitions (length ls + 2) h.ps p.told.pools (journals p) (caches p) h.placed);
      pooled = subst (λ n. IsPooledTo region n p.told.pools (journals p)) next_line
          (line_passes.pooled region (length ls + 2) p.told.pools (journals p) h.pooled);
      roots = h.roots;
      plan = h.plan;
      slots = h.slots;
      marked = h.marked;
      shaped = begun_shaped;
      bounded = begun_bounded;
      tallied = h.tallied;
      reported = begun_told;
      places =
          let f : ℕ → List (ℕ × ℕ) = λ n. phases_of partitions 1 n in
          let e : p.phase ≡ p.phase + 1 - 1 = omega arith in
          places_then ∙ ap f e;
      printable = h.printable;
    }

-- a line that begins a phase is played
pub phase_plays : (p : Player) → GoesTo p Phase None (phase_begun p)
phase_plays p region partitions threads ls can = (
  begun region partitions threads ls p can.playing can.short,
  record {
    rules = refl;
    entries = sym (append-nil p.told.entries);
    journals = λ k. ([], sym (append-nil (journals p k)));
    histories = λ k. ([], sym (append-nil (history_in p.told k)));
  },
)

-- what the end of a phase asks
pub end_ready : (region partitions threads : ℕ) (ls : List Line) (p : Player) → length ls ≤ 65535 →
    IsPlaying region partitions threads ls p → CanEnd p
end_ready region partitions threads ls p few h = record {
  four = omega (arith, h.shaped.many, h.shaped.four);
  roots = omega (arith, h.shaped.many, h.shaped.roots);
  phase = omega (arith, h.phase, phases_few ls);
  line = omega (arith, h.line);
}
