-- A worker plays lines one after the other.
use Rattle.std.proofs.Common.{◌≡◌, Bool, true, false, ℕ, zero, suc, ◌+◌, ◌<◌, ◌≤◌, ◌==◌, List, [], ◌∷◌, ◌++◌, length, map, refl, sym, ◌∙◌, ap, subst, arith, inl, inr, append-nil, append_assoc}
use Rattle.std.proofs.Common.{take, drop, get_or}
use Rattle.std.proofs.Math.Seq.{take_all}
use Rattle.std.proofs.lemmas.Bool.{eqb-true}
use Rattle.std.proofs.lemmas.Option.{slice_get-get_or}
use Rattle.std.proofs.lemmas.List.{map-append, length-map, length-append, take_more}
use Rattle.pa_trace.specs.declared.script.Op.{Op}
use Rattle.pa_trace.specs.declared.script.Op.TheVariants.{Purge}
use Rattle.std.specs.Prelude.{Contains, OnOk, OnErr}
use Rattle.std.specs.declared.result.Result.{Result}
use Rattle.std.specs.declared.result.Result.TheVariants.{Ok, Err}
use Rattle.std.specs.List.{AllByRecursion}
use Rattle.pa_trace.specs.Limits.{IsOpWithin}
use Rattle.pa_trace.specs.declared.script.Rules.{Rules}
use Rattle.pa_record.specs.declared.entry.Answer.{Answer}
use Rattle.pa_record.specs.declared.entry.Entry.{Entry}
use Rattle.pa_lists.proofs.Members.{in_cases, not_in_none}
use Rattle.pa_rules.specs.declared.played.Played.{Played}
use Rattle.pa_rules.specs.Played.{op_line_of, entry_of}
use Rattle.pa_logs.specs.Told.{ToldRecord, played_in}
use Rattle.pa_totals.specs.Settled.{none_owed, all_added}
use Rattle.pa_op_specs.specs.Stocks.{StockValue, rules_at}
use Rattle.pa_op_specs.specs.Workers.{WorkerValue, IsWorker, HasItsStake, CanPlayOp, KeepsOn}
use Rattle.pa_op_specs.specs.Plays.{PlaysOp, PlaysAll}
use Rattle.pa_op_specs.specs.Settling.{SettlingEndsPhase, last_lengthened, settled_worker}
use Rattle.pa_thread_state.specs.Stopping.{KeepsItsStake}
use Rattle.pa_op_specs.proofs.Following.{some, composes}
use Rattle.pa_execution.proofs.Playing.{stays, keeps_rules}
use Rattle.pa_runner.specs.declared.thread_lines.LineOp.{LineOp}
use Rattle.pa_runner.specs.Playing.{in_phase, AreBefore, EndsWith, CanPlay, PlaysLines, IsPlayed}
use Rattle.pa_runner.specs.Stopped.{StopsOp, stopped_with}

-- ---- records of lines before a line

in_append : (e : Entry) (xs ys : List Entry) → Contains (xs ++ ys) e → (P : Entry → Type 0) → ((z : Entry) → Contains xs z → P z) →
    ((z : Entry) → Contains ys z → P z) → P e
in_append e [] ys among P front back = back e among
in_append e (x ∷ xs) ys among P front back = elim (in_cases x e (xs ++ ys) among) [
  | inl same ↦ subst P same (front x (0, omega arith, refl))
  | inr later ↦ in_append e xs ys later P (λ z (i, low, is). front z (suc i, omega arith, is)) back
]

-- ---- one line, none, and some after others

pub plays_one : (due : LineOp) (answer : Answer) (w v : WorkerValue) → PlaysOp due.line due.op answer w v →
    KeepsOn w v → PlaysLines (due ∷ []) w v
plays_one due answer w v plays keeps = record {
  plays = λ phase. let (x, is, one, leads) = plays phase in (x ∷ [], (v, one, leads, refl), ap (λ (p : Played). op_line_of p ∷ []) is);
  going = keeps.going;
  stake = keeps.stake;
  records = let (x, is, one, leads) = plays 0 in (entry_of x.played ∷ [], one.records, ap (λ (p : Played). p.line ∷ []) is);
  room = keeps.room;
}

pub plays_none : (w : WorkerValue) → (lines : List LineOp) → CanPlay lines w → PlaysLines [] w w
plays_none w lines can = record {
  plays = λ phase. ([], refl, refl);
  going = can.going;
  stake = can.stake;
  records = ([], sym (append-nil w.records), refl);
  room = refl;
}

pub plays_then : (xs ys : List LineOp) (u v w : WorkerValue) → PlaysLines xs u v → PlaysLines ys v w → PlaysLines (xs ++ ys) u w
plays_then xs ys u v w first second = record {
  plays = λ phase.
      let (a, played, lines) = first.plays phase in
      let (b, more, rest) = second.plays phase in
      let (thread, many) = stays u v a (some u v a played) in
      let joined : map op_line_of (played_in (a ++ b)) ≡ map op_line_of (played_in a) ++ map op_line_of (played_in b) =
      ap (map op_line_of) (map-append (λ (x : ToldRecord). x.played) a b) ∙ map-append op_line_of (played_in a) (played_in b) in
      let same : map (in_phase (rules_at v.stock) phase v.stock.thread) ys ≡ map (in_phase (rules_at u.stock) phase u.stock.thread) ys =
      ap (λ (by : Rules). map (in_phase by phase v.stock.thread) ys) (keeps_rules u v a (some u v a played)) ∙
      ap (λ k. map (in_phase (rules_at u.stock) phase k) ys) thread in (
        a ++ b,
        composes u v w a b played more,
        joined ∙ (ap (λ os. os ++ map op_line_of (played_in b)) lines
            ∙ (ap (λ os. map (in_phase (rules_at u.stock) phase u.stock.thread) xs ++ os) (rest ∙ same) ∙
            sym (map-append (in_phase (rules_at u.stock) phase u.stock.thread) xs ys))),
      );
  going = second.going;
  stake = second.stake;
  records =
      let (es, is, of) = first.records in
      let (fs, more, rest) = second.records in (
        es ++ fs,
        more ∙ (ap (λ zs. zs ++ fs) is ∙ append_assoc u.records es fs),
        map-append (λ (e : Entry). e.line) es fs
            ∙ (ap (λ ns. ns ++ map (λ (e : Entry). e.line) fs) of ∙
            (ap (λ ns. map (λ (d : LineOp). d.line) xs ++ ns) rest ∙ sym (map-append (λ (d : LineOp). d.line) xs ys))),
      );
  room = second.room ∙ first.room;
}

-- how many records it has then
pub plays_count : (lines : List LineOp) (w v : WorkerValue) → PlaysLines lines w v → length v.records ≡ length w.records + length lines
plays_count lines w v played =
    let (es, is, of) = played.records in
    let a = ap (λ zs. length zs) is in
    let b = length-append w.records es in
    let c = ap (λ ns. length ns) of in
    let d = length-map es (λ (e : Entry). e.line) in
    let f = length-map lines (λ (x : LineOp). x.line) in
    omega arith

-- ---- a worker that can play lines can play the first, and then the others

pub can_first : (due : LineOp) (rest : List LineOp) (w : WorkerValue) → CanPlay (due ∷ rest) w →
    CanPlayOp w × IsOpWithin w.stock.partitions due.op × AreBefore due.line w.records
can_first due rest w can =
    let (n, before, rises) = can.rise in
    let low = rises.0 in
    let room = can.room in (
      record { going = can.going; stake = can.stake; room = omega arith },
      can.limits.0,
      λ e among. let b = before e among in omega arith,
    )

pub can_rest : (due : LineOp) (rest : List LineOp) (w v : WorkerValue) → CanPlay (due ∷ rest) w → PlaysLines (due ∷ []) w v → CanPlay rest v
can_rest due rest w v can played = record {
  going = played.going;
  stake = played.stake;
  room = let c = plays_count (due ∷ []) w v played in let r = can.room in let s = played.room in omega arith;
  limits =
      let (xs, all, of) = played.plays 0 in
      let (thread, many) = stays w v xs (some w v xs all) in
      subst (λ p. AllByRecursion (λ (d : LineOp). IsOpWithin p d.op) rest) (sym many) can.limits.1;
  rise =
      let (n, before, rises) = can.rise in
      let low = rises.0 in
      let (es, is, of) = played.records in (
        due.line + 1,
        λ e among.
            in_append e w.records es (subst (λ zs. Contains zs e) is among) (λ z. z.line < due.line + 1)
            (λ z there. let b = before z there in omega arith)
            (λ z there. let same = only es z of there in omega arith),
        rises.1,
      );
}
  where
    only : (es : List Entry) (z : Entry) → map (λ (e : Entry). e.line) es ≡ due.line ∷ [] → Contains es z → z.line ≡ due.line
    only [] z of there = absurd (not_in_none z there)
    only (e ∷ []) z of there = elim (in_cases e z [] there) [
      | inl same ↦ sym (ap (λ (x : Entry). x.line) same) ∙ cc
      | inr later ↦ absurd (not_in_none z later)
    ]
    only (e ∷ f ∷ es) z of there = absurd cc

-- ---- one op, as the gate sees it

pub one_thread : (line : ℕ) (op : Op) (answer : Answer) (w v : WorkerValue) (k : ℕ) → PlaysOp line op answer w v →
    w.stock.thread ≡ k → v.stock.thread ≡ k
one_thread line op answer w v k plays own = let (x, is, one, leads) = plays 0 in one.does.same.0 ∙ own

pub one_last : (line : ℕ) (op : Op) (answer : Answer) (w v : WorkerValue) (k : ℕ) → PlaysOp line op answer w v → w.stock.thread ≡ k →
    EndsWith (record { line = line; thread = k; answer = answer }) v.records
one_last line op answer w v k plays own =
    let (x, is, one, leads) = plays 0 in (
      w.records,
      one.records ∙
          (ap (λ (p : Played). w.records ++ entry_of p ∷ []) is ∙
          ap (λ n. w.records ++ record { line = line; thread = n; answer = answer } ∷ []) own),
    )

-- ---- the lines from a place on

pub drop_next : (ds : List LineOp) (i : ℕ) (d : LineOp) → i < length ds → drop i ds ≡ get_or ds i d ∷ drop (i + 1) ds
drop_next [] i d low = absurd (omega arith)
drop_next (x ∷ xs) zero d low = refl
drop_next (x ∷ xs) (suc i) d low = let e : suc (i + 1) ≡ suc i + 1 = omega arith in
    drop_next xs i d (omega arith) ∙ ap (λ n. get_or xs i d ∷ drop n (x ∷ xs)) e

pub can_next : (ds : List LineOp) (i : ℕ) (d : LineOp) (w : WorkerValue) → i < length ds → CanPlay (drop i ds) w →
    CanPlay (get_or ds i d ∷ drop (i + 1) ds) w
can_next ds i d w low can = subst (λ xs. CanPlay xs w) (drop_next ds i d low) can

pub next_ready : (ds : List LineOp) (i : ℕ) (w : WorkerValue) → i < length ds → CanPlay (drop i ds) w → CanPlayOp w
next_ready ds i w low can = let d : LineOp = record { line = 0; op = Purge } in
    (can_first (get_or ds i d) (drop (i + 1) ds) w (can_next ds i d w low can)).0

pub next_limits : (ds : List LineOp) (i : ℕ) (d : LineOp) (w : WorkerValue) → i < length ds → CanPlay (drop i ds) w →
    IsOpWithin w.stock.partitions (get_or ds i d).op
next_limits ds i d w low can = (can_first (get_or ds i d) (drop (i + 1) ds) w (can_next ds i d w low can)).1

pub next_new : (ds : List LineOp) (i : ℕ) (d : LineOp) (w : WorkerValue) → i < length ds → CanPlay (drop i ds) w →
    AreBefore (get_or ds i d).line w.records
next_new ds i d w low can = (can_first (get_or ds i d) (drop (i + 1) ds) w (can_next ds i d w low can)).2

pub next_played : (ds : List LineOp) (i : ℕ) (d : LineOp) (u w v : WorkerValue) → i < length ds → PlaysLines (take i ds) u w →
    PlaysLines (get_or ds i d ∷ []) w v → PlaysLines (take (i + 1) ds) u v
next_played ds i d u w v low first one =
    subst (λ xs. PlaysLines xs u v) (sym (take_more ds i d low)) (plays_then (take i ds) (get_or ds i d ∷ []) u w v first one)

pub next_rest : (ds : List LineOp) (i : ℕ) (d : LineOp) (w v : WorkerValue) → i < length ds → CanPlay (drop i ds) w →
    PlaysLines (get_or ds i d ∷ []) w v → CanPlay (drop (i + 1) ds) v
next_rest ds i d w v low can one = can_rest (get_or ds i d) (drop (i + 1) ds) w v (can_next ds i d w low can) one

pub all_lines : (ds : List LineOp) (i : ℕ) (u v : WorkerValue) → length ds ≤ i → PlaysLines (take i ds) u v → PlaysLines ds u v
all_lines ds i u v past played = subst (λ xs. PlaysLines xs u v) (take_all i ds past) played

pub same_thread : {ds : List LineOp} {w v : WorkerValue} → PlaysLines ds w v → v.stock.thread ≡ w.stock.thread
same_thread {ds} {w} {v} played = let (xs, all, of) = played.plays 0 in (stays w v xs (some w v xs all)).0

-- a worker that stopped before it did anything has its stake
pub stopped_keeps : (w v : WorkerValue) → HasItsStake w.stock → v ≡ stopped_with w.stock w → KeepsItsStake w.stock v.stock
stopped_keeps w v stake same =
    subst (λ (z : WorkerValue). KeepsItsStake w.stock z.stock) (sym same) (record { thread = refl; stake = stake })

-- a worker that stopped owes nothing, and has no record more, whatever its thread state is

pub stopped_owes : (w v : WorkerValue) {s : StockValue} → v ≡ stopped_with s w → v.owed ≡ none_owed
stopped_owes w v same = ap (λ (z : WorkerValue). z.owed) same

pub stopped_records : (w v : WorkerValue) {s : StockValue} → v ≡ stopped_with s w → v.records ≡ w.records
stopped_records w v same = ap (λ (z : WorkerValue). z.records) same

-- of an error both are said
pub both_on_err : {T E : Type 0} (r : Result T E) (P Q : Type 0) → OnErr r P → OnErr r Q → OnErr r (P × Q)
both_on_err (Ok x) P Q p q = tt
both_on_err (Err e) P Q p q = (p, q)

-- ---- whether there are lines

pub none_there : (n : ℕ) (b : Bool) → b ≡ (n == 0) → b ≡ true → n ≡ 0
none_there n b is so = eqb-true n 0 (sym is ∙ so)

pub some_there : (n : ℕ) (b : Bool) → b ≡ (n == 0) → b ≡ false → 0 < n
some_there zero b is none = let no : true ≡ false = sym is ∙ none in absurd cc
some_there (suc n) b is none = omega arith

-- ---- it settles what it owes

module _ (ends : SettlingEndsPhase) (ds : List LineOp) (u v : WorkerValue) (some : 0 < length ds) (kept : IsWorker v)
    (played : PlaysLines ds u v) where
  settled_plays : (phase : ℕ) (xs : List ToldRecord) → PlaysAll u xs v →
      map op_line_of (played_in xs) ≡ map (in_phase (rules_at u.stock) phase u.stock.thread) ds →
      (ys : List ToldRecord) × PlaysAll u ys (settled_worker v) ×
      (map op_line_of (played_in ys) ≡ map (in_phase (rules_at u.stock) phase u.stock.thread) ds)
  settled_plays phase [] all of =
      absurd (let a = ap (λ os. length os) of in let b = length-map ds (in_phase (rules_at u.stock) phase u.stock.thread) in omega arith)
  settled_plays phase (x ∷ xs) all of =
      let (more, same) = ends u v x xs all kept played.stake in
      (last_lengthened (all_added v.owed) (x ∷ xs), more, ap (map op_line_of) same ∙ of)

  -- it played the same lines
  settled_lines : HasItsStake (settled_worker v).stock → PlaysLines ds u (settled_worker v)
  settled_lines stake = record {
    plays = λ phase. let (xs, all, of) = played.plays phase in settled_plays phase xs all of;
    going = played.going;
    stake = stake;
    records = played.records;
    room = played.room;
  }

-- ---- it is back, when all lines were played, and when it stopped at one

back_whole : (ds : List LineOp) (u v : WorkerValue) → PlaysLines ds u v → v.owed ≡ none_owed → IsPlayed ds u v
back_whole ds u v whole settled = record {
  keeps = record { thread = same_thread whole; stake = whole.stake };
  settled = settled;
  played = λ going. whole;
  stopped = λ is. let no : true ≡ false = sym is ∙ whole.going in absurd cc;
}

-- it had no lines
pub back_none : (ds : List LineOp) (i : ℕ) (u v : WorkerValue) → length ds ≤ i → length ds ≡ 0 → PlaysLines (take i ds) u v →
    u.owed ≡ none_owed → IsPlayed ds u v
back_none ds i u v past none played settled =
    let whole = all_lines ds i u v past played in
    let (xs, all, of) = whole.plays 0 in
    back_whole ds u v whole (owes xs all of)
  where
    owes : (xs : List ToldRecord) → PlaysAll u xs v →
        map op_line_of (played_in xs) ≡ map (in_phase (rules_at u.stock) 0 u.stock.thread) ds → v.owed ≡ none_owed
    owes [] same of = ap (λ (w : WorkerValue). w.owed) same ∙ settled
    owes (x ∷ xs) more of =
        absurd (let a = ap (λ os. length os) of in let b = length-map ds (in_phase (rules_at u.stock) 0 u.stock.thread) in omega arith)

-- it had some, and settled then
pub back_settled : SettlingEndsPhase → (ds : List LineOp) (i : ℕ) (u v w : WorkerValue) → length ds ≤ i → 0 < length ds →
    PlaysLines (take i ds) u v → IsWorker v → w ≡ settled_worker v →
    HasItsStake w.stock → IsPlayed ds u w
back_settled ends ds i u v w past some played kept is stake =
    let whole = all_lines ds i u v past played in
    subst (IsPlayed ds u) (sym is)
    (back_whole ds u (settled_worker v)
    (settled_lines ends ds u v some kept whole (subst (λ (z : WorkerValue). HasItsStake z.stock) is stake)) refl)

pub back_stopped : (ds : List LineOp) (i : ℕ) (d : LineOp) (u w v : WorkerValue) → i < length ds → PlaysLines (take i ds) u w →
    KeepsItsStake w.stock v.stock → v.stopped ≡ true →
    v.owed ≡ none_owed → v.records ≡ w.records → StopsOp (get_or ds i d).line (get_or ds i d).op w v → IsPlayed ds u v
back_stopped ds i d u w v low played keeps stopped settled records left =
    record {
      keeps = record { thread = keeps.thread ∙ same_thread played; stake = keeps.stake };
      settled = settled;
      played = λ going. let no : true ≡ false = sym stopped ∙ going in absurd cc;
      stopped = λ is. record {
        count = i;
        more = low;
        due = get_or ds i d;
        at = slice_get-get_or ds i d low;
        last = w;
        played = played;
        keeps = keeps;
        records = records;
        left = left;
      };
    }

-- after the next line was played, without running out of memory
pub next_ok : {T E : Type 0} (ds : List LineOp) (i : ℕ) (d : LineOp) (u w v : WorkerValue) (r : Result T E) (x : T) → r ≡ Ok x →
    OnOk r (PlaysLines (get_or ds i d ∷ []) w v) → i < length ds →
    CanPlay (drop i ds) w → PlaysLines (take i ds) u w → CanPlay (drop (i + 1) ds) v × PlaysLines (take (i + 1) ds) u v
next_ok ds i d u w v r x is on low can before =
    let one : PlaysLines (get_or ds i d ∷ []) w v = subst (λ q. OnOk q (PlaysLines (get_or ds i d ∷ []) w v)) is on in
    (next_rest ds i d w v low can one, next_played ds i d u w v low before one)
