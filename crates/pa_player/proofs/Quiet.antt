-- Ops without an act: what they have to show, and those that leave the player as it is.
use Rattle.std.proofs.Common.{◌≡◌, ℕ, ◌+◌, ◌<◌, ◌≤◌, Bool, List, [], ◌++◌, length, Option, Some, None, refl, sym, ap, ◌∙◌, subst, arith, inl, inr}
use Rattle.std.proofs.Math.Path.{fun_ext}
use Rattle.std.proofs.lemmas.Bool.{cases_eq, eq-eqb, ne_eqb}
use Rattle.std.proofs.lemmas.List.{append-nil}
use Rattle.pa_slot.specs.declared.word.SlotName.{SlotName}
use Rattle.pa_slot.specs.declared.word.Step.{Step}
use Rattle.pa_slot.specs.Run.{Mark}
use Rattle.pa_trace.specs.declared.script.Op.{Op}
use Rattle.pa_trace.specs.declared.script.Op.TheVariants as ops
use Rattle.pa_trace.specs.declared.script.Line.{Line}
use Rattle.pa_trace.specs.Limits.{IsOpWithin}
use Rattle.pa_trace.specs.declared.script.Line.TheVariants.{Do}
use Rattle.pa_record.specs.declared.entry.Answer.{Answer}
use Rattle.pa_record.specs.declared.entry.Seen.{Seen}
use Rattle.pa_record.specs.declared.pool.PoolEntry.{PoolEntry}
use Rattle.pa_record.specs.declared.report.Tally.{Tally}
use Rattle.pa_record.specs.Root.{Root}
use Rattle.pa_record.specs.Sound.{IsBornBelow}
use Rattle.pa_lists.proofs.Members.{not_in_none}
use Rattle.pa_rules.specs.Played.{mark_at, mark_of}
use Rattle.pa_rules.specs.Roots.{Journals, journal_at}
use Rattle.pa_rules.specs.Registers.{Row}
use Rattle.pa_rules.specs.Caches.{Cache, Caches, with_cache}
use Rattle.pa_slot.specs.Kinds.{issues, frees, enters, leaves}
use Rattle.pa_legal.specs.Tallies.{one_of, bytes_of}
use Rattle.pa_heap_effects.specs.Deeds.{grown, root_at}
use Rattle.pa_heap_effects.specs.Pooled.{pool_at, IsDone}
use Rattle.pa_heap_effects.specs.Ops.{no_acts, KeepsLists}
use Rattle.pa_heap_effects.proofs.Acting.{nothing_moves}
use Rattle.pa_slot_effects.specs.Shown.{Shown, IsLike}
use Rattle.pa_slot_effects.specs.Known.{facts_shown}
use Rattle.pa_slot_effects.specs.Turns.{CanPlay, LeadsTo, TellsNone, Looks, played_at}
use Rattle.pa_slot_effects.proofs.Looking.{none_goes_on, look_goes_on, none_mark, look_mark}
use Rattle.pa_slot_effects.proofs.Marking.{some_mark}
use Rattle.pa_player.specs.declared.table.Slot.{Slot}
use Rattle.pa_player.specs.Player.{Player}
use Rattle.pa_player.specs.Tables.{Points}
use Rattle.pa_player.specs.Tallies.{tally_at}
use Rattle.pa_player.specs.Playing.{shown, journals, caches, register_at, root_of, home_in, len_in, AreAllSlots, AreShaped, IsPlaying, rules_at}
use Rattle.pa_player.specs.Changes.{seen_at}
use Rattle.pa_player.specs.Plays.{CanGoOn, Plays}
use Rattle.pa_player.specs.Told.{history_in}
use Rattle.pa_player.proofs.Slots.{KeepsSlots, IsPlaceOf, keeps_all}
use Rattle.pa_player.proofs.Showing.{at_name, points_in, points_names}
use Rattle.pa_player.proofs.Shows.{IsOneMore, TellsMore, HasHeap, CountsMore, IsTallyMore, IsPlayed, gain}
use Rattle.pa_player.proofs.Counting.{cached_slots_same, cached_bytes_same}
use Rattle.pa_player.proofs.More.{playing_more}

-- what is reported is the same but for the histories, and so are roots and pool
pub record IsStill (p q : Player) : Type 0 where
  pub entries : q.told.entries ≡ p.told.entries
  pub report : q.told.report ≡ p.told.report
  pub line : q.told.line ≡ p.told.line
  pub rules : rules_at q ≡ rules_at p
  pub phase : q.phase ≡ p.phase
  pub pools : q.told.pools ≡ p.told.pools
  pub journals : q.told.journals ≡ p.told.journals
  pub roots : (k : ℕ) → root_of q k ≡ root_of p k
  pub pool : q.heap.pool ≡ p.heap.pool
  pub histories : (k : ℕ) → IsOneMore (history_in p.told k) (history_in q.told k)

-- What an op without an act has to show.
pub record IsQuiet (region partitions threads : ℕ) (ls : List Line) (p q : Player) (h : IsPlaying region partitions threads ls p)
    (thread : ℕ) (op : Op) (answer : Answer) : Type 0 where
  pub next : Cache
  pub after : Shown
  pub done : IsDone region partitions (length ls + 2) (played_at after.rules ls thread op answer) p.told.pools [] (journals p) no_acts
      (caches p thread) next
  pub turn : LeadsTo threads ls h.ps thread op answer after
  pub like : IsLike after (shown q)
  pub lists : (t k class : ℕ) → caches q t k class ≡ with_cache (caches p) thread next t k class
  pub still : IsStill p q
  pub keeps : KeepsSlots p.table q.table
  pub few : length q.table ≤ length p.table + 8
  pub slots : AreAllSlots q.version partitions q.table p.told.pools (journals p) (root_of p)
  pub shaped : AreShaped partitions threads q
  pub marked : (m : Mark) → mark_of (played_at after.rules ls thread op answer) ≡ Some m → (i : ℕ) × IsPlaceOf q.table m.slot i
  pub counts : CountsMore partitions threads p q (mark_of (played_at after.rules ls thread op answer))

module _ (region partitions threads : ℕ) (ls : List Line) (p q : Player) (h : IsPlaying region partitions threads ls p) (thread : ℕ)
    (op : Op) (answer : Answer)
    (m : IsQuiet region partitions threads ls p q h thread op answer) where
  -- without entries and acts all is as it was
  no_more : (P : List PoolEntry → Journals → Type 0) → P p.told.pools (journals p) →
      P (p.told.pools ++ []) (grown (journals p) (length ls + 2) no_acts)
  no_more P d =
      let J : grown (journals p) (length ls + 2) no_acts ≡ journals p = fun_ext (λ k. append-nil (journals p k)) in
      subst (λ z. P z (grown (journals p) (length ls + 2) no_acts)) (sym (append-nil p.told.pools))
      (subst (λ z. P p.told.pools z) (sym J) d)

  quiet_told : TellsMore p q (length ls + 2) [] no_acts
  quiet_told = record {
    entries = m.still.entries;
    report = m.still.report;
    line = m.still.line;
    rules = m.still.rules;
    phase = m.still.phase;
    pools = m.still.pools ∙ sym (append-nil p.told.pools);
    journals = λ k. ap (λ js. journal_at js k) m.still.journals ∙ sym (append-nil (journals p k));
    histories = m.still.histories;
    few = λ k. omega arith;
    printable = λ k a among. absurd (not_in_none a among);
  }

  quiet_heap : HasHeap region p q (length ls + 2) [] no_acts
  quiet_heap = record {
    roots = λ k. m.still.roots k ∙ no_more (λ pools roots. root_of p k ≡ root_at pools roots k) (h.roots k);
    plan = m.still.pool ∙ no_more (λ pools roots. p.heap.pool ≡ pool_at region pools) h.plan;
    turns = λ k. let same : (root_of q k).turn ≡ (root_of p k).turn = ap (λ (r : Root). r.turn) (m.still.roots k) in omega (arith, same);
    born = λ k.
        subst (λ plan. IsBornBelow plan.entries (root_of q k)) (sym m.still.pool)
        (subst (λ r. IsBornBelow p.heap.pool.entries r) (sym (m.still.roots k)) (h.bounded.born k));
  }

  quiet_slots : AreAllSlots q.version partitions q.table (p.told.pools ++ []) (grown (journals p) (length ls + 2) no_acts) (root_of q)
  quiet_slots =
      let R : root_of q ≡ root_of p = fun_ext m.still.roots in
      no_more (λ pools roots. AreAllSlots q.version partitions q.table pools roots (root_of q))
      (subst (λ z. AreAllSlots q.version partitions q.table p.told.pools (journals p) z) (sym R) m.slots)

  pub quiet_played : IsPlayed region partitions threads ls p q h thread op answer
  quiet_played = record {
    more = [];
    acts = no_acts;
    next = m.next;
    after = m.after;
    done = m.done;
    turn = m.turn;
    like = m.like;
    lists = m.lists;
    told = quiet_told;
    heap = quiet_heap;
    table = record { keeps = m.keeps; few = m.few; slots = quiet_slots; shaped = m.shaped; marked = m.marked };
    counts = m.counts;
  }

pub quiet_plays : (p : Player) (thread : ℕ) (op : Op) (q : Player) (answer : Answer)
    → ((region partitions threads : ℕ) (ls : List Line) (can : CanGoOn region partitions threads ls (Do thread op) p) →
    IsQuiet region partitions threads ls p q can.playing thread op answer)
    → Plays p thread op q answer
quiet_plays p thread op q answer m region partitions threads ls can =
    playing_more region partitions threads ls p q can.playing thread op answer can.short
    (quiet_played region partitions threads ls p q can.playing thread op answer (m region partitions threads ls can))

-- ---- marks that no tally counts

pub record AddsNone (o : Option Mark) : Type 0 where
  pub issued : (w : SlotName → ℕ) → gain issues w o ≡ 0
  pub freed : (w : SlotName → ℕ) → gain frees w o ≡ 0
  pub entered : (w : SlotName → ℕ) → gain enters w o ≡ 0
  pub left : (w : SlotName → ℕ) → gain leaves w o ≡ 0

pub none_adds : AddsNone None
none_adds = record { issued = λ w. refl; freed = λ w. refl; entered = λ w. refl; left = λ w. refl }

pub tally_still : (into out : Step → ℕ → Bool) (slots : List Slot) (k : ℕ) (o : Option Mark) (t : Tally) →
    ((w : SlotName → ℕ) → gain into w o ≡ 0) → ((w : SlotName → ℕ) → gain out w o ≡ 0)
    → IsTallyMore into out slots k o t t
tally_still into out slots k o t a b = record {
  slots = omega (arith, a (one_of (home_in slots) k), b (one_of (home_in slots) k));
  bytes = omega (arith, a (bytes_of (home_in slots) (len_in slots) k), b (bytes_of (home_in slots) (len_in slots) k));
}

pub counts_still : (region partitions threads : ℕ) (ls : List Line) (p q : Player) (o : Option Mark) →
    IsPlaying region partitions threads ls p → AddsNone o
    → q.live ≡ p.live → q.quarantined ≡ p.quarantined → q.cached ≡ p.cached → ((t k class : ℕ) → caches q t k class ≡ caches p t k class) →
    CountsMore partitions threads p q o
counts_still region partitions threads ls p q o h adds live quarantined cached same = record {
  live = λ k low. subst (λ ts. IsTallyMore issues frees q.table k o (tally_at p.live.of k) (tally_at ts.of k)) (sym live)
      (tally_still issues frees q.table k o (tally_at p.live.of k) adds.issued adds.freed);
  quarantined = λ k low.
      subst (λ ts. IsTallyMore enters leaves q.table k o (tally_at p.quarantined.of k) (tally_at ts.of k)) (sym quarantined)
      (tally_still enters leaves q.table k o (tally_at p.quarantined.of k) adds.entered adds.left);
  many = λ k low. ap (λ ts. (tally_at ts.of k).slots) cached ∙ (h.tallied k low).many ∙
      sym (cached_slots_same (caches p) (caches q) threads k same);
  bytes = λ k low. ap (λ ts. (tally_at ts.of k).bytes) cached ∙ (h.tallied k low).bytes ∙
      sym (cached_bytes_same (caches p) (caches q) threads k same);
}

-- ---- the same player

pub cache_same : (all : Caches) (thread t k class : ℕ) → all t k class ≡ with_cache all thread (all thread) t k class
cache_same all thread t k class = elim (cases_eq t thread) [
  | inl e ↦ rw (eq-eqb t thread e) (ap (λ u. all u k class) e)
  | inr ne ↦ rw (ne_eqb t thread ne) refl
]

pub like_same : (a : Shown) → IsLike a a
like_same a = record {
  rules = refl;
  regs = λ t r. refl;
  held = λ k. refl;
  cells = λ k. refl;
  word = λ s. refl;
  content = λ s h. refl;
  usable = λ s h. refl;
  plain = λ s h. refl;
}

pub still_same : (p : Player) → IsStill p p
still_same p = record {
  entries = refl;
  report = refl;
  line = refl;
  rules = refl;
  phase = refl;
  pools = refl;
  journals = refl;
  roots = λ k. refl;
  pool = refl;
  histories = λ k. inl refl;
}

pub can_play : (region partitions threads : ℕ) (ls : List Line) (thread : ℕ) (op : Op) (p : Player)
    (can : CanGoOn region partitions threads ls (Do thread op) p)
    → CanPlay threads ls can.playing.ps (shown p) thread
can_play region partitions threads ls thread op p can = record {
  told = can.playing.told;
  among = can.within.0;
  few = can.head.2.1;
  short = omega (arith, can.short);
}

-- the player stays, if the mark is a look at a slot of the table, or none
same_quiet : (region partitions threads : ℕ) (ls : List Line) (p : Player) (h : IsPlaying region partitions threads ls p) (thread : ℕ)
    (op : Op) (answer : Answer) → KeepsLists op answer
    → LeadsTo threads ls h.ps thread op answer (shown p) → AddsNone (mark_of (played_at (rules_at p) ls thread op answer))
    → ((m : Mark) → mark_of (played_at (rules_at p) ls thread op answer) ≡ Some m → (i : ℕ) × IsPlaceOf p.table m.slot i)
    → IsQuiet region partitions threads ls p p h thread op answer
same_quiet region partitions threads ls p h thread op answer keeps turn adds marked = record {
  next = caches p thread;
  after = shown p;
  done = nothing_moves region partitions (length ls + 2) h.ps (played_at (rules_at p) ls thread op answer) p.told.pools (journals p)
      (caches p) h.placed refl keeps;
  turn = turn;
  like = like_same (shown p);
  lists = λ t k class. cache_same (caches p) thread t k class;
  still = still_same p;
  keeps = keeps_all p.table;
  few = omega arith;
  slots = h.slots;
  shaped = h.shaped;
  marked = marked;
  counts = counts_still region partitions threads ls p p (mark_of (played_at (rules_at p) ls thread op answer)) h adds refl refl refl
      (λ t k class. refl);
}

pub none_not_some : (m : Mark) → None ≡ Some m → ⊥
none_not_some m e = cc

-- an answer that reports no slot, without an act
pub none_plays_by : (p : Player) (thread : ℕ) (op : Op) (answer : Answer) → TellsNone answer → KeepsLists op answer →
    ((cell reg : ℕ) → op ≡ ops.Swap cell reg → ⊥)
    → ((region partitions threads : ℕ) (ls : List Line) → IsPlaying region partitions threads ls p
    → Row (facts_shown (shown p)) op ((shown p).regs thread) answer ((shown p).regs thread))
    → Plays p thread op p answer
none_plays_by p thread op answer none keeps other row = quiet_plays p thread op p answer (λ region partitions threads ls can.
    let silent = none_mark (length ls + 2) op answer none in
    same_quiet region partitions threads ls p can.playing thread op answer keeps
    (none_goes_on threads ls can.playing.ps (shown p) thread op answer (can_play region partitions threads ls thread op p can) none other
    (row region partitions threads ls can.playing))
    (subst AddsNone (sym silent) none_adds)
    (λ m e. absurd (none_not_some m (sym silent ∙ e))))

pub none_plays : (p : Player) (thread : ℕ) (op : Op) (answer : Answer) → TellsNone answer → KeepsLists op answer →
    ((cell reg : ℕ) → op ≡ ops.Swap cell reg → ⊥)
    → Row (facts_shown (shown p)) op ((shown p).regs thread) answer ((shown p).regs thread) →
    Plays p thread op p answer
none_plays p thread op answer none keeps other row =
    none_plays_by p thread op answer none keeps other (λ region partitions threads ls h. row)

-- a look at the slot in a place, to which a register of the op has a handle
look_adds : (line : ℕ) (seen : Seen) → AddsNone (Some (mark_at line seen None))
look_adds line seen = record { issued = λ w. refl; freed = λ w. refl; entered = λ w. refl; left = λ w. refl }

pub look_plays_by : (p : Player) (thread reg i : ℕ) (op : Op) (answer : Answer) → ((partitions : ℕ) → IsOpWithin partitions op → reg < 64) →
    Points (register_at p thread reg) i
    → KeepsLists op answer → ((cell r : ℕ) → op ≡ ops.Swap cell r → ⊥)
    → ((region partitions threads : ℕ) (ls : List Line) → IsPlaying region partitions threads ls p
    → Looks (shown p) (seen_at p.table i) answer ×
    Row (facts_shown (shown p)) op ((shown p).regs thread) answer ((shown p).regs thread))
    → Plays p thread op p answer
look_plays_by p thread reg i op answer small points keeps other told_by =
    quiet_plays p thread op p answer (λ region partitions threads ls can.
    let seen = seen_at p.table i in
    let low = points_in (length p.table) (register_at p thread reg) i points (can.playing.shaped.held thread reg) in
    let (looks, row) = told_by region partitions threads ls can.playing in
    let told = look_mark (length ls + 2) op (shown p) seen answer looks in
    same_quiet region partitions threads ls p can.playing thread op answer keeps
    (look_goes_on threads ls can.playing.ps (shown p) thread reg op answer seen (can_play region partitions threads ls thread op p can)
    (small partitions can.within.1)
    (points_names p.table (register_at p thread reg) i points)
    (sym (at_name (λ z. z.word.0) p.table i can.playing.slots.apart low)) looks other row)
    (subst AddsNone (sym told) (look_adds (length ls + 2) seen))
    (λ m e. (i, (low, ap (λ (z : Mark). z.slot) (some_mark (mark_at (length ls + 2) seen None) m (sym told ∙ e))))))

pub look_plays : (p : Player) (thread reg i : ℕ) (op : Op) (answer : Answer) → ((partitions : ℕ) → IsOpWithin partitions op → reg < 64) →
    Points (register_at p thread reg) i
    → Looks (shown p) (seen_at p.table i) answer → KeepsLists op answer → ((cell r : ℕ) → op ≡ ops.Swap cell r → ⊥)
    → Row (facts_shown (shown p)) op ((shown p).regs thread) answer ((shown p).regs thread) →
    Plays p thread op p answer
look_plays p thread reg i op answer small points looks keeps other row =
    look_plays_by p thread reg i op answer small points keeps other (λ region partitions threads ls h. (looks, row))
