-- An op that was played: what is known of the player after it.
use Rattle.std.proofs.Common.{◌≡◌, ℕ, ◌+◌, ◌-◌, ◌<◌, ◌≤◌, ◌⊎◌, List, [], ◌∷◌, ◌++◌, map, length, Option, Some, None, refl, sym, ap, ◌∙◌, subst, arith, inl, inr, length-append}
use Rattle.std.specs.Prelude.{All, Contains}
use Rattle.std.proofs.Math.Path.{fun_ext}
use Rattle.std.proofs.lemmas.List.{append-nil, map-append, length-map, length_push}
use Rattle.std.proofs.lemmas.List.Elements.{All-weaker, Contains-push_cases}
use Rattle.pa_slot.specs.Run.{Mark}
use Rattle.pa_trace.specs.declared.script.Op.{Op}
use Rattle.pa_trace.specs.declared.script.Line.{Line}
use Rattle.pa_trace.specs.declared.script.Line.TheVariants.{Do}
use Rattle.pa_record.specs.declared.entry.Answer.{Answer}
use Rattle.pa_record.specs.declared.entry.Entry.{Entry}
use Rattle.pa_record.specs.declared.history.CellEntry.{CellEntry}
use Rattle.pa_record.specs.declared.pool.PoolEntry.{PoolEntry}
use Rattle.pa_record.specs.declared.report.ReportLine.{ReportLine}
use Rattle.pa_record.specs.declared.root.RootEntry.{RootEntry}
use Rattle.pa_record.specs.declared.root.RootAct.{RootAct}
use Rattle.pa_record.specs.RunText.{NamesSlots}
use Rattle.pa_rules.specs.declared.played.Played.{Played}
use Rattle.pa_rules.specs.Played.{entry_of, mark_of, marks_of}
use Rattle.pa_rules.specs.Roots.{Journals}
use Rattle.pa_rules.specs.Caches.{with_cache}
use Rattle.pa_rules.specs.Legal.{phases_in}
use Rattle.pa_rules.specs.Report.{HasSize, phases_of}
use Rattle.pa_legal.specs.Tallies.{AreHomes}
use Rattle.pa_heap_effects.specs.Deeds.{entries_at, grown, root_at, IsPlacedTo}
use Rattle.pa_heap_effects.specs.Pooled.{pool_at, IsPooledTo}
use Rattle.pa_heap_effects.specs.Onward.{GoesOn}
use Rattle.pa_heap_effects.proofs.Growing.{grown_cases}
use Rattle.pa_heap_effects.proofs.Extending.{line_extends}
use Rattle.pa_heap_effects.proofs.Pooling.{pool_extends}
use Rattle.pa_heap_effects.proofs.Filing.{same_is_placed}
use Rattle.pa_heap_effects.proofs.Onwards.{run_goes_on}
use Rattle.pa_slot_effects.specs.Turns.{played_at}
use Rattle.pa_slot_effects.proofs.Marking.{with_mark, marks_push}
use Rattle.pa_slot_effects.proofs.Starting.{like_is_told}
use Rattle.pa_player.specs.Player.{Player}
use Rattle.pa_player.specs.Tables.{slot_at}
use Rattle.pa_player.specs.Tallies.{tally_at}
use Rattle.pa_player.specs.Playing.{shown, journals, caches, root_of, home_in, len_in, AreAllSlots, AreBounded, AreTallied, IsToldLine, IsPlaying}
use Rattle.pa_player.specs.Changes.{answered}
use Rattle.pa_player.specs.Told.{history_in}
use Rattle.pa_player.specs.Plays.{TellsOn, record_of, PlaysAfter}
use Rattle.pa_player.proofs.Slots.{slot_here, by_name_kept}
pub use Rattle.pa_player.proofs.Shows.{IsOneMore, TellsMore, HasHeap, HasSlots, CountsMore, IsTallyMore, IsPlayed, gain}
use Rattle.pa_player.proofs.Going.{let_out_sized, sized_place, size_grown, AreSameHomes, left_more, asks_few, phases_push}
use Rattle.pa_player.proofs.Shaping.{shaped_told}

-- the marks of some records and of one more
mark_cases : (ms : List Mark) (o : Option Mark) (m : Mark) → Contains (with_mark ms o) m → Contains ms m ⊎ (o ≡ Some m)
mark_cases ms None m among = inl among
mark_cases ms (Some x) m among = elim (Contains-push_cases ms x m among) [
  | inl old ↦ inl old
  | inr new ↦ inr (ap (λ (z : Mark). Some z) new)
]

-- a history with one exchange more at most is one longer at most, and goes on
one_longer : (before after : List CellEntry) → IsOneMore before after → length after ≤ length before + 1
one_longer before after (inl same) = omega (arith, ap length same)
one_longer before after (inr (e, more)) = omega (arith, ap length more, length_push before e)

one_goes_on : (before after : List CellEntry) → IsOneMore before after → (more : List CellEntry) × (after ≡ before ++ more)
one_goes_on before after (inl same) = ([], same ∙ sym (append-nil before))
one_goes_on before after (inr (e, more)) = (e ∷ [], more)

module _ (region partitions threads : ℕ) (ls : List Line) (p q : Player) (h : IsPlaying region partitions threads ls p) (thread : ℕ)
    (op : Op) (answer : Answer)
    (short : length ls < 65535) (m : IsPlayed region partitions threads ls p q h thread op answer) where
  abbrev x : Played
  x = played_at m.after.rules ls thread op answer

  longer : length (ls ++ Do thread op ∷ []) ≡ length ls + 1
  longer = length_push ls (Do thread op)

  next_line : length ls + 2 + 1 ≡ length (ls ++ Do thread op ∷ []) + 2
  next_line = omega (arith, longer)

  -- what is said of the entries and the acts of the line, said of what is reported then
  told_then : (P : List PoolEntry → Journals → Type 0) → P (p.told.pools ++ m.more) (grown (journals p) (length ls + 2) m.acts) →
      P q.told.pools (journals q)
  told_then P d =
      let J : journals q ≡ grown (journals p) (length ls + 2) m.acts = fun_ext m.told.journals in
      subst (λ z. P z (journals q)) (sym m.told.pools) (subst (λ z. P (p.told.pools ++ m.more) z) (sym J) d)

  placed : IsPlacedTo partitions (length (ls ++ Do thread op ∷ []) + 2) (h.ps ++ x ∷ []) q.told.pools (journals q) (caches q)
  placed =
      let made = line_extends partitions (length ls + 2) h.ps x p.told.pools m.more (journals p) m.acts
      (caches p) m.next h.placed m.done.deed in
      let same = same_is_placed.placed partitions (length ls + 2 + 1) (h.ps ++ x ∷ []) (p.told.pools ++ m.more)
      (grown (journals p) (length ls + 2) m.acts)
      (grown (journals p) (length ls + 2) m.acts) (with_cache (caches p) thread m.next) (caches q) made (λ k. refl) m.lists in
      subst (λ n. IsPlacedTo partitions n (h.ps ++ x ∷ []) q.told.pools (journals q) (caches q)) next_line
      (told_then (λ pools roots. IsPlacedTo partitions (length ls + 2 + 1) (h.ps ++ x ∷ []) pools roots (caches q)) same)

  pooled : IsPooledTo region (length (ls ++ Do thread op ∷ []) + 2) q.told.pools (journals q)
  pooled =
      let made = pool_extends region (length ls + 2) p.told.pools m.more (journals p) m.acts h.pooled m.done.asks in
      subst (λ n. IsPooledTo region n q.told.pools (journals q)) next_line
      (told_then (λ pools roots. IsPooledTo region (length ls + 2 + 1) pools roots) made)

  slots : AreAllSlots q.version partitions q.table q.told.pools (journals q) (root_of q)
  slots = told_then (λ pools roots. AreAllSlots q.version partitions q.table pools roots (root_of q)) m.table.slots

  entries : map entry_of (h.ps ++ x ∷ []) ≡ (answered thread answer q).told.entries
  entries =
      let e : ℕ → List Entry = λ line. p.told.entries ++ record { line = line; thread = thread; answer = answer } ∷ [] in
      let at : length ls + 2 ≡ q.told.line = sym (m.told.line ∙ h.line) in
      map-append entry_of h.ps (x ∷ []) ∙ ap (λ zs. zs ++ entry_of x ∷ []) h.entries ∙ ap e at
      ∙ ap (λ zs. zs ++ record { line = q.told.line; thread = thread; answer = answer } ∷ []) (sym m.told.entries)

  -- a slot with a size is where it stood
  same_homes : AreSameHomes p.table q.table (marks_of h.ps)
  same_homes mark among =
      let (i, at) = sized_place partitions p.table p.told.pools (journals p) (root_of p) (home_in p.table mark.slot) mark.slot
      (len_in p.table mark.slot) h.slots (h.marked mark among) in
      let kept = by_name_kept p.table q.table mark.slot i h.slots.apart m.table.slots.apart m.table.keeps at in
      (kept.0, kept.1)

  marked : AreHomes (journals q) (home_in q.table) (len_in q.table) (marks_of (h.ps ++ x ∷ []))
  marked mark among = elim (mark_cases (marks_of h.ps) (mark_of x) mark (subst (λ ms. Contains ms mark) (marks_push h.ps x) among)) [
    | inl old ↦
        let same = same_homes mark old in
        let grew = size_grown (journals p) (length ls + 2) m.acts (home_in p.table mark.slot) mark.slot (len_in p.table mark.slot)
        (h.marked mark old) in
        let now = told_then (λ pools roots. HasSize roots (home_in p.table mark.slot) mark.slot (len_in p.table mark.slot)) grew in
        subst (λ l. HasSize (journals q) (home_in q.table mark.slot) mark.slot l) (sym same.1)
        (subst (λ k. HasSize (journals q) k mark.slot (len_in p.table mark.slot)) (sym same.0) now)
    | inr new ↦
        let (i, at) = m.table.marked mark new in
        let here = slot_here q.table mark.slot i m.table.slots.apart at in
        let sized = let_out_sized q.version (journals q) (slot_at q.table i) (slot_at q.table i).class (slots.let_out i at.0) in
        let named = subst (λ s. HasSize (journals q) (slot_at q.table i).partition s (slot_at q.table i).title.len) at.1 sized in
        subst (λ z. HasSize (journals q) z.partition mark.slot z.title.len) (sym here) named
  ]

  bounded : AreBounded (length (ls ++ Do thread op ∷ []) + 2) (answered thread answer q)
  bounded = record {
    few = omega (arith, longer, short);
    slots = omega (arith, longer, h.bounded.slots, m.table.few);
    pools =
        let grew : length q.told.pools ≡ length p.told.pools + length m.more = ap length m.told.pools ∙ length-append p.told.pools m.more in
        let few = asks_few region (length ls + 2) p.told.pools m.more m.acts m.done.asks in
        omega (arith, longer, grew, few, h.bounded.pools);
    journals = λ k.
        let grew : length (journals q k) ≡ length (journals p k) + length (entries_at (length ls + 2) (m.acts k)) =
        ap length (m.told.journals k) ∙ length-append (journals p k) (entries_at (length ls + 2) (m.acts k)) in
        let same : length (entries_at (length ls + 2) (m.acts k)) ≡ length (m.acts k) =
        length-map (m.acts k) (λ (a : RootAct). record { line = length ls + 2; act = a }) in
        omega (arith, longer, grew, same, m.told.few k, h.bounded.journals k);
    histories = λ k. omega (
      arith,
      longer,
      one_longer (history_in p.told k) (history_in q.told k) (m.told.histories k),
      h.bounded.histories k,
    );
    turns = λ k. omega (arith, longer, m.heap.turns k, h.bounded.turns k);
    born = m.heap.born;
  }

  tallied : (k : ℕ) → k < partitions →
      AreTallied threads q.table (h.ps ++ x ∷ []) (caches q) (tally_at q.live.of k) (tally_at q.quarantined.of k) (tally_at q.cached.of k) k
  tallied k low =
      let old = h.tallied k low in
      record {
        is_live = rw (marks_push h.ps x)
            (left_more _ _ p.table q.table k (marks_of h.ps) (mark_of x) (tally_at p.live.of k)
            (tally_at q.live.of k) same_homes old.is_live (m.counts.live k low));
        is_quarantined = rw (marks_push h.ps x) (left_more _ _ p.table q.table k (marks_of h.ps) (mark_of x) (tally_at p.quarantined.of k)
            (tally_at q.quarantined.of k) same_homes old.is_quarantined (m.counts.quarantined k low));
        many = m.counts.many k low;
        bytes = m.counts.bytes k low;
      }

  -- a line of the report
  told_line : (l : ReportLine) → IsToldLine partitions threads (length ls + 2) p.phase h.ps p.told.pools (journals p) l
      → IsToldLine partitions threads (length (ls ++ Do thread op ∷ []) + 2) q.phase (h.ps ++ x ∷ []) q.told.pools (journals q) l
  told_line l t = record {
    line = t.line;
    early = t.early;
    entries = t.entries;
    before = t.before;
    all = t.all;
    home = t.home;
    size = t.size;
    passed = omega (arith, longer, t.passed);
    ended = omega (arith, t.ended, m.told.phase);
    placed = t.placed;
    slots = t.slots;
    goes_on = told_then (λ pools roots. GoesOn t.line t.early (h.ps ++ x ∷ []) t.entries pools t.before roots)
        (run_goes_on.line t.line (length ls + 2) t.early h.ps x t.entries p.told.pools m.more t.before
        (journals p) m.acts t.passed refl t.goes_on);
    within = t.within;
    later = λ y among past. elim (Contains-push_cases h.ps x y among) [
      | inl old ↦ t.later y old past
      | inr new ↦ let at : phases_in ls ≡ y.phase = ap (λ (z : Played). z.phase) new in omega (arith, at, t.ended, h.phase)
    ];
    homes = t.homes;
    live = t.live;
    quarantined = t.quarantined;
    many = t.many;
    bytes = t.bytes;
    census = t.census;
  }

  reported : All (IsToldLine partitions threads (length (ls ++ Do thread op ∷ []) + 2) q.phase (h.ps ++ x ∷ []) q.told.pools (journals q))
      q.told.report
  reported =
      let P : ReportLine → Type 0 = IsToldLine partitions threads (length ls + 2) p.phase h.ps p.told.pools (journals p) in
      let Q : ReportLine → Type 0 =
      IsToldLine partitions threads (length (ls ++ Do thread op ∷ []) + 2) q.phase (h.ps ++ x ∷ []) q.told.pools (journals q) in
      subst (λ lines. All Q lines) (sym m.told.report) (All-weaker P Q told_line p.told.report h.reported)

  printable : (k : ℕ) (e : RootEntry) → Contains (journals q k) e → NamesSlots e.act
  printable k e among = elim (grown_cases (journals p) (length ls + 2) m.acts k e (subst (λ z. Contains z e) (m.told.journals k) among)) [
    | inl old ↦ h.printable k e old
    | inr new ↦ m.told.printable k e.act new.0
  ]

  tells_on : TellsOn (record_of p thread answer ∷ []) p (answered thread answer q)
  tells_on = record {
    rules = m.told.rules;
    entries =
        let e : List Entry → ℕ → List Entry = λ es line. es ++ record { line = line; thread = thread; answer = answer } ∷ [] in
        ap (λ es. e es q.told.line) m.told.entries ∙ ap (e p.told.entries) m.told.line;
    journals = λ k. (entries_at (length ls + 2) (m.acts k), m.told.journals k);
    histories = λ k. one_goes_on (history_in p.told k) (history_in q.told k) (m.told.histories k);
  }

  playing : IsPlaying region partitions threads (ls ++ Do thread op ∷ []) (answered thread answer q)
  playing = record {
    ps = h.ps ++ x ∷ [];
    told = like_is_told threads (ls ++ Do thread op ∷ []) (h.ps ++ x ∷ []) m.after (shown q) m.turn m.like;
    entries = entries;
    line = omega (arith, longer, m.told.line, h.line);
    phase = m.told.phase ∙ h.phase ∙ sym (phases_push ls thread op);
    placed = placed;
    pooled = pooled;
    roots = λ k. m.heap.roots k ∙
        told_then (λ pools roots. root_at (p.told.pools ++ m.more) (grown (journals p) (length ls + 2) m.acts) k ≡ root_at pools roots k)
        refl;
    plan = m.heap.plan ∙ ap (pool_at region) (sym m.told.pools);
    slots = slots;
    marked = marked;
    shaped = shaped_told partitions threads q m.table.shaped (answered thread answer q).told refl refl;
    bounded = bounded;
    tallied = tallied;
    reported = reported;
    places =
        subst (λ z. map (λ (l : ReportLine). (l.phase, l.partition)) z ≡ phases_of partitions 1 (q.phase - 1)) (sym m.told.report)
        (subst (λ z. map (λ (l : ReportLine). (l.phase, l.partition)) p.told.report ≡ phases_of partitions 1 (z - 1))
        (sym m.told.phase) h.places);
    printable = printable;
  }

pub playing_more : (region partitions threads : ℕ) (ls : List Line) (p q : Player) (h : IsPlaying region partitions threads ls p)
    (thread : ℕ) (op : Op) (answer : Answer) → length ls < 65535
    → IsPlayed region partitions threads ls p q h thread op answer → PlaysAfter region partitions threads ls p thread op q answer
playing_more region partitions threads ls p q h thread op answer short m = (
  playing region partitions threads ls p q h thread op answer short m,
  tells_on region partitions threads ls p q h thread op answer short m,
)
