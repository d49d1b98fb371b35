-- The clauses that walk along the records with a state: registers and caches. What the last record asks for is the whole walk.
use Rattle.std.proofs.Common.{◌≡◌, ℕ, suc, List, [], ◌∷◌, ◌++◌, take, drop, Some, refl, sym, ap, subst}
use Rattle.std.specs.Prelude.{slice_get}
use Rattle.pa_trace.specs.declared.script.Trace.{Trace}
use Rattle.pa_rules.specs.declared.played.Played.{Played}
use Rattle.pa_rules.specs.declared.verdict.Clause.TheVariants as clauses
use Rattle.pa_rules.specs.declared.verdict.Place.TheVariants as places
use Rattle.pa_rules.specs.Told.{Told, records_of}
use Rattle.pa_rules.specs.Registers.{Facts, Regs, AllRegs, Row, RowsTo, AreRegisters, no_regs, with_thread, facts_with}
use Rattle.pa_rules.specs.Roots.{Journals}
use Rattle.pa_rules.specs.Caches.{Cache, Caches, CacheRow, CachesTo, AreCaches, no_caches, with_cache}
use Rattle.pa_rules.specs.Sizes.{usable_of}
use Rattle.pa_rules.proofs.Leading.{rows_cut}
use Rattle.pa_verdict.specs.Clauses.{IsMet, RegistersArePlaces, CachesArePlaces}
use Rattle.pa_lists.proofs.Indexed.{end_of, cut_at}

-- ---- registers

abbrev HasRow : Facts → AllRegs → List Played → Played → Type 0
HasRow facts first before x = (all : AllRegs) × (next : Regs) × RowsTo facts first before all × Row facts x.op (all x.thread) x.answer next

pub rows_end : (facts : Facts) (all after : AllRegs) (next : Regs) (before : List Played) (x : Played) → RowsTo facts all before after →
    Row facts x.op (after x.thread) x.answer next
    → RowsTo facts all (before ++ x ∷ []) (with_thread after x.thread next)
rows_end facts all after next [] x same row = (
  next,
  subst (λ (z : AllRegs). Row facts x.op (z x.thread) x.answer next) same row,
  ap (λ (z : AllRegs). with_thread z x.thread next) same,
)
rows_end facts all after next (y ∷ before) x (then, there, more) row =
    (then, there, rows_end facts (with_thread all y.thread then) after next before x more row)

rows_whole : (facts : Facts) (ps : List Played) → ((i : ℕ) (x : Played) → slice_get ps i ≡ Some x → HasRow facts no_regs (take i ps) x)
    → (after : AllRegs) × RowsTo facts no_regs ps after
rows_whole facts [] h = (no_regs, refl)
rows_whole facts (y ∷ ps) h =
    let e = end_of y ps in
    let (all, next, to, row) = h e.place e.last e.at in (
      with_thread all e.last.thread next,
      subst (λ zs. RowsTo facts no_regs zs (with_thread all e.last.thread next)) (sym e.parts)
          (rows_end facts no_regs all next (take e.place (y ∷ ps)) e.last to row),
    )

registers_meet : (t : Trace) (r : Told) → AreRegisters (usable_of t.version) r.cells (records_of t r) → IsMet clauses.Registers t r
registers_meet t r h (places.Record i) = λ x at.
    let ps = records_of t r in
    let facts : Facts = facts_with (usable_of t.version) ps r.cells in
    let (all, to, rest_rows) =
    rows_cut facts no_regs (take i ps) (x ∷ drop (suc i) ps) h.0
    (subst (λ zs. RowsTo facts no_regs zs h.0) (cut_at ps i x at) h.1) in
    let (next, row, more) = rest_rows in
    (all, next, to, row)
registers_meet t r h (places.Root p j) = tt
registers_meet t r h (places.Pool j) = tt
registers_meet t r h (places.Cell k j) = tt
registers_meet t r h (places.Report i) = tt

pub registers_are_places : RegistersArePlaces
registers_are_places t r = (
  registers_meet t r,
  λ met. let ps = records_of t r in
      let facts : Facts = facts_with (usable_of t.version) ps r.cells in
      rows_whole facts ps (λ i. met (places.Record i)),
)

-- ---- caches

abbrev HasCacheRow : ℕ → Journals → Caches → List Played → Played → Type 0
HasCacheRow partitions roots first before x =
    (all : Caches) × (next : Cache) × CachesTo partitions roots first before all × CacheRow partitions roots x x.answer (all x.thread) next

caches_cut : (partitions : ℕ) (roots : Journals) (all after : Caches) (before rest : List Played) (x : Played) →
    CachesTo partitions roots all (before ++ x ∷ rest) after
    → HasCacheRow partitions roots all before x
caches_cut partitions roots all after [] rest x (next, row, more) = (all, next, refl, row)
caches_cut partitions roots all after (y ∷ before) rest x (next, row, more) =
    let (last, then, to, there) = caches_cut partitions roots (with_cache all y.thread next) after before rest x more in
    (last, then, (next, row, to), there)

caches_end : (partitions : ℕ) (roots : Journals) (all after : Caches) (next : Cache) (before : List Played) (x : Played) →
    CachesTo partitions roots all before after
    → CacheRow partitions roots x x.answer (after x.thread) next →
    CachesTo partitions roots all (before ++ x ∷ []) (with_cache after x.thread next)
caches_end partitions roots all after next [] x same row = (
  next,
  subst (λ (z : Caches). CacheRow partitions roots x x.answer (z x.thread) next) same row,
  ap (λ (z : Caches). with_cache z x.thread next) same,
)
caches_end partitions roots all after next (y ∷ before) x (then, there, more) row =
    (then, there, caches_end partitions roots (with_cache all y.thread then) after next before x more row)

caches_whole : (partitions : ℕ) (roots : Journals) (ps : List Played)
    → ((i : ℕ) (x : Played) → slice_get ps i ≡ Some x → HasCacheRow partitions roots no_caches (take i ps) x)
    → (after : Caches) × CachesTo partitions roots no_caches ps after
caches_whole partitions roots [] h = (no_caches, refl)
caches_whole partitions roots (y ∷ ps) h =
    let e = end_of y ps in
    let (all, next, to, row) = h e.place e.last e.at in
    let after = with_cache all e.last.thread next in (
      after,
      subst (λ zs. CachesTo partitions roots no_caches zs after) (sym e.parts)
          (caches_end partitions roots no_caches all next (take e.place (y ∷ ps)) e.last to row),
    )

caches_meet : (t : Trace) (r : Told) → AreCaches t.partitions r.roots (records_of t r) → IsMet clauses.Caches t r
caches_meet t r h (places.Record i) = λ x at.
    let ps = records_of t r in
    caches_cut t.partitions r.roots no_caches h.0 (take i ps) (drop (suc i) ps) x
    (subst (λ zs. CachesTo t.partitions r.roots no_caches zs h.0) (cut_at ps i x at) h.1)
caches_meet t r h (places.Root p j) = tt
caches_meet t r h (places.Pool j) = tt
caches_meet t r h (places.Cell k j) = tt
caches_meet t r h (places.Report i) = tt

pub caches_are_places : CachesArePlaces
caches_are_places t r = (caches_meet t r, λ met. caches_whole t.partitions r.roots (records_of t r) (λ i. met (places.Record i)))
