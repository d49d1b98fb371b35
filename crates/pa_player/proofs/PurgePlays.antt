-- A purge is played.
use Rattle.std.proofs.Common.{◌≡◌, ℕ, zero, suc, ◌+◌, ◌*◌, ◌<◌, ◌≤◌, inl, inr, List, [], ◌++◌, map, length, Some, None, refl, sym, ap, ◌∙◌, subst, arith, length-append}
use Rattle.std.specs.Prelude.{Contains, slice_index_or}
use Rattle.std.proofs.lemmas.Bool.{cases_eq, cases_lt, lt-ltb, le-ltb}
use Rattle.std.proofs.lemmas.List.{append-nil, length-map}
use Rattle.std.proofs.lemmas.List.Elements.{Contains-append_cases}
use Rattle.pa_slot.specs.Run.{Mark}
use Rattle.pa_trace.specs.declared.script.Op.TheVariants as ops
use Rattle.pa_trace.specs.declared.script.Line.{Line}
use Rattle.pa_trace.specs.declared.script.Rules.{Rules}
use Rattle.pa_trace.specs.declared.script.Line.TheVariants.{Do}
use Rattle.pa_record.specs.declared.entry.Answer.TheVariants as answers
use Rattle.pa_record.specs.declared.history.CellEntry.{CellEntry}
use Rattle.pa_record.specs.declared.numbered.Numbered.{Numbered}
use Rattle.pa_record.specs.declared.root.RootEntry.{RootEntry}
use Rattle.pa_record.specs.declared.root.RootAct.{RootAct}
use Rattle.pa_record.specs.declared.root.RootAct.TheVariants.{Purge}
use Rattle.pa_record.specs.RunText.{NamesSlots}
use Rattle.pa_record.specs.Pool.{PoolState}
use Rattle.pa_record.specs.Root.{Root, names, all_returned, purged, empties}
use Rattle.pa_record.specs.Sound.{IsSound, IsSettled, IsBornBelow}
use Rattle.pa_lists.proofs.Members.{not_in_none, in_cases}
use Rattle.pa_record.proofs.Returning.{all_returned_is, times_is}
use Rattle.pa_record.proofs.Mapping.{born_same}
use Rattle.pa_record.proofs.Lawful.{journal_leaves}
use Rattle.pa_rules.specs.Played.{mark_of}
use Rattle.pa_rules.specs.Caches.{with_cache, gives, purge_acts, all_listed}
use Rattle.pa_rules.proofs.Batches.{gives_names}
use Rattle.pa_heap_effects.specs.Deeds.{Acts, entries_at, grown, root_at}
use Rattle.pa_heap_effects.specs.Pooled.{pool_at, IsDone}
use Rattle.pa_heap_effects.specs.Ops.{AreOut, all_of, purge_in}
use Rattle.pa_heap_effects.proofs.Acting.{only_here, only_else}
use Rattle.pa_heap_effects.proofs.Listed.{lists_are_out}
use Rattle.pa_heap_effects.proofs.Returned.{purge_is_done}
use Rattle.pa_slot.specs.Kinds.{issues, frees, enters, leaves}
use Rattle.pa_slot_effects.specs.Shown.{IsLike}
use Rattle.pa_slot_effects.specs.Turns.{played_at}
use Rattle.pa_slot_effects.proofs.Looking.{none_goes_on, none_mark}
use Rattle.pa_player.specs.Player.{Player}
use Rattle.pa_player.specs.Tables.{slot_at}
use Rattle.pa_player.specs.Tallies.{tally_at}
use Rattle.pa_player.specs.Playing.{shown, journals, caches, root_of, numbered_at, list_at, IsLetOut, AreShaped, IsPlaying, rules_at}
use Rattle.pa_player.specs.Changes.{given_from, purged_with, purged_from, given_all}
use Rattle.pa_player.specs.Plays.{CanGoOn, Plays, PlaysAfter}
use Rattle.pa_player.proofs.Sparse.{all_acts, all_in_lists}
use Rattle.pa_player.proofs.OneList.{caches_here, caches_none, with_cache_here, with_cache_other}
use Rattle.pa_player.proofs.Slots.{keeps_all}
use Rattle.pa_player.proofs.Alone.{so_far}
use Rattle.pa_player.proofs.Backs.{AllComeBack, BringsBack, slots_back, gives_few, numbered_back}
use Rattle.pa_player.proofs.Changing.{AreCounted}
use Rattle.pa_player.proofs.Shows.{TellsMore, HasHeap, IsTallyMore, IsPlayed}
use Rattle.pa_player.proofs.Quiet.{can_play, like_same, tally_still}
use Rattle.pa_player.proofs.More.{playing_more}
use Rattle.pa_player.proofs.Returning.{mapped_maps}
use Rattle.pa_player.proofs.Purges.{IsGiving, AreLong, all_same, giving_then}
use Rattle.pa_player.proofs.Emptied.{CanGiveBack, giving_none, is_purged}
use Rattle.pa_buckets.specs.Limits.{first_class}
use Rattle.pa_player.proofs.Bounds.{list_short}
use Rattle.pa_rules.proofs.Versions.{class_cases}
use Rattle.pa_rules.proofs.Versions.{class_few}
use Rattle.pa_rules.specs.Sizes.{class_total}

-- ---- some partitions

-- The `k` partitions from q on were purged.
pub record ArePurged (partitions threads thread q k : ℕ) (m r : Player) : Type 0 where
  pub giving : IsGiving partitions threads m r
  pub here : (j : ℕ) → q ≤ j → j < q + k →
      root_of r j ≡ purged (all_returned (names (all_of (caches m thread j) (first_class m.version) (class_total m.version))) (root_of m j))
  pub there : (j : ℕ) → (q ≤ j → j < q + k → ⊥) → root_of r j ≡ root_of m j
  pub gone : (j c : ℕ) → q ≤ j → j < q + k → caches r thread j c ≡ []
  pub kept : (t j c : ℕ) → (t ≡ thread → q ≤ j → j < q + k → ⊥) → caches r t j c ≡ caches m t j c
  pub long : AreLong partitions threads r
  pub acted : (j : ℕ) → q ≤ j → j < q + k → journals r j ≡ journals m j ++
      entries_at m.told.line (purge_acts (caches m thread j) (first_class m.version) (class_total m.version))
  pub still : (j : ℕ) → (q ≤ j → j < q + k → ⊥) → journals r j ≡ journals m j

purge_same : (lists others : ℕ → List Numbered) (class k : ℕ) → ((c : ℕ) → others c ≡ lists c) →
    purge_acts others class k ≡ purge_acts lists class k
purge_same lists others class zero same = refl
purge_same lists others class (suc k) same = ap (λ z. gives z ++ purge_acts others (class + 1) k) (same class) ∙
    ap (λ z. gives (lists class) ++ z) (purge_same lists others (class + 1) k same)

are_purged : (partitions threads thread q k : ℕ) (m : Player) → thread < threads → q + k ≤ partitions → CanGiveBack partitions threads m
    → ArePurged partitions threads thread q k m (purged_from thread q k m)
unfolding purged_from
are_purged partitions threads thread q zero m below fits can = record {
  giving = giving_none partitions threads m can;
  here = λ j past more. absurd (omega arith);
  there = λ j out. refl;
  gone = λ j c past more. absurd (omega arith);
  kept = λ t j c out. refl;
  long = can.long;
  acted = λ j past more. absurd (omega arith);
  still = λ j out. refl;
}
are_purged partitions threads thread q (suc k) m below fits can =
    let m1 = purged_with q (given_all thread q m) in
    let one = is_purged partitions threads thread q m below (omega arith) can in
    let rest = are_purged partitions threads thread (q + 1) k m1 below (omega arith)
    (record { shaped = one.giving.shaped; counted = one.giving.counted; long = one.long }) in
    let r = purged_from thread (q + 1) k m1 in
    let line = m.told.line in
    let same : (j : ℕ) → (j ≡ q → ⊥) → (c : ℕ) → caches m1 thread j c ≡ caches m thread j c = λ j ne c. one.kept thread j c (λ _ e. ne e) in
    let first_journal : journals m1 q ≡ journals m q ++
    entries_at line (purge_acts (caches m thread q) (first_class m.version) (class_total m.version)) =
    one.journals q ∙ ap (λ acts. journals m q ++ entries_at line acts)
    (only_here q (purge_acts (caches m thread q) (first_class m.version) (class_total m.version))) in
    let other_journal : (j : ℕ) → (j ≡ q → ⊥) → journals m1 j ≡ journals m j = λ j ne.
    one.journals j ∙ ap (λ acts. journals m j ++ entries_at line acts)
    (only_else q j (purge_acts (caches m thread q) (first_class m.version) (class_total m.version)) ne) ∙ append-nil (journals m j) in
    record {
      giving = giving_then partitions threads m m1 r one.giving rest.giving;
      here = λ j past more. elim (cases_eq j q) [
        | inl e ↦ subst (λ z. root_of r z ≡ purged (all_returned
            (names (all_of (caches m thread z) (first_class m.version) (class_total m.version))) (root_of m z))) (sym e)
            (rest.there q (λ a b. omega arith) ∙ one.here)
        | inr ne ↦
            rest.here j (omega arith) (omega arith)
            ∙ ap (λ v. purged (all_returned (names (all_of (caches m1 thread j) (first_class v) (class_total v))) (root_of m1 j)))
            (ap (λ (k : Rules). k.version) one.giving.rules)
            ∙ ap (λ z. purged (all_returned (names z) (root_of m1 j)))
            (all_same (caches m thread j) (caches m1 thread j) (first_class m.version) (class_total m.version) (λ c _. same j ne c))
            ∙ ap (λ z. purged (all_returned (names (all_of (caches m thread j) (first_class m.version) (class_total m.version))) z))
            (one.there j ne)
      ];
      there = λ j out. rest.there j (λ a b. out (omega arith) (omega arith)) ∙ one.there j (λ e. out (omega arith) (omega arith));
      gone = λ j c past more. elim (cases_eq j q) [
        | inl e ↦ subst (λ z. caches r thread z c ≡ []) (sym e) (rest.kept thread q c (λ _ a b. omega arith) ∙ one.gone c)
        | inr ne ↦ rest.gone j c (omega arith) (omega arith)
      ];
      kept = λ t j c out. rest.kept t j c (λ a b d. out a (omega arith) (omega arith)) ∙
          one.kept t j c (λ a e. out a (omega arith) (omega arith));
      long = rest.long;
      acted = λ j past more. elim (cases_eq j q) [
        | inl e ↦ subst (λ z. journals r z ≡ journals m z ++ entries_at line
            (purge_acts (caches m thread z) (first_class m.version) (class_total m.version))) (sym e)
            (rest.still q (λ a b. omega arith) ∙ first_journal)
        | inr ne ↦
            rest.acted j (omega arith) (omega arith)
            ∙ ap (λ l. journals m1 j ++
            entries_at l (purge_acts (caches m1 thread j) (first_class m1.version) (class_total m1.version))) one.giving.line
            ∙ ap (λ v. journals m1 j ++
            entries_at line (purge_acts (caches m1 thread j) (first_class v) (class_total v)))
            (ap (λ (k : Rules). k.version) one.giving.rules)
            ∙ ap (λ acts. journals m1 j ++ entries_at line acts)
            (purge_same (caches m thread j) (caches m1 thread j) (first_class m.version) (class_total m.version) (same j ne))
            ∙ ap (λ es. es ++ entries_at line (purge_acts (caches m thread j) (first_class m.version) (class_total m.version)))
            (other_journal j ne)
      ];
      still = λ j out. rest.still j (λ a b. out (omega arith) (omega arith)) ∙ other_journal j (λ e. out (omega arith) (omega arith));
    }

-- ---- what a purge does to a root, and its acts

pub record IsPurgedRoot (r after : Root) : Type 0 where
  pub turn : after.turn ≤ r.turn + 32768
  pub supers : after.supers ≡ r.supers
  pub maps : after.maps ≡ r.maps

purged_root : (r : Root) (xs : List Numbered) → IsSound r → IsSettled r → AreOut r xs → length xs ≤ 7104 →
    IsPurgedRoot r (purged (all_returned (names xs) r))
purged_root r xs sound settled out few =
    let a = all_returned_is (names xs) r sound out.0 out.1 in
    let e : length (names xs) ≡ length xs = length-map xs (λ (n : Numbered). n.slot) in
    let next = all_returned (names xs) r in
    let small = a.settled settled in
    let b = times_is (empties next) next a.kept.sound in
    record {
      turn = let t = a.turn in let u = b.turn in omega arith;
      supers = b.kept.supers ∙ a.kept.supers;
      maps = b.kept.maps ∙ a.kept.maps;
    }

all_few : (lists : ℕ → List Numbered) (class k : ℕ) → ((c : ℕ) → length (lists c) ≤ 64) → length (all_of lists class k) ≤ 64 * k
all_few lists class zero few = omega arith
all_few lists class (suc k) few =
    let here = few class in
    let rest = all_few lists (class + 1) k few in
    let e = length-append (lists class) (all_of lists (class + 1) k) in
    omega arith

acts_few : (lists : ℕ → List Numbered) (class k : ℕ) → ((c : ℕ) → length (lists c) ≤ 64) → length (purge_acts lists class k) ≤ 4 * k + 1
acts_few lists class zero few = omega arith
acts_few lists class (suc k) few =
    let here = few class in
    let given = gives_few (lists class) in
    let rest = acts_few lists (class + 1) k few in
    let e = length-append (gives (lists class)) (purge_acts lists (class + 1) k) in
    omega arith

-- what holds of each give of its lists, and of the purge
each_act : (P : RootAct → Type 0) (lists : ℕ → List Numbered) (class k : ℕ) →
    ((c : ℕ) → (a : RootAct) → Contains (gives (lists c)) a → P a) → P Purge
    → (a : RootAct) → Contains (purge_acts lists class k) a → P a
each_act P lists class zero give here a among = elim (in_cases Purge a [] among) [
  | inl e ↦ subst P e here
  | inr none ↦ absurd (not_in_none a none)
]
each_act P lists class (suc k) give here a among =
    elim (Contains-append_cases (gives (lists class)) (purge_acts lists (class + 1) k) a among) [
      | inl first ↦ give class a first
      | inr rest ↦ each_act P lists (class + 1) k give here a rest
    ]

-- ---- the op

module _ (region partitions threads : ℕ) (ls : List Line) (p : Player) (thread : ℕ)
    (can : CanGoOn region partitions threads ls (Do thread ops.Purge) p) where
  abbrev h : IsPlaying region partitions threads ls p
  h = can.playing

  abbrev n : ℕ
  n = length ls + 2

  abbrev slots : ℕ
  slots = all_listed (caches p thread) 0 partitions

  abbrev acts : Acts
  acts = purge_in partitions (caches p thread)

  long_here : AreLong partitions threads p
  long_here t q class i below low real among =
      let there = h.shaped.listed t q class i below low real among in
      (subst (λ c. IsLetOut p.version (journals p) (slot_at p.table i) c) there.2 (h.slots.let_out i there.0)).2

  can_give : CanGiveBack partitions threads p
  can_give = record {
    shaped = h.shaped;
    counted = record { many = λ k fit. (h.tallied k fit).many; bytes = λ k fit. (h.tallied k fit).bytes };
    long = long_here;
  }

  abbrev r : Player
  r = purged_from thread 0 partitions p

  a : ArePurged partitions threads thread 0 partitions p r
  a = are_purged partitions threads thread 0 partitions p can.within.0 (omega arith) can_give

  -- the player after the purge is the one before it but for these parts
  abbrev last : Player
  last = record p { heap = r.heap; caches = r.caches; cached = r.cached; told = r.told }

  last_is : r ≡ last
  last_is =
      let g = a.giving in
      ap (λ t. record r { table = t }) g.table
      ∙ ap (λ t. record r { table = p.table; registers = t }) g.registers
      ∙ ap (λ t. record r { table = p.table; registers = p.registers; cells = t }) g.cells
      ∙ ap (λ t. record r { table = p.table; registers = p.registers; cells = p.cells; live = t }) g.live
      ∙ ap (λ t. record r { table = p.table; registers = p.registers; cells = p.cells; live = p.live; quarantined = t }) g.quarantined
      ∙ ap (λ (t : Rules). record r {
        table = p.table;
        registers = p.registers;
        cells = p.cells;
        live = p.live;
        quarantined = p.quarantined;
        version = t.version;
        plain_from = t.plain_from;
      }) g.rules
      ∙ ap (λ t. record r {
        table = p.table;
        registers = p.registers;
        cells = p.cells;
        live = p.live;
        quarantined = p.quarantined;
        version = p.version;
        plain_from = p.plain_from;
        partitions = t;
      }) g.many
      ∙ ap (λ t. record r {
        table = p.table;
        registers = p.registers;
        cells = p.cells;
        live = p.live;
        quarantined = p.quarantined;
        version = p.version;
        plain_from = p.plain_from;
        partitions = p.partitions;
        phase = t;
      }) g.phase

  done : IsDone region partitions n (played_at (rules_at p) ls thread ops.Purge (answers.Purged slots)) p.told.pools [] (journals p) acts
      (caches p thread) (λ q c. [])
      × ((q : ℕ) → q < partitions → root_at p.told.pools (grown (journals p) n acts) q ≡ purged
      (all_returned (names (all_of (caches p thread q) (first_class p.version) (class_total p.version)))
      (root_at p.told.pools (journals p) q)))
  done =
      let (made, roots) =
      purge_is_done region partitions n ls h.ps (played_at (rules_at p) ls thread ops.Purge (answers.Purged slots)) p.told.pools
      (journals p) (caches p) (so_far region partitions threads ls p h) refl refl refl in (
        made,
        λ q low. roots q low ∙
            ap (λ xs. purged (all_returned (names xs) (root_at p.told.pools (journals p) q))) (all_in_lists p thread q),
      )

  acts_in : (k : ℕ) → k < partitions → acts k ≡ purge_acts (caches p thread k) (first_class p.version) (class_total p.version)
  acts_in k low = rw (lt-ltb k partitions low) (all_acts p thread k)

  acts_out : (k : ℕ) → partitions ≤ k → acts k ≡ []
  acts_out k past = rw (le-ltb k partitions past) refl

  -- what holds of the acts of each partition
  each_partition : (P : List RootAct → Type 0) →
      ((k : ℕ) → k < partitions → P (purge_acts (caches p thread k) (first_class p.version) (class_total p.version))) → P [] → (k : ℕ) →
      P (acts k)
  each_partition P some none k = elim (cases_lt k partitions) [
    | inl low ↦ subst P (sym (acts_in k low)) (some k low)
    | inr past ↦ subst P (sym (acts_out k past)) none
  ]

  journals_then : (k : ℕ) → journals r k ≡ grown (journals p) n acts k
  journals_then k = elim (cases_lt k partitions) [
    | inl low ↦
        a.acted k (omega arith) (omega arith) ∙
        ap (λ l. journals p k ++ entries_at l (purge_acts (caches p thread k) (first_class p.version) (class_total p.version))) h.line
        ∙ ap (λ bs. journals p k ++ entries_at n bs) (sym (acts_in k low))
    | inr past ↦ a.still k (λ _ b. omega arith) ∙ sym (append-nil (journals p k)) ∙
        ap (λ bs. journals p k ++ entries_at n bs) (sym (acts_out k past))
  ]

  short_list : (k : ℕ) → k < partitions → (c : ℕ) → length (caches p thread k c) ≤ 64
  short_list k low c = list_short region partitions threads ls p h thread k c can.within.0 low

  root_purged : (k : ℕ) → k < partitions → IsPurgedRoot (root_of p k) (root_of r k)
  root_purged k low =
      let left = journal_leaves p.told.pools (journals p k) (h.placed.journals k) in
      let whole = lists_are_out region partitions n k thread ls h.ps p.told.pools (journals p) (caches p)
      (so_far region partitions threads ls p h) in
      let xs = all_of (caches p thread k) (first_class p.version) (class_total p.version) in
      let out = subst (λ zs. AreOut (root_at p.told.pools (journals p) k) zs) (all_in_lists p thread k) whole in
      subst (λ z. IsPurgedRoot (root_of p k) z) (sym (a.here k (omega arith) (omega arith)))
      (purged_root (root_of p k) xs (subst IsSound (sym (h.roots k)) left.sound) (subst IsSettled (sym (h.roots k)) left.settled)
      (subst (λ z. AreOut z xs) (sym (h.roots k)) out)
      (let b = all_few (caches p thread k) (first_class p.version) (class_total p.version) (short_list k low) in
      let few = class_few p.version in omega arith))

  each_root : (P : Root → Root → Type 0) → ((x : Root) → P x x) → ((x y : Root) → IsPurgedRoot x y → P x y) → (k : ℕ) →
      P (root_of p k) (root_of r k)
  each_root P same some k = elim (cases_lt k partitions) [
    | inl low ↦ some (root_of p k) (root_of r k) (root_purged k low)
    | inr past ↦ subst (λ z. P (root_of p k) z) (sym (a.there k (λ _ b. omega arith))) (same (root_of p k))
  ]

  heap_then : HasHeap region p last n [] acts
  heap_then = record {
    roots = λ k. elim (cases_lt k partitions) [
      | inl low ↦
          a.here k (omega arith) (omega arith) ∙
          ap (λ z. purged (all_returned (names (all_of (caches p thread k) (first_class p.version) (class_total p.version))) z))
          (h.roots k) ∙ sym (done.1 k low)
          ∙ ap (λ pools. root_at pools (grown (journals p) n acts) k) (sym (append-nil p.told.pools))
      | inr past ↦
          a.there k (λ _ b. omega arith) ∙ h.roots k
          ∙ ap (λ (es : List RootEntry). root_at p.told.pools (λ _. es) k)
          (sym (append-nil (journals p k)) ∙ ap (λ bs. journals p k ++ entries_at n bs) (sym (acts_out k past)))
          ∙ ap (λ pools. root_at pools (grown (journals p) n acts) k) (sym (append-nil p.told.pools))
    ];
    plan = a.giving.pool ∙ h.plan ∙ ap (pool_at region) (sym (append-nil p.told.pools));
    turns = each_root (λ x y. y.turn ≤ x.turn + 32768) (λ x. omega arith) (λ x y is. is.turn);
    born = λ k. subst (λ (z : PoolState). IsBornBelow z.entries (root_of r k)) (sym a.giving.pool)
        (each_root (λ x y. IsBornBelow p.heap.pool.entries x → IsBornBelow p.heap.pool.entries y) (λ x b. b)
        (λ x y is b. born_same p.heap.pool.entries x y is.supers is.maps b) k (h.bounded.born k));
  }

  tells : TellsMore p last n [] acts
  tells = record {
    entries = a.giving.entries;
    report = a.giving.report;
    line = a.giving.line;
    rules = refl;
    phase = refl;
    pools = a.giving.pools ∙ sym (append-nil p.told.pools);
    journals = journals_then;
    histories = λ k. inl (ap (λ (hs : List (List CellEntry)). slice_index_or hs k []) a.giving.histories);
    few = each_partition (λ bs. length bs ≤ 512) (λ k low. let b = acts_few (caches p thread k) (first_class p.version)
        (class_total p.version) (short_list k low) in let few = class_few p.version in omega arith) (omega arith);
    printable = each_partition (λ bs. (b : RootAct) → Contains bs b → NamesSlots b)
        (λ k low. each_act NamesSlots (caches p thread k) (first_class p.version) (class_total p.version)
        (λ c. gives_names (caches p thread k c)) tt)
        (λ b among. absurd (not_in_none b among));
  }

  come_back : (k : ℕ) → AllComeBack p.table (acts k)
  come_back = each_partition (AllComeBack p.table)
      (λ k low. each_act (BringsBack p.table) (caches p thread k) (first_class p.version) (class_total p.version)
      (λ c. elim (class_cases p.version c) [
        | inl real ↦
            let is : caches p thread k c ≡ map (numbered_at p.table) (list_at p thread k c) =
            caches_here p thread k c (subst (λ z. k < z) (sym h.shaped.many) low) real in
            subst (λ xs. AllComeBack p.table (gives xs)) (sym is)
            (numbered_back p.table (list_at p thread k c) (λ i among. (h.shaped.listed thread k c i can.within.0 low real among).0))
        | inr none ↦
            subst (λ xs. AllComeBack p.table (gives xs)) (sym (caches_none p thread k c (λ _ b. none b)))
            (numbered_back p.table [] (λ i among. absurd (not_in_none i among)))
      ])
      (λ line m among. absurd (not_in_none m among)))
      (λ b among. absurd (not_in_none b among))

  lists_then : (t k c : ℕ) → caches last t k c ≡ with_cache (caches p) thread (λ q d. []) t k c
  lists_then t k c = ap (λ z. caches z t k c) (sym last_is) ∙ elim (cases_eq t thread) [
    | inl e ↦
        let empty : caches r thread k c ≡ [] = elim (cases_lt k partitions) [
          | inl low ↦ a.gone k c (omega arith) (omega arith)
          | inr past ↦ caches_none r thread k c (λ b _. let d = a.giving.shaped.many in omega arith)
        ] in
        subst (λ z. caches r z k c ≡ with_cache (caches p) thread (λ q d. []) z k c) (sym e)
        (empty ∙ sym (with_cache_here (caches p) thread (λ q d. []) k c))
    | inr ne ↦ a.kept t k c (λ e _ _. ne e) ∙ sym (with_cache_other (caches p) thread (λ q d. []) t k c ne)
  ]

  silent : mark_of (played_at (rules_at p) ls thread ops.Purge (answers.Purged slots)) ≡ None
  silent = none_mark n ops.Purge (answers.Purged slots) tt

  none_some : (m : Mark) → None ≡ Some m → ⊥
  none_some m e = cc

  purge_played : IsPlayed region partitions threads ls p last can.playing thread ops.Purge (answers.Purged slots)
  purge_played = record {
    more = [];
    acts = acts;
    next = λ q c. [];
    after = shown p;
    done = done.0;
    turn = none_goes_on threads ls h.ps (shown p) thread ops.Purge (answers.Purged slots)
        (can_play region partitions threads ls thread ops.Purge p can) tt (λ cell reg e. cc) (slots, refl, λ k. refl);
    like = subst (λ hs. IsLike (shown p) (record (shown p) { cells = λ k. slice_index_or hs k [] })) (sym a.giving.histories)
        (like_same (shown p));
    lists = lists_then;
    told = tells;
    heap = heap_then;
    table = record {
      keeps = keeps_all p.table;
      few = omega arith;
      slots = slots_back partitions p.table p.told.pools [] (journals p) (root_of p) (root_of r) n acts h.slots come_back
          (λ j there. mapped_maps (root_of p (slot_at p.table j).partition) (root_of r (slot_at p.table j).partition) (slot_at p.table j)
          (slot_at p.table j).class
          (each_root (λ x y. y.maps ≡ x.maps) (λ x. refl) (λ x y is. is.maps) (slot_at p.table j).partition) (h.slots.mapped j there));
      shaped = subst (AreShaped partitions threads) last_is a.giving.shaped;
      marked = λ m e. absurd (none_some m (sym silent ∙ e));
    };
    counts = record {
      live = λ k fit. subst (λ o. IsTallyMore issues frees p.table k o (tally_at p.live.of k) (tally_at p.live.of k)) (sym silent)
          (tally_still issues frees p.table k None (tally_at p.live.of k) (λ w. refl) (λ w. refl));
      quarantined = λ k fit.
          subst (λ o. IsTallyMore enters leaves p.table k o (tally_at p.quarantined.of k) (tally_at p.quarantined.of k)) (sym silent)
          (tally_still enters leaves p.table k None (tally_at p.quarantined.of k) (λ w. refl) (λ w. refl));
      many = (subst (AreCounted partitions threads) last_is a.giving.counted).many;
      bytes = (subst (AreCounted partitions threads) last_is a.giving.counted).bytes;
    };
  }

  pub purge_goes : PlaysAfter region partitions threads ls p thread ops.Purge r (answers.Purged slots)
  purge_goes =
      subst (λ z. PlaysAfter region partitions threads ls p thread ops.Purge z (answers.Purged slots)) (sym last_is)
      (playing_more region partitions threads ls p last can.playing thread ops.Purge (answers.Purged slots) can.short purge_played)

-- a purge of all partitions
pub purge_plays : (p : Player) (thread : ℕ) →
    Plays p thread ops.Purge (purged_from thread 0 p.partitions p) (answers.Purged (all_listed (caches p thread) 0 p.partitions))
purge_plays p thread region partitions threads ls can =
    subst (λ k. PlaysAfter region partitions threads ls p thread ops.Purge (purged_from thread 0 k p)
    (answers.Purged (all_listed (caches p thread) 0 k)))
    (sym can.playing.shaped.many) (purge_goes region partitions threads ls p thread can)
