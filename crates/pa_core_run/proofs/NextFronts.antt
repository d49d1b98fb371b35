-- The state after one record more.
use Rattle.std.proofs.Common.{◌≡◌, ℕ, zero, suc, ◌+◌, ◌<◌, ◌≤◌, List, [], ◌∷◌, ◌++◌, Option, Some, None, refl, sym, ◌∙◌, ap, subst, arith, ◌⊎◌, inl, inr, ◌==◌, map, filter}
use Rattle.std.specs.Prelude.{Contains}
use Rattle.std.proofs.lemmas.Bool.{cases_eq, cases_lt, eq-eqb, ne_eqb}
use Rattle.pa_slot.specs.declared.word.SlotName.{SlotName}
use Rattle.pa_slot.specs.declared.word.Step.{Step}
use Rattle.pa_slot.specs.Count.{number_of, held_of, stepped, CanStep}
use Rattle.pa_slot.specs.Run.{Mark}
use Rattle.pa_slot.proofs.Runs.{number_stepped, same_slot_cases}
use Rattle.pa_trace.specs.declared.script.Op.TheVariants.{Swap}
use Rattle.pa_record.specs.declared.history.Held.TheVariants.{Nothing}
use Rattle.pa_record.specs.declared.root.RootEntry.{RootEntry}
use Rattle.pa_record.specs.declared.pool.PoolEntry.{PoolEntry}
use Rattle.pa_record.specs.declared.root.RootAct.TheVariants.{Full}
use Rattle.pa_record.specs.Root.{Root, new_root, root_next, root_replayed}
use Rattle.pa_heap_effects.specs.Deeds.{root_after}
use Rattle.pa_lists.proofs.Members.{not_in_none}
use Rattle.pa_lists.proofs.Joined.{map_in}
use Rattle.pa_rules.specs.declared.played.Played.{Played}
use Rattle.pa_rules.specs.Played.{mark_of}
use Rattle.pa_rules.specs.Registers.{Reg, Regs, AllRegs, Facts, Row, RowsTo, Becomes, with, with_thread, no_regs}
use Rattle.pa_rules.proofs.Counted.{listed_agree}
use Rattle.pa_rules.specs.Caches.{Cache, CacheRow, SameLists, NoActs, OnlyActs, acts_of, with_cache, no_caches}
use Rattle.pa_rules.specs.Contents.{IsContent}
use Rattle.pa_rules.specs.Flow.{listed_times}
use Rattle.pa_rules.proofs.CachesAfter.{caches_snoc}
use Rattle.pa_slot_effects.specs.Shown.{over}
use Rattle.pa_one_run.specs.Parts.{Parts, entry_line, cell_line}
use Rattle.pa_one_run.specs.Before.{stepped_by, word_after, below, on, root_at, facts_of, gave_last}
use Rattle.pa_one_run.proofs.lines.Sorting.{on_in, below_gap, below_next}
use Rattle.pa_lists.proofs.Elements.{in_middle}
use Rattle.pa_one_run.proofs.Filed.{IsFiled}
use Rattle.pa_one_run.proofs.words.Found.{found_is, step_can, word_same, word_other, word_here}
use Rattle.pa_one_run.proofs.rows.Exchanges.{exchange_op}
use Rattle.pa_core_run.specs.Standing.{Standing, in_lists}
use Rattle.pa_core_run.specs.Fronts.{IsFrontOf}
use Rattle.pa_core_run.proofs.Paying.{IsSet}
use Rattle.pa_heap_effects.proofs.Sharing.{root_parts}
use Rattle.pa_slot_effects.proofs.Handles.{over_same}

-- rows that lead over some records lead over one record more
rows_snoc : (facts : Facts) (first all : AllRegs) (before : List Played) (x : Played) (next : Regs) → RowsTo facts first before all →
    Row facts x.op (all x.thread) x.answer next →
    RowsTo facts first (before ++ x ∷ []) (with_thread all x.thread next)
rows_snoc facts first all [] x next to row =
    (next, subst (λ (r : AllRegs). Row facts x.op (r x.thread) x.answer next) to row, ap (λ (r : AllRegs). with_thread r x.thread next) to)
rows_snoc facts first all (y ∷ before) x next (after, here, to) row =
    (after, here, rows_snoc facts (with_thread first y.thread after) all before x next to row)

pub replayed_acts : (pools : List PoolEntry) (es : List RootEntry) (r : Root) →
    root_replayed pools es r ≡ root_after pools (map (λ (e : RootEntry). e.act) es) r
replayed_acts pools [] r = refl
replayed_acts pools (e ∷ es) r = replayed_acts pools es (root_next pools e.act r)

-- the state after a record that left these registers and lists of its thread, with these contents
abbrev pub after_record : Parts → List Played → Played → Standing → Regs → Cache → (SlotName → ℕ) → Standing
after_record a before x st regs cache content = record {
  regs = with_thread st.regs x.thread regs;
  held = λ k. gave_last Nothing (below cell_line (x.line + 1) (a.cells k));
  caches = with_cache st.caches x.thread cache;
  word = word_after (before ++ x ∷ []);
  content = content;
}

module _ (a : Parts) (before rest : List Played) (x : Played) (h : IsFiled a) (parts : a.ps ≡ before ++ x ∷ rest) (st : Standing)
    (f : IsFrontOf a x.line before (x ∷ rest) st) where
  pub among : Contains a.ps x
  among = in_middle before rest a.ps x parts

  -- the registers and the lists that the record leaves
  abbrev pub regs_left : Regs
  regs_left = f.rows.1.0

  pub row_here : Row (facts_of a) x.op (st.regs x.thread) x.answer regs_left
  row_here = f.rows.1.1

  abbrev pub cache_left : Cache
  cache_left = f.lists.1.0

  pub cache_row : CacheRow a.partitions a.roots x x.answer (st.caches x.thread) cache_left
  cache_row = f.lists.1.1

  -- the front with the record
  pub front_next : (content : SlotName → ℕ) →
      ((y : SlotName) → held_of (word_after (before ++ x ∷ []) y) ≡ 1 →
      IsContent a.ps y (number_of (word_after (before ++ x ∷ []) y)) (content y)) →
      IsFrontOf a (x.line + 1) (before ++ x ∷ []) rest (after_record a before x st regs_left cache_left content)
  front_next content right = record {
    registers = rows_snoc (facts_of a) no_regs st.regs before x regs_left f.registers row_here;
    rows = (f.rows.0, f.rows.1.2);
    caches = caches_snoc a.partitions a.roots no_caches st.caches before x cache_left f.caches cache_row;
    lists = (f.lists.0, f.lists.1.2);
    cells = λ k. refl;
    words = λ y. refl;
    contents = right;
  }

  -- a record that swaps with no cell leaves the cells
  pub cells_left : ((k reg : ℕ) → x.op ≡ Swap k reg → ⊥) → (k : ℕ) →
      gave_last Nothing (below cell_line (x.line + 1) (a.cells k)) ≡ st.held k
  cells_left other k = ap (gave_last Nothing)
      (sym (below_gap cell_line x.line (x.line + 1) (a.cells k) (omega arith) (λ e member. elim (cases_eq e.line x.line) [
        | inl same ↦ let (reg, op) = exchange_op a x k e h among member same in absurd (other k reg op)
        | inr apart ↦ around e.line apart
      ]))) ∙ sym (f.cells k)
    where
      around : (l : ℕ) → (l ≡ x.line → ⊥) → (l < x.line) ⊎ (x.line + 1 ≤ l)
      around l apart = elim (cases_lt l x.line) [ inl less ↦ inl less | inr more ↦ inr (omega arith) ]

  -- a record without an entry leaves the roots
  pub roots_left : NoActs a.roots x.line → root_at a (x.line + 1) ≡ root_at a x.line
  roots_left none = λ i p. each p i
    where
      no_entry : (p : ℕ) (e : RootEntry) → Contains (a.roots p) e → e.line ≡ x.line → ⊥
      no_entry p e member same = not_in_none (e.act) (subst (λ acts. Contains acts e.act) (none p)
          (map_in (λ (z : RootEntry). z.act) (filter (λ (z : RootEntry). z.line == x.line) (a.roots p)) e
          (on_in entry_line x.line (a.roots p) e member same)))

      around : (l : ℕ) → (l ≡ x.line → ⊥) → (l < x.line) ⊎ (x.line + 1 ≤ l)
      around l apart = elim (cases_lt l x.line) [ inl less ↦ inl less | inr more ↦ inr (omega arith) ]

      each : (p : ℕ) → root_at a (x.line + 1) p ≡ root_at a x.line p
      each p = ap (λ es. root_replayed a.pools es new_root)
          (sym (below_gap entry_line x.line (x.line + 1) (a.roots p) (omega arith) (λ e member. around e.line (no_entry p e member))))

  -- the root of a partition after the line: the line's entries replay from the one before it
  pub root_line : (p : ℕ) → root_at a (x.line + 1) p ≡ root_after a.pools (acts_of a.roots x.line p) (root_at a x.line p)
  root_line p =
      let steady = h.order.journals p in
      let cut = below_next entry_line x.line (x.line + 1) (a.roots p) (omega arith) (λ e member up. omega arith) steady in
      ap (λ es. root_replayed a.pools es new_root) cut
      ∙ (root_parts a.pools (below entry_line x.line (a.roots p)) (on entry_line x.line (a.roots p)) new_root ∙
      replayed_acts a.pools (on entry_line x.line (a.roots p)) (root_at a x.line p))

  -- if the line's one entry is a refusal, the roots stay
  pub roots_refused : (p : ℕ) (class : Option ℕ) (asked : ℕ) → OnlyActs a.roots x.line p (Full class asked ∷ []) →
      root_at a (x.line + 1) ≡ root_at a x.line
  roots_refused p class asked only = λ i q. each q i
    where
      each : (q : ℕ) → root_at a (x.line + 1) q ≡ root_at a x.line q
      each q = root_line q ∙ elim (cases_eq q p) [
        | inl e ↦ ap (λ acts. root_after a.pools acts (root_at a x.line q)) (ap (acts_of a.roots x.line) e ∙ only.0)
        | inr ne ↦ ap (λ acts. root_after a.pools acts (root_at a x.line q)) (only.1 q ne)
      ]

  -- the lists of the other threads, whatever the thread's own are
  pub lists_beside : (list : Cache) (j : ℕ) (y : SlotName) → (j ≡ x.thread → ⊥)
      → over a.partitions (λ p. listed_times y (with_cache st.caches x.thread list j p) 0 170) ≡ in_lists a.partitions st y (suc j)
  lists_beside list j y ne =
      let same : with_cache st.caches x.thread list j ≡ st.caches j = rw (ne_eqb j x.thread ne) refl in
      over_same a.partitions (λ p. listed_times y (st.caches j p) 0 170)
      (λ p. listed_times y (with_cache st.caches x.thread list j p) 0 170)
      (λ p. ap (λ (c : Cache). listed_times y (c p) 0 170) same)

  pub lists_left : (content : SlotName → ℕ) (j : ℕ) (y : SlotName) → (j ≡ x.thread → ⊥) →
      in_lists a.partitions (after_record a before x st regs_left cache_left content) y (suc j) ≡ in_lists a.partitions st y (suc j)
  lists_left content j y ne = lists_beside cache_left j y ne

  -- the word that a step leaves, of the word that stands
  pub stepped_to : (m : Mark) (p : Step) → mark_of x ≡ Some m → m.step ≡ Some p →
      word_after (before ++ x ∷ []) m.slot ≡ stepped p (st.word m.slot)
  stepped_to m p is step = word_here before x m is ∙ ap (λ o. stepped_by o (word_after before m.slot)) step ∙
      ap (stepped p) (sym (f.words m.slot))

  pub found_word : (m : Mark) → mark_of x ≡ Some m → m.found ≡ st.word m.slot
  found_word m is = found_is a before rest x m h parts is ∙ sym (f.words m.slot)

  pub can_step : (m : Mark) (p : Step) → mark_of x ≡ Some m → m.step ≡ Some p → CanStep p (st.word m.slot)
  can_step m p is step = subst (λ w. CanStep p w) (found_word m is) (step_can a before rest x m p h parts is step)

  -- a record that sets one register and steps on one slot
  pub set_by : (m : Mark) (p : Step) (reg : ℕ) (new : Reg) (content : SlotName → ℕ) → mark_of x ≡ Some m → m.step ≡ Some p → reg < 64 →
      ((k r : ℕ) → x.op ≡ Swap k r → ⊥) →
      Becomes regs_left (with (st.regs x.thread) reg new) → ((y : SlotName) → (y ≡ m.slot → ⊥) → content y ≡ st.content y) →
      IsSet a.partitions st (after_record a before x st regs_left cache_left content) x.thread reg new m.slot (stepped p (st.word m.slot))
  set_by m p reg new content is step few other becomes same = record {
    few = few;
    here = λ r. rw (eq-eqb x.thread x.thread refl) (becomes r);
    other = λ j ne r. rw (ne_eqb j x.thread ne) refl;
    held = cells_left other;
    lists = lists_left content;
    word_left = stepped_to m p is step;
    words = λ y ne. word_other before x m y is (λ e. ne (sym e)) ∙ sym (f.words y);
    contents = same;
  }

  -- ---- what a record leaves that sets no register

  pub regs_same : Becomes regs_left (st.regs x.thread) → (j r : ℕ) → with_thread st.regs x.thread regs_left j r ≡ st.regs j r
  regs_same same j r = elim (cases_eq j x.thread) [
    | inl e ↦
        let there : with_thread st.regs x.thread regs_left j ≡ regs_left = rw (eq-eqb j x.thread e) refl in
        ap (λ (q : Regs). q r) there ∙ (same r ∙ ap (λ i. st.regs i r) (sym e))
    | inr ne ↦
        let there : with_thread st.regs x.thread regs_left j ≡ st.regs j = rw (ne_eqb j x.thread ne) refl in
        ap (λ (q : Regs). q r) there
  ]

  pub lists_same : (content : SlotName → ℕ) → SameLists cache_left (st.caches x.thread) → (j : ℕ) (y : SlotName) →
      in_lists a.partitions (after_record a before x st regs_left cache_left content) y j ≡ in_lists a.partitions st y j
  lists_same content same zero y = refl
  lists_same content same (suc j) y = elim (cases_eq j x.thread) [
    | inl e ↦
        let there : with_cache st.caches x.thread cache_left j ≡ cache_left = rw (eq-eqb j x.thread e) refl in
        over_same a.partitions (λ p. listed_times y (st.caches j p) 0 170)
        (λ p. listed_times y (with_cache st.caches x.thread cache_left j p) 0 170)
        (λ p. ap (λ (c : Cache). listed_times y (c p) 0 170) there
        ∙ (listed_agree y (cache_left p) (st.caches x.thread p) 0 170 (λ c low. same p c)
        ∙ ap (λ i. listed_times y (st.caches i p) 0 170) (sym e)))
    | inr ne ↦ lists_left content j y ne
  ]

  -- a record that steps on no slot leaves the words
  pub words_same : (mark_of x ≡ None) ⊎ ((m : Mark) × (mark_of x ≡ Some m) × (m.step ≡ None)) → (y : SlotName) →
      word_after (before ++ x ∷ []) y ≡ st.word y
  words_same (inl none) y = word_same before x y none ∙ sym (f.words y)
  words_same (inr (m, is, look)) y = elim (same_slot_cases m.slot y) [
    | inl e ↦ subst (λ z. word_after (before ++ x ∷ []) z ≡ st.word z) e
        (word_here before x m is ∙ ap (λ o. stepped_by o (word_after before m.slot)) look ∙ sym (f.words m.slot))
    | inr ne ↦ word_other before x m y is ne ∙ sym (f.words y)
  ]

  -- the contents after such a record, and after one that steps on a slot
  pub right_same : ((y : SlotName) → word_after (before ++ x ∷ []) y ≡ st.word y) →
      (y : SlotName) → held_of (word_after (before ++ x ∷ []) y) ≡ 1 →
      IsContent a.ps y (number_of (word_after (before ++ x ∷ []) y)) (st.content y)
  right_same same y held =
      subst (λ w. IsContent a.ps y (number_of w) (st.content y)) (sym (same y)) (f.contents y (ap held_of (sym (same y)) ∙ held))

  pub right_after : (m : Mark) (p : Step) (content : SlotName → ℕ) → mark_of x ≡ Some m → m.step ≡ Some p →
      ((y : SlotName) → (y ≡ m.slot → ⊥) → content y ≡ st.content y) →
      (held_of (stepped p (st.word m.slot)) ≡ 1 → IsContent a.ps m.slot (number_of (st.word m.slot) + 1) (content m.slot)) →
      (y : SlotName) → held_of (word_after (before ++ x ∷ []) y) ≡ 1 →
      IsContent a.ps y (number_of (word_after (before ++ x ∷ []) y)) (content y)
  right_after m p content is step same here y held = elim (same_slot_cases m.slot y) [
    | inl e ↦
        let now = stepped_to m p is step in
        let P : SlotName → Type 0 = λ z. IsContent a.ps z (number_of (word_after (before ++ x ∷ []) z)) (content z) in
        let up = number_stepped p (st.word m.slot) (can_step m p is step) in
        let still : held_of (word_after (before ++ x ∷ []) m.slot) ≡ 1 = ap (λ z. held_of (word_after (before ++ x ∷ []) z)) e ∙ held in
        let right = here (ap held_of (sym now) ∙ still) in
        let Q : ℕ → Type 0 = λ n. IsContent a.ps m.slot n (content m.slot) in
        let there : P m.slot = subst Q (sym (ap number_of now ∙ up)) right in
        subst P e there
    | inr ne ↦
        let other : word_after (before ++ x ∷ []) y ≡ st.word y = word_other before x m y is ne ∙ sym (f.words y) in
        let had = f.contents y (ap held_of (sym other) ∙ held) in
        let P : ℕ → Type 0 = λ v. IsContent a.ps y (number_of (word_after (before ++ x ∷ []) y)) v in
        let Q : ℕ → Type 0 = λ w. IsContent a.ps y (number_of w) (st.content y) in
        let there : Q (word_after (before ++ x ∷ []) y) = subst Q (sym other) had in
        subst P (sym (same y (λ e. ne (sym e)))) there
  ]
