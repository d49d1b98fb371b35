-- Journals, the pool and exchanges of a run in the order of its lines: record by record, what its steps enter is what the list has on
-- its line.
use Rattle.std.proofs.Common.{◌≡◌, ℕ, ◌<◌, ◌⊎◌, List, [], ◌∷◌, ◌++◌, map, Option, Some, None, refl, sym, ◌∙◌, ap, subst, arith, inl, inr, append-nil}
use Rattle.std.specs.Prelude.{Contains}
use Rattle.std.specs.List.{cons_option, filter_map, flat_map, range_with_len}
use Rattle.std.proofs.lemmas.Bool.{cases_eq, cases_lt, eq-eqb, ne_eqb}
use Rattle.std.proofs.lemmas.List.Concat.{flat_map_single}
use Rattle.pa_slot.specs.declared.word.Step.{Step}
use Rattle.pa_trace.specs.declared.script.Op.{Op}
use Rattle.pa_trace.specs.declared.script.Op.TheVariants as ops
use Rattle.pa_record.specs.declared.entry.Seen.{Seen}
use Rattle.pa_record.specs.declared.entry.Answer.{Answer}
use Rattle.pa_record.specs.declared.entry.Answer.TheVariants as answers
use Rattle.pa_record.specs.declared.numbered.Numbered.{Numbered}
use Rattle.pa_record.specs.declared.root.RootEntry.{RootEntry}
use Rattle.pa_record.specs.declared.root.RootAct.{RootAct}
use Rattle.pa_record.specs.declared.root.RootAct.TheVariants.{Fill, Map, Full}
use Rattle.pa_record.specs.Root.{asked_by}
use Rattle.pa_record.proofs.Same.{same_root}
use Rattle.pa_lists.proofs.Members.{not_in_none}
use Rattle.pa_lists.proofs.Elements.{in_one, same_cons, parts_at}
use Rattle.pa_rules.specs.declared.played.Played.{Played}
use Rattle.pa_rules.specs.Played.{mark_of, step_of}
use Rattle.pa_rules.specs.Caches.{Cache, acts_of, OnlyActs, NoActs, gives, spilled, FilledFirst, MadeRow, FullRow, ReturnRow, DoneRow, PurgedRow, CacheRow, unmap_at}
use Rattle.pa_timeline.specs.Timeline.{Part, Entering, Swapping, Moment, asking_before, act_parts, entry_parts, answer_parts, slot_words, part_enters, part_asks, part_swaps, journal_made, asked_lines, swap_lines}
use Rattle.pa_rules.specs.Registers.{usable_in}
use Rattle.pa_rules.proofs.Batches.{batch_names_none, purge_names_none}
use Rattle.pa_one_run.specs.Parts.{Parts, entry_line, pool_line, cell_line}
use Rattle.pa_one_run.specs.Before.{on}
use Rattle.pa_one_run.proofs.Filed.{IsFiled}
use Rattle.pa_one_run.proofs.lines.Cuts.{record_row, entries_recorded, pool_recorded, cells_recorded}
use Rattle.pa_one_run.proofs.placing.CacheRows.{no_acts_past}
use Rattle.pa_one_run.proofs.roots.Asking.{asks_pool, asks_nothing}
use Rattle.pa_one_run.proofs.rows.Rows.{swap_cases}
use Rattle.pa_one_run.proofs.rows.Exchanges.{exchange_here, exchange_none, cell_steady}
use Rattle.pa_timeline.proofs.Ranges.{in_range}
use Rattle.pa_ordered_runs.proofs.Pieces.{filter_map_flat, filter_map_map, filter_map_none, map_flat, flat_same, flat_none, by_lines}
use Rattle.pa_ordered_runs.proofs.Steps.{moment, steps_in, moments_at, line_by_line, entries_kept, made_kept, done_kept}

-- ---- the entries of a line

-- what is entered in journal p by an entry of partition q
entered_as : (p line q : ℕ) (act : RootAct) (o : Option ℕ) →
    filter_map (part_enters p line) (asking_before o (Entering q act ∷ [])) ≡ cons_option (part_enters p line (Entering q act)) []
entered_as p line q act None = refl
entered_as p line q act (Some j) = refl

abbrev entry_as : ℕ → RootAct → RootEntry
entry_as line act = record { line = line; act = act }

entered_here : (p line q : ℕ) (act : RootAct) → q ≡ p → filter_map (part_enters p line) (act_parts q act) ≡ entry_as line act ∷ []
entered_here p line q act e = entered_as p line q act (asked_by act) ∙ rw (eq-eqb q p e) refl

entered_other : (p line q : ℕ) (act : RootAct) → (q ≡ p → ⊥) → filter_map (part_enters p line) (act_parts q act) ≡ []
entered_other p line q act other = entered_as p line q act (asked_by act) ∙ rw (ne_eqb q p other) refl

-- the entries on a line, made again of their acts
entries_again : (line : ℕ) (es : List RootEntry) →
    map (entry_as line) (map (λ (e : RootEntry). e.act) (on entry_line line es)) ≡ on entry_line line es
entries_again line [] = refl
entries_again line (e ∷ es) = elim (cases_eq e.line line) [
  | inl here ↦ rw (eq-eqb e.line line here)
      (same_cons (entry_as line e.act) e _ _ (same_root (entry_as line e.act) e (sym here) refl) (entries_again line es))
  | inr other ↦ rw (ne_eqb e.line line other) (entries_again line es)
]

no_acts : (es : List RootEntry) → map (λ (e : RootEntry). e.act) es ≡ [] → es ≡ []
no_acts [] e = refl
no_acts (x ∷ es) e = absurd cc

module _ (a : Parts) (h : IsFiled a) (line : ℕ) where
  abbrev entries : List Part
  entries = entry_parts a.partitions a.roots line

  not_entered : (p q : ℕ) → (q ≡ p → ⊥) → flat_map (λ act. filter_map (part_enters p line) (act_parts q act)) (acts_of a.roots line q) ≡ []
  not_entered p q other = flat_none (λ act. filter_map (part_enters p line) (act_parts q act)) (acts_of a.roots line q)
      (λ act among. entered_other p line q act other)

  -- what a line's entries put into a journal is what it has on that line
  pub journal_on : (p : ℕ) → filter_map (part_enters p line) entries ≡ on entry_line line (a.roots p)
  journal_on p =
      let piece : ℕ → List RootEntry = λ q. flat_map (λ act. filter_map (part_enters p line) (act_parts q act)) (acts_of a.roots line q) in
      let all = entries_kept (part_enters p line) a.partitions a.roots line in
      elim (cases_lt p a.partitions) [
        | inl less ↦
            all ∙ in_range piece p 0 a.partitions (omega arith) (omega arith) (λ q other. not_entered p q other)
            ∙ flat_same (λ act. filter_map (part_enters p line) (act_parts p act)) (λ act. entry_as line act ∷ []) (acts_of a.roots line p)
            (λ act among. entered_here p line p act refl)
            ∙ flat_map_single (entry_as line) (acts_of a.roots line p) ∙ entries_again line (a.roots p)
        | inr past ↦
            let none = no_acts_past a line p h (omega arith) in
            all ∙ flat_none piece (range_with_len 0 a.partitions) (λ q among. elim (cases_eq q p) [
              | inl e ↦ ap (λ acts. flat_map (λ act. filter_map (part_enters p line) (act_parts q act)) acts)
                  (ap (acts_of a.roots line) e ∙ none)
              | inr other ↦ not_entered p q other
            ]) ∙ sym (no_acts (on entry_line line (a.roots p)) none)
      ]

  -- ---- what a line asks of the pool

  -- its entries name none of the pool's, or its one entry names one
  abbrev pub Asks : Type 0
  Asks = ((q : ℕ) (act : RootAct) → Contains (acts_of a.roots line q) act → asked_by act ≡ None)
      ⊎ ((p j : ℕ) × (act : RootAct) × OnlyActs a.roots line p (act ∷ []) × (asked_by act ≡ Some j))

  asked_as : (q : ℕ) (act : RootAct) (o : Option ℕ) → o ≡ None → filter_map (part_asks line) (asking_before o (Entering q act ∷ [])) ≡ []
  asked_as q act None e = refl
  asked_as q act (Some j) e = absurd cc

  asked_once : (q j : ℕ) (act : RootAct) (o : Option ℕ) → o ≡ Some j →
      filter_map (part_asks line) (asking_before o (Entering q act ∷ [])) ≡ line ∷ []
  asked_once q j act None e = absurd cc
  asked_once q j act (Some i) e = refl

  pub pool_on : Asks → filter_map (part_asks line) entries ≡ map pool_line (on pool_line line a.pools)
  pool_on (inl none) =
      entries_kept (part_asks line) a.partitions a.roots line
      ∙ flat_none (λ q. flat_map (λ act. filter_map (part_asks line) (act_parts q act)) (acts_of a.roots line q))
      (range_with_len 0 a.partitions)
      (λ q among. flat_none (λ act. filter_map (part_asks line) (act_parts q act)) (acts_of a.roots line q)
      (λ act there. asked_as q act (asked_by act) (none q act there)))
      ∙ sym (ap (map pool_line) (asks_nothing a line h none))
  pool_on (inr (p, j, act, only, asks)) =
      let piece : ℕ → List ℕ = λ q. flat_map (λ act. filter_map (part_asks line) (act_parts q act)) (acts_of a.roots line q) in
      let (e, asked) = asks_pool a line p j act h only asks in
      let less : p < a.partitions = elim (cases_lt p a.partitions) [
        | inl less ↦ less
        | inr past ↦ absurd (let none : act ∷ [] ≡ [] = sym only.0 ∙ no_acts_past a line p h (omega arith) in cc)
      ] in
      entries_kept (part_asks line) a.partitions a.roots line
      ∙ in_range piece p 0 a.partitions (omega arith) (omega arith)
      (λ q other. ap (λ acts. flat_map (λ act. filter_map (part_asks line) (act_parts q act)) acts) (only.1 q other))
      ∙ ap (λ acts. flat_map (λ act. filter_map (part_asks line) (act_parts p act)) acts) only.0
      ∙ ap (λ ys. ys ++ []) (asked_once p j act (asked_by act) asks)
      ∙ sym (ap (map pool_line) asked.only ∙ ap (λ n. n ∷ []) asked.line)

  only_in : (p q : ℕ) (acts : List RootAct) (act : RootAct) → OnlyActs a.roots line p acts → Contains (acts_of a.roots line q) act →
      Contains acts act
  only_in p q acts act only among = elim (cases_eq q p) [
    | inl e ↦ subst (λ xs. Contains xs act) (ap (acts_of a.roots line) e ∙ only.0) among
    | inr other ↦ absurd (not_in_none act (subst (λ xs. Contains xs act) (only.1 q other) among))
  ]

  quiet_asks : NoActs a.roots line → Asks
  quiet_asks none = inl (λ q act among. absurd (not_in_none act (subst (λ xs. Contains xs act) (none q) among)))

  only_asks : (p : ℕ) (act : RootAct) (o : Option ℕ) → OnlyActs a.roots line p (act ∷ []) → asked_by act ≡ o → Asks
  only_asks p act None only asks =
      inl (λ q other among. ap asked_by (sym (in_one act other (only_in p q (act ∷ []) other only among))) ∙ asks)
  only_asks p act (Some j) only asks = inr (p, j, act, only, asks)

  gives_ask : (p : ℕ) (xs : List Numbered) → OnlyActs a.roots line p (gives xs) → Asks
  gives_ask p xs only = inl (λ q act among. batch_names_none _ xs act (only_in p q (gives xs) act only among))

-- a row of the caches asks so
module _ (a : Parts) (h : IsFiled a) (x : Played) where
  filled_asks : (p class : ℕ) (list xs : List Numbered) → FilledFirst a.roots x.line p class list xs → Asks a h x.line
  filled_asks p class [] xs (asked, only) = only_asks a h x.line p (Fill class asked xs) asked only refl
  filled_asks p class (y ∷ ys) xs (same, none) = quiet_asks a h x.line none

  made_asks : (seen : Seen) (cache next : Cache) → MadeRow a.roots x seen cache next → Asks a h x.line
  made_asks seen cache next (inl (p, class, xs, rest, asks, filled, front, becomes)) = filled_asks p class (cache p class) xs filled
  made_asks seen cache next (inr (p, size, asked, len, asks, only, becomes)) =
      only_asks a h x.line p (Map asked seen.slot len) (Some asked) only refl

  full_asks : (cache next : Cache) → FullRow a.roots x cache next → Asks a h x.line
  full_asks cache next (inl (p, class, asked, asks, empty, only, becomes)) =
      only_asks a h x.line p (Full (Some class) asked) (Some asked) only refl
  full_asks cache next (inr (p, size, asked, asks, only, becomes)) = only_asks a h x.line p (Full None asked) (Some asked) only refl

  return_asks : (slot : Numbered) (cache next : Cache) → ReturnRow a.roots x slot cache next → Asks a h x.line
  return_asks slot cache next (inl (p, class, of, only, becomes)) = gives_ask a h x.line p (spilled class (slot ∷ cache p class)) only
  return_asks slot cache next (inr (p, asked, number, direct, only, becomes)) =
      only_asks a h x.line p (unmap_at asked slot.slot number) (Some asked) only refl

  done_asks : (o : Option Step) (seen : Seen) (cache next : Cache) → DoneRow a.roots x o seen cache next → Asks a h x.line
  done_asks None seen cache next (none, becomes) = quiet_asks a h x.line none
  done_asks (Some step) seen cache next (inl (returns, row)) = return_asks _ cache next row
  done_asks (Some step) seen cache next (inr (not, none, becomes)) = quiet_asks a h x.line none

  purged_asks : (slots : ℕ) (cache next : Cache) → PurgedRow a.partitions a.roots x slots cache next → Asks a h x.line
  purged_asks slots cache next (acts, counted, empty) = inl (λ q act among. elim (cases_lt q a.partitions) [
    | inl less ↦ purge_names_none (cache q) 0 170 act (subst (λ zs. Contains zs act) (acts q less) among)
    | inr past ↦ absurd (not_in_none act (subst (λ zs. Contains zs act) (no_acts_past a x.line q h past) among))
  ])

  -- ---- what a record's steps enter

  abbrev here : Answer → List Part
  here answer = answer_parts (slot_words (usable_in a.ps) (mark_of x)) x.op (entry_parts a.partitions a.roots x.line) answer

  quiet_on : (p : ℕ) → NoActs a.roots x.line → on entry_line x.line (a.roots p) ≡ []
  quiet_on p none = no_acts (on entry_line x.line (a.roots p)) (none p)

  quiet_pool : NoActs a.roots x.line → on pool_line x.line a.pools ≡ []
  quiet_pool none = asks_nothing a x.line h (λ q act among. absurd (not_in_none act (subst (λ xs. Contains xs act) (none q) among)))

  answer_journal : (p : ℕ) (answer : Answer) (cache next : Cache) → CacheRow a.partitions a.roots x answer cache next →
      filter_map (part_enters p x.line) (here answer) ≡ on entry_line x.line (a.roots p)
  answer_journal p (answers.Made seen usable) cache next row =
      made_kept (part_enters p x.line) (entry_parts a.partitions a.roots x.line) ∙ append-nil _ ∙ journal_on a h x.line p
  answer_journal p (answers.Done seen) cache next row =
      done_kept (part_enters p x.line) _ x.op (entry_parts a.partitions a.roots x.line) (λ word. refl) ∙ journal_on a h x.line p
  answer_journal p (answers.Full entry) cache next row = journal_on a h x.line p
  answer_journal p (answers.Purged slots) cache next row = journal_on a h x.line p
  answer_journal p (answers.SecondFree None) cache next row = sym (quiet_on p row.0)
  answer_journal p (answers.SecondFree (Some seen)) cache next row = sym (quiet_on p row.0)
  answer_journal p (answers.StaleUse None) cache next row = sym (quiet_on p row.0)
  answer_journal p (answers.StaleUse (Some seen)) cache next row = sym (quiet_on p row.0)
  answer_journal p answer cache next row = sym (quiet_on p row.0)

  answer_pool : (answer : Answer) (cache next : Cache) → CacheRow a.partitions a.roots x answer cache next →
      filter_map (part_asks x.line) (here answer) ≡ map pool_line (on pool_line x.line a.pools)
  answer_pool (answers.Made seen usable) cache next row =
      made_kept (part_asks x.line) (entry_parts a.partitions a.roots x.line) ∙ append-nil _ ∙
      pool_on a h x.line (made_asks seen cache next row)
  answer_pool (answers.Done seen) cache next row =
      done_kept (part_asks x.line) _ x.op (entry_parts a.partitions a.roots x.line) (λ word. refl)
      ∙ pool_on a h x.line (done_asks (step_of x.op) seen cache next row)
  answer_pool (answers.Full entry) cache next row = pool_on a h x.line (full_asks cache next row)
  answer_pool (answers.Purged slots) cache next row = pool_on a h x.line (purged_asks slots cache next row)
  answer_pool (answers.SecondFree None) cache next row = sym (ap (map pool_line) (quiet_pool row.0))
  answer_pool (answers.SecondFree (Some seen)) cache next row = sym (ap (map pool_line) (quiet_pool row.0))
  answer_pool (answers.StaleUse None) cache next row = sym (ap (map pool_line) (quiet_pool row.0))
  answer_pool (answers.StaleUse (Some seen)) cache next row = sym (ap (map pool_line) (quiet_pool row.0))
  answer_pool answer cache next row = sym (ap (map pool_line) (quiet_pool row.0))

  -- ---- its exchange

  not_swapped : (k : ℕ) (op : Op) → ((reg : ℕ) → op ≡ ops.Swap k reg → ⊥) → (part : Part) → part_swaps k x.line op part ≡ None
  not_swapped k (ops.Swap cell reg) other Swapping =
      rw (ne_eqb cell k (λ e. other reg (ap {B = Op} (λ n. ops.Swap n reg) e))) refl
  not_swapped k op other part = refl

  swapped_parts : (k reg j : ℕ) → x.op ≡ ops.Swap k reg → x.answer ≡ answers.Swapped j →
      filter_map (part_swaps k x.line x.op) (here x.answer) ≡ x.line ∷ []
  swapped_parts k reg j op answer =
      let P : Op → Answer → Type 0 = λ o v.
      filter_map (part_swaps k x.line o)
      (answer_parts (slot_words (usable_in a.ps) (mark_of x)) o (entry_parts a.partitions a.roots x.line) v) ≡ x.line ∷ [] in
      let there : P (ops.Swap k reg) (answers.Swapped j) = rw (eq-eqb k k refl) refl in
      subst (λ o. P o x.answer) (sym op) (subst (λ v. P (ops.Swap k reg) v) (sym answer) there)

  pub record_swaps : (k : ℕ) → Contains a.ps x → swap_lines k (moments_at a x) ≡ map cell_line (on cell_line x.line (a.cells k))
  record_swaps k among =
      filter_map_map (λ (m : Moment). part_swaps k m.x.line m.x.op m.part) (moment x) (steps_in a x)
      ∙ elim (swap_cases x.op k) [
        | inl (reg, op) ↦
            let (e, has) = exchange_here a x k reg h among op in
            swapped_parts k reg _ op has.answer ∙ sym (ap (map cell_line) has.only ∙ ap (λ n. n ∷ []) has.line)
        | inr other ↦
            filter_map_none (part_swaps k x.line x.op) (steps_in a x) (λ part there. not_swapped k x.op other part)
            ∙ sym (ap (map cell_line) (exchange_none a x k h among other))
      ]

  pub record_enters : (p : ℕ) → Contains a.ps x → journal_made p (moments_at a x) ≡ on entry_line x.line (a.roots p)
  record_enters p among =
      let (before, rest, parts) = parts_at a.ps x among in
      let (all, next, to, row) = record_row a before rest x h parts in
      filter_map_map (λ (m : Moment). part_enters p m.x.line m.part) (moment x) (steps_in a x) ∙
      answer_journal p x.answer (all x.thread) next row

  pub record_asks : Contains a.ps x → asked_lines (moments_at a x) ≡ map pool_line (on pool_line x.line a.pools)
  record_asks among =
      let (before, rest, parts) = parts_at a.ps x among in
      let (all, next, to, row) = record_row a before rest x h parts in
      filter_map_map (λ (m : Moment). part_asks m.x.line m.part) (moment x) (steps_in a x) ∙ answer_pool x.answer (all x.thread) next row

-- ---- all records

module _ (a : Parts) (h : IsFiled a) where
  pub journals_made : (p : ℕ) → journal_made p (line_by_line a a.ps) ≡ a.roots p
  journals_made p =
      filter_map_flat (λ (m : Moment). part_enters p m.x.line m.part) (moments_at a) a.ps
      ∙ flat_same (λ x. journal_made p (moments_at a x)) (λ x. on entry_line x.line (a.roots p)) a.ps
      (λ x among. record_enters a h x p among)
      ∙ by_lines (λ (x : Played). x.line) entry_line a.ps (a.roots p) h.rising (h.order.journals p)
      (λ e among. let (x, of) = entries_recorded a p e h among in (x, of.0, of.1))

  pub pool_asked : asked_lines (line_by_line a a.ps) ≡ map pool_line a.pools
  pool_asked =
      filter_map_flat (λ (m : Moment). part_asks m.x.line m.part) (moments_at a) a.ps
      ∙ flat_same (λ x. asked_lines (moments_at a x)) (λ (x : Played). map pool_line (on pool_line x.line a.pools)) a.ps
      (λ x among. record_asks a h x among)
      ∙ sym (map_flat pool_line (λ (x : Played). on pool_line x.line a.pools) a.ps)
      ∙ ap (map pool_line) (by_lines (λ (x : Played). x.line) pool_line a.ps a.pools h.rising h.order.pool
      (λ e among. let (x, of) = pool_recorded a e h among in (x, of.0, of.1)))

  pub cells_swapped : (k : ℕ) → swap_lines k (line_by_line a a.ps) ≡ map cell_line (a.cells k)
  cells_swapped k =
      filter_map_flat (λ (m : Moment). part_swaps k m.x.line m.x.op m.part) (moments_at a) a.ps
      ∙ flat_same (λ x. swap_lines k (moments_at a x)) (λ (x : Played). map cell_line (on cell_line x.line (a.cells k))) a.ps
      (λ x among. record_swaps a h x k among)
      ∙ sym (map_flat cell_line (λ (x : Played). on cell_line x.line (a.cells k)) a.ps)
      ∙ ap (map cell_line) (by_lines (λ (x : Played). x.line) cell_line a.ps (a.cells k) h.rising (cell_steady a k h)
      (λ e among. let (x, of) = cells_recorded a k e h among in (x, of.0, of.1)))
