-- Allocations that make nothing: the register has a handle, the request is too large, or there was no room.
use Rattle.std.proofs.Common.{◌≡◌, ℕ, ◌+◌, ◌<◌, ◌≤◌, List, [], ◌∷◌, max, Option, Some, None, refl, sym, ◌∙◌, ap, subst, arith, inl, inr}
use Rattle.std.specs.Prelude.{slice_get, option_map}
use Rattle.std.proofs.lemmas.List.{append-nil, append_assoc}
use Rattle.pa_buckets.specs.Classes.{IsClassIn}
use Rattle.pa_direct.specs.Shapes.{greatest_size, shape_of}
use Rattle.pa_rules.specs.Sizes.{IsMapSize}
use Rattle.pa_trace.specs.declared.script.Op.{Op}
use Rattle.pa_trace.specs.declared.script.Op.TheVariants as ops
use Rattle.pa_heap.proofs.Ruling.{class_as, map_as}
use Rattle.pa_record.specs.declared.entry.Answer.{Answer}
use Rattle.pa_record.specs.declared.entry.Answer.TheVariants as answers
use Rattle.pa_record.specs.declared.entry.Seen.{Seen}
use Rattle.pa_record.specs.declared.pool.PoolEntry.{PoolEntry}
use Rattle.pa_record.specs.declared.root.RootAct.{RootAct}
use Rattle.pa_record.specs.declared.root.RootAct.TheVariants as act
use Rattle.pa_record.specs.Spans.{name_of}
use Rattle.pa_lists.proofs.Members.{in_cases, not_in_none, not_some}
use Rattle.pa_region.specs.declared.view.Entry.{Entry}
use Rattle.pa_region.specs.declared.view.Entry.TheVariants.{Entered}
use Rattle.pa_region.specs.declared.view.View.{View}
use Rattle.pa_region.specs.Lists.{list_of}
use Rattle.pa_region.specs.Aware.{IsAware}
use Rattle.pa_region.proofs.LendBack.{kept_number}
use Rattle.pa_rules.specs.declared.played.Played.{Played}
use Rattle.pa_rules.specs.Registers.{AllocRow}
use Rattle.pa_rules.specs.Nexts.{HasSomeHandle}
use Rattle.pa_rules.proofs.Nexts.{alloc_filled}
use Rattle.pa_cells.specs.declared.handle.Handle.{Handle}
use Rattle.pa_rules.specs.Caches.{Cache, SameLists, OnlyActs, FullRow}
use Rattle.pa_rules.specs.Roots.{Journals, MakesEntry}
use Rattle.pa_logs.specs.Indices.{IsFullAt}
use Rattle.pa_pool.specs.Calls.{take_entry}
use Rattle.pa_root.specs.declared.fault.FillFault.TheVariants.{Full}
use Rattle.pa_root.specs.Handing.{IsFullFor, numbered_by, root_entry}
use Rattle.pa_root.specs.Making.{EntersTwo}
use Rattle.pa_step_order.proofs.Shaping.{shapes_have_signs}
use Rattle.pa_op_specs.specs.Stocks.{StockValue, IsStock, HasNoHandle, register_in, as_reg, regs_of, titles_in, listed_in}
use Rattle.pa_op_specs.specs.Outcomes.{Outcome, IsSeenOf, row_facts, FillsFrom}
use Rattle.pa_thread_state.specs.Allocating.{FindsNone}
use Rattle.pa_op_specs.specs.Plays.{DoesOp}
use Rattle.pa_op_specs.proofs.Quiet.{quiet_record, same_titles}
use Rattle.pa_op_specs.proofs.Refusing.{IsPlain, plain_does}
use Rattle.pa_op_specs.proofs.Entered.{entered_does, makes_each, two_enters}
use Rattle.pa_op_specs.proofs.AskedFor.{Asks, asks_two, it_asks, only_acts, act_at, root_elsewhere}
use Rattle.pa_heap.proofs.Issuing.{alloc_row}
use Rattle.pa_thread_state.proofs.Taking.{two_uncut}
use Rattle.pa_root.proofs.Seeing.{free_kept}

-- an allocation that is refused by its register or its size alone
alloc_refuses : (s : StockValue) (i p size : ℕ) (answer : Answer) → IsStock s → IsPlain answer →
    ((o : Outcome) → AllocRow (as_reg (register_in s.registers i)) (row_facts o) (regs_of s.registers) i size answer
    (regs_of s.registers)) →
    (line : ℕ) → DoesOp line (ops.Alloc i p size) answer s s
alloc_refuses s i p size answer is plain row =
    plain_does s (ops.Alloc i p size) answer is tt plain (λ o run rules sees. row o) (λ o line phase run sees. tt)

pub alloc_fills : (s : StockValue) (i p size : ℕ) → IsStock s → HasSomeHandle (register_in s.registers i) → (line : ℕ) →
    DoesOp line (ops.Alloc i p size) answers.Filled s s
alloc_fills s i p size is some =
    alloc_refuses s i p size answers.Filled is tt
    (λ o. alloc_filled (λ (h : Handle). name_of h.title) (register_in s.registers i) (row_facts o) (regs_of s.registers) i size some)

pub too_large : (s : StockValue) (i p size : ℕ) → IsStock s → HasNoHandle (register_in s.registers i) → greatest_size < size → (line : ℕ) →
    DoesOp line (ops.Alloc i p size) answers.TooLarge s s
too_large s i p size is bare big =
    alloc_refuses s i p size answers.TooLarge is tt
    (λ o. alloc_row (register_in s.registers i) (row_facts o) (regs_of s.registers) i size answers.TooLarge (regs_of s.registers) bare
    (inl (big, refl, λ k. refl)))

-- ---- there was no room

not_made : (j : ℕ) (seen : Seen) → answers.Full j ≡ answers.Done seen → ⊥
not_made j seen e = cc

-- one index, in the answer and in the entry
one_index : (i j : ℕ) → answers.Full i ≡ answers.Full j → i ≡ j
one_index i j e = cc

one_partition : (r p n s q m : ℕ) → ops.Alloc r p n ≡ ops.Alloc s q m → p ≡ q
one_partition r p n s q m e = cc

-- The op that found no room, for a class or a direct map, if the entry says so and the row is that.
pub full_does : (line size r p j count : ℕ) (class : Option ℕ) (s : StockValue) (w : View)
    (full : IsFullFor j s.thread p line count class s.view w) → IsStock s → IsAware s.view →
    IsAware w → p < s.partitions → HasNoHandle (register_in s.registers r) → size ≤ greatest_size →
    ((o : Outcome) (x : Played) → x.op ≡ ops.Alloc r p size → x.rules.version ≡ s.caches.version →
    slice_get o.pools full.asked ≡ Some (take_entry line p count None) →
    MakesEntry o.pools p (act.Full class full.asked) x) →
    ((roots : Journals) (x : Played) (after : Cache) → x.op ≡ ops.Alloc r p size → x.rules.version ≡ s.caches.version →
    OnlyActs roots x.line p (act.Full class full.asked ∷ []) → SameLists after (listed_in s) →
    FullRow roots x (listed_in s) after) →
    DoesOp line (ops.Alloc r p size) (answers.Full j) s (record s { view = w })
full_does line size r p j count class s w full is aware now inner bare few makes row =
    entered_does s (record s { view = w }) line op (answers.Full j) es refl refl refl refl
    (two_enters full.asked j s.thread p line [] taken a s.view w two (omega arith) refl (λ e among. absurd (not_in_none e among)))
    (λ t alone. (
      record {
        free = subst (λ n. 0 < n) (sym (free_kept s.view w t two.lends.keeps)) alone.free;
        off = alone.off;
        well = alone.well;
      },
      kept_number s.view w alone.well.0 t aware now two.lends.keeps alone.well.1 alone.free,
    ))
    (λ phase. let x = quiet_record s w line phase op (answers.Full j) es in let it = it_asks line p (a ∷ []) es w x asks (λ q. refl) in
    record {
      cells = λ list none. none;
      it = it;
      fills = λ q e small among. elim (in_cases a e.act [] (act_at line p q (a ∷ []) e among).1) [
        | inl same ↦ subst (FillsFrom s.caches.version) same tt
        | inr none ↦ absurd (not_in_none e.act none)
      ];
      asked = asks.asked x it refl refl refl;
      refused = λ i q p' n says is_op.
          let same : p ≡ p' = one_partition r p size q p' n is_op in
          let index : j ≡ i = one_index j i says in (
            subst (λ k. k < 4) same low,
            subst (λ k. IsFullAt (list_of k w) x i) same (subst (λ k. IsFullAt (list_of p w) x k) index (record {
              made = two.made;
              entry = root_entry line a;
              stands = record {
                older = two.is_made.earlier;
                rest = two.is_made.stands.0;
                begins = two.is_made.stands.1;
                index_is = two.is_made.index;
              };
              says = two.is_made.says;
              line = refl;
              full = (class, full.asked, refl);
            })),
          );
      uncuts = λ u among. absurd (two_uncut p 4 two.pool two.made u among);
      homes = λ q past. inl (root_elsewhere line p q (a ∷ []) (λ e. omega arith));
      owes = λ q. refl;
      words = λ refused q known. two.lends.keeps.words q known;
      answers = λ o run many rules sees line_acts. record {
        told = refl;
        row = alloc_row (register_in s.registers r) (row_facts o) (regs_of s.registers) r size (answers.Full j) (regs_of s.registers) bare
            (inr (inr (few, j, refl, λ k. refl)));
        reader = tt;
        unmaps = λ seen q asked n e done among on acts. absurd (not_made j seen done);
        makes = makes_each x it o.pools (λ q e small among.
            let at = act_at line p q (a ∷ []) e among in
            elim (in_cases a e.act [] at.1) [
              | inl same ↦ subst (λ k. MakesEntry o.pools k e.act x.played) (sym at.0)
                  (subst (λ b. MakesEntry o.pools p b x.played) same (makes o x.played refl refl (stands o sees)))
              | inr none ↦ absurd (not_in_none e.act none)
            ]);
        home = λ m e. absurd (not_some m e);
      };
    })
    (λ phase o run many rules sees line_acts.
    let x = quiet_record s w line phase op (answers.Full j) es in
    let only = only_acts o x (it_asks line p (a ∷ []) es w x asks (λ q. refl)) line p (a ∷ []) line_acts low refl in (
      asks.signs ∙ shapes_have_signs.only o.partitions line p o.roots (a ∷ []) run.past only,
      row o.roots x.played (listed_in (record s { view = w })) refl refl only
          (λ q d. same_titles s.view w (titles_in s.caches q d) (λ t among.
          let well = is.lists.well q d t among in
          kept_number s.view w well.0 t aware now two.lends.keeps well.1 (is.lists.free q d t among))),
    ))
  where
    low : p < 4
    low = let few = is.partitions in omega arith

    op : Op
    op = ops.Alloc r p size

    a : RootAct
    a = act.Full class full.asked

    taken : PoolEntry
    taken = take_entry line p count None

    two : EntersTwo full.asked j s.thread p [] (take_entry line p count None) (root_entry line (act.Full class full.asked)) s.view w
    two = full.enters

    es : List Entry
    es = Entered 4 full.enters.pool ∷ Entered p full.enters.made ∷ []

    asks : Asks line p (act.Full class full.asked ∷ []) (Entered 4 full.enters.pool ∷ Entered p full.enters.made ∷ []) w
    asks = asks_two full.asked j s.thread p line (take_entry line p count None)
        (act.Full class full.asked) s.view w w full.enters low refl refl ([], sym (append-nil (list_of 4 w)))

    -- if a seat has seen a part of a run, the pool's entry is in that run
    stands : (o : Outcome) → IsSeenOf o w → slice_get o.pools full.asked ≡ Some (take_entry line p count None)
    stands o sees =
        let at = full.enters.is_pool in
        subst (λ n. slice_get o.pools n ≡ Some (take_entry line p count None)) at.index
        (sees.pools at.earlier at.stands.0 full.enters.pool (take_entry line p count None)
        (at.stands.1 ∙ append_assoc at.earlier (full.enters.pool ∷ []) at.stands.0) at.says)

-- what a refusal does for a class with an empty list
pub full_class_does : (line size r p j c : ℕ) (s after : StockValue) → FindsNone line p 1 (Some c) s after (Full j) → IsStock s →
    IsAware s.view → IsAware after.view →
    p < s.partitions → HasNoHandle (register_in s.registers r) → size ≤ greatest_size →
    IsClassIn s.caches.version (max size 1 + 8) c → titles_in s.caches p c ≡ [] →
    DoesOp line (ops.Alloc r p size) (answers.Full j) s after
full_class_does line size r p j c s after (full, same) is aware now inner bare few class empty =
    subst (λ (z : StockValue). DoesOp line (ops.Alloc r p size) (answers.Full j) s z) (sym same)
    (full_does line size r p j 1 (Some c) s after.view full is aware now inner bare few
    (λ o x is_op first stands. (r, size, is_op, class_as x.rules.version s.caches.version (max size 1 + 8) c first class))
    (λ roots x later is_op first only lists. inl (
      p,
      c,
      full.asked,
      (r, size, is_op, class_as x.rules.version s.caches.version (max size 1 + 8) c first class),
      ap (numbered_by s.view) empty,
      only,
      lists,
    )))

-- what a refusal does for a direct map
pub full_map_does : (line size r p j : ℕ) (s after : StockValue) → FindsNone line p (shape_of size).supers None s after (Full j) →
    IsStock s → IsAware s.view → IsAware after.view →
    p < s.partitions → HasNoHandle (register_in s.registers r) → IsMapSize s.caches.version size →
    DoesOp line (ops.Alloc r p size) (answers.Full j) s after
full_map_does line size r p j s after (full, same) is aware now inner bare direct =
    subst (λ (z : StockValue). DoesOp line (ops.Alloc r p size) (answers.Full j) s z) (sym same)
    (full_does line size r p j (shape_of size).supers None s after.view full is aware now inner bare direct.1
    (λ o x is_op first stands. (
      size,
      (r, is_op, map_as x.rules.version s.caches.version size first direct),
      ap (option_map (λ (e : PoolEntry). e.act)) stands,
    ))
    (λ roots x later is_op first only lists. inr (
      p,
      size,
      full.asked,
      (r, is_op, map_as x.rules.version s.caches.version size first direct),
      only,
      lists,
    )))
