-- An exchange of a register and a cell.
use Rattle.std.proofs.Common.{◌≡◌, ℕ, ◌+◌, List, [], ◌∷◌, ◌++◌, length, set, get_or, None, refl, sym, ap, ◌∙◌, subst, arith, length-set, inl, inr}
use Rattle.std.proofs.lemmas.Bool.{cases_eq, eq-eqb, ne_eqb}
use Rattle.std.proofs.lemmas.List.{get_or-set_same, get_or-set_other}
use Rattle.pa_trace.specs.declared.script.Op.TheVariants as ops
use Rattle.pa_trace.specs.declared.script.Line.{Line}
use Rattle.pa_trace.specs.declared.script.Line.TheVariants.{Do}
use Rattle.pa_record.specs.declared.entry.Answer.TheVariants as answers
use Rattle.pa_record.specs.declared.history.CellEntry.{CellEntry}
use Rattle.pa_record.specs.declared.history.Held.{Held}
use Rattle.pa_rules.specs.Registers.{handle_of, reg_of as reg_of_held}
use Rattle.pa_heap_effects.proofs.Acting.{nothing_moves}
use Rattle.pa_slot_effects.specs.Shown.{IsLike, with_held, with_entry}
use Rattle.pa_slot_effects.specs.Turns.{played_at, after_swap, exchange_of}
use Rattle.pa_slot_effects.proofs.Swapping.{swap_goes_on}
use Rattle.pa_rules.specs.declared.register.Register.{Register}
use Rattle.pa_rules.specs.declared.register.Register.TheVariants.{Empty, Own, Ref, Freed, Cleared}
use Rattle.pa_player.specs.declared.table.Slot.{Slot}
use Rattle.pa_player.specs.Player.{Player}
use Rattle.pa_player.specs.Tables.{held_of as told_of, handle_in, IsIn}
use Rattle.pa_player.specs.Told.{history_in}
use Rattle.pa_player.specs.Playing.{shown, journals, caches, reg_of, register_at, cell_at, AreShaped, IsPlaying, rules_at}
use Rattle.pa_player.specs.Changes.{celled, exchanged, swapped}
use Rattle.pa_player.specs.Plays.{CanGoOn, Plays}
use Rattle.pa_player.proofs.Slots.{keeps_all}
use Rattle.pa_player.proofs.Shaping.{set_cases, shaped_told, shaped_celled, shaped_registered}
use Rattle.pa_player.proofs.Showing.{regs_registered, with_reg_same}
use Rattle.pa_player.proofs.Shows.{IsOneMore}
use Rattle.pa_player.proofs.Quiet.{quiet_plays, can_play, counts_still, none_adds, none_not_some, cache_same}

-- ---- handles, and what is reported of them

told_handle : (slots : List Slot) (x : Register ℕ) → told_of slots (handle_in x) ≡ handle_of (reg_of slots x)
told_handle slots Empty = refl
told_handle slots (Own place) = refl
told_handle slots (Ref place) = refl
told_handle slots Freed = refl
told_handle slots Cleared = refl

reg_told : (slots : List Slot) (x : Register ℕ) → reg_of slots (handle_in x) ≡ reg_of_held (told_of slots x)
reg_told slots Empty = refl
reg_told slots (Own place) = refl
reg_told slots (Ref place) = refl
reg_told slots Freed = refl
reg_told slots Cleared = refl

handle_again : (x : Register ℕ) → handle_in (handle_in x) ≡ handle_in x
handle_again Empty = refl
handle_again (Own place) = refl
handle_again (Ref place) = refl
handle_again Freed = refl
handle_again Cleared = refl

handle_among : (n : ℕ) (x : Register ℕ) → IsIn n x → IsIn n (handle_in x)
handle_among n Empty among = tt
handle_among n (Own place) among = among
handle_among n (Ref place) among = among
handle_among n Freed among = tt
handle_among n Cleared among = tt

-- ---- the exchange

module _ (p : Player) (thread cell reg : ℕ) where
  -- what the cell gets and the register finds
  abbrev gave : Register ℕ
  gave = handle_in (register_at p thread reg)

  abbrev found : Register ℕ
  found = cell_at p cell

  abbrev entry : CellEntry
  entry = record { line = p.told.line; gave = told_of p.table gave; found = told_of p.table found }

  module _ (region partitions threads : ℕ) (ls : List Line)
      (can : CanGoOn region partitions threads ls (Do thread (ops.Swap cell reg)) p) where
    abbrev h : IsPlaying region partitions threads ls p
    h = can.playing

    entry_is : entry ≡ exchange_of (shown p) (length ls + 2) thread cell reg
    entry_is =
        let f : ℕ → Held → CellEntry = λ l g. record { line = l; gave = g; found = told_of p.table found } in
        ap (λ l. f l (told_of p.table gave)) h.line ∙ ap (f (length ls + 2)) (told_handle p.table (register_at p thread reg))

    found_is : reg_of p.table found ≡ reg_of_held (told_of p.table found)
    found_is = ap (reg_of p.table) (sym (h.shaped.handles cell)) ∙ reg_told p.table found

    like : IsLike (after_swap (shown p) (length ls + 2) thread cell reg) (shown (swapped thread cell reg p))
    like = record {
      rules = refl;
      regs = λ t r.
          regs_registered p p.table thread reg found t r (omega (arith, can.within.0, h.shaped.registers))
          (omega (arith, can.within.1.1, h.shaped.sixty_four thread can.within.0))
          ∙ with_reg_same (shown p).regs (shown p).regs thread reg (reg_of_held (told_of p.table found)) (reg_of p.table found) t r
          (λ v j. refl) found_is;
      held = λ k. elim (cases_eq k cell) [
        | inl e ↦
            let P : ℕ → Type 0 = λ j. told_of p.table (get_or (set p.cells cell gave) j Empty) ≡ with_held (shown p).held cell
            (handle_of ((shown p).regs thread reg)) j in
            let here : told_of p.table (get_or (set p.cells cell gave) cell Empty) ≡ handle_of ((shown p).regs thread reg) =
            ap (told_of p.table) (get_or-set_same p.cells cell gave Empty (omega (arith, can.within.1.0, h.shaped.cells))) ∙
            told_handle p.table (register_at p thread reg) in
            subst P (sym e) (rw (eq-eqb cell cell refl) here)
        | inr ne ↦ rw (ne_eqb k cell ne) (ap (told_of p.table) (get_or-set_other p.cells cell k gave Empty ne))
      ];
      cells = λ k. elim (cases_eq k cell) [
        | inl e ↦
            let more = history_in p.told cell ++ entry ∷ [] in
            let P : ℕ → Type 0 = λ j. get_or (set p.told.histories cell more) j [] ≡ with_entry (shown p).cells cell
            (exchange_of (shown p) (length ls + 2) thread cell reg) j in
            let here : get_or (set p.told.histories cell more) cell [] ≡ history_in p.told cell ++
            exchange_of (shown p) (length ls + 2) thread cell reg ∷ [] =
            get_or-set_same p.told.histories cell more [] (omega (arith, can.within.1.0, h.shaped.histories)) ∙
            ap (λ z. history_in p.told cell ++ z ∷ []) entry_is in
            subst P (sym e) (rw (eq-eqb cell cell refl) here)
        | inr ne ↦ rw (ne_eqb k cell ne) (get_or-set_other p.told.histories cell k (history_in p.told cell ++ entry ∷ []) [] ne)
      ];
      word = λ s. refl;
      content = λ s is_held. refl;
      usable = λ s stepped_on. refl;
      plain = λ s stepped_on. refl;
    }

    shaped : AreShaped partitions threads (swapped thread cell reg p)
    shaped =
        let told_shape = shaped_told partitions threads p h.shaped (exchanged cell gave found p).told refl
        (length-set p.told.histories cell (history_in p.told cell ++ entry ∷ [])) in
        let celled_shape = shaped_celled partitions threads (exchanged cell gave found p) told_shape cell gave
        (handle_among (length p.table) (register_at p thread reg) (h.shaped.held thread reg)) (handle_again (register_at p thread reg)) in
        shaped_registered partitions threads (celled cell gave (exchanged cell gave found p)) celled_shape thread reg found
        (h.shaped.celled cell)

    -- a history has one exchange more at most
    longer : (k : ℕ) → IsOneMore (history_in p.told k) (get_or (set p.told.histories cell (history_in p.told cell ++ entry ∷ [])) k [])
    longer k = elim (set_cases p.told.histories cell k (history_in p.told cell ++ entry ∷ []) []) [
      | inl new ↦ inr (entry, new.1 ∙ ap (λ j. history_in p.told j ++ entry ∷ []) (sym new.0))
      | inr old ↦ inl old
    ]

  pub swap_plays : Plays p thread (ops.Swap cell reg) (swapped thread cell reg p) (answers.Swapped (length (history_in p.told cell)))
  swap_plays = quiet_plays p thread (ops.Swap cell reg) (swapped thread cell reg p) (answers.Swapped (length (history_in p.told cell)))
      (λ region partitions threads ls can.
      let h = can.playing in
      let n = length (history_in p.told cell) in
      record {
        next = caches p thread;
        after = after_swap (shown p) (length ls + 2) thread cell reg;
        done = nothing_moves region partitions (length ls + 2) h.ps
            (played_at (rules_at p) ls thread (ops.Swap cell reg) (answers.Swapped n)) p.told.pools (journals p)
            (caches p) h.placed refl tt;
        turn = swap_goes_on threads ls h.ps (shown p) thread cell reg
            (can_play region partitions threads ls thread (ops.Swap cell reg) p can) can.within.1.0 can.within.1.1;
        like = like region partitions threads ls can;
        lists = λ t k class. cache_same (caches p) thread t k class;
        still = record {
          entries = refl;
          report = refl;
          line = refl;
          rules = refl;
          phase = refl;
          pools = refl;
          journals = refl;
          roots = λ k. refl;
          pool = refl;
          histories = longer region partitions threads ls can;
        };
        keeps = keeps_all p.table;
        few = omega arith;
        slots = h.slots;
        shaped = shaped region partitions threads ls can;
        marked = λ m e. absurd (none_not_some m e);
        counts = counts_still region partitions threads ls p (swapped thread cell reg p) None h none_adds refl refl refl
            (λ t k class. refl);
      })
