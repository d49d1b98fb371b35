-- A read through a handle: what it says.
use Rattle.std.proofs.Common.{◌≡◌, ℕ, ◌-◌, ◌/◌, ◌<◌, ◌≤◌, Bool, true, List, [], ◌∷◌, None, refl, sym, ◌∙◌, ap, subst, arith, inl, inr}
use Rattle.std.specs.Prelude.{Contains}
use Rattle.std.proofs.lemmas.Bool.Decides.{nat_tests}
use Rattle.pa_slot.specs.declared.title.Title.{Title}
use Rattle.pa_slot.specs.declared.word.SlotName.{SlotName}
use Rattle.pa_slot.specs.Count.{held_of}
use Rattle.pa_slot.specs.Titles.{IsWellFormed, content_count}
use Rattle.pa_trace.specs.declared.script.Op.TheVariants as ops
use Rattle.pa_record.specs.declared.entry.Seen.{Seen}
use Rattle.pa_record.specs.declared.entry.Answer.{Answer}
use Rattle.pa_record.specs.declared.entry.Answer.TheVariants as answers
use Rattle.pa_record.specs.Spans.{name_of}
use Rattle.pa_lists.proofs.Members.{in_cases, not_in_none}
use Rattle.pa_region.specs.declared.view.Deeds.{Deeds}
use Rattle.pa_region.specs.declared.view.Entry.{Entry}
use Rattle.pa_region.specs.declared.view.Entry.TheVariants.{Looked, Read}
use Rattle.pa_region.specs.declared.view.View.{View}
use Rattle.pa_region.specs.Views.{own_of, seen_of, least_stake, HasStake}
use Rattle.pa_region.specs.Moves.{IsFound, after_look, no_deeds}
use Rattle.pa_region.specs.Loads.{after_read, has_own, has_unclean}
use Rattle.pa_region.specs.Leaves.{EntryLeaves, LookLeaves, OwnsChange}
use Rattle.pa_region.specs.Aware.{IsAware}
use Rattle.pa_rules.specs.declared.register.Register.TheVariants as reg
use Rattle.pa_rules.specs.Played.{mark_at}
use Rattle.pa_rules.specs.Registers.{Facts, Regs, ReadRow, ReadFromRow}
use Rattle.pa_logs.specs.Told.{ToldRecord}
use Rattle.pa_logs.specs.Touches.{title_of, IsReadTold}
use Rattle.pa_rules.specs.Nexts.{looked_read}
use Rattle.pa_rules.proofs.Nexts.{by_held}
use Rattle.pa_cells.specs.declared.handle.Handle.{Handle}
use Rattle.pa_logs.specs.Said.{HoldsHandle, IsReadThrough}
use Rattle.pa_rules.specs.declared.register.Register.TheVariants.{Own}
use Rattle.pa_op_specs.specs.Stocks.{StockRegister, StockValue, IsStock, HasHandleTo, register_in, as_reg, regs_of}
use Rattle.pa_op_specs.specs.Workers.{HasItsStake}
use Rattle.pa_thread_state.specs.Changes.{ReadsAt}
use Rattle.pa_op_specs.specs.Outcomes.{row_facts}
use Rattle.pa_op_specs.specs.Plays.{DoesOp}
use Rattle.pa_op_specs.proofs.Seeing.{made_kept, slot_in_run, home_of}
use Rattle.pa_op_specs.proofs.Touching.{Touches, Touched, entry_logs, touched_both}
use Rattle.pa_op_specs.proofs.Stakes.{least_is}
use Rattle.pa_thread_state.proofs.Leaving.{user_not_free, touched_look}
use Rattle.pa_op_specs.proofs.Stocks.{register_has, register_owns}
use Rattle.pa_thread_state.proofs.Looking.{seen_at, looked_stock, looked_stake}
use Rattle.pa_heap.proofs.Looking.{in_use}
use Rattle.pa_op_specs.proofs.Quiet.{quiet_record, quiet_does}
use Rattle.pa_op_specs.proofs.Refusing.{plain_does}
use Rattle.pa_thread_state.proofs.Reading.{read_stock, read_view}
use Rattle.pa_logs.proofs.Closing.{none_unclean}

-- a read leaves an entry, and nothing is seen by it
touched_load : EntryLeaves → (stake : ℕ) (t : Title) (place value : ℕ) (u : View) → HasStake u → least_stake u.stakes ≡ stake →
    Touched stake (Read t place value u.since (has_own u t) (has_unclean u t) ∷ []) u (after_read t place value u)
touched_load entries stake t place value u has least =
    let e = Read t place value u.since (has_own u t) (has_unclean u t) in
    let w = after_read t place value u in
    let leaves = entries e u w has refl in
    record {
      logs = λ k. entry_logs stake k e u w leaves least;
      stakes = leaves.stakes;
      lists = refl;
      grows = λ x. omega arith;
      frees = λ x. omega arith;
      numbers = λ x free. refl;
      each = λ f among. elim (in_cases e f [] among) [
        | inl same ↦ subst (Touches u w) same tt
        | inr none ↦ absurd (not_in_none f none)
      ];
    }

-- a seat that has the title's Own has it
own_there : (v : View) (t : Title) → 0 < own_of v t → has_own v t ≡ true
own_there v t has = grind (arith, nat_tests)

-- what was done in the log
abbrev read_entries : View → Title → ℕ → ℕ → ℕ → List Entry
read_entries v t word place value =
    Looked t word ∷ Read t place value no_deeds (has_own (after_look t word v) t) (has_unclean (after_look t word v) t) ∷ []

-- the row, by the handle
read_row : (r : StockRegister) (h : Handle) (facts : Facts) (regs : Regs) (place : ℕ) (answer : Answer) (after : Regs) → HasHandleTo h r →
    ReadFromRow (name_of h.title) facts regs place answer after → ReadRow (as_reg r) facts regs place answer after
read_row r h facts regs place answer after (inl own) row = subst (λ x. ReadRow (as_reg x) facts regs place answer after) (sym own) row
read_row r h facts regs place answer after (inr ref) row = subst (λ x. ReadRow (as_reg x) facts regs place answer after) (sym ref) row

-- the slot of a register's handle, by the rules' name
handle_name : (r : StockRegister) (h : Handle) (s : SlotName) → HasHandleTo h r → HoldsHandle (as_reg r) s → s ≡ name_of h.title
handle_name r h s (inl own) is = sym (subst (λ x. HoldsHandle (as_reg x) s) own is)
handle_name r h s (inr ref) is = sym (subst (λ x. HoldsHandle (as_reg x) s) ref is)

-- a register that has an Own by the rules has it
own_by : (r : StockRegister) (h : Handle) (s : SlotName) → HasHandleTo h r → as_reg r ≡ reg.Own s → r ≡ Own h
own_by r h s (inl own) is = own
own_by r h s (inr ref) is = absurd (no (subst (λ x. as_reg x ≡ reg.Own s) ref is))
  where
    no : reg.Ref (name_of h.title) ≡ reg.Own s → ⊥
    no e = cc

abbrev owner_of : Entry → Bool
owner_of (Read t place value since owned unclean) = owned
owner_of other = true

-- What a read says of the register through which it was made.
read_through : (s : StockValue) (u : View) (sizes : SlotName → ℕ) (reg : ℕ) (place value : ℕ) (h : Handle) (x : ToldRecord) →
    IsStock s → IsAware s.view → reg < 64 →
    HasHandleTo h (register_in s.registers reg) → title_of sizes (name_of h.title) ≡ h.title → ((t : Title) → x.saw t ≡ seen_of s.view t) →
    ((t : Title) (p v : ℕ) (since : Deeds) (owner unclean : Bool) → register_in s.registers reg ≡ Own h →
    Contains x.stretch (Read t p v since owner unclean) → owner ≡ true) →
    IsReadThrough sizes (regs_of s.registers reg) x
read_through s u sizes reg place value h x is aware below has titled saw owned = record {
  issued = λ n handle.
      let named = handle_name (register_in s.registers reg) h n has handle in
      let title : title_of sizes n ≡ h.title = ap (title_of sizes) named ∙ titled in
      let user = (register_has s reg h is below has).0 in
      let issue = aware.handles h.title user in
      let at = saw (title_of sizes n) ∙ ap (seen_of s.view) title in
      omega arith;
  owned = λ n t p v since owner unclean own among. owned t p v since owner unclean (own_by (register_in s.registers reg) h n has own) among;
}

-- A read past the slot's words does nothing.
pub far_read_does : (s : StockValue) (n reg place : ℕ) (h : Handle) → IsStock s → IsAware s.view → reg < 64 →
    HasHandleTo h (register_in s.registers reg) →
    IsWellFormed n h.title → h.title.len / 8 - 1 ≤ place → (line : ℕ) → DoesOp line (ops.Read reg place) answers.OutOfRange s s
far_read_does s n reg place h is aware below has well far =
    let made = (register_has s reg h is below has).1 in
    let a = well.len_aligned in let b = well.long in
    plain_does s (ops.Read reg place) answers.OutOfRange is tt tt
    (λ o run rules sees.
    let slot = slot_in_run o s.view h run sees made in
    let long = slot.length in
    read_row (register_in s.registers reg) h (row_facts o) (regs_of s.registers) place answers.OutOfRange (regs_of s.registers) has
    (λ k. refl, inl (omega arith, refl)))
    (λ o line phase run sees.
    let slot = slot_in_run o s.view h run sees made in
    read_through s s.view o.sizes reg place 0 h (quiet_record s s.view line phase (ops.Read reg place) answers.OutOfRange []) is aware
    below has slot.title
    (λ t. refl) (λ t p v since owner unclean own among. absurd (not_in_none _ among)))

-- the answer of a read, by the bit that it found
abbrev pub IsOfRead : Answer → Seen → ℕ → Type 0
IsOfRead (answers.Value seen value) s v = (seen ≡ s) × (value ≡ v) × (held_of s.found.0 ≡ 1)
IsOfRead (answers.Dangling seen value) s v = (seen ≡ s) × (value ≡ v) × (held_of s.found.0 ≡ 0)
IsOfRead answer s v = ⊥

-- A read of a word of the slot does what it should, whether its slot is held or was freed.
module _ (looks : LookLeaves) (entries : EntryLeaves) (s : StockValue) (n reg place word value : ℕ) (h : Handle) (is : IsStock s)
    (aware : IsAware s.view) (stake : HasItsStake s)
    (below : reg < 64) (has : HasHandleTo h (register_in s.registers reg)) (found : IsFound h.title word s.view)
    (well : IsWellFormed n h.title) (near : place < content_count h.title) where
  abbrev w : View
  w = read_view s.view h.title word place value

  abbrev es : List Entry
  es = read_entries s.view h.title word place value

  touched : LookLeaves → OwnsChange → Touched s.thread es s.view w
  touched l owns =
      let t = h.title in
      let least = least_is s.thread s.view is.stake stake in
      let there = looked_stock looks owns s word h is stake in
      let after = least_is s.thread (after_look t word s.view) there.stake (looked_stake looks s word h is stake) in
      touched_both s.thread (Looked t word)
      (Read t place value no_deeds (has_own (after_look t word s.view) t) (has_unclean (after_look t word s.view) t)) s.view
      (after_look t word s.view) w
      (touched_look looks s.thread t word s.view least.1 found least.0 (user_not_free s.view t aware (register_has s reg h is below has).0))
      (touched_load entries s.thread t place value (after_look t word s.view) after.1 after.0)

  read_told : (owns : OwnsChange) (t : Title) → t ≡ h.title →
      IsReadTold t place word value (has_own (after_look h.title word s.view) h.title) es
  read_told owns t same =
      let there = looked_stock looks owns s word h is stake in
      record {
        since = no_deeds;
        unclean = has_unclean (after_look h.title word s.view) h.title;
        pair = ap (λ x. Looked x word ∷ Read x place value no_deeds (has_own (after_look h.title word s.view) h.title)
            (has_unclean (after_look h.title word s.view) h.title) ∷ []) (sym same);
        rest = [];
        none = refl;
        quiet = refl;
        clean = none_unclean (after_look h.title word s.view) h.title there.handles.clean;
        in_use = in_use h.title word s.view (register_has s reg h is below has).0 found;
      }

  owner_is : (looks : LookLeaves) (t : Title) (p v : ℕ) (since : Deeds) (owner unclean : Bool) → register_in s.registers reg ≡ Own h →
      Contains es (Read t p v since owner unclean) → owner ≡ true
  owner_is looks t p v since owner unclean own among =
      let first = Looked h.title word in
      let second =
      Read h.title place value no_deeds (has_own (after_look h.title word s.view) h.title)
      (has_unclean (after_look h.title word s.view) h.title) in
      elim (in_cases first (Read t p v since owner unclean) (second ∷ []) among) [
        | inl same ↦ absurd (not_read same)
        | inr later ↦ elim (in_cases second (Read t p v since owner unclean) [] later) [
          | inl same ↦
              (let least = least_is s.thread s.view is.stake stake in
              let e = ((looks h.title word s.view least.1).0).owns h.title in
              let has_it = register_owns s reg h is below own in
              sym (ap owner_of same) ∙ own_there (after_look h.title word s.view) h.title (omega arith))
          | inr none ↦ absurd (not_in_none (Read t p v since owner unclean) none)
        ]
      ]
    where
      not_read : Looked h.title word ≡ Read t p v since owner unclean → ⊥
      not_read e = cc

  pub read_does : (owns : OwnsChange) (answer : Answer) → IsOfRead answer (seen_at h word) value → (line : ℕ) →
      DoesOp line (ops.Read reg place) answer s (read_stock s h word place value)
  read_does owns (answers.Value seen v) (same, equal, held) line =
      subst (λ q. DoesOp line (ops.Read reg place) (answers.Value q v) s (read_stock s h word place value)) (sym same)
      (subst (λ q. DoesOp line (ops.Read reg place) (answers.Value (seen_at h word) q) s (read_stock s h word place value)) (sym equal)
      (quiet_does s w s.registers (ops.Read reg place) (answers.Value (seen_at h word) value) es is.lists (touched looks owns)
      (record { room = λ j e. cc; no_swap = λ j e. cc; cells = λ list x none. none })
      (λ q. refl) (λ refused. absurd refused)
      (λ line phase o run rules sees.
      let slot = slot_in_run o w h run sees (made_kept h s.view w refl (register_has s reg h is below has).1) in
      let a = well.len_aligned in let b = well.long in let long = slot.length in
      record {
        told = (
          held,
          (
            reg,
            place,
            has_own (after_look h.title word s.view) h.title,
            refl,
            read_told owns (title_of o.sizes (name_of h.title)) slot.title,
          ),
        );
        row = read_row (register_in s.registers reg) h (row_facts o) (regs_of s.registers) place (answers.Value (seen_at h word) value)
            (regs_of s.registers) has
            (λ k. refl, inr (omega arith, seen_at h word, value, refl, inl (held, refl)));
        reader = read_through s w o.sizes reg place value h
            (quiet_record s w line phase (ops.Read reg place) (answers.Value (seen_at h word) value) es) is aware below has slot.title
            (λ t. refl) (owner_is looks);
        home = λ m e. (h.partition, home_of o h.partition (mark_at line (seen_at h word) None) m e slot.size);
      })
      (λ line phase o none same. (none, same)) line))
  read_does owns (answers.Dangling seen v) (same, equal, held) line =
      subst (λ q. DoesOp line (ops.Read reg place) (answers.Dangling q v) s (read_stock s h word place value)) (sym same)
      (subst (λ q. DoesOp line (ops.Read reg place) (answers.Dangling (seen_at h word) q) s (read_stock s h word place value)) (sym equal)
      (quiet_does s w s.registers (ops.Read reg place) (answers.Dangling (seen_at h word) value) es is.lists (touched looks owns)
      (record { room = λ j e. cc; no_swap = λ j e. cc; cells = λ list x none. none })
      (λ q. refl) (λ refused. absurd refused)
      (λ line phase o run rules sees.
      let slot = slot_in_run o w h run sees (made_kept h s.view w refl (register_has s reg h is below has).1) in
      let a = well.len_aligned in let b = well.long in let long = slot.length in
      record {
        told = (
          held,
          (
            reg,
            place,
            has_own (after_look h.title word s.view) h.title,
            refl,
            read_told owns (title_of o.sizes (name_of h.title)) slot.title,
          ),
        );
        row = read_row (register_in s.registers reg) h (row_facts o) (regs_of s.registers) place (answers.Dangling (seen_at h word) value)
            (regs_of s.registers) has
            (λ k. refl, inr (omega arith, seen_at h word, value, refl, inr (held, refl)));
        reader = read_through s w o.sizes reg place value h
            (quiet_record s w line phase (ops.Read reg place) (answers.Dangling (seen_at h word) value) es) is aware below has slot.title
            (λ t. refl) (owner_is looks);
        home = λ m e. (h.partition, home_of o h.partition (mark_at line (seen_at h word) None) m e slot.size);
      })
      (λ line phase o none same. (none, same)) line))
  read_does owns (answers.Made seen usable) is_read line = absurd is_read
  read_does owns (answers.Done seen) is_read line = absurd is_read
  read_does owns (answers.SecondFree seen) is_read line = absurd is_read
  read_does owns (answers.NotOwner seen) is_read line = absurd is_read
  read_does owns answers.StaleReset is_read line = absurd is_read
  read_does owns (answers.StaleUse seen) is_read line = absurd is_read
  read_does owns answers.Nothing is_read line = absurd is_read
  read_does owns answers.Filled is_read line = absurd is_read
  read_does owns answers.NotRef is_read line = absurd is_read
  read_does owns (answers.Shared seen) is_read line = absurd is_read
  read_does owns answers.OutOfRange is_read line = absurd is_read
  read_does owns answers.TooLarge is_read line = absurd is_read
  read_does owns (answers.Full entry) is_read line = absurd is_read
  read_does owns (answers.Swapped entry) is_read line = absurd is_read
  read_does owns (answers.Purged slots) is_read line = absurd is_read
  read_does owns answers.Uncounted is_read line = absurd is_read

pub looked_of_read : (seen : Seen) (value : ℕ) → IsOfRead (looked_read seen value) seen value
looked_of_read seen value = elim (by_held seen.found.0 (answers.Value seen value) (answers.Dangling seen value)) [
  | inl h ↦ subst (λ (a : Answer). IsOfRead a seen value) (sym h.1) (refl, refl, h.0)
  | inr h ↦ subst (λ (a : Answer). IsOfRead a seen value) (sym h.1) (refl, refl, h.0)
]

-- a call that looked at a handle's slot and read a content word of it did the read, with the answer for what was found
pub read_op_does : LookLeaves → EntryLeaves → OwnsChange → (s after : StockValue) (n reg place value : ℕ) (h : Handle) (seen : Seen)
    (answer : Answer) → IsStock s → IsAware s.view → HasItsStake s → reg < 64 →
    HasHandleTo h (register_in s.registers reg) → IsWellFormed n h.title → place < content_count h.title →
    ReadsAt h place seen value s after → IsOfRead answer seen value → (line : ℕ) →
    DoesOp line (ops.Read reg place) answer s after
read_op_does looks entries owns s after n reg place value h seen answer is aware stake below has well near reads of_read line =
    let e : seen ≡ seen_at h seen.found.0 = ap (λ m. record seen { slot = m }) reads.slot in
    subst (DoesOp line (ops.Read reg place) answer s) (sym reads.after_is)
    (read_does looks entries s n reg place seen.found.0 value h is aware stake below has reads.found well near owns answer
    (subst (λ x. IsOfRead answer x value) e of_read) line)
