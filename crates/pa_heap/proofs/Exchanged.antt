-- An exchange with a cell does what it should.
use Rattle.std.proofs.Common.{◌≡◌, ℕ, ◌<◌, ◌≤◌, Bool, true, false, List, [], ◌∷◌, ◌++◌, length, map, Option, Some, None, refl, sym, ◌∙◌, ap, subst, arith, inl, inr}
use Rattle.std.specs.Prelude.{◌==◌, Contains, nat_lt, filter, slice_get, slice_set, if◌then◌else◌}
use Rattle.std.proofs.lemmas.List.{append_assoc, length-set, get_or-set_same}
use Rattle.std.proofs.lemmas.Bool.Decides.{nat_tests}
use Rattle.pa_slot.specs.declared.title.Title.{Title}
use Rattle.pa_slot.specs.declared.word.Step.{Step}
use Rattle.pa_slot.specs.Titles.{IsWellFormed}
use Rattle.pa_trace.specs.declared.script.Op.TheVariants as ops
use Rattle.pa_record.specs.declared.entry.Answer.TheVariants as answers
use Rattle.pa_record.specs.declared.entry.Seen.{Seen}
use Rattle.pa_record.specs.declared.history.CellEntry.{CellEntry}
use Rattle.pa_record.specs.declared.history.Held.TheVariants as held
use Rattle.pa_record.specs.Spans.{name_of}
use Rattle.pa_record.specs.declared.root.RootEntry.{RootEntry}
use Rattle.pa_lists.proofs.Members.{in_cases, not_in_none, not_some}
use Rattle.pa_region.specs.declared.view.Entry.{Entry}
use Rattle.pa_region.specs.declared.view.Entry.TheVariants.{Entered, Counted, Looked, Added, Uncut}
use Rattle.pa_region.specs.declared.view.Made.{Made}
use Rattle.pa_region.specs.declared.view.View.{View}
use Rattle.pa_region.specs.Views.{free_of, seen_of, seen_among, stake_of}
use Rattle.pa_region.specs.Takes.{log_of, BeginningsJoin, SeenJoins, FreeNumbersStay}
use Rattle.pa_region.specs.Hands.{left_after, united}
use Rattle.pa_region.specs.Lists.{list_of, entered_in}
use Rattle.pa_region.specs.Aware.{IsAware}
use Rattle.pa_region.proofs.LendBack.{begins_on, kept_number}
use Rattle.pa_rules.specs.Registers.{handle_of, reg_of}
use Rattle.pa_rules.specs.Caches.{NoActs, SameLists, acts_of}
use Rattle.pa_logs.specs.Told.{ToldRecord}
use Rattle.pa_logs.specs.Listed.{line_of, first_of}
use Rattle.pa_logs.specs.Indices.{Enters}
use Rattle.pa_root.specs.Handing.{numbered_by}
use Rattle.pa_cells.specs.Handles.{ParkedHandle, GiversLackHandles, held_as}
use Rattle.pa_cells.specs.Cells.{exchange_entry}
use Rattle.pa_rules.specs.declared.register.Register.TheVariants.{Empty, Own, Ref, Freed, Cleared}
use Rattle.pa_step_order.proofs.Shaping.{shapes_have_signs}
use Rattle.pa_op_specs.specs.Stocks.{StockRegister, StockValue, WorkerLists, IsStock, HasNoHandle, register_in, as_reg, regs_of, titles_in, listed_in, rules_at}
use Rattle.pa_op_specs.specs.Workers.{HasItsStake}
use Rattle.pa_op_specs.specs.Outcomes.{Outcome, IsOutcome, ActsAreOf}
use Rattle.pa_thread_state.specs.Exchanging.{Parks, SwapsHandles, TakesIn, handle_register, register_of, found_register, handle_parcel}
use Rattle.pa_op_specs.specs.Plays.{DoesOp}
use Rattle.pa_op_specs.proofs.Registers.{set_at}
use Rattle.pa_op_specs.proofs.Quiet.{same_titles}
use Rattle.pa_op_specs.proofs.Entered.{Rests}
use Rattle.pa_thread_state.proofs.Parking.{rests_none, parked_rests, taken_rests, holds_given}
use Rattle.pa_root.proofs.Seeing.{free_kept}

-- what was given is what the register had, as histories name it
pub given_is : (p : ParkedHandle) → held_as (Some p) ≡ handle_of (as_reg (register_of p))
given_is p = go p.own
  where
    go : (b : Bool) →
        (if b then held.Own (name_of p.handle.title) else held.Ref (name_of p.handle.title)) ≡
        handle_of (as_reg (handle_register b p.handle))
    go true = refl
    go false = refl

pub none_given : (r : StockRegister) → HasNoHandle r → held.Nothing ≡ handle_of (as_reg r)
none_given Empty is = refl
none_given (Own h) is = absurd is
none_given (Ref h) is = absurd is
none_given Freed is = refl
none_given Cleared is = refl

-- the register that has what was found is what the history says
pub found_is : (found : Option ParkedHandle) → as_reg (found_register found) ≡ reg_of (held_as found)
found_is None = refl
found_is (Some p) = go p.own
  where
    go : (b : Bool) →
        as_reg (handle_register b p.handle) ≡ reg_of (if b then held.Own (name_of p.handle.title) else held.Ref (name_of p.handle.title))
    go true = refl
    go false = refl

-- What an exchange was: the thread's state was `s`, `a` after it handed a handle over, `b` after the cell's exchange, and `d` with
-- what was found.
pub record Swapping (line cell reg index : ℕ) (given found : Option ParkedHandle) (s a b d : StockValue) : Type 0 where
  stock : IsStock s
  first : Rests s.view a.view
  swap : SwapsHandles line cell given found index a b
  last : Rests b.view d.view
  gave : held_as given ≡ handle_of (regs_of s.registers reg)
  registers : (k : ℕ) → register_in d.registers k ≡ (if k == reg then found_register found else register_in s.registers k)
  caches : d.caches ≡ s.caches
  threads : (a.thread ≡ s.thread) × (d.thread ≡ s.thread)
  partitions : d.partitions ≡ s.partitions
  plain : d.plain_from ≡ s.plain_from
  awares : IsAware a.view × IsAware b.view

-- an entry of the cells' list is in no other
other_list : (q : ℕ) (m : Made) → (q ≡ 5 → ⊥) → entered_in q (Entered 5 m ∷ []) ≡ []
other_list q m other = go (5 == q) refl
  where
    go : (b : Bool) → (5 == q) ≡ b → (if b then m ∷ [] else []) ++ [] ≡ []
    go true is = absurd (other (grind (arith, nat_tests)))
    go false is = refl

entered_is : (q : ℕ) (m n : Made) → Contains (entered_in q (Entered 5 m ∷ [])) n → n ≡ m
entered_is q m n among = go (5 == q) among
  where
    go : (b : Bool) → Contains ((if b then m ∷ [] else []) ++ []) n → n ≡ m
    go true among = elim (in_cases m n [] among) [ inl same ↦ sym same | inr none ↦ absurd (not_in_none n none) ]
    go false among = absurd (not_in_none n among)

-- an entry of the cells' list is no step
no_step : (m : Made) (t : Title) (step : Step) (found value : ℕ) → Entered 5 m ≡ Counted t step found value → ⊥
no_step m t step found value e = cc

no_look : (m : Made) (t : Title) (found : ℕ) → Entered 5 m ≡ Looked t found → ⊥
no_look m t found e = cc

no_addition : (m : Made) (word bytes : ℕ) → Entered 5 m ≡ Added word bytes → ⊥
no_addition m word bytes e = cc

no_uncut : (m : Made) (t : Title) → Entered 5 m ≡ Uncut t → ⊥
no_uncut m t e = cc

not_full : (i j : ℕ) → answers.Swapped i ≡ answers.Full j → ⊥
not_full i j e = cc

not_done : (i : ℕ) (seen : Seen) → answers.Swapped i ≡ answers.Done seen → ⊥
not_done i seen e = cc

-- no act is of its line
no_act : (o : Outcome) (x : ToldRecord) → IsOutcome o → ActsAreOf o x →
    ((q : ℕ) → (q ≡ 5 → ⊥) → entered_in q x.stretch ≡ []) → NoActs o.roots x.played.line
no_act o x is acts none q = go (nat_lt q 4) refl
  where
    go : (b : Bool) → nat_lt q 4 ≡ b → acts_of o.roots x.played.line q ≡ []
    go true low =
        let below : q < 4 = grind (arith, nat_tests) in
        acts q [] below (ap (λ (ms : List Made). map (λ m. m.numbers) ms) (none q (λ e. omega arith)))
    go false high =
        let past : o.partitions ≤ q = let few = is.few in let far : 4 ≤ q = grind (arith, nat_tests) in omega arith in
        ap (λ (es : List RootEntry). map (λ (e : RootEntry). e.act) (filter (λ (e : RootEntry). e.line == x.played.line) es))
        (is.past q past)

-- The op does what it should.
pub swap_does : (line cell reg index : ℕ) (given found : Option ParkedHandle) (s a b d : StockValue) →
    Swapping line cell reg index given found s a b d →
    DoesOp line (ops.Swap cell reg) (answers.Swapped index) s d
swap_does line cell reg index given found s a b d is phase = (
  x,
  refl,
  record {
    thread = refl;
    same = (is.threads.1, is.partitions, is.plain);
    version = ap (λ (ls : WorkerLists). ls.version) is.caches;
    stakes = λ k. is.last.stakes k ∙ (swap.lends.keeps.stakes k ∙ is.first.stakes k);
    logs = λ k. is.last.logs k ∙ (swap.lends.logs k
        ∙ (ap (λ (log : List Entry). log ++ (if k == a.thread then Entered 5 m ∷ [] else [])) (is.first.logs k)
        ∙ ap (λ (n : ℕ). log_of k s.view ++ (if k == n then Entered 5 m ∷ [] else [])) is.threads.0));
    lists = λ k. begins_on (list_of k s.view) (list_of k b.view) (list_of k d.view)
        (begins_on (list_of k s.view) (list_of k a.view) (list_of k b.view) (is.first.lists k) (swap.lends.keeps.lists k))
        (is.last.lists k);
    seen = record {
      saw = λ t. refl;
      knows = λ t. let e = swap.known t in let f = is.last.grows t in omega arith;
      carries = λ n t among. ap (λ (y : Made). seen_among t y.seen) (sym (entered_is 5 m n among));
      steps = λ t step found value among. elim (in_cases (Entered 5 m) (Counted t step found value) [] among)
          [ inl same ↦ absurd (no_step m t step found value same) | inr none ↦ absurd (not_in_none _ none) ];
      looks = λ t found among. elim (in_cases (Entered 5 m) (Looked t found) [] among)
          [ inl same ↦ absurd (no_look m t found same) | inr none ↦ absurd (not_in_none _ none) ];
      grows = λ t. let e = is.first.grows t in let f = swap.carries t in omega arith;
    };
    enters = record {
      lines = λ q n among. ap line_of (entered_is q m n among) ∙ ap first_of swap.says;
      fills = λ p n f low among says. absurd
          (not_in_none n (subst (λ (ms : List Made). Contains ms n) (other_list p m (λ e. omega arith)) among));
      asked = (it, inl (record { pools = refl; roots = λ p. refl }));
      refused = λ j r p size full asks. absurd (not_full index j full);
      uncuts = λ t among. elim (in_cases (Entered 5 m) (Uncut t) [] among)
          [ inl same ↦ absurd (no_uncut m t same) | inr none ↦ absurd (not_in_none _ none) ];
      cells = record {
        older = swap.older;
        rest = (is.last.lists 5).0;
        made = m;
        entry = e;
        begins = (is.last.lists 5).1 ∙ ap (λ (l : List Made). l ++ (is.last.lists 5).0) swap.list;
        says = swap.says;
        line = refl;
        answer = ap answers.Swapped swap.index_is;
        entered = refl;
      };
    };
    homes = λ p past low. inl (other_list p m (λ e. omega arith));
    owes = λ q. refl;
    words = λ refused. absurd refused;
    answers = λ o fits.
        record {
          told = refl;
          row = (
            index,
            e,
            refl,
            subst (λ n. slice_get (o.cells cell) n ≡ Some e) (sym swap.index_is)
                (fits.seen.exchanges swap.older (is.last.lists 5).0 m (record { cell = cell; entry = e }) stands swap.says),
            is.gave,
            λ k. ap as_reg (is.registers k) ∙ becomes k (k == reg),
          );
          reader = tt;
          unmaps = λ seen p asked slot f done among on act. absurd (not_done index seen done);
          makes = λ p n f low among says. absurd
              (not_in_none n (subst (λ (ms : List Made). Contains ms n) (other_list p m (λ e. omega arith)) among));
          home = λ n f. absurd (not_some n f);
        };
  },
  record {
    apart = λ t alone.
        let stays = kept_at alone.well.0 t alone.well.1 alone.free in (
          record {
            free = stays.0;
            off = λ p c among. alone.off p c (subst (λ (cs : WorkerLists). Contains (titles_in cs p c) t) is.caches among);
            well = alone.well;
          },
          stays.1,
        );
    signs = λ o fits. shapes_have_signs.swapped o.partitions index o.roots x is.swap.made refl refl;
    row = λ o fits. (no_act o x fits.run fits.acts (λ q other. other_list q m other), λ p c. lists_same p c);
  },
  λ word bytes among. elim (in_cases (Entered 5 m) (Added word bytes) [] among)
      [ inl same ↦ absurd (no_addition m word bytes same) | inr none ↦ absurd (not_in_none _ none) ],
)
  where
    swap : SwapsHandles line cell given found index a b
    swap = is.swap

    m : Made
    m = is.swap.made

    e : CellEntry
    e = exchange_entry line given found

    x : ToldRecord
    x = record {
      played = record {
        line = line;
        thread = s.thread;
        phase = phase;
        rules = rules_at s;
        op = ops.Swap cell reg;
        answer = answers.Swapped index;
      };
      stretch = Entered 5 is.swap.made ∷ [];
      saw = λ t. seen_of s.view t;
      gives = λ t. seen_among t is.swap.made.seen;
    }

    it : Enters x
    it = record {
      roots = λ p. [];
      pools = [];
      roots_are = λ p low. ap (λ (ms : List Made). map (λ n. n.numbers) ms) (other_list p m (λ e. omega arith));
      pools_are = refl;
    }

    stands : list_of 5 d.view ≡ is.swap.older ++ is.swap.made ∷ (is.last.lists 5).0
    stands = (is.last.lists 5).1 ∙
        (ap (λ (l : List Made). l ++ (is.last.lists 5).0) is.swap.list ∙ append_assoc is.swap.older (is.swap.made ∷ []) (is.last.lists 5).0)

    becomes : (k : ℕ) (c : Bool) →
        as_reg (if c then found_register found else register_in s.registers k) ≡
        (if c then reg_of (held_as found) else regs_of s.registers k)
    becomes k true = found_is found
    becomes k false = refl

    -- a title that was free is so still, at its number
    kept_at : (n : ℕ) (t : Title) → IsWellFormed n t → 0 < free_of s.view t →
        (0 < free_of d.view t) × (seen_of d.view t ≡ seen_of s.view t)
    kept_at n t well free =
        let free_a : 0 < free_of a.view t = let f = is.first.frees t in omega arith in
        let free_b : 0 < free_of b.view t = let f = free_kept a.view b.view t swap.lends.keeps in omega arith in (
          let f = is.last.frees t in omega arith,
          is.last.numbers n t well free_b
              ∙ (kept_number a.view b.view n t is.awares.0 is.awares.1 swap.lends.keeps well free_a ∙ is.first.numbers n t well free),
        )

    lists_same : SameLists (listed_in d) (listed_in s)
    lists_same p c =
        ap (λ (cs : WorkerLists). numbered_by d.view (titles_in cs p c)) is.caches
        ∙ same_titles s.view d.view (titles_in s.caches p c)
        (λ t among. let well = is.stock.lists.well p c t among in (kept_at well.0 t well.1 (is.stock.lists.free p c t among)).1)

-- ---- from the three parts

pub parks_rests : GiversLackHandles → (s a : StockValue) (reg : ℕ) (given : Option ParkedHandle) → IsStock s → reg < 64 →
    Parks reg given s a → Rests s.view a.view
parks_rests law s a reg None is below parks = subst (λ (z : StockValue). Rests s.view z.view) (sym parks.0) (rests_none s.view)
parks_rests law s a reg (Some p) is below parks =
    subst (λ (z : StockValue). Rests s.view z.view) (sym parks.2)
    (parked_rests p.own p.handle s.view (law p.own p.handle.title 0 s.view (holds_given s reg p.own p.handle is below parks.0)))

pub takes_rests : BeginningsJoin → SeenJoins → FreeNumbersStay → (b d : StockValue) (reg : ℕ) (found : Option ParkedHandle) →
    IsAware b.view → IsAware d.view →
    TakesIn reg found b d → Rests b.view d.view
takes_rests joins seen stay b d reg None aware both takes = subst (λ (z : StockValue). Rests b.view z.view) (sym takes) (rests_none b.view)
takes_rests joins seen stay b d reg (Some p) aware both takes =
    subst (λ (z : StockValue). Rests b.view z.view) (sym takes.after_is)
    (taken_rests joins seen stay b.view p.note.view aware takes.aware
    (subst (λ (z : StockValue). IsAware z.view) takes.after_is both) takes.long takes.parked.stakes)

gave_is : (s a : StockValue) (reg : ℕ) (given : Option ParkedHandle) → Parks reg given s a →
    held_as given ≡ handle_of (regs_of s.registers reg)
gave_is s a reg None parks = none_given (register_in s.registers reg) parks.1
gave_is s a reg (Some p) parks = given_is p ∙ ap (λ (r : StockRegister). handle_of (as_reg r)) (sym parks.0)

-- what else stays of the thread's state: its parts but the view and the registers, whose number stays too
record Frames (reg : ℕ) (s a : StockValue) : Type 0 where
  thread : a.thread ≡ s.thread
  partitions : a.partitions ≡ s.partitions
  plain : a.plain_from ≡ s.plain_from
  caches : a.caches ≡ s.caches
  count : length a.registers ≡ length s.registers
  others : (k : ℕ) → (k == reg) ≡ false → register_in a.registers k ≡ register_in s.registers k

frame_set : (s : StockValue) (v : View) (reg : ℕ) (r : StockRegister) → reg < length s.registers →
    Frames reg s (record s { view = v; registers = slice_set s.registers reg r })
frame_set s v reg r within = record {
  thread = refl;
  partitions = refl;
  plain = refl;
  caches = refl;
  count = length-set s.registers reg r;
  others = λ k other. set_at s.registers reg k r Empty within ∙ go k (k == reg) other;
}
  where
    go : (k : ℕ) (c : Bool) → c ≡ false → (if c then r else register_in s.registers k) ≡ register_in s.registers k
    go k true e = cc
    go k false e = refl

parks_frame : (s a : StockValue) (reg : ℕ) (given : Option ParkedHandle) → reg < length s.registers → Parks reg given s a → Frames reg s a
parks_frame s a reg None within parks =
    subst (λ (z : StockValue). Frames reg s z) (sym parks.0)
    (record { thread = refl; partitions = refl; plain = refl; caches = refl; count = refl; others = λ k other. refl })
parks_frame s a reg (Some p) within parks =
    subst (λ (z : StockValue). Frames reg s z) (sym parks.2) (frame_set s (left_after (handle_parcel p) s.view) reg Empty within)

takes_is : (b d : StockValue) (reg : ℕ) (found : Option ParkedHandle) → TakesIn reg found b d →
    (v : View) × (d ≡ record b { view = v; registers = slice_set b.registers reg (found_register found) })
takes_is b d reg None takes = (b.view, takes)
takes_is b d reg (Some p) takes = (united b.view p.note.view, takes.after_is)

register_taken : (b d : StockValue) (reg k : ℕ) (found : Option ParkedHandle) → reg < length b.registers → TakesIn reg found b d →
    register_in d.registers k ≡ (if k == reg then found_register found else register_in b.registers k)
register_taken b d reg k found within takes =
    ap (λ (z : StockValue). register_in z.registers k) (takes_is b d reg found takes).1 ∙
    set_at b.registers reg k (found_register found) Empty within

-- an exchange does what it should
pub exchange_does : GiversLackHandles → BeginningsJoin → SeenJoins → FreeNumbersStay →
    (line cell reg index : ℕ) (given found : Option ParkedHandle)
    (s a b d : StockValue) → IsStock s → reg < 64 → IsAware a.view → IsAware b.view → IsAware d.view → Parks reg given s a →
    SwapsHandles line cell given found index a b → TakesIn reg found b d → DoesOp line (ops.Swap cell reg) (answers.Swapped index) s d
exchange_does law joins seen stay line cell reg index given found s a b d is below aware_a aware_b aware_d parks swap takes =
    let within : reg < length s.registers = let n = is.handles.count in omega arith in
    let frame = parks_frame s a reg given within parks in
    let same : b.registers ≡ a.registers = ap (λ (z : StockValue). z.registers) swap.same in
    let inside : reg < length b.registers = let n = frame.count in
    let m : length b.registers ≡ length a.registers = ap (λ (rs : List StockRegister). length rs) same in omega arith in
    let at_end = (takes_is b d reg found takes).1 in
    swap_does line cell reg index given found s a b d
    (record {
      stock = is;
      first = parks_rests law s a reg given is below parks;
      swap = swap;
      last = takes_rests joins seen stay b d reg found aware_b aware_d takes;
      gave = gave_is s a reg given parks;
      registers = λ k. register_taken b d reg k found inside takes ∙ go k same frame (k == reg) refl;
      caches = ap (λ (z : StockValue). z.caches) at_end ∙ (ap (λ (z : StockValue). z.caches) swap.same ∙ frame.caches);
      threads = (frame.thread, ap (λ (z : StockValue). z.thread) at_end ∙ (ap (λ (z : StockValue). z.thread) swap.same ∙ frame.thread));
      partitions = ap (λ (z : StockValue). z.partitions) at_end ∙ (ap (λ (z : StockValue). z.partitions) swap.same ∙ frame.partitions);
      plain = ap (λ (z : StockValue). z.plain_from) at_end ∙ (ap (λ (z : StockValue). z.plain_from) swap.same ∙ frame.plain);
      awares = (aware_a, aware_b);
    })
  where
    go : (k : ℕ) → b.registers ≡ a.registers → Frames reg s a → (c : Bool) → (k == reg) ≡ c →
        (if c then found_register found else register_in b.registers k) ≡ (if c then found_register found else register_in s.registers k)
    go k same frame true e = refl
    go k same frame false e = ap (λ (rs : List StockRegister). register_in rs k) same ∙ frame.others k e

-- ---- what the parts need of one another

-- after a handle was handed over, or there was none, the register has none
pub parks_none : (s a : StockValue) (reg : ℕ) (given : Option ParkedHandle) → reg < length s.registers → Parks reg given s a →
    HasNoHandle (register_in a.registers reg)
parks_none s a reg None within parks = subst (λ (z : StockValue). HasNoHandle (register_in z.registers reg)) (sym parks.0) parks.1
parks_none s a reg (Some p) within parks =
    subst (λ (z : StockValue). HasNoHandle (register_in z.registers reg)) (sym parks.2)
    (subst HasNoHandle (sym (get_or-set_same s.registers reg Empty Empty within)) tt)

-- a thread state that handed a handle over has its stake
pub parks_stake : GiversLackHandles → (s a : StockValue) (reg : ℕ) (given : Option ParkedHandle) → IsStock s → reg < 64 → HasItsStake s →
    Parks reg given s a → HasItsStake a
parks_stake law s a reg given is below stake parks =
    let rests = parks_rests law s a reg given is below parks in
    let within : reg < length s.registers = let n = is.handles.count in omega arith in
    let frame = parks_frame s a reg given within parks in
    subst (λ (n : ℕ). 0 < stake_of a.view n) (sym frame.thread) (let e = rests.stakes s.thread in omega arith)

-- after the cell's exchange the register has none still
pub exchanged_none : (line cell reg index : ℕ) (given found : Option ParkedHandle) (s a b : StockValue) → IsStock s →
    reg < 64 → Parks reg given s a →
    SwapsHandles line cell given found index a b → HasNoHandle (register_in b.registers reg)
exchanged_none line cell reg index given found s a b is below parks swap =
    let within : reg < length s.registers = let n = is.handles.count in omega arith in
    subst (λ (z : StockValue). HasNoHandle (register_in z.registers reg)) (sym swap.same) (parks_none s a reg given within parks)

-- the budget has no fewer counted steps
pub exchanged_budget : GiversLackHandles → BeginningsJoin → SeenJoins → FreeNumbersStay →
    (line cell reg index : ℕ) (given found : Option ParkedHandle)
    (s a b d : StockValue) → IsStock s → reg < 64 → IsAware b.view → IsAware d.view → Parks reg given s a →
    SwapsHandles line cell given found index a b → TakesIn reg found b d → s.view.budget ≤ d.view.budget
exchanged_budget law joins seen stay line cell reg index given found s a b d is below aware_b aware_d parks swap takes =
    let first = (parks_rests law s a reg given is below parks).budget in
    let second = swap.lends.keeps.budget in
    let third = (takes_rests joins seen stay b d reg found aware_b aware_d takes).budget in
    omega arith
