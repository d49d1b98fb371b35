-- Additions to totals words at the end of a log segment change nothing of what its record says.
use Rattle.std.proofs.Common.{◌≡◌, ℕ, zero, suc, ◌+◌, ◌*◌, ◌<◌, Bool, true, false, List, [], ◌∷◌, ◌++◌, map, Option, Some, None, refl, sym, ◌∙◌, ap, subst, arith, inl, inr}
use Rattle.std.specs.Prelude.{◌==◌, Contains, if◌then◌else◌}
use Rattle.std.specs.List.{sum_by}
use Rattle.std.proofs.lemmas.List.{append-nil, append_assoc}
use Rattle.std.proofs.lemmas.List.Elements.{Contains-append_cases, filter-append}
use Rattle.std.proofs.lemmas.List.Sums.{sum_by-append, sum_by-cons}
use Rattle.std.proofs.lemmas.Bool.Decides.{nat_tests}
use Rattle.pa_slot.specs.declared.title.Title.{Title}
use Rattle.pa_slot.specs.declared.word.SlotName.{SlotName}
use Rattle.pa_slot.specs.declared.word.Step.{Step}
use Rattle.pa_slot.specs.declared.word.Step.TheVariants as steps
use Rattle.pa_trace.specs.Limits.{most_partitions}
use Rattle.pa_trace.specs.declared.script.Op.{Op}
use Rattle.pa_trace.specs.declared.script.Op.TheVariants as ops
use Rattle.pa_record.specs.declared.entry.Answer.{Answer}
use Rattle.pa_record.specs.declared.entry.Answer.TheVariants as answers
use Rattle.pa_record.specs.declared.entry.Seen.{Seen}
use Rattle.pa_lists.proofs.Members.{in_cases, not_in_none}
use Rattle.pa_region.specs.declared.view.Entry.{Entry}
use Rattle.pa_region.specs.declared.view.Entry.TheVariants.{Counted, Looked, Read, Added, Entered, Uncut}
use Rattle.pa_region.specs.declared.view.Made.{Made}
use Rattle.pa_region.specs.declared.view.View.{View}
use Rattle.pa_region.specs.Views.{least_stake}
use Rattle.pa_region.specs.Lists.{list_of, entered_in}
use Rattle.pa_region.specs.Takes.{log_of}
use Rattle.pa_region.specs.Totals.{owes_as, added_to}
use Rattle.pa_rules.specs.Played.{step_of}
use Rattle.pa_rules.specs.Registers.{Regs}
use Rattle.pa_logs.specs.Told.{ToldRecord, played_in}
use Rattle.pa_logs.specs.Touches.{title_of, value_by, is_touch, touches, IsStepTold, IsReadTold, IsDoneTold, IsSeenTold, ReadsTold, IsToldBy}
use Rattle.pa_logs.specs.Said.{ReadsIts}
use Rattle.pa_logs.specs.Indices.{Enters}
use Rattle.pa_logs.proofs.Listing.{entered_append}
use Rattle.pa_totals.specs.declared.owed.Owed.{Owed}
use Rattle.pa_totals.specs.Settled.{owed_to, owed_at, none_owed, CanSettleAll, after_settle_all, addition, four_added, all_added, LeavesSettleAll, SettleAllLeaves}
use Rattle.pa_totals.proofs.Settling.{owed_none, owed_at_none}
use Rattle.pa_op_specs.specs.Stocks.{StockValue, regs_of}
use Rattle.pa_step_order.specs.Shapes.{AreAdditions}
use Rattle.pa_step_order.proofs.Shaping.{shapes_have_signs}
use Rattle.pa_op_specs.specs.Workers.{WorkerValue}
use Rattle.pa_op_specs.specs.Booking.{booked}
use Rattle.pa_op_specs.specs.Outcomes.{Outcome, ActsAreOf, FitsRun}
use Rattle.pa_op_specs.specs.Entering.{EntersCells, EntersOwn}
use Rattle.pa_op_specs.specs.Plays.{Does, LeadsLists, PlaysOne, PlaysAll}
use Rattle.pa_op_specs.specs.Settling.{lengthened, last_lengthened, settled_worker, SettlingEndsPhase, SettlingEndsTurn}
use Rattle.pa_op_specs.proofs.Stakes.{least_is, can_settle}

-- ---- additions

-- the entry is none
abbrev IsOther : Entry → Type 0
IsOther (Added word bytes) = ⊥
IsOther e = Unit {0}

none_added : (es : List Entry) (e : Entry) → AreAdditions es → IsOther e → Contains es e → ⊥
none_added [] e are other among = not_in_none e among
none_added (Counted t step found value ∷ es) e are other among = are
none_added (Looked t found ∷ es) e are other among = are
none_added (Read t place value since owned unclean ∷ es) e are other among = are
none_added (Added word bytes ∷ es) e are other among = elim (in_cases (Added word bytes) e es among) [
  | inl same ↦ subst IsOther (sym same) other
  | inr later ↦ none_added es e are other later
]
none_added (Entered keeper made ∷ es) e are other among = are
none_added (Uncut t ∷ es) e are other among = are

touch_none : (es : List Entry) → AreAdditions es → touches es ≡ []
touch_none [] are = refl
touch_none (Counted t step found value ∷ es) are = absurd are
touch_none (Looked t found ∷ es) are = absurd are
touch_none (Read t place value since owned unclean ∷ es) are = absurd are
touch_none (Added word bytes ∷ es) are = touch_none es are
touch_none (Entered keeper made ∷ es) are = absurd are
touch_none (Uncut t ∷ es) are = absurd are

enter_none : (q : ℕ) (es : List Entry) → AreAdditions es → entered_in q es ≡ []
enter_none q [] are = refl
enter_none q (Counted t step found value ∷ es) are = absurd are
enter_none q (Looked t found ∷ es) are = absurd are
enter_none q (Read t place value since owned unclean ∷ es) are = absurd are
enter_none q (Added word bytes ∷ es) are = enter_none q es are
enter_none q (Entered keeper made ∷ es) are = absurd are
enter_none q (Uncut t ∷ es) are = absurd are

owe_none : (q : ℕ) (es : List Entry) → AreAdditions es → sum_by (owes_as q) es ≡ 0
owe_none q [] are = refl
owe_none q (Counted t step found value ∷ es) are = absurd are
owe_none q (Looked t found ∷ es) are = absurd are
owe_none q (Read t place value since owned unclean ∷ es) are = absurd are
owe_none q (Added word bytes ∷ es) are = let e = owe_none q es are in let a = sum_by-cons (owes_as q) (Added word bytes) es in omega arith
owe_none q (Entered keeper made ∷ es) are = absurd are
owe_none q (Uncut t ∷ es) are = absurd are

-- ---- a record with additions at the end of its log segment

module _ (es : List Entry) (are : AreAdditions es) where
  there : (xs : List Entry) (e : Entry) → IsOther e → Contains (xs ++ es) e → Contains xs e
  there xs e other among = elim (Contains-append_cases xs es e among) [
    | inl first ↦ first
    | inr later ↦ absurd (none_added es e are other later)
  ]

  touched : (xs : List Entry) → touches (xs ++ es) ≡ touches xs
  touched xs = filter-append is_touch xs es ∙ (ap (λ (l : List Entry). touches xs ++ l) (touch_none es are) ∙ append-nil (touches xs))

  entered : (q : ℕ) (xs : List Entry) → entered_in q (xs ++ es) ≡ entered_in q xs
  entered q xs = entered_append q xs es ∙
      (ap (λ (l : List Made). entered_in q xs ++ l) (enter_none q es are) ∙ append-nil (entered_in q xs))

  owed_still : (q : ℕ) (xs : List Entry) → sum_by (owes_as q) (xs ++ es) ≡ sum_by (owes_as q) xs
  owed_still q xs = let a = sum_by-append (owes_as q) xs es in let b = owe_none q es are in omega arith

  step_on : (t : Title) (step : Step) (found value : ℕ) (xs : List Entry) → IsStepTold t step found value xs →
      IsStepTold t step found value (xs ++ es)
  step_on t step found value xs (looks, all, is) = (looks, all, touched xs ∙ is)

  read_on : (t : Title) (place found value : ℕ) (owned : Bool) (xs : List Entry) → IsReadTold t place found value owned xs →
      IsReadTold t place found value owned (xs ++ es)
  read_on t place found value owned xs told = record {
    since = told.since;
    unclean = told.unclean;
    rest = told.rest ++ es;
    pair = ap (λ (l : List Entry). l ++ es) told.pair;
    none = touched told.rest ∙ told.none;
    quiet = told.quiet;
    clean = told.clean;
    in_use = told.in_use;
  }

  reads_on : (sizes : SlotName → ℕ) (op : Op) (seen : Seen) (value : ℕ) (xs : List Entry) → ReadsTold sizes op seen value xs →
      ReadsTold sizes op seen value (xs ++ es)
  reads_on sizes op seen value xs (reg, place, owned, is, told) =
      (reg, place, owned, is, read_on (title_of sizes seen.slot) place seen.found.0 value owned xs told)

  done_on : (sizes : SlotName → ℕ) (step : Option Step) (value : ℕ) (seen : Seen) (xs : List Entry) → IsDoneTold sizes step value seen xs →
      IsDoneTold sizes step value seen (xs ++ es)
  done_on sizes None value seen xs told = told
  done_on sizes (Some step) value seen xs told = step_on (title_of sizes seen.slot) step seen.found.0 value xs told

  seen_on : (sizes : SlotName → ℕ) (seen : Option Seen) (xs : List Entry) → IsSeenTold sizes seen xs → IsSeenTold sizes seen (xs ++ es)
  seen_on sizes None xs told = touched xs ∙ told
  seen_on sizes (Some seen) xs (is, used) = (touched xs ∙ is, used)

  told_on : (sizes : SlotName → ℕ) (op : Op) (answer : Answer) (xs : List Entry) → IsToldBy sizes op answer xs →
      IsToldBy sizes op answer (xs ++ es)
  told_on sizes op (answers.Made seen usable) xs (told, long) =
      (step_on (title_of sizes seen.slot) steps.Issue seen.found.0 0 xs told, long)
  told_on sizes op (answers.Done seen) xs told = done_on sizes (step_of op) (value_by op) seen xs told
  told_on sizes op (answers.Value seen value) xs (held, told) = (held, reads_on sizes op seen value xs told)
  told_on sizes op (answers.Dangling seen value) xs (held, told) = (held, reads_on sizes op seen value xs told)
  told_on sizes op (answers.SecondFree seen) xs told = seen_on sizes seen xs told
  told_on sizes op (answers.NotOwner seen) xs told = seen_on sizes (Some seen) xs told
  told_on sizes op answers.StaleReset xs told = touched xs ∙ told
  told_on sizes op (answers.StaleUse seen) xs told = seen_on sizes seen xs told
  told_on sizes op answers.Nothing xs told = touched xs ∙ told
  told_on sizes op answers.Filled xs told = touched xs ∙ told
  told_on sizes op answers.NotRef xs told = touched xs ∙ told
  told_on sizes op (answers.Shared seen) xs told = seen_on sizes (Some seen) xs told
  told_on sizes op answers.OutOfRange xs told = touched xs ∙ told
  told_on sizes op answers.TooLarge xs told = touched xs ∙ told
  told_on sizes op (answers.Full entry) xs told = touched xs ∙ told
  told_on sizes op (answers.Swapped entry) xs told = touched xs ∙ told
  told_on sizes op (answers.Purged slots) xs told = touched xs ∙ told
  told_on sizes op answers.Uncounted xs told = touched xs ∙ told

  reader_on : (sizes : SlotName → ℕ) (regs : Regs) (op : Op) (x : ToldRecord) → ReadsIts sizes regs op x →
      ReadsIts sizes regs op (lengthened es x)
  reader_on sizes regs (ops.Alloc reg partition size) x reads = tt
  reader_on sizes regs (ops.Copy from to) x reads = reads
  reader_on sizes regs (ops.Reset reg) x reads = tt
  reader_on sizes regs (ops.Free reg) x reads = tt
  reader_on sizes regs (ops.Write reg value) x reads = tt
  reader_on sizes regs (ops.Read reg place) x reads = record {
    issued = reads.issued;
    owned = λ s t p value since owner unclean own among. reads.owned s t p value since owner unclean own
        (there x.stretch (Read t p value since owner unclean) tt among);
  }
  reader_on sizes regs (ops.Swap cell reg) x reads = tt
  reader_on sizes regs ops.Purge x reads = tt

  cells_on : (op : Op) (list : List Made) (x : ToldRecord) → EntersCells op list x → EntersCells op list (lengthened es x)
  cells_on (ops.Alloc reg partition size) list x none = entered 5 x.stretch ∙ none
  cells_on (ops.Copy from to) list x none = entered 5 x.stretch ∙ none
  cells_on (ops.Reset reg) list x none = entered 5 x.stretch ∙ none
  cells_on (ops.Free reg) list x none = entered 5 x.stretch ∙ none
  cells_on (ops.Write reg value) list x none = entered 5 x.stretch ∙ none
  cells_on (ops.Read reg place) list x none = entered 5 x.stretch ∙ none
  cells_on (ops.Swap cell reg) list x one = record {
    older = one.older;
    rest = one.rest;
    made = one.made;
    entry = one.entry;
    begins = one.begins;
    says = one.says;
    line = one.line;
    answer = one.answer;
    entered = entered 5 x.stretch ∙ one.entered;
  }
  cells_on ops.Purge list x none = entered 5 x.stretch ∙ none

  numbers_on : (q : ℕ) (xs : List Entry) →
      map (λ (m : Made). m.numbers) (entered_in q (xs ++ es)) ≡ map (λ (m : Made). m.numbers) (entered_in q xs)
  numbers_on q xs = ap (map (λ (m : Made). m.numbers)) (entered q xs)

  abbrev it_on : (x : ToldRecord) → Enters x → Enters (lengthened es x)
  it_on x it = record {
    roots = it.roots;
    pools = it.pools;
    roots_are = λ p low. numbers_on p x.stretch ∙ it.roots_are p low;
    pools_are = numbers_on 4 x.stretch ∙ it.pools_are;
  }

  enters_on : (lists : ℕ → List Made) (x : ToldRecord) → EntersOwn lists x → EntersOwn lists (lengthened es x)
  enters_on lists x own = record {
    lines = λ q m among. own.lines q m (subst (λ (ms : List Made). Contains ms m) (entered q x.stretch) among);
    fills = λ p m e low among says. own.fills p m e low (subst (λ (ms : List Made). Contains ms m) (entered p x.stretch) among) says;
    asked = (
      it_on x own.asked.0,
      elim own.asked.1 [
        | inl none ↦ inl (record { pools = none.pools; roots = none.roots })
        | inr once ↦ inr (record {
          made = once.made;
          pool = once.pool;
          entry = once.entry;
          index = once.index;
          made_is = entered 4 x.stretch ∙ once.made_is;
          pools = once.pools;
          small = once.small;
          asked = once.asked;
          others = once.others;
          names = once.names;
          stands = once.stands;
        })
      ],
    );
    refused = λ j reg p size full op.
        let (low, at) = own.refused j reg p size full op in
        (low, record { made = at.made; entry = at.entry; stands = at.stands; says = at.says; line = at.line; full = at.full });
    uncuts = λ t among.
        let u = own.uncuts t (there x.stretch (Uncut t) tt among) in
        record {
          partition = u.partition;
          small = u.small;
          made = u.made;
          entry = u.entry;
          asked = u.asked;
          slot = u.slot;
          entered = subst (λ (ms : List Made). Contains ms u.made) (sym (entered u.partition x.stretch)) u.entered;
          says = u.says;
          act = u.act;
          names = u.names;
        };
    cells = cells_on x.played.op (lists 5) x own.cells;
  }

  acts_back : (o : Outcome) (x : ToldRecord) → ActsAreOf o (lengthened es x) → ActsAreOf o x
  acts_back o x acts p entries low is = acts p entries low (numbers_on p x.stretch ∙ is)

-- ---- an op and the settling after it

one_added : (k bytes : ℕ) → AreAdditions (addition k bytes)
one_added k zero = tt
one_added k (suc n) = tt

both_added : (xs ys : List Entry) → AreAdditions xs → AreAdditions ys → AreAdditions (xs ++ ys)
both_added [] ys first second = second
both_added (Counted t step found value ∷ xs) ys first second = absurd first
both_added (Looked t found ∷ xs) ys first second = absurd first
both_added (Read t place value since owned unclean ∷ xs) ys first second = absurd first
both_added (Added word bytes ∷ xs) ys first second = both_added xs ys first second
both_added (Entered keeper made ∷ xs) ys first second = absurd first
both_added (Uncut t ∷ xs) ys first second = absurd first

four_are_added : (p : ℕ) (o : Owed) → AreAdditions (four_added p o)
four_are_added p o =
    both_added (addition (4 * p) o.issued) _ (one_added (4 * p) o.issued)
    (both_added (addition (4 * p + 1) o.freed) _ (one_added (4 * p + 1) o.freed)
    (both_added (addition (4 * p + 2) o.entered) _ (one_added (4 * p + 2) o.entered) (one_added (4 * p + 3) o.left)))

module _ (leaves : SettleAllLeaves) (owed : List Owed) where
  added : AreAdditions (all_added owed)
  added =
      both_added (four_added 0 (owed_at owed 0)) _ (four_are_added 0 (owed_at owed 0))
      (both_added (four_added 1 (owed_at owed 1)) _ (four_are_added 1 (owed_at owed 1))
      (both_added (four_added 2 (owed_at owed 2)) _ (four_are_added 2 (owed_at owed 2)) (four_are_added 3 (owed_at owed 3))))

  fits_back : (o : Outcome) (n : ℕ) (v : View) (x : ToldRecord) → FitsRun o n (after_settle_all owed v) (lengthened (all_added owed) x) →
      FitsRun o n v x
  fits_back o n v x fits = record {
    many = fits.many;
    rules = fits.rules;
    run = fits.run;
    seen = record { roots = fits.seen.roots; pools = fits.seen.pools; exchanges = fits.seen.exchanges };
    acts = acts_back (all_added owed) added o x fits.acts;
  }

  does_on : (s mid : StockValue) (x : ToldRecord) → Does s mid x → least_stake mid.view.stakes ≡ mid.thread → CanSettleAll owed mid.view →
      Does s (record mid { view = after_settle_all owed mid.view }) (lengthened (all_added owed) x)
  does_on s mid x does mine can = record {
    thread = does.thread;
    same = does.same;
    version = does.version;
    stakes = λ k. left.stakes k ∙ does.stakes k;
    logs = λ k. logs k (k == s.thread) refl (does.logs k);
    lists = does.lists;
    seen = record {
      saw = does.seen.saw;
      knows = does.seen.knows;
      carries = λ m t among. does.seen.carries m t
          (subst (λ (ms : List Made). Contains ms m) (entered (all_added owed) added 5 x.stretch) among);
      steps = λ t step found value among. does.seen.steps t step found value
          (there (all_added owed) added x.stretch (Counted t step found value) tt among);
      looks = λ t found among. does.seen.looks t found (there (all_added owed) added x.stretch (Looked t found) tt among);
      grows = does.seen.grows;
    };
    enters = enters_on (all_added owed) added (λ k. list_of k mid.view) x does.enters;
    homes = λ p past low. elim (does.homes p past low) [
      | inl none ↦ inl (entered (all_added owed) added p x.stretch ∙ none)
      | inr seen ↦ inr seen
    ];
    owes = λ q. owed_still (all_added owed) added q x.stretch ∙ does.owes q;
    words = does.words;
    answers = λ o fits.
        let a = does.answers o (fits_back o s.partitions mid.view x fits) in
        record {
          told = told_on (all_added owed) added o.sizes x.played.op x.played.answer x.stretch a.told;
          row = a.row;
          reader = reader_on (all_added owed) added o.sizes (regs_of s.registers) x.played.op x a.reader;
          unmaps = a.unmaps;
          makes = λ p m e low among is. a.makes p m e low
              (subst (λ (ms : List Made). Contains ms m) (entered (all_added owed) added p x.stretch) among) is;
          home = a.home;
        };
  }
    where
      left : LeavesSettleAll owed mid.view (after_settle_all owed mid.view)
      left = leaves owed mid.view can

      logs : (k : ℕ) (b : Bool) → (k == s.thread) ≡ b → log_of k mid.view ≡ log_of k s.view ++ (if b then x.stretch else []) →
          log_of k (after_settle_all owed mid.view) ≡ log_of k s.view ++ (if b then (x.stretch ++ all_added owed) else [])
      logs k true is same =
          let own = does.same.0 in
          let here : least_stake mid.view.stakes ≡ k = grind (arith, nat_tests) in
          subst (λ (n : ℕ). log_of n (after_settle_all owed mid.view) ≡ log_of n mid.view ++ all_added owed) here left.log
          ∙ (ap (λ (l : List Entry). l ++ all_added owed) same ∙ append_assoc (log_of k s.view) x.stretch (all_added owed))
      logs k false is same =
          let own = does.same.0 in
          left.other_logs k (λ e. grind (arith, nat_tests)) ∙ same

-- ---- a worker that settles what it owes

-- what it booked stays
booked_on : SettleAllLeaves → (v : WorkerValue) → least_stake v.stock.view.stakes ≡ v.stock.thread → CanSettleAll v.owed v.stock.view →
    (p q : ℕ) → p < most_partitions → q < 4 → booked (settled_worker v) p q ≡ booked v p q
booked_on leaves v mine can p q low kind =
    let k = 4 * p + q in
    let left = leaves v.owed v.stock.view can in
    let after = after_settle_all v.owed v.stock.view in
    let log : log_of v.stock.thread after ≡ log_of v.stock.thread v.stock.view ++ all_added v.owed =
    subst (λ (n : ℕ). log_of n after ≡ log_of n v.stock.view ++ all_added v.owed) mine left.log in
    let a : sum_by (added_to k) (log_of v.stock.thread after) ≡ sum_by (added_to k)
    (log_of v.stock.thread v.stock.view ++ all_added v.owed) =
    ap (sum_by (added_to k)) log in
    let b = sum_by-append (added_to k) (log_of v.stock.thread v.stock.view) (all_added v.owed) in
    let c = left.adds p q low kind in
    let d : owed_to q (owed_at none_owed p) ≡ 0 = ap (owed_to q) (owed_at_none p) ∙ owed_none q in
    omega arith

module _ (leaves : SettleAllLeaves) where
  one_on : (w v : WorkerValue) (x : ToldRecord) → PlaysOne w v x → least_stake v.stock.view.stakes ≡ v.stock.thread →
      CanSettleAll v.owed v.stock.view →
      PlaysOne w (settled_worker v) (lengthened (all_added v.owed) x)
  one_on w v x one mine can = record {
    records = one.records;
    does = does_on leaves v.owed w.stock v.stock x one.does mine can;
    counts = λ o fits. one.counts o (fits_back leaves v.owed o w.stock.partitions v.stock.view x fits);
    bytes = λ o fits p q low kind.
        booked_on leaves v mine can p q low kind ∙
        one.bytes o (fits_back leaves v.owed o w.stock.partitions v.stock.view x fits) p q low kind;
  }

  -- what led the lists does so with additions at the end of its log segment
  leads_on : (w v : WorkerValue) (x : ToldRecord) → LeadsLists w.stock v.stock x →
      LeadsLists w.stock (settled_worker v).stock (lengthened (all_added v.owed) x)
  leads_on w v x leads = record {
    apart = λ t is.
        let (still, seen) = leads.apart t is in
        (record { free = still.free; off = still.off; well = still.well }, seen);
    signs = λ o fits. shapes_have_signs.settled o.partitions o.roots x (all_added v.owed) (added leaves v.owed)
        (leads.signs o (fits_back leaves v.owed o w.stock.partitions v.stock.view x fits));
    row = λ o fits. leads.row o (fits_back leaves v.owed o w.stock.partitions v.stock.view x fits);
  }

  all_on : (w v : WorkerValue) (x : ToldRecord) (xs : List ToldRecord) → PlaysAll w (x ∷ xs) v →
      least_stake v.stock.view.stakes ≡ v.stock.thread → CanSettleAll v.owed v.stock.view →
      PlaysAll w (last_lengthened (all_added v.owed) (x ∷ xs)) (settled_worker v)
  all_on w v x [] (next, one, leads, same) mine can = (
    settled_worker v,
    one_on w v x (subst (λ (z : WorkerValue). PlaysOne w z x) (sym same) one) mine can,
    leads_on w v x (subst (λ (z : WorkerValue). LeadsLists w.stock z.stock x) (sym same) leads),
    refl,
  )
  all_on w v x (y ∷ xs) (next, one, leads, more) mine can = (next, one, leads, all_on next v y xs more mine can)

same_records : (es : List Entry) (x : ToldRecord) (xs : List ToldRecord) → played_in (last_lengthened es (x ∷ xs)) ≡ played_in (x ∷ xs)
same_records es x [] = refl
same_records es x (y ∷ xs) = ap (λ l. x.played ∷ l) (same_records es y xs)

pub settling_ends : SettleAllLeaves → SettlingEndsPhase
settling_ends leaves w v x xs plays is stake =
    let least = least_is v.stock.thread v.stock.view is.stock.stake stake in
    (all_on leaves w v x xs plays least.0 (can_settle v.owed v.stock is.stock.stake stake is.covered), same_records (all_added v.owed) x xs)

pub settling_ends_turn : SettleAllLeaves → SettlingEndsTurn
settling_ends_turn leaves w v x one is stake =
    let least = least_is v.stock.thread v.stock.view is.stock.stake stake in (
      one_on leaves w v x one least.0 (can_settle v.owed v.stock is.stock.stake stake is.covered),
      λ o fits. fits_back leaves v.owed o w.stock.partitions v.stock.view x fits,
    )
