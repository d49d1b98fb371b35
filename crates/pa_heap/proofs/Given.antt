-- A reset or a free does what it should if its step was followed by giving slots back.
use Rattle.std.proofs.Common.{◌≡◌, ℕ, ◌<◌, ◌≤◌, ◌⊎◌, Bool, true, false, List, [], ◌∷◌, map, Some, None, refl, sym, ◌∙◌, ap, subst, arith, inl, inr}
use Rattle.std.specs.Prelude.{◌==◌, Contains, filter, nat_lt, if◌then◌else◌}
use Rattle.std.proofs.lemmas.Bool.Decides.{nat_tests, eqb_tells}
use Rattle.pa_slot.specs.declared.title.Title.{Title}
use Rattle.pa_slot.specs.declared.word.SlotName.{SlotName}
use Rattle.pa_slot.specs.declared.word.Step.{Step}
use Rattle.pa_trace.specs.declared.script.Op.{Op}
use Rattle.pa_trace.specs.Limits.{most_partitions}
use Rattle.pa_record.specs.declared.entry.Answer.TheVariants as answers
use Rattle.pa_record.specs.declared.numbered.Numbered.{Numbered}
use Rattle.pa_record.specs.declared.root.RootAct.{RootAct}
use Rattle.pa_record.specs.declared.root.RootEntry.{RootEntry}
use Rattle.pa_record.specs.declared.root.RootAct.TheVariants.{Give, Unmap, Purge}
use Rattle.pa_record.specs.Numbers.{root_numbers}
use Rattle.pa_record.specs.Root.{asked_by}
use Rattle.pa_lists.proofs.Joined.{map_cases}
use Rattle.pa_lists.proofs.Members.{in_cases, not_in_none, first_in, later_in}
use Rattle.pa_region.specs.declared.view.Entry.{Entry}
use Rattle.pa_region.specs.declared.view.Entry.TheVariants.{Counted, Entered, Uncut}
use Rattle.pa_region.specs.declared.view.Made.{Made}
use Rattle.pa_region.specs.declared.view.View.{View}
use Rattle.pa_region.specs.Lists.{list_of, entered_in}
use Rattle.pa_rules.specs.Played.{mark_at}
use Rattle.pa_rules.specs.Registers.{Row}
use Rattle.pa_rules.specs.Caches.{CacheRow, SameLists, acts_of, gives, kept, spilled, with_list, OnlyActs}
use Rattle.pa_rules.specs.Roots.{MakesEntry}
use Rattle.pa_logs.specs.Told.{ToldRecord}
use Rattle.pa_logs.specs.Touches.{is_touch, touches}
use Rattle.pa_logs.specs.Indices.{Enters, asks}
use Rattle.pa_root.specs.Handing.{root_entry}
use Rattle.pa_step_order.specs.Signs.{Stepped, HasItsSigns}
use Rattle.pa_step_order.specs.Shapes.{numbers_on}
use Rattle.pa_step_order.proofs.Shaping.{shapes_have_signs}
use Rattle.pa_cells.specs.declared.handle.Handle.{Handle}
use Rattle.pa_cells.specs.Handles.{SlotsStaySeen}
use Rattle.pa_op_specs.specs.Stocks.{StockRegister, StockValue, regs_of, listed_in, rules_at}
use Rattle.pa_op_specs.specs.Outcomes.{Outcome, IsOutcome, IsSeenOf, row_facts, FillsFrom}
use Rattle.pa_rules.specs.Sizes.{HasClass}
use Rattle.pa_trace.specs.declared.script.Rules.{Rules}
use Rattle.pa_op_specs.specs.Plays.{DoesOp, AnswersIn}
use Rattle.pa_op_specs.proofs.Seeing.{IsSlotIn, slot_in_run, home_of}
use Rattle.pa_thread_state.proofs.Looking.{seen_at}
use Rattle.pa_op_specs.proofs.Owing.{owes_done}
use Rattle.pa_op_specs.proofs.Quiet.{quiet_record}
use Rattle.pa_op_specs.proofs.Batches.{in_gives, acts_back, act_among}
use Rattle.pa_op_specs.proofs.Entered.{Entering, LineActs, SaysEntered, entered_does, entered_here, entered_elsewhere, entering_both, makes_each, touched_enters, unmaps_next}
use Rattle.pa_heap.proofs.Apart.{KeepsOthers}
use Rattle.pa_heap.proofs.Returned.{HasReturned, left_at, seen_some, returned_leads, returned_apart, not_full}

-- entries of lists touch nothing, and none says that a title was uncut
pub entered_quiet : (p : ℕ) (ms : List Made) → filter is_touch (map (Entered p) ms) ≡ []
entered_quiet p [] = refl
entered_quiet p (m ∷ ms) = entered_quiet p ms

pub no_uncut : (p : ℕ) (ms : List Made) (t : Title) → Contains (map (Entered p) ms) (Uncut t) → ⊥
no_uncut p ms t among = let (m, there, is) = map_cases (Entered p) ms (Uncut t) among in differ m is
  where
    differ : (m : Made) → Entered p m ≡ Uncut t → ⊥
    differ m e = cc

pub step_no_uncut : (t u : Title) (step : Step) (word value : ℕ) → Counted t step word value ≡ Uncut u → ⊥
step_no_uncut t u step word value e = cc

-- the numbers of entries that were made of acts
pub numbers_again : (line : ℕ) (acts : List RootAct) → map root_numbers (map (root_entry line) acts) ≡ map (numbers_on line) acts
numbers_again line [] = refl
numbers_again line (act ∷ acts) = ap (λ ns. numbers_on line act ∷ ns) (numbers_again line acts)

-- a give names no entry of the pool
pub gives_name_none : (xs : List Numbered) (act : RootAct) → Contains (gives xs) act → asked_by act ≡ None
gives_name_none xs act among = let (slots, is) = in_gives xs act among in ap asked_by is

-- a give, or a purge of a root
abbrev pub IsGiveOrPurge : RootAct → Type 0
IsGiveOrPurge act = ((slots : List Numbered) × (act ≡ Give slots)) ⊎ (act ≡ Purge)

-- none of them asks the pool
pub none_asks : (line : ℕ) (acts : List RootAct) → ((act : RootAct) → Contains acts act → IsGiveOrPurge act) →
    filter asks (map (root_entry line) acts) ≡ []
none_asks line [] each = refl
none_asks line (act ∷ acts) each = go (each act (first_in act acts)) (none_asks line acts (λ a among. each a (later_in act a acts among)))
  where
    go : IsGiveOrPurge act → filter asks (map (root_entry line) acts) ≡ [] → filter asks (map (root_entry line) (act ∷ acts)) ≡ []
    go (inl (slots, give)) later = subst (λ a. filter asks (map (root_entry line) (a ∷ acts)) ≡ []) (sym give) later
    go (inr purge) later = subst (λ a. filter asks (map (root_entry line) (a ∷ acts)) ≡ []) (sym purge) later

-- ---- slots are given, of whichever partitions

-- What was done after the step, by the entries that the log of the seat's stake got besides: slots were given back, in journals of which
-- the seat had seen an entry. None of these entries is a touch.
pub record GivesAfter (line : ℕ) (stretch : List Entry) (acts : ℕ → List RootAct) (s : StockValue) (after : View) : Type 0 where
  pub enters : Entering s.thread line stretch s.view after
  pub says : (q : ℕ) → map (λ (m : Made). m.numbers) (entered_in q stretch) ≡ map root_numbers (map (root_entry line) (acts q))
  pub past : (q : ℕ) → most_partitions ≤ q → acts q ≡ []
  pub gives : (q : ℕ) (act : RootAct) → Contains (acts q) act → (slots : List Numbered) × (act ≡ Give slots)
  pub homes : (q : ℕ) → (acts q ≡ []) ⊎ ((m : Made) × Contains (list_of q s.view) m)
  pub quiet : touches stretch ≡ []
  pub uncut : (t : Title) → Contains stretch (Uncut t) → ⊥

module _ (stays : SlotsStaySeen) (op : Op) (step : Step) (h : Handle) (word line : ℕ) (s after : StockValue) (w : View)
    (rs : List StockRegister) (stretch : List Entry) (acts : ℕ → List RootAct) (is : HasReturned op step h word s w rs)
    (gave : GivesAfter line stretch acts (record s { view = w; registers = rs }) after.view) (registers : after.registers ≡ rs) where
  abbrev c : Entry
  c = Counted h.title step word 0

  abbrev x : ℕ → ToldRecord
  x phase = quiet_record s after.view line phase op (answers.Done (seen_at h word)) (Counted h.title step word 0 ∷ stretch)

  -- the log got the step, and then what was given
  pub return_enters : Entering s.thread line (Counted h.title step word 0 ∷ stretch) s.view after.view
  return_enters = entering_both s.thread line (c ∷ []) stretch s.view w after.view
      (touched_enters s.thread line (c ∷ []) s.view w is.touched) gave.enters

  -- what it entered
  abbrev pub return_entered : (phase : ℕ) →
      Enters (quiet_record s after.view line phase op (answers.Done (seen_at h word)) (Counted h.title step word 0 ∷ stretch))
  return_entered phase = record {
    roots = λ q. map (root_entry line) (acts q);
    pools = [];
    roots_are = λ q lower. gave.says q;
    pools_are = gave.says 4 ∙ ap (λ done. map root_numbers (map (root_entry line) done)) (gave.past 4 (omega arith));
  }

  -- in a run the acts of its line are those gives
  pub return_acts : (phase : ℕ) (o : Outcome) → LineActs o (x phase) (return_entered phase) → (q : ℕ) → acts_of o.roots line q ≡ acts q
  return_acts phase o line_acts q = go (nat_lt q 4) refl
    where
      go : (b : Bool) → nat_lt q 4 ≡ b → acts_of o.roots line q ≡ acts q
      go true lower = line_acts.here q (grind (arith, nat_tests)) ∙ acts_back line (acts q)
      go false higher = line_acts.past q (grind (arith, nat_tests)) ∙ sym (gave.past q (grind (arith, nat_tests)))

  give_each : (q : ℕ) (e : RootEntry) → Contains (map (root_entry line) (acts q)) e → (slots : List Numbered) × (e.act ≡ Give slots)
  give_each q e among = gave.gives q e.act (act_among line (acts q) e among)

  no_unmap : (slots : List Numbered) (act : RootAct) (asked : ℕ) (slot : Numbered) → act ≡ Give slots → act ≡ Unmap asked slot → ⊥
  no_unmap slots act asked slot a b = differ (sym a ∙ b)
    where
      differ : Give slots ≡ Unmap asked slot → ⊥
      differ e = cc

  none_unmaps : (phase : ℕ) (o : Outcome) → LineActs o (x phase) (return_entered phase) → (q asked : ℕ) (slot : Numbered) →
      Contains (acts_of o.roots line q) (Unmap asked slot) → ⊥
  none_unmaps phase o line_acts q asked slot among =
      let (slots, give) =
      gave.gives q (Unmap asked slot) (subst (λ done. Contains done (Unmap asked slot)) (return_acts phase o line_acts q) among) in
      no_unmap slots (Unmap asked slot) asked slot give refl

  -- the slot, in a run that has what the seat has seen
  pub return_slot : (o : Outcome) → IsOutcome o → IsSeenOf o after.view → IsSlotIn o h
  return_slot o run sees = slot_in_run o after.view h run sees (stays h w after.view is.made (gave.enters.lists h.partition))

  answers_in : (phase : ℕ) (o : Outcome) → IsOutcome o → IsSeenOf o after.view → LineActs o (x phase) (return_entered phase) →
      AnswersIn o s after (x phase)
  answers_in phase o run sees line_acts =
      let slot = return_slot o run sees in
      record {
        told = is.told o.sizes (Counted h.title step word 0 ∷ stretch) (
          [],
          tt,
          ap (λ fs. Counted h.title step word 0 ∷ fs) gave.quiet ∙ ap (λ u. Counted u step word 0 ∷ []) (sym slot.title),
        );
        row = subst (λ r. Row (row_facts o) op (regs_of s.registers) (answers.Done (seen_at h word)) (regs_of r))
            (sym registers) (is.row o);
        reader = is.reader o (x phase);
        unmaps = unmaps_next o.roots (x phase).played
            (λ q asked slot among seen done. absurd (none_unmaps phase o line_acts q asked slot among));
        makes = makes_each (x phase) (return_entered phase) o.pools
            (λ q e lower among. let (slots, give) = give_each q e among in
            subst (λ act. MakesEntry o.pools q act (x phase).played) (sym give) (inl is.freeing));
        home = λ m e. (
          h.partition,
          home_of o h.partition (mark_at line (seen_at h word) (Some step)) m (sym (is.mark line) ∙ e) slot.size,
        );
      }

  -- all that the op says but of its thread's lists
  pub return_says : (phase : ℕ) →
      SaysEntered s after (quiet_record s after.view line phase op (answers.Done (seen_at h word)) (Counted h.title step word 0 ∷ stretch))
  return_says phase = record {
    cells = λ list none. is.cells list (x phase) none;
    it = return_entered phase;
    fills = λ q e lower among. let (slots, give) = give_each q e among in subst (FillsFrom s.caches.version) (sym give) tt;
    asked = inl (record { pools = refl; roots = λ q. none_asks line (acts q) (λ act among. inl (gave.gives q act among)) });
    refused = λ j r q size full asks. absurd (not_full (seen_at h word) j full);
    uncuts = λ t among. elim (in_cases c (Uncut t) stretch among) [
      | inl same ↦ absurd (step_no_uncut h.title t step word 0 same)
      | inr later ↦ absurd (gave.uncut t later)
    ];
    homes = λ q past. elim (gave.homes q) [
      | inl none ↦ inl (ap (map (root_entry line)) none)
      | inr some ↦ inr (seen_some op step h word s w rs is q some.0 some.1)
    ];
    owes = owes_done s.registers op (seen_at h word) h.title.len (Counted h.title step word 0 ∷ stretch)
        (is.told (λ (n : SlotName). h.title.len) (Counted h.title step word 0 ∷ stretch) ([], tt, ap (λ fs. c ∷ fs) gave.quiet)) is.long;
    words = λ refused. absurd refused;
    answers = λ o run many rules sees line_acts. answers_in phase o run sees line_acts;
  }

-- ---- slots of one partition are given

-- If slots were given back, all else that is free and on no list stayed so, and the lists are as the row asks.
pub gives_does : SlotsStaySeen →
    (op : Op) (step : Step) (h : Handle) (class word line : ℕ) (s after : StockValue) (w : View) (rs : List StockRegister)
    (ms : List Made) (gone : List Numbered) → HasReturned op step h word s w rs → h.class ≡ Some class →
    after.thread ≡ s.thread → after.partitions ≡ s.partitions → after.plain_from ≡ s.plain_from →
    after.caches.version ≡ s.caches.version → after.registers ≡ rs →
    Entering s.thread line (map (Entered h.partition) ms) w after.view →
    KeepsOthers h.title (record s { view = w; registers = rs }) after →
    map (λ (m : Made). m.numbers) ms ≡ map root_numbers (map (root_entry line) (gives gone)) →
    (HasClass s.caches.version class → (gone ≡ spilled class (left_at h word ∷ listed_in s h.partition class))
    × SameLists (listed_in after)
    (with_list (listed_in s) h.partition class (kept class (left_at h word ∷ listed_in s h.partition class)))) →
    DoesOp line op (answers.Done (seen_at h word)) s after
unfolding return_says
gives_does stays op step h class word line s after w rs ms gone is of thread partitions plain version registers came others says lists =
    entered_does s after line op (answers.Done (seen_at h word)) (Counted h.title step word 0 ∷ stretch) thread partitions plain version
    (return_enters stays op step h word line s after w rs stretch acts is gave registers)
    (returned_apart op step h word s after w rs is others)
    (return_says stays op step h word line s after w rs stretch acts is gave registers)
    (λ phase o run many rules sees line_acts.
    let only = only_in phase o line_acts in
    (signs_in phase o run only, leads_in phase o run rules sees only))
  where
    low : h.partition < 4
    low = is.made.partition

    stretch : List Entry
    stretch = map (Entered h.partition) ms

    acts : ℕ → List RootAct
    acts q = if q == h.partition then gives gone else []

    here : acts h.partition ≡ gives gone
    here = go (h.partition == h.partition) refl
      where
        go : (b : Bool) → (h.partition == h.partition) ≡ b → (if b then gives gone else []) ≡ gives gone
        go true e = refl
        go false e = absurd (grind (arith, nat_tests))

    elsewhere : (q : ℕ) → (q ≡ h.partition → ⊥) → acts q ≡ []
    elsewhere q differs = go (q == h.partition) refl
      where
        go : (b : Bool) → (q == h.partition) ≡ b → (if b then gives gone else []) ≡ []
        go true e = absurd (differs (grind (arith, nat_tests)))
        go false e = refl

    entered : (q : ℕ) (b : Bool) → (q == h.partition) ≡ b →
        map (λ (m : Made). m.numbers) (entered_in q (map (Entered h.partition) ms)) ≡
        map root_numbers (map (root_entry line) (if b then gives gone else []))
    entered q true e =
        let same : q ≡ h.partition = grind (arith, nat_tests) in
        ap (λ (l : List Made). map (λ (m : Made). m.numbers) l)
        (ap (λ k. entered_in k (map (Entered h.partition) ms)) same ∙ entered_here h.partition ms) ∙ says
    entered q false e =
        ap (λ (l : List Made). map (λ (m : Made). m.numbers) l) (entered_elsewhere h.partition q ms (λ same. grind (arith, nat_tests)))

    each : (q : ℕ) (b : Bool) (act : RootAct) → Contains (if b then gives gone else []) act → (slots : List Numbered) × (act ≡ Give slots)
    each q true act among = in_gives gone act among
    each q false act among = absurd (not_in_none act among)

    gave : GivesAfter line stretch acts (record s { view = w; registers = rs }) after.view
    gave = record {
      enters = came;
      says = λ q. entered q (q == h.partition) refl;
      past = λ q past. elsewhere q (λ same. omega arith);
      gives = λ q act among. each q (q == h.partition) act among;
      homes = λ q. elim (eqb_tells q h.partition) [
        | inl same ↦ inr (subst (λ k. (m : Made) × Contains (list_of k w) m) (sym same.1)
            (is.made.entry.0, is.made.entry.2))
        | inr differs ↦ inl (elsewhere q differs.1)
      ];
      quiet = entered_quiet h.partition ms;
      uncut = λ t among. no_uncut h.partition ms t among;
    }

    only_in : (phase : ℕ) (o : Outcome) →
        LineActs o (quiet_record s after.view line phase op (answers.Done (seen_at h word)) (Counted h.title step word 0 ∷ stretch))
        (return_entered stays op step h word line s after w rs stretch acts is gave registers phase) →
        OnlyActs o.roots line h.partition (gives gone)
    only_in phase o line_acts = (
      return_acts stays op step h word line s after w rs stretch acts is gave registers phase o line_acts h.partition ∙ here,
      λ q differs. return_acts stays op step h word line s after w rs stretch acts is gave registers phase o line_acts q
          ∙ elsewhere q differs,
    )

    leads_in : (phase : ℕ) (o : Outcome) → IsOutcome o → rules_at s ≡ o.rules → IsSeenOf o after.view →
        OnlyActs o.roots line h.partition (gives gone) →
        CacheRow o.partitions o.roots
        (quiet_record s after.view line phase op (answers.Done (seen_at h word)) (Counted h.title step word 0 ∷ stretch)).played
        (answers.Done (seen_at h word)) (listed_in s) (listed_in after)
    leads_in phase o run rules sees only =
        let slot = return_slot stays op step h word line s after w rs stretch acts is gave registers o run sees in
        let real : HasClass s.caches.version class = subst (λ (k : Rules). HasClass k.version class) (sym rules) (slot.real class of) in
        let row_is = lists real in
        returned_leads op step h word s w rs is o.partitions line phase o.roots (listed_in s) (listed_in after) (inl (
          h.partition,
          class,
          slot.class class of,
          subst (λ xs. OnlyActs o.roots line h.partition (gives xs)) row_is.0 only,
          row_is.1,
        ))

    signs_in : (phase : ℕ) (o : Outcome) → IsOutcome o → OnlyActs o.roots line h.partition (gives gone) →
        HasItsSigns o.partitions o.roots
        (quiet_record s after.view line phase op (answers.Done (seen_at h word)) (Counted h.title step word 0 ∷ stretch))
    signs_in phase o run only =
        ap (λ ys. Stepped ∷ ys)
        (shapes_have_signs.entries line h.partition ms (gives gone) low (says ∙ numbers_again line (gives gone)) (gives_name_none gone)
        ∙ shapes_have_signs.only o.partitions line h.partition o.roots (gives gone) run.past only)
