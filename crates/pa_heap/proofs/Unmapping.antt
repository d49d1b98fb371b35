-- A reset or a free does what it should if its direct map went back.
use Rattle.std.proofs.Common.{◌≡◌, ℕ, ◌+◌, ◌<◌, Bool, true, false, List, [], ◌∷◌, ◌++◌, length, map, Some, None, refl, sym, ◌∙◌, ap, subst, arith, inl, inr}
use Rattle.std.specs.Prelude.{◌==◌, Contains, filter, nat_lt, if◌then◌else◌}
use Rattle.std.proofs.lemmas.Bool.Decides.{nat_tests, eqb_tells}
use Rattle.pa_slot.specs.declared.title.Title.{Title}
use Rattle.pa_slot.specs.declared.word.SlotName.{SlotName}
use Rattle.pa_slot.specs.declared.word.Step.{Step}
use Rattle.pa_slot.specs.Count.{number_of}
use Rattle.pa_trace.specs.declared.script.Op.{Op}
use Rattle.pa_layout.specs.Pages.{supers_for}
use Rattle.pa_record.specs.declared.entry.Answer.TheVariants as answers
use Rattle.pa_record.specs.declared.numbered.Numbered.{Numbered}
use Rattle.pa_record.specs.declared.pool.PoolEntry.{PoolEntry}
use Rattle.pa_record.specs.declared.root.RootAct.{RootAct}
use Rattle.pa_record.specs.declared.root.RootEntry.{RootEntry}
use Rattle.pa_record.specs.declared.root.RootAct.TheVariants.{Unmap}
use Rattle.pa_record.specs.Numbers.{root_numbers}
use Rattle.pa_record.specs.Spans.{name_of}
use Rattle.pa_lists.proofs.Joined.{map_cases}
use Rattle.pa_lists.proofs.Members.{in_cases, not_in_none, first_in}
use Rattle.pa_region.specs.declared.view.Entry.{Entry}
use Rattle.pa_region.specs.declared.view.Entry.TheVariants.{Counted, Entered, Uncut}
use Rattle.pa_region.specs.declared.view.Made.{Made}
use Rattle.pa_region.specs.declared.view.View.{View}
use Rattle.pa_region.specs.Views.{seen_of}
use Rattle.pa_region.specs.Lists.{list_of}
use Rattle.pa_rules.specs.Played.{mark_at}
use Rattle.pa_rules.specs.Registers.{Row}
use Rattle.pa_rules.specs.Caches.{IsDirect, SameLists, acts_of, OnlyActs, unmap_at}
use Rattle.pa_rules.specs.Roots.{Journals, MakesEntry}
use Rattle.pa_rules.specs.declared.played.Played.{Played}
use Rattle.pa_lists.proofs.Parts.{parts_at}
use Rattle.pa_logs.proofs.Filters.{get_in}
use Rattle.pa_logs.specs.Told.{ToldRecord}
use Rattle.pa_logs.specs.Indices.{Enters, AskedOnce, asks}
use Rattle.pa_logs.specs.Standing.{Unmaps}
use Rattle.pa_pool.specs.Calls.{give_entry}
use Rattle.pa_root.specs.Handing.{UnmapTakes, at_number_seen, root_entry}
use Rattle.pa_cells.specs.declared.handle.Handle.{Handle}
use Rattle.pa_cells.specs.Handles.{HandsOut, HasSeenMade, SlotsStaySeen}
use Rattle.pa_step_order.specs.Signs.{Stepped, HasItsSigns}
use Rattle.pa_step_order.proofs.Shaping.{shapes_have_signs}
use Rattle.pa_op_specs.specs.Stocks.{StockRegister, StockValue, regs_of, listed_in}
use Rattle.pa_op_specs.specs.Outcomes.{Outcome, IsOutcome, IsSeenOf, row_facts, FillsFrom}
use Rattle.pa_op_specs.specs.Entering.{HasSeenSome}
use Rattle.pa_op_specs.specs.Plays.{KeepsApart, DoesOp, AnswersIn}
use Rattle.pa_op_specs.proofs.Seeing.{slot_in_run, home_of}
use Rattle.pa_thread_state.proofs.Looking.{seen_at}
use Rattle.pa_op_specs.proofs.Owing.{owes_done}
use Rattle.pa_op_specs.proofs.Quiet.{quiet_record}
use Rattle.pa_op_specs.proofs.Entered.{Entering, LineActs, SaysEntered, line_acts, acts_in, entered_some, entered_does, entering_both, makes_each, none_here, touched_enters, unmaps_next}
use Rattle.pa_delay.specs.Queue.{QueueList}
use Rattle.pa_heap.specs.Waiting.{HoldsQueue, DoesDelayed, lists_and_queue}
use Rattle.pa_heap.proofs.Apart.{KeepsOthers}
use Rattle.pa_heap.proofs.Returned.{HasReturned, left_at, seen_home, returned_leads, returned_delays, returned_apart, not_full, same_found}
use Rattle.pa_heap.proofs.Given.{step_no_uncut}
use Rattle.pa_heap.proofs.Beside.{same_waiting}

-- the slot of a handle without a class is a direct map in any run that fits
direct_in_run : (o : Outcome) (v : View) (h : Handle) → IsSeenOf o v → HasSeenMade h v → h.class ≡ None →
    IsDirect o.roots (name_of h.title) h.partition
direct_in_run o v h seen made direct =
    let (m, e, among, says, out) = made.entry in
    let parts = parts_at (list_of h.partition v) m among in
    let there = get_in (o.roots h.partition) (length parts.0) e (seen.roots h.partition parts.0 parts.1 m e made.partition parts.2 says) in
    let by : HandsOut None h.title e.act = subst (λ k. HandsOut k h.title e.act) direct out in
    (e, by.0, h.title.len, there, by.1)

-- the entries of the line are one that gives this direct map back, alone
abbrev pub ReturnsMap : Journals → Played → Numbered → Type 0
ReturnsMap roots x slot =
    (p asked number : ℕ) × IsDirect roots slot.slot p × OnlyActs roots x.line p (unmap_at asked slot.slot number ∷ [])

-- what the log segment has after its step
abbrev pub behind : Title → Made → ℕ → Made → List Entry
behind t pool p made = Uncut t ∷ Entered 4 pool ∷ Entered p made ∷ []

same_uncut : (t u : Title) → Uncut t ≡ Uncut u → t ≡ u
same_uncut t u e = cc

entered_no_uncut : (k : ℕ) (m : Made) (u : Title) → Entered k m ≡ Uncut u → ⊥
entered_no_uncut k m u e = cc

same_unmap : (a b : ℕ) (x y : Numbered) → Unmap a x ≡ Unmap b y → x ≡ y
same_unmap a b x y e = cc

module _ (stays : SlotsStaySeen) (op : Op) (step : Step) (h : Handle) (word line : ℕ) (s after : StockValue) (w : View)
    (rs : List StockRegister) (y note : View) (is : HasReturned op step h word s w rs) (direct : h.class ≡ None)
    (thread : after.thread ≡ s.thread) (partitions : after.partitions ≡ s.partitions) (plain : after.plain_from ≡ s.plain_from)
    (version : after.caches.version ≡ s.caches.version) (registers : after.registers ≡ rs)
    (takes : UnmapTakes s.thread h.partition line y after.view note h.title)
    (came : Entering s.thread line (behind h.title takes.enters.pool h.partition takes.enters.made) w after.view)
    (others : KeepsOthers h.title (record s { view = w; registers = rs }) after)
    (number : seen_of note h.title ≡ number_of word + 1)
    (lists : SameLists (listed_in after) (listed_in s)) where
  low : h.partition < 4
  low = is.made.partition

  abbrev pool : Made
  pool = takes.enters.pool

  abbrev made : Made
  made = takes.enters.made

  abbrev c : Entry
  c = Counted h.title step word 0

  abbrev es : List Entry
  es = Counted h.title step word 0 ∷ behind h.title takes.enters.pool h.partition takes.enters.made

  abbrev gave : PoolEntry
  gave = give_entry line h.partition (supers_for h.title.len) takes.first

  abbrev entry : RootEntry
  entry = root_entry line (Unmap takes.asked (at_number_seen note h.title))

  abbrev x : ℕ → ToldRecord
  x phase = quiet_record s after.view line phase op (answers.Done (seen_at h word)) es

  abbrev entries : ℕ → List RootEntry
  entries q = if q == h.partition then entry ∷ [] else []

  entered : (q : ℕ) (a b d : Bool) → q < 4 → (4 == q) ≡ a → (h.partition == q) ≡ b → (q == h.partition) ≡ d →
      map (λ (m : Made). m.numbers) ((if a then pool ∷ [] else []) ++ ((if b then made ∷ [] else []) ++ [])) ≡
      map root_numbers (if d then entry ∷ [] else [])
  entered q true b d lower e f g = absurd (let same : 4 ≡ q = grind (arith, nat_tests) in omega arith)
  entered q false true true lower e f g = ap (λ n. n ∷ []) takes.enters.is_made.says
  entered q false true false lower e f g = absurd (grind (arith, nat_tests))
  entered q false false true lower e f g = absurd (grind (arith, nat_tests))
  entered q false false false lower e f g = refl

  pool_entered : (a b : Bool) → (4 == 4) ≡ a → (h.partition == 4) ≡ b →
      (if a then pool ∷ [] else []) ++ ((if b then made ∷ [] else []) ++ []) ≡ pool ∷ []
  pool_entered true true e f = absurd (let same : h.partition ≡ 4 = grind (arith, nat_tests) in omega arith)
  pool_entered true false e f = refl
  pool_entered false b e f = absurd (grind (arith, nat_tests))

  made_entered : (b : Bool) → (4 == h.partition) ≡ b → (d : Bool) → (h.partition == h.partition) ≡ d →
      Contains ((if b then pool ∷ [] else []) ++ ((if d then made ∷ [] else []) ++ [])) made
  made_entered true e d f = absurd (let same : 4 ≡ h.partition = grind (arith, nat_tests) in omega arith)
  made_entered false e true f = first_in made []
  made_entered false e false f = absurd (grind (arith, nat_tests))

  abbrev it : (phase : ℕ) → Enters (x phase)
  it phase = record {
    roots = entries;
    pools = gave ∷ [];
    roots_are = λ q lower. entered q (4 == q) (h.partition == q) (q == h.partition) lower refl refl refl;
    pools_are = ap (λ (l : List Made). map (λ (m : Made). m.numbers) l) (pool_entered (4 == 4) (h.partition == 4) refl refl) ∙
        ap (λ n. n ∷ []) takes.enters.is_pool.says;
  }

  own : (b : Bool) → (h.partition == h.partition) ≡ b → (if b then entry ∷ [] else []) ≡ entry ∷ []
  own true e = refl
  own false e = absurd (grind (arith, nat_tests))

  other : (q : ℕ) (b : Bool) → (q == h.partition) ≡ b → (q ≡ h.partition → ⊥) → (if b then entry ∷ [] else []) ≡ []
  other q true e differs = absurd (differs (grind (arith, nat_tests)))
  other q false e differs = refl

  asked : (phase : ℕ) → AskedOnce (list_of 4 after.view) (x phase) (it phase)
  asked phase = record {
    made = pool;
    pool = gave;
    entry = entry;
    index = takes.asked;
    made_is = pool_entered (4 == 4) (h.partition == 4) refl refl;
    pools = refl;
    small = low;
    asked = ap (λ (l : List RootEntry). filter asks l) (own (h.partition == h.partition) refl);
    others = λ q differs. ap (λ (l : List RootEntry). filter asks l) (other q (q == h.partition) refl differs);
    names = refl;
    stands = record {
      older = takes.enters.is_pool.earlier;
      rest = takes.enters.is_pool.stands.0;
      begins = takes.enters.is_pool.stands.1;
      index_is = takes.enters.is_pool.index;
    };
  }

  uncut_is : (u : Title) → Contains es (Uncut u) → h.title ≡ u
  uncut_is u among = elim (in_cases c (Uncut u) (behind h.title pool h.partition made) among) [
    | inl same ↦ absurd (step_no_uncut h.title u step word 0 same)
    | inr later ↦ elim (in_cases (Uncut h.title) (Uncut u) (Entered 4 pool ∷ Entered h.partition made ∷ []) later) [
      | inl same ↦ same_uncut h.title u same
      | inr pools ↦ elim (in_cases (Entered 4 pool) (Uncut u) (Entered h.partition made ∷ []) pools) [
        | inl same ↦ absurd (entered_no_uncut 4 pool u same)
        | inr last ↦ elim (in_cases (Entered h.partition made) (Uncut u) [] last) [
          | inl same ↦ absurd (entered_no_uncut h.partition made u same)
          | inr none ↦ absurd (not_in_none (Uncut u) none)
        ]
      ]
    ]
  ]

  unmaps : (phase : ℕ) → Unmaps (x phase) h.title
  unmaps phase = record {
    partition = h.partition;
    small = low;
    made = made;
    entry = entry;
    asked = takes.asked;
    slot = at_number_seen note h.title;
    entered = made_entered (4 == h.partition) refl (h.partition == h.partition) refl;
    says = takes.enters.is_made.says;
    act = refl;
    names = refl;
  }

  in_one : (q : ℕ) (b : Bool) (e : RootEntry) → Contains (if b then entry ∷ [] else []) e → entry ≡ e
  in_one q true e among = elim (in_cases entry e [] among) [ inl same ↦ same | inr none ↦ absurd (not_in_none e none) ]
  in_one q false e among = absurd (not_in_none e among)

  at_step : (phase : ℕ) (o : Outcome) → LineActs o (x phase) (it phase) → (q asked : ℕ) (slot : Numbered) →
      Contains (acts_of o.roots line q) (Unmap asked slot) →
      slot.number ≡ number_of word + 1
  at_step phase o line_acts q index slot among = go (nat_lt q 4) refl
    where
      go : (b : Bool) → nat_lt q 4 ≡ b → slot.number ≡ number_of word + 1
      go true lower =
          let there = subst (λ done. Contains done (Unmap index slot)) (line_acts.here q (grind (arith, nat_tests))) among in
          let (e, inside, act) = map_cases (λ (f : RootEntry). f.act) (entries q) (Unmap index slot) there in
          let same = ap (λ (f : RootEntry). f.act) (in_one q (q == h.partition) e inside) ∙ act in
          sym (ap (λ (n : Numbered). n.number) (same_unmap takes.asked index (at_number_seen note h.title) slot same)) ∙ number
      go false higher =
          absurd (not_in_none (Unmap index slot)
          (subst (λ done. Contains done (Unmap index slot)) (line_acts.past q (grind (arith, nat_tests))) among))

  abbrev unmap : RootAct
  unmap = Unmap takes.asked (at_number_seen note h.title)

  seen_made : HasSeenMade h after.view
  seen_made = stays h w after.view is.made (came.lists h.partition)

  only_in : (phase : ℕ) (o : Outcome) → LineActs o (x phase) (it phase) → OnlyActs o.roots line h.partition (unmap ∷ [])
  only_in phase o line_acts = (
    line_acts.here h.partition low ∙ ap acts_in (own (h.partition == h.partition) refl),
    λ q differs. none_here o (x phase) (it phase) line_acts q (other q (q == h.partition) refl differs),
  )

  -- the map goes back alone
  direct_in : (phase : ℕ) (o : Outcome) → IsSeenOf o after.view → LineActs o (x phase) (it phase) →
      ReturnsMap o.roots (x phase).played (left_at h word)
  direct_in phase o sees line_acts =
      (h.partition, takes.asked, seen_of note h.title, direct_in_run o after.view h sees seen_made direct, only_in phase o line_acts)

  signs_in : (phase : ℕ) (o : Outcome) → IsOutcome o → LineActs o (x phase) (it phase) → HasItsSigns o.partitions o.roots (x phase)
  signs_in phase o run line_acts =
      ap (λ ys. Stepped ∷ ys)
      (shapes_have_signs.asked line h.partition takes.asked unmap pool made low takes.enters.is_made.says refl
      ∙ shapes_have_signs.only o.partitions line h.partition o.roots (unmap ∷ []) run.past (only_in phase o line_acts))

  answers_in : (phase : ℕ) (o : Outcome) → IsOutcome o → IsSeenOf o after.view →
      LineActs o (x phase) (it phase) → AnswersIn o s after (x phase)
  answers_in phase o run sees line_acts =
      let slot = slot_in_run o after.view h run sees seen_made in
      record {
        told = is.told o.sizes es ([], tt, ap (λ u. Counted u step word 0 ∷ []) (sym slot.title));
        row = subst (λ r. Row (row_facts o) op (regs_of s.registers) (answers.Done (seen_at h word)) (regs_of r))
            (sym registers) (is.row o);
        reader = is.reader o (x phase);
        unmaps = unmaps_next o.roots (x phase).played
            (λ q asked slot among seen done. at_step phase o line_acts q asked slot among ∙
            ap (λ n. number_of n + 1) (same_found h word seen done));
        makes = makes_each (x phase) (it phase) o.pools
            (λ q e lower among. subst (λ (f : RootEntry). MakesEntry o.pools q f.act (x phase).played)
            (in_one q (q == h.partition) e among) is.freeing);
        home = λ m e. (
          h.partition,
          home_of o h.partition (mark_at line (seen_at h word) (Some step)) m (sym (is.mark line) ∙ e) slot.size,
        );
      }

  entering : Entering s.thread line es s.view after.view
  entering = entering_both s.thread line (c ∷ []) (behind h.title pool h.partition made) s.view w after.view
      (touched_enters s.thread line (c ∷ []) s.view w is.touched) came

  apart : KeepsApart s after
  apart = returned_apart op step h word s after w rs is others

  abbrev says : (phase : ℕ) → SaysEntered s after (quiet_record s after.view line phase op (answers.Done (seen_at h word)) es)
  says phase = record {
    cells = λ list none. is.cells list (x phase) none;
    it = it phase;
    fills = λ q e lower among. subst (λ (f : RootEntry). FillsFrom s.caches.version f.act) (in_one q (q == h.partition) e among) tt;
    asked = inr (asked phase);
    refused = λ j r q size full asks. absurd (not_full (seen_at h word) j full);
    uncuts = λ u among. subst (λ z. Unmaps (x phase) z) (uncut_is u among) (unmaps phase);
    homes = λ q past. elim (eqb_tells q h.partition) [
      | inl same ↦ inr (subst (λ k. HasSeenSome s.thread k s.view) (sym same.1) (seen_home op step h word s w rs is))
      | inr differs ↦ inl (other q (q == h.partition) refl differs.1)
    ];
    owes = owes_done s.registers op (seen_at h word) h.title.len es (is.told (λ (n : SlotName). h.title.len) es ([], tt, refl)) is.long;
    words = λ refused. absurd refused;
    answers = λ o run many rules sees line_acts. answers_in phase o run sees line_acts;
  }

  pub unmap_does : DoesOp line op (answers.Done (seen_at h word)) s after
  unmap_does = entered_does s after line op (answers.Done (seen_at h word)) es thread partitions plain version entering apart says
      (λ phase o run many rules sees line_acts.
      let (q, index, n, is_direct, only) = direct_in phase o sees line_acts in (
        signs_in phase o run line_acts,
        returned_leads op step h word s w rs is o.partitions line phase o.roots (listed_in s) (listed_in after)
            (inr (q, index, n, is_direct, only, lists)),
      ))

  -- the same if returned slots wait: the queue is as it was
  pub unmap_delays : (queue : QueueList) → HoldsQueue queue.slots s →
      DoesDelayed line op (answers.Done (seen_at h word)) s queue after queue
  unmap_delays queue holds phase =
      let (does, adds) = entered_some s after line phase op (answers.Done (seen_at h word)) es thread partitions plain version entering
      (says phase) in (
        x phase,
        refl,
        does,
        adds,
        λ o fits.
            let (q, index, n, is_direct, only) =
            direct_in phase o fits.seen (line_acts o (x phase) (it phase) fits.run fits.acts) in
            returned_delays op step h word s w rs is o.partitions line phase o.roots queue.limit (lists_and_queue s queue.slots)
            (lists_and_queue after queue.slots)
            (inr (q, index, n, is_direct, only, (lists, same_waiting queue.slots s after holds apart))),
      )
