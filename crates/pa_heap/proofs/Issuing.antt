-- An issue of a free title to a register: what the op says, whatever came before.
use Rattle.std.proofs.Common.{Bool, true, false, ◌≡◌, ℕ, ◌+◌, ◌-◌, ◌<◌, ◌≤◌, ◌⊎◌, List, [], ◌∷◌, ◌++◌, length, Some, refl, sym, ◌∙◌, ap, subst, arith, inl, inr}
use Rattle.std.specs.Prelude.{Contains, slice_set}
use Rattle.std.proofs.lemmas.List.{append-nil, get_or-set_same}
use Rattle.std.proofs.lemmas.List.Elements.{Contains-append_cases, filter-append, filter_map-append}
use Rattle.pa_slot.specs.declared.title.Title.{Title}
use Rattle.pa_slot.specs.declared.word.Step.TheVariants as steps
use Rattle.pa_slot.specs.Count.{number_of}
use Rattle.pa_direct.specs.Shapes.{greatest_size}
use Rattle.pa_trace.specs.declared.script.Op.{Op}
use Rattle.pa_trace.specs.declared.script.Op.TheVariants as ops
use Rattle.pa_record.specs.declared.entry.Seen.{Seen}
use Rattle.pa_record.specs.declared.entry.Answer.{Answer}
use Rattle.pa_record.specs.declared.entry.Answer.TheVariants as answers
use Rattle.pa_record.specs.declared.pool.PoolEntry.{PoolEntry}
use Rattle.pa_record.specs.declared.root.RootAct.{RootAct}
use Rattle.pa_record.specs.Spans.{name_of}
use Rattle.pa_lists.proofs.Members.{in_cases, not_in_none}
use Rattle.pa_region.specs.declared.view.Entry.{Entry}
use Rattle.pa_region.specs.declared.view.Entry.TheVariants.{Counted, Uncut}
use Rattle.pa_region.specs.declared.view.View.{View}
use Rattle.pa_region.specs.Views.{seen_of}
use Rattle.pa_region.specs.Lists.{list_of, list_among, entered_in}
use Rattle.pa_region.specs.Moves.{CanCount, IsFound}
use Rattle.pa_region.specs.Leaves.{CountLeaves, SealedLeaves, LeavesCount}
use Rattle.pa_quarantine.specs.Filling.{zeroed}
use Rattle.pa_rules.specs.declared.played.Played.{Played}
use Rattle.pa_rules.specs.declared.register.Register.TheVariants as reg
use Rattle.pa_rules.specs.Played.{mark_at}
use Rattle.pa_rules.specs.Registers.{Facts, Regs, with, Becomes, AllocRow, RequestRow}
use Rattle.pa_rules.specs.Caches.{Cache, SameLists, OnlyActs, MadeRow}
use Rattle.pa_rules.specs.Roots.{Journals, MakesEntry}
use Rattle.pa_rules.specs.Sizes.{usable_of}
use Rattle.pa_trace.specs.declared.script.Rules.{Rules}
use Rattle.pa_logs.specs.Indices.{AskedNone, AskedOnce}
use Rattle.pa_logs.specs.Touches.{is_touch, touches}
use Rattle.pa_cells.specs.declared.handle.Handle.{Handle}
use Rattle.pa_cells.specs.Handles.{is_plain}
use Rattle.pa_rules.specs.declared.register.Register.TheVariants.{Empty, Own, Ref, Freed, Cleared}
use Rattle.pa_step_order.specs.Signs.{Stepped, sign_of}
use Rattle.pa_step_order.proofs.Shaping.{shapes_have_signs}
use Rattle.pa_op_specs.specs.Stocks.{StockRegister, StockValue, IsStock, HasNoHandle, register_in, as_reg, regs_of, titles_in, listed_in, WorkerLists}
use Rattle.pa_op_specs.specs.Workers.{HasItsStake}
use Rattle.pa_op_specs.specs.Outcomes.{FillsFrom, row_facts}
use Rattle.pa_op_specs.specs.Owing.{IsMadeIn}
use Rattle.pa_thread_state.specs.Changes.{IsBack}
use Rattle.pa_thread_state.specs.Allocating.{Issues, after_issue}
use Rattle.pa_op_specs.specs.Plays.{IsApart, KeepsApart, DoesOp}
use Rattle.pa_op_specs.proofs.Registers.{regs_set}
use Rattle.pa_op_specs.proofs.Seeing.{made_kept, slot_in_run, home_of, more_seen, same_seen, now_seen}
use Rattle.pa_op_specs.proofs.Touching.{entry_logs}
use Rattle.pa_op_specs.proofs.Stakes.{least_is}
use Rattle.pa_thread_state.proofs.Looking.{seen_at}
use Rattle.pa_op_specs.proofs.Owing.{owes_made}
use Rattle.pa_op_specs.proofs.Quiet.{quiet_record, same_titles}
use Rattle.pa_op_specs.proofs.Entered.{Entering, TellsOf, entering_both, entered_does, makes_each}
use Rattle.pa_op_specs.proofs.AskedFor.{Asks, it_asks, only_acts, act_at, root_elsewhere}
use Rattle.pa_thread_state.proofs.Issuing.{issued, issued_view, issue_leaves, issue_still, not_listed}
use Rattle.pa_heap.proofs.Apart.{KeepsOthers, apart_both}
use Rattle.pa_logs.proofs.Listing.{entered_append}

-- what the step leaves of the view before the zeros
pub issued_enters : CountLeaves → SealedLeaves → (s : StockValue) (line word : ℕ) (plain : Bool) (t : Title) → IsStock s → HasItsStake s →
    CanCount steps.Issue t (zeroed t s.view) → IsFound t word (zeroed t s.view) →
    Entering s.thread line (Counted t steps.Issue word 0 ∷ []) s.view (issued_view plain s.view t word)
issued_enters counts seals s line word plain t is stake can found =
    let w = issued_view plain s.view t word in
    let leaves = issue_leaves counts seals plain t word (zeroed t s.view) can in
    record {
      logs = λ k. entry_logs s.thread k (Counted t steps.Issue word 0) (zeroed t s.view) w leaves.entry
          (least_is s.thread s.view is.stake stake).0;
      stakes = leaves.entry.stakes;
      lists = λ k. ([], ap (list_among k) leaves.lists ∙ sym (append-nil (list_of k s.view)));
      grows = λ u. more_seen t u (number_of word + 1) (seen_of w u) (seen_of s.view u) (leaves.seen u);
      each = λ e among. elim (in_cases (Counted t steps.Issue word 0) e [] among) [
        | inl same ↦ subst (λ f. TellsOf line s.view w f) same
            (found.not_older, now_seen t (number_of word + 1) (seen_of w t) (seen_of s.view t) (leaves.seen t))
        | inr none ↦ absurd (not_in_none e none)
      ];
    }

-- the lists stay as they are, each title at its number
pub issued_lists : CountLeaves → SealedLeaves → (s : StockValue) (r word : ℕ) (h : Handle) →
    CanCount steps.Issue h.title (zeroed h.title s.view) → IsBack h s →
    SameLists (listed_in (issued s h r word)) (listed_in s)
issued_lists counts seals s r word h can back p c =
    let t = h.title in
    let w = issued_view (is_plain s.plain_from h) s.view t word in
    let leaves = issue_leaves counts seals (is_plain s.plain_from h) t word (zeroed t s.view) can in
    same_titles s.view w (titles_in s.caches p c)
    (λ u among. same_seen t u (number_of word + 1) (seen_of w u) (seen_of s.view u) (not_listed s h back p c u among) (leaves.seen u))

-- each other title that is free and on no list stays so
issued_others : CountLeaves → SealedLeaves → (s : StockValue) (r word : ℕ) (h : Handle) →
    CanCount steps.Issue h.title (zeroed h.title s.view) → KeepsOthers h.title s (issued s h r word)
issued_others counts seals s r word h can u other alone =
    let t = h.title in
    let plain = is_plain s.plain_from h in
    let w = issued_view plain s.view t word in
    let leaves = issue_leaves counts seals plain t word (zeroed t s.view) can in (
      record { free = issue_still counts seals plain t word s.view can u other alone.free; off = alone.off; well = alone.well },
      same_seen t u (number_of word + 1) (seen_of w u) (seen_of s.view u) other (leaves.seen u),
    )

-- ---- the row of the registers

request_row : (facts : Facts) (regs : Regs) (r size : ℕ) (seen : Seen) (usable : ℕ) (after : Regs) → size ≤ greatest_size →
    usable ≡ facts.usable_of size →
    Becomes after (with regs r (reg.Own seen.slot)) → RequestRow facts regs r size (answers.Made seen usable) after
request_row facts regs r size seen usable after few is becomes = inr (inl (few, seen, ap (answers.Made seen) is, becomes))

pub alloc_row : (q : StockRegister) (facts : Facts) (regs : Regs) (r size : ℕ) (answer : Answer) (after : Regs) → HasNoHandle q →
    RequestRow facts regs r size answer after → AllocRow (as_reg q) facts regs r size answer after
alloc_row Empty facts regs r size answer after bare row = row
alloc_row (Own h) facts regs r size answer after bare row = absurd bare
alloc_row (Ref h) facts regs r size answer after bare row = absurd bare
alloc_row Freed facts regs r size answer after bare row = row
alloc_row Cleared facts regs r size answer after bare row = row

-- ---- the op

-- What came before the issue: the view and the lists of the thread's state `s` changed to `v` and `cs`, with the entries `es`, which did
-- these acts in the journal of the handle's partition. The handle's title wasn't free before, or was on a list.
pub record Bringing (line size : ℕ) (h : Handle) (acts : List RootAct) (es : List Entry) (s : StockValue) (v : View)
    (cs : WorkerLists) : Type 0 where
  pub entering : Entering s.thread line es s.view v
  pub version : cs.version ≡ s.caches.version
  pub quiet : touches es ≡ []
  pub uncut : (t : Title) → Contains es (Uncut t) → ⊥
  pub asks : Asks line h.partition acts es v
  pub makes : (pools : List PoolEntry) (a : RootAct) (x : Played) (r : ℕ) → x.op ≡ ops.Alloc r h.partition size →
      x.rules.version ≡ s.caches.version → Contains acts a →
      MakesEntry pools h.partition a x
  pub fills : (a : RootAct) → Contains acts a → FillsFrom s.caches.version a
  pub usable : h.title.len - 8 ≡ usable_of s.caches.version size
  pub apart : KeepsApart s (record s { view = v; caches = cs })
  pub lacks : IsApart h.title s → ⊥
  pub rows : (roots : Journals) (x : Played) (r : ℕ) (seen : Seen) (after : Cache) → x.op ≡ ops.Alloc r h.partition size →
      x.rules.version ≡ s.caches.version → OnlyActs roots x.line h.partition acts →
      seen.slot ≡ name_of h.title → number_of seen.found.0 ≡ seen_of v h.title →
      SameLists after (listed_in (record s { view = v; caches = cs })) →
      MadeRow roots x seen (listed_in s) after

not_uncut : (t u : Title) (word : ℕ) → Counted t steps.Issue word 0 ≡ Uncut u → ⊥
not_uncut t u word e = cc

not_full : (seen : Seen) (usable j : ℕ) → answers.Made seen usable ≡ answers.Full j → ⊥
not_full seen usable j e = cc

not_done : (seen : Seen) (usable : ℕ) (other : Seen) → answers.Made seen usable ≡ answers.Done other → ⊥
not_done seen usable other e = cc

pub made_does : CountLeaves → SealedLeaves →
    (line size r word : ℕ) (h : Handle) (acts : List RootAct) (es : List Entry) (s : StockValue) (v : View) (cs : WorkerLists) →
    Bringing line size h acts es s v cs → IsStock (record s { view = v; caches = cs }) → HasItsStake (record s { view = v; caches = cs }) →
    CanCount steps.Issue h.title (zeroed h.title v) → IsFound h.title word (zeroed h.title v) → number_of word ≡ seen_of v h.title →
    IsBack h (record s { view = v; caches = cs }) → h.partition < s.partitions → r < 64 →
    HasNoHandle (register_in s.registers r) → 16 ≤ h.title.len →
    size ≤ greatest_size →
    DoesOp line (ops.Alloc r h.partition size) (answers.Made (seen_at h word) (h.title.len - 8)) s
    (issued (record s { view = v; caches = cs }) h r word)
made_does counts seals line size r word h acts es s v cs before is stake can found number back inner below bare long few =
    entered_does s (issued mid h r word) line op answer all refl refl refl before.version
    (entering_both s.thread line es (Counted t steps.Issue word 0 ∷ []) s.view v w before.entering
    (issued_enters counts seals mid line word plain t is stake can found))
    (apart_both t s mid (issued mid h r word) before.apart (issued_others counts seals mid r word h can) before.lacks)
    (λ phase. let x = quiet_record s w line phase op answer all in let it = it_asks line h.partition acts es v x before.asks same in
    record {
      cells = λ list none. none;
      it = it;
      fills = λ p e low among. before.fills e.act (act_at line h.partition p acts e among).1;
      asked = subst (λ list. AskedNone x it ⊎ AskedOnce list x it) (sym (ap (list_among 4) leaves.lists))
          (before.asks.asked x it (same 4) refl refl);
      refused = λ j q p n full is_op. absurd (not_full (seen_at h word) (h.title.len - 8) j full);
      uncuts = λ u among. absurd (elim (Contains-append_cases es (Counted t steps.Issue word 0 ∷ []) (Uncut u) among) [
        | inl first ↦ before.uncut u first
        | inr last ↦ elim (in_cases (Counted t steps.Issue word 0) (Uncut u) [] last)
            [ inl e ↦ not_uncut t u word e | inr none ↦ not_in_none (Uncut u) none ]
      ]);
      homes = λ q past. inl (root_elsewhere line h.partition q acts (λ e. omega arith));
      owes = owes_made s.registers op (seen_at h word) (h.title.len - 8) h.title.len all (
        [],
        tt,
        filter-append is_touch es (Counted t steps.Issue word 0 ∷ []) ∙
            ap (λ ys. ys ++ Counted t steps.Issue word 0 ∷ []) before.quiet,
      ) (omega arith);
      words = λ refused. absurd refused;
      answers = λ o run many rules sees line_acts.
          let slot = slot_in_run o w h run sees (made_kept h v w leaves.lists back.made) in
          record {
            told = (
              (
                [],
                tt,
                filter-append is_touch es (Counted t steps.Issue word 0 ∷ [])
                    ∙ (ap (λ ys. ys ++ Counted t steps.Issue word 0 ∷ []) before.quiet
                    ∙ ap (λ u. Counted u steps.Issue word 0 ∷ []) (sym slot.title)),
              ),
              (let e = slot.length in omega arith),
            );
            row = alloc_row (register_in s.registers r) (row_facts o) (regs_of s.registers) r size answer
                (regs_of (slice_set s.registers r (Own h))) bare
                (request_row (row_facts o) (regs_of s.registers) r size (seen_at h word) (h.title.len - 8)
                (regs_of (slice_set s.registers r (Own h))) few
                (before.usable ∙ ap (λ (k : Rules). usable_of k.version size) rules)
                (λ k. regs_set s.registers r (Own h) k inside));
            reader = tt;
            unmaps = λ seen p asked n e done among on act. absurd (not_done (seen_at h word) (h.title.len - 8) seen done);
            makes = makes_each x it o.pools (λ p e low among.
                let at = act_at line h.partition p acts e among in
                subst (λ q. MakesEntry o.pools q e.act x.played) (sym at.0) (before.makes o.pools e.act x.played r refl refl at.1));
            home = λ m e. (h.partition, home_of o h.partition (mark_at line (seen_at h word) (Some steps.Issue)) m e slot.size);
          };
    })
    (λ phase o run many rules sees line_acts.
    let x = quiet_record s w line phase op answer all in
    let only = only_acts o x (it_asks line h.partition acts es v x before.asks same) line h.partition acts line_acts back.made.partition
    refl in (
      filter_map-append sign_of es (Counted t steps.Issue word 0 ∷ [])
          ∙ ap (λ ys. ys ++ Stepped ∷ [])
          (before.asks.signs ∙ shapes_have_signs.only o.partitions line h.partition o.roots acts run.past only),
      before.rows o.roots x.played r (seen_at h word) (listed_in (issued mid h r word)) refl refl only refl number
          (issued_lists counts seals mid r word h can back),
    ))
  where
    t : Title
    t = h.title

    mid : StockValue
    mid = record s { view = v; caches = cs }

    plain : Bool
    plain = is_plain s.plain_from h

    w : View
    w = issued_view (is_plain s.plain_from h) v h.title word

    leaves : LeavesCount steps.Issue h.title word (zeroed h.title v) (issued_view (is_plain s.plain_from h) v h.title word)
    leaves = issue_leaves counts seals (is_plain s.plain_from h) h.title word (zeroed h.title v) can

    op : Op
    op = ops.Alloc r h.partition size

    answer : Answer
    answer = answers.Made (seen_at h word) (h.title.len - 8)

    all : List Entry
    all = es ++ Counted h.title steps.Issue word 0 ∷ []

    inside : r < length s.registers
    inside = let n = is.handles.count in omega arith

    same : (q : ℕ) → entered_in q (es ++ Counted h.title steps.Issue word 0 ∷ []) ≡ entered_in q es
    same q = entered_append q es (Counted h.title steps.Issue word 0 ∷ []) ∙ append-nil (entered_in q es)

issue_budget : (plain : Bool) (t : Title) (word : ℕ) (v : View) → (after_issue plain t word v).budget ≡ v.budget - 1
issue_budget true t word v = refl
issue_budget false t word v = refl

-- the budget is one less
pub issued_budget : (h : Handle) (r n : ℕ) (answer : Answer) (mid after : StockValue) → Issues h r answer mid after →
    n ≤ mid.view.budget → n ≤ after.view.budget + 1
issued_budget h r n answer mid after is more = let e : after.view.budget ≡ mid.view.budget - 1 =
    ap (λ (z : StockValue). z.view.budget) is.after_is
    ∙ issue_budget (is_plain mid.plain_from h) h.title is.seen.found.0 (zeroed h.title mid.view) in omega arith

-- the op that was played then
pub issued_does : CountLeaves → SealedLeaves →
    (line size r : ℕ) (h : Handle) (acts : List RootAct) (es : List Entry) (s mid after : StockValue) (v : View) (cs : WorkerLists)
    (answer : Answer) →
    Bringing line size h acts es s v cs → mid ≡ record s { view = v; caches = cs } → IsStock mid → HasItsStake mid → IsBack h mid →
    Issues h r answer mid after → h.partition < s.partitions → r < 64 →
    HasNoHandle (register_in s.registers r) → size ≤ greatest_size → DoesOp line (ops.Alloc r h.partition size) answer s after
issued_does counts seals line size r h acts es s mid after v cs answer before mid_is is stake back issue inner below bare few =
    let base : StockValue = record s { view = v; caches = cs } in
    let j : Issues h r answer base after = subst (λ (z : StockValue). Issues h r answer z after) mid_is issue in
    let word = j.seen.found.0 in
    let seen_is : j.seen ≡ seen_at h word = ap (λ n. record j.seen { slot = n }) j.slot in
    subst (λ (z : StockValue). DoesOp line (ops.Alloc r h.partition size) answer s z) (sym j.after_is)
    (subst (λ a. DoesOp line (ops.Alloc r h.partition size) a s (issued base h r word))
    (sym (j.answer_is ∙ ap (λ x. answers.Made x (h.title.len - 8)) seen_is))
    (made_does counts seals line size r word h acts es s v cs before (subst (λ (z : StockValue). IsStock z) mid_is is)
    (subst (λ (z : StockValue). HasItsStake z) mid_is stake)
    j.able j.found j.number (subst (λ (z : StockValue). IsBack h z) mid_is back) inner below bare j.long few))

-- the slot that was made is the register's
pub issued_made : (h : Handle) (r : ℕ) (answer : Answer) (mid after : StockValue) → Issues h r answer mid after → IsStock mid → r < 64 →
    IsMadeIn (register_in after.registers r) answer
issued_made h r answer mid after j is below =
    let inside : r < length mid.registers = let n = is.handles.count in omega arith in
    let owns : register_in after.registers r ≡ Own h =
    ap (λ (z : StockValue). register_in z.registers r) j.after_is ∙ get_or-set_same mid.registers r (Own h) Empty inside in
    let here : IsMadeIn (Own h) (answers.Made j.seen (h.title.len - 8)) = let n = j.long in omega arith in
    subst (λ (a : Answer). IsMadeIn (register_in after.registers r) a) (sym j.answer_is)
    (subst (λ (x : StockRegister). IsMadeIn x (answers.Made j.seen (h.title.len - 8))) (sym owns) here)
