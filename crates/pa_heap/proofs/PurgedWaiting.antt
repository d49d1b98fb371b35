-- What a purge says if returned slots wait in a queue: once they left it and all lists went back, it does what it should.
use Rattle.std.proofs.Common.{◌≡◌, ℕ, ◌+◌, ◌<◌, ◌≤◌, ◌⊎◌, List, [], ◌++◌, length, map, refl, sym, ◌∙◌, ap, subst, arith, inl, inr}
use Rattle.std.specs.Prelude.{◌≢◌, Contains}
use Rattle.std.proofs.lemmas.List.{append-nil, length-map}
use Rattle.std.proofs.lemmas.List.Elements.{Contains-append_cases, filter-append}
use Rattle.pa_slot.specs.declared.title.Title.{Title}
use Rattle.pa_trace.specs.declared.script.Op.TheVariants as ops
use Rattle.pa_trace.specs.declared.script.Rules.{Rules}
use Rattle.pa_record.specs.declared.entry.Answer.TheVariants as answers
use Rattle.pa_record.specs.declared.root.RootAct.{RootAct}
use Rattle.pa_record.specs.Numbers.{root_numbers}
use Rattle.pa_lists.proofs.Members.{not_in_none}
use Rattle.pa_lists.proofs.Pairs.{pairs_none}
use Rattle.pa_region.specs.declared.view.Entry.{Entry}
use Rattle.pa_region.specs.declared.view.Entry.TheVariants.{Uncut}
use Rattle.pa_region.specs.declared.view.Made.{Made}
use Rattle.pa_region.specs.Views.{stake_of}
use Rattle.pa_region.specs.Lists.{entered_in}
use Rattle.pa_rules.specs.Caches.{all_listed}
use Rattle.pa_logs.specs.Touches.{is_touch, touches}
use Rattle.pa_logs.proofs.Listing.{entered_append}
use Rattle.pa_cells.specs.declared.handle.Handle.{Handle}
use Rattle.pa_root.specs.Handing.{root_entry, numbered_by, at_number_seen}
use Rattle.pa_delay.specs.Queue.{QueueList}
use Rattle.pa_op_specs.specs.Entering.{HasSeenSome}
use Rattle.pa_op_specs.specs.Stocks.{StockValue, IsStock, listed_in}
use Rattle.pa_op_specs.specs.Workers.{HasItsStake}
use Rattle.pa_op_specs.proofs.Entered.{Entering, entering_both, entered_some, line_acts}
use Rattle.pa_op_specs.proofs.Following.{seen_before}
use Rattle.pa_op_specs.proofs.Quiet.{quiet_record}
use Rattle.pa_thread_state.specs.Purging.{PurgesRoot}
use Rattle.pa_thread_state.specs.Stopping.{KeepsItsStake}
use Rattle.pa_heap.specs.Waiting.{DoesDelayed, HoldsQueue, waiting_in}
use Rattle.pa_heap.proofs.CameBack.{CameBack, says_both}
use Rattle.pa_heap.proofs.Purging.{Purging, purging_none, purging_more, purging_stake}
use Rattle.pa_heap.proofs.Given.{IsGiveOrPurge}
use Rattle.pa_heap.proofs.Purged.{PurgeEnters, purge_says, purged_acts, purged_at, purged_past, purged_each, purged_says, none_listed}

-- some slots left a queue, and then all lists of the run's partitions went back
module _ (line purged : ℕ) (gone stays : List Handle) (s mid now : StockValue) (came : CameBack line gone stays s mid)
    (some : Purging line mid.partitions purged mid now) where
  -- what the log of the seat's stake got
  abbrev pub both : List Entry
  both = came.stretch ++ some.stretch

  -- what went back to the root of partition p
  abbrev pub acts_both : ℕ → List RootAct
  acts_both p = came.acts p ++ purged_acts mid p

  -- each was entered
  entered_says : (p : ℕ) → map (λ (m : Made). m.numbers) (entered_in p both) ≡ map root_numbers (map (root_entry line) (acts_both p))
  entered_says p =
      ap (map (λ (m : Made). m.numbers)) (entered_append p came.stretch some.stretch)
      ∙ says_both line (entered_in p came.stretch) (entered_in p some.stretch) (came.acts p) (purged_acts mid p) (came.says p)
      (purged_says line purged mid now some p)

  -- each is a give or a purge
  each_both : (p : ℕ) (act : RootAct) → Contains (acts_both p) act → IsGiveOrPurge act
  each_both p act among = elim (Contains-append_cases (came.acts p) (purged_acts mid p) act among) [
    | inl first ↦ inl (came.gives p act first)
    | inr second ↦ purged_each mid p act second
  ]

  -- past the run's partitions there are those of slots that left alone
  past_both : (p : ℕ) → mid.partitions ≤ p → acts_both p ≡ came.acts p
  past_both p past = ap (λ acts. came.acts p ++ acts) (purged_past mid p past) ∙ append-nil (came.acts p)

  homes_both : (p : ℕ) → s.partitions ≤ p → (acts_both p ≡ []) ⊎ HasSeenSome s.thread p s.view
  homes_both p past = elim (came.homes p) [
    | inl none ↦ inl (past_both p (subst (λ n. n ≤ p) (sym came.same.1) past) ∙ none)
    | inr seen ↦ inr seen
  ]

  uncut_both : (t : Title) → Contains both (Uncut t) → ⊥
  uncut_both t among = elim (Contains-append_cases came.stretch some.stretch (Uncut t) among) [
    | inl first ↦ came.uncut t first
    | inr second ↦ some.uncut t second
  ]

  pub enters_both : mid.partitions ≤ 4 → PurgeEnters line both acts_both s now
  enters_both few = record {
    says = entered_says;
    each = each_both;
    past = past_both 4 few ∙ came.past 4 (omega arith);
    homes = homes_both;
    quiet = filter-append is_touch came.stretch some.stretch ∙ ap (λ es. es ++ touches some.stretch) came.quiet ∙ some.quiet;
    uncut = uncut_both;
    registers = some.same.2 ∙ came.registers;
  }

  pub entering_parts : Entering s.thread line both s.view now.view
  entering_parts = entering_both s.thread line came.stretch some.stretch s.view mid.view now.view came.enters
      (subst (λ k. Entering k line some.stretch mid.view now.view) came.same.0 some.enters)

  -- whose thread state it is, and by which rules it goes on
  pub same_both : (now.thread ≡ s.thread) × (now.partitions ≡ s.partitions) × (now.plain_from ≡ s.plain_from)
      × (now.caches.version ≡ s.caches.version)
  same_both = (
    some.same.0 ∙ came.same.0,
    some.same.1 ∙ came.same.1,
    some.plain ∙ ap (λ (r : Rules). r.plain_from) came.same.2,
    some.version ∙ ap (λ (r : Rules). r.version) came.same.2,
  )

-- ---- partition after partition, once the queue is empty

-- The slots of the queue left, and then this many partitions were purged.
pub record Emptying (line n : ℕ) (hs : List Handle) (s mid now : StockValue) : Type 0 where
  pub sound : IsStock mid
  pub came : CameBack line hs [] s mid
  pub purged : ℕ
  pub some : Purging line n purged mid now
  pub budget : now.view.budget ≡ s.view.budget

pub emptying_none : (line : ℕ) (hs : List Handle) (s mid : StockValue) → IsStock mid → CameBack line hs [] s mid →
    Emptying line 0 hs s mid mid
emptying_none line hs s mid sound came = record {
  sound = sound;
  came = came;
  purged = 0;
  some = purging_none line mid;
  budget = came.budget;
}

pub emptying_more : (line n more : ℕ) (hs : List Handle) (s mid now next : StockValue) → IsStock now → Emptying line n hs s mid now →
    PurgesRoot line n more now next → n < mid.partitions → next.view.budget ≡ now.view.budget → Emptying line (n + 1) hs s mid next
emptying_more line n more hs s mid now next is part purges below budget = record {
  sound = part.sound;
  came = part.came;
  purged = part.purged + more;
  some = purging_more line n part.purged more mid now next is part.some purges below (let few = part.sound.partitions in omega arith);
  budget = budget ∙ part.budget;
}

-- the seat has its stake still
pub emptying_keeps : (line n : ℕ) (hs : List Handle) (s mid now : StockValue) → HasItsStake s → Emptying line n hs s mid now →
    KeepsItsStake s now
emptying_keeps line n hs s mid now stake part = record {
  thread = part.some.same.0 ∙ part.came.same.0;
  stake = purging_stake line n part.purged mid now part.some (
      subst (λ k. 0 < stake_of mid.view k) (sym part.came.same.0) (let e = part.came.enters.stakes s.thread in omega arith)
      );
}

-- ---- the op

-- an empty queue has no slot that couldn't wait
pub holds_none : (s : StockValue) → HoldsQueue [] s
holds_none s = record {
  each = λ h among. absurd (not_in_none h among);
  differ = pairs_none (λ (g h : Handle). g.title ≢ h.title);
}

-- how many slots wait is how many the queue has
waiting_count : (s : StockValue) (hs : List Handle) → length (waiting_in s hs) ≡ length hs
waiting_count s hs = length-map (map (λ (h : Handle). h.title) hs) (at_number_seen s.view) ∙ length-map hs (λ (h : Handle). h.title)

-- The whole queue left, then all lists went back, and the answer is how many slots both had.
pub emptied_does : (line slots : ℕ) (s mid now : StockValue) (queue rest : QueueList) → IsStock now →
    Emptying line mid.partitions queue.slots s mid now → rest.slots ≡ [] →
    slots ≡ all_listed (listed_in s) 0 s.partitions + length queue.slots →
    DoesDelayed line ops.Purge (answers.Purged slots) s queue now rest
emptied_does line slots s mid now queue rest still part none count phase =
    let came = part.came in
    let some = part.some in
    let es = both line part.purged queue.slots [] s mid now came some in
    let acts = acts_both line part.purged queue.slots [] s mid now came some in
    let same = same_both line part.purged queue.slots [] s mid now came some in
    let enters = enters_both line part.purged queue.slots [] s mid now came some part.sound.partitions in
    let says = purge_says line slots phase es acts s now enters in
    let x = quiet_record s now.view line phase ops.Purge (answers.Purged slots) es in
    let (does, adds) = entered_some s now line phase ops.Purge (answers.Purged slots) es same.0 same.1 same.2 same.3
    (entering_parts line part.purged queue.slots [] s mid now came some) says.0 in (
      x,
      refl,
      does,
      adds,
      λ o fits.
          let here = line_acts o x says.0.it fits.run fits.acts in
          let many : o.partitions ≡ mid.partitions = fits.many ∙ sym came.same.1 in (
            came.acts,
            listed_in mid,
            came.leaves o fits.run (seen_before o mid.view now.view some.enters.lists fits.seen),
            λ p low.
                here.here p (let few = fits.run.few in omega arith) ∙ says.1 p
                ∙ ap (λ bs. came.acts p ++ bs) (purged_at mid p (subst (λ n. p < n) many low)),
            subst (λ n. slots ≡ all_listed (listed_in s) 0 n + length (waiting_in s queue.slots)) (sym fits.many)
                (count ∙ ap (λ n. all_listed (listed_in s) 0 s.partitions + n) (sym (waiting_count s queue.slots))),
            λ p c. ap (numbered_by now.view) (none_listed line part.purged mid now still some o fits.run many fits.seen p c),
            ap (waiting_in now) none,
          ),
    )
