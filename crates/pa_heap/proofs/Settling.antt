-- A slot that a step returned goes back to its root, or its list spills: what the op says then.
use Rattle.std.proofs.Common.{◌≡◌, ℕ, ◌<◌, ◌≤◌, Bool, true, false, List, [], ◌∷◌, length, map, Option, Some, None, sym, ◌∙◌, ap, subst, arith, refl, inl, inr}
use Rattle.std.specs.Prelude.{◌==◌, ◌&&◌, Contains, if◌then◌else◌}
use Rattle.pa_slot.specs.declared.title.Title.{Title}
use Rattle.pa_slot.specs.declared.word.Step.{Step}
use Rattle.pa_buckets.specs.Bands.{limit_of}
use Rattle.pa_trace.specs.declared.script.Op.{Op}
use Rattle.pa_trace.specs.declared.script.Rules.{Rules}
use Rattle.pa_record.specs.declared.entry.Answer.TheVariants as answers
use Rattle.pa_record.specs.declared.numbered.Numbered.{Numbered}
use Rattle.pa_record.specs.declared.root.RootAct.TheVariants.{Unmap}
use Rattle.pa_record.specs.Numbers.{root_numbers}
use Rattle.pa_record.specs.Spans.{name_of}
use Rattle.pa_lists.proofs.Members.{in_cases, not_in_none}
use Rattle.pa_region.specs.declared.view.Entry.{Entry}
use Rattle.pa_region.specs.declared.view.Entry.TheVariants.{Uncut}
use Rattle.pa_region.specs.declared.view.View.{View}
use Rattle.pa_rules.specs.Caches.{Cache, SameLists, gives, kept, spilled, with_list}
use Rattle.pa_layout.specs.Pages.{supers_for}
use Rattle.pa_pool.specs.Calls.{give_entry}
use Rattle.pa_root.specs.Handing.{UnmapTakes, at_number_seen, root_entry}
use Rattle.pa_delay.specs.Queue.{QueueList}
use Rattle.pa_rules.specs.declared.played.Played.{Played}
use Rattle.pa_cells.specs.declared.handle.Handle.{Handle}
use Rattle.pa_cells.specs.Handles.{SlotsStaySeen}
use Rattle.pa_op_specs.specs.Stocks.{StockRegister, StockValue, IsStock, titles_in, listed_in, rules_at}
use Rattle.pa_rules.specs.Sizes.{HasClass}
use Rattle.pa_thread_state.specs.Homing.{ComesHome, GoesHome, Spills, without_title, note_of_title, KeepsNoList}
use Rattle.pa_op_specs.specs.Plays.{DoesOp}
use Rattle.pa_thread_state.proofs.Looking.{seen_at}
use Rattle.pa_op_specs.proofs.Quiet.{same_titles}
use Rattle.pa_op_specs.proofs.Seeing.{made_kept, slot_in_run}
use Rattle.pa_op_specs.proofs.Entered.{TellsOf, Entering, entering_both, two_enters}
use Rattle.pa_thread_state.proofs.Homing.{left_enters}
use Rattle.pa_heap.proofs.Brought.{Brings, home_brings, spill_brings}
use Rattle.pa_heap.specs.Waiting.{HoldsQueue, DoesDelayed}
use Rattle.pa_heap.proofs.Returned.{HasReturned, left_at}
use Rattle.pa_heap.proofs.Given.{gives_does}
use Rattle.pa_heap.proofs.OneBack.{SlotCame, goes_alone, home_enters, no_list, spill_came}
use Rattle.pa_heap.proofs.Unmapping.{behind, unmap_does, unmap_delays}

-- ---- lists after a step

-- the lists as they were before the step, each title at its number
pub step_lists : (op : Op) (step : Step) (h : Handle) (word : ℕ) (s : StockValue) (w : View) (rs : List StockRegister) → IsStock s →
    HasReturned op step h word s w rs →
    SameLists (listed_in (record s { view = w; registers = rs })) (listed_in s)
step_lists op step h word s w rs is of p class =
    same_titles s.view w (titles_in s.caches p class) (λ t among. of.touched.numbers t (is.lists.free p class t among))

-- the same lists are the same with one of them changed
pub same_with : (a b : Cache) (p class : ℕ) (xs : List Numbered) → SameLists a b →
    SameLists (with_list a p class xs) (with_list b p class xs)
same_with a b p class xs same q d = go ((q == p) && (d == class))
  where
    go : (here : Bool) → (if here then xs else a q d) ≡ (if here then xs else b q d)
    go true = refl
    go false = same q d

-- ---- it goes back to its root

-- what is done first with a direct map is no entry
uncut_tells : (line : ℕ) (t : Title) (v w : View) (e : Entry) → Contains (Uncut t ∷ []) e → TellsOf line v w e
uncut_tells line t v w e among = elim (in_cases (Uncut t) e [] among) [
  | inl same ↦ subst (TellsOf line v w) same tt
  | inr none ↦ absurd (not_in_none e none)
]

-- the title in its note, at the number that the step left
in_note : (op : Op) (step : Step) (h : Handle) (word : ℕ) (s : StockValue) (w : View) (rs : List StockRegister) →
    HasReturned op step h word s w rs →
    at_number_seen (note_of_title h.title w) h.title ≡ left_at h word
in_note op step h word s w rs of = ap (λ n. record { slot = name_of h.title; number = n }) of.number

module _ (stays : SlotsStaySeen) (op : Op) (step : Step) (h : Handle) (word line : ℕ) (s after : StockValue) (w : View)
    (rs : List StockRegister) (is : IsStock s) (of : HasReturned op step h word s w rs)
    (home : GoesHome line h (record s { view = w; registers = rs }) after) where
  abbrev y : View
  y = without_title h.title w

  abbrev note : View
  note = note_of_title h.title w

  abbrev mid : StockValue
  mid = record s { view = w; registers = rs }

  low : h.partition < 4
  low = of.made.partition

  brings : Brings h (record s { view = w; registers = rs }) after
  brings = home_brings line h mid after home

  lists : SameLists (listed_in after) (listed_in s)
  lists p class = home.lists p class ∙ step_lists op step h word s w rs is of p class

  came : (takes : UnmapTakes s.thread h.partition line (without_title h.title w) after.view (note_of_title h.title w) h.title) →
      Entering s.thread line (behind h.title takes.enters.pool h.partition takes.enters.made) w after.view
  came takes =
      entering_both s.thread line [] (behind h.title takes.enters.pool h.partition takes.enters.made) w y after.view
      (left_enters s.thread line h.title w)
      (two_enters takes.asked takes.index s.thread h.partition line (Uncut h.title ∷ [])
      (give_entry line h.partition (supers_for h.title.len) takes.first)
      (Unmap takes.asked (at_number_seen note h.title)) y after.view takes.enters (omega arith) refl
      (uncut_tells line h.title y after.view))

  does_by : KeepsNoList h (record s { view = w; registers = rs }) → (k : Option ℕ) → h.class ≡ k →
      ComesHome k s.thread h.partition line (without_title h.title w) after.view (note_of_title h.title w) h.title →
      DoesOp line op (answers.Done (seen_at h word)) s after
  does_by bare None direct takes =
      unmap_does stays op step h word line s after w rs y note of direct brings.thread brings.partitions brings.plain brings.version
      brings.registers takes (came takes) brings.others of.number lists
  does_by bare (Some class) class_is comes =
      let (ms, enters, says) = home_enters line class h mid after low class_is home in
      gives_does stays op step h class word line s after w rs ms (left_at h word ∷ []) of class_is brings.thread brings.partitions
      brings.plain brings.version brings.registers enters brings.others
      (says ∙ ap (λ x. map root_numbers (map (root_entry line) (gives (x ∷ [])))) (in_note op step h word s w rs of))
      (λ real.
      let none = bare class class_is real in
      goes_alone (listed_in s) (listed_in after) h.partition class (left_at h word) none
      (no_list s h.partition class (is.lists.few h.partition class) none) lists)

  pub home_does : KeepsNoList h (record s { view = w; registers = rs }) → DoesOp line op (answers.Done (seen_at h word)) s after
  home_does bare = does_by bare h.class refl home.comes

  delays_by : ((class : ℕ) → h.class ≡ Some class → HasClass s.caches.version class → ⊥) → (queue : QueueList) → HoldsQueue queue.slots s →
      (k : Option ℕ) → h.class ≡ k →
      ComesHome k s.thread h.partition line (without_title h.title w) after.view (note_of_title h.title w) h.title →
      DoesDelayed line op (answers.Done (seen_at h word)) s queue after queue
  delays_by none queue holds None direct takes =
      unmap_delays stays op step h word line s after w rs y note of direct brings.thread brings.partitions brings.plain brings.version
      brings.registers takes (came takes) brings.others of.number lists queue holds
  delays_by none queue holds (Some class) class_is comes = λ phase.
      let (x, is_x, does, leads, adds) = home_does (λ c c_is real. absurd (none c c_is real)) phase in (
        x,
        is_x,
        does,
        adds,
        λ o fits.
            let made = made_kept h w s.view (sym of.touched.lists) of.made in
            let slot = slot_in_run o after.view h fits.run fits.seen (stays h s.view after.view made (does.lists h.partition)) in
            let rules : rules_at s ≡ o.rules = ap (λ (p : Played). p.rules) (sym is_x) ∙ fits.rules in
            absurd (none class class_is (subst (λ (k : Rules). HasClass k.version class) (sym rules) (slot.real class class_is))),
      )

  -- the same if returned slots wait and this one is of no class of the version, so that it can't: the queue is as it was
  pub home_delays : ((class : ℕ) → h.class ≡ Some class → HasClass s.caches.version class → ⊥) → (queue : QueueList) →
      HoldsQueue queue.slots s → DoesDelayed line op (answers.Done (seen_at h word)) s queue after queue
  home_delays none queue holds = delays_by none queue holds h.class refl home.comes

-- ---- its list spills

pub spill_does : SlotsStaySeen →
    (op : Op) (step : Step) (h : Handle) (class word line : ℕ) (s after : StockValue) (w : View) (rs : List StockRegister) →
    IsStock s → IsStock after →
    HasReturned op step h word s w rs → h.class ≡ Some class → HasClass s.caches.version class → 0 < limit_of class →
    limit_of class ≤ length (titles_in s.caches h.partition class) →
    Spills line h class (record s { view = w; registers = rs }) after → DoesOp line op (answers.Done (seen_at h word)) s after
spill_does stays op step h class word line s after w rs is sound of class_is small some full spills =
    gives_does stays op step h class word line s after w rs came.made (spilled class (left_at h word ∷ listed_in s h.partition class)) of
    class_is brings.thread brings.partitions brings.plain brings.version brings.registers came.enters brings.others
    (came.says ∙ ap (λ xs. map root_numbers (map (root_entry line) (gives (spilled class xs)))) list_is)
    (λ real. (
      refl,
      λ q d. came.lists q d ∙ (ap (λ xs. with_list (listed_in mid) h.partition class (kept class xs) q d) list_is
          ∙ same_with (listed_in mid) (listed_in s) h.partition class (kept class (left_at h word ∷ listed_in s h.partition class))
          (step_lists op step h word s w rs is of) q d),
    ))
  where
    mid : StockValue
    mid = record s { view = w; registers = rs }

    low : h.partition < 4
    low = of.made.partition

    came : SlotCame line class h (record s { view = w; registers = rs }) after
    came = spill_came line class h mid after sound low small some full spills

    brings : Brings h (record s { view = w; registers = rs }) after
    brings = spill_brings line class h mid after low small sound spills

    -- its list, with the slot at the number that the step left
    list_is : at_number_seen w h.title ∷ listed_in (record s { view = w; registers = rs }) h.partition class
        ≡ left_at h word ∷ listed_in s h.partition class
    list_is =
        ap (λ n. record { slot = name_of h.title; number = n } ∷ listed_in mid h.partition class) of.number
        ∙ ap (λ xs. left_at h word ∷ xs) (step_lists op step h word s w rs is of h.partition class)
