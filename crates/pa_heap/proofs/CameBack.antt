-- What slots left that waited and came back one after the other, as the record of their line says it.
use Rattle.std.proofs.Common.{◌≡◌, ℕ, ◌≤◌, Bool, true, false, ◌⊎◌, List, [], ◌∷◌, ◌++◌, map, refl, sym, ◌∙◌, ap, subst, arith, inl, inr}
use Rattle.std.specs.Prelude.{◌≢◌, ◌==◌, Contains, if◌then◌else◌}
use Rattle.std.proofs.lemmas.Bool.Decides.{nat_tests, eqb_tells}
use Rattle.std.proofs.lemmas.List.{map-append}
use Rattle.std.proofs.lemmas.List.Elements.{Contains-append_cases, Contains-append_left, Contains-append_right, filter-append}
use Rattle.pa_slot.specs.declared.title.Title.{Title}
use Rattle.pa_trace.specs.Limits.{most_partitions}
use Rattle.pa_record.specs.declared.numbered.Numbered.{Numbered}
use Rattle.pa_record.specs.declared.root.RootAct.{RootAct}
use Rattle.pa_record.specs.declared.root.RootAct.TheVariants.{Give}
use Rattle.pa_record.specs.Numbers.{root_numbers}
use Rattle.pa_lists.proofs.Joined.{map_cases}
use Rattle.pa_lists.proofs.Members.{first_in, later_in, not_in_none}
use Rattle.pa_lists.proofs.Pairs.{pairs_head}
use Rattle.pa_region.specs.declared.view.Entry.{Entry}
use Rattle.pa_region.specs.declared.view.Entry.TheVariants.{Entered, Uncut}
use Rattle.pa_region.specs.declared.view.Made.{Made}
use Rattle.pa_region.specs.Aware.{IsAware}
use Rattle.pa_region.specs.Lists.{entered_in}
use Rattle.pa_region.specs.Views.{seen_of}
use Rattle.pa_rules.specs.Caches.{gives, spilled}
use Rattle.pa_logs.specs.Touches.{is_touch, touches}
use Rattle.pa_logs.proofs.Listing.{entered_append}
use Rattle.pa_cells.specs.declared.handle.Handle.{Handle}
use Rattle.pa_cells.specs.Handles.{SlotsStaySeen}
use Rattle.pa_root.specs.Handing.{at_number_seen, root_entry}
use Rattle.pa_delay.specs.Delayed.{AllLeave}
use Rattle.pa_op_specs.specs.Entering.{HasSeenSome}
use Rattle.pa_op_specs.specs.Outcomes.{Outcome, IsOutcome, IsSeenOf}
use Rattle.pa_op_specs.specs.Stocks.{StockValue, IsStock, listed_in, rules_at}
use Rattle.pa_op_specs.specs.Workers.{HasItsStake}
use Rattle.pa_op_specs.proofs.Batches.{in_gives}
use Rattle.pa_op_specs.proofs.Entered.{Entering, entered_here, entered_elsewhere, entering_both, entering_none}
use Rattle.pa_op_specs.proofs.Quiet.{same_titles}
use Rattle.pa_op_specs.proofs.Seeing.{slot_in_run}
use Rattle.pa_heap.specs.Leaving.{WentBack, AllWentBack}
use Rattle.pa_heap.specs.Waiting.{CanWait, HoldsQueue, waiting_in}
use Rattle.pa_heap.proofs.Brought.{Brings, went_brings}
use Rattle.pa_heap.proofs.OneBack.{SlotCame, slot_came, slot_entries}
use Rattle.pa_heap.proofs.Given.{entered_quiet, no_uncut}
use Rattle.pa_heap.proofs.Queued.{holds_rest}

-- These slots left the queue, in whose front they were, and came back; the others are in it still. The line began with the thread
-- state `origin`.
--   stretch, enters: what the log of the seat's stake got: entries of roots' lists alone, none of which is a touch
--   acts: what was entered in the list of each partition; there are gives alone, of partitions of which the seat had seen an entry as the
--   line began
--   same, registers: whose thread state it is, by which rules it goes on, its registers
--   holds, numbers: the others can wait still, at the same numbers
--   leaves: in every run that has what the seat has seen, the slots left their queue so
pub record CameFrom (origin : StockValue) (line : ℕ) (gone stays : List Handle) (s after : StockValue) : Type 0 where
  pub stretch : List Entry
  pub acts : ℕ → List RootAct
  pub enters : Entering s.thread line stretch s.view after.view
  pub says : (q : ℕ) → map (λ (m : Made). m.numbers) (entered_in q stretch) ≡ map root_numbers (map (root_entry line) (acts q))
  pub past : (q : ℕ) → most_partitions ≤ q → acts q ≡ []
  pub gives : (q : ℕ) (act : RootAct) → Contains (acts q) act → (slots : List Numbered) × (act ≡ Give slots)
  pub homes : (q : ℕ) → (acts q ≡ []) ⊎ HasSeenSome origin.thread q origin.view
  pub quiet : touches stretch ≡ []
  pub uncut : (t : Title) → Contains stretch (Uncut t) → ⊥
  pub same : (after.thread ≡ s.thread) × (after.partitions ≡ s.partitions) × (rules_at after ≡ rules_at s)
  pub registers : after.registers ≡ s.registers
  pub budget : after.view.budget ≡ s.view.budget
  pub stock : IsStock after
  pub holds : HoldsQueue stays after
  pub numbers : waiting_in after stays ≡ waiting_in s stays
  pub leaves : (o : Outcome) → IsOutcome o → IsSeenOf o after.view →
      AllLeave o.roots (waiting_in s gone) (listed_in s) acts (listed_in after)

-- they came back from this thread state on
abbrev pub CameBack : (line : ℕ) (gone stays : List Handle) (s after : StockValue) → Type 0
CameBack line gone stays s after = CameFrom s line gone stays s after

-- ---- none left

came_none : (origin : StockValue) (line : ℕ) (stays : List Handle) (s : StockValue) → IsStock s → HoldsQueue stays s →
    CameFrom origin line [] stays s s
came_none origin line stays s is holds = record {
  stretch = [];
  acts = λ q. [];
  enters = entering_none s.thread line s.view;
  says = λ q. refl;
  past = λ q far. refl;
  gives = λ q act among. absurd (not_in_none act among);
  homes = λ q. inl refl;
  quiet = refl;
  uncut = λ t among. not_in_none (Uncut t) among;
  same = (refl, refl, refl);
  registers = refl;
  budget = refl;
  stock = is;
  holds = holds;
  numbers = refl;
  leaves = λ o run sees. (λ q. refl, λ p c. refl);
}

-- ---- one more left

-- the numbers of entries that say acts, and of those that say later ones
pub says_both : (line : ℕ) (ms ns : List Made) (acts more : List RootAct) →
    map (λ (m : Made). m.numbers) ms ≡ map root_numbers (map (root_entry line) acts) →
    map (λ (m : Made). m.numbers) ns ≡ map root_numbers (map (root_entry line) more) →
    map (λ (m : Made). m.numbers) (ms ++ ns) ≡ map root_numbers (map (root_entry line) (acts ++ more))
says_both line ms ns acts more first second =
    map-append (λ (m : Made). m.numbers) ms ns
    ∙ (ap (λ xs. xs ++ map (λ (m : Made). m.numbers) ns) first
    ∙ (ap (λ xs. map root_numbers (map (root_entry line) acts) ++ xs) second
    ∙ sym (ap (map root_numbers) (map-append (root_entry line) acts more)
    ∙ map-append root_numbers (map (root_entry line) acts) (map (root_entry line) more))))

-- acts that are in one list alone
if_acts : (b : Bool) (acts : List RootAct) (act : RootAct) → Contains (if b then acts else []) act → Contains acts act
if_acts true acts act among = among
if_acts false acts act among = absurd (not_in_none act among)

elsewhere : (p q : ℕ) (acts : List RootAct) → (q ≡ p → ⊥) → (if q == p then acts else []) ≡ []
elsewhere p q acts differs = go (q == p) refl
  where
    go : (b : Bool) → (q == p) ≡ b → (if b then acts else []) ≡ []
    go true is = absurd (differs (grind (arith, nat_tests)))
    go false is = refl

says_here : (line p q : ℕ) (ms : List Made) (acts : List RootAct) →
    map (λ (m : Made). m.numbers) ms ≡ map root_numbers (map (root_entry line) acts) →
    map (λ (m : Made). m.numbers) (entered_in q (map (Entered p) ms))
    ≡ map root_numbers (map (root_entry line) (if q == p then acts else []))
says_here line p q ms acts says = go (q == p) refl
  where
    go : (b : Bool) → (q == p) ≡ b →
        map (λ (m : Made). m.numbers) (entered_in q (map (Entered p) ms))
        ≡ map root_numbers (map (root_entry line) (if b then acts else []))
    go true is =
        let same : q ≡ p = grind (arith, nat_tests) in
        ap (λ (l : List Made). map (λ (m : Made). m.numbers) l)
        (ap (λ k. entered_in k (map (Entered p) ms)) same ∙ entered_here p ms) ∙ says
    go false is =
        ap (λ (l : List Made). map (λ (m : Made). m.numbers) l) (entered_elsewhere p q ms (λ same. grind (arith, nat_tests)))

same_rules : (a b : StockValue) → a.caches.version ≡ b.caches.version → a.plain_from ≡ b.plain_from → rules_at a ≡ rules_at b
same_rules a b version plain =
    ap (λ v. record (rules_at a) { version = v }) version ∙ ap (λ p. record (rules_at b) { plain_from = p }) plain

-- the slots that wait are at the same numbers after the queue's front came back
numbers_still : (h : Handle) (rest : List Handle) (s next : StockValue) → Brings h s next → HoldsQueue (h ∷ rest) s →
    (ks : List Handle) → ((g : Handle) → Contains ks g → Contains rest g) → waiting_in next ks ≡ waiting_in s ks
numbers_still h rest s next brings holds ks within =
    same_titles s.view next.view (map (λ (k : Handle). k.title) ks)
    (λ t among.
    let (g, there, is) = map_cases (λ (k : Handle). k.title) ks t among in
    let inside = within g there in
    subst (λ u. seen_of next.view u ≡ seen_of s.view u) is
    (brings.others g.title (pairs_head R h g rest holds.differ inside) (holds.each g (later_in h g rest inside)).apart).1)
  where
    R : Handle → Handle → Type 0
    R g k = g.title ≢ k.title

came_more : SlotsStaySeen → (origin : StockValue) (line : ℕ) (h : Handle) (gone stays : List Handle) (s next after : StockValue) →
    HasSeenSome origin.thread h.partition origin.view → IsStock s → HoldsQueue (h ∷ (gone ++ stays)) s → WentBack line h s next →
    CameFrom origin line gone stays next after → CameFrom origin line (h ∷ gone) stays s after
came_more stay origin line h gone stays s next after seen is holds went rest = record {
  stretch = es ++ rest.stretch;
  acts = λ q. first q ++ rest.acts q;
  enters = enters;
  says = λ q.
      ap (map (λ (m : Made). m.numbers)) (entered_append q es rest.stretch)
      ∙ says_both line (entered_in q es) (entered_in q rest.stretch) (first q) (rest.acts q)
      (says_here line h.partition q came.made given came.says) (rest.says q);
  past = λ q far.
      ap (λ acts. acts ++ rest.acts q) (elsewhere h.partition q given (λ same. let low = can.made.partition in omega arith))
      ∙ rest.past q far;
  gives = λ q act among. elim (Contains-append_cases (first q) (rest.acts q) act among) [
    | inl sooner ↦ in_gives gone_back act (if_acts (q == h.partition) given act sooner)
    | inr later ↦ rest.gives q act later
  ];
  homes = λ q. elim (eqb_tells q h.partition) [
    | inl same ↦ inr (subst (λ k. HasSeenSome origin.thread k origin.view) (sym same.1) seen)
    | inr differs ↦ elim (rest.homes q) [
      | inl none ↦ inl (ap (λ acts. acts ++ rest.acts q) (elsewhere h.partition q given differs.1) ∙ none)
      | inr some ↦ inr some
    ]
  ];
  quiet = filter-append is_touch es rest.stretch
      ∙ (ap (λ xs. xs ++ touches rest.stretch) (entered_quiet h.partition came.made) ∙ rest.quiet);
  uncut = λ t among. elim (Contains-append_cases es rest.stretch (Uncut t) among) [
    | inl sooner ↦ no_uncut h.partition came.made t sooner
    | inr later ↦ rest.uncut t later
  ];
  same = (
    rest.same.0 ∙ brings.thread,
    rest.same.1 ∙ brings.partitions,
    rest.same.2 ∙ same_rules next s brings.version brings.plain,
  );
  registers = rest.registers ∙ brings.registers;
  budget = rest.budget ∙ brings.budget;
  stock = rest.stock;
  holds = rest.holds;
  numbers = rest.numbers ∙ numbers_still h (gone ++ stays) s next brings holds stays (λ g among. Contains-append_right gone stays g among);
  leaves = λ o run sees.
      let slot = slot_in_run o after.view h run sees (stay h s.view after.view can.made (enters.lists h.partition)) in (
        listed_in next,
        first,
        rest.acts,
        (h.partition, can.class, slot.class can.class can.class_is, λ q. refl, came.lists),
        subst (λ xs. AllLeave o.roots xs (listed_in next) rest.acts (listed_in after))
            (numbers_still h (gone ++ stays) s next brings holds gone (λ g among. Contains-append_left gone stays g among))
            (rest.leaves o run sees),
        λ q. refl,
      );
}
  where
    brings : Brings h s next
    brings = went_brings line h s next is went

    can : CanWait h s
    can = holds.each h (first_in h (gone ++ stays))

    came : SlotCame line can.class h s next
    came = slot_came line can.class h s next is went can.class_is can.real

    gone_back : List Numbered
    gone_back = spilled can.class (at_number_seen s.view h.title ∷ listed_in s h.partition can.class)

    given : List RootAct
    given = gives (spilled can.class (at_number_seen s.view h.title ∷ listed_in s h.partition can.class))

    first : ℕ → List RootAct
    first q = if q == h.partition then given else []

    es : List Entry
    es = map (Entered h.partition) came.made

    enters : Entering s.thread line (map (Entered h.partition) came.made ++ rest.stretch) s.view after.view
    enters =
        entering_both s.thread line es rest.stretch s.view next.view after.view came.enters
        (subst (λ k. Entering k line rest.stretch next.view after.view) brings.thread rest.enters)

-- ---- all that left

-- They came back, if the seat had seen an entry of the partition of each as the line began.
pub came_from : SlotsStaySeen → (origin : StockValue) (line : ℕ) (gone stays : List Handle) (s after : StockValue) →
    ((h : Handle) → Contains gone h → HasSeenSome origin.thread h.partition origin.view) → IsStock s → HoldsQueue (gone ++ stays) s →
    AllWentBack line gone s after → CameFrom origin line gone stays s after
came_from stay origin line [] stays s after seen is holds same =
    subst (λ (z : StockValue). CameFrom origin line [] stays s z) (sym same) (came_none origin line stays s is holds)
came_from stay origin line (h ∷ gone) stays s after seen is holds (next, went, all) =
    came_more stay origin line h gone stays s next after (seen h (first_in h gone)) is holds went
    (came_from stay origin line gone stays next after (λ g among. seen g (later_in h g gone among)) went.stock
    (holds_rest stay h (gone ++ stays) s next (went_brings line h s next is went) holds) all)

-- They came back, from this thread state on.
pub came_back : SlotsStaySeen → (line : ℕ) (gone stays : List Handle) (s after : StockValue) → IsStock s → IsAware s.view →
    HasItsStake s → HoldsQueue (gone ++ stays) s → AllWentBack line gone s after → CameBack line gone stays s after
came_back stay line gone stays s after is aware stake holds went =
    came_from stay s line gone stays s after
    (λ h among. slot_entries s h aware stake (holds.each h (Contains-append_left gone stays h among)).made) is holds went
