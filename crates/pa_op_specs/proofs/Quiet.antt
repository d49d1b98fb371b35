-- An op that enters nothing in any list, and gives nothing back, does what it should.
use Rattle.std.proofs.Common.{◌≡◌, ℕ, ◌≤◌, Bool, true, false, List, [], ◌∷◌, map, Some, refl, sym, ◌∙◌, ap, subst, arith, inl, inr}
use Rattle.std.specs.Prelude.{◌==◌, Contains, filter, nat_lt, if◌then◌else◌}
use Rattle.std.proofs.lemmas.List.{append-nil}
use Rattle.std.proofs.lemmas.Bool.Decides.{nat_tests}
use Rattle.pa_slot.specs.declared.title.Title.{Title}
use Rattle.pa_slot.specs.Run.{Mark}
use Rattle.pa_trace.specs.declared.script.Op.{Op}
use Rattle.pa_record.specs.declared.entry.Answer.{Answer}
use Rattle.pa_record.specs.declared.entry.Answer.TheVariants as answers
use Rattle.pa_record.specs.declared.root.RootEntry.{RootEntry}
use Rattle.pa_lists.proofs.Members.{in_cases, not_in_none, first_in, later_in}
use Rattle.pa_region.specs.declared.view.Entry.{Entry}
use Rattle.pa_region.specs.declared.view.Entry.TheVariants.{Counted, Looked, Read, Added, Entered, Uncut}
use Rattle.pa_region.specs.declared.view.Made.{Made}
use Rattle.pa_region.specs.declared.view.View.{View}
use Rattle.pa_region.specs.Views.{seen_of}
use Rattle.pa_region.specs.Lists.{list_of, list_among, entered_in}
use Rattle.pa_rules.specs.Played.{mark_of_answer}
use Rattle.pa_rules.specs.Registers.{Row}
use Rattle.pa_rules.specs.Caches.{CacheRow, NoActs, SameLists, acts_of}
use Rattle.pa_rules.specs.Report.{HasSize}
use Rattle.pa_logs.specs.Told.{ToldRecord}
use Rattle.pa_logs.specs.Touches.{IsToldBy}
use Rattle.pa_logs.specs.Indices.{Enters}
use Rattle.pa_root.specs.Handing.{at_number_seen}
use Rattle.pa_logs.specs.Said.{ReadsIts}
use Rattle.pa_op_specs.specs.Stocks.{StockRegister, StockValue, WorkerLists, HoldsLists, titles_in, listed_in, regs_of, rules_at}
use Rattle.pa_op_specs.specs.Outcomes.{Outcome, IsOutcome, IsSeenOf, ActsAreOf, row_facts}
use Rattle.pa_op_specs.specs.Entering.{EntersCells}
use Rattle.pa_op_specs.specs.Owing.{OwesOf, AddsNothing, KeepsWords}
use Rattle.pa_op_specs.specs.Plays.{IsApart, KeepsApart, Does, DoesOp}
use Rattle.pa_step_order.proofs.Shaping.{shapes_have_signs}
use Rattle.pa_op_specs.proofs.Touching.{Touches, Touched}

-- entries that touch enter nothing
entered_none : (q : ℕ) (es : List Entry) (v w : View) → ((e : Entry) → Contains es e → Touches v w e) → entered_in q es ≡ []
entered_none q [] v w each = refl
entered_none q (Counted t step found value ∷ es) v w each = entered_none q es v w (λ e among. each e (later_in _ e es among))
entered_none q (Looked t found ∷ es) v w each = entered_none q es v w (λ e among. each e (later_in _ e es among))
entered_none q (Read t place value since owned unclean ∷ es) v w each = entered_none q es v w (λ e among. each e (later_in _ e es among))
entered_none q (Added word bytes ∷ es) v w each = absurd (each (Added word bytes) (first_in _ es))
entered_none q (Entered keeper made ∷ es) v w each = absurd (each (Entered keeper made) (first_in _ es))
entered_none q (Uncut t ∷ es) v w each = absurd (each (Uncut t) (first_in _ es))

-- the lists are as they were, if the numbers of free titles are
pub same_titles : (v w : View) (ts : List Title) → ((t : Title) → Contains ts t → seen_of w t ≡ seen_of v t) →
    map (at_number_seen w) ts ≡ map (at_number_seen v) ts
same_titles v w [] each = refl
same_titles v w (t ∷ ts) each =
    let again = same_titles v w ts (λ u among. each u (later_in t u ts among)) in
    let here : at_number_seen w t ≡ at_number_seen v t =
    ap (λ n. record { slot = record { start = t.start; born = t.born }; number = n }) (each t (first_in t ts)) in
    ap (λ m. m ∷ map (at_number_seen w) ts) here ∙ ap (λ ms. at_number_seen v t ∷ ms) again

-- A record of a worker's op with such a log segment.
abbrev pub quiet_record : StockValue → View → ℕ → ℕ → Op → Answer → List Entry → ToldRecord
quiet_record s w line phase op answer es = record {
  played = record { line = line; thread = s.thread; phase = phase; rules = rules_at s; op = op; answer = answer };
  stretch = es;
  saw = λ t. seen_of s.view t;
  gives = λ t. seen_of w t;
}

-- What is left to say of it, in a run that fits.
pub record Says (o : Outcome) (s after : StockValue) (x : ToldRecord) : Type 0 where
  pub told : IsToldBy o.sizes x.played.op x.played.answer x.stretch
  pub row : Row (row_facts o) x.played.op (regs_of s.registers) x.played.answer (regs_of after.registers)
  pub reader : ReadsIts o.sizes (regs_of s.registers) x.played.op x
  pub home : (m : Mark) → mark_of_answer x.played.line x.played.op x.played.answer ≡ Some m → (p : ℕ) ×
      HasSize o.roots p m.slot (o.sizes m.slot)

-- no act is of the line of a record that entered nothing
no_acts : (o : Outcome) (x : ToldRecord) → IsOutcome o → ActsAreOf o x → ((q : ℕ) → entered_in q x.stretch ≡ []) →
    NoActs o.roots x.played.line
no_acts o x is acts none q = go (nat_lt q 4) refl
  where
    go : (b : Bool) → nat_lt q 4 ≡ b → acts_of o.roots x.played.line q ≡ []
    go true low = acts q [] (grind (arith, nat_tests)) (ap (λ (ms : List Made). map (λ m. m.numbers) ms) (none q))
    go false high =
        let past : o.partitions ≤ q = let few = is.few in let far : 4 ≤ q = grind (arith, nat_tests) in omega arith in
        ap (λ (es : List RootEntry). map (λ (e : RootEntry). e.act) (filter (λ (e : RootEntry). e.line == x.played.line) es))
        (is.past q past)

-- if no act is of a line, no entry is
kept_of_line : (es : List RootEntry) (line : ℕ) (e : RootEntry) → Contains es e → e.line ≡ line →
    map (λ (f : RootEntry). f.act) (filter (λ (f : RootEntry). f.line == line) es) ≡ [] → ⊥
kept_of_line [] line e among is none = not_in_none e among
kept_of_line (f ∷ es) line e among is none =
    go (f.line == line) refl (λ later empty. kept_of_line es line e later is empty) none
  where
    go : (b : Bool) → (f.line == line) ≡ b →
        (Contains es e → map (λ (g : RootEntry). g.act) (filter (λ (g : RootEntry). g.line == line) es) ≡ [] → ⊥) →
        map (λ (g : RootEntry). g.act)
        (if b then f ∷ filter (λ (g : RootEntry). g.line == line) es else filter (λ (g : RootEntry). g.line == line) es) ≡ [] → ⊥
    go true y again empty = cc
    go false differs again empty = elim (in_cases f e es among) [
      | inl same ↦ (let here : f.line ≡ line = ap (λ (g : RootEntry). g.line) same ∙ is in grind (arith, nat_tests))
      | inr later ↦ again later empty
    ]

-- the op is no exchange, and wasn't refused for lack of room
pub record IsQuiet (op : Op) (answer : Answer) : Type 0 where
  pub room : (j : ℕ) → answer ≡ answers.Full j → ⊥
  pub no_swap : (j : ℕ) → answer ≡ answers.Swapped j → ⊥
  pub cells : (list : List Made) (x : ToldRecord) → entered_in 5 x.stretch ≡ [] → EntersCells op list x

-- a title that is free and on no list stays so, if it isn't on one of the lists after the op
pub touched_apart : (s : StockValue) (w : View) (registers : List StockRegister) (caches : WorkerLists) (es : List Entry) →
    Touched s.thread es s.view w →
    ((t : Title) → IsApart t s → (p class : ℕ) → Contains (titles_in caches p class) t → ⊥) →
    KeepsApart s (record s { view = w; registers = registers; caches = caches })
touched_apart s w registers caches es touched off t is = (
  record { free = let a = is.free in let b = touched.frees t in omega arith; off = off t is; well = is.well },
  touched.numbers t is.free,
)

-- all that the op does but for its thread's lists
pub touched_some : (s : StockValue) (w : View) (registers : List StockRegister) (caches : WorkerLists) (op : Op) (answer : Answer)
    (es : List Entry) →
    caches.version ≡ s.caches.version → Touched s.thread es s.view w → IsQuiet op answer → OwesOf s.registers op answer es →
    KeepsWords answer s.view w →
    ((line phase : ℕ) (o : Outcome) → IsOutcome o → rules_at s ≡ o.rules → IsSeenOf o w →
    Says o s (record s { view = w; registers = registers; caches = caches }) (quiet_record s w line phase op answer es)) →
    (line phase : ℕ) →
    Does s (record s { view = w; registers = registers; caches = caches }) (quiet_record s w line phase op answer es) × AddsNothing es
touched_some s w registers caches op answer es kept touched quiet owes words says line phase = (
  record {
    thread = refl;
    same = (refl, refl, refl);
    version = kept;
    stakes = touched.stakes;
    logs = touched.logs;
    lists = λ k. ([], ap (list_among k) touched.lists ∙ sym (append-nil (list_of k s.view)));
    seen = record {
      saw = λ t. refl;
      knows = λ t. omega arith;
      carries = λ m t among. absurd (not_in_none m (subst (λ ms. Contains ms m) (none 5) among));
      steps = λ t step found value among. touched.each (Counted t step found value) among;
      looks = λ t found among. touched.each (Looked t found) among;
      grows = touched.grows;
    };
    enters = record {
      lines = λ q m among. absurd (not_in_none m (subst (λ ms. Contains ms m) (none q) among));
      fills = λ p m e low among says. absurd (not_in_none m (subst (λ ms. Contains ms m) (none p) among));
      asked = (it, inl (record { pools = refl; roots = λ p. refl }));
      refused = λ j reg p size full asks. absurd (quiet.room j full);
      uncuts = λ t among. absurd (touched.each (Uncut t) among);
      cells = quiet.cells (list_of 5 w) x (none 5);
    };
    homes = λ p past low. inl (none p);
    owes = owes;
    words = words;
    answers = λ o fits.
        let here = no_acts o x fits.run fits.acts none in
        let say = says line phase o fits.run fits.rules fits.seen in
        record {
          told = say.told;
          row = say.row;
          reader = say.reader;
          unmaps = λ seen p asked slot e is among on act. absurd (kept_of_line (o.roots p) line e among on (here p));
          makes = λ p m e low among is. absurd (not_in_none m (subst (λ ms. Contains ms m) (none p) among));
          home = say.home;
        };
  },
  λ word bytes among. touched.each (Added word bytes) among,
)
  where
    x : ToldRecord
    x = quiet_record s w line phase op answer es

    none : (q : ℕ) → entered_in q es ≡ []
    none q = entered_none q es s.view w touched.each

    it : Enters x
    it = record {
      roots = λ p. [];
      pools = [];
      roots_are = λ p low. ap (λ (ms : List Made). map (λ m. m.numbers) ms) (none p);
      pools_are = ap (λ (ms : List Made). map (λ m. m.numbers) ms) (none 4);
    }

-- The op does what it should if besides it leads the lists, in a run in which no entry is of its line.
pub touched_does : (s : StockValue) (w : View) (registers : List StockRegister) (caches : WorkerLists) (op : Op) (answer : Answer)
    (es : List Entry) →
    caches.version ≡ s.caches.version → Touched s.thread es s.view w → IsQuiet op answer → OwesOf s.registers op answer es →
    KeepsWords answer s.view w → KeepsApart s (record s { view = w; registers = registers; caches = caches }) →
    ((line phase : ℕ) (o : Outcome) → IsOutcome o → rules_at s ≡ o.rules → IsSeenOf o w →
    Says o s (record s { view = w; registers = registers; caches = caches }) (quiet_record s w line phase op answer es)) →
    ((line phase : ℕ) (o : Outcome) → IsOutcome o → rules_at s ≡ o.rules → IsSeenOf o w → NoActs o.roots line →
    CacheRow o.partitions o.roots (quiet_record s w line phase op answer es).played answer (listed_in s)
    (listed_in (record s { view = w; registers = registers; caches = caches }))) →
    (line : ℕ) → DoesOp line op answer s (record s { view = w; registers = registers; caches = caches })
touched_does s w registers caches op answer es kept touched quiet owes words apart says leads line phase =
    let x = quiet_record s w line phase op answer es in
    let (does, adds) = touched_some s w registers caches op answer es kept touched quiet owes words says line phase in
    let none : (q : ℕ) → entered_in q es ≡ [] = λ q. entered_none q es s.view w touched.each in (
      x,
      refl,
      does,
      record {
        apart = apart;
        signs = λ o fits. shapes_have_signs.quiet o.sizes o.partitions o.roots x (says line phase o fits.run fits.rules fits.seen).told none
            (no_acts o x fits.run fits.acts none) quiet.no_swap;
        row = λ o fits. leads line phase o fits.run fits.rules fits.seen (no_acts o x fits.run fits.acts none);
      },
      adds,
    )

-- what a quiet op does, if the lists are as they were
pub quiet_does : (s : StockValue) (w : View) (registers : List StockRegister) (op : Op) (answer : Answer) (es : List Entry) →
    HoldsLists s.caches s.view → Touched s.thread es s.view w → IsQuiet op answer → OwesOf s.registers op answer es →
    KeepsWords answer s.view w →
    ((line phase : ℕ) (o : Outcome) → IsOutcome o → rules_at s ≡ o.rules → IsSeenOf o w →
    Says o s (record s { view = w; registers = registers }) (quiet_record s w line phase op answer es)) →
    ((line phase : ℕ) (o : Outcome) → NoActs o.roots line →
    SameLists (listed_in (record s { view = w; registers = registers })) (listed_in s) →
    CacheRow o.partitions o.roots (quiet_record s w line phase op answer es).played answer (listed_in s)
    (listed_in (record s { view = w; registers = registers }))) →
    (line : ℕ) → DoesOp line op answer s (record s { view = w; registers = registers })
quiet_does s w registers op answer es lists touched quiet owes words says leads =
    touched_does s w registers s.caches op answer es refl touched quiet owes words
    (touched_apart s w registers s.caches es touched (λ t is. is.off)) says
    (λ line phase o run rules sees none. leads line phase o none
    (λ p c. same_titles s.view w (titles_in s.caches p c) (λ t among. touched.numbers t (lists.free p c t among))))
