-- An op whose log segment makes entries in the lists of roots and of the pool does what it should.
use Rattle.std.proofs.Common.{◌≡◌, ℕ, ◌+◌, ◌<◌, ◌≤◌, Bool, true, false, List, [], ◌∷◌, ◌++◌, refl, sym, ◌∙◌, ap, subst, arith, inl, inr, map, ◌⊎◌, append_assoc}
use Rattle.std.specs.Prelude.{◌==◌, Contains, filter, nat_lt, if◌then◌else◌}
use Rattle.std.proofs.lemmas.List.{append-nil}
use Rattle.pa_slot.specs.declared.title.Title.{Title}
use Rattle.pa_slot.specs.Titles.{IsWellFormed}
use Rattle.pa_slot.specs.Holdings.{one}
use Rattle.pa_region.specs.declared.view.View.{View}
use Rattle.pa_region.specs.Views.{free_of, seen_of, stake_of}
use Rattle.pa_region.specs.Lists.{list_of, IsBeginning, list_among, entry_in, entered_in}
use Rattle.pa_region.specs.Takes.{log_of}
use Rattle.pa_op_specs.specs.Stocks.{StockValue, listed_in}
use Rattle.std.proofs.lemmas.List.Elements.{Contains-append_cases}
use Rattle.std.proofs.lemmas.Bool.Decides.{nat_tests}
use Rattle.pa_slot.specs.Count.{number_of}
use Rattle.pa_trace.specs.declared.script.Op.{Op}
use Rattle.pa_trace.specs.declared.script.Op.TheVariants as ops
use Rattle.pa_record.specs.declared.entry.Answer.{Answer}
use Rattle.pa_record.specs.declared.entry.Answer.TheVariants as answers
use Rattle.pa_record.specs.declared.numbered.Numbered.{Numbered}
use Rattle.pa_record.specs.declared.pool.PoolEntry.{PoolEntry}
use Rattle.pa_record.specs.declared.root.RootAct.{RootAct}
use Rattle.pa_record.specs.declared.root.RootAct.TheVariants.{Unmap}
use Rattle.pa_record.specs.declared.root.RootEntry.{RootEntry}
use Rattle.pa_record.specs.Numbers.{root_numbers}
use Rattle.pa_lists.proofs.Members.{in_cases, not_in_none, first_in, later_in}
use Rattle.pa_record.proofs.OneEntry.{one_root}
use Rattle.pa_region.specs.declared.view.Entry.{Entry}
use Rattle.pa_region.specs.declared.view.Entry.TheVariants.{Counted, Looked, Read, Added, Entered, Uncut}
use Rattle.pa_region.specs.declared.view.Made.{Made}
use Rattle.pa_region.specs.Lending.{Lends}
use Rattle.pa_region.proofs.LendBack.{begins_on}
use Rattle.pa_rules.specs.declared.played.Played.{Played}
use Rattle.pa_rules.specs.Caches.{acts_of, OnlyActs, CacheRow}
use Rattle.pa_rules.specs.Roots.{Journals, MakesEntry}
use Rattle.pa_legal.specs.Flows.{UnmapsNext}
use Rattle.pa_logs.specs.Told.{ToldRecord}
use Rattle.pa_logs.specs.Listed.{line_of, first_of}
use Rattle.pa_logs.specs.Indices.{Enters, AskedNone, AskedOnce, IsFullAt}
use Rattle.pa_logs.specs.Standing.{Unmaps}
use Rattle.pa_step_order.specs.Signs.{HasItsSigns}
use Rattle.pa_root.specs.Making.{EntersOne, EntersTwo}
use Rattle.pa_root.specs.Handing.{root_entry}
use Rattle.pa_op_specs.specs.Outcomes.{Outcome, IsOutcome, IsSeenOf, ActsAreOf, FillsFrom}
use Rattle.pa_op_specs.specs.Entering.{EntersCells, HasSeenSome}
use Rattle.pa_op_specs.specs.Owing.{OwesOf, AddsNothing, KeepsWords}
use Rattle.pa_op_specs.specs.Plays.{KeepsApart, Does, DoesOp, AnswersIn}
use Rattle.pa_op_specs.proofs.Touching.{Touches, Touched}
use Rattle.pa_op_specs.proofs.Quiet.{quiet_record}

-- What stays of a view when no log gets an entry: stakes and logs. It has seen all that it had, and no more of the titles that
-- it holds free, which are no fewer.
pub record Rests (v w : View) : Type 0 where
  pub stakes : (k : ℕ) → stake_of w k ≡ stake_of v k
  pub logs : (k : ℕ) → log_of k w ≡ log_of k v
  pub lists : (k : ℕ) → IsBeginning (list_of k v) (list_of k w)
  pub grows : (t : Title) → seen_of v t ≤ seen_of w t
  pub frees : (t : Title) → free_of v t ≤ free_of w t
  pub numbers : (n : ℕ) (t : Title) → IsWellFormed n t → 0 < free_of v t → seen_of w t ≡ seen_of v t
  pub budget : v.budget ≤ w.budget

-- What an entry of such a log segment says. A step or a look finds nothing older than was seen before, and what it leaves is
-- seen after. An entry of a list, below the cells', is of this line. Nothing is added to a total.
abbrev pub TellsOf : ℕ → View → View → Entry → Type 0
TellsOf line v w (Counted t step found value) = (seen_of v t ≤ number_of found) × (number_of found + 1 ≤ seen_of w t)
TellsOf line v w (Looked t found) = (seen_of v t ≤ number_of found) × (number_of found ≤ seen_of w t)
TellsOf line v w (Read t place value since owned unclean) = Unit {0}
TellsOf line v w (Added word bytes) = ⊥
TellsOf line v w (Entered keeper made) = (keeper < 5) × (line_of made ≡ line)
TellsOf line v w (Uncut t) = Unit {0}

-- The view w is what is left of v when these entries were made in the log of a stake, on this line.
pub record Entering (stake line : ℕ) (es : List Entry) (v w : View) : Type 0 where
  pub logs : (k : ℕ) → log_of k w ≡ log_of k v ++ (if k == stake then es else [])
  pub stakes : (k : ℕ) → stake_of w k ≡ stake_of v k
  pub lists : (k : ℕ) → IsBeginning (list_of k v) (list_of k w)
  pub grows : (t : Title) → seen_of v t ≤ seen_of w t
  pub each : (e : Entry) → Contains es e → TellsOf line v w e

-- ---- how a log segment comes about

pub if_none : (stake k : ℕ) (log : List Entry) → log ≡ log ++ (if k == stake then [] else [])
if_none stake k log = go (k == stake)
  where
    go : (b : Bool) → log ≡ log ++ (if b then [] else [])
    go true = sym (append-nil log)
    go false = sym (append-nil log)

-- nothing was done, or handles and titles went out and came back
pub entering_none : (stake line : ℕ) (v : View) → Entering stake line [] v v
entering_none stake line v = record {
  logs = λ k. if_none stake k (log_of k v);
  stakes = λ k. refl;
  lists = λ k. ([], sym (append-nil (list_of k v)));
  grows = λ t. omega arith;
  each = λ e among. absurd (not_in_none e among);
}

pub rests_enters : (stake line : ℕ) (v w : View) → Rests v w → Entering stake line [] v w
rests_enters stake line v w rests = record {
  logs = λ k. rests.logs k ∙ if_none stake k (log_of k v);
  stakes = rests.stakes;
  lists = rests.lists;
  grows = rests.grows;
  each = λ e among. absurd (not_in_none e among);
}

-- steps, looks and reads were made
touch_tells : (line : ℕ) (v w : View) (e : Entry) → Touches v w e → TellsOf line v w e
touch_tells line v w (Counted t step found value) is = is
touch_tells line v w (Looked t found) is = is
touch_tells line v w (Read t place value since owned unclean) is = tt
touch_tells line v w (Added word bytes) is = is
touch_tells line v w (Entered keeper made) is = absurd is
touch_tells line v w (Uncut t) is = absurd is

pub touched_enters : (stake line : ℕ) (es : List Entry) (v w : View) → Touched stake es v w → Entering stake line es v w
touched_enters stake line es v w touched = record {
  logs = touched.logs;
  stakes = touched.stakes;
  lists = λ k. ([], ap (list_among k) touched.lists ∙ sym (append-nil (list_of k v)));
  grows = touched.grows;
  each = λ e among. touch_tells line v w e (touched.each e among);
}

-- the stake was lent, and came back with these entries
pub lends_enters : (stake line : ℕ) (es : List Entry) (v w : View) → Lends stake es v w →
    ((e : Entry) → Contains es e → TellsOf line v w e) →
    Entering stake line es v w
lends_enters stake line es v w lends each = record {
  logs = lends.logs;
  stakes = lends.keeps.stakes;
  lists = lends.keeps.lists;
  grows = lends.keeps.seen;
  each = each;
}

-- one entry was made in a root's list
pub one_enters : (j r p line : ℕ) (act : RootAct) (v w : View) (it : EntersOne j r p (root_entry line act) v w) → p < 5 →
    Entering r line (Entered p it.made ∷ []) v w
one_enters j r p line act v w it low = lends_enters r line (Entered p it.made ∷ []) v w it.lends
    (λ e among. elim (in_cases (Entered p it.made) e [] among) [
      | inl same ↦ subst (TellsOf line v w) same (low, ap first_of it.is_made.says)
      | inr none ↦ absurd (not_in_none e none)
    ])

-- an entry of the pool and then one in a root's list, after what was done first
pub two_enters : (asked j r p line : ℕ) (first : List Entry) (taken : PoolEntry) (act : RootAct) (v w : View)
    (it : EntersTwo asked j r p first taken (root_entry line act) v w) → p < 5 → taken.line ≡ line →
    ((e : Entry) → Contains first e → TellsOf line v w e) →
    Entering r line (first ++ (Entered 4 it.pool ∷ Entered p it.made ∷ [])) v w
two_enters asked j r p line first taken act v w it low same before =
    lends_enters r line (first ++ (Entered 4 it.pool ∷ Entered p it.made ∷ [])) v w it.lends
    (λ e among. elim (Contains-append_cases first (Entered 4 it.pool ∷ Entered p it.made ∷ []) e among) [
      | inl sooner ↦ before e sooner
      | inr later ↦ elim (in_cases (Entered 4 it.pool) e (Entered p it.made ∷ []) later) [
        | inl pool ↦ subst (TellsOf line v w) pool (omega arith, ap first_of it.is_pool.says ∙ same)
        | inr last ↦ elim (in_cases (Entered p it.made) e [] last) [
          | inl root ↦ subst (TellsOf line v w) root (low, ap first_of it.is_made.says)
          | inr none ↦ absurd (not_in_none e none)
        ]
      ]
    ])

-- an entry still says so of what was seen before that, and after
tells_more : (line : ℕ) (v u w x : View) (e : Entry) → ((t : Title) → seen_of v t ≤ seen_of u t) →
    ((t : Title) → seen_of w t ≤ seen_of x t) →
    TellsOf line u w e → TellsOf line v x e
tells_more line v u w x (Counted t step found value) before after is = let a = before t in let b = after t in (omega arith, omega arith)
tells_more line v u w x (Looked t found) before after is = let a = before t in let b = after t in (omega arith, omega arith)
tells_more line v u w x (Read t place value since owned unclean) before after is = tt
tells_more line v u w x (Added word bytes) before after is = is
tells_more line v u w x (Entered keeper made) before after is = is
tells_more line v u w x (Uncut t) before after is = is

-- one log segment, and then another
pub entering_both : (stake line : ℕ) (es fs : List Entry) (v u w : View) → Entering stake line es v u → Entering stake line fs u w →
    Entering stake line (es ++ fs) v w
entering_both stake line es fs v u w one two = record {
  logs = λ k. two.logs k ∙ (ap (λ log. log ++ (if k == stake then fs else [])) (one.logs k) ∙ go (log_of k v) (k == stake));
  stakes = λ k. two.stakes k ∙ one.stakes k;
  lists = λ k. begins_on (list_of k v) (list_of k u) (list_of k w) (one.lists k) (two.lists k);
  grows = λ t. let a = one.grows t in let b = two.grows t in omega arith;
  each = λ e among. elim (Contains-append_cases es fs e among) [
    | inl first ↦ tells_more line v v u w e (λ t. omega arith) two.grows (one.each e first)
    | inr second ↦ tells_more line v u w w e one.grows (λ t. omega arith) (two.each e second)
  ];
}
  where
    go : (log : List Entry) (b : Bool) → (log ++ (if b then es else [])) ++ (if b then fs else []) ≡ log ++ (if b then es ++ fs else [])
    go log true = append_assoc log es fs
    go log false = append-nil (log ++ [])

-- ---- what a log segment entered

-- entries of one list are those of that list, and of no other
pub entered_here : (p : ℕ) (ms : List Made) → entered_in p (map (Entered p) ms) ≡ ms
entered_here p [] = refl
entered_here p (m ∷ ms) = go (p == p) refl (entered_here p ms)
  where
    go : (b : Bool) → (p == p) ≡ b → entered_in p (map (Entered p) ms) ≡ ms → (if b then m ∷ [] else []) ++
        entered_in p (map (Entered p) ms) ≡ m ∷ ms
    go true is again = ap (λ xs. m ∷ xs) again
    go false differs again = absurd (grind (arith, nat_tests))

pub entered_elsewhere : (p q : ℕ) (ms : List Made) → (q ≡ p → ⊥) → entered_in q (map (Entered p) ms) ≡ []
entered_elsewhere p q [] other = refl
entered_elsewhere p q (m ∷ ms) other = go (p == q) refl (entered_elsewhere p q ms other)
  where
    go : (b : Bool) → (p == q) ≡ b → entered_in q (map (Entered p) ms) ≡ [] → (if b then m ∷ [] else []) ++
        entered_in q (map (Entered p) ms) ≡ []
    go true is again = absurd (other (grind (arith, nat_tests)))
    go false is again = again

-- each is an entry of the log segment
pub entered_from : (q : ℕ) (es : List Entry) (m : Made) → Contains (entered_in q es) m → Contains es (Entered q m)
entered_from q [] m among = absurd (not_in_none m among)
entered_from q (e ∷ es) m among = elim (Contains-append_cases (entry_in q e) (entered_in q es) m among) [
  | inl here ↦ subst (λ f. Contains (f ∷ es) (Entered q m)) (sym (is_it e here)) (first_in (Entered q m) es)
  | inr later ↦ later_in e (Entered q m) es (entered_from q es m later)
]
  where
    is_it : (e : Entry) → Contains (entry_in q e) m → e ≡ Entered q m
    is_it (Counted t step found value) none = absurd (not_in_none m none)
    is_it (Looked t found) none = absurd (not_in_none m none)
    is_it (Read t place value since owned unclean) none = absurd (not_in_none m none)
    is_it (Added word bytes) none = absurd (not_in_none m none)
    is_it (Uncut t) none = absurd (not_in_none m none)
    is_it (Entered keeper made) here = go (keeper == q) refl here
      where
        go : (b : Bool) → (keeper == q) ≡ b → Contains (if b then made ∷ [] else []) m → Entered keeper made ≡ Entered q m
        go true is here =
            let k : keeper ≡ q = grind (arith, nat_tests) in
            elim (in_cases made m [] here) [
              | inl same ↦ ap (λ n. Entered n made) k ∙ ap (Entered q) same
              | inr none ↦ absurd (not_in_none m none)
            ]
        go false is none = absurd (not_in_none m none)

-- none is in the cells' list
pub cells_none : (stake line : ℕ) (es : List Entry) (v w : View) → Entering stake line es v w → entered_in 5 es ≡ []
cells_none stake line es v w entering = go es entering.each
  where
    go : (es : List Entry) → ((e : Entry) → Contains es e → TellsOf line v w e) → entered_in 5 es ≡ []
    go [] each = refl
    go (Counted t step found value ∷ es) each = go es (λ e among. each e (later_in _ e es among))
    go (Looked t found ∷ es) each = go es (λ e among. each e (later_in _ e es among))
    go (Read t place value since owned unclean ∷ es) each = go es (λ e among. each e (later_in _ e es among))
    go (Added word bytes ∷ es) each = absurd (each (Added word bytes) (first_in _ es))
    go (Uncut t ∷ es) each = go es (λ e among. each e (later_in _ e es among))
    go (Entered keeper made ∷ es) each =
        here (keeper == 5) refl (each (Entered keeper made) (first_in _ es)).0 (go es (λ e among. each e (later_in _ e es among)))
      where
        here : (b : Bool) → (keeper == 5) ≡ b → keeper < 5 → entered_in 5 es ≡ [] → (if b then made ∷ [] else []) ++ entered_in 5 es ≡ []
        here true is low again = absurd (let e : keeper ≡ 5 = grind (arith, nat_tests) in omega arith)
        here false is low again = again

-- ---- the acts of a record's line, in a run that fits

-- what these entries did
abbrev pub acts_in : List RootEntry → List RootAct
acts_in es = map (λ (e : RootEntry). e.act) es

-- In each journal the acts of the line are those that the record entered. Past the fourth there are none.
pub record LineActs (o : Outcome) (x : ToldRecord) (it : Enters x) : Type 0 where
  pub here : (p : ℕ) → p < 4 → acts_of o.roots x.played.line p ≡ acts_in (it.roots p)
  pub past : (p : ℕ) → 4 ≤ p → acts_of o.roots x.played.line p ≡ []

pub line_acts : (o : Outcome) (x : ToldRecord) (it : Enters x) → IsOutcome o → ActsAreOf o x → LineActs o x it
line_acts o x it is acts = record {
  here = λ p low. acts p (it.roots p) low (it.roots_are p low);
  past = λ p high.
      let past : o.partitions ≤ p = let few = is.few in omega arith in
      ap (λ (es : List RootEntry). acts_in (filter (λ (e : RootEntry). e.line == x.played.line) es)) (is.past p past);
}

-- there are no acts of the line in a journal in which the record entered none
pub none_here : (o : Outcome) (x : ToldRecord) (it : Enters x) → LineActs o x it → (p : ℕ) → it.roots p ≡ [] →
    acts_of o.roots x.played.line p ≡ []
none_here o x it acts p none = go (nat_lt p 4) refl
  where
    go : (b : Bool) → nat_lt p 4 ≡ b → acts_of o.roots x.played.line p ≡ []
    go true is = acts.here p (grind (arith, nat_tests)) ∙ ap acts_in none
    go false is = acts.past p (grind (arith, nat_tests))

-- only these, if it entered them in one journal and none in another
pub only_acts : (o : Outcome) (x : ToldRecord) (it : Enters x) (p : ℕ) (es : List RootEntry) → LineActs o x it → p < 4 → it.roots p ≡ es →
    ((q : ℕ) → (q ≡ p → ⊥) → it.roots q ≡ []) → OnlyActs o.roots x.played.line p (acts_in es)
only_acts o x it p es acts low here none = (acts.here p low ∙ ap acts_in here, (λ q other. none_here o x it acts q (none q other)))

-- an entry of the line has one of these acts
pub act_on : (es : List RootEntry) (line : ℕ) (e : RootEntry) → Contains es e → e.line ≡ line →
    Contains (acts_in (filter (λ (f : RootEntry). f.line == line) es)) e.act
act_on [] line e among is = absurd (not_in_none e among)
act_on (f ∷ es) line e among is = go (f.line == line) refl (λ later. act_on es line e later is)
  where
    go : (b : Bool) → (f.line == line) ≡ b → (Contains es e → Contains (acts_in (filter (λ (g : RootEntry). g.line == line) es)) e.act) →
        Contains (acts_in (if b then f ∷ filter (λ (g : RootEntry). g.line == line) es else filter (λ (g : RootEntry). g.line == line) es))
        e.act
    go true here again = elim (in_cases f e es among) [
      | inl same ↦ subst (λ (g : RootEntry). Contains (f.act ∷ acts_in (filter (λ (h : RootEntry). h.line == line) es)) g.act) same
          (first_in f.act _)
      | inr later ↦ later_in f.act e.act _ (again later)
    ]
    go false differs again = elim (in_cases f e es among) [
      | inl same ↦ absurd (let here : f.line ≡ line = ap (λ (g : RootEntry). g.line) same ∙ is in grind (arith, nat_tests))
      | inr later ↦ again later
    ]

-- if no act of the line unmaps, and if one does at the number that the step left
pub unmaps_next : (roots : Journals) (x : Played) →
    ((p asked : ℕ) (slot : Numbered) → Contains (acts_of roots x.line p) (Unmap asked slot) → (seen : _) → x.answer ≡ answers.Done seen →
    slot.number ≡ number_of seen.found.0 + 1) → UnmapsNext roots x
unmaps_next roots x says seen p asked slot e done among on act =
    says p asked slot (subst (λ a. Contains (acts_of roots x.line p) a) act (act_on (roots p) x.line e among on)) seen done

-- what it entered in a journal is so, if each of these is
entered_each : (x : ToldRecord) (it : Enters x) (P : ℕ → RootAct → Type 0) →
    ((p : ℕ) (e : RootEntry) → p < 4 → Contains (it.roots p) e → P p e.act) →
    (p : ℕ) (m : Made) (e : RootEntry) → p < 4 → Contains (entered_in p x.stretch) m → m.numbers ≡ root_numbers e → P p e.act
entered_each x it P each p m e low among says =
    let (f, there, same) = at_numbers (entered_in p x.stretch) (it.roots p) m (it.roots_are p low) among in
    subst (λ (g : RootEntry). P p g.act) {x = f} (one_root f e (sym same ∙ says)) (each p f low there)
  where
    at_numbers : (ms : List Made) (fs : List RootEntry) (m : Made) → map (λ (n : Made). n.numbers) ms ≡ map root_numbers fs →
        Contains ms m →
        (f : RootEntry) × Contains fs f × (m.numbers ≡ root_numbers f)
    at_numbers [] fs m are among = absurd (not_in_none m among)
    at_numbers (n ∷ ms) [] m are among = absurd cc
    at_numbers (n ∷ ms) (f ∷ fs) m are among =
        let head : n.numbers ≡ root_numbers f = cc in
        let tail : map (λ (k : Made). k.numbers) ms ≡ map root_numbers fs = cc in
        elim (in_cases n m ms among) [
          | inl same ↦ (f, first_in f fs, ap (λ (k : Made). k.numbers) (sym same) ∙ head)
          | inr later ↦ (let (g, there, is) = at_numbers ms fs m tail later in (g, later_in f g fs there, is))
        ]

-- its op makes it, if that makes each of these
pub makes_each : (x : ToldRecord) (it : Enters x) (pools : List PoolEntry) →
    ((p : ℕ) (e : RootEntry) → p < 4 → Contains (it.roots p) e → MakesEntry pools p e.act x.played) →
    (p : ℕ) (m : Made) (e : RootEntry) → p < 4 → Contains (entered_in p x.stretch) m → m.numbers ≡ root_numbers e →
    MakesEntry pools p e.act x.played
makes_each x it pools each = entered_each x it (λ p act. MakesEntry pools p act x.played) each

-- ---- the op

-- What is left to say of a record whose log segment is as above.
--   cells: its op is no exchange
--   it, asked: what it entered in the lists of the roots and the pool, which it asked at most once
--   fills: a fill is of a class of its rules' version
--   refused: a record that is full names its entry
--   uncuts: a title that was uncut is one that it unmaps
--   homes: in the journal of a partition past the run's it made no entry, or its seat had seen one there before
--   owes, words: it owes what its step does, and a refusal changes no known word
--   answers: in each run in which the acts of its line are these
pub record SaysEntered (s after : StockValue) (x : ToldRecord) : Type 0 where
  pub cells : (list : List Made) → entered_in 5 x.stretch ≡ [] → EntersCells x.played.op list x
  pub it : Enters x
  pub fills : (p : ℕ) (e : RootEntry) → p < 4 → Contains (it.roots p) e → FillsFrom x.played.rules.version e.act
  pub asked : AskedNone x it ⊎ AskedOnce (list_of 4 after.view) x it
  pub refused : (j reg p size : ℕ) → x.played.answer ≡ answers.Full j → x.played.op ≡ ops.Alloc reg p size →
      (p < 4) × IsFullAt (list_of p after.view) x j
  pub uncuts : (t : Title) → Contains x.stretch (Uncut t) → Unmaps x t
  pub homes : (p : ℕ) → s.partitions ≤ p → (it.roots p ≡ []) ⊎ HasSeenSome s.thread p s.view
  pub owes : OwesOf s.registers x.played.op x.played.answer x.stretch
  pub words : KeepsWords x.played.answer s.view after.view
  pub answers : (o : Outcome) → IsOutcome o → o.partitions ≡ s.partitions → x.played.rules ≡ o.rules → IsSeenOf o after.view →
      LineActs o x it
      → AnswersIn o s after x

-- What it entered, in each run in which the acts of its line are these, is in its order and is what its thread's lists require, and leads
-- to the next.
abbrev pub LeadsEntered : (s after : StockValue) (x : ToldRecord) → Enters x → Type 0
LeadsEntered s after x it =
    (o : Outcome) → IsOutcome o → o.partitions ≡ s.partitions → x.played.rules ≡ o.rules → IsSeenOf o after.view → LineActs o x it →
    HasItsSigns o.partitions o.roots x × CacheRow o.partitions o.roots x.played x.played.answer (listed_in s) (listed_in after)

no_entries : (ms : List Made) → map (λ (m : Made). m.numbers) ms ≡ [] → ms ≡ []
no_entries [] none = refl
no_entries (m ∷ ms) none = absurd cc

-- all that the op does but for its thread's lists
pub entered_some : (s after : StockValue) (line phase : ℕ) (op : Op) (answer : Answer) (es : List Entry) → after.thread ≡ s.thread →
    after.partitions ≡ s.partitions → after.plain_from ≡ s.plain_from → after.caches.version ≡ s.caches.version →
    Entering s.thread line es s.view after.view →
    SaysEntered s after (quiet_record s after.view line phase op answer es) →
    Does s after (quiet_record s after.view line phase op answer es) × AddsNothing es
entered_some s after line phase op answer es thread partitions plain version entering say = (
  record {
    thread = refl;
    same = (thread, partitions, plain);
    version = version;
    stakes = entering.stakes;
    logs = entering.logs;
    lists = entering.lists;
    seen = record {
      saw = λ t. refl;
      knows = λ t. omega arith;
      carries = λ m t among. absurd (not_in_none m (subst (λ ms. Contains ms m) none among));
      steps = λ t step found value among. entering.each (Counted t step found value) among;
      looks = λ t found among. entering.each (Looked t found) among;
      grows = entering.grows;
    };
    enters = record {
      lines = λ q m among. (entering.each (Entered q m) (entered_from q es m among)).1;
      fills = entered_each x say.it (λ p act. FillsFrom x.played.rules.version act) say.fills;
      asked = (say.it, say.asked);
      refused = say.refused;
      uncuts = say.uncuts;
      cells = say.cells (list_of 5 after.view) none;
    };
    homes = λ p past low. elim (say.homes p past) [
      | inl nothing ↦ inl (no_entries (entered_in p es) (say.it.roots_are p low ∙ ap (map root_numbers) nothing))
      | inr seen ↦ inr seen
    ];
    owes = say.owes;
    words = say.words;
    answers = λ o fits. say.answers o fits.run fits.many fits.rules fits.seen (line_acts o x say.it fits.run fits.acts);
  },
  λ word bytes among. entering.each (Added word bytes) among,
)
  where
    x : ToldRecord
    x = quiet_record s after.view line phase op answer es

    none : entered_in 5 es ≡ []
    none = cells_none s.thread line es s.view after.view entering

-- The op does what it should if besides it keeps what is free and on no list, and leads the lists.
pub entered_does : (s after : StockValue) (line : ℕ) (op : Op) (answer : Answer) (es : List Entry) → after.thread ≡ s.thread →
    after.partitions ≡ s.partitions → after.plain_from ≡ s.plain_from → after.caches.version ≡ s.caches.version →
    Entering s.thread line es s.view after.view → KeepsApart s after →
    (says : (phase : ℕ) → SaysEntered s after (quiet_record s after.view line phase op answer es)) →
    ((phase : ℕ) → LeadsEntered s after (quiet_record s after.view line phase op answer es) (says phase).it) →
    DoesOp line op answer s after
entered_does s after line op answer es thread partitions plain version entering apart says leads phase =
    let x = quiet_record s after.view line phase op answer es in
    let say = says phase in
    let (does, adds) = entered_some s after line phase op answer es thread partitions plain version entering say in
    let led : LeadsEntered s after x say.it = leads phase in (
      x,
      refl,
      does,
      record {
        apart = apart;
        signs = λ o fits. (led o fits.run fits.many fits.rules fits.seen (line_acts o x say.it fits.run fits.acts)).0;
        row = λ o fits. (led o fits.run fits.many fits.rules fits.seen (line_acts o x say.it fits.run fits.acts)).1;
      },
      adds,
    )
