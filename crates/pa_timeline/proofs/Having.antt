-- A run that has a timeline: each field is tested, or follows by computing.
use Rattle.std.proofs.Common.{◌≡◌, ℕ, zero, suc, ◌&&◌, ◌||◌, not, Bool, true, false, List, [], ◌∷◌, ◌++◌, ◌⊎◌, map, drop, get_or, slice_get, Option, Some, None, refl, sym, ◌∙◌, ap, subst, inl, inr, append_assoc, append-nil, true≢false}
use Rattle.std.specs.Prelude.{Contains, AllPairs, ◌==◌, nat_lt, slice_index_or}
use Rattle.std.specs.List.{list_all}
use Rattle.std.proofs.lemmas.Bool.{cases_eq, eq-eqb, ne_eqb, lt-ltb, eqb-true}
use Rattle.std.proofs.lemmas.List.Elements.{All-from_recursion, All-contains}
use Rattle.pa_slot.specs.Count.{number_of}
use Rattle.pa_slot.specs.Run.{Mark}
use Rattle.pa_trace.specs.declared.script.Op.{Op}
use Rattle.pa_trace.specs.declared.script.Op.TheVariants as ops
use Rattle.pa_trace.specs.Rules.{first_rules}
use Rattle.pa_record.specs.declared.entry.Seen.{Seen}
use Rattle.pa_record.specs.declared.entry.Answer.{Answer}
use Rattle.pa_record.specs.declared.entry.Answer.TheVariants as answers
use Rattle.pa_record.specs.declared.root.RootAct.{RootAct}
use Rattle.pa_record.specs.declared.root.RootAct.TheVariants.{Purge}
use Rattle.pa_record.specs.declared.history.CellEntry.{CellEntry}
use Rattle.pa_lists.proofs.Elements.{passes}
use Rattle.pa_lists.proofs.Indexed.{at_in}
use Rattle.pa_lists.proofs.Pairs.{pairs_none, pairs_cons}
use Rattle.pa_lists.proofs.Tests.{both_true}
use Rattle.pa_rules.specs.declared.played.Played.{Played}
use Rattle.pa_rules.specs.Played.{mark_of}
use Rattle.pa_rules.specs.Registers.{usable_in}
use Rattle.pa_rules.specs.Roots.{journal_at}
use Rattle.pa_rules.specs.Order.{StandsBefore}
use Rattle.pa_rules.specs.Cells.{history_at}
use Rattle.pa_timeline.specs.Timeline.{Part, Asking, Entering, Swapping, Looking, Loading, Spoiling, Counting, Moment, due_parts, parts_in, journal_made, swap_lines, counted_steps, content_after, IsTouch, GivesAt}
use Rattle.pa_timeline.specs.Worked.{read_records, one_fill, lower_slot, passed_on, ThreadsHaveOne}
use Rattle.pa_timeline.proofs.Places.{moment}

-- ---- tests

-- the test that each member passes beside those before it
abbrev each_after : {A : Type 0} → (List A → A → Bool) → List A → List A → Bool
each_after test before [] = true
each_after test before (x ∷ xs) = test before x && each_after test (before ++ x ∷ []) xs

passes_after : {A : Type 0} (test : List A → A → Bool) (before xs us vs : List A) (x : A) → each_after test before xs ≡ true →
    xs ≡ us ++ x ∷ vs → test (before ++ us) x ≡ true
passes_after test before [] [] vs x all cut = absurd cc
passes_after test before [] (u ∷ us) vs x all cut = absurd cc
passes_after test before (y ∷ xs) [] vs x all cut =
    let head : y ≡ x = ap (λ zs. get_or zs 0 y) cut in
    subst (λ zs. test zs x ≡ true) (sym (append-nil before)) (subst (λ z. test before z ≡ true) head (both_true _ _ all).0)
passes_after test before (y ∷ xs) (u ∷ us) vs x all cut =
    let head : y ≡ u = ap (λ zs. get_or zs 0 y) cut in
    let ih = passes_after test (before ++ y ∷ []) xs us vs x (both_true _ _ all).1 (ap (drop 1) cut) in
    subst (λ z. test (before ++ z ∷ us) x ≡ true) head (subst (λ zs. test zs x ≡ true) (append_assoc before (y ∷ []) us) ih)

-- x is before y
abbrev is_before : Played → Played → Bool
is_before x y = ((x.thread == y.thread) && nat_lt x.line y.line) || nat_lt x.phase y.phase

before_or : (a b : Bool) → b ≡ true → (a || b) ≡ true
before_or true b e = refl
before_or false b e = e

before_is : (x y : Played) → StandsBefore x y → is_before x y ≡ true
before_is x y (inl (thread, less)) = rw (eq-eqb x.thread y.thread thread, lt-ltb x.line y.line less) refl
before_is x y (inr less) = before_or _ (nat_lt x.phase y.phase) (lt-ltb x.phase y.phase less)

abbrev in_turn : List Moment → Bool
in_turn [] = true
in_turn (m ∷ ms) = list_all (λ (n : Moment). not (is_before n.x m.x)) ms && in_turn ms

not_true : (b : Bool) → not b ≡ true → b ≡ true → ⊥
not_true true e f = true≢false (sym e)
not_true false e f = true≢false (sym f)

turns : (ms : List Moment) → in_turn ms ≡ true → AllPairs (λ (m n : Moment). StandsBefore n.x m.x → ⊥) ms
turns [] e = pairs_none (λ (m n : Moment). StandsBefore n.x m.x → ⊥)
turns (m ∷ ms) e = pairs_cons (λ (m n : Moment). StandsBefore n.x m.x → ⊥) m ms
    (λ n among back. not_true (is_before n.x m.x) (passes (λ (n : Moment). not (is_before n.x m.x)) ms n (both_true _ _ e).0 among)
    (before_is n.x m.x back))
    (turns ms (both_true _ _ e).1)

-- a touch finds as many as its number says
abbrev is_touch : Part → Bool
is_touch Looking = true
is_touch Counting = true
is_touch part = false

abbrev finds : List Moment → Option Mark → Bool
finds before None = true
finds before (Some k) = number_of k.found == counted_steps k.slot before

abbrev is_found : List Moment → Moment → Bool
is_found before m = not (is_touch m.part) || finds before (mark_of m.x)

touched : (part : Part) → IsTouch part → is_touch part ≡ true
touched part (inl e) = ap is_touch e
touched part (inr e) = ap is_touch e

found_is : (before : List Moment) (m : Moment) (k : Mark) → is_found before m ≡ true → IsTouch m.part → mark_of m.x ≡ Some k →
    number_of k.found ≡ counted_steps k.slot before
found_is before m k passed touch is =
    let here : finds before (mark_of m.x) ≡ true = rw (touched m.part touch) at passed in
    eqb-true (number_of k.found) (counted_steps k.slot before) (sym (ap (finds before) is) ∙ here)

-- a read gives what is left
abbrev gives : List Moment → ℕ → Answer → Bool
gives before place (answers.Value seen value) = value == content_after seen.slot place 0 before
gives before place (answers.Dangling seen value) = value == content_after seen.slot place 0 before
gives before place answer = true

abbrev reads_left : List Moment → Op → Answer → Bool
reads_left before (ops.Read reg word) answer = gives before word answer
reads_left before op answer = true

given : (before : List Moment) (place value : ℕ) (seen : Seen) (answer : Answer) → gives before place answer ≡ true →
    (answer ≡ answers.Value seen value) ⊎ (answer ≡ answers.Dangling seen value) → value ≡ content_after seen.slot place 0 before
given before place value seen answer passed (inl is) =
    eqb-true value (content_after seen.slot place 0 before) (sym (ap (gives before place) is) ∙ passed)
given before place value seen answer passed (inr is) =
    eqb-true value (content_after seen.slot place 0 before) (sym (ap (gives before place) is) ∙ passed)

left_is : (before : List Moment) (op : Op) (answer : Answer) (seen : Seen) (place value : ℕ) → reads_left before op answer ≡ true →
    GivesAt op answer seen place value →
    value ≡ content_after seen.slot place 0 before
left_is before (ops.Read reg word) answer seen place value passed (same, is) =
    given before place value seen answer (subst (λ n. gives before n answer ≡ true) same passed) is
left_is before op answer seen place value passed gives = absurd gives

abbrev is_load : Part → Bool
is_load Loading = true
is_load part = false

abbrev is_read : List Moment → Moment → Bool
is_read before m = not (is_load m.part) || reads_left before m.x.op m.x.answer

loaded : (b : Bool) (part : Part) → part ≡ Loading → (not (is_load part) || b) ≡ true → b ≡ true
loaded b part is passed = subst (λ p. (not (is_load p) || b) ≡ true) is passed

past_one : {A : Type 0} (x d : A) (p : ℕ) → (0 ≡ p → ⊥) → slice_index_or (x ∷ []) p d ≡ d
past_one x d zero other = absurd (other refl)
past_one x d (suc zero) other = refl
past_one x d (suc (suc q)) other = refl

-- ---- the run

abbrev at_line : ℕ → Played
at_line i = get_or read_records i
    (record { line = 0; thread = 0; phase = 0; rules = first_rules 1; op = ops.Purge; answer = answers.Nothing })

abbrev first_act : RootAct
first_act = (get_or one_fill 0 (record { line = 0; act = Purge })).act

abbrev read_moments : List Moment
read_moments =
    moment (at_line 0) Asking
    ∷ moment (at_line 0) (Entering 0 first_act)
    ∷ moment (at_line 0) Counting
    ∷ moment (at_line 1) Counting
    ∷ moment (at_line 2) Swapping
    ∷ moment (at_line 3) Swapping
    ∷ moment (at_line 5) Looking
    ∷ moment (at_line 4) (Spoiling 0)
    ∷ moment (at_line 5) Loading
    ∷ moment (at_line 4) Counting
    ∷ []

has : (i : ℕ) → slice_get read_records i ≡ Some (at_line i) → Contains read_records (at_line i)
has i e = at_in read_records i (at_line i) e

pub threads_have_one : ThreadsHaveOne
threads_have_one report = (
  read_moments,
  record {
    ordered = record {
      whole = λ x there. All-contains
          (λ (x : Played). parts_in x.line read_moments ≡ due_parts (usable_in read_records) 1 (journal_at (one_fill ∷ [])) x) read_records
          x
          (All-from_recursion (λ (x : Played). parts_in x.line read_moments ≡ due_parts (usable_in read_records) 1
          (journal_at (one_fill ∷ [])) x) read_records
          (refl, (refl, (refl, (refl, (refl, (refl, tt))))))) there;
      only = All-from_recursion (λ (m : Moment). Contains read_records m.x) read_moments (
        has 0 refl,
        (
          has 0 refl,
          (has 0 refl, (has 1 refl, (has 2 refl, (has 3 refl, (has 5 refl, (has 4 refl, (has 5 refl, (has 4 refl, tt)))))))),
        ),
      );
      in_order = turns read_moments refl;
      found = λ before after m k cut touch is. found_is before m k (passes_after is_found [] read_moments before after m refl cut) touch is;
      journals = λ p. elim (cases_eq 0 p) [
        | inl e ↦ subst (λ q. journal_made q read_moments ≡ journal_at (one_fill ∷ []) q) e refl
        | inr other ↦ rw (ne_eqb 0 p other) (sym (past_one one_fill [] p other))
      ];
      pool = refl;
      exchanges = λ k. elim (cases_eq 0 k) [
        | inl e ↦ subst (λ q. swap_lines q read_moments ≡ map (λ (d : CellEntry). d.line) (history_at (passed_on 4 6 lower_slot ∷ []) q)) e
            refl
        | inr other ↦ rw (ne_eqb 0 k other) (sym (ap (map (λ (d : CellEntry). d.line)) (past_one (passed_on 4 6 lower_slot) [] k other)))
      ];
    };
    reads = λ before after m seen place value cut loads gives.
        left_is before m.x.op m.x.answer seen place value
        (loaded (reads_left before m.x.op m.x.answer) m.part loads (passes_after is_read [] read_moments before after m refl cut))
        gives;
  },
)
