-- The log segments of ops have their record's signs, by their shapes.
use Rattle.std.proofs.Common.{◌≡◌, ℕ, zero, suc, ◌+◌, ◌<◌, ◌≤◌, eqb, List, [], ◌∷◌, ◌++◌, map, filter, flat_map, Option, Some, None, refl, sym, ◌∙◌, ap, arith, inl, inr, append-nil}
use Rattle.std.specs.Prelude.{Contains}
use Rattle.std.specs.List.{filter_map, range_with_len}
use Rattle.std.proofs.lemmas.Bool.{cases_eq, cases_lt, eq-eqb, ne_eqb}
use Rattle.std.proofs.lemmas.List.Elements.{filter_map-append}
use Rattle.pa_slot.specs.declared.title.Title.{Title}
use Rattle.pa_slot.specs.declared.word.SlotName.{SlotName}
use Rattle.pa_slot.specs.declared.word.Step.{Step}
use Rattle.pa_slot.specs.declared.word.Step.TheVariants as steps
use Rattle.pa_region.specs.declared.view.Entry.{Entry}
use Rattle.pa_region.specs.declared.view.Entry.TheVariants.{Counted, Looked, Read, Added, Entered, Uncut}
use Rattle.pa_region.specs.declared.view.Made.{Made}
use Rattle.pa_region.specs.Lists.{entry_in, entered_in}
use Rattle.pa_trace.specs.declared.script.Op.{Op}
use Rattle.pa_record.specs.declared.entry.Seen.{Seen}
use Rattle.pa_record.specs.declared.entry.Answer.{Answer}
use Rattle.pa_record.specs.declared.entry.Answer.TheVariants as answers
use Rattle.pa_record.specs.declared.root.RootAct.{RootAct}
use Rattle.pa_record.specs.declared.root.RootEntry.{RootEntry}
use Rattle.pa_record.specs.Root.{asked_by}
use Rattle.pa_lists.proofs.Members.{first_in, later_in}
use Rattle.pa_lists.proofs.Elements.{same_cons}
use Rattle.pa_rules.specs.Played.{step_of}
use Rattle.pa_rules.specs.Roots.{Journals}
use Rattle.pa_rules.specs.Caches.{acts_of, OnlyActs, NoActs}
use Rattle.pa_timeline.proofs.Ranges.{in_range}
use Rattle.pa_logs.specs.Touches.{title_of, touches, value_by, AreLooks, IsDoneTold, IsSeenTold, IsToldBy}
use Rattle.pa_step_order.specs.Signs.{Sign, Stepped, Listed, root_alone, sign_of, asked_first, act_signs, line_signs, due_signs}
use Rattle.pa_step_order.specs.Shapes.{numbers_on, AreAdditions, ShapesHaveSigns}

-- ---- nothing is entered

abbrev EntersNone : List Entry → Type 0
EntersNone es = (q : ℕ) → entered_in q es ≡ []

-- an entry in a list is in its own
enters_its : (keeper : ℕ) (made : Made) (es : List Entry) → EntersNone (Entered keeper made ∷ es) → ⊥
enters_its keeper made es none =
    let own : entry_in keeper (Entered keeper made) ≡ made ∷ [] = rw (eq-eqb keeper keeper refl) refl in
    let here : made ∷ entered_in keeper es ≡ [] = sym (ap (λ ms. ms ++ entered_in keeper es) own) ∙ none keeper in
    cc

-- what touches nothing has no sign
none_signed : (es : List Entry) → EntersNone es → touches es ≡ [] → filter_map sign_of es ≡ []
none_signed [] none quiet = refl
none_signed (Counted t step found value ∷ es) none quiet = absurd cc
none_signed (Looked t found ∷ es) none quiet = absurd cc
none_signed (Read t place value since owned unclean ∷ es) none quiet = absurd cc
none_signed (Added word bytes ∷ es) none quiet = none_signed es none quiet
none_signed (Entered keeper made ∷ es) none quiet = absurd (enters_its keeper made es none)
none_signed (Uncut t ∷ es) none quiet = none_signed es none quiet

-- a look has none
look_signed : (t : Title) (found : ℕ) (es : List Entry) → EntersNone es → touches es ≡ Looked t found ∷ [] → filter_map sign_of es ≡ []
look_signed t found [] none touched = absurd cc
look_signed t found (Counted u step word value ∷ es) none touched = absurd cc
look_signed t found (Looked u word ∷ es) none touched = none_signed es none cc
look_signed t found (Read u place value since owned unclean ∷ es) none touched = absurd cc
look_signed t found (Added word bytes ∷ es) none touched = look_signed t found es none touched
look_signed t found (Entered keeper made ∷ es) none touched = absurd (enters_its keeper made es none)
look_signed t found (Uncut u ∷ es) none touched = look_signed t found es none touched

-- a counted step after looks has one
step_signed : (t : Title) (step : Step) (found value : ℕ) (looks es : List Entry) → EntersNone es → AreLooks t looks →
    touches es ≡ looks ++ Counted t step found value ∷ [] → filter_map sign_of es ≡ Stepped ∷ []
step_signed t step found value [] [] none are touched = absurd cc
step_signed t step found value (l ∷ looks) [] none are touched = absurd cc
step_signed t step found value [] (Counted u p word v ∷ es) none are touched = ap (λ ys. Stepped ∷ ys) (none_signed es none cc)
step_signed t step found value (l ∷ looks) (Counted u p word v ∷ es) none are touched = absurd (let is = are.0.1 in cc)
step_signed t step found value [] (Looked u word ∷ es) none are touched = absurd cc
step_signed t step found value (l ∷ looks) (Looked u word ∷ es) none are touched = step_signed t step found value looks es none are.1 cc
step_signed t step found value [] (Read u place v since owned unclean ∷ es) none are touched = absurd cc
step_signed t step found value (l ∷ looks) (Read u place v since owned unclean ∷ es) none are touched = absurd (let is = are.0.1 in cc)
step_signed t step found value looks (Added word bytes ∷ es) none are touched = step_signed t step found value looks es none are touched
step_signed t step found value looks (Entered keeper made ∷ es) none are touched = absurd (enters_its keeper made es none)
step_signed t step found value looks (Uncut u ∷ es) none are touched = step_signed t step found value looks es none are touched

-- a look with a read right after it has no sign, if nothing after them touches a slot and nothing is entered
read_signed : (t u : Title) (found place value : ℕ) (since : _) (owned unclean : _) (es rest : List Entry) → EntersNone es →
    es ≡ Looked t found ∷ Read u place value since owned unclean ∷ rest → touches rest ≡ [] → filter_map sign_of es ≡ []
read_signed t u found place value since owned unclean es rest none pair quiet =
    ap (filter_map sign_of) pair ∙ none_signed rest (λ q. sym (ap (entered_in q) pair) ∙ none q) quiet

-- a line of which no journal has anything
no_line_signs : (line : ℕ) (roots : Journals) → NoActs roots line → (ps : List ℕ) →
    flat_map (λ p. flat_map (act_signs line p) (acts_of roots line p)) ps ≡ []
no_line_signs line roots none [] = refl
no_line_signs line roots none (p ∷ ps) =
    ap (λ acts. flat_map (act_signs line p) acts ++ flat_map (λ q. flat_map (act_signs line q) (acts_of roots line q)) ps) (none p) ∙
    no_line_signs line roots none ps

module _ (sizes : SlotName → ℕ) (partitions line : ℕ) (roots : Journals) (acts : NoActs roots line) where
  no_signs : line_signs partitions roots line ≡ []
  no_signs = no_line_signs line roots acts (range_with_len 0 partitions)

  done_signed : (op : Op) (seen : Seen) (es : List Entry) (o : Option Step) → EntersNone es → IsDoneTold sizes o (value_by op) seen es →
      filter_map sign_of es ≡ Stepped ∷ []
  done_signed op seen es None none told = absurd told
  done_signed op seen es (Some step) none (looks, are, is) =
      step_signed (title_of sizes seen.slot) step seen.found.0 (value_by op) looks es none are is

  seen_signed : (o : Option Seen) (es : List Entry) → EntersNone es → IsSeenTold sizes o es → filter_map sign_of es ≡ []
  seen_signed None es none told = none_signed es none told
  seen_signed (Some seen) es none told = look_signed (title_of sizes seen.slot) seen.found.0 es none told.0

  quiet_signed : (op : Op) (answer : Answer) (es : List Entry) → IsToldBy sizes op answer es → EntersNone es →
      ((j : ℕ) → answer ≡ answers.Swapped j → ⊥) →
      filter_map sign_of es ≡ due_signs partitions roots line answer
  quiet_signed op (answers.Made seen usable) es ((looks, are, is), length) none no_swap =
      step_signed (title_of sizes seen.slot) steps.Issue seen.found.0 0 looks es none are is ∙ sym (ap (λ ys. ys ++ Stepped ∷ []) no_signs)
  quiet_signed op (answers.Done seen) es told none no_swap = done_signed op seen es (step_of op) none told ∙
      sym (ap (λ ys. Stepped ∷ ys) no_signs)
  quiet_signed op (answers.Value seen value) es (held, (reg, place, owned, reads, told)) none no_swap =
      read_signed _ _ _ _ _ _ _ _ es told.rest none told.pair told.none
  quiet_signed op (answers.Dangling seen value) es (held, (reg, place, owned, reads, told)) none no_swap =
      read_signed _ _ _ _ _ _ _ _ es told.rest none told.pair told.none
  quiet_signed op (answers.SecondFree seen) es told none no_swap = seen_signed seen es none told
  quiet_signed op (answers.NotOwner seen) es told none no_swap = seen_signed (Some seen) es none told
  quiet_signed op (answers.StaleUse seen) es told none no_swap = seen_signed seen es none told
  quiet_signed op (answers.Shared seen) es told none no_swap = seen_signed (Some seen) es none told
  quiet_signed op (answers.Full entry) es told none no_swap = none_signed es none told ∙ sym no_signs
  quiet_signed op (answers.Swapped entry) es told none no_swap = absurd (no_swap entry refl)
  quiet_signed op (answers.Purged slots) es told none no_swap = none_signed es none told ∙ sym no_signs
  quiet_signed op answers.StaleReset es told none no_swap = none_signed es none told
  quiet_signed op answers.Nothing es told none no_swap = none_signed es none told
  quiet_signed op answers.Filled es told none no_swap = none_signed es none told
  quiet_signed op answers.Uncounted es told none no_swap = none_signed es none told
  quiet_signed op answers.NotRef es told none no_swap = none_signed es none told
  quiet_signed op answers.OutOfRange es told none no_swap = none_signed es none told
  quiet_signed op answers.TooLarge es told none no_swap = none_signed es none told

-- ---- entries in lists

additions_none : (es : List Entry) → AreAdditions es → filter_map sign_of es ≡ []
additions_none [] are = refl
additions_none (Counted t step found value ∷ es) are = absurd are
additions_none (Looked t found ∷ es) are = absurd are
additions_none (Read t place value since owned unclean ∷ es) are = absurd are
additions_none (Added word bytes ∷ es) are = additions_none es are
additions_none (Entered keeper made ∷ es) are = absurd are
additions_none (Uncut t ∷ es) are = absurd are

own_numbers : (p : ℕ) (numbers : List ℕ) → p < 4 → root_alone p numbers ≡ numbers
own_numbers p numbers small = rw (ne_eqb p 4 (λ e. omega arith), ne_eqb p 5 (λ e. omega arith)) refl

asks_none : (line p : ℕ) (act : RootAct) (o : Option ℕ) → o ≡ None →
    asked_first o (Listed p (numbers_on line act) ∷ []) ≡ Listed p (numbers_on line act) ∷ []
asks_none line p act None is = refl
asks_none line p act (Some j) is = absurd cc

asks_one : (line p j : ℕ) (act : RootAct) (o : Option ℕ) → o ≡ Some j →
    asked_first o (Listed p (numbers_on line act) ∷ []) ≡ Listed 4 [] ∷ Listed p (numbers_on line act) ∷ []
asks_one line p j act None is = absurd cc
asks_one line p j act (Some i) is = refl

entries_signed : (line p : ℕ) (ms : List Made) (acts : List RootAct) → p < 4 →
    map (λ (m : Made). m.numbers) ms ≡ map (numbers_on line) acts →
    ((act : RootAct) → Contains acts act → asked_by act ≡ None) → filter_map sign_of (map (Entered p) ms) ≡ flat_map (act_signs line p) acts
entries_signed line p [] [] small same none = refl
entries_signed line p [] (act ∷ acts) small same none = absurd cc
entries_signed line p (m ∷ ms) [] small same none = absurd cc
entries_signed line p (m ∷ ms) (act ∷ acts) small same none =
    let head : m.numbers ≡ numbers_on line act = cc in
    let tail : map (λ (n : Made). n.numbers) ms ≡ map (numbers_on line) acts = cc in
    let again = entries_signed line p ms acts small tail (λ a among. none a (later_in act a acts among)) in
    let here : Listed p (root_alone p m.numbers) ≡ Listed p (numbers_on line act) = ap (Listed p) (own_numbers p m.numbers small ∙ head) in
    same_cons _ _ _ _ here again
    ∙ sym (ap (λ signs. signs ++ flat_map (act_signs line p) acts) (asks_none line p act (asked_by act) (none act (first_in act acts))))

asked_signed : (line p j : ℕ) (act : RootAct) (pool made : Made) → p < 4 → made.numbers ≡ numbers_on line act → asked_by act ≡ Some j →
    filter_map sign_of (Entered 4 pool ∷ Entered p made ∷ []) ≡ flat_map (act_signs line p) (act ∷ [])
asked_signed line p j act pool made small numbers asks =
    ap (λ ns. Listed 4 [] ∷ Listed p ns ∷ []) (own_numbers p made.numbers small ∙ numbers)
    ∙ sym (append-nil (Listed 4 [] ∷ Listed p (numbers_on line act) ∷ []))
    ∙ sym (ap (λ signs. signs ++ []) (asks_one line p j act (asked_by act) asks))

-- ---- a line's entries

each_signed : (pieces : ℕ → List Entry) (signs : ℕ → List Sign) (from n : ℕ) →
    ((p : ℕ) → p < from + n → filter_map sign_of (pieces p) ≡ signs p) →
    filter_map sign_of (flat_map pieces (range_with_len from n)) ≡ flat_map signs (range_with_len from n)
each_signed pieces signs from zero each = refl
each_signed pieces signs from (suc n) each =
    filter_map-append sign_of (pieces from) (flat_map pieces (range_with_len (from + 1) n))
    ∙ ap (λ ys. ys ++ filter_map sign_of (flat_map pieces (range_with_len (from + 1) n))) (each from (omega arith))
    ∙ ap (λ ys. signs from ++ ys) (each_signed pieces signs (from + 1) n (λ p low. each p (omega arith)))

only_signed : (partitions line p : ℕ) (roots : Journals) (acts : List RootAct) → ((q : ℕ) → partitions ≤ q → roots q ≡ []) →
    OnlyActs roots line p acts → flat_map (act_signs line p) acts ≡ line_signs partitions roots line
only_signed partitions line p roots acts past only =
    let piece : ℕ → List Sign = λ q. flat_map (act_signs line q) (acts_of roots line q) in
    elim (cases_lt p partitions) [
      | inl low ↦
          sym (in_range piece p 0 partitions (omega arith) (omega arith) (λ q other. ap (flat_map (act_signs line q)) (only.1 q other))
          ∙ ap (flat_map (act_signs line p)) only.0)
      | inr high ↦
          let none : acts_of roots line p ≡ [] =
          ap (λ (es : List RootEntry). map (λ (e : RootEntry). e.act) (filter (λ (e : RootEntry). eqb e.line line) es))
          (past p high) in
          let no_acts : NoActs roots line = λ q. elim (cases_eq q p) [
            | inl same ↦ ap (acts_of roots line) same ∙ none
            | inr other ↦ only.1 q other
          ] in
          ap (flat_map (act_signs line p)) (sym only.0 ∙ none) ∙ sym (no_line_signs line roots no_acts (range_with_len 0 partitions))
    ]

pub shapes_have_signs : ShapesHaveSigns
shapes_have_signs = record {
  quiet = λ sizes partitions roots x told none acts no_swap. quiet_signed sizes partitions x.played.line roots acts x.played.op
      x.played.answer x.stretch told none no_swap;
  swapped = λ partitions j roots x made answer entered.
      ap (filter_map sign_of) entered ∙ sym (ap (due_signs partitions roots x.played.line) answer);
  settled = λ partitions roots x es are signs.
      filter_map-append sign_of x.stretch es ∙ ap (λ ys. filter_map sign_of x.stretch ++ ys) (additions_none es are) ∙
      append-nil (filter_map sign_of x.stretch) ∙ signs;
  entries = entries_signed;
  asked = asked_signed;
  only = λ partitions line p roots acts past only. only_signed partitions line p roots acts past only;
  each = λ partitions line roots pieces each.
      each_signed pieces (λ p. flat_map (act_signs line p) (acts_of roots line p)) 0 partitions (λ p low. each p (omega arith));
}
