-- A log segment with its record's signs in their order has its steps in their order.
use Rattle.std.proofs.Common.{◌≡◌, ℕ, ◌<◌, ◌≤◌, eqb, Bool, List, [], ◌∷◌, ◌++◌, map, filter, flat_map, Option, Some, None, refl, sym, ◌∙◌, ap, subst, arith, inl, inr}
use Rattle.std.specs.Prelude.{Contains, option_and_then}
use Rattle.std.specs.List.{filter_map, range_with_len}
use Rattle.std.proofs.lemmas.Bool.{cases_eq, cases_lt, eq-eqb, ne_eqb, eqb-true}
use Rattle.std.proofs.lemmas.List.Elements.{filter_map-append, Contains-append_cases}
use Rattle.pa_slot.specs.declared.title.Title.{Title}
use Rattle.pa_slot.specs.declared.word.SlotName.{SlotName}
use Rattle.pa_slot.specs.declared.word.Step.{Step}
use Rattle.pa_slot.specs.declared.word.Step.TheVariants as steps
use Rattle.pa_region.specs.declared.view.Deeds.{Deeds}
use Rattle.pa_region.specs.declared.view.Entry.{Entry}
use Rattle.pa_region.specs.declared.view.Entry.TheVariants.{Counted, Looked, Read, Added, Entered, Uncut}
use Rattle.pa_trace.specs.declared.script.Op.{Op}
use Rattle.pa_trace.specs.declared.script.Op.TheVariants as ops
use Rattle.pa_record.specs.declared.entry.Seen.{Seen}
use Rattle.pa_record.specs.declared.entry.Answer.{Answer}
use Rattle.pa_record.specs.declared.entry.Answer.TheVariants as answers
use Rattle.pa_record.specs.declared.root.RootAct.{RootAct}
use Rattle.pa_record.specs.declared.root.RootEntry.{RootEntry}
use Rattle.pa_record.specs.Numbers.{root_numbers}
use Rattle.pa_record.specs.Root.{asked_by}
use Rattle.pa_record.proofs.OneEntry.{one_root}
use Rattle.pa_record.proofs.Same.{same_root}
use Rattle.pa_lists.proofs.Elements.{in_one}
use Rattle.pa_lists.proofs.Joined.{map_cases, map_in, filter_cases, filter_in}
use Rattle.pa_lists.proofs.Members.{not_in_none, first_in, later_in, in_cases}
use Rattle.pa_rules.specs.Played.{step_of}
use Rattle.pa_rules.specs.Roots.{Journals}
use Rattle.pa_rules.specs.Caches.{acts_of}
use Rattle.pa_timeline.specs.Timeline.{Part, Entering, Looking, Loading, Counting, asking_before, act_parts, entry_parts, done_parts, answer_parts}
use Rattle.pa_timeline.proofs.Kept.{kept_twice, kept_same}
use Rattle.pa_logs.specs.Touches.{title_of, is_touch, touches, value_by, AreLooks, IsStepTold, IsDoneTold, IsToldBy}
use Rattle.pa_step_order.specs.Segments.{look_part, entering, entered_part, part_of}
use Rattle.pa_step_order.specs.Signs.{Sign, Stepped, Listed, sign_of, asked_first, act_signs, line_signs, due_signs, SegmentsFollow}
use Rattle.pa_step_order.proofs.Entered.{with_numbers}

-- the step that a sign is
abbrev sign_part : Journals → Sign → Option Part
sign_part roots Stepped = Some Counting
sign_part roots (Listed q numbers) = entered_part roots q numbers

-- ---- the signs of a line

module _ (roots : Journals) (past : (p : ℕ) → 4 ≤ p → roots p ≡ []) where
  act_found : (line p : ℕ) (act : RootAct) → Contains (acts_of roots line p) act →
      entered_part roots p (root_numbers (record { line = line; act = act })) ≡ Some (Entering p act)
  act_found line p act among =
      let it : RootEntry = record { line = line; act = act } in
      let on_line : RootEntry → Bool = λ e. eqb e.line line in
      let (e, kept, is) = map_cases (λ (z : RootEntry). z.act) (filter on_line (roots p)) act among in
      let (there, line_is) = filter_cases on_line (roots p) e kept in
      let same : e ≡ it = same_root e it (eqb-true e.line line line_is) is in
      let listed : Contains (map root_numbers (roots p)) (root_numbers it) =
      subst (λ (z : RootEntry). Contains (map root_numbers (roots p)) (root_numbers z)) same (map_in root_numbers (roots p) e there) in
      let (f, found, numbers) = with_numbers (root_numbers it) (roots p) listed in
      let one : f ≡ it = one_root f it numbers in
      let small : p < 4 = elim (cases_lt p 4) [
        | inl less ↦ less
        | inr more ↦ absurd (not_in_none e (subst (λ es. Contains es e) (past p more) there))
      ] in
      rw (ne_eqb p 4 (λ same. omega arith), ne_eqb p 5 (λ same. omega arith))
      (ap (entering p) found ∙ ap (λ (z : RootEntry). Some (Entering p z.act)) one)

  act_steps : (line p : ℕ) (act : RootAct) (o : Option ℕ) → Contains (acts_of roots line p) act →
      filter_map (sign_part roots) (asked_first o (Listed p (root_numbers (record { line = line; act = act })) ∷ [])) ≡ asking_before o
      (Entering p act ∷ [])
  act_steps line p act None among = rw (act_found line p act among) refl
  act_steps line p act (Some j) among = rw (act_found line p act among) refl

  flat_steps : {X : Type 0} (f : X → List Sign) (g : X → List Part) (xs : List X) →
      ((x : X) → Contains xs x → filter_map (sign_part roots) (f x) ≡ g x) →
      filter_map (sign_part roots) (flat_map f xs) ≡ flat_map g xs
  flat_steps f g [] each = refl
  flat_steps f g (x ∷ xs) each =
      filter_map-append (sign_part roots) (f x) (flat_map f xs) ∙
      ap (λ ys. ys ++ filter_map (sign_part roots) (flat_map f xs)) (each x (first_in x xs))
      ∙ ap (λ ys. g x ++ ys) (flat_steps f g xs (λ y among. each y (later_in x y xs among)))

  line_steps : (partitions line : ℕ) → filter_map (sign_part roots) (line_signs partitions roots line) ≡ entry_parts partitions roots line
  line_steps partitions line =
      flat_steps (λ p. flat_map (act_signs line p) (acts_of roots line p)) (λ p. flat_map (act_parts p) (acts_of roots line p))
      (range_with_len 0 partitions)
      (λ p within. flat_steps (act_signs line p) (act_parts p) (acts_of roots line p)
      (λ act among. act_steps line p act (asked_by act) among))

  -- ---- entries and their signs

  -- An entry is the step that its sign is, if it is no read, and a look only if looks are no steps.
  entry_agrees : (answer : Answer) (e : Entry) → ((t : Title) (found : ℕ) → e ≡ Looked t found → look_part answer ≡ None) →
      ((t : Title) (place value : ℕ) (since : Deeds) (owned unclean : Bool) → e ≡ Read t place value since owned unclean → ⊥) →
      part_of roots answer e ≡ option_and_then (sign_part roots) (sign_of e)
  entry_agrees answer (Counted t step found value) no_look no_read = refl
  entry_agrees answer (Looked t found) no_look no_read = no_look t found refl
  entry_agrees answer (Read t place value since owned unclean) no_look no_read = absurd (no_read t place value since owned unclean refl)
  entry_agrees answer (Added word bytes) no_look no_read = refl
  entry_agrees answer (Entered keeper made) no_look no_read = elim (cases_eq keeper 4) [
    | inl four ↦ rw (eq-eqb keeper 4 four) refl
    | inr more ↦ elim (cases_eq keeper 5) [
      | inl five ↦ rw (ne_eqb keeper 4 more, eq-eqb keeper 5 five) refl
      | inr other ↦ rw (ne_eqb keeper 4 more, ne_eqb keeper 5 other) refl
    ]
  ]
  entry_agrees answer (Uncut t) no_look no_read = refl

  abbrev HasNoLook : Answer → List Entry → Type 0
  HasNoLook answer es = (t : Title) (found : ℕ) → Contains es (Looked t found) → look_part answer ≡ None

  abbrev HasNoRead : List Entry → Type 0
  HasNoRead es = (t : Title) (place value : ℕ) (since : Deeds) (owned unclean : Bool) →
      Contains es (Read t place value since owned unclean) → ⊥

  parts_by_signs : (answer : Answer) (es : List Entry) → HasNoLook answer es → HasNoRead es →
      filter_map (part_of roots answer) es ≡ filter_map (sign_part roots) (filter_map sign_of es)
  parts_by_signs answer es no_look no_read =
      kept_same (part_of roots answer) (λ e. option_and_then (sign_part roots) (sign_of e)) es
      (λ e among. entry_agrees answer e (λ t found is. no_look t found (subst (λ z. Contains es z) is among))
      (λ t place value since owned unclean is. no_read t place value since owned unclean (subst (λ z. Contains es z) is among)))
      ∙ sym (kept_twice (sign_part roots) sign_of es)

  -- a log segment with a counted step has no read
  looks_no_read : (t u : Title) (looks : List Entry) (place value : ℕ) (since : Deeds) (owned unclean : Bool) → AreLooks t looks →
      Contains looks (Read u place value since owned unclean) → ⊥
  looks_no_read t u [] place value since owned unclean are among = not_in_none (Read u place value since owned unclean) among
  looks_no_read t u (e ∷ es) place value since owned unclean are among =
      elim (in_cases e (Read u place value since owned unclean) es among) [
        | inl same ↦ let is = are.0.1 in cc
        | inr rest ↦ looks_no_read t u es place value since owned unclean are.1 rest
      ]

  step_no_read : (t : Title) (step : Step) (found value : ℕ) (es : List Entry) → IsStepTold t step found value es → HasNoRead es
  step_no_read t step found value es told u place v since owned unclean among =
      let it = Read u place v since owned unclean in
      let there = subst (λ xs. Contains xs it) told.2 (filter_in is_touch es it among refl) in
      elim (Contains-append_cases told.0 (Counted t step found value ∷ []) it there) [
        | inl look ↦ looks_no_read t u told.0 place v since owned unclean told.1 look
        | inr last ↦ (let same = in_one (Counted t step found value) it last in cc)
      ]

  -- nothing of a log segment that touches nothing is a look or a read
  none_no_look : (answer : Answer) (es : List Entry) → touches es ≡ [] → HasNoLook answer es
  none_no_look answer es none t found among =
      absurd (not_in_none (Looked t found)
      (subst (λ xs. Contains xs (Looked t found)) none (filter_in is_touch es (Looked t found) among refl)))

  none_no_read : (es : List Entry) → touches es ≡ [] → HasNoRead es
  none_no_read es none t place value since owned unclean among =
      let it = Read t place value since owned unclean in
      not_in_none it (subst (λ xs. Contains xs it) none (filter_in is_touch es it among refl))

  -- ---- without counted steps and entries in lists

  none_left : (answer : Answer) (es : List Entry) → touches es ≡ [] → filter_map sign_of es ≡ [] → filter_map (part_of roots answer) es ≡ []
  none_left answer [] none no_sign = refl
  none_left answer (Counted t step found value ∷ es) none no_sign = absurd cc
  none_left answer (Looked t found ∷ es) none no_sign = absurd cc
  none_left answer (Read t place value since owned unclean ∷ es) none no_sign = absurd cc
  none_left answer (Added word bytes ∷ es) none no_sign = none_left answer es none no_sign
  none_left answer (Entered keeper made ∷ es) none no_sign = absurd cc
  none_left answer (Uncut t ∷ es) none no_sign = none_left answer es none no_sign

  one_look : (answer : Answer) (t : Title) (found : ℕ) (es : List Entry) → look_part answer ≡ Some Looking →
      touches es ≡ Looked t found ∷ [] → filter_map sign_of es ≡ [] →
      filter_map (part_of roots answer) es ≡ Looking ∷ []
  one_look answer t found [] looks touched no_sign = absurd cc
  one_look answer t found (Counted u step word value ∷ es) looks touched no_sign = absurd cc
  one_look answer t found (Looked u word ∷ es) looks touched no_sign =
      let rest : touches es ≡ [] = cc in
      rw looks (ap (λ ys. Looking ∷ ys) (none_left answer es rest no_sign))
  one_look answer t found (Read u place value since owned unclean ∷ es) looks touched no_sign = absurd cc
  one_look answer t found (Added word bytes ∷ es) looks touched no_sign = one_look answer t found es looks touched no_sign
  one_look answer t found (Entered keeper made ∷ es) looks touched no_sign = absurd cc
  one_look answer t found (Uncut u ∷ es) looks touched no_sign = one_look answer t found es looks touched no_sign

  one_read : (answer : Answer) (t u : Title) (found place value : ℕ) (since : Deeds) (owned unclean : Bool) (es rest : List Entry) →
      look_part answer ≡ Some Looking →
      es ≡ Looked t found ∷ Read u place value since owned unclean ∷ rest → touches rest ≡ [] → filter_map sign_of es ≡ [] →
      filter_map (part_of roots answer) es ≡ Looking ∷ Loading ∷ []
  one_read answer t u found place value since owned unclean es rest looks pair none no_sign =
      let left : filter_map sign_of rest ≡ [] = sym (ap (filter_map sign_of) pair) ∙ no_sign in
      ap (filter_map (part_of roots answer)) pair ∙ rw looks (ap (λ ys. Looking ∷ Loading ∷ ys) (none_left answer rest none left))

  -- ---- by the answer

  done_zero : (op : Op) (entries : List Part) → Counting ∷ entries ≡ done_parts 0 op entries
  done_zero (ops.Free reg) entries = refl
  done_zero op entries = refl

  done_follows : (sizes : SlotName → ℕ) (partitions line : ℕ) (op : Op) (seen : Seen) (es : List Entry) (o : Option Step) →
      IsDoneTold sizes o (value_by op) seen es →
      filter_map sign_of es ≡ due_signs partitions roots line (answers.Done seen) →
      filter_map (part_of roots (answers.Done seen)) es ≡ done_parts 0 op (entry_parts partitions roots line)
  done_follows sizes partitions line op seen es None told signs = absurd told
  done_follows sizes partitions line op seen es (Some step) told signs =
      parts_by_signs (answers.Done seen) es (λ t found among. refl)
      (step_no_read (title_of sizes seen.slot) step seen.found.0 (value_by op) es told)
      ∙ ap (filter_map (sign_part roots)) signs ∙ ap (λ ys. Counting ∷ ys) (line_steps partitions line) ∙
      done_zero op (entry_parts partitions roots line)

  follows : (sizes : SlotName → ℕ) (partitions line : ℕ) (op : Op) (answer : Answer) (es : List Entry) → IsToldBy sizes op answer es →
      filter_map sign_of es ≡ due_signs partitions roots line answer →
      filter_map (part_of roots answer) es ≡ answer_parts 0 op (entry_parts partitions roots line) answer
  follows sizes partitions line op (answers.Made seen usable) es told signs =
      parts_by_signs (answers.Made seen usable) es (λ t found among. refl)
      (step_no_read (title_of sizes seen.slot) steps.Issue seen.found.0 0 es told.0)
      ∙ ap (filter_map (sign_part roots)) signs ∙ filter_map-append (sign_part roots) (line_signs partitions roots line) (Stepped ∷ [])
      ∙ ap (λ ys. ys ++ Counting ∷ []) (line_steps partitions line)
  follows sizes partitions line op (answers.Done seen) es told signs = done_follows sizes partitions line op seen es (step_of op) told signs
  follows sizes partitions line op (answers.Value seen value) es (held, (reg, place, owned, reads, told)) signs =
      one_read (answers.Value seen value) _ _ _ _ _ _ _ _ es told.rest refl told.pair told.none signs
  follows sizes partitions line op (answers.Dangling seen value) es (held, (reg, place, owned, reads, told)) signs =
      one_read (answers.Dangling seen value) _ _ _ _ _ _ _ _ es told.rest refl told.pair told.none signs
  follows sizes partitions line op (answers.SecondFree None) es told signs = none_left (answers.SecondFree None) es told signs
  follows sizes partitions line op (answers.SecondFree (Some seen)) es told signs =
      one_look (answers.SecondFree (Some seen)) _ _ es refl told.0 signs
  follows sizes partitions line op (answers.NotOwner seen) es told signs = one_look (answers.NotOwner seen) _ _ es refl told.0 signs
  follows sizes partitions line op (answers.StaleUse None) es told signs = none_left (answers.StaleUse None) es told signs
  follows sizes partitions line op (answers.StaleUse (Some seen)) es told signs =
      one_look (answers.StaleUse (Some seen)) _ _ es refl told.0 signs
  follows sizes partitions line op (answers.Shared seen) es told signs = one_look (answers.Shared seen) _ _ es refl told.0 signs
  follows sizes partitions line op (answers.Full entry) es told signs =
      parts_by_signs (answers.Full entry) es (none_no_look (answers.Full entry) es told) (none_no_read es told)
      ∙ ap (filter_map (sign_part roots)) signs ∙ line_steps partitions line
  follows sizes partitions line op (answers.Swapped entry) es told signs =
      parts_by_signs (answers.Swapped entry) es (none_no_look (answers.Swapped entry) es told) (none_no_read es told) ∙
      ap (filter_map (sign_part roots)) signs
  follows sizes partitions line op (answers.Purged slots) es told signs =
      parts_by_signs (answers.Purged slots) es (none_no_look (answers.Purged slots) es told) (none_no_read es told)
      ∙ ap (filter_map (sign_part roots)) signs ∙ line_steps partitions line
  follows sizes partitions line op answers.StaleReset es told signs = none_left answers.StaleReset es told signs
  follows sizes partitions line op answers.Nothing es told signs = none_left answers.Nothing es told signs
  follows sizes partitions line op answers.Filled es told signs = none_left answers.Filled es told signs
  follows sizes partitions line op answers.Uncounted es told signs = none_left answers.Uncounted es told signs
  follows sizes partitions line op answers.NotRef es told signs = none_left answers.NotRef es told signs
  follows sizes partitions line op answers.OutOfRange es told signs = none_left answers.OutOfRange es told signs
  follows sizes partitions line op answers.TooLarge es told signs = none_left answers.TooLarge es told signs

pub segments_follow : SegmentsFollow
segments_follow sizes partitions roots x past told signs =
    follows roots past sizes partitions x.played.line x.played.op x.played.answer x.stretch told signs
