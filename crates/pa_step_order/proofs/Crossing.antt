-- A poisoning of a later phase that is before a read in the order of the logs: the read gave poison, and phase by phase what stands
-- before it leaves poison too.
use Rattle.std.proofs.Common.{◌≡◌, ℕ, ◌<◌, ◌≤◌, leb, true, List, [], ◌∷◌, ◌++◌, Option, Some, None, ◌⊎◌, refl, sym, ◌∙◌, ap, subst, arith, inl, inr, append_assoc}
use Rattle.std.specs.Prelude.{Contains}
use Rattle.std.specs.List.{filter_map}
use Rattle.std.proofs.lemmas.Bool.{cases_lt, cases_Bool, eq-eqb}
use Rattle.std.proofs.lemmas.List.Elements.{Contains-append_cases}
use Rattle.pa_slot.specs.declared.word.SlotName.{SlotName}
use Rattle.pa_slot.specs.declared.word.Step.{Step}
use Rattle.pa_slot.specs.declared.word.Step.TheVariants as steps
use Rattle.pa_slot.specs.Count.{number_of}
use Rattle.pa_slot.specs.Titles.{poison}
use Rattle.pa_slot.proofs.Runs.{same_slot_yes}
use Rattle.pa_record.specs.declared.entry.Seen.{Seen}
use Rattle.pa_record.specs.declared.entry.Answer.TheVariants as answers
use Rattle.pa_record.specs.declared.history.CellEntry.{CellEntry}
use Rattle.pa_lists.proofs.Elements.{in_middle}
use Rattle.pa_lists.proofs.Members.{in_cases, of_some}
use Rattle.pa_lists.proofs.Parts.{parts_at}
use Rattle.pa_rules.specs.declared.played.Played.{Played}
use Rattle.pa_rules.specs.Played.{mark_of}
use Rattle.pa_rules.specs.Contents.{IsContent, IsNextFree, IsReadAllowed, AreContents}
use Rattle.pa_logs.specs.Touches.{StepMade, step_in, step_by}
use Rattle.pa_logs.proofs.StepMarks.{step_mark, issue_is, done_is, write_op}
use Rattle.pa_timeline.specs.Timeline.{Loading, Spoiling, Counting, Moment, counted_steps, moment_leaves, content_after, is_of_slot, value_left, GivesAt}
use Rattle.pa_timeline.proofs.Kept.{none_or_some, kept_same}
use Rattle.pa_step_order.proofs.Sorting.{sorted, sorted_from}
use Rattle.pa_step_order.proofs.Moments.{phase_at}
use Rattle.pa_step_order.proofs.Contents.{last_of, content_is_last, stays_last, one_above}
use Rattle.pa_step_order.proofs.Marked.{Fills, Settles, fills_settles, IsReadAfter, AreMarked, IsChange, counts_more, counts_one, change_is, step_place, change_place, none_within}
use Rattle.pa_step_order.proofs.Reading.{IsRunOf, gives_read, early, early_is, early_some, later_step, sooner, found_read, cut_read, read_there}

-- two records that free one slot poison the same words
abbrev pub SpoilAlike : List Played → List Moment → Type 0
SpoilAlike ps ms =
    (x y : Played) (d e : StepMade) (place : ℕ) → Contains ps x → Contains ps y → step_by x ≡ Some d → step_by y ≡ Some e →
    d.step ≡ steps.Free → e.step ≡ steps.Free →
    d.slot ≡ e.slot → Contains ms (record { x = x; part = Spoiling place }) → Contains ms (record { x = y; part = Spoiling place })

-- between a look that found the bit 0 and a free of the slot that found no lower number the slot was issued
abbrev pub AreIssuedAgain : List Played → Type 0
AreIssuedAgain ps =
    (x : Played) (seen : Seen) (value : ℕ) (y : Played) (d : StepMade) → Contains ps x → x.answer ≡ answers.Dangling seen value →
    Contains ps y → step_by y ≡ Some d →
    d.step ≡ steps.Free → d.slot ≡ seen.slot → number_of seen.found.0 ≤ number_of d.found →
    (z : Played) × (e : StepMade) × Contains ps z × (step_by z ≡ Some e) × (e.slot ≡ seen.slot) × Fills e.step
    × (number_of seen.found.0 ≤ number_of e.found) × (number_of e.found < number_of d.found)

module _ (usable : ℕ → ℕ) (cells : ℕ → List CellEntry) (ps : List Played) (ms : List Moment) (marked : AreMarked ps ms)
    (run : IsRunOf ps ms)
    (contents : AreContents usable cells ps) (alike : SpoilAlike ps ms) (issued : AreIssuedAgain ps) where
  module _ (x : Played) (seen : Seen) (place value : ℕ) (reader : Contains ps x) (gives : GivesAt x.op x.answer seen place value) where
    abbrev here : SlotName
    here = seen.slot

    abbrev number : ℕ
    number = number_of seen.found.0

    abbrev leaves : Moment → Option ℕ
    leaves m = moment_leaves here place m

    abbrev soon : Moment → Option ℕ
    soon m = early ps ms marked run x seen place value reader gives m

    module _ (us vs : List Moment) (r : Moment) (parts : ms ≡ us ++ r ∷ vs) (load : r.part ≡ Loading)
        (read : IsReadAfter ps us seen place value) where
      cut_in : (f g : List Moment) (m : Moment) → us ≡ f ++ m ∷ g → ms ≡ f ++ m ∷ (g ++ r ∷ vs)
      cut_in f g m cut = parts ∙ ap (λ z. z ++ r ∷ vs) cut ∙ append_assoc f (m ∷ g) (r ∷ vs)

      cut_past : (f g : List Moment) (m : Moment) → vs ≡ f ++ m ∷ g → ms ≡ (us ++ r ∷ f) ++ m ∷ g
      cut_past f g m cut = parts ∙ ap (λ z. us ++ r ∷ z) cut ∙ sym (append_assoc us (r ∷ f) (m ∷ g))

      of_run : (f g : List Moment) (m : Moment) → us ≡ f ++ m ∷ g → Contains ps m.x
      of_run f g m cut = marked.members m (in_middle f (g ++ r ∷ vs) ms m (cut_in f g m cut))

      -- no step fills the slot between these moments and the look
      abbrev NoneFills : List Moment → Type 0
      NoneFills front =
          (y : Played) (e : StepMade) → Contains ps y → step_by y ≡ Some e → e.slot ≡ here → Fills e.step →
          counted_steps here front ≤ number_of e.found →
          number_of e.found < number → ⊥

      -- then what changes the word after them is poisonings
      rest_spoils : (f g : List Moment) (w : Moment) → us ≡ f ++ w ∷ g → NoneFills (f ++ w ∷ []) → (m : Moment) (u : ℕ) → Contains g m →
          leaves m ≡ Some u → u ≡ poison
      rest_spoils f g w cut none m u among left =
          let (a, b, cut_g) = parts_at g m among in
          let front = f ++ w ∷ a in
          let whole : us ≡ front ++ m ∷ b = cut ∙ ap (λ z. f ++ w ∷ z) cut_g ∙ sym (append_assoc f (w ∷ a) (m ∷ b)) in
          let inside = cut_in front b m whole in
          let c = change_is ps ms marked here place front (b ++ r ∷ vs) m u inside left in
          elim c.how [
            | inr (spoils, frees, poisons) ↦ poisons
            | inl (counts, fills, v) ↦
                let at = step_place ps ms marked here front (b ++ r ∷ vs) m c.d inside counts c.is c.slot in
                let more = counts_one here front b m c.d counts c.is c.slot in
                let all : counted_steps here us ≡ counted_steps here (front ++ m ∷ b) = ap (counted_steps here) whole in
                let head = counts_more here (f ++ w ∷ []) a in
                let same : counted_steps here ((f ++ w ∷ []) ++ a) ≡ counted_steps here front =
                ap (counted_steps here) (append_assoc f (w ∷ []) a) in
                let of = of_run front b m whole in
                elim (cases_lt (number_of c.d.found) number) [
                  | inl below ↦ absurd (none m.x c.d of c.is c.slot fills (omega arith) below)
                  | inr behind ↦ let high = read.steady m.x c.d of c.is c.slot fills behind in absurd (omega arith)
                ]
          ]

      -- if a moment of the read's phase or before left poison and none fills the slot after it, such moments leave poison last
      ends_spoiled : (f g : List Moment) (w : Moment) → us ≡ f ++ w ∷ g → w.x.phase ≤ x.phase → leaves w ≡ Some poison →
          NoneFills (f ++ w ∷ []) →
          last_of 0 (filter_map soon us) ≡ poison
      ends_spoiled f g w cut low left none =
          ap (λ z. last_of 0 (filter_map soon z)) cut
          ∙ stays_last soon 0 poison f g w (early_some ps ms marked run x seen place value reader gives w poison low left)
          (λ m u among is. rest_spoils f g w cut none m u among (early_is ps ms marked run x seen place value reader gives m u is).1)

      module _ (f g : List Moment) (c : Moment) (v : ℕ) (cut : us ≡ f ++ c ∷ g) (left : leaves c ≡ Some v)
          (late : x.phase < c.x.phase) where
        change : IsChange here place c v
        change = change_is ps ms marked here place f (g ++ r ∷ vs) c v (cut_in f g c cut) left

        of_c : Contains ps c.x
        of_c = of_run f g c cut

        low : number ≤ number_of change.d.found
        low = later_step ps ms marked run x seen place value reader gives c.x change.d of_c change.is change.slot late

        up_to : counted_steps here f ≤ counted_steps here us
        up_to = let more = counts_more here f (c ∷ g) in let same : counted_steps here us ≡ counted_steps here (f ++ c ∷ g) =
            ap (counted_steps here) cut in omega arith

        -- it is a poisoning
        spoils : (c.part ≡ Spoiling place) × (change.d.step ≡ steps.Free) × (v ≡ poison)
        spoils = elim change.how [
          | inr is ↦ is
          | inl (counts, fills, w) ↦
              let at = step_place ps ms marked here f (g ++ r ∷ vs) c change.d (cut_in f g c cut) counts change.is change.slot in
              let more = counts_one here f g c change.d counts change.is change.slot in
              let same : counted_steps here us ≡ counted_steps here (f ++ c ∷ g) = ap (counted_steps here) cut in
              let high = read.steady c.x change.d of_c change.is change.slot fills low in
              absurd (omega arith)
        ]

        behind : (y : Played) (e : StepMade) → Contains ps y → step_by y ≡ Some e → e.slot ≡ here → Settles e.step →
            counted_steps here f ≤ number_of e.found →
            number_of change.d.found ≤ number_of e.found
        behind = none_within ps ms marked here place f (g ++ r ∷ vs) c v change (cut_in f g c cut)

        gave_poison : value ≡ poison
        gave_poison =
            read.gave ∙ content_is_last here place 0 us ∙ ap (λ z. last_of 0 (filter_map leaves z)) cut
            ∙ stays_last leaves 0 poison f g c (left ∙ ap Some spoils.2)
            (rest_spoils f g c cut (λ y e there made slot fills high below.
            let more = counts_more here f (c ∷ []) in
            let up = behind y e there made slot (fills_settles e.step fills) (omega arith) in
            let low_here = low in
            absurd (omega arith)))

        -- the read is of a slot that is being freed: of its own phase's free the poisonings are before it
        spoiled_at : (y : Played) (e : StepMade) → step_by y ≡ Some e → e.slot ≡ here →
            leaves (record { x = y; part = Spoiling place }) ≡ Some poison
        spoiled_at y e made slot =
            let own : is_of_slot here (mark_of y) ≡ true = ap (is_of_slot here) (step_mark y.line y.op y.answer e made) ∙
            same_slot_yes e.slot here slot in
            rw (own, eq-eqb place place refl) refl

        freed : (y : Played) → IsNextFree ps here number y → y.phase ≡ x.phase → last_of 0 (filter_map soon us) ≡ poison
        freed y (n, (among, had, reg, op, answer, slot, at), least, first) phase =
            let e : StepMade = record { slot = had.slot; step = steps.Free; found = had.found.0; value = 0 } in
            let made : step_by y ≡ Some e = ap (λ a. step_in y.op a) answer ∙ ap (λ o. step_in o (answers.Done had)) op in
            let before = sooner ps ms marked run y c.x e change.d among of_c made change.is (slot ∙ sym change.slot) (omega arith) in
            let m : Moment = record { x = y; part = Spoiling place } in
            let left_here = spoiled_at y e made slot in
            let in_c : Contains ms (record { x = c.x; part = Spoiling place }) =
            subst (λ p. Contains ms (record { x = c.x; part = p })) spoils.0 (in_middle f (g ++ r ∷ vs) ms c (cut_in f g c cut)) in
            let in_m = alike c.x y change.d e place of_c among change.is made spoils.1 refl (change.slot ∙ sym slot) in_c in
            elim (Contains-append_cases us (r ∷ vs) m (subst (λ z. Contains z m) parts in_m)) [
              | inl front ↦
                  let (a, b, cut_m) = parts_at us m front in
                  let d = change_is ps ms marked here place a (b ++ r ∷ vs) m poison (cut_in a b m cut_m) left_here in
                  let one : number_of d.d.found ≡ number_of e.found =
                  ap (λ (z : StepMade). number_of z.found) (of_some d.d e (sym d.is ∙ made)) in
                  ends_spoiled a b m cut_m (omega arith) left_here (λ z w there made' slot' fills high below.
                  let more = counts_more here a (m ∷ []) in
                  let up = none_within ps ms marked here place a (b ++ r ∷ vs) m poison d (cut_in a b m cut_m) z w there made' slot'
                  (fills_settles w.step fills) (omega arith) in
                  absurd (omega arith))
              | inr rest ↦ elim (in_cases r m vs rest) [
                | inl same ↦ absurd (let both : Loading ≡ Spoiling place = sym load ∙ ap (λ (z : Moment). z.part) same in cc)
                | inr later ↦
                    let (a, b, cut_m) = parts_at vs m later in
                    let d = change_is ps ms marked here place (us ++ r ∷ a) b m poison (cut_past a b m cut_m) left_here in
                    let stands = change_place ps ms marked here place (us ++ r ∷ a) b m poison d (cut_past a b m cut_m) in
                    let one : number_of d.d.found ≡ number_of e.found =
                    ap (λ (z : StepMade). number_of z.found) (of_some d.d e (sym d.is ∙ made)) in
                    let more = counts_more here us (r ∷ a) in
                    let upto = up_to in
                    let up = behind y e among made slot tt (omega arith) in
                    absurd (omega arith)
              ]
            ]

        -- the content at the look's number is poison: so was what was written
        by_content : IsContent ps here number value → last_of 0 (filter_map soon us) ≡ poison
        by_content (inr (zero, none)) = absurd (let wrong : poison ≡ 0 = sym gave_poison ∙ zero in omega arith)
        by_content (inl (n, ((y, had, reg, among, op, answer, slot, at), less, unmade), most)) =
            let e : StepMade = record { slot = had.slot; step = steps.Write; found = had.found.0; value = value } in
            let made : step_by y ≡ Some e = ap (λ a. step_in y.op a) answer ∙ ap (λ o. step_in o (answers.Done had)) op in
            let m : Moment = record { x = y; part = Counting } in
            let in_m = run.counts y e among made in
            let looked = read.looked in
            elim (Contains-append_cases us (r ∷ vs) m (subst (λ z. Contains z m) parts in_m)) [
              | inl front ↦
                  let (a, b, cut_m) = parts_at us m front in
                  let stands = step_place ps ms marked here a (b ++ r ∷ vs) m e (cut_in a b m cut_m) refl made slot in
                  let own : is_of_slot here (mark_of y) ≡ true = ap (is_of_slot here) (step_mark y.line y.op y.answer e made) ∙
                  same_slot_yes e.slot here slot in
                  let value_here : value_left y.op y.answer ≡ Some value = ap (value_left y.op) answer ∙
                  ap (λ o. value_left o (answers.Done had)) op in
                  let left_here : leaves m ≡ Some poison = rw own (value_here ∙ ap Some gave_poison) in
                  let one = counts_one here a [] m e refl made slot in
                  ends_spoiled a b m cut_m
                  (elim (cases_lt x.phase y.phase) [
                    | inl after ↦ let high = later_step ps ms marked run x seen place value reader gives y e among made slot after in
                        absurd (omega arith)
                    | inr early_enough ↦ early_enough
                  ])
                  left_here
                  (λ z w there made' slot' fills high below. no_fill z w there made' slot' w.step refl fills (omega arith) below)
              | inr rest ↦ elim (in_cases r m vs rest) [
                | inl same ↦ absurd (let both : Loading ≡ Counting = sym load ∙ ap (λ (z : Moment). z.part) same in cc)
                | inr later ↦
                    let (a, b, cut_m) = parts_at vs m later in
                    let stands = step_place ps ms marked here (us ++ r ∷ a) b m e (cut_past a b m cut_m) refl made slot in
                    let more = counts_more here us (r ∷ a) in
                    absurd (omega arith)
              ]
            ]
          where
            no_fill : (z : Played) (w : StepMade) → Contains ps z → step_by z ≡ Some w → w.slot ≡ here → (p : Step) → w.step ≡ p → Fills p →
                n < number_of w.found → number_of w.found < number → ⊥
            no_fill z w there made slot steps.Issue is fills high below =
                let i = issue_is z.op z.answer w made is in
                unmade (number_of w.found) (z, i.seen, i.usable, there, i.answer, i.slot ∙ slot, ap number_of i.found) high below
            no_fill z w there made slot steps.Copy is fills high below = fills
            no_fill z w there made slot steps.Reset is fills high below = fills
            no_fill z w there made slot steps.Free is fills high below = fills
            no_fill z w there made slot steps.Write is fills high below =
                let i = done_is z.op z.answer w made (λ issue. let both : steps.Write ≡ steps.Issue = sym is ∙ issue in cc) in
                let (reg, op) = write_op z.op w.value (i.step ∙ ap Some is) i.value in
                most (number_of w.found) w.value (
                  (z, i.seen, reg, there, op, i.answer, i.slot ∙ slot, ap number_of i.found),
                  below,
                  λ k made_k above under. unmade k made_k (omega arith) under,
                ) high

        -- a slot that was freed when it was looked at wasn't issued since
        not_freed : x.answer ≡ answers.Dangling seen value → ⊥
        not_freed answer =
            let (z, e, among, made, slot, fills, least, most) =
            issued x seen value c.x change.d reader answer of_c change.is spoils.1 change.slot low in
            let stands = read.steady z e among made slot fills least in
            let upto = up_to in
            let up = behind z e among made slot (fills_settles e.step fills) (omega arith) in
            omega arith

        pub crosses : value ≡ last_of 0 (filter_map soon us)
        crosses = elim (gives_read x.op x.answer seen place value gives).2 [
          | inr answer ↦ absurd (not_freed answer)
          | inl answer ↦ elim (subst (λ a. IsReadAllowed usable cells ps x a) answer (contents x reader)) [
            | inl content ↦ gave_poison ∙ sym (by_content content)
            | inr (is, (by_ref, y, next, other, phase)) ↦ gave_poison ∙ sym (freed y next phase)
          ]
        ]

      -- what is before the read and is of its phase or before left the value
      gave_early : value ≡ last_of 0 (filter_map soon us)
      gave_early = elim (one_above leaves phase_at x.phase us) [
        | inr (c, v, among, is, late) ↦ let (f, g, cut) = parts_at us c among in crosses f g c v cut is late
        | inl low ↦ read.gave ∙ content_is_last here place 0 us ∙
            ap (last_of 0) (kept_same leaves soon us (λ m among. same m among (none_or_some (leaves m)) low))
      ]
        where
          same : (m : Moment) → Contains us m → (leaves m ≡ None) ⊎ ((u : ℕ) × (leaves m ≡ Some u)) →
              ((n : Moment) (u : ℕ) → Contains us n → leaves n ≡ Some u → phase_at n ≤ x.phase) → leaves m ≡ soon m
          same m among (inl none) low = none ∙
              sym (elim (cases_Bool (leb m.x.phase x.phase)) [ inl low' ↦ rw low' none | inr high ↦ rw high refl ])
          same m among (inr (u, is)) low = is ∙ sym (early_some ps ms marked run x seen place value reader gives m u (low m u among is) is)

  pub reads_sorted : (before after : List Moment) (m : Moment) (seen : Seen) (place value : ℕ) → sorted phase_at ms ≡ before ++ m ∷ after →
      m.part ≡ Loading →
      GivesAt m.x.op m.x.answer seen place value → value ≡ content_after seen.slot place 0 before
  reads_sorted before after m seen place value cut load gives =
      let reader = marked.members m (sorted_from phase_at m ms (in_middle before after (sorted phase_at ms) m cut)) in
      let (us, vs, r, parts, this, same) = cut_read ps ms marked run m.x seen place value reader gives before after m cut load refl in
      let (loads, is, read) = read_there ps ms marked run m.x seen place value reader gives us vs r parts this in
      gave_early m.x seen place value reader gives us vs r parts loads read
      ∙ sym (found_read ps ms marked run m.x seen place value reader gives before after m cut load refl us vs r parts this same)
