-- The order of all that was done in the worked run of two threads, until the end of each phase, with any answer that its read may give.
use Rattle.std.proofs.Common.{◌≡◌, ℕ, false, List, [], ◌∷◌, ◌++◌, map, lit<, refl, sym, ◌∙◌, ap, arith, inl, inr}
use Rattle.std.proofs.lemmas.List.{append_assoc}
use Rattle.std.proofs.lemmas.Bool.{ne_eqb}
use Rattle.pa_slot.specs.declared.word.Step.TheVariants.{Issue, Copy, Reset, Free}
use Rattle.pa_slot.specs.declared.title.Title.{Title}
use Rattle.pa_slot.specs.Titles.{poison}
use Rattle.pa_slot.proofs.Same.{title_tells}
use Rattle.pa_region.specs.declared.view.Entry.{Entry}
use Rattle.pa_region.specs.declared.view.Entry.TheVariants.{Counted, Looked, Read}
use Rattle.pa_region.specs.declared.view.Made.{Made}
use Rattle.pa_region.specs.Moves.{no_deeds}
use Rattle.pa_region.specs.Lists.{entered_in}
use Rattle.pa_region.specs.Order.{Stamped, OneStep, Logged, Spoiled, by_stake, logged_among, spoiled, content_in, AreInPlace, HasOneOrder}
use Rattle.pa_record.specs.declared.entry.Answer.{Answer}
use Rattle.pa_logs.specs.Told.{ToldRecord, told_until, log_of}
use Rattle.pa_logs.specs.Worked.{its_title}
use Rattle.pa_examples.specs.told.Threads.{seen_number, took, filled, exchanged, the_take, the_fill, the_gift, the_taking}
use Rattle.pa_examples.specs.told.OtherReads.{reading_so}
use Rattle.pa_examples.specs.told.AllSaid.{lists_until, seat_until}
use Rattle.pa_examples.proofs.told.PhaseEnds.{by_two}
use Rattle.pa_examples.proofs.told.Played.{so_read}
use Rattle.pa_examples.proofs.told.Seats.{list_cases, has_order}

-- what each thread did, step by step
abbrev by_first : Entry → Stamped
by_first e = record { stake = 0; entry = e }

abbrev by_second : Entry → Stamped
by_second e = record { stake = 1; entry = e }

-- in the first phase the first thread makes the slot, copies and gives
abbrev until_1 : List Stamped
until_1 =
    by_first (took the_take) ∷ by_first (filled the_fill) ∷ by_first (Counted its_title Issue 0 0) ∷ by_first
    (Counted its_title Copy 0x1000001 0)
    ∷ by_first (exchanged 0 the_gift 2) ∷ []

-- the steps of the second phase: the first thread frees the slot, and the second takes the raw_ptr and looks, before the free or after it
abbrev the_free : Stamped
the_free = by_first (Counted its_title Free 0x2000003 0)

abbrev the_look : ℕ → ℕ → List Stamped
the_look word value = by_second (Looked its_title word) ∷ by_second (Read its_title 0 value no_deeds false false) ∷ []

abbrev held_until_2 : ℕ → List Stamped
held_until_2 value = until_1 ++ by_second (exchanged 1 the_taking 2) ∷ the_look 0x2000003 value ++ the_free ∷ []

abbrev freed_until_2 : ℕ → List Stamped
freed_until_2 value = until_1 ++ the_free ∷ by_second (exchanged 1 the_taking 2) ∷ the_look 0x3000002 value

-- in the third the second thread reads again, and resets the raw_ptr
abbrev last_of : List Stamped
last_of = the_look 0x3000002 poison ++ by_second (Counted its_title Reset 0x3000002 0) ∷ []

-- the records with an answer of the read
abbrev told : Answer → ℕ → ℕ → ℕ → List ToldRecord
told answer word value after = reading_so (so_read answer word value after)

-- ---- the same with the poisoning of the slot's one content word

-- The steps of the first phase, the latest first. No word is poisoned in it.
abbrev steps_until_1 : List OneStep
steps_until_1 =
    Logged (by_first (exchanged 0 the_gift 2)) ∷ Logged (by_first (Counted its_title Copy 0x1000001 0)) ∷ Logged
    (by_first (Counted its_title Issue 0 0))
    ∷ Logged (by_first (filled the_fill)) ∷ Logged (by_first (took the_take)) ∷ []

placed_until_1 : AreInPlace steps_until_1
placed_until_1 = (tt, (tt, (refl, (tt, (tt, tt)))))

none_until_1 : (t : Title) → spoiled t steps_until_1 ≡ 0
none_until_1 t = elim (title_tells its_title t) [ inl y ↦ rw y.0 refl | inr n ↦ rw n.0 refl ]

abbrev look_step : ℕ → OneStep
look_step word = Logged (by_second (Looked its_title word))

abbrev read_step : ℕ → OneStep
read_step value = Logged (by_second (Read its_title 0 value no_deeds false false))

abbrev taking_step : OneStep
taking_step = Logged (by_second (exchanged 1 the_taking 2))

-- These are steps of both phases: they are in place, have no poisoning without a free, and leave poison.
pub record AreFreed (all : List Stamped) (steps : List OneStep) : Type 0 where
  pub logged : logged_among steps ≡ all
  pub placed : AreInPlace steps
  pub freed : (t : Title) → spoiled t steps ≡ 0
  pub content : content_in its_title 0 steps ≡ poison

-- the second thread reads the content before it is poisoned, or poison before the free
abbrev pub content_steps : List OneStep
content_steps = Logged the_free ∷ Spoiled its_title 0 ∷ read_step 0 ∷ look_step 0x2000003 ∷ taking_step ∷ steps_until_1

pub held_content : AreFreed (held_until_2 0) content_steps
held_content = record {
  logged = refl;
  placed = (
    (refl, inl refl),
    ((refl, lit< tt), (record { right = λ clean. refl; calm = λ found is handed. inl refl }, (tt, (tt, placed_until_1)))),
  );
  freed = λ t. elim (title_tells its_title t) [ inl y ↦ rw y.0 refl | inr n ↦ rw n.0 refl ];
  content = refl;
}

abbrev pub poison_steps : List OneStep
poison_steps = Logged the_free ∷ read_step poison ∷ Spoiled its_title 0 ∷ look_step 0x2000003 ∷ taking_step ∷ steps_until_1

pub held_poison : AreFreed (held_until_2 poison) poison_steps
held_poison = record {
  logged = refl;
  placed = (
    (refl, inr ((λ e. absurd (omega arith)), inl refl)),
    (record { right = λ clean. refl; calm = λ found is handed. inl refl }, ((refl, lit< tt), (tt, (tt, placed_until_1)))),
  );
  freed = λ t. elim (title_tells its_title t) [ inl y ↦ rw y.0 refl | inr n ↦ rw n.0 refl ];
  content = refl;
}

-- the steps of both phases if the second thread looks after the free
abbrev pub freed_steps : List OneStep
freed_steps = read_step poison ∷ look_step 0x3000002 ∷ taking_step ∷ Logged the_free ∷ Spoiled its_title 0 ∷ steps_until_1

pub freed_poison : AreFreed (freed_until_2 poison) freed_steps
freed_poison = record {
  logged = refl;
  placed = (
    record { right = λ clean. refl; calm = λ found is handed. inl refl },
    (tt, (tt, ((refl, inl refl), ((refl, lit< tt), placed_until_1)))),
  );
  freed = λ t. elim (title_tells its_title t) [ inl y ↦ rw y.0 refl | inr n ↦ rw n.0 refl ];
  content = refl;
}

-- the third phase after them
abbrev third_steps : List OneStep → List OneStep
third_steps steps = Logged (by_second (Counted its_title Reset 0x3000002 0)) ∷ read_step poison ∷ look_step 0x3000002 ∷ steps

third_placed : (all : List Stamped) (steps : List OneStep) → AreFreed all steps → AreInPlace (third_steps steps)
third_placed all steps is = (tt, (record { right = λ clean. sym is.content; calm = λ found look handed. inl refl }, (tt, is.placed)))

third_freed : (all : List Stamped) (steps : List OneStep) → AreFreed all steps → (t : Title) → spoiled t (third_steps steps) ≡ 0
third_freed all steps is t = elim (title_tells its_title t) [ inl y ↦ rw y.0 (is.freed t) | inr n ↦ rw n.0 (is.freed t) ]

third_logged : (all : List Stamped) (steps : List OneStep) → AreFreed all steps → logged_among (third_steps steps) ≡ all ++ last_of
third_logged all steps is =
    ap (λ (xs : List Stamped). ((xs ++ by_second (Looked its_title 0x3000002) ∷ []) ++
    by_second (Read its_title 0 poison no_deeds false false) ∷ [])
    ++ by_second (Counted its_title Reset 0x3000002 0) ∷ []) is.logged
    ∙ (append_assoc (all ++ by_second (Looked its_title 0x3000002) ∷ []) (by_second (Read its_title 0 poison no_deeds false false) ∷ [])
    (by_second (Counted its_title Reset 0x3000002 0) ∷ [])
    ∙ append_assoc all (by_second (Looked its_title 0x3000002) ∷ [])
    (by_second (Read its_title 0 poison no_deeds false false) ∷ by_second (Counted its_title Reset 0x3000002 0) ∷ []))

abbrev ListIn : List Stamped → ℕ → List Made → Type 0
ListIn all q ms = ms ≡ entered_in q (map (λ (m : Stamped). m.entry) all)

pub order_1 : (answer : Answer) (word value after : ℕ) → HasOneOrder (seat_until (told answer word value after) 1)
order_1 answer word value after =
    let ts = told_until 1 (told answer word value after) in
    has_order ts (seen_number 2) (lists_until 1) until_1 (record {
      stakes = (lit< tt, (lit< tt, (lit< tt, (lit< tt, (lit< tt, tt)))));
      logs = by_two (λ k. log_of k ts ≡ by_stake k until_1) refl refl (λ k n0 n1. rw (ne_eqb 0 k n0) refl);
      lists_are = list_cases ts (seen_number 2) (lists_until 1) (ListIn until_1) refl refl refl
          (λ q n0 n4 n5. rw (ne_eqb 0 q n0, ne_eqb 4 q n4, ne_eqb 5 q n5) refl);
      found = refl;
      steps = steps_until_1;
      logged = refl;
      placed = placed_until_1;
      freed = none_until_1;
    })

pub held_2 : (answer : Answer) (value after : ℕ) (steps : List OneStep) → AreFreed (held_until_2 value) steps →
    HasOneOrder (seat_until (told answer 0x2000003 value after) 2)
held_2 answer value after steps is =
    let ts = told_until 2 (told answer 0x2000003 value after) in
    has_order ts (seen_number 3) (lists_until 2) (held_until_2 value) (record {
      stakes = (lit< tt, (lit< tt, (lit< tt, (lit< tt, (lit< tt, (lit< tt, (lit< tt, (lit< tt, (lit< tt, tt)))))))));
      logs = by_two (λ k. log_of k ts ≡ by_stake k (held_until_2 value)) refl refl (λ k n0 n1. rw (ne_eqb 0 k n0, ne_eqb 1 k n1) refl);
      lists_are = list_cases ts (seen_number 3) (lists_until 2) (ListIn (held_until_2 value)) refl refl refl
          (λ q n0 n4 n5. rw (ne_eqb 0 q n0, ne_eqb 4 q n4, ne_eqb 5 q n5) refl);
      found = refl;
      steps = steps;
      logged = is.logged;
      placed = is.placed;
      freed = is.freed;
    })

pub held_3 : (answer : Answer) (value after : ℕ) (steps : List OneStep) → AreFreed (held_until_2 value) steps →
    HasOneOrder (seat_until (told answer 0x2000003 value after) 3)
held_3 answer value after steps is =
    let ts = told_until 3 (told answer 0x2000003 value after) in
    has_order ts (seen_number 4) (lists_until 3) (held_until_2 value ++ last_of) (record {
      stakes = (
        lit< tt,
        (
          lit< tt,
          (lit< tt, (lit< tt, (lit< tt, (lit< tt, (lit< tt, (lit< tt, (lit< tt, (lit< tt, (lit< tt, (lit< tt, tt)))))))))),
        ),
      );
      logs = by_two (λ k. log_of k ts ≡ by_stake k (held_until_2 value ++ last_of)) refl refl
          (λ k n0 n1. rw (ne_eqb 0 k n0, ne_eqb 1 k n1) refl);
      lists_are = list_cases ts (seen_number 4) (lists_until 3) (ListIn (held_until_2 value ++ last_of)) refl refl refl
          (λ q n0 n4 n5. rw (ne_eqb 0 q n0, ne_eqb 4 q n4, ne_eqb 5 q n5) refl);
      found = refl;
      steps = third_steps steps;
      logged = third_logged (held_until_2 value) steps is;
      placed = third_placed (held_until_2 value) steps is;
      freed = third_freed (held_until_2 value) steps is;
    })

pub freed_2 : (answer : Answer) (value after : ℕ) (steps : List OneStep) → AreFreed (freed_until_2 value) steps →
    HasOneOrder (seat_until (told answer 0x3000002 value after) 2)
freed_2 answer value after steps is =
    let ts = told_until 2 (told answer 0x3000002 value after) in
    has_order ts (seen_number 3) (lists_until 2) (freed_until_2 value) (record {
      stakes = (lit< tt, (lit< tt, (lit< tt, (lit< tt, (lit< tt, (lit< tt, (lit< tt, (lit< tt, (lit< tt, tt)))))))));
      logs = by_two (λ k. log_of k ts ≡ by_stake k (freed_until_2 value)) refl refl (λ k n0 n1. rw (ne_eqb 0 k n0, ne_eqb 1 k n1) refl);
      lists_are = list_cases ts (seen_number 3) (lists_until 2) (ListIn (freed_until_2 value)) refl refl refl
          (λ q n0 n4 n5. rw (ne_eqb 0 q n0, ne_eqb 4 q n4, ne_eqb 5 q n5) refl);
      found = refl;
      steps = steps;
      logged = is.logged;
      placed = is.placed;
      freed = is.freed;
    })

pub freed_3 : (answer : Answer) (value after : ℕ) (steps : List OneStep) → AreFreed (freed_until_2 value) steps →
    HasOneOrder (seat_until (told answer 0x3000002 value after) 3)
freed_3 answer value after steps is =
    let ts = told_until 3 (told answer 0x3000002 value after) in
    has_order ts (seen_number 4) (lists_until 3) (freed_until_2 value ++ last_of) (record {
      stakes = (
        lit< tt,
        (
          lit< tt,
          (lit< tt, (lit< tt, (lit< tt, (lit< tt, (lit< tt, (lit< tt, (lit< tt, (lit< tt, (lit< tt, (lit< tt, tt)))))))))),
        ),
      );
      logs = by_two (λ k. log_of k ts ≡ by_stake k (freed_until_2 value ++ last_of)) refl refl
          (λ k n0 n1. rw (ne_eqb 0 k n0, ne_eqb 1 k n1) refl);
      lists_are = list_cases ts (seen_number 4) (lists_until 3) (ListIn (freed_until_2 value ++ last_of)) refl refl refl
          (λ q n0 n4 n5. rw (ne_eqb 0 q n0, ne_eqb 4 q n4, ne_eqb 5 q n5) refl);
      found = refl;
      steps = third_steps steps;
      logged = third_logged (freed_until_2 value) steps is;
      placed = third_placed (freed_until_2 value) steps is;
      freed = third_freed (freed_until_2 value) steps is;
    })
