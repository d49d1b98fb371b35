-- How an execution grows, a turn at a time.
use Rattle.std.proofs.Common.{◌≡◌, ℕ, zero, suc, ◌+◌, ◌<◌, ◌≤◌, Bool, true, false, List, [], map, refl, sym, ◌∙◌, ap, subst, arith, inl, inr, eqb}
use Rattle.std.specs.Prelude.{if◌then◌else◌}
use Rattle.std.proofs.lemmas.Bool.{cases_Bool, cases_eq, eq-eqb, ne_eqb, both_ways}
use Rattle.pa_region.specs.declared.view.View.{View}
use Rattle.pa_region.specs.Takes.{log_of}
use Rattle.pa_trace.specs.declared.script.Trace.{Trace}
use Rattle.pa_rules.specs.Played.{op_line_of}
use Rattle.pa_logs.specs.Told.{ToldRecord, played_in}
use Rattle.pa_totals.specs.Settled.{none_owed}
use Rattle.pa_op_specs.specs.Workers.{WorkerValue}
use Rattle.pa_execution.specs.Turns.{Manner, Beside, lines_in_turn}
use Rattle.pa_execution.specs.Courses.{Course, PlaysBy, BeginsNew, HasSeenAll, HasHeardAll, HearsIf, some_in}
use Rattle.pa_execution.proofs.Merging.{no_lines}
use Rattle.pa_execution.proofs.Playing.{sees_then}
use Rattle.pa_execution.specs.Growing.{Agree, HasBegunBy, HasEndedBy, PlaysTurn, HasGrown, HasSeenMore, TurnsGrow, HasBegun, HasEnded, PlaysPhase, CoursesGrow}

-- of each number below a bound there are records with a property: so one function has them
choose : (P : ℕ → List ToldRecord → Type 0) (n : ℕ) → ((k : ℕ) → k < n → (xs : List ToldRecord) × P k xs) →
    (f : ℕ → List ToldRecord) × ((k : ℕ) → k < n → P k (f k))
choose P zero each = (λ k. [], λ k low. absurd (omega arith))
choose P (suc n) each =
    let again = choose P n (λ k low. each k (omega arith)) in
    let last = each n (omega arith) in (
      λ k. if eqb k n then last.0 else again.0 k,
      λ k low. elim (cases_eq k n) [
        | inl e ↦ rw (eq-eqb k n e) (subst (λ m. P m last.0) (sym e) last.1)
        | inr ne ↦ rw (ne_eqb k n ne) (again.1 k (omega arith))
      ],
    )

-- the execution with this turn
abbrev with_turn : ℕ → (ℕ → WorkerValue) → (ℕ → List ToldRecord) → (ℕ → WorkerValue) → View → Course → Course
with_turn n starts plays ends seat c = record {
  starts = λ m k. if eqb m n then starts k else c.starts m k;
  plays = λ m k. if eqb m n then plays k else c.plays m k;
  ends = λ m k. if eqb m n then ends k else c.ends m k;
  seats = λ m. if eqb m n then seat else c.seats m;
}

-- an execution of no turn
abbrev no_turn : (ℕ → WorkerValue) → View → Course
no_turn starts seat = record { starts = λ n k. starts k; plays = λ n k. []; ends = λ n k. starts k; seats = λ n. seat }

begins : (way : Manner) (t : Trace) (heard : ℕ → Bool) (starts : ℕ → WorkerValue) →
    ((k : ℕ) → k < t.threads → BeginsNew t k (starts k)) → (c : Course) × HasBegunBy way t 0 c heard starts
begins way t heard starts new = (
  no_turn starts (starts 0).stock.view,
  record {
    course = record {
      begins = new;
      plays = λ n k low high. absurd (omega arith);
      lines = λ n k low high. absurd (omega arith);
      settled = λ n k low high. absurd (omega arith);
      tells = λ n low high. absurd (omega arith);
      hears = λ n k low high. absurd (omega arith);
      keeps = λ n low high. absurd (omega arith);
    };
    new = λ none. new;
    heard = λ some. absurd (omega arith);
  },
)

-- who hasn't heard plays nothing
hears_for : (b : Bool) (xs : List ToldRecord) (k : ℕ) (seat : View) (before after : WorkerValue) → HearsIf b k seat before after →
    (b ≡ false → xs ≡ []) → HearsIf (some_in xs) k seat before after
hears_for b xs k seat before after is none = record {
  view = is.view;
  same = is.same;
  log = is.log;
  lists = is.lists;
  seen = λ some. elim (cases_Bool b) [ inl y ↦ is.seen y | inr n ↦ absurd (both_ways _ (ap some_in (none n)) some) ];
}

hears_same : (k : ℕ) (xs ys : List ToldRecord) (u v : View) (a b p q : WorkerValue) → ys ≡ xs → v ≡ u → b ≡ a → q ≡ p →
    HearsIf (some_in xs) k u a p → HearsIf (some_in ys) k v b q
hears_same k xs ys u v a b p q xs_are u_is a_is p_is is =
    subst (λ zs. HearsIf (some_in zs) k v b q) (sym xs_are)
    (subst (λ z. HearsIf (some_in xs) k z b q) (sym u_is)
    (subst (λ z. HearsIf (some_in xs) k u z q) (sym a_is) (subst (λ z. HearsIf (some_in xs) k u a z) (sym p_is) is)))

module _ (way : Manner) (t : Trace) (n : ℕ) (c : Course) (heard : ℕ → Bool) (starts : ℕ → WorkerValue) (plays : ℕ → List ToldRecord)
    (ends : ℕ → WorkerValue) (seat : View) (begun : HasBegunBy way t n c heard starts) where
  abbrev d : Course
  d = with_turn (suc n) starts plays ends seat c

  agree : Agree n c d
  agree = record {
    starts = λ m k low high. rw (ne_eqb m (suc n) (λ e. absurd (omega arith))) refl;
    plays = λ m k low high. rw (ne_eqb m (suc n) (λ e. absurd (omega arith))) refl;
    ends = λ m k low high. rw (ne_eqb m (suc n) (λ e. absurd (omega arith))) refl;
    seats = λ m low high. rw (ne_eqb m (suc n) (λ e. absurd (omega arith))) refl;
  }

  -- what it has of the new turn
  last_starts : (m k : ℕ) → m ≡ suc n → d.starts m k ≡ starts k
  last_starts m k e = rw (eq-eqb m (suc n) e) refl

  last_plays : (m k : ℕ) → m ≡ suc n → d.plays m k ≡ plays k
  last_plays m k e = rw (eq-eqb m (suc n) e) refl

  last_ends : (m k : ℕ) → m ≡ suc n → d.ends m k ≡ ends k
  last_ends m k e = rw (eq-eqb m (suc n) e) refl

  last_seats : (m : ℕ) → m ≡ suc n → d.seats m ≡ seat
  last_seats m e = rw (eq-eqb m (suc n) e) refl

  first_new : (k : ℕ) → k < t.threads → BeginsNew t k (d.starts 1 k)
  first_new k few = elim (cases_eq n 0) [
    | inl e ↦ subst (λ w. BeginsNew t k w) (sym (last_starts 1 k (omega arith))) (begun.new e k few)
    | inr ne ↦ subst (λ w. BeginsNew t k w) (sym (agree.starts 1 k (omega arith) (omega arith)))
        (begun.course.begins k few)
  ]

  all_hear : ((k : ℕ) → k < t.threads → heard k ≡ false → plays k ≡ []) → (m k : ℕ) → 1 ≤ m → m < suc n → k < t.threads →
      HearsIf (some_in (d.plays (m + 1) k)) k (d.seats m) (d.ends m k) (d.starts (m + 1) k)
  all_hear none m k low high few = elim (cases_eq m n) [
    | inl e ↦
        hears_same k (plays k) (d.plays (m + 1) k) (c.seats m) (d.seats m) (c.ends m k) (d.ends m k) (starts k) (d.starts (m + 1) k)
        (last_plays (m + 1) k (omega arith)) (agree.seats m low (omega arith)) (agree.ends m k low (omega arith))
        (last_starts (m + 1) k (omega arith))
        (subst (λ j. HearsIf (some_in (plays k)) k (c.seats j) (c.ends j k) (starts k)) (sym e)
        (hears_for (heard k) (plays k) k (c.seats n) (c.ends n k) (starts k) (begun.heard (omega arith) k few) (none k few)))
    | inr ne ↦
        hears_same k (c.plays (m + 1) k) (d.plays (m + 1) k) (c.seats m) (d.seats m) (c.ends m k) (d.ends m k) (c.starts (m + 1) k)
        (d.starts (m + 1) k) (agree.plays (m + 1) k (omega arith) (omega arith)) (agree.seats m low (omega arith))
        (agree.ends m k low (omega arith)) (agree.starts (m + 1) k (omega arith) (omega arith))
        (begun.course.hears m k low (omega arith) few)
  ]

  kept : (1 ≤ n → HasSeenAll (c.seats n) seat) → (m : ℕ) → 1 ≤ m → m < suc n → HasSeenAll (d.seats m) (d.seats (m + 1))
  kept more m low high =
      subst (λ v. HasSeenAll v (d.seats (m + 1))) (sym (agree.seats m low (omega arith)))
      (elim (cases_eq m n) [
        | inl e ↦
            subst (λ v. HasSeenAll (c.seats m) v) (sym (last_seats (m + 1) (omega arith)))
            (subst (λ j. HasSeenAll (c.seats j) seat) (sym e) (more (omega arith)))
        | inr ne ↦ subst (λ v. HasSeenAll (c.seats m) v) (sym (agree.seats (m + 1) (omega arith) (omega arith)))
            (begun.course.keeps m low (omega arith))
      ])

  module _ (played : (k : ℕ) → k < t.threads → PlaysTurn way t (suc n) k (starts k) (plays k) (ends k))
      (tells : HasHeardAll t.threads ends seat) where
    all_played : (m k : ℕ) → 1 ≤ m → m ≤ suc n → k < t.threads → PlaysBy way (d.starts m k) (d.plays m k) (d.ends m k)
    all_played m k low high few = elim (cases_eq m (suc n)) [
      | inl e ↦ rw (eq-eqb m (suc n) e) (played k few).0
      | inr ne ↦ rw (ne_eqb m (suc n) ne) (begun.course.plays m k low (omega arith) few)
    ]

    all_lines : (m k : ℕ) → 1 ≤ m → m ≤ suc n → k < t.threads → map op_line_of (played_in (d.plays m k)) ≡ lines_in_turn way t m k
    all_lines m k low high few = elim (cases_eq m (suc n)) [
      | inl e ↦ ap (λ xs. map op_line_of (played_in xs)) (last_plays m k e) ∙
          ((played k few).1 ∙ ap (λ j. lines_in_turn way t j k) (sym e))
      | inr ne ↦ ap (λ xs. map op_line_of (played_in xs)) (agree.plays m k low (omega arith)) ∙ begun.course.lines m k low (omega arith) few
    ]

    all_settled : (m k : ℕ) → 1 ≤ m → m ≤ suc n → k < t.threads → (d.ends m k).owed ≡ none_owed
    all_settled m k low high few = elim (cases_eq m (suc n)) [
      | inl e ↦ ap (λ (w : WorkerValue). w.owed) (last_ends m k e) ∙ (played k few).2
      | inr ne ↦ ap (λ (w : WorkerValue). w.owed) (agree.ends m k low (omega arith)) ∙ begun.course.settled m k low (omega arith) few
    ]

    all_told : (m : ℕ) → 1 ≤ m → m ≤ suc n → HasHeardAll t.threads (d.ends m) (d.seats m)
    all_told m low high = elim (cases_eq m (suc n)) [
      | inl e ↦ subst (λ b. HasHeardAll t.threads (λ k. if b then ends k else c.ends m k) (if b then seat else c.seats m))
          (sym (eq-eqb m (suc n) e)) tells
      | inr ne ↦
          subst (λ b. HasHeardAll t.threads (λ k. if b then ends k else c.ends m k) (if b then seat else c.seats m))
          (sym (ne_eqb m (suc n) ne))
          (begun.course.tells m low (omega arith))
    ]

    ended : ((k : ℕ) → k < t.threads → heard k ≡ false → plays k ≡ []) → (1 ≤ n → HasSeenAll (c.seats n) seat) →
        HasEndedBy way t (suc n) d ends seat
    ended none more = record {
      course = record {
        begins = first_new;
        plays = all_played;
        lines = all_lines;
        settled = all_settled;
        tells = all_told;
        hears = all_hear none;
        keeps = kept more;
      };
      ends = λ k few. last_ends (suc n) k refl;
      seat = last_seats (suc n) refl;
    }

turn_ends : (way : Manner) (t : Trace) (n : ℕ) (c : Course) (heard : ℕ → Bool) (starts : ℕ → WorkerValue) (plays : ℕ → List ToldRecord)
    (ends : ℕ → WorkerValue) (seat : View) → HasBegunBy way t n c heard starts →
    ((k : ℕ) → k < t.threads → PlaysTurn way t (n + 1) k (starts k) (plays k) (ends k)) →
    ((k : ℕ) → k < t.threads → heard k ≡ false → lines_in_turn way t (n + 1) k ≡ []) → HasHeardAll t.threads ends seat →
    (1 ≤ n → HasSeenAll (c.seats n) seat) → (d : Course) × HasGrown way t n c d starts plays ends seat
turn_ends way t n c heard starts plays ends seat begun each none tells more =
    let next : suc n ≡ n + 1 = omega arith in
    let e = d way t n c heard starts plays ends seat begun in
    let each' : (k : ℕ) → k < t.threads → PlaysTurn way t (suc n) k (starts k) (plays k) (ends k) =
    λ k few. subst (λ m. PlaysTurn way t m k (starts k) (plays k) (ends k)) (sym next) (each k few) in (
      e,
      record {
        agree = agree way t n c heard starts plays ends seat begun;
        ended = subst (λ m. HasEndedBy way t m e ends seat) next
            (ended way t n c heard starts plays ends seat begun each' tells
            (λ k few not_heard. no_lines (plays k) ((each k few).1 ∙ none k few not_heard)) more);
        began = λ k. last_starts way t n c heard starts plays ends seat begun (n + 1) k (sym next);
        played = λ k. last_plays way t n c heard starts plays ends seat begun (n + 1) k (sym next);
      },
    )

goes_on : (way : Manner) (t : Trace) (n : ℕ) (c : Course) (heard : ℕ → Bool) (ends starts : ℕ → WorkerValue) (seat : View) → 1 ≤ n →
    HasEndedBy way t n c ends seat → ((k : ℕ) → k < t.threads → HearsIf (heard k) k seat (ends k) (starts k)) →
    HasBegunBy way t n c heard starts
goes_on way t n c heard ends starts seat some done hears = record {
  course = done.course;
  new = λ none. absurd (omega arith);
  heard = λ low k few.
      subst (λ v. HearsIf (heard k) k v (c.ends n k) (starts k)) (sym done.seat)
      (subst (λ w. HearsIf (heard k) k seat w (starts k)) (sym (done.ends k few)) (hears k few));
}

-- a worker that is as it was
waits : (k : ℕ) (seat : View) (w : WorkerValue) → HearsIf false k seat w w
waits k seat w = record { view = w.stock.view; same = refl; log = refl; lists = λ p class. refl; seen = λ heard. absurd cc }

-- the execution with another main seat at the end of a turn
abbrev with_seat : ℕ → View → Course → Course
with_seat n seat c = record c { seats = λ m. if eqb m n then seat else c.seats m }

module _ (way : Manner) (t : Trace) (n : ℕ) (c : Course) (ends : ℕ → WorkerValue) (seat next : View) (done : HasEndedBy way t n c ends seat)
    (heard : HasHeardAll t.threads ends next) (more : HasSeenAll seat next) where
  abbrev later : Course
  later = with_seat n next c

  seats_before : (m : ℕ) → m < n → later.seats m ≡ c.seats m
  seats_before m low = rw (ne_eqb m n (λ e. absurd (omega arith))) refl

  seat_now : (m : ℕ) → m ≡ n → later.seats m ≡ next
  seat_now m e = rw (eq-eqb m n e) refl

  heard_now : HasHeardAll t.threads (c.ends n) next
  heard_now = record {
    aware = heard.aware;
    every = heard.every;
    logs = λ k few. heard.logs k few ∙ sym (ap (λ (w : WorkerValue). log_of k w.stock.view) (done.ends k few));
    idle = heard.idle;
    sees = λ k few. subst (λ (w : WorkerValue). HasSeenAll w.stock.view next) (sym (done.ends k few)) (heard.sees k few);
  }

  told_now : (m : ℕ) → 1 ≤ m → m ≤ n → HasHeardAll t.threads (c.ends m) (later.seats m)
  told_now m low high = elim (cases_eq m n) [
    | inl e ↦ subst (λ v. HasHeardAll t.threads (c.ends m) v) (sym (seat_now m e))
        (subst (λ j. HasHeardAll t.threads (c.ends j) next) (sym e) heard_now)
    | inr ne ↦ subst (λ v. HasHeardAll t.threads (c.ends m) v) (sym (seats_before m (omega arith))) (done.course.tells m low high)
  ]

  kept_now : (m : ℕ) → 1 ≤ m → m < n → HasSeenAll (later.seats m) (later.seats (m + 1))
  kept_now m low high =
      let kept = done.course.keeps m low high in
      subst (λ v. HasSeenAll v (later.seats (m + 1))) (sym (seats_before m high))
      (elim (cases_eq (m + 1) n) [
        | inl e ↦
            subst (λ v. HasSeenAll (c.seats m) v) (sym (seat_now (m + 1) e))
            (sees_then (c.seats m) (c.seats (m + 1)) next kept
            (subst (λ v. HasSeenAll v next) (sym (ap c.seats e ∙ done.seat)) more))
        | inr ne ↦ subst (λ v. HasSeenAll (c.seats m) v) (sym (seats_before (m + 1) (omega arith))) kept
      ])

  seen_more : HasSeenMore way t n c later ends next
  seen_more = record {
    starts = λ m k. refl;
    plays = λ m k. refl;
    same_ends = λ m k. refl;
    seats = seats_before;
    ended = record {
      course = record {
        begins = done.course.begins;
        plays = done.course.plays;
        lines = done.course.lines;
        settled = done.course.settled;
        tells = told_now;
        hears = λ m k low high few. subst (λ v. HearsIf (some_in (c.plays (m + 1) k)) k v (c.ends m k) (c.starts (m + 1) k))
            (sym (seats_before m high)) (done.course.hears m k low high few);
        keeps = kept_now;
      };
      ends = done.ends;
      seat = seat_now n refl;
    };
  }

pub turns_grow : TurnsGrow
turns_grow = record {
  begins = begins;
  ends = turn_ends;
  goes_on = goes_on;
  waits = waits;
  looks = λ way t n c ends seat next done heard more.
      (later way t n c ends seat next done heard more, seen_more way t n c ends seat next done heard more);
}

-- ---- threads that play beside each other

phase_ends : (t : Trace) (n : ℕ) (c : Course) (starts ends : ℕ → WorkerValue) (seat : View) → HasBegun t n c starts →
    ((k : ℕ) → k < t.threads → PlaysPhase t (n + 1) k (starts k) (ends k)) → HasHeardAll t.threads ends seat →
    (1 ≤ n → HasSeenAll (c.seats n) seat) → (d : Course) × Agree n c d × HasEnded t (n + 1) d ends seat
phase_ends t n c starts ends seat begun each tells more =
    let chosen = choose (λ k xs. PlaysTurn Beside t (n + 1) k (starts k) xs (ends k)) t.threads
    (λ k few. let (xs, all, lines, settled) = each k few in (xs, (all, lines, settled))) in
    let grown = turn_ends Beside t n c (λ k. true) starts chosen.0 ends seat begun chosen.1 (λ k few no. absurd cc) tells more in
    (grown.0, grown.1.agree, grown.1.ended)

pub courses_grow : CoursesGrow
courses_grow = record {
  begins = λ t starts new. begins Beside t (λ k. true) starts new;
  ends = phase_ends;
  goes_on = λ t n c ends starts seat some done hears. goes_on Beside t n c (λ k. true) ends starts seat some done hears;
}
