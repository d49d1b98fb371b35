-- A record is played: without a slot, by a look, and by a counted step.
use Rattle.std.proofs.Common.{◌≡◌, ℕ, ◌+◌, ◌*◌, Bool, List, [], ◌∷◌, ◌++◌, Option, Some, None, refl, sym, ◌∙◌, ap, subst, arith, ◌⊎◌, inl, inr}
use Rattle.pa_slot.specs.declared.word.Step.{Step}
use Rattle.pa_slot.specs.declared.title.Title.{Title}
use Rattle.pa_slot.specs.declared.title.OwnState.TheVariants.{Clean}
use Rattle.pa_machine.specs.declared.event.Event.{Event}
use Rattle.pa_machine.specs.declared.event.Event.TheVariants.{Load}
use Rattle.pa_slot.specs.Run.{Mark}
use Rattle.pa_slot.specs.Titles.{Covers, content_place, count_place, count_word}
use Rattle.pa_slot.specs.Holdings.{Piece, OwnAs, RefOf, IsTitleHeld}
use Rattle.pa_machine.specs.Events.{State, HasActor, Holds, total_of, IsEnabled}
use Rattle.pa_machine.specs.Trail.{IsGoodState, IsRunTo}
use Rattle.pa_machine.proofs.Lasting.{run_start}
use Rattle.pa_record.specs.Spans.{name_of}
use Rattle.pa_rules.specs.declared.played.Played.{Played}
use Rattle.pa_rules.specs.Played.{mark_of}
use Rattle.pa_rules.specs.Registers.{is_plain_op}
use Rattle.pa_core_steps.specs.Turns.{IsDone}
use Rattle.pa_core_steps.proofs.Joining.{run_good, run_one, run_join}
use Rattle.pa_core_run.specs.Playing.{read_by, count_event, step_event, read_events, mark_events, told_events, HasRead, Finds, AreBeside, Plays}
use Rattle.pa_machine.proofs.Holding.{own_title, ref_title}

abbrev no_title : Title
no_title = record { start = 0; len = 0; born = 0 }

-- events of both lists are beside
pub beside_both : (actor : ℕ) (es fs : List Event) → AreBeside actor es → AreBeside actor fs → AreBeside actor (es ++ fs)
beside_both actor [] fs h k = k
beside_both actor (e ∷ es) fs h k = (h.0, beside_both actor es fs h.1 k)

-- a record that reports no slot
pub play_none : (Made : Title → Type 0) (x : Played) (s next : State) (first : List Event) → mark_of x ≡ None → IsGoodState s
    → IsRunTo s first next → AreBeside (x.thread + 1) first → Plays Made x s next
play_none Made x s next first none good run beside =
    let good2 = run_good s next first good run in
    let told : told_events x no_title ≡ [] =
    ap (λ o. mark_events (is_plain_op x.rules x.op) (x.thread + 1) no_title o (read_by x.op x.answer)) none in
    let stays : IsRunTo next (told_events x no_title) next = subst (λ es. IsRunTo next es next) (sym told) (run_start next good2) in (
      first ++ (told_events x no_title ++ []),
      record {
        title = no_title;
        first = first;
        last = [];
        mid = next;
        after = next;
        parts = refl;
        prepares = run;
        finds = subst (λ o. Finds Made next.words no_title o (read_by x.op x.answer)) (sym none) tt;
        tells = stays;
        clears = run_start next good2;
        prepared_beside = beside;
        cleared_beside = tt;
      },
    )

-- ---- a look

-- a thread has a handle to the title
abbrev pub HasHandle : State → ℕ → Title → Type 0
HasHandle s k t = Holds s k (OwnAs t Clean) ⊎ Holds s k (RefOf t)

pub handle_held : (s : State) (k : ℕ) (t : Title) → HasHandle s k t → IsTitleHeld (total_of s) t
handle_held s k t (inl own) = own_title s k t Clean own
handle_held s k t (inr ref) = ref_title s k t ref

-- with it each of the title's words can be read
load_run : (s : State) (k : ℕ) (t : Title) (q : ℕ) → IsGoodState s → HasActor s k → HasHandle s k t → Covers t (8 * q) →
    IsRunTo s (Load k (8 * q) ∷ []) s
load_run s k t q good has holds covers =
    let can : IsEnabled (Load k (8 * q)) s =
    (has, omega arith, inr (t, covers, inr (elim holds [ inl own ↦ inl (Clean, own) | inr ref ↦ inr ref ]))) in
    run_one s s (Load k (8 * q)) good can refl

read_run : (s : State) (k : ℕ) (t : Title) (read : Option (ℕ × ℕ)) → IsGoodState s → HasActor s k → HasHandle s k t →
    HasRead s.words t read → IsRunTo s (read_events k t read) s
read_run s k t None good has holds found = run_start s good
read_run s k t (Some read) good has holds found =
    let well = good.divided.well t (handle_held s k t holds) in
    let a = well.start_aligned in
    let b = well.len_aligned in
    let c = well.long in
    let inside = found.0 in
    load_run s k t (content_place t read.0) good has holds (omega arith, omega arith)

look_run : (s : State) (plain : Bool) (k : ℕ) (t : Title) (read : Option (ℕ × ℕ)) → IsGoodState s → HasActor s k → HasHandle s k t →
    HasRead s.words t read →
    IsRunTo s (step_event plain k t None ∷ read_events k t read) s
look_run s plain k t read good has holds found =
    let well = good.divided.well t (handle_held s k t holds) in
    let a = well.start_aligned in
    let b = well.len_aligned in
    let c = well.long in
    run_join s s s (Load k (8 * count_place t) ∷ []) (read_events k t read) good
    (load_run s k t (count_place t) good has holds (omega arith, omega arith)) (read_run s k t read good has holds found)

pub play_look : (Made : Title → Type 0) (x : Played) (s : State) (m : Mark) (t : Title) → mark_of x ≡ Some m → m.step ≡ None →
    IsGoodState s → HasActor s (x.thread + 1) →
    HasHandle s (x.thread + 1) t → Made t → name_of t ≡ m.slot → count_word s.words t ≡ m.found →
    HasRead s.words t (read_by x.op x.answer) → Plays Made x s s
play_look Made x s m t is look good has holds made name word read =
    let k = x.thread + 1 in
    let by = read_by x.op x.answer in
    let plain = is_plain_op x.rules x.op in
    let told : told_events x t ≡ step_event plain k t None ∷ read_events k t by =
    ap (λ o. mark_events plain k t o by) is ∙ ap (λ o. step_event plain k t o ∷ read_events k t by) look in (
      [] ++ (told_events x t ++ []),
      record {
        title = t;
        first = [];
        last = [];
        mid = s;
        after = s;
        parts = refl;
        prepares = run_start s good;
        finds = subst (λ o. Finds Made s.words t o by) (sym is) (made, name, word, read);
        tells = subst (λ es. IsRunTo s es s) (sym told) (look_run s plain k t by good has holds read);
        clears = run_start s good;
        prepared_beside = tt;
        cleared_beside = tt;
      },
    )

-- ---- a step

-- A record's step p is made on a title after some events, and some follow.
pub play_step : (Made : Title → Type 0) (x : Played) (s from to next : State) (m : Mark) (t : Title) (p : Step) (lost gained : List Piece)
    (before first last : List Event) →
    mark_of x ≡ Some m → m.step ≡ Some p → read_by x.op x.answer ≡ None → IsGoodState s → Made t → name_of t ≡ m.slot →
    count_word from.words t ≡ m.found →
    IsRunTo s before from →
    IsDone from (x.thread + 1) t p (count_event (is_plain_op x.rules x.op) (x.thread + 1) t p) lost gained first to → IsRunTo to last next →
    AreBeside (x.thread + 1) before → AreBeside (x.thread + 1) first → AreBeside (x.thread + 1) last → Plays Made x s next
play_step Made x s from to next m t p lost gained before first last is step none good made name word run done clears beside prepared
    cleared =
    let k = x.thread + 1 in
    let plain = is_plain_op x.rules x.op in
    let told : told_events x t ≡ count_event plain k t p ∷ [] =
    ap (λ o. mark_events plain k t o (read_by x.op x.answer)) is ∙
    (ap (λ o. step_event plain k t o ∷ read_events k t (read_by x.op x.answer)) step ∙
    ap (λ o. count_event plain k t p ∷ read_events k t o) none) in (
      (before ++ first) ++ (told_events x t ++ last),
      record {
        title = t;
        first = before ++ first;
        last = last;
        mid = done.mid;
        after = to;
        parts = refl;
        prepares = run_join s from done.mid before first good run done.prepares.run;
        finds = subst (λ o. Finds Made done.mid.words t o (read_by x.op x.answer)) (sym is)
            (made, name, done.prepares.word_left ∙ word, subst (λ o. HasRead done.mid.words t o) (sym none) tt);
        tells = subst (λ es. IsRunTo done.mid es to) (sym told) done.steps.run;
        clears = clears;
        prepared_beside = beside_both k before first beside prepared;
        cleared_beside = cleared;
      },
    )
