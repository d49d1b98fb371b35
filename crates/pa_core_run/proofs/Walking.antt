-- Record by record: if each can be played, all are.
use Rattle.std.proofs.Common.{◌≡◌, ℕ, ◌+◌, ◌*◌, ◌≤◌, List, [], ◌∷◌, ◌++◌, refl, sym, ◌∙◌, ap, subst, arith}
use Rattle.std.specs.Prelude.{Contains}
use Rattle.pa_machine.specs.declared.event.Event.{Event}
use Rattle.pa_slot.specs.declared.title.Title.{Title}
use Rattle.pa_machine.specs.Events.{State}
use Rattle.pa_machine.specs.Trail.{IsGoodState, IsRunTo}
use Rattle.pa_machine.proofs.Lasting.{run_start}
use Rattle.pa_record.specs.declared.history.Held.TheVariants.{Nothing}
use Rattle.pa_record.specs.Root.{Root, new_root, root_replayed}
use Rattle.pa_lists.proofs.Members.{first_in}
use Rattle.pa_rules.specs.declared.played.Played.{Played}
use Rattle.pa_one_run.proofs.lines.Sorting.{below_gap}
use Rattle.pa_one_run.proofs.lines.Cuts.{IsCut, cut_start, cut_here, cut_next, recorded_cases, entries_recorded, cells_recorded}
use Rattle.pa_one_run.proofs.Filed.{IsFiled}
use Rattle.pa_rules.specs.Told.{told_by}
use Rattle.pa_one_run.proofs.Legality.{filed}
use Rattle.pa_core_run.specs.Laws.{PlayedRecordsMakeARun}
use Rattle.pa_core_run.proofs.Beginning.{start_of, start_is, start_good, start_shows}
use Rattle.pa_core_steps.proofs.Joining.{run_good, run_join}
use Rattle.pa_one_run.specs.Parts.{Parts, entry_line, cell_line, parts_of}
use Rattle.pa_one_run.specs.Before.{below, root_at, gave_last}
use Rattle.pa_core_run.specs.Playing.{told_events, IsPlayedAs, PlaysTo}
use Rattle.pa_core_run.specs.Ledger.{IsShown}
use Rattle.pa_core_run.specs.Standing.{ledger_of}
use Rattle.pa_core_run.specs.Fronts.{MadeIn, titles_in, ShowsFront, CanBePlayed}

-- a record that is played is a run of the core
pub played_run : (Made : Title → Type 0) (x : Played) (s next : State) (events : List Event) → IsGoodState s →
    IsPlayedAs Made x s events next → IsRunTo s events next
played_run Made x s next events good p =
    let good2 = run_good s p.mid p.first good p.prepares in
    let run = run_join s p.mid next p.first (told_events x p.title ++ p.last) good p.prepares
    (run_join p.mid p.after next (told_events x p.title) p.last good2 p.tells p.clears) in
    subst (λ es. IsRunTo s es next) (sym p.parts) run

-- if no entry and no exchange comes between two lines, the later one has the same before it
front_later : (a : Parts) (n m : ℕ) (before rest : List Played) (s : State) → IsFiled a → IsCut a n before rest → n ≤ m →
    ((x : Played) → Contains rest x → m ≤ x.line) →
    ShowsFront a n before rest s → ShowsFront a m before rest s
front_later a n m before rest s h cut up late shows =
    let gap = recorded_cases a n m before rest cut late in
    let cells : (k : ℕ) → below cell_line n (a.cells k) ≡ below cell_line m (a.cells k) =
    λ k. below_gap cell_line n m (a.cells k) up (λ e among. gap e.line (cells_recorded a k e h among)) in
    let journals : (p : ℕ) → below entry_line n (a.roots p) ≡ below entry_line m (a.roots p) =
    λ p. below_gap entry_line n m (a.roots p) up (λ e among. gap e.line (entries_recorded a p e h among)) in
    let roots : root_at a n ≡ root_at a m = λ i p. root_replayed a.pools (journals p i) new_root in
    record {
      st = shows.st;
      front = record {
        registers = shows.front.registers;
        rows = shows.front.rows;
        caches = shows.front.caches;
        lists = shows.front.lists;
        cells = λ k. shows.front.cells k ∙ ap (gave_last Nothing) (cells k);
        words = shows.front.words;
        contents = shows.front.contents;
      };
      shown = subst (λ (root : ℕ → Root). IsShown (titles_in a root) (a.threads + 1) (2097152 * a.supers)
          (ledger_of a.partitions shows.st) s) roots shows.shown;
    }

-- The rest of the records is played from this state, by events that lead to a last one.
pub record IsWalked (a : Parts) (rest : List Played) (s : State) : Type 0 where
  pub events : List Event
  pub last : State
  pub run : IsRunTo s events last
  pub plays : PlaysTo (MadeIn a) s rest events last

pub walked : (a : Parts) (n : ℕ) (before rest : List Played) (s : State) → IsFiled a → IsCut a n before rest →
    ((first : List Played) (x : Played) (then : List Played) → a.ps ≡ first ++ x ∷ then → CanBePlayed a first x then) →
    ShowsFront a n before rest s → IsWalked a rest s
walked a n before [] s h cut each shows = record { events = []; last = s; run = run_start s shows.shown.good; plays = (refl, refl) }
walked a n before (x ∷ rest) s h cut each shows =
    let here = front_later a n x.line before (x ∷ rest) s h cut (cut.late x (first_in x rest))
    (cut_here a before rest x h cut.parts).late shows in
    let (next, (events, played), shows2) = each before x rest cut.parts s here in
    let more = walked a (x.line + 1) (before ++ x ∷ []) rest next h (cut_next a before rest x h cut.parts) each shows2 in
    record {
      events = events ++ more.events;
      last = more.last;
      run = run_join s next more.last events more.events shows.shown.good
          (played_run (MadeIn a) x s next events shows.shown.good played) more.run;
      plays = (events, next, more.events, refl, played, more.plays);
    }

-- if each record can be played, the run has a run of the core
pub walks_whole : PlayedRecordsMakeARun
walks_whole t r limits filed_run each =
    let told = told_by r in
    let a = parts_of t told in
    let h = filed t told limits filed_run in
    let w = walked a 0 [] a.ps (start_of (2097152 * a.supers) (a.threads + 1)) h (cut_start a) each (start_shows a h) in
    record {
      start = start_of (2097152 * a.supers) (a.threads + 1);
      events = w.events;
      last = w.last;
      starts = start_is (2097152 * a.supers) (a.threads + 1) (omega arith);
      good = start_good (2097152 * a.supers) (a.threads + 1) (omega arith);
      run = w.run;
      plays = w.plays;
    }
