-- The records with their lines in place of their phases: where the lines are played one after the other, each is a phase of its own.
use Rattle.std.proofs.Common.{◌≡◌, ℕ, ◌<◌, ◌≤◌, List, [], ◌∷◌, ◌++◌, map, length, Some, refl, sym, ◌∙◌, ap, subst, arith, inl, inr}
use Rattle.std.specs.Prelude.{Contains}
use Rattle.std.proofs.lemmas.Bool.{cases_Bool}
use Rattle.pa_slot.specs.Count.{number_of}
use Rattle.pa_slot.specs.Run.{Mark}
use Rattle.pa_trace.specs.declared.script.Trace.{Trace}
use Rattle.pa_lists.proofs.Joined.{map_cases, filter_cases, pairs_map}
use Rattle.pa_rules.specs.declared.played.Played.{Played}
use Rattle.pa_rules.specs.Flow.{IsInPhases}
use Rattle.pa_rules.specs.Played.{mark_of}
use Rattle.pa_rules.specs.Seen.{left_number}
use Rattle.pa_rules.specs.Told.{Told}
use Rattle.pa_region.specs.declared.view.Stake.{Stake}
use Rattle.pa_region.specs.declared.view.View.{View}
use Rattle.pa_region.specs.declared.view.Made.{Made}
use Rattle.pa_region.specs.Lists.{list_of, entered_in}
use Rattle.pa_region.specs.Views.{seen_among}
use Rattle.pa_region.proofs.ListFacts.{each_map}
use Rattle.pa_logs.specs.Told.{ToldRecord, played_in, is_of_thread, log_of, told_until}
use Rattle.pa_logs.specs.Touches.{title_of, IsTold}
use Rattle.pa_logs.specs.InTurn.{is_up_to, told_up_to, TurnsSay}
use Rattle.pa_logs.specs.Viewed.{IsExchanged}
use Rattle.pa_logs.specs.Listed.{line_of, IsListOf, AreRising, HasCuts}
use Rattle.pa_logs.specs.Reads.{KnowsAll, HaveEnds, IsReadOff}
use Rattle.pa_logs.specs.Said.{sizes_in, HasLogs, LayersSay}
use Rattle.pa_logs.specs.Swaps.{AreSwapped}
use Rattle.pa_logs.proofs.Saying.{rising, knows, swapped, viewed}
use Rattle.pa_logs.proofs.Seating.{seats_know}
use Rattle.pa_logs.proofs.Viewing.{found_by}

-- the record with its line in place of its phase
abbrev pub turned : ToldRecord → ToldRecord
turned x = record {
  played = record {
    line = x.played.line;
    thread = x.played.thread;
    phase = x.played.line;
    rules = x.played.rules;
    op = x.played.op;
    answer = x.played.answer;
  };
  stretch = x.stretch;
  saw = x.saw;
  gives = x.gives;
}

-- all of them so
abbrev pub in_turn : List ToldRecord → List ToldRecord
in_turn ts = map turned ts

-- what holds of each record so holds of all of these
pub each_turned : (P : ToldRecord → Type 0) (ts : List ToldRecord) → ((x : ToldRecord) → Contains ts x → P (turned x)) →
    (y : ToldRecord) → Contains (in_turn ts) y → P y
each_turned P ts holds y among = let (x, there, same) = map_cases turned ts y among in subst P same (holds x there)

-- and so of what was played
pub each_played : (P : Played → Type 0) (ts : List ToldRecord) → ((x : ToldRecord) → Contains ts x → P (turned x).played) →
    (p : Played) → Contains (played_in (in_turn ts)) p → P p
each_played P ts holds p among =
    let (y, there, same) = map_cases (λ (z : ToldRecord). z.played) (in_turn ts) p among in
    subst P same (each_turned (λ z. P z.played) ts holds y there)

-- the logs stay as they are
log_in_turn : (k : ℕ) (xs : List ToldRecord) → log_of k (in_turn xs) ≡ log_of k xs
log_in_turn k [] = refl
log_in_turn k (x ∷ xs) = elim (cases_Bool (is_of_thread k x)) [
  | inl y ↦ rw y (ap (λ es. x.stretch ++ es) (log_in_turn k xs))
  | inr n ↦ rw n (log_in_turn k xs)
]

-- the records up to a line are those up to a phase
until_in_turn : (n : ℕ) (xs : List ToldRecord) → told_until n (in_turn xs) ≡ in_turn (told_up_to n xs)
until_in_turn n [] = refl
until_in_turn n (x ∷ xs) = elim (cases_Bool (is_up_to n x)) [
  | inl y ↦ rw y (ap (λ zs. turned x ∷ zs) (until_in_turn n xs))
  | inr o ↦ rw o (until_in_turn n xs)
]

module _ (t : Trace) (r : Told) (v : View) (ts : List ToldRecord) (seats : ℕ → View) (says : LayersSay t r v ts)
    (turns : TurnsSay v ts seats) where
  abbrev us : List ToldRecord
  us = in_turn ts

  pub in_lines : AreRising us
  in_lines =
      let less : ToldRecord → ToldRecord → Type 0 = λ x y. x.played.line < y.played.line in
      pairs_map less less turned ts (λ x y first second up. up) (rising t r v ts says)

  -- ---- logs and lists

  -- a seat with every stake, and the logs of some of the records, knows them, and its lists are theirs
  known : (w : View) (xs : List ToldRecord) → ((x : ToldRecord) → Contains xs x → Contains ts x) → HasLogs w xs → KnowsAll w (in_turn xs)
  known w xs within has = seats_know.logs w (in_turn xs) has.aware has.every
      (each_turned (λ y. y.played.thread < 16) xs (λ x among. (knows t r v ts says).logs.threads x (within x among)))
      (each_map (λ (s : Stake). s.log ≡ log_of s.number xs) (λ (s : Stake). s.log ≡ log_of s.number (in_turn xs)) w.stakes
      (λ s log. log ∙ sym (log_in_turn s.number xs)) has.logs)

  listed : (q : ℕ) (w : View) (xs : List ToldRecord) → q < 6 → ((x : ToldRecord) → Contains xs x → Contains ts x) → HasLogs w xs →
      IsListOf q (list_of q w) (in_turn xs)
  listed q w xs few within has = seats_know.lists q w (in_turn xs) has.aware (known w xs within has).logs
      (λ y m among. each_turned (λ z. Contains (entered_in q z.stretch) m → line_of m ≡ z.played.line) xs
      (λ x there. says.heap.lines q few x m (within x there)) y among)

  before : (n : ℕ) (x : ToldRecord) → Contains (told_up_to n ts) x → Contains ts x
  before n x among = (filter_cases (is_up_to n) ts x among).0

  pub list_is : (q : ℕ) → q < 6 → IsListOf q (list_of q v) us
  list_is q few = listed q v ts few (λ x among. among) says.runner.has

  pub cuts : (q : ℕ) → q < 6 → HasCuts q (list_of q v) us
  cuts q few y among = each_turned
      (λ y. (older rest : List Made) × (list_of q v ≡ older ++ rest) × IsListOf q older (told_until y.played.phase us)) ts
      (λ x there.
      let n = x.played.line in
      let (rest, begins) = turns.begins x q there few in (
        list_of q (seats n),
        rest,
        begins,
        subst (λ zs. IsListOf q (list_of q (seats n)) zs) (sym (until_in_turn n ts))
            (listed q (seats n) (told_up_to n ts) few (before n) (turns.ends x there)),
      )) y among

  ends : HaveEnds us
  ends y among = each_turned (λ y. (w : View) × KnowsAll w (told_until y.played.phase us)) ts
      (λ x there.
      let n = x.played.line in (
        seats n,
        subst (λ zs. KnowsAll (seats n) zs) (sym (until_in_turn n ts))
            (known (seats n) (told_up_to n ts) (before n) (turns.ends x there)),
      )) y among

  pub exchanged : AreSwapped (list_of 5 v) r.cells says.swaps us
  exchanged =
      let was = swapped t r v ts says in
      record {
        is = list_is 5 (omega arith);
        cuts = cuts 5 (omega arith);
        rising = in_lines;
        swaps_are = was.swaps_are;
        one_each = each_turned (λ y. length (entered_in 5 y.stretch) ≤ 1) ts was.one_each;
        has = each_turned (λ y. IsExchanged y.played → (m : Made) × Contains (list_of 5 v) m × (line_of m ≡ y.played.line)) ts was.has;
        rises = was.rises;
        gives = λ y m u among. each_turned (λ y. Contains (entered_in 5 y.stretch) m → y.gives u ≡ seen_among u m.seen) ts
            (λ x there. was.gives x m u there) y among;
      }

  -- ---- numbers

  -- no mark of a later line finds a lower number than one before it left
  pub no_less : (x y : ToldRecord) (m n : Mark) → Contains ts x → Contains ts y → x.played.line < y.played.line →
      mark_of x.played ≡ Some m → mark_of y.played ≡ Some n → m.slot ≡ n.slot → left_number m ≤ number_of n.found
  no_less x y m n first second less is other same =
      let sizes = sizes_in t r in
      let u = title_of sizes m.slot in
      let a = found_by sizes r.cells ts x m m.step says.heap.told (viewed t r v ts says) first is refl in
      let b = found_by sizes r.cells ts y n n.step says.heap.told (viewed t r v ts says) second other refl in
      let c = turns.hands x y u first second less in
      let d : y.saw u ≡ y.saw (title_of sizes n.slot) = ap (λ s. y.saw (title_of sizes s)) same in
      let e = a.1 in
      let f = b.0 in
      omega arith

  phases : IsInPhases (played_in us)
  phases x y m n first second =
      let rises : Played → Played → Type 0 = λ a b. a.phase < b.phase → mark_of a ≡ Some m → mark_of b ≡ Some n → m.slot ≡ n.slot →
      left_number m ≤ number_of n.found in
      each_played (λ a. rises a y) ts
      (λ z there. each_played (λ b. rises (turned z).played b) ts (λ w there'. no_less z w m n there there') y second) x first

  pub read_off : IsReadOff (sizes_in t r) v us
  read_off = record {
    told = λ y among. each_turned (λ y. IsTold (sizes_in t r) y) ts says.heap.told y among;
    last = known v ts (λ x among. among) says.runner.has;
    ends = ends;
    phases = phases;
  }
