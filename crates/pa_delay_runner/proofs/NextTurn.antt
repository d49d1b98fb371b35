-- A delayed run by one turn more: what each thread does in it, and how the queues go then.
use Rattle.std.proofs.Common.{◌≡◌, ℕ, ◌+◌, ◌<◌, ◌≤◌, Bool, false, List, [], ◌∷◌, refl, sym, ◌∙◌, ap, subst, arith, inl, inr, eqb}
use Rattle.std.specs.Prelude.{if◌then◌else◌}
use Rattle.std.proofs.lemmas.Bool.{cases_eq, eq-eqb, ne_eqb}
use Rattle.pa_trace.specs.declared.script.Trace.{Trace}
use Rattle.pa_region.specs.declared.view.View.{View}
use Rattle.pa_logs.specs.Told.{ToldRecord}
use Rattle.pa_totals.specs.Settled.{none_owed}
use Rattle.pa_cells.specs.declared.handle.Handle.{Handle}
use Rattle.pa_op_specs.specs.Workers.{WorkerValue}
use Rattle.pa_heap.specs.Waiting.{waiting_in, HoldsQueue, LeadsDelayed}
use Rattle.pa_execution.specs.Turns.{InTurn, lines_in_turn}
use Rattle.pa_execution.specs.Courses.{Course, HasSeenAll, HasHeardAll, HearsIf}
use Rattle.pa_execution.specs.Growing.{HasEndedBy, HasGrown, HasSeenMore, PlaysTurn}
use Rattle.pa_execution.proofs.Growing.{turns_grow}
use Rattle.pa_delay_runner.specs.Course.{IsDelayedCourse}

-- Thread k's part in turn n: its worker got its stake back, or waits; it played these records; and its queue has `rest` at the end.
pub record HasPart (bytes : ℕ) (t : Trace) (n k : ℕ) (seat : View) (before : WorkerValue) (hs : List Handle) (heard : Bool)
    (start : WorkerValue) (xs : List ToldRecord) (after : WorkerValue) (rest : List Handle) : Type 0 where
  pub hears : HearsIf heard k seat before start
  pub plays : PlaysTurn InTurn t n k start xs after
  pub none : heard ≡ false → lines_in_turn InTurn t n k ≡ []
  pub numbers : waiting_in start.stock hs ≡ waiting_in before.stock hs
  pub holds : HoldsQueue rest after.stock
  pub stays : xs ≡ [] → rest ≡ hs
  pub leads : (x : ToldRecord) → xs ≡ x ∷ [] → LeadsDelayed bytes start.stock hs after.stock rest x

-- a thread that waits
pub part_waits : (bytes : ℕ) (t : Trace) (n k : ℕ) (seat : View) (w : WorkerValue) (hs : List Handle) → lines_in_turn InTurn t n k ≡ [] →
    w.owed ≡ none_owed → HoldsQueue hs w.stock → HasPart bytes t n k seat w hs false w [] w hs
part_waits bytes t n k seat w hs none settled holds = record {
  hears = turns_grow.waits k seat w;
  plays = (refl, sym none, settled);
  none = λ waits. none;
  numbers = refl;
  holds = holds;
  stays = λ nothing. refl;
  leads = λ x is. absurd cc;
}

-- what waits at the end of each turn, and at the end of turn n
abbrev pub with_row : ℕ → (ℕ → List Handle) → (ℕ → ℕ → List Handle) → ℕ → ℕ → List Handle
with_row n rest waiting m k = if eqb m n then rest k else waiting m k

module _ (n : ℕ) (rest : ℕ → List Handle) (waiting : ℕ → ℕ → List Handle) where
  pub row_now : (m k : ℕ) → m ≡ n → with_row n rest waiting m k ≡ rest k
  row_now m k e = rw (eq-eqb m n e) refl

  pub row_before : (m k : ℕ) → (m ≡ n → ⊥) → with_row n rest waiting m k ≡ waiting m k
  row_before m k ne = rw (ne_eqb m n ne) refl

-- what was so of a worker, its queue and its records is so of those that are the same
leads_same : (bytes : ℕ) (x : ToldRecord) (a b p q : WorkerValue) (hs gs rs ss : List Handle) → b ≡ a → gs ≡ hs → q ≡ p → ss ≡ rs →
    LeadsDelayed bytes a.stock hs p.stock rs x → LeadsDelayed bytes b.stock gs q.stock ss x
leads_same bytes x a b p q hs gs rs ss e f g h leads =
    subst (λ z. LeadsDelayed bytes z.stock gs q.stock ss x) (sym e)
    (subst (λ zs. LeadsDelayed bytes a.stock zs q.stock ss x) (sym f)
    (subst (λ z. LeadsDelayed bytes a.stock hs z.stock ss x) (sym g)
    (subst (λ zs. LeadsDelayed bytes a.stock hs p.stock zs x) (sym h) leads)))

holds_same : (a b : WorkerValue) (hs gs : List Handle) → b ≡ a → gs ≡ hs → HoldsQueue hs a.stock → HoldsQueue gs b.stock
holds_same a b hs gs e f holds = subst (λ z. HoldsQueue gs z.stock) (sym e) (subst (λ zs. HoldsQueue zs a.stock) (sym f) holds)

numbers_same : (a b p q : WorkerValue) (hs gs : List Handle) → b ≡ a → q ≡ p → gs ≡ hs → waiting_in a.stock hs ≡ waiting_in p.stock hs →
    waiting_in b.stock gs ≡ waiting_in q.stock gs
numbers_same a b p q hs gs e f g same =
    subst (λ z. waiting_in z.stock gs ≡ waiting_in q.stock gs) (sym e)
    (subst (λ z. waiting_in a.stock gs ≡ waiting_in z.stock gs) (sym f)
    (subst (λ zs. waiting_in a.stock zs ≡ waiting_in p.stock zs) (sym g) same))

module _ (bytes : ℕ) (t : Trace) (n : ℕ) (c d : Course) (waiting : ℕ → ℕ → List Handle) (ends : ℕ → WorkerValue) (seat next : View)
    (heard : ℕ → Bool) (starts : ℕ → WorkerValue) (plays : ℕ → List ToldRecord) (after : ℕ → WorkerValue) (rest : ℕ → List Handle)
    (low : 1 ≤ n) (ended : HasEndedBy InTurn t n c ends seat) (delayed : IsDelayedCourse bytes t n c waiting)
    (parts : (k : ℕ) → k < t.threads →
    HasPart bytes t (n + 1) k seat (ends k) (waiting n k) (heard k) (starts k) (plays k) (after k) (rest k))
    (grown : HasGrown InTurn t n c d starts plays after next) where
  abbrev rows : ℕ → ℕ → List Handle
  rows = with_row (n + 1) rest waiting

  same_row : (m k : ℕ) → m ≤ n → rows m k ≡ waiting m k
  same_row m k high = row_before (n + 1) rest waiting m k (λ e. omega arith)

  next_row : (m k : ℕ) → m ≡ n → rows (m + 1) k ≡ rest k
  next_row m k e = row_now (n + 1) rest waiting (m + 1) k (omega arith)

  -- what the last turn had, at its number or one that is the same
  ends_then : (m k : ℕ) → m ≡ n → k < t.threads → d.ends m k ≡ ends k
  ends_then m k e few = ap (λ j. d.ends j k) e ∙ (grown.agree.ends n k low (omega arith) ∙ ended.ends k few)

  row_then : (m k : ℕ) → m ≡ n → rows m k ≡ waiting n k
  row_then m k e = ap (λ j. rows j k) e ∙ same_row n k (omega arith)

  -- what the new turn has
  starts_now : (m k : ℕ) → m ≡ n → d.starts (m + 1) k ≡ starts k
  starts_now m k e = ap (λ j. d.starts (j + 1) k) e ∙ grown.began k

  plays_now : (m k : ℕ) → m ≡ n → d.plays (m + 1) k ≡ plays k
  plays_now m k e = ap (λ j. d.plays (j + 1) k) e ∙ grown.played k

  ends_now : (m k : ℕ) → m ≡ n → k < t.threads → d.ends (m + 1) k ≡ after k
  ends_now m k e few = ap (λ j. d.ends (j + 1) k) e ∙ grown.ended.ends k few

  all_hold : (m k : ℕ) → 1 ≤ m → m ≤ n + 1 → k < t.threads → HoldsQueue (rows m k) (d.ends m k).stock
  all_hold m k some high few = elim (cases_eq m (n + 1)) [
    | inl e ↦
        holds_same (after k) (d.ends m k) (rest k) (rows m k) (ap (λ j. d.ends j k) e ∙ grown.ended.ends k few)
        (row_now (n + 1) rest waiting m k e) (parts k few).holds
    | inr ne ↦
        holds_same (c.ends m k) (d.ends m k) (waiting m k) (rows m k) (grown.agree.ends m k some (omega arith))
        (same_row m k (omega arith)) (delayed.holds m k some (omega arith) few)
  ]

  all_hear : (m k : ℕ) → 1 ≤ m → m < n + 1 → k < t.threads →
      waiting_in (d.starts (m + 1) k).stock (rows m k) ≡ waiting_in (d.ends m k).stock (rows m k)
  all_hear m k some high few = elim (cases_eq m n) [
    | inl e ↦
        numbers_same (starts k) (d.starts (m + 1) k) (ends k) (d.ends m k) (waiting n k) (rows m k) (starts_now m k e) (ends_then m k e few)
        (row_then m k e) (parts k few).numbers
    | inr ne ↦
        numbers_same (c.starts (m + 1) k) (d.starts (m + 1) k) (c.ends m k) (d.ends m k) (waiting m k) (rows m k)
        (grown.agree.starts (m + 1) k (omega arith) (omega arith)) (grown.agree.ends m k some (omega arith)) (same_row m k (omega arith))
        (delayed.hears m k some (omega arith) few)
  ]

  all_stay : (m k : ℕ) → 1 ≤ m → m < n + 1 → k < t.threads → d.plays (m + 1) k ≡ [] → rows (m + 1) k ≡ rows m k
  all_stay m k some high few none = elim (cases_eq m n) [
    | inl e ↦ next_row m k e ∙ ((parts k few).stays (sym (plays_now m k e) ∙ none) ∙ sym (row_then m k e))
    | inr ne ↦
        same_row (m + 1) k (omega arith)
        ∙ (delayed.stays m k some (omega arith) few (sym (grown.agree.plays (m + 1) k (omega arith) (omega arith)) ∙ none)
        ∙ sym (same_row m k (omega arith)))
  ]

  all_lead : (m k : ℕ) (x : ToldRecord) → 1 ≤ m → m < n + 1 → k < t.threads → d.plays (m + 1) k ≡ x ∷ [] →
      LeadsDelayed bytes (d.starts (m + 1) k).stock (rows m k) (d.ends (m + 1) k).stock (rows (m + 1) k) x
  all_lead m k x some high few one = elim (cases_eq m n) [
    | inl e ↦
        leads_same bytes x (starts k) (d.starts (m + 1) k) (after k) (d.ends (m + 1) k) (waiting n k) (rows m k) (rest k) (rows (m + 1) k)
        (starts_now m k e) (row_then m k e) (ends_now m k e few) (next_row m k e)
        ((parts k few).leads x (sym (plays_now m k e) ∙ one))
    | inr ne ↦
        leads_same bytes x (c.starts (m + 1) k) (d.starts (m + 1) k) (c.ends (m + 1) k) (d.ends (m + 1) k) (waiting m k) (rows m k)
        (waiting (m + 1) k) (rows (m + 1) k) (grown.agree.starts (m + 1) k (omega arith) (omega arith)) (same_row m k (omega arith))
        (grown.agree.ends (m + 1) k (omega arith) (omega arith)) (same_row (m + 1) k (omega arith))
        (delayed.leads m k x some (omega arith) few (sym (grown.agree.plays (m + 1) k (omega arith) (omega arith)) ∙ one))
  ]

  still_delayed : IsDelayedCourse bytes t (n + 1) d rows
  still_delayed = record {
    first = λ k few. same_row 1 k low ∙ delayed.first k few;
    holds = all_hold;
    hears = all_hear;
    stays = all_stay;
    leads = all_lead;
  }

-- one turn more
pub turn_grows : (bytes : ℕ) (t : Trace) (n : ℕ) (c : Course) (waiting : ℕ → ℕ → List Handle) (ends : ℕ → WorkerValue) (seat next : View)
    (heard : ℕ → Bool) (starts : ℕ → WorkerValue) (plays : ℕ → List ToldRecord) (after : ℕ → WorkerValue) (rest : ℕ → List Handle) → 1 ≤ n →
    HasEndedBy InTurn t n c ends seat → IsDelayedCourse bytes t n c waiting →
    ((k : ℕ) → k < t.threads →
    HasPart bytes t (n + 1) k seat (ends k) (waiting n k) (heard k) (starts k) (plays k) (after k) (rest k)) →
    HasHeardAll t.threads after next → HasSeenAll seat next →
    (d : Course) × HasGrown InTurn t n c d starts plays after next × IsDelayedCourse bytes t (n + 1) d (with_row (n + 1) rest waiting)
turn_grows bytes t n c waiting ends seat next heard starts plays after rest low ended delayed parts told more =
    let begun = turns_grow.goes_on InTurn t n c heard ends starts seat low ended (λ k few. (parts k few).hears) in
    let (d, grown) =
    turns_grow.ends InTurn t n c heard starts plays after next begun (λ k few. (parts k few).plays)
    (λ k few waits. (parts k few).none waits) told
    (λ some. subst (λ v. HasSeenAll v next) (sym ended.seat) more) in (
      d,
      grown,
      still_delayed bytes t n c d waiting ends seat next heard starts plays after rest low ended delayed parts grown,
    )

-- the queues went so too if the main seat has seen more in the last turn
pub delayed_looks : (bytes : ℕ) (t : Trace) (turns n : ℕ) (c d : Course) (waiting : ℕ → ℕ → List Handle) (ends : ℕ → WorkerValue)
    (seat : View) → HasSeenMore InTurn t n c d ends seat → IsDelayedCourse bytes t turns c waiting → IsDelayedCourse bytes t turns d waiting
delayed_looks bytes t turns n c d waiting ends seat more old = record {
  first = old.first;
  holds = λ m k low high few.
      holds_same (c.ends m k) (d.ends m k) (waiting m k) (waiting m k) (more.same_ends m k) refl (old.holds m k low high few);
  hears = λ m k low high few.
      numbers_same (c.starts (m + 1) k) (d.starts (m + 1) k) (c.ends m k) (d.ends m k) (waiting m k) (waiting m k) (more.starts (m + 1) k)
      (more.same_ends m k) refl (old.hears m k low high few);
  stays = λ m k low high few none. old.stays m k low high few (sym (more.plays (m + 1) k) ∙ none);
  leads = λ m k x low high few one.
      leads_same bytes x (c.starts (m + 1) k) (d.starts (m + 1) k) (c.ends (m + 1) k) (d.ends (m + 1) k) (waiting m k) (waiting m k)
      (waiting (m + 1) k) (waiting (m + 1) k) (more.starts (m + 1) k) refl (more.same_ends (m + 1) k) refl
      (old.leads m k x low high few (sym (more.plays (m + 1) k) ∙ one));
}
