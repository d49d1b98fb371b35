-- What the workers counted and have cached, added up worker by worker.
use Rattle.std.proofs.Common.{◌≡◌, ℕ, zero, suc, ◌+◌, ◌*◌, ◌^◌, ◌<◌, ◌≤◌, List, length, get_or, sym, ◌∙◌, ap, subst, arith}
use Rattle.std.proofs.lemmas.List.{get_or_default}
use Rattle.std.proofs.lemmas.Nat.{mul-le}
use Rattle.pa_lists.proofs.Elements.{length_map}
use Rattle.pa_buckets.specs.Table.{slot_of}
use Rattle.pa_buckets.proofs.Facts.{IsRow-of}
use Rattle.pa_record.specs.declared.numbered.Numbered.{Numbered}
use Rattle.pa_record.specs.declared.report.Tally.{Tally}
use Rattle.pa_rules.specs.Caches.{listed_slots}
use Rattle.pa_rules.specs.Report.{listed_bytes}
use Rattle.pa_root.specs.Handing.{at_number_seen}
use Rattle.pa_op_specs.specs.declared.counts.Count.{Count}
use Rattle.pa_op_specs.specs.Counts.{AreOfSteps, counted_in, no_count}
use Rattle.pa_op_specs.specs.Stocks.{StockValue, IsStock, listed_in, titles_in}
use Rattle.pa_op_specs.specs.Workers.{WorkerValue, IsWorker}
use Rattle.pa_execution.specs.Lines.{sum_over, IsCachedBy}
use Rattle.pa_runner.specs.Phases.{no_worker, worker_in}
use Rattle.pa_runner.specs.Reporting.{IsCountedBy}

pub sum_more : (f : ℕ → ℕ) (i : ℕ) → sum_over f (i + 1) ≡ f i + sum_over f i
sum_more f i = let e : i + 1 ≡ suc i = omega arith in ap (sum_over f) e

-- ---- the next worker

pub item_in : (ws : List WorkerValue) (i : ℕ) (d w : WorkerValue) → w ≡ get_or ws i d → i < length ws → w ≡ worker_in ws i
item_in ws i d w is low = is ∙ get_or_default ws i d no_worker low

pub worker_at : (ws : List WorkerValue) (i : ℕ) (d w : WorkerValue) → w ≡ get_or ws i d → i < length ws →
    IsWorker w → IsWorker (worker_in ws i)
worker_at ws i d w is low kept = subst IsWorker (item_in ws i d w is low) kept

pub count_at : (ws : List WorkerValue) (i p : ℕ) (d w : WorkerValue) (counts : List Count) (e : Count) → w ≡ get_or ws i d → i < length ws →
    IsWorker w → counts ≡ w.counts → p < 4 →
    get_or counts p e ≡ counted_in (worker_in ws i).counts p
count_at ws i p d w counts e is low kept same small =
    let four = kept.counts.count in
    let long = ap (λ (cs : List Count). length cs) same in
    get_or_default counts p e no_count (omega arith)
    ∙ (ap (λ (cs : List Count). counted_in cs p) same ∙ ap (λ (v : WorkerValue). counted_in v.counts p) (item_in ws i d w is low))

-- ---- counts

-- The first i workers counted this many slots. They are few, since each counted at most one step for each of its records.
pub record IsAdding (part : Count → ℕ) (p i : ℕ) (ws : List WorkerValue) (slots : ℕ) : Type 0 where
  pub by : IsCountedBy part p i (worker_in ws) slots
  pub few : slots ≤ 65536 * i

pub record AreAdding (p i : ℕ) (ws : List WorkerValue) (n : Count) : Type 0 where
  pub issued : IsAdding (λ (c : Count). c.issued) p i ws n.issued
  pub freed : IsAdding (λ (c : Count). c.freed) p i ws n.freed
  pub entered : IsAdding (λ (c : Count). c.entered) p i ws n.entered
  pub left : IsAdding (λ (c : Count). c.left) p i ws n.left

adding_more : (part : Count → ℕ) (p i steps : ℕ) (ws : List WorkerValue) (slots more : ℕ) →
    more ≡ part (counted_in (worker_in ws i).counts p) → part (counted_in (worker_in ws i).counts p) ≤ steps →
    steps ≤ 65536 → IsAdding part p i ws slots → IsAdding part p (i + 1) ws (slots + more)
adding_more part p i steps ws slots more is of few adding =
    let a = sum_more (λ k. part (counted_in (worker_in ws k).counts p)) i in
    let b = adding.by in
    let u = adding.few in
    record { by = omega arith; few = omega arith }

module _ (p i : ℕ) (ws : List WorkerValue) (n more : Count) (is : more ≡ counted_in (worker_in ws i).counts p)
    (of : AreOfSteps (length (worker_in ws i).records) (worker_in ws i).counts)
    (few : length (worker_in ws i).records ≤ 65536) (adding : AreAdding p i ws n) where
  pub add_more : (after : Count) → after.issued ≡ n.issued + more.issued → after.freed ≡ n.freed + more.freed →
      after.entered ≡ n.entered + more.entered → after.left ≡ n.left + more.left →
      AreAdding p (i + 1) ws after
  add_more after a b c d =
      let steps = length (worker_in ws i).records in
      record {
        issued = subst (IsAdding (λ (x : Count). x.issued) p (i + 1) ws) (sym a)
            (adding_more (λ (x : Count). x.issued) p i steps ws n.issued more.issued (ap (λ (x : Count). x.issued) is)
            (of.issued p) few adding.issued);
        freed = subst (IsAdding (λ (x : Count). x.freed) p (i + 1) ws) (sym b)
            (adding_more (λ (x : Count). x.freed) p i steps ws n.freed more.freed (ap (λ (x : Count). x.freed) is)
            (of.freed p) few adding.freed);
        entered = subst (IsAdding (λ (x : Count). x.entered) p (i + 1) ws) (sym c)
            (adding_more (λ (x : Count). x.entered) p i steps ws n.entered more.entered (ap (λ (x : Count). x.entered) is)
            (of.entered p) few adding.entered);
        left = subst (IsAdding (λ (x : Count). x.left) p (i + 1) ws) (sym d)
            (adding_more (λ (x : Count). x.left) p i steps ws n.left more.left (ap (λ (x : Count). x.left) is) (of.left p) few adding.left);
      }

-- ---- lists

-- two tallies together
abbrev pub together : Tally → Tally → Tally
together a b = record { slots = a.slots + b.slots; bytes = a.bytes + b.bytes }

-- The tally is what the lists of the first i workers have. It is small, since no list is long.
pub record IsCaching (p i : ℕ) (ws : List WorkerValue) (t : Tally) : Type 0 where
  pub by : IsCachedBy p i (worker_in ws) t
  pub few : t.slots ≤ 10880 * i
  pub small : t.bytes ≤ 10695475200 * i

short_list : (s : StockValue) (p class : ℕ) → IsStock s → class < 170 → length (listed_in s p class) ≤ 64
short_list s p class stock low =
    let a = stock.lists.few p class in
    let b = (IsRow-of class low).few_kept in
    let c = length_map (at_number_seen s.view) (titles_in s.caches p class) in
    omega arith

listed_few : (lists : ℕ → List Numbered) (class n : ℕ) → class + n ≤ 170 → ((k : ℕ) → k < 170 → length (lists k) ≤ 64) →
    (listed_slots lists class n ≤ 64 * n) × (listed_bytes (λ k. length (lists k)) class n ≤ 62914560 * n)
unfolding listed_slots listed_bytes
listed_few lists class zero low short = (omega arith, omega arith)
listed_few lists class (suc n) low short =
    let again = listed_few lists (class + 1) n (omega arith) short in
    let one = short class (omega arith) in
    let weight = mul-le (slot_of class) (length (lists class)) 983040 64 (IsRow-of class (omega arith)).greatest_slot one in
    let a = again.0 in
    let b = again.1 in
    (omega arith, omega arith)

module _ (p i : ℕ) (ws : List WorkerValue) (t more : Tally) (stock : IsStock (worker_in ws i).stock)
    (slots : more.slots ≡ listed_slots (listed_in (worker_in ws i).stock p) 0 170)
    (bytes : more.bytes ≡ listed_bytes (λ class. length (listed_in (worker_in ws i).stock p class)) 0 170)
    (caching : IsCaching p i ws t) where
  pub cache_fits : i < 16 → (t.slots + more.slots < 2 ^ 64) × (t.bytes + more.bytes < 2 ^ 64)
  cache_fits low =
      let l = listed_few (listed_in (worker_in ws i).stock p) 0 170 (omega arith)
      (λ k small. short_list (worker_in ws i).stock p k stock small) in
      let a = l.0 in
      let b = l.1 in
      let u = caching.few in
      let v = caching.small in
      (omega arith, omega arith)

  pub cache_more : IsCaching p (i + 1) ws (together t more)
  cache_more =
      let l = listed_few (listed_in (worker_in ws i).stock p) 0 170 (omega arith)
      (λ k small. short_list (worker_in ws i).stock p k stock small) in
      let a = sum_more (λ k. listed_slots (listed_in (worker_in ws k).stock p) 0 170) i in
      let b = sum_more (λ k. listed_bytes (λ class. length (listed_in (worker_in ws k).stock p class)) 0 170) i in
      let c = l.0 in
      let d = l.1 in
      let g = caching.by.slots in
      let h = caching.by.bytes in
      let u = caching.few in
      let v = caching.small in
      record { by = record { slots = omega arith; bytes = omega arith }; few = omega arith; small = omega arith }
